use Rattle.std.proofs.Common.{◌≡◌, None, refl, sym, subst}
use Rattle.multiplier.specs.State.{PmState, IsSound, opening}
use Rattle.multiplier.proofs.Sound.{opens_sound}
use Rattle.multiplier.proofs.multiplier.Multiplier.new.Goals as goal

pub invariant_of-result : goal.invariant_of-result
invariant_of-result c =
    let is : PmState = record { registers = c.new.result; resetting = c.new-2.result; ports = c.empty_ports.result; answer = None; served = 15; number = 0; dropped = 0; given = None } in
    let e : is ≡ opening c.args.ports = rw (c.new.ensures, c.new-2.ensures, c.empty_ports.ensures) refl in
    subst IsSound (sym e) (opens_sound c.args.ports c.requires.at_most)
