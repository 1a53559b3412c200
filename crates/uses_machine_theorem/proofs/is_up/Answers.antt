use Rattle.std.proofs.Common.{◌≡◌, ℕ, ◌/◌, ◌^◌, ap, ◌∙◌, bit_and}
use Rattle.std.specs.Prelude.{◌==◌}
use Rattle.uses_machine_theorem.proofs.StandLemmas.{is_read}
use Rattle.uses_machine_theorem.proofs.is_up.Goals as goal

pub returns : goal.returns
returns c = ap (λ (n : ℕ). bit_and (n / 2 ^ c.args.slot) 1 == 1) c.read.ensures ∙ is_read c.args.machine.now c.args.slot c.requires
