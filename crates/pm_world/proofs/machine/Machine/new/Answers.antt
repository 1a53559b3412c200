use Rattle.std.proofs.{Common.{◌≡◌, true, length, map, ap, ◌∙◌, rules}, lemmas.List.{length-map}}
use Rattle.pm_world.specs.Places.{is_config, opening}
use Rattle.pm_world.proofs.steps.{Openings.{nothing_falls, nothing_stands}, Orderly.{as_many, opening_orderly}}
use Rattle.pm_world.proofs.machine.Machine.new.Goals as goal

pub returns-clause-nothing_stands : goal.returns-clause-nothing_stands
returns-clause-nothing_stands g c = λ n k. rw (c.in_ok-seats.ensures, c.in_ok-upward.ensures, c.new-multiplier.ensures) (nothing_stands c.args.mode c.args.config (map g.D.PortDevice.seen c.args.units.items) n k)

pub returns-clause-nothing_falls : goal.returns-clause-nothing_falls
returns-clause-nothing_falls g c = λ n. rw (c.in_ok-seats.ensures, c.new-multiplier.ensures) (nothing_falls c.args.mode c.args.config (map g.D.PortDevice.seen c.args.units.items) n)

pub invariant_of-result : goal.invariant_of-result
invariant_of-result g c =
    let units = map g.D.PortDevice.seen c.args.units.items in
    let same : length units ≡ length c.args.units.items = length-map c.args.units.items g.D.PortDevice.seen in
    let fits : is_config c.args.config (length c.args.units.items) ≡ true = search rules in
    let right : is_config c.args.config (length units) ≡ true = ap (is_config c.args.config) same ∙ fits in
    rw (c.in_ok-seats.ensures, c.in_ok-host.ensures, c.in_ok-upward.ensures, c.in_ok-downward.ensures, c.new-multiplier.ensures)
    (opening_orderly c.args.mode c.args.config units right, length-map units (opening c.args.config.capacity) ∙ as_many c.args.config (length units) right)
