use Rattle.std.proofs.Common.{ap, ◌∙◌}
use Rattle.std.specs.Prelude.{Ok}
use Rattle.uses_world_rests.proofs.Round.{asides_go_on, disk_has_done, disk_has_signed, disk_is_left, fits, moves_none, opens_all, plan_matches, watches_alone, world_has_ended}
use Rattle.uses_world_rests.proofs.rested.Goals as goal

pub returns-clause-rests : goal.returns-clause-rests
returns-clause-rests g c =
    moves_none _ c.args.units.items c.in-Ok.world _ _ _ _ c.in-Ok.ensures.ok (fits c.new.result _ c.in-Ok.world _ c.new.ensures.bad_config c.in-Ok.is) c.in-Ok-run.ensures.run
    (c.rests.ensures.rests (c.in-Ok-true.is ∙ ap Ok c.in-Ok-true.field-0-test))

pub returns-clause-watches : goal.returns-clause-watches
returns-clause-watches g c =
    watches_alone _ c.args.units.items c.in-Ok.world _ _ _ _ c.in-Ok.ensures.ok (fits c.new.result _ c.in-Ok.world _ c.new.ensures.bad_config c.in-Ok.is) c.in-Ok-run.ensures.run
    (c.rests.ensures.rests (c.in-Ok-true.is ∙ ap Ok c.in-Ok-true.field-0-test)) c.rested_drivers_watch.ensures

pub returns-clause-opens : goal.returns-clause-opens
returns-clause-opens g c =
    opens_all _ c.args.units.items c.in-Ok.world _ _ _ _ c.in-Ok.ensures.ok (fits c.new.result _ c.in-Ok.world _ c.new.ensures.bad_config c.in-Ok.is) c.in-Ok-run.ensures.run
    (c.rests.ensures.rests (c.in-Ok-true.is ∙ ap Ok c.in-Ok-true.field-0-test)) c.rested_ports_are_open.ensures

pub returns-clause-asides : goal.returns-clause-asides
returns-clause-asides g c =
    asides_go_on _ c.args.units.items c.in-Ok.world _ _ _ _ c.in-Ok.ensures.ok (fits c.new.result _ c.in-Ok.world _ c.new.ensures.bad_config c.in-Ok.is) c.in-Ok-run.ensures.run
    (c.rests.ensures.rests (c.in-Ok-true.is ∙ ap Ok c.in-Ok-true.field-0-test)) c.asides_recover.ensures

pub returns-clause-disk : goal.returns-clause-disk
returns-clause-disk g c =
    disk_has_done _ c.args.units.items c.in-Ok.world _ _ _ _ c.in-Ok.ensures.ok (fits c.new.result _ c.in-Ok.world _ c.new.ensures.bad_config c.in-Ok.is) c.in-Ok-run.ensures.run
    (c.rests.ensures.rests (c.in-Ok-true.is ∙ ap Ok c.in-Ok-true.field-0-test)) c.rested_disks_have_done.ensures

pub returns-clause-left : goal.returns-clause-left
returns-clause-left g c =
    disk_is_left _ c.args.units.items c.in-Ok.world _ _ _ _ c.in-Ok.ensures.ok (fits c.new.result _ c.in-Ok.world _ c.new.ensures.bad_config c.in-Ok.is) c.in-Ok-run.ensures.run
    (c.rests.ensures.rests (c.in-Ok-true.is ∙ ap Ok c.in-Ok-true.field-0-test)) c.rested_disks_are_left.ensures

pub returns-clause-matches : goal.returns-clause-matches
returns-clause-matches g c =
    plan_matches _ c.args.units.items c.in-Ok.world _ _ _ _ c.in-Ok.ensures.ok (fits c.new.result _ c.in-Ok.world _ c.new.ensures.bad_config c.in-Ok.is) c.in-Ok-run.ensures.run
    (c.rests.ensures.rests (c.in-Ok-true.is ∙ ap Ok c.in-Ok-true.field-0-test)) c.rested_plans_match.ensures

pub returns-clause-ended : goal.returns-clause-ended
returns-clause-ended g c =
    world_has_ended _ c.args.units.items c.in-Ok.world _ _ _ _ c.in-Ok.ensures.ok (fits c.new.result _ c.in-Ok.world _ c.new.ensures.bad_config c.in-Ok.is) c.in-Ok-run.ensures.run
    (c.rests.ensures.rests (c.in-Ok-true.is ∙ ap Ok c.in-Ok-true.field-0-test)) c.rested_worlds_have_ended.ensures

pub returns-clause-signs : goal.returns-clause-signs
returns-clause-signs g c =
    disk_has_signed _ c.args.units.items c.in-Ok.world _ _ _ _ c.in-Ok.ensures.ok (fits c.new.result _ c.in-Ok.world _ c.new.ensures.bad_config c.in-Ok.is) c.in-Ok-run.ensures.run
    (c.rests.ensures.rests (c.in-Ok-true.is ∙ ap Ok c.in-Ok-true.field-0-test)) c.rested_disks_have_signed.ensures
