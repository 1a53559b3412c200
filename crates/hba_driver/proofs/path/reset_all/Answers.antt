use Rattle.std.proofs.{Common.{◌∙◌, sym, arith}, lemmas.List.{get_or_default, get_or-map, length-map, same_lists}}
use Rattle.hba_driver.specs.{declared.plan.Device.TheVariants.Absent, Paths.reset_if_there}
use Rattle.hba_driver.proofs.path.reset_all.Goals as goal

pub returns : goal.returns
returns c =
    let at_end = c.loop-device.invariant in
    same_lists c.loop-device.device-items _ (at_end.long ∙ sym (length-map c.args.devices reset_if_there)) (λ k d below.
    get_or_default c.loop-device.device-items k d Absent below ∙ at_end.reset k (omega (arith, below, c.loop-device-test.array_long, c.loop-device-test.false))
    ∙ sym (get_or-map reset_if_there c.args.devices k Absent d (omega (arith, below, at_end.long))))
