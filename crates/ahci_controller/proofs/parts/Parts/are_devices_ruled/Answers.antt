use Rattle.std.proofs.Common.{arith, sym}
use Rattle.ahci_controller.specs.Tested.{is_device_ruled}
use Rattle.ahci_controller.proofs.rules.TestedLemmas.{below_from, below_not}
use Rattle.ahci_controller.proofs.parts.Parts.are_devices_ruled.Goals as goal

pub returns-then-not-is_device_ruled : goal.returns-then-not-is_device_ruled
returns-then-not-is_device_ruled c =
    sym (below_not (is_device_ruled c.args.self.now) 16 c.loop-dev.dev c.loop-dev-test.true (sym c.if-not-is_device_ruled.ensures))

pub returns : goal.returns
returns c =
    let done = c.loop-dev-test.false in
    sym (below_from (is_device_ruled c.args.self.now) 16 (λ k low. c.loop-dev.invariant k (omega (arith, low, done))))
