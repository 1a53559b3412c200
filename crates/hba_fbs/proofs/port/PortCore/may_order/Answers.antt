use Rattle.std.proofs.Common.{◌≡◌, false, ◌∙◌}
use Rattle.slots.specs.Slots.{has_bit}
use Rattle.hba_fbs.proofs.ChooseLemmas.{no_order}
use Rattle.hba_fbs.proofs.port.PortCore.may_order.Goals as goal

pub returns-else-has_bit : goal.returns-else-has_bit
returns-else-has_bit c =
    let off : has_bit c.args.unsent c.args.slot ≡ false = cc in
    c.if-has_bit.false ∙ no_order c.args.self.now c.args.unsent c.args.slot c.requires.slot c.requires.unsent off
