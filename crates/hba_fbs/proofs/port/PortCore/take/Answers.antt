use Rattle.std.proofs.Common.{◌≡◌, ℕ, true, false, subst, Some}
use Rattle.std.specs.Prelude.{IfSome}
use Rattle.fis_view.specs.Seen.{seen}
use Rattle.slots.specs.{Data.receiving_slot, Slots.context_of}
use Rattle.hba_fbs.specs.{Deciding.{Decides, Passes}, Taking.{admitted, ignores}}
use Rattle.hba_fbs.proofs.port.PortCore.take.Goals as goal

pub returns-clause-ignored : goal.returns-clause-ignored
returns-clause-ignored c =
    subst (λ (dev : ℕ). ignores dev c.args.self.now c.args.frame.now.bytes ≡ true → Passes dev c.args.self.now c.take_from.result c.take_from.new.self) c.pm_port-dev.ensures.low_bits c.take_from.ensures.ignored

pub returns-clause-heard : goal.returns-clause-heard
returns-clause-heard c =
    subst
    (λ (dev : ℕ). ignores dev c.args.self.now c.args.frame.now.bytes ≡ false
    → Decides c.args.self.now dev c.args.room (admitted dev (seen c.args.frame.now.bytes)) c.take_from.result c.take_from.new.self) c.pm_port-dev.ensures.low_bits c.take_from.ensures.heard

pub returns-clause-slot : goal.returns-clause-slot
returns-clause-slot c =
    subst (λ (dev : ℕ). IfSome c.take_from.result.wrote (λ wrote. receiving_slot (context_of c.args.self.now.slots dev) ≡ Some wrote.slot)) c.pm_port-dev.ensures.low_bits c.take_from.ensures.slot
