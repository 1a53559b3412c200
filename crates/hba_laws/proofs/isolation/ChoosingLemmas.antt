-- For `core_isolated`. What may go to a device is what its view says.
use Rattle.std.proofs.Common.{◌≡◌, ℕ, ◌<◌, Bool, true, false, refl, ◌∙◌, ap, Some}
use Rattle.std.specs.Prelude.{◌&&◌, not}
use Rattle.slots.specs.{Commands.{any_sent_beside, may_go}, Slots.{Issue, holds, issue_at}}
use Rattle.hba_fbs.specs.{Choosing.{is_free, may_feed, may_order}, Sending.{faulty_devices, is_due, ready_devices}, Taking.is_running, Views.Port}
use Rattle.hba_fbs.specs.Views.{view_of}
use Rattle.hba_laws.specs.{Cores.{CoreGoesByView, GoesByView}, Isolation.may_leave}
use Rattle.hba_laws.proofs.isolation.OutgoingLemmas.{alike}

waits_for_none : (b switching beside : Bool) → switching ≡ true → (b && not (not switching && beside)) ≡ b
waits_for_none true true beside is = refl
waits_for_none false true beside is = refl
waits_for_none b false beside is = cc

pub core_goes_by_view : CoreGoesByView
core_goes_by_view n lt port runs switches = record {
  feeds = ap (λ (b : Bool). b && is_due port.slots port.errors n) runs;
  orders = λ slot issue at own.
      ap (λ (b : Bool). b && holds (is_free port) (issue_at port.slots slot)) runs
      ∙ ap (holds (is_free port)) at
      ∙ waits_for_none (may_go (ready_devices port) (faulty_devices port) port.slots issue) port.registers.switching (any_sent_beside port.slots issue.dev) switches
      ∙ alike port n issue lt own;
}
