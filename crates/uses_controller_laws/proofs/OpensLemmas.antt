-- A controller that opens.
use Rattle.std.proofs.{Common.{◌≡◌, ℕ, ◌+◌, ◌*◌, ◌^◌, ◌&&◌, Bool, false, [], length, refl, ap, ◌∙◌, Option, None}, lemmas.List.{length-replicate}}
use Rattle.std.proofs.lemmas.Nat.Bits.{bit_at-zero}
use Rattle.std.specs.{Prelude.{◌==◌}, Int.from_bool}
use Rattle.slots.specs.Slots.{has_bit}
use Rattle.guest_fetch.specs.Fetch.{Fetching}
use Rattle.ahci_controller.specs.{Opening.IsOpening, Reading.shown, States.ControllerState, declared.{latch.Latch.Latch, wants.Wants.Wants}}
use Rattle.controller_laws.specs.{Ends.OpensUntold, Events.IsController, Interrupts.{OpensLatched, line_shown}, Sources.StartsUnread}
use Rattle.uses_controller_laws.specs.Ended.{OpensSo}

no_fetch : Option Fetching
no_fetch = None

line_down : (c : ControllerState) → IsOpening c → line_shown c ≡ false
unfolding shown
line_down c h = ap (λ (l : Latch). has_bit (from_bool l.pending) 0 && has_bit (2 ^ 31 + 2 * from_bool l.lines.enabled) 1) h.latch

pub opens_so : OpensUntold → StartsUnread → OpensLatched → (c : ControllerState) → IsOpening c → IsController c → OpensSo c
opens_so untold unread latched c h k = record {
  told = untold c h;
  sources = λ s below. unread c k (ap length h.fetches ∙ length-replicate 32 no_fetch) s below (ap (λ (w : Wants). has_bit w.pending s) h.wants ∙ ap (λ (n : ℕ). n == 1) (bit_at-zero s));
  latched = latched c h;
  line = line_down c h;
}
