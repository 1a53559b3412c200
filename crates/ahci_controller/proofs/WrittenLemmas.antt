-- Where nothing is to be written to the guest, nothing is next.
use Rattle.std.proofs.{Common.{◌≡◌, ℕ, false, Option, Some, None, arith, ap, refl, sym, ◌∙◌}, lemmas.Bool.{false≢true}}
use Rattle.std.specs.Prelude.{◌==◌, ◌||◌, is_some, not}
use Rattle.guest_fetch.specs.declared.moves.Move.{Move}
use Rattle.slots.specs.Slots.{match_some}
use Rattle.ahci_controller.specs.{Next.{count_next, counted_slot, next_write, payload_step, rest, step_of}, States.ControllerState, Taking.is_any}
use Rattle.ahci_controller.specs.declared.{next.Step.Step, wants.Carried.Carried}
use Rattle.ahci_controller.specs.declared.next.Next.TheVariants as next
use Rattle.ahci_controller.proofs.CircleLemmas.{none_behind}

nothing_of : (c : ControllerState) → c.writes.payload ≡ None → c.writes.posted ≡ None → c.writes.counted ≡ 0 → next_write c ≡ None
nothing_of c p m n =
    let step : payload_step c ≡ None = ap (λ (o : Option Carried). match_some o None (step_of c)) p in
    let slot : counted_slot c.writes ≡ None = none_behind 32 c.writes.counted 31 n in
    let none : rest c ≡ None = ap (λ (o : Option Move). match_some o (match_some (counted_slot c.writes) None (count_next c)) (λ m. Some (next.Posted m))) m ∙ ap (λ (o : Option ℕ). match_some o None (count_next c)) slot in
    ap (λ (o : Option Step). match_some o (rest c) (λ s. Some (next.Payload s.write))) step ∙ none

zero_if : (n : ℕ) → not (n == 0) ≡ false → n ≡ 0
zero_if n none = grind (arith, none)

nothing_for : (c : ControllerState) (p : Option Carried) (m : Option Move) (n : ℕ) → c.writes.payload ≡ p → c.writes.posted ≡ m → c.writes.counted ≡ n → (is_some p || is_some m || not (n == 0)) ≡ false → next_write c ≡ None
nothing_for c None None n p m n_is none = nothing_of c p m (n_is ∙ zero_if n none)
nothing_for c None (Some _) n p m n_is none = absurd (false≢true (sym none))
nothing_for c (Some _) m n p m_is n_is none = absurd (false≢true (sym none))

pub nothing_next : (c : ControllerState) → is_any c.writes ≡ false → next_write c ≡ None
nothing_next c none = nothing_for c c.writes.payload c.writes.posted c.writes.counted refl refl refl none
