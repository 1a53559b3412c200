-- Each byte of a queued read that the guest sees completed is the one of its number that the caller gave, for the command that the guest had supplied.
use Rattle.std.proofs.Common.{◌≡◌, ℕ, ◌+◌, ◌-◌, ◌<◌, ◌≤◌, ◌&&◌, Bool, true, false, List, [], ◌∷◌, ◌++◌, get_or, length, refl, sym, ap, ◌∙◌, arith}
use Rattle.std.proofs.{Common.{Option, Some, None}, lemmas.{Bool.{and_parts, eqb-true}, List.{get_or-append_right, get_or_append_left}}}
use Rattle.std.proofs.lemmas.{List.{length-append}, Option.{slice_get-get_or}}
use Rattle.std.specs.Prelude.{◌==◌, slice_get}
use Rattle.slots.specs.Slots.{Issue, holds, is_queued_issue}
use Rattle.block_command.specs.Laws.{Ledger}
use Rattle.sata_disk_books.specs.Books.{AreNext}
use Rattle.controller_laws.specs.Events as call
use Rattle.controller_laws.specs.Events.{Event}
use Rattle.machine_theorem.specs.{Commands.AreNotIssued, Orders.is_sent_of, OwnSlots.NoneLost, Tags.once_if}

-- ---- lists

-- those of its calls in front
pub none_first : (dev : ℕ) (xs ys : List Event) → NoneLost dev (xs ++ ys) → NoneLost dev xs
none_first dev [] ys none = tt
none_first dev (call.Left frame why ∷ xs) ys none = (none.0, none_first dev xs ys none.1)
none_first dev (call.Took frame took ∷ xs) ys none = none_first dev xs ys none
none_first dev (call.Wrote offset value written ∷ xs) ys none = none_first dev xs ys none
none_first dev (call.WroteWide offset width value written ∷ xs) ys none = none_first dev xs ys none
none_first dev (call.Supplied slot number bytes supply ∷ xs) ys none = none_first dev xs ys none
none_first dev (call.Missed slot number supply ∷ xs) ys none = none_first dev xs ys none
none_first dev (call.Turned next ∷ xs) ys none = none_first dev xs ys none
none_first dev (call.Said write ∷ xs) ys none = none_first dev xs ys none
none_first dev (call.Gathered d number frame fed ∷ xs) ys none = none_first dev xs ys none
none_first dev (call.NotThere d number fed ∷ xs) ys none = none_first dev xs ys none

-- and behind
pub none_later : (s : ℕ) (xs ys : List Event) → AreNotIssued s (xs ++ ys) → AreNotIssued s ys
none_later s [] ys none = none
none_later s (x ∷ xs) ys none = none_later s xs ys none.1

-- the byte of a part is the byte of its number
pub byte_of : (l : Ledger) (part : List ℕ) (offset k : ℕ) → AreNext l part → offset ≡ length l.sent → offset ≤ k → k < offset + length part
    → slice_get part (k - offset) ≡ slice_get l.given k
byte_of l part offset k next number from to =
    let long = length-append l.sent part in
    let all = length-append (l.sent ++ part) next.rest in
    let given = ap (λ (x : List ℕ). length x) next.given in
    slice_get-get_or part (k - offset) 0 (omega (arith, from, to))
    ∙ ap Some (sym (ap (λ (x : List ℕ). get_or x k 0) next.given
    ∙ get_or_append_left (l.sent ++ part) next.rest 0 k (omega (arith, long, number, to))
    ∙ get_or-append_right l.sent part offset k 0 (sym number) from))
    ∙ sym (slice_get-get_or l.given k 0 (omega (arith, long, all, given, number, to)))

-- ---- where no command that was sent stands

-- for one of these devices, none for this one
pub none_of : (own : ℕ → Bool) (dev : ℕ) (o : Option Issue) → own dev ≡ true → once_if (holds (is_sent_of own) o) ≡ 0
    → holds (is_sent_of (λ d. d == dev)) o ≡ false
none_of own dev None mine none = refl
none_of own dev (Some i) mine none = by (is_sent_of (λ d. d == dev) i) refl
  where
    three : (a b c : Bool) → a ≡ true → b ≡ true → c ≡ true → ((a && b) && c) ≡ true
    three true true c e f g = g
    three true false c e f g = absurd (cc)
    three false b c e f g = absurd (cc)

    by : (b : Bool) → is_sent_of (λ d. d == dev) i ≡ b → b ≡ false
    by false e = refl
    by true e =
        let both = and_parts (is_queued_issue i && (i.dev == dev)) i.sent e in
        let queued = and_parts (is_queued_issue i) (i.dev == dev) both.0 in
        let here : own i.dev ≡ true = ap own (eqb-true i.dev dev queued.1) ∙ mine in
        let one : once_if (is_sent_of own i) ≡ 1 = ap once_if (three (is_queued_issue i) (own i.dev) i.sent queued.0 here both.1) in
        absurd (omega (arith, one, none))
