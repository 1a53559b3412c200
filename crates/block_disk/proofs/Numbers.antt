-- Late answers count for nothing, and each number is given once.
use Rattle.std.proofs.{Common.{◌≡◌, ℕ, ◌<◌, true, false, List, [], ◌∷◌, set, Some, None, refl, sym, ap, ◌∙◌, arith}, lemmas.List.{set-get_or}}
use Rattle.std.specs.{Prelude.{Option, Bool, if◌then◌else◌}, Option.option_map}
use Rattle.block_command.specs.{Moments.Moment, Laws.{Input, Goes, Loads, Comes, Stores, Flushes, Fails, Happening, happening}}
use Rattle.block_command.specs.declared.command.Command.{Command}
use Rattle.block_disk.specs.{Table.{at, with_input}, Laws.{Page, At, Took, Refused, shown_at, entered_in, at_page, page_entered}, Requests.Queue}
use Rattle.block_disk.specs.Requests.{is_answer, Act, Takes, Sends, Asks, Hears, Answers, Resets, Draws, IsAct, AreActs, after_act, is_out, told}
use Rattle.block_disk.specs.Requests.{none_queued, OnLink, seen, seen_by, Books, no_books, entered_by, out_after, IsSeenRightly, AreSeenRightly}
use Rattle.block_disk.specs.Requests.{LateAnswersCountForNothing, numbers_given, Rises, NumbersAreFresh}
use Rattle.block_disk.specs.Laws as laws
use Rattle.block_disk.proofs.Ends.{Kept, Matches, kept_none, next}

pub record Agree (q : Queue) (b : Books) : Type 0 where
  pub kept : Kept q.table.places b.pages
  pub out : b.out ≡ q.out

abbrev pub Next : Queue → Act → Books → Type 0
Next q a b = IsSeenRightly b (seen q a) × Agree (after_act q a) (entered_by b (seen q a))

takes_none : (out was : List ℕ) (b : Bool) (c : Command) → out ≡ was → out_after out (if b then Refused c else Took c) ≡ was
takes_none out was true c e = e
takes_none out was false c e = e

-- what is done at a place changes no number
out_same : (out : List ℕ) (place : ℕ) (x : Option Moment) (i : Input) → out_after out (shown_at place x i) ≡ out
out_same out place None i = refl
out_same out place (Some m) i = refl

does : (q : Queue) (b : Books) (place : ℕ) (i : Input) → Agree q b → place < 33
    → IsSeenRightly b (OnLink (shown_at place (at q.table place) i))
    × Agree (record q { table = with_input q.table place i }) (entered_by b (OnLink (shown_at place (at q.table place) i)))
does q b place i agree low =
    let n = next q.table b.pages (laws.Does place i) agree.kept low in
    (n.0, record { kept = n.1; out = out_same b.out place (at q.table place) i ∙ agree.out })

-- an answer says the same at each moment
is_told : (m : Moment) (i : Input) → is_answer i ≡ true → happening m i ≡ told i
is_told m Goes e = absurd (cc)
is_told m (Comes part) e = absurd (cc)
is_told m (Loads bytes) e = refl
is_told m Stores e = refl
is_told m Flushes e = refl
is_told m Fails e = refl

no_page : (x : Option Moment) (y : Option Page) → Matches x y → x ≡ None → y ≡ None
no_page None None m e = refl
no_page None (Some p) m e = absurd m
no_page (Some m) y match' e = absurd (cc)

nothing_entered : (pages : List (Option Page)) (place : ℕ) (h : Happening) (y : Option Page) → at_page pages place ≡ y → y ≡ None
    → set pages place (option_map (λ p. page_entered p h) y) ≡ pages
nothing_entered pages place h None e is = ap (set pages place) (sym e) ∙ set-get_or pages place None
nothing_entered pages place h (Some p) e is = absurd (cc)

entered_as : (pages : List (Option Page)) (place : ℕ) (x : Option Moment) (i : Input) → (x ≡ None → at_page pages place ≡ None) → is_answer i ≡ true
    → entered_in pages (shown_at place x i) ≡ entered_in pages (At place (told i))
entered_as pages place None i none is = sym (nothing_entered pages place (told i) _ refl (none refl))
entered_as pages place (Some m) i none is = ap (λ h. entered_in pages (At place h)) (is_told m i is)

answers_case : (q : Queue) (b : Books) (place : ℕ) (i : Input) (d e : Bool) → e ≡ d → Agree q b → place < 33 → is_answer i ≡ true
    → Agree (if d then record q { table = with_input q.table place i; out = set q.out place 0 } else q)
    (if e then record { pages = entered_in b.pages (At place (told i)); out = set b.out place 0 } else b)
answers_case q b place i false false same agree low is = agree
answers_case q b place i true false same agree low is = absurd (cc)
answers_case q b place i false true same agree low is = absurd (cc)
answers_case q b place i true true same agree low is =
    let n = next q.table b.pages (laws.Does place i) agree.kept low in
    let none : at q.table place ≡ None → at_page b.pages place ≡ None = no_page _ _ (agree.kept.each place) in
    record { kept = rw (sym (entered_as b.pages place (at q.table place) i none is)) n.1; out = ap (λ out. set out place 0) agree.out }

pub one : (q : Queue) (a : Act) (b : Books) → Agree q b → IsAct a → Next q a b
one q (Takes c) b agree is =
    let n = next q.table b.pages (laws.Takes c) agree.kept is in (n.0, record { kept = n.1; out = takes_none b.out q.out _ c agree.out })
one q (Sends place) b agree is = does q b place Goes agree is
one q (Asks place) b agree is =
    let n = next q.table b.pages (laws.Does place Goes) agree.kept is in
    (tt, record { kept = n.1; out = ap (λ out. set out place q.next) agree.out })
one q (Hears place part) b agree is = does q b place (Comes part) agree is
one q (Answers place number i) b agree is = (
  tt,
  answers_case q b place i (is_out q.out place number) (is_out b.out place number)
      (ap (λ out. is_out out place number) agree.out) agree is.0 is.1,
)
one q Resets b agree is = (tt, record { kept = kept_none 33 refl; out = refl })
one q Draws b agree is = (tt, record { kept = agree.kept; out = agree.out })

runs : (acts : List Act) (q : Queue) (b : Books) → Agree q b → AreActs acts → AreSeenRightly b (seen_by q acts)
unfolding seen_by
runs [] q b agree are = tt
runs (a ∷ later) q b agree are =
    let now = one q a b agree are.0 in (now.0, runs later (after_act q a) (entered_by b (seen q a)) now.1 are.1)

pub late_answers_count_for_nothing : LateAnswersCountForNothing
late_answers_count_for_nothing acts are = runs acts none_queued no_books (record { kept = kept_none 33 refl; out = refl }) are

-- ## Numbers

same_next : (b : Bool) (x y : Queue) (k : ℕ) → k < x.next → k < y.next → k < (if b then x else y).next
same_next true x y k low low' = low
same_next false x y k low low' = low'

rises : (acts : List Act) (q : Queue) (last : ℕ) → last < q.next → Rises last (numbers_given q acts)
unfolding numbers_given
rises [] q last low = tt
rises (Takes c ∷ later) q last low = rises later (after_act q (Takes c)) last low
rises (Sends place ∷ later) q last low = rises later (after_act q (Sends place)) last low
rises (Asks place ∷ later) q last low = (low, rises later (after_act q (Asks place)) q.next (omega arith))
rises (Hears place part ∷ later) q last low = rises later (after_act q (Hears place part)) last low
rises (Answers place number i ∷ later) q last low = rises later (after_act q (Answers place number i)) last (same_next _ _ _ last low low)
rises (Resets ∷ later) q last low = rises later (after_act q Resets) last low
rises (Draws ∷ later) q last low = (low, rises later (after_act q Draws) q.next (omega arith))

pub numbers_are_fresh : NumbersAreFresh
numbers_are_fresh acts = rises acts none_queued 0 (omega arith)
