-- The Data and the ends of the commands of a disk are earned: at each place the page of the books agrees with the command.
use Rattle.std.proofs.Common.{◌≡◌, ℕ, ◌<◌, true, false, List, [], ◌∷◌, length, get_or, set, Some, None, refl, sym, ap, ◌∙◌, arith, inl, inr}
use Rattle.std.proofs.lemmas.{Bool.{cases_eq, cases_lt}, List.{get_or-set_same, get_or-set_other, length-set, set-get_or, get_or-replicate}}
use Rattle.std.proofs.{lemmas.List.{length-replicate}, Math.ListN.{get_or-eq_default}}
use Rattle.std.specs.{Prelude.{Option, Bool, replicate, if◌then◌else◌}, Option.option_map}
use Rattle.block_command.specs.{declared.command.Command.Command, Moments.{IsCommand, Moment, opening}, Laws.{Input, Happening, blank, entered}}
use Rattle.block_command.specs.Laws.{happening}
use Rattle.block_command.specs.Laws as command
use Rattle.block_command.proofs.Door.{Agrees, steps, rights_then, begins}
use Rattle.block_disk.specs.{Table.{Table, none_under_way, with_command}, Laws.{Event, Takes, Does, Resets, IsEvent, AreEvents, after, Shown, Took}}
use Rattle.block_disk.specs.Laws.{Refused, At, shown_at, shown, account, Page, at_page, page_entered, entered_in, PageAllows, IsAllowedBy, Earned}
use Rattle.block_disk.specs.Laws.{EndsAreEarned}

abbrev pub Matches : Option Moment → Option Page → Type 0
Matches None None = Unit {0}
Matches (Some m) (Some p) = (m.command ≡ p.command) × Agrees p.command m p.ledger
Matches _ _ = ⊥

pub record Kept (places : List (Option Moment)) (books : List (Option Page)) : Type 0 where
  pub commands : length places ≡ 33
  pub pages : length books ≡ 33
  pub each : (t : ℕ) → Matches (get_or places t None) (get_or books t None)

-- each element of a list of one value is that value, also past the end where that is read as it
pub each_is : (X : Type 0) (n t : ℕ) (a : X) → get_or (replicate n a) t a ≡ a
each_is X n t a = elim (cases_lt t n) [
  | inl low ↦ get_or-replicate n t a a low
  | inr high ↦ get_or-eq_default (replicate n a) a (omega (arith, length-replicate n a, high))
]

pub kept_none : (n : ℕ) → n ≡ 33 → Kept (replicate n None) (replicate n None)
kept_none n is = record {
  commands = length-replicate n None ∙ is;
  pages = length-replicate n None ∙ is;
  each = λ t. rw (each_is (Option Moment) n t None) (rw (each_is (Option Page) n t None) tt);
}

matches_set : (d : List (Option Moment)) (books : List (Option Page)) (place : ℕ) (x : Option Moment) (y : Option Page)
    → Kept d books → place < 33 → Matches x y → Kept (set d place x) (set books place y)
matches_set d books place x y kept low match' = record {
  commands = length-set d place x ∙ kept.commands;
  pages = length-set books place y ∙ kept.pages;
  each = λ t. elim (cases_eq t place) [
    | inl same ↦ rw same (rw (get_or-set_same d place x None (omega (arith, low, kept.commands)))
        (rw (get_or-set_same books place y None (omega (arith, low, kept.pages))) match'))
    | inr apart ↦ rw (get_or-set_other d place t x None apart) (rw (get_or-set_other books place t y None apart) (kept.each t))
  ];
}

abbrev pub Next : List (Option Moment) → List (Option Page) → Shown → Type 0
Next d books s = IsAllowedBy books s × Kept d (entered_in books s)

allows : (books : List (Option Page)) (place : ℕ) (h : Happening) (p : Page) → at_page books place ≡ Some p
    → PageAllows (Some p) h → IsAllowedBy books (At place h)
allows books place h p e allow = rw e allow

does : (d : List (Option Moment)) (books : List (Option Page)) (place : ℕ) (i : Input) (x : Option Moment) (y : Option Page)
    → get_or d place None ≡ x → at_page books place ≡ y → Matches x y → Kept d books → place < 33
    → Next (set d place (option_map (λ m. command.after m i) x)) books (shown_at place x i)
does d books place i None None e f match' kept low =
    let same : set d place None ≡ d = ap (set d place) (sym e) ∙ set-get_or d place None in (tt, rw same kept)
does d books place i (Some m) (Some p) e f match' kept low =
    let h = happening m i in
    let next = matches_set d books place (Some (command.after m i)) (Some (page_entered p h)) kept low
    (steps p.command m i p.ledger match'.0 match'.1) in
    (allows books place h p f (rights_then p.command m i p.ledger match'.0 match'.1), rw f next)
does d books place i None (Some p) e f match' kept low = absurd match'
does d books place i (Some m) None e f match' kept low = absurd match'

takes : (d : Table) (books : List (Option Page)) (c : Command) (b : Bool) → Kept d.places books → c.place < 33 → IsCommand c
    → Next (if b then d else with_command d c.place (Some (opening c))).places books (if b then Refused c else Took c)
takes d books c true kept low is = (tt, kept)
takes d books c false kept low is = (tt, matches_set d.places books c.place _ _ kept low (refl, begins c is))

pub next : (d : Table) (books : List (Option Page)) (e : Event) → Kept d.places books → IsEvent e → Next (after d e).places books (shown d e)
next d books (Takes c) kept is = takes d books c _ kept is.0 is.1
next d books (Does place i) kept is = does d.places books place i _ _ refl refl (kept.each place) kept is
next d books Resets kept is = (tt, kept_none 33 refl)

runs : (events : List Event) (d : Table) (books : List (Option Page)) → Kept d.places books → AreEvents events
    → Earned books (account d events)
unfolding account
runs [] d books kept are = tt
runs (e ∷ later) d books kept are =
    let now = next d books e kept are.0 in (now.0, runs later (after d e) (entered_in books (shown d e)) now.1 are.1)

pub ends_are_earned : EndsAreEarned
ends_are_earned events are = runs events none_under_way (replicate 33 None) (kept_none 33 refl) are
