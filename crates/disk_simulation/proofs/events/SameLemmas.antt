-- For `issues_and_commands_keep_the_same`, `setups_keep_the_same` and `data_fills_what_moves`. What each kind of event
-- leaves of a queued command, by the ledger of the FISes and by the history of the device's events.
use Rattle.std.proofs.Common.{◌≡◌, ◌&&◌, ◌==◌, ◌⊎◌, eqb, ℕ, ◌+◌, ◌-◌, ◌*◌, ◌≤◌, Bool, true, false, List, [], ◌∷◌, ◌++◌, length, refl, sym, ap, subst, ◌∙◌, inl, inr, Option, Some, None, arith}
use Rattle.std.specs.{Prelude.{nat_le, nat_lt, if◌then◌else◌, slice_get, find, replicate}, List.list_any, Option.option_or}
use Rattle.std.proofs.lemmas.Bool.{cases_Bool, and_parts, eq-eqb, eqb-true, or_from, or_left, or_parts, or_right, leb-true, ltb-true, true≢false}
use Rattle.std.proofs.lemmas.{List.length-replicate, List.Folds.{find-append, list_any-append}}
use Rattle.slots.specs.Slots.{match_some}
use Rattle.disk_model.specs.{declared.request.Command.Command, Chunks.put, Ends.{IsFree, MovesOther, has}, Laws.bytes_named}
use Rattle.disk_model.specs.{Ledger.{Ledger, Moving, starts_moving}, Between.opened}
use Rattle.disk_model.proofs.Door.{lie_where_put, opens_free}
use Rattle.hba_laws.specs.History.{Carried, History, Issued, Sent, SetUp, Setup, Transfer, carried, filled, filled_from, is_at, is_set_up, last_setup}
use Rattle.hba_laws.specs.History.{next_number, none_filled, unless, waiting_in}
use Rattle.disk_simulation.specs.Same.{CommandsKeep, DataFills, InLife, IsEndedBy, IsLastOf, IsMovingAt, IssuesKeep, Moves, Open, ReadEnded}
use Rattle.disk_simulation.specs.Same.{SetupsStart, SlotCommand, Stand, StandsOnce, Unsent, WriteEnded}

-- ## Lists

none_found : (p : Command → Bool) (xs : List Command) → list_any p xs ≡ false → find p xs ≡ None
none_found p [] e = refl
none_found p (x ∷ xs) e =
    let parts = or_parts (p x) (list_any p xs) e in
    ap (λ (b : Bool). if b then Some x else find p xs) parts.0 ∙ none_found p xs parts.1

passes_head : (p : Command → Bool) (x q : Command) (b : Bool) (rest : Option Command) → p x ≡ b → (if b then Some x else rest) ≡ Some q
    → (rest ≡ Some q → p q ≡ true) → p q ≡ true
passes_head p x q true rest is found more = let same : x ≡ q = cc found in subst (λ (y : Command). p y ≡ true) same is
passes_head p x q false rest is found more = more found

found_passes : (p : Command → Bool) (xs : List Command) (q : Command) → find p xs ≡ Some q → p q ≡ true
found_passes p [] q found = cc found
found_passes p (x ∷ xs) q found = passes_head p x q (p x) (find p xs) refl found (found_passes p xs q)

-- what is found is there
not_both : (tag : ℕ) (cs : List Command) (q : Command) → find (λ c. c.tag == tag) cs ≡ Some q → list_any (λ c. c.tag == tag) cs ≡ false → ⊥
not_both tag cs q found none = cc (sym found ∙ none_found (λ c. c.tag == tag) cs none)

pub free_more : (s : ℕ) (cs : List Command) (c : Command) → list_any (λ q. q.tag == s) cs ≡ false → eqb c.tag s ≡ false
    → list_any (λ q. q.tag == s) (cs ++ c ∷ []) ≡ false
free_more s cs c none other = list_any-append (λ (q : Command). q.tag == s) cs (c ∷ []) ∙ or_from _ _ none (or_from _ _ other refl)

found_more : (s : ℕ) (cs : List Command) (c q : Command) → find (λ p. p.tag == s) cs ≡ Some q → find (λ p. p.tag == s) (cs ++ c ∷ []) ≡ Some q
found_more s cs c q found =
    find-append (λ (p : Command). p.tag == s) cs (c ∷ [])
    ∙ ap (λ (o : Option Command). option_or o (find (λ (p : Command). p.tag == s) (c ∷ []))) found

found_last : (s : ℕ) (cs : List Command) (c : Command) → list_any (λ q. q.tag == s) cs ≡ false → c.tag ≡ s
    → find (λ p. p.tag == s) (cs ++ c ∷ []) ≡ Some c
found_last s cs c none is =
    find-append (λ (p : Command). p.tag == s) cs (c ∷ [])
    ∙ ap (λ (o : Option Command). option_or o (find (λ (p : Command). p.tag == s) (c ∷ []))) (none_found (λ (p : Command). p.tag == s) cs none)
    ∙ ap (λ (b : Bool). if b then Some c else None) (eq-eqb c.tag s is)

-- ## A history that says the same of a slot

names_as : (v : Moving) (past later : History) → last_setup later ≡ last_setup past → IsLastOf v past → IsLastOf v later
names_as v past later same names = record { setup = names.setup; last = same ∙ names.last; offset = names.offset; count = names.count }

pub moving_as : (s : ℕ) (v : Moving) (past later : History) → (is_at s (waiting_in past) ≡ false → is_at s (waiting_in later) ≡ false)
    → is_set_up s later ≡ is_set_up s past → filled s later ≡ filled s past → last_setup later ≡ last_setup past → carried later ≡ carried past
    → IsMovingAt s v past → IsMovingAt s v later
moving_as s v past later waits set fills last since m = record {
  long = m.long;
  quiet = waits m.quiet;
  set_up = set ∙ m.set_up;
  inside = m.inside;
  names = names_as v past later last m.names;
  fresh = subst (λ (n : ℕ). (n ≡ 0) ⊎ (v.moved ≡ bytes_named v.setups)) (sym since) m.fresh;
  asked = m.asked;
  stands = subst (λ (f : ℕ → Option ℕ). Stand f v.bytes) (sym fills) m.stands;
}

pub same_life : (s : ℕ) (c : SlotCommand) (past later : History) (k : Ledger) → (is_at s (waiting_in past) ≡ false → is_at s (waiting_in later) ≡ false)
    → is_set_up s later ≡ is_set_up s past → filled s later ≡ filled s past → last_setup later ≡ last_setup past → carried later ≡ carried past
    → InLife s c past k → InLife s c later k
same_life s c past later k waits set fills last since (Unsent free quiet unset none counted) = Unsent free (waits quiet) (set ∙ unset) (fills ∙ none) counted
same_life s c past later k waits set fills last since (Open found yet other unset none counted) = Open found yet other (set ∙ unset) (fills ∙ none) counted
same_life s c past later k waits set fills last since (Moves v moving same yet m counted) =
    Moves v moving same yet (moving_as s v past later waits set fills last since m) (record { before = counted.before; now = counted.now })
same_life s c past later k waits set fills last since (ReadEnded at r e quiet there same stands counted) =
    ReadEnded at r (subst (λ (b : Bool). IsEndedBy s b k) (sym set) e) (waits quiet) there same
    (subst (λ (f : ℕ → Option ℕ). Stand f r.bytes) (sym fills) stands) counted
same_life s c past later k waits set fills last since (WriteEnded at w e quiet there same stands counted) =
    WriteEnded at w (subst (λ (b : Bool). IsEndedBy s b k) (sym set) e) (waits quiet) there same
    (subst (λ (f : ℕ → Option ℕ). Stand f w.bytes) (sym fills) stands) counted

-- ## A command is issued

-- a slot for which another waits, or none
not_at : (s : ℕ) (w : Option ℕ) (b : Bool) → is_at s w ≡ b → is_at s (unless b w) ≡ false
not_at s w true e = refl
not_at s w false e = e

pub still_not_at : (s : ℕ) (w : Option ℕ) (b : Bool) → is_at s w ≡ false → is_at s (unless b w) ≡ false
still_not_at s w true e = refl
still_not_at s w false e = e

issue_own : (s : ℕ) (c : SlotCommand) (t : Transfer) (past : History) (k : Ledger) → IsFree k s → c.since ≤ length k.writes
    → InLife s c (Issued s t ∷ past) k
issue_own s c t past k free counted =
    let is : eqb s s ≡ true = eq-eqb s s refl in
    Unsent free (not_at s (waiting_in past) (is_at s (waiting_in past)) refl)
    (ap (λ (b : Bool). if b then false else is_set_up s past) is) (ap (λ (b : Bool). if b then none_filled else filled s past) is) counted

issue_other : (s slot : ℕ) (c : SlotCommand) (t : Transfer) (past : History) (k : Ledger) → eqb slot s ≡ false → InLife s c past k
    → InLife s c (Issued slot t ∷ past) k
issue_other s slot c t past k other life =
    same_life s c past (Issued slot t ∷ past) k (still_not_at s (waiting_in past) (is_at slot (waiting_in past)))
    (ap (λ (b : Bool). if b then false else is_set_up s past) other)
    (ap (λ (b : Bool). if b then none_filled else filled s past) other) refl refl life

pub issues_keep : IssuesKeep
issues_keep = record { own = issue_own; other = issue_other }

-- ## A command goes out

-- where the tag is free nothing came of the command
record IsFresh (s since : ℕ) (past : History) (k : Ledger) : Type 0 where
  unset : is_set_up s past ≡ false
  none : filled s past ≡ none_filled
  counted : since ≤ length k.writes

stands_there : (s : ℕ) (us ahead behind : List ℕ) → us ≡ ahead ++ s ∷ behind → has s us ≡ true
stands_there s us ahead behind is =
    ap (has s) is ∙ list_any-append (λ (t : ℕ). t == s) ahead (s ∷ behind)
    ∙ or_right (has s ahead) (has s (s ∷ behind)) (or_left (s == s) (has s behind) (eq-eqb s s refl))

-- a tag that stands among these is not free of them
pub not_none : (s : ℕ) (us : List ℕ) → StandsOnce s us → has s us ≡ false → ⊥
not_none s us once none = true≢false (sym (stands_there s us once.ahead once.behind once.is) ∙ none)

-- data moves that is not of a free tag
not_moving : (s : ℕ) (c : Command) (v : Moving) (m : Option Moving) → m ≡ Some v → v.command ≡ c → c.tag ≡ s → MovesOther s m → ⊥
not_moving s c v m moving same tag other =
    true≢false (sym (eq-eqb v.command.tag s (ap (λ (q : Command). q.tag) same ∙ tag)) ∙ subst (MovesOther s) moving other)

fresh_life : (s : ℕ) (c : SlotCommand) (past : History) (k : Ledger) → c.command.tag ≡ s → IsFree k s → InLife s c past k
    → IsFresh s c.since past k
fresh_life s c past k tag free (Unsent f quiet unset none counted) = record { unset = unset; none = none; counted = counted }
fresh_life s c past k tag free (Open found yet other unset none counted) = record { unset = unset; none = none; counted = counted }
fresh_life s c past k tag free (Moves v moving same yet m counted) = absurd (not_moving s c.command v k.moving moving same tag free.moving)
fresh_life s c past k tag free (ReadEnded at r e quiet there same stands counted) = absurd (not_none s k.unanswered e.unanswered free.unanswered)
fresh_life s c past k tag free (WriteEnded at w e quiet there same stands counted) = absurd (not_none s k.unanswered e.unanswered free.unanswered)

sent_own : (s : ℕ) (c : SlotCommand) (past : History) (k : Ledger) → c.command.tag ≡ s → IsFree k s → IsFresh s c.since past k
    → InLife s c (Sent s ∷ past) (opened k c.command)
sent_own s c past k tag free fresh =
    Open (found_last s k.outstanding c.command free.outstanding tag) free.unanswered free.moving fresh.unset fresh.none fresh.counted

ended_beside : (s : ℕ) (b : Bool) (k : Ledger) (other : Command) → eqb other.tag s ≡ false → IsEndedBy s b k → IsEndedBy s b (opened k other)
ended_beside s b k other differs e = record {
  unanswered = e.unanswered;
  outstanding = free_more s k.outstanding other e.outstanding differs;
  moving = e.moving;
  unset = e.unset;
}

sent_other : (s : ℕ) (c : SlotCommand) (other : Command) (past : History) (k : Ledger) → eqb other.tag s ≡ false → InLife s c past k
    → InLife s c (Sent other.tag ∷ past) (opened k other)
sent_other s c other past k differs (Unsent free quiet unset none counted) =
    Unsent (record { outstanding = free_more s k.outstanding other free.outstanding differs; unanswered = free.unanswered; moving = free.moving }) differs unset none counted
sent_other s c other past k differs (Open found yet beside unset none counted) = Open (found_more s k.outstanding other c.command found) yet beside unset none counted
sent_other s c other past k differs (Moves v moving same yet m counted) =
    Moves v moving same yet (moving_as s v past (Sent other.tag ∷ past) (λ quiet. differs) refl refl refl refl m)
    (record { before = counted.before; now = counted.now })
sent_other s c other past k differs (ReadEnded at r e quiet there same stands counted) =
    ReadEnded at r (ended_beside s (is_set_up s past) k other differs e) differs there same stands counted
sent_other s c other past k differs (WriteEnded at w e quiet there same stands counted) =
    WriteEnded at w (ended_beside s (is_set_up s past) k other differs e) differs there same stands counted

pub commands_keep : CommandsKeep
commands_keep = record {
  own = λ s c past k tag failed free life.
      let here : list_any (λ q. q.tag == c.command.tag) k.outstanding ≡ false =
      subst (λ (t : ℕ). list_any (λ q. q.tag == t) k.outstanding ≡ false) (sym tag) free.outstanding in
      subst (λ (l : Ledger). InLife s c (Sent s ∷ past) l) (sym (opens_free k c.command failed here))
      (sent_own s c past k tag free (fresh_life s c past k tag free life));
  other = λ s c other past k differs failed free life.
      subst (λ (l : Ledger). InLife s c (Sent other.tag ∷ past) l) (sym (opens_free k other failed free.outstanding))
      (sent_other s c other past k differs life);
}

-- ## The first DMA Setup of a command

module _ (s tag offset count : ℕ) (to_host : Bool) (c : SlotCommand) (q : Command) (past : History) (k : Ledger) (still : k.moving ≡ None)
    (found : find (λ p. p.tag == tag) k.outstanding ≡ Some q) (answered : is_at tag (waiting_in past) ≡ false)
    (fits : offset + count ≤ 512 * q.count) where
  setup_own : tag ≡ s → eqb tag s ≡ true → InLife s c past k
      → InLife s c (SetUp tag offset count to_host ∷ past) (starts_moving k offset count (Some q))
  setup_own at is (Unsent free quiet unset none counted) =
      absurd (not_both s k.outstanding q (subst (λ (t : ℕ). find (λ p. p.tag == t) k.outstanding ≡ Some q) at found) free.outstanding)
  setup_own at is (Open here yet other unset none counted) =
      let there : find (λ p. p.tag == s) k.outstanding ≡ Some q = subst (λ (t : ℕ). find (λ p. p.tag == t) k.outstanding ≡ Some q) at found in
      let both : Some q ≡ Some c.command = sym there ∙ here in
      let same : q ≡ c.command = cc both in
      Moves (record {
        command = q;
        before = k.writes;
        bytes = replicate
            (512 * q.count) 0;
        moved = 0;
        setups = record { at = offset; count = count } ∷ [];
        offset = offset;
        count = count;
        active = false;
      }) refl same yet (record {
        long = length-replicate (512 * q.count) 0;
        quiet = subst (λ (n : ℕ). is_at n (waiting_in past) ≡ false) at answered;
        set_up = is;
        inside = fits;
        names = record { setup = record { slot = tag; offset = offset; count = count; to_host = to_host; ends = None }; last = refl; offset = refl; count = refl };
        fresh = inl refl;
        asked = λ e. cc e;
        stands = λ i b e. let empty : filled s past i ≡ None = ap (λ (f : ℕ → Option ℕ). f i) none in cc;
      }) (record { before = counted; now = counted })
  setup_own at is (Moves v moving same yet m counted) = cc (sym still ∙ moving)
  setup_own at is (ReadEnded n r e quiet there same stands counted) =
      absurd (not_both s k.outstanding q (subst (λ (t : ℕ). find (λ p. p.tag == t) k.outstanding ≡ Some q) at found) e.outstanding)
  setup_own at is (WriteEnded n w e quiet there same stands counted) =
      absurd (not_both s k.outstanding q (subst (λ (t : ℕ). find (λ p. p.tag == t) k.outstanding ≡ Some q) at found) e.outstanding)

  differs : eqb tag s ≡ false → eqb q.tag s ≡ false
  differs other =
      let is : q.tag ≡ tag = eqb-true q.tag tag (found_passes (λ (p : Command). p.tag == tag) k.outstanding q found) in
      subst (λ (t : ℕ). eqb t s ≡ false) (sym is) other

  setup_other : eqb tag s ≡ false → InLife s c past k → InLife s c (SetUp tag offset count to_host ∷ past) (starts_moving k offset count (Some q))
  setup_other other (Unsent free quiet unset none counted) =
      Unsent (record { outstanding = free.outstanding; unanswered = free.unanswered; moving = differs other }) quiet other none counted
  setup_other other (Open here yet beside unset none counted) = Open here yet (differs other) other none counted
  setup_other other (Moves v moving same yet m counted) = cc (sym still ∙ moving)
  setup_other other (ReadEnded n r e quiet there same stands counted) =
      ReadEnded n r (record { unanswered = e.unanswered; outstanding = e.outstanding; moving = differs other; unset = other }) quiet there same stands counted
  setup_other other (WriteEnded n w e quiet there same stands counted) =
      WriteEnded n w (record { unanswered = e.unanswered; outstanding = e.outstanding; moving = differs other; unset = other }) quiet there same stands counted

pub setups_start : SetupsStart
setups_start s tag offset count to_host c q past k still found answered fits life = elim (cases_Bool (eqb tag s)) [
  | inl is ↦ setup_own s tag offset count to_host c q past k still found answered fits (eqb-true tag s is) is life
  | inr other ↦ setup_other s tag offset count to_host c q past k still found answered fits other life
]

-- ## Data

by_test : (t : Bool) (y x f : Option ℕ) (b : ℕ) → (f ≡ Some b → x ≡ Some b) → (if t then y else f) ≡ Some b → (if t then y else x) ≡ Some b
by_test true y x f b more e = e
by_test false y x f b more e = more e

-- bytes that are put where they are filled stand there
stand_put : (fills : ℕ → Option ℕ) (xs ys : List ℕ) (at : ℕ) → at + length ys ≤ length xs → Stand fills xs
    → Stand (filled_from at ys fills) (put xs at ys)
stand_put fills xs ys at fits stands i b e =
    lie_where_put xs ys at i fits
    ∙ by_test (nat_le at i && nat_lt i (at + length ys)) (slice_get ys (i - at)) (slice_get xs i) (fills i) b (stands i b) e

no_place : (from i long : ℕ) → long ≡ 0 → (nat_le from i && nat_lt i (from + long)) ≡ false
no_place from i long zero_long = elim (cases_Bool (nat_le from i && nat_lt i (from + long))) [
  | inl within ↦
      let parts = and_parts (nat_le from i) (nat_lt i (from + long)) within in
      let low = leb-true from i parts.0 in
      let high = ltb-true i (from + long) parts.1 in
      absurd (omega (arith, low, high, zero_long))
  | inr past ↦ past
]

-- no bytes fill nothing
none_more : (fills : ℕ → Option ℕ) (ys : List ℕ) (from i : ℕ) → length ys ≡ 0 → filled_from from ys fills i ≡ fills i
none_more fills ys from i none = ap (λ (t : Bool). if t then slice_get ys (i - from) else fills i) (no_place from i (length ys) none)

data_put : (s : ℕ) (v : Moving) (bytes : List ℕ) (past : History) → IsMovingAt s v past → length bytes ≡ v.count
    → v.moved + length bytes ≡ bytes_named v.setups
    → Stand (filled_from (next_number past) bytes (filled s past)) (put v.bytes v.offset bytes)
data_put s v bytes past m long all =
    let inside = m.inside in
    let whole = m.long in
    let fits : v.offset + length bytes ≤ length v.bytes = omega (arith, inside, whole, long) in
    let puts : Stand (filled_from v.offset bytes (filled s past)) (put v.bytes v.offset bytes) =
    stand_put (filled s past) v.bytes bytes v.offset fits m.stands in
    elim m.fresh [
      | inl none ↦
          let names : IsLastOf v past = m.names in
          let at = names.offset in
          let next : next_number past ≡ v.offset =
          ap (λ (o : Option Setup). match_some o 0 (λ g. g.offset + carried past)) names.last ∙ (omega (arith, at, none)) in
          subst (λ (n : ℕ). Stand (filled_from n bytes (filled s past)) (put v.bytes v.offset bytes)) (sym next) puts
      | inr moved ↦
          let none : length bytes ≡ 0 = omega (arith, moved, all) in
          λ i b e. puts i b (none_more (filled s past) bytes v.offset i none ∙ sym (none_more (filled s past) bytes (next_number past) i none) ∙ e)
    ]

pub data_fills : DataFills
data_fills s v bytes past m long all =
    let is : filled s (Carried bytes ∷ past) ≡ filled_from (next_number past) bytes (filled s past) =
    ap (λ (b : Bool). if b then filled_from (next_number past) bytes (filled s past) else filled s past) m.set_up in
    subst (λ (f : ℕ → Option ℕ). Stand f (put v.bytes v.offset bytes)) (sym is) (data_put s v bytes past m long all)
