-- For `data_keeps_the_same`. What Data of the command that moves leaves of each queued command.
use Rattle.std.proofs.Common.{◌≡◌, ◌==◌, eqb, ℕ, zero, suc, ◌+◌, ◌*◌, Bool, true, false, List, [], ◌∷◌, ◌++◌, append_assoc, length, length-append, ◌≤◌, refl, sym, ap, subst, ◌∙◌, inl, inr, Option, Some, None, arith}
use Rattle.std.specs.{Prelude.{not, if◌then◌else◌, slice_get, find, filter}, List.list_any}
use Rattle.std.proofs.lemmas.Bool.{cases_Bool, eq-eqb, eqb-true, or_from}
use Rattle.disk_model.specs.{declared.request.Command.Command, Chunks.put, Ends.{IsFree, MovesOther, has}, Laws.bytes_named}
use Rattle.disk_model.specs.{Ledger.{Ledger, Moving, ReadOut, Written, ends, sends_data, takes_data}, Between.{after_bytes, is_all, with_bytes}}
use Rattle.disk_model.proofs.Door.{but_free, data_down, goes_by, has_more, length-put}
use Rattle.hba_laws.specs.History.{Carried, History, filled, filled_from, is_at, is_set_up, next_number, waiting_in}
use Rattle.disk_simulation.specs.Same.{InLife, IsEndedBy, IsLastOf, IsMovingAt, Moves, Open, ReadEnded, SlotCommand, Stand, StandsOnce, Unsent, Unset}
use Rattle.disk_simulation.specs.{Same.WriteEnded, Steps.{DataDown, DataUp}}
use Rattle.disk_simulation.proofs.events.{MoveLemmas.{IsMoved, not_own, other_life, own_life, unset_other}, SameLemmas.data_fills}

-- ## Lists

-- what stands in a list stands in a longer one
pub get_more : {X : Type 0} (xs ys : List X) (i : ℕ) (x : X) → slice_get xs i ≡ Some x → slice_get (xs ++ ys) i ≡ Some x
get_more [] ys i x e = cc e
get_more (z ∷ xs) ys zero x e = e
get_more (z ∷ xs) ys (suc i) x e = get_more xs ys i x e

get_last : {X : Type 0} (xs : List X) (x : X) → slice_get (xs ++ x ∷ []) (length xs) ≡ Some x
get_last [] x = refl
get_last (z ∷ xs) x = get_last xs x

length_more : {X : Type 0} (xs : List X) (x : X) → length xs ≤ length (xs ++ x ∷ [])
length_more xs x = let long : length (xs ++ x ∷ []) ≡ length xs + 1 = length-append xs (x ∷ []) in omega (arith, long)

-- a tag that stands there once does so beside another that is put at the end
once_kept : (s u : ℕ) (us : List ℕ) → eqb u s ≡ false → StandsOnce s us → StandsOnce s (us ++ u ∷ [])
once_kept s u us other once = record {
  ahead = once.ahead;
  behind = once.behind ++ u ∷ [];
  is = ap (λ (ts : List ℕ). ts ++ u ∷ []) once.is ∙ append_assoc once.ahead (s ∷ once.behind) (u ∷ []);
  not_ahead = once.not_ahead;
  not_behind = has_more s u once.behind once.not_behind other;
}

-- one that does not stand there does so once it is put at the end
once_last : (s u : ℕ) (us : List ℕ) → u ≡ s → has s us ≡ false → StandsOnce s (us ++ u ∷ [])
once_last s u us same none =
    record { ahead = us; behind = []; is = ap (λ (t : ℕ). us ++ t ∷ []) same; not_ahead = none; not_behind = refl }

-- a filter by a tag leaves none of it
dropped : (s : ℕ) (q : Command) (b : Bool) (rest : List Command) → eqb q.tag s ≡ b → list_any (λ c. c.tag == s) rest ≡ false
    → list_any (λ c. c.tag == s) (if not b then q ∷ rest else rest) ≡ false
dropped s q true rest is none = none
dropped s q false rest is none = or_from (q.tag == s) (list_any (λ (c : Command). c.tag == s) rest) is none

but_none : (s : ℕ) (cs : List Command) → list_any (λ c. c.tag == s) (filter (λ q. not (q.tag == s)) cs) ≡ false
but_none s [] = refl
but_none s (q ∷ cs) = dropped s q (eqb q.tag s) (filter (λ (q : Command). not (q.tag == s)) cs) refl (but_none s cs)

-- and what is found by another tag
found_here : (s other : ℕ) (q c : Command) (a b : Bool) (before after : List Command) → eqb q.tag s ≡ a → eqb q.tag other ≡ b → eqb other s ≡ false
    → (if a then Some q else find (λ p. p.tag == s) before) ≡ Some c
    → (find (λ p. p.tag == s) before ≡ Some c → find (λ p. p.tag == s) after ≡ Some c)
    → find (λ p. p.tag == s) (if not b then q ∷ after else after) ≡ Some c
found_here s other q c true true before after is there differs found more =
    let a : q.tag ≡ s = eqb-true q.tag s is in
    let b : q.tag ≡ other = eqb-true q.tag other there in
    cc (sym (eq-eqb other s (sym b ∙ a)) ∙ differs)
found_here s other q c true false before after is there differs found more =
    ap (λ (t : Bool). if t then Some q else find (λ (p : Command). p.tag == s) after) is ∙ found
found_here s other q c false true before after is there differs found more = more found
found_here s other q c false false before after is there differs found more =
    ap (λ (t : Bool). if t then Some q else find (λ (p : Command). p.tag == s) after) is ∙ more found

found_kept : (s other : ℕ) (cs : List Command) (c : Command) → eqb other s ≡ false → find (λ p. p.tag == s) cs ≡ Some c
    → find (λ p. p.tag == s) (filter (λ q. not (q.tag == other)) cs) ≡ Some c
found_kept s other [] c differs found = cc found
found_kept s other (q ∷ cs) c differs found =
    found_here s other q c (eqb q.tag s) (eqb q.tag other) cs (filter (λ (q : Command). not (q.tag == other)) cs) refl refl differs found
    (found_kept s other cs c differs)

-- ## Another command ends

-- what an end leaves of the rest
pub record EndsBeside (tag : ℕ) (k x : Ledger) : Type 0 where
  pub outstanding : x.outstanding ≡ filter (λ q. not (q.tag == tag)) k.outstanding
  pub unanswered : x.unanswered ≡ k.unanswered ++ tag ∷ []
  pub moving : x.moving ≡ None
  pub grows : length k.writes ≤ length x.writes
  pub reads : (at : ℕ) (r : ReadOut) → slice_get k.reads at ≡ Some r → slice_get x.reads at ≡ Some r
  pub writes : (at : ℕ) (w : Written) → slice_get k.writes at ≡ Some w → slice_get x.writes at ≡ Some w

counted_on : (since : ℕ) (old new : List Written) → length old ≤ length new → since ≤ length old → since ≤ length new
counted_on since old new grows counted = omega (arith, grows, counted)

still_ended : (s : ℕ) (b : Bool) (tag : ℕ) (k x : Ledger) → eqb tag s ≡ false → EndsBeside tag k x → IsEndedBy s b k → IsEndedBy s b x
still_ended s b tag k x other goes e = record {
  unanswered = subst (StandsOnce s) (sym goes.unanswered) (once_kept s tag k.unanswered other e.unanswered);
  outstanding = ap (list_any (λ (q : Command). q.tag == s)) goes.outstanding ∙ but_free s tag k.outstanding e.outstanding;
  moving = subst (MovesOther s) (sym goes.moving) tt;
  unset = subst (λ (m : Option Moving). Unset m b) (sym goes.moving) tt;
}

pub still_free : (s tag : ℕ) (k x : Ledger) → eqb tag s ≡ false → EndsBeside tag k x → IsFree k s → IsFree x s
still_free s tag k x other goes free = record {
  outstanding = ap (list_any (λ (q : Command). q.tag == s)) goes.outstanding ∙ but_free s tag k.outstanding free.outstanding;
  unanswered = ap (has s) goes.unanswered ∙ has_more s tag k.unanswered free.unanswered other;
  moving = subst (MovesOther s) (sym goes.moving) tt;
}

ends_beside : (s : ℕ) (c : SlotCommand) (v : Moving) (past later : History) (k x : Ledger) → k.moving ≡ Some v → eqb v.command.tag s ≡ false → c.command.tag ≡ s
    → EndsBeside v.command.tag k x
    → waiting_in later ≡ waiting_in past → is_set_up s later ≡ is_set_up s past → filled s later ≡ filled s past → InLife s c past k
    → InLife s c later x
ends_beside s c v past later k x moving other tag goes waits set fills (Unsent free quiet unset none counted) =
    Unsent (still_free s v.command.tag k x other goes free) (ap (is_at s) waits ∙ quiet) (set ∙ unset) (fills ∙ none) (counted_on c.since k.writes x.writes goes.grows counted)
ends_beside s c v past later k x moving other tag goes waits set fills (Open found yet beside unset none counted) =
    Open (ap (find (λ (p : Command). p.tag == s)) goes.outstanding ∙ found_kept s v.command.tag k.outstanding c.command other found)
    (ap (has s) goes.unanswered ∙ has_more s v.command.tag k.unanswered yet other)
    (subst (MovesOther s) (sym goes.moving) tt) (set ∙ unset) (fills ∙ none) (counted_on c.since k.writes x.writes goes.grows counted)
ends_beside s c v past later k x moving other tag goes waits set fills (Moves u here same yet m counted) =
    absurd (not_own s c u v k moving here same tag other)
ends_beside s c v past later k x moving other tag goes waits set fills (ReadEnded at r e quiet there same stands counted) =
    ReadEnded at r (subst (λ (b : Bool). IsEndedBy s b x) (sym set) (still_ended s (is_set_up s past) v.command.tag k x other goes e))
    (ap (is_at s) waits ∙ quiet) (goes.reads at r there) same
    (subst (λ (f : ℕ → Option ℕ). Stand f r.bytes) (sym fills) stands) counted
ends_beside s c v past later k x moving other tag goes waits set fills (WriteEnded at w e quiet there same stands counted) =
    WriteEnded at w (subst (λ (b : Bool). IsEndedBy s b x) (sym set) (still_ended s (is_set_up s past) v.command.tag k x other goes e))
    (ap (is_at s) waits ∙ quiet) (goes.writes at w there) same
    (subst (λ (f : ℕ → Option ℕ). Stand f w.bytes) (sym fills) stands) counted

pub goes_beside : (k : Ledger) (w : Moving) (write : Bool) → EndsBeside w.command.tag k (ends k w write)
goes_beside k w true = record { outstanding = refl; unanswered = refl; moving = refl; grows = length_more k.writes _; reads = λ at r e. e; writes = λ at x e. get_more k.writes _ at x e }
goes_beside k w false = record { outstanding = refl; unanswered = refl; moving = refl; grows = omega arith; reads = λ at r e. get_more k.reads _ at r e; writes = λ at x e. e }

-- ## The slot's own command ends

ends_own : (s : ℕ) (b : Bool) (k : Ledger) (w : Moving) (write : Bool) → w.command.tag ≡ s → has s k.unanswered ≡ false
    → IsEndedBy s b (ends k w write)
ends_own s b k w write own yet =
    let goes : EndsBeside w.command.tag k (ends k w write) = goes_beside k w write in
    record {
      unanswered = subst (StandsOnce s) (sym goes.unanswered) (once_last s w.command.tag k.unanswered own yet);
      outstanding =
          ap (list_any (λ (q : Command). q.tag == s)) goes.outstanding
          ∙ subst (λ (t : ℕ). list_any (λ c. c.tag == s) (filter (λ q. not (q.tag == t)) k.outstanding) ≡ false) (sym own) (but_none s k.outstanding);
      moving = subst (MovesOther s) (sym goes.moving) tt;
      unset = subst (λ (m : Option Moving). Unset m b) (sym goes.moving) tt;
    }

-- ## Data

-- bytes that are put within data leave it as long as it is
put_long : (s : ℕ) (v : Moving) (bytes : List ℕ) (past : History) → length bytes ≡ v.count → IsMovingAt s v past
    → length (put v.bytes v.offset bytes) ≡ 512 * v.command.count
put_long s v bytes past long at =
    let inside = at.inside in
    let whole = at.long in
    length-put v.bytes bytes v.offset (omega (arith, inside, whole, long)) ∙ whole

names_on : (s : ℕ) (v : Moving) (bytes : List ℕ) (past : History) → IsMovingAt s v past → IsLastOf (with_bytes v bytes) (Carried bytes ∷ past)
names_on s v bytes past at = let n : IsLastOf v past = at.names in record { setup = n.setup; last = n.last; offset = n.offset; count = n.count }

moved_quiet : (s : ℕ) (c : SlotCommand) (v : Moving) (past : History) (k : Ledger) → IsMoved s c v past k → is_at s (waiting_in past) ≡ false
moved_quiet s c v past k m = let at : IsMovingAt s v past = m.at in at.quiet

data_own : (s : ℕ) (c : SlotCommand) (v : Moving) (bytes : List ℕ) (past : History) (k : Ledger) (b write : Bool) → v.command.tag ≡ s
    → v.command.write ≡ write → length bytes ≡ v.count → v.moved + length bytes ≡ bytes_named v.setups
    → IsMoved s c v past k → InLife s c (Carried bytes ∷ past) (after_bytes k (with_bytes v bytes) b write)
data_own s c v bytes past k false write own way long in_turn m =
    let at : IsMovingAt s v past = m.at in
    Moves (with_bytes v bytes) refl m.command m.yet (record {
      long = put_long s v bytes past long at;
      quiet = at.quiet;
      set_up = at.set_up;
      inside = at.inside;
      names = names_on s v bytes past at;
      fresh = inr in_turn;
      asked = λ e. cc e;
      stands = data_fills s v bytes past at long in_turn;
    }) (record { before = m.counted.before; now = m.counted.now })
data_own s c v bytes past k true true own way long in_turn m =
    WriteEnded (length k.writes) (record { tag = v.command.tag; at = 512 * v.command.lba; bytes = put v.bytes v.offset bytes })
    (ends_own s (is_set_up s past) k (with_bytes v bytes) true own m.yet) (moved_quiet s c v past k m) (get_last k.writes _)
    (record {
      tag = own;
      at = ap (λ (q : Command). 512 * q.lba) m.command;
      writes = ap (λ (q : Command). q.write) (sym m.command) ∙ way;
      long = put_long s v bytes past long m.at ∙ ap (λ (q : Command). 512 * q.count) m.command;
    })
    (data_fills s v bytes past m.at long in_turn) m.counted.now
data_own s c v bytes past k true false own way long in_turn m =
    ReadEnded (length k.reads) (record { command = v.command; before = v.before; bytes = put v.bytes v.offset bytes })
    (ends_own s (is_set_up s past) k (with_bytes v bytes) false own m.yet) (moved_quiet s c v past k m) (get_last k.reads _)
    (record {
      command = m.command;
      reads = ap (λ (q : Command). q.write) (sym m.command) ∙ way;
      long = put_long s v bytes past long m.at ∙ ap (λ (q : Command). 512 * q.count) m.command;
    })
    (data_fills s v bytes past m.at long in_turn) m.counted.before

data_beside : (s : ℕ) (c : SlotCommand) (v : Moving) (bytes : List ℕ) (past : History) (k : Ledger) (b write : Bool) → k.moving ≡ Some v
    → eqb v.command.tag s ≡ false → c.command.tag ≡ s
    → filled s (Carried bytes ∷ past) ≡ filled s past → is_set_up s past ≡ false → InLife s c past k
    → InLife s c (Carried bytes ∷ past) (after_bytes k (with_bytes v bytes) b write)
data_beside s c v bytes past k false write moving other tag fills unset life =
    other_life s c v (with_bytes v bytes) past (Carried bytes ∷ past) k moving other tag refl refl unset fills life
data_beside s c v bytes past k true write moving other tag fills unset life =
    ends_beside s c v past (Carried bytes ∷ past) k (ends k (with_bytes v bytes) write) moving other tag
    (goes_beside k (with_bytes v bytes) write) refl refl fills life

data_keeps : (s : ℕ) (c : SlotCommand) (v : Moving) (bytes : List ℕ) (past : History) (k : Ledger) (b write : Bool) → k.moving ≡ Some v → c.command.tag ≡ s
    → v.command.write ≡ write → length bytes ≡ v.count
    → (IsMovingAt s v past → v.moved + length bytes ≡ bytes_named v.setups) → InLife s c past k
    → InLife s c (Carried bytes ∷ past) (after_bytes k (with_bytes v bytes) b write)
data_keeps s c v bytes past k b write moving tag way long in_turn life = elim (cases_Bool (eqb v.command.tag s)) [
  | inl is ↦
      let tags : v.command.tag ≡ s = eqb-true v.command.tag s is in
      let own = own_life s c v past k moving tags life in
      data_own s c v bytes past k b write tags way long (in_turn own.at) own
  | inr other ↦
      let unset : is_set_up s past ≡ false = unset_other s c v past k moving other tag life in
      let fills : filled s (Carried bytes ∷ past) ≡ filled s past =
      ap (λ (t : Bool). if t then filled_from (next_number past) bytes (filled s past) else filled s past) unset in
      data_beside s c v bytes past k b write moving other tag fills unset life
]

pub data_up : DataUp
data_up s c v bytes past k moving tag next life =
    let after : sends_data k k.moving bytes ≡ after_bytes k (with_bytes v bytes) (is_all (with_bytes v bytes)) false =
    ap (λ (m : Option Moving). sends_data k m bytes) moving ∙ goes_by k (with_bytes v bytes) (is_all (with_bytes v bytes)) false refl next.reads in
    subst (λ (l : Ledger). InLife s c (Carried bytes ∷ past) l) (sym after)
    (data_keeps s c v bytes past k (is_all (with_bytes v bytes)) false moving tag next.reads next.count (λ m. next.in_turn) life)

pub data_comes_down : DataDown
data_comes_down s c v bytes past k moving tag asked life =
    let after : takes_data k k.moving bytes ≡ after_bytes k (with_bytes v bytes) (is_all (with_bytes v bytes)) true =
    data_down k v bytes (is_all (with_bytes v bytes)) moving asked refl in
    let long : length bytes ≡ v.count = asked.long in
    subst (λ (l : Ledger). InLife s c (Carried bytes ∷ past) l) (sym after)
    (data_keeps s c v bytes past k (is_all (with_bytes v bytes)) true moving tag asked.writes long
    (λ m. ap (λ (n : ℕ). v.moved + n) long ∙ m.asked asked.asked) life)
