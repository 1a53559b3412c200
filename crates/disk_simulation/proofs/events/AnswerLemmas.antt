-- For `answers_keep_the_same` and `names_are_of_what_ended`. What answers, and commands that are not queued, leave of
-- each queued command.
use Rattle.std.proofs.Common.{◌≡◌, ◌==◌, eqb, ℕ, Bool, true, false, List, [], ◌∷◌, ◌++◌, ◌≤◌, length, refl, sym, ap, subst, ◌∙◌, inl, inr, Option, None}
use Rattle.std.specs.{Prelude.{◌^◌, ◌≢◌, if◌then◌else◌, slice_get, find, drop}, Int.bit_at, List.list_any}
use Rattle.std.proofs.lemmas.{Bool.{cases_Bool, eq-eqb, eqb-true, or_parts, true≢false}, Nat.Bits.{bit_at-pow_other, bit_at-pow_same}}
use Rattle.slots.specs.Slots.{has_bit}
use Rattle.disk_model.specs.{declared.{request.Command.Command, request.Request.Request}, Ends.{FitsRequest, IsFree, MovesOther, has}}
use Rattle.disk_model.specs.{Ledger.{Ledger, Moving, Names, ReadOut, Written, answered, answers, asks, sends_data}, Between.alone}
use Rattle.disk_model.specs.declared.request.Request.TheVariants as asked
use Rattle.disk_model.proofs.Door.{asks_fits, has_left}
use Rattle.hba_laws.specs.History.{Answered, Carried, History, Named, PioSetUp, Sent, filled, filled_from, is_at, is_set_up, next_number, none_filled}
use Rattle.hba_laws.specs.History.{waiting_in}
use Rattle.disk_simulation.specs.Same.{InLife, IsEndedBy, Moves, Open, ReadEnded, SlotCommand, StandsOnce, Unsent, Unset, WriteEnded}
use Rattle.disk_simulation.specs.Answers.{AnswersKeep, ByRead, ByWrite, HasEnded, IsAlone, IsIdle, NamesKeep, OthersKeep}
use Rattle.disk_simulation.proofs.events.SameLemmas.{moving_as, same_life}

-- ## A ledger that says the same of queued commands

pub record IsBeside (k x : Ledger) : Type 0 where
  pub outstanding : x.outstanding ≡ k.outstanding
  pub unanswered : x.unanswered ≡ k.unanswered
  pub moving : x.moving ≡ k.moving
  pub writes : x.writes ≡ k.writes
  pub reads : x.reads ≡ k.reads

pub free_beside : (s : ℕ) (k x : Ledger) → IsBeside k x → IsFree k s → IsFree x s
free_beside s k x b free = record {
  outstanding = ap (list_any (λ (q : Command). q.tag == s)) b.outstanding ∙ free.outstanding;
  unanswered = ap (has s) b.unanswered ∙ free.unanswered;
  moving = subst (MovesOther s) (sym b.moving) free.moving;
}

ended_same : (s : ℕ) (set_up : Bool) (k x : Ledger) → IsBeside k x → IsEndedBy s set_up k → IsEndedBy s set_up x
ended_same s set_up k x b e = record {
  unanswered = subst (StandsOnce s) (sym b.unanswered) e.unanswered;
  outstanding = ap (list_any (λ (q : Command). q.tag == s)) b.outstanding ∙ e.outstanding;
  moving = subst (MovesOther s) (sym b.moving) e.moving;
  unset = subst (λ (m : Option Moving). Unset m set_up) (sym b.moving) e.unset;
}

counted_beside : (since : ℕ) (k x : Ledger) → IsBeside k x → since ≤ length k.writes → since ≤ length x.writes
counted_beside since k x b counted = subst (λ (ws : List Written). since ≤ length ws) (sym b.writes) counted

pub life_beside : (s : ℕ) (c : SlotCommand) (past : History) (k x : Ledger) → IsBeside k x → InLife s c past k → InLife s c past x
life_beside s c past k x b (Unsent free quiet unset none counted) = Unsent (free_beside s k x b free) quiet unset none (counted_beside c.since k x b counted)
life_beside s c past k x b (Open found yet other unset none counted) =
    Open (ap (find (λ (q : Command). q.tag == s)) b.outstanding ∙ found) (ap (has s) b.unanswered
    ∙ yet) (subst (MovesOther s) (sym b.moving) other) unset none (counted_beside c.since k x b counted)
life_beside s c past k x b (Moves v moving same yet m counted) = Moves v (b.moving ∙ moving) same (ap (has s) b.unanswered ∙ yet) m
    (record { before = counted.before; now = counted_beside c.since k x b counted.now })
life_beside s c past k x b (ReadEnded at r e quiet there same stands counted) =
    ReadEnded at r (ended_same s (is_set_up s past) k x b e) quiet (ap (λ (rs : List ReadOut). slice_get rs at) b.reads ∙ there) same stands counted
life_beside s c past k x b (WriteEnded at w e quiet there same stands counted) =
    WriteEnded at w (ended_same s (is_set_up s past) k x b e) quiet (ap (λ (ws : List Written). slice_get ws at) b.writes ∙ there) same stands counted

-- ## Where no queued command is there

-- a command that is issued was not sent
pub record IsUnsent (s since : ℕ) (past : History) (k : Ledger) : Type 0 where
  pub free : IsFree k s
  pub quiet : is_at s (waiting_in past) ≡ false
  pub unset : is_set_up s past ≡ false
  pub none : filled s past ≡ none_filled
  pub counted : since ≤ length k.writes

once_empty : (s : ℕ) (us ahead behind : List ℕ) → us ≡ [] → us ≡ ahead ++ s ∷ behind → ⊥
once_empty s us [] behind empty is = cc (sym empty ∙ is)
once_empty s us (a ∷ ahead) behind empty is = cc (sym empty ∙ is)

pub idle_unsent : (s : ℕ) (c : SlotCommand) (past : History) (k : Ledger) → IsIdle k → InLife s c past k → IsUnsent s c.since past k
idle_unsent s c past k idle (Unsent free quiet unset none counted) = record { free = free; quiet = quiet; unset = unset; none = none; counted = counted }
idle_unsent s c past k idle (Open found yet other unset none counted) =
    let empty : find (λ q. q.tag == s) k.outstanding ≡ None = ap (find (λ (q : Command). q.tag == s)) idle.outstanding in
    cc (sym empty ∙ found)
idle_unsent s c past k idle (Moves v moving same yet m counted) = cc (sym idle.moving ∙ moving)
idle_unsent s c past k idle (ReadEnded at r e quiet there same stands counted) =
    let once : StandsOnce s k.unanswered = e.unanswered in
    absurd (once_empty s k.unanswered once.ahead once.behind idle.unanswered once.is)
idle_unsent s c past k idle (WriteEnded at w e quiet there same stands counted) =
    let once : StandsOnce s k.unanswered = e.unanswered in
    absurd (once_empty s k.unanswered once.ahead once.behind idle.unanswered once.is)

-- ## Another command goes out

alone_beside : (k : Ledger) (request : Request) → IsAlone request → IsBeside k (alone k request)
alone_beside k (asked.Queue c) one = absurd one
alone_beside k other one = record { outstanding = refl; unanswered = refl; moving = refl; writes = refl; reads = refl }

pub asks_beside : (k : Ledger) (request : Request) → k.failed ≡ false → IsAlone request → FitsRequest k request → IsBeside k (asks k request k.failed)
asks_beside k request failed one fits = subst (IsBeside k) (sym (asks_fits k request failed fits)) (alone_beside k request one)

pub others_keep : OthersKeep
others_keep s slot c request past k other failed one fits life =
    same_life s c past (Sent slot ∷ past) (asks k request k.failed) (λ quiet. other) refl refl refl refl
    (life_beside s c past k (asks k request k.failed) (asks_beside k request failed one fits) life)

-- ## Answers

register_keeps : (s : ℕ) (c : SlotCommand) (past : History) (k : Ledger) → InLife s c past k → InLife s c (Answered ∷ past) (answered k)
register_keeps s c past k life =
    same_life s c past (Answered ∷ past) (answered k) (λ quiet. refl) refl refl refl refl
    (life_beside s c past k (answered k) (record { outstanding = refl; unanswered = refl; moving = refl; writes = refl; reads = refl }) life)

show_keeps : (s count ends : ℕ) (to_host : Bool) (c : SlotCommand) (past : History) (k : Ledger) → IsIdle k → InLife s c past k
    → InLife s c (PioSetUp count to_host ends ∷ past) (answered k)
show_keeps s count ends to_host c past k idle life =
    let u : IsUnsent s c.since past k = idle_unsent s c past k idle life in
    let free : IsFree k s = u.free in
    Unsent (record { outstanding = free.outstanding; unanswered = free.unanswered; moving = free.moving }) u.quiet u.quiet u.none u.counted

page_keeps : (s : ℕ) (c : SlotCommand) (bytes : List ℕ) (past : History) (k : Ledger) → IsIdle k → InLife s c past k
    → InLife s c (Carried bytes ∷ past) (sends_data k k.moving bytes)
page_keeps s c bytes past k idle life =
    let u : IsUnsent s c.since past k = idle_unsent s c past k idle life in
    let free : IsFree k s = u.free in
    let unset : is_set_up s past ≡ false = u.unset in
    let fills : filled s (Carried bytes ∷ past) ≡ filled s past =
    ap (λ (t : Bool). if t then filled_from (next_number past) bytes (filled s past) else filled s past) unset in
    subst (λ (m : Option Moving). InLife s c (Carried bytes ∷ past) (sends_data k m bytes)) (sym idle.moving)
    (Unsent (record { outstanding = free.outstanding; unanswered = free.unanswered; moving = free.moving }) u.quiet unset (fills ∙ u.none) u.counted)

pub answers_keep : AnswersKeep
answers_keep = record { register = register_keeps; shows = show_keeps; page = page_keeps }

-- ## A Set Device Bits FIS

own_bit : (t mask : ℕ) → mask ≡ 2 ^ t → has_bit mask t ≡ true
own_bit t mask is = ap (λ (m : ℕ). has_bit m t) is ∙ eq-eqb (bit_at (2 ^ t) t) 1 (bit_at-pow_same t)

only_bit : (s t mask : ℕ) → mask ≡ 2 ^ t → has_bit mask s ≡ true → t ≡ s
only_bit s t mask is set = elim (cases_Bool (eqb s t)) [
  | inl same ↦ sym (eqb-true s t same)
  | inr other ↦
      let apart : s ≢ t = λ e. true≢false (sym (eq-eqb s t e) ∙ other) in
      let none : bit_at mask s ≡ 0 = ap (λ (m : ℕ). bit_at m s) is ∙ bit_at-pow_other t s apart in
      let unset : has_bit mask s ≡ false = ap (λ (b : ℕ). b == 1) none in
      absurd (true≢false (sym set ∙ unset))
]

-- the tag that is named stands first
pub record StandsFirst (s : ℕ) (us : List ℕ) : Type 0 where
  pub rest : List ℕ
  pub is : us ≡ s ∷ rest

pub named_first : (s mask : ℕ) (us : List ℕ) → Names us mask → has_bit mask s ≡ true → StandsFirst s us
named_first s mask [] names set = absurd names
named_first s mask (u ∷ us) names set = record { rest = us; is = ap (λ (t : ℕ). t ∷ us) (only_bit s u mask names set) }

first_stands : (s : ℕ) (us : List ℕ) → StandsFirst s us → has s us ≡ false → ⊥
first_stands s us first none =
    let parts = or_parts (s == s) (has s first.rest) (sym (ap (has s) first.is) ∙ none) in
    true≢false (sym (eq-eqb s s refl) ∙ parts.0)

heads : (u t : ℕ) (us ts : List ℕ) → u ∷ us ≡ t ∷ ts → u ≡ t
heads u t us ts e = cc e

-- and nowhere else, so that it is gone once it is named
gone_by : (s : ℕ) (us rest ahead behind : List ℕ) → us ≡ s ∷ rest → us ≡ ahead ++ s ∷ behind → has s ahead ≡ false → has s behind ≡ false
    → has s (drop 1 us) ≡ false
gone_by s us rest [] behind first is not_ahead not_behind = ap (λ (ts : List ℕ). has s (drop 1 ts)) is ∙ not_behind
gone_by s us rest (a ∷ ahead) behind first is not_ahead not_behind =
    let same : a ≡ s = heads a s (ahead ++ s ∷ behind) rest (sym is ∙ first) in
    let parts = or_parts (a == s) (has s ahead) not_ahead in
    absurd (true≢false (sym (eq-eqb a s same) ∙ parts.0))

gone : (s : ℕ) (us : List ℕ) → StandsFirst s us → StandsOnce s us → has s (drop 1 us) ≡ false
gone s us first once = gone_by s us first.rest once.ahead once.behind first.is once.is once.not_ahead once.not_behind

-- another that stands there once goes on to do so
left_by : (s mask : ℕ) (us ahead behind : List ℕ) → us ≡ ahead ++ s ∷ behind → has s ahead ≡ false → has s behind ≡ false → Names us mask
    → has_bit mask s ≡ false → StandsOnce s (drop 1 us)
left_by s mask us [] behind is not_ahead not_behind names unset =
    let named : mask ≡ 2 ^ s = subst (λ (ts : List ℕ). Names ts mask) is names in
    absurd (true≢false (sym (own_bit s mask named) ∙ unset))
left_by s mask us (a ∷ ahead) behind is not_ahead not_behind names unset = record {
  ahead = ahead;
  behind = behind;
  is = ap (drop 1) is;
  not_ahead = (or_parts (a == s) (has s ahead) not_ahead).1;
  not_behind = not_behind;
}

once_left : (s mask : ℕ) (us : List ℕ) → StandsOnce s us → Names us mask → has_bit mask s ≡ false → StandsOnce s (drop 1 us)
once_left s mask us once names unset = left_by s mask us once.ahead once.behind once.is once.not_ahead once.not_behind names unset

-- a command that is named ended, was answered, and leaves its tag free
record IsNamedLast (s error : ℕ) (c : SlotCommand) (past : History) (k : Ledger) : Type 0 where
  ended : HasEnded s c past k
  quiet : is_at s (waiting_in past) ≡ false
  free : IsFree (answers k error false) s

module _ (s mask error : ℕ) (c : SlotCommand) (past : History) (k : Ledger) (names : Names k.unanswered mask) (set : has_bit mask s ≡ true) where
  first : StandsFirst s k.unanswered
  first = named_first s mask k.unanswered names set

  named_free : (b : Bool) → IsEndedBy s b k → IsFree (answers k error false) s
  named_free b e = record { outstanding = e.outstanding; unanswered = gone s k.unanswered first e.unanswered; moving = e.moving }

  named_last : InLife s c past k → IsNamedLast s error c past k
  named_last (Unsent free quiet unset none counted) = absurd (first_stands s k.unanswered first free.unanswered)
  named_last (Open found yet other unset none counted) = absurd (first_stands s k.unanswered first yet)
  named_last (Moves v moving same yet m counted) = absurd (first_stands s k.unanswered first yet)
  named_last (ReadEnded at r e quiet there same stands counted) =
      record { ended = ByRead at r there same stands counted; quiet = quiet; free = named_free (is_set_up s past) e }
  named_last (WriteEnded at w e quiet there same stands counted) =
      record { ended = ByWrite at w there same stands counted; quiet = quiet; free = named_free (is_set_up s past) e }

ended_left : (s mask error : ℕ) (b : Bool) (k : Ledger) → Names k.unanswered mask → has_bit mask s ≡ false → IsEndedBy s b k
    → IsEndedBy s b (answers k error false)
ended_left s mask error b k names unset e =
    record { unanswered = once_left s mask k.unanswered e.unanswered names unset; outstanding = e.outstanding; moving = e.moving; unset = e.unset }

name_other : (s mask error : ℕ) (c : SlotCommand) (past : History) (k : Ledger) → Names k.unanswered mask → has_bit mask s ≡ false → InLife s c past k
    → InLife s c (Named mask ∷ past) (answers k error false)
name_other s mask error c past k names other (Unsent free quiet unset none counted) =
    Unsent (record { outstanding = free.outstanding; unanswered = has_left s k.unanswered free.unanswered; moving = free.moving }) quiet unset none counted
name_other s mask error c past k names other (Open found yet beside unset none counted) = Open found (has_left s k.unanswered yet) beside unset none counted
name_other s mask error c past k names other (Moves v moving same yet m counted) =
    Moves v moving same (has_left s k.unanswered yet) (moving_as s v past (Named mask ∷ past) (λ quiet. quiet) refl refl refl refl m)
    (record { before = counted.before; now = counted.now })
name_other s mask error c past k names other (ReadEnded at r e quiet there same stands counted) =
    ReadEnded at r (ended_left s mask error (is_set_up s past) k names other e) quiet there same stands counted
name_other s mask error c past k names other (WriteEnded at w e quiet there same stands counted) =
    WriteEnded at w (ended_left s mask error (is_set_up s past) k names other e) quiet there same stands counted

pub names_keep : NamesKeep
names_keep = record {
  own = λ s mask c past k names set life. (named_last s mask 0 c past k names set life).ended;
  answered = λ s mask c past k names set life. (named_last s mask 0 c past k names set life).quiet;
  free = λ s mask error c past k names set life. (named_last s mask error c past k names set life).free;
  other = name_other;
}
