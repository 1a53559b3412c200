-- A command that is not queued, in the history of its device: its next byte has the number of those that were carried for it, and these are those that
-- went behind it.
use Rattle.std.proofs.Common.{◌≡◌, ◌⊎◌, ℕ, ◌+◌, Bool, true, false, cond, List, [], ◌∷◌, ◌++◌, length, refl, sym, ap, subst, ◌∙◌, inl, inr, arith}
use Rattle.std.proofs.{Common.{Option, Some, None, count_by}, lemmas.{Bool.{eqb-true, false≢true}, List.Sums.{sum_by-cons}}}
use Rattle.std.specs.Prelude.{◌==◌, MatchOption, is_some, if◌then◌else◌}
use Rattle.slots.specs.{Bytes.{bytes as all_bytes, came_of, is_over, none_over}, Setup.came, Slots.{Issue, is_queued_issue, match_some, own_issue}}
use Rattle.slots.specs.{Work.{is_queued, is_read}, declared.{table.Context.Context, work.Work.Work}}
use Rattle.slots.proofs.Door.{over_none}
use Rattle.hba_fbs.specs.Views.{DeviceView}
use Rattle.hba_laws.specs.{Agreement.IsTold, History.{Event, History, Setup, Transfer, bytes_of, carried, is_at, is_set_up, issued, last_setup}}
use Rattle.hba_laws.specs.History.{next_number, pio_setup, unless, waiting_in}
use Rattle.hba_laws.specs.History as history
use Rattle.machine_theorem.proofs.{CallSteps.AreIdle, FisAllowed.IsAllowed, SetupFrames.{WayIs, none_way, the_issue}, SetupHistory.up_some}
use Rattle.machine_theorem.proofs.SetupHistory.{was_issued}

-- ---- the next byte

abbrev pub IsEven : History → Type 0
IsEven past = (s : ℕ) (t : Transfer) → issued s past ≡ Some t → is_queued t.work.kind ≡ false → is_set_up s past ≡ true → next_number past ≡ bytes_of s past

issue_even : (s : ℕ) (past : History) (b : Bool) (x t : Transfer) → IsEven past → (if b then Some x else issued s past) ≡ Some t → is_queued t.work.kind ≡ false
    → (if b then false else is_set_up s past) ≡ true → next_number past ≡ (if b then 0 else bytes_of s past)
issue_even s past true x t even is plain up = absurd (false≢true up)
issue_even s past false x t even is plain up = even s t is plain up

pub even_idle : (h past : History) → AreIdle h → IsEven past → IsEven (h ++ past)
even_idle [] past idle even = even
even_idle (history.Issued slot x ∷ h) past idle even = λ s t is plain up. issue_even s (h ++ past) (slot == s) x t (even_idle h past idle.1 even) is plain up
even_idle (history.Emptied ∷ h) past idle even = λ s t is plain up. absurd (cc)
even_idle (e ∷ h) past idle even = absurd idle.0

more_number : (o : Option Setup) (n k : ℕ) → is_some o ≡ true → match_some o 0 (λ g. g.offset + (n + k)) ≡ match_some o 0 (λ g. g.offset + n) + k
more_number None n k e = absurd (false≢true e)
more_number (Some g) n k e = omega arith

if_more : (b : Bool) (n k : ℕ) → b ≡ true → (if b then n + k else n) ≡ n + k
if_more true n k e = refl
if_more false n k e = absurd (false≢true e)

pub even_carried : (bytes : List ℕ) (past : History) → IsEven past → IsEven (history.Carried bytes ∷ past)
even_carried bytes past even s t is plain up =
    more_number (last_setup past) (carried past) (length bytes) (up_some s past up)
    ∙ ap (λ (k : ℕ). k + length bytes) (even s t (was_issued s (history.Carried bytes) past t tt is) plain up)
    ∙ sym (if_more (is_set_up s past) (bytes_of s past) (length bytes) up)

pio_even : (s count : ℕ) (to_host : Bool) (ends : ℕ) (past : History) (o : Option ℕ) → is_at s o ≡ true
    → match_some (match_some o None (λ k. Some (pio_setup k (bytes_of k past) count to_host ends))) 0 (λ g. g.offset + 0) ≡ bytes_of s past
pio_even s count to_host ends past None e = absurd (false≢true e)
pio_even s count to_host ends past (Some k) e = let same = ap (λ (j : ℕ). bytes_of j past) (eqb-true k s e) in omega (arith, same)

-- a setup of a command that is not queued is for the bytes behind those that were carried
up_even : (tag offset count : ℕ) (to_host : Bool) (past : History) → ((t : Transfer) → issued tag past ≡ Some t → is_queued t.work.kind ≡ false → offset ≡ bytes_of tag past) → IsEven past
    → IsEven (history.SetUp tag offset count to_host ∷ past)
up_even tag offset count to_host past behind even s t is plain up =
    let same : tag ≡ s = eqb-true tag s up in
    let was : issued s past ≡ Some t = was_issued s (history.SetUp tag offset count to_host) past t tt is in
    let first : offset ≡ bytes_of tag past = behind t (ap (λ (j : ℕ). issued j past) same ∙ was) plain in
    let here = ap (λ (j : ℕ). bytes_of j past) same in
    omega (arith, first, here)

module _ (v : DeviceView) (past : History) (told : IsTold v past) where
  carried_for : (s : ℕ) (i : Issue) → own_issue v.slots s ≡ Some i → came i ≡ bytes_of s past
  carried_for s i is = (told.agrees.issues_agree s i is).came_is

  behind_it : (tag offset : ℕ) → MatchOption (own_issue v.slots tag) ⊥ (λ i. (is_queued_issue i ≡ true) ⊎ (offset ≡ came i)) → (t : Transfer) → issued tag past ≡ Some t
      → is_queued t.work.kind ≡ false → offset ≡ bytes_of tag past
  behind_it tag offset allowed t is plain =
      let i = the_issue (issued tag past) (own_issue v.slots tag) t (told.issued tag) is in
      elim (subst (λ (o : Option Issue). MatchOption o ⊥ (λ j. (is_queued_issue j ≡ true) ⊎ (offset ≡ came j))) i.1.0 allowed) [
        | inl queued ↦ absurd (false≢true (sym plain ∙ ap (λ (w : Work). is_queued w.kind) (sym i.1.1) ∙ queued))
        | inr next ↦ next ∙ carried_for tag i.0 i.1.0
      ]

  pub even_fis : (e : Event) → IsAllowed v e → IsEven past → IsEven (e ∷ past)
  even_fis (history.SetUp tag offset count to_host) allowed even = up_even tag offset count to_host past (behind_it tag offset allowed) even
  even_fis (history.PioSetUp count to_host ends) allowed even = λ s t is plain up. pio_even s count to_host ends past (waiting_in past) up
  even_fis (history.Carried bytes) allowed even = even_carried bytes past even
  even_fis history.Answered allowed even = λ s t is plain up. even s t (was_issued s history.Answered past t tt is) plain up
  even_fis (history.Named mask) allowed even = λ s t is plain up. even s t (was_issued s (history.Named mask) past t tt is) plain up
  even_fis (history.Issued slot x) allowed even = absurd allowed
  even_fis (history.Sent slot) allowed even = absurd allowed
  even_fis (history.SentControl slot) allowed even = absurd allowed
  even_fis history.Emptied allowed even = absurd allowed

  -- of an issue that was not sent nothing was carried
  abbrev cond_of : Bool → ℕ
  cond_of b = cond b 1 0

  count_none : (p : ℕ → Bool) (xs : List ℕ) → ((k : ℕ) → p k ≡ false) → count_by p xs ≡ 0
  count_none p [] none = refl
  count_none p (x ∷ xs) none =
      let one = sum_by-cons (λ (k : ℕ). cond_of (p k)) x xs in
      let rest = count_none p xs none in
      let zero_now : cond_of (p x) ≡ 0 = ap cond_of (none x) in
      omega (arith, one, rest, zero_now)

  none_came : (i : Issue) → i.over ≡ none_over i.work.len → came i ≡ 0
  unfolding came_of
  none_came i none = count_none (is_over i.over) (all_bytes i.work.len) (λ k. ap (λ (l : List Bool). is_over l k) none ∙ over_none i.work.len k)

  pub none_carried : (s : ℕ) (i : Issue) → own_issue v.slots s ≡ Some i → i.over ≡ none_over i.work.len → bytes_of s past ≡ 0
  none_carried s i is none = sym (carried_for s i is) ∙ none_came i none

-- ---- a command goes

sent_even : (slot : ℕ) (control : Bool) (past : History) → IsEven past → IsEven ((if control then history.SentControl slot else history.Sent slot) ∷ past)
sent_even slot true past even = λ s t is plain up. even s t (was_issued s (history.SentControl slot) past t tt is) plain up
sent_even slot false past even = λ s t is plain up. even s t (was_issued s (history.Sent slot) past t tt is) plain up

sent_same : (slot s : ℕ) (control : Bool) (past : History) → bytes_of s ((if control then history.SentControl slot else history.Sent slot) ∷ past) ≡ bytes_of s past
sent_same slot s true past = refl
sent_same slot s false past = refl

pub even_order : (slot len : ℕ) (reads dma control : Bool) (past : History) → bytes_of slot past ≡ 0 → IsEven past
    → IsEven (((if dma then history.SetUp slot 0 len reads ∷ [] else []) ++ (if control then history.SentControl slot else history.Sent slot) ∷ []) ++ past)
even_order slot len reads true control past none even =
    up_even slot 0 len reads ((if control then history.SentControl slot else history.Sent slot) ∷ past) (λ t is plain. sym (sent_same slot slot control past ∙ none)) (sent_even slot control past even)
even_order slot len reads false control past none even = sent_even slot control past even

-- ---- the bytes since it was sent

-- so many were carried for the command of a slot that waits, if it is no read
abbrev pub IsSum : (s n : ℕ) → History → Type 0
IsSum s n past = is_at s (waiting_in past) ≡ true → (t : Transfer) → issued s past ≡ Some t → is_read t.work.kind ≡ false → bytes_of s past ≡ n

-- who waits behind an issue waited before, and is no new one
record IsOld (s slot : ℕ) (o : Option ℕ) : Type 0 where
  waits : is_at s o ≡ true
  apart : (slot == s) ≡ false

old_by : (s slot : ℕ) (o : Option ℕ) (b : Bool) → is_at slot o ≡ b → is_at s (unless b o) ≡ true → IsOld s slot o
old_by s slot o true at waits = absurd (false≢true waits)
old_by s slot o false at waits = record { waits = waits; apart = apart (slot == s) refl }
  where
    apart : (b : Bool) → (slot == s) ≡ b → b ≡ false
    apart true same = absurd (false≢true (sym at ∙ ap (λ (j : ℕ). is_at j o) (eqb-true slot s same) ∙ waits))
    apart false same = refl

issue_sum : (s n : ℕ) (past : History) (b : Bool) (x t : Transfer) → b ≡ false → is_at s (waiting_in past) ≡ true → IsSum s n past → (if b then Some x else issued s past) ≡ Some t
    → is_read t.work.kind ≡ false → (if b then 0 else bytes_of s past) ≡ n
issue_sum s n past true x t e waits sum is way = absurd (cc)
issue_sum s n past false x t e waits sum is way = sum waits t is way

pub sum_idle : (s n : ℕ) (h past : History) → AreIdle h → IsSum s n past → IsSum s n (h ++ past)
sum_idle s n [] past idle sum = sum
sum_idle s n (history.Issued slot x ∷ h) past idle sum = λ waits t is way.
    (let old : IsOld s slot (waiting_in (h ++ past)) = old_by s slot (waiting_in (h ++ past)) (is_at slot (waiting_in (h ++ past))) refl waits in
    issue_sum s n (h ++ past) (slot == s) x t old.apart old.waits (sum_idle s n h past idle.1 sum) is way)
sum_idle s n (history.Emptied ∷ h) past idle sum = λ waits t is way. absurd (cc)
sum_idle s n (e ∷ h) past idle sum = absurd idle.0

if_none : (b : Bool) (n k : ℕ) → b ≡ false → (if b then n + k else n) ≡ n
if_none true n k e = absurd (cc)
if_none false n k e = refl

-- Data that come are for another one
module _ (v : DeviceView) (past : History) (told : IsTold v past) (way_is : WayIs v) where
  comes_else : (s : ℕ) (t : Transfer) → issued s past ≡ Some t → is_read t.work.kind ≡ false → MatchOption v.slots.context ⊥ (λ c. c.to_host ≡ true) → is_set_up s past ≡ false
  comes_else s t is way allowed = by (is_set_up s past) refl
    where
      no_way : (o : Option Context) → v.slots.context ≡ o → MatchOption o ⊥ (λ c. c.to_host ≡ true) → is_set_up s past ≡ true → ⊥
      no_way None set inward up = inward
      no_way (Some c) set inward up =
          none_way t.work.kind v past c told way_is set (λ e. false≢true (sym way ∙ e ∙ inward)) s (record { transfer = t; is = is; up = up; kind = refl })

      by : (b : Bool) → is_set_up s past ≡ b → b ≡ false
      by true up = absurd (no_way v.slots.context refl allowed up)
      by false up = refl

  pub sum_fis : (s n : ℕ) (e : Event) → IsAllowed v e → IsSum s n past → IsSum s n (e ∷ past)
  sum_fis s n (history.SetUp tag offset count to_host) allowed sum = λ waits t is way. sum waits t (was_issued s (history.SetUp tag offset count to_host) past t tt is) way
  sum_fis s n (history.PioSetUp count to_host ends) allowed sum = λ waits t is way. sum waits t (was_issued s (history.PioSetUp count to_host ends) past t tt is) way
  sum_fis s n (history.Carried bytes) allowed sum = λ waits t is way.
      (let was : issued s past ≡ Some t = was_issued s (history.Carried bytes) past t tt is in
      if_none (is_set_up s past) (bytes_of s past) (length bytes) (comes_else s t was way allowed) ∙ sum waits t was way)
  sum_fis s n history.Answered allowed sum = λ waits t is way. absurd (false≢true waits)
  sum_fis s n (history.Named mask) allowed sum = λ waits t is way. sum waits t (was_issued s (history.Named mask) past t tt is) way
  sum_fis s n (history.Issued slot x) allowed sum = absurd allowed
  sum_fis s n (history.Sent slot) allowed sum = absurd allowed
  sum_fis s n (history.SentControl slot) allowed sum = absurd allowed
  sum_fis s n history.Emptied allowed sum = absurd allowed

-- Data go for it
pub sum_goes : (s n : ℕ) (bytes : List ℕ) (past : History) → is_set_up s past ≡ true → IsSum s n past → IsSum s (n + length bytes) (history.Carried bytes ∷ past)
sum_goes s n bytes past up sum waits t is way =
    if_more (is_set_up s past) (bytes_of s past) (length bytes) up
    ∙ ap (λ (k : ℕ). k + length bytes) (sum waits t (was_issued s (history.Carried bytes) past t tt is) way)

-- a Control goes to the device
pub sum_control : (s n slot len : ℕ) (reads dma : Bool) (past : History) → dma ≡ false → IsSum s n past
    → IsSum s n (((if dma then history.SetUp slot 0 len reads ∷ [] else []) ++ history.SentControl slot ∷ []) ++ past)
sum_control s n slot len reads true past e sum = absurd (cc)
sum_control s n slot len reads false past e sum = λ waits t is way. sum waits t (was_issued s (history.SentControl slot) past t tt is) way

-- its own command goes
pub sum_sent : (slot len : ℕ) (reads dma : Bool) (past : History) → bytes_of slot past ≡ 0
    → IsSum slot 0 (((if dma then history.SetUp slot 0 len reads ∷ [] else []) ++ history.Sent slot ∷ []) ++ past)
sum_sent slot len reads true past none waits t is way = none
sum_sent slot len reads false past none waits t is way = none
