-- A context of new bytes lies within its issue.
use Rattle.std.proofs.Common.{◌≡◌, ℕ, ◌+◌, ◌%◌, ◌<◌, ◌≤◌, Bool, true, false, not, ◌&&◌, ◌||◌, nat_eq, nat_lt, nat_le, List, length, refl, sym, ◌∙◌}
use Rattle.std.proofs.{Common.{ap, subst, arith, inl, inr, Option, Some, None}, lemmas.Bool.{and_parts, cond-true, or_left, or_right, cases_lt}}
use Rattle.std.proofs.lemmas.Bool.{eqb-true, eqb-false, ltb-false, false≢true}
use Rattle.std.specs.{Prelude.{MatchOption, if◌then◌else◌, Result, Ok, Err}, Bool.beq, Option.{is_some, option_or}}
use Rattle.slots.specs.declared.{table.Context.Context, work.Kind.{Kind, TheVariants.{QueuedRead, QueuedWrite, DmaIn, DmaOut, PioIn, PioOut, NoData}}}
use Rattle.slots.specs.{declared.work.{Kind.TheVariants.Control, Work.Work}, Bytes.{any_over, ends_at, none_over, stretches_of}}
use Rattle.slots.specs.declared.answer.SetupError.{SetupError, TheVariants.{NotOutstanding, WrongWay, Overflow, Twice, Fragments, BadCount}}
use Rattle.slots.specs.{Data.activated, Setup.{after_setup, after_setup_out, came, context_or, dma_context, is_full_at, is_outstanding, long_fault}}
use Rattle.slots.specs.{Setup.{new_context, out_context, out_fault, out_setup, setup_fault, transfer_fault, with_setup}, Slots.{DeviceSlots, Issue}}
use Rattle.slots.specs.Slots.{Slots, issue_at, holds, is_out_issue, is_under_way, is_waiting, match_some, own_issue, owned_by, sent_out, slots_of}
use Rattle.slots.specs.{Slots.waiting, Table.{IsContext, IsContextOf, IsFresh, IsIssue, IsTable}, Work.{is_dma, is_out, is_read, needs_all}}
use Rattle.slots.proofs.{CallLemmas.{Found, found}, MaskLemmas.lowest_is, StretchLemmas.{none_over_any, none_over_runs}, TableLemmas.own_at}
use Rattle.slots.proofs.TableLemmas.{owned_own}

dma_needs : (k : Kind) → is_dma k ≡ true → needs_all k ≡ true
dma_needs QueuedRead h = absurd (false≢true h)
dma_needs QueuedWrite h = absurd (false≢true h)
dma_needs DmaIn h = refl
dma_needs DmaOut h = refl
dma_needs PioIn h = absurd (false≢true h)
dma_needs PioOut h = absurd (false≢true h)
dma_needs NoData h = absurd (false≢true h)
dma_needs Control h = absurd (false≢true h)

-- what is issued in the slot, of the device
abbrev pub Mine : ℕ → ℕ → Slots → Issue → Type 0
Mine dev s t i = (issue_at t s ≡ Some i) × (i.dev ≡ dev)

some_is : (o : Option Issue) (i : Issue) → o ≡ Some i → holds (λ issue. true) o ≡ true
some_is o i h = ap (holds (λ issue. true)) h

inj : (i j : Issue) → Some i ≡ Some j → i ≡ j
inj i j h = cc

pub mine : (dev s : ℕ) (t : Slots) (i : Issue) → s < length t.issues → own_issue (slots_of dev t) s ≡ Some i → Mine dev s t i
mine dev s t i lt h =
    let f : Found (λ issue. true) dev s t = found (λ issue. true) dev s t lt (some_is (own_issue (slots_of dev t) s) i h) in
    let own : own_issue (slots_of dev t) s ≡ Some f.issue = own_at dev t s lt ∙ ap (owned_by dev) f.at ∙ owned_own dev f.issue f.own in
    let same : f.issue ≡ i = inj f.issue i (sym own ∙ h) in
    (f.at ∙ ap Some same, ap (λ (x : Issue). x.dev) (sym same) ∙ f.own)

-- all bytes of a command that was sent now
whole : (dev s : ℕ) (i : Issue) → i.dev ≡ dev → IsIssue i → i.sent ≡ true → i.over ≡ none_over i.work.len → is_dma i.work.kind ≡ true
    → IsContextOf dev (new_context s 0 i.work.len (is_read i.work.kind)) i
whole dev s i own r sent none dma = record {
  of_dev = own;
  fits = omega arith;
  next_dwords = refl;
  left_dwords = r.work.0;
  fresh = subst (λ (over : List Bool). any_over over 0 i.work.len ≡ false) (sym none) (none_over_any i.work.len);
  room = λ some. subst (λ (over : List Bool). (nat_le 64 (stretches_of over i.work.len) && not (ends_at over 0)) ≡ false) (sym none) (ap (λ (n : ℕ). nat_le 64 n && not (ends_at (none_over i.work.len) 0)) (none_over_runs i.work.len));
  way = refl;
  goes = or_right (is_outstanding i) (is_under_way i) (ap (λ (b : Bool). b && needs_all i.work.kind) sent ∙ dma_needs i.work.kind dma);
  activates = λ h. absurd (false≢true h);
}

fresh_at : (dev s : ℕ) (work : Work) (t : Slots) (o : Option Issue) → IsTable t → s < 32 → own_issue (slots_of dev t) s ≡ o → MatchOption o ⊥ (IsFresh work) → is_dma work.kind ≡ true
    → IsContext dev t (new_context s 0 work.len (is_read work.kind))
fresh_at dev s work t None is below at h dma = absurd h
fresh_at dev s work t (Some i) is below at h dma =
    let m : Mine dev s t i = mine dev s t i (omega (arith, below, is.slots)) at in
    let r : IsIssue i = subst (λ (o : Option Issue). MatchOption o (Unit {0}) IsIssue) m.0 (is.issues s) in
    let kind : is_dma i.work.kind ≡ true = ap (λ (w : Work). is_dma w.kind) h.of_work ∙ dma in
    let c : IsContextOf dev (new_context s 0 i.work.len (is_read i.work.kind)) i = whole dev s i m.1 r h.sent h.none kind in
    let same : IsContextOf dev (new_context s 0 work.len (is_read work.kind)) i = subst (λ (w : Work). IsContextOf dev (new_context s 0 w.len (is_read w.kind)) i) h.of_work c in
    (below, subst (λ (o : Option Issue). MatchOption o ⊥ (IsContextOf dev (new_context s 0 work.len (is_read work.kind)))) (sym m.0) same)

pub begun_inside : (dev s : ℕ) (work : Work) (t : Slots) → IsTable t → s < 32 → MatchOption (own_issue (slots_of dev t) s) ⊥ (IsFresh work) → is_dma work.kind ≡ true
    → IsContext dev t (new_context s 0 work.len (is_read work.kind))
begun_inside dev s work t is below h dma = fresh_at dev s work t (own_issue (slots_of dev t) s) is below refl h dma

-- ---- a setup that is not refused

or_no : (a b : Bool) → (a || b) ≡ false → (a ≡ false) × (b ≡ false)
or_no true b h = absurd (false≢true (sym h))
or_no false b h = (refl, h)

not_no : (b : Bool) → not b ≡ false → b ≡ true
not_no true h = refl
not_no false h = absurd (false≢true (sym h))

beq_same : (a b : Bool) → beq a b ≡ true → a ≡ b
beq_same true true h = refl
beq_same true false h = absurd (false≢true h)
beq_same false true h = absurd (false≢true h)
beq_same false false h = refl

-- these bytes of an issue may be set up
pub record Fits (i : Issue) (offset count : ℕ) (to_host : Bool) : Type 0 where
  pub way : is_read i.work.kind ≡ to_host
  pub within : offset + count ≤ i.work.len
  pub fresh : any_over i.over offset count ≡ false
  pub full : is_full_at i offset ≡ false
  pub offset4 : offset % 4 ≡ 0
  pub count4 : count % 4 ≡ 0
  pub some : 0 < count

fits_by : (i : Issue) (offset count : ℕ) (to_host a b c d e : Bool) → not (beq (is_read i.work.kind) to_host) ≡ a → nat_lt i.work.len (offset + count) ≡ b → any_over i.over offset count ≡ c → is_full_at i offset ≡ d
    → (nat_eq count 0 || not (nat_eq (offset % 4) 0) || not (nat_eq (count % 4) 0)) ≡ e
    → (if a then Some WrongWay else if b then Some Overflow else if c then Some Twice else if d then Some Fragments else if e then Some BadCount else None) ≡ None → Fits i offset count to_host
fits_by i offset count to_host true b c d e ha hb hc hd he h = cc
fits_by i offset count to_host false true c d e ha hb hc hd he h = cc
fits_by i offset count to_host false false true d e ha hb hc hd he h = cc
fits_by i offset count to_host false false false true e ha hb hc hd he h = cc
fits_by i offset count to_host false false false false true ha hb hc hd he h = cc
fits_by i offset count to_host false false false false false ha hb hc hd he h =
    let outer = or_no (nat_eq count 0 || not (nat_eq (offset % 4) 0)) (not (nat_eq (count % 4) 0)) he in
    let inner = or_no (nat_eq count 0) (not (nat_eq (offset % 4) 0)) outer.0 in
    let none = eqb-false count 0 inner.0 in
    record {
      way = beq_same (is_read i.work.kind) to_host (not_no (beq (is_read i.work.kind) to_host) ha);
      within = ltb-false i.work.len (offset + count) hb;
      fresh = hc;
      full = hd;
      offset4 = eqb-true (offset % 4) 0 (not_no (nat_eq (offset % 4) 0) inner.1);
      count4 = eqb-true (count % 4) 0 (not_no (nat_eq (count % 4) 0) outer.1);
      some = elim (cases_lt 0 count) [ inl above ↦ above | inr zero ↦ absurd (none (omega arith)) ];
    }

pub fits : (i : Issue) (offset count : ℕ) (to_host : Bool) → transfer_fault i offset count to_host ≡ None → Fits i offset count to_host
fits i offset count to_host h =
    fits_by i offset count to_host (not (beq (is_read i.work.kind) to_host)) (nat_lt i.work.len (offset + count)) (any_over i.over offset count) (is_full_at i offset)
    (nat_eq count 0 || not (nat_eq (offset % 4) 0) || not (nat_eq (count % 4) 0)) refl refl refl refl refl h

of_fits : (dev s offset count : ℕ) (to_host : Bool) (i : Issue) → i.dev ≡ dev → Fits i offset count to_host → (is_outstanding i || is_under_way i) ≡ true → IsContextOf dev (new_context s offset count to_host) i
of_fits dev s offset count to_host i own f goes = record {
  of_dev = own;
  fits = f.within;
  next_dwords = f.offset4;
  left_dwords = f.count4;
  fresh = f.fresh;
  room = λ some. f.full;
  way = f.way;
  goes = goes;
  activates = λ h. absurd (false≢true h);
}

-- a DMA Setup
set_up_own : (dev s offset count : ℕ) (to_host : Bool) (i : Issue) (b : Bool) → nat_eq i.dev dev ≡ b → (o : Bool) → is_outstanding i ≡ o
    → setup_fault (if b then Some i else None) offset count to_host ≡ None → IsContextOf dev (new_context s offset count to_host) i
set_up_own dev s offset count to_host i false eb o eo h = cc
set_up_own dev s offset count to_host i true eb false eo h =
    let bad : Some NotOutstanding ≡ None = sym (ap (λ (b : Bool). if b then transfer_fault i offset count to_host else Some NotOutstanding) eo) ∙ h in
    cc
set_up_own dev s offset count to_host i true eb true eo h =
    let fault : transfer_fault i offset count to_host ≡ None = sym (ap (λ (b : Bool). if b then transfer_fault i offset count to_host else Some NotOutstanding) eo) ∙ h in
    of_fits dev s offset count to_host i (eqb-true i.dev dev eb) (fits i offset count to_host fault) (or_left (is_outstanding i) (is_under_way i) eo)

set_up_at : (dev s offset count : ℕ) (to_host : Bool) (o : Option Issue) → setup_fault (owned_by dev o) offset count to_host ≡ None → MatchOption o ⊥ (IsContextOf dev (new_context s offset count to_host))
set_up_at dev s offset count to_host None h = cc
set_up_at dev s offset count to_host (Some i) h = set_up_own dev s offset count to_host i (nat_eq i.dev dev) refl (is_outstanding i) refl h

pub set_up_inside : (dev s offset count : ℕ) (to_host : Bool) (t : Slots) (o : Option Issue) → o ≡ issue_at t s → IsTable t → s < 32 → setup_fault (owned_by dev o) offset count to_host ≡ None
    → IsContext dev t (new_context s offset count to_host)
set_up_inside dev s offset count to_host t o at is below h =
    (below, set_up_at dev s offset count to_host (issue_at t s) (ap (λ (x : Option Issue). setup_fault (owned_by dev x) offset count to_host) (sym at) ∙ h))

-- the fault that was found is the one of the device's slot
pub setup_tested : (dev s offset count : ℕ) (to_host : Bool) (t : Slots) (o : Option Issue) (r : Option SetupError) → o ≡ issue_at t s → IsTable t → s < 32
    → r ≡ setup_fault (owned_by dev o) offset count to_host → setup_fault (own_issue (slots_of dev t) s) offset count to_host ≡ r
setup_tested dev s offset count to_host t o r at is below h =
    ap (λ (x : Option Issue). setup_fault x offset count to_host) (own_at dev t s (omega (arith, below, is.slots)))
    ∙ ap (λ (x : Option Issue). setup_fault (owned_by dev x) offset count to_host) (sym at) ∙ sym h

pub setup_refused : (own : DeviceSlots) (s offset count : ℕ) (to_host auto : Bool) (fault : SetupError) → setup_fault (own_issue own s) offset count to_host ≡ Some fault → own ≡ after_setup own s offset count to_host auto
setup_refused own s offset count to_host auto fault h = sym (cond-true (is_some (setup_fault (own_issue own s) offset count to_host)) own _ (ap is_some h))

-- ---- a PIO Setup for a PIO data-out

out_needs : (k : Kind) → is_out k ≡ true → (needs_all k ≡ true) × (is_read k ≡ false)
out_needs QueuedRead h = absurd (false≢true h)
out_needs QueuedWrite h = absurd (false≢true h)
out_needs DmaIn h = absurd (false≢true h)
out_needs DmaOut h = absurd (false≢true h)
out_needs PioIn h = absurd (false≢true h)
out_needs PioOut h = (refl, refl)
out_needs NoData h = absurd (false≢true h)
out_needs Control h = absurd (false≢true h)

-- the slot of the PIO data-out that was sent
record Out (dev s : ℕ) (t : Slots) : Type 0 where
  below : s < 32
  first : waiting (slots_of dev t) ≡ Some s
  issue : Issue
  here : issue_at t s ≡ Some issue
  of_dev : issue.dev ≡ dev
  own : own_issue (slots_of dev t) s ≡ Some issue
  sent : issue.sent ≡ true
  out : is_out issue.work.kind ≡ true

some_same : (a b : ℕ) → Some a ≡ Some b → a ≡ b
some_same a b h = cc

if_some : (b : Bool) (a s : ℕ) → (if b then Some a else None) ≡ Some s → (b ≡ true) × (a ≡ s)
if_some true a s h = (refl, some_same a s h)
if_some false a s h = cc

out_by : (dev s : ℕ) (t : Slots) (o : Option ℕ) → waiting (slots_of dev t) ≡ o → match_some o None (λ slot. if holds is_out_issue (own_issue (slots_of dev t) slot) then Some slot else None) ≡ Some s
    → (waiting (slots_of dev t) ≡ Some s) × (holds is_out_issue (own_issue (slots_of dev t) s) ≡ true)
out_by dev s t None e h = cc
out_by dev s t (Some k) e h =
    let p = if_some (holds is_out_issue (own_issue (slots_of dev t) k)) k s h in
    (e ∙ ap Some p.1, ap (λ (n : ℕ). holds is_out_issue (own_issue (slots_of dev t) n)) (sym p.1) ∙ p.0)

out_of : (dev s : ℕ) (t : Slots) → IsTable t → sent_out (slots_of dev t) ≡ Some s → Out dev s t
out_of dev s t is h =
    let own : DeviceSlots = slots_of dev t in
    let p = out_by dev s t (waiting own) refl h in
    let low = lowest_is (λ slot. holds is_waiting (own_issue own slot)) 32 s p.0 in
    let lt : s < length t.issues = omega (arith, low.below, is.slots) in
    let f = found is_waiting dev s t lt low.passes in
    let at : own_issue own s ≡ Some f.issue = own_at dev t s lt ∙ ap (owned_by dev) f.at ∙ owned_own dev f.issue f.own in
    record {
      below = low.below;
      first = p.0;
      issue = f.issue;
      here = f.at;
      of_dev = f.own;
      own = at;
      sent = (and_parts f.issue.sent (not f.issue.answered) f.passes).0;
      out = sym (ap (holds is_out_issue) at) ∙ p.1;
    }

none_or : (o p : Option SetupError) → option_or o p ≡ None → o ≡ None
none_or None p h = refl
none_or (Some e) p h = cc

out_fits : (dev s count : ℕ) (to_host : Bool) (t : Slots) (d : Option Issue) → d ≡ issue_at t s → (o : Out dev s t) → match_some d (Some NotOutstanding) (out_fault count to_host) ≡ None
    → (out_fault count to_host o.issue ≡ None) × Fits o.issue (came o.issue) count to_host
out_fits dev s count to_host t d is o h =
    let at : d ≡ Some o.issue = is ∙ o.here in
    let fault : out_fault count to_host o.issue ≡ None = sym (ap (λ (x : Option Issue). match_some x (Some NotOutstanding) (out_fault count to_host)) at) ∙ h in
    (fault, fits o.issue (came o.issue) count to_host (none_or (transfer_fault o.issue (came o.issue) count to_host) (long_fault count) fault))

came_at : (dev s n : ℕ) (t : Slots) (d : Option Issue) → d ≡ issue_at t s → (o : Out dev s t) → n ≡ match_some d 0 came → n ≡ came o.issue
came_at dev s n t d is o h =
    let at : d ≡ Some o.issue = is ∙ o.here in
    h ∙ ap (λ (x : Option Issue). match_some x 0 came) at

pub out_inside : (dev s count : ℕ) (to_host : Bool) (t : Slots) (d : Option Issue) → d ≡ issue_at t s → (e : Option Issue) → e ≡ issue_at t s → (n : ℕ) → IsTable t → sent_out (slots_of dev t) ≡ Some s
    → match_some d (Some NotOutstanding) (out_fault count to_host) ≡ None → n ≡ match_some e 0 came
    → IsContext dev t (activated (new_context s n count false))
out_inside dev s count to_host t d di e ei n is first none came_is =
    let o = out_of dev s t is first in
    let f = (out_fits dev s count to_host t d di o none).1 in
    let kind = out_needs o.issue.work.kind o.out in
    let way : to_host ≡ false = sym f.way ∙ kind.1 in
    let it : IsContextOf dev (activated (new_context s (came o.issue) count false)) o.issue = record {
      of_dev = o.of_dev;
      fits = f.within;
      next_dwords = f.offset4;
      left_dwords = f.count4;
      fresh = f.fresh;
      room = λ some. f.full;
      way = kind.1;
      goes = or_right (is_outstanding o.issue) (is_under_way o.issue) (ap (λ (b : Bool). b && needs_all o.issue.work.kind) o.sent ∙ kind.0);
      activates = λ h. (refl, f.some);
    } in
    let there : IsContextOf dev (activated (new_context s n count false)) o.issue =
    subst (λ (k : ℕ). IsContextOf dev (activated (new_context s k count false)) o.issue) (sym (came_at dev s n t e ei o came_is)) it in
    (o.below, subst (λ (x : Option Issue). MatchOption x ⊥ (IsContextOf dev (activated (new_context s n count false)))) (sym o.here) there)

pub out_answers : (dev s count : ℕ) (to_host : Bool) (t : Slots) (d : Option Issue) → d ≡ issue_at t s → (e : Option Issue) → e ≡ issue_at t s → (n : ℕ) → IsTable t → sent_out (slots_of dev t) ≡ Some s
    → match_some d (Some NotOutstanding) (out_fault count to_host) ≡ None → n ≡ match_some e 0 came
    → out_setup (slots_of dev t) count to_host ≡ Ok (activated (new_context s n count false))
out_answers dev s count to_host t d di e ei n is first none came_is =
    let own : DeviceSlots = slots_of dev t in
    let o = out_of dev s t is first in
    let fault = (out_fits dev s count to_host t d di o none).0 in
    let bad : Result Context SetupError = Err NotOutstanding in
    ap (λ (x : Option ℕ). match_some x bad (λ slot. match_some (own_issue own slot) bad (out_context slot count to_host))) first
    ∙ ap (λ (x : Option Issue). match_some x bad (out_context s count to_host)) o.own
    ∙ ap (λ (x : Option SetupError). context_or x (dma_context s (came o.issue) count false true)) fault
    ∙ ap (λ (k : ℕ). Ok (activated (new_context s k count false))) (sym (came_at dev s n t e ei o came_is))

context_refused : (p : Option SetupError) (fault : SetupError) (c : Context) → p ≡ Some fault → context_or p c ≡ Err fault
context_refused p fault c is = ap (λ (x : Option SetupError). context_or x c) is

pub out_refuses : (dev s count : ℕ) (to_host : Bool) (t : Slots) (d : Option Issue) → d ≡ issue_at t s → (fault : SetupError) → IsTable t → sent_out (slots_of dev t) ≡ Some s
    → match_some d (Some NotOutstanding) (out_fault count to_host) ≡ Some fault → out_setup (slots_of dev t) count to_host ≡ Err fault
out_refuses dev s count to_host t d di fault is first refused =
    let own : DeviceSlots = slots_of dev t in
    let o = out_of dev s t is first in
    let at : d ≡ Some o.issue = di ∙ o.here in
    let why : out_fault count to_host o.issue ≡ Some fault = sym (ap (λ (x : Option Issue). match_some x (Some NotOutstanding) (out_fault count to_host)) at) ∙ refused in
    let bad : Result Context SetupError = Err NotOutstanding in
    ap (λ (x : Option ℕ). match_some x bad (λ slot. match_some (own_issue own slot) bad (out_context slot count to_host))) first
    ∙ ap (λ (x : Option Issue). match_some x bad (out_context s count to_host)) o.own
    ∙ context_refused (out_fault count to_host o.issue) fault (dma_context s (came o.issue) count false true) why

pub out_none : (own : DeviceSlots) (count : ℕ) (to_host : Bool) → sent_out own ≡ None → out_setup own count to_host ≡ Err NotOutstanding
out_none own count to_host h =
    let bad : Result Context SetupError = Err NotOutstanding in
    ap (λ (x : Option ℕ). match_some x bad (λ slot. match_some (own_issue own slot) bad (out_context slot count to_host))) h

pub out_stays : (own : DeviceSlots) (count : ℕ) (to_host : Bool) (fault : SetupError) → out_setup own count to_host ≡ Err fault → own ≡ after_setup_out own count to_host
out_stays own count to_host fault h = sym (ap (with_setup own) h)
