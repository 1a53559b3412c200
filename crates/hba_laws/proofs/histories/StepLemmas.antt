-- For `delivers`. What a device's part of the slots says after one happening.
use Rattle.std.proofs.Common.{◌≡◌, ℕ, ◌<◌, Bool, true, false, cond, eqb, [], ◌∷◌, ◌++◌, refl, sym, ap, subst, ◌∙◌, inl, inr, Option, Some, None}
use Rattle.std.proofs.{Common.arith, lemmas.Bool.{cases_Bool, cases_eq, eq-eqb, ne_eqb, eqb-false, false≢true, true≢false, and_parts}}
use Rattle.std.specs.{Prelude.{is_some, ◌&&◌, ◌||◌, not, if◌then◌else◌, Result, Ok, Err}, List.{range_with_len, list_all}, Option.option_map}
use Rattle.slots.specs.{Bytes.{is_over, is_whole}, Commands.{after_complete, after_sent, answered_issue, is_done, is_slot, sent_issue, with_answered}}
use Rattle.slots.specs.{Commands.with_sent, Setup.{after_setup_pio, begun, came, context_or, dma_context, is_outstanding, new_context, out_context}}
use Rattle.slots.specs.Setup.{out_fault, out_setup, whole_context, pio_fault, pio_issue, setup_fault, transfer_fault, with_own_context}
use Rattle.slots.specs.Slots.{DeviceSlots, Issue, context_unless, freed, has_bit, holds, is_control, is_done_issue, is_out_issue, is_pio}
use Rattle.slots.specs.Slots.{is_queued_issue, is_sent_pio, is_waiting, is_whole_issue, match_some, no_own_slots, own_issue, sent_out, sent_pio}
use Rattle.slots.specs.{Slots.waiting, Table.IsIssue, Work.{is_dma, is_out, is_queued, is_read, needs_all}, declared.answer.SetupError.SetupError}
use Rattle.slots.specs.declared.{answer.SetupError.TheVariants.NotOutstanding, table.Context.Context, work.Kind.{Kind, TheVariants.QueuedRead}}
use Rattle.slots.specs.declared.work.{Kind.TheVariants.{QueuedWrite, DmaIn, DmaOut, PioIn, PioOut, Control}, Work.Work}
use Rattle.slots.proofs.Door.{get-free, lowest_found, lowest_is}
use Rattle.hba_laws.specs.{Agreement.{Agrees, AreIssued, ContextAgrees, IssueAgrees, work_of_issue, work_of_transfer}, Delivering.begun_by}
use Rattle.hba_laws.specs.History.{Answered, Emptied, Event, History, Named, PioSetUp, Sent, SentControl, SetUp, Transfer, completes, filled}
use Rattle.hba_laws.specs.{History.{is_all_filled, is_at, issued, unless, waiting_in}, Between.{IsOwn, at_slot, frees}}
use Rattle.hba_laws.proofs.histories.{StandLemmas.some_inj, AgreeLemmas.{agrees_answered, agrees_freed, agrees_nobody, agrees_pio, agrees_sent}}
use Rattle.hba_laws.proofs.histories.AgreeLemmas.{agrees_set_up, context_answered, context_control, context_named, issue_answered, issue_control}
use Rattle.hba_laws.proofs.histories.{AgreeLemmas.{issue_named, others_calm}, ViewLemmas.{at_other, at_same, ext, held, holds_at, none_waits}}
use Rattle.hba_laws.proofs.histories.ViewLemmas.{own_below, own_freed, own_set}

-- a device's part of the slots, and the Status at the end of its block, are what a history says
pub record Says (own : DeviceSlots) (ends : Option ℕ) (past : History) : Type 0 where
  pub issued : AreIssued (own_issue own) past
  pub agrees : Agrees (own_issue own) own.context ends past

-- ---- what is issued

works_left : (o : Option Transfer) (p : Option Issue) (test : Work → Bool) (b : Bool) → option_map work_of_transfer o ≡ option_map work_of_issue p
    → ((i : Issue) → p ≡ Some i → test i.work ≡ b) → option_map work_of_transfer (match_some o None (λ t. unless (test t.work) (Some t))) ≡ option_map work_of_issue (unless b p)
works_left None None test b same tests = none_either b
  where
    none_either : (b : Bool) → None ≡ option_map work_of_issue (unless b None)
    none_either true = refl
    none_either false = refl
works_left None (Some i) test b same tests = cc
works_left (Some t) None test b same tests = cc
works_left (Some t) (Some i) test b same tests =
    let work : t.work ≡ i.work = some_inj t.work i.work same in
    ap (λ c. option_map work_of_transfer (unless c (Some t))) (ap test work ∙ tests i refl) ∙ by_case b work
  where
    by_case : (b : Bool) → t.work ≡ i.work → option_map work_of_transfer (unless b (Some t)) ≡ option_map work_of_issue (unless b (Some i))
    by_case true e = refl
    by_case false e = ap Some e

-- what completes by the history is what becomes free
pub frees_completed : (test : ℕ → Work → Bool) (F : ℕ → Bool) (issues : ℕ → Option Issue) (past : History) → AreIssued issues past
    → ((s : ℕ) (i : Issue) → issues s ≡ Some i → test s i.work ≡ F s)
    → (s : ℕ) → option_map work_of_transfer (match_some (issued s past) None (λ t. unless (test s t.work) (Some t))) ≡ option_map work_of_issue (frees F issues s)
frees_completed test F issues past w tests s = works_left (issued s past) (issues s) (test s) (F s) (w s) (tests s)

abbrev none_frees : ℕ → Bool
none_frees s = false

-- nothing completes
pub kept : (test : ℕ → Work → Bool) (issues : ℕ → Option Issue) (past : History) → AreIssued issues past → ((s : ℕ) (i : Issue) → issues s ≡ Some i → test s i.work ≡ false)
    → (s : ℕ) → option_map work_of_transfer (match_some (issued s past) None (λ t. unless (test s t.work) (Some t))) ≡ option_map work_of_issue (issues s)
kept test issues past w tests s = frees_completed test none_frees issues past w tests s

-- an issue changes, and not its work
pub works_marked : (issues : ℕ → Option Issue) (slot : ℕ) (j new : Issue) (past : History) → issues slot ≡ Some j → new.work ≡ j.work → AreIssued issues past
    → AreIssued (at_slot issues slot (Some new)) past
works_marked issues slot j new past at same w s = elim (cases_eq s slot) [
  | inl e ↦ w s ∙ ap (option_map work_of_issue) (ap issues e ∙ at) ∙ ap Some (sym same) ∙ sym (ap (option_map work_of_issue) (at_same issues slot s (Some new) e))
  | inr ne ↦ w s ∙ sym (ap (option_map work_of_issue) (at_other issues slot s (Some new) ne))
]

-- ---- whole

pub whole_is : (s : ℕ) (i : Issue) (context : Option Context) (past : History) → IssueAgrees s i context past → is_whole_issue i ≡ is_all_filled (filled s past) i.work.len
unfolding is_whole
whole_is s i context past x =
    ap (λ (f : ℕ → Bool). list_all f (range_with_len 0 i.work.len)) (ext (is_over i.over) (λ k. is_some (filled s past k)) x.over_is)

-- ---- the slot that waits

sent_waits : (i : Issue) → IsIssue i → is_sent_pio i ≡ true → (is_waiting i ≡ true) × (is_pio i.work.kind ≡ true)
sent_waits i is e =
    let p = and_parts i.sent (is_pio i.work.kind) e in
    elim (cases_Bool i.answered) [
      | inl answered ↦ absurd (pio_queued i.work.kind p.1 ((is.answers answered).0))
      | inr not_yet ↦ (ap (λ b. b && not i.answered) p.0 ∙ ap not not_yet, p.1)
    ]
  where
    pio_queued : (kind : Kind) → is_pio kind ≡ true → is_queued kind ≡ true → ⊥
    pio_queued PioIn p q = false≢true q
    pio_queued other p q = false≢true p

pub not_queued : (kind : Kind) → is_pio kind ≡ true → is_queued kind ≡ false
not_queued QueuedRead p = absurd (false≢true p)
not_queued QueuedWrite p = absurd (false≢true p)
not_queued DmaIn p = absurd (false≢true p)
not_queued DmaOut p = absurd (false≢true p)
not_queued PioOut p = absurd (false≢true p)
not_queued other p = refl

pub not_pio : (kind : Kind) → is_queued kind ≡ true → is_pio kind ≡ false
not_pio PioIn q = absurd (false≢true q)
not_pio other q = refl

dma_not_pio : (kind : Kind) → is_dma kind ≡ true → is_pio kind ≡ false
dma_not_pio DmaIn h = refl
dma_not_pio DmaOut h = refl
dma_not_pio _ h = absurd (false≢true h)

out_not_pio : (kind : Kind) → is_out kind ≡ true → is_pio kind ≡ false
out_not_pio PioOut h = refl
out_not_pio _ h = absurd (false≢true h)

pub control_no_dma : (kind : Kind) → is_control kind ≡ true → is_dma kind ≡ false
control_no_dma Control h = refl
control_no_dma _ h = absurd (false≢true h)

-- the Status at the end of the block that is kept as the command of an issue is transmitted
abbrev pub ends_after : Issue → Option ℕ → Option ℕ
ends_after j ends = if is_dma j.work.kind then None else ends

module _ (n : ℕ) (own : DeviceSlots) (ends : Option ℕ) (past : History) (is : IsOwn n own) (says : Says own ends past) where
  -- the PIO data-in that was sent is the one that waits
  pub pio_slot : (s : ℕ) (j : Issue) → own_issue own s ≡ Some j → is_sent_pio j ≡ true → sent_pio own ≡ Some s
  pio_slot s j at sent =
      let test : ℕ → Bool = λ k. holds is_sent_pio (own_issue own k) in
      lowest_found (λ k. holds is_sent_pio (own_issue own k)) 32 s (own_below n s own j is at) (holds_at is_sent_pio (own_issue own s) j at ∙ sent) (λ k lt. elim (cases_Bool (holds is_sent_pio (own_issue own k))) [
        | inr none ↦ none
        | inl other ↦
            let p = held is_sent_pio (own_issue own k) other in
            let k_waits = (sent_waits p.0 (is.issues k p.0 p.1) p.2).0 in
            let s_waits = (sent_waits j (is.issues s j at) sent).0 in
            absurd (false≢true (sym (others_calm (own_issue own) own.context ends past says.agrees s k j p.0 at s_waits p.1 (λ e. let z : k < k = omega (arith, lt, e) in omega (arith, z))) ∙ k_waits))
      ])

  -- ---- answers

  pub says_nobody : waiting own ≡ None → Says own ends (Answered ∷ past)
  says_nobody none =
      let calm = none_waits n own is none in
      record {
        issued = kept (λ s w. completes s Answered past w) (own_issue own) past says.issued (λ s i e.
            ap (λ b. b && not (is_queued i.work.kind) && (not (needs_all i.work.kind) || is_all_filled (filled s past) i.work.len))
            ((says.agrees.issues_agree s i e).waits_is ∙ calm s i e));
        agrees = agrees_nobody (own_issue own) own.context ends past says.agrees calm;
      }

  pub says_queued : (slot : ℕ) (j : Issue) → own_issue own slot ≡ Some j → is_waiting j ≡ true → is_queued_issue j ≡ true → Says (with_answered own slot) ends (Answered ∷ past)
  says_queued slot j at waits queued =
      let lt = own_below n slot own j is at in
      let view : own_issue (with_answered own slot) ≡ at_slot (own_issue own) slot (Some (answered_issue j)) =
      own_set own slot (option_map answered_issue (own_issue own slot)) (omega (arith, lt, is.long)) ∙ ap (λ o. at_slot (own_issue own) slot (option_map answered_issue o)) at in
      record {
        issued = subst (λ f. AreIssued f (Answered ∷ past)) (sym view) (kept (λ s w. completes s Answered past w) (at_slot (own_issue own) slot (Some (answered_issue j))) past
            (works_marked (own_issue own) slot j (answered_issue j) past at refl says.issued) none);
        agrees = subst (λ f. Agrees f own.context ends (Answered ∷ past)) (sym view) (agrees_answered (own_issue own) own.context ends past says.agrees slot j at waits);
      }
    where
      none : (s : ℕ) (i : Issue) → at_slot (own_issue own) slot (Some (answered_issue j)) s ≡ Some i → completes s Answered past i.work ≡ false
      none s i e = elim (cases_eq s slot) [
        | inl same ↦
            let is_j : answered_issue j ≡ i = some_inj (answered_issue j) i (sym (at_same (own_issue own) slot s (Some (answered_issue j)) same) ∙ e) in
            let q : is_queued i.work.kind ≡ true = ap (λ (v : Issue). is_queued v.work.kind) (sym is_j) ∙ queued in
            ap (λ b. is_at s (waiting_in past) && not b && (not (needs_all i.work.kind) || is_all_filled (filled s past) i.work.len)) q
            ∙ no_and (is_at s (waiting_in past)) (not (needs_all i.work.kind) || is_all_filled (filled s past) i.work.len)
        | inr ne ↦
            let was = sym (at_other (own_issue own) slot s (Some (answered_issue j)) ne) ∙ e in
            ap (λ b. b && not (is_queued i.work.kind) && (not (needs_all i.work.kind) || is_all_filled (filled s past) i.work.len))
            ((says.agrees.issues_agree s i was).waits_is ∙ others_calm (own_issue own) own.context ends past says.agrees slot s j i at waits was ne)
      ]
        where
          no_and : (a b : Bool) → (a && false && b) ≡ false
          no_and true b = refl
          no_and false b = refl

  -- slots become free by an event
  pub says_freed : (F : ℕ → Bool) (e : Event) → ((s : ℕ) → issued s (e ∷ past) ≡ match_some (issued s past) None (λ t. unless (completes s e past t.work) (Some t)))
      → ((s : ℕ) (i : Issue) → own_issue own s ≡ Some i → completes s e past i.work ≡ F s)
      → ((s : ℕ) (i : Issue) → F s ≡ false → own_issue own s ≡ Some i → IssueAgrees s i own.context (e ∷ past))
      → ((c : Context) → own.context ≡ Some c → ContextAgrees (own_issue own) c ends (e ∷ past))
      → Says (freed F own) ends (e ∷ past)
  says_freed F e heard tests agree contexts = record {
    issued = λ s. ap (option_map work_of_transfer) (heard s) ∙ frees_completed (λ s w. completes s e past w) F (own_issue own) past says.issued tests s
        ∙ sym (ap (λ (f : ℕ → Option Issue). option_map work_of_issue (f s)) (own_freed F own));
    agrees = subst (λ f. Agrees f (context_unless F own.context) ends (e ∷ past)) (sym (own_freed F own))
        (agrees_freed F (own_issue own) own.context ends (e ∷ past) agree contexts);
  }

  pub says_done : (slot : ℕ) (j : Issue) → own_issue own slot ≡ Some j → is_waiting j ≡ true → is_queued_issue j ≡ false → (needs_all j.work.kind && not (is_whole_issue j)) ≡ false
      → Says (freed (is_slot slot) own) ends (Answered ∷ past)
  says_done slot j at waits other fits =
      says_freed (is_slot slot) Answered (λ s. refl) tests
      (λ s i free e. issue_answered (own_issue own) own.context ends past says.agrees s i e
      (others_calm (own_issue own) own.context ends past says.agrees slot s j i at waits e (eqb-false s slot free)))
      (context_answered (own_issue own) own.context ends past says.agrees)
    where
      not_short : (p w : Bool) → (p && not w) ≡ false → (not p || w) ≡ true
      not_short false w e = refl
      not_short true true e = refl
      not_short true false e = absurd (true≢false e)

      tests : (s : ℕ) (i : Issue) → own_issue own s ≡ Some i → completes s Answered past i.work ≡ is_slot slot s
      tests s i e = elim (cases_eq s slot) [
        | inl same ↦
            let is_j : j ≡ i = some_inj j i (sym at ∙ ap (own_issue own) (sym same) ∙ e) in
            let x = says.agrees.issues_agree s i e in
            let w : is_waiting i ≡ true = ap is_waiting (sym is_j) ∙ waits in
            let q : is_queued i.work.kind ≡ false = ap (λ (v : Issue). is_queued v.work.kind) (sym is_j) ∙ other in
            let f : (not (needs_all i.work.kind) || is_all_filled (filled s past) i.work.len) ≡ true =
            ap (λ b. not (needs_all i.work.kind) || b) (sym (whole_is s i own.context past x))
            ∙ not_short (needs_all i.work.kind) (is_whole_issue i) (ap (λ (v : Issue). needs_all v.work.kind && not (is_whole_issue v)) (sym is_j) ∙ fits) in
            let b : is_slot slot s ≡ true = eq-eqb s slot same in
            all_of (is_at s (waiting_in past)) (is_queued i.work.kind) (not (needs_all i.work.kind) || is_all_filled (filled s past) i.work.len) (x.waits_is ∙ w) q f ∙ sym b
        | inr ne ↦
            let b : is_slot slot s ≡ false = ne_eqb s slot ne in
            ap (λ b. b && not (is_queued i.work.kind) && (not (needs_all i.work.kind) || is_all_filled (filled s past) i.work.len))
            ((says.agrees.issues_agree s i e).waits_is ∙ others_calm (own_issue own) own.context ends past says.agrees slot s j i at waits e ne) ∙ sym b
      ]
        where
          all_of : (a q f : Bool) → a ≡ true → q ≡ false → f ≡ true → (a && not q && f) ≡ true
          all_of a q f ha hq hf = rw (ha, hq, hf) refl

  -- ---- slots are named

  pub says_named : (mask : ℕ) → Says (after_complete mask own) ends (Named mask ∷ past)
  says_named mask = says_freed (is_done mask own) (Named mask) (λ s. refl)
      (λ s i e.
      ap (λ b. has_bit mask s && (is_queued i.work.kind && b)) (sym (whole_is s i own.context past (says.agrees.issues_agree s i e)))
      ∙ sym (ap (λ b. has_bit mask s && b) (holds_at is_done_issue (own_issue own s) i e)))
      (λ s i free e. issue_named (own_issue own) own.context ends past says.agrees mask s i e)
      (context_named (own_issue own) own.context ends past says.agrees mask)

  -- ---- setups

  pub says_set_up : (tag offset count : ℕ) (to_host auto : Bool) → setup_fault (own_issue own tag) offset count to_host ≡ None
      → Says (with_own_context own (dma_context tag offset count to_host auto)) None (SetUp tag offset count to_host ∷ past)
  says_set_up tag offset count to_host auto sound = by_issue (own_issue own tag) refl sound
    where
      by_test : (j : Issue) → own_issue own tag ≡ Some j → (b : Bool) → is_outstanding j ≡ b → cond b (transfer_fault j offset count to_host) (Some NotOutstanding) ≡ None
          → Says (with_own_context own (dma_context tag offset count to_host auto)) None (SetUp tag offset count to_host ∷ past)
      by_test j at false out e = cc
      by_test j at true out e = record {
        issued = kept (λ s w. false) (own_issue own) past says.issued (λ s i at. refl);
        agrees = agrees_set_up (own_issue own) own.context ends past says.agrees tag offset count to_host auto j at (not_pio j.work.kind ((and_parts (is_queued_issue j) j.answered out).0));
      }

      by_issue : (o : Option Issue) → own_issue own tag ≡ o → setup_fault o offset count to_host ≡ None
          → Says (with_own_context own (dma_context tag offset count to_host auto)) None (SetUp tag offset count to_host ∷ past)
      by_issue None at e = cc
      by_issue (Some j) at e = by_test j at (is_outstanding j) refl e

  pub says_pio : (count : ℕ) (to_host : Bool) (status : ℕ) → pio_fault (pio_issue own) count to_host ≡ None
      → Says (after_setup_pio own count to_host) (Some status) (PioSetUp count to_host status ∷ past)
  says_pio count to_host status sound = by_slot (sent_pio own) refl
    where
      after : (slot : ℕ) (j : Issue) → sent_pio own ≡ Some slot → own_issue own slot ≡ Some j → after_setup_pio own count to_host ≡ with_own_context own (new_context slot (came j) count to_host)
      after slot j first at =
          ap (λ o. cond (is_some o) own (match_some (sent_pio own) own (λ slot. match_some (own_issue own slot) own (λ issue. with_own_context own (new_context slot (came issue) count to_host))))) sound
          ∙ ap (λ o. match_some o own (λ slot. match_some (own_issue own slot) own (λ issue. with_own_context own (new_context slot (came issue) count to_host)))) first
          ∙ ap (λ o. match_some o own (λ issue. with_own_context own (new_context slot (came issue) count to_host))) at

      by_slot : (o : Option ℕ) → sent_pio own ≡ o → Says (after_setup_pio own count to_host) (Some status) (PioSetUp count to_host status ∷ past)
      by_slot None first = let bad : Some NotOutstanding ≡ None = sym (ap (λ o. pio_fault (match_some o None (own_issue own)) count to_host) first) ∙ sound in cc
      by_slot (Some slot) first =
          let low = lowest_is (λ k. holds is_sent_pio (own_issue own k)) 32 slot first in
          let p = held is_sent_pio (own_issue own slot) low.passes in
          let w = sent_waits p.0 (is.issues slot p.0 p.1) p.2 in
          subst (λ (o : DeviceSlots). Says o (Some status) (PioSetUp count to_host status ∷ past)) (sym (after slot p.0 first p.1)) (record {
            issued = kept (λ s w. false) (own_issue own) past says.issued (λ s i at. refl);
            agrees = agrees_pio (own_issue own) own.context ends past says.agrees slot count to_host status p.0 p.1 w.0 w.1;
          })

  -- a PIO Setup is accepted for a PIO data-out
  pub says_out : (count : ℕ) (to_host : Bool) (c : Context) → out_setup own count to_host ≡ Ok c → Says (with_own_context own c) None (SetUp c.slot c.next c.left c.to_host ∷ past)
  says_out count to_host c up = by_slot (sent_out own) refl up
    where
      bad : Result Context SetupError
      bad = Err NotOutstanding

      is_out_there : (slot : ℕ) (o : Option ℕ) → match_some o None (λ k. if holds is_out_issue (own_issue own k) then Some k else None) ≡ Some slot → holds is_out_issue (own_issue own slot) ≡ true
      is_out_there slot None e = cc
      is_out_there slot (Some k) e = by_test (holds is_out_issue (own_issue own k)) refl e
        where
          by_test : (b : Bool) → holds is_out_issue (own_issue own k) ≡ b → (if b then Some k else None) ≡ Some slot → holds is_out_issue (own_issue own slot) ≡ true
          by_test true h f = let same : k ≡ slot = some_inj k slot f in ap (λ n. holds is_out_issue (own_issue own n)) (sym same) ∙ h
          by_test false h f = cc

      by_fault : (slot : ℕ) (j : Issue) → own_issue own slot ≡ Some j → is_out j.work.kind ≡ true → (o : Option SetupError) → context_or o (dma_context slot (came j) count false true) ≡ Ok c
          → Says (with_own_context own c) None (SetUp c.slot c.next c.left c.to_host ∷ past)
      by_fault slot j at kind None e =
          let same : dma_context slot (came j) count false true ≡ c = cc in
          subst (λ (x : Context). Says (with_own_context own x) None (SetUp x.slot x.next x.left x.to_host ∷ past)) same (record {
            issued = kept (λ s w. false) (own_issue own) past says.issued (λ s i at. refl);
            agrees = agrees_set_up (own_issue own) own.context ends past says.agrees slot (came j) count false true j at (out_not_pio j.work.kind kind);
          })
      by_fault slot j at kind (Some x) e = cc

      by_issue : (slot : ℕ) (o : Option Issue) → own_issue own slot ≡ o → holds is_out_issue o ≡ true → match_some o bad (out_context slot count to_host) ≡ Ok c
          → Says (with_own_context own c) None (SetUp c.slot c.next c.left c.to_host ∷ past)
      by_issue slot None at kind e = cc
      by_issue slot (Some j) at kind e = by_fault slot j at kind (out_fault count to_host j) e

      by_slot : (o : Option ℕ) → sent_out own ≡ o → match_some o bad (λ slot. match_some (own_issue own slot) bad (out_context slot count to_host)) ≡ Ok c
          → Says (with_own_context own c) None (SetUp c.slot c.next c.left c.to_host ∷ past)
      by_slot None first e = cc
      by_slot (Some slot) first e = by_issue slot (own_issue own slot) refl (is_out_there slot (waiting own) first) e

  -- ---- commands go out

  says_plain : (slot : ℕ) (j : Issue) → own_issue own slot ≡ Some j → j.sent ≡ false → waiting own ≡ None → Says (with_sent own slot) ends (Sent slot ∷ past)
  says_plain slot j at unsent none =
      let lt = own_below n slot own j is at in
      let view : own_issue (with_sent own slot) ≡ at_slot (own_issue own) slot (Some (sent_issue j)) =
      own_set own slot (option_map sent_issue (own_issue own slot)) (omega (arith, lt, is.long)) ∙ ap (λ o. at_slot (own_issue own) slot (option_map sent_issue o)) at in
      record {
        issued = subst (λ f. AreIssued f (Sent slot ∷ past)) (sym view) (kept (λ s w. false) (at_slot (own_issue own) slot (Some (sent_issue j))) past
            (works_marked (own_issue own) slot j (sent_issue j) past at refl says.issued) (λ s i e. refl));
        agrees = subst (λ f. Agrees f own.context ends (Sent slot ∷ past)) (sym view)
            (agrees_sent (own_issue own) own.context ends past says.agrees slot j at unanswered (none_waits n own is none));
      }
    where
      unanswered : j.answered ≡ false
      unanswered = elim (cases_Bool j.answered) [
        | inr no_answer ↦ no_answer
        | inl answered ↦ absurd (false≢true (sym unsent ∙ ((is.issues slot j at).answers answered).1))
      ]

  pub says_sent : (slot : ℕ) (j : Issue) → own_issue own slot ≡ Some j → j.sent ≡ false → is_control j.work.kind ≡ false → waiting own ≡ None
      → Says (after_sent own slot) (ends_after j ends) (begun_by slot (Some j) ++ Sent slot ∷ past)
  says_sent slot j at unsent other none =
      let sent : DeviceSlots = with_sent own slot in
      let begins : Issue → DeviceSlots = λ issue. begun slot issue.work sent in
      let after : after_sent own slot ≡ begins j =
      ap (λ b. cond b (freed (is_slot slot) own) (match_some (own_issue own slot) sent begins)) (holds_at (λ issue. is_control issue.work.kind) (own_issue own slot) j at ∙ other)
      ∙ ap (λ (o : Option Issue). match_some o sent begins) at in
      subst (λ (o : DeviceSlots). Says o (ends_after j ends) (begun_by slot (Some j) ++ Sent slot ∷ past)) (sym after) (by_dma (is_dma j.work.kind) refl)
    where
      there : own_issue (with_sent own slot) slot ≡ Some (sent_issue j)
      there =
          let lt = own_below n slot own j is at in
          ap (λ (f : ℕ → Option Issue). f slot) (own_set own slot (option_map sent_issue (own_issue own slot)) (omega (arith, lt, is.long))) ∙ at_same (own_issue own) slot slot _ refl ∙ ap (option_map sent_issue) at

      by_dma : (b : Bool) → is_dma j.work.kind ≡ b
          → Says (if b then with_own_context (with_sent own slot) (whole_context slot j.work) else with_sent own slot) (if b then None else ends)
          ((if b then SetUp slot 0 j.work.len (is_read j.work.kind) ∷ [] else []) ++ Sent slot ∷ past)
      by_dma false e = says_plain slot j at unsent none
      by_dma true e =
          let plain = says_plain slot j at unsent none in
          record {
            issued = kept (λ s w. false) (own_issue (with_sent own slot)) (Sent slot ∷ past) plain.issued (λ s i at. refl);
            agrees = agrees_set_up (own_issue (with_sent own slot)) (with_sent own slot).context ends (Sent slot ∷ past) plain.agrees slot 0 j.work.len (is_read j.work.kind) false (sent_issue j) there (dma_not_pio j.work.kind e);
          }

  pub says_control : (slot : ℕ) (j : Issue) → own_issue own slot ≡ Some j → is_control j.work.kind ≡ true → Says (after_sent own slot) ends (SentControl slot ∷ past)
  says_control slot j at control =
      let after : after_sent own slot ≡ freed (is_slot slot) own =
      ap (λ b. cond b (freed (is_slot slot) own) (match_some (own_issue own slot) (with_sent own slot) (λ issue. begun slot issue.work (with_sent own slot)))) (holds_at (λ issue. is_control issue.work.kind) (own_issue own slot) j at ∙ control) in
      subst (λ (o : DeviceSlots). Says o ends (SentControl slot ∷ past)) (sym after) (record {
        issued = λ s. gone s ∙ sym (ap (λ (f : ℕ → Option Issue). option_map work_of_issue (f s)) (own_freed (is_slot slot) own));
        agrees = subst (λ f. Agrees f (context_unless (is_slot slot) own.context) ends (SentControl slot ∷ past)) (sym (own_freed (is_slot slot) own))
            (agrees_freed (is_slot slot) (own_issue own) own.context ends (SentControl slot ∷ past)
            (λ s i free e. issue_control (own_issue own) own.context ends past says.agrees slot s i e)
            (context_control (own_issue own) own.context ends past says.agrees slot));
      })
    where
      gone : (s : ℕ) → option_map work_of_transfer (unless (eqb slot s) (issued s past)) ≡ option_map work_of_issue (unless (eqb s slot) (own_issue own s))
      gone s = elim (cases_eq s slot) [
        | inl e ↦
            ap (λ b. option_map work_of_transfer (unless b (issued s past))) (eq-eqb slot s (sym e))
            ∙ sym (ap (λ b. option_map work_of_issue (unless b (own_issue own s))) (eq-eqb s slot e))
        | inr ne ↦
            ap (λ b. option_map work_of_transfer (unless b (issued s past))) (ne_eqb slot s (λ e. ne (sym e))) ∙ says.issued s
            ∙ sym (ap (λ b. option_map work_of_issue (unless b (own_issue own s))) (ne_eqb s slot ne))
      ]

-- ---- nothing is issued

pub says_emptied : (ends : Option ℕ) (past : History) → Says no_own_slots ends (Emptied ∷ past)
says_emptied ends past = record {
  issued = λ s. ap (option_map work_of_issue) (sym (get-free 32 s));
  agrees = record {
    issues_agree = λ s i e. let bad : None ≡ Some i = sym (get-free 32 s) ∙ e in cc;
    context_agrees = λ c e. cc;
  };
}
