-- For `delivers`. How issues, context and history agree after one change.
use Rattle.std.proofs.Common.{◌≡◌, ◌≢◌, ℕ, ◌+◌, Bool, true, false, eqb, ◌∷◌, refl, sym, ap, subst, ◌∙◌, inl, inr, Option, Some, None, arith}
use Rattle.std.proofs.lemmas.Bool.{cases_eq, eq-eqb, ne_eqb, eqb-true, false≢true}
use Rattle.std.specs.Prelude.{MatchOption, is_some, ◌&&◌, not}
use Rattle.slots.specs.{Bytes.{came_of, is_over}, Commands.{answered_issue, sent_issue}, Setup.{came, dma_context, new_context}, Slots.Issue}
use Rattle.slots.specs.{Slots.{context_unless, holds, is_pio, is_waiting, match_some}, declared.{table.Context.Context, work.Work.Work}}
use Rattle.hba_laws.specs.{Agreement.{Agrees, ContextAgrees, IssueAgrees, SetupAgrees, is_for, is_pio_issue}, History.{Answered, History, Named}}
use Rattle.hba_laws.specs.History.{PioSetUp, Sent, SentControl, SetUp, Setup, bytes_of, carried, filled, is_at, is_set_up, last_setup, pio_setup}
use Rattle.hba_laws.specs.{History.{unless, waiting_in}, Between.{at_slot, frees}}
use Rattle.hba_laws.proofs.histories.{StandLemmas.some_inj, ViewLemmas.{at_other, at_same}}

pub unless_some : {A : Type 0} (b : Bool) (o : Option A) (a : A) → unless b o ≡ Some a → (b ≡ false) × (o ≡ Some a)
unless_some true o a e = cc
unless_some false o a e = (refl, e)

-- the slot is the one at which it is
pub at_is : (s : ℕ) (o : Option ℕ) → is_at s o ≡ true → o ≡ Some s
at_is s None e = absurd (false≢true e)
at_is s (Some k) e = ap Some (eqb-true k s e)

-- ---- the context stays

pub same_setup : (c : Context) (ends : Option ℕ) (past past2 : History) → last_setup past2 ≡ last_setup past → carried past2 ≡ carried past
    → MatchOption (last_setup past) ⊥ (SetupAgrees c ends past) → MatchOption (last_setup past2) ⊥ (SetupAgrees c ends past2)
same_setup c ends past past2 last count h = subst (λ o. MatchOption o ⊥ (SetupAgrees c ends past2)) (sym last) (by_setup (last_setup past) h)
  where
    by_setup : (o : Option Setup) → MatchOption o ⊥ (SetupAgrees c ends past) → MatchOption o ⊥ (SetupAgrees c ends past2)
    by_setup None h = h
    by_setup (Some g) h = record {
      slot_is = h.slot_is;
      way_is = h.way_is;
      next_is = ap (λ n. g.offset + n) count ∙ h.next_is;
      left_is = ap (λ n. n + c.left) count ∙ h.left_is;
      ends_is = h.ends_is;
    }

-- other issues, with the same in the context's slot
pub context_in : (issues after : ℕ → Option Issue) (c : Context) (ends : Option ℕ) (past past2 : History) → after c.slot ≡ issues c.slot
    → last_setup past2 ≡ last_setup past → carried past2 ≡ carried past → ContextAgrees issues c ends past → ContextAgrees after c ends past2
context_in issues after c ends past past2 same last count x = record {
  of_setup = same_setup c ends past past2 last count x.of_setup;
  of_issue = ap is_some same ∙ x.of_issue;
  of_kind = ap (holds is_pio_issue) same ∙ x.of_kind;
}

-- the issue of a slot changes, but not its work
pub context_marked : (issues : ℕ → Option Issue) (s : ℕ) (i new : Issue) (c : Context) (ends : Option ℕ) (past past2 : History) → issues s ≡ Some i → new.work ≡ i.work
    → last_setup past2 ≡ last_setup past → carried past2 ≡ carried past → ContextAgrees issues c ends past → ContextAgrees (at_slot issues s (Some new)) c ends past2
context_marked issues s i new c ends past past2 here same last count x = elim (cases_eq c.slot s) [
  | inr ne ↦ context_in issues (at_slot issues s (Some new)) c ends past past2 (at_other issues s c.slot (Some new) ne) last count x
  | inl e ↦ record {
    of_setup = same_setup c ends past past2 last count x.of_setup;
    of_issue = ap is_some (at_same issues s c.slot (Some new) e);
    of_kind =
        ap (holds is_pio_issue) (at_same issues s c.slot (Some new) e) ∙ ap (λ (w : Work). is_pio w.kind) same
        ∙ sym (ap (holds is_pio_issue) (ap issues e ∙ here)) ∙ x.of_kind;
  }
]

-- ---- slots become free

was_context : (F : ℕ → Bool) (context : Option Context) (c : Context) → context_unless F context ≡ Some c → (F c.slot ≡ false) × (context ≡ Some c)
was_context F None c e = cc
was_context F (Some x) c e =
    let p = unless_some (F x.slot) (Some x) c e in
    (ap (λ (y : Context). F y.slot) (sym (some_inj x c p.1)) ∙ p.0, p.1)

for_left : (F : ℕ → Bool) (s : ℕ) (context : Option Context) → F s ≡ false → is_for s (context_unless F context) ≡ is_for s context
for_left F s None kept = refl
for_left F s (Some c) kept = by_test (F c.slot) refl
  where
    by_test : (b : Bool) → F c.slot ≡ b → is_for s (unless b (Some c)) ≡ eqb c.slot s
    by_test false e = refl
    by_test true e = sym (ne_eqb c.slot s (λ same. false≢true (sym kept ∙ ap F (sym same) ∙ e)))

pub agrees_freed : (F : ℕ → Bool) (issues : ℕ → Option Issue) (context : Option Context) (ends : Option ℕ) (past : History)
    → ((s : ℕ) (i : Issue) → F s ≡ false → issues s ≡ Some i → IssueAgrees s i context past)
    → ((c : Context) → context ≡ Some c → ContextAgrees issues c ends past)
    → Agrees (frees F issues) (context_unless F context) ends past
agrees_freed F issues context ends past agree contexts = record {
  issues_agree = λ s i e.
      let p = unless_some (F s) (issues s) i e in
      let x = agree s i p.0 p.1 in
      record { over_is = x.over_is; came_is = x.came_is; waits_is = x.waits_is; set_up_is = x.set_up_is ∙ sym (for_left F s context p.0) };
  context_agrees = λ c e.
      let p = was_context F context c e in
      let kept : frees F issues c.slot ≡ issues c.slot = ap (λ b. unless b (issues c.slot)) p.0 in
      context_in issues (frees F issues) c ends past past kept refl refl (contexts c p.1);
}

-- ---- what is the same after an event that moves no bytes

-- an issue that changes in nothing but in whether it waits
pub issue_as : (s : ℕ) (i new : Issue) (context : Option Context) (past past2 : History) → new.over ≡ i.over → new.work ≡ i.work
    → filled s past2 ≡ filled s past → bytes_of s past2 ≡ bytes_of s past → is_set_up s past2 ≡ is_set_up s past
    → is_at s (waiting_in past2) ≡ is_waiting new → IssueAgrees s i context past → IssueAgrees s new context past2
issue_as s i new context past past2 over work fill bytes up waits x = record {
  over_is = λ k. ap (λ o. is_over o k) over ∙ x.over_is k ∙ sym (ap (λ (f : ℕ → Option ℕ). is_some (f k)) fill);
  came_is = ap (λ o. came_of o new.work.len) over ∙ ap (λ (w : Work). came_of i.over w.len) work ∙ x.came_is ∙ sym bytes;
  waits_is = waits;
  set_up_is = up ∙ x.set_up_is;
}

module _ (issues : ℕ → Option Issue) (context : Option Context) (ends : Option ℕ) (past : History) (a : Agrees issues context ends past) where
  -- a DMA Activate
  pub agrees_activated : (c new : Context) → context ≡ Some c → new.slot ≡ c.slot → new.next ≡ c.next → new.left ≡ c.left → new.to_host ≡ c.to_host
      → Agrees issues (Some new) ends past
  agrees_activated c new now slot next left way = record {
    issues_agree = λ s i e.
        let x = a.issues_agree s i e in
        record { over_is = x.over_is; came_is = x.came_is; waits_is = x.waits_is; set_up_is = x.set_up_is ∙ ap (is_for s) now ∙ sym (ap (λ k. eqb k s) slot) };
    context_agrees = λ d e.
        let x = a.context_agrees c now in
        let g : MatchOption (last_setup past) ⊥ (SetupAgrees new ends past) = by_setup (last_setup past) x.of_setup in
        subst (λ d. ContextAgrees issues d ends past) (some_inj new d e)
        (record { of_setup = g; of_issue = ap (λ k. is_some (issues k)) slot ∙ x.of_issue; of_kind = ap (λ k. holds is_pio_issue (issues k)) slot ∙ x.of_kind });
  }
    where
      by_setup : (o : Option Setup) → MatchOption o ⊥ (SetupAgrees c ends past) → MatchOption o ⊥ (SetupAgrees new ends past)
      by_setup None h = h
      by_setup (Some g) h = record {
        slot_is = h.slot_is ∙ sym slot;
        way_is = h.way_is ∙ sym way;
        next_is = h.next_is ∙ sym next;
        left_is = ap (λ n. carried past + n) left ∙ h.left_is;
        ends_is = h.ends_is;
      }

  -- slots are named, and none is freed yet
  pub issue_named : (mask s : ℕ) (i : Issue) → issues s ≡ Some i → IssueAgrees s i context (Named mask ∷ past)
  issue_named mask s i e = let x = a.issues_agree s i e in issue_as s i i context past (Named mask ∷ past) refl refl refl refl refl x.waits_is x

  pub context_named : (mask : ℕ) (c : Context) → context ≡ Some c → ContextAgrees issues c ends (Named mask ∷ past)
  context_named mask c e = context_in issues issues c ends past (Named mask ∷ past) refl refl refl (a.context_agrees c e)

  -- a Control goes out
  pub issue_control : (slot s : ℕ) (i : Issue) → issues s ≡ Some i → IssueAgrees s i context (SentControl slot ∷ past)
  issue_control slot s i e = let x = a.issues_agree s i e in issue_as s i i context past (SentControl slot ∷ past) refl refl refl refl refl x.waits_is x

  pub context_control : (slot : ℕ) (c : Context) → context ≡ Some c → ContextAgrees issues c ends (SentControl slot ∷ past)
  context_control slot c e = context_in issues issues c ends past (SentControl slot ∷ past) refl refl refl (a.context_agrees c e)

  -- an answer leaves none waiting
  pub issue_answered : (s : ℕ) (i : Issue) → issues s ≡ Some i → is_waiting i ≡ false → IssueAgrees s i context (Answered ∷ past)
  issue_answered s i e calm = let x = a.issues_agree s i e in issue_as s i i context past (Answered ∷ past) refl refl refl refl refl (sym calm) x

  pub context_answered : (c : Context) → context ≡ Some c → ContextAgrees issues c ends (Answered ∷ past)
  context_answered c e = context_in issues issues c ends past (Answered ∷ past) refl refl refl (a.context_agrees c e)

  -- where one slot waits, no other does
  pub others_calm : (slot s : ℕ) (j i : Issue) → issues slot ≡ Some j → is_waiting j ≡ true → issues s ≡ Some i → s ≢ slot → is_waiting i ≡ false
  others_calm slot s j i at waits e ne =
      let here : waiting_in past ≡ Some slot = at_is slot (waiting_in past) ((a.issues_agree slot j at).waits_is ∙ waits) in
      sym ((a.issues_agree s i e).waits_is) ∙ ap (is_at s) here ∙ ne_eqb slot s (λ same. ne (sym same))

  no_and : (b : Bool) → (b && false) ≡ false
  no_and true = refl
  no_and false = refl

  -- nobody waits for the answer
  pub agrees_nobody : ((s : ℕ) (i : Issue) → issues s ≡ Some i → is_waiting i ≡ false) → Agrees issues context ends (Answered ∷ past)
  agrees_nobody calm = record { issues_agree = λ s i e. issue_answered s i e (calm s i e); context_agrees = context_answered }

  -- a queued command is answered
  pub agrees_answered : (slot : ℕ) (j : Issue) → issues slot ≡ Some j → is_waiting j ≡ true
      → Agrees (at_slot issues slot (Some (answered_issue j))) context ends (Answered ∷ past)
  agrees_answered slot j at waits = record {
    issues_agree = λ s i e. elim (cases_eq s slot) [
      | inl same ↦
          let is : answered_issue j ≡ i = some_inj (answered_issue j) i (sym (at_same issues slot s (Some (answered_issue j)) same) ∙ e) in
          subst (λ v. IssueAgrees s v context (Answered ∷ past)) is
          (issue_as s j (answered_issue j) context past (Answered ∷ past) refl refl refl refl refl (sym (no_and j.sent)) (a.issues_agree s j (ap issues same ∙ at)))
      | inr ne ↦
          let was = sym (at_other issues slot s (Some (answered_issue j)) ne) ∙ e in
          issue_answered s i was (others_calm slot s j i at waits was ne)
    ];
    context_agrees = λ c e. context_marked issues slot j (answered_issue j) c ends past (Answered ∷ past) at refl refl refl (a.context_agrees c e);
  }

  -- a command goes out, and none waited
  pub agrees_sent : (slot : ℕ) (j : Issue) → issues slot ≡ Some j → j.answered ≡ false → ((s : ℕ) (i : Issue) → issues s ≡ Some i → is_waiting i ≡ false)
      → Agrees (at_slot issues slot (Some (sent_issue j))) context ends (Sent slot ∷ past)
  agrees_sent slot j at unanswered calm = record {
    issues_agree = λ s i e. elim (cases_eq s slot) [
      | inl same ↦
          let is : sent_issue j ≡ i = some_inj (sent_issue j) i (sym (at_same issues slot s (Some (sent_issue j)) same) ∙ e) in
          subst (λ v. IssueAgrees s v context (Sent slot ∷ past)) is
          (issue_as s j (sent_issue j) context past (Sent slot ∷ past) refl refl refl refl refl
          (eq-eqb slot s (sym same) ∙ sym (ap not unanswered)) (a.issues_agree s j (ap issues same ∙ at)))
      | inr ne ↦
          let was = sym (at_other issues slot s (Some (sent_issue j)) ne) ∙ e in
          issue_as s i i context past (Sent slot ∷ past) refl refl refl refl refl (ne_eqb slot s (λ is. ne (sym is)) ∙ sym (calm s i was)) (a.issues_agree s i was)
    ];
    context_agrees = λ c e. context_marked issues slot j (sent_issue j) c ends past (Sent slot ∷ past) at refl refl refl (a.context_agrees c e);
  }

  -- a DMA Setup is accepted for a queued command
  pub agrees_set_up : (tag offset count : ℕ) (to_host auto : Bool) (j : Issue) → issues tag ≡ Some j → is_pio j.work.kind ≡ false
      → Agrees issues (Some (dma_context tag offset count to_host auto)) None (SetUp tag offset count to_host ∷ past)
  agrees_set_up tag offset count to_host auto j at queued = record {
    issues_agree = λ s i e.
        let x = a.issues_agree s i e in
        record { over_is = x.over_is; came_is = x.came_is; waits_is = x.waits_is; set_up_is = refl };
    context_agrees = λ c e. subst (λ d. ContextAgrees issues d None (SetUp tag offset count to_host ∷ past)) (some_inj (dma_context tag offset count to_host auto) c e)
        (record {
          of_setup = record { slot_is = refl; way_is = refl; next_is = omega arith; left_is = omega arith; ends_is = refl };
          of_issue = ap is_some at;
          of_kind = ap (holds is_pio_issue) at ∙ queued;
        });
  }

  -- a PIO Setup is accepted, and goes on where the bytes of the slot that waits end
  pub agrees_pio : (slot count : ℕ) (to_host : Bool) (status : ℕ) (j : Issue) → issues slot ≡ Some j → is_waiting j ≡ true → is_pio j.work.kind ≡ true
      → Agrees issues (Some (new_context slot (came j) count to_host)) (Some status) (PioSetUp count to_host status ∷ past)
  agrees_pio slot count to_host status j at waits pio =
      let y = a.issues_agree slot j at in
      let here : waiting_in past ≡ Some slot = at_is slot (waiting_in past) (y.waits_is ∙ waits) in
      let g : Setup = pio_setup slot (bytes_of slot past) count to_host status in
      let last : match_some (waiting_in past) None (λ s. Some (pio_setup s (bytes_of s past) count to_host status)) ≡ Some g =
      ap (λ o. match_some o None (λ s. Some (pio_setup s (bytes_of s past) count to_host status))) here in
      record {
        issues_agree = λ s i e.
            let x = a.issues_agree s i e in
            record { over_is = x.over_is; came_is = x.came_is; waits_is = x.waits_is; set_up_is = ap (is_at s) here };
        context_agrees = λ c e. subst (λ d. ContextAgrees issues d (Some status) (PioSetUp count to_host status ∷ past)) (some_inj (new_context slot (came j) count to_host) c e)
            (record {
              of_setup = subst (λ o. MatchOption o ⊥ (SetupAgrees (new_context slot (came j) count to_host) (Some status) (PioSetUp count to_host status ∷ past))) (sym last)
                  (record { slot_is = refl; way_is = refl; next_is = omega (arith, y.came_is); left_is = omega arith; ends_is = refl });
              of_issue = ap is_some at;
              of_kind = ap (holds is_pio_issue) at ∙ pio;
            });
      }
