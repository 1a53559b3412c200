-- For `done_was_reported`. Over turns of the host, what ends as Done was reported, and was submitted as it is.
use Rattle.std.proofs.{Common.{◌≡◌, ℕ, ◌⊎◌, true, List, [], ◌∷◌, refl, sym, ◌∙◌, ap, subst, inl, inr, Some}, lemmas.Bool.{and_parts, eqb-true}}
use Rattle.std.proofs.lemmas.Bool.{false≢true}
use Rattle.std.specs.Prelude.{◌==◌}
use Rattle.host_memory.specs.Memory.{IsHostMemory, Memory}
use Rattle.slots.specs.Slots.{has_bit}
use Rattle.hba_fbs.specs.{declared.report.TakeReport.TakeReport, Taking.port_of}
use Rattle.hba_driver.specs.declared.{mode.Mode.Mode, request.{Completion.Completion, Outcome.TheVariants.Done, Request.Request}, slot.Phase.Phase}
use Rattle.hba_driver.specs.{declared.slot.Phase.TheVariants.{Waits, Issued, Ended}, Drivers.{Entry, entry_at, rephased}, Events.opening_host_in}
use Rattle.hba_driver.specs.{HostTurns.{Does, DoesAll, Host, HostTurn, Took, Pushed, Submitted, Polled}, Reported.{DoneWasReported, IsTurnOf}}
use Rattle.hba_driver.specs.{Reported.WasReported, Submits.new_entry, Between.{AllStand, Fresh, IsOnWayIn, PollFacts, Reports, Stands}}
use Rattle.hba_driver.proofs.accepted.AcceptLemmas as accept
use Rattle.hba_driver.proofs.{accepted.AcceptLemmas.{way_opens, way_turn}, requests.{ComeLemmas.comes_from, HistoryLemmas.poll_facts}}
use Rattle.hba_driver.proofs.done.ReportLemmas.{all_wider, turn_stands}

-- ---- turns of a run

pub first_turn : (t : HostTurn) (turns : List HostTurn) (old new : Host) (run : DoesAll old (t ∷ turns) new) → IsTurnOf t old new (t ∷ turns) run
first_turn t turns old new run = record {
  before = [];
  after = turns;
  split = refl;
  at = old;
  next = run.0;
  came = refl;
  does = run.1;
  went = run.2;
  hosts = refl;
}

pub later_turn : (u t : HostTurn) (turns : List HostTurn) (old new : Host) (run : DoesAll old (t ∷ turns) new) → IsTurnOf u run.0 new turns run.2 → IsTurnOf u old new (t ∷ turns) run
later_turn u t turns old new run i = record {
  before = t ∷ i.before;
  after = i.after;
  split = ap (λ (ts : List HostTurn). t ∷ ts) i.split;
  at = i.at;
  next = i.next;
  came = (run.0, run.1, i.came);
  does = i.does;
  went = i.went;
  hosts = ap (λ (hs : List Host). old ∷ hs) i.hosts;
}

-- ---- reported in turns

record ReportedIn (old new : Host) (turns : List HostTurn) (run : DoesAll old turns new) (s : ℕ) (e : Entry) : Type 0 where
  frame : List ℕ
  report : TakeReport
  took : IsTurnOf (Took frame report) old new turns run
  of_dev : port_of frame ≡ e.head.dev
  done : has_bit report.done s ≡ true
  issued : entry_at took.at.driver.entries s ≡ Some (rephased Issued e)

reported_first : (t : HostTurn) (turns : List HostTurn) (old new : Host) (run : DoesAll old (t ∷ turns) new) (s : ℕ) (e : Entry) → Reports old t s e → ReportedIn old new (t ∷ turns) run s e
unfolding first_turn
reported_first (Took frame report) turns old new run s e r =
    let parts = and_parts (has_bit report.done s) (port_of frame == e.head.dev) r.1 in
    record {
      frame = frame;
      report = report;
      took = first_turn (Took frame report) turns old new run;
      of_dev = eqb-true (port_of frame) e.head.dev parts.1;
      done = parts.0;
      issued = r.0;
    }
reported_first other turns old new run s e r = absurd (false≢true r.1)

reported_later : (t : HostTurn) (turns : List HostTurn) (old new : Host) (run : DoesAll old (t ∷ turns) new) (s : ℕ) (e : Entry) → ReportedIn run.0 new turns run.2 s e → ReportedIn old new (t ∷ turns) run s e
unfolding later_turn
reported_later t turns old new run s e r = record {
  frame = r.frame;
  report = r.report;
  took = later_turn (Took r.frame r.report) t turns old new run r.took;
  of_dev = r.of_dev;
  done = r.done;
  issued = r.issued;
}

stand_over : {mode : Mode} (turns : List HostTurn) (P : ℕ → Entry → Type 0) (old new : Host) (run : DoesAll old turns new) → IsOnWayIn mode old → AllStand P old
    → AllStand (λ (s : ℕ) (e : Entry). P s e ⊎ ReportedIn old new turns run s e) new
stand_over [] P old new run w stand =
    all_wider P (λ (s : ℕ) (e : Entry). P s e ⊎ ReportedIn old new [] run s e) new (λ s e p. inl p) (subst (AllStand P) (sym run) stand)
stand_over (t ∷ turns) P old new run w stand =
    let here : AllStand (λ (s : ℕ) (e : Entry). P s e ⊎ Reports old t s e) run.0 =
    turn_stands P (λ (s : ℕ) (e : Entry). P s e ⊎ Reports old t s e) old w stand (λ s e p. inl p) t run.0 run.1 (λ s e r. inr r) in
    all_wider (λ (s : ℕ) (e : Entry). (P s e ⊎ Reports old t s e) ⊎ ReportedIn run.0 new turns run.2 s e)
    (λ (s : ℕ) (e : Entry). P s e ⊎ ReportedIn old new (t ∷ turns) run s e) new widens
    (stand_over turns (λ (s : ℕ) (e : Entry). P s e ⊎ Reports old t s e) run.0 new run.2 (way_turn old t run.0 run.1 w) here)
  where
    widens : (s : ℕ) (e : Entry) → (P s e ⊎ Reports old t s e) ⊎ ReportedIn run.0 new turns run.2 s e → P s e ⊎ ReportedIn old new (t ∷ turns) run s e
    widens s e (inl (inl p)) = inl p
    widens s e (inl (inr r)) = inr (reported_first t turns old new run s e r)
    widens s e (inr r) = inr (reported_later t turns old new run s e r)

-- ---- submitted in turns

-- a request, as it waited
record SubmittedIn (old new : Host) (turns : List HostTurn) (run : DoesAll old turns new) (e : Entry) : Type 0 where
  ticket : ℕ
  dev : ℕ
  request : Request
  turn : IsTurnOf (Submitted dev request ticket) old new turns run
  is : new_entry ticket dev request ≡ e

submitted_first : (t : HostTurn) (turns : List HostTurn) (old new : Host) (run : DoesAll old (t ∷ turns) new) (s : ℕ) (f : Entry) → Fresh old.driver t s f → SubmittedIn old new (t ∷ turns) run (rephased Waits f)
submitted_first (Submitted dev request ticket) turns old new run s f fresh = record {
  ticket = ticket;
  dev = dev;
  request = request;
  turn = first_turn (Submitted dev request ticket) turns old new run;
  is = ap (λ (n : ℕ). new_entry n dev request) run.1.taken.next ∙ ap (rephased Waits) fresh.1;
}
submitted_first other turns old new run s f fresh = absurd fresh

submitted_later : (t : HostTurn) (turns : List HostTurn) (old new : Host) (run : DoesAll old (t ∷ turns) new) (e : Entry) → SubmittedIn run.0 new turns run.2 e → SubmittedIn old new (t ∷ turns) run e
submitted_later t turns old new run e i = record {
  ticket = i.ticket;
  dev = i.dev;
  request = i.request;
  turn = later_turn (Submitted i.dev i.request i.ticket) t turns old new run i.turn;
  is = i.is;
}

-- what is in a slot was there before the turns, or was submitted in them
submitted_over : (turns : List HostTurn) (old new : Host) (run : DoesAll old turns new) (s : ℕ) (f : Entry) → entry_at new.driver.entries s ≡ Some f
    → ((e : Entry) × (entry_at old.driver.entries s ≡ Some e) × (rephased Waits e ≡ rephased Waits f)) ⊎ SubmittedIn old new turns run (rephased Waits f)
submitted_over [] old new run s f here = inl (f, ap (λ (h : Host). entry_at h.driver.entries s) (sym run) ∙ here, refl)
submitted_over (t ∷ turns) old new run s f here = elim (submitted_over turns run.0 new run.2 s f here) [
  | inr later ↦ inr (submitted_later t turns old new run (rephased Waits f) later)
  | inl from ↦ elim (comes_from old t run.0 run.1 s from.0 from.1) [
    | inl stood ↦ inl (stood.entry, stood.here, ap (rephased Waits) (sym stood.on.same) ∙ from.2)
    | inr fresh ↦ inr (subst (λ (x : Entry). SubmittedIn old new (t ∷ turns) run x) from.2 (submitted_first t turns old new run s from.0 fresh))
  ]
]

-- ---- the law

module _ (mode : Mode) (given : ℕ) (start : Memory) (right : IsHostMemory start) (turns : List HostTurn) (h : Host) (run : DoesAll (opening_host_in mode given start) turns h) (c : Completion) (after : Host)
    (does : Does h (Polled c) after) (done : c.outcome ≡ Done) where
  abbrev opened : Host
  opened = opening_host_in mode given start

  facts : PollFacts h.driver c
  facts = poll_facts h.driver c does.polled

  e : Entry
  e = facts.entry

  here : entry_at h.driver.entries c.slot ≡ Some facts.entry
  here = subst (λ (k : ℕ). entry_at h.driver.entries k ≡ Some facts.entry) (sym facts.slot_is) facts.there

  ended : facts.entry.head.phase ≡ Ended Done
  ended = facts.ended ∙ ap Ended done

  never : ℕ → Entry → Type 0
  never s x = ⊥

  opening_stands : AllStand (λ (s : ℕ) (x : Entry). ⊥) opened
  opening_stands s x is = accept.none_here s x is

  reported : ReportedIn opened h turns run c.slot (rephased Waits facts.entry)
  reported = by_case (subst (λ (p : Phase). Stands (λ (s : ℕ) (x : Entry). ⊥ ⊎ ReportedIn opened h turns run s x) h.port c.slot (rephased Waits facts.entry) p) ended
      (stand_over turns (λ (s : ℕ) (x : Entry). ⊥) opened h run (way_opens given start right) opening_stands c.slot facts.entry here))
    where
      by_case : ⊥ ⊎ ReportedIn opened h turns run c.slot (rephased Waits facts.entry) → ReportedIn opened h turns run c.slot (rephased Waits facts.entry)
      by_case (inl none) = absurd none
      by_case (inr is) = is

  submitted : SubmittedIn opened reported.took.at reported.took.before reported.took.came (rephased Waits facts.entry)
  submitted = elim (submitted_over reported.took.before opened reported.took.at reported.took.came c.slot (rephased Issued (rephased Waits facts.entry)) reported.issued) [
    | inl from ↦ accept.none_here c.slot from.0 from.1
    | inr is ↦ is
  ]

  ticket_is : submitted.ticket ≡ c.ticket.0
  ticket_is = ap (λ (x : Entry). x.head.ticket) submitted.is ∙ sym facts.ticket

  pub was_reported : WasReported c.ticket.0 c.slot opened h turns run
  was_reported =
      let same : new_entry c.ticket.0 submitted.dev submitted.request ≡ rephased Waits facts.entry = ap (λ (n : ℕ). new_entry n submitted.dev submitted.request) (sym ticket_is) ∙ submitted.is in
      record {
        dev = submitted.dev;
        request = submitted.request;
        frame = reported.frame;
        report = reported.report;
        took = reported.took;
        of_dev = reported.of_dev ∙ ap (λ (x : Entry). x.head.dev) (sym submitted.is);
        done = reported.done;
        submitted = subst (λ (n : ℕ). IsTurnOf (Submitted submitted.dev submitted.request n) opened reported.took.at reported.took.before reported.took.came) ticket_is submitted.turn;
        issued = reported.issued ∙ ap (λ (x : Entry). Some (rephased Issued x)) (sym same);
        ended = here ∙ ap Some (ap (λ (p : Phase). rephased p facts.entry) ended) ∙ ap (λ (x : Entry). Some (rephased (Ended Done) x)) (sym same);
      }

pub done_was_reported : DoneWasReported
done_was_reported mode given start right turns h run c after does done = was_reported mode given start right turns h run c after does done
