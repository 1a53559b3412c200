-- For `polled_is_honest`. A request that is polled as Done ended honestly.
use Rattle.std.proofs.Common.{◌≡◌, ◌==◌, ◌&&◌, ◌||◌, ℕ, ◌*◌, ◌-◌, ◌<◌, Bool, true, false, not, List, [], ◌∷◌, ◌++◌, length, refl, sym, ap, subst, ◌∙◌}
use Rattle.std.proofs.{Common.{inl, inr, arith, Option, Some, None, Ok}, lemmas.Bool.{cases_Bool, eq-eqb, false≢true, or_parts, true≢false}}
use Rattle.std.proofs.lemmas.Bool.Decides.{nat_tests}
use Rattle.std.specs.{Prelude.{◌⊎◌, if◌then◌else◌, nat_lt, slice_index}, List.list_any}
use Rattle.host_memory.specs.{Memory.{client_start, is_memory_size, zeroed}, Place.{LiesInClient, place, total_of}, declared.table.Prd.Prd}
use Rattle.slots.specs.Slots.{match_some}
use Rattle.hba_fbs.specs.Taking.{port_of}
use Rattle.disk_model.specs.{declared.plan.DiskPlan.DiskPlan, Histories.Happening, Chunks.sectors_at, Ledger.medium_with}
use Rattle.hba_laws.specs.{Client.{Touches, own}, Delivering.{by_device, completes_now, event_taken, touched as touched_by}, Sound.IsHost}
use Rattle.hba_laws.specs.History.{Event, History, Transfer, completes, filled, issued, unless}
use Rattle.hba_laws.specs.Hosts as host_event
use Rattle.hba_laws.specs.History as event
use Rattle.hba_driver.specs.declared.request.{Completion.Completion, Outcome.TheVariants.Done, Request.Request, Ticket.Ticket, Work.TheVariants.Read}
use Rattle.hba_driver.specs.declared.{request.Work.TheVariants.Write, slot.Phase.{Phase, TheVariants.{Waits, Issued, Ended}}}
use Rattle.hba_driver.specs.{Delivered.{IsAtItsPlace, TookDelivers}, Drivers.{Driver, Entry, entry_at, is_read, rephased}, Events.IsSoundHost}
use Rattle.hba_driver.specs.{Events.shared_by, HostTurns.{DoesAll, HostTurn, Polled, Submitted, Took, Tooks, polled_in}, Laws.{AreOnce, ends_as}}
use Rattle.hba_driver.specs.{Laws.gives, Orders.{is_queued, request_fields}, Served.IsServed, Requests.is_mismatch, Submits.new_entry}
use Rattle.hba_driver.specs.Between.{AllStand, IsOnWay, PollFacts, Stands}
use Rattle.hba_commands.specs.Requests.{request_of, work_of}
use Rattle.hba_driver.proofs.Door as accept
use Rattle.hba_driver.proofs.Door.{as_long, each_run_keeps, in_slots, is_taken, poll_facts, way_opens, zeroed_right}
use Rattle.pm_world.specs.{Attached.Attached, Places.{Places, is_config, new_world}, Rules.{Rule, Run}, Runs.{IsStepOf, over}, Turns.turn_of}
use Rattle.pm_world.specs.{declared.step.{Config.Config, Step.Step, Answer.Answer}, Disks.{Before, DiskRun, EndedSince, FlushedSince, HasDisk, Since}}
use Rattle.pm_world.specs.{Disks.{TookHonestly, WasSubmitted, disk_history, host_turns}, HonestEnds.{EndsHonestly, ReadsSectors, StandsAt}}
use Rattle.pm_world.specs.{HonestEnds.WritesSectors, Polled.{HonestPolls, IsFilledAt, IsPolledHonestly, IsReportedIn}, HostTouches.AreTouched}
use Rattle.pm_world.specs.HostTouches.{opens}
use Rattle.pm_world.specs.declared.step.Step.TheVariants as step
use Rattle.pm_world.specs.declared.step.Answer.TheVariants as answer
use Rattle.pm_world.proofs.{turns.Delivery.sized, honest.DisksLemmas.{IsIssued, IsRequestAt, MovesAll, has_command, issued_of_done, read_moves}}
use Rattle.pm_world.proofs.{honest.DisksLemmas.request_at, turns.HostFold.{does-append, run_does}, upward.PortMarks.{AllHavePortMarks, opening_marks}}
use Rattle.pm_world.proofs.{upward.PortMarks.run_marks, serving.BroughtLemmas.leaves_filled, polls.{CalmLemmas.IsFreed, ClientLemmas.bytes_stay}}
use Rattle.pm_world.proofs.{polls.ClientLemmas.came_next, serving.FirstLemmas.{ComesRisen, comes_risen}, honest.HonestRuns.disks_are_honest}
use Rattle.pm_world.proofs.{upward.Law.run_append, polls.OneLemmas.{KeptIn, NoneOrders, kept_over, taken_of_one}, reported.ReportedLemmas.SubmittedIn}
use Rattle.pm_world.proofs.{reported.ReportedLemmas.{TookIn, is_take, renamed, stand_over, way_over}, serving.TookLemmas.host_takes}
use Rattle.pm_world.proofs.serving.TouchedLemmas.{GoesTouched, touched_delivers, touched_over, touched_served, touched_sound}

-- ## A ticket is polled once

or_right : (a b : Bool) → b ≡ true → (a || b) ≡ true
or_right true b h = refl
or_right false b h = h

-- the last poll is among those of the turns
last_polled : (turns : List HostTurn) (c : Completion) (ticket : ℕ) → (c.ticket.0 == ticket) ≡ true
    → list_any (λ y. y == ticket) (polled_in (turns ++ Polled c ∷ [])) ≡ true
last_polled [] c ticket same = ap (λ (b : Bool). b || false) same
last_polled (Polled d ∷ turns) c ticket same = or_right (d.ticket.0 == ticket) _ (last_polled turns c ticket same)
last_polled (other ∷ turns) c ticket same = last_polled turns c ticket same

gives_none : (a b d : Bool) → a ≡ false → (a && b && d) ≡ false
gives_none false b d h = refl
gives_none true b d h = absurd (true≢false h)

same_ticket : (x y z : ℕ) → (x == y) ≡ true → y ≡ z → (z == x) ≡ true
same_ticket x y z h k = grind (arith, nat_tests, h, k)

-- so no turn before it gives the request
not_given : (turns : List HostTurn) (c : Completion) (s : ℕ) (e : Entry) → e.head.ticket ≡ c.ticket.0 → AreOnce (polled_in (turns ++ Polled c ∷ []))
    → list_any (gives s e) turns ≡ false
not_given [] c s e same once = refl
not_given (Polled d ∷ turns) c s e same once =
    ap (λ (b : Bool). b || list_any (gives s e) turns)
    (gives_none (d.ticket.0 == e.head.ticket) (d.slot == s) (ends_as e.head.phase d.outcome) other) ∙ not_given turns c s e same once.1
  where
    other : (d.ticket.0 == e.head.ticket) ≡ false
    other = elim (cases_Bool (d.ticket.0 == e.head.ticket)) [
      | inl equal ↦
          absurd (true≢false (sym (last_polled turns c d.ticket.0 (same_ticket d.ticket.0 e.head.ticket c.ticket.0 equal same)) ∙ once.0))
      | inr not_equal ↦ not_equal
    ]
not_given (other ∷ turns) c s e same once = not_given turns c s e same once

-- ## What a FIS completes is not issued any more

none_now : (b : Bool) (t u : Transfer) → b ≡ true → unless b (Some t) ≡ Some u → ⊥
none_now true t u is h = cc
none_now false t u is h = absurd (false≢true is)

by_issue : (o : Option Transfer) (test : Transfer → Bool) (u : Transfer) → match_some o false test ≡ true
    → match_some o None (λ t. unless (test t) (Some t)) ≡ Some u → ⊥
by_issue None test u done h = absurd (false≢true done)
by_issue (Some t) test u done h = none_now (test t) t u done h

-- what completes, if a slot is completed
completed_gone : (s : ℕ) (e : Event) (past : History) (u : Transfer)
    → match_some (issued s past) false (λ t. completes s e past t.work) ≡ true → issued s (e ∷ past) ≡ Some u → ⊥
completed_gone s (event.Issued slot t) past u done h = never (issued s past) done
  where
    never : (o : Option Transfer) → match_some o false (λ t. false) ≡ true → ⊥
    never None done = false≢true done
    never (Some x) done = false≢true done
completed_gone s (event.SentControl slot) past u done h = never (issued s past) done
  where
    never : (o : Option Transfer) → match_some o false (λ t. false) ≡ true → ⊥
    never None done = false≢true done
    never (Some x) done = false≢true done
completed_gone s event.Emptied past u done h = never (issued s past) done
  where
    never : (o : Option Transfer) → match_some o false (λ t. false) ≡ true → ⊥
    never None done = false≢true done
    never (Some x) done = false≢true done
completed_gone s other past u done h = by_issue (issued s past) (λ t. completes s other past t.work) u done h

-- the event of a device completes what is issued in a slot of it
event_frees : (m s : ℕ) (o : Option Event) (touches : Touches)
    → match_some (issued s (own m touches)) false (λ t. match_some o false (λ e. completes s e (own m touches) t.work)) ≡ true
    → IsFreed m s (by_device m o ++ touches)
event_frees m s None touches done u h = never (issued s (own m touches)) done
  where
    never : (o : Option Transfer) → match_some o false (λ t. false) ≡ true → ⊥
    never None done = false≢true done
    never (Some x) done = false≢true done
event_frees m s (Some e) touches done u h =
    completed_gone s e (own m touches) u done
    (subst (λ (b : Bool). issued s (if b then e ∷ own m touches else own m touches) ≡ Some u) (eq-eqb m m refl) h)

-- ## The request

abbrev ticket_of : ℕ → Ticket
ticket_of k = record { 0 = k }

one_ticket : (t u : Ticket) → t.0 ≡ u.0 → t ≡ u
one_ticket t u same = ap ticket_of same

half : (total sectors : ℕ) → (total == sectors * 512) ≡ true → total ≡ 512 * sectors
half total sectors h = grind (arith, nat_tests, h)

matched : (request : Request) → is_mismatch request ≡ false → total_of request.prds.items ≡ 512 * request.sectors
matched request fits =
    let parts = or_parts (nat_lt 248 (length request.prds.items)) (not (total_of request.prds.items == request.sectors * 512)) fits in
    half (total_of request.prds.items) request.sectors (true_of (total_of request.prds.items == request.sectors * 512) parts.1)
  where
    true_of : (b : Bool) → not b ≡ false → b ≡ true
    true_of true h = refl
    true_of false h = absurd (true≢false h)

-- ## The law

module _ (config : Config) (units : List Attached) (fits : is_config config (length units) ≡ true) (steps : List Step) (answers : List Answer) (now : Places)
    (run : Run (new_world config units) steps answers now) (c : Completion) (new : Places) (rule : Rule now step.Poll (Ok (answer.Polled c)) new)
    (done : c.outcome ≡ Done) where
  right : is_memory_size config.memory ≡ true
  right = sized config (length units) fits

  facts : PollFacts now.host.driver c
  facts = poll_facts now.host.driver c rule.0.polled

  here : entry_at now.host.driver.entries c.slot ≡ Some facts.entry
  here = subst (λ (k : ℕ). entry_at now.host.driver.entries k ≡ Some facts.entry) (sym facts.slot_is) facts.there

  ended : facts.entry.head.phase ≡ Ended Done
  ended = facts.ended ∙ ap Ended done

  way_first : IsOnWay (new_world config units).host
  way_first = way_opens 0 (zeroed config.memory) (zeroed_right config.memory right)

  way : IsOnWay now.host
  way = way_over (over turn_of (new_world config units) steps answers now run) (new_world config units).host now.host
      (run_does (new_world config units) steps answers now run) way_first

  never_stands : AllStand (λ (s : ℕ) (e : Entry). ⊥) (new_world config units).host
  never_stands s e is = accept.none_here s e is

  told : TookIn (new_world config units) now steps answers run c.slot (rephased Waits facts.entry)
  told = by_case (subst
      (λ (p : Phase). Stands (λ (s : ℕ) (e : Entry). ⊥ ⊎ TookIn (new_world config units) now steps answers run s e) now.host.port c.slot
      (rephased Waits facts.entry) p) ended
      (stand_over (λ (s : ℕ) (e : Entry). ⊥) (new_world config units) steps answers now run way_first never_stands c.slot facts.entry here))
    where
      by_case : ⊥ ⊎ TookIn (new_world config units) now steps answers run c.slot (rephased Waits facts.entry)
          → TookIn (new_world config units) now steps answers run c.slot (rephased Waits facts.entry)
      by_case (inl none) = absurd none
      by_case (inr is) = is

  kept : KeptIn (new_world config units) told.took.at told.took.before told.took.told told.took.came c.slot (rephased Waits facts.entry)
  kept = elim (kept_over (new_world config units) told.took.before told.took.told told.took.at told.took.came c.slot
      (rephased Issued (rephased Waits facts.entry)) told.issued refl) [
        | inl stood ↦ accept.none_here c.slot stood.0.entry stood.0.here
        | inr is ↦ is
      ]

  abbrev submitted : SubmittedIn (new_world config units) told.took.at told.took.before told.took.told told.took.came c.slot (rephased Waits facts.entry)
  submitted = kept.submitted

  ticket_is : submitted.ticket ≡ c.ticket
  ticket_is = one_ticket submitted.ticket c.ticket (ap (λ (x : Entry). x.head.ticket) submitted.is ∙ sym facts.ticket)

  entry_is : new_entry c.ticket.0 submitted.dev submitted.request ≡ rephased Waits facts.entry
  entry_is = ap (λ (t : Ticket). new_entry t.0 submitted.dev submitted.request) (sym ticket_is) ∙ submitted.is

  risen : AllHavePortMarks told.took.at.multiplier told.took.at.upward.frames
  risen = (run_marks (new_world config units) told.took.before told.took.told told.took.at (opening_marks config units) told.took.came).1

  comes : ComesRisen (answer.Took told.port told.conn told.number told.bytes told.report) told.took.next
  comes = comes_risen told.took.at told.s (answer.Took told.port told.conn told.number told.bytes told.report) told.took.next risen told.took.rule

  from_dev : port_of told.bytes ≡ submitted.dev
  from_dev = told.of_dev ∙ ap (λ (x : Entry). x.head.dev) (sym submitted.is)

  port_is : told.port ≡ submitted.dev
  port_is = sym comes.own_port.0 ∙ from_dev

  abbrev took : IsStepOf step.HostTake (answer.Took submitted.dev told.conn told.number told.bytes told.report) (new_world config units) now steps answers run
  took = renamed told.s step.HostTake (answer.Took told.port told.conn told.number told.bytes told.report)
      (answer.Took submitted.dev told.conn told.number told.bytes told.report) (new_world config units) now steps answers run
      (is_take told.took.at told.took.next told.s told.port told.conn told.number told.bytes told.report told.took.rule)
      (ap (λ (p : ℕ). answer.Took p told.conn told.number told.bytes told.report) port_is) told.took

  abbrev reported : IsReportedIn c.ticket c.slot (new_world config units) now steps answers run
  reported = record {
    dev = submitted.dev;
    request = submitted.request;
    conn = told.conn;
    number = told.number;
    bytes = told.bytes;
    report = told.report;
    took = took;
    of_dev = from_dev;
    done = told.done;
    submitted = renamed (step.Submit submitted.dev submitted.request) (step.Submit submitted.dev submitted.request) (answer.Submitted submitted.ticket)
        (answer.Submitted c.ticket) (new_world config units) told.took.at told.took.before told.took.told told.took.came refl
        (ap (λ (t : Ticket). answer.Submitted t) ticket_is) submitted.its;
    issued = told.issued ∙ ap (λ (e : Entry). Some (rephased Issued e)) (sym entry_is);
  }

  -- ## If the request ended honestly at the report, the bytes of a read stay up to the poll

  at_report : entry_at told.took.at.host.driver.entries c.slot ≡ Some (rephased Issued (new_entry c.ticket.0 submitted.dev submitted.request))
  at_report = told.issued ∙ ap (λ (e : Entry). Some (rephased Issued e)) (sym entry_is)

  below : submitted.dev < 15
  below = subst (λ (n : ℕ). n < 15) (ap (λ (e : Entry). e.head.dev) (sym submitted.is)) (way.served.bounded.entries c.slot facts.entry here).dev

  low : c.slot < 30
  low = in_slots now.host.driver.entries c.slot facts.entry way.served.bounded.slots here

  tooks : Tooks told.took.at.host told.bytes told.report told.took.next.host
  tooks = host_takes told.took.at told.took.next told.s told.port told.conn told.number told.bytes told.report told.took.rule

  at_next : entry_at told.took.next.host.driver.entries c.slot ≡ Some (rephased Issued (new_entry c.ticket.0 submitted.dev submitted.request))
  at_next = ap (λ (x : Driver). entry_at x.entries c.slot) tooks.driver ∙ at_report

  abbrev more : List HostTurn
  more = over turn_of told.took.next told.took.after told.took.later now told.took.went

  goes_on : DoesAll told.took.next.host (over turn_of told.took.next told.took.after told.took.later now told.took.went) now.host
  goes_on = run_does told.took.next told.took.after told.took.later now told.took.went

  polls : DoesAll told.took.next.host (more ++ Polled c ∷ []) new.host
  polls = does-append told.took.next.host now.host new.host more (Polled c ∷ []) goes_on (new.host, rule.0, refl)

  whole : total_of submitted.request.prds.items ≡ 512 * submitted.request.sectors
  whole = matched submitted.request
      (is_taken submitted.its.at.host.driver submitted.its.at.host.memory submitted.dev submitted.request submitted.its.rule.0.accepted).matched

  module _ (turns : List HostTurn) (touches : Touches) (touched : AreTouched config.memory turns told.took.at.host touches) where
    came : AreTouched config.memory (turns ++ Took told.bytes told.report ∷ []) told.took.next.host
        (by_device (port_of told.bytes) (event_taken (shared_by told.took.at.host) told.bytes) ++ touches)
    came = came_next config.memory right turns told.took.at.host touches touched (Took told.bytes told.report) told.took.next.host tooks

    delivers : TookDelivers told.took.at.host touches told.bytes told.report told.took.next.host
    delivers = touched_delivers config.memory turns told.took.at.host touches right touched told.bytes told.report told.took.next.host tooks

    freed : IsFreed submitted.dev c.slot (by_device (port_of told.bytes) (event_taken (shared_by told.took.at.host) told.bytes) ++ touches)
    freed =
        let now_so : completes_now c.slot (shared_by told.took.at.host) told.bytes (own (port_of told.bytes) touches) ≡ true =
        sym (delivers.reported.done c.slot (omega (arith, low))) ∙ told.done in
        subst (λ (n : ℕ). IsFreed n c.slot (by_device (port_of told.bytes) (event_taken (shared_by told.took.at.host) told.bytes) ++ touches)) from_dev
        (event_frees (port_of told.bytes) c.slot (event_taken (shared_by told.took.at.host) told.bytes) touches now_so)

    sound_next : IsSoundHost told.took.next.host
    sound_next = touched_sound config.memory (turns ++ Took told.bytes told.report ∷ []) told.took.next.host
        (by_device (port_of told.bytes) (event_taken (shared_by told.took.at.host) told.bytes) ++ touches) right came

    ungiven : list_any (gives c.slot (rephased Issued (new_entry c.ticket.0 submitted.dev submitted.request))) more ≡ false
    ungiven = not_given more c c.slot (rephased Issued (new_entry c.ticket.0 submitted.dev submitted.request)) refl
        (each_run_keeps told.took.next.host (more ++ Polled c ∷ []) new.host polls sound_next.requests).polled

    to_poll : submitted.request.work ≡ Read → (i : ℕ) → i < 512 * submitted.request.sectors
        → LiesInClient (length told.took.next.host.memory.client) (place submitted.request.prds.items i) 1
        → slice_index now.host.memory.client (place submitted.request.prds.items i - client_start)
        ≡ slice_index told.took.next.host.memory.client (place submitted.request.prds.items i - client_start)
    to_poll reads i less inside =
        bytes_stay config.memory right more (turns ++ Took told.bytes told.report ∷ []) told.took.next.host now.host
        (by_device (port_of told.bytes) (event_taken (shared_by told.took.at.host) told.bytes) ++ touches) came goes_on c.slot
        (rephased Issued (new_entry c.ticket.0 submitted.dev submitted.request)) at_next (ap is_read reads) refl freed ungiven i
        (subst (λ (k : ℕ). i < k) (sym whole) less) inside

    still_inside : (i : ℕ) → LiesInClient (length told.took.next.host.memory.client) (place submitted.request.prds.items i) 1
        → LiesInClient (length now.host.memory.client) (place submitted.request.prds.items i) 1
    still_inside i inside =
        let long : length now.host.memory.client ≡ length told.took.next.host.memory.client = as_long told.took.next.host more now.host goes_on sound_next in
        subst (λ (k : ℕ). LiesInClient k (place submitted.request.prds.items i) 1) (sym long) inside

    moved : submitted.request.work ≡ Read → (bytes : List ℕ) (i : ℕ) → i < 512 * submitted.request.sectors
        → StandsAt bytes submitted.request.prds.items told.took.next.host.memory i → StandsAt bytes submitted.request.prds.items now.host.memory i
    moved reads bytes i less p =
        record { inside = still_inside i p.inside; is = p.is ∙ ap Some (sym (to_poll reads i less p.inside)) }

    -- ## What was filled, whatever the device is

    abbrev entry : Entry
    entry = rephased Issued (new_entry c.ticket.0 submitted.dev submitted.request)

    sound_at : IsSoundHost told.took.at.host
    sound_at = touched_sound config.memory turns told.took.at.host touches right touched

    served_at : IsServed told.took.at.host.driver (shared_by told.took.at.host) touches
    served_at = touched_served config.memory turns told.took.at.host touches right touched

    is_host : IsHost (shared_by told.took.at.host)
    is_host = record { port = sound_at.ruled.rules; slots = sound_at.ruled.table; errors = sound_at.ruled.faults; memory = sound_at.memory }

    completed : completes_now c.slot (shared_by told.took.at.host) told.bytes (own (port_of told.bytes) touches) ≡ true
    completed = sym (delivers.reported.done c.slot (omega (arith, low))) ∙ told.done

    issue : IsIssued c.slot (own submitted.dev touches)
    issue =
        subst (λ (m : ℕ). IsIssued c.slot (own m touches)) from_dev
        (issued_of_done c.slot (shared_by told.took.at.host) told.bytes (own (port_of told.bytes) touches) completed)

    request : IsRequestAt told.took.at.host.driver submitted.dev c.slot issue.transfer entry
    request =
        request_at told.took.at.host.driver submitted.dev c.slot issue.transfer entry low at_report (served_at.issues submitted.dev c.slot issue.transfer issue.is)

    below_16 : submitted.dev < 16
    below_16 = omega (arith, below)

    built : issue.transfer.work ≡ work_of (request_of (request_fields c.slot entry.head))
    built =
        let k = has_command submitted.dev c.slot told.took.at.host (own submitted.dev touches) issue.transfer is_host issue.is
        ((served_at.told submitted.dev below_16).issued c.slot) in
        ((served_at.fises submitted.dev c.slot issue.transfer k.0 issue.is k.1).of_request entry low at_report).work

    filled_at : submitted.request.work ≡ Read → (i : ℕ) → i < 512 * submitted.request.sectors
        → IsFilledAt submitted.dev c.slot i submitted.request.prds.items touches now.host.memory
    filled_at reads i less =
        let some : 0 < submitted.request.sectors = ((served_at.bounded.entries c.slot entry at_report).size (ap is_queued reads)).some in
        let m : MovesAll issue.transfer entry.head true = read_moves c.slot entry.head issue.transfer reads some built in
        let there : issued c.slot (own (port_of told.bytes) touches) ≡ Some issue.transfer =
        subst (λ (n : ℕ). issued c.slot (own n touches) ≡ Some issue.transfer) (sym from_dev) issue.is in
        let p : IsAtItsPlace (port_of told.bytes) c.slot i issue.transfer (touched_by (shared_by told.took.at.host) (host_event.Took told.bytes told.report) ++ touches)
        told.took.next.host.memory =
        delivers.placed c.slot i issue.transfer (omega (arith, low)) told.done (record { is = there; reads = m.way })
        (subst (λ (k : ℕ). i < k) (sym m.len) less) in
        let left = leaves_filled (port_of told.bytes) c.slot (event_taken (shared_by told.took.at.host) told.bytes) touches issue.transfer.work m.queued
        (by_transfer issue.transfer there completed) in
        let inside : LiesInClient (length told.took.next.host.memory.client) (place submitted.request.prds.items i) 1 =
        subst (λ (l : List Prd). LiesInClient (length told.took.next.host.memory.client) (place l i) 1) request.table p.inside in
        record {
          byte = p.byte;
          is_filled = sym (ap (λ (n : ℕ). filled c.slot (own n touches) i) from_dev) ∙ sym (ap (λ (f : ℕ → Option ℕ). f i) left) ∙ p.is_filled;
          inside = still_inside i inside;
          stands = to_poll reads i less inside
              ∙ subst (λ (l : List Prd). slice_index told.took.next.host.memory.client (place l i - client_start) ≡ p.byte) request.table p.stands;
        }
      where
        by_transfer : (t : Transfer) → issued c.slot (own (port_of told.bytes) touches) ≡ Some t
            → completes_now c.slot (shared_by told.took.at.host) told.bytes (own (port_of told.bytes) touches) ≡ true
            → match_some (event_taken (shared_by told.took.at.host) told.bytes) false (λ e. completes c.slot e (own (port_of told.bytes) touches) t.work) ≡ true
        by_transfer t is now =
            sym (ap (λ (o : Option Transfer). match_some o false
            (λ u. match_some (event_taken (shared_by told.took.at.host) told.bytes) false (λ e. completes c.slot e (own (port_of told.bytes) touches) u.work))) is)
            ∙ now

    -- ## If the request ended honestly

    module _ (sectors : ℕ) (before happened : List Happening)
        (ends : EndsHonestly sectors c.slot (rephased Issued (new_entry c.ticket.0 submitted.dev submitted.request)) before happened
        (filled c.slot (own submitted.dev touches)) told.took.next.host.memory) where
      read_ends : submitted.request.work ≡ Read
          → ReadsSectors sectors c.slot (new_entry c.ticket.0 submitted.dev submitted.request) before happened now.host.memory
      read_ends reads =
          let r : ReadsSectors sectors c.slot (rephased Issued (new_entry c.ticket.0 submitted.dev submitted.request)) before happened
          told.took.next.host.memory =
          ends.reads reads in
          record {
            at = r.at;
            read = r.read;
            ended = r.ended;
            command = record { tag = r.command.tag; lba = r.command.lba; count = r.command.count };
            since = r.since;
            until = r.until;
            brought = λ i less.
                moved reads (sectors_at (medium_with sectors r.read.before) submitted.request.lba submitted.request.sectors) i less (r.brought i less);
          }

      write_ends : submitted.request.work ≡ Write
          → WritesSectors c.slot (new_entry c.ticket.0 submitted.dev submitted.request) before happened (filled c.slot (own submitted.dev touches))
      write_ends writes =
          let w : WritesSectors c.slot (rephased Issued (new_entry c.ticket.0 submitted.dev submitted.request)) before happened
          (filled c.slot (own submitted.dev touches)) =
          ends.writes writes in
          record { at = w.at; written = w.written; entered = w.entered; since = w.since; tag = w.tag; place = w.place; long = w.long; bytes = w.bytes }

      stay_honest : EndsHonestly sectors c.slot (new_entry c.ticket.0 submitted.dev submitted.request) before happened
          (filled c.slot (own submitted.dev touches)) now.host.memory
      stay_honest = record { reads = read_ends; writes = write_ends }

  -- ## If its device is a disk

  -- an entry that is issued was submitted as the entry that waits was
  as_given : (d : DiskRun config units submitted.dev told.took.at) (past before : List Happening)
      → WasSubmitted config units submitted.dev told.took.at d past (rephased Issued (new_entry c.ticket.0 submitted.dev submitted.request)) before
      → WasSubmitted config units submitted.dev told.took.at d past (new_entry c.ticket.0 submitted.dev submitted.request) before
  as_given d past before (Before ticket request i is) = Before ticket request i is
  as_given d past before (Since ticket request i is) = Since ticket request i is

  module _ (sectors : ℕ) (plan : DiskPlan) (past : List Happening) (disk : HasDisk units submitted.dev plan sectors past) (queued : is_queued submitted.request.work ≡ true) where
    ended_honestly : (d : DiskRun config units submitted.dev told.took.at) → told.conn ≡ d.conn
        → EndedSince config units submitted.dev told.took.at d past sectors c.slot (new_entry c.ticket.0 submitted.dev submitted.request) now.host.memory
    ended_honestly d same =
        let first : TookHonestly config units submitted.dev sectors told.took.at d past told.report told.took.next =
        disks_are_honest config units submitted.dev sectors plan past fits below disk told.took.at d step.HostTake submitted.dev told.conn told.number told.bytes
        told.report told.took.next took.rule (eq-eqb submitted.dev submitted.dev refl) same in
        let e : EndedSince config units submitted.dev told.took.at d past sectors c.slot
        (rephased Issued (new_entry c.ticket.0 submitted.dev submitted.request)) told.took.next.host.memory =
        first.done c.slot (rephased Issued (new_entry c.ticket.0 submitted.dev submitted.request)) low at_report queued told.done in
        record {
          before = e.before;
          submitted = as_given d past e.before e.submitted;
          touches = e.touches;
          touched = e.touched;
          ends = stay_honest (host_turns config units submitted.dev told.took.at d) e.touches e.touched sectors e.before
              (disk_history config units submitted.dev told.took.at d past) e.ends;
        }

  module _ (sectors : ℕ) (plan : DiskPlan) (past : List Happening) (disk : HasDisk units submitted.dev plan sectors past) (calm : is_queued submitted.request.work ≡ false) where
    flushed_honestly : (d : DiskRun config units submitted.dev told.took.at) → told.conn ≡ d.conn
        → FlushedSince config units submitted.dev told.took.at d past (new_entry c.ticket.0 submitted.dev submitted.request)
    flushed_honestly d same =
        let first : TookHonestly config units submitted.dev sectors told.took.at d past told.report told.took.next =
        disks_are_honest config units submitted.dev sectors plan past fits below disk told.took.at d step.HostTake submitted.dev told.conn told.number told.bytes
        told.report told.took.next took.rule (eq-eqb submitted.dev submitted.dev refl) same in
        let f : FlushedSince config units submitted.dev told.took.at d past (rephased Issued (new_entry c.ticket.0 submitted.dev submitted.request)) =
        first.flushed c.slot (rephased Issued (new_entry c.ticket.0 submitted.dev submitted.request)) low at_report calm told.done in
        record { before = f.before; submitted = as_given d past f.before f.submitted; later = f.later; is = f.is; taken = f.taken }

  abbrev turns_up : List HostTurn
  turns_up = over turn_of (new_world config units) told.took.before told.took.told told.took.at told.took.came

  touched_up : GoesTouched config.memory (over turn_of (new_world config units) told.took.before told.took.told told.took.at told.took.came) told.took.at.host
  touched_up = touched_over config.memory right [] (over turn_of (new_world config units) told.took.before told.took.told told.took.at told.took.came)
      (new_world config units).host told.took.at.host [] opens (run_does (new_world config units) told.took.before told.took.told told.took.at told.took.came)

  pub polled_honestly : IsPolledHonestly config units now steps answers run c
  polled_honestly = record {
    reported = reported;
    touches = touched_up.touches;
    touched = touched_up.touched;
    placed = filled_at turns_up touched_up.touches touched_up.touched;
    of_one = taken_of_one config units fits submitted.dev below (submitted.its.before ++ step.Submit submitted.dev submitted.request ∷ [])
        (submitted.its.told ++ answer.Submitted submitted.ticket ∷ []) submitted.its.next
        (run_append (new_world config units) submitted.its.at submitted.its.next submitted.its.before submitted.its.told
        (step.Submit submitted.dev submitted.request ∷ []) (answer.Submitted submitted.ticket ∷ []) submitted.its.came
        (submitted.its.next, submitted.its.rule, refl)) submitted.its.after submitted.its.later told.took.at submitted.its.went
        (subst (λ (n : ℕ). NoneOrders n submitted.its.next submitted.its.after submitted.its.later told.took.at submitted.its.went)
        (ap (λ (e : Entry). e.head.dev) (sym submitted.is)) kept.none)
        told.s told.port told.conn told.number told.bytes told.report told.took.next port_is told.took.rule;
    honest = ended_honestly;
    flushed = flushed_honestly;
  }

pub honest_polls : HonestPolls
honest_polls config units fits steps answers now run c new rule done = polled_honestly config units fits steps answers now run c new rule done
