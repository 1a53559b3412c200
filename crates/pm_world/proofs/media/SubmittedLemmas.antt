-- For `writes_are_as_submitted`. What went out for a write is what stood in client memory when the write was submitted.
use Rattle.std.proofs.Common.{◌≡◌, ◌==◌, ℕ, ◌+◌, ◌*◌, ◌-◌, ◌<◌, ◌≤◌, Bool, true, false, not, List, [], ◌∷◌, ◌++◌, length, refl, sym, ap, subst, ◌∙◌}
use Rattle.std.proofs.Common.{inl, inr, arith, Option, Some, None}
use Rattle.std.specs.Prelude.{◌⊎◌, nat_lt, slice_get, slice_index}
use Rattle.std.proofs.lemmas.{Bool.{false≢true, or_parts, true≢false}, Bool.Decides.nat_tests, Option.slice_get-get_or}
use Rattle.host_memory.specs.{Memory.{client_start, is_memory_size, zeroed}, Place.{LiesInClient, place, total_of}, declared.table.Prd.Prd}
use Rattle.host_memory.proofs.Door.{place_inside}
use Rattle.slots.specs.{Slots.match_some, Work.is_read as is_reading}
use Rattle.hba_fbs.specs.Taking.{port_of}
use Rattle.hba_laws.specs.{Client.{Touches, client, own}, Delivering.{completes_now, event_taken}}
use Rattle.hba_laws.specs.{History.{History, Transfer, completes, filled, issued}, Sent.{AreGathered, HoldsWrites, IsWriting}}
use Rattle.hba_laws.specs.Hosts as event
use Rattle.hba_laws.proofs.Door.{data_is_gathered, sent_stands_in_place}
use Rattle.hba_driver.specs.declared.{mode.Mode.TheVariants.Switching, request.Request.Request, request.Ticket.Ticket}
use Rattle.hba_driver.specs.{declared.{request.Work.{Work, TheVariants.Write}, slot.Phase.TheVariants.{Waits, Issued}}, Delivered.TookDelivers}
use Rattle.hba_driver.specs.{Drivers.{Driver, Entry, entry_at, is_read, rephased}, Events.{IsSoundHost, events_over, opening_host, shared_by}}
use Rattle.hba_driver.specs.{HostTurns.{Does, DoesAll, Host, HostTurn, Submitted, Tooks}, Requests.is_mismatch}
use Rattle.hba_driver.specs.{Served.{IsIssueOf, IsOrdered, IsRequest, IsServed, IsStep}, Submits.{end_of, new_entry}, Between.{Fresh, HaveGoodPrds}}
use Rattle.hba_driver.proofs.Door.{as_long, comes_from, each_run_keeps, good_since, hosts_stay_sound, in_slots, is_taken, issue_inside}
use Rattle.hba_driver.proofs.Door.{turns_hold_writes, zeroed_right}
use Rattle.pm_world.specs.{Attached.Attached, Places.{Places, is_config, new_world}, Rules.Run, Runs.{IsStepOf, over}, Turns.turn_of}
use Rattle.pm_world.specs.{declared.{step.Config.Config, step.Step.Step, step.Answer.Answer}, Disks.{EndedSince, host_turns}, Polled.IsReportedIn}
use Rattle.pm_world.specs.{Submitted.{SentAsSubmitted, StandsThere, WrittenAsSubmitted}, HostTouches.{AreTouched, goes, opens}}
use Rattle.pm_world.specs.declared.step.Step.TheVariants as step
use Rattle.pm_world.specs.declared.step.Answer.TheVariants as answer
use Rattle.pm_world.proofs.{polls.ClientLemmas.{IsUnread, came_next, later, same_entry, turn_stays}, turns.Delivery.sized}
use Rattle.pm_world.proofs.{turns.HostFold.{does-append, run_does}, reported.ReportedLemmas.{StoodIn, open_before}, serving.TookLemmas.host_takes}
use Rattle.pm_world.proofs.serving.TouchedLemmas.{AreKept, GoesTouched, touched_delivers, touched_does, touched_kept, touched_over, touched_served}
use Rattle.pm_world.proofs.serving.TouchedLemmas.{touched_sound, zero_at}

-- ## What went out was gathered, and its places are held

record AreSent (touches : Touches) : Type 0 where
  held : HoldsWrites touches
  gathered : AreGathered zero_at touches

touched_sent : (len : ℕ) (turns : List HostTurn) (h : Host) (touches : Touches) → is_memory_size len ≡ true → AreTouched len turns h touches → AreSent touches
touched_sent len turns h touches right opens = record { held = tt; gathered = tt }
touched_sent len turns h touches right (goes before turn old new past run serves came) =
    let first : AreSent past = touched_sent len before old past right came in
    let served : IsServed old.driver (shared_by old) past = touched_served len before old past right came in
    let kept : AreKept old past = touched_kept len before old past right came in
    record {
      held = turns_hold_writes _ old turn new run (touched_sound len before old past right came) past served serves first.held;
      gathered = data_is_gathered (shared_by old) (shared_by new) (events_over old new (turn ∷ []) run) serves.runs serves.sound zero_at past served.told
          kept.tables serves.spared kept.client first.gathered;
    }

-- what a frame completes is issued
issued_now : (s : ℕ) (host : event.Host) (frame : List ℕ) (past : History) → completes_now s host frame past ≡ true → (t : Transfer) × (issued s past ≡ Some t)
issued_now s host frame past done = by_issue (issued s past) refl done
  where
    by_issue : (o : Option Transfer) → issued s past ≡ o
        → match_some o false (λ t. match_some (event_taken host frame) false (λ e. completes s e past t.work)) ≡ true → (t : Transfer) × (issued s past ≡ Some t)
    by_issue None is done = absurd (false≢true done)
    by_issue (Some t) is done = (t, is)

-- ## A request stands from its submit on

-- at each host of a run
abbrev AllStood : (s : ℕ) (f : Entry) (old new : Host) (turns : List HostTurn) → DoesAll old turns new → Type 0
AllStood s f old new [] run = StoodIn old s f
AllStood s f old new (t ∷ turns) run = StoodIn old s f × AllStood s f run.0 new turns run.2

stood_first : (s : ℕ) (f : Entry) (old new : Host) (turns : List HostTurn) (run : DoesAll old turns new) → AllStood s f old new turns run → StoodIn old s f
stood_first s f old new [] run stood = stood
stood_first s f old new (t ∷ turns) run stood = stood.0

-- a request that is taken has a ticket that was not given yet
too_new : (old : Driver) (t : HostTurn) (s : ℕ) (e : Entry) → e.head.ticket ≤ old.given → Fresh old t s e → ⊥
too_new old (Submitted dev request ticket) s e given fresh =
    let is : old.given + 1 ≡ e.head.ticket = ap (λ (x : Entry). x.head.ticket) fresh.1 in
    omega (arith, is, given)
too_new old other s e given fresh = fresh

given_on : (old : Host) (t : HostTurn) (new : Host) → Does old t new → IsSoundHost old → (k : ℕ) → k ≤ old.driver.given → k ≤ new.driver.given
given_on old t new does sound k least =
    let last = (each_run_keeps old (t ∷ []) new (new, does, refl) sound.requests).last in
    omega (arith, last, least)

all_stood : (turns : List HostTurn) (old new : Host) (run : DoesAll old turns new) → IsSoundHost old → (s : ℕ) (f : Entry) → f.head.ticket ≤ old.driver.given
    → entry_at new.driver.entries s ≡ Some f → AllStood s f old new turns run
all_stood [] old new run sound s f least here = record { entry = f; here = ap (λ (h : Host). entry_at h.driver.entries s) (sym run) ∙ here; same = refl; unended = λ h. h }
all_stood (t ∷ turns) old new run sound s f least here =
    let rest : AllStood s f run.0 new turns run.2 =
    all_stood turns run.0 new run.2 (hosts_stay_sound.stays old t run.0 run.1 sound) s f (given_on old t run.0 run.1 sound f.head.ticket least) here in
    let mid : StoodIn run.0 s f = stood_first s f run.0 new turns run.2 rest in (
      elim (comes_from old t run.0 run.1 s mid.entry mid.here) [
        | inl stood ↦ record { entry = stood.entry; here = stood.here; same = ap (rephased Waits) (sym stood.on.same) ∙ mid.same; unended = λ h. open_before stood.entry.head.phase mid.entry.head.phase stood.on.goes (mid.unended h) }
        | inr fresh ↦
            let ticket : mid.entry.head.ticket ≡ f.head.ticket = ap (λ (x : Entry). x.head.ticket) mid.same in
            absurd (too_new old.driver t s mid.entry (omega (arith, ticket, least)) fresh)
      ],
      rest,
    )

-- ## and its bytes stay

module _ (len : ℕ) (right : is_memory_size len ≡ true) where
  -- no read is issued in the slot of a write
  write_unread : (h : Host) (touches : Touches) → IsServed h.driver (shared_by h) touches → (s : ℕ) (e : Entry) → entry_at h.driver.entries s ≡ Some e
      → is_read e.head.work ≡ false → IsUnread e.head.dev s touches
  write_unread h touches served s e here writes t is reads = by_from (served.issues e.head.dev s t is).from
    where
      low : s < 30
      low = in_slots h.driver.entries s e served.bounded.slots here

      by_from : IsRequest h.driver e.head.dev s t ⊎ (IsStep h.driver e.head.dev s t ⊎ IsOrdered h.driver e.head.dev s t) → ⊥
      by_from (inl q) =
          let entry : q.entry ≡ e = same_entry q.entry e (sym q.stands ∙ here) in
          true≢false (sym (q.reads reads) ∙ ap (λ (x : Entry). is_read x.head.work) entry ∙ writes)
      by_from (inr (inl path)) =
          let last = path.slot in
          omega (arith, last, low)
      by_from (inr (inr order)) =
          let last = order.slot in
          omega (arith, last, low)

  write_stays : (more turns : List HostTurn) (old new : Host) (touches : Touches) → AreTouched len turns old touches → (run : DoesAll old more new) → (s : ℕ)
      (f : Entry) → is_read f.head.work ≡ false → AllStood s f old new more run → (i : ℕ) → i < total_of f.prds
      → LiesInClient (length old.memory.client) (place f.prds i) 1
      → slice_index new.memory.client (place f.prds i - client_start) ≡ slice_index old.memory.client (place f.prds i - client_start)
  write_stays [] turns old new touches came run s f writes stood i below inside =
      ap (λ (h : Host). slice_index h.memory.client (place f.prds i - client_start)) run
  write_stays (t ∷ more) turns old new touches came run s f writes stood i below inside =
      let e : Entry = stood.0.entry in
      let prds : e.prds ≡ f.prds = ap (λ (x : Entry). x.prds) stood.0.same in
      let unread : IsUnread e.head.dev s touches =
      write_unread old touches (touched_served len turns old touches right came) s e stood.0.here
      (ap (λ (x : Entry). is_read x.head.work) stood.0.same ∙ writes) in
      let first : slice_index run.0.memory.client (place e.prds i - client_start) ≡ slice_index old.memory.client (place e.prds i - client_start) =
      turn_stays len right turns old touches came s e stood.0.here unread i (subst (λ (l : List Prd). i < total_of l) (sym prds) below)
      (subst (λ (l : List Prd). LiesInClient (length old.memory.client) (place l i) 1) (sym prds) inside) t run.0 run.1 in
      let long : length run.0.memory.client ≡ length old.memory.client =
      as_long old (t ∷ []) run.0 (run.0, run.1, refl) (touched_sound len turns old touches right came) in
      write_stays more (turns ++ t ∷ []) run.0 new (later len right turns old touches came t run.0 run.1)
      (came_next len right turns old touches came t run.0 run.1) run.2 s f writes stood.1 i below
      (subst (λ (n : ℕ). LiesInClient n (place f.prds i) 1) (sym long) inside)
      ∙ subst (λ (l : List Prd). slice_index run.0.memory.client (place l i - client_start) ≡ slice_index old.memory.client (place l i - client_start)) prds first

-- ## The request

half : (total sectors : ℕ) → (total == sectors * 512) ≡ true → total ≡ 512 * sectors
half total sectors h = grind (arith, nat_tests, h)

true_of : (b : Bool) → not b ≡ false → b ≡ true
true_of true h = refl
true_of false h = absurd (true≢false h)

matched : (request : Request) → is_mismatch request ≡ false → total_of request.prds.items ≡ 512 * request.sectors
matched request fits =
    let parts = or_parts (nat_lt 248 (length request.prds.items)) (not (total_of request.prds.items == request.sectors * 512)) fits in
    half (total_of request.prds.items) request.sectors (true_of (total_of request.prds.items == request.sectors * 512) parts.1)

in_area : (p len : ℕ) → 1048576 ≤ p → p + 1 ≤ 1048576 + len → p - 1048576 < len
in_area p len least most = omega (arith, least, most)

from_start : (p : ℕ) → 1048576 ≤ p → 1048576 + (p - 1048576) ≡ p
from_start p least = omega (arith, least)

-- a request that writes reads nothing
writes_only : (w : Work) → w ≡ Write → is_read w ≡ false
writes_only w is = ap is_read is

module _ (config : Config) (units : List Attached) (fits : is_config config (length units) ≡ true) (steps : List Step) (answers : List Answer) (now : Places)
    (run : Run (new_world config units) steps answers now) (ticket : Ticket) (slot : ℕ)
    (r : IsReportedIn ticket slot (new_world config units) now steps answers run) (writes : r.request.work ≡ Write) where
  right : is_memory_size config.memory ≡ true
  right = sized config (length units) fits

  abbrev at : Host
  at = r.took.at.host

  abbrev s : IsStepOf (step.Submit r.dev r.request) (answer.Submitted ticket) (new_world config units) r.took.at r.took.before r.took.told r.took.came
  s = r.submitted

  abbrev next : Host
  next = s.next.host

  abbrev f : Entry
  f = rephased Issued (new_entry ticket.0 r.dev r.request)

  tooks : Tooks at r.bytes r.report r.took.next.host
  tooks = host_takes r.took.at r.took.next step.HostTake r.dev r.conn r.number r.bytes r.report r.took.rule

  -- ## From the submit on

  abbrev first : List HostTurn
  first = over turn_of (new_world config units) s.before s.told s.at s.came ++ Submitted r.dev r.request ticket.0 ∷ []

  came_first : GoesTouched config.memory ([] ++ first) next
  came_first = touched_over config.memory right [] first (opening_host 0 (zeroed config.memory)) next [] opens
      (does-append (opening_host 0 (zeroed config.memory)) s.at.host next (over turn_of (new_world config units) s.before s.told s.at s.came)
      (Submitted r.dev r.request ticket.0 ∷ []) (run_does (new_world config units) s.before s.told s.at s.came) (next, s.rule.0, refl))

  sound_next : IsSoundHost next
  sound_next = touched_sound config.memory ([] ++ first) next came_first.touches right came_first.touched

  abbrev more : List HostTurn
  more = over turn_of s.next s.after s.later r.took.at s.went

  goes_on : DoesAll next (over turn_of s.next s.after s.later r.took.at s.went) at
  goes_on = run_does s.next s.after s.later r.took.at s.went

  given : ticket.0 ≤ next.driver.given
  given =
      let one = s.rule.0.taken.next in
      let two : next.driver.given ≡ s.at.host.driver.given + 1 = ap (λ (d : Driver). d.given) s.rule.0.taken.driver in
      omega (arith, one, two)

  stood : AllStood slot f next at (over turn_of s.next s.after s.later r.took.at s.went) goes_on
  stood = all_stood (over turn_of s.next s.after s.later r.took.at s.went) next at goes_on sound_next slot f given r.issued

  long : length at.memory.client ≡ length next.memory.client
  long = as_long next (over turn_of s.next s.after s.later r.took.at s.went) at goes_on sound_next

  long_first : length next.memory.client ≡ length s.at.host.memory.client
  long_first = ap (λ (c : List ℕ). length c) s.rule.0.taken.client

  whole : total_of r.request.prds.items ≡ 512 * r.request.sectors
  whole = matched r.request (is_taken s.at.host.driver s.at.host.memory r.dev r.request s.rule.0.accepted).matched

  -- ## At the report

  module _ (turns : List HostTurn) (touches : Touches) (touched : AreTouched config.memory turns r.took.at.host touches) (i byte : ℕ)
      (less : i < 512 * r.request.sectors) (is_filled : filled slot (own r.dev touches) i ≡ Some byte) where
    served : IsServed at.driver (shared_by at) touches
    served = touched_served config.memory turns at touches right touched

    kept : AreKept at touches
    kept = touched_kept config.memory turns at touches right touched

    sent : AreSent touches
    sent = touched_sent config.memory turns at touches right touched

    low : slot < 30
    low = in_slots at.driver.entries slot f served.bounded.slots r.issued

    delivers : TookDelivers at touches r.bytes r.report r.took.next.host
    delivers = touched_delivers config.memory turns at touches right touched r.bytes r.report r.took.next.host tooks

    it : (t : Transfer) × (issued slot (own (port_of r.bytes) touches) ≡ Some t)
    it = issued_now slot (shared_by at) r.bytes (own (port_of r.bytes) touches) (sym (delivers.reported.done slot (omega (arith, low))) ∙ r.done)

    is_issued : issued slot (own r.dev touches) ≡ Some it.0
    is_issued = ap (λ (n : ℕ). issued slot (own n touches)) (sym r.of_dev) ∙ it.1

    issue : IsIssueOf at.driver r.dev slot it.0
    issue = served.issues r.dev slot it.0 is_issued

    request : IsRequest at.driver r.dev slot it.0
    request = by_from issue.from
      where
        by_from : IsRequest at.driver r.dev slot it.0 ⊎ (IsStep at.driver r.dev slot it.0 ⊎ IsOrdered at.driver r.dev slot it.0) → IsRequest at.driver r.dev slot it.0
        by_from (inl q) = q
        by_from (inr (inl path)) =
            let last = path.slot in
            absurd (omega (arith, last, low))
        by_from (inr (inr order)) =
            let last = order.slot in
            absurd (omega (arith, last, low))

    entry : request.entry ≡ f
    entry = same_entry request.entry f (sym request.stands ∙ r.issued)

    table : it.0.table ≡ r.request.prds.items
    table = request.table ∙ ap (λ (x : Entry). x.prds) entry

    writing : IsWriting r.dev slot it.0 touches
    writing = record { is = is_issued; writes = by_kind (is_reading it.0.work.kind) refl }
      where
        by_kind : (b : Bool) → is_reading it.0.work.kind ≡ b → b ≡ false
        by_kind false is = refl
        by_kind true is =
            absurd (true≢false (sym (request.reads is) ∙ ap (λ (x : Entry). is_read x.head.work) entry ∙ writes_only r.request.work writes))

    below : i < it.0.work.len
    below =
        let total = issue.total in
        let same : total_of it.0.table ≡ total_of r.request.prds.items = ap total_of table in
        omega (arith, total, same, whole, less)

    good : HaveGoodPrds (end_of at.memory) at.driver
    good = good_since turns (opening_host 0 (zeroed config.memory)) at (touched_does config.memory turns at touches touched)
        (hosts_stay_sound.opens Switching 0 (zeroed config.memory) (zeroed_right config.memory right)) refl

    inside : LiesInClient (length at.memory.client) (place r.request.prds.items i) 1
    inside = subst (λ (l : List Prd). LiesInClient (length at.memory.client) (place l i) 1) table
        (place_inside (length at.memory.client) it.0.table i
        (issue_inside at r.dev slot it.0 (touched_sound config.memory turns at touches right touched) good issue.from)
        (subst (λ (n : ℕ). i < n) (sym issue.total) below))

    -- the byte stands there now
    stands_now : slice_index at.memory.client (place r.request.prds.items i - client_start) ≡ byte
    stands_now =
        kept.client (place r.request.prds.items i - client_start) (in_area (place r.request.prds.items i) (length at.memory.client) inside.0 inside.1)
        ∙ ap (client zero_at touches) (from_start (place r.request.prds.items i) inside.0)
        ∙ ap (λ (l : List Prd). client zero_at touches (place l i)) (sym table)
        ∙ sent_stands_in_place zero_at touches sent.held kept.within sent.gathered r.dev slot i byte it.0 writing below is_filled

    -- and did since the submit
    stands_first : slice_index at.memory.client (place r.request.prds.items i - client_start)
        ≡ slice_index next.memory.client (place r.request.prds.items i - client_start)
    stands_first = write_stays config.memory right (over turn_of s.next s.after s.later r.took.at s.went) ([] ++ first) next at came_first.touches
        came_first.touched goes_on slot f (writes_only r.request.work writes) stood i (subst (λ (n : ℕ). i < n) (sym whole) less)
        (subst (λ (n : ℕ). LiesInClient n (place r.request.prds.items i) 1) long inside)

    pub stood_there : StandsThere byte r.request.prds.items s.at.host.memory i
    stood_there = record {
      inside = subst (λ (n : ℕ). LiesInClient n (place r.request.prds.items i) 1) (long ∙ long_first) inside;
      is = sym (ap (λ (c : List ℕ). slice_index c (place r.request.prds.items i - client_start)) s.rule.0.taken.client) ∙ sym stands_first ∙ stands_now;
    }

pub sent_as_submitted : SentAsSubmitted
sent_as_submitted config units fits steps answers now run ticket slot r writes turns touches touched i byte less is =
    stood_there config units fits steps answers now run ticket slot r writes turns touches touched i byte less is

pub written_as_submitted : WrittenAsSubmitted
written_as_submitted config units fits steps answers now run c polled writes sectors plan past disk queued d same i less =
    let r : IsReportedIn c.ticket c.slot (new_world config units) now steps answers run = polled.reported in
    let e : EndedSince config units r.dev r.took.at d past sectors c.slot (new_entry c.ticket.0 r.dev r.request) now.host.memory =
    polled.honest sectors plan past disk queued d same in
    let w = e.ends.writes writes in
    let long = w.long in
    let has : slice_get w.written.bytes i ≡ Some (slice_index w.written.bytes i) = slice_get-get_or w.written.bytes i 0 (omega (arith, long, less)) in
    let there : StandsThere (slice_index w.written.bytes i) r.request.prds.items r.submitted.at.host.memory i =
    sent_as_submitted config units fits steps answers now run c.ticket c.slot r writes (host_turns config units r.dev r.took.at d) e.touches e.touched i
    (slice_index w.written.bytes i) less (w.bytes i less ∙ has) in
    record { inside = there.inside; is = has ∙ ap Some (sym there.is) }
