-- For `turns_serve`. After each turn everything that is issued is the driver's, and the turn serves what is issued.
use Rattle.std.proofs.Common.{◌≡◌, ℕ, ◌+◌, ◌<◌, ◌≤◌, Bool, true, false, ◌&&◌, ◌||◌, List, [], ◌∷◌, ◌++◌, length, replicate, set, refl, sym, ◌∙◌, ap}
use Rattle.std.proofs.{Common.{subst, inl, inr, arith, Option, Some, None}, lemmas.Bool.{cases_Bool, cases_eq, cases_lt, false≢true, le-ltb}}
use Rattle.std.proofs.lemmas.{Bool.{or_parts, true≢false, Decides.nat_tests}, List.{get_or-replicate, get_or-set_other, get_or_past}}
use Rattle.std.proofs.lemmas.List.{length-replicate, length-set}
use Rattle.std.specs.{Prelude.{if◌then◌else◌, ◌==◌, ◌%◌, is_some, map, max, min, not, nat_le, nat_lt}, List.list_any}
use Rattle.fis_view.specs.Seen.{seen as seen_in}
use Rattle.host_memory.specs.{Memory.{IsHostMemory, Memory}, Reading.{AgreeFrom, share_byte, shares_with}, declared.table.Prd.Prd}
use Rattle.hba_commands.specs.{declared.command.Command.Command, Headers.header_place}
use Rattle.slots.specs.{Slots.{Issue, has_bit, holds as issue_holds, issue_at}, Work.{is_dma, is_read as work_reads}}
use Rattle.slots.proofs.Door.{lowest_is}
use Rattle.hba_fbs.specs.{declared.report.TakeReport.TakeReport, Sending.{Outgoing, gathered, outgoing}, Tables.prds_of, Taking.{admitted, ignores}}
use Rattle.hba_fbs.specs.{Taking.{port_of, row_for}, Views.{Port, last_command}}
use Rattle.hba_fbs.specs.Sending as out
use Rattle.hba_laws.specs.{Client.{AreApart, By, IsKept, Puts, Touches, own}, Delivering.{SparesTables, begun_by, event_taken, is_control_issue}}
use Rattle.hba_laws.specs.{Delivering.{touched, touched_by_out}, History.{Sent, SentControl, SetUp, Transfer, issued}, Hosts.HostEvent}
use Rattle.hba_laws.specs.Between.{NoneIssues}
use Rattle.hba_laws.specs.Hosts as event
use Rattle.hba_laws.specs.Sound as sound
use Rattle.hba_laws.proofs.Door.{gives_commands, opens_untold, out_none, took_none}
use Rattle.hba_driver.specs.declared.{mode.Mode.{Mode, TheVariants.{Switching, CommandBased}}, plan.Device.{Device, TheVariants.Absent}}
use Rattle.hba_driver.specs.declared.request.{Completion.Completion, Outcome.TheVariants.Done, Request.Request, SubmitError.SubmitError, Work.Work}
use Rattle.hba_driver.specs.{Seeing.Sight, declared.{slot.Phase.{Phase, TheVariants.{Aside, Ended}}, turn.Turn.Turn}, Drivers.{Driver, Entry}}
use Rattle.hba_driver.specs.Drivers.{device_at, entry_at, has_ended, has_ended_in, holds, is_aside, is_aside_in, is_issued, is_issued_in}
use Rattle.hba_driver.specs.{Drivers.{new_driver_in, rephase, rephased}, Effects.{buffer_prd, table_of}, Events.{IsSoundHostIn, events_of}}
use Rattle.hba_driver.specs.{Events.{events_over, opening_host_in, shared_by}, HostTurns.{Does, DoesAll, Host, HostTurn, Took, Pushed, Ticked}}
use Rattle.hba_driver.specs.{HostTurns.{Submitted, Polled, Put, sight_in}, Modes.is_switching, Orders.{is_flush, is_queued}, Requests.device_refusal}
use Rattle.hba_driver.specs.{Requests.{is_bad_count, is_bad_prd}, Served.{AreBounded, HasCommand, HaveCommands, HasSize, IsBounded, IsFisOf}}
use Rattle.hba_driver.specs.{Served.{IsIssueOf, IsServed, RunServes, TurnsServe, AreOfOne}, Sights.{file_shown, sight_of}, Submits.after_submit}
use Rattle.hba_driver.specs.{Submits.{end_of, lowest_ended, new_entry, new_head, next_slot, submit_refusal}, Ticks.{after_tick, done_ended, is_done}}
use Rattle.hba_driver.specs.{Ticks.{seen, turn}, Between.{From, IsFree, MayEnd, PollFacts, beside}}
use Rattle.hba_driver.specs.declared.request.SubmitError.TheVariants as refusal
use Rattle.hba_driver.specs.declared.request.Work.TheVariants as work
use Rattle.hba_driver.proofs.{issued.ApartLemmas.{issues_apart, kept_device, puts_spare}, ends.DoneLemmas.free_slot, events.DrivenLemmas.not_below}
use Rattle.hba_driver.proofs.{events.{DrivenLemmas.turn_opens, EventLemmas.{beside_area, beside_same, does_store}}, ticks.DueLemmas.goes_turn}
use Rattle.hba_driver.proofs.{events.EventLemmas.sound_beside, issued.EndingLemmas.{each_act, may_end}, requests.HistoryLemmas.{back_of, free_below}}
use Rattle.hba_driver.proofs.{requests.HistoryLemmas.{free_other, freed, poll_facts}, issued.IssueLemmas.{calm_event, command_stays, rest_none}}
use Rattle.hba_driver.proofs.{issued.IssueLemmas.{rest_then, spares_by, told_at}, ticks.LifeLemmas.{due_seen, entry_of_rephased, keeps_seen}}
use Rattle.hba_driver.proofs.{ticks.LifeLemmas.{slots_seen, unaside_stays}, calls.RequestLemmas.set_cases, issued.ServingLemmas.{Follows, Goes}}
use Rattle.hba_driver.proofs.{issued.ServingLemmas.{beside_table, from_moves, moves_goes, not_busy, served_moves}, events.SoundLemmas.sound_host}
use Rattle.hba_driver.proofs.{events.SoundLemmas.sound_turn, requests.StandLemmas.{agree_turn, header_area, in_slots, posted_beside, runs}}
use Rattle.hba_driver.proofs.{requests.StandLemmas.{same_memory, same_written, table_area}, calls.SubmitLemmas.is_taken, issued.TickingLemmas.IsOurs}
use Rattle.hba_driver.proofs.{issued.TickingLemmas.Needs, events.TurnLemmas.{first_none, framed_over, sound_shared, submit_open}}

-- ---- what a tick sees

some_same : {A : Type 0} (a b : A) → Some a ≡ Some b → a ≡ b
some_same a b h = cc

pub not_done : (a b : Bool) → b ≡ true → (a && not b) ≡ false
not_done true true h = refl
not_done false true h = refl
not_done a false h = absurd (false≢true h)

else_entry : (b : Bool) (x y : Option Entry) → b ≡ false → (if b then x else y) ≡ y
else_entry true x y h = absurd (true≢false h)
else_entry false x y h = refl

issued_unaside : (p : Phase) → is_issued_in p ≡ true → is_aside_in p ≡ false
issued_unaside Aside h = absurd (false≢true h)
issued_unaside other h = refl

module _ (mode : Mode) (port : Port) (memory : Memory) (d : Driver) (past : Touches) (host : sound.IsHost (beside port memory)) (served : IsServed d (beside port memory) past) where
  -- what is issued has its bit
  pub bit_on : (n s : ℕ) (t : Transfer) → n < 16 → s < 32 → issued s (own n past) ≡ Some t → has_bit (sight_of mode port memory).issued s ≡ true
  bit_on n s t below slot here = elim (cases_Bool (has_bit (sight_of mode port memory).issued s)) [
    | inl on ↦ on
    | inr off ↦ absurd (false≢true (sym (ap is_some (free_slot mode port memory s host.slots slot off)) ∙ told_at (beside port memory) past served.told n s t below here))
  ]

  seen_follows : Follows d (seen (sight_of mode port memory) d)
  seen_follows = record {
    mode = (goes_turn (sight_of mode port memory) d.plan (done_ended (sight_of mode port memory).issued d.entries)).mode;
    devices = (goes_turn (sight_of mode port memory) d.plan (done_ended (sight_of mode port memory).issued d.entries)).devices;
    slots = slots_seen (sight_of mode port memory) d;
    path = (goes_turn (sight_of mode port memory) d.plan (done_ended (sight_of mode port memory).issued d.entries)).low;
    asked = λ x here a. inl ((goes_turn (sight_of mode port memory) d.plan (done_ended (sight_of mode port memory).issued d.entries)).back x here a);
    entries = λ s f here.
        let b = back_of (entry_at d.entries s) (entry_at (seen (sight_of mode port memory) d).entries s) (keeps_seen (sight_of mode port memory) d s) f here in
        (b.0, b.1, b.2.same);
  }

  seen_moves : (n s : ℕ) (t : Transfer) → n < 16 → issued s (own n past) ≡ Some t → From d n s t → From (seen (sight_of mode port memory) d) n s t
  seen_moves n s t below here from =
      let plan = goes_turn (sight_of mode port memory) d.plan (done_ended (sight_of mode port memory).issued d.entries) in
      from_moves d (seen (sight_of mode port memory) d) n s t
      (λ f slot there goes of_dev.
      let v : Sight = sight_of mode port memory in
      let still : entry_at (done_ended v.issued d.entries) s ≡ Some f =
      entry_of_rephased (is_done v.issued) (Ended Done) d.entries s ∙ ap (rephase (is_done v.issued s) (Ended Done)) there
      ∙ else_entry (is_done v.issued s f.head) (Some (rephased (Ended Done) f)) (Some f) (not_done (is_issued f.head) (has_bit v.issued s) (bit_on n s t below (omega (arith, slot)) here)) in
      unaside_stays v.log (turn v d).logged (done_ended v.issued d.entries) s (ap (holds is_aside) still ∙ issued_unaside f.head.phase goes) ∙ still)
      (λ is x h a of_dev. plan.path (subst (λ (k : ℕ). has_bit (sight_of mode port memory).issued k ≡ true) is (bit_on n s t below (omega (arith, is)) here)) x h a)
      (λ is h. plan.asked (subst (λ (k : ℕ). has_bit (sight_of mode port memory).issued k ≡ true) is (bit_on n s t below (omega (arith, is)) here)) h)
      from

  pub seen_served : IsServed (seen (sight_of mode port memory) d) (beside port memory) past
  seen_served = served_moves d (seen (sight_of mode port memory) d) (beside port memory) past seen_follows seen_moves served

-- ---- a tick

opened_for : {mode : Mode} (old : Host) → IsSoundHostIn mode old → Needs (turn (sight_in old) old.driver).act → 7 ≤ old.driver.plan.opened
opened_for old s needs = elim (cases_Bool (nat_lt old.driver.plan.opened 7)) [
  | inl less ↦
      let is = turn_opens (sight_in old) old.driver.plan (done_ended (sight_in old).issued old.driver.entries) less in
      absurd (subst Needs (ap (λ (t : Turn). t.act) is) needs)
  | inr more ↦ not_below old.driver.plan.opened 7 more
]

pub needs_area : {mode : Mode} (old : Host) → IsSoundHostIn mode old → Needs (turn (sight_in old) old.driver).act → old.port.registers.fb ≡ 4096
needs_area old s needs = s.registers.area (omega (arith, opened_for old s needs))

pub needs_ours : {mode : Mode} (old : Host) → IsSoundHostIn mode old → Needs (turn (sight_in old) old.driver).act → IsOurs old.driver.plan.mode old.port.registers
needs_ours old s needs = record {
  list = s.registers.commands;
  area = needs_area old s needs;
  switches = s.registers.switches (omega (arith, opened_for old s needs)) ∙ ap is_switching (sym s.drives);
}

-- what ends a fault, in the mode of the driver
pub may_end_in : {mode : Mode} (old : Host) → IsSoundHostIn mode old → MayEnd old.driver.plan.mode (turn (sight_in old) old.driver).act old.port
may_end_in old s = subst (λ (m : Mode). MayEnd m (turn (sight_in old) old.driver).act old.port) (sym s.drives) (may_end old s)

tick_goes : {mode : Mode} (D : Driver) (fs : List HostEvent) (c : event.Host) (old : Host) (a : Bool) (new : Host) (h : Does old (Ticked a) new) → IsSoundHostIn mode old → Goes D new.driver fs c (shared_by new)
    → Goes D old.driver (events_of old (Ticked a) new h ++ fs) c (shared_by old)
unfolding after_tick
tick_goes D fs c old a new h s go = λ past served.
    let v : Sight = sight_in old in
    let mode_is : (seen v old.driver).plan.mode ≡ old.driver.plan.mode = (goes_turn v old.driver.plan (done_ended v.issued old.driver.entries)).mode in
    each_act D (seen v old.driver) v (file_shown new.port) fs c old.driver.plan.mode (turn v old.driver).act old.port new.port old.memory new.memory (may_end_in old s) (due_seen v old.driver) mode_is (needs_ours old s) s.ruled s.memory h.possible h.does
    (subst (λ (d : Driver). Goes D d fs c (shared_by new)) h.driver go) past (seen_served old.driver.plan.mode old.port old.memory old.driver past (sound_beside old.port old.memory s.ruled s.memory) served)

-- ---- commands stay over a turn

stands_turn : {mode : Mode} (old : Host) (t : HostTurn) (new : Host) → Does old t new → IsSoundHostIn mode old → IsSoundHostIn mode new → AreBounded old.driver → HaveCommands old.driver old.memory → HaveCommands old.driver new.memory
stands_turn old t new h s n bounded commands k e here =
    let below : k < 30 = in_slots old.driver.entries k e bounded.slots here in
    command_stays k e old.memory new.memory (n.memory.structure_len ∙ sym s.memory.structure_len) (bounded.entries k e here).few (record {
      header = agree_turn k (header_place 0 k) 32 (header_area k below) e old t new h (sound_host old s) here;
      table = agree_turn k (table_of k) 4096 (table_area k below) e old t new h (sound_host old s) here;
    }) (commands k e here)

-- ---- frames are taken and given

spares_same : (a b : event.Host) → b.memory ≡ a.memory → SparesTables a b
spares_same a b is s command busy last = ap (λ (m : Memory). prds_of m command) is

took_commands : (old new : Host) (frame : List ℕ) (report : TakeReport) → Does old (Took frame report) new → new.port.commands ≡ old.port.commands
took_commands old new frame report h = elim (cases_Bool (ignores (port_of frame) old.port frame)) [
  | inl skip ↦ ap (λ (p : Port). p.commands) (h.ignored skip).port
  | inr heard ↦ (h.heard heard).commands
]

took_table : {mode : Mode} (old new : Host) (frame : List ℕ) (report : TakeReport) → Does old (Took frame report) new → IsSoundHostIn mode old → (s : ℕ) → AgreeFrom (table_of s) 4096 old.memory.structure new.memory.structure
took_table old new frame report h sound s = elim (cases_Bool (ignores (port_of frame) old.port frame)) [
  | inl skip ↦ same_memory (table_of s) 4096 old.memory new.memory (ap (λ (m : Memory). m.structure) (h.ignored skip).memory)
  | inr heard ↦
      posted_beside (table_of s) 4096 old.port.registers.fb (row_for old.port (port_of frame)) (admitted (port_of frame) (seen_in frame)) old.memory.structure new.memory.structure
      ((sound_host old sound).area (runs old.port frame heard)) (inr (omega arith)) (h.heard heard).structure
]

kept_sent : (past : Touches) → IsKept past → (dev slot : ℕ) (b : Bool) → IsKept (By dev (if b then SentControl slot else Sent slot) ∷ past)
kept_sent past k dev slot true = k
kept_sent past k dev slot false = k

kept_out : (past : Touches) → AreApart past → IsKept past → (host : event.Host) (o : Outgoing) → IsKept (touched_by_out host o ++ past)
kept_out past apart k host (out.Data dev offset len command) = (apart, k)
kept_out past apart k host (out.Order dev slot command) = by_issue (issue_at host.port.slots slot)
  where
    kept : (b : Bool) → IsKept (By dev (if b then SentControl slot else Sent slot) ∷ past)
    kept = kept_sent past k dev slot

    by_issue : (o : Option Issue) → IsKept ((map (By dev) (begun_by slot o) ++ By dev (if issue_holds is_control_issue o then SentControl slot else Sent slot) ∷ []) ++ past)
    by_issue None = kept false
    by_issue (Some i) = by_dma (is_dma i.work.kind)
      where
        by_dma : (b : Bool) → IsKept ((map (By dev) (if b then SetUp slot 0 i.work.len (work_reads i.work.kind) ∷ [] else []) ++ By dev (if is_control_issue i then SentControl slot else Sent slot) ∷ []) ++ past)
        by_dma true = kept (is_control_issue i)
        by_dma false = kept (is_control_issue i)
kept_out past apart k host other = k

all_apart : {mode : Mode} (h : Host) (past : Touches) → IsSoundHostIn mode h → IsServed h.driver (shared_by h) past → AreApart past
all_apart h past s served = issues_apart h.driver past served.issues served.bounded s.requests

same_driver : (D : Driver) (fs : List HostEvent) (c : event.Host) (old new : Host) → new.driver ≡ old.driver → Goes D new.driver fs c (shared_by new) → Goes D old.driver fs c (shared_by new)
same_driver D fs c old new is go = subst (λ (d : Driver). Goes D d fs c (shared_by new)) is go

-- ---- a request is taken

gone : (e : SubmitError) {P : Type 0} → Some e ≡ None → P
gone e h = cc

pub device_there : (d : Driver) (memory : Memory) (dev : ℕ) (request : Request) → length d.plan.devices ≡ 15 → submit_refusal d memory dev request ≡ None → dev < 15
unfolding submit_refusal
device_there d memory dev request long h = elim (cases_lt dev (length d.plan.devices)) [
  | inl below ↦ omega (arith, below, long)
  | inr past ↦
      let none : device_refusal Absent ≡ None = ap device_refusal (sym (get_or_past d.plan.devices dev Absent past)) ∙ first_none (device_refusal (device_at d.plan dev)) _ h in
      gone refusal.NoDevice none
]

-- bytes past the driver's buffer share none with it
past_buffer : (end : ℕ) (prd : Prd) → is_bad_prd end prd ≡ false → share_byte buffer_prd prd ≡ false
past_buffer end prd h = parts prd.address prd.bytes end h
  where
    low : (a b e : ℕ) → ((a % 2 == 1) || (b % 2 == 1) || (b == 0) || nat_lt 4194304 b || nat_lt a 1049088 || nat_lt e (a + b)) ≡ false → 1049088 ≤ a
    low a b e h = grind (arith, nat_tests)

    parts : (a b e : ℕ) → ((a % 2 == 1) || (b % 2 == 1) || (b == 0) || nat_lt 4194304 b || nat_lt a 1049088 || nat_lt e (a + b)) ≡ false → nat_lt (max 1048576 a) (min (1048576 + 512) (a + b)) ≡ false
    parts a b e h = let l : 1049088 ≤ a = low a b e h in le-ltb (max 1048576 a) (min (1048576 + 512) (a + b)) (omega (arith, l))

past_all : (end : ℕ) (prds : List Prd) → list_any (is_bad_prd end) prds ≡ false → shares_with buffer_prd prds ≡ false
past_all end [] h = refl
past_all end (prd ∷ prds) h =
    let p = or_parts (is_bad_prd end prd) (list_any (is_bad_prd end) prds) h in
    rw (past_buffer end prd p.0, past_all end prds p.1) refl

-- a read or a write whose count is not refused
count_good : (s l : ℕ) → ((s == 0) || nat_lt 256 s || nat_le 281474976710656 l) ≡ false → (0 < s) × ((s ≤ 256) × (l < 281474976710656))
count_good s l h = (grind (arith, nat_tests), (grind (arith, nat_tests), grind (arith, nat_tests)))

sized : (w : Work) (s l : ℕ) → (if is_flush w then not (s == 0) else (s == 0) || nat_lt 256 s || nat_le 281474976710656 l) ≡ false → is_queued w ≡ true → (0 < s) × ((s ≤ 256) × (l < 281474976710656))
sized work.Flush s l h q = absurd (false≢true q)
sized other s l h q = count_good s l h

sized_request : (request : Request) (ticket dev : ℕ) → is_bad_count request ≡ false → is_queued request.work ≡ true → HasSize (new_head ticket dev request)
sized_request request ticket dev h q =
    let is = sized request.work request.sectors request.lba h q in
    record { some = is.0; most = is.1.0; place = is.1.1 }

new_bounded : (d : Driver) (memory : Memory) (dev : ℕ) (request : Request) (ticket : ℕ) → length d.plan.devices ≡ 15 → submit_refusal d memory dev request ≡ None → IsBounded (new_entry ticket dev request)
new_bounded d memory dev request ticket long h =
    let taken = is_taken d memory dev request h in
    record {
      dev = device_there d memory dev request long h;
      size = sized_request request ticket dev taken.counted;
      few = taken.few;
      beyond = ap (λ (b : Bool). b || false) (past_all (end_of memory) request.prds.items taken.good);
    }

free_next : (d : Driver) (memory : Memory) (dev : ℕ) (request : Request) → submit_refusal d memory dev request ≡ None → IsFree d (next_slot d)
free_next d memory dev request h n t (inl r) = free_other d memory dev request h (next_slot d) r.entry r.stands refl
free_next d memory dev request h n t (inr (inl i)) = absurd (omega (arith, i.slot, free_below d memory dev request h))
free_next d memory dev request h n t (inr (inr o)) = absurd (omega (arith, o.slot, free_below d memory dev request h))

submit_moves : (d : Driver) (memory : Memory) (dev : ℕ) (request : Request) → submit_refusal d memory dev request ≡ None → (n s : ℕ) (t : Transfer) → From d n s t → From (after_submit d dev request) n s t
submit_moves d memory dev request h n s t from =
    from_moves d (after_submit d dev request) n s t
    (λ f below here goes of_dev. get_or-set_other d.entries (next_slot d) s _ None (free_other d memory dev request h s f here) ∙ here) (λ is x here a of_dev. here) (λ is h. h) from

-- its command stays, and so does that of each other request
submit_served : (old : Host) (dev : ℕ) (request : Request) (ticket : ℕ) (new : Host) (past : Touches) → Does old (Submitted dev request ticket) new → IsServed old.driver (shared_by new) past → IsServed (after_submit old.driver dev request) (shared_by new) past
submit_served old dev request ticket new past h served = record {
  told = served.told;
  bounded = record {
    devices = served.bounded.devices;
    path = served.bounded.path;
    slots = length-set old.driver.entries (next_slot old.driver) _ ∙ served.bounded.slots;
    entries = λ s f here. elim (set_cases old.driver.entries (next_slot old.driver) (Some (new_entry (old.driver.given + 1) dev request)) s f here) [
      | inl at ↦ subst IsBounded (some_same (new_entry (old.driver.given + 1) dev request) f at.1) (new_bounded old.driver old.memory dev request (old.driver.given + 1) served.bounded.devices h.accepted)
      | inr beside ↦ served.bounded.entries s f beside.1
    ];
  };
  commands = λ s f here. elim (set_cases old.driver.entries (next_slot old.driver) (Some (new_entry (old.driver.given + 1) dev request)) s f here) [
    | inl at ↦
        let w = h.taken.command in
        let mine : HasCommand (next_slot old.driver) (new_entry ticket dev request) new.memory = record { header = w.header; request = w.request; cfis = w.cfis; entries = w.entries } in
        let named : HasCommand (next_slot old.driver) (new_entry (old.driver.given + 1) dev request) new.memory = subst (λ (k : ℕ). HasCommand (next_slot old.driver) (new_entry k dev request) new.memory) h.taken.next mine in
        subst (λ (k : ℕ). HasCommand k f new.memory) (sym at.0) (subst (λ (x : Entry). HasCommand (next_slot old.driver) x new.memory) (some_same (new_entry (old.driver.given + 1) dev request) f at.1) named)
    | inr beside ↦ served.commands s f beside.1
  ];
  issues = λ n s t here.
      let i = served.issues n s t here in
      record { dev = i.dev; from = submit_moves old.driver old.memory dev request h.accepted n s t i.from; total = i.total; apart = i.apart };
  one = served.one;
  fises = λ n s t command here is.
      let f = served.fises n s t command here is in
      record {
        to_dev = f.to_dev;
        of_request = λ x low there. elim (set_cases old.driver.entries (next_slot old.driver) (Some (new_entry (old.driver.given + 1) dev request)) s x there) [
          | inl at ↦ absurd (free_next old.driver old.memory dev request h.accepted n t (subst (λ (k : ℕ). From old.driver n k t) at.0 (served.issues n s t here).from))
          | inr beside ↦ f.of_request x low beside.1
        ];
        of_step = f.of_step;
      };
  tables = served.tables;
}

-- ---- a request is polled

ended_not : (p : Phase) → has_ended_in p ≡ true → is_issued_in p ≡ true → ⊥
ended_not Aside h k = false≢true k
ended_not (Ended o) h k = false≢true k
ended_not other h k = false≢true h

poll_ended : (d : Driver) (c : Completion) (f : PollFacts d c) → has_ended f.entry.head ≡ true
unfolding lowest_ended
poll_ended d c f =
    let low = lowest_is (λ slot. holds has_ended (entry_at d.entries slot)) 30 f.place f.lowest in
    sym (ap (holds has_ended) f.there) ∙ low.passes

module _ (d : Driver) (c : Completion) (f : PollFacts d c) where
  poll_follows : Follows d (record d { entries = set d.entries f.place None })
  poll_follows = record {
    mode = refl;
    devices = refl;
    path = λ h. h;
    asked = λ x here a. inl here;
    slots = length-set d.entries f.place None;
    entries = λ s x here. elim (set_cases d.entries f.place None s x here) [
      | inl at ↦ none_some x at.1
      | inr beside ↦ (x, beside.1, refl)
    ];
  }
    where
      none_some : (x : Entry) {P : Type 0} → None ≡ Some x → P
      none_some x h = cc

  poll_moves : (n s : ℕ) (t : Transfer) → From d n s t → From (record d { entries = set d.entries f.place None }) n s t
  poll_moves n s t from = from_moves d (record d { entries = set d.entries f.place None }) n s t (λ x below here goes of_dev. there x here goes) (λ is x here a of_dev. here) (λ is h. h) from
    where
      there : (x : Entry) → entry_at d.entries s ≡ Some x → is_issued x.head ≡ true → entry_at (set d.entries f.place None) s ≡ Some x
      there x here goes = elim (cases_eq s f.place) [
        | inl same ↦
            let it : f.entry ≡ x = some_same f.entry x (sym f.there ∙ ap (entry_at d.entries) (sym same) ∙ here) in
            absurd (ended_not x.head.phase (ap (λ (e : Entry). has_ended e.head) (sym it) ∙ poll_ended d c f) goes)
        | inr other ↦ get_or-set_other d.entries f.place s None None other ∙ here
      ]

-- ---- each turn

turn_goes : {mode : Mode} (D : Driver) (fs : List HostEvent) (c : event.Host) (old : Host) (t : HostTurn) (new : Host) (h : Does old t new) → IsSoundHostIn mode old → IsSoundHostIn mode new → Goes D new.driver fs c (shared_by new)
    → Goes D old.driver (events_of old t new h ++ fs) c (shared_by old)
unfolding NoneIssues
turn_goes D fs c old (Took frame report) new h s n go = λ past served.
    let does : event.Does (shared_by old) (event.Took frame report) (shared_by new) = record { ignored = h.ignored; heard = h.heard } in
    let host = sound_shared old s in
    rest_then D (shared_by old) (shared_by new) c (event.Took frame report) fs past does host
    (spares_by old.driver (shared_by old) (shared_by new) past served (n.memory.structure_len ∙ sym s.memory.structure_len) (λ k busy. took_table old new frame report h s k))
    (λ k. kept_device past (all_apart old past s served) k (port_of frame) (event_taken (shared_by old) frame))
    (same_driver D fs c old new h.driver go (touched (shared_by old) (event.Took frame report) ++ past)
    (calm_event old.driver (shared_by old) (shared_by new) (event.Took frame report) past host h.framed does (took_none (shared_by old) frame) (took_commands old new frame report h)
    (stands_turn old (Took frame report) new h s n served.bounded served.commands) served))
turn_goes D fs c old (Pushed frame) new h s n go = λ past served.
    let does : event.Does (shared_by old) (event.Gave frame) (shared_by new) = (h.gives, h.memory) in
    let host = sound_shared old s in
    rest_then D (shared_by old) (shared_by new) c (event.Gave frame) fs past does host (spares_same (shared_by old) (shared_by new) h.memory)
    (λ k. kept_out past (all_apart old past s served) k (shared_by old) (outgoing old.port old.memory))
    (same_driver D fs c old new h.driver go (touched (shared_by old) (event.Gave frame) ++ past)
    (calm_event old.driver (shared_by old) (shared_by new) (event.Gave frame) past host tt does (out_none (shared_by old) (outgoing old.port old.memory))
    (gives_commands (outgoing old.port old.memory) old.port new.port old.memory frame h.gives) (stands_turn old (Pushed frame) new h s n served.bounded served.commands) served))
turn_goes D fs c old (Ticked a) new h s n go = tick_goes D fs c old a new h s go
turn_goes D fs c old (Submitted dev request ticket) new h s n go = λ past served.
    let host = sound_shared old s in
    let below : next_slot old.driver < 30 = free_below old.driver old.memory dev request h.accepted in
    let few = (is_taken old.driver old.memory dev request h.accepted).few in
    let rows = beside_area (next_slot old.driver) _ request.prds.items old.memory.structure new.memory.structure s.memory.structure_len (omega (arith, below)) few h.taken.command in
    let area : old.port.registers.fb ≡ 4096 = s.registers.area (omega (arith, submit_open old.driver old.memory dev request s.devices h.accepted)) in
    let does : event.Does (shared_by old) (event.Stored new.memory.structure) (shared_by new) = does_store (shared_by old) (shared_by new) area s.memory.structure_len rows h.taken.client h.port in
    rest_then D (shared_by old) (shared_by new) c (event.Stored new.memory.structure) fs past does host
    (spares_by old.driver (shared_by old) (shared_by new) past served (rows.long ∙ sym s.memory.structure_len) (λ k busy.
    (same_written (table_of k) 4096 (next_slot old.driver) _ request.prds.items old.memory.structure new.memory.structure s.memory.structure_len (omega (arith, below)) few (inr (omega (arith, below)))
    (beside_table k (next_slot old.driver) (not_busy old.driver (shared_by old) past (next_slot old.driver) k host served (free_next old.driver old.memory dev request h.accepted) busy)) h.taken.command).agree)) (λ k. k)
    (subst (λ (d : Driver). Goes D d fs c (shared_by new)) h.taken.driver go past
    (submit_served old dev request ticket new past h
    (calm_event old.driver (shared_by old) (shared_by new) (event.Stored new.memory.structure) past host tt does tt (ap (λ (p : Port). p.commands) h.port)
    (stands_turn old (Submitted dev request ticket) new h s n served.bounded served.commands) served)))
turn_goes D fs c old (Polled completion) new h s n go =
    let f : PollFacts old.driver completion = poll_facts old.driver completion h.polled in
    let there : Goes D (record old.driver { entries = set old.driver.entries f.place None }) fs c (shared_by new) = subst (λ (d : Driver). Goes D d fs c (shared_by new)) (h.driver ∙ freed old.driver completion f) go in
    moves_goes D old.driver (record old.driver { entries = set old.driver.entries f.place None }) fs c (shared_by old) (poll_follows old.driver completion f) (poll_moves old.driver completion f)
    (subst (λ (x : event.Host). Goes D (record old.driver { entries = set old.driver.entries f.place None }) fs c x) (beside_same old.port new.port old.memory new.memory h.port h.memory) there)
turn_goes D fs c old (Put at bytes) new h s n go = λ past served.
    let host = sound_shared old s in
    let does : event.Does (shared_by old) (event.Put at bytes) (shared_by new) = (record { inside = h.inside; after = h.memory }, h.port) in
    rest_then D (shared_by old) (shared_by new) c (event.Put at bytes) fs past does host
    (spares_by old.driver (shared_by old) (shared_by new) past served (n.memory.structure_len ∙ sym s.memory.structure_len) (λ k busy. same_memory (table_of k) 4096 old.memory new.memory (ap (λ (m : Memory). m.structure) h.memory)))
    (λ k. (puts_spare old.driver past served.issues served.bounded s.requests at (length bytes) h.unused, k))
    (same_driver D fs c old new h.driver go (Puts at bytes ∷ past)
    (calm_event old.driver (shared_by old) (shared_by new) (event.Put at bytes) past host tt does tt (ap (λ (p : Port). p.commands) h.port)
    (stands_turn old (Put at bytes) new h s n served.bounded served.commands) served))

-- ---- over turns

over : {mode : Mode} (turns : List HostTurn) (old new : Host) (run : DoesAll old turns new) → IsSoundHostIn mode old → Goes new.driver old.driver (events_over old new turns run) (shared_by new) (shared_by old)
over {mode} [] old new run s = λ past served.
    rest_none new.driver (shared_by old) (shared_by new) past (ap shared_by run) (sound_shared old s) (subst (λ (x : Host). IsServed x.driver (shared_by old) past) (sym run) served)
over {mode} (t ∷ turns) old new run s =
    let n : IsSoundHostIn mode run.0 = sound_turn old t run.0 run.1 s in
    turn_goes new.driver (events_over run.0 new turns run.2) (shared_by new) old t run.0 run.1 s n (over turns run.0 new run.2 n)

serves : {mode : Mode} (old new : Host) (turns : List HostTurn) (run : DoesAll old turns new) → IsSoundHostIn mode old → (past : Touches) → IsServed old.driver (shared_by old) past → RunServes old new turns run past
serves old new turns run s past served =
    let rest = over turns old new run s past served in
    record {
      runs = rest.runs;
      sound = record { hosts = rest.hosts; frames = framed_over turns old new run };
      spared = rest.spared;
      kept = rest.kept;
      last = rest.last;
    }

-- ---- a host that opens

none_here : (s : ℕ) (e : Entry) {P : Type 0} → entry_at (replicate 30 None) s ≡ Some e → P
none_here s e h = elim (cases_lt s 30) [
  | inl less ↦ none_some e (sym (get_or-replicate 30 s None None less) ∙ h)
  | inr least ↦ none_some e (sym (get_or_past (replicate 30 None) s None (rw (length-replicate {A = Option Entry} 30 None) least)) ∙ h)
]
  where
    none_some : (x : Entry) {Q : Type 0} → None ≡ Some x → Q
    none_some x h = cc

no_command : (s : ℕ) (command : Command) {P : Type 0} → last_command (replicate 32 None) s ≡ Some command → P
no_command s command h = elim (cases_lt s 32) [
  | inl less ↦ none_some command (sym (get_or-replicate 32 s None None less) ∙ h)
  | inr least ↦ none_some command (sym (get_or_past (replicate 32 None) s None (rw (length-replicate {A = Option Command} 32 None) least)) ∙ h)
]
  where
    none_some : (x : Command) {Q : Type 0} → None ≡ Some x → Q
    none_some x h = cc

none_issued : (d : Driver) (n s : ℕ) (t : Transfer) → None ≡ Some t → IsIssueOf d n s t
none_issued d n s t h = cc

none_fis : (d : Driver) (n s : ℕ) (t : Transfer) (command : Command) → None ≡ Some t → IsFisOf d n s t command
none_fis d n s t command h = cc

none_of_two : (mode : Mode) → AreOfOne mode []
none_of_two Switching = tt
none_of_two CommandBased = λ n m s r t u here there. cc

opens : (mode : Mode) (given : ℕ) (start : Memory) → IsHostMemory start → IsServed (new_driver_in mode given) (shared_by (opening_host_in mode given start)) []
opens mode given start h = record {
  told = λ n below. opens_untold n (shared_by (opening_host_in mode given start)).memory;
  bounded = record { devices = length-replicate {A = Device} 15 Absent; path = tt; slots = length-replicate {A = Option Entry} 30 None; entries = λ s e here. none_here s e here };
  commands = λ s e here. none_here s e here;
  issues = λ n s t here. none_issued (new_driver_in mode given) n s t here;
  fises = λ n s t command here is. none_fis (new_driver_in mode given) n s t command here;
  one = none_of_two mode;
  tables = λ s command is. no_command s command is;
}

pub turns_serve : TurnsServe
turns_serve = record { opens = opens; runs = serves }
