-- For `hosts_stay_sound`. What holds for port, driver and memory together when they open, and after each turn.
use Rattle.std.proofs.Common.{◌≡◌, ℕ, ◌+◌, ◌<◌, ◌≤◌, Bool, true, List, [], ◌∷◌, length, drop, replicate, get_or, refl, sym, ◌∙◌, ap, subst, inl, inr}
use Rattle.std.proofs.{Common.{arith, Option, Some, None}, lemmas.{Bool.{cases_Bool, cases_lt, false≢true}, List.{get_or-replicate, get_or_past}}}
use Rattle.std.proofs.lemmas.List.{length-drop, length-replicate}
use Rattle.std.specs.{Prelude.{is_none, not}, List.list_all, Option.option_or}
use Rattle.fis_view.specs.{Seen.seen, declared.view.Fis.Fis}
use Rattle.host_memory.specs.Memory.{IsHostMemory, Memory, is_memory_size, zeroed}
use Rattle.slots.specs.Slots.{match_some}
use Rattle.hba_fbs.specs.{declared.{registers.Registers.Registers, report.TakeReport.TakeReport}, Sending.outgoing, Taking.{PostsIn, admitted}}
use Rattle.hba_fbs.specs.{Taking.{ignores, port_of, row_for}, Views.Port}
use Rattle.hba_laws.specs.Hosts as event
use Rattle.hba_laws.proofs.Door.{client_lens, opens_sound}
use Rattle.hba_driver.specs.declared.{effect.Effect.Effect, mode.Mode.Mode, path.TaskFile.TaskFile, turn.Act.Act, plan.Device.TheVariants.Absent}
use Rattle.hba_driver.specs.{declared.{plan.Plan.Plan, request.Request.Request}, Drivers.{AreRequests, Driver, Entry, entry_at}, Effects.ActsAll}
use Rattle.hba_driver.specs.{Effects.{IsRuled, is_effect, opening_write, restart_write}, Events.{AreDriven, HostsAreSound, IsSoundHostIn, KnowsNone}}
use Rattle.hba_driver.specs.{Events.{opening_host_in, shared_by}, HostTurns.{AreHosts, Does, DoesAll, Host, HostTurn, IsHost, Took, Pushed, Ticked}}
use Rattle.hba_driver.specs.{HostTurns.{Submitted, Polled, Put, sight_in}, Sights.file_shown, Submits.{after_poll, lowest_ended, next_slot}}
use Rattle.hba_driver.specs.{Ticks.{after_tick, effects, effects_due, turn}, Between.Way}
use Rattle.hba_driver.proofs.events.DrivenLemmas.{SamePlace, driven_open, mode_ticked, none_ticked, past, started_effects, tick_is}
use Rattle.hba_driver.proofs.events.EventLemmas.{Left, beside_area, left_effects, same_sizes, sized, sized_effect}
use Rattle.hba_driver.proofs.{requests.HistoryLemmas.{free_below, requests_turn}, events.OpenLemmas.{Stays, opens_taken, restart_taken, stays_driven}}
use Rattle.hba_driver.proofs.{events.OpenLemmas.{stays_gives, stays_port, stays_took}, requests.StandLemmas.{both, runs}, calls.SubmitLemmas.is_taken}

-- ---- what a frame leaves of memory

posted_len : (fb : ℕ) (row : Option ℕ) (fis : Option Fis) (s t : List ℕ) → fb ≡ 4096 → length s ≡ 1048576 → PostsIn fb row fis s t → length t ≡ length s
posted_len fb None fis s t at long h = ap (λ (x : List ℕ). length x) h
posted_len fb (Some dev) None s t at long h = ap (λ (x : List ℕ). length x) h
posted_len fb (Some dev) (Some fis) s t at long h =
    let behind : length (drop (fb + 4096) t) ≡ length (drop (fb + 4096) s) = ap (λ (x : List ℕ). length x) h.behind in
    omega (arith, behind, length-drop (fb + 4096) t, length-drop (fb + 4096) s, at, long)

-- the received area of a port that runs is the driver's
pub started_area : {mode : Mode} (n m : ℕ) (r : Registers) → AreDriven mode n m r → r.started ≡ true → r.fb ≡ 4096
started_area n m r d starts = elim (cases_lt n 7) [
  | inl less ↦ absurd (false≢true (sym (d.stopped (omega (arith, less))) ∙ starts))
  | inr least ↦ d.area (omega (arith, least))
]

took_structure : {mode : Mode} (old new : Host) (frame : List ℕ) (report : TakeReport) → Does old (Took frame report) new → IsSoundHostIn mode old → length new.memory.structure ≡ length old.memory.structure
took_structure old new frame report h s = elim (cases_Bool (ignores (port_of frame) old.port frame)) [
  | inl skip ↦ ap (λ (m : Memory). length m.structure) (h.ignored skip).memory
  | inr heard ↦
      posted_len old.port.registers.fb (row_for old.port (port_of frame)) (admitted (port_of frame) (seen frame)) old.memory.structure new.memory.structure
      (started_area old.driver.plan.opened old.driver.plan.restarted old.port.registers s.registers (runs old.port frame heard)) s.memory.structure_len (h.heard heard).structure
]

took_client : (old new : Host) (frame : List ℕ) (report : TakeReport) → Does old (Took frame report) new → length new.memory.client ≡ length old.memory.client
took_client old new frame report h =
    client_lens (shared_by old) (shared_by new) (event.Took frame report ∷ []) (shared_by new, record { ignored = h.ignored; heard = h.heard }, refl)

put_client : (old new : Host) (at : ℕ) (bytes : List ℕ) → Does old (Put at bytes) new → length new.memory.client ≡ length old.memory.client
put_client old new at bytes h =
    client_lens (shared_by old) (shared_by new) (event.Put at bytes ∷ []) (shared_by new, (record { inside = h.inside; after = h.memory }, h.port), refl)

-- ---- a turn that is not a tick

same_ruled : {mode : Mode} (old new : Host) → new.port ≡ old.port → IsSoundHostIn mode old → IsRuled new.port
same_ruled old new is s = subst IsRuled (sym is) s.ruled

-- it leaves the plan
sound_by : {mode : Mode} (old : Host) (t : HostTurn) (new : Host) → Does old t new → IsSoundHostIn mode old → IsRuled new.port → IsHostMemory new.memory → Stays old.port.registers new.port.registers → new.driver.plan ≡ old.driver.plan → IsSoundHostIn mode new
sound_by {mode} old t new h s ruled memory kept plan = record {
  drives = ap (λ (p : Plan). p.mode) plan ∙ s.drives;
  ruled = ruled;
  memory = memory;
  requests = requests_turn old t new h s.requests;
  registers = subst (λ (p : Plan). AreDriven mode p.opened p.restarted new.port.registers) (sym plan)
      (stays_driven old.driver.plan.opened old.driver.plan.restarted old.port.registers new.port.registers kept s.registers);
  devices = subst KnowsNone (sym plan) s.devices;
}

plan_is : (d e : Driver) → e ≡ d → e.plan ≡ d.plan
plan_is d e is = ap (λ (x : Driver). x.plan) is

polled_plan : (d : Driver) → (after_poll d).plan ≡ d.plan
unfolding after_poll
polled_plan d = by_slot (lowest_ended d.entries)
  where
    by_slot : (o : Option ℕ) → (match_some o d (λ slot. record d { entries = Rattle.std.specs.Prelude.slice_set d.entries slot None })).plan ≡ d.plan
    by_slot None = refl
    by_slot (Some slot) = refl

-- ---- a tick

-- the lists of effects whose first is this
acts_of : (es fs : List Effect) (old new : Port) (before after : Memory) → es ≡ fs → ActsAll es old before new after → ActsAll fs old before new after
acts_of es fs old new before after is h = subst (λ (x : List Effect). ActsAll x old before new after) is h

opened_sound : (mode : Mode) (k m : ℕ) → k < 7 → (old new : Port) (before after : Memory) → list_all is_effect (opening_write mode k ∷ []) ≡ true → ActsAll (opening_write mode k ∷ []) old before new after → IsHostMemory before
    → AreDriven mode k m old.registers → IsHostMemory after × AreDriven mode (k + 1) m new.registers
unfolding ActsAll
opened_sound mode k m less old new before after is h sizes d = (
  same_sizes h.1 after h.4.1 (sized_effect (opening_write mode k) old h.0 before h.1 (both (is_effect (opening_write mode k)) true is).0 h.2 sizes),
  subst (λ (p : Port). AreDriven mode (k + 1) m p.registers) (sym h.4.0) (opens_taken mode k m less old h.0 before h.1 h.2 d).1,
)

restarted_driven : (mode : Mode) (k n : ℕ) → k < 2 → 7 ≤ n → (old new : Port) (before after : Memory) → ActsAll (restart_write k ∷ []) old before new after → AreDriven mode n k old.registers → AreDriven mode n (k + 1) new.registers
unfolding ActsAll
restarted_driven mode k n less least old new before after h d =
    subst (λ (p : Port). AreDriven mode n (k + 1) p.registers) (sym h.4.0) (restart_taken mode k n less least old h.0 before h.1 h.2 d).1

-- whatever an open port is told
driven_by : (mode : Mode) (a : Option Act) (n m k : ℕ) (old new : Port) (before after : Memory) → Way mode a m k → 7 ≤ n → SamePlace mode old.registers new.registers → ActsAll (effects_due mode a) old before new after
    → AreDriven mode n m old.registers → AreDriven mode n k new.registers
driven_by mode a n m k old new before after (inl steady) least same acts d =
    driven_open n m k old.registers new.registers least same (λ h. started_effects (effects_due mode a) old new before after steady.firm_is acts ∙ d.starts least (subst (λ (j : ℕ). 2 ≤ j) steady.same h)) d
driven_by mode a n m k old new before after (inr (inl none)) least same acts d =
    driven_open n m k old.registers new.registers least same (λ h. past 2 0 refl (subst (λ (j : ℕ). 2 ≤ j) none h)) d
driven_by mode a n m k old new before after (inr (inr again)) least same acts d =
    subst (λ (j : ℕ). AreDriven mode n j new.registers) (sym again.next)
    (restarted_driven mode m n again.less least old new before after (acts_of (effects_due mode a) (restart_write m ∷ []) old new before after again.one acts) d)

sound_tick : {mode : Mode} (old : Host) (a : Bool) (new : Host) → Does old (Ticked a) new → IsSoundHostIn mode old → IsSoundHostIn mode new
sound_tick {mode} old a new h s =
    let v = sight_in old in
    let file : TaskFile = file_shown new.port in
    let d : Driver = old.driver in
    let plan : new.driver.plan ≡ (after_tick v file d).plan = plan_is (after_tick v file d) new.driver h.driver in
    let known : KnowsNone new.driver.plan = subst KnowsNone (sym plan) (none_ticked v file d s.devices) in
    let drives : new.driver.plan.mode ≡ mode = ap (λ (p : Plan). p.mode) plan ∙ mode_ticked v file d ∙ s.drives in
    let registers : AreDriven d.plan.mode d.plan.opened d.plan.restarted old.port.registers =
    subst (λ (m : Mode). AreDriven m d.plan.opened d.plan.restarted old.port.registers) (sym s.drives) s.registers in
    elim (tick_is v file d) [
      | inl first ↦
          let k : ℕ = d.plan.opened in
          let both_are = opened_sound d.plan.mode k d.plan.restarted first.less old.port new.port old.memory new.memory (subst (λ (es : List Effect). list_all is_effect es ≡ true) first.one h.possible)
          (acts_of (effects v d) (opening_write d.plan.mode k ∷ []) old.port new.port old.memory new.memory first.one h.does) s.memory registers in
          record {
            drives = drives;
            ruled = h.ruled;
            memory = both_are.0;
            requests = requests_turn old (Ticked a) new h s.requests;
            registers = subst (λ (m : Mode). AreDriven m new.driver.plan.opened new.driver.plan.restarted new.port.registers) s.drives
                (subst (λ (p : Plan). AreDriven d.plan.mode p.opened p.restarted new.port.registers) (sym (plan ∙ first.plan_is)) both_are.1);
            devices = known;
          }
      | inr going ↦
          let left : Left d.plan.mode old.port new.port new.memory = left_effects d.plan.mode (effects v d) old.port new.port old.memory new.memory h.possible going.quiet s.memory h.does in
          let opened : new.driver.plan.opened ≡ d.plan.opened = ap (λ (p : Plan). p.opened) plan ∙ going.opened_is in
          let restarted : new.driver.plan.restarted ≡ (after_tick v file d).plan.restarted = ap (λ (p : Plan). p.restarted) plan in
          let driven : AreDriven d.plan.mode d.plan.opened (after_tick v file d).plan.restarted new.port.registers =
          driven_by d.plan.mode (turn v d).act d.plan.opened d.plan.restarted (after_tick v file d).plan.restarted old.port new.port old.memory new.memory going.way going.least left.place h.does registers in
          record {
            drives = drives;
            ruled = h.ruled;
            memory = left.sizes;
            requests = requests_turn old (Ticked a) new h s.requests;
            registers =
                subst (λ (m : Mode). AreDriven m new.driver.plan.opened new.driver.plan.restarted new.port.registers) s.drives
                (subst (λ (n : ℕ). AreDriven d.plan.mode n new.driver.plan.restarted new.port.registers) (sym opened)
                (subst (λ (m : ℕ). AreDriven d.plan.mode d.plan.opened m new.port.registers) (sym restarted) driven));
            devices = known;
          }
    ]

-- ---- each turn

submit_sizes : {mode : Mode} (old new : Host) (dev : ℕ) (request : Request) (ticket : ℕ) → Does old (Submitted dev request ticket) new → IsSoundHostIn mode old → IsHostMemory new.memory
submit_sizes old new dev request ticket h s =
    let below : next_slot old.driver < 30 = free_below old.driver old.memory dev request h.accepted in
    let same = beside_area (next_slot old.driver) _ request.prds.items old.memory.structure new.memory.structure s.memory.structure_len (omega (arith, below)) (is_taken old.driver old.memory dev request h.accepted).few h.taken.command in
    sized old.memory new.memory s.memory (same.long ∙ sym s.memory.structure_len) (ap (λ (c : List ℕ). length c) h.taken.client)

pub sound_turn : {mode : Mode} (old : Host) (t : HostTurn) (new : Host) → Does old t new → IsSoundHostIn mode old → IsSoundHostIn mode new
sound_turn old (Took frame report) new h s =
    sound_by old (Took frame report) new h s h.ruled (sized old.memory new.memory s.memory (took_structure old new frame report h s) (took_client old new frame report h)) (stays_took old new frame report h) (plan_is old.driver new.driver h.driver)
sound_turn old (Pushed frame) new h s =
    sound_by old (Pushed frame) new h s h.ruled (same_sizes old.memory new.memory h.memory s.memory) (stays_gives (outgoing old.port old.memory) old.port old.memory frame new.port h.gives) (plan_is old.driver new.driver h.driver)
sound_turn old (Ticked a) new h s = sound_tick old a new h s
sound_turn old (Submitted dev request ticket) new h s =
    sound_by old (Submitted dev request ticket) new h s (same_ruled old new h.port s) (submit_sizes old new dev request ticket h s) (stays_port old.port new.port h.port) (ap (λ (x : Driver). x.plan) h.taken.driver)
sound_turn old (Polled c) new h s =
    sound_by old (Polled c) new h s (same_ruled old new h.port s) (same_sizes old.memory new.memory h.memory s.memory) (stays_port old.port new.port h.port) (plan_is (after_poll old.driver) new.driver h.driver ∙ polled_plan old.driver)
sound_turn old (Put at bytes) new h s =
    sound_by old (Put at bytes) new h s (same_ruled old new h.port s) (sized old.memory new.memory s.memory (ap (λ (m : Memory). length m.structure) h.memory) (put_client old new at bytes h)) (stays_port old.port new.port h.port) (plan_is old.driver new.driver h.driver)

pub sound_over : {mode : Mode} (old : Host) (turns : List HostTurn) (new : Host) → DoesAll old turns new → IsSoundHostIn mode old → IsSoundHostIn mode new
sound_over {mode} old [] new run s = subst (IsSoundHostIn mode) (sym run) s
sound_over {mode} old (t ∷ turns) new run s = sound_over run.0 turns new run.2 (sound_turn old t run.0 run.1 s)

pub sound_host : {mode : Mode} (h : Host) → IsSoundHostIn mode h → IsHost h
sound_host h s = record { memory = s.memory; area = started_area h.driver.plan.opened h.driver.plan.restarted h.port.registers s.registers }

sound_hosts : {mode : Mode} (old : Host) (turns : List HostTurn) (new : Host) (run : DoesAll old turns new) → IsSoundHostIn mode old → AreHosts old new turns run
sound_hosts old [] new run s = sound_host old s
sound_hosts old (t ∷ turns) new run s = (sound_host old s, sound_hosts run.0 turns new run.2 (sound_turn old t run.0 run.1 s))

-- ---- a host when it opens

abbrev no_entry : Option Entry
no_entry = None

entry_none : (s : ℕ) → entry_at (replicate 30 no_entry) s ≡ None
entry_none s = elim (cases_lt s 30) [
  | inl less ↦ get_or-replicate 30 s no_entry None less
  | inr least ↦ get_or_past (replicate 30 no_entry) s None (rw (length-replicate 30 no_entry) least)
]

no_request : (s : ℕ) (e : Entry) {P : Type 0} → entry_at (replicate 30 no_entry) s ≡ Some e → P
no_request s e h = let bad : no_entry ≡ Some e = sym (entry_none s) ∙ h in cc

no_requests : (given : ℕ) → AreRequests given (replicate 30 no_entry)
no_requests given = record {
  slots = length-replicate 30 no_entry;
  given = λ s e h. no_request s e h;
  own = λ s t e f h k is. no_request s e h;
  apart = λ s t e f h k other reads. no_request s e h;
}

absent : (dev : ℕ) → Rattle.std.specs.Prelude.slice_index_or (replicate 15 Absent) dev Absent ≡ Absent
absent dev = elim (cases_lt dev 15) [
  | inl less ↦ get_or-replicate 15 dev Absent Absent less
  | inr least ↦ get_or_past (replicate 15 Absent) dev Absent (rw (length-replicate 15 Absent) least)
]

-- a memory of zeros is a memory
pub zeroed_right : (len : ℕ) → is_memory_size len ≡ true → IsHostMemory (zeroed len)
zeroed_right len right = (opens_sound len right).memory

least_size : is_memory_size 0x200000 ≡ true
least_size = refl

opens : (mode : Mode) (given : ℕ) (start : Memory) → IsHostMemory start → IsSoundHostIn mode (opening_host_in mode given start)
opens mode given start right = record {
  drives = refl;
  ruled = record { rules = (opens_sound 0x200000 least_size).port; table = (opens_sound 0x200000 least_size).slots; faults = (opens_sound 0x200000 least_size).errors };
  memory = right;
  requests = no_requests given;
  registers = record {
    commands = refl;
    list_high = past 2 0 refl;
    area = past 3 0 refl;
    area_high = past 4 0 refl;
    switches = past 5 0 refl;
    closed = λ k. refl;
    receives = past 6 0 refl;
    stopped = λ k. refl;
    starts = past 7 0 refl;
  };
  devices = λ less dev. absent dev;
}

pub hosts_stay_sound : HostsAreSound
hosts_stay_sound = record { opens = opens; stays = sound_turn; last = sound_over; each = sound_hosts }
