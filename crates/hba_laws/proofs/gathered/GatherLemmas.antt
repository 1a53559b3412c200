-- For `writes_are_gathered`. Data that goes out for a write is what client memory has at the write's places.
use Rattle.std.proofs.Common.{◌≡◌, ℕ, zero, suc, ◌+◌, ◌-◌, ◌*◌, ◌<◌, Bool, true, false, cond, eqb, List, [], ◌∷◌, ◌++◌, drop, length, refl, sym, ap}
use Rattle.std.proofs.{Common.{subst, ◌∙◌, Option, Some, None, arith, min}, lemmas.Bool.{eqb-true, false≢true, and_parts}}
use Rattle.std.proofs.lemmas.{List.FromFn.{get_or-map-range_with_len, length-map-range_with_len}, Option.{slice_get-get_or}}
use Rattle.std.specs.{Prelude.{is_none, not, ◌||◌, nat_lt, slice_get, slice_index, if◌then◌else◌, map}, Option.option_map}
use Rattle.fis_view.specs.Seen.{seen}
use Rattle.host_memory.specs.{Memory.{Memory, client_start}, Place.{LiesInClient, place, total_of}, Reading.{first_fault, have_overlap, read_fault}}
use Rattle.host_memory.specs.declared.table.Prd.{Prd}
use Rattle.host_memory.proofs.Door.{inside_from_faults, place_inside}
use Rattle.hba_commands.specs.declared.command.Command.{Command}
use Rattle.slots.specs.{Data.{payload, payload_len}, Work.{is_dma, is_read}, Slots.{DeviceSlots, Issue, context_of, holds, issue_at, match_some}}
use Rattle.slots.specs.{Slots.own_issue, declared.table.Context.Context}
use Rattle.slots.specs.declared.answer.Answered.TheVariants as answer
use Rattle.hba_fbs.specs.declared.{hearing.Happening.Happening, register.Register.{Register, TheVariants.{Cmd, Ci, Fbs}}, report.Wrote.Wrote}
use Rattle.hba_fbs.specs.{declared.status.Block.Block, Issuing.{aimed, asked}, Registers.falls, Sending.{Outgoing, data_due, data_with, gathered}}
use Rattle.hba_fbs.specs.{Sending.{next_receiver, next_to_send, order_due, outgoing}, Tables.{is_readable, is_sound, prds_of, sound_command}}
use Rattle.hba_fbs.specs.{Taking.{admitted, heard_now, ignores, is_running, port_of}, Views.{DeviceView, Port, last_command, view_of}}
use Rattle.hba_fbs.specs.Writing.{cleared_by}
use Rattle.hba_fbs.specs.declared.hearing.Happening.TheVariants as happening
use Rattle.hba_fbs.specs.Sending as out
use Rattle.hba_laws.specs.{Agreement.{AreHistoriesOf, IsHistoryOf, end_of}, Client.{By, FillsWithin, Puts, Stops, Touches, client, filling, own}}
use Rattle.hba_laws.specs.Delivering.{begun_by, HasTables, HaveTables, IsClient, by_device, event_heard, event_of, event_taken, is_control_issue}
use Rattle.hba_laws.specs.{Delivering.{issued_below, issued_in, touched, touched_by_clear, touched_by_out, touched_by_write}, History.{Carried, Sent}}
use Rattle.hba_laws.specs.{History.{SentControl, SetUp, Setup, is_set_up, issued, last_setup}, Hosts.{Gave, Host, HostEvent, Took}}
use Rattle.hba_laws.specs.{Hosts.Wrote as WroteRegister, Sent.{AreGathered, DataIsGathered, HoldsWrites, IsGathered}, Sound.IsHost, Between.AreQuiet}
use Rattle.hba_laws.specs.Between.{HasContext, IsOwn}
use Rattle.hba_laws.proofs.{histories.CarryLemmas.next_is, placed.ClientLemmas.{below_16, context_below, event_is, histories_step, no_fault}}
use Rattle.hba_laws.proofs.{histories.{CoreEventLemmas.says_of, StandLemmas.{fills_as, filling_of}}, placed.SpareLemmas.{event_reads, event_tables}}
use Rattle.hba_laws.proofs.histories.{StandLemmas.{if_there, set_up_setup, some_inj}, StepLemmas.Says, ViewLemmas.is_own}
use Rattle.hba_laws.proofs.placed.WithinLemmas.{Carries, CarriesFor, HasSetup, has_setup, heard_carries, within_is}

-- ---- what goes out

-- the command and the number of the first byte are those of the device's context
unfoldable pub IsDue : Port → Memory → Outgoing → Type 0
IsDue port memory (out.Data dev offset len command) =
    (c : Context) × (context_of port.slots dev ≡ Some c) × (offset ≡ c.next) × (len ≡ payload_len c)
    × (sound_command memory port.commands (view_of dev port).slots c.slot ≡ Some command)
IsDue port memory o = Unit {0}

order_is_due : (port : Port) (memory : Memory) (slot dev : ℕ) (o : Option Command) → IsDue port memory (match_some o out.Nothing (out.Order dev slot))
unfolding IsDue
order_is_due port memory slot dev None = tt
order_is_due port memory slot dev (Some command) = tt

next_is_due : (port : Port) (memory : Memory) (o : Option ℕ) → IsDue port memory (match_some o out.Nothing (order_due port))
unfolding IsDue
next_is_due port memory None = tt
next_is_due port memory (Some slot) = by_issue (issue_at port.slots slot)
  where
    by_issue : (o : Option Issue) → IsDue port memory (match_some o out.Nothing (λ issue. match_some (last_command port.commands slot) out.Nothing (out.Order issue.dev slot)))
    by_issue None = tt
    by_issue (Some i) = order_is_due port memory slot i.dev (last_command port.commands slot)

data_is_due : (port : Port) (memory : Memory) (dev : ℕ) → IsDue port memory (data_due port memory dev)
unfolding IsDue
data_is_due port memory dev = by_context (context_of port.slots dev) refl
  where
    by_command : (c : Context) → context_of port.slots dev ≡ Some c → (o : Option Command) → sound_command memory port.commands (view_of dev port).slots c.slot ≡ o
        → IsDue port memory (data_with dev c.next (payload_len c) o)
    by_command c now None is = tt
    by_command c now (Some command) is = (c, now, refl, refl, is)

    by_active : (c : Context) → context_of port.slots dev ≡ Some c → (b : Bool)
        → IsDue port memory (match_some {A = ℕ × ℕ × ℕ} (cond b (Some (c.slot, c.next, payload_len c)) None) out.Nothing (λ next. data_with dev next.1 next.2 (sound_command memory port.commands (view_of dev port).slots next.0)))
    by_active c now false = tt
    by_active c now true = by_command c now (sound_command memory port.commands (view_of dev port).slots c.slot) refl

    by_context : (o : Option Context) → context_of port.slots dev ≡ o
        → IsDue port memory (match_some (payload o) out.Nothing (λ next. data_with dev next.1 next.2 (sound_command memory port.commands (view_of dev port).slots next.0)))
    by_context None now = tt
    by_context (Some c) now = by_active c now c.activated

is_due_out : (port : Port) (memory : Memory) → IsDue port memory (outgoing port memory)
unfolding IsDue
is_due_out port memory = by_running (is_running port)
  where
    by_receiver : (o : Option ℕ) → IsDue port memory (match_some o (match_some (next_to_send port) out.Nothing (order_due port)) (data_due port memory))
    by_receiver None = next_is_due port memory (next_to_send port)
    by_receiver (Some dev) = data_is_due port memory dev

    by_running : (b : Bool) → IsDue port memory (cond (not b) out.Nothing (match_some (next_receiver port) (match_some (next_to_send port) out.Nothing (order_due port)) (data_due port memory)))
    by_running false = tt
    by_running true = by_receiver (next_receiver port)

-- a command that is sound is the last one of its slot, and its PRDs can be read
record IsSoundCommand (memory : Memory) (commands : List (Option Command)) (own : DeviceSlots) (slot : ℕ) (issue : Issue) (command : Command) : Type 0 where
  last : last_command commands slot ≡ Some command
  readable : is_readable memory issue.work.len command ≡ true

sound_is : (memory : Memory) (commands : List (Option Command)) (own : DeviceSlots) (slot : ℕ) (issue : Issue) (command : Command) → own_issue own slot ≡ Some issue
    → sound_command memory commands own slot ≡ Some command → IsSoundCommand memory commands own slot issue command
sound_is memory commands own slot issue command at sound =
    by_last (last_command commands slot) refl
    (sym (ap (λ o. match_some o None (λ i. match_some (last_command commands slot) None (λ c. cond (is_readable memory i.work.len c) (Some c) None))) at) ∙ sound)
  where
    by_test : (c : Command) → last_command commands slot ≡ Some c → (b : Bool) → is_readable memory issue.work.len c ≡ b → cond b (Some c) None ≡ Some command
        → IsSoundCommand memory commands own slot issue command
    by_test c last false r e = let none : None ≡ Some command = e in cc
    by_test c last true r e =
        let same : c ≡ command = some_inj c command e in
        record { last = last ∙ e; readable = subst (λ d. is_readable memory issue.work.len d ≡ true) same r }

    by_last : (o : Option Command) → last_command commands slot ≡ o → match_some o None (λ c. cond (is_readable memory issue.work.len c) (Some c) None) ≡ Some command
        → IsSoundCommand memory commands own slot issue command
    by_last None last e = let none : None ≡ Some command = e in cc
    by_last (Some c) last e = by_test c last (is_readable memory issue.work.len c) refl e

-- a byte that is gathered
gathered_at : (prds : List Prd) (offset len : ℕ) (bytes : List ℕ) (j : ℕ) → j < len
    → slice_get (gathered prds offset len bytes) j ≡ Some (slice_index bytes (place prds (offset + j) - client_start))
gathered_at prds offset len bytes j less =
    let long = length-map-range_with_len (λ k. slice_index bytes (place prds (offset + k) - client_start)) 0 len in
    slice_get-get_or (gathered prds offset len bytes) j 0 (omega (arith, long, less))
    ∙ ap Some (get_or-map-range_with_len (λ k. slice_index bytes (place prds (offset + k) - client_start)) 0 len j j 0 less (omega arith))

-- ---- Data of one device

module _ (old : Host) (host : IsHost old) (past : Touches) (n : ℕ) (told : IsHistoryOf n old (own n past)) where
  abbrev v : DeviceView
  v = view_of n old.port

  abbrev ends : Option ℕ
  ends = option_map end_of v.state.block

  says : Says v.slots ends (own n past)
  says = says_of v (own n past) told

  owns : IsOwn n v.slots
  owns = is_own n old.port.slots host.slots

  -- what is set up last, for the slot of the context
  record IsLast (c : Context) (s : ℕ) : Type 0 where
    setup : Setup
    last : last_setup (own n past) ≡ Some setup
    slot_is : setup.slot ≡ s
    way_is : setup.to_host ≡ c.to_host
    same_slot : c.slot ≡ s

  last_is : (c : Context) (s : ℕ) → v.slots.context ≡ Some c → is_set_up s (own n past) ≡ true → IsLast c s
  last_is c s now up =
      let setup : HasSetup c ends (own n past) = has_setup c ends (own n past) ((says.agrees.context_agrees c now).of_setup) in
      let g = set_up_setup s (own n past) up in
      let same : g.0 ≡ setup.setup = some_inj g.0 setup.setup (sym g.1 ∙ setup.last) in
      record {
        setup = g.0;
        last = g.1;
        slot_is = g.2;
        way_is = ap (λ (x : Setup). x.to_host) same ∙ setup.agrees.way_is;
        same_slot = sym setup.agrees.slot_is ∙ sym (ap (λ (x : Setup). x.slot) same) ∙ g.2;
      }

  -- what the device sends is for no write
  heard_gathered : (opening : ℕ → ℕ) (bytes : List ℕ) (wrote : Wrote) (sound : Bool) → CarriesFor v.slots sound (length bytes) wrote → IsGathered opening past n bytes
  heard_gathered opening bytes wrote sound x s t writing up =
      let c : Context = x.context in
      let g : IsLast c s = last_is c s x.now up in
      let is : issued g.setup.slot (own n past) ≡ Some t = ap (λ k. issued k (own n past)) g.slot_is ∙ writing.is in
      let fills = fills_as (own n past) g.setup t g.last (g.way_is ∙ x.host) (ap (λ k. is_set_up k (own n past)) g.slot_is ∙ up) is in
      let within = within_is n v.slots ends (own n past) c (length bytes) owns says x.now x.fits in
      let q = if_there (filling (own n past)) (FillsWithin (length bytes)) (filling_of g.setup.slot (own n past) t) fills within.fills in
      absurd (false≢true (sym writing.writes ∙ q.reads))

  -- what goes to it is gathered
  sent_gathered : (opening : ℕ → ℕ) → HasTables n old (own n past) → IsClient opening past old → (offset len : ℕ) (command : Command)
      → IsDue old.port old.memory (out.Data n offset len command) → IsGathered opening past n (gathered (prds_of old.memory command) offset len old.memory.client)
  unfolding IsDue
  sent_gathered opening tables is offset len command due s t writing up j less =
      let c : Context = due.0 in
      let g : IsLast c s = last_is c s due.1 up in
      let has : HasContext n v.slots c = owns.contexts c due.1 in
      let i : Issue = has.issue in
      let sound : IsSoundCommand old.memory old.port.commands v.slots c.slot i command = sound_is old.memory old.port.commands v.slots c.slot i command has.at due.4 in
      let prds : List Prd = prds_of old.memory command in
      let parts = and_parts (is_none (read_fault old.memory.structure (length old.memory.client) (command.table + 128) command.count)) (eqb (total_of prds) i.work.len) sound.readable in
      let good = no_fault (nat_lt (length old.memory.structure) (command.table + 128 + 16 * command.count) || nat_lt 248 command.count)
      (first_fault old.memory.structure (length old.memory.client) (command.table + 128) command.count) (have_overlap prds) parts.0 in
      let total : total_of prds ≡ i.work.len = eqb-true (total_of prds) i.work.len parts.1 in
      let same : prds ≡ t.table = tables s t command writing.is (ap (last_command old.port.commands) (sym g.same_slot) ∙ sound.last) in
      let from : offset ≡ c.next = due.2 in
      let long : length (gathered prds offset len old.memory.client) ≡ len = length-map-range_with_len (λ k. slice_index old.memory.client (place prds (offset + k) - client_start)) 0 len in
      let few : len ≡ min c.left 8192 = due.3 in
      let room = has.is.fits in
      let below : j < len = omega (arith, long, less) in
      let lies : LiesInClient (length old.memory.client) (place prds (offset + j)) 1 =
      place_inside (length old.memory.client) prds (offset + j)
      (inside_from_faults old.memory.structure (length old.memory.client) (command.table + 128) command.count good.0) (omega (arith, total, from, room, few, below)) in
      let low = lies.0 in
      let high = lies.1 in
      let behind : client_start + (place prds (offset + j) - client_start) ≡ place prds (offset + j) = omega (arith, low) in
      gathered_at prds offset len old.memory.client j below
      ∙ ap Some (is (place prds (offset + j) - client_start) (omega (arith, low, high)) ∙ ap (client opening past) behind
      ∙ ap (λ (l : List Prd). client opening past (place l (offset + j))) same
      ∙ ap (λ k. client opening past (place t.table (k + j))) (from ∙ sym (next_is (own_issue v.slots) c ends (own n past) (says.agrees.context_agrees c due.1))))

-- ---- touches that are neither Data nor bytes that are put

pub quiet_gathered : (opening : ℕ → ℕ) (touches past : Touches) → AreQuiet touches → AreGathered opening past → AreGathered opening (touches ++ past)
unfolding AreQuiet
quiet_gathered opening [] past quiet g = g
quiet_gathered opening (By dev (Carried bytes) ∷ rest) past quiet g = absurd quiet
quiet_gathered opening (By dev e ∷ rest) past quiet g = quiet_gathered opening rest past quiet g
quiet_gathered opening (Stops ∷ rest) past quiet g = quiet_gathered opening rest past quiet g
quiet_gathered opening (Puts at bytes ∷ rest) past quiet g = absurd quiet

pub quiet_holds : (touches past : Touches) → AreQuiet touches → HoldsWrites past → HoldsWrites (touches ++ past)
unfolding AreQuiet
quiet_holds [] past quiet h = h
quiet_holds (By dev (Carried bytes) ∷ rest) past quiet h = absurd quiet
quiet_holds (By dev e ∷ rest) past quiet h = quiet_holds rest past quiet h
quiet_holds (Stops ∷ rest) past quiet h = quiet_holds rest past quiet h
quiet_holds (Puts at bytes ∷ rest) past quiet h = absurd quiet

in_quiet : (dev slot : ℕ) (memory : Memory) (o : Option Command) (rest : Touches) → AreQuiet rest → AreQuiet (issued_in dev memory slot o ++ rest)
unfolding AreQuiet
in_quiet dev slot memory None rest quiet = quiet
in_quiet dev slot memory (Some command) rest quiet = quiet

issues_quiet : (dev : ℕ) (memory : Memory) (m : ℕ) (commands : ℕ → Option Command) → AreQuiet (issued_below dev memory commands m)
unfolding AreQuiet issued_below
issues_quiet dev memory zero commands = tt
issues_quiet dev memory (suc m) commands = in_quiet dev m memory (commands m) (issued_below dev memory commands m) (issues_quiet dev memory m commands)

pub write_quiet : (old : Host) (register : Register) (value : ℕ) → AreQuiet (touched_by_write register old value)
unfolding AreQuiet
write_quiet old Cmd value = by_fall (falls old.port.registers value)
  where
    by_fall : (b : Bool) → AreQuiet (cond b (Stops ∷ []) [])
    by_fall true = tt
    by_fall false = tt
write_quiet old Ci value = issues_quiet (aimed old.port.registers old.memory.structure value) old.memory 32 (asked old.port.registers old.memory value)
write_quiet old Fbs value = by_clear (cleared_by old.port.errors value)
  where
    by_clear : (o : Option ℕ) → AreQuiet (touched_by_clear o)
    by_clear None = tt
    by_clear (Some dev) = tt
write_quiet old _ value = tt

pub order_quiet : (old : Host) (dev slot : ℕ) (command : Command) → AreQuiet (touched_by_out old (out.Order dev slot command))
unfolding AreQuiet
order_quiet old dev slot command = by_issue (issue_at old.port.slots slot)
  where
    by_kind : (i : Issue) (d b : Bool) → AreQuiet (map (By dev) (if d then SetUp slot 0 i.work.len (is_read i.work.kind) ∷ [] else []) ++ By dev (cond b (SentControl slot) (Sent slot)) ∷ [])
    by_kind i true true = tt
    by_kind i true false = tt
    by_kind i false true = tt
    by_kind i false false = tt

    by_issue : (o : Option Issue) → AreQuiet (map (By dev) (begun_by slot o) ++ By dev (cond (holds is_control_issue o) (SentControl slot) (Sent slot)) ∷ [])
    by_issue None = tt
    by_issue (Some i) = by_kind i (is_dma i.work.kind) (is_control_issue i)

-- ---- one event

module _ (old : Host) (host : IsHost old) (past : Touches) (hist : AreHistoriesOf old past) (tables : HaveTables old past) (opening : ℕ → ℕ)
    (is : IsClient opening past old) (before : AreGathered opening past) where
  happening_gathered : (n : ℕ) → n < 16 → (x : Happening) (block : Option Block) (bytes : List ℕ)
      → Carries (view_of n old.port).slots (is_sound old.memory old.port.commands (view_of n old.port).slots) (length bytes) x
      → AreGathered opening (by_device n (event_of x block bytes) ++ past)
  happening_gathered n lt (happening.Answered answer.Nobody) block bytes x = before
  happening_gathered n lt (happening.PioSetUp count to_host) None bytes x = before
  happening_gathered n lt (happening.PioSetUp count to_host) (Some b) bytes x = before
  happening_gathered n lt (happening.Carried wrote finishes) block bytes x =
      (heard_gathered old host past n (hist n lt) opening bytes wrote (is_sound old.memory old.port.commands (view_of n old.port).slots) x, before)
  happening_gathered n lt other block bytes x = before

  took_gathered : (frame : List ℕ) → AreGathered opening (by_device (port_of frame) (event_taken old frame) ++ past)
  took_gathered frame = by_ignored (ignores (port_of frame) old.port frame)
    where
      by_ignored : (b : Bool)
          → AreGathered opening (by_device (port_of frame) (cond b None (event_heard (heard_now old.port old.memory (port_of frame) (admitted (port_of frame) (seen frame))) (drop 4 frame))) ++ past)
      by_ignored true = before
      by_ignored false =
          let n : ℕ = port_of frame in
          let h = heard_now old.port old.memory n (admitted n (seen frame)) in
          happening_gathered n (below_16 (slice_index frame 1)) h.happening h.state.block (drop 4 frame)
          (heard_carries n (view_of n old.port) (is_sound old.memory old.port.commands (view_of n old.port).slots) frame)

  out_gathered : (o : Outgoing) → IsDue old.port old.memory o → AreGathered opening (touched_by_out old o ++ past)
  unfolding IsDue
  out_gathered (out.Data dev offset len command) due =
      let lt = context_below old host past hist dev due.0 due.1 in (sent_gathered old host past dev (hist dev lt) opening (tables dev lt) is offset len command due, before)
  out_gathered (out.Order dev slot command) due =
      quiet_gathered opening (touched_by_out old (out.Order dev slot command)) past (order_quiet old dev slot command) before
  out_gathered other due = before

  pub event_gathered : (event : HostEvent) → AreGathered opening (touched old event ++ past)
  event_gathered (Took frame report) = took_gathered frame
  event_gathered (WroteRegister register value) = quiet_gathered opening (touched_by_write register old value) past (write_quiet old register value) before
  event_gathered (Gave frame) = out_gathered (outgoing old.port old.memory) (is_due_out old.port old.memory)
  event_gathered other = before

pub data_is_gathered : DataIsGathered
data_is_gathered old new [] run sound opening past hist tables spared is before = before
data_is_gathered old new (event ∷ events) run sound opening past hist tables spared is before =
    data_is_gathered run.0 new events run.2 (record { hosts = sound.hosts.1; frames = sound.frames.1 }) opening (touched old event ++ past)
    (histories_step old sound.hosts.0 past hist event run.0 sound.frames.0 run.1)
    (event_tables old sound.hosts.0 past hist tables run.0 spared.0 event run.1) spared.1
    (event_is old sound.hosts.0 past hist event run.0 run.1 (event_reads old past tables event) opening is)
    (event_gathered old sound.hosts.0 past hist tables opening is before event)
