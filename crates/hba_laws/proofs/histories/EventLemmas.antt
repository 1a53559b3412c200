-- For `delivers`. A device's view says its history after each event of a host, and so after a list of them.
use Rattle.std.proofs.Common.{◌≡◌, ℕ, zero, suc, ◌<◌, Bool, true, false, cond, List, [], ◌∷◌, ◌++◌, drop, refl, sym, ap, subst, ◌∙◌, Option, Some}
use Rattle.std.proofs.{Common.None, lemmas.Bool.{eq-eqb, eqb-true, eqb-false}}
use Rattle.std.specs.Prelude.{◌==◌, not, if◌then◌else◌, map}
use Rattle.fis_view.specs.{Frames.Stamped, Seen.seen}
use Rattle.host_memory.specs.Memory.{Memory}
use Rattle.hba_commands.specs.declared.command.Command.{Command}
use Rattle.slots.specs.{Data.{payload, payload_len}, Slots.{Issue, context_of, issue_at, match_some}, declared.table.Context.Context}
use Rattle.hba_fbs.specs.declared.{hearing.Heard.Heard, register.Register.{Register, TheVariants.{Cmd, Ci, Fbs}}, turn.Turn.{Turn, TheVariants.Feeds}}
use Rattle.hba_fbs.specs.{declared.turn.Turn.TheVariants.{Orders, Rests}, Deciding.room_if, Issuing.{aimed, asked}, Offering.offer_of}
use Rattle.hba_fbs.specs.{Registers.falls, Sending.{Gives, Outgoing, Unreadable, data_due, data_with, next_receiver, next_to_send, order_due}}
use Rattle.hba_fbs.specs.{Sending.outgoing, Tables.{is_sound, prds_of, sound_command}, Taking.{admitted, ignores, is_running, port_of}}
use Rattle.hba_fbs.specs.{Turning.{outgoing_at, turn_of}, Views.{DeviceView, Port, last_command, view_of}, Writing.{cleared_by, is_device}}
use Rattle.hba_fbs.specs.Sending as out
use Rattle.hba_fbs.proofs.Door.{decided_if, outgoing_is}
use Rattle.hba_laws.specs.{Agreement.{IsHistoryOf, IsTold}, Alike.{bytes_out, tables_in, told_issue, told_issued}, Client.{By, Stops, own}}
use Rattle.hba_laws.specs.{CoreHistories.{IsFramedBy, event_by, happened, turned_for}, Cores.{CoreEvent, DoesBy, StepsBy, core_event, gave_event}}
use Rattle.hba_laws.specs.Delivering.{HistoriesAreParts, IsFramed, ViewsAreTold, begun_by, by_device, event_heard, event_sent, event_taken}
use Rattle.hba_laws.specs.{Delivering.{history_after, issued_below, touched, touched_by_clear, touched_by_out, touched_by_write}, History.Carried}
use Rattle.hba_laws.specs.{History.{Emptied, Event, History}, Hosts.{Does, Flushed, Gave, Host, HostEvent, Took, Wrote}, Isolation.Issued}
use Rattle.hba_laws.specs.{Sound.IsHost, Between.{GoesOut, history_below, with_issued}}
use Rattle.hba_laws.specs.Cores as core
use Rattle.hba_laws.proofs.{cores.CoreHostLemmas.{hosts_are_cores, is_core}, histories.CoreEventLemmas.{IsNext, next_found, step_by}}
use Rattle.hba_laws.proofs.histories.IssueLemmas.{other_below, own_app, own_below_is}

pub own_one : (n dev : ℕ) (x : Event) (past : History) → dev ≡ n → own n (By dev x ∷ []) ++ past ≡ x ∷ past
own_one n dev x past e = ap (λ b. cond b (x ∷ []) [] ++ past) (eq-eqb dev n e)

-- ---- what goes out

order_goes : (port : Port) (slot : ℕ) (n : IsNext port slot) → (o : Option Command) → GoesOut port (match_some o out.Nothing (out.Order n.issue.dev slot))
unfolding GoesOut
order_goes port slot n None = tt
order_goes port slot n (Some command) = (n.issue, n.at, refl, n.below, n.unsent, n.waits)

next_goes : (port : Port) (o : Option ℕ) → next_to_send port ≡ o → GoesOut port (match_some o out.Nothing (order_due port))
unfolding GoesOut
next_goes port None e = tt
next_goes port (Some slot) e =
    let n : IsNext port slot = next_found port slot e in
    subst (λ (o : Option Issue). GoesOut port (match_some o out.Nothing (λ issue. match_some (last_command port.commands slot) out.Nothing (out.Order issue.dev slot)))) (sym n.at)
    (order_goes port slot n (last_command port.commands slot))

data_goes : (port : Port) (memory : Memory) (dev : ℕ) → GoesOut port (data_due port memory dev)
unfolding GoesOut
data_goes port memory dev = by_context (context_of port.slots dev) refl
  where
    by_command : (c : Context) → context_of port.slots dev ≡ Some c → c.activated ≡ true → (o : Option Command) → GoesOut port (data_with dev c.next (payload_len c) o)
    by_command c now active None = tt
    by_command c now active (Some command) = (c, now, active, refl)

    by_active : (c : Context) → context_of port.slots dev ≡ Some c → (b : Bool) → c.activated ≡ b
        → GoesOut port (match_some {A = ℕ × ℕ × ℕ} (cond b (Some (c.slot, c.next, payload_len c)) None) out.Nothing (λ next. data_with dev next.1 next.2 (sound_command memory port.commands (view_of dev port).slots next.0)))
    by_active c now false active = tt
    by_active c now true active = by_command c now active (sound_command memory port.commands (view_of dev port).slots c.slot)

    by_context : (o : Option Context) → context_of port.slots dev ≡ o
        → GoesOut port (match_some (payload o) out.Nothing (λ next. data_with dev next.1 next.2 (sound_command memory port.commands (view_of dev port).slots next.0)))
    by_context None now = tt
    by_context (Some c) now = by_active c now c.activated refl

pub goes_out : (port : Port) (memory : Memory) → GoesOut port (outgoing port memory)
unfolding GoesOut
goes_out port memory = by_running (is_running port)
  where
    by_receiver : (o : Option ℕ) → GoesOut port (match_some o (match_some (next_to_send port) out.Nothing (order_due port)) (data_due port memory))
    by_receiver None = next_goes port (next_to_send port) refl
    by_receiver (Some dev) = data_goes port memory dev

    by_running : (b : Bool) → GoesOut port (cond (not b) out.Nothing (match_some (next_receiver port) (match_some (next_to_send port) out.Nothing (order_due port)) (data_due port memory)))
    by_running false = tt
    by_running true = by_receiver (next_receiver port)

-- ---- what an event touches is what it is for its core

-- the history of a device with what its core's event is, if there is one
abbrev pub happened_if : ℕ → Port → Option CoreEvent → History
happened_if n port None = []
happened_if n port (Some event) = happened n port event

none_either : (b : Bool) (h : History) → h ≡ (if b then h else h)
none_either true h = refl
none_either false h = refl

by_device_is : (n dev : ℕ) (o : Option Event) → own n (by_device dev o) ≡ (if dev == n then match_some o [] (λ e. e ∷ []) else [])
by_device_is n dev None = none_either (dev == n) []
by_device_is n dev (Some e) = refl

stops_is : (n : ℕ) (b : Bool) → own n (if b then Stops ∷ [] else []) ≡ (if b then Emptied ∷ [] else [])
stops_is n true = refl
stops_is n false = refl

clears_is : (n : ℕ) (o : Option ℕ) → own n (touched_by_clear o) ≡ (if is_device n o then Emptied ∷ [] else [])
clears_is n None = refl
clears_is n (Some dev) = refl

issue_is : (memory : Memory) (slot : ℕ) (o : Option Command) (rest : History) → told_issue slot (match_some o [] (prds_of memory)) o ++ rest ≡ with_issued memory slot o rest
issue_is memory slot None rest = refl
issue_is memory slot (Some command) rest = refl

issues_are : (memory : Memory) (commands : ℕ → Option Command) (m : ℕ) → history_below memory commands [] m ≡ told_issued commands (tables_in memory (Issued commands)) m
unfolding told_issued
issues_are memory commands zero = refl
issues_are memory commands (suc m) =
    ap (with_issued memory m (commands m)) (issues_are memory commands m) ∙ sym (issue_is memory m (commands m) (told_issued commands (tables_in memory (Issued commands)) m))

empty_last : (h : History) → h ++ [] ≡ h
empty_last [] = refl
empty_last (e ∷ h) = ap (λ (l : History). e ∷ l) (empty_last h)

issued_is : (n dev : ℕ) (memory : Memory) (commands : ℕ → Option Command) → own n (issued_below dev memory commands 32) ≡ (if n == dev then told_issued commands (tables_in memory (Issued commands)) 32 else [])
issued_is n dev memory commands = by_test (n == dev) refl
  where
    by_test : (b : Bool) → (n == dev) ≡ b → own n (issued_below dev memory commands 32) ≡ (if b then told_issued commands (tables_in memory (Issued commands)) 32 else [])
    by_test true e =
        ap (λ (d : ℕ). own n (issued_below d memory commands 32)) (sym (eqb-true n dev e)) ∙ sym (empty_last (own n (issued_below n memory commands 32)))
        ∙ own_below_is n memory commands [] 32 ∙ issues_are memory commands 32
    by_test false e = other_below n dev memory commands 32 (λ same. eqb-false n dev e (sym same))

written_is : (n : ℕ) (register : Register) (old : Host) (value : ℕ)
    → own n (touched_by_write register old value) ≡ happened n old.port (core.Wrote register value (offer_of old.port.registers old.memory) (tables_in old.memory (Issued (asked old.port.registers old.memory value))))
written_is n Cmd old value = stops_is n (falls old.port.registers value)
written_is n Ci old value = issued_is n (aimed old.port.registers old.memory.structure value) old.memory (asked old.port.registers old.memory value)
written_is n Fbs old value = clears_is n (cleared_by old.port.errors value)
written_is n other old value = refl

all_is : (n dev : ℕ) (h : History) (x : Event) → own n (map (By dev) h ++ By dev x ∷ []) ≡ (if dev == n then h ++ x ∷ [] else [])
all_is n dev [] x = refl
all_is n dev (y ∷ h) x = by_test (dev == n) (all_is n dev h x)
  where
    by_test : (b : Bool) → own n (map (By dev) h ++ By dev x ∷ []) ≡ (if b then h ++ x ∷ [] else [])
        → (if b then y ∷ own n (map (By dev) h ++ By dev x ∷ []) else own n (map (By dev) h ++ By dev x ∷ [])) ≡ (if b then y ∷ h ++ x ∷ [] else [])
    by_test true e = ap (λ (l : History). y ∷ l) e
    by_test false e = e

turned_is : (n : ℕ) (old : Host) (turn : Turn) (bytes : List ℕ) → turn_of old.port ≡ turn → turned_for n old.port turn bytes ≡ happened n old.port (core.Gave bytes)
turned_is n old turn bytes is = ap (λ (t : Turn). turned_for n old.port t bytes) (sym is)

data_is : (n dev slot offset len : ℕ) (old new : Host) (frame : Option Stamped) (c : Option Command) → turn_of old.port ≡ Feeds dev slot offset len → Gives (data_with dev offset len c) old.port old.memory frame new.port
    → own n (touched_by_out old (data_with dev offset len c)) ≡ happened n old.port (gave_event (data_with dev offset len c) (bytes_out (Gave frame)))
data_is n dev slot offset len old new frame None is gives = refl
data_is n dev slot offset len old new None (Some command) is gives = absurd gives
data_is n dev slot offset len old new (Some f) (Some command) is gives =
    ap (λ (x : Stamped). let h : History = if dev == n then Carried (drop 4 x.bytes) ∷ [] else [] in h) (sym gives.frame_is) ∙ turned_is n old (Feeds dev slot offset len) f.bytes is

gave_is : (n : ℕ) (old new : Host) (frame : Option Stamped) (turn : Turn) → turn_of old.port ≡ turn → Gives (outgoing_at old.port old.memory turn) old.port old.memory frame new.port
    → own n (touched_by_out old (outgoing_at old.port old.memory turn)) ≡ happened n old.port (gave_event (outgoing_at old.port old.memory turn) (bytes_out (Gave frame)))
gave_is n old new frame Rests is gives = turned_is n old Rests (bytes_out (Gave frame)) is
gave_is n old new frame (Feeds dev slot offset len) is gives =
    data_is n dev slot offset len old new frame (sound_command old.memory old.port.commands (view_of dev old.port).slots slot) is gives
gave_is n old new frame (Orders dev slot command) is gives =
    all_is n dev (begun_by slot (issue_at old.port.slots slot)) (event_sent old.port.slots slot) ∙ turned_is n old (Orders dev slot command) (bytes_out (Gave frame)) is

gave_as : (n : ℕ) (old new : Host) (frame : Option Stamped) → Gives (outgoing old.port old.memory) old.port old.memory frame new.port
    → own n (touched_by_out old (outgoing old.port old.memory)) ≡ happened n old.port (gave_event (outgoing old.port old.memory) (bytes_out (Gave frame)))
gave_as n old new frame gives =
    let is : outgoing old.port old.memory ≡ outgoing_at old.port old.memory (turn_of old.port) = outgoing_is old.port old.memory in
    subst (λ (o : Outgoing). own n (touched_by_out old o) ≡ happened n old.port (gave_event o (bytes_out (Gave frame)))) (sym is)
    (gave_is n old new frame (turn_of old.port) refl (subst (λ (o : Outgoing). Gives o old.port old.memory frame new.port) is gives))

-- a frame is for a device what it is at the core, with a memory's answer
pub event_by_is : (host : Host) (frame : List ℕ) → event_by host.port (room_if (is_sound host.memory host.port.commands (view_of (port_of frame) host.port).slots)) frame ≡ event_taken host frame
event_by_is host frame =
    let dev : ℕ = port_of frame in
    let v : DeviceView = view_of dev host.port in
    ap (λ (h : Heard). if ignores dev host.port frame then None else event_heard h (drop 4 frame)) (decided_if dev v (is_sound host.memory host.port.commands v.slots) (admitted dev (seen frame)))

pub touched_is : (n : ℕ) (old new : Host) (event : HostEvent) → Does old event new → own n (touched old event) ≡ happened_if n old.port (core_event old event)
touched_is n old new (Took frame report) does =
    by_device_is n (port_of frame) (event_taken old frame)
    ∙ ap (λ (o : Option Event). let h : History = if port_of frame == n then match_some o [] (λ e. e ∷ []) else [] in h) (sym (event_by_is old frame))
touched_is n old new (Wrote register value) does = written_is n register old value
touched_is n old new (Flushed dev) does = refl
touched_is n old new (Gave frame) does = gave_as n old new frame does.0
touched_is n old new other does = refl

-- ---- one event

gave_framed : (o : Outgoing) (bytes : List ℕ) → IsFramedBy (gave_event o bytes)
gave_framed (Unreadable dev) bytes = tt
gave_framed other bytes = tt

pub step : (n : ℕ) (old : Host) (host : IsHost old) (past : History) (told : IsHistoryOf n old past) (event : HostEvent) (new : Host) → n < 16 → IsFramed event → Does old event new
    → IsHistoryOf n new (own n (touched old event) ++ past)
step n old host past told event new lt framed does =
    subst (λ (h : History). IsHistoryOf n new (h ++ past)) (sym (touched_is n old new event does)) (in_core event framed does (hosts_are_cores old new event does))
  where
    here : (e : CoreEvent) → IsFramedBy e → DoesBy old.port e new.port → IsTold (view_of n new.port) (happened n old.port e ++ past)
    here e framed does = step_by n old.port (is_core old host) past told e new.port lt framed does

    in_core : (event : HostEvent) → IsFramed event → Does old event new → StepsBy old.port (core_event old event) new.port → IsHistoryOf n new (happened_if n old.port (core_event old event) ++ past)
    in_core (Took frame report) framed does by = here (core.Took frame (room_if (is_sound old.memory old.port.commands (view_of (port_of frame) old.port).slots)) report) framed by
    in_core (Wrote register value) framed does by =
        here (core.Wrote register value (offer_of old.port.registers old.memory) (tables_in old.memory (Issued (asked old.port.registers old.memory value)))) tt by
    in_core (Flushed dev) framed does by = here (core.Flushed dev) tt by
    in_core (Gave frame) framed does by = here (gave_event (outgoing old.port old.memory) (bytes_out (Gave frame))) (gave_framed (outgoing old.port old.memory) (bytes_out (Gave frame))) by
    in_core other framed does by = subst (λ (p : Port). IsTold (view_of n p) past) (sym by) told

-- ---- lists of events

pub views_are_told : ViewsAreTold
views_are_told n lt old new [] run sound past told = subst (λ (h : Host). IsHistoryOf n h past) (sym run) told
views_are_told n lt old new (event ∷ events) run sound past told =
    views_are_told n lt run.0 new events run.2 (record { hosts = sound.hosts.1; frames = sound.frames.1 }) (own n (touched old event) ++ past)
    (step n old sound.hosts.0 past told event run.0 lt sound.frames.0 run.1)

pub histories_are_parts : HistoriesAreParts
histories_are_parts n past old new [] run = refl
histories_are_parts n past old new (event ∷ events) run =
    histories_are_parts n (touched old event ++ past) run.0 new events run.2
    ∙ ap (λ h. history_after n h run.0 new events run.2) (own_app n (touched old event) past)
