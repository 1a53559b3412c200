-- For `isolated`. The history of a device is told by its own events, as that of its core is.
use Rattle.std.proofs.Common.{◌≡◌, ℕ, ◌<◌, Bool, true, false, List, [], ◌∷◌, ◌++◌, drop, refl, sym, ◌∙◌, ap, ap₂, subst, Option, Some, None}
use Rattle.std.proofs.lemmas.Bool.{not-false, or_parts, true≢false}
use Rattle.std.specs.{Prelude.{◌==◌, if◌then◌else◌, map, not}, List.AllZip}
use Rattle.fis_view.specs.{Frames.Stamped, Seen.seen}
use Rattle.hba_commands.specs.declared.command.Command.{Command}
use Rattle.slots.specs.Slots.{match_some}
use Rattle.hba_fbs.specs.declared.{hearing.Heard.Heard, register.Register.{Register, TheVariants.{Ci, Fbs}}, room.Room.{Room, TheVariants.Whole}}
use Rattle.hba_fbs.specs.{declared.turn.Turn.{Turn, TheVariants.{Feeds, Orders, Rests}}, Deciding.{decided, room_if}, Issuing.{aimed, asked}}
use Rattle.hba_fbs.specs.{Offering.offer_of, Sending.{Gives, Outgoing, data_with, outgoing}, Tables.{is_sound, sound_command}, Taking.admitted}
use Rattle.hba_fbs.specs.{Taking.{is_running, port_of}, Turning.{outgoing_at, turn_of}, Views.view_of, Writing.{cleared_by, is_device}}
use Rattle.hba_fbs.proofs.Door.{decided_if, outgoing_is}
use Rattle.hba_laws.specs.Alike.{Brought, HistoriesByOwn, IsBroughtAlike, OwnFillAlike, brought, brought_over, bytes_out, history_by, tables_in}
use Rattle.hba_laws.specs.{Alike.{told_came, told_own, with_memory}, Client.own, CoreHistories.{Given, given_by, history_given, told_arrival}}
use Rattle.hba_laws.specs.{CoreHistories.{told_given, with_caller}, Cores.{Arrived, CoreEvent, CoreOwn, IsPart, Own, StepsBy, core_event, stops_by}}
use Rattle.hba_laws.specs.{Cores.{turned_to, used}, Delivering.{event_heard, history_after, touched}, History.{Event, History}, Hosts.{Does, Flushed}}
use Rattle.hba_laws.specs.{Hosts.{Gave, Host, HostEvent, Rewrote, Runs, Took, Wrote}, Isolation.{AreOfDevices, Came, Cleared, Emptied, Issued}}
use Rattle.hba_laws.specs.Isolation.{OwnEvent, Rewritten, Went, fails_by_bus, is_port_event, own_events, part_after, part_after_all, skips, stops}
use Rattle.hba_laws.specs.{Parts.{DevicePart, part_of}, Sound.{AreHosts, IsHost}}
use Rattle.hba_laws.specs.Cores as core
use Rattle.hba_laws.proofs.{cores.CoreHostLemmas.{hosts_are_cores, is_core}, histories.EventLemmas.{happened_if, touched_is}}
use Rattle.hba_laws.proofs.isolation.{CoreAlikeLemmas.{filled_alike, own_alike, told_by}, CoreFoldLemmas.{goes_on, stops_same}}
use Rattle.hba_laws.proofs.{isolation.IsolationLemmas.{own_step, part_is}, soundness.KeptLemmas.first_host}

-- ---- what memory brings is what the caller of the core brings

-- one own event, or none, tells the same
same_if : (n : ℕ) (p : DevicePart) (past : History) (f : OwnEvent → Brought) (g : CoreOwn → Given) (b : Bool) (e : OwnEvent) (x : CoreOwn)
    → told_own n p (f e).event (f e).tables (f e).bytes ≡ told_given n p (g x).event (g x).tables (g x).bytes
    → history_by n p past (map f (if b then e ∷ [] else [])) ≡ history_given n p past (map g (if b then x ∷ [] else []))
same_if n p past f g true e x same = ap (λ (h : History). h ++ past) same
same_if n p past f g false e x same = refl

-- the history of a device by an event of its core
by_core : (n : ℕ) (old new : Host) (event : HostEvent) (e : CoreEvent) (past : History) → n < 16 → IsHost old → is_running old.port ≡ true → Does old event new → stops_by old.port e ≡ false → core_event old event ≡ Some e
    → history_by n (part_of n old) past (brought n old event) ≡ history_given n (part_of n old) past (given_by n old.port e)
    → history_by n (part_of n old) past (brought n old event) ≡ own n (touched old event) ++ past
by_core n old new event e past lt is runs does none at same =
    same ∙ told_by n old.port new.port e (part_of n old) past lt (is_core old is) runs (subst (λ (o : Option CoreEvent). StepsBy old.port o new.port) at (hosts_are_cores old new event does)) none (part_is n old)
    ∙ ap (λ (h : History). h ++ past) (sym (touched_is n old new event does ∙ ap (happened_if n old.port) at))

came_same : (n : ℕ) (p : DevicePart) (sound : Bool) (frame : List ℕ) → told_came n p frame ≡ told_arrival n p (room_if sound) frame
came_same n p sound frame =
    ap (λ (h : Heard). if skips n p (seen frame) then None else event_heard h (drop 4 frame)) (sym (decided_if n p.view true (admitted n (seen frame))) ∙ ap (λ (r : Room). decided n p.view r (admitted n (seen frame))) (all_used sound))
  where
    all_used : (b : Bool) → Whole ≡ used (room_if b)
    all_used true = refl
    all_used false = refl

written_same : (n : ℕ) (register : Register) (old : Host) (value : ℕ) (past : History)
    → history_by n (part_of n old) past (brought n old (Wrote register value))
    ≡ history_given n (part_of n old) past (given_by n old.port (core.Wrote register value (offer_of old.port.registers old.memory) (tables_in old.memory (Issued (asked old.port.registers old.memory value)))))
written_same n Ci old value past =
    same_if n (part_of n old) past (with_memory old (Wrote Ci value)) (with_caller (core.Wrote Ci value (offer_of old.port.registers old.memory) (tables_in old.memory (Issued (asked old.port.registers old.memory value)))))
    (n == aimed old.port.registers old.memory.structure value) (Issued (asked old.port.registers old.memory value)) (Own (Issued (asked old.port.registers old.memory value))) refl
written_same n Fbs old value past =
    same_if n (part_of n old) past (with_memory old (Wrote Fbs value)) (with_caller (core.Wrote Fbs value (offer_of old.port.registers old.memory) (tables_in old.memory (Issued (asked old.port.registers old.memory value)))))
    (is_device n (cleared_by old.port.errors value)) Cleared (Own Cleared) refl
written_same n other old value past = refl

gone_same : (n dev : ℕ) (old : Host) (f : Stamped) (past : History) → f.stamp.port ≡ dev
    → history_by n (part_of n old) past (brought n old (Gave (Some f))) ≡ history_given n (part_of n old) past (map (with_caller (core.Gave f.bytes)) (if dev == n then Own Went ∷ [] else []))
gone_same n dev old f past to =
    same_if n (part_of n old) past (with_memory old (Gave (Some f))) (with_caller (core.Gave f.bytes)) (f.stamp.port == n) Went (Own Went) refl
    ∙ ap (λ (d : ℕ). history_given n (part_of n old) past (map (with_caller (core.Gave f.bytes)) (if d == n then Own Went ∷ [] else []))) to

data_same : (n : ℕ) (old new : Host) (frame : Option Stamped) (past : History) (dev offset len : ℕ) (c : Option Command) → Gives (data_with dev offset len c) old.port old.memory frame new.port
    → fails_by_bus (data_with dev offset len c) ≡ false
    → history_by n (part_of n old) past (brought n old (Gave frame)) ≡ history_given n (part_of n old) past (map (with_caller (core.Gave (bytes_out (Gave frame)))) (if dev == n then Own Went ∷ [] else []))
data_same n old new frame past dev offset len None gives none = absurd (true≢false none)
data_same n old new None past dev offset len (Some command) gives none = absurd gives
data_same n old new (Some f) past dev offset len (Some command) gives none = gone_same n dev old f past (ap (λ (x : Stamped). x.stamp.port) gives.frame_is)

turned_same : (n : ℕ) (old new : Host) (frame : Option Stamped) (past : History) (turn : Turn) → Gives (outgoing_at old.port old.memory turn) old.port old.memory frame new.port → fails_by_bus (outgoing_at old.port old.memory turn) ≡ false
    → history_by n (part_of n old) past (brought n old (Gave frame)) ≡ history_given n (part_of n old) past (map (with_caller (core.Gave (bytes_out (Gave frame)))) (turned_to n turn))
turned_same n old new frame past Rests gives none = ap (λ (f : Option Stamped). history_by n (part_of n old) past (brought n old (Gave f))) gives.0
turned_same n old new frame past (Feeds dev slot offset len) gives none = data_same n old new frame past dev offset len (sound_command old.memory old.port.commands (view_of dev old.port).slots slot) gives none
turned_same n old new None past (Orders dev slot command) gives none = absurd gives
turned_same n old new (Some f) past (Orders dev slot command) gives none = gone_same n dev old f past (ap (λ (x : Stamped). x.stamp.port) gives.frame_is)

-- ---- one event

step_by : (n : ℕ) (old new : Host) (event : HostEvent) (past : History) → n < 16 → IsHost old → is_running old.port ≡ true → Does old event new → stops old event ≡ false
    → history_by n (part_of n old) past (brought n old event) ≡ own n (touched old event) ++ past
step_by n old new (Took frame report) past lt is runs does none =
    let sound : Bool = is_sound old.memory old.port.commands (view_of (port_of frame) old.port).slots in
    let e : CoreEvent = core.Took frame (room_if sound) report in
    by_core n old new (Took frame report) e past lt is runs does (stops_same old frame none) refl
    (same_if n (part_of n old) past (with_memory old (Took frame report)) (with_caller e) (port_of frame == n) (Came frame) (Arrived (room_if sound) frame)
    (ap (λ (o : Option Event). match_some o [] (λ e. e ∷ [])) (came_same n (part_of n old) sound frame)))
step_by n old new (Wrote register value) past lt is runs does none =
    by_core n old new (Wrote register value) (core.Wrote register value (offer_of old.port.registers old.memory) (tables_in old.memory (Issued (asked old.port.registers old.memory value)))) past lt is runs does none refl
    (written_same n register old value past)
step_by n old new (Flushed dev) past lt is runs does none =
    by_core n old new (Flushed dev) (core.Flushed dev) past lt is runs does refl refl
    (same_if n (part_of n old) past (with_memory old (Flushed dev)) (with_caller (core.Flushed dev)) (dev == n) Emptied (Own Emptied) refl)
step_by n old new (Gave frame) past lt is runs does none =
    let at : outgoing old.port old.memory ≡ outgoing_at old.port old.memory (turn_of old.port) = outgoing_is old.port old.memory in
    let gives = subst (λ (o : Outgoing). Gives o old.port old.memory frame new.port) at does.0 in
    let goes : fails_by_bus (outgoing_at old.port old.memory (turn_of old.port)) ≡ false = subst (λ (o : Outgoing). fails_by_bus o ≡ false) at none in
    by_core n old new (Gave frame) (core.Gave (bytes_out (Gave frame))) past lt is runs does refl (ap (λ (e : CoreEvent). Some e) (goes_on (outgoing old.port old.memory) (bytes_out (Gave frame)) none))
    (turned_same n old new frame past (turn_of old.port) gives goes)
step_by n old new (Rewrote dev row) past lt is runs does none = by_test (dev == n)
  where
    by_test : (b : Bool) → history_by n (part_of n old) past (map (with_memory old (Rewrote dev row)) (if b then Rewritten row ∷ [] else [])) ≡ past
    by_test true = refl
    by_test false = refl
step_by n old new other past lt is runs does none = refl

step : (n : ℕ) (old new : Host) (event : HostEvent) (past : History) → n < 16 → IsHost old → Does old event new → is_port_event old event ≡ false
    → history_by n (part_of n old) past (brought n old event) ≡ own n (touched old event) ++ past
step n old new event past lt is does none =
    let parts = or_parts (not (is_running old.port)) (stops old event) none in
    step_by n old new event past lt is (not-false (is_running old.port) parts.0) does parts.1

-- ---- lists of events

abbrev events_of : List Brought → List OwnEvent
events_of bs = map (λ (b : Brought). b.event) bs

by_append : (n : ℕ) (p : DevicePart) (past : History) (xs ys : List Brought)
    → history_by n p past (xs ++ ys) ≡ history_by n (part_after_all n p (events_of xs)) (history_by n p past xs) ys
by_append n p past [] ys = refl
by_append n p past (x ∷ xs) ys = by_append n (part_after n p x.event) (told_own n p x.event x.tables x.bytes ++ past) xs ys

events_back : (host : Host) (event : HostEvent) (es : List OwnEvent) → events_of (map (with_memory host event) es) ≡ es
events_back host event [] = refl
events_back host event (e ∷ es) = ap (λ (xs : List OwnEvent). e ∷ xs) (events_back host event es)

told_over : (n : ℕ) → n < 16 → (old new : Host) (events : List HostEvent) (run : Runs old events new) → AreHosts old new events run → AreOfDevices old new events run → (past : History)
    → history_after n past old new events run ≡ history_by n (part_of n old) past (brought_over n old new events run)
told_over n lt old new [] run hosts devices past = refl
told_over n lt old new (event ∷ events) run hosts devices past =
    let next : IsHost run.0 = first_host run.0 new events run.2 hosts.1 in
    let rest : List Brought = brought_over n run.0 new events run.2 in
    let now : List Brought = brought n old event in
    let part : part_of n run.0 ≡ part_after_all n (part_of n old) (events_of (brought n old event)) =
    own_step n old run.0 event lt hosts.0 next run.1 devices.0 ∙ ap (part_after_all n (part_of n old)) (sym (events_back old event (own_events n old event))) in
    told_over n lt run.0 new events run.2 hosts.1 devices.1 (own n (touched old event) ++ past)
    ∙ ap (λ (h : History). history_by n (part_of n run.0) h rest) (sym (step n old run.0 event past lt hosts.0 run.1 devices.0))
    ∙ ap (λ (p : DevicePart). history_by n p (history_by n (part_of n old) past now) rest) part
    ∙ sym (by_append n (part_of n old) past now rest)

pub histories_by_own : HistoriesByOwn
histories_by_own n lt old new events run past = told_over n lt old new events run.run run.hosts run.devices past

by_alike : (n : ℕ) (p : DevicePart) (past : History) (xs ys : List Brought) → AllZip IsBroughtAlike xs ys
    → history_by n p past xs ≡ history_by n p past ys
by_alike n p past [] [] alike = refl
by_alike n p past (x ∷ xs) (y ∷ ys) alike =
    let same = alike.0 in
    ap (λ (h : History). history_by n (part_after n p x.event) (h ++ past) xs)
    (own_alike n p x.event x.tables y.tables x.bytes same.tables
    ∙ ap₂ (λ (e : OwnEvent) (b : List ℕ). told_own n p e y.tables b) same.event same.bytes)
    ∙ ap (λ (e : OwnEvent). history_by n (part_after n p e) (told_own n p y.event y.tables y.bytes ++ past) xs) same.event
    ∙ by_alike n (part_after n p y.event) (told_own n p y.event y.tables y.bytes ++ past) xs ys alike.1
by_alike n p past [] (y ∷ ys) alike = absurd alike
by_alike n p past (x ∷ xs) [] alike = absurd alike

pub own_fill_alike : OwnFillAlike
own_fill_alike n lt old new events run old2 new2 events2 run2 past parts own =
    filled_alike _ _
    (histories_by_own n lt old new events run past ∙ ap (λ (p : DevicePart). history_by n p past (brought_over n old new events run.run)) parts
    ∙ by_alike n (part_of n old2) past _ _ own ∙ sym (histories_by_own n lt old2 new2 events2 run2 past))
