-- For `core_isolated`. A host's isolation by that of its core: of the memory nothing is said but that rows stay rows.
use Rattle.std.proofs.Common.{◌≡◌, ℕ, ◌<◌, Bool, true, false, ◌&&◌, List, [], ◌∷◌, refl, sym, ◌∙◌, ap, subst, Option, Some, None}
use Rattle.std.proofs.lemmas.Bool.{not-false, or_parts, true≢false}
use Rattle.std.specs.{Prelude.{◌==◌, if◌then◌else◌, is_some, not}, Option.option_map}
use Rattle.fis_view.specs.{Frames.Stamped, Seen.seen, declared.view.Fis.Fis}
use Rattle.hba_commands.specs.declared.command.Command.{Command}
use Rattle.host_memory.specs.Memory.{Memory}
use Rattle.hba_fbs.specs.declared.{hearing.Heard.Heard, register.Register.{Register, TheVariants.{Ci, Fbs}}, turn.Turn.{Turn, TheVariants.Feeds}}
use Rattle.hba_fbs.specs.{declared.turn.Turn.TheVariants.{Orders, Rests}, Deciding.{heard_within, room_if}, Issuing.{aimed, asked}, Offering.offer_of}
use Rattle.hba_fbs.specs.{Sending.{Gives, Outgoing, Unreadable, data_with, outgoing}, Tables.{is_sound, sound_command}, Taking.admitted}
use Rattle.hba_fbs.specs.{Taking.{ignored_report, ignores, is_running, port_of, stops_with}, Turning.{outgoing_at, turn_of}, Views.{DeviceView, Port}}
use Rattle.hba_fbs.specs.{Views.view_of, Writing.{cleared_by, is_device}}
use Rattle.hba_fbs.proofs.Door.{decided_if, outgoing_is}
use Rattle.hba_laws.specs.{Alike.{bytes_out, tables_in}, Cores.{Arrived, CoreEvent, CoreOwn, DoesBy, HostsFoldByCore, IsCore, IsPart, Own}}
use Rattle.hba_laws.specs.{Cores.{after_hearing, gave_event, part_by, part_by_all, stops_by, told_to, turned_to, used}, Hosts.{Does, Flushed, Gave}}
use Rattle.hba_laws.specs.{Hosts.{Host, HostEvent, Rewrote, Runs, Took, Wrote}, Isolation.{AreOfDevices, Came, Cleared, Emptied, Issued, OwnEvent}}
use Rattle.hba_laws.specs.Isolation.{Rewritten, Went, after_fis, fails_by_bus, gone_to, own_events, own_over, part_after, part_after_all, skips}
use Rattle.hba_laws.specs.{Isolation.{stops, stops_port, written_to}, Parts.{DevicePart, part_of}, Sound.{AreHosts, IsHost}}
use Rattle.hba_laws.specs.Cores as core
use Rattle.hba_laws.proofs.{soundness.KeptLemmas.first_host, cores.CoreHostLemmas.{hosts_are_cores, is_core}, isolation.CoreLemmas.{same_port, step}}
use Rattle.hba_laws.proofs.isolation.HeardLemmas.{after_append, row_shows}

-- ---- what the core is told, the host is told

same_if : (n : ℕ) (p : DevicePart) (b : Bool) (x : CoreOwn) (e : OwnEvent) → part_by n p x ≡ part_after n p e → part_by_all n p (if b then x ∷ [] else []) ≡ part_after_all n p (if b then e ∷ [] else [])
same_if n p true x e is = is
same_if n p false x e is = refl

one_own : (n : ℕ) (new : Port) (p : DevicePart) (b : Bool) (event : OwnEvent) → (b ≡ true → IsPart n new (part_after n p event)) → (b ≡ false → IsPart n new p) → IsPart n new (part_after_all n p (if b then event ∷ [] else []))
one_own n new p true event one none = one refl
one_own n new p false event one none = none refl

heard_same : (n : ℕ) (p : DevicePart) (sound : Bool) (fis : Option Fis) → after_hearing n p (used (room_if sound)) fis ≡ after_fis n p fis
unfolding heard_within
heard_same n p true None = refl
heard_same n p false None = refl
heard_same n p true (Some fis) = refl
heard_same n p false (Some fis) = refl

came_same : (n : ℕ) (p : DevicePart) (sound : Bool) (frame : List ℕ) → part_by n p (Arrived (room_if sound) frame) ≡ part_after n p (Came frame)
came_same n p sound frame = ap (λ (q : DevicePart). if skips n p (seen frame) then p else q) (heard_same n p sound (admitted n (seen frame)))

told_same : (n : ℕ) (old : Host) (p : DevicePart) (register : Register) (value : ℕ) → part_by_all n p (told_to n old.port register value (offer_of old.port.registers old.memory)) ≡ part_after_all n p (written_to n old register value)
told_same n old p Ci value = same_if n p (n == aimed old.port.registers old.memory.structure value) (Own (Issued (asked old.port.registers old.memory value))) (Issued (asked old.port.registers old.memory value)) refl
told_same n old p Fbs value = same_if n p (is_device n (cleared_by old.port.errors value)) (Own Cleared) Cleared refl
told_same n old p other value = refl

gone_same : (n : ℕ) (p : DevicePart) (dev : ℕ) (f : Stamped) → f.stamp.port ≡ dev → part_by_all n p (if dev == n then Own Went ∷ [] else []) ≡ part_after_all n p (gone_to n (Some f))
gone_same n p dev f to = same_if n p (dev == n) (Own Went) Went refl ∙ ap (λ (d : ℕ). part_after_all n p (if d == n then Went ∷ [] else [])) (sym to)

data_same : (n : ℕ) (old new : Port) (memory : Memory) (frame : Option Stamped) (p : DevicePart) (dev offset len : ℕ) (c : Option Command) → Gives (data_with dev offset len c) old memory frame new
    → fails_by_bus (data_with dev offset len c) ≡ false → part_by_all n p (if dev == n then Own Went ∷ [] else []) ≡ part_after_all n p (gone_to n frame)
data_same n old new memory frame p dev offset len None gives none = absurd (true≢false none)
data_same n old new memory None p dev offset len (Some command) gives none = absurd gives
data_same n old new memory (Some f) p dev offset len (Some command) gives none = gone_same n p dev f (ap (λ (x : Stamped). x.stamp.port) gives.frame_is)

turned_same : (n : ℕ) (old new : Port) (memory : Memory) (frame : Option Stamped) (p : DevicePart) (turn : Turn) → Gives (outgoing_at old memory turn) old memory frame new → fails_by_bus (outgoing_at old memory turn) ≡ false
    → part_by_all n p (turned_to n turn) ≡ part_after_all n p (gone_to n frame)
turned_same n old new memory frame p Rests gives none = sym (ap (λ (f : Option Stamped). part_after_all n p (gone_to n f)) gives.0)
turned_same n old new memory frame p (Feeds dev slot offset len) gives none = data_same n old new memory frame p dev offset len (sound_command memory old.commands (view_of dev old).slots slot) gives none
turned_same n old new memory None p (Orders dev slot command) gives none = absurd gives
turned_same n old new memory (Some f) p (Orders dev slot command) gives none = gone_same n p dev f (ap (λ (x : Stamped). x.stamp.port) gives.frame_is)

pub goes_on : (o : Outgoing) (bytes : List ℕ) → fails_by_bus o ≡ false → gave_event o bytes ≡ core.Gave bytes
goes_on (Unreadable dev) bytes none = absurd (true≢false none)
goes_on other bytes none = refl

-- ---- one event

row_is_row : (row : Option (List ℕ)) (bytes : List ℕ) → is_some (option_map (λ old. bytes) row) ≡ is_some row
row_is_row None bytes = refl
row_is_row (Some old) bytes = refl

pub stops_same : (old : Host) (frame : List ℕ) → stops_port (port_of frame) old.port old.memory frame ≡ false
    → stops_by old.port (core.Took frame (room_if (is_sound old.memory old.port.commands (view_of (port_of frame) old.port).slots)) (ignored_report 0)) ≡ false
stops_same old frame none =
    let dev : ℕ = port_of frame in
    let v : DeviceView = view_of dev old.port in
    ap (λ (h : Heard). not (ignores dev old.port frame) && stops_with old.port.registers.switching h.fault) (decided_if dev v (is_sound old.memory old.port.commands v.slots) (admitted dev (seen frame))) ∙ none

pub host_step : (n : ℕ) (old new : Host) (event : HostEvent) (p : DevicePart) → n < 16 → IsHost old → IsHost new → is_running old.port ≡ true → Does old event new → stops old event ≡ false → IsPart n old.port p
    → IsPart n new.port (part_after_all n p (own_events n old event))
host_step n old new (Took frame report) p lt before next runs does none is =
    let sound : Bool = is_sound old.memory old.port.commands (view_of (port_of frame) old.port).slots in
    subst (IsPart n new.port) (same_if n p (port_of frame == n) (Arrived (room_if sound) frame) (Came frame) (came_same n p sound frame))
    (step n old.port new.port (core.Took frame (room_if sound) report) p lt (is_core old before) (is_core new next) runs (hosts_are_cores old new (Took frame report) does) (stops_same old frame none) is)
host_step n old new (Wrote register value) p lt before next runs does none is =
    subst (IsPart n new.port) (told_same n old p register value)
    (step n old.port new.port (core.Wrote register value (offer_of old.port.registers old.memory) (tables_in old.memory (Issued (asked old.port.registers old.memory value)))) p lt (is_core old before) (is_core new next) runs (hosts_are_cores old new (Wrote register value) does) none is)
host_step n old new (Flushed dev) p lt before next runs does none is =
    subst (IsPart n new.port) (same_if n p (dev == n) (Own Emptied) Emptied refl) (step n old.port new.port (core.Flushed dev) p lt (is_core old before) (is_core new next) runs does.0 refl is)
host_step n old new (Gave frame) p lt before next runs does none is =
    let at : outgoing old.port old.memory ≡ outgoing_at old.port old.memory (turn_of old.port) = outgoing_is old.port old.memory in
    let gives = subst (λ (o : Outgoing). Gives o old.port old.memory frame new.port) at does.0 in
    let goes : fails_by_bus (outgoing_at old.port old.memory (turn_of old.port)) ≡ false = subst (λ (o : Outgoing). fails_by_bus o ≡ false) at none in
    subst (IsPart n new.port) (turned_same n old.port new.port old.memory frame p (turn_of old.port) gives goes)
    (step n old.port new.port (core.Gave (bytes_out (Gave frame))) p lt (is_core old before) (is_core new next) runs (subst (λ (e : CoreEvent). DoesBy old.port e new.port) (goes_on (outgoing old.port old.memory) (bytes_out (Gave frame)) none) (hosts_are_cores old new (Gave frame) does)) refl is)
host_step n old new (Rewrote dev row) p lt before next runs does none is =
    let here : IsPart n new.port p = same_port n old.port new.port p is does.1 in
    one_own n new.port p (dev == n) (Rewritten row) (λ same. record { view = here.view; commands = here.commands; row = row_is_row p.row row ∙ here.row }) (λ differs. here)
host_step n old new other p lt before next runs does none is = same_port n old.port new.port p is does.1

-- ---- and a list of them

fold_of_hosts : (n : ℕ) → n < 16 → (old new : Host) (events : List HostEvent) (run : Runs old events new) → AreHosts old new events run → AreOfDevices old new events run → (p : DevicePart) → IsPart n old.port p
    → IsPart n new.port (part_after_all n p (own_over n old new events run))
fold_of_hosts n lt old new [] run hosts devices p is = subst (λ (h : Host). IsPart n h.port p) (sym run) is
fold_of_hosts n lt old new (event ∷ events) run hosts devices p is =
    let own : List OwnEvent = own_events n old event in
    let parts = or_parts (not (is_running old.port)) (stops old event) devices.0 in
    let next : IsHost run.0 = first_host run.0 new events run.2 hosts.1 in
    let now : IsPart n run.0.port (part_after_all n p own) = host_step n old run.0 event p lt hosts.0 next (not-false (is_running old.port) parts.0) run.1 parts.1 is in
    subst (IsPart n new.port) (sym (after_append n p own (own_over n run.0 new events run.2))) (fold_of_hosts n lt run.0 new events run.2 hosts.1 devices.1 (part_after_all n p own) now)

pub hosts_fold_by_core : HostsFoldByCore
hosts_fold_by_core n lt old new events run =
    fold_of_hosts n lt old new events run.run run.hosts run.devices (part_of n old)
    (record { view = refl; commands = refl; row = row_shows old.port.registers.switching old.port.registers.fb old.memory.structure n })
