-- For `core_isolated`. An event of a host is one of its core, with the answers that its memory gives.
use Rattle.std.proofs.Common.{◌≡◌, ℕ, suc, ◌+◌, ◌-◌, arith, length, Bool, true, false, List, refl, sym, ◌∙◌, ap, subst, Option, Some, None}
use Rattle.std.proofs.lemmas.List.FromFn.{length-map-range_with_len}
use Rattle.std.specs.Prelude.{if◌then◌else◌, slice_index}
use Rattle.fis_view.specs.{Frames.Stamped, Seen.seen, declared.view.Fis.Fis}
use Rattle.hba_commands.specs.declared.command.Command.{Command}
use Rattle.host_memory.specs.{Memory.{Memory, client_start}, Place.place, declared.table.Prd.Prd}
use Rattle.hba_fbs.specs.declared.{error.WriteError.{WriteError, TheVariants.BadTable}, hearing.Heard.Heard, register.Register.Register}
use Rattle.hba_fbs.specs.{declared.{report.TakeReport.TakeReport, turn.Turn.{Turn, TheVariants.{Feeds, Orders, Rests}}}, Deciding.{decided, room_if}}
use Rattle.hba_fbs.specs.{Offering.{AcceptsBy, offer_of, refusal_by}, Registers.is_outside, Sending.{Gives, Outgoing, Sends, data_fis, data_with}}
use Rattle.hba_fbs.specs.{Sending.{gathered, outgoing, view_fed, view_sent}, Tables.{is_sound, prds_of, sound_command}, Taking.{admitted, errors_in}}
use Rattle.hba_fbs.specs.{Taking.{heard, heard_report, place_in, port_of, posted_of, row_for, settled, view_after_hearing}, Turning.Goes}
use Rattle.hba_fbs.specs.{Turning.{outgoing_at, turn_of}, Views.{DeviceView, Port, view_of}, Writing.{Accepts, refusal_of}}
use Rattle.hba_fbs.proofs.Door.{active_is, commands_are, decided_if, outgoing_is, refusal_is, view_is}
use Rattle.hba_laws.specs.{Alike.bytes_out, Cores.{DoesBy, Hearkens, HostsAreCores, IsCore, gave_event}, Sound.IsHost, Hosts.{Flushed, Gave, Host}}
use Rattle.hba_laws.specs.Hosts.{TakesFrame, Took, Wrote}

-- the core of a sound host keeps the rules of every core
pub is_core : (host : Host) → IsHost host → IsCore host.port
is_core host is = record {
  port = record {
    registers = record { chosen = is.port.registers.chosen; receives = λ started. (is.port.registers.started started).0 };
    commands = is.port.commands;
    active = is.port.active;
  };
  slots = is.slots;
}

-- ---- a frame

took : (old new : Host) (frame : List ℕ) (report : TakeReport) → TakesFrame old frame report new → Hearkens old.port frame (room_if (is_sound old.memory old.port.commands (view_of (port_of frame) old.port).slots)) report new.port
took old new frame report does =
    let dev : ℕ = port_of frame in
    let v : DeviceView = view_of dev old.port in
    let fis : Option Fis = admitted dev (seen frame) in
    let same : heard dev v (is_sound old.memory old.port.commands v.slots) fis ≡ decided dev v (room_if (is_sound old.memory old.port.commands v.slots)) fis = sym (decided_if dev v (is_sound old.memory old.port.commands v.slots) fis) in
    record {
      ignored = λ t. record { reports = (does.ignored t).reports; port = (does.ignored t).port };
      heard = λ f. record {
        own = (does.heard f).own ∙ ap (view_after_hearing v) same;
        others = (does.heard f).others;
        reports = (does.heard f).reports ∙ ap (heard_report dev (place_in (row_for old.port dev) fis)) same;
        registers = (does.heard f).registers ∙ ap (settled (posted_of old.port.registers dev v.state.resetting fis)) same;
        errors = (does.heard f).errors ∙ ap (λ (h : Heard). errors_in old.port.registers.switching old.port.errors dev h.fault) same;
        commands = (does.heard f).commands;
        number = (does.heard f).number;
        active = (does.heard f).active;
        frees = (does.heard f).frees;
      };
    }

-- ---- a write

accepted_by : (b : Bool) (e : WriteError) (o : Option WriteError) → (if b then Some e else o) ≡ None → o ≡ None
accepted_by true e o h = cc
accepted_by false e o h = h

pub core_accepts : (register : Register) (old : Port) (memory : Memory) (value : ℕ) → refusal_of register old memory value ≡ None → refusal_by register old (offer_of old.registers memory) value ≡ None
core_accepts register old memory value taken =
    accepted_by (is_outside register old.registers value) BadTable (refusal_by register old (offer_of old.registers memory) value) (sym (refusal_is register old memory value) ∙ taken)

wrote : (old new : Port) (memory : Memory) (register : Register) (value : ℕ) → refusal_of register old memory value ≡ None → Accepts old memory register value new
    → (refusal_by register old (offer_of old.registers memory) value ≡ None) × AcceptsBy old (offer_of old.registers memory) register value new
wrote old new memory register value taken does = (
  core_accepts register old memory value taken,
  record {
    registers = does.registers;
    views = λ n lt. does.views n lt ∙ sym (view_is register old memory value n);
    errors = does.errors;
    commands = does.commands ∙ sym (commands_are register old memory value);
    number = does.number;
    active = does.active ∙ sym (active_is register old memory value);
  },
)

-- ---- what goes out

goes : (old new : Port) (dev : ℕ) (view : DeviceView) (bytes : List ℕ) (f : Stamped) → Sends old dev bytes view f new → Goes old dev view new
goes old new dev view bytes f sends = record {
  own = sends.own;
  others = sends.others;
  registers = sends.registers;
  errors = sends.errors;
  commands = sends.commands;
  number = sends.number;
  active = sends.active;
}

long_fis : (dev : ℕ) (prds : List Prd) (offset len : ℕ) (client : List ℕ) (f : Stamped) → f.bytes ≡ data_fis dev (gathered prds offset len client) → length f.bytes ≡ 4 + len
long_fis dev prds offset len client f is =
    let long : length (gathered prds offset len client) ≡ len = length-map-range_with_len (λ k. slice_index client (place prds (offset + k) - client_start)) 0 len in
    let more : suc (suc (suc (suc (length (gathered prds offset len client))))) ≡ 4 + len = omega (arith, long) in
    ap (λ (l : List ℕ). length l) is ∙ more

data_turns : (old new : Port) (memory : Memory) (frame : Option Stamped) (dev slot offset len : ℕ) (c : Option Command) → Gives (data_with dev offset len c) old memory frame new → turn_of old ≡ Feeds dev slot offset len
    → DoesBy old (gave_event (data_with dev offset len c) (bytes_out (Gave frame))) new
data_turns old new memory frame dev slot offset len None gives is = gives.1
data_turns old new memory None dev slot offset len (Some command) gives is = absurd gives
data_turns old new memory (Some f) dev slot offset len (Some command) gives is =
    rw is (goes old new dev (view_fed (view_of dev old)) _ f gives, long_fis dev (prds_of memory command) offset len memory.client f (ap (λ (x : Stamped). x.bytes) gives.frame_is))

gave : (old new : Port) (memory : Memory) (frame : Option Stamped) (turn : Turn) → turn_of old ≡ turn → Gives (outgoing_at old memory turn) old memory frame new → DoesBy old (gave_event (outgoing_at old memory turn) (bytes_out (Gave frame))) new
gave old new memory frame Rests is gives = rw is (gives.1, tt)
gave old new memory frame (Feeds dev slot offset len) is gives = data_turns old new memory frame dev slot offset len (sound_command memory old.commands (view_of dev old).slots slot) gives is
gave old new memory None (Orders dev slot command) is gives = absurd gives
gave old new memory (Some f) (Orders dev slot command) is gives = rw is (goes old new dev (view_sent (view_of dev old) slot command) _ f gives, tt)

gave_as : (old new : Port) (memory : Memory) (frame : Option Stamped) → Gives (outgoing old memory) old memory frame new → DoesBy old (gave_event (outgoing old memory) (bytes_out (Gave frame))) new
gave_as old new memory frame gives =
    let is : outgoing old memory ≡ outgoing_at old memory (turn_of old) = outgoing_is old memory in
    subst (λ (o : Outgoing). DoesBy old (gave_event o (bytes_out (Gave frame))) new) (sym is) (gave old new memory frame (turn_of old) refl (subst (λ (o : Outgoing). Gives o old memory frame new) is gives))

-- ---- all of them

pub hosts_are_cores : HostsAreCores
hosts_are_cores old new (Took frame report) does = took old new frame report does
hosts_are_cores old new (Wrote register value) does = wrote old.port new.port old.memory register value does.0 does.1
hosts_are_cores old new (Flushed dev) does = does.0
hosts_are_cores old new (Gave frame) does = gave_as old.port new.port old.memory frame does.0
hosts_are_cores old new other does = does.1
