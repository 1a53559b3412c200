-- A Register FIS with an error completes no command, and a disk that says that a command failed sends such a one.
use Rattle.std.proofs.Common.{◌≡◌, ◌⊎◌, ℕ, ◌+◌, ◌*◌, ◌/◌, ◌%◌, ◌^◌, Bool, true, false, List, drop, length, Option, Some, None, refl, sym, ap, subst}
use Rattle.std.proofs.Common.{◌∙◌, inl, inr, arith}
use Rattle.std.specs.Prelude.{if◌then◌else◌, slice_index, Result, Ok, Err}
use Rattle.fis_view.specs.{Built.cut, Frames.{Stamped, marked}, Seen.{kind_of, kind_of_type, may_have, seen, view_as}, Table.{D2h, Kind, Status}}
use Rattle.fis_view.specs.{Table.{field, places, spelled}, declared.view.{Fis.Fis, FisFault.{FisFault, TheVariants.WrongLength}}}
use Rattle.fis_view.specs.Table as table
use Rattle.fis_view.specs.declared.view.Fis.TheVariants as view
use Rattle.port_errors.specs.declared.cause.DeviceCause.TheVariants as cause
use Rattle.slots.specs.{Commands.answer_of, Slots.DeviceSlots}
use Rattle.hba_fbs.specs.{Deciding.{decided, heard_within}, Hearing.{answered, faulty, heard_fis, heard_register, quietly}, Status.after_reset}
use Rattle.hba_fbs.specs.{Status.{is_busy, is_error, with_file}, Taking.{admitted, ignores, port_of}, Views.{DeviceView, Port, view_of}}
use Rattle.hba_fbs.specs.declared.{hearing.{Happening.Happening, Heard.Heard}, room.Room.{Room, TheVariants.{Bytes, NoTable, Whole}}}
use Rattle.hba_fbs.specs.declared.state.DeviceState.{DeviceState}
use Rattle.hba_fbs.specs.declared.hearing.Happening.TheVariants as happening
use Rattle.hba_laws.specs.{CoreHistories.event_by, Delivering.{event_heard, event_of}, History.Event}
use Rattle.fan_out.specs.declared.fan_out.FanOut.{FanOut, TheVariants.{Device, Multiplier}}
use Rattle.ata_reply.specs.{Replies.Shows, declared.reply.Reply.Reply}
use Rattle.ata_reply.specs.declared.reply.Reply.TheVariants as replies
use Rattle.sata_disk.specs.declared.out.Out.{Out}
use Rattle.sata_disk.specs.declared.out.Out.TheVariants as out
use Rattle.ahci_machine.specs.States.{MachineState}
use Rattle.ahci_machine.specs.declared.act.Act.TheVariants as act
use Rattle.machine_laws.specs.{Deeds.{Does, Moved}, Rising.risen}
use Rattle.machine_theorem.specs.Transfers.{fails, fails_by}
use Rattle.machine_theorem.proofs.{EndSent.{cut_run, seen_kind, set_kept}, Sent.type_is}

-- ---- what the controller makes of it

register_nothing : (own : DeviceSlots) (state : DeviceState) (status error : ℕ) → is_error status ≡ true → (heard_register own state status error).happening ≡ happening.Nothing
register_nothing own state status error is = by state.resetting (is_error status) (is_busy status) is
  where
    by : (r e b : Bool) → e ≡ true
        → (if r then quietly (after_reset state status error) happening.Nothing
        else (if e then faulty (with_file state status error) cause.TaskFile
        else (if b then quietly (with_file state status error) happening.Nothing else answered (answer_of own) (with_file state status error)))).happening ≡ happening.Nothing
    by true e b is = refl
    by false true b is = refl
    by false false b is = absurd (cc)

fis_nothing : (own : DeviceSlots) (state : DeviceState) (sound : Bool) (f : List ℕ) → is_error (field D2h Status f) ≡ true → (heard_fis own state sound (view.RegD2H f)).happening ≡ happening.Nothing
unfolding heard_fis
fis_nothing own state sound f is = register_nothing own state (field D2h Status f) (field D2h table.Error f) is

decided_nothing : (dev : ℕ) (v : DeviceView) (room : Room) (f : List ℕ) → is_error (field D2h Status f) ≡ true → (decided dev v room (Some (view.RegD2H f))).happening ≡ happening.Nothing
unfolding heard_within
decided_nothing dev v NoTable f is = fis_nothing v.slots v.state false f is
decided_nothing dev v (Bytes total) f is = fis_nothing v.slots v.state true f is
decided_nothing dev v Whole f is = fis_nothing v.slots v.state true f is

seen_register : (f : List ℕ) → kind_of f ≡ D2h → (seen f ≡ Ok (view.RegD2H f)) ⊎ (seen f ≡ Err WrongLength)
unfolding seen
seen_register f kind =
    subst (λ (k : Kind). ((if may_have k (length f) then Ok (view_as k f) else Err WrongLength) ≡ Ok (view.RegD2H f)) ⊎ ((if may_have k (length f) then Ok (view_as k f) else Err WrongLength) ≡ Err WrongLength))
    (sym kind) (by (may_have D2h (length f)))
  where
    by : (b : Bool) → ((if b then Ok (view.RegD2H f) else Err WrongLength) ≡ Ok (view.RegD2H f)) ⊎ ((if b then Ok (view.RegD2H f) else Err WrongLength) ≡ Err WrongLength)
    by true = inl refl
    by false = inr refl

if_none : (b : Bool) (o : Option Event) → o ≡ None → (if b then None else o) ≡ None
if_none true o none = refl
if_none false o none = none

nothing_none : (h : Heard) (bytes : List ℕ) → h.happening ≡ happening.Nothing → event_heard h bytes ≡ None
nothing_none h bytes is = ap (λ (x : Happening). event_of x h.state.block bytes) is

pub error_none : (port : Port) (room : Room) (f : List ℕ) → kind_of f ≡ D2h → is_error (field D2h Status f) ≡ true → event_by port room f ≡ None
error_none port room f kind is =
    let dev : ℕ = port_of f in
    let v : DeviceView = view_of dev port in
    if_none (ignores dev port f) (event_heard (decided dev v room (admitted dev (seen f))) (drop 4 f))
    (nothing_none (decided dev v room (admitted dev (seen f))) (drop 4 f)
    (elim (seen_register f kind) [
      | inl ok ↦ ap (λ (r : Result Fis FisFault). (decided dev v room (admitted dev r)).happening) ok ∙ decided_nothing dev v room f is
      | inr wrong ↦ ap (λ (r : Result Fis FisFault). (decided dev v room (admitted dev r)).happening) wrong
    ]))

-- ---- what a disk sends

status_kept : (f : List ℕ) (port : ℕ) → field D2h Status (marked f port) ≡ field D2h Status f
unfolding field places spelled
status_kept f port = ap (λ (x : ℕ). x + 2 ^ 8 * 0) (set_kept f (slice_index f 1 / 16 * 16 + port) 16 8 (omega arith))

risen_status : (f : FanOut) (n : ℕ) (frame : Stamped) → field D2h Status (risen f n frame).bytes ≡ field D2h Status frame.bytes
risen_status (Device s) n frame = status_kept frame.bytes s.asked
risen_status (Multiplier f) n frame = status_kept frame.bytes n

cut_status : (x : ℕ) → cut (places D2h Status) x ≡ x % 2 ^ 8
unfolding places
cut_status x = cut_run 2 0 8 x

pub record IsErrorFis (f : List ℕ) : Type 0 where
  pub kind : kind_of f ≡ D2h
  pub error : is_error (field D2h Status f) ≡ true

pub failed_fis : (f : FanOut) (n : ℕ) (frame : Stamped) (r : Reply) → fails_by r ≡ true → Shows r frame.bytes → IsErrorFis (risen f n frame).bytes
failed_fis f n frame (replies.Failed x) is shows = record {
  kind = ap kind_of_type (type_is f n frame) ∙ seen_kind frame.bytes (view.RegD2H frame.bytes) shows.viewed;
  error = ap is_error (risen_status f n frame ∙ shows.fields Status ∙ cut_status 0x51);
}
failed_fis f n frame other is shows = absurd (cc)

pub fails_with : (old : MachineState) (k : ℕ) (o : Out) (new : MachineState) (does : Does old (Moved (act.Speaks k o)) new) → fails o ≡ true
    → IsErrorFis (risen old.fan k does.does.does.1.frame).bytes
fails_with old k (out.Own r) new does is = let h = does.does.does.1 in failed_fis old.fan k h.frame r is h.bytes
fails_with old k (out.Of p r) new does is = let h = does.does.does.1 in failed_fis old.fan k h.frame r is h.bytes
fails_with old k other new does is = absurd (cc)
