-- The frame whose bytes go to the guest is a Data FIS.
use Rattle.std.proofs.Common.{◌≡◌, ℕ, Bool, true, false, List, [], ◌∷◌, Option, Some, None, not}
use Rattle.std.specs.Prelude.{slice_index}
use Rattle.guest_fetch.specs.{Commands.Fetched, declared.moves.Move.Move}
use Rattle.slots.specs.Slots.{match_some}
use Rattle.hba_fbs.specs.declared.report.Wrote.{Wrote as Brought}
use Rattle.ahci_controller.specs.{Access.fits, States.{ControllerState, kept}, Wide.WritesFitting, declared.access.Width.Width}
use Rattle.ahci_controller.specs.declared.wide.WideWritten.{WideWritten}
use Rattle.controller_laws.specs.Carrying.{Carrying, carrying_after, carrying_by, carrying_of, cut_if, cut_wide, moves_in, moves_said, said_more}
use Rattle.controller_laws.specs.Events.{Event}
use Rattle.controller_laws.specs.Events as call
use Rattle.machine_theorem.proofs.IsData.{IsDataOr, brings_data}

abbrev pub IsDataFis : Option Carrying → Type 0
IsDataFis None = Unit {0}
IsDataFis (Some d) = slice_index d.frame 0 ≡ 0x46

said : (moves : List Move) (o : Option Carrying) → IsDataFis o → IsDataFis (said_more moves o)
said moves None h = tt
said moves (Some d) h = h

cut : (stopped : Bool) (o : Option Carrying) → IsDataFis o → IsDataFis (cut_if stopped o)
cut stopped None h = tt
cut stopped (Some d) h = h

wide : (does_fit : Bool) (offset : ℕ) (width : Width) (value : ℕ) (old new : ControllerState) (w : WideWritten) (h : WritesFitting does_fit old offset width value w new) (o : Option Carrying) → IsDataFis o
    → IsDataFis (cut_wide does_fit old offset width value w new h o)
wide true offset width value old new w h o is = cut (not new.core.registers.started) (cut_if (not h.middle.core.registers.started) o) (cut (not h.middle.core.registers.started) o is)
wide false offset width value old new w h o is = is

of_command : (f : Option Fetched) (frame : List ℕ) (wrote : Brought) → slice_index frame 0 ≡ 0x46 → IsDataFis (match_some f None (λ command. Some (carrying_of frame wrote command)))
of_command None frame wrote type = tt
of_command (Some command) frame wrote type = type

taken : (o : Option Brought) (c : ControllerState) (frame : List ℕ) → IsDataOr frame o → IsDataFis (carrying_by c frame o)
taken None c frame h = tt
taken (Some wrote) c frame h = of_command (kept c wrote.slot) frame wrote h

pub carries_data : (old new : ControllerState) (events : List Event) (run : call.Runs old events new) (was : Option Carrying) → IsDataFis was → IsDataFis (carrying_after was old events new run)
carries_data old new [] run was is = is
carries_data old new (call.Wrote offset value written ∷ events) run was is =
    carries_data run.1.0 new events run.1.2 (cut_if (not run.1.0.core.registers.started) was) (cut (not run.1.0.core.registers.started) was is)
carries_data old new (call.WroteWide offset width value written ∷ events) run was is =
    carries_data run.1.0 new events run.1.2 (cut_wide (fits width offset) old offset width value written run.1.0 run.1.1 was) (wide (fits width offset) offset width value old run.1.0 written run.1.1 was is)
carries_data old new (call.Supplied slot number bytes supply ∷ events) run was is = carries_data run.1.0 new events run.1.2 was is
carries_data old new (call.Missed slot number supply ∷ events) run was is = carries_data run.1.0 new events run.1.2 was is
carries_data old new (call.Took frame took ∷ events) run was is =
    carries_data run.1.0 new events run.1.2 (carrying_by old frame took.brought) (taken took.brought old frame (brings_data old run.1.0 frame took run.1.1))
carries_data old new (call.Left frame why ∷ events) run was is = carries_data run.1.0 new events run.1.2 was is
carries_data old new (call.Turned next ∷ events) run was is = carries_data run.1.0 new events run.1.2 (said_more (moves_in next) was) (said (moves_in next) was is)
carries_data old new (call.Said write ∷ events) run was is = carries_data run.1.0 new events run.1.2 (said_more (moves_said write) was) (said (moves_said write) was is)
carries_data old new (call.Gathered dev number frame fed ∷ events) run was is = carries_data run.1.0 new events run.1.2 was is
carries_data old new (call.NotThere dev number fed ∷ events) run was is = carries_data run.1.0 new events run.1.2 was is
