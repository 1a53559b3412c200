-- A FIS that is ignored changes nothing, so it is the same before it and after it why.
use Rattle.std.proofs.{Common.{◌≡◌, ℕ, Bool, true, false, List, Option, Some, None, ap, refl, sym, ◌∙◌}, lemmas.Bool.{false≢true}}
use Rattle.fis_view.specs.Seen.{seen}
use Rattle.hba_fbs.specs.{Deciding.{Decides, Passes}, Greeting.Greets, Taking.{admitted, heard_report, ignores, port_of}, Views.Port}
use Rattle.hba_fbs.specs.declared.{hearing.Heard.Heard, report.TakeReport.TakeReport, room.Room.Room}
use Rattle.rx_area.specs.declared.area.Posted.{Posted}
use Rattle.ahci_controller.specs.Taking.{why_ignored}

-- a report of a FIS that was heard says so
says_heard : (dev : ℕ) (at : Posted) (h : Heard) (report : TakeReport) → report ≡ heard_report dev at h → report.ignored ≡ false
unfolding heard_report
says_heard dev at h report is = ap (λ (r : TakeReport). r.ignored) is

not_both : (dev : ℕ) (at : Posted) (h : Heard) (report : TakeReport) → report ≡ heard_report dev at h → report.ignored ≡ true → ⊥
not_both dev at h report is ignored = false≢true (sym (says_heard dev at h report is) ∙ ignored)

-- the reason is that of the port before it, if it is still the same
same_if : (b : Bool) (old new : Port) (frame : List ℕ) → (b ≡ true → new ≡ old) → why_ignored new frame b ≡ why_ignored old frame b
same_if true old new frame still = ap (λ (port : Port). why_ignored port frame true) (still refl)
same_if false old new frame still = refl

greeted_stays : (old new : Port) (dev : ℕ) (f : Option (List ℕ)) (report : TakeReport) → Greets old dev f report new → report.ignored ≡ true → new ≡ old
greeted_stays old new dev None report greets ignored = greets.port
greeted_stays old new dev (Some f) report greets ignored = absurd (not_both _ _ _ report greets.reports ignored)

pub greeted_why : (old new : Port) (frame : List ℕ) (dev : ℕ) (f : Option (List ℕ)) (report : TakeReport) → Greets old dev f report new → why_ignored new frame report.ignored ≡ why_ignored old frame report.ignored
greeted_why old new frame dev f report greets = same_if report.ignored old new frame (greeted_stays old new dev f report greets)

taken_stays : (old new : Port) (frame : List ℕ) (room : Room) (report : TakeReport) (b : Bool) → ignores (port_of frame) old frame ≡ b → (ignores (port_of frame) old frame ≡ true → Passes (port_of frame) old report new) → (ignores (port_of frame) old frame ≡ false → Decides old (port_of frame) room (admitted (port_of frame) (seen frame)) report new) → report.ignored ≡ true → new ≡ old
taken_stays old new frame room report true e passes decides ignored = (passes e).port
taken_stays old new frame room report false e passes decides ignored = absurd (not_both _ _ _ report (decides e).reports ignored)

pub taken_why : (old new : Port) (frame : List ℕ) (room : Room) (report : TakeReport) → (ignores (port_of frame) old frame ≡ true → Passes (port_of frame) old report new) → (ignores (port_of frame) old frame ≡ false → Decides old (port_of frame) room (admitted (port_of frame) (seen frame)) report new) → why_ignored new frame report.ignored ≡ why_ignored old frame report.ignored
taken_why old new frame room report passes decides = same_if report.ignored old new frame (taken_stays old new frame room report (ignores (port_of frame) old frame) refl passes decides)
