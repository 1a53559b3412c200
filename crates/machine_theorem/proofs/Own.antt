-- What brings bytes for a slot is of the device that owns it.
use Rattle.std.proofs.{Common.{◌≡◌, List, [], ◌∷◌, Option, Some, None, refl, sym, subst, All, Contains}, lemmas.List.Elements.{All-contains, All-nil}}
use Rattle.std.proofs.lemmas.List.Elements.{Contains-append_right, Contains-push}
use Rattle.std.specs.Prelude.{IfSome, slice_index}
use Rattle.fis_view.specs.Frames.{Stamped}
use Rattle.hba_fbs.specs.declared.report.Wrote.{Wrote}
use Rattle.controller_laws.specs.Carrying.{DataIsOwn, IsOwnData}
use Rattle.controller_laws.specs.Events as call
use Rattle.ahci_machine.specs.States.{HasRules, MachineState}
use Rattle.ahci_machine.specs.declared.act.Act.TheVariants as act
use Rattle.machine_laws.specs.{ControllerLaws.RunsRuled, Deeds.{Deed, Moved}, Rising.{Frames, HaveRisen, IsOfDevice, came_by, frames_after}}
use Rattle.machine_laws.specs.Rising.{frames_in, is_reset, no_frames, sent_by}
use Rattle.machine_theorem.specs.{Origins.IsSentIn, Parts.{IsOwn, PartsAreOwn}}
use Rattle.machine_theorem.proofs.{Brought.Laws, IsData.{IsDataOr, brings_data}, Sent.{AllSent, each_sent}, Taken.more_sent}

pub last_ruled : (deeds : List Deed) (old new : MachineState) → RunsRuled old deeds new → HasRules new
last_ruled [] old new run = subst HasRules (sym run.1) run.0
last_ruled (deed ∷ later) old new run = last_ruled later run.1.0 new run.1.2

-- it holds of all that was sent since the link was reset
pub all_in : (Q : Stamped → Type 0) (old : MachineState) (deeds : List Deed) (new : MachineState) (run : RunsRuled old deeds new) (was : Frames)
    → All Q was.sent → AllSent Q old deeds new run → All Q (frames_in was old deeds new run).sent
all_in Q old [] new run was before all = before
all_in Q old (deed ∷ later) new run was before all =
    all_in Q run.1.0 later new run.1.2 (frames_after was old deed run.1.0 run.1.1)
    (more_sent Q (is_reset deed) was (sent_by old deed run.1.0 run.1.1) (came_by old deed run.1.0 run.1.1) before all.0) all.1

both : (o : Option Wrote) (old : MachineState) (deeds : List Deed) (now : MachineState) (run : RunsRuled old deeds now) (new : MachineState) (fis : Stamped)
    → IsDataOr fis.bytes o → IfSome o (IsOwnData now.controller fis.bytes)
    → ((wrote : Wrote) → slice_index fis.bytes 0 ≡ 0x46 → IsOwnData now.controller fis.bytes wrote → IsOwn old deeds now run new.fan fis wrote)
    → IfSome o (IsOwn old deeds now run new.fan fis)
both None old deeds now run new fis type own make = tt
both (Some wrote) old deeds now run new fis type own make = make wrote type own

pub owns : Laws → DataIsOwn → PartsAreOwn
owns laws own ports legacy old opening deeds now run took new does rules =
    let h = does.does in
    let deed : Deed = Moved (act.Takes took) in
    let kept : HasRules now = last_ruled deeds old now run in
    let P : Stamped → Type 0 = λ f. IsSentIn f old deeds now run in
    let Q : Stamped → Type 0 = λ f. slice_index f.bytes 0 ≡ 0x46 → P f in
    let before : Frames = frames_in no_frames old deeds now run in
    let after : Frames = frames_after before now deed new does in
    let risen : HaveRisen now before = laws.rising old deeds now run no_frames (laws.opens_rising ports legacy old opening) in
    let risen_now : HaveRisen new after = laws.rising now (deed ∷ []) new (kept, (new, does, (rules, refl))) before risen in
    let sent : All Q after.sent =
    more_sent Q (is_reset deed) before (sent_by now deed new does) (came_by now deed new does)
    (all_in Q old deeds now run no_frames (All-nil Q) (each_sent laws.disks P old deeds now run (λ f is. is))) (All-nil Q) in
    let has : Contains after.came h.frame = Contains-append_right before.came (h.frame ∷ []) h.frame (Contains-push [] h.frame) in
    let takes : call.Takes now.controller h.frame.bytes took does.middle.controller = record { framed = h.framed; free = h.free; hears = h.hears } in
    both took.brought old deeds now run new h.frame (brings_data now.controller does.middle.controller h.frame.bytes took takes)
    (own now.controller does.middle.controller h.frame.bytes took (record { port = kept.port; slots = kept.slots; rules = kept.rules }) takes)
    (λ wrote type mine.
    let of_device : IsOfDevice new after h.frame = laws.sent new after risen_now h.frame has h.framed type in
    record { sent = All-contains Q after.sent h.frame sent of_device.sent type; port = of_device.port; own = mine })
