-- For `ports_go_on`. The host port of a world goes on.
use Rattle.std.proofs.{Common.{◌≡◌, ℕ, All, List, ◌∷◌, Option, Ok, sym, ◌∙◌, subst, inl, inr, arith}, lemmas.Bool.cases_Bool}
use Rattle.fis_view.specs.Frames.{IsFrame, Stamped}
use Rattle.hba_fbs.specs.declared.report.TakeReport.{TakeReport}
use Rattle.multiplier.specs.Arbiter.{control_port}
use Rattle.hba_driver.specs.{Going.IsOfControl, HostTurns.Took, Slot31.{Asks, IsNotice31, MayBe31, MayCome31, Signs, Stage31}}
use Rattle.hba_driver.proofs.Door.{control_in31, goes_on}
use Rattle.pm_world.specs.{Places.{Places, new_world}, Rules.{CameRule, DiskSendRule, DiskTakeRule, GoneRule, InjectRule, PmDownRule}}
use Rattle.pm_world.specs.{Rules.{PmFromDeviceRule, PmPresenceRule, Rule}, declared.step.Step.Step, PortsGoOn.PortsGoOn, Line.{AreNotices, OnLine}}
use Rattle.pm_world.specs.Line.{is_reply}
use Rattle.pm_world.specs.declared.step.Step.TheVariants as step
use Rattle.pm_world.specs.declared.step.Answer.TheVariants as answer
use Rattle.pm_world.proofs.{upward.PortMarks.HasPortMark, steps.Steps.{at_both, at_device}, control_port.LineLemmas.{IsNow, opening_now, run_now}}
use Rattle.pm_world.proofs.control_port.ListLemmas.{IsAwaited, line_reply}

-- ---- the next FIS

notice_comes : (stage : Stage31) (bytes : List ℕ) → IsNotice31 bytes → MayCome31 stage bytes
notice_comes Signs bytes is = inl is
notice_comes Asks bytes is = inl is
notice_comes other bytes is = is

awaited_comes : (stage : Stage31) (f : Stamped) → IsAwaited stage f → MayCome31 stage f.bytes
awaited_comes Signs f is = inr is
awaited_comes Asks f is = inr is
awaited_comes other f is = absurd is

may_come : (stage : Stage31) (down : List Stamped) (waits : Option Stamped) (f : Stamped) (up : List Stamped) (report : TakeReport) → IsFrame f.bytes → HasPortMark f
    → OnLine stage down waits (f ∷ up) → AreNotices (f ∷ up) → MayBe31 stage (Took f.bytes report)
may_come stage down waits f up report framed risen line notices at_port = elim (cases_Bool (is_reply f)) [
  | inr plain ↦ notice_comes stage f.bytes (notices.0 own plain)
  | inl reply ↦ awaited_comes stage f (line_reply stage down up waits f reply line).0
]
  where
    own : f.stamp.port ≡ control_port
    own = sym (risen.pm_port framed) ∙ at_port

took_control : (now : Places) → IsNow now → (port conn number : ℕ) (bytes : List ℕ) (report : TakeReport) (new : Places)
    → Rule now step.HostTake (Ok (answer.Took port conn number bytes report)) new → IsOfControl bytes
took_control now n port conn number bytes report new rule =
    let frame : Stamped = rule.0.0.0 in
    let first : now.upward.frames ≡ rule.0.0.0 ∷ new.upward.frames = rule.0.0.1 in
    let same : frame.bytes ≡ bytes = rule.0.0.2.bytes_are in
    let framed : IsFrame frame.bytes = subst IsFrame (sym same) rule.0.2.framed in
    let risen : HasPortMark frame = (subst (λ (frames : List Stamped). All HasPortMark frames) first n.risen.frames) 0 frame (omega arith) in
    let may : MayBe31 n.stage (Took frame.bytes report) =
    may_come n.stage now.downward.frames now.multiplier.answer frame new.upward.frames report framed risen
    (subst (λ (frames : List Stamped). OnLine n.stage now.downward.frames now.multiplier.answer frames) first n.is.line)
    (subst AreNotices first n.is.notices) in
    subst IsOfControl same (control_in31 n.stage (Took frame.bytes report) may)

of_control : (now : Places) → IsNow now → (s : Step) (port conn number : ℕ) (bytes : List ℕ) (report : TakeReport) (new : Places)
    → Rule now s (Ok (answer.Took port conn number bytes report)) new → IsOfControl bytes
of_control now n step.HostTake port conn number bytes report new rule = took_control now n port conn number bytes report new rule
of_control now n (step.Came m) port conn number bytes report new rule =
    absurd (at_device now m (answer.Took port conn number bytes report) new (CameRule m) rule).rule.1
of_control now n (step.Gone m) port conn number bytes report new rule =
    absurd (at_device now m (answer.Took port conn number bytes report) new (GoneRule m) rule).rule.1
of_control now n (step.DiskSend m) port conn number bytes report new rule =
    absurd (at_device now m (answer.Took port conn number bytes report) new (DiskSendRule m) rule).rule.1
of_control now n (step.Inject m given) port conn number bytes report new rule =
    absurd (at_device now m (answer.Took port conn number bytes report) new (InjectRule m given) rule).rule.1
of_control now n (step.DiskTake m) port conn number bytes report new rule =
    absurd (at_device now m (answer.Took port conn number bytes report) new (DiskTakeRule m) rule).rule
of_control now n (step.PmPresence m) port conn number bytes report new rule =
    absurd (at_both now m (answer.Took port conn number bytes report) new (PmPresenceRule m) rule).rule
of_control now n (step.PmFromDevice m) port conn number bytes report new rule =
    absurd (at_both now m (answer.Took port conn number bytes report) new (PmFromDeviceRule m) rule).rule
of_control now n (step.PmDown m) port conn number bytes report new rule =
    absurd (at_both now m (answer.Took port conn number bytes report) new (PmDownRule m) rule).rule
of_control now n other port conn number bytes report new rule = absurd rule.0

-- ---- the law

pub ports_go_on : PortsGoOn
ports_go_on config units right steps answers now run =
    let n : IsNow now = run_now (new_world config units) steps answers now (opening_now units config right) run in
    record { goes = goes_on now.host n.going; control = of_control now n }
