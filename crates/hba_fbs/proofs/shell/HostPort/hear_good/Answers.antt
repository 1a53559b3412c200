use Rattle.std.proofs.Common.{Option, Some, drop, subst, ap, ◌∙◌}
use Rattle.fis_view.specs.Seen.{frame_of}
use Rattle.hba_fbs.specs.{declared.{hearing.Heard.Heard, report.Wrote.Wrote}, Tables.{Delivers, is_sound}, Posting.posted, Taking.errors_in}
use Rattle.hba_fbs.specs.{Taking.{heard_report, place_in, row_for, settled, view_after_hearing, wrote_by}, Views.{DeviceView, view_of}}
use Rattle.hba_fbs.proofs.CoreLemmas.{decided_if, reported_wrote}
use Rattle.hba_fbs.proofs.shell.HostPort.hear_good.Goals as goal

pub returns-clause-own : goal.returns-clause-own
returns-clause-own c =
    let v : DeviceView = view_of c.args.dev c.args.self.now in
    c.hear_over-report.ensures.decides.own ∙ ap (view_after_hearing v) (decided_if c.args.dev v (is_sound c.args.memory.now c.args.self.now.commands v.slots) (Some c.args.fis.now))

pub returns-clause-reports : goal.returns-clause-reports
returns-clause-reports c =
    let v : DeviceView = view_of c.args.dev c.args.self.now in
    c.hear_over-report.ensures.decides.reports
    ∙ ap (heard_report c.args.dev (place_in (row_for c.args.self.now c.args.dev) (Some c.args.fis.now))) (decided_if c.args.dev v (is_sound c.args.memory.now c.args.self.now.commands v.slots) (Some c.args.fis.now))

pub returns-clause-registers : goal.returns-clause-registers
returns-clause-registers c =
    let v : DeviceView = view_of c.args.dev c.args.self.now in
    c.hear_over-report.ensures.decides.registers
    ∙ ap (settled (posted c.args.self.now.registers c.args.dev v.state.resetting c.args.fis.now)) (decided_if c.args.dev v (is_sound c.args.memory.now c.args.self.now.commands v.slots) (Some c.args.fis.now))

pub returns-clause-errors : goal.returns-clause-errors
returns-clause-errors c =
    let v : DeviceView = view_of c.args.dev c.args.self.now in
    c.hear_over-report.ensures.decides.errors
    ∙ ap (λ (h : Heard). errors_in c.args.self.now.registers.switching c.args.self.now.errors c.args.dev h.fault) (decided_if c.args.dev v (is_sound c.args.memory.now c.args.self.now.commands v.slots) (Some c.args.fis.now))

pub returns-clause-client : goal.returns-clause-client
returns-clause-client c =
    let v : DeviceView = view_of c.args.dev c.args.self.now in
    rw c.keep_due.ensures (rw c.post_in.ensures.client
    (subst (λ (o : Option Wrote). Delivers c.args.memory.now c.args.self.now.commands (drop 4 (frame_of c.args.fis.now)) o c.hear_over-report.new.memory.client)
    (reported_wrote _ _ _ _ c.hear_over-report.ensures.decides.reports ∙ ap (λ (h : Heard). wrote_by h.happening) (decided_if c.args.dev v (is_sound c.args.memory.now c.args.self.now.commands v.slots) (Some c.args.fis.now)))
    c.hear_over-report.ensures.client))
