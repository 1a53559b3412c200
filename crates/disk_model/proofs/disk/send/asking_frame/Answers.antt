use Rattle.fis_view.specs.Frames.{Stamped}
use Rattle.std.proofs.lemmas.Result.{IfOk-weaker}
use Rattle.disk_model.proofs.turns.SendLemmas.{leads_activate, leads_ask}
use Rattle.disk_model.proofs.disk.send.asking_frame.Goals as goal

pub returns-then-waiting-eq0-clause-leads : goal.returns-then-waiting-eq0-clause-leads
returns-then-waiting-eq0-clause-leads c =
    let w = c.args.waiting in
    let told = c.at-chunk.ensures in
    IfOk-weaker _ _ _ (λ (f : Stamped) e. leads_ask c.args.plan.now w.command w.left w.gone f.bytes c.at-chunk.result.from c.at-chunk.result.count c.if-waiting-eq0.true told.from told.count e) c.setup_frame.ensures.shows

pub returns-else-waiting-eq0-clause-leads : goal.returns-else-waiting-eq0-clause-leads
returns-else-waiting-eq0-clause-leads c =
    let w = c.args.waiting in
    IfOk-weaker _ _ _ (λ (f : Stamped) e. leads_activate c.args.plan.now w.command w.left w.gone f.bytes c.if-waiting-eq0.false c.requires.more e) c.activate_frame.ensures.shows
