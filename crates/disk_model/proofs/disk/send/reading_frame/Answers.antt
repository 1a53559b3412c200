use Rattle.std.proofs.{Common.{◌+◌, refl}, lemmas.Result.{IfOk-weaker}}
use Rattle.fis_view.specs.Frames.{Stamped}
use Rattle.disk_model.proofs.turns.SendLemmas.{leads_setup, leads_data, slice_of_sectors}
use Rattle.disk_model.proofs.disk.send.reading_frame.Goals as goal

pub returns-then-reading-clause-leads : goal.returns-then-reading-clause-leads
returns-then-reading-clause-leads c =
    let r = c.args.reading in
    let p = c.at-chunk.result in
    let told = c.at-chunk.ensures in
    IfOk-weaker _ _ _ (λ (f : Stamped) e. leads_data c.args.plan.now c.args.medium.now r r.set_up f.bytes _ p.from p.count c.requires.transfer.0 c.if-reading.true told.from told.count (slice_of_sectors c.args.medium.now _ _ (r.command.lba + p.from) p.count refl refl) e) c.data_frame.ensures.shows

pub returns-else-reading-clause-leads : goal.returns-else-reading-clause-leads
returns-else-reading-clause-leads c =
    let r = c.args.reading in
    let p = c.at-chunk.result in
    let told = c.at-chunk.ensures in
    IfOk-weaker _ _ _ (λ (f : Stamped) e. leads_setup c.args.plan.now c.args.medium.now r r.set_up f.bytes p.from p.count c.requires.transfer.0 c.if-reading.false told.from told.count e) c.setup_frame.ensures.shows
