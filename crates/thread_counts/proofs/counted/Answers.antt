use Rattle.std.proofs.{Common.{rules, ◌≡◌, ◌<◌, length, get_or, sym, ap, ◌∙◌, subst, arith}, lemmas.List.{length-map}}
use Rattle.std.specs.Prelude.{map}
use Rattle.disk_thread.specs.declared.worker.DiskEnd.{DiskEnd}
use Rattle.thread_counts.specs.Rows.{CountsAt}
use Rattle.thread_counts.proofs.RowLemmas.{UpTo, all_counted, map_at, up_to_more}
use Rattle.thread_counts.proofs.counted.Goals as goal

pub loop-port-preserved : goal.loop-port-preserved
loop-port-preserved g c =
    let disks = c.args.disks.now in
    let end = c.index-disks-from.result in
    let lt : c.loop-port.port < length c.args.disks.now = search rules in
    let item : get_or c.args.disks.now c.loop-port.port c.index-disks-from.result ≡ c.index-disks-from.result = search rules in
    let counts : CountsAt c.loop-port.rows.items c.loop-port.port c.index-disks-from.result.station c.args.host.now.frames.taken c.count_at.new.rows.items = search rules in
    let long = length-map disks (λ (e : DiskEnd g.row.D.Denot). e.station) in
    up_to_more (map (λ (e : DiskEnd g.row.D.Denot). e.station) disks) c.args.host.now.frames.taken c.loop-port.port end.station end.station c.loop-port.rows.items
    c.count_at.new.rows.items (omega (arith, lt, long)) (map_at (λ (e : DiskEnd g.row.D.Denot). e.station) disks c.loop-port.port end lt ∙ ap (λ (e : DiskEnd g.row.D.Denot). e.station) item)
    counts c.loop-port.invariant

pub returns : goal.returns
returns g c =
    let disks = c.args.disks.now in
    let all : c.loop-port.port ≡ length c.args.disks.now = search rules in
    let long = length-map disks (λ (e : DiskEnd g.row.D.Denot). e.station) in
    all_counted (map (λ (e : DiskEnd g.row.D.Denot). e.station) disks) c.args.host.now.frames.taken c.loop-port.rows.items
    (subst (λ k. UpTo (map (λ (e : DiskEnd g.row.D.Denot). e.station) disks) c.args.host.now.frames.taken k c.loop-port.rows.items) (all ∙ sym long) c.loop-port.invariant)
