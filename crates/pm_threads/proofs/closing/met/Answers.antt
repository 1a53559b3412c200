use Rattle.std.proofs.Common.{rules}
use Rattle.std.specs.{Prelude.map, List.AllZip}
use Rattle.disk_thread.specs.declared.worker.DiskEnd.{DiskEnd}
use Rattle.ruled_links.specs.Lists.{IsPrefixOf}
use Rattle.hba_driver.specs.{declared.mode.Mode.TheVariants.Switching, Delivered.HasCome}
use Rattle.hba_driver.proofs.Door.{turns_deliver}
use Rattle.host_thread.proofs.Dones.{run_done}
use Rattle.pm_thread.specs.Passing.{Passes}
use Rattle.pm_threads.specs.Seats.{Handed}
use Rattle.thread_counts.specs.Rows.{AreCounted}
use Rattle.pm_threads.proofs.{Fewer.none_above, Ends.{all_arrive, link_prefix}}
use Rattle.pm_threads.proofs.closing.met.Goals as goal

pub returns-clause-arrives : goal.returns-clause-arrives
returns-clause-arrives g c =
    let handed : AllZip Handed (map (λ (e : DiskEnd g.row.D.Denot). e.station) c.args.disks.items) c.args.pm.ports = search rules in
    let passes : Passes c.args.pm = search rules in
    let met : IsPrefixOf c.args.host.frames.taken c.args.pm.host.sent = search (rules, link_prefix) in
    all_arrive (map (λ (e : DiskEnd g.row.D.Denot). e.station) c.args.disks.items) c.args.pm.ports c.args.pm.host.sent c.args.host.frames.taken handed passes.begun met

pub returns-in_err-counts-clause-arrives : goal.returns-in_err-counts-clause-arrives
returns-in_err-counts-clause-arrives g c =
    let handed : AllZip Handed (map (λ (e : DiskEnd g.row.D.Denot). e.station) c.args.disks.items) c.args.pm.ports = search rules in
    let passes : Passes c.args.pm = search rules in
    let met : IsPrefixOf c.args.host.frames.taken c.args.pm.host.sent = search (rules, link_prefix) in
    all_arrive (map (λ (e : DiskEnd g.row.D.Denot). e.station) c.args.disks.items) c.args.pm.ports c.args.pm.host.sent c.args.host.frames.taken handed passes.begun met

pub returns-in_err-units-clause-arrives : goal.returns-in_err-units-clause-arrives
returns-in_err-units-clause-arrives g c =
    let handed : AllZip Handed (map (λ (e : DiskEnd g.row.D.Denot). e.station) c.args.disks.items) c.args.pm.ports = search rules in
    let passes : Passes c.args.pm = search rules in
    let met : IsPrefixOf c.args.host.frames.taken c.args.pm.host.sent = search (rules, link_prefix) in
    all_arrive (map (λ (e : DiskEnd g.row.D.Denot). e.station) c.args.disks.items) c.args.pm.ports c.args.pm.host.sent c.args.host.frames.taken handed passes.begun met

pub returns-clause-fewer : goal.returns-clause-fewer
returns-clause-fewer g c =
    let handed : AllZip Handed (map (λ (e : DiskEnd g.row.D.Denot). e.station) c.args.disks.items) c.args.pm.ports = search rules in
    let passes : Passes c.args.pm = search rules in
    let met : IsPrefixOf c.args.host.frames.taken c.args.pm.host.sent = search (rules, link_prefix) in
    let counted : AreCounted c.in_ok-counts.field-0.items (map (λ (e : DiskEnd g.row.D.Denot). e.station) c.args.disks.items) c.args.host.frames.taken = search rules in
    none_above (map (λ (e : DiskEnd g.row.D.Denot). e.station) c.args.disks.items) c.args.host.frames.taken c.in_ok-counts.field-0.items c.requires.few counted
    (all_arrive (map (λ (e : DiskEnd g.row.D.Denot). e.station) c.args.disks.items) c.args.pm.ports c.args.pm.host.sent c.args.host.frames.taken handed passes.begun met)

pub returns-clause-made : goal.returns-clause-made
returns-clause-made g c start run =
    let come : HasCome Switching 0 start run.turns c.args.host.host = turns_deliver.comes Switching 0 start run.right run.turns c.args.host.host run.does in
    record {
      turns = run.turns;
      host = c.args.host.host;
      does = run.does;
      puts = run.puts;
      taken = run.taken;
      memory_is = search rules;
      come = come;
      delivers = turns_deliver.delivers Switching 0 start run.right run.turns c.args.host.host come;
      done = run_done start c.args.host run;
    }
