use Rattle.std.proofs.Common.{ap, sym}
use Rattle.std.specs.Prelude.{map}
use Rattle.disk_thread.specs.declared.worker.DiskEnd.{DiskEnd}
use Rattle.pm_threads.proofs.Ends.{same_arrive}
use Rattle.pm_threads.proofs.closing.close_unfinished.Goals as goal

pub returns-clause-arrives : goal.returns-clause-arrives
returns-clause-arrives g c =
    same_arrive _ _ _ _ (ap (map (λ (e : DiskEnd g.row.D.Denot). e.station)) c.into_parts-disks.ensures.disks)
    c.into_parts-disks.ensures.host c.met.ensures.arrives

pub returns-clause-order : goal.returns-clause-order
returns-clause-order g c = rw (sym c.into_parts-disks.ensures.host) c.met.ensures.order

pub returns-clause-counts : goal.returns-clause-counts
returns-clause-counts g c =
    rw (sym c.into_parts-disks.ensures.disks, sym c.into_parts-disks.ensures.host) c.met.ensures.counts

pub returns-clause-plan : goal.returns-clause-plan
returns-clause-plan g c = rw (sym c.into_parts-disks.ensures.host) c.met.ensures.plan

pub returns-clause-states : goal.returns-clause-states
returns-clause-states g c = rw (sym c.into_parts-disks.ensures.host) c.met.ensures.states

pub returns-clause-memory : goal.returns-clause-memory
returns-clause-memory g c = rw (sym c.into_parts-disks.ensures.host) c.met.ensures.memory

pub returns-clause-units : goal.returns-clause-units
returns-clause-units g c = rw (sym c.into_parts-disks.ensures.disks) c.met.ensures.units

pub returns-clause-made : goal.returns-clause-made
returns-clause-made g c = rw (sym c.into_parts-disks.ensures.host) c.met.ensures.made
