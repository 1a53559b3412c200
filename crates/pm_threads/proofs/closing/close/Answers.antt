use Rattle.std.proofs.Common.{sym}
use Rattle.pm_threads.proofs.Ends.{same_arrive}
use Rattle.pm_threads.proofs.closing.close.Goals as goal

pub returns-in_err-counts-clause-arrives : goal.returns-in_err-counts-clause-arrives
returns-in_err-counts-clause-arrives g c =
    same_arrive _ _ _ _ c.into_parts-disks.ensures.disks c.into_parts-disks.ensures.host c.met.ensures.arrives

pub returns-in_err-results-clause-arrives : goal.returns-in_err-results-clause-arrives
returns-in_err-results-clause-arrives g c =
    same_arrive _ _ _ _ c.into_parts-disks.ensures.disks c.into_parts-disks.ensures.host c.met.ensures.arrives

pub returns-clause-arrives : goal.returns-clause-arrives
returns-clause-arrives g c =
    same_arrive _ _ _ _ c.into_parts-disks.ensures.disks c.into_parts-disks.ensures.host c.met.ensures.arrives

pub returns-clause-made : goal.returns-clause-made
returns-clause-made g c = rw (sym c.into_parts-disks.ensures.host) c.in_ok-counts.ensures.made

pub returns-in_err-counts-clause-order : goal.returns-in_err-counts-clause-order
returns-in_err-counts-clause-order g c = rw (sym c.into_parts-disks.ensures.host) c.met.ensures.order

pub returns-in_err-results-clause-order : goal.returns-in_err-results-clause-order
returns-in_err-results-clause-order g c = rw (sym c.into_parts-disks.ensures.host) c.met.ensures.order

pub returns-clause-order : goal.returns-clause-order
returns-clause-order g c = rw (sym c.into_parts-disks.ensures.host) c.met.ensures.order
