use Rattle.disk_simulation.proofs.{anew.HostedLemmas.hosted_is_kept, joined.{MarkedLemmas.marks_tell_nothing, SizeLemmas.next_short}}
use Rattle.disk_simulation.proofs.laws.hosts_are_careful.Goals as goal

pub returns-clause-kept : goal.returns-clause-kept
returns-clause-kept c = hosted_is_kept

pub returns-clause-short : goal.returns-clause-short
returns-clause-short c = next_short

pub returns-clause-marks : goal.returns-clause-marks
returns-clause-marks c = marks_tell_nothing
