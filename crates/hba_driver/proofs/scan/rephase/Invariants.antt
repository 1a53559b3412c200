use Rattle.std.proofs.Common.{None}
use Rattle.hba_fbs.specs.Between.{FilledTo}
use Rattle.hba_driver.specs.Ticks.{is_in}
use Rattle.hba_driver.proofs.calls.ScanLemmas.{rephase_at}
use Rattle.hba_driver.proofs.scan.rephase.Given as goal

-- the slots so far are looked at
abbrev pub invariant-loop-slot : goal.invariant-loop-slot
invariant-loop-slot l = FilledTo l.slot (rephase_at (is_in l.group) l.phase l.initial.slots) None l.initial.slots l.slots
