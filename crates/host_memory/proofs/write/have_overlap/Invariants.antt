use Rattle.std.proofs.Common.{◌≡◌, length}
use Rattle.host_memory.specs.Reading.{have_overlap}
use Rattle.host_memory.proofs.write.have_overlap.Given as goal

-- what is left decides
abbrev pub invariant-entries : goal.invariant-entries
invariant-entries l = have_overlap l.left ≡ have_overlap l.prds

abbrev pub decreases-entries : goal.decreases-entries
decreases-entries l = length l.left
