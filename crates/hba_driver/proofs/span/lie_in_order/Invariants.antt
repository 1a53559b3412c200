use Rattle.std.proofs.Common.{◌≡◌, drop}
use Rattle.host_memory.specs.Reading.{lie_in_order}
use Rattle.hba_driver.proofs.span.lie_in_order.Given as goal

-- what is left decides
abbrev pub invariant-loop-prd : goal.invariant-loop-prd
invariant-loop-prd l = lie_in_order l.end (drop l.prd-index l.prds) ≡ lie_in_order 0 l.prds
