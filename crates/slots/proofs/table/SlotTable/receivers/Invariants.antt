use Rattle.std.proofs.Common.{◌≡◌}
use Rattle.std.specs.Option.{is_some}
use Rattle.slots.specs.{Data.payload, Slots.{context_of, mask_below}}
use Rattle.slots.proofs.table.SlotTable.receivers.Given as goal

abbrev pub invariant-loop-dev : goal.invariant-loop-dev
invariant-loop-dev l = l.found ≡ mask_below (λ dev. is_some (payload (context_of l.self dev))) l.dev
