use Rattle.std.proofs.Common.{◌≡◌}
use Rattle.std.specs.Prelude.{replicate}
use Rattle.pm_threads.specs.Links.{new_device}
use Rattle.pm_threads.proofs.links.Links.new.Given as goal

abbrev pub invariant-loop : goal.invariant-loop
invariant-loop l = l.devices.items ≡ replicate l.counter (new_device l.capacity)
