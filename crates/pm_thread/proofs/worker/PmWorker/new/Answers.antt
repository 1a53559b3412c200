use Rattle.std.proofs.Common.{rules, ◌≡◌, length, refl}
use Rattle.multiplier.specs.State.{opening}
use Rattle.link_items.specs.Beginnings.{device_starts}
use Rattle.pm_thread.proofs.Steps.{begins}
use Rattle.pm_thread.proofs.worker.PmWorker.new.Goals as goal

pub invariant_of-result : goal.invariant_of-result
invariant_of-result c =
    let new : c.new.result ≡ opening (length c.args.ports.items) = search rules in
    begins _ c.requires.some c.requires.at_most new c.requires.unused c.requires.up c.requires.down refl device_starts
