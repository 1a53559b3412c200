use Rattle.std.proofs.Common.{◌≡◌}
use Rattle.links_tests.proofs.tests.relay.SenderSide.work.Given as goal

abbrev pub invariant-loop : goal.invariant-loop
invariant-loop g l = l.self.seat.link ≡ l.fn.self.seat.link
