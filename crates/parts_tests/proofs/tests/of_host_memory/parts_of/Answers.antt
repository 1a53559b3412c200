use Rattle.std.proofs.Common.{sym, ◌∙◌}
use Rattle.parts_tests.proofs.tests.of_host_memory.parts_of.Goals as goal

pub parts-part-items-requires-clause-client : goal.parts-part-items-requires-clause-client
parts-part-items-requires-clause-client c = c.in_ok-table.ensures.client_len ∙ sym c.if-client-ne1048576.false
