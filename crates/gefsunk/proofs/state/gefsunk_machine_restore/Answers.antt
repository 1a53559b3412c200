use Rattle.std.proofs.Common.{◌≡◌, ◌∙◌}
use Rattle.gefsunk.proofs.RestoreLemmas.{stays_closed}
use Rattle.gefsunk.specs.{Savings.state_fault, Statuses.status_of}
use Rattle.gefsunk.proofs.state.gefsunk_machine_restore.Goals as goal

pub returns-in-Err-clause-made : goal.returns-in-Err-clause-made
returns-in-Err-clause-made c =
    let said : status_of c.code-in-Err.result ≡ state_fault c.in-Err.fault = c.code-in-Err.ensures.means ∙ c.fault_status.ensures in
    stays_closed c.args.bytes.now c.in-Err.fault c.args.handle.now.held.value c.take.new.self.held.value (status_of c.code-in-Err.result)
    c.in-Err.ensures c.in_default.ensures.taken c.take.ensures.closed said
