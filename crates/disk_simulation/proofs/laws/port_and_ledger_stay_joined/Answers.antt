use Rattle.disk_simulation.proofs.joined.{IssueJoins.{joins_issues, stays_joined}, JoinLemmas.joins_frames}
use Rattle.disk_simulation.proofs.joined.OrderJoins.{joins_commands, joins_data, joins_others}
use Rattle.disk_simulation.proofs.laws.port_and_ledger_stay_joined.Goals as goal

pub returns-clause-frames : goal.returns-clause-frames
returns-clause-frames c = joins_frames

pub returns-clause-commands : goal.returns-clause-commands
returns-clause-commands c = joins_commands

pub returns-clause-data : goal.returns-clause-data
returns-clause-data c = joins_data

pub returns-clause-issues : goal.returns-clause-issues
returns-clause-issues c = joins_issues

pub returns-clause-stays : goal.returns-clause-stays
returns-clause-stays c = stays_joined

pub returns-clause-others : goal.returns-clause-others
returns-clause-others c = joins_others
