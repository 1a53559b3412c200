use Rattle.disk_recovery.proofs.honest.TurnLemmas.{calm_turns_keep, flush_opens, opens_honestly}
use Rattle.disk_recovery.proofs.laws.serves_honestly.Goals as goal

pub returns-clause-opens : goal.returns-clause-opens
returns-clause-opens c = opens_honestly

pub returns-clause-flushes : goal.returns-clause-flushes
returns-clause-flushes c = flush_opens

pub returns-clause-calm : goal.returns-clause-calm
returns-clause-calm c = calm_turns_keep
