use Rattle.pm_world.proofs.media.{ReadSubmittedLemmas.reads_bring_submitted, SubmittedLemmas.{sent_as_submitted, written_as_submitted}}
use Rattle.pm_world.proofs.laws.writes_are_as_submitted.Goals as goal

pub returns-clause-sent : goal.returns-clause-sent
returns-clause-sent c = sent_as_submitted

pub returns-clause-written : goal.returns-clause-written
returns-clause-written c = written_as_submitted

pub returns-clause-read : goal.returns-clause-read
returns-clause-read c = reads_bring_submitted
