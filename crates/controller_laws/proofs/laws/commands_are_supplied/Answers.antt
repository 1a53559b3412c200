use Rattle.controller_laws.proofs.SourceLemmas as lemma
use Rattle.controller_laws.proofs.laws.commands_are_supplied.Goals as goal

pub returns-clause-starts : goal.returns-clause-starts
returns-clause-starts c = lemma.starts_unread

pub returns-clause-supplied : goal.returns-clause-supplied
returns-clause-supplied c = lemma.are_supplied c.commands_are_what_was_supplied.ensures

pub returns-clause-core : goal.returns-clause-core
returns-clause-core c = lemma.core_has
