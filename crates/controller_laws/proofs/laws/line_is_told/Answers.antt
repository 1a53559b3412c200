use Rattle.controller_laws.proofs.LineLemmas as lemma
use Rattle.controller_laws.proofs.laws.line_is_told.Goals as goal

pub returns-clause-told : goal.returns-clause-told
returns-clause-told c = lemma.line_is_told

pub returns-clause-kept : goal.returns-clause-kept
returns-clause-kept c = lemma.line_is_kept

pub returns-clause-opens : goal.returns-clause-opens
returns-clause-opens c = lemma.opens_latched

pub returns-clause-latched : goal.returns-clause-latched
returns-clause-latched c = lemma.stays_latched

pub returns-clause-rises : goal.returns-clause-rises
returns-clause-rises c = lemma.pending_rises

pub returns-clause-falls : goal.returns-clause-falls
returns-clause-falls c = lemma.pending_falls
