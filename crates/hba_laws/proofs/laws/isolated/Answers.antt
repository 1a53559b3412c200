use Rattle.hba_laws.proofs.isolation.{AlikeLemmas.{histories_by_own, own_fill_alike}, GoingLemmas.goes_by_own, IsolationLemmas.are_alike}
use Rattle.hba_laws.proofs.isolation.IsolationLemmas.{fold_of_own}
use Rattle.hba_laws.proofs.laws.isolated.Goals as goal

pub returns-clause-fold : goal.returns-clause-fold
returns-clause-fold c = fold_of_own

pub returns-clause-alike : goal.returns-clause-alike
returns-clause-alike c = are_alike

pub returns-clause-goes : goal.returns-clause-goes
returns-clause-goes c = goes_by_own

pub returns-clause-told : goal.returns-clause-told
returns-clause-told c = histories_by_own

pub returns-clause-filled : goal.returns-clause-filled
returns-clause-filled c = own_fill_alike
