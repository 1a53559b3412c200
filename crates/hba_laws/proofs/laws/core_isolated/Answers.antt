use Rattle.hba_laws.proofs.isolation.{ChoosingLemmas.core_goes_by_view, CoreLemmas.fold_by_own, CoreAlikeLemmas.core_fill_alike}
use Rattle.hba_laws.proofs.{isolation.CoreAlikeLemmas.core_histories_by_own, cores.CoreHostLemmas.hosts_are_cores}
use Rattle.hba_laws.proofs.isolation.CoreFoldLemmas.{hosts_fold_by_core}
use Rattle.hba_laws.proofs.laws.core_isolated.Goals as goal

pub returns-clause-fold : goal.returns-clause-fold
returns-clause-fold c = fold_by_own

pub returns-clause-told : goal.returns-clause-told
returns-clause-told c = core_histories_by_own

pub returns-clause-filled : goal.returns-clause-filled
returns-clause-filled c = core_fill_alike

pub returns-clause-hosts : goal.returns-clause-hosts
returns-clause-hosts c = hosts_are_cores

pub returns-clause-derived : goal.returns-clause-derived
returns-clause-derived c = hosts_fold_by_core

pub returns-clause-goes : goal.returns-clause-goes
returns-clause-goes c = core_goes_by_view
