use Rattle.hba_fbs.proofs.CoreLemmas.{decides_any, decides_are}
use Rattle.hba_fbs.proofs.shell.HostPort.hear_over.Goals as goal

pub invariant_of-self : goal.invariant_of-self
invariant_of-self c = decides_are _ _ _ _ _ _ c.hear_good.ensures.decides c.self.invariant

pub invariant_of-self-in_default-found : goal.invariant_of-self-in_default-found
invariant_of-self-in_default-found c = decides_are _ _ _ _ _ _ c.hear_good-in_default-found.ensures.decides c.self.invariant

pub invariant_of-self-2 : goal.invariant_of-self-2
invariant_of-self-2 c = decides_are _ _ _ _ _ _ c.hear_good-report.ensures.decides c.self.invariant

pub returns-in_default-clause-decides : goal.returns-in_default-clause-decides
returns-in_default-clause-decides c =
    rw (← c.self.view_is) (decides_any _ _ _ _ _ _ _ (c.payload_of_fis.ensures.none c.in_default.is) c.hear_good.ensures.decides)
