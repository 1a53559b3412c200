use Rattle.std.proofs.Common.{List, subst, sym, Option}
use Rattle.hba_driver.specs.Drivers.{AreRequests, Entry}
use Rattle.hba_driver.proofs.calls.RequestLemmas.{requests_after}
use Rattle.hba_driver.proofs.driver.Driver.act.Goals as goal

pub invariant_of-self : goal.invariant_of-self
invariant_of-self c = record {
  plan = c.after-self-inside.ensures.sound;
  requests = subst (λ (x : List (Option Entry)). AreRequests c.self.inside.given x) (sym c.apply.ensures.applied) (requests_after c.self.inside.given c.args.act c.self.inside.slots c.self.invariant.requests);
}
