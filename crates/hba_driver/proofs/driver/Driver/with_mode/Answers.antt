use Rattle.std.proofs.Common.{◌-◌, List, Option, ap, refl, subst, sym}
use Rattle.hba_driver.specs.Drivers.{AreRequests, Driver, Entry, opening_plan_in}
use Rattle.hba_driver.proofs.calls.RequestLemmas.{no_requests}
use Rattle.hba_driver.proofs.driver.Driver.with_mode.Goals as goal

pub returns : goal.returns
returns c = rw (c.new.ensures.value, c.saturating_sub.ensures) (ap (λ (x : List (Option Entry)). let d : Driver = record { plan = opening_plan_in c.args.mode; given = c.args.ticket - 1; entries = x } in d) c.empty.ensures)

pub invariant_of-result : goal.invariant_of-result
invariant_of-result c = record {
  plan = c.new.ensures.sound;
  requests = subst (λ (x : List (Option Entry)). AreRequests c.saturating_sub.result x) (sym c.empty.ensures) (no_requests c.saturating_sub.result 30 refl);
}
