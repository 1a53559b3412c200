use Rattle.hba_driver.specs.{declared.{request.Outcome.TheVariants.Done, slot.Phase.TheVariants.Ended}, Drivers.{AreRequests, Entry}}
use Rattle.hba_driver.proofs.calls.RequestLemmas.{requests_logged, requests_rephased}
use Rattle.std.proofs.Common.{List, Option, subst, sym}
use Rattle.hba_driver.proofs.driver.Driver.look.Goals as goal

pub invariant_of-self : goal.invariant_of-self
invariant_of-self c = record {
  plan = c.turn-turn.ensures.sound;
  requests = subst (λ (x : List (Option Entry)). AreRequests c.self.inside.given x) (sym c.end_logged.ensures.ended)
      (requests_logged c.self.inside.given c.args.sight.now.log c.turn-turn.result.logged c.end_done.new.slots
      (requests_rephased c.self.inside.given _ (Ended Done) c.self.inside.slots c.end_done.new.slots c.self.invariant.requests c.end_done.ensures.ended));
}
