use Rattle.pm_world.proofs.world.World.run.Goals as goal

pub returns-clause-laws : goal.returns-clause-laws
returns-clause-laws g c = rw (c.in_ok-run_into.was, c.new-answers.ensures.items) at c.run_into.ensures.laws
