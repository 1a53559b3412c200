use Rattle.std.proofs.Common.{ap, sym, ◌∙◌, Option}
use Rattle.hba_driver.specs.{declared.turn.Act.Act, Ticks.acted}
use Rattle.hba_driver.proofs.calls.{EffectLemmas.none_acts, RestLemmas.acts_rests}
use Rattle.hba_driver.proofs.driver.Driver.tick.Goals as goal

pub returns-clause-rests : goal.returns-clause-rests
returns-clause-rests c rests =
    let still = acts_rests _ _ c.look-act.ensures.long (sym c.look-act.ensures.answer ∙ rests) in
    let due = c.look-act.ensures.due ∙ still.0 in
    let none = none_acts c.args.port.now c.perform.new.port c.args.memory.now c.perform.new.memory (rw due at c.perform.ensures.acts) in
    record {
      driver = c.advance.ensures ∙ ap (λ (a : Option Act). acted a c.shown.result c.look-act.new.self) due ∙ c.look-act.ensures.driver ∙ still.1;
      port_stays = none.0;
      memory_stays = none.1;
    }
