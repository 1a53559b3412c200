use Rattle.std.proofs.Common.{ap, sym, ◌∙◌}
use Rattle.hba_fbs.specs.declared.room.Room.TheVariants as Room
use Rattle.hba_fbs.specs.{Taking.admitted, Views.DeviceView}
use Rattle.hba_fbs.proofs.{CoreLemmas.{decides_are, takes_bad}, TakeLemmas.{takes_from, takes_none, whole_of}}
use Rattle.hba_fbs.proofs.shell.HostPort.take_from.Goals as goal

pub returns-in-Some-clause-heard : goal.returns-in-Some-clause-heard
returns-in-Some-clause-heard c hears =
    takes_from c.args.self.now c.args.memory.now c.args.dev _ c.in-Some.fis c.args.frame.now.bytes c.hear_good.result c.hear_good.new.self c.hear_good.new.memory
    (sym (ap (admitted c.args.dev) c.fis-fis.ensures.view) ∙ sym c.admit.ensures.value ∙ c.in-Some.is) (whole_of _ _ _ c.in-Some.ensures.is c.fis-fis.ensures.whole)
    c.hear_good.ensures.own c.hear_good.ensures.others c.hear_good.ensures.reports c.hear_good.ensures.registers c.hear_good.ensures.errors c.hear_good.ensures.commands c.hear_good.ensures.number c.hear_good.ensures.active c.hear_good.ensures.frees c.hear_good.ensures.posts c.hear_good.ensures.client

pub returns-in-None-clause-heard : goal.returns-in-None-clause-heard
returns-in-None-clause-heard c hears =
    rw (← c.self.view_is)
    (takes_none _ c.args.memory.now c.args.dev _ _ c.hear_bad.result c.hear_bad.new.self (sym (ap (admitted c.args.dev) c.fis-fis.ensures.view) ∙ sym c.admit.ensures.value ∙ c.in-None.is)
    (takes_bad _ c.args.memory.now c.args.dev _ c.hear_bad.result c.hear_bad.new.self c.hear_bad.ensures.decides))

pub returns-in-None-clause-own : goal.returns-in-None-clause-own
returns-in-None-clause-own c other apart = rw (← c.self.view_is) (ap (λ (v : DeviceView). v.fault) ((c.hear_bad.ensures.decides Room.Whole).others other apart))

pub invariant_of-self : goal.invariant_of-self
invariant_of-self c = decides_are _ _ _ _ _ _ (c.hear_bad.ensures.decides Room.Whole) c.self.invariant
