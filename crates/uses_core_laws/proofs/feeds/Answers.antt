use Rattle.std.proofs.Common.{◌≡◌, [], refl, subst}
use Rattle.hba_fbs.specs.{declared.turn.Turn.{Turn, TheVariants.Feeds}, Choosing.MayChoose}
use Rattle.hba_laws.specs.Cores.{IsCore}
use Rattle.uses_core_laws.proofs.feeds.Goals as goal

pub returns-clause-fills : goal.returns-clause-fills
returns-clause-fills c past slot offset len is told =
    let ruled : IsCore c.args.port.now = record { port = c.keeps_rules.ensures.port; slots = c.keeps_rules.ensures.slots } in
    let may : MayChoose c.args.port.now (Feeds c.args.dev slot offset len) = subst (λ (t : Turn). MayChoose c.args.port.now t) is c.turn_of_device-turn.ensures.may in
    c.core_delivers.ensures.chosen c.args.port.now c.args.port.now [] refl (record { cores = ruled; frames = tt }) c.args.dev slot offset len past may told
