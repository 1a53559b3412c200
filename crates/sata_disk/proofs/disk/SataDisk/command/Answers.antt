use Rattle.std.proofs.Common.{subst}
use Rattle.block_engine.specs.Engine.{line}
use Rattle.ata_command.specs.Asks.{DiskFacts, IsAsked, asked}
use Rattle.disk_pages.specs.Profiles.{facts_of}
use Rattle.sata_disk.specs.{State.tags_of, Hearing.with_logs}
use Rattle.sata_disk.proofs.Acts.{command_may, command_reset, takes_within}
use Rattle.sata_disk.proofs.disk.SataDisk.command.Goals as goal

pub act-requires-clause-may : goal.act-requires-clause-may
act-requires-clause-may c = rw (← c.self.view_is, c.command-heard.ensures.value) (command_may c.facts-facts.result c.self.inside.front
    c.asked_of-asked.result c.tags_of-tags.result c.self.inside.engine.stage c.asked_of-asked.ensures.is c.self.invariant.beside)

pub act-requires-clause-reset : goal.act-requires-clause-reset
act-requires-clause-reset c = rw c.command-heard.ensures.value (command_reset c.self.inside.front c.asked_of-asked.result c.tags_of-tags.result
    c.self.invariant.reset)

pub act-requires-clause-within : goal.act-requires-clause-within
act-requires-clause-within c =
    let P : DiskFacts → Type 0 = λ d. IsAsked d c.asked_of-asked.result in
    rw (← c.self.view_is) (takes_within (facts_of c.self.inside.profile) c.asked_of-asked.result c.command-heard.result.act
    (subst P c.facts-facts.ensures c.asked_of-asked.ensures.is) c.command-heard.ensures.act)

pub returns-clause-may : goal.returns-clause-may
returns-clause-may c = rw (← c.self.view_is) (command_may (facts_of c.self.inside.profile) c.self.inside.front
    (with_logs (asked c.args.fis.now (facts_of c.self.inside.profile) c.self.inside.front.settings)) (tags_of (line c.self.inside.engine))
    c.self.inside.engine.stage (rw (c.asked_of-asked.ensures.value, c.facts-facts.ensures, c.settings.ensures) at c.asked_of-asked.ensures.is)
    c.self.invariant.beside)
