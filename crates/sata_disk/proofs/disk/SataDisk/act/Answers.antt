use Rattle.std.proofs.Common.{sym, subst}
use Rattle.ata_front.specs.declared.task.Act.TheVariants.{Takes, Resets}
use Rattle.sata_disk.specs.{State.{DiskState, sectors_of}, Hearing.{MayAct, TakesWithin}}
use Rattle.sata_disk.proofs.Kept.{acts}
use Rattle.sata_disk.proofs.disk.SataDisk.act.Goals as goal

pub invariant_of-self-in-Takes : goal.invariant_of-self-in-Takes
invariant_of-self-in-Takes c =
    let P : DiskState → Type 0 = λ x. MayAct x.engine.stage c.args.heard.front.task c.args.heard.act in
    let Q : DiskState → Type 0 = λ x. TakesWithin (sectors_of x) c.args.heard.act in
    acts (record { profile = c.self.inside.profile; front = c.self.inside.front; engine = c.self.inside.engine }) c.args.heard.front c.args.heard.act
    (Takes c.in-Takes.command) c.take.new.self c.self.invariant (subst P (sym c.self.view_is) c.requires.may) c.requires.reset
    (subst Q (sym c.self.view_is) c.requires.within) c.in-Takes.is c.take.ensures

pub invariant_of-self-in-Resets : goal.invariant_of-self-in-Resets
invariant_of-self-in-Resets c =
    let P : DiskState → Type 0 = λ x. MayAct x.engine.stage c.args.heard.front.task c.args.heard.act in
    let Q : DiskState → Type 0 = λ x. TakesWithin (sectors_of x) c.args.heard.act in
    acts (record { profile = c.self.inside.profile; front = c.self.inside.front; engine = c.self.inside.engine }) c.args.heard.front c.args.heard.act
    Resets c.reset.new.self c.self.invariant (subst P (sym c.self.view_is) c.requires.may) c.requires.reset
    (subst Q (sym c.self.view_is) c.requires.within) c.in-Resets.is c.reset.ensures
