use Rattle.std.proofs.Common.{true, sym, subst}
use Rattle.block_engine.specs.Engine.{EngineState}
use Rattle.ata_front.specs.{Fronts.opening, declared.front.Front.Front}
use Rattle.sata_disk.specs.State.{IsDisk}
use Rattle.sata_disk.proofs.Kept.{opens}
use Rattle.sata_disk.proofs.disk.SataDisk.new.Goals as goal

pub invariant_of-result : goal.invariant_of-result
invariant_of-result c =
    let P : Front → Type 0 = λ f. IsDisk (record { profile = c.args.profile; front = f; engine = c.in_ok-new.field-0 }) in
    let Q : EngineState → Type 0 = λ e. IsDisk (record { profile = c.args.profile; front = opening true; engine = e }) in
    subst P (sym c.new.ensures) (subst Q (sym c.in_ok-new.ensures) (opens c.args.profile c.args.limit))
