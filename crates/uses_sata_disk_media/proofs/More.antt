-- The laws at a disk that a run led to.
use Rattle.std.proofs.Common.{Some, None, ap, ◌∙◌, subst}
use Rattle.std.specs.Prelude.{Option}
use Rattle.block_queue.specs.Line.{command_at}
use Rattle.sata_disk.specs.{Sending.{IsOut, part_at}, State.{DiskState, commands}, declared.out.Out.Out}
use Rattle.sata_disk.specs.declared.out.Out.TheVariants as out
use Rattle.sata_disk_media.specs.{Laws.{GivenIsWritten, ReadsBringWrites, WritesAreKept, sector_in}, Settled.WritesAreSettled}
use Rattle.uses_sata_disk_media.specs.Kept.{BringsWhatIsWritten, IsGivenWhatIsWritten, KeepsWhatIsWritten, SettlesWhatIsWritten}

pub brings : (d : DiskState) (x : Option Out) → ReadsBringWrites → BringsWhatIsWritten d x
brings d None law = tt
brings d (Some (out.Data place n)) law = λ p limit calls s written read r honest back.
    ap (λ (e : DiskState). sector_in read (part_at (command_at (commands e) place)) s) r.1 ∙ law p limit calls place n s written read r.0 honest back
brings d (Some other) law = tt

pub keeps : (d : DiskState) (x : Option Out) → IsOut d x → WritesAreKept → KeepsWhatIsWritten d x
keeps d None is law = tt
keeps d (Some o) is law = λ p limit calls place s written r well page write cov.
    law p limit calls o place s written r.0 (subst (λ e. IsOut e (Some o)) r.1 is) well page write cov

pub settles : (d : DiskState) (x : Option Out) → IsOut d x → WritesAreSettled → SettlesWhatIsWritten d x
settles d None is law = tt
settles d (Some o) is law = λ p limit calls place s written r well page write cov.
    law p limit calls o place s written r.0 (subst (λ e. IsOut e (Some o)) r.1 is) well page write cov

pub given : (d : DiskState) → GivenIsWritten → IsGivenWhatIsWritten d
given d law p limit calls place s written read low r honest behind page has = law p limit calls place s written read low r.0 honest behind page has
