-- What a disk takes for a queued write is what the caller had supplied for the command of its own slot.
use Rattle.std.proofs.Common.{◌≡◌, true, not, List, ◌++◌, refl, sym, ap, ◌∙◌, Option, Some, None}
use Rattle.std.specs.Prelude.{drop}
use Rattle.multiplier.specs.Passing.{of_conn}
use Rattle.slots.specs.declared.work.Kind.TheVariants.{QueuedWrite}
use Rattle.block_command.specs.{Moments.{Moment, is_ended}, declared.command.Stage.Stage}
use Rattle.block_command.specs.declared.command.Stage.TheVariants as stage
use Rattle.block_disk.specs.Table.{is_under_way}
use Rattle.block_queue.specs.Line.{command_at}
use Rattle.sata_disk.specs.{Hearing.{is_receiving, receives}, State.{DiskState, commands, new_disk}}
use Rattle.sata_disk_laws.specs.{Calls.{Call, after_calls}, Laws.reached}
use Rattle.ahci_machine.specs.{States.bay_at, declared.bay.Unit.TheVariants.Disk}
use Rattle.machine_laws.specs.Disks.{DisksGoOn}
use Rattle.machine_theorem.specs.{Fed.{FedDataAreOfTheirSlots, IsFedFor}, Given.{CommandsAreGiven, IsWhole}, Identity.calls_of}
use Rattle.machine_theorem.specs.{OwnWrites.{DataComeFromTheirOwnSlot, WentForPlace}, TakenWrites.WritesAreAsSupplied}
use Rattle.machine_theorem.proofs.{EndsFew.{disk_same, sent_of}, Sent.marked_rest, SentFises.{GoneOn, stretch_made}, Stretch.whole_run}
use Rattle.sata_disk_laws.proofs.Door.{calls_after}

pub record Laws : Type 0 where
  pub given : CommandsAreGiven
  pub come : DataComeFromTheirOwnSlot
  pub fed : FedDataAreOfTheirSlots
  pub disks : DisksGoOn

-- a command that awaits Data is under way
pub record Awaits (o : Option Moment) : Type 0 where
  pub moment : Moment
  pub is : o ≡ Some moment
  pub under_way : is_under_way (Some moment) ≡ true

going : (s : Stage) → is_receiving s ≡ true → not (is_ended s) ≡ true
going stage.Receiving e = refl
going other e = absurd (cc)

pub awaits : (o : Option Moment) → receives o ≡ true → Awaits o
awaits None e = absurd (cc)
awaits (Some m) e = record { moment = m; is = refl; under_way = going m.stage e }

pub writes_are : Laws → WritesAreAsSupplied
writes_are laws ports legacy old opening before at first many n c dev tag low dev_low tag_low rest begins deeds now run linked lasts keeps line well lost own p limit base are same awaits_none queue f down
    v payload receiving =
    let calls : List Call = calls_of n at deeds now run in
    let same_disk : begins.disk ≡ reached p limit base = disk_same begins.disk rest.disk (sym begins.there ∙ rest.there) ∙ same in
    let made : GoneOn many n c dev begins.disk calls (of_conn n c (sent_of at deeds now run)) (bay_at now n).unit =
    stretch_made many n c dev laws.disks deeds at now run line begins.disk begins.there in
    let there : (bay_at now n).unit ≡ Disk (reached p limit (base ++ calls)) =
    made.is ∙ ap Disk (ap (λ (x : DiskState). after_calls x calls) same_disk ∙ sym (calls_after base calls (new_disk p limit))) in
    let a : Awaits (command_at (commands (reached p limit (base ++ calls))) tag) = awaits (command_at (commands (reached p limit (base ++ calls))) tag) receiving in
    let went : WentForPlace n dev at deeds now p limit (base ++ calls) tag f =
    laws.come ports legacy old opening before at first many n c dev low dev_low begins rest.leaving rest.down p limit base are same_disk awaits_none deeds now run linked lasts line well lost own queue f down v
    payload tag tag_low receiving in
    let whole : IsWhole old before at first went.before went.mid went.first = whole_run before old at first went.before went.mid went.first in
    let fed : went.goes.issue.work.kind ≡ QueuedWrite
    → IsFedFor old (before ++ went.before) went.mid whole.all dev went.message went.line went.after went.does went.goes.slot went.goes.offset went.goes.len =
    λ kind. laws.fed ports legacy old opening (before ++ went.before) went.mid whole.all dev went.message went.line went.after went.does went.goes.slot went.goes.offset went.goes.len went.goes.is in
    record {
      moment = a.moment;
      is = a.is;
      given = laws.given ports legacy old opening before at first many n tag low tag_low rest deeds now run linked lasts keeps p limit base are same (reached p limit (base ++ calls)) there a.moment a.is
          a.under_way;
      went = went;
      whole = whole;
      fed = fed;
      payload = λ kind.
          ap (drop 4) went.bytes ∙ marked_rest went.does.does.gathering.bytes 0 ∙ ap (drop 4) (fed kind).bytes;
    }
