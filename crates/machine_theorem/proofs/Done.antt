-- What a write stored that is not queued was supplied: where a disk says that it ended well, and where a bit of PxCI falls by that.
use Rattle.std.proofs.Common.{ℕ, Bool, List}
use Rattle.ata_reply.specs.declared.reply.Reply.TheVariants as replies
use Rattle.sata_disk.specs.declared.out.Out.TheVariants as out
use Rattle.sata_disk_books.specs.Ended.{SinglesAreOfPages}
use Rattle.ahci_machine.specs.{States.{IsOpeningMachine, MachineState}, declared.act.Act.Act}
use Rattle.ahci_machine.specs.declared.act.Act.TheVariants as act
use Rattle.machine_laws.specs.{ControllerLaws.RunsRuled, Deeds.{Deed, Moved}}
use Rattle.machine_theorem.specs.{Completed.{CompletionsAreOfDevices, FisOrigin, IsCompletedBy, IsFisBy}, Moments.Moment}
use Rattle.machine_theorem.specs.Writes.{DoneWritesAreSupplied, FallsAreSupplied, IsSuppliedDone}
use Rattle.machine_theorem.proofs.{AtMoments.fis_at, CompletedSent.origin_of, Stored.{Laws, of_earned}}

pub done_are : Laws → SinglesAreOfPages → DoneWritesAreSupplied
done_are laws singles ports legacy old opening deeds now run n place new does =
    let h = does.does.does.1 in
    of_earned laws ports legacy old opening deeds now run n place (origin_of singles now n (out.Of place replies.Done) h.disk h.frame.bytes h.there h.next h.bytes)

module _ (laws : Laws) (ports : ℕ) (legacy : Bool) (old : MachineState) (opening : IsOpeningMachine ports legacy old) (before : List Deed) (at : MachineState)
    (first : RunsRuled old before at) where
  move_done : (a : Act) → FisOrigin at (Moved a) → IsSuppliedDone old before at first (Moved a)
  move_done (act.Speaks n (out.Of place replies.Done)) origin = of_earned laws ports legacy old opening before at first n place origin
  move_done a origin = tt

  deed_done : (deed : Deed) → FisOrigin at deed → IsSuppliedDone old before at first deed
  deed_done (Moved a) origin = move_done a origin
  deed_done deed origin = tt

pub falls_are : Laws → CompletionsAreOfDevices → FallsAreSupplied
falls_are laws law ports legacy old opening deeds now run took new does rules slot low shows hides none =
    let completed : IsCompletedBy old deeds now run new.fan does.does.frame slot = law ports legacy old opening deeds now run took new does rules slot low shows hides none in
    record {
      completed = completed;
      sent = λ below.
          let sent : Moment old deeds (IsFisBy does.does.frame) = fis_at does.does.frame old deeds now run (completed.sent below) in
          record { sent = sent; done = deed_done laws ports legacy old opening sent.before sent.at sent.first sent.deed sent.holds.origin };
    }
