-- A queued read that the guest sees completed was sent the bytes of a queued write that it saw completed before it issued the read, at each sector of which no
-- other store and no discard was asked for in between (AHCI 1.3.1, 3.3.13, PxSACT, and 5.3; Serial ATA 3.x, 10.5, Set Device Bits, and 13.6, queuing). So it
-- is over each stretch of a run that begins at rest and in which the guest keeps to the standard (Identity), if the medium gives what it was last told to keep
-- (`sata_disk_media`). Of the Data FISes by which the bytes come nothing is asked.
use Rattle.std.specs.Prelude.{ℕ, ◌≡◌, ◌<◌, Bool, true, false, List, [], ◌∷◌, ◌++◌}
use Rattle.fis_view.specs.Frames.{Stamped}
use Rattle.ahci_controller.specs.declared.taking.Took.{Took}
use Rattle.block_disk.specs.Laws.{Page}
use Rattle.disk_pages.specs.declared.profile.Profile.{Profile}
use Rattle.sata_disk.specs.State.{new_disk}
use Rattle.sata_disk.specs.declared.out.Out.TheVariants as out
use Rattle.sata_disk_laws.specs.{Calls.{AreCalls, Call, Sends}, Laws.reached}
use Rattle.sata_disk_media.specs.{Cells.{covers, sector_of}, Media.IsHonest}
use Rattle.ahci_machine.specs.States.{HasRules, IsOpeningMachine, MachineState}
use Rattle.ahci_machine.specs.declared.act.Act.TheVariants as act
use Rattle.machine_laws.specs.{ControllerLaws.RunsRuled, Deeds.{Deed, Does, Moved}, Falling.{AllLast, HasLink}}
use Rattle.machine_theorem.specs.{Completions.IsDone, FirstDeeds.{first_deeds, first_run, machine_at}, Identity.{AllKeep, IsAtRest, calls_of, own_of}}
use Rattle.machine_theorem.specs.ReadBack.{Falls, FallsAt, IsSinceNew, IsSuppliedPage, IsUntouched}

-- By the first calls of a disk the write of a page ended, and then came others, behind which the read of a page ends. Each sector of both has, in the Data that
-- went for the read, the bytes that came for the write, unless another store or a discard of it was asked for in between.
pub record IsFollowing (p : Profile) (limit : ℕ) (ended calls : List Call) (written read : Page) : Type 0 where
  pub since : List Call
  pub is : calls ≡ ended ++ since
  pub same : written.command.write ≡ true → read.command.write ≡ false
      → (s : ℕ) → covers written.command.lba written.command.count s ≡ true → covers read.command.lba read.command.count s ≡ true
      → IsUntouched p limit ended since s → sector_of read.command.lba s read.ledger.sent ≡ sector_of written.command.lba s written.ledger.came

pub record IsFollowed (many : Bool) (n w r : ℕ) (old : MachineState) (before : List Deed) (at : MachineState) (first : RunsRuled old before at)
    (sooner : List Deed) (mid : MachineState) (led : RunsRuled at sooner mid) (deeds : List Deed) (now : MachineState) (run : RunsRuled at deeds now)
    (p : Profile) (limit : ℕ) (base : List Call) (end finish : Stamped) : Type 0 where
  -- The command whose bit fell is the one that the guest had supplied for its slot. The disk ended it at a moment before the bit fell.
  pub written : IsDone many n w old before at first sooner mid led p limit base end
  -- What came for it was supplied, too, if the disk was new as it was put at its port.
  pub supplied : IsSinceNew n old before at first p limit base
      → IsSuppliedPage old (before ++ written.end.before) written.end.moment n p limit written.page
  -- So it is of the other, later.
  pub read : IsDone many n r old before at first deeds now run p limit base finish
  -- If the one is a write and the other a read, what was read is what was written. Between the two ends the disk made these calls and no others.
  pub follows : IsFollowing p limit
      (base ++ calls_of n at written.end.before written.end.moment written.end.first ++ Sends (out.Ends written.end.tags) ∷ [])
      (base ++ calls_of n at read.end.before read.end.moment read.end.first) written.page read.page

-- Over each such stretch: the bit of w falls by a FIS, behind that slot r is free, and behind the stretch the bit of r falls as a FIS is taken.
abbrev pub CompletedReadsFollowWrites : Type 0
CompletedReadsFollowWrites = (ports : ℕ) (legacy : Bool) (old : MachineState) → IsOpeningMachine ports legacy old
    → (before : List Deed) (at : MachineState) (first : RunsRuled old before at) (many : Bool) (n w r : ℕ) → n < 15 → w < 32 → r < 32
    → (rest : IsAtRest many n w old before at first) → IsAtRest many n r old before at first
    → (deeds : List Deed) (now : MachineState) (run : RunsRuled at deeds now)
    → HasLink deeds → AllLast n at deeds now run → AllKeep many n w at deeds now run → AllKeep many n r at deeds now run
    → (p : Profile) (limit : ℕ) (base : List Call) → AreCalls (new_disk p limit) base → rest.disk ≡ reached p limit base
    → IsHonest p limit (base ++ calls_of n at deeds now run)
    → (k : ℕ) (end : Stamped) → FallsAt (own_of many n) w r end k at deeds now run
    → (took : Took) (new : MachineState) → (does : Does now (Moved (act.Takes took)) new) → HasRules new → Falls (own_of many n) r now new
    → IsFollowed many n w r old before at first (first_deeds k deeds) (machine_at k at deeds now run) (first_run k at deeds now run) deeds now run p limit base
    end does.does.frame
