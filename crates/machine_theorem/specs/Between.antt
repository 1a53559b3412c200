-- The slots of a guest tell what else was stored at a sector between a queued write and a queued read that it sees completed, over a stretch that begins at
-- rest for all tags and in which it keeps to the standard with each (AHCI 1.3.1, 3.3.13, PxSACT, and 5.3; Serial ATA 3.x, 13.6, native command queuing).
use Rattle.std.specs.Prelude.{ℕ, ◌≡◌, ◌<◌, ◌&&◌, nat_lt, Bool, true, false, List, [], ◌∷◌, ◌++◌, Option, Some, None}
use Rattle.fis_view.specs.Frames.{Stamped}
use Rattle.ahci_controller.specs.declared.taking.Took.{Took}
use Rattle.block_engine.specs.declared.request.What.{What}
use Rattle.block_engine.specs.declared.request.What.TheVariants as what
use Rattle.disk_pages.specs.declared.profile.Profile.{Profile}
use Rattle.sata_disk.specs.State.{DiskState, new_disk}
use Rattle.sata_disk.specs.declared.out.Out.TheVariants as out
use Rattle.sata_disk_laws.specs.{Calls.{AreCalls, Asks, Call, Sends, after_call}, Laws.reached}
use Rattle.sata_disk_media.specs.{Laws.{AreSparing, touches}, Media.IsHonest}
use Rattle.ahci_machine.specs.States.{HasRules, IsOpeningMachine, MachineState}
use Rattle.ahci_machine.specs.declared.act.Act.TheVariants as act
use Rattle.machine_laws.specs.{ControllerLaws.RunsRuled, Deeds.{Deed, Does, Moved}, Falling.{AllLast, HasLink}}
use Rattle.machine_theorem.specs.{FirstDeeds.{first_deeds, first_run, machine_at}, Identity.{AllKeep, IsAtRest, calls_of, own_of}, ReadBack.Falls}
use Rattle.machine_theorem.specs.{ReadBack.FallsAt, ReadsFollow.IsFollowed, Unheard.StandsNoWrite}

-- ---- what is not queued

abbrev pub is_store : What → Bool
is_store (what.Store lba count) = true
is_store other = false

abbrev pub is_of_tag : Option ℕ → Bool
is_of_tag None = false
is_of_tag (Some place) = nat_lt place 32

-- Any request but a store for a queued command leaves the sector.
abbrev pub OthersSpare : DiskState → (s : ℕ) → Call → Type 0
OthersSpare d s (Asks r) = (is_store r.what && is_of_tag r.place) ≡ false → touches s r.what d.engine.ranges ≡ false
OthersSpare d s other = Unit {0}

abbrev pub AllOthersSpare : DiskState → (s : ℕ) → List Call → Type 0
AllOthersSpare d s [] = Unit {0}
AllOthersSpare d s (c ∷ later) = OthersSpare d s c × AllOthersSpare (after_call d c) s later

-- ---- what stands in the slots

-- At each machine of a stretch behind some calls of the disk no write of the sector stands in a slot for it; in slot w none does from the machine on at which
-- its bit has fallen, by the deed behind the first k.
abbrev pub NoneStands : (many : Bool) → (n w k s : ℕ) → (old : MachineState) → (before : List Deed) → (at : MachineState) → RunsRuled old before at
    → (deeds : List Deed) → (now : MachineState) → RunsRuled at deeds now → (ended : List Call) → Type 0
NoneStands many n w k s old before at first deeds now run ended = (j : ℕ) (more : List Call)
    → calls_of n at (first_deeds j deeds) (machine_at j at deeds now run) (first_run j at deeds now run) ≡ ended ++ more → (slot : ℕ) → slot < 32
    → (slot ≡ w → k < j)
    → StandsNoWrite many n slot s old before at first (first_deeds j deeds) (machine_at j at deeds now run) (first_run j at deeds now run)

-- ---- what is read

pub record IsFollowedAmong (many : Bool) (n w r k : ℕ) (old : MachineState) (before : List Deed) (at : MachineState) (first : RunsRuled old before at)
    (deeds : List Deed) (now : MachineState) (run : RunsRuled at deeds now) (p : Profile) (limit : ℕ) (base : List Call) (end finish : Stamped) : Type 0 where
  -- The read has what was written, as `completed_reads_follow_writes` says it,
  pub followed : IsFollowed many n w r old before at first (first_deeds k deeds) (machine_at k at deeds now run) (first_run k at deeds now run) deeds now run
      p limit base end finish
  -- where the disk asked for no other store and no discard in between. It asked for none, if no other write of the sector stood in a slot for it from the
  -- moment on at which it said that the write ended, and no request but those of queued commands is a store or a discard of it.
  pub spared : (s : ℕ)
      → NoneStands many n w k s old before at first deeds now run (calls_of n at followed.written.end.before followed.written.end.moment followed.written.end.first
      ++ Sends (out.Ends followed.written.end.tags) ∷ [])
      → AllOthersSpare (reached p limit (base ++ calls_of n at followed.written.end.before followed.written.end.moment followed.written.end.first
      ++ Sends (out.Ends followed.written.end.tags) ∷ [])) s followed.follows.since
      → AreSparing (reached p limit (base ++ calls_of n at followed.written.end.before followed.written.end.moment followed.written.end.first
      ++ Sends (out.Ends followed.written.end.tags) ∷ [])) s followed.follows.since

-- Over each such stretch: the bit of w falls by a FIS, behind that slot r is free, and behind the stretch the bit of r falls as a FIS is taken.
abbrev pub ReadsFollowAmong : Type 0
ReadsFollowAmong = (ports : ℕ) (legacy : Bool) (old : MachineState) → IsOpeningMachine ports legacy old
    → (before : List Deed) (at : MachineState) (first : RunsRuled old before at) (many : Bool) (n w r : ℕ) → n < 15 → w < 32 → r < 32
    → (rests : (tag : ℕ) → tag < 32 → IsAtRest many n tag old before at first)
    → (deeds : List Deed) (now : MachineState) (run : RunsRuled at deeds now)
    → HasLink deeds → AllLast n at deeds now run → ((tag : ℕ) → tag < 32 → AllKeep many n tag at deeds now run)
    → (p : Profile) (limit : ℕ) (base : List Call) → AreCalls (new_disk p limit) base
    → ((tag : ℕ) (low : tag < 32) → (rests tag low).disk ≡ reached p limit base)
    → IsHonest p limit (base ++ calls_of n at deeds now run)
    → (k : ℕ) (end : Stamped) → FallsAt (own_of many n) w r end k at deeds now run
    → (took : Took) (new : MachineState) → (does : Does now (Moved (act.Takes took)) new) → HasRules new → Falls (own_of many n) r now new
    → IsFollowedAmong many n w r k old before at first deeds now run p limit base end does.does.frame
