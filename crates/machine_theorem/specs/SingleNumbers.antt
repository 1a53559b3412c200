-- The number of each byte of a read that is not queued, and that the guest sees completed: byte k of the slot's command is byte k of those that the caller gave
-- for the sectors of the disk's command. Nothing in a Data FIS says it; both sides count from the command on (Serial ATA 3.x, 10.5, Data; ACS-3, 4, DMA and PIO
-- data-in protocols; AHCI 1.3.1, 5.3.13, a port takes a FIS).
use Rattle.std.specs.Prelude.{ℕ, ◌≡◌, ◌<◌, ◌≤◌, ◌+◌, ◌-◌, ◌==◌, ◌&&◌, if◌then◌else◌, suc, Bool, true, false, List, [], ◌∷◌, ◌++◌, length, slice_get}
use Rattle.std.specs.Prelude.{Some, Result, Ok}
use Rattle.fis_view.specs.{Frames.Stamped, Seen.seen, Table.{H2d, Command, field}, declared.view.{Fis.Fis, FisFault.FisFault}}
use Rattle.fis_view.specs.declared.view.Fis.TheVariants as view
use Rattle.guest_fetch.specs.Commands.{Fetched}
use Rattle.slots.specs.Slots.{Issue}
use Rattle.hba_fbs.specs.{Taking.port_of, declared.report.Wrote.Wrote}
use Rattle.controller_laws.specs.Events as call
use Rattle.controller_laws.specs.{Events.Event, Sources.{command_of, unmoved}}
use Rattle.block_disk.specs.Laws.{Page}
use Rattle.disk_pages.specs.declared.profile.Profile.{Profile}
use Rattle.sata_disk.specs.{Hearing.is_command, Sending.IsOut, State.new_disk, declared.out.Out.Out}
use Rattle.sata_disk.specs.declared.out.Out.TheVariants as out
use Rattle.sata_disk_books.specs.{Books.page_in, Fises.AreFises}
use Rattle.sata_disk_laws.specs.{Calls.{AreCalls, Call, Hears}, Laws.reached, Once.{Host, host_of, is_queued_code, new_host}}
use Rattle.ahci_machine.specs.States.{MachineState}
use Rattle.ahci_machine.specs.declared.act.Act.TheVariants as act
use Rattle.machine_laws.specs.{ControllerLaws.{RunsRuled, calls_in}, Deeds.{Deed, Does, Moved}, Falling.sent_in, Rising.sent_by}
use Rattle.machine_theorem.specs.{Brought.DiskStretch, Identity.{calls_of, heard_as, is_for}, InTurn.{AreKeptOn, IsIdle, answered_in, heard_in}}
use Rattle.machine_theorem.specs.{SingleBytes.IsSentFor, SingleReads.{IsWrittenThen, SingleIsBrought}}

-- ---- what is counted

-- how many bytes of Data a device sent since its last Register FIS, by its FISes alone
abbrev pub since_by : Result Fis FisFault → ℕ → ℕ
since_by (Ok (view.RegD2H f)) was = 0
since_by (Ok (view.Payload f)) was = was + (length f - 4)
since_by other was = was

unfoldable pub since_after : ℕ → List (List ℕ) → ℕ
since_after was [] = was
since_after was (f ∷ later) = since_after (since_by (seen f) was) later

-- and by the calls of a controller that take them
abbrev pub since_call : (dev : ℕ) → Event → ℕ → ℕ
since_call dev (call.Took frame took) was = if port_of frame == dev then since_by (seen frame) was else was
since_call dev event was = was

unfoldable pub since_calls : (dev : ℕ) → ℕ → List Event → ℕ
since_calls dev was [] = was
since_calls dev was (event ∷ later) = since_calls dev (since_call dev event was) later

-- ---- a disk alone

-- The host waits for nothing, SRST is clear, and no queued command is open.
pub record IsClear (h : Host) : Type 0 where
  pub idle : IsIdle h
  pub none : (tag : ℕ) → tag < 32 → h.open_at tag ≡ false

-- a FIS asks for a queued command
abbrev pub asks_queued : Result Fis FisFault → Bool
asks_queued (Ok (view.RegH2D f)) = is_command f && is_queued_code (field H2d Command f)
asks_queued other = false

-- no call hears one
abbrev pub HearsSingle : Call → Type 0
HearsSingle (Hears bytes) = asks_queued (seen bytes) ≡ false
HearsSingle other = Unit {0}

abbrev pub AllHearSingle : List Call → Type 0
AllHearSingle [] = Unit {0}
AllHearSingle (c ∷ later) = HearsSingle c × AllHearSingle later

-- Over each stretch of calls of a disk that begins so, in which no queued command is heard, and no more than one command was not answered: as the Data go next of
-- the command that moves sectors and is not queued, as many bytes were sent of it as its FISes say that went since the last Register FIS.
abbrev pub SingleDataAreCounted : Type 0
SingleDataAreCounted = (p : Profile) (limit : ℕ) (base calls : List Call) (fises : List (List ℕ)) → AreCalls (new_disk p limit) (base ++ calls)
    → IsClear (host_of new_host base) → AreKeptOn calls → AllHearSingle calls → AreFises (reached p limit base) calls fises
    → heard_in calls ≤ suc (answered_in calls) → (len : ℕ) → IsOut (reached p limit (base ++ calls)) (Some (out.Data 32 len)) → (page : Page)
    → page_in p limit (base ++ calls) 32 ≡ Some page → length page.ledger.sent ≡ since_after 0 fises

-- ---- the guest

-- no FIS for the disk asks for a queued command, as it hears them
abbrev pub NoneQueued : (many : Bool) → (n : ℕ) → List Stamped → Type 0
NoneQueued many n [] = Unit {0}
NoneQueued many n (f ∷ later) = (is_for many n f ≡ true → asks_queued (seen (heard_as f)) ≡ false) × NoneQueued many n later

-- As the stretch began its host had none open at the disk, and none was sent to it in the stretch.
pub record SendsSingle (s : DiskStretch) : Type 0 where
  pub begins : (tag : ℕ) → tag < 32 → (host_of new_host s.base).open_at tag ≡ false
  pub sends : NoneQueued s.many s.n (sent_in (calls_in s.at s.deeds s.now s.run))

-- ---- the byte

-- The disk sent the FIS for the command that the guest had supplied for the slot. Its first byte has the number of those that were sent of it before.
pub record IsSingleByte (s : DiskStretch) (dev k : ℕ) (calls : List Call) (f : Stamped) (wrote : Wrote) (byte : ℕ) (command : Fetched) : Type 0 where
  pub for : IsSentFor s dev calls f
  pub number : wrote.offset ≡ length for.page.ledger.sent
  -- So what was written at the place of byte k is byte k of those that the caller gave for the sectors of the disk's command.
  pub given : slice_get for.page.ledger.given k ≡ Some byte
  -- The table by which it was written is that of the command which was supplied for the last issue in the slot before the bit falls, as the disk's FIS is.
  pub table : command_of for.slots.supplied.source ≡ Some (unmoved command)

abbrev pub OfSingleByte : (s : DiskStretch) → (dev k : ℕ) → (calls : List Call) → Out → Stamped → Wrote → (byte : ℕ) → Fetched → Type 0
OfSingleByte s dev k calls (out.Data place len) f wrote byte command = place ≡ 32 → IsSingleByte s dev k calls f wrote byte command
OfSingleByte s dev k calls other f wrote byte command = Unit {0}

-- Byte k was brought in the stretch, by a FIS that the disk at the port sent at a moment of the stretch before, and was written at its place before the bit fell.
pub record SingleIsRead (s : DiskStretch) (issue : Issue) (k : ℕ) : Type 0 where
  pub brought : SingleIsBrought issue.work.kind issue.dev s.tag k s.at s.deeds s.now s.run
  pub written : IsWrittenThen s.tag k brought.mid brought.does.does.frame.bytes brought.brings.wrote brought.after brought.later
  pub sooner : List Deed
  pub mid : MachineState
  pub led : RunsRuled s.at sooner mid
  pub said : Out
  pub next : MachineState
  pub does : Does mid (Moved (act.Speaks s.n said)) next
  pub between : List Deed
  pub until : RunsRuled next between brought.mid
  pub is : brought.sooner ≡ sooner ++ Moved (act.Speaks s.n said) ∷ between
  pub sent : sent_by mid (Moved (act.Speaks s.n said)) next does ≡ brought.does.does.frame ∷ []
  pub read : OfSingleByte s issue.dev k (calls_of s.n s.at sooner mid led) said brought.does.does.frame brought.brings.wrote written.byte written.command
