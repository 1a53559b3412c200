-- What happens to a machine, one call after another, with what each call answers: accesses of the guest (AHCI 1.3.1, 3), its memory
-- (5.3), the answers of media, what is plugged in and pulled (Serial ATA 3.x, 16.3.2), and the machine's own moves.
use Rattle.std.specs.{Prelude.{◌≡◌, ℕ, List, [], ◌∷◌, Option, Result}, declared.alloc.AllocError.AllocError}
use Rattle.fis_view.specs.Frames.{Stamped}
use Rattle.block_engine.specs.declared.request.Answer.{Answer}
use Rattle.ahci_controller.specs.declared.{access.Width.Width, wide.WideWritten.WideWritten}
use Rattle.ahci_machine.specs.{Acts.{Steps, unlent}, Answers.{AnswersMachine, MissesMachine, OffersFrame, SuppliesMachine, TakesFrame}}
use Rattle.ahci_machine.specs.{Ports.{PlugsMachine, PullsMachine, Puts, Removes}, Registers.{WritesMachine, powered}, States.MachineState}
use Rattle.ahci_machine.specs.declared.{act.Act.Act, answers.{MediumError.MediumError, Told.Told}, bay.Unit.Unit as Inside, ports.PortFault.PortFault}
use Rattle.ahci_machine.specs.declared.request.{MediumId.MediumId, Wanted.Wanted}

pub data Deed : Type 0 where
  -- a move of the machine's own
  Moved : Act → Deed
  -- what was lent is lent no more: a call of `next` begins
  Unlent : Deed
  -- the guest wrote registers
  Wrote : (offset : ℕ) → Width → (value : ℕ) → WideWritten → Deed
  -- power came to what is behind the controller
  Powered : Deed
  -- bytes of the guest's memory came, or are no memory
  Supplied : Wanted → List ℕ → Deed
  Missed : Wanted → Deed
  -- a medium answered
  Answered : MediumId → Answer → Result (Unit {0}) MediumError → Deed
  -- what is at a port came and went
  Put : (port : ℕ) → Inside → Result (Unit {0}) (Inside × PortFault) → Deed
  Plugged : (port : ℕ) → Result (Unit {0}) PortFault → Deed
  Pulled : (port : ℕ) → Result (Unit {0}) PortFault → Deed
  Removed : (port : ℕ) → Result Inside PortFault → Deed
  -- a device of the caller's own took a FIS, or sent one
  FrameTaken : (port : ℕ) → Option Stamped → Deed
  FrameOffered : (port : ℕ) → Stamped → Result (Unit {0}) Stamped → Deed

pub record Supplying (wanted : Wanted) (bytes : List ℕ) (old new : MachineState) : Type 0 where
  pub answer : Result Told AllocError
  pub supplies : SuppliesMachine wanted bytes old answer new

pub record Missing (wanted : Wanted) (old new : MachineState) : Type 0 where
  pub answer : Result Told AllocError
  pub misses : MissesMachine wanted old answer new

-- what each leaves: the contracts of the calls
abbrev pub Does : MachineState → Deed → MachineState → Type 0
Does old (Moved act) new = Steps old act new
Does old Unlent new = new ≡ unlent old
Does old (Wrote offset width value written) new = WritesMachine offset width value old written new
Does old Powered new = new ≡ powered old
Does old (Supplied wanted bytes) new = Supplying wanted bytes old new
Does old (Missed wanted) new = Missing wanted old new
Does old (Answered id answer told) new = AnswersMachine id answer old told new
Does old (Put port unit told) new = Puts port unit old told new
Does old (Plugged port told) new = PlugsMachine port old told new
Does old (Pulled port told) new = PullsMachine port old told new
Does old (Removed port told) new = Removes port old told new
Does old (FrameTaken port told) new = TakesFrame port old told new
Does old (FrameOffered port frame told) new = OffersFrame port frame old told new

-- these, one after another
pub record Then (old : MachineState) (deed : Deed) (After : MachineState → Type 0) : Type 0 where
  pub next : MachineState
  pub does : Does old deed next
  pub after : After next

unfoldable pub Runs : MachineState → List Deed → MachineState → Type 0
Runs old [] new = new ≡ old
Runs old (deed ∷ later) new = Then old deed (λ next. Runs next later new)
