-- The bytes of Data that go to devices: AHCI 1.3.1, 4.2.3.3 and 5.3 (a port gathers the bytes of a write from the places of its
-- command's table), and 6.1 (Host Bus Fatal Error).
use Rattle.std.specs.Prelude.{◌≡◌, ℕ, ◌^◌, Bool, true, false, bit_or, List, Option, Some, None, MatchOption}
use Rattle.ahci_registers.specs.Lines.LineEvent.{Caused}
use Rattle.guest_fetch.specs.{Places.Delivers, Commands.Fetched, declared.moves.Move.Move}
use Rattle.hba_fbs.specs.{Bits.without, Choosing.{Chooses, MayChoose, may_feed}, declared.report.Wrote.Wrote}
use Rattle.hba_fbs.specs.declared.turn.Turn as turn_type
use Rattle.hba_fbs.specs.declared.turn.Turn.TheVariants as turn
use Rattle.ahci_controller.specs.{Causes.missing_causes, Latch.{latched, told}, Moving.{moved, processed_by, sent_by}, Next.{is_fed, turn_to}}
use Rattle.ahci_controller.specs.{States.{ControllerState, kept}, declared.{feeding.Fed.Fed, latch.Told.Told}}
use Rattle.ahci_controller.specs.declared.feeding.Fed.TheVariants as answer

-- the bytes lie where the table says that was supplied
abbrev pub PlacesBy : Option Fetched → (offset len : ℕ) → Option (List Move) → Type 0
PlacesBy None offset len moves = moves ≡ None
PlacesBy (Some command) offset len moves = MatchOption moves ⊥ (λ m. Delivers command.table offset len m)

abbrev pub Places : ControllerState → (slot offset len : ℕ) → Option (List Move) → Type 0
Places c slot offset len moves = PlacesBy (kept c slot) offset len moves

-- the want of a device's Data is answered
abbrev pub without_feeding : ControllerState → ℕ → ControllerState
without_feeding c dev = record c { wants = record c.wants { feeding = without c.wants.feeding (2 ^ dev) } }

abbrev pub StaysFed : ControllerState → Fed → ControllerState → Type 0
StaysFed old result new = (new ≡ old) × (result ≡ answer.Stale)

abbrev pub EndsFed : ControllerState → Fed → ControllerState → Type 0
EndsFed old result new = (new ≡ old) × (result ≡ answer.Ended)

abbrev pub goes_with : Told → Fed
goes_with t = answer.Goes t.message t.line

abbrev pub missed_with : Told → Fed
missed_with t = answer.Missed t.message t.line

-- the bytes that go
abbrev pub sent_to : ControllerState → ℕ → Option Wrote
sent_to c dev = sent_by (turn_to c dev)

-- It goes, and its bytes count. PxIS tells where they end an entry with I.
pub record SendsData (old : ControllerState) (dev : ℕ) (result : Fed) (new : ControllerState) : Type 0 where
  pub may : MayChoose old.core (turn_to old dev)
  pub core : Chooses (turn_to old dev) old.core new.core
  pub goes : result ≡ goes_with (told old.latch (processed_by old (sent_to old dev)))
  pub rest : new ≡ record (moved old (sent_to old dev)) {
    core = new.core;
    latch = latched old.latch (Caused (processed_by old (sent_to old dev)));
  }

abbrev pub SendsIf : (due : Bool) → ControllerState → ℕ → Fed → ControllerState → Type 0
SendsIf false old dev result new = EndsFed old result new
SendsIf true old dev result new = SendsData old dev result new

abbrev pub GathersIf : (out : Bool) → ControllerState → ℕ → Fed → ControllerState → Type 0
GathersIf false old dev result new = StaysFed old result new
GathersIf true old dev result new = SendsIf (may_feed old.core dev) (without_feeding old dev) dev result new

abbrev pub Gathers : ControllerState → (dev number : ℕ) → Fed → ControllerState → Type 0
Gathers old dev number result new = GathersIf (is_fed old.wants dev number) old dev result new

-- the slot is a bad one since, and the host is told
pub record LosesSlot (old : ControllerState) (slot : ℕ) (result : Fed) (new : ControllerState) : Type 0 where
  pub missed : result ≡ missed_with (told old.latch missing_causes)
  pub rest : new ≡ record old {
    own = record old.own { bad = bit_or old.own.bad (2 ^ slot) };
    latch = latched old.latch (Caused missing_causes);
  }

abbrev pub Loses : turn_type.Turn → ControllerState → Fed → ControllerState → Type 0
Loses turn.Rests old result new = EndsFed old result new
Loses (turn.Feeds dev slot offset len) old result new = LosesSlot old slot result new
Loses (turn.Orders dev slot command) old result new = EndsFed old result new

abbrev pub LosesIf : (due : Bool) → ControllerState → ℕ → Fed → ControllerState → Type 0
LosesIf false old dev result new = EndsFed old result new
LosesIf true old dev result new = Loses (turn_to old dev) old result new

abbrev pub MissesIf : (out : Bool) → ControllerState → ℕ → Fed → ControllerState → Type 0
MissesIf false old dev result new = StaysFed old result new
MissesIf true old dev result new = LosesIf (may_feed old.core dev) (without_feeding old dev) dev result new

abbrev pub MissesData : ControllerState → (dev number : ℕ) → Fed → ControllerState → Type 0
MissesData old dev number result new = MissesIf (is_fed old.wants dev number) old dev result new
