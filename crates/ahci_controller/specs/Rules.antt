-- What holds of every controller between its calls: AHCI 1.3.1, sections 3.3.14 (PxCI), 4.2.2 (the header of a slot's command)
-- and 5.3 (a port fetches a command, and then issues it).
use Rattle.std.specs.Prelude.{◌≡◌, ◌<◌, ◌≤◌, ℕ, Bool, true, false, List, length, Option, Some, None, IfSome, is_some, slice_index_or}
use Rattle.slots.specs.Slots.{has_bit, issue_at}
use Rattle.guest_fetch.specs.{Commands.Fetched, Fetch.Fetching}
use Rattle.hba_commands.specs.declared.command.Command.{Command}
use Rattle.hba_fbs.specs.Views.{Port, last_command}
use Rattle.ahci_controller.specs.{States.ControllerState, declared.wants.{Carried.Carried, Wants.Wants}}

-- the command of the core is the one that was supplied
abbrev pub IsOffered : Option Command → Option Fetched → Type 0
IsOffered None kept = Unit {0}
IsOffered (Some command) None = ⊥
IsOffered (Some command) (Some f) =
    command ≡ record { work = f.head.work; cfis = f.head.cfis; table = 0; count = 0 }

-- nothing has come of a slot's command, and nothing is wanted of it
pub record IsUnread (wants : Wants) (fetches : List (Option Fetching)) (slot : ℕ) : Type 0 where
  pub fetch : slice_index_or fetches slot None ≡ None
  pub out : has_bit wants.out slot ≡ false

-- what is to be written to the guest is of a slot with a command, of which nothing is wanted
pub record IsCarried (wants : Wants) (commands : List (Option Fetched)) (w : Carried) : Type 0 where
  pub slot : w.slot < 32
  pub kept : is_some (slice_index_or commands w.slot None) ≡ true
  pub out : has_bit wants.out w.slot ≡ false

-- wants have numbers, the last of which is the count
pub record AreCounted (wants : Wants) : Type 0 where
  pub slots : (slot : ℕ) → slice_index_or wants.slots slot 0 ≤ wants.count
  pub devices : (dev : ℕ) → slice_index_or wants.devices dev 0 ≤ wants.count
  pub most : wants.count ≤ 18446744073709551615

-- of the parts of a controller
pub record AreParts (core : Port) (wants : Wants) (fetches : List (Option Fetching)) (commands : List (Option Fetched))
    (payload : Option Carried) (starts : Bool) : Type 0 where
  pub long : length commands ≡ 32
  -- what was issued last in a slot is kept as it was supplied
  pub kept : (slot : ℕ) → IsOffered (last_command core.commands slot) (slice_index_or commands slot None)
  -- a slot is read only while it is pending
  pub unread : (slot : ℕ) → slot < 32 → has_bit wants.pending slot ≡ false → IsUnread wants fetches slot
  -- and then nothing is issued in it
  pub free : (slot : ℕ) → slot < 32 → has_bit wants.pending slot ≡ true → issue_at core.slots slot ≡ None
  -- while ST is 0 and the port is stopped none is
  pub stopped : core.registers.started ≡ false → starts ≡ false → wants.pending ≡ 0
  pub counted : AreCounted wants
  pub carried : IfSome payload (IsCarried wants commands)

abbrev pub IsRuled : ControllerState → Type 0
IsRuled c = AreParts c.core c.wants c.fetches c.commands c.writes.payload c.own.starts
