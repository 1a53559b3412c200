-- What a host port that holds no memory gives its devices, and what that leaves (AHCI 1.3.1, 5.3 and chapter 9): bytes of a
-- slot's transfer, which whoever has the memory gathers, or a command.
use Rattle.std.specs.Prelude.{ℕ, ◌≡◌, ◌≤◌, ◌<◌, ◌%◌, not, if◌then◌else◌, Some, MatchOption}
use Rattle.hba_commands.specs.declared.command.Command.{Command}
use Rattle.slots.specs.{Commands.MayBeSent, Data.{IsWriteOf, payload}, Slots.{context_of, issue_at, match_some, own_issue, slots_of}}
use Rattle.hba_fbs.specs.{declared.turn.Turn.{Turn, TheVariants.{Rests, Feeds, Orders}}, Sending.{Nothing, Order, Outgoing, counted, data_with}}
use Rattle.hba_fbs.specs.{Sending.{next_receiver, next_to_send, view_fed, view_sent}, Tables.sound_command, Taking.is_running, Views.DeviceView}
use Rattle.hba_fbs.specs.Views.{LeavesOtherViews, Port, last_command, view_of}
use Rattle.host_memory.specs.Memory.{Memory}

-- data of a device's slot
abbrev pub feeds : ℕ → ℕ × ℕ × ℕ → Turn
feeds dev next = Feeds dev next.0 next.1 next.2

-- the command of a slot, as it was at its issue
abbrev pub orders : Port → ℕ → Turn
orders port slot = match_some (issue_at port.slots slot) Rests (λ issue.
    match_some (last_command port.commands slot) Rests (Orders issue.dev slot))

-- data for the lowest device that asked for it, or else the command of the lowest slot that may be sent
abbrev pub turn_of : Port → Turn
turn_of port =
    if not (is_running port) then Rests
    else match_some (next_receiver port) (match_some (next_to_send port) Rests (orders port))
    (λ dev. match_some (payload (context_of port.slots dev)) Rests (feeds dev))

-- beside a memory: the bytes are those at their places, by the table as it is now
abbrev pub outgoing_at : Port → Memory → Turn → Outgoing
outgoing_at port memory Rests = Nothing
outgoing_at port memory (Feeds dev slot offset len) =
    data_with dev offset len (sound_command memory port.commands (view_of dev port).slots slot)
outgoing_at port memory (Orders dev slot command) = Order dev slot command

-- a frame goes to a device; of all the rest only the running number changes
pub record Goes (old : Port) (dev : ℕ) (view : DeviceView) (new : Port) : Type 0 where
  pub own : view_of dev new ≡ view
  pub others : LeavesOtherViews dev old new
  pub registers : new.registers ≡ old.registers
  pub errors : new.errors ≡ old.errors
  pub commands : new.commands ≡ old.commands
  pub number : new.number ≡ counted old.number
  pub active : new.active ≡ old.active

abbrev pub Turns : Turn → Port → Port → Type 0
Turns Rests old new = new ≡ old
Turns (Feeds dev slot offset len) old new = Goes old dev (view_fed (view_of dev old)) new
Turns (Orders dev slot command) old new = Goes old dev (view_sent (view_of dev old) slot command) new

-- at most 8,192 bytes, whole dwords, are due to a device, and they are bytes of its own write
pub record IsFed (port : Port) (dev slot offset len : ℕ) : Type 0 where
  pub dev_below : dev < 16
  pub slot_below : slot < 32
  pub due : payload (context_of port.slots dev) ≡ Some (slot, offset, len)
  pub few : len ≤ 8192
  pub dwords : len % 4 ≡ 0
  pub own : own_issue (slots_of dev port.slots) slot ≡ issue_at port.slots slot
  pub inside : MatchOption (issue_at port.slots slot) ⊥ (IsWriteOf dev offset len)

-- the command was issued in the device's slot last, and may be sent
pub record IsOrdered (port : Port) (dev slot : ℕ) (command : Command) : Type 0 where
  pub dev_below : dev < 16
  pub slot_below : slot < 32
  pub may : MayBeSent port.slots slot
  pub owner : MatchOption (issue_at port.slots slot) ⊥ (λ issue. issue.dev ≡ dev)
  pub is : last_command port.commands slot ≡ Some command

abbrev pub MayGo : Port → Turn → Type 0
MayGo port Rests = Unit {0}
MayGo port (Feeds dev slot offset len) = IsFed port dev slot offset len
MayGo port (Orders dev slot command) = IsOrdered port dev slot command
