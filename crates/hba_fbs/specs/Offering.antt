-- A write of a register, for a port that holds no memory: whoever has the command list offers what it read there, by slot the
-- device that the header names, and the command, None where header or table is bad (AHCI 1.3.1, sections 3.3.14, 4.2.2 and
-- 9.3). The words are those of Issuing and Writing, with the offer in place of the memory.
use Rattle.std.specs.Prelude.{ℕ, ◌≡◌, ◌<◌, ◌==◌, ◌&&◌, ◌||◌, Bool, not, if◌then◌else◌, List, Option, Some, None, MatchOption, is_none}
use Rattle.std.specs.Option.{option_or}
use Rattle.hba_commands.specs.{Commands.command_at, declared.command.Command.Command}
use Rattle.host_memory.specs.Memory.{Memory}
use Rattle.slots.specs.Slots.{has_bit, lowest, match_some}
use Rattle.hba_fbs.specs.declared.{error.WriteError.WriteError, register.Register.{Register, TheVariants.{Cmd, Sact, Ci, Fbs}}}
use Rattle.hba_fbs.specs.{declared.registers.Registers.Registers, Issuing.{any_beside, any_slot, commands_with, is_busy, named_in, view_with}}
use Rattle.hba_fbs.specs.{Offsets.register_at, Registers.{falls, own_refusal_by, written}, Views.{DeviceView, Port, stopped_view, view_of}}
use Rattle.hba_fbs.specs.Writing.{apart_refusal, busy_refusal, cleared_by, errors_after, view_cleared}
use Rattle.hba_fbs.specs.declared.error.WriteError.TheVariants as refusal

pub record Offer : Type 0 where
  pub named : ℕ → ℕ
  pub commands : ℕ → Option Command

-- what a memory has there
abbrev pub offer_of : Registers → Memory → Offer
offer_of r memory = record {
  named = named_in r memory.structure;
  commands = λ slot. command_at memory r.clb slot (has_bit r.armed slot);
}

abbrev pub names_other_by : Offer → (dev slot : ℕ) → Bool
names_other_by offer dev slot = not (offer.named slot == dev)

abbrev pub is_bad_by : Offer → ℕ → Bool
is_bad_by offer slot = is_none (offer.commands slot)

abbrev pub asked_by : Offer → ℕ → ℕ → Option Command
asked_by offer value slot = if has_bit value slot then offer.commands slot else None

abbrev pub first_by : Registers → Offer → ℕ → ℕ
first_by r offer value = match_some (lowest (has_bit value)) r.chosen offer.named

abbrev pub aimed_by : Registers → Offer → ℕ → ℕ
aimed_by r offer value = if r.switching then r.chosen else first_by r offer value

-- ---- refusals

abbrev pub is_apart_by : Port → Offer → ℕ → Bool
is_apart_by port offer value = let dev = aimed_by port.registers offer value in
    not port.registers.switching && not (value == 0) && any_beside port.slots dev
    || any_slot value (names_other_by offer dev)

abbrev pub issue_refusal_by : Port → Offer → ℕ → Option WriteError
issue_refusal_by port offer value =
    if any_slot value (is_busy port.slots) then Some refusal.SlotBusy
    else if is_apart_by port offer value then Some (apart_refusal port.registers)
    else if any_slot value (is_bad_by offer) then Some refusal.BadTable
    else None

unfoldable pub slots_refusal_by : Register → Port → Offer → ℕ → Option WriteError
slots_refusal_by Sact port offer value = busy_refusal port value
slots_refusal_by Ci port offer value =
    if port.registers.started then issue_refusal_by port offer value else None
slots_refusal_by register port offer value = None

abbrev pub refusal_by : Register → Port → Offer → ℕ → Option WriteError
refusal_by register port offer value =
    option_or (own_refusal_by register port.registers value) (slots_refusal_by register port offer value)

abbrev pub write_refusal_by : Port → Offer → ℕ → ℕ → Option WriteError
write_refusal_by port offer offset value = match_some (register_at offset) (Some refusal.NoRegister)
    (λ register. refusal_by register port offer value)

-- ---- what an accepted write leaves

abbrev pub view_issued_by : Registers → Offer → ℕ → DeviceView → DeviceView
view_issued_by r offer value view = view_with (aimed_by r offer value) (asked_by offer value) view

unfoldable pub view_by : Register → Port → Offer → ℕ → ℕ → DeviceView
view_by Cmd old offer value n =
    if falls old.registers value then stopped_view (view_of n old) else view_of n old
view_by Ci old offer value n = if n == aimed_by old.registers offer value
    then view_issued_by old.registers offer value (view_of n old) else view_of n old
view_by Fbs old offer value n = view_cleared n (cleared_by old.errors value) (view_of n old)
view_by register old offer value n = view_of n old

unfoldable pub commands_by : Register → Port → Offer → ℕ → List (Option Command)
commands_by Ci old offer value = commands_with (asked_by offer value) old.commands
commands_by register old offer value = old.commands

unfoldable pub active_by : Register → Port → Offer → ℕ → ℕ
active_by Ci old offer value = if value == 0 then old.active else aimed_by old.registers offer value
active_by register old offer value = old.active

pub record AcceptsBy (old : Port) (offer : Offer) (register : Register) (value : ℕ) (new : Port)
    : Type 0 where
  pub registers : new.registers ≡ written register old.registers value
  pub views : (n : ℕ) → n < 16 → view_of n new ≡ view_by register old offer value n
  pub errors : new.errors ≡ errors_after register old value
  pub commands : new.commands ≡ commands_by register old offer value
  pub number : new.number ≡ old.number
  pub active : new.active ≡ active_by register old offer value

abbrev pub WritesBy : Port → Offer → ℕ → ℕ → Port → Type 0
WritesBy old offer offset value new =
    MatchOption (register_at offset) ⊥ (λ register. AcceptsBy old offer register value new)
