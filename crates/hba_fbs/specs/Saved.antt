-- A host port that holds no memory, as words, and what is tested of one that is restored.
use Rattle.std.specs.{Prelude.{◌≡◌, ℕ, Bool, not, ◌&&◌, ◌||◌, nat_lt, List, length, Option, is_none, is_some}, List.AllByRecursion}
use Rattle.std.proofs.Common.{ap, sym, ◌∙◌}
use Rattle.saved_state.specs.State.{IsToldApart, KeepsOption, all_apart, number_apart, option_apart, pair_apart, parts_apart, put_all, put_bool}
use Rattle.saved_state.specs.State.{put_number, put_option, put_pair, put_three, three_apart, bool_apart}
use Rattle.slots.specs.{Saved.{Free, IsByte, IsDword, put_table, table_apart}, Slots.{Slots, issue_at, lowest}, Table.IsTable}
use Rattle.port_errors.specs.{Errors.{AreErrors, Errors}, Saved.{errors_apart, put_errors}}
use Rattle.hba_commands.specs.{declared.command.Command.Command, Saved.{IsWord, KeepsCommand, command_apart, put_command}}
use Rattle.hba_fbs.specs.{declared.{registers.Registers.Registers, state.DeviceState.DeviceState, status.Block.Block}, Views.{IsCorePort, Port}}
use Rattle.hba_fbs.specs.Views.{last_command}

byte_apart : IsToldApart put_number IsByte
byte_apart a b x y k l e = number_apart a b x y e

word_apart : IsToldApart put_number IsWord
word_apart a b x y k l e = number_apart a b x y e

dword_apart : IsToldApart put_number IsDword
dword_apart a b x y k l e = number_apart a b x y e

flag_apart : IsToldApart put_bool Free
flag_apart a b x y k l e = bool_apart a b x y e

-- ---- the registers

abbrev pub Dwords : Type 0
Dwords = ℕ × ℕ × ℕ

abbrev pub put_dwords : Dwords → List ℕ → List ℕ
put_dwords = put_three put_number put_number put_number

abbrev pub AreDwords : Dwords → Type 0
AreDwords t = IsDword t.0 × IsDword t.1 × IsDword t.2

dwords_apart : IsToldApart put_dwords AreDwords
dwords_apart = three_apart put_number IsDword dword_apart put_number IsDword dword_apart put_number IsDword dword_apart

-- the two addresses, PxIS and PxIE
abbrev pub Addresses : Type 0
Addresses = Dwords × Dwords

abbrev pub put_addresses : Addresses → List ℕ → List ℕ
put_addresses = put_pair put_dwords put_dwords

abbrev pub AreAddresses : Addresses → Type 0
AreAddresses p = AreDwords p.0 × AreDwords p.1

-- PxCMD's three bits
abbrev pub Flags : Type 0
Flags = Bool × Bool × Bool

abbrev pub put_flags : Flags → List ℕ → List ℕ
put_flags = put_three put_bool put_bool put_bool

abbrev pub AreFlags : Flags → Type 0
AreFlags t = Free t.0 × Free t.1 × Free t.2

-- PxSIG, PxSERR.DIAG.F and PxSACT
abbrev pub Marks : Type 0
Marks = ℕ × Bool × ℕ

abbrev pub put_marks : Marks → List ℕ → List ℕ
put_marks = put_three put_number put_bool put_number

abbrev pub AreMarks : Marks → Type 0
AreMarks t = IsDword t.0 × Free t.1 × IsDword t.2

-- PxSNTF, PxFBS.EN and PxFBS.DEV
abbrev pub Switches : Type 0
Switches = ℕ × Bool × ℕ

abbrev pub put_switches : Switches → List ℕ → List ℕ
put_switches = put_three put_number put_bool put_number

abbrev pub AreSwitches : Switches → Type 0
AreSwitches t = IsWord t.0 × Free t.1 × IsByte t.2

abbrev pub RegisterParts : Type 0
RegisterParts = (Addresses × Flags) × (Marks × Switches)

abbrev pub register_parts : Registers → RegisterParts
register_parts r = (
  (((r.clb, r.clbu, r.fb), (r.fbu, r.interrupts, r.enabled)), (r.started, r.receives, r.multiplied)),
  ((r.signature, r.unknown, r.armed), (r.notified, r.switching, r.chosen)),
)

abbrev pub put_register_parts : RegisterParts → List ℕ → List ℕ
put_register_parts = put_pair (put_pair put_addresses put_flags) (put_pair put_marks put_switches)

abbrev pub KeepsRegisterParts : RegisterParts → Type 0
KeepsRegisterParts parts = (AreAddresses parts.0.0 × AreFlags parts.0.1) × (AreMarks parts.1.0 × AreSwitches parts.1.1)

abbrev pub put_registers : Registers → List ℕ → List ℕ
put_registers r rest = put_register_parts (register_parts r) rest

abbrev pub KeepsRegisters : Registers → Type 0
KeepsRegisters r = KeepsRegisterParts (register_parts r)

register_parts_apart : IsToldApart put_register_parts KeepsRegisterParts
register_parts_apart = pair_apart (put_pair put_addresses put_flags) (λ p. AreAddresses p.0 × AreFlags p.1)
    (pair_apart put_addresses AreAddresses (pair_apart put_dwords AreDwords dwords_apart put_dwords AreDwords dwords_apart)
    put_flags AreFlags (three_apart put_bool Free flag_apart put_bool Free flag_apart put_bool Free flag_apart))
    (put_pair put_marks put_switches) (λ p. AreMarks p.0 × AreSwitches p.1)
    (pair_apart put_marks AreMarks (three_apart put_number IsDword dword_apart put_bool Free flag_apart put_number IsDword dword_apart)
    put_switches AreSwitches (three_apart put_number IsWord word_apart put_bool Free flag_apart put_number IsByte byte_apart))

abbrev registers_from : RegisterParts → Registers
registers_from p = record {
  clb = p.0.0.0.0;
  clbu = p.0.0.0.1;
  fb = p.0.0.0.2;
  fbu = p.0.0.1.0;
  interrupts = p.0.0.1.1;
  enabled = p.0.0.1.2;
  started = p.0.1.0;
  receives = p.0.1.1;
  multiplied = p.0.1.2;
  signature = p.1.0.0;
  unknown = p.1.0.1;
  armed = p.1.0.2;
  notified = p.1.1.0;
  switching = p.1.1.1;
  chosen = p.1.1.2;
}

pub registers_apart : IsToldApart put_registers KeepsRegisters
registers_apart = parts_apart put_register_parts KeepsRegisterParts KeepsRegisters register_parts register_parts_apart (λ r k. k) (λ a b e. ap registers_from e)

-- ---- the state of a device

abbrev pub block_parts : Block → Bool × ℕ
block_parts block = (block.interrupts, block.ends)

abbrev pub put_block_parts : Bool × ℕ → List ℕ → List ℕ
put_block_parts = put_pair put_bool put_number

abbrev pub KeepsBlockParts : Bool × ℕ → Type 0
KeepsBlockParts parts = Free parts.0 × IsByte parts.1

abbrev pub put_block : Block → List ℕ → List ℕ
put_block block rest = put_block_parts (block_parts block) rest

abbrev pub KeepsBlock : Block → Type 0
KeepsBlock block = KeepsBlockParts (block_parts block)

pub block_apart : IsToldApart put_block KeepsBlock
block_apart = parts_apart put_block_parts KeepsBlockParts KeepsBlock block_parts (pair_apart put_bool Free flag_apart put_number IsByte byte_apart)
    (λ b k. k) (λ a b e. ap (λ p. record { interrupts = p.0; ends = p.1 }) e)

abbrev pub StateParts : Type 0
StateParts = (ℕ × ℕ) × (Bool × Option Block × Bool)

abbrev pub state_parts : DeviceState → StateParts
state_parts state = ((state.status, state.error), (state.resetting, state.block, state.signed))

abbrev pub put_state_parts : StateParts → List ℕ → List ℕ
put_state_parts = put_pair (put_pair put_number put_number) (put_three put_bool (put_option put_block) put_bool)

abbrev pub KeepsStateParts : StateParts → Type 0
KeepsStateParts parts = (IsByte parts.0.0 × IsByte parts.0.1) × (Free parts.1.0 × KeepsOption KeepsBlock parts.1.1 × Free parts.1.2)

abbrev pub put_state : DeviceState → List ℕ → List ℕ
put_state state rest = put_state_parts (state_parts state) rest

abbrev pub KeepsState : DeviceState → Type 0
KeepsState state = KeepsStateParts (state_parts state)

pub state_apart : IsToldApart put_state KeepsState
state_apart = parts_apart put_state_parts KeepsStateParts KeepsState state_parts
    (pair_apart (put_pair put_number put_number) (λ p. IsByte p.0 × IsByte p.1) (pair_apart put_number IsByte byte_apart put_number IsByte byte_apart)
    (put_three put_bool (put_option put_block) put_bool) (λ t. Free t.0 × KeepsOption KeepsBlock t.1 × Free t.2)
    (three_apart put_bool Free flag_apart (put_option put_block) (KeepsOption KeepsBlock) (option_apart put_block KeepsBlock block_apart) put_bool Free flag_apart))
    (λ s k. k) (λ a b e. ap (λ p. record { status = p.0.0; error = p.0.1; resetting = p.1.0; block = p.1.1; signed = p.1.2 }) e)

-- ---- a port

abbrev pub put_states : List DeviceState → List ℕ → List ℕ
put_states = put_all put_state

abbrev pub KeepStates : List DeviceState → Type 0
KeepStates all = (length all ≡ 16) × AllByRecursion KeepsState all

abbrev pub put_commands : List (Option Command) → List ℕ → List ℕ
put_commands = put_all (put_option put_command)

abbrev pub KeepCommands : List (Option Command) → Type 0
KeepCommands all = (length all ≡ 32) × AllByRecursion (KeepsOption KeepsCommand) all

abbrev pub PortParts : Type 0
PortParts = (Registers × Slots × Errors) × ((List DeviceState × List (Option Command)) × (ℕ × ℕ))

abbrev pub port_parts : Port → PortParts
port_parts port = ((port.registers, port.slots, port.errors), ((port.states, port.commands), (port.number, port.active)))

abbrev pub put_port_parts : PortParts → List ℕ → List ℕ
put_port_parts = put_pair (put_three put_registers put_table put_errors) (put_pair (put_pair put_states put_commands) (put_pair put_number put_number))

abbrev pub KeepsPortParts : PortParts → Type 0
KeepsPortParts parts = (KeepsRegisters parts.0.0 × IsTable parts.0.1 × AreErrors parts.0.2)
    × ((KeepStates parts.1.0.0 × KeepCommands parts.1.0.1) × (IsDword parts.1.1.0 × IsByte parts.1.1.1))

abbrev pub put_port : Port → List ℕ → List ℕ
put_port port rest = put_port_parts (port_parts port) rest

-- its parts keep to theirs, and it keeps the rules of every port
abbrev pub KeepsPort : Port → Type 0
KeepsPort port = KeepsPortParts (port_parts port) × IsCorePort port

states_apart : IsToldApart put_states KeepStates
states_apart a b x y k l e = all_apart put_state KeepsState state_apart a b x y (k.0 ∙ sym l.0) k.1 l.1 e

commands_apart : IsToldApart put_commands KeepCommands
commands_apart a b x y k l e = all_apart (put_option put_command) (KeepsOption KeepsCommand) (option_apart put_command KeepsCommand command_apart) a b x y (k.0 ∙ sym l.0) k.1 l.1 e

pub port_parts_apart : IsToldApart put_port_parts KeepsPortParts
port_parts_apart = pair_apart (put_three put_registers put_table put_errors) (λ t. KeepsRegisters t.0 × IsTable t.1 × AreErrors t.2)
    (three_apart put_registers KeepsRegisters registers_apart put_table IsTable table_apart put_errors AreErrors errors_apart)
    (put_pair (put_pair put_states put_commands) (put_pair put_number put_number))
    (λ p. (KeepStates p.0.0 × KeepCommands p.0.1) × (IsDword p.1.0 × IsByte p.1.1))
    (pair_apart (put_pair put_states put_commands) (λ p. KeepStates p.0 × KeepCommands p.1) (pair_apart put_states KeepStates states_apart put_commands KeepCommands commands_apart)
    (put_pair put_number put_number) (λ p. IsDword p.0 × IsByte p.1) (pair_apart put_number IsDword dword_apart put_number IsByte byte_apart))

pub port_apart : IsToldApart put_port KeepsPort
port_apart = parts_apart put_port_parts KeepsPortParts KeepsPort port_parts port_parts_apart (λ p k. k.0)
    (λ a b e. ap (λ p. record { registers = p.0.0; slots = p.0.1; errors = p.0.2; states = p.1.0.0; commands = p.1.0.1; number = p.1.1.0; active = p.1.1.1 }) e)

-- ---- what is tested

-- something is issued in the slot, and there is no command
abbrev pub lacks_command : Slots → List (Option Command) → ℕ → Bool
lacks_command slots commands slot = is_none (last_command commands slot) && is_some (issue_at slots slot)

abbrev pub have_commands : Slots → List (Option Command) → Bool
have_commands slots commands = is_none (lowest (lacks_command slots commands))

-- PxFBS.DEV has four bits, and FRE is 1 while ST is
abbrev pub are_own : Registers → Bool
are_own r = nat_lt r.chosen 16 && (not r.started || r.receives)

abbrev pub is_core : Registers → Slots → List (Option Command) → (active : ℕ) → Bool
is_core registers slots commands active = are_own registers && nat_lt active 16 && have_commands slots commands
