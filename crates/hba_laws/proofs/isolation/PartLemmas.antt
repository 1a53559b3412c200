-- For `isolated`. What belongs to a device, piece by piece.
use Rattle.std.proofs.{Common.{◌≡◌, ℕ, Bool, List, refl, ◌∙◌, ap, Option, Some, None}, Math.Path.fun_ext}
use Rattle.std.specs.Prelude.{if◌then◌else◌, is_some}
use Rattle.hba_commands.specs.declared.command.Command.{Command}
use Rattle.slots.specs.Slots.{DeviceSlots, Issue, own_issue}
use Rattle.hba_fbs.specs.{declared.registers.Registers.Registers, Views.{DeviceView, last_command, view_of}}
use Rattle.hba_laws.specs.{Hosts.Host, Parts.{DevicePart, commands_of, own_row}, Between.KeepsOwn}

abbrev pub row_at : ℕ → Host → Option (List ℕ)
row_at n host = own_row host.port.registers.switching host.port.registers.fb host.memory.structure n

abbrev pub commands_at : ℕ → Host → ℕ → Option Command
commands_at n host = commands_of (view_of n host.port).slots (last_command host.port.commands)

abbrev device_part : DeviceView → (ℕ → Option Command) → Option (List ℕ) → DevicePart
device_part view commands row = record { view = view; commands = commands; row = row }

-- parts that are equal piece by piece are equal
pub same_part : (v w : DeviceView) (c d : ℕ → Option Command) (r s : Option (List ℕ)) → v ≡ w → c ≡ d → r ≡ s → device_part v c r ≡ device_part w d s
same_part v w c d r s p q e = λ i. device_part (p i) (q i) (e i)

-- ---- commands of slots that stay filled

kept_at : (o p : Option Issue) (x : Option Command) → (o ≡ None → p ≡ None)
    → (if is_some p then x else None) ≡ (if is_some p then (if is_some o then x else None) else None)
kept_at o None x h = refl
kept_at (Some i) (Some j) x h = refl
kept_at None (Some j) x h = let e : Some j ≡ None = h refl in cc

pub commands_kept : (old new : DeviceSlots) (f : ℕ → Option Command) → KeepsOwn old new → commands_of new f ≡ commands_of new (commands_of old f)
commands_kept old new f keeps = fun_ext (λ slot. kept_at (own_issue old slot) (own_issue new slot) (f slot) (keeps slot))

pub commands_same : (v w : DeviceView) (c d : List (Option Command)) → v ≡ w → c ≡ d → commands_of v.slots (last_command c) ≡ commands_of w.slots (last_command d)
commands_same v w c d p q = ap (λ (x : DeviceView). commands_of x.slots (last_command c)) p ∙ ap (λ (x : List (Option Command)). commands_of w.slots (last_command x)) q

-- ---- rows

-- the place of the received area stays, and the mode
abbrev pub SamePlace : Registers → Registers → Type 0
SamePlace old new = (new.fb ≡ old.fb) × (new.switching ≡ old.switching)

pub same_place : (old new : Registers) → new ≡ old → SamePlace old new
same_place old new is = (ap (λ (r : Registers). r.fb) is, ap (λ (r : Registers). r.switching) is)

-- the row stays where the structure area does too
pub row_same : (n : ℕ) (old new : Host) → SamePlace old.port.registers new.port.registers → new.memory.structure ≡ old.memory.structure → row_at n new ≡ row_at n old
row_same n old new place s =
    ap (λ (x : List ℕ). own_row new.port.registers.switching new.port.registers.fb x n) s ∙ ap (λ (k : ℕ). own_row new.port.registers.switching k old.memory.structure n) place.0
    ∙ ap (λ (b : Bool). own_row b old.port.registers.fb old.memory.structure n) place.1

pub row_moved : (n : ℕ) (old new : Host) → SamePlace old.port.registers new.port.registers → row_at n new ≡ own_row old.port.registers.switching old.port.registers.fb new.memory.structure n
row_moved n old new place =
    ap (λ (k : ℕ). own_row new.port.registers.switching k new.memory.structure n) place.0 ∙ ap (λ (b : Bool). own_row b old.port.registers.fb new.memory.structure n) place.1
