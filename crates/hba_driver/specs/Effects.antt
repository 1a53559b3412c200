-- What an act does to port and memory: writes of registers (AHCI 1.3.1, section 3.3), commands (4.2.2,
-- 4.2.3), the flush of a device and its row of the received area (4.2.1).
use Rattle.std.specs.Prelude.{ℕ, ◌≡◌, ◌+◌, ◌*◌, ◌^◌, Bool, true, false, nat_lt, List, [], ◌∷◌, replicate, ◌++◌, slice_index_or, Some, None}
use Rattle.fis_view.specs.declared.build.H2dFields.{H2dFields}
use Rattle.host_memory.specs.{Memory.{Memory, overwritten}, declared.table.Prd.Prd}
use Rattle.port_errors.specs.Errors.{AreErrors}
use Rattle.slots.specs.{Slots.match_some, Table.IsTable}
use Rattle.hba_commands.specs.Writing.{IsWritten}
use Rattle.hba_fbs.specs.{declared.error.WriteError.WriteError, Views.{Flushes, IsPort, Port}, Writing.{Writes, write_refusal}}
use Rattle.hba_driver.specs.declared.{effect.Effect.Effect, mode.Mode.{Mode, TheVariants.{Switching, CommandBased}}}
use Rattle.hba_driver.specs.{declared.{order.Order.{Order, TheVariants.{Scan, Clear}}, path.Stage.Stage, turn.Act.Act}, Modes.{clears_with, enabled}}
use Rattle.hba_driver.specs.{Orders.{control_port, order_fields}, Paths.{reads_page, stage_fields}}
use Rattle.hba_driver.specs.Sights.{px_ci, px_clb, px_clbu, px_cmd, px_fb, px_fbs, px_fbu, px_is, px_sact, px_sntf}
use Rattle.hba_driver.specs.declared.effect.Effect.TheVariants as effect
use Rattle.hba_driver.specs.declared.turn.Act.TheVariants as act

-- ---- the effects of an act

-- The command list is at 0 and the received area at 1000h. FBS.EN is set or left 0, by the mode. Then FRE
-- is set, and then ST with FRE and PMA.
abbrev pub opening_writes : Mode → List Effect
opening_writes mode =
    effect.Writes px_clb 0 ∷ effect.Writes px_clbu 0 ∷ effect.Writes px_fb 0x1000 ∷ effect.Writes px_fbu 0
    ∷ effect.Writes px_fbs (enabled mode) ∷ effect.Writes px_cmd 0x10 ∷ effect.Writes px_cmd 0x20011 ∷ []

unfoldable pub opening_write : Mode → ℕ → Effect
opening_write mode k = slice_index_or (opening_writes mode) k (effect.Writes px_cmd 0x20011)

-- After a fault of the port, ST is cleared, which ends everything that is issued. Then all of PxIS is
-- cleared, and ST is set again.
abbrev pub restart_writes : List Effect
restart_writes = effect.Writes px_is 0xFFFFFFFF ∷ effect.Writes px_cmd 0x20011 ∷ []

unfoldable pub restart_write : ℕ → Effect
restart_write k = slice_index_or restart_writes k (effect.Writes px_cmd 0x20011)

-- The fault of a device is cleared: OFS, IFS and TFES in PxIS, and DEC with the device and EN in PxFBS. With
-- command-based switching that is never due, and DEC does nothing.
abbrev pub clearing : Mode → (dev : ℕ) → List Effect
clearing mode dev =
    effect.Writes px_is 0x49000000 ∷ effect.Writes px_fbs (256 * dev + clears_with mode) ∷ []

-- With FIS-based switching the device and EN go to PxFBS. Without it the device is that of the header.
abbrev pub choosing : Mode → (dev : ℕ) → List Effect
choosing Switching dev = effect.Writes px_fbs (256 * dev + 1) ∷ []
choosing CommandBased dev = []

-- the device is chosen, the slot's bit goes to PxSACT if the command is queued, and then to PxCI
abbrev pub issuing : Mode → (slot dev : ℕ) → (queued : Bool) → List Effect
issuing mode slot dev true =
    choosing mode dev ++ (effect.Writes px_sact (2 ^ slot) ∷ effect.Writes px_ci (2 ^ slot) ∷ [])
issuing mode slot dev false = choosing mode dev ++ (effect.Writes px_ci (2 ^ slot) ∷ [])

-- a command of the driver's own is written into its slot and issued; buffer says that its data goes to the
-- driver's buffer
abbrev pub sending : Mode → (slot dev : ℕ) → H2dFields → (buffer : Bool) → List Effect
sending mode slot dev fields buffer = effect.Commands slot fields buffer ∷ issuing mode slot dev false

abbrev pub order_command : Mode → Order → List Effect
order_command mode order =
    match_some (order_fields order) [] (λ fields. sending mode 31 control_port fields false)

-- with FIS-based switching a device has its own row of the received area, which is emptied
abbrev pub emptying : Mode → (dev : ℕ) → List Effect
emptying Switching dev = effect.Empties dev ∷ []
emptying CommandBased dev = []

-- PxSNTF is cleared before a scan; a port that a scan found is flushed, and its row is emptied
unfoldable pub order_effects : Mode → Order → List Effect
order_effects mode Scan = effect.Writes px_sntf 0x8000 ∷ order_command mode Scan
order_effects mode (Clear port) =
    effect.Flushes port ∷ (emptying mode port ++ order_command mode (Clear port))
order_effects mode order = order_command mode order

abbrev pub stage_effects : Mode → (dev : ℕ) → Stage → List Effect
stage_effects mode dev stage =
    match_some (stage_fields dev stage) [] (λ fields. sending mode 30 dev fields (reads_page stage))

unfoldable pub effects_of : Mode → Act → List Effect
effects_of mode (act.Opens k) = opening_write mode k ∷ []
effects_of mode act.Stops = effect.Writes px_cmd 0x20010 ∷ []
effects_of mode (act.Restarts k) = restart_write k ∷ []
effects_of mode (act.Clears dev) = clearing mode dev
effects_of mode (act.Orders order) = order_effects mode order
effects_of mode (act.Steps dev stage) = stage_effects mode dev stage
effects_of mode (act.Issues slot dev queued) = issuing mode slot dev queued

-- ---- what an effect leaves of port and memory

-- the address of a slot's command table
abbrev pub table_of : ℕ → ℕ
table_of slot = 0x2000 + 0x1000 * slot

-- the driver's buffer: the first 512 bytes of the client area
abbrev pub buffer_prd : Prd
buffer_prd = record { address = 0x100000; bytes = 512 }

abbrev pub prds_with : (buffer : Bool) → List Prd
prds_with true = buffer_prd ∷ []
prds_with false = []

-- a value is written, if the port takes it
pub record Tries (old : Port) (memory : Memory) (offset value : ℕ) (new : Port) : Type 0 where
  pub accepted : write_refusal old memory offset value ≡ None → Writes old memory offset value new
  pub refused : (e : WriteError) → write_refusal old memory offset value ≡ Some e → new ≡ old

-- a row of the received area is emptied
abbrev pub emptied : ℕ → Memory → Memory
emptied dev memory =
    record memory { structure = overwritten memory.structure (0x1000 + 256 * dev) (replicate 256 0) }

-- a command is written into its slot
pub record Commands (old : Memory) (slot : ℕ) (fields : H2dFields) (prds : List Prd)
    (new : Memory) : Type 0 where
  pub structure : IsWritten 0 slot (table_of slot) fields prds old.structure new.structure
  pub client : new.client ≡ old.client

abbrev pub Acts : Effect → Port → Memory → Port → Memory → Type 0
Acts (effect.Writes offset value) old before new after = Tries old before offset value new × (after ≡ before)
Acts (effect.Flushes dev) old before new after = Flushes old dev new × (after ≡ before)
Acts (effect.Empties dev) old before new after = (new ≡ old) × (after ≡ emptied dev before)
Acts (effect.Commands slot fields buffer) old before new after =
    (new ≡ old) × Commands before slot fields (prds_with buffer) after

-- what holds for every port by itself: its registers, the commands of its slots, its slots and errors
pub record IsRuled (port : Port) : Type 0 where
  pub rules : IsPort port
  pub table : IsTable port.slots
  pub faults : AreErrors port.errors

-- one effect after another; in between, what holds for every port holds
unfoldable pub ActsAll : List Effect → Port → Memory → Port → Memory → Type 0
ActsAll [] old before new after = (new ≡ old) × (after ≡ before)
ActsAll (first ∷ rest) old before new after =
    (port : Port) × (memory : Memory) × Acts first old before port memory × IsRuled port
    × ActsAll rest port memory new after

-- the slot or the device exists
abbrev pub is_effect : Effect → Bool
is_effect (effect.Writes offset value) = true
is_effect (effect.Flushes dev) = nat_lt dev 16
is_effect (effect.Empties dev) = nat_lt dev 16
is_effect (effect.Commands slot fields buffer) = nat_lt slot 32
