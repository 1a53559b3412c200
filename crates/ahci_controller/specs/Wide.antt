-- Accesses to registers, of all widths: AHCI 1.3.1, section 3.
use Rattle.std.specs.Prelude.{◌≡◌, ℕ, ◌+◌, ◌*◌, ◌/◌, ◌%◌, ◌==◌, Bool, true, false, if◌then◌else◌, MatchOption, None}
use Rattle.ahci_registers.specs.Offsets.{register_at}
use Rattle.hba_fbs.specs.Views.{IsCorePort}
use Rattle.slots.specs.Table.{IsTable}
use Rattle.ahci_controller.specs.{Access.{fits, high_of, low_of, merged, ones_of, pair_of, part_of, spread_of}, Reading.{read_at, shown}}
use Rattle.ahci_controller.specs.{States.ControllerState, Writing.{WritesRegister, quietly}, declared.access.Width.Width}
use Rattle.ahci_controller.specs.declared.{wide.WideWritten.WideWritten, writing.Written.Written}

-- where the eight bytes of an access begin
abbrev pub block_of : ℕ → ℕ
block_of offset = offset / 8 * 8

abbrev pub read_wide : ControllerState → ℕ → Width → ℕ
read_wide c offset width = if fits width offset
    then part_of width (pair_of (read_at c (block_of offset)) (read_at c (block_of offset + 4))) (offset % 8) else 0

-- nothing happens
abbrev pub WritesNothing : ControllerState → Written → ControllerState → Type 0
WritesNothing old result new = (new ≡ old) × (result ≡ quietly false None)

-- where no register begins, nothing happens
abbrev pub WritesAt : ControllerState → (offset value : ℕ) → Written → ControllerState → Type 0
WritesAt old offset value result new = MatchOption (register_at offset) (WritesNothing old result new)
    (λ register. WritesRegister register old value result new)

-- some bits of a dword
abbrev pub WritesIf : (empty : Bool) → ControllerState → (offset value mask : ℕ) → Written → ControllerState → Type 0
WritesIf true old offset value mask result new = WritesNothing old result new
WritesIf false old offset value mask result new = MatchOption (register_at offset) (WritesNothing old result new)
    (λ register. WritesRegister register old (merged register (shown register old) value mask) result new)

abbrev pub WritesPart : ControllerState → (offset value mask : ℕ) → Written → ControllerState → Type 0
WritesPart old offset value mask result new = WritesIf (mask == 0) old offset value mask result new

-- the lower dword of the eight bytes, and then the higher one
pub record WritesBlock (old : ControllerState) (offset bits mask : ℕ) (result : WideWritten) (new : ControllerState)
    : Type 0 where
  pub middle : ControllerState
  pub port : IsCorePort middle.core
  pub slots : IsTable middle.core.slots
  pub low : WritesPart old offset (low_of bits) (low_of mask) result.low middle
  pub high : WritesPart middle (offset + 4) (high_of bits) (high_of mask) result.high new

abbrev pub WritesFitting : (does_fit : Bool) → ControllerState → ℕ → Width → ℕ → WideWritten → ControllerState → Type 0
WritesFitting true old offset width value result new = WritesBlock old (block_of offset)
    (spread_of (offset % 8) value) (spread_of (offset % 8) (ones_of width)) result new
WritesFitting false old offset width value result new = WritesNothing old result.low new × WritesNothing old result.high new

abbrev pub WritesWide : ControllerState → ℕ → Width → ℕ → WideWritten → ControllerState → Type 0
WritesWide old offset width value result new = WritesFitting (fits width offset) old offset width value result new
