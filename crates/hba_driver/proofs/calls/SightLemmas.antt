-- For `Sight::of`. Flags by device.
use Rattle.std.proofs.Common.{◌≡◌, ℕ, ◌<◌, ◌≤◌, Bool, false, map, arith}
use Rattle.std.specs.{Prelude.slice_index_or, List.range_with_len}
use Rattle.std.proofs.lemmas.{List.get_or_past, List.FromFn.{get_or-map-range_with_len, length-map-range_with_len}}
use Rattle.fis_view.specs.Seen.{seen}
use Rattle.host_memory.specs.Memory.{Memory}
use Rattle.hba_fbs.specs.Views.{Port, view_of}
use Rattle.hba_driver.specs.{declared.mode.Mode.{Mode, TheVariants.{Switching, CommandBased}}, Sights.{is_ata, last_d2h, signed_by}}

-- the flag of a device
pub flag_at : (f : ℕ → Bool) (dev : ℕ) → dev < 16 → slice_index_or (map f (range_with_len 0 16)) dev false ≡ f dev
flag_at f dev below = get_or-map-range_with_len f 0 16 dev dev false below (omega arith)

-- no flag stands past those of the devices
pub flag_past : (f : ℕ → Bool) (dev : ℕ) → 16 ≤ dev → slice_index_or (map f (range_with_len 0 16)) dev false ≡ false
flag_past f dev past =
    let long = length-map-range_with_len f 0 16 in
    get_or_past (map f (range_with_len 0 16)) dev false (omega (arith, long, past))

-- no signature came from a device that does not exist
pub unsigned_past : (mode : Mode) (port : Port) (memory : Memory) (dev : ℕ) → 16 ≤ dev → slice_index_or (signed_by mode port memory) dev false ≡ false
unsigned_past Switching port memory dev past = flag_past (λ d. is_ata (seen (last_d2h memory.structure d))) dev past
unsigned_past CommandBased port memory dev past = flag_past (λ d. (view_of d port).state.signed) dev past
