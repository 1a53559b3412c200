-- How the host port tells devices apart: FIS-based or command-based switching (AHCI 1.3.1, chapter 9).
use Rattle.std.specs.Prelude.{ℕ, Bool, true, false}
use Rattle.hba_driver.specs.declared.mode.Mode.{Mode, TheVariants.{Switching, CommandBased}}

abbrev pub is_switching : Mode → Bool
is_switching Switching = true
is_switching CommandBased = false

-- DEC and EN of PxFBS
abbrev pub clears_with : Mode → ℕ
clears_with Switching = 3
clears_with CommandBased = 2

-- PxFBS.EN
abbrev pub enabled : Mode → ℕ
enabled Switching = 1
enabled CommandBased = 0
