-- The settings after power on, and what commands make of them (ACS-3, SET FEATURES, Set transfer mode; SET MULTIPLE MODE).
use Rattle.std.specs.Prelude.{ℕ, ◌==◌, ◌||◌, ◌&&◌, nat_le, true, false, if◌then◌else◌, Option, Some, None}
use Rattle.ata_command.specs.declared.settings.{Multiple.{Multiple, TheVariants.{Off, One, Two, Four, Eight, Sixteen}}, Settings.Settings}
use Rattle.ata_command.specs.declared.settings.TransferMode.{TransferMode, TheVariants.{Multiword0, Multiword1, Multiword2, Ultra0, Ultra1, Ultra2}}
use Rattle.ata_command.specs.declared.settings.TransferMode.TheVariants.{Ultra3, Ultra4, Ultra5, Ultra6}

-- the mode that a Count of SET FEATURES 03h names: 20h to 22h are multiword DMA, 40h to 46h Ultra DMA
abbrev pub mode_named : ℕ → Option TransferMode
mode_named n =
    (if n == 0x20 then Some Multiword0
    else (if n == 0x21 then Some Multiword1
    else (if n == 0x22 then Some Multiword2
    else (if n == 0x40 then Some Ultra0
    else (if n == 0x41 then Some Ultra1
    else (if n == 0x42 then Some Ultra2
    else (if n == 0x43 then Some Ultra3
    else (if n == 0x44 then Some Ultra4
    else (if n == 0x45 then Some Ultra5
    else (if n == 0x46 then Some Ultra6 else None))))))))))

-- 00h and 01h are the default mode of PIO, 08h to 0Ch its modes 0 to 4 with flow control: none selects a mode of DMA
abbrev pub mode_after : TransferMode → (count : ℕ) → Option TransferMode
mode_after mode count =
    if nat_le count 0x01 || (nat_le 0x08 count && nat_le count 0x0C) then Some mode else mode_named count

-- how many sectors SET MULTIPLE MODE set
abbrev pub sectors_in : Multiple → ℕ
sectors_in Off = 0
sectors_in One = 1
sectors_in Two = 2
sectors_in Four = 4
sectors_in Eight = 8
sectors_in Sixteen = 16

-- the powers of two up to 16, and 0, which turns READ MULTIPLE and WRITE MULTIPLE off
abbrev pub multiple_of : (count : ℕ) → Option Multiple
multiple_of n =
    (if n == 0 then Some Off
    else (if n == 1 then Some One
    else (if n == 2 then Some Two
    else (if n == 4 then Some Four
    else (if n == 8 then Some Eight
    else (if n == 16 then Some Sixteen else None))))))

abbrev pub power_on : Settings
power_on = record { write_cache = true; look_ahead = true; auto_activate = false; multiple = Off; mode = Ultra6 }
