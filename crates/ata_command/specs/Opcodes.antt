-- The command codes of a disk (ACS-3, table of command codes). All that stand in no row are refused.
use Rattle.std.specs.Prelude.{ℕ, ◌==◌, ◌||◌, Bool, true, false, Option, Some, None, if◌then◌else◌}
use Rattle.ata_command.specs.declared.opcode.Transfer as moves
use Rattle.ata_command.specs.declared.opcode.{Way.{Way, TheVariants.{Dma, Single, Multiple, Verify}}, Opcode.Opcode}
use Rattle.ata_command.specs.declared.opcode.Opcode.TheVariants as code

-- a row: whether it writes, whether it is EXT, whether FUA, and how it moves its sectors
abbrev pub row : (write wide fua : Bool) → Way → Option moves.Transfer
row write wide fua way = Some (record { write = write; wide = wide; fua = fua; way = way })

abbrev pub transfer_of : ℕ → Option moves.Transfer
transfer_of c =
    -- READ SECTOR(S), READ SECTOR(S) EXT, READ MULTIPLE, READ MULTIPLE EXT
    (if c == 0x20 then row false false false Single
    else (if c == 0x24 then row false true false Single
    else (if c == 0xC4 then row false false false Multiple
    else (if c == 0x29 then row false true false Multiple
    -- WRITE SECTOR(S), WRITE SECTOR(S) EXT, WRITE MULTIPLE, WRITE MULTIPLE EXT, WRITE MULTIPLE FUA EXT
    else (if c == 0x30 then row true false false Single
    else (if c == 0x34 then row true true false Single
    else (if c == 0xC5 then row true false false Multiple
    else (if c == 0x39 then row true true false Multiple
    else (if c == 0xCE then row true true true Multiple
    -- READ DMA, READ DMA EXT, WRITE DMA, WRITE DMA EXT, WRITE DMA FUA EXT
    else (if c == 0xC8 then row false false false Dma
    else (if c == 0x25 then row false true false Dma
    else (if c == 0xCA then row true false false Dma
    else (if c == 0x35 then row true true false Dma
    else (if c == 0x3D then row true true true Dma
    -- READ VERIFY SECTOR(S), READ VERIFY SECTOR(S) EXT
    else (if c == 0x40 then row false false false Verify
    else (if c == 0x42 then row false true false Verify
    else None))))))))))))))))

abbrev pub other_of : ℕ → Opcode
other_of c =
    -- READ FPDMA QUEUED, WRITE FPDMA QUEUED
    (if c == 0x60 then code.ReadQueued
    else (if c == 0x61 then code.WriteQueued
    -- FLUSH CACHE, FLUSH CACHE EXT
    else (if c == 0xE7 || c == 0xEA then code.Flush
    -- SET FEATURES, SET MULTIPLE MODE, DATA SET MANAGEMENT, IDENTIFY DEVICE
    else (if c == 0xEF then code.SetFeatures
    else (if c == 0xC6 then code.SetMultiple
    else (if c == 0x06 then code.DataSet
    else (if c == 0xEC then code.Identify
    -- READ LOG EXT, READ LOG DMA EXT, SMART
    else (if c == 0x2F then code.ReadLog
    else (if c == 0x47 then code.ReadLogDma
    else (if c == 0xB0 then code.Smart
    -- STANDBY IMMEDIATE, STANDBY, SLEEP; IDLE IMMEDIATE, IDLE; CHECK POWER MODE
    else (if c == 0xE0 || c == 0xE2 || c == 0xE6 then code.Standby
    else (if c == 0xE1 || c == 0xE3 then code.Idle
    else (if c == 0xE5 then code.CheckPower
    else code.Unknown)))))))))))))

abbrev pub or_other : Option moves.Transfer → ℕ → Opcode
or_other None c = other_of c
or_other (Some t) c = code.Transfer t

abbrev pub opcode_of : ℕ → Opcode
opcode_of c = or_other (transfer_of c) c
