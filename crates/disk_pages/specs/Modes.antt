-- The selected mode of DMA, in words 63 and 88 of the IDENTIFY DEVICE data (ACS-3, 7.12.7): bit 8 is mode 0, the next one mode 1, and
-- so on.
use Rattle.std.specs.Prelude.{ℕ}
use Rattle.ata_command.specs.declared.settings.TransferMode.{TransferMode, TheVariants.{Multiword0, Multiword1, Multiword2, Ultra0, Ultra1, Ultra2}}
use Rattle.ata_command.specs.declared.settings.TransferMode.TheVariants.{Ultra3, Ultra4, Ultra5, Ultra6}

abbrev pub multiword_bits : TransferMode → ℕ
multiword_bits Multiword0 = 0x0100
multiword_bits Multiword1 = 0x0200
multiword_bits Multiword2 = 0x0400
multiword_bits _ = 0

abbrev pub ultra_bits : TransferMode → ℕ
ultra_bits Ultra0 = 0x0100
ultra_bits Ultra1 = 0x0200
ultra_bits Ultra2 = 0x0400
ultra_bits Ultra3 = 0x0800
ultra_bits Ultra4 = 0x1000
ultra_bits Ultra5 = 0x2000
ultra_bits Ultra6 = 0x4000
ultra_bits _ = 0
