use Rattle.std.proofs.Common.{ℕ, ◌+◌, Bool, true, false, IsTrue, refl, Option, Some, None}
use Rattle.ata_command.specs.declared.settings.TransferMode.{TransferMode, TheVariants.{Multiword0, Multiword1, Multiword2, Ultra0, Ultra1, Ultra2}}
use Rattle.ata_command.specs.declared.settings.{TransferMode.TheVariants.{Ultra3, Ultra4, Ultra5, Ultra6}, Settings.Settings}
use Rattle.disk_pages.specs.{Claims.{AreWhole, is_covered, is_settable}, Identity.{bits_if, feature_word, identity_word, name_bit, place_word}}
use Rattle.disk_pages.specs.{Identity.transfer_word, Modes.{multiword_bits, ultra_bits}, declared.profile.Profile.Profile}

named : (wwn : Option ℕ) → IsTrue (is_covered 84 (0x4060 + name_bit wwn))
named None = refl
named (Some wwn) = refl

trimmed : (trim : Bool) → IsTrue (is_covered 169 (bits_if trim 1))
trimmed true = refl
trimmed false = refl

multiword : (mode : TransferMode) → IsTrue (is_settable 63 (0x0007 + multiword_bits mode))
multiword Multiword0 = refl
multiword Multiword1 = refl
multiword Multiword2 = refl
multiword Ultra0 = refl
multiword Ultra1 = refl
multiword Ultra2 = refl
multiword Ultra3 = refl
multiword Ultra4 = refl
multiword Ultra5 = refl
multiword Ultra6 = refl

ultra : (mode : TransferMode) → IsTrue (is_settable 88 (0x007F + ultra_bits mode))
ultra Multiword0 = refl
ultra Multiword1 = refl
ultra Multiword2 = refl
ultra Ultra0 = refl
ultra Ultra1 = refl
ultra Ultra2 = refl
ultra Ultra3 = refl
ultra Ultra4 = refl
ultra Ultra5 = refl
ultra Ultra6 = refl

pub whole : (p : Profile) (s : Settings) → AreWhole p s
unfolding identity_word feature_word place_word transfer_word
whole p s = record {
  in_82 = refl;
  in_83 = refl;
  in_84 = named p.wwn;
  in_169 = trimmed p.trim;
  in_63 = multiword s.mode;
  in_78 = refl;
  in_88 = ultra s.mode;
}
