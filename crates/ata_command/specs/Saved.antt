-- What commands have set, and pages of logs, as words.
use Rattle.std.specs.Prelude.{◌≡◌, ℕ, ◌<◌, ◌^◌, List, ◌∷◌, Bool, refl}
use Rattle.std.proofs.Common.{ap}
use Rattle.saved_state.specs.State.{IsToldApart, bool_apart, number_apart, pair_apart, parts_apart, put_bool, put_number, put_pair}
use Rattle.ata_command.specs.{Modes.sectors_in, declared.{asked.LogPage.LogPage, settings.Multiple.{Multiple, TheVariants.{Off, One, Two, Four}}}}
use Rattle.ata_command.specs.declared.settings.{Multiple.TheVariants.{Eight, Sixteen}, Settings.Settings, TransferMode.TransferMode}
use Rattle.ata_command.specs.declared.settings.TransferMode.TheVariants.{Multiword0, Multiword1, Multiword2, Ultra0, Ultra1, Ultra2, Ultra3, Ultra4}
use Rattle.ata_command.specs.declared.settings.TransferMode.TheVariants.{Ultra5, Ultra6}

abbrev pub mode_number : TransferMode → ℕ
mode_number Multiword0 = 1
mode_number Multiword1 = 2
mode_number Multiword2 = 3
mode_number Ultra0 = 4
mode_number Ultra1 = 5
mode_number Ultra2 = 6
mode_number Ultra3 = 7
mode_number Ultra4 = 8
mode_number Ultra5 = 9
mode_number Ultra6 = 10

abbrev pub put_mode : TransferMode → List ℕ → List ℕ
put_mode mode rest = mode_number mode ∷ rest

-- the sectors of a DRQ data block
abbrev pub put_multiple : Multiple → List ℕ → List ℕ
put_multiple multiple rest = sectors_in multiple ∷ rest

-- ## Settings

abbrev pub SettingsParts : Type 0
SettingsParts = (Bool × Bool) × (Bool × (Multiple × TransferMode))

abbrev pub settings_parts : Settings → SettingsParts
settings_parts s = ((s.write_cache, s.look_ahead), (s.auto_activate, (s.multiple, s.mode)))

abbrev pub put_settings_parts : SettingsParts → List ℕ → List ℕ
put_settings_parts = put_pair (put_pair put_bool put_bool) (put_pair put_bool (put_pair put_multiple put_mode))

abbrev pub put_settings : Settings → List ℕ → List ℕ
put_settings s rest = put_settings_parts (settings_parts s) rest

-- ## A page of a log: which log, the first page, how many, and whether they move by DMA

abbrev pub PageParts : Type 0
PageParts = (ℕ × ℕ) × (ℕ × Bool)

abbrev pub page_parts : LogPage → PageParts
page_parts p = ((p.log, p.page), (p.count, p.dma))

abbrev pub put_page_parts : PageParts → List ℕ → List ℕ
put_page_parts = put_pair (put_pair put_number put_number) (put_pair put_number put_bool)

abbrev pub KeepsPageParts : PageParts → Type 0
KeepsPageParts p = ((p.0.0 < 2 ^ 8) × (p.0.1 < 2 ^ 16)) × ((p.1.0 < 2 ^ 16) × Unit {0})

abbrev pub put_page : LogPage → List ℕ → List ℕ
put_page p rest = put_page_parts (page_parts p) rest

abbrev pub KeepsPage : LogPage → Type 0
KeepsPage p = KeepsPageParts (page_parts p)

-- ## Words are those of one value

mode_same : (a b : TransferMode) → mode_number a ≡ mode_number b → a ≡ b
mode_same Multiword0 Multiword0 e = refl
mode_same Multiword1 Multiword1 e = refl
mode_same Multiword2 Multiword2 e = refl
mode_same Ultra0 Ultra0 e = refl
mode_same Ultra1 Ultra1 e = refl
mode_same Ultra2 Ultra2 e = refl
mode_same Ultra3 Ultra3 e = refl
mode_same Ultra4 Ultra4 e = refl
mode_same Ultra5 Ultra5 e = refl
mode_same Ultra6 Ultra6 e = refl
mode_same a b e = absurd (cc)

multiple_same : (a b : Multiple) → sectors_in a ≡ sectors_in b → a ≡ b
multiple_same Off Off e = refl
multiple_same One One e = refl
multiple_same Two Two e = refl
multiple_same Four Four e = refl
multiple_same Eight Eight e = refl
multiple_same Sixteen Sixteen e = refl
multiple_same a b e = absurd (cc)

pub mode_apart : IsToldApart put_mode (λ _. Unit {0})
mode_apart a b x y k l e = let same : mode_number a ≡ mode_number b = cc in (mode_same a b same, cc)

pub multiple_apart : IsToldApart put_multiple (λ _. Unit {0})
multiple_apart a b x y k l e = let same : sectors_in a ≡ sectors_in b = cc in (multiple_same a b same, cc)

bools_apart : IsToldApart (put_pair put_bool put_bool) (λ p. Unit {0} × Unit {0})
bools_apart = pair_apart put_bool (λ _. Unit {0}) (λ a b x y k l e. bool_apart a b x y e) put_bool (λ _. Unit {0}) (λ a b x y k l e. bool_apart a b x y e)

modes_apart : IsToldApart (put_pair put_bool (put_pair put_multiple put_mode)) (λ p. Unit {0} × (Unit {0} × Unit {0}))
modes_apart = pair_apart put_bool (λ _. Unit {0}) (λ a b x y k l e. bool_apart a b x y e)
    (put_pair put_multiple put_mode) (λ p. Unit {0} × Unit {0}) (pair_apart put_multiple (λ _. Unit {0}) multiple_apart put_mode (λ _. Unit {0}) mode_apart)

abbrev pub KeepsSettingsParts : SettingsParts → Type 0
KeepsSettingsParts p = (Unit {0} × Unit {0}) × (Unit {0} × (Unit {0} × Unit {0}))

pub each_setting : (s : Settings) → Unit {0} → KeepsSettingsParts (settings_parts s)
each_setting s k = ((tt, tt), (tt, (tt, tt)))

pub settings_apart : IsToldApart put_settings (λ _. Unit {0})
settings_apart = parts_apart put_settings_parts KeepsSettingsParts (λ _. Unit {0}) settings_parts
    (pair_apart (put_pair put_bool put_bool) (λ p. Unit {0} × Unit {0}) bools_apart
    (put_pair put_bool (put_pair put_multiple put_mode)) (λ p. Unit {0} × (Unit {0} × Unit {0})) modes_apart)
    each_setting
    (λ v w e. ap (λ p. record { write_cache = p.0.0; look_ahead = p.0.1; auto_activate = p.1.0; multiple = p.1.1.0; mode = p.1.1.1 }) e)

page_parts_apart : IsToldApart put_page_parts KeepsPageParts
page_parts_apart = pair_apart
    (put_pair put_number put_number) (λ p. (p.0 < 2 ^ 8) × (p.1 < 2 ^ 16))
    (pair_apart put_number (λ n. n < 2 ^ 8) (λ a b x y k l e. number_apart a b x y e) put_number (λ n. n < 2 ^ 16) (λ a b x y k l e. number_apart a b x y e))
    (put_pair put_number put_bool) (λ p. (p.0 < 2 ^ 16) × Unit {0})
    (pair_apart put_number (λ n. n < 2 ^ 16) (λ a b x y k l e. number_apart a b x y e) put_bool (λ _. Unit {0}) (λ a b x y k l e. bool_apart a b x y e))

pub page_apart : IsToldApart put_page KeepsPage
page_apart = parts_apart put_page_parts KeepsPageParts KeepsPage page_parts page_parts_apart (λ v k. k)
    (λ v w e. ap (λ p. record { log = p.0.0; page = p.0.1; count = p.1.0; dma = p.1.1 }) e)
