-- What a disk is as words.
use Rattle.std.specs.{Prelude.{◌≡◌, ℕ, ◌<◌, ◌≤◌, ◌^◌, List, ◌∷◌, length, IsTrue, Option, Bool, refl}, List.AllByRecursion}
use Rattle.std.proofs.Common.{ap, sym, ◌∙◌}
use Rattle.saved_state.specs.State.{IsToldApart, KeepsOption, all_apart, bool_apart, number_apart, option_apart, parts_apart, put_all, put_bool}
use Rattle.saved_state.specs.State.{put_number, put_option, put_three, three_apart}
use Rattle.disk_pages.specs.{Texts.is_text, declared.log.LogPage.{LogPage, TheVariants.{Directory, NcqError, PageList, Identity}}}
use Rattle.disk_pages.specs.declared.profile.{PhysicalSector.{PhysicalSector, TheVariants.{Bytes512, Bytes4096}}, Profile.Profile, Rotation.Rotation}
use Rattle.disk_pages.specs.declared.profile.Rotation.TheVariants.{Unknown, Solid, Rotates}

-- ## Pages of logs

abbrev pub page_number : LogPage → ℕ
page_number Directory = 1
page_number NcqError = 2
page_number PageList = 3
page_number Identity = 4

abbrev pub put_page : LogPage → List ℕ → List ℕ
put_page page rest = page_number page ∷ rest

-- ## Texts: each character a word

abbrev pub put_text : List ℕ → List ℕ → List ℕ
put_text = put_all put_number

abbrev pub AreBytes : (room : ℕ) → List ℕ → Type 0
AreBytes room text = (length text ≡ room) × AllByRecursion (λ n. n < 2 ^ 8) text

abbrev pub KeepsText : (room : ℕ) → List ℕ → Type 0
KeepsText room text = AreBytes room text × IsTrue (is_text text)

-- ## Numbers

abbrev pub IsCapacity : ℕ → Type 0
IsCapacity n = (1 ≤ n) × (n < 0x1000000000000)

abbrev pub IsDepth : ℕ → Type 0
IsDepth n = (1 ≤ n) × (n ≤ 32)

abbrev pub IsSpeed : ℕ → Type 0
IsSpeed n = (0x401 ≤ n) × (n ≤ 0xFFFE)

-- ## The medium

abbrev pub put_rotation : Rotation → List ℕ → List ℕ
put_rotation Unknown rest = 1 ∷ rest
put_rotation Solid rest = 2 ∷ rest
put_rotation (Rotates turns) rest = 3 ∷ put_number turns rest

abbrev pub KeepsRotation : Rotation → Type 0
KeepsRotation (Rotates turns) = IsSpeed turns
KeepsRotation _ = Unit {0}

abbrev pub physical_number : PhysicalSector → ℕ
physical_number Bytes512 = 1
physical_number Bytes4096 = 2

abbrev pub put_physical : PhysicalSector → List ℕ → List ℕ
put_physical physical rest = physical_number physical ∷ rest

-- ## A profile: its texts, its numbers, its medium

abbrev pub Texts : Type 0
Texts = List ℕ × List ℕ × List ℕ

abbrev pub put_texts : Texts → List ℕ → List ℕ
put_texts = put_three put_text put_text put_text

abbrev pub KeepsTexts : Texts → Type 0
KeepsTexts t = KeepsText 40 t.0 × KeepsText 20 t.1 × KeepsText 8 t.2

abbrev pub Numbers : Type 0
Numbers = Option ℕ × ℕ × ℕ

abbrev pub put_numbers : Numbers → List ℕ → List ℕ
put_numbers = put_three (put_option put_number) put_number put_number

abbrev pub KeepsNumbers : Numbers → Type 0
KeepsNumbers n = KeepsOption (λ wwn. wwn < 2 ^ 64) n.0 × IsCapacity n.1 × IsDepth n.2

abbrev pub Medium : Type 0
Medium = Rotation × PhysicalSector × Bool

abbrev pub put_medium : Medium → List ℕ → List ℕ
put_medium = put_three put_rotation put_physical put_bool

abbrev pub KeepsMedium : Medium → Type 0
KeepsMedium m = KeepsRotation m.0 × Unit {0} × Unit {0}

abbrev pub ProfileParts : Type 0
ProfileParts = Texts × Numbers × Medium

abbrev pub profile_parts : Profile → ProfileParts
profile_parts p = ((p.model, p.serial, p.firmware), (p.wwn, p.capacity, p.depth), (p.rotation, p.physical, p.trim))

abbrev pub put_profile_parts : ProfileParts → List ℕ → List ℕ
put_profile_parts = put_three put_texts put_numbers put_medium

abbrev pub KeepsProfileParts : ProfileParts → Type 0
KeepsProfileParts p = KeepsTexts p.0 × KeepsNumbers p.1 × KeepsMedium p.2

abbrev pub put_profile : Profile → List ℕ → List ℕ
put_profile p rest = put_profile_parts (profile_parts p) rest

abbrev pub KeepsProfile : Profile → Type 0
KeepsProfile p = KeepsProfileParts (profile_parts p)

-- ## Words are those of one value

page_same : (a b : LogPage) → page_number a ≡ page_number b → a ≡ b
page_same Directory Directory e = refl
page_same NcqError NcqError e = refl
page_same PageList PageList e = refl
page_same Identity Identity e = refl
page_same a b e = absurd (cc)

pub page_apart : IsToldApart put_page (λ _. Unit {0})
page_apart a b x y k l e = let same : page_number a ≡ page_number b = cc in (page_same a b same, cc)

pub bytes_apart : (room : ℕ) → IsToldApart put_text (AreBytes room)
bytes_apart room a b x y k l e = all_apart put_number (λ n. n < 2 ^ 8) (λ a b x y k l e. number_apart a b x y e) a b x y (k.0 ∙ sym l.0) k.1 l.1 e

pub text_apart : (room : ℕ) → IsToldApart put_text (KeepsText room)
text_apart room a b x y k l e = bytes_apart room a b x y k.0 l.0 e

pub rotation_apart : IsToldApart put_rotation KeepsRotation
rotation_apart Unknown Unknown x y k l e = (refl, cc)
rotation_apart Solid Solid x y k l e = (refl, cc)
rotation_apart (Rotates a) (Rotates b) x y k l e = (cc, cc)
rotation_apart a b x y k l e = absurd (cc)

physical_same : (a b : PhysicalSector) → physical_number a ≡ physical_number b → a ≡ b
physical_same Bytes512 Bytes512 e = refl
physical_same Bytes4096 Bytes4096 e = refl
physical_same a b e = absurd (cc)

pub physical_apart : IsToldApart put_physical (λ _. Unit {0})
physical_apart a b x y k l e = let same : physical_number a ≡ physical_number b = cc in (physical_same a b same, cc)

texts_apart : IsToldApart put_texts KeepsTexts
texts_apart = three_apart put_text (KeepsText 40) (text_apart 40) put_text (KeepsText 20) (text_apart 20) put_text (KeepsText 8) (text_apart 8)

numbers_apart : IsToldApart put_numbers KeepsNumbers
numbers_apart = three_apart
    (put_option put_number) (KeepsOption (λ n. n < 2 ^ 64)) (option_apart put_number (λ n. n < 2 ^ 64) (λ a b x y k l e. number_apart a b x y e))
    put_number IsCapacity (λ a b x y k l e. number_apart a b x y e)
    put_number IsDepth (λ a b x y k l e. number_apart a b x y e)

medium_apart : IsToldApart put_medium KeepsMedium
medium_apart = three_apart put_rotation KeepsRotation rotation_apart put_physical (λ _. Unit {0}) physical_apart put_bool (λ _. Unit {0}) (λ a b x y k l e. bool_apart a b x y e)

pub profile_apart : IsToldApart put_profile KeepsProfile
profile_apart = parts_apart put_profile_parts KeepsProfileParts KeepsProfile profile_parts
    (three_apart put_texts KeepsTexts texts_apart put_numbers KeepsNumbers numbers_apart put_medium KeepsMedium medium_apart)
    (λ v k. k)
    (λ v w e. ap (λ p. record {
      model = p.0.0;
      serial = p.0.1;
      firmware = p.0.2;
      wwn = p.1.0;
      capacity = p.1.1;
      depth = p.1.2;
      rotation = p.2.0;
      physical = p.2.1;
      trim = p.2.2;
    }) e)
