-- The decoder serves what the IDENTIFY DEVICE data claim.
use Rattle.std.proofs.{Common.{◌≡◌, ℕ, ◌+◌, ◌≤◌, Bool, true, false, IsTrue, refl, arith, sym, ap, ◌∙◌}, lemmas.Bool.{le-leb, lt-leb}}
use Rattle.std.specs.{Prelude.{List, ◌∷◌, [], not, ◌&&◌, ◌||◌, nat_le, if◌then◌else◌}, List.list_all}
use Rattle.fis_view.specs.{Bits.bits, Table.{field, places, spelled}}
use Rattle.ata_command.specs.{Asks.{DiskFacts, asked, setting_of}, declared.{asked.Asked.Asked, settings.Settings.Settings}}
use Rattle.disk_pages.specs.{Claims.{AreDecoded, AreServed, bit_of, general, is_refused, is_served, is_set, subcommands}, Identity.bits_if}
use Rattle.disk_pages.specs.{Identity.{identity_word, place_word}, Profiles.{facts_of, trim_blocks}, declared.profile.Profile.Profile}

abbrev disk : ℕ → ℕ → ℕ → DiskFacts
disk n d t = record { sectors = n; depth = d; trim_blocks = t }

abbrev Served : Asked → Type 0
Served a = not (is_refused a) ≡ true

-- a command that moves sectors, before others
moves : (b : Bool) (x y : Asked) (rest : Bool) → b ≡ true → Served x → rest ≡ true → (not (is_refused (if b then x else y)) && rest) ≡ true
moves true x y rest e f g = rw f g
moves false x y rest e f g = absurd (cc)

-- a queued one
tagged : (d b : Bool) (w x y : Asked) (rest : Bool) → d ≡ false → b ≡ true → Served x → rest ≡ true
    → (not (is_refused (if d then w else (if b then x else y))) && rest) ≡ true
tagged false true w x y rest c e f g = rw f g
tagged true b w x y rest c e f g = absurd (cc)
tagged false false w x y rest c e f g = absurd (cc)

-- what every ATA device has, and what each bit promises
of_all : (n d t : ℕ) → nat_le 1 n ≡ true → list_all (is_served (disk n d t)) general ≡ true
unfolding asked field places spelled bits
of_all n d t e = moves _ _ _ _ e refl (moves _ _ _ _ e refl (moves _ _ _ _ e refl refl))

of_multiple : (n d t : ℕ) → nat_le 1 n ≡ true → list_all (is_served (disk n d t)) (0xC4 ∷ 0xC5 ∷ 0xC6 ∷ []) ≡ true
unfolding asked field places spelled bits
of_multiple n d t e = moves _ _ _ _ e refl (moves _ _ _ _ e refl refl)

of_dma : (n d t : ℕ) → nat_le 1 n ≡ true → list_all (is_served (disk n d t)) (0xC8 ∷ 0xCA ∷ []) ≡ true
unfolding asked field places spelled bits
of_dma n d t e = moves _ _ _ _ e refl (moves _ _ _ _ e refl refl)

of_queue : (n d t : ℕ) → nat_le 1 n ≡ true → nat_le d 0 ≡ false → list_all (is_served (disk n d t)) (0x60 ∷ 0x61 ∷ 0x2F ∷ []) ≡ true
unfolding asked field places spelled bits
of_queue n d t e f = tagged _ _ _ _ _ _ f e refl (tagged _ _ _ _ _ _ f e refl refl)

of_48_bits : (n d t : ℕ) → nat_le 1 n ≡ true
    → list_all (is_served (disk n d t)) (0x24 ∷ 0x34 ∷ 0x25 ∷ 0x35 ∷ 0x29 ∷ 0x39 ∷ 0x42 ∷ 0xEA ∷ []) ≡ true
unfolding asked field places spelled bits
of_48_bits n d t e = moves _ _ _ _ e refl (moves _ _ _ _ e refl (moves _ _ _ _ e refl (moves _ _ _ _ e refl
    (moves _ _ _ _ e refl (moves _ _ _ _ e refl (moves _ _ _ _ e refl refl))))))

of_fua : (n d t : ℕ) → nat_le 1 n ≡ true → list_all (is_served (disk n d t)) (0x3D ∷ 0xCE ∷ []) ≡ true
unfolding asked field places spelled bits
of_fua n d t e = moves _ _ _ _ e refl (moves _ _ _ _ e refl refl)

trimmed : (n d : ℕ) (t : Bool) → (list_all (is_served (disk n d (trim_blocks t))) (0x06 ∷ []) || not (bit_of 0 (bits_if t 1))) ≡ true
unfolding asked field places spelled bits
trimmed n d true = refl
trimmed n d false = refl

both : (a b : Bool) → a ≡ true → b ≡ true → (a && b) ≡ true
both true b e f = f
both false b e f = absurd (cc)

-- the claim of a bit, before others
claimed : (a b rest : Bool) → a ≡ true → rest ≡ true → ((a || b) && rest) ≡ true
claimed true b rest e f = f
claimed false b rest e f = absurd (cc)

all_set : (s : Settings) → IsTrue (list_all (is_set s) subcommands)
all_set s = refl

all_kept : (p : Profile) (s : Settings) → nat_le 1 p.capacity ≡ true → nat_le p.depth 0 ≡ false → AreServed p s (is_served (facts_of p))
unfolding asked field places spelled bits identity_word place_word
all_kept p s e f =
    let n = p.capacity in let d = p.depth in let t = trim_blocks p.trim in
    claimed _ _ _ (of_all n d t e) (claimed _ _ _ (of_multiple n d t e) (claimed _ _ _ (of_dma n d t e) (claimed _ _ _ (of_queue n d t e f)
    (claimed _ _ _ (of_48_bits n d t e) (claimed _ _ _ (of_fua n d t e) (both _ _ (trimmed n d p.trim) refl))))))

pub decoded : (p : Profile) (s : Settings) → 1 ≤ p.capacity → 1 ≤ p.depth → AreDecoded p s
decoded p s some queues = record { commands = all_kept p s (le-leb _ _ some) (lt-leb _ _ queues); settings = all_set s }
