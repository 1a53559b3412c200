use Rattle.std.proofs.{Common.{◌≡◌, ℕ, ◌-◌, true, List, length, replicate, refl, zero, suc, arith, None}, lemmas.List.Folds.{list_all-append}}
use Rattle.disk_pages.specs.Texts.{is_graphic, is_text, padded, text_fault}

blanks_are_text : (n : ℕ) → is_text (replicate n 0x20) ≡ true
blanks_are_text zero = refl
blanks_are_text (suc n) = blanks_are_text n

-- what has no fault is a text
fitting_is_text : (room : ℕ) (text : List ℕ) → text_fault room text ≡ None → is_text text ≡ true
fitting_is_text room text e = grind arith

pub padded_is_text : (room : ℕ) (text : List ℕ) → text_fault room text ≡ None → is_text (padded room text) ≡ true
padded_is_text room text e =
    rw (
      list_all-append is_graphic text (replicate (room - length text) 0x20),
      fitting_is_text room text e,
      blanks_are_text (room - length text),
    ) refl
