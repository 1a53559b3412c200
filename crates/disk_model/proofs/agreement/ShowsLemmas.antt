-- For `answers_each_command_once`. What the FISes that a disk sends tell.
use Rattle.std.proofs.{Common.{◌≡◌, ◌==◌, ℕ, ◌%◌, ◌^◌, ◌<◌, Bool, true, false, List, [], ◌∷◌, refl, sym, subst, ◌∙◌, arith}, lemmas.Bool.and_parts}
use Rattle.std.proofs.lemmas.Bool.{true≢false}
use Rattle.std.specs.{Prelude.{not, ◌&&◌}, Int.from_bool}
use Rattle.fis_view.specs.{Table.{A, Run, Setup, Bits, BufferId, Offset, D, Count, Status, Error, SActive, field, places}, Built.cut}
use Rattle.disk_model.specs.{Sendings.{Shows, setup, bits}, Ledger.{has_error, is_auto}, Between.TellsSetup}

cut_run : (byte low n x : ℕ) → x % 2 ^ n ≡ x → cut (Run byte low n ∷ []) x ≡ x
unfolding cut
cut_run byte low n x small = omega (arith, small)

small_bool : (d : Bool) → from_bool d % 2 ^ 1 ≡ from_bool d
small_bool true = refl
small_bool false = refl

pub setup_tells : (tag offset count : ℕ) (d auto : Bool) (b : List ℕ) → tag < 32 → offset < 4294967296 → count < 4294967296 → Shows (setup tag offset count d auto) b → TellsSetup tag offset count d b
unfolding places
setup_tells tag offset count d auto b t o n shows =
    let small_tag : tag % 2 ^ 64 ≡ tag = omega arith in
    let small_offset : offset % 2 ^ 32 ≡ offset = omega arith in
    let small_count : count % 2 ^ 32 ≡ count = omega arith in
    record {
      viewed = shows.viewed;
      tag_is = shows.fields BufferId ∙ cut_run 4 0 64 tag small_tag;
      offset_is = shows.fields Offset ∙ cut_run 16 0 32 offset small_offset;
      count_is = shows.fields Count ∙ cut_run 20 0 32 count small_count;
      direction_is = shows.fields D ∙ cut_run 1 5 1 (from_bool d) (small_bool d);
    }

bits_of_auto : (d auto : Bool) → (from_bool (auto && not d) == 1 && not (from_bool d == 1)) ≡ (auto && not d)
bits_of_auto true true = refl
bits_of_auto true false = refl
bits_of_auto false true = refl
bits_of_auto false false = refl

-- it has auto-activate
pub auto_tells : (tag offset count : ℕ) (d auto : Bool) (b : List ℕ) → Shows (setup tag offset count d auto) b
    → is_auto b ≡ (auto && not d)
unfolding places
auto_tells tag offset count d auto b shows =
    let a : field Setup A b ≡ from_bool (auto && not d) = shows.fields A ∙ cut_run 1 7 1 (from_bool (auto && not d)) (small_bool (auto && not d)) in
    let way : field Setup D b ≡ from_bool d = shows.fields D ∙ cut_run 1 5 1 (from_bool d) (small_bool d) in
    rw (a, way) (bits_of_auto d auto)

-- towards the host it has none
pub auto_none : (auto write : Bool) → write ≡ false → (auto && not (not write)) ≡ false
auto_none true write reads = rw reads refl
auto_none false write reads = refl

-- towards the device it has what the plan says
pub auto_same : (auto write : Bool) → write ≡ true → (auto && not (not write)) ≡ auto
auto_same true write writes = rw writes refl
auto_same false write writes = refl

-- Data to the device: D is clear
pub write_of_auto : (a d : ℕ) (write : Bool) → d ≡ from_bool (not write) → (a == 1 && not (d == 1)) ≡ true → write ≡ true
write_of_auto a d true is auto = refl
write_of_auto a d false is auto =
    let clear : not (d == 1) ≡ true = (and_parts (a == 1) (not (d == 1)) auto).1 in
    absurd (true≢false (sym (subst (λ (n : ℕ). not (n == 1) ≡ true) is clear)))

pub error_tells : (error : ℕ) (b : List ℕ) → Shows (bits 0x41 error 0) b → has_error b ≡ true
unfolding places cut
error_tells error b shows = let e : field Bits Status b ≡ 0x41 = shows.fields Status in rw e refl

pub error_field_tells : (error : ℕ) (b : List ℕ) → error < 256 → Shows (bits 0x41 error 0) b → field Bits Error b ≡ error
unfolding places
error_field_tells error b small shows =
    let e : error % 2 ^ 8 ≡ error = omega arith in
    shows.fields Error ∙ cut_run 3 0 8 error e

pub end_tells : (sactive : ℕ) (b : List ℕ) → Shows (bits 0x50 0 sactive) b → has_error b ≡ false
unfolding places cut
end_tells sactive b shows = let e : field Bits Status b ≡ 0x50 = shows.fields Status in rw e refl

pub sactive_tells : (sactive : ℕ) (b : List ℕ) → sactive < 4294967296 → Shows (bits 0x50 0 sactive) b → field Bits SActive b ≡ sactive
unfolding places
sactive_tells sactive b small shows =
    let e : sactive % 2 ^ 32 ≡ sactive = omega arith in
    shows.fields SActive ∙ cut_run 4 0 32 sactive e
