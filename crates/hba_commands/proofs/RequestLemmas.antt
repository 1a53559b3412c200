-- Which bytes have the view of a Register Host to Device FIS: those whose first is 27h.
use Rattle.std.proofs.Common.{◌≡◌, ℕ, ◌%◌, ◌<◌, Bool, true, false, List, slice_index, length, Some, None, Result, Ok, Err, refl, sym, ap, ◌∙◌}
use Rattle.std.proofs.{Common.{if◌then◌else◌, inl, inr, arith}, lemmas.Bool.{cases_Bool, eqb-true}}
use Rattle.std.specs.{Prelude.{◌==◌}, Result.result_ok, Int.from_bool}
use Rattle.fis_view.specs.Table.{Kind, H2d, D2h, Activate, Setup, Data, Pio, Bits, Other, PmPort, C, Command, Features, Count, places, field}
use Rattle.fis_view.specs.{Seen.{kind_of, may_have, seen, view_as}, declared.view.{Fis.Fis, FisFault.{FisFault, TheVariants.WrongLength}}}
use Rattle.fis_view.specs.{Built.{IsBuilt, cut, h2d_given}, declared.build.H2dFields.H2dFields}
use Rattle.fis_view.specs.declared.view.Fis.TheVariants as view
use Rattle.hba_commands.specs.Requests.{request_at, request_in, request_of}
use Rattle.hba_commands.proofs.HeaderLemmas.{bool_small, bool_back}

if_ok : (b : Bool) (a x : Fis) (e : FisFault) → (if b then Ok a else Err e) ≡ Ok x → a ≡ x
if_ok true a x e h = cc
if_ok false a x e h = cc

view_is_h2d : (k : Kind) (f g : List ℕ) → view_as k f ≡ view.RegH2D g → (k ≡ H2d) × (f ≡ g)
view_is_h2d H2d f g h = (refl, cc)
view_is_h2d D2h f g h = cc
view_is_h2d Activate f g h = cc
view_is_h2d Setup f g h = cc
view_is_h2d Data f g h = cc
view_is_h2d Pio f g h = cc
view_is_h2d Bits f g h = cc
view_is_h2d Other f g h = cc

first_test : (a b c d e f g : Bool) → (if a then H2d else if b then D2h else if c then Activate else if d then Setup else if e then Data else if f then Pio else if g then Bits else Other) ≡ H2d → a ≡ true
first_test true b c d e f g h = refl
first_test false true c d e f g h = cc
first_test false false true d e f g h = cc
first_test false false false true e f g h = cc
first_test false false false false true f g h = cc
first_test false false false false false true g h = cc
first_test false false false false false false true h = cc
first_test false false false false false false false h = cc

-- the type of bytes that are seen so
type_of_seen : (f g : List ℕ) → seen f ≡ Ok (view.RegH2D g) → ((slice_index f 0 == 0x27) ≡ true) × (f ≡ g)
unfolding seen
type_of_seen f g h =
    let t = slice_index f 0 in
    let is = view_is_h2d (kind_of f) f g (if_ok (may_have (kind_of f) (length f)) (view_as (kind_of f) f) (view.RegH2D g) WrongLength h) in
    (first_test (t == 0x27) (t == 0x34) (t == 0x39) (t == 0x41) (t == 0x46) (t == 0x5F) (t == 0xA1) is.0, is.1)

-- the view of bytes of this type
seen_of_type : (f : List ℕ) → length f ≡ 20 → (slice_index f 0 == 0x27) ≡ true → seen f ≡ Ok (view.RegH2D f)
unfolding seen
seen_of_type f long type = rw (type, long) refl

ok_is : (r : Result Fis FisFault) (fis : Fis) → Some fis ≡ result_ok r → r ≡ Ok fis
ok_is (Ok x) fis h = cc
ok_is (Err e) fis h = cc

-- bytes under this view are a request
pub request_seen : (f g : List ℕ) (r : Result Fis FisFault) (fis : Fis) → r ≡ seen f → Some fis ≡ result_ok r → fis ≡ view.RegH2D g → Some (request_in g) ≡ request_at f
request_seen f g r fis was h is =
    let told = type_of_seen f g (sym was ∙ ok_is r fis h ∙ ap Ok is) in
    rw told.0 (ap (λ (x : List ℕ). Some (request_in x)) (sym told.1))

-- bytes under another view, or none, are not
pub not_requested : (f : List ℕ) (r : Result Fis FisFault) → length f ≡ 20 → r ≡ seen f → ((g : List ℕ) → Some (view.RegH2D g) ≡ result_ok r → ⊥) → None ≡ request_at f
not_requested f r long was never =
    elim (cases_Bool (slice_index f 0 == 0x27)) [
      | inl type ↦ absurd (never f (sym (ap result_ok (was ∙ seen_of_type f long type))))
      | inr other ↦ rw other refl
    ]

long_of_seen : (f g : List ℕ) → seen f ≡ Ok (view.RegH2D g) → length f ≡ 20
unfolding seen
long_of_seen f g h =
    let type = (type_of_seen f g h).0 in
    elim (cases_Bool (length f == 20)) [
      | inl long ↦ eqb-true (length f) 20 long
      | inr other ↦ let none : seen f ≡ Err WrongLength = rw (type, other) refl in cc
    ]

-- the bytes that are built of fields
pub built_long : (fields : H2dFields) (cfis : List ℕ) → IsBuilt H2d (h2d_given fields) cfis → length cfis ≡ 20
built_long fields cfis built = long_of_seen cfis cfis built.viewed

-- the fields of a struct that say what the command is fit their types
pub record FitsFields (fields : H2dFields) : Type 0 where
  pub command : fields.command < 256
  pub features : fields.features < 65536
  pub count : fields.count < 65536

-- they are a request, and the one that the fields are
pub built_request : (fields : H2dFields) (cfis : List ℕ) → IsBuilt H2d (h2d_given fields) cfis → FitsFields fields → request_at cfis ≡ Some (request_of fields)
unfolding places cut
built_request fields cfis built fits =
    let type = (type_of_seen cfis cfis built.viewed).0 in
    let small = bool_small fields.c in
    let port : field H2d PmPort cfis ≡ fields.pm_port % 16 = omega (arith, built.fields PmPort) in
    let c : field H2d C cfis ≡ from_bool fields.c = omega (arith, built.fields C, small) in
    let command : field H2d Command cfis ≡ fields.command = omega (arith, built.fields Command, fits.command) in
    let features : field H2d Features cfis ≡ fields.features = omega (arith, built.fields Features, fits.features) in
    let count : field H2d Count cfis ≡ fields.count = omega (arith, built.fields Count, fits.count) in
    rw (type, port, c, command, features, count, bool_back fields.c) refl
