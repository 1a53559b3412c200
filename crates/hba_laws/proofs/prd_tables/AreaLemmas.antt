-- For `tables_stay`. The structure area: rows of the received area, and bytes apart from it.
use Rattle.std.proofs.Common.{◌≡◌, ◌≢◌, ℕ, Bool, true, false, subst, ◌+◌, ◌-◌, ◌*◌, ◌<◌, ◌≤◌, List, ◌++◌, get_or, length, take, drop, refl, sym, ◌∙◌}
use Rattle.std.proofs.Common.{ap, arith, inl, inr, length-append, length-drop, length-take, get_or-drop, get_or-take, ext_get_or}
use Rattle.std.proofs.lemmas.{Bool.cases_lt, List.{length-take-le, get_or_append_left, get_or-append_right}}
use Rattle.std.specs.Prelude.{slice_index, Option, Some, None}
use Rattle.fis_view.specs.declared.view.Fis.{Fis}
use Rattle.host_memory.specs.{Memory.overwritten, Reading.{AgreeFrom, LieApart}}
use Rattle.host_memory.proofs.Door.{agree_beside, length-overwritten, overwritten_beside}
use Rattle.rx_area.specs.Area.{row_of}
use Rattle.hba_fbs.specs.{Posting.area_at, Taking.{PostsIn, PostsOf}}
use Rattle.hba_laws.specs.{Isolation.row_with, Parts.own_row}

-- ---- a FIS is posted

-- in the row of its device
row_filled : (dev fb : ℕ) (fis : Option Fis) (s t : List ℕ) → PostsOf fb dev fis s t → Some (row_of (area_at t fb) dev) ≡ row_with (Some (row_of (area_at s fb) dev)) fis
row_filled dev fb None s t posts = ap (λ (x : List ℕ). Some (row_of (area_at x fb) dev)) posts
row_filled dev fb (Some fis) s t posts = ap Some posts.own

no_row : (fis : Option Fis) → None ≡ row_with None fis
no_row None = refl
no_row (Some fis) = refl

pub row_posted : (dev fb : ℕ) (on : Bool) (row : Option ℕ) (fis : Option Fis) (s t : List ℕ) → (on ≡ true → row ≡ Some dev) → PostsIn fb row fis s t
    → own_row on fb t dev ≡ row_with (own_row on fb s dev) fis
row_posted dev fb true row fis s t is posts = row_filled dev fb fis s t (subst (λ (o : Option ℕ). PostsIn fb o fis s t) (is refl) posts)
row_posted dev fb false row fis s t is posts = no_row fis

beside_posted : (n dev fb : ℕ) (fis : Option Fis) (s t : List ℕ) → n ≢ dev → PostsOf fb dev fis s t → row_of (area_at t fb) n ≡ row_of (area_at s fb) n
beside_posted n dev fb None s t ne posts = ap (λ (x : List ℕ). row_of (area_at x fb) n) posts
beside_posted n dev fb (Some fis) s t ne posts = posts.others n ne

pub row_beside_posted : (n dev fb : ℕ) (on : Bool) (row : Option ℕ) (fis : Option Fis) (s t : List ℕ) → n ≢ dev → (on ≡ true → row ≡ Some dev) → PostsIn fb row fis s t
    → own_row on fb t n ≡ own_row on fb s n
row_beside_posted n dev fb true row fis s t ne is posts = ap Some (beside_posted n dev fb fis s t ne (subst (λ (o : Option ℕ). PostsIn fb o fis s t) (is refl) posts))
row_beside_posted n dev fb false row fis s t ne is posts = refl

bytes_below : (k i : ℕ) (s t : List ℕ) → i < k → take k t ≡ take k s → slice_index s i ≡ slice_index t i
bytes_below k i s t lt same = sym (get_or-take k s i 0 lt) ∙ ap (λ (x : List ℕ). get_or x i 0) (sym same) ∙ get_or-take k t i 0 lt

bytes_behind : (k i : ℕ) (s t : List ℕ) → k ≤ i → drop k t ≡ drop k s → slice_index s i ≡ slice_index t i
bytes_behind k i s t le same =
    let at : k + (i - k) ≡ i = omega arith in
    ap (slice_index s) (sym at) ∙ sym (get_or-drop k s (i - k) 0) ∙ ap (λ (x : List ℕ). get_or x (i - k) 0) (sym same) ∙ get_or-drop k t (i - k) 0 ∙ ap (slice_index t) at

-- bytes apart from the received area stay
apart_of : (at count fb dev : ℕ) (fis : Option Fis) (s t : List ℕ) → LieApart at count fb 4096 → PostsOf fb dev fis s t → AgreeFrom at count s t
apart_of at count fb dev None s t apart posts = λ i h. ap (λ (x : List ℕ). slice_index x (at + i)) (sym posts)
apart_of at count fb dev (Some fis) s t apart posts = λ i h.
    elim apart [
      | inl before ↦ bytes_below fb (at + i) s t (omega (arith, before, h)) posts.before
      | inr after ↦ bytes_behind (fb + 4096) (at + i) s t (omega (arith, after, h)) posts.behind
    ]

pub apart_posted : (at count fb : ℕ) (row : Option ℕ) (fis : Option Fis) (s t : List ℕ) → LieApart at count fb 4096 → PostsIn fb row fis s t → AgreeFrom at count s t
apart_posted at count fb None fis s t apart posts = λ i h. ap (λ (x : List ℕ). slice_index x (at + i)) (sym posts)
apart_posted at count fb (Some row) fis s t apart posts = apart_of at count fb row fis s t apart posts

-- ---- the software writes a row

length_row : (fb n : ℕ) (s : List ℕ) → n < 16 → fb + 4096 ≤ length s → length (row_of (area_at s fb) n) ≡ 256
length_row fb n s lt inside =
    let a = length-take 256 (drop (256 * n) (area_at s fb)) in
    let b = length-drop (256 * n) (area_at s fb) in
    let c = length-take 4096 (drop fb s) in
    let d = length-drop fb s in
    omega (arith, a, b, c, d)

row_get : (fb n i : ℕ) (s : List ℕ) → n < 16 → i < 256 → get_or (row_of (area_at s fb) n) i 0 ≡ get_or s (fb + (256 * n + i)) 0
row_get fb n i s lt below =
    get_or-take 256 (drop (256 * n) (area_at s fb)) i 0 below ∙ get_or-drop (256 * n) (area_at s fb) i 0 ∙ get_or-take 4096 (drop fb s) (256 * n + i) 0 (omega arith)
    ∙ get_or-drop fb s (256 * n + i) 0

overwritten_at : (old : List ℕ) (place : ℕ) (bytes : List ℕ) (i : ℕ) → place + length bytes ≤ length old → i < length bytes → slice_index (overwritten old place bytes) (place + i) ≡ slice_index bytes i
overwritten_at old place bytes i room lt =
    let front = take place old in
    let rest = drop (place + length bytes) old in
    let long : length front ≡ place = length-take-le place old (omega arith) in
    let both : length (front ++ bytes) ≡ place + length bytes = length-append front bytes ∙ rw long refl in
    let e : place + i - place ≡ i = omega arith in
    get_or_append_left (front ++ bytes) rest 0 (place + i) (omega arith) ∙ get_or-append_right front bytes place (place + i) 0 long (omega arith) ∙ ap (slice_index bytes) e

pub row_rewritten : (fb dev : ℕ) (row s : List ℕ) → dev < 16 → fb + 4096 ≤ length s → length row ≡ 256 → row_of (area_at (overwritten s (fb + 256 * dev) row) fb) dev ≡ row
row_rewritten fb dev row s lt inside long =
    let room : fb + 256 * dev + length row ≤ length s = omega arith in
    let same = length-overwritten s (fb + 256 * dev) row room in
    let is : length (row_of (area_at (overwritten s (fb + 256 * dev) row) fb) dev) ≡ 256 = length_row fb dev (overwritten s (fb + 256 * dev) row) lt (omega arith) in
    ext_get_or 0 (row_of (area_at (overwritten s (fb + 256 * dev) row) fb) dev) row (is ∙ sym long) (λ i h.
    let below : i < 256 = omega (arith, is, h) in
    let e : fb + (256 * dev + i) ≡ fb + 256 * dev + i = omega arith in
    row_get fb dev i (overwritten s (fb + 256 * dev) row) lt below ∙ ap (slice_index (overwritten s (fb + 256 * dev) row)) e ∙ overwritten_at s (fb + 256 * dev) row i room (omega arith))

pub row_beside : (fb dev n : ℕ) (row s : List ℕ) → dev < 16 → n < 16 → n ≢ dev → fb + 4096 ≤ length s → length row ≡ 256
    → row_of (area_at (overwritten s (fb + 256 * dev) row) fb) n ≡ row_of (area_at s fb) n
row_beside fb dev n row s lt lt2 ne inside long =
    let room : fb + 256 * dev + length row ≤ length s = omega arith in
    let same = length-overwritten s (fb + 256 * dev) row room in
    let is : length (row_of (area_at (overwritten s (fb + 256 * dev) row) fb) n) ≡ 256 = length_row fb n (overwritten s (fb + 256 * dev) row) lt2 (omega arith) in
    let was : length (row_of (area_at s fb) n) ≡ 256 = length_row fb n s lt2 inside in
    ext_get_or 0 (row_of (area_at (overwritten s (fb + 256 * dev) row) fb) n) (row_of (area_at s fb) n) (is ∙ sym was) (λ i h.
    let below : i < 256 = omega (arith, is, h) in
    let apart : LieApart (fb + (256 * n + i)) 1 (fb + 256 * dev) (length row) = elim (cases_lt n dev) [ inl before ↦ inl (omega arith) | inr after ↦ inr (omega arith) ] in
    row_get fb n i (overwritten s (fb + 256 * dev) row) lt2 below ∙ overwritten_beside s (fb + 256 * dev) row (fb + (256 * n + i)) room apart ∙ sym (row_get fb n i s lt2 below))

-- a row that is written into an area, which stays as long, lies inside
pub row_inside : (old : List ℕ) (place : ℕ) (row : List ℕ) (n : ℕ) → length old ≡ n → length (overwritten old place row) ≡ n → 0 < length row → place + length row ≤ length old
row_inside old place row n was is some =
    let a = length-append (take place old ++ row) (drop (place + length row) old) in
    let b = length-append (take place old) row in
    let c = length-take place old in
    let d = length-drop (place + length row) old in
    omega (arith, a, b, c, d)

-- bytes apart from the received area stay then too
pub apart_rewritten : (at count fb dev : ℕ) (row s : List ℕ) → dev < 16 → length row ≡ 256 → fb + 256 * dev + length row ≤ length s → LieApart at count fb 4096
    → AgreeFrom at count s (overwritten s (fb + 256 * dev) row)
apart_rewritten at count fb dev row s lt long room apart =
    agree_beside s (fb + 256 * dev) row at count room (elim apart [ inl before ↦ inl (omega (arith, before)) | inr after ↦ inr (omega (arith, after)) ])
