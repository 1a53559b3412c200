-- Sets of bytes, dword by dword.
use Rattle.std.proofs.Common.{◌≡◌, ℕ, zero, suc, ◌+◌, ◌-◌, ◌*◌, ◌/◌, ◌%◌, ◌<◌, ◌≤◌, Bool, true, false, not, ◌&&◌, ◌||◌, nat_eq, nat_lt, nat_le, cond, List, [], ◌∷◌, ◌++◌, get_or, length, replicate, refl, sym, ◌∙◌, ap, arith, inl, inr, ◌⊎◌, count_by}
use Rattle.std.specs.List.{range_with_len, list_any}
use Rattle.std.proofs.lemmas.Bool.{cases_lt, eq-eqb, ne_eqb, le-leb, lt-leb, lt-ltb, le-ltb, false≢true, and_left, and_right, or_right, false_from_ne_true}
use Rattle.std.proofs.lemmas.List.{get_or-replicate, get_or_past, length-replicate}
use Rattle.std.proofs.lemmas.List.Folds.{list_any_at, list_all_at, Any-from_list_any}
use Rattle.std.proofs.lemmas.List.Sums.{sum_by_push, list_all-from_AllPass}
use Rattle.std.proofs.lemmas.List.FromFn.{length-range_with_len, get_or-range_with_len, length-map-range_with_len, get_or-map-range_with_len, fill_by_all}
use Rattle.slots.specs.Bytes.{is_over, begins, stretches_of, any_over, is_whole, came_of, is_within, with_bytes}

or_no : (x y : Bool) → y ≡ false → (x || y) ≡ x
or_no true y h = refl
or_no false y h = h

both_true : (x y : Bool) → x ≡ true → y ≡ true → (x && y) ≡ true
both_true x y hx hy = ap (λ (b : Bool). b && y) hx ∙ hy

not_self : (x : Bool) → (x && (false || not x)) ≡ false
not_self true = refl
not_self false = refl

-- one more number
pub range_more : (a n : ℕ) → range_with_len a (suc n) ≡ range_with_len a n ++ (a + n) ∷ []
range_more a zero = let e : a ≡ a + 0 = omega arith in ap (λ (m : ℕ). m ∷ []) e
range_more a (suc n) =
    let e : a + 1 + n ≡ a + suc n = omega arith in
    ap (λ (l : List ℕ). a ∷ l) (range_more (a + 1) n ∙ ap (λ (m : ℕ). range_with_len (a + 1) n ++ m ∷ []) e)

-- none of 0 bytes was transferred
pub any_of_none : (over : List Bool) (offset : ℕ) → any_over over offset 0 ≡ false
unfolding any_over
any_of_none over offset = refl

-- a byte that was transferred
pub any_at : (over : List Bool) (offset count k : ℕ) → k < count → is_over over (offset + k) ≡ true → any_over over offset count ≡ true
unfolding any_over
any_at over offset count k below h =
    list_any_at (is_over over) (range_with_len offset count) k 0 (rw (length-range_with_len offset count) below) (ap (is_over over) (get_or-range_with_len offset count k 0 below) ∙ h)

-- a transferred dword has one of these bytes
pub any_found : (over : List Bool) (offset count d : ℕ) → 0 < count → offset / 4 ≤ d → d < (offset + count - 1) / 4 + 1 → get_or over d false ≡ true → any_over over offset count ≡ true
any_found over offset count d some from to set =
    elim (cases_lt (4 * d) offset) [
      | inl before ↦ any_at over offset count 0 some (let e : (offset + 0) / 4 ≡ d = omega arith in ap (λ i. get_or over i false) e ∙ set)
      | inr there ↦ any_at over offset count (4 * d - offset) (omega arith) (let e : (offset + (4 * d - offset)) / 4 ≡ d = omega arith in ap (λ i. get_or over i false) e ∙ set)
    ]

-- none of their dwords was transferred
pub any_none : (over : List Bool) (offset count : ℕ) → 0 < count → ((d : ℕ) → offset / 4 ≤ d → d < (offset + count - 1) / 4 + 1 → get_or over d false ≡ false) → any_over over offset count ≡ false
unfolding any_over
any_none over offset count some none =
    false_from_ne_true (list_any (is_over over) (range_with_len offset count)) (λ h.
    let at = Any-from_list_any (is_over over) (range_with_len offset count) h in
    let k = at.0 in
    let lr = length-range_with_len offset count in
    let below : k < count = omega (arith, at.2, lr) in
    let is : offset + k ≡ at.1 = sym (get_or-range_with_len offset count k at.1 below) ∙ at.3 in
    false≢true (sym (none ((offset + k) / 4) (omega arith) (omega arith)) ∙ ap (is_over over) is ∙ at.4))

-- a dword that was not transferred
pub not_whole : (over : List Bool) (k : ℕ) → k < length over → get_or over k false ≡ false → is_whole over (4 * length over) ≡ false
unfolding is_whole
not_whole over k lt h =
    let n : ℕ = 4 * length over in
    list_all_at (is_over over) (range_with_len 0 n) (4 * k) 0 (rw (length-range_with_len 0 n) (omega arith))
    (ap (is_over over) (get_or-range_with_len 0 n (4 * k) 0 (omega arith)) ∙ (let e : (0 + 4 * k) / 4 ≡ k = omega arith in ap (λ i. get_or over i false) e) ∙ h)

-- every dword was transferred
pub all_whole : (over : List Bool) → ((k : ℕ) → k < length over → get_or over k false ≡ true) → is_whole over (4 * length over) ≡ true
unfolding is_whole
all_whole over h =
    let n : ℕ = 4 * length over in
    let lr = length-range_with_len 0 n in
    list_all-from_AllPass (is_over over) (range_with_len 0 n) (λ k d lt.
    let e : (0 + k) / 4 ≡ k / 4 = omega arith in
    let below : k < n = omega (arith, lr) in
    ap (is_over over) (get_or-range_with_len 0 n k d below) ∙ ap (λ (i : ℕ). get_or over i false) e ∙ h (k / 4) (omega arith))

pub count_more : (p : ℕ → Bool) (n : ℕ) → count_by p (range_with_len 0 (suc n)) ≡ count_by p (range_with_len 0 n) + cond (p n) 1 0
count_more p n =
    ap (count_by p) (range_more 0 n) ∙ sum_by_push (λ (x : ℕ). cond (p x) 1 0) (range_with_len 0 n) (0 + n) ∙ (let e : 0 + n ≡ n = omega arith in ap (λ (m : ℕ). count_by p (range_with_len 0 n) + cond (p m) 1 0) e)

-- four more bytes
count_dword : (p : ℕ → Bool) (n : ℕ) → count_by p (range_with_len 0 (n + 4)) ≡ count_by p (range_with_len 0 n) + cond (p n) 1 0 + cond (p (n + 1)) 1 0 + cond (p (n + 2)) 1 0 + cond (p (n + 3)) 1 0
count_dword p n =
    let e4 : n + 4 ≡ suc (suc (suc (suc n))) = omega arith in
    let e3 : suc (suc (suc n)) ≡ n + 3 = omega arith in
    let e2 : suc (suc n) ≡ n + 2 = omega arith in
    let e1 : suc n ≡ n + 1 = omega arith in
    ap (λ (m : ℕ). count_by p (range_with_len 0 m)) e4 ∙ count_more p (suc (suc (suc n))) ∙ ap (λ (x : ℕ). x + cond (p (suc (suc (suc n)))) 1 0) (count_more p (suc (suc n)) ∙ ap (λ (x : ℕ). x + cond (p (suc (suc n))) 1 0) (count_more p (suc n) ∙ ap (λ (x : ℕ). x + cond (p (suc n)) 1 0) (count_more p n)))
    ∙ ap (λ (m : ℕ). count_by p (range_with_len 0 n) + cond (p n) 1 0 + cond (p (suc n)) 1 0 + cond (p (suc (suc n))) 1 0 + cond (p m) 1 0) e3
    ∙ ap (λ (m : ℕ). count_by p (range_with_len 0 n) + cond (p n) 1 0 + cond (p (suc n)) 1 0 + cond (p m) 1 0 + cond (p (n + 3)) 1 0) e2
    ∙ ap (λ (m : ℕ). count_by p (range_with_len 0 n) + cond (p n) 1 0 + cond (p m) 1 0 + cond (p (n + 2)) 1 0 + cond (p (n + 3)) 1 0) e1

byte_of : (over : List Bool) (k i b : ℕ) → b ≡ 4 * k + i → i < 4 → is_over over b ≡ get_or over k false
byte_of over k i b is small = let e : b / 4 ≡ k = omega arith in ap (λ (d : ℕ). get_or over d false) e

four_times : (x : ℕ) (y : Bool) → x + cond y 1 0 + cond y 1 0 + cond y 1 0 + cond y 1 0 ≡ x + cond y 4 0
four_times x true = omega arith
four_times x false = omega arith

pub came_none : (over : List Bool) → came_of over 0 ≡ 0
unfolding came_of
came_none over = refl

-- one more dword that came, or did not
pub came_more : (over : List Bool) (k : ℕ) (b : Bool) → get_or over k false ≡ b → came_of over (4 * (k + 1)) ≡ came_of over (4 * k) + cond b 4 0
unfolding came_of
came_more over k b is =
    let p : ℕ → Bool = is_over over in
    let n : ℕ = 4 * k in
    let more : 4 * (k + 1) ≡ n + 4 = omega arith in
    let i0 : p n ≡ b = byte_of over k 0 n (omega arith) (omega arith) ∙ is in
    let i1 : p (n + 1) ≡ b = byte_of over k 1 (n + 1) (omega arith) (omega arith) ∙ is in
    let i2 : p (n + 2) ≡ b = byte_of over k 2 (n + 2) (omega arith) (omega arith) ∙ is in
    let i3 : p (n + 3) ≡ b = byte_of over k 3 (n + 3) (omega arith) (omega arith) ∙ is in
    ap (λ (m : ℕ). count_by p (range_with_len 0 m)) more ∙ count_dword p n
    ∙ ap (λ (c : Bool). count_by p (range_with_len 0 n) + cond c 1 0 + cond (p (n + 1)) 1 0 + cond (p (n + 2)) 1 0 + cond (p (n + 3)) 1 0) i0
    ∙ ap (λ (c : Bool). count_by p (range_with_len 0 n) + cond b 1 0 + cond c 1 0 + cond (p (n + 2)) 1 0 + cond (p (n + 3)) 1 0) i1
    ∙ ap (λ (c : Bool). count_by p (range_with_len 0 n) + cond b 1 0 + cond b 1 0 + cond c 1 0 + cond (p (n + 3)) 1 0) i2
    ∙ ap (λ (c : Bool). count_by p (range_with_len 0 n) + cond b 1 0 + cond b 1 0 + cond b 1 0 + cond c 1 0) i3
    ∙ four_times (count_by p (range_with_len 0 n)) b

-- the dword before was transferred
abbrev pub before : List Bool → ℕ → Bool
before over k = nat_lt 0 k && get_or over (k - 1) false

pub no_stretches : (over : List Bool) → stretches_of over 0 ≡ 0
unfolding stretches_of
no_stretches over = refl

begins_first : (over : List Bool) (k n : ℕ) → n ≡ 4 * k → begins over n ≡ (get_or over k false && not (before over k))
begins_first over k n is =
    let here : Bool = get_or over k false in
    let hx : is_over over n ≡ here = byte_of over k 0 n (omega arith) (omega arith) in
    elim (cases_lt 0 k) [
      | inl some ↦
          let hz : nat_eq n 0 ≡ false = ne_eqb n 0 (λ e. omega arith) in
          let hy : is_over over (n - 1) ≡ get_or over (k - 1) false = byte_of over (k - 1) 3 (n - 1) (omega arith) (omega arith) in
          let hb : before over k ≡ get_or over (k - 1) false = ap (λ (b : Bool). b && get_or over (k - 1) false) (lt-ltb 0 k some) in
          ap (λ (x : Bool). x && (nat_eq n 0 || not (is_over over (n - 1)))) hx ∙ ap (λ (z : Bool). here && (z || not (is_over over (n - 1)))) hz ∙ ap (λ (y : Bool). here && not y) (hy ∙ sym hb)
      | inr none ↦
          let hz : nat_eq n 0 ≡ true = eq-eqb n 0 (omega arith) in
          let hb : before over k ≡ false = ap (λ (b : Bool). b && get_or over (k - 1) false) (le-ltb 0 k none) in
          ap (λ (x : Bool). x && (nat_eq n 0 || not (is_over over (n - 1)))) hx ∙ ap (λ (z : Bool). here && (z || not (is_over over (n - 1)))) hz ∙ sym (ap (λ (y : Bool). here && not y) hb)
    ]

begins_inside : (over : List Bool) (k i b : ℕ) → b ≡ 4 * k + i → 0 < i → i < 4 → begins over b ≡ false
begins_inside over k i b is some small =
    let here : Bool = get_or over k false in
    let hx : is_over over b ≡ here = byte_of over k i b is small in
    let hz : nat_eq b 0 ≡ false = ne_eqb b 0 (λ e. omega arith) in
    let hy : is_over over (b - 1) ≡ here = byte_of over k (i - 1) (b - 1) (omega arith) (omega arith) in
    ap (λ (x : Bool). x && (nat_eq b 0 || not (is_over over (b - 1)))) hx ∙ ap (λ (z : Bool). here && (z || not (is_over over (b - 1)))) hz ∙ ap (λ (y : Bool). here && (false || not y)) hy ∙ not_self here

-- one more dword begins a stretch, or does not
pub stretches_more : (over : List Bool) (k : ℕ) → stretches_of over (4 * (k + 1)) ≡ stretches_of over (4 * k) + cond (get_or over k false && not (before over k)) 1 0
unfolding stretches_of
stretches_more over k =
    let p : ℕ → Bool = begins over in
    let n : ℕ = 4 * k in
    let more : 4 * (k + 1) ≡ n + 4 = omega arith in
    let one : Bool = get_or over k false && not (before over k) in
    let i0 : p n ≡ one = begins_first over k n refl in
    let i1 : p (n + 1) ≡ false = begins_inside over k 1 (n + 1) (omega arith) (omega arith) (omega arith) in
    let i2 : p (n + 2) ≡ false = begins_inside over k 2 (n + 2) (omega arith) (omega arith) (omega arith) in
    let i3 : p (n + 3) ≡ false = begins_inside over k 3 (n + 3) (omega arith) (omega arith) (omega arith) in
    ap (λ (m : ℕ). count_by p (range_with_len 0 m)) more ∙ count_dword p n
    ∙ ap (λ (c : Bool). count_by p (range_with_len 0 n) + cond c 1 0 + cond (p (n + 1)) 1 0 + cond (p (n + 2)) 1 0 + cond (p (n + 3)) 1 0) i0
    ∙ ap (λ (c : Bool). count_by p (range_with_len 0 n) + cond one 1 0 + cond c 1 0 + cond (p (n + 2)) 1 0 + cond (p (n + 3)) 1 0) i1
    ∙ ap (λ (c : Bool). count_by p (range_with_len 0 n) + cond one 1 0 + 0 + cond c 1 0 + cond (p (n + 3)) 1 0) i2
    ∙ ap (λ (c : Bool). count_by p (range_with_len 0 n) + cond one 1 0 + 0 + 0 + cond c 1 0) i3
    ∙ omega arith

-- the flags from from to k are set, and the others are as they were
pub record Marked (old new : List Bool) (from k : ℕ) : Type 0 where
  pub long : length new ≡ length old
  pub set : (j : ℕ) → from ≤ j → j < k → get_or new j false ≡ true
  pub kept : (j : ℕ) → (j < from) ⊎ (k ≤ j) → get_or new j false ≡ get_or old j false

pub marked_with_bytes : (old new : List Bool) (offset count : ℕ) → offset % 4 ≡ 0 → count % 4 ≡ 0 → Marked old new (offset / 4) (offset / 4 + count / 4) → new ≡ with_bytes old offset count
unfolding with_bytes
marked_with_bytes old new offset count o4 c4 m =
    fill_by_all (λ k. is_over old (4 * k) || is_within offset count (4 * k)) new (length old) false m.long (λ k lt.
    let e : 4 * k / 4 ≡ k = omega arith in
    let here : is_over old (4 * k) ≡ get_or old k false = ap (λ (d : ℕ). get_or old d false) e in
    elim (cases_lt k (offset / 4)) [
      | inl low ↦ m.kept k (inl low) ∙ sym here ∙ sym (or_no (is_over old (4 * k)) (is_within offset count (4 * k)) (and_left (nat_le offset (4 * k)) (nat_lt (4 * k) (offset + count)) (lt-leb offset (4 * k) (omega arith))))
      | inr above ↦ elim (cases_lt k (offset / 4 + count / 4)) [
        | inl within ↦ m.set k above within ∙ sym (or_right (is_over old (4 * k)) (is_within offset count (4 * k)) (both_true (nat_le offset (4 * k)) (nat_lt (4 * k) (offset + count)) (le-leb offset (4 * k) (omega arith)) (lt-ltb (4 * k) (offset + count) (omega arith))))
        | inr past ↦ m.kept k (inr past) ∙ sym here ∙ sym (or_no (is_over old (4 * k)) (is_within offset count (4 * k)) (and_right (nat_le offset (4 * k)) (nat_lt (4 * k) (offset + count)) (le-ltb (4 * k) (offset + count) (omega arith))))
      ]
    ])

pub before_next : (over : List Bool) (k : ℕ) (b : Bool) → b ≡ get_or over k false → b ≡ before over (k + 1)
before_next over k b is =
    let e : k + 1 - 1 ≡ k = omega arith in
    is ∙ sym (ap (λ (x : Bool). x && get_or over (k + 1 - 1) false) (lt-ltb 0 (k + 1) (omega arith)) ∙ ap (λ (i : ℕ). get_or over i false) e)

pub stretch_yes : (over : List Bool) (k : ℕ) (b : Bool) → get_or over k false ≡ true → b ≡ before over k → b ≡ false → stretches_of over (4 * (k + 1)) ≡ stretches_of over (4 * k) + 1
stretch_yes over k b set is fresh =
    stretches_more over k ∙ ap (λ (x : Bool). stretches_of over (4 * k) + cond (x && not (before over k)) 1 0) set ∙ ap (λ (x : Bool). stretches_of over (4 * k) + cond (not x) 1 0) (sym is ∙ fresh)

pub stretch_not_set : (over : List Bool) (k : ℕ) → get_or over k false ≡ false → stretches_of over (4 * (k + 1)) ≡ stretches_of over (4 * k)
stretch_not_set over k unset = stretches_more over k ∙ ap (λ (x : Bool). stretches_of over (4 * k) + cond (x && not (before over k)) 1 0) unset ∙ omega arith

pub stretch_goes_on : (over : List Bool) (k : ℕ) (b : Bool) → get_or over k false ≡ true → b ≡ before over k → b ≡ true → stretches_of over (4 * (k + 1)) ≡ stretches_of over (4 * k)
stretch_goes_on over k b set is goes = stretches_more over k ∙ ap (λ (x : Bool). stretches_of over (4 * k) + cond (x && not (before over k)) 1 0) set ∙ ap (λ (x : Bool). stretches_of over (4 * k) + cond (not x) 1 0) (sym is ∙ goes) ∙ omega arith

pub length_with_bytes : (over : List Bool) (offset count : ℕ) → length (with_bytes over offset count) ≡ length over
unfolding with_bytes
length_with_bytes over offset count = length-map-range_with_len (λ k. is_over over (4 * k) || is_within offset count (4 * k)) 0 (length over)

pub whole_dwords : (over : List Bool) (len : ℕ) → length over ≡ len / 4 → len % 4 ≡ 0 → 4 * length over ≡ len
whole_dwords over len long dwords = omega arith

-- ---- what they mean, byte by byte

le_same : (o b : ℕ) → o % 4 ≡ 0 → nat_le o (4 * (b / 4)) ≡ nat_le o b
le_same o b dwords = elim (cases_lt b o) [
  | inl low ↦ lt-leb o (4 * (b / 4)) (omega arith) ∙ sym (lt-leb o b low)
  | inr high ↦ le-leb o (4 * (b / 4)) (omega arith) ∙ sym (le-leb o b high)
]

lt_same : (e b : ℕ) → e % 4 ≡ 0 → nat_lt (4 * (b / 4)) e ≡ nat_lt b e
lt_same e b dwords = elim (cases_lt b e) [
  | inl low ↦ lt-ltb (4 * (b / 4)) e (omega arith) ∙ sym (lt-ltb b e low)
  | inr high ↦ le-ltb (4 * (b / 4)) e (omega arith) ∙ sym (le-ltb b e high)
]

within_same : (offset count b : ℕ) → offset % 4 ≡ 0 → count % 4 ≡ 0 → is_within offset count (4 * (b / 4)) ≡ is_within offset count b
within_same offset count b o4 c4 =
    ap (λ (x : Bool). x && nat_lt (4 * (b / 4)) (offset + count)) (le_same offset b o4) ∙ ap (λ (x : Bool). nat_le offset b && x) (lt_same (offset + count) b (omega arith))

pub over_with_bytes : (over : List Bool) (offset count b : ℕ) → offset % 4 ≡ 0 → count % 4 ≡ 0 → b < 4 * length over → is_over (with_bytes over offset count) b ≡ (is_over over b || is_within offset count b)
unfolding with_bytes
over_with_bytes over offset count b o4 c4 below =
    let k : ℕ = b / 4 in
    let e : 4 * k / 4 ≡ k = omega arith in
    get_or-map-range_with_len (λ j. is_over over (4 * j) || is_within offset count (4 * j)) 0 (length over) k k false (omega arith) (omega arith)
    ∙ ap (λ (x : Bool). x || is_within offset count (4 * k)) (ap (λ (d : ℕ). get_or over d false) e)
    ∙ ap (λ (x : Bool). is_over over b || x) (within_same offset count b o4 c4)

pub over_none : (len b : ℕ) → is_over (replicate (len / 4) false) b ≡ false
over_none len b = elim (cases_lt (b / 4) (len / 4)) [
  | inl lt ↦ get_or-replicate (len / 4) (b / 4) false false lt
  | inr ge ↦ get_or_past (replicate (len / 4) false) (b / 4) false (rw (length-replicate (len / 4) false) ge)
]
