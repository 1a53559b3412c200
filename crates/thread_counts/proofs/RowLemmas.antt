-- For `counted`: rows of counts, port by port and connection by connection.
use Rattle.std.proofs.Common.{◌≡◌, ℕ, zero, suc, ◌+◌, ◌<◌, ◌≤◌, List, [], ◌∷◌, ◌++◌, length, get_or, Option, Some, None, Bool, true, false, refl, sym}
use Rattle.std.proofs.{Common.{ap, subst, ◌∙◌, inl, inr, append_assoc, append-nil, arith}, lemmas.Bool.{cases_eq, cases_lt, lt-ltb, ne_eqb}}
use Rattle.std.proofs.lemmas.{Bool.Decides.nat_tests, List.{Quantifiers.all_pairs_push, Elements.{All-push}, Folds.{find-append}}}
use Rattle.std.specs.{Prelude.{◌&&◌, ◌==◌, ◌⊎◌, if◌then◌else◌, All, map, nat_le, nat_lt}, Option.option_or}
use Rattle.fis_view.specs.Frames.{Stamped}
use Rattle.pm_world.specs.{Counting.{AreSorted, Precedes, is_of, row_of}, declared.counts.ConnCount.ConnCount}
use Rattle.disk_thread.specs.Runs.{StationState, all_given, all_told, has_come}
use Rattle.thread_counts.specs.Rows.{AreCounted, CountsAt, at_place, given_at, told_at, row_for, rows_on}

-- ---- one of two rows

or_none : {T : Type 0} (o : Option T) → option_or o None ≡ o
or_none None = refl
or_none (Some x) = refl

-- the second if the test says so, else what the first is
picked : {T : Type 0} (a b now : Bool) (x y : T) → ((a ≡ false) × (b ≡ true) × (now ≡ true) × (y ≡ x)) ⊎ ((b ≡ false) × (now ≡ a))
    → option_or (if a then Some x else None) (if b then Some y else None) ≡ (if now then Some x else None)
picked a b now x y (inl h) = rw (h.0, h.1, h.2, h.3) refl
picked a b now x y (inr h) = rw (h.0, h.1) (or_none (if a then Some x else None))

-- ---- tests

none_of_none : (m n c : ℕ) → false ≡ (m == n && (nat_le 1 c && nat_le c 0))
none_of_none m n c = grind (arith, nat_tests)

not_yet : (m n c k : ℕ) → c ≡ suc k → (m == n && (nat_le 1 c && nat_le c k)) ≡ false
not_yet m n c k is = grind (arith, nat_tests, is)

now_it_is : (m n c k : ℕ) → m ≡ n → suc k ≡ c → (n == m && suc k == c) ≡ true
now_it_is m n c k same last = grind (arith, nat_tests, same, last)

now_there : (m n c k : ℕ) → m ≡ n → suc k ≡ c → (m == n && (nat_le 1 c && nat_le c (suc k))) ≡ true
now_there m n c k same last = grind (arith, nat_tests, same, last)

not_it_is : (m n c k : ℕ) → (m ≡ n → ⊥) ⊎ (suc k ≡ c → ⊥) → (n == m && suc k == c) ≡ false
not_it_is m n c k (inl apart) = rw (ne_eqb n m (λ e. apart (sym e))) refl
not_it_is m n c k (inr apart) = rw (ne_eqb (suc k) c apart) (and_false (n == m))
  where
    and_false : (b : Bool) → (b && false) ≡ false
    and_false true = refl
    and_false false = refl

as_before : (m n c k : ℕ) → (m ≡ n → ⊥) ⊎ (suc k ≡ c → ⊥) → (m == n && (nat_le 1 c && nat_le c (suc k))) ≡ (m == n && (nat_le 1 c && nat_le c k))
as_before m n c k (inl apart) = rw (ne_eqb m n apart) refl
as_before m n c k (inr apart) = ap (λ b. m == n && (nat_le 1 c && b)) (let e : nat_le c (suc k) ≡ nat_le c k = grind (arith, nat_tests, apart) in e)

elsewhere : (m n : ℕ) (in_range : Bool) → (m ≡ n → ⊥) → (m == n && in_range) ≡ false
elsewhere m n in_range apart = rw (ne_eqb m n apart) refl

still : (m n : ℕ) (came : Bool) → (m ≡ n → ⊥) → (nat_lt m (n + 1) && came) ≡ (nat_lt m n && came)
still m n came apart = ap (λ b. b && came) (let e : nat_lt m (n + 1) ≡ nat_lt m n = grind (arith, nat_tests, apart) in e)

-- at the port of the device
at_port : {T : Type 0} (m n : ℕ) (came in_range : Bool) (x y : T) → m ≡ n → came ≡ in_range → y ≡ x
    → (((nat_lt m n && came) ≡ false) × ((m == n && in_range) ≡ true) × ((nat_lt m (n + 1) && came) ≡ true) × (y ≡ x))
    ⊎ (((m == n && in_range) ≡ false) × ((nat_lt m (n + 1) && came) ≡ (nat_lt m n && came)))
at_port m n true in_range x y same is row = inl (
  (let e : (nat_lt m n && true) ≡ false = grind (arith, nat_tests, same) in e),
  rw (sym is) (let e : (m == n && true) ≡ true = grind (arith, nat_tests, same) in e),
  (let e : (nat_lt m (n + 1) && true) ≡ true = grind (arith, nat_tests, same) in e),
  row,
)
at_port m n false in_range x y same is row = inr (
  rw (sym is) (let e : (m == n && false) ≡ false = grind (arith, nat_tests) in e),
  (let e : (nat_lt m (n + 1) && false) ≡ (nat_lt m n && false) = grind (arith, nat_tests) in e),
)

-- ---- the rows of one device

-- of this port and none above, and of this connection and none above
abbrev pub Under : ℕ → ℕ → ConnCount → Type 0
Under n k row = (row.port < n) ⊎ ((row.port ≡ n) × (row.conn ≤ k))

module _ (row : ℕ → ConnCount) (n : ℕ) (of_port : (c : ℕ) → (row c).port ≡ n) (of_conn : (c : ℕ) → (row c).conn ≡ c) where
  next_follows : (k : ℕ) (r : ConnCount) → Under n k r → Precedes r (row (suc k))
  next_follows k r (inl lower) = inl (let p = of_port (suc k) in omega (arith, p, lower))
  next_follows k r (inr same) = inr (same.0 ∙ sym (of_port (suc k)), (let q = of_conn (suc k) in let le = same.1 in omega (arith, q, le)))

  still_under : (k : ℕ) (r : ConnCount) → Under n k r → Under n (suc k) r
  still_under k r (inl lower) = inl lower
  still_under k r (inr same) = inr (same.0, (let le = same.1 in omega (arith, le)))

  is_under : (k : ℕ) → Under n (suc k) (row (suc k))
  is_under k = inr (of_port (suc k), (let q = of_conn (suc k) in omega (arith, q)))

  sorted_on : (rows : List ConnCount) → AreSorted rows → All (Under n 0) rows → (k : ℕ) → AreSorted (rows ++ rows_on row k) × All (Under n k) (rows ++ rows_on row k)
  sorted_on rows sorted under zero = (subst AreSorted (sym (append-nil rows)) sorted, subst (All (Under n 0)) (sym (append-nil rows)) under)
  sorted_on rows sorted under (suc k) =
      let so = sorted_on rows sorted under k in
      let longer = append_assoc rows (rows_on row k) (row (suc k) ∷ []) in (
        subst AreSorted longer (all_pairs_push Precedes (rows ++ rows_on row k) (row (suc k)) so.0 (λ i d lt. next_follows k (get_or (rows ++ rows_on row k) i d) (so.1 i d lt))),
        subst (All (Under n (suc k))) longer
            (All-push (Under n (suc k)) (rows ++ rows_on row k) (row (suc k)) (λ i d lt. still_under k (get_or (rows ++ rows_on row k) i d) (so.1 i d lt)) (is_under k)),
      )

  -- the row of a connection is there exactly if it is one of the first k
  found_on : (m c k : ℕ) → row_of m c (rows_on row k) ≡ (if m == n && (nat_le 1 c && nat_le c k) then Some (row c) else None)
  found_on m c zero = ap (λ b. if b then Some (row c) else None) (none_of_none m n c)
  found_on m c (suc k) =
      let test : is_of m c (row (suc k)) ≡ (n == m && suc k == c) =
      ap (λ p. p == m && (row (suc k)).conn == c) (of_port (suc k)) ∙ ap (λ q. n == m && q == c) (of_conn (suc k)) in
      let was : Bool = m == n && (nat_le 1 c && nat_le c k) in
      let is : Bool = m == n && (nat_le 1 c && nat_le c (suc k)) in
      let which : ((was ≡ false) × ((n == m && suc k == c) ≡ true) × (is ≡ true) × (row (suc k) ≡ row c)) ⊎ (((n == m && suc k == c) ≡ false) × (is ≡ was)) =
      elim (cases_eq m n) [
        | inl same ↦ elim (cases_eq (suc k) c) [
          | inl last ↦ inl (not_yet m n c k (sym last), now_it_is m n c k same last, now_there m n c k same last, ap row last)
          | inr other ↦ inr (not_it_is m n c k (inr other), as_before m n c k (inr other))
        ]
        | inr apart ↦ inr (not_it_is m n c k (inl apart), as_before m n c k (inl apart))
      ] in
      find-append (is_of m c) (rows_on row k) (row (suc k) ∷ [])
      ∙ ap (λ o. option_or o (if is_of m c (row (suc k)) then Some (row (suc k)) else None)) (found_on m c k)
      ∙ ap (λ b. option_or (if was then Some (row c) else None) (if b then Some (row (suc k)) else None)) test
      ∙ picked was (n == m && suc k == c) is (row c) (row (suc k)) which

-- ---- the rows of the first ports

-- a row for each connection of the first n ports that came
pub record UpTo {D : Type 0} (disks : List (StationState D)) (taken : List Stamped) (n : ℕ) (rows : List ConnCount) : Type 0 where
  pub sorted : AreSorted rows
  pub under : All (Under n 0) rows
  pub each : (m c : ℕ) → row_of m c rows ≡ (if nat_lt m n && has_come c (told_at disks m) then Some (row_for (given_at disks m) taken m c) else None)

at_is : {D A : Type 0} (part : StationState D → List A) (disks : List (StationState D)) (n : ℕ) (other : StationState D) → n < length disks
    → at_place part disks n ≡ part (get_or disks n other)
at_is part [] n other lt = absurd (omega (arith, lt))
at_is part (s ∷ disks) zero other lt = refl
at_is part (s ∷ disks) (suc n) other lt = at_is part disks n other (omega (arith, lt))

pub at_past : {D A : Type 0} (part : StationState D → List A) (disks : List (StationState D)) (n : ℕ) → length disks ≤ n → at_place part disks n ≡ []
at_past part [] n le = refl
at_past part (s ∷ disks) zero le = absurd (omega (arith, le))
at_past part (s ∷ disks) (suc n) le = at_past part disks n (omega (arith, le))

pub map_at : {A B : Type 0} (f : A → B) (xs : List A) (i : ℕ) (other : A) → i < length xs → get_or (map f xs) i (f other) ≡ f (get_or xs i other)
map_at f [] i other lt = absurd (omega (arith, lt))
map_at f (x ∷ xs) zero other lt = refl
map_at f (x ∷ xs) (suc i) other lt = map_at f xs i other (omega (arith, lt))

under_next : (n k : ℕ) (r : ConnCount) → Under n k r → Under (n + 1) 0 r
under_next n k r (inl lower) = inl (omega (arith, lower))
under_next n k r (inr same) = inl (let p = same.0 in omega (arith, p))

-- the rows of one more port
pub up_to_more : {D : Type 0} (disks : List (StationState D)) (taken : List Stamped) (n : ℕ) (s other : StationState D) (rows new : List ConnCount) → n < length disks
    → get_or disks n other ≡ s → CountsAt rows n s taken new → UpTo disks taken n rows → UpTo disks taken (n + 1) new
up_to_more disks taken n s other rows new lt is counts h =
    let row : ℕ → ConnCount = row_for (all_given s) taken n in
    let last : ℕ = s.standing.conn in
    let all = sorted_on row n (λ c. refl) (λ c. refl) rows h.sorted h.under last in
    let given : given_at disks n ≡ all_given s = at_is all_given disks n other lt ∙ ap all_given is in
    let told : told_at disks n ≡ all_told s = at_is all_told disks n other lt ∙ ap all_told is in
    record {
      sorted = subst AreSorted (sym counts.added) all.0;
      under = subst (All (Under (n + 1) 0)) (sym counts.added) (λ i d less. under_next n last (get_or (rows ++ rows_on row last) i d) (all.1 i d less));
      each = λ m c.
          let came : has_come c (told_at disks n) ≡ (nat_le 1 c && nat_le c last) = ap (has_come c) told ∙ counts.told.each c in
          let was : Bool = nat_lt m n && has_come c (told_at disks m) in
          let here : Bool = m == n && (nat_le 1 c && nat_le c last) in
          let now : Bool = nat_lt m (n + 1) && has_come c (told_at disks m) in
          ap (row_of m c) counts.added ∙ find-append (is_of m c) rows (rows_on row last)
          ∙ ap (λ o. option_or o (row_of m c (rows_on row last))) (h.each m c)
          ∙ ap (λ o. option_or (if was then Some (row_for (given_at disks m) taken m c) else None) o) (found_on row n (λ x. refl) (λ x. refl) m c last)
          ∙ picked was here now (row_for (given_at disks m) taken m c) (row c) (elim (cases_eq m n) [
            | inl same ↦
                at_port m n (has_come c (told_at disks m)) (nat_le 1 c && nat_le c last) (row_for (given_at disks m) taken m c) (row c) same
                (ap (λ j. has_come c (told_at disks j)) same ∙ came)
                (ap (λ g. row_for g taken n c) (sym given) ∙ ap (λ j. row_for (given_at disks j) taken j c) (sym same))
            | inr apart ↦ inr (elsewhere m n (nat_le 1 c && nat_le c last) apart, still m n (has_come c (told_at disks m)) apart)
          ]);
    }

and_false : (b : Bool) → (b && false) ≡ false
and_false true = refl
and_false false = refl

-- no connection came at a port that is not there
came_of_some : {D : Type 0} (disks : List (StationState D)) (m c : ℕ) → (nat_lt m (length disks) && has_come c (told_at disks m)) ≡ has_come c (told_at disks m)
came_of_some disks m c = elim (cases_lt m (length disks)) [
  | inl lt ↦ rw (lt-ltb m (length disks) lt) refl
  | inr le ↦ let none : told_at disks m ≡ [] = at_past all_told disks m (omega (arith, le)) in rw none (and_false (nat_lt m (length disks)))
]

-- the rows of all ports
pub all_counted : {D : Type 0} (disks : List (StationState D)) (taken : List Stamped) (rows : List ConnCount) → UpTo disks taken (length disks) rows → AreCounted rows disks taken
all_counted disks taken rows h = record {
  sorted = h.sorted;
  each = λ m c. h.each m c ∙ ap (λ b. if b then Some (row_for (given_at disks m) taken m c) else None) (came_of_some disks m c);
}
