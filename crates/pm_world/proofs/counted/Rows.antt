-- For `Counts::note`. Where a row stands among sorted rows, and what a write or a new row leaves.
use Rattle.std.proofs.Common.{◌≡◌, ℕ, ◌+◌, ◌-◌, ◌<◌, ◌≤◌, List, ◌∷◌, Option, Some, None, Result, Ok, Err, IfOk, IfErr, true, false, refl, sym, ap}
use Rattle.std.proofs.{Common.{subst, ◌∙◌, inl, inr, length, get_or, set, take, drop, arith, length-set, take-append-drop}, lemmas.Bool.cases_eq}
use Rattle.std.proofs.lemmas.{Bool.{cases_lt, eq-eqb, ne_eqb}, List.{get_or-set_same, get_or-set_other, Edits.{length-insert, get_or-insert_below}}}
use Rattle.std.proofs.lemmas.List.{Edits.{get_or-insert_at, get_or-insert_above}, Folds.{find_at, find-set, find_past, find-append}}
use Rattle.std.proofs.lemmas.{List.Sums.position_or_len_is, Option.{slice_get_past, slice_get-get_or}}
use Rattle.std.specs.{Prelude.{◌&&◌, ◌==◌, ◌⊎◌, if◌then◌else◌, AllPairs, option_map}, Option.option_or, List.{insert, AllWithin, position_or_len}}
use Rattle.std.specs.{List.Sorted.{IsSearchInRange, IsBinarySearchResult, IsNonDecreasingBy}, Ordering.{nat_cmp, ordering_index, ordering_then}}
use Rattle.std.specs.{Ordering.MatchOrdering, declared.cmp.Ordering.{Ordering, TheVariants.{Less, Equal, Greater}}, Cmp.ranks}
use Rattle.pm_world.specs.Counting.{is_of, row_of, Precedes, AreSorted, first_row, sent_more, taken_more, IsRowAt, IsGapFor}
use Rattle.pm_world.specs.declared.counts.ConnCount.{ConnCount}

-- an element that stands in order with those before the place, and with those from the place on
module _ {X : Type 0} (R : X → X → Type 0) (xs : List X) (at : ℕ) (y : X) (within : at ≤ length xs) where
  moved_up : (k : ℕ) (d : X) → at < k → get_or (insert xs at y) k d ≡ get_or xs (k - 1) d
  moved_up k d above = subst (λ q. get_or (insert xs at y) q d ≡ get_or xs (k - 1) d) {x = k - 1 + 1} (omega arith) (get_or-insert_above xs at y d (k - 1) (omega arith) within)

  pub all_pairs_insert : AllWithin (λ x. R x y) xs 0 at → AllWithin (λ x. R y x) xs at (length xs) → AllPairs R xs → AllPairs R (insert xs at y)
  all_pairs_insert before after pairs i j d lt in_range =
      let more : length (insert xs at y) ≡ length xs + 1 = length-insert xs at y within in
      elim (cases_lt j at) [
        | inl below ↦ rw (get_or-insert_below xs at y d i (omega arith) within, get_or-insert_below xs at y d j below within) (pairs i j d lt (omega arith))
        | inr j_from ↦ elim (cases_eq j at) [
          | inl j_is ↦ rw (j_is, get_or-insert_at xs at y d within, get_or-insert_below xs at y d i (omega arith) within) (before i d (omega arith) (omega arith))
          | inr j_not ↦ elim (cases_lt i at) [
            | inl i_below ↦ rw (get_or-insert_below xs at y d i i_below within, moved_up j d (omega arith)) (pairs i (j - 1) d (omega arith) (omega arith))
            | inr i_from ↦ elim (cases_eq i at) [
              | inl i_is ↦ rw (i_is, get_or-insert_at xs at y d within, moved_up j d (omega arith)) (after (j - 1) d (omega arith) (omega arith))
              | inr i_not ↦ rw (moved_up i d (omega arith), moved_up j d (omega arith)) (pairs (i - 1) (j - 1) d (omega arith) (omega arith))
            ]
          ]
        ]
      ]

-- if one row precedes the other, they are not of the same connection
before_is_other : (row later : ConnCount) → Precedes row later → is_of later.port later.conn row ≡ false
before_is_other row later (inl lower) = rw (ne_eqb row.port later.port (λ e. omega arith))
before_is_other row later (inr same) = rw (eq-eqb row.port later.port same.0, ne_eqb row.conn later.conn (λ e. omega (arith, same.1)))

after_is_other : (row later : ConnCount) → Precedes row later → is_of row.port row.conn later ≡ false
after_is_other row later (inl lower) = rw (ne_eqb later.port row.port (λ e. omega arith))
after_is_other row later (inr same) = rw (eq-eqb later.port row.port (sym same.0), ne_eqb later.conn row.conn (λ e. omega (arith, same.1)))

-- the connection is the one that is asked for, or the test says no
same_key : (port conn n c : ℕ) → ((port ≡ n) × (conn ≡ c) × ((port == n && conn == c) ≡ true)) ⊎ ((port == n && conn == c) ≡ false)
same_key port conn n c =
    elim (cases_eq port n) [
      | inl e ↦ elim (cases_eq conn c) [
        | inl f ↦ inl (e, f, rw (eq-eqb port n e, eq-eqb conn c f))
        | inr other ↦ inr (rw (eq-eqb port n e, ne_eqb conn c other))
      ]
      | inr other ↦ inr (rw (ne_eqb port n other))
    ]

-- a change of counts alone
pub record KeepsKey (f : ConnCount → ConnCount) : Type 0 where
  pub port : (row : ConnCount) → (f row).port ≡ row.port
  pub conn : (row : ConnCount) → (f row).conn ≡ row.conn

pub sent_keeps : KeepsKey sent_more
sent_keeps = record { port = λ row. refl; conn = λ row. refl }

pub taken_keeps : KeepsKey taken_more
taken_keeps = record { port = λ row. refl; conn = λ row. refl }

-- if the connection has a row
module _ (rows : List ConnCount) (sorted : AreSorted rows) (port conn at : ℕ) (is_at : IsRowAt rows port conn at) where
  key_at : (n c : ℕ) (d : ConnCount) → is_of n c (get_or rows at d) ≡ (port == n && conn == c)
  key_at n c d = rw ((is_at.has_key d).0, (is_at.has_key d).1)

  place_is : (d : ConnCount) → position_or_len (is_of port conn) rows ≡ at
  place_is d =
      position_or_len_is (is_of port conn) rows at d (omega (arith, is_at.in_range))
      (λ k lt. rw ((is_at.has_key d).0, (is_at.has_key d).1) at (before_is_other (get_or rows k d) (get_or rows at d) (sorted k at d lt is_at.in_range)))
      (λ lt. key_at port conn d ∙ rw (eq-eqb port port refl, eq-eqb conn conn refl))

  pub row_here : (d : ConnCount) → row_of port conn rows ≡ Some (get_or rows at d)
  row_here d = find_at (is_of port conn) rows ∙ rw (place_is d) (slice_get-get_or rows at d is_at.in_range)

  -- a new row changes nothing
  pub there_already : (n c : ℕ) → row_of n c rows ≡ (if port == n && conn == c then option_or (row_of n c rows) (Some (first_row n c)) else row_of n c rows)
  there_already n c =
      elim (same_key port conn n c) [
        | inl same ↦ rw (same.2, ← same.0, ← same.1, row_here (first_row n c))
        | inr other ↦ rw other
      ]

  -- the row is read, and written with another count
  module _ (f : ConnCount → ConnCount) (keeps : KeepsKey f) (old row : ConnCount) (read : old ≡ get_or rows at old) (is : row ≡ f old) where
    port_is : row.port ≡ port
    port_is = ap (λ (r : ConnCount). r.port) is ∙ keeps.port old ∙ ap (λ (r : ConnCount). r.port) read ∙ (is_at.has_key old).0

    conn_is : row.conn ≡ conn
    conn_is = ap (λ (r : ConnCount). r.conn) is ∙ keeps.conn old ∙ ap (λ (r : ConnCount). r.conn) read ∙ (is_at.has_key old).1

    key_of : (n c : ℕ) → is_of n c row ≡ (port == n && conn == c)
    key_of n c = rw (port_is, conn_is)

    port_kept : (k : ℕ) (d : ConnCount) → (get_or (set rows at row) k d).port ≡ (get_or rows k d).port
    port_kept k d =
        elim (cases_eq k at) [
          | inl here ↦ rw (here, get_or-set_same rows at row d is_at.in_range, port_is, (is_at.has_key d).0)
          | inr other ↦ rw (get_or-set_other rows at k row d other)
        ]

    conn_kept : (k : ℕ) (d : ConnCount) → (get_or (set rows at row) k d).conn ≡ (get_or rows k d).conn
    conn_kept k d =
        elim (cases_eq k at) [
          | inl here ↦ rw (here, get_or-set_same rows at row d is_at.in_range, conn_is, (is_at.has_key d).1)
          | inr other ↦ rw (get_or-set_other rows at k row d other)
        ]

    pub sorted_set : AreSorted (set rows at row)
    sorted_set i j d lt in_range =
        rw (port_kept i d, port_kept j d, conn_kept i d, conn_kept j d) (sorted i j d lt (omega (arith, length-set rows at row)))

    pub rows_set : (n c : ℕ) → row_of n c (set rows at row) ≡ (if port == n && conn == c then option_map f (row_of n c rows) else row_of n c rows)
    rows_set n c =
        elim (same_key port conn n c) [
          | inl same ↦
              let passes : is_of port conn row ≡ true = key_of port conn ∙ rw (eq-eqb port port refl, eq-eqb conn conn refl) in
              let written : row_of port conn (set rows at row) ≡ Some row = find-set (is_of port conn) rows at row (sym (place_is row)) is_at.in_range passes in
              rw (same.2, ← same.0, ← same.1, row_here old, ← read, ← is) written
          | inr other ↦ rw other (find_past (is_of n c) rows at row row (key_at n c row ∙ other) (key_of n c ∙ other))
        ]

-- if the connection has no row
module _ (rows : List ConnCount) (port conn at : ℕ) (gap : IsGapFor rows port conn at) where
  pub no_row : row_of port conn rows ≡ None
  no_row =
      let d = first_row port conn in
      let none : (k : ℕ) → k < length rows → is_of port conn (get_or rows k d) ≡ false = λ k lt.
      elim (cases_lt k at) [
        | inl below ↦ before_is_other (get_or rows k d) d (gap.before k d (omega arith) below)
        | inr from ↦ after_is_other d (get_or rows k d) (gap.after k d from lt)
      ] in
      let end = position_or_len_is (is_of port conn) rows (length rows) d (omega arith) none (λ lt. absurd (omega (arith, lt))) in
      find_at (is_of port conn) rows ∙ rw end (slice_get_past rows (length rows) (omega arith))

  -- so what would change a row changes nothing
  pub nothing_there : (f : ConnCount → ConnCount) (n c : ℕ) → row_of n c rows ≡ (if port == n && conn == c then option_map f (row_of n c rows) else row_of n c rows)
  nothing_there f n c =
      elim (same_key port conn n c) [
        | inl same ↦ rw (same.2, ← same.0, ← same.1, no_row)
        | inr other ↦ rw other
      ]

  pub sorted_insert : AreSorted rows → AreSorted (insert rows at (first_row port conn))
  sorted_insert sorted = all_pairs_insert Precedes rows at (first_row port conn) gap.in_range gap.before gap.after sorted

  none_before : (o p : Option ConnCount) → option_or o p ≡ None → o ≡ None
  none_before None p e = refl
  none_before (Some row) p e = absurd (cc)

  pub rows_insert : (n c : ℕ) → row_of n c (insert rows at (first_row port conn)) ≡ (if port == n && conn == c then option_or (row_of n c rows) (Some (first_row n c)) else row_of n c rows)
  rows_insert n c =
      let row = first_row port conn in
      let parts : (m k : ℕ) → row_of m k rows ≡ option_or (row_of m k (take at rows)) (row_of m k (drop at rows)) = λ m k.
      ap (λ xs. row_of m k xs) (sym (take-append-drop at rows)) ∙ find-append (is_of m k) (take at rows) (drop at rows) in
      elim (same_key port conn n c) [
        | inl same ↦
            let front : row_of port conn (take at rows) ≡ None = none_before _ _ (sym (parts port conn) ∙ no_row) in
            rw (same.2, ← same.0, ← same.1, no_row, find-append (is_of port conn) (take at rows) (row ∷ drop at rows), front, eq-eqb port port refl, eq-eqb conn conn refl)
        | inr other ↦ rw (other, find-append (is_of n c) (take at rows) (row ∷ drop at rows), other) (sym (parts n c))
      ]

-- what a comparison of the key (a, b) with (p, q) says of them
module _ (a b p q : ℕ) where
  abbrev pub Ranks : Ordering → Type 0
  Ranks o = MatchOrdering o ((a < p) ⊎ ((a ≡ p) × (b < q))) ((a ≡ p) × (b ≡ q)) ((p < a) ⊎ ((p ≡ a) × (q < b)))

  by_second : (o : Ordering) → a ≡ p → MatchOrdering o (b < q) (b ≡ q) (q < b) → Ranks o
  by_second Less e h = inr (e, h)
  by_second Equal e h = (e, h)
  by_second Greater e h = inr (sym e, h)

  by_first : (o : Ordering) → MatchOrdering o (a < p) (a ≡ p) (p < a) → Ranks (ordering_then o (nat_cmp b q))
  by_first Equal h = by_second (nat_cmp b q) h (ranks b q)
  by_first other h = inl h

  keys_ranked : Ranks (ordering_then (nat_cmp a p) (nat_cmp b q))
  keys_ranked = by_first (nat_cmp a p) (ranks a p)

-- a row's key, as it compares with that of the connection
abbrev pub compared : ℕ → ℕ → ConnCount → Ordering
compared port conn row = ordering_then (nat_cmp row.port port) (nat_cmp row.conn conn)

module _ (rows : List ConnCount) (sorted : AreSorted rows) (port conn : ℕ) where
  -- of two rows in order, the first compares no higher
  in_order : (row later : ConnCount) → Precedes row later → ordering_index (compared port conn row) ≤ ordering_index (compared port conn later)
  in_order row later before = by_ranks (compared port conn row) (compared port conn later) (keys_ranked row.port row.conn port conn) (keys_ranked later.port later.conn port conn)
    where
      by_ranks : (o r : Ordering) → Ranks row.port row.conn port conn o → Ranks later.port later.conn port conn r → ordering_index o ≤ ordering_index r
      by_ranks Less r p q = omega arith
      by_ranks Equal Equal p q = omega arith
      by_ranks Equal Greater p q = omega arith
      by_ranks Greater Equal p q = absurd (grind arith)
      by_ranks Greater Greater p q = omega arith
      by_ranks other Less p q = absurd (grind arith)

  comparisons_rise : IsNonDecreasingBy (λ row. ordering_index (compared port conn row)) rows
  comparisons_rise i j d le in_range =
      elim (cases_eq i j) [
        | inl same ↦ rw same (omega arith)
        | inr other ↦ in_order (get_or rows i d) (get_or rows j d) (sorted i j d (omega arith) in_range)
      ]

  -- a binary search ends at the row, or at the gap for it
  pub searched : (r : Result ℕ ℕ) → IsSearchInRange r (length rows) → IsBinarySearchResult (compared port conn) rows r → record { found : IfOk r (IsRowAt rows port conn); absent : IfErr r (IsGapFor rows port conn) }
  searched (Ok at) in_range equal = record {
    found = record { in_range = in_range; has_key = λ d. rw (equal d) at (keys_ranked (get_or rows at d).port (get_or rows at d).conn port conn) };
    absent = tt;
  }
  searched (Err at) in_range parted = record {
    found = tt;
    absent = record {
      in_range = in_range;
      before = λ k d from lt. rw ((parted comparisons_rise).0 k d from lt) at (keys_ranked (get_or rows k d).port (get_or rows k d).conn port conn);
      after = λ k d from lt. rw ((parted comparisons_rise).1 k d from lt) at (keys_ranked (get_or rows k d).port (get_or rows k d).conn port conn);
    };
  }
