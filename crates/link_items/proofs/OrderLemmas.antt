-- The laws of the orders.
use Rattle.std.proofs.Common.{◌≡◌, ◌≢◌, ◌==◌, ◌≤◌, ◌<◌, ℕ, suc, ◌+◌, ◌⊎◌, Bool, true, false, List, [], ◌∷◌, ◌++◌, length, map, drop, refl, sym, ap}
use Rattle.std.proofs.{Common.{subst, ◌∙◌, inl, inr, length-append, arith}, lemmas.List.Elements.{filter-append, All-append, All-nil, All-cons}}
use Rattle.std.proofs.lemmas.Bool.{eq-eqb, eqb-true, ne_eqb, and_parts}
use Rattle.std.specs.{Prelude.{All, filter, slice_index, if◌then◌else◌, ◌&&◌}, List.range_with_len}
use Rattle.fis_view.specs.Frames.{Stamped}
use Rattle.multiplier.specs.Orders.{of_connection, of_port, control_port, IsNextOfDevice, IsNextAtHost}
use Rattle.link_items.specs.{Beginnings.{some_element, device_prefixes, stamped_prefixes}, OrderLaws.{DeviceGoesOn, DeviceCounts, DeviceNumbers}}
use Rattle.link_items.specs.OrderLaws.{HostGoesOn, HostBounds, HostNumbers}

-- where an element of a list that is one longer stands: at the end, or before it
stands : {A : Type 0} (before rest xs : List A) (x y : A) → before ++ y ∷ rest ≡ xs ++ x ∷ []
    → ((before ≡ xs) × (y ≡ x)) ⊎ ((less : List A) × (before ++ y ∷ less ≡ xs))
stands [] rest [] x y e = let head : y ≡ x = cc in inl (refl, head)
stands [] rest (z ∷ zs) x y e = let head : y ≡ z = cc in inr (zs, ap (λ h. h ∷ zs) head)
stands (b ∷ bs) rest [] x y e =
    let tail : bs ++ y ∷ rest ≡ [] = ap (drop 1) e in
    absurd (some_element bs rest y tail)
stands (b ∷ bs) rest (z ∷ zs) x y e =
    let tail : bs ++ y ∷ rest ≡ zs ++ x ∷ [] = ap (drop 1) e in
    let head : b ≡ z = cc in
    elim (stands bs rest zs x y tail) [
      | inl p ↦ inl (ap (λ l. b ∷ l) p.0 ∙ ap (λ h. h ∷ zs) head, p.1)
      | inr p ↦ inr (p.0, ap (λ l. b ∷ l) p.1 ∙ ap (λ h. h ∷ zs) head)
    ]

pub device_goes_on : DeviceGoesOn
device_goes_on fises f = (
  (λ h. (device_prefixes fises (f ∷ []) h, h fises [] f refl)),
  (λ h. λ before rest g e. elim (stands before rest fises f g e) as (λ _. IsNextOfDevice before g) [
    | inl p ↦ subst (λ (b : List Stamped × Stamped). IsNextOfDevice b.0 b.1) (λ i. (sym p.0 i, sym p.1 i)) h.1
    | inr p ↦ h.0 before p.0 g p.1
  ]),
)

pub host_goes_on : HostGoesOn
host_goes_on fises f = (
  (λ h. (stamped_prefixes fises (f ∷ []) h, h fises [] f refl)),
  (λ h. λ before rest g e. elim (stands before rest fises f g e) as (λ _. g.stamp.port < control_port → IsNextAtHost before g) [
    | inl p ↦ subst (λ (b : List Stamped × Stamped). b.1.stamp.port < control_port → IsNextAtHost b.0 b.1) (λ i. (sym p.0 i, sym p.1 i)) h.1
    | inr p ↦ h.0 before p.0 g p.1
  ]),
)

-- ---- a device's two numbers

-- no FIS is of a connection above all
none_of : (fises : List Stamped) (conn later : ℕ) → All (λ g. g.stamp.conn ≤ conn) fises → conn < later
    → of_connection later fises ≡ []
none_of [] conn later h lt = refl
none_of (x ∷ xs) conn later h lt =
    let here : x.stamp.conn ≤ conn = h 0 x (omega arith) in
    let other : x.stamp.conn ≢ later = λ same. absurd (omega (arith, same)) in
    let test : (x.stamp.conn == later) ≡ false = ne_eqb x.stamp.conn later other in
    rw test (none_of xs conn later (λ k d less. h (suc k) d (omega (arith, less))) lt)

of_connection-here : (fises : List Stamped) (f : Stamped) → of_connection f.stamp.conn (fises ++ f ∷ []) ≡ of_connection f.stamp.conn fises ++ f ∷ []
of_connection-here fises f =
    let c = f.stamp.conn in
    let test : (c == c) ≡ true = eq-eqb c c refl in
    filter-append (λ g. g.stamp.conn == c) fises (f ∷ [])
    ∙ ap (λ b. of_connection c fises ++ (if b then f ∷ [] else [])) test

-- all of a list, up to a larger number
up_to : (fises : List Stamped) (conn later : ℕ) → All (λ g. g.stamp.conn ≤ conn) fises → conn ≤ later → All (λ g. g.stamp.conn ≤ later) fises
up_to fises conn later h le = λ k d less. let p = h k d less in omega arith

pub device_counts : DeviceCounts
device_counts = record {
  starts = λ conn. record { highest = All-nil (λ g. g.stamp.conn ≤ conn); next = refl };
  next = λ fises f h. record { connection = h.highest; number = h.next };
  goes_on = λ fises f h. record {
    highest = All-append (λ g. g.stamp.conn ≤ f.stamp.conn) fises (f ∷ []) h.highest
        (All-cons (λ g. g.stamp.conn ≤ f.stamp.conn) f [] (omega arith) (All-nil (λ g. g.stamp.conn ≤ f.stamp.conn)));
    next =
        let l = ap length (of_connection-here fises f) in
        let n = h.next in
        omega (arith, l, n, length-append (of_connection f.stamp.conn fises) (f ∷ []));
  };
  comes = λ fises conn number later h lt. record {
    highest = up_to fises conn later h.highest (omega arith);
    next = ap length (sym (none_of fises conn later h.highest lt));
  };
}

-- ---- the bounds of a port

pub host_bounds : HostBounds
host_bounds = record {
  starts = λ n conn gone. record {
    highest = All-nil (λ g. g.stamp.port ≡ n → g.stamp.conn ≤ conn);
    shown = All-nil (λ g. g.stamp.port ≡ control_port → slice_index g.stamp.shown n ≤ gone);
  };
  rises = λ fises n conn gone later more h conns removals. record {
    highest = λ k d less of_n. let p = h.highest k d less of_n in omega arith;
    shown = λ k d less control. let p = h.shown k d less control in omega arith;
  };
  next = λ fises f conn gone h conns present number. record {
    connection = λ k d less of_n. let p = h.highest k d less of_n in omega arith;
    present = λ k d less control. let p = h.shown k d less control in omega arith;
    number = number;
  };
  goes_on = λ fises f n conn gone h own control. record {
    highest = All-append (λ g. g.stamp.port ≡ n → g.stamp.conn ≤ conn) fises (f ∷ []) h.highest
        (All-cons (λ g. g.stamp.port ≡ n → g.stamp.conn ≤ conn) f [] own (All-nil (λ g. g.stamp.port ≡ n → g.stamp.conn ≤ conn)));
    shown = All-append (λ g. g.stamp.port ≡ control_port → slice_index g.stamp.shown n ≤ gone) fises (f ∷ []) h.shown
        (All-cons (λ g. g.stamp.port ≡ control_port → slice_index g.stamp.shown n ≤ gone) f [] control
        (All-nil (λ g. g.stamp.port ≡ control_port → slice_index g.stamp.shown n ≤ gone)));
  };
}

-- ---- numbers count up

-- the FISes that pass a test
module _ (test : Stamped → Bool) where
  abbrev Counted : ℕ → List Stamped → Type 0
  Counted k fises = map (λ f. f.stamp.number) (filter test fises) ≡ range_with_len k (length (filter test fises))

  -- each of them has the number k plus how many stand before it
  abbrev CountsFrom : ℕ → List Stamped → Type 0
  CountsFrom k fises = (before rest : List Stamped) (f : Stamped) → before ++ f ∷ rest ≡ fises → test f ≡ true
      → f.stamp.number ≡ k + length (filter test before)

  filter-here : (x : Stamped) (xs : List Stamped) → test x ≡ true → filter test (x ∷ xs) ≡ x ∷ filter test xs
  filter-here x xs passes = ap (λ b. if b then x ∷ filter test xs else filter test xs) passes

  filter-else : (x : Stamped) (xs : List Stamped) → test x ≡ false → filter test (x ∷ xs) ≡ filter test xs
  filter-else x xs fails = ap (λ b. if b then x ∷ filter test xs else filter test xs) fails

  counted_by : (k : ℕ) (x : Stamped) (xs : List Stamped) (b : Bool) → test x ≡ b → CountsFrom k (x ∷ xs)
      → (CountsFrom (k + 1) xs → Counted (k + 1) xs) → (CountsFrom k xs → Counted k xs) → Counted k (x ∷ xs)
  counted_by k x xs true passes h one_more same =
      let own : x.stamp.number ≡ k = h [] xs x refl passes ∙ omega arith in
      let rest : Counted (k + 1) xs = one_more (λ before after f e is.
      let l = ap length (filter-here x before passes) in
      let number = h (x ∷ before) after f (ap (λ l. x ∷ l) e) is in
      omega (arith, l, number)) in
      rw (filter-here x xs passes) (λ i. own i ∷ rest i)
  counted_by k x xs _ fails h one_more same =
      rw (filter-else x xs fails) (same (λ before after f e is.
      let l = ap length (filter-else x before fails) in
      let number = h (x ∷ before) after f (ap (λ l. x ∷ l) e) is in
      omega (arith, l, number)))

  count_up : (k : ℕ) (fises : List Stamped) → CountsFrom k fises → Counted k fises
  count_up k [] h = refl
  count_up k (x ∷ xs) h = counted_by k x xs (test x) refl h (count_up (k + 1) xs) (count_up k xs)

pub device_numbers : DeviceNumbers
device_numbers fises c h = count_up (λ f. f.stamp.conn == c) 0 fises (λ before rest f e passes.
    let conn : f.stamp.conn ≡ c = eqb-true f.stamp.conn c passes in
    let next = h before rest f e in
    next.number ∙ ap (λ d. length (of_connection d before)) conn ∙ omega arith)

pub host_numbers : HostNumbers
host_numbers fises n c h low = count_up (λ f. f.stamp.port == n && f.stamp.conn == c) 0 fises (λ before rest f e passes.
    let parts = and_parts (f.stamp.port == n) (f.stamp.conn == c) passes in
    let port : f.stamp.port ≡ n = eqb-true f.stamp.port n parts.0 in
    let conn : f.stamp.conn ≡ c = eqb-true f.stamp.conn c parts.1 in
    let next = h before rest f e (omega (arith, port, low)) in
    next.number ∙ ap (λ p. length (of_port p f.stamp.conn before)) port ∙ ap (λ d. length (of_port n d before)) conn ∙ omega arith)
