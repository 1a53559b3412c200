-- Lists of FISes that are in order, and one that is one longer or shorter.
use Rattle.std.proofs.Common.{◌≡◌, ◌==◌, ◌≤◌, ◌<◌, ℕ, ◌+◌, ◌⊎◌, Bool, true, false, List, [], ◌∷◌, ◌++◌, length, map, drop, refl, sym, ap, subst, ◌∙◌}
use Rattle.std.proofs.{Common.{inl, inr, append_assoc, length-append, arith}, lemmas.{Bool.{eqb-true}, List.Elements.{All-append, All-nil, All-cons}}}
use Rattle.std.proofs.{lemmas.List.Elements.{All-take}, Math.Seq.{take-append_seam}}
use Rattle.std.specs.Prelude.{All, slice_index, if◌then◌else◌}
use Rattle.fis_view.specs.Frames.{Stamped}
use Rattle.multiplier.specs.Orders.{of_connection, control_port, InDeviceOrder, IsNextAtHost, InStampedOrder, IsWithin}

-- ---- where an element stands

-- a list with an element is not empty
some_element : {A : Type 0} (before rest : List A) (x : A) → before ++ x ∷ rest ≡ [] → ⊥
some_element before rest x e = let l = ap length e in omega (arith, l, length-append before (x ∷ rest))

-- an element of a list that is one longer stands at its end, or before it
stands : {A : Type 0} (before rest xs : List A) (x y : A) → before ++ y ∷ rest ≡ xs ++ x ∷ []
    → ((before ≡ xs) × (y ≡ x)) ⊎ ((less : List A) × (before ++ y ∷ less ≡ xs))
stands [] rest [] x y e = let head : y ≡ x = cc in inl (refl, head)
stands [] rest (z ∷ zs) x y e = let head : y ≡ z = cc in inr (zs, ap (λ h. h ∷ zs) head)
stands (b ∷ bs) rest [] x y e =
    let tail : bs ++ y ∷ rest ≡ [] = ap (drop 1) e in
    absurd (some_element bs rest y tail)
stands (b ∷ bs) rest (z ∷ zs) x y e =
    let tail : bs ++ y ∷ rest ≡ zs ++ x ∷ [] = ap (drop 1) e in
    let head : b ≡ z = cc in
    elim (stands bs rest zs x y tail) [
      | inl p ↦ inl (ap (λ l. b ∷ l) p.0 ∙ ap (λ h. h ∷ zs) head, p.1)
      | inr p ↦ inr (p.0, ap (λ l. b ∷ l) p.1 ∙ ap (λ h. h ∷ zs) head)
    ]

-- what stands in a beginning stands in the whole
in_whole : {A : Type 0} (front more before rest : List A) (x : A) → before ++ x ∷ rest ≡ front → before ++ x ∷ (rest ++ more) ≡ front ++ more
in_whole front more before rest x e = sym (append_assoc before (x ∷ rest) more) ∙ ap (λ l. l ++ more) e

-- ---- the orders

pub device_prefixes : (front more : List Stamped) → InDeviceOrder (front ++ more) → InDeviceOrder front
device_prefixes front more h = λ before rest f e. h before (rest ++ more) f (in_whole front more before rest f e)

pub stamped_starts : (fises : List Stamped) → fises ≡ [] → InStampedOrder fises
stamped_starts fises none = λ before rest f e. absurd (some_element before rest f (e ∙ none))

pub stamped_prefixes : (front more : List Stamped) → InStampedOrder (front ++ more) → InStampedOrder front
stamped_prefixes front more h = λ before rest f e. h before (rest ++ more) f (in_whole front more before rest f e)

pub stamped_more : (fises : List Stamped) (f : Stamped) → InStampedOrder fises → (f.stamp.port < control_port → IsNextAtHost fises f) → InStampedOrder (fises ++ f ∷ [])
stamped_more fises f h next =
    λ before rest g e. elim (stands before rest fises f g e) as (λ _. g.stamp.port < control_port → IsNextAtHost before g) [
      | inl p ↦ subst (λ (b : List Stamped × Stamped). b.1.stamp.port < control_port → IsNextAtHost b.0 b.1) (λ i. (sym p.0 i, sym p.1 i)) next
      | inr p ↦ h before p.0 g p.1
    ]

-- ---- bounds

pub within_none : (fises : List Stamped) (n conn gone : ℕ) → fises ≡ [] → IsWithin fises n conn gone
within_none fises n conn gone none =
    subst (λ (fs : List Stamped). IsWithin fs n conn gone) (sym none) (record {
      highest = All-nil (λ g. g.stamp.port ≡ n → g.stamp.conn ≤ conn);
      shown = All-nil (λ g. g.stamp.port ≡ control_port → slice_index g.stamp.shown n ≤ gone);
    })

pub within_rises : (fises : List Stamped) (n conn gone later more : ℕ) → IsWithin fises n conn gone → conn ≤ later → gone ≤ more → IsWithin fises n later more
within_rises fises n conn gone later more h conns removals = record {
  highest = λ k d less of_n. let p = h.highest k d less of_n in omega arith;
  shown = λ k d less control. let p = h.shown k d less control in omega arith;
}

pub within_more : (fises : List Stamped) (f : Stamped) (n conn gone : ℕ) → IsWithin fises n conn gone → (f.stamp.port ≡ n → f.stamp.conn ≤ conn)
    → (f.stamp.port ≡ control_port → slice_index f.stamp.shown n ≤ gone) → IsWithin (fises ++ f ∷ []) n conn gone
within_more fises f n conn gone h own control =
    let Own : Stamped → Type 0 = λ g. g.stamp.port ≡ n → g.stamp.conn ≤ conn in
    let Control : Stamped → Type 0 = λ g. g.stamp.port ≡ control_port → slice_index g.stamp.shown n ≤ gone in
    record {
      highest = All-append Own fises (f ∷ []) h.highest (All-cons Own f [] own (All-nil Own));
      shown = All-append Control fises (f ∷ []) h.shown (All-cons Control f [] control (All-nil Control));
    }

pub within_less : (front more : List Stamped) (n conn gone : ℕ) → IsWithin (front ++ more) n conn gone → IsWithin front n conn gone
within_less front more n conn gone h =
    let Own : Stamped → Type 0 = λ g. g.stamp.port ≡ n → g.stamp.conn ≤ conn in
    let Control : Stamped → Type 0 = λ g. g.stamp.port ≡ control_port → slice_index g.stamp.shown n ≤ gone in
    record {
      highest = subst (All Own) (take-append_seam front more) (All-take Own (length front) (front ++ more) h.highest);
      shown = subst (All Control) (take-append_seam front more) (All-take Control (length front) (front ++ more) h.shown);
    }

-- ---- numbers

-- the number of a frame of a connection is how many of it stand before
module _ (f : Stamped → Stamped) (same : (x : Stamped) → (f x).stamp.number ≡ x.stamp.number) (c : ℕ) where
  -- each frame of the connection has the number k and how many of it stand before
  abbrev CountsFrom : ℕ → List Stamped → Type 0
  CountsFrom k fises = (before rest : List Stamped) (x : Stamped) → before ++ x ∷ rest ≡ fises → (x.stamp.conn == c) ≡ true → x.stamp.number ≡ k + length (of_connection c before)

  abbrev NextIs : ℕ → List Stamped → Type 0
  NextIs k fises = (front rest : List Stamped) (x : Stamped) → front ++ x ∷ rest ≡ map f (of_connection c fises) → x.stamp.number ≡ k + length front

  here_by : (k : ℕ) (y : Stamped) (ys front rest : List Stamped) (x : Stamped) → y.stamp.number ≡ k + 0 → ((after : List Stamped) → after ++ x ∷ rest ≡ map f (of_connection c ys) → x.stamp.number ≡ k + 1 + length after)
      → front ++ x ∷ rest ≡ f y ∷ map f (of_connection c ys) → x.stamp.number ≡ k + length front
  here_by k y ys [] rest x own later e =
      let head : x ≡ f y = cc in
      let number : (f y).stamp.number ≡ y.stamp.number = same y in
      let is : x.stamp.number ≡ (f y).stamp.number = ap (λ (g : Stamped). g.stamp.number) head in
      omega arith
  here_by k y ys (z ∷ zs) rest x own later e =
      let tail : zs ++ x ∷ rest ≡ map f (of_connection c ys) = ap (drop 1) e in
      let next : x.stamp.number ≡ k + 1 + length zs = later zs tail in
      omega arith

  counted_by : (k : ℕ) (y : Stamped) (ys : List Stamped) (b : Bool) → (y.stamp.conn == c) ≡ b → CountsFrom k (y ∷ ys)
      → (CountsFrom (k + 1) ys → NextIs (k + 1) ys) → (CountsFrom k ys → NextIs k ys) → NextIs k (y ∷ ys)
  counted_by k y ys true so counts one_more as_many front rest x e =
      let own : y.stamp.number ≡ k + 0 = counts [] ys y refl so in
      let split : of_connection c (y ∷ ys) ≡ y ∷ of_connection c ys = ap (λ (b : Bool). if b then y ∷ of_connection c ys else of_connection c ys) so in
      let next : NextIs (k + 1) ys = one_more (λ before after g at is.
      let l : length (of_connection c (y ∷ before)) ≡ length (of_connection c before) + 1 = ap (λ (b : Bool). length (if b then y ∷ of_connection c before else of_connection c before)) so ∙ omega arith in
      let number : g.stamp.number ≡ k + length (of_connection c (y ∷ before)) = counts (y ∷ before) after g (ap (λ xs. y ∷ xs) at) is in
      omega (arith, l, number)) in
      here_by k y ys front rest x own (λ after at. next after rest x at) (e ∙ ap (map f) split)
  counted_by k y ys false not_so counts one_more as_many front rest x e =
      let split : of_connection c (y ∷ ys) ≡ of_connection c ys = ap (λ (b : Bool). if b then y ∷ of_connection c ys else of_connection c ys) not_so in
      as_many (λ before after g at is.
      let l : length (of_connection c (y ∷ before)) ≡ length (of_connection c before) = ap (λ (b : Bool). length (if b then y ∷ of_connection c before else of_connection c before)) not_so in
      let number : g.stamp.number ≡ k + length (of_connection c (y ∷ before)) = counts (y ∷ before) after g (ap (λ xs. y ∷ xs) at) is in
      omega (arith, l, number)) front rest x (e ∙ ap (map f) split)

  next_is : (k : ℕ) (fises : List Stamped) → CountsFrom k fises → NextIs k fises
  next_is k [] counts = λ front rest x e. absurd (some_element front rest x e)
  next_is k (y ∷ ys) counts = counted_by k y ys (y.stamp.conn == c) refl counts (next_is (k + 1) ys) (next_is k ys)

  pub number_is : (fises front rest : List Stamped) (x : Stamped) → InDeviceOrder fises → front ++ x ∷ rest ≡ map f (of_connection c fises) → x.stamp.number ≡ length front
  number_is fises front rest x order e =
      next_is 0 fises (λ before after g at is.
      (order before after g at).number ∙ ap (λ (d : ℕ). length (of_connection d before)) (eqb-true g.stamp.conn c is) ∙ omega arith) front rest x e ∙ omega arith
