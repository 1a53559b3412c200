-- A bit of PxSACT that falls as a FIS is taken falls by an end that the disk at the port sent, and each end takes it once.
use Rattle.std.proofs.Common.{◌≡◌, ℕ, zero, suc, ◌+◌, ◌≤◌, ◌&&◌, Bool, true, false, List, [], ◌∷◌, ◌++◌, length, Result, Ok, Err, refl, sym, ap}
use Rattle.std.proofs.{Common.{subst, ◌∙◌, inl, inr, arith}, lemmas.Bool.{cases_lt, eq-eqb, eqb-true, false≢true, lt-ltb, ltb-true}}
use Rattle.std.specs.Prelude.{◌==◌, nat_lt, if◌then◌else◌}
use Rattle.fis_view.specs.{Frames.Stamped, Seen.seen, Table.{Bits, SActive, field}, declared.view.{Fis.Fis, FisFault.FisFault}}
use Rattle.fis_view.specs.declared.view.Fis.TheVariants as view
use Rattle.multiplier.specs.Passing.{of_conn}
use Rattle.slots.specs.Slots.{has_bit}
use Rattle.machine_theorem.specs.{Identity.{names_in, picks}, Tags.once_if, Crossing.Within}
use Rattle.machine_theorem.proofs.{Names.same_frame, Within.{fewer, first_within}}

-- ---- ends

-- a FIS names the tag
abbrev pub names_tag : (tag : ℕ) → Stamped → Bool
names_tag tag f = names_in tag (seen f.bytes)

-- and is of this port
abbrev pub names_of : (n tag : ℕ) → Stamped → Bool
names_of n tag f = (f.stamp.port == n) && names_tag tag f

pub record IsNaming (tag : ℕ) (bytes : List ℕ) : Type 0 where
  pub viewed : seen bytes ≡ Ok (view.SetBits bytes)
  pub names : has_bit (field Bits SActive bytes) tag ≡ true

naming_by : (tag : ℕ) (bytes : List ℕ) (r : Result Fis FisFault) → seen bytes ≡ r → names_in tag r ≡ true → IsNaming tag bytes
naming_by tag bytes (Ok (view.SetBits f)) is names =
    let same : f ≡ bytes = same_frame bytes f is in
    record { viewed = is ∙ ap (λ (b : List ℕ). Ok (view.SetBits b)) same; names = subst (λ (b : List ℕ). has_bit (field Bits SActive b) tag ≡ true) same names }
naming_by tag bytes (Ok (view.RegH2D f)) is names = absurd (false≢true names)
naming_by tag bytes (Ok (view.RegD2H f)) is names = absurd (false≢true names)
naming_by tag bytes (Ok (view.DmaActivate f)) is names = absurd (false≢true names)
naming_by tag bytes (Ok (view.DmaSetup f)) is names = absurd (false≢true names)
naming_by tag bytes (Ok (view.PioSetup f)) is names = absurd (false≢true names)
naming_by tag bytes (Ok (view.Payload f)) is names = absurd (false≢true names)
naming_by tag bytes (Ok (view.Unknown f)) is names = absurd (false≢true names)
naming_by tag bytes (Err e) is names = absurd (false≢true names)

pub naming_is : (tag : ℕ) (bytes : List ℕ) → names_in tag (seen bytes) ≡ true → IsNaming tag bytes
naming_is tag bytes names = naming_by tag bytes (seen bytes) refl names

-- ---- connection by connection

abbrev below : ℕ → Stamped → Bool
below b f = nat_lt f.stamp.conn b

pub if_more : {A : Type 0} (b : Bool) (x : A) (xs : List A) → length (if b then x ∷ xs else xs) ≡ once_if (b) + length xs
if_more true x xs = omega arith
if_more false x xs = omega arith

-- a FIS is of a connection below the next bound, or of the bound's
split_bool : (p : Bool) (c b : ℕ) (q r : Bool) → nat_lt c b ≡ q → (c == b) ≡ r
    → once_if (p && nat_lt c (suc b)) ≡ once_if (p && q) + once_if (p && r)
split_bool false c b q r e f = refl
split_bool true c b true true e f = absurd (let less = ltb-true c b e in let same = eqb-true c b f in omega (arith, less, same))
split_bool true c b true false e f =
    let less = ltb-true c b e in
    let next : nat_lt c (suc b) ≡ true = lt-ltb c (suc b) (omega (arith, less)) in
    ap once_if next
split_bool true c b false true e f =
    let same = eqb-true c b f in
    let next : nat_lt c (suc b) ≡ true = lt-ltb c (suc b) (omega (arith, same)) in
    ap once_if next
split_bool true c b false false e f = by (nat_lt c (suc b)) refl
  where
    by : (x : Bool) → nat_lt c (suc b) ≡ x → once_if (nat_lt c (suc b)) ≡ 0
    by false is = ap once_if is
    by true is = absurd (elim (cases_lt c b) [
      | inl less ↦ false≢true (sym e ∙ lt-ltb c b less)
      | inr more ↦ false≢true (sym f ∙ eq-eqb c b (let most = ltb-true c (suc b) is in omega (arith, more, most)))
    ])

split : (p : Stamped → Bool) (b : ℕ) (xs : List Stamped) → length (picks (λ f. p f && below (suc b) f) xs) ≡ length (picks (λ f. p f && below b f) xs) + length (picks (λ f. p f && (f.stamp.conn == b)) xs)
split p b [] = omega arith
split p b (x ∷ xs) =
    let rest = split p b xs in
    let one = split_bool (p x) x.stamp.conn b (nat_lt x.stamp.conn b) (x.stamp.conn == b) refl refl in
    let a = if_more (p x && below (suc b) x) x (picks (λ f. p f && below (suc b) f) xs) in
    let c = if_more (p x && below b x) x (picks (λ f. p f && below b f) xs) in
    let d = if_more (p x && (x.stamp.conn == b)) x (picks (λ f. p f && (f.stamp.conn == b)) xs) in
    omega (arith, rest, one, a, c, d)

none_below : (p : Stamped → Bool) (xs : List Stamped) → length (picks (λ f. p f && below 0 f) xs) ≡ 0
none_below p [] = refl
none_below p (x ∷ xs) =
    let rest = none_below p xs in
    let a = if_more (p x && below 0 x) x (picks (λ f. p f && below 0 f) xs) in
    let none : (p x && below 0 x) ≡ false = by (p x) in
    let one : once_if (p x && below 0 x) ≡ 0 = ap once_if none in
    omega (arith, rest, a, one)
  where
    never : (b : Bool) → below 0 x ≡ b → b ≡ false
    never true e = absurd (let less = ltb-true x.stamp.conn 0 e in omega (arith, less))
    never false e = refl

    by : (b : Bool) → (b && below 0 x) ≡ false
    by true = never (below 0 x) refl
    by false = refl

-- above all connections of a list
bound : List Stamped → ℕ
bound [] = 0
bound (x ∷ xs) = suc x.stamp.conn + bound xs

all_below : (p : Stamped → Bool) (xs : List Stamped) (b : ℕ) → bound xs ≤ b → length (picks (λ f. p f && below b f) xs) ≡ length (picks p xs)
unfolding bound
all_below p [] b low = refl
all_below p (x ∷ xs) b low =
    let rest = all_below p xs b (omega (arith, low)) in
    let here : below b x ≡ true = lt-ltb x.stamp.conn b (omega (arith, low)) in
    let same : (p x && below b x) ≡ p x = ap (λ (y : Bool). p x && y) here ∙ by (p x) in
    let a = if_more (p x && below b x) x (picks (λ f. p f && below b f) xs) in
    let c = if_more (p x) x (picks p xs) in
    let e : once_if (p x && below b x) ≡ once_if (p x) = ap once_if same in
    omega (arith, rest, a, c, e)
  where
    by : (b : Bool) → (b && true) ≡ b
    by true = refl
    by false = refl

by_bound : (p : Stamped → Bool) (xs ys : List Stamped) → ((c : ℕ) → length (picks (λ f. p f && (f.stamp.conn == c)) xs) ≤ length (picks (λ f. p f && (f.stamp.conn == c)) ys)) → (b : ℕ)
    → length (picks (λ f. p f && below b f) xs) ≤ length (picks (λ f. p f && below b f) ys)
by_bound p xs ys each zero = let a = none_below p xs in let b = none_below p ys in omega (arith, a, b)
by_bound p xs ys each (suc b) =
    let less = by_bound p xs ys each b in
    let one = each b in
    let x = split p b xs in
    let y = split p b ys in
    omega (arith, less, one, x, y)

-- no more of a list than of another, if no more of each connection
by_connections : (p : Stamped → Bool) (xs ys : List Stamped) → ((c : ℕ) → length (picks (λ f. p f && (f.stamp.conn == c)) xs) ≤ length (picks (λ f. p f && (f.stamp.conn == c)) ys))
    → length (picks p xs) ≤ length (picks p ys)
by_connections p xs ys each =
    let b : ℕ = bound xs + bound ys in
    let less = by_bound p xs ys each b in
    let x = all_below p xs b (omega arith) in
    let y = all_below p ys b (omega arith) in
    omega (arith, less, x, y)

picked_two : (a b c : Bool) (x : Stamped) (xs : List Stamped) (p : Stamped → Bool) → p x ≡ b → picks p (if a && c then x ∷ xs else xs) ≡ (if (a && b) && c then x ∷ picks p xs else picks p xs)
picked_two true true true x xs p e = ap (λ (y : Bool). if y then x ∷ picks p xs else picks p xs) e
picked_two true false true x xs p e = ap (λ (y : Bool). if y then x ∷ picks p xs else picks p xs) e
picked_two true true false x xs p e = refl
picked_two true false false x xs p e = refl
picked_two false b c x xs p e = refl

pub of_both : (q : Stamped → Bool) (n c : ℕ) (xs : List Stamped) → picks q (of_conn n c xs) ≡ picks (λ f. ((f.stamp.port == n) && q f) && (f.stamp.conn == c)) xs
of_both q n c [] = refl
of_both q n c (x ∷ xs) =
    picked_two (x.stamp.port == n) (q x) (x.stamp.conn == c) x (of_conn n c xs) q refl
    ∙ ap (λ (l : List Stamped). if ((x.stamp.port == n) && q x) && (x.stamp.conn == c) then x ∷ l else l) (of_both q n c xs)

-- of a connection, what came and passes a test is a beginning of what was sent and passes it
pub record Begins (q : Stamped → Bool) (n c : ℕ) (came sent : List Stamped) : Type 0 where
  pub more : List Stamped
  pub is : picks q (of_conn n c came) ++ more ≡ picks q (of_conn n c sent)

-- If it is so of each connection, no more of the port that came passes the test than was sent.
pub few_came : (q : Stamped → Bool) (n : ℕ) (came sent : List Stamped) → ((c : ℕ) → Begins q n c came sent)
    → length (picks (λ f. (f.stamp.port == n) && q f) came) ≤ length (picks (λ f. (f.stamp.port == n) && q f) sent)
few_came q n came sent order = by_connections (λ f. (f.stamp.port == n) && q f) came sent (λ c.
    let it = order c in
    let within : Within (picks q (of_conn n c came)) (picks q (of_conn n c sent)) =
    subst (λ (l : List Stamped). Within (picks q (of_conn n c came)) l) it.is (first_within (picks q (of_conn n c came)) it.more) in
    let less = fewer (picks q (of_conn n c came)) (picks q (of_conn n c sent)) within in
    let x = ap (λ (l : List Stamped). length l) (of_both q n c came) in
    let y = ap (λ (l : List Stamped). length l) (of_both q n c sent) in
    omega (arith, less, x, y))

-- and no more names the tag
pub came_few : (n tag : ℕ) (came sent : List Stamped) → ((c : ℕ) → Begins (names_tag tag) n c came sent)
    → length (picks (names_of n tag) came) ≤ length (picks (names_of n tag) sent)
came_few n tag came sent order = few_came (names_tag tag) n came sent order
