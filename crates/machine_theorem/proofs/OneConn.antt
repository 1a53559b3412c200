-- Where all of a port that was sent and passes a test came, and is of one connection, the last that came is the last that was sent.
use Rattle.std.proofs.Common.{◌≡◌, ℕ, ◌≤◌, ◌&&◌, Bool, true, false, List, [], ◌∷◌, ◌++◌, length, refl, sym, ap, ◌∙◌, arith, All, Contains}
use Rattle.std.proofs.lemmas.{Bool.{and_parts, eq-eqb, false≢true}, List.{append-nil, length-append, Elements.{All-cons, All-contains}}}
use Rattle.std.proofs.lemmas.List.Elements.{All-contains_itself, All-head, All-nil, All-same, All-tail, All-weaker}
use Rattle.std.specs.Prelude.{◌==◌, if◌then◌else◌}
use Rattle.fis_view.specs.Frames.{Stamped}
use Rattle.machine_theorem.specs.Identity.{picks}
use Rattle.machine_theorem.proofs.{Risen.{Begins, of_both}, Within.picks_both}

-- ---- lists

pub no_length : {A : Type 0} (l : List A) → length l ≡ 0 → l ≡ []
no_length [] e = refl
no_length (x ∷ l) e = absurd (omega (arith, e))

-- lists that are the same end with the same
pub ends_same : {A : Type 0} (xs ys : List A) (x y : A) → xs ++ x ∷ [] ≡ ys ++ y ∷ [] → x ≡ y
ends_same [] [] x y e = cc
ends_same [] (b ∷ ys) x y e =
    let long = ap (λ l. length l) e in
    let more = length-append ys (y ∷ []) in
    absurd (omega (arith, long, more))
ends_same (a ∷ xs) [] x y e =
    let long = ap (λ l. length l) e in
    let more = length-append xs (x ∷ []) in
    absurd (omega (arith, long, more))
ends_same (a ∷ xs) (b ∷ ys) x y e = ends_same xs ys x y cc

-- ---- of one connection

and_true : (a b : Bool) → a ≡ true → b ≡ true → (a && b) ≡ true
and_true true b e f = f
and_true false b e f = absurd (cc)

if_all : (P : Stamped → Type 0) (b : Bool) (x : Stamped) (ys : List Stamped) → (b ≡ true → P x) → All P ys → All P (if b then x ∷ ys else ys)
if_all P true x ys one rest = All-cons P x ys (one refl) rest
if_all P false x ys one rest = rest

all_if : (P : Stamped → Type 0) (b : Bool) (x : Stamped) (ys : List Stamped) → All P (if b then x ∷ ys else ys) → (b ≡ true → P x) × All P ys
all_if P true x ys all = (λ e. All-head P x ys all, All-tail P x ys all)
all_if P false x ys all = (λ e. absurd (false≢true e), all)

-- What holds of each that passes a test holds of those that are picked by it, and the other way round.
all_picks : (p : Stamped → Bool) (P : Stamped → Type 0) (xs : List Stamped) → All (λ f. p f ≡ true → P f) xs → All P (picks p xs)
all_picks p P [] all = All-nil P
all_picks p P (x ∷ xs) all =
    if_all P (p x) x (picks p xs) (All-head (λ f. p f ≡ true → P f) x xs all) (all_picks p P xs (All-tail (λ f. p f ≡ true → P f) x xs all))

picks_all : (p : Stamped → Bool) (P : Stamped → Type 0) (xs : List Stamped) → All P (picks p xs) → All (λ f. p f ≡ true → P f) xs
picks_all p P [] all = All-nil (λ f. p f ≡ true → P f)
picks_all p P (x ∷ xs) all = let it = all_if P (p x) x (picks p xs) all in All-cons (λ f. p f ≡ true → P f) x xs it.0 (picks_all p P xs it.1)

first_all : (P : Stamped → Type 0) (xs ys : List Stamped) → All P (xs ++ ys) → All P xs
first_all P [] ys all = All-nil P
first_all P (x ∷ xs) ys all = All-cons P x xs (All-head P x (xs ++ ys) all) (first_all P xs ys (All-tail P x (xs ++ ys) all))

abbrev pub passes : (q : Stamped → Bool) → (n : ℕ) → Stamped → Bool
passes q n f = (f.stamp.port == n) && q f

-- of a port, and of one connection of it
module _ (q : Stamped → Bool) (n c : ℕ) where
  abbrev pub here : Stamped → Bool
  here f = passes q n f && (f.stamp.conn == c)

  abbrev pub IsHere : Stamped → Type 0
  IsHere f = passes q n f ≡ true → f.stamp.conn ≡ c

  same_if : (p d : Bool) → (p ≡ true → d ≡ true) → (p && d) ≡ p
  same_if true d e = e refl
  same_if false d e = refl

  -- where all are, those of the connection are all
  all_here : (xs : List Stamped) → All IsHere xs → picks here xs ≡ picks (passes q n) xs
  all_here [] all = refl
  all_here (x ∷ xs) all =
      let is : here x ≡ passes q n x = same_if (passes q n x) (x.stamp.conn == c) (λ e. eq-eqb x.stamp.conn c (All-head IsHere x xs all e)) in
      ap (λ (b : Bool). if b then x ∷ picks here xs else picks here xs) is
      ∙ ap (λ (l : List Stamped). if passes q n x then x ∷ l else l) (all_here xs (All-tail IsHere x xs all))

  -- what came is a beginning
  joined : (came sent : List Stamped) (it : Begins q n c came sent) → picks here came ++ it.more ≡ picks here sent
  joined came sent it = ap (λ (l : List Stamped). l ++ it.more) (sym (of_both q n c came)) ∙ it.is ∙ of_both q n c sent

  came_here : (P : Stamped → Type 0) (came sent : List Stamped) → Begins q n c came sent → All (λ f. passes q n f ≡ true → P f) sent
      → All (λ f. here f ≡ true → P f) came
  came_here P came sent it all =
      let Q : Stamped → Type 0 = λ f. passes q n f ≡ true → P f in
      let H : Stamped → Type 0 = λ f. here f ≡ true → P f in
      let mine : All H sent = All-weaker Q H (λ f one e. one (and_parts (passes q n f) (f.stamp.conn == c) e).0) sent all in
      let whole : All P (picks here came ++ it.more) =
      All-same P (picks here came ++ it.more) (picks here sent) (joined came sent it) (all_picks here P sent mine) in
      picks_all here P came (first_all P (picks here came) it.more whole)

  -- a list whose last that passes is this one
  pub record EndsWith (xs : List Stamped) (f : Stamped) : Type 0 where
    pub front : List Stamped
    pub later : List Stamped
    pub is : xs ≡ front ++ f ∷ later
    pub passes : here f ≡ true
    pub none : length (picks here later) ≡ 0

  last_is : (xs : List Stamped) (f : Stamped) (e : EndsWith xs f) → picks here xs ≡ picks here e.front ++ f ∷ []
  last_is xs f e =
      ap (picks here) e.is ∙ picks_both here e.front (f ∷ e.later) ∙ ap (λ (l : List Stamped). picks here e.front ++ l)
      (ap (λ (b : Bool). if b then f ∷ picks here e.later else picks here e.later) e.passes ∙ ap (λ (l : List Stamped). f ∷ l) (no_length (picks here e.later) e.none))

  pub last_came : (came sent : List Stamped) → Begins q n c came sent → All IsHere came → All IsHere sent
      → length (picks (passes q n) sent) ≤ length (picks (passes q n) came) → (f g : Stamped) → EndsWith came f → EndsWith sent g → f ≡ g
  last_came came sent it all_came all_sent long f g ends_came ends_sent =
      let both : picks here came ++ it.more ≡ picks here sent = joined came sent it in
      let a = ap (λ (l : List Stamped). length l) (all_here came all_came) in
      let b = ap (λ (l : List Stamped). length l) (all_here sent all_sent) in
      let sum = ap (λ (l : List Stamped). length l) both in
      let parts = length-append (picks here came) it.more in
      let empty : it.more ≡ [] = no_length it.more (omega (arith, a, b, sum, parts, long)) in
      let same : picks here came ≡ picks here sent = sym (append-nil (picks here came)) ∙ ap (λ (l : List Stamped). picks here came ++ l) (sym empty) ∙ both in
      ends_same (picks here ends_came.front) (picks here ends_sent.front) f g (sym (last_is came f ends_came) ∙ same ∙ last_is sent g ends_sent)

-- What holds of each that was sent and passes holds of each that came.
pub came_as_sent : (q : Stamped → Bool) (n : ℕ) (P : Stamped → Type 0) (came sent : List Stamped) → ((c : ℕ) → Begins q n c came sent)
    → All (λ f. passes q n f ≡ true → P f) sent → All (λ f. passes q n f ≡ true → P f) came
came_as_sent q n P came sent order all =
    All-weaker (Contains came) (λ f. passes q n f ≡ true → P f) (λ f has it.
    let conn : ℕ = f.stamp.conn in
    let own = came_here q n conn P came sent (order conn) all in
    All-contains (λ g. here q n conn g ≡ true → P g) came f own has (and_true (passes q n f) (conn == conn) it (eq-eqb conn conn refl)))
    came (All-contains_itself came)
