-- What is saved, as words: `put value rest` are the words of a value, and behind them others.
use Rattle.std.specs.{Prelude.{◌≡◌, ℕ, List, [], ◌∷◌, Option, Some, None, Bool, true, false, Result, Ok, Err, Vec, length, refl}, Global.Global}
use Rattle.std.specs.List.{AllByRecursion}
use Rattle.std.proofs.Common.{ap, arith, sym, ◌∙◌}
use Rattle.saved_state.specs.declared.words.RestoreError.{RestoreError, TheVariants.{OutOfMemory, Short, NoSuch, Broken}}

-- these are the words of no value
abbrev pub NotSaved : {A : Type 0} → (A → List ℕ → List ℕ) → (A → Type 0) → List ℕ → Type 0
NotSaved {A} put keeps words = (value : A) (rest : List ℕ) → keeps value → words ≡ put value rest → ⊥

-- whatever follows, the words of a value are those of no other one
abbrev pub IsToldApart : {A : Type 0} → (A → List ℕ → List ℕ) → (A → Type 0) → Type 0
IsToldApart {A} put keeps = (a b : A) (x y : List ℕ) → keeps a → keeps b → put a x ≡ put b y → (a ≡ b) × (x ≡ y)

-- a value is taken off the top of these words, or they are refused. Only words that are no value's are refused for what they are
abbrev pub Restores : {A : Type 0} → (A → List ℕ → List ℕ) → (A → Type 0) → List ℕ → Result A RestoreError → List ℕ → Type 0
Restores put keeps old (Ok value) new = (old ≡ put value new) × keeps value
Restores put keeps old (Err OutOfMemory) new = Unit {0}
Restores put keeps old (Err Short) new = NotSaved put keeps old
Restores put keeps old (Err NoSuch) new = NotSaved put keeps old
Restores put keeps old (Err Broken) new = NotSaved put keeps old

-- words of each, in order
abbrev pub put_all : {A : Type 0} → (A → List ℕ → List ℕ) → List A → List ℕ → List ℕ
put_all put [] rest = rest
put_all put (value ∷ values) rest = put value (put_all put values rest)

-- so many are taken off
abbrev pub RestoresAll : {A : Type 0} → (A → List ℕ → List ℕ) → (A → Type 0) → List ℕ → ℕ → Result (Unit {0}) RestoreError → List A → List ℕ → Type 0
RestoresAll put keeps old count (Ok done) values new = (old ≡ put_all put values new) × AllByRecursion keeps values
RestoresAll {A} put keeps old count (Err OutOfMemory) values new = Unit {0}
RestoresAll {A} put keeps old count (Err other) values new =
    NotSaved (put_all put) (λ all. (length all ≡ count) × AllByRecursion keeps all) old

-- how many there are, and then each
abbrev pub put_list : {A : Type 0} → (A → List ℕ → List ℕ) → List A → List ℕ → List ℕ
put_list put values rest = length values ∷ put_all put values rest

-- as many are taken off
abbrev pub RestoresList : {A : Type 0} → (A → List ℕ → List ℕ) → (A → Type 0) → List ℕ → Result (Vec A Global) RestoreError → List ℕ → Type 0
RestoresList put keeps old (Ok all) new = (old ≡ put_list put all.items new) × AllByRecursion keeps all.items
RestoresList put keeps old (Err OutOfMemory) new = Unit {0}
RestoresList put keeps old (Err Short) new = NotSaved (put_list put) (AllByRecursion keeps) old
RestoresList put keeps old (Err NoSuch) new = NotSaved (put_list put) (AllByRecursion keeps) old
RestoresList put keeps old (Err Broken) new = NotSaved (put_list put) (AllByRecursion keeps) old

abbrev pub put_number : ℕ → List ℕ → List ℕ
put_number n rest = n ∷ rest

pub number_apart : (a b : ℕ) (x y : List ℕ) → put_number a x ≡ put_number b y → (a ≡ b) × (x ≡ y)
number_apart a b x y e = (cc, cc)

abbrev pub put_bool : Bool → List ℕ → List ℕ
put_bool false rest = 0 ∷ rest
put_bool true rest = 1 ∷ rest

pub bool_apart : (a b : Bool) (x y : List ℕ) → put_bool a x ≡ put_bool b y → (a ≡ b) × (x ≡ y)
bool_apart false false x y e = (refl, cc)
bool_apart true true x y e = (refl, cc)
bool_apart false true x y e = absurd (cc)
bool_apart true false x y e = absurd (cc)

abbrev pub put_option : {A : Type 0} → (A → List ℕ → List ℕ) → Option A → List ℕ → List ℕ
put_option put None rest = 0 ∷ rest
put_option put (Some value) rest = 1 ∷ put value rest

abbrev pub KeepsOption : {A : Type 0} → (A → Type 0) → Option A → Type 0
KeepsOption keeps None = Unit {0}
KeepsOption keeps (Some value) = keeps value

pub option_apart : {A : Type 0} (put : A → List ℕ → List ℕ) (keeps : A → Type 0) → IsToldApart put keeps
    → IsToldApart (put_option put) (KeepsOption keeps)
option_apart put keeps apart None None x y k l e = (refl, cc)
option_apart put keeps apart (Some a) (Some b) x y k l e =
    let inner : put a x ≡ put b y = cc in
    let both = apart a b x y k l inner in (ap Some both.0, both.1)
option_apart put keeps apart None (Some b) x y k l e = absurd (cc)
option_apart put keeps apart (Some a) None x y k l e = absurd (cc)

-- so many values, one after another
pub all_apart : {A : Type 0} (put : A → List ℕ → List ℕ) (keeps : A → Type 0) → IsToldApart put keeps
    → (xs ys : List A) (x y : List ℕ) → length xs ≡ length ys → AllByRecursion keeps xs → AllByRecursion keeps ys
    → put_all put xs x ≡ put_all put ys y → (xs ≡ ys) × (x ≡ y)
all_apart put keeps apart [] [] x y same k l e = (refl, e)
all_apart put keeps apart [] (b ∷ ys) x y same k l e = absurd (omega (arith, same))
all_apart put keeps apart (a ∷ xs) [] x y same k l e = absurd (omega (arith, same))
all_apart put keeps apart (a ∷ xs) (b ∷ ys) x y same k l e =
    let both = apart a b (put_all put xs x) (put_all put ys y) k.0 l.0 e in
    let less : length xs ≡ length ys = omega (arith, same) in
    let rest = all_apart put keeps apart xs ys x y less k.1 l.1 both.1 in
    let xs_are : xs ≡ ys = rest.0 in
    let a_is : a ≡ b = both.0 in
    (cc, rest.1)

abbrev pub put_pair : {A B : Type 0} → (A → List ℕ → List ℕ) → (B → List ℕ → List ℕ) → A × B → List ℕ → List ℕ
put_pair first second p rest = first p.0 (second p.1 rest)

pub pair_apart : {A B : Type 0} (first : A → List ℕ → List ℕ) (keeps : A → Type 0) → IsToldApart first keeps
    → (second : B → List ℕ → List ℕ) (holds : B → Type 0) → IsToldApart second holds
    → IsToldApart (put_pair first second) (λ p. keeps p.0 × holds p.1)
pair_apart first keeps apart second holds beside (a, b) (c, d) x y k l e =
    let one = apart a c (second b x) (second d y) k.0 l.0 e in
    let other = beside b d x y k.1 l.1 one.1 in
    let a_is : a ≡ c = one.0 in
    let b_is : b ≡ d = other.0 in
    (cc, other.1)

abbrev pub put_three : {A B C : Type 0} → (A → List ℕ → List ℕ) → (B → List ℕ → List ℕ) → (C → List ℕ → List ℕ) → A × B × C → List ℕ → List ℕ
put_three first second third t rest = first t.0 (second t.1 (third t.2 rest))

pub three_apart : {A B C : Type 0} (first : A → List ℕ → List ℕ) (keeps : A → Type 0) → IsToldApart first keeps
    → (second : B → List ℕ → List ℕ) (holds : B → Type 0) → IsToldApart second holds
    → (third : C → List ℕ → List ℕ) (stands : C → Type 0) → IsToldApart third stands
    → IsToldApart (put_three first second third) (λ t. keeps t.0 × holds t.1 × stands t.2)
three_apart first keeps apart second holds beside third stands behind (a, b, c) (d, e, f) x y k l is =
    let both = pair_apart first keeps apart (put_pair second third) (λ p. holds p.0 × stands p.1)
    (pair_apart second holds beside third stands behind) (a, (b, c)) (d, (e, f)) x y (k.0, (k.1, k.2)) (l.0, (l.1, l.2)) is in
    (ap (λ p. (p.0, p.1.0, p.1.1)) both.0, both.1)

-- ---- for a type of the caller's own, whose parts are saved one after another

-- words that are no parts are no value of them
pub parts_refused : {A B : Type 0} (put : A → List ℕ → List ℕ) (keeps : A → Type 0) (Keeps : B → Type 0) (parts : B → A)
    → ((v : B) → Keeps v → keeps (parts v)) → (old new : List ℕ) (error : RestoreError) → Restores put keeps old (Err error) new
    → Restores (λ v rest. put (parts v) rest) Keeps old (Err error) new
parts_refused put keeps Keeps parts each old new OutOfMemory gone = tt
parts_refused put keeps Keeps parts each old new Short gone = λ v rest k e. gone (parts v) rest (each v k) e
parts_refused put keeps Keeps parts each old new NoSuch gone = λ v rest k e. gone (parts v) rest (each v k) e
parts_refused put keeps Keeps parts each old new Broken gone = λ v rest k e. gone (parts v) rest (each v k) e

-- nor are parts that break a rule
pub rule_refused : {A B : Type 0} (put : A → List ℕ → List ℕ) (keeps : A → Type 0) (Keeps : B → Type 0) (parts : B → A) (rule : A → Bool)
    → IsToldApart put keeps → ((v : B) → Keeps v → keeps (parts v)) → ((v : B) → Keeps v → rule (parts v) ≡ true)
    → (old new : List ℕ) (a : A) → (old ≡ put a new) × keeps a → rule a ≡ false → NotSaved (λ v rest. put (parts v) rest) Keeps old
rule_refused put keeps Keeps parts rule apart each ruled old new a is not v rest k e =
    let same : a ≡ parts v = (apart a (parts v) new rest is.1 (each v k) (sym is.0 ∙ e)).0 in
    let held : rule (parts v) ≡ true = ruled v k in
    absurd (cc)

-- a value whose parts are told apart is told apart
pub parts_apart : {A B : Type 0} (put : A → List ℕ → List ℕ) (keeps : A → Type 0) (Keeps : B → Type 0) (parts : B → A)
    → IsToldApart put keeps → ((v : B) → Keeps v → keeps (parts v)) → ((v w : B) → parts v ≡ parts w → v ≡ w)
    → IsToldApart (λ v rest. put (parts v) rest) Keeps
parts_apart put keeps Keeps parts apart each same a b x y k l e =
    let both = apart (parts a) (parts b) x y (each a k) (each b l) e in
    (same a b both.0, both.1)

-- where nothing is to be kept to, all do

pub each_free : {A : Type 0} (keeps : A → Type 0) → ((a : A) → keeps a) → (xs : List A) → AllByRecursion keeps xs
each_free keeps all [] = tt
each_free keeps all (x ∷ xs) = (all x, each_free keeps all xs)

pub option_free : {A : Type 0} (keeps : A → Type 0) → ((a : A) → keeps a) → (o : Option A) → KeepsOption keeps o
option_free keeps all None = tt
option_free keeps all (Some a) = all a

pub list_apart : {A : Type 0} (put : A → List ℕ → List ℕ) (keeps : A → Type 0) → IsToldApart put keeps
    → IsToldApart (put_list put) (AllByRecursion keeps)
list_apart put keeps apart a b x y k l e =
    let same : length a ≡ length b = cc in
    let rest : put_all put a x ≡ put_all put b y = cc in
    all_apart put keeps apart a b x y same k l rest
