-- Values one after another: what is read of them is the beginning of what was saved.
use Rattle.std.proofs.Common.{◌≡◌, ◌<◌, ◌+◌, ◌∙◌, ◌++◌, ℕ, List, [], ◌∷◌, Err, length, take, set, refl, sym, ap, subst, add-one, arith}
use Rattle.std.proofs.Math.Seq.{take-suc-set}
use Rattle.std.specs.List.{AllByRecursion}
use Rattle.saved_state.specs.{declared.words.RestoreError.{RestoreError, TheVariants.{OutOfMemory, Short, NoSuch, Broken}}, State.IsToldApart}
use Rattle.saved_state.specs.State.{NotSaved, Restores, RestoresAll, RestoresList, put_all, put_list}

-- one more
pub put_all-append : {A : Type 0} (put : A → List ℕ → List ℕ) (xs : List A) (v : A) (rest : List ℕ)
    → put_all put (xs ++ (v ∷ [])) rest ≡ put_all put xs (put v rest)
put_all-append put [] v rest = refl
put_all-append put (x ∷ xs) v rest = ap (put x) (put_all-append put xs v rest)

pub each-append : {A : Type 0} (keeps : A → Type 0) (xs : List A) (v : A)
    → AllByRecursion keeps xs → keeps v → AllByRecursion keeps (xs ++ (v ∷ []))
each-append keeps [] v all one = (one, tt)
each-append keeps (x ∷ xs) v all one = (all.0, each-append keeps xs v all.1 one)

-- behind the first of these there is another one
pub one_more : {A : Type 0} (put : A → List ℕ → List ℕ) (keeps : A → Type 0)
    → IsToldApart put keeps
    → (xs ys : List A) (x y : List ℕ) → length xs < length ys → AllByRecursion keeps xs → AllByRecursion keeps ys
    → put_all put xs x ≡ put_all put ys y → (v : A) × ((rest : List ℕ) × (keeps v × (x ≡ put v rest)))
one_more put keeps apart [] [] x y low were all e = absurd (omega (arith, low))
one_more put keeps apart (a ∷ xs) [] x y low were all e = absurd (omega (arith, low))
one_more put keeps apart [] (v ∷ ys) x y low were all e = (v, (put_all put ys y, (all.0, e)))
one_more put keeps apart (a ∷ xs) (b ∷ ys) x y low were all e =
    let less : length xs < length ys = omega (arith, low) in
    one_more put keeps apart xs ys x y less were.1 all.1 (apart a b (put_all put xs x) (put_all put ys y) were.0 all.0 e).1

-- so where no such value is there, there are not as many
none_there : {A : Type 0} (put : A → List ℕ → List ℕ) (keeps : A → Type 0)
    → IsToldApart put keeps
    → (xs : List A) (old mid : List ℕ) (count : ℕ) → length xs < count → AllByRecursion keeps xs → old ≡ put_all put xs mid
    → NotSaved put keeps mid → NotSaved (put_all put) (λ all. (length all ≡ count) × AllByRecursion keeps all) old
none_there put keeps apart xs old mid count low were e gone all rest kept is =
    let less : length xs < length all = omega (arith, low, kept.0) in
    let there = one_more put keeps apart xs all mid rest less were kept.1 (sym e ∙ is) in
    gone there.0 there.1.0 there.1.1.0 there.1.1.1

pub all_refused : {A : Type 0} (put : A → List ℕ → List ℕ) (keeps : A → Type 0)
    → IsToldApart put keeps
    → (xs values : List A) (old mid new : List ℕ) (count : ℕ) (e : RestoreError) → length xs < count → AllByRecursion keeps xs → old ≡ put_all put xs mid
    → Restores put keeps mid (Err e) new → RestoresAll put keeps old count (Err e) values new
all_refused put keeps apart xs values old mid new count OutOfMemory low were is gone = tt
all_refused put keeps apart xs values old mid new count Short low were is gone = none_there put keeps apart xs old mid count low were is gone
all_refused put keeps apart xs values old mid new count NoSuch low were is gone = none_there put keeps apart xs old mid count low were is gone
all_refused put keeps apart xs values old mid new count Broken low were is gone = none_there put keeps apart xs old mid count low were is gone

-- one more of those that are read in place
pub put_all-set : {A : Type 0} (put : A → List ℕ → List ℕ) (xs : List A) (i : ℕ) (v : A) (rest : List ℕ) → i < length xs
    → put_all put (take (i + 1) (set xs i v)) rest ≡ put_all put (take i xs) (put v rest)
put_all-set put xs i v rest low =
    ap (λ n. put_all put (take n (set xs i v)) rest) (add-one i)
    ∙ ap (λ ys. put_all put ys rest) (take-suc-set xs i v low) ∙ put_all-append put (take i xs) v rest

pub each-set : {A : Type 0} (keeps : A → Type 0) (xs : List A) (i : ℕ) (v : A) → i < length xs
    → AllByRecursion keeps (take i xs) → keeps v → AllByRecursion keeps (take (i + 1) (set xs i v))
each-set {A} keeps xs i v low all one =
    let P : List A → Type 0 = AllByRecursion keeps in
    subst P (sym (ap (λ n. take n (set xs i v)) (add-one i) ∙ take-suc-set xs i v low)) (each-append keeps (take i xs) v all one)

-- a list of which one is not there
list_not_there : {A : Type 0} (put : A → List ℕ → List ℕ) (keeps : A → Type 0) → IsToldApart put keeps
    → (xs : List A) (old mid : List ℕ) (count : ℕ) → length xs < count → AllByRecursion keeps xs → old ≡ count ∷ put_all put xs mid
    → NotSaved put keeps mid → NotSaved (put_list put) (AllByRecursion keeps) old
list_not_there put keeps apart xs old mid count low were e gone all rest kept is =
    let both : count ∷ put_all put xs mid ≡ length all ∷ put_all put all rest = sym e ∙ is in
    let long : length all ≡ count = cc in
    let same : put_all put xs mid ≡ put_all put all rest = cc in
    let less : length xs < length all = omega (arith, low, long) in
    let there = one_more put keeps apart xs all mid rest less were kept same in
    gone there.0 there.1.0 there.1.1.0 there.1.1.1

pub list_refused : {A : Type 0} (put : A → List ℕ → List ℕ) (keeps : A → Type 0) → IsToldApart put keeps
    → (xs : List A) (old mid new : List ℕ) (count : ℕ) (e : RestoreError) → length xs < count → AllByRecursion keeps xs
    → old ≡ count ∷ put_all put xs mid → Restores put keeps mid (Err e) new → RestoresList put keeps old (Err e) new
list_refused put keeps apart xs old mid new count OutOfMemory low were is gone = tt
list_refused put keeps apart xs old mid new count Short low were is gone = list_not_there put keeps apart xs old mid count low were is gone
list_refused put keeps apart xs old mid new count NoSuch low were is gone = list_not_there put keeps apart xs old mid count low were is gone
list_refused put keeps apart xs old mid new count Broken low were is gone = list_not_there put keeps apart xs old mid count low were is gone
