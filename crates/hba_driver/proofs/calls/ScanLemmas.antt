-- For the functions of scan.rt. Slots that are looked at one after another.
use Rattle.std.proofs.Common.{◌≡◌, ℕ, ◌<◌, ◌+◌, Bool, true, false, List, get_or, set, length, replicate, refl, ap, sym, ◌∙◌, arith, Option, Some, None}
use Rattle.std.specs.{Prelude.if◌then◌else◌, List.list_any, Option.{is_some, option_map}}
use Rattle.std.proofs.lemmas.{List.{get_or_default, get_or-replicate, length-replicate, same_lists}, List.Elements.All-from_get_or}
use Rattle.std.proofs.lemmas.{List.Folds.{list_any_at, list_any_none}, List.FromFn.fill_by_all}
use Rattle.slots.proofs.Door.{none_below}
use Rattle.slots.specs.Slots.{lowest_below}
use Rattle.hba_fbs.specs.Between.{FilledTo}
use Rattle.hba_fbs.proofs.Door.{filled_all, filled_set}
use Rattle.hba_driver.specs.{declared.{slot.Head.Head, slot.Phase.Phase}, Drivers.{Entry, entry_at, holds, rephase, rephase_all, rephased}}

-- what is read there is what is there
pub entry_read : (entries : List (Option Entry)) (slot : ℕ) (d : Option Entry) → slot < length entries → get_or entries slot d ≡ entry_at entries slot
entry_read entries slot d below = get_or_default entries slot d None below

-- what becomes of each slot
abbrev pub rephase_at : (ℕ → Head → Bool) → Phase → List (Option Entry) → ℕ → Option Entry
rephase_at test phase old slot = rephase (test slot) phase (entry_at old slot)

-- one more slot
pub rephase_step : (test : ℕ → Head → Bool) (phase : Phase) (n : ℕ) (old new : List (Option Entry)) (b : Bool) (d e : Option Entry) → FilledTo n (rephase_at test phase old) None old new → n < length old
    → b ≡ holds (test n) (get_or new n d) → FilledTo (n + 1) (rephase_at test phase old) None old (set new n (if b then option_map (rephased phase) (get_or new n e) else get_or new n e))
rephase_step test phase n old new b d e h inside is =
    let read : (x : Option Entry) → get_or new n x ≡ entry_at old n = λ x. get_or_default new n x None (omega (arith, h.long)) ∙ h.rest n (omega arith) in
    let tested : b ≡ holds (test n) (entry_at old n) = is ∙ ap (holds (test n)) (read d) in
    filled_set n (rephase_at test phase old) None old new _ h inside
    (ap (λ (t : Bool). if t then option_map (rephased phase) (get_or new n e) else get_or new n e) tested
    ∙ ap (λ (x : Option Entry). if holds (test n) (entry_at old n) then option_map (rephased phase) x else x) (read e))

pub rephase_done : (test : ℕ → Head → Bool) (phase : Phase) (n : ℕ) (old new : List (Option Entry)) → FilledTo n (rephase_at test phase old) None old new → length old ≡ n → new ≡ rephase_all test phase old
unfolding rephase_all
rephase_done test phase n old new h long = filled_all n (rephase_at test phase old) None old new h (omega (arith, long))

-- if the test holds for none, everything is as it was
no_option : (o : Option ℕ) → is_some o ≡ false → o ≡ None
no_option None h = refl
no_option (Some k) h = cc

stays_if : (b : Bool) (phase : Phase) (entry : Option Entry) → b ≡ false → entry ≡ (if b then option_map (rephased phase) entry else entry)
stays_if true phase entry h = cc
stays_if false phase entry h = refl

pub none_rephased : (test : ℕ → Head → Bool) (phase : Phase) (n : ℕ) (entries : List (Option Entry)) → length entries ≡ n → is_some (lowest_below (λ slot. holds (test slot) (entry_at entries slot)) n) ≡ false
    → rephase_all test phase entries ≡ entries
unfolding rephase_all
none_rephased test phase n entries long none =
    let fails : (k : ℕ) → k < n → holds (test k) (entry_at entries k) ≡ false =
    none_below (λ slot. holds (test slot) (entry_at entries slot)) n (no_option (lowest_below (λ slot. holds (test slot) (entry_at entries slot)) n) none) in
    sym (fill_by_all (rephase_at test phase entries) entries (length entries) None refl (λ k below. stays_if _ phase (entry_at entries k) (fails k (omega (arith, long)))))

-- ---- whether a test holds for one of them

pub one_passes : (test : Option Entry → Bool) (entries : List (Option Entry)) (slot : ℕ) → length entries ≡ 30 → slot < 30 → test (entry_at entries slot) ≡ true → list_any test entries ≡ true
one_passes test entries slot long below here = list_any_at test entries slot None (omega (arith, long, below)) here

pub none_passes : (test : Option Entry → Bool) (entries : List (Option Entry)) → length entries ≡ 30 → ((k : ℕ) → k < 30 → test (entry_at entries k) ≡ false) → list_any test entries ≡ false
none_passes test entries long none = list_any_none test entries (All-from_get_or (λ e. test e ≡ false) entries None (λ k below. none k (omega (arith, long, below))))

-- ---- slots with no request

abbrev no_entry : Option Entry
no_entry = None

pub all_free : (entries : List (Option Entry)) (n : ℕ) → length entries ≡ n → ((i : ℕ) (d : Option Entry) → i < n → get_or entries i d ≡ None) → entries ≡ replicate n None
all_free entries n long free = same_lists entries (replicate n None) (long ∙ sym (length-replicate n no_entry)) (λ k d lt. free k d (omega (arith, long)) ∙ sym (get_or-replicate n k None d (omega (arith, long))))
