-- What each slot of a link holds, as slots go out and come back.
use Rattle.std.proofs.Common.{◌≡◌, ◌≢◌, ℕ, zero, suc, ◌+◌, ◌%◌, ◌<◌, ◌≤◌, ◌⊎◌, Bool, true, false, true≢false, List, [], ◌∷◌, ◌++◌, length, set, sym, refl, ap, ◌∙◌, subst, inl, inr, ⊎_elim, mod-lt, arith, length-append, Option, Some, None}
use mathlib.Core.Option.{none, some, some-injective, some-ne-none}
use mathlib.Core.Logic.{dite}
use native.Mathlib.Decide.{ℕ_discrete}
use native.Mathlib.Nat.{add-mod_right}
use lib.ListN.{get_elem?}
use Rattle.atomic_table.proofs.Lists.{set_here, set_else, one_turn}
use Rattle.ruled_links.specs.Rule.{Homes, AreStored}

module _ {A : Type 0} where
  pub at_less : (l : List A) (i : ℕ) (a : A) → get_elem? l i ≡ some a → i < length l
  at_less [] i a e = absurd (some-ne-none a (sym e))
  at_less (x ∷ xs) zero a e = omega arith
  at_less (x ∷ xs) (suc i) a e = let h = at_less xs i a e in omega arith

  pub at_head : (front rest : List A) (a : A) → get_elem? (front ++ a ∷ rest) (length front) ≡ some a
  at_head [] rest a = refl
  at_head (x ∷ xs) rest a = at_head xs rest a

  -- where an item of a longer list stands
  at_snoc : (l : List A) (a b : A) (j : ℕ) → get_elem? (l ++ a ∷ []) j ≡ some b → (get_elem? l j ≡ some b) ⊎ ((j ≡ length l) × (a ≡ b))
  at_snoc [] a b zero e = inr (refl, some-injective a b e)
  at_snoc [] a b (suc j) e = absurd (some-ne-none b (sym e))
  at_snoc (x ∷ xs) a b zero e = inl e
  at_snoc (x ∷ xs) a b (suc j) e = ⊎_elim inl (λ t. inr (ap suc t.0, t.1)) (at_snoc xs a b j e)

-- two places less than a turn apart have different slots
apart : (a b n : ℕ) → a < b → b < a + n → a % n ≢ b % n
apart a b n lt near e = let same = one_turn a b n (omega arith) near e in omega arith

module _ {T : Type 0} (n : ℕ) (some_room : 0 < n) (sent taken : List T) (homes : Homes T) (sized : length homes ≡ n) where
  one_more : (l : List T) (x : T) → length (l ++ x ∷ []) ≡ length l + 1
  one_more l x = length-append l (x ∷ [])

  -- the slot behind the last item goes out
  pub claimed : {reading : Option T} → AreStored n sent taken false reading homes → length taken ≤ length sent → length sent < length taken + n
      → AreStored n sent taken true reading (set homes (length sent % n) none)
  claimed {reading} h behind room = record {
    full = λ i x le hand at.
        let lt = at_less sent i x at in
        set_else homes (length sent % n) (i % n) none (apart i (length sent) n lt (omega arith)) ∙ h.full i x le hand at;
    free = λ i le lt idle.
        let other : length sent ≢ i = λ e. true≢false (idle (sym e)) in
        set_else homes (length sent % n) (i % n) none (λ e. apart (length sent) i n (omega arith) (omega arith) (sym e))
        ∙ h.free i le lt (λ _. refl);
  }

  -- it comes back with the item
  pub published : {reading : Option T} (x : T) → AreStored n sent taken true reading homes → length taken ≤ length sent → length sent < length taken + n
      → AreStored n (sent ++ x ∷ []) taken false reading (set homes (length sent % n) (some (Some x)))
  published {reading} x h behind room = record {
    full = λ i y le hand at. ⊎_elim
        (λ there. let lt = at_less sent i y there in
        set_else homes (length sent % n) (i % n) (some (Some x)) (apart i (length sent) n lt (omega arith)) ∙ h.full i y le hand there)
        (λ last. ap (λ (j : ℕ). get_elem? (set homes (length sent % n) (some (Some x))) (j % n)) last.0
        ∙ set_here homes (length sent % n) (some (Some x)) (subst (λ (m : ℕ). length sent % n < m) (sym sized) (mod-lt (length sent) some_room))
        ∙ ap (λ (y : T). some (some (Some y))) last.1)
        (at_snoc sent x y i at);
    free = λ i le lt idle.
        let longer = one_more sent x in
        set_else homes (length sent % n) (i % n) (some (Some x)) (λ e. apart (length sent) i n (omega arith) (omega arith) (sym e))
        ∙ h.free i (omega arith) lt (λ e. absurd (omega arith));
  }

  -- the slot of the first item goes out
  pub fetched : {writing : Bool} (x : T) → AreStored n sent taken writing None homes → length taken < length sent → length sent ≤ length taken + n
      → AreStored n sent taken writing (Some x) (set homes (length taken % n) none)
  fetched {writing} x h some_item room = record {
    full = λ i y le hand at.
        let lt = at_less sent i y at in
        let other : length taken ≢ i = λ e. let wrong : Some x ≡ None = hand (sym e) in absurd (cc) in
        set_else homes (length taken % n) (i % n) none (λ e. apart (length taken) i n (omega arith) (omega arith) (sym e))
        ∙ h.full i y le (λ _. refl) at;
    free = λ i le lt idle.
        set_else homes (length taken % n) (i % n) none (λ e. apart (length taken) i n (omega arith) lt (sym e)) ∙ h.free i le lt idle;
  }

  -- it comes back, and is behind the last item
  pub freed : {writing : Bool} (x : T) → AreStored n sent taken writing (Some x) homes → length taken < length sent → length sent ≤ length taken + n
      → AreStored n sent (taken ++ x ∷ []) writing None (set homes (length taken % n) (some None))
  freed {writing} x h some_item room = record {
    full = λ i y le hand at.
        let lt = at_less sent i y at in
        let longer = one_more taken x in
        set_else homes (length taken % n) (i % n) (some None) (λ e. apart (length taken) i n (omega arith) (omega arith) (sym e))
        ∙ h.full i y (omega arith) (λ e. absurd (omega arith)) at;
    free = λ i le lt idle.
        let longer = one_more taken x in
        dite (ℕ_discrete i (length taken + n))
        (λ last. ap (λ (j : ℕ). get_elem? (set homes (length taken % n) (some None)) j) (ap (λ (j : ℕ). j % n) last ∙ add-mod_right (length taken) n)
        ∙ set_here homes (length taken % n) (some None) (subst (λ (m : ℕ). length taken % n < m) (sym sized) (mod-lt (length taken) some_room)))
        (λ not. set_else homes (length taken % n) (i % n) (some None) (λ e. apart (length taken) i n (omega arith) (omega arith) (sym e))
        ∙ h.free i le (omega arith) idle);
  }
