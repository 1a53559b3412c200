-- What is tested of parts that come from elsewhere is what every controller keeps.
use Rattle.std.proofs.Common.{◌≡◌, ℕ, zero, suc, ◌+◌, ◌<◌, ◌≤◌, ◌^◌, Bool, true, false, List, get_or, length, refl, sym, ap, subst, ◌∙◌, inl, inr}
use Rattle.std.proofs.{Common.{Option, Some, None, arith}, Math.Dec.{eqb, leb, ltb}, lemmas.Bool.{and_from, and_parts, both_ways, cases_Bool}}
use Rattle.std.proofs.lemmas.{Bool.{cases_eq, cases_lt, eq-eqb, eqb-true, le-leb, leb-true, lt-ltb, ltb-true, not-true, true≢false}, List.get_or_past}
use Rattle.std.specs.Prelude.{◌&&◌, ◌||◌, ◌==◌, ◌⊎◌, IfSome, is_none, is_some, not, if◌then◌else◌}
use Rattle.slots.specs.Slots.{has_bit, issue_at}
use Rattle.guest_fetch.specs.{Commands.Fetched, Fetch.Fetching}
use Rattle.hba_commands.specs.declared.command.Command.{Command}
use Rattle.hba_fbs.specs.{Issuing.is_busy, Views.last_command}
use Rattle.ahci_controller.specs.{Rules.{IsCarried, IsOffered, IsRuled, IsUnread}, States.ControllerState, Tested.{AreOffered, IsOfferedAt}}
use Rattle.ahci_controller.specs.Tested.{all_below, are_devices_ruled, are_slots_ruled, is_carried, is_device_ruled, is_free_at, is_ruled}
use Rattle.ahci_controller.specs.{Tested.{is_slot_ruled, is_unread_at, rests_stopped}, declared.wants.Carried.Carried}

-- ---- all numbers below a bound

pub below_gives : (test : ℕ → Bool) (n k : ℕ) → all_below test n ≡ true → k < n → test k ≡ true
unfolding all_below
below_gives test zero k e low = absurd (omega arith)
below_gives test (suc n) k e low =
    let both = and_parts (all_below test n) (test n) e in
    elim (cases_eq k n) [
      | inl same ↦ ap test same ∙ both.1
      | inr other ↦ below_gives test n k both.0 (omega (arith, other, low))
    ]

pub below_from : (test : ℕ → Bool) (n : ℕ) → ((k : ℕ) → k < n → test k ≡ true) → all_below test n ≡ true
unfolding all_below
below_from test zero all = refl
below_from test (suc n) all = and_from (all_below test n) (test n) (below_from test n (λ k low. all k (omega arith))) (all n (omega arith))

pub below_not : (test : ℕ → Bool) (n k : ℕ) → k < n → test k ≡ false → all_below test n ≡ false
below_not test n k low e = elim (cases_Bool (all_below test n)) [
  | inl all ↦ absurd (both_ways (test k) e (below_gives test n k all low))
  | inr some ↦ some
]

-- one more passes
pub below_more : (test : ℕ → Bool) (n : ℕ) → ((k : ℕ) → k < n → test k ≡ true) → test n ≡ true → (k : ℕ) → k < n + 1 → test k ≡ true
below_more test n all one k low = elim (cases_eq k n) [
  | inl same ↦ ap test same ∙ one
  | inr other ↦ all k (omega (arith, other, low))
]

pub offered_more : (c : ControllerState) (n : ℕ) → ((k : ℕ) → k < n → IsOfferedAt c k) → IsOfferedAt c n → (k : ℕ) → k < n + 1 → IsOfferedAt c k
offered_more c n all one k low = elim (cases_eq k n) [
  | inl same ↦ let At : ℕ → Type 0 = IsOfferedAt c in subst At (sym same) one
  | inr other ↦ all k (omega (arith, other, low))
]

-- ---- tests of one value

none_then : {A : Type 0} (o : Option A) → is_none o ≡ true → o ≡ None
none_then None e = refl
none_then (Some a) e = absurd (cc)

none_from : {A : Type 0} (o : Option A) → o ≡ None → is_none o ≡ true
none_from None e = refl
none_from (Some a) e = absurd (cc)

not_some : {A : Type 0} (o : Option A) → not (is_some o) ≡ true → o ≡ None
not_some None e = refl
not_some (Some a) e = absurd (cc)

not_some_from : {A : Type 0} (o : Option A) → o ≡ None → not (is_some o) ≡ true
not_some_from None e = refl
not_some_from (Some a) e = absurd (cc)

not_from : (b : Bool) → b ≡ false → not b ≡ true
not_from b e = ap not e

-- ---- from the tests to the rules

slot_free : (c : ControllerState) (slot : ℕ) → are_slots_ruled c ≡ true → slot < 32 → is_free_at c slot ≡ true
slot_free c slot e low = (and_parts (is_free_at c slot) (leb (get_or c.wants.slots slot 0) c.wants.count) (below_gives (is_slot_ruled c) 32 slot e low)).0

unread_then : (c : ControllerState) (slot : ℕ) → are_slots_ruled c ≡ true → slot < 32 → has_bit c.wants.pending slot ≡ false
    → IsUnread c.wants c.fetches slot
unread_then c slot e low unset =
    let Free : Bool → Type 0 = λ b. (if b then not (is_busy c.core.slots slot) else is_unread_at c slot) ≡ true in
    let unread : is_unread_at c slot ≡ true = subst Free unset (slot_free c slot e low) in
    let both = and_parts (is_none (get_or c.fetches slot None)) (not (has_bit c.wants.out slot)) unread in
    record { fetch = none_then _ both.0; out = not-true _ both.1 }

free_then : (c : ControllerState) (slot : ℕ) → are_slots_ruled c ≡ true → slot < 32 → has_bit c.wants.pending slot ≡ true
    → issue_at c.core.slots slot ≡ None
free_then c slot e low set =
    let Free : Bool → Type 0 = λ b. (if b then not (is_busy c.core.slots slot) else is_unread_at c slot) ≡ true in
    not_some (issue_at c.core.slots slot) (subst Free set (slot_free c slot e low))

-- a number of a list that has no place there is 0
counted_then : (xs : List ℕ) (most n k : ℕ) → length xs ≡ n → ((i : ℕ) → i < n → get_or xs i 0 ≤ most) → get_or xs k 0 ≤ most
counted_then xs most n k long all = elim (cases_lt k n) [
  | inl low ↦ all k low
  | inr past ↦ let zero : get_or xs k 0 ≡ 0 = get_or_past xs k 0 (omega (arith, long, past)) in omega (arith, zero)
]

stopped_then : (c : ControllerState) → rests_stopped c ≡ true → c.core.registers.started ≡ false → c.own.starts ≡ false → c.wants.pending ≡ 0
stopped_then c e stops held =
    let Rests : Bool → Type 0 = λ b. (b || c.own.starts || (c.wants.pending == 0)) ≡ true in
    let Holds : Bool → Type 0 = λ b. (false || b || (c.wants.pending == 0)) ≡ true in
    eqb-true c.wants.pending 0 (subst Holds held (subst Rests stops e))

carried_then : (c : ControllerState) (payload : Option Carried) → is_carried c payload ≡ true → IfSome payload (IsCarried c.wants c.commands)
carried_then c None e = tt
carried_then c (Some w) e =
    let all = and_parts _ (not (has_bit c.wants.out w.slot)) e in
    let both = and_parts (ltb w.slot 32) (is_some (get_or c.commands w.slot None)) all.0 in
    record { slot = ltb-true w.slot 32 both.0; kept = both.1; out = not-true _ all.1 }

offered_then : (c : ControllerState) → length c.core.commands ≡ 32 → AreOffered c → (slot : ℕ)
    → IsOffered (last_command c.core.commands slot) (get_or c.commands slot None)
offered_then c long all slot = elim (cases_lt slot 32) [
  | inl low ↦ all slot low
  | inr past ↦
      let none : last_command c.core.commands slot ≡ None = get_or_past c.core.commands slot None (omega (arith, long, past)) in
      subst (λ (o : Option Command). IsOffered o (get_or c.commands slot None)) (sym none) tt
]

-- how long the lists of a controller are, and how large the number of its wants is
pub record HasPlaces (c : ControllerState) : Type 0 where
  pub core : length c.core.commands ≡ 32
  pub commands : length c.commands ≡ 32
  pub slots : length c.wants.slots ≡ 32
  pub devices : length c.wants.devices ≡ 16
  pub count : c.wants.count < 2 ^ 64

pub ruled_then : (c : ControllerState) → HasPlaces c → AreOffered c → is_ruled c ≡ true → IsRuled c
ruled_then c has offered e =
    let all = and_parts _ (is_carried c c.writes.payload) e in
    let most = and_parts _ (rests_stopped c) all.0 in
    let both = and_parts (are_slots_ruled c) (are_devices_ruled c) most.0 in
    record {
      long = has.commands;
      kept = offered_then c has.core offered;
      unread = λ slot low unset. unread_then c slot both.0 low unset;
      free = λ slot low set. free_then c slot both.0 low set;
      stopped = stopped_then c most.1;
      counted = record {
        slots = λ slot. counted_then c.wants.slots c.wants.count 32 slot has.slots
            (λ i low. leb-true _ _ (and_parts (is_free_at c i) (leb (get_or c.wants.slots i 0) c.wants.count) (below_gives (is_slot_ruled c) 32 i both.0 low)).1);
        devices = λ dev. counted_then c.wants.devices c.wants.count 16 dev has.devices
            (λ i low. leb-true _ _ (below_gives (is_device_ruled c) 16 i both.1 low));
        most = let few = has.count in omega (arith, few);
      };
      carried = carried_then c c.writes.payload all.1;
    }

-- ---- and back

free_from : (c : ControllerState) → IsRuled c → (slot : ℕ) → slot < 32 → is_free_at c slot ≡ true
free_from c is slot low =
    let Free : Bool → Type 0 = λ b. (if b then not (is_busy c.core.slots slot) else is_unread_at c slot) ≡ true in
    elim (cases_Bool (has_bit c.wants.pending slot)) [
      | inl set ↦ subst Free (sym set) (not_some_from (issue_at c.core.slots slot) (is.free slot low set))
      | inr unset ↦
          let unread = is.unread slot low unset in
          subst Free (sym unset) (and_from _ _ (none_from _ unread.fetch) (not_from _ unread.out))
    ]

stopped_from : (c : ControllerState) → IsRuled c → rests_stopped c ≡ true
stopped_from c is =
    let Rests : Bool → Type 0 = λ b. (b || c.own.starts || (c.wants.pending == 0)) ≡ true in
    elim (cases_Bool c.core.registers.started) [
      | inl runs ↦ subst Rests (sym runs) refl
      | inr stops ↦ subst Rests (sym stops) (held_from c stops is (cases_Bool c.own.starts))
    ]
  where
    held_from : (d : ControllerState) → d.core.registers.started ≡ false → IsRuled d → (d.own.starts ≡ true) ⊎ (d.own.starts ≡ false)
        → (false || d.own.starts || (d.wants.pending == 0)) ≡ true
    held_from d stops is (inl starts) = ap (λ b. false || b || (d.wants.pending == 0)) starts
    held_from d stops is (inr held) =
        ap (λ b. false || b || (d.wants.pending == 0)) held ∙ eq-eqb d.wants.pending 0 (is.stopped stops held)

carried_from : (c : ControllerState) (payload : Option Carried) → IfSome payload (IsCarried c.wants c.commands) → is_carried c payload ≡ true
carried_from c None is = refl
carried_from c (Some w) is = and_from _ _ (and_from _ _ (lt-ltb w.slot 32 is.slot) is.kept) (not_from _ is.out)

pub offered_from : (c : ControllerState) → IsRuled c → AreOffered c
offered_from c is slot low = is.kept slot

pub ruled_from : (c : ControllerState) → IsRuled c → is_ruled c ≡ true
ruled_from c is =
    let slots : are_slots_ruled c ≡ true = below_from (is_slot_ruled c) 32
    (λ slot low. and_from _ _ (free_from c is slot low) (le-leb _ _ (is.counted.slots slot))) in
    let devices : are_devices_ruled c ≡ true = below_from (is_device_ruled c) 16 (λ dev low. le-leb _ _ (is.counted.devices dev)) in
    and_from _ _ (and_from _ _ (and_from _ _ slots devices) (stopped_from c is)) (carried_from c c.writes.payload is.carried)
