-- The circle's bound: each turn of another place brings this one nearer.
use Rattle.std.proofs.Common.{◌≡◌, ℕ, ◌+◌, ◌-◌, ◌<◌, ◌≤◌, ◌%◌, Bool, true, List, [], ◌∷◌, length, Option, Some, None, arith, ap, refl, sym, ◌∙◌}
use Rattle.std.proofs.lemmas.Bool.{false≢true}
use Rattle.std.specs.{Prelude.{◌≢◌, MatchOption}, Option.option_map}
use Rattle.slots.specs.Slots.{has_bit, lowest_below}
use Rattle.slots.proofs.Door.{lowest_before}
use Rattle.ahci_controller.specs.{Circle.is_behind, Fairness.{AllHave, OthersOnly, SlotsComeRound, DevicesComeRound}}

-- ---- slots

abbrev slot_steps : (last slot : ℕ) → ℕ
slot_steps last slot = (slot + 31 - last % 32) % 32

slot_arrives : (last slot : ℕ) → slot < 32 → is_behind 32 last (slot_steps last slot) ≡ slot
slot_arrives last slot lt = omega arith

slot_nearer : (last slot s : ℕ) → slot < 32 → s < slot_steps last slot → slot_steps (is_behind 32 last s) slot < slot_steps last slot
slot_nearer last slot s lt near = omega arith

slot_turn : (slot last m : ℕ) (rest : List ℕ) (o : Option ℕ) → slot < 32 → lowest_below (λ step. has_bit m (is_behind 32 last step)) 32 ≡ o → has_bit m slot ≡ true → MatchOption (option_map (is_behind 32 last) o) ⊥ (λ k. (k ≢ slot) × OthersOnly 32 slot k rest) → ((k : ℕ) → OthersOnly 32 slot k rest → length rest ≤ slot_steps k slot) → length rest < slot_steps last slot
slot_turn slot last m rest None lt e have others goes_on = absurd others
slot_turn slot last m rest (Some s) lt e have others goes_on =
    let test : ℕ → Bool = λ step. has_bit m (is_behind 32 last step) in
    let here : test (slot_steps last slot) ≡ true = ap (has_bit m) (slot_arrives last slot lt) ∙ have in
    let not_after : slot_steps last slot < s → ⊥ = λ after. false≢true (sym (lowest_before test 32 s (slot_steps last slot) e after) ∙ here) in
    let not_same : s ≢ slot_steps last slot = λ same. others.0 (ap (is_behind 32 last) same ∙ slot_arrives last slot lt) in
    let near : s < slot_steps last slot = omega (arith, not_after, not_same) in
    let left : length rest ≤ slot_steps (is_behind 32 last s) slot = goes_on (is_behind 32 last s) others.1 in
    let less : slot_steps (is_behind 32 last s) slot < slot_steps last slot = slot_nearer last slot s lt near in
    omega (arith, left, less)

slot_bound : (slot last : ℕ) (masks : List ℕ) → slot < 32 → AllHave slot masks → OthersOnly 32 slot last masks → length masks ≤ slot_steps last slot
slot_bound slot last [] lt have others = omega arith
slot_bound slot last (m ∷ rest) lt have others =
    let less : length rest < slot_steps last slot = slot_turn slot last m rest (lowest_below (λ step. has_bit m (is_behind 32 last step)) 32) lt refl have.0 others (λ k more. slot_bound slot k rest lt have.1 more) in
    omega (arith, less)

pub slots_come : SlotsComeRound
slots_come slot last masks lt have others =
    let most : length masks ≤ slot_steps last slot = slot_bound slot last masks lt have others in
    omega (arith, most)

-- ---- devices

abbrev dev_steps : (last dev : ℕ) → ℕ
dev_steps last dev = (dev + 15 - last % 16) % 16

dev_arrives : (last dev : ℕ) → dev < 16 → is_behind 16 last (dev_steps last dev) ≡ dev
dev_arrives last dev lt = omega arith

dev_nearer : (last dev s : ℕ) → dev < 16 → s < dev_steps last dev → dev_steps (is_behind 16 last s) dev < dev_steps last dev
dev_nearer last dev s lt near = omega arith

dev_turn : (dev last m : ℕ) (rest : List ℕ) (o : Option ℕ) → dev < 16 → lowest_below (λ step. has_bit m (is_behind 16 last step)) 16 ≡ o → has_bit m dev ≡ true → MatchOption (option_map (is_behind 16 last) o) ⊥ (λ k. (k ≢ dev) × OthersOnly 16 dev k rest) → ((k : ℕ) → OthersOnly 16 dev k rest → length rest ≤ dev_steps k dev) → length rest < dev_steps last dev
dev_turn dev last m rest None lt e have others goes_on = absurd others
dev_turn dev last m rest (Some s) lt e have others goes_on =
    let test : ℕ → Bool = λ step. has_bit m (is_behind 16 last step) in
    let here : test (dev_steps last dev) ≡ true = ap (has_bit m) (dev_arrives last dev lt) ∙ have in
    let not_after : dev_steps last dev < s → ⊥ = λ after. false≢true (sym (lowest_before test 16 s (dev_steps last dev) e after) ∙ here) in
    let not_same : s ≢ dev_steps last dev = λ same. others.0 (ap (is_behind 16 last) same ∙ dev_arrives last dev lt) in
    let near : s < dev_steps last dev = omega (arith, not_after, not_same) in
    let left : length rest ≤ dev_steps (is_behind 16 last s) dev = goes_on (is_behind 16 last s) others.1 in
    let less : dev_steps (is_behind 16 last s) dev < dev_steps last dev = dev_nearer last dev s lt near in
    omega (arith, left, less)

dev_bound : (dev last : ℕ) (masks : List ℕ) → dev < 16 → AllHave dev masks → OthersOnly 16 dev last masks → length masks ≤ dev_steps last dev
dev_bound dev last [] lt have others = omega arith
dev_bound dev last (m ∷ rest) lt have others =
    let less : length rest < dev_steps last dev = dev_turn dev last m rest (lowest_below (λ step. has_bit m (is_behind 16 last step)) 16) lt refl have.0 others (λ k more. dev_bound dev k rest lt have.1 more) in
    omega (arith, less)

pub devices_come : DevicesComeRound
devices_come dev last masks lt have others =
    let most : length masks ≤ dev_steps last dev = dev_bound dev last masks lt have others in
    omega (arith, most)
