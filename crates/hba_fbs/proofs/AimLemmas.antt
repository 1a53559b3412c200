-- The device at which a write of PxCI is aimed.
use Rattle.std.proofs.Common.{◌≡◌, ℕ, ◌<◌, Bool, true, false, List, ap, ◌∙◌, Option, Some, None}
use Rattle.std.specs.Prelude.{if◌then◌else◌}
use Rattle.slots.specs.Slots.{has_bit, lowest, match_some}
use Rattle.slots.proofs.Door.{lowest_found, lowest_none}
use Rattle.hba_fbs.specs.{declared.registers.Registers.Registers, Issuing.{aimed, first_named, named_in}, Offering.{Offer, aimed_by, first_by}}

-- with FIS-based switching
pub aimed_chosen : (r : Registers) (structure : List ℕ) (value : ℕ) → r.switching ≡ true → aimed r structure value ≡ r.chosen
aimed_chosen r structure value on = ap (λ (b : Bool). if b then r.chosen else first_named r structure value) on

aimed_found : (r : Registers) (structure : List ℕ) (value : ℕ) (o : Option ℕ) → r.switching ≡ false → lowest (has_bit value) ≡ o → aimed r structure value ≡ match_some o r.chosen (named_in r structure)
aimed_found r structure value o off is =
    ap (λ (b : Bool). if b then r.chosen else first_named r structure value) off ∙ ap (λ (o : Option ℕ). match_some o r.chosen (named_in r structure)) is

-- without it, the lowest bit is this
pub aimed_first : (r : Registers) (structure : List ℕ) (value slot : ℕ) → r.switching ≡ false → slot < 32 → has_bit value slot ≡ true → ((k : ℕ) → k < slot → has_bit value k ≡ false)
    → aimed r structure value ≡ named_in r structure slot
aimed_first r structure value slot off below here low = aimed_found r structure value (Some slot) off (lowest_found (has_bit value) 32 slot below here low)

-- ---- the same where a list is offered

aimed_found_by : (r : Registers) (offer : Offer) (value : ℕ) (o : Option ℕ) → r.switching ≡ false → lowest (has_bit value) ≡ o → aimed_by r offer value ≡ match_some o r.chosen offer.named
aimed_found_by r offer value o off is = ap (λ (b : Bool). if b then r.chosen else first_by r offer value) off ∙ ap (λ (o : Option ℕ). match_some o r.chosen offer.named) is

pub aimed_first_by : (r : Registers) (offer : Offer) (value slot : ℕ) → r.switching ≡ false → slot < 32 → has_bit value slot ≡ true → ((k : ℕ) → k < slot → has_bit value k ≡ false) → aimed_by r offer value ≡ offer.named slot
aimed_first_by r offer value slot off below here low = aimed_found_by r offer value (Some slot) off (lowest_found (has_bit value) 32 slot below here low)

-- or there is none
pub aimed_none_by : (r : Registers) (offer : Offer) (value : ℕ) → r.switching ≡ false → ((k : ℕ) → k < 32 → has_bit value k ≡ false) → aimed_by r offer value ≡ r.chosen
aimed_none_by r offer value off none = aimed_found_by r offer value None off (lowest_none (has_bit value) 32 none)
