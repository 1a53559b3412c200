-- A restored controller keeps its rules, and words of one that does not are refused.
use Rattle.std.proofs.{Common.{◌≡◌, ℕ, List, false, sym, subst, ◌∙◌}, lemmas.Bool.both_ways}
use Rattle.saved_state.specs.State.{NotSaved}
use Rattle.ahci_controller.specs.{Rules.IsRuled, SavedController.{KeepsController, parts_words}, States.ControllerState, Tested.AreOffered}
use Rattle.ahci_controller.specs.Tested.{is_ruled}
use Rattle.ahci_controller.proofs.rules.TestedLemmas.{HasPlaces, offered_from, ruled_from}

pub places_of : (c : ControllerState) → parts_words.keeps c → HasPlaces c
places_of c k = record {
  core = k.0.0.0.1.0.1.0;
  commands = k.2.0.0.0;
  slots = k.1.1.1.1.0;
  devices = k.1.1.1.2.0;
  count = k.1.1.1.0;
}

-- words of parts that break a rule
broken : (old new : List ℕ) (c : ControllerState) → (old ≡ parts_words.put c new) × parts_words.keeps c → (IsRuled c → ⊥)
    → NotSaved parts_words.put KeepsController old
broken old new c is not v rest k e =
    let same : c ≡ v = (parts_words.apart c v new rest is.1 k.0 (sym is.0 ∙ e)).0 in not (subst IsRuled (sym same) k.1)

pub not_offered : (old new : List ℕ) (c : ControllerState) → (old ≡ parts_words.put c new) × parts_words.keeps c → (AreOffered c → ⊥)
    → NotSaved parts_words.put KeepsController old
not_offered old new c is not = broken old new c is (λ r. not (offered_from c r))

pub not_ruled : (old new : List ℕ) (c : ControllerState) → (old ≡ parts_words.put c new) × parts_words.keeps c → is_ruled c ≡ false
    → NotSaved parts_words.put KeepsController old
not_ruled old new c is not = broken old new c is (λ r. both_ways (is_ruled c) not (ruled_from c r))
