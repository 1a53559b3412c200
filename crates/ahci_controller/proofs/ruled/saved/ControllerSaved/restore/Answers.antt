use Rattle.std.proofs.Common.{refl, sym}
use Rattle.ahci_controller.specs.SavedController.{KeepsController, parts_words}
use Rattle.ahci_controller.proofs.rules.{SavedLemmas.{not_offered, not_ruled, places_of}, TestedLemmas.ruled_then}
use Rattle.saved_state.specs.State.{parts_refused}
use Rattle.ahci_controller.proofs.ruled.saved.ControllerSaved.restore.Goals as goal

pub returns-in-Err : goal.returns-in-Err
returns-in-Err c = parts_refused parts_words.put parts_words.keeps KeepsController (λ v. v) (λ v k. k.0)
    c.args.words.now c.restore.new.words c.in-Err.error c.in-Err.ensures

pub returns-then-not-are_offered : goal.returns-then-not-are_offered
returns-then-not-are_offered c = not_offered c.args.words.now c.restore.new.words c.in-Ok.parts c.in-Ok.ensures (c.if-not-are_offered.ensures.no refl)

pub returns-then-not-is_ruled : goal.returns-then-not-is_ruled
returns-then-not-is_ruled c = not_ruled c.args.words.now c.restore.new.words c.in-Ok.parts c.in-Ok.ensures (sym c.if-not-is_ruled.ensures)

pub invariant_of-result : goal.invariant_of-result
invariant_of-result c = ruled_then c.in-Ok.parts (places_of c.in-Ok.parts c.in-Ok.ensures.1) (c.if-not-are_offered.ensures.yes refl)
    (sym c.if-not-is_ruled.ensures)

pub returns : goal.returns
returns c = (
  c.in-Ok.ensures.0,
  (
    c.in-Ok.ensures.1,
    ruled_then c.in-Ok.parts (places_of c.in-Ok.parts c.in-Ok.ensures.1) (c.if-not-are_offered.ensures.yes refl)
        (sym c.if-not-is_ruled.ensures),
  ),
)
