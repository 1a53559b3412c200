use Rattle.std.proofs.{Common.{◌≡◌, ℕ, Bool, None, Option, arith, ap, sym, ◌∙◌}, lemmas.List.get_or_default}
use Rattle.std.specs.Option.{is_some}
use Rattle.slots.specs.{declared.table.Context.Context, Data.payload, Slots.{Slots, context_of, mask_below}}
use Rattle.slots.proofs.{MaskLemmas.{mask_fits, mask_none, mask_set, mask_same}, table.SlotTable.receivers.Goals.{then-is_due, else-is_due}}
use Rattle.slots.proofs.table.SlotTable.receivers.Goals as goal

pub loop-dev-init : goal.loop-dev-init
loop-dev-init c = sym (mask_none _)

pub loop-dev-preserved : goal.loop-dev-preserved
loop-dev-preserved c =
    let contexts = c.self.inside.contexts in
    let d = c.loop-dev.dev in
    let test : ℕ → Bool = λ dev. is_some (payload (context_of c.args.self.now dev)) in
    let below = c.loop-dev-test.true in
    let here : c.is_due.result ≡ test d = c.is_due.ensures ∙ ap (λ (o : Option Context). is_some (payload o)) (get_or_default contexts d _ None (omega (arith, c.self.invariant.devices)) ∙ ap (λ (u : Slots). context_of u d) c.self.view_is) in
    elim c.if-is_due.branch [
      | then-is_due w ↦ w.found-is ∙ mask_set test d c.loop-dev.found (omega arith) c.loop-dev.invariant (sym here ∙ w.if-is_due.true)
      | else-is_due w ↦ w.found-is ∙ mask_same test d c.loop-dev.found c.loop-dev.invariant (sym here ∙ w.if-is_due.false)
    ]

pub overflow_cast-result : goal.overflow_cast-result
overflow_cast-result c =
    let test : ℕ → Bool = λ dev. is_some (payload (context_of c.args.self.now dev)) in
    let end : c.loop-dev.dev ≡ 16 = omega (arith, c.loop-dev.auto, c.loop-dev-test.false) in
    let is : c.loop-dev.found ≡ mask_below test 16 = c.loop-dev.invariant ∙ ap (mask_below test) end in
    record { fits = omega (arith, is, mask_fits test 16) }

pub returns : goal.returns
returns c =
    let test : ℕ → Bool = λ dev. is_some (payload (context_of c.args.self.now dev)) in
    let end : c.loop-dev.dev ≡ 16 = omega (arith, c.loop-dev.auto, c.loop-dev-test.false) in
    c.loop-dev.invariant ∙ ap (mask_below test) end
