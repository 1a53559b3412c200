use Rattle.std.proofs.Common.{◌≡◌, ℕ, Bool, true, Some, arith, ap, sym, ◌∙◌}
use Rattle.std.specs.Option.{option_map}
use Rattle.slots.specs.Slots.{has_bit}
use Rattle.slots.proofs.Door.{lowest_found, lowest_none}
use Rattle.ahci_controller.specs.Circle.{is_behind}
use Rattle.ahci_controller.proofs.CircleLemmas.{none_behind}
use Rattle.ahci_controller.proofs.circle.device_after.Goals as goal

pub returns-then-mask-eq0-clause-value : goal.returns-then-mask-eq0-clause-value
returns-then-mask-eq0-clause-value c = sym (none_behind 16 c.args.mask c.args.last (omega (arith, c.if-mask-eq0.true)))

pub returns-then-has_bit-clause-value : goal.returns-then-has_bit-clause-value
returns-then-has_bit-clause-value c =
    let test : ℕ → Bool = λ step. has_bit c.args.mask (is_behind 16 c.args.last step) in
    let there : has_bit c.args.mask (is_behind 16 c.args.last c.loop-step.step) ≡ true = rw (← c.device_at-dev.ensures.is) (grind (arith, c.has_bit.ensures, c.if-has_bit.true, c.from.ensures)) in
    ap Some c.device_at-dev.ensures.is ∙ sym (ap (option_map (is_behind 16 c.args.last)) (lowest_found test 16 c.loop-step.step c.loop-step-test.true there c.loop-step.invariant))

pub returns-clause-value : goal.returns-clause-value
returns-clause-value c =
    let test : ℕ → Bool = λ step. has_bit c.args.mask (is_behind 16 c.args.last step) in
    sym (ap (option_map (is_behind 16 c.args.last)) (lowest_none test 16 (λ k below. c.loop-step.invariant k (omega arith))))
