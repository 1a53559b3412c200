use Rattle.std.proofs.{Common.{◌≡◌, ◌+◌, ◌∷◌, get_or, drop, arith, ap, subst}, lemmas.List.{drop_more, drop_all}}
use Rattle.slots.specs.{declared.moved.Stretch.Stretch, Stretches.{AreApart, dwords_of}}
use Rattle.slots.proofs.ApartLemmas.{dwords_few, lower}
use Rattle.slots.proofs.moved.count_dwords.Goals as goal

pub loop-stretch-init : goal.loop-stretch-init
loop-stretch-init c = record { whole = omega arith; apart = c.requires }

pub overflow_sub-dwords : goal.overflow_sub-dwords
overflow_sub-dwords c =
    let ss = c.args.stretches.now in
    let i = c.loop-stretch.stretch-index in
    let none : Stretch = record { start = 0; end = 0 } in
    let h : AreApart 0 8388608 (get_or ss i none ∷ drop (i + 1) ss) = subst (AreApart 0 8388608) (drop_more ss i none c.loop-stretch-test.true) c.loop-stretch.invariant.apart in
    omega (arith, h.1)

pub overflow_add-dwords : goal.overflow_add-dwords
overflow_add-dwords c =
    let ss = c.args.stretches.now in
    let i = c.loop-stretch.stretch-index in
    let none : Stretch = record { start = 0; end = 0 } in
    let e : dwords_of (drop i ss) ≡ dwords_of (get_or ss i none ∷ drop (i + 1) ss) = ap dwords_of (drop_more ss i none c.loop-stretch-test.true) in
    let few = dwords_few 0 8388608 ss c.requires in
    omega (arith, c.loop-stretch.invariant.whole)

pub loop-stretch-preserved : goal.loop-stretch-preserved
loop-stretch-preserved c =
    let ss = c.args.stretches.now in
    let i = c.loop-stretch.stretch-index in
    let none : Stretch = record { start = 0; end = 0 } in
    let e : dwords_of (drop i ss) ≡ dwords_of (get_or ss i none ∷ drop (i + 1) ss) = ap dwords_of (drop_more ss i none c.loop-stretch-test.true) in
    let h : AreApart 0 8388608 (get_or ss i none ∷ drop (i + 1) ss) = subst (AreApart 0 8388608) (drop_more ss i none c.loop-stretch-test.true) c.loop-stretch.invariant.apart in
    record { whole = omega (arith, c.loop-stretch.invariant.whole); apart = lower 0 _ 8388608 (drop (i + 1) ss) h.3 (omega arith) }

pub returns-clause-value : goal.returns-clause-value
returns-clause-value c =
    let e = ap dwords_of (drop_all c.loop-stretch.stretch-index c.args.stretches.now c.loop-stretch-test.false) in
    omega (arith, c.loop-stretch.invariant.whole)

pub returns-clause-few : goal.returns-clause-few
returns-clause-few c =
    let few = dwords_few 0 8388608 c.args.stretches.now c.requires in
    omega (arith, c.loop-stretch.invariant.whole)
