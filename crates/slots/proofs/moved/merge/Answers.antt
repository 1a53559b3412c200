use Rattle.std.proofs.{Common.{◌++◌, List, arith, ap, ◌∙◌}, lemmas.List.{drop_more, drop_all}}
use Rattle.slots.specs.{declared.moved.Stretch.Stretch, Stretches.merged_with}
use Rattle.slots.proofs.MergeLemmas.{keeps, left_before, left_behind, left_done, left_joined, left_last, left_none, no_stretch, one_waits, room_for}
use Rattle.slots.proofs.moved.merge.Goals.{in-None, in-Some, in-Some-2, in-Some-3}
use Rattle.slots.proofs.moved.merge.Goals as goal

pub loop-stretch-init : goal.loop-stretch-init
loop-stretch-init c = ap (λ (kept : List Stretch). kept ++ merged_with c.args.more c.args.stretches.now) c.new-kept.ensures

pub push-requires : goal.push-requires
push-requires c =
    let ss = c.args.stretches.now in
    let i = c.loop-stretch.stretch-index in
    let step = drop_more ss i no_stretch c.loop-stretch-test.true in
    let at = left_none _ _ _ _ _ _ c.loop-stretch.invariant c.in-None.is step in
    (omega arith, room_for _ _ _ _ at c.requires)

pub push-requires-in-Some : goal.push-requires-in-Some
push-requires-in-Some c =
    let ss = c.args.stretches.now in
    let i = c.loop-stretch.stretch-index in
    let step = drop_more ss i no_stretch c.loop-stretch-test.true in
    let at = left_before _ _ _ _ _ _ _ c.loop-stretch.invariant c.in-Some.is step c.if-stretch-grown.true in
    (omega arith, room_for _ _ _ _ at c.requires)

pub push-requires-in-Some-2 : goal.push-requires-in-Some-2
push-requires-in-Some-2 c =
    let ss = c.args.stretches.now in
    let i = c.loop-stretch.stretch-index in
    let step = drop_more ss i no_stretch c.loop-stretch-test.true in
    let same = one_waits _ _ _ c.in-Some.is c.in-Some-2.is in
    let at = left_behind _ _ _ _ _ _ _ c.loop-stretch.invariant c.in-Some-2.is step (omega (arith, same.0)) c.if-grown-stretch.true in
    (omega arith, room_for _ _ _ _ at c.requires)

pub push-requires-in-Some-2-2 : goal.push-requires-in-Some-2-2
push-requires-in-Some-2-2 c =
    let ss = c.args.stretches.now in
    let i = c.loop-stretch.stretch-index in
    let step = drop_more ss i no_stretch c.loop-stretch-test.true in
    let same = one_waits _ _ _ c.in-Some.is c.in-Some-2.is in
    let at = left_behind _ _ _ _ _ _ _ c.loop-stretch.invariant c.in-Some-2.is step (omega (arith, same.0)) c.if-grown-stretch.true in
    (omega arith, room_for _ _ _ _ (keeps _ _ _ _ _ at c.push-in-Some-2.ensures.items) c.requires)

pub loop-stretch-preserved : goal.loop-stretch-preserved
loop-stretch-preserved c =
    let ss = c.args.stretches.now in
    let i = c.loop-stretch.stretch-index in
    let step = drop_more ss i no_stretch c.loop-stretch-test.true in
    elim c.match-waiting.branch [
      | in-None w ↦
          let at = left_none _ _ _ _ _ _ c.loop-stretch.invariant w.in-None.is step in
          let now = keeps _ _ _ _ _ at w.push.ensures.items in
          rw (w.kept-is, w.waiting-is, w.in-None.is) now
      | in-Some w ↦
          let at = left_before _ _ _ _ _ _ _ c.loop-stretch.invariant w.in-Some.is step w.if-stretch-grown.true in
          let now = keeps _ _ _ _ _ at w.push-in-Some.ensures.items in
          rw (w.kept-is, w.waiting-is, w.in-Some.is) now
      | in-Some-2 w ↦
          let same = one_waits _ _ _ w.in-Some.is w.in-Some-2.is in
          let at = left_behind _ _ _ _ _ _ _ c.loop-stretch.invariant w.in-Some-2.is step (omega (arith, same.0)) w.if-grown-stretch.true in
          let one = keeps _ _ _ _ _ at w.push-in-Some-2.ensures.items in
          let now = keeps _ _ _ _ _ one w.push-in-Some-2-2.ensures.items in
          rw (w.kept-is, w.waiting-is) now
      | in-Some-3 w ↦
          let first = one_waits _ _ _ w.in-Some.is w.in-Some-3.is in
          let second = one_waits _ _ _ w.in-Some-2.is w.in-Some-3.is in
          let now = left_joined _ _ _ _ _ _ _ c.loop-stretch.invariant w.in-Some-3.is step (omega (arith, first.0)) (omega (arith, second.1)) in
          rw (w.kept-is, w.waiting-is, w.join.ensures) now
    ]

pub push-requires-in-Some-waiting : goal.push-requires-in-Some-waiting
push-requires-in-Some-waiting c =
    let done = drop_all c.loop-stretch.stretch-index c.args.stretches.now c.loop-stretch-test.false in
    let at = left_last _ _ _ _ _ c.loop-stretch.invariant c.in-Some-waiting.is done in
    (omega arith, room_for _ _ _ _ at c.requires)

pub returns-in-Some-waiting : goal.returns-in-Some-waiting
returns-in-Some-waiting c =
    let done = drop_all c.loop-stretch.stretch-index c.args.stretches.now c.loop-stretch-test.false in
    c.push-in-Some-waiting.ensures.items ∙ left_last _ _ _ _ _ c.loop-stretch.invariant c.in-Some-waiting.is done

pub returns-in_default : goal.returns-in_default
returns-in_default c =
    let done = drop_all c.loop-stretch.stretch-index c.args.stretches.now c.loop-stretch-test.false in
    left_done _ _ _ _ c.loop-stretch.invariant c.in_default.is done
