use Rattle.std.proofs.Common.{◌≡◌, ◌+◌, ◌<◌, ◌++◌, List, [], ◌∷◌, Some, None, length, take, drop, arith, refl, sym, ap, ◌∙◌, rules, subst}
use Rattle.std.proofs.{Math.Seq.{drop-append_seam, drop-length, take-append_seam}, lemmas.List.{append_assoc, take-append-drop, take_more, take_all}}
use Rattle.std.proofs.lemmas.Option.{slice_get_read}
use Rattle.std.specs.Prelude.{Ok, Err, slice_get, unwrap_or}
use Rattle.pm_world.specs.{Places.IsOrderly, Rules.{Rule, Run, refusal}, declared.step.{Answer.Answer, Step.Step, StepError.TheVariants.OutOfMemory}}
use Rattle.pm_world.proofs.{upward.Law.run_more, reached.Laws.obeys, steps.{Lists.none_first, Refused.{rule_refuses, refuses_or_wants}}}
use Rattle.pm_world.proofs.steps.Refused.{refusal_named}
use Rattle.pm_world.proofs.machine.Machine.run_into.Goals as goal

-- one more behind the old ones
one_more : (old all : List Answer) (a : Answer) → take (length old) all ≡ old → all ++ a ∷ [] ≡ old ++ (drop (length old) all ++ a ∷ [])
one_more old all a kept =
    ap (λ (xs : List Answer). xs ++ a ∷ []) (sym (take-append-drop (length old) all) ∙ ap (λ (xs : List Answer). xs ++ drop (length old) all) kept)
    ∙ append_assoc old (drop (length old) all) (a ∷ [])

kept_more : (old all : List Answer) (a : Answer) → take (length old) all ≡ old → take (length old) (all ++ a ∷ []) ≡ old
kept_more old all a kept = ap (take (length old)) (one_more old all a kept) ∙ take-append_seam old (drop (length old) all ++ a ∷ [])

told_more : (old all : List Answer) (a : Answer) → take (length old) all ≡ old → drop (length old) (all ++ a ∷ []) ≡ drop (length old) all ++ a ∷ []
told_more old all a kept = ap (drop (length old)) (one_more old all a kept) ∙ drop-append_seam old (drop (length old) all ++ a ∷ [])

pub returns-in_default-clause-laws : goal.returns-in_default-clause-laws
returns-in_default-clause-laws g c =
    let missing : slice_get c.args.steps.now 0 ≡ None = search rules in
    let none : c.args.steps.now ≡ [] = none_first c.args.steps.now missing in
    rw (none, drop-length c.args.answers.now.items) (obeys c.args.self.now [] [] c.args.self.now (subst IsOrderly c.self.view_is c.self.invariant.0))

pub returns-then-is_err-clause-stops : goal.returns-then-is_err-clause-stops
returns-then-is_err-clause-stops g c =
    let now = c.args.self.now in
    let s = c.in-Some.first.now in
    let here : slice_get c.args.steps.now 0 ≡ Some s = search rules in
    let says : c.unwrap_or.result ≡ unwrap_or (refusal now s) OutOfMemory = rw c.refusal-refused.ensures at c.unwrap_or.ensures in
    let told : drop (length c.args.answers.now.items) c.reserve.new.self.items ≡ [] = rw c.reserve.ensures.items (drop-length c.args.answers.now.items) in
    rw told (
      record {
        run = refl;
        refused = rw (here, says) (refuses_or_wants (refusal now s) (refusal_named now s));
        gives = λ later. absurd (omega (arith, later));
      },
      obeys now [] [] now (subst IsOrderly c.self.view_is c.self.invariant.0),
    )

pub loop-i-init : goal.loop-i-init
loop-i-init g c =
    let old = c.args.answers.now.items in
    record {
      kept = rw c.reserve.ensures.items (take_all (length old) old (omega arith));
      run = rw (c.reserve.ensures.items, drop-length old) refl;
      room = search rules;
      count = omega (arith, c.reserve.ensures.len);
    }

pub push_reserved-requires : goal.push_reserved-requires
push_reserved-requires g c = omega (arith, c.loop-i.invariant.room, c.loop-i.invariant.count)

pub returns-in-Err-clause-kept : goal.returns-in-Err-clause-kept
returns-in-Err-clause-kept g c = c.loop-i.invariant.kept

pub returns-in-Err-clause-stops : goal.returns-in-Err-clause-stops
returns-in-Err-clause-stops g c =
    let steps = c.args.steps.now in
    let told = drop (length c.args.answers.now.items) c.loop-i.answers.items in
    let s = c.index-steps-i.result in
    let below : c.loop-i.i < length steps = omega arith in
    let same : c.step.new.self ≡ c.loop-i.self = rw c.in-Err.is at c.step.ensures.refused in
    let rule : Rule c.loop-i.self s (Err c.in-Err.e) c.step.new.self = rw c.in-Err.is at c.step.ensures.rule in
    let run : Run c.args.self.now (take c.loop-i.i steps) told c.step.new.self = rw same c.loop-i.invariant.run in
    let here : slice_get steps c.loop-i.i ≡ Some s = slice_get_read steps (length steps) c.loop-i.i s (search rules) below c.index-steps-i.is in (
      record {
        run = run;
        refused = rw here (rw same (rule_refuses c.loop-i.self s c.in-Err.e c.step.new.self rule));
        gives = λ later. rw (here, same) (rw same at rule);
      },
      obeys c.args.self.now (take c.loop-i.i steps) told c.step.new.self (subst IsOrderly c.self.view_is c.self.invariant.0),
    )

pub loop-i-preserved : goal.loop-i-preserved
loop-i-preserved g c =
    let steps = c.args.steps.now in
    let old = c.args.answers.now.items in
    let all = c.loop-i.answers.items in
    let a = c.in-Ok.answer in
    let s = c.index-steps-i.result in
    let below : c.loop-i.i < length steps = omega arith in
    let more : take (c.loop-i.i + 1) steps ≡ take c.loop-i.i steps ++ s ∷ [] = take_more steps c.loop-i.i s below ∙ ap (λ (t : Step). take c.loop-i.i steps ++ t ∷ []) (sym c.index-steps-i.is) in
    let rule : Rule c.loop-i.self s (Ok a) c.step.new.self = rw c.in-Ok.is at c.step.ensures.rule in
    let run = run_more c.args.self.now (take c.loop-i.i steps) (drop (length old) all) c.loop-i.self s a c.step.new.self c.loop-i.invariant.run rule in
    record {
      kept = rw c.push_reserved.ensures.items (kept_more old all a c.loop-i.invariant.kept);
      run = rw (more, c.push_reserved.ensures.items, told_more old all a c.loop-i.invariant.kept) run;
      room = rw c.push_reserved.ensures.capacity c.loop-i.invariant.room;
      count = omega (arith, c.push_reserved.ensures.len, c.loop-i.invariant.count);
    }

pub returns-clause-kept : goal.returns-clause-kept
returns-clause-kept g c = c.loop-i.invariant.kept

pub returns-clause-run : goal.returns-clause-run
returns-clause-run g c =
    let steps = c.args.steps.now in
    let all : take c.loop-i.i steps ≡ steps = take_all c.loop-i.i steps c.loop-i-test.false in
    rw all at c.loop-i.invariant.run

pub returns-clause-laws : goal.returns-clause-laws
returns-clause-laws g c =
    let steps = c.args.steps.now in
    let told = drop (length c.args.answers.now.items) c.loop-i.answers.items in
    obeys c.args.self.now steps told c.loop-i.self (subst IsOrderly c.self.view_is c.self.invariant.0)
