use Rattle.std.proofs.{Common.sym, lemmas.Bool.{le-leb, leb-true}}
use Rattle.saved_state.specs.State.{parts_refused, rule_refused}
use Rattle.block_scheduler.specs.{Schedule.held, Saved.{KeepsParts, KeepsSchedule, fit, parts_of, parts_told_apart, put_parts}}
use Rattle.block_scheduler.proofs.scheduler.saved.SchedulerSaved.restore.Goals as goal

pub returns-in-Err : goal.returns-in-Err
returns-in-Err c = parts_refused put_parts KeepsParts KeepsSchedule parts_of (λ s k. k.0)
    c.args.words.now c.restore.new.words c.in-Err.error c.in-Err.ensures

pub returns-then-not-is_within : goal.returns-then-not-is_within
returns-then-not-is_within c = rule_refused put_parts KeepsParts KeepsSchedule parts_of fit parts_told_apart (λ s k. k.0)
    (λ s k. le-leb (held s.line) s.limit k.1) c.args.words.now c.restore.new.words c.in-Ok.parts c.in-Ok.ensures (sym c.if-not-is_within.ensures)

pub invariant_of-result : goal.invariant_of-result
invariant_of-result c = record {
  sets = c.sets_of-sets.ensures;
  held = leb-true (held c.in-Ok.parts.0) c.in-Ok.parts.1 (sym c.if-not-is_within.ensures);
}

pub returns : goal.returns
returns c = (c.in-Ok.ensures.0, (c.in-Ok.ensures.1, leb-true (held c.in-Ok.parts.0) c.in-Ok.parts.1 (sym c.if-not-is_within.ensures)))
