use Rattle.saved_state.specs.State.{parts_refused}
use Rattle.slots.specs.Saved.{KeepsContext, KeepsContextParts, put_context_parts, context_parts}
use Rattle.slots.proofs.table.saved.ContextSaved.restore.Goals as goal

pub returns-in-Err : goal.returns-in-Err
returns-in-Err c = parts_refused put_context_parts KeepsContextParts KeepsContext context_parts (λ v k. k) c.args.words.now c.restore.new.words c.in-Err.error c.in-Err.ensures
