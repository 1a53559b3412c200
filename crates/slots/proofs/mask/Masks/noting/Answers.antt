use Rattle.std.proofs.Common.{Bool, subst}
use Rattle.slots.specs.Masks.{SetsBit}
use Rattle.slots.proofs.mask.Masks.noting.Goals as goal

pub returns : goal.returns
returns c =
    let m = c.args.self in
    let s = c.args.slot in
    record {
      issued = subst (λ (b : Bool). SetsBit s b m.issued c.with_bit.result) c.is_issued.ensures c.with_bit.ensures;
      unanswered = subst (λ (b : Bool). SetsBit s b m.unanswered c.with_bit-2.result) c.is_unanswered.ensures c.with_bit-2.ensures;
      queued = subst (λ (b : Bool). SetsBit s b m.queued c.with_bit-3.result) c.is_queued.ensures c.with_bit-3.ensures;
      unsent = subst (λ (b : Bool). SetsBit s b m.unsent c.with_bit-4.result) c.is_unsent.ensures c.with_bit-4.ensures;
    }
