use Rattle.std.proofs.Common.{◌+◌, ◌≤◌, ◌⊎◌, length, arith, inl, inr}
use Rattle.host_memory.proofs.KeptLemmas.{kept_stay}
use Rattle.host_memory.proofs.kept.Tables.spare.Goals as goal
use Rattle.host_memory.proofs.kept.Tables.spare.Goals.{else-self-to-via-then-self-to+else-from-self, else-self-to-via-else-self-to}

pub returns-else-self-to : goal.returns-else-self-to
returns-else-self-to c = λ s bytes len is fits kept.
    let apart : (c.args.from + length bytes ≤ c.args.self.now.low) ⊎ (c.args.self.now.high ≤ c.args.from) =
    (elim c.else-self-to.branch [
      | else-self-to-via-then-self-to+else-from-self w ↦ inr (omega (arith, w.if-from-self.false))
      | else-self-to-via-else-self-to w ↦ inl (omega (arith, is, w.if-self-to.false))
    ]) in
    kept_stay s len _ _ c.args.from bytes _ (omega (arith, is, fits)) apart kept
