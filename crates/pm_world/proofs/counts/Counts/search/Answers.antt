use Rattle.std.proofs.{Common.rules, lemmas.List.Sorted.answers_always}
use Rattle.pm_world.proofs.counted.Rows.{searched}
use Rattle.pm_world.proofs.counts.Counts.search.Goals as goal

-- the closure gives a row's key, and the slice is the rows
pub returns : goal.returns
returns c =
    let facts = c.binary_search_by_key.ensures in
    let by_key = facts.position (λ row. (row.port, row.conn)) (answers_always _ _ _ (λ f a r g called. search rules)) in
    rw (← c.self.view_is, ← c.deref.ensures.value) (searched c.deref.result.now (rw c.deref.ensures.value c.self.invariant) c.args.port c.args.conn c.binary_search_by_key.result facts.bound by_key)
