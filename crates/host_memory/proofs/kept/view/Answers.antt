use Rattle.std.proofs.Common.{sym, ap}
use Rattle.std.specs.Prelude.{is_none}
use Rattle.host_memory.specs.Kept.{IsKept}
use Rattle.host_memory.proofs.KeptLemmas.{kept_table}
use Rattle.host_memory.proofs.kept.view.Goals as goal

pub invariant_of-result : goal.invariant_of-result
invariant_of-result c =
    let is : IsKept c.args.structure.now c.args.client_len c.args.tables.now.low c.args.tables.now.high c.in-Some.kept.now = c.in-Some.ensures.all _ _ _ _ c.requires in
    rw (← c.in-Some.ensures.at) (rw (← c.in-Some.ensures.count) (rw c.as_slice.ensures.value (kept_table _ _ _ _ _ is)))

pub returns-in-Some-clause-readable : goal.returns-in-Some-clause-readable
returns-in-Some-clause-readable c =
    let is : IsKept c.args.structure.now c.args.client_len c.args.tables.now.low c.args.tables.now.high c.in-Some.kept.now = c.in-Some.ensures.all _ _ _ _ c.requires in
    rw (← c.in-Some.ensures.at) (rw (← c.in-Some.ensures.count) (sym (ap is_none is.sound)))
