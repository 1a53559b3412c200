use Rattle.std.proofs.Common.{Result, Ok, Err, OnErr, subst}
use Rattle.pm_world.specs.Counting.{AreSorted}
use Rattle.pm_world.proofs.counted.Rows.{there_already, no_row, sorted_insert, rows_insert}
use Rattle.pm_world.proofs.counts.Counts.came.Goals as goal

-- the connection has a row
pub returns-in_default-clause-rows : goal.returns-in_default-clause-rows
returns-in_default-clause-rows c = there_already c.args.self.now (subst AreSorted c.self.view_is c.self.invariant) c.args.port c.args.conn c.in_default.field-0 c.in_default.ensures.found

-- the new row is put into its gap
pub invariant_of-self-2 : goal.invariant_of-self-2
invariant_of-self-2 c = rw c.in_ok-insert.ensures.items (sorted_insert c.self.inside.rows.items c.args.port c.args.conn c.in-Err.at (rw c.self.view_is c.in-Err.ensures.absent) c.self.invariant)

pub returns-clause-rows : goal.returns-clause-rows
returns-clause-rows c = rw (c.in_ok-insert.ensures.items, c.self.view_is) (rows_insert c.args.self.now c.args.port c.args.conn c.in-Err.at c.in-Err.ensures.absent)

-- and memory ran out for it
on_err : {T E P : Type 0} (r : Result T E) → P → OnErr r P
on_err (Ok x) h = tt
on_err (Err e) h = h

pub returns-in_err-insert-clause-memory : goal.returns-in_err-insert-clause-memory
returns-in_err-insert-clause-memory c = on_err c.from_residual.result (no_row c.args.self.now c.args.port c.args.conn c.in-Err.at c.in-Err.ensures.absent)
