use Rattle.std.proofs.Common.{refl}
use Rattle.pm_world.specs.Counting.{IsRowAt, sent_more}
use Rattle.pm_world.proofs.counted.Rows.{sent_keeps, sorted_set, rows_set, nothing_there}
use Rattle.pm_world.proofs.counts.Counts.sent.Goals as goal

-- the row is written over
pub invariant_of-self : goal.invariant_of-self
invariant_of-self c =
    let found : IsRowAt c.self.inside.rows.items c.args.port c.args.conn c.in-Ok.at = rw c.self.view_is c.in-Ok.ensures.found in
    sorted_set c.self.inside.rows.items c.self.invariant c.args.port c.args.conn c.in-Ok.at found sent_more sent_keeps c.index-row.result.now _ c.index-row.ensures (rw c.saturating_add.ensures refl)

pub returns-in-Ok : goal.returns-in-Ok
returns-in-Ok c =
    let found : IsRowAt c.self.inside.rows.items c.args.port c.args.conn c.in-Ok.at = rw c.self.view_is c.in-Ok.ensures.found in
    rw (← c.self.view_is) (rows_set c.self.inside.rows.items c.self.invariant c.args.port c.args.conn c.in-Ok.at found sent_more sent_keeps c.index-row.result.now _ c.index-row.ensures (rw c.saturating_add.ensures refl))

-- there is no row
pub returns-in_default : goal.returns-in_default
returns-in_default c = nothing_there c.args.self.now c.args.port c.args.conn c.in_default.field-0 c.in_default.ensures.absent sent_more
