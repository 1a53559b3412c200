use Rattle.std.proofs.Common.{◌+◌, arith, ap}
use Rattle.host_memory.specs.{declared.table.Prd.Prd, Place.total_of}
use Rattle.host_memory.proofs.{PrdLemmas.{prds_next, total_fits}, SpotLemmas.ends_step}
use Rattle.host_memory.proofs.table.ends_of.Goals as goal

pub overflow_add-end : goal.overflow_add-end
overflow_add-end c =
    grind (arith, prds_next c.args.structure.now c.args.at c.args.count c.loop-i.i c.loop-i-test.true, total_fits c.args.structure.now c.args.at c.args.count)

pub loop-i-preserved : goal.loop-i-preserved
loop-i-preserved c =
    let s = c.args.structure.now in
    let below = c.loop-i-test.true in
    let bytes = ap (λ (p : Prd). p.bytes) c.read_prd-prd.ensures in
    let is = ap (λ (p : Prd). c.loop-i.end + p.bytes) c.read_prd-prd.ensures in
    let next = ap total_of (prds_next s c.args.at c.args.count c.loop-i.i below) in
    record {
      ends = ends_step s c.args.at c.args.count c.loop-i.i c.loop-i.end _ c.loop-i.ends.items c.push.new.self.items _ below is c.push.ensures.items c.loop-i.invariant.ends;
      long = omega (arith, c.push.ensures.len, c.loop-i.invariant.long);
      whole = omega (arith, next, bytes, c.loop-i.invariant.whole);
    }
