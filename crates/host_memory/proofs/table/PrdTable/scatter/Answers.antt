use Rattle.std.proofs.{Common.{◌+◌, ◌-◌, ◌≤◌, length, take, drop, arith, sym, ◌∙◌}, lemmas.List.take_rest}
use Rattle.host_memory.specs.{Place.{AreInside, AreApart, total_of}, Reading.prds_at}
use Rattle.host_memory.proofs.{PrdLemmas.total_fits, ScatterLemmas.{scatters_more, some_more}}
use Rattle.host_memory.proofs.table.PrdTable.scatter.Goals as goal

pub overflow_cast-done : goal.overflow_cast-done
overflow_cast-done c =
    let prds = prds_at c.self.inside.structure.now c.self.inside.at c.self.inside.count in
    let fits : c.args.offset + length c.args.bytes.now ≤ total_of prds = rw (← c.self.view_is) at c.requires.fits in
    let most = total_fits c.self.inside.structure.now c.self.inside.at c.self.inside.count in
    record { fits = omega (arith, c.self.invariant.few, c.stretches.invariant.few) }

pub overflow_add-offset : goal.overflow_add-offset
overflow_add-offset c =
    let prds = prds_at c.self.inside.structure.now c.self.inside.at c.self.inside.count in
    let fits : c.args.offset + length c.args.bytes.now ≤ total_of prds = rw (← c.self.view_is) at c.requires.fits in
    let most = total_fits c.self.inside.structure.now c.self.inside.at c.self.inside.count in
    record { fits = omega (arith, c.self.invariant.few, c.stretches.invariant.few) }

pub stretches-smaller : goal.stretches-smaller
stretches-smaller c =
    let bytes = c.args.bytes.now in
    let done = c.stretches.done in
    let more = some_more c.args.self.now.prds c.args.offset bytes (take (length bytes - done) (drop done bytes)) done c.put_part-done.result c.requires.fits c.stretches-test.true (take_rest bytes done) c.put_part-done.ensures.count in
    omega (arith, more.0, more.1)

pub stretches-preserved : goal.stretches-preserved
stretches-preserved c =
    let table = c.args.self.now in
    let bytes = c.args.bytes.now in
    let done = c.stretches.done in
    let rest = take (length bytes - done) (drop done bytes) in
    let inside : AreInside table.client_len table.prds = rw (← c.self.view_is) c.self.invariant.inside in
    let apart : AreApart table.prds = rw (← c.self.view_is) c.self.invariant.apart in
    let more = some_more table.prds c.args.offset bytes rest done c.put_part-done.result c.requires.fits c.stretches-test.true (take_rest bytes done) c.put_part-done.ensures.count in
    record {
      few = more.1;
      written = scatters_more table.client_len table.prds c.args.offset bytes rest done c.put_part-done.result c.args.client.now c.stretches.client c.put_part-done.new.client
          inside apart c.requires.fits c.stretches-test.true (c.stretches.auto.client ∙ sym c.requires.client) (take_rest bytes done) c.put_part-done.ensures.count c.put_part-done.ensures.written c.stretches.invariant.written;
    }
