use Rattle.std.proofs.Common.{◌∙◌, sym, true}
use Rattle.sata_disk.proofs.Came.{told}
use Rattle.sata_disk.proofs.hearing.bytes_came.Goals as goal

pub returns-then-waited-clause-asked : goal.returns-then-waited-clause-asked
returns-then-waited-clause-asked c =
    rw (← c.data_place-place.ensures.value) (told c.args.engine.now c.came.new.self c.data_place-place.result c.args.bytes.now true c.waits.result
    (sym c.if-waited.true ∙ c.waits-waited.ensures) c.in_ok-came.ensures.ok c.waits.ensures)
