use Rattle.std.proofs.Common.{◌≡◌}
use Rattle.ata_command.specs.Trims.{extents_in, is_past_in}
use Rattle.ata_command.proofs.trim.extents_of.Given as goal

abbrev pub invariant-loop-at : goal.invariant-loop-at
invariant-loop-at l = record {
  extents : l.extents.items ≡ extents_in l.blocks l.at;
  past : l.past ≡ is_past_in l.blocks l.sectors l.at;
}
