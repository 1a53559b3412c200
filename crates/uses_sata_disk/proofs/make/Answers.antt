use Rattle.std.proofs.lemmas.Bool.{both_ways}
use Rattle.sata_disk.specs.Sending.{is_framed}
use Rattle.uses_sata_disk.proofs.More.{framed, told_more}
use Rattle.uses_sata_disk.proofs.make.Goals as goal

pub returns : goal.returns
returns c = record {
  says = told_more c.args.disk.now c.args.out c.frame.result c.fises_are_told.ensures c.requires c.frame.ensures.is;
  fits = λ p limit calls r e.
      both_ways (is_framed c.args.disk.now c.args.out) (c.frame.ensures.bad_length.0 e)
      (framed c.args.disk.now c.args.out c.parts_are_frames.ensures c.requires p limit calls r);
}
