use Rattle.uses_sata_disk.proofs.More.{answers_more}
use Rattle.uses_sata_disk.proofs.answer.Goals as goal

pub returns : goal.returns
returns c = answers_more c.args.disk.now c.answer.new.self c.args.number c.args.answer c.answer.result c.answer.ensures.refusal c.answer.ensures.ok
