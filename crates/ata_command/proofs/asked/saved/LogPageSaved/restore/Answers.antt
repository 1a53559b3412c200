use Rattle.saved_state.specs.State.{parts_refused}
use Rattle.ata_command.specs.Saved.{KeepsPage, KeepsPageParts, page_parts, put_page_parts}
use Rattle.ata_command.proofs.asked.saved.LogPageSaved.restore.Goals as goal

pub returns-in-Err : goal.returns-in-Err
returns-in-Err c = parts_refused put_page_parts KeepsPageParts KeepsPage page_parts (λ v k. k) c.args.words.now c.restore.new.words c.in-Err.error c.in-Err.ensures
