use Rattle.ahci_registers.specs.Saved.{KeepsLineParts, KeepsLines, line_parts, put_line_parts}
use Rattle.saved_state.specs.State.{parts_refused}
use Rattle.ahci_registers.proofs.lines.saved.LinesSaved.restore.Goals as goal

pub returns-in-Err : goal.returns-in-Err
returns-in-Err c = parts_refused put_line_parts KeepsLineParts KeepsLines line_parts (λ l k. k)
    c.args.words.now c.restore.new.words c.in-Err.error c.in-Err.ensures
