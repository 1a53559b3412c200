use Rattle.std.proofs.Common.{ap, sym, ◌∙◌}
use Rattle.fis_view.specs.{Frames.is_frame, Saved.{KeepsFrame, KeepsFrameParts, fits_frame, frame_parts, frame_parts_apart, put_frame_parts}}
use Rattle.saved_state.specs.State.{parts_refused, rule_refused}
use Rattle.fis_view.proofs.saved.FrameSaved.restore.Goals as goal

pub returns-in-Err : goal.returns-in-Err
returns-in-Err c = parts_refused put_frame_parts KeepsFrameParts KeepsFrame frame_parts (λ v k. k.0) c.args.words.now c.restore.new.words c.in-Err.error c.in-Err.ensures

pub returns-then-not-is_frame_length : goal.returns-then-not-is_frame_length
returns-then-not-is_frame_length c = rule_refused put_frame_parts KeepsFrameParts KeepsFrame frame_parts fits_frame frame_parts_apart (λ v k. k.0)
    (λ v k. k.1) c.args.words.now c.restore.new.words c.in-Ok.parts c.in-Ok.ensures (ap is_frame (sym c.as_slice.ensures) ∙ sym c.if-not-is_frame_length.ensures)
