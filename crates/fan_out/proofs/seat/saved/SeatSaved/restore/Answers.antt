use Rattle.fan_out.specs.Saved.{KeepsSeat, KeepsSeatParts, put_seat_parts, seat_parts}
use Rattle.saved_state.specs.State.{parts_refused}
use Rattle.fan_out.proofs.seat.saved.SeatSaved.restore.Goals as goal

pub returns-in-Err : goal.returns-in-Err
returns-in-Err c = parts_refused put_seat_parts KeepsSeatParts KeepsSeat seat_parts (λ v k. k) c.args.words.now c.restore.new.words c.in-Err.error c.in-Err.ensures
