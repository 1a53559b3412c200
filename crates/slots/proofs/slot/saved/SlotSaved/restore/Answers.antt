use Rattle.std.proofs.lemmas.Bool.{false≢true}
use Rattle.saved_state.specs.State.{KeepsOption, put_option}
use Rattle.slots.specs.Saved.{KeepsIssueParts, KeepsSlot, put_issue_parts, put_slot}
use Rattle.slots.proofs.SavedLemmas.{refused, room_gone, slot_gone}
use Rattle.slots.proofs.slot.saved.SlotSaved.restore.Goals as goal

pub returns-then-not-has_room : goal.returns-then-not-has_room
returns-then-not-has_room c =
    let is = rw c.in-Ok-Some.field-0-is at c.in-Ok-Some.ensures in
    room_gone c.args.words.now c.restore.new.words c.in-Ok-Some.issued c.in-Ok-Some.moved is.0 is.1 (λ room. false≢true (c.if-not-has_room.ensures.1 room))

pub returns-in-Err : goal.returns-in-Err
returns-in-Err c = refused (put_option put_issue_parts) (KeepsOption KeepsIssueParts) put_slot KeepsSlot c.args.words.now c.args.words.now c.restore.new.words c.in-Err.error
    (slot_gone c.args.words.now) c.in-Err.ensures
