use Rattle.machine_theorem.proofs.OfGuest.{Laws, heard_is}
use Rattle.machine_theorem.proofs.commands.disks_hear_their_guest.Goals as goal

pub returns : goal.returns
returns c =
    let laws : Laws = record {
      orders = record {
        orders = c.sent_frames_are_supplied.ensures.orders;
        read = c.sent_frames_are_supplied.ensures.read;
        whole = c.sent_frames_are_supplied.ensures.whole;
        runs = c.controller_has_its_laws.ensures.runs;
      };
      opens = c.controller_has_its_laws.ensures.opens;
      unread = c.sent_frames_are_supplied.ensures.opens;
      heard = c.disks_hear_what_was_sent.ensures.heard;
    } in
    heard_is laws
