use Rattle.machine_theorem.proofs.FromHost.{Laws, of_new, of_slots}
use Rattle.machine_theorem.proofs.commands.commands_come_from_slots.Goals as goal

pub returns : goal.returns
returns c =
    let laws : Laws = record {
      orders = record {
        orders = c.sent_frames_are_supplied.ensures.orders;
        read = c.sent_frames_are_supplied.ensures.read;
        whole = c.sent_frames_are_supplied.ensures.whole;
        runs = c.controller_has_its_laws.ensures.runs;
      };
      kept = record {
        slots = c.sent_frames_are_supplied.ensures.slots;
        core = c.commands_are_supplied.ensures.core;
        supplied = c.commands_are_supplied.ensures.supplied;
      };
      opens = c.controller_has_its_laws.ensures.opens;
      unread = c.sent_frames_are_supplied.ensures.opens;
      lived = c.disks_hear_what_was_sent.ensures.lives;
      heard = c.disks_hear_what_was_sent.ensures.heard;
      asked = c.commands_are_asked.ensures;
      tags = c.places_are_tags.ensures.tags;
    } in
    record { lived = laws.lived; commands = of_slots laws; fresh = of_new laws }
