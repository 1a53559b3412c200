use Rattle.machine_theorem.proofs.{Done.{done_are, falls_are}, Stored.{Laws, completions, stores_are, writes_are}, Supplied.data_are}
use Rattle.machine_theorem.proofs.FromHost as from_host
use Rattle.machine_theorem.proofs.writes.writes_come_from_guests.Goals as goal

pub returns : goal.returns
returns c =
    let slots : from_host.Laws = record {
      orders = record {
        orders = c.sent_frames_are_supplied.ensures.orders;
        read = c.sent_frames_are_supplied.ensures.read;
        whole = c.sent_frames_are_supplied.ensures.whole;
        runs = c.controller_has_its_laws.ensures.runs;
      };
      kept = record {
        slots = c.sent_frames_are_supplied.ensures.slots;
        core = c.commands_are_supplied.ensures.core;
        supplied = c.commands_are_supplied.ensures.supplied;
      };
      opens = c.controller_has_its_laws.ensures.opens;
      unread = c.sent_frames_are_supplied.ensures.opens;
      lived = c.disks_hear_what_was_sent.ensures.lives;
      heard = c.disks_hear_what_was_sent.ensures.heard;
      asked = c.commands_are_asked.ensures;
      tags = c.places_are_tags.ensures.tags;
    } in
    let laws : Laws = record {
      given = record { slots = slots; guest = c.disks_hear_their_guest.ensures };
      lived = c.disks_hear_what_was_sent.ensures.lives;
      stores = c.stores_are_heard.ensures;
      ends = c.ends_are_of_pages.ensures.ends;
    } in
    record {
      heard = data_are c.disks_hear_their_guest.ensures;
      stores = stores_are laws;
      ends = writes_are laws;
      completed = completions laws c.ends_come_from_devices.ensures.ends;
      done = done_are laws c.ends_are_of_pages.ensures.singles;
      fallen = falls_are laws c.completions_are_of_devices.ensures;
    }
