use Rattle.machine_theorem.proofs.AtMoments.{Laws, completions, data_are, ended_at, ends_are, payload_is, sent_at}
use Rattle.machine_theorem.proofs.moments.data_are_of_slots.Goals as goal

pub returns : goal.returns
returns c =
    let laws : Laws = record {
      lived = c.commands_come_from_slots.ensures.lived;
      fresh = c.commands_come_from_slots.ensures.fresh;
      given = c.data_are_given.ensures;
      ends = c.ends_are_of_pages.ensures.ends;
    } in
    record { given = data_are laws; ends = ends_are laws; sent = sent_at; ended = ended_at; payload = payload_is laws c.payload_comes_from_devices.ensures.brought; completed = completions laws c.ends_come_from_devices.ensures.ends }
