use Rattle.machine_theorem.proofs.{CompletedSent.{Marks, completions}, Falls.Laws}
use Rattle.machine_theorem.proofs.ends.completions_are_of_devices.Goals as goal

pub returns : goal.returns
returns c =
    let laws : Laws = record {
      ends = record { ends = c.ends_are_of_pages.ensures.ends; only = c.ends_are_of_pages.ensures.only };
      opens_rising = c.frames_rise_in_order.ensures.opens;
      rising = c.frames_rise_in_order.ensures.goes;
      naming = c.data_rise_unchanged.ensures.naming;
      opens = c.controller_has_its_laws.ensures.opens;
      runs = c.controller_has_its_laws.ensures.runs;
      have = c.controller_has_its_laws.ensures.laws;
      events = c.events_are_core_events.ensures;
      histories = c.issues_fall.ensures.told;
      active = c.active_falls.ensures;
    } in
    let marks : Marks = record {
      opens = c.frames_name_their_port.ensures.opens;
      goes = c.frames_name_their_port.ensures.goes;
      sent = c.frames_name_their_port.ensures.sent;
      singles = c.ends_are_of_pages.ensures.singles;
    } in
    completions laws c.issues_fall.ensures.falls marks
