use Rattle.machine_theorem.proofs.{Brought.{Laws, brought, carried}, Own.owns, Numbered.bytes_are_given}
use Rattle.machine_theorem.proofs.parts.payload_comes_from_devices.Goals as goal

pub returns : goal.returns
returns c =
    let laws : Laws = record {
      disks = record { given = c.data_are_given.ensures; asked = c.commands_are_asked.ensures; parts = c.data_rise_unchanged.ensures.parts };
      opens_rising = c.frames_rise_in_order.ensures.opens;
      rising = c.frames_rise_in_order.ensures.goes;
      sent = c.data_rise_unchanged.ensures.sent;
      opens_holding = c.taken_frames_are_lent.ensures.opens;
      held = c.taken_frames_are_lent.ensures.held;
      lent = c.taken_frames_are_lent.ensures.lent;
      carries = c.taken_frames_are_lent.ensures.carries;
      opens = c.controller_has_its_laws.ensures.opens;
      runs = c.controller_has_its_laws.ensures.runs;
      have = c.controller_has_its_laws.ensures.laws;
      placed = c.controller_has_its_laws.ensures.writes;
    } in
    record { brought = brought laws; given = bytes_are_given; carried = carried laws c.bytes_go_to_their_places.ensures.all; own = owns laws c.bytes_go_to_their_places.ensures.own }
