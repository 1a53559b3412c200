use Rattle.machine_theorem.proofs.Falls as falls
use Rattle.machine_theorem.proofs.OwnPlace.{payload_goes}
use Rattle.machine_theorem.proofs.own_slots.payload_goes_to_its_own_slot.Goals as goal

pub returns : goal.returns
returns c =
    let ends : falls.Laws = record {
      ends = record { ends = c.ends_are_of_pages.ensures.ends; only = c.ends_are_of_pages.ensures.only };
      opens_rising = c.frames_rise_in_order.ensures.opens;
      rising = c.frames_rise_in_order.ensures.goes;
      naming = c.data_rise_unchanged.ensures.naming;
      opens = c.controller_has_its_laws.ensures.opens;
      runs = c.controller_has_its_laws.ensures.runs;
      have = c.controller_has_its_laws.ensures.laws;
      events = c.events_are_core_events.ensures;
      histories = c.issues_fall.ensures.told;
      active = c.active_falls.ensures;
    } in
    payload_goes (record {
      falls = ends;
      order = c.frames_rise_in_order.ensures.order;
      taken = c.frames_rise_in_order.ensures.taken;
      disks = c.disks_go_on.ensures;
      tell = c.fises_tell.ensures;
      given = c.data_are_given.ensures;
      parts = c.data_rise_unchanged.ensures.parts;
      follow = c.data_follow_setups.ensures;
    })
