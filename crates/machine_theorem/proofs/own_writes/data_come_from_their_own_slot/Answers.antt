use Rattle.machine_theorem.proofs.Falls as falls
use Rattle.machine_theorem.proofs.OwnData.{data_come}
use Rattle.machine_theorem.proofs.own_writes.data_come_from_their_own_slot.Goals as goal

pub returns : goal.returns
returns c =
    let ends : falls.Laws = record {
      ends = record { ends = c.ends_are_of_pages.ensures.ends; only = c.ends_are_of_pages.ensures.only };
      opens_rising = c.frames_rise_in_order.ensures.opens;
      rising = c.frames_rise_in_order.ensures.goes;
      naming = c.data_rise_unchanged.ensures.naming;
      opens = c.controller_has_its_laws.ensures.opens;
      runs = c.controller_has_its_laws.ensures.runs;
      have = c.controller_has_its_laws.ensures.laws;
      events = c.events_are_core_events.ensures;
      histories = c.issues_fall.ensures.told;
      active = c.active_falls.ensures;
    } in
    data_come (record {
      falls = ends;
      falling = record {
        links = c.frames_fall_in_order.ensures.links;
        passes = c.frames_fall_in_order.ensures.passes;
        ports = c.frames_fall_in_order.ensures.ports;
        hear = c.frames_fall_in_order.ensures.heard;
        disks = c.disks_go_on.ensures;
      };
      order = c.frames_rise_in_order.ensures.order;
      taken = c.frames_rise_in_order.ensures.taken;
      disks = c.disks_go_on.ensures;
      goes = c.controller_goes_on.ensures.goes;
      due = c.controller_goes_on.ensures.due;
      orders = c.sent_frames_are_supplied.ensures.orders;
      single = c.answers_are_single.ensures;
      keep = c.ordered_links_keep_places.ensures;
    })
