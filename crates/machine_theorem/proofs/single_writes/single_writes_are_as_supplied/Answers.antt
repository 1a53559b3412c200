use Rattle.machine_theorem.proofs.Falls as falls
use Rattle.machine_theorem.proofs.SingleWritesOwn.{Laws, supplied_are}
use Rattle.machine_theorem.proofs.PioOwn as own
use Rattle.machine_theorem.proofs.single_writes.single_writes_are_as_supplied.Goals as goal

pub returns : goal.returns
returns c =
    let ends : falls.Laws = record {
      ends = record { ends = c.ends_are_of_pages.ensures.ends; only = c.ends_are_of_pages.ensures.only };
      opens_rising = c.frames_rise_in_order.ensures.opens;
      rising = c.frames_rise_in_order.ensures.goes;
      naming = c.data_rise_unchanged.ensures.naming;
      opens = c.controller_has_its_laws.ensures.opens;
      runs = c.controller_has_its_laws.ensures.runs;
      have = c.controller_has_its_laws.ensures.laws;
      events = c.events_are_core_events.ensures;
      histories = c.issues_fall.ensures.told;
      active = c.active_falls.ensures;
    } in
    let of_slots : own.Laws = record {
      falls = ends;
      order = c.frames_rise_in_order.ensures.order;
      taken = c.frames_rise_in_order.ensures.taken;
      disks = c.disks_go_on.ensures;
      falling = record {
        links = c.frames_fall_in_order.ensures.links;
        passes = c.frames_fall_in_order.ensures.passes;
        ports = c.frames_fall_in_order.ensures.ports;
        hear = c.frames_fall_in_order.ensures.heard;
        disks = c.disks_go_on.ensures;
      };
      data_of = record {
        read = c.sent_frames_are_supplied.ensures.read;
        whole = c.sent_frames_are_supplied.ensures.whole;
        unread = c.sent_frames_are_supplied.ensures.opens;
        due = c.controller_goes_on.ensures.due;
      };
      completed = c.completions_are_of_devices.ensures;
      turn = c.commands_are_settled_in_turn.ensures.turn;
      sectors = c.commands_are_settled_in_turn.ensures.sectors;
      transfers = c.transfers_are_answered.ensures;
      views = c.core_delivers.ensures.agrees;
      last = c.commands_await_their_ends.ensures.last;
      single = c.answers_are_single.ensures;
      pages = c.ends_are_of_pages.ensures.singles;
      kept = record {
        slots = c.sent_frames_are_supplied.ensures.slots;
        core = c.commands_are_supplied.ensures.core;
        supplied = c.commands_are_supplied.ensures.supplied;
      };
    } in
    let laws : Laws = record {
      own = of_slots;
      wait = c.commands_await_their_ends.ensures.plain;
      fed = record {
        fed = record {
          setup = record {
            events = c.events_are_core_events.ensures;
            views = c.core_delivers.ensures.agrees;
            filled = c.core_delivers.ensures.reports;
            chosen = c.core_delivers.ensures.chosen;
          };
          opens = c.controller_has_its_laws.ensures.opens;
          goes = c.controller_goes_on.ensures.goes;
          stays = c.controller_goes_on.ensures.due;
          unread = c.sent_frames_are_supplied.ensures.opens;
          read = c.sent_frames_are_supplied.ensures.read;
          whole = c.sent_frames_are_supplied.ensures.whole;
        };
        singles = record { events = c.events_are_core_events.ensures; views = c.core_delivers.ensures.agrees };
        runs = c.controller_has_its_laws.ensures.runs;
      };
      came = c.data_come_behind_commands.ensures;
      orders = c.sent_frames_are_supplied.ensures.orders;
    } in
    supplied_are laws
