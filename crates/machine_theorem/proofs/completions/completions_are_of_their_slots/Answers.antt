use Rattle.machine_theorem.proofs.{AsSupplied.Laws, TheirSlots.completions_are}
use Rattle.machine_theorem.proofs.Falls as falls
use Rattle.machine_theorem.proofs.TheSlots as slots
use Rattle.machine_theorem.proofs.completions.completions_are_of_their_slots.Goals as goal

pub returns : goal.returns
returns c =
    let ends : falls.Laws = record {
      ends = record { ends = c.ends_are_of_pages.ensures.ends; only = c.ends_are_of_pages.ensures.only };
      opens_rising = c.frames_rise_in_order.ensures.opens;
      rising = c.frames_rise_in_order.ensures.goes;
      naming = c.data_rise_unchanged.ensures.naming;
      opens = c.controller_has_its_laws.ensures.opens;
      runs = c.controller_has_its_laws.ensures.runs;
      have = c.controller_has_its_laws.ensures.laws;
      events = c.events_are_core_events.ensures;
      histories = c.issues_fall.ensures.told;
      active = c.active_falls.ensures;
    } in
    let of_slots : slots.Laws = record {
      tags = record { single = c.answers_are_single.ensures; under_way = c.open_is_under_way.ensures };
      only = c.ends_are_of_pages.ensures.only;
      falling = record {
        links = c.frames_fall_in_order.ensures.links;
        passes = c.frames_fall_in_order.ensures.passes;
        ports = c.frames_fall_in_order.ensures.ports;
        hear = c.frames_fall_in_order.ensures.heard;
        disks = c.disks_go_on.ensures;
      };
      data_of = record {
        read = c.sent_frames_are_supplied.ensures.read;
        whole = c.sent_frames_are_supplied.ensures.whole;
        unread = c.sent_frames_are_supplied.ensures.opens;
        due = c.controller_goes_on.ensures.due;
      };
      facts = record { falls = ends; others = c.ends_come_from_devices.ensures.others };
      order = c.frames_rise_in_order.ensures.order;
      over = c.frames_rise_in_order.ensures.over;
      once = c.commands_are_sent_once.ensures;
    } in
    let laws : Laws = record {
      end = record {
        slots = of_slots;
        identity = c.slots_name_their_disks_commands.ensures;
        ends = c.ends_are_of_pages.ensures.ends;
        stands = record {
          once = c.commands_are_sent_once.ensures;
          alone = c.slots_have_one_command.ensures.alone;
          goes = c.controller_goes_on.ensures.goes;
          due = c.controller_goes_on.ensures.due;
        };
      };
      orders = c.sent_frames_are_supplied.ensures.orders;
      kept = record {
        slots = c.sent_frames_are_supplied.ensures.slots;
        core = c.commands_are_supplied.ensures.core;
        supplied = c.commands_are_supplied.ensures.supplied;
      };
    } in
    completions_are laws
