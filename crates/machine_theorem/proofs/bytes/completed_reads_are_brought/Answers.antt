use Rattle.machine_theorem.proofs.{AsSupplied.Laws, BroughtAt.{reads_are_brought, reads_are_since}, CompletedReads.completed_reads}
use Rattle.machine_theorem.proofs.BroughtAt as moments
use Rattle.machine_theorem.proofs.Falls as falls
use Rattle.machine_theorem.proofs.OwnPlace as places
use Rattle.machine_theorem.proofs.Sent as sent
use Rattle.machine_theorem.proofs.TheSlots as slots
use Rattle.machine_theorem.proofs.WrittenBytes as written
use Rattle.machine_theorem.proofs.bytes.completed_reads_are_brought.Goals as goal

pub returns : goal.returns
returns c =
    let ends : falls.Laws = record {
      ends = record { ends = c.ends_are_of_pages.ensures.ends; only = c.ends_are_of_pages.ensures.only };
      opens_rising = c.frames_rise_in_order.ensures.opens;
      rising = c.frames_rise_in_order.ensures.goes;
      naming = c.data_rise_unchanged.ensures.naming;
      opens = c.controller_has_its_laws.ensures.opens;
      runs = c.controller_has_its_laws.ensures.runs;
      have = c.controller_has_its_laws.ensures.laws;
      events = c.events_are_core_events.ensures;
      histories = c.issues_fall.ensures.told;
      active = c.active_falls.ensures;
    } in
    let of_slots : slots.Laws = record {
      tags = record { single = c.answers_are_single.ensures; under_way = c.open_is_under_way.ensures };
      only = c.ends_are_of_pages.ensures.only;
      falling = record {
        links = c.frames_fall_in_order.ensures.links;
        passes = c.frames_fall_in_order.ensures.passes;
        ports = c.frames_fall_in_order.ensures.ports;
        hear = c.frames_fall_in_order.ensures.heard;
        disks = c.disks_go_on.ensures;
      };
      data_of = record {
        read = c.sent_frames_are_supplied.ensures.read;
        whole = c.sent_frames_are_supplied.ensures.whole;
        unread = c.sent_frames_are_supplied.ensures.opens;
        due = c.controller_goes_on.ensures.due;
      };
      facts = record { falls = ends; others = c.ends_come_from_devices.ensures.others };
      order = c.frames_rise_in_order.ensures.order;
      over = c.frames_rise_in_order.ensures.over;
      once = c.commands_are_sent_once.ensures;
    } in
    let laws : Laws = record {
      end = record {
        slots = of_slots;
        identity = c.slots_name_their_disks_commands.ensures;
        ends = c.ends_are_of_pages.ensures.ends;
        stands = record {
          once = c.commands_are_sent_once.ensures;
          alone = c.slots_have_one_command.ensures.alone;
          goes = c.controller_goes_on.ensures.goes;
          due = c.controller_goes_on.ensures.due;
        };
      };
      orders = c.sent_frames_are_supplied.ensures.orders;
      kept = record {
        slots = c.sent_frames_are_supplied.ensures.slots;
        core = c.commands_are_supplied.ensures.core;
        supplied = c.commands_are_supplied.ensures.supplied;
      };
    } in
    let own : places.Laws = record {
      falls = ends;
      order = c.frames_rise_in_order.ensures.order;
      taken = c.frames_rise_in_order.ensures.taken;
      disks = c.disks_go_on.ensures;
      tell = c.fises_tell.ensures;
      given = c.data_are_given.ensures;
      parts = c.data_rise_unchanged.ensures.parts;
      follow = c.data_follow_setups.ensures;
    } in
    let at : moments.Laws = record {
      falls = ends;
      setup = record {
        events = c.events_are_core_events.ensures;
        views = c.core_delivers.ensures.agrees;
        filled = c.core_delivers.ensures.reports;
        chosen = c.core_delivers.ensures.chosen;
      };
      goes = c.controller_goes_on.ensures.goes;
      due = c.controller_goes_on.ensures.due;
    } in
    let whole : written.Laws = record {
      moments = at;
      own = c.bytes_go_to_their_places.ensures.own;
      whole = c.bytes_go_to_their_places.ensures.whole;
      all = c.bytes_go_to_their_places.ensures.all;
      told = c.controller_has_its_laws.ensures.turns;
    } in
    let disks : sent.Laws = record { given = c.data_are_given.ensures; asked = c.commands_are_asked.ensures; parts = c.data_rise_unchanged.ensures.parts } in
    record { brought = reads_are_brought at; since = reads_are_since at; read = completed_reads (record { moments = at; supplied = laws; places = own; disks = disks; written = whole }) }
