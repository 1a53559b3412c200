use Rattle.machine_theorem.proofs.Anew as anew
use Rattle.machine_theorem.proofs.BroughtAt as moments
use Rattle.machine_theorem.proofs.Falls as falls
use Rattle.machine_theorem.proofs.SinglesBrought as brought
use Rattle.machine_theorem.proofs.PioOwn as pio
use Rattle.machine_theorem.proofs.PioRead.{unqueued_reads_are_read}
use Rattle.machine_theorem.proofs.TakenRead as taken
use Rattle.machine_theorem.proofs.pio_reads.unqueued_reads_are_read.Goals as goal

pub returns : goal.returns
returns c =
    let ends : falls.Laws = record {
      ends = record { ends = c.ends_are_of_pages.ensures.ends; only = c.ends_are_of_pages.ensures.only };
      opens_rising = c.frames_rise_in_order.ensures.opens;
      rising = c.frames_rise_in_order.ensures.goes;
      naming = c.data_rise_unchanged.ensures.naming;
      opens = c.controller_has_its_laws.ensures.opens;
      runs = c.controller_has_its_laws.ensures.runs;
      have = c.controller_has_its_laws.ensures.laws;
      events = c.events_are_core_events.ensures;
      histories = c.issues_fall.ensures.told;
      active = c.active_falls.ensures;
    } in
    let at : moments.Laws = record {
      falls = ends;
      setup = record {
        events = c.events_are_core_events.ensures;
        views = c.core_delivers.ensures.agrees;
        filled = c.core_delivers.ensures.reports;
        chosen = c.core_delivers.ensures.chosen;
      };
      goes = c.controller_goes_on.ensures.goes;
      due = c.controller_goes_on.ensures.due;
    } in
    let of_bytes : brought.Laws = record {
      written = record {
        moments = at;
        own = c.bytes_go_to_their_places.ensures.own;
        whole = c.bytes_go_to_their_places.ensures.whole;
        all = c.bytes_go_to_their_places.ensures.all;
        told = c.controller_has_its_laws.ensures.turns;
      };
      fall = c.issues_fall.ensures.falls;
    } in
    let of_ends : pio.Laws = record {
      falls = ends;
      order = c.frames_rise_in_order.ensures.order;
      taken = c.frames_rise_in_order.ensures.taken;
      disks = c.disks_go_on.ensures;
      falling = record {
        links = c.frames_fall_in_order.ensures.links;
        passes = c.frames_fall_in_order.ensures.passes;
        ports = c.frames_fall_in_order.ensures.ports;
        hear = c.frames_fall_in_order.ensures.heard;
        disks = c.disks_go_on.ensures;
      };
      data_of = record {
        read = c.sent_frames_are_supplied.ensures.read;
        whole = c.sent_frames_are_supplied.ensures.whole;
        unread = c.sent_frames_are_supplied.ensures.opens;
        due = c.controller_goes_on.ensures.due;
      };
      completed = c.completions_are_of_devices.ensures;
      turn = c.commands_are_settled_in_turn.ensures.turn;
      sectors = c.commands_are_settled_in_turn.ensures.sectors;
      transfers = c.transfers_are_answered.ensures;
      views = c.core_delivers.ensures.agrees;
      last = c.commands_await_their_ends.ensures.last;
      single = c.answers_are_single.ensures;
      pages = c.ends_are_of_pages.ensures.singles;
      kept = record {
        slots = c.sent_frames_are_supplied.ensures.slots;
        core = c.commands_are_supplied.ensures.core;
        supplied = c.commands_are_supplied.ensures.supplied;
      };
    } in
    let again : anew.Laws = record {
      own = of_ends;
      wait = c.commands_await_their_ends.ensures.plain;
      goes = c.controller_goes_on.ensures.goes;
      stays = c.controller_goes_on.ensures.due;
    } in
    let sent : taken.Laws = record {
      anew = again;
      answers = c.commands_go_in_turn.ensures;
      setup = at.setup;
      turn = c.single_data_go_in_turn.ensures;
      tell = c.fises_tell.ensures;
      given = c.data_are_given.ensures;
      parts = c.data_rise_unchanged.ensures.parts;
    } in
    unqueued_reads_are_read (record { brought = of_bytes; taken = sent }) c.pages_go_in_turn.ensures.turn c.pages_go_in_turn.ensures.none
    c.single_data_are_counted.ensures
