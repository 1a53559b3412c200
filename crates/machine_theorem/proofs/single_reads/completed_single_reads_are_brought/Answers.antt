use Rattle.machine_theorem.proofs.BroughtAt as moments
use Rattle.machine_theorem.proofs.Falls as falls
use Rattle.machine_theorem.proofs.SinglesBrought as brought
use Rattle.machine_theorem.proofs.SinglesBrought.{singles_are_brought, singles_are_since, singles_are_written}
use Rattle.machine_theorem.proofs.single_reads.completed_single_reads_are_brought.Goals as goal

pub returns : goal.returns
returns c =
    let ends : falls.Laws = record {
      ends = record { ends = c.ends_are_of_pages.ensures.ends; only = c.ends_are_of_pages.ensures.only };
      opens_rising = c.frames_rise_in_order.ensures.opens;
      rising = c.frames_rise_in_order.ensures.goes;
      naming = c.data_rise_unchanged.ensures.naming;
      opens = c.controller_has_its_laws.ensures.opens;
      runs = c.controller_has_its_laws.ensures.runs;
      have = c.controller_has_its_laws.ensures.laws;
      events = c.events_are_core_events.ensures;
      histories = c.issues_fall.ensures.told;
      active = c.active_falls.ensures;
    } in
    let at : moments.Laws = record {
      falls = ends;
      setup = record {
        events = c.events_are_core_events.ensures;
        views = c.core_delivers.ensures.agrees;
        filled = c.core_delivers.ensures.reports;
        chosen = c.core_delivers.ensures.chosen;
      };
      goes = c.controller_goes_on.ensures.goes;
      due = c.controller_goes_on.ensures.due;
    } in
    let laws : brought.Laws = record {
      written = record {
        moments = at;
        own = c.bytes_go_to_their_places.ensures.own;
        whole = c.bytes_go_to_their_places.ensures.whole;
        all = c.bytes_go_to_their_places.ensures.all;
        told = c.controller_has_its_laws.ensures.turns;
      };
      fall = c.issues_fall.ensures.falls;
    } in
    record { brought = singles_are_brought laws; since = singles_are_since laws; written = singles_are_written laws }
