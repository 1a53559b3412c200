use Rattle.machine_theorem.proofs.Falls as falls
use Rattle.machine_theorem.proofs.IssuedWork.{Laws, issues_move}
use Rattle.machine_theorem.proofs.issued_work.issues_move_as_supplied.Goals as goal

pub returns : goal.returns
returns c =
    let ends : falls.Laws = record {
      ends = record { ends = c.ends_are_of_pages.ensures.ends; only = c.ends_are_of_pages.ensures.only };
      opens_rising = c.frames_rise_in_order.ensures.opens;
      rising = c.frames_rise_in_order.ensures.goes;
      naming = c.data_rise_unchanged.ensures.naming;
      opens = c.controller_has_its_laws.ensures.opens;
      runs = c.controller_has_its_laws.ensures.runs;
      have = c.controller_has_its_laws.ensures.laws;
      events = c.events_are_core_events.ensures;
      histories = c.issues_fall.ensures.told;
      active = c.active_falls.ensures;
    } in
    let laws : Laws = record { falls = ends; supplied = c.commands_are_supplied.ensures.supplied } in
    issues_move laws
