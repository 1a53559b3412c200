use Rattle.machine_theorem.proofs.SentOnce.{Laws, sent_once}
use Rattle.machine_theorem.proofs.orders.commands_are_sent_once.Goals as goal

pub returns : goal.returns
returns c =
    let laws : Laws = record {
      opens = c.controller_has_its_laws.ensures.opens;
      due = c.controller_goes_on.ensures.due;
      goes = c.controller_goes_on.ensures.goes;
      events = c.events_are_core_events.ensures;
    } in
    sent_once laws
