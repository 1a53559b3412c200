use Rattle.machine_theorem.proofs.{FedFor.fed_for, FeedStays.feeds_stay}
use Rattle.machine_theorem.proofs.fed.fed_data_are_of_their_slots.Goals as goal

pub returns : goal.returns
returns c = record {
  sent = fed_for (record {
    setup = record {
      events = c.events_are_core_events.ensures;
      views = c.core_delivers.ensures.agrees;
      filled = c.core_delivers.ensures.reports;
      chosen = c.core_delivers.ensures.chosen;
    };
    opens = c.controller_has_its_laws.ensures.opens;
    goes = c.controller_goes_on.ensures.goes;
    stays = c.controller_goes_on.ensures.due;
    unread = c.sent_frames_are_supplied.ensures.opens;
    read = c.sent_frames_are_supplied.ensures.read;
    whole = c.sent_frames_are_supplied.ensures.whole;
  });
  stays = feeds_stay;
}
