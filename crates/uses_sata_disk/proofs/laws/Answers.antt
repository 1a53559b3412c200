use Rattle.uses_sata_disk.proofs.More.{host_here, watched_here}
use Rattle.uses_sata_disk.proofs.laws.Goals as goal

pub returns : goal.returns
returns c = record {
  earned = λ p limit calls r. c.ends_are_earned.ensures p limit calls r.0;
  apart = λ p limit calls r. c.requests_are_apart.ensures p limit calls r.0;
  named = λ p limit calls r. c.data_are_named.ensures p limit calls r.0;
  due = λ p limit calls r. c.answers_are_single.ensures p limit calls r.0;
  stores = λ p limit calls r. c.stores_are_heard.ensures p limit calls r.0;
  watched = λ p limit calls r. watched_here p limit calls r.1 (c.aborted_until_read.ensures p limit calls r.0);
  host = λ p limit calls r. host_here p limit calls r.1 (c.open_is_under_way.ensures p limit calls r.0);
}
