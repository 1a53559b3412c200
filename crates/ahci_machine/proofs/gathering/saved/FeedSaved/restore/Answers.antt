use Rattle.ahci_machine.specs.Saved.{feed_parts, feed_words, of_feed}
use Rattle.saved_state.specs.State.{parts_refused}
use Rattle.ahci_machine.proofs.gathering.saved.FeedSaved.restore.Goals as goal

pub returns-in-Err : goal.returns-in-Err
returns-in-Err c = parts_refused of_feed.put of_feed.keeps feed_words.keeps feed_parts (λ v k. k)
    c.args.words.now c.restore.new.words c.in-Err.error c.in-Err.ensures
