use Rattle.sata_disk_books.proofs.{LastBlocks.last_blocks, LastData.last_data}
use Rattle.sata_disk_books.proofs.last.last_data_end_reads.Goals as goal

pub returns : goal.returns
returns c = record { earned = last_data c.singles_are_awaited.ensures.waits; alone = last_blocks c.answers_are_single.ensures c.open_is_under_way.ensures }
