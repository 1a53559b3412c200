use Rattle.disk_pages.proofs.ReadingLemmas.{identity_reads}
use Rattle.disk_pages.proofs.readings.identity_is_read.Goals as goal

pub returns : goal.returns
returns c = identity_reads _ _ (record {
  serial = c.chars.ensures.text;
  firmware = c.chars-2.ensures.text;
  model = c.chars-3.ensures.text;
  sectors = c.sectors.ensures.bound;
  name = rw (← c.name_number.ensures.value) c.name_number.ensures.bound;
  depth = c.commands.ensures.some;
  multiple = rw (← c.sectors-2.ensures.value) c.sectors-2.ensures.most;
})
