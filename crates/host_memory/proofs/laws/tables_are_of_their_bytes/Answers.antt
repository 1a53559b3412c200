use Rattle.host_memory.proofs.AgreeLemmas.{says_the_same, stays_the_same}
use Rattle.host_memory.proofs.laws.tables_are_of_their_bytes.Goals as goal

pub returns-clause-bytes_tell : goal.returns-clause-bytes_tell
returns-clause-bytes_tell c = says_the_same

pub returns-clause-others_do_not : goal.returns-clause-others_do_not
returns-clause-others_do_not c = stays_the_same
