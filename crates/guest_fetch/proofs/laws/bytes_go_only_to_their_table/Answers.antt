use Rattle.guest_fetch.proofs.MoveLemmas.{only_to_table}
use Rattle.guest_fetch.proofs.laws.bytes_go_only_to_their_table.Goals as goal

pub returns : goal.returns
returns c = only_to_table
