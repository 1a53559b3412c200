use Rattle.hba_fbs.proofs.RegisterLemmas.{own_cmd_are}
use Rattle.hba_fbs.proofs.registers.Registers.with_cmd.Goals as goal

pub returns-else-falls-clause-are : goal.returns-else-falls-clause-are
returns-else-falls-clause-are c = rw (c.has_bit.ensures, c.has_bit-2.ensures) (own_cmd_are c.args.self _ _ _ _ c.requires.are c.requires.accepted)
