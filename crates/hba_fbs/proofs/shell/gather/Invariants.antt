use Rattle.std.proofs.Common.{◌≡◌, ◌++◌}
use Rattle.std.specs.List.{concat}
use Rattle.hba_fbs.specs.Sending.{data_fis}
use Rattle.hba_fbs.proofs.shell.gather.Given as goal

-- behind the head, what was copied and then what is left make up the whole
abbrev pub invariant-loop-part : goal.invariant-loop-part
invariant-loop-part l = l.bytes.items ++ concat l.part-iterator ≡ data_fis l.dev (concat l.initial.part-iterator)
