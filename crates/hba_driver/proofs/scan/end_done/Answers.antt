use Rattle.std.proofs.Common.{sym, ◌∙◌}
use Rattle.hba_driver.specs.{declared.{request.Outcome.TheVariants.Done, slot.Phase.TheVariants.Ended}, Ticks.{any_done, is_done}}
use Rattle.hba_driver.proofs.calls.ScanLemmas.{none_rephased}
use Rattle.hba_driver.proofs.scan.end_done.Goals as goal

-- none is done, and each stays as it is
pub returns-else-any_done-clause-ended : goal.returns-else-any_done-clause-ended
unfolding any_done
returns-else-any_done-clause-ended c = sym (none_rephased (is_done c.args.issued) (Ended Done) 30 c.args.slots.now c.any_done.ensures.long (sym c.any_done.ensures.done ∙ c.if-any_done.false))
