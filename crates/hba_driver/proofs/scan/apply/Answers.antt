use Rattle.std.proofs.{Common.{List, Option, length, ap, ◌∙◌}, lemmas.List.{length-set}}
use Rattle.hba_driver.specs.Drivers.{Entry}
use Rattle.hba_driver.proofs.scan.apply.Goals as goal

pub returns-in-Issues-clause-long : goal.returns-in-Issues-clause-long
returns-in-Issues-clause-long c = ap (λ (l : List (Option Entry)). length l) c.set_phase.ensures ∙ length-set _ _ _ ∙ c.keep_count.ensures
