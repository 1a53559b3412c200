use Rattle.std.proofs.Common.{◌+◌, arith, subst, sym, ◌∙◌, List, Option, None}
use Rattle.hba_fbs.specs.Between.{FilledTo}
use Rattle.hba_driver.specs.{Drivers.Entry, Ticks.is_in}
use Rattle.hba_driver.proofs.calls.ScanLemmas.{rephase_at, rephase_done, rephase_step}
use Rattle.hba_driver.proofs.scan.rephase.Goals as goal

pub loop-slot-preserved : goal.loop-slot-preserved
loop-slot-preserved c =
    subst (λ (x : List (Option Entry)). FilledTo (c.loop-slot.slot + 1) (rephase_at (is_in c.args.group) c.args.phase c.args.slots.now) None c.args.slots.now x) (sym c.set_phase_if.ensures)
    (rephase_step (is_in c.args.group) c.args.phase c.loop-slot.slot c.args.slots.now c.loop-slot.slots _ None None c.loop-slot.invariant (omega (arith, c.keep_count.ensures)) c.is_in-comes.ensures)

pub returns-clause-rephased : goal.returns-clause-rephased
returns-clause-rephased c = rephase_done (is_in c.args.group) c.args.phase c.loop-slot.slot c.args.slots.now c.loop-slot.slots c.loop-slot.invariant (omega (arith, c.keep_count.ensures))

pub returns-clause-long : goal.returns-clause-long
returns-clause-long c = c.loop-slot.invariant.long ∙ c.keep_count.ensures
