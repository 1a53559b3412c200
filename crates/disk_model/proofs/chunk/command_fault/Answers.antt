use Rattle.std.proofs.{Common.{◌≡◌, ◌+◌, ◌≤◌, ℕ, false, nat_lt, List, Option, Some, None, sym, ap, ◌∙◌, arith, refl}, lemmas.Bool.{le-ltb}}
use Rattle.std.specs.Prelude.{fold, option_map}
use Rattle.disk_model.specs.{declared.{answer.Fault.TheVariants.Failed, plan.DiskPlan.DiskPlan, request.Command.Command}, Chunks.first_bad}
use Rattle.disk_model.specs.{Chunks.fault_of, Insides.lower_bad}
use Rattle.disk_model.proofs.turns.BadLemmas.{lowest_is_first}
use Rattle.disk_model.proofs.chunk.command_fault.Goals as goal

-- a read within the disk fails where a sector of it is bad
by_bad : (plan : DiskPlan) (sectors : ℕ) (command : Command) (bads : List ℕ) (found : Option ℕ) → command.lba + command.count ≤ sectors → command.write ≡ false
    → bads ≡ plan.bad.items → found ≡ fold (lower_bad command) None bads → option_map (λ bad. Failed command.tag 0x40 bad) found ≡ fault_of plan sectors command
unfolding first_bad
by_bad plan sectors command bads found inside read are is =
    let past : nat_lt sectors (command.lba + command.count) ≡ false = le-ltb sectors (command.lba + command.count) inside in
    let first : first_bad command plan.bad.items ≡ found = ap (first_bad command) (sym are) ∙ sym (lowest_is_first command bads) ∙ sym is in
    rw (past, read, first) refl

pub returns-in-Some : goal.returns-in-Some
returns-in-Some c = by_bad c.args.plan.now c.args.sectors c.args.command c.as_slice.result.now (Some c.in-Some.bad) (omega (arith, c.if-end-command.false, c.if-end-command-2.false)) c.if-command.false c.as_slice.ensures.value c.in-Some.ensures

pub returns-in-None : goal.returns-in-None
returns-in-None c = by_bad c.args.plan.now c.args.sectors c.args.command c.as_slice.result.now None (omega (arith, c.if-end-command.false, c.if-end-command-2.false)) c.if-command.false c.as_slice.ensures.value c.in-None.ensures
