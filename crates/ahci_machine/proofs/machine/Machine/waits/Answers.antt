use Rattle.std.proofs.{Common.{◌<◌, length, sym, ap, subst, ◌∙◌, Option, None, arith}, lemmas.List.{get_or_default}}
use Rattle.std.specs.Prelude.{MatchOption, slice_index_or}
use Rattle.ahci_machine.specs.{Acts.AwaitsAt, Gathers.{Awaits, GatheringState}, States.MachineState}
use Rattle.ahci_machine.proofs.machine.Machine.waits.Goals as goal

pub returns-in-Some-clause-some : goal.returns-in-Some-clause-some
returns-in-Some-clause-some c =
    let l = c.self.inside.gathering in
    let under = c.requires in
    let same = c.from.ensures in
    let long = c.self.told in
    let low : c.from.result < length l = omega (arith, under, same, long) in
    let there = ap (λ k. slice_index_or l k None) (sym c.from.ensures) ∙ get_or_default l c.from.result None c.index-self-from.result low ∙ c.in-Some.is in
    subst (λ (m : MachineState). AwaitsAt m c.args.dev c.waits.result) c.self.view_is
    (subst (λ (o : Option GatheringState). MatchOption o ⊥ (λ g. Awaits g c.self.inside.controller c.waits.result)) (sym there) c.waits.ensures)
