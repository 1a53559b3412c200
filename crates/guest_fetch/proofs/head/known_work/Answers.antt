use Rattle.std.proofs.Common.{rules, ap, arith}
use Rattle.slots.specs.declared.work.Work.{Work}
use Rattle.guest_fetch.proofs.WorkLemmas.{work_few}
use Rattle.guest_fetch.proofs.head.known_work.Goals as goal

pub returns-clause-few : goal.returns-clause-few
returns-clause-few c =
    let few = work_few c.args.fields (search rules) (search rules) in
    omega (arith, few, ap (λ (w : Work). w.len) c.asked_by.ensures)
