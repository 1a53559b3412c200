use Rattle.std.proofs.Common.{rules}
use Rattle.std.specs.List.{AllZip}
use Rattle.runner.proofs.Zips.{zip_push}
use Rattle.runner.proofs.run.+fn-run_many-scope+run_many.Goals as goal

pub returns : goal.returns
returns g t c =
    let rest : AllZip (λ w e. g.W.Worker.ended w c.args.turns e) c.pop.new.self.items c.in_ok-ends.ends.items = search rules in
    let mine : g.W.Worker.ended c.in-Some.last c.args.turns c.in_ok-ends.end = search rules in
    rw (c.in_ok-push.ensures.items, c.in-Some.ensures.items) (zip_push (λ w e. g.W.Worker.ended w c.args.turns e) _ _ _ _ rest mine)
