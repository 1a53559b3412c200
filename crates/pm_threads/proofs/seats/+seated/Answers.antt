use Rattle.std.proofs.Common.{rules, ◌≡◌, ℕ, ◌+◌, List, ◌++◌, ◌∷◌, [], length, length-append, sym, ap, ◌∙◌, subst, arith}
use Rattle.std.specs.{Prelude.{All, map}, List.AllZip}
use Rattle.disk_thread.specs.Runs.{IsRun}
use Rattle.pm_threads.specs.{Ends.RunsWith, Links.IsFree, Seats.first_ports, Setups.pulls_at}
use Rattle.pm_threads.proofs.{Ends.if_ok, Zips.{all_front, ports_push, zip_push}}
use Rattle.pm_threads.proofs.seats.+seated.Goals as goal

pub seated-requires : goal.seated-requires
seated-requires g t c κs within =
    let links : c.args.links.now ≡ c.in-Some.rest.now ++ c.in-Some.last.now ∷ [] = search rules in
    let units : c.args.units.items ≡ c.pop.new.self.items ++ c.in-Some-pop.unit ∷ [] = search rules in
    let long = ap length links ∙ length-append c.in-Some.rest.now (c.in-Some.last.now ∷ []) in
    let many = ap length units ∙ length-append c.pop.new.self.items (c.in-Some-pop.unit ∷ []) in
    let same = c.requires.units in
    let few = c.requires.few in (
      search rules,
      (
        search rules,
        (
          search rules,
          (
            omega (arith, long, many, same),
            (
              omega (arith, long, few),
              all_front IsFree c.in-Some.rest.now (c.in-Some.last.now ∷ []) (subst (All IsFree) links c.requires.free),
            ),
          ),
        ),
      ),
    )

pub returns-clause-run : goal.returns-clause-run
returns-clause-run g t c =
    let d = g.D.Device in
    let pulls : List (ℕ × ℕ) = c.args.pulls.now in
    let Run = RunsWith d.plan_of d.stands_for d.may_send pulls in
    let runs : AllZip (RunsWith d.plan_of d.stands_for d.may_send pulls) c.pop.new.self.items c.in_ok-workers.workers.items = search rules in
    let at : c.seated_at-worker.result.0.port ≡ length c.in-Some.rest.now = search rules in
    let due : c.in_ok-own.own.items ≡ pulls_at (length c.in-Some.rest.now) c.args.pulls.now = search rules in
    let ran : IsRun d.plan_of d.stands_for d.may_send c.in_ok-own.own.items c.in-Some-pop.unit c.seated_at-worker.result.0 = search rules in
    let mine : RunsWith d.plan_of d.stands_for d.may_send pulls c.in-Some-pop.unit c.seated_at-worker.result.0 =
    subst (λ l. IsRun d.plan_of d.stands_for d.may_send l c.in-Some-pop.unit c.seated_at-worker.result.0)
    (due ∙ ap (λ n. pulls_at n pulls) (sym at)) ran in
    let units : c.args.units.items ≡ c.pop.new.self.items ++ c.in-Some-pop.unit ∷ [] = search rules in
    if_ok c.with_last.result (λ s. s.0.items ≡ c.in_ok-workers.workers.items ++ c.seated_at-worker.result.0 ∷ [])
    (λ s. AllZip Run c.args.units.items s.0.items) c.with_last.ensures.workers
    (λ s is. rw (units, is) (zip_push Run _ _ _ _ runs mine))

pub returns-clause-ports : goal.returns-clause-ports
returns-clause-ports g t c =
    let units : c.args.units.items ≡ c.pop.new.self.items ++ c.in-Some-pop.unit ∷ [] = search rules in
    let links : c.args.links.now ≡ c.in-Some.rest.now ++ c.in-Some.last.now ∷ [] = search rules in
    let long = ap length links ∙ length-append c.in-Some.rest.now (c.in-Some.last.now ∷ []) in
    let many = ap length units ∙ length-append c.pop.new.self.items (c.in-Some-pop.unit ∷ []) in
    let same = c.requires.units in
    let count : length c.args.units.items ≡ length c.pop.new.self.items + 1 = omega (arith, many) in
    let before : map (λ w. w.port) c.in_ok-workers.workers.items ≡ first_ports (length c.pop.new.self.items) = search rules in
    let at : c.seated_at-worker.result.0.port ≡ length c.in-Some.rest.now = search rules in
    let here : c.seated_at-worker.result.0.port ≡ length c.pop.new.self.items = omega (arith, at, long, many, same) in
    if_ok c.with_last.result (λ s. s.0.items ≡ c.in_ok-workers.workers.items ++ c.seated_at-worker.result.0 ∷ [])
    (λ s. map (λ w. w.port) s.0.items ≡ first_ports (length c.args.units.items)) c.with_last.ensures.workers
    (λ s is. ap (map (λ w. w.port)) is
    ∙ ports_push (λ w. w.port) c.in_ok-workers.workers.items c.seated_at-worker.result.0 (length c.pop.new.self.items) before here
    ∙ ap first_ports (sym count))
