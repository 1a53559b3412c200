use Rattle.std.proofs.Common.{rules, ◌≡◌, ◌<◌, ◌≤◌, true, None, length, get_or, refl, sym, subst}
use Rattle.std.specs.List.{remove}
use Rattle.disk_thread.specs.Runs.{IsRun}
use Rattle.disk_thread.proofs.DeedLemmas.{run_pulled}
use Rattle.disk_thread.proofs.station.Station.pull.Goals as goal

pub returns-clause-run : goal.returns-clause-run
returns-clause-run g c due opening r =
    let d = g.D.Device in
    let in_place : c.self.inside.plugged ≡ true = search rules in
    let empty : c.self.inside.note ≡ None = search rules in
    let there : c.in-Some.i < length c.self.inside.pulls.items = search rules in
    let late : get_or c.self.inside.pulls.items c.in-Some.i 0 ≤ c.self.inside.given = search rules in
    let left : c.remove.new.self.items ≡ remove c.self.inside.pulls.items c.in-Some.i = search rules in
    run_pulled d.plan_of d.stands_for d.may_send due opening _ _ refl in_place refl refl refl refl refl empty refl
    c.in-Some.i 0 there (rw (sym c.self.invariant.3) late) left
    (subst (IsRun d.plan_of d.stands_for d.may_send due opening) (sym c.self.view_is) r)
