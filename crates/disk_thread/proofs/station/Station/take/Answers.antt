use Rattle.std.proofs.Common.{rules, ◌≡◌, ◌++◌, ◌∷◌, [], true, false, refl, sym, subst}
use Rattle.std.specs.Prelude.{◌==◌}
use Rattle.disk_model.specs.Histories.{GoesOn, Received}
use Rattle.disk_thread.specs.Runs.{IsRun}
use Rattle.disk_thread.proofs.DeedLemmas.{run_heard, run_unheard}
use Rattle.disk_thread.proofs.station.Station.take.Goals.{else-stamp-self-via-then-stamp-self+else-is_err-2, else-stamp-self-via-else-stamp-self}
use Rattle.disk_thread.proofs.station.Station.take.Goals as goal

pub returns-clause-run : goal.returns-clause-run
returns-clause-run g c due opening r =
    let d = g.D.Device in
    let f = c.in-Some.frame in
    let Run = IsRun d.plan_of d.stands_for d.may_send due opening in
    let was : Run _ = subst Run (sym c.self.view_is) r in
    let in_place : c.self.inside.plugged ≡ true = search rules in
    let taken : c.take.new.self.taken ≡ c.self.inside.commands.taken ++ f ∷ [] = search rules in
    elim c.else-stamp-self.branch [
      | else-stamp-self-via-then-stamp-self+else-is_err-2 w ↦
          let ok : GoesOn d.plan_of d.stands_for c.self.inside.unit (Received f.bytes) w.hear.new.unit = search rules in
          let of_conn : (f.stamp.conn == c.self.inside.conn) ≡ true = search rules in
          rw w.self-is (run_heard d.plan_of d.stands_for d.may_send due opening _ _ f ok in_place of_conn refl refl taken refl refl refl was)
      | else-stamp-self-via-else-stamp-self w ↦
          let of_conn : (f.stamp.conn == c.self.inside.conn) ≡ false = search rules in
          rw w.self-is (run_unheard d.plan_of d.stands_for d.may_send due opening _ _ f refl in_place of_conn refl refl taken refl refl refl was)
    ]
