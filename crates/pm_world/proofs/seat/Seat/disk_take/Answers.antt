use Rattle.std.proofs.Common.{◌≡◌, Result, Ok, Err, true, sym, ◌∙◌, subst}
use Rattle.std.specs.{Prelude.OnErr, Result.is_err, declared.alloc.AllocError.AllocError}
use Rattle.pm_world.specs.{Places.Place, Rules.TakeWants, declared.step.StepError.TheVariants.OutOfMemory}
use Rattle.pm_world.proofs.steps.Doing.{wants_room}
use Rattle.pm_world.proofs.seat.Seat.disk_take.Goals as goal

-- what an error ensures
failed : {P : Type 0} (r : Result (Unit {0}) AllocError) → is_err r ≡ true → OnErr r P → P
failed (Ok u) e h = absurd (cc)
failed (Err x) e h = h

pub returns-then-is_err : goal.returns-then-is_err
returns-then-is_err g c =
    let error : is_err c.hear.result ≡ true = sym c.is_err.ensures.value ∙ c.if-is_err.true in
    let was : Place = record {
      unit = g.D.PortDevice.seen c.self.inside.unit;
      plugged = c.self.inside.plugged;
      conn = c.self.inside.conn;
      number = c.self.inside.number;
      up = c.self.inside.up;
      down = c.self.inside.down;
      presence = c.self.inside.presence;
    } in
    subst (λ (p : Place). TakeWants p OutOfMemory × ((let left : Place = record was { unit = g.D.PortDevice.seen c.hear.new.self; down = c.put_back.new.self } in left) ≡ p)) c.self.view_is
    (wants_room was (g.D.PortDevice.seen c.hear.new.self) c.put_back.new.self c.take.new.self c.in-Some.frame c.in-Some.ensures.first c.put_back.ensures
    (sym c.is_for-dropped.ensures ∙ c.if-not-dropped.true) (failed c.hear.result error c.hear.ensures.no_memory) (failed c.hear.result error c.hear.ensures.err))
