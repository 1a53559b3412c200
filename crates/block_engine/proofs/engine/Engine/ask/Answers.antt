use Rattle.std.proofs.Common.{refl}
use Rattle.block_disk.specs.Requests.{with_asked}
use Rattle.block_queue.specs.Line.{with_queue}
use Rattle.block_engine.specs.Numbers.{AreNumbered}
use Rattle.block_engine.proofs.{Holders.asked_line, engine.Engine.ask.Goals.{in-None, in-Some}}
use Rattle.block_engine.proofs.engine.Engine.ask.Goals as goal

pub invariant_of-self-2 : goal.invariant_of-self-2
invariant_of-self-2 c =
    let l = c.match-get.self-inside.scheduler.line in
    let are : AreNumbered l c.match-get.self-inside.stage c.match-get.self-inside.dropped =
    elim c.match-get.branch [ in-None w ↦ rw w.self-inside-is c.self.invariant | in-Some w ↦ rw w.self-inside-is c.self.invariant ] in
    rw c.in_ok-number.ensures.asked (asked_line l (with_queue l (with_asked l.queue c.args.place)) c.args.place c.match-get.self-inside.stage
    c.match-get.self-inside.dropped refl refl refl are)
