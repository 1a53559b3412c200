-- What the caller is asked for lies within the sectors of the disk.
use Rattle.std.proofs.Common.{ℕ, ◌+◌, ◌≤◌, List, Some, None, sym, subst, arith}
use Rattle.std.specs.Prelude.{Option, IfSome}
use Rattle.block_command.specs.{declared.command.{Command.Command, Stage.{Stage, TheVariants.{Load, Store}}}, Moments.{Moment, part_count, turn_of}}
use Rattle.block_command.proofs.Door.{at}
use Rattle.block_queue.specs.Line.{command_at}
use Rattle.block_engine.specs.{declared.{aside.AsideKind.AsideKind, request.{Request.Request, What.What}}, Engine.{EngineState, IsAskedOf}}
use Rattle.block_engine.specs.Engine.{IsRequested, aside_what, line, what_at, what_of}
use Rattle.block_engine.specs.declared.aside.AsideKind.TheVariants as kinds
use Rattle.sata_disk.specs.State.{AreWithin, AsksWithin, LiesWithin}
use Rattle.sata_disk.proofs.Within.{part_ends}

part_within : (c : Command) (done n : ℕ) → done ≤ c.count → c.lba + c.count ≤ n → c.lba + done + part_count c done ≤ n
part_within c done n ends lies = let all = part_ends c done ends in omega (arith, all, lies)

stage_within : (n : ℕ) (c : Command) (done : ℕ) (bytes : List ℕ) (sent : ℕ) (stage : Stage) → done ≤ c.count → c.lba + c.count ≤ n
    → AsksWithin n (what_of (at c done bytes sent stage) (turn_of stage))
stage_within n c done bytes sent Load ends lies = part_within c done n ends lies
stage_within n c done bytes sent Store ends lies = part_within c done n ends lies
stage_within n c done bytes sent other ends lies = tt

place_within : (n : ℕ) (x : Option Moment) → LiesWithin n x → AsksWithin n (what_at x)
place_within n None lies = tt
place_within n (Some m) lies = stage_within n m.command m.done m.bytes m.sent m.stage lies.0 lies.1

aside_within : (n : ℕ) (k : AsideKind) → AsksWithin n (aside_what k)
aside_within n kinds.Flush = tt
aside_within n kinds.Discard = tt

asked_within : (n : ℕ) (old new : EngineState) (r : Request) (place : Option ℕ) → AreWithin n old → IsAskedOf old new r place → AsksWithin n r.what
asked_within n old new r None within asked =
    let P : What → Type 0 = λ w. AsksWithin n w in subst P (sym asked.3) (aside_within n old.kind)
asked_within n old new r (Some p) within asked =
    let P : What → Type 0 = λ w. AsksWithin n w in
    subst P (sym asked.2) (place_within n (command_at (line old) p) (within.commands p asked.0.below))

pub request_within : (n : ℕ) (old new : EngineState) (r : Option Request) → AreWithin n old → IsRequested old new r
    → IfSome r (λ request. AsksWithin n request.what)
request_within n old new None within asked = tt
request_within n old new (Some r) within asked = asked_within n old new r r.place within asked.1
