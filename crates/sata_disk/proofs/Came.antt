-- Data that come for a command were asked for where something is next for it then, and nothing was before.
use Rattle.std.proofs.Common.{◌≡◌, ℕ, ◌-◌, ◌++◌, ◌≤◌, true, false, List, length, get_or, Some, None, refl, sym, ap, ◌∙◌, inl, inr}
use Rattle.std.proofs.{lemmas.{Bool.cases_lt, List.{get_or-set_same}}, Math.ListN.{get_or-eq_default}}
use Rattle.std.specs.{Prelude.{Option, Bool, not, nat_lt, ◌&&◌, if◌then◌else◌}, Option.option_map}
use Rattle.block_command.specs.{declared.command.{Command.Command, Stage.{Stage, TheVariants.{Receiving, Activate, Store, Fail}}}, Moments.Moment}
use Rattle.block_command.specs.{Moments.{chunk, part_len}, Laws.{Comes, after}}
use Rattle.block_command.proofs.Door.{at}
use Rattle.block_queue.specs.Line.{command_at}
use Rattle.block_engine.specs.Engine.{EngineState, line}
use Rattle.sata_disk.specs.Hearing.{came_for, receives, waits}

fails_or : (m : Moment) (bytes : List ℕ) (b d : Bool)
    → waits (Some (if b then record m { stage = Fail } else record m { bytes = bytes; stage = if d then Activate else Store })) ≡ false
fails_or m bytes true d = refl
fails_or m bytes false true = refl
fails_or m bytes false false = refl

one : (c : Command) (done : ℕ) (bytes : List ℕ) (sent : ℕ) (stage : Stage) (part : List ℕ)
    → receives (Some (at c done bytes sent stage)) ≡ (waits (Some (at c done bytes sent stage)) && not (waits (Some (after (at c done bytes sent stage) (Comes part)))))
one c done bytes sent Receiving part = sym (ap not (fails_or (at c done bytes sent Receiving) (bytes ++ part)
    (nat_lt (chunk c (part_len c done - length bytes)) (length part)) (nat_lt (length (bytes ++ part)) (part_len c done))))
one c done bytes sent stage part = refl

each : (x : Option Moment) (part : List ℕ) → receives x ≡ (waits x && not (waits (option_map (λ m. after m (Comes part)) x)))
each None part = refl
each (Some m) part = one m.command m.done m.bytes m.sent m.stage part

past : (xs : List (Option Moment)) (p : ℕ) (now : Bool) → length xs ≤ p → receives (get_or xs p None) ≡ (waits (get_or xs p None) && now)
past xs p now high = rw (get_or-eq_default xs None high) refl

pub asked_for : (e : EngineState) (p : ℕ) (part : List ℕ)
    → receives (command_at (line e) p) ≡ (waits (command_at (line e) p) && not (waits (command_at (line (came_for e p part)) p)))
asked_for e p part = elim (cases_lt p (length (line e).queue.table.places)) [
  | inl low ↦ rw (get_or-set_same (line e).queue.table.places p _ None low) (each (command_at (line e) p) part)
  | inr high ↦ past (line e).queue.table.places p _ high
]

pub told : (e new : EngineState) (p : ℕ) (part : List ℕ) (before now : Bool) → before ≡ waits (command_at (line e) p) → new ≡ came_for e p part
    → now ≡ waits (command_at (line new) p) → (before && not now) ≡ receives (command_at (line e) p)
told e new p part before now b n w =
    let after' : now ≡ waits (command_at (line (came_for e p part)) p) = w ∙ ap (λ x. waits (command_at (line x) p)) n in
    rw (b, after') (sym (asked_for e p part))
