-- What each call is to the FISes of the devices.
use Rattle.std.proofs.Common.{List, [], ◌∷◌, Result, Ok, Err, refl}
use Rattle.std.specs.{Prelude.{IfOk, OnErr}, declared.alloc.AllocError.AllocError}
use Rattle.ahci_machine.specs.{Acts.{Asks, Moves, Steps, unlent}, States.{HasRules, MachineState}, declared.{act.Act.Act, request.Request.Request}}
use Rattle.machine_laws.specs.{ControllerLaws.RunsRuled, Deeds.{Deed, Does, Moved, Unlent}, Rising.GoesOnRising}
use Rattle.uses_machine_laws.proofs.Controller.{MoveRun, asked, steps}
use Rattle.uses_machine_laws.specs.Risen.{KeepsRising, MovesRising}

keeps : GoesOnRising → (old : MachineState) (deeds : List Deed) (new : MachineState) → RunsRuled old deeds new → KeepsRising old deeds new
keeps law old deeds new run = record { run = run; risen = λ was risen. law old deeds new run was risen }

-- one call is a run
pub rises : GoesOnRising → (old new : MachineState) (deed : Deed) → HasRules old → HasRules new → Does old deed new → KeepsRising old (deed ∷ []) new
rises law old new deed rules rules_new does = keeps law old (deed ∷ []) new (rules, (new, does, (rules_new, refl)))

pub moved : GoesOnRising → (old new : MachineState) (told : Result Act AllocError) → HasRules old → HasRules new → IfOk told (λ a. Steps old a new) → IfOk told (λ a. KeepsRising old (Moved a ∷ []) new)
moved law old new (Ok a) rules rules_new step = rises law old new (Moved a) rules rules_new step
moved law old new (Err e) rules rules_new step = tt

pub asks : GoesOnRising → (old new : MachineState) (told : Result Request AllocError) → HasRules old → HasRules new → IfOk told (λ request. Asks (unlent old) request new) → OnErr told (Moves (unlent old) new) → MovesRising old new
asks law old new told rules rules_new ok err = by told ok err
  where
    unlent_rules : HasRules (unlent old)
    unlent_rules = record { port = rules.port; slots = rules.slots; rules = rules.rules }

    with_run : MoveRun (unlent old) new → MovesRising old new
    with_run r = record { deeds = r.deeds; moves = r.moves; keeps = keeps law old (Unlent ∷ r.deeds) new (rules, (unlent old, refl, r.run)) }

    by : (t : Result Request AllocError) → IfOk t (λ request. Asks (unlent old) request new) → OnErr t (Moves (unlent old) new) → MovesRising old new
    by (Ok request) is other = with_run (asked (unlent old) request new unlent_rules rules_new is)
    by (Err e) is other = with_run (steps other.count (unlent old) new unlent_rules other.steps)
