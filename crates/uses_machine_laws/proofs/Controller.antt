-- What each call is to the controller.
use Rattle.std.proofs.Common.{◌≡◌, ℕ, zero, suc, Bool, false, List, [], ◌∷◌, ◌++◌, Option, None, Result, Ok, Err, refl, sym, subst, inl, inr}
use Rattle.std.specs.{Prelude.{IfOk, OnErr}, declared.alloc.AllocError.AllocError}
use Rattle.slots.specs.Table.{IsTable}
use Rattle.hba_fbs.specs.Views.{IsCorePort}
use Rattle.ahci_controller.specs.{Next.next_write, Rules.IsRuled, declared.next.Next.Next}
use Rattle.controller_laws.specs.Interrupts.{line_shown}
use Rattle.ahci_machine.specs.{Acts.{Asks, Moves, Steps, StepsBy, budget, unlent}, States.{HasRules, MachineState}, declared.act.Act.Act}
use Rattle.ahci_machine.specs.{declared.request.Request.Request, Registers.lent_bytes}
use Rattle.ahci_machine.specs.declared.act.Act.TheVariants as act
use Rattle.machine_laws.specs.{ControllerLaws.{ControllerRuns, LinesAreShown, RunsRuled, TurnsWriteNothing, WritesArePlaced, WritesRightly, is_write}, Lent.FramesAreLent}
use Rattle.machine_laws.specs.{Lent.{HoldsFrame, Lends}, Deeds.{Deed, Does, Moved, Unlent}}
use Rattle.uses_machine_laws.specs.Kept.{AreMoves, KeepsLaws, KeepsMoves, Laws}

pub ruled : (m : MachineState) → IsCorePort m.controller.core → IsTable m.controller.core.slots → IsRuled m.controller → HasRules m
ruled m port slots rules = record { port = port; slots = slots; rules = rules }

lawful : Laws → (old : MachineState) (deeds : List Deed) (new : MachineState) → RunsRuled old deeds new → KeepsLaws old deeds new
lawful laws old deeds new run = record {
  run = run;
  lawful = λ due.
      let runs : ControllerRuns old deeds new run = laws.runs old deeds new run due in
      record { runs = runs; laws = laws.have old deeds new run runs };
  held = λ last holds. laws.held old deeds new run last holds;
}

-- one call is a run
pub one : Laws → (old new : MachineState) (deed : Deed) → HasRules old → HasRules new → Does old deed new → KeepsLaws old (deed ∷ []) new
one laws old new deed rules rules_new does = lawful laws old (deed ∷ []) new (rules, (new, does, (rules_new, refl)))

pub moved : Laws → (old new : MachineState) (told : Result Act AllocError) → HasRules old → HasRules new → IfOk told (λ a. Steps old a new) → IfOk told (λ a. KeepsLaws old (Moved a ∷ []) new)
moved laws old new (Ok a) rules rules_new step = one laws old new (Moved a) rules rules_new step
moved laws old new (Err e) rules rules_new step = tt

pub writes : WritesArePlaced → (old new : MachineState) (told : Result Act AllocError) → IfOk told (λ a. Steps old a new) → (write : Next) → told ≡ Ok (act.Writes write) → WritesRightly old write new
writes law old new told step write is = law old write new (subst (λ (r : Result Act AllocError). IfOk r (λ a. Steps old a new)) is step)

pub lent : FramesAreLent → (old new : MachineState) (told : Result Act AllocError) → IfOk told (λ a. Steps old a new) → (write : Next) → told ≡ Ok (act.Writes write) → (last : Option (List ℕ)) → HoldsFrame old last → Lends write last (lent_bytes new)
lent law old new told step write is last holds = law old write new (subst (λ (r : Result Act AllocError). IfOk r (λ a. Steps old a new)) is step) last holds

pub line : LinesAreShown → (old new : MachineState) (told : Result Act AllocError) → IfOk told (λ a. Steps old a new) → (l : Bool) → told ≡ Ok (act.Line l)
    → (l ≡ line_shown new.controller) × (next_write new.controller ≡ None)
line law old new told step l is = law old l new (subst (λ (r : Result Act AllocError). IfOk r (λ a. Steps old a new)) is step)

pub turns : TurnsWriteNothing → (old new : MachineState) (told : Result Act AllocError) → IfOk told (λ a. Steps old a new) → (said : Next) → told ≡ Ok (act.Turns said)
    → is_write said ≡ false
turns law old new told step said is = law old said new (subst (λ (r : Result Act AllocError). IfOk r (λ a. Steps old a new)) is step)

-- ---- moves one after another

pub record MoveRun (old new : MachineState) : Type 0 where
  pub deeds : List Deed
  pub moves : AreMoves deeds
  pub run : RunsRuled old deeds new
  pub rules : HasRules new

then_moved : (deeds : List Deed) (old middle new : MachineState) (a : Act) → RunsRuled old deeds middle → Steps middle a new → HasRules new → RunsRuled old (deeds ++ Moved a ∷ []) new
then_moved [] old middle new a run step rules = (run.0, (new, subst (λ (m : MachineState). Steps m a new) run.1 step, (rules, refl)))
then_moved (deed ∷ later) old middle new a run step rules = (run.0, (run.1.0, run.1.1, then_moved later run.1.0 middle new a run.1.2 step rules))

more_moves : (deeds : List Deed) (a : Act) → AreMoves deeds → AreMoves (deeds ++ Moved a ∷ [])
more_moves [] a moves = tt
more_moves (Moved b ∷ later) a moves = more_moves later a moves
more_moves (deed ∷ later) a moves = absurd moves

one_more : (old middle new : MachineState) (a : Act) → MoveRun old middle → Steps middle a new → HasRules new → MoveRun old new
one_more old middle new a r step rules = record {
  deeds = r.deeds ++ Moved a ∷ [];
  moves = more_moves r.deeds a r.moves;
  run = then_moved r.deeds old middle new a r.run step rules;
  rules = rules;
}

pub steps : (count : ℕ) (old new : MachineState) → HasRules old → StepsBy count old new → MoveRun old new
unfolding StepsBy
steps zero old new rules is = record { deeds = []; moves = tt; run = (rules, is); rules = subst HasRules (sym is) rules }
steps (suc count) old new rules is = one_more old is.middle new is.act (steps count old is.middle rules is.before) is.last is.rules

pub asked : (old : MachineState) (request : Request) (new : MachineState) → HasRules old → HasRules new → Asks old request new → MoveRun old new
asked old request new rules rules_new (inl h) = one_more old h.middle new h.act (steps h.quiet.count old h.middle rules h.quiet.steps) h.last rules_new
asked old request new rules rules_new (inr h) = steps budget old new rules h.1

pub asks : Laws → (old new : MachineState) (told : Result Request AllocError) → HasRules old → HasRules new → IfOk told (λ request. Asks (unlent old) request new) → OnErr told (Moves (unlent old) new) → KeepsMoves old new
asks laws old new told rules rules_new ok err = by told ok err
  where
    unlent_rules : HasRules (unlent old)
    unlent_rules = record { port = rules.port; slots = rules.slots; rules = rules.rules }

    with_run : MoveRun (unlent old) new → KeepsMoves old new
    with_run r = record { deeds = r.deeds; moves = r.moves; keeps = lawful laws old (Unlent ∷ r.deeds) new (rules, (unlent old, refl, r.run)) }

    by : (t : Result Request AllocError) → IfOk t (λ request. Asks (unlent old) request new) → OnErr t (Moves (unlent old) new) → KeepsMoves old new
    by (Ok request) is other = with_run (asked (unlent old) request new unlent_rules rules_new is)
    by (Err e) is other = with_run (steps other.count (unlent old) new unlent_rules other.steps)
