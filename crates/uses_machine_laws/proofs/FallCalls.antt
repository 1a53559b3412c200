-- What each call is to the FISes on their way.
use Rattle.std.proofs.Common.{◌≡◌, ℕ, List, [], ◌∷◌, Result, Ok, Err, refl, subst}
use Rattle.std.specs.{Prelude.IfOk, declared.alloc.AllocError.AllocError}
use Rattle.multiplier.specs.declared.multiplier.Passed.{Passed}
use Rattle.ahci_controller.specs.declared.next.Next.TheVariants as next
use Rattle.ahci_machine.specs.{Acts.Steps, States.{HasRules, IsOpeningMachine, MachineState}, declared.act.Act.Act}
use Rattle.ahci_machine.specs.declared.act.Act.TheVariants as act
use Rattle.machine_laws.specs.{ControllerLaws.RunsRuled, Deeds.{Deed, Does, Moved}, Falling.{ArrivesAt, FramesGoWhereTheyShould}, Feeding.IsOrdered}
use Rattle.machine_laws.specs.Feeding.{OrdersAreIssued}
use Rattle.uses_machine_laws.specs.Falls.{FallsOn, Laws}

falls_on : Laws → (old : MachineState) (deeds : List Deed) (new : MachineState) → RunsRuled old deeds new → FallsOn old deeds new
falls_on laws old deeds new run = record {
  run = run;
  link = λ due lasts. laws.links old deeds new run due lasts;
  port = λ n lasts. laws.ports n old deeds new run lasts;
  data_to = λ dev small due came was. laws.read dev small old deeds new run due came was;
}

-- one call is a run
pub one : Laws → (old new : MachineState) (deed : Deed) → HasRules old → HasRules new → Does old deed new → FallsOn old (deed ∷ []) new
one laws old new deed rules rules_new does = falls_on laws old (deed ∷ []) new (rules, (new, does, (rules_new, refl)))

pub moved : Laws → (old new : MachineState) (told : Result Act AllocError) → HasRules old → HasRules new → IfOk told (λ a. Steps old a new) → IfOk told (λ a. FallsOn old (Moved a ∷ []) new)
moved laws old new (Ok a) rules rules_new step = one laws old new (Moved a) rules rules_new step
moved laws old new (Err e) rules rules_new step = tt

pub orders : OrdersAreIssued → (old new : MachineState) (told : Result Act AllocError) → HasRules old → IfOk told (λ a. Steps old a new)
    → (dev slot : ℕ) (fis : List ℕ) → told ≡ Ok (act.Turns (next.Order dev slot fis)) → IsOrdered old.controller dev slot fis
orders law old new told rules step dev slot fis is =
    law old dev slot fis new rules (subst (λ (r : Result Act AllocError). IfOk r (λ a. Steps old a new)) is step)

pub arrives : FramesGoWhereTheyShould → (old new : MachineState) (told : Result Act AllocError) → IfOk told (λ a. Steps old a new)
    → (went : Passed) → told ≡ Ok (act.Sends went) → ArrivesAt old.fan old.outgoing went
arrives law old new told step went is = law old went new (subst (λ (r : Result Act AllocError). IfOk r (λ a. Steps old a new)) is step)
