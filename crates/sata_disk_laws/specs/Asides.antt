-- FLUSH CACHE, what turns the write cache off, and DATA SET MANAGEMENT, over every run: each ends well only after the caller did what
-- was asked for since it was taken (ACS-3, 7.5 and 7.10).
use Rattle.std.specs.Prelude.{ℕ, ◌≡◌, true, false, List, [], ◌∷◌, ◌++◌, Option, None}
use Rattle.block_engine.specs.Aside as aside
use Rattle.block_engine.specs.{Aside.{AreSettled, AsideStep, aside_account, blank_aside}, Engine.{EngineState, line, none_engaged, place_of}}
use Rattle.block_engine.specs.{Laws.{Step, after_step}, declared.{aside.AsideStage.{AsideStage, TheVariants.Idle}, request.Answer.Answer}}
use Rattle.block_engine.specs.Laws as engine
use Rattle.block_engine.specs.declared.request.Answer.TheVariants as answers
use Rattle.disk_pages.specs.declared.profile.Profile.{Profile}
use Rattle.sata_disk.specs.State.{new_disk}
use Rattle.sata_disk_laws.specs.{Calls.{AreCalls, Call}, Laws.{reached, steps_in}}

-- an answer to what no place asked for is to the command beside the queue, or to a dropped discard
abbrev pub answer_aside : Option ℕ → ℕ → Answer → List AsideStep
answer_aside None number answers.Done = aside.Answers number true ∷ []
answer_aside None number (answers.Failed f) = aside.Answers number false ∷ []
answer_aside x number a = []

-- what a step does to the command beside the queue
abbrev pub aside_of : EngineState → Step → List AsideStep
aside_of e (engine.TakesAside k ranges) = aside.Takes ∷ []
aside_of e engine.AsksAside = aside.Asks (line e).queue.next ∷ []
aside_of e (engine.Answers number a) = answer_aside (place_of e number) number a
aside_of e engine.SendsAside = aside.Sends ∷ []
aside_of e engine.Resets = aside.Resets ∷ []
aside_of e s = []

unfoldable pub asides_of : EngineState → List Step → List AsideStep
asides_of e [] = []
asides_of e (s ∷ later) = aside_of e s ++ asides_of (after_step e s) later

unfoldable pub after_asides : AsideStage → List AsideStep → AsideStage
after_asides a [] = a
after_asides a (s ∷ later) = after_asides (aside.after_step a s) later

abbrev pub asides_in : Profile → (limit : ℕ) → List Call → List AsideStep
asides_in p limit calls = asides_of (none_engaged limit) (steps_in p limit calls)

-- The stage that decides which end goes is that of these steps, and in what they show each good end was earned.
pub record IsAsideRun (p : Profile) (limit : ℕ) (calls : List Call) : Type 0 where
  pub stage : (reached p limit calls).engine.stage ≡ after_asides Idle (asides_in p limit calls)
  pub earned : AreSettled blank_aside (aside_account Idle (asides_in p limit calls))

abbrev pub AsidesAreEarned : Type 0
AsidesAreEarned = (p : Profile) (limit : ℕ) (calls : List Call) → AreCalls (new_disk p limit) calls → IsAsideRun p limit calls
