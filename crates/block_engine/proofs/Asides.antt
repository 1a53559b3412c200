-- The end of a command beside the queue is earned: at each stage the book is a function of the stage.
use Rattle.std.proofs.Common.{◌≡◌, ℕ, true, false, List, [], ◌∷◌, Some, None, refl, sym, subst}
use Rattle.std.specs.Prelude.{Bool, Option, ◌==◌, if◌then◌else◌}
use Rattle.block_engine.specs.{declared.aside.AsideStage.{AsideStage, TheVariants.{Idle, Waiting, Asked, Done, Failed}}, Aside.{AsideStep, Takes}}
use Rattle.block_engine.specs.Aside.{Asks, Answers, Sends, Resets, after_answer, after_step, settled, step_shown, aside_account, AsideBook}
use Rattle.block_engine.specs.Aside.{blank_aside, book_answered, aside_entered, IsSettled, AreSettled, AsidesAreEarned}

-- what the book says at a stage
abbrev pub Books : AsideStage → AsideBook → Type 0
Books Idle b = Unit {0}
Books Waiting b = b.out ≡ None
Books (Asked number) b = b.out ≡ Some number
Books Done b = (b.out ≡ None) × (b.well ≡ true)
Books Failed b = b.out ≡ None

-- an answer to nothing
none_out : (b : AsideBook) (out : Option ℕ) (number : ℕ) (well : Bool) → out ≡ None → book_answered out number well b ≡ b
none_out b None number well e = refl
none_out b (Some n) number well e = absurd (cc)

asked_case : (b : AsideBook) (n : ℕ) (same well : Bool) → b.out ≡ Some n
    → Books (if same then settled well else Asked n) (if same then record { out = None; well = well } else b)
asked_case b n true true e = (refl, refl)
asked_case b n true false e = refl
asked_case b n false well e = e

asked_out : (b : AsideBook) (n number : ℕ) (well : Bool) → b.out ≡ Some n
    → Books (after_answer (Asked n) number well) (book_answered b.out number well b)
asked_out b n number well e =
    subst (λ out. Books (after_answer (Asked n) number well) (book_answered out number well b)) (sym e)
    (asked_case b n (n == number) well e)

step : (stage : AsideStage) (s : AsideStep) (b : AsideBook) → Books stage b
    → IsSettled b (step_shown stage s) × Books (after_step stage s) (aside_entered b (step_shown stage s))
step Idle Takes b k = (tt, refl)
step Idle (Asks number) b k = (tt, tt)
step Idle (Answers number well) b k = (tt, tt)
step Idle Sends b k = (tt, tt)
step Waiting Takes b k = (tt, k)
step Waiting (Asks number) b k = (tt, refl)
step Waiting (Answers number well) b k = (tt, rw (none_out b b.out number well k) k)
step Waiting Sends b k = (tt, k)
step (Asked n) Takes b k = (tt, k)
step (Asked n) (Asks number) b k = (tt, k)
step (Asked n) (Answers number well) b k = (tt, asked_out b n number well k)
step (Asked n) Sends b k = (tt, k)
step Done Takes b k = (tt, k)
step Done (Asks number) b k = (tt, k)
step Done (Answers number well) b k = (tt, rw (none_out b b.out number well k.0) k)
step Done Sends b k = (k.1, tt)
step Failed Takes b k = (tt, k)
step Failed (Asks number) b k = (tt, k)
step Failed (Answers number well) b k = (tt, rw (none_out b b.out number well k) k)
step Failed Sends b k = (tt, tt)
step stage Resets b k = (tt, tt)

runs : (steps : List AsideStep) (stage : AsideStage) (b : AsideBook) → Books stage b → AreSettled b (aside_account stage steps)
unfolding aside_account
runs [] stage b k = tt
runs (s ∷ later) stage b k =
    let now = step stage s b k in
    (now.0, runs later (after_step stage s) (aside_entered b (step_shown stage s)) now.1)

pub asides_are_earned : AsidesAreEarned
asides_are_earned steps = runs steps Idle blank_aside tt
