-- A command beside the queue: its stages, its runs, and when its end is earned.
use Rattle.std.specs.Prelude.{ℕ, ◌≡◌, ◌==◌, Bool, true, false, List, [], ◌∷◌, Option, Some, None, if◌then◌else◌}
use Rattle.block_engine.specs.declared.aside.AsideStage.{AsideStage, TheVariants.{Idle, Waiting, Asked, Done, Failed}}

-- whether it is to ask
abbrev pub is_waiting : AsideStage → Bool
is_waiting Waiting = true
is_waiting _ = false

-- whether its end or its error is next
abbrev pub is_over : AsideStage → Bool
is_over Done = true
is_over Failed = true
is_over _ = false

-- whether its request has this number, and is not answered
abbrev pub asks_for : AsideStage → ℕ → Bool
asks_for (Asked asked) number = asked == number
asks_for _ number = false

abbrev pub settled : Bool → AsideStage
settled well = if well then Done else Failed

abbrev pub after_take : AsideStage → AsideStage
after_take Idle = Waiting
after_take a = a

abbrev pub after_ask : AsideStage → ℕ → AsideStage
after_ask Waiting number = Asked number
after_ask a number = a

abbrev pub after_answer : AsideStage → (number : ℕ) → (well : Bool) → AsideStage
after_answer a number well = if asks_for a number then settled well else a

abbrev pub after_send : AsideStage → AsideStage
after_send a = if is_over a then Idle else a

-- ## Runs

-- what can be done with it
pub data AsideStep : Type 0 where
  Takes : AsideStep
  Asks : ℕ → AsideStep
  Answers : (number : ℕ) → (well : Bool) → AsideStep
  Sends : AsideStep
  Resets : AsideStep

abbrev pub after_step : AsideStage → AsideStep → AsideStage
after_step a Takes = after_take a
after_step a (Asks number) = after_ask a number
after_step a (Answers number well) = after_answer a number well
after_step a Sends = after_send a
after_step a Resets = Idle

-- what a run shows
pub data AsideShown : Type 0 where
  Unseen : AsideShown
  Took : AsideShown
  AskedFor : ℕ → AsideShown
  AnsweredAs : (number : ℕ) → (well : Bool) → AsideShown
  SentEnd : AsideShown
  SentError : AsideShown
  Gone : AsideShown

abbrev pub take_shown : AsideStage → AsideShown
take_shown Idle = Took
take_shown _ = Unseen

abbrev pub ask_shown : AsideStage → ℕ → AsideShown
ask_shown Waiting number = AskedFor number
ask_shown _ number = Unseen

abbrev pub send_shown : AsideStage → AsideShown
send_shown Done = SentEnd
send_shown Failed = SentError
send_shown _ = Unseen

abbrev pub step_shown : AsideStage → AsideStep → AsideShown
step_shown a Takes = take_shown a
step_shown a (Asks number) = ask_shown a number
step_shown a (Answers number well) = AnsweredAs number well
step_shown a Sends = send_shown a
step_shown a Resets = Gone

unfoldable pub aside_account : AsideStage → List AsideStep → List AsideShown
aside_account a [] = []
aside_account a (s ∷ later) = step_shown a s ∷ aside_account (after_step a s) later

-- ## The book: the request that is out since the command was taken, and whether it was answered well

pub record AsideBook : Type 0 where
  pub out : Option ℕ
  pub well : Bool

abbrev pub blank_aside : AsideBook
blank_aside = record { out = None; well = false }

abbrev pub book_answered : Option ℕ → ℕ → Bool → AsideBook → AsideBook
book_answered None number well b = b
book_answered (Some asked) number well b = if asked == number then record { out = None; well = well } else b

abbrev pub aside_entered : AsideBook → AsideShown → AsideBook
aside_entered b Took = blank_aside
aside_entered b (AskedFor number) = record { out = Some number; well = false }
aside_entered b (AnsweredAs number well) = book_answered b.out number well b
aside_entered b Gone = blank_aside
aside_entered b _ = b

-- its end goes only after the caller answered, well, what was asked for since it was taken
abbrev pub IsSettled : AsideBook → AsideShown → Type 0
IsSettled b SentEnd = b.well ≡ true
IsSettled b _ = Unit {0}

abbrev pub AreSettled : AsideBook → List AsideShown → Type 0
AreSettled b [] = Unit {0}
AreSettled b (s ∷ later) = IsSettled b s × AreSettled (aside_entered b s) later

abbrev pub AsidesAreEarned : Type 0
AsidesAreEarned = (steps : List AsideStep) → AreSettled blank_aside (aside_account Idle steps)
