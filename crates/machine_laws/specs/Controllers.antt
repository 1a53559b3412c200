-- The controller of a machine goes by its own calls alone (AHCI 1.3.1, 3, 4.2, 5.3 and 9.3, and `controller_laws` for what they are).
use Rattle.std.proofs.Common.{inl, inr}
use Rattle.std.specs.Prelude.{◌≡◌, ℕ, ◌+◌, ◌==◌, Bool, true, false, List, [], ◌∷◌, length, Option, Some, None, IfSome, MatchOption, Result, Ok, Err}
use Rattle.std.specs.{Bool.MatchBool, declared.alloc.AllocError.AllocError}
use Rattle.fis_view.specs.Frames.{Stamped}
use Rattle.hba_fbs.specs.declared.turn.Turn.{Turn, TheVariants.Feeds}
use Rattle.ahci_controller.specs.{Next.{is_fed, turn_to}, States.ControllerState, declared.{next.Next.Next, taking.Hindrance.Hindrance}}
use Rattle.ahci_controller.specs.declared.next.Next.TheVariants as next
use Rattle.controller_laws.specs.Events as call
use Rattle.controller_laws.specs.Events.{Event}
use Rattle.ahci_machine.specs.Acts as acts
use Rattle.ahci_machine.specs.{Acts.RestsNow, Answers.{IsStale, MissesFor, MissesMachine, SuppliesMachine, is_wanted}, Gathers.GatheringState}
use Rattle.ahci_machine.specs.{States.{HasRules, IsOpeningMachine, MachineState, gathering_at}, declared.{act.Act.Act, answers.Told.Told}}
use Rattle.ahci_machine.specs.declared.request.Wanted.{Wanted, TheVariants.{Command, Data}}
use Rattle.ahci_machine.specs.declared.act.Act.TheVariants as act
use Rattle.machine_laws.specs.Deeds.{Deed, Does, Moved, Wrote, Supplied, Missed}

-- ---- what a deed is to the controller

-- it is asked what is next, or nothing is done
abbrev pub rest_calls : (old new : MachineState) → RestsNow old new → List Event
rest_calls old new (inl same) = []
rest_calls old new (inr turns) = call.Turned next.Nothing ∷ []

-- a frame that is lost is not taken
abbrev pub lost_calls : Option Stamped → Hindrance → List Event
lost_calls None why = []
lost_calls (Some frame) why = call.Left frame.bytes why ∷ []

abbrev pub move_calls : (old : MachineState) → (act : Act) → (new : MachineState) → acts.Does old act new → List Event
move_calls old act.Rests new does = rest_calls old new does
move_calls old (act.Writes write) new does = call.Said (Some write) ∷ []
move_calls old act.LetsGo new does = call.Said None ∷ []
move_calls old (act.Turns said) new does = call.Turned said ∷ []
move_calls old (act.Gathers dev answer) new does = call.Gathered dev does.gathering.feed.number does.gathering.bytes answer ∷ []
move_calls old (act.Misses slot answer) new does = call.NotThere does.gathering.feed.dev does.gathering.feed.number answer ∷ []
move_calls old (act.Takes took) new does = call.Took does.frame.bytes took ∷ []
move_calls old (act.Loses why) new does = lost_calls old.incoming why
move_calls old act new does = []

-- bytes of a command come; those of Data for a device are no call
abbrev pub supply_calls : (wanted : Wanted) → (bytes : List ℕ) → (old : MachineState) → (answer : Result Told AllocError) → (new : MachineState)
    → SuppliesMachine wanted bytes old answer new → List Event
supply_calls (Command slot number) bytes old answer new supplies = call.Supplied slot number bytes supplies.answer ∷ []
supply_calls (Data dev number done) bytes old answer new supplies = []

abbrev pub data_calls : (wanted : Bool) → (there : Option GatheringState) → (dev : ℕ) → (old : MachineState) → (it : Told) → (new : MachineState)
    → MatchBool wanted (MatchOption there ⊥ (λ g. MissesFor g dev old it new)) (IsStale old it new) → List Event
data_calls true None dev old it new misses = []
data_calls true (Some g) dev old it new misses = call.NotThere g.feed.dev g.feed.number misses.answer ∷ []
data_calls false there dev old it new stale = []

-- or are no memory
abbrev pub miss_calls : (wanted : Wanted) → (old : MachineState) → (answer : Result Told AllocError) → (new : MachineState)
    → MissesMachine wanted old answer new → List Event
miss_calls (Command slot number) old answer new misses = call.Missed slot number misses.answer ∷ []
miss_calls (Data dev number done) old (Ok it) new misses =
    data_calls (is_wanted old dev number done) (gathering_at old dev) dev old it new misses
miss_calls (Data dev number done) old (Err e) new misses = []

abbrev pub deed_calls : (old : MachineState) → (deed : Deed) → (new : MachineState) → Does old deed new → List Event
deed_calls old (Moved act) new does = move_calls old act does.middle does.does
deed_calls old (Wrote offset width value written) new does = call.WroteWide offset width value written ∷ []
deed_calls old (Supplied wanted bytes) new does = supply_calls wanted bytes old does.answer new does.supplies
deed_calls old (Missed wanted) new does = miss_calls wanted old does.answer new does.misses
deed_calls old deed new does = []

-- ---- the bytes that are due

-- as many bytes as go next to a device, if any do
abbrev pub IsLength : Turn → ℕ → Type 0
IsLength (Feeds dev slot offset len) count = count ≡ len
IsLength turn count = Unit {0}

-- while the controller waits for the bytes of this want, it waits for so many
abbrev pub AreDue : ControllerState → (dev number count : ℕ) → Type 0
AreDue c dev number count = is_fed c.wants dev number ≡ true → IsLength (turn_to c dev) count

-- what it says to do next are such bytes
abbrev pub SaysDue : ControllerState → Next → Type 0
SaysDue c (next.Feed dev number slot offset len) = AreDue c dev number len
SaysDue c said = Unit {0}

abbrev pub is_feed_to : (dev : ℕ) → Next → Bool
is_feed_to dev (next.Feed to number slot offset len) = to == dev
is_feed_to dev said = false

abbrev pub is_kept_for : (dev : ℕ) → Option Next → Bool
is_kept_for dev None = false
is_kept_for dev (Some said) = is_feed_to dev said

-- The FIS that is gathered for a device has its head and as many bytes as are due, unless others are to be gathered from now on.
pub record IsGathered (c : ControllerState) (kept : Option Next) (dev : ℕ) (g : GatheringState) : Type 0 where
  pub own : g.feed.dev ≡ dev
  pub whole : length g.bytes ≡ 4 + g.feed.len
  pub due : is_kept_for dev kept ≡ false → AreDue c dev g.feed.number g.feed.len

pub record GathersDue (m : MachineState) : Type 0 where
  pub kept : IfSome m.kept (SaysDue m.controller)
  pub gathering : (dev : ℕ) → IfSome (gathering_at m dev) (IsGathered m.controller m.kept dev)

-- ---- the laws

-- a machine that opens gathers nothing
abbrev pub OpensDue : Type 0
OpensDue = (ports : ℕ) (legacy : Bool) (m : MachineState) → IsOpeningMachine ports legacy m → GathersDue m

-- and whatever happens to a machine, what it gathers is due
abbrev pub StaysDue : Type 0
StaysDue = (old : MachineState) (deed : Deed) (new : MachineState) → Does old deed new → GathersDue old → GathersDue new

-- Whatever happens to a machine is to its controller a list of the controller's own calls, in order.
abbrev pub ControllerGoesOn : Type 0
ControllerGoesOn = (old : MachineState) (deed : Deed) (new : MachineState) (does : Does old deed new) → HasRules old → HasRules new
    → GathersDue old → call.Runs old.controller (deed_calls old deed new does) new.controller
