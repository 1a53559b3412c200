-- What each move of a machine is. Each one is a call of one part, by that part's own rule, or two of the frames' ways meet; the other
-- parts stay (AHCI 1.3.1, 5.3, a port's state machine; Serial ATA 3.x, 16.3, frame transmission by a port multiplier).
use Rattle.std.specs.Prelude.{◌≡◌, ◌≢◌, ◌⊎◌, ◌||◌, ℕ, zero, suc, nat_lt, length, Bool, true, false, if◌then◌else◌, List, slice_set, Option, Some}
use Rattle.std.specs.{Prelude.{None, is_some, Ok, MatchOption}, Int.{to_le_bytes, w32}}
use Rattle.fis_view.specs.Frames.{IsFrame, Stamped}
use Rattle.multiplier.specs.declared.multiplier.Passed.{Passed}
use Rattle.ahci_controller.specs.{Feeding.{Gathers, MissesData}, Latch.raised, Next.{Turns, next_write, written}, States.ControllerState}
use Rattle.ahci_controller.specs.{Taking.{Hears, hindrance, is_any}, declared.{feeding.Fed.Fed, next.Next.Next, taking.{Hindrance.Hindrance, Took.Took}}}
use Rattle.ahci_controller.specs.declared.feeding.Fed.TheVariants as fed
use Rattle.ahci_controller.specs.declared.next.Next.TheVariants as next
use Rattle.ahci_controller.specs.declared.taking.Hindrance.TheVariants as hindered
use Rattle.fan_out.specs.FanOuts.{GivesUpThere, Sends, Tells}
use Rattle.ahci_machine.specs.{Asked.request_of, Bays.{BayDoes, begun}, Gathers.{Awaits, GatheringState, asked_for, frame_of, host_stamp}}
use Rattle.ahci_machine.specs.{Gathers.opening_gathering, States.{HasRules, MachineState, bay_at, gathering_at}, declared.{act.Act.Act, bay.Bay.Bay}}
use Rattle.ahci_machine.specs.declared.{gathering.{Feed.Feed, Waits.Waits}, machine.Lent.Lent, request.{GuestRead.GuestRead, Request.Request}}
use Rattle.ahci_machine.specs.declared.act.Act.TheVariants as act
use Rattle.ahci_machine.specs.declared.gathering.Waits.TheVariants as waits
use Rattle.ahci_machine.specs.declared.machine.Lent.TheVariants as lent
use Rattle.ahci_machine.specs.declared.request.Request.TheVariants as request

-- ---- the controller

abbrev pub with_controller : MachineState → ControllerState → MachineState
with_controller m c = record m { controller = c }

-- a call of the controller alone
abbrev pub Controls : (ControllerState → ControllerState → Type 0) → MachineState → MachineState → Type 0
Controls Rule old new = Rule old.controller new.controller × (new ≡ with_controller old new.controller)

-- what of a write is lent to the caller
abbrev pub lent_by : Next → Lent
lent_by (next.Payload m) = lent.Frame m.from m.len
lent_by (next.Posted m) = lent.Frame m.from m.len
lent_by (next.Counted c) = lent.Count (to_le_bytes w32 c.value)
lent_by other = lent.Nothing

-- something may be to be written to the guest
abbrev pub may_write : MachineState → Bool
may_write m = m.writing || is_any m.controller.writes

-- nothing is
pub record HasWritten (m : MachineState) : Type 0 where
  pub rests : may_write m ≡ false
  pub none : next_write m.controller ≡ None

-- bytes go to the guest
pub record Writes (write : Next) (old new : MachineState) : Type 0 where
  pub due : may_write old ≡ true
  pub next : next_write old.controller ≡ Some write
  pub rest : new ≡ record old { controller = written old.controller; lent = lent_by write }

-- all of them went: the frame that they came with is dropped
pub record LetsGo (old new : MachineState) : Type 0 where
  pub due : may_write old ≡ true
  pub none : next_write old.controller ≡ None
  pub rest : new ≡ record old {
    controller = written old.controller;
    writing = false;
    incoming = (if old.taken then None else old.incoming);
    taken = false;
  }

-- what it says to do next
abbrev pub kept_of : Next → Option Next
kept_of next.Nothing = None
kept_of other = Some other

-- behind all that is to be written to the guest, so it says no write
pub record TurnsNext (said : Next) (old new : MachineState) : Type 0 where
  pub none : old.kept ≡ None
  pub written : HasWritten old
  pub turns : Turns old.controller said new.controller
  pub rest : new ≡ record old { controller = new.controller; kept = kept_of said }

abbrev pub feeding : MachineState → (dev number slot offset len : ℕ) → List (Option GatheringState)
feeding m dev number slot offset len =
    if nat_lt dev 16
    then slice_set m.gathering dev (Some (opening_gathering (record { dev = dev; number = number; slot = slot; offset = offset; len = len })))
    else m.gathering

abbrev pub DoesBy : Next → MachineState → MachineState → Type 0
DoesBy (next.Order dev slot fis) old new =
    (old.outgoing ≡ None)
    × (new ≡ record old { kept = None; outgoing = Some (record { bytes = fis; stamp = host_stamp dev }) })
DoesBy (next.Feed dev number slot offset len) old new =
    new ≡ record old { kept = None; gathering = feeding old dev number slot offset len }
DoesBy (next.Payload m) old new = new ≡ record old { kept = None; lent = lent_by (next.Payload m) }
DoesBy (next.Posted m) old new = new ≡ record old { kept = None; lent = lent_by (next.Posted m) }
DoesBy (next.Counted c) old new = new ≡ record old { kept = None; lent = lent_by (next.Counted c) }
DoesBy next.Nothing old new = new ≡ record old { kept = None }
DoesBy (next.Read ask) old new = new ≡ record old { kept = None }

-- that is done
pub record DoesNext (said : Next) (old new : MachineState) : Type 0 where
  pub kept : old.kept ≡ Some said
  pub does : DoesBy said old new

-- the frame on its way goes to the devices
pub record SendsNext (passed : Passed) (old new : MachineState) : Type 0 where
  pub frame : Stamped
  pub on : old.outgoing ≡ Some frame
  pub sends : Sends old.fan frame (Ok passed) new.fan
  pub rest : new ≡ record old { fan = new.fan; outgoing = None }

-- ---- Data for a device

abbrev pub with_gathering : MachineState → (dev : ℕ) → Option GatheringState → MachineState
with_gathering m dev g = record m { gathering = slice_set m.gathering dev g }

pub record WantsNext (read : GuestRead) (old new : MachineState) : Type 0 where
  pub dev : ℕ
  pub gathering : GatheringState
  pub there : gathering_at old dev ≡ Some gathering
  pub waits : Awaits gathering old.controller (waits.Wants read)
  pub rest : new ≡ with_gathering old dev (Some (asked_for gathering read.len))

abbrev pub GoesBy : Fed → GatheringState → MachineState → MachineState → Type 0
GoesBy (fed.Goes message line) g old new =
    new ≡ record old { message = old.message || message; writing = true; outgoing = frame_of g }
GoesBy other g old new = new ≡ old

pub record GathersOf (g : GatheringState) (dev : ℕ) (answer : Fed) (old new : MachineState) : Type 0 where
  pub is : dev ≡ g.feed.dev
  pub gathers : Gathers old.controller dev g.feed.number answer new.controller
  pub goes : GoesBy answer g (with_controller old new.controller) new

abbrev pub GathersBy : GatheringState → MachineState → Act → MachineState → Type 0
GathersBy g old (act.Gathers dev answer) new = GathersOf g dev answer old new
GathersBy g old other new = ⊥

abbrev pub missed_message : Fed → Bool
missed_message (fed.Missed message line) = message
missed_message other = false

pub record MissesOf (f : Feed) (answer : Fed) (old new : MachineState) : Type 0 where
  pub misses : MissesData old.controller f.dev f.number answer new.controller
  pub rest : new ≡ record old { controller = new.controller; message = old.message || missed_message answer }

abbrev pub AwaitsAt : MachineState → (dev : ℕ) → Waits → Type 0
AwaitsAt m dev w = MatchOption (gathering_at m dev) ⊥ (λ g. Awaits g m.controller w)

-- all of its bytes came: it goes, if it is still due, once what the controller said is done
pub record GathersNext (dev : ℕ) (answer : Fed) (old new : MachineState) : Type 0 where
  pub place : ℕ
  pub gathering : GatheringState
  pub there : gathering_at old place ≡ Some gathering
  pub whole : Awaits gathering old.controller waits.Whole
  pub done : old.kept ≡ None
  pub free : old.outgoing ≡ None
  pub gathers : GathersOf gathering dev answer (with_gathering old place None) new

-- some of them have no place
pub record MissesNext (slot : ℕ) (answer : Fed) (old new : MachineState) : Type 0 where
  pub place : ℕ
  pub gathering : GatheringState
  pub is : slot ≡ gathering.feed.slot
  pub there : gathering_at old place ≡ Some gathering
  pub nowhere : Awaits gathering old.controller waits.Nowhere
  pub misses : MissesOf gathering.feed answer (with_gathering old place None) new

-- ---- frames of the devices

pub record RisesNext (old new : MachineState) : Type 0 where
  pub frame : Stamped
  pub none : old.incoming ≡ None
  pub gives : GivesUpThere old.fan (Ok (Some frame)) new.fan
  pub rest : new ≡ record old { fan = new.fan; incoming = Some frame }

pub record TakesNext (took : Took) (old new : MachineState) : Type 0 where
  pub frame : Stamped
  pub on : old.incoming ≡ Some frame
  pub framed : IsFrame frame.bytes
  pub once : old.taken ≡ false
  pub free : hindrance old.controller ≡ None
  pub hears : Hears old.controller frame.bytes took new.controller
  pub rest : new ≡ record old {
    controller = new.controller;
    message = old.message || took.message;
    taken = true;
    writing = true;
  }

-- only where the link is down, or a command that cannot be served stopped the port (AHCI 1.3.1, 6.1); else a FIS waits
abbrev pub is_lost : Hindrance → Bool
is_lost hindered.LinkDown = true
is_lost hindered.Failed = true
is_lost hindered.NotReceiving = false
is_lost hindered.Writing = false

pub record LosesNext (why : Hindrance) (old new : MachineState) : Type 0 where
  pub lost : is_lost why ≡ true
  pub there : is_some old.incoming ≡ true
  pub once : old.taken ≡ false
  pub is : hindrance old.controller ≡ Some why
  pub rest : new ≡ record old { incoming = None }

-- ---- the ports

abbrev pub with_bay : MachineState → (port : ℕ) → Bay → List Bay
with_bay m port b = if nat_lt port (length m.bays) then slice_set m.bays port b else m.bays

-- a device begins anew
pub record BeginsNext (port : ℕ) (old new : MachineState) : Type 0 where
  pub tells : Tells old.fan (Some port) new.fan
  pub rest : new ≡ record old { fan = new.fan; bays = with_bay old port (begun (bay_at old port)) }

pub record ServesNext (port : ℕ) (act : Act) (old new : MachineState) : Type 0 where
  pub inside : nat_lt port (length old.bays) ≡ true
  pub does : BayDoes port old.fan (bay_at old port) act new.fan (bay_at new port)
  pub rest : new ≡ record old { fan = new.fan; bays = slice_set old.bays port (bay_at new port) }

-- ---- each move

-- nothing is next: the controller has nothing to do, or has to wait
abbrev pub RestsNow : MachineState → MachineState → Type 0
RestsNow old new = (new ≡ old) ⊎ TurnsNext next.Nothing old new

-- the interrupt is told only behind all that is to be written to the guest
abbrev pub Does : MachineState → Act → MachineState → Type 0
Does old act.Rests new = RestsNow old new
Does old (act.Writes write) new = Writes write old new
Does old act.LetsGo new = LetsGo old new
Does old (act.Line line) new = ((line ≡ raised old.controller.latch) × HasWritten old) × (line ≢ old.told) × (new ≡ record old { told = line })
Does old act.Message new = ((old.message ≡ true) × HasWritten old) × (new ≡ record old { message = false })
Does old (act.Turns said) new = TurnsNext said old new
Does old (act.Does said) new = DoesNext said old new
Does old (act.Sends passed) new = SendsNext passed old new
Does old (act.Wants read) new = WantsNext read old new
Does old (act.Gathers dev answer) new = GathersNext dev answer old new
Does old (act.Misses slot answer) new = MissesNext slot answer old new
Does old act.Rises new = RisesNext old new
Does old (act.Takes took) new = TakesNext took old new
Does old (act.Loses why) new = LosesNext why old new
Does old (act.Begins port) new = BeginsNext port old new
Does old (act.Falls port) new = ServesNext port (act.Falls port) old new
Does old (act.Hears port unheard) new = ServesNext port (act.Hears port unheard) old new
Does old (act.Points port) new = ServesNext port (act.Points port) old new
Does old (act.Drops port) new = ServesNext port (act.Drops port) old new
Does old (act.Speaks port out) new = ServesNext port (act.Speaks port out) old new
Does old (act.Starts port place) new = ServesNext port (act.Starts port place) old new
Does old (act.Asks id request) new = ServesNext id.port (act.Asks id request) old new

-- whether it moves anything
abbrev pub moves : Act → Bool
moves act.Rests = false
moves other = true

abbrev pub MayDo : MachineState → Option Act → MachineState → Type 0
MayDo old None new = new ≡ old
MayDo old (Some act) new = (moves act ≡ true) × Does old act new

-- whose turn is next is the machine's own choice
abbrev pub turned : MachineState → (first : Bool) → (turn : ℕ) → MachineState
turned m first turn = record m { first = first; turn = turn }

-- one move, and whose turn is next
pub record Steps (old : MachineState) (act : Act) (new : MachineState) : Type 0 where
  pub middle : MachineState
  pub does : Does old act middle
  pub turns : new ≡ turned middle new.first new.turn

-- the same where there may be none
abbrev pub MayStep : MachineState → Option Act → MachineState → Type 0
MayStep old None new = new ≡ old
MayStep old (Some act) new = (moves act ≡ true) × Steps old act new

-- ---- a call

-- what was lent before is lent no more
abbrev pub unlent : MachineState → MachineState
unlent m = record m { lent = lent.Nothing }

pub record ThenSteps (Before : MachineState → Type 0) (new : MachineState) : Type 0 where
  pub middle : MachineState
  pub act : Act
  pub before : Before middle
  pub quiet : request_of act ≡ None
  pub last : Steps middle act new
  pub rules : HasRules new

-- so many moves that ask nothing; each machine between them keeps the rules of every one
unfoldable pub StepsBy : ℕ → MachineState → MachineState → Type 0
StepsBy zero old new = new ≡ old
StepsBy (suc count) old new = ThenSteps (StepsBy count old) new

pub record Moves (old new : MachineState) : Type 0 where
  pub count : ℕ
  pub steps : StepsBy count old new

-- moves that ask nothing, and then one that asks this
pub record AsksAtLast (old : MachineState) (asked : Request) (new : MachineState) : Type 0 where
  pub middle : MachineState
  pub act : Act
  pub quiet : Moves old middle
  pub last : Steps middle act new
  pub is : request_of act ≡ Some asked

-- the most moves of a call
abbrev pub budget : ℕ
budget = 64

-- or the budget is spent
abbrev pub Asks : MachineState → Request → MachineState → Type 0
Asks old asked new = AsksAtLast old asked new ⊎ ((asked ≡ request.Again) × StepsBy budget old new)
