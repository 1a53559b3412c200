-- Where the bytes of Data FISes go, over a run: AHCI 1.3.1, sections 4.2.3.3 (Physical Region Descriptor Table) and 5.3.13 (a
-- port takes a FIS, and writes its bytes to the guest); Serial ATA 3.x, 10.5 (Data).
use Rattle.std.specs.Prelude.{◌≡◌, ◌≤◌, ℕ, ◌+◌, ◌-◌, ◌||◌, Bool, true, false, not, List, [], ◌∷◌, ◌++◌, drop, length, take, Option, Some, None}
use Rattle.std.specs.Prelude.{MatchOption, IfSome, is_some}
use Rattle.slots.specs.Slots.{Issue, issue_at, match_some}
use Rattle.guest_fetch.specs.{Commands.Fetched, Places.{Places, Single, named, room_at, singles}, declared.moves.Move.Move}
use Rattle.hba_fbs.specs.{Taking.port_of, declared.report.Wrote.Wrote}
use Rattle.ahci_controller.specs.{Access.fits, Next.Turns, States.{ControllerState, kept}, Taking.{hindrance, is_overflow}, Wide.WritesFitting}
use Rattle.ahci_controller.specs.declared.{access.Width.Width, next.Next.Next, wants.Carried.Carried, wide.WideWritten.WideWritten}
use Rattle.ahci_controller.specs.declared.next.Next.TheVariants as next_step
use Rattle.ahci_controller.specs.declared.taking.Took as taking
use Rattle.controller_laws.specs.Events.{Does, Event, Gathered, IsController, Left, Missed, NotThere, Runs, Said, Supplied, Takes, Took, Turned}
use Rattle.controller_laws.specs.Events.{Wrote as WroteRegister, WroteWide}

-- The Data FIS that was taken last: which bytes of a slot's command it brought, the table that was supplied for that command,
-- and which writes of them were said since. It is cut where the port was stopped meanwhile.
pub record Carrying : Type 0 where
  pub frame : List ℕ
  pub wrote : Wrote
  pub table : Places
  pub said : List Move
  pub cut : Bool

-- ---- over a run

abbrev pub carrying_of : List ℕ → Wrote → Fetched → Carrying
carrying_of frame wrote command =
    record { frame = frame; wrote = wrote; table = command.table; said = []; cut = false }

-- a FIS that brought no bytes has none to be written
abbrev pub carrying_by : ControllerState → List ℕ → Option Wrote → Option Carrying
carrying_by c frame None = None
carrying_by c frame (Some wrote) =
    match_some (kept c wrote.slot) None (λ command. Some (carrying_of frame wrote command))

abbrev pub moves_in : Next → List Move
moves_in (next_step.Payload m) = m ∷ []
moves_in next = []

abbrev pub moves_said : Option Next → List Move
moves_said None = []
moves_said (Some next) = moves_in next

abbrev pub said_more : List Move → Option Carrying → Option Carrying
said_more moves None = None
said_more moves (Some d) = Some (record {
  frame = d.frame;
  wrote = d.wrote;
  table = d.table;
  said = d.said ++ moves;
  cut = d.cut;
})

-- behind a write, while ST is 0
abbrev pub cut_if : Bool → Option Carrying → Option Carrying
cut_if stopped None = None
cut_if stopped (Some d) = Some (record {
  frame = d.frame;
  wrote = d.wrote;
  table = d.table;
  said = d.said;
  cut = d.cut || stopped;
})

abbrev pub cut_behind : ControllerState → Option Carrying → Option Carrying
cut_behind c data_now = cut_if (not c.core.registers.started) data_now

abbrev pub cut_wide : (does_fit : Bool) → (old : ControllerState) → (offset : ℕ) → (width : Width) → (value : ℕ)
    → (written : WideWritten) → (new : ControllerState) → WritesFitting does_fit old offset width value written new
    → Option Carrying → Option Carrying
cut_wide true old offset width value written new does was = cut_behind new (cut_behind does.middle was)
cut_wide false old offset width value written new does was = was

abbrev pub carrying_after_call : (old : ControllerState) → (event : Event) → (new : ControllerState) → Does old event new
    → Option Carrying → Option Carrying
carrying_after_call old (WroteRegister offset value written) new does was = cut_behind new was
carrying_after_call old (WroteWide offset width value written) new does was =
    cut_wide (fits width offset) old offset width value written new does was
carrying_after_call old (Supplied slot number bytes supply) new does was = was
carrying_after_call old (Missed slot number supply) new does was = was
carrying_after_call old (Took frame took) new does was = carrying_by old frame took.brought
carrying_after_call old (Left frame why) new does was = was
carrying_after_call old (Turned next) new does was = said_more (moves_in next) was
carrying_after_call old (Said write) new does was = said_more (moves_said write) was
carrying_after_call old (Gathered dev number frame fed) new does was = was
carrying_after_call old (NotThere dev number fed) new does was = was

abbrev pub carrying_after : Option Carrying → (old : ControllerState) → (events : List Event) → (new : ControllerState)
    → Runs old events new → Option Carrying
carrying_after was old [] new run = was
carrying_after was old (event ∷ events) new run =
    carrying_after (carrying_after_call old event run.1.0 run.1.1 was) run.1.0 events new run.1.2

-- ---- what was said

-- how many bytes of the FIS have a place in the table
abbrev pub placed_of : Carrying → ℕ
placed_of d = room_at d.table d.wrote.offset d.wrote.len

-- the first so many bytes behind its header, in order, each with the place that the table names for its offset in the command
abbrev pub first_of : Carrying → ℕ → List Single
first_of d count = named d.table.entries d.wrote.offset (take count (drop 4 d.frame))

-- the bytes of the frame that were said, each with the address to which it goes
abbrev pub said_of : Carrying → List Single
said_of d = singles d.frame d.said

-- what is left to be said: the bytes behind those; none, once all that have a place were said, or the port was stopped
pub record IsLeft (c : ControllerState) (d : Carrying) (count : ℕ) (w : Carried) : Type 0 where
  pub slot : w.slot ≡ d.wrote.slot
  pub offset : w.offset ≡ d.wrote.offset + count
  pub from : w.from ≡ 4 + count
  pub len : w.len ≡ d.wrote.len - count
  pub command : MatchOption (kept c d.wrote.slot) ⊥ (λ f. f.table ≡ d.table)

abbrev pub AreLeft : Option Carried → ControllerState → Carrying → (count : ℕ) → Type 0
AreLeft None c d count = d.cut ≡ false → count ≡ placed_of d
AreLeft (Some w) c d count = IsLeft c d count w

-- The bytes that were said are the first of the FIS: each once, in order, at its own place.
pub record IsSaid (c : ControllerState) (d : Carrying) : Type 0 where
  pub count : ℕ
  pub few : count ≤ placed_of d
  pub said : said_of d ≡ first_of d count
  pub left : AreLeft c.writes.payload c d count
  pub whole : 4 + d.wrote.len ≤ length d.frame
  pub short : length d.frame ≤ 8196

-- the bytes have numbers of 32 bits, as all have of a FIS that does not go past its table
abbrev pub AreNumbered : Carrying → Type 0
AreNumbered d = d.wrote.offset + d.wrote.len ≤ 4294967295

abbrev pub AreSaid : ControllerState → Option Carrying → Type 0
AreSaid c None = c.writes.payload ≡ None
AreSaid c (Some d) = AreNumbered d → IsSaid c d

-- ---- the law

-- Bytes are brought by a FIS of the device that owns the slot's command, which was supplied. They are behind its header.
pub record IsOwnData (c : ControllerState) (frame : List ℕ) (wrote : Wrote) : Type 0 where
  pub issue : Issue
  pub is : issue_at c.core.slots wrote.slot ≡ Some issue
  pub own : issue.dev ≡ port_of frame
  pub few : 4 + wrote.len ≤ length frame
  pub command : is_some (kept c wrote.slot) ≡ true

abbrev pub DataIsOwn : Type 0
DataIsOwn =
    (old new : ControllerState) (frame : List ℕ) (took : taking.Took) → IsController old → Takes old frame took new
    → IfSome took.brought (IsOwnData old frame)

-- They are all of its bytes, within what the command moves, unless they go past its table.
pub record IsWholeData (c : ControllerState) (frame : List ℕ) (wrote : Wrote) : Type 0 where
  pub own : IsOwnData c frame wrote
  pub whole : length frame ≡ 4 + wrote.len
  pub inside : wrote.offset + wrote.len ≤ own.issue.work.len
  pub most : own.issue.work.len ≤ 33554432

abbrev pub DataIsWhole : Type 0
DataIsWhole =
    (old new : ControllerState) (frame : List ℕ) (took : taking.Took) → IsController old → Takes old frame took new
    → is_overflow took.report.fault ≡ false → IfSome took.brought (IsWholeData old frame)

-- Over every run the bytes that were said of a FIS are its first ones, each once, in order, each at its place.
abbrev pub BytesAreSaid : Type 0
BytesAreSaid =
    (old new : ControllerState) (events : List Event) (run : Runs old events new) (was : Option Carrying)
    → AreSaid old was → AreSaid new (carrying_after was old events new run)

-- what is said is of a FIS that was taken
abbrev pub SaidOfData : Type 0
SaidOfData =
    (old new : ControllerState) (m : Move) (was : Option Carrying) → Turns old (next_step.Payload m) new → AreSaid old was
    → is_some was ≡ true

-- and all bytes that have a place were said before the next FIS is taken, unless the port was stopped
abbrev pub AllAreSaid : Type 0
AllAreSaid =
    (c : ControllerState) (d : Carrying) → AreSaid c (Some d) → AreNumbered d → hindrance c ≡ None → d.cut ≡ false
    → said_of d ≡ first_of d (placed_of d)
