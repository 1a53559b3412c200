-- The interrupt line over a run, and IS: AHCI 1.3.1, sections 3.1.2 (GHC.IE, HR), 3.1.3 (IS, whose bits ones clear), 3.3.5
-- (PxIS), 3.3.6 (PxIE) and 10.7.1 (an enabled cause sets IS.IPS; the line is raised while IS.IPS and GHC.IE are 1).
use Rattle.std.specs.Prelude.{◌≡◌, ℕ, ◌+◌, ◌%◌, ◌&&◌, ◌==◌, ◌⊎◌, Bool, true, false, if◌then◌else◌, bit_and, List, [], ◌∷◌, ◌++◌}
use Rattle.slots.specs.Slots.{has_bit, match_some}
use Rattle.ahci_registers.specs.Bits as line_bits
use Rattle.ahci_registers.specs.{Offsets.register_at, declared.register.Register.{Register, TheVariants.{Ghc, Is, PxIe, PxIs}}}
use Rattle.ahci_controller.specs.{Access.{fits, high_of, low_of, merged, ones_of, spread_of}, Opening.IsOpening, Reading.shown}
use Rattle.ahci_controller.specs.{States.ControllerState, Wide.{WritesFitting, block_of}, declared.{access.Width.Width, feeding.Fed.Fed}}
use Rattle.ahci_controller.specs.declared.{issuing.Supply.Supply, latch.Edge.{Edge, TheVariants.{Steady, Rising, Falling}}}
use Rattle.ahci_controller.specs.declared.wide.WideWritten.{WideWritten}
use Rattle.ahci_controller.specs.declared.feeding.Fed.TheVariants as fed_answer
use Rattle.ahci_controller.specs.declared.issuing.Supply.TheVariants as supply_answer
use Rattle.controller_laws.specs.Events.{Does, Event, Gathered, Left, Missed, NotThere, Runs, Said, Supplied, Took, Turned, Wrote, WroteWide}

-- ---- what registers show

-- IS.IPS, bit 0
abbrev pub pending_shown : ControllerState → Bool
pending_shown c = has_bit (shown Is c) 0

-- the line: IS.IPS, and GHC.IE, bit 1
abbrev pub line_shown : ControllerState → Bool
line_shown c = pending_shown c && has_bit (shown Ghc c) 1

-- PxIS and PxIE have no bit in common
abbrev pub is_calm : ControllerState → Bool
is_calm c = bit_and (shown PxIs c) (shown PxIe c) == 0

-- ---- what calls tell of the line

abbrev pub edges_of_supply : Supply → List Edge
edges_of_supply (supply_answer.NotTaken reason message line) = line ∷ []
edges_of_supply supply = []

abbrev pub edges_of_fed : Fed → List Edge
edges_of_fed (fed_answer.Goes message line) = line ∷ []
edges_of_fed (fed_answer.Missed message line) = line ∷ []
edges_of_fed fed = []

-- in their order; of a write of eight bytes first what its lower dword did
abbrev pub edges_of : Event → List Edge
edges_of (Wrote offset value written) = written.line ∷ []
edges_of (WroteWide offset width value written) = written.low.line ∷ written.high.line ∷ []
edges_of (Supplied slot number bytes supply) = edges_of_supply supply
edges_of (Missed slot number supply) = edges_of_supply supply
edges_of (Took frame took) = took.line ∷ []
edges_of (Left frame why) = []
edges_of (Turned next) = []
edges_of (Said write) = []
edges_of (Gathered dev number frame fed) = edges_of_fed fed
edges_of (NotThere dev number fed) = edges_of_fed fed

abbrev pub edges_in : List Event → List Edge
edges_in [] = []
edges_in (event ∷ events) = edges_of event ++ edges_in events

-- The line goes so: it rises only where it was down, falls only where it was up, and ends like this. So each change is told
-- once.
abbrev pub GoesBy : (was : Bool) → List Edge → (is : Bool) → Type 0
GoesBy was [] is = was ≡ is
GoesBy was (Steady ∷ rest) is = GoesBy was rest is
GoesBy false (Rising ∷ rest) is = GoesBy true rest is
GoesBy true (Rising ∷ rest) is = ⊥
GoesBy true (Falling ∷ rest) is = GoesBy false rest is
GoesBy false (Falling ∷ rest) is = ⊥

-- the line that a caller keeps who follows what it is told
abbrev pub line_after : Bool → List Edge → Bool
line_after was [] = was
line_after was (Steady ∷ rest) = line_after was rest
line_after was (Rising ∷ rest) = line_after true rest
line_after was (Falling ∷ rest) = line_after false rest

abbrev pub LineIsTold : Type 0
LineIsTold =
    (old new : ControllerState) (events : List Event) → Runs old events new
    → GoesBy (line_shown old) (edges_in events) (line_shown new)

-- So the line that it keeps is the one that IS and GHC.IE show.
abbrev pub LineIsKept : Type 0
LineIsKept =
    (old new : ControllerState) (events : List Event) → Runs old events new
    → line_after (line_shown old) (edges_in events) ≡ line_shown new

-- ---- IS.IPS

-- while a cause is enabled, IS.IPS is 1
abbrev pub IsLatched : ControllerState → Type 0
IsLatched c = is_calm c ≡ false → pending_shown c ≡ true

abbrev pub OpensLatched : Type 0
OpensLatched = (c : ControllerState) → IsOpening c → IsLatched c

abbrev pub StaysLatched : Type 0
StaysLatched = (old new : ControllerState) (events : List Event) → Runs old events new → IsLatched old → IsLatched new

-- a one is written to IS.IPS, or GHC.HR
abbrev pub clears : Register → ℕ → Bool
clears Is value = line_bits.has_bit value 0
clears Ghc value = line_bits.has_bit value 0
clears register value = false

abbrev pub clears_at : (offset value : ℕ) → Bool
clears_at offset value = match_some (register_at offset) false (λ register. clears register value)

-- by some bits of a dword
abbrev pub clears_part : ControllerState → (offset value mask : ℕ) → Bool
clears_part c offset value mask = if mask == 0 then false
    else match_some (register_at offset) false (λ register. clears register (merged register (shown register c) value mask))

abbrev pub ClearsWide : (does_fit : Bool) → (old : ControllerState) → (offset : ℕ) → (width : Width) → (value : ℕ)
    → (written : WideWritten) → (new : ControllerState) → WritesFitting does_fit old offset width value written new → Type 0
ClearsWide true old offset width value written new does =
    (clears_part old (block_of offset) (low_of (spread_of (offset % 8) value))
    (low_of (spread_of (offset % 8) (ones_of width))) ≡ true)
    ⊎ (clears_part does.middle (block_of offset + 4) (high_of (spread_of (offset % 8) value))
    (high_of (spread_of (offset % 8) (ones_of width))) ≡ true)
ClearsWide false old offset width value written new does = ⊥

abbrev pub Clears : (old : ControllerState) → (event : Event) → (new : ControllerState) → Does old event new → Type 0
Clears old (Wrote offset value written) new does = clears_at offset value ≡ true
Clears old (WroteWide offset width value written) new does =
    ClearsWide (fits width offset) old offset width value written new does
Clears old event new does = ⊥

-- IS.IPS falls only by a one that is written to it, or a reset of the controller
abbrev pub PendingFalls : Type 0
PendingFalls =
    (old new : ControllerState) (event : Event) (does : Does old event new)
    → pending_shown old ≡ true → pending_shown new ≡ false → Clears old event new does

-- behind a call, or behind the lower dword of a write of eight bytes
abbrev pub PendsWide : (does_fit : Bool) → (old : ControllerState) → (offset : ℕ) → (width : Width) → (value : ℕ)
    → (written : WideWritten) → (new : ControllerState) → WritesFitting does_fit old offset width value written new → Type 0
PendsWide true old offset width value written new does = (is_calm does.middle ≡ false) ⊎ (is_calm new ≡ false)
PendsWide false old offset width value written new does = ⊥

abbrev pub Pends : (old : ControllerState) → (event : Event) → (new : ControllerState) → Does old event new → Type 0
Pends old (WroteWide offset width value written) new does =
    PendsWide (fits width offset) old offset width value written new does
Pends old event new does = is_calm new ≡ false

-- and rises only while a cause is enabled
abbrev pub PendingRises : Type 0
PendingRises =
    (old new : ControllerState) (event : Event) (does : Does old event new)
    → pending_shown old ≡ false → pending_shown new ≡ true → Pends old event new does
