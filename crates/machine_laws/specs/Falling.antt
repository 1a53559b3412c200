-- The FISes that a device hears are those that the controller sent to it, in order (Serial ATA 3.x, 10.5, FISes; 16.3, frame transmission
-- by a port multiplier; AHCI 1.3.1, 5.3 and 9.3, what a port sends).
use Rattle.std.specs.{Prelude.{◌≡◌, ◌==◌, ℕ, Bool, true, false, not, if◌then◌else◌, List, [], ◌∷◌, ◌++◌, map, Option, Some, None}, List.flat_map}
use Rattle.std.specs.Option.{option_map, option_to_list}
use Rattle.fis_view.specs.Frames.{Stamped}
use Rattle.slots.specs.Slots.{match_some}
use Rattle.multiplier.specs.{Arbiter.control_port, State.{falling, passes_to, pm_port, port_at}, declared.multiplier.Passed.Passed}
use Rattle.multiplier.specs.declared.multiplier.Passed.TheVariants as passed
use Rattle.fan_out.specs.{Fans.seat_at, Seats.connection, Straights.pointed, declared.fan_out.FanOut.{FanOut, TheVariants.{Device, Multiplier}}}
use Rattle.ahci_controller.specs.declared.feeding.Fed.TheVariants as fed
use Rattle.ahci_controller.specs.declared.next.Next.{Next}
use Rattle.ahci_controller.specs.declared.next.Next.TheVariants as next
use Rattle.controller_laws.specs.Events as call
use Rattle.controller_laws.specs.Events.{Event}
use Rattle.sata_disk.specs.State.{DiskState}
use Rattle.sata_disk_laws.specs.Calls.{Call}
use Rattle.sata_disk_laws.specs.Calls as disk_call
use Rattle.ahci_machine.specs.{Gathers.host_stamp, Registers.link_stays, States.{MachineState, bay_at}, declared.bay.Unit.TheVariants.Disk}
use Rattle.ahci_machine.specs.declared.act.Act.TheVariants as act
use Rattle.machine_laws.specs.{ControllerLaws.{RunsRuled, calls_in}, Controllers.GathersDue, Deeds.{Deed, Does, Moved, Wrote, Powered, FrameTaken}}
use Rattle.machine_laws.specs.Disks.{calls_at}

-- ---- from the controller to what is behind its link

-- the FIS that a call of the controller sends, and its device: a command's, or Data
abbrev pub sent_by : Event → List Stamped
sent_by (call.Turned (next.Order dev slot fis)) = record { bytes = fis; stamp = host_stamp dev } ∷ []
sent_by (call.Gathered dev number bytes (fed.Goes message line)) = record { bytes = bytes; stamp = host_stamp dev } ∷ []
sent_by event = []

abbrev pub sent_in : List Event → List Stamped
sent_in events = flat_map sent_by events

-- the FIS of a command that is to go next
abbrev pub ordered : Option Next → List Stamped
ordered (Some (next.Order dev slot fis)) = record { bytes = fis; stamp = host_stamp dev } ∷ []
ordered kept = []

-- what is on its way to the other end of the link
abbrev pub leaving : MachineState → List Stamped
leaving m = option_to_list m.outgoing ++ ordered m.kept

-- what arrives there by a deed
abbrev pub arrives : MachineState → Deed → List Stamped
arrives old (Moved (act.Sends passed)) = option_to_list old.outgoing
arrives old deed = []

abbrev pub arrived : (old : MachineState) → (deeds : List Deed) → (new : MachineState) → RunsRuled old deeds new → List Stamped
arrived old [] new run = []
arrived old (deed ∷ later) new run = arrives old deed ++ arrived run.1.0 later new run.1.2

-- A deed that has all begin anew: a write that resets the link, or power. All that was on its way to the other end is dropped.
abbrev pub resets : Deed → Bool
resets (Wrote offset width value written) = not (link_stays written)
resets Powered = true
resets deed = false

abbrev pub HasLink : List Deed → Type 0
HasLink [] = Unit {0}
HasLink (deed ∷ later) = (resets deed ≡ false) × HasLink later

-- As long as the link lasts, what the controller sent arrives at the other end of its link in order, each FIS once, and nothing else does.
abbrev pub LinksPassInOrder : Type 0
LinksPassInOrder = (old : MachineState) (deeds : List Deed) (new : MachineState) (run : RunsRuled old deeds new) → GathersDue old → HasLink deeds
    → arrived old deeds new run ++ leaving new ≡ leaving old ++ sent_in (calls_in old deeds new run)

-- Where it is reset, nothing is left of it.
abbrev pub ResetsEmptyLinks : Type 0
ResetsEmptyLinks = (old : MachineState) (deed : Deed) (new : MachineState) → Does old deed new → resets deed ≡ true → leaving new ≡ []

-- ---- at the other end

-- Where a FIS goes from there. The device that is alone takes each; a multiplier passes one to the port that its PM Port names, where
-- that forwards and a device is there. All others are dropped.
abbrev pub goes_to : FanOut → Stamped → Passed
goes_to (Device s) frame = if s.seat.is_there then passed.Down 0 else passed.Dropped
goes_to (Multiplier f) frame =
    if pm_port frame == control_port then passed.Control
    else match_some (passes_to f.multiplier (pm_port frame)) passed.Dropped (λ conn. passed.Down (pm_port frame))

abbrev pub ArrivesAt : FanOut → Option Stamped → Passed → Type 0
ArrivesAt fan None went = ⊥
ArrivesAt fan (Some frame) went = went ≡ goes_to fan frame

abbrev pub FramesGoWhereTheyShould : Type 0
FramesGoWhereTheyShould = (old : MachineState) (went : Passed) (new : MachineState) → Does old (Moved (act.Sends went)) new
    → ArrivesAt old.fan old.outgoing went

-- ---- from there to a device

-- the connection that a FIS falls to
abbrev pub reached_at : FanOut → ℕ → ℕ
reached_at (Device s) n = s.seat.last
reached_at (Multiplier f) n = match_some (port_at f.multiplier n).present 0 (λ conn. conn)

abbrev pub is_down_to : Passed → ℕ → Bool
is_down_to (passed.Down m) n = m == n
is_down_to went n = false

-- what falls to a port by a deed: the FIS, with PM Port 0
abbrev pub falls : MachineState → Deed → ℕ → List Stamped
falls old (Moved (act.Sends went)) n =
    if is_down_to went n then map (falling (reached_at old.fan n)) (option_to_list old.outgoing) else []
falls old deed n = []

abbrev pub fell : ℕ → (old : MachineState) → (deeds : List Deed) → (new : MachineState) → RunsRuled old deeds new → List Stamped
fell n old [] new run = []
fell n old (deed ∷ later) new run = falls old deed n ++ fell n run.1.0 later new run.1.2

-- what waits at the other end of the link for the device at a port
abbrev pub waits_down : FanOut → ℕ → Option Stamped
waits_down (Device s) n = if 0 == n then option_map (pointed 0) s.port.down else None
waits_down (Multiplier f) n = (port_at f.multiplier n).down

-- what is on its way to a device: the FIS that it was given, and then the one that waits
abbrev pub way_to : MachineState → ℕ → List Stamped
way_to m n = option_to_list (bay_at m n).down ++ option_to_list (waits_down m.fan n)

-- What ends its way by a deed: a disk hears it, a device of the caller's own takes it, or it is dropped, where nothing is at the port.
abbrev pub ends : MachineState → Deed → ℕ → List Stamped
ends old (Moved (act.Hears m unheard)) n = if m == n then option_to_list (bay_at old n).down else []
ends old (Moved (act.Drops m)) n = if m == n then option_to_list (bay_at old n).down else []
ends old (FrameTaken m told) n = if m == n then option_to_list told else []
ends old deed n = []

abbrev pub ended : ℕ → (old : MachineState) → (deeds : List Deed) → (new : MachineState) → RunsRuled old deeds new → List Stamped
ended n old [] new run = []
ended n old (deed ∷ later) new run = ends old deed n ++ ended n run.1.0 later new run.1.2

-- ---- connections

-- the connection of the device at a port, if one is plugged in there
abbrev pub connection_at : FanOut → ℕ → Option ℕ
connection_at (Device s) n = connection s.seat
connection_at (Multiplier f) n = connection (seat_at f n)

-- the device at a port begins anew, or all do
abbrev pub begins : Deed → ℕ → Bool
begins (Moved (act.Begins m)) n = m == n
begins deed n = resets deed

-- A connection lasts where the same one is there afterwards (a pull ends it, and the end of a reset by the port's SControl, 14.1.3), its
-- device does not begin anew, and the link is not reset.
pub record Lasts (old : MachineState) (deed : Deed) (new : MachineState) (n : ℕ) : Type 0 where
  pub same : connection_at new.fan n ≡ connection_at old.fan n
  pub goes : begins deed n ≡ false

abbrev pub AllLast : ℕ → (old : MachineState) → (deeds : List Deed) → (new : MachineState) → RunsRuled old deeds new → Type 0
AllLast n old [] new run = Unit {0}
AllLast n old (deed ∷ later) new run = Lasts old deed run.1.0 n × AllLast n run.1.0 later new run.1.2

-- As long as a connection lasts, what fell to it is heard in order, each FIS once, and nothing else is.
abbrev pub PortsPassInOrder : Type 0
PortsPassInOrder = (n : ℕ) (old : MachineState) (deeds : List Deed) (new : MachineState) (run : RunsRuled old deeds new)
    → AllLast n old deeds new run
    → ended n old deeds new run ++ way_to new n ≡ way_to old n ++ fell n old deeds new run

-- ---- what is left where they end

-- A device that begins anew forgets what it was given; what waits at its port stays.
abbrev pub BegunForgets : Type 0
BegunForgets = (old : MachineState) (n : ℕ) (new : MachineState) → Does old (Moved (act.Begins n)) new
    → way_to new n ≡ option_to_list (waits_down old.fan n)

-- Where the link is reset, nothing waits at any port any more. What a device was given lies with it until it begins anew.
abbrev pub ResetsEmptyPorts : Type 0
ResetsEmptyPorts = (old : MachineState) (deed : Deed) (new : MachineState) → Does old deed new → resets deed ≡ true
    → (n : ℕ) → way_to new n ≡ option_to_list (bay_at old n).down

-- what a call of a disk is that hears a FIS
abbrev pub heard_by : Call → List (List ℕ)
heard_by (disk_call.Hears bytes) = bytes ∷ []
heard_by other = []

-- what ends its way to a disk is what the disk hears
abbrev pub DisksHearThem : Type 0
DisksHearThem = (old : MachineState) (deed : Deed) (new : MachineState) → Does old deed new
    → (n : ℕ) (d : DiskState) → (bay_at old n).unit ≡ Disk d
    → flat_map heard_by (calls_at old deed n) ≡ map (λ (frame : Stamped). frame.bytes) (ends old deed n)
