-- FISes of the devices go to the controller in the order in which they were sent, each once, and none of another device is among them
-- (Serial ATA 3.x, 16.3, port multiplier: frame transmission; AHCI 1.3.1, 5.3.13, a port takes a FIS). Of a FIS only the PM Port field is
-- written on its way. A connection of a device begins as it is plugged in, or as its port leaves a reset by SControl (14.1.3), and ends as
-- it is pulled, or as the next one begins; the link's own reset (AHCI 1.3.1, 10.4.2) ends all.
use Rattle.std.specs.Prelude.{◌≡◌, ◌<◌, ◌==◌, ℕ, Bool, true, false, not, if◌then◌else◌, List, [], ◌∷◌, ◌++◌, map, drop, slice_index, Some, is_some}
use Rattle.std.specs.{Prelude.{Result, Ok, Err}, List.{All, Contains}, Option.option_to_list}
use Rattle.fis_view.specs.{Frames.{IsFrame, Stamped}, Seen.seen, Table.{Bits, SActive, field}}
use Rattle.fis_view.specs.declared.view.Fis.TheVariants as view
use Rattle.pm_ports.specs.Port as port
use Rattle.pm_ports.specs.declared.port.Offered.TheVariants.{Held}
use Rattle.multiplier.specs.{Passing.{held_of, of_conn}, State.{largest, pm_port, port_at, rising}, declared.multiplier.Passed.Passed}
use Rattle.fan_out.specs.Calls as fan
use Rattle.fan_out.specs.{Calls.{FanCall, Offer, given}, FanOuts.port_count, Fans.{FanState, IsFan, seat_at, waiting}, Straights.IsStraight}
use Rattle.fan_out.specs.{Straights.answering, declared.fan_out.FanOut.{FanOut, TheVariants.{Device, Multiplier}}}
use Rattle.fan_out.specs.Fans as fans
use Rattle.block_queue.specs.Line.{command_at}
use Rattle.sata_disk.specs.{Sending.part_at, State.{DiskState, commands}, declared.out.Out.TheVariants.Data}
use Rattle.controller_laws.specs.Events as call
use Rattle.controller_laws.specs.Events.{Event}
use Rattle.ahci_machine.specs.Acts as acts
use Rattle.ahci_machine.specs.{Ports.has_bay, Registers.link_stays, States.{IsOpeningMachine, MachineState, bay_at}, declared.act.Act.Act}
use Rattle.ahci_machine.specs.declared.{bay.Unit.TheVariants.Disk, ports.PortFault.PortFault}
use Rattle.ahci_machine.specs.declared.act.Act.TheVariants as act
use Rattle.machine_laws.specs.{ControllerLaws.{RunsRuled, calls_in}, Deeds.{Deed, Does, Moved, Wrote, Powered, Pulled, Removed, FrameOffered}}

-- ---- what is sent, and what comes

-- A FIS of the device at a port, as it goes up: its PM Port is the port; of a device straight behind the link that of the FIS that it
-- was given last. Its stamp has the port, the connection, and its number among the FISes of this connection.
abbrev pub risen : FanOut → (n : ℕ) → Stamped → Stamped
risen (Device s) n frame = answering s frame
risen (Multiplier f) n frame = rising n (waiting f n frame)

-- one that is given back was not sent
abbrev pub unless_back : Result (Unit {0}) Stamped → Stamped → List Stamped
unless_back (Ok x) frame = frame ∷ []
unless_back (Err back) frame = []

abbrev pub move_sent : (old : MachineState) → (act : Act) → (new : MachineState) → acts.Does old act new → List Stamped
move_sent old (act.Speaks n out) new does = risen old.fan n does.does.1.frame ∷ []
move_sent old act new does = []

-- what a device sends: a disk, or one of the caller's own
abbrev pub sent_by : (old : MachineState) → (deed : Deed) → (new : MachineState) → Does old deed new → List Stamped
sent_by old (Moved act) new does = move_sent old act does.middle does.does
sent_by old (FrameOffered n frame told) new does = unless_back told (risen old.fan n frame)
sent_by old deed new does = []

abbrev pub move_came : (old : MachineState) → (act : Act) → (new : MachineState) → acts.Does old act new → List Stamped
move_came old (act.Takes took) new does = does.frame ∷ []
move_came old (act.Loses why) new does = option_to_list old.incoming
move_came old act new does = []

-- what comes to the controller: it takes it, or lets it go
abbrev pub came_by : (old : MachineState) → (deed : Deed) → (new : MachineState) → Does old deed new → List Stamped
came_by old (Moved act) new does = move_came old act does.middle does.does
came_by old deed new does = []

-- the link is reset: all that is behind it begins anew, and connections are numbered from 1 again
abbrev pub is_reset : Deed → Bool
is_reset (Wrote offset width value written) = not (link_stays written)
is_reset Powered = true
is_reset deed = false

-- ---- since the link was reset last

pub record Frames : Type 0 where
  -- what the devices sent, as it goes up
  pub sent : List Stamped
  -- what came to the controller
  pub came : List Stamped

abbrev pub no_frames : Frames
no_frames = record { sent = []; came = [] }

abbrev pub more_frames : (reset : Bool) → (was : Frames) → (sent came : List Stamped) → Frames
more_frames true was sent came = no_frames
more_frames false was sent came = record { sent = was.sent ++ sent; came = was.came ++ came }

abbrev pub frames_after : Frames → (old : MachineState) → (deed : Deed) → (new : MachineState) → Does old deed new → Frames
frames_after was old deed new does = more_frames (is_reset deed) was (sent_by old deed new does) (came_by old deed new does)

abbrev pub frames_in : Frames → (old : MachineState) → (deeds : List Deed) → (new : MachineState) → RunsRuled old deeds new → Frames
frames_in was old [] new run = was
frames_in was old (deed ∷ later) new run = frames_in (frames_after was old deed run.1.0 run.1.1) run.1.0 later new run.1.2

-- ---- on the way

-- the FIS that the controller is to take next
abbrev pub untaken : MachineState → List Stamped
untaken m = if m.taken then [] else option_to_list m.incoming

-- what waits at a port, of a connection, as it goes up
abbrev pub held_at : (n c : ℕ) → FanOut → List Stamped
held_at n c (Device s) = of_conn n c (option_to_list s.port.up)
held_at n c (Multiplier f) = held_of n c f.multiplier

abbrev pub on_way : (n c : ℕ) → MachineState → List Stamped
on_way n c m = of_conn n c (untaken m) ++ held_at n c m.fan

abbrev pub is_multiplier : FanOut → Bool
is_multiplier (Device s) = false
is_multiplier (Multiplier f) = true

-- the port of a device, with the connection that is there, and whether one is over
abbrev pub port_of : FanOut → ℕ → port.PortState
port_of (Device s) n = s.port
port_of (Multiplier f) n = port_at f.multiplier n

abbrev pub is_over : FanOut → (n c : ℕ) → Bool
is_over end n c = port.is_gone (port_of end n) c

-- ---- what holds

-- What came of a connection, and then what is on its way, is a beginning of what the device sent on it.
pub record RisesInOrder (m : MachineState) (frames : Frames) (n c : ℕ) : Type 0 where
  -- what is missing waited at the port as the connection ended
  pub dropped : List Stamped
  pub order : of_conn n c frames.came ++ on_way n c m ++ dropped ≡ of_conn n c frames.sent
  -- nothing is missing of one that is not over
  pub whole : is_over m.fan n c ≡ false → dropped ≡ []

-- what is behind the controller keeps its rules
abbrev pub IsSoundEnd : FanOut → Type 0
IsSoundEnd (Device s) = IsStraight s × port.IsSound s.port
IsSoundEnd (Multiplier f) = IsFan f

-- ---- since the link was reset

-- what the device at a port sends by a call of what is behind the controller: a FIS that is held there
abbrev pub sent_call : FanOut → FanCall → List Stamped
sent_call f (Offer n frame (Ok Held) waits) = risen f n frame ∷ []
sent_call f call = []

-- these calls, one after another, by which this was sent
abbrev pub Sends : FanOut → List FanCall → List Stamped → FanOut → Type 0
Sends old [] sent new = (new ≡ old) × (sent ≡ [])
Sends old (call ∷ calls) sent new =
    (mid : FanOut) × fan.Does old call mid × ((later : List Stamped) × (sent ≡ sent_call old call ++ later) × Sends mid calls later new)

-- Since the link was reset last, when nothing was on its way, what is behind the controller was called so: it took of the devices what
-- they sent, and gave what came to the controller, and then what is still to be taken.
pub record HaveRisen (m : MachineState) (frames : Frames) : Type 0 where
  pub first : FanOut
  pub sound : IsSoundEnd first
  pub none : (n c : ℕ) → held_at n c first ≡ []
  pub calls : List FanCall
  pub sends : Sends first calls frames.sent m.fan
  pub gives : given calls ≡ frames.came ++ untaken m
  -- a FIS that was taken is there until all of it is written
  pub taken : m.taken ≡ true → is_some m.incoming ≡ true

-- ---- the laws

-- nothing was sent in a machine that opens
abbrev pub OpensRising : Type 0
OpensRising = (ports : ℕ) (legacy : Bool) (m : MachineState) → IsOpeningMachine ports legacy m → HaveRisen m no_frames

-- whatever happens to it
abbrev pub GoesOnRising : Type 0
GoesOnRising = (old : MachineState) (deeds : List Deed) (new : MachineState) (run : RunsRuled old deeds new) (was : Frames)
    → HaveRisen old was → HaveRisen new (frames_in was old deeds new run)

-- For each port and each connection: what came, and then what is on its way, is what the device sent, in order.
abbrev pub FramesRise : Type 0
FramesRise = (m : MachineState) (frames : Frames) → HaveRisen m frames → (n c : ℕ) → n < 15 → RisesInOrder m frames n c

-- ---- what is over

-- the link is not reset by any of these
abbrev pub AreLinked : List Deed → Type 0
AreLinked [] = Unit {0}
AreLinked (deed ∷ later) = (is_reset deed ≡ false) × AreLinked later

-- Of a connection that is over nothing more comes, but a FIS that had left its port and was on its way to the controller.
abbrev pub FramesAreOver : Type 0
FramesAreOver = (old : MachineState) (deeds : List Deed) (new : MachineState) (run : RunsRuled old deeds new) (was : Frames)
    → HaveRisen old was → AreLinked deeds → (n c : ℕ) → n < 15 → is_over old.fan n c ≡ true
    → of_conn n c (frames_in was old deeds new run).came ++ of_conn n c (untaken new) ≡ of_conn n c was.came ++ of_conn n c (untaken old)

-- ---- what ends a connection

-- whether SControl of a port holds its device in reset
abbrev pub is_in_reset : FanOut → ℕ → Bool
is_in_reset (Device s) n = false
is_in_reset (Multiplier f) n = fans.is_in_reset f.multiplier n

-- whether this may end the connection of a port: its device is pulled or taken away, a FIS goes to the multiplier while the port is in
-- reset, or the link is reset
abbrev pub may_end : FanOut → Deed → (n : ℕ) → Bool
may_end end (Pulled m told) n = m == n
may_end end (Removed m told) n = m == n
may_end end (Moved (act.Sends passed)) n = is_in_reset end n
may_end end deed n = is_reset deed

-- nothing else does
abbrev pub ConnectionsLast : Type 0
ConnectionsLast = (old : MachineState) (deed : Deed) (new : MachineState) → Does old deed new
    → (n c : ℕ) → n < port_count old.fan → may_end old.fan deed n ≡ false → is_over new.fan n c ≡ is_over old.fan n c

-- a pull does
abbrev pub PullsEnd : Type 0
PullsEnd = (old : MachineState) (n : ℕ) (told : Result (Unit {0}) PortFault) (new : MachineState) → Does old (Pulled n told) new → has_bay old n ≡ true
    → IsSoundEnd old.fan → (c : ℕ) → n < port_count old.fan → (port_of old.fan n).present ≡ Some c → is_over new.fan n c ≡ true

-- and so does the end of a reset by SControl
abbrev pub ResetsEnd : Type 0
ResetsEnd = (old : MachineState) (passed : Passed) (new : MachineState) → Does old (Moved (act.Sends passed)) new → (f g : FanState) → old.fan ≡ Multiplier f
    → new.fan ≡ Multiplier g → IsFan f → (n : ℕ) → n < f.multiplier.registers.ports → fans.is_in_reset f.multiplier n ≡ true
    → fans.is_in_reset g.multiplier n ≡ false → (seat_at f n).is_there ≡ true → (seat_at f n).last < largest → is_over new.fan n (seat_at f n).last ≡ true

-- ---- what the controller is called with

-- the FISes that it takes, or lets go
abbrev pub frames_of : List Event → List (List ℕ)
frames_of [] = []
frames_of (call.Took frame took ∷ later) = frame ∷ frames_of later
frames_of (call.Left frame why ∷ later) = frame ∷ frames_of later
frames_of (event ∷ later) = frames_of later

abbrev pub bytes_of : List Stamped → List (List ℕ)
bytes_of frames = map (λ f. f.bytes) frames

-- What comes to it is what it takes or lets go, in order.
abbrev pub FramesAreTaken : Type 0
FramesAreTaken = (old : MachineState) (deeds : List Deed) (new : MachineState) (run : RunsRuled old deeds new) (was : Frames)
    → AreLinked deeds → bytes_of (frames_in was old deeds new run).came ≡ bytes_of was.came ++ frames_of (calls_in old deeds new run)

-- ---- Data

-- The Data FIS of a command (Serial ATA 3.x, 10.5, type 46h) that a disk sends has the bytes that are next of it, behind its header: those
-- of which the laws of the disk speak (`sata_disk_laws`). No byte of them changes on the way up.
pub record CarriesPart (old : MachineState) (n place : ℕ) (f : Stamped) : Type 0 where
  pub disk : DiskState
  pub there : (bay_at old n).unit ≡ Disk disk
  pub data_fis : slice_index f.bytes 0 ≡ 0x46
  pub part : drop 4 f.bytes ≡ part_at (command_at (commands disk) place)

abbrev pub DataCarryParts : Type 0
DataCarryParts = (old : MachineState) (n place len : ℕ) (new : MachineState) (does : Does old (Moved (act.Speaks n (Data place len))) new)
    → All (CarriesPart old n place) (sent_by old (Moved (act.Speaks n (Data place len))) new does)

-- Each Data FIS that comes is one that a device sent, and behind a multiplier one of the port that its PM Port names.
pub record IsOfDevice (m : MachineState) (frames : Frames) (f : Stamped) : Type 0 where
  pub sent : Contains frames.sent f
  pub port : is_multiplier m.fan ≡ true → (f.stamp.port < 15) × (pm_port f ≡ f.stamp.port)

abbrev pub DataAreSent : Type 0
DataAreSent = (m : MachineState) (frames : Frames) → HaveRisen m frames → (f : Stamped) → Contains frames.came f → IsFrame f.bytes
    → slice_index f.bytes 0 ≡ 0x46 → IsOfDevice m frames f

-- ---- ends of queued commands

-- a Set Device Bits FIS (Serial ATA 3.x, 10.5, type A1h) that names a slot
pub record IsNaming (f : List ℕ) : Type 0 where
  pub viewed : seen f ≡ Ok (view.SetBits f)
  pub some : field Bits SActive f ≡ 0 → ⊥

-- Each such FIS that comes is one that a device sent, and behind a multiplier one of the port that its PM Port names: the notices of the
-- multiplier itself name none.
abbrev pub NamingAreSent : Type 0
NamingAreSent = (m : MachineState) (frames : Frames) → HaveRisen m frames → (f : Stamped) → Contains frames.came f → IsFrame f.bytes
    → IsNaming f.bytes → IsOfDevice m frames f
