-- The words in which lemmas are stated that proofs of other crates use (`proofs/Door.antt`), and the words that these need.
-- No clause says them.
use Rattle.std.specs.Prelude.{Bool, List, None, Option, Some, false, is_some, length, nat_lt, not, slice_index, true, ℕ, ◌%◌, ◌&&◌, ◌+◌, ◌<◌, ◌==◌}
use Rattle.std.specs.{Prelude.{◌∷◌, ◌≡◌, ◌≢◌, ◌≤◌, ◌⊎◌, []}, List.{list_all, list_any}, Int.bit_at}
use Rattle.fis_view.specs.declared.build.H2dFields.{H2dFields}
use Rattle.host_memory.specs.{Memory.Memory, Place.total_of, Reading.read_fault}
use Rattle.slots.specs.Slots.{DeviceSlots, Issue, has_bit, is_control, is_pio, is_whole_issue, own_issue, slots_of}
use Rattle.port_errors.specs.Errors.{cleared_device}
use Rattle.hba_commands.specs.{declared.command.Command.Command, Commands.{command_at, is_proper, total_at}, Requests.request_of, Writing.header_for}
use Rattle.hba_fbs.specs.{declared.{register.Register.{Register, TheVariants.{Ci, Cmd, Fbs, Is, Sact, Sntf}}, registers.Registers.Registers}, Bits.en}
use Rattle.hba_fbs.specs.{Bits.fre, Offsets.register_at, Views.{Port, last_command, view_of}}
use Rattle.hba_laws.specs.{Between.transfer_of, Client.Touches, Delivering.HaveTables, History.Transfer}
use Rattle.hba_laws.specs.Hosts as event
use Rattle.hba_driver.specs.declared.{effect.Effect.Effect, mode.Mode.{Mode, TheVariants.{CommandBased, Switching}}, path.Path.Path}
use Rattle.hba_driver.specs.declared.path.{Recovery.TheVariants.Log, Stage.{Stage, TheVariants.{Identify, ReadLog}}, TaskFile.TaskFile}
use Rattle.hba_driver.specs.declared.{plan.{Device.{Device, TheVariants.{Absent, Ready, Recovering}}, Plan.Plan}, request.Completion.Completion}
use Rattle.hba_driver.specs.declared.{request.{Outcome.TheVariants.Done, Request.Request}, slot.Phase.{Phase, TheVariants.{Aside, Ended, Issued}}}
use Rattle.hba_driver.specs.{declared.{slot.Phase.TheVariants.Waits, turn.Act.Act}, Done.completes, Drivers.{Driver, Entry, device_at, entry_at}}
use Rattle.hba_driver.specs.{Drivers.{is_issued, rephased, waits}, Effects.{opening_write, restart_write, table_of}, Events.IsSoundHostIn}
use Rattle.hba_driver.specs.{Events.shared_by, Going.IsOfControl, HostTurns.{Host, HostTurn, Submitted, Ticked, Took}, Known.is_identify}
use Rattle.hba_driver.specs.{Known.is_request, Laws.{GoesOn, Kept, gives}, Modes.is_switching, Orders.{is_queued, request_fields}, Paths.reads_page}
use Rattle.hba_driver.specs.{Requests.{is_bad_count, is_bad_prd, is_full, is_mismatch, overlaps}, Seeing.Sight, Served.{IsOrdered, IsRequest}}
use Rattle.hba_driver.specs.{Served.{IsServed, IsStep}, Slot30.IsUnsent30, Steady.{HasSignature, IsAskedOf, IsSteady, IsSteadyPlan, IsSwitching}}
use Rattle.hba_driver.specs.{Steady.detects, Submits.{end_of, lowest_ended, new_entry, next_slot}, Ticks.{after_tick, effects, effects_due, turn}}
use Rattle.hba_driver.specs.Turns.{may_issue, stage_for}
use Rattle.hba_driver.specs.declared.effect.Effect.TheVariants as effect
use Rattle.hba_driver.specs.declared.turn.Act.TheVariants as act

-- ---- ticks

-- a request for this device waits in a slot, and the device is ready
pub record Waiting (plan : Plan) (entries : List (Option Entry)) (slot dev : ℕ) : Type 0 where
  pub below : slot < 30
  pub entry : Entry
  pub stands : entry_at entries slot ≡ Some entry
  pub may : may_issue plan (Some entry) ≡ true
  pub waits_is : waits entry.head ≡ true
  pub of_dev : entry.head.dev ≡ dev

-- slot 30 is free, or a path that holds it goes on with this stage
abbrev pub MayStep : Plan → (dev : ℕ) → Stage → Type 0
MayStep plan dev stage = ((plan.path ≡ None) × (dev < 15)) ⊎ (plan.path ≡ Some (record { dev = dev; stage = stage; asked = false }))

-- what is known if an act is due
abbrev pub Due : Sight → Plan → List (Option Entry) → Option Act → Type 0
Due v plan entries None = Unit {0}
Due v plan entries (Some (act.Opens k)) = (k ≡ plan.opened) × (plan.opened < 7)
Due v plan entries (Some act.Stops) = v.stopped ≡ true
Due v plan entries (Some (act.Restarts k)) = (k ≡ plan.restarted) × (plan.restarted < 2)
Due v plan entries (Some (act.Clears dev)) = v.faulty ≡ Some dev
Due v plan entries (Some (act.Orders order)) = plan.asked ≡ false
Due v plan entries (Some (act.Steps dev stage)) = MayStep plan dev stage
Due v plan entries (Some (act.Issues slot dev queued)) = (w : Waiting plan entries slot dev) × (is_queued w.entry.head.work ≡ queued)

-- the writes that open the port come before those that start it again, and these before any other act
abbrev pub Runs : Plan → Option Act → Type 0
Runs plan None = Unit {0}
Runs plan (Some (act.Opens k)) = Unit {0}
Runs plan (Some (act.Restarts k)) = nat_lt plan.opened 7 ≡ false
Runs plan (Some a) = (nat_lt plan.opened 7 ≡ false) × (nat_lt plan.restarted 2 ≡ false)

-- ---- calls

-- the request meets no refusal
pub record IsTaken (d : Driver) (memory : Memory) (request : Request) : Type 0 where
  pub counted : is_bad_count request ≡ false
  pub matched : is_mismatch request ≡ false
  pub few : length request.prds.items ≤ 248
  pub good : list_any (is_bad_prd (end_of memory)) request.prds.items ≡ false
  pub apart : overlaps d request ≡ false
  pub room : is_full d.entries ≡ false
  pub below : d.given ≢ 4294967295

-- ---- requests

-- the completion is of the lowest slot that has ended
pub record PollFacts (d : Driver) (c : Completion) : Type 0 where
  pub place : ℕ
  pub entry : Entry
  pub lowest : lowest_ended d.entries ≡ Some place
  pub there : entry_at d.entries place ≡ Some entry
  pub ticket : c.ticket.0 ≡ entry.head.ticket
  pub slot_is : c.slot ≡ place
  pub ended : entry.head.phase ≡ Ended c.outcome

-- the turn keeps the request in its slot, or gives it back
abbrev pub LivesOn : ℕ → Entry → HostTurn → Host → Type 0
LivesOn s e t new = Kept e (entry_at new.driver.entries s) ⊎ (gives s e t ≡ true)

-- the turn is a tick
abbrev pub ticks : HostTurn → Bool
ticks (Ticked acted) = true
ticks turn = false

-- it was there before, and goes on if the turn is a tick
pub record Stood (old : Driver) (t : HostTurn) (s : ℕ) (f : Entry) : Type 0 where
  pub entry : Entry
  pub here : entry_at old.entries s ≡ Some entry
  pub on : GoesOn entry f
  pub still : ticks t ≡ false → f ≡ entry

-- the turn submitted it in this slot
abbrev pub Fresh : Driver → HostTurn → ℕ → Entry → Type 0
Fresh old (Submitted dev request ticket) s f = (s ≡ next_slot old) × (new_entry (old.given + 1) dev request ≡ f)
Fresh old turn s f = ⊥

-- ---- events

-- the value has EN as the mode has it
abbrev pub keeps_en : Mode → ℕ → Bool
keeps_en Switching value = has_bit value en
keeps_en CommandBased value = not (has_bit value en)

-- a write of this value to the register keeps the port open
abbrev pub calm : Mode → Option Register → ℕ → Bool
calm mode None value = false
calm mode (Some Sact) value = true
calm mode (Some Ci) value = true
calm mode (Some Sntf) value = true
calm mode (Some Is) value = true
calm mode (Some Fbs) value = keeps_en mode value
calm mode (Some Cmd) value = has_bit value fre
calm mode (Some register) value = false

-- an effect that keeps the port open
abbrev pub calm_effect : Mode → Effect → Bool
calm_effect mode (effect.Writes offset value) = calm mode (register_at offset) value
calm_effect mode other = true

-- a write to the register leaves ST
abbrev pub firm : Option Register → Bool
firm None = false
firm (Some Cmd) = false
firm (Some register) = true

-- an effect that leaves ST
abbrev pub firm_effect : Effect → Bool
firm_effect (effect.Writes offset value) = firm (register_at offset)
firm_effect other = true

-- the tick is the next write that opens the port
pub record Opening (v : Sight) (file : TaskFile) (d : Driver) : Type 0 where
  pub less : d.plan.opened < 7
  pub one : effects v d ≡ opening_write d.plan.mode d.plan.opened ∷ []
  pub plan_is : (after_tick v file d).plan ≡ record d.plan { opened = d.plan.opened + 1 }

-- an act that leaves ST, and the number of writes that have started the port again
pub record Steady (mode : Mode) (a : Option Act) (before after : ℕ) : Type 0 where
  pub firm_is : list_all firm_effect (effects_due mode a) ≡ true
  pub same : after ≡ before

-- the act is the next write that starts the port again
pub record Restarting (mode : Mode) (a : Option Act) (before after : ℕ) : Type 0 where
  pub less : before < 2
  pub one : effects_due mode a ≡ restart_write before ∷ []
  pub next : after ≡ before + 1

-- it leaves ST, stops the port, or is the next write that starts it again
abbrev pub Way : Mode → Option Act → (before after : ℕ) → Type 0
Way mode a before after = Steady mode a before after ⊎ ((after ≡ 0) ⊎ Restarting mode a before after)

-- the tick of an open port
pub record Going (v : Sight) (file : TaskFile) (d : Driver) : Type 0 where
  pub least : 7 ≤ d.plan.opened
  pub quiet : list_all (calm_effect d.plan.mode) (effects v d) ≡ true
  pub opened_is : (after_tick v file d).plan.opened ≡ d.plan.opened
  pub mode_is : (after_tick v file d).plan.mode ≡ d.plan.mode
  pub way : Way d.plan.mode (turn v d).act d.plan.restarted (after_tick v file d).plan.restarted

-- the host port beside its memory
abbrev pub beside : Port → Memory → event.Host
beside port memory = record { port = port; memory = memory }

-- the port is open in this mode: its addresses, EN, FRE and ST
pub record IsUpIn (mode : Mode) (r : Registers) : Type 0 where
  pub list : r.clb ≡ 0
  pub list_high : r.clbu ≡ 0
  pub area_high : r.fbu ≡ 0
  pub switches : r.switching ≡ is_switching mode
  pub receives : r.receives ≡ true
  pub starts : r.started ≡ true

-- the same with FIS-based switching
abbrev pub IsUp : Registers → Type 0
IsUp r = IsUpIn Switching r

-- ---- issued

-- only this slot, and the command in it
pub record Asked (port : Port) (memory : Memory) (slot s : ℕ) (command : Command) : Type 0 where
  pub slot_is : s ≡ slot
  pub command_is : command_at memory port.registers.clb slot (has_bit port.registers.armed slot) ≡ Some command

-- the transfer is of the command in this slot
abbrev pub New : Memory → (ℕ → Option Command) → ℕ → Transfer → Type 0
New memory commands s t = (command : Command) × (commands s ≡ Some command) × (transfer_of memory command ≡ t)

-- an issue is one of the driver: of a request, of a step of a path, or of an order
abbrev pub From : Driver → (n s : ℕ) → Transfer → Type 0
From d n s t = IsRequest d n s t ⊎ (IsStep d n s t ⊎ IsOrdered d n s t)

-- nothing is issued in a slot, for any device
abbrev pub IsFree : Driver → ℕ → Type 0
IsFree d slot = (n : ℕ) (t : Transfer) → From d n slot t → ⊥

-- FRE and ST are set
pub record MayStop (r : Registers) : Type 0 where
  pub receives : r.receives ≡ true
  pub started : r.started ≡ true

-- the port switches between devices, and PxFBS shows this one with a fault
pub record MayClear (dev : ℕ) (port : Port) : Type 0 where
  pub below : dev < 16
  pub switches : port.registers.switching ≡ true
  pub faulty : cleared_device port.errors ≡ Some dev

-- what the acts that end a fault need of the port
abbrev pub MayEnd : Mode → Option Act → Port → Type 0
MayEnd mode (Some act.Stops) port = MayStop port.registers
MayEnd mode (Some (act.Clears dev)) port = (mode ≡ Switching) × MayClear dev port
MayEnd mode a port = Unit {0}

-- ---- delivery

-- none of its PRDs is one that the driver refuses
abbrev pub HasGoodPrds : ℕ → Entry → Type 0
HasGoodPrds end e = list_any (is_bad_prd end) e.prds ≡ false

-- the same of each request
abbrev pub HaveGoodPrds : ℕ → Driver → Type 0
HaveGoodPrds end d = (s : ℕ) (e : Entry) → entry_at d.entries s ≡ Some e → HasGoodPrds end e

-- ---- accepted

-- its PRDs are sound where they are, and header, command FIS and PRDs belong to one command
pub record IsFit (s : ℕ) (e : Entry) (m : Memory) : Type 0 where
  pub total : total_at m.structure (length m.client) (table_of s) (length e.prds) ≡ Some (total_of e.prds)
  pub proper : is_proper (header_for (request_of (request_fields s e.head)) (table_of s) (length e.prds)) (request_of (request_fields s e.head)) (total_of e.prds) s (is_queued e.head.work) ≡ true

-- the same of each request, in its slot
abbrev pub AreFit : Driver → Memory → Type 0
AreFit d m = (s : ℕ) (e : Entry) → entry_at d.entries s ≡ Some e → IsFit s e m

-- something is issued in a slot of a device
abbrev pub IsIssuedAt : Port → (n s : ℕ) → Issue → Type 0
IsIssuedAt port n s i = own_issue (slots_of n port.slots) s ≡ Some i

-- What holds for a host over turns from an opening, besides that it is sound: no bit of PxSACT waits for its
-- command between two turns.
pub record IsOnWayIn (mode : Mode) (h : Host) : Type 0 where
  pub sound : IsSoundHostIn mode h
  pub past : Touches
  pub served : IsServed h.driver (shared_by h) past
  pub unarmed : h.port.registers.armed ≡ 0
  pub fit : AreFit h.driver h.memory

-- the same with FIS-based switching
abbrev pub IsOnWay : Host → Type 0
IsOnWay h = IsOnWayIn Switching h

-- ---- steady

-- The plan stays steady for the device. A ready device stays ready. It is asked only if it was asked before,
-- or if it signed.
pub record PlanKeeps (n : ℕ) (signs : Type 0) (p q : Plan) : Type 0 where
  pub steady : IsSteadyPlan n q
  pub ready : device_at p n ≡ Ready → device_at q n ≡ Ready
  pub asks : IsAskedOf n q → IsAskedOf n p ⊎ signs

-- an order that is due is the plan's; a stage is due for the path that has slot 30, or for its device
abbrev pub DueOf : Sight → Plan → Option Act → Type 0
DueOf v plan None = Unit {0}
DueOf v plan (Some (act.Orders order)) = order ≡ plan.order
DueOf v plan (Some (act.Steps dev stage)) = (plan.path ≡ Some (record { dev = dev; stage = stage; asked = false })) ⊎ (stage_for v plan dev ≡ Some stage)
DueOf v plan (Some a) = Unit {0}

-- its signature stands in its row, if the driver uses FIS-based switching
abbrev pub Signs : ℕ → Host → Type 0
Signs n old = IsSwitching old → HasSignature n old

-- what a turn leaves of the driver
pub record DriverKeeps (n : ℕ) (signs : Type 0) (d e : Driver) : Type 0 where
  pub steady : IsSteady n e
  pub asks : IsAskedOf n e.plan → IsAskedOf n d.plan ⊎ signs

-- the device was absent before, if it is now
abbrev pub WasAbsent : ℕ → Plan → Plan → Type 0
WasAbsent n p q = device_at q n ≡ Absent → device_at p n ≡ Absent

-- it is looked for only while it is taken to be absent
abbrev pub IsSoughtAbsent : ℕ → Plan → Type 0
IsSoughtAbsent n p = detects n p.asked p.order ≡ true → device_at p n ≡ Absent

-- ---- done

-- a command of a device is issued in a slot; it is not a Control, and not one whose data ends it
pub record HasOut (port : Port) (slot dev : ℕ) : Type 0 where
  pub issue : Issue
  pub is : IsIssuedAt port dev slot issue
  pub pio : is_pio issue.work.kind ≡ false
  pub control : is_control issue.work.kind ≡ false

-- A request that is issued was reported as done, or its command is out. One that ended as Done was reported.
abbrev pub Stands : (ℕ → Entry → Type 0) → Port → ℕ → Entry → Phase → Type 0
Stands P port s e Waits = Unit {0}
Stands P port s e Issued = P s e ⊎ HasOut port s e.head.dev
Stands P port s e Aside = Unit {0}
Stands P port s e (Ended Done) = P s e
Stands P port s e (Ended outcome) = Unit {0}

-- the same in each slot, told of a request as it waited
abbrev pub AllStand : (ℕ → Entry → Type 0) → Host → Type 0
AllStand P h = (s : ℕ) (e : Entry) → entry_at h.driver.entries s ≡ Some e → Stands P h.port s (rephased Waits e) e.head.phase

-- the turn reports the request
abbrev pub Reports : Host → HostTurn → ℕ → Entry → Type 0
Reports old t s e = (entry_at old.driver.entries s ≡ Some (rephased Issued e)) × (completes s e.head.dev t ≡ true)

-- ---- goes on

-- the table of slot 30 can be read while the path there waits for a page
abbrev pub HasPage : Driver → Memory → Type 0
HasPage d memory =
    (path : Path) → d.plan.path ≡ Some path → path.asked ≡ true → reads_page path.stage ≡ true
    → read_fault memory.structure (length memory.client) (table_of 30 + 128) 1 ≡ None

-- bit 29 of PxIS, HBFS, is clear
abbrev pub NoFatal : ℕ → Type 0
NoFatal value = bit_at value 29 ≡ 0

-- no fault of the port stands, and PxIS shows none
pub record IsCalm (port : Port) : Type 0 where
  pub faultless : port.errors.port ≡ None
  pub quiet : NoFatal port.registers.interrupts

-- a host port that goes on: it is sound, its tables can be read, no fault stands, and it is started
pub record IsGoing (h : Host) : Type 0 where
  pub way : IsOnWay h
  pub tables : HaveTables (shared_by h) way.past
  pub page : HasPage h.driver h.memory
  pub calm : IsCalm h.port
  pub up : h.driver.plan.restarted ≡ 2

-- a turn that takes no FIS, or one of the control port
abbrev pub IsOfControlIn : HostTurn → Type 0
IsOfControlIn (Took frame report) = IsOfControl frame
IsOfControlIn turn = Unit {0}

-- ---- addresses

-- the command of each slot of a device has its PM Port
abbrev pub AreOfTheir : Port → Type 0
AreOfTheir port = (n s : ℕ) (c : Command) → n < 16 → is_some (own_issue (slots_of n port.slots) s) ≡ true → last_command port.commands s ≡ Some c → slice_index c.cfis 1 % 16 ≡ n

-- ---- known

-- a PIO data-in with bytes missing
pub record IsShort (own : DeviceSlots) : Type 0 where
  pub issue : Issue
  pub is : own_issue own 30 ≡ Some issue
  pub pio : is_pio issue.work.kind ≡ true
  pub short : is_whole_issue issue ≡ false

-- a device that the driver takes to be identified
abbrev pub is_trusted : Device → Bool
is_trusted Ready = true
is_trusted (Recovering (Log file)) = true
is_trusted device = false

-- a stage that reads the error log
abbrev pub is_logging : Stage → Bool
is_logging (ReadLog file) = true
is_logging stage = false

-- slot 30 reads the error log of device n
abbrev pub is_reading : ℕ → Option Path → Bool
is_reading n None = false
is_reading n (Some path) = (path.dev == n) && is_logging path.stage

-- the driver has not identified the device, and reads no log of it
pub record IsNew (n : ℕ) (plan : Plan) : Type 0 where
  pub device : is_trusted (device_at plan n) ≡ false
  pub path : is_reading n plan.path ≡ false

-- the stage is IDENTIFY DEVICE
abbrev pub is_named : Stage → Bool
is_named Identify = true
is_named stage = false

-- no request of the device is issued
abbrev pub NoneIssued : ℕ → List (Option Entry) → Type 0
NoneIssued n entries = (s : ℕ) (e : Entry) → entry_at entries s ≡ Some e → is_issued e.head ≡ true → e.head.dev ≢ n

-- the driver has not identified the device, reads no log of it, and has no request of it issued
pub record IsUnknown (n : ℕ) (d : Driver) : Type 0 where
  pub plan : IsNew n d.plan
  pub entries : NoneIssued n d.entries

-- slot 30 has an IDENTIFY DEVICE of the device whose data is still to come
pub record IsAwaited (n : ℕ) (port : Port) : Type 0 where
  pub own : IsShort (slots_of n port.slots)
  pub command : is_identify (last_command port.commands 30) ≡ true

-- the command in slot 30 is none of a request
abbrev pub IsPlain : Port → Type 0
IsPlain port = (c : Command) → last_command port.commands 30 ≡ Some c → is_request c.cfis ≡ false

-- if slot 30 has its IDENTIFY DEVICE, none of its data has come
abbrev pub Awaits : ℕ → Option Path → Port → Type 0
Awaits n o port = (p : Path) → o ≡ Some p → p.dev ≡ n → is_named p.stage ≡ true → p.asked ≡ true → IsAwaited n port

-- the driver has not identified the device, and no data of its IDENTIFY DEVICE has come
pub record HostUnknown (n : ℕ) (h : Host) : Type 0 where
  pub driver : IsUnknown n h.driver
  pub awaits : Awaits n h.driver.plan.path h.port

-- a host whose device, if it is not known yet, is not identified by the driver
pub record IsAsking (n : ℕ) (known : Bool) (h : Host) : Type 0 where
  pub way : IsOnWay h
  pub plain : IsPlain h.port
  pub their : AreOfTheir h.port
  pub unknown : known ≡ false → HostUnknown n h

-- ---- recovers

-- the command is issued in slot 30, and the rest of the view stays
pub record Issues30 (n : ℕ) (fields : H2dFields) (old new : Port) : Type 0 where
  pub state : (view_of n new).state ≡ (view_of n old).state
  pub fault : (view_of n new).fault ≡ (view_of n old).fault
  pub context : (view_of n new).slots.context ≡ (view_of n old).slots.context
  pub unsent : IsUnsent30 n fields new
