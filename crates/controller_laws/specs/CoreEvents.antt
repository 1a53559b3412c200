-- What the events of a controller are for its core, in order and number: none, one or two events of a port that holds no memory
-- (`hba_laws`), and for an access of eight bytes those of its two dwords.
use Rattle.std.specs.Prelude.{ℕ, ◌+◌, ◌^◌, ◌==◌, ◌%◌, Bool, true, false, if◌then◌else◌, List, [], ◌∷◌, ◌++◌}
use Rattle.slots.specs.Slots.{match_some}
use Rattle.ahci_registers.specs.Bits as line_bits
use Rattle.ahci_registers.specs.{Link.action_of, Offsets.register_at, declared.{link.Effect.Effect, register.Register.Register}}
use Rattle.ahci_registers.specs.declared.link.Effect.TheVariants as effect
use Rattle.ahci_registers.specs.declared.register.Register.TheVariants as ahci
use Rattle.host_memory.specs.declared.table.Prd.{Prd}
use Rattle.hba_fbs.specs.{Reading.shown_device, Registers.own_refusal_by, Taking.port_of, Turning.orders, Views.Port}
use Rattle.hba_fbs.specs.declared.{registers.Registers.Registers, report.TakeReport.TakeReport}
use Rattle.hba_fbs.specs.declared.greeting.Line.TheVariants as on_line
use Rattle.hba_fbs.specs.declared.register.Register as port_register
use Rattle.hba_fbs.specs.declared.register.Register.TheVariants as on_port
use Rattle.hba_laws.specs.Cores as core
use Rattle.hba_laws.specs.{Cores.{CoreEvent, RunsBy}, CoreHistories.AreSoundBy}
use Rattle.ahci_controller.specs.{Access.{fits, high_of, low_of, merged, ones_of, spread_of}, Issuing.{device_of, offered_command}, Next.is_halted}
use Rattle.ahci_controller.specs.{Next.{next_write, turn_to, written}, Offers.{offer_in, offers_nothing}, Own.engine_of, Reading.{is_idle, shown}}
use Rattle.ahci_controller.specs.{States.{ControllerState, kept}, Taking.room_for, Wide.{WritesFitting, block_of}, Writing.{armed_by, clears_busy}}
use Rattle.ahci_controller.specs.Writing.{control_after, engine, idle_for, line_of, link_effect, switched_by, told_refusal}
use Rattle.ahci_controller.specs.declared.{access.Width.Width, feeding.Fed.Fed, issuing.Supply.Supply, next.Next.Next, wide.WideWritten.WideWritten}
use Rattle.ahci_controller.specs.declared.feeding.Fed.TheVariants as fed_answer
use Rattle.ahci_controller.specs.declared.issuing.Supply.TheVariants as supply_answer
use Rattle.ahci_controller.specs.declared.next.Next.TheVariants as next_step
use Rattle.controller_laws.specs.Events.{Does, Event, Gathered, Left, Missed, NotThere, Runs, Said, Supplied, Took, Turned, Wrote, WroteWide}

-- A controller keeps the tables of its commands itself, so histories of its devices have none.
abbrev pub no_tables : ℕ → List Prd
no_tables slot = []

-- ---- a write of a register (AHCI 1.3.1, 3.1 and 3.3)

-- a value for a register of the core, unless it refuses it
abbrev pub told : port_register.Register → ControllerState → ℕ → List CoreEvent
told register c value = match_some (told_refusal c register value)
    (core.Wrote register value (offer_in offers_nothing) no_tables ∷ []) (λ e. [])

-- a reset of the controller: GHC.HR
abbrev pub reset_by : (resets : Bool) → List CoreEvent
reset_by true = core.Restarted ∷ core.Hung 15 on_line.Empty ∷ []
reset_by false = []

-- a COMRESET, or the interface is disabled
abbrev pub relinked_by : Effect → ControllerState → ℕ → List CoreEvent
relinked_by effect.Nothing c value = []
relinked_by effect.LinkReset c value =
    core.Relinked ∷ core.Hung 15 (line_of (action_of (control_after c value))) ∷ []
relinked_by effect.LinkUp c value = []

-- PxCMD: CLO, and then ST, FRE and PMA
abbrev pub overridden_by : (clears : Bool) → Port → List CoreEvent
overridden_by true port = core.Overrode (shown_device port) ∷ []
overridden_by false port = []

-- what is written to PxCMD of the core, unless it refuses it
abbrev pub commanded_with : Registers → ℕ → List CoreEvent
commanded_with registers engine_is =
    match_some (own_refusal_by on_port.Cmd registers engine_is) (core.Commanded engine_is ∷ []) (λ e. [])

abbrev pub commanded_by : ControllerState → ℕ → List CoreEvent
commanded_by c value = commanded_with c.core.registers (engine c (idle_for c value) value)

abbrev pub of_register : Register → ControllerState → ℕ → List CoreEvent
of_register ahci.Ghc c value = reset_by (line_bits.has_bit value 0)
of_register ahci.PxIs c value = told on_port.Is c value
of_register ahci.PxCmd c value = overridden_by (clears_busy c value) c.core ++ commanded_by c value
of_register ahci.PxSctl c value = relinked_by (link_effect c value) c value
of_register ahci.PxSerr c value = told on_port.Serr c value
of_register ahci.PxSact c value = told on_port.Sact c (armed_by c.core value)
of_register ahci.PxSntf c value = told on_port.Sntf c value
of_register ahci.PxFbs c value = told on_port.Fbs c (switched_by c value)
of_register register c value = []

abbrev pub of_write : ControllerState → (offset value : ℕ) → List CoreEvent
of_write c offset value = match_some (register_at offset) [] (λ register. of_register register c value)

-- some bits of a dword
abbrev pub of_part : ControllerState → (offset value mask : ℕ) → List CoreEvent
of_part c offset value mask = if mask == 0 then []
    else match_some (register_at offset) [] (λ register. of_register register c (merged register (shown register c) value mask))

-- the lower dword first
abbrev pub of_wide : (does_fit : Bool) → (old : ControllerState) → (offset : ℕ) → (width : Width) → (value : ℕ)
    → (written : WideWritten) → (new : ControllerState) → WritesFitting does_fit old offset width value written new
    → List CoreEvent
of_wide true old offset width value written new writes =
    of_part old (block_of offset) (low_of (spread_of (offset % 8) value))
    (low_of (spread_of (offset % 8) (ones_of width)))
    ++ of_part writes.middle (block_of offset + 4) (high_of (spread_of (offset % 8) value))
    (high_of (spread_of (offset % 8) (ones_of width)))
of_wide false old offset width value written new writes = []

-- ---- all others

-- the command that is kept now is placed
abbrev pub of_supply : Supply → (slot : ℕ) → ControllerState → List CoreEvent
of_supply (supply_answer.Issued dev) slot new = match_some (kept new slot) [] (λ command.
    core.Placed (device_of command) (2 ^ slot) (offer_in (offered_command command)) no_tables ∷ [])
of_supply supply slot new = []

-- while ST is 0 a frame is greeted
abbrev pub of_frame : (started : Bool) → ControllerState → List ℕ → TakeReport → CoreEvent
of_frame true old frame report = core.Took frame (room_for old (port_of frame)) report
of_frame false old frame report = core.Greeted frame report

abbrev pub of_next : Next → ControllerState → List CoreEvent
of_next (next_step.Order dev slot fis) old = core.Chose (orders old.core slot) fis ∷ []
of_next next old = []

-- ST was held, and the port starts: nothing goes to a device then
abbrev pub of_turn : (halted started : Bool) → Next → ControllerState → List CoreEvent
of_turn true started next old = of_next next old
of_turn false true next old = of_next next old
of_turn false false next old =
    commanded_with old.core.registers (engine_of old.own (is_idle (written old)) old.core.registers)

abbrev pub of_turned : Next → ControllerState → List CoreEvent
of_turned next old = match_some (next_write old)
    (of_turn (is_halted (written old)) old.core.registers.started next old) (λ write. of_next next old)

abbrev pub of_fed : Fed → ControllerState → (dev : ℕ) → List ℕ → List CoreEvent
of_fed (fed_answer.Goes message line) old dev frame = core.Chose (turn_to old dev) frame ∷ []
of_fed fed old dev frame = []

abbrev pub of_event : (old : ControllerState) → (event : Event) → (new : ControllerState) → Does old event new
    → List CoreEvent
of_event old (Wrote offset value written) new does = of_write old offset value
of_event old (WroteWide offset width value written) new does =
    of_wide (fits width offset) old offset width value written new does
of_event old (Supplied slot number bytes supply) new does = of_supply supply slot new
of_event old (Missed slot number supply) new does = []
of_event old (Took frame took) new does = of_frame old.core.registers.started old frame took.report ∷ []
of_event old (Left frame why) new does = []
of_event old (Turned next) new does = of_turned next old
of_event old (Said write) new does = []
of_event old (Gathered dev number frame fed) new does = of_fed fed old dev frame
of_event old (NotThere dev number fed) new does = []

abbrev pub of_all : (old : ControllerState) → (events : List Event) → (new : ControllerState) → Runs old events new
    → List CoreEvent
of_all old [] new run = []
of_all old (event ∷ events) new run =
    of_event old event run.1.0 run.1.1 ++ of_all run.1.0 events new run.1.2

-- A list of these is a run of the core, each port in between keeps the rules of every one, and what is received is a frame.
pub record AreCoreEvents (old : Port) (events : List CoreEvent) (new : Port) : Type 0 where
  pub run : RunsBy old events new
  pub sound : AreSoundBy old new events run

-- So whatever `hba_laws` says of a core's runs is said of the core of a controller.
abbrev pub EventsAreCoreEvents : Type 0
EventsAreCoreEvents =
    (old new : ControllerState) (events : List Event) (run : Runs old events new)
    → AreCoreEvents old.core (of_all old events new run) new.core
