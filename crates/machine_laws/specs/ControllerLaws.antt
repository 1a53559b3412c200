-- What `controller_laws` says of the controller of a machine, over every run of the machine: AHCI 1.3.1, 3.3.13 (PxSACT), 3.3.14 (PxCI),
-- 4.2 (commands, and where their bytes go), 5.3 and 10.7.1 (the interrupt line).
use Rattle.std.specs.Prelude.{◌≡◌, ◌<◌, ℕ, Bool, true, false, List, [], ◌∷◌, ◌++◌, Option, Some, None, MatchOption}
use Rattle.slots.specs.Slots.{has_bit}
use Rattle.ahci_registers.specs.declared.register.Register.TheVariants.{PxCi, PxSact}
use Rattle.hba_fbs.specs.Views.{last_command}
use Rattle.hba_laws.specs.{CoreHistories.history_through, History.History}
use Rattle.ahci_controller.specs.{Next.next_write, Reading.shown, States.ControllerState, declared.next.Next.Next}
use Rattle.ahci_controller.specs.declared.next.Next.TheVariants as next
use Rattle.controller_laws.specs.{Active.ActiveFalls, Carrying.{AreSaid, Carrying, carrying_after}, CoreEvents.{AreCoreEvents, of_event}}
use Rattle.controller_laws.specs.{Ends.{AreTold, Falls}, Events.Event, Interrupts.{GoesBy, IsLatched, edges_in, line_shown}, Places.IsWritten}
use Rattle.controller_laws.specs.Sources.{AreSources, IsIssuedFrom, Source, Sources, command_of, no_sources, sources_after}
use Rattle.controller_laws.specs.Events as call
use Rattle.ahci_machine.specs.{Registers.{lent_bytes, lent_by as lent_in}, Acts.lent_by, States.{HasRules, IsOpeningMachine, MachineState}}
use Rattle.ahci_machine.specs.declared.act.Act.TheVariants as act
use Rattle.machine_laws.specs.{Controllers.{GathersDue, deed_calls}, Deeds.{Deed, Does, Moved}}

-- ---- runs

-- these deeds, one after another, and each machine between them keeps the rules of every one, which `Machine::keeps_rules` hands out
abbrev pub RunsRuled : MachineState → List Deed → MachineState → Type 0
RunsRuled old [] new = HasRules old × (new ≡ old)
RunsRuled old (deed ∷ later) new = HasRules old × ((next : MachineState) × Does old deed next × RunsRuled next later new)

-- all of them, as calls of the controller
abbrev pub calls_in : (old : MachineState) → (deeds : List Deed) → (new : MachineState) → RunsRuled old deeds new → List Event
calls_in old [] new run = []
calls_in old (deed ∷ later) new run = deed_calls old deed run.1.0 run.1.1 ++ calls_in run.1.0 later new run.1.2

-- they are a run of the controller, and what the machine gathers is due behind them
pub record ControllerRuns (old : MachineState) (deeds : List Deed) (new : MachineState) (run : RunsRuled old deeds new) : Type 0 where
  pub calls : call.Runs old.controller (calls_in old deeds new run) new.controller
  pub due : GathersDue new

abbrev pub RunsAreCalls : Type 0
RunsAreCalls = (old : MachineState) (deeds : List Deed) (new : MachineState) (run : RunsRuled old deeds new) → GathersDue old
    → ControllerRuns old deeds new run

-- ---- bits that fall

-- a bit of PxCI or PxSACT that falls by a call falls as it may
pub record FallAsTheyMay (past : ℕ → History) (old : ControllerState) (event : Event) (new : ControllerState) (does : call.Does old event new)
    (are : AreCoreEvents old.core (of_event old event new does) new.core) : Type 0 where
  pub issues : (s : ℕ) → s < 32 → has_bit (shown PxCi old) s ≡ true → has_bit (shown PxCi new) s ≡ false → Falls s past old event new does are.run
  pub active : (s : ℕ) → s < 32 → has_bit (shown PxSact old) s ≡ true → has_bit (shown PxSact new) s ≡ false
      → ActiveFalls s past old event new does are.run

-- so it is by each of these, as the devices have these histories before them
abbrev pub AllFall : (past : ℕ → History) → (old : ControllerState) → (events : List Event) → (new : ControllerState)
    → call.Runs old events new → Type 0
AllFall past old [] new run = Unit {0}
AllFall past old (event ∷ events) new run =
    (are : AreCoreEvents old.core (of_event old event run.1.0 run.1.1) run.1.0.core)
    × FallAsTheyMay past old event run.1.0 run.1.1 are
    × AllFall (λ n. history_through n (past n) old.core run.1.0.core (of_event old event run.1.0 run.1.1) are.run) run.1.0 events new run.1.2

-- ---- the laws

-- What was supplied for a slot is its command, and what was issued in it; the bytes of each Data FIS go to their places, each once, in
-- order; the line goes as IS and GHC.IE show; and bits of PxCI and PxSACT fall only as they may.
pub record HasLaws (old : MachineState) (calls : List Event) (new : MachineState) (run : call.Runs old.controller calls new.controller) : Type 0 where
  pub supplied : (s : ℕ) → s < 32 → (was : Sources) → AreSources old.controller s was
      → AreSources new.controller s (sources_after s was old.controller calls new.controller run)
  pub issued : (s : ℕ) (sources : Sources) → AreSources new.controller s sources → (source : Source) → sources.issued ≡ Some source
      → MatchOption (last_command new.controller.core.commands s) (Unit {0}) (IsIssuedFrom (command_of source))
  pub said : (was : Option Carrying) → AreSaid old.controller was
      → AreSaid new.controller (carrying_after was old.controller calls new.controller run)
  pub line : GoesBy (line_shown old.controller) (edges_in calls) (line_shown new.controller)
  pub latched : IsLatched old.controller → IsLatched new.controller
  pub fall : (past : ℕ → History) → AreTold old.controller.core past → AllFall past old.controller calls new.controller run

abbrev pub ControllerHasLaws : Type 0
ControllerHasLaws = (old : MachineState) (deeds : List Deed) (new : MachineState) (run : RunsRuled old deeds new)
    → (runs : ControllerRuns old deeds new run) → HasLaws old (calls_in old deeds new run) new runs.calls

-- A machine that opens: it gathers nothing, no device has a history, nothing was supplied, nothing is to be written, and the line is down.
pub record OpensSo (m : MachineState) : Type 0 where
  pub due : GathersDue m
  pub told : AreTold m.controller.core (λ n. [])
  pub sources : (s : ℕ) → s < 32 → AreSources m.controller s no_sources
  pub said : AreSaid m.controller None
  pub latched : IsLatched m.controller
  pub line : line_shown m.controller ≡ false

abbrev pub OpensLawful : Type 0
OpensLawful = (ports : ℕ) (legacy : Bool) (m : MachineState) → IsOpeningMachine ports legacy m → HasRules m → OpensSo m

-- ---- what the caller is told

-- What it is told to write are bytes of the frame that came, at the places of its command's table; or that frame; or PRDBC. They are
-- lent until the next call.
pub record WritesRightly (old : MachineState) (write : Next) (new : MachineState) : Type 0 where
  pub placed : IsWritten old.controller write
  pub lent : lent_bytes new ≡ lent_in (lent_by write) old.incoming

abbrev pub WritesArePlaced : Type 0
WritesArePlaced = (old : MachineState) (write : Next) (new : MachineState) → Does old (Moved (act.Writes write)) new → WritesRightly old write new

-- bytes for the guest
abbrev pub is_write : Next → Bool
is_write (next.Payload m) = true
is_write (next.Posted m) = true
is_write (next.Counted c) = true
is_write said = false

-- what the controller says to do next is no such bytes: so all that it has for the guest is told to the caller
abbrev pub TurnsWriteNothing : Type 0
TurnsWriteNothing = (old : MachineState) (said : Next) (new : MachineState) → Does old (Moved (act.Turns said)) new → is_write said ≡ false

-- the line that it is told is the one that IS and GHC.IE show, and nothing is to be written to the guest then
abbrev pub LinesAreShown : Type 0
LinesAreShown = (old : MachineState) (line : Bool) (new : MachineState) → Does old (Moved (act.Line line)) new
    → (line ≡ line_shown new.controller) × (next_write new.controller ≡ None)
