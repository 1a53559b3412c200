-- What a caller knows of each of its calls: AHCI 1.3.1, 3.1.3 (IS), 3.3.13 (PxSACT), 3.3.14 (PxCI), 4.2 (commands) and 5.3.
use Rattle.std.specs.Prelude.{◌≡◌, ◌<◌, ℕ, true, false, [], ◌∷◌, Option}
use Rattle.slots.specs.Slots.{has_bit}
use Rattle.ahci_registers.specs.declared.register.Register.TheVariants.{PxCi, PxSact}
use Rattle.hba_laws.specs.History.{History}
use Rattle.ahci_controller.specs.{Reading.shown, States.ControllerState}
use Rattle.controller_laws.specs.{Active.{ActiveBitsFall, ActiveFalls}, Carrying.{AllAreSaid, AreSaid, BytesAreSaid, Carrying, DataIsOwn}}
use Rattle.controller_laws.specs.{Carrying.carrying_after_call, CoreEvents.{AreCoreEvents, EventsAreCoreEvents, of_event}, Ends.{AreTold, Falls}}
use Rattle.controller_laws.specs.{Ends.IssuesFall, Events.{Does, Event}, Interrupts.{GoesBy, IsLatched, LineIsKept, LineIsTold, StaysLatched}}
use Rattle.controller_laws.specs.{Interrupts.{edges_in, line_shown}, Sources.{AreSources, CommandsAreSupplied, Sources, no_sources, sources_by}}

-- the laws, as `controller_laws` has them
pub record Laws : Type 0 where
  pub events : EventsAreCoreEvents
  pub falls : IssuesFall
  pub active : ActiveBitsFall
  pub supplied : CommandsAreSupplied
  pub said : BytesAreSaid
  pub own : DataIsOwn
  pub all : AllAreSaid
  pub told : LineIsTold
  pub kept : LineIsKept
  pub latched : StaysLatched

-- the call, as events of the core
pub record IsCall (old : ControllerState) (event : Event) (new : ControllerState) : Type 0 where
  pub does : Does old event new
  pub are : AreCoreEvents old.core (of_event old event new does) new.core
  -- whatever happened before it, each bit of PxCI that falls does so for one of these reasons
  pub falls : (past : ℕ → History) → AreTold old.core past
      → (s : ℕ) → s < 32 → has_bit (shown PxCi old) s ≡ true → has_bit (shown PxCi new) s ≡ false
      → Falls s past old event new does are.run
  -- and each bit of PxSACT for one of these
  pub active : (past : ℕ → History) → AreTold old.core past
      → (s : ℕ) → s < 32 → has_bit (shown PxSact old) s ≡ true → has_bit (shown PxSact new) s ≡ false
      → ActiveFalls s past old event new does are.run
  -- the command of each slot goes on to be what was supplied for it
  pub sources : (s : ℕ) → s < 32 → (was : Sources) → AreSources old s was
      → AreSources new s (sources_by s old event new does was)
  -- the bytes that are said of a FIS go on to be its first ones, at their places
  pub said : (was : Option Carrying) → AreSaid old was → AreSaid new (carrying_after_call old event new does was)
  -- what it tells of the line is what became of it
  pub line : GoesBy (line_shown old) (edges_in (event ∷ [])) (line_shown new)
  pub latched : IsLatched old → IsLatched new

-- a controller that opens: no device has a history, nothing is supplied or to be written, and the line is down
pub record OpensSo (c : ControllerState) : Type 0 where
  pub told : AreTold c.core (λ n. [])
  pub sources : (s : ℕ) → s < 32 → AreSources c s no_sources
  pub latched : IsLatched c
  pub line : line_shown c ≡ false
