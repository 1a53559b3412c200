-- What the command of a slot is: what was supplied for it since its bit of PxCI was written, header, FIS and entries, and
-- nothing else. AHCI 1.3.1, sections 3.3.14 (PxCI), 4.2.2, 4.2.3, 5.3.6 and 5.4 (a port fetches a command).
use Rattle.std.specs.Prelude.{◌≡◌, ◌<◌, ℕ, ◌==◌, Bool, true, false, if◌then◌else◌, List, [], ◌∷◌, ◌++◌, length, Option, Some, None, MatchOption}
use Rattle.slots.specs.Slots.{has_bit}
use Rattle.guest_fetch.specs.{Commands.Fetched, Entries.reached, Fetch.Fetching, Fetching.{supplied, want_of}, Headers.{header_in, header_place}}
use Rattle.guest_fetch.specs.{Heads.head_of, Runs.entries_of, declared.{fetch.Step.TheVariants.AtHeader, head.Head.Head}}
use Rattle.guest_fetch.specs.declared.fetch.Supplied as came
use Rattle.guest_fetch.specs.declared.fetch.Supplied.TheVariants as came_as
use Rattle.hba_commands.specs.declared.command.Command as core_command
use Rattle.hba_fbs.specs.Views.{last_command}
use Rattle.ahci_controller.specs.{Access.fits, Own.list_of, States.{ControllerState, fetch_at, kept}, Wide.WritesFitting, declared.access.Width.Width}
use Rattle.ahci_controller.specs.declared.issuing.Supply.{Supply, TheVariants.{Issued, More, NotTaken, OutOfMemory, Stale}}
use Rattle.ahci_controller.specs.declared.wide.WideWritten.{WideWritten}
use Rattle.controller_laws.specs.Events.{Does, Event, Gathered, IsController, Left, Missed, NotThere, Runs, Said, Supplied, Took, Turned, Wrote}
use Rattle.controller_laws.specs.Events.{WroteWide}

-- where a slot's header lies, by the command list in use, and what was supplied, one part after another
pub record Source : Type 0 where
  pub at : ℕ
  pub parts : List (List ℕ)

-- of one slot: of the command that is being read, and of the one that was issued last; None where nothing is known of it
pub record Sources : Type 0 where
  pub coming : Option Source
  pub issued : Option Source

abbrev pub no_sources : Sources
no_sources = record { coming = None; issued = None }

-- ---- over a run

-- one part more
abbrev pub with_part : ControllerState → ℕ → Option Source → List ℕ → Source
with_part c s None bytes = record { at = header_place (list_of c.own) s; parts = bytes ∷ [] }
with_part c s (Some source) bytes = record { at = source.at; parts = source.parts ++ bytes ∷ [] }

-- Bytes that were wanted are a part, and the last part makes the command. Where memory is refused, they are none.
abbrev pub after_supply : Supply → ControllerState → ℕ → List ℕ → Sources → Sources
after_supply More c s bytes was = record { coming = Some (with_part c s was.coming bytes); issued = was.issued }
after_supply (Issued dev) c s bytes was = record { coming = None; issued = Some (with_part c s was.coming bytes) }
after_supply (NotTaken reason message line) c s bytes was = record { coming = None; issued = was.issued }
after_supply OutOfMemory c s bytes was = was
after_supply Stale c s bytes was = was

-- a command is read as long as its slot is pending
abbrev pub while_pending : ControllerState → ℕ → Sources → Sources
while_pending c s was =
    if has_bit c.wants.pending s then was else record { coming = None; issued = was.issued }

abbrev pub after_wide : (does_fit : Bool) → (s : ℕ) → (old : ControllerState) → (offset : ℕ) → (width : Width) → (value : ℕ)
    → (written : WideWritten) → (new : ControllerState) → WritesFitting does_fit old offset width value written new
    → Sources → Sources
after_wide true s old offset width value written new does was =
    while_pending new s (while_pending does.middle s was)
after_wide false s old offset width value written new does was = was

-- what is supplied for other slots is none of this one's
abbrev pub sources_by : (s : ℕ) → (old : ControllerState) → (event : Event) → (new : ControllerState) → Does old event new
    → Sources → Sources
sources_by s old (Wrote offset value written) new does was = while_pending new s was
sources_by s old (WroteWide offset width value written) new does was =
    after_wide (fits width offset) s old offset width value written new does was
sources_by s old (Supplied slot number bytes supply) new does was =
    if slot == s then after_supply supply old s bytes was else was
sources_by s old (Missed slot number supply) new does was = if slot == s then after_supply supply old s [] was else was
sources_by s old (Took frame took) new does was = was
sources_by s old (Left frame why) new does was = was
sources_by s old (Turned next) new does was = was
sources_by s old (Said write) new does was = was
sources_by s old (Gathered dev number frame fed) new does was = was
sources_by s old (NotThere dev number fed) new does was = was

abbrev pub sources_after : (s : ℕ) → Sources → (old : ControllerState) → (events : List Event) → (new : ControllerState)
    → Runs old events new → Sources
sources_after s was old [] new run = was
sources_after s was old (event ∷ events) new run =
    sources_after s (sources_by s old event run.1.0 run.1.1 was) run.1.0 events new run.1.2

-- ---- what the command is

-- with header and FIS, and of the entries of all parts those that its bytes reach
abbrev pub command_with : ℕ → Head → List (List ℕ) → Fetched
command_with at head entries = record {
  at = at;
  head = head;
  table = record { entries = reached head.work.len (entries_of entries); len = head.work.len };
  moved = 0;
}

abbrev pub command_in : ℕ → List (List ℕ) → Option Fetched
command_in at [] = None
command_in at (header ∷ []) = None
command_in at (header ∷ fis ∷ entries) = Some (command_with at (head_of (header_in header) fis) entries)

-- the command that these bytes are: a function of them
abbrev pub command_of : Source → Option Fetched
command_of source = command_in source.at source.parts

-- as it was before any of its bytes moved
abbrev pub unmoved : Fetched → Fetched
unmoved command = record { at = command.at; head = command.head; table = command.table; moved = 0 }

-- the command of a slot is what was supplied for it
abbrev pub IsReadFrom : Option Source → Option Fetched → Type 0
IsReadFrom None command = Unit {0}
IsReadFrom (Some source) None = ⊥
IsReadFrom (Some source) (Some command) = command_of source ≡ Some (unmoved command)

-- the parts, each as long as it was wanted, come to this
abbrev pub ComesOn : (Fetching → Type 0) → came.Supplied → Type 0
ComesOn goes (came_as.More f) = goes f
ComesOn goes other = ⊥

abbrev pub ComesTo : Fetching → List (List ℕ) → Fetching → Type 0
ComesTo last [] f = f ≡ last
ComesTo last (bytes ∷ rest) f =
    (length bytes ≡ (want_of f).len) × ComesOn (ComesTo last rest) (supplied f bytes)

-- so it is of one that is being read
abbrev pub IsComing : Option Source → Option Fetching → Type 0
IsComing None None = Unit {0}
IsComing None (Some fetch) = ⊥
IsComing (Some source) None = ⊥
IsComing (Some source) (Some fetch) = ComesTo fetch source.parts (record { at = source.at; step = AtHeader })

pub record AreSources (c : ControllerState) (s : ℕ) (sources : Sources) : Type 0 where
  pub long : length c.fetches ≡ 32
  pub coming : IsComing sources.coming (fetch_at c s)
  pub issued : IsReadFrom sources.issued (kept c s)

-- ---- the law

-- a slot that is not pending has none that are known
abbrev pub StartsUnread : Type 0
StartsUnread =
    (c : ControllerState) → IsController c → length c.fetches ≡ 32 → (s : ℕ) → s < 32 → has_bit c.wants.pending s ≡ false
    → AreSources c s no_sources

-- over every run the command of a slot is what was supplied for it, whatever else was supplied, and whatever later
abbrev pub CommandsAreSupplied : Type 0
CommandsAreSupplied =
    (old new : ControllerState) (events : List Event) (run : Runs old events new) (s : ℕ) → s < 32
    → (was : Sources) → AreSources old s was → AreSources new s (sources_after s was old events new run)

-- and what the core issued last in the slot has its FIS, and moves its bytes
abbrev pub IsIssuedFrom : Option Fetched → core_command.Command → Type 0
IsIssuedFrom None command = ⊥
IsIssuedFrom (Some f) command = command ≡ record { work = f.head.work; cfis = f.head.cfis; table = 0; count = 0 }

abbrev pub CoreHasSupplied : Type 0
CoreHasSupplied =
    (c : ControllerState) → IsController c → (s : ℕ) (sources : Sources) → AreSources c s sources
    → (source : Source) → sources.issued ≡ Some source
    → MatchOption (last_command c.core.commands s) (Unit {0}) (IsIssuedFrom (command_of source))
