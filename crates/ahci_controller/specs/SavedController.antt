-- A controller as words.
use Rattle.std.specs.Prelude.{ℕ, List, Option}
use Rattle.std.proofs.Common.{ap}
use Rattle.saved_state.specs.Parts.{Parts, array, both, maybe, number, ruled, seen_as, three}
use Rattle.ahci_registers.specs.{declared.link.LinkControl.LinkControl, Saved.{KeepsLink, link_apart, put_link}}
use Rattle.guest_fetch.specs.{Commands.Fetched, Fetch.Fetching, SavedCommands.{command_words, fetch_words}}
use Rattle.hba_fbs.specs.{Saved.{KeepsPort, port_apart, put_port}, Views.Port}
use Rattle.ahci_controller.specs.{Rules.IsRuled, Saved.{circle_words, latch_words, own_words, wants_words, writes_words}, States.ControllerState}
use Rattle.ahci_controller.specs.declared.{circle.Circle.Circle, latch.Latch.Latch, own.OwnRegisters.OwnRegisters, wants.{Wants.Wants, Writes.Writes}}

abbrev pub core_words : Parts Port
core_words = record { put = put_port; keeps = KeepsPort; apart = port_apart }

abbrev pub link_words : Parts LinkControl
link_words = record { put = put_link; keeps = KeepsLink; apart = link_apart }

-- the parts, in the order in which they are restored
abbrev pub Front : Type 0
Front = Port × Latch × LinkControl

abbrev pub Wanted : Type 0
Wanted = OwnRegisters × Wants × List (Option Fetching)

abbrev pub Moving : Type 0
Moving = (List (Option Fetched) × Writes) × (Circle × List ℕ)

abbrev pub ControllerParts : Type 0
ControllerParts = Front × Wanted × Moving

abbrev pub controller_parts : ControllerState → ControllerParts
controller_parts c = (
  (c.core, c.latch, c.link),
  (c.own, c.wants, c.fetches),
  ((c.commands, c.writes), (c.circle, c.cursors)),
)

abbrev pub controller_of_parts : ControllerParts → ControllerState
controller_of_parts p = record {
  core = p.0.0;
  latch = p.0.1;
  link = p.0.2;
  own = p.1.0;
  wants = p.1.1;
  fetches = p.1.2;
  commands = p.2.0.0;
  writes = p.2.0.1;
  circle = p.2.1.0;
  cursors = p.2.1.1;
}

abbrev pub of_front : Parts Front
of_front = three core_words latch_words link_words

abbrev pub of_wanted : Parts Wanted
of_wanted = three own_words wants_words (array 32 (maybe fetch_words))

abbrev pub of_moving : Parts Moving
of_moving = both (both (array 32 (maybe command_words)) writes_words) (both circle_words (array 16 (number 32)))

abbrev pub of_controller : Parts ControllerParts
of_controller = three of_front of_wanted of_moving

-- the parts of a controller, whose rules need not hold
abbrev pub parts_words : Parts ControllerState
parts_words = seen_as of_controller controller_parts (λ a b e. ap controller_of_parts e)

-- a controller, whose rules hold
abbrev pub KeepsController : ControllerState → Type 0
KeepsController c = parts_words.keeps c × IsRuled c

abbrev pub controller_words : Parts ControllerState
controller_words = ruled parts_words (λ c. c) (λ a b e. e) KeepsController (λ c k. k.0)
