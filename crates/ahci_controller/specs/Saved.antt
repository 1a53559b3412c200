-- The parts of a controller as words, but for its core.
use Rattle.std.specs.Prelude.{ℕ, List, Bool, Option}
use Rattle.std.proofs.Common.{ap}
use Rattle.saved_state.specs.Parts.{Parts, array, both, flag, maybe, number, seen_as, three}
use Rattle.ahci_registers.specs.{declared.lines.Lines.Lines, Saved.{KeepsLines, lines_apart, put_lines}}
use Rattle.guest_fetch.specs.{declared.moves.Move.Move, Saved.move_words}
use Rattle.ahci_controller.specs.declared.{circle.Circle.Circle, latch.Latch.Latch, own.{Base.Base, OwnRegisters.OwnRegisters}, wants.Carried.Carried}
use Rattle.ahci_controller.specs.declared.wants.{Wants.Wants, Writes.Writes}

-- ---- interrupts

abbrev pub lines_words : Parts Lines
lines_words = record { put = put_lines; keeps = KeepsLines; apart = lines_apart }

abbrev pub latch_parts : Latch → Lines × Bool
latch_parts l = (l.lines, l.pending)

abbrev pub of_latch : Parts (Lines × Bool)
of_latch = both lines_words flag

abbrev pub latch_words : Parts Latch
latch_words = seen_as of_latch latch_parts (λ a b e. ap (λ p. record { lines = p.0; pending = p.1 }) e)

-- ---- registers

abbrev pub base_parts : Base → ℕ × ℕ
base_parts b = (b.lower, b.upper)

abbrev pub of_base : Parts (ℕ × ℕ)
of_base = both (number 32) (number 32)

abbrev pub base_words : Parts Base
base_words = seen_as of_base base_parts (λ a b e. ap (λ p. record { lower = p.0; upper = p.1 }) e)

abbrev pub OwnParts : Type 0
OwnParts = ((Base × Base) × (Base × Base)) × (Bool × Bool × Bool) × (ℕ × ℕ × ℕ)

abbrev pub own_parts : OwnRegisters → OwnParts
own_parts o = (
  ((o.list, o.area), (o.list_used, o.area_used)),
  (o.starts, o.receives, o.multiplied),
  (o.current, o.errors, o.bad),
)

abbrev pub own_of_parts : OwnParts → OwnRegisters
own_of_parts p = record {
  list = p.0.0.0;
  area = p.0.0.1;
  list_used = p.0.1.0;
  area_used = p.0.1.1;
  starts = p.1.0;
  receives = p.1.1;
  multiplied = p.1.2;
  current = p.2.0;
  errors = p.2.1;
  bad = p.2.2;
}

abbrev pub of_own : Parts OwnParts
of_own =
    three (both (both base_words base_words) (both base_words base_words)) (three flag flag flag)
    (three (number 8) (number 16) (number 32))

abbrev pub own_words : Parts OwnRegisters
own_words = seen_as of_own own_parts (λ a b e. ap own_of_parts e)

-- ---- what is wanted of the guest

abbrev pub WantsParts : Type 0
WantsParts = (ℕ × ℕ × ℕ) × (ℕ × List ℕ × List ℕ)

abbrev pub wants_parts : Wants → WantsParts
wants_parts w = ((w.pending, w.out, w.feeding), (w.count, w.slots, w.devices))

abbrev pub wants_of_parts : WantsParts → Wants
wants_of_parts p = record {
  pending = p.0.0;
  out = p.0.1;
  feeding = p.0.2;
  count = p.1.0;
  slots = p.1.1;
  devices = p.1.2;
}

abbrev pub of_wants : Parts WantsParts
of_wants =
    both (three (number 32) (number 32) (number 32)) (three (number 64) (array 32 (number 64)) (array 16 (number 64)))

abbrev pub wants_words : Parts Wants
wants_words = seen_as of_wants wants_parts (λ a b e. ap wants_of_parts e)

-- ---- what is to be written to it

abbrev pub CarriedParts : Type 0
CarriedParts = ℕ × (ℕ × ℕ × ℕ)

abbrev pub carried_parts : Carried → CarriedParts
carried_parts c = (c.slot, (c.offset, c.from, c.len))

abbrev pub of_carried : Parts CarriedParts
of_carried = both (number 8) (three (number 32) (number 32) (number 32))

abbrev pub carried_words : Parts Carried
carried_words = seen_as of_carried carried_parts
    (λ a b e. ap (λ p. record { slot = p.0; offset = p.1.0; from = p.1.1; len = p.1.2 }) e)

abbrev pub WritesParts : Type 0
WritesParts = Option Carried × Option Move × ℕ

abbrev pub writes_parts : Writes → WritesParts
writes_parts w = (w.payload, w.posted, w.counted)

abbrev pub of_writes : Parts WritesParts
of_writes = three (maybe carried_words) (maybe move_words) (number 32)

abbrev pub writes_words : Parts Writes
writes_words = seen_as of_writes writes_parts (λ a b e. ap (λ p. record { payload = p.0; posted = p.1; counted = p.2 }) e)

-- ---- turns

abbrev pub CircleParts : Type 0
CircleParts = (ℕ × ℕ × ℕ) × Bool

abbrev pub circle_parts : Circle → CircleParts
circle_parts c = ((c.slot, c.read, c.device), c.fed)

abbrev pub of_circle : Parts CircleParts
of_circle = both (three (number 8) (number 8) (number 8)) flag

abbrev pub circle_words : Parts Circle
circle_words = seen_as of_circle circle_parts
    (λ a b e. ap (λ p. record { slot = p.0.0; read = p.0.1; device = p.0.2; fed = p.1 }) e)
