-- A machine as words: its controller, what is behind it, its ports, what is on its way between them, and its marks.
use Rattle.std.specs.Prelude.{◌≡◌, ℕ, Bool, List, ◌∷◌, Option, refl}
use Rattle.std.proofs.Common.{ap}
use Rattle.saved_state.specs.Parts.{Parts, array, both, each, flag, maybe, number, seen_as, three}
use Rattle.fis_view.specs.{Frames.Stamped, Saved.{KeepsFrame, frame_apart, put_frame}}
use Rattle.ahci_controller.specs.{SavedController.controller_words, SavedNext.next_words, States.ControllerState, declared.next.Next.Next}
use Rattle.fan_out.specs.{Saved.{KeepsEnd, end_apart, put_end}, declared.fan_out.FanOut.FanOut}
use Rattle.sata_disk.specs.{Saved.{KeepsDisk, disk_apart, put_disk}, State.DiskState}
use Rattle.ahci_machine.specs.{Gathers.GatheringState, States.MachineState, declared.{bay.{Bay.Bay, Unit.Unit as AtPort}, gathering.Feed.Feed}}
use Rattle.ahci_machine.specs.declared.machine.Lent.{Lent}
use Rattle.ahci_machine.specs.declared.bay.Unit.TheVariants as unit
use Rattle.ahci_machine.specs.declared.machine.Lent.TheVariants as lent

abbrev pub frame_words : Parts Stamped
frame_words = record { put = put_frame; keeps = KeepsFrame; apart = frame_apart }

abbrev pub fan_out_words : Parts FanOut
fan_out_words = record { put = put_end; keeps = KeepsEnd; apart = end_apart }

abbrev pub disk_words : Parts DiskState
disk_words = record { put = put_disk; keeps = KeepsDisk; apart = disk_apart }

-- ---- bytes of a Data FIS that are being read

abbrev pub of_feed : Parts ((ℕ × ℕ × ℕ) × (ℕ × ℕ))
of_feed = both (three (number 8) (number 64) (number 8)) (both (number 32) (number 32))

abbrev pub feed_parts : Feed → (ℕ × ℕ × ℕ) × (ℕ × ℕ)
feed_parts f = ((f.dev, f.number, f.slot), (f.offset, f.len))

abbrev pub feed_words : Parts Feed
feed_words = seen_as of_feed feed_parts
    (λ a b e. ap (λ p. record { dev = p.0.0; number = p.0.1; slot = p.0.2; offset = p.1.0; len = p.1.1 }) e)

abbrev pub of_gathering : Parts ((Feed × List ℕ) × (ℕ × Option ℕ))
of_gathering = both (both feed_words (each (number 8))) (both (number 64) (maybe (number 64)))

abbrev pub gathering_parts : GatheringState → (Feed × List ℕ) × (ℕ × Option ℕ)
gathering_parts g = ((g.feed, g.bytes), (g.done, g.asked))

abbrev pub gathering_words : Parts GatheringState
gathering_words = seen_as of_gathering gathering_parts
    (λ a b e. ap (λ p. record { feed = p.0.0; bytes = p.0.1; done = p.1.0; asked = p.1.1 }) e)

-- ---- what is at a port

abbrev pub put_unit : AtPort → List ℕ → List ℕ
put_unit unit.Empty rest = 0 ∷ rest
put_unit (unit.Disk disk) rest = 1 ∷ disk_words.put disk rest
put_unit unit.Own rest = 2 ∷ rest

abbrev pub KeepsUnit : AtPort → Type 0
KeepsUnit unit.Empty = Unit {0}
KeepsUnit (unit.Disk disk) = disk_words.keeps disk
KeepsUnit unit.Own = Unit {0}

pub unit_apart : (a b : AtPort) (x y : List ℕ) → KeepsUnit a → KeepsUnit b → put_unit a x ≡ put_unit b y → (a ≡ b) × (x ≡ y)
unit_apart unit.Empty unit.Empty x y k l e = (refl, cc)
unit_apart unit.Own unit.Own x y k l e = (refl, cc)
unit_apart (unit.Disk a) (unit.Disk b) x y k l e =
    let inner : disk_words.put a x ≡ disk_words.put b y = cc in
    let is = disk_words.apart a b x y k l inner in (ap unit.Disk is.0, is.1)
unit_apart a b x y k l e = absurd (cc)

abbrev pub unit_words : Parts AtPort
unit_words = record { put = put_unit; keeps = KeepsUnit; apart = unit_apart }

abbrev pub of_bay : Parts ((AtPort × ℕ) × (Option Stamped × Bool))
of_bay = both (both unit_words (number 64)) (both (maybe frame_words) flag)

abbrev pub bay_parts : Bay → (AtPort × ℕ) × (Option Stamped × Bool)
bay_parts b = ((b.unit, b.disk), (b.down, b.told))

abbrev pub bay_words : Parts Bay
bay_words = seen_as of_bay bay_parts (λ a b e. ap (λ p. record { unit = p.0.0; disk = p.0.1; down = p.1.0; told = p.1.1 }) e)

-- ---- what is lent

abbrev pub put_lent : Lent → List ℕ → List ℕ
put_lent lent.Nothing rest = 0 ∷ rest
put_lent (lent.Frame from len) rest = 1 ∷ from ∷ len ∷ rest
put_lent (lent.Count bytes) rest = 2 ∷ (array 4 (number 8)).put bytes rest

abbrev pub KeepsLent : Lent → Type 0
KeepsLent lent.Nothing = Unit {0}
KeepsLent (lent.Frame from len) = (both (number 64) (number 64)).keeps (from, len)
KeepsLent (lent.Count bytes) = (array 4 (number 8)).keeps bytes

pub lent_apart : (a b : Lent) (x y : List ℕ) → KeepsLent a → KeepsLent b → put_lent a x ≡ put_lent b y → (a ≡ b) × (x ≡ y)
lent_apart lent.Nothing lent.Nothing x y k l e = (refl, cc)
lent_apart (lent.Frame f n) (lent.Frame g m) x y k l e =
    let one : f ≡ g = cc in let other : n ≡ m = cc in (rw one (rw other refl), cc)
lent_apart (lent.Count a) (lent.Count b) x y k l e =
    let inner : (array 4 (number 8)).put a x ≡ (array 4 (number 8)).put b y = cc in
    let is = (array 4 (number 8)).apart a b x y k l inner in (ap lent.Count is.0, is.1)
lent_apart a b x y k l e = absurd (cc)

abbrev pub lent_words : Parts Lent
lent_words = record { put = put_lent; keeps = KeepsLent; apart = lent_apart }

-- ---- the machine

abbrev pub Ends : Type 0
Ends = ControllerState × FanOut × List Bay

abbrev pub of_ends : Parts Ends
of_ends = three controller_words fan_out_words (each bay_words)

abbrev pub ends_of : MachineState → Ends
ends_of m = (m.controller, m.fan, m.bays)

abbrev pub Between : Type 0
Between = (Option Stamped × Option Stamped) × (Option Next × List (Option GatheringState))

abbrev pub of_between : Parts Between
of_between = both (both (maybe frame_words) (maybe frame_words)) (both (maybe next_words) (array 16 (maybe gathering_words)))

abbrev pub between_of : MachineState → Between
between_of m = ((m.incoming, m.outgoing), (m.kept, m.gathering))

abbrev pub Marks : Type 0
Marks = Lent × (Bool × Bool) × ((Bool × Bool) × (Bool × ℕ))

abbrev pub of_marks : Parts Marks
of_marks = three lent_words (both flag flag) (both (both flag flag) (both flag (number 8)))

abbrev pub marks_of : MachineState → Marks
marks_of m = (m.lent, (m.taken, m.writing), ((m.told, m.message), (m.first, m.turn)))

abbrev pub of_machine : Parts (Ends × Between × Marks)
of_machine = three of_ends of_between of_marks

abbrev pub machine_parts : MachineState → Ends × Between × Marks
machine_parts m = (ends_of m, between_of m, marks_of m)

abbrev pub machine_of : Ends × Between × Marks → MachineState
machine_of p = record {
  controller = p.0.0;
  fan = p.0.1;
  bays = p.0.2;
  incoming = p.1.0.0;
  outgoing = p.1.0.1;
  kept = p.1.1.0;
  gathering = p.1.1.1;
  lent = p.2.0;
  taken = p.2.1.0;
  writing = p.2.1.1;
  told = p.2.2.0.0;
  message = p.2.2.0.1;
  first = p.2.2.1.0;
  turn = p.2.2.1.1;
}

abbrev pub machine_words : Parts MachineState
machine_words = seen_as of_machine machine_parts (λ a b e. ap machine_of e)
