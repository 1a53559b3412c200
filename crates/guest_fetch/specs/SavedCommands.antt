-- Commands as words: header and FIS, how much of a command has come, and a command as it was supplied.
use Rattle.std.specs.Prelude.{◌≡◌, ℕ, ◌+◌, ◌<◌, ◌≤◌, ◌^◌, ◌==◌, ◌&&◌, Bool, true, nat_le, List, ◌∷◌, length, refl}
use Rattle.std.proofs.Common.{ap, arith, ◌∙◌}
use Rattle.fis_view.specs.declared.build.H2dFields.{H2dFields}
use Rattle.slots.specs.{declared.work.Work.Work, Saved.{KeepsWork, put_work, work_apart}}
use Rattle.saved_state.specs.{State.IsToldApart, Parts.{Parts, array, both, flag, number, ruled, seen_as, three}}
use Rattle.guest_fetch.specs.declared.{fetch.Step.{Step, TheVariants.{AtHeader, AtFis, AtEntries}}, head.Head.Head, header.Header.Header}
use Rattle.guest_fetch.specs.{Commands.{Fetched, IsCommand}, Fetch.Fetching, Fetching.{IsFetching, wants_more}, Places.{Places, reach_of}}
use Rattle.guest_fetch.specs.{Saved.{header_words, is_taken, table_words}, Spans.IsTable}

-- ---- header and FIS

abbrev pub FieldParts : Type 0
FieldParts = (ℕ × Bool × ℕ) × (ℕ × ℕ × ℕ) × (ℕ × ℕ × ℕ)

abbrev pub field_parts : H2dFields → FieldParts
field_parts f = ((f.pm_port, f.c, f.command), (f.features, f.lba, f.device), (f.count, f.icc, f.control))

abbrev pub fields_of_parts : FieldParts → H2dFields
fields_of_parts p = record {
  pm_port = p.0.0;
  c = p.0.1;
  command = p.0.2;
  features = p.1.0;
  lba = p.1.1;
  device = p.1.2;
  count = p.2.0;
  icc = p.2.1;
  control = p.2.2;
}

abbrev pub of_fields : Parts FieldParts
of_fields =
    three (three (number 8) flag (number 8)) (three (number 16) (number 64) (number 8)) (three (number 16) (number 8) (number 8))

abbrev pub work_words : Parts Work
work_words = record { put = put_work; keeps = KeepsWork; apart = work_apart }

abbrev pub HeadParts : Type 0
HeadParts = (Header × List ℕ) × (FieldParts × Work)

abbrev pub head_parts : Head → HeadParts
head_parts h = ((h.header, h.cfis), (field_parts h.fields, h.work))

abbrev pub head_of_parts : HeadParts → Head
head_of_parts p = record { header = p.0.0; cfis = p.0.1; fields = fields_of_parts p.1.0; work = p.1.1 }

abbrev pub of_head : Parts HeadParts
of_head = both (both header_words (array 20 (number 8))) (both of_fields work_words)

abbrev pub head_words : Parts Head
head_words = seen_as of_head head_parts (λ a b e. ap head_of_parts e)

-- ---- what has come of a command

abbrev pub put_step : Step → List ℕ → List ℕ
put_step AtHeader rest = 0 ∷ rest
put_step (AtFis header) rest = 1 ∷ header_words.put header rest
put_step (AtEntries head table) rest = 2 ∷ head_words.put head (table_words.put table rest)

abbrev pub KeepsStep : Step → Type 0
KeepsStep AtHeader = Unit {0}
KeepsStep (AtFis header) = header_words.keeps header
KeepsStep (AtEntries head table) = head_words.keeps head × IsTable table

pub step_apart : IsToldApart put_step KeepsStep
step_apart AtHeader AtHeader x y k l e = (refl, cc)
step_apart (AtFis a) (AtFis b) x y k l e =
    let inner : header_words.put a x ≡ header_words.put b y = cc in
    let same = header_words.apart a b x y k l inner in (ap AtFis same.0, same.1)
step_apart (AtEntries a s) (AtEntries b t) x y k l e =
    let inner : head_words.put a (table_words.put s x) ≡ head_words.put b (table_words.put t y) = cc in
    let same = (both head_words table_words).apart (a, s) (b, t) x y k l inner in (ap (λ p. AtEntries p.0 p.1) same.0, same.1)
step_apart AtHeader (AtFis b) x y k l e = absurd (cc)
step_apart AtHeader (AtEntries b t) x y k l e = absurd (cc)
step_apart (AtFis a) AtHeader x y k l e = absurd (cc)
step_apart (AtFis a) (AtEntries b t) x y k l e = absurd (cc)
step_apart (AtEntries a s) AtHeader x y k l e = absurd (cc)
step_apart (AtEntries a s) (AtFis b) x y k l e = absurd (cc)

abbrev pub step_words : Parts Step
step_words = record { put = put_step; keeps = KeepsStep; apart = step_apart }

abbrev pub fetch_parts : Fetching → ℕ × Step
fetch_parts f = (f.at, f.step)

abbrev pub of_fetch : Parts (ℕ × Step)
of_fetch = both (number 64) step_words

abbrev pub KeepsFetch : Fetching → Type 0
KeepsFetch f = of_fetch.keeps (fetch_parts f) × IsFetching f

abbrev pub fetch_words : Parts Fetching
fetch_words = ruled of_fetch fetch_parts (λ a b e. ap (λ p. record { at = p.0; step = p.1 }) e) KeepsFetch (λ f k. k.0)

-- so much of a command can have come: the test of `IsStep`
abbrev pub is_step : Step → Bool
is_step AtHeader = true
is_step (AtFis header) = is_taken header
is_step (AtEntries head table) = is_taken head.header && (table.len == head.work.len) && wants_more head table

-- the test of `IsFetching`
abbrev pub is_fetching : ℕ × Step → Bool
is_fetching p = nat_le (p.0 + 32) (2 ^ 64) && is_step p.1

-- ---- commands

abbrev pub CommandParts : Type 0
CommandParts = (ℕ × Head) × (Places × ℕ)

abbrev pub command_parts : Fetched → CommandParts
command_parts c = ((c.at, c.head), (c.table, c.moved))

abbrev pub of_command : Parts CommandParts
of_command = both (both (number 64) head_words) (both table_words (number 32))

abbrev pub KeepsCommand : Fetched → Type 0
KeepsCommand c = of_command.keeps (command_parts c) × IsCommand c

abbrev pub command_of_parts : CommandParts → Fetched
command_of_parts p = record { at = p.0.0; head = p.0.1; table = p.1.0; moved = p.1.1 }

abbrev pub command_words : Parts Fetched
command_words = ruled of_command command_parts (λ a b e. ap command_of_parts e) KeepsCommand (λ c k. k.0)

-- the test of `IsCommand`
abbrev pub is_command : CommandParts → Bool
is_command p =
    nat_le (p.0.0 + 32) (2 ^ 64) && is_taken p.0.1.header && (p.1.0.len == p.0.1.work.len) && nat_le p.1.1 (reach_of p.1.0)
