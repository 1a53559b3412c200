-- The queue as words.
use Rattle.std.specs.Prelude.{◌≡◌, ℕ, ◌+◌, ◌<◌, ◌^◌, ◌==◌, nat_lt, nat_le, Bool, true, false, not, ◌&&◌, ◌||◌, List, Option, Some, None, is_some}
use Rattle.std.specs.{Prelude.{length, slice_index_or}, List.AllByRecursion}
use Rattle.std.proofs.Common.{ap, sym, ◌∙◌}
use Rattle.saved_state.specs.State.{IsToldApart, KeepsOption, put_all, put_number, put_option, put_three, all_apart, number_apart, option_apart}
use Rattle.saved_state.specs.State.{parts_apart, three_apart}
use Rattle.block_command.specs.Moments.{Moment, part_lba, runs, turn_of}
use Rattle.block_disk.specs.{Requests.Queue, Table.{Table, at, has_wire}, Saved.{KeepsQueue, put_queue, queue_apart}}
use Rattle.block_queue.specs.{declared.queue.Orphan.Orphan, Line.{IsLine, Line, any_below, command_at, orphan, starts, waits_for}}

-- ## A dropped store: its sectors and its number

abbrev pub OrphanParts : Type 0
OrphanParts = ℕ × ℕ × ℕ

abbrev pub orphan_parts : Orphan → OrphanParts
orphan_parts o = (o.lba, o.count, o.number)

abbrev pub put_orphan_parts : OrphanParts → List ℕ → List ℕ
put_orphan_parts = put_three put_number put_number put_number

abbrev pub KeepsOrphanParts : OrphanParts → Type 0
KeepsOrphanParts parts = (parts.0 < 2 ^ 64) × (parts.1 < 2 ^ 32) × (parts.2 < 2 ^ 64)

abbrev pub put_orphan : Orphan → List ℕ → List ℕ
put_orphan o rest = put_orphan_parts (orphan_parts o) rest

abbrev pub KeepsOrphan : Orphan → Type 0
KeepsOrphan o = KeepsOrphanParts (orphan_parts o)

abbrev pub line_of : Queue → List ℕ → List (Option Orphan) → Line
line_of queue ranks orphans = record { queue = queue; ranks = ranks; orphans = orphans }

-- ## The line: the requests, the ranks of the places, and the dropped stores

abbrev pub Parts : Type 0
Parts = Queue × List ℕ × List (Option Orphan)

abbrev pub parts_of : Line → Parts
parts_of l = (l.queue, l.ranks, l.orphans)

abbrev pub put_parts : Parts → List ℕ → List ℕ
put_parts = put_three put_queue (put_all put_number) (put_all (put_option put_orphan))

abbrev pub KeepsParts : Parts → Type 0
KeepsParts parts = KeepsQueue parts.0 × ((length parts.1 ≡ 33) × AllByRecursion (λ n. n < 2 ^ 8) parts.1)
    × ((length parts.2 ≡ 33) × AllByRecursion (KeepsOption KeepsOrphan) parts.2)

abbrev pub put_line : Line → List ℕ → List ℕ
put_line l rest = put_parts (parts_of l) rest

-- its parts keep their rules, and it keeps what every line keeps
abbrev pub KeepsLine : Line → Type 0
KeepsLine l = KeepsParts (parts_of l) × IsLine l

-- ## What is tested of a restored line

-- another place has the rank of this one
abbrev pub has_rank_of : List ℕ → ℕ → ℕ → Bool
has_rank_of ranks place other = not (other == place) && (slice_index_or ranks other 0 == slice_index_or ranks place 0)

-- a place has a rank that is none, or that of another place
abbrev pub is_misranked : List ℕ → ℕ → Bool
is_misranked ranks place = any_below (has_rank_of ranks place) 33 || nat_le 33 (slice_index_or ranks place 0)

-- a command has done something before its start
abbrev pub has_moved : Moment → Bool
has_moved m = starts (turn_of m.stage) && not (part_lba m == m.command.lba)

-- a command runs that has to wait
abbrev pub has_passed : Line → ℕ → Moment → Bool
has_passed l place m = runs m.stage && (is_some (orphan l place) || any_below (waits_for l m.command place) 33)

abbrev pub is_early_at : Line → ℕ → Option Moment → Bool
is_early_at l place None = false
is_early_at l place (Some m) = has_passed l place m || has_moved m

abbrev pub is_early : Line → ℕ → Bool
is_early l place = is_early_at l place (command_at l place)

-- a place breaks a rule
abbrev pub is_broken : Line → ℕ → Bool
is_broken l place = is_misranked l.ranks place || is_early l place

abbrev pub are_in_order : Line → Bool
are_in_order l = not (any_below (is_broken l) 33)

-- the link is free, or of a command that holds it
abbrev pub is_wired : Table → Option ℕ → Bool
is_wired d None = true
is_wired d (Some place) = nat_lt place 33 && has_wire (at d place)

abbrev pub fits : Line → Bool
fits l = are_in_order l && is_wired l.queue.table l.queue.table.wire

abbrev pub fit : Parts → Bool
fit parts = fits (line_of parts.0 parts.1 parts.2)

-- ## Words are those of one value

numbers_apart : (bound : ℕ) → IsToldApart put_number (λ n. n < bound)
numbers_apart bound a b x y k l e = number_apart a b x y e

pub orphan_parts_apart : IsToldApart put_orphan_parts KeepsOrphanParts
orphan_parts_apart = three_apart put_number (λ n. n < 2 ^ 64) (numbers_apart (2 ^ 64)) put_number (λ n. n < 2 ^ 32) (numbers_apart (2 ^ 32))
    put_number (λ n. n < 2 ^ 64) (numbers_apart (2 ^ 64))

pub orphan_apart : IsToldApart put_orphan KeepsOrphan
orphan_apart = parts_apart put_orphan_parts KeepsOrphanParts KeepsOrphan orphan_parts orphan_parts_apart (λ o k. k)
    (λ a b e. ap (λ p. record { lba = p.0; count = p.1; number = p.2 }) e)

pub parts_told_apart : IsToldApart put_parts KeepsParts
parts_told_apart = three_apart put_queue KeepsQueue queue_apart
    (put_all put_number) (λ all. (length all ≡ 33) × AllByRecursion (λ n. n < 2 ^ 8) all)
    (λ a b x y k l e. all_apart put_number (λ n. n < 2 ^ 8) (numbers_apart (2 ^ 8)) a b x y (k.0 ∙ sym l.0) k.1 l.1 e)
    (put_all (put_option put_orphan)) (λ all. (length all ≡ 33) × AllByRecursion (KeepsOption KeepsOrphan) all)
    (λ a b x y k l e. all_apart (put_option put_orphan) (KeepsOption KeepsOrphan) (option_apart put_orphan KeepsOrphan orphan_apart)
    a b x y (k.0 ∙ sym l.0) k.1 l.1 e)

pub line_apart : IsToldApart put_line KeepsLine
line_apart = parts_apart put_parts KeepsParts KeepsLine parts_of parts_told_apart (λ l k. k.0)
    (λ a b e. ap (λ p. line_of p.0 p.1 p.2) e)
