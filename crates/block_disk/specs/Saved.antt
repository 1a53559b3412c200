-- The commands by place, and the numbers of their requests, as words.
use Rattle.std.specs.{Prelude.{◌≡◌, ℕ, ◌<◌, ◌^◌, ◌==◌, Bool, List, Option, length}, List.AllByRecursion}
use Rattle.std.proofs.Common.{ap, sym, ◌∙◌}
use Rattle.saved_state.specs.State.{IsToldApart, KeepsOption, put_all, put_list, put_number, put_option, put_pair, put_three, all_apart, list_apart}
use Rattle.saved_state.specs.State.{number_apart, option_apart, pair_apart, parts_apart, three_apart}
use Rattle.block_command.specs.{Moments.Moment, Saved.{KeepsMoment, moment_apart, put_moment}}
use Rattle.block_disk.specs.{Table.Table, Requests.Queue}

-- ## The table: the commands by place, and who has the wire

abbrev pub TableParts : Type 0
TableParts = List (Option Moment) × Option ℕ

abbrev pub table_parts : Table → TableParts
table_parts t = (t.places, t.wire)

abbrev pub put_table_parts : TableParts → List ℕ → List ℕ
put_table_parts = put_pair (put_list (put_option put_moment)) (put_option put_number)

abbrev pub KeepsTableParts : TableParts → Type 0
KeepsTableParts parts = AllByRecursion (KeepsOption KeepsMoment) parts.0 × KeepsOption (λ n. n < 2 ^ 8) parts.1

abbrev pub put_table : Table → List ℕ → List ℕ
put_table t rest = put_table_parts (table_parts t) rest

-- there are 33 places, and each command keeps its rules
abbrev pub KeepsTable : Table → Type 0
KeepsTable t = KeepsTableParts (table_parts t) × (length t.places ≡ 33)

abbrev pub table_fits : TableParts → Bool
table_fits parts = length parts.0 == 33

-- ## The requests: the table, the numbers that are out, and the next number

abbrev pub QueueParts : Type 0
QueueParts = Table × List ℕ × ℕ

abbrev pub queue_parts : Queue → QueueParts
queue_parts q = (q.table, q.out, q.next)

abbrev pub put_queue_parts : QueueParts → List ℕ → List ℕ
put_queue_parts = put_three put_table (put_all put_number) put_number

abbrev pub KeepsQueueParts : QueueParts → Type 0
KeepsQueueParts parts = KeepsTable parts.0 × ((length parts.1 ≡ 33) × AllByRecursion (λ n. n < 2 ^ 64) parts.1) × (parts.2 < 2 ^ 64)

abbrev pub put_queue : Queue → List ℕ → List ℕ
put_queue q rest = put_queue_parts (queue_parts q) rest

abbrev pub KeepsQueue : Queue → Type 0
KeepsQueue q = KeepsQueueParts (queue_parts q)

-- ## Words are those of one value

numbers_apart : (bound : ℕ) → IsToldApart put_number (λ n. n < bound)
numbers_apart bound a b x y k l e = number_apart a b x y e

pub table_parts_apart : IsToldApart put_table_parts KeepsTableParts
table_parts_apart = pair_apart (put_list (put_option put_moment)) (AllByRecursion (KeepsOption KeepsMoment))
    (list_apart (put_option put_moment) (KeepsOption KeepsMoment) (option_apart put_moment KeepsMoment moment_apart))
    (put_option put_number) (KeepsOption (λ n. n < 2 ^ 8)) (option_apart put_number (λ n. n < 2 ^ 8) (numbers_apart (2 ^ 8)))

pub table_apart : IsToldApart put_table KeepsTable
table_apart = parts_apart put_table_parts KeepsTableParts KeepsTable table_parts table_parts_apart (λ t k. k.0)
    (λ a b e. ap (λ p. record { places = p.0; wire = p.1 }) e)

pub queue_parts_apart : IsToldApart put_queue_parts KeepsQueueParts
queue_parts_apart = three_apart put_table KeepsTable table_apart
    (put_all put_number) (λ all. (length all ≡ 33) × AllByRecursion (λ n. n < 2 ^ 64) all)
    (λ a b x y k l e. all_apart put_number (λ n. n < 2 ^ 64) (numbers_apart (2 ^ 64)) a b x y (k.0 ∙ sym l.0) k.1 l.1 e)
    put_number (λ n. n < 2 ^ 64) (numbers_apart (2 ^ 64))

pub queue_apart : IsToldApart put_queue KeepsQueue
queue_apart = parts_apart put_queue_parts KeepsQueueParts KeepsQueue queue_parts queue_parts_apart (λ q k. k)
    (λ a b e. ap (λ p. record { table = p.0; out = p.1; next = p.2 }) e)
