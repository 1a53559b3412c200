-- The scheduler as words. Its sets are those of its commands, and are not saved.
use Rattle.std.specs.Prelude.{ℕ, ◌<◌, ◌≤◌, ◌^◌, nat_le, Bool, List, Option}
use Rattle.std.proofs.Common.{ap}
use Rattle.saved_state.specs.State.{IsToldApart, KeepsOption, put_number, put_option, put_three, number_apart, option_apart, parts_apart, three_apart}
use Rattle.block_queue.specs.{Line.Line, Saved.{KeepsLine, line_apart, put_line}}
use Rattle.block_scheduler.specs.Schedule.{Schedule, held}

-- the commands, the limit in bytes, and the tag that failed
abbrev pub Parts : Type 0
Parts = Line × ℕ × Option ℕ

abbrev pub parts_of : Schedule → Parts
parts_of s = (s.line, s.limit, s.fault)

abbrev pub put_parts : Parts → List ℕ → List ℕ
put_parts = put_three put_line put_number (put_option put_number)

abbrev pub KeepsParts : Parts → Type 0
KeepsParts parts = KeepsLine parts.0 × (parts.1 < 2 ^ 32) × KeepsOption (λ n. n < 2 ^ 8) parts.2

abbrev pub put_schedule : Schedule → List ℕ → List ℕ
put_schedule s rest = put_parts (parts_of s) rest

-- its parts keep their rules, and what is held is within the limit
abbrev pub KeepsSchedule : Schedule → Type 0
KeepsSchedule s = KeepsParts (parts_of s) × (held s.line ≤ s.limit)

-- whether what is held is within the limit
abbrev pub fit : Parts → Bool
fit parts = nat_le (held parts.0) parts.1

-- ## Words are those of one value

numbers_apart : (bound : ℕ) → IsToldApart put_number (λ n. n < bound)
numbers_apart bound a b x y k l e = number_apart a b x y e

pub parts_told_apart : IsToldApart put_parts KeepsParts
parts_told_apart = three_apart put_line KeepsLine line_apart put_number (λ n. n < 2 ^ 32) (numbers_apart (2 ^ 32))
    (put_option put_number) (KeepsOption (λ n. n < 2 ^ 8)) (option_apart put_number (λ n. n < 2 ^ 8) (numbers_apart (2 ^ 8)))

pub schedule_apart : IsToldApart put_schedule KeepsSchedule
schedule_apart = parts_apart put_parts KeepsParts KeepsSchedule parts_of parts_told_apart (λ s k. k.0)
    (λ a b e. ap (λ p. record { line = p.0; limit = p.1; fault = p.2 }) e)
