-- What a restored table of slots is tested for: the rules of every table, one after another.
use Rattle.std.specs.Prelude.{ℕ, ◌+◌, ◌*◌, ◌%◌, Bool, true, false, not, ◌&&◌, ◌||◌, ◌==◌, nat_le, nat_lt, List, length, slice_index_or, Option, None}
use Rattle.std.specs.{Prelude.is_none, Bool.beq}
use Rattle.slots.specs.{declared.table.Context.Context, Bytes.{any_over, stretches_of}, Setup.{is_full_at, is_outstanding}, Slots.{Issue, is_control}}
use Rattle.slots.specs.{Slots.{is_queued_issue, is_under_way, is_waiting, lowest, lowest_below, match_some, own_of, waiting}, Work.is_read}

-- an issue of one of 16 devices; only a queued command that was sent is answered, a Control that was sent is no longer there, and
-- no byte is transferred before a command is sent
abbrev pub is_proper : Issue → Bool
is_proper issue =
    nat_lt issue.dev 16 && (not issue.answered || is_queued_issue issue && issue.sent) && (not issue.sent || not (is_control issue.work.kind))
    && (issue.sent || stretches_of issue.over (4 * length issue.over) == 0)

-- if the command in this slot waits, it is the first of its device that does
abbrev pub is_first_waiting : List (Option Issue) → ℕ → Issue → Bool
is_first_waiting issues slot issue =
    not (is_waiting issue) || match_some (waiting (own_of issue.dev issues)) true (λ first. first == slot)

abbrev pub is_slot_proper : List (Option Issue) → ℕ → Bool
is_slot_proper issues slot =
    match_some (slice_index_or issues slot None) true (λ issue. is_proper issue && is_first_waiting issues slot issue)

abbrev pub are_slots_proper : List (Option Issue) → Bool
are_slots_proper issues = is_none (lowest (λ slot. not (is_slot_proper issues slot)))

-- the bytes of a context are whole dwords of the issue, none of which was transferred, with room among the stretches
abbrev pub is_open : Context → Issue → Bool
is_open c issue =
    nat_le (c.next + c.left) issue.work.len && c.next % 4 == 0 && c.left % 4 == 0 && not (any_over issue.over c.next c.left)
    && (c.left == 0 || not (is_full_at issue c.next))

-- the command of the issue moves bytes the way of the context
abbrev pub is_moving : Context → Issue → Bool
is_moving c issue =
    beq (is_read issue.work.kind) c.to_host && (is_outstanding issue || is_under_way issue) && (not c.activated || not c.to_host && nat_lt 0 c.left)

abbrev pub has_context : ℕ → Context → Issue → Bool
has_context dev c issue = issue.dev == dev && is_open c issue && is_moving c issue

-- a device's context is one of the issue in its slot
abbrev pub is_context_proper : List (Option Issue) → List (Option Context) → ℕ → Bool
is_context_proper issues contexts dev = match_some (slice_index_or contexts dev None) true
    (λ c. nat_lt c.slot 32 && match_some (slice_index_or issues c.slot None) false (has_context dev c))

abbrev pub are_contexts_proper : List (Option Issue) → List (Option Context) → Bool
are_contexts_proper issues contexts = is_none (lowest_below (λ dev. not (is_context_proper issues contexts dev)) 16)

abbrev pub is_table : List (Option Issue) → List (Option Context) → Bool
is_table issues contexts = are_slots_proper issues && are_contexts_proper issues contexts
