-- What holds for every table of command slots (AHCI 1.3.1, 4.2.2) and of device contexts (9.3).
use Rattle.std.specs.Prelude.{◌≡◌, ℕ, ◌+◌, ◌/◌, ◌%◌, ◌<◌, ◌≤◌, Bool, true, false, ◌||◌, length, MatchOption}
use Rattle.slots.specs.{declared.{table.Context.Context, work.Work.Work}, Work.{IsWork, is_read}, Bytes.{any_over, none_over, stretches_of}}
use Rattle.slots.specs.{Setup.{is_full_at, is_outstanding}, Slots.{Issue, Slots, issue_at, context_of, owned_by, holds, is_control, is_queued_issue}}
use Rattle.slots.specs.Slots.{is_under_way, is_waiting}

-- What is issued in a slot: for one of 16 devices, with a flag for each dword. Only a queued command that was
-- sent is answered. The transferred bytes are at most 64 stretches, and none before the command is sent. A
-- Control that was sent is no longer there.
pub record IsIssue (issue : Issue) : Type 0 where
  pub dev_below : issue.dev < 16
  pub work : IsWork issue.work
  pub room : length issue.over ≡ issue.work.len / 4
  pub answers : issue.answered ≡ true → (is_queued_issue issue ≡ true) × (issue.sent ≡ true)
  pub few : stretches_of issue.over issue.work.len ≤ 64
  pub controls : issue.sent ≡ true → is_control issue.work.kind ≡ false
  pub unsent : issue.sent ≡ false → issue.over ≡ none_over issue.work.len

-- A context of a device within an issue. It has whole dwords of the issue, none of which was transferred yet,
-- and goes to the host if the issue is a read. While bytes are left there is room for them among the
-- stretches. It is activated only if it goes to the device and has bytes left.
pub record IsContextOf (dev : ℕ) (c : Context) (issue : Issue) : Type 0 where
  pub of_dev : issue.dev ≡ dev
  pub fits : c.next + c.left ≤ issue.work.len
  pub next_dwords : c.next % 4 ≡ 0
  pub left_dwords : c.left % 4 ≡ 0
  pub fresh : any_over issue.over c.next c.left ≡ false
  pub room : 0 < c.left → is_full_at issue c.next ≡ false
  pub way : is_read issue.work.kind ≡ c.to_host
  pub goes : (is_outstanding issue || is_under_way issue) ≡ true
  pub activates : c.activated ≡ true → (c.to_host ≡ false) × (0 < c.left)

-- a context of a device is within the issue of its slot
abbrev pub IsContext : ℕ → Slots → Context → Type 0
IsContext dev t c = (c.slot < 32) × MatchOption (issue_at t c.slot) ⊥ (IsContextOf dev c)

-- what is issued for a command with this work that was sent and has moved no byte yet
pub record IsFresh (work : Work) (issue : Issue) : Type 0 where
  pub of_work : issue.work ≡ work
  pub sent : issue.sent ≡ true
  pub none : issue.over ≡ none_over issue.work.len

-- the slot is the device's; its command was sent and is not answered
abbrev pub waits_for : ℕ → Slots → ℕ → Bool
waits_for dev t slot = holds is_waiting (owned_by dev (issue_at t slot))

pub record IsTable (t : Slots) : Type 0 where
  pub slots : length t.issues ≡ 32
  pub devices : length t.contexts ≡ 16
  pub issues : (slot : ℕ) → MatchOption (issue_at t slot) (Unit {0}) IsIssue
  pub contexts : (dev : ℕ) → MatchOption (context_of t dev) (Unit {0}) (IsContext dev t)
  -- at most one slot of a device waits
  pub one_waits : (dev r s : ℕ) → waits_for dev t r ≡ true → waits_for dev t s ≡ true → r ≡ s
