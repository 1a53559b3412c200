-- A command slot (AHCI 1.3.1, 4.2.2) as it is stored: its issue without the bytes, and the flags of the
-- bytes.
use Rattle.std.specs.Prelude.{◌≡◌, ◌/◌, Bool, List, length, Option, Some, None, MatchOption}
use Rattle.slots.specs.{declared.slot.Issued.Issued, Slots.Issue, Work.IsWork}

-- the issue with these flags
abbrev pub with_flags : Issued → List Bool → Issue
with_flags issued over = record {
  dev = issued.dev;
  work = issued.work;
  sent = issued.sent;
  answered = issued.answered;
  over = over;
}

abbrev pub issue_in : Option Issued → List Bool → Option Issue
issue_in None over = None
issue_in (Some issued) over = Some (with_flags issued over)

-- the issue without its flags
abbrev pub issued_of : Issue → Issued
issued_of issue = record { dev = issue.dev; work = issue.work; sent = issue.sent; answered = issue.answered }

-- there is a flag for each dword
abbrev pub HasRoom : Option Issued → List Bool → Type 0
HasRoom issued over = MatchOption issued (Unit {0}) (λ i. (length over ≡ i.work.len / 4) × IsWork i.work)
