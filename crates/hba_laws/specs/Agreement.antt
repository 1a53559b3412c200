-- When a device's view and a history agree: what is issued, which bytes were transferred, which slot waits,
-- and the last setup with what is left of it (AHCI 1.3.1, 9.3, FIS-based Switching; Serial ATA 3.x, 10.5).
use Rattle.std.specs.{Prelude.{ℕ, ◌≡◌, ◌+◌, ◌<◌, ◌==◌, Bool, false, true, Option, Some, None, is_some, MatchOption}, Option.option_map}
use Rattle.slots.specs.{Bytes.is_over, Setup.came, Slots.{Issue, holds, is_pio, is_waiting, own_issue}, declared.table.Context.Context}
use Rattle.slots.specs.declared.work.Work.{Work}
use Rattle.hba_fbs.specs.{Views.{DeviceView, view_of}, declared.status.Block.Block}
use Rattle.hba_laws.specs.{Client.{Touches, own}, History.{History, Setup, Transfer, bytes_of, carried, filled, is_at, is_set_up, issued, last_setup}}
use Rattle.hba_laws.specs.{History.waiting_in, Hosts.Host}

abbrev pub work_of_transfer : Transfer → Work
work_of_transfer t = t.work

abbrev pub work_of_issue : Issue → Work
work_of_issue issue = issue.work

-- the same commands are issued, by slot
abbrev pub AreIssued : (ℕ → Option Issue) → History → Type 0
AreIssued issues past =
    (s : ℕ) → option_map work_of_transfer (issued s past) ≡ option_map work_of_issue (issues s)

-- the context is for the slot
abbrev pub is_for : ℕ → Option Context → Bool
is_for s None = false
is_for s (Some c) = c.slot == s

-- what is issued in s has the bytes that the history fills; it waits, and is set up, where the history says
-- so
pub record IssueAgrees (s : ℕ) (issue : Issue) (context : Option Context) (past : History) : Type 0 where
  pub over_is : (k : ℕ) → is_over issue.over k ≡ is_some (filled s past k)
  pub came_is : came issue ≡ bytes_of s past
  pub waits_is : is_at s (waiting_in past) ≡ is_waiting issue
  pub set_up_is : is_set_up s past ≡ is_for s context

-- A context is what is left of a setup. The Status at the end of its block is the one that was kept.
pub record SetupAgrees (c : Context) (ends : Option ℕ) (past : History) (g : Setup) : Type 0 where
  pub slot_is : g.slot ≡ c.slot
  pub way_is : g.to_host ≡ c.to_host
  pub next_is : g.offset + carried past ≡ c.next
  pub left_is : carried past + c.left ≡ g.count
  pub ends_is : g.ends ≡ ends

abbrev pub is_pio_issue : Issue → Bool
is_pio_issue issue = is_pio issue.work.kind

-- A context is that of the last setup, for a slot in which something is issued; it is a PIO data-in exactly
-- where there is a block.
pub record ContextAgrees (issues : ℕ → Option Issue) (c : Context) (ends : Option ℕ)
    (past : History) : Type 0 where
  pub of_setup : MatchOption (last_setup past) ⊥ (SetupAgrees c ends past)
  pub of_issue : is_some (issues c.slot) ≡ true
  pub of_kind : holds is_pio_issue (issues c.slot) ≡ is_some ends

-- the issues by slot, a context, and the Status at the end of its block, if it has one, are what a history
-- says
pub record Agrees (issues : ℕ → Option Issue) (context : Option Context) (ends : Option ℕ)
    (past : History) : Type 0 where
  pub issues_agree : (s : ℕ) (i : Issue) → issues s ≡ Some i → IssueAgrees s i context past
  pub context_agrees : (c : Context) → context ≡ Some c → ContextAgrees issues c ends past

abbrev pub end_of : Block → ℕ
end_of block = block.ends

-- a device's view is what its history says
pub record IsTold (view : DeviceView) (past : History) : Type 0 where
  pub issued : AreIssued (own_issue view.slots) past
  pub agrees : Agrees (own_issue view.slots) view.slots.context (option_map end_of view.state.block) past

-- this is a history of device n, as the host's port has it now
abbrev pub IsHistoryOf : ℕ → Host → History → Type 0
IsHistoryOf n host past = IsTold (view_of n host.port) past

-- and these touches have such a history for each device
abbrev pub AreHistoriesOf : Host → Touches → Type 0
AreHistoriesOf host past = (n : ℕ) → n < 16 → IsHistoryOf n host (own n past)
