-- A controller of one port as its callers see it: AHCI 1.3.1, sections 3.1 and 3.3, and of the commands of its slots section
-- 4.2.
use Rattle.std.specs.Prelude.{ℕ, List, Option, None, slice_index_or}
use Rattle.ahci_registers.specs.declared.link.LinkControl.{LinkControl}
use Rattle.guest_fetch.specs.{Fetch.Fetching, Commands.Fetched}
use Rattle.hba_fbs.specs.Views.{Port}
use Rattle.ahci_controller.specs.declared.{circle.Circle.Circle, latch.Latch.Latch, own.OwnRegisters.OwnRegisters, wants.{Wants.Wants, Writes.Writes}}

pub record ControllerState : Type 0 where
  -- the core, interrupts and link, and what else was written to registers
  pub core : Port
  pub latch : Latch
  pub link : LinkControl
  pub own : OwnRegisters
  -- what is wanted of the guest, and by slot what has come
  pub wants : Wants
  pub fetches : List (Option Fetching)
  -- by slot: the command that was issued last, as it was supplied
  pub commands : List (Option Fetched)
  -- what is to be written to the guest
  pub writes : Writes
  pub circle : Circle
  -- by device: where its next Data begin among the bytes of their command
  pub cursors : List ℕ

-- what has come of the command of a slot
abbrev pub fetch_at : ControllerState → ℕ → Option Fetching
fetch_at c slot = slice_index_or c.fetches slot None

-- the command that was issued last in a slot
abbrev pub kept : ControllerState → ℕ → Option Fetched
kept c slot = slice_index_or c.commands slot None

abbrev pub cursor : ControllerState → ℕ → ℕ
cursor c dev = slice_index_or c.cursors dev 0
