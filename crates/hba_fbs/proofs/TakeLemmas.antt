-- A FIS that is heard, from the clauses of the call that hears it.
use Rattle.std.proofs.Common.{◌≡◌, ℕ, List, drop, sym, subst, Option, Some, None}
use Rattle.std.specs.Prelude.{Result, Ok, IfOk}
use Rattle.fis_view.specs.{Seen.frame_of, declared.view.{Fis.Fis, FisFault.FisFault}}
use Rattle.host_memory.specs.Memory.{Memory}
use Rattle.hba_fbs.specs.{declared.report.TakeReport.TakeReport, Posting.posted, Tables.{Delivers, is_sound}, Taking.{PostsIn, Takes, errors_in}}
use Rattle.hba_fbs.specs.{Taking.{heard_now, heard_report, heard_view, place_in, row_for, settled, wrote_by}, Views.{LeavesOtherViews, Port, view_of}}
use Rattle.slots.specs.Slots.{KeepsFree}

pub whole_of : (seen : Result Fis FisFault) (fis : Fis) (bytes : List ℕ) → seen ≡ Ok fis → IfOk seen (λ f. frame_of f ≡ bytes) → frame_of fis ≡ bytes
whole_of seen fis bytes is h = subst (λ (x : Result Fis FisFault). IfOk x (λ f. frame_of f ≡ bytes)) is h

pub takes_from : (old : Port) (before : Memory) (dev : ℕ) (admitted : Option Fis) (fis : Fis) (bytes : List ℕ) (report : TakeReport) (new : Port) (after : Memory) → admitted ≡ Some fis → frame_of fis ≡ bytes
    → view_of dev new ≡ heard_view dev (view_of dev old) (is_sound before old.commands (view_of dev old).slots) (Some fis) → LeavesOtherViews dev old new
    → report ≡ heard_report dev (place_in (row_for old dev) (Some fis)) (heard_now old before dev (Some fis)) → new.registers ≡ settled (posted old.registers dev (view_of dev old).state.resetting fis) (heard_now old before dev (Some fis))
    → new.errors ≡ errors_in old.registers.switching old.errors dev (heard_now old before dev (Some fis)).fault → new.commands ≡ old.commands → new.number ≡ old.number → new.active ≡ old.active → KeepsFree old.slots new.slots → PostsIn old.registers.fb (row_for old dev) (Some fis) before.structure after.structure
    → Delivers before old.commands (drop 4 (frame_of fis)) (wrote_by (heard_now old before dev (Some fis)).happening) after.client → Takes old before dev admitted (drop 4 bytes) report new after
takes_from old before dev admitted fis bytes report new after is whole own others reports registers errors commands number active frees structure client =
    subst (λ (o : Option Fis). Takes old before dev o (drop 4 bytes) report new after) (sym is)
    (record {
      own = own;
      others = others;
      reports = reports;
      registers = registers;
      errors = errors;
      commands = commands;
      number = number;
      active = active;
      frees = frees;
      structure = structure;
      client = subst (λ (b : List ℕ). Delivers before old.commands (drop 4 b) (wrote_by (heard_now old before dev (Some fis)).happening) after.client) whole client;
    })

pub takes_none : (old : Port) (before : Memory) (dev : ℕ) (admitted : Option Fis) (payload : List ℕ) (report : TakeReport) (new : Port) → admitted ≡ None → Takes old before dev None payload report new before
    → Takes old before dev admitted payload report new before
takes_none old before dev admitted payload report new is h = subst (λ (o : Option Fis). Takes old before dev o payload report new before) (sym is) h
