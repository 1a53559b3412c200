-- Data of a device, and the command for whose slot it comes.
use Rattle.std.proofs.Common.{◌≡◌, ℕ, ◌+◌, ◌*◌, ◌<◌, ◌≤◌, Bool, true, false, ◌||◌, List, length, refl, sym, ◌∙◌, arith, inl, inr, Option, Some, None}
use Rattle.std.proofs.lemmas.Bool.{lt-ltb, or_left, ltb-false, cases_Bool, false≢true}
use Rattle.std.specs.Prelude.{nat_lt, is_none, if◌then◌else◌}
use Rattle.host_memory.specs.{Memory.Memory, Place.Scatters, Reading.read_fault, declared.table.PrdError.PrdError}
use Rattle.hba_commands.specs.declared.command.Command.{Command}
use Rattle.hba_fbs.specs.{declared.report.Wrote.Wrote, Tables.{Delivers, prds_of}, Views.last_command}

-- a table that begins behind the structure area cannot be read
pub not_read : (structure : List ℕ) (client_len at count : ℕ) → length structure < at → is_none (read_fault structure client_len at count) ≡ false
not_read structure client_len at count h =
    let past : (nat_lt (length structure) (at + 16 * count) || nat_lt 248 count) ≡ true = or_left _ _ (lt-ltb (length structure) (at + 16 * count) (omega arith)) in
    rw past refl

passes : {A : Type 0} (test : Bool) (e : A) (rest : Option A) → (if test then Some e else rest) ≡ None → test ≡ false
passes true e rest h = cc
passes false e rest h = refl

-- a table that can be read begins in it
pub read_inside : (structure : List ℕ) (client_len at count : ℕ) → read_fault structure client_len at count ≡ None → at ≤ length structure
read_inside structure client_len at count h =
    let within : (nat_lt (length structure) (at + 16 * count) || nat_lt 248 count) ≡ false = passes _ PrdError.OutsideStructure _ h in
    elim (cases_Bool (nat_lt (length structure) (at + 16 * count))) [
      | inl past ↦ absurd (false≢true (sym within ∙ or_left _ _ past))
      | inr inside ↦ let le = ltb-false (length structure) (at + 16 * count) inside in omega (arith, le)
    ]

-- a payload that is written by the table of a slot's command
pub delivers_at : (memory : Memory) (commands : List (Option Command)) (payload : List ℕ) (wrote : Option Wrote) (new : List ℕ) (at : Wrote) (command : Command) → wrote ≡ Some at
    → last_command commands at.slot ≡ Some command → Scatters (prds_of memory command) at.offset payload memory.client new → Delivers memory commands payload wrote new
delivers_at memory commands payload wrote new at command is has h = rw is (rw has h)
