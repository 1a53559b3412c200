-- A restored table.
use Rattle.std.proofs.Common.{◌≡◌, ℕ, List, length, sym, subst}
use Rattle.std.specs.Prelude.{Option}
use Rattle.block_command.specs.Moments.{Moment}
use Rattle.block_disk.specs.{Table.Table, Saved.{KeepsTable, KeepsTableParts, TableParts, put_table, put_table_parts}}

abbrev pub table_of : TableParts → List (Option Moment) → Table
table_of parts places = record { places = places; wire = parts.1 }

-- a table of so many places
pub restored : (parts : TableParts) (old new : List ℕ) (places : List (Option Moment)) → places ≡ parts.0
    → (old ≡ put_table_parts parts new) × KeepsTableParts parts → length places ≡ 33
    → (old ≡ put_table (table_of parts places) new) × KeepsTable (table_of parts places)
restored parts old new places is from long =
    let P : List (Option Moment) → Type 0 = λ xs. (old ≡ put_table (table_of parts xs) new) × KeepsTableParts (xs, parts.1) in
    let both = subst P (sym is) from in
    (both.0, (both.1, long))
