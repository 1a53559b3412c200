-- How many FISes were sent and taken on each connection, and in which order the counts are listed. No
-- standard defines these counts.
use Rattle.std.specs.Prelude.{ℕ, ◌+◌, ◌≡◌, ◌<◌, ◌≤◌, ◌==◌, ◌&&◌, min, Bool, false, true, if◌then◌else◌, List, [], ◌∷◌, ◌++◌, length, find, HoldsAt}
use Rattle.std.specs.{Prelude.{Option, Some, None, AllPairs, ◌⊎◌}, List.{list_any, AllWithin}, Option.{option_map, option_or}}
use Rattle.hba_driver.specs.declared.mode.Mode.{Mode}
use Rattle.pm_world.specs.{Attached.Attached, Places.{Places, is_config, new_world_in}, Rules.Run, Traffic.{sent, taken}}
use Rattle.pm_world.specs.declared.{counts.ConnCount.ConnCount, step.Config.Config, step.Step.Step, step.Answer.Answer}
use Rattle.pm_world.specs.declared.step.Answer.TheVariants as answer

-- the largest count; a count that reached it stays
abbrev pub largest_count : ℕ
largest_count = 18446744073709551615

abbrev pub capped : ℕ → ℕ
capped count = min count largest_count

-- the row is that of connection c of port n
abbrev pub is_of : ℕ → ℕ → ConnCount → Bool
is_of n c row = row.port == n && row.conn == c

-- the row of connection c of port n, if there is one
abbrev pub row_of : ℕ → ℕ → List ConnCount → Option ConnCount
row_of n c rows = find (is_of n c) rows

-- the first row stands before the second: lower ports first, and earlier connections of one port
-- first
abbrev pub Precedes : ConnCount → ConnCount → Type 0
Precedes row later = (row.port < later.port) ⊎ ((row.port ≡ later.port) × (row.conn < later.conn))

abbrev pub AreSorted : List ConnCount → Type 0
AreSorted rows = AllPairs Precedes rows

-- the row at place i is that of the connection
pub record IsRowAt (rows : List ConnCount) (port conn i : ℕ) : Type 0 where
  pub in_range : i < length rows
  pub has_key : HoldsAt (λ row. (row.port ≡ port) × (row.conn ≡ conn)) rows i

-- the row of a connection that came just now
abbrev pub first_row : ℕ → ℕ → ConnCount
first_row n c = record { port = n; conn = c; sent = 0; taken = 0 }

-- such a row would go at place i: the rows before place i precede it, and it precedes those from
-- place i on
pub record IsGapFor (rows : List ConnCount) (port conn i : ℕ) : Type 0 where
  pub in_range : i ≤ length rows
  pub before : AllWithin (λ row. Precedes row (first_row port conn)) rows 0 i
  pub after : AllWithin (λ row. Precedes (first_row port conn) row) rows i (length rows)

abbrev pub sent_more : ConnCount → ConnCount
sent_more row =
    record { port = row.port; conn = row.conn; sent = capped (row.sent + 1); taken = row.taken }

abbrev pub taken_more : ConnCount → ConnCount
taken_more row =
    record { port = row.port; conn = row.conn; sent = row.sent; taken = capped (row.taken + 1) }

-- the row of connection c of port n after an answer: nothing is counted for a connection without a
-- row
abbrev pub noted : ℕ → ℕ → Answer → Option ConnCount → Option ConnCount
noted n c (answer.Came port conn) row =
    if port == n && conn == c then option_or row (Some (first_row n c)) else row
noted n c (answer.Sent port conn number bytes) row =
    if port == n && conn == c then option_map sent_more row else row
noted n c (answer.Took port conn number bytes report) row =
    if port == n && conn == c then option_map taken_more row else row
noted n c _ row = row

-- the connection has a row, a first one if it had none; every other row is as it was
abbrev pub HasRowFor : List ConnCount → (port conn : ℕ) → List ConnCount → Type 0
HasRowFor old port conn new =
    (n c : ℕ) → row_of n c new
    ≡ (if port == n && conn == c then option_or (row_of n c old) (Some (first_row n c))
    else row_of n c old)

-- the connection's row is changed in this way, if it has one; every other row is as it was
abbrev pub ChangesRow : (ConnCount → ConnCount) → List ConnCount → (port conn : ℕ) → List ConnCount
    → Type 0
ChangesRow change old port conn new =
    (n c : ℕ) → row_of n c new
    ≡ (if port == n && conn == c then option_map change (row_of n c old) else row_of n c old)

-- every row is what the answer makes of it
abbrev pub CountsAnswer : List ConnCount → Answer → List ConnCount → Type 0
CountsAnswer old answer new = (n c : ℕ) → row_of n c new ≡ noted n c answer (row_of n c old)

-- the answer adds a row, so memory may run out
abbrev pub AddsRow : List ConnCount → Answer → Type 0
AddsRow rows (answer.Came port conn) = row_of port conn rows ≡ None
AddsRow rows _ = ⊥

-- whether the answer says that connection c of port n came
abbrev pub says_came : ℕ → ℕ → Answer → Bool
says_came n c (answer.Came port conn) = port == n && conn == c
says_came n c _ = false

abbrev pub has_come : ℕ → ℕ → List Answer → Bool
has_come n c answers = list_any (says_came n c) answers

-- The rows tell what the answers say. There is a row for each connection that came and for no other,
-- with the numbers of FISes that were sent and taken on it.
pub record Tell (rows : List ConnCount) (answers : List Answer) : Type 0 where
  pub row_is : (n c : ℕ) → row_of n c rows ≡
      (if has_come n c answers
      then Some (record {
        port = n;
        conn = c;
        sent = capped (length (sent n c answers));
        taken = capped (length (taken n c answers));
      })
      else None)

-- these answers are those of a run from a new world, in one of the modes
pub record AreOfARun (answers : List Answer) : Type 0 where
  pub mode : Mode
  pub config : Config
  pub units : List Attached
  pub fits : is_config config (length units) ≡ true
  pub steps : List Step
  pub now : Places
  pub run : Run (new_world_in mode config units) steps answers now

-- rows that told what the answers of a run say still do with one more answer
abbrev pub GoesOnTelling : List ConnCount → Answer → List ConnCount → Type 0
GoesOnTelling old answer new =
    (answers : List Answer) → AreOfARun (answers ++ answer ∷ []) → Tell old answers
    → Tell new (answers ++ answer ∷ [])
