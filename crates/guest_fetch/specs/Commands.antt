-- A command, as it was supplied.
use Rattle.std.specs.Prelude.{◌≡◌, ℕ, ◌+◌, ◌^◌, ◌≤◌}
use Rattle.guest_fetch.specs.{declared.head.Head.Head, Headers.IsTaken, Places.{Places, reach_of}}

-- where its header lies; header and FIS; where its bytes lie; how many of them were moved, in either direction
pub record Fetched : Type 0 where
  pub at : ℕ
  pub head : Head
  pub table : Places
  pub moved : ℕ

-- what holds for every command
pub record IsCommand (c : Fetched) : Type 0 where
  pub place : c.at + 32 ≤ 2 ^ 64
  pub header : IsTaken c.head.header
  pub len : c.table.len ≡ c.head.work.len
  pub some : c.moved ≤ reach_of c.table
