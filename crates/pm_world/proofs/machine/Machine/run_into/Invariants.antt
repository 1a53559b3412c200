use Rattle.std.proofs.Common.{◌≡◌, ◌+◌, ◌≤◌, length, take, drop, vec_len}
use Rattle.std.specs.Prelude.{vec_capacity}
use Rattle.pm_world.specs.Rules.{Run}
use Rattle.pm_world.proofs.machine.Machine.run_into.Given as goal

-- the answers of the steps so far are behind the old ones, and there is room for the others
abbrev pub invariant-loop-i : goal.invariant-loop-i
invariant-loop-i g l = record {
  kept : take (length l.fn.answers.items) l.answers.items ≡ l.fn.answers.items;
  run : Run l.fn.self (take l.i l.steps) (drop (length l.fn.answers.items) l.answers.items) l.self;
  room : vec_len l.fn.answers + length l.steps ≤ vec_capacity l.answers;
  count : vec_len l.answers ≡ vec_len l.fn.answers + l.i;
}
