use Rattle.std.proofs.Common.{◌≡◌, ℕ, ◌<◌, ◌≤◌}
use Rattle.hba_fbs.specs.{Stopping.fallen_state, Views.state_at}
use Rattle.hba_fbs.proofs.stopping.fall_all.Given as goal

-- for those so far ST fell, and the others are as they were
abbrev pub invariant-loop-state : goal.invariant-loop-state
invariant-loop-state l = record {
  fallen : (n : ℕ) → n < l.state-index → state_at l.states n ≡ fallen_state (state_at l.initial.states n);
  others : (n : ℕ) → l.state-index ≤ n → state_at l.states n ≡ state_at l.initial.states n;
}
