use Rattle.std.proofs.Common.{◌≡◌, ℕ, ◌<◌, ◌≤◌}
use Rattle.hba_fbs.specs.Views.{state_at, stopped_state}
use Rattle.hba_fbs.proofs.state.stop_all.Given as goal

-- those so far are stopped, and the others are as they were
abbrev pub invariant-loop-state : goal.invariant-loop-state
invariant-loop-state l = record {
  stopped : (n : ℕ) → n < l.state-index → state_at l.states n ≡ stopped_state (state_at l.initial.states n);
  others : (n : ℕ) → l.state-index ≤ n → state_at l.states n ≡ state_at l.initial.states n;
}
