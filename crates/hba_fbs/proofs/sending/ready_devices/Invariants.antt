use Rattle.std.proofs.Common.{◌≡◌}
use Rattle.slots.specs.Slots.{mask_below}
use Rattle.hba_fbs.specs.{Sending.is_ready, Views.state_at}
use Rattle.hba_fbs.proofs.sending.ready_devices.Given as goal

abbrev pub invariant-loop-dev : goal.invariant-loop-dev
invariant-loop-dev l = l.mask ≡ mask_below (λ k. is_ready (state_at l.states k)) l.dev
