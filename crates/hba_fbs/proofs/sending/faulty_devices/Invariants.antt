use Rattle.std.proofs.Common.{◌≡◌}
use Rattle.std.specs.Option.{is_some}
use Rattle.port_errors.specs.Errors.{cause_of}
use Rattle.slots.specs.Slots.{mask_below}
use Rattle.hba_fbs.proofs.sending.faulty_devices.Given as goal

abbrev pub invariant-loop-dev : goal.invariant-loop-dev
invariant-loop-dev l = l.mask ≡ mask_below (λ k. is_some (cause_of l.errors k)) l.dev
