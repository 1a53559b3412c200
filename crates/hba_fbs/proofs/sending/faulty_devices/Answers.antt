use Rattle.std.proofs.Common.{◌≡◌, ◌<◌, Bool, ℕ, arith, sym, ap, ◌∙◌}
use Rattle.std.specs.Option.{is_some}
use Rattle.port_errors.specs.Errors.{cause_of}
use Rattle.slots.specs.Slots.{mask_below}
use Rattle.slots.proofs.Door.{mask_fits, mask_none, mask_same, mask_set}
use Rattle.hba_fbs.proofs.sending.faulty_devices.Goals.{then-faulty, else-faulty}
use Rattle.hba_fbs.proofs.sending.faulty_devices.Goals as goal

pub loop-dev-init : goal.loop-dev-init
loop-dev-init c = sym (mask_none _)

pub loop-dev-preserved : goal.loop-dev-preserved
loop-dev-preserved c =
    let test : ℕ → Bool = λ k. is_some (cause_of c.args.errors.now k) in
    let dev = c.loop-dev.dev in
    elim c.if-faulty.branch [
      | then-faulty w ↦ w.mask-is ∙ mask_set test dev c.loop-dev.mask (omega (arith, c.loop-dev-test.true)) c.loop-dev.invariant (sym c.faulty.ensures ∙ w.if-faulty.true)
      | else-faulty w ↦ w.mask-is ∙ mask_same test dev c.loop-dev.mask c.loop-dev.invariant (sym c.faulty.ensures ∙ w.if-faulty.false)
    ]

pub low_half-requires : goal.low_half-requires
low_half-requires c =
    let test : ℕ → Bool = λ k. is_some (cause_of c.args.errors.now k) in
    let all : c.loop-dev.mask ≡ mask_below test 16 = c.loop-dev.invariant ∙ ap (mask_below test) (omega arith) in
    let fits : mask_below test 16 < 65536 = mask_fits test 16 in
    omega (arith, all, fits)
