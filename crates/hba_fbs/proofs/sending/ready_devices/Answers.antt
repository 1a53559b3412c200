use Rattle.std.proofs.Common.{◌≡◌, ◌<◌, Bool, ℕ, arith, sym, ap, ◌∙◌}
use Rattle.slots.specs.Slots.{mask_below}
use Rattle.slots.proofs.Door.{mask_fits, mask_none, mask_same, mask_set}
use Rattle.hba_fbs.specs.{Sending.is_ready, Views.state_at}
use Rattle.hba_fbs.proofs.sending.ready_devices.Goals.{then-is_ready, else-is_ready}
use Rattle.hba_fbs.proofs.sending.ready_devices.Goals as goal

pub loop-dev-init : goal.loop-dev-init
loop-dev-init c = sym (mask_none _)

pub loop-dev-preserved : goal.loop-dev-preserved
loop-dev-preserved c =
    let test : ℕ → Bool = λ k. is_ready (state_at c.args.states.now k) in
    let dev = c.loop-dev.dev in
    let here : c.is_ready.result ≡ test dev = c.is_ready.ensures ∙ ap is_ready c.state_of.ensures in
    elim c.if-is_ready.branch [
      | then-is_ready w ↦ w.mask-is ∙ mask_set test dev c.loop-dev.mask (omega (arith, c.loop-dev-test.true)) c.loop-dev.invariant (sym here ∙ w.if-is_ready.true)
      | else-is_ready w ↦ w.mask-is ∙ mask_same test dev c.loop-dev.mask c.loop-dev.invariant (sym here ∙ w.if-is_ready.false)
    ]

pub low_half-requires : goal.low_half-requires
low_half-requires c =
    let test : ℕ → Bool = λ k. is_ready (state_at c.args.states.now k) in
    let all : c.loop-dev.mask ≡ mask_below test 16 = c.loop-dev.invariant ∙ ap (mask_below test) (omega arith) in
    let fits : mask_below test 16 < 65536 = mask_fits test 16 in
    omega (arith, all, fits)
