use Rattle.std.proofs.Common.{◌≡◌, ◌<◌, arith, sym, ap, ◌∙◌}
use Rattle.slots.specs.Slots.{has_bit, mask_below}
use Rattle.slots.proofs.Door.{has_bit_below, mask_fits, mask_none, mask_same, mask_set}
use Rattle.hba_fbs.specs.Choosing.{may_feed}
use Rattle.hba_fbs.proofs.{ChooseLemmas.{none_feed, none_feed_at}, port.PortCore.due_devices.Goals.{then-may_feed, else-may_feed}}
use Rattle.hba_fbs.proofs.port.PortCore.due_devices.Goals as goal

pub returns-then-asking-eq0-clause-value : goal.returns-then-asking-eq0-clause-value
returns-then-asking-eq0-clause-value c = none_feed c.args.self.now (sym c.asking_devices-asking.ensures ∙ c.if-asking-eq0.true)

pub returns-then-asking-eq0-clause-exact : goal.returns-then-asking-eq0-clause-exact
returns-then-asking-eq0-clause-exact c = none_feed_at c.args.self.now (sym c.asking_devices-asking.ensures ∙ c.if-asking-eq0.true)

pub loop-dev-init : goal.loop-dev-init
loop-dev-init c = sym (mask_none _)

pub loop-dev-preserved : goal.loop-dev-preserved
loop-dev-preserved c =
    let test = may_feed c.args.self.now in
    let dev = c.loop-dev.dev in
    elim c.if-may_feed.branch [
      | then-may_feed w ↦ w.mask-is ∙ mask_set test dev c.loop-dev.mask (omega (arith, c.loop-dev-test.true)) c.loop-dev.invariant (sym c.may_feed.ensures ∙ w.if-may_feed.true)
      | else-may_feed w ↦ w.mask-is ∙ mask_same test dev c.loop-dev.mask c.loop-dev.invariant (sym c.may_feed.ensures ∙ w.if-may_feed.false)
    ]

pub low_half-requires : goal.low_half-requires
low_half-requires c =
    let test = may_feed c.args.self.now in
    let all : c.loop-dev.mask ≡ mask_below test 16 = c.loop-dev.invariant ∙ ap (mask_below test) (omega arith) in
    let fits : mask_below test 16 < 65536 = mask_fits test 16 in
    omega (arith, all, fits)

pub returns-clause-value : goal.returns-clause-value
returns-clause-value c = c.low_half.ensures ∙ c.loop-dev.invariant ∙ ap (mask_below (may_feed c.args.self.now)) (omega arith)

pub returns-clause-exact : goal.returns-clause-exact
returns-clause-exact c dev below =
    let all : c.low_half.result ≡ mask_below (may_feed c.args.self.now) 16 = c.low_half.ensures ∙ c.loop-dev.invariant ∙ ap (mask_below (may_feed c.args.self.now)) (omega arith) in
    ap (λ m. has_bit m dev) all ∙ has_bit_below (may_feed c.args.self.now) 16 dev (omega arith) below
