use Rattle.std.proofs.Common.{◌≡◌, ◌<◌, List, Option, length, arith, ap, subst, ◌∙◌}
use Rattle.std.specs.Option.{is_some}
use Rattle.slots.specs.{Commands.is_any, Slots.{Issue, holds, own_issue, own_of}}
use Rattle.slots.proofs.{ListLemmas.{gather_ends, gather_on, gather_starts, issued_only}, MaskLemmas.{any_issued, own_read}}
use Rattle.slots.proofs.list.SlotList.of_device.Goals as goal

pub walk-init : goal.walk-init
walk-init c = (
  rw (← c.self.view_is) (gather_starts (λ k. holds is_any (own_issue (own_of c.args.dev c.self.inside.slots) k)) _
      (issued_only c.args.dev _ c.self.inside.slots c.self.invariant.0 c.self.invariant.1.issued.bits)),
  omega arith,
)

pub walk-preserved : goal.walk-preserved
walk-preserved c =
    let issues = c.self.inside.slots in
    let dev = c.args.dev in
    let s = c.in-Some.slot in
    let below : s < length issues = omega (arith, c.self.invariant.0, c.in-Some.ensures.0) in
    let here : c.is_some.result ≡ holds is_any (own_issue (own_of dev issues) s) = c.is_some.ensures ∙ ap is_some c.issued_by.ensures ∙ any_issued _ ∙ ap (holds is_any) (own_read dev issues s _ below) in (
      gather_on (λ k. holds is_any (own_issue (own_of dev c.args.self.now) k)) c.walk.rest _ s c.walk.found _ c.is_some.result c.walk.invariant.0 c.with_bit-found.ensures
          (subst (λ (x : List (Option Issue)). c.is_some.result ≡ holds is_any (own_issue (own_of dev x) s)) c.self.view_is here) c.without-rest.ensures.bits,
      omega arith,
    )

pub returns : goal.returns
returns c = gather_ends (λ k. holds is_any (own_issue (own_of c.args.dev c.args.self.now) k)) c.walk.rest c.walk.found c.walk.invariant.1 c.walk.invariant.0 c.in_default.ensures
