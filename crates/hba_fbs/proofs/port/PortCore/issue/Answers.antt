use Rattle.std.proofs.Common.{◌≡◌, ℕ, subst}
use Rattle.std.specs.Prelude.{if◌then◌else◌, ◌==◌}
use Rattle.hba_fbs.specs.{Issuing.view_with, Offering.asked_by, Views.{LeavesOtherViews, view_of}}
use Rattle.hba_fbs.proofs.port.PortCore.issue.Goals as goal

pub returns-clause-own : goal.returns-clause-own
returns-clause-own g c =
    subst (λ (dev : ℕ). view_of dev c.issue_for.new.self ≡ view_with dev (asked_by (g.O.Offers.offer c.args.offers.now) c.args.value) (view_of dev c.args.self.now))
    c.aimed-dev.ensures.is c.issue_for.ensures.own

pub returns-clause-others : goal.returns-clause-others
returns-clause-others g c =
    subst (λ (dev : ℕ). LeavesOtherViews dev c.args.self.now c.issue_for.new.self) c.aimed-dev.ensures.is c.issue_for.ensures.others

pub returns-clause-active : goal.returns-clause-active
returns-clause-active g c =
    subst (λ (dev : ℕ). c.issue_for.new.self.active ≡ (if c.args.value == 0 then c.args.self.now.active else dev)) c.aimed-dev.ensures.is c.issue_for.ensures.active
