use Rattle.std.proofs.Common.{rules, ◌≡◌, ◌++◌, ◌∷◌, [], false, None, refl, sym, ap, ◌∙◌, append-nil, subst}
use Rattle.std.specs.Option.{option_to_list}
use Rattle.disk_model.specs.Histories.{GoesOn, Plugged}
use Rattle.disk_thread.specs.Runs.{AreTold, IsRun}
use Rattle.disk_thread.proofs.{CountLemmas.{counted_comes, past_comes}, DeedLemmas.run_plugged, ToldLemmas.told_came}
use Rattle.disk_thread.proofs.station.Station.plug.Goals as goal

pub invariant_of-self-2 : goal.invariant_of-self-2
invariant_of-self-2 g c =
    let is : c.push.new.self.items ≡ c.self.inside.past.items ++ c.self.inside.number ∷ [] = search rules in
    let empty : c.self.inside.note ≡ None = search rules in
    let sent = c.self.inside.presence.sent in
    let same : sent ++ option_to_list c.self.inside.note ≡ sent = ap (λ o. sent ++ option_to_list o) empty ∙ append-nil sent in (
      counted_comes _ _ _ c.self.invariant.0,
      rw is (past_comes _ _ _ _ c.self.invariant.0 c.self.invariant.1),
      told_came sent c.self.inside.conn (subst (λ l. AreTold l c.self.inside.conn) same c.self.invariant.2),
      c.self.invariant.3,
    )

pub returns-clause-run : goal.returns-clause-run
returns-clause-run g c due opening r =
    let d = g.D.Device in
    let ok : GoesOn d.plan_of d.stands_for c.self.inside.unit Plugged c.plugged.new.self = search rules in
    let out : c.self.inside.plugged ≡ false = search rules in
    let empty : c.self.inside.note ≡ None = search rules in
    run_plugged d.plan_of d.stands_for d.may_send due opening _ _ ok out refl refl refl refl refl empty refl refl
    (subst (IsRun d.plan_of d.stands_for d.may_send due opening) (sym c.self.view_is) r)
