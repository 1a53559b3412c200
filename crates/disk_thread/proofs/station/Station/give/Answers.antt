use Rattle.std.proofs.Common.{rules, ◌≡◌, ◌<◌, ◌+◌, ◌++◌, ◌∷◌, [], true, None, length, length-append, refl, sym, ap, subst, ◌∙◌, append-nil}
use Rattle.std.specs.{Prelude.All, Option.option_to_list}
use Rattle.disk_model.specs.Histories.{SendsNext}
use Rattle.disk_thread.specs.Runs.{ArePast, IsCounted, IsRun}
use Rattle.disk_thread.proofs.{CountLemmas.{counted_more, past_more}, DeedLemmas.run_gave}
use Rattle.disk_thread.proofs.station.Station.give.Goals as goal

pub invariant_of-self : goal.invariant_of-self
invariant_of-self g c =
    let sent = c.self.inside.frames.sent in
    let empty : c.self.inside.hand ≡ None = search rules in
    let of_conn : c.in-Ok-Some.frame.stamp.conn ≡ c.self.inside.conn = search rules in
    let of_number : c.in-Ok-Some.frame.stamp.number ≡ c.self.inside.number = search rules in
    let same : sent ++ option_to_list c.self.inside.hand ≡ sent = ap (λ o. sent ++ option_to_list o) empty ∙ append-nil sent in
    let as_many : c.self.inside.given ≡ length sent = c.self.invariant.3 ∙ ap length same in
    let one_more : c.self.inside.given + 1 ≡ length (sent ++ c.in-Ok-Some.frame ∷ []) =
    ap (λ n. n + 1) as_many ∙ sym (length-append sent (c.in-Ok-Some.frame ∷ [])) in
    let counted : IsCounted sent c.self.inside.conn c.self.inside.number = subst (λ l. IsCounted l c.self.inside.conn c.self.inside.number) same c.self.invariant.0 in
    let past : ArePast c.self.inside.past.items c.self.inside.conn sent = subst (λ l. ArePast c.self.inside.past.items c.self.inside.conn l) same c.self.invariant.1 in
    (counted_more sent _ _ c.in-Ok-Some.frame counted of_conn of_number, past_more _ sent _ c.in-Ok-Some.frame past of_conn, c.self.invariant.2, one_more)

pub returns-in-Ok-Some-clause-run : goal.returns-in-Ok-Some-clause-run
returns-in-Ok-Some-clause-run g c due opening r =
    let d = g.D.Device in
    let ok : SendsNext d.plan_of d.stands_for d.may_send c.self.inside.unit c.in-Ok-Some.frame.bytes c.next_out.new.self = search rules in
    let in_place : c.self.inside.plugged ≡ true = search rules in
    let empty : c.self.inside.hand ≡ None = search rules in
    let of_port : c.in-Ok-Some.frame.stamp.port ≡ c.self.inside.port = search rules in
    let of_conn : c.in-Ok-Some.frame.stamp.conn ≡ c.self.inside.conn = search rules in
    let none : All (λ count. c.self.inside.given < count) c.self.inside.pulls.items = search rules in
    run_gave d.plan_of d.stands_for d.may_send due opening _ _ c.in-Ok-Some.frame ok in_place of_port of_conn refl refl refl refl empty refl refl
    refl (subst (λ n. All (λ count. n < count) c.self.inside.pulls.items) c.self.invariant.3 none)
    (subst (IsRun d.plan_of d.stands_for d.may_send due opening) (sym c.self.view_is) r)
