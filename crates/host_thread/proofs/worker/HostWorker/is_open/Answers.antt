use Rattle.std.proofs.Common.{rules, ◌≡◌, ◌∙◌, true, false, length, sym, ap}
use Rattle.std.specs.{Prelude.{◌||◌, nat_lt}, List.list_any}
use Rattle.host_thread.specs.Runs.{HostView, count_submitted, is_open}
use Rattle.host_thread.proofs.Counting.{open_counted}
use Rattle.host_thread.proofs.worker.HostWorker.is_open.Goals as goal

pub returns-then-self-len : goal.returns-then-self-len
returns-then-self-len c =
    let states : c.self.inside.states.items ≡ c.args.self.now.states = ap (λ (w : HostView). w.states) c.self.view_is in
    let len : c.len.result ≡ length c.self.inside.plan.items = search rules in
    let long : c.len.result ≡ length c.self.inside.states.items = len ∙ sym c.self.invariant.0.all in
    let lt : nat_lt c.self.inside.next c.len.result ≡ true = search rules in
    let counted = open_counted c.self.inside.next c.self.inside.states.items c.self.invariant.2 in
    lt
    ∙ sym (sym (ap (list_any is_open) states) ∙ counted
    ∙ ap (λ b. b || nat_lt 0 (count_submitted c.self.inside.states.items)) (ap (nat_lt c.self.inside.next) (sym long) ∙ lt))

pub returns-else-self-len : goal.returns-else-self-len
returns-else-self-len c =
    let states : c.self.inside.states.items ≡ c.args.self.now.states = ap (λ (w : HostView). w.states) c.self.view_is in
    let len : c.len.result ≡ length c.self.inside.plan.items = search rules in
    let long : c.len.result ≡ length c.self.inside.states.items = len ∙ sym c.self.invariant.0.all in
    let ge : nat_lt c.self.inside.next c.len.result ≡ false = search rules in
    let counted = open_counted c.self.inside.next c.self.inside.states.items c.self.invariant.2 in
    ap (nat_lt 0) c.self.invariant.3
    ∙ sym (sym (ap (list_any is_open) states) ∙ counted
    ∙ ap (λ b. b || nat_lt 0 (count_submitted c.self.inside.states.items)) (ap (nat_lt c.self.inside.next) (sym long) ∙ ge))
