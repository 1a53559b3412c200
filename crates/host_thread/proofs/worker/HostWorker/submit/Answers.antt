use Rattle.std.proofs.{Common.{rules, ◌≡◌, ◌<◌, ◌≤◌, ◌+◌, ◌∙◌, true, false, length, Some, ap, sym, refl, subst, arith}, lemmas.List.{length-set}}
use Rattle.std.specs.{Prelude.{nat_lt, slice_index_or, slice_set}, List.list_any}
use Rattle.hba_driver.specs.{HostTurns.Submits, Submits.submit_refusal}
use Rattle.host_thread.specs.declared.plan.Ended.TheVariants as ended
use Rattle.host_thread.specs.{declared.plan.Planned.Planned, Runs.{AreGiven, HostView, GoesOn, MayWait, count_submitted, is_for_now, is_submitted}}
use Rattle.host_thread.specs.declared.plan.State.TheVariants as state
use Rattle.host_thread.proofs.{Counting.{any_counted, as_many, at_most_all, one_more}, Requests.{IsDue, one_given}, Steps.{with_states, submits}}
use Rattle.host_thread.proofs.{Steps.refuses, Waiting.waits_barred}
use Rattle.host_thread.proofs.worker.HostWorker.submit.Goals as goal

pub returns-in-Ok-clause-run : goal.returns-in-Ok-clause-run
returns-in-Ok-clause-run c =
    let w : HostView = record {
      host = c.self.inside.host;
      frames = c.self.inside.frames;
      commands = c.self.inside.commands;
      hand = c.self.inside.hand;
      plan = c.self.inside.plan.items;
      states = c.self.inside.states.items;
    } in
    let i = c.self.inside.next in
    let q : Planned = c.index-planned.result.now in
    let there : i < length w.plan = search rules in
    let all : length w.states ≡ length w.plan = search rules in
    let given : AreGiven i w.states = search rules in
    let counted : c.self.inside.under_way ≡ count_submitted w.states = search rules in
    let few : q.wait ≡ true → nat_lt 0 c.self.inside.under_way ≡ false = search rules in
    let none : q.wait ≡ true → list_any is_submitted w.states ≡ false = λ wait. any_counted w.states ∙ ap (nat_lt 0) (sym counted) ∙ few wait in
    let due : IsDue w.plan w.states i (slice_index_or w.plan i q).wait =
    subst (λ (p : Planned). IsDue w.plan w.states i p.wait) c.index-planned.ensures
    (record { there = there; all = all; given = given; none_open = none }) in
    let does : Submits w.host q.dev q.request c.in-Ok.ticket.0 c.submit.new.self = search rules in
    let at : Submits w.host (slice_index_or w.plan i q).dev (slice_index_or w.plan i q).request c.in-Ok.ticket.0 c.submit.new.self =
    subst (λ (p : Planned). Submits w.host p.dev p.request c.in-Ok.ticket.0 c.submit.new.self) c.index-planned.ensures does in
    subst (λ (o : HostView). GoesOn o (with_states w c.submit.new.self (slice_set w.states i (state.Submitted c.in-Ok.ticket)))) c.self.view_is
    (submits w c.submit.new.self i q c.in-Ok.ticket due at)

pub returns-clause-run : goal.returns-clause-run
returns-clause-run c =
    let w : HostView = record {
      host = c.self.inside.host;
      frames = c.self.inside.frames;
      commands = c.self.inside.commands;
      hand = c.self.inside.hand;
      plan = c.self.inside.plan.items;
      states = c.self.inside.states.items;
    } in
    let i = c.self.inside.next in
    let q : Planned = c.index-planned.result.now in
    let there : i < length w.plan = search rules in
    let all : length w.states ≡ length w.plan = search rules in
    let given : AreGiven i w.states = search rules in
    let counted : c.self.inside.under_way ≡ count_submitted w.states = search rules in
    let few : q.wait ≡ true → nat_lt 0 c.self.inside.under_way ≡ false = search rules in
    let none : q.wait ≡ true → list_any is_submitted w.states ≡ false = λ wait. any_counted w.states ∙ ap (nat_lt 0) (sym counted) ∙ few wait in
    let due : IsDue w.plan w.states i (slice_index_or w.plan i q).wait =
    subst (λ (p : Planned). IsDue w.plan w.states i p.wait) c.index-planned.ensures
    (record { there = there; all = all; given = given; none_open = none }) in
    let same : c.submit.new.self ≡ w.host = search rules in
    let refused : submit_refusal w.host.driver w.host.memory q.dev q.request ≡ Some c.in-Err.refusal = search rules in
    let final : is_for_now c.in-Err.refusal ≡ false = search rules in
    let at : submit_refusal w.host.driver w.host.memory (slice_index_or w.plan i q).dev
    (slice_index_or w.plan i q).request ≡ Some c.in-Err.refusal =
    subst (λ (p : Planned). submit_refusal w.host.driver w.host.memory p.dev p.request ≡ Some c.in-Err.refusal) c.index-planned.ensures refused in
    subst (λ (o : HostView). GoesOn o (with_states w c.submit.new.self
    (slice_set w.states i (state.Ended (ended.Refused c.in-Err.refusal))))) c.self.view_is
    (refuses w c.submit.new.self i q c.in-Err.refusal due same at final)

pub returns-then-self-gt0-clause-waits : goal.returns-then-self-gt0-clause-waits
returns-then-self-gt0-clause-waits c same =
    let w : HostView = record {
      host = c.self.inside.host;
      frames = c.self.inside.frames;
      commands = c.self.inside.commands;
      hand = c.self.inside.hand;
      plan = c.self.inside.plan.items;
      states = c.self.inside.states.items;
    } in
    let q : Planned = c.index-planned.result.now in
    let there : c.self.inside.next < length w.plan = search rules in
    let some : nat_lt 0 c.self.inside.under_way ≡ true = search rules in
    let asks : q.wait ≡ true = search rules in
    let wait : (slice_index_or w.plan c.self.inside.next q).wait ≡ true = ap (λ (p : Planned). p.wait) (sym c.index-planned.ensures) ∙ asks in
    subst MayWait c.self.view_is
    (waits_barred w c.self.inside.next c.self.invariant.0.all c.self.invariant.2 q there wait
    (any_counted w.states ∙ ap (nat_lt 0) (sym c.self.invariant.3) ∙ some))

pub overflow_add-self : goal.overflow_add-self
overflow_add-self c =
    let i = c.self.inside.next in
    let states = c.self.inside.states.items in
    let plan : i < length c.self.inside.plan.items = search rules in
    let all : length states ≡ length c.self.inside.plan.items = c.self.invariant.0.all in
    let there : i < length states = omega (arith, plan, all) in
    let more : c.self.inside.under_way + 1 ≡ count_submitted (slice_set states i (state.Submitted c.in-Ok.ticket)) =
    one_more states i c.self.inside.under_way c.self.invariant.3 there c.in-Ok.ticket c.self.invariant.2 in
    let few = at_most_all (slice_set states i (state.Submitted c.in-Ok.ticket)) in
    let long = length-set states i (state.Submitted c.in-Ok.ticket) in
    let len : c.len.result ≡ length c.self.inside.plan.items = search rules in
    let low : c.self.inside.under_way + 1 ≤ c.len.result = omega (arith, more, few, long, all, len) in
    search (rules, low)

pub invariant_of-self-in-Ok : goal.invariant_of-self-in-Ok
invariant_of-self-in-Ok c =
    let i = c.self.inside.next in
    let states = c.self.inside.states.items in
    let plan : i < length c.self.inside.plan.items = search rules in
    let all : length states ≡ length c.self.inside.plan.items = c.self.invariant.0.all in
    let there : i < length states = omega (arith, plan, all) in (
      record {
        order = c.self.invariant.0.order;
        all = length-set states i (state.Submitted c.in-Ok.ticket) ∙ all;
      },
      c.self.invariant.1,
      one_given states i (state.Submitted c.in-Ok.ticket) c.self.invariant.2 refl,
      one_more states i c.self.inside.under_way c.self.invariant.3 there c.in-Ok.ticket c.self.invariant.2,
    )

pub invariant_of-self-2 : goal.invariant_of-self-2
invariant_of-self-2 c =
    let i = c.self.inside.next in
    let states = c.self.inside.states.items in
    let end = ended.Refused c.in-Err.refusal in
    let plan : i < length c.self.inside.plan.items = search rules in
    let all : length states ≡ length c.self.inside.plan.items = c.self.invariant.0.all in
    let there : i < length states = omega (arith, plan, all) in (
      record { order = c.self.invariant.0.order; all = length-set states i (state.Ended end) ∙ all },
      c.self.invariant.1,
      one_given states i (state.Ended end) c.self.invariant.2 refl,
      as_many states i c.self.inside.under_way c.self.invariant.3 there end c.self.invariant.2,
    )
