use Rattle.std.proofs.{Common.{rules, ◌≡◌, ◌<◌, ◌∙◌, ℕ, length, refl, subst}, lemmas.List.{length-set}}
use Rattle.std.specs.Prelude.{slice_index_or, slice_set}
use Rattle.hba_driver.specs.HostTurns.{Polls}
use Rattle.host_thread.specs.declared.plan.Ended.TheVariants as ended
use Rattle.host_thread.specs.{declared.plan.State.State, Runs.{HostView, GoesOn}}
use Rattle.host_thread.specs.declared.plan.State.TheVariants as state
use Rattle.host_thread.proofs.{Counting.{one_less, there_is_one}, Requests.still_given, Steps.{with_host, with_states, polls, polls_other}}
use Rattle.host_thread.proofs.worker.HostWorker.poll.Goals as goal

pub returns-in-Some-place_of-clause-run : goal.returns-in-Some-place_of-clause-run
returns-in-Some-place_of-clause-run c =
    let w : HostView = record {
      host = c.self.inside.host;
      frames = c.self.inside.frames;
      commands = c.self.inside.commands;
      hand = c.self.inside.hand;
      plan = c.self.inside.plan.items;
      states = c.self.inside.states.items;
    } in
    let i = c.in-Some-place_of.i in
    let does : Polls w.host c.in-Some.completion c.poll.new.self = search rules in
    let there : i < length w.states = search rules in
    let is : slice_index_or w.states i state.Waits ≡ state.Submitted c.in-Some.completion.ticket = search rules in
    let all : length w.states ≡ length w.plan = search rules in
    subst (λ (o : HostView). GoesOn o (with_states w c.poll.new.self
    (slice_set w.states i (state.Ended (ended.Polled c.in-Some.completion.outcome))))) c.self.view_is
    (polls w c.poll.new.self c.in-Some.completion i there does is all)

pub returns-in_default-place_of-clause-run : goal.returns-in_default-place_of-clause-run
returns-in_default-place_of-clause-run c =
    let w : HostView = record {
      host = c.self.inside.host;
      frames = c.self.inside.frames;
      commands = c.self.inside.commands;
      hand = c.self.inside.hand;
      plan = c.self.inside.plan.items;
      states = c.self.inside.states.items;
    } in
    let does : Polls w.host c.in-Some.completion c.poll.new.self = search rules in
    let none : (j : ℕ) (s : State) → j < length w.states → slice_index_or w.states j s ≡ state.Submitted c.in-Some.completion.ticket → ⊥ =
    search rules in
    subst (λ (o : HostView). GoesOn o (with_host w c.poll.new.self)) c.self.view_is (polls_other w c.poll.new.self c.in-Some.completion does none)

pub overflow_sub-self : goal.overflow_sub-self
overflow_sub-self c =
    let i = c.in-Some-place_of.i in
    let there : i < length c.self.inside.states.items = search rules in
    let was : slice_index_or c.self.inside.states.items i state.Waits ≡ state.Submitted c.in-Some.completion.ticket = search rules in
    there_is_one c.self.inside.states.items i c.self.inside.under_way c.self.invariant.3 there c.in-Some.completion.ticket was
    (ended.Polled c.in-Some.completion.outcome)

pub invariant_of-self-in-Some-place_of : goal.invariant_of-self-in-Some-place_of
invariant_of-self-in-Some-place_of c =
    let i = c.in-Some-place_of.i in
    let end = ended.Polled c.in-Some.completion.outcome in
    let there : i < length c.self.inside.states.items = search rules in
    let was : slice_index_or c.self.inside.states.items i state.Waits ≡ state.Submitted c.in-Some.completion.ticket = search rules in (
      record {
        order = c.self.invariant.0.order;
        all = length-set c.self.inside.states.items i (state.Ended end) ∙ c.self.invariant.0.all;
      },
      c.self.invariant.1,
      still_given c.self.inside.states.items c.self.inside.next i c.in-Some.completion.ticket (state.Ended end) c.self.invariant.2 there was refl,
      one_less c.self.inside.states.items i c.self.inside.under_way c.self.invariant.3 there c.in-Some.completion.ticket was end,
    )
