use Rattle.std.proofs.{Common.{rules, ◌≡◌, [], length, replicate, refl, sym, ap, ◌∙◌, subst}, lemmas.List.{length-replicate}}
use Rattle.multiplier.specs.Orders.{InStampedOrder}
use Rattle.host_memory.specs.Memory.{IsHostMemory}
use Rattle.link_items.specs.Beginnings.{stamped_starts}
use Rattle.host_thread.specs.{declared.plan.State.TheVariants.Waits, Runs.{AreGiven, count_submitted, starting}, Tally.AreCounted}
use Rattle.host_thread.proofs.{Counting.none_submitted, Requests.none_given, Tallies.none_counted, Steps.begins}
use Rattle.host_thread.proofs.worker.HostWorker.new.Goals as goal

pub invariant_of-result : goal.invariant_of-result
invariant_of-result c =
    let states : c.in_ok-states.states.items ≡ replicate (length c.args.plan.items) Waits = search rules in
    let rows : c.new-3.result.items ≡ [] = search rules in (
      record {
        order = subst InStampedOrder (sym c.requires.up) stamped_starts;
        all = ap length states ∙ length-replicate _ _;
      },
      subst (λ l. AreCounted l c.args.frames.taken) (sym rows) (subst (AreCounted []) (sym c.requires.up) none_counted),
      subst (AreGiven 0) (sym states) (none_given (length c.args.plan.items)),
      subst (λ l. 0 ≡ count_submitted l) (sym states) (none_submitted (length c.args.plan.items)),
    )

pub returns-clause-run : goal.returns-clause-run
returns-clause-run c =
    let states : c.in_ok-states.states.items ≡ replicate (length c.args.plan.items) Waits = search rules in
    let host : c.new.result ≡ starting c.args.memory = search rules in
    let right : IsHostMemory c.args.memory = search rules in
    begins c.args.memory right _ (length c.args.plan.items) host c.requires.up c.requires.down refl states
