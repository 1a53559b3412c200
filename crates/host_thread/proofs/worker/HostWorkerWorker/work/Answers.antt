use Rattle.std.proofs.Common.{rules, ◌≡◌}
use Rattle.std.specs.Prelude.{IfSome}
use Rattle.host_thread.proofs.Steps.{same_then}
use Rattle.host_thread.proofs.worker.HostWorkerWorker.work.Goals as goal
use Rattle.host_thread.proofs.worker.HostWorkerWorker.work.Goals.{else-loop-test, then-loop-test+then-not-is_open, then-not-is_open-via-then-not-is_open, then-not-is_open-via-else-not-is_open+then-is_some, then-not-is_open-via-else-not-is_open+else-is_some+then-not-begins, then-loop-test+else-not-is_open+else-is_some+else-not-begins+in-Err}

pub returns : goal.returns
returns g c = elim c.loop-test.branch [
  | else-loop-test w ↦
      let spent : IfSome c.spent-2.result (λ s. s.turns ≡ c.args.post.turns) = search rules in
      rw w.self-is (c.loop.invariant.run, c.loop.invariant.same, spent)
  | then-loop-test+then-not-is_open w ↦ elim w.then-not-is_open.branch [
    | then-not-is_open-via-then-not-is_open v ↦
        let spent : IfSome c.spent-2.result (λ s. s.turns ≡ c.args.post.turns) = search rules in
        rw w.self-is (c.loop.invariant.run, c.loop.invariant.same, spent)
    | then-not-is_open-via-else-not-is_open+then-is_some v ↦
        let spent : IfSome c.spent-2.result (λ s. s.turns ≡ c.args.post.turns) = search rules in
        rw w.self-is (c.loop.invariant.run, c.loop.invariant.same, spent)
    | then-not-is_open-via-else-not-is_open+else-is_some+then-not-begins v ↦
        let spent : IfSome c.spent-2.result (λ s. s.turns ≡ c.args.post.turns) = search rules in
        rw w.self-is (c.loop.invariant.run, c.loop.invariant.same, spent)
  ]
  | then-loop-test+else-not-is_open+else-is_some+else-not-begins+in-Err w ↦
      let spent : IfSome c.spent-2.result (λ s. s.turns ≡ c.args.post.turns) = search rules in
      rw w.self-is (
        (λ start r. w.turn.ensures.run start (c.loop.invariant.run start r)),
        same_then _ _ _ c.loop.invariant.same w.turn.ensures.same,
        spent,
      )
]
