use Rattle.std.proofs.{Common.{◌<◌, ◌≤◌, ◌≡◌, ◌∙◌, ◌*◌, List, None, Some, ap, sym, subst, refl, false, length, arith}, lemmas.List.{length-replicate}}
use Rattle.disk_model.specs.{Sendings.Sending, Chunks.{chunks, sends_left, fault_of}, Requests.IsCounted, Disks.{DiskValue, picked, went}}
use Rattle.disk_model.specs.{Insides.{seen_as, sends_after, started_by, IsStaged, IsTransfer, Leads}, declared.disk.Reading.Reading}
use Rattle.disk_model.specs.declared.disk.Transfer.TheVariants.{Read, Write}
use Rattle.disk_model.proofs.turns.TurnLemmas.{on_err_so, has_start, takes_start, picked_counted, went_on, same_moment}
use Rattle.disk_model.proofs.agreement.FaultLemmas.{can_be_done}
use Rattle.disk_model.proofs.disk.Disk.give_start.Goals as goal

pub returns-in_ok-frame-in-None-2-clause-gives : goal.returns-in_ok-frame-in-None-2-clause-gives
returns-in_ok-frame-in-None-2-clause-gives c =
    let v = c.args.self.now in
    let d = c.self.inside in
    let is : seen_as d ≡ v = c.self.view_is in
    let was = sym is in
    let f = c.in_ok-frame-in-None-2 in
    let command = c.in-Some.command in
    let r : Reading = record { command = command; left = c.chunks_of.result; set_up = false } in
    let later = sends_after d.plan d.medium.items r false in
    let good : fault_of v.plan v.sectors command ≡ None = ap (λ (x : DiskValue). fault_of x.plan x.sectors command) was ∙ sym c.in-None.ensures in
    let here : Leads (sends_left d.plan d.medium.items command c.chunks_of.result) f.frame.bytes later = rw c.as_slice.ensures.value at f.ensures.leads in
    let all : sends_left v.plan v.now.medium command (chunks v.plan command) ≡ sends_left d.plan d.medium.items command c.chunks_of.result = ap (λ (x : DiskValue). sends_left x.plan x.now.medium command (chunks x.plan command)) was ∙ ap (λ n. sends_left d.plan d.medium.items command n) (sym c.chunks_of.ensures.chunks) in
    let leads = subst (λ (xs : List Sending). Leads xs f.frame.bytes later) (sym all) here in
    let next = ap (λ (x : DiskValue). went x.now command later) was ∙ went_on d.plan (seen_as d).now r false refl c.chunks_of.ensures.some (λ e. cc) ∙ ap (λ (x : Reading). record (seen_as d).now { started = started_by d.plan d.medium.items (Read x) }) (sym c.moved_on.ensures) in
    let left = next ∙ same_moment _ _ refl refl refl refl refl refl (ap (λ (x : DiskValue). x.now.writing) is ∙ c.requires.writing) in
    (takes_start v.plan v.sectors v.now _ command later f.frame.bytes c.if-command.false c.requires.owed c.requires.started c.requires.writing (sym c.in-Some.ensures) good leads (sym left), ap (λ (x : DiskValue). x.plan) is, ap (λ (x : DiskValue). x.sectors) is)

pub returns-in_err-frame-in-None-2-clause-no_memory : goal.returns-in_err-frame-in-None-2-clause-no_memory
returns-in_err-frame-in-None-2-clause-no_memory c =
    let v = c.args.self.now in
    let is : seen_as c.self.inside ≡ v = c.self.view_is in
    let command = c.in-Some.command in
    let good : fault_of v.plan v.sectors command ≡ None = ap (λ (x : DiskValue). fault_of x.plan x.sectors command) (sym is) ∙ sym c.in-None.ensures in
    let all = c.chunks_of.ensures.chunks ∙ ap (λ (x : DiskValue). chunks x.plan command) is in
    let some = subst (λ n. 0 < n) all c.chunks_of.ensures.some in
    on_err_so c.from_residual-in_err-frame-in-None-2.result (has_start v.plan v.sectors v.now command c.if-command.false c.requires.owed c.requires.started c.requires.writing (sym c.in-Some.ensures) good some)

pub chunks_of-requires-clause-some : goal.chunks_of-requires-clause-some
chunks_of-requires-clause-some c =
    let d = c.self.inside in
    let command = c.in-Some.command in
    let next : picked d.plan.order d.queue.items ≡ Some command = ap (λ (x : DiskValue). picked x.plan.order x.now.queued) c.self.view_is ∙ sym c.in-Some.ensures in
    let counted : IsCounted command = picked_counted d.plan.order d.queue.items command c.self.invariant.counts next in
    counted.0

pub chunks_of-requires-clause-short : goal.chunks_of-requires-clause-short
chunks_of-requires-clause-short c =
    let d = c.self.inside in
    let command = c.in-Some.command in
    let next : picked d.plan.order d.queue.items ≡ Some command = ap (λ (x : DiskValue). picked x.plan.order x.now.queued) c.self.view_is ∙ sym c.in-Some.ensures in
    let counted : IsCounted command = picked_counted d.plan.order d.queue.items command c.self.invariant.counts next in
    counted.1

pub reading_frame-requires-clause-transfer : goal.reading_frame-requires-clause-transfer
reading_frame-requires-clause-transfer c =
    let d = c.self.inside in
    let command = c.in-Some.command in
    let next : picked d.plan.order d.queue.items ≡ Some command = ap (λ (x : DiskValue). picked x.plan.order x.now.queued) c.self.view_is ∙ sym c.in-Some.ensures in
    let counted : IsCounted command = picked_counted d.plan.order d.queue.items command c.self.invariant.counts next in
    let can = can_be_done d.plan d.sectors command (sym c.in-None.ensures) in
    (c.chunks_of.ensures.some, omega (arith, c.chunks_of.ensures.chunks), can.inside, counted.1)

pub invariant_of-self-in-None-2 : goal.invariant_of-self-in-None-2
invariant_of-self-in-None-2 c =
    let d = c.self.inside in
    let command = c.in-Some.command in
    let next : picked d.plan.order d.queue.items ≡ Some command = ap (λ (x : DiskValue). picked x.plan.order x.now.queued) c.self.view_is ∙ sym c.in-Some.ensures in
    let counted : IsCounted command = picked_counted d.plan.order d.queue.items command c.self.invariant.counts next in
    let i = c.self.invariant in
    let can = can_be_done d.plan d.sectors command (sym c.in-None.ensures) in
    let among : c.chunks_of.result ≤ chunks d.plan command = omega (arith, c.chunks_of.ensures.chunks) in
    let transfer : IsTransfer d.plan d.sectors (Read c.moved_on.result) = rw c.moved_on.ensures (c.chunks_of.ensures.some, among, can.inside, counted.1) in
    record { medium = i.medium; low = i.low; high = i.high; counts = i.counts; staged = tt; transfer = transfer; answers = i.answers; queue = i.queue }

pub invariant_of-self-then-command : goal.invariant_of-self-then-command
invariant_of-self-then-command c =
    let d = c.self.inside in
    let command = c.in-Some.command in
    let next : picked d.plan.order d.queue.items ≡ Some command = ap (λ (x : DiskValue). picked x.plan.order x.now.queued) c.self.view_is ∙ sym c.in-Some.ensures in
    let counted : IsCounted command = picked_counted d.plan.order d.queue.items command c.self.invariant.counts next in
    let i = c.self.invariant in
    let can = can_be_done d.plan d.sectors command (sym c.in-None.ensures) in
    let among : c.chunks_of-left.result ≤ chunks d.plan command = omega (arith, c.chunks_of-left.ensures.chunks) in
    let zeros : length c.in_ok-staged-in-None.staged.items ≡ 512 * command.count = ap length c.in_ok-staged-in-None.ensures ∙ length-replicate (512 * command.count) 0 in
    let staged : IsStaged c.in_ok-staged-in-None.staged.items (Write c.asked-in-None.result) = rw c.asked-in-None.ensures zeros in
    let transfer : IsTransfer d.plan d.sectors (Write c.asked-in-None.result) = rw c.asked-in-None.ensures (c.chunks_of-left.ensures.some, among, can.inside, counted.1) in
    record { medium = i.medium; low = i.low; high = i.high; counts = i.counts; staged = staged; transfer = transfer; answers = i.answers; queue = i.queue }
