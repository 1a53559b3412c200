use Rattle.std.proofs.Common.{◌≡◌, ◌∙◌, List, ℕ, ◌<◌, [], Some, subst, ap, sym, refl, true, arith}
use Rattle.disk_model.specs.{declared.disk.{Reading.Reading, Transfer.TheVariants.Read}, Disks.{DiskValue, went}, Insides.{seen_as, sends_of}}
use Rattle.disk_model.specs.Insides.{sends_after, started_by, writing_by, IsTransfer, Leads}
use Rattle.disk_model.proofs.turns.TurnLemmas.{on_err_so, has_read, takes_read, went_on, went_last, same_moment}
use Rattle.disk_model.proofs.disk.Disk.give_transfer.Goals.{else-reading-via-then-reading+else-reading-eq1, else-reading-via-else-reading}
use Rattle.disk_model.proofs.disk.Disk.give_transfer.Goals as goal

pub returns-then-reading-eq1-clause-gives : goal.returns-then-reading-eq1-clause-gives
returns-then-reading-eq1-clause-gives c =
    let v = c.args.self.now in
    let d = c.self.inside in
    let is : seen_as d ≡ v = c.self.view_is in
    let was = sym is in
    let f = c.in_ok-frame in
    let r = c.in-Read.reading in
    let sends = sends_of d.plan d.medium.items r r.set_up in
    let later = sends_after d.plan d.medium.items r r.set_up in
    let here : Leads sends f.frame.bytes later = subst (λ (xs : List ℕ). Leads (sends_of d.plan xs r r.set_up) f.frame.bytes (sends_after d.plan xs r r.set_up)) c.as_slice.ensures.value f.ensures.leads in
    let runs : v.now.started ≡ Some (record { command = r.command; sends = sends }) = ap (λ (x : DiskValue). x.now.started) was ∙ ap (started_by d.plan d.medium.items) c.in-Read.is in
    let last = ap (λ (x : DiskValue). went x.now r.command later) was ∙ went_last d.plan (seen_as d).now r r.set_up c.if-reading.true c.if-reading-eq1.true in
    let queue = sym c.remove_tag.ensures.items in
    let before : d.answers.items ≡ [] = ap (λ (x : DiskValue). x.now.owed) is ∙ c.requires in
    let owed = sym (rw before at c.push_back_reserved.ensures.items) in
    let left = last ∙ same_moment _ _ refl queue refl refl owed refl refl in
    (takes_read v.plan v.sectors v.now _ r.command sends later f.frame.bytes c.requires runs here (sym left), ap (λ (x : DiskValue). x.plan) is, ap (λ (x : DiskValue). x.sectors) is)

pub returns-else-reading-clause-gives : goal.returns-else-reading-clause-gives
returns-else-reading-clause-gives c =
    let v = c.args.self.now in
    let d = c.self.inside in
    let is : seen_as d ≡ v = c.self.view_is in
    let was = sym is in
    let f = c.in_ok-frame in
    let r = c.in-Read.reading in
    let sends = sends_of d.plan d.medium.items r r.set_up in
    let later = sends_after d.plan d.medium.items r r.set_up in
    let here : Leads sends f.frame.bytes later = subst (λ (xs : List ℕ). Leads (sends_of d.plan xs r r.set_up) f.frame.bytes (sends_after d.plan xs r r.set_up)) c.as_slice.ensures.value f.ensures.leads in
    let runs : v.now.started ≡ Some (record { command = r.command; sends = sends }) = ap (λ (x : DiskValue). x.now.started) was ∙ ap (started_by d.plan d.medium.items) c.in-Read.is in
    let within : IsTransfer d.plan d.sectors (Read r) = rw c.in-Read.is at c.self.invariant.transfer in
    let some : 0 < r.left = within.0 in
    let more : r.set_up ≡ true → 1 < r.left = λ up. elim c.else-reading.branch [ else-reading-via-then-reading+else-reading-eq1 w ↦ omega (arith, some, w.if-reading-eq1.false) | else-reading-via-else-reading w ↦ cc (up, w.if-reading.false) ] in
    let next = ap (λ (x : DiskValue). went x.now r.command later) was ∙ went_on d.plan (seen_as d).now r r.set_up refl some more ∙ ap (λ (x : Reading). record (seen_as d).now { started = started_by d.plan d.medium.items (Read x) }) (sym c.moved_on.ensures) in
    let same = ap (writing_by d.plan d.staged.items) c.in-Read.is in
    let left = next ∙ same_moment _ _ refl refl refl refl refl refl same in
    (takes_read v.plan v.sectors v.now _ r.command sends later f.frame.bytes c.requires runs here (sym left), ap (λ (x : DiskValue). x.plan) is, ap (λ (x : DiskValue). x.sectors) is)

pub returns-in_err-frame-clause-no_memory : goal.returns-in_err-frame-clause-no_memory
returns-in_err-frame-clause-no_memory c =
    let v = c.args.self.now in
    let d = c.self.inside in
    let is : seen_as d ≡ v = c.self.view_is in
    let r = c.in-Read.reading in
    let within : IsTransfer d.plan d.sectors (Read r) = rw c.in-Read.is at c.self.invariant.transfer in
    let plan = ap (λ (x : DiskValue). x.plan) is in
    let runs : v.now.started ≡ Some (record { command = r.command; sends = sends_of v.plan d.medium.items r r.set_up }) = rw (← plan) (ap (λ (x : DiskValue). x.now.started) (sym is) ∙ ap (started_by d.plan d.medium.items) c.in-Read.is) in
    on_err_so c.from_residual.result (has_read v.plan v.sectors v.now d.medium.items r c.requires runs within.0)
