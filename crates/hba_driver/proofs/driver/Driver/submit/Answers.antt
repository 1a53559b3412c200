use Rattle.std.proofs.Common.{◌≡◌, ◌≢◌, ◌≤◌, ◌<◌, ◌*◌, ◌+◌, List, length, All, ap, sym, ◌∙◌, arith, inr, refl, subst, Option, None}
use Rattle.std.specs.Prelude.{is_none}
use Rattle.std.proofs.lemmas.Bool.{true≢false}
use Rattle.host_memory.specs.{Writing.CanBeWritten, declared.table.Prd.Prd, Reading.share_with}
use Rattle.hba_driver.specs.{Drivers.{AreRequests, Driver, Entry, entry_at}, Requests.lowest_free}
use Rattle.hba_driver.proofs.calls.{SubmitLemmas.{can_be_written, is_taken, no_conflict}, RequestLemmas.requests_taken}
use Rattle.hba_driver.proofs.driver.Driver.submit.Goals as goal

pub unreachable-requires : goal.unreachable-requires
unreachable-requires c =
    let taken = is_taken c.args.self.now c.args.memory.now c.args.dev c.args.request.now (sym c.refusal.ensures ∙ c.in_default.is) in
    let none : lowest_free c.args.self.now.entries ≡ None = ap (λ (d : Driver). lowest_free d.entries) (sym c.self.view_is) ∙ sym c.lowest_free.ensures.value ∙ c.in_default-lowest_free.is in
    absurd (true≢false (sym (ap is_none none) ∙ taken.room))

pub overflow_add-ticket : goal.overflow_add-ticket
overflow_add-ticket c =
    let taken = is_taken c.args.self.now c.args.memory.now c.args.dev c.args.request.now (sym c.refusal.ensures ∙ c.in_default.is) in
    let given : c.self.inside.given ≡ c.args.self.now.given = ap (λ (d : Driver). d.given) c.self.view_is in
    let below : c.args.self.now.given ≢ 4294967295 = taken.below in
    omega (arith, c.self.ranges)

pub write_command-requires-clause-few : goal.write_command-requires-clause-few
write_command-requires-clause-few c =
    let taken = is_taken c.args.self.now c.args.memory.now c.args.dev c.args.request.now (sym c.refusal.ensures ∙ c.in_default.is) in
    rw c.deref.ensures.value taken.few

pub write_command-requires-clause-room : goal.write_command-requires-clause-room
write_command-requires-clause-room c =
    let taken = is_taken c.args.self.now c.args.memory.now c.args.dev c.args.request.now (sym c.refusal.ensures ∙ c.in_default.is) in
    let few : length c.deref.result.now ≤ 248 = rw c.deref.ensures.value taken.few in
    let slot : c.in-Some-lowest_free.slot < 30 = c.in-Some-lowest_free.ensures.below in
    let table : c.table_of.result ≡ 8192 + 4096 * c.in-Some-lowest_free.slot = c.table_of.ensures in
    record { inside = omega (arith, few, slot, table); list_inside = omega arith; apart = inr (omega (arith, table)) }

pub write_command-requires-clause-counts : goal.write_command-requires-clause-counts
write_command-requires-clause-counts c =
    let taken = is_taken c.args.self.now c.args.memory.now c.args.dev c.args.request.now (sym c.refusal.ensures ∙ c.in_default.is) in
    subst (λ (prds : List Prd). All CanBeWritten prds) (sym c.deref.ensures.value) (can_be_written c.args.self.now c.args.memory.now c.args.request.now taken)

pub fill-requires-clause-few : goal.fill-requires-clause-few
fill-requires-clause-few c =
    let taken = is_taken c.args.self.now c.args.memory.now c.args.dev c.args.request.now (sym c.refusal.ensures ∙ c.in_default.is) in
    rw c.deref-2.ensures.value taken.few

pub invariant_of-self : goal.invariant_of-self
invariant_of-self c =
    let taken = is_taken c.args.self.now c.args.memory.now c.args.dev c.args.request.now (sym c.refusal.ensures ∙ c.in_default.is) in
    record {
      plan = c.self.invariant.plan;
      requests = subst (λ (x : List (Option Entry)). AreRequests (c.self.inside.given + 1) x) (sym c.fill.ensures)
          (requests_taken c.self.inside.given c.self.inside.slots c.in-Some-lowest_free.slot _ _ c.self.invariant.requests refl refl
          (λ s e here reads.
          ap (λ (p : List Prd). share_with p e.prds) c.deref-2.ensures.value
          ∙ no_conflict c.args.self.now c.args.memory.now c.args.request.now taken s e (ap (λ (d : Driver). entry_at d.entries s) (sym c.self.view_is) ∙ here) reads));
    }
