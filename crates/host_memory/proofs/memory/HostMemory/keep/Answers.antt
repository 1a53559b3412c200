use Rattle.std.proofs.Common.{◌≡◌, ℕ, ◌≤◌, length, List, arith, sym, ap, ◌∙◌}
use Rattle.std.specs.Prelude.{None, Some}
use Rattle.host_memory.specs.{Ends.{ends_from, begin_in}, Reading.{prds_at, read_fault}, Memory.Memory}
use Rattle.host_memory.proofs.{KeptLemmas.{kept_wider, total_read}, SpotLemmas.{length-ends}}
use Rattle.host_memory.proofs.memory.HostMemory.keep.Goals as goal

pub begin_of-total-requires : goal.begin_of-total-requires
begin_of-total-requires c =
    let long = length-ends _ _ _ _ (c.as_slice.ensures.value ∙ c.ends_of-ends.ensures) in
    omega (arith, long)

pub invariant_of-self : goal.invariant_of-self
invariant_of-self c =
    let s = c.self.inside.structure.items in
    let len = length c.self.inside.client.items in
    let area : c.as_slice-structure.result.now ≡ s = c.as_slice-structure.ensures.value in
    let sound : read_fault s len c.args.at c.args.count ≡ None =
    ap (λ (xs : List ℕ). read_fault xs len c.args.at c.args.count) (sym area) ∙ ap (λ (n : ℕ). read_fault c.as_slice-structure.result.now n c.args.at c.args.count) (sym (c.client_len-client_len.ensures ∙ ap (λ (m : Memory). length m.client) (sym c.self.view_is))) ∙ sym c.refusal.ensures ∙ c.in_default.is in
    let sums : c.ends_of-ends.result.items ≡ ends_from 0 (prds_at s c.args.at c.args.count) = c.ends_of-ends.ensures ∙ ap (λ (xs : List ℕ). ends_from 0 (prds_at xs c.args.at c.args.count)) area in
    let new = c.keep.new.self in
    let low : new.low ≤ c.self.inside.tables.low = omega (arith, c.keep.ensures.low) in
    let high : c.self.inside.tables.high ≤ new.high = omega (arith, c.keep.ensures.high) in
    record {
      areas = c.self.invariant.areas;
      kept = c.keep.ensures.all s len new.low new.high (kept_wider s len _ _ new.low new.high c.self.inside.tables.kept.items low high c.self.invariant.kept)
          (record { sound = sound; sums = sums; low = omega (arith, c.keep.ensures.low); high = omega (arith, c.keep.ensures.high) });
    }

pub returns-clause-total : goal.returns-clause-total
returns-clause-total c =
    let s = c.self.inside.structure.items in
    let len = length c.self.inside.client.items in
    let area : c.as_slice-structure.result.now ≡ s = c.as_slice-structure.ensures.value in
    let sound : read_fault s len c.args.at c.args.count ≡ None =
    ap (λ (xs : List ℕ). read_fault xs len c.args.at c.args.count) (sym area) ∙ ap (λ (n : ℕ). read_fault c.as_slice-structure.result.now n c.args.at c.args.count) (sym (c.client_len-client_len.ensures ∙ ap (λ (m : Memory). length m.client) (sym c.self.view_is))) ∙ sym c.refusal.ensures ∙ c.in_default.is in
    let sums : c.ends_of-ends.result.items ≡ ends_from 0 (prds_at s c.args.at c.args.count) = c.ends_of-ends.ensures ∙ ap (λ (xs : List ℕ). ends_from 0 (prds_at xs c.args.at c.args.count)) area in
    rw (← c.self.view_is) (ap Some (c.begin_of-total.ensures ∙ ap (λ (xs : List ℕ). begin_in xs c.args.count) c.as_slice.ensures.value) ∙ total_read s len c.args.at c.args.count _ sound sums)
