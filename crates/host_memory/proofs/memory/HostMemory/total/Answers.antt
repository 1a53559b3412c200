use Rattle.std.proofs.Common.{◌≡◌, ℕ, List, arith, sym, ap, length, ◌∙◌}
use Rattle.std.specs.Prelude.{Some}
use Rattle.host_memory.specs.{Ends.begin_in, Kept.{IsKept, readable_total}}
use Rattle.host_memory.proofs.{KeptLemmas.total_read, SpotLemmas.{length-ends}}
use Rattle.host_memory.proofs.memory.HostMemory.total.Goals as goal

pub begin_of-requires : goal.begin_of-requires
begin_of-requires c =
    let kept = c.in-Some.kept.now in
    let is : IsKept c.self.inside.structure.items (length c.self.inside.client.items) c.self.inside.tables.low c.self.inside.tables.high kept = c.in-Some.ensures.all _ _ _ _ c.self.invariant.kept in
    let long = length-ends _ _ _ _ (c.as_slice.ensures.value ∙ is.sums) in
    omega (arith, long, c.in-Some.ensures.count)

pub returns-in-Some-clause-total : goal.returns-in-Some-clause-total
returns-in-Some-clause-total c =
    let s = c.self.inside.structure.items in
    let len = length c.self.inside.client.items in
    let kept = c.in-Some.kept.now in
    let is : IsKept s len c.self.inside.tables.low c.self.inside.tables.high kept = c.in-Some.ensures.all _ _ _ _ c.self.invariant.kept in
    let ends : c.begin_of.result ≡ begin_in kept.ends.items c.args.count = c.begin_of.ensures ∙ ap (λ (xs : List ℕ). begin_in xs c.args.count) c.as_slice.ensures.value in
    let counts : c.args.count ≡ kept.count = sym c.in-Some.ensures.count in
    rw (← c.self.view_is) (ap Some (ends ∙ ap (begin_in kept.ends.items) counts) ∙ total_read s len kept.at kept.count kept.ends.items is.sound is.sums
    ∙ ap (λ (a : ℕ). readable_total s len a kept.count) c.in-Some.ensures.at ∙ ap (readable_total s len c.args.at) c.in-Some.ensures.count)
