use Rattle.std.proofs.Common.{arith, ◌≡◌, ◌+◌, ◌≤◌, length, ◌∙◌}
use Rattle.host_memory.specs.{Place.{AreInside, total_of}, Reading.prds_at}
use Rattle.host_memory.proofs.{PartsLemmas.parts_are, SpotLemmas.{length-ends, lies_at, hold_from, parts_lie}}
use Rattle.host_memory.proofs.table.PrdTable.parts.Goals as goal

pub overflow_mul-spot : goal.overflow_mul-spot
overflow_mul-spot c =
    let long = length-ends _ _ _ _ (c.as_slice.ensures.value ∙ c.self.invariant.sums) in
    record { fits = omega (arith, long, c.self.invariant.few, c.spot_of-spot.ensures.there) }

pub overflow_add-self-inside : goal.overflow_add-self-inside
overflow_add-self-inside c =
    let long = length-ends _ _ _ _ (c.as_slice.ensures.value ∙ c.self.invariant.sums) in
    record { fits = omega (arith, long, c.self.invariant.few, c.self.invariant.lies, c.spot_of-spot.ensures.there) }

pub overflow_sub-self-inside : goal.overflow_sub-self-inside
overflow_sub-self-inside c =
    let lies = lies_at _ _ _ _ _ _ (c.as_slice.ensures.value ∙ c.self.invariant.sums) c.spot_of-spot.ensures in
    lies.there

pub of-requires : goal.of-requires
of-requires c =
    let prds = prds_at c.self.inside.structure.now c.self.inside.at c.self.inside.count in
    let sized : c.self.inside.client_len ≡ length c.args.client.now = rw (← c.self.view_is) at c.requires.client in
    let fits : c.args.offset + c.args.len ≤ total_of prds = rw (← c.self.view_is) at c.requires.fits in
    let inside : AreInside (length c.args.client.now) prds = rw (← sized) c.self.invariant.inside in
    hold_from _ _ _ _ _ _ _ _ c.self.invariant.lies inside fits (lies_at _ _ _ _ _ _ (c.as_slice.ensures.value ∙ c.self.invariant.sums) c.spot_of-spot.ensures)

pub returns : goal.returns
returns c =
    let prds = prds_at c.self.inside.structure.now c.self.inside.at c.self.inside.count in
    let client = c.args.client.now in
    let sized : c.self.inside.client_len ≡ length client = rw (← c.self.view_is) at c.requires.client in
    let fits : c.args.offset + c.args.len ≤ total_of prds = rw (← c.self.view_is) at c.requires.fits in
    let inside : AreInside (length client) prds = rw (← sized) c.self.invariant.inside in
    let lies = lies_at _ _ _ _ _ _ (c.as_slice.ensures.value ∙ c.self.invariant.sums) c.spot_of-spot.ensures in
    let whole = c.of.ensures ∙ parts_lie client _ _ _ _ c.args.len _ _ lies in
    rw (← c.self.view_is) (rw whole (parts_are client prds c.args.offset c.args.len inside fits))
