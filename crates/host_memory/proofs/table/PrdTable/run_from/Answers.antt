use Rattle.std.proofs.Common.{◌+◌, ◌-◌, ◌<◌, arith, refl, ◌∙◌}
use Rattle.host_memory.specs.{Place.total_of, Reading.prds_at}
use Rattle.host_memory.proofs.SpotLemmas.{length-ends, lies_at, in_entry, is_run, past_all}
use Rattle.host_memory.proofs.table.PrdTable.run_from.Goals as goal

pub overflow_mul-spot : goal.overflow_mul-spot
overflow_mul-spot c =
    let long = length-ends _ _ _ _ (c.as_slice.ensures.value ∙ c.self.invariant.sums) in
    record { fits = omega (arith, long, c.self.invariant.few, c.spot_of-spot.ensures.there) }

pub overflow_add-self-inside : goal.overflow_add-self-inside
overflow_add-self-inside c =
    let long = length-ends _ _ _ _ (c.as_slice.ensures.value ∙ c.self.invariant.sums) in
    record { fits = omega (arith, long, c.self.invariant.few, c.self.invariant.lies, c.spot_of-spot.ensures.there) }

pub returns-then-spot-self-clause-none : goal.returns-then-spot-self-clause-none
returns-then-spot-self-clause-none c =
    let lies = lies_at _ _ _ _ _ _ (c.as_slice.ensures.value ∙ c.self.invariant.sums) c.spot_of-spot.ensures in
    (λ _. rw (← c.self.view_is) (past_all _ _ _ _ _ _ lies c.if-spot-self.true), λ _. refl)

pub read_prd-prd-requires : goal.read_prd-prd-requires
read_prd-prd-requires c =
    let lies = lies_at _ _ _ _ _ _ (c.as_slice.ensures.value ∙ c.self.invariant.sums) c.spot_of-spot.ensures in
    omega (arith, lies.there, c.self.invariant.lies, c.if-spot-self.false)

pub overflow_sub-start : goal.overflow_sub-start
overflow_sub-start c =
    let lies = lies_at _ _ _ _ _ _ (c.as_slice.ensures.value ∙ c.self.invariant.sums) c.spot_of-spot.ensures in
    let is : c.spot_of-spot.result.entry < c.self.inside.count = omega (arith, lies.there, c.if-spot-self.false) in
    (in_entry _ _ _ _ _ _ _ _ c.self.invariant.inside is lies c.read_prd-prd.ensures).inside.0

pub overflow_sub-len : goal.overflow_sub-len
overflow_sub-len c =
    let lies = lies_at _ _ _ _ _ _ (c.as_slice.ensures.value ∙ c.self.invariant.sums) c.spot_of-spot.ensures in
    let is : c.spot_of-spot.result.entry < c.self.inside.count = omega (arith, lies.there, c.if-spot-self.false) in
    let within : c.spot_of-spot.result.byte < c.read_prd-prd.result.bytes = (in_entry _ _ _ _ _ _ _ _ c.self.invariant.inside is lies c.read_prd-prd.ensures).within in
    omega arith

pub returns-clause-none : goal.returns-clause-none
returns-clause-none c =
    let prd = c.read_prd-prd.result in
    let lies = lies_at _ _ _ _ _ _ (c.as_slice.ensures.value ∙ c.self.invariant.sums) c.spot_of-spot.ensures in
    let is : c.spot_of-spot.result.entry < c.self.inside.count = omega (arith, lies.there, c.if-spot-self.false) in
    let below : c.args.i < total_of (prds_at c.self.inside.structure.now c.self.inside.at c.self.inside.count) =
    (is_run _ _ _ _ _ _ c.spot_of-spot.result.byte prd (record { start = prd.address - 1048576 + c.spot_of-spot.result.byte; len = prd.bytes - c.spot_of-spot.result.byte })
    c.self.invariant.inside is lies c.read_prd-prd.ensures refl refl).below in
    rw (← c.self.view_is) (λ h. absurd (cc), λ h. absurd (omega (arith, below, h)))

pub returns-clause-some : goal.returns-clause-some
returns-clause-some c =
    let lies = lies_at _ _ _ _ _ _ (c.as_slice.ensures.value ∙ c.self.invariant.sums) c.spot_of-spot.ensures in
    let is : c.spot_of-spot.result.entry < c.self.inside.count = omega (arith, lies.there, c.if-spot-self.false) in
    rw (← c.self.view_is) (is_run _ _ _ _ _ _ _ _ _ c.self.invariant.inside is lies c.read_prd-prd.ensures refl refl)
