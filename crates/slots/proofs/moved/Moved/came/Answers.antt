use Rattle.std.proofs.Common.{◌*◌, ℕ, sym, ap, ◌∙◌, subst}
use Rattle.slots.specs.Stretches.{AreApart, dwords_of}
use Rattle.slots.proofs.ApartLemmas.{total_seen, wider}
use Rattle.slots.proofs.moved.Moved.came.Goals as goal

pub count_dwords-requires : goal.count_dwords-requires
count_dwords-requires c =
    subst (AreApart 0 8388608) (sym c.as_slice.ensures.value) (wider 0 c.self.inside.dwords 8388608 c.self.inside.stretches.items c.self.invariant.1 c.self.invariant.0)

pub returns : goal.returns
returns c =
    ap (λ (x : ℕ). 4 * x) (c.count_dwords.ensures.value ∙ ap dwords_of c.as_slice.ensures.value)
    ∙ total_seen c.self.inside.dwords c.self.inside.stretches.items c.args.self.now c.self.view_is c.self.invariant.1
