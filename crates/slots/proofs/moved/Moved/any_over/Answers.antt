use Rattle.std.proofs.Common.{◌+◌, ◌-◌, ◌*◌, ◌/◌, ◌≤◌, ℕ, List, Bool, length, arith, sym, ap, ◌∙◌}
use Rattle.std.specs.List.{list_any}
use Rattle.slots.specs.{Bytes.any_over, Stretches.meets}
use Rattle.slots.proofs.{ByteLemmas.any_of_none, FlagLemmas.{length-over}, ApartLemmas.any_meets}
use Rattle.slots.proofs.moved.Moved.any_over.Goals as goal

pub returns-then-count-eq0 : goal.returns-then-count-eq0
returns-then-count-eq0 c = sym (ap (λ (n : ℕ). any_over c.args.self.now c.args.offset n) c.if-count-eq0.true ∙ any_of_none c.args.self.now c.args.offset)

pub returns : goal.returns
returns c =
    let n = c.self.inside.dwords in
    let ss = c.self.inside.stretches.items in
    let o = c.args.offset in
    let count = c.args.count in
    let long = ap length (sym c.self.view_is) ∙ length-over n ss in
    let within : o + count ≤ 4 * n = omega (arith, c.requires) in
    c.have_between.ensures ∙ ap (list_any (meets (o / 4) ((o + count - 1) / 4 + 1))) c.as_slice.ensures.value ∙ any_meets n o count ss c.self.invariant.1 (omega arith) within
    ∙ ap (λ (l : List Bool). any_over l o count) c.self.view_is
