use Rattle.std.proofs.Common.{◌≡◌, ◌≤◌, ◌<◌, ◌+◌, ◌*◌, ◌/◌, ℕ, List, Bool, length, arith, sym, ap, ◌∙◌, subst, refl}
use Rattle.slots.specs.{declared.moved.Stretch.Stretch, Bytes.with_bytes, Stretches.{AreApart, merged_with, over_of}}
use Rattle.slots.proofs.{FlagLemmas.{length-over}, StretchLemmas.with_none, MergeLemmas.{merged_apart, merged_over, merged_seen}}
use Rattle.slots.proofs.moved.Moved.add.Goals as goal

pub returns-then-count-eq0 : goal.returns-then-count-eq0
returns-then-count-eq0 c =
    let over = c.args.self.now in
    let o = c.args.offset in
    sym (ap (λ (k : ℕ). with_bytes over o k) c.if-count-eq0.true ∙ with_none over o c.requires.offset)

pub merge-self-inside-requires : goal.merge-self-inside-requires
merge-self-inside-requires c =
    let o = c.args.offset in
    let k = c.args.count in
    let ss = c.self.inside.stretches.items in
    let g : Stretch = record { start = o / 4; end = o / 4 + k / 4 } in
    let seen = merged_seen c.self.inside.dwords o k g ss c.args.self.now c.self.view_is c.self.invariant.1 c.requires.offset c.requires.count c.requires.within refl refl (omega arith) in
    let few : length (merged_with g ss) ≤ 64 = omega (arith, c.requires.few) in
    subst (λ (l : List Stretch). length (merged_with g l) ≤ 64) (sym c.as_slice.ensures.value) few

pub invariant_of-self : goal.invariant_of-self
invariant_of-self c =
    let o = c.args.offset in
    let k = c.args.count in
    let n = c.self.inside.dwords in
    let ss = c.self.inside.stretches.items in
    let g : Stretch = record { start = o / 4; end = o / 4 + k / 4 } in
    let long : length c.args.self.now ≡ n = ap length (sym c.self.view_is) ∙ length-over n ss in
    let within : o + k ≤ 4 * n = omega (arith, c.requires.within) in
    let e = c.merge-self-inside.ensures ∙ ap (merged_with g) c.as_slice.ensures.value in
    let some : g.start < g.end = omega (arith, c.requires.count) in
    let inside : g.end ≤ n = omega (arith, c.requires.count, c.requires.offset) in
    (c.self.invariant.0, subst (AreApart 0 n) (sym e) (merged_apart 0 n g ss c.self.invariant.1 (omega arith) some inside))

pub returns : goal.returns
returns c =
    let o = c.args.offset in
    let k = c.args.count in
    let n = c.self.inside.dwords in
    let ss = c.self.inside.stretches.items in
    let g : Stretch = record { start = o / 4; end = o / 4 + k / 4 } in
    let long : length c.args.self.now ≡ n = ap length (sym c.self.view_is) ∙ length-over n ss in
    let within : o + k ≤ 4 * n = omega (arith, c.requires.within) in
    let e = c.merge-self-inside.ensures ∙ ap (merged_with g) c.as_slice.ensures.value in
    ap (over_of n) e ∙ merged_over n o k g ss c.requires.offset c.requires.count within refl refl ∙ ap (λ (l : List Bool). with_bytes l o k) c.self.view_is
