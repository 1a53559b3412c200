use Rattle.std.proofs.Common.{◌<◌, length, arith, sym, ap, ◌∙◌, false, get_or}
use Rattle.slots.specs.Stretches.{in_one}
use Rattle.slots.proofs.FlagLemmas.{length-over, get-over}
use Rattle.slots.proofs.moved.Moved.get.Goals as goal

pub returns : goal.returns
returns c =
    let n = c.self.inside.dwords in
    let ss = c.self.inside.stretches.items in
    let long = ap length (sym c.self.view_is) ∙ length-over n ss in
    let below : c.args.k < n = omega (arith, c.requires) in
    c.has_dword.ensures ∙ ap (λ l. in_one l c.args.k) c.as_slice.ensures.value ∙ sym (ap (λ l. get_or l c.args.k false) (sym c.self.view_is) ∙ get-over n ss c.args.k false below)
