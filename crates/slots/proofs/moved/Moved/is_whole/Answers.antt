use Rattle.std.proofs.Common.{◌*◌, ℕ, length, nat_eq, sym, ap, ◌∙◌}
use Rattle.slots.specs.Bytes.{came_of}
use Rattle.slots.proofs.ApartLemmas.{whole_count}
use Rattle.slots.proofs.moved.Moved.is_whole.Goals as goal

pub returns : goal.returns
returns c =
    let over = c.args.self.now in
    ap (λ (x : ℕ). nat_eq x (4 * c.dwords.result)) c.came.ensures ∙ ap (λ (x : ℕ). nat_eq (came_of over (4 * length over)) (4 * x)) c.dwords.ensures.value
    ∙ sym (whole_count over (4 * length over))
