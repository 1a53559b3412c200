use Rattle.std.proofs.{Common.{◌≡◌, ℕ, ◌+◌, ◌*◌, ◌++◌, List, take, drop, length, replicate, ap, arith, ◌∙◌}, lemmas.List.take_at}
use Rattle.host_memory.specs.Memory.{Memory, overwritten}
use Rattle.hba_driver.proofs.effect.empty_row.Goals as goal

pub returns : goal.returns
returns c =
    let old : List ℕ = c.args.memory.now.structure in
    let new : List ℕ = c.put.new.structure in
    let long : length new ≡ length old = omega (arith, c.put.auto.structure, ap length c.structure_mut.ensures.structure) in
    let same : take (length old) (new ++ drop (length new) old) ≡ new = take_at new (drop (length new) old) (length old) long in
    let written : new ≡ overwritten old (4096 + 256 * c.args.dev) (replicate 256 0) = c.put.ensures ∙ ap (λ (s : List ℕ). overwritten s (4096 + 256 * c.args.dev) (replicate 256 0)) c.structure_mut.ensures.structure in
    ap (λ (s : List ℕ). let m : Memory = record { structure = s; client = c.args.memory.now.client } in m) (same ∙ written)
