use Rattle.std.proofs.Common.{◌≡◌, ℕ, ◌+◌, ◌<◌, List, length, map, slice_index, slice_index_or, sym, ap, ◌∙◌, subst, arith, inl, inr}
use Rattle.std.proofs.lemmas.{Bool.cases_eq, Grind.same_number_lists, List.{get_or_read, get_or-set_other, get_or-set_same, length-map, length-set}}
use Rattle.std.specs.Prelude.{slice_set}
use Rattle.pm_ports.specs.Port.{PortState, empty_port}
use Rattle.multiplier.specs.State.{removals}
use Rattle.multiplier.proofs.Gone.{removal_at}
use Rattle.multiplier.proofs.multiplier.Multiplier.removals.Goals as goal

-- one more removal is read
module _ (ports : List PortState) (highest : List ℕ) (n v : ℕ) (p : PortState) (size : length highest ≡ 15) (room : length ports ≡ 15) (small : n < 15)
    (here : p ≡ slice_index_or ports n p) (is : v ≡ (slice_index_or ports n p).gone) where
  read : v ≡ (slice_index_or ports n empty_port).gone
  read = is ∙ ap (λ (q : PortState). q.gone) (sym here ∙ get_or_read ports n p (omega arith) here empty_port)

  more : ((k : ℕ) → k < n → slice_index highest k ≡ (slice_index_or ports k empty_port).gone)
      → (k : ℕ) → k < n + 1 → slice_index (slice_set highest n v) k ≡ (slice_index_or ports k empty_port).gone
  more below k less =
      elim (cases_eq k n) [
        | inl same ↦ subst (λ (j : ℕ). slice_index (slice_set highest n v) j ≡ (slice_index_or ports j empty_port).gone) (sym same) (get_or-set_same highest n v 0 (omega arith) ∙ read)
        | inr other ↦ get_or-set_other highest n k v 0 other ∙ below k (omega arith)
      ]

pub loop-n-preserved : goal.loop-n-preserved
loop-n-preserved c = (
  length-set c.loop-n.highest c.loop-n.n c.highest_gone.result ∙ c.loop-n.invariant.0,
  more c.self.inside.ports c.loop-n.highest c.loop-n.n c.highest_gone.result c.index-self-n.result c.loop-n.invariant.0 c.self.invariant.room c.loop-n-test.true c.index-self-n.is c.highest_gone.ensures c.loop-n.invariant.1,
)

pub returns : goal.returns
returns c =
    let ports = c.self.inside.ports in
    let gone = λ (p : PortState). p.gone in
    let room : length ports ≡ 15 = c.self.invariant.room in
    let size : length c.loop-n.highest ≡ 15 = c.loop-n.invariant.0 in
    let same : c.loop-n.highest ≡ map gone ports =
    same_number_lists c.loop-n.highest (map gone ports) (omega (arith, length-map ports gone)) (λ k below. c.loop-n.invariant.1 k (omega arith) ∙ sym (removal_at ports k)) in
    same ∙ ap removals c.self.view_is
