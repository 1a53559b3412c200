-- A restored engine.
use Rattle.std.proofs.Common.{◌≡◌, ℕ, List, sym, subst}
use Rattle.block_engine.specs.{declared.request.Range.Range, Engine.EngineState, Numbers.AreNumbered, Saved.{KeepsEngine, KeepsParts, Parts}}
use Rattle.block_engine.specs.Saved.{parts_of, put_engine, put_parts}

abbrev pub engine_of : Parts → List Range → EngineState
engine_of parts ranges = record {
  schedule = parts.0;
  kind = parts.1.0;
  stage = parts.1.1;
  ranges = ranges;
  dropped = parts.2.1;
  failures = parts.2.2;
}

pub restored : (parts : Parts) (old new : List ℕ) (ranges : List Range) → ranges ≡ parts.2.0 → (old ≡ put_parts parts new) × KeepsParts parts
    → AreNumbered parts.0.line parts.1.1 parts.2.1 → (old ≡ put_engine (engine_of parts ranges) new) × KeepsEngine (engine_of parts ranges)
restored parts old new ranges is from are =
    let P : List Range → Type 0 = λ xs. (old ≡ put_engine (engine_of parts xs) new) × KeepsParts (parts_of (engine_of parts xs)) in
    let both = subst P (sym is) from in
    (both.0, (both.1, are))
