use Rattle.std.proofs.Common.{◌≡◌, ◌∷◌, length}
use Rattle.std.specs.List.{AllByRecursion}
use Rattle.saved_state.specs.State.{put_all}
use Rattle.saved_state.proofs.saved.restore_list.Given as goal

abbrev pub invariant-loop-at : goal.invariant-loop-at
invariant-loop-at g l = record {
  taken : l.fn.words ≡ l.count ∷ put_all g.T.Saved.put l.all.items l.words;
  kept : AllByRecursion g.T.Saved.keeps l.all.items;
  many : length l.all.items ≡ l.at;
}
