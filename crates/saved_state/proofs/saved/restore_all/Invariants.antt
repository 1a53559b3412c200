use Rattle.std.proofs.Common.{◌≡◌, take}
use Rattle.std.specs.List.{AllByRecursion}
use Rattle.saved_state.specs.State.{put_all}
use Rattle.saved_state.proofs.saved.restore_all.Given as goal

abbrev pub invariant-loop-at : goal.invariant-loop-at
invariant-loop-at g l = record {
  taken : l.initial.words ≡ put_all g.T.Saved.put (take l.at l.values) l.words;
  kept : AllByRecursion g.T.Saved.keeps (take l.at l.values);
}
