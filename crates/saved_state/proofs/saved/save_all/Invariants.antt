use Rattle.std.proofs.Common.{◌≡◌, ◌-◌, length, drop}
use Rattle.std.specs.List.{AllByRecursion}
use Rattle.saved_state.specs.State.{put_all}
use Rattle.saved_state.proofs.saved.save_all.Given as goal

abbrev pub invariant-loop-done : goal.invariant-loop-done
invariant-loop-done g l = record {
  saved : l.words ≡ put_all g.T.Saved.put (drop (length l.values - l.done) l.values) l.initial.words;
  kept : AllByRecursion g.T.Saved.keeps (drop (length l.values - l.done) l.values);
}
