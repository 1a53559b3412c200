use Rattle.std.proofs.Common.{◌≡◌, ◌-◌, ◌*◌, drop}
use Rattle.std.specs.Prelude.{reverse}
use Rattle.saved_state.specs.Bytes.{AreWords, bytes_of}
use Rattle.saved_state.proofs.words.Words.from_bytes.Given as goal

abbrev pub invariant-loop-done : goal.invariant-loop-done
invariant-loop-done l = record {
  bytes : drop (8 * (l.count - l.done)) l.bytes ≡ bytes_of (reverse l.words.items);
  words : AreWords (reverse l.words.items);
}
