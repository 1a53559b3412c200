use Rattle.std.proofs.Common.{◌≡◌, take}
use Rattle.saved_state.specs.Bytes.{AreWords, bytes_of}
use Rattle.saved_state.proofs.words.Words.to_bytes.Given as goal

abbrev pub invariant-loop-done : goal.invariant-loop-done
invariant-loop-done l = record {
  bytes : l.bytes.items ≡ bytes_of (take l.done l.self);
  words : AreWords (take l.done l.self);
}
