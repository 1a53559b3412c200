use Rattle.std.proofs.Common.{◌≡◌, take}
use Rattle.disk_pages.specs.{Bytes.bytes_of, Identity.identity_word}
use Rattle.disk_pages.proofs.identity.identify.Given as goal

abbrev pub invariant-loop-k : goal.invariant-loop-k
invariant-loop-k l = take l.k l.page ≡ bytes_of (identity_word l.profile l.settings) l.k
