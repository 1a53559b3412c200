use Rattle.std.proofs.{Common.{sym, arith}, lemmas.List.{length-take-le}}
use Rattle.disk_pages.proofs.bytes.close.Goals as goal

pub slice_bounds-checksum_of-end-2 : goal.slice_bounds-checksum_of-end-2
slice_bounds-checksum_of-end-2 c = sym (length-take-le 511 c.args.page.now (omega (arith, c.requires)))
