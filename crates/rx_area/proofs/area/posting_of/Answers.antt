use Rattle.std.proofs.Common.{◌+◌, ◌≤◌, ap, arith, length, ◌∙◌}
use Rattle.rx_area.specs.Area.{offset_of, posted_at, posted_bytes, size_of}
use Rattle.rx_area.proofs.AreaLemmas.{posted_others, posted_own}
use Rattle.rx_area.proofs.area.posting_of.Goals as goal

pub returns-clause-own : goal.returns-clause-own
returns-clause-own c = λ area long.
    let fits : offset_of (posted_at c.args.fis.now) + length (posted_bytes c.args.fis.now) ≤ 256 =
    omega (arith, c.start.ensures.inside, c.place_for-posted.ensures.fits, ap offset_of c.place_for-posted.ensures.place, ap length c.place_for-posted.ensures.bytes) in
    posted_own c.args.dev c.args.fis.now area c.requires long fits

pub returns-clause-others : goal.returns-clause-others
returns-clause-others c = λ area long.
    let fits : offset_of (posted_at c.args.fis.now) + length (posted_bytes c.args.fis.now) ≤ 256 =
    omega (arith, c.start.ensures.inside, c.place_for-posted.ensures.fits, ap offset_of c.place_for-posted.ensures.place, ap length c.place_for-posted.ensures.bytes) in
    posted_others c.args.dev c.args.fis.now area c.requires long fits
