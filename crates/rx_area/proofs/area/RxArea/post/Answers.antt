use Rattle.std.proofs.Common.{◌+◌, ◌≤◌, ap, arith, length, ◌∙◌}
use Rattle.rx_area.specs.Area.{offset_of, posted_at, posted_bytes, start_of}
use Rattle.rx_area.proofs.AreaLemmas.{row_then, rows_stay}
use Rattle.rx_area.proofs.area.RxArea.post.Goals as goal

pub returns-clause-others : goal.returns-clause-others
returns-clause-others c =
    let long = ap length c.copy_from_slice.ensures.after in
    let begin = c.start-start.ensures.start in
    let inside = c.start-start.ensures.inside in
    let fits = c.place_for-posted.ensures.fits in
    let sized = c.args.self.now.sized in
    rows_stay c.args.dev c.start-start.result _ c.args.self.now.bytes.now c.copy_from_slice.new.self (omega (arith, begin)) (omega (arith, begin, inside, fits)) (omega (arith, begin, inside, sized, c.requires)) (omega (arith, long))

pub returns-clause-own : goal.returns-clause-own
returns-clause-own c =
    let dev = c.args.dev in
    let fis = c.args.fis.now in
    let start = c.start-start.result in
    let posted = c.place_for-posted.ensures.place in
    let bytes = c.place_for-posted.ensures.bytes in
    let inside = c.start-start.ensures.inside in
    let fits = c.place_for-posted.ensures.fits in
    let sized = c.args.self.now.sized in
    let begin = c.start-start.ensures.start in
    let at = ap (start_of dev) posted in
    let last : offset_of (posted_at fis) + length (posted_bytes fis) ≤ 256 = omega (arith, inside, fits, ap offset_of posted, ap length bytes) in
    row_then dev start _ (offset_of (posted_at fis)) c.args.self.now.bytes.now c.copy_from_slice.new.self (posted_bytes fis) (begin ∙ at) (omega (arith, ap length bytes)) (c.copy_from_slice.ensures.after ∙ bytes) last (omega (arith, begin, inside, sized, c.requires))
