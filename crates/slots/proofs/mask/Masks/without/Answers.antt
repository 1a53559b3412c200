use Rattle.slots.proofs.ListLemmas.{bits_without}
use Rattle.slots.proofs.mask.Masks.without.Goals as goal

pub returns : goal.returns
returns c =
    let m = c.args.self in
    let fits = c.ranges.mask.fits in
    record {
      issued = bits_without m.issued c.args.mask fits;
      unanswered = bits_without m.unanswered c.args.mask fits;
      queued = bits_without m.queued c.args.mask fits;
      unsent = bits_without m.unsent c.args.mask fits;
    }
