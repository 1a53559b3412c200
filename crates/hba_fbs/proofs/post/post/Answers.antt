use Rattle.std.proofs.Common.{◌+◌, ℕ, List, arith, ap, ◌∙◌}
use Rattle.host_memory.specs.Memory.{overwritten}
use Rattle.rx_area.specs.Area.{posted_at, start_of}
use Rattle.hba_fbs.proofs.PostLemmas.{posts_in}
use Rattle.hba_fbs.proofs.post.post.Goals as goal

pub returns-clause-posts : goal.returns-clause-posts
returns-clause-posts c =
    let old = c.args.memory.now.structure in
    let fb = c.args.fb in
    let posting = c.posting_of-posting.ensures in
    posts_in fb c.args.dev c.args.fis.now old c.put_structure.new.self.structure (omega (arith, c.requires.area, c.keeps_rules.ensures.structure_len)) posting.fits
    (c.put_structure.ensures.structure ∙ ap (λ (n : ℕ). overwritten old (fb + n) c.posting_of-posting.result.bytes.now) posting.at ∙ ap (λ (xs : List ℕ). overwritten old (fb + start_of c.args.dev (posted_at c.args.fis.now)) xs) posting.bytes)
    posting.own posting.others
