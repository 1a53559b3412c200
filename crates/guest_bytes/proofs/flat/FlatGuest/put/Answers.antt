use Rattle.std.proofs.Common.{◌≡◌, ◌-◌, ◌∙◌, List, ℕ, length, refl, sym, ap, arith}
use Rattle.guest_bytes.specs.{Flat.{Block, LiesIn, written_by, overwritten}, Guest.singles_from}
use Rattle.guest_bytes.proofs.FlatLemmas.{put_is}
use Rattle.guest_bytes.proofs.flat.FlatGuest.put.Goals as goal

pub returns-clause-ok : goal.returns-clause-ok
returns-clause-ok c =
    let start = c.in_ok-start.start in
    let old = c.self.inside.bytes.items in
    let bytes = c.args.bytes.now in
    let base : c.args.self.now.base ≡ c.self.inside.base = sym (ap (λ (b : Block). b.base) c.self.view_is) in
    let items : c.args.self.now.bytes ≡ old = sym (ap (λ (b : Block). b.bytes) c.self.view_is) in
    let lies : LiesIn c.args.self.now c.args.at (length bytes) = c.in_ok-start.ensures.inside.0 refl in
    let long = ap length items in
    let is : start ≡ c.args.at - c.args.self.now.base = c.in_ok-start.ensures.ok in
    let same : overwritten old start bytes ≡ written_by c.self.inside.base (singles_from c.args.at bytes) old =
    put_is c.self.inside.base c.args.at start bytes old (omega (arith, is, base)) (omega (arith, lies.0, base)) (omega (arith, is, lies.0, lies.1, long, base)) in
    let view : ◌≡◌ {A = Block} (record { base = c.self.inside.base; bytes = c.overwrite.new.bytes.items }) (record { base = c.self.inside.base; bytes = written_by c.self.inside.base (singles_from c.args.at bytes) old }) =
    ap (λ (xs : List ℕ). record { base = c.self.inside.base; bytes = xs }) (c.overwrite.ensures ∙ same) in
    rw (base, items) view
