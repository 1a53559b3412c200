use Rattle.std.proofs.Common.{◌≡◌, true, sym, ◌∙◌, rules, ap}
use Rattle.disk_pages.specs.Texts.{is_text}
use Rattle.disk_pages.proofs.TextLemmas.{padded_is_text}
use Rattle.disk_pages.proofs.text.IdentityText.new.Goals as goal

pub invariant_of-result : goal.invariant_of-result
invariant_of-result g c =
    let fits = padded_is_text g.row.N c.as_bytes-bytes.result.now (sym c.fault.ensures ∙ c.in_default.is) in
    let e : is_text c.pad-chars.result ≡ true = ap is_text c.pad-chars.ensures ∙ fits in
    search (rules, e)
