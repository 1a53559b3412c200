use Rattle.disk_pages.proofs.ClaimLemmas.{whole}
use Rattle.disk_pages.proofs.claims.claims_are_whole.Goals as goal

pub returns : goal.returns
returns c = λ p s. whole p s
