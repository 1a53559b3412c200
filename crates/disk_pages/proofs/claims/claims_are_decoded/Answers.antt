use Rattle.disk_pages.proofs.DecodedLemmas.{decoded}
use Rattle.disk_pages.proofs.claims.claims_are_decoded.Goals as goal

pub returns : goal.returns
returns c = decoded _ _ c.sectors.ensures.some c.commands.ensures.some
