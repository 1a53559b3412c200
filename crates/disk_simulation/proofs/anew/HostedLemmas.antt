-- For `hosts_are_careful`. A host whose port refuses nothing of a disk since its plugging is careful, and joined with
-- the disk's ledger.
use Rattle.std.proofs.Common.{[], ◌∷◌, List, sym, subst}
use Rattle.disk_model.specs.{Anew.IsCarefulSince, Ends.{FitsAll, IsCareful}, Histories.{Happening, Plugged}, Ledger.ledger_after}
use Rattle.disk_simulation.specs.{Anew.IsKeptOn, Hosted.HostedIsKept}
use Rattle.disk_simulation.proofs.anew.AnewJoins.{hosted_on_is_kept, hosted_since_new}
pub use Rattle.disk_simulation.proofs.anew.AnewJoins.{no_context}

careful_new : (given : List Happening) → IsCarefulSince (Plugged ∷ []) given → IsCareful given
unfolding FitsAll ledger_after
careful_new given careful = subst IsCareful (sym careful.is) careful.fits

-- it began with that plugging
pub hosted_is_kept : HostedIsKept
hosted_is_kept n host given commands past below hosted =
    let kept : IsKeptOn n (Plugged ∷ []) host given commands past =
    hosted_on_is_kept n (Plugged ∷ []) host given commands past below (hosted_since_new n host given commands past hosted) in
    record { careful = careful_new given kept.careful; joined = kept.joined }
