use Rattle.std.proofs.Common.{ℕ, List, ap, sym, ◌∙◌}
use Rattle.fis_view.specs.Seen.{seen}
use Rattle.hba_fbs.specs.Views.{view_of}
use Rattle.hba_driver.specs.Sights.{is_ata, last_d2h}
use Rattle.hba_driver.proofs.calls.SightLemmas.{flag_at}
use Rattle.hba_driver.proofs.sight.signed_in.Goals as goal

pub returns-in-Switching : goal.returns-in-Switching
returns-in-Switching c =
    rw c.in-Switching.is
    (c.is_ata_signature.ensures ∙ ap (λ (b : List ℕ). is_ata (seen b)) c.last_d2h.ensures
    ∙ ap (λ (s : List ℕ). is_ata (seen (last_d2h s c.args.dev))) c.structure.ensures.structure
    ∙ sym (flag_at (λ dev. is_ata (seen (last_d2h c.args.memory.now.structure dev))) c.args.dev c.requires))

pub returns-in-CommandBased : goal.returns-in-CommandBased
returns-in-CommandBased c =
    rw c.in-CommandBased.is
    (c.signed.ensures ∙ sym (flag_at (λ dev. (view_of dev c.args.port.now).state.signed) c.args.dev c.requires))
