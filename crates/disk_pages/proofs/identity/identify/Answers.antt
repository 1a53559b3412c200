use Rattle.std.proofs.Common.{arith}
use Rattle.disk_pages.proofs.ByteLemmas.{next_byte, no_bytes, whole_page}
use Rattle.disk_pages.specs.Identity.{identity, identity_word}
use Rattle.disk_pages.proofs.identity.identify.Goals as goal

pub loop-k-init : goal.loop-k-init
loop-k-init c = no_bytes _

pub loop-k-preserved : goal.loop-k-preserved
loop-k-preserved c =
    next_byte _ _ _ _ (omega arith) c.loop-k.invariant c.identity_byte.ensures

pub returns : goal.returns
unfolding identity
returns c =
    whole_page (identity_word c.args.profile.now c.args.settings.now) c.loop-k.page c.close.new.page c.loop-k.k
    (omega arith) (omega arith) (omega arith) c.loop-k.invariant c.close.ensures
