use Rattle.machine_laws.proofs.{Due.opens_due, HeardSent.heard_were_sent, Lives.have_lived, RisRun.{goes, opens}}
use Rattle.machine_laws.proofs.heard.disks_hear_what_was_sent.Goals as goal

pub returns-clause-lives : goal.returns-clause-lives
returns-clause-lives c = have_lived

pub returns-clause-heard : goal.returns-clause-heard
returns-clause-heard c =
    heard_were_sent opens_due (opens c.a_renewed_fan_is_empty.ensures) (goes (c.fans_pass_in_order.ensures, c.a_renewed_fan_is_empty.ensures))
