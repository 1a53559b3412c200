use Rattle.std.proofs.Common.{rules, refl, sym, ap, ◌∙◌, append-nil, length}
use Rattle.disk_thread.proofs.{CountLemmas.{counted_none, past_none}, DeedLemmas.run_none, ToldLemmas.told_none}
use Rattle.disk_thread.proofs.station.Station.new.Goals as goal

pub invariant_of-result : goal.invariant_of-result
invariant_of-result g c = (counted_none _ (append-nil c.args.frames.sent ∙ c.requires.frames), past_none _ _ (search rules), told_none _ (append-nil c.args.presence.sent ∙ c.requires.presence), sym (ap length (append-nil c.args.frames.sent ∙ c.requires.frames)))

pub returns-clause-run : goal.returns-clause-run
returns-clause-run g c =
    let d = g.D.Device in
    run_none d.plan_of d.stands_for d.may_send _ refl c.requires.commands c.requires.frames refl c.requires.presence refl
