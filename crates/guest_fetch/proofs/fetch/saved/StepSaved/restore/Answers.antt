use Rattle.std.proofs.Common.{◌≡◌, ◌∷◌, ◌∙◌, ap, rules}
use Rattle.guest_fetch.proofs.CommandLemmas.{entries_refused}
use Rattle.guest_fetch.proofs.fetch.saved.StepSaved.restore.Goals as goal

pub returns-in-Err : goal.returns-in-Err
returns-in-Err c =
    let is : c.args.words.now ≡ (2 ∷ c.pop.new.self) = search (rules, c.pop.ensures, c.ok_or.ensures.value, c.in_ok-ok_or.was, c.in_ok-ok_or.is, c.in-2.is) in
    entries_refused c.args.words.now c.pop.new.self c.restore-in-2.new.words c.in-Err.error is c.in-Err.ensures
