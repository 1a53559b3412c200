use Rattle.std.proofs.{Common.{◌≡◌, ◌∷◌, rules, arith}, lemmas.Grind.common_steps}
use Rattle.multiplier.proofs.SavedLemmas.{down_refused, up_refused}
use Rattle.multiplier.proofs.given.saved.GivenSaved.restore.Goals as goal

pub returns-in-Err : goal.returns-in-Err
returns-in-Err c =
    let is : c.args.words.now ≡ 1 ∷ c.pop.new.self = search rules in
    up_refused c.args.words.now c.pop.new.self c.restore.new.words c.in-Err.error is c.in-Err.ensures

pub returns-in-Err-restore : goal.returns-in-Err-restore
returns-in-Err-restore c =
    let is : c.args.words.now ≡ 2 ∷ c.pop.new.self = grind (arith, common_steps) in
    down_refused c.args.words.now c.pop.new.self c.restore-in-2.new.words c.in-Err-restore.error is c.in-Err-restore.ensures
