use Rattle.std.proofs.Common.{◌≡◌, ◌∷◌, rules}
use Rattle.ahci_machine.proofs.SavedLemmas.{unit_refused}
use Rattle.ahci_machine.proofs.bay.saved.UnitSaved.restore.Goals as goal

pub returns-in-Err : goal.returns-in-Err
returns-in-Err c =
    let top : c.args.words.now ≡ 1 ∷ c.pop.new.self = search rules in
    unit_refused c.args.words.now c.pop.new.self c.restore.new.words c.in-Err.error top c.in-Err.ensures
