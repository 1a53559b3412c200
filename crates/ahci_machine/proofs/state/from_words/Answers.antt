use Rattle.std.proofs.Common.{◌≡◌, ◌∷◌, rules}
use Rattle.ahci_machine.proofs.SavedLemmas.{goes_on}
use Rattle.ahci_machine.proofs.state.from_words.Goals as goal

pub returns-in-Ok : goal.returns-in-Ok
returns-in-Ok c =
    let first : c.args.words ≡ 0x004b_4e55_5346_4547 ∷ c.pop.new.self = search rules in
    let second : c.pop.new.self ≡ 1 ∷ c.pop-2.new.self = search rules in
    goes_on c.args.words c.pop.new.self c.pop-2.new.self c.restore.new.words c.pop-in-Ok.new.self c.in-Some.field-0 c.in-Ok.machine first second
    c.in-Ok.ensures c.in-Some.ensures
