use Rattle.std.proofs.{Common.{◌∷◌, ◌∙◌, ap}, lemmas.Result.on_ok_weaker}
use Rattle.guest_fetch.specs.SavedCommands.{head_words}
use Rattle.guest_fetch.proofs.fetch.saved.StepSaved.save.Goals as goal

pub returns-in_ok-save-in-AtEntries-2-clause-words : goal.returns-in_ok-save-in-AtEntries-2-clause-words
returns-in_ok-save-in-AtEntries-2-clause-words c =
    let rest = c.in_ok-save-in-AtEntries-2.ensures.words
    ∙ ap (λ ws. head_words.put c.in-AtEntries.head ws) c.in_ok-save-in-AtEntries.ensures.words in
    rw c.in-AtEntries.is (on_ok_weaker c.push-in-AtEntries.result (λ e. e ∙ ap (λ ws. 2 ∷ ws) rest) c.push-in-AtEntries.ensures.ok)
