use Rattle.std.proofs.{Common.{◌∙◌, ap}, lemmas.Result.on_ok_weaker}
use Rattle.saved_state.specs.State.{put_number}
use Rattle.guest_fetch.specs.{Saved.table_words, SavedCommands.head_words}
use Rattle.guest_fetch.proofs.command.saved.CommandSaved.save.Goals as goal

pub returns-clause-words : goal.returns-clause-words
returns-clause-words c =
    let behind = c.in_ok-save-2.ensures.words ∙ ap (λ ws. table_words.put c.self.inside.table ws) c.in_ok-save.ensures.words in
    let rest = c.in_ok-save-3.ensures.words ∙ ap (λ ws. head_words.put c.self.inside.head ws) behind in
    rw (← c.self.view_is) (on_ok_weaker c.save-4.result (λ e. e ∙ ap (λ ws. put_number c.self.inside.at ws) rest) c.save-4.ensures.words)
