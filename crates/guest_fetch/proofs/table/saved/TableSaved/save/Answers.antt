use Rattle.std.proofs.{Common.{◌≡◌, ◌∙◌, ap, sym}, lemmas.Result.on_ok_weaker}
use Rattle.saved_state.specs.State.{put_list, put_number}
use Rattle.guest_fetch.specs.Saved.{span_words}
use Rattle.guest_fetch.proofs.SavedLemmas.{spans_again}
use Rattle.guest_fetch.proofs.table.saved.TableSaved.save.Goals as goal

pub returns-clause-words : goal.returns-clause-words
returns-clause-words c =
    let spans = c.deref.ensures.value ∙ sym (spans_again c.self.inside.spans.items c.self.inside.len c.self.invariant) in
    rw (← c.self.view_is) (on_ok_weaker c.save.result
    (λ e. e ∙ ap (put_number c.self.inside.len) (c.in_ok-save_list.ensures.words ∙ ap (λ ss. put_list span_words.put ss c.args.words.now) spans))
    c.save.ensures.words)
