use Rattle.std.proofs.{Common.{◌≤◌, length, arith, ap, ◌∙◌}, lemmas.Result.on_ok_weaker}
use Rattle.saved_state.specs.State.{put_list, put_number}
use Rattle.slots.specs.Saved.{put_stretch}
use Rattle.slots.proofs.SavedLemmas.{over_kept, over_words}
use Rattle.slots.proofs.moved.saved.MovedSaved.save.Goals as goal

pub returns-clause-words : goal.returns-clause-words
returns-clause-words c =
    let n = c.self.inside.dwords in
    let ss = c.self.inside.stretches.items in
    let words = over_words n ss c.args.self.now c.self.view_is c.self.invariant.1 c.args.words.now in
    on_ok_weaker c.save.result (λ is. is ∙ ap (put_number n) (c.in_ok-save_list.ensures.words ∙ ap (λ l. put_list put_stretch l c.args.words.now) c.as_slice.ensures.value) ∙ words) c.save.ensures.words

pub returns-clause-keeps : goal.returns-clause-keeps
returns-clause-keeps c =
    let n = c.self.inside.dwords in
    let ss = c.self.inside.stretches.items in
    let few : length ss ≤ 64 = omega (arith, c.as_slice.ensures.fits, ap length c.as_slice.ensures.value) in
    on_ok_weaker c.save.result (λ is. over_kept n ss c.args.self.now c.self.view_is (c.self.invariant.0, few, c.self.invariant.1)) c.save.ensures.keeps
