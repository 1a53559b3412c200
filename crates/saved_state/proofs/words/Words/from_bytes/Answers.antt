use Rattle.std.proofs.{Common.{◌≡◌, ◌∙◌, ◌-◌, ◌+◌, ◌*◌, ◌/◌, ◌%◌, ◌∷◌, [], length, take, drop, ap, arith}, lemmas.List.{reverse-append}}
use Rattle.std.specs.Prelude.{reverse}
use Rattle.saved_state.specs.Bytes.{bytes_of}
use Rattle.saved_state.proofs.Bytes.{long, one_before}
use Rattle.saved_state.proofs.words.Words.from_bytes.Goals as goal

pub returns-then-bytes-ne0 : goal.returns-then-bytes-ne0
returns-then-bytes-ne0 c = λ words e. absurd (c.if-bytes-ne0.true (ap (λ bs. length bs % 8) e ∙ long words))

pub loop-done-preserved : goal.loop-done-preserved
loop-done-preserved c =
    let bytes = c.args.bytes.now in
    let count = length bytes / 8 in
    let left = count - (c.loop-done.done + 1) in
    let w = c.word_at-word.result in
    let more : left + 1 ≡ count - c.loop-done.done = omega (arith, c.loop-done-test.true) in
    let at : 8 * (count - 1 - c.loop-done.done) ≡ 8 * left = omega arith in
    let items : reverse c.push.new.self.items ≡ w ∷ reverse c.loop-done.words.items =
    ap reverse c.in-Ok.ensures.items ∙ reverse-append c.loop-done.words.items (w ∷ []) in
    let behind : drop (8 * (left + 1)) bytes ≡ bytes_of (reverse c.loop-done.words.items) = ap (λ n. drop (8 * n) bytes) more ∙ c.loop-done.invariant.bytes in
    record {
      bytes = rw items (one_before bytes (reverse c.loop-done.words.items) left w behind
          (c.word_at-word.ensures.bytes ∙ ap (λ n. take 8 (drop n bytes)) at));
      words = rw items (c.word_at-word.type_inv, c.loop-done.invariant.words);
    }
