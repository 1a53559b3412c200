use Rattle.std.proofs.Common.{◌≡◌, ◌<◌, ◌-◌, ◌^◌, ◌∙◌, ◌++◌, length, take, get_or, sym, ap, arith, rules}
use Rattle.std.specs.Prelude.{reverse}
use Rattle.std.proofs.lemmas.List.{get_or-reverse, length-reverse}
use Rattle.saved_state.specs.Bytes.{bytes_of}
use Rattle.saved_state.proofs.Bytes.{bytes_of-more, words-more}
use Rattle.saved_state.proofs.words.Words.to_bytes.Goals as goal

pub loop-done-preserved : goal.loop-done-preserved
loop-done-preserved c =
    let items = c.as_slice-words.result.now in
    let words = c.args.self.now in
    let done = c.loop-done.done in
    let w = get_or items (length items - 1 - done) 0 in
    let view : reverse items ≡ words = ap reverse c.as_slice-words.ensures.value ∙ c.self.view_is in
    let low : done < length items = c.loop-done-test.true in
    let long : length words ≡ length items = ap length (sym view) ∙ length-reverse items in
    let inside : done < length words = omega (arith, low, long) in
    let is : get_or words done 0 ≡ w = ap (λ ws. get_or ws done 0) (sym view) ∙ get_or-reverse items done 0 low in
    let fits = c.type_inv.words (length items - 1 - done) in
    let small : w < 2 ^ 64 = search rules in
    record {
      bytes = c.in_ok-extend_from_slice.ensures.items ∙ ap (λ bs. bs ++ c.to_le_bytes.result) c.loop-done.invariant.bytes
          ∙ ap (λ bs. bytes_of (take done words) ++ bs) c.to_le_bytes.ensures ∙ sym (bytes_of-more words done w inside is);
      words = words-more words done w inside is small c.loop-done.invariant.words;
    }
