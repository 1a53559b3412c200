use Rattle.std.proofs.Common.{◌<◌, ◌≡◌, ◌∙◌, ◌∷◌, ◌++◌, [], length, sym, ap, arith, length-append}
use Rattle.saved_state.specs.State.{put_all}
use Rattle.saved_state.proofs.All.{each-append, list_refused, put_all-append}
use Rattle.saved_state.proofs.saved.restore_list.Goals as goal

pub returns-in-Err : goal.returns-in-Err
returns-in-Err g c =
    let low : length c.loop-at.all.items < c.in_ok-count.count = omega (arith, c.loop-at.invariant.many, c.loop-at-test.true) in
    list_refused g.T.Saved.put g.T.Saved.keeps g.met.T.Saved.told_apart c.loop-at.all.items c.args.words.now c.loop-at.words
    c.restore.new.words c.in_ok-count.count c.in-Err.error low c.loop-at.invariant.kept c.loop-at.invariant.taken c.in-Err.ensures

pub loop-at-preserved : goal.loop-at-preserved
loop-at-preserved g c =
    let now : c.push.new.self.items ≡ c.loop-at.all.items ++ (c.in-Ok.value ∷ []) = c.in-Ok-push.ensures.items in
    let read = c.in-Ok.ensures in
    record {
      taken = c.loop-at.invariant.taken ∙ ap (λ ws. c.in_ok-count.count ∷ put_all g.T.Saved.put c.loop-at.all.items ws) read.0
          ∙ ap (λ ws. c.in_ok-count.count ∷ ws) (sym (put_all-append g.T.Saved.put c.loop-at.all.items c.in-Ok.value c.restore.new.words))
          ∙ ap (λ xs. c.in_ok-count.count ∷ put_all g.T.Saved.put xs c.restore.new.words) (sym now);
      kept = rw now (each-append g.T.Saved.keeps c.loop-at.all.items c.in-Ok.value c.loop-at.invariant.kept read.1);
      many = rw now (omega (arith, length-append c.loop-at.all.items (c.in-Ok.value ∷ []), c.loop-at.invariant.many));
    }
