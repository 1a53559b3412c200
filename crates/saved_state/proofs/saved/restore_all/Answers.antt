use Rattle.std.proofs.{Common.{◌<◌, ◌∙◌, length, take, sym, ap, arith}, lemmas.List.{length-take}}
use Rattle.saved_state.specs.State.{put_all}
use Rattle.saved_state.proofs.All.{all_refused, put_all-set, each-set}
use Rattle.saved_state.proofs.saved.restore_all.Goals as goal

pub returns-in-Err : goal.returns-in-Err
returns-in-Err g c =
    let low : length (take c.loop-at.at c.loop-at.values) < length c.args.values.now =
    omega (arith, length-take c.loop-at.at c.loop-at.values, c.loop-at.auto.values, c.loop-at-test.true) in
    all_refused g.T.Saved.put g.T.Saved.keeps g.met.T.Saved.told_apart (take c.loop-at.at c.loop-at.values) c.loop-at.values c.args.words.now
    c.loop-at.words c.restore.new.words (length c.args.values.now) c.in-Err.error low c.loop-at.invariant.kept c.loop-at.invariant.taken c.in-Err.ensures

pub loop-at-preserved : goal.loop-at-preserved
loop-at-preserved g c =
    let low : c.loop-at.at < length c.loop-at.values = omega (arith, c.loop-at.auto.values, c.loop-at-test.true) in
    record {
      taken = c.loop-at.invariant.taken ∙ ap (put_all g.T.Saved.put (take c.loop-at.at c.loop-at.values)) c.in-Ok.ensures.0
          ∙ sym (put_all-set g.T.Saved.put c.loop-at.values c.loop-at.at c.in-Ok.value c.restore.new.words low);
      kept = each-set g.T.Saved.keeps c.loop-at.values c.loop-at.at c.in-Ok.value low c.loop-at.invariant.kept c.in-Ok.ensures.1;
    }
