use Rattle.std.proofs.{Common.{refl, sym, ◌∙◌, subst}, lemmas.Bool.{false≢true}}
use Rattle.saved_state.specs.State.{put_number}
use Rattle.slots.specs.Saved.{AreRuns, IsDword, KeepsOver, KeepsStretch, put_over, put_stretch}
use Rattle.slots.proofs.SavedLemmas.{dwords_gone, list_refused, over_gone, over_is, refused, runs_gone}
use Rattle.slots.proofs.moved.saved.MovedSaved.restore.Goals as goal

pub returns-in-Err : goal.returns-in-Err
returns-in-Err c = refused put_number IsDword put_over KeepsOver c.args.words.now c.args.words.now c.restore.new.words c.in-Err.error (dwords_gone c.args.words.now) c.in-Err.ensures

pub returns-in-Err-restore_list : goal.returns-in-Err-restore_list
returns-in-Err-restore_list c = list_refused put_stretch KeepsStretch put_over KeepsOver c.args.words.now c.restore.new.words c.restore_list.new.words c.in-Err-restore_list.error
    (runs_gone c.args.words.now c.restore.new.words c.in-Ok.dwords c.in-Ok.ensures.0) c.in-Err-restore_list.ensures

pub returns-then-not-are_runs : goal.returns-then-not-are_runs
returns-then-not-are_runs c =
    over_gone c.args.words.now c.restore.new.words c.restore_list.new.words c.in-Ok.dwords c.in-Ok-restore_list.runs.items c.in-Ok.ensures c.in-Ok-restore_list.ensures
    (λ are. false≢true (c.if-not-are_runs.ensures.1 (subst (AreRuns c.in-Ok.dwords) (sym c.deref.ensures.value) are)))

pub returns : goal.returns
returns c =
    over_is c.args.words.now c.restore.new.words c.restore_list.new.words c.in-Ok.dwords c.in-Ok-restore_list.runs.items _ c.in-Ok.ensures c.in-Ok-restore_list.ensures
    (c.array_of.ensures ∙ c.deref-2.ensures.value) (subst (AreRuns c.in-Ok.dwords) c.deref.ensures.value (c.if-not-are_runs.ensures.0 refl))
