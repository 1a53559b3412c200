use Rattle.std.proofs.Common.{◌≡◌, ◌∙◌, sym, ap}
use Rattle.std.specs.Prelude.{Some}
use Rattle.host_memory.specs.declared.table.PrdError.TheVariants.{Overlap}
use Rattle.host_memory.proofs.SoundLemmas.{sound_table, overlap_told}
use Rattle.host_memory.proofs.table.PrdTable.read.Goals as goal

pub returns-in-Some-clause-overlap : goal.returns-in-Some-clause-overlap
returns-in-Some-clause-overlap c = λ is. let same : c.in-Some.fault ≡ Overlap = cc in
    overlap_told _ _ _ _ (sym c.refusal.ensures ∙ c.in-Some.is ∙ ap Some same)

pub invariant_of-result : goal.invariant_of-result
invariant_of-result c = sound_table _ _ _ _ _ (sym c.refusal.ensures ∙ c.in_default.is) c.ends_of.ensures

pub returns-clause-inside : goal.returns-clause-inside
returns-clause-inside c = (sound_table _ _ _ _ _ (sym c.refusal.ensures ∙ c.in_default.is) c.ends_of.ensures).inside

pub returns-clause-apart : goal.returns-clause-apart
returns-clause-apart c = (sound_table _ _ _ _ _ (sym c.refusal.ensures ∙ c.in_default.is) c.ends_of.ensures).apart
