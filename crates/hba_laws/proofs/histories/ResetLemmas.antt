-- For `delivers` and `core_delivers`. No device of a port that opens, or that was reset, has a command.
use Rattle.std.proofs.Common.{◌≡◌, ℕ, [], ◌∷◌, get_or, length, map, replicate, refl, sym, ap, ◌∙◌, inl, inr, Option, Some, None, arith}
use Rattle.std.proofs.lemmas.{Bool.cases_lt, List.{get_or-map, get_or-replicate, get_or_past, length-map, length-replicate}}
use Rattle.std.specs.Option.{option_map}
use Rattle.slots.specs.{Slots.{Issue, owned_by}, declared.table.Context.Context}
use Rattle.hba_fbs.specs.Views.{opening_port, view_of}
use Rattle.hba_laws.specs.{Agreement.{IsTold, work_of_issue}, History.{Emptied, History}}

no_issue : (m k : ℕ) (o : Option Issue) → o ≡ None → get_or (replicate m o) k None ≡ None
no_issue m k o e = elim (cases_lt k m) [
  | inl below ↦ get_or-replicate m k o None below ∙ e
  | inr past ↦ get_or_past (replicate m o) k None (let long = length-replicate m o in omega (arith, long, past))
]

no_context : (m k : ℕ) (o : Option Context) → o ≡ None → get_or (replicate m o) k None ≡ None
no_context m k o e = elim (cases_lt k m) [
  | inl below ↦ get_or-replicate m k o None below ∙ e
  | inr past ↦ get_or_past (replicate m o) k None (let long = length-replicate m o in omega (arith, long, past))
]

no_own : (n m k : ℕ) (o : Option Issue) → o ≡ None → get_or (map (owned_by n) (replicate m o)) k None ≡ None
no_own n m k o e = elim (cases_lt k m) [
  | inl below ↦
      let long = length-replicate m o in
      get_or-map (owned_by n) (replicate m o) k None None (omega (arith, long, below)) ∙ ap (owned_by n) (no_issue m k o e)
  | inr past ↦
      let long = length-replicate m o in
      let same = length-map (replicate m o) (owned_by n) in
      get_or_past (map (owned_by n) (replicate m o)) k None (omega (arith, long, same, past))
]

pub opens_told : (n : ℕ) → IsTold (view_of n opening_port) []
opens_told n = record {
  issued = λ s. sym (ap (option_map work_of_issue) (no_own n 32 s None refl));
  agrees = record {
    issues_agree = λ s i e. let bad : None ≡ Some i = sym (no_own n 32 s None refl) ∙ e in cc;
    context_agrees = λ c e. let bad : None ≡ Some c = sym (no_context 16 n None refl) ∙ e in cc;
  };
}

pub reset_told : (n : ℕ) (past : History) → IsTold (view_of n opening_port) (Emptied ∷ past)
reset_told n past = record {
  issued = λ s. sym (ap (option_map work_of_issue) (no_own n 32 s None refl));
  agrees = record {
    issues_agree = λ s i e. let bad : None ≡ Some i = sym (no_own n 32 s None refl) ∙ e in cc;
    context_agrees = λ c e. let bad : None ≡ Some c = sym (no_context 16 n None refl) ∙ e in cc;
  };
}
