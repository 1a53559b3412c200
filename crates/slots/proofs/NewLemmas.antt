-- A table with nothing issued.
use Rattle.std.proofs.{Common.{◌≡◌, ℕ, ◌<◌, List, get_or, length, sym, ◌∙◌, ap, arith, replicate, inl, inr, Option, None}, lemmas.Bool.cases_lt}
use Rattle.std.proofs.lemmas.{Bool.{false≢true}, List.{get_or_past, get_or-replicate, length-replicate, same_lists}}
use Rattle.slots.specs.{declared.table.Context.Context, Slots.{Issue, holds, is_waiting, owned_by}, Table.IsTable, Between.no_issue}

abbrev pub no_context : Option Context
no_context = None

pub get-free : (n i : ℕ) → get_or (replicate n no_issue) i None ≡ None
get-free n i = elim (cases_lt i n) [
  | inl lt ↦ get_or-replicate n i None None lt
  | inr ge ↦ get_or_past (replicate n None) i None (rw (length-replicate n no_issue) ge)
]

get-idle : (n i : ℕ) → get_or (replicate n no_context) i None ≡ None
get-idle n i = elim (cases_lt i n) [
  | inl lt ↦ get_or-replicate n i None None lt
  | inr ge ↦ get_or_past (replicate n None) i None (rw (length-replicate n no_context) ge)
]

-- nothing is issued
pub all_free : (issues : List (Option Issue)) (n : ℕ) → length issues ≡ n → ((i : ℕ) (d : Option Issue) → i < n → get_or issues i d ≡ None) → issues ≡ replicate n None
all_free issues n long free = same_lists issues (replicate n None) (long ∙ sym (length-replicate n no_issue)) (λ k d lt. free k d (omega arith) ∙ sym (get_or-replicate n k None d (omega arith)))

pub new_table : (n m : ℕ) → n ≡ 32 → m ≡ 16 → IsTable (record { issues = replicate n None; contexts = replicate m None })
new_table n m en em = record {
  slots = length-replicate n no_issue ∙ en;
  devices = length-replicate m no_context ∙ em;
  issues = λ s. rw (get-free n s) tt;
  contexts = λ dev. rw (get-idle m dev) tt;
  one_waits = λ dev r s hr hs. absurd (false≢true (sym (ap (λ (o : Option Issue). holds is_waiting (owned_by dev o)) (get-free n r)) ∙ hr));
}
