-- Why a DMA Setup for a slot is refused.
use Rattle.std.proofs.{Common.{◌≡◌, ℕ, Bool, ◌&&◌, nat_eq, cond, List, refl, sym, ◌∙◌, ap, inl, inr, Option, Some, None}, lemmas.Bool.cases_Bool}
use Rattle.std.proofs.lemmas.Bool.{cond-true, cond-false}
use Rattle.std.specs.Option.{option_map}
use Rattle.slots.specs.{declared.{answer.SetupError.SetupError, slot.Issued.Issued}, Issued.{issue_in, issued_of, with_flags}, Setup.setup_fault}
use Rattle.slots.specs.{Setup.transfer_fault, Slots.{Issue, owned_by}, Work.is_queued}

none_some : (i : Issued) → None ≡ Some i → ⊥
none_some i h = cc

same_some : (i j : Issued) → Some i ≡ Some j → i ≡ j
same_some i j h = cc

owned_by_parts : (dev : ℕ) (issued : Option Issued) (over : List Bool) (i : Issued) → option_map issued_of (owned_by dev (issue_in issued over)) ≡ Some i → owned_by dev (issue_in issued over) ≡ Some (with_flags i over)
owned_by_parts dev None over i h = absurd (cc)
owned_by_parts dev (Some j) over i h = elim (cases_Bool (nat_eq j.dev dev)) [
  | inl own ↦
      let is : owned_by dev (Some (with_flags j over)) ≡ Some (with_flags j over) = cond-true (nat_eq j.dev dev) (Some (with_flags j over)) None own in
      is ∙ ap (λ (x : Issued). Some (with_flags x over)) (same_some j i (sym (ap (option_map issued_of) is) ∙ h))
  | inr other ↦
      let is : owned_by dev (Some (with_flags j over)) ≡ None = cond-false (nat_eq j.dev dev) (Some (with_flags j over)) None other in
      absurd (none_some i (sym (ap (option_map issued_of) is) ∙ h))
]

-- the fault of a setup for a slot of which this is issued
pub setup_told : (dev offset count : ℕ) (to_host : Bool) (issued : Option Issued) (over : List Bool) (now : Option Issue) (i : Issued) (b : Bool) → issue_in issued over ≡ now → option_map issued_of (owned_by dev now) ≡ Some i
    → (is_queued i.work.kind && i.answered) ≡ b → setup_fault (owned_by dev now) offset count to_host ≡ cond b (transfer_fault (with_flags i over) offset count to_host) (Some SetupError.NotOutstanding)
setup_told dev offset count to_host issued over now i b same h goes =
    let at : option_map issued_of (owned_by dev (issue_in issued over)) ≡ Some i = ap (λ (x : Option Issue). option_map issued_of (owned_by dev x)) same ∙ h in
    ap (λ (x : Option Issue). setup_fault (owned_by dev x) offset count to_host) (sym same)
    ∙ ap (λ (x : Option Issue). setup_fault x offset count to_host) (owned_by_parts dev issued over i at)
    ∙ ap (λ (b : Bool). cond b (transfer_fault (with_flags i over) offset count to_host) (Some SetupError.NotOutstanding)) goes

pub setup_nobody : (offset count : ℕ) (to_host : Bool) (o : Option Issue) → option_map issued_of o ≡ None → setup_fault o offset count to_host ≡ Some SetupError.NotOutstanding
setup_nobody offset count to_host None h = refl
setup_nobody offset count to_host (Some i) h = absurd (cc)
