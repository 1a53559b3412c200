-- What is saved and restored: words of what was transferred, and of a slot.
use Rattle.std.proofs.Common.{◌≡◌, ℕ, Bool, List, length, refl, sym, ◌∙◌, ap, arith, subst, Some, None, Err}
use Rattle.std.specs.List.{AllByRecursion}
use Rattle.saved_state.specs.{declared.words.RestoreError.{RestoreError, TheVariants.{OutOfMemory, Short, NoSuch, Broken}}, State.KeepsOption}
use Rattle.saved_state.specs.State.{NotSaved, Restores, RestoresList, pair_apart, put_list, put_number, put_option}
use Rattle.slots.specs.{declared.{moved.Stretch.Stretch, slot.Issued.Issued}, Issued.HasRoom, RunLaws.{over_runs, runs_apart}, Runs.runs_of}
use Rattle.slots.specs.Saved.{AreRuns, IsDword, KeepsIssueParts, KeepsIssued, KeepsOver, KeepsSlot, KeepsStretch, issue_parts, issued_apart}
use Rattle.slots.specs.Saved.{over_apart, over_keep, over_parts, over_parts_apart, put_issue_parts, put_issued, put_over, put_over_parts, put_slot}
use Rattle.slots.specs.{Saved.put_stretch, Stretches.{AreApart, over_of}}
use Rattle.slots.proofs.{ApartLemmas.count_seen, FlagLemmas.{length-over}, RunLemmas.runs_over}

-- a refusal of one thing is one of another, if words of the second are words of the first
pub refused : {A B : Type 0} (put : A → List ℕ → List ℕ) (keeps : A → Type 0) (other : B → List ℕ → List ℕ) (holds : B → Type 0) (old from new : List ℕ)
    (error : RestoreError) → (NotSaved put keeps from → NotSaved other holds old) → Restores put keeps from (Err error) new → Restores other holds old (Err error) new
refused put keeps other holds old from new OutOfMemory then gone = tt
refused put keeps other holds old from new Short then gone = then gone
refused put keeps other holds old from new NoSuch then gone = then gone
refused put keeps other holds old from new Broken then gone = then gone

-- the same for a list
pub list_refused : {A B : Type 0} (put : A → List ℕ → List ℕ) (keeps : A → Type 0) (other : B → List ℕ → List ℕ) (holds : B → Type 0) (old from new : List ℕ)
    (error : RestoreError) → (NotSaved (put_list put) (AllByRecursion keeps) from → NotSaved other holds old) → RestoresList put keeps from (Err error) new
    → Restores other holds old (Err error) new
list_refused put keeps other holds old from new OutOfMemory then gone = tt
list_refused put keeps other holds old from new Short then gone = then gone
list_refused put keeps other holds old from new NoSuch then gone = then gone
list_refused put keeps other holds old from new Broken then gone = then gone

-- ---- what was transferred

-- the words of what stretches stand for
pub over_words : (n : ℕ) (ss : List Stretch) (over : List Bool) → over_of n ss ≡ over → AreApart 0 n ss → (rest : List ℕ) → put_over_parts (n, ss) rest ≡ put_over over rest
over_words n ss over is h rest =
    let long : length over ≡ n = ap length (sym is) ∙ length-over n ss in
    let same : runs_of over ≡ ss = ap runs_of (sym is) ∙ runs_over n ss h in
    cc

pub over_kept : (n : ℕ) (ss : List Stretch) (over : List Bool) → over_of n ss ≡ over → AreRuns n ss → KeepsOver over
over_kept n ss over is are =
    let long : length over ≡ n = ap length (sym is) ∙ length-over n ss in
    let count = count_seen n ss over is are.2 in
    (omega (arith, are.0), omega (arith, are.1))

pub dwords_gone : (old : List ℕ) → NotSaved put_number IsDword old → NotSaved put_over KeepsOver old
dwords_gone old gone over rest k e = gone (length over) (put_list put_stretch (runs_of over) rest) (over_keep over k).0 e

pub runs_gone : (old mid : List ℕ) (n : ℕ) → old ≡ put_number n mid → NotSaved (put_list put_stretch) (AllByRecursion KeepsStretch) mid → NotSaved put_over KeepsOver old
runs_gone old mid n is gone over rest k e =
    let same : mid ≡ put_list put_stretch (runs_of over) rest = cc in
    gone (runs_of over) rest (over_keep over k).1 same

pub over_gone : (old mid new : List ℕ) (n : ℕ) (ss : List Stretch) → (old ≡ put_number n mid) × IsDword n → (mid ≡ put_list put_stretch ss new) × AllByRecursion KeepsStretch ss
    → (AreRuns n ss → ⊥) → NotSaved put_over KeepsOver old
over_gone old mid new n ss first list not over rest k e =
    let is : old ≡ put_number n mid = first.0 in
    let then : mid ≡ put_list put_stretch ss new = list.0 in
    let words : put_over_parts (n, ss) new ≡ put_over_parts (over_parts over) rest = cc in
    let both = over_parts_apart (n, ss) (over_parts over) new rest (first.1, list.1) (over_keep over k) words in
    let long : n ≡ length over = ap (λ p. p.0) both.0 in
    let runs : ss ≡ runs_of over = ap (λ p. p.1) both.0 in
    let apart : AreApart 0 n ss = rw (long, runs) (runs_apart over) in
    let count = count_seen (length over) (runs_of over) over (over_runs over) (runs_apart over) in
    let many : length ss ≡ length (runs_of over) = ap length runs in
    not (omega (arith, k.0), omega (arith, k.1), apart)

-- what the words stand for
pub over_is : (old mid new : List ℕ) (n : ℕ) (ss kept : List Stretch) → (old ≡ put_number n mid) × IsDword n → (mid ≡ put_list put_stretch ss new) × AllByRecursion KeepsStretch ss
    → kept ≡ ss → AreRuns n ss → (old ≡ put_over (over_of n kept) new) × KeepsOver (over_of n kept)
over_is old mid new n ss kept first list same are =
    let is : old ≡ put_number n mid = first.0 in
    let then : mid ≡ put_list put_stretch ss new = list.0 in
    let words : old ≡ put_over_parts (n, ss) new = cc in
    rw same (words ∙ over_words n ss (over_of n ss) refl are.2 new, over_kept n ss (over_of n ss) refl are)

-- ---- a slot

pub slot_gone : (old : List ℕ) → NotSaved (put_option put_issue_parts) (KeepsOption KeepsIssueParts) old → NotSaved put_slot KeepsSlot old
slot_gone old gone None rest k e = gone None rest tt e
slot_gone old gone (Some issue) rest k e = gone (Some (issue_parts issue)) rest k.0 e

pub room_gone : (old new : List ℕ) (issued : Issued) (over : List Bool) → old ≡ put_option put_issue_parts (Some (issued, over)) new → KeepsIssueParts (issued, over)
    → (HasRoom (Some issued) over → ⊥) → NotSaved put_slot KeepsSlot old
room_gone old new issued over is keeps not None rest k e = absurd (cc)
room_gone old new issued over is keeps not (Some issue) rest k e =
    let words : put_issue_parts (issued, over) new ≡ put_issue_parts (issue_parts issue) rest = cc in
    let both = pair_apart put_issued KeepsIssued issued_apart put_over KeepsOver over_apart (issued, over) (issue_parts issue) new rest keeps k.0 words in
    let same : issue_parts issue ≡ (issued, over) = sym both.0 in
    not (subst (λ p. HasRoom (Some p.0) p.1) same (k.1, k.2))
