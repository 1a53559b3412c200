-- What the caller is told about a run that has not finished.
use Rattle.std.proofs.Common.{◌≡◌, Bool, true, false, Some, None, sym, subst}
use Rattle.std.specs.{Prelude.{◌↔◌, IfErr, IfSome, Result, Ok, Err}, Result.IsErrAnd, List.list_any}
use Rattle.pm_threads.specs.{Ends.Ends, Failures.{IsTold, IsToldOf, error_of}, Halts.{Halt, IsWhy, is_shut}, declared.run.RunError.RunError}
use Rattle.pm_threads.specs.declared.run.RunFailure.{RunFailure}
use Rattle.pm_threads.specs.declared.run.RunError.TheVariants as error

-- the gate of a device did not open
gate_shut : {D : Type 0} (e : RunError) (h : Halt D) → IsWhy e h → Some e ≡ Some error.GateShut → list_any (λ d. is_shut d.fault) h.disks ≡ true
gate_shut error.OutOfMemory h w is = absurd cc
gate_shut error.TurnsSpent h w is = absurd cc
gate_shut error.GateShut h w is = w.shut
gate_shut error.BadSetup h w is = absurd w
gate_shut error.Unexplained h w is = absurd cc

pub shut_by_gate : {D : Type 0} (r : Result (Ends D) (RunFailure D)) (h : Halt D) → IfErr r (λ f. IsWhy f.error h) → error_of r ≡ Some error.GateShut
    → list_any (λ d. is_shut d.fault) h.disks ≡ true
shut_by_gate (Ok x) h w is = absurd cc
shut_by_gate (Err f) h w is = gate_shut f.error h w is

-- it was no bad setup
begun : {D : Type 0} (e : RunError) (h : Halt D) → IsWhy e h → Some e ≡ Some error.BadSetup → ⊥
begun error.OutOfMemory h w is = absurd cc
begun error.TurnsSpent h w is = absurd cc
begun error.GateShut h w is = absurd cc
begun error.BadSetup h w is = w
begun error.Unexplained h w is = absurd cc

pub has_begun : {D : Type 0} (r : Result (Ends D) (RunFailure D)) (h : Halt D) → IfErr r (λ f. IsWhy f.error h) → error_of r ≡ Some error.BadSetup → ⊥
has_begun (Ok x) h w is = absurd cc
has_begun (Err f) h w is = begun f.error h w is

pub is_told : {D : Type 0} (r : Result (Ends D) (RunFailure D)) (h : Halt D) → IfErr r (λ f. f.left ≡ Some h) → IfErr r (λ f. IsWhy f.error h) → IfErr r (λ f. IsTold f)
is_told (Ok x) h l w = tt
is_told (Err f) h l w = subst (λ left. IsToldOf left f.error) (sym l) w

-- what is so of what is left
pub left_is : {D : Type 0} (r : Result (Ends D) (RunFailure D)) (h : Halt D) (P : Halt D → Type 0) → IfErr r (λ f. f.left ≡ Some h) → P h → IfErr r (λ f. IfSome f.left P)
left_is (Ok x) h P l p = tt
left_is (Err f) h P l p = subst (λ left. IfSome left P) (sym l) p

pub left_then : {D : Type 0} (r : Result (Ends D) (RunFailure D)) (P Q : Halt D → Type 0) → IfErr r (λ f. IfSome f.left P) → ((h : Halt D) → P h → Q h) → IfErr r (λ f. IfSome f.left Q)
left_then (Ok x) P Q l f = tt
left_then (Err failure) P Q l f = then failure.left l
  where
    then : (left : _) → IfSome left P → IfSome left Q
    then (Some h) p = f h p
    then None p = tt

-- ---- memory was refused before there were any ends

abbrev pub IsRefused : {T D : Type 0} → Result T (RunFailure D) → Type 0
IsRefused r = IsErrAnd r (λ f. (f.error ≡ error.OutOfMemory) × (f.left ≡ None))

pub refused_gate : {T D : Type 0} (r : Result T (RunFailure D)) (P : Type 0) → IsRefused r → error_of r ≡ Some error.GateShut → P
refused_gate (Ok x) P h is = absurd h
refused_gate (Err f) P h is = let e : f.error ≡ error.OutOfMemory = h.0 in absurd cc

-- the setup was one that a run can have
pub refused_setup : {T D : Type 0} (r : Result T (RunFailure D)) (can : Bool) → IsRefused r → can ≡ true
    → (error_of r ≡ Some error.BadSetup) ↔ (can ≡ false)
refused_setup (Ok x) can h is = absurd h
refused_setup (Err f) can h is =
    let e : f.error ≡ error.OutOfMemory = h.0 in ((λ bad. absurd cc), (λ other. absurd cc))

pub refused_left : {T D : Type 0} (r : Result T (RunFailure D)) (P : Halt D → Type 0) → IsRefused r → IfErr r (λ f. IfSome f.left P)
refused_left (Ok x) P h = tt
refused_left (Err f) P h = subst (λ left. IfSome left P) (sym h.1) tt

pub refused_told : {T D : Type 0} (r : Result T (RunFailure D)) → IsRefused r → IfErr r (λ f. IsTold f)
refused_told (Ok x) h = tt
refused_told (Err f) h =
    subst (λ e. IsToldOf f.left e) (sym h.0) (subst (λ left. IsToldOf left error.OutOfMemory) (sym h.1) tt)
