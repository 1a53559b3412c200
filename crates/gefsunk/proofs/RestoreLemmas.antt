-- Bytes that are no state are refused, and the handle stays closed.
use Rattle.std.proofs.Common.{◌≡◌, ℕ, List, Option, None, Err, refl, sym, subst}
use Rattle.ahci_machine.specs.{Streams.ReadsStream, declared.state.StateError.StateError}
use Rattle.ahci_machine.specs.declared.state.StateError.TheVariants as fault
use Rattle.gefsunk.specs.{Savings.{RestoresMachine, state_fault}, declared.{kept.Kept.Kept, status.Status.Status}}

none_restored : (bytes : List ℕ) (e : StateError) → ReadsStream bytes (Err e) → RestoresMachine None bytes (state_fault e) None
none_restored bytes fault.OutOfMemory gone = refl
none_restored bytes fault.NotAMachine gone = (refl, λ m k is. gone m k.0 k.1 is)
none_restored bytes fault.OtherVersion gone = (refl, λ m k is. gone m k.0 k.1 is)
none_restored bytes fault.Short gone = (refl, λ m k is. gone m k.0 k.1 is)
none_restored bytes fault.Long gone = (refl, λ m k is. gone m k.0 k.1 is)
none_restored bytes fault.NoSuch gone = (refl, λ m k is. gone m k.0 k.1 is)
none_restored bytes fault.Broken gone = (refl, λ m k is. gone m k.0 k.1 is)

pub stays_closed : (bytes : List ℕ) (e : StateError) (old new : Option Kept) (answer : Status) → ReadsStream bytes (Err e) → old ≡ None → new ≡ None
    → answer ≡ state_fault e → RestoresMachine old bytes answer new
stays_closed bytes e old new answer gone was is said =
    let At : Option Kept → Type 0 = λ o. RestoresMachine o bytes answer new in
    let Answers : Status → Type 0 = λ s. RestoresMachine None bytes s new in
    let Now : Option Kept → Type 0 = λ o. RestoresMachine None bytes (state_fault e) o in
    subst At (sym was) (subst Answers (sym said) (subst Now (sym is) (none_restored bytes e gone)))
