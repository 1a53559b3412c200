-- Answers by cases, each with what it stands for.
use Rattle.std.proofs.{Common.{◌≡◌, ℕ, Bool, true, false, List, length, get_or, set, Option, Some, None, refl, sym}, lemmas.Bool.{eqb-false}}
use Rattle.std.proofs.lemmas.{Bool.{ltb-true}, List.{get_or-set_same, get_or-set_other}}
use Rattle.std.specs.{Prelude.{◌==◌, MatchOption, nat_lt}, Bool.MatchBool}
use Rattle.ahci_machine.specs.{States.empty_bay, declared.bay.Bay.Bay}

pub by_bool : (C X Y : Type 0) (b : Bool) → MatchBool b X Y → (b ≡ true → X → C) → (b ≡ false → Y → C) → C
by_bool C X Y true h f g = f refl h
by_bool C X Y false h f g = g refl h

pub by_option : (A C N : Type 0) (S : A → Type 0) (o : Option A) → MatchOption o N S → (o ≡ None → N → C) → ((a : A) → o ≡ Some a → S a → C) → C
by_option A C N S None h f g = f refl h
by_option A C N S (Some a) h f g = g a refl h

-- a bay, where another one was changed
pub other_bay : (bays : List Bay) (n port : ℕ) (b : Bay) → (n == port) ≡ false → get_or (set bays n b) port empty_bay ≡ get_or bays port empty_bay
other_bay bays n port b off = get_or-set_other bays n port b empty_bay (λ same. eqb-false n port off (sym same))

pub this_bay : (bays : List Bay) (port : ℕ) (b : Bay) → nat_lt port (length bays) ≡ true → get_or (set bays port b) port empty_bay ≡ b
this_bay bays port b inside = get_or-set_same bays port b empty_bay (ltb-true port (length bays) inside)
