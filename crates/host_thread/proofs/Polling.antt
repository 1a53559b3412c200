-- If no ended request is polled, the driver stays as it is.
use Rattle.std.proofs.Common.{◌≡◌, ℕ, true, List, Option, Some, None, refl}
use Rattle.std.specs.Prelude.{slice_set}
use Rattle.slots.specs.Slots.{match_some}
use Rattle.slots.proofs.Door.{lowest_is}
use Rattle.hba_driver.specs.{Drivers.{Driver, Entry, entry_at, has_ended, has_ended_in, holds}, Submits.{after_poll, completed, completion_at}}
use Rattle.hba_driver.specs.{Submits.{completion_of, lowest_ended}, declared.slot.{Head.Head, Phase.{Phase, TheVariants.{Waits, Issued, Aside}}}}
use Rattle.hba_driver.specs.declared.slot.Phase.TheVariants.{Ended}

ended : (entries : List (Option Entry)) (n : ℕ) → lowest_ended entries ≡ Some n → holds has_ended (entry_at entries n) ≡ true
unfolding lowest_ended
ended entries n h = (lowest_is (λ slot. holds has_ended (entry_at entries slot)) 30 n h).passes

-- an ended request has a completion
told : (n : ℕ) (head : Head) (phase : Phase) → has_ended_in phase ≡ true → completed n head phase ≡ None → ⊥
told n head Waits is none = absurd (cc)
told n head Issued is none = absurd (cc)
told n head Aside is none = absurd (cc)
told n head (Ended outcome) is none = absurd (cc)

told_at : (n : ℕ) (o : Option Entry) → holds has_ended o ≡ true → completion_at n o ≡ None → ⊥
told_at n None is none = absurd (cc)
told_at n (Some entry) is none = told n entry.head entry.head.phase is none

by_lowest : (d : Driver) (o : Option ℕ) → lowest_ended d.entries ≡ o
    → match_some o None (λ slot. completion_at slot (entry_at d.entries slot)) ≡ None
    → match_some o d (λ slot. let left : Driver = record d { entries = slice_set d.entries slot None } in left) ≡ d
by_lowest d None low none = refl
by_lowest d (Some n) low none = absurd (told_at n (entry_at d.entries n) (ended d.entries n low) none)

pub idle : (d : Driver) → completion_of d ≡ None → after_poll d ≡ d
unfolding completion_of after_poll
idle d none = by_lowest d (lowest_ended d.entries) refl none
