-- Free slots stay free, so each issued slot keeps its command.
use Rattle.std.proofs.{Common.{◌≡◌, ℕ, List, get_or, replicate, refl, ◌∙◌, ap, subst, inl, inr, Option, Some, None, arith}, lemmas.Bool.cases_eq}
use Rattle.std.proofs.{lemmas.{Bool.{cases_lt, eq-eqb}, List.{get_or-replicate, get_or_past}}, Math.ListN.{get_or-map, length-replicate}}
use Rattle.std.specs.Prelude.{MatchOption}
use Rattle.slots.specs.Slots.{Issue, Slots, DeviceSlots, LeavesOthers, issue_at, no_own_slots, no_slots, owned_by, own_issue, slots_of}
use Rattle.hba_commands.specs.declared.command.Command.{Command}
use Rattle.hba_fbs.specs.Views.{HaveCommands}

-- a list of equal elements has that element at each place
none_everywhere : {A : Type 0} (n k : ℕ) (x : A) → get_or (replicate n x) k x ≡ x
none_everywhere n k x = elim (cases_lt k n) [
  | inl below ↦ get_or-replicate n k x x below
  | inr past ↦ get_or_past (replicate n x) k x (omega (arith, length-replicate n x))
]

pub own_at : (dev : ℕ) (t : Slots) (slot : ℕ) → own_issue (slots_of dev t) slot ≡ owned_by dev (issue_at t slot)
own_at dev t slot = get_or-map (owned_by dev) t.issues slot None

owned_by_self : (i : Issue) → owned_by i.dev (Some i) ≡ Some i
owned_by_self i = rw (eq-eqb i.dev i.dev refl) refl

here_by : (dev : ℕ) (o : Option Issue) → MatchOption o ⊥ (λ i. i.dev ≡ dev) → owned_by dev o ≡ o
here_by dev None h = absurd h
here_by dev (Some i) h = rw (eq-eqb i.dev dev h) refl

-- what is issued in a slot of the device is its own
pub own_here : (dev slot : ℕ) (t : Slots) → MatchOption (issue_at t slot) ⊥ (λ i. i.dev ≡ dev) → own_issue (slots_of dev t) slot ≡ issue_at t slot
own_here dev slot t h = own_at dev t slot ∙ here_by dev (issue_at t slot) h

still_free : (dev slot : ℕ) (old new : Slots) (o : Option Issue) → issue_at new slot ≡ o → LeavesOthers dev old new → own_issue (slots_of dev new) slot ≡ None → issue_at old slot ≡ None → o ≡ None
still_free dev slot old new None is others own free = refl
still_free dev slot old new (Some i) is others own free =
    let here : own_issue (slots_of i.dev new) slot ≡ Some i = own_at i.dev new slot ∙ ap (owned_by i.dev) is ∙ owned_by_self i in
    let gone : own_issue (slots_of i.dev old) slot ≡ None = own_at i.dev old slot ∙ ap (owned_by i.dev) free in
    elim (cases_eq i.dev dev) [
      | inl same ↦
          let mine : own_issue (slots_of dev new) slot ≡ Some i = subst (λ (n : ℕ). own_issue (slots_of n new) slot ≡ Some i) same here in
          cc (mine, own)
      | inr other ↦
          let now : own_issue (slots_of i.dev new) slot ≡ own_issue (slots_of i.dev old) slot = ap (λ (s : DeviceSlots). own_issue s slot) (others i.dev other) in
          cc (here, now, gone)
    ]

-- A slot that was free stays free in a call on a device, if the call leaves the other devices and the device
-- has nothing in it afterwards.
pub stays_free : (dev slot : ℕ) (old new : Slots) → LeavesOthers dev old new → own_issue (slots_of dev new) slot ≡ None → issue_at old slot ≡ None → issue_at new slot ≡ None
stays_free dev slot old new others own free = still_free dev slot old new (issue_at new slot) refl others own free

pub flushed_have : (dev : ℕ) (old new : Slots) (commands : List (Option Command)) → slots_of dev new ≡ no_own_slots → LeavesOthers dev old new → HaveCommands old commands → HaveCommands new commands
flushed_have dev old new commands own others have slot none =
    stays_free dev slot old new others (ap (λ (s : DeviceSlots). own_issue s slot) own ∙ none_everywhere 32 slot None) (have slot none)

pub none_have : (commands : List (Option Command)) → HaveCommands no_slots commands
none_have commands slot none = none_everywhere 32 slot None
