-- One more slot is issued.
use Rattle.std.proofs.Common.{◌≡◌, ◌≢◌, ℕ, ◌+◌, ◌<◌, ◌≤◌, Bool, true, false, ◌&&◌, List, length, get_or, set, refl, sym, ◌∙◌, ap, subst, inl, inr}
use Rattle.std.proofs.{Common.{arith, Option, Some, None}, lemmas.{Nat.Bits.{bit_at-zero}, Bool.{cases_eq, true≢false, false≢true}}}
use Rattle.std.proofs.lemmas.List.{get_or-set_same, get_or-set_other}
use Rattle.std.specs.{Prelude.{if◌then◌else◌, ◌==◌}, Option.{is_some, option_or}}
use Rattle.slots.specs.Slots.{DeviceSlots, Issue, LeavesOthers, Slots, has_bit, issue_at, own_issue, owned_by, slots_of}
use Rattle.slots.specs.declared.table.Context.{Context}
use Rattle.hba_commands.specs.declared.command.Command.{Command}
use Rattle.hba_fbs.specs.Issuing.{any_slot, is_busy, issue_with, issued_slots, issues_with, commands_with, slots_after, with_command}
use Rattle.hba_fbs.specs.{Offering.{Offer, asked_by}, Views.{HaveCommands, last_command}, Between.FilledTo}
use Rattle.hba_fbs.proofs.{AnyLemmas.none_passes, FillLemmas.{filled_all, filled_same, filled_set}, SlotLemmas.{own_at, stays_free}}

-- what an issue makes of each slot of a device
abbrev pub issue_after : ℕ → (ℕ → Option Command) → List (Option Issue) → ℕ → Option Issue
issue_after dev commands issues slot = issue_with dev (commands slot) (get_or issues slot None)

abbrev pub command_after : (ℕ → Option Command) → List (Option Command) → ℕ → Option Command
command_after commands old slot = option_or (commands slot) (last_command old slot)

pub issues_step : (dev n : ℕ) (commands : ℕ → Option Command) (c : Option Command) (old : List (Option Issue)) (own : DeviceSlots) → commands n ≡ c → n < length old → FilledTo n (issue_after dev commands old) None old own.issues
    → FilledTo (n + 1) (issue_after dev commands old) None old (slots_after dev n c own).issues
issues_step dev n commands None old own is inside h = filled_same n _ None old own.issues h (sym (ap (λ (c : Option Command). issue_with dev c (get_or old n None)) is))
issues_step dev n commands (Some command) old own is inside h = filled_set n _ None old own.issues _ h inside (sym (ap (λ (c : Option Command). issue_with dev c (get_or old n None)) is))

pub commands_step : (n : ℕ) (commands : ℕ → Option Command) (c : Option Command) (old new : List (Option Command)) → commands n ≡ c → n < length old → FilledTo n (command_after commands old) None old new
    → FilledTo (n + 1) (command_after commands old) None old (with_command n c new)
commands_step n commands None old new is inside h = filled_same n _ None old new h (sym (ap (λ (c : Option Command). option_or c (last_command old n)) is))
commands_step n commands (Some command) old new is inside h = filled_set n _ None old new _ h inside (sym (ap (λ (c : Option Command). option_or c (last_command old n)) is))

pub context_step : (dev n : ℕ) (c : Option Command) (own : DeviceSlots) → (slots_after dev n c own).context ≡ own.context
context_step dev n None own = refl
context_step dev n (Some command) own = refl

pub issues_all : (dev n : ℕ) (commands : ℕ → Option Command) (old new : DeviceSlots) → length old.issues ≤ n → new.context ≡ old.context → FilledTo n (issue_after dev commands old.issues) None old.issues new.issues → new ≡ issued_slots dev commands old
unfolding issues_with
issues_all dev n commands old new past context h =
    ap (λ (issues : List (Option Issue)). let own : DeviceSlots = record { issues = issues; context = new.context } in own) (filled_all n _ None old.issues new.issues h past)
    ∙ ap (λ (c : Option Context). let own : DeviceSlots = record { issues = issues_with dev commands old.issues; context = c } in own) context

pub commands_all : (n : ℕ) (commands : ℕ → Option Command) (old new : List (Option Command)) → length old ≤ n → FilledTo n (command_after commands old) None old new → new ≡ commands_with commands old
unfolding commands_with
commands_all n commands old new past h = filled_all n _ None old new h past

-- ---- each issued slot keeps its command

other_issue : (dev slot k : ℕ) (c : Option Command) (own : DeviceSlots) → k ≢ slot → own_issue (slots_after dev slot c own) k ≡ own_issue own k
other_issue dev slot k None own ne = refl
other_issue dev slot k (Some command) own ne = get_or-set_other own.issues slot k _ None ne

-- a device has nothing in a free slot
nothing_there : (dev slot : ℕ) (t : Slots) → issue_at t slot ≡ None → own_issue (slots_of dev t) slot ≡ None
nothing_there dev slot t free = own_at dev t slot ∙ ap (owned_by dev) free

-- an issued slot has a command now, and every other slot has what it had
have_at : (dev slot k : ℕ) (c : Option Command) (old new : Slots) (before : List (Option Command)) → slot < length before → slots_of dev new ≡ slots_after dev slot c (slots_of dev old) → LeavesOthers dev old new
    → HaveCommands old before → last_command (with_command slot c before) k ≡ None → issue_at new k ≡ None
have_at dev slot k None old new before inside own others have none =
    let free : issue_at old k ≡ None = have k none in
    stays_free dev k old new others (ap (λ (s : DeviceSlots). own_issue s k) own ∙ nothing_there dev k old free) free
have_at dev slot k (Some command) old new before inside own others have none = elim (cases_eq k slot) [
  | inl same ↦
      let here : last_command (set before slot (Some command)) slot ≡ Some command = get_or-set_same before slot (Some command) None inside in
      let gone : last_command (set before slot (Some command)) slot ≡ None = subst (λ (i : ℕ). last_command (set before slot (Some command)) i ≡ None) same none in
      cc (here, gone)
  | inr other ↦
      let free : issue_at old k ≡ None = have k (sym (get_or-set_other before slot k (Some command) None other) ∙ none) in
      stays_free dev k old new others (ap (λ (s : DeviceSlots). own_issue s k) own ∙ other_issue dev slot k (Some command) (slots_of dev old) other ∙ nothing_there dev k old free) free
]

pub have_step : (dev slot : ℕ) (c : Option Command) (old new : Slots) (before after : List (Option Command)) → slot < length before → slots_of dev new ≡ slots_after dev slot c (slots_of dev old) → LeavesOthers dev old new
    → after ≡ with_command slot c before → HaveCommands old before → HaveCommands new after
have_step dev slot c old new before after inside own others is have k none = have_at dev slot k c old new before inside own others have (sym (ap (λ (l : List (Option Command)). last_command l k) is) ∙ none)

-- ---- a slot that is asked for is free

free_if : (flag busy : Bool) (x : Option Command) → is_some (if flag then x else None) ≡ true → (flag && busy) ≡ false → busy ≡ false
free_if true busy x some none = none
free_if false busy x some none = absurd (false≢true some)

not_busy : (o : Option Issue) → is_some o ≡ false → o ≡ None
not_busy None h = refl
not_busy (Some i) h = absurd (true≢false h)

-- it was free at first, and no slot before it is this one
pub asked_free : (offer : Offer) (dev value slot : ℕ) (old now : Slots) → slot < 32 → any_slot value (is_busy old) ≡ false → is_some (asked_by offer value slot) ≡ true → LeavesOthers dev old now
    → own_issue (slots_of dev now) slot ≡ own_issue (slots_of dev old) slot → is_busy now slot ≡ false
asked_free offer dev value slot old now below none some others own =
    let free : issue_at old slot ≡ None = not_busy (issue_at old slot) (free_if (has_bit value slot) (is_busy old slot) _ some (none_passes value (is_busy old) slot none below)) in
    ap is_some (stays_free dev slot old now others (own ∙ nothing_there dev slot old free) free)

-- a write of 0 asks for nothing
zero_has : (slot : ℕ) → has_bit 0 slot ≡ false
zero_has slot = ap (λ (b : ℕ). b == 1) (bit_at-zero slot)

pub nothing_asked : (offer : Offer) (value slot : ℕ) → value ≡ 0 → asked_by offer value slot ≡ None
nothing_asked offer value slot zero = ap (λ (b : Bool). if b then offer.commands slot else None) (ap (λ (v : ℕ). has_bit v slot) zero ∙ zero_has slot)

pub issued_none : (dev : ℕ) (commands : ℕ → Option Command) (own : DeviceSlots) → ((slot : ℕ) → commands slot ≡ None) → own ≡ issued_slots dev commands own
issued_none dev commands own none = issues_all dev (length own.issues) commands own own (omega arith) refl (record {
  long = refl;
  filled = λ k below. sym (ap (λ (c : Option Command). issue_with dev c (get_or own.issues k None)) (none k));
  rest = λ k past. refl;
})

pub commands_none : (commands : ℕ → Option Command) (old : List (Option Command)) → ((slot : ℕ) → commands slot ≡ None) → old ≡ commands_with commands old
commands_none commands old none = commands_all (length old) commands old old (omega arith) (record {
  long = refl;
  filled = λ k below. sym (ap (λ (c : Option Command). option_or c (last_command old k)) (none k));
  rest = λ k past. refl;
})
