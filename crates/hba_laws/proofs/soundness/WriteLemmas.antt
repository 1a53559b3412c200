-- For `stays_sound`. The commands of a device's slots after a write of PxCI that is not refused.
use Rattle.std.proofs.Common.{◌≡◌, ℕ, ◌<◌, Bool, true, false, ◌&&◌, List, length, map, refl, sym, ◌∙◌, ap, arith, inl, inr, Option, Some, None}
use Rattle.std.proofs.{Math.Path.fun_ext, lemmas.{Bool.{cases_lt, cond-true, false≢true, true≢false}, List.{get_or_past, length-map}}}
use Rattle.std.proofs.lemmas.List.FromFn.{get_or-map-range_with_len, length-map-range_with_len}
use Rattle.std.specs.{Bool.beq, Prelude.{if◌then◌else◌, is_some, not}, List.range_with_len, Option.option_or}
use Rattle.hba_commands.specs.declared.command.Command.{Command}
use Rattle.host_memory.specs.Memory.{Memory}
use Rattle.slots.specs.{Slots.{DeviceSlots, Issue, Slots, has_bit, issue_at, lowest_below, own_issue, owned_by, slots_of}, Table.IsTable}
use Rattle.slots.proofs.Door.{none_below, own_at}
use Rattle.hba_fbs.specs.{declared.{error.WriteError.WriteError, register.Register.TheVariants.{Ci, Fb, Fbs}, registers.Registers.Registers}, Bits.en}
use Rattle.hba_fbs.specs.{Issuing.{any_slot, commands_with, is_busy, issue_with, issued_slots, issues_with}, Offering.{Offer, is_apart_by, is_bad_by}}
use Rattle.hba_fbs.specs.{Offering.{issue_refusal_by, refusal_by, slots_refusal_by}, Registers.{own_refusal, own_refusal_by, running_if}}
use Rattle.hba_fbs.specs.{Views.{HaveCommands, Port, last_command}, Writing.{apart_refusal, refusal_of, slots_refusal}}
use Rattle.hba_fbs.specs.declared.error.WriteError.TheVariants as refusal
use Rattle.hba_laws.specs.Parts.{commands_of}

-- ---- refusals

second_none : (x y : Option WriteError) → option_or x y ≡ None → y ≡ None
second_none None y h = h
second_none (Some e) y h = cc

pub first_none : (x y : Option WriteError) → option_or x y ≡ None → x ≡ None
first_none None y h = refl
first_none (Some e) y h = cc

test_false : (b : Bool) (e : WriteError) (rest : Option WriteError) → (if b then Some e else rest) ≡ None → b ≡ false
test_false true e rest h = cc
test_false false e rest h = refl

-- nothing is issued in a slot in which a write issues
pub free_by : (port : Port) (offer : Offer) (value : ℕ) → port.registers.started ≡ true → refusal_by Ci port offer value ≡ None → any_slot value (is_busy port.slots) ≡ false
unfolding slots_refusal_by
free_by port offer value started h =
    let both : (if port.registers.started then issue_refusal_by port offer value else None) ≡ None = second_none (own_refusal_by Ci port.registers value) (slots_refusal_by Ci port offer value) h in
    let issue : issue_refusal_by port offer value ≡ None = sym (cond-true port.registers.started (issue_refusal_by port offer value) None started) ∙ both in
    test_false (any_slot value (is_busy port.slots)) refusal.SlotBusy
    (if is_apart_by port offer value then Some (apart_refusal port.registers)
    else if any_slot value (is_bad_by offer) then Some refusal.BadTable
    else None) issue

-- while FRE is 1, the received area is not moved
pub fb_refused : (port : Port) (memory : Memory) (value : ℕ) → port.registers.receives ≡ true → refusal_of Fb port memory value ≡ None → ⊥
unfolding own_refusal
fb_refused port memory value receives h =
    let is : running_if port.registers.receives ≡ None = first_none (running_if port.registers.receives) (slots_refusal Fb port memory value) h in
    true≢false (sym receives ∙ test_false port.registers.receives refusal.Running None is)

-- and while ST is 1, EN stays
started_off : (started same : Bool) → started ≡ true → (started && not same) ≡ false → same ≡ true
started_off true true on h = refl
started_off true false on h = absurd (true≢false h)
started_off false same on h = absurd (false≢true on)

same_bits : (a b : Bool) → beq a b ≡ true → a ≡ b
same_bits true true h = refl
same_bits false false h = refl
same_bits true false h = absurd (false≢true h)
same_bits false true h = absurd (false≢true h)

pub mode_stays : (port : Port) (memory : Memory) (value : ℕ) → port.registers.started ≡ true → refusal_of Fbs port memory value ≡ None → has_bit value en ≡ port.registers.switching
unfolding own_refusal
mode_stays port memory value started h =
    let same : Bool = beq (has_bit value en) port.registers.switching in
    let is : running_if (port.registers.started && not same) ≡ None = first_none (running_if (port.registers.started && not same)) (slots_refusal Fbs port memory value) h in
    same_bits (has_bit value en) port.registers.switching
    (started_off port.registers.started same started (test_false (port.registers.started && not same) refusal.Running None is))

pub mode_own : (r : Registers) (value : ℕ) → r.started ≡ true → own_refusal Fbs r value ≡ None → has_bit value en ≡ r.switching
unfolding own_refusal
mode_own r value started is =
    let same : Bool = beq (has_bit value en) r.switching in
    same_bits (has_bit value en) r.switching (started_off r.started same started (test_false (r.started && not same) refusal.Running None is))

-- ---- commands

no_number : (o : Option ℕ) → is_some o ≡ false → o ≡ None
no_number None h = refl
no_number (Some n) h = absurd (true≢false h)

none_asked : (bit busy : Bool) (c : Option Command) → (bit && busy) ≡ false → busy ≡ true → (if bit then c else None) ≡ None
none_asked true true c h is = absurd (true≢false h)
none_asked true false c h is = absurd (false≢true is)
none_asked false busy c h is = refl

-- a slot in which something is issued is not issued again
-- the commands by slot after an issue
command_after : (a : ℕ → Option Command) (old : List (Option Command)) (slot : ℕ) → (last_command (commands_with a old) slot ≡ None → ⊥)
    → last_command (commands_with a old) slot ≡ option_or (a slot) (last_command old slot)
unfolding commands_with
command_after a old slot some =
    let at : ℕ → Option Command = λ s. option_or (a s) (last_command old s) in
    elim (cases_lt slot (length old)) [
      | inl lt ↦ get_or-map-range_with_len at 0 (length old) slot slot None lt (omega arith)
      | inr ge ↦ absurd (some (get_or_past (map at (range_with_len 0 (length old))) slot None (rw (length-map-range_with_len at 0 (length old)) ge)))
    ]

-- what is issued in a slot of a device, where nothing was and nothing is asked
none_issued : (n : ℕ) (a : ℕ → Option Command) (own : DeviceSlots) (slot : ℕ) → a slot ≡ None → own_issue own slot ≡ None → own_issue (issued_slots n a own) slot ≡ None
unfolding issues_with
none_issued n a own slot none free =
    let at : ℕ → Option Issue = λ s. issue_with n (a s) (own_issue own s) in
    let no_issue : Option Issue = None in
    elim (cases_lt slot (length own.issues)) [
      | inl lt ↦ get_or-map-range_with_len at 0 (length own.issues) slot slot None lt (omega arith) ∙ ap (λ (x : Option Command). issue_with n x (own_issue own slot)) none ∙ free
      | inr ge ↦ get_or_past (map at (range_with_len 0 (length own.issues))) slot no_issue (rw (length-map-range_with_len at 0 (length own.issues)) ge)
    ]

-- a slot that is free is free for each device
own_free : (n : ℕ) (t : Slots) (slot : ℕ) → issue_at t slot ≡ None → own_issue (slots_of n t) slot ≡ None
own_free n t slot h =
    elim (cases_lt slot (length t.issues)) [
      | inl lt ↦ own_at n t slot lt ∙ ap (owned_by n) h
      | inr ge ↦ get_or_past (map (owned_by n) t.issues) slot None (rw (length-map t.issues (owned_by n)) ge)
    ]

some_not_none : (o : Option Issue) → is_some o ≡ true → o ≡ None → ⊥
some_not_none o h e = false≢true (sym (ap (λ (x : Option Issue). is_some x) e) ∙ h)

-- each slot of a device in which something is issued has its command
has_command : (n : ℕ) (t : Slots) (commands : List (Option Command)) (slot : ℕ) → HaveCommands t commands → is_some (own_issue (slots_of n t) slot) ≡ true → last_command commands slot ≡ None → ⊥
has_command n t commands slot have some none = some_not_none (own_issue (slots_of n t) slot) some (own_free n t slot (have slot none))

-- ---- of the device for which is issued, and of the others

chosen_at : (o p : Option Issue) (x y z : Option Command) → (x ≡ None → o ≡ None → p ≡ None) → (is_some p ≡ true → y ≡ option_or x z)
    → (if is_some p then y else None) ≡ (if is_some p then option_or x (if is_some o then z else None) else None)
chosen_at o None x y z none is = refl
chosen_at o (Some j) (Some c) y z none is = is refl
chosen_at (Some i) (Some j) None y z none is = is refl
chosen_at None (Some j) None y z none is = let e : Some j ≡ None = none refl refl in cc

pub commands_chosen : (n : ℕ) (a : ℕ → Option Command) (own : DeviceSlots) (t : Slots) (old new : List (Option Command)) → HaveCommands t new → slots_of n t ≡ issued_slots n a own → new ≡ commands_with a old
    → commands_of (slots_of n t) (last_command new) ≡ commands_of (issued_slots n a own) (λ slot. option_or (a slot) (commands_of own (last_command old) slot))
commands_chosen n a own t old new have own_is new_is =
    let next : DeviceSlots = issued_slots n a own in
    let told : (slot : ℕ) → is_some (own_issue next slot) ≡ true → last_command new slot ≡ option_or (a slot) (last_command old slot) = λ slot some.
    let there : is_some (own_issue (slots_of n t) slot) ≡ true = ap (λ (x : DeviceSlots). is_some (own_issue x slot)) own_is ∙ some in
    ap (λ (x : List (Option Command)). last_command x slot) new_is
    ∙ command_after a old slot (λ none. has_command n t new slot have there (ap (λ (x : List (Option Command)). last_command x slot) new_is ∙ none)) in
    ap (λ (x : DeviceSlots). commands_of x (last_command new)) own_is
    ∙ fun_ext (λ slot. chosen_at (own_issue own slot) (own_issue next slot) (a slot) (last_command new slot) (last_command old slot) (none_issued n a own slot) (told slot))

other_at : (o : Option Issue) (y z : Option Command) → (is_some o ≡ true → y ≡ z) → (if is_some o then y else None) ≡ (if is_some o then z else None)
other_at None y z is = refl
other_at (Some i) y z is = is refl

some_owned : (n : ℕ) (o : Option Issue) → is_some (owned_by n o) ≡ true → is_some o ≡ true
some_owned n None h = h
some_owned n (Some i) h = refl

slot_within : (n : ℕ) (t : Slots) (slot : ℕ) → is_some (own_issue (slots_of n t) slot) ≡ true → slot < length t.issues
slot_within n t slot some =
    elim (cases_lt slot (length t.issues)) [
      | inl lt ↦ lt
      | inr ge ↦ absurd (some_not_none (own_issue (slots_of n t) slot) some (get_or_past (map (owned_by n) t.issues) slot None (rw (length-map t.issues (owned_by n)) ge)))
    ]

-- what is asked of slots in which nothing is issued
pub none_busy_by : (t : Slots) (value : ℕ) (offered : ℕ → Option Command) → any_slot value (is_busy t) ≡ false → (slot : ℕ) → slot < 32 → is_some (issue_at t slot) ≡ true
    → (if has_bit value slot then offered slot else None) ≡ None
none_busy_by t value offered none slot lt busy =
    let test : ℕ → Bool = λ s. has_bit value s && is_busy t s in
    none_asked (has_bit value slot) (is_busy t slot) (offered slot) (none_below test 32 (no_number (lowest_below test 32) none) slot lt) busy

pub commands_other_by : (n : ℕ) (before : Slots) (old : List (Option Command)) (a : ℕ → Option Command) (t : Slots) (new : List (Option Command))
    → ((slot : ℕ) → slot < 32 → is_some (issue_at before slot) ≡ true → a slot ≡ None) → IsTable before
    → HaveCommands t new → slots_of n t ≡ slots_of n before → new ≡ commands_with a old
    → commands_of (slots_of n t) (last_command new) ≡ commands_of (slots_of n before) (last_command old)
commands_other_by n before old a t new free table have own_is new_is =
    let own : DeviceSlots = slots_of n before in
    let told : (slot : ℕ) → is_some (own_issue own slot) ≡ true → last_command new slot ≡ last_command old slot = λ slot some.
    let there : is_some (own_issue (slots_of n t) slot) ≡ true = ap (λ (x : DeviceSlots). is_some (own_issue x slot)) own_is ∙ some in
    let within : slot < length before.issues = slot_within n before slot some in
    let busy : is_some (issue_at before slot) ≡ true = some_owned n (issue_at before slot) (ap (λ (x : Option Issue). is_some x) (sym (own_at n before slot within)) ∙ some) in
    let none : a slot ≡ None = free slot (omega (arith, within, table.slots)) busy in
    ap (λ (x : List (Option Command)). last_command x slot) new_is
    ∙ command_after a old slot (λ gone. has_command n t new slot have there (ap (λ (x : List (Option Command)). last_command x slot) new_is ∙ gone))
    ∙ ap (λ (x : Option Command). option_or x (last_command old slot)) none in
    ap (λ (x : DeviceSlots). commands_of x (last_command new)) own_is
    ∙ fun_ext (λ slot. other_at (own_issue own slot) (last_command new slot) (last_command old slot) (told slot))
