-- For `isolated`. No slot of a device that is free becomes filled, but by an issue.
use Rattle.std.proofs.Common.{◌≡◌, ℕ, Bool, true, false, cond, List, get_or, set, length, refl, sym, ◌∙◌, ap, inl, inr, Option, Some, None, replicate}
use Rattle.std.proofs.{Common.{get_or-set_same, get_or-set_other, length-set}, lemmas.{Bool.{cases_eq, cases_lt}, List.{get_or-replicate}}}
use Rattle.std.proofs.lemmas.List.{get_or_past, length-replicate}
use Rattle.std.specs.{Prelude.{if◌then◌else◌, is_some, is_ok}, Option.option_map}
use Rattle.slots.specs.{declared.{answer.Answered.Answered, table.Context.Context}, Slots.{DeviceSlots, Issue, freed, holds, is_control}}
use Rattle.slots.specs.{Slots.{issues_unless, match_some, no_own_slots, own_issue, with_own_issue, sent_pio}, Commands.{after_pio_done, after_sent}}
use Rattle.slots.specs.{Commands.{answered_as, answered_issue, is_done, is_slot, sent_issue, whole_pio, with_sent}, Data.{activated, after_arrive}}
use Rattle.slots.specs.{Data.{after_payload, arrive_answer, gone_over, may_activate, moved_over, payload_len}, Setup.{after_setup_pio, begun, came}}
use Rattle.slots.specs.{Setup.{new_context, pio_fault, pio_issue, whole_context, with_own_context}, Work.is_dma}
use Rattle.slots.specs.declared.answer.Answered.TheVariants as answer
use Rattle.slots.proofs.Door.{get-unless, length-unless}
use Rattle.hba_fbs.specs.{declared.hearing.Happening.Happening, Hearing.{block_ended, moved}}
use Rattle.hba_fbs.specs.declared.hearing.Happening.TheVariants as happening
use Rattle.hba_laws.specs.Between.{KeepsOwn}

-- ---- ways to leave it so

keeps_either : (own x y : DeviceSlots) (b : Bool) → KeepsOwn own x → KeepsOwn own y → KeepsOwn own (if b then x else y)
keeps_either own x y true p q = p
keeps_either own x y false p q = q

keeps_match : {A : Type 0} (own : DeviceSlots) (o : Option A) (f : A → DeviceSlots) → ((a : A) → KeepsOwn own (f a)) → KeepsOwn own (match_some o own f)
keeps_match own None f keeps = λ slot h. h
keeps_match own (Some a) f keeps = keeps a

get_set : (xs : List (Option Issue)) (i s : ℕ) (o : Option Issue) → (s ≡ i → o ≡ None) → get_or xs s None ≡ None → get_or (set xs i o) s None ≡ None
get_set xs i s o own h =
    elim (cases_eq s i) [
      | inr ne ↦ get_or-set_other xs i s o None ne ∙ h
      | inl e ↦ elim (cases_lt i (length xs)) [
        | inl lt ↦ ap (λ (k : ℕ). get_or (set xs i o) k None) e ∙ get_or-set_same xs i o None lt ∙ own e
        | inr ge ↦ ap (λ (k : ℕ). get_or (set xs i o) k None) e ∙ get_or_past (set xs i o) i None (rw (length-set xs i o) ge)
      ]
    ]

-- an issue changes
keeps_changed : (own : DeviceSlots) (i : ℕ) (f : Issue → Issue) → KeepsOwn own (with_own_issue own i (option_map f (own_issue own i)))
keeps_changed own i f = λ slot h. get_set own.issues i slot (option_map f (own_issue own i)) (λ e. ap (option_map f) (ap (own_issue own) (sym e) ∙ h)) h

none_if : (b : Bool) (o : Option Issue) → o ≡ None → cond b None o ≡ None
none_if true o h = refl
none_if false o h = h

-- slots become free
keeps_freed : (own : DeviceSlots) (f : ℕ → Bool) → KeepsOwn own (freed f own)
keeps_freed own f = λ slot h.
    elim (cases_lt slot (length own.issues)) [
      | inl lt ↦ get-unless f own.issues slot None lt ∙ none_if (f slot) (own_issue own slot) h
      | inr ge ↦ get_or_past (issues_unless f own.issues) slot None (rw (length-unless f own.issues) ge)
    ]

-- bytes go over
keeps_gone : (own : DeviceSlots) (count : ℕ) (c : Context) → KeepsOwn own (gone_over count c own)
keeps_gone own count c = keeps_changed own c.slot (moved_over c.next count)

-- ---- what happens to a device

keeps_answered : (a : Answered) (own : DeviceSlots) → KeepsOwn own (answered_as a own)
keeps_answered answer.Nobody own = λ slot h. h
keeps_answered (answer.Queued slot) own = keeps_changed own slot answered_issue
keeps_answered (answer.Done slot) own = keeps_freed own (is_slot slot)
keeps_answered (answer.Short slot) own = λ slot h. h

keeps_pio : (own : DeviceSlots) (count : ℕ) (to_host : Bool) → KeepsOwn own (after_setup_pio own count to_host)
keeps_pio own count to_host =
    let set_up : ℕ → Issue → DeviceSlots = λ slot issue. with_own_context own (new_context slot (came issue) count to_host) in
    let in_slot : ℕ → DeviceSlots = λ slot. match_some (own_issue own slot) own (set_up slot) in
    keeps_either own own (match_some (sent_pio own) own in_slot) (is_some (pio_fault (pio_issue own) count to_host)) (λ slot h. h)
    (keeps_match own (sent_pio own) in_slot (λ slot. keeps_match own (own_issue own slot) (set_up slot) (λ issue k h. h)))

keeps_arrived : (own : DeviceSlots) (count : ℕ) → KeepsOwn own (after_arrive own count)
keeps_arrived own count =
    keeps_match own own.context (λ (c : Context). if is_ok (arrive_answer own.context count) then gone_over count c own else own)
    (λ c. keeps_either own (gone_over count c own) own (is_ok (arrive_answer own.context count)) (keeps_gone own count c) (λ slot h. h))

keeps_done : (own : DeviceSlots) → KeepsOwn own (after_pio_done own)
keeps_done own = keeps_match own (whole_pio own) (λ (slot : ℕ). freed (is_slot slot) own) (λ slot. keeps_freed own (is_slot slot))

keeps_ended : (finishes : Bool) (own middle : DeviceSlots) → KeepsOwn own middle → KeepsOwn own (block_ended finishes middle)
keeps_ended true own middle keeps = λ slot h. keeps_done middle slot (keeps slot h)
keeps_ended false own middle keeps = keeps

pub keeps_moved : (m : Happening) (own : DeviceSlots) → KeepsOwn own (moved m own)
keeps_moved (happening.Answered a) own = keeps_answered a own
keeps_moved (happening.Named mask) own = keeps_freed own (is_done mask own)
keeps_moved (happening.PioSetUp count to_host) own = keeps_pio own count to_host
keeps_moved happening.Activated own =
    let asked : DeviceSlots = record own { context = option_map activated own.context } in
    keeps_either own asked own (may_activate own.context) (λ slot h. h) (λ slot h. h)
keeps_moved (happening.Carried wrote finishes) own = keeps_ended finishes own (after_arrive own wrote.len) (keeps_arrived own wrote.len)
keeps_moved other own = λ slot h. h

-- a command is its own setup, or not
keeps_begun : (own middle : DeviceSlots) (slot : ℕ) (o : Option Issue) → KeepsOwn own middle → KeepsOwn own (match_some o middle (λ issue. begun slot issue.work middle))
keeps_begun own middle slot None keeps = keeps
keeps_begun own middle slot (Some issue) keeps = keeps_either own (with_own_context middle (whole_context slot issue.work)) middle (is_dma issue.work.kind) keeps keeps

-- a command goes out, data goes out, and the device is flushed
pub keeps_sent : (own : DeviceSlots) (slot : ℕ) → KeepsOwn own (after_sent own slot)
keeps_sent own slot =
    keeps_either own (freed (is_slot slot) own) _ (holds (λ issue. is_control issue.work.kind) (own_issue own slot)) (keeps_freed own (is_slot slot))
    (keeps_begun own (with_sent own slot) slot (own_issue own slot) (keeps_changed own slot sent_issue))

pub keeps_fed : (own : DeviceSlots) → KeepsOwn own (after_payload own)
keeps_fed own = keeps_match own own.context (λ (c : Context). gone_over (payload_len c) c own) (λ c. keeps_gone own (payload_len c) c)

abbrev no_issue : Option Issue
no_issue = None

pub keeps_none : (own : DeviceSlots) → KeepsOwn own no_own_slots
keeps_none own = λ slot h.
    elim (cases_lt slot 32) [
      | inl lt ↦ get_or-replicate 32 slot no_issue None lt
      | inr ge ↦ get_or_past (replicate 32 no_issue) slot None (rw (length-replicate 32 no_issue) ge)
    ]
