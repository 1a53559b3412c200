-- The rules of a controller stay true over each call.
use Rattle.std.proofs.Common.{◌≡◌, ◌≢◌, ℕ, ◌<◌, ◌≤◌, ◌^◌, ◌&&◌, Bool, true, false, List, get_or, set, length, map, replicate, refl, sym, ap, subst}
use Rattle.std.proofs.{Common.{◌∙◌, inl, inr, Option, Some, None, arith, get_or-set_same, get_or-set_other}, lemmas.Bool.{and_parts, cases_Bool}}
use Rattle.std.proofs.lemmas.{Bool.{cases_eq, cases_lt, false≢true, ltb-true, true≢false}, List.{get_or_past, FromFn.{get_or-map-range_with_len}}}
use Rattle.std.proofs.lemmas.List.FromFn.{length-map-range_with_len}
use Rattle.std.specs.{Prelude.{IfSome, MatchOption, is_some, nat_lt, ◌==◌, if◌then◌else◌}, List.range_with_len, Option.{option_map, option_or}}
use Rattle.slots.specs.{Slots.{DeviceSlots, Issue, KeepsFree, Slots, has_bit, issue_at, mask_of, match_some, own_issue, slots_of}, Table.IsTable}
use Rattle.slots.proofs.Door.{has_bit_mask, mask_fits}
use Rattle.guest_fetch.specs.{Commands.Fetched, Fetch.Fetching, declared.fetch.Supplied.Supplied}
use Rattle.guest_fetch.specs.declared.fetch.Supplied.TheVariants as supplied
use Rattle.hba_commands.specs.declared.command.Command.{Command}
use Rattle.hba_fbs.specs.{Bits.without, Greeting.Hangs, Issuing.{commands_with, is_busy, issue_with, issued_slots, issues_with, view_with}}
use Rattle.hba_fbs.specs.{declared.registers.Registers.Registers, Offering.{AcceptsBy, Offer, asked_by, commands_by}, Placing.Places}
use Rattle.hba_fbs.specs.{Resets.{link_reset, whole_reset}, Views.{DeviceView, HaveCommands, IsCorePort, Port, last_command, opening_port, view_of}}
use Rattle.hba_fbs.specs.declared.error.WriteError.{WriteError}
use Rattle.hba_fbs.specs.declared.register.Register as port_register
use Rattle.hba_fbs.specs.declared.register.Register.TheVariants as on_port
use Rattle.ahci_controller.specs.Fetching.{AnswersTo, GoesOn, Misses, MissesIf, SuppliesIf, answered, fits, is_asked, without_fetch}
use Rattle.ahci_controller.specs.{Issuing.{IssuesSlot, PlacesSlot, RefusesSlot, device_of, not_issued, offered_command}, Offers.offer_in}
use Rattle.ahci_controller.specs.{Offers.offers_nothing, Rules.{AreCounted, AreParts, IsCarried, IsOffered, IsRuled, IsUnread}}
use Rattle.ahci_controller.specs.{States.ControllerState, declared.{issuing.{NotTaken.NotTaken, Supply.Supply}, wants.{Carried.Carried, Wants.Wants}}}
use Rattle.ahci_controller.proofs.rules.BitLemmas as bits
use Rattle.ahci_controller.proofs.rules.FreeLemmas.{free_at}
use Rattle.ahci_controller.proofs.rules.PartLemmas as parts

-- what is ruled stays ruled as nothing changes
pub same_ruled : (old new : ControllerState) → new ≡ old → IsRuled old → IsRuled new
same_ruled old new same was = subst IsRuled (sym same) was

-- ---- supplies

-- the commands of the core with one more, in one slot
offered_in : (slot : ℕ) (f : Fetched) (k : Command) (old : List (Option Command)) (commands : List (Option Fetched)) → slot < length commands → k ≡ record { work = f.head.work; cfis = f.head.cfis; table = 0; count = 0 }
    → ((s : ℕ) → IsOffered (last_command old s) (get_or commands s None))
    → (s : ℕ) → IsOffered (last_command (commands_with (λ n. if has_bit (2 ^ slot) n then Some k else None) old) s) (get_or (set commands slot (Some f)) s None)
unfolding commands_with
offered_in slot f k old commands below is was s = elim (cases_lt s (length old)) [
  | inr past ↦ subst (λ (o : Option Command). IsOffered o (get_or (set commands slot (Some f)) s None)) (sym (get_or_past (map change (range_with_len 0 (length old))) s None (let long = length-map-range_with_len change 0 (length old) in omega (arith, long, past)))) tt
  | inl lt ↦ subst (λ (o : Option Command). IsOffered o (get_or (set commands slot (Some f)) s None)) (sym (changed lt)) (elim (cases_eq s slot) [
    | inl same ↦
        subst (λ (o : Option Command). IsOffered o (get_or (set commands slot (Some f)) s None)) (sym (ap (λ (b : Bool). option_or (if b then Some k else None) (last_command old s)) (ap (has_bit (2 ^ slot)) same ∙ bits.pow_same slot)))
        (subst (λ (o : Option Fetched). IsOffered (Some k) o) (sym (ap (λ (n : ℕ). get_or (set commands slot (Some f)) n None) same ∙ get_or-set_same commands slot (Some f) None below)) is)
    | inr ne ↦
        subst (λ (o : Option Command). IsOffered o (get_or (set commands slot (Some f)) s None)) (sym (ap (λ (b : Bool). option_or (if b then Some k else None) (last_command old s)) (bits.pow_other slot s ne)))
        (subst (λ (o : Option Fetched). IsOffered (last_command old s) o) (sym (get_or-set_other commands slot s (Some f) None ne)) (was s))
  ])
]
  where
    change : ℕ → Option Command
    change n = option_or (if has_bit (2 ^ slot) n then Some k else None) (last_command old n)

    changed : s < length old → last_command (map change (range_with_len 0 (length old))) s ≡ change s
    changed lt = get_or-map-range_with_len change 0 (length old) s s None lt (omega arith)

-- nothing else is issued
issued_other : (dev : ℕ) (commands : ℕ → Option Command) (own : DeviceSlots) (s : ℕ) → commands s ≡ None → own_issue own s ≡ None → own_issue (issued_slots dev commands own) s ≡ None
unfolding issues_with
issued_other dev commands own s none free = elim (cases_lt s (length own.issues)) [
  | inl lt ↦
      get_or-map-range_with_len change 0 (length own.issues) s s None lt (omega arith)
      ∙ ap (λ (o : Option Command). issue_with dev o (own_issue own s)) none ∙ free
  | inr ge ↦ get_or_past (map change (range_with_len 0 (length own.issues))) s None (let long = length-map-range_with_len change 0 (length own.issues) in omega (arith, long, ge))
]
  where
    change : ℕ → Option Issue
    change slot = issue_with dev (commands slot) (get_or own.issues slot None)

placed_free : (offer : Offer) (dev slot s : ℕ) (old new : Port) → IsTable new.slots → Places old offer dev (2 ^ slot) new → s ≢ slot → issue_at old.slots s ≡ None → issue_at new.slots s ≡ None
placed_free offer dev slot s old new ok h ne free = free_at old new s ok (λ n below own. elim (cases_eq n dev) [
  | inl same ↦
      let none : asked_by offer (2 ^ slot) s ≡ None = ap (λ (b : Bool). if b then offer.commands s else None) (bits.pow_other slot s ne) in
      ap (λ (k : ℕ). own_issue (view_of k new).slots s) same
      ∙ ap (λ (v : DeviceView). own_issue v.slots s) h.own ∙ issued_other dev (asked_by offer (2 ^ slot)) (view_of dev old).slots s none (ap (λ (k : ℕ). own_issue (view_of k old).slots s) (sym same) ∙ own)
  | inr other ↦ ap (λ (v : DeviceView). own_issue v.slots s) (h.others n other) ∙ own
]) free

refused : (slot : ℕ) (reason : NotTaken) (base new : ControllerState) (supply : Supply) → slot < 32 → IsUnread base.wants base.fetches slot → IsRuled base → RefusesSlot base slot reason supply new → IsRuled new
refused slot reason base new supply below unread was h =
    subst IsRuled (sym h.rest) (parts.refuses base.core base.wants base.fetches base.commands base.writes.payload base.own.starts was slot below unread)

placed : (slot : ℕ) (f : Fetched) (base new : ControllerState) (supply : Supply) → slot < 32 → IsUnread base.wants base.fetches slot → IsTable new.core.slots → IsRuled base → PlacesSlot base slot f supply new → IsRuled new
placed slot f base new supply below unread ok was h =
    let offer : Offer = offer_in (offered_command f) in
    let k : Command = record { work = f.head.work; cfis = f.head.cfis; table = 0; count = 0 } in
    let offered : (s : ℕ) → IsOffered (last_command new.core.commands s) (get_or (set base.commands slot (Some f)) s None) = λ s.
    subst (λ (l : List (Option Command)). IsOffered (last_command l s) (get_or (set base.commands slot (Some f)) s None)) (sym h.core.commands)
    (offered_in slot f k base.core.commands base.commands (rw was.long below) refl was.kept s) in
    subst IsRuled (sym h.rest)
    (parts.places base.core base.wants base.fetches base.commands base.writes.payload base.own.starts was new.core slot f below unread offered (λ s ne. placed_free offer (device_of f) slot s base.core new.core ok h.core ne)
    (λ e. sym (ap (λ (r : Registers). r.started) h.core.registers) ∙ e))

issues : (slot : ℕ) (f : Fetched) (o : Option NotTaken) (base new : ControllerState) (supply : Supply) → slot < 32 → IsUnread base.wants base.fetches slot → IsTable new.core.slots → IsRuled base
    → MatchOption o (PlacesSlot base slot f supply new) (λ reason. RefusesSlot base slot reason supply new) → IsRuled new
issues slot f None base new supply below unread ok was h = placed slot f base new supply below unread ok was h
issues slot f (Some reason) base new supply below unread ok was h = refused slot reason base new supply below unread was h

goes_on : (slot : ℕ) (came : Supplied) (base new : ControllerState) (supply : Supply) → slot < 32 → has_bit base.wants.pending slot ≡ true → IsUnread base.wants base.fetches slot → IsTable new.core.slots → IsRuled base
    → GoesOn base slot came supply new → IsRuled new
goes_on slot (supplied.More f) base new supply below here unread ok was h =
    subst IsRuled (sym h.0) (parts.fetches_on base.core base.wants base.fetches base.commands base.writes.payload base.own.starts was slot f here)
goes_on slot (supplied.OutOfMemory f) base new supply below here unread ok was h =
    subst IsRuled (sym h.0) (parts.fetches_on base.core base.wants base.fetches base.commands base.writes.payload base.own.starts was slot f here)
goes_on slot (supplied.Refused r) base new supply below here unread ok was h = refused slot _ base new supply below unread was h
goes_on slot (supplied.Whole f) base new supply below here unread ok was h = issues slot f (not_issued base.core slot f) base new supply below unread ok was h

-- what is wanted is of a slot that is pending
record IsAsked (c : ControllerState) (slot : ℕ) : Type 0 where
  below : slot < 32
  pending : has_bit c.wants.pending slot ≡ true

asked_is : (c : ControllerState) (slot number : ℕ) → IsRuled c → is_asked c.wants slot number ≡ true → IsAsked c slot
asked_is c slot number was h =
    let both = and_parts (nat_lt slot 32 && has_bit c.wants.out slot) _ h in
    let first = and_parts (nat_lt slot 32) (has_bit c.wants.out slot) both.0 in
    let below : slot < 32 = ltb-true slot 32 first.0 in
    record {
      below = below;
      pending = elim (cases_Bool (has_bit c.wants.pending slot)) [
        | inl here ↦ here
        | inr none ↦ absurd (false≢true (sym (was.unread slot below none).out ∙ first.1))
      ];
    }

-- its bytes came, or never will
taken_out : (c : ControllerState) (slot : ℕ) → IsRuled c → IsRuled (without_fetch (answered c slot) slot)
taken_out c slot was = parts.answers c.core c.wants c.fetches c.commands c.writes.payload c.own.starts was slot

unread_now : (c : ControllerState) (slot : ℕ) → slot < 32 → IsRuled c → IsUnread (answered c slot).wants (set c.fetches slot None) slot
unread_now c slot below was = record {
  fetch = parts.fetch_gone c.core c.wants c.fetches c.commands c.writes.payload c.own.starts was slot;
  out = bits.slot_taken c.wants.out slot below;
}

supplies_if : (fit : Bool) (slot number : ℕ) (bytes : List ℕ) (old new : ControllerState) (supply : Supply) → fits old slot number bytes ≡ fit → IsTable new.core.slots → IsRuled old → SuppliesIf fit old slot bytes supply new → IsRuled new
supplies_if false slot number bytes old new supply is ok was h = same_ruled old new h.0 was
supplies_if true slot number bytes old new supply is ok was h =
    let a : IsAsked old slot = asked_is old slot number was (and_parts (is_asked old.wants slot number) _ is).0 in
    goes_on slot h.came (without_fetch (answered old slot) slot) new supply a.below a.pending (unread_now old slot a.below was) ok (taken_out old slot was) h.goes

pub supply_rules : (slot number : ℕ) (bytes : List ℕ) (old new : ControllerState) (supply : Supply) → IsTable new.core.slots → IsRuled old → AnswersTo old slot number bytes supply new → IsRuled new
supply_rules slot number bytes old new supply ok was h = supplies_if (fits old slot number bytes) slot number bytes old new supply refl ok was h

misses_if : (out : Bool) (slot number : ℕ) (old new : ControllerState) (supply : Supply) → is_asked old.wants slot number ≡ out → IsRuled old → MissesIf out old slot supply new → IsRuled new
misses_if false slot number old new supply is was h = same_ruled old new h.0 was
misses_if true slot number old new supply is was h =
    let a : IsAsked old slot = asked_is old slot number was is in
    refused slot _ (without_fetch (answered old slot) slot) new supply a.below (unread_now old slot a.below was) (taken_out old slot was) h

pub no_memory_rules : (slot number : ℕ) (old new : ControllerState) (supply : Supply) → IsRuled old → Misses old slot number supply new → IsRuled new
no_memory_rules slot number old new supply was h = misses_if (is_asked old.wants slot number) slot number old new supply refl was h
