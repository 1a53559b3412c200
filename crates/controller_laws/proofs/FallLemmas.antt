-- What becomes of a slot that is being read, or of one whose command is a bad one.
use Rattle.std.proofs.Common.{◌≡◌, ◌≢◌, ℕ, ◌<◌, ◌^◌, ◌&&◌, ◌||◌, Bool, true, false, not, List, length, get_or, refl, sym, ap, ◌∙◌, inl, inr, arith}
use Rattle.std.proofs.{Common.{Option, Some, None, bit_or}, lemmas.{List.{length-map, FromFn.{get_or-map-range_with_len}}, Bool.and_parts}}
use Rattle.std.proofs.lemmas.Bool.{cases_Bool, cases_eq, false≢true, ltb-true}
use Rattle.std.specs.Prelude.{◌⊎◌, MatchOption, is_some, nat_lt, if◌then◌else◌}
use Rattle.slots.specs.{Slots.{DeviceSlots, Issue, has_bit, issue_at, own_issue, owned_by, slots_of}, Table.IsTable}
use Rattle.ahci_registers.specs.Bits as line_bits
use Rattle.ahci_registers.specs.{Offsets.register_at, declared.{link.Effect.Effect, register.Register.Register}}
use Rattle.ahci_registers.specs.declared.link.Effect.TheVariants as effect
use Rattle.ahci_registers.specs.declared.register.Register.TheVariants as ahci
use Rattle.guest_fetch.specs.{Commands.Fetched, declared.fetch.Supplied.Supplied}
use Rattle.guest_fetch.specs.declared.fetch.Supplied.TheVariants as supplied
use Rattle.hba_fbs.specs.{Choosing.may_feed, Bits.without, Issuing.{issue_with, issued_slots, issues_with}, Offering.{Offer, asked_by}}
use Rattle.hba_fbs.specs.{Placing.Places, Views.{DeviceView, Port}, declared.{error.WriteError.WriteError, registers.Registers.Registers}}
use Rattle.hba_fbs.specs.declared.turn.Turn.{Turn, TheVariants.Feeds}
use Rattle.hba_commands.specs.declared.command.Command.{Command}
use Rattle.hba_fbs.proofs.Door.{own_at}
use Rattle.hba_fbs.specs.declared.register.Register as port_register
use Rattle.ahci_controller.specs.{Access.merged, Feeding.{GathersIf, Loses, LosesIf, LosesSlot, MissesIf as MissesDataIf, SendsIf, without_feeding}}
use Rattle.ahci_controller.specs.{Fetching.{GoesOn, MissesIf, SuppliesIf, answered, fits, is_asked, without_fetch}, Issuing.{PlacesSlot, RefusesSlot}}
use Rattle.ahci_controller.specs.{Issuing.{device_of, not_issued, offered_command}, Next.{FeedsTo, Frames, FramesFor, GoesIf, OrdersSlot}}
use Rattle.ahci_controller.specs.Next.{Reads as ReadsSlot, RestsNow, StartsUp, TurnsIf, is_halted, next_device, next_read, next_slot, turn_to}
use Rattle.ahci_controller.specs.{Next.written, Offers.offer_in, Own.commanded, Reading.shown, States.ControllerState, Taking.Hears}
use Rattle.ahci_controller.specs.{declared.taking.Took.Took, Wants.dropped, Wide.{WritesAt, WritesFitting, WritesIf}, Writing.{Commands, Leaves}}
use Rattle.ahci_controller.specs.Writing.{ResetsBy, StartsPort, Tells, WritesGlobal, WritesRegister, asked_state, fresh_slots, idle_for, link_effect}
use Rattle.ahci_controller.specs.{Writing.{link_moved, plain}, declared.{access.Width.Width, feeding.Fed.Fed, issuing.NotTaken.NotTaken}}
use Rattle.ahci_controller.specs.declared.{issuing.Supply.Supply, latch.Latch.Latch, next.Next.Next, own.OwnRegisters.OwnRegisters, wants.Wants.Wants}
use Rattle.ahci_controller.specs.declared.{wide.WideWritten.WideWritten, writing.Written.Written}
use Rattle.ahci_controller.specs.Own as own_words
use Rattle.ahci_controller.proofs.Door.{or_left, or_right, pow_same, other_stays}
use Rattle.controller_laws.specs.Ends.{StopsWide}

-- a slot is pending, or a bad one
pub data Stands (s : ℕ) (c : ControllerState) : Type 0 where
  Reads : has_bit c.wants.pending s ≡ true → Stands s c
  Fails : has_bit c.own.bad s ≡ true → Stands s c

-- it is so still, or the port is stopped
pub data Keeps (s : ℕ) (c : ControllerState) : Type 0 where
  Still : Stands s c → Keeps s c
  Stopped : c.core.registers.started ≡ false → Keeps s c

stands_same : (s : ℕ) (old new : ControllerState) → new.wants.pending ≡ old.wants.pending → new.own.bad ≡ old.own.bad → Stands s old → Stands s new
stands_same s old new pending bad (Reads h) = Reads (ap (λ (m : ℕ). has_bit m s) pending ∙ h)
stands_same s old new pending bad (Fails h) = Fails (ap (λ (m : ℕ). has_bit m s) bad ∙ h)

still : (s : ℕ) (old new : ControllerState) → new.wants.pending ≡ old.wants.pending → new.own.bad ≡ old.own.bad → Stands s old → Keeps s new
still s old new pending bad was = Still (stands_same s old new pending bad was)

unmoved : (s : ℕ) (old new : ControllerState) → new ≡ old → Stands s old → Keeps s new
unmoved s old new same was = still s old new (ap (λ (c : ControllerState). c.wants.pending) same) (ap (λ (c : ControllerState). c.own.bad) same) was

-- ---- writes

global : (resets : Bool) (value s : ℕ) (old new : ControllerState) → WritesGlobal resets old value new → Stands s old → Keeps s new
global true value s old new h was = Stopped (ap (λ (r : Registers). r.started) h.core.registers)
global false value s old new h was = still s old new (ap (λ (c : ControllerState). c.wants.pending) h) (ap (λ (c : ControllerState). c.own.bad) h) was

linked : (e : Effect) (s : ℕ) (old new : ControllerState) → ResetsBy e old new → Stands s old → Keeps s new
linked effect.LinkReset s old new h was = Stopped (ap (λ (r : Registers). r.started) h.core.registers)
linked other s old new h was = unmoved s old new h was

told : (register : port_register.Register) (value s : ℕ) (old new : ControllerState) (latch : Latch) (own : OwnRegisters) (ignored : Option WriteError) → own.bad ≡ old.own.bad → Tells old register value latch own ignored new → Stands s old → Keeps s new
told register value s old new latch own ignored bad h was = still s old new (ap (λ (c : ControllerState). c.wants.pending) h.rest) (ap (λ (c : ControllerState). c.own.bad) h.rest ∙ bad) was

fall_stops : (was before own now : Bool) → (not now && (was || before && not own)) ≡ true → now ≡ false
fall_stops was before own true h = absurd (false≢true h)
fall_stops was before own false h = refl

started : (fall : Bool) (own : OwnRegisters) (s : ℕ) (old new : ControllerState) → own_words.falls old.own own old.core.registers new.core.registers ≡ fall
    → new.wants ≡ (if fall then dropped old else old).wants → new.own.bad ≡ (if fall then 0 else own.bad) → own.bad ≡ old.own.bad → Stands s old → Keeps s new
started true own s old new is wants bad same was = Stopped (fall_stops old.core.registers.started old.own.starts own.starts new.core.registers.started is)
started false own s old new is wants bad same was = still s old new (ap (λ (w : Wants). w.pending) wants) (bad ∙ same) was

starts : (idle : Bool) (value s : ℕ) (old new : ControllerState) (ignored : Option WriteError) → StartsPort old idle value ignored new → Stands s old → Keeps s new
starts idle value s old new ignored h was =
    started (own_words.falls old.own (commanded old.own value) old.core.registers new.core.registers) (commanded old.own value) s old new refl (ap (λ (c : ControllerState). c.wants) h.rest) (ap (λ (c : ControllerState). c.own.bad) h.rest) refl was

commands : (value s : ℕ) (old new : ControllerState) (ignored : Option WriteError) → Commands old value ignored new → Stands s old → Keeps s new
commands value s old new ignored h was =
    starts (idle_for old value) value s h.middle new ignored h.starts (stands_same s old h.middle (ap (λ (c : ControllerState). c.wants.pending) h.clears.rest) (ap (λ (c : ControllerState). c.own.bad) h.clears.rest) was)

asked : (running : Bool) (value s : ℕ) (old : ControllerState) → Stands s old → Stands s (if running then record old { wants = record old.wants { pending = bit_or old.wants.pending (fresh_slots old value) } } else old)
asked true value s old (Reads h) = Reads (or_left old.wants.pending (fresh_slots old value) s h)
asked true value s old (Fails h) = Fails h
asked false value s old was = was

register : (r : Register) (value s : ℕ) (old new : ControllerState) (result : Written) → Leaves r old value result new → Stands s old → Keeps s new
register ahci.Ghc value s old new result h was = global (line_bits.has_bit value 0) value s old new h.0 was
register ahci.Is value s old new result h was = still s old new (ap (λ (c : ControllerState). c.wants.pending) h.0) (ap (λ (c : ControllerState). c.own.bad) h.0) was
register ahci.PxClb value s old new result h was = still s old new (ap (λ (c : ControllerState). c.wants.pending) h.0) (ap (λ (c : ControllerState). c.own.bad) h.0) was
register ahci.PxClbu value s old new result h was = still s old new (ap (λ (c : ControllerState). c.wants.pending) h.0) (ap (λ (c : ControllerState). c.own.bad) h.0) was
register ahci.PxFb value s old new result h was = still s old new (ap (λ (c : ControllerState). c.wants.pending) h.0) (ap (λ (c : ControllerState). c.own.bad) h.0) was
register ahci.PxFbu value s old new result h was = still s old new (ap (λ (c : ControllerState). c.wants.pending) h.0) (ap (λ (c : ControllerState). c.own.bad) h.0) was
register ahci.PxIs value s old new result h was = told _ _ s old new _ _ result.ignored refl h.0 was
register ahci.PxIe value s old new result h was = still s old new (ap (λ (c : ControllerState). c.wants.pending) h.0) (ap (λ (c : ControllerState). c.own.bad) h.0) was
register ahci.PxCmd value s old new result h was = commands value s old new result.ignored h.0 was
register ahci.PxSctl value s old new result h was = linked (link_effect old value) s (link_moved old value) new h.0 (stands_same s old (link_moved old value) refl refl was)
register ahci.PxSerr value s old new result h was = told _ _ s old new _ _ result.ignored refl h.0 was
register ahci.PxSact value s old new result h was = told _ _ s old new _ _ result.ignored refl h.0 was
register ahci.PxCi value s old new result h was = unmoved s (asked_state old value) new h.0 (asked old.own.starts value s old was)
register ahci.PxSntf value s old new result h was = told _ _ s old new _ _ result.ignored refl h.0 was
register ahci.PxFbs value s old new result h was = told _ _ s (record old { wants = record old.wants { feeding = 0 } }) new _ _ result.ignored refl h.0 (stands_same s old (record old { wants = record old.wants { feeding = 0 } }) refl refl was)
register other value s old new result h was = unmoved s old new h.0 was

at_register : (o : Option Register) (value : Register → ℕ) (s : ℕ) (old new : ControllerState) (result : Written) (nothing : Type 0) → (nothing → new ≡ old) → MatchOption o nothing (λ r. WritesRegister r old (value r) result new) → Stands s old → Keeps s new
at_register None value s old new result nothing same h was = unmoved s old new (same h) was
at_register (Some r) value s old new result nothing same h was = register r (value r) s old new (plain result) h.leaves was

part : (empty : Bool) (offset value mask s : ℕ) (old new : ControllerState) (result : Written) → WritesIf empty old offset value mask result new → Stands s old → Keeps s new
part true offset value mask s old new result h was = unmoved s old new h.0 was
part false offset value mask s old new result h was = at_register (register_at offset) (λ r. merged r (shown r old) value mask) s old new result _ (λ n. n.0) h was

pub write_falls : (offset value s : ℕ) (old new : ControllerState) (result : Written) → WritesAt old offset value result new → Stands s old → Keeps s new
write_falls offset value s old new result h was = at_register (register_at offset) (λ r. value) s old new result _ (λ n. n.0) h was

-- the port is stopped behind the lower dword, or behind both
pub wide_falls : (does_fit : Bool) (offset : ℕ) (width : Width) (value s : ℕ) (old new : ControllerState) (result : WideWritten) → (h : WritesFitting does_fit old offset width value result new) → Stands s old → Stands s new ⊎ StopsWide does_fit old offset width value result new h
wide_falls false offset width value s old new result h was = inl (stands_same s old new (ap (λ (c : ControllerState). c.wants.pending) h.0.0) (ap (λ (c : ControllerState). c.own.bad) h.0.0) was)
wide_falls true offset width value s old new result h was = by_low (part _ _ _ _ s old h.middle result.low h.low was)
  where
    by_high : Keeps s new → Stands s new ⊎ StopsWide true old offset width value result new h
    by_high (Still now) = inl now
    by_high (Stopped now) = inr (inr now)

    by_low : Keeps s h.middle → Stands s new ⊎ StopsWide true old offset width value result new h
    by_low (Still now) = by_high (part _ _ _ _ s h.middle new result.high h.high now)
    by_low (Stopped now) = inr (inl now)

-- ---- supplies

-- what is issued for a device's slot is there
placed_own : (dev slot : ℕ) (command : Command) (commands : ℕ → Option Command) (own : DeviceSlots) → commands slot ≡ Some command → slot < length own.issues → is_some (own_issue (issued_slots dev commands own) slot) ≡ true
unfolding issues_with
placed_own dev slot command commands own is below =
    ap is_some (get_or-map-range_with_len (λ n. issue_with dev (commands n) (get_or own.issues n None)) 0 (length own.issues) slot slot None below (omega arith))
    ∙ ap (λ (o : Option Command). is_some (issue_with dev o (own_issue own slot))) is

own_some : (dev : ℕ) (o : Option Issue) → is_some (owned_by dev o) ≡ true → is_some o ≡ true
own_some dev None h = h
own_some dev (Some i) h = refl

is_placed : (old new : Port) (slot : ℕ) (f : Fetched) → slot < 32 → IsTable old.slots → IsTable new.slots → Places old (offer_in (offered_command f)) (device_of f) (2 ^ slot) new → is_some (issue_at new.slots slot) ≡ true
is_placed old new slot f below was ok h =
    let dev : ℕ = device_of f in
    let offer : Offer = offer_in (offered_command f) in
    let k : Command = record { work = f.head.work; cfis = f.head.cfis; table = 0; count = 0 } in
    let asked : asked_by offer (2 ^ slot) slot ≡ Some k = ap (λ (b : Bool). if b then Some k else None) (pow_same slot) in
    let long : slot < length (slots_of dev old.slots).issues = let a = length-map old.slots.issues (owned_by dev) in let b = was.slots in omega (arith, a, b, below) in
    let there : is_some (own_issue (slots_of dev new.slots) slot) ≡ true =
    ap (λ (v : DeviceView). is_some (own_issue v.slots slot)) h.own ∙ placed_own dev slot k (asked_by offer (2 ^ slot)) (slots_of dev old.slots) asked long in
    own_some dev (issue_at new.slots slot) (sym (ap is_some (own_at dev new.slots slot)) ∙ there)

stays_but : (x slot s : ℕ) → slot < 32 → s < 32 → s ≢ slot → has_bit x s ≡ true → has_bit (without x (2 ^ slot)) s ≡ true
stays_but x slot s below lt ne here = elim (cases_Bool (has_bit (without x (2 ^ slot)) s)) [
  | inl still ↦ still
  | inr gone ↦ absurd (false≢true (sym (other_stays x slot s below lt ne gone) ∙ here))
]

asked_below : (slot : ℕ) (out same : Bool) → (nat_lt slot 32 && out && same) ≡ true → slot < 32
asked_below slot out same h = ltb-true slot 32 (and_parts (nat_lt slot 32) out (and_parts (nat_lt slot 32 && out) same h).0).0

-- it is so still, or has its command now
pub data Goes (s : ℕ) (c : ControllerState) : Type 0 where
  Waits : Stands s c → Goes s c
  Placed : is_some (issue_at c.core.slots s) ≡ true → Goes s c

waits : (s : ℕ) (old new : ControllerState) → new.wants.pending ≡ old.wants.pending → new.own.bad ≡ old.own.bad → Stands s old → Goes s new
waits s old new pending bad was = Waits (stands_same s old new pending bad was)

refused : (slot s : ℕ) (reason : NotTaken) (base new : ControllerState) (supply : Supply) → slot < 32 → s < 32 → RefusesSlot base slot reason supply new → Stands s base → Goes s new
refused slot s reason base new supply below lt h (Fails here) = Waits (Fails (ap (λ (c : ControllerState). has_bit c.own.bad s) h.rest ∙ or_left base.own.bad (2 ^ slot) s here))
refused slot s reason base new supply below lt h (Reads here) = elim (cases_eq s slot) [
  | inl same ↦ Waits (Fails (ap (λ (c : ControllerState). has_bit c.own.bad s) h.rest ∙ or_right base.own.bad (2 ^ slot) s (ap (has_bit (2 ^ slot)) same ∙ pow_same slot)))
  | inr ne ↦ Waits (Reads (ap (λ (c : ControllerState). has_bit c.wants.pending s) h.rest ∙ stays_but base.wants.pending slot s below lt ne here))
]

placed : (slot s : ℕ) (f : Fetched) (base new : ControllerState) (supply : Supply) → slot < 32 → s < 32 → IsTable base.core.slots → IsTable new.core.slots → PlacesSlot base slot f supply new → Stands s base → Goes s new
placed slot s f base new supply below lt was_ok ok h (Fails here) = Waits (Fails (ap (λ (c : ControllerState). has_bit c.own.bad s) h.rest ∙ here))
placed slot s f base new supply below lt was_ok ok h (Reads here) = elim (cases_eq s slot) [
  | inl same ↦ Placed (ap (λ (k : ℕ). is_some (issue_at new.core.slots k)) same ∙ is_placed base.core new.core slot f below was_ok ok h.core)
  | inr ne ↦ Waits (Reads (ap (λ (c : ControllerState). has_bit c.wants.pending s) h.rest ∙ stays_but base.wants.pending slot s below lt ne here))
]

issues : (slot s : ℕ) (f : Fetched) (o : Option NotTaken) (base new : ControllerState) (supply : Supply) → slot < 32 → s < 32 → IsTable base.core.slots → IsTable new.core.slots → MatchOption o (PlacesSlot base slot f supply new) (λ reason. RefusesSlot base slot reason supply new) → Stands s base → Goes s new
issues slot s f None base new supply below lt was_ok ok h was = placed slot s f base new supply below lt was_ok ok h was
issues slot s f (Some reason) base new supply below lt was_ok ok h was = refused slot s reason base new supply below lt h was

goes_on : (slot s : ℕ) (came : Supplied) (base new : ControllerState) (supply : Supply) → slot < 32 → s < 32 → IsTable base.core.slots → IsTable new.core.slots → GoesOn base slot came supply new → Stands s base → Goes s new
goes_on slot s (supplied.Refused r) base new supply below lt was_ok ok h was = refused slot s _ base new supply below lt h was
goes_on slot s (supplied.Whole f) base new supply below lt was_ok ok h was = issues slot s f (not_issued base.core slot f) base new supply below lt was_ok ok h was
goes_on slot s other base new supply below lt was_ok ok h was = waits s base new (ap (λ (c : ControllerState). c.wants.pending) h.0) (ap (λ (c : ControllerState). c.own.bad) h.0) was

pub supply_goes : (fit : Bool) (slot number s : ℕ) (bytes : List ℕ) (old new : ControllerState) (supply : Supply) → fits old slot number bytes ≡ fit → s < 32 → IsTable old.core.slots → IsTable new.core.slots → SuppliesIf fit old slot bytes supply new → Stands s old → Goes s new
supply_goes false slot number s bytes old new supply is lt was_ok ok h was = waits s old new (ap (λ (c : ControllerState). c.wants.pending) h.0) (ap (λ (c : ControllerState). c.own.bad) h.0) was
supply_goes true slot number s bytes old new supply is lt was_ok ok h was =
    let below : slot < 32 = asked_below slot _ _ (and_parts (is_asked old.wants slot number) _ is).0 in
    goes_on slot s h.came (without_fetch (answered old slot) slot) new supply below lt was_ok ok h.goes (stands_same s old (without_fetch (answered old slot) slot) refl refl was)

pub miss_goes : (out : Bool) (slot number s : ℕ) (old new : ControllerState) (supply : Supply) → is_asked old.wants slot number ≡ out → s < 32 → MissesIf out old slot supply new → Stands s old → Goes s new
miss_goes false slot number s old new supply is lt h was = waits s old new (ap (λ (c : ControllerState). c.wants.pending) h.0) (ap (λ (c : ControllerState). c.own.bad) h.0) was
miss_goes true slot number s old new supply is lt h was =
    refused slot s _ (without_fetch (answered old slot) slot) new supply (asked_below slot _ _ is) lt h (stands_same s old (without_fetch (answered old slot) slot) refl refl was)

-- ---- all others

-- the slots that are pending and those that are bad are as they were, or more
ordered : (slot : ℕ) (s : ℕ) (base new : ControllerState) (next : Next) → OrdersSlot base slot next new → Stands s base → Stands s new
ordered slot s base new next h was = stands_same s base new (ap (λ (c : ControllerState). c.wants.pending) h.rest) (ap (λ (c : ControllerState). c.own.bad) h.rest) was

fed : (dev s : ℕ) (base new : ControllerState) (next : Next) → FeedsTo base dev next new → Stands s base → Stands s new
fed dev s base new next h was = stands_same s base new (ap (λ (c : ControllerState). c.wants.pending) h.rest) (ap (λ (c : ControllerState). c.own.bad) h.rest) was

same_stands : (s : ℕ) (old new : ControllerState) → new ≡ old → Stands s old → Stands s new
same_stands s old new same was = stands_same s old new (ap (λ (c : ControllerState). c.wants.pending) same) (ap (λ (c : ControllerState). c.own.bad) same) was

frames : (dev slot : Option ℕ) (alternates : Bool) (s : ℕ) (base new : ControllerState) (next : Next) → FramesFor dev slot alternates base next new → Stands s base → Stands s new
frames None None alternates s base new next h was = same_stands s base new h.0 was
frames None (Some slot) alternates s base new next h was = ordered slot s base new next h was
frames (Some dev) None alternates s base new next h was = fed dev s base new next h was
frames (Some dev) (Some slot) false s base new next h was = fed dev s base new next h was
frames (Some dev) (Some slot) true s base new next h was = ordered slot s base new next h was

reads : (o : Option ℕ) (s : ℕ) (base new : ControllerState) (next : Next) → MatchOption o (Frames base next new) (λ slot. ReadsSlot base slot next new) → Stands s base → Stands s new
reads None s base new next h was = frames (next_device base) (next_slot base) base.circle.fed s base new next h was
reads (Some slot) s base new next h was = stands_same s base new (ap (λ (c : ControllerState). c.wants.pending) h.1) (ap (λ (c : ControllerState). c.own.bad) h.1) was

-- the port starts
no_fall : (was starts now : Bool) → was ≡ false → (not now && (was || starts && not starts)) ≡ false
no_fall true starts now f = absurd (false≢true (sym f))
no_fall false true true f = refl
no_fall false true false f = refl
no_fall false false true f = refl
no_fall false false false f = refl

rests : (o : Option ℕ) (s : ℕ) (base new : ControllerState) (next : Next) → MatchOption o (RestsNow base next new) (λ slot. ReadsSlot base slot next new) → Stands s base → Stands s new
rests None s base new next h was = same_stands s base new h.0 was
rests (Some slot) s base new next h was = stands_same s base new (ap (λ (c : ControllerState). c.wants.pending) h.1) (ap (λ (c : ControllerState). c.own.bad) h.1) was

starts_up : (s : ℕ) (base new : ControllerState) (next : Next) → base.core.registers.started ≡ false → StartsUp base next new → Stands s base → Stands s new
starts_up s base new next stopped h was =
    let none : own_words.falls base.own base.own base.core.registers h.middle.core.registers ≡ false = no_fall base.core.registers.started base.own.starts h.middle.core.registers.started stopped in
    let pending : h.middle.wants.pending ≡ base.wants.pending =
    ap (λ (c : ControllerState). c.wants.pending) h.starts.rest ∙ ap (λ (fall : Bool). (if fall then dropped base else base).wants.pending) none in
    let bad : h.middle.own.bad ≡ base.own.bad =
    ap (λ (c : ControllerState). c.own.bad) h.starts.rest ∙ ap (λ (fall : Bool). if fall then 0 else base.own.bad) none in
    rests (next_read h.middle) s h.middle new next h.reads (stands_same s base h.middle pending bad was)

goes : (started : Bool) (s : ℕ) (base new : ControllerState) (next : Next) → base.core.registers.started ≡ started → GoesIf started base next new → Stands s base → Stands s new
goes true s base new next is h was = reads (next_read base) s base new next h was
goes false s base new next is h was = starts_up s base new next is h was

turns_if : (halted : Bool) (s : ℕ) (base new : ControllerState) (next : Next) → TurnsIf halted base next new → Stands s base → Stands s new
turns_if true s base new next h was = same_stands s base new h.0 was
turns_if false s base new next h was = goes base.core.registers.started s base new next refl h was

pub turn_stands : (o : Option Next) (s : ℕ) (old new : ControllerState) (next : Next) → MatchOption o (TurnsIf (is_halted (written old)) (written old) next new) (λ write. (next ≡ write) × (new ≡ written old)) → Stands s old → Stands s new
turn_stands None s old new next h was = turns_if (is_halted (written old)) s (written old) new next h (stands_same s old (written old) refl refl was)
turn_stands (Some write) s old new next h was = same_stands s (written old) new h.1 (stands_same s old (written old) refl refl was)

-- what is written to the guest is none of it
pub said_stands : (s : ℕ) (old new : ControllerState) → new ≡ written old → Stands s old → Stands s new
said_stands s old new same was = same_stands s (written old) new same (stands_same s old (written old) refl refl was)

sends : (due : Bool) (dev s : ℕ) (old new : ControllerState) (result : Fed) → SendsIf due old dev result new → Stands s old → Stands s new
sends false dev s old new result h was = same_stands s old new h.0 was
sends true dev s old new result h was = stands_same s old new (ap (λ (c : ControllerState). c.wants.pending) h.rest) (ap (λ (c : ControllerState). c.own.bad) h.rest) was

pub gather_stands : (out : Bool) (dev s : ℕ) (old new : ControllerState) (result : Fed) → GathersIf out old dev result new → Stands s old → Stands s new
gather_stands false dev s old new result h was = same_stands s old new h.0 was
gather_stands true dev s old new result h was = sends (may_feed old.core dev) dev s (without_feeding old dev) new result h (stands_same s old (without_feeding old dev) refl refl was)

lost : (s slot : ℕ) (old new : ControllerState) (result : Fed) → LosesSlot old slot result new → Stands s old → Stands s new
lost s slot old new result h (Reads here) = Reads (ap (λ (c : ControllerState). has_bit c.wants.pending s) h.rest ∙ here)
lost s slot old new result h (Fails here) = Fails (ap (λ (c : ControllerState). has_bit c.own.bad s) h.rest ∙ or_left old.own.bad (2 ^ slot) s here)

loses : (turn : Turn) (s : ℕ) (old new : ControllerState) (result : Fed) → Loses turn old result new → Stands s old → Stands s new
loses (Feeds dev slot offset len) s old new result h was = lost s slot old new result h was
loses other s old new result h was = same_stands s old new h.0 was

loses_if : (due : Bool) (dev s : ℕ) (old new : ControllerState) (result : Fed) → LosesIf due old dev result new → Stands s old → Stands s new
loses_if false dev s old new result h was = same_stands s old new h.0 was
loses_if true dev s old new result h was = loses (turn_to old dev) s old new result h was

pub not_there_stands : (out : Bool) (dev s : ℕ) (old new : ControllerState) (result : Fed) → MissesDataIf out old dev result new → Stands s old → Stands s new
not_there_stands false dev s old new result h was = same_stands s old new h.0 was
not_there_stands true dev s old new result h was = loses_if (may_feed old.core dev) dev s (without_feeding old dev) new result h (stands_same s old (without_feeding old dev) refl refl was)

pub take_stands : (frame : List ℕ) (s : ℕ) (old new : ControllerState) (took : Took) → Hears old frame took new → Stands s old → Stands s new
take_stands frame s old new took h was = stands_same s old new (ap (λ (c : ControllerState). c.wants.pending) h.rest) (ap (λ (c : ControllerState). c.own.bad) h.rest) was
