-- A write of PxCI that is not refused.
use Rattle.std.proofs.{Common.{◌≡◌, ℕ, Bool, true, false, not, ◌&&◌, refl, sym, ap, Option, Some, None}, lemmas.Bool.{eq-eqb, eqb-true, false≢true}}
use Rattle.std.proofs.lemmas.Bool.{true≢false}
use Rattle.std.specs.{Prelude.{if◌then◌else◌, ◌==◌}, Option.option_or}
use Rattle.slots.specs.Slots.{DeviceSlots}
use Rattle.hba_fbs.specs.{declared.{error.WriteError.WriteError, register.Register.TheVariants.Ci}, Issuing.{any_slot, is_busy}, Offering.Offer}
use Rattle.hba_fbs.specs.Offering.{active_by, aimed_by, asked_by, commands_by, refusal_by, slots_refusal_by, view_by, view_issued_by}
use Rattle.hba_fbs.specs.{Registers.{own_refusal, own_refusal_by}, Views.{DeviceView, Port, view_of}}
use Rattle.hba_fbs.specs.declared.error.WriteError.TheVariants as refusal
use Rattle.hba_fbs.proofs.IssueLemmas.{commands_none, issued_none, nothing_asked}

not_one : (b : Bool) (e : WriteError) (o : Option WriteError) → (if b then Some e else o) ≡ None → b ≡ false
not_one true e o h = cc
not_one false e o h = refl

-- if nothing is refused, no slot is busy
free_when : (started test : Bool) (busy : Bool) (e : WriteError) (o : Option WriteError) → started ≡ true
    → option_or (if not started && test then Some refusal.Stopped else None) (if started then (if busy then Some e else o) else None) ≡ None → busy ≡ false
free_when true test busy e o run h = not_one busy e o h
free_when false test busy e o run h = absurd (false≢true run)

pub accepted_free : (port : Port) (offer : Offer) (value : ℕ) → port.registers.started ≡ true → refusal_by Ci port offer value ≡ None → any_slot value (is_busy port.slots) ≡ false
unfolding own_refusal own_refusal_by slots_refusal_by
accepted_free port offer value run h = free_when port.registers.started (not (value == 0)) (any_slot value (is_busy port.slots)) refusal.SlotBusy _ run h

-- while ST is 0 the value is 0
zero_when : (started zero : Bool) (o : Option WriteError) → started ≡ false → option_or (if not started && not zero then Some refusal.Stopped else None) o ≡ None → zero ≡ true
zero_when true zero o run h = absurd (true≢false run)
zero_when false true o run h = refl
zero_when false false o run h = cc

pub stopped_zero : (port : Port) (offer : Offer) (value : ℕ) → port.registers.started ≡ false → refusal_by Ci port offer value ≡ None → value ≡ 0
unfolding own_refusal own_refusal_by
stopped_zero port offer value run h = eqb-true value 0 (zero_when port.registers.started (value == 0) (slots_refusal_by Ci port offer value) run h)

-- the view of each device
pick : (b : Bool) (x y z : DeviceView) → (b ≡ true → z ≡ x) → (b ≡ false → z ≡ y) → z ≡ (if b then x else y)
pick true x y z one other = one refl
pick false x y z one other = other refl

-- a write of 0 issues nothing
pub idle_views : (port : Port) (offer : Offer) (value : ℕ) → value ≡ 0 → (n : ℕ) → view_of n port ≡ view_by Ci port offer value n
unfolding view_by
idle_views port offer value zero n =
    pick (n == aimed_by port.registers offer value) (view_issued_by port.registers offer value (view_of n port)) (view_of n port) (view_of n port)
    (λ same. ap (λ (own : DeviceSlots). let view : DeviceView = record (view_of n port) { slots = own } in view)
    (issued_none (aimed_by port.registers offer value) (asked_by offer value) (view_of n port).slots (λ slot. nothing_asked offer value slot zero)))
    (λ differs. refl)

pub idle_commands : (port : Port) (offer : Offer) (value : ℕ) → value ≡ 0 → port.commands ≡ commands_by Ci port offer value
unfolding commands_by
idle_commands port offer value zero = commands_none (asked_by offer value) port.commands (λ slot. nothing_asked offer value slot zero)

pub idle_active : (port : Port) (offer : Offer) (value : ℕ) → value ≡ 0 → port.active ≡ active_by Ci port offer value
unfolding active_by
idle_active port offer value zero = sym (ap (λ (b : Bool). if b then port.active else aimed_by port.registers offer value) (eq-eqb value 0 zero))
