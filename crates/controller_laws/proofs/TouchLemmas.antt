-- What each call leaves of what is read of the guest, and of what is to be written to it.
use Rattle.std.proofs.Common.{◌≡◌, ℕ, ◌&&◌, ◌||◌, Bool, true, false, not, replicate, refl, sym, ap, ◌∙◌, Option, Some, None, bit_or}
use Rattle.std.proofs.lemmas.{Bool.{false≢true}, Nat.Bits.{bit_at-zero}}
use Rattle.std.specs.Prelude.{◌==◌, MatchOption, if◌then◌else◌}
use Rattle.slots.specs.Slots.{has_bit}
use Rattle.ahci_registers.specs.Bits as line_bits
use Rattle.ahci_registers.specs.{Offsets.register_at, declared.{link.Effect.Effect, register.Register.Register}}
use Rattle.ahci_registers.specs.declared.link.Effect.TheVariants as effect
use Rattle.ahci_registers.specs.declared.register.Register.TheVariants as ahci
use Rattle.guest_fetch.specs.Fetch.{Fetching}
use Rattle.hba_fbs.specs.declared.{error.WriteError.WriteError, registers.Registers.Registers}
use Rattle.ahci_controller.specs.{Access.merged, Next.{Frames, FramesFor, GoesIf, Reads as ReadsSlot, RestsNow, StartsUp, Turns, TurnsIf, is_halted}}
use Rattle.ahci_controller.specs.{Next.{next_device, next_read, next_slot, next_write, writes_next, written}, Outbox.no_writes, Reading.shown}
use Rattle.ahci_controller.specs.{States.ControllerState, Wants.dropped, Wide.{WritesAt, WritesIf}, Writing.{Commands, Leaves, ResetsBy, Restarts}}
use Rattle.ahci_controller.specs.{Writing.{WritesGlobal, WritesRegister, fresh_slots, link_effect, link_moved, plain}, declared.next.Next.Next}
use Rattle.ahci_controller.specs.declared.{own.OwnRegisters.OwnRegisters, wants.Wants.Wants, writing.Written.Written}
use Rattle.ahci_controller.specs.Own as own_words
use Rattle.ahci_controller.proofs.Door.{or_left}

abbrev pub no_fetch : Option Fetching
no_fetch = None

-- nothing of it changes, but that slots become pending
pub record IsKept (old new : ControllerState) : Type 0 where
  pub fetches : new.fetches ≡ old.fetches
  pub commands : new.commands ≡ old.commands
  pub writes : new.writes ≡ old.writes
  pub pending : (s : ℕ) → has_bit old.wants.pending s ≡ true → has_bit new.wants.pending s ≡ true
  pub circle : new.circle ≡ old.circle

-- or all is dropped, as the port stops
pub record IsDropped (old new : ControllerState) : Type 0 where
  pub fetches : new.fetches ≡ replicate 32 no_fetch
  pub commands : new.commands ≡ old.commands
  pub writes : new.writes ≡ no_writes
  pub pending : (s : ℕ) → has_bit new.wants.pending s ≡ false
  pub stopped : new.core.registers.started ≡ false
  pub circle : new.circle ≡ old.circle

pub data Touches (old new : ControllerState) : Type 0 where
  Keeps : IsKept old new → Touches old new
  Drops : IsDropped old new → Touches old new

-- ---- writes of registers

kept_by : (old base new : ControllerState) → new ≡ base → base.fetches ≡ old.fetches → base.commands ≡ old.commands → base.writes ≡ old.writes → base.wants.pending ≡ old.wants.pending → base.circle ≡ old.circle → Touches old new
kept_by old base new is fetches commands writes pending circle = Keeps (record {
  fetches = ap (λ (c : ControllerState). c.fetches) is ∙ fetches;
  commands = ap (λ (c : ControllerState). c.commands) is ∙ commands;
  writes = ap (λ (c : ControllerState). c.writes) is ∙ writes;
  pending = λ s here. ap (λ (m : ℕ). has_bit m s) (ap (λ (c : ControllerState). c.wants.pending) is ∙ pending) ∙ here;
  circle = ap (λ (c : ControllerState). c.circle) is ∙ circle;
})

unmoved : (old new : ControllerState) → new ≡ old → Touches old new
unmoved old new is = kept_by old old new is refl refl refl refl refl

no_bit : (m : ℕ) → m ≡ 0 → (s : ℕ) → has_bit m s ≡ false
no_bit m none s = ap (λ (n : ℕ). has_bit n s) none ∙ ap (λ (n : ℕ). n == 1) (bit_at-zero s)

dropped_by : (old base new : ControllerState) → new ≡ base → base.fetches ≡ replicate 32 no_fetch → base.commands ≡ old.commands → base.writes ≡ no_writes → base.wants.pending ≡ 0 → base.circle ≡ old.circle → new.core.registers.started ≡ false → Touches old new
dropped_by old base new is fetches commands writes pending circle stopped = Drops (record {
  fetches = ap (λ (c : ControllerState). c.fetches) is ∙ fetches;
  commands = ap (λ (c : ControllerState). c.commands) is ∙ commands;
  writes = ap (λ (c : ControllerState). c.writes) is ∙ writes;
  pending = no_bit new.wants.pending (ap (λ (c : ControllerState). c.wants.pending) is ∙ pending);
  stopped = stopped;
  circle = ap (λ (c : ControllerState). c.circle) is ∙ circle;
})

global : (resets : Bool) (value : ℕ) (old new : ControllerState) → WritesGlobal resets old value new → Touches old new
global true value old new h = dropped_by old _ new h.rest refl refl refl refl refl (ap (λ (r : Registers). r.started) h.core.registers)
global false value old new h = kept_by old _ new h refl refl refl refl refl

linked : (e : Effect) (value : ℕ) (old new : ControllerState) → ResetsBy e (link_moved old value) new → Touches old new
linked effect.LinkReset value old new h = dropped_by old _ new h.rest refl refl refl refl refl (ap (λ (r : Registers). r.started) h.core.registers)
linked other value old new h = kept_by old _ new h refl refl refl refl refl

fall_stops : (was before own now : Bool) → (not now && (was || before && not own)) ≡ true → now ≡ false
fall_stops was before own true h = absurd (false≢true h)
fall_stops was before own false h = refl

from_base : (old base new : ControllerState) → base.fetches ≡ old.fetches → base.commands ≡ old.commands → base.writes ≡ old.writes → base.wants.pending ≡ old.wants.pending → base.circle ≡ old.circle → Touches base new → Touches old new
from_base old base new fetches commands writes pending circle (Keeps k) = Keeps (record {
  fetches = k.fetches ∙ fetches;
  commands = k.commands ∙ commands;
  writes = k.writes ∙ writes;
  pending = λ s here. k.pending s (ap (λ (m : ℕ). has_bit m s) pending ∙ here);
  circle = k.circle ∙ circle;
})
from_base old base new fetches commands writes pending circle (Drops d) = Drops (record {
  fetches = d.fetches;
  commands = d.commands ∙ commands;
  writes = d.writes;
  pending = d.pending;
  stopped = d.stopped;
  circle = d.circle ∙ circle;
})

started_as : (fall : Bool) (own : OwnRegisters) (old new : ControllerState) → own_words.falls old.own own old.core.registers new.core.registers ≡ fall → new.fetches ≡ (if fall then dropped old else old).fetches → new.commands ≡ (if fall then dropped old else old).commands
    → new.writes ≡ (if fall then dropped old else old).writes → new.wants ≡ (if fall then dropped old else old).wants → new.circle ≡ old.circle → Touches old new
started_as true own old new is fetches commands writes wants circle = Drops (record {
  fetches = fetches;
  commands = commands;
  writes = writes;
  pending = no_bit new.wants.pending (ap (λ (w : Wants). w.pending) wants);
  stopped = fall_stops old.core.registers.started old.own.starts own.starts new.core.registers.started is;
  circle = circle;
})
started_as false own old new is fetches commands writes wants circle = Keeps (record {
  fetches = fetches;
  commands = commands;
  writes = writes;
  pending = λ s here. ap (λ (w : Wants). has_bit w.pending s) wants ∙ here;
  circle = circle;
})

fallen : (fall : Bool) (c : ControllerState) → (if fall then dropped c else c).circle ≡ c.circle
fallen true c = refl
fallen false c = refl

starts : (idle : Bool) (own : OwnRegisters) (old new : ControllerState) (ignored : Option WriteError) → Restarts old idle own ignored new → Touches old new
starts idle own old new ignored h =
    started_as (own_words.falls old.own own old.core.registers new.core.registers) own old new refl (ap (λ (c : ControllerState). c.fetches) h.rest) (ap (λ (c : ControllerState). c.commands) h.rest)
    (ap (λ (c : ControllerState). c.writes) h.rest) (ap (λ (c : ControllerState). c.wants) h.rest)
    (ap (λ (c : ControllerState). c.circle) h.rest ∙ fallen (own_words.falls old.own own old.core.registers new.core.registers) old)

commands : (value : ℕ) (old new : ControllerState) (ignored : Option WriteError) → Commands old value ignored new → Touches old new
commands value old new ignored h =
    let rest = h.clears.rest in
    from_base old h.middle new (ap (λ (c : ControllerState). c.fetches) rest) (ap (λ (c : ControllerState). c.commands) rest) (ap (λ (c : ControllerState). c.writes) rest) (ap (λ (c : ControllerState). c.wants.pending) rest) (ap (λ (c : ControllerState). c.circle) rest) (starts _ _ h.middle new ignored h.starts)

asked : (running : Bool) (value : ℕ) (old new : ControllerState) → new ≡ (if running then record old { wants = record old.wants { pending = bit_or old.wants.pending (fresh_slots old value) } } else old) → Touches old new
asked false value old new h = unmoved old new h
asked true value old new h = Keeps (record {
  fetches = ap (λ (c : ControllerState). c.fetches) h;
  commands = ap (λ (c : ControllerState). c.commands) h;
  writes = ap (λ (c : ControllerState). c.writes) h;
  pending = λ s here. ap (λ (c : ControllerState). has_bit c.wants.pending s) h ∙ or_left old.wants.pending (fresh_slots old value) s here;
  circle = ap (λ (c : ControllerState). c.circle) h;
})

register : (r : Register) (value : ℕ) (old new : ControllerState) (result : Written) → Leaves r old value result new → Touches old new
register ahci.Ghc value old new result h = global (line_bits.has_bit value 0) value old new h.0
register ahci.Is value old new result h = kept_by old _ new h.0 refl refl refl refl refl
register ahci.PxClb value old new result h = kept_by old _ new h.0 refl refl refl refl refl
register ahci.PxClbu value old new result h = kept_by old _ new h.0 refl refl refl refl refl
register ahci.PxFb value old new result h = kept_by old _ new h.0 refl refl refl refl refl
register ahci.PxFbu value old new result h = kept_by old _ new h.0 refl refl refl refl refl
register ahci.PxIs value old new result h = kept_by old _ new h.0.rest refl refl refl refl refl
register ahci.PxIe value old new result h = kept_by old _ new h.0 refl refl refl refl refl
register ahci.PxCmd value old new result h = commands value old new result.ignored h.0
register ahci.PxSctl value old new result h = linked (link_effect old value) value old new h.0
register ahci.PxSerr value old new result h = kept_by old _ new h.0.rest refl refl refl refl refl
register ahci.PxSact value old new result h = kept_by old _ new h.0.rest refl refl refl refl refl
register ahci.PxCi value old new result h = asked old.own.starts value old new h.0
register ahci.PxSntf value old new result h = kept_by old _ new h.0.rest refl refl refl refl refl
register ahci.PxFbs value old new result h = kept_by old _ new h.0.rest refl refl refl refl refl
register other value old new result h = unmoved old new h.0

at_register : (o : Option Register) (value : Register → ℕ) (old new : ControllerState) (result : Written) (nothing : Type 0) → (nothing → new ≡ old) → MatchOption o nothing (λ r. WritesRegister r old (value r) result new) → Touches old new
at_register None value old new result nothing same h = unmoved old new (same h)
at_register (Some r) value old new result nothing same h = register r (value r) old new (plain result) h.leaves

pub part_touches : (empty : Bool) (offset value mask : ℕ) (old new : ControllerState) (result : Written) → WritesIf empty old offset value mask result new → Touches old new
part_touches true offset value mask old new result h = unmoved old new h.0
part_touches false offset value mask old new result h = at_register (register_at offset) (λ r. merged r (shown r old) value mask) old new result _ (λ n. n.0) h

pub write_touches : (offset value : ℕ) (old new : ControllerState) (result : Written) → WritesAt old offset value result new → Touches old new
write_touches offset value old new result h = at_register (register_at offset) (λ r. value) old new result _ (λ n. n.0) h

-- ---- what is next

-- all of it but the writes stays
pub record IsCalm (old new : ControllerState) : Type 0 where
  pub fetches : new.fetches ≡ old.fetches
  pub commands : new.commands ≡ old.commands
  pub writes : new.writes ≡ writes_next old

calm_by : (old base new : ControllerState) → new ≡ base → base.fetches ≡ old.fetches → base.commands ≡ old.commands → base.writes ≡ writes_next old → IsCalm old new
calm_by old base new is fetches commands writes = record {
  fetches = ap (λ (c : ControllerState). c.fetches) is ∙ fetches;
  commands = ap (λ (c : ControllerState). c.commands) is ∙ commands;
  writes = ap (λ (c : ControllerState). c.writes) is ∙ writes;
}

frames : (dev slot : Option ℕ) (alternates : Bool) (old new : ControllerState) (next : Next) → FramesFor dev slot alternates (written old) next new → IsCalm old new
frames None None alternates old new next h = calm_by old _ new h.0 refl refl refl
frames None (Some slot) alternates old new next h = calm_by old _ new h.rest refl refl refl
frames (Some dev) None alternates old new next h = calm_by old _ new h.rest refl refl refl
frames (Some dev) (Some slot) false old new next h = calm_by old _ new h.rest refl refl refl
frames (Some dev) (Some slot) true old new next h = calm_by old _ new h.rest refl refl refl

reads : (o : Option ℕ) (old new : ControllerState) (next : Next) → MatchOption o (Frames (written old) next new) (λ slot. ReadsSlot (written old) slot next new) → IsCalm old new
reads None old new next h = frames (next_device (written old)) (next_slot (written old)) old.circle.fed old new next h
reads (Some slot) old new next h = calm_by old _ new h.1 refl refl refl

-- the port starts: nothing is dropped
no_fall : (was starts now : Bool) → was ≡ false → (not now && (was || starts && not starts)) ≡ false
no_fall true starts now f = absurd (false≢true (sym f))
no_fall false true true f = refl
no_fall false true false f = refl
no_fall false false true f = refl
no_fall false false false f = refl

rests : (o : Option ℕ) (old middle new : ControllerState) (next : Next) → middle.fetches ≡ old.fetches → middle.commands ≡ old.commands → middle.writes ≡ writes_next old → MatchOption o (RestsNow middle next new) (λ slot. ReadsSlot middle slot next new) → IsCalm old new
rests None old middle new next fetches commands writes h = calm_by old _ new h.0 fetches commands writes
rests (Some slot) old middle new next fetches commands writes h = calm_by old _ new h.1 fetches commands writes

starts_up : (old new : ControllerState) (next : Next) → old.core.registers.started ≡ false → StartsUp (written old) next new → IsCalm old new
starts_up old new next stopped h =
    let none : own_words.falls old.own old.own old.core.registers h.middle.core.registers ≡ false = no_fall old.core.registers.started old.own.starts h.middle.core.registers.started stopped in
    rests (next_read h.middle) old h.middle new next
    (ap (λ (c : ControllerState). c.fetches) h.starts.rest ∙ ap (λ (fall : Bool). (if fall then dropped (written old) else written old).fetches) none)
    (ap (λ (c : ControllerState). c.commands) h.starts.rest ∙ ap (λ (fall : Bool). (if fall then dropped (written old) else written old).commands) none)
    (ap (λ (c : ControllerState). c.writes) h.starts.rest ∙ ap (λ (fall : Bool). (if fall then dropped (written old) else written old).writes) none) h.reads

goes : (started : Bool) (old new : ControllerState) (next : Next) → old.core.registers.started ≡ started → GoesIf started (written old) next new → IsCalm old new
goes true old new next is h = reads (next_read (written old)) old new next h
goes false old new next is h = starts_up old new next is h

turns_if : (halted : Bool) (old new : ControllerState) (next : Next) → TurnsIf halted (written old) next new → IsCalm old new
turns_if true old new next h = calm_by old _ new h.0 refl refl refl
turns_if false old new next h = goes old.core.registers.started old new next refl h

turns_by : (o : Option Next) (old new : ControllerState) (next : Next) → MatchOption o (TurnsIf (is_halted (written old)) (written old) next new) (λ write. (next ≡ write) × (new ≡ written old)) → IsCalm old new
turns_by None old new next h = turns_if (is_halted (written old)) old new next h
turns_by (Some write) old new next h = calm_by old _ new h.1 refl refl refl

pub written_calm : (old new : ControllerState) → new ≡ written old → IsCalm old new
written_calm old new h = calm_by old _ new h refl refl refl

pub turn_calm : (old new : ControllerState) (next : Next) → Turns old next new → IsCalm old new
turn_calm old new next h = turns_by (next_write old) old new next h
