-- Each call leaves a port that shows its device truly, and knows at which ports a device is present.
use Rattle.std.proofs.Common.{◌≡◌, ℕ, zero, suc, ◌<◌, Bool, true, false, ◌==◌, if◌then◌else◌, List, [], ◌∷◌, length, slice_index_or, refl, sym, ap}
use Rattle.std.proofs.{Common.{◌∙◌, arith, inl, inr, get_or-set_other, get_or-set_same}, lemmas.{Bool.{cases_eq, ne_eqb, eq-eqb}, List.{length-set}}}
use Rattle.std.specs.Prelude.{slice_set, is_some}
use Rattle.pm_registers.specs.{declared.port.PortRegisters.PortRegisters, Port.{ShowsTruly, opening_port, controlled, det, inserted, is_open, met}}
use Rattle.pm_registers.specs.{Port.{opened, port_written, raised, removed}, RegisterMap.{RegisterMap, IsSound, port_at, with_port, settled, summary}}
use Rattle.pm_registers.specs.{RegisterMap.{control_written, written, after_write, register_at, control_port}, Calls.{Call, Writes, Inserts, Removes}}
use Rattle.pm_registers.specs.Calls.{Raises, Notices, Restores, called, device_after, KeepsSound}
use Rattle.pm_registers.proofs.RegisterLemmas.{either}

-- ---- one port

inserted_by : (p : PortRegisters) (b : Bool) → is_open p ≡ b → ShowsTruly p → ShowsTruly (let next : PortRegisters = record p { present = true } in (if b then met next else next))
inserted_by p true is h = λ e. (is, refl)
inserted_by p false is h = λ e. ((h e).0, refl)

pub shows_inserted : (p : PortRegisters) → ShowsTruly p → ShowsTruly (inserted p)
shows_inserted p h = inserted_by p (is_open p) refl h

removed_by : (p : PortRegisters) (b : Bool) (error : ℕ) → is_open p ≡ b → ShowsTruly p → ShowsTruly (let next : PortRegisters = record p { present = false } in (if b then record next { status = 0; error = error } else next))
removed_by p true error is h = λ e. absurd (omega (arith, e))
removed_by p false error is h = λ e. let opens : is_open p ≡ true = (h e).0 in absurd cc

pub shows_removed : (p : PortRegisters) → ShowsTruly p → ShowsTruly (removed p)
shows_removed p h = removed_by p (is_open p) _ refl h

pub shows_raised : (p : PortRegisters) (bits : ℕ) → ShowsTruly p → ShowsTruly (raised p bits)
shows_raised p bits h = h

opened_by : (next : PortRegisters) (b : Bool) → is_open next ≡ true → next.present ≡ b → ShowsTruly (if b then met next else record next { status = 0 })
opened_by next true opens is = λ e. (opens, is)
opened_by next false opens is = λ e. absurd (omega (arith, e))

closed_by : (next : PortRegisters) (b : Bool) → ShowsTruly (record next { status = (if b then 4 else 0) })
closed_by next true = λ e. absurd (omega (arith, e))
closed_by next false = λ e. absurd (omega (arith, e))

stays_by : (p next : PortRegisters) (b : Bool) → is_open next ≡ true → next.status ≡ p.status → next.present ≡ p.present → ShowsTruly p → ShowsTruly (if b then next else opened next)
stays_by p next true opens status present h = λ e. (opens, present ∙ (h (sym (ap det status) ∙ e)).1)
stays_by p next false opens status present h = opened_by next next.present opens refl

controlled_by : (p next : PortRegisters) (closed : Bool) (b : Bool) → is_open next ≡ b → next.status ≡ p.status → next.present ≡ p.present → ShowsTruly p
    → ShowsTruly (if b then (if is_open p then next else opened next) else record next { status = (if closed then 4 else 0) })
controlled_by p next closed true is status present h = stays_by p next (is_open p) is status present h
controlled_by p next closed false is status present h = closed_by next closed

pub shows_controlled : (p : PortRegisters) (value : ℕ) → ShowsTruly p → ShowsTruly (controlled p value)
shows_controlled p value h =
    let next : PortRegisters = record p { control = value } in
    controlled_by p next (det value == 4) (is_open next) refl refl refl h

pub shows_written : (p : PortRegisters) (register value : ℕ) → ShowsTruly p → ShowsTruly (port_written p register value)
shows_written p register value h =
    either ShowsTruly (register == 1) _ (if register == 2 then controlled p value else p) h
    (either ShowsTruly (register == 2) (controlled p value) p (shows_controlled p value h) h)

-- ---- the whole map

-- what is true of each port is true after a write to one of them
each_set : (P : PortRegisters → Type 0) (bank : List PortRegisters) (n : ℕ) (p d : PortRegisters) → P p → ((k : ℕ) → P (slice_index_or bank k d)) → (k : ℕ) → P (slice_index_or (slice_set bank n p) k d)
each_set P [] n p d is all k = all k
each_set P (q ∷ bank) zero p d is all zero = is
each_set P (q ∷ bank) zero p d is all (suc k) = all (suc k)
each_set P (q ∷ bank) (suc n) p d is all zero = all zero
each_set P (q ∷ bank) (suc n) p d is all (suc k) = each_set P bank n p d is (λ j. all (suc j)) k

pub sound_set : (m : RegisterMap) (n : ℕ) (p : PortRegisters) → IsSound m → ShowsTruly p → IsSound (with_port m n p)
sound_set m n p sound is = record {
  ports = sound.ports;
  bank = length-set m.bank n p ∙ sound.bank;
  shown = each_set ShowsTruly m.bank n p opening_port is sound.shown;
}

settled_sound : (m : RegisterMap) (before : ℕ) → IsSound m → IsSound (settled before m)
settled_sound m before sound = record { ports = sound.ports; bank = sound.bank; shown = sound.shown }

control_sound : (m : RegisterMap) (register value : ℕ) → IsSound m → IsSound (control_written m register value)
control_sound m register value sound =
    either IsSound (register == 33) (record m { mask = value }) _ (record { ports = sound.ports; bank = sound.bank; shown = sound.shown })
    (either IsSound (register == 96) _ m (record { ports = sound.ports; bank = sound.bank; shown = sound.shown }) sound)

written_sound : (m : RegisterMap) (port register value : ℕ) → IsSound m → IsSound (written m port register value)
written_sound m port register value sound =
    either IsSound (port == control_port) (control_written m register value) _ (control_sound m register value sound)
    (sound_set m port _ sound (shows_written (port_at m port) register value (sound.shown port)))

pub write_sound : (m : RegisterMap) (port register value : ℕ) → IsSound m → IsSound (after_write m port register value)
write_sound m port register value sound =
    either IsSound (is_some (register_at m port register)) (settled (summary m) (written m port register value)) m
    (settled_sound (written m port register value) (summary m) (written_sound m port register value sound)) sound

call_sound : (m : RegisterMap) (call : Call) → IsSound m → IsSound (called m call)
call_sound m (Writes port register value) sound = write_sound m port register value sound
call_sound m (Inserts n) sound = settled_sound (with_port m n (inserted (port_at m n))) (summary m) (sound_set m n _ sound (shows_inserted (port_at m n) (sound.shown n)))
call_sound m (Removes n) sound = settled_sound (with_port m n (removed (port_at m n))) (summary m) (sound_set m n _ sound (shows_removed (port_at m n) (sound.shown n)))
call_sound m (Raises n bits) sound = settled_sound (with_port m n (raised (port_at m n) bits)) (summary m) (sound_set m n _ sound (sound.shown n))
call_sound m Notices sound = record { ports = sound.ports; bank = sound.bank; shown = sound.shown }
call_sound m Restores sound = record { ports = sound.ports; bank = sound.bank; shown = sound.shown }

-- ---- which devices are present

present_set : (bank : List PortRegisters) (n : ℕ) (p d : PortRegisters) → p.present ≡ (slice_index_or bank n d).present → (k : ℕ) → (slice_index_or (slice_set bank n p) k d).present ≡ (slice_index_or bank k d).present
present_set [] n p d same k = refl
present_set (q ∷ bank) zero p d same zero = same
present_set (q ∷ bank) zero p d same (suc k) = refl
present_set (q ∷ bank) (suc n) p d same zero = refl
present_set (q ∷ bank) (suc n) p d same (suc k) = present_set bank n p d same k

-- a device that came or went
present_new : (m : RegisterMap) (n : ℕ) (p : PortRegisters) (now : Bool) → IsSound m → p.present ≡ now → (k : ℕ) → k < 15
    → (port_at (with_port m n p) k).present ≡ (if n == k then now else (port_at m k).present)
present_new m n p now sound is k small =
    elim (cases_eq k n) [
      | inl e ↦
          let room : n < length m.bank = (let r : length m.bank ≡ 15 = sound.bank in omega arith) in
          rw (e, eq-eqb n n refl) (ap (λ (q : PortRegisters). q.present) (get_or-set_same m.bank n p opening_port room) ∙ is)
      | inr ne ↦ rw (ne_eqb n k (λ h. ne (sym h))) (ap (λ (q : PortRegisters). q.present) (get_or-set_other m.bank n k p opening_port ne))
    ]

removed_present : (p : PortRegisters) → (removed p).present ≡ false
removed_present p = either (λ (q : PortRegisters). q.present ≡ false) (is_open p) _ _ refl refl

inserted_present : (p : PortRegisters) → (inserted p).present ≡ true
inserted_present p = either (λ (q : PortRegisters). q.present ≡ true) (is_open p) _ _ refl refl

abbrev SamePresent : PortRegisters → PortRegisters → Type 0
SamePresent p q = q.present ≡ p.present

controlled_present : (p : PortRegisters) (value : ℕ) → (controlled p value).present ≡ p.present
controlled_present p value =
    let next : PortRegisters = record p { control = value } in
    either (SamePresent p) (is_open next) (if is_open p then next else opened next) _
    (either (SamePresent p) (is_open p) next (opened next) refl (either (SamePresent p) p.present (met next) _ refl refl)) refl

written_present : (p : PortRegisters) (register value : ℕ) → (port_written p register value).present ≡ p.present
written_present p register value =
    either (SamePresent p) (register == 1) _ (if register == 2 then controlled p value else p) refl
    (either (SamePresent p) (register == 2) (controlled p value) p (controlled_present p value) refl)

-- no write changes it
pub write_devices : (m : RegisterMap) (port register value n : ℕ) → (port_at (after_write m port register value) n).present ≡ (port_at m n).present
write_devices m port register value n =
    let P : RegisterMap → Type 0 = λ x. (port_at x n).present ≡ (port_at m n).present in
    either P (is_some (register_at m port register)) (settled (summary m) (written m port register value)) m
    (either P (port == control_port) (control_written m register value) _
    (either P (register == 33) _ (if register == 96 then _ else m) refl (either P (register == 96) _ m refl refl))
    (present_set m.bank port _ opening_port (written_present (port_at m port) register value) n)) refl

call_devices : (m : RegisterMap) (call : Call) → IsSound m → (n : ℕ) → n < 15 → (port_at (called m call) n).present ≡ device_after call n (port_at m n).present
call_devices m (Writes port register value) sound n small = write_devices m port register value n
call_devices m (Inserts k) sound n small = present_new m k (inserted (port_at m k)) true sound (inserted_present (port_at m k)) n small
call_devices m (Removes k) sound n small = present_new m k (removed (port_at m k)) false sound (removed_present (port_at m k)) n small
call_devices m (Raises k bits) sound n small = present_set m.bank k _ opening_port refl n
call_devices m Notices sound n small = refl
call_devices m Restores sound n small = refl

pub keeps_sound : (m : RegisterMap) (call : Call) → KeepsSound m call
keeps_sound m call sound = (call_sound m call sound, call_devices m call sound)
