-- What a write changes, and what it leaves.
use Rattle.std.proofs.Common.{◌≡◌, ◌≢◌, ◌⊎◌, ℕ, ◌%◌, ◌^◌, ◌<◌, ◌≤◌, Bool, true, false, ◌==◌, if◌then◌else◌, List, refl, sym, ap, ◌∙◌, subst, arith}
use Rattle.std.proofs.{Common.{inl, inr, Option, Some, None, is_some, bit_and, get_or-set_other, slice_index_or}, lemmas.Bool.{cases_eq, cases_lt}}
use Rattle.std.proofs.lemmas.{Bool.{ne_eqb, lt-ltb, le-ltb, Decides.nat_tests}, Nat.and_mask}
use Rattle.pm_registers.specs.{declared.port.PortRegisters.PortRegisters, Bits.without, Port.{opening_port, pscr, port_written, controlled, is_open}}
use Rattle.pm_registers.specs.{Port.{met, opened, det}, RegisterMap.{RegisterMap, port_at, gscr, summary, register_at, WriteRule, ReadOnly, Stores}}
use Rattle.pm_registers.specs.RegisterMap.{OnesClear, write_rule, after_rule, may_change, with_port, settled, control_written, written, after_write}

-- a value of 32 bits, through the mask of all
pub all_bits : (x : ℕ) → x < 2 ^ 32 → bit_and x 0xFFFFFFFF ≡ x
all_bits x fits = and_mask x 32 ∙ omega arith

-- ---- the control port

pub control_seen : (m : RegisterMap) (register value was before : ℕ) → value < 2 ^ 32 → gscr m register ≡ Some was
    → gscr (settled before (control_written m register value)) register ≡ Some (after_rule (write_rule 15 register) was value)
control_seen m register value was before fits is =
    elim (cases_eq register 33) [
      | inl e ↦
          let P : ℕ → Type 0 = λ r. gscr (settled before (control_written m r value)) r ≡ Some (after_rule (write_rule 15 r) was value) in
          subst P (sym e) (ap (λ (x : ℕ). Some x) (sym (all_bits value fits)))
      | inr no_mask ↦ elim (cases_eq register 96) [
        | inl e ↦
            let P : ℕ → Type 0 = λ r. gscr (settled before (control_written m r value)) r ≡ Some (after_rule (write_rule 15 r) was value) in
            subst P (sym e) refl
        | inr no_enable ↦ rw (ne_eqb register 33 no_mask, ne_eqb register 96 no_enable) (rw (ne_eqb register 33 no_mask, ne_eqb register 96 no_enable) at is)
      ]
    ]

pub gscr_same : (m other : RegisterMap) (r : ℕ) → m.ports ≡ other.ports → (r ≡ 33 → m.mask ≡ other.mask) → (r ≡ 96 → m.enabled ≡ other.enabled) → r ≢ 32 → gscr m r ≡ gscr other r
gscr_same m other r ports mask enabled no_summary =
    elim (cases_eq r 33) [
      | inl e ↦ let P : ℕ → Type 0 = λ k. gscr m k ≡ gscr other k in subst P (sym e) (ap (λ (x : ℕ). Some x) (mask e))
      | inr no_mask ↦ elim (cases_eq r 96) [
        | inl e ↦ let P : ℕ → Type 0 = λ k. gscr m k ≡ gscr other k in subst P (sym e) (ap (λ (x : ℕ). Some x) (enabled e))
        | inr no_enable ↦ rw (ne_eqb r 32 no_summary, ne_eqb r 33 no_mask, ne_eqb r 96 no_enable, ports) refl
      ]
    ]

pub control_others : (m : RegisterMap) (register value before r : ℕ) → r ≢ 32 → r ≢ register → gscr (settled before (control_written m register value)) r ≡ gscr m r
control_others m register value before r no_summary other =
    elim (cases_eq register 33) [
      | inl e ↦
          let P : ℕ → Type 0 = λ k. gscr (settled before (control_written m k value)) r ≡ gscr m r in
          subst P (sym e) (gscr_same (settled before (control_written m 33 value)) m r refl (λ h. absurd (other (h ∙ sym e))) (λ h. refl) no_summary)
      | inr no_mask ↦ elim (cases_eq register 96) [
        | inl e ↦
            let P : ℕ → Type 0 = λ k. gscr (settled before (control_written m k value)) r ≡ gscr m r in
            subst P (sym e) (gscr_same (settled before (control_written m 96 value)) m r refl (λ h. refl) (λ h. absurd (other (h ∙ sym e))) no_summary)
        | inr no_enable ↦ rw (ne_eqb register 33 no_mask, ne_eqb register 96 no_enable) refl
      ]
    ]

-- ---- a device port

-- a choice has what both values have
pub either : {A : Type 0} (P : A → Type 0) (b : Bool) (x y : A) → P x → P y → P (if b then x else y)
either P true x y h k = h
either P false x y h k = k

-- what SControl holds after a write, whatever the write does besides
pub control_of_controlled : (p : PortRegisters) (value : ℕ) → (controlled p value).control ≡ value
control_of_controlled p value =
    let next : PortRegisters = record p { control = value } in
    let P : PortRegisters → Type 0 = λ q. q.control ≡ value in
    either P (value % 16 == 0) (if is_open p then next else opened next) (record next { status = (if det value == 4 then 4 else 0) })
    (either P (is_open p) next (opened next) refl (either P p.present (met next) (record next { status = 0 }) refl refl)) refl

pub port_seen : (p : PortRegisters) (register value was : ℕ) → value < 2 ^ 32 → pscr p register ≡ Some was
    → pscr (port_written p register value) register
    ≡ Some (after_rule (if register == 1 then OnesClear else if register == 2 then Stores 0xFFFFFFFF else ReadOnly) was value)
port_seen p register value was fits is =
    elim (cases_eq register 1) [
      | inl e ↦
          let h : Some p.error ≡ Some was = subst (λ (r : ℕ). pscr p r ≡ Some was) e is in
          let P : ℕ → Type 0 = λ r. pscr (port_written p r value) r ≡ Some (after_rule (if r == 1 then OnesClear else if r == 2 then Stores 0xFFFFFFFF else ReadOnly) was value) in
          let same : p.error ≡ was = cc in
          subst P (sym e) (ap (λ (x : ℕ). Some (without x value)) same)
      | inr no_error ↦ elim (cases_eq register 2) [
        | inl e ↦
            let P : ℕ → Type 0 = λ r. pscr (port_written p r value) r ≡ Some (after_rule (if r == 1 then OnesClear else if r == 2 then Stores 0xFFFFFFFF else ReadOnly) was value) in
            subst P (sym e) (ap (λ (x : ℕ). Some x) (control_of_controlled p value ∙ sym (all_bits value fits)))
        | inr no_control ↦ rw (ne_eqb register 1 no_error, ne_eqb register 2 no_control) (rw (ne_eqb register 1 no_error, ne_eqb register 2 no_control) at is)
      ]
    ]

pub port_others : (p : PortRegisters) (register value r : ℕ) → r ≢ register → (register ≡ 2 → 2 ≤ r) → pscr (port_written p register value) r ≡ pscr p r
port_others p register value r other beyond =
    elim (cases_eq register 1) [
      | inl e ↦
          let no_error : r ≢ 1 = λ h. other (h ∙ sym e) in
          let P : ℕ → Type 0 = λ k. pscr (port_written p k value) r ≡ pscr p r in
          subst P (sym e) (rw (ne_eqb r 1 no_error) refl)
      | inr no_error ↦ elim (cases_eq register 2) [
        | inl e ↦
            let above : 2 ≤ r = beyond e in
            let no_zero : r ≢ 0 = λ h. absurd (omega arith) in
            let no_one : r ≢ 1 = λ h. absurd (omega arith) in
            let no_two : r ≢ 2 = λ h. other (h ∙ sym e) in
            rw (ne_eqb r 0 no_zero, ne_eqb r 1 no_one, ne_eqb r 2 no_two) refl
        | inr no_control ↦ rw (ne_eqb register 1 no_error, ne_eqb register 2 no_control) refl
      ]
    ]

-- ---- the whole map

pub register_of_device : (m : RegisterMap) (p r : ℕ) → p ≢ 15 → p < m.ports → register_at m p r ≡ pscr (port_at m p) r
register_of_device m p r device within = rw (ne_eqb p 15 device, lt-ltb p m.ports within) refl

pub register_of_none : (m : RegisterMap) (p r : ℕ) → p ≢ 15 → m.ports ≤ p → register_at m p r ≡ None
register_of_none m p r device beyond = rw (ne_eqb p 15 device, le-ltb p m.ports beyond) refl

pub written_device : (m : RegisterMap) (port register value : ℕ) → port ≢ 15 → written m port register value ≡ with_port m port (port_written (port_at m port) register value)
written_device m port register value device = rw (ne_eqb port 15 device) refl

-- what a write to the control port leaves
pub control_keeps : {A : Type 0} (f : RegisterMap → A) (m : RegisterMap) (register value : ℕ) → f (record m { mask = value }) ≡ f m → f (record m { enabled = bit_and value 8 }) ≡ f m → f (control_written m register value) ≡ f m
control_keeps {A} f m register value first second =
    let P : RegisterMap → Type 0 = λ x. f x ≡ f m in
    either P (register == 33) (record m { mask = value }) (if register == 96 then record m { enabled = bit_and value 8 } else m) first
    (either P (register == 96) (record m { enabled = bit_and value 8 }) m second refl)

pub written_keeps : {A : Type 0} (f : RegisterMap → A) (m : RegisterMap) (port register value : ℕ) → f (record m { mask = value }) ≡ f m → f (record m { enabled = bit_and value 8 }) ≡ f m
    → ((q : PortRegisters) → f (with_port m port q) ≡ f m) → f (written m port register value) ≡ f m
written_keeps {A} f m port register value first second third =
    let P : RegisterMap → Type 0 = λ x. f x ≡ f m in
    either P (port == 15) (control_written m register value) (with_port m port (port_written (port_at m port) register value))
    (control_keeps f m register value first second) (third (port_written (port_at m port) register value))

pub written_ports : (m : RegisterMap) (port register value : ℕ) → (written m port register value).ports ≡ m.ports
written_ports m port register value = written_keeps (λ x. x.ports) m port register value refl refl (λ q. refl)

pub written_due : (m : RegisterMap) (port register value : ℕ) → (written m port register value).due ≡ m.due
written_due m port register value = written_keeps (λ x. x.due) m port register value refl refl (λ q. refl)

pub control_bank : (m : RegisterMap) (register value : ℕ) → (control_written m register value).bank ≡ m.bank
control_bank m register value = control_keeps (λ x. x.bank) m register value refl refl

-- what a write leaves at its port is there to be read
abbrev pub IsThere : RegisterMap → ℕ → ℕ → ℕ → Type 0
IsThere m port register value =
    let q : PortRegisters = port_written (port_at m port) register value in
    port_at (with_port m port q) port ≡ q

some_is : (o : Option ℕ) (was : ℕ) → o ≡ Some was → is_some o ≡ true
some_is o was is = ap is_some is

device_seen : (m : RegisterMap) (port register value was : ℕ) → value < 2 ^ 32 → port ≢ 15 → IsThere m port register value → port < m.ports → register_at m port register ≡ Some was
    → register_at (settled (summary m) (written m port register value)) port register ≡ Some (after_rule (write_rule port register) was value)
device_seen m port register value was fits device there within is =
    let q : PortRegisters = port_written (port_at m port) register value in
    let x : RegisterMap = settled (summary m) (with_port m port q) in
    let h : pscr (port_at m port) register ≡ Some was = sym (register_of_device m port register device within) ∙ is in
    let rule : write_rule port register ≡ (if register == 1 then OnesClear else if register == 2 then Stores 0xFFFFFFFF else ReadOnly) = rw (ne_eqb port 15 device) refl in
    ap (λ (w : RegisterMap). register_at (settled (summary m) w) port register) (written_device m port register value device)
    ∙ register_of_device x port register device within
    ∙ ap (λ (k : PortRegisters). pscr k register) there
    ∙ port_seen (port_at m port) register value was fits h
    ∙ ap (λ (k : WriteRule). Some (after_rule k was value)) (sym rule)

pub write_seen : (m : RegisterMap) (port register value was : ℕ) → value < 2 ^ 32 → (port ≢ 15 → IsThere m port register value) → register_at m port register ≡ Some was
    → register_at (after_write m port register value) port register ≡ Some (after_rule (write_rule port register) was value)
write_seen m port register value was fits there is =
    rw (some_is _ was is) (
    elim (cases_eq port 15) [
      | inl e ↦
          let P : ℕ → Type 0 = λ k. register_at (settled (summary m) (written m k register value)) k register ≡ Some (after_rule (write_rule k register) was value) in
          let h : gscr m register ≡ Some was = subst (λ (k : ℕ). register_at m k register ≡ Some was) e is in
          subst P (sym e) (control_seen m register value was (summary m) fits h)
      | inr device ↦ elim (cases_lt port m.ports) [
        | inl within ↦ device_seen m port register value was fits device (there device) within is
        | inr beyond ↦ let none : None ≡ Some was = sym (register_of_none m port register device beyond) ∙ is in cc
      ]
    ])

-- what a register that a write does not change is
record Apart (port register p r : ℕ) : Type 0 where
  pub no_summary : p ≡ 15 → r ≢ 32
  pub other : p ≡ port → r ≢ register
  pub beyond : p ≡ port → port ≢ 15 → register ≡ 2 → 2 ≤ r

is_apart : (port register p r : ℕ) → may_change port register p r ≡ false → Apart port register p r
is_apart port register p r h = record {
  no_summary = λ e f. grind (arith, nat_tests);
  other = λ e f. grind (arith, nat_tests);
  beyond = λ e f g. grind (arith, nat_tests);
}

device_others : (m : RegisterMap) (port register value p r : ℕ) → p ≢ 15 → (port ≢ 15 → IsThere m port register value) → Apart port register p r
    → port_at (written m port register value) p ≡ port_at m p ⊎ pscr (port_at (written m port register value) p) r ≡ pscr (port_at m p) r
device_others m port register value p r device there apart =
    elim (cases_eq port 15) [
      | inl e ↦ inl (ap (λ (k : ℕ). port_at (written m k register value) p) e ∙ ap (λ (b : List PortRegisters). slice_index_or b p opening_port) (control_bank m register value))
      | inr own ↦
          let q : PortRegisters = port_written (port_at m port) register value in
          let w : written m port register value ≡ with_port m port q = written_device m port register value own in
          elim (cases_eq p port) [
            | inl e ↦ inr (ap (λ (x : RegisterMap). pscr (port_at x p) r) w ∙ ap (λ (k : ℕ). pscr (port_at (with_port m port q) k) r) e
                ∙ ap (λ (k : PortRegisters). pscr k r) (there own) ∙ port_others (port_at m port) register value r (apart.other e) (apart.beyond e own) ∙ ap (λ (k : ℕ). pscr (port_at m k) r) (sym e))
            | inr ne ↦ inl (ap (λ (x : RegisterMap). port_at x p) w ∙ get_or-set_other m.bank port p q opening_port ne)
          ]
    ]

written_others : (m : RegisterMap) (port register value p r : ℕ) → (port ≢ 15 → IsThere m port register value) → Apart port register p r
    → register_at (settled (summary m) (written m port register value)) p r ≡ register_at m p r
written_others m port register value p r there apart =
    let x : RegisterMap = settled (summary m) (written m port register value) in
    elim (cases_eq p 15) [
      | inl e ↦
          let P : ℕ → Type 0 = λ k. register_at x k r ≡ register_at m k r in
          let no_summary : r ≢ 32 = apart.no_summary e in
          subst P (sym e) (elim (cases_eq port 15) [
            | inl f ↦
                let Q : ℕ → Type 0 = λ k. gscr (settled (summary m) (written m k register value)) r ≡ gscr m r in
                subst Q (sym f) (control_others m register value (summary m) r no_summary (apart.other (e ∙ sym f)))
            | inr own ↦ ap (λ (w : RegisterMap). gscr (settled (summary m) w) r) (written_device m port register value own)
                ∙ gscr_same (settled (summary m) (with_port m port (port_written (port_at m port) register value))) m r refl (λ h. refl) (λ h. refl) no_summary
          ])
      | inr device ↦ elim (cases_lt p m.ports) [
        | inl within ↦
            let inside : p < x.ports = omega (arith, written_ports m port register value) in
            register_of_device x p r device inside ∙ elim (device_others m port register value p r device there apart) [
              | inl same ↦ ap (λ (k : PortRegisters). pscr k r) same
              | inr same ↦ same
            ] ∙ sym (register_of_device m p r device within)
        | inr beyond ↦
            let outside : x.ports ≤ p = omega (arith, written_ports m port register value) in
            register_of_none x p r device outside ∙ sym (register_of_none m p r device beyond)
      ]
    ]

pub write_others : (m : RegisterMap) (port register value p r : ℕ) → (port ≢ 15 → IsThere m port register value) → may_change port register p r ≡ false
    → register_at (after_write m port register value) p r ≡ register_at m p r
write_others m port register value p r there h =
    let P : RegisterMap → Type 0 = λ x. register_at x p r ≡ register_at m p r in
    either P (is_some (register_at m port register)) (settled (summary m) (written m port register value)) m
    (written_others m port register value p r there (is_apart port register p r h)) refl

pub is_there : (m : RegisterMap) (port register value : ℕ) (p q : PortRegisters) (next : RegisterMap) → p ≡ port_at m port → q ≡ port_written p register value → next ≡ with_port m port q → port_at next port ≡ q
    → IsThere m port register value
is_there m port register value p q next is written_is next_is there =
    let e : q ≡ port_written (port_at m port) register value = written_is ∙ ap (λ (k : PortRegisters). port_written k register value) is in
    subst (λ (k : PortRegisters). port_at (with_port m port k) port ≡ k) e (ap (λ (x : RegisterMap). port_at x port) (sym next_is) ∙ there)

pub write_ports : (m : RegisterMap) (port register value : ℕ) → (after_write m port register value).ports ≡ m.ports
write_ports m port register value =
    let P : RegisterMap → Type 0 = λ x. x.ports ≡ m.ports in
    either P (is_some (register_at m port register)) (settled (summary m) (written m port register value)) m (written_ports m port register value) refl
