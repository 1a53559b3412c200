-- For `none_is_stale`. What the registers of a port hold in a world. An error that is not 0 has bit X whenever the port
-- is open to a device, because N and X are set together and cleared together.
use Rattle.std.proofs.Common.{◌≡◌, ◌≢◌, ℕ, zero, suc, ◌<◌, ◌≤◌, ◌==◌, Bool, true, false, List, [], ◌∷◌, Option, Some, None, get_or, set, refl, sym}
use Rattle.std.proofs.{Common.{ap, subst, ◌∙◌, bit_and, bit_or, arith}, lemmas.{Bool.{eqb-true, true≢false, ne_eqb}, Nat.Bits.bit_at-zero}}
use Rattle.std.specs.{Prelude.{if◌then◌else◌, is_some, replicate, unwrap_or, nat_lt}, Int.bit_at}
use Rattle.pm_registers.specs.{Bits.without, Calls.{HasBit, value_at}, declared.port.PortRegisters.PortRegisters, Port.{bit_n, bit_x, controlled}}
use Rattle.pm_registers.specs.{Port.{det, inserted, is_open, met, opened, opening_port, port_written, pscr, removed}, RegisterMap.RegisterMap}
use Rattle.pm_registers.specs.RegisterMap.{after_write, control_written, register_at, settled, summary, with_port as with_registers, written}
use Rattle.pm_registers.specs.RegisterMap as map
use Rattle.pm_registers.proofs.Door.{either, summary_agrees}
use Rattle.pm_control.specs.{Answers.registers_after_request, declared.request.Request.{Request, TheVariants.Write}}
use Rattle.hba_driver.specs.Orders.{changes}
use Rattle.pm_world.proofs.cleared.Cleared.{HasX, Told}

-- ## One port

-- its error is 0, or N and X; or N alone, while no device is there that could pass anything
pub data Fits (p : PortRegisters) : Type 0 where
  Blank : p.error ≡ 0 → Fits p
  Changed : p.error ≡ changes → Fits p
  Left : p.error ≡ bit_n → (is_open p ≡ true → p.present ≡ true → ⊥) → Fits p

-- so where it is not 0, it has X while the port is open to a device
pub fits_told : (p : PortRegisters) → Fits p → p.error ≢ 0 → Told p
fits_told p (Blank is) other = absurd (other is)
fits_told p (Changed is) other = λ opens there. subst HasX (sym is) refl
fits_told p (Left is none) other = λ opens there. absurd (none opens there)

-- if the error stays, and a device is there that could pass something only if one was
fits_same : (p q : PortRegisters) → q.error ≡ p.error → (is_open q ≡ true → q.present ≡ true → (is_open p ≡ true) × (p.present ≡ true)) → Fits p → Fits q
fits_same p q same was (Blank is) = Blank (same ∙ is)
fits_same p q same was (Changed is) = Changed (same ∙ is)
fits_same p q same was (Left is none) = Left (same ∙ is) (λ opens there. let w = was opens there in none w.0 w.1)

-- N and X are set
met_error : (p q : PortRegisters) → q.error ≡ p.error → Fits p → Fits (met q)
met_error p q same (Blank is) = Changed (ap (λ (e : ℕ). bit_or (bit_or e bit_n) bit_x) (same ∙ is))
met_error p q same (Changed is) = Changed (ap (λ (e : ℕ). bit_or (bit_or e bit_n) bit_x) (same ∙ is))
met_error p q same (Left is none) = Changed (ap (λ (e : ℕ). bit_or (bit_or e bit_n) bit_x) (same ∙ is))

wrong : {P : Type 0} (b : Bool) → b ≡ true → b ≡ false → P
wrong b set unset = absurd (true≢false (sym set ∙ unset))

pub inserted_fits : (p : PortRegisters) → Fits p → Fits (inserted p)
inserted_fits p fits = by_test (is_open p) refl
  where
    by_test : (b : Bool) → is_open p ≡ b → Fits (let next : PortRegisters = record p { present = true } in (if b then met next else next))
    by_test true so = met_error p (record p { present = true }) refl fits
    by_test false so = fits_same p (record p { present = true }) refl (λ opens there. wrong (is_open p) opens so) fits

pub removed_fits : (p : PortRegisters) → Fits p → Fits (removed p)
removed_fits p fits = by_test (is_open p)
  where
    by_error : Fits p → Fits (record p { present = false; status = 0; error = bit_or p.error bit_n })
    by_error (Blank is) = Left (ap (λ (e : ℕ). bit_or e bit_n) is) (λ opens there. absurd (true≢false (sym there)))
    by_error (Changed is) = Changed (ap (λ (e : ℕ). bit_or e bit_n) is)
    by_error (Left is none) = Left (ap (λ (e : ℕ). bit_or e bit_n) is) (λ opens there. absurd (true≢false (sym there)))

    by_test : (b : Bool) → Fits (let next : PortRegisters = record p { present = false } in (if b then record next { status = 0; error = bit_or p.error bit_n } else next))
    by_test true = by_error fits
    by_test false = fits_same p (record p { present = false }) refl (λ opens there. absurd (true≢false (sym there))) fits

opened_fits : (p q : PortRegisters) → q.error ≡ p.error → q.present ≡ p.present → Fits p → Fits (opened q)
opened_fits p q error present fits = by_test q.present refl
  where
    by_test : (b : Bool) → q.present ≡ b → Fits (if b then met q else record q { status = 0 })
    by_test true so = met_error p q error fits
    by_test false so = fits_same p (record q { status = 0 }) error (λ opens there. wrong q.present there so) fits

controlled_fits : (p : PortRegisters) (value : ℕ) → Fits p → Fits (controlled p value)
controlled_fits p value fits = by_next (record p { control = value }) (is_open (record p { control = value })) refl refl refl
  where
    by_was : (next : PortRegisters) (b : Bool) → is_open p ≡ b → next.present ≡ p.present → next.error ≡ p.error → Fits (if b then next else opened next)
    by_was next true so there same = fits_same p next same (λ opens is. (so, sym there ∙ is)) fits
    by_was next false so there same = opened_fits p next same there fits

    by_next : (next : PortRegisters) (b : Bool) → is_open next ≡ b → next.present ≡ p.present → next.error ≡ p.error
        → Fits (if b then (if is_open p then next else opened next) else record next { status = (if det value == 4 then 4 else 0) })
    by_next next true so there same = by_was next (is_open p) refl there same
    by_next next false so there same = fits_same p (record next { status = (if det value == 4 then 4 else 0) }) same (λ opens is. wrong (is_open next) opens so) fits

cleared_fits : (p : PortRegisters) → Fits p → Fits (record p { error = without p.error changes })
cleared_fits p (Blank is) = Blank (ap (λ (e : ℕ). without e changes) is)
cleared_fits p (Changed is) = Blank (ap (λ (e : ℕ). without e changes) is)
cleared_fits p (Left is none) = Blank (ap (λ (e : ℕ). without e changes) is)

written_fits : (p : PortRegisters) (register value : ℕ) → (register ≡ 1 → value ≡ changes) → Fits p → Fits (port_written p register value)
written_fits p register value both fits = by_test (register == 1) refl
  where
    by_test : (b : Bool) → (register == 1) ≡ b → Fits (if b then record p { error = without p.error value } else if register == 2 then controlled p value else p)
    by_test true so = subst (λ (v : ℕ). Fits (record p { error = without p.error v })) (sym (both (eqb-true register 1 so))) (cleared_fits p fits)
    by_test false so = either Fits (register == 2) (controlled p value) p (controlled_fits p value fits) fits

-- ## All ports

-- the multiplier has at most 15 ports, and each fits
pub record AreFit (m : RegisterMap) : Type 0 where
  pub most : m.ports ≤ 15
  pub fits : (n : ℕ) → Fits (map.port_at m n)

-- what is true of a port is true of it after a write to a port
set_keeps : (bank : List PortRegisters) (k : ℕ) (q : PortRegisters) (n : ℕ) → Fits q → Fits (get_or bank n opening_port) → Fits (get_or (set bank k q) n opening_port)
set_keeps [] k q n here is = is
set_keeps (p ∷ bank) zero q zero here is = here
set_keeps (p ∷ bank) zero q (suc n) here is = is
set_keeps (p ∷ bank) (suc k) q zero here is = is
set_keeps (p ∷ bank) (suc k) q (suc n) here is = set_keeps bank k q n here is

pub fit_set : (m new : RegisterMap) (k : ℕ) (q : PortRegisters) → new.ports ≡ m.ports → new.bank ≡ set m.bank k q → Fits q → AreFit m → AreFit new
fit_set m new k q ports bank here fit = record {
  most = subst (λ (c : ℕ). c ≤ 15) (sym ports) fit.most;
  fits = λ n. subst (λ (l : List PortRegisters). Fits (get_or l n opening_port)) (sym bank) (set_keeps m.bank k q n here (fit.fits n));
}

pub fit_same : (m new : RegisterMap) → new.ports ≡ m.ports → new.bank ≡ m.bank → AreFit m → AreFit new
fit_same m new ports bank fit = record {
  most = subst (λ (c : ℕ). c ≤ 15) (sym ports) fit.most;
  fits = λ n. subst (λ (l : List PortRegisters). Fits (get_or l n opening_port)) (sym bank) (fit.fits n);
}

-- a write to PSCR[1] is of N and X, which it clears; a write to PSCR[2] is of 0, which opens the port
abbrev pub WritesChanges : Option Request → Type 0
WritesChanges (Some (Write at value)) = (at.register ≡ 1 → value ≡ changes) × (at.register ≡ 2 → value ≡ 0)
WritesChanges request = Prim.Unit {0}

write_fit : (m : RegisterMap) (port register value : ℕ) → (register ≡ 1 → value ≡ changes) → AreFit m → AreFit (after_write m port register value)
write_fit m port register value both fit =
    either AreFit (is_some (register_at m port register)) (settled (summary m) (written m port register value)) m
    (fit_same (written m port register value) (settled (summary m) (written m port register value)) refl refl
    (either AreFit (port == 15) (control_written m register value) (with_registers m port (port_written (map.port_at m port) register value))
    (either AreFit (register == 33) (record m { mask = value }) (if register == 96 then record m { enabled = bit_and value 8 } else m)
    (fit_same m (record m { mask = value }) refl refl fit)
    (either AreFit (register == 96) (record m { enabled = bit_and value 8 }) m (fit_same m (record m { enabled = bit_and value 8 }) refl refl fit) fit))
    (fit_set m (with_registers m port (port_written (map.port_at m port) register value)) port (port_written (map.port_at m port) register value) refl refl
    (written_fits (map.port_at m port) register value both (fit.fits port)) fit))) fit

pub request_fit : (m : RegisterMap) (request : Option Request) → WritesChanges request → AreFit m → AreFit (registers_after_request m request)
request_fit m (Some (Write at value)) plain fit = write_fit m at.port at.register value plain.0 fit
request_fit m other plain fit = fit

pub opening_fit : (ports : ℕ) → ports ≤ 15 → AreFit (map.opening ports)
opening_fit ports most = record { most = most; fits = all_blank 15 }
  where
    all_blank : (count n : ℕ) → Fits (get_or (replicate count opening_port) n opening_port)
    all_blank zero n = Blank refl
    all_blank (suc count) zero = Blank refl
    all_blank (suc count) (suc n) = all_blank count n

-- ## GSCR[32]

-- a register with a bit is not 0
bit_none : (m : RegisterMap) (n k : ℕ) → (map.port_at m n).error ≡ 0 → n ≢ 15 → HasBit m n 1 k → ⊥
bit_none m n k none other has =
    let zero_is : value_at m n 1 ≡ 0 =
    ap (λ (b : Bool). unwrap_or (if b then map.gscr m 1 else if nat_lt n m.ports then pscr (map.port_at m n) 1 else None) 0) (ne_eqb n 15 other)
    ∙ by_test (nat_lt n m.ports) in
    let set : bit_at (value_at m n 1) k ≡ 1 = has in
    let unset : bit_at (value_at m n 1) k ≡ 0 = ap (λ (x : ℕ). bit_at x k) zero_is ∙ bit_at-zero k in
    absurd (omega (arith, set, unset))
  where
    by_test : (b : Bool) → unwrap_or (if b then pscr (map.port_at m n) 1 else None) 0 ≡ 0
    by_test true = none
    by_test false = refl

-- it has the bit of a port only where the port waits for the host
pub summary_waits : (m : RegisterMap) (n : ℕ) → n < 15 → AreFit m → bit_at (summary m) n ≡ 1 → Told (map.port_at m n)
summary_waits m n below fit has =
    let agrees = (summary_agrees m fit.most n).0 has in
    let other : n ≢ 15 = λ same. absurd (omega (arith, below, same)) in
    fits_told (map.port_at m n) (fit.fits n) (λ none. bit_none m n agrees.1 none other agrees.2)
