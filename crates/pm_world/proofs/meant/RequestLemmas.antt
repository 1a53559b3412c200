-- For `none_is_stale`. What the commands of the driver's orders ask of the control port, and what it answers to the
-- read of GSCR[32].
use Rattle.std.proofs.Common.{◌≡◌, ℕ, ◌+◌, ◌*◌, ◌<◌, ◌≤◌, ◌==◌, ◌&&◌, Bool, true, false, bit_and, List, Option, Some, None, refl, sym, ap, subst, ◌∙◌}
use Rattle.std.proofs.{Common.{inl, inr, arith}, lemmas.{Bool.{cases_eq, eq-eqb, eqb-true, false≢true}, Nat.pow_below, Option.same_Some}}
use Rattle.std.specs.{Prelude.{◌/◌, ◌%◌, ◌^◌, if◌then◌else◌}, Int.{bit_at, from_bool}}
use Rattle.fis_view.specs.{Built.{IsBuilt, cut, d2h_given, h2d_given}, Frames.Stamped, Seen.seen, Table.{C, Command, Control, Count, D2h, Device}}
use Rattle.fis_view.specs.{Table.{Features, H2d, Lba, field, places}, declared.{build.H2dFields.H2dFields, frame.Stamp.Stamp}}
use Rattle.hba_driver.specs.declared.order.Order.{Order, TheVariants.{ResetOn, ResetOff, CountPorts, SetMask, Enable, Open, Scan, Clear, Detect}}
use Rattle.hba_driver.specs.Orders.{changes, control_port, error_mask, error_ports, features_on, order_fields, port_count, reads, scontrol, serror}
use Rattle.hba_driver.specs.{Orders.{sstatus, writes}, Sights.answer_in, Slot31.IsLow}
use Rattle.slots.specs.Slots.{has_bit}
use Rattle.pm_control.specs.{Answers.{IsAnswer, answer_to_request, value_answer}, Requests.{address_in, request_in, request_under, value_in}}
use Rattle.pm_control.specs.declared.request.{Address.Address, Request.{Request, TheVariants.{Read, Write, Unknown, Reset, EndReset}}}
use Rattle.pm_registers.specs.{Bits.shares, Port.bit_x, RegisterMap.{RegisterMap, asks, summary}}
use Rattle.pm_registers.proofs.Door.{bits_where_fits}
use Rattle.pm_world.specs.Cleared.{clears_x}
use Rattle.pm_world.proofs.{control_port.SaidLemmas.{asks_end, asks_reset}, meant.PortLemmas.WritesChanges}

-- ## What is asked

-- the four bits that a FIS has for the port
abbrev low : ℕ → ℕ
low port = (port % 2 ^ 8 + 2 ^ 8 * 0) % 16

low_is : (port : ℕ) → port < 15 → low port ≡ port
low_is port below = omega (arith, below)

abbrev place : ℕ → ℕ → Address
place port register = record { port = port; register = register }

-- what an order asks for
abbrev pub asked : Order → Option Request
asked ResetOn = Some Reset
asked ResetOff = Some EndReset
asked CountPorts = Some (Read (place 15 2))
asked SetMask = Some (Write (place 15 33) changes)
asked Enable = Some (Write (place 15 96) 8)
asked (Open port) = Some (Write (place (low port) 2) 0)
asked Scan = Some (Read (place 15 32))
asked (Clear port) = Some (Write (place (low port) 1) changes)
asked (Detect port) = Some (Read (place (low port) 0))
asked order = None

-- a command, or a Control FIS
abbrev choose : (c command : ℕ) (r w e : Request) → Request
choose c command r w e = if c == 1 then (if command == 0xE4 then r else if command == 0xE8 then w else Unknown) else e

module _ (f : H2dFields) (bytes : List ℕ) (built : IsBuilt H2d (h2d_given f) bytes) (command : f.c ≡ true) where
  is_command : field H2d C bytes ≡ 1
  unfolding cut places
  is_command = built.fields C ∙ ap (λ (b : Bool). cut (places H2d C) (from_bool b)) command

  code_is : (code : ℕ) → f.command ≡ code → field H2d Command bytes ≡ cut (places H2d Command) code
  code_is code is = built.fields Command ∙ ap (cut (places H2d Command)) is

  address_is : address_in bytes ≡ place (cut (places H2d Device) f.device % 16) (cut (places H2d Features) f.features)
  address_is =
      ap (λ (d : ℕ). place (d % 16) (field H2d Features bytes)) (built.fields Device)
      ∙ ap (λ (r : ℕ). place (cut (places H2d Device) f.device % 16) r) (built.fields Features)

  value_is : value_in bytes ≡ cut (places H2d Count) f.count % 256 + 256 * (cut (places H2d Lba) f.lba % 0x1000000)
  value_is =
      ap (λ (k : ℕ). k % 256 + 256 * (field H2d Lba bytes % 0x1000000)) (built.fields Count)
      ∙ ap (λ (k : ℕ). cut (places H2d Count) f.count % 256 + 256 * (k % 0x1000000)) (built.fields Lba)

  abbrev by_code : ℕ → ℕ → Option Request
  by_code c code = Some (choose c code (Read (address_in bytes)) (Write (address_in bytes) (value_in bytes)) (if bit_and (field H2d Control bytes) 4 == 0 then EndReset else Reset))

  is_asked : (code : ℕ) → f.command ≡ code → request_in bytes ≡ by_code 1 (cut (places H2d Command) code)
  is_asked code is =
      ap request_under built.viewed
      ∙ (ap (λ (c : ℕ). by_code c (field H2d Command bytes)) is_command
      ∙ ap (λ (k : ℕ). by_code 1 k) (code_is code is))

  read_asked : f.command ≡ 0xE4 → request_in bytes ≡ Some (Read (place (cut (places H2d Device) f.device % 16) (cut (places H2d Features) f.features)))
  unfolding cut places
  read_asked is = is_asked 0xE4 is ∙ ap (λ (a : Address). Some (Read a)) address_is

  write_asked : f.command ≡ 0xE8
      → request_in bytes ≡ Some (Write (place (cut (places H2d Device) f.device % 16) (cut (places H2d Features) f.features)) (cut (places H2d Count) f.count % 256 + 256 * (cut (places H2d Lba) f.lba % 0x1000000)))
  unfolding cut places
  write_asked is =
      is_asked 0xE8 is ∙ (ap (λ (a : Address). Some (Write a (value_in bytes))) address_is
      ∙ ap (λ (v : ℕ). Some (Write (place (cut (places H2d Device) f.device % 16) (cut (places H2d Features) f.features)) v)) value_is)

module _ (fields : H2dFields) (bytes : List ℕ) (built : IsBuilt H2d (h2d_given fields) bytes) where
  as_built : (f : H2dFields) → Some f ≡ Some fields → IsBuilt H2d (h2d_given f) bytes
  as_built f are = subst (λ (g : H2dFields). IsBuilt H2d (h2d_given g) bytes) (sym (same_Some f fields are)) built

  -- the command of an order asks for that
  pub order_asks : (o : Order) → order_fields o ≡ Some fields → request_in bytes ≡ asked o
  unfolding order_fields cut places
  order_asks ResetOn are = asks_reset _ bytes (as_built _ are) refl refl
  order_asks ResetOff are = asks_end _ bytes (as_built _ are) refl refl
  order_asks CountPorts are = read_asked (reads control_port port_count) bytes (as_built _ are) refl refl
  order_asks SetMask are = write_asked (writes control_port error_mask changes) bytes (as_built _ are) refl refl
  order_asks Enable are = write_asked (writes control_port features_on 8) bytes (as_built _ are) refl refl
  order_asks (Open port) are = write_asked (writes port scontrol 0) bytes (as_built _ are) refl refl
  order_asks Scan are = read_asked (reads control_port error_ports) bytes (as_built _ are) refl refl
  order_asks (Clear port) are = write_asked (writes port serror changes) bytes (as_built _ are) refl refl
  order_asks (Detect port) are = read_asked (reads port sstatus) bytes (as_built _ are) refl refl
  order_asks other are = absurd (cc)

-- ## Which of them write PSCR[1] and PSCR[2]

-- PSCR[1] is only written to clear N and X, and PSCR[2] to open the port
pub order_changes : (o : Order) → WritesChanges (asked o)
order_changes SetMask = (λ e. absurd (omega (arith, e)), λ e. absurd (omega (arith, e)))
order_changes Enable = (λ e. absurd (omega (arith, e)), λ e. absurd (omega (arith, e)))
order_changes (Open port) = (λ e. absurd (omega (arith, e)), λ e. refl)
order_changes (Clear port) = (λ e. refl, λ e. absurd (omega (arith, e)))
order_changes other = tt

first_two : (a b c : Bool) → (a && b && c) ≡ true → (a ≡ true) × (b ≡ true)
first_two true true c h = (refl, refl)
first_two true false c h = absurd (false≢true h)
first_two false b c h = absurd (false≢true h)

-- the order that clears bit X of port n is the one that serves for it
pub clears_order : (n : ℕ) (o : Order) → IsLow o → clears_x n (asked o) ≡ true → o ≡ Clear n
clears_order n SetMask within h = absurd (false≢true (first_two (15 == n) false _ h).1)
clears_order n Enable within h = absurd (false≢true (first_two (15 == n) false _ h).1)
clears_order n (Open port) within h = absurd (false≢true (first_two (low port == n) false _ h).1)
clears_order n (Clear port) within h =
    ap (λ (k : ℕ). Clear k) (sym (low_is port within) ∙ eqb-true (low port) n (first_two (low port == n) true (shares changes bit_x) h).0)
clears_order n other within h = absurd (false≢true h)

all_three : (a b c : Bool) → a ≡ true → b ≡ true → c ≡ true → (a && b && c) ≡ true
all_three true true true h k l = refl
all_three false b c h k l = absurd (false≢true h)
all_three true false c h k l = absurd (false≢true k)
all_three true true false h k l = absurd (false≢true l)

pub order_clears : (n : ℕ) → n < 15 → clears_x n (asked (Clear n)) ≡ true
order_clears n below = all_three (low n == n) true (shares changes bit_x) (eq-eqb (low n) n (low_is n below)) refl refl

-- ## What GSCR[32] says

-- the answer names port n
abbrev pub names : ℕ → List ℕ → Bool
names n bytes = has_bit (answer_in (seen bytes)) n

-- the read of GSCR[32]
abbrev pub IsScan : Stamped → Type 0
IsScan f = request_in f.bytes ≡ Some (Read (place 15 32))

summary_small : (m : RegisterMap) → m.ports ≤ 15 → summary m < 2 ^ 15
summary_small m most =
    let fits : summary m < 2 ^ m.ports = bits_where_fits (asks m) m.ports in
    elim (cases_eq m.ports 15) [
      | inl same ↦ subst (λ (k : ℕ). summary m < 2 ^ k) same fits
      | inr other ↦
          let less : m.ports < 15 = omega (arith, most, other) in
          let more : 2 ^ m.ports < 2 ^ 15 = pow_below m.ports 15 less in
          omega (arith, fits, more)
    ]

spelled_back : (s : ℕ) → s < 2 ^ 15 → cut (places D2h Lba) (s / 256) % 2 ^ 24 * 256 + cut (places D2h Count) (s % 256) % 2 ^ 8 ≡ s
unfolding cut places
spelled_back s small = omega (arith, small)

answer_value : (s : ℕ) (bytes : List ℕ) → s < 2 ^ 15 → IsBuilt D2h (d2h_given (value_answer s)) bytes → answer_in (seen bytes) ≡ s
answer_value s bytes small built =
    ap answer_in built.viewed
    ∙ (ap (λ (k : ℕ). k % 2 ^ 24 * 256 + field D2h Count bytes % 2 ^ 8) (built.fields Lba)
    ∙ (ap (λ (k : ℕ). cut (places D2h Lba) (s / 256) % 2 ^ 24 * 256 + k % 2 ^ 8) (built.fields Count)
    ∙ spelled_back s small))

-- the answer to it names the ports of which it has the bit
pub scan_names : (n : ℕ) (m : RegisterMap) (mark : Bool) (stamp : Stamp) (g : Stamped) → m.ports ≤ 15 → IsAnswer (answer_to_request mark m (Some (Read (place 15 32)))) stamp (Some g) → names n g.bytes ≡ true → bit_at (summary m) n ≡ 1
scan_names n m mark stamp g most is named =
    sym (ap (λ (v : ℕ). bit_at v n) (answer_value (summary m) g.bytes (summary_small m most) is.0)) ∙ eqb-true (bit_at (answer_in (seen g.bytes)) n) 1 named
