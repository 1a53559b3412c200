-- A frame of the host that ends the reset of a port has its device begin anew.
use Rattle.std.proofs.Common.{◌≡◌, ◌≢◌, ℕ, zero, suc, ◌<◌, ◌≤◌, ◌==◌, Bool, true, false, List, [], ◌∷◌, length, Option, Some, None, Result, Ok, Err}
use Rattle.std.proofs.{Common.{refl, sym, ap, ◌∙◌, subst, arith, inl, inr}, lemmas.{Bool.{and_from, cases_eq, lt-ltb}, List.{get_or-set_same}}}
use Rattle.std.proofs.lemmas.{List.{length-set}, Option.same_Some}
use Rattle.std.specs.{Prelude.{bit_or, if◌then◌else◌, nat_lt, is_some, slice_set, slice_index_or, MatchOption, ◌&&◌}, Bool.MatchBool}
use Rattle.fis_view.specs.Frames.{Stamped}
use Rattle.pm_control.specs.{Answers.registers_after_request, Requests.request_in, declared.request.Request.{Request, TheVariants.{Read, Write}}}
use Rattle.pm_control.specs.declared.request.Request.TheVariants.{Unknown, Reset, EndReset}
use Rattle.pm_ports.specs.Port as port
use Rattle.pm_ports.specs.declared.port.PortError.{PortError}
use Rattle.pm_registers.specs.Port.{bit_n, controlled as after_control, det, inserted, is_open, met, opening_port, port_written, removed}
use Rattle.pm_registers.specs.declared.port.PortRegisters.{PortRegisters}
use Rattle.pm_registers.specs.RegisterMap as map
use Rattle.multiplier.specs.{Arbiter.control_port, Rules.{FromHostRule, ToControl, ToDevice, ToNobody, with_device, without_device}, State.PmState}
use Rattle.multiplier.specs.{State.{largest, passes_to, pm_port, port_at}, declared.multiplier.{Passed.Passed, PmRefusal.PmRefusal}}
use Rattle.multiplier.specs.Passing as pass
use Rattle.multiplier.specs.declared.multiplier.Passed.TheVariants as passed
use Rattle.multiplier.proofs.Door.{this_port, up_to}
use Rattle.fan_out.specs.{Calls.{EndsConnection, ResetEndsConnection}, Fans.{FanState, IsFan, SendsFan, controlled, controlled_by, heeded}}
use Rattle.fan_out.specs.{Fans.{held_in_reset, is_in_reset, joined, on, only_in_reset, parted, rejoined, seat_at}, Seats.{empty_seat, left}}
use Rattle.fan_out.specs.{Seats.{next_connection, seated}, declared.seat.Seat.Seat}
use Rattle.fan_out.proofs.FanLemmas.{lets_again, present_is, through}

abbrev Bank : Type 0
Bank = List PortRegisters

abbrev control_at : Bank → ℕ → ℕ
control_at bank n = (slice_index_or bank n opening_port).control

-- ---- what leaves SControl of a port

kept_control : (bank : Bank) (m : ℕ) (p : PortRegisters) → p.control ≡ control_at bank m → (n : ℕ) → control_at (slice_set bank m p) n ≡ control_at bank n
kept_control [] m p h n = refl
kept_control (q ∷ bank) zero p h zero = h
kept_control (q ∷ bank) zero p h (suc n) = refl
kept_control (q ∷ bank) (suc m) p h zero = refl
kept_control (q ∷ bank) (suc m) p h (suc n) = kept_control bank m p h n

other_control : (bank : Bank) (m : ℕ) (p : PortRegisters) (n : ℕ) → n ≢ m → control_at (slice_set bank m p) n ≡ control_at bank n
other_control [] m p n h = refl
other_control (q ∷ bank) zero p zero h = absurd (h refl)
other_control (q ∷ bank) zero p (suc n) h = refl
other_control (q ∷ bank) (suc m) p zero h = refl
other_control (q ∷ bank) (suc m) p (suc n) h = other_control bank m p n (λ e. h (ap suc e))

insert_keeps : (p : PortRegisters) → (inserted p).control ≡ p.control
insert_keeps p = by_open (is_open p)
  where
    by_open : (b : Bool) → (if b then met (record p { present = true }) else record p { present = true }).control ≡ p.control
    by_open true = refl
    by_open false = refl

remove_keeps : (p : PortRegisters) → (removed p).control ≡ p.control
remove_keeps p = by_open (is_open p)
  where
    by_open : (b : Bool) → (if b then record (record p { present = false }) { status = 0; error = bit_or p.error bit_n } else record p { present = false }).control ≡ p.control
    by_open true = refl
    by_open false = refl

came_keeps : (m : PmState) (k conn n : ℕ) → is_in_reset (with_device m k conn) n ≡ is_in_reset m n
came_keeps m k conn n = ap (λ (c : ℕ). det c == 1) (kept_control m.registers.bank k (inserted (map.port_at m.registers k)) (insert_keeps (map.port_at m.registers k)) n)

gone_keeps : (m : PmState) (k conn n : ℕ) → is_in_reset (without_device m k conn) n ≡ is_in_reset m n
gone_keeps m k conn n = ap (λ (c : ℕ). det c == 1) (kept_control m.registers.bank k (removed (map.port_at m.registers k)) (remove_keeps (map.port_at m.registers k)) n)

join_keeps : (f : FanState) (k conn n : ℕ) → is_in_reset (joined f k conn).multiplier n ≡ is_in_reset f.multiplier n
join_keeps f k conn n = by_refusal (is_some (port.came_refusal (port_at f.multiplier k) conn))
  where
    by_refusal : (b : Bool) → is_in_reset (if b then f else record { multiplier = with_device f.multiplier k conn; legacy = f.legacy; seats = slice_set f.seats k (seated conn) }).multiplier n ≡ is_in_reset f.multiplier n
    by_refusal true = refl
    by_refusal false = came_keeps f.multiplier k conn n

rejoin_keeps : (f : FanState) (k n : ℕ) → is_in_reset (rejoined f k).multiplier n ≡ is_in_reset f.multiplier n
rejoin_keeps f k n = by_test ((seat_at f k).is_there && nat_lt (seat_at f k).last largest)
  where
    by_test : (b : Bool) → is_in_reset (if b then joined (parted f k) k (next_connection (seat_at f k)) else f).multiplier n ≡ is_in_reset f.multiplier n
    by_test true = join_keeps (parted f k) k (next_connection (seat_at f k)) n ∙ gone_keeps f.multiplier k (seat_at f k).last n
    by_test false = refl

heed_keeps : (f : FanState) (k n : ℕ) → is_in_reset (heeded f k).multiplier n ≡ is_in_reset f.multiplier n
heed_keeps f k n = by_test (is_in_reset f.multiplier k)
  where
    by_test : (b : Bool) → is_in_reset (if b then f else rejoined f k).multiplier n ≡ is_in_reset f.multiplier n
    by_test true = refl
    by_test false = rejoin_keeps f k n

-- ---- what a frame of the host writes

written_control : (p : PortRegisters) (register value : ℕ) → (register == 2) ≡ false → (port_written p register value).control ≡ p.control
written_control p register value other = by_one (register == 1)
  where
    by_one : (b : Bool) → (if b then record p { error = (port_written p 1 value).error } else if register == 2 then after_control p value else p).control ≡ p.control
    by_one true = refl
    by_one false = ap (λ (b : Bool). (if b then after_control p value else p).control) other

-- SControl of a port stays where the write is of another register
write_keeps : (m : map.RegisterMap) (k register value n : ℕ) → (if register == 2 then Some k else None) ≢ Some n → control_at (map.written m k register value).bank n ≡ control_at m.bank n
write_keeps m k register value n other = by_port (k == control_port)
  where
    by_first : (a b : Bool) → (if a then record m { mask = value } else if b then record m { enabled = (map.control_written m 96 value).enabled } else m).bank ≡ m.bank
    by_first true b = refl
    by_first false true = refl
    by_first false false = refl

    by_register : (b : Bool) → (register == 2) ≡ b → (if b then Some k else None) ≢ Some n → control_at (slice_set m.bank k (port_written (map.port_at m k) register value)) n ≡ control_at m.bank n
    by_register true is h = other_control m.bank k (port_written (map.port_at m k) register value) n (λ same. h (ap Some (sym same)))
    by_register false is h = kept_control m.bank k (port_written (map.port_at m k) register value) (written_control (map.port_at m k) register value is) n

    by_port : (b : Bool) → control_at (if b then map.control_written m register value else map.with_port m k (port_written (map.port_at m k) register value)).bank n ≡ control_at m.bank n
    by_port true = ap (λ (bank : Bank). control_at bank n) (by_first (register == 33) (register == 96))
    by_port false = by_register (register == 2) refl other

request_keeps : (m : map.RegisterMap) (request : Option Request) (n : ℕ) → controlled_by request ≢ Some n → control_at (registers_after_request m request).bank n ≡ control_at m.bank n
request_keeps m None n other = refl
request_keeps m (Some (Read at)) n other = refl
request_keeps m (Some Unknown) n other = refl
request_keeps m (Some Reset) n other = refl
request_keeps m (Some EndReset) n other = refl
request_keeps m (Some (Write at value)) n other = by_refusal (is_some (map.register_at m at.port at.register))
  where
    by_refusal : (b : Bool) → control_at (if b then map.settled (map.summary m) (map.written m at.port at.register value) else m).bank n ≡ control_at m.bank n
    by_refusal true = write_keeps m at.port at.register value n other
    by_refusal false = refl

abbrev Leaves : PmState → Stamped → PmState → Type 0
Leaves old frame new = (n : ℕ) → controlled frame.bytes ≢ Some n → control_at new.registers.bank n ≡ control_at old.registers.bank n

unchanged : (old : PmState) (frame : Stamped) (new : PmState) → new.registers ≡ old.registers → Leaves old frame new
unchanged old frame new e n other = ap (λ (m : map.RegisterMap). control_at m.bank n) e

to_control : (old : PmState) (frame : Stamped) (result : Result Passed (Stamped × PmRefusal)) (new : PmState) → ToControl old frame result new → Leaves old frame new
to_control old frame (Ok passed.Control) new rule n other = ap (λ (m : PmState). control_at m.registers.bank n) rule.2 ∙ request_keeps old.registers (request_in frame.bytes) n other
to_control old frame (Ok (passed.Down k)) new rule n other = absurd rule
to_control old frame (Ok passed.Dropped) new rule n other = absurd rule
to_control old frame (Err back) new rule n other = unchanged old frame new (ap (λ (m : PmState). m.registers) rule.2) n other

to_nobody : (old : PmState) (frame : Stamped) (result : Result Passed (Stamped × PmRefusal)) (new : PmState) → ToNobody old result new → Leaves old frame new
to_nobody old frame (Ok passed.Control) new rule n other = absurd rule
to_nobody old frame (Ok (passed.Down k)) new rule n other = absurd rule
to_nobody old frame (Ok passed.Dropped) new rule n other = unchanged old frame new (ap (λ (m : PmState). m.registers) rule) n other
to_nobody old frame (Err back) new rule n other = absurd rule

to_device : (old : PmState) (k conn : ℕ) (frame : Stamped) (result : Result Passed (Stamped × PmRefusal)) (new : PmState) → ToDevice old k conn frame result new → Leaves old frame new
to_device old k conn frame (Ok passed.Control) new rule n other = absurd rule
to_device old k conn frame (Ok (passed.Down j)) new rule n other = unchanged old frame new (ap (λ (m : PmState). m.registers) rule.2) n other
to_device old k conn frame (Ok passed.Dropped) new rule n other = absurd rule
to_device old k conn frame (Err back) new rule n other = unchanged old frame new (ap (λ (m : PmState). m.registers) rule.2) n other

host_leaves : (old : PmState) (frame : Stamped) (result : Result Passed (Stamped × PmRefusal)) (new : PmState) → FromHostRule old frame result new → Leaves old frame new
host_leaves old frame result new rule = by_place (pm_port frame == control_port) rule
  where
    by_conn : (o : Option ℕ) → MatchOption o (ToNobody old result new) (λ conn. ToDevice old (pm_port frame) conn frame result new) → Leaves old frame new
    by_conn None r = to_nobody old frame result new r
    by_conn (Some conn) r = to_device old (pm_port frame) conn frame result new r

    by_place : (b : Bool)
        → MatchBool b (ToControl old frame result new) (MatchOption (passes_to old (pm_port frame)) (ToNobody old result new) (λ conn. ToDevice old (pm_port frame) conn frame result new))
        → Leaves old frame new
    by_place true r = to_control old frame result new r
    by_place false r = by_conn (passes_to old (pm_port frame)) r

-- ---- the device begins anew

begins : (f : FanState) (n : ℕ) → IsFan f → n < f.multiplier.registers.ports → (seat_at f n).is_there ≡ true → (seat_at f n).last < largest → EndsConnection f n (rejoined f n)
begins f n is less there later =
    subst (λ (g : FanState). EndsConnection f n g) (sym now) (record {
      gone = ap (λ (p : port.PortState). port.is_gone p (seat_at f n).last) here ∙ up_to (seat_at f n).last (seat_at f n).last some (omega arith);
      there = ap (λ (s : Seat). s.is_there) seat_here;
      begun = ap (λ (s : Seat). s.begun) seat_here;
    })
  where
    ends : FanState
    ends = record { multiplier = with_device (without_device f.multiplier n (seat_at f n).last) n (next_connection (seat_at f n)); legacy = f.legacy; seats = slice_set (parted f n).seats n (seated (next_connection (seat_at f n))) }

    most : f.multiplier.registers.ports ≤ 15
    most = is.sound.registers.ports

    room : length f.multiplier.ports ≡ 15
    room = is.sound.room

    seats : length f.seats ≡ 15
    seats = is.room

    some : 0 < (seat_at f n).last
    some = (is.sound.ports n).sound.counted (seat_at f n).last (present_is f n is there)

    now : rejoined f n ≡ ends
    now =
        ap (λ (b : Bool). if b then joined (parted f n) n (next_connection (seat_at f n)) else f) (and_from (seat_at f n).is_there (nat_lt (seat_at f n).last largest) there (lt-ltb (seat_at f n).last largest later))
        ∙ ap (λ (o : Option PortError). if is_some o then parted f n else ends) (sym (lets_again f n is less there))

    left_room : length (slice_set f.multiplier.ports n (port.with_removal (port_at f.multiplier n) (seat_at f n).last)) ≡ 15
    left_room = length-set f.multiplier.ports n (port.with_removal (port_at f.multiplier n) (seat_at f n).last) ∙ room

    here : port_at ends.multiplier n ≡ port.with_connection (port.with_removal (port_at f.multiplier n) (seat_at f n).last) (next_connection (seat_at f n))
    here =
        this_port (slice_set f.multiplier.ports n (port.with_removal (port_at f.multiplier n) (seat_at f n).last)) n (port.with_connection (port_at (without_device f.multiplier n (seat_at f n).last) n) (next_connection (seat_at f n))) (omega (arith, left_room, less, most))
        ∙ ap (λ (p : port.PortState). port.with_connection p (next_connection (seat_at f n))) (this_port f.multiplier.ports n (port.with_removal (port_at f.multiplier n) (seat_at f n).last) (omega (arith, room, less, most)))

    left_seats : length (parted f n).seats ≡ 15
    left_seats = length-set f.seats n (left (seat_at f n)) ∙ seats

    seat_here : seat_at ends n ≡ seated (next_connection (seat_at f n))
    seat_here = get_or-set_same (parted f n).seats n (seated (next_connection (seat_at f n))) empty_seat (omega (arith, left_seats, less, most))

-- ---- the law

held_is : (m : PmState) (frame : Stamped) (n : ℕ) → n < m.registers.ports → is_in_reset m n ≡ true → controlled frame.bytes ≡ Some n → held_in_reset m frame ≡ Some n
held_is m frame n less resets is =
    ap (only_in_reset m) is
    ∙ ap (λ (b : Bool). if b then Some n else None) (and_from (nat_lt n m.registers.ports) (is_in_reset m n) (lt-ltb n m.registers.ports less) resets)

pub reset_ends : (old : FanState) (frame : Stamped) (result : Result Passed (Stamped × PmRefusal)) (new : FanState) → IsFan old → SendsFan old frame result new → ResetEndsConnection old frame result new
reset_ends old frame result new is does n less was now there later = by_held (held_in_reset old.multiplier frame) refl does.3
  where
    mid : PmState
    mid = does.0

    stays : controlled frame.bytes ≢ Some n → is_in_reset mid n ≡ true
    stays other = ap (λ (c : ℕ). det c == 1) (host_leaves old.multiplier frame result mid does.1 n other) ∙ was

    fan : IsFan (on old mid)
    fan = through old mid (pass.FromHost frame result (pass.made_by result mid)) is tt (does.1, refl) does.2

    -- no other port is meant
    meant : (o : Option ℕ) → held_in_reset old.multiplier frame ≡ o → o ≢ Some n → is_in_reset mid n ≡ true
    meant o e other = stays (λ is_n. other (sym e ∙ held_is old.multiplier frame n less was is_n))

    this : new ≡ heeded (on old mid) n → EndsConnection old n new
    this e = by_reset (is_in_reset mid n) refl e
      where
        by_reset : (b : Bool) → is_in_reset mid n ≡ b → new ≡ (if b then on old mid else rejoined (on old mid) n) → EndsConnection old n new
        by_reset true so e = absurd (let wrong : true ≡ false = sym so ∙ ap (λ (g : FanState). is_in_reset g.multiplier n) (sym e) ∙ now in cc)
        by_reset false so e =
            let count : mid.registers.ports ≡ old.multiplier.registers.ports = does.2.count in
            let ends : EndsConnection (on old mid) n (rejoined (on old mid) n) = begins (on old mid) n fan (omega arith) there later in
            subst (λ (g : FanState). EndsConnection old n g) (sym e) (record { gone = ends.gone; there = ends.there; begun = ends.begun })

    by_held : (o : Option ℕ) → held_in_reset old.multiplier frame ≡ o → MatchOption o (new ≡ on old mid) (λ k. new ≡ heeded (on old mid) k) → EndsConnection old n new
    by_held None e is_now =
        absurd (let wrong : true ≡ false = sym (meant None e (λ h. absurd cc)) ∙ ap (λ (g : FanState). is_in_reset g.multiplier n) (sym is_now) ∙ now in cc)
    by_held (Some k) e is_now =
        elim (cases_eq k n) [
          | inl here ↦ this (subst (λ (j : ℕ). new ≡ heeded (on old mid) j) here is_now)
          | inr other ↦
              absurd (let wrong : true ≡ false = sym (meant (Some k) e (λ h. other (same_Some k n h))) ∙ sym (heed_keeps (on old mid) k n) ∙ ap (λ (g : FanState). is_in_reset g.multiplier n) (sym is_now) ∙ now in cc)
        ]
