-- Each call leaves a sound multiplier.
use Rattle.std.proofs.Common.{◌≡◌, ◌≢◌, ℕ, zero, suc, ◌<◌, ◌≤◌, ◌==◌, ◌&&◌, Bool, true, false, List, length, replicate, slice_index, Option, Some}
use Rattle.std.proofs.{Common.{None, Result, Ok, Err, refl, sym, ap, ◌∙◌, subst, arith, inl, inr}, lemmas.Bool.{cases_eq, eq-eqb, ne_eqb}}
use Rattle.std.proofs.lemmas.{Option.same_Some, List.{length-set, get_or-set_other, get_or_read}}
use Rattle.std.specs.Prelude.{if◌then◌else◌, slice_set, slice_index_or, is_some}
use Rattle.fis_view.specs.{Frames.Stamped, declared.{frame.Stamp.Stamp, build.D2hFields.D2hFields, view.{Fis.Fis, FisFault.FisFault}}, Table.Kind}
use Rattle.fis_view.specs.{Table.{H2d, D2h, Activate, Setup, Data, Pio, Bits, Other}, Seen.{seen, kind_of, kind_of_type, may_have, view_as}}
use Rattle.fis_view.specs.declared.view.Fis.TheVariants as view
use Rattle.pm_registers.specs.RegisterMap as map
use Rattle.pm_registers.specs.{Port.{opening_port, open_port, inserted, removed, ShowsTruly}, declared.port.PortRegisters.PortRegisters}
use Rattle.pm_registers.specs.Calls.{Inserts, Removes}
use Rattle.pm_registers.proofs.Door.{keeps_sound, sound_set, write_devices, write_sound}
use Rattle.pm_control.specs.{Answers.{IsAnswer, IsNotice, registers_left, registers_after_request}, Requests.request_in}
use Rattle.pm_control.specs.declared.request.Request.{Request, TheVariants.Write}
use Rattle.pm_ports.specs.Port as port
use Rattle.multiplier.specs.{Arbiter.control_port, State.{PmState, IsSound, IsSoundPort, IsPlace, ShowsRecorded, control_stamp, is_answer, is_notice}}
use Rattle.multiplier.specs.{State.{port_at, with_port, settled, stamped, opening, opening_with_port_0, first_port}, Rules.with_device}
use Rattle.multiplier.specs.{Rules.without_device, declared.given.Given.Given, Between.at}
use Rattle.multiplier.proofs.{Ports.{each_port, this_port, other_port}, Gone.{accepted, came_port, goes, gone_port, removal_at}}

-- ---- types of FIS

either_kind : (P : Kind → Type 0) (b : Bool) (x y : Kind) → P x → P y → P (if b then x else y)
either_kind P true x y p q = p
either_kind P false x y p q = q

abbrev NoD2h : Kind → Type 0
NoD2h k = k ≢ D2h

-- the type byte of a frame that is seen as a Register Device to Host FIS
d2h_type : (t : ℕ) → kind_of_type t ≡ D2h → t ≡ 0x34
d2h_type t e =
    elim (cases_eq t 0x34) [
      | inl is ↦ is
      | inr ne ↦
          let e2 : (if t == 0x27 then H2d else if false then D2h else if t == 0x39 then Activate else if t == 0x41 then Setup
          else if t == 0x46 then Data else if t == 0x5F then Pio else if t == 0xA1 then Bits else Other) ≡ D2h = rw (ne_eqb t 0x34 ne) at e in
          absurd (
          either_kind NoD2h (t == 0x27) H2d _ (λ h. absurd cc)
          (either_kind NoD2h (t == 0x39) Activate _ (λ h. absurd cc)
          (either_kind NoD2h (t == 0x41) Setup _ (λ h. absurd cc)
          (either_kind NoD2h (t == 0x46) Data _ (λ h. absurd cc)
          (either_kind NoD2h (t == 0x5F) Pio _ (λ h. absurd cc)
          (either_kind NoD2h (t == 0xA1) Bits Other (λ h. absurd cc) (λ h. absurd cc)))))) e2)
    ]

-- the type byte of a frame that is seen as a Set Device Bits FIS is not that of an answer
abbrev NoBits : Kind → Type 0
NoBits k = k ≢ Bits

bits_type : (t : ℕ) → kind_of_type t ≡ Bits → t ≡ 0xA1
bits_type t e =
    elim (cases_eq t 0xA1) [
      | inl is ↦ is
      | inr ne ↦
          let e2 : (if t == 0x27 then H2d else if t == 0x34 then D2h else if t == 0x39 then Activate else if t == 0x41 then Setup
          else if t == 0x46 then Data else if t == 0x5F then Pio else if false then Bits else Other) ≡ Bits = rw (ne_eqb t 0xA1 ne) at e in
          absurd (
          either_kind NoBits (t == 0x27) H2d _ (λ h. absurd cc)
          (either_kind NoBits (t == 0x34) D2h _ (λ h. absurd cc)
          (either_kind NoBits (t == 0x39) Activate _ (λ h. absurd cc)
          (either_kind NoBits (t == 0x41) Setup _ (λ h. absurd cc)
          (either_kind NoBits (t == 0x46) Data _ (λ h. absurd cc)
          (either_kind NoBits (t == 0x5F) Pio Other (λ h. absurd cc) (λ h. absurd cc)))))) e2)
    ]

viewed_d2h : (k : Kind) (f : List ℕ) → view_as k f ≡ view.RegD2H f → k ≡ D2h
viewed_d2h D2h f e = refl
viewed_d2h kind f e = absurd cc

viewed_bits : (k : Kind) (f : List ℕ) → view_as k f ≡ view.SetBits f → k ≡ Bits
viewed_bits Bits f e = refl
viewed_bits kind f e = absurd cc

seen_by : (b : Bool) (x y : Fis) (fault : FisFault) → (let r : Result Fis FisFault = (if b then Ok x else Err fault) in r) ≡ Ok y → x ≡ y
seen_by true x y fault e = cc
seen_by false x y fault e = absurd cc

seen_d2h : (f : List ℕ) → seen f ≡ Ok (view_as D2h f) → slice_index f 0 ≡ 0x34
unfolding seen
seen_d2h f e = d2h_type (slice_index f 0) (viewed_d2h (kind_of f) f (seen_by (may_have (kind_of f) (length f)) _ _ _ e))

seen_bits : (f : List ℕ) → seen f ≡ Ok (view_as Bits f) → slice_index f 0 ≡ 0xA1
unfolding seen
seen_bits f e = bits_type (slice_index f 0) (viewed_bits (kind_of f) f (seen_by (may_have (kind_of f) (length f)) _ _ _ e))

-- ---- frames of the control port

of_type : (frame : Stamped) (t : ℕ) → frame.stamp.port ≡ control_port → slice_index frame.bytes 0 ≡ t → (frame.stamp.port == control_port && slice_index frame.bytes 0 == t) ≡ true
of_type frame t port type = rw (eq-eqb frame.stamp.port control_port port, eq-eqb (slice_index frame.bytes 0) t type) refl

not_of_type : (frame : Stamped) (t u : ℕ) → slice_index frame.bytes 0 ≡ t → t ≢ u → (frame.stamp.port == control_port && slice_index frame.bytes 0 == u) ≡ false
not_of_type frame t u type ne = none (frame.stamp.port == control_port) _ (ne_eqb (slice_index frame.bytes 0) u (λ h. ne (sym type ∙ h)))
  where
    none : (a b : Bool) → b ≡ false → (a && b) ≡ false
    none true b e = e
    none false b e = refl

pub answer_is : (fields : Option D2hFields) (stamp : Stamp) → stamp.port ≡ control_port → (answer : Option Stamped) → IsAnswer fields stamp answer
    → (frame : Stamped) → answer ≡ Some frame → is_answer frame ≡ true
answer_is None stamp port None is frame e = absurd cc
answer_is None stamp port (Some f) is frame e = absurd is
answer_is (Some fields) stamp port None is frame e = absurd is
answer_is (Some fields) stamp port (Some f) is frame e =
    let same : f ≡ frame = same_Some f frame e in
    subst (λ (g : Stamped). is_answer g ≡ true) same (of_type f 0x34 (ap (λ (s : Stamp). s.port) is.1 ∙ port) (seen_d2h f.bytes is.0.viewed))

-- it shows what its stamp does
pub answer_shows : (pm : PmState) (fields : Option D2hFields) (stamp : Stamp) → ShowsRecorded pm stamp → (answer : Option Stamped) → IsAnswer fields stamp answer
    → (frame : Stamped) → answer ≡ Some frame → ShowsRecorded pm frame.stamp
answer_shows pm None stamp shows None is frame e = absurd cc
answer_shows pm None stamp shows (Some f) is frame e = absurd is
answer_shows pm (Some fields) stamp shows None is frame e = absurd is
answer_shows pm (Some fields) stamp shows (Some f) is frame e =
    let same : f ≡ frame = same_Some f frame e in
    subst (ShowsRecorded pm) (sym is.1 ∙ ap (λ (g : Stamped). g.stamp) same) shows

-- what a FIS of the control port shows is recorded
pub stamp_shows : (pm : PmState) → ShowsRecorded pm (control_stamp pm)
stamp_shows pm n = let e = removal_at pm.ports n in omega arith

pub notice_is : (stamp : Stamp) → stamp.port ≡ control_port → (frame : Stamped) → IsNotice true stamp (Some frame) → is_notice frame ≡ true
notice_is stamp port frame is = of_type frame 0xA1 (ap (λ (s : Stamp). s.port) is.1 ∙ port) (seen_bits frame.bytes is.0.viewed)

pub notice_is_no_answer : (stamp : Stamp) (frame : Stamped) → IsNotice true stamp (Some frame) → is_answer frame ≡ false
notice_is_no_answer stamp frame is = not_of_type frame 0xA1 0x34 (seen_bits frame.bytes is.0.viewed) (λ h. absurd (omega (arith, h)))

-- ---- the registers after a request

request_sound : (m : map.RegisterMap) (request : Option Request) → map.IsSound m → map.IsSound (registers_after_request m request)
request_sound m (Some (Write at value)) sound = write_sound m at.port at.register value sound
request_sound m other sound = sound

request_devices : (m : map.RegisterMap) (request : Option Request) (n : ℕ) → (map.port_at (registers_after_request m request) n).present ≡ (map.port_at m n).present
request_devices m (Some (Write at value)) n = write_devices m at.port at.register value n
request_devices m other n = refl

-- ---- sound multipliers

-- where the registers show the same devices
shows_as : (n : ℕ) (shown now : Bool) (p : port.PortState) → now ≡ shown → IsSoundPort n shown p → IsSoundPort n now p
shows_as n shown now p e is = record { sound = is.sound; agrees = e ∙ is.agrees; stamped = is.stamped; stays = is.stays; meant = is.meant }

pub answered_sound : (pm : PmState) (m : map.RegisterMap) (resetting : Bool) (answer : Option Stamped) (number : ℕ) (given : Option Given) (bytes : List ℕ) → IsSound pm → m ≡ registers_left pm.registers bytes
    → ((frame : Stamped) → answer ≡ Some frame → is_answer frame ≡ true) → ((frame : Stamped) → answer ≡ Some frame → ShowsRecorded pm frame.stamp) → IsPlace given
    → IsSound (record pm { registers = m; resetting = resetting; answer = answer; number = number; given = given })
answered_sound pm m resetting answer number given bytes sound is answers shows place = record {
  served = sound.served;
  registers = subst map.IsSound (sym is) (request_sound pm.registers (request_in bytes) sound.registers);
  room = sound.room;
  ports = λ n. shows_as n _ _ (port_at pm n) (ap (λ (r : map.RegisterMap). (map.port_at r n).present) is ∙ request_devices pm.registers (request_in bytes) n) (sound.ports n);
  answer = answers;
  shows = shows;
  given = place;
}

-- what is shown stays recorded where a port records no less
shows_on : (pm : PmState) (n : ℕ) (p : port.PortState) → (port_at pm n).gone ≤ p.gone → (stamp : Stamp) → ShowsRecorded pm stamp → (k : ℕ) → slice_index stamp.shown k ≤ (at (slice_set pm.ports n p) k).gone
shows_on pm n p grows stamp shows k =
    let before : slice_index stamp.shown k ≤ (at pm.ports k).gone = shows k in
    let grown : (at pm.ports k).gone ≤ (at (slice_set pm.ports n p) k).gone = each_port (λ j q. (at pm.ports j).gone ≤ q.gone) pm.ports n p grows (λ j. omega arith) k in
    omega arith

-- another state of a port that is as sound
pub set_sound : (pm : PmState) (n : ℕ) (p : port.PortState) → IsSound pm → IsSoundPort n (map.port_at pm.registers n).present p → (port_at pm n).gone ≤ p.gone → IsSound (with_port pm n p)
set_sound pm n p sound is grows = record {
  served = sound.served;
  registers = sound.registers;
  room = length-set pm.ports n p ∙ sound.room;
  ports = each_port (λ k q. IsSoundPort k (map.port_at pm.registers k).present q) pm.ports n p is sound.ports;
  answer = sound.answer;
  shows = λ frame e. shows_on pm n p grows frame.stamp (sound.shows frame e);
  given = tt;
}

-- other frames in its places: one that waits to go up has the port's stamp and is of no connection that is gone, and one that
-- waits to go down is for the connection that is present
abbrev MayRise : ℕ → port.PortState → Option Stamped → Type 0
MayRise n p up = (frame : Stamped) → up ≡ Some frame → (frame.stamp.port ≡ n) × (port.is_gone p frame.stamp.conn ≡ false)

abbrev MayFall : port.PortState → Option Stamped → Type 0
MayFall p down = (frame : Stamped) → down ≡ Some frame → p.present ≡ Some frame.stamp.conn

pub places_sound : (n : ℕ) (shown : Bool) (p : port.PortState) (up down : Option Stamped) → IsSoundPort n shown p
    → MayRise n p up → MayFall p down → IsSoundPort n shown (record p { up = up; down = down })
places_sound n shown p up down is rises falls = record {
  sound = record { counted = is.sound.counted; last = is.sound.last; above = is.sound.above; away = is.sound.away };
  agrees = is.agrees;
  stamped = λ frame e. (rises frame e).0;
  stays = λ frame e. (rises frame e).1;
  meant = falls;
}

pub down_sound : (pm : PmState) (n : ℕ) (down : Option Stamped) → IsSound pm → MayFall (port_at pm n) down → IsSound (with_port pm n (port.with_down (port_at pm n) down))
down_sound pm n down sound falls =
    let is = sound.ports n in
    set_sound pm n _ sound (places_sound n _ (port_at pm n) (port_at pm n).up down is (λ frame e. (is.stamped frame e, is.stays frame e)) falls) (omega arith)

pub up_sound : (pm : PmState) (n : ℕ) (up : Option Stamped) → IsSound pm → MayRise n (port_at pm n) up → IsSound (with_port pm n (port.with_up (port_at pm n) up))
up_sound pm n up sound rises = set_sound pm n _ sound (places_sound n _ (port_at pm n) up (port_at pm n).down (sound.ports n) rises (sound.ports n).meant) (omega arith)

-- a frame that waited to go up was taken
pub taken_sound : (pm : PmState) (n : ℕ) → IsSound pm → IsSound (record pm { ports = slice_set pm.ports n (port.with_up (port_at pm n) None) })
taken_sound pm n sound =
    let low : IsSound (with_port pm n (port.with_up (port_at pm n) None)) = up_sound pm n None sound (λ frame e. absurd cc) in
    record { served = low.served; registers = low.registers; room = low.room; ports = low.ports; answer = low.answer; shows = low.shows; given = sound.given }

-- the same of a port that was lent as p and is q now
pub at_default : (pm : PmState) (m : ℕ) (p : port.PortState) → IsSound pm → m < 15 → p ≡ slice_index_or pm.ports m p → slice_index_or pm.ports m p ≡ port_at pm m
at_default pm m p sound small here =
    let room : length pm.ports ≡ 15 = sound.room in
    sym here ∙ get_or_read pm.ports m p (omega arith) here port.empty_port

pub lent_sound : (pm : PmState) (m : ℕ) (p q : port.PortState) → IsSound pm → m < 15 → p ≡ slice_index_or pm.ports m p → q ≡ port.with_up (slice_index_or pm.ports m p) None
    → IsSound (record pm { ports = slice_set pm.ports m q })
lent_sound pm m p q sound small here is =
    let now : q ≡ port.with_up (port_at pm m) None = is ∙ ap (λ (r : port.PortState). port.with_up r None) (at_default pm m p sound small here) in
    subst (λ (r : port.PortState). IsSound (record pm { ports = slice_set pm.ports m r })) (sym now) (taken_sound pm m sound)

pub kept_sound : (pm : PmState) (n : ℕ) (frame : Stamped) → IsSound pm → port.is_gone (port_at pm n) frame.stamp.conn ≡ false → IsSound (with_port pm n (port.with_up (port_at pm n) (Some (stamped n frame))))
kept_sound pm n frame sound stays =
    up_sound pm n _ sound (λ f e.
    let same : stamped n frame ≡ f = same_Some (stamped n frame) f e in
    (ap (λ (g : Stamped). g.stamp.port) (sym same), ap (λ (g : Stamped). port.is_gone (port_at pm n) g.stamp.conn) (sym same) ∙ stays))

-- the parts that are no port
pub rest_sound : (pm : PmState) (answer : Option Stamped) (served number dropped : ℕ) (resetting : Bool) (given : Option Given) → IsSound pm
    → ((frame : Stamped) → answer ≡ Some frame → is_answer frame ≡ true) → ((frame : Stamped) → answer ≡ Some frame → ShowsRecorded pm frame.stamp) → served ≤ control_port → IsPlace given
    → IsSound (record pm { answer = answer; served = served; number = number; dropped = dropped; resetting = resetting; given = given })
rest_sound pm answer served number dropped resetting given sound answers shows place leave = record {
  served = place;
  registers = sound.registers;
  room = sound.room;
  ports = sound.ports;
  answer = answers;
  shows = shows;
  given = leave;
}

pub settled_sound : (pm : PmState) → IsSound pm → IsSound (settled pm)
settled_sound pm sound = rest_sound pm pm.answer pm.served pm.number pm.dropped pm.resetting None sound sound.answer sound.shows sound.served tt

-- a notification is due or not
pub due_sound : (pm : PmState) (due : Bool) → IsSound pm → IsSound (record pm { registers = record pm.registers { due = due } })
due_sound pm due sound = record {
  served = sound.served;
  registers = record { ports = sound.registers.ports; bank = sound.registers.bank; shown = sound.registers.shown };
  room = sound.room;
  ports = sound.ports;
  answer = sound.answer;
  shows = sound.shows;
  given = sound.given;
}

-- a new one
pub opens_sound : (ports : ℕ) → ports ≤ 15 → IsSound (opening ports)
opens_sound ports most = record {
  served = omega arith;
  registers = record { ports = most; bank = refl; shown = λ n. subst ShowsTruly (sym (opening_at 15 n)) (λ e. absurd (omega (arith, e))) };
  room = refl;
  ports = λ n. record {
    sound = subst port.IsSound (sym (empty_at 15 n)) (record { counted = λ conn e. absurd cc; last = λ conn e. absurd cc; above = λ conn e. absurd cc; away = λ e. refl });
    agrees = ap (λ (p : PortRegisters). p.present) (opening_at 15 n) ∙ sym (ap (λ (p : port.PortState). is_some p.present) (empty_at 15 n));
    stamped = λ frame e. let none : None ≡ Some frame = sym (ap (λ (p : port.PortState). p.up) (empty_at 15 n)) ∙ e in absurd cc;
    stays = λ frame e. let none : None ≡ Some frame = sym (ap (λ (p : port.PortState). p.up) (empty_at 15 n)) ∙ e in absurd cc;
    meant = λ frame e. let none : None ≡ Some frame = sym (ap (λ (p : port.PortState). p.down) (empty_at 15 n)) ∙ e in absurd cc;
  };
  answer = λ frame e. absurd cc;
  shows = λ frame e. absurd cc;
  given = tt;
}
  where
    empty_at : (count n : ℕ) → at (replicate count port.empty_port) n ≡ port.empty_port
    empty_at zero n = refl
    empty_at (suc count) zero = refl
    empty_at (suc count) (suc n) = empty_at count n

    opening_at : (count n : ℕ) → slice_index_or (replicate count opening_port) n opening_port ≡ opening_port
    opening_at zero n = refl
    opening_at (suc count) zero = refl
    opening_at (suc count) (suc n) = opening_at count n

-- a new one with port 0 open: its other ports are those of any new one
open_shows : (present : Bool) → ShowsTruly (open_port present)
open_shows true = λ e. (refl, refl)
open_shows false = λ e. absurd (omega (arith, e))

first_sound : (device : Option ℕ) → ((conn : ℕ) → device ≡ Some conn → 1 ≤ conn) → IsSoundPort 0 (is_some device) (first_port device)
first_sound None counted = record {
  sound = record { counted = λ conn e. absurd cc; last = λ conn e. absurd cc; above = λ conn e. absurd cc; away = λ e. refl };
  agrees = refl;
  stamped = λ frame e. absurd cc;
  stays = λ frame e. absurd cc;
  meant = λ frame e. absurd cc;
}
first_sound (Some c) counted = record {
  sound = record {
    counted = λ conn e. let some : 1 ≤ conn = counted conn e in omega arith;
    last = λ conn e. sym (same_Some c conn e);
    above = λ conn e. let some : 1 ≤ conn = counted conn e in omega arith;
    away = λ e. absurd cc;
  };
  agrees = refl;
  stamped = λ frame e. absurd cc;
  stays = λ frame e. absurd cc;
  meant = λ frame e. absurd cc;
}

pub opens_with_port_0 : (ports : ℕ) (device : Option ℕ) → ports ≤ 15 → ((conn : ℕ) → device ≡ Some conn → 1 ≤ conn) → IsSound (opening_with_port_0 ports device)
opens_with_port_0 ports device most counted =
    let other = opens_sound ports most in
    record {
      served = other.served;
      registers = sound_set (map.opening ports) 0 (open_port (is_some device)) other.registers (open_shows (is_some device));
      room = refl;
      ports = each;
      answer = λ frame e. absurd cc;
      shows = λ frame e. absurd cc;
      given = tt;
    }
  where
    each : (n : ℕ) → IsSoundPort n (map.port_at (map.opening_with_port_0 ports (is_some device)) n).present (port_at (opening_with_port_0 ports device) n)
    each zero = first_sound device counted
    each (suc n) = (opens_sound ports most).ports (suc n)

-- ---- a device that came or went

-- one port was written, and what the registers show of a device there
module _ (pm : PmState) (n : ℕ) (q : PortRegisters) (now : port.PortState) (sound : IsSound pm) (small : n < 15) where
  others_registers : (k : ℕ) → k ≢ n → (slice_index_or (slice_set pm.registers.bank n q) k opening_port).present ≡ (map.port_at pm.registers k).present
  others_registers k other = ap (λ (r : PortRegisters). r.present) (get_or-set_other pm.registers.bank n k q opening_port other)

  pub device_ports : (m : map.RegisterMap) (shown : Bool) → m.bank ≡ slice_set pm.registers.bank n q → (map.port_at m n).present ≡ shown → IsSoundPort n shown now
      → (k : ℕ) → IsSoundPort k (map.port_at m k).present (at (slice_set pm.ports n now) k)
  device_ports m shown bank shows is k =
      elim (cases_eq k n) [
        | inl here ↦ subst (λ (j : ℕ). IsSoundPort j (map.port_at m j).present (at (slice_set pm.ports n now) j)) (sym here)
            (subst (λ (p : port.PortState). IsSoundPort n (map.port_at m n).present p) (sym (this_port pm.ports n now (let r : length pm.ports ≡ 15 = sound.room in omega arith))) (shows_as n _ _ now shows is))
        | inr other ↦
            subst (λ (p : port.PortState). IsSoundPort k (map.port_at m k).present p) (sym (other_port pm.ports n k now other))
            (shows_as k _ _ (port_at pm k) (ap (λ bs. (slice_index_or bs k opening_port).present) bank ∙ others_registers k other) (sound.ports k))
      ]

pub came_sound : (pm : PmState) (n conn : ℕ) → IsSound pm → n < 15 → port.came_refusal (port_at pm n) conn ≡ None → IsSound (with_device pm n conn)
came_sound pm n conn sound small lets =
    let registers : map.RegisterMap = map.after_insert pm.registers n in
    let kept = keeps_sound pm.registers (Inserts n) sound.registers in
    let now : port.PortState = port.with_connection (port_at pm n) conn in
    let shows : (map.port_at registers n).present ≡ true = kept.1 n small ∙ rw (eq-eqb n n refl) refl in
    let may = accepted (port_at pm n) conn lets in
    let came : IsSoundPort n true now = came_port n conn (port_at pm n) (shows_as n _ _ (port_at pm n) (sym (sound.ports n).agrees) (sound.ports n)) may.0 may.1 in
    record {
      served = sound.served;
      registers = kept.0;
      room = length-set pm.ports n now ∙ sound.room;
      ports = device_ports pm n (inserted (map.port_at pm.registers n)) now sound small registers true refl shows came;
      answer = sound.answer;
      shows = λ frame e. shows_on pm n now (omega arith) frame.stamp (sound.shows frame e);
      given = tt;
    }

-- whatever is counted as dropped
pub gone_sound : (pm : PmState) (n conn dropped : ℕ) → IsSound pm → n < 15 → port.gone_refusal (port_at pm n) conn ≡ None → IsSound (record (without_device pm n conn) { dropped = dropped })
gone_sound pm n conn dropped sound small lets =
    let registers : map.RegisterMap = map.after_remove pm.registers n in
    let kept = keeps_sound pm.registers (Removes n) sound.registers in
    let now : port.PortState = port.with_removal (port_at pm n) conn in
    let shows : (map.port_at registers n).present ≡ false = kept.1 n small ∙ rw (eq-eqb n n refl) refl in
    let there : (port_at pm n).present ≡ Some conn = goes (port_at pm n) conn lets in
    let went : IsSoundPort n false now = gone_port n conn _ (port_at pm n) (sound.ports n) there in
    let above : (port_at pm n).gone < conn = (sound.ports n).sound.above conn there in
    record {
      served = sound.served;
      registers = kept.0;
      room = length-set pm.ports n now ∙ sound.room;
      ports = device_ports pm n (removed (map.port_at pm.registers n)) now sound small registers false refl shows went;
      answer = sound.answer;
      shows = λ frame e. shows_on pm n now (omega arith) frame.stamp (sound.shows frame e);
      given = tt;
    }

-- the same of a port that was lent as p and is q now
pub left_sound : (pm : PmState) (n m conn dropped : ℕ) (p q : port.PortState) (registers : map.RegisterMap) → IsSound pm → m ≡ n → n < 15 → p ≡ slice_index_or pm.ports m p
    → None ≡ port.gone_refusal (slice_index_or pm.ports m p) conn → q ≡ port.with_removal (slice_index_or pm.ports m p) conn → registers ≡ map.after_remove pm.registers n
    → IsSound (record pm { registers = registers; ports = slice_set pm.ports m q; dropped = dropped; given = None })
left_sound pm n m conn dropped p q registers sound same small here lets is gone =
    let there : slice_index_or pm.ports m p ≡ port_at pm m = at_default pm m p sound (omega arith) here in
    let now : q ≡ port.with_removal (port_at pm m) conn = is ∙ ap (λ (r : port.PortState). port.with_removal r conn) there in
    let accepts : port.gone_refusal (port_at pm m) conn ≡ None = ap (λ (r : port.PortState). port.gone_refusal r conn) (sym there) ∙ sym lets in
    let removed : registers ≡ map.after_remove pm.registers m = gone ∙ ap (map.after_remove pm.registers) (sym same) in
    subst (λ (w : port.PortState × map.RegisterMap). IsSound (record pm { registers = w.1; ports = slice_set pm.ports m w.0; dropped = dropped; given = None }))
    (λ i. (sym now i, sym removed i)) (gone_sound pm m conn dropped sound (omega arith) accepts)
