-- For `rested_ports_are_open`. What each order of the driver asks the multiplier for, and what it has set once the multiplier took its
-- command.
use Rattle.std.proofs.Common.{◌≡◌, ℕ, ◌+◌, ◌*◌, ◌<◌, ◌≤◌, ◌==◌, Bool, true, false, bit_and, List, refl, sym, ap, subst, ◌∙◌, inl, inr, Option, Some}
use Rattle.std.proofs.{Common.{None, arith}, lemmas.{Bool.{cases_Bool, cases_eq, true≢false, Decides.nat_tests}, Option.same_Some}}
use Rattle.std.specs.{Prelude.{◌/◌, ◌%◌, ◌^◌, if◌then◌else◌, nat_le, nat_lt, ◌&&◌}, Int.from_bool}
use Rattle.fis_view.specs.{Built.{IsBuilt, cut, d2h_given, h2d_given}, Frames.Stamped, Seen.seen, Table.{C, Command, Control, Count, D2h, Device}}
use Rattle.fis_view.specs.{Table.{Features, H2d, Lba, field, places}, declared.{build.H2dFields.H2dFields, frame.Stamp.Stamp}}
use Rattle.slots.specs.Slots.{has_bit, lowest_below, match_some}
use Rattle.hba_driver.specs.declared.order.Order.{Order, TheVariants.{AwaitSignature, Clear, CountPorts, Detect, Enable, Open, ResetOff, ResetOn}}
use Rattle.hba_driver.specs.{declared.{order.Order.TheVariants.{Scan, SetMask, Watch}, plan.Plan.Plan}, Orders.{changes, control_port, error_mask}}
use Rattle.hba_driver.specs.Orders.{error_ports, features_on, next_order, order_fields, port_count, reads, scan_from, scontrol, serror, sstatus}
use Rattle.hba_driver.specs.{Orders.writes, Seeing.Sight, Sights.answer_in, Slot31.{is_off, is_on}, Turns.{control_seen, met_order, noted}}
use Rattle.hba_driver.proofs.Door.{either, seen_free, seen_out, seen_unasked}
use Rattle.pm_control.specs.{Answers.{IsAnswer, answer_to_request, registers_after_request, value_answer}, Requests.{address_in, request_in}}
use Rattle.pm_control.specs.{Requests.{request_under, value_in}, declared.request.{Address.Address, Request.{Request, TheVariants.{EndReset, Read}}}}
use Rattle.pm_control.specs.declared.request.Request.TheVariants.{Reset, Unknown, Write}
use Rattle.pm_registers.specs.{Port.is_open, RegisterMap.{RegisterMap, after_write, notifies, port_at}}
use Rattle.world_rests.proofs.Setting.{IsShape, Keeps, open_done, put_keeps, put_shape}

-- ---- what is asked

-- the four bits that a FIS has for the port
abbrev low : ℕ → ℕ
low port = (port % 2 ^ 8 + 2 ^ 8 * 0) % 16

low_is : (port : ℕ) → port < 15 → low port ≡ port
low_is port below = omega (arith, below)

abbrev pub place : ℕ → ℕ → Address
place port register = record { port = port; register = register }

-- what an order with a command asks for
abbrev pub wish : Order → Option Request
wish CountPorts = Some (Read (place 15 2))
wish SetMask = Some (Write (place 15 33) changes)
wish Enable = Some (Write (place 15 96) 8)
wish (Open port) = Some (Write (place (low port) 2) 0)
wish Scan = Some (Read (place 15 32))
wish (Clear port) = Some (Write (place (low port) 1) changes)
wish (Detect port) = Some (Read (place (low port) 0))
wish order = None

abbrev choose : (c command : ℕ) (r w e : Request) → Request
choose c command r w e = if c == 1 then (if command == 0xE4 then r else if command == 0xE8 then w else Unknown) else e

module _ (f : H2dFields) (bytes : List ℕ) (built : IsBuilt H2d (h2d_given f) bytes) (command : f.c ≡ true) where
  is_command : field H2d C bytes ≡ 1
  unfolding cut places
  is_command = built.fields C ∙ ap (λ (b : Bool). cut (places H2d C) (from_bool b)) command

  code_is : (code : ℕ) → f.command ≡ code → field H2d Command bytes ≡ cut (places H2d Command) code
  code_is code is = built.fields Command ∙ ap (cut (places H2d Command)) is

  address_is : address_in bytes ≡ place (cut (places H2d Device) f.device % 16) (cut (places H2d Features) f.features)
  address_is =
      ap (λ (d : ℕ). place (d % 16) (field H2d Features bytes)) (built.fields Device)
      ∙ ap (λ (r : ℕ). place (cut (places H2d Device) f.device % 16) r) (built.fields Features)

  value_is : value_in bytes ≡ cut (places H2d Count) f.count % 256 + 256 * (cut (places H2d Lba) f.lba % 0x1000000)
  value_is =
      ap (λ (k : ℕ). k % 256 + 256 * (field H2d Lba bytes % 0x1000000)) (built.fields Count)
      ∙ ap (λ (k : ℕ). cut (places H2d Count) f.count % 256 + 256 * (k % 0x1000000)) (built.fields Lba)

  abbrev by_code : ℕ → ℕ → Option Request
  by_code c code = Some (choose c code (Read (address_in bytes)) (Write (address_in bytes) (value_in bytes)) (if bit_and (field H2d Control bytes) 4 == 0 then EndReset else Reset))

  is_asked : (code : ℕ) → f.command ≡ code → request_in bytes ≡ by_code 1 (cut (places H2d Command) code)
  is_asked code is =
      ap request_under built.viewed
      ∙ (ap (λ (c : ℕ). by_code c (field H2d Command bytes)) is_command
      ∙ ap (λ (k : ℕ). by_code 1 k) (code_is code is))

  read_asked : f.command ≡ 0xE4 → request_in bytes ≡ Some (Read (place (cut (places H2d Device) f.device % 16) (cut (places H2d Features) f.features)))
  unfolding cut places
  read_asked is = is_asked 0xE4 is ∙ ap (λ (a : Address). Some (Read a)) address_is

  write_asked : f.command ≡ 0xE8
      → request_in bytes ≡ Some (Write (place (cut (places H2d Device) f.device % 16) (cut (places H2d Features) f.features)) (cut (places H2d Count) f.count % 256 + 256 * (cut (places H2d Lba) f.lba % 0x1000000)))
  unfolding cut places
  write_asked is =
      is_asked 0xE8 is ∙ (ap (λ (a : Address). Some (Write a (value_in bytes))) address_is
      ∙ ap (λ (v : ℕ). Some (Write (place (cut (places H2d Device) f.device % 16) (cut (places H2d Features) f.features)) v)) value_is)

module _ (fields : H2dFields) (bytes : List ℕ) (built : IsBuilt H2d (h2d_given fields) bytes) where
  as_built : (f : H2dFields) → Some f ≡ Some fields → IsBuilt H2d (h2d_given f) bytes
  as_built f are = subst (λ (g : H2dFields). IsBuilt H2d (h2d_given g) bytes) (sym (same_Some f fields are)) built

  -- the command of an order asks for that
  pub order_wishes : (o : Order) → order_fields o ≡ Some fields → is_on o ≡ false → is_off o ≡ false → request_in bytes ≡ wish o
  unfolding order_fields cut places
  order_wishes ResetOn are on off = absurd (true≢false on)
  order_wishes ResetOff are on off = absurd (true≢false off)
  order_wishes CountPorts are on off = read_asked (reads control_port port_count) bytes (as_built _ are) refl refl
  order_wishes SetMask are on off = write_asked (writes control_port error_mask changes) bytes (as_built _ are) refl refl
  order_wishes Enable are on off = write_asked (writes control_port features_on 8) bytes (as_built _ are) refl refl
  order_wishes (Open port) are on off = write_asked (writes port scontrol 0) bytes (as_built _ are) refl refl
  order_wishes Scan are on off = read_asked (reads control_port error_ports) bytes (as_built _ are) refl refl
  order_wishes (Clear port) are on off = write_asked (writes port serror changes) bytes (as_built _ are) refl refl
  order_wishes (Detect port) are on off = read_asked (reads port sstatus) bytes (as_built _ are) refl refl
  order_wishes other are on off = absurd (cc)

-- ---- the number of ports, as it is told

spelled_back : (s : ℕ) → s < 2 ^ 15 → cut (places D2h Lba) (s / 256) % 2 ^ 24 * 256 + cut (places D2h Count) (s % 256) % 2 ^ 8 ≡ s
unfolding cut places
spelled_back s small = omega (arith, small)

pub answer_value : (s : ℕ) (bytes : List ℕ) → s < 2 ^ 15 → IsBuilt D2h (d2h_given (value_answer s)) bytes → answer_in (seen bytes) ≡ s
answer_value s bytes small built =
    ap answer_in built.viewed
    ∙ (ap (λ (k : ℕ). k % 2 ^ 24 * 256 + field D2h Count bytes % 2 ^ 8) (built.fields Lba)
    ∙ (ap (λ (k : ℕ). cut (places D2h Lba) (s / 256) % 2 ^ 24 * 256 + k % 2 ^ 8) (built.fields Count)
    ∙ spelled_back s small))

pub counted : (mark : Bool) (m : RegisterMap) (stamp : Stamp) (g : Stamped) → m.ports ≤ 15 → IsAnswer (answer_to_request mark m (wish CountPorts)) stamp (Some g) → answer_in (seen g.bytes) ≡ m.ports
counted mark m stamp g most is = answer_value m.ports g.bytes (omega (arith, most)) is.0

-- ---- what earlier orders have set, and what this one sets

-- ports are counted, changes of them are errors, and errors are notified
pub record IsOn (m : RegisterMap) (count : ℕ) : Type 0 where
  pub counted : count ≡ m.ports
  pub masked : m.mask ≡ changes
  pub notifies_on : notifies m ≡ true

abbrev pub AreOpen : ℕ → RegisterMap → Type 0
AreOpen k m = (n : ℕ) → n < k → is_open (port_at m n) ≡ true

abbrev pub Upto : Order → RegisterMap → (count : ℕ) → Type 0
Upto SetMask m count = count ≡ m.ports
Upto Enable m count = (count ≡ m.ports) × (m.mask ≡ changes)
Upto (Open k) m count = IsOn m count × AreOpen k m × (k < count)
Upto Scan m count = IsOn m count × AreOpen m.ports m
Upto (Clear port) m count = IsOn m count × AreOpen m.ports m
Upto (Detect port) m count = IsOn m count × AreOpen m.ports m
Upto Watch m count = IsOn m count × AreOpen m.ports m
Upto order m count = Unit {0}

abbrev pub Done : Order → RegisterMap → Type 0
Done SetMask m = m.mask ≡ changes
Done Enable m = notifies m ≡ true
Done (Open k) m = is_open (port_at m k) ≡ true
Done order m = Unit {0}

module _ (m r : RegisterMap) (count : ℕ) (k : Keeps m r) where
  on_keeps : IsOn m count → IsOn r count
  on_keeps is = record { counted = is.counted ∙ sym k.ports; masked = k.mask ∙ is.masked; notifies_on = ap (λ (e : ℕ). notifies (record m { enabled = e })) k.enabled ∙ is.notifies_on }

  all_keeps : IsOn m count × AreOpen m.ports m → IsOn r count × AreOpen r.ports r
  all_keeps is = (on_keeps is.0, λ n low. k.opens n (is.1 n (subst (λ (p : ℕ). n < p) k.ports low)))

  pub upto_keeps : (o : Order) → Upto o m count → Upto o r count
  upto_keeps SetMask is = is ∙ sym k.ports
  upto_keeps Enable is = (is.0 ∙ sym k.ports, k.mask ∙ is.1)
  upto_keeps (Open p) is = (on_keeps is.0, λ n low. k.opens n (is.1 n low), is.2)
  upto_keeps Scan is = all_keeps is
  upto_keeps (Clear p) is = all_keeps is
  upto_keeps (Detect p) is = all_keeps is
  upto_keeps Watch is = all_keeps is
  upto_keeps o is = tt

  pub done_keeps : (o : Order) → Done o m → Done o r
  done_keeps SetMask is = k.mask ∙ is
  done_keeps Enable is = ap (λ (e : ℕ). notifies (record m { enabled = e })) k.enabled ∙ is
  done_keeps (Open p) is = k.opens p is
  done_keeps o is = tt

-- ---- the multiplier takes the command

abbrev pub after_wish : RegisterMap → Order → RegisterMap
after_wish m o = registers_after_request m (wish o)

pub clears_as : (m : RegisterMap) (k : ℕ) → k < 15 → after_wish m (Clear k) ≡ after_write m k 1 changes
clears_as m k below = ap (λ (j : ℕ). after_write m j 1 changes) (low_is k below)

pub wish_shape : (ports : ℕ) (m : RegisterMap) (o : Order) → IsShape ports m → IsShape ports (after_wish m o)
wish_shape ports m SetMask s = record { ports_are = s.ports_are; most = s.most; bank = s.bank; shows = s.shows }
wish_shape ports m Enable s = record { ports_are = s.ports_are; most = s.most; bank = s.bank; shows = s.shows }
wish_shape ports m (Open k) s = put_shape ports m (low k) 2 0 (inr (refl, refl)) s
wish_shape ports m (Clear k) s = put_shape ports m (low k) 1 changes (inl refl) s
wish_shape ports m o s = s

module _ (ports : ℕ) (m : RegisterMap) (s : IsShape ports m) (count : ℕ) where
  pub wish_done : (o : Order) → Upto o m count → Upto o (after_wish m o) count × Done o (after_wish m o)
  wish_done SetMask u = (u, refl)
  wish_done Enable u = (u, refl)
  wish_done (Open k) u =
      let there : k < m.ports = subst (λ (c : ℕ). k < c) u.0.counted u.2 in
      let most : m.ports ≤ 15 = subst (λ (c : ℕ). c ≤ 15) (sym s.ports_are) s.most in (
        upto_keeps m (after_wish m (Open k)) count (put_keeps ports m (low k) 2 0 (inr (refl, refl))) (Open k) u,
        subst (λ (j : ℕ). is_open (port_at (after_write m j 2 0) k) ≡ true) (sym (low_is k (omega (arith, there, most)))) (open_done m k there most s.bank),
      )
  wish_done (Clear k) u = (upto_keeps m (after_wish m (Clear k)) count (put_keeps ports m (low k) 1 changes (inl refl)) (Clear k) u, tt)
  wish_done o u = (u, tt)

-- ---- the driver goes on

scanned : (m : RegisterMap) (count found from : ℕ) → IsOn m count × AreOpen m.ports m → Upto (scan_from found from) m count
unfolding scan_from
scanned m count found from is = by_port (lowest_below (λ port. nat_le from port && has_bit found port) 15)
  where
    by_port : (o : Option ℕ) → Upto (match_some o Watch Clear) m count
    by_port None = is
    by_port (Some port) = is

-- the ports below k are open
opens_on : (m : RegisterMap) (count k : ℕ) (b : Bool) → nat_lt k count ≡ b → IsOn m count → AreOpen k m → k ≤ count → Upto (if b then Open k else Scan) m count
opens_on m count k true is on opened most = (on, opened, grind (arith, nat_tests))
opens_on m count k false is on opened most =
    let last : count ≤ k = grind (arith, nat_tests) in
    let whole : count ≡ m.ports = on.counted in
    (on, λ n low. opened n (omega (arith, low, last, whole)))

pub upto_noted : (v : Sight) (o : Order) (p : Plan) (m : RegisterMap) → m.ports ≤ 15 → Upto o m p.ports → Done o m → (o ≡ CountPorts → v.answer ≡ m.ports)
    → Upto (next_order (noted v o p).ports (noted v o p).found o) m (noted v o p).ports
unfolding next_order noted
upto_noted v CountPorts p m most u done told = let is : v.answer ≡ m.ports = told refl in omega (arith, is, most)
upto_noted v SetMask p m most u done told = (u, done)
upto_noted v Enable p m most u done told =
    opens_on m p.ports 0 (nat_lt 0 p.ports) refl (record { counted = u.0; masked = u.1; notifies_on = done }) (λ n low. absurd (omega (arith, low))) (omega arith)
upto_noted v (Open k) p m most u done told =
    opens_on m p.ports (k + 1) (nat_lt (k + 1) p.ports) refl u.0 (λ n low. elim (cases_eq n k) [
      | inl same ↦ subst (λ (j : ℕ). is_open (port_at m j) ≡ true) (sym same) done
      | inr other ↦ u.1 n (omega (arith, low, other))
    ]) (let less : k < p.ports = u.2 in omega (arith, less))
upto_noted v Scan p m most u done told = scanned m p.ports v.answer 0 u
upto_noted v (Clear port) p m most u done told = u
upto_noted v (Detect port) p m most u done told = scanned m p.ports p.found (port + 1) u
upto_noted v Watch p m most u done told = u
upto_noted v o p m most u done told = tt

upto_met : (v : Sight) (o : Order) (m : RegisterMap) (count : ℕ) → Upto o m count → Upto (met_order v o) m count
unfolding met_order
upto_met v AwaitSignature m count u =
    either (λ (x : Order). Upto x m count) v.resetting AwaitSignature _ tt (either (λ (x : Order). Upto x m count) (v.answer == 0x96690101) CountPorts ResetOn tt tt)
upto_met v Watch m count u = either (λ (x : Order). Upto x m count) v.notified Scan Watch u u
upto_met v o m count u = u

-- what the driver knows once it has looked at what came
pub upto_seen : (v : Sight) (p : Plan) (m : RegisterMap) → m.ports ≤ 15 → Upto p.order m p.ports
    → (p.asked ≡ true → has_bit v.issued 31 ≡ false → Done p.order m × (p.order ≡ CountPorts → v.answer ≡ m.ports)) → Upto (control_seen v p).order m (control_seen v p).ports
upto_seen v p m most u told = elim (cases_Bool p.asked) [
  | inl asked ↦ elim (cases_Bool (has_bit v.issued 31)) [
    | inl on ↦ subst (λ (q : Plan). Upto q.order m q.ports) (sym (seen_out v p asked on)) u
    | inr off ↦
        let t = told asked off in
        subst (λ (q : Plan). Upto q.order m q.ports) (sym (seen_free v p asked off))
        (upto_met v (next_order (noted v p.order p).ports (noted v p.order p).found p.order) m (noted v p.order p).ports (upto_noted v p.order p m most u t.0 t.1))
  ]
  | inr unasked ↦ subst (λ (q : Plan). Upto q.order m q.ports) (sym (seen_unasked v p unasked)) (upto_met v p.order m p.ports u)
]

-- an order that is asked then was asked before, and is the same
pub seen_asked : (v : Sight) (p : Plan) → (control_seen v p).asked ≡ true → control_seen v p ≡ p
seen_asked v p h = elim (cases_Bool p.asked) [
  | inl asked ↦ elim (cases_Bool (has_bit v.issued 31)) [
    | inl on ↦ seen_out v p asked on
    | inr off ↦ absurd (true≢false (sym h ∙ ap (λ (q : Plan). q.asked) (seen_free v p asked off)))
  ]
  | inr unasked ↦ absurd (true≢false (sym h ∙ ap (λ (q : Plan). q.asked) (seen_unasked v p unasked) ∙ unasked))
]
