-- For `rested_ports_are_open`. A port of the multiplier that asks for attention is heeded: a notification is due, on its way, or came, or a
-- scan of the driver is to come to the port.
use Rattle.std.proofs.Common.{◌≡◌, ◌⊎◌, ℕ, ◌+◌, ◌<◌, ◌≤◌, ◌==◌, ◌&&◌, Bool, true, false, refl, sym, ap, subst, ◌∙◌, inl, inr, Option, Some, None}
use Rattle.std.proofs.{Common.arith, lemmas.Bool.{and_from, cases_Bool, cases_eq, cases_lt, false≢true, le-leb, true≢false}}
use Rattle.std.specs.Prelude.{nat_le, nat_lt}
use Rattle.fis_view.specs.Frames.{Stamped}
use Rattle.slots.specs.Slots.{has_bit, lowest_below, match_some}
use Rattle.slots.proofs.Door.{lowest_before, none_below}
use Rattle.pm_registers.specs.RegisterMap.{RegisterMap, asks, notifies}
use Rattle.multiplier.specs.Arbiter.{control_port}
use Rattle.hba_driver.specs.declared.order.Order.{Order, TheVariants.{AwaitSignature, Clear, CountPorts, Detect, Enable, Open, ResetOn, Scan, Watch}}
use Rattle.hba_driver.specs.{declared.plan.Plan.Plan, Orders.{next_order, scan_from}, Seeing.Sight, HostTurns.sight_in, Slot31.{Control, IsFree31}}
use Rattle.hba_driver.specs.{Slot31.{control_in, control_of, is_off, is_on, seen_in}, Turns.{met_order, noted}}
use Rattle.hba_driver.proofs.Door.{either, free_seen, seen_free, seen_out, seen_unasked, told_seen}
use Rattle.pm_world.specs.Line.{is_reply}
use Rattle.world_rests.proofs.{Notified.is_noticed, Ordering.Upto, Orders.Among, Saying.{never_coming, said_now}, SetUp.{IsCommand, IsComing, IsSaid}}
use Rattle.world_rests.proofs.{SetUp.{IsWell, is_asking}, Ways.{IsGood, Line}}

-- ---- what is to come

-- the orders before the first scan
abbrev pub is_early : Order → Bool
is_early Scan = false
is_early (Clear port) = false
is_early (Detect port) = false
is_early Watch = false
is_early order = true

-- the scan has come to this port
abbrev pub IsAtPort : Order → ℕ → Type 0
IsAtPort order k = (order ≡ Clear k) ⊎ (order ≡ Detect k)

-- the command is not asked for yet, or is on its way
abbrev pub IsToCome : Bool → Line → Type 0
IsToCome asked l = (asked ≡ false) ⊎ IsComing l

-- the number has the bit of the port
abbrev pub HasBit : ℕ → ℕ → Type 0
HasBit n value = has_bit value n ≡ true

-- With this known of slot 31: the driver is to scan for the first time; a notification is due, goes up, or came; GSCR[32] is to be read; what
-- was read of it names the port; the port is to be cleared; or the scan is at a lower port, and this one was found.
pub data IsHeeded (n : ℕ) (c : Control) (l : Line) : Type 0 where
  Early : is_early c.order ≡ true → IsHeeded n c l
  IsDue : l.pm.registers.due ≡ true → IsHeeded n c l
  Notifies : (f : Stamped) → Among f l.up → f.stamp.port ≡ control_port → is_reply f ≡ false → IsHeeded n c l
  IsNoticed : is_noticed l.host ≡ true → IsHeeded n c l
  IsScanned : c.order ≡ Scan → IsToCome c.asked l → IsHeeded n c l
  IsNamed : c.order ≡ Scan → c.asked ≡ true → IsSaid (HasBit n) l → IsHeeded n c l
  IsCleared : c.order ≡ Clear n → IsToCome c.asked l → IsHeeded n c l
  IsListed : (k : ℕ) → IsAtPort c.order k → k < n → has_bit c.found n ≡ true → IsHeeded n c l

-- the port is open, or the driver has not begun; each port that asks is heeded
pub record AreHeeded (l : Line) : Type 0 where
  pub closed : l.host.driver.plan.opened < 7 → l.host.driver.plan.order ≡ ResetOn
  pub each : IsWell l.host → (n : ℕ) → n < l.pm.registers.ports → asks l.pm.registers n ≡ true → IsHeeded n (control_in l.host.driver.plan) l

-- what keeps that of a port, while slot 31 stays what it is
pub record KeepsHeeded (n : ℕ) (c : Control) (l m : Line) : Type 0 where
  pub due : l.pm.registers.due ≡ true → IsHeeded n c m
  pub notifies : (f : Stamped) → Among f l.up → f.stamp.port ≡ control_port → is_reply f ≡ false → IsHeeded n c m
  pub noticed : is_noticed l.host ≡ true → IsHeeded n c m
  pub coming : IsComing l → IsComing m
  pub said : c.order ≡ Scan → c.asked ≡ true → IsSaid (HasBit n) l → IsComing m ⊎ IsSaid (HasBit n) m

to_come : (asked : Bool) (l m : Line) → (IsComing l → IsComing m) → IsToCome asked l → IsToCome asked m
to_come asked l m coming (inl unasked) = inl unasked
to_come asked l m coming (inr comes) = inr (coming comes)

pub heeded_keeps : (n : ℕ) (c : Control) (l m : Line) → KeepsHeeded n c l m → IsHeeded n c l → IsHeeded n c m
heeded_keeps n c l m k (Early is) = Early is
heeded_keeps n c l m k (IsDue due) = k.due due
heeded_keeps n c l m k (Notifies f there own none) = k.notifies f there own none
heeded_keeps n c l m k (IsNoticed is) = k.noticed is
heeded_keeps n c l m k (IsScanned order comes) = IsScanned order (to_come c.asked l m k.coming comes)
heeded_keeps n c l m k (IsNamed order asked said) = elim (k.said order asked said) [ inl comes ↦ IsScanned order (inr comes) | inr still ↦ IsNamed order asked still ]
heeded_keeps n c l m k (IsCleared order comes) = IsCleared order (to_come c.asked l m k.coming comes)
heeded_keeps n c l m k (IsListed j at less bit) = IsListed j at less bit

-- before the first scan it is; from there on notifications are on
pub early_or_on : (o : Order) (m : RegisterMap) (count : ℕ) → Upto o m count → (is_early o ≡ true) ⊎ (notifies m ≡ true)
early_or_on Scan m count u = inr u.0.notifies_on
early_or_on (Clear port) m count u = inr u.0.notifies_on
early_or_on (Detect port) m count u = inr u.0.notifies_on
early_or_on Watch m count u = inr u.0.notifies_on
early_or_on o m count u = inl refl

-- ---- orders are apart

pub scan_early : {P : Type 0} (o p : Order) → o ≡ p → is_early p ≡ false → is_early o ≡ true → P
scan_early o p is late early = absurd (false≢true (sym late ∙ ap is_early (sym is) ∙ early))

abbrev is_scanning : Order → Bool
is_scanning Scan = true
is_scanning o = false

abbrev cleared_port : Order → Option ℕ
cleared_port (Clear k) = Some k
cleared_port o = None

abbrev detected_port : Order → Option ℕ
detected_port (Detect k) = Some k
detected_port o = None

pub not_scan : {P : Type 0} (o p : Order) → o ≡ p → is_scanning p ≡ false → o ≡ Scan → P
not_scan o p is other scan = absurd (false≢true (sym other ∙ ap is_scanning (sym is ∙ scan)))

same_number : (a b : ℕ) → Some a ≡ Some b → a ≡ b
same_number a b e = cc

none_number : {P : Type 0} (a : ℕ) → None ≡ Some a → P
none_number a e = absurd (cc)

pub clear_same : (o : Order) (k n : ℕ) → o ≡ Clear k → o ≡ Clear n → k ≡ n
clear_same o k n is clear = same_number k n (ap cleared_port (sym is ∙ clear))

pub not_clear : {P : Type 0} (o p : Order) (n : ℕ) → o ≡ p → cleared_port p ≡ None → o ≡ Clear n → P
not_clear o p n is other clear = none_number n (sym other ∙ ap cleared_port (sym is ∙ clear))

not_detect : {P : Type 0} (o p : Order) (n : ℕ) → o ≡ p → detected_port p ≡ None → o ≡ Detect n → P
not_detect o p n is other detect = none_number n (sym other ∙ ap detected_port (sym is ∙ detect))

pub not_at : {P : Type 0} (o p : Order) (k : ℕ) → o ≡ p → cleared_port p ≡ None → detected_port p ≡ None → IsAtPort o k → P
not_at o p k is other another (inl clear) = not_clear o p k is other clear
not_at o p k is other another (inr detect) = not_detect o p k is another detect

-- a scan or a clearing of a port that is asked for is a command
pub scan_command : (o : Order) (asked : Bool) → o ≡ Scan → asked ≡ true → IsCommand o asked
scan_command o asked is asks = record { asks = asks; on = ap is_on is; off = ap is_off is }

pub clear_command : (o : Order) (asked : Bool) (n : ℕ) → o ≡ Clear n → asked ≡ true → IsCommand o asked
clear_command o asked n is asks = record { asks = asks; on = ap is_on is; off = ap is_off is }

-- and one that is no command is not asked for
pub scan_unasked : (o : Order) (asked : Bool) → o ≡ Scan → is_asking o asked ≡ false → asked ≡ false
scan_unasked o asked is plain = by_asked asked (ap (λ (x : Order). is_asking x asked) (sym is) ∙ plain)
  where
    by_asked : (a : Bool) → is_asking Scan a ≡ false → a ≡ false
    by_asked true p = absurd (true≢false p)
    by_asked false p = refl

pub clear_unasked : (o : Order) (asked : Bool) (n : ℕ) → o ≡ Clear n → is_asking o asked ≡ false → asked ≡ false
clear_unasked o asked n is plain = by_asked asked (ap (λ (x : Order). is_asking x asked) (sym is) ∙ plain)
  where
    by_asked : (a : Bool) → is_asking (Clear n) a ≡ false → a ≡ false
    by_asked true p = absurd (true≢false p)
    by_asked false p = refl

-- ---- the driver looks at what came

-- slot 31 with an order
abbrev with_order : Order → Bool → (ports found : ℕ) → Control
with_order order asked ports found = record { order = order; asked = asked; ports = ports; found = found }

-- the port was found, and the scan may come to it
abbrev is_next : (found from : ℕ) → ℕ → Bool
is_next found from port = nat_le from port && has_bit found port

module _ (l : Line) (n : ℕ) (low : n < 15) (ports : ℕ) where
  -- the scan goes on with the lowest port that was found, which is this one, or is below it
  scanned_heeded : (found from : ℕ) → from ≤ n → has_bit found n ≡ true → IsHeeded n (with_order (scan_from found from) false ports found) l
  unfolding scan_from
  scanned_heeded found from least bit = by_lowest (lowest_below (is_next found from) 15) refl
    where
      its : is_next found from n ≡ true
      its = and_from (nat_le from n) (has_bit found n) (le-leb from n least) bit

      by_lowest : (o : Option ℕ) → lowest_below (is_next found from) 15 ≡ o → IsHeeded n (with_order (match_some o Watch Clear) false ports found) l
      by_lowest None none = absurd (true≢false (sym its ∙ none_below (is_next found from) 15 none n low))
      by_lowest (Some k) is = elim (cases_lt n k) [
        | inl less ↦ absurd (true≢false (sym its ∙ lowest_before (is_next found from) 15 k n is less))
        | inr most ↦ elim (cases_eq k n) [
          | inl same ↦ IsCleared (ap Clear same) (inl refl)
          | inr apart ↦ IsListed k (inl refl) (omega (arith, most, apart)) bit
        ]
      ]

  -- an order without a command may be over
  met_heeded : (v : Sight) (found : ℕ) (o : Order) → IsHeeded n (with_order o false ports found) l → IsHeeded n (with_order (met_order v o) false ports found) l
  unfolding met_order
  met_heeded v found AwaitSignature h =
      either (λ (x : Order). IsHeeded n (with_order x false ports found) l) v.resetting AwaitSignature _ (Early refl)
      (either (λ (x : Order). IsHeeded n (with_order x false ports found) l) (v.answer == 0x96690101) CountPorts ResetOn (Early refl) (Early refl))
  met_heeded v found Watch h = either (λ (x : Order). IsHeeded n (with_order x false ports found) l) v.notified Scan Watch (IsScanned refl (inl refl)) h
  met_heeded v found o h = h

module _ (l : Line) (g : IsGood l) (n : ℕ) (low : n < 15) (was : IsHeeded n (control_in l.host.driver.plan) l) where
  abbrev p : Plan
  p = l.host.driver.plan

  abbrev v : Sight
  v = sight_in l.host

  -- the answer to an order came
  module _ (asked : p.asked ≡ true) (free : IsFree31 (control_of l.host)) where
    never : {P : Type 0} → IsCommand p.order p.asked → IsToCome p.asked l → P
    never k (inl unasked) = absurd (true≢false (sym asked ∙ unasked))
    never k (inr comes) = absurd (never_coming l g free k comes)

    answered : (told : IsSaid (HasBit n) l → p.order ≡ Scan → has_bit v.answer n ≡ true) (c : Control)
        → (p.order ≡ Scan → has_bit v.answer n ≡ true → IsHeeded n c l) → ((k : ℕ) → IsAtPort p.order k → k < n → has_bit p.found n ≡ true → IsHeeded n c l) → (is_early p.order ≡ true → IsHeeded n c l) → IsHeeded n c l
    answered told c scan listed early = by_way was
      where
        by_way : IsHeeded n (control_in p) l → IsHeeded n c l
        by_way (Early is) = early is
        by_way (IsDue due) = IsDue due
        by_way (Notifies f there own none) = Notifies f there own none
        by_way (IsNoticed is) = IsNoticed is
        by_way (IsScanned order comes) = never (scan_command p.order p.asked order asked) comes
        by_way (IsNamed order asks said) = scan order (told said order)
        by_way (IsCleared order comes) = never (clear_command p.order p.asked n order asked) comes
        by_way (IsListed k at less bit) = listed k at less bit

    told_bit : IsSaid (HasBit n) l → p.order ≡ Scan → has_bit v.answer n ≡ true
    told_bit said order = ap (λ (value : ℕ). has_bit value n) (told_seen l.host g.going g.stage g.at asked) ∙ said_now l g free (scan_command p.order p.asked order asked) (HasBit n) said

    next_heeded : (o : Order) → p.order ≡ o
        → IsHeeded n (with_order (next_order (noted v o p).ports (noted v o p).found o) false (noted v o p).ports (noted v o p).found) l
    unfolding next_order noted
    next_heeded Enable is = either (λ (x : Order). IsHeeded n (with_order x false p.ports p.found) l) (nat_lt 0 p.ports) (Open 0) Scan (Early refl) (IsScanned refl (inl refl))
    next_heeded (Open k) is = either (λ (x : Order). IsHeeded n (with_order x false p.ports p.found) l) (nat_lt (k + 1) p.ports) (Open (k + 1)) Scan (Early refl) (IsScanned refl (inl refl))
    next_heeded Scan is =
        answered told_bit (with_order (scan_from v.answer 0) false p.ports v.answer) (λ order bit. scanned_heeded l n low p.ports v.answer 0 (omega arith) bit)
        (λ k at. not_at p.order Scan k is refl refl at) (λ early. scan_early p.order Scan is refl early)
    next_heeded (Clear k) is =
        answered told_bit (with_order (Detect k) false p.ports p.found) (λ order. not_scan p.order (Clear k) is refl order)
        (λ j at less bit. elim at [
          | inl clear ↦ IsListed k (inr refl) (subst (λ (x : ℕ). x < n) (sym (clear_same p.order k j is clear)) less) bit
          | inr detect ↦ not_detect p.order (Clear k) j is refl detect
        ]) (λ early. scan_early p.order (Clear k) is refl early)
    next_heeded (Detect k) is =
        answered told_bit (with_order (scan_from p.found (k + 1)) false p.ports p.found) (λ order. not_scan p.order (Detect k) is refl order)
        (λ j at less bit. elim at [
          | inl clear ↦ not_clear p.order (Detect k) j is refl clear
          | inr detect ↦
              let same : k ≡ j = same_number k j (ap detected_port (sym is ∙ detect)) in
              scanned_heeded l n low p.ports p.found (k + 1) (omega (arith, less, same)) bit
        ]) (λ early. scan_early p.order (Detect k) is refl early)
    next_heeded Watch is = IsScanned refl (inl refl)
    next_heeded other is = Early refl

  -- what is known of slot 31 then
  pub seen_heeded : IsHeeded n (seen_in l.host) l
  seen_heeded = elim (cases_Bool p.asked) [
    | inr unasked ↦
        subst (λ (q : Plan). IsHeeded n (control_in q) l) (sym (seen_unasked v p unasked))
        (subst (λ (b : Bool). IsHeeded n (with_order (met_order v p.order) b p.ports p.found) l) (sym unasked)
        (met_heeded l n low p.ports v p.found p.order (subst (λ (b : Bool). IsHeeded n (with_order p.order b p.ports p.found) l) unasked was)))
    | inl asked ↦ elim (cases_Bool (has_bit v.issued 31)) [
      | inl on ↦ subst (λ (q : Plan). IsHeeded n (control_in q) l) (sym (seen_out v p asked on)) was
      | inr off ↦
          let q : Plan = noted v p.order p in
          subst (λ (x : Plan). IsHeeded n (control_in x) l) (sym (seen_free v p asked off))
          (met_heeded l n low q.ports v q.found (next_order q.ports q.found p.order) (next_heeded asked (free_seen l.host g.going off) p.order refl))
    ]
  ]
