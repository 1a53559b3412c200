-- What is true after any list of calls.
use Rattle.std.proofs.Common.{◌≡◌, ◌≢◌, ◌⊎◌, ◌↔◌, ℕ, zero, suc, ◌+◌, ◌-◌, ◌*◌, ◌/◌, ◌%◌, ◌^◌, ◌<◌, ◌≤◌, min, max, Bool, true, false, not, ◌==◌, ◌&&◌}
use Rattle.std.proofs.Common.{◌||◌, if◌then◌else◌, List, [], ◌∷◌, ◌++◌, All, length, refl, sym, ap, ◌∙◌, subst, arith, inl, inr, Option, is_some}
use Rattle.std.proofs.{Common.{bit_and, bit_or, get_or-set_other, get_or-set_same, slice_index_or}, lemmas.Bool.{cases_eq, cases_lt, ne_eqb}}
use Rattle.std.proofs.lemmas.{Bool.{eqb-false, not-true, both_ways}, Nat.Bits.{bit_at_lowest, bit_at-suc, bit_at-zero, bit_at-lt, bit_at_and}}
use Rattle.std.proofs.lemmas.{Nat.Bits.{bit_at_or, bit_at_xor, bit_at_above, bit_at_cat_low, bit_at_cat_high, and_pow}, List.Elements.{All-nil}}
use Rattle.std.proofs.lemmas.List.{Elements.{All-cons, All-head, All-tail}, set_past}
use Rattle.std.specs.{Prelude.unwrap_or, Int.bit_at}
use Rattle.pm_registers.specs.{declared.port.PortRegisters.PortRegisters, Bits.{without, shares, rises, bits_where}, Port.{opening_port, bit_n}}
use Rattle.pm_registers.specs.{Port.{bit_x, port_written, controlled, inserted, removed, raised, met, opened, is_open, det}, RegisterMap.RegisterMap}
use Rattle.pm_registers.specs.{RegisterMap.{port_at, asks, summary, register_at, with_port, notifies, settled, control_written, written}, Calls.Call}
use Rattle.pm_registers.specs.Calls.{Writes, Inserts, Removes, Raises, Notices, Restores, called, after, value_at, HasBit, SummaryAgrees, Notifies}
use Rattle.pm_registers.specs.Calls.{MakesDue, NotifiedSince, ClearedByOnes}
use Rattle.pm_registers.proofs.{BitLemmas.bits_where_fits, RegisterLemmas.{either, register_of_device, write_ports, written_due, control_bank}}

-- ---- bits

-- a number that is not 0 has a bit
some_bit : (most x : ℕ) → x ≤ most → 0 < x → (k : ℕ) × (bit_at x k ≡ 1)
some_bit zero x small some = absurd (omega arith)
some_bit (suc most) x small some =
    elim (cases_eq (x % 2) 1) [
      | inl odd ↦ (0, bit_at_lowest x ∙ odd)
      | inr even ↦ let half = some_bit most (x / 2) (omega arith) (omega arith) in (suc half.0, bit_at-suc x half.0 ∙ half.1)
    ]

positive : (x : ℕ) → x ≢ 0 → 0 < x
positive x h = omega arith

both_set : (a b : ℕ) → min a b ≡ 1 → a < 2 → b < 2 → (a ≡ 1) × (b ≡ 1)
both_set a b h small other = (omega arith, omega arith)

-- a shared bit
shared_bit : (x y : ℕ) → shares x y ≡ true → (k : ℕ) × (bit_at x k ≡ 1) × (bit_at y k ≡ 1)
shared_bit x y h =
    let some : bit_and x y ≢ 0 = eqb-false (bit_and x y) 0 (not-true (bit_and x y == 0) h) in
    let b = some_bit (bit_and x y) (bit_and x y) (omega arith) (positive (bit_and x y) some) in
    let two = both_set (bit_at x b.0) (bit_at y b.0) (sym (bit_at_and x y b.0) ∙ b.1) (bit_at-lt x b.0) (bit_at-lt y b.0) in
    (b.0, two.0, two.1)

one_not_zero : (x : ℕ) → x ≡ 1 → x ≡ 0 → ⊥
one_not_zero x h g = absurd (omega arith)

bits_shared : (x y k : ℕ) → bit_at x k ≡ 1 → bit_at y k ≡ 1 → shares x y ≡ true
bits_shared x y k h g =
    let set : bit_at (bit_and x y) k ≡ 1 = bit_at_and x y k ∙ ap (λ (a : ℕ). min a (bit_at y k)) h ∙ ap (λ (b : ℕ). min 1 b) g in
    let some : bit_and x y ≢ 0 = λ e. one_not_zero (bit_at (bit_and x y) k) set (ap (λ (z : ℕ). bit_at z k) e ∙ bit_at-zero k) in
    ap not (ne_eqb (bit_and x y) 0 some)

only_first : (a b : ℕ) → (a + min a b) % 2 ≡ 1 → a < 2 → b < 2 → (b ≡ 0) × (a ≡ 1)
only_first a b h small other = (omega arith, omega arith)

bit_at_without : (x y k : ℕ) → bit_at (without x y) k ≡ (bit_at x k + min (bit_at x k) (bit_at y k)) % 2
bit_at_without x y k = bit_at_xor x (bit_and x y) k ∙ ap (λ (b : ℕ). (bit_at x k + b) % 2) (bit_at_and x y k)

risen_bit : (old new : ℕ) → rises old new ≡ true → (k : ℕ) × (bit_at old k ≡ 0) × (bit_at new k ≡ 1)
risen_bit old new h =
    let some : without new old ≢ 0 = eqb-false (without new old) 0 (not-true (without new old == 0) h) in
    let b = some_bit (without new old) (without new old) (omega arith) (positive (without new old) some) in
    let two = only_first (bit_at new b.0) (bit_at old b.0) (sym (bit_at_without new old b.0) ∙ b.1) (bit_at-lt new b.0) (bit_at-lt old b.0) in
    (b.0, two.0, two.1)

bit_rises : (old new k : ℕ) → bit_at old k ≡ 0 → bit_at new k ≡ 1 → rises old new ≡ true
bit_rises old new k h g =
    let set : bit_at (without new old) k ≡ 1 = bit_at_without new old k ∙ ap (λ (a : ℕ). (a + min a (bit_at old k)) % 2) g ∙ ap (λ (b : ℕ). (1 + min 1 b) % 2) h in
    let some : without new old ≢ 0 = λ e. one_not_zero (bit_at (without new old) k) set (ap (λ (z : ℕ). bit_at z k) e ∙ bit_at-zero k) in
    ap not (ne_eqb (without new old) 0 some)

-- the bits of the number of a test
bit_of_test : (test : ℕ → Bool) (n k : ℕ) → k < n → bit_at (bits_where test n) k ≡ (if test k then 1 else 0)
unfolding bits_where
bit_of_test test zero k h = absurd (omega arith)
bit_of_test test (suc n) k h =
    let one : ℕ = (if test n then 1 else 0) in
    let sum : bits_where test n + (if test n then 2 ^ n else 0) ≡ one * 2 ^ n + bits_where test n =
    elim (test n) as (λ b. bits_where test n + (if b then 2 ^ n else 0) ≡ (if b then 1 else 0) * 2 ^ n + bits_where test n) [ true ↦ omega arith | false ↦ omega arith ] in
    ap (λ (x : ℕ). bit_at x k) sum ∙ elim (cases_lt k n) [
      | inl below ↦ bit_at_cat_low one n (bits_where test n) k below ∙ bit_of_test test n k below
      | inr at_top ↦
          let e : k ≡ n = omega arith in
          let zero_left : k - n ≡ 0 = omega arith in
          bit_at_cat_high one n (bits_where test n) k (bits_where_fits test n) at_top ∙ ap (bit_at one) zero_left ∙ bit_at_lowest one
          ∙ elim (test n) as (λ b. (if b then 1 else 0) % 2 ≡ (if b then 1 else 0)) [ true ↦ refl | false ↦ refl ] ∙ ap (λ (j : ℕ). if test j then 1 else 0) (sym e)
    ]

chosen : (b : Bool) → ◌≡◌ {A = ℕ} (if b then 1 else 0) 1 → b ≡ true
chosen true h = refl
chosen false h = absurd (omega arith)

test_of_bit : (test : ℕ → Bool) (n k : ℕ) → bit_at (bits_where test n) k ≡ 1 → (k < n) × (test k ≡ true)
test_of_bit test n k h = elim (cases_lt k n) [
  | inl below ↦ (below, chosen (test k) (sym (bit_of_test test n k below) ∙ h))
  | inr above ↦ absurd (one_not_zero (bit_at (bits_where test n) k) h (bit_at_above (bits_where test n) n k (bits_where_fits test n) above))
]

-- ---- the summary

error_at : (m : RegisterMap) (n : ℕ) → m.ports ≤ 15 → n < m.ports → value_at m n 1 ≡ (port_at m n).error
error_at m n most within =
    let device : n ≢ 15 = λ e. absurd (omega arith) in
    ap (λ (o : Option ℕ). unwrap_or o 0) (register_of_device m n 1 device within)

pub summary_agrees : (m : RegisterMap) → m.ports ≤ 15 → SummaryAgrees m
summary_agrees m most n = (forward, backward)
  where
    forward : HasBit m 15 32 n → (n < m.ports) × (k : ℕ) × HasBit m n 1 k × HasBit m 15 33 k
    forward h =
        let t = test_of_bit (asks m) m.ports n h in
        let b = shared_bit (port_at m n).error m.mask t.1 in
        (t.0, b.0, ap (λ (x : ℕ). bit_at x b.0) (error_at m n most t.0) ∙ b.1, b.2)

    backward : (n < m.ports) × (k : ℕ) × HasBit m n 1 k × HasBit m 15 33 k → HasBit m 15 32 n
    backward (within, k, h, g) =
        let set : asks m n ≡ true = bits_shared (port_at m n).error m.mask k (ap (λ (x : ℕ). bit_at x k) (sym (error_at m n most within)) ∙ h) g in
        bit_of_test (asks m) m.ports n within ∙ ap (λ (b : Bool). if b then 1 else 0) set

-- ---- the ports stay as many

called_ports : (m : RegisterMap) (call : Call) → (called m call).ports ≡ m.ports
called_ports m (Writes port register value) = write_ports m port register value
called_ports m (Inserts n) = refl
called_ports m (Removes n) = refl
called_ports m (Raises n bits) = refl
called_ports m Notices = refl
called_ports m Restores = refl

pub ports_after : (m : RegisterMap) (calls : List Call) → (after m calls).ports ≡ m.ports
unfolding after
ports_after m [] = refl
ports_after m (call ∷ calls) = ports_after (called m call) calls ∙ called_ports m call

-- ---- when a notification is due

-- bit 3 of GSCR[96]
enabled_bit : (m : RegisterMap) → notifies m ≡ true → HasBit m 15 96 3
enabled_bit m h =
    let some : bit_and m.enabled 8 ≢ 0 = eqb-false (bit_and m.enabled 8) 0 (not-true (bit_and m.enabled 8 == 0) h) in
    let e : bit_and m.enabled 8 ≡ bit_at m.enabled 3 * 8 = and_pow m.enabled 3 in
    let small : bit_at m.enabled 3 < 2 = bit_at-lt m.enabled 3 in
    elim (cases_eq (bit_at m.enabled 3) 1) [ inl one ↦ one | inr ne ↦ absurd (omega arith) ]

bit_enabled : (m : RegisterMap) → HasBit m 15 96 3 → notifies m ≡ true
bit_enabled m h =
    let e : bit_and m.enabled 8 ≡ bit_at m.enabled 3 * 8 = and_pow m.enabled 3 in
    let some : bit_and m.enabled 8 ≢ 0 = λ z. absurd (omega arith) in
    ap not (ne_eqb (bit_and m.enabled 8) 0 some)

or_true : (a b : Bool) → a || b ≡ true → (a ≡ true) ⊎ (b ≡ true)
or_true true b h = inl refl
or_true false b h = inr h

and_true : (a b : Bool) → a && b ≡ true → (a ≡ true) × (b ≡ true)
and_true true b h = (refl, h)
and_true false b h = cc

settled_due : (m next : RegisterMap) → next.due ≡ m.due → (settled (summary m) next).due ≡ true → (m.due ≡ true) ⊎ Notifies m (settled (summary m) next)
settled_due m next same h =
    elim (or_true next.due (notifies next && rises (summary m) (summary next)) h) [
      | inl was ↦ inl (sym same ∙ was)
      | inr now ↦
          let two = and_true (notifies next) (rises (summary m) (summary next)) now in
          let b = risen_bit (summary m) (summary next) two.1 in
          inr (enabled_bit next two.0, b.0, b.1, b.2)
    ]

due_settled : (m next : RegisterMap) → next.due ≡ m.due → (m.due ≡ true) ⊎ Notifies m (settled (summary m) next) → (settled (summary m) next).due ≡ true
due_settled m next same (inl was) = ap (λ (b : Bool). b || notifies next && rises (summary m) (summary next)) (same ∙ was)
due_settled m next same (inr (enabled, n, low, high)) =
    let first : notifies next ≡ true = bit_enabled next enabled in
    let second : rises (summary m) (summary next) ≡ true = bit_rises (summary m) (summary next) n low high in
    ap (λ (b : Bool). next.due || b && rises (summary m) (summary next)) first ∙ ap (λ (b : Bool). next.due || b) second ∙ or_right next.due
  where
    or_right : (b : Bool) → b || true ≡ true
    or_right true = refl
    or_right false = refl

-- nothing notifies that changes nothing
no_notice : (m : RegisterMap) → Notifies m m → ⊥
no_notice m (enabled, n, low, high) = one_not_zero (bit_at (summary m) n) high low

-- the mark after a call that is no notice
abbrev Marks : RegisterMap → RegisterMap → Type 0
Marks m next = (next.due ≡ true) ↔ ((m.due ≡ true) ⊎ Notifies m next)

settled_marks : (m next : RegisterMap) → next.due ≡ m.due → Marks m (settled (summary m) next)
settled_marks m next same = (settled_due m next same, due_settled m next same)

same_marks : (m : RegisterMap) → Marks m m
same_marks m = (λ h. inl h, λ e. elim e [ inl h ↦ h | inr n ↦ absurd (no_notice m n) ])

-- the mark after a call that is no notice, by the call
abbrev MarksBy : RegisterMap → Call → RegisterMap → Type 0
MarksBy m call next = (next.due ≡ true) ↔ ((m.due ≡ true) ⊎ MakesDue call m next)

no_restore : (m next : RegisterMap) (call : Call) → call ≢ Restores → Marks m next → MarksBy m call next
no_restore m next call other marks = (forward, backward)
  where
    forward : next.due ≡ true → (m.due ≡ true) ⊎ MakesDue call m next
    forward h = elim (marks.0 h) [ inl was ↦ inl was | inr now ↦ inr (inl now) ]

    backward : (m.due ≡ true) ⊎ MakesDue call m next → next.due ≡ true
    backward (inl was) = marks.1 (inl was)
    backward (inr (inl now)) = marks.1 (inr now)
    backward (inr (inr e)) = absurd (other e)

call_marks : (m : RegisterMap) (call : Call) → call ≢ Notices → MarksBy m call (called m call)
call_marks m (Writes port register value) h =
    no_restore m (called m (Writes port register value)) (Writes port register value) (λ e. cc)
    (either (Marks m) (is_some (register_at m port register)) (settled (summary m) (written m port register value)) m
    (settled_marks m (written m port register value) (written_due m port register value)) (same_marks m))
call_marks m (Inserts n) h = no_restore m (called m (Inserts n)) (Inserts n) (λ e. cc) (settled_marks m (with_port m n (inserted (port_at m n))) refl)
call_marks m (Removes n) h = no_restore m (called m (Removes n)) (Removes n) (λ e. cc) (settled_marks m (with_port m n (removed (port_at m n))) refl)
call_marks m (Raises n bits) h = no_restore m (called m (Raises n bits)) (Raises n bits) (λ e. cc) (settled_marks m (with_port m n (raised (port_at m n) bits)) refl)
call_marks m Notices h = absurd (h refl)
call_marks m Restores h = (λ due. inr (inr refl), λ cause. refl)

is_call : (m : RegisterMap) (call : Call) → (called m call).due ≡ true → call ≢ Notices
is_call m (Writes port register value) h = λ e. cc
is_call m (Inserts n) h = λ e. cc
is_call m (Removes n) h = λ e. cc
is_call m (Raises n bits) h = λ e. cc
is_call m Notices h = cc
is_call m Restores h = λ e. cc

abbrev NoNotice : Call → Type 0
NoNotice call = call ≢ Notices

due_forward : (m : RegisterMap) (calls : List Call) → (after m calls).due ≡ true → ((m.due ≡ true) × All NoNotice calls) ⊎ NotifiedSince m calls
unfolding after
due_forward m [] h = inl (h, All-nil NoNotice)
due_forward m (call ∷ calls) h = elim (due_forward (called m call) calls h) [
  | inl rest ↦
      let other = is_call m call rest.0 in
      elim ((call_marks m call other).0 rest.0) [
        | inl was ↦ inl (was, All-cons NoNotice call calls other rest.1)
        | inr now ↦ inr ([], call, calls, refl, All-cons NoNotice call calls other rest.1, now)
      ]
  | inr (before, last, since, split, none, now) ↦ inr (call ∷ before, last, since, ap (λ (cs : List Call). call ∷ cs) split, none, now)
]

due_backward : (m : RegisterMap) (calls : List Call) → ((m.due ≡ true) × All NoNotice calls) ⊎ NotifiedSince m calls → (after m calls).due ≡ true
unfolding after
due_backward m [] (inl (h, none)) = h
due_backward m [] (inr ([], last, since, split, none, now)) = cc
due_backward m [] (inr (b ∷ before, last, since, split, none, now)) = cc
due_backward m (call ∷ calls) (inl (h, none)) =
    due_backward (called m call) calls (inl ((call_marks m call (All-head NoNotice call calls none)).1 (inl h), All-tail NoNotice call calls none))
due_backward m (call ∷ calls) (inr ([], last, since, split, none, now)) =
    let first : call ≡ last = cc in
    let rest : calls ≡ since = cc in
    let noted : MakesDue call m (called m call) = subst (λ (c : Call). MakesDue c m (called m c)) (sym first) now in
    let other : call ≢ Notices = subst NoNotice (sym first) (All-head NoNotice last since none) in
    due_backward (called m call) calls (inl ((call_marks m call other).1 (inr noted), subst (All NoNotice) (sym rest) (All-tail NoNotice last since none)))
due_backward m (call ∷ calls) (inr (b ∷ before, last, since, split, none, now)) =
    let first : b ≡ call = cc in
    let rest : calls ≡ before ++ last ∷ since = cc in
    let noted : MakesDue last (after (called m call) before) (after (called m call) (before ++ last ∷ [])) =
    subst (λ (c : Call). MakesDue last (after (called m c) before) (after (called m c) (before ++ last ∷ []))) first now in
    due_backward (called m call) calls (inr (before, last, since, rest, none, noted))

pub due_since : (m : RegisterMap) → m.due ≡ false → (calls : List Call) → ((after m calls).due ≡ true) ↔ NotifiedSince m calls
due_since m none calls = (forward, λ h. due_backward m calls (inr h))
  where
    forward : (after m calls).due ≡ true → NotifiedSince m calls
    forward h = elim (due_forward m calls h) [ inl rest ↦ absurd (both_ways m.due none rest.0) | inr since ↦ since ]

-- ---- bits of SError

-- each bit of SError stays
abbrev Keeps : PortRegisters → PortRegisters → Type 0
Keeps p q = (k : ℕ) → bit_at p.error k ≡ 1 → bit_at q.error k ≡ 1

at_most_one : (a b : ℕ) → a ≡ 1 → b < 2 → max a b ≡ 1
at_most_one a b h small = omega arith

or_keeps : (x y k : ℕ) → bit_at x k ≡ 1 → bit_at (bit_or x y) k ≡ 1
or_keeps x y k h = bit_at_or x y k ∙ at_most_one (bit_at x k) (bit_at y k) h (bit_at-lt y k)

met_keeps : (p : PortRegisters) → Keeps p (met p)
met_keeps p k h = or_keeps (bit_or p.error bit_n) bit_x k (or_keeps p.error bit_n k h)

controlled_keeps : (p : PortRegisters) (value : ℕ) → Keeps p (controlled p value)
controlled_keeps p value =
    let next : PortRegisters = record p { control = value } in
    either (Keeps p) (value % 16 == 0) (if is_open p then next else opened next) (record next { status = (if det value == 4 then 4 else 0) })
    (either (Keeps p) (is_open p) next (opened next) (λ k h. h) (either (Keeps p) p.present (met next) (record next { status = 0 }) (met_keeps next) (λ k h. h))) (λ k h. h)

inserted_keeps : (p : PortRegisters) → Keeps p (inserted p)
inserted_keeps p =
    let next : PortRegisters = record p { present = true } in
    either (Keeps p) (is_open p) (met next) next (met_keeps next) (λ k h. h)

removed_keeps : (p : PortRegisters) → Keeps p (removed p)
removed_keeps p =
    let next : PortRegisters = record p { present = false } in
    either (Keeps p) (is_open p) (record next { status = 0; error = bit_or p.error bit_n }) next (λ k h. or_keeps p.error bit_n k h) (λ k h. h)

-- a port after another's registers were changed, or its own
port_after : (m : RegisterMap) (n i : ℕ) (q : PortRegisters) → Keeps (port_at m i) q → Keeps (port_at m n) (port_at (with_port m i q) n)
port_after m n i q keeps = elim (cases_eq n i) [
  | inl e ↦ elim (cases_lt i (length m.bank)) [
    | inl within ↦
        let same : port_at (with_port m i q) n ≡ q = ap (λ (j : ℕ). port_at (with_port m i q) j) e ∙ get_or-set_same m.bank i q opening_port within in
        λ k h. ap (λ (p : PortRegisters). bit_at p.error k) same ∙ keeps k (ap (λ (j : ℕ). bit_at (port_at m j).error k) (sym e) ∙ h)
    | inr past ↦ λ k h. ap (λ (b : List PortRegisters). bit_at (slice_index_or b n opening_port).error k) (set_past m.bank i q past) ∙ h
  ]
  | inr ne ↦ λ k h. ap (λ (p : PortRegisters). bit_at p.error k) (get_or-set_other m.bank i n q opening_port ne) ∙ h
]

-- what a write to a port clears
abbrev Clears : Call → ℕ → ℕ → Type 0
Clears call n k = (value : ℕ) × (call ≡ Writes n 1 value) × (bit_at value k ≡ 1)

abbrev KeepsOrClears : RegisterMap → Call → RegisterMap → ℕ → ℕ → Type 0
KeepsOrClears m call next n k = bit_at (port_at m n).error k ≡ 1 → (bit_at (port_at next n).error k ≡ 1) ⊎ Clears call n k

cleared_bit : (x v k : ℕ) → bit_at x k ≡ 1 → (bit_at (without x v) k ≡ 1) ⊎ (bit_at v k ≡ 1)
cleared_bit x v k h =
    let small : bit_at v k < 2 = bit_at-lt v k in
    elim (cases_eq (bit_at v k) 1) [
      | inl one ↦ inr one
      | inr ne ↦ inl (bit_at_without x v k ∙ omega arith)
    ]

error_written : (m : RegisterMap) (n port value k : ℕ) → KeepsOrClears m (Writes port 1 value) (with_port m port (record (port_at m port) { error = without (port_at m port).error value })) n k
error_written m n port value k h =
    let q : PortRegisters = record (port_at m port) { error = without (port_at m port).error value } in
    elim (cases_eq n port) [
      | inl e ↦
          let own : bit_at (port_at m port).error k ≡ 1 = ap (λ (j : ℕ). bit_at (port_at m j).error k) (sym e) ∙ h in
          elim (cleared_bit (port_at m port).error value k own) [
            | inl stays ↦ inl (elim (cases_lt port (length m.bank)) [
              | inl within ↦ ap (λ (j : ℕ). bit_at (port_at (with_port m port q) j).error k) e ∙ ap (λ (p : PortRegisters). bit_at p.error k) (get_or-set_same m.bank port q opening_port within) ∙ stays
              | inr past ↦ ap (λ (b : List PortRegisters). bit_at (slice_index_or b n opening_port).error k) (set_past m.bank port q past) ∙ h
            ])
            | inr one ↦ inr (value, ap (λ (j : ℕ). Writes j 1 value) (sym e), one)
          ]
      | inr ne ↦ inl (ap (λ (p : PortRegisters). bit_at p.error k) (get_or-set_other m.bank port n q opening_port ne) ∙ h)
    ]

device_written : (m : RegisterMap) (n port register value k : ℕ) → KeepsOrClears m (Writes port register value) (with_port m port (port_written (port_at m port) register value)) n k
device_written m n port register value k = elim (cases_eq register 1) [
  | inl e ↦
      let P : ℕ → Type 0 = λ r. KeepsOrClears m (Writes port r value) (with_port m port (port_written (port_at m port) r value)) n k in
      subst P (sym e) (error_written m n port value k)
  | inr ne ↦
      let P : PortRegisters → Type 0 = Keeps (port_at m port) in
      let p : PortRegisters = port_at m port in
      let keeps : Keeps p (port_written p register value) =
      rw (ne_eqb register 1 ne) (either P (register == 2) (controlled p value) p (controlled_keeps p value) (λ j h. h)) in
      λ h. inl (port_after m n port (port_written p register value) keeps k h)
]

write_clears : (m : RegisterMap) (n port register value k : ℕ) → KeepsOrClears m (Writes port register value) (written m port register value) n k
write_clears m n port register value k =
    let P : RegisterMap → Type 0 = λ x. KeepsOrClears m (Writes port register value) x n k in
    either P (port == 15) (control_written m register value) (with_port m port (port_written (port_at m port) register value))
    (λ h. inl (ap (λ (b : List PortRegisters). bit_at (slice_index_or b n opening_port).error k) (control_bank m register value) ∙ h))
    (device_written m n port register value k)

call_clears : (m : RegisterMap) (call : Call) (n k : ℕ) → KeepsOrClears m call (called m call) n k
call_clears m (Writes port register value) n k =
    let P : RegisterMap → Type 0 = λ x. KeepsOrClears m (Writes port register value) x n k in
    either P (is_some (register_at m port register)) (settled (summary m) (written m port register value)) m (write_clears m n port register value k) (λ h. inl h)
call_clears m (Inserts i) n k = λ h. inl (port_after m n i (inserted (port_at m i)) (inserted_keeps (port_at m i)) k h)
call_clears m (Removes i) n k = λ h. inl (port_after m n i (removed (port_at m i)) (removed_keeps (port_at m i)) k h)
call_clears m (Raises i bits) n k = λ h. inl (port_after m n i (raised (port_at m i) bits) (λ j g. or_keeps (port_at m i).error bits j g) k h)
call_clears m Notices n k = λ h. inl h
call_clears m Restores n k = λ h. inl h

pub cleared_by_ones : (m : RegisterMap) → m.ports ≤ 15 → ClearedByOnes m
cleared_by_ones m most call n k within h gone =
    let next : RegisterMap = called m call in
    let same : next.ports ≡ m.ports = called_ports m call in
    let was : bit_at (port_at m n).error k ≡ 1 = ap (λ (x : ℕ). bit_at x k) (sym (error_at m n most within)) ∙ h in
    let none : bit_at (port_at next n).error k ≡ 0 = ap (λ (x : ℕ). bit_at x k) (sym (error_at next n (omega arith) (omega arith))) ∙ gone in
    elim (call_clears m call n k was) [
      | inl stays ↦ absurd (one_not_zero (bit_at (port_at next n).error k) stays none)
      | inr cleared ↦ cleared
    ]
