-- The registers keep their rules: what a write is refused for, and what it leaves.
use Rattle.std.proofs.{Common.{◌≡◌, ℕ, ◌+◌, ◌≤◌, Bool, true, false, not, ◌&&◌, ◌||◌, refl, Option, Some, None, arith}, lemmas.Bool.{true≢false}}
use Rattle.std.proofs.lemmas.Bool.{false≢true, or_parts, ltb-false}
use Rattle.std.specs.Prelude.{nat_lt, ◌==◌, if◌then◌else◌}
use Rattle.fis_view.specs.declared.view.Fis.{Fis}
use Rattle.fis_view.specs.declared.view.Fis.TheVariants as view
use Rattle.slots.specs.Slots.{has_bit}
use Rattle.hba_fbs.specs.declared.error.WriteError.TheVariants as refusal
use Rattle.hba_fbs.specs.{declared.{hearing.Heard.Heard, register.Register.{Register, TheVariants.{Clb, Cmd, Fb, Fbs, Sig, Tfd}}}, Bits.{fre, pma}}
use Rattle.hba_fbs.specs.{Bits.st, Posting.posted, Taking.{posted_of, settled}, declared.{error.WriteError.WriteError, registers.Registers.Registers}}
use Rattle.hba_fbs.specs.Registers.{AreOwn, AreRegisters, cmd_refusal, cmd_refusal_by, falls, is_area_outside, is_list_outside, is_outside}
use Rattle.hba_fbs.specs.Registers.{own_refusal, own_refusal_by, running_if, written}

-- the first refusal does not apply, and neither do the others
record Passes (test : Bool) (others : Option WriteError) : Type 0 where
  pub none : test ≡ false
  pub rest : others ≡ None

passes : (test : Bool) (refusal : WriteError) (others : Option WriteError) → (if test then Some refusal else others) ≡ None → Passes test others
passes true refusal others h = cc
passes false refusal others h = record { none = refl; rest = h }

area_inside : (r : Registers) → is_area_outside r ≡ false → r.fb + 4096 ≤ 1048576
area_inside r h = ltb-false 1048576 (r.fb + 4096) (or_parts (not (r.fbu == 0)) (nat_lt 1048576 (r.fb + 4096)) h).1

list_inside : (r : Registers) → is_list_outside r ≡ false → r.clb + 1024 ≤ 1048576
list_inside r h = ltb-false 1048576 (r.clb + 1024) (or_parts (not (r.clbu == 0)) (nat_lt 1048576 (r.clb + 1024)) h).1

-- the bits before and after: FRE stays as long as ST does, and ST is set only with FRE and with its list
-- inside
started_after : (started receives starts keeps outside : Bool) (clb : ℕ) → (outside ≡ false → clb + 1024 ≤ 1048576) → (started ≡ true → (receives ≡ true) × (clb + 1024 ≤ 1048576))
    → (receives && not keeps && starts) ≡ false → (starts && not started && (not keeps || outside)) ≡ false → starts ≡ true → (keeps ≡ true) × (clb + 1024 ≤ 1048576)
started_after started receives false keeps outside clb inside old running bad h = absurd (false≢true h)
started_after true receives true true outside clb inside old running bad h = (refl, (old refl).1)
started_after true true true false outside clb inside old running bad h = absurd (true≢false running)
started_after true false true false outside clb inside old running bad h = absurd (false≢true (old refl).0)
started_after false receives true true outside clb inside old running bad h = (refl, inside bad)
started_after false receives true false outside clb inside old running bad h = absurd (true≢false bad)

receives_after : (receives keeps outside : Bool) (fb : ℕ) → (outside ≡ false → fb + 4096 ≤ 1048576) → (receives ≡ true → fb + 4096 ≤ 1048576) → (keeps && not receives && outside) ≡ false
    → keeps ≡ true → fb + 4096 ≤ 1048576
receives_after true keeps outside fb inside old bad h = old refl
receives_after false true outside fb inside old bad h = inside bad
receives_after false false outside fb inside old bad h = absurd (false≢true h)

pub cmd_are : (r : Registers) (starts keeps multiplied : Bool) (armed : ℕ) → AreRegisters r → cmd_refusal r starts keeps ≡ None
    → AreRegisters (record r { started = starts; receives = keeps; multiplied = multiplied; armed = armed })
unfolding cmd_refusal
cmd_are r starts keeps multiplied armed are h =
    let first = passes (r.receives && not keeps && starts) _ _ h in
    let second = passes (keeps && not r.receives && is_area_outside r) _ _ first.rest in
    let third = passes (starts && not r.started && (not keeps || is_list_outside r)) _ _ second.rest in
    record {
      chosen = are.chosen;
      started = started_after r.started r.receives starts keeps (is_list_outside r) r.clb (list_inside r) are.started first.none third.none;
      receives = receives_after r.receives keeps (is_area_outside r) r.fb (area_inside r) are.receives second.none;
    }

-- ---- every accepted write, and every FIS that is heard

not_used : (b : Bool) {P : Type 0} → running_if b ≡ None → b ≡ true → P
not_used true h is = cc
not_used false h is = absurd (false≢true is)

pub written_are : (register : Register) (r : Registers) (value : ℕ) → AreRegisters r → own_refusal register r value ≡ None → AreRegisters (written register r value)
unfolding written own_refusal
written_are Clb r value are h = record { chosen = are.chosen; started = λ s. not_used r.started h s; receives = are.receives }
written_are Fb r value are h = record { chosen = are.chosen; started = are.started; receives = λ s. not_used r.receives h s }
written_are Cmd r value are h = cmd_are r (has_bit value st) (has_bit value fre) (has_bit value pma) (if falls r value then 0 else r.armed) are h
written_are Fbs r value are h = record { chosen = omega arith; started = are.started; receives = are.receives }
written_are Tfd r value are h = are
written_are Sig r value are h = are
written_are other r value are h = record { chosen = are.chosen; started = are.started; receives = are.receives }

posted_are : (r : Registers) (dev : ℕ) (b : Bool) (fis : Option Fis) → AreRegisters r → AreRegisters (posted_of r dev b fis)
unfolding posted
posted_are r dev b (Some (view.RegD2H f)) are = record { chosen = are.chosen; started = are.started; receives = are.receives }
posted_are r dev b (Some (view.SetBits f)) are = record { chosen = are.chosen; started = are.started; receives = are.receives }
posted_are r dev b (Some (view.DmaSetup f)) are = record { chosen = are.chosen; started = are.started; receives = are.receives }
posted_are r dev b (Some (view.Unknown f)) are = record { chosen = are.chosen; started = are.started; receives = are.receives }
posted_are r dev b other are = are

pub heard_are : (r : Registers) (dev : ℕ) (b : Bool) (fis : Option Fis) (h : Heard) → AreRegisters r → AreRegisters (settled (posted_of r dev b fis) h)
unfolding settled
heard_are r dev b fis h are =
    let p = posted_are r dev b fis are in
    record { chosen = p.chosen; started = p.started; receives = p.receives }

-- ---- a port that holds no memory

own_receives : (started receives starts keeps : Bool) → (started ≡ true → receives ≡ true) → (receives && not keeps && starts) ≡ false → (starts && not started && not keeps) ≡ false → starts ≡ true → keeps ≡ true
own_receives started receives false keeps old running bad h = absurd (false≢true h)
own_receives started receives true true old running bad h = refl
own_receives true true true false old running bad h = absurd (true≢false running)
own_receives true false true false old running bad h = absurd (false≢true (old refl))
own_receives false receives true false old running bad h = absurd (true≢false bad)

pub own_cmd_are : (r : Registers) (starts keeps multiplied : Bool) (armed : ℕ) → AreOwn r → cmd_refusal_by r starts keeps ≡ None
    → AreOwn (record r { started = starts; receives = keeps; multiplied = multiplied; armed = armed })
own_cmd_are r starts keeps multiplied armed are h =
    let first = passes (r.receives && not keeps && starts) _ _ h in
    let second = passes (starts && not r.started && not keeps) _ _ first.rest in
    record { chosen = are.chosen; receives = own_receives r.started r.receives starts keeps are.receives first.none second.none }

-- what a memory refuses beside it
cmd_split : (receives keeps starts started area list : Bool)
    → (if receives && not keeps && starts then Some refusal.Running else if keeps && not receives && area then Some refusal.BadTable else if starts && not started && (not keeps || list) then Some refusal.BadTable else None)
    ≡ (if keeps && (not receives && area || starts && not started && list) then Some refusal.BadTable else if receives && not keeps && starts then Some refusal.Running else if starts && not started && not keeps then Some refusal.BadTable else None)
cmd_split receives false starts started area list = refl
cmd_split true true false started area list = refl
cmd_split true true true true area list = refl
cmd_split true true true false area list = refl
cmd_split false true starts started true list = refl
cmd_split false true false started false list = refl
cmd_split false true true true false list = refl
cmd_split false true true false false list = refl

pub own_split : (register : Register) (r : Registers) (value : ℕ) → own_refusal register r value ≡ (if is_outside register r value then Some refusal.BadTable else own_refusal_by register r value)
unfolding own_refusal own_refusal_by cmd_refusal
own_split Cmd r value = cmd_split r.receives (has_bit value fre) (has_bit value st) r.started (is_area_outside r) (is_list_outside r)
own_split other r value = refl
