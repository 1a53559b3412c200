-- A write beside a memory is a write of what the memory offers.
use Rattle.std.proofs.Common.{◌≡◌, ℕ, Bool, true, false, refl, sym, ◌∙◌, ap, subst, Option, Some, None}
use Rattle.std.specs.{Prelude.{MatchOption, OnErr, OnOk, Result, Ok, Err, if◌then◌else◌}, Result.result_err, Option.option_or}
use Rattle.host_memory.specs.Memory.{Memory}
use Rattle.slots.specs.Slots.{match_some}
use Rattle.hba_fbs.specs.declared.{error.WriteError.WriteError, register.Register.{Register, TheVariants.{Cmd, Sact, Ci, Fbs}}}
use Rattle.hba_fbs.specs.{declared.registers.Registers.Registers, Offering.{AcceptsBy, Offer, active_by, commands_by, offer_of, refusal_by}}
use Rattle.hba_fbs.specs.{Offering.{slots_refusal_by, view_by, write_refusal_by, WritesBy}, Offsets.register_at, Registers.{AreRegisters, is_outside}}
use Rattle.hba_fbs.specs.{Registers.{own_refusal, own_refusal_by}, Views.Port, Writing.{Accepts, Writes, active_after, commands_after, refusal_of}}
use Rattle.hba_fbs.specs.Writing.{slots_refusal, view_after, write_refusal}
use Rattle.hba_fbs.specs.declared.error.WriteError.TheVariants as refusal
use Rattle.hba_fbs.proofs.RegisterLemmas.{own_split, written_are}

slots_is : (register : Register) (port : Port) (memory : Memory) (value : ℕ) → slots_refusal_by register port (offer_of port.registers memory) value ≡ slots_refusal register port memory value
unfolding slots_refusal slots_refusal_by
slots_is Sact port memory value = refl
slots_is Ci port memory value = refl
slots_is other port memory value = refl

or_if : (b : Bool) (e : WriteError) (o rest : Option WriteError) → option_or (if b then Some e else o) rest ≡ (if b then Some e else option_or o rest)
or_if true e o rest = refl
or_if false e o rest = refl

-- the memory refuses what it cannot hold, and the core the rest
pub refusal_is : (register : Register) (port : Port) (memory : Memory) (value : ℕ)
    → refusal_of register port memory value ≡ (if is_outside register port.registers value then Some refusal.BadTable else refusal_by register port (offer_of port.registers memory) value)
refusal_is register port memory value =
    let r : Registers = port.registers in
    let offer : Offer = offer_of r memory in
    ap (option_or (own_refusal register r value)) (sym (slots_is register port memory value))
    ∙ ap (λ (o : Option WriteError). option_or o (slots_refusal_by register port offer value)) (own_split register r value)
    ∙ or_if (is_outside register r value) refusal.BadTable (own_refusal_by register r value) (slots_refusal_by register port offer value)

abbrev is_outside_at : Option Register → Registers → ℕ → Bool
is_outside_at o r value = match_some o false (λ register. is_outside register r value)

by_register : (o : Option Register) (port : Port) (memory : Memory) (value : ℕ)
    → match_some o (Some refusal.NoRegister) (λ register. refusal_of register port memory value)
    ≡ (if is_outside_at o port.registers value then Some refusal.BadTable else match_some o (Some refusal.NoRegister) (λ register. refusal_by register port (offer_of port.registers memory) value))
by_register None port memory value = refl
by_register (Some register) port memory value = refusal_is register port memory value

-- the registers are those of the port
outside_for : (port : Port) (r : Registers) (memory : Memory) (offset value : ℕ) (b : Bool) → r ≡ port.registers → match_some (register_at offset) false (λ register. is_outside register r value) ≡ b
    → write_refusal port memory offset value ≡ (if b then Some refusal.BadTable else write_refusal_by port (offer_of r memory) offset value)
outside_for port r memory offset value b e is =
    by_register (register_at offset) port memory value
    ∙ ap (λ (x : Registers). if is_outside_at (register_at offset) x value then Some refusal.BadTable else write_refusal_by port (offer_of x memory) offset value) (sym e)
    ∙ ap (λ (x : Bool). if x then Some refusal.BadTable else write_refusal_by port (offer_of r memory) offset value) is

pub refused_outside : (port : Port) (r : Registers) (memory : Memory) (offset value : ℕ) → r ≡ port.registers → match_some (register_at offset) false (λ register. is_outside register r value) ≡ true
    → write_refusal port memory offset value ≡ Some refusal.BadTable
refused_outside port r memory offset value e is = outside_for port r memory offset value true e is

pub write_refusal_for : (port : Port) (r : Registers) (memory : Memory) (offset value : ℕ) → r ≡ port.registers → match_some (register_at offset) false (λ register. is_outside register r value) ≡ false
    → write_refusal_by port (offer_of r memory) offset value ≡ write_refusal port memory offset value
write_refusal_for port r memory offset value e is = sym (outside_for port r memory offset value false e is)

pub view_is : (register : Register) (old : Port) (memory : Memory) (value n : ℕ) → view_by register old (offer_of old.registers memory) value n ≡ view_after register old memory value n
unfolding view_after view_by
view_is Cmd old memory value n = refl
view_is Ci old memory value n = refl
view_is Fbs old memory value n = refl
view_is other old memory value n = refl

pub commands_are : (register : Register) (old : Port) (memory : Memory) (value : ℕ) → commands_by register old (offer_of old.registers memory) value ≡ commands_after register old memory value
unfolding commands_after commands_by
commands_are Ci old memory value = refl
commands_are other old memory value = refl

pub active_is : (register : Register) (old : Port) (memory : Memory) (value : ℕ) → active_by register old (offer_of old.registers memory) value ≡ active_after register old memory value
unfolding active_after active_by
active_is Ci old memory value = refl
active_is other old memory value = refl

accepts : (old new : Port) (memory : Memory) (value : ℕ) (o : Option Register) → MatchOption o ⊥ (λ register. AcceptsBy old (offer_of old.registers memory) register value new) → MatchOption o ⊥ (λ register. Accepts old memory register value new)
accepts old new memory value None does = does
accepts old new memory value (Some register) does = record {
  registers = does.registers;
  views = λ n lt. does.views n lt ∙ view_is register old memory value n;
  errors = does.errors;
  commands = does.commands ∙ commands_are register old memory value;
  number = does.number;
  active = does.active ∙ active_is register old memory value;
}

on_ok : {T E P Q : Type 0} (r : Result T E) → (P → Q) → OnOk r P → OnOk r Q
on_ok (Ok x) f p = f p
on_ok (Err e) f p = tt

writes_are : {T E : Type 0} (r : Result T E) (old new : Port) (memory : Memory) (offset value : ℕ) → OnOk r (WritesBy old (offer_of old.registers memory) offset value new) → OnOk r (Writes old memory offset value new)
writes_are r old new memory offset value does = on_ok r (accepts old new memory value (register_at offset)) does

pub writes_for : {T E : Type 0} (result : Result T E) (old new : Port) (r : Registers) (memory : Memory) (offset value : ℕ) → r ≡ old.registers → OnOk result (WritesBy old (offer_of r memory) offset value new)
    → OnOk result (Writes old memory offset value new)
writes_for result old new r memory offset value e does = writes_are result old new memory offset value (subst (λ (x : Registers). OnOk result (WritesBy old (offer_of x memory) offset value new)) e does)

-- the registers of an accepted write keep their rules beside the memory
none_own : (o rest : Option WriteError) → option_or o rest ≡ None → o ≡ None
none_own None rest h = refl
none_own (Some e) rest h = cc

are_at : (o : Option Register) (old new : Port) (memory : Memory) (value : ℕ) → AreRegisters old.registers → match_some o (Some refusal.NoRegister) (λ register. refusal_of register old memory value) ≡ None
    → MatchOption o ⊥ (λ register. Accepts old memory register value new) → AreRegisters new.registers
are_at None old new memory value are none does = absurd does
are_at (Some register) old new memory value are none does =
    subst AreRegisters (sym does.registers) (written_are register old.registers value are (none_own (own_refusal register old.registers value) (slots_refusal register old memory value) none))

by_result : {T : Type 0} (result : Result T WriteError) (old new : Port) (memory : Memory) (offset value : ℕ) → AreRegisters old.registers → result_err result ≡ write_refusal old memory offset value
    → OnErr result (new ≡ old) → OnOk result (Writes old memory offset value new) → AreRegisters new.registers
by_result (Ok x) old new memory offset value are is same does = are_at (register_at offset) old new memory value are (sym is) does
by_result (Err e) old new memory offset value are is same does = subst (λ (p : Port). AreRegisters p.registers) (sym same) are

pub writes_are_inside : {T : Type 0} (result : Result T WriteError) (old new : Port) (r : Registers) (memory : Memory) (offset value : ℕ) → AreRegisters old.registers → r ≡ old.registers
    → match_some (register_at offset) false (λ register. is_outside register r value) ≡ false
    → result_err result ≡ write_refusal_by old (offer_of r memory) offset value → OnErr result (new ≡ old) → OnOk result (WritesBy old (offer_of r memory) offset value new) → AreRegisters new.registers
writes_are_inside result old new r memory offset value are e out is same does =
    by_result result old new memory offset value are (is ∙ write_refusal_for old r memory offset value e out) same (writes_for result old new r memory offset value e does)
