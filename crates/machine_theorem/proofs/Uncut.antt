-- While a command stands in a slot no write stops the port: so what is to be written of the Data FIS that was taken last is not cut.
use Rattle.std.proofs.Common.{◌≡◌, ℕ, ◌+◌, ◌*◌, ◌/◌, ◌||◌, Bool, true, false, not, List, [], ◌∷◌, ◌++◌, append-nil, refl, sym, ap, ◌∙◌, arith, Option}
use Rattle.std.proofs.{Common.{Some, None}, lemmas.Bool.{eqb-true, false≢true}}
use Rattle.std.specs.Prelude.{◌==◌, ◌%◌, MatchOption, if◌then◌else◌}
use Rattle.ahci_registers.specs.Bits as line_bits
use Rattle.ahci_registers.specs.{Offsets.register_at, declared.{link.Effect.Effect, register.Register.Register}}
use Rattle.ahci_registers.specs.declared.link.Effect.TheVariants as effect
use Rattle.ahci_registers.specs.declared.register.Register.TheVariants as ahci
use Rattle.hba_fbs.specs.{Offering.AcceptsBy, declared.{error.WriteError.WriteError, registers.Registers.Registers}}
use Rattle.hba_fbs.specs.declared.register.Register as port_register
use Rattle.hba_fbs.specs.declared.register.Register.TheVariants as on_port
use Rattle.guest_fetch.specs.declared.moves.Move.{Move}
use Rattle.ahci_controller.specs.{Access.{fits, high_of, merged, ones_of, spread_of}, Offers.{offer_in, offers_nothing}, Reading.shown}
use Rattle.ahci_controller.specs.{States.ControllerState, Wide.{WritesFitting, WritesIf, WritesNothing}, Writing.{Leaves, ResetsBy, WritesGlobal}}
use Rattle.ahci_controller.specs.Writing.{WritesRegister, armed_by, link_effect, link_moved, plain, switched_by, told_refusal}
use Rattle.ahci_controller.specs.declared.{access.Width.Width, wide.WideWritten.WideWritten, writing.Written.Written}
use Rattle.controller_laws.specs.{Carrying.{Carrying, carrying_after_call, cut_if, cut_wide, moves_in, moves_said, said_more}, Events.{Does, Event}}
use Rattle.controller_laws.specs.Events as call
use Rattle.machine_theorem.specs.ReadsWritten.{NoneTaken}
use Rattle.machine_theorem.proofs.ToldMoves.{said_by}
use Rattle.machine_theorem.proofs.{CoreStems.IsWritten, Idle.written_start}

-- ---- the higher dword of a write

abbrev IsOff : ControllerState → Type 0
IsOff c = c.core.registers.started ≡ false

abbrev IsNoCmd : Register → Type 0
IsNoCmd ahci.PxCmd = ⊥
IsNoCmd other = Unit {0}

same_off : (old new : ControllerState) → new.core ≡ old.core → IsOff old → IsOff new
same_off old new same off = ap (λ p. p.registers.started) same ∙ off

tells_off : (r : port_register.Register) (value : ℕ) (old new : ControllerState) (o : Option WriteError) → IsWritten r → IsOff old
    → MatchOption o (AcceptsBy old.core (offer_in offers_nothing) r value new.core) (λ e. new.core ≡ old.core) → IsOff new
tells_off r value old new None is off h = written_start r old.core.registers new.core.registers value is h.registers ∙ off
tells_off r value old new (Some e) is off h = same_off old new h off

global_off : (b : Bool) (value : ℕ) (old new : ControllerState) → IsOff old → WritesGlobal b old value new → IsOff new
global_off true value old new off h = ap (λ (r : Registers). r.started) h.core.registers
global_off false value old new off h = same_off old new (ap (λ (c : ControllerState). c.core) h) off

link_off : (e : Effect) (value : ℕ) (old new : ControllerState) → IsOff old → ResetsBy e (link_moved old value) new → IsOff new
link_off effect.LinkReset value old new off h = ap (λ (r : Registers). r.started) h.core.registers
link_off effect.Nothing value old new off h = same_off old new (ap (λ (c : ControllerState). c.core) h) off
link_off effect.LinkUp value old new off h = same_off old new (ap (λ (c : ControllerState). c.core) h) off

asked_off : (b : Bool) (old with new : ControllerState) → with.core ≡ old.core → new ≡ (if b then with else old) → new.core ≡ old.core
asked_off true old with new same h = ap (λ (c : ControllerState). c.core) h ∙ same
asked_off false old with new same h = ap (λ (c : ControllerState). c.core) h

core_is : (old new base : ControllerState) → base.core ≡ old.core → new ≡ base → IsOff old → IsOff new
core_is old new base same h off = same_off old new (ap (λ (c : ControllerState). c.core) h ∙ same) off

pub leaves_off : (r : Register) (value : ℕ) (old new : ControllerState) (result : Written) → IsNoCmd r → IsOff old → Leaves r old value result new → IsOff new
leaves_off ahci.PxCmd value old new result cmd off h = absurd cmd
leaves_off ahci.Ghc value old new result cmd off h = global_off (line_bits.has_bit value 0) value old new off h.0
leaves_off ahci.Is value old new result cmd off h = core_is old new _ refl h.0 off
leaves_off ahci.PxClb value old new result cmd off h = core_is old new _ refl h.0 off
leaves_off ahci.PxClbu value old new result cmd off h = core_is old new _ refl h.0 off
leaves_off ahci.PxFb value old new result cmd off h = core_is old new _ refl h.0 off
leaves_off ahci.PxFbu value old new result cmd off h = core_is old new _ refl h.0 off
leaves_off ahci.PxIs value old new result cmd off h = tells_off on_port.Is value old new (told_refusal old on_port.Is value) tt off h.0.core
leaves_off ahci.PxIe value old new result cmd off h = core_is old new _ refl h.0 off
leaves_off ahci.PxSctl value old new result cmd off h = link_off (link_effect old value) value old new off h.0
leaves_off ahci.PxSerr value old new result cmd off h = tells_off on_port.Serr value old new (told_refusal old on_port.Serr value) tt off h.0.core
leaves_off ahci.PxSact value old new result cmd off h =
    tells_off on_port.Sact (armed_by old.core value) old new (told_refusal old on_port.Sact (armed_by old.core value)) tt off h.0.core
leaves_off ahci.PxCi value old new result cmd off h = same_off old new (asked_off old.own.starts old _ new refl h.0) off
leaves_off ahci.PxSntf value old new result cmd off h = tells_off on_port.Sntf value old new (told_refusal old on_port.Sntf value) tt off h.0.core
leaves_off ahci.PxFbs value old new result cmd off h =
    let base : ControllerState = record old { wants = record old.wants { feeding = 0 } } in
    tells_off on_port.Fbs (switched_by old value) base new (told_refusal base on_port.Fbs (switched_by old value)) tt off h.0.core
leaves_off other value old new result cmd off h = core_is old new _ refl h.0 off

record AreNoCmd (o : Option Register) : Type 0 where
  are : MatchOption o (Unit {0}) IsNoCmd

if_other : (b : Bool) (r : Register) (rest : Option Register) → IsNoCmd r → AreNoCmd rest → AreNoCmd (if b then Some r else rest)
if_other true r rest one more = record { are = one }
if_other false r rest one more = more

if_not : (b : Bool) (r : Register) (rest : Option Register) → (b ≡ true → ⊥) → AreNoCmd rest → AreNoCmd (if b then Some r else rest)
if_not true r rest never more = absurd (never refl)
if_not false r rest never more = more

-- PxCMD is a lower dword
high_none : (x : ℕ) → AreNoCmd (register_at (x * 8 + 4))
unfolding register_at
high_none x =
    let y : ℕ = x * 8 + 4 in
    (if_other (y == 0x00) ahci.Cap _ tt (if_other (y == 0x04) ahci.Ghc _ tt (if_other (y == 0x08) ahci.Is _ tt (if_other (y == 0x0C) ahci.Pi _ tt
    (if_other (y == 0x10) ahci.Vs _ tt (if_other (y == 0x24) ahci.Cap2 _ tt (if_other (y == 0x100) ahci.PxClb _ tt
    (if_other (y == 0x104) ahci.PxClbu _ tt (if_other (y == 0x108) ahci.PxFb _ tt (if_other (y == 0x10C) ahci.PxFbu _ tt
    (if_other (y == 0x110) ahci.PxIs _ tt (if_other (y == 0x114) ahci.PxIe _ tt
    (if_not (y == 0x118) ahci.PxCmd _ (λ e. let same = eqb-true (x * 8 + 4) 0x118 e in omega (arith, same)) (if_other (y == 0x120) ahci.PxTfd _ tt
    (if_other (y == 0x124) ahci.PxSig _ tt (if_other (y == 0x128) ahci.PxSsts _ tt (if_other (y == 0x12C) ahci.PxSctl _ tt
    (if_other (y == 0x130) ahci.PxSerr _ tt (if_other (y == 0x134) ahci.PxSact _ tt (if_other (y == 0x138) ahci.PxCi _ tt
    (if_other (y == 0x13C) ahci.PxSntf _ tt (if_other (y == 0x140) ahci.PxFbs _ tt (record { are = tt })))))))))))))))))))))))

register_off : (o : Option Register) (value : Register → ℕ) (old new : ControllerState) (result : Written) → MatchOption o (Unit {0}) IsNoCmd → IsOff old
    → MatchOption o (WritesNothing old result new) (λ r. WritesRegister r old (value r) result new) → IsOff new
register_off None value old new result none off h = core_is old new old refl h.0 off
register_off (Some r) value old new result none off h = leaves_off r (value r) old new (plain result) none off h.leaves

part_off : (b : Bool) (x value mask : ℕ) (old new : ControllerState) (result : Written) → IsOff old → WritesIf b old (x * 8 + 4) value mask result new
    → IsOff new
part_off true x value mask old new result off h = core_is old new old refl h.0 off
part_off false x value mask old new result off h =
    register_off (register_at (x * 8 + 4)) (λ r. merged r (shown r old) value mask) old new result (high_none x).are off h

-- ---- one call

-- what is carried is of the same FIS, and these moves more were said of it
pub record Carries (d : Carrying) (moves : List Move) (o : Option Carrying) : Type 0 where
  pub then' : Carrying
  pub is : o ≡ Some then'
  pub frame : then'.frame ≡ d.frame
  pub wrote : then'.wrote ≡ d.wrote
  pub table : then'.table ≡ d.table
  pub said : then'.said ≡ d.said ++ moves
  pub cut : then'.cut ≡ false

pub same_carried : (d : Carrying) → d.cut ≡ false → Carries d [] (Some d)
same_carried d cut = record { then' = d; is = refl; frame = refl; wrote = refl; table = refl; said = sym (append-nil d.said); cut = cut }

or_not : (a b : Bool) → a ≡ false → b ≡ true → (a || not b) ≡ false
or_not true b e f = absurd (false≢true (sym e))
or_not false true e f = refl
or_not false false e f = absurd (false≢true f)

cut_carried : (d : Carrying) (started : Bool) → d.cut ≡ false → started ≡ true → Carries d [] (cut_if (not started) (Some d))
cut_carried d started cut runs = record {
  then' = record { frame = d.frame; wrote = d.wrote; table = d.table; said = d.said; cut = d.cut || not started };
  is = refl;
  frame = refl;
  wrote = refl;
  table = refl;
  said = sym (append-nil d.said);
  cut = or_not d.cut started cut runs;
}

said_carried : (d : Carrying) (moves : List Move) → d.cut ≡ false → Carries d moves (said_more moves (Some d))
said_carried d moves cut = record {
  then' = record { frame = d.frame; wrote = d.wrote; table = d.table; said = d.said ++ moves; cut = d.cut };
  is = refl;
  frame = refl;
  wrote = refl;
  table = refl;
  said = refl;
  cut = cut;
}

wide_carried : (b : Bool) (old : ControllerState) (offset : ℕ) (width : Width) (value : ℕ) (result : WideWritten) (new : ControllerState)
    (h : WritesFitting b old offset width value result new) (d : Carrying) → d.cut ≡ false → new.core.registers.started ≡ true
    → Carries d [] (cut_wide b old offset width value result new h (Some d))
wide_carried false old offset width value result new h d cut runs = same_carried d cut
wide_carried true old offset width value result new h d cut runs = by h.middle.core.registers.started refl
  where
    by : (b : Bool) → h.middle.core.registers.started ≡ b → Carries d [] (cut_wide true old offset width value result new h (Some d))
    by false off =
        absurd (false≢true (sym (part_off (high_of (spread_of (offset % 8) (ones_of width)) == 0) (offset / 8) (high_of (spread_of (offset % 8) value))
        (high_of (spread_of (offset % 8) (ones_of width))) h.middle new result.high off h.high) ∙ runs))
    by true on = record {
      then' = record {
        frame = d.frame;
        wrote = d.wrote;
        table = d.table;
        said = d.said;
        cut = (d.cut || not h.middle.core.registers.started) || not new.core.registers.started;
      };
      is = refl;
      frame = refl;
      wrote = refl;
      table = refl;
      said = sym (append-nil d.said);
      cut = or_not (d.cut || not h.middle.core.registers.started) new.core.registers.started (or_not d.cut h.middle.core.registers.started cut on) runs;
    }

pub call_carried : (e : Event) (old new : ControllerState) (does : Does old e new) (d : Carrying) → NoneTaken (e ∷ []) → new.core.registers.started ≡ true
    → d.cut ≡ false
    → Carries d (said_by e) (carrying_after_call old e new does (Some d))
call_carried (call.Took frame took) old new does d none runs cut = absurd none
call_carried (call.Wrote offset value written) old new does d none runs cut = cut_carried d new.core.registers.started cut runs
call_carried (call.WroteWide offset width value written) old new does d none runs cut =
    wide_carried (fits width offset) old offset width value written new does d cut runs
call_carried (call.Turned next) old new does d none runs cut = said_carried d (moves_in next) cut
call_carried (call.Said write) old new does d none runs cut = said_carried d (moves_said write) cut
call_carried (call.Supplied slot number bytes supply) old new does d none runs cut = same_carried d cut
call_carried (call.Missed slot number supply) old new does d none runs cut = same_carried d cut
call_carried (call.Left frame why) old new does d none runs cut = same_carried d cut
call_carried (call.Gathered dev number frame fed) old new does d none runs cut = same_carried d cut
call_carried (call.NotThere dev number fed) old new does d none runs cut = same_carried d cut
