-- What a write of a register does to the core.
use Rattle.std.proofs.Common.{◌≡◌, ℕ, ◌+◌, Bool, true, false, List, [], ◌∷◌, ◌++◌, refl, sym, ap, subst, ◌∙◌, Option, Some, None}
use Rattle.std.specs.Prelude.{◌==◌, MatchOption, if◌then◌else◌}
use Rattle.slots.specs.{Slots.match_some, Table.IsTable}
use Rattle.ahci_registers.specs.Bits as line_bits
use Rattle.ahci_registers.specs.{Offsets.register_at, declared.{link.Effect.Effect, register.Register.Register}}
use Rattle.ahci_registers.specs.declared.link.Effect.TheVariants as effect
use Rattle.ahci_registers.specs.declared.register.Register.TheVariants as ahci
use Rattle.hba_fbs.specs.{Offering.AcceptsBy, Reading.shown_device, Registers.{AreOwn, own_refusal_by}, Resets.{link_reset, whole_reset}}
use Rattle.hba_fbs.specs.{Stopping.{Overrides, SetsCmd}, Views.Port, declared.{error.WriteError.WriteError, registers.Registers.Registers}}
use Rattle.hba_fbs.specs.declared.register.Register as port_register
use Rattle.hba_fbs.specs.declared.register.Register.TheVariants as on_port
use Rattle.hba_laws.specs.Cores as core
use Rattle.hba_laws.specs.Cores.{CoreEvent, IsCore}
use Rattle.ahci_controller.specs.{Access.merged, Offers.{offer_in, offers_nothing}, Own.{commanded, engine_of}, Reading.shown, States.ControllerState}
use Rattle.ahci_controller.specs.{Wide.{WritesAt, WritesFitting, WritesIf, WritesPart, block_of}, Writing.{ClearsIf, Commands, Leaves, ResetsBy}}
use Rattle.ahci_controller.specs.Writing.{Tells, WritesGlobal, WritesRegister, asked_state, clears_busy, engine, idle_for, link_effect, link_moved}
use Rattle.ahci_controller.specs.{Writing.{plain, told_refusal}, declared.{access.Width.Width, latch.Latch.Latch, own.OwnRegisters.OwnRegisters}}
use Rattle.ahci_controller.specs.declared.{wide.WideWritten.WideWritten, writing.Written.Written}
use Rattle.controller_laws.specs.CoreEvents.{AreCoreEvents, commanded_by, commanded_with, no_tables, of_part, of_register, of_wide, of_write}
use Rattle.controller_laws.specs.CoreEvents.{overridden_by, relinked_by, reset_by, told}
use Rattle.controller_laws.proofs.ListLemmas.{as_list, link_kept, no_core_event, one_core_event, then_core_events, whole_kept}

core_is : (old new : ControllerState) → new ≡ old → new.core ≡ old.core
core_is old new same = ap (λ (c : ControllerState). c.core) same

-- ---- registers of the core

told_as : (o : Option WriteError) (register : port_register.Register) (value : ℕ) (old new : ControllerState) → told_refusal old register value ≡ o → IsCore old.core → IsCore new.core
    → MatchOption o (AcceptsBy old.core (offer_in offers_nothing) register value new.core) (λ e. new.core ≡ old.core)
    → AreCoreEvents old.core (match_some o (core.Wrote register value (offer_in offers_nothing) no_tables ∷ []) (λ e. [])) new.core
told_as None register value old new is ok ok_new h =
    one_core_event (core.Wrote register value (offer_in offers_nothing) no_tables) old.core new.core ok ok_new tt (is, h)
told_as (Some e) register value old new is ok ok_new h = no_core_event old.core new.core ok h

told_are : (register : port_register.Register) (value : ℕ) (old new : ControllerState) (latch : Latch) (own : OwnRegisters) (ignored : Option WriteError) → IsCore old.core → IsCore new.core → Tells old register value latch own ignored new
    → AreCoreEvents old.core (told register old value) new.core
told_are register value old new latch own ignored ok ok_new h =
    told_as (told_refusal old register value) register value old new refl ok ok_new h.core

-- ---- resets

global_are : (resets : Bool) (value : ℕ) (old new : ControllerState) → IsCore old.core → IsCore new.core → WritesGlobal resets old value new → AreCoreEvents old.core (reset_by resets) new.core
global_are true value old new ok ok_new h = record {
  run = (whole_reset old.core, refl, (new.core, h.core, refl));
  sound = record { cores = (ok, (whole_kept old.core, ok_new)); frames = (tt, (tt, tt)) };
}
global_are false value old new ok ok_new h = no_core_event old.core new.core ok (ap (λ (c : ControllerState). c.core) h)

linked_are : (e : Effect) (value : ℕ) (old new : ControllerState) → IsCore old.core → IsCore new.core → ResetsBy e (link_moved old value) new → AreCoreEvents old.core (relinked_by e old value) new.core
linked_are effect.LinkReset value old new ok ok_new h = record {
  run = (link_reset old.core, refl, (new.core, h.core, refl));
  sound = record { cores = (ok, (link_kept old.core ok, ok_new)); frames = (tt, (tt, tt)) };
}
linked_are other value old new ok ok_new h = no_core_event old.core new.core ok (ap (λ (c : ControllerState). c.core) h)

-- ---- PxCMD

overridden_kept : (dev : ℕ) (old new : Port) → IsCore old → Overrides old dev new → IsCore new
overridden_kept dev old new ok h = record {
  port = record {
    registers = subst AreOwn (sym h.registers) ok.port.registers;
    commands = rw (h.slots, h.commands) ok.port.commands;
    active = rw h.active ok.port.active;
  };
  slots = subst IsTable (sym h.slots) ok.slots;
}

record Overridden (clears : Bool) (old new : Port) : Type 0 where
  pub kept : IsCore new
  pub are : AreCoreEvents old (overridden_by clears old) new
  pub registers : new.registers ≡ old.registers

overridden_are : (clears : Bool) (old new : Port) → IsCore old → ClearsIf clears old new → Overridden clears old new
overridden_are true old new ok h =
    let kept : IsCore new = overridden_kept (shown_device old) old new ok h in
    record { kept = kept; are = one_core_event (core.Overrode (shown_device old)) old new ok kept tt h; registers = h.registers }
overridden_are false old new ok h = record {
  kept = subst IsCore (sym h) ok;
  are = no_core_event old new ok h;
  registers = ap (λ (p : Port). p.registers) h;
}

pub started_as : (o : Option WriteError) (value : ℕ) (old new : Port) → own_refusal_by on_port.Cmd old.registers value ≡ o → IsCore old → IsCore new → MatchOption o (SetsCmd old value new) (λ e. new ≡ old)
    → AreCoreEvents old (match_some o (core.Commanded value ∷ []) (λ e. [])) new
started_as None value old new is ok ok_new h = one_core_event (core.Commanded value) old new ok ok_new tt (is, h)
started_as (Some e) value old new is ok ok_new h = no_core_event old new ok h

-- CLO and what is kept of PxCMD leave the registers of the core
same_command : (old middle : ControllerState) (idle : Bool) (value : ℕ) → middle ≡ record old { core = middle.core } → middle.core.registers ≡ old.core.registers
    → commanded_with old.core.registers (engine old idle value) ≡ commanded_with middle.core.registers (engine middle idle value)
same_command old middle idle value rest same =
    let own : middle.own ≡ old.own = ap (λ (c : ControllerState). c.own) rest in
    let text : OwnRegisters → Registers → List CoreEvent = λ o r. commanded_with r (engine_of (commanded o value) idle r) in
    ap (λ (o : OwnRegisters). text o old.core.registers) (sym own) ∙ ap (λ (r : Registers). text middle.own r) (sym same)

commands_are : (value : ℕ) (old new : ControllerState) (ignored : Option WriteError) → IsCore old.core → IsCore new.core → Commands old value ignored new
    → AreCoreEvents old.core (overridden_by (clears_busy old value) old.core ++ commanded_by old value) new.core
commands_are value old new ignored ok ok_new h =
    let first : Overridden (clears_busy old value) old.core h.middle.core = overridden_are (clears_busy old value) old.core h.middle.core ok h.clears.core in
    let idle : Bool = idle_for old value in
    let second : AreCoreEvents h.middle.core (commanded_with h.middle.core.registers (engine h.middle idle value)) new.core =
    started_as (own_refusal_by on_port.Cmd h.middle.core.registers (engine h.middle idle value)) (engine h.middle idle value) h.middle.core new.core refl first.kept ok_new h.starts.core in
    then_core_events (overridden_by (clears_busy old value) old.core) (commanded_by old value) old.core h.middle.core new.core first.are
    (as_list (commanded_with h.middle.core.registers (engine h.middle idle value)) (commanded_by old value) h.middle.core new.core (same_command old h.middle idle value h.clears.rest first.registers) second)

-- ---- all registers

asked_core : (started : Bool) (c d : ControllerState) → d.core ≡ c.core → (if started then d else c).core ≡ c.core
asked_core true c d same = same
asked_core false c d same = refl

pub register_are : (register : Register) (value : ℕ) (old new : ControllerState) (result : Written) → IsCore old.core → IsCore new.core → Leaves register old value result new → AreCoreEvents old.core (of_register register old value) new.core
register_are ahci.Ghc value old new result ok ok_new h = global_are (line_bits.has_bit value 0) value old new ok ok_new h.0
register_are ahci.Is value old new result ok ok_new h = no_core_event old.core new.core ok (ap (λ (c : ControllerState). c.core) h.0)
register_are ahci.PxClb value old new result ok ok_new h = no_core_event old.core new.core ok (ap (λ (c : ControllerState). c.core) h.0)
register_are ahci.PxClbu value old new result ok ok_new h = no_core_event old.core new.core ok (ap (λ (c : ControllerState). c.core) h.0)
register_are ahci.PxFb value old new result ok ok_new h = no_core_event old.core new.core ok (ap (λ (c : ControllerState). c.core) h.0)
register_are ahci.PxFbu value old new result ok ok_new h = no_core_event old.core new.core ok (ap (λ (c : ControllerState). c.core) h.0)
register_are ahci.PxIs value old new result ok ok_new h = told_are on_port.Is value old new _ _ result.ignored ok ok_new h.0
register_are ahci.PxIe value old new result ok ok_new h = no_core_event old.core new.core ok (ap (λ (c : ControllerState). c.core) h.0)
register_are ahci.PxCmd value old new result ok ok_new h = commands_are value old new result.ignored ok ok_new h.0
register_are ahci.PxSctl value old new result ok ok_new h = linked_are (link_effect old value) value old new ok ok_new h.0
register_are ahci.PxSerr value old new result ok ok_new h = told_are on_port.Serr value old new _ _ result.ignored ok ok_new h.0
register_are ahci.PxSact value old new result ok ok_new h = told_are on_port.Sact _ old new _ _ result.ignored ok ok_new h.0
register_are ahci.PxCi value old new result ok ok_new h = no_core_event old.core new.core ok (core_is (asked_state old value) new h.0 ∙ asked_core old.own.starts old _ refl)
register_are ahci.PxSntf value old new result ok ok_new h = told_are on_port.Sntf value old new _ _ result.ignored ok ok_new h.0
register_are ahci.PxFbs value old new result ok ok_new h =
    told_are on_port.Fbs _ (record old { wants = record old.wants { feeding = 0 } }) new _ _ result.ignored ok ok_new h.0
register_are other value old new result ok ok_new h = no_core_event old.core new.core ok (core_is old new h.0)

-- ---- accesses

-- the register at an offset, with a value that may depend on it
at_register : (o : Option Register) (value : Register → ℕ) (old new : ControllerState) (result : Written) → IsCore old.core → IsCore new.core → (nothing : Type 0) → (nothing → new ≡ old) → MatchOption o nothing (λ register. WritesRegister register old (value register) result new)
    → AreCoreEvents old.core (match_some o [] (λ register. of_register register old (value register))) new.core
at_register None value old new result ok ok_new nothing same h = no_core_event old.core new.core ok (core_is old new (same h))
at_register (Some register) value old new result ok ok_new nothing same h = register_are register (value register) old new (plain result) ok ok_new h.leaves

pub write_are : (offset value : ℕ) (old new : ControllerState) (result : Written) → IsCore old.core → IsCore new.core → WritesAt old offset value result new → AreCoreEvents old.core (of_write old offset value) new.core
write_are offset value old new result ok ok_new h = at_register (register_at offset) (λ register. value) old new result ok ok_new _ (λ n. n.0) h

masked_are : (empty : Bool) (offset value mask : ℕ) (old new : ControllerState) (result : Written) → IsCore old.core → IsCore new.core → WritesIf empty old offset value mask result new
    → AreCoreEvents old.core (if empty then [] else match_some (register_at offset) [] (λ register. of_register register old (merged register (shown register old) value mask))) new.core
masked_are true offset value mask old new result ok ok_new h = no_core_event old.core new.core ok (core_is old new h.0)
masked_are false offset value mask old new result ok ok_new h =
    at_register (register_at offset) (λ register. merged register (shown register old) value mask) old new result ok ok_new _ (λ n. n.0) h

part_are : (offset value mask : ℕ) (old new : ControllerState) (result : Written) → IsCore old.core → IsCore new.core → WritesPart old offset value mask result new → AreCoreEvents old.core (of_part old offset value mask) new.core
part_are offset value mask old new result ok ok_new h = masked_are (mask == 0) offset value mask old new result ok ok_new h

pub wide_are : (does_fit : Bool) (offset : ℕ) (width : Width) (value : ℕ) (old new : ControllerState) (result : WideWritten) → IsCore old.core → IsCore new.core → (h : WritesFitting does_fit old offset width value result new)
    → AreCoreEvents old.core (of_wide does_fit old offset width value result new h) new.core
wide_are true offset width value old new result ok ok_new h =
    let middle : IsCore h.middle.core = record { port = h.port; slots = h.slots } in
    then_core_events _ _ old.core h.middle.core new.core (part_are (block_of offset) _ _ old h.middle result.low ok middle h.low)
    (part_are (block_of offset + 4) _ _ h.middle new result.high middle ok_new h.high)
wide_are false offset width value old new result ok ok_new h = no_core_event old.core new.core ok (core_is old new h.0.0)
