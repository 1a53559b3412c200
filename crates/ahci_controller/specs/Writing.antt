-- What a write of a register leaves: AHCI 1.3.1, sections 3.1 and 3.3. No write is an error.
use Rattle.std.specs.Prelude.{◌≡◌, ℕ, ◌+◌, ◌-◌, ◌*◌, ◌/◌, ◌%◌, ◌==◌, ◌&&◌, ◌||◌, Bool, true, false, not, if◌then◌else◌, bit_and, bit_or, Option, Some}
use Rattle.std.specs.Prelude.{None, MatchOption}
use Rattle.slots.specs.Slots.{has_bit, mask_of}
use Rattle.ahci_registers.specs.Bits as line_bits
use Rattle.ahci_registers.specs.Lines.{is_due, LineEvent.{Caused, WrotePortStatus, WrotePortMask, WroteStatus, WroteGlobal, WroteError}}
use Rattle.ahci_registers.specs.{Link.{action_of, causes_of, effect_of, written}, declared.link.Effect.{Effect, TheVariants.{Nothing, LinkReset}}}
use Rattle.ahci_registers.specs.declared.link.{Effect.TheVariants.LinkUp, LinkAction.{LinkAction, TheVariants.{NoAction, Comreset, Disable}}}
use Rattle.ahci_registers.specs.declared.register.Register.{Register, TheVariants.{Ghc, Is, PxClb, PxClbu, PxFb, PxFbu, PxIs, PxIe, PxCmd, PxSctl}}
use Rattle.ahci_registers.specs.declared.register.Register.TheVariants.{PxSerr, PxSact, PxCi, PxSntf, PxFbs}
use Rattle.hba_fbs.specs.{Bits.{bit, en, without}, Greeting.Hangs, Issuing.is_busy, Offering.{AcceptsBy, refusal_by}, Reading.shown_device}
use Rattle.hba_fbs.specs.{Registers.own_refusal_by, Resets.{link_reset, whole_reset}, Stopping.{Overrides, SetsCmd}, Views.Port}
use Rattle.hba_fbs.specs.declared.{error.WriteError.WriteError, greeting.Line.Line}
use Rattle.hba_fbs.specs.declared.error.WriteError.TheVariants as refusal
use Rattle.hba_fbs.specs.declared.greeting.Line.TheVariants as on_line
use Rattle.hba_fbs.specs.declared.register.Register as port_register
use Rattle.hba_fbs.specs.declared.register.Register.TheVariants as on_port
use Rattle.ahci_controller.specs.{Causes.next_causes, Latch.{edge, latched}, Offers.{offer_in, offers_nothing}, Own.{commanded, engine_of, falls}}
use Rattle.ahci_controller.specs.{Own.{own_area, own_list, reset_own}, Reading.is_idle, States.ControllerState, Wants.dropped}
use Rattle.ahci_controller.specs.declared.{latch.{Edge.TheVariants.Steady, Latch.Latch}, own.OwnRegisters.OwnRegisters, writing.Written.Written}
use Rattle.ahci_controller.specs.Own as own_words

-- nothing is asked for beside the registers, but that a message may be due
abbrev pub quietly : Bool → Option WriteError → Written
quietly message ignored =
    record { effect = Nothing; message = message; ignored = ignored; ended = 0; line = Steady }

-- ---- registers of the core

abbrev pub told_refusal : ControllerState → port_register.Register → ℕ → Option WriteError
told_refusal c register value = refusal_by register c.core (offer_in offers_nothing) value

-- A write to a register of the core, with these interrupts and own registers after it; all else stays. Where the core refuses
-- it, that stays too.
pub record Tells (old : ControllerState) (register : port_register.Register) (value : ℕ) (latch_after : Latch)
    (own_after : OwnRegisters) (ignored : Option WriteError) (new : ControllerState) : Type 0 where
  pub ignored_is : ignored ≡ told_refusal old register value
  pub core : MatchOption (told_refusal old register value)
      (AcceptsBy old.core (offer_in offers_nothing) register value new.core) (λ e. new.core ≡ old.core)
  pub rest : new ≡ record old { core = new.core; latch = latch_after; own = own_after }

-- ---- resets

-- A reset of the controller ends all but the addresses, and the link comes up anew. No signature has come since: PxTFD has its
-- reset value (AHCI 1.3.1, 3.3.8 and 10.4.3).
pub record ResetsAll (old : ControllerState) (value : ℕ) (new : ControllerState) : Type 0 where
  pub core : Hangs (whole_reset old.core) 15 on_line.Empty new.core
  pub rest : new ≡ record (dropped old) {
    core = new.core;
    latch = latched old.latch (WroteGlobal value);
    link = record { control = 0 };
    own = reset_own old.own;
  }

abbrev pub WritesGlobal : (resets : Bool) → ControllerState → ℕ → ControllerState → Type 0
WritesGlobal true old value new = ResetsAll old value new
WritesGlobal false old value new = new ≡ record old { latch = latched old.latch (WroteGlobal value) }

abbrev pub global_written : ControllerState → ℕ → Written
global_written c value = record (quietly (is_due c.latch.lines (WroteGlobal value)) None) {
  effect = (if line_bits.has_bit value 0 then LinkReset else Nothing);
}

-- What hangs at the port: nothing while the interface is disabled, and else a device that owes its signature.
abbrev pub line_of : LinkAction → Line
line_of NoAction = on_line.Reset
line_of Comreset = on_line.Reset
line_of Disable = on_line.Empty

pub record ResetsLink (old new : ControllerState) : Type 0 where
  pub core : Hangs (link_reset old.core) 15 (line_of (action_of old.link.control)) new.core
  pub rest : new ≡ record (dropped old) { core = new.core }

abbrev pub ResetsBy : Effect → ControllerState → ControllerState → Type 0
ResetsBy Nothing old new = new ≡ old
ResetsBy LinkReset old new = ResetsLink old new
ResetsBy LinkUp old new = new ≡ old

-- PxSCTL: the link, which moves only while ST is 0
abbrev pub control_after : ControllerState → ℕ → ℕ
control_after c value = written c.link.control value c.own.starts

abbrev pub link_effect : ControllerState → ℕ → Effect
link_effect c value = effect_of (action_of c.link.control) (action_of (control_after c value))

abbrev pub link_causes : ControllerState → ℕ → ℕ
link_causes c value = causes_of (action_of c.link.control) (action_of (control_after c value))

abbrev pub link_moved : ControllerState → ℕ → ControllerState
link_moved c value = record c {
  latch = latched c.latch (Caused (link_causes c value));
  link = record { control = control_after c value };
}

-- ---- PxCMD

-- CLO is bit 3; it acts while ST is 0
abbrev pub clears_busy : ControllerState → ℕ → Bool
clears_busy c value = has_bit value 3 && not c.core.registers.started

abbrev pub ClearsIf : Bool → Port → Port → Type 0
ClearsIf true old new = Overrides old (shown_device old) new
ClearsIf false old new = new ≡ old

pub record ClearsBusy (old : ControllerState) (value : ℕ) (new : ControllerState) : Type 0 where
  pub core : ClearsIf (clears_busy old value) old.core new.core
  pub rest : new ≡ record old { core = new.core }

-- PxTFD is idle as the port is to start: CLO comes first
abbrev pub idle_for : ControllerState → ℕ → Bool
idle_for c value = clears_busy c value || is_idle c

abbrev pub engine : ControllerState → (idle : Bool) → ℕ → ℕ
engine c idle value = engine_of (commanded c.own value) idle c.core.registers

-- The port starts or stops, as these registers say and the task file lets it. As ST falls nothing is wanted of the guest any
-- more.
pub record Restarts (old : ControllerState) (idle : Bool) (own : OwnRegisters) (ignored : Option WriteError)
    (new : ControllerState) : Type 0 where
  pub ignored_is : ignored ≡ own_refusal_by on_port.Cmd old.core.registers (engine_of own idle old.core.registers)
  pub core : MatchOption (own_refusal_by on_port.Cmd old.core.registers (engine_of own idle old.core.registers))
      (SetsCmd old.core (engine_of own idle old.core.registers) new.core) (λ e. new.core ≡ old.core)
  pub rest : new ≡ record (if falls old.own own old.core.registers new.core.registers then dropped old else old) {
    core = new.core;
    own = own_words.latched own old.own old.core.registers new.core.registers;
  }

-- ST, FRE and PMA
abbrev pub StartsPort : ControllerState → (idle : Bool) → ℕ → Option WriteError → ControllerState → Type 0
StartsPort old idle value ignored new = Restarts old idle (commanded old.own value) ignored new

-- CLO first
pub record Commands (old : ControllerState) (value : ℕ) (ignored : Option WriteError) (new : ControllerState)
    : Type 0 where
  pub middle : ControllerState
  pub clears : ClearsBusy old value middle
  pub starts : StartsPort middle (idle_for old value) value ignored new

-- ---- values for the core

-- a slot in which something is issued is armed no more
abbrev pub armed_by : Port → ℕ → ℕ
armed_by port value = without value (mask_of (is_busy port.slots))

-- EN stays as it is while ST is 1; DEV and DEC act
abbrev pub switched_by : ControllerState → ℕ → ℕ
switched_by c value =
    if c.own.starts then value / 2 * 2 + bit en c.core.registers.switching else value

-- ---- PxCI

-- the slots that are to be read: none in which something is issued, none that is being read, and none of a bad command
abbrev pub fresh_slots : ControllerState → ℕ → ℕ
fresh_slots c value = without (without (without value (mask_of (is_busy c.core.slots))) c.wants.pending) c.own.bad

abbrev pub stopped_if : (started : Bool) → ℕ → Option WriteError
stopped_if started value = if not started && not (value == 0) then Some refusal.Stopped else None

-- While ST is 0, none is. (3.3.14: software sets a bit only while ST is 1. So while ST is held bits are set, and wait.)
abbrev pub asked_state : ControllerState → ℕ → ControllerState
asked_state c value = if c.own.starts
    then record c { wants = record c.wants { pending = bit_or c.wants.pending (fresh_slots c value) } } else c

-- ---- the write

abbrev pub Rebases : ControllerState → OwnRegisters → Written → ControllerState → Type 0
Rebases old own result new = (new ≡ record old { own = own }) × (result ≡ quietly false None)

-- with this answer, and this message
abbrev pub Quiet : Written → Bool → Type 0
Quiet result message = result ≡ quietly message result.ignored

-- what a write of a register leaves and asks for; what it did to the line and which commands it ended stand below
abbrev pub Leaves : Register → ControllerState → ℕ → Written → ControllerState → Type 0
Leaves Ghc old value result new =
    WritesGlobal (line_bits.has_bit value 0) old value new × (result ≡ global_written old value)
Leaves Is old value result new =
    (new ≡ record old { latch = latched old.latch (WroteStatus value) })
    × (result ≡ quietly (is_due old.latch.lines (WroteStatus value)) None)
Leaves PxClb old value result new = Rebases old (own_list old.own (value / 1024 * 1024) old.own.list.upper) result new
Leaves PxClbu old value result new = Rebases old (own_list old.own old.own.list.lower value) result new
Leaves PxFb old value result new = Rebases old (own_area old.own (value / 256 * 256) old.own.area.upper) result new
Leaves PxFbu old value result new = Rebases old (own_area old.own old.own.area.lower value) result new
Leaves PxIs old value result new =
    Tells old on_port.Is value (latched old.latch (WrotePortStatus value)) old.own result.ignored new
    × Quiet result false
Leaves PxIe old value result new =
    (new ≡ record old { latch = latched old.latch (WrotePortMask value) })
    × (result ≡ quietly (is_due old.latch.lines (WrotePortMask value)) None)
Leaves PxCmd old value result new = Commands old value result.ignored new × Quiet result false
Leaves PxSctl old value result new = ResetsBy (link_effect old value) (link_moved old value) new
    × (result ≡ record (quietly (is_due old.latch.lines (Caused (link_causes old value))) None) {
      effect = link_effect old value;
    })
Leaves PxSerr old value result new =
    Tells old on_port.Serr value (latched old.latch (WroteError value))
    (record old.own { errors = bit_and old.own.errors (0xFFFF - value % 0x10000) }) result.ignored new
    × Quiet result false
Leaves PxSact old value result new =
    Tells old on_port.Sact (armed_by old.core value) old.latch old.own result.ignored new × Quiet result false
Leaves PxCi old value result new =
    (new ≡ asked_state old value) × (result ≡ quietly false (stopped_if old.own.starts value))
Leaves PxSntf old value result new =
    Tells old on_port.Sntf value old.latch old.own result.ignored new × Quiet result false
Leaves PxFbs old value result new =
    Tells (record old { wants = record old.wants { feeding = 0 } }) on_port.Fbs (switched_by old value)
    (latched old.latch (Caused (next_causes value new.core))) old.own result.ignored new
    × Quiet result (is_due old.latch.lines (Caused (next_causes value new.core)))
Leaves register old value result new = (new ≡ old) × (result ≡ quietly false None)

-- ---- what a write ends

-- the slots whose commands are issued or being read
abbrev pub under_way : ControllerState → ℕ
under_way c = bit_or (mask_of (is_busy c.core.slots)) c.wants.pending

-- a reset, ST, a COMRESET and DEC end commands, and no other write does
abbrev pub may_end : Register → Bool
may_end Ghc = true
may_end PxCmd = true
may_end PxSctl = true
may_end PxFbs = true
may_end register = false

abbrev pub at_stake : Register → ControllerState → ℕ
at_stake register c = if may_end register then under_way c else 0

-- ---- the whole answer

-- what else is answered
abbrev pub plain : Written → Written
plain result = record result { ended = 0; line = Steady }

pub record WritesRegister (register : Register) (old : ControllerState) (value : ℕ) (result : Written)
    (new : ControllerState) : Type 0 where
  pub leaves : Leaves register old value (plain result) new
  pub ended : result.ended ≡ without (at_stake register old) (at_stake register new)
  pub line : result.line ≡ edge old.latch new.latch
