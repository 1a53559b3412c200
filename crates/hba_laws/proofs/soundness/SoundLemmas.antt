-- For `stays_sound`. What is true of the host as it opens, and what of it each event keeps.
use Rattle.std.proofs.Common.{◌≡◌, ℕ, ◌%◌, ◌<◌, Bool, true, false, ◌&&◌, List, set, refl, sym, ap, subst, arith, inl, inr, Option, Some, None}
use Rattle.std.proofs.{Common.{replicate, eqb, nat_le, ◌-◌}, lemmas.Bool.{and_parts, cases_Bool, cases_lt, eqb-true, false≢true, leb-true}}
use Rattle.std.proofs.lemmas.List.{get_or-replicate, get_or_past, length-replicate}
use Rattle.std.specs.{Prelude.{if◌then◌else◌, ◌==◌, unwrap_or}, Option.{option_eq, option_map_or}}
use Rattle.fis_view.specs.{Frames.Stamped, Seen.seen, declared.view.Fis.Fis}
use Rattle.host_memory.specs.Memory.{Memory, client_start, zeros}
use Rattle.host_memory.proofs.Door.{zeros_sized}
use Rattle.port_errors.specs.Errors.{AreErrors, Errors, after_clear, cause_of, cleared_device, is_reported, lowest_marked, no_errors, with_port}
use Rattle.port_errors.specs.{Errors.without, declared.cause.{DeviceCause.DeviceCause, PortCause.{PortCause, TheVariants.Bus}}}
use Rattle.port_errors.proofs.Door.{after_clear_none, after_clear_some, cleared_below, with_device_keeps, without_other, without_reported}
use Rattle.slots.specs.Slots.{has_bit}
use Rattle.slots.proofs.Door.{new_table}
use Rattle.hba_fbs.specs.declared.{hearing.{Fault.Fault, Heard.Heard}, register.Register.{Register, TheVariants.{Cmd, Fbs}}}
use Rattle.hba_fbs.specs.{declared.registers.Registers.Registers, Bits.dec, Registers.{AreRegisters, falls, opening_registers, own_refusal, written}}
use Rattle.hba_fbs.specs.{Sending.{Gives, Nothing, Outgoing, Unreadable, outgoing}, Taking.{admitted, errors_alone, errors_in, errors_with}}
use Rattle.hba_fbs.specs.{Taking.{heard_now, ignores, port_of, posted_of, settled}, Views.{Port, view_of}, Writing.{errors_after, slots_refusal}}
use Rattle.hba_fbs.specs.declared.hearing.Fault.TheVariants as fault
use Rattle.hba_fbs.proofs.Door.{heard_are, none_have, written_are}
use Rattle.hba_laws.specs.{Hosts.{Does, Flushed, Gave, Host, HostEvent, Took, Wrote}, Sound.{OpensSound, RegistersStaySound, SizesStay}}
use Rattle.hba_laws.proofs.soundness.{KeptLemmas.{client_lens, structure_lens}, WriteLemmas.first_none}

-- ---- errors

abbrev no_cause : Option DeviceCause
no_cause = None

no_faults : AreErrors no_errors
no_faults = record {
  ports = length-replicate 16 no_cause;
  reported_is_marked = λ dev h. absurd (cc);
  none_is_marked = λ h dev.
      elim (cases_lt dev 16) [
        | inl lt ↦ get_or-replicate 16 dev no_cause None lt
        | inr ge ↦ get_or_past (replicate 16 no_cause) dev None (rw (length-replicate 16 no_cause) ge)
      ];
}

stopped_errors : (errors : Errors) (c : PortCause) → AreErrors errors → AreErrors (with_port errors c)
stopped_errors errors c are = record { ports = are.ports; reported_is_marked = are.reported_is_marked; none_is_marked = are.none_is_marked }

heard_errors : (errors : Errors) (dev : ℕ) (f : Option Fault) → dev < 16 → AreErrors errors → AreErrors (errors_with errors dev f)
heard_errors errors dev None lt are = are
heard_errors errors dev (Some (fault.Device c)) lt are =
    with_device_keeps errors.causes errors.reported errors.port dev (unwrap_or errors.reported dev) (unwrap_or (cause_of errors dev) c) are lt refl
heard_errors errors dev (Some (fault.Port c)) lt are = stopped_errors errors c are

-- without FIS-based switching
alone_errors : (errors : Errors) (dev : ℕ) (f : Option Fault) → dev < 16 → AreErrors errors → AreErrors (errors_alone errors dev f)
alone_errors errors dev None lt are = are
alone_errors errors dev (Some (fault.Device c)) lt are =
    let marked = with_device_keeps errors.causes errors.reported errors.port dev (unwrap_or errors.reported dev) (unwrap_or (cause_of errors dev) c) are lt refl in
    record { ports = marked.ports; reported_is_marked = marked.reported_is_marked; none_is_marked = marked.none_is_marked }
alone_errors errors dev (Some (fault.Port c)) lt are = stopped_errors errors c are

errors_either : (on : Bool) (errors : Errors) (dev : ℕ) (f : Option Fault) → dev < 16 → AreErrors errors → AreErrors (errors_in on errors dev f)
errors_either true errors dev f lt are = heard_errors errors dev f lt are
errors_either false errors dev f lt are = alone_errors errors dev f lt are

not_reported : (reported : Option ℕ) (dev : ℕ) → option_map_or (λ other. other == dev) reported false ≡ false → option_eq eqb reported (Some dev) ≡ false
not_reported None dev h = refl
not_reported (Some other) dev h = h

flushed_by : (errors : Errors) (dev : ℕ) (b : Bool) → is_reported errors dev ≡ b → dev < 16 → AreErrors errors
    → AreErrors (record { causes = set errors.causes dev None; reported = (if b then lowest_marked (set errors.causes dev None) else errors.reported); port = errors.port })
flushed_by errors dev true is lt are = without_reported errors.causes errors.reported (lowest_marked (set errors.causes dev None)) errors.port dev are refl
flushed_by errors dev false is lt are = without_other errors.causes errors.reported errors.port dev are lt (not_reported errors.reported dev is)

flushed_errors : (errors : Errors) (dev : ℕ) → dev < 16 → AreErrors errors → AreErrors (without errors dev)
flushed_errors errors dev lt are = flushed_by errors dev (is_reported errors dev) refl lt are

stopped_if : (b : Bool) (errors : Errors) → AreErrors errors → AreErrors (if b then no_errors else errors)
stopped_if true errors are = no_faults
stopped_if false errors are = are

cleared_errors : (errors : Errors) (o : Option ℕ) → cleared_device errors ≡ o → AreErrors errors → AreErrors (after_clear errors)
cleared_errors errors None is are = subst AreErrors (sym (after_clear_none errors is)) are
cleared_errors errors (Some dev) is are = subst AreErrors (sym (after_clear_some errors dev is)) (flushed_errors errors dev (cleared_below errors dev are is) are)

cleared_if : (b : Bool) (errors : Errors) → AreErrors errors → AreErrors (if b then after_clear errors else errors)
cleared_if true errors are = cleared_errors errors (cleared_device errors) refl are
cleared_if false errors are = are

written_errors : (register : Register) (port : Port) (value : ℕ) → AreErrors port.errors → AreErrors (errors_after register port value)
unfolding errors_after
written_errors Cmd port value are = stopped_if (falls port.registers value) port.errors are
written_errors Fbs port value are = cleared_if (has_bit value dec) port.errors are
written_errors register port value are = are

-- ---- events

abbrev AreSound : Registers → Errors → Type 0
AreSound registers errors = AreRegisters registers × AreErrors errors

sound_by : (r s : Registers) (e f : Errors) → r ≡ s → e ≡ f → AreSound s f → AreSound r e
sound_by r s e f p q are = (subst AreRegisters (sym p) are.0, subst AreErrors (sym q) are.1)

same_port : (old new : Port) → new ≡ old → AreSound old.registers old.errors → AreSound new.registers new.errors
same_port old new is are = subst (λ (p : Port). AreSound p.registers p.errors) (sym is) are

gives_are : (o : Outgoing) (old : Port) (memory : Memory) (frame : Option Stamped) (new : Port) → Gives o old memory frame new → AreSound old.registers old.errors → AreSound new.registers new.errors
gives_are Nothing old memory frame new gives are = same_port old new gives.1 are
gives_are (Unreadable dev) old memory frame new gives are =
    let after = ap (λ (p : Port). p.registers) gives.1 in (
      subst AreRegisters (sym after) (record { chosen = are.0.chosen; started = are.0.started; receives = are.0.receives }),
      subst AreErrors (sym (ap (λ (p : Port). p.errors) gives.1)) (stopped_errors old.errors Bus are.1),
    )
gives_are other old memory None new gives are = absurd gives
gives_are rest old memory (Some f) new gives are = sound_by new.registers old.registers new.errors old.errors gives.registers gives.errors are

port_below : (frame : List ℕ) → port_of frame < 16
port_below frame = omega arith

stays_by : (old new : Host) (event : HostEvent) → AreSound old.port.registers old.port.errors → Does old event new → AreSound new.port.registers new.port.errors
stays_by old new (Took frame report) are does =
    let dev : ℕ = port_of frame in
    let fis : Option Fis = admitted dev (seen frame) in
    elim (cases_Bool (ignores dev old.port frame)) [
      | inl t ↦ same_port old.port new.port (does.ignored t).port are
      | inr f ↦
          let h : Heard = heard_now old.port old.memory dev fis in
          let resets : Bool = (view_of dev old.port).state.resetting in
          sound_by new.port.registers (settled (posted_of old.port.registers dev resets fis) h) new.port.errors (errors_in old.port.registers.switching old.port.errors dev h.fault) (does.heard f).registers (does.heard f).errors
          (heard_are old.port.registers dev resets fis h are.0, errors_either old.port.registers.switching old.port.errors dev h.fault (port_below frame) are.1)
    ]
stays_by old new (Wrote register value) are does =
    sound_by new.port.registers (written register old.port.registers value) new.port.errors (errors_after register old.port value) does.1.registers does.1.errors
    (written_are register old.port.registers value are.0 (first_none (own_refusal register old.port.registers value) (slots_refusal register old.port old.memory value) does.0), written_errors register old.port value are.1)
stays_by old new (Flushed dev) are does =
    sound_by new.port.registers old.port.registers new.port.errors (without old.port.errors dev) does.0.registers does.0.errors (are.0, flushed_errors old.port.errors dev does.0.dev_below are.1)
stays_by old new (Gave frame) are does = gives_are (outgoing old.port old.memory) old.port old.memory frame new.port does.0 are
stays_by old new other are does = same_port old.port new.port does.1 are

pub registers_stay_sound : RegistersStaySound
registers_stay_sound old new event is does = stays_by old new event (is.port.registers, is.errors) does

pub sizes_stay : SizesStay
sizes_stay old new events run hosts = (structure_lens old new events run hosts, client_lens old new events run)

-- ---- the host as it opens

opening_are : AreRegisters opening_registers
opening_are = record { chosen = omega arith; started = λ h. absurd (false≢true h); receives = λ h. absurd (false≢true h) }

pub opens_sound : OpensSound
opens_sound len h =
    let parts = and_parts (nat_le 2097152 len && nat_le len 16777216) (len % 2 == 0) h in
    let sizes = and_parts (nat_le 2097152 len) (nat_le len 16777216) parts.0 in
    record {
      port = record { registers = opening_are; commands = none_have (replicate 32 None); active = omega arith };
      slots = new_table 32 16 refl refl;
      errors = no_faults;
      memory = zeros_sized (zeros client_start) (zeros (len - client_start)) len refl refl (leb-true 2097152 len sizes.0) (leb-true len 16777216 sizes.1) (eqb-true (len % 2) 0 parts.1);
    }
