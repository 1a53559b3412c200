-- The rules of a controller stay true over writes of registers.
use Rattle.std.proofs.Common.{◌≡◌, ℕ, ◌+◌, ◌<◌, ◌&&◌, ◌||◌, bit_or, Bool, true, false, not, List, get_or, replicate, refl, sym, ap, subst, ◌∙◌, inl}
use Rattle.std.proofs.{Common.{inr, Option, Some, None, arith}, lemmas.{Bool.{cases_Bool, cases_lt, false≢true, true≢false}, List.{get_or-replicate}}}
use Rattle.std.proofs.lemmas.List.{get_or_past, length-replicate}
use Rattle.std.specs.Prelude.{IfSome, MatchOption, is_some, ◌==◌, if◌then◌else◌}
use Rattle.slots.specs.{Slots.{Issue, KeepsFree, has_bit, issue_at, mask_below, mask_of}, Table.IsTable}
use Rattle.slots.proofs.Door.{has_bit_mask, mask_fits}
use Rattle.ahci_registers.specs.Bits as line_bits
use Rattle.ahci_registers.specs.{Offsets.register_at, declared.{link.Effect.Effect, register.Register.Register}}
use Rattle.ahci_registers.specs.declared.link.Effect.TheVariants as effect
use Rattle.ahci_registers.specs.declared.register.Register.TheVariants as ahci
use Rattle.guest_fetch.specs.Commands.{Fetched}
use Rattle.hba_commands.specs.declared.command.Command.{Command}
use Rattle.hba_fbs.specs.{Bits.without, Greeting.Hangs, Issuing.is_busy, Offering.{AcceptsBy, Offer, commands_by}, Registers.own_refusal_by}
use Rattle.hba_fbs.specs.{Registers.written, Resets.{link_reset, whole_reset}, Stopping.{Overrides, SetsCmd}, Views.{Port, last_command}}
use Rattle.hba_fbs.specs.{Views.opening_port, declared.{error.WriteError.WriteError, greeting.Line.Line, registers.Registers.Registers}}
use Rattle.hba_fbs.specs.declared.register.Register as port_register
use Rattle.hba_fbs.specs.declared.register.Register.TheVariants as on_port
use Rattle.ahci_controller.specs.{Access.merged, Offers.{offer_in, offers_nothing}, Reading.shown, Rules.{AreParts, IsOffered, IsRuled}}
use Rattle.ahci_controller.specs.{States.ControllerState, Wants.dropped, Wide.{WritesAt, WritesFitting, WritesIf, WritesPart, WritesWide}}
use Rattle.ahci_controller.specs.{Outbox.without_wants, Own.{commanded, engine_of}, Writing.{ClearsBusy, ClearsIf, Commands, Leaves, ResetsBy}}
use Rattle.ahci_controller.specs.Writing.{ResetsLink, Restarts, Tells, WritesGlobal, WritesRegister, asked_state, clears_busy, fresh_slots, idle_for}
use Rattle.ahci_controller.specs.{Writing.{link_effect, link_moved, plain, told_refusal}, declared.{access.Width.Width, latch.Latch.Latch}}
use Rattle.ahci_controller.specs.declared.{own.OwnRegisters.OwnRegisters, wide.WideWritten.WideWritten, writing.Written.Written}
use Rattle.ahci_controller.specs.Own as own_words
use Rattle.ahci_controller.proofs.rules.BitLemmas as bits
use Rattle.ahci_controller.proofs.rules.FreeLemmas.{StaysNone, accepted_free, fbs_none, is_none, sact_none, same_free, serr_none, set_cmd_free}
use Rattle.ahci_controller.proofs.rules.{FreeLemmas.{slots_free, sntf_none}, CallLemmas.same_ruled}
use Rattle.ahci_controller.proofs.rules.PartLemmas as parts

-- ---- the core

-- a register of the core of which no write issues anything, or starts or stops the port
record IsCalm (register : port_register.Register) : Type 0 where
  none : StaysNone register
  commands : (offer : Offer) (value : ℕ) (port : Port) → commands_by register port offer value ≡ port.commands
  started : (value : ℕ) (r : Registers) → (written register r value).started ≡ r.started

is_calm : IsCalm on_port.Is
unfolding commands_by written
is_calm = record { none = is_none; commands = λ offer value port. refl; started = λ value r. refl }

serr_calm : IsCalm on_port.Serr
unfolding commands_by written
serr_calm = record { none = serr_none; commands = λ offer value port. refl; started = λ value r. refl }

sact_calm : IsCalm on_port.Sact
unfolding commands_by written
sact_calm = record { none = sact_none; commands = λ offer value port. refl; started = λ value r. refl }

sntf_calm : IsCalm on_port.Sntf
unfolding commands_by written
sntf_calm = record { none = sntf_none; commands = λ offer value port. refl; started = λ value r. refl }

fbs_calm : IsCalm on_port.Fbs
unfolding commands_by written
fbs_calm = record { none = fbs_none; commands = λ offer value port. refl; started = λ value r. refl }

told_as : (register : port_register.Register) (o : Option WriteError) (value : ℕ) (c : ControllerState) (new : Port) → IsCalm register → IsTable new.slots → IsRuled c
    → MatchOption o (AcceptsBy c.core (offer_in offers_nothing) register value new) (λ e. new ≡ c.core) → IsRuled (record c { core = new })
told_as register None value c new calm ok was h =
    parts.core_moves c.core c.wants c.fetches c.commands c.writes.payload c.own.starts was new (h.commands ∙ calm.commands (offer_in offers_nothing) value c.core)
    (accepted_free register (offer_in offers_nothing) value c.core new calm.none ok h)
    (λ e. was.stopped (sym (ap (λ (r : Registers). r.started) h.registers ∙ calm.started value c.core.registers) ∙ e))
told_as register (Some error) value c new calm ok was h = subst (λ (p : Port). IsRuled (record c { core = p })) (sym h) was

told_ruled : (register : port_register.Register) (value : ℕ) (c new : ControllerState) (latch : Latch) (own : OwnRegisters) (ignored : Option WriteError) → IsCalm register → IsTable new.core.slots → IsRuled c → Tells c register value latch own ignored new → own.starts ≡ c.own.starts → IsRuled new
told_ruled register value c new latch own ignored calm ok was h same =
    subst IsRuled (sym h.rest)
    (subst (λ (b : Bool). AreParts new.core c.wants c.fetches c.commands c.writes.payload b) (sym same) (told_as register (told_refusal c register value) value c new.core calm ok was h.core))

-- ---- resets

-- the core is as it opens
no_command_at : (slot : ℕ) → last_command (replicate 32 None) slot ≡ None
no_command_at slot = elim (cases_lt slot 32) [
  | inl lt ↦ get_or-replicate 32 slot none None lt
  | inr ge ↦ get_or_past (replicate 32 none) slot None (let long = length-replicate 32 none in omega (arith, long, ge))
]
  where
    none : Option Command
    none = None

reset_ruled : (c : ControllerState) (port new : Port) (line : Line) (starts : Bool) → port.commands ≡ replicate 32 None → Hangs port 15 line new → IsRuled c → AreParts new (without_wants c.wants) (replicate 32 None) c.commands None starts
reset_ruled c port new line starts none h was =
    parts.drops c.core c.wants c.fetches c.commands c.writes.payload c.own.starts was new starts (λ s.
    subst (λ (o : Option Command). IsOffered o (get_or c.commands s None)) (sym (ap (λ (l : List (Option Command)). last_command l s) (h.commands ∙ none) ∙ no_command_at s)) tt)

global_ruled : (resets : Bool) (value : ℕ) (c new : ControllerState) → IsRuled c → WritesGlobal resets c value new → IsRuled new
global_ruled true value c new was h = subst IsRuled (sym h.rest) (reset_ruled c (whole_reset c.core) new.core _ false refl h.core was)
global_ruled false value c new was h = subst IsRuled (sym h) was

linked_ruled : (e : Effect) (c new : ControllerState) → IsRuled c → ResetsBy e c new → IsRuled new
linked_ruled effect.Nothing c new was h = same_ruled c new h was
linked_ruled effect.LinkReset c new was h = subst IsRuled (sym h.rest) (reset_ruled c (link_reset c.core) new.core _ c.own.starts refl h.core was)
linked_ruled effect.LinkUp c new was h = same_ruled c new h was

-- ---- PxCMD

cleared_as : (clears : Bool) (c : ControllerState) (new : Port) → IsRuled c → ClearsIf clears c.core new → IsRuled (record c { core = new })
cleared_as true c new was h =
    parts.core_moves c.core c.wants c.fetches c.commands c.writes.payload c.own.starts was new h.commands (slots_free c.core new h.slots) (λ e. was.stopped (sym (ap (λ (r : Registers). r.started) h.registers) ∙ e))
cleared_as false c new was h = subst (λ (p : Port). IsRuled (record c { core = p })) (sym h) was

commands_same : (o : Option WriteError) (value : ℕ) (old new : Port) → MatchOption o (SetsCmd old value new) (λ e. new ≡ old) → new.commands ≡ old.commands
commands_same None value old new h = h.commands
commands_same (Some e) value old new h = ap (λ (p : Port). p.commands) h

cmd_free : (o : Option WriteError) (value : ℕ) (old new : Port) → IsTable new.slots → MatchOption o (SetsCmd old value new) (λ e. new ≡ old) → KeepsFree old.slots new.slots
cmd_free None value old new ok h = set_cmd_free value old new ok h
cmd_free (Some e) value old new ok h = same_free old new h

-- it stops now, or was stopped before, and ST was 0
fell : (was before own now : Bool) → (not now && (was || before && not own)) ≡ false → now ≡ false → own ≡ false → (was ≡ false) × (before ≡ false)
fell was before own true f n s = absurd (true≢false n)
fell was before true false f n s = absurd (true≢false s)
fell true before false false f n s = absurd (true≢false f)
fell false true false false f n s = absurd (true≢false f)
fell false false false false f n s = (refl, refl)

started_as : (fall : Bool) (own : OwnRegisters) (c : ControllerState) (new : Port) → own_words.falls c.own own c.core.registers new.registers ≡ fall → new.commands ≡ c.core.commands → KeepsFree c.core.slots new.slots → IsRuled c
    → IsRuled (record (if fall then dropped c else c) { core = new; own = own_words.latched own c.own c.core.registers new.registers })
started_as true own c new is same frees was =
    parts.drops c.core c.wants c.fetches c.commands c.writes.payload c.own.starts was new own.starts (λ s. subst (λ (l : List (Option Command)). IsOffered (last_command l s) (get_or c.commands s None)) (sym same) (was.kept s))
started_as false own c new is same frees was =
    parts.restarts c.core c.wants c.fetches c.commands c.writes.payload c.own.starts was new own.starts same frees (λ e f.
    let before = fell c.core.registers.started c.own.starts own.starts new.registers.started is e f in
    was.stopped before.0 before.1)

pub restarts_ruled : (idle : Bool) (own : OwnRegisters) (c new : ControllerState) (ignored : Option WriteError) → IsTable new.core.slots → IsRuled c → Restarts c idle own ignored new → IsRuled new
restarts_ruled idle own c new ignored ok was h =
    let value : ℕ = engine_of own idle c.core.registers in
    let o : Option WriteError = own_refusal_by on_port.Cmd c.core.registers value in
    subst IsRuled (sym h.rest)
    (started_as (own_words.falls c.own own c.core.registers new.core.registers) own c new.core refl (commands_same o value c.core new.core h.core) (cmd_free o value c.core new.core ok h.core) was)

commands_ruled : (value : ℕ) (c new : ControllerState) (ignored : Option WriteError) → IsTable new.core.slots → IsRuled c → Commands c value ignored new → IsRuled new
commands_ruled value c new ignored ok was h =
    let middle : IsRuled h.middle = subst IsRuled (sym h.clears.rest) (cleared_as (clears_busy c value) c h.middle.core was h.clears.core) in
    restarts_ruled (idle_for c value) (commanded h.middle.own value) h.middle new ignored ok middle h.starts

-- ---- PxCI

free_is : (o : Option Issue) → is_some o ≡ false → o ≡ None
free_is None h = refl
free_is (Some i) h = absurd (true≢false h)

fresh_free : (c : ControllerState) (value s : ℕ) → s < 32 → has_bit (fresh_slots c value) s ≡ true → issue_at c.core.slots s ≡ None
fresh_free c value s below here =
    let mask : ℕ = mask_of (is_busy c.core.slots) in
    let first : has_bit (without value mask) s ≡ true = bits.left_was (without value mask) c.wants.pending s (bits.left_was (without (without value mask) c.wants.pending) c.own.bad s here) in
    let none : is_busy c.core.slots s ≡ false = elim (cases_Bool (is_busy c.core.slots s)) [
      | inl busy ↦ absurd (false≢true (sym (bits.taken value mask s (mask_fits (is_busy c.core.slots) 32) below (has_bit_mask (is_busy c.core.slots) s below ∙ busy)) ∙ first))
      | inr free ↦ free
    ] in
    free_is (issue_at c.core.slots s) none

asked_ruled : (started : Bool) (value : ℕ) (c : ControllerState) → c.own.starts ≡ started → IsRuled c → IsRuled (if started then record c { wants = record c.wants { pending = bit_or c.wants.pending (fresh_slots c value) } } else c)
asked_ruled true value c is was = parts.pends c.core c.wants c.fetches c.commands c.writes.payload c.own.starts was (fresh_slots c value) is (fresh_free c value)
asked_ruled false value c is was = was

-- ---- all registers

pub register_rules : (register : Register) (value : ℕ) (c new : ControllerState) (result : Written) → IsTable new.core.slots → IsRuled c → Leaves register c value result new → IsRuled new
register_rules ahci.Cap value c new result ok was h = same_ruled c new h.0 was
register_rules ahci.Ghc value c new result ok was h = global_ruled (line_bits.has_bit value 0) value c new was h.0
register_rules ahci.Is value c new result ok was h = subst IsRuled (sym h.0) was
register_rules ahci.Pi value c new result ok was h = same_ruled c new h.0 was
register_rules ahci.Vs value c new result ok was h = same_ruled c new h.0 was
register_rules ahci.Cap2 value c new result ok was h = same_ruled c new h.0 was
register_rules ahci.PxClb value c new result ok was h = subst IsRuled (sym h.0) was
register_rules ahci.PxClbu value c new result ok was h = subst IsRuled (sym h.0) was
register_rules ahci.PxFb value c new result ok was h = subst IsRuled (sym h.0) was
register_rules ahci.PxFbu value c new result ok was h = subst IsRuled (sym h.0) was
register_rules ahci.PxIs value c new result ok was h = told_ruled on_port.Is value c new _ _ result.ignored is_calm ok was h.0 refl
register_rules ahci.PxIe value c new result ok was h = subst IsRuled (sym h.0) was
register_rules ahci.PxCmd value c new result ok was h = commands_ruled value c new result.ignored ok was h.0
register_rules ahci.PxTfd value c new result ok was h = same_ruled c new h.0 was
register_rules ahci.PxSig value c new result ok was h = same_ruled c new h.0 was
register_rules ahci.PxSsts value c new result ok was h = same_ruled c new h.0 was
register_rules ahci.PxSctl value c new result ok was h = linked_ruled (link_effect c value) (link_moved c value) new was h.0
register_rules ahci.PxSerr value c new result ok was h = told_ruled on_port.Serr value c new _ _ result.ignored serr_calm ok was h.0 refl
register_rules ahci.PxSact value c new result ok was h = told_ruled on_port.Sact _ c new _ _ result.ignored sact_calm ok was h.0 refl
register_rules ahci.PxCi value c new result ok was h = same_ruled (asked_state c value) new h.0 (asked_ruled c.own.starts value c refl was)
register_rules ahci.PxSntf value c new result ok was h = told_ruled on_port.Sntf value c new _ _ result.ignored sntf_calm ok was h.0 refl
register_rules ahci.PxFbs value c new result ok was h =
    told_ruled on_port.Fbs _ (record c { wants = record c.wants { feeding = 0 } }) new _ _ result.ignored fbs_calm ok (parts.feeding_is c.core c.wants c.fetches c.commands c.writes.payload c.own.starts was 0) h.0 refl

-- ---- accesses

at_register : (o : Option Register) (value : Register → ℕ) (c new : ControllerState) (result : Written) → IsTable new.core.slots → IsRuled c → (nothing : Type 0) → (nothing → new ≡ c) → MatchOption o nothing (λ register. WritesRegister register c (value register) result new) → IsRuled new
at_register None value c new result ok was nothing same h = same_ruled c new (same h) was
at_register (Some register) value c new result ok was nothing same h = register_rules register (value register) c new (plain result) ok was h.leaves

pub write32_rules : (offset value : ℕ) (c new : ControllerState) (result : Written) → IsTable new.core.slots → IsRuled c → WritesAt c offset value result new → IsRuled new
write32_rules offset value c new result ok was h = at_register (register_at offset) (λ register. value) c new result ok was _ (λ n. n.0) h

part_rules : (empty : Bool) (offset value mask : ℕ) (c new : ControllerState) (result : Written) → IsTable new.core.slots → IsRuled c → WritesIf empty c offset value mask result new → IsRuled new
part_rules true offset value mask c new result ok was h = same_ruled c new h.0 was
part_rules false offset value mask c new result ok was h = at_register (register_at offset) (λ register. merged register (shown register c) value mask) c new result ok was _ (λ n. n.0) h

fitting_rules : (does_fit : Bool) (offset : ℕ) (width : Width) (value : ℕ) (c new : ControllerState) (result : WideWritten) → IsTable new.core.slots → IsRuled c → WritesFitting does_fit c offset width value result new → IsRuled new
fitting_rules true offset width value c new result ok was h =
    let middle : IsRuled h.middle = part_rules _ _ _ _ c h.middle result.low h.slots was h.low in
    part_rules _ _ _ _ h.middle new result.high ok middle h.high
fitting_rules false offset width value c new result ok was h = same_ruled c new h.0.0 was

pub write_rules : (offset : ℕ) (width : Width) (value : ℕ) (c new : ControllerState) (result : WideWritten) → IsTable new.core.slots → IsRuled c → WritesWide c offset width value result new → IsRuled new
write_rules offset width value c new result ok was h = fitting_rules _ offset width value c new result ok was h
