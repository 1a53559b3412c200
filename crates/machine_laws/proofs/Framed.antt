-- What each call of a controller leaves of the frame that is to be written to the guest.
use Rattle.std.proofs.Common.{◌≡◌, ℕ, ◌&&◌, ◌||◌, Bool, true, false, not, List, refl, sym, ap, subst, ◌∙◌, Option, Some, None}
use Rattle.std.proofs.lemmas.Bool.{false≢true, true≢false}
use Rattle.std.specs.{Prelude.{MatchOption, is_some, if◌then◌else◌}, Option.option_map}
use Rattle.slots.specs.Slots.{match_some}
use Rattle.ahci_registers.specs.Bits as line_bits
use Rattle.ahci_registers.specs.{Link.{action_of, effect_of}, Offsets.register_at, declared.link.{Effect.Effect, LinkAction.LinkAction}}
use Rattle.ahci_registers.specs.declared.{link.LinkAction.TheVariants.{NoAction, Comreset, Disable}, register.Register.Register}
use Rattle.ahci_registers.specs.declared.link.Effect.TheVariants as effect
use Rattle.ahci_registers.specs.declared.register.Register.TheVariants as ahci
use Rattle.guest_fetch.specs.declared.{fetch.Supplied.Supplied, moves.Move.Move}
use Rattle.guest_fetch.specs.declared.fetch.Supplied.TheVariants as supplied
use Rattle.hba_fbs.specs.{Choosing.may_feed, declared.turn.Turn.{Turn, TheVariants.Feeds}}
use Rattle.ahci_controller.specs.{Access.merged, Feeding.{GathersIf, Loses, LosesIf, MissesIf as MissesDataIf, SendsIf, without_feeding}}
use Rattle.ahci_controller.specs.{Fetching.{GoesOn, MissesIf, SuppliesIf, answered, without_fetch}, Issuing.{PlacesSlot, RefusesSlot, not_issued}}
use Rattle.ahci_controller.specs.Next.{Frames, FramesFor, GoesIf, Reads as ReadsSlot, RestsNow, TurnsIf, after_count, after_rest, counted_slot}
use Rattle.ahci_controller.specs.Next.{is_halted, next_device, next_read, next_slot, next_write, rest, run_of, step_of, step_with, turn_to, written}
use Rattle.ahci_controller.specs.{Next.Turns, Outbox.no_writes, Reading.shown, States.ControllerState, Taking.{Hears, hindrance, is_any, is_up}}
use Rattle.ahci_controller.specs.{declared.taking.Took.Took, Wants.dropped, Wide.{WritesFitting, WritesIf}, Writing.{Commands, Leaves, ResetsBy}}
use Rattle.ahci_controller.specs.{Writing.{WritesGlobal, WritesRegister, asked_state, control_after, link_moved, plain}, declared.access.Width.Width}
use Rattle.ahci_controller.specs.declared.{feeding.Fed.Fed, issuing.{NotTaken.NotTaken, Supply.Supply}, next.Next.Next, wants.Carried.Carried}
use Rattle.ahci_controller.specs.declared.{wants.Writes.Writes, wide.WideWritten.WideWritten, writing.Written.Written}
use Rattle.ahci_controller.specs.Own as own_words
use Rattle.ahci_controller.specs.declared.taking.Hindrance.TheVariants as why
use Rattle.ahci_controller.specs.declared.next.Next.TheVariants as next
use Rattle.controller_laws.proofs.TouchLemmas.{Touches, part_touches, turn_calm, Touches.{Drops, Keeps}}
use Rattle.ahci_machine.specs.Registers.{link_stays, stays}
use Rattle.machine_laws.specs.Lent.{IsSilent, is_framed, is_framed_by}

-- no frame comes, and the link stays
pub record IsCalm (old new : ControllerState) : Type 0 where
  pub writes : is_framed new ≡ true → is_framed old ≡ true
  pub link : new.link.control ≡ old.link.control

not_framed : (b : Bool) → (b ≡ true → ⊥) → b ≡ false
not_framed true h = absurd (h refl)
not_framed false h = refl

pub none_comes : (old new : ControllerState) → (is_framed new ≡ true → is_framed old ≡ true) → is_framed old ≡ false → is_framed new ≡ false
none_comes old new comes none = not_framed (is_framed new) (λ h. false≢true (sym none ∙ comes h))

pub silent_on : (old new : ControllerState) → IsCalm old new → IsSilent old → IsSilent new
silent_on old new calm silent down = none_comes old new calm.writes (silent (ap (λ (n : ℕ). is_up (action_of n)) (sym calm.link) ∙ down))

calm_by : (old base new : ControllerState) → new ≡ base → base.writes ≡ old.writes → base.link ≡ old.link → IsCalm old new
calm_by old base new is writes link = record {
  writes = λ h. ap is_framed_by (sym (ap (λ (c : ControllerState). c.writes) is ∙ writes)) ∙ h;
  link = ap (λ (c : ControllerState). c.link.control) is ∙ ap (λ l. l.control) link;
}

-- ---- writes of registers

-- a write that has what is behind the controller begin anew leaves none
record IsPart (e : Effect) (old new : ControllerState) : Type 0 where
  silent : IsSilent old → IsSilent new
  none : stays e ≡ false → IsSilent old → is_framed new ≡ false

dropped_none : (new : ControllerState) → new.writes ≡ no_writes → is_framed new ≡ false
dropped_none new is = ap is_framed_by is

gone : (e : Effect) (old new : ControllerState) → new.writes ≡ no_writes → IsPart e old new
gone e old new is = record { silent = λ was down. dropped_none new is; none = λ off was. dropped_none new is }

kept : (old base new : ControllerState) (e : Effect) → e ≡ effect.Nothing → new ≡ base → base.writes ≡ old.writes → base.link ≡ old.link → IsPart e old new
kept old base new e quiet is writes link = record {
  silent = silent_on old new (calm_by old base new is writes link);
  none = λ off. absurd (true≢false (ap stays (sym quiet) ∙ off));
}

global : (resets : Bool) (value : ℕ) (old new : ControllerState) → WritesGlobal resets old value new → IsPart (if resets then effect.LinkReset else effect.Nothing) old new
global true value old new h = gone effect.LinkReset old new (ap (λ (c : ControllerState). c.writes) h.rest)
global false value old new h = kept old _ new effect.Nothing refl h refl refl

linked : (a b : LinkAction) (value : ℕ) (old new : ControllerState) → action_of old.link.control ≡ a → action_of (control_after old value) ≡ b → ResetsBy (effect_of a b) (link_moved old value) new → IsPart (effect_of a b) old new
linked NoAction NoAction value old new from to h = still old new (ap (λ (c : ControllerState). c.writes) h) (ap (λ (c : ControllerState). c.link.control) h) from to
  where
    still : (o n : ControllerState) → n.writes ≡ o.writes → n.link.control ≡ control_after old value → action_of o.link.control ≡ NoAction → action_of (control_after old value) ≡ NoAction → IsPart effect.Nothing o n
    still o n writes link was is = record {
      silent = λ silent down. absurd (true≢false (sym (ap (λ (k : ℕ). is_up (action_of k)) link ∙ ap is_up is) ∙ down));
      none = λ off. absurd (true≢false off);
    }
linked Comreset Comreset value old new from to h = record {
  silent = λ silent down. ap is_framed_by (ap (λ (c : ControllerState). c.writes) h) ∙ silent (ap is_up from);
  none = λ off. absurd (true≢false off);
}
linked Disable Disable value old new from to h = record {
  silent = λ silent down. ap is_framed_by (ap (λ (c : ControllerState). c.writes) h) ∙ silent (ap is_up from);
  none = λ off. absurd (true≢false off);
}
linked NoAction Disable value old new from to h = gone effect.LinkReset old new (ap (λ (c : ControllerState). c.writes) h.rest)
linked Comreset Disable value old new from to h = gone effect.LinkReset old new (ap (λ (c : ControllerState). c.writes) h.rest)
linked Comreset NoAction value old new from to h = record {
  silent = λ silent down. ap is_framed_by (ap (λ (c : ControllerState). c.writes) h) ∙ silent (ap is_up from);
  none = λ off silent. ap is_framed_by (ap (λ (c : ControllerState). c.writes) h) ∙ silent (ap is_up from);
}
linked Disable NoAction value old new from to h = record {
  silent = λ silent down. ap is_framed_by (ap (λ (c : ControllerState). c.writes) h) ∙ silent (ap is_up from);
  none = λ off silent. ap is_framed_by (ap (λ (c : ControllerState). c.writes) h) ∙ silent (ap is_up from);
}
linked other Comreset value old new from to h = gone effect.LinkReset old new (ap (λ (c : ControllerState). c.writes) h.rest)

asked_same : (running : Bool) (c d : ControllerState) → d.writes ≡ c.writes → d.link ≡ c.link → ((if running then d else c).writes ≡ c.writes) × ((if running then d else c).link ≡ c.link)
asked_same true c d writes link = (writes, link)
asked_same false c d writes link = (refl, refl)

started_same : (fall : Bool) (c : ControllerState) → is_framed (if fall then dropped c else c) ≡ true → is_framed c ≡ true
started_same true c h = absurd (false≢true h)
started_same false c h = h

started_link : (fall : Bool) (c : ControllerState) → (if fall then dropped c else c).link ≡ c.link
started_link true c = refl
started_link false c = refl

commands : (value : ℕ) (old new : ControllerState) (e : Effect) (ignored : _) → e ≡ effect.Nothing → Commands old value ignored new → IsPart e old new
commands value old new e ignored quiet h = record {
  silent = silent_on old new (record {
    writes = λ here. ap (λ (c : ControllerState). is_framed c) (sym h.clears.rest) ∙ started_same (own_words.falls h.middle.own (own_words.commanded h.middle.own value) h.middle.core.registers new.core.registers) h.middle (ap is_framed_by (sym (ap (λ (c : ControllerState). c.writes) h.starts.rest)) ∙ here);
    link = ap (λ (c : ControllerState). c.link.control) h.starts.rest ∙ ap (λ l. l.control) (started_link (own_words.falls h.middle.own (own_words.commanded h.middle.own value) h.middle.core.registers new.core.registers) h.middle) ∙ ap (λ (c : ControllerState). c.link.control) h.clears.rest;
  });
  none = λ off. absurd (true≢false (ap stays (sym quiet) ∙ off));
}

effect_is : (result other : Written) → result ≡ other → result.effect ≡ other.effect
effect_is result other is = ap (λ (w : Written). w.effect) is

register : (r : Register) (value : ℕ) (old new : ControllerState) (result : Written) → Leaves r old value result new → IsPart result.effect old new
register ahci.Ghc value old new result h = subst (λ (e : Effect). IsPart e old new) (sym (effect_is result _ h.1)) (global (line_bits.has_bit value 0) value old new h.0)
register ahci.Is value old new result h = kept old _ new result.effect (effect_is result _ h.1) h.0 refl refl
register ahci.PxClb value old new result h = kept old _ new result.effect (effect_is result _ h.1) h.0 refl refl
register ahci.PxClbu value old new result h = kept old _ new result.effect (effect_is result _ h.1) h.0 refl refl
register ahci.PxFb value old new result h = kept old _ new result.effect (effect_is result _ h.1) h.0 refl refl
register ahci.PxFbu value old new result h = kept old _ new result.effect (effect_is result _ h.1) h.0 refl refl
register ahci.PxIs value old new result h = kept old _ new result.effect (effect_is result _ h.1) h.0.rest refl refl
register ahci.PxIe value old new result h = kept old _ new result.effect (effect_is result _ h.1) h.0 refl refl
register ahci.PxCmd value old new result h = commands value old new result.effect result.ignored (effect_is result _ h.1) h.0
register ahci.PxSctl value old new result h =
    subst (λ (e : Effect). IsPart e old new) (sym (effect_is result _ h.1)) (linked (action_of old.link.control) (action_of (control_after old value)) value old new refl refl h.0)
register ahci.PxSerr value old new result h = kept old _ new result.effect (effect_is result _ h.1) h.0.rest refl refl
register ahci.PxSact value old new result h = kept old _ new result.effect (effect_is result _ h.1) h.0.rest refl refl
register ahci.PxCi value old new result h =
    let same = asked_same old.own.starts old _ refl refl in
    kept old (asked_state old value) new result.effect (effect_is result _ h.1) h.0 same.0 same.1
register ahci.PxSntf value old new result h = kept old _ new result.effect (effect_is result _ h.1) h.0.rest refl refl
register ahci.PxFbs value old new result h = kept old _ new result.effect (effect_is result _ h.1) h.0.rest refl refl
register other value old new result h = kept old old new result.effect (effect_is result _ h.1) h.0 refl refl

at_register : (o : Option Register) (value : Register → ℕ) (old new : ControllerState) (result : Written) (nothing : Type 0) → (nothing → (new ≡ old) × (result.effect ≡ effect.Nothing)) → MatchOption o nothing (λ r. WritesRegister r old (value r) result new)
    → IsPart result.effect old new
at_register None value old new result nothing same h = let s = same h in kept old old new result.effect s.1 s.0 refl refl
at_register (Some r) value old new result nothing same h = register r (value r) old new (plain result) h.leaves

part : (empty : Bool) (offset value mask : ℕ) (old new : ControllerState) (result : Written) → WritesIf empty old offset value mask result new → IsPart result.effect old new
part true offset value mask old new result h = kept old old new result.effect (effect_is result _ h.1) h.0 refl refl
part false offset value mask old new result h =
    at_register (register_at offset) (λ r. merged r (shown r old) value mask) old new result _ (λ q. (q.0, effect_is result _ q.1)) h

touched : (old new : ControllerState) → Touches old new → is_framed new ≡ true → is_framed old ≡ true
touched old new (Keeps k) h = ap is_framed_by (sym k.writes) ∙ h
touched old new (Drops d) h = absurd (false≢true (sym (ap is_framed_by d.writes) ∙ h))

-- of both dwords
pub record IsWrite (w : WideWritten) (old new : ControllerState) : Type 0 where
  pub writes : is_framed new ≡ true → is_framed old ≡ true
  pub silent : IsSilent old → IsSilent new
  pub none : link_stays w ≡ false → IsSilent old → is_framed new ≡ false

both_stay : (a b : Bool) (C : Type 0) → (a && b) ≡ false → (a ≡ false → C) → (b ≡ false → C) → C
both_stay true true C h f g = absurd (true≢false h)
both_stay true false C h f g = g refl
both_stay false b C h f g = f refl

pub wide : (does_fit : Bool) (offset : ℕ) (width : Width) (value : ℕ) (old new : ControllerState) (result : WideWritten) → WritesFitting does_fit old offset width value result new → IsWrite result old new
wide true offset width value old new result h =
    let low : IsPart result.low.effect old h.middle = part _ _ _ _ old h.middle result.low h.low in
    let high : IsPart result.high.effect h.middle new = part _ _ _ _ h.middle new result.high h.high in
    let upper : is_framed new ≡ true → is_framed h.middle ≡ true = touched h.middle new (part_touches _ _ _ _ h.middle new result.high h.high) in
    record {
      writes = λ here. touched old h.middle (part_touches _ _ _ _ old h.middle result.low h.low) (upper here);
      silent = λ was. high.silent (low.silent was);
      none = λ off was. both_stay (stays result.low.effect) (stays result.high.effect) (is_framed new ≡ false) off
          (λ first. none_comes h.middle new upper (low.none first was))
          (λ second. high.none second (low.silent was));
    }
wide false offset width value old new result h = record {
  writes = λ here. ap is_framed (sym h.0.0) ∙ here;
  silent = subst (λ (c : ControllerState). IsSilent c) (sym h.0.0);
  none = λ off. both_stay (stays result.low.effect) (stays result.high.effect) _ off
      (λ first. absurd (true≢false (ap stays (sym (effect_is result.low _ h.0.1)) ∙ first)))
      (λ second. absurd (true≢false (ap stays (sym (effect_is result.high _ h.1.1)) ∙ second)));
}

-- ---- what is next, and what is next to be written

rest_none : (w : Writes) → is_framed_by (after_rest w) ≡ false
rest_none w = by w.posted (counted_slot w)
  where
    by : (posted : Option Move) (slot : Option ℕ) → is_framed_by (match_some posted (match_some slot no_writes (after_count w)) (λ m. record w { payload = None; posted = None })) ≡ false
    by None None = refl
    by None (Some slot) = refl
    by (Some m) slot = refl

run_framed : (c : ControllerState) (w : Carried) (o : Option Move) → is_framed_by (match_some (option_map (step_with w) o) (after_rest c.writes) (λ s. record c.writes { payload = s.left })) ≡ true → c.writes.payload ≡ Some w → is_framed c ≡ true
run_framed c w o h is = ap (λ (p : Option Carried). is_some p || is_some c.writes.posted) is

next_framed : (c : ControllerState) (p : Option Carried) → c.writes.payload ≡ p → is_framed_by (match_some (match_some p None (step_of c)) (after_rest c.writes) (λ s. record c.writes { payload = s.left })) ≡ true → is_framed c ≡ true
next_framed c None is h = absurd (false≢true (sym (rest_none c.writes) ∙ h))
next_framed c (Some w) is h = run_framed c w (run_of c w) h is

pub written_framed : (c : ControllerState) → is_framed (written c) ≡ true → is_framed c ≡ true
written_framed c h = next_framed c c.writes.payload refl h

pub said_calm : (old new : ControllerState) → new ≡ written old → IsCalm old new
said_calm old new is = record {
  writes = λ h. written_framed old (ap is_framed (sym is) ∙ h);
  link = ap (λ (c : ControllerState). c.link.control) is;
}

-- behind the last write nothing is left
pub last_said : (old new : ControllerState) → next_write old ≡ None → new ≡ written old → is_framed new ≡ false
last_said old new none is = ap is_framed is ∙ by old.writes.payload none
  where
    run : (w : Carried) (o : Option Move) → match_some (option_map (step_with w) o) (rest old) (λ s. Some (next.Payload s.write)) ≡ None
        → is_framed_by (match_some (option_map (step_with w) o) (after_rest old.writes) (λ s. record old.writes { payload = s.left })) ≡ false
    run w None h = rest_none old.writes
    run w (Some m) h = cc

    by : (p : Option Carried) → match_some (match_some p None (step_of old)) (rest old) (λ s. Some (next.Payload s.write)) ≡ None
        → is_framed_by (match_some (match_some p None (step_of old)) (after_rest old.writes) (λ s. record old.writes { payload = s.left })) ≡ false
    by None h = rest_none old.writes
    by (Some w) h = run w (run_of old w) h

frames_link : (dev slot : Option ℕ) (alternates : Bool) (base new : ControllerState) (said : Next) → FramesFor dev slot alternates base said new → new.link ≡ base.link
frames_link None None alternates base new said h = ap (λ (c : ControllerState). c.link) h.0
frames_link None (Some slot) alternates base new said h = ap (λ (c : ControllerState). c.link) h.rest
frames_link (Some dev) None alternates base new said h = ap (λ (c : ControllerState). c.link) h.rest
frames_link (Some dev) (Some slot) false base new said h = ap (λ (c : ControllerState). c.link) h.rest
frames_link (Some dev) (Some slot) true base new said h = ap (λ (c : ControllerState). c.link) h.rest

reads_link : (o : Option ℕ) (base new : ControllerState) (said : Next) → MatchOption o (Frames base said new) (λ slot. ReadsSlot base slot said new) → new.link ≡ base.link
reads_link None base new said h = frames_link (next_device base) (next_slot base) base.circle.fed base new said h
reads_link (Some slot) base new said h = ap (λ (c : ControllerState). c.link) h.1

started_up_link : (o : Option ℕ) (base new : ControllerState) (said : Next) → MatchOption o (RestsNow base said new) (λ slot. ReadsSlot base slot said new) → new.link ≡ base.link
started_up_link None base new said h = ap (λ (c : ControllerState). c.link) h.0
started_up_link (Some slot) base new said h = ap (λ (c : ControllerState). c.link) h.1

goes_link : (started : Bool) (base new : ControllerState) (said : Next) → GoesIf started base said new → new.link ≡ base.link
goes_link true base new said h = reads_link (next_read base) base new said h
goes_link false base new said h =
    started_up_link (next_read h.middle) h.middle new said h.reads ∙ ap (λ (c : ControllerState). c.link) h.starts.rest
    ∙ started_link (own_words.falls base.own base.own base.core.registers h.middle.core.registers) base

halted_link : (halted : Bool) (base new : ControllerState) (said : Next) → TurnsIf halted base said new → new.link ≡ base.link
halted_link true base new said h = ap (λ (c : ControllerState). c.link) h.0
halted_link false base new said h = goes_link base.core.registers.started base new said h

turned_link : (o : Option Next) (old new : ControllerState) (said : Next) → MatchOption o (TurnsIf (is_halted (written old)) (written old) said new) (λ write. (said ≡ write) × (new ≡ written old)) → new.link ≡ old.link
turned_link None old new said h = halted_link (is_halted (written old)) (written old) new said h
turned_link (Some write) old new said h = ap (λ (c : ControllerState). c.link) h.1

pub turn_is_calm : (old new : ControllerState) (said : Next) → Turns old said new → IsCalm old new
turn_is_calm old new said h = record {
  writes = λ here. written_framed old (ap is_framed_by (sym (turn_calm old new said h).writes) ∙ here);
  link = ap (λ l. l.control) (turned_link (next_write old) old new said h);
}

-- ---- supplies

calm_from : (old base new : ControllerState) → base.writes ≡ old.writes → base.link ≡ old.link → IsCalm base new → IsCalm old new
calm_from old base new writes link h = record { writes = λ here. ap is_framed_by (sym writes) ∙ h.writes here; link = h.link ∙ ap (λ l. l.control) link }

issues : (o : Option NotTaken) (slot : ℕ) (command : _) (base new : ControllerState) (result : Supply) → MatchOption o (PlacesSlot base slot command result new) (λ reason. RefusesSlot base slot reason result new) → IsCalm base new
issues None slot command base new result h = calm_by base _ new h.rest refl refl
issues (Some reason) slot command base new result h = calm_by base _ new h.rest refl refl

goes_on : (slot : ℕ) (came : Supplied) (base new : ControllerState) (result : Supply) → GoesOn base slot came result new → IsCalm base new
goes_on slot (supplied.Refused r) base new result h = calm_by base _ new h.rest refl refl
goes_on slot (supplied.Whole command) base new result h = issues (not_issued base.core slot command) slot command base new result h
goes_on slot other base new result h = calm_by base _ new h.0 refl refl

pub supply_is_calm : (fit : Bool) (slot : ℕ) (bytes : List ℕ) (old new : ControllerState) (result : Supply) → SuppliesIf fit old slot bytes result new → IsCalm old new
supply_is_calm false slot bytes old new result h = calm_by old old new h.0 refl refl
supply_is_calm true slot bytes old new result h = calm_from old (without_fetch (answered old slot) slot) new refl refl (goes_on slot h.came (without_fetch (answered old slot) slot) new result h.goes)

pub miss_is_calm : (out : Bool) (slot : ℕ) (old new : ControllerState) (result : Supply) → MissesIf out old slot result new → IsCalm old new
miss_is_calm false slot old new result h = calm_by old old new h.0 refl refl
miss_is_calm true slot old new result h = calm_by old _ new h.rest refl refl

-- ---- Data for devices

sends : (due : Bool) (dev : ℕ) (old new : ControllerState) (result : Fed) → SendsIf due (without_feeding old dev) dev result new → IsCalm old new
sends false dev old new result h = calm_by old _ new h.0 refl refl
sends true dev old new result h = record {
  writes = λ here. ap is_framed_by (sym (ap (λ (c : ControllerState). c.writes) h.rest)) ∙ here;
  link = ap (λ (c : ControllerState). c.link.control) h.rest;
}

pub gather_is_calm : (out : Bool) (dev : ℕ) (old new : ControllerState) (result : Fed) → GathersIf out old dev result new → IsCalm old new
gather_is_calm false dev old new result h = calm_by old old new h.0 refl refl
gather_is_calm true dev old new result h = sends (may_feed old.core dev) dev old new result h

loses : (turn : Turn) (dev : ℕ) (old new : ControllerState) (result : Fed) → Loses turn (without_feeding old dev) result new → IsCalm old new
loses (Feeds to slot offset len) dev old new result h = calm_by old _ new h.rest refl refl
loses other dev old new result h = calm_by old _ new h.0 refl refl

loses_if : (due : Bool) (dev : ℕ) (old new : ControllerState) (result : Fed) → LosesIf due (without_feeding old dev) dev result new → IsCalm old new
loses_if false dev old new result h = calm_by old _ new h.0 refl refl
loses_if true dev old new result h = loses (turn_to (without_feeding old dev) dev) dev old new result h

pub not_there_is_calm : (out : Bool) (dev : ℕ) (old new : ControllerState) (result : Fed) → MissesDataIf out old dev result new → IsCalm old new
not_there_is_calm false dev old new result h = calm_by old old new h.0 refl refl
not_there_is_calm true dev old new result h = loses_if (may_feed old.core dev) dev old new result h

-- ---- frames

is_free_up : (up failed receives any : Bool) → (if not up then Some why.LinkDown else if failed then Some why.Failed else if not receives then Some why.NotReceiving else if any then Some why.Writing else None) ≡ None → up ≡ true
is_free_up true failed receives any h = refl
is_free_up false failed receives any h = cc

-- it is taken while the link is up
pub take_silent : (frame : List ℕ) (took : Took) (old new : ControllerState) → hindrance old ≡ None → Hears old frame took new → IsSilent new
take_silent frame took old new free h down =
    absurd (true≢false (sym (is_free_up (is_up (action_of old.link.control)) _ _ (is_any old.writes) free) ∙ ap (λ (c : ControllerState). is_up (action_of c.link.control)) (sym h.rest) ∙ down))
