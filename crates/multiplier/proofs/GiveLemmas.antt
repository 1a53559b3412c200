-- What the calls that give a frame leave: a sound multiplier, with its ports.
use Rattle.std.proofs.Common.{◌≡◌, ◌≢◌, ℕ, ◌<◌, ◌≤◌, ◌==◌, Bool, true, false, Option, Some, None, Result, Ok, Err, MatchOption, refl, sym, ap, ◌∙◌}
use Rattle.std.proofs.{Common.{subst, arith}, lemmas.Bool.{eqb-true, eqb-false}}
use Rattle.std.specs.{Prelude.{slice_set, slice_index_or}, Bool.MatchBool, declared.alloc.AllocError.AllocError}
use Rattle.fis_view.specs.Frames.{Stamped}
use Rattle.pm_registers.specs.RegisterMap as map
use Rattle.pm_control.specs.Answers.{IsNotice}
use Rattle.pm_ports.specs.Port as port
use Rattle.multiplier.specs.{Arbiter.control_port, State.{PmState, IsSound, port_at, with_port, held, ready, rising, next_place, control_stamp}}
use Rattle.multiplier.specs.{State.counted, Rules.{NextUpRule, PlaceGives, ControlGives, PortGives, NextDownRule, KeepsPorts, held_source}}
use Rattle.multiplier.specs.{Rules.may_go_back, Between.{Answer, FromPort, Gives, Notice, lowered}}
use Rattle.multiplier.specs.declared.given.Source.TheVariants as source
use Rattle.multiplier.proofs.{ArbiterLemmas.served_below, Ports.kept_part, Sound.{up_sound, down_sound, rest_sound, due_sound}}

-- a frame that leaves a place of a port keeps the ports
pub KeepsPorts-same : (old new : PmState) → new ≡ old → KeepsPorts old new
KeepsPorts-same old new e = rw e (record { count = refl; present = λ n. refl; last = λ n. refl; gone = λ n. refl })

pub keeps_set : (old new : PmState) (n : ℕ) (p : port.PortState) → p.present ≡ (port_at old n).present → p.last ≡ (port_at old n).last → p.gone ≡ (port_at old n).gone
    → new.registers.ports ≡ old.registers.ports → new.ports ≡ slice_set old.ports n p → KeepsPorts old new
keeps_set old new n p present last gone count e = record {
  count = count;
  present = λ k. ap (λ ps. (slice_index_or ps k port.empty_port).present) e ∙ kept_part (λ (q : port.PortState). q.present) old.ports n p present k;
  last = λ k. ap (λ ps. (slice_index_or ps k port.empty_port).last) e ∙ kept_part (λ (q : port.PortState). q.last) old.ports n p last k;
  gone = λ k. ap (λ ps. (slice_index_or ps k port.empty_port).gone) e ∙ kept_part (λ (q : port.PortState). q.gone) old.ports n p gone k;
}

pub keeps_all : (old new : PmState) → new.registers.ports ≡ old.registers.ports → new.ports ≡ old.ports → KeepsPorts old new
keeps_all old new count e = record {
  count = count;
  present = λ k. ap (λ ps. (slice_index_or ps k port.empty_port).present) e;
  last = λ k. ap (λ ps. (slice_index_or ps k port.empty_port).last) e;
  gone = λ k. ap (λ ps. (slice_index_or ps k port.empty_port).gone) e;
}

-- ---- the three ways in which a frame goes up

module _ (old : PmState) (frame : Stamped) (new : PmState) where
  by_held : (n : ℕ) (was : Option Stamped) → next_place old ≡ Some n → n ≢ control_port → held old n ≡ was
      → MatchOption was ⊥ (λ was. (was.stamp.port ≡ n) × (frame ≡ rising n was)
      × (new ≡ record (lowered old n) { served = n; given = may_go_back old (held_source was) frame }))
      → Gives old frame new
  by_held n None at other is h = absurd h
  by_held n (Some was) at other is h = FromPort n was at other is h.0 h.1 h.2

  by_due : (due : Bool) → next_place old ≡ Some control_port → old.registers.due ≡ due
      → MatchBool due
      (IsNotice true (control_stamp old) (Some frame)
      × (new ≡ record old { registers = map.after_notice old.registers; number = counted old.number; served = control_port; given = may_go_back old source.Notice frame }))
      ((old.answer ≡ Some frame) × (new ≡ record old { answer = None; served = control_port; given = may_go_back old source.Answer frame }))
      → Gives old frame new
  by_due true at is h = Notice at is h.0 h.1
  by_due false at is h = Answer at h.0 h.1

  by_kind : (n : ℕ) (control : Bool) → (n == control_port) ≡ control → next_place old ≡ Some n → MatchBool control (ControlGives old frame new) (PortGives old n frame new) → Gives old frame new
  by_kind n true is at h = let e : n ≡ control_port = eqb-true n control_port is in by_due old.registers.due (at ∙ ap (λ (k : ℕ). Some k) e) refl h
  by_kind n false is at h = by_held n (held old n) at (eqb-false n control_port is) refl h

  by_place : (place : Option ℕ) → next_place old ≡ place → MatchOption place ⊥ (λ place. PlaceGives old place frame new) → Gives old frame new
  by_place None at h = absurd h
  by_place (Some n) at h = by_kind n (n == control_port) refl at h

  pub gives : NextUpRule old (Ok (Some frame)) new → Gives old frame new
  gives h = by_place (next_place old) refl h

-- ---- what it leaves

pub place_small : (old : PmState) (n : ℕ) → IsSound old → next_place old ≡ Some n → n ≤ control_port
place_small old n sound at = let below : n < 16 = served_below (ready old) old.served n sound.served at in omega arith

module _ (old : PmState) (frame : Stamped) (new : PmState) where
  pub given_sound : IsSound old → Gives old frame new → IsSound new
  given_sound sound (FromPort n was at other is stamp up e) =
      let low : IsSound (lowered old n) = up_sound old n None sound (λ f e. absurd cc) in
      subst IsSound (sym e) (rest_sound (lowered old n) old.answer n old.number old.dropped old.resetting _ low sound.answer low.shows (place_small old n sound at) sound.served)
  given_sound sound (Notice at due is e) =
      let quiet : IsSound (record old { registers = map.after_notice old.registers }) = due_sound old false sound in
      subst IsSound (sym e) (rest_sound (record old { registers = map.after_notice old.registers }) old.answer control_port (counted old.number) old.dropped old.resetting _ quiet sound.answer quiet.shows (omega arith) sound.served)
  given_sound sound (Answer at is e) =
      subst IsSound (sym e) (rest_sound old None control_port old.number old.dropped old.resetting _ sound (λ f e. absurd cc) (λ f e. absurd cc) (omega arith) sound.served)

  pub given_keeps : Gives old frame new → KeepsPorts old new
  given_keeps (FromPort n was at other is stamp up e) =
      keeps_set old new n (port.with_up (port_at old n) None) refl refl refl (ap (λ (pm : PmState). pm.registers.ports) e) (ap (λ (pm : PmState). pm.ports) e)
  given_keeps (Notice at due is e) = keeps_all old new (ap (λ (pm : PmState). pm.registers.ports) e) (ap (λ (pm : PmState). pm.ports) e)
  given_keeps (Answer at is e) = keeps_all old new (ap (λ (pm : PmState). pm.registers.ports) e) (ap (λ (pm : PmState). pm.ports) e)

pub up_rule_keeps : (old new : PmState) (result : Result (Option Stamped) AllocError) → NextUpRule old result new → KeepsPorts old new
up_rule_keeps old new (Ok (Some frame)) h = given_keeps old frame new (gives old frame new h)
up_rule_keeps old new (Ok None) h = KeepsPorts-same old new h.1
up_rule_keeps old new (Err e) h = KeepsPorts-same old new h.2

-- ---- a frame for a device

pub down_rule_sound : (old new : PmState) (n : ℕ) (result : Option Stamped) → IsSound old → NextDownRule old n result new → IsSound new
down_rule_sound old new n (Some frame) sound h =
    let low : PmState = with_port old n (port.with_down (port_at old n) None) in
    let empty : IsSound low = down_sound old n None sound (λ f e. absurd cc) in
    subst IsSound (sym h.1) (rest_sound low old.answer old.served old.number old.dropped old.resetting _ empty sound.answer empty.shows sound.served tt)
down_rule_sound old new n None sound h = subst IsSound (sym h.1) sound

pub down_rule_keeps : (old new : PmState) (n : ℕ) (result : Option Stamped) → NextDownRule old n result new → KeepsPorts old new
down_rule_keeps old new n (Some frame) h =
    keeps_set old new n (port.with_down (port_at old n) None) refl refl refl (ap (λ (pm : PmState). pm.registers.ports) h.1) (ap (λ (pm : PmState). pm.ports) h.1)
down_rule_keeps old new n None h = KeepsPorts-same old new h.1
