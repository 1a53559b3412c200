-- A connection lasts over each deed that may not end it; a pull and the end of a reset by SControl end it.
use Rattle.std.proofs.{Common.{◌≡◌, ℕ, ◌<◌, ◌==◌, Bool, true, false, Some, None, Result, Ok, Err, refl, sym, ap, ◌∙◌, subst}, lemmas.Bool.{lt-ltb}}
use Rattle.std.proofs.lemmas.Bool.{true≢false, false≢true}
use Rattle.std.specs.{Prelude.{◌||◌, MatchResult}, Bool.MatchBool, Result.IsErrOf}
use Rattle.fis_view.specs.Frames.{Stamped}
use Rattle.pm_ports.specs.declared.port.Offered.TheVariants.{Held}
use Rattle.multiplier.specs.declared.multiplier.{Passed.Passed, PmRefusal.PmRefusal}
use Rattle.fan_out.specs.{Calls.{Plug, Pull, Send, GiveUp, GiveDown, Offer, Tell, ResetEndsConnection, waits_at}, FanOuts.PullsAt}
use Rattle.fan_out.specs.{FanOuts.{Sends as FanSends, has_port, port_count}, Fans.{FanState, IsFan, SendsFan, seat_at}}
use Rattle.fan_out.specs.declared.{fan_out.FanOut.{FanOut, TheVariants.{Device, Multiplier}}, seat.NotThere.NotThere}
use Rattle.ahci_machine.specs.Acts as acts
use Rattle.ahci_machine.specs.{Acts.{with_controller, with_gathering}, Answers.{OffersFrame, is_own, taken_bay}, Ports.{PlugsIn, PlugsMachine}}
use Rattle.ahci_machine.specs.{Ports.{PullsMachine, PullsOut, has_bay, is_empty}, Registers.{link_stays, message_of}, States.{MachineState, bay_at}}
use Rattle.ahci_machine.specs.declared.{act.Act.Act, ports.PortFault.{PortFault, TheVariants.{NoPort, NotThere as Absent}}}
use Rattle.ahci_machine.specs.declared.act.Act.TheVariants as act
use Rattle.machine_laws.proofs.{Cases.by_bool, RisDeeds.{Still, answered, does_next, frame_by, goes_by, missed, outer, put, rests, serves, supplied}}
use Rattle.machine_laws.proofs.{RisDeeds.{taken_away, wrote}, RisEnds.{fan_ends, over_keeps, straight_ends}}
use Rattle.machine_laws.specs.Deeds.{Deed, Does, Moved, Unlent, Wrote, Powered, Supplied, Missed, Answered, Put, Plugged, Pulled, Removed, FrameTaken}
use Rattle.machine_laws.specs.{Deeds.FrameOffered, Rising.{ConnectionsLast, IsSoundEnd, PullsEnd, ResetsEnd, is_over, may_end, port_of}}

module _ (n c : ℕ) where
  abbrev Lasts : MachineState → MachineState → Type 0
  Lasts old new = is_over new.fan n c ≡ is_over old.fan n c

  stays : (old new : MachineState) → Still old new → Lasts old new
  stays old new same = ap (λ o. is_over o.0 n c) same

  move_lasts : (a : Act) (old new : MachineState) → n < port_count old.fan → may_end old.fan (Moved a) n ≡ false → acts.Does old a new → Lasts old new
  move_lasts act.Rests old new less off h = stays old new (rests old new h)
  move_lasts act.LetsGo old new less off h = ap (λ (m : MachineState). is_over m.fan n c) h.rest
  move_lasts (act.Line b) old new less off h = stays old new (ap outer h.2)
  move_lasts act.Message old new less off h = stays old new (ap outer h.1)
  move_lasts (act.Does said) old new less off h = stays old new (does_next said old new h.does)
  move_lasts (act.Sends passed) old new less off h = over_keeps old.fan new.fan (Send h.frame (Ok passed)) n c less h.sends off
  move_lasts (act.Gathers dev answer) old new less off h =
      stays old new (goes_by answer h.gathering (with_controller (with_gathering old h.place None) new.controller) new h.gathers.goes)
  move_lasts (act.Misses slot answer) old new less off h = stays old new (ap outer h.misses.rest)
  move_lasts act.Rises old new less off h = over_keeps old.fan new.fan (GiveUp (Ok (Some h.frame))) n c less h.gives refl
  move_lasts (act.Takes took) old new less off h = ap (λ (m : MachineState). is_over m.fan n c) h.rest
  move_lasts (act.Loses why) old new less off h = ap (λ (m : MachineState). is_over m.fan n c) h.rest
  move_lasts (act.Begins m) old new less off h = over_keeps old.fan new.fan (Tell (Some m)) n c less h.tells refl
  move_lasts (act.Falls m) old new less off h = over_keeps old.fan new.fan (GiveDown m (Some h.does.1.frame)) n c less h.does.1.gives refl
  move_lasts (act.Hears m unheard) old new less off h = stays old new (serves (act.Hears m unheard) m old new h.does.1 h)
  move_lasts (act.Points m) old new less off h = stays old new (serves (act.Points m) m old new h.does.1 h)
  move_lasts (act.Drops m) old new less off h = stays old new (serves (act.Drops m) m old new h.does.1 h)
  move_lasts (act.Speaks m out) old new less off h = over_keeps old.fan new.fan (Offer m h.does.1.frame (Ok Held) (waits_at new.fan m)) n c less (h.does.1.offers, refl) refl
  move_lasts (act.Starts m place) old new less off h = stays old new (serves (act.Starts m place) m old new h.does.1 h)
  move_lasts (act.Asks id request) old new less off h = stays old new (serves (act.Asks id request) id.port old new h.does.1 h)
  move_lasts other old new less off h = stays old new (ap outer h.rest)

  plugged : (m : ℕ) (old new : MachineState) (told : Result (Unit {0}) PortFault) → n < port_count old.fan → PlugsMachine m old told new → Lasts old new
  plugged m old new told less h =
      by_bool (Lasts old new) (MatchBool (is_empty (bay_at old m).unit) (IsErrOf told Absent × (new ≡ old)) (PlugsIn m old told new)) (IsErrOf told NoPort × (new ≡ old)) (has_bay old m) h
      (λ inside full. by_bool (Lasts old new) (IsErrOf told Absent × (new ≡ old)) (PlugsIn m old told new) (is_empty (bay_at old m).unit) full
      (λ empty is. stays old new (ap outer is.1))
      (λ unit is. over_keeps old.fan new.fan (Plug m is.answer) n c less is.plugs refl))
      (λ outside is. stays old new (ap outer is.1))

  pulled : (m : ℕ) (old new : MachineState) (told : Result (Unit {0}) PortFault) → n < port_count old.fan → (m == n) ≡ false → PullsMachine m old told new → Lasts old new
  pulled m old new told less off h =
      by_bool (Lasts old new) (PullsOut m old told new) (IsErrOf told NoPort × (new ≡ old)) (has_bay old m) h
      (λ inside is. over_keeps old.fan new.fan (Pull m is.answer) n c less is.pulls.pulls off)
      (λ outside is. stays old new (ap outer is.1))

  offered : (m : ℕ) (frame : Stamped) (told : Result (Unit {0}) Stamped) (old new : MachineState) → n < port_count old.fan → OffersFrame m frame old told new → Lasts old new
  offered m frame (Ok x) old new less h = over_keeps old.fan new.fan (Offer m frame (Ok h.back.0) (waits_at new.fan m)) n c less (h.back.1, refl) refl
  offered m frame (Err back) old new less h = stays old new (ap outer h.back.1)

  deed_lasts : (deed : Deed) (old new : MachineState) → Does old deed new → n < port_count old.fan → may_end old.fan deed n ≡ false → Lasts old new
  deed_lasts (Moved a) old new h less off = ap (λ (m : MachineState). is_over m.fan n c) h.turns ∙ move_lasts a old h.middle less off h.does
  deed_lasts Unlent old new h less off = stays old new (ap outer h)
  deed_lasts (Wrote offset width value written) old new h less off = stays old new (wrote (link_stays written) old new (old.message || message_of written) off h.rest)
  deed_lasts Powered old new h less off = absurd (true≢false off)
  deed_lasts (Supplied w bytes) old new h less off = stays old new (supplied w bytes old new h.answer h.supplies)
  deed_lasts (Missed w) old new h less off = stays old new (missed w old new h.answer h.misses)
  deed_lasts (Answered id a told) old new h less off = stays old new (answered id a old new told h)
  deed_lasts (Put m unit told) old new h less off = stays old new (put m unit old new told h)
  deed_lasts (Plugged m told) old new h less off = plugged m old new told less h
  deed_lasts (Pulled m told) old new h less off = pulled m old new told less off h
  deed_lasts (Removed m told) old new h less off = stays h.pulled new (taken_away m h.pulled new told h.takes) ∙ pulled m old h.pulled h.answer less off h.pulls
  deed_lasts (FrameTaken m told) old new h less off = stays old new (frame_by (is_own (bay_at old m).unit) old new m (taken_bay (bay_at old m)) h.rest)
  deed_lasts (FrameOffered m frame told) old new h less off = offered m frame told old new less h

pub last : ConnectionsLast
last old deed new does n c less off = deed_lasts n c deed old new does less off

-- ---- pulls

from_true : (X Y : Type 0) (b : Bool) → b ≡ true → MatchBool b X Y → X
from_true X Y true is h = h
from_true X Y false is h = absurd (false≢true is)

nobody : (f : FanOut) (n c : ℕ) (g : FanOut) → IsSoundEnd f → n < port_count f → (port_of f n).present ≡ Some c → (r : Result (Unit {0}) NotThere) → PullsAt f n r g → is_over g n c ≡ true
nobody (Device s) n c (Device t) sound less present r h = straight_ends s t c r sound present h
nobody (Device s) n c (Multiplier g) sound less present r h = absurd h
nobody (Multiplier f) n c (Device t) sound less present r h = absurd h
nobody (Multiplier f) n c (Multiplier g) sound less present r h = fan_ends f g n c r sound less present h

pub pulls : PullsEnd
pulls old n told new h inside sound c less present =
    let out : PullsOut n old told new = from_true (PullsOut n old told new) (IsErrOf told NoPort × (new ≡ old)) (has_bay old n) inside h in
    nobody old.fan n c new.fan sound less present out.answer
    (from_true (PullsAt old.fan n out.answer new.fan) (MatchResult out.answer (λ _. ⊥) (λ _. new.fan ≡ old.fan)) (has_port old.fan n) (lt-ltb n (port_count old.fan) less) out.pulls.pulls)

-- ---- resets by SControl

abbrev pub ResetEnds : Type 0
ResetEnds = (old new : FanState) (frame : Stamped) (sent : Result Passed (Stamped × PmRefusal)) → IsFan old → SendsFan old frame sent new → ResetEndsConnection old frame sent new

pub resets : ResetEnds → ResetsEnd
resets law old passed new h f g was now sound n less in_reset out there later =
    let sends : SendsFan f h.does.frame (Ok passed) g =
    subst (λ (e : FanOut). FanSends (Multiplier f) h.does.frame (Ok passed) e) (sym (ap (λ (m : MachineState). m.fan) h.turns) ∙ now)
    (subst (λ (e : FanOut). FanSends e h.does.frame (Ok passed) h.middle.fan) was h.does.sends) in
    ap (λ (e : FanOut). is_over e n (seat_at f n).last) now ∙ (law f g h.does.frame (Ok passed) sound sends n less in_reset out there later).gone
