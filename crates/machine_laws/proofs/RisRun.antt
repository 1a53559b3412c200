-- Over every run the FISes of the devices go to the controller in order.
use Rattle.std.proofs.Common.{◌≡◌, ℕ, zero, suc, ◌≤◌, Bool, true, false, not, List, [], ◌∷◌, ◌++◌, append_assoc, map, min, replicate, Option, Some}
use Rattle.std.proofs.{Common.{None, refl, sym, ap, ◌∙◌, subst, arith}, lemmas.{Bool.{true≢false, false≢true}, Grind.{flat_map-append}}}
use Rattle.std.specs.{Prelude.{◌||◌, if◌then◌else◌, is_some, slice_index_or, slice_set}, Option.option_to_list}
use Rattle.fis_view.specs.Frames.{Stamped}
use Rattle.pm_ports.specs.Port as port
use Rattle.multiplier.specs.{Passing.of_conn, Rules.with_device, State.{first_port, opening, port_at, rising}}
use Rattle.multiplier.proofs.Door.{kept_part, opens_sound}
use Rattle.fan_out.specs.{Calls.{FanCall, Does as FanDoes, given, given_by}, FanOuts.renewed_end, Fans.{FanState, IsFan, IsRenewed, all_joined}}
use Rattle.fan_out.specs.{Fans.{joined, joined_again, opening_fan, renewed as renewed_fan, seat_at}, Seats.{connection, empty_seat, seated}}
use Rattle.fan_out.specs.{Straights.{StraightState, renewed as renewed_straight}, declared.fan_out.FanOut.{FanOut, TheVariants.{Device, Multiplier}}}
use Rattle.fan_out.specs.declared.seat.Seat.{Seat}
use Rattle.ahci_machine.specs.{Registers.{link_stays, message_of, powered, renewed}, States.{MachineState, opening_end}}
use Rattle.machine_laws.proofs.{RisDeeds.{Rising, deed_rises, outer}, RisFan.{FansPass, Passage, Through, fan_through, no_device, then_sends, two}}
use Rattle.machine_laws.proofs.RisStraight.{no_multiplier, opening_sound, renewed_none, renewed_sound, straight_through}
use Rattle.machine_laws.specs.{Deeds.{Deed, Does, Wrote, Powered}, Rising.{Frames, FramesRise, GoesOnRising, HaveRisen, IsSoundEnd, OpensRising}}
use Rattle.machine_laws.specs.Rising.{Sends, came_by, frames_after, held_at, is_multiplier, is_reset, more_frames, no_frames, sent_by, untaken}

-- ---- either kind

pub crosses : (f g : FanOut) (calls : List FanCall) (sent : List Stamped) → Sends f calls sent g → is_multiplier f ≡ is_multiplier g
crosses f g [] sent h = sym (ap is_multiplier h.0)
crosses f g (call ∷ calls) sent h = one f h.0 h.1 ∙ crosses h.0 g calls h.2.0 h.2.2
  where
    one : (a b : FanOut) → FanDoes a call b → is_multiplier a ≡ is_multiplier b
    one (Device s) (Device t) d = refl
    one (Device s) (Multiplier k) d = absurd (no_multiplier s k call d)
    one (Multiplier k) (Device s) d = absurd (no_device k s call d)
    one (Multiplier k) (Multiplier l) d = refl

pub passes : FansPass → (f g : FanOut) (calls : List FanCall) (sent : List Stamped) → IsSoundEnd f → Sends f calls sent g → Through f (given calls) sent g
passes law (Device s) (Device t) calls sent sound h = straight_through s t calls sent sound h
passes law (Device s) (Multiplier g) calls sent sound h = absurd (false≢true (crosses (Device s) (Multiplier g) calls sent h))
passes law (Multiplier f) (Device t) calls sent sound h = absurd (true≢false (crosses (Multiplier f) (Device t) calls sent h))
passes law (Multiplier f) (Multiplier g) calls sent sound h = fan_through law f g calls sent sound h

-- ---- the link is reset

abbrev pub FansRenew : Type 0
FansRenew = (old : FanState) → IsFan old → IsRenewed old (renewed_fan old)

abbrev up_at : FanState → ℕ → Option Stamped
up_at f n = (port_at f.multiplier n).up

joined_up : (f : FanState) (k conn n : ℕ) → up_at (joined f k conn) n ≡ up_at f n
joined_up f k conn n = by_refusal (is_some (port.came_refusal (port_at f.multiplier k) conn))
  where
    by_refusal : (b : Bool) → up_at (if b then f else record { multiplier = with_device f.multiplier k conn; legacy = f.legacy; seats = slice_set f.seats k (seated conn) }) n ≡ up_at f n
    by_refusal true = refl
    by_refusal false = kept_part (λ (p : port.PortState). p.up) f.multiplier.ports k (port.with_connection (port_at f.multiplier k) conn) refl n

again_up : (f : FanState) (k : ℕ) (seat : Seat) (n : ℕ) → up_at (joined_again f k seat) n ≡ up_at f n
again_up f k seat n = by_there seat.is_there
  where
    by_there : (b : Bool) → up_at (if b then joined f k 1 else f) n ≡ up_at f n
    by_there true = joined_up f k 1 n
    by_there false = refl

all_up : (seats : List Seat) (count : ℕ) (f : FanState) (n : ℕ) → up_at (all_joined seats count f) n ≡ up_at f n
all_up seats zero f n = refl
all_up seats (suc count) f n = again_up (all_joined seats count f) count (slice_index_or seats count empty_seat) n ∙ all_up seats count f n

empty_at : (count n : ℕ) → slice_index_or (replicate count port.empty_port) n port.empty_port ≡ port.empty_port
empty_at zero n = refl
empty_at (suc count) zero = refl
empty_at (suc count) (suc n) = empty_at count n

first_up : (o : Option ℕ) → (first_port o).up ≡ None
first_up None = refl
first_up (Some conn) = refl

opening_up : (ports : ℕ) (legacy is_there : Bool) (n : ℕ) → up_at (opening_fan ports legacy is_there) n ≡ None
opening_up ports true is_there n =
    kept_part (λ (p : port.PortState). p.up) (replicate 15 port.empty_port) 0 (first_port (if is_there then Some 1 else None)) (first_up (if is_there then Some 1 else None)) n ∙ ap (λ (p : port.PortState). p.up) (empty_at 15 n)
opening_up ports false is_there n = ap (λ (p : port.PortState). p.up) (empty_at 15 n)

renewed_up : (f : FanState) (n : ℕ) → up_at (renewed_fan f) n ≡ None
renewed_up f n = all_up f.seats f.multiplier.registers.ports (opening_fan f.multiplier.registers.ports f.legacy (seat_at f 0).is_there) n
    ∙ opening_up f.multiplier.registers.ports f.legacy (seat_at f 0).is_there n

none_held : (n c : ℕ) (f : FanState) → up_at f n ≡ None → held_at n c (Multiplier f) ≡ []
none_held n c f none = ap (λ (o : Option Stamped). of_conn n c (map (rising n) (option_to_list o))) none

none_waits : (n c : ℕ) (s : StraightState) → s.port.up ≡ None → held_at n c (Device s) ≡ []
none_waits n c s none = ap (λ (o : Option Stamped). of_conn n c (option_to_list o)) none

end_sound : FansRenew → (f : FanOut) → IsSoundEnd f → IsSoundEnd (renewed_end f)
end_sound law (Device s) sound = renewed_sound s
end_sound law (Multiplier f) sound = (law f sound).fan

end_none : (f : FanOut) (n c : ℕ) → held_at n c (renewed_end f) ≡ []
end_none (Device s) n c = none_waits n c (renewed_straight s) (renewed_none s)
end_none (Multiplier f) n c = none_held n c (renewed_fan f) (renewed_up f n)

-- a machine on whose way nothing is
clear : (m : MachineState) → IsSoundEnd m.fan → ((n c : ℕ) → held_at n c m.fan ≡ []) → m.incoming ≡ None → m.taken ≡ false → HaveRisen m no_frames
clear m sound none incoming taken = record {
  first = m.fan;
  sound = sound;
  none = none;
  calls = [];
  sends = (refl, refl);
  gives = λ i. if sym taken i then [] else option_to_list (sym incoming i);
  taken = λ now. absurd (false≢true (sym taken ∙ now));
}

renewed_clear : FansRenew → (old base new : MachineState) → IsSoundEnd old.fan → base.fan ≡ old.fan → new ≡ renewed base → HaveRisen new no_frames
renewed_clear law old base new sound same is =
    subst (λ (m : MachineState). HaveRisen m no_frames) (sym is)
    (clear (renewed base) (end_sound law base.fan (subst IsSoundEnd (sym same) sound)) (end_none base.fan) refl refl)

-- power leaves the frame that was taken
pub powered_gives : (taken : Bool) (incoming : Option Stamped) → (if taken then [] else option_to_list (if taken then incoming else None)) ≡ []
powered_gives true incoming = refl
powered_gives false incoming = refl

powered_taken : (taken : Bool) (incoming : Option Stamped) → (taken ≡ true → is_some incoming ≡ true) → taken ≡ true
    → is_some (if taken then incoming else None) ≡ true
powered_taken true incoming there now = there now
powered_taken false incoming there now = absurd (false≢true now)

powered_clear : FansRenew → (old new : MachineState) → IsSoundEnd old.fan → (old.taken ≡ true → is_some old.incoming ≡ true) → new ≡ powered old
    → HaveRisen new no_frames
powered_clear law old new sound there is = subst (λ (m : MachineState). HaveRisen m no_frames) (sym is) (record {
  first = renewed_end old.fan;
  sound = end_sound law old.fan sound;
  none = end_none old.fan;
  calls = [];
  sends = (refl, refl);
  gives = sym (powered_gives old.taken old.incoming);
  taken = powered_taken old.taken old.incoming there;
})

wrote_clear : FansRenew → (stays : Bool) (old new : MachineState) (message : Bool) → IsSoundEnd old.fan → not stays ≡ true
    → new ≡ (if stays then record old { controller = new.controller; message = message } else renewed (record old { controller = new.controller; message = message })) → HaveRisen new no_frames
wrote_clear law true old new message sound off is = absurd (false≢true off)
wrote_clear law false old new message sound off is = renewed_clear law old (record old { controller = new.controller; message = message }) new sound refl is

reset_clear : FansRenew → (deed : Deed) (old new : MachineState) → Does old deed new → is_reset deed ≡ true → IsSoundEnd old.fan
    → (old.taken ≡ true → is_some old.incoming ≡ true) → HaveRisen new no_frames
reset_clear law (Wrote offset width value written) old new h on sound there = wrote_clear law (link_stays written) old new (old.message || message_of written) sound on h.rest
reset_clear law Powered old new h on sound there = powered_clear law old new sound there h
reset_clear law other old new h on sound there = absurd (false≢true on)

-- ---- each deed

pub given_both : (xs ys : List FanCall) → given (xs ++ ys) ≡ given xs ++ given ys
given_both xs ys = flat_map-append given_by xs ys

-- more calls
more : (old new : MachineState) (was : Frames) (came sent : List Stamped) → HaveRisen old was → Rising (outer old) came sent (outer new)
    → HaveRisen new (record { sent = was.sent ++ sent; came = was.came ++ came })
more old new was came sent so_far step = record {
  first = so_far.first;
  sound = so_far.sound;
  none = so_far.none;
  calls = so_far.calls ++ step.calls;
  sends = then_sends so_far.first old.fan new.fan so_far.calls step.calls was.sent sent so_far.sends step.sends;
  gives = given_both so_far.calls step.calls ∙ ap (λ (l : List Stamped). l ++ given step.calls) so_far.gives
      ∙ append_assoc was.came (untaken old) (given step.calls) ∙ ap (λ (l : List Stamped). was.came ++ l) (sym step.gives) ∙ sym (append_assoc was.came came (untaken new));
  taken = step.there;
}

abbrev pub Laws : Type 0
Laws = FansPass × FansRenew

pub sound_now : Laws → (m : MachineState) (frames : Frames) → HaveRisen m frames → IsSoundEnd m.fan
sound_now laws m frames h = (passes laws.0 h.first m.fan h.calls frames.sent h.sound h.sends).sound

pub one_deed : Laws → (deed : Deed) (old new : MachineState) (does : Does old deed new) (was : Frames) → HaveRisen old was → HaveRisen new (frames_after was old deed new does)
one_deed laws deed old new does was h = by_reset (is_reset deed) refl
  where
    by_reset : (b : Bool) → is_reset deed ≡ b → HaveRisen new (more_frames b was (sent_by old deed new does) (came_by old deed new does))
    by_reset true on = reset_clear laws.1 deed old new does on (sound_now laws old was h) h.taken
    by_reset false on = more old new was (came_by old deed new does) (sent_by old deed new does) h (deed_rises deed old new does on h.taken)

pub goes : Laws → GoesOnRising
goes laws old [] new run was h = subst (λ (m : MachineState). HaveRisen m was) (sym run.1) h
goes laws old (deed ∷ later) new run was h =
    goes laws run.1.0 later new run.1.2 (frames_after was old deed run.1.0 run.1.1) (one_deed laws deed old run.1.0 run.1.1 was h)

-- ---- the law

pub rise : FansPass → FramesRise
rise law m frames h n c less = record {
  dropped = up.dropped;
  order =
      ap (λ (l : List Stamped). l ++ up.dropped) (sym (append_assoc (of_conn n c frames.came) (of_conn n c (untaken m)) (held_at n c m.fan)))
      ∙ ap (λ (l : List Stamped). l ++ held_at n c m.fan ++ up.dropped) (sym (two n c frames.came (untaken m)) ∙ ap (of_conn n c) (sym h.gives))
      ∙ up.order ∙ ap (λ (l : List Stamped). l ++ of_conn n c frames.sent) (h.none n c);
  whole = up.whole;
}
  where
    up : Passage n c h.first (given h.calls) frames.sent m.fan
    up = (passes law h.first m.fan h.calls frames.sent h.sound h.sends).up n c less

-- ---- a machine that opens

seat_empty : (count n : ℕ) → slice_index_or (replicate count empty_seat) n empty_seat ≡ empty_seat
seat_empty zero n = refl
seat_empty (suc count) zero = refl
seat_empty (suc count) (suc n) = seat_empty count n

-- where no device was, none comes again
none_come : (room count : ℕ) (f : FanState) → all_joined (replicate room empty_seat) count f ≡ f
none_come room zero f = refl
none_come room (suc count) f =
    ap (λ (s : Seat). joined_again (all_joined (replicate room empty_seat) count f) count s) (seat_empty room count) ∙ none_come room count f

new_fan : (ports : ℕ) → 1 ≤ ports → ports ≤ 15 → IsFan (opening_fan ports false false)
new_fan ports some most = record {
  sound = opens_sound ports most;
  some = some;
  room = refl;
  present = λ n. ap (λ (q : port.PortState). q.present) (empty_at 15 n) ∙ ap connection (sym (seat_empty 15 n));
  last = λ n. ap (λ (q : port.PortState). q.last) (empty_at 15 n) ∙ ap (λ (s : Seat). s.last) (sym (seat_empty 15 n));
}

-- with no device, and port 0 open from its next reset on
abbrev unopened : ℕ → FanState
unopened ports = record { multiplier = opening ports; legacy = true; seats = replicate 15 empty_seat }

opens_fan : FansRenew → (ports : ℕ) (legacy : Bool) → 1 ≤ ports → ports ≤ 15 → IsFan (opening_fan ports legacy false)
opens_fan law ports false some most = new_fan ports some most
opens_fan law ports true some most =
    let was : IsFan (opening_fan ports false false) = new_fan ports some most in
    let is : IsFan (unopened ports) = record { sound = was.sound; some = was.some; room = was.room; present = was.present; last = was.last } in
    subst IsFan (none_come 15 ports (opening_fan ports true false)) (law (unopened ports) is).fan

opens_end : FansRenew → (count : ℕ) (legacy : Bool) → count ≤ 15 → IsSoundEnd (opening_end count legacy)
opens_end law zero legacy most = opening_sound
opens_end law (suc count) legacy most = opens_fan law (suc count) legacy (omega arith) most

opens_none : (count : ℕ) (legacy : Bool) (n c : ℕ) → held_at n c (opening_end count legacy) ≡ []
opens_none zero legacy n c = refl
opens_none (suc count) legacy n c = none_held n c (opening_fan (suc count) legacy false) (opening_up (suc count) legacy false n)

pub opens : FansRenew → OpensRising
opens law ports legacy m is =
    clear m
    (subst IsSoundEnd (sym (ap (λ (x : MachineState). x.fan) is.rest)) (opens_end law (min ports 15) legacy (at_most ports)))
    (λ n c. subst (λ (f : FanOut). held_at n c f ≡ []) (sym (ap (λ (x : MachineState). x.fan) is.rest)) (opens_none (min ports 15) legacy n c))
    (ap (λ (x : MachineState). x.incoming) is.rest) (ap (λ (x : MachineState). x.taken) is.rest)
  where
    at_most : (k : ℕ) → min k 15 ≤ 15
    at_most k = omega arith
