-- What each deed is to the FISes of the devices: one is sent, goes up, comes to the controller, or all stay.
use Rattle.std.proofs.Common.{◌≡◌, ℕ, Bool, true, false, not, List, [], ◌∷◌, ◌++◌, set, Option, Some, None, Result, Ok, Err, refl, sym, ap, ◌∙◌}
use Rattle.std.proofs.{Common.{subst, inl, inr}, lemmas.{Bool.{and_parts, false≢true, true≢false}, List.{append-nil}}}
use Rattle.std.specs.{Prelude.{if◌then◌else◌, ◌||◌, is_some, is_none, nat_lt, MatchOption, IsOk, OnErr, OnOk}, Bool.MatchBool, Option.option_to_list}
use Rattle.std.specs.{Result.IsErrOf, declared.alloc.AllocError.AllocError}
use Rattle.fis_view.specs.Frames.{Stamped}
use Rattle.pm_ports.specs.declared.port.Offered.{Offered, TheVariants.{Held, Dropped}}
use Rattle.multiplier.specs.State.{port_at}
use Rattle.fan_out.specs.Calls.{FanCall, Plug, Pull, Send, GiveUp, GiveDown, Offer, Tell, Does as FanDoes, given, given_by, waits_at}
use Rattle.fan_out.specs.{FanOuts.{Offers, OffersAt, has_port, wants_at, wants_there}, Fans.{FanState, held_fan, seat_at}, Seats.after_sent}
use Rattle.fan_out.specs.{Straights.{StraightState, answering}, declared.fan_out.FanOut.{FanOut, TheVariants.{Device, Multiplier}}}
use Rattle.pm_ports.specs.Port as port
use Rattle.block_engine.specs.declared.request.Answer.{Answer}
use Rattle.sata_disk.specs.State.{DiskState}
use Rattle.ahci_controller.specs.declared.{feeding.Fed.Fed, next.Next.Next}
use Rattle.ahci_controller.specs.declared.feeding.Fed.TheVariants as fed
use Rattle.ahci_controller.specs.declared.next.Next.TheVariants as next
use Rattle.ahci_machine.specs.Acts as acts
use Rattle.ahci_machine.specs.{Acts.{with_controller, with_gathering}, Answers.{AnswersDisk, AnswersMachine, IsStale, MissesFor, MissesMachine}}
use Rattle.ahci_machine.specs.{Answers.{OffersFrame, SuppliesData, SuppliesMachine, disk_at, is_own, is_wanted, taken_bay}, Bays.with_unit}
use Rattle.ahci_machine.specs.{Gathers.GatheringState, Ports.{PlugsIn, PlugsMachine, PullsMachine, PullsOut, Puts, TakesUnit, filled, has_bay}}
use Rattle.ahci_machine.specs.{Ports.{is_empty, on_bay}, Registers.{link_stays, message_of, renewed}, States.{MachineState, bay_at, gathering_at}}
use Rattle.ahci_machine.specs.declared.{act.Act.Act, answers.{MediumError.{MediumError, TheVariants.OtherDisk}, Told.Told}, bay.Bay.Bay}
use Rattle.ahci_machine.specs.declared.{bay.Unit.{Unit as Inside, TheVariants.Empty}, ports.PortFault.{PortFault, TheVariants.{NoPort, Taken}}}
use Rattle.ahci_machine.specs.declared.{ports.PortFault.TheVariants.NotThere as Absent, request.{MediumId.MediumId, Wanted.Wanted}}
use Rattle.ahci_machine.specs.declared.request.Wanted.TheVariants.{Command, Data}
use Rattle.ahci_machine.specs.declared.act.Act.TheVariants as act
use Rattle.machine_laws.proofs.Beside as beside
use Rattle.machine_laws.proofs.Cases.{by_bool, by_option}
use Rattle.machine_laws.specs.Deeds.{Deed, Does, Moved, Unlent, Wrote, Powered, Supplied, Missed, Answered, Put, Plugged, Pulled, Removed, FrameTaken}
use Rattle.machine_laws.specs.{Deeds.FrameOffered, Rising.{Sends, came_by, is_reset, move_came, move_sent, risen, sent_by, sent_call, unless_back}}

-- what is behind the controller, and the frame on its way to it
abbrev pub Outer : Type 0
Outer = FanOut × Option Stamped × Bool

abbrev pub outer : MachineState → Outer
outer m = (m.fan, m.incoming, m.taken)

abbrev pub way : Outer → List Stamped
way o = if o.2 then [] else option_to_list o.1

-- a frame that was taken is there
abbrev pub IsThere : Outer → Type 0
IsThere o = o.2 ≡ true → is_some o.1 ≡ true

-- these calls, by which this was sent; what they give is what came, and then what is on its way
pub record Rising (old : Outer) (came sent : List Stamped) (new : Outer) : Type 0 where
  pub calls : List FanCall
  pub sends : Sends old.0 calls sent new.0
  pub gives : came ++ way new ≡ way old ++ given calls
  pub there : IsThere new

abbrev pub Still : MachineState → MachineState → Type 0
Still old new = outer new ≡ outer old

abbrev Stays : MachineState → MachineState → Type 0
Stays old new = Rising (outer old) [] [] (outer new)

still : (old new : MachineState) → IsThere (outer old) → Still old new → Stays old new
still old new there same =
    subst (Rising (outer old) [] []) (sym same) (record { calls = []; sends = (refl, refl); gives = sym (append-nil (way (outer old))); there = there })

-- one call, which gives nothing
called : (old new : MachineState) (call : FanCall) (sent : List Stamped) → IsThere (outer old) → FanDoes old.fan call new.fan → given_by call ≡ [] → sent_call old.fan call ≡ sent
    → new.incoming ≡ old.incoming → new.taken ≡ old.taken → Rising (outer old) [] sent (outer new)
called old new call sent there does none is incoming taken = record {
  calls = call ∷ [];
  sends = (new.fan, does, ([], sym is ∙ sym (append-nil (sent_call old.fan call)), (refl, refl)));
  gives =
      (λ i. if taken i then [] else option_to_list (incoming i)) ∙ sym (append-nil (way (outer old)))
      ∙ ap (λ (l : List Stamped). way (outer old) ++ l) (sym (append-nil (given_by call) ∙ none));
  there = λ now. ap is_some incoming ∙ there (sym taken ∙ now);
}

-- ---- a frame that a device offers where there is room is held

from_true : (X Y : Type 0) (b : Bool) → b ≡ true → MatchBool b X Y → X
from_true X Y true is h = h
from_true X Y false is h = absurd (false≢true is)

held_straight : (s t : StraightState) (frame : Stamped) (result : Result Offered Stamped) → s.seat.is_there ≡ true → is_none s.port.up ≡ true → OffersAt (Device s) 0 frame result (Device t) → result ≡ Ok Held
held_straight s t frame result there room h =
    (from_true ((result ≡ Ok Held) × (t ≡ record { port = port.with_up s.port (Some (answering s frame)); seat = after_sent s.seat; asked = s.asked })) ((result ≡ Err frame) × (t ≡ s)) (is_none s.port.up) room
    (from_true
    (MatchBool (is_none s.port.up) ((result ≡ Ok Held) × (t ≡ record { port = port.with_up s.port (Some (answering s frame)); seat = after_sent s.seat; asked = s.asked })) ((result ≡ Err frame) × (t ≡ s)))
    ((result ≡ Ok Dropped) × (t ≡ s)) s.seat.is_there there h)).0

held_fanned : (f g : FanState) (n : ℕ) (frame : Stamped) (result : Result Offered Stamped) → (seat_at f n).is_there ≡ true → is_none (port_at f.multiplier n).up ≡ true → OffersAt (Multiplier f) n frame result (Multiplier g) → result ≡ Ok Held
held_fanned f g n frame result there room h =
    (from_true ((result ≡ Ok Held) × (g ≡ held_fan f n frame)) ((result ≡ Err frame) × (g ≡ f)) (is_none (port_at f.multiplier n).up) room
    (from_true (MatchBool (is_none (port_at f.multiplier n).up) ((result ≡ Ok Held) × (g ≡ held_fan f n frame)) ((result ≡ Err frame) × (g ≡ f)))
    ((result ≡ Ok Dropped) × (g ≡ f)) (seat_at f n).is_there there h)).0

held_there : (f g : FanOut) (n : ℕ) (frame : Stamped) (result : Result Offered Stamped) → wants_there f n ≡ true → OffersAt f n frame result g → result ≡ Ok Held
held_there (Device s) (Device t) n frame result wants h = let w = and_parts s.seat.is_there (is_none s.port.up) wants in held_straight s t frame result w.0 w.1 h
held_there (Device s) (Multiplier g) n frame result wants h = absurd h
held_there (Multiplier f) (Device t) n frame result wants h = absurd h
held_there (Multiplier f) (Multiplier g) n frame result wants h = let w = and_parts (seat_at f n).is_there (is_none (port_at f.multiplier n).up) wants in held_fanned f g n frame result w.0 w.1 h

pub held_offer : (f g : FanOut) (n : ℕ) (frame : Stamped) (offered : Offered) → wants_at f n ≡ true → Offers f n frame (Ok offered) g → Offers f n frame (Ok Held) g
held_offer f g n frame offered wants h =
    let w = and_parts (has_port f n) (wants_there f n) wants in
    let at : OffersAt f n frame (Ok offered) g = from_true (OffersAt f n frame (Ok offered) g) ((Ok offered ≡ Ok Dropped) × (g ≡ f)) (has_port f n) w.0 h in
    subst (λ (r : Result Offered Stamped). Offers f n frame r g) (held_there f g n frame (Ok offered) w.1 at) h

-- ---- moves

pub rests : (old new : MachineState) → acts.RestsNow old new → Still old new
rests old new (inl same) = ap outer same
rests old new (inr turns) = ap outer turns.rest

pub does_next : (said : Next) (old new : MachineState) → acts.DoesBy said old new → Still old new
does_next (next.Order dev slot fis) old new h = ap outer h.1
does_next other old new h = ap outer h

pub goes_by : (answer : Fed) (g : GatheringState) (base new : MachineState) → acts.GoesBy answer g base new → Still base new
goes_by (fed.Goes message line) g base new h = ap outer h
goes_by other g base new h = ap outer h

-- all of it is written: it is let go
lets_go : (b : Bool) (o : Option Stamped) → option_to_list (if b then None else o) ≡ (if b then [] else option_to_list o)
lets_go true o = refl
lets_go false o = refl

-- where no frame is there, none was taken
none_taken : (o : Option Stamped) (b : Bool) → o ≡ None → (b ≡ true → is_some o ≡ true) → b ≡ false
none_taken o true none there = absurd (false≢true (sym (ap is_some none) ∙ there refl))
none_taken o false none there = refl

rises : (old new : MachineState) → IsThere (outer old) → acts.RisesNext old new → Rising (outer old) [] [] (outer new)
rises old new there h = subst (Rising (outer old) [] []) (sym (ap outer h.rest)) (record {
  calls = GiveUp (Ok (Some h.frame)) ∷ [];
  sends = (new.fan, h.gives, ([], refl, (refl, refl)));
  gives = ap (λ (b : Bool). if b then [] else h.frame ∷ []) free
      ∙ (λ i. (if sym free i then [] else option_to_list (sym h.none i)) ++ h.frame ∷ []);
  there = λ now. refl;
})
  where
    free : old.taken ≡ false
    free = none_taken old.incoming old.taken h.none there

pub serves : (a : Act) (n : ℕ) (old new : MachineState) → new.fan ≡ old.fan → acts.ServesNext n a old new → Still old new
serves a n old new same h = ap outer h.rest ∙ (λ i. (same i, old.incoming, old.taken))

move_rises : (a : Act) (old new : MachineState) (does : acts.Does old a new) → IsThere (outer old) → Rising (outer old) (move_came old a new does) (move_sent old a new does) (outer new)
move_rises act.Rests old new h there = still old new there (rests old new h)
move_rises act.LetsGo old new h there = subst (Rising (outer old) [] []) (sym (ap outer h.rest)) (record {
  calls = [];
  sends = (refl, refl);
  gives = lets_go old.taken old.incoming ∙ sym (append-nil (way (outer old)));
  there = λ now. absurd (false≢true now);
})
move_rises (act.Line b) old new h there = still old new there (ap outer h.2)
move_rises act.Message old new h there = still old new there (ap outer h.1)
move_rises (act.Does said) old new h there = still old new there (does_next said old new h.does)
move_rises (act.Sends passed) old new h there =
    called old new (Send h.frame (Ok passed)) [] there h.sends refl refl (ap (λ (m : MachineState). m.incoming) h.rest) (ap (λ (m : MachineState). m.taken) h.rest)
move_rises (act.Gathers dev answer) old new h there =
    still old new there (goes_by answer h.gathering (with_controller (with_gathering old h.place None) new.controller) new h.gathers.goes)
move_rises (act.Misses slot answer) old new h there = still old new there (ap outer h.misses.rest)
move_rises act.Rises old new h there = rises old new there h
move_rises (act.Takes took) old new h there = subst (Rising (outer old) (h.frame ∷ []) []) (sym (ap outer h.rest)) (record {
  calls = [];
  sends = (refl, refl);
  gives = (λ i. (if sym h.once i then [] else option_to_list (sym h.on i)) ++ []);
  there = λ now. ap is_some h.on;
})
move_rises (act.Loses why) old new h there = subst (Rising (outer old) (option_to_list old.incoming) []) (sym (ap outer h.rest)) (record {
  calls = [];
  sends = (refl, refl);
  gives = (λ i. option_to_list old.incoming ++ (if h.once i then [] else [])) ∙ (λ i. (if sym h.once i then [] else option_to_list old.incoming) ++ []);
  there = λ now. absurd (false≢true (sym h.once ∙ now));
})
move_rises (act.Begins n) old new h there =
    called old new (Tell (Some n)) [] there h.tells refl refl (ap (λ (m : MachineState). m.incoming) h.rest) (ap (λ (m : MachineState). m.taken) h.rest)
move_rises (act.Falls n) old new h there =
    called old new (GiveDown n (Some h.does.1.frame)) [] there h.does.1.gives refl refl (ap (λ (m : MachineState). m.incoming) h.rest) (ap (λ (m : MachineState). m.taken) h.rest)
move_rises (act.Hears n unheard) old new h there = still old new there (serves (act.Hears n unheard) n old new h.does.1 h)
move_rises (act.Points n) old new h there = still old new there (serves (act.Points n) n old new h.does.1 h)
move_rises (act.Drops n) old new h there = still old new there (serves (act.Drops n) n old new h.does.1 h)
move_rises (act.Speaks n out) old new h there =
    called old new (Offer n h.does.1.frame (Ok Held) (waits_at new.fan n)) _ there (h.does.1.offers, refl) refl refl (ap (λ (m : MachineState). m.incoming) h.rest) (ap (λ (m : MachineState). m.taken) h.rest)
move_rises (act.Starts n place) old new h there = still old new there (serves (act.Starts n place) n old new h.does.1 h)
move_rises (act.Asks id request) old new h there = still old new there (serves (act.Asks id request) id.port old new h.does.1 h)
move_rises other old new h there = still old new there (ap outer h.rest)

-- ---- calls

answered_told : (told : Result (Unit {0}) MediumError) (old base new : MachineState) → Still old base → OnOk told (new ≡ base) → OnErr told (new ≡ old) → Still old new
answered_told (Ok x) old base new same ok err = ap outer ok ∙ same
answered_told (Err e) old base new same ok err = ap outer err

pub answered : (id : MediumId) (a : Answer) (old new : MachineState) (told : Result (Unit {0}) MediumError) → AnswersMachine id a old told new → Still old new
answered id a old new told h =
    by_option DiskState (Still old new) (IsErrOf told OtherDisk × (new ≡ old)) (λ d. AnswersDisk id a d old told new) (disk_at old id) h
    (λ none is. ap outer is.1) (λ d there s. answered_told told old _ new refl s.ok s.err)

pub put : (n : ℕ) (unit : Inside) (old new : MachineState) (told : Result (Unit {0}) (Inside × PortFault)) → Puts n unit old told new → Still old new
put n unit old new told h =
    by_bool (Still old new)
    (MatchBool (is_empty (bay_at old n).unit) (IsOk told × (new ≡ on_bay old n (filled (bay_at old n) unit))) (IsErrOf told (unit, Taken) × (new ≡ old)))
    (IsErrOf told (unit, NoPort) × (new ≡ old)) (has_bay old n) h
    (λ inside there. by_bool (Still old new) (IsOk told × (new ≡ on_bay old n (filled (bay_at old n) unit))) (IsErrOf told (unit, Taken) × (new ≡ old)) (is_empty (bay_at old n).unit) there
    (λ empty is. ap outer is.1) (λ full is. ap outer is.1))
    (λ outside is. ap outer is.1)

pub taken_away : (n : ℕ) (old new : MachineState) (told : Result Inside PortFault) → TakesUnit n old told new → Still old new
taken_away n old new told h =
    by_bool (Still old new)
    (MatchBool (is_empty (bay_at old n).unit) (IsErrOf told Absent × (new ≡ on_bay old n (with_unit (bay_at old n) Empty)))
    ((told ≡ Ok (bay_at old n).unit) × (new ≡ on_bay old n (with_unit (bay_at old n) Empty))))
    (IsErrOf told NoPort × (new ≡ old)) (has_bay old n) h
    (λ inside there. by_bool (Still old new) (IsErrOf told Absent × (new ≡ on_bay old n (with_unit (bay_at old n) Empty)))
    ((told ≡ Ok (bay_at old n).unit) × (new ≡ on_bay old n (with_unit (bay_at old n) Empty))) (is_empty (bay_at old n).unit) there
    (λ empty is. ap outer is.1) (λ full is. ap outer is.1))
    (λ outside is. ap outer is.1)

pub frame_by : (own : Bool) (old new : MachineState) (n : ℕ) (b : Bay) → new ≡ (if own then record old { bays = set old.bays n b } else old) → Still old new
frame_by true old new n b is = ap outer is
frame_by false old new n b is = ap outer is

pub supplied : (w : Wanted) (bytes : List ℕ) (old new : MachineState) (answer : Result Told AllocError) → SuppliesMachine w bytes old answer new → Still old new
supplied (Command slot number) bytes old new answer h = ap outer h.rest
supplied (Data dev number done) bytes old new (Ok it) h =
    by_bool (Still old new) (MatchOption (gathering_at old dev) (IsStale old it new) (λ g. SuppliesData g dev number done bytes old it new)) (IsStale old it new) (nat_lt dev 16) h
    (λ low some. by_option GatheringState (Still old new) (IsStale old it new) (λ g. SuppliesData g dev number done bytes old it new) (gathering_at old dev) some
    (λ none is. ap outer is.1) (λ g there s. ap outer s.rest))
    (λ high is. ap outer is.1)
supplied (Data dev number done) bytes old new (Err e) h = absurd h

pub missed : (w : Wanted) (old new : MachineState) (answer : Result Told AllocError) → MissesMachine w old answer new → Still old new
missed (Command slot number) old new answer h = ap outer h.rest
missed (Data dev number done) old new (Ok it) h =
    by_bool (Still old new) (MatchOption (gathering_at old dev) ⊥ (λ g. MissesFor g dev old it new)) (IsStale old it new) (is_wanted old dev number done) h
    (λ low some. by_option GatheringState (Still old new) ⊥ (λ g. MissesFor g dev old it new) (gathering_at old dev) some
    (λ none is. absurd is) (λ g there s. ap outer s.misses.rest))
    (λ high is. ap outer is.1)
missed (Data dev number done) old new (Err e) h = absurd h

pub wrote : (stays : Bool) (old new : MachineState) (message : Bool) → not stays ≡ false
    → new ≡ (if stays then record old { controller = new.controller; message = message } else renewed (record old { controller = new.controller; message = message })) → Still old new
wrote true old new message off is = ap outer is
wrote false old new message off is = absurd (true≢false off)

plugged : (n : ℕ) (old new : MachineState) (told : Result (Unit {0}) PortFault) → IsThere (outer old) → PlugsMachine n old told new → Stays old new
plugged n old new told there h =
    by_bool (Stays old new) (MatchBool (is_empty (bay_at old n).unit) (IsErrOf told Absent × (new ≡ old)) (PlugsIn n old told new)) (IsErrOf told NoPort × (new ≡ old)) (has_bay old n) h
    (λ inside full. by_bool (Stays old new) (IsErrOf told Absent × (new ≡ old)) (PlugsIn n old told new) (is_empty (bay_at old n).unit) full
    (λ empty is. still old new there (ap outer is.1))
    (λ unit is. called old new (Plug n is.answer) [] there is.plugs refl refl (ap (λ (m : MachineState). m.incoming) is.rest) (ap (λ (m : MachineState). m.taken) is.rest)))
    (λ outside is. still old new there (ap outer is.1))

pulled : (n : ℕ) (old new : MachineState) (told : Result (Unit {0}) PortFault) → IsThere (outer old) → PullsMachine n old told new → Stays old new
pulled n old new told there h =
    let same = beside.pulled n old new told h in
    by_bool (Stays old new) (PullsOut n old told new) (IsErrOf told NoPort × (new ≡ old)) (has_bay old n) h
    (λ inside is. called old new (Pull n is.answer) [] there is.pulls.pulls refl refl (ap (λ i. i.3) same) (ap (λ i. i.4) same))
    (λ outside is. still old new there (ap outer is.1))

offered : (n : ℕ) (frame : Stamped) (told : Result (Unit {0}) Stamped) (old new : MachineState) → IsThere (outer old) → OffersFrame n frame old told new
    → Rising (outer old) [] (unless_back told (risen old.fan n frame)) (outer new)
offered n frame (Ok x) old new there h =
    called old new (Offer n frame (Ok Held) (waits_at new.fan n)) _ there (held_offer old.fan new.fan n frame h.back.0 h.own.1 h.back.1, refl) refl refl
    (ap (λ (m : MachineState). m.incoming) h.rest) (ap (λ (m : MachineState). m.taken) h.rest)
offered n frame (Err given_back) old new there h = still old new there (ap outer h.back.1)

pub deed_rises : (deed : Deed) (old new : MachineState) (does : Does old deed new) → is_reset deed ≡ false → IsThere (outer old)
    → Rising (outer old) (came_by old deed new does) (sent_by old deed new does) (outer new)
deed_rises (Moved a) old new h on there =
    subst (Rising (outer old) (move_came old a h.middle h.does) (move_sent old a h.middle h.does)) (sym (ap outer h.turns)) (move_rises a old h.middle h.does there)
deed_rises Unlent old new h on there = still old new there (ap outer h)
deed_rises (Wrote offset width value written) old new h on there = still old new there (wrote (link_stays written) old new (old.message || message_of written) on h.rest)
deed_rises Powered old new h on there = absurd (true≢false on)
deed_rises (Supplied w bytes) old new h on there = still old new there (supplied w bytes old new h.answer h.supplies)
deed_rises (Missed w) old new h on there = still old new there (missed w old new h.answer h.misses)
deed_rises (Answered id a told) old new h on there = still old new there (answered id a old new told h)
deed_rises (Put n unit told) old new h on there = still old new there (put n unit old new told h)
deed_rises (Plugged n told) old new h on there = plugged n old new told there h
deed_rises (Pulled n told) old new h on there = pulled n old new told there h
deed_rises (Removed n told) old new h on there =
    subst (Rising (outer old) [] []) (sym (taken_away n h.pulled new told h.takes)) (pulled n old h.pulled h.answer there h.pulls)
deed_rises (FrameTaken n told) old new h on there = still old new there (frame_by (is_own (bay_at old n).unit) old new n (taken_bay (bay_at old n)) h.rest)
deed_rises (FrameOffered n frame told) old new h on there = offered n frame told old new there h
