-- The frame of which something is to be written to the guest is the one that the machine has.
use Rattle.std.proofs.Common.{◌≡◌, ℕ, Bool, true, false, List, [], ◌∷◌, ◌++◌, Option, None, Some, Result, Ok, Err, refl, sym, ap, subst, ◌∙◌, inl}
use Rattle.std.proofs.{Common.{inr, not}, lemmas.Bool.{false≢true}}
use Rattle.std.specs.{Prelude.{◌||◌, MatchOption, if◌then◌else◌, is_some, nat_lt}, Bool.MatchBool, declared.alloc.AllocError.AllocError}
use Rattle.fis_view.specs.Frames.{Stamped}
use Rattle.ahci_controller.specs.{Access.fits as fits_width, Fetching.{fits, is_asked}, Next.is_fed, States.{ControllerState, kept}}
use Rattle.ahci_controller.specs.declared.{feeding.Fed.Fed, next.Next.Next, taking.Hindrance.Hindrance, wide.WideWritten.WideWritten}
use Rattle.ahci_controller.specs.{Wide.WritesFitting, declared.access.Width.Width}
use Rattle.ahci_controller.specs.declared.feeding.Fed.TheVariants as fed
use Rattle.ahci_controller.specs.declared.next.Next.TheVariants as next
use Rattle.guest_fetch.specs.{Commands.Fetched, declared.moves.Move.Move}
use Rattle.hba_fbs.specs.declared.report.Wrote.{Wrote as Brought}
use Rattle.slots.specs.Slots.{match_some}
use Rattle.controller_laws.specs.{Carrying.{Carrying, carrying_by, carrying_of, cut_if, cut_wide, moves_in, moves_said, said_more}, Events.Event}
use Rattle.controller_laws.specs.Events as call
use Rattle.controller_laws.specs.Places as places
use Rattle.ahci_machine.specs.Acts as acts
use Rattle.ahci_machine.specs.{Acts.{lent_by, with_controller, with_gathering}, Answers.{IsStale, MissesFor, MissesMachine, SuppliesData}}
use Rattle.ahci_machine.specs.{Answers.{SuppliesMachine, is_own, is_wanted, taken_bay}, Gathers.GatheringState, Registers.{lent_bytes, lent_of}}
use Rattle.ahci_machine.specs.{Registers.{link_stays, message_of, part_of, powered, renewed}, States.{MachineState, bay_at, gathering_at}}
use Rattle.ahci_machine.specs.declared.{act.Act.Act, answers.Told.Told, request.Wanted.{Wanted, TheVariants.{Command, Data}}}
use Rattle.ahci_machine.specs.declared.act.Act.TheVariants as act
use Rattle.machine_laws.proofs.{Beside.{Beside, inner}, Cases.{by_bool, by_option}, Framed.{IsCalm, IsWrite, gather_is_calm, last_said, miss_is_calm}}
use Rattle.machine_laws.proofs.{Framed.{not_there_is_calm, said_calm, silent_on, supply_is_calm, take_silent, turn_is_calm, wide}, Lawful.writes}
use Rattle.machine_laws.proofs.Beside as beside
use Rattle.machine_laws.specs.{ControllerLaws.calls_in, Controllers.{data_calls, deed_calls, lost_calls, miss_calls, move_calls, rest_calls}}
use Rattle.machine_laws.specs.{Controllers.supply_calls, Deeds.{Deed, Does, Moved, Unlent, Wrote, Powered, Supplied, Missed, Answered, Put, Plugged}}
use Rattle.machine_laws.specs.{Deeds.{Pulled, Removed, FrameTaken, FrameOffered}, Lent.{CarriesTaken, FramesAreHeld, FramesAreLent, HoldsFrame, IsOf}}
use Rattle.machine_laws.specs.Lent.{IsSilent, Lends, OpensHolding, is_framed, is_framed_by, last_taken}

-- the machine goes on to have it
hold : (old new : MachineState) (last : Option (List ℕ)) → IsCalm old.controller new.controller → new.incoming ≡ old.incoming → new.taken ≡ old.taken → HoldsFrame old last → HoldsFrame new last
hold old new last calm incoming taken h = record {
  silent = silent_on old.controller new.controller calm h.silent;
  taken = λ here. taken ∙ h.taken (calm.writes here);
  frame = λ here. subst (λ (o : Option Stamped). MatchOption o ⊥ (λ f. last ≡ Some f.bytes)) (sym incoming) (h.frame (calm.writes here));
}

same_calm : (c d : ControllerState) → d ≡ c → IsCalm c d
same_calm c d is = record { writes = λ h. ap is_framed (sym is) ∙ h; link = ap (λ (x : ControllerState). x.link.control) is }

beside_holds : (old new : MachineState) (last : Option (List ℕ)) → Beside old new → HoldsFrame old last → HoldsFrame new last
beside_holds old new last same = hold old new last (same_calm old.controller new.controller (ap (λ i. i.0) same)) (ap (λ i. i.3) same) (ap (λ i. i.4) same)

-- nothing of a frame is left
empty_holds : (m : MachineState) (last : Option (List ℕ)) → IsSilent m.controller → is_framed m.controller ≡ false → HoldsFrame m last
empty_holds m last silent none = record { silent = silent; taken = λ h. absurd (false≢true (sym none ∙ h)); frame = λ h. absurd (false≢true (sym none ∙ h)) }

-- ---- moves

rests_hold : (old new : MachineState) (does : acts.RestsNow old new) (last : Option (List ℕ)) → HoldsFrame old last → HoldsFrame new (last_taken last (rest_calls old new does))
rests_hold old new (inl same) last h = subst (λ (m : MachineState). HoldsFrame m last) (sym same) h
rests_hold old new (inr turns) last h =
    hold old new last (turn_is_calm old.controller new.controller next.Nothing turns.turns) (ap (λ (m : MachineState). m.incoming) turns.rest) (ap (λ (m : MachineState). m.taken) turns.rest) h

goes_by : (answer : Fed) (g : GatheringState) (base new : MachineState) → acts.GoesBy answer g base new → Beside base new
goes_by (fed.Goes message line) g base new h = ap inner h
goes_by other g base new h = ap inner h

does_by : (n : Next) (old new : MachineState) → acts.DoesBy n old new → (new.controller ≡ old.controller) × (new.incoming ≡ old.incoming) × (new.taken ≡ old.taken)
does_by (next.Order dev slot fis) old new d = (ap (λ (m : MachineState). m.controller) d.1, ap (λ (m : MachineState). m.incoming) d.1, ap (λ (m : MachineState). m.taken) d.1)
does_by other old new d = (ap (λ (m : MachineState). m.controller) d, ap (λ (m : MachineState). m.incoming) d, ap (λ (m : MachineState). m.taken) d)

-- where no frame is there, or none was taken, nothing of one is to be written
nobody : (o : Option Stamped) (last : Option (List ℕ)) → o ≡ None → MatchOption o ⊥ (λ f. last ≡ Some f.bytes) → ⊥
nobody None last is h = h
nobody (Some f) last is h = cc

not_here : (b : Bool) → (b ≡ true → ⊥) → b ≡ false
not_here true h = absurd (h refl)
not_here false h = refl

empty_same : (old new : MachineState) (last : Option (List ℕ)) → new.controller ≡ old.controller → is_framed old.controller ≡ false → HoldsFrame old last → HoldsFrame new last
empty_same old new last is none h = empty_holds new last (subst IsSilent (sym is) h.silent) (ap is_framed is ∙ none)

lost_last : (frame : Option Stamped) (why : Hindrance) (last : Option (List ℕ)) → last_taken last (lost_calls frame why) ≡ last
lost_last None why last = refl
lost_last (Some f) why last = refl

moves_hold : (a : Act) (old new : MachineState) (does : acts.Does old a new) (last : Option (List ℕ)) → HoldsFrame old last → HoldsFrame new (last_taken last (move_calls old a new does))
moves_hold act.Rests old new h last was = rests_hold old new h last was
moves_hold (act.Writes w) old new h last was =
    hold old new last (said_calm old.controller new.controller (ap (λ (m : MachineState). m.controller) h.rest)) (ap (λ (m : MachineState). m.incoming) h.rest) (ap (λ (m : MachineState). m.taken) h.rest) was
moves_hold act.LetsGo old new h last was =
    let is = ap (λ (m : MachineState). m.controller) h.rest in
    empty_holds new last (silent_on old.controller new.controller (said_calm old.controller new.controller is) was.silent) (last_said old.controller new.controller h.none is)
moves_hold (act.Line b) old new h last was = beside_holds old new last (ap inner h.2) was
moves_hold act.Message old new h last was = beside_holds old new last (ap inner h.1) was
moves_hold (act.Turns said) old new h last was =
    hold old new last (turn_is_calm old.controller new.controller said h.turns) (ap (λ (m : MachineState). m.incoming) h.rest) (ap (λ (m : MachineState). m.taken) h.rest) was
moves_hold (act.Does said) old new h last was = let d = does_by said old new h.does in hold old new last (same_calm old.controller new.controller d.0) d.1 d.2 was
moves_hold (act.Wants read) old new h last was =
    hold old new last (same_calm old.controller new.controller (ap (λ (m : MachineState). m.controller) h.rest)) (ap (λ (m : MachineState). m.incoming) h.rest) (ap (λ (m : MachineState). m.taken) h.rest) was
moves_hold (act.Gathers dev answer) old new h last was =
    let same : Beside (with_controller (with_gathering old h.place None) new.controller) new = goes_by answer h.gathering (with_controller (with_gathering old h.place None) new.controller) new h.gathers.goes in
    hold old new last (gather_is_calm (is_fed old.controller.wants dev h.gathering.feed.number) dev old.controller new.controller answer h.gathers.gathers) (ap (λ i. i.3) same) (ap (λ i. i.4) same) was
moves_hold (act.Misses slot answer) old new h last was =
    hold old new last (not_there_is_calm (is_fed old.controller.wants h.gathering.feed.dev h.gathering.feed.number) h.gathering.feed.dev old.controller new.controller answer h.misses.misses)
    (ap (λ (m : MachineState). m.incoming) h.misses.rest) (ap (λ (m : MachineState). m.taken) h.misses.rest) was
moves_hold act.Rises old new h last was =
    empty_same old new last (ap (λ (m : MachineState). m.controller) h.rest) (not_here (is_framed old.controller) (λ here. nobody old.incoming last h.none (was.frame here))) was
moves_hold (act.Takes took) old new h last was = record {
  silent = take_silent h.frame.bytes took old.controller new.controller h.free h.hears;
  taken = λ here. ap (λ (m : MachineState). m.taken) h.rest;
  frame = λ here. subst (λ (o : Option Stamped). MatchOption o ⊥ (λ f. Some h.frame.bytes ≡ Some f.bytes)) (sym (ap (λ (m : MachineState). m.incoming) h.rest ∙ h.on)) refl;
}
moves_hold (act.Loses why) old new h last was =
    subst (HoldsFrame new) (sym (lost_last old.incoming why last))
    (empty_same old new last (ap (λ (m : MachineState). m.controller) h.rest) (not_here (is_framed old.controller) (λ here. false≢true (sym h.once ∙ was.taken here))) was)
moves_hold other old new h last was = beside_holds old new last (ap inner h.rest) was

-- ---- calls

supplies_hold : (w : Wanted) (bytes : List ℕ) (old new : MachineState) (answer : Result Told AllocError) (h : SuppliesMachine w bytes old answer new) (last : Option (List ℕ)) → HoldsFrame old last
    → HoldsFrame new (last_taken last (supply_calls w bytes old answer new h))
supplies_hold (Command slot number) bytes old new answer h last was =
    hold old new last (supply_is_calm (fits old.controller slot number bytes) slot bytes old.controller new.controller h.answer h.rule) (ap (λ (m : MachineState). m.incoming) h.rest) (ap (λ (m : MachineState). m.taken) h.rest) was
supplies_hold (Data dev number done) bytes old new (Ok it) h last was =
    by_bool (HoldsFrame new last) (MatchOption (gathering_at old dev) (IsStale old it new) (λ g. SuppliesData g dev number done bytes old it new)) (IsStale old it new) (nat_lt dev 16) h
    (λ low some. by_option GatheringState (HoldsFrame new last) (IsStale old it new) (λ g. SuppliesData g dev number done bytes old it new) (gathering_at old dev) some
    (λ none is. subst (λ (m : MachineState). HoldsFrame m last) (sym is.1) was)
    (λ g there s. hold old new last (same_calm old.controller new.controller (ap (λ (m : MachineState). m.controller) s.rest)) (ap (λ (m : MachineState). m.incoming) s.rest) (ap (λ (m : MachineState). m.taken) s.rest) was))
    (λ high is. subst (λ (m : MachineState). HoldsFrame m last) (sym is.1) was)
supplies_hold (Data dev number done) bytes old new (Err e) h last was = absurd h

data_hold : (wanted : Bool) (there : Option GatheringState) (dev : ℕ) (old : MachineState) (it : Told) (new : MachineState)
    (h : MatchBool wanted (MatchOption there ⊥ (λ g. MissesFor g dev old it new)) (IsStale old it new)) (last : Option (List ℕ)) → HoldsFrame old last → HoldsFrame new (last_taken last (data_calls wanted there dev old it new h))
data_hold true None dev old it new h last was = absurd h
data_hold true (Some g) dev old it new h last was =
    hold old new last (not_there_is_calm (is_fed old.controller.wants g.feed.dev g.feed.number) g.feed.dev old.controller new.controller h.answer h.misses.misses)
    (ap (λ (m : MachineState). m.incoming) h.misses.rest) (ap (λ (m : MachineState). m.taken) h.misses.rest) was
data_hold false there dev old it new h last was = subst (λ (m : MachineState). HoldsFrame m last) (sym h.1) was

misses_hold : (w : Wanted) (old new : MachineState) (answer : Result Told AllocError) (h : MissesMachine w old answer new) (last : Option (List ℕ)) → HoldsFrame old last → HoldsFrame new (last_taken last (miss_calls w old answer new h))
misses_hold (Command slot number) old new answer h last was =
    hold old new last (miss_is_calm (is_asked old.controller.wants slot number) slot old.controller new.controller h.answer h.rule) (ap (λ (m : MachineState). m.incoming) h.rest) (ap (λ (m : MachineState). m.taken) h.rest) was
misses_hold (Data dev number done) old new (Ok it) h last was = data_hold (is_wanted old dev number done) (gathering_at old dev) dev old it new h last was
misses_hold (Data dev number done) old new (Err e) h last was = absurd h

wrote_holds : (stays : Bool) (old new : MachineState) (written : WideWritten) (message : Bool) → link_stays written ≡ stays → IsWrite written old.controller new.controller
    → new ≡ (if stays then record old { controller = new.controller; message = message } else renewed (record old { controller = new.controller; message = message }))
    → (last : Option (List ℕ)) → HoldsFrame old last → HoldsFrame new last
wrote_holds true old new written message is w rest last was = record {
  silent = w.silent was.silent;
  taken = λ here. ap (λ (m : MachineState). m.taken) rest ∙ was.taken (w.writes here);
  frame = λ here. subst (λ (o : Option Stamped). MatchOption o ⊥ (λ f. last ≡ Some f.bytes)) (sym (ap (λ (m : MachineState). m.incoming) rest)) (was.frame (w.writes here));
}
wrote_holds false old new written message is w rest last was = empty_holds new last (w.silent was.silent) (w.none is was.silent)

same_machine : (old m : MachineState) (first : Bool) (turn : ℕ) (last : Option (List ℕ)) → HoldsFrame m last → HoldsFrame (acts.turned m first turn) last
same_machine old m first turn last h = record { silent = h.silent; taken = h.taken; frame = h.frame }

-- what was taken is there as power comes
taken_stays : (taken : Bool) (frame : Option Stamped) → taken ≡ true → (if taken then frame else None) ≡ frame
taken_stays true frame h = refl
taken_stays false frame h = absurd (false≢true h)

powered_holds : (old : MachineState) (last : Option (List ℕ)) → HoldsFrame old last → HoldsFrame (powered old) last
powered_holds old last was = record {
  silent = was.silent;
  taken = was.taken;
  frame = λ here. subst (λ (o : Option Stamped). MatchOption o ⊥ (λ f. last ≡ Some f.bytes)) (sym (taken_stays old.taken old.incoming (was.taken here))) (was.frame here);
}

deed_holds : (deed : Deed) (old new : MachineState) (does : Does old deed new) → (last : Option (List ℕ)) → HoldsFrame old last → HoldsFrame new (last_taken last (deed_calls old deed new does))
deed_holds (Moved a) old new h last was =
    subst (λ (m : MachineState). HoldsFrame m (last_taken last (move_calls old a h.middle h.does))) (sym h.turns)
    (same_machine old h.middle new.first new.turn (last_taken last (move_calls old a h.middle h.does)) (moves_hold a old h.middle h.does last was))
deed_holds Unlent old new h last was = beside_holds old new last (ap inner h) was
deed_holds (Wrote offset width value written) old new h last was =
    wrote_holds (link_stays written) old new written (old.message || message_of written) refl (wide (fits_width width offset) offset width value old.controller new.controller written h.writes) h.rest last was
deed_holds Powered old new h last was = subst (λ (m : MachineState). HoldsFrame m last) (sym h) (powered_holds old last was)
deed_holds (Supplied w bytes) old new h last was = supplies_hold w bytes old new h.answer h.supplies last was
deed_holds (Missed w) old new h last was = misses_hold w old new h.answer h.misses last was
deed_holds (Answered id a told) old new h last was = beside_holds old new last (beside.answered id a old new told h) was
deed_holds (Put n unit told) old new h last was = beside_holds old new last (beside.put n unit old new told h) was
deed_holds (Plugged n told) old new h last was = beside_holds old new last (beside.plugged n old new told h) was
deed_holds (Pulled n told) old new h last was = beside_holds old new last (beside.pulled n old new told h) was
deed_holds (Removed n told) old new h last was = beside_holds old new last (beside.taken n h.pulled new told h.takes ∙ beside.pulled n old h.pulled h.answer h.pulls) was
deed_holds (FrameTaken n told) old new h last was = beside_holds old new last (beside.frame_by (is_own (bay_at old n).unit) old new n (taken_bay (bay_at old n)) h.rest) was
deed_holds (FrameOffered n frame told) old new h last was = beside_holds old new last (ap inner h.rest) was

-- ---- runs

last_both : (es fs : List Event) (last : Option (List ℕ)) → last_taken last (es ++ fs) ≡ last_taken (last_taken last es) fs
last_both [] fs last = refl
last_both (call.Wrote offset value written ∷ es) fs last = last_both es fs last
last_both (call.WroteWide offset width value written ∷ es) fs last = last_both es fs last
last_both (call.Supplied slot number bytes supply ∷ es) fs last = last_both es fs last
last_both (call.Missed slot number supply ∷ es) fs last = last_both es fs last
last_both (call.Took frame took ∷ es) fs last = last_both es fs (Some frame)
last_both (call.Left frame why ∷ es) fs last = last_both es fs last
last_both (call.Turned said ∷ es) fs last = last_both es fs last
last_both (call.Said write ∷ es) fs last = last_both es fs last
last_both (call.Gathered dev number frame fed ∷ es) fs last = last_both es fs last
last_both (call.NotThere dev number fed ∷ es) fs last = last_both es fs last

pub held : FramesAreHeld
held old [] new run last was = subst (λ (m : MachineState). HoldsFrame m last) (sym run.1) was
held old (deed ∷ later) new run last was =
    let next : MachineState = run.1.0 in
    subst (HoldsFrame new) (sym (last_both (deed_calls old deed next run.1.1) (calls_in next later new run.1.2) last))
    (held next later new run.1.2 (last_taken last (deed_calls old deed next run.1.1)) (deed_holds deed old next run.1.1 last was))

pub opens_holding : OpensHolding
opens_holding ports legacy m h =
    let none : is_framed m.controller ≡ false = ap is_framed_by h.controller.writes in
    empty_holds m None (λ down. none) none

-- ---- what is lent

bytes_of : (incoming : Option Stamped) (last : Option (List ℕ)) (from len : ℕ) (lent : List ℕ) → lent ≡ lent_of incoming from len → MatchOption incoming ⊥ (λ f. last ≡ Some f.bytes) → MatchOption last ⊥ (λ frame. lent ≡ part_of frame from len)
bytes_of None last from len lent is h = absurd h
bytes_of (Some f) last from len lent is h = subst (λ (o : Option (List ℕ)). MatchOption o ⊥ (λ frame. lent ≡ part_of frame from len)) (sym h) is

some_there : {A : Type 0} (o : Option A) (x : A) → o ≡ Some x → is_some o ≡ true
some_there o x is = ap is_some is

or_first : (a b : Bool) → a ≡ true → (a || b) ≡ true
or_first true b h = refl
or_first false b h = absurd (false≢true h)

or_second : (a b : Bool) → b ≡ true → (a || b) ≡ true
or_second true b h = refl
or_second false b h = h

lends : (old : MachineState) (write : Next) (new : MachineState) → Does old (Moved (act.Writes write)) new → places.IsWritten old.controller write → (last : Option (List ℕ)) → HoldsFrame old last → Lends write last (lent_bytes new)
lends old (next.Payload m) new h placed last was =
    bytes_of old.incoming last m.from m.len (lent_bytes new) (ap lent_bytes h.turns ∙ ap lent_bytes h.does.rest)
    (was.frame (or_first (is_some old.controller.writes.payload) (is_some old.controller.writes.posted) (some_there old.controller.writes.payload placed.carried placed.is)))
lends old (next.Posted m) new h placed last was =
    bytes_of old.incoming last m.from m.len (lent_bytes new) (ap lent_bytes h.turns ∙ ap lent_bytes h.does.rest)
    (was.frame (or_second (is_some old.controller.writes.payload) (is_some old.controller.writes.posted) (some_there old.controller.writes.posted m placed)))
lends old other new h placed last was = tt

pub lent : places.WritesArePlaced → FramesAreLent
lent law old write new h last was = lends old write new h (writes law old write new h).placed last was

-- ---- the frame whose bytes are said

said_of_it : (moves : List Move) (o : Option Carrying) (last : Option (List ℕ)) → IsOf o last → IsOf (said_more moves o) last
said_of_it moves None last h = tt
said_of_it moves (Some d) last h = h

cut_of_it : (stopped : Bool) (o : Option Carrying) (last : Option (List ℕ)) → IsOf o last → IsOf (cut_if stopped o) last
cut_of_it stopped None last h = tt
cut_of_it stopped (Some d) last h = h

wide_of_it : (does_fit : Bool) (offset : ℕ) (width : Width) (value : ℕ) (old new : ControllerState) (w : WideWritten) (h : WritesFitting does_fit old offset width value w new) (o : Option Carrying) (last : Option (List ℕ)) → IsOf o last
    → IsOf (cut_wide does_fit old offset width value w new h o) last
wide_of_it true offset width value old new w h o last is =
    cut_of_it (not new.core.registers.started) (cut_if (not h.middle.core.registers.started) o) last (cut_of_it (not h.middle.core.registers.started) o last is)
wide_of_it false offset width value old new w h o last is = is

kept_of_it : (f : Option Fetched) (frame : List ℕ) (wrote : Brought) → IsOf (match_some f None (λ command. Some (carrying_of frame wrote command))) (Some frame)
kept_of_it None frame wrote = tt
kept_of_it (Some command) frame wrote = refl

took_of_it : (o : Option Brought) (c : ControllerState) (frame : List ℕ) → IsOf (carrying_by c frame o) (Some frame)
took_of_it None c frame = tt
took_of_it (Some wrote) c frame = kept_of_it (kept c wrote.slot) frame wrote

pub carries : CarriesTaken
carries old new [] run was last is = is
carries old new (call.Wrote offset value written ∷ events) run was last is =
    carries run.1.0 new events run.1.2 (cut_if (not run.1.0.core.registers.started) was) last (cut_of_it (not run.1.0.core.registers.started) was last is)
carries old new (call.WroteWide offset width value written ∷ events) run was last is =
    carries run.1.0 new events run.1.2 (cut_wide (fits_width width offset) old offset width value written run.1.0 run.1.1 was) last (wide_of_it (fits_width width offset) offset width value old run.1.0 written run.1.1 was last is)
carries old new (call.Supplied slot number bytes supply ∷ events) run was last is = carries run.1.0 new events run.1.2 was last is
carries old new (call.Missed slot number supply ∷ events) run was last is = carries run.1.0 new events run.1.2 was last is
carries old new (call.Took frame took ∷ events) run was last is = carries run.1.0 new events run.1.2 (carrying_by old frame took.brought) (Some frame) (took_of_it took.brought old frame)
carries old new (call.Left frame why ∷ events) run was last is = carries run.1.0 new events run.1.2 was last is
carries old new (call.Turned said ∷ events) run was last is = carries run.1.0 new events run.1.2 (said_more (moves_in said) was) last (said_of_it (moves_in said) was last is)
carries old new (call.Said write ∷ events) run was last is = carries run.1.0 new events run.1.2 (said_more (moves_said write) was) last (said_of_it (moves_said write) was last is)
carries old new (call.Gathered dev number frame fed ∷ events) run was last is = carries run.1.0 new events run.1.2 was last is
carries old new (call.NotThere dev number fed ∷ events) run was last is = carries run.1.0 new events run.1.2 was last is
