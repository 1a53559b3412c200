-- What each deed does with what is on its way from the controller to the other end of its link.
use Rattle.std.proofs.Common.{◌≡◌, ℕ, ◌+◌, ◌%◌, ◌≤◌, Bool, true, false, List, [], ◌∷◌, ◌++◌, length, set, Option, Some, None, Result, Ok, Err, refl}
use Rattle.std.proofs.{Common.{sym, ap, subst, ◌∙◌, inl, inr, option_to_list, append_assoc, append-nil, not, arith}, lemmas.Bool.{eq-eqb, false≢true}}
use Rattle.std.proofs.lemmas.{Bool.{le-leb}, Grind.{flat_map-append}}
use Rattle.std.specs.Prelude.{◌==◌, ◌&&◌, if◌then◌else◌, is_some, is_none, nat_le, nat_lt, MatchOption, MatchResult, IsOk, OnErr, OnOk}
use Rattle.std.specs.{Bool.MatchBool, Result.IsErrOf, declared.alloc.AllocError.AllocError}
use Rattle.fis_view.specs.Frames.{Stamped, is_frame}
use Rattle.slots.specs.{Data.payload, Slots.{context_of, match_some}}
use Rattle.fan_out.specs.declared.seat.NotThere.{NotThere}
use Rattle.block_engine.specs.declared.request.Answer.{Answer}
use Rattle.sata_disk.specs.State.{DiskState}
use Rattle.port_errors.specs.Errors.{cause_of}
use Rattle.hba_fbs.specs.{Choosing.{MayChoose, may_feed}, Sending.is_due, Taking.is_running, Turning.feeds, Views.Port}
use Rattle.hba_fbs.specs.declared.turn.Turn.TheVariants.{Rests}
use Rattle.ahci_controller.specs.{Feeding.{GathersIf, SendsIf, without_feeding}, Next.{is_fed, turn_to}, States.ControllerState}
use Rattle.ahci_controller.specs.declared.{feeding.Fed.Fed, next.Next.Next, taking.Hindrance.Hindrance}
use Rattle.ahci_controller.specs.declared.feeding.Fed.TheVariants as fed
use Rattle.ahci_controller.specs.declared.next.Next.TheVariants as next
use Rattle.controller_laws.specs.Events as call
use Rattle.controller_laws.specs.Events.{Event}
use Rattle.ahci_machine.specs.Acts as acts
use Rattle.ahci_machine.specs.{Acts.{kept_of, with_controller, with_gathering}, Answers.{AnswersDisk, AnswersMachine, IsStale, MissesFor}}
use Rattle.ahci_machine.specs.{Answers.{MissesMachine, SuppliesData, SuppliesMachine, disk_at, is_own, is_wanted, taken_bay}, Bays.{begun, with_unit}}
use Rattle.ahci_machine.specs.{Gathers.{GatheringState, frame_of, host_stamp}, Ports.{PlugsIn, PlugsMachine, PullsMachine, PullsOut, Puts, TakesUnit}}
use Rattle.ahci_machine.specs.{Ports.{filled, has_bay, is_empty, on_bay}, Registers.{for_host, kept_if, kept_powered, link_stays, renewed}}
use Rattle.ahci_machine.specs.{States.{MachineState, bay_at, gathering_at}, declared.{act.Act.Act, answers.MediumError.MediumError}}
use Rattle.ahci_machine.specs.declared.{answers.{MediumError.TheVariants.OtherDisk, Told.Told}, bay.{Bay.Bay, Unit.Unit as Inside}}
use Rattle.ahci_machine.specs.declared.{bay.Unit.TheVariants.Empty, ports.PortFault.{PortFault, TheVariants.{NoPort, Taken, NotThere as Absent}}}
use Rattle.ahci_machine.specs.declared.request.{MediumId.MediumId, Wanted.{Wanted, TheVariants.{Command, Data}}}
use Rattle.ahci_machine.specs.declared.act.Act.TheVariants as act
use Rattle.machine_laws.proofs.{Cases.{by_bool, by_option}, Due.{stays_due, there_is}}
use Rattle.machine_laws.specs.{ControllerLaws.calls_in, Controllers.{GathersDue, IsGathered, IsLength, data_calls, deed_calls, is_kept_for}}
use Rattle.machine_laws.specs.{Controllers.{lost_calls, miss_calls, move_calls, rest_calls, supply_calls}, Deeds.{Deed, Does, Moved, Unlent, Wrote}}
use Rattle.machine_laws.specs.Deeds.{Powered, Supplied, Missed, Answered, Put, Plugged, Pulled, Removed, FrameTaken, FrameOffered}
use Rattle.machine_laws.specs.Falling.{LinksPassInOrder, ResetsEmptyLinks, arrived, arrives, leaving, ordered, resets, sent_by, sent_in}

-- ---- a move of frames on their way

-- these leave it at its head, and these come behind all others
abbrev Passes : MachineState → MachineState → List Stamped → List Stamped → Type 0
Passes old new out more = out ++ leaving new ≡ leaving old ++ more

abbrev outer : MachineState → Option Stamped × Option Next
outer m = (m.outgoing, m.kept)

abbrev Keeps : MachineState → MachineState → Type 0
Keeps old new = outer new ≡ outer old

still : (old new : MachineState) → Keeps old new → Passes old new [] []
still old new is = ap (λ (p : Option Stamped × Option Next). option_to_list p.0 ++ ordered p.1) is ∙ sym (append-nil (leaving old))

none_more : (old new : MachineState) (more : List Stamped) → more ≡ [] → Keeps old new → Passes old new [] more
none_more old new more is same = subst (Passes old new []) (sym is) (still old new same)

-- what was kept is done, and was no FIS of a command
dropped : (old new : MachineState) (said : Next) → old.kept ≡ Some said → ordered (Some said) ≡ [] → outer new ≡ (old.outgoing, None) → Passes old new [] []
dropped old new said kept none is =
    ap (λ (p : Option Stamped × Option Next). option_to_list p.0 ++ ordered p.1) is
    ∙ sym (append-nil (leaving old)
    ∙ ap (λ (k : Option Next). option_to_list old.outgoing ++ ordered k) kept
    ∙ ap (λ (l : List Stamped). option_to_list old.outgoing ++ l) none)

-- ---- a Data FIS that goes has the length of one

framed_len : (count : ℕ) (bytes : List ℕ) → length bytes ≡ 4 + count → count ≤ 8192 → count % 4 ≡ 0 → is_frame bytes ≡ true
framed_len count bytes long few dwords =
    ap (λ (k : ℕ). nat_le 4 k && nat_le k 8196 && (k % 4 == 0)) long
    ∙ ap (λ (b : Bool). b && nat_le (4 + count) 8196 && ((4 + count) % 4 == 0)) (le-leb 4 (4 + count) (omega arith))
    ∙ ap (λ (b : Bool). b && ((4 + count) % 4 == 0)) (le-leb (4 + count) 8196 (omega (arith, few)))
    ∙ eq-eqb ((4 + count) % 4) 0 (omega (arith, dwords))

framed_by : (p : Option (ℕ × ℕ × ℕ)) (dev : ℕ) (core : Port) (bytes : List ℕ) (count : ℕ) → length bytes ≡ 4 + count → IsLength (match_some p Rests (feeds dev)) count
    → MayChoose core (match_some p Rests (feeds dev)) → is_some p ≡ true → is_frame bytes ≡ true
framed_by None dev core bytes count long is may some = absurd (false≢true some)
framed_by (Some x) dev core bytes count long is may some =
    framed_len count bytes long (subst (λ (k : ℕ). k ≤ 8192) (sym is) may.1.few) (ap (λ (k : ℕ). k % 4) is ∙ may.1.dwords)

and_second : (a b : Bool) → (a && b) ≡ true → b ≡ true
and_second true b h = h
and_second false b h = absurd (false≢true h)

and_first : (a b : Bool) → (a && b) ≡ true → a ≡ true
and_first true b h = refl
and_first false b h = absurd (false≢true h)

abbrev does_go : Fed → Type 0
does_go (fed.Goes message line) = Unit {0}
does_go other = ⊥

sends_framed : (due : Bool) (c d : ControllerState) (dev count : ℕ) (bytes : List ℕ) (answer : Fed) → does_go answer → may_feed c.core dev ≡ due → SendsIf due c dev answer d
    → length bytes ≡ 4 + count → IsLength (turn_to c dev) count → is_frame bytes ≡ true
sends_framed true c d dev count bytes answer goes due h long is =
    framed_by (payload (context_of c.core.slots dev)) dev c.core bytes count long is h.may
    (and_first (is_some (payload (context_of c.core.slots dev))) (is_none (cause_of c.core.errors dev))
    (and_second (is_running c.core) (is_due c.core.slots c.core.errors dev) due))
sends_framed false c d dev count bytes answer goes due h long is = absurd (subst does_go h.1 goes)

gathers_framed : (out : Bool) (c d : ControllerState) (dev number count : ℕ) (bytes : List ℕ) (answer : Fed) → does_go answer → is_fed c.wants dev number ≡ out → GathersIf out c dev answer d
    → length bytes ≡ 4 + count → (is_fed c.wants dev number ≡ true → IsLength (turn_to c dev) count) → is_frame bytes ≡ true
gathers_framed true c d dev number count bytes answer goes out h long is =
    sends_framed (may_feed c.core dev) (without_feeding c dev) d dev count bytes answer goes refl h long (is out)
gathers_framed false c d dev number count bytes answer goes out h long is = absurd (subst does_go h.1 goes)

-- ---- moves

frame_when : (g : GatheringState) → is_frame g.bytes ≡ true → frame_of g ≡ Some (record { bytes = g.bytes; stamp = host_stamp g.feed.dev })
frame_when g is = ap (λ (b : Bool). if b then Some (record { bytes = g.bytes; stamp = host_stamp g.feed.dev }) else None) is

-- one is put where nothing is
alone : (old new : MachineState) (frame : Stamped) → old.outgoing ≡ None → old.kept ≡ None → new.outgoing ≡ Some frame → new.kept ≡ old.kept → Passes old new [] (frame ∷ [])
alone old new frame free done is kept =
    ap (λ (o : Option Stamped). option_to_list o ++ ordered new.kept) is
    ∙ ap (λ (k : Option Next). frame ∷ ordered k) (kept ∙ done)
    ∙ sym (ap (λ (o : Option Stamped). (option_to_list o ++ ordered old.kept) ++ frame ∷ []) free
    ∙ ap (λ (k : Option Next). ordered k ++ frame ∷ []) done)

gathers_to : (answer : Fed) (old new : MachineState) (dev : ℕ) (h : acts.GathersNext dev answer old new) → GathersDue old
    → acts.GoesBy answer h.gathering (with_controller (with_gathering old h.place None) new.controller) new
    → Passes old new [] (sent_by (call.Gathered dev h.gathering.feed.number h.gathering.bytes answer))
gathers_to (fed.Goes message line) old new dev h due goes =
    let g : GatheringState = h.gathering in
    let is : IsGathered old.controller old.kept h.place g = there_is old h.place g h.there due in
    let here : h.place ≡ dev = sym is.own ∙ sym h.gathers.is in
    let counts : is_fed old.controller.wants dev g.feed.number ≡ true → IsLength (turn_to old.controller dev) g.feed.len =
    subst (λ (q : ℕ). is_fed old.controller.wants q g.feed.number ≡ true → IsLength (turn_to old.controller q) g.feed.len) here (is.due (ap (is_kept_for h.place) h.done)) in
    let whole : is_frame g.bytes ≡ true =
    gathers_framed (is_fed old.controller.wants dev g.feed.number) old.controller new.controller dev g.feed.number g.feed.len g.bytes (fed.Goes message line) tt refl
    h.gathers.gathers is.whole counts in
    alone old new (record { bytes = g.bytes; stamp = host_stamp dev }) h.free h.done
    (ap (λ (m : MachineState). m.outgoing) goes ∙ frame_when g whole ∙ ap (λ (k : ℕ). Some (record { bytes = g.bytes; stamp = host_stamp k })) (sym h.gathers.is))
    (ap (λ (m : MachineState). m.kept) goes)
gathers_to other old new dev h due goes = still old new (ap outer goes)

-- what it says to do next
turned : (said : Next) (old new : MachineState) → old.kept ≡ None → outer new ≡ (old.outgoing, kept_of said) → Passes old new [] (sent_by (call.Turned said))
turned said old new none is =
    ap (λ (p : Option Stamped × Option Next). option_to_list p.0 ++ ordered p.1) is
    ∙ by said
    ∙ ap (λ (l : List Stamped). l ++ sent_by (call.Turned said)) (sym (append-nil (option_to_list old.outgoing)))
    ∙ ap (λ (k : Option Next). (option_to_list old.outgoing ++ ordered k) ++ sent_by (call.Turned said)) (sym none)
  where
    by : (n : Next) → option_to_list old.outgoing ++ ordered (kept_of n) ≡ option_to_list old.outgoing ++ sent_by (call.Turned n)
    by (next.Order dev slot fis) = refl
    by other = refl

-- the same machine, but for what is kept and what is on the link
does : (said : Next) (old new : MachineState) → old.kept ≡ Some said → acts.DoesBy said old new → Passes old new [] []
does (next.Order dev slot fis) old new kept h =
    ap (λ (p : Option Stamped × Option Next). option_to_list p.0 ++ ordered p.1) (ap outer h.1)
    ∙ sym (ap (λ (o : Option Stamped). (option_to_list o ++ ordered old.kept) ++ []) h.0 ∙ ap (λ (k : Option Next). ordered k ++ []) kept)
does (next.Feed dev number slot offset len) old new kept h = dropped old new (next.Feed dev number slot offset len) kept refl (ap outer h)
does (next.Payload x) old new kept h = dropped old new (next.Payload x) kept refl (ap outer h)
does (next.Posted x) old new kept h = dropped old new (next.Posted x) kept refl (ap outer h)
does (next.Counted c) old new kept h = dropped old new (next.Counted c) kept refl (ap outer h)
does next.Nothing old new kept h = dropped old new next.Nothing kept refl (ap outer h)
does (next.Read ask) old new kept h = dropped old new (next.Read ask) kept refl (ap outer h)

rests : (old new : MachineState) (h : acts.RestsNow old new) → Passes old new [] (sent_in (rest_calls old new h))
rests old new (inl is) = still old new (ap outer is)
rests old new (inr turns) = turned next.Nothing old new turns.none (ap outer turns.rest)

sends : (old new : MachineState) (frame : Stamped) → old.outgoing ≡ Some frame → outer new ≡ (None, old.kept) → Passes old new (option_to_list old.outgoing) []
sends old new frame on is =
    ap (λ (p : Option Stamped × Option Next). option_to_list old.outgoing ++ (option_to_list p.0 ++ ordered p.1)) is
    ∙ sym (append-nil (leaving old))

lost_none : (o : Option Stamped) (why : Hindrance) → sent_in (lost_calls o why) ≡ []
lost_none None why = refl
lost_none (Some f) why = refl

moves : (a : Act) (old new : MachineState) (h : acts.Does old a new) → GathersDue old
    → Passes old new (arrives old (Moved a)) (sent_in (move_calls old a new h))
moves act.Rests old new h due = rests old new h
moves (act.Line b) old new h due = still old new (ap outer h.2)
moves act.Message old new h due = still old new (ap outer h.1)
moves (act.Turns said) old new h due =
    subst (Passes old new []) (sym (append-nil (sent_by (call.Turned said)))) (turned said old new h.none (ap outer h.rest))
moves (act.Does said) old new h due = does said old new h.kept h.does
moves (act.Sends went) old new h due = sends old new h.frame h.on (ap outer h.rest)
moves (act.Gathers dev answer) old new h due =
    subst (Passes old new []) (sym (append-nil (sent_by (call.Gathered dev h.gathering.feed.number h.gathering.bytes answer)))) (gathers_to answer old new dev h due h.gathers.goes)
moves (act.Misses slot answer) old new h due = still old new (ap outer h.misses.rest)
moves (act.Loses why) old new h due = none_more old new (sent_in (lost_calls old.incoming why)) (lost_none old.incoming why) (ap outer h.rest)
moves other old new h due = still old new (ap outer h.rest)

-- ---- calls

wrote_by : (b : Bool) (old m new : MachineState) → b ≡ true → Keeps old m → new ≡ (if b then m else renewed m) → Keeps old new
wrote_by true old m new on kept is = ap outer is ∙ kept
wrote_by false old m new on kept is = absurd (false≢true on)

not_false : (b : Bool) → not b ≡ false → b ≡ true
not_false true h = refl
not_false false h = absurd (false≢true (sym h))

supplied : (w : Wanted) (bytes : List ℕ) (old new : MachineState) (answer : Result Told AllocError) (h : SuppliesMachine w bytes old answer new)
    → Passes old new [] (sent_in (supply_calls w bytes old answer new h))
supplied (Command slot number) bytes old new answer h = still old new (ap outer h.rest)
supplied (Data dev number done) bytes old new (Ok it) h =
    still old new
    (by_bool (Keeps old new)
    (MatchOption (gathering_at old dev) (IsStale old it new) (λ g. SuppliesData g dev number done bytes old it new)) (IsStale old it new) (nat_lt dev 16) h
    (λ low some. by_option GatheringState (Keeps old new) (IsStale old it new) (λ g. SuppliesData g dev number done bytes old it new) (gathering_at old dev) some
    (λ none is. ap outer is.1) (λ g there s. ap outer s.rest))
    (λ high is. ap outer is.1))
supplied (Data dev number done) bytes old new (Err e) h = absurd h

missed_data : (wanted : Bool) (there : Option GatheringState) (dev : ℕ) (old : MachineState) (it : Told) (new : MachineState)
    (h : MatchBool wanted (MatchOption there ⊥ (λ g. MissesFor g dev old it new)) (IsStale old it new)) → Passes old new [] (sent_in (data_calls wanted there dev old it new h))
missed_data true None dev old it new h = absurd h
missed_data true (Some g) dev old it new h = still old new (ap outer h.misses.rest)
missed_data false there dev old it new h = still old new (ap outer h.1)

missed : (w : Wanted) (old new : MachineState) (answer : Result Told AllocError) (h : MissesMachine w old answer new) → Passes old new [] (sent_in (miss_calls w old answer new h))
missed (Command slot number) old new answer h = still old new (ap outer h.rest)
missed (Data dev number done) old new (Ok it) h = missed_data (is_wanted old dev number done) (gathering_at old dev) dev old it new h
missed (Data dev number done) old new (Err e) h = absurd h

answered_told : (told : Result (Unit {0}) MediumError) (old base new : MachineState) → Keeps old base → OnOk told (new ≡ base) → OnErr told (new ≡ old) → Keeps old new
answered_told (Ok x) old base new kept ok err = ap outer ok ∙ kept
answered_told (Err e) old base new kept ok err = ap outer err

answered : (id : MediumId) (a : Answer) (old new : MachineState) (told : Result (Unit {0}) MediumError) → AnswersMachine id a old told new → Keeps old new
answered id a old new told h =
    by_option DiskState (Keeps old new) (IsErrOf told OtherDisk × (new ≡ old)) (λ d. AnswersDisk id a d old told new) (disk_at old id) h
    (λ none is. ap outer is.1) (λ d there s. answered_told told old _ new refl s.ok s.err)

put : (k : ℕ) (unit : Inside) (old new : MachineState) (told : Result (Unit {0}) (Inside × PortFault)) → Puts k unit old told new → Keeps old new
put k unit old new told h =
    by_bool (Keeps old new)
    (MatchBool (is_empty (bay_at old k).unit) (IsOk told × (new ≡ on_bay old k (filled (bay_at old k) unit))) (IsErrOf told (unit, Taken) × (new ≡ old)))
    (IsErrOf told (unit, NoPort) × (new ≡ old)) (has_bay old k) h
    (λ inside there. by_bool (Keeps old new) (IsOk told × (new ≡ on_bay old k (filled (bay_at old k) unit))) (IsErrOf told (unit, Taken) × (new ≡ old)) (is_empty (bay_at old k).unit) there
    (λ empty is. ap outer is.1) (λ full is. ap outer is.1))
    (λ outside is. ap outer is.1)

plugged : (k : ℕ) (old new : MachineState) (told : Result (Unit {0}) PortFault) → PlugsMachine k old told new → Keeps old new
plugged k old new told h =
    by_bool (Keeps old new) (MatchBool (is_empty (bay_at old k).unit) (IsErrOf told Absent × (new ≡ old)) (PlugsIn k old told new)) (IsErrOf told NoPort × (new ≡ old)) (has_bay old k) h
    (λ inside there. by_bool (Keeps old new) (IsErrOf told Absent × (new ≡ old)) (PlugsIn k old told new) (is_empty (bay_at old k).unit) there
    (λ empty is. ap outer is.1) (λ full is. ap outer is.rest))
    (λ outside is. ap outer is.1)

pulled_part : (k : ℕ) (old new : MachineState) (answer : Result (Unit {0}) NotThere)
    → MatchResult answer (λ _. new ≡ record old { fan = new.fan; bays = set old.bays k (begun (bay_at old k)) }) (λ _. new ≡ record old { fan = new.fan })
    → Keeps old new
pulled_part k old new (Ok x) is = ap outer is
pulled_part k old new (Err e) is = ap outer is

pulled : (k : ℕ) (old new : MachineState) (told : Result (Unit {0}) PortFault) → PullsMachine k old told new → Keeps old new
pulled k old new told h =
    by_bool (Keeps old new) (PullsOut k old told new) (IsErrOf told NoPort × (new ≡ old)) (has_bay old k) h
    (λ inside there. pulled_part k old new there.answer there.pulls.rest) (λ outside is. ap outer is.1)

taken : (k : ℕ) (old new : MachineState) (told : Result Inside PortFault) → TakesUnit k old told new → Keeps old new
taken k old new told h =
    by_bool (Keeps old new)
    (MatchBool (is_empty (bay_at old k).unit) (IsErrOf told Absent × (new ≡ on_bay old k (with_unit (bay_at old k) Empty)))
    ((told ≡ Ok (bay_at old k).unit) × (new ≡ on_bay old k (with_unit (bay_at old k) Empty))))
    (IsErrOf told NoPort × (new ≡ old)) (has_bay old k) h
    (λ inside there. by_bool (Keeps old new) (IsErrOf told Absent × (new ≡ on_bay old k (with_unit (bay_at old k) Empty)))
    ((told ≡ Ok (bay_at old k).unit) × (new ≡ on_bay old k (with_unit (bay_at old k) Empty))) (is_empty (bay_at old k).unit) there
    (λ empty is. ap outer is.1) (λ full is. ap outer is.1))
    (λ outside is. ap outer is.1)

frame_by : (own : Bool) (old new : MachineState) (k : ℕ) (b : Bay) → new ≡ (if own then record old { bays = set old.bays k b } else old) → Keeps old new
frame_by true old new k b is = ap outer is
frame_by false old new k b is = ap outer is

-- ---- deeds

deed_passes : (old : MachineState) (deed : Deed) (new : MachineState) (h : Does old deed new) → GathersDue old → resets deed ≡ false
    → Passes old new (arrives old deed) (sent_in (deed_calls old deed new h))
deed_passes old (Moved a) new h due go =
    ap (λ (p : Option Stamped × Option Next). arrives old (Moved a) ++ (option_to_list p.0 ++ ordered p.1)) (ap outer h.turns) ∙ moves a old h.middle h.does due
deed_passes old Unlent new h due go = still old new (ap outer h)
deed_passes old (Wrote offset width value written) new h due go =
    still old new (wrote_by (link_stays written) old _ new (not_false (link_stays written) go) refl h.rest)
deed_passes old Powered new h due go = absurd (false≢true (sym go))
deed_passes old (Supplied w bytes) new h due go = supplied w bytes old new h.answer h.supplies
deed_passes old (Missed w) new h due go = missed w old new h.answer h.misses
deed_passes old (Answered id a told) new h due go = still old new (answered id a old new told h)
deed_passes old (Put k unit told) new h due go = still old new (put k unit old new told h)
deed_passes old (Plugged k told) new h due go = still old new (plugged k old new told h)
deed_passes old (Pulled k told) new h due go = still old new (pulled k old new told h)
deed_passes old (Removed k told) new h due go = still old new (taken k h.pulled new told h.takes ∙ pulled k old h.pulled h.answer h.pulls)
deed_passes old (FrameTaken k told) new h due go = still old new (frame_by (is_own (bay_at old k).unit) old new k (taken_bay (bay_at old k)) h.rest)
deed_passes old (FrameOffered k frame told) new h due go = still old new (ap outer h.rest)

-- ---- runs

pub in_order : LinksPassInOrder
in_order old [] new run due link = ap leaving run.1 ∙ sym (append-nil (leaving old))
in_order old (deed ∷ later) new run due link =
    let middle : MachineState = run.1.0 in
    let e : List Stamped = arrives old deed in
    let es : List Stamped = arrived middle later new run.1.2 in
    let f : List Event = deed_calls old deed middle run.1.1 in
    let fs : List Event = calls_in middle later new run.1.2 in
    append_assoc e es (leaving new)
    ∙ ap (λ (l : List Stamped). e ++ l) (in_order middle later new run.1.2 (stays_due old deed middle run.1.1 due) link.1)
    ∙ sym (append_assoc e (leaving middle) (sent_in fs))
    ∙ ap (λ (l : List Stamped). l ++ sent_in fs) (deed_passes old deed middle run.1.1 due link.0)
    ∙ append_assoc (leaving old) (sent_in f) (sent_in fs)
    ∙ ap (λ (l : List Stamped). leaving old ++ l) (sym (flat_map-append sent_by f fs))

-- ---- a reset

renewed_by : (b : Bool) (m new : MachineState) → b ≡ false → new ≡ (if b then m else renewed m) → leaving new ≡ []
renewed_by true m new off is = absurd (false≢true (sym off))
renewed_by false m new off is = ap leaving is

not_true : (b : Bool) → not b ≡ true → b ≡ false
not_true true h = sym h
not_true false h = refl

-- what stays of what the controller said is no command's FIS
for_host_ordered : (b : Bool) (n : Next) → for_host n ≡ b → ordered (kept_if b n) ≡ []
for_host_ordered false n is = refl
for_host_ordered true (next.Order dev slot fis) is = absurd (false≢true is)
for_host_ordered true (next.Feed dev number slot offset len) is = refl
for_host_ordered true (next.Payload m) is = refl
for_host_ordered true (next.Posted m) is = refl
for_host_ordered true (next.Counted c) is = refl
for_host_ordered true (next.Read ask) is = refl
for_host_ordered true next.Nothing is = refl

none_ordered : (kept : Option Next) → ordered (kept_powered kept) ≡ []
none_ordered None = refl
none_ordered (Some n) = for_host_ordered (for_host n) n refl

pub emptied : ResetsEmptyLinks
emptied old (Wrote offset width value written) new h is = renewed_by (link_stays written) _ new (not_true (link_stays written) is) h.rest
emptied old Powered new h is = ap leaving h ∙ none_ordered old.kept
emptied old other new h is = absurd (false≢true is)
