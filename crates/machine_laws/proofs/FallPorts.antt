-- What each deed does with what is on its way to the device at a port.
use Rattle.std.proofs.Common.{◌≡◌, ℕ, Bool, true, false, List, [], ◌∷◌, ◌++◌, length, get_or, set, Option, Some, None, Result, Ok, Err, refl, sym, ap}
use Rattle.std.proofs.{Common.{subst, ◌∙◌, inl, inr, option_to_list, append_assoc, append-nil, map, not, zero, suc}, lemmas.Bool.{eqb-true}}
use Rattle.std.proofs.lemmas.{Bool.{false≢true, ltb-false}, List.get_or_past}
use Rattle.std.specs.{Prelude.{◌==◌, if◌then◌else◌, nat_lt, MatchOption, MatchResult, IsOk, OnErr, OnOk}, Bool.MatchBool, Result.IsErrOf}
use Rattle.std.specs.declared.alloc.AllocError.{AllocError}
use Rattle.fis_view.specs.Frames.{Stamped}
use Rattle.multiplier.specs.{State.falling, declared.multiplier.Passed.Passed}
use Rattle.pm_ports.specs.declared.port.Offered.{Offered, TheVariants.Held}
use Rattle.fan_out.specs.{FanOuts.{Offers, Pulls}, declared.{fan_out.FanOut.FanOut, seat.NotThere.NotThere}}
use Rattle.block_engine.specs.declared.request.Answer.{Answer}
use Rattle.ahci_controller.specs.declared.{feeding.Fed.Fed, next.Next.Next}
use Rattle.ahci_controller.specs.declared.feeding.Fed.TheVariants as fed
use Rattle.ahci_controller.specs.declared.next.Next.TheVariants as next
use Rattle.sata_disk.specs.State.{DiskState}
use Rattle.ahci_machine.specs.Acts as acts
use Rattle.ahci_machine.specs.{Acts.{with_controller, with_gathering}, Answers.{AnswersDisk, AnswersMachine, IsStale, MissesFor, MissesMachine}}
use Rattle.ahci_machine.specs.{Answers.{SuppliesData, SuppliesMachine, disk_at, given_in, is_own, is_wanted, taken_bay}, Bays.{begun, with_unit}}
use Rattle.ahci_machine.specs.{Gathers.GatheringState, Ports.{PlugsIn, PlugsMachine, PullsMachine, PullsOut, Puts, TakesUnit, filled, has_bay}}
use Rattle.ahci_machine.specs.{Ports.{is_empty, on_bay}, Registers.{link_stays, renewed}, States.{MachineState, bay_at, empty_bay, gathering_at}}
use Rattle.ahci_machine.specs.declared.{act.Act.Act, answers.{MediumError.{MediumError, TheVariants.OtherDisk}, Told.Told}, bay.Bay.Bay}
use Rattle.ahci_machine.specs.declared.{bay.Unit.{Unit as Inside, TheVariants.{Empty, Own, Disk}}, ports.PortFault.{PortFault, TheVariants.NoPort}}
use Rattle.ahci_machine.specs.declared.{ports.PortFault.TheVariants.{Taken, NotThere as Absent}, request.{MediumId.MediumId, Wanted.Wanted}}
use Rattle.ahci_machine.specs.declared.request.Wanted.TheVariants.{Command, Data}
use Rattle.ahci_machine.specs.declared.act.Act.TheVariants as act
use Rattle.machine_laws.proofs.Apart as others
use Rattle.machine_laws.proofs.{Apart.moved, Cases.{by_bool, by_option, other_bay, this_bay}, FallFans.{FellTo, GoesDown, Waits}}
use Rattle.machine_laws.proofs.FallFans as fans
use Rattle.machine_laws.specs.Deeds.{Deed, Does, Moved, Unlent, Wrote, Powered, Supplied, Missed, Answered, Put, Plugged, Pulled, Removed, FrameTaken}
use Rattle.machine_laws.specs.{Deeds.FrameOffered, Falling.{Lasts, PortsPassInOrder, begins, connection_at, ended, ends, falls, fell, is_down_to}}
use Rattle.machine_laws.specs.{Falling.{reached_at, waits_down, way_to}, Ports.is_at}

-- ---- a move of frames on their way to a device

-- these leave it at its head, and these come behind all others
abbrev pub Passes : MachineState → MachineState → ℕ → List Stamped → List Stamped → Type 0
Passes old new n out more = out ++ way_to new n ≡ way_to old n ++ more

abbrev pub DownOf : MachineState → ℕ → Option Stamped
DownOf m n = (bay_at m n).down

-- nothing moves
still : (old new : MachineState) (n : ℕ) → DownOf new n ≡ DownOf old n → Waits old.fan new.fan n → Passes old new n [] []
still old new n bay fan =
    ap (λ (o : Option Stamped). option_to_list o ++ option_to_list (waits_down new.fan n)) bay
    ∙ ap (λ (o : Option Stamped). option_to_list (DownOf old n) ++ option_to_list o) fan
    ∙ sym (append-nil (way_to old n))

-- with another machine that has the same on its way
with_new : (old m new : MachineState) (n : ℕ) (out more : List Stamped) → new.bays ≡ m.bays → new.fan ≡ m.fan → Passes old m n out more → Passes old new n out more
with_new old m new n out more bays fan is =
    ap (λ (l : List Bay). out ++ (option_to_list (get_or l n empty_bay).down ++ option_to_list (waits_down new.fan n))) bays
    ∙ ap (λ (f : FanOut). out ++ (option_to_list (DownOf m n) ++ option_to_list (waits_down f n))) fan ∙ is

-- one leaves the head
heads : (old new : MachineState) (n : ℕ) → DownOf new n ≡ None → Waits old.fan new.fan n → Passes old new n (option_to_list (DownOf old n)) []
heads old new n none fan =
    ap (λ (o : Option Stamped). option_to_list (DownOf old n) ++ (option_to_list o ++ option_to_list (waits_down new.fan n))) none
    ∙ ap (λ (o : Option Stamped). option_to_list (DownOf old n) ++ option_to_list o) fan
    ∙ sym (append-nil (way_to old n))

-- the one that waits is given to the device
given : (old new : MachineState) (n : ℕ) (frame : Stamped) → DownOf old n ≡ None → DownOf new n ≡ Some frame → waits_down old.fan n ≡ Some frame
    → waits_down new.fan n ≡ None → Passes old new n [] []
given old new n frame none is was now =
    ap (λ (o : Option Stamped). option_to_list o ++ option_to_list (waits_down new.fan n)) is
    ∙ ap (λ (o : Option Stamped). frame ∷ option_to_list o) now
    ∙ sym (ap (λ (o : Option Stamped). option_to_list o ++ option_to_list (waits_down old.fan n) ++ []) none
    ∙ ap (λ (o : Option Stamped). option_to_list o ++ []) was)

-- one comes behind what waits
comes : (old new : MachineState) (n : ℕ) (more : List Stamped) → DownOf new n ≡ DownOf old n
    → option_to_list (waits_down new.fan n) ≡ option_to_list (waits_down old.fan n) ++ more → Passes old new n [] more
comes old new n more bay fan =
    ap (λ (o : Option Stamped). option_to_list o ++ option_to_list (waits_down new.fan n)) bay
    ∙ ap (λ (l : List Stamped). option_to_list (DownOf old n) ++ l) fan
    ∙ sym (append_assoc (option_to_list (DownOf old n)) (option_to_list (waits_down old.fan n)) more)

fan_same : (old new : MachineState) (n : ℕ) → new.fan ≡ old.fan → Waits old.fan new.fan n
fan_same old new n is = ap (λ (f : FanOut). waits_down f n) is

-- ---- at this port, or at another

-- what a deed of a port leaves of the way there, and of that to another
abbrev Only : Bool → List Stamped → List Stamped
Only b out = if b then out else []

only_by : (b : Bool) (k n : ℕ) (old new : MachineState) (out : ℕ → List Stamped) → (k == n) ≡ b
    → Passes old new k (out k) [] → ((k == n) ≡ false → DownOf new n ≡ DownOf old n) → Waits old.fan new.fan n
    → Passes old new n (Only b (out n)) []
only_by true k n old new out is here there fan = subst (λ (j : ℕ). Passes old new j (out j) []) (eqb-true k n is) here
only_by false k n old new out is here there fan = still old new n (there is) fan

-- what is at a port, changed or not, where what it was given stays
kept_by : (b : Bool) (k n : ℕ) (old new : MachineState) → (k == n) ≡ b → DownOf new k ≡ DownOf old k
    → ((k == n) ≡ false → DownOf new n ≡ DownOf old n) → DownOf new n ≡ DownOf old n
kept_by true k n old new is here there = subst (λ (j : ℕ). DownOf new j ≡ DownOf old j) (eqb-true k n is) here
kept_by false k n old new is here there = there is

abbrev pub down_in : List Bay → ℕ → Option Stamped
down_in l n = (get_or l n empty_bay).down

-- a bay is changed, and what it was given stays
set_kept : (l : List Bay) (k n : ℕ) (b : Bay) → b.down ≡ down_in l k → down_in (set l k b) n ≡ down_in l n
set_kept [] k n b h = refl
set_kept (a ∷ l) zero zero b h = h
set_kept (a ∷ l) zero (suc n) b h = refl
set_kept (a ∷ l) (suc k) zero b h = refl
set_kept (a ∷ l) (suc k) (suc n) b h = set_kept l k n b h

bays_kept : (old new : MachineState) (k n : ℕ) (b : Bay) → b.down ≡ DownOf old k → new.bays ≡ set old.bays k b → DownOf new n ≡ DownOf old n
bays_kept old new k n b same is = ap (λ (l : List Bay). down_in l n) is ∙ set_kept old.bays k n b same

bays_same : (old new : MachineState) (n : ℕ) → new.bays ≡ old.bays → DownOf new n ≡ DownOf old n
bays_same old new n is = ap (λ (l : List Bay). down_in l n) is

off_bay : (old new : MachineState) (n : ℕ) → bay_at new n ≡ bay_at old n → DownOf new n ≡ DownOf old n
off_bay old new n is = ap (λ (b : Bay). b.down) is

-- ---- moves

quiet : (a : Act) (old new : MachineState) (n : ℕ) → acts.Does old a new → is_at (Moved a) n ≡ false → Waits old.fan new.fan n → Passes old new n [] []
quiet a old new n h off fan = still old new n (off_bay old new n (moved a old new n h off)) fan

does_fan : (said : Next) (old new : MachineState) → acts.DoesBy said old new → new.fan ≡ old.fan
does_fan (next.Order dev slot fis) old new h = ap (λ (m : MachineState). m.fan) h.1
does_fan other old new h = ap (λ (m : MachineState). m.fan) h

goes_fan : (answer : Fed) (g : GatheringState) (base new : MachineState) → acts.GoesBy answer g base new → new.fan ≡ base.fan
goes_fan (fed.Goes message line) g base new h = ap (λ (m : MachineState). m.fan) h
goes_fan other g base new h = ap (λ (m : MachineState). m.fan) h

rests_fan : (old new : MachineState) → acts.RestsNow old new → new.fan ≡ old.fan
rests_fan old new (inl h) = ap (λ (m : MachineState). m.fan) h
rests_fan old new (inr h) = ap (λ (m : MachineState). m.fan) h.rest

sends : (old new : MachineState) (went : Passed) (n : ℕ) → acts.SendsNext went old new → connection_at new.fan n ≡ connection_at old.fan n
    → Passes old new n [] (falls old (Moved (act.Sends went)) n)
sends old new went n h same =
    comes old new n (falls old (Moved (act.Sends went)) n) (bays_same old new n (ap (λ (m : MachineState). m.bays) h.rest))
    (fans.sends_down old.fan h.frame went new.fan h.sends n same
    ∙ ap (λ (o : Option Stamped). option_to_list (waits_down old.fan n) ++ (if is_down_to went n then map (falling (reached_at old.fan n)) (option_to_list o) else [])) (sym h.on))

falls_by : (b : Bool) (k n : ℕ) (old new : MachineState) → (k == n) ≡ b → acts.ServesNext k (act.Falls k) old new → Passes old new n [] []
falls_by true k n old new is h =
    let f = h.does.1 in
    let down : GoesDown old.fan new.fan k f.frame = fans.gives_down old.fan k f.frame new.fan f.gives in
    subst (λ (j : ℕ). Passes old new j [] []) (eqb-true k n is)
    (given old new k f.frame f.none (ap (λ (b : Bay). b.down) f.rest) down.was down.none)
falls_by false k n old new is h =
    let f = h.does.1 in
    let down : GoesDown old.fan new.fan k f.frame = fans.gives_down old.fan k f.frame new.fan f.gives in
    quiet (act.Falls k) old new n h is (down.others n is)

-- the FIS that was given is there no more
leaves : (a : Act) (k n : ℕ) (old new : MachineState) → acts.Does old a new → is_at (Moved a) n ≡ (k == n) → DownOf new k ≡ None → new.fan ≡ old.fan
    → Passes old new n (if k == n then option_to_list (DownOf old n) else []) []
leaves a k n old new h is none fan =
    only_by (k == n) k n old new (λ j. option_to_list (DownOf old j)) refl (heads old new k none (fan_same old new k fan))
    (λ off. off_bay old new n (moved a old new n h (is ∙ off))) (fan_same old new n fan)

-- or it stays
stays : (a : Act) (k n : ℕ) (old new : MachineState) → acts.Does old a new → is_at (Moved a) n ≡ (k == n) → DownOf new k ≡ DownOf old k → Waits old.fan new.fan n
    → Passes old new n [] []
stays a k n old new h is down fan =
    still old new n (kept_by (k == n) k n old new refl down (λ off. off_bay old new n (moved a old new n h (is ∙ off)))) fan

-- the connection has to be the same where a frame goes
abbrev pub NeedsMove : Act → MachineState → MachineState → ℕ → Type 0
NeedsMove (act.Sends went) old new n = connection_at new.fan n ≡ connection_at old.fan n
NeedsMove a old new n = Unit {0}

moves : (a : Act) (old new : MachineState) (n : ℕ) → acts.Does old a new → NeedsMove a old new n → begins (Moved a) n ≡ false
    → Passes old new n (ends old (Moved a) n) (falls old (Moved a) n)
moves act.Rests old new n h same go = quiet act.Rests old new n h refl (fan_same old new n (rests_fan old new h))
moves (act.Writes w) old new n h same go = quiet (act.Writes w) old new n h refl (fan_same old new n (ap (λ (m : MachineState). m.fan) h.rest))
moves act.LetsGo old new n h same go = quiet act.LetsGo old new n h refl (fan_same old new n (ap (λ (m : MachineState). m.fan) h.rest))
moves (act.Line b) old new n h same go = quiet (act.Line b) old new n h refl (fan_same old new n (ap (λ (m : MachineState). m.fan) h.2))
moves act.Message old new n h same go = quiet act.Message old new n h refl (fan_same old new n (ap (λ (m : MachineState). m.fan) h.1))
moves (act.Turns said) old new n h same go = quiet (act.Turns said) old new n h refl (fan_same old new n (ap (λ (m : MachineState). m.fan) h.rest))
moves (act.Does said) old new n h same go = quiet (act.Does said) old new n h refl (fan_same old new n (does_fan said old new h.does))
moves (act.Sends went) old new n h same go = sends old new went n h same
moves (act.Wants read) old new n h same go = quiet (act.Wants read) old new n h refl (fan_same old new n (ap (λ (m : MachineState). m.fan) h.rest))
moves (act.Gathers dev answer) old new n h same go =
    quiet (act.Gathers dev answer) old new n h refl
    (fan_same old new n (goes_fan answer h.gathering (with_controller (with_gathering old h.place None) new.controller) new h.gathers.goes))
moves (act.Misses slot answer) old new n h same go = quiet (act.Misses slot answer) old new n h refl (fan_same old new n (ap (λ (m : MachineState). m.fan) h.misses.rest))
moves act.Rises old new n h same go = quiet act.Rises old new n h refl (fans.gives_up old.fan h.frame new.fan h.gives n)
moves (act.Takes took) old new n h same go = quiet (act.Takes took) old new n h refl (fan_same old new n (ap (λ (m : MachineState). m.fan) h.rest))
moves (act.Loses why) old new n h same go = quiet (act.Loses why) old new n h refl (fan_same old new n (ap (λ (m : MachineState). m.fan) h.rest))
moves (act.Begins k) old new n h same go = quiet (act.Begins k) old new n h go (fans.tells old.fan (Some k) new.fan h.tells n)
moves (act.Falls k) old new n h same go = falls_by (k == n) k n old new refl h
moves (act.Hears k unheard) old new n h same go =
    leaves (act.Hears k unheard) k n old new h refl (ap (λ (b : Bay). b.down) h.does.2.rest) h.does.1
moves (act.Drops k) old new n h same go =
    leaves (act.Drops k) k n old new h refl (ap (λ (b : Bay). b.down) h.does.2.rest) h.does.1
moves (act.Points k) old new n h same go =
    stays (act.Points k) k n old new h refl (ap (λ (b : Bay). b.down) h.does.2.rest) (fan_same old new n h.does.1)
moves (act.Speaks k out) old new n h same go =
    stays (act.Speaks k out) k n old new h refl (ap (λ (b : Bay). b.down) h.does.1.rest) (fans.offers old.fan k h.does.1.frame Held new.fan h.does.1.offers n)
moves (act.Starts k place) old new n h same go =
    stays (act.Starts k place) k n old new h refl (ap (λ (b : Bay). b.down) h.does.2.rest) (fan_same old new n h.does.1)
moves (act.Asks id request) old new n h same go =
    stays (act.Asks id request) id.port n old new h refl (ap (λ (b : Bay). b.down) h.does.2.rest) (fan_same old new n h.does.1)

-- ---- calls

pub same : (old new : MachineState) (n : ℕ) → new ≡ old → Passes old new n [] []
same old new n is = still old new n (ap (λ (m : MachineState). DownOf m n) is) (ap (λ (m : MachineState). waits_down m.fan n) is)

beside : (old new : MachineState) (n : ℕ) → new.bays ≡ old.bays → new.fan ≡ old.fan → Passes old new n [] []
beside old new n bays fan = still old new n (bays_same old new n bays) (fan_same old new n fan)

one_bay : (old new : MachineState) (k n : ℕ) (b : Bay) → b.down ≡ DownOf old k → new ≡ record old { bays = set old.bays k b } → Passes old new n [] []
one_bay old new k n b down is =
    still old new n (bays_kept old new k n b down (ap (λ (m : MachineState). m.bays) is)) (fan_same old new n (ap (λ (m : MachineState). m.fan) is))

wrote_by : (b : Bool) (old m new : MachineState) (n : ℕ) → b ≡ true → m.bays ≡ old.bays → m.fan ≡ old.fan → new ≡ (if b then m else renewed m) → Passes old new n [] []
wrote_by true old m new n on bays fan is = beside old new n (ap (λ (x : MachineState). x.bays) is ∙ bays) (ap (λ (x : MachineState). x.fan) is ∙ fan)
wrote_by false old m new n on bays fan is = absurd (false≢true on)

not_false : (b : Bool) → not b ≡ false → b ≡ true
not_false true h = refl
not_false false h = absurd (false≢true (sym h))

supplied : (w : Wanted) (bytes : List ℕ) (old new : MachineState) (answer : Result Told AllocError) (n : ℕ) → SuppliesMachine w bytes old answer new → Passes old new n [] []
supplied (Command slot number) bytes old new answer n h = beside old new n (ap (λ (m : MachineState). m.bays) h.rest) (ap (λ (m : MachineState). m.fan) h.rest)
supplied (Data dev number done) bytes old new (Ok it) n h =
    by_bool (Passes old new n [] [])
    (MatchOption (gathering_at old dev) (IsStale old it new) (λ g. SuppliesData g dev number done bytes old it new)) (IsStale old it new) (nat_lt dev 16) h
    (λ low some. by_option GatheringState (Passes old new n [] []) (IsStale old it new) (λ g. SuppliesData g dev number done bytes old it new) (gathering_at old dev) some
    (λ none is. same old new n is.1)
    (λ g there s. beside old new n (ap (λ (m : MachineState). m.bays) s.rest) (ap (λ (m : MachineState). m.fan) s.rest)))
    (λ high is. same old new n is.1)
supplied (Data dev number done) bytes old new (Err e) n h = absurd h

missed : (w : Wanted) (old new : MachineState) (answer : Result Told AllocError) (n : ℕ) → MissesMachine w old answer new → Passes old new n [] []
missed (Command slot number) old new answer n h = beside old new n (ap (λ (m : MachineState). m.bays) h.rest) (ap (λ (m : MachineState). m.fan) h.rest)
missed (Data dev number done) old new (Ok it) n h =
    by_bool (Passes old new n [] []) (MatchOption (gathering_at old dev) ⊥ (λ g. MissesFor g dev old it new)) (IsStale old it new) (is_wanted old dev number done) h
    (λ low some. by_option GatheringState (Passes old new n [] []) ⊥ (λ g. MissesFor g dev old it new) (gathering_at old dev) some
    (λ none off. absurd off)
    (λ g there s. beside old new n (ap (λ (m : MachineState). m.bays) s.misses.rest) (ap (λ (m : MachineState). m.fan) s.misses.rest)))
    (λ high is. same old new n is.1)
missed (Data dev number done) old new (Err e) n h = absurd h

answered_told : (told : Result (Unit {0}) MediumError) (old new : MachineState) (k n : ℕ) (b : Bay) → b.down ≡ DownOf old k
    → OnOk told (new ≡ record old { bays = set old.bays k b }) → OnErr told (new ≡ old) → Passes old new n [] []
answered_told (Ok x) old new k n b down ok err = one_bay old new k n b down ok
answered_told (Err e) old new k n b down ok err = same old new n err

answered : (id : MediumId) (a : Answer) (old new : MachineState) (told : Result (Unit {0}) MediumError) (n : ℕ) → AnswersMachine id a old told new → Passes old new n [] []
answered id a old new told n h =
    by_option DiskState (Passes old new n [] []) (IsErrOf told OtherDisk × (new ≡ old)) (λ d. AnswersDisk id a d old told new) (disk_at old id) h
    (λ none is. same old new n is.1) (λ d there s. answered_told told old new id.port n _ refl s.ok s.err)

put : (k : ℕ) (unit : Inside) (old new : MachineState) (told : Result (Unit {0}) (Inside × PortFault)) (n : ℕ) → Puts k unit old told new → Passes old new n [] []
put k unit old new told n h =
    by_bool (Passes old new n [] [])
    (MatchBool (is_empty (bay_at old k).unit) (IsOk told × (new ≡ on_bay old k (filled (bay_at old k) unit))) (IsErrOf told (unit, Taken) × (new ≡ old)))
    (IsErrOf told (unit, NoPort) × (new ≡ old)) (has_bay old k) h
    (λ inside there. by_bool (Passes old new n [] []) (IsOk told × (new ≡ on_bay old k (filled (bay_at old k) unit))) (IsErrOf told (unit, Taken) × (new ≡ old))
    (is_empty (bay_at old k).unit) there
    (λ empty is. one_bay old new k n (filled (bay_at old k) unit) refl is.1) (λ full is. same old new n is.1))
    (λ outside is. same old new n is.1)

plugged : (k : ℕ) (old new : MachineState) (told : Result (Unit {0}) PortFault) (n : ℕ) → PlugsMachine k old told new → Passes old new n [] []
plugged k old new told n h =
    by_bool (Passes old new n [] []) (MatchBool (is_empty (bay_at old k).unit) (IsErrOf told Absent × (new ≡ old)) (PlugsIn k old told new))
    (IsErrOf told NoPort × (new ≡ old)) (has_bay old k) h
    (λ inside there. by_bool (Passes old new n [] []) (IsErrOf told Absent × (new ≡ old)) (PlugsIn k old told new) (is_empty (bay_at old k).unit) there
    (λ empty is. same old new n is.1)
    (λ full is. still old new n (bays_same old new n (ap (λ (m : MachineState). m.bays) is.rest)) (fans.plugs old.fan k is.answer new.fan is.plugs n)))
    (λ outside is. same old new n is.1)

pulled_bay : (at_it : Bool) (k n : ℕ) (old new : MachineState) (answer : Result (Unit {0}) NotThere) → (k == n) ≡ at_it
    → Pulls old.fan k answer new.fan
    → MatchResult answer (λ _. new ≡ record old { fan = new.fan; bays = set old.bays k (begun (bay_at old k)) }) (λ _. new ≡ record old { fan = new.fan })
    → connection_at new.fan n ≡ connection_at old.fan n → ((k == n) ≡ false → bay_at new n ≡ bay_at old n) → DownOf new n ≡ DownOf old n
pulled_bay true k n old new (Ok x) is pulls rest same there =
    absurd (fans.pulled_off old.fan k x new.fan pulls (subst (λ (j : ℕ). connection_at new.fan j ≡ connection_at old.fan j) (sym (eqb-true k n is)) same))
pulled_bay true k n old new (Err e) is pulls rest same there = bays_same old new n (ap (λ (m : MachineState). m.bays) rest)
pulled_bay false k n old new answer is pulls rest same there = off_bay old new n (there is)

pulled : (k : ℕ) (old new : MachineState) (told : Result (Unit {0}) PortFault) (n : ℕ) → PullsMachine k old told new → connection_at new.fan n ≡ connection_at old.fan n
    → Passes old new n [] []
pulled k old new told n h conn =
    by_bool (Passes old new n [] []) (PullsOut k old told new) (IsErrOf told NoPort × (new ≡ old)) (has_bay old k) h
    (λ inside there. still old new n
    (pulled_bay (k == n) k n old new there.answer refl there.pulls.pulls there.pulls.rest conn (λ off. others.pulled k old new told n h off))
    (fans.pulls old.fan k there.answer new.fan there.pulls.pulls n conn))
    (λ outside is. same old new n is.1)

pub taken_fan : (k : ℕ) (old new : MachineState) (told : Result Inside PortFault) → TakesUnit k old told new → new.fan ≡ old.fan
taken_fan k old new told h =
    by_bool (new.fan ≡ old.fan)
    (MatchBool (is_empty (bay_at old k).unit) (IsErrOf told Absent × (new ≡ on_bay old k (with_unit (bay_at old k) Empty)))
    ((told ≡ Ok (bay_at old k).unit) × (new ≡ on_bay old k (with_unit (bay_at old k) Empty))))
    (IsErrOf told NoPort × (new ≡ old)) (has_bay old k) h
    (λ inside there. by_bool (new.fan ≡ old.fan) (IsErrOf told Absent × (new ≡ on_bay old k (with_unit (bay_at old k) Empty)))
    ((told ≡ Ok (bay_at old k).unit) × (new ≡ on_bay old k (with_unit (bay_at old k) Empty))) (is_empty (bay_at old k).unit) there
    (λ empty is. ap (λ (m : MachineState). m.fan) is.1) (λ full is. ap (λ (m : MachineState). m.fan) is.1))
    (λ outside is. ap (λ (m : MachineState). m.fan) is.1)

pub taken : (k : ℕ) (old new : MachineState) (told : Result Inside PortFault) (n : ℕ) → TakesUnit k old told new → Passes old new n [] []
taken k old new told n h =
    by_bool (Passes old new n [] [])
    (MatchBool (is_empty (bay_at old k).unit) (IsErrOf told Absent × (new ≡ on_bay old k (with_unit (bay_at old k) Empty)))
    ((told ≡ Ok (bay_at old k).unit) × (new ≡ on_bay old k (with_unit (bay_at old k) Empty))))
    (IsErrOf told NoPort × (new ≡ old)) (has_bay old k) h
    (λ inside there. by_bool (Passes old new n [] []) (IsErrOf told Absent × (new ≡ on_bay old k (with_unit (bay_at old k) Empty)))
    ((told ≡ Ok (bay_at old k).unit) × (new ≡ on_bay old k (with_unit (bay_at old k) Empty))) (is_empty (bay_at old k).unit) there
    (λ empty is. one_bay old new k n (with_unit (bay_at old k) Empty) refl is.1) (λ full is. one_bay old new k n (with_unit (bay_at old k) Empty) refl is.1))
    (λ outside is. same old new n is.1)

chain : (old middle new : MachineState) (n : ℕ) → Passes old middle n [] [] → Passes middle new n [] [] → Passes old new n [] []
chain old middle new n first second = second ∙ append-nil (way_to middle n) ∙ first

-- ---- a device of the caller's own

-- where there is one, there is a port
own_inside_by : (b : Bool) (m : MachineState) (k : ℕ) → nat_lt k (length m.bays) ≡ b → (bay_at m k).unit ≡ Own → nat_lt k (length m.bays) ≡ true
own_inside_by true m k is there = is
own_inside_by false m k is there =
    absurd (not_own (sym (ap (λ (b : Bay). b.unit) (get_or_past m.bays k empty_bay (ltb-false k (length m.bays) is))) ∙ there))
  where
    not_own : Empty ≡ Own → ⊥
    not_own e = subst is_nobody e tt
      where
        is_nobody : Inside → Type 0
        is_nobody Empty = Unit {0}
        is_nobody other = ⊥

nothing_taken : (k n : ℕ) (told : Option Stamped) (old new : MachineState) → told ≡ None → new ≡ old → Passes old new n (if k == n then option_to_list told else []) []
nothing_taken k n told old new is rest =
    subst (λ (o : Option Stamped). Passes old new n (if k == n then option_to_list o else []) []) (sym is) (by (k == n))
  where
    by : (b : Bool) → Passes old new n (if b then [] else []) []
    by true = same old new n rest
    by false = same old new n rest

frame_taken : (u : Inside) (k n : ℕ) (told : Option Stamped) (old new : MachineState) → (bay_at old k).unit ≡ u → told ≡ given_in u (DownOf old k)
    → new ≡ (if is_own u then record old { bays = set old.bays k (taken_bay (bay_at old k)) } else old)
    → Passes old new n (if k == n then option_to_list told else []) []
frame_taken Own k n told old new there is rest =
    subst (λ (o : Option Stamped). Passes old new n (if k == n then option_to_list o else []) []) (sym is)
    (by (k == n) refl)
  where
    bay_now : bay_at new k ≡ taken_bay (bay_at old k)
    bay_now = ap (λ (m : MachineState). bay_at m k) rest
        ∙ this_bay old.bays k (taken_bay (bay_at old k)) (own_inside_by (nat_lt k (length old.bays)) old k refl there)

    fan_now : new.fan ≡ old.fan
    fan_now = ap (λ (m : MachineState). m.fan) rest

    by : (b : Bool) → (k == n) ≡ b → Passes old new n (if b then option_to_list (DownOf old k) else []) []
    by true here =
        subst (λ (j : ℕ). Passes old new j (option_to_list (DownOf old k)) []) (eqb-true k n here)
        (heads old new k (ap (λ (b : Bay). b.down) bay_now) (fan_same old new k fan_now))
    by false off =
        still old new n (ap (λ (l : List Bay). down_in l n) (ap (λ (m : MachineState). m.bays) rest)
        ∙ ap (λ (b : Bay). b.down) (other_bay old.bays k n (taken_bay (bay_at old k)) off)) (fan_same old new n fan_now)
frame_taken Empty k n told old new there is rest = nothing_taken k n told old new is rest
frame_taken (Disk d) k n told old new there is rest = nothing_taken k n told old new is rest

-- a frame of it
offered_fan : (told : Result (Unit {0}) Stamped) (k : ℕ) (frame : Stamped) (old new : MachineState) (n : ℕ)
    → MatchResult told (λ _. (offered : Offered) × Offers old.fan k frame (Ok offered) new.fan) (λ given. (given ≡ frame) × (new ≡ old))
    → Waits old.fan new.fan n
offered_fan (Ok x) k frame old new n h = fans.offers old.fan k frame h.0 new.fan h.1 n
offered_fan (Err e) k frame old new n h = ap (λ (m : MachineState). waits_down m.fan n) h.1

-- ---- deeds

-- or where a device is pulled
abbrev pub Needs : Deed → MachineState → MachineState → ℕ → Type 0
Needs (Moved a) old new n = NeedsMove a old new n
Needs (Pulled k told) old new n = connection_at new.fan n ≡ connection_at old.fan n
Needs (Removed k told) old new n = connection_at new.fan n ≡ connection_at old.fan n
Needs deed old new n = Unit {0}

turned_needs : (a : Act) (old middle : MachineState) (first : Bool) (turn n : ℕ) → NeedsMove a old (acts.turned middle first turn) n → NeedsMove a old middle n
turned_needs (act.Sends went) old middle first turn n same = same
turned_needs other old middle first turn n same = tt

pub pass_by : (old : MachineState) (deed : Deed) (new : MachineState) (n : ℕ) → Does old deed new → Needs deed old new n → begins deed n ≡ false
    → Passes old new n (ends old deed n) (falls old deed n)
pass_by old (Moved a) new n h same go =
    with_new old h.middle new n (ends old (Moved a) n) (falls old (Moved a) n) (ap (λ (m : MachineState). m.bays) h.turns) (ap (λ (m : MachineState). m.fan) h.turns)
    (moves a old h.middle n h.does (turned_needs a old h.middle new.first new.turn n (subst (λ (m : MachineState). NeedsMove a old m n) h.turns same)) go)
pass_by old Unlent new n h same go = beside old new n (ap (λ (m : MachineState). m.bays) h) (ap (λ (m : MachineState). m.fan) h)
pass_by old (Wrote offset width value written) new n h same go =
    wrote_by (link_stays written) old _ new n (not_false (link_stays written) go) refl refl h.rest
pass_by old Powered new n h same go = absurd (false≢true (sym go))
pass_by old (Supplied w bytes) new n h same go = supplied w bytes old new h.answer n h.supplies
pass_by old (Missed w) new n h same go = missed w old new h.answer n h.misses
pass_by old (Answered id a told) new n h same go = answered id a old new told n h
pass_by old (Put k unit told) new n h same go = put k unit old new told n h
pass_by old (Plugged k told) new n h same go = plugged k old new told n h
pass_by old (Pulled k told) new n h same go = pulled k old new told n h same
pass_by old (Removed k told) new n h same go =
    chain old h.pulled new n
    (pulled k old h.pulled h.answer n h.pulls (ap (λ (f : FanOut). connection_at f n) (sym (taken_fan k h.pulled new told h.takes)) ∙ same))
    (taken k h.pulled new told n h.takes)
pass_by old (FrameTaken k told) new n h same go = frame_taken (bay_at old k).unit k n told old new refl h.is h.rest
pass_by old (FrameOffered k frame told) new n h same go =
    still old new n (bays_same old new n (ap (λ (m : MachineState). m.bays) h.rest)) (offered_fan told k frame old new n h.back)

same_move : (a : Act) (old new : MachineState) (n : ℕ) → connection_at new.fan n ≡ connection_at old.fan n → NeedsMove a old new n
same_move (act.Sends went) old new n same = same
same_move other old new n same = tt

same_needs : (deed : Deed) (old new : MachineState) (n : ℕ) → connection_at new.fan n ≡ connection_at old.fan n → Needs deed old new n
same_needs (Moved a) old new n same = same_move a old new n same
same_needs (Pulled k told) old new n same = same
same_needs (Removed k told) old new n same = same
same_needs other old new n same = tt

pub pass : (old : MachineState) (deed : Deed) (new : MachineState) (n : ℕ) → Does old deed new → Lasts old deed new n
    → Passes old new n (ends old deed n) (falls old deed n)
pass old deed new n h lasts = pass_by old deed new n h (same_needs deed old new n lasts.same) lasts.goes

-- ---- runs

pub in_order : PortsPassInOrder
in_order n old [] new run lasts = ap (λ (m : MachineState). way_to m n) run.1 ∙ sym (append-nil (way_to old n))
in_order n old (deed ∷ later) new run lasts =
    let middle : MachineState = run.1.0 in
    let e : List Stamped = ends old deed n in
    let f : List Stamped = falls old deed n in
    let es : List Stamped = ended n middle later new run.1.2 in
    let fs : List Stamped = fell n middle later new run.1.2 in
    append_assoc e es (way_to new n)
    ∙ ap (λ (l : List Stamped). e ++ l) (in_order n middle later new run.1.2 lasts.1)
    ∙ sym (append_assoc e (way_to middle n) fs)
    ∙ ap (λ (l : List Stamped). l ++ fs) (pass old deed middle n run.1.1 lasts.0)
    ∙ append_assoc (way_to old n) f fs
