-- What happens to a machine is to each of its disks a list of that disk's own calls.
use Rattle.std.proofs.Common.{◌≡◌, ℕ, Bool, true, false, List, [], ◌∷◌, length, get_or, set, Option, Some, None, Result, Ok, Err, refl, sym, ap}
use Rattle.std.proofs.{Common.{subst, ◌∙◌}, lemmas.{Bool.{eqb-true, false≢true, ltb-false}, List.get_or_past}}
use Rattle.std.specs.{Prelude.{if◌then◌else◌, ◌==◌, MatchOption, MatchResult, IsOk, OnErr, OnOk, nat_lt}, Bool.MatchBool, Result.IsErrOf}
use Rattle.fis_view.specs.Frames.{Stamped}
use Rattle.fan_out.specs.declared.{seat.NotThere.NotThere, fan_out.FanOut.FanOut}
use Rattle.block_command.specs.declared.answer.AnswerError.{AnswerError}
use Rattle.block_engine.specs.Engine as engine
use Rattle.block_engine.specs.{Engine.{EngineState, IsAskedOf, IsRequested, answer_refusal}, declared.request.{Answer.Answer, Request.Request}}
use Rattle.sata_disk.specs.{State.DiskState, declared.{out.Out.Out, unheard.Unheard.Unheard}}
use Rattle.sata_disk_laws.specs.Calls.{AreCalls, Call, IsCall, after_call, after_calls, asked_by}
use Rattle.sata_disk_laws.specs.Calls as call
use Rattle.ahci_machine.specs.Acts as acts
use Rattle.ahci_machine.specs.{Acts.ServesNext, Answers.{AnswersDisk, AnswersMachine, disk_at, disk_in, is_own, taken_bay}, Bays.{begun, with_unit}}
use Rattle.ahci_machine.specs.{Ports.{PullsMachine, PullsOut, Puts, filled, has_bay, is_empty, on_bay}, States.{MachineState, bay_at, empty_bay}}
use Rattle.ahci_machine.specs.declared.{act.Act.Act, answers.MediumError.{MediumError, TheVariants.{Answer as Wrong, OtherDisk}}, bay.Bay.Bay}
use Rattle.ahci_machine.specs.declared.{bay.Unit.{Unit as Inside, TheVariants.{Disk, Empty}}, ports.PortFault.{PortFault, TheVariants.NoPort}}
use Rattle.ahci_machine.specs.declared.{ports.PortFault.TheVariants.{Taken, NotThere as Absent}, request.MediumId.MediumId}
use Rattle.ahci_machine.specs.Bays as bays
use Rattle.ahci_machine.specs.declared.act.Act.TheVariants as act
use Rattle.machine_laws.proofs.{Cases.{by_bool, by_option, this_bay}, Apart.{apart, moved, plugged_same}}
use Rattle.machine_laws.specs.Deeds.{Deed, Does, Moved, Unlent, Wrote, Powered, Supplied, Missed, Answered, Put, Plugged, Pulled, Removed, FrameTaken}
use Rattle.machine_laws.specs.{Deeds.FrameOffered, Disks.{DisksGoOn, GoesOn, at_port, calls_by, heard, unless_refused}, Ports.is_at}

pub goes_one : (d : DiskState) (c : Call) (now : Inside) → IsCall d c → now ≡ Disk (after_call d c) → GoesOn d (c ∷ []) now
unfolding after_calls
goes_one d c now is e = record { are = (is, tt); is = e }

stays : (d : DiskState) (now : Inside) → now ≡ Disk d → GoesOn d [] now
unfolding after_calls
stays d now e = record { are = tt; is = e }

-- a disk that is the same one
abbrev the_disk : DiskState → Inside → DiskState
the_disk d (Disk e) = e
the_disk d other = d

pub one_disk : (d e : DiskState) → Disk d ≡ Disk e → d ≡ e
one_disk d e is = ap (the_disk d) is

-- ---- at this port, or at another

at_by : (b : Bool) (n port : ℕ) (d : DiskState) (calls : List Call) (now : Inside) → (n == port) ≡ b
    → (n ≡ port → GoesOn d calls now) → ((n == port) ≡ false → now ≡ Disk d)
    → GoesOn d (if b then calls else []) now
at_by true n port d calls now is here there = here (eqb-true n port is)
at_by false n port d calls now is here there = stays d now (there is)

at : (n port : ℕ) (d : DiskState) (calls : List Call) (now : Inside) → (n ≡ port → GoesOn d calls now)
    → ((n == port) ≡ false → now ≡ Disk d) → GoesOn d (at_port n port calls) now
at n port d calls now here there = at_by (n == port) n port d calls now refl here there

-- what stays there stays
left : (old new : MachineState) (port : ℕ) (d : DiskState) → (bay_at old port).unit ≡ Disk d → bay_at new port ≡ bay_at old port
    → (bay_at new port).unit ≡ Disk d
left old new port d there same = ap (λ (b : Bay). b.unit) same ∙ there

-- ---- moves at the port

hears : (old new : Bay) (u : Option Unheard) (d : DiskState) → old.unit ≡ Disk d → bays.Hears u old new → GoesOn d (heard old.down) new.unit
hears old new u d there h =
    subst (λ (o : Option Stamped). GoesOn d (heard o) new.unit) (sym h.given)
    (subst (λ (x : DiskState). GoesOn x (call.Hears h.frame.bytes ∷ []) new.unit) same
    (goes_one h.disk (call.Hears h.frame.bytes) new.unit h.may (ap (λ (b : Bay). b.unit) h.rest)))
  where
    same : h.disk ≡ d
    same = one_disk h.disk d (sym h.there ∙ there)

engine_asked : (old new : EngineState) (r : Request) (x : Option ℕ) → IsAskedOf old new r x → new ≡ asked_by old x
engine_asked old new r None is = is.2
engine_asked old new r (Some p) is = is.1

asks : (old new : Bay) (r : Request) (d : DiskState) → old.unit ≡ Disk d → bays.Asks r old new → GoesOn d (call.Asks r ∷ []) new.unit
asks old new r d there h =
    subst (λ (x : DiskState). GoesOn x (call.Asks r ∷ []) new.unit) same
    (goes_one h.disk (call.Asks r) new.unit (subst (λ (e : EngineState). IsRequested h.disk.engine e (Some r)) engines h.asks)
    (ap (λ (b : Bay). b.unit) h.rest ∙ ap (λ (x : DiskState). Disk x) (h.others ∙ ap (λ (e : EngineState). record h.disk { engine = e }) engines)))
  where
    same : h.disk ≡ d
    same = one_disk h.disk d (sym h.there ∙ there)

    engines : h.after.engine ≡ asked_by h.disk.engine r.place
    engines = engine_asked h.disk.engine h.after.engine r r.place h.asks.1

speaks : (port : ℕ) (o : Out) (fan after : FanOut) (old new : Bay) (d : DiskState) → old.unit ≡ Disk d → bays.Speaks port o fan old after new
    → GoesOn d (call.Sends o ∷ []) new.unit
speaks port o fan after old new d there h =
    subst (λ (x : DiskState). GoesOn x (call.Sends o ∷ []) new.unit) (one_disk h.disk d (sym h.there ∙ there))
    (goes_one h.disk (call.Sends o) new.unit h.next (ap (λ (b : Bay). b.unit) h.rest))

starts : (place : ℕ) (old new : Bay) (d : DiskState) → old.unit ≡ Disk d → bays.Starts place old new
    → GoesOn d (call.Starts (Some place) ∷ []) new.unit
starts place old new d there h =
    subst (λ (x : DiskState). GoesOn x (call.Starts (Some place) ∷ []) new.unit) (one_disk h.disk d (sym h.there ∙ there))
    (goes_one h.disk (call.Starts (Some place)) new.unit h.may (ap (λ (b : Bay). b.unit) h.rest))

-- ---- a port where a disk is

no_disk : (d : DiskState) → Empty ≡ Disk d → ⊥
no_disk d is = subst (λ (i : Inside). is_a_disk i) is tt
  where
    is_a_disk : Inside → Type 0
    is_a_disk Empty = Unit {0}
    is_a_disk other = ⊥

inside_by : (b : Bool) (m : MachineState) (port : ℕ) (d : DiskState) → nat_lt port (length m.bays) ≡ b → (bay_at m port).unit ≡ Disk d
    → nat_lt port (length m.bays) ≡ true
inside_by true m port d is there = is
inside_by false m port d is there =
    absurd (no_disk d (sym (ap (λ (b : Bay). b.unit) (get_or_past m.bays port empty_bay (ltb-false port (length m.bays) is))) ∙ there))

pub inside : (m : MachineState) (port : ℕ) (d : DiskState) → (bay_at m port).unit ≡ Disk d → nat_lt port (length m.bays) ≡ true
inside m port d there = inside_by (nat_lt port (length m.bays)) m port d refl there

-- what is there afterwards
pub here : (old new : MachineState) (port : ℕ) (b : Bay) → nat_lt port (length old.bays) ≡ true → new.bays ≡ set old.bays port b → bay_at new port ≡ b
here old new port b low is = ap (λ (l : List Bay). get_or l port empty_bay) is ∙ this_bay old.bays port b low

begun_unit : (b : Bay) (d : DiskState) → b.unit ≡ Disk d → (begun b).unit ≡ Disk (after_call d call.Plugs)
begun_unit b d there = ap bays.without_work there

plugs : (b : Bay) (d : DiskState) (now : Inside) → b.unit ≡ Disk d → now ≡ (begun b).unit → GoesOn d (call.Plugs ∷ []) now
plugs b d now there is = goes_one d call.Plugs now tt (is ∙ begun_unit b d there)

begins_by : (low : Bool) (old new : MachineState) (port : ℕ) (d : DiskState) → (bay_at old port).unit ≡ Disk d
    → nat_lt port (length old.bays) ≡ true → low ≡ true
    → new.bays ≡ (if low then set old.bays port (begun (bay_at old port)) else old.bays)
    → GoesOn d (call.Plugs ∷ []) (bay_at new port).unit
begins_by true old new port d there low on is =
    plugs (bay_at old port) d (bay_at new port).unit there (ap (λ (b : Bay). b.unit) (here old new port (begun (bay_at old port)) low is))
begins_by false old new port d there low on is = absurd (false≢true on)

-- ---- moves

-- one of a port: where it is this one
serve : (a : Act) (calls : Option Stamped → List Call) (n port : ℕ) (old new : MachineState) (d : DiskState) → (bay_at old port).unit ≡ Disk d
    → ServesNext n a old new → is_at (Moved a) port ≡ (n == port)
    → ((bay : Bay) (after : Bay) → bay.unit ≡ Disk d → bays.BayDoes n old.fan bay a new.fan after → GoesOn d (calls bay.down) after.unit)
    → acts.Does old a new
    → GoesOn d (at_port n port (calls (bay_at old port).down)) (bay_at new port).unit
serve a calls n port old new d there h is by does =
    at n port d (calls (bay_at old port).down) (bay_at new port).unit
    (λ same. subst (λ (k : ℕ). (bay_at old k).unit ≡ Disk d → GoesOn d (calls (bay_at old k).down) (bay_at new k).unit) same
    (λ here. by (bay_at old n) (bay_at new n) here h.does) there)
    (λ off. left old new port d there (moved a old new port does (is ∙ off)))

-- either way the same is so
pub either_way : (X : Type 0) (b : Bool) (n port : ℕ) → (n == port) ≡ b → (n ≡ port → X) → ((n == port) ≡ false → X) → X
either_way X true n port is here there = here (eqb-true n port is)
either_way X false n port is here there = there is

-- one of a port that is no call of the disk
serve_none : (a : Act) (n port : ℕ) (old new : MachineState) (d : DiskState) → (bay_at old port).unit ≡ Disk d
    → is_at (Moved a) port ≡ (n == port)
    → (bay_at new n).unit ≡ (bay_at old n).unit
    → acts.Does old a new
    → GoesOn d [] (bay_at new port).unit
serve_none a n port old new d there is same does =
    stays d (bay_at new port).unit
    (either_way ((bay_at new port).unit ≡ Disk d) (n == port) n port refl
    (λ here. subst (λ (k : ℕ). (bay_at new k).unit ≡ (bay_at old k).unit) here same ∙ there)
    (λ off. left old new port d there (moved a old new port does (is ∙ off))))

quiet : (a : Act) (old new : MachineState) (port : ℕ) (d : DiskState) → (bay_at old port).unit ≡ Disk d → acts.Does old a new
    → is_at (Moved a) port ≡ false → GoesOn d [] (bay_at new port).unit
quiet a old new port d there h off = stays d (bay_at new port).unit (left old new port d there (moved a old new port h off))

begins : (n : ℕ) (old new : MachineState) (port : ℕ) (d : DiskState) → (bay_at old port).unit ≡ Disk d → acts.BeginsNext n old new
    → GoesOn d (at_port n port (call.Plugs ∷ [])) (bay_at new port).unit
begins n old new port d there h =
    at n port d (call.Plugs ∷ []) (bay_at new port).unit
    (λ same. let low : nat_lt port (length old.bays) ≡ true = inside old port d there in
    begins_by (nat_lt port (length old.bays)) old new port d there low low
    (subst (λ (k : ℕ). new.bays ≡ (if nat_lt k (length old.bays) then set old.bays k (begun (bay_at old k)) else old.bays)) same
    (ap (λ (m : MachineState). m.bays) h.rest)))
    (λ off. left old new port d there (moved (act.Begins n) old new port h off))

goes : (a : Act) (old new : MachineState) (port : ℕ) (d : DiskState) → (bay_at old port).unit ≡ Disk d → acts.Does old a new
    → GoesOn d (calls_by a port (bay_at old port).down) (bay_at new port).unit
goes act.Rests old new port d there h = quiet act.Rests old new port d there h refl
goes (act.Writes w) old new port d there h = quiet (act.Writes w) old new port d there h refl
goes act.LetsGo old new port d there h = quiet act.LetsGo old new port d there h refl
goes (act.Line b) old new port d there h = quiet (act.Line b) old new port d there h refl
goes act.Message old new port d there h = quiet act.Message old new port d there h refl
goes (act.Turns said) old new port d there h = quiet (act.Turns said) old new port d there h refl
goes (act.Does said) old new port d there h = quiet (act.Does said) old new port d there h refl
goes (act.Sends passed) old new port d there h = quiet (act.Sends passed) old new port d there h refl
goes (act.Wants read) old new port d there h = quiet (act.Wants read) old new port d there h refl
goes (act.Gathers dev answer) old new port d there h = quiet (act.Gathers dev answer) old new port d there h refl
goes (act.Misses dev answer) old new port d there h = quiet (act.Misses dev answer) old new port d there h refl
goes act.Rises old new port d there h = quiet act.Rises old new port d there h refl
goes (act.Takes took) old new port d there h = quiet (act.Takes took) old new port d there h refl
goes (act.Loses why) old new port d there h = quiet (act.Loses why) old new port d there h refl
goes (act.Begins n) old new port d there h = begins n old new port d there h
goes (act.Falls n) old new port d there h =
    serve_none (act.Falls n) n port old new d there refl (ap (λ (b : Bay). b.unit) h.does.1.rest) h
goes (act.Points n) old new port d there h =
    serve_none (act.Points n) n port old new d there refl (ap (λ (b : Bay). b.unit) h.does.2.rest) h
goes (act.Drops n) old new port d there h =
    serve_none (act.Drops n) n port old new d there refl (ap (λ (b : Bay). b.unit) h.does.2.rest) h
goes (act.Hears n unheard) old new port d there h =
    serve (act.Hears n unheard) heard n port old new d there h refl (λ bay after at_it by. hears bay after unheard d at_it by.2) h
goes (act.Speaks n o) old new port d there h =
    serve (act.Speaks n o) (λ down. call.Sends o ∷ []) n port old new d there h refl
    (λ bay after at_it by. speaks n o old.fan new.fan bay after d at_it by.1) h
goes (act.Starts n place) old new port d there h =
    serve (act.Starts n place) (λ down. call.Starts (Some place) ∷ []) n port old new d there h refl
    (λ bay after at_it by. starts place bay after d at_it by.2) h
goes (act.Asks id request) old new port d there h =
    serve (act.Asks id request) (λ down. call.Asks request ∷ []) id.port port old new d there h refl
    (λ bay after at_it by. asks bay after request d at_it by.2) h

-- ---- calls

ok_no_err : {A B : Type 0} (x : A) (e : B) → Ok x ≡ Err e → ⊥
ok_no_err {A = A} {B = B} x e is = subst is_fine is tt
  where
    is_fine : Result A B → Type 0
    is_fine (Ok y) = Unit {0}
    is_fine (Err f) = ⊥

abbrev told_ok : Unit {0} → Result (Unit {0}) MediumError
told_ok x = Ok x

answered_ok : (old new : MachineState) (id : MediumId) (a : Answer) (port : ℕ) (d : DiskState) (told : Result (Unit {0}) MediumError)
    → nat_lt port (length old.bays) ≡ true → id.port ≡ port → (bay_at old port).unit ≡ Disk d
    → MatchOption (answer_refusal d.engine id.number a) (IsOk told) (λ error. IsErrOf told (Wrong error))
    → OnOk told (new ≡ record old { bays = set old.bays id.port (with_unit (bay_at old id.port) (Disk (record d { engine = engine.answered d.engine id.number a }))) })
    → OnErr told (new ≡ old)
    → GoesOn d (unless_refused told (call.Answers id.number a ∷ [])) (bay_at new port).unit
answered_ok old new id a port d (Ok x) low same there is ok err =
    goes_one d (call.Answers id.number a) (bay_at new port).unit (not_refused (answer_refusal d.engine id.number a) is)
    (ap (λ (b : Bay). b.unit) (here old new port _ low (subst (λ (k : ℕ). new.bays ≡ set old.bays k (with_unit (bay_at old k) (Disk (record d { engine = engine.answered d.engine id.number a })))) same (ap (λ (m : MachineState). m.bays) ok))))
  where
    not_refused : (r : Option AnswerError) → MatchOption r (IsOk (told_ok x)) (λ error. IsErrOf (told_ok x) (Wrong error)) → r ≡ None
    not_refused None h = refl
    not_refused (Some e) h = absurd (ok_no_err x (Wrong e) h)
answered_ok old new id a port d (Err e) low same there is ok err = stays d (bay_at new port).unit (left old new port d there (ap (λ (m : MachineState). bay_at m port) err))

-- an answer that is refused is no call
refused : {A : Type 0} (told : Result (Unit {0}) A) (e : A) (calls : List Call) (d : DiskState) (now : Inside) → IsErrOf told e → now ≡ Disk d
    → GoesOn d (unless_refused told calls) now
refused {A = A} told e calls d now is there = subst (λ (r : Result (Unit {0}) A). GoesOn d (unless_refused r calls) now) (sym is) (stays d now there)

-- the disk that an answer names
named_by : (same : Bool) (u : Inside) (d e : DiskState) → u ≡ Disk d → (if same then disk_in u else None) ≡ Some e → e ≡ d
named_by true u d e there is = some_disk e d (sym is ∙ ap disk_in there)
  where
    some_disk : (x y : DiskState) → Some x ≡ Some y → x ≡ y
    some_disk x y h = ap (λ (o : Option DiskState). or_it o) h
      where
        or_it : Option DiskState → DiskState
        or_it None = x
        or_it (Some z) = z
named_by false u d e there is = absurd (none_some is)
  where
    none_some : None ≡ Some e → ⊥
    none_some h = subst is_none_here h tt
      where
        is_none_here : Option DiskState → Type 0
        is_none_here None = Unit {0}
        is_none_here (Some z) = ⊥

answered_here : (id : MediumId) (a : Answer) (old new : MachineState) (told : Result (Unit {0}) MediumError) (port : ℕ) (d : DiskState)
    → (bay_at old port).unit ≡ Disk d → AnswersMachine id a old told new → id.port ≡ port
    → GoesOn d (unless_refused told (call.Answers id.number a ∷ [])) (bay_at new port).unit
answered_here id a old new told port d there h same =
    by_option DiskState (GoesOn d (unless_refused told (call.Answers id.number a ∷ [])) (bay_at new port).unit)
    (IsErrOf told OtherDisk × (new ≡ old)) (λ e. AnswersDisk id a e old told new) (disk_at old id) h
    (λ none is. refused told OtherDisk (call.Answers id.number a ∷ []) d (bay_at new port).unit is.0
    (left old new port d there (ap (λ (m : MachineState). bay_at m port) is.1)))
    (λ e is by. let one : e ≡ d = named_by ((bay_at old id.port).disk == id.disk) (bay_at old id.port).unit d e
    (subst (λ (k : ℕ). (bay_at old k).unit ≡ Disk d) (sym same) there) is in
    answered_ok old new id a port d told (inside old port d there) same there
    (subst (λ (x : DiskState). MatchOption (answer_refusal x.engine id.number a) (IsOk told) (λ error. IsErrOf told (Wrong error))) one by.is)
    (subst (λ (x : DiskState). OnOk told (new ≡ record old { bays = set old.bays id.port (with_unit (bay_at old id.port) (Disk (record x { engine = engine.answered x.engine id.number a }))) })) one by.ok)
    by.err)

pulled_ok : (old new : MachineState) (port : ℕ) (d : DiskState) (answer : Result (Unit {0}) NotThere) (told : Result (Unit {0}) PortFault)
    → nat_lt port (length old.bays) ≡ true → (bay_at old port).unit ≡ Disk d
    → MatchResult answer (λ _. new ≡ record old { fan = new.fan; bays = set old.bays port (begun (bay_at old port)) }) (λ _. new ≡ record old { fan = new.fan })
    → MatchResult answer (λ _. IsOk told) (λ _. IsErrOf told Absent)
    → GoesOn d (unless_refused told (call.Plugs ∷ [])) (bay_at new port).unit
pulled_ok old new port d (Ok x) (Ok y) low there is told =
    plugs (bay_at old port) d (bay_at new port).unit there
    (ap (λ (b : Bay). b.unit) (here old new port (begun (bay_at old port)) low (ap (λ (m : MachineState). m.bays) is)))
pulled_ok old new port d (Ok x) (Err e) low there is told = absurd (false≢true told)
pulled_ok old new port d (Err x) told low there is by =
    refused told Absent (call.Plugs ∷ []) d (bay_at new port).unit by (left old new port d there (ap (λ (m : MachineState). bay_at m port) is))

pub pulled_here : (old new : MachineState) (told : Result (Unit {0}) PortFault) (port : ℕ) (d : DiskState) → (bay_at old port).unit ≡ Disk d
    → PullsMachine port old told new → GoesOn d (unless_refused told (call.Plugs ∷ [])) (bay_at new port).unit
pulled_here old new told port d there h =
    by_bool (GoesOn d (unless_refused told (call.Plugs ∷ [])) (bay_at new port).unit) (PullsOut port old told new)
    (IsErrOf told NoPort × (new ≡ old)) (has_bay old port) h
    (λ low by. pulled_ok old new port d by.answer told low there by.pulls.rest by.is)
    (λ high is. refused told NoPort (call.Plugs ∷ []) d (bay_at new port).unit is.0 (left old new port d there (ap (λ (m : MachineState). bay_at m port) is.1)))

-- a port where a disk is takes no other
full_by : (empty : Bool) (old new : MachineState) (port : ℕ) (d : DiskState) (unit : Inside) (told : Result (Unit {0}) (Inside × PortFault))
    → empty ≡ false
    → MatchBool empty (IsOk told × (new ≡ on_bay old port (filled (bay_at old port) unit))) (IsErrOf told (unit, Taken) × (new ≡ old))
    → new ≡ old
full_by true old new port d unit told full h = absurd (false≢true (sym full))
full_by false old new port d unit told full h = h.1

put_here : (old new : MachineState) (port : ℕ) (d : DiskState) (unit : Inside) (told : Result (Unit {0}) (Inside × PortFault))
    → (bay_at old port).unit ≡ Disk d → Puts port unit old told new → (bay_at new port).unit ≡ Disk d
put_here old new port d unit told there h =
    by_bool ((bay_at new port).unit ≡ Disk d)
    (MatchBool (is_empty (bay_at old port).unit) (IsOk told × (new ≡ on_bay old port (filled (bay_at old port) unit))) (IsErrOf told (unit, Taken) × (new ≡ old)))
    (IsErrOf told (unit, NoPort) × (new ≡ old)) (has_bay old port) h
    (λ low by. left old new port d there (ap (λ (m : MachineState). bay_at m port)
    (full_by (is_empty (bay_at old port).unit) old new port d unit told (ap is_empty there) by)))
    (λ high is. left old new port d there (ap (λ (m : MachineState). bay_at m port) is.1))

frame_here : (old new : MachineState) (port : ℕ) (d : DiskState) → (bay_at old port).unit ≡ Disk d
    → new ≡ (if is_own (bay_at old port).unit then record old { bays = set old.bays port (taken_bay (bay_at old port)) } else old)
    → (bay_at new port).unit ≡ Disk d
frame_here old new port d there is =
    left old new port d there (ap (λ (m : MachineState). bay_at m port)
    (is ∙ ap (λ (b : Bool). if b then record old { bays = set old.bays port (taken_bay (bay_at old port)) } else old) (ap is_own there)))

-- what is no call of the disk at a port, at that port or at another
none_at : (n : ℕ) (old new : MachineState) (deed : Deed) (port : ℕ) (d : DiskState) → (bay_at old port).unit ≡ Disk d → Does old deed new
    → is_at deed port ≡ (n == port)
    → (n ≡ port → (bay_at new port).unit ≡ Disk d)
    → GoesOn d [] (bay_at new port).unit
none_at n old new deed port d there h is here =
    stays d (bay_at new port).unit (either_way ((bay_at new port).unit ≡ Disk d) (n == port) n port refl here
    (λ off. left old new port d there (apart old deed new h port (is ∙ off))))

away : (old new : MachineState) (deed : Deed) (port : ℕ) (d : DiskState) → (bay_at old port).unit ≡ Disk d → Does old deed new
    → is_at deed port ≡ false → GoesOn d [] (bay_at new port).unit
away old new deed port d there h off = stays d (bay_at new port).unit (left old new port d there (apart old deed new h port off))

pub go_on : DisksGoOn
go_on old (Moved a) new h port d there kept =
    subst (λ (b : Bay). GoesOn d (calls_by a port (bay_at old port).down) b.unit) (sym (ap (λ (m : MachineState). bay_at m port) h.turns))
    (goes a old h.middle port d there h.does)
go_on old Unlent new h port d there kept = away old new Unlent port d there h refl
go_on old (Wrote offset width value written) new h port d there kept = away old new (Wrote offset width value written) port d there h refl
go_on old Powered new h port d there kept = away old new Powered port d there h refl
go_on old (Supplied w bytes) new h port d there kept = away old new (Supplied w bytes) port d there h refl
go_on old (Missed w) new h port d there kept = away old new (Missed w) port d there h refl
go_on old (Answered id a told) new h port d there kept =
    at id.port port d (unless_refused told (call.Answers id.number a ∷ [])) (bay_at new port).unit
    (λ same. answered_here id a old new told port d there h same)
    (λ off. left old new port d there (apart old (Answered id a told) new h port off))
go_on old (Put n unit told) new h port d there kept =
    none_at n old new (Put n unit told) port d there h refl
    (λ same. put_here old new port d unit told there (subst (λ (k : ℕ). Puts k unit old told new) same h))
go_on old (Plugged n told) new h port d there kept = stays d (bay_at new port).unit (left old new port d there (plugged_same n old new told port h))
go_on old (Pulled n told) new h port d there kept =
    at n port d (unless_refused told (call.Plugs ∷ [])) (bay_at new port).unit
    (λ same. pulled_here old new told port d there (subst (λ (k : ℕ). PullsMachine k old told new) same h))
    (λ off. left old new port d there (apart old (Pulled n told) new h port off))
go_on old (Removed n told) new h port d there kept =
    stays d (bay_at new port).unit (left old new port d there (apart old (Removed n told) new h port kept))
go_on old (FrameTaken n told) new h port d there kept =
    none_at n old new (FrameTaken n told) port d there h refl
    (λ same. frame_here old new port d there
    (subst (λ (k : ℕ). new ≡ (if is_own (bay_at old k).unit then record old { bays = set old.bays k (taken_bay (bay_at old k)) } else old)) same h.rest))
go_on old (FrameOffered n frame told) new h port d there kept = away old new (FrameOffered n frame told) port d there h refl
