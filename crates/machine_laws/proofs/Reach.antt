-- Each disk of a machine is one that some calls of its own led to.
use Rattle.std.proofs.Common.{◌≡◌, ℕ, zero, suc, Bool, true, false, List, [], ◌∷◌, ◌++◌, get_or, set, replicate, length, Option, Some, None, Result}
use Rattle.std.proofs.{Common.{Ok, Err, refl, sym, ap, subst, ◌∙◌}, lemmas.{Bool.{eqb-true, false≢true, ltb-false}, List.get_or_past}}
use Rattle.std.specs.{Prelude.{if◌then◌else◌, ◌==◌, MatchResult, IsOk, nat_lt}, Bool.MatchBool, Result.IsErrOf}
use Rattle.fan_out.specs.declared.seat.NotThere.{NotThere}
use Rattle.block_engine.specs.declared.request.Answer.{Answer}
use Rattle.sata_disk.specs.State.{DiskState, new_disk}
use Rattle.sata_disk_laws.specs.{Laws.{DataAreNamed, EndsAreEarned, RequestsAreApart}, Calls.{AreCalls, Call, after_call, after_calls}}
use Rattle.ahci_machine.specs.Acts as acts
use Rattle.ahci_machine.specs.{Answers.{AnswersDisk, AnswersMachine, disk_at, disk_in, is_own, taken_bay}, Bays.{begun, with_unit, without_work}}
use Rattle.ahci_machine.specs.{Ports.{PullsMachine, PullsOut, Puts, Removes, TakesUnit, filled, has_bay, is_empty, on_bay}, States.MachineState}
use Rattle.ahci_machine.specs.{States.{bay_at, empty_bay}, declared.{act.Act.Act, answers.MediumError.{MediumError, TheVariants.OtherDisk}}}
use Rattle.ahci_machine.specs.declared.{bay.{Bay.Bay, Unit.{Unit as Inside, TheVariants.{Disk, Empty, Own}}}, ports.PortFault.PortFault}
use Rattle.ahci_machine.specs.declared.{ports.PortFault.TheVariants.{NoPort, Taken, NotThere as Absent}, request.MediumId.MediumId}
use Rattle.ahci_machine.specs.declared.act.Act.TheVariants as act
use Rattle.machine_laws.proofs.{Cases.{by_bool, by_option}, Apart.{apart, moved, plugged_same}, GoOn.{either_way, go_on, here, inside, one_disk}}
use Rattle.machine_laws.proofs.GoOn.{pulled_here}
use Rattle.machine_laws.specs.Deeds.{Deed, Does, Runs, Moved, Unlent, Wrote, Powered, Supplied, Missed, Answered, Put, Plugged, Pulled, Removed}
use Rattle.machine_laws.specs.{Deeds.{FrameTaken, FrameOffered}, Disks.{AreReached, DisksAreReached, GoesOn, IsReached, DisksHaveLaws, OpensReached}}
use Rattle.machine_laws.specs.{Disks.{PutsReached, calls_at, is_removed}, Ports.is_at}

some_none : (d : DiskState) → Some d ≡ None → ⊥
some_none d is = subst is_some_here is tt
  where
    is_some_here : Option DiskState → Type 0
    is_some_here None = ⊥
    is_some_here (Some z) = Unit {0}

-- no disk is there
abbrev pub NoneAt : MachineState → ℕ → Type 0
NoneAt m port = disk_in (bay_at m port).unit ≡ None

pub none_is : (u : Inside) (d : DiskState) → disk_in u ≡ None → u ≡ Disk d → ⊥
none_is u d none is = some_none d (sym (ap disk_in is) ∙ none)

pub by_unit : (C : Type 0) (u : Inside) → ((e : DiskState) → u ≡ Disk e → C) → (disk_in u ≡ None → C) → C
by_unit C (Disk e) there none = there e refl
by_unit C other there none = none refl

work_none : (u : Inside) → disk_in u ≡ None → disk_in (without_work u) ≡ None
work_none (Disk d) h = absurd (some_none d h)
work_none other h = refl

pub same_none : (old new : MachineState) (port : ℕ) → bay_at new port ≡ bay_at old port → NoneAt old port → NoneAt new port
same_none old new port same none = ap (λ (b : Bay). disk_in b.unit) same ∙ none

-- ---- moves

move_none : (a : Act) (n port : ℕ) (old new : MachineState) → is_at (Moved a) port ≡ (n == port) → acts.Does old a new → NoneAt old port
    → (NoneAt old n → NoneAt new n) → NoneAt new port
move_none a n port old new is h none by =
    either_way (NoneAt new port) (n == port) n port refl
    (λ same. subst (λ (k : ℕ). NoneAt old k → NoneAt new k) same by none)
    (λ off. same_none old new port (moved a old new port h (is ∙ off)) none)

quiet_none : (a : Act) (old new : MachineState) (port : ℕ) → acts.Does old a new → NoneAt old port → is_at (Moved a) port ≡ false → NoneAt new port
quiet_none a old new port h none off = same_none old new port (moved a old new port h off) none

begins_none : (low : Bool) (old new : MachineState) (n : ℕ) → nat_lt n (length old.bays) ≡ low
    → new.bays ≡ (if low then set old.bays n (begun (bay_at old n)) else old.bays) → NoneAt old n → NoneAt new n
begins_none true old new n low is none =
    ap (λ (b : Bay). disk_in b.unit) (here old new n (begun (bay_at old n)) low is) ∙ work_none (bay_at old n).unit none
begins_none false old new n low is none = same_none old new n (ap (λ (l : List Bay). get_or l n empty_bay) is) none

move_stays : (a : Act) (old new : MachineState) (port : ℕ) → acts.Does old a new → NoneAt old port → NoneAt new port
move_stays act.Rests old new port h none = quiet_none act.Rests old new port h none refl
move_stays (act.Writes w) old new port h none = quiet_none (act.Writes w) old new port h none refl
move_stays act.LetsGo old new port h none = quiet_none act.LetsGo old new port h none refl
move_stays (act.Line b) old new port h none = quiet_none (act.Line b) old new port h none refl
move_stays act.Message old new port h none = quiet_none act.Message old new port h none refl
move_stays (act.Turns said) old new port h none = quiet_none (act.Turns said) old new port h none refl
move_stays (act.Does said) old new port h none = quiet_none (act.Does said) old new port h none refl
move_stays (act.Sends passed) old new port h none = quiet_none (act.Sends passed) old new port h none refl
move_stays (act.Wants read) old new port h none = quiet_none (act.Wants read) old new port h none refl
move_stays (act.Gathers dev answer) old new port h none = quiet_none (act.Gathers dev answer) old new port h none refl
move_stays (act.Misses dev answer) old new port h none = quiet_none (act.Misses dev answer) old new port h none refl
move_stays act.Rises old new port h none = quiet_none act.Rises old new port h none refl
move_stays (act.Takes took) old new port h none = quiet_none (act.Takes took) old new port h none refl
move_stays (act.Loses why) old new port h none = quiet_none (act.Loses why) old new port h none refl
move_stays (act.Begins n) old new port h none =
    move_none (act.Begins n) n port old new refl h none
    (begins_none (nat_lt n (length old.bays)) old new n refl (ap (λ (m : MachineState). m.bays) h.rest))
move_stays (act.Falls n) old new port h none =
    move_none (act.Falls n) n port old new refl h none (λ at. ap (λ (b : Bay). disk_in b.unit) h.does.1.rest ∙ at)
move_stays (act.Points n) old new port h none =
    move_none (act.Points n) n port old new refl h none (λ at. ap (λ (b : Bay). disk_in b.unit) h.does.2.rest ∙ at)
move_stays (act.Drops n) old new port h none =
    move_none (act.Drops n) n port old new refl h none (λ at. ap (λ (b : Bay). disk_in b.unit) h.does.2.rest ∙ at)
move_stays (act.Hears n unheard) old new port h none =
    move_none (act.Hears n unheard) n port old new refl h none (λ at. absurd (none_is (bay_at old n).unit h.does.2.disk at h.does.2.there))
move_stays (act.Speaks n o) old new port h none =
    move_none (act.Speaks n o) n port old new refl h none (λ at. absurd (none_is (bay_at old n).unit h.does.1.disk at h.does.1.there))
move_stays (act.Starts n place) old new port h none =
    move_none (act.Starts n place) n port old new refl h none (λ at. absurd (none_is (bay_at old n).unit h.does.2.disk at h.does.2.there))
move_stays (act.Asks id request) old new port h none =
    move_none (act.Asks id request) id.port port old new refl h none (λ at. absurd (none_is (bay_at old id.port).unit h.does.2.disk at h.does.2.there))

-- ---- calls

at_none : (n : ℕ) (old new : MachineState) (deed : Deed) (port : ℕ) → Does old deed new → is_at deed port ≡ (n == port) → NoneAt old port
    → (NoneAt old n → NoneAt new n) → NoneAt new port
at_none n old new deed port h is none by =
    either_way (NoneAt new port) (n == port) n port refl
    (λ same. subst (λ (k : ℕ). NoneAt old k → NoneAt new k) same by none)
    (λ off. same_none old new port (apart old deed new h port (is ∙ off)) none)

by_eq : (old new : MachineState) (port : ℕ) → new ≡ old → NoneAt old port → NoneAt new port
by_eq old new port is none = same_none old new port (ap (λ (m : MachineState). bay_at m port) is) none

named_none : (same : Bool) (u : Inside) (e : DiskState) → disk_in u ≡ None → (if same then disk_in u else None) ≡ Some e → ⊥
named_none true u e none is = some_none e (sym is ∙ none)
named_none false u e none is = some_none e (sym is)

answered_none : (id : MediumId) (a : Answer) (old new : MachineState) (told : Result (Unit {0}) MediumError)
    → AnswersMachine id a old told new → NoneAt old id.port → NoneAt new id.port
answered_none id a old new told h none =
    by_option DiskState (NoneAt new id.port) (IsErrOf told OtherDisk × (new ≡ old)) (λ d. AnswersDisk id a d old told new) (disk_at old id) h
    (λ nobody is. by_eq old new id.port is.1 none)
    (λ d there s. absurd (named_none ((bay_at old id.port).disk == id.disk) (bay_at old id.port).unit d none there))

pulled_part : (old new : MachineState) (n : ℕ) (answer : Result (Unit {0}) NotThere) → nat_lt n (length old.bays) ≡ true
    → MatchResult answer (λ _. new ≡ record old { fan = new.fan; bays = set old.bays n (begun (bay_at old n)) })
    (λ _. new ≡ record old { fan = new.fan })
    → NoneAt old n → NoneAt new n
pulled_part old new n (Ok x) low is none = begins_none true old new n low (ap (λ (m : MachineState). m.bays) is) none
pulled_part old new n (Err e) low is none = same_none old new n (ap (λ (m : MachineState). bay_at m n) is) none

pulled_none : (n : ℕ) (old new : MachineState) (told : Result (Unit {0}) PortFault) → PullsMachine n old told new → NoneAt old n → NoneAt new n
pulled_none n old new told h none =
    by_bool (NoneAt new n) (PullsOut n old told new) (IsErrOf told NoPort × (new ≡ old)) (has_bay old n) h
    (λ low by. pulled_part old new n by.answer low by.pulls.rest none)
    (λ high is. by_eq old new n is.1 none)

-- what is taken away is gone, where there is a port
emptied : (old new : MachineState) (n : ℕ) → nat_lt n (length old.bays) ≡ true → new ≡ on_bay old n (with_unit (bay_at old n) Empty) → NoneAt new n
emptied old new n low is = ap (λ (b : Bay). disk_in b.unit) (here old new n (with_unit (bay_at old n) Empty) low (ap (λ (m : MachineState). m.bays) is))

taken_none : (n : ℕ) (old new : MachineState) (told : Result Inside PortFault) → TakesUnit n old told new
    → (nat_lt n (length old.bays) ≡ false → NoneAt new n) → NoneAt new n
taken_none n old new told h out =
    by_bool (NoneAt new n)
    (MatchBool (is_empty (bay_at old n).unit) (IsErrOf told Absent × (new ≡ on_bay old n (with_unit (bay_at old n) Empty)))
    ((told ≡ Ok (bay_at old n).unit) × (new ≡ on_bay old n (with_unit (bay_at old n) Empty))))
    (IsErrOf told NoPort × (new ≡ old)) (has_bay old n) h
    (λ low there. by_bool (NoneAt new n) (IsErrOf told Absent × (new ≡ on_bay old n (with_unit (bay_at old n) Empty)))
    ((told ≡ Ok (bay_at old n).unit) × (new ≡ on_bay old n (with_unit (bay_at old n) Empty))) (is_empty (bay_at old n).unit) there
    (λ empty is. emptied old new n low is.1) (λ full is. emptied old new n low is.1))
    (λ high is. out high)

left_none : (n : ℕ) (old new : MachineState) (told : Result Inside PortFault) → TakesUnit n old told new → NoneAt old n → NoneAt new n
left_none n old new told h none =
    by_bool (NoneAt new n)
    (MatchBool (is_empty (bay_at old n).unit) (IsErrOf told Absent × (new ≡ on_bay old n (with_unit (bay_at old n) Empty)))
    ((told ≡ Ok (bay_at old n).unit) × (new ≡ on_bay old n (with_unit (bay_at old n) Empty))))
    (IsErrOf told NoPort × (new ≡ old)) (has_bay old n) h
    (λ low there. taken_none n old new told h (λ high. absurd (false≢true (sym high ∙ low))))
    (λ high is. by_eq old new n is.1 none)

frame_none : (own low : Bool) (old new : MachineState) (n : ℕ) → is_own (bay_at old n).unit ≡ own → nat_lt n (length old.bays) ≡ low
    → new ≡ (if own then record old { bays = set old.bays n (taken_bay (bay_at old n)) } else old) → NoneAt old n → NoneAt new n
frame_none true true old new n own low is none =
    ap (λ (b : Bay). disk_in b.unit) (here old new n (taken_bay (bay_at old n)) low (ap (λ (m : MachineState). m.bays) is)) ∙ none
frame_none true false old new n own low is none =
    absurd (false≢true (sym (ap (λ (b : Bay). is_own b.unit) (get_or_past old.bays n empty_bay (ltb-false n (length old.bays) low))) ∙ own))
frame_none false low old new n own is_low is none = by_eq old new n is none

unfoldable pub not_put : Deed → Bool
not_put (Put n unit told) = false
not_put deed = true

pub stays_none : (deed : Deed) (old new : MachineState) (port : ℕ) → Does old deed new → not_put deed ≡ true → NoneAt old port → NoneAt new port
unfolding not_put
stays_none (Moved a) old new port h other none =
    same_none h.middle new port (ap (λ (m : MachineState). bay_at m port) h.turns) (move_stays a old h.middle port h.does none)
stays_none Unlent old new port h other none = same_none old new port (apart old Unlent new h port refl) none
stays_none (Wrote offset width value written) old new port h other none =
    same_none old new port (apart old (Wrote offset width value written) new h port refl) none
stays_none Powered old new port h other none = same_none old new port (apart old Powered new h port refl) none
stays_none (Supplied w bytes) old new port h other none = same_none old new port (apart old (Supplied w bytes) new h port refl) none
stays_none (Missed w) old new port h other none = same_none old new port (apart old (Missed w) new h port refl) none
stays_none (Answered id a told) old new port h other none =
    at_none id.port old new (Answered id a told) port h refl none (answered_none id a old new told h)
stays_none (Put n unit told) old new port h other none = absurd (false≢true other)
stays_none (Plugged n told) old new port h other none = same_none old new port (plugged_same n old new told port h) none
stays_none (Pulled n told) old new port h other none = at_none n old new (Pulled n told) port h refl none (pulled_none n old new told h)
stays_none (Removed n told) old new port h other none =
    at_none n old new (Removed n told) port h refl none
    (λ at. left_none n h.pulled new told h.takes (pulled_none n old h.pulled h.answer h.pulls at))
stays_none (FrameTaken n told) old new port h other none =
    at_none n old new (FrameTaken n told) port h refl none
    (frame_none (is_own (bay_at old n).unit) (nat_lt n (length old.bays)) old new n refl refl h.rest)
stays_none (FrameOffered n frame told) old new port h other none =
    same_none old new port (apart old (FrameOffered n frame told) new h port refl) none

-- a disk that is taken away is gone
removed_none : (n : ℕ) (old new : MachineState) (told : Result Inside PortFault) (d : DiskState) → (bay_at old n).unit ≡ Disk d → Removes n old told new
    → NoneAt new n
removed_none n old new told d there h =
    taken_none n h.pulled new told h.takes
    (λ high. absurd (false≢true (sym high ∙ inside h.pulled n _ (pulled_here old h.pulled h.answer n d there h.pulls).is)))

-- ---- reached

pub more : (calls later : List Call) (d : DiskState) → AreCalls d calls → AreCalls (after_calls d calls) later → AreCalls d (calls ++ later)
unfolding after_calls
more [] later d are next = next
more (c ∷ calls) later d are next = (are.0, more calls later (after_call d c) are.1 next)

pub after_more : (calls later : List Call) (d : DiskState) → after_calls d (calls ++ later) ≡ after_calls (after_calls d calls) later
unfolding after_calls
after_more [] later d = refl
after_more (c ∷ calls) later d = after_more calls later (after_call d c)

go_reached : (e d : DiskState) (calls : List Call) (now : Inside) → IsReached e → GoesOn e calls now → now ≡ Disk d → IsReached d
go_reached e d calls now r go is = record {
  profile = r.profile;
  limit = r.limit;
  room = r.room;
  calls = r.calls ++ calls;
  are = more r.calls calls (new_disk r.profile r.limit) r.are (subst (λ (x : DiskState). AreCalls x calls) r.is go.are);
  is = one_disk d (after_calls e calls) (sym is ∙ go.is) ∙ ap (λ (x : DiskState). after_calls x calls) r.is
      ∙ sym (after_more r.calls calls (new_disk r.profile r.limit));
}

pub put_at : (n : ℕ) (unit : Inside) (told : Result (Unit {0}) (Inside × PortFault)) (old new : MachineState) (d : DiskState)
    → Puts n unit old told new → NoneAt old n → (bay_at new n).unit ≡ Disk d → unit ≡ Disk d
put_at n unit told old new d h none is =
    by_bool (unit ≡ Disk d)
    (MatchBool (is_empty (bay_at old n).unit) (IsOk told × (new ≡ on_bay old n (filled (bay_at old n) unit))) (IsErrOf told (unit, Taken) × (new ≡ old)))
    (IsErrOf told (unit, NoPort) × (new ≡ old)) (has_bay old n) h
    (λ low by. by_bool (unit ≡ Disk d) (IsOk told × (new ≡ on_bay old n (filled (bay_at old n) unit))) (IsErrOf told (unit, Taken) × (new ≡ old))
    (is_empty (bay_at old n).unit) by
    (λ empty put. sym (ap (λ (b : Bay). b.unit) (here old new n (filled (bay_at old n) unit) low (ap (λ (m : MachineState). m.bays) put.1))) ∙ is)
    (λ full same. absurd (none_is (bay_at new n).unit d (by_eq old new n same.1 none) is)))
    (λ high same. absurd (none_is (bay_at new n).unit d (by_eq old new n same.1 none) is))

put_reached : (unit : Inside) (n : ℕ) (told : Result (Unit {0}) (Inside × PortFault)) (d : DiskState) → PutsReached (Put n unit told) → unit ≡ Disk d → IsReached d
put_reached (Disk e) n told d r is = subst IsReached (one_disk e d is) r
put_reached Empty n told d r is = absurd (none_is Empty d refl is)
put_reached Own n told d r is = absurd (none_is Own d refl is)

appears : (deed : Deed) (old new : MachineState) (port : ℕ) (d : DiskState) → Does old deed new → PutsReached deed → NoneAt old port
    → (bay_at new port).unit ≡ Disk d → IsReached d
unfolding not_put
appears (Put n unit told) old new port d h r none is =
    either_way (IsReached d) (n == port) n port refl
    (λ same. put_reached unit n told d r (put_at n unit told old new d h (subst (λ (k : ℕ). NoneAt old k) (sym same) none)
    (subst (λ (k : ℕ). (bay_at new k).unit ≡ Disk d) (sym same) is)))
    (λ off. absurd (none_is (bay_at new port).unit d (same_none old new port (apart old (Put n unit told) new h port off) none) is))
appears (Moved a) old new port d h r none is = absurd (none_is (bay_at new port).unit d (stays_none (Moved a) old new port h refl none) is)
appears Unlent old new port d h r none is = absurd (none_is (bay_at new port).unit d (stays_none Unlent old new port h refl none) is)
appears (Wrote offset width value written) old new port d h r none is =
    absurd (none_is (bay_at new port).unit d (stays_none (Wrote offset width value written) old new port h refl none) is)
appears Powered old new port d h r none is = absurd (none_is (bay_at new port).unit d (stays_none Powered old new port h refl none) is)
appears (Supplied w bytes) old new port d h r none is = absurd (none_is (bay_at new port).unit d (stays_none (Supplied w bytes) old new port h refl none) is)
appears (Missed w) old new port d h r none is = absurd (none_is (bay_at new port).unit d (stays_none (Missed w) old new port h refl none) is)
appears (Answered id a told) old new port d h r none is =
    absurd (none_is (bay_at new port).unit d (stays_none (Answered id a told) old new port h refl none) is)
appears (Plugged n told) old new port d h r none is = absurd (none_is (bay_at new port).unit d (stays_none (Plugged n told) old new port h refl none) is)
appears (Pulled n told) old new port d h r none is = absurd (none_is (bay_at new port).unit d (stays_none (Pulled n told) old new port h refl none) is)
appears (Removed n told) old new port d h r none is = absurd (none_is (bay_at new port).unit d (stays_none (Removed n told) old new port h refl none) is)
appears (FrameTaken n told) old new port d h r none is = absurd (none_is (bay_at new port).unit d (stays_none (FrameTaken n told) old new port h refl none) is)
appears (FrameOffered n frame told) old new port d h r none is =
    absurd (none_is (bay_at new port).unit d (stays_none (FrameOffered n frame told) old new port h refl none) is)

-- a disk that was there, and is not taken away
kept_by : (removed : Bool) (deed : Deed) (old new : MachineState) (port : ℕ) (e d : DiskState) → is_removed deed port ≡ removed → Does old deed new
    → (bay_at old port).unit ≡ Disk e → (removed ≡ true → NoneAt new port) → (bay_at new port).unit ≡ Disk d → IsReached e → IsReached d
kept_by true deed old new port e d is h there gone now r = absurd (none_is (bay_at new port).unit d (gone refl) now)
kept_by false deed old new port e d is h there gone now r =
    go_reached e d (calls_at old deed port) (bay_at new port).unit r (go_on old deed new h port e there is) now

pub removed_at : (deed : Deed) (old new : MachineState) (port : ℕ) (e : DiskState) → Does old deed new → (bay_at old port).unit ≡ Disk e
    → is_removed deed port ≡ true → NoneAt new port
removed_at (Removed n told) old new port e h there is =
    let same : n ≡ port = eqb-true n port is in
    subst (λ (k : ℕ). (bay_at old k).unit ≡ Disk e → Removes k old told new → NoneAt new k) same
    (λ at by. removed_none n old new told e at by) there (subst (λ (k : ℕ). Removes k old told new) same h)
removed_at other old new port e h there is = absurd (false≢true is)

one_deed : (deed : Deed) (old new : MachineState) → Does old deed new → PutsReached deed → AreReached old → AreReached new
one_deed deed old new h r are port d is =
    by_unit (IsReached d) (bay_at old port).unit
    (λ e there. kept_by (is_removed deed port) deed old new port e d refl h there
    (λ gone. removed_at deed old new port e h there gone) is (are port e there))
    (λ none. appears deed old new port d h r none is)

pub reached : DisksAreReached
unfolding Runs
reached old [] new run puts are = subst AreReached (sym run) are
reached old (deed ∷ later) new run puts are = reached run.next later new run.after puts.1 (one_deed deed old run.next run.does puts.0 are)

-- an opening machine has none
pub replicate_empty : (count port : ℕ) → get_or (replicate count empty_bay) port empty_bay ≡ empty_bay
replicate_empty zero port = refl
replicate_empty (suc count) zero = refl
replicate_empty (suc count) (suc port) = replicate_empty count port

pub opens : OpensReached
opens ports legacy m is port d there =
    absurd (none_is (bay_at m port).unit d (ap (λ (x : MachineState). disk_in (bay_at x port).unit) is.rest ∙ ap (λ (b : Bay). disk_in b.unit) (replicate_empty _ port)) there)

pub have : EndsAreEarned → RequestsAreApart → DataAreNamed → DisksHaveLaws
have earned apart named m are port d is = let r : IsReached d = are port d is in record {
  reached = r;
  earned = earned r.profile r.limit r.calls r.are;
  apart = apart r.profile r.limit r.calls r.are;
  named = named r.profile r.limit r.calls r.are;
}
