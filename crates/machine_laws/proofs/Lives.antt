-- Over every run each disk is the one that was put at its port, after its calls since.
use Rattle.std.proofs.Common.{◌≡◌, ℕ, Bool, true, false, List, [], ◌∷◌, ◌++◌, append-nil, Some, Result, Ok, Err, refl, sym, ap, subst, ◌∙◌}
use Rattle.std.proofs.lemmas.Bool.{eqb-true, false≢true}
use Rattle.std.specs.{Prelude.{if◌then◌else◌, ◌==◌, IsOk}, Bool.MatchBool, Result.IsErrOf}
use Rattle.sata_disk.specs.State.{DiskState}
use Rattle.sata_disk_laws.specs.Calls.{AreCalls, Call, after_calls}
use Rattle.ahci_machine.specs.{Answers.disk_in, Ports.{Puts, filled, has_bay, is_empty, on_bay}, States.{MachineState, bay_at}, declared.bay.Bay.Bay}
use Rattle.ahci_machine.specs.declared.{bay.Unit.{Unit as Inside, TheVariants.{Disk, Empty, Own}}, ports.PortFault.{PortFault, TheVariants.NoPort}}
use Rattle.ahci_machine.specs.declared.ports.PortFault.TheVariants.{Taken}
use Rattle.machine_laws.proofs.{Apart.apart, Cases.by_bool, GoOn.{go_on, one_disk}, Reach.{NoneAt, after_more, by_unit, more, none_is, not_put}}
use Rattle.machine_laws.proofs.Reach.{put_at, removed_at, replicate_empty, same_none, stays_none}
use Rattle.machine_laws.specs.{ControllerLaws.RunsRuled, Deeds.{Deed, Does, Moved, Unlent, Wrote, Powered, Supplied, Missed, Answered, Put, Plugged}}
use Rattle.machine_laws.specs.{Deeds.{Pulled, Removed, FrameTaken, FrameOffered}, Disks.{GoesOn, calls_at, is_removed}, Heard.DisksHaveLived}
use Rattle.machine_laws.specs.Heard.{HasLived, Life, life_by, life_in, no_life, put_in}

-- ---- more calls

abbrev with_calls : Life → List Call → Life
with_calls life calls = record { first = life.first; calls = life.calls ++ calls }

lives_on : (life : Life) (e d : DiskState) (calls : List Call) (now : Inside) → HasLived life e → GoesOn e calls now → now ≡ Disk d → HasLived (with_calls life calls) d
lives_on life e d calls now h go is = record {
  disk = h.disk;
  first = h.first;
  are = more life.calls calls h.disk h.are (subst (λ (x : DiskState). AreCalls x calls) h.is go.are);
  is = one_disk d (after_calls e calls) (sym is ∙ go.is) ∙ ap (λ (x : DiskState). after_calls x calls) h.is
      ∙ sym (after_more life.calls calls h.disk);
}

same_calls : (life : Life) (e d : DiskState) (now : Inside) → HasLived life e → GoesOn e [] now → now ≡ Disk d → HasLived life d
same_calls life e d now h go is =
    subst (λ (calls : List Call). HasLived (record { first = life.first; calls = calls }) d) (append-nil life.calls) (lives_on life e d [] now h go is)

-- ---- a disk is put where none was

told_ok : (unit : Inside) (d : DiskState) (told : Result (Unit {0}) (Inside × PortFault)) (was : Life) → unit ≡ Disk d → IsOk told
    → put_in unit told was ≡ record { first = Some d; calls = [] }
told_ok (Disk e) d (Ok x) was is ok = ap (λ (y : DiskState). record { first = Some y; calls = [] }) (one_disk e d is)
told_ok Empty d (Ok x) was is ok = absurd (none_is Empty d refl is)
told_ok Own d (Ok x) was is ok = absurd (none_is Own d refl is)
told_ok unit d (Err e) was is ok = absurd (false≢true ok)

begins : (d : DiskState) → HasLived (record { first = Some d; calls = [] }) d
unfolding after_calls
begins d = record { disk = d; first = refl; are = tt; is = refl }

put_lives : (n : ℕ) (unit : Inside) (told : Result (Unit {0}) (Inside × PortFault)) (old new : MachineState) (d : DiskState) (was : Life)
    → Puts n unit old told new → NoneAt old n → (bay_at new n).unit ≡ Disk d → HasLived (put_in unit told was) d
put_lives n unit told old new d was h none is =
    by_bool (HasLived (put_in unit told was) d)
    (MatchBool (is_empty (bay_at old n).unit) (IsOk told × (new ≡ on_bay old n (filled (bay_at old n) unit))) (IsErrOf told (unit, Taken) × (new ≡ old)))
    (IsErrOf told (unit, NoPort) × (new ≡ old)) (has_bay old n) h
    (λ low by. by_bool (HasLived (put_in unit told was) d) (IsOk told × (new ≡ on_bay old n (filled (bay_at old n) unit))) (IsErrOf told (unit, Taken) × (new ≡ old))
    (is_empty (bay_at old n).unit) by
    (λ empty put. subst (λ (life : Life). HasLived life d) (sym (told_ok unit d told was (put_at n unit told old new d h none is) put.0)) (begins d))
    (λ full same. absurd (none_is (bay_at new n).unit d (same_none old new n (ap (λ (m : MachineState). bay_at m n) same.1) none) is)))
    (λ high same. absurd (none_is (bay_at new n).unit d (same_none old new n (ap (λ (m : MachineState). bay_at m n) same.1) none) is))

-- ---- a disk is there already

-- nothing is put there
told_err : (unit : Inside) (told : Result (Unit {0}) (Inside × PortFault)) (fault : PortFault) (was : Life) → IsErrOf told (unit, fault) → put_in unit told was ≡ was
told_err unit (Ok x) fault was h = absurd (cc)
told_err (Disk e) (Err f) fault was h = refl
told_err Empty (Err f) fault was h = refl
told_err Own (Err f) fault was h = refl

put_full : (n : ℕ) (unit : Inside) (told : Result (Unit {0}) (Inside × PortFault)) (old new : MachineState) (e : DiskState) (was : Life)
    → Puts n unit old told new → (bay_at old n).unit ≡ Disk e → put_in unit told was ≡ was
put_full n unit told old new e was h there =
    by_bool (put_in unit told was ≡ was)
    (MatchBool (is_empty (bay_at old n).unit) (IsOk told × (new ≡ on_bay old n (filled (bay_at old n) unit))) (IsErrOf told (unit, Taken) × (new ≡ old)))
    (IsErrOf told (unit, NoPort) × (new ≡ old)) (has_bay old n) h
    (λ low by. by_bool (put_in unit told was ≡ was) (IsOk told × (new ≡ on_bay old n (filled (bay_at old n) unit))) (IsErrOf told (unit, Taken) × (new ≡ old))
    (is_empty (bay_at old n).unit) by
    (λ empty put. absurd (false≢true (sym (ap is_empty there) ∙ empty)))
    (λ full same. told_err unit told Taken was same.0))
    (λ high same. told_err unit told NoPort was same.0)

-- ---- each deed

abbrev Lives : ℕ → MachineState → Life → Type 0
Lives n m life = (d : DiskState) → (bay_at m n).unit ≡ Disk d → HasLived life d

-- one that is put at a port, where a disk is or none
put_by : (at_it : Bool) (k n : ℕ) (unit : Inside) (told : Result (Unit {0}) (Inside × PortFault)) (old new : MachineState) (was : Life) → (k == n) ≡ at_it
    → Puts k unit old told new → Lives n old was → Lives n new (if at_it then put_in unit told was else was)
put_by true k n unit told old new was is h lives d now =
    let same : k ≡ n = eqb-true k n is in
    let puts : Puts n unit old told new = subst (λ (j : ℕ). Puts j unit old told new) same h in
    by_unit (HasLived (put_in unit told was) d) (bay_at old n).unit
    (λ e there. subst (λ (life : Life). HasLived life d) (sym (put_full n unit told old new e was puts there))
    (same_calls was e d (bay_at new n).unit (lives e there) (go_on old (Put n unit told) new puts n e there refl) now))
    (λ none. put_lives n unit told old new d was puts none now)
put_by false k n unit told old new was is h lives d now =
    let same : bay_at new n ≡ bay_at old n = apart old (Put k unit told) new h n is in
    lives d (sym (ap (λ (b : Bay). b.unit) same) ∙ now)

-- any other deed
other_by : (removed : Bool) (deed : Deed) (old new : MachineState) (n : ℕ) (was : Life) (e d : DiskState) → is_removed deed n ≡ removed → Does old deed new
    → (bay_at old n).unit ≡ Disk e → HasLived was e → (bay_at new n).unit ≡ Disk d → HasLived (with_calls was (calls_at old deed n)) d
other_by true deed old new n was e d is h there lived now = absurd (none_is (bay_at new n).unit d (removed_at deed old new n e h there is) now)
other_by false deed old new n was e d is h there lived now =
    lives_on was e d (calls_at old deed n) (bay_at new n).unit lived (go_on old deed new h n e there is) now

other : (deed : Deed) (old new : MachineState) (n : ℕ) (was : Life) → Does old deed new → not_put deed ≡ true → Lives n old was
    → Lives n new (with_calls was (calls_at old deed n))
other deed old new n was h not lives d now =
    by_unit (HasLived (with_calls was (calls_at old deed n)) d) (bay_at old n).unit
    (λ e there. other_by (is_removed deed n) deed old new n was e d refl h there (lives e there) now)
    (λ none. absurd (none_is (bay_at new n).unit d (stays_none deed old new n h not none) now))

one_deed : (deed : Deed) (old new : MachineState) (n : ℕ) (was : Life) → Does old deed new → Lives n old was → Lives n new (life_by n old deed was)
unfolding not_put
one_deed (Put k unit told) old new n was h lives = put_by (k == n) k n unit told old new was refl h lives
one_deed (Moved a) old new n was h lives = other (Moved a) old new n was h refl lives
one_deed Unlent old new n was h lives = other Unlent old new n was h refl lives
one_deed (Wrote offset width value written) old new n was h lives = other (Wrote offset width value written) old new n was h refl lives
one_deed Powered old new n was h lives = other Powered old new n was h refl lives
one_deed (Supplied w bytes) old new n was h lives = other (Supplied w bytes) old new n was h refl lives
one_deed (Missed w) old new n was h lives = other (Missed w) old new n was h refl lives
one_deed (Answered id a told) old new n was h lives = other (Answered id a told) old new n was h refl lives
one_deed (Plugged k told) old new n was h lives = other (Plugged k told) old new n was h refl lives
one_deed (Pulled k told) old new n was h lives = other (Pulled k told) old new n was h refl lives
one_deed (Removed k told) old new n was h lives = other (Removed k told) old new n was h refl lives
one_deed (FrameTaken k told) old new n was h lives = other (FrameTaken k told) old new n was h refl lives
one_deed (FrameOffered k frame told) old new n was h lives = other (FrameOffered k frame told) old new n was h refl lives

all : (n : ℕ) (was : Life) (old : MachineState) (deeds : List Deed) (new : MachineState) (run : RunsRuled old deeds new) → Lives n old was
    → Lives n new (life_in n was old deeds new run)
all n was old [] new run lives = subst (λ (m : MachineState). Lives n m was) (sym run.1) lives
all n was old (deed ∷ later) new run lives =
    all n (life_by n old deed was) run.1.0 later new run.1.2 (one_deed deed old run.1.0 n was run.1.1 lives)

pub have_lived : DisksHaveLived
have_lived ports legacy old is deeds now run n =
    all n no_life old deeds now run
    (λ d there. absurd (none_is (bay_at old n).unit d
    (ap (λ (x : MachineState). disk_in (bay_at x n).unit) is.rest ∙ ap (λ (b : Bay). disk_in b.unit) (replicate_empty _ n)) there))
