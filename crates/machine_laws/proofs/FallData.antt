-- The Data FIS that is read for a device has the bytes that came for it.
use Rattle.std.proofs.Common.{◌≡◌, ℕ, zero, suc, ◌+◌, ◌-◌, ◌≤◌, ◌<◌, Bool, true, false, List, [], ◌∷◌, ◌++◌, length, take, drop, replicate, get_or}
use Rattle.std.proofs.{Common.{set, Option, Some, None, Result, Ok, Err, refl, sym, ap, subst, ◌∙◌, inl, inr, arith}, lemmas.Bool.{eqb-true}}
use Rattle.std.proofs.lemmas.{Bool.{eqb-false, false≢true, lt-ltb}, List.{length-append, length-take-le, take_all}}
use Rattle.std.specs.{Prelude.{◌==◌, if◌then◌else◌, nat_lt, MatchOption}, declared.alloc.AllocError.AllocError}
use Rattle.ahci_controller.specs.{Feeding.Places, declared.{feeding.Fed.Fed, next.Next.Next}}
use Rattle.ahci_controller.specs.declared.feeding.Fed.TheVariants as fed
use Rattle.ahci_controller.specs.declared.next.Next.TheVariants as next
use Rattle.ahci_machine.specs.Acts as acts
use Rattle.ahci_machine.specs.{Acts.{with_controller, with_gathering}, Answers.{IsStale, MissesFor, MissesMachine, SuppliesData, SuppliesMachine}}
use Rattle.ahci_machine.specs.{Answers.{is_own, is_wanted, taken_bay, told_of}, Gathers.{GatheringState, Supplies, asked_for, opening_gathering}}
use Rattle.ahci_machine.specs.{Gathers.{overwritten, with_part}, Registers.{link_stays, renewed}, States.{MachineState, bay_at, gathering_at}}
use Rattle.ahci_machine.specs.declared.{act.Act.Act, answers.Told.Told, gathering.Feed.Feed, request.{GuestRead.GuestRead, Wanted.Wanted}}
use Rattle.ahci_machine.specs.declared.request.Wanted.TheVariants.{Command, Data}
use Rattle.ahci_machine.specs.declared.act.Act.TheVariants as act
use Rattle.machine_laws.proofs.{Beside.{Beside, inner}, Cases.{by_bool, by_option}, Due.{stays_due, there_is}}
use Rattle.machine_laws.proofs.Beside as beside
use Rattle.machine_laws.specs.{Controllers.IsGathered, Deeds.{Deed, Does, Moved, Unlent, Wrote, Powered, Missed, Answered, Put, Plugged, Pulled}}
use Rattle.machine_laws.specs.{Deeds.{Removed, FrameTaken, FrameOffered, Supplied as Came}, Feeding.{DataIsAskedInOrder, DataIsRead, DataIsWhatCame}}
use Rattle.machine_laws.specs.Feeding.{IsReadSoFar, IsReading, OpensUnread, came_by, data_with, with_more}

-- ---- bytes

take_front : (a b : List ℕ) → take (length a) (a ++ b) ≡ a
take_front [] b = refl
take_front (x ∷ a) b = ap (λ (l : List ℕ). x ∷ l) (take_front a b)

part_taken : (bytes part : List ℕ) (at : ℕ) → at + length part ≤ length bytes → take (at + length part) (overwritten bytes at part) ≡ take at bytes ++ part
part_taken bytes part at fits =
    ap (λ (n : ℕ). take n ((take at bytes ++ part) ++ drop (at + length part) bytes)) (sym long)
    ∙ take_front (take at bytes ++ part) (drop (at + length part) bytes)
  where
    long : length (take at bytes ++ part) ≡ at + length part
    long = length-append (take at bytes) part ∙ ap (λ (n : ℕ). n + length part) (length-take-le at bytes (omega (arith, fits)))

-- a part comes behind those that came
part_read : (dev : ℕ) (came : List ℕ) (g : GatheringState) (part : List ℕ) → 4 + g.done + length part ≤ length g.bytes → IsReadSoFar dev came g
    → IsReadSoFar dev (came ++ part) (with_part g part)
part_read dev came g part fits h = record {
  done = ap (λ (n : ℕ). n + length part) h.done ∙ sym (length-append came part);
  bytes = ap (λ (n : ℕ). take n (overwritten g.bytes (4 + g.done) part)) (again g.done (length part))
      ∙ part_taken g.bytes part (4 + g.done) fits
      ∙ ap (λ (l : List ℕ). l ++ part) h.bytes;
}
  where
    again : (a b : ℕ) → 4 + (a + b) ≡ 4 + a + b
    again a b = omega arith

-- ---- what is read for a device

abbrev nobody : Option GatheringState
nobody = None

abbrev Reading : List (Option GatheringState) → (dev : ℕ) → List ℕ → Type 0
Reading l dev came = MatchOption (get_or l dev None) (Unit {0}) (IsReadSoFar dev came)

reading_set : (P : GatheringState → Type 0) (l : List (Option GatheringState)) (k dev : ℕ) (o : Option GatheringState) → (k ≡ dev → MatchOption o (Unit {0}) P)
    → MatchOption (get_or l dev None) (Unit {0}) P → MatchOption (get_or (set l k o) dev None) (Unit {0}) P
reading_set P [] k dev o here h = h
reading_set P (x ∷ l) zero zero o here h = here refl
reading_set P (x ∷ l) zero (suc dev) o here h = h
reading_set P (x ∷ l) (suc k) zero o here h = h
reading_set P (x ∷ l) (suc k) (suc dev) o here h = reading_set P l k dev o (λ e. here (ap suc e)) h

reading_new : (P : GatheringState → Type 0) (l : List (Option GatheringState)) (dev : ℕ) (o : Option GatheringState) → MatchOption o (Unit {0}) P
    → MatchOption (get_or (set l dev o) dev None) (Unit {0}) P
reading_new P [] dev o h = tt
reading_new P (x ∷ l) zero o h = h
reading_new P (x ∷ l) (suc dev) o h = reading_new P l dev o h

same : (old new : MachineState) (dev : ℕ) (came : List ℕ) → new.gathering ≡ old.gathering → IsReading old dev came → IsReading new dev came
same old new dev came is h = subst (λ (l : List (Option GatheringState)). Reading l dev came) (sym is) h

-- what was read for a device is read no more, or goes on
gone : (old new : MachineState) (k dev : ℕ) (came : List ℕ) → new.gathering ≡ set old.gathering k None → IsReading old dev came → IsReading new dev came
gone old new k dev came is h =
    subst (λ (l : List (Option GatheringState)). Reading l dev came) (sym is) (reading_set (IsReadSoFar dev came) old.gathering k dev None (λ e. tt) h)

at_it : (m : MachineState) (dev : ℕ) (came : List ℕ) (g : GatheringState) → gathering_at m dev ≡ Some g → IsReading m dev came → IsReadSoFar dev came g
at_it m dev came g is h = subst (λ (o : Option GatheringState). MatchOption o (Unit {0}) (IsReadSoFar dev came)) is h

none_of : (n i : ℕ) → get_or (replicate n nobody) i None ≡ None
none_of zero i = refl
none_of (suc n) zero = refl
none_of (suc n) (suc i) = none_of n i

none_read : (m : MachineState) (dev : ℕ) (came : List ℕ) → m.gathering ≡ replicate 16 None → IsReading m dev came
none_read m dev came is =
    subst (λ (o : Option GatheringState). MatchOption o (Unit {0}) (IsReadSoFar dev came))
    (sym (ap (λ (l : List (Option GatheringState)). get_or l dev None) is ∙ none_of 16 dev)) tt

-- ---- moves

begins_by : (here low : Bool) (d dev : ℕ) (f : Feed) (old new : MachineState) (came : List ℕ) → dev < 16 → (d == dev) ≡ here → nat_lt d 16 ≡ low → f.dev ≡ d
    → new.gathering ≡ (if low then set old.gathering d (Some (opening_gathering f)) else old.gathering)
    → IsReading old dev came → IsReading new dev (if here then [] else came)
begins_by true true d dev f old new came small is low own set_is h =
    subst (λ (l : List (Option GatheringState)). Reading l dev []) (sym set_is)
    (subst (λ (j : ℕ). MatchOption (get_or (set old.gathering j (Some (opening_gathering f))) dev None) (Unit {0}) (IsReadSoFar dev [])) (sym (eqb-true d dev is))
    (reading_new (IsReadSoFar dev []) old.gathering dev (Some (opening_gathering f))
    (record { done = refl; bytes = ap (λ (j : ℕ). data_with j []) (own ∙ eqb-true d dev is) })))
begins_by true false d dev f old new came small is low own set_is h =
    absurd (false≢true (sym low ∙ lt-ltb d 16 (subst (λ (j : ℕ). j < 16) (sym (eqb-true d dev is)) small)))
begins_by false true d dev f old new came small off low own set_is h =
    subst (λ (l : List (Option GatheringState)). Reading l dev came) (sym set_is)
    (reading_set (IsReadSoFar dev came) old.gathering d dev (Some (opening_gathering f)) (λ e. absurd (eqb-false d dev off e)) h)
begins_by false false d dev f old new came small off low own set_is h = same old new dev came set_is h

goes_by : (answer : Fed) (g : GatheringState) (base new : MachineState) → acts.GoesBy answer g base new → new.gathering ≡ base.gathering
goes_by (fed.Goes message line) g base new h = ap (λ (m : MachineState). m.gathering) h
goes_by other g base new h = ap (λ (m : MachineState). m.gathering) h

rests_by : (old new : MachineState) → acts.RestsNow old new → new.gathering ≡ old.gathering
rests_by old new (inl h) = ap (λ (m : MachineState). m.gathering) h
rests_by old new (inr h) = ap (λ (m : MachineState). m.gathering) h.rest

wants : (old new : MachineState) (read : GuestRead) (dev : ℕ) (came : List ℕ) → acts.WantsNext read old new → IsReading old dev came → IsReading new dev came
wants old new read dev came h was =
    subst (λ (l : List (Option GatheringState)). Reading l dev came) (sym (ap (λ (m : MachineState). m.gathering) h.rest))
    (reading_set (IsReadSoFar dev came) old.gathering h.dev dev (Some (asked_for h.gathering read.len))
    (λ e. let is : IsReadSoFar dev came h.gathering = at_it old dev came h.gathering (subst (λ (j : ℕ). gathering_at old j ≡ Some h.gathering) e h.there) was in
    record { done = is.done; bytes = is.bytes }) was)

-- what came, after a move
abbrev came_said : (dev : ℕ) → Next → List ℕ → List ℕ
came_said dev (next.Feed d number slot offset len) came = if d == dev then [] else came
came_said dev said came = came

abbrev came_moved : (dev : ℕ) → Act → List ℕ → List ℕ
came_moved dev (act.Does said) came = came_said dev said came
came_moved dev a came = came

does : (dev : ℕ) (said : Next) (old middle : MachineState) (came : List ℕ) → dev < 16 → acts.DoesBy said old middle → IsReading old dev came
    → IsReading middle dev (came_said dev said came)
does dev (next.Feed d number slot offset len) old middle came small h was =
    begins_by (d == dev) (nat_lt d 16) d dev (record { dev = d; number = number; slot = slot; offset = offset; len = len }) old middle came small refl refl refl
    (ap (λ (m : MachineState). m.gathering) h) was
does dev (next.Order d slot fis) old middle came small h was = same old middle dev came (ap (λ (m : MachineState). m.gathering) h.1) was
does dev other old middle came small h was = same old middle dev came (ap (λ (m : MachineState). m.gathering) h) was

quiet : (old middle : MachineState) (dev : ℕ) (came : List ℕ) → Beside old middle → IsReading old dev came → IsReading middle dev came
quiet old middle dev came is was = same old middle dev came (ap (λ i. i.2) is) was

moves : (dev : ℕ) → dev < 16 → (a : Act) (old middle : MachineState) (came : List ℕ) → acts.Does old a middle → IsReading old dev came → IsReading middle dev (came_moved dev a came)
moves dev small act.Rests old middle came h was = same old middle dev came (rests_by old middle h) was
moves dev small (act.Line b) old middle came h was = same old middle dev came (ap (λ (m : MachineState). m.gathering) h.2) was
moves dev small act.Message old middle came h was = same old middle dev came (ap (λ (m : MachineState). m.gathering) h.1) was
moves dev small (act.Does said) old middle came h was = does dev said old middle came small h.does was
moves dev small (act.Wants read) old middle came h was = wants old middle read dev came h was
moves dev small (act.Gathers d answer) old middle came h was =
    gone old middle h.place dev came (goes_by answer h.gathering (with_controller (with_gathering old h.place None) middle.controller) middle h.gathers.goes) was
moves dev small (act.Misses slot answer) old middle came h was = gone old middle h.place dev came (ap (λ (m : MachineState). m.gathering) h.misses.rest) was
moves dev small other old middle came h was = same old middle dev came (ap (λ (m : MachineState). m.gathering) h.rest) was

-- ---- bytes that come

kept_by : (here kept : Bool) (d dev number done : ℕ) (bytes came : List ℕ) (old new : MachineState) (it : Told) (g after : GatheringState) → (d == dev) ≡ here
    → gathering_at old d ≡ Some g → Supplies g number done bytes kept after → it ≡ told_of kept → new.gathering ≡ set old.gathering d (Some after)
    → IsReading old dev came → IsReading new dev (if here then with_more (Ok it) came bytes else came)
kept_by true true d dev number done bytes came old new it g after is there s it_is set_is was =
    subst (λ (t : Told). IsReading new dev (with_more (Ok t) came bytes)) (sym it_is)
    (subst (λ (l : List (Option GatheringState)). Reading l dev (came ++ bytes)) (sym set_is)
    (subst (λ (j : ℕ). MatchOption (get_or (set old.gathering j (Some after)) dev None) (Unit {0}) (IsReadSoFar dev (came ++ bytes))) (sym (eqb-true d dev is))
    (reading_new (IsReadSoFar dev (came ++ bytes)) old.gathering dev (Some after)
    (subst (IsReadSoFar dev (came ++ bytes)) (sym s.rest)
    (part_read dev came g bytes (s.fits refl) (at_it old dev came g (subst (λ (j : ℕ). gathering_at old j ≡ Some g) (eqb-true d dev is) there) was))))))
kept_by true false d dev number done bytes came old new it g after is there s it_is set_is was =
    subst (λ (t : Told). IsReading new dev (with_more (Ok t) came bytes)) (sym it_is)
    (subst (λ (l : List (Option GatheringState)). Reading l dev came) (sym set_is)
    (reading_set (IsReadSoFar dev came) old.gathering d dev (Some after)
    (λ e. subst (IsReadSoFar dev came) (sym s.rest) (at_it old dev came g (subst (λ (j : ℕ). gathering_at old j ≡ Some g) e there) was)) was))
kept_by false kept d dev number done bytes came old new it g after off there s it_is set_is was =
    subst (λ (l : List (Option GatheringState)). Reading l dev came) (sym set_is)
    (reading_set (IsReadSoFar dev came) old.gathering d dev (Some after) (λ e. absurd (eqb-false d dev off e)) was)

stale_by : (here : Bool) (dev : ℕ) (bytes came : List ℕ) (old new : MachineState) (it : Told) → IsStale old it new → IsReading old dev came
    → IsReading new dev (if here then with_more (Ok it) came bytes else came)
stale_by true dev bytes came old new it h was =
    subst (λ (t : Told). IsReading new dev (with_more (Ok t) came bytes)) (sym h.0) (same old new dev came (ap (λ (m : MachineState). m.gathering) h.1) was)
stale_by false dev bytes came old new it h was = same old new dev came (ap (λ (m : MachineState). m.gathering) h.1) was

supplied_data : (dev d number done : ℕ) (bytes came : List ℕ) (old : MachineState) (answer : Result Told AllocError) (new : MachineState)
    → SuppliesMachine (Data d number done) bytes old answer new → IsReading old dev came → IsReading new dev (if d == dev then with_more answer came bytes else came)
supplied_data dev d number done bytes came old (Ok it) new h was =
    by_bool (IsReading new dev (if d == dev then with_more (Ok it) came bytes else came))
    (MatchOption (gathering_at old d) (IsStale old it new) (λ g. SuppliesData g d number done bytes old it new)) (IsStale old it new) (nat_lt d 16) h
    (λ low some. by_option GatheringState (IsReading new dev (if d == dev then with_more (Ok it) came bytes else came)) (IsStale old it new) (λ g. SuppliesData g d number done bytes old it new)
    (gathering_at old d) some
    (λ none is. stale_by (d == dev) dev bytes came old new it is was)
    (λ g there s. kept_by (d == dev) s.kept d dev number done bytes came old new it g s.after refl there s.supplies s.is (ap (λ (m : MachineState). m.gathering) s.rest) was))
    (λ high is. stale_by (d == dev) dev bytes came old new it is was)
supplied_data dev d number done bytes came old (Err e) new h was = absurd h

missed : (w : Wanted) (dev : ℕ) (came : List ℕ) (old new : MachineState) (answer : Result Told AllocError) → MissesMachine w old answer new → IsReading old dev came → IsReading new dev came
missed (Command slot number) dev came old new answer h was = same old new dev came (ap (λ (m : MachineState). m.gathering) h.rest) was
missed (Data d number done) dev came old new (Ok it) h was =
    by_bool (IsReading new dev came) (MatchOption (gathering_at old d) ⊥ (λ g. MissesFor g d old it new)) (IsStale old it new) (is_wanted old d number done) h
    (λ low some. by_option GatheringState (IsReading new dev came) ⊥ (λ g. MissesFor g d old it new) (gathering_at old d) some
    (λ none off. absurd off) (λ g there s. gone old new d dev came (ap (λ (m : MachineState). m.gathering) s.misses.rest) was))
    (λ high is. same old new dev came (ap (λ (m : MachineState). m.gathering) is.1) was)
missed (Data d number done) dev came old new (Err e) h was = absurd h

-- ---- deeds

wrote_by : (b : Bool) (old m new : MachineState) (dev : ℕ) (came : List ℕ) → m.gathering ≡ old.gathering → new ≡ (if b then m else renewed m) → IsReading old dev came → IsReading new dev came
wrote_by true old m new dev came kept is was = same old new dev came (ap (λ (x : MachineState). x.gathering) is ∙ kept) was
wrote_by false old m new dev came kept is was = none_read new dev came (ap (λ (x : MachineState). x.gathering) is)

moved : (dev : ℕ) → dev < 16 → (a : Act) (old new : MachineState) (came : List ℕ) → Does old (Moved a) new → IsReading old dev came → IsReading new dev (came_moved dev a came)
moved dev small a old new came h was =
    same h.middle new dev (came_moved dev a came) (ap (λ (m : MachineState). m.gathering) h.turns) (moves dev small a old h.middle came h.does was)

-- what came is the same by either word
came_is : (dev : ℕ) (a : Act) (old new : MachineState) (h : Does old (Moved a) new) (came : List ℕ) → came_by dev old (Moved a) new h came ≡ came_moved dev a came
came_is dev act.Rests old new h came = refl
came_is dev (act.Does (next.Feed d number slot offset len)) old new h came = refl
came_is dev other old new h came = refl

supplied : (w : Wanted) (bytes : List ℕ) (dev : ℕ) (old new : MachineState) (h : Does old (Came w bytes) new) (came : List ℕ) → IsReading old dev came
    → IsReading new dev (came_by dev old (Came w bytes) new h came)
supplied (Command slot number) bytes dev old new h came was = same old new dev came (ap (λ (m : MachineState). m.gathering) h.supplies.rest) was
supplied (Data d number done) bytes dev old new h came was = supplied_data dev d number done bytes came old h.answer new h.supplies was

deeds : (dev : ℕ) → dev < 16 → (old : MachineState) (deed : Deed) (new : MachineState) (h : Does old deed new) (came : List ℕ) → IsReading old dev came
    → IsReading new dev (came_by dev old deed new h came)
deeds dev small old (Moved a) new h came was =
    subst (IsReading new dev) (sym (came_is dev a old new h came)) (moved dev small a old new came h was)
deeds dev small old Unlent new h came was = same old new dev came (ap (λ (m : MachineState). m.gathering) h) was
deeds dev small old (Wrote offset width value written) new h came was = wrote_by (link_stays written) old _ new dev came refl h.rest was
deeds dev small old Powered new h came was = none_read new dev came (ap (λ (m : MachineState). m.gathering) h)
deeds dev small old (Came w bytes) new h came was = supplied w bytes dev old new h came was
deeds dev small old (Missed w) new h came was = missed w dev came old new h.answer h.misses was
deeds dev small old (Answered id a told) new h came was = quiet old new dev came (beside.answered id a old new told h) was
deeds dev small old (Put k unit told) new h came was = quiet old new dev came (beside.put k unit old new told h) was
deeds dev small old (Plugged k told) new h came was = quiet old new dev came (beside.plugged k old new told h) was
deeds dev small old (Pulled k told) new h came was = quiet old new dev came (beside.pulled k old new told h) was
deeds dev small old (Removed k told) new h came was =
    quiet old new dev came (beside.taken k h.pulled new told h.takes ∙ beside.pulled k old h.pulled h.answer h.pulls) was
deeds dev small old (FrameTaken k told) new h came was =
    quiet old new dev came (beside.frame_by (is_own (bay_at old k).unit) old new k (taken_bay (bay_at old k)) h.rest) was
deeds dev small old (FrameOffered k frame told) new h came was = quiet old new dev came (ap inner h.rest) was

-- ---- the laws

pub opens : OpensUnread
opens ports legacy m h dev = none_read m dev [] (ap (λ (x : MachineState). x.gathering) h.rest)

pub read : DataIsRead
read dev small old [] new run due came was = same old new dev came (ap (λ (m : MachineState). m.gathering) run.1) was
read dev small old (deed ∷ later) new run due came was =
    read dev small run.1.0 later new run.1.2 (stays_due old deed run.1.0 run.1.1 due) (came_by dev old deed run.1.0 run.1.1 came)
    (deeds dev small old deed run.1.0 run.1.1 came was)

pub what_came : DataIsWhatCame
what_came old dev answer new h due came was =
    let g : GatheringState = h.does.gathering in
    let is : IsGathered old.controller old.kept h.does.place g = there_is old h.does.place g h.does.there due in
    let here : h.does.place ≡ dev = sym is.own ∙ sym h.does.gathers.is in
    let so : IsReadSoFar dev came g = at_it old dev came g (subst (λ (j : ℕ). gathering_at old j ≡ Some g) here h.does.there) was in
    sym (take_all (4 + g.done) g.bytes (all_of g.done g.feed.len (length g.bytes) h.does.whole.1 is.whole)) ∙ so.bytes
  where
    all_of : (done len long : ℕ) → done ≡ len → long ≡ 4 + len → long ≤ 4 + done
    all_of done len long a b = omega (arith, a, b)

abbrev data_dev : ℕ → Wanted → ℕ
data_dev other (Data dev number done) = dev
data_dev other (Command slot number) = other

pub in_order : DataIsAskedInOrder
in_order old asked new h due dev number done is came was =
    let w = h.does in
    let g : GatheringState = w.gathering in
    let gathered : IsGathered old.controller old.kept w.dev g = there_is old w.dev g w.there due in
    let reads = w.waits.2 in
    let own : g.feed.dev ≡ dev = ap (λ (r : GuestRead). data_dev dev r.wanted) (sym reads.is) ∙ ap (data_dev dev) is in
    let there : gathering_at old dev ≡ Some g = subst (λ (j : ℕ). gathering_at old j ≡ Some g) (sym gathered.own ∙ own) w.there in
    let so : IsReadSoFar dev came g = at_it old dev came g there was in
    record {
      reading = g;
      there = there;
      moves = reads.moves;
      first = reads.first;
      places = subst (λ (n : ℕ). Places old.controller g.feed.slot (g.feed.offset + n) (g.feed.len - n) (Some reads.moves)) so.done reads.places;
      head = reads.head;
      is = reads.is ∙ ap (λ (k : ℕ). record { wanted = Data k g.feed.number g.done; at = reads.first.at; len = reads.first.len }) own
          ∙ ap (λ (n : ℕ). record { wanted = Data dev g.feed.number n; at = reads.first.at; len = reads.first.len }) so.done;
    }
