-- What a machine gathers for a device is as long as its controller waits for, over every deed.
use Rattle.std.proofs.Common.{◌≡◌, ◌≢◌, ℕ, ◌+◌, ◌≤◌, Bool, true, false, List, ◌++◌, get_or, set, length, take, drop, replicate, Option, None, Some}
use Rattle.std.proofs.Common.{Result, Ok, Err, refl, sym, ap, subst, ◌∙◌, inl, inr, arith, get_or-set_same, get_or-set_other, length-set, length-take}
use Rattle.std.proofs.{Common.{length-drop, length-append}, lemmas.Bool.{cases_Bool, cases_eq, false≢true, ltb-false, ltb-true, ne_eqb}}
use Rattle.std.proofs.lemmas.List.{get_or_past, get_or-replicate, length-replicate}
use Rattle.std.specs.{Prelude.{◌⊎◌, ◌||◌, if◌then◌else◌, IfSome, MatchOption, nat_lt}, declared.alloc.AllocError.AllocError}
use Rattle.ahci_controller.specs.{States.ControllerState, declared.{feeding.Fed.Fed, next.Next.Next}}
use Rattle.ahci_controller.specs.declared.feeding.Fed.TheVariants as fed
use Rattle.ahci_controller.specs.declared.next.Next.TheVariants as next
use Rattle.ahci_machine.specs.Acts as acts
use Rattle.ahci_machine.specs.{Acts.{DoesBy, GoesBy, MissesOf, TurnsNext, kept_of, with_controller, with_gathering}, Answers.{IsStale, MissesFor}}
use Rattle.ahci_machine.specs.{Answers.{MissesMachine, SuppliesData, SuppliesMachine, is_own, is_wanted, taken_bay}, Gathers.GatheringState}
use Rattle.ahci_machine.specs.{Gathers.{Supplies, asked_for, opening_gathering, overwritten, with_part}, Registers.{for_host, kept_if, kept_powered}}
use Rattle.ahci_machine.specs.{Registers.{link_stays, message_of, powered, renewed}, States.{MachineState, bay_at, gathering_at}}
use Rattle.ahci_machine.specs.declared.{act.Act.Act, answers.Told.Told, request.Wanted.{Wanted, TheVariants.{Command, Data}}}
use Rattle.ahci_machine.specs.declared.act.Act.TheVariants as act
use Rattle.machine_laws.proofs.{Beside.{Beside, inner}, Cases.{by_bool, by_option}, Wants.{Stays, IsTurned, due_stays, fed_low, gather_stays}}
use Rattle.machine_laws.proofs.Wants.{miss_stays, not_there_stays, supply_stays, take_stays, turned, unmoved, write_stays, written_stays}
use Rattle.machine_laws.proofs.Beside as beside
use Rattle.machine_laws.specs.{Controllers.{AreDue, GathersDue, IsGathered, OpensDue, SaysDue, StaysDue, is_feed_to, is_kept_for}, Deeds.Moved}
use Rattle.machine_laws.specs.Deeds.{Unlent, Wrote, Powered, Supplied, Missed, Answered, Put, Plugged, Pulled, Removed, FrameTaken, FrameOffered}

abbrev AllStay : ControllerState → ControllerState → Type 0
AllStay c d = (p n : ℕ) → Stays p n c d

-- ---- one place

some_is : {A : Type 0} (x : A) (o : Option A) (P : A → Type 0) → o ≡ Some x → P x → IfSome o P
some_is x o P is h = subst (λ q. IfSome q P) (sym is) h

none_is : {A : Type 0} (o : Option A) (P : A → Type 0) → o ≡ None → IfSome o P
none_is o P is = subst (λ q. IfSome q P) (sym is) tt

each : {A : Type 0} (o : Option A) (P Q : A → Type 0) → ((x : A) → o ≡ Some x → P x → Q x) → IfSome o P → IfSome o Q
each None P Q f h = tt
each (Some x) P Q f h = f x refl h

says_stay : (said : Next) (c d : ControllerState) → AllStay c d → SaysDue c said → SaysDue d said
says_stay (next.Feed dev number slot offset len) c d stays h = due_stays dev number len c d (stays dev number) h
says_stay other c d stays h = tt

gathered_stays : (dev : ℕ) (kept : Option Next) (g : GatheringState) (c d : ControllerState) → AllStay c d → IsGathered c kept dev g → IsGathered d kept dev g
gathered_stays dev kept g c d stays h = record {
  own = h.own;
  whole = h.whole;
  due = λ off. due_stays dev g.feed.number g.feed.len c d (stays dev g.feed.number) (h.due off);
}

-- the controller alone moved
record Moves (old new : MachineState) : Type 0 where
  kept : new.kept ≡ old.kept
  gathering : new.gathering ≡ old.gathering

stay : (old new : MachineState) → AllStay old.controller new.controller → Moves old new → GathersDue old → GathersDue new
stay old new stays moves h = record {
  kept = subst (λ (o : Option Next). IfSome o (SaysDue new.controller)) (sym moves.kept) (each old.kept (SaysDue old.controller) (SaysDue new.controller) (λ said is was. says_stay said old.controller new.controller stays was) h.kept);
  gathering = λ dev.
      subst (λ (o : Option Next). IfSome (gathering_at new dev) (IsGathered new.controller o dev)) (sym moves.kept)
      (subst (λ (l : List (Option GatheringState)). IfSome (get_or l dev None) (IsGathered new.controller old.kept dev)) (sym moves.gathering)
      (each (gathering_at old dev) (IsGathered old.controller old.kept dev) (IsGathered new.controller old.kept dev) (λ g is was. gathered_stays dev old.kept g old.controller new.controller stays was) (h.gathering dev)));
}

-- nothing of it moved
beside_due : (old new : MachineState) → Beside old new → GathersDue old → GathersDue new
beside_due old new same =
    stay old new (λ p n. unmoved p n old.controller new.controller (ap (λ i. i.0) same)) (record { kept = ap (λ i. i.1) same; gathering = ap (λ i. i.2) same })

none_at : (dev : ℕ) → get_or (replicate {A = Option GatheringState} 16 None) dev None ≡ None
none_at dev = elim (cases_Bool (nat_lt dev 16)) [
  | inl inside ↦ get_or-replicate 16 dev None None (ltb-true dev 16 inside)
  | inr outside ↦ get_or_past (replicate {A = Option GatheringState} 16 None) dev None (let past = ltb-false dev 16 outside in past)
]

-- nothing is gathered any more
nothing_due : (m : MachineState) → m.kept ≡ None → m.gathering ≡ replicate 16 None → GathersDue m
nothing_due m kept gathering = record {
  kept = none_is m.kept (SaysDue m.controller) kept;
  gathering = λ dev. none_is (gathering_at m dev) (IsGathered m.controller m.kept dev) (ap (λ (l : List (Option GatheringState)). get_or l dev None) gathering ∙ none_at dev);
}

-- power comes: what is kept was due before, and nothing is gathered
kept_by : (P : Next → Type 0) (on : Bool) (said : Next) → P said → IfSome (kept_if on said) P
kept_by P true said h = h
kept_by P false said h = tt

kept_on : (P : Next → Type 0) (o : Option Next) → IfSome o P → IfSome (kept_powered o) P
kept_on P None h = h
kept_on P (Some said) h = kept_by P (for_host said) said h

powered_due : (m : MachineState) → GathersDue m → GathersDue (powered m)
powered_due m due = record {
  kept = kept_on (SaysDue m.controller) m.kept due.kept;
  gathering = λ dev. none_is (gathering_at (powered m) dev) (IsGathered m.controller (kept_powered m.kept) dev) (none_at dev);
}

-- what is put in its place is there, or there is no such place
set_here : (l : List (Option GatheringState)) (dev : ℕ) (x : Option GatheringState) → (get_or (set l dev x) dev None ≡ x) ⊎ (get_or (set l dev x) dev None ≡ None)
set_here l dev x = elim (cases_Bool (nat_lt dev (length l))) [
  | inl inside ↦ inl (get_or-set_same l dev x None (ltb-true dev (length l) inside))
  | inr outside ↦ inr (get_or_past (set l dev x) dev None (let past = ltb-false dev (length l) outside in let same = length-set l dev x in omega (arith, past, same)))
]

-- what is gathered in one place is this, or nothing, from now on
set_due : (old new : MachineState) (place : ℕ) (x : Option GatheringState) → AllStay old.controller new.controller → new.kept ≡ old.kept → new.gathering ≡ set old.gathering place x
    → IfSome x (IsGathered new.controller old.kept place) → GathersDue old → GathersDue new
set_due old new place x stays kept gathering here h = record {
  kept = subst (λ (o : Option Next). IfSome o (SaysDue new.controller)) (sym kept) (each old.kept (SaysDue old.controller) (SaysDue new.controller) (λ said is was. says_stay said old.controller new.controller stays was) h.kept);
  gathering = λ dev.
      subst (λ (o : Option Next). IfSome (gathering_at new dev) (IsGathered new.controller o dev)) (sym kept)
      (subst (λ (l : List (Option GatheringState)). IfSome (get_or l dev None) (IsGathered new.controller old.kept dev)) (sym gathering) (at dev));
}
  where
    at : (dev : ℕ) → IfSome (get_or (set old.gathering place x) dev None) (IsGathered new.controller old.kept dev)
    at dev = elim (cases_eq dev place) [
      | inl same ↦ subst (λ (k : ℕ). IfSome (get_or (set old.gathering place x) k None) (IsGathered new.controller old.kept k)) (sym same) (elim (set_here old.gathering place x) [
        | inl is ↦ subst (λ (o : Option GatheringState). IfSome o (IsGathered new.controller old.kept place)) (sym is) here
        | inr none ↦ none_is _ (IsGathered new.controller old.kept place) none
      ])
      | inr ne ↦ subst (λ (o : Option GatheringState). IfSome o (IsGathered new.controller old.kept dev)) (sym (get_or-set_other old.gathering place dev x None ne))
          (each (gathering_at old dev) (IsGathered old.controller old.kept dev) (IsGathered new.controller old.kept dev) (λ g is was. gathered_stays dev old.kept g old.controller new.controller stays was) (h.gathering dev))
    ]

-- ---- what the controller says to do next

kept_due : (said : Next) (c : ControllerState) → SaysDue c said → IfSome (kept_of said) (SaysDue c)
kept_due next.Nothing c h = tt
kept_due other c h = h

kept_off : (said : Next) (dev : ℕ) → is_kept_for dev (kept_of said) ≡ false → is_feed_to dev said ≡ false
kept_off next.Nothing dev h = refl
kept_off other dev h = h

turns_due : (old new : MachineState) (said : Next) → TurnsNext said old new → GathersDue old → GathersDue new
turns_due old new said h due =
    let t : IsTurned old.controller said new.controller = turned old.controller new.controller said h.turns in
    let kept : new.kept ≡ kept_of said = ap (λ (m : MachineState). m.kept) h.rest in
    record {
      kept = subst (λ (o : Option Next). IfSome o (SaysDue new.controller)) (sym kept) (kept_due said new.controller t.says);
      gathering = λ dev.
          subst (λ (o : Option Next). IfSome (gathering_at new dev) (IsGathered new.controller o dev)) (sym kept)
          (subst (λ (l : List (Option GatheringState)). IfSome (get_or l dev None) (IsGathered new.controller (kept_of said) dev)) (sym (ap (λ (m : MachineState). m.gathering) h.rest))
          (each (gathering_at old dev) (IsGathered old.controller old.kept dev) (IsGathered new.controller (kept_of said) dev) (λ g is was. record {
            own = was.own;
            whole = was.whole;
            due = λ off. t.keeps dev g.feed.number g.feed.len (kept_off said dev off) (was.due (ap (is_kept_for dev) h.none));
          }) (due.gathering dev)));
    }

-- ---- that is done

no_kept : (c : ControllerState) (o : Option Next) (dev : ℕ) (g : GatheringState) → (is_kept_for dev o ≡ false) → IsGathered c o dev g → IsGathered c None dev g
no_kept c o dev g off h = record { own = h.own; whole = h.whole; due = λ _. h.due off }

-- what it said was no Data for a device
done_due : (said : Next) (old new : MachineState) → old.kept ≡ Some said → ((dev : ℕ) → is_feed_to dev said ≡ false) → new.controller ≡ old.controller → new.kept ≡ None → new.gathering ≡ old.gathering
    → GathersDue old → GathersDue new
done_due said old new kept off controller none gathering h = record {
  kept = none_is new.kept (SaysDue new.controller) none;
  gathering = λ dev.
      subst (λ (o : Option Next). IfSome (gathering_at new dev) (IsGathered new.controller o dev)) (sym none)
      (subst (λ (c : ControllerState). IfSome (gathering_at new dev) (IsGathered c None dev)) (sym controller)
      (subst (λ (l : List (Option GatheringState)). IfSome (get_or l dev None) (IsGathered old.controller None dev)) (sym gathering)
      (each (gathering_at old dev) (IsGathered old.controller old.kept dev) (IsGathered old.controller None dev) (λ g is was. no_kept old.controller old.kept dev g (ap (is_kept_for dev) kept ∙ off dev) was) (h.gathering dev))));
}

-- its Data are gathered from now on
abbrev first_of : (dev number slot offset len : ℕ) → GatheringState
first_of dev number slot offset len = opening_gathering (record { dev = dev; number = number; slot = slot; offset = offset; len = len })

abbrev fed_list : Bool → MachineState → (dev : ℕ) → GatheringState → List (Option GatheringState)
fed_list low old dev g = if low then set old.gathering dev (Some g) else old.gathering

-- in its own place
fed_here : (low : Bool) (old : MachineState) (dev number slot offset len : ℕ) → nat_lt dev 16 ≡ low → AreDue old.controller dev number len → GathersDue old
    → IfSome (get_or (fed_list low old dev (first_of dev number slot offset len)) dev None) (IsGathered old.controller None dev)
fed_here true old dev number slot offset len low said h = elim (set_here old.gathering dev (Some (first_of dev number slot offset len))) [
  | inl at ↦ some_is _ _ (IsGathered old.controller None dev) at (record { own = refl; whole = (let long = length-replicate {A = ℕ} len 0 in omega (arith, long)); due = λ _. said })
  | inr none ↦ none_is _ (IsGathered old.controller None dev) none
]
fed_here false old dev number slot offset len high said h =
    each (gathering_at old dev) (IsGathered old.controller old.kept dev) (IsGathered old.controller None dev)
    (λ g at was. record { own = was.own; whole = was.whole; due = λ _ out. absurd (false≢true (sym high ∙ fed_low dev old.controller.wants g.feed.number out)) }) (h.gathering dev)

-- in the others
fed_beside : (low : Bool) (old : MachineState) (dev number slot offset len q : ℕ) → q ≢ dev → old.kept ≡ Some (next.Feed dev number slot offset len) → GathersDue old
    → IfSome (get_or (fed_list low old dev (first_of dev number slot offset len)) q None) (IsGathered old.controller None q)
fed_beside low old dev number slot offset len q ne kept h = by low
  where
    was_there : IfSome (gathering_at old q) (IsGathered old.controller None q)
    was_there =
        each (gathering_at old q) (IsGathered old.controller old.kept q) (IsGathered old.controller None q)
        (λ g at was. no_kept old.controller old.kept q g (ap (is_kept_for q) kept ∙ ne_eqb dev q (λ e. ne (sym e))) was) (h.gathering q)

    by : (b : Bool) → IfSome (get_or (fed_list b old dev (first_of dev number slot offset len)) q None) (IsGathered old.controller None q)
    by true = subst (λ (o : Option GatheringState). IfSome o (IsGathered old.controller None q)) (sym (get_or-set_other old.gathering dev q _ None ne)) was_there
    by false = was_there

feed_list : (low : Bool) (old : MachineState) (dev number slot offset len : ℕ) → nat_lt dev 16 ≡ low → old.kept ≡ Some (next.Feed dev number slot offset len) → GathersDue old → (q : ℕ)
    → IfSome (get_or (fed_list low old dev (first_of dev number slot offset len)) q None) (IsGathered old.controller None q)
feed_list low old dev number slot offset len is kept h q = elim (cases_eq q dev) [
  | inl same ↦ subst (λ (k : ℕ). IfSome (get_or (fed_list low old dev (first_of dev number slot offset len)) k None) (IsGathered old.controller None k)) (sym same)
      (fed_here low old dev number slot offset len is (subst (λ (o : Option Next). IfSome o (SaysDue old.controller)) kept h.kept) h)
  | inr ne ↦ fed_beside low old dev number slot offset len q ne kept h
]

fed_due : (old new : MachineState) (dev number slot offset len : ℕ) → old.kept ≡ Some (next.Feed dev number slot offset len)
    → new ≡ record old { kept = None; gathering = acts.feeding old dev number slot offset len } → GathersDue old → GathersDue new
fed_due old new dev number slot offset len kept is h =
    subst GathersDue (sym is) (record { kept = tt; gathering = λ q. feed_list (nat_lt dev 16) old dev number slot offset len refl kept h q })

does_due : (said : Next) (old new : MachineState) → old.kept ≡ Some said → DoesBy said old new → GathersDue old → GathersDue new
does_due (next.Order dev slot fis) old new kept h = done_due (next.Order dev slot fis) old new kept (λ q. refl) (ap (λ (m : MachineState). m.controller) h.1) (ap (λ (m : MachineState). m.kept) h.1) (ap (λ (m : MachineState). m.gathering) h.1)
does_due (next.Feed dev number slot offset len) old new kept h = fed_due old new dev number slot offset len kept h
does_due (next.Payload m) old new kept h = done_due (next.Payload m) old new kept (λ q. refl) (ap (λ (x : MachineState). x.controller) h) (ap (λ (x : MachineState). x.kept) h) (ap (λ (x : MachineState). x.gathering) h)
does_due (next.Posted m) old new kept h = done_due (next.Posted m) old new kept (λ q. refl) (ap (λ (x : MachineState). x.controller) h) (ap (λ (x : MachineState). x.kept) h) (ap (λ (x : MachineState). x.gathering) h)
does_due (next.Counted c) old new kept h = done_due (next.Counted c) old new kept (λ q. refl) (ap (λ (x : MachineState). x.controller) h) (ap (λ (x : MachineState). x.kept) h) (ap (λ (x : MachineState). x.gathering) h)
does_due next.Nothing old new kept h = done_due next.Nothing old new kept (λ q. refl) (ap (λ (x : MachineState). x.controller) h) (ap (λ (x : MachineState). x.kept) h) (ap (λ (x : MachineState). x.gathering) h)
does_due (next.Read ask) old new kept h = done_due (next.Read ask) old new kept (λ q. refl) (ap (λ (x : MachineState). x.controller) h) (ap (λ (x : MachineState). x.kept) h) (ap (λ (x : MachineState). x.gathering) h)

-- ---- Data for a device

pub there_is : (m : MachineState) (place : ℕ) (g : GatheringState) → gathering_at m place ≡ Some g → GathersDue m → IsGathered m.controller m.kept place g
there_is m place g is h = subst (λ (o : Option GatheringState). IfSome o (IsGathered m.controller m.kept place)) is (h.gathering place)

-- its bytes are as many as before, and it is of the same want
same_feed : (c : ControllerState) (kept : Option Next) (place : ℕ) (g after : GatheringState) → after.feed ≡ g.feed → length after.bytes ≡ length g.bytes → IsGathered c kept place g → IsGathered c kept place after
same_feed c kept place g after feed long h = record {
  own = ap (λ f. f.dev) feed ∙ h.own;
  whole = long ∙ h.whole ∙ ap (λ f. 4 + f.len) (sym feed);
  due = λ off. subst (λ f. AreDue c place f.number f.len) (sym feed) (h.due off);
}

goes_by : (answer : Fed) (g : GatheringState) (base new : MachineState) → GoesBy answer g base new → Beside base new
goes_by (fed.Goes message line) g base new h = ap inner h
goes_by other g base new h = ap inner h

-- it went, or some of its bytes have no place: it is gathered no more
gone_due : (old new : MachineState) (place : ℕ) → AllStay old.controller new.controller → new.kept ≡ old.kept → new.gathering ≡ set old.gathering place None → GathersDue old → GathersDue new
gone_due old new place stays kept gathering = set_due old new place None stays kept gathering tt

-- a frame comes, or is lost
frame_due : (old new : MachineState) → new.controller ≡ old.controller → new.kept ≡ old.kept → new.gathering ≡ old.gathering → GathersDue old → GathersDue new
frame_due old new controller kept gathering = stay old new (λ p n. unmoved p n old.controller new.controller controller) (record { kept = kept; gathering = gathering })

-- ---- moves

rests_due : (old new : MachineState) → acts.RestsNow old new → GathersDue old → GathersDue new
rests_due old new (inl same) due = subst GathersDue (sym same) due
rests_due old new (inr turns) due = turns_due old new next.Nothing turns due

same_due : (old new : MachineState) → Beside old new → GathersDue old → GathersDue new
same_due = beside_due

moved_due : (a : Act) (old new : MachineState) → acts.Does old a new → GathersDue old → GathersDue new
moved_due act.Rests old new h due = rests_due old new h due
moved_due (act.Writes w) old new h due =
    stay old new (λ p n. written_stays p n old.controller new.controller (ap (λ (m : MachineState). m.controller) h.rest)) (record { kept = ap (λ (m : MachineState). m.kept) h.rest; gathering = ap (λ (m : MachineState). m.gathering) h.rest }) due
moved_due act.LetsGo old new h due =
    stay old new (λ p n. written_stays p n old.controller new.controller (ap (λ (m : MachineState). m.controller) h.rest)) (record { kept = ap (λ (m : MachineState). m.kept) h.rest; gathering = ap (λ (m : MachineState). m.gathering) h.rest }) due
moved_due (act.Line b) old new h due = same_due old new (ap inner h.2) due
moved_due act.Message old new h due = same_due old new (ap inner h.1) due
moved_due (act.Turns said) old new h due = turns_due old new said h due
moved_due (act.Does said) old new h due = does_due said old new h.kept h.does due
moved_due (act.Wants read) old new h due =
    set_due old new h.dev (Some (asked_for h.gathering read.len)) (λ p n. unmoved p n old.controller new.controller (ap (λ (m : MachineState). m.controller) h.rest))
    (ap (λ (m : MachineState). m.kept) h.rest) (ap (λ (m : MachineState). m.gathering) h.rest)
    (subst (λ (c : ControllerState). IsGathered c old.kept h.dev (asked_for h.gathering read.len)) (sym (ap (λ (m : MachineState). m.controller) h.rest))
    (same_feed old.controller old.kept h.dev h.gathering (asked_for h.gathering read.len) refl refl (there_is old h.dev h.gathering h.there due))) due
moved_due (act.Gathers dev answer) old new h due =
    let same : Beside (with_controller (with_gathering old h.place None) new.controller) new = goes_by answer h.gathering (with_controller (with_gathering old h.place None) new.controller) new h.gathers.goes in
    gone_due old new h.place (λ p n. gather_stays dev h.gathering.feed.number p n old.controller new.controller answer h.gathers.gathers) (ap (λ i. i.1) same) (ap (λ i. i.2) same) due
moved_due (act.Misses slot answer) old new h due =
    gone_due old new h.place (λ p n. not_there_stays h.gathering.feed.dev h.gathering.feed.number p n old.controller new.controller answer h.misses.misses)
    (ap (λ (m : MachineState). m.kept) h.misses.rest) (ap (λ (m : MachineState). m.gathering) h.misses.rest) due
moved_due act.Rises old new h due = frame_due old new (ap (λ (m : MachineState). m.controller) h.rest) (ap (λ (m : MachineState). m.kept) h.rest) (ap (λ (m : MachineState). m.gathering) h.rest) due
moved_due (act.Takes took) old new h due =
    stay old new (λ p n. take_stays h.frame.bytes took p n old.controller new.controller h.hears) (record { kept = ap (λ (m : MachineState). m.kept) h.rest; gathering = ap (λ (m : MachineState). m.gathering) h.rest }) due
moved_due (act.Loses why) old new h due = frame_due old new (ap (λ (m : MachineState). m.controller) h.rest) (ap (λ (m : MachineState). m.kept) h.rest) (ap (λ (m : MachineState). m.gathering) h.rest) due
moved_due other old new h due = same_due old new (ap inner h.rest) due

-- ---- calls

wrote_due : (stays : Bool) (old m new : MachineState) → new ≡ (if stays then m else renewed m) → GathersDue m → GathersDue new
wrote_due true old m new is due = subst GathersDue (sym is) due
wrote_due false old m new is due = subst GathersDue (sym is) (nothing_due (renewed m) refl refl)

-- bytes that come take the place of as many
part_length : (g : GatheringState) (part : List ℕ) → 4 + g.done + length part ≤ length g.bytes → length (overwritten g.bytes (4 + g.done) part) ≡ length g.bytes
part_length g part fits =
    let all = length-append (take (4 + g.done) g.bytes ++ part) (drop (4 + g.done + length part) g.bytes) in
    let head = length-append (take (4 + g.done) g.bytes) part in
    let a = length-take (4 + g.done) g.bytes in
    let b = length-drop (4 + g.done + length part) g.bytes in
    omega (arith, all, head, a, b, fits)

part_due : (kept : Bool) (c : ControllerState) (o : Option Next) (place number done : ℕ) (part : List ℕ) (g after : GatheringState) → Supplies g number done part kept after → IsGathered c o place g → IsGathered c o place after
part_due true c o place number done part g after h was =
    subst (IsGathered c o place) (sym h.rest) (same_feed c o place g (with_part g part) refl (part_length g part (h.fits refl)) was)
part_due false c o place number done part g after h was = subst (IsGathered c o place) (sym h.rest) was

supplied_due : (w : Wanted) (bytes : List ℕ) (old new : MachineState) (answer : Result Told AllocError) → SuppliesMachine w bytes old answer new → GathersDue old → GathersDue new
supplied_due (Command slot number) bytes old new answer h due =
    stay old new (λ p n. supply_stays slot number bytes p n old.controller new.controller h.answer h.rule) (record { kept = ap (λ (m : MachineState). m.kept) h.rest; gathering = ap (λ (m : MachineState). m.gathering) h.rest }) due
supplied_due (Data dev number done) bytes old new (Ok it) h due =
    by_bool (GathersDue new) (MatchOption (gathering_at old dev) (IsStale old it new) (λ g. SuppliesData g dev number done bytes old it new)) (IsStale old it new) (nat_lt dev 16) h
    (λ low some. by_option GatheringState (GathersDue new) (IsStale old it new) (λ g. SuppliesData g dev number done bytes old it new) (gathering_at old dev) some
    (λ none is. subst GathersDue (sym is.1) due)
    (λ g there s.
    set_due old new dev (Some s.after) (λ p n. unmoved p n old.controller new.controller (ap (λ (m : MachineState). m.controller) s.rest)) (ap (λ (m : MachineState). m.kept) s.rest) (ap (λ (m : MachineState). m.gathering) s.rest)
    (subst (λ (c : ControllerState). IsGathered c old.kept dev s.after) (sym (ap (λ (m : MachineState). m.controller) s.rest))
    (part_due s.kept old.controller old.kept dev number done bytes g s.after s.supplies (there_is old dev g there due))) due))
    (λ high is. subst GathersDue (sym is.1) due)
supplied_due (Data dev number done) bytes old new (Err e) h due = absurd h

missed_due : (w : Wanted) (old new : MachineState) (answer : Result Told AllocError) → MissesMachine w old answer new → GathersDue old → GathersDue new
missed_due (Command slot number) old new answer h due =
    stay old new (λ p n. miss_stays slot number p n old.controller new.controller h.answer h.rule) (record { kept = ap (λ (m : MachineState). m.kept) h.rest; gathering = ap (λ (m : MachineState). m.gathering) h.rest }) due
missed_due (Data dev number done) old new (Ok it) h due =
    by_bool (GathersDue new) (MatchOption (gathering_at old dev) ⊥ (λ g. MissesFor g dev old it new)) (IsStale old it new) (is_wanted old dev number done) h
    (λ low some. by_option GatheringState (GathersDue new) ⊥ (λ g. MissesFor g dev old it new) (gathering_at old dev) some
    (λ none off. absurd off)
    (λ g there s.
    gone_due old new dev (λ p n. not_there_stays g.feed.dev g.feed.number p n old.controller new.controller s.answer s.misses.misses)
    (ap (λ (m : MachineState). m.kept) s.misses.rest) (ap (λ (m : MachineState). m.gathering) s.misses.rest) due))
    (λ high is. subst GathersDue (sym is.1) due)
missed_due (Data dev number done) old new (Err e) h due = absurd h

pub stays_due : StaysDue
stays_due old (Moved a) new h due = subst GathersDue (sym h.turns) (again h.middle (moved_due a old h.middle h.does due))
  where
    again : (m : MachineState) → GathersDue m → GathersDue (acts.turned m new.first new.turn)
    again m d = record { kept = d.kept; gathering = d.gathering }
stays_due old Unlent new h due = same_due old new (ap inner h) due
stays_due old (Wrote offset width value written) new h due =
    wrote_due (link_stays written) old (record old { controller = new.controller; message = old.message || message_of written }) new h.rest
    (stay old (record old { controller = new.controller; message = old.message || message_of written }) (λ p n. write_stays offset width value p n old.controller new.controller written h.writes) (record { kept = refl; gathering = refl }) due)
stays_due old Powered new h due = subst GathersDue (sym h) (powered_due old due)
stays_due old (Supplied w bytes) new h due = supplied_due w bytes old new h.answer h.supplies due
stays_due old (Missed w) new h due = missed_due w old new h.answer h.misses due
stays_due old (Answered id a told) new h due = same_due old new (beside.answered id a old new told h) due
stays_due old (Put n unit told) new h due = same_due old new (beside.put n unit old new told h) due
stays_due old (Plugged n told) new h due = same_due old new (beside.plugged n old new told h) due
stays_due old (Pulled n told) new h due = same_due old new (beside.pulled n old new told h) due
stays_due old (Removed n told) new h due = same_due old new (beside.taken n h.pulled new told h.takes ∙ beside.pulled n old h.pulled h.answer h.pulls) due
stays_due old (FrameTaken n told) new h due = same_due old new (beside.frame_by (is_own (bay_at old n).unit) old new n (taken_bay (bay_at old n)) h.rest) due
stays_due old (FrameOffered n frame told) new h due = same_due old new (ap inner h.rest) due

pub opens_due : OpensDue
opens_due ports legacy m h = nothing_due m (ap (λ (x : MachineState). x.kept) h.rest) (ap (λ (x : MachineState). x.gathering) h.rest)
