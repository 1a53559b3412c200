-- What is read for a device was read for the same before each deed, or is what the controller said.
use Rattle.std.proofs.Common.{◌≡◌, ℕ, Bool, true, false, List, get_or, set, length, replicate, Option, None, Some, Result, Ok, Err, refl, sym, ap}
use Rattle.std.proofs.{Common.{subst, ◌∙◌, inl, inr, arith, get_or-set_same, get_or-set_other, length-set}, lemmas.Bool.{cases_Bool, cases_eq}}
use Rattle.std.proofs.lemmas.{Bool.{ltb-false, ltb-true}, List.{get_or_past, get_or-replicate}}
use Rattle.std.specs.{Prelude.{◌⊎◌, MatchOption, if◌then◌else◌, nat_lt}, declared.alloc.AllocError.AllocError}
use Rattle.ahci_controller.specs.declared.{feeding.Fed.Fed, next.Next.Next}
use Rattle.ahci_controller.specs.declared.feeding.Fed.TheVariants as fed
use Rattle.ahci_controller.specs.declared.next.Next.TheVariants as next
use Rattle.ahci_machine.specs.Acts as acts
use Rattle.ahci_machine.specs.{Acts.{DoesBy, GoesBy, with_controller, with_gathering}, Answers.{IsStale, MissesFor, MissesMachine, SuppliesData}}
use Rattle.ahci_machine.specs.{Answers.{SuppliesMachine, is_own, is_wanted, taken_bay}, Gathers.{GatheringState, Supplies, asked_for}}
use Rattle.ahci_machine.specs.{Gathers.opening_gathering, Registers.{for_host, kept_if, kept_powered, link_stays, renewed}, States.MachineState}
use Rattle.ahci_machine.specs.{States.{bay_at, gathering_at}, declared.{act.Act.Act, answers.Told.Told, gathering.Feed.Feed, request.Wanted.Wanted}}
use Rattle.ahci_machine.specs.declared.request.Wanted.TheVariants.{Command, Data}
use Rattle.ahci_machine.specs.declared.act.Act.TheVariants as act
use Rattle.machine_laws.proofs.Beside as beside
use Rattle.machine_laws.proofs.{Beside.{Beside, inner}, Cases.{by_bool, by_option}}
use Rattle.machine_laws.specs.Deeds.{Answered, Deed, Does, FrameOffered, FrameTaken, Missed, Moved, Plugged, Powered, Pulled, Put, Removed, Supplied}
use Rattle.machine_laws.specs.Deeds.{Unlent, Wrote}
use Rattle.machine_theorem.specs.Fed.{FeedsStay, WasFed, says_feed}

-- ---- what is gathered

abbrev pub FromOld : MachineState → MachineState → Type 0
FromOld old new = (dev : ℕ) (g : GatheringState) → gathering_at new dev ≡ Some g → WasFed old dev g.feed

-- what the controller said last stays, or nothing is gathered any more
pub record NoneLeft (old new : MachineState) : Type 0 where
  pub none : (dev : ℕ) → gathering_at new dev ≡ None
  pub kept : (new.kept ≡ None) ⊎ (new.kept ≡ old.kept)

pub record Quiet (old new : MachineState) : Type 0 where
  pub from : FromOld old new
  pub kept : (new.kept ≡ old.kept) ⊎ NoneLeft old new

same_from : (old new : MachineState) → new.gathering ≡ old.gathering → FromOld old new
same_from old new same dev g is = record { gathering = g; there = sym (ap (λ (l : List (Option GatheringState)). get_or l dev None) same) ∙ is; same = refl }

pub same_quiet : (old new : MachineState) → new.kept ≡ old.kept → new.gathering ≡ old.gathering → Quiet old new
same_quiet old new kept same = record { from = same_from old new same; kept = inl kept }

beside_quiet : (old new : MachineState) → Beside old new → Quiet old new
beside_quiet old new same = same_quiet old new (ap (λ i. i.1) same) (ap (λ i. i.2) same)

no_some : {A : Type 0} (o : Option A) (x : A) (P : Type 0) → o ≡ None → o ≡ Some x → P
no_some o x P none some = absurd (let both = sym none ∙ some in cc)

-- what is put in its place is there, or there is no such place
set_here : (l : List (Option GatheringState)) (dev : ℕ) (x : Option GatheringState) → (get_or (set l dev x) dev None ≡ x) ⊎ (get_or (set l dev x) dev None ≡ None)
set_here l dev x = elim (cases_Bool (nat_lt dev (length l))) [
  | inl inside ↦ inl (get_or-set_same l dev x None (ltb-true dev (length l) inside))
  | inr outside ↦ inr (get_or_past (set l dev x) dev None (let past = ltb-false dev (length l) outside in let same = length-set l dev x in omega (arith, past, same)))
]

-- what is gathered in one place is this from now on
set_from : (old : MachineState) (place : ℕ) (x : Option GatheringState) → ((g : GatheringState) → x ≡ Some g → WasFed old place g.feed)
    → (dev : ℕ) (g : GatheringState) → get_or (set old.gathering place x) dev None ≡ Some g → WasFed old dev g.feed
set_from old place x here dev g is = elim (cases_eq dev place) [
  | inl same ↦ subst (λ (k : ℕ). WasFed old k g.feed) (sym same) (
      let at : get_or (set old.gathering place x) place None ≡ Some g = ap (λ (k : ℕ). get_or (set old.gathering place x) k None) (sym same) ∙ is in
      elim (set_here old.gathering place x) [
        | inl put ↦ here g (sym put ∙ at)
        | inr none ↦ no_some _ g (WasFed old place g.feed) none at
      ])
  | inr ne ↦ record { gathering = g; there = sym (get_or-set_other old.gathering place dev x None ne) ∙ is; same = refl }
]

set_quiet : (old new : MachineState) (place : ℕ) (x : Option GatheringState) → new.kept ≡ old.kept → new.gathering ≡ set old.gathering place x
    → ((g : GatheringState) → x ≡ Some g → WasFed old place g.feed) → Quiet old new
set_quiet old new place x kept gathering here = record {
  from = λ dev g is. set_from old place x here dev g (ap (λ (l : List (Option GatheringState)). get_or l dev None) (sym gathering) ∙ is);
  kept = inl kept;
}

none_quiet : (old new : MachineState) (place : ℕ) → new.kept ≡ old.kept → new.gathering ≡ set old.gathering place None → Quiet old new
none_quiet old new place kept gathering = set_quiet old new place None kept gathering (λ g e. absurd (cc))

some_feed : (g after h : GatheringState) → Some after ≡ Some h → after.feed ≡ g.feed → g.feed ≡ h.feed
some_feed g after h e same = sym same ∙ ap (λ (o : Option GatheringState). feed_or g.feed o) e
  where
    feed_or : Feed → Option GatheringState → Feed
    feed_or f None = f
    feed_or f (Some x) = x.feed

-- the same goes on
more_quiet : (old new : MachineState) (place : ℕ) (g after : GatheringState) → gathering_at old place ≡ Some g → after.feed ≡ g.feed → new.kept ≡ old.kept
    → new.gathering ≡ set old.gathering place (Some after) → Quiet old new
more_quiet old new place g after there same kept gathering =
    set_quiet old new place (Some after) kept gathering (λ h e. record { gathering = g; there = there; same = some_feed g after h e same })

pub none_at : (dev : ℕ) → get_or (replicate {A = Option GatheringState} 16 None) dev None ≡ None
none_at dev = elim (cases_Bool (nat_lt dev 16)) [
  | inl inside ↦ get_or-replicate 16 dev None None (ltb-true dev 16 inside)
  | inr outside ↦ get_or_past (replicate {A = Option GatheringState} 16 None) dev None (let past = ltb-false dev 16 outside in past)
]

cleared : (old new : MachineState) → new.gathering ≡ replicate 16 None → (new.kept ≡ None) ⊎ (new.kept ≡ old.kept) → Quiet old new
cleared old new gathering kept =
    let none : (dev : ℕ) → gathering_at new dev ≡ None = λ dev. ap (λ (l : List (Option GatheringState)). get_or l dev None) gathering ∙ none_at dev in
    record { from = λ dev g is. no_some _ g (WasFed old dev g.feed) (none dev) is; kept = inr (record { none = none; kept = kept }) }

-- ---- moves

abbrev pub IsQuiet : Act → Type 0
IsQuiet act.Rests = ⊥
IsQuiet (act.Turns said) = ⊥
IsQuiet (act.Does said) = ⊥
IsQuiet a = Unit {0}

goes_by : (answer : Fed) (g : GatheringState) (base new : MachineState) → GoesBy answer g base new → Beside base new
goes_by (fed.Goes message line) g base new h = ap inner h
goes_by other g base new h = ap inner h

move_quiet : (a : Act) (old new : MachineState) → IsQuiet a → acts.Does old a new → Quiet old new
move_quiet act.Rests old new never h = absurd never
move_quiet (act.Turns said) old new never h = absurd never
move_quiet (act.Does said) old new never h = absurd never
move_quiet (act.Writes w) old new never h = same_quiet old new (ap (λ (m : MachineState). m.kept) h.rest) (ap (λ (m : MachineState). m.gathering) h.rest)
move_quiet act.LetsGo old new never h = same_quiet old new (ap (λ (m : MachineState). m.kept) h.rest) (ap (λ (m : MachineState). m.gathering) h.rest)
move_quiet (act.Line b) old new never h = beside_quiet old new (ap inner h.2)
move_quiet act.Message old new never h = beside_quiet old new (ap inner h.1)
move_quiet (act.Wants read) old new never h =
    more_quiet old new h.dev h.gathering (asked_for h.gathering read.len) h.there refl (ap (λ (m : MachineState). m.kept) h.rest) (ap (λ (m : MachineState). m.gathering) h.rest)
move_quiet (act.Gathers dev answer) old new never h =
    let same : Beside (with_controller (with_gathering old h.place None) new.controller) new = goes_by answer h.gathering (with_controller (with_gathering old h.place None) new.controller) new h.gathers.goes in
    none_quiet old new h.place (ap (λ i. i.1) same) (ap (λ i. i.2) same)
move_quiet (act.Misses slot answer) old new never h =
    none_quiet old new h.place (ap (λ (m : MachineState). m.kept) h.misses.rest) (ap (λ (m : MachineState). m.gathering) h.misses.rest)
move_quiet act.Rises old new never h = same_quiet old new (ap (λ (m : MachineState). m.kept) h.rest) (ap (λ (m : MachineState). m.gathering) h.rest)
move_quiet (act.Takes took) old new never h = same_quiet old new (ap (λ (m : MachineState). m.kept) h.rest) (ap (λ (m : MachineState). m.gathering) h.rest)
move_quiet (act.Loses why) old new never h = same_quiet old new (ap (λ (m : MachineState). m.kept) h.rest) (ap (λ (m : MachineState). m.gathering) h.rest)
move_quiet other old new never h = beside_quiet old new (ap inner h.rest)

-- ---- calls

part_feed : (kept : Bool) (number done : ℕ) (part : List ℕ) (g after : GatheringState) → Supplies g number done part kept after → after.feed ≡ g.feed
part_feed true number done part g after h = ap (λ (x : GatheringState). x.feed) h.rest
part_feed false number done part g after h = ap (λ (x : GatheringState). x.feed) h.rest

supplied_quiet : (w : Wanted) (bytes : List ℕ) (old new : MachineState) (answer : Result Told AllocError) → SuppliesMachine w bytes old answer new → Quiet old new
supplied_quiet (Command slot number) bytes old new answer h = same_quiet old new (ap (λ (m : MachineState). m.kept) h.rest) (ap (λ (m : MachineState). m.gathering) h.rest)
supplied_quiet (Data dev number done) bytes old new (Ok it) h =
    by_bool (Quiet old new) (MatchOption (gathering_at old dev) (IsStale old it new) (λ g. SuppliesData g dev number done bytes old it new)) (IsStale old it new) (nat_lt dev 16) h
    (λ low some. by_option GatheringState (Quiet old new) (IsStale old it new) (λ g. SuppliesData g dev number done bytes old it new) (gathering_at old dev) some
    (λ none is. beside_quiet old new (ap inner is.1))
    (λ g there s. more_quiet old new dev g s.after there (part_feed s.kept number done bytes g s.after s.supplies) (ap (λ (m : MachineState). m.kept) s.rest)
    (ap (λ (m : MachineState). m.gathering) s.rest)))
    (λ high is. beside_quiet old new (ap inner is.1))
supplied_quiet (Data dev number done) bytes old new (Err e) h = absurd h

missed_quiet : (w : Wanted) (old new : MachineState) (answer : Result Told AllocError) → MissesMachine w old answer new → Quiet old new
missed_quiet (Command slot number) old new answer h = same_quiet old new (ap (λ (m : MachineState). m.kept) h.rest) (ap (λ (m : MachineState). m.gathering) h.rest)
missed_quiet (Data dev number done) old new (Ok it) h =
    by_bool (Quiet old new) (MatchOption (gathering_at old dev) ⊥ (λ g. MissesFor g dev old it new)) (IsStale old it new) (is_wanted old dev number done) h
    (λ low some. by_option GatheringState (Quiet old new) ⊥ (λ g. MissesFor g dev old it new) (gathering_at old dev) some
    (λ none off. absurd off)
    (λ g there s. none_quiet old new dev (ap (λ (m : MachineState). m.kept) s.misses.rest) (ap (λ (m : MachineState). m.gathering) s.misses.rest)))
    (λ high is. beside_quiet old new (ap inner is.1))
missed_quiet (Data dev number done) old new (Err e) h = absurd h

kept_by : (on : Bool) (said : Next) → (kept_if on said ≡ None) ⊎ (kept_if on said ≡ Some said)
kept_by true said = inr refl
kept_by false said = inl refl

kept_on : (o : Option Next) → (kept_powered o ≡ None) ⊎ (kept_powered o ≡ o)
kept_on None = inl refl
kept_on (Some said) = kept_by (for_host said) said

powered_kept : (old new : MachineState) → new.kept ≡ kept_powered old.kept → (new.kept ≡ None) ⊎ (new.kept ≡ old.kept)
powered_kept old new is = elim (kept_on old.kept) [
  | inl none ↦ inl (is ∙ none)
  | inr same ↦ inr (is ∙ same)
]

wrote_quiet : (stays : Bool) (old m new : MachineState) → new ≡ (if stays then m else renewed m) → m.kept ≡ old.kept → m.gathering ≡ old.gathering → Quiet old new
wrote_quiet true old m new is kept gathering =
    same_quiet old new (ap (λ (x : MachineState). x.kept) is ∙ kept) (ap (λ (x : MachineState). x.gathering) is ∙ gathering)
wrote_quiet false old m new is kept gathering =
    cleared old new (ap (λ (x : MachineState). x.gathering) is) (inl (ap (λ (x : MachineState). x.kept) is))

abbrev pub IsQuietDeed : Deed → Type 0
IsQuietDeed (Moved a) = IsQuiet a
IsQuietDeed deed = Unit {0}

turned_quiet : (old mid new : MachineState) → new ≡ acts.turned mid new.first new.turn → Quiet old mid → Quiet old new
turned_quiet old mid new is h = subst (Quiet old) (sym is) (record { from = h.from; kept = by h.kept })
  where
    by : (mid.kept ≡ old.kept) ⊎ NoneLeft old mid → (mid.kept ≡ old.kept) ⊎ NoneLeft old (acts.turned mid new.first new.turn)
    by (inl same) = inl same
    by (inr none) = inr (record { none = none.none; kept = none.kept })

pub deed_quiet : (old : MachineState) (deed : Deed) (new : MachineState) → IsQuietDeed deed → Does old deed new → Quiet old new
deed_quiet old (Moved a) new quiet h = turned_quiet old h.middle new h.turns (move_quiet a old h.middle quiet h.does)
deed_quiet old Unlent new quiet h = beside_quiet old new (ap inner h)
deed_quiet old (Wrote offset width value written) new quiet h = wrote_quiet (link_stays written) old _ new h.rest refl refl
deed_quiet old Powered new quiet h =
    cleared old new (ap (λ (x : MachineState). x.gathering) h) (powered_kept old new (ap (λ (x : MachineState). x.kept) h))
deed_quiet old (Supplied w bytes) new quiet h = supplied_quiet w bytes old new h.answer h.supplies
deed_quiet old (Missed w) new quiet h = missed_quiet w old new h.answer h.misses
deed_quiet old (Answered id a told) new quiet h = beside_quiet old new (beside.answered id a old new told h)
deed_quiet old (Put n unit told) new quiet h = beside_quiet old new (beside.put n unit old new told h)
deed_quiet old (Plugged n told) new quiet h = beside_quiet old new (beside.plugged n old new told h)
deed_quiet old (Pulled n told) new quiet h = beside_quiet old new (beside.pulled n old new told h)
deed_quiet old (Removed n told) new quiet h = beside_quiet old new (beside.taken n h.pulled new told h.takes ∙ beside.pulled n old h.pulled h.answer h.pulls)
deed_quiet old (FrameTaken n told) new quiet h = beside_quiet old new (beside.frame_by (is_own (bay_at old n).unit) old new n (taken_bay (bay_at old n)) h.rest)
deed_quiet old (FrameOffered n frame told) new quiet h = beside_quiet old new (ap inner h.rest)

-- ---- what the controller says, and does

pub turns_from : (old new : MachineState) (said : Next) → acts.TurnsNext said old new → FromOld old new
turns_from old new said h = same_from old new (ap (λ (m : MachineState). m.gathering) h.rest)

abbrev first_of : (dev number slot offset len : ℕ) → GatheringState
first_of dev number slot offset len = opening_gathering (record { dev = dev; number = number; slot = slot; offset = offset; len = len })

-- it is what the controller said, or was there, and is for no other device; or the device has no place
pub data FedBy (old : MachineState) (dev : ℕ) (f : Feed) : Next → Type 0 where
  Opens : (f.dev ≡ dev) → FedBy old dev f (next.Feed f.dev f.number f.slot f.offset f.len)
  Stays : (said : Next) → WasFed old dev f → ((to number slot offset len : ℕ) → said ≡ next.Feed to number slot offset len → to ≡ dev → nat_lt dev 16 ≡ false) → FedBy old dev f said

opened_case : (dev number slot offset len : ℕ) (g : GatheringState) → Some (first_of dev number slot offset len) ≡ Some g
    → g.feed ≡ record { dev = dev; number = number; slot = slot; offset = offset; len = len }
opened_case dev number slot offset len g e = ap (λ (o : Option GatheringState). feed_or (record { dev = dev; number = number; slot = slot; offset = offset; len = len }) o) (sym e)
  where
    feed_or : Feed → Option GatheringState → Feed
    feed_or f None = f
    feed_or f (Some x) = x.feed

opens_by : (old : MachineState) (dev : ℕ) (f : Feed) (to number slot offset len : ℕ) → f ≡ record { dev = to; number = number; slot = slot; offset = offset; len = len } → to ≡ dev
    → FedBy old dev f (next.Feed to number slot offset len)
opens_by old dev f to number slot offset len e same =
    subst (λ (n : Next). FedBy old dev f n) (ap (λ (x : Feed). next.Feed x.dev x.number x.slot x.offset x.len) e) (Opens (ap (λ (x : Feed). x.dev) e ∙ same))

feed_case : (low : Bool) (old : MachineState) (to number slot offset len : ℕ) → nat_lt to 16 ≡ low → (dev : ℕ) (g : GatheringState)
    → get_or (if low then set old.gathering to (Some (first_of to number slot offset len)) else old.gathering) dev None ≡ Some g
    → FedBy old dev g.feed (next.Feed to number slot offset len)
feed_case false old to number slot offset len high dev g is =
    Stays (next.Feed to number slot offset len) (record { gathering = g; there = is; same = refl })
    (λ t n s o l e same. (let first : to ≡ t = to_of e in sym (ap (λ k. nat_lt k 16) (first ∙ same)) ∙ high))
  where
    to_or : ℕ → Next → ℕ
    to_or x (next.Feed t n s o l) = t
    to_or x other = x

    to_of : {t n s o l : ℕ} → next.Feed to number slot offset len ≡ next.Feed t n s o l → to ≡ t
    to_of e = ap (λ x. to_or to x) e
feed_case true old to number slot offset len low dev g is = elim (cases_eq dev to) [
  | inl same ↦ (
      let at = ap (λ (k : ℕ). get_or (set old.gathering to (Some (first_of to number slot offset len))) k None) (sym same) ∙ is in
      elim (set_here old.gathering to (Some (first_of to number slot offset len))) [
        | inl put ↦ opens_by old dev g.feed to number slot offset len (opened_case to number slot offset len g (sym put ∙ at)) (sym same)
        | inr none ↦ no_some _ g (FedBy old dev g.feed (next.Feed to number slot offset len)) none at
      ])
  | inr ne ↦ Stays (next.Feed to number slot offset len) (record { gathering = g; there = sym (get_or-set_other old.gathering to dev _ None ne) ∙ is; same = refl })
      (λ t n s o l e same. absurd (ne (sym (to_of e ∙ same))))
]
  where
    to_or : ℕ → Next → ℕ
    to_or x (next.Feed t n s o l) = t
    to_or x other = x

    to_of : {t n s o l : ℕ} → next.Feed to number slot offset len ≡ next.Feed t n s o l → to ≡ t
    to_of e = ap (λ x. to_or to x) e

same_by : (said : Next) (old new : MachineState) → ((t n s o l : ℕ) → said ≡ next.Feed t n s o l → ⊥) → new.gathering ≡ old.gathering → (dev : ℕ) (g : GatheringState)
    → gathering_at new dev ≡ Some g → FedBy old dev g.feed said
same_by said old new never gathering dev g is = Stays said (same_from old new gathering dev g is) (λ t n s o l e same. absurd (never t n s o l e))

pub does_by : (said : Next) (old new : MachineState) → DoesBy said old new → (dev : ℕ) (g : GatheringState) → gathering_at new dev ≡ Some g → FedBy old dev g.feed said
does_by (next.Feed to number slot offset len) old new h dev g is =
    feed_case (nat_lt to 16) old to number slot offset len refl dev g (ap (λ (l : List (Option GatheringState)). get_or l dev None) (sym (ap (λ (m : MachineState). m.gathering) h)) ∙ is)
does_by (next.Order d slot fis) old new h dev g is = same_by (next.Order d slot fis) old new (λ t n s o l e. cc) (ap (λ (m : MachineState). m.gathering) h.1) dev g is
does_by (next.Payload m) old new h dev g is = same_by (next.Payload m) old new (λ t n s o l e. cc) (ap (λ (x : MachineState). x.gathering) h) dev g is
does_by (next.Posted m) old new h dev g is = same_by (next.Posted m) old new (λ t n s o l e. cc) (ap (λ (x : MachineState). x.gathering) h) dev g is
does_by (next.Counted c) old new h dev g is = same_by (next.Counted c) old new (λ t n s o l e. cc) (ap (λ (x : MachineState). x.gathering) h) dev g is
does_by next.Nothing old new h dev g is = same_by next.Nothing old new (λ t n s o l e. cc) (ap (λ (x : MachineState). x.gathering) h) dev g is
does_by (next.Read ask) old new h dev g is = same_by (next.Read ask) old new (λ t n s o l e. cc) (ap (λ (x : MachineState). x.gathering) h) dev g is

-- ---- the law

pub rests_from : (old new : MachineState) → acts.RestsNow old new → FromOld old new
rests_from old new (inl same) = same_from old new (ap (λ (m : MachineState). m.gathering) same)
rests_from old new (inr turns) = turns_from old new next.Nothing turns

fed_law : (old : MachineState) (dev : ℕ) (f : Feed) (said : Next) → FedBy old dev f said → (Moved (act.Does said) ≡ says_feed f) ⊎ WasFed old dev f
fed_law old dev f said (Opens own) = inl refl
fed_law old dev f said (Stays _ was other) = inr was

moved_gathering : (mid new : MachineState) → new ≡ acts.turned mid new.first new.turn → new.gathering ≡ mid.gathering
moved_gathering mid new is = ap (λ (m : MachineState). m.gathering) is

pub at_mid : (mid new : MachineState) → new ≡ acts.turned mid new.first new.turn → (dev : ℕ) (g : GatheringState) → gathering_at new dev ≡ Some g → gathering_at mid dev ≡ Some g
at_mid mid new is dev g there = ap (λ (l : List (Option GatheringState)). get_or l dev None) (sym (moved_gathering mid new is)) ∙ there

pub feeds_stay : FeedsStay
feeds_stay old (Moved act.Rests) new h dev g is = inr (rests_from old h.middle h.does dev g (at_mid h.middle new h.turns dev g is))
feeds_stay old (Moved (act.Turns said)) new h dev g is = inr (turns_from old h.middle said h.does dev g (at_mid h.middle new h.turns dev g is))
feeds_stay old (Moved (act.Does said)) new h dev g is = fed_law old dev g.feed said (does_by said old h.middle h.does.does dev g (at_mid h.middle new h.turns dev g is))
feeds_stay old (Moved a) new h dev g is = inr ((deed_quiet old (Moved a) new tt h).from dev g is)
feeds_stay old deed new h dev g is = inr ((deed_quiet old deed new tt h).from dev g is)
