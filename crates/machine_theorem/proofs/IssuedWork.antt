-- What is issued in a slot moves what the command asks for that was supplied for it.
use Rattle.std.proofs.Common.{◌≡◌, ◌⊎◌, ℕ, ◌<◌, ◌^◌, Bool, true, false, cond, List, [], ◌∷◌, length, get_or-set_same, Option, Some, None, refl, sym}
use Rattle.std.proofs.{Common.{ap, subst, ◌∙◌, inl, inr, arith}, lemmas.{Bool.{and_parts, cases_eq, eqb-true, false≢true}, Option.same_Some}}
use Rattle.std.specs.Prelude.{◌==◌, MatchOption, nat_lt, if◌then◌else◌}
use Rattle.slots.specs.{Slots.{DeviceSlots, Issue, issue_at, new_issue, own_issue, slots_of}, Table.IsTable, declared.work.Work.Work}
use Rattle.guest_fetch.specs.{Commands.Fetched, Heads.{asked_work, fields_in}, declared.fetch.Supplied.Supplied}
use Rattle.guest_fetch.specs.declared.fetch.Supplied.TheVariants as came_as
use Rattle.hba_commands.specs.declared.command.Command.{Command}
use Rattle.hba_fbs.specs.{Issuing.{issue_with, issued_slots}, Offering.asked_by, Views.{DeviceView, view_of}}
use Rattle.hba_laws.proofs.Door.{own_here, own_in, own_issued}
use Rattle.ahci_controller.specs.{Fetching.{GoesOn, MissesIf, SuppliesIf, answered, fits, is_asked, without_fetch}, Issuing.{PlacesSlot, RefusesSlot}}
use Rattle.ahci_controller.specs.{Issuing.{device_of, not_issued, offered_command}, Offers.offer_in, States.{ControllerState, kept}}
use Rattle.ahci_controller.specs.declared.issuing.{NotTaken.NotTaken, Supply.Supply}
use Rattle.ahci_controller.proofs.Door.{pow_same}
use Rattle.controller_laws.specs.{CoreEvents.{AreCoreEvents, of_event}, Events.{Does as Calls, Event, IsController, Runs}, Sources.AreSources}
use Rattle.controller_laws.specs.Sources.{CommandsAreSupplied, IsReadFrom, Source, Sources, command_in, command_of, no_sources, sources_after}
use Rattle.controller_laws.specs.Sources.{sources_by}
use Rattle.controller_laws.specs.Events as call
use Rattle.machine_laws.specs.{ControllerLaws.{OpensSo, calls_in}, Feeding.IsFisOf}
use Rattle.machine_theorem.specs.{Commands.{is_issue, issues_in}, IssuedWork.IssuesMoveAsSupplied}
use Rattle.machine_theorem.proofs.{CoreStems.call_stems, Falls.core_events, Ordered.first_ruled, Still.one_kept, Unread.is_alone}
use Rattle.machine_theorem.proofs.Falls as falls

-- ---- a command is issued

-- a command is placed in this slot
placed_own : (dev : ℕ) (commands : ℕ → Option Command) (own : DeviceSlots) (s : ℕ) (command : Command) → commands s ≡ Some command → (i : Issue)
    → own_issue (issued_slots dev commands own) s ≡ Some i → (i.work ≡ command.work) ⊎ (own_issue own s ≡ Some i)
placed_own dev commands own s command is i at =
    by (nat_lt s (length own.issues)) (commands s) is
    (sym (ap (λ (f : ℕ → Option Issue). f s) (own_issued dev commands own (length own.issues) refl)) ∙ at)
  where
    by : (b : Bool) (o : Option Command) → o ≡ Some command → cond b (issue_with dev o (own_issue own s)) (own_issue own s) ≡ Some i
        → (i.work ≡ command.work) ⊎ (own_issue own s ≡ Some i)
    by true None e at = absurd (cc)
    by true (Some c) e at =
        inl (sym (ap (λ (x : Issue). x.work) (same_Some (new_issue dev c.work) i at)) ∙ ap (λ (x : Command). x.work) (same_Some c command e))
    by false o e at = inr at

-- this command is kept for the slot, and what is issued there moves its bytes
record IsKept (s : ℕ) (c : ControllerState) : Type 0 where
  command : Fetched
  is : kept c s ≡ Some command
  work : (i : Issue) → issue_at c.core.slots s ≡ Some i → i.work ≡ command.head.work

none_there : (o : Option Issue) (i : Issue) → o ≡ None → o ≡ Some i → ⊥
none_there o i none some = by (sym none ∙ some)
  where
    by : None ≡ Some i → ⊥
    by e = cc

placed : (s : ℕ) (f : Fetched) (base new : ControllerState) (supply : Supply) → s < 32 → length base.commands ≡ 32
    → issue_at base.core.slots s ≡ None → IsTable new.core.slots
    → PlacesSlot base s f supply new → IsKept s new
placed s f base new supply low long free ok h = record {
  command = f;
  is = ap (λ (c : ControllerState). kept c s) h.rest ∙ get_or-set_same base.commands s (Some f) None (omega (arith, long, low));
  work = λ i at.
      (let commands : ℕ → Option Command = asked_by (offer_in (offered_command f)) (2 ^ s) in
      let mine : own_issue (slots_of i.dev new.core.slots) s ≡ Some i = own_here s new.core.slots i (let n = ok.slots in omega (arith, n, low)) at in
      let offered : commands s ≡ Some (record { work = f.head.work; cfis = f.head.cfis; table = 0; count = 0 }) =
      ap (λ (b : Bool). if b then Some (record { work = f.head.work; cfis = f.head.cfis; table = 0; count = 0 }) else None) (pow_same s) in
      elim (cases_eq i.dev (device_of f)) [
        | inl same ↦
            elim (placed_own (device_of f) commands (view_of (device_of f) base.core).slots s _ offered i
            (sym (ap (λ (v : DeviceView). own_issue v.slots s) h.core.own)
            ∙ subst (λ (n : ℕ). own_issue (slots_of n new.core.slots) s ≡ Some i) same mine)) [
              | inl work ↦ work
              | inr was ↦ absurd (none_there (issue_at base.core.slots s) i free (own_in (device_of f) s base.core.slots i was).1)
            ]
        | inr apart ↦
            absurd (none_there (issue_at base.core.slots s) i free
            (own_in i.dev s base.core.slots i (sym (ap (λ (v : DeviceView). own_issue v.slots s) (h.core.others i.dev apart)) ∙ mine)).1)
      ]);
}

-- so it is by each call that issues a command there
module _ (s : ℕ) (new : ControllerState) (low : s < 32) (ok : IsTable new.core.slots) where
  issued : (f : Fetched) (o : Option NotTaken) (base : ControllerState) (supply : Supply) → length base.commands ≡ 32
      → issue_at base.core.slots s ≡ None → is_issue supply ≡ true
      → MatchOption o (PlacesSlot base s f supply new) (λ reason. RefusesSlot base s reason supply new) → IsKept s new
  issued f None base supply long free is h = placed s f base new supply low long free ok h
  issued f (Some reason) base supply long free is h = absurd (false≢true (sym (ap is_issue h.told) ∙ is))

  goes_on : (came : Supplied) (base : ControllerState) (supply : Supply) → length base.commands ≡ 32 → issue_at base.core.slots s ≡ None
      → is_issue supply ≡ true
      → GoesOn base s came supply new → IsKept s new
  goes_on (came_as.Refused r) base supply long free is h = absurd (false≢true (sym (ap is_issue h.told) ∙ is))
  goes_on (came_as.Whole f) base supply long free is h = issued f (not_issued base.core s f) base supply long free is h
  goes_on other base supply long free is h = absurd (false≢true (sym (ap is_issue h.1) ∙ is))

  supplied : (fit : Bool) (bytes : List ℕ) (old : ControllerState) (supply : Supply) → length old.commands ≡ 32 → issue_at old.core.slots s ≡ None
      → is_issue supply ≡ true
      → SuppliesIf fit old s bytes supply new → IsKept s new
  supplied false bytes old supply long free is h = absurd (false≢true (sym (ap is_issue h.1) ∙ is))
  supplied true bytes old supply long free is h = goes_on h.came (without_fetch (answered old s) s) supply long free is h.goes

  missed : (out : Bool) (old : ControllerState) (supply : Supply) → is_issue supply ≡ true → MissesIf out old s supply new → IsKept s new
  missed false old supply is h = absurd (false≢true (sym (ap is_issue h.1) ∙ is))
  missed true old supply is h = absurd (false≢true (sym (ap is_issue h.told) ∙ is))

is_kept : (e : Event) (s : ℕ) (old new : ControllerState) → IsController old → IsController new → s < 32 → Calls old e new → issues_in s e ≡ true
    → IsKept s new
is_kept (call.Supplied slot number bytes supply) s old new k l low h is =
    let both = and_parts (slot == s) (is_issue supply) is in
    let free : issue_at old.core.slots s ≡ None = (is_alone (call.Supplied slot number bytes supply) s old new k h is).free in
    let here : slot ≡ s = eqb-true slot s both.0 in
    supplied s new low l.slots (fits old s number bytes) bytes old supply k.rules.long free both.1
    (subst (λ (n : ℕ). SuppliesIf (fits old n number bytes) old n bytes supply new) here h)
is_kept (call.Missed slot number supply) s old new k l low h is =
    let both = and_parts (slot == s) (is_issue supply) is in
    missed s new low l.slots (is_asked old.wants s number) old supply both.1
    (subst (λ (n : ℕ). MissesIf (is_asked old.wants n number) old n supply new) (eqb-true slot s both.0) h)
is_kept other s old new k l low h is = absurd (false≢true is)

-- ---- over calls

abbrev WorkIs : Option Fetched → Work → Type 0
WorkIs command w = MatchOption command ⊥ (λ f. w ≡ f.head.work)

-- what is issued moves the bytes of what was supplied for it
abbrev Moves : ℕ → ControllerState → Sources → Type 0
Moves s c was = (source : Source) → was.issued ≡ Some source → (i : Issue) → issue_at c.core.slots s ≡ Some i → WorkIs (command_of source) i.work

read_from : (source : Source) (o : Option Source) (p : Option Fetched) (f : Fetched) (w : Work) → o ≡ Some source → p ≡ Some f → IsReadFrom o p
    → w ≡ f.head.work → WorkIs (command_of source) w
read_from source None p f w some is from work = absurd (cc)
read_from source (Some x) None f w some is from work = absurd (cc)
read_from source (Some x) (Some g) f w some is from work =
    let same : g ≡ f = same_Some g f is in
    subst (λ (o : Option Fetched). WorkIs o w) (sym (ap command_of (sym (same_Some x source some)) ∙ from))
    (work ∙ ap (λ (y : Fetched). y.head.work) (sym same))

one_moves : CommandsAreSupplied
    → (e : Event) (s : ℕ) (old new : ControllerState) (k : IsController old) (l : IsController new) (does : Calls old e new) → (low : s < 32)
    → AreCoreEvents old.core (of_event old e new does) new.core → (was : Sources) → AreSources old s was → Moves s old was → (b : Bool)
    → issues_in s e ≡ b
    → Moves s new (sources_by s old e new does was)
one_moves law e s old new k l does low are was so moves true is source known i there =
    let now : IsKept s new = is_kept e s old new k l low does is in
    let from : AreSources new s (sources_by s old e new does was) = law old new (e ∷ []) (k, (new, does, (l, refl))) s low was so in
    read_from source (sources_by s old e new does was).issued (kept new s) now.command i.work known now.is from.issued (now.work i there)
one_moves law e s old new k l does low are was so moves false is source known i there =
    let stem = call_stems e s old new does low are is i there in
    subst (λ (w : Work). WorkIs (command_of source) w) (sym stem.work)
    (moves source (sym (one_kept s old e new does was is) ∙ known) stem.issue stem.was)

first_kept : (events : List Event) (old new : ControllerState) → Runs old events new → IsController old
first_kept [] old new run = run.0
first_kept (e ∷ events) old new run = run.0

pub record Laws : Type 0 where
  pub falls : falls.Laws
  pub supplied : CommandsAreSupplied

all_move : Laws → (s : ℕ) → s < 32 → (events : List Event) (old new : ControllerState) (run : Runs old events new) (was : Sources)
    → AreSources old s was → Moves s old was
    → Moves s new (sources_after s was old events new run)
all_move laws s low [] old new run was so moves = subst (λ (c : ControllerState). Moves s c was) (sym run.1) moves
all_move laws s low (e ∷ events) old new run was so moves =
    let mid : ControllerState = run.1.0 in
    let does : Calls old e mid = run.1.1 in
    let k : IsController mid = first_kept events mid new run.1.2 in
    let are = core_events laws.falls old mid e run.0 k does in
    all_move laws s low events mid new run.1.2 (sources_by s old e mid does was)
    (laws.supplied old mid (e ∷ []) (run.0, (mid, does, (k, refl))) s low was so)
    (one_moves laws.supplied e s old mid run.0 k does low are was so moves (issues_in s e) refl)

-- ---- the law

of_parts : (at : ℕ) (parts : List (List ℕ)) (w : Work) (fis : List ℕ) → WorkIs (command_in at parts) w → IsFisOf (command_in at parts) fis
    → w ≡ asked_work (fields_in fis)
of_parts at [] w fis work is = absurd work
of_parts at (header ∷ []) w fis work is = absurd work
of_parts at (header ∷ raw ∷ entries) w fis work is = work ∙ ap (λ (f : List ℕ). asked_work (fields_in f)) (sym is)

none_yet : (source : Source) → no_sources.issued ≡ Some source → ⊥
none_yet source e = cc

pub issues_move : Laws → IssuesMoveAsSupplied
issues_move laws ports legacy old opening deeds now run slot low issue there fis is =
    let opened : OpensSo old = laws.falls.opens ports legacy old opening (first_ruled deeds old now run) in
    let moves : Moves slot now.controller (sources_after slot no_sources old.controller (calls_in old deeds now run) now.controller is.runs.calls) =
    all_move laws slot low (calls_in old deeds now run) old.controller now.controller is.runs.calls no_sources (opened.sources slot low)
    (λ source some i at. absurd (none_yet source some)) in
    of_parts is.source.at is.source.parts issue.work fis (moves is.source is.is issue there) is.supplied
