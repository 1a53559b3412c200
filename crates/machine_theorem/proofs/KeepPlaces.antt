-- Over a link that keeps the order Data of a queued write go to their own place.
use Rattle.std.proofs.Common.{◌≡◌, ◌⊎◌, ℕ, ◌-◌, Bool, true, false, List, [], ◌∷◌, ◌++◌, append_assoc, length, refl, sym, ap, subst, ◌∙◌, inl, inr}
use Rattle.std.proofs.{Common.{Option, Some, None}, lemmas.Bool.{eq-eqb}}
use Rattle.std.specs.Prelude.{◌==◌, if◌then◌else◌, Result, Ok, Err}
use Rattle.fis_view.specs.{Seen.seen, declared.view.{Fis.Fis, FisFault.FisFault}}
use Rattle.fis_view.specs.declared.view.Fis.TheVariants as view
use Rattle.hba_fbs.specs.Taking.{port_of}
use Rattle.ahci_controller.specs.{States.ControllerState, declared.latch.Edge.Edge}
use Rattle.ahci_controller.specs.declared.feeding.Fed.TheVariants as fed_answer
use Rattle.controller_laws.specs.Events as call
use Rattle.controller_laws.specs.Events.{Event, Runs}
use Rattle.disk_pages.specs.declared.profile.Profile.{Profile}
use Rattle.sata_disk.specs.State.{DiskState}
use Rattle.sata_disk_laws.specs.{Calls.Call, Laws.reached}
use Rattle.sata_disk_books.specs.{Books.page_in, Counted.{Counted, more_by}, InTurn.{AsksInTurn, AwaitsWhatItAsked, IsOpenFor, calls_steps}}
use Rattle.sata_disk_books.specs.{Taken.AreTakenFor, Talks.{AreAsked, Down, Step, Talk, Up, quiet_talk, sign_of, talk_after, talk_by}}
use Rattle.machine_theorem.specs.{Asking.{DataGoAsAsked, event_steps, events_steps}, Crossing.{IsForPlace, OrderedLinksKeepPlaces}}
use Rattle.machine_theorem.specs.{Feeding.{FedDataFollowSetups, IsNextOf, fed_call, fed_calls, set_by}, Following.AllHeardWell}
use Rattle.machine_theorem.proofs.Words.{Agree, agree, asked_parts, talk_both}

pub record Laws : Type 0 where
  pub follow : FedDataFollowSetups
  pub asked : DataGoAsAsked
  pub turns : AsksInTurn
  pub awaits : AwaitsWhatItAsked

-- ---- what went by both counts

set_sign : (r : Result Fis FisFault) (t : Talk) → (talk_by t (Up (sign_of r))).told ≡ set_by r t.told
set_sign (Ok (view.DmaSetup f)) t = refl
set_sign (Ok (view.DmaActivate f)) t = refl
set_sign (Ok (view.PioSetup f)) t = refl
set_sign (Ok other) t = refl
set_sign (Err e) t = refl

if_down : (b : Bool) (count : ℕ) (t : Talk) → b ≡ true → (if b then more_by count t.told else t.told) ≡ more_by count t.told
if_down true count t e = refl
if_down false count t e = absurd (cc)

took_told : (b : Bool) (r : Result Fis FisFault) (t : Talk) → (talk_after t (if b then Up (sign_of r) ∷ [] else [])).told ≡ (if b then set_by r t.told else t.told)
unfolding talk_after
took_told true r t = set_sign r t
took_told false r t = refl

went_told : (b : Bool) (count : ℕ) (t : Talk) → AreAsked t (if b then Down count ∷ [] else [])
    → (talk_after t (if b then Down count ∷ [] else [])).told ≡ (if b then more_by count t.told else t.told)
unfolding talk_after
went_told true count t asked = if_down t.wants count t asked.0
went_told false count t asked = refl

none_told : (t : Talk) → (talk_after t []).told ≡ t.told
unfolding talk_after
none_told t = refl

call_told : (n : ℕ) (e : Event) (t : Talk) → AreAsked t (event_steps n e) → (talk_after t (event_steps n e)).told ≡ fed_call n e t.told
call_told n (call.Took frame took) t asked = took_told (port_of frame == n) (seen frame) t
call_told n (call.Gathered dev number frame (fed_answer.Goes message line)) t asked = went_told (dev == n) (length frame - 4) t asked
call_told n other t asked = none_told t

pub calls_told : (n : ℕ) (events : List Event) (t : Talk) → AreAsked t (events_steps n events) → (talk_after t (events_steps n events)).told ≡ fed_calls n t.told events
unfolding fed_calls
calls_told n [] t asked = none_told t
calls_told n (e ∷ later) t asked =
    let parts = asked_parts (event_steps n e) (events_steps n later) t asked in
    ap (λ (x : Talk). x.told) (talk_both (event_steps n e) (events_steps n later) t)
    ∙ calls_told n later (talk_after t (event_steps n e)) parts.1
    ∙ ap (λ (x : Option Counted). fed_calls n x later) (call_told n e t parts.0)

-- ---- the Data that go next

well_both : (n : ℕ) (es : List Event) (e : Event) (a b c : ControllerState) (one : Runs a es b) (two : Runs b (e ∷ []) c) → AllHeardWell n a es b one → AllHeardWell n b (e ∷ []) c two
    → (run : Runs a (es ++ e ∷ []) c) × AllHeardWell n a (es ++ e ∷ []) c run
well_both n [] e a b c one two first then' = subst (λ (x : ControllerState). (run : Runs x (e ∷ []) c) × AllHeardWell n x (e ∷ []) c run) one.1 (two, then')
well_both n (x ∷ es) e a b c one two first then' =
    let rest = well_both n es e one.1.0 b c one.1.2 two first.1 then' in
    ((one.0, (one.1.0, one.1.1, rest.0)), (first.0, rest.1))

steps_both : (n : ℕ) (es fs : List Event) → events_steps n (es ++ fs) ≡ events_steps n es ++ events_steps n fs
steps_both n [] fs = refl
steps_both n (e ∷ es) fs = ap (λ l. event_steps n e ++ l) (steps_both n es fs) ∙ sym (append_assoc (event_steps n e) (events_steps n es) (events_steps n fs))

own_down : (b : Bool) (count : ℕ) (t : Talk) → b ≡ true → AreAsked t ((if b then Down count ∷ [] else []) ++ []) → t.wants ≡ true
own_down true count t e asked = asked.0
own_down false count t e asked = absurd (cc)

self_true : (n : ℕ) → (n == n) ≡ true
self_true n = eq-eqb n n refl

-- where Data go to the device they were asked for
pub record Went (n : ℕ) (events : List Event) : Type 0 where
  pub asked : AreAsked quiet_talk (events_steps n events)
  pub wants : (talk_after quiet_talk (events_steps n events)).wants ≡ true

went : (n : ℕ) (events : List Event) (number : ℕ) (frame : List ℕ) (message : Bool) (line : Edge)
    → AreAsked quiet_talk (events_steps n (events ++ call.Gathered n number frame (fed_answer.Goes message line) ∷ [])) → Went n events
went n events number frame message line asked =
    let e : Event = call.Gathered n number frame (fed_answer.Goes message line) in
    let parts = asked_parts (events_steps n events) (events_steps n (e ∷ [])) quiet_talk (subst (AreAsked quiet_talk) (steps_both n events (e ∷ [])) asked) in
    record {
      asked = parts.0;
      wants = own_down (n == n) (length frame - 4) (talk_after quiet_talk (events_steps n events)) (self_true n) parts.1;
    }

abbrev counted_or : Option Counted → Counted
counted_or None = record { tag = 0; count = 0 }
counted_or (Some c) = c

abbrev told_some : (a b : ℕ) → Option Counted
told_some a b = Some (record { tag = a; count = b })

some_counted : (a b a' b' : ℕ) → told_some a b ≡ told_some a' b' → (a ≡ a') × (b ≡ b')
some_counted a b a' b' e = (ap (λ o. (counted_or o).tag) e, ap (λ o. (counted_or o).count) e)

taken_place : (d : DiskState) (p : Profile) (limit : ℕ) (calls : List Call) (place slot offset : ℕ) (told : Option Counted) → told ≡ Some (record { tag = slot; count = offset })
    → AreTakenFor d (page_in p limit calls place) place told → IsForPlace p limit calls place slot offset
taken_place d p limit calls place slot offset told is are =
    let same = some_counted slot offset place (length are.of.ledger.came) (sym is ∙ are.counts) in
    record { same = same.0; page = are.of; is = are.is; number = same.1 }

open_place : (d : DiskState) (p : Profile) (limit : ℕ) (calls : List Call) (place slot offset : ℕ) (talk : Talk) → talk.told ≡ Some (record { tag = slot; count = offset })
    → (talk.told ≡ None) ⊎ AreTakenFor d (page_in p limit calls place) place talk.told → IsForPlace p limit calls place slot offset
open_place d p limit calls place slot offset talk is (inl none) = absurd (let both = sym is ∙ none in cc)
open_place d p limit calls place slot offset talk is (inr are) = taken_place d p limit calls place slot offset talk.told is are

pub keep_places : Laws → OrderedLinksKeepPlaces
keep_places laws n low old at new events run past told none well number frame message line last p limit base calls are awaits queue place inside receives extra up within =
    let e : Event = call.Gathered n number frame (fed_answer.Goes message line) in
    let all = well_both n events e old at new run last well (tt, tt) in
    let host : Went n events = went n events number frame message line (laws.asked n low old new (events ++ e ∷ []) all.0 none all.1) in
    let hs : List Step = events_steps n events in
    let ds : List Step = calls_steps calls in
    let d : DiskState = reached p limit (base ++ calls) in
    let turn = laws.turns p limit base calls are awaits queue in
    let waits : IsOpenFor d (page_in p limit (base ++ calls) place) place (talk_after quiet_talk ds) = laws.awaits p limit base calls are awaits queue place inside receives in
    let same : Agree hs ds = agree hs ds extra host.asked host.wants turn waits.wants up within in
    let next : IsNextOf at n frame (fed_calls n None events) =
    laws.follow n low old at last.1.0 events run past told none well number frame message line last.1.1 in
    record {
      slot = next.slot;
      offset = next.offset;
      len = next.len;
      is = next.is;
      issue = next.issue;
      there = next.there;
      of_dev = next.of_dev;
      way = next.way;
      goes = λ kind.
          open_place d p limit (base ++ calls) place next.slot next.offset (talk_after quiet_talk ds)
          (sym same.told ∙ calls_told n events quiet_talk host.asked ∙ next.says kind) waits.told;
    }
