-- The Data that a disk is to hear next went behind all that it heard: each of those FISes went before, in order.
use Rattle.std.proofs.Common.{◌≡◌, ◌⊎◌, ℕ, ◌<◌, Bool, true, false, List, [], ◌∷◌, ◌++◌, map, refl, sym, ap, subst, ◌∙◌, Ok, Some, inl, inr}
use Rattle.std.proofs.lemmas.{Bool.{eqb-true, false≢true}, Grind.{flat_map-append}}
use Rattle.std.specs.{Prelude.{◌==◌, if◌then◌else◌}, List.flat_map}
use Rattle.fis_view.specs.{Frames.{Stamped, marked}, Seen.seen}
use Rattle.fis_view.specs.declared.view.Fis.TheVariants as view
use Rattle.multiplier.specs.Passing.{of_conn}
use Rattle.ahci_controller.specs.declared.{feeding.Fed.Fed, latch.Edge.Edge, next.Next.Next}
use Rattle.ahci_controller.specs.declared.feeding.Fed.TheVariants as fed_answer
use Rattle.ahci_controller.specs.declared.next.Next.TheVariants as next
use Rattle.controller_laws.specs.Events as call
use Rattle.controller_laws.specs.Events.{Event, Runs}
use Rattle.disk_pages.specs.declared.profile.Profile.{Profile}
use Rattle.block_queue.specs.Line.{command_at}
use Rattle.sata_disk.specs.{Hearing.receives, State.{DiskState, commands, new_disk}}
use Rattle.sata_disk_books.specs.InTurn.{AreOfQueue, AwaitsNone, calls_steps}
use Rattle.sata_disk_laws.specs.{Calls.{AreCalls, Call}, Laws.reached, Once.new_host}
use Rattle.sata_disk_laws.proofs.Door.{calls_both}
use Rattle.ahci_machine.specs.{Gathers.host_stamp, States.{IsOpeningMachine, MachineState, bay_at}}
use Rattle.ahci_machine.specs.declared.act.Act.TheVariants as act
use Rattle.machine_laws.specs.{ControllerLaws.{ControllerRuns, RunsRuled, calls_in}, Controllers.{deed_calls, lost_calls, miss_calls, rest_calls}}
use Rattle.machine_laws.specs.{Controllers.supply_calls, Deeds.{Deed, Missed, Moved, Supplied}, Falling.{AllLast, HasLink, heard_by, leaving}}
use Rattle.machine_laws.specs.{Falling.{sent_by, sent_in, way_to}, Rising.{no_frames, frames_in}}
use Rattle.machine_laws.specs.Rising as rising
use Rattle.machine_theorem.specs.{Asking.events_steps, Brought.AllTakenWell, Crossing.{GoToPlace, Within, downs, ups}, Identity.{calls_of, heard_as}}
use Rattle.machine_theorem.specs.{Identity.{is_for, picks}, OwnSlots.{AllKeepLine, BeginsClear, NoneLost}, OwnWrites.AreOwnData}
use Rattle.machine_theorem.proofs.{Cut.{Cut, cut_here, cut_more}, DataDeeds.{all_plain, head_or, no_cons}, DataDown.{ArePlain, as_heard, data_sent}}
use Rattle.machine_theorem.proofs.{DataDown.{data_within, heard_data, heard_down, is_data, sent_down}, EndsFew.sent_of, Fallen.given_within}
use Rattle.machine_theorem.proofs.{Fallen.{line_stays, map_both}, Falls.{Told, controller_runs, told_now}, Few.{AreFew, are_few}, Ordered.first_ruled}
use Rattle.machine_theorem.proofs.{Ordered.{loses, misses, rests, supplies}, Own.last_ruled, OwnData.{Extra, Laws, lost_first, payload_is}}
use Rattle.machine_theorem.proofs.{OwnData.{size_within, up_first}, SentFises.{GoneOn, stretch_made}, SignsSent.{all_well, signs_in, stretch_up}}
use Rattle.machine_theorem.proofs.{SignsSent.{up_in, well_both}, TakenWell.{WellRun, well_run}, Within.{picks_both, past, within_picks, within_then}}

-- ---- the FISes for the port, as they are heard

abbrev pub fell_in : (many : Bool) (n : ℕ) → List Event → List (List ℕ)
fell_in many n events = map heard_as (picks (is_for many n) (sent_in events))

pub fell_both : (many : Bool) (n : ℕ) (xs ys : List Event) → fell_in many n (xs ++ ys) ≡ fell_in many n xs ++ fell_in many n ys
fell_both many n xs ys =
    ap (λ (l : List Stamped). map heard_as (picks (is_for many n) l)) (flat_map-append sent_by xs ys)
    ∙ ap (map heard_as) (picks_both (is_for many n) (sent_in xs) (sent_in ys))
    ∙ map_both heard_as (picks (is_for many n) (sent_in xs)) (picks (is_for many n) (sent_in ys))

-- by a call one goes at most
abbrev AtMostOne : List (List ℕ) → Type 0
AtMostOne l = (l ≡ []) ⊎ ((x : List ℕ) × (l ≡ x ∷ []))

if_one : (b : Bool) (f : Stamped) → AtMostOne (map heard_as (if b then f ∷ [] else []))
if_one true f = inr (heard_as f, refl)
if_one false f = inl refl

one_event : (many : Bool) (n : ℕ) (e : Event) → AtMostOne (fell_in many n (e ∷ []))
one_event many n (call.Turned (next.Order d slot fis)) =
    let o : Stamped = record { bytes = fis; stamp = host_stamp d } in if_one (is_for many n o) o
one_event many n (call.Gathered d number bytes (fed_answer.Goes message line)) =
    let o : Stamped = record { bytes = bytes; stamp = host_stamp d } in if_one (is_for many n o) o
one_event many n (call.Turned other) = inl refl
one_event many n (call.Gathered d number bytes other) = inl refl
one_event many n (call.Took frame took) = inl refl
one_event many n (call.Left frame why) = inl refl
one_event many n (call.Wrote offset value written) = inl refl
one_event many n (call.WroteWide offset width value written) = inl refl
one_event many n (call.Supplied slot number bytes supply) = inl refl
one_event many n (call.Missed slot number supply) = inl refl
one_event many n (call.Said write) = inl refl
one_event many n (call.NotThere d number fed) = inl refl

few_events : (many : Bool) (n : ℕ) (events : List Event) → AreFew events → AtMostOne (fell_in many n events)
few_events many n [] few = inl refl
few_events many n (e ∷ []) few = one_event many n e
few_events many n (e ∷ f ∷ later) few = absurd few

-- ---- parts of a stretch

pub own_parts : (many : Bool) (n dev : ℕ) (xs ys : List Event) → AreOwnData many n dev (xs ++ ys) → AreOwnData many n dev xs × AreOwnData many n dev ys
own_parts many n dev [] ys own = (tt, own)
own_parts many n dev (x ∷ xs) ys own = let rest = own_parts many n dev xs ys own.1 in ((own.0, rest.0), rest.1)

plain_parts : (xs ys : List Event) → ArePlain (xs ++ ys) → ArePlain xs × ArePlain ys
plain_parts [] ys plain = (tt, plain)
plain_parts (x ∷ xs) ys plain = let rest = plain_parts xs ys plain.1 in ((plain.0, rest.0), rest.1)

-- ---- the deed by which one went, behind some others

record Sent (many : Bool) (n : ℕ) (old : MachineState) (deeds : List Deed) (now : MachineState) (run : RunsRuled old deeds now) (hs : List (List ℕ)) (f : List ℕ) : Type 0 where
  deed : Deed
  cut : Cut deed old deeds now run
  prior : Within hs (fell_in many n (calls_in old cut.sooner cut.mid cut.led))
  sent : fell_in many n (deed_calls cut.mid deed cut.next cut.does) ≡ f ∷ []

module _ (many : Bool) (n : ℕ) (old : MachineState) (deed : Deed) (later : List Deed) (now : MachineState) (run : RunsRuled old (deed ∷ later) now) where
  abbrev by_it : List (List ℕ)
  by_it = fell_in many n (deed_calls old deed run.1.0 run.1.1)

  abbrev Rest : List (List ℕ) → List ℕ → Type 0
  Rest hs f = Sent many n run.1.0 later now run.1.2 hs f

  abbrev All : List (List ℕ) → List ℕ → Type 0
  All hs f = Sent many n old (deed ∷ later) now run hs f

  -- behind this deed, by which these went
  behind : (one hs : List (List ℕ)) (f : List ℕ) (gs : List (List ℕ)) → by_it ≡ one → ((ys : List (List ℕ)) → Within gs ys → Within hs (one ++ ys)) → Rest gs f → All hs f
  unfolding cut_more
  behind one hs f gs is more it =
      let events : List Event = deed_calls old deed run.1.0 run.1.1 in
      let rest : List Event = calls_in run.1.0 it.cut.sooner it.cut.mid it.cut.led in
      record {
        deed = it.deed;
        cut = cut_more it.deed deed later old now run it.cut;
        prior = subst (λ l. Within hs l) (sym (fell_both many n events rest ∙ ap (λ l. l ++ fell_in many n rest) is)) (more (fell_in many n rest) it.prior);
        sent = it.sent;
      }

  here : (f x : List ℕ) → by_it ≡ x ∷ [] → f ≡ x → All [] f
  unfolding cut_here
  here f x is same = record {
    deed = deed;
    cut = cut_here deed later old now run;
    prior = tt;
    sent = is ∙ ap (λ y. y ∷ []) (sym same);
  }

  one_case : (rest : List (List ℕ)) (ih : (hs : List (List ℕ)) (f : List ℕ) → Within (hs ++ f ∷ []) rest → Rest hs f)
      → (hs : List (List ℕ)) (f x : List ℕ) → by_it ≡ x ∷ [] → Within (hs ++ f ∷ []) (x ∷ rest) → All hs f
  one_case rest ih [] f x is (inl h) = here f x is h.0
  one_case rest ih [] f x is (inr h) = behind (x ∷ []) [] f [] is (λ ys w. tt) (ih [] f h)
  one_case rest ih (y ∷ hs) f x is (inl h) = behind (x ∷ []) (y ∷ hs) f hs is (λ ys w. inl (h.0, w)) (ih hs f h.1)
  one_case rest ih (y ∷ hs) f x is (inr h) = behind (x ∷ []) (y ∷ hs) f (y ∷ hs) is (λ ys w. past (y ∷ hs) x ys w) (ih (y ∷ hs) f h)

  step : (rest : List (List ℕ)) (ih : (hs : List (List ℕ)) (f : List ℕ) → Within (hs ++ f ∷ []) rest → Rest hs f)
      → (hs : List (List ℕ)) (f : List ℕ) → Within (hs ++ f ∷ []) (by_it ++ rest) → All hs f
  step rest ih hs f w = elim (few_events many n (deed_calls old deed run.1.0 run.1.1) (are_few deed old run.1.0 run.1.1)) [
    | inl none ↦ behind [] hs f hs none (λ ys x. x) (ih hs f (subst (λ l. Within (hs ++ f ∷ []) (l ++ rest)) none w))
    | inr some ↦ one_case rest ih hs f some.0 some.1 (subst (λ l. Within (hs ++ f ∷ []) (l ++ rest)) some.1 w)
  ]

none_within : {A : Type 0} (hs : List (List ℕ)) (f : List ℕ) → Within (hs ++ f ∷ []) [] → A
none_within [] f w = absurd w
none_within (h ∷ hs) f w = absurd w

find : (many : Bool) (n : ℕ) (deeds : List Deed) (old now : MachineState) (run : RunsRuled old deeds now) (hs : List (List ℕ)) (f : List ℕ)
    → Within (hs ++ f ∷ []) (fell_in many n (calls_in old deeds now run)) → Sent many n old deeds now run hs f
find many n [] old now run hs f w = none_within hs f w
find many n (deed ∷ later) old now run hs f w =
    step many n old deed later now run (fell_in many n (calls_in run.1.0 later now run.1.2))
    (λ hs f x. find many n later run.1.0 now run.1.2 hs f x) hs f
    (subst (λ l. Within (hs ++ f ∷ []) l) (fell_both many n (deed_calls old deed run.1.0 run.1.1) (calls_in run.1.0 later now run.1.2)) w)

-- ---- Data go by it

-- The deed by which the FIS went, and what was heard went before.
pub record GoneTo (many : Bool) (n dev : ℕ) (at : MachineState) (deeds : List Deed) (now : MachineState) (run : RunsRuled at deeds now) (hs : List (List ℕ)) (f : List ℕ)
    : Type 0 where
  pub message : Bool
  pub line : Edge
  pub cut : Cut (Moved (act.Gathers dev (fed_answer.Goes message line))) at deeds now run
  pub prior : Within hs (fell_in many n (calls_in at cut.sooner cut.mid cut.led))
  pub bytes : f ≡ heard_as (record { bytes = cut.does.does.gathering.bytes; stamp = host_stamp dev })

record Passed (b : Bool) (x f : List ℕ) : Type 0 where
  is : b ≡ true
  same : x ≡ f

passed : (b : Bool) (o : Stamped) (f : List ℕ) → map heard_as (if b then o ∷ [] else []) ≡ f ∷ [] → Passed b (heard_as o) f
passed true o f e = record { is = refl; same = ap (λ l. head_or f l) e }
passed false o f e = no_cons [] [] f e

none_fell : {A : Type 0} (many : Bool) (n : ℕ) (events : List Event) (f : List ℕ) → sent_in events ≡ [] → fell_in many n events ≡ f ∷ [] → A
none_fell many n events f none is = no_cons [] [] f (sym (ap (λ (l : List Stamped). map heard_as (picks (is_for many n) l)) none) ∙ is)

module _ (many : Bool) (n dev : ℕ) (at : MachineState) (deeds : List Deed) (now : MachineState) (run : RunsRuled at deeds now) (hs : List (List ℕ)) (f : List ℕ)
    (is_it : is_data f ≡ true) where
  abbrev Gone : ℕ → Type 0
  Gone k = GoneTo many n k at deeds now run hs f

  gathers : (k : ℕ) (message : Bool) (line : Edge) (cut : Cut (Moved (act.Gathers k (fed_answer.Goes message line))) at deeds now run)
      → Within hs (fell_in many n (calls_in at cut.sooner cut.mid cut.led))
      → (is_for many n (record { bytes = cut.does.does.gathering.bytes; stamp = host_stamp k }) ≡ true → (k == dev) ≡ true)
      → Passed (is_for many n (record { bytes = cut.does.does.gathering.bytes; stamp = host_stamp k })) (heard_as (record { bytes = cut.does.does.gathering.bytes; stamp = host_stamp k })) f
      → Gone dev
  gathers k message line cut prior own it =
      subst (λ (j : ℕ). Gone j) (eqb-true k dev (own it.is)) (record { message = message; line = line; cut = cut; prior = prior; bytes = sym it.same })

  order_not : (d : ℕ) (fis : List ℕ) → is_data (marked fis 0) ≡ false → Passed (is_for many n (record { bytes = fis; stamp = host_stamp d })) (marked fis 0) f → Gone dev
  order_not d fis plain it = absurd (false≢true (sym plain ∙ ap is_data it.same ∙ is_it))

  turned : (said : Next) (cut : Cut (Moved (act.Turns said)) at deeds now run) → ArePlain (call.Turned said ∷ []) → fell_in many n (call.Turned said ∷ []) ≡ f ∷ [] → Gone dev
  turned (next.Order d slot fis) cut plain sent =
      let o : Stamped = record { bytes = fis; stamp = host_stamp d } in
      order_not d fis plain.0 (passed (is_for many n o) o f sent)
  turned other cut plain sent = no_cons [] [] f sent

  gathered : (k : ℕ) (answer : Fed) (cut : Cut (Moved (act.Gathers k answer)) at deeds now run) → Within hs (fell_in many n (calls_in at cut.sooner cut.mid cut.led))
      → AreOwnData many n dev (deed_calls cut.mid (Moved (act.Gathers k answer)) cut.next cut.does)
      → fell_in many n (deed_calls cut.mid (Moved (act.Gathers k answer)) cut.next cut.does) ≡ f ∷ [] → Gone dev
  gathered k (fed_answer.Goes message line) cut prior own sent =
      let o : Stamped = record { bytes = cut.does.does.gathering.bytes; stamp = host_stamp k } in
      gathers k message line cut prior own.0 (passed (is_for many n o) o f sent)
  gathered k other cut prior own sent = no_cons [] [] f sent

  gone : (deed : Deed) (cut : Cut deed at deeds now run) → Within hs (fell_in many n (calls_in at cut.sooner cut.mid cut.led))
      → AreOwnData many n dev (deed_calls cut.mid deed cut.next cut.does) → ArePlain (deed_calls cut.mid deed cut.next cut.does)
      → fell_in many n (deed_calls cut.mid deed cut.next cut.does) ≡ f ∷ [] → Gone dev
  gone (Moved (act.Gathers k answer)) cut prior own plain sent = gathered k answer cut prior own sent
  gone (Moved (act.Turns said)) cut prior own plain sent = turned said cut plain sent
  gone (Moved act.Rests) cut prior own plain sent = none_fell many n (rest_calls cut.mid cut.does.middle cut.does.does) f (rests cut.mid cut.does.middle cut.does.does) sent
  gone (Moved (act.Loses why)) cut prior own plain sent = none_fell many n (lost_calls cut.mid.incoming why) f (loses cut.mid.incoming why) sent
  gone (Moved a) cut prior own plain sent = no_cons [] [] f sent
  gone (Supplied w bytes) cut prior own plain sent =
      none_fell many n (supply_calls w bytes cut.mid cut.does.answer cut.next cut.does.supplies) f (supplies w bytes cut.mid cut.does.answer cut.next cut.does.supplies) sent
  gone (Missed w) cut prior own plain sent =
      none_fell many n (miss_calls w cut.mid cut.does.answer cut.next cut.does.misses) f (misses w cut.mid cut.does.answer cut.next cut.does.misses) sent
  gone deed cut prior own plain sent = no_cons [] [] f sent

-- ---- the law

-- The FIS went at a moment of the stretch, behind all that the disk heard, byte for byte but for its PM Port; and where it goes.
pub record Behind (many : Bool) (n dev : ℕ) (at : MachineState) (deeds : List Deed) (now : MachineState) (run : RunsRuled at deeds now) (p : Profile) (limit : ℕ)
    (base : List Call) (place : ℕ) (f : List ℕ) : Type 0 where
  pub gone : GoneTo many n dev at deeds now run (flat_map heard_by (calls_of n at deeds now run)) f
  pub goes : GoToPlace gone.cut.mid.controller dev p limit (base ++ calls_of n at deeds now run) place

pub went_behind : Laws → (ports : ℕ) (legacy : Bool) (old : MachineState) → IsOpeningMachine ports legacy old
    → (before : List Deed) (at : MachineState) (first : RunsRuled old before at) (many : Bool) (n c dev : ℕ) → n < 15 → dev < 16
    → (begins : BeginsClear n c dev at) → leaving at ≡ [] → way_to at n ≡ []
    → (p : Profile) (limit : ℕ) (base : List Call) → AreCalls (new_disk p limit) base → begins.disk ≡ reached p limit base → AwaitsNone (reached p limit base)
    → (deeds : List Deed) (now : MachineState) (run : RunsRuled at deeds now) → HasLink deeds → AllLast n at deeds now run
    → AllKeepLine many n c dev at deeds now run → AllTakenWell dev at deeds now run → NoneLost dev (calls_in at deeds now run)
    → AreOwnData many n dev (calls_in at deeds now run) → AreOfQueue (reached p limit base) (calls_of n at deeds now run)
    → (f : Stamped) → (bay_at now n).down ≡ Some f → (v : List ℕ) → seen f.bytes ≡ Ok (view.Payload v)
    → (place : ℕ) → place < 32 → receives (command_at (commands (reached p limit (base ++ calls_of n at deeds now run))) place) ≡ true
    → Behind many n dev at deeds now run p limit base place f.bytes
went_behind laws ports legacy old opening before at first many n c dev low dev_low begins_at none clear p limit base are_base same awaits deeds now run linked_all lasts keeps well lost own queue f down v payload
    place inside receives =
    let led_here : ControllerRuns old before at first = controller_runs laws.falls ports legacy old opening before at first in
    let events : List Event = calls_in at deeds now run in
    let calls : List Call = calls_of n at deeds now run in
    let hs : List (List ℕ) = flat_map heard_by calls in
    let plain : ArePlain events = all_plain laws.orders laws.goes laws.due old.controller opening.controller deeds at now run led_here.due (calls_in old before at first) led_here.calls in
    let heard = given_within laws.falling many n deeds at now run begins_at.disk begins_at.there (line_stays many n c dev deeds at now run keeps) led_here.due linked_all lasts none clear f down in
    let it : Sent many n at deeds now run hs f.bytes = find many n deeds at now run hs f.bytes heard in
    let first_events : List Event = calls_in at it.cut.sooner it.cut.mid it.cut.led in
    let by : List Event = deed_calls it.cut.mid it.deed it.cut.next it.cut.does in
    let rest : List Event = calls_in it.cut.next it.cut.later now it.cut.rest in
    let owns = own_parts many n dev by rest (own_parts many n dev first_events (by ++ rest) (subst (AreOwnData many n dev) it.cut.events own)).1 in
    let plains = plain_parts by rest (plain_parts first_events (by ++ rest) (subst ArePlain it.cut.events plain)).1 in
    let g : GoneTo many n dev at deeds now run hs f.bytes = gone many n dev at deeds now run hs f.bytes (payload_is f.bytes v payload) it.deed it.cut it.prior owns.0 plains.0 it.sent in
    let k = g.cut in
    let mid_events : List Event = calls_in at k.sooner k.mid k.led in
    let deed : Deed = Moved (act.Gathers dev (fed_answer.Goes g.message g.line)) in
    let own_mid : AreOwnData many n dev mid_events =
    (own_parts many n dev mid_events (deed_calls k.mid deed k.next k.does ++ calls_in k.next k.later now k.rest) (subst (AreOwnData many n dev) k.events own)).0 in
    let plain_mid : ArePlain mid_events = (plain_parts mid_events (deed_calls k.mid deed k.next k.does ++ calls_in k.next k.later now k.rest) (subst ArePlain k.events plain)).0 in
    let keeps_mid : AllKeepLine many n c dev at k.sooner k.mid k.led = (k.line many n c dev keeps).0 in
    let ran : WellRun dev at k.sooner k.mid k.led = well_run laws.goes laws.due dev k.sooner at k.mid k.led led_here.due (k.taken dev well).0 in
    let last : Runs k.mid.controller (deed_calls k.mid deed k.next k.does) k.next.controller =
    laws.goes k.mid deed k.next k.does (last_ruled k.sooner at k.mid k.led) (first_ruled k.later k.next now k.rest) ran.runs.due in
    let t : Told at.controller = told_now laws.falls ports legacy old opening before at first in
    let made : GoneOn many n c dev begins_at.disk calls (of_conn n c (sent_of at deeds now run)) (bay_at now n).unit =
    stretch_made many n c dev laws.disks deeds at now run keeps begins_at.disk begins_at.there in
    let are : AreCalls (new_disk p limit) (base ++ calls) = calls_both base calls (new_disk p limit) are_base (subst (λ (x : DiskState). AreCalls x calls) same made.are) in
    let says = (well_both base calls (all_well (base ++ calls) new_host (laws.single p limit (base ++ calls) are))).1 in
    let up : up_in calls ≡ signs_in (of_conn n c (sent_of at deeds now run)) =
    stretch_up many n c dev laws.disks laws.falls.rising low deeds at now run (frames_in no_frames old before at first)
    (laws.falls.rising old before at first no_frames (laws.falls.opens_rising ports legacy old opening)) keeps begins_at.disk begins_at.there says in
    let lost_mid : NoneLost dev mid_events = lost_first dev mid_events (deed_calls k.mid deed k.next k.does ++ calls_in k.next k.later now k.rest) (subst (NoneLost dev) k.events lost) in
    let extra : Extra (up_in calls) (ups (events_steps dev mid_events)) =
    up_first laws ports legacy old opening before at first many n c dev low begins_at deeds now run k.sooner k.mid k.led keeps_mid lost_mid
    (rising.sent_by k.mid deed k.next k.does ++ sent_of k.next k.later now k.rest) k.sent (up_in calls) up in
    let data' : Within (picks is_data hs) (map as_heard (data_sent dev mid_events)) =
    within_then (picks is_data hs) (heard_data (picks (is_for many n) (sent_in mid_events))) (map as_heard (data_sent dev mid_events))
    (within_picks is_data hs (fell_in many n mid_events) g.prior) (data_within many n dev mid_events own_mid plain_mid) in
    let within : Within (downs (calls_steps calls)) (downs (events_steps dev mid_events)) =
    size_within (picks is_data hs) (data_sent dev mid_events) (downs (calls_steps calls)) (downs (events_steps dev mid_events)) (heard_down calls) (sent_down dev mid_events) data' in
    record {
      gone = g;
      goes = laws.keep dev dev_low at.controller k.mid.controller k.next.controller mid_events ran.runs.calls (t.past dev) (t.told dev dev_low) begins_at.clear ran.well
          k.does.does.gathering.feed.number k.does.does.gathering.bytes g.message g.line last p limit base calls are awaits queue place inside receives extra.rest extra.is within;
    }
