-- The Data that a disk hears for a queued write went from its own slot.
use Rattle.std.proofs.Common.{◌≡◌, ℕ, ◌<◌, Bool, true, false, List, [], ◌∷◌, ◌++◌, append_assoc, map, refl, sym, ap, subst, ◌∙◌, Ok}
use Rattle.std.proofs.lemmas.Bool.{eqb-true}
use Rattle.std.specs.{Prelude.{◌==◌, if◌then◌else◌}, List.flat_map}
use Rattle.fis_view.specs.{Frames.Stamped, Seen.seen}
use Rattle.fis_view.specs.declared.view.Fis.TheVariants as view
use Rattle.multiplier.specs.Passing.{of_conn}
use Rattle.ahci_controller.specs.declared.feeding.Fed.TheVariants as fed_answer
use Rattle.ahci_controller.specs.declared.latch.Edge.{Edge}
use Rattle.controller_laws.specs.Events as call
use Rattle.controller_laws.specs.Events.{Event, Runs}
use Rattle.sata_disk.specs.{Hearing.receives, State.{DiskState, new_disk}}
use Rattle.sata_disk_books.specs.{InTurn.calls_steps, Talks.Sign}
use Rattle.sata_disk_laws.specs.{Calls.{AreCalls, Call}, Once.{AnswersAreSingle, new_host}}
use Rattle.sata_disk_laws.proofs.Door.{calls_both}
use Rattle.ahci_machine.specs.States.{IsOpeningMachine, MachineState, bay_at}
use Rattle.ahci_machine.specs.declared.act.Act.TheVariants as act
use Rattle.machine_laws.specs.{ControllerLaws.{ControllerRuns, RunsRuled, calls_in}, Controllers.{ControllerGoesOn, StaysDue, deed_calls}, Deeds.Deed}
use Rattle.machine_laws.specs.{Deeds.Moved, Disks.DisksGoOn, Falling.{heard_by, sent_in}, Feeding.OrdersAreIssued, Rising.{AreLinked, Frames}}
use Rattle.machine_laws.specs.Rising.{FramesAreTaken, FramesRise, HaveRisen, bytes_of, frames_in, frames_of, no_frames, sent_by}
use Rattle.machine_theorem.specs.{Asking.events_steps, Brought.AllTakenWell, Crossing.{OrderedLinksKeepPlaces, Within, downs, ups}, Identity.calls_of}
use Rattle.machine_theorem.specs.{Identity.{heard_as, is_for, picks}, OwnSlots.{AllKeepLine, BeginsClear, NoneLost}}
use Rattle.machine_theorem.specs.OwnWrites.{DataComeFromTheirOwnSlot}
use Rattle.machine_theorem.proofs.{Cut.Cut, DataDeeds.{Found, all_plain, deed_quiet, find, head_or, no_cons}, DataDown.{Split, as_heard, data_sent}}
use Rattle.machine_theorem.proofs.DataDown.{data_within, heard_data, heard_down, is_data, is_payload, picks_last, sent_down, size, sizes, sizes_heard}
use Rattle.machine_theorem.proofs.{DataDown.split, EndsFew.sent_of, Fallen.{given_within, line_stays}, Falls.{Told, controller_runs, told_now}}
use Rattle.machine_theorem.proofs.{FallsFew.came_of, Ordered.first_ruled, Own.last_ruled, OwnPlace.{came_one, frames_are, linked}}
use Rattle.machine_theorem.proofs.{RisenTold.conn_both, SentFises.{GoneOn, stretch_made}, SignsCame.{Begins, begins, events_up, own_up, signs_own}}
use Rattle.machine_theorem.proofs.{SignsSent.{all_well, signs_both, signs_in, stretch_up, up_in, well_both}, TakenWell.{WellRun, well_run}}
use Rattle.machine_theorem.proofs.Within.{picks_both, within_map, within_picks, within_then}
use Rattle.machine_theorem.proofs.Fallen as fallen
use Rattle.machine_theorem.proofs.Falls as falls

pub record Laws : Type 0 where
  pub falls : falls.Laws
  pub falling : fallen.Laws
  pub order : FramesRise
  pub taken : FramesAreTaken
  pub disks : DisksGoOn
  pub goes : ControllerGoesOn
  pub due : StaysDue
  pub orders : OrdersAreIssued
  pub single : AnswersAreSingle
  pub keep : OrderedLinksKeepPlaces

-- ---- a stretch

pub lost_first : (dev : ℕ) (xs ys : List Event) → NoneLost dev (xs ++ ys) → NoneLost dev xs
lost_first dev [] ys none = tt
lost_first dev (call.Left frame why ∷ xs) ys none = (none.0, lost_first dev xs ys none.1)
lost_first dev (call.Took frame took ∷ xs) ys none = lost_first dev xs ys none
lost_first dev (call.Wrote offset value written ∷ xs) ys none = lost_first dev xs ys none
lost_first dev (call.WroteWide offset width value written ∷ xs) ys none = lost_first dev xs ys none
lost_first dev (call.Supplied slot number bytes supply ∷ xs) ys none = lost_first dev xs ys none
lost_first dev (call.Missed slot number supply ∷ xs) ys none = lost_first dev xs ys none
lost_first dev (call.Turned said ∷ xs) ys none = lost_first dev xs ys none
lost_first dev (call.Said write ∷ xs) ys none = lost_first dev xs ys none
lost_first dev (call.Gathered d number frame fed ∷ xs) ys none = lost_first dev xs ys none
lost_first dev (call.NotThere d number fed ∷ xs) ys none = lost_first dev xs ys none

pub payload_is : (b v : List ℕ) → seen b ≡ Ok (view.Payload v) → is_data b ≡ true
payload_is b v is = ap is_payload is

-- the Data that were heard, and the one that is to be heard, are some of those that were sent
data_given : (many : Bool) (n dev : ℕ) (events : List Event) (hs : List (List ℕ)) (f : List ℕ) → is_data f ≡ true
    → Within (hs ++ f ∷ []) (map heard_as (picks (is_for many n) (sent_in events))) → Within (heard_data (picks (is_for many n) (sent_in events))) (map as_heard (data_sent dev events))
    → Within (picks is_data hs ++ f ∷ []) (map as_heard (data_sent dev events))
data_given many n dev events hs f is within own =
    let both : picks is_data (hs ++ f ∷ []) ≡ picks is_data hs ++ f ∷ [] = picks_both is_data hs (f ∷ []) ∙ ap (λ l. picks is_data hs ++ l) (picks_last is_data hs f is) in
    within_then (picks is_data hs ++ f ∷ []) (heard_data (picks (is_for many n) (sent_in events))) (map as_heard (data_sent dev events))
    (subst (λ l. Within l (heard_data (picks (is_for many n) (sent_in events)))) both (within_picks is_data (hs ++ f ∷ []) (map heard_as (picks (is_for many n) (sent_in events))) within)) own

-- ---- the moment

-- the deed by which it went
record GoneAt (many : Bool) (n c dev : ℕ) (at : MachineState) (deeds : List Deed) (now : MachineState) (run : RunsRuled at deeds now) (pre : List (List ℕ)) (f : List ℕ) (k : ℕ) : Type 0 where
  message : Bool
  line : Edge
  cut : Cut (Moved (act.Gathers k (fed_answer.Goes message line))) at deeds now run
  prior : data_sent dev (calls_in at cut.sooner cut.mid cut.led) ≡ pre
  bytes : f ≡ cut.does.does.gathering.bytes
  keeps : AllKeepLine many n c dev at cut.sooner cut.mid cut.led
  well : AllTakenWell dev at cut.sooner cut.mid cut.led

abbrev one_if : Bool → List ℕ → List (List ℕ)
one_if true f = f ∷ []
one_if false f = []

module _ (many : Bool) (n c dev : ℕ) (at : MachineState) (deeds : List Deed) (now : MachineState) (run : RunsRuled at deeds now) (pre : List (List ℕ)) (f : List ℕ) where
  abbrev Gone : ℕ → Type 0
  Gone k = GoneAt many n c dev at deeds now run pre f k

  at_dev : (k : ℕ) (message : Bool) (line : Edge) (cut : Cut (Moved (act.Gathers k (fed_answer.Goes message line))) at deeds now run)
      → data_sent dev (calls_in at cut.sooner cut.mid cut.led) ≡ pre → AllKeepLine many n c dev at cut.sooner cut.mid cut.led → AllTakenWell dev at cut.sooner cut.mid cut.led
      → (b : Bool) → (k == dev) ≡ b → one_if b cut.does.does.gathering.bytes ≡ f ∷ [] → Gone dev
  at_dev k message line cut prior keeps well true same is =
      subst (λ (j : ℕ). Gone j) (eqb-true k dev same) (record {
        message = message;
        line = line;
        cut = cut;
        prior = prior;
        bytes = sym (ap (λ l. head_or f l) is);
        keeps = keeps;
        well = well;
      })
  at_dev k message line cut prior keeps well false same is = no_cons [] [] f is

  if_same : (b : Bool) (x : List ℕ) → (if b then x ∷ [] else []) ≡ one_if b x
  if_same true x = refl
  if_same false x = refl

  gone : (deed : Deed) (cut : Cut deed at deeds now run) → data_sent dev (calls_in at cut.sooner cut.mid cut.led) ≡ pre
      → data_sent dev (deed_calls cut.mid deed cut.next cut.does) ≡ f ∷ [] → AllKeepLine many n c dev at cut.sooner cut.mid cut.led → AllTakenWell dev at cut.sooner cut.mid cut.led → Gone dev
  gone (Moved (act.Gathers k (fed_answer.Goes message line))) cut prior sent keeps well =
      at_dev k message line cut prior keeps well (k == dev) refl (sym (if_same (k == dev) cut.does.does.gathering.bytes) ∙ sent)
  gone (Moved (act.Gathers k other)) cut prior sent keeps well = no_cons [] [] f sent
  gone (Moved (act.Turns said)) cut prior sent keeps well = no_cons [] [] f sent
  gone (Moved (act.Takes took)) cut prior sent keeps well = no_cons [] [] f sent
  gone (Moved act.Rests) cut prior sent keeps well = no_cons [] [] f (sym (deed_quiet dev (Moved act.Rests) cut.mid cut.next cut.does tt).sends ∙ sent)
  gone (Moved a) cut prior sent keeps well = no_cons [] [] f (sym (deed_quiet dev (Moved a) cut.mid cut.next cut.does tt).sends ∙ sent)
  gone deed cut prior sent keeps well = no_cons [] [] f (sym (deed_quiet dev deed cut.mid cut.next cut.does tt).sends ∙ sent)

-- ---- what the disk said

pub record Extra (xs ys : List Sign) : Type 0 where
  pub rest : List Sign
  pub is : xs ≡ ys ++ rest

-- what had come until a moment of the stretch is a beginning of what the disk says in all of it
module _ (laws : Laws) (ports : ℕ) (legacy : Bool) (old : MachineState) (opening : IsOpeningMachine ports legacy old) (before : List Deed) (at : MachineState) (first : RunsRuled old before at)
    (many : Bool) (n c dev : ℕ) (low : n < 15) (begins_at : BeginsClear n c dev at) (deeds : List Deed) (now : MachineState) (run : RunsRuled at deeds now) where
  abbrev was : Frames
  was = frames_in no_frames old before at first

  risen_at : HaveRisen at was
  risen_at = laws.falls.rising old before at first no_frames (laws.falls.opens_rising ports legacy old opening)

  came_up : (sooner : List Deed) (mid : MachineState) (led : RunsRuled at sooner mid) → AllKeepLine many n c dev at sooner mid led → NoneLost dev (calls_in at sooner mid led)
      → ups (events_steps dev (calls_in at sooner mid led)) ≡ signs_in (of_conn n c (came_of at sooner mid led))
  came_up sooner mid led keeps lost =
      let link : AreLinked sooner = linked many n c dev sooner at mid led keeps in
      let came : List Stamped = came_of at sooner mid led in
      let taken : bytes_of came ≡ frames_of (calls_in at sooner mid led) =
      ap (λ (x : Frames). bytes_of x.came) (sym (frames_are sooner at mid led no_frames link)) ∙ laws.taken at sooner mid led no_frames link in
      events_up dev (calls_in at sooner mid led) lost ∙ ap (λ l. signs_own dev l) (sym taken) ∙ own_up n c dev came (came_one many n c dev sooner at mid led keeps)

  came_first : (sooner : List Deed) (mid : MachineState) (led : RunsRuled at sooner mid) → AllKeepLine many n c dev at sooner mid led
      → Begins n c (came_of at sooner mid led) (sent_of at sooner mid led)
  came_first sooner mid led keeps =
      let all : Frames = frames_in was at sooner mid led in
      let risen_mid : HaveRisen mid all = laws.falls.rising at sooner mid led was risen_at in
      begins n c at mid was all (came_of at sooner mid led) (sent_of at sooner mid led) (laws.order at was risen_at n c low) (laws.order mid all risen_mid n c low)
      (frames_are sooner at mid led was (linked many n c dev sooner at mid led keeps)) begins_at.way begins_at.lasts

  pub up_first : (sooner : List Deed) (mid : MachineState) (led : RunsRuled at sooner mid) → AllKeepLine many n c dev at sooner mid led → NoneLost dev (calls_in at sooner mid led)
      → (later : List Stamped) → sent_of at deeds now run ≡ sent_of at sooner mid led ++ later → (said : List Sign) → said ≡ signs_in (of_conn n c (sent_of at deeds now run))
      → Extra said (ups (events_steps dev (calls_in at sooner mid led)))
  up_first sooner mid led keeps lost later is said says =
      let came : List Stamped = of_conn n c (came_of at sooner mid led) in
      let b : Begins n c (came_of at sooner mid led) (sent_of at sooner mid led) = came_first sooner mid led keeps in
      let whole : of_conn n c (sent_of at deeds now run) ≡ came ++ (b.rest ++ of_conn n c later) =
      ap (λ l. of_conn n c l) is ∙ conn_both n c (sent_of at sooner mid led) later ∙ ap (λ l. l ++ of_conn n c later) b.is ∙ append_assoc came b.rest (of_conn n c later) in
      record {
        rest = signs_in (b.rest ++ of_conn n c later);
        is = says ∙ ap signs_in whole ∙ signs_both came (b.rest ++ of_conn n c later)
            ∙ ap (λ l. l ++ signs_in (b.rest ++ of_conn n c later)) (sym (came_up sooner mid led keeps lost));
      }

-- ---- the law

pub size_within : (hs front : List (List ℕ)) (one two : List ℕ) → one ≡ sizes hs → two ≡ sizes front → Within hs (map as_heard front) → Within one two
size_within hs front one two is same within =
    subst (λ l. Within l two) (sym is) (subst (λ l. Within (sizes hs) l) (sizes_heard front ∙ sym same) (within_map size hs (map as_heard front) within))

pub data_come : Laws → DataComeFromTheirOwnSlot
data_come laws ports legacy old opening before at first many n c dev low dev_low begins_at none clear p limit base are_base same awaits deeds now run linked_all lasts keeps well lost own queue f down v payload
    place inside receives =
    let led_here : ControllerRuns old before at first = controller_runs laws.falls ports legacy old opening before at first in
    let events : List Event = calls_in at deeds now run in
    let calls : List Call = calls_of n at deeds now run in
    let hs : List (List ℕ) = flat_map heard_by calls in
    let plain = all_plain laws.orders laws.goes laws.due old.controller opening.controller deeds at now run led_here.due (calls_in old before at first) led_here.calls in
    let heard = given_within laws.falling many n deeds at now run begins_at.disk begins_at.there (line_stays many n c dev deeds at now run keeps) led_here.due linked_all lasts none clear f down in
    let s : Split (picks is_data hs) f.bytes (data_sent dev events) =
    split (picks is_data hs) f.bytes (data_sent dev events) (data_given many n dev events hs f.bytes (payload_is f.bytes v payload) heard (data_within many n dev events own plain)) in
    let found : Found many n c dev at deeds now run s.front s.it = find many n c dev deeds at now run keeps well s.front s.back s.it s.is in
    let g : GoneAt many n c dev at deeds now run s.front s.it dev = gone many n c dev at deeds now run s.front s.it found.deed found.cut found.prior found.sent found.keeps found.well in
    let k = g.cut in
    let mid_events : List Event = calls_in at k.sooner k.mid k.led in
    let deed : Deed = Moved (act.Gathers dev (fed_answer.Goes g.message g.line)) in
    let ran : WellRun dev at k.sooner k.mid k.led = well_run laws.goes laws.due dev k.sooner at k.mid k.led led_here.due g.well in
    let last : Runs k.mid.controller (deed_calls k.mid deed k.next k.does) k.next.controller =
    laws.goes k.mid deed k.next k.does (last_ruled k.sooner at k.mid k.led) (first_ruled k.later k.next now k.rest) ran.runs.due in
    let t : Told at.controller = told_now laws.falls ports legacy old opening before at first in
    let made : GoneOn many n c dev begins_at.disk calls (of_conn n c (sent_of at deeds now run)) (bay_at now n).unit =
    stretch_made many n c dev laws.disks deeds at now run keeps begins_at.disk begins_at.there in
    let are : AreCalls (new_disk p limit) (base ++ calls) = calls_both base calls (new_disk p limit) are_base (subst (λ (x : DiskState). AreCalls x calls) same made.are) in
    let says = (well_both base calls (all_well (base ++ calls) new_host (laws.single p limit (base ++ calls) are))).1 in
    let up : up_in calls ≡ signs_in (of_conn n c (sent_of at deeds now run)) =
    stretch_up many n c dev laws.disks laws.falls.rising low deeds at now run (frames_in no_frames old before at first)
    (laws.falls.rising old before at first no_frames (laws.falls.opens_rising ports legacy old opening)) keeps begins_at.disk begins_at.there says in
    let lost_mid : NoneLost dev mid_events = lost_first dev mid_events (deed_calls k.mid deed k.next k.does ++ calls_in k.next k.later now k.rest) (subst (NoneLost dev) k.events lost) in
    let extra : Extra (up_in calls) (ups (events_steps dev mid_events)) =
    up_first laws ports legacy old opening before at first many n c dev low begins_at deeds now run k.sooner k.mid k.led g.keeps lost_mid
    (sent_by k.mid deed k.next k.does ++ sent_of k.next k.later now k.rest) k.sent (up_in calls) up in
    let within : Within (downs (calls_steps calls)) (downs (events_steps dev mid_events)) =
    size_within (picks is_data hs) s.front (downs (calls_steps calls)) (downs (events_steps dev mid_events)) (heard_down calls) (sent_down dev mid_events ∙ ap sizes g.prior) s.first in
    record {
      before = k.sooner;
      mid = k.mid;
      first = k.led;
      message = g.message;
      line = g.line;
      after = k.next;
      does = k.does;
      later = k.later;
      is = k.is;
      bytes = s.here ∙ ap as_heard g.bytes;
      goes = laws.keep dev dev_low at.controller k.mid.controller k.next.controller mid_events ran.runs.calls (t.past dev) (t.told dev dev_low) begins_at.clear ran.well
          k.does.does.gathering.feed.number k.does.does.gathering.bytes g.message g.line last p limit base calls are awaits queue place inside receives extra.rest extra.is within;
    }
