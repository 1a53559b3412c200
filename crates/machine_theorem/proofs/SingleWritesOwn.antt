-- What a disk takes for a write that is not queued is what the caller had supplied for the command of its own slot, from its first byte on, in order.
use Rattle.std.proofs.Common.{◌≡◌, ℕ, ◌+◌, ◌≤◌, Bool, true, false, List, [], ◌∷◌, ◌++◌, append_assoc, length, map, Some, refl, sym, ap, subst, ◌∙◌}
use Rattle.std.proofs.{Common.arith, lemmas.{Bool.{false≢true}, Grind.{flat_map-append}, List.{length-append}}}
use Rattle.std.specs.{Prelude.{◌==◌, if◌then◌else◌, is_some}, List.flat_map}
use Rattle.fis_view.specs.Frames.{Stamped, marked}
use Rattle.multiplier.specs.Passing.{of_conn}
use Rattle.slots.specs.{Slots.{Issue, is_pio, is_queued_issue, is_waiting, issue_at}, Work.is_read}
use Rattle.ahci_controller.specs.declared.feeding.Fed.TheVariants as fed_answer
use Rattle.ahci_controller.specs.declared.next.Next.TheVariants as next
use Rattle.controller_laws.specs.Events as call
use Rattle.controller_laws.specs.Events.{Event, IsController, Runs}
use Rattle.block_disk.specs.Laws.{Page}
use Rattle.ata_reply.specs.declared.reply.Reply.TheVariants as replies
use Rattle.disk_pages.specs.declared.profile.Profile.{Profile}
use Rattle.sata_disk.specs.{Sending.IsOut, State.new_disk, declared.out.Out.Out}
use Rattle.sata_disk.specs.declared.out.Out.TheVariants as out
use Rattle.sata_disk_books.specs.Books.{IsAskedFor, page_in}
use Rattle.sata_disk_laws.specs.{Calls.{AreCalls, Call, Hears}, Laws.reached}
use Rattle.ahci_machine.specs.{Gathers.host_stamp, States.{HasRules, MachineState}}
use Rattle.ahci_machine.specs.declared.act.Act.TheVariants as act
use Rattle.machine_laws.specs.{ControllerLaws.{OpensSo, RunsRuled, calls_in}, Controllers.GathersDue, Deeds.{Deed, Does, Moved}, Falling.heard_by}
use Rattle.machine_laws.specs.{Falling.{sent_by as goes_by, sent_in}, Feeding.{IsReading, OrdersAreIssued, came_in}, Rising.sent_by}
use Rattle.machine_theorem.specs.{Commands.AreNotIssued, Completed.IsEndedInHistory, Crossing.Within, DataCame.{AreOfHeard, DataComeBehind}}
use Rattle.machine_theorem.specs.{DataCame.IsWrittenBehind, Ending.{HasNoQueued, UnqueuedCommandsWait}, Given.IsWhole, Identity.{heard_as, is_for, picks}}
use Rattle.machine_theorem.specs.{InTurn.{AreKeptOn, heard_in, is_answering, is_asking}, OwnSlots.is_of, OwnWrites.AreOwnData}
use Rattle.machine_theorem.specs.{PioIn.{AllKeepUnqueued, KeepsUnqueued}, Settled.IsUnsettled, SingleData.went_in, Singles.IsFromSlot}
use Rattle.machine_theorem.specs.{SingleWrites.{IsFedSince, IsFedWhole, IsSuppliedSingle, SingleWritesAreAsSupplied, went_to}, Waits.is_commanded}
use Rattle.machine_theorem.specs.Writes.{payloads}
use Rattle.machine_theorem.proofs.{AllWent.all_went, AtMoments.more, Commanded.asked, Cut.Cut, DataDeeds.all_plain, DataDown.ArePlain}
use Rattle.machine_theorem.proofs.{DataDown.{as_heard, data_sent, data_within, is_data}, DataTail.{all_bytes, behind_within, data_heard}}
use Rattle.machine_theorem.proofs.{DataTail.{marked_payloads, tail_within}, ErrorNone.IsErrorFis, Fallen.{heard_among, line_stays, map_both}}
use Rattle.machine_theorem.proofs.{Falls.{Told, controller_runs, kept_of, told_now}, FedFor.{Good, opens_good, run_good}}
use Rattle.machine_theorem.proofs.{FedSingles.{Along, fed_along, unqueued_first, went_long}, OrderCut.{OrderAt, order_at}, Ordered.first_ruled}
use Rattle.machine_theorem.proofs.{Own.last_ruled, OwnPlace.Found, PioOwn.{IsSpoken, IsThen, Stretch, WentFrom, behind, calls, came, done_by}}
use Rattle.machine_theorem.proofs.PioOwn.{due_one, events, found_of, is_last, is_then, most_of, on_then, settled, spoken, then'}
use Rattle.machine_theorem.proofs.{SingleCalls.{Going, begins}, SinglesOwn.{completed_by, completed_waits, earns, last_heard}}
use Rattle.machine_theorem.proofs.{SinglesOwn.{no_error, same_issue}, Stretch.whole_run, WaitingRun.{WaitingRun, waiting_run}}
use Rattle.machine_theorem.proofs.Within.{first_within, picks_both, within_picks, within_then}
use Rattle.machine_theorem.proofs.FedSingles as fed_singles
use Rattle.machine_theorem.proofs.PioOwn as own

pub record Laws : Type 0 where
  pub own : own.Laws
  pub wait : UnqueuedCommandsWait
  pub fed : fed_singles.Laws
  pub came : DataComeBehind
  pub orders : OrdersAreIssued

-- ---- what goes

pub went_is : (dev : ℕ) (evs : List Event) → went_to dev evs ≡ data_sent dev evs
went_is dev [] = refl
went_is dev (call.Gathered d number frame (fed_answer.Goes message line) ∷ later) = ap (λ (l : List (List ℕ)). if d == dev then frame ∷ l else l) (went_is dev later)
went_is dev (call.Gathered d number frame other ∷ later) = went_is dev later
went_is dev (call.Took frame took ∷ later) = went_is dev later
went_is dev (call.Left frame why ∷ later) = went_is dev later
went_is dev (call.Wrote offset value written ∷ later) = went_is dev later
went_is dev (call.WroteWide offset width value written ∷ later) = went_is dev later
went_is dev (call.Supplied slot number bytes supply ∷ later) = went_is dev later
went_is dev (call.Missed slot number supply ∷ later) = went_is dev later
went_is dev (call.Turned said ∷ later) = went_is dev later
went_is dev (call.Said write ∷ later) = went_is dev later
went_is dev (call.NotThere d number fed ∷ later) = went_is dev later

event_tail : (x y : Event) (xs ys : List Event) → x ∷ xs ≡ y ∷ ys → xs ≡ ys
event_tail x y xs ys e = cc

cancel : (front xs ys : List Event) → front ++ xs ≡ front ++ ys → xs ≡ ys
cancel [] xs ys e = e
cancel (x ∷ front) xs ys e = cancel front xs ys (event_tail x x (front ++ xs) (front ++ ys) e)

own_behind : (many : Bool) (n dev : ℕ) (xs : List Event) (y : Event) (ys : List Event) → AreOwnData many n dev (xs ++ y ∷ ys) → AreOwnData many n dev ys
own_behind many n dev [] y ys own = own.1
own_behind many n dev (x ∷ xs) y ys own = own_behind many n dev xs y ys own.1

plain_behind : (xs : List Event) (y : Event) (ys : List Event) → ArePlain (xs ++ y ∷ ys) → ArePlain ys
plain_behind [] y ys plain = plain.1
plain_behind (x ∷ xs) y ys plain = plain_behind xs y ys plain.1

-- what the commands of a stretch of calls were, as they are heard
abbrev frames_for : (many : Bool) → (n : ℕ) → List Event → List (List ℕ)
frames_for many n evs = map heard_as (picks (is_for many n) (sent_in evs))

for_both : (many : Bool) (n : ℕ) (xs ys : List Event) → frames_for many n (xs ++ ys) ≡ frames_for many n xs ++ frames_for many n ys
for_both many n xs ys =
    ap (λ (l : List Stamped). map heard_as (picks (is_for many n) l)) (flat_map-append goes_by xs ys) ∙ ap (map heard_as) (picks_both (is_for many n) (sent_in xs) (sent_in ys))
    ∙ map_both heard_as (picks (is_for many n) (sent_in xs)) (picks (is_for many n) (sent_in ys))

for_one : (b : Bool) (f : Stamped) (rest : List Stamped) → b ≡ true → map heard_as (if b then f ∷ rest else rest) ≡ heard_as f ∷ map heard_as rest
for_one true f rest e = refl
for_one false f rest e = absurd (false≢true e)

-- ---- the command whose bit falls

-- what came for it, of the calls that led to its end
record Came (p : Profile) (limit : ℕ) (all : List Call) (bytes : List ℕ) (later : List Call) (page : Page) : Type 0 where
  asked : IsAskedFor p limit all page.command
  is : asked.bytes ≡ bytes
  came : AreOfHeard later page.ledger.came

module _ (laws : Laws) (s : Stretch) (unqueued : AllKeepUnqueued s.many s.n s.dev s.at s.deeds s.now s.run) (none_queued : HasNoQueued s.dev s.now.controller)
    (own_data : AreOwnData s.many s.n s.dev (events s)) (issue : Issue) (there : issue_at s.now.controller.core.slots s.slot ≡ Some issue) (mine : issue.dev ≡ s.dev)
    (waits : is_waiting issue ≡ true) (plain : is_pio issue.work.kind ≡ false) (f : Stamped) (own : is_of s.n s.c f ≡ true)
    (found : Found s.many s.n s.c s.dev s.at s.deeds s.now s.run (of_conn s.n s.c (came s)) f) (well : IsErrorFis f.bytes → ⊥) (ended : IsEndedInHistory s.now.controller f.bytes s.slot) where
  abbrev prior : List Stamped
  prior = of_conn s.n s.c (came s)

  abbrev until_then : List Call
  until_then = then' laws.own s f own prior found

  abbrev since_then : List Call
  since_then = behind laws.own s f own prior found

  abbrev Whole : Type 0
  Whole = IsFedWhole s.n s.dev s.slot s.old s.before s.at s.first s.deeds s.now s.run s.p s.limit (s.base ++ until_then) issue

  -- ---- the Data of its slot

  record Fed (from : List ℕ) (back : List Event) : Type 0 where
    since : IsFedSince s.dev s.slot from s.old s.before s.at s.first s.deeds s.now s.run
    is : calls_in since.sent since.later s.now since.rest ≡ back
    few : length (payloads (went_to s.dev (calls_in since.sent since.later s.now since.rest))) ≤ issue.work.len
    whole : is_read issue.work.kind ≡ false → length (payloads (went_to s.dev (calls_in since.sent since.later s.now since.rest))) ≡ issue.work.len

  opened : OpensSo s.old
  opened = laws.fed.fed.opens s.ports s.legacy s.old s.opening (first_ruled s.before s.old s.at s.first)

  module _ (order : List ℕ) (front back : List Event) (is : events s ≡ front ++ call.Turned (next.Order s.dev s.slot order) ∷ back) (clear : AreNotIssued s.slot back)
      (to : is_for s.many s.n (record { bytes = order; stamp = host_stamp s.dev }) ≡ true) (asks : is_asking (marked order 0) ≡ true) where
    at_order : OrderAt s.dev s.slot order s.at s.deeds s.now s.run front
    at_order = order_at s.dev s.slot order s.deeds s.at s.now s.run front back is

    abbrev cut : Cut (Moved (act.Turns (next.Order s.dev s.slot order))) s.at s.deeds s.now s.run
    cut = at_order.cut

    -- the calls behind it
    back_is : calls_in cut.next cut.later s.now cut.rest ≡ back
    back_is =
        let rest : List Event = calls_in cut.next cut.later s.now cut.rest in
        let x : Event = call.Turned (next.Order s.dev s.slot order) in
        event_tail x x rest back
        (cancel front (x ∷ rest) (x ∷ back) (ap (λ (l : List Event). l ++ x ∷ rest) (sym at_order.prior) ∙ sym cut.events ∙ is))

    abbrev parts : AllKeepUnqueued s.many s.n s.dev s.at cut.sooner cut.mid cut.led × KeepsUnqueued s.many s.n s.dev cut.mid (Moved (act.Turns (next.Order s.dev s.slot order))) cut.next cut.does
        × AllKeepUnqueued s.many s.n s.dev cut.next cut.later s.now cut.rest
    parts = cut.unqueued s.many s.n s.dev unqueued

    abbrev deed : Deed
    deed = Moved (act.Turns (next.Order s.dev s.slot order))

    abbrev mid : MachineState
    mid = cut.mid

    abbrev sent : MachineState
    sent = cut.next

    rules_mid : HasRules mid
    rules_mid = last_ruled cut.sooner s.at mid cut.led

    rules_sent : HasRules sent
    rules_sent = first_ruled cut.later sent s.now cut.rest

    until : RunsRuled s.old (s.before ++ (cut.sooner ++ deed ∷ [])) sent
    until = (whole_run s.before s.old s.at s.first (cut.sooner ++ deed ∷ []) sent (more cut.sooner s.at mid sent deed cut.led cut.does rules_sent)).all

    led : RunsRuled s.old (s.before ++ cut.sooner) mid
    led = (whole_run s.before s.old s.at s.first cut.sooner mid cut.led).all

    reading : IsReading sent s.dev (came_in s.dev [] s.old (s.before ++ (cut.sooner ++ deed ∷ [])) sent until)
    reading = laws.fed.fed.read s.dev s.dev_low s.old (s.before ++ (cut.sooner ++ deed ∷ [])) sent until opened.due [] (laws.fed.fed.unread s.ports s.legacy s.old s.opening s.dev)

    good_at : (deeds : List Deed) (now : MachineState) → RunsRuled s.old deeds now → Good laws.fed.fed now
    good_at deeds now run = run_good laws.fed.fed deeds s.old now run (opens_good laws.fed.fed s.ports s.legacy s.old s.opening opened)

    -- it goes
    going : Going s.dev s.slot 0 sent.controller
    going =
        let run : Runs mid.controller (call.Turned (next.Order s.dev s.slot order) ∷ []) sent.controller =
        laws.fed.fed.goes mid deed sent cut.does rules_mid rules_sent (good_at (s.before ++ cut.sooner) mid led).due in
        let t : Told mid.controller = told_now laws.own.falls s.ports s.legacy s.old s.opening (s.before ++ cut.sooner) mid led in
        let commanded : is_commanded s.dev mid.controller (call.Turned (next.Order s.dev s.slot order)) ≡ true = (parts.1.of run).0 to asks in
        let none : HasNoQueued s.dev mid.controller = (parts.1.unqueued run).0 in
        let none_sent : HasNoQueued s.dev run.1.0 =
        subst (HasNoQueued s.dev) run.1.2.1
        (unqueued_first laws.fed.fed.goes laws.fed.fed.stays s.many s.n s.dev cut.later sent s.now cut.rest (good_at (s.before ++ (cut.sooner ++ deed ∷ [])) sent until).due parts.2 none_queued) in
        subst (Going s.dev s.slot 0) (sym run.1.2.1)
        (begins laws.fed.singles s.dev s.dev_low s.slot s.low order mid.controller run.1.0 run.0 run.1.2.0 run.1.1 commanded none none_sent (t.past s.dev) (t.told s.dev s.dev_low))

    along : Along laws.fed s.many s.n s.dev s.dev_low s.slot s.low 0 (came_in s.dev [] s.old (s.before ++ (cut.sooner ++ deed ∷ [])) sent until) sent cut.later s.now cut.rest
    along =
        fed_along laws.fed s.many s.n s.dev s.dev_low s.slot s.low cut.later sent s.now cut.rest (good_at (s.before ++ (cut.sooner ++ deed ∷ [])) sent until)
        (came_in s.dev [] s.old (s.before ++ (cut.sooner ++ deed ∷ [])) sent until) reading (subst (AreNotIssued s.slot) (sym back_is) clear) parts.2 none_queued (ap is_some there) 0 going

    fed : Fed order back
    fed =
        let a = along in
        let inside = a.last.inside in
        let same = ap (λ (i : Issue). i.work.len) (same_issue (issue_at s.now.controller.core.slots s.slot) a.last.issue issue a.last.is there) in
        let long = went_long s.dev (calls_in sent cut.later s.now cut.rest) in
        record {
          since = record {
            sooner = cut.sooner;
            mid = mid;
            led = cut.led;
            sent = sent;
            does = cut.does;
            later = cut.later;
            rest = cut.rest;
            is = cut.is;
            alone = subst (AreNotIssued s.slot) (sym back_is) clear;
            done = s.before ++ (cut.sooner ++ deed ∷ []);
            until = until;
            done_is = refl;
            fed = a.fed;
          };
          is = back_is;
          few = omega (arith, inside, same, long);
          whole = λ way.
              (let k : IsController s.now.controller = kept_of laws.own.falls s.now (last_ruled s.deeds s.at s.now s.run) in
              let all = all_went s.dev s.slot s.low s.now.controller k issue there mine (0 + went_in s.dev (calls_in sent cut.later s.now cut.rest)) a.last f.bytes ended
              (none_queued s.slot issue there mine) plain way in
              omega (arith, all, long));
        }

  -- ---- what the disk heard

  -- behind the last command, some of the Data that went since
  heard_since : (front later : List Call) (bytes order : List ℕ) (before_it back : List Event) → is_asking bytes ≡ true
      → (all : picks is_asking (flat_map heard_by (calls s)) ≡ asked s.many s.n (events s)) → calls s ≡ front ++ Hears bytes ∷ (later ++ since_then)
      → picks is_asking (flat_map heard_by (calls s)) ≡ picks is_asking (flat_map heard_by front) ++ bytes ∷ []
      → events s ≡ before_it ++ call.Turned (next.Order s.dev s.slot order) ∷ back → is_for s.many s.n (record { bytes = order; stamp = host_stamp s.dev }) ≡ true
      → asked s.many s.n (events s) ≡ asked s.many s.n before_it ++ marked order 0 ∷ []
      → Within (picks is_data (flat_map heard_by later)) (map as_heard (data_sent s.dev back))
  heard_since front later bytes order before_it back asks all calls_are last is to sent_last =
      let x : Event = call.Turned (next.Order s.dev s.slot order) in
      let o : Stamped = record { bytes = order; stamp = host_stamp s.dev } in
      let hs : List (List ℕ) = flat_map heard_by front in
      let ls : List (List ℕ) = flat_map heard_by (later ++ since_then) in
      let ss : List (List ℕ) = frames_for s.many s.n before_it in
      let ts : List (List ℕ) = frames_for s.many s.n back in
      let due : GathersDue s.at = (laws.own.falls.runs s.old s.before s.at s.first opened.due).due in
      let among : Within (flat_map heard_by (calls s)) (frames_for s.many s.n (events s)) =
      heard_among laws.own.falling s.many s.n s.deeds s.at s.now s.run s.begins.disk s.begins.there (line_stays s.many s.n s.c s.dev s.deeds s.at s.now s.run s.keeps) due s.has_link s.lasts
      s.begins.leaving s.begins.down in
      let heard_is : flat_map heard_by (calls s) ≡ hs ++ bytes ∷ ls = ap (flat_map heard_by) calls_are ∙ flat_map-append heard_by front (Hears bytes ∷ (later ++ since_then)) in
      let sent_is : frames_for s.many s.n (events s) ≡ ss ++ marked order 0 ∷ ts =
      ap (λ (l : List Event). frames_for s.many s.n l) is ∙ for_both s.many s.n before_it (x ∷ back)
      ∙ ap (λ (l : List (List ℕ)). ss ++ l) (for_one (is_for s.many s.n o) o (picks (is_for s.many s.n) (sent_in back)) to) in
      let one : length (picks is_asking hs ++ bytes ∷ []) ≡ length (picks is_asking ss ++ marked order 0 ∷ []) = ap (λ (l : List (List ℕ)). length l) (sym last ∙ all ∙ sent_last) in
      let long = length-append (picks is_asking hs) (bytes ∷ []) in
      let sent_long = length-append (picks is_asking ss) (marked order 0 ∷ []) in
      let few : length (picks is_asking ss) ≤ length (picks is_asking hs) = omega (arith, one, long, sent_long) in
      let both : Within (hs ++ bytes ∷ ls) (ss ++ marked order 0 ∷ ts) =
      subst (λ (l : List (List ℕ)). Within l (ss ++ marked order 0 ∷ ts)) heard_is (subst (λ (l : List (List ℕ)). Within (flat_map heard_by (calls s)) l) sent_is among) in
      let tail : Within ls ts = behind_within bytes ls (marked order 0) ts (tail_within is_asking hs bytes ls ss (marked order 0 ∷ ts) asks few both) in
      let first : flat_map heard_by (later ++ since_then) ≡ flat_map heard_by later ++ flat_map heard_by since_then = flat_map-append heard_by later since_then in
      let begin : Within (picks is_data (flat_map heard_by later)) (picks is_data ls) =
      within_picks is_data (flat_map heard_by later) ls (subst (λ (l : List (List ℕ)). Within (flat_map heard_by later) l) (sym first) (first_within (flat_map heard_by later) (flat_map heard_by since_then))) in
      let sent_data : Within (picks is_data ts) (map as_heard (data_sent s.dev back)) =
      data_within s.many s.n s.dev back (own_behind s.many s.n s.dev before_it x back (subst (AreOwnData s.many s.n s.dev) is own_data))
      (plain_behind before_it x back (subst ArePlain is plain_all)) in
      within_then (picks is_data (flat_map heard_by later)) (picks is_data ls) (map as_heard (data_sent s.dev back)) begin
      (within_then (picks is_data ls) (picks is_data ts) (map as_heard (data_sent s.dev back)) (within_picks is_data ls ts tail) sent_data)
    where
      plain_all : ArePlain (events s)
      plain_all =
          let led = controller_runs laws.own.falls s.ports s.legacy s.old s.opening s.before s.at s.first in
          all_plain laws.orders laws.fed.fed.goes laws.fed.fed.stays s.old.controller s.opening.controller s.deeds s.at s.now s.run led.due (calls_in s.old s.before s.at s.first) led.calls

  -- ---- the moment at which the disk said so

  whole_at : (k : ℕ) (does : Does found.cut.mid (Moved (act.Speaks k (out.Of 32 replies.Done))) found.cut.next)
      → sent_by found.cut.mid (Moved (act.Speaks k (out.Of 32 replies.Done))) found.cut.next does ≡ f ∷ [] → Whole
  whole_at k does sent =
      let all : List Call = s.base ++ until_then in
      let t : IsThen laws.own s f own prior found (out.Of 32 replies.Done) = is_then laws.own s f own prior found k (out.Of 32 replies.Done) does sent in
      let on : AreKeptOn until_then = on_then laws.own s f own prior found in
      let u : IsUnsettled s.base until_then = (settled laws.own s f own prior found t.whole).answers (out.Of 32 replies.Done) t.says refl in
      let behind_all = u.behind in
      let one = due_one laws.own s f own prior found issue there mine waits refl in
      let l = is_last laws.own s f own prior found issue there mine waits refl (record {
        front = u.front;
        bytes = u.bytes;
        later = u.later;
        split = u.split;
        asks = u.asks;
        most = most_of laws.own s f own prior found issue there mine waits refl (heard_in u.front) (omega (arith, behind_all, one));
      }) in
      let e = earns (page_in s.p s.limit all 32) (laws.own.pages s.p s.limit all 32 does.does.does.1.frame.bytes t.whole t.says does.does.does.1.bytes) in
      let x : Call = Hears u.bytes in
      let split : all ≡ (s.base ++ u.front) ++ x ∷ u.later = ap (λ (q : List Call). s.base ++ q) u.split ∙ sym (append_assoc s.base u.front (x ∷ u.later)) in
      let whole : AreCalls (new_disk s.p s.limit) ((s.base ++ u.front) ++ x ∷ u.later) = subst (AreCalls (new_disk s.p s.limit)) split t.whole in
      let w : IsWrittenBehind s.p s.limit (s.base ++ u.front) u.bytes u.later e.page =
      laws.came s.p s.limit (s.base ++ u.front) u.bytes u.later whole u.idle l.none (subst (λ (q : List Call). IsOut (reached s.p s.limit q) (Some (out.Of 32 replies.Done))) split t.says) e.page
      (subst (λ (q : List Call). page_in s.p s.limit q 32 ≡ Some e.page) split e.is) in
      let c : Came s.p s.limit all u.bytes u.later e.page =
      subst (λ (q : List Call). Came s.p s.limit q u.bytes u.later e.page) (sym split) (record { asked = w.asked; is = w.is; came = w.came }) in
      let q : WentFrom laws.own s f own prior found issue there mine waits refl s.slot u.bytes = l.got.source in
      let from : IsFromSlot s.dev s.slot s.old s.before s.at s.first s.deeds s.now s.run u.bytes = q.from in
      let calls_are : calls s ≡ u.front ++ x ∷ (u.later ++ since_then) =
      found.cut.own s.n ∙ ap (λ (y : List Call). y ++ since_then) u.split ∙ append_assoc u.front (x ∷ u.later) since_then in
      let last = last_heard (calls s) u.front (u.later ++ since_then) u.bytes calls_are u.asks l.more in
      let asks : is_asking (marked from.order 0) ≡ true = ap is_asking (sym from.heard) ∙ u.asks in
      let g : Fed from.order from.ordered.later = fed from.order from.ordered.before from.ordered.later from.ordered.is from.alone q.is_its asks in
      let went : List (List ℕ) = went_to s.dev (calls_in g.since.sent g.since.later s.now g.since.rest) in
      let went_is_sent : data_sent s.dev from.ordered.later ≡ went = ap (data_sent s.dev) (sym g.is) ∙ sym (went_is s.dev (calls_in g.since.sent g.since.later s.now g.since.rest)) in
      let all_data : Within (picks is_data (flat_map heard_by u.later)) (map as_heard (data_sent s.dev from.ordered.later)) =
      heard_since u.front u.later u.bytes from.order from.ordered.before from.ordered.later u.asks l.all calls_are last from.ordered.is q.is_its q.last in
      let within : Within c.came.fises (map as_heard went) =
      within_then c.came.fises (picks is_data (flat_map heard_by u.later)) (map as_heard went) (data_heard c.came.fises u.later c.came.heard c.came.each)
      (subst (λ (y : List (List ℕ)). Within (picks is_data (flat_map heard_by u.later)) (map as_heard y)) went_is_sent all_data) in
      let inside = g.few in
      let marked_long = ap (λ (y : List ℕ). length y) (marked_payloads went) in
      let came_long = ap (λ (y : List ℕ). length y) c.came.is in
      record {
        page = e.page;
        books = e.is;
        earned = e.earned;
        asked = c.asked;
        bytes = u.bytes;
        heard = c.is;
        front = s.base ++ u.front;
        later = u.later;
        split = split;
        asks = u.asks;
        none = l.none;
        from = from;
        since = g.since;
        fises = c.came.fises;
        came = c.came.is;
        some = within;
        few = g.few;
        whole = g.whole;
        all = λ enough. c.came.is ∙ all_bytes c.came.fises (map as_heard went) within (omega (arith, enough, inside, marked_long, came_long)) ∙ marked_payloads went;
      }

  whole_if : (o : Out) (does : Does found.cut.mid (Moved (act.Speaks s.n o)) found.cut.next) → sent_by found.cut.mid (Moved (act.Speaks s.n o)) found.cut.next does ≡ f ∷ []
      → o ≡ out.Of 32 replies.Done → Whole
  whole_if o does sent is =
      subst (λ (x : Out). (d : Does found.cut.mid (Moved (act.Speaks s.n x)) found.cut.next) → sent_by found.cut.mid (Moved (act.Speaks s.n x)) found.cut.next d ≡ f ∷ [] → Whole)
      (sym is) (λ d same. whole_at s.n d same) does sent

  pub is_supplied : IsSpoken laws.own s f own prior found found.deed → (is_pio issue.work.kind ≡ false → is_answering f.bytes ≡ true)
      → IsSuppliedSingle s.n s.dev s.slot s.old s.before s.at s.first s.deeds s.now s.run s.p s.limit s.base issue f
  unfolding done_by
  is_supplied spoke register = record {
    done = done_by laws.own s f own prior found issue there mine waits refl well spoke register (λ other. absurd (false≢true (sym other ∙ register plain)))
        (λ other. absurd (false≢true (sym other ∙ register plain)));
    whole = λ is. whole_if spoke.o spoke.does spoke.sent is;
  }

-- ---- the law

pub supplied_are : Laws → SingleWritesAreAsSupplied
supplied_are laws ports legacy old opening before at first many n c dev slot below dev_low low begins_at p limit base are same idle deeds now run has_link lasts keeps on unqueued none_queued own_data took new
    does rules own shows hides none issue there mine plain =
    let opened : OpensSo old = laws.own.falls.opens ports legacy old opening (first_ruled before old at first) in
    let due : GathersDue at = (laws.own.falls.runs old before at first opened.due).due in
    let w : WaitingRun many n dev at deeds now run = waiting_run laws.fed.fed.goes laws.fed.fed.stays many n dev deeds at now run due unqueued in
    let t : Told at.controller = told_now laws.own.falls ports legacy old opening before at first in
    let s : Stretch = record {
      ports = ports;
      legacy = legacy;
      old = old;
      opening = opening;
      before = before;
      at = at;
      first = first;
      many = many;
      n = n;
      c = c;
      dev = dev;
      slot = slot;
      below = below;
      dev_low = dev_low;
      low = low;
      begins = begins_at;
      p = p;
      limit = limit;
      base = base;
      are = are;
      same = same;
      idle = idle;
      deeds = deeds;
      now = now;
      run = run;
      has_link = has_link;
      lasts = lasts;
      keeps = keeps;
      on = on;
      runs = w.runs;
      of = w.of;
      waiting = laws.wait dev dev_low at.controller now.controller (calls_in at deeds now run) w.runs.calls (t.past dev) (t.told dev dev_low) w.unqueued;
    } in
    let f : Stamped = does.does.frame in
    let pre : List Stamped = of_conn n c (came s) in
    let found : Found many n c dev at deeds now run pre f = found_of laws.own s took new does own in
    let whole : IsWhole old before at first deeds now run = whole_run before old at first deeds now run in
    let done = (laws.own.completed ports legacy old opening (before ++ deeds) now whole.all took new does rules slot low shows hides none).ended in
    let not_queued : is_queued_issue issue ≡ false = none_queued slot issue there mine in
    let waits : is_waiting issue ≡ true = completed_waits slot low now.controller (kept_of laws.own.falls now (last_ruled deeds at now run)) f.bytes done issue there not_queued in
    let well : IsErrorFis f.bytes → ⊥ = no_error slot now.controller f.bytes done in
    is_supplied laws s unqueued none_queued own_data issue there mine waits plain f own found well done (spoken laws.own s f own pre found found.deed found.cut.does found.line found.sent)
    (completed_by slot now.controller f.bytes done issue there not_queued)
