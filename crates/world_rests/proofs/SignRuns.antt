-- For `rested_disks_have_signed`. A disk from its plugging on, over a run: nothing of it passes its port, until the port is cleared. From then
-- on, where nothing of it is on its way up and it owes nothing, the host has its signature while it is new to the driver.
use Rattle.std.proofs.Common.{◌≡◌, ◌≢◌, ℕ, ◌+◌, ◌<◌, ◌==◌, ◌&&◌, Bool, true, false, List, [], ◌∷◌, ◌++◌, append_assoc, drop, length, refl, sym, ap}
use Rattle.std.proofs.{Common.{subst, ◌∙◌, inl, inr, Option, Some, None, Ok, Result, arith}, lemmas.Bool.{cases_Bool, eq-eqb, or_parts, true≢false}}
use Rattle.std.proofs.lemmas.{List.{append-nil}, Option.slice_get_within}
use Rattle.std.specs.{Prelude.{◌||◌, ◌*◌, if◌then◌else◌}, List.list_any}
use Rattle.fis_view.specs.{Frames.marked, Seen.seen, declared.view.{Fis.Fis, FisFault.FisFault}}
use Rattle.fis_view.specs.declared.view.Fis.TheVariants as view
use Rattle.hba_fbs.specs.declared.report.TakeReport.{TakeReport}
use Rattle.multiplier.specs.{Arbiter.control_port, State.port_at}
use Rattle.pm_registers.specs.RegisterMap as registers
use Rattle.pm_registers.specs.RegisterMap.{forwards}
use Rattle.disk_model.specs.{declared.{plan.DiskPlan.DiskPlan, request.{Command.Command, Request.Request}, unit.Unit.TheVariants.Disk}, Chunks.put}
use Rattle.disk_model.specs.{Histories.{Happening, Plugged, Received}, Ledger.{Accepts, Finishes, Ledger, Moving, Reply, Refuses, ShowsPage, Signs}}
use Rattle.disk_model.specs.Ledger.{IdentifyData, asks, awaits, awaits_page, ends as finishes, goes_on, ledger, listens_down, mixes, moves, opens}
use Rattle.disk_model.specs.{Ledger.{refuses, takes_data}, Requests.request_of}
use Rattle.disk_model.specs.declared.request.Request.TheVariants as asked
use Rattle.disk_model.proofs.Door.{begins_anew, ledger_push}
use Rattle.disk_simulation.specs.Watched.{ArePlain, IsPlain, IsPlainRequest}
use Rattle.hba_driver.specs.HostTurns.{Does, DoesAll, Host, HostTurn, Polled, Pushed, Put, Submitted, Ticked, Took}
use Rattle.disk_recovery.specs.Ends.{Apart, AreEnds, IsBesideTurn, Together}
use Rattle.pm_world.specs.{Attached.{Attached, Modelled}, Cleared.is_cleared, DevicePaths.{Comes, GoesOnPath, Gives, PathMoves, Sends, Still, Takes}}
use Rattle.pm_world.specs.{DevicePaths.UnitPathsGoOn, Disks.{DiskRun, HasDisk, disk_history}, Ends.{EndsMeet, HaveMet}, PathEnds.{IsAtHost, IsThere}}
use Rattle.pm_world.specs.{PathEnds.{injects, unplugs}, Places.{Places, is_config, new_world}, Rules.{Rule, Run}, Runs.over, Stale.unsent_after}
use Rattle.pm_world.specs.{Traffic.{all_marked, transit}, Turns.{IsOfItsPort, turn_of}, Units.happens, declared.step.{Answer.Answer, Config.Config}}
use Rattle.pm_world.specs.declared.step.Step.{Step}
use Rattle.pm_world.specs.declared.step.Answer.TheVariants as answer
use Rattle.pm_world.specs.declared.step.Step.TheVariants as step
use Rattle.world_rests.proofs.{SignPast.{IsPast, gone_past, past_after}, SignTurns.{HasIfNew, IsAsideTurn, aside_turn, never_apart, taking_turn}}
use Rattle.world_rests.proofs.SignWorld.{ComesShut, Goes, HasGiven, IsFirm, IsLive, IsNoTurn, IsNow, IsUnflushed, IsWaiting, Knows, StaysPresent}
use Rattle.world_rests.proofs.SignWorld.{Stuck, Unplugs, WaitsFor, all_sent, aside, came_waiting, comes_risen, comes_shut, firm_at, host_gives}
use Rattle.world_rests.proofs.SignWorld.{host_takes, is_there, live_after, met_at, now_at, open_forwards, open_or_waits, opening_knows, opening_marks}
use Rattle.world_rests.proofs.SignWorld.{order_step, plain_frame, rule_does, run_append, run_marks, same_host, stays_present, unflushed}
use Rattle.world_rests.proofs.SignWorld.{unplugs_or_not, waits_after, waits_on}

-- ---- what a plain FIS leaves of what the disk owes

-- a list with one more is not empty
last_some : {X : Type 0} (xs : List Reply) (x : Reply) → xs ++ x ∷ [] ≡ [] → X
last_some [] x e = absurd (cc)
last_some (y ∷ xs) x e = absurd (cc)

mixed_some : {X : Type 0} (l alone : Ledger) (cs : List Command) → (alone.awaited ≡ [] → X) → (mixes l alone cs).awaited ≡ [] → X
mixed_some l alone [] none e = none e
mixed_some l alone (c ∷ cs) none e = absurd (cc)

refused_some : {X : Type 0} (l : Ledger) → (refuses l).awaited ≡ [] → X
refused_some l e = mixed_some l (awaits l Refuses) l.outstanding (last_some l.awaited Refuses) e

opened_some : {X : Type 0} (l : Ledger) (c : Command) → (opens l c).awaited ≡ [] → X
opened_some {X} l c e = by_test (list_any (λ q. q.tag == c.tag) l.outstanding) e
  where
    by_test : (b : Bool) → (if b then refuses l else awaits (record l { outstanding = l.outstanding ++ c ∷ [] }) Accepts).awaited ≡ [] → X
    by_test true e = refused_some l e
    by_test false e = last_some l.awaited Accepts e

asked_none : (l : Ledger) (request : Request) (failed : Bool) → IsPlainRequest request → (asks l request failed).awaited ≡ [] → l.awaited ≡ []
asked_none l (asked.Reset on) failed plain e = absurd plain
asked_none l asked.ReadErrorLog failed plain e = absurd plain
asked_none l asked.Other failed plain e = absurd plain
asked_none l (asked.Queue c) true plain e = e
asked_none l (asked.Queue c) false plain e = opened_some l c e
asked_none l asked.Identify true plain e = e
asked_none l asked.Identify false plain e = mixed_some l (awaits_page l IdentifyData) l.outstanding (last_some l.awaited ShowsPage) e
asked_none l asked.Flush true plain e = e
asked_none l asked.Flush false plain e = mixed_some l (awaits l Finishes) l.outstanding (last_some l.awaited Finishes) e

data_none : (l : Ledger) (m : Option Moving) (bytes : List ℕ) → (takes_data l m bytes).awaited ≡ [] → l.awaited ≡ []
data_none l None bytes e = e
data_none l (Some v) bytes e = by_test (v.active && (length bytes == v.count)) e
  where
    by_write : (w : Moving) (b : Bool) → (finishes l w b).awaited ≡ [] → l.awaited ≡ []
    by_write w true e = e
    by_write w false e = e

    by_end : (w : Moving) (b : Bool) → (if b then finishes l w w.command.write else record l { moving = Some w }).awaited ≡ [] → l.awaited ≡ []
    by_end w true e = by_write w w.command.write e
    by_end w false e = e

    moved_none : (w : Moving) → (goes_on l w).awaited ≡ [] → l.awaited ≡ []
    moved_none w e = by_end w (w.moved == 512 * w.command.count) e

    by_test : (b : Bool) → (if b then moves l v bytes else l).awaited ≡ [] → l.awaited ≡ []
    by_test true e = moved_none (record v { bytes = put v.bytes v.offset bytes; moved = v.moved + length bytes; active = false }) e
    by_test false e = e

-- a command or Data: what was owed is still owed
plain_none : (l : Ledger) (r : Result Fis FisFault) → IsPlain r → (listens_down l r).awaited ≡ [] → l.awaited ≡ []
plain_none l (Ok (view.RegH2D f)) plain e = asked_none l (request_of f) l.failed plain e
plain_none l (Ok (view.Payload f)) plain e = data_none l l.moving (drop 4 f) e
plain_none l r plain e = absurd plain

plain_at : (front back : List (List ℕ)) (bytes : List ℕ) → ArePlain (front ++ bytes ∷ back) → IsPlain (seen bytes)
plain_at [] back bytes plain = plain.0
plain_at (x ∷ front) back bytes plain = plain_at front back bytes plain.1

pub none_marked : (n : ℕ) (xs : List (List ℕ)) → all_marked n xs ≡ [] → xs ≡ []
none_marked n [] is = refl
none_marked n (x ∷ xs) is = cc is

last_bytes : {X : Type 0} (xs : List (List ℕ)) (x : List ℕ) → xs ++ x ∷ [] ≡ [] → X
last_bytes [] x e = absurd (cc)
last_bytes (y ∷ xs) x e = absurd (cc)

-- ---- a run of the disk, and one more step

-- a run and one more step
abbrev and_one : (first old : Places) (steps : List Step) (answers : List Answer) → Run first steps answers old → (s : Step) (a : Answer) (new : Places)
    → Rule old s (Ok a) new
    → Run first (steps ++ s ∷ []) (answers ++ a ∷ []) new
and_one first old [] [] run s a new rule = (new, subst (λ (w : Places). Rule w s (Ok a) new) run rule, refl)
and_one first old (t ∷ steps) (b ∷ answers) run s a new rule = (run.0, run.1, and_one run.0 old steps answers run.2 s a new rule)
and_one first old [] (b ∷ answers) run s a new rule = absurd run
and_one first old (t ∷ steps) [] run s a new rule = absurd run

-- what is told of it
over_more : (n : ℕ) (first old : Places) (steps : List Step) (answers : List Answer) (run : Run first steps answers old) (s : Step) (a : Answer) (new : Places) (rule : Rule old s (Ok a) new)
    → over (happens n) first (steps ++ s ∷ []) (answers ++ a ∷ []) new (and_one first old steps answers run s a new rule) ≡ over (happens n) first steps answers old run ++ happens n old s a new
over_more n first old [] [] run s a new rule = append-nil (happens n first s a new) ∙ ap (λ (w : Places). happens n w s a new) (sym run)
over_more n first old (t ∷ steps) (b ∷ answers) run s a new rule =
    ap (λ (xs : List Happening). happens n first t b run.0 ++ xs) (over_more n run.0 old steps answers run.2 s a new rule)
    ∙ sym (append_assoc (happens n first t b run.0) (over (happens n) run.0 steps answers old run.2) (happens n old s a new))
over_more n first old [] (b ∷ answers) run s a new rule = absurd run
over_more n first old (t ∷ steps) [] run s a new rule = absurd run

or_none : (a b : Bool) → a ≡ false → b ≡ false → (a || b) ≡ false
or_none false b x y = y
or_none true b x y = absurd (true≢false x)

none_injected : (n : ℕ) (xs : List Step) (s : Step) → list_any (injects n) xs ≡ false → injects n s ≡ false → list_any (injects n) (xs ++ s ∷ []) ≡ false
none_injected n [] s none own = or_none (injects n s) false own refl
none_injected n (x ∷ xs) s none own =
    let parts = or_parts (injects n x) (list_any (injects n) xs) none in
    or_none (injects n x) (list_any (injects n) (xs ++ s ∷ [])) parts.0 (none_injected n xs s parts.1 own)

module _ (config : Config) (units : List Attached) (n : ℕ) (past : List Happening) where
  abbrev pub history : (w : Places) → DiskRun config units n w → List Happening
  history w d = disk_history config units n w d past

  abbrev more : (w : Places) (d : DiskRun config units n w) (s : Step) (a : Answer) (x : Places) → Rule w s (Ok a) x → injects n s ≡ false
      → DiskRun config units n x
  more w d s a x rule clean = record {
    first = d.first;
    told = d.told;
    out = d.out;
    made = d.made;
    conn = d.conn;
    steps = d.steps ++ s ∷ [];
    answers = d.answers ++ a ∷ [];
    run = and_one d.out w (step.Came n ∷ d.steps) (answer.Came n d.conn ∷ d.answers) d.run s a x rule;
    clean = none_injected n d.steps s d.clean clean;
  }

  more_history : (w : Places) (d : DiskRun config units n w) (s : Step) (a : Answer) (x : Places) (rule : Rule w s (Ok a) x) (clean : injects n s ≡ false)
      → history x (more w d s a x rule clean) ≡ history w d ++ happens n w s a x
  more_history w d s a x rule clean =
      let before : List Happening = over (happens n) (new_world config units) d.first d.told d.out d.made in
      let since : List Happening = over (happens n) d.out (step.Came n ∷ d.steps) (answer.Came n d.conn ∷ d.answers) w d.run in
      ap (λ (xs : List Happening). (past ++ before) ++ xs) (over_more n d.out w (step.Came n ∷ d.steps) (answer.Came n d.conn ∷ d.answers) d.run s a x rule)
      ∙ sym (append_assoc (past ++ before) since (happens n w s a x))

  -- the steps since the world was made
  pub whole : (w : Places) (d : DiskRun config units n w)
      → Run (new_world config units) (d.first ++ step.Came n ∷ d.steps) (d.told ++ answer.Came n d.conn ∷ d.answers) w
  whole w d =
      run_append (new_world config units) d.out w d.first d.told (step.Came n ∷ d.steps) (answer.Came n d.conn ∷ d.answers) d.made d.run

-- ---- where the disk is

module _ (config : Config) (units : List Attached) (n : ℕ) (past : List Happening) where
  pub data Phase (w : Places) (d : DiskRun config units n w) : Type 0 where
    -- it was unplugged
    Left : IsPast n d.conn w → Phase w d
    -- nothing of it passed its port
    Waits : (earlier happened : List Happening) → IsWaiting n d.conn w happened → WaitsFor n d.conn w → history config units n past w d ≡ earlier ++ happened
        → Phase w d
    -- its port is open to it
    Lives : IsThere n d.conn w → IsLive n d.conn w → (transit n d.conn w ≡ [] → (ledger (history config units n past w d)).awaited ≡ [] → HasIfNew n w.host)
        → Phase w d

-- ---- a step

to_aside : (n : ℕ) (old : Host) (t : HostTurn) → IsBesideTurn n old t → IsAsideTurn n old t
to_aside n old (Took frame report) is = is
to_aside n old (Pushed frame) is = tt
to_aside n old (Ticked acted) is = is
to_aside n old (Submitted dev request ticket) is = tt
to_aside n old (Polled completion) is = tt
to_aside n old (Put at bytes) is = tt

-- what is known of the orders of the host
module _ (n : ℕ) (below : n < 15) where
  run_knows : (old : Places) (u : Bool) → Knows n u old → (steps : List Step) (answers : List Answer) (new : Places) → Run old steps answers new
      → (v : Bool) × Knows n v new
  run_knows old u k [] [] new run = (u, subst (Knows n u) (sym run) k)
  run_knows old u k (s ∷ steps) (a ∷ answers) new run =
      run_knows run.0 (unsent_after n u old s a run.0) (order_step n below u old k s a run.0 run.1).1 steps answers new run.2
  run_knows old u k [] (a ∷ answers) new run = absurd run
  run_knows old u k (s ∷ steps) [] new run = absurd run

module _ (meet : EndsMeet) (units_go : UnitPathsGoOn) (config : Config) (units : List Attached) (fits : is_config config (length units) ≡ true) (n : ℕ)
    (below : n < 15) (sectors : ℕ) (plan : DiskPlan)
    (past : List Happening) (disk : HasDisk units n plan sectors past) where
  abbrev At : (w : Places) → DiskRun config units n w → Type 0
  At w d = Phase config units n past w d

  module _ (old : Places) (d : DiskRun config units n old) (s : Step) (a : Answer) (new : Places) (rule : Rule old s (Ok a) new)
      (clean : injects n s ≡ false) where
    abbrev c : ℕ
    c = d.conn

    abbrev next : DiskRun config units n new
    next = more config units n past old d s a new rule clean

    abbrev events : List Happening
    events = happens n old s a new

    abbrev was : List Happening
    was = history config units n past old d

    abbrev all_steps : List Step
    all_steps = d.first ++ step.Came n ∷ d.steps

    abbrev all_answers : List Answer
    all_answers = d.told ++ answer.Came n d.conn ∷ d.answers

    made : Run (new_world config units) (d.first ++ step.Came n ∷ d.steps) (d.told ++ answer.Came n d.conn ∷ d.answers) old
    made = whole config units n past old d

    firm : IsFirm n old
    firm = firm_at config units fits n below all_steps all_answers old made

    is_now : IsNow old
    is_now = now_at config units fits all_steps all_answers old made

    its : IsOfItsPort a
    its = (comes_risen old s a new (run_marks (new_world config units) all_steps all_answers old (opening_marks config units) made).1 rule).own_port

    history_is : history config units n past new next ≡ was ++ events
    history_is = more_history config units n past old d s a new rule clean

    no_events : events ≡ [] → history config units n past new next ≡ was
    no_events none = history_is ∙ ap (λ (xs : List Happening). was ++ xs) none ∙ append-nil was

    -- ---- its port is open

    module _ (there : IsThere n c old) (live : IsLive n c old) (has : transit n c old ≡ [] → (ledger was).awaited ≡ [] → HasIfNew n old.host) where
      port_forwards : forwards old.multiplier.registers n ≡ true
      port_forwards =
          open_forwards n old.multiplier.registers live.opens
          (met_at config units fits n (slice_get_within units n (Modelled (Disk disk.disk)) disk.there) all_steps all_answers old made)

      met : HaveMet config units n sectors old d plan past
      met = meet config units n sectors plan past fits below disk old d there live.here port_forwards

      unflushed_now : IsUnflushed n old a
      unflushed_now = unflushed config units fits n c below all_steps all_answers old made live s a new rule

      does : DoesAll old.host (turn_of old s a new) new.host
      does = rule_does old s a new rule

      turn_has : (t : HostTurn) → HasIfNew n old.host → Does old.host t new.host → IsAsideTurn n old.host t → HasIfNew n new.host
      turn_has t before it beside =
          aside_turn n below plan sectors was met.touches old.host met.running met.down met.up met.floors met.ends before t new.host it beside

      quiet_has : HasIfNew n old.host → IsAtHost n old a new [] → HasIfNew n new.host
      quiet_has before at = elim (aside n old is_now s new a rule its at unflushed_now) [
        | inl none ↦ subst (λ (h : Host). HasIfNew n h) (sym (subst (λ (ts : List HostTurn). DoesAll old.host ts new.host) none does)) before
        | inr one ↦
            let all : DoesAll old.host (one.0 ∷ []) new.host = subst (λ (ts : List HostTurn). DoesAll old.host ts new.host) one.1.0 does in
            turn_has one.0 before (subst (λ (h : Host). Does old.host one.0 h) (sym all.2) all.1) (to_aside n old.host one.0 one.1.1)
      ]

      pushed_has : HasIfNew n old.host → a ≡ answer.Pushed → HasIfNew n new.host
      pushed_has before told =
          let g : HasGiven old new = host_gives old new s (subst (λ (b : Answer). Rule old s (Ok b) new) told rule) in
          turn_has (Pushed (Some g.frame)) before g.pushes tt

      took_has : (number : ℕ) (bytes : List ℕ) (later : List (List ℕ)) (report : TakeReport) → a ≡ answer.Took n c number (marked bytes n) report
          → met.up ≡ bytes ∷ later → HasIfNew n new.host
      took_has number bytes later report told is =
          let own : Rule old s (Ok (answer.Took n c number (marked bytes n) report)) new = subst (λ (b : Answer). Rule old s (Ok b) new) told rule in
          let port : IsOfItsPort (answer.Took n c number (marked bytes n) report) = subst IsOfItsPort told its in
          let tooks = host_takes old new s n c number (marked bytes n) report own in
          taking_turn n below plan sectors was met.touches old.host met.running bytes report new.host
          (plain_frame bytes n tooks.framed) port.0 tooks met.down later met.floors
          (subst (λ (xs : List (List ℕ)). AreEnds n old.host was met.down xs met.floors met.touches) is met.ends)

      -- the disk takes a FIS of the host
      comes_has : (front back : List (List ℕ)) (bytes : List ℕ) → a ≡ answer.DiskTook n false → met.down ≡ front ++ bytes ∷ back → transit n c old ≡ []
          → (ledger (was ++ Received bytes ∷ [])).awaited ≡ [] → HasIfNew n new.host
      comes_has front back bytes told is none empty =
          let quiet : IsNoTurn a = subst IsNoTurn (sym told) tt in
          let same : new.host ≡ old.host = same_host old new s a rule quiet in
          subst (λ (h : Host). HasIfNew n h) (sym same) (by_ends met.ends)
        where
          by_ends : AreEnds n old.host was met.down met.up met.floors met.touches → HasIfNew n old.host
          by_ends (Apart set are) = λ is_new fine. never_apart n set.stage old.host set.at is_new fine
          by_ends (Together t) =
              let plain : IsPlain (seen bytes) = plain_at front back bytes (subst ArePlain is t.watched.plain) in
              has none (plain_none (ledger was) (seen bytes) plain (ap (λ (k : Ledger). k.awaited) (sym (ledger_push was (Received bytes))) ∙ empty))

      same_way : (up : List (List ℕ)) → transit n c new ≡ all_marked n up → up ≡ met.up → transit n c new ≡ [] → transit n c old ≡ []
      same_way up above is none = met.path.above ∙ ap (all_marked n) (sym is) ∙ sym above ∙ none

      moves_has : (heard : List Happening) → IsAtHost n old a new heard → PathMoves n c a new events heard met.down met.up → transit n c new ≡ []
          → (ledger (history config units n past new next)).awaited ≡ [] → HasIfNew n new.host
      moves_has heard at (Still none quiet path) away empty =
          quiet_has (has (same_way met.up path.above refl away) (ap (λ (xs : List Happening). (ledger xs).awaited) (sym (no_events none)) ∙ empty))
          (subst (IsAtHost n old a new) quiet at)
      moves_has heard at (Gives bytes told none gave path) away empty =
          pushed_has (has (same_way met.up path.above refl away) (ap (λ (xs : List Happening). (ledger xs).awaited) (sym (no_events none)) ∙ empty)) told
      moves_has heard at (Comes front back bytes told took quiet is whole_path path) away empty =
          comes_has front back bytes told is (same_way met.up path.above refl away)
          (ap (λ (xs : List Happening). (ledger xs).awaited) (sym (history_is ∙ ap (λ (xs : List Happening). was ++ xs) took)) ∙ empty)
      moves_has heard at (Sends number bytes told sent quiet path) away empty =
          last_bytes met.up bytes (none_marked n (met.up ++ bytes ∷ []) (sym path.above ∙ away))
      moves_has heard at (Takes number bytes later report told none took is path) away empty = took_has number bytes later report told is

      device : n ≢ control_port
      device e = absurd (omega (arith, e, below))

      live_step : unplugs n s ≡ false → At new next
      live_step stays =
          let knows = run_knows n below (new_world config units) false (opening_knows config units fits n) all_steps all_answers old made in
          let go : IsThere n c new × GoesOnPath n c old a new events met.down met.up =
          units_go n c old new s a met.down met.up device firm.orderly rule there stays clean met.path in
          Lives go.0 (live_after n c knows.0 old s a new rule stays firm knows.1 live) (λ away empty. moves_has go.1.heard go.1.is go.1.moves away empty)

      live_stuck : new ≡ old → events ≡ [] → At new next
      live_stuck same none =
          Lives (subst (IsThere n c) (sym same) there) (subst (IsLive n c) (sym same) live)
          (λ away empty.
          subst (λ (w : Places). HasIfNew n w.host) (sym same)
          (has (subst (λ (w : Places). transit n c w ≡ []) same away) (ap (λ (xs : List Happening). (ledger xs).awaited) (sym (no_events none)) ∙ empty)))

    -- ---- nothing of it passed its port

    module _ (earlier happened : List Happening) (h : IsWaiting n c old happened) (waits : WaitsFor n c old) (is : was ≡ earlier ++ happened) where
      waits_history : history config units n past new next ≡ earlier ++ (happened ++ events)
      waits_history = history_is ∙ ap (λ (xs : List Happening). xs ++ events) is ∙ append_assoc earlier happened events

      -- it still owes its signature
      owes_sign : (on : IsWaiting n c new (happened ++ events)) → transit n c new ≡ [] → (ledger (history config units n past new next)).awaited ≡ [] → ⊥
      owes_sign on away empty =
          let none : on.rising ≡ [] = none_marked n on.rising (sym on.off.above ∙ away) in
          let told : history config units n past new next ≡ earlier ++ Plugged ∷ [] =
          waits_history ∙ ap (λ (xs : List Happening). earlier ++ xs) (on.is ∙ ap (λ (xs : List (List ℕ)). Plugged ∷ all_sent xs) none) in
          let owed : [] ≡ Signs ∷ [] = sym empty ∙ ap (λ (xs : List Happening). (ledger xs).awaited) told ∙ (begins_anew.plugged earlier).awaited in
          cc owed

      still_waits : (on : IsWaiting n c new (happened ++ events)) → WaitsFor n c new → At new next
      still_waits on later = Waits earlier (happened ++ events) on later waits_history

      waits_step : unplugs n s ≡ false → At new next
      waits_step stays =
          let on : IsWaiting n c new (happened ++ events) = waits_on n c below old s a new rule happened h clean stays waits in
          elim (cases_Bool (is_cleared n old a)) [
            | inl cleared ↦ elim (is_there (port_at old.multiplier n).present c) [
              | inl here ↦ elim (open_or_waits (registers.port_at new.multiplier.registers n)) [
                | inl opened ↦
                    let st : StaysPresent n c a new = stays_present n c old s a new rule stays firm here h.off.kept in
                    Lives on.off.there (record { here = st.here; opens = opened; kept = st.kept }) (λ away empty. absurd (owes_sign on away empty))
                | inr still ↦ still_waits on (λ present. still)
              ]
              | inr other ↦ still_waits on (waits_after n c below old s a new rule h.off.true_is (λ here. absurd (other here)) waits)
            ]
            | inr none ↦ still_waits on (waits_after n c below old s a new rule h.off.true_is (λ here. none) waits)
          ]

      waits_stuck : new ≡ old → events ≡ [] → At new next
      waits_stuck same none =
          Waits earlier happened (subst (λ (w : Places). IsWaiting n c w happened) (sym same) h) (subst (WaitsFor n c) (sym same) waits) (no_events none ∙ is)

    stuck_quiet : s ≡ step.Gone n → a ≡ answer.Blocked → events ≡ []
    stuck_quiet of_step of_answer = ap (λ (t : Step). happens n old t a new) of_step ∙ ap (λ (b : Answer). happens n old (step.Gone n) b new) of_answer

    phase_step : At old d → At new next
    phase_step (Left gone) = Left (past_after n c old a new gone s rule)
    phase_step (Waits earlier happened h waits is) = elim (cases_Bool (unplugs n s)) [
      | inl pulls ↦ by_pull (unplugs_or_not n old s a new pulls rule)
      | inr stays ↦ waits_step earlier happened h waits is stays
    ]
      where
        by_pull : Unplugs n old s a new → At new next
        by_pull (Stuck of_step of_answer same) = waits_stuck earlier happened h waits is same (stuck_quiet of_step of_answer)
        by_pull (Goes conn of_step of_answer gone) = Left (gone_past n c conn old new h.off.there gone)
    phase_step (Lives there live has) = elim (cases_Bool (unplugs n s)) [
      | inl pulls ↦ by_pull (unplugs_or_not n old s a new pulls rule)
      | inr stays ↦ live_step there live has stays
    ]
      where
        by_pull : Unplugs n old s a new → At new next
        by_pull (Stuck of_step of_answer same) = live_stuck there live has same (stuck_quiet of_step of_answer)
        by_pull (Goes conn of_step of_answer gone) = Left (gone_past n c conn old new there gone)

  -- ---- a run

  -- the run up to a world, as the same connection
  pub record Followed (conn : ℕ) (w : Places) : Type 0 where
    pub run : DiskRun config units n w
    pub same : run.conn ≡ conn
    pub phase : Phase config units n past w run

  follow : (conn : ℕ) (w : Places) → Followed conn w → (steps : List Step) (answers : List Answer) (now : Places) → Run w steps answers now
      → list_any (injects n) steps ≡ false → Followed conn now
  follow conn w f [] [] now run clean = subst (Followed conn) (sym run) f
  follow conn w f (s ∷ steps) (a ∷ answers) now run clean =
      let parts = or_parts (injects n s) (list_any (injects n) steps) clean in
      follow conn run.0 (record {
        run = more config units n past w f.run s a run.0 run.1 parts.0;
        same = f.same;
        phase = phase_step w f.run s a run.0 run.1 parts.0 f.phase;
      }) steps answers now run.2 parts.1
  follow conn w f [] (a ∷ answers) now run clean = absurd run
  follow conn w f (s ∷ steps) [] now run clean = absurd run

  -- from the plugging on
  pub followed : (now : Places) (d : DiskRun config units n now) → Followed d.conn now
  followed now d =
      let shut : ComesShut n d.conn d.run.0 = comes_shut n d.conn below config units fits d.first d.told d.out d.made d.run.0 d.run.1 in
      let before : List Happening = over (happens n) (new_world config units) d.first d.told d.out d.made in
      let came : happens n d.out (step.Came n) (answer.Came n d.conn) d.run.0 ≡ Plugged ∷ [] =
      ap (λ (b : Bool). if b then Plugged ∷ [] else []) (eq-eqb n n refl) in
      let opens : DiskRun config units n d.run.0 =
      record { first = d.first; told = d.told; out = d.out; made = d.made; conn = d.conn; steps = []; answers = []; run = (d.run.0, d.run.1, refl); clean = refl } in
      let told : history config units n past d.run.0 opens ≡ (past ++ before) ++ Plugged ∷ [] =
      ap (λ (xs : List Happening). (past ++ before) ++ (xs ++ [])) came in
      follow d.conn d.run.0
      (record {
        run = opens;
        same = refl;
        phase = Waits (past ++ before) (Plugged ∷ [])
            (came_waiting n d.conn d.run.0 shut.off) shut.waits told;
      }) d.steps d.answers now d.run.2 d.clean
