-- For `rested_drivers_watch`. What each step does on the way between the driver and the control port of the multiplier.
use Rattle.std.proofs.Common.{◌≡◌, ◌≤◌, ℕ, true, false, List, [], ◌∷◌, ◌++◌, length, refl, sym, ap, subst, ◌∙◌, Some, None, Ok}
use Rattle.fis_view.specs.Frames.{Stamped}
use Rattle.multiplier.specs.{Between.Gives, Rules.FromHostRule, State.PmState, declared.multiplier.Passed.Passed}
use Rattle.multiplier.proofs.Door.{gives}
use Rattle.hba_fbs.specs.{declared.report.TakeReport.TakeReport, Views.view_of}
use Rattle.hba_driver.specs.{declared.{mode.Mode.TheVariants.Switching, request.Request.Request as Wanted}, Between.{AreOfTheir, IsGoing}}
use Rattle.hba_driver.specs.{Going.IsOfControl, HostTurns.{Does, Host, HostTurn, Polled, Pushed, Put, Submitted, Ticked, Took}, Slot31.IsAt31}
use Rattle.hba_driver.specs.Slot31.{Stage31}
use Rattle.pm_world.specs.{Attached.Attached, Line.{AreNotices, HasLine, OnLine, OneOrderAtATime}, Places.{Place, Places, Queue, is_config}}
use Rattle.pm_world.specs.{Places.{new_world, with_host}, PortsGoOn.{PortGoesOn, PortsGoOn}, Rules.{CameRule, DiskSendRule, DiskTakeRule, GoneRule}}
use Rattle.pm_world.specs.Rules.{HostPushRule, HostTakeRule, InjectRule, OnDevice, OnDeviceAndMultiplier, Outcome, PmDownRule, PmFromDeviceRule}
use Rattle.pm_world.specs.Rules.{PmFromHostRule, PmPresenceRule, PmUpRule, PollRule, PutRule, Rule, Run, SubmitRule, TickRule, recorded}
use Rattle.pm_world.specs.declared.{link.Change.Change, step.{Answer.Answer, Config.Config, Step.Step}}
use Rattle.pm_world.specs.declared.step.Answer.TheVariants as answer
use Rattle.pm_world.specs.declared.step.Step.TheVariants as step
use Rattle.world_rests.proofs.{Parts.{AtBoth, AtDevice, at_both, at_device, run_more}, Orders.{IsOwed, IsOwing, owing_in}, Slot31.IsAsking}
use Rattle.world_rests.proofs.Well.{well_in}

-- the host, the multiplier, and the frames between them, on their way down and up
pub record Line : Type 0 where
  pub host : Host
  pub down : List Stamped
  pub pm : PmState
  pub up : List Stamped

abbrev pub line_of : Places → Line
line_of w = record { host = w.host; down = w.downward.frames; pm = w.multiplier; up = w.upward.frames }

-- the line of these parts
abbrev at_line : Host → List Stamped → PmState → List Stamped → Line
at_line h d p u = record { host = h; down = d; pm = p; up = u }

line_same : {h k : Host} {d e : List Stamped} {p q : PmState} {u v : List Stamped} → h ≡ k → d ≡ e → p ≡ q → u ≡ v → at_line h d p u ≡ at_line k e q v
line_same host down pm up = rw (host, down, pm, up) refl

-- the frames of the same link
frames_of : {q r : Queue} → q ≡ r → q.frames ≡ r.frames
frames_of same = ap (λ (x : Queue). x.frames) same

-- no frame comes or goes in the turn
abbrev pub IsInside : HostTurn → Type 0
IsInside (Took frame report) = ⊥
IsInside (Pushed (Some frame)) = ⊥
IsInside turn = Unit {0}

-- what a step leaves: all stays but places of devices; a change is recorded; the multiplier takes a frame, or gives one; the host
-- takes a frame, gives one, or turns without one
pub data Way (l m : Line) : Type 0 where
  Stays : (pm : PmState) → pm.registers ≡ l.pm.registers → pm.resetting ≡ l.pm.resetting → pm.answer ≡ l.pm.answer → m ≡ record l { pm = pm } → Way l m
  Records : (n : ℕ) (c : Change) → m ≡ record l { pm = recorded l.pm n c } → Way l m
  Hears : (f : Stamped) (rest : List Stamped) (p : Passed) (pm : PmState) → l.down ≡ f ∷ rest → FromHostRule l.pm f (Ok p) pm → m ≡ record l { down = rest; pm = pm } → Way l m
  Rises : (f : Stamped) (pm : PmState) → Gives l.pm f pm → m ≡ record l { pm = pm; up = l.up ++ f ∷ [] } → Way l m
  Takes : (f : Stamped) (rest : List Stamped) (report : TakeReport) (host : Host) → l.up ≡ f ∷ rest → Does l.host (Took f.bytes report) host → IsOfControl f.bytes → m ≡ record l { host = host; up = rest } → Way l m
  Pushes : (f : Stamped) (host : Host) → Does l.host (Pushed (Some f)) host → m ≡ record l { host = host; down = l.down ++ f ∷ [] } → Way l m
  Turns : (t : HostTurn) → IsInside t → (host : Host) → Does l.host t host → m ≡ record l { host = host } → Way l m

-- what holds of each world between two steps: how far slot 31 is, what is on its way then, and that a command that went out is owed its
-- answer
pub record IsGood (l : Line) : Type 0 where
  pub going : IsGoing l.host
  pub their : AreOfTheir l.host.port
  pub owed : IsAsking (view_of 15 l.host.port) → IsOwed l.down l.pm.answer l.up
  pub stage : Stage31
  pub at : IsAt31 stage l.host
  pub line : OnLine stage l.down l.pm.answer l.up
  pub notices : AreNotices l.up
  pub served : l.pm.served ≤ 15

-- ---- each step

nothing : (old new : Places) → line_of new ≡ line_of old → Way (line_of old) (line_of new)
nothing old new is = Stays old.multiplier refl refl refl is

module _ (old new : Places) where
  alone : (n : ℕ) (a : Answer) (R : Place → Outcome → Place → Type 0) → OnDevice old n (Ok a) new R → Way (line_of old) (line_of new)
  alone n a R rule =
      let at : AtDevice old n (Ok a) new R = at_device old n a new R rule in
      nothing old new (ap line_of at.new_is)

  -- a step of a device and the multiplier, that leaves the multiplier so
  abbrev Left : PmState → Type 0
  Left pm = ((pm.registers ≡ old.multiplier.registers) × (pm.resetting ≡ old.multiplier.resetting)) × (pm.answer ≡ old.multiplier.answer)

  both : (n : ℕ) (a : Answer) (R : Place → PmState → Outcome → Place → PmState → Type 0) → ((place after : Place) (left : PmState) → R place old.multiplier (Ok a) after left → Left left) → OnDeviceAndMultiplier old n (Ok a) new R
      → Way (line_of old) (line_of new)
  both n a R leaves rule =
      let at : AtBoth old n (Ok a) new R = at_both old n a new R rule in
      let l : Left at.left = leaves at.place at.after at.left at.rule in
      Stays at.left l.0.0 l.0.1 l.1 (ap line_of at.new_is)

  left_as : (pm : PmState) → pm ≡ old.multiplier → Left pm
  left_as pm same = subst Left (sym same) ((refl, refl), refl)

  from_device : (n : ℕ) (place : Place) (a : Answer) (after : Place) (left : PmState) → PmFromDeviceRule n place old.multiplier (Ok a) after left → Left left
  from_device n place answer.Idle after left acts = left_as left acts.2
  from_device n place answer.Blocked after left acts = left_as left acts.3
  from_device n place (answer.Offered p true) after left acts = left_as left acts.2.2.1
  from_device n place (answer.Offered p false) after left acts = subst Left (sym acts.2.2.2) ((refl, refl), refl)
  from_device n place _ after left acts = absurd acts

  goes_down : (n : ℕ) (place : Place) (a : Answer) (after : Place) (left : PmState) → PmDownRule n place old.multiplier (Ok a) after left → Left left
  goes_down n place answer.Idle after left acts = left_as left acts.3
  goes_down n place answer.Blocked after left acts = left_as left acts.2
  goes_down n place (answer.Down p) after left acts = subst Left (sym acts.2.1.1) ((refl, refl), refl)
  goes_down n place _ after left acts = absurd acts

  presence : (n : ℕ) (a : Answer) (place after : Place) (left : PmState) → PmPresenceRule n place old.multiplier (Ok a) after left → line_of new ≡ record (line_of old) { pm = left } → Way (line_of old) (line_of new)
  presence n answer.Idle place after left acts is = nothing old new (is ∙ ap (λ (pm : PmState). record (line_of old) { pm = pm }) acts.2)
  presence n (answer.Presence p) place after left acts is = Records n acts.2.0 (is ∙ ap (λ (pm : PmState). record (line_of old) { pm = pm }) acts.2.2)
  presence n _ place after left acts is = absurd acts

  hears : (a : Answer) → PmFromHostRule old.downward old.multiplier (Ok a) new.downward new.multiplier → new.host ≡ old.host → new.upward ≡ old.upward → Way (line_of old) (line_of new)
  hears answer.Idle acts host up = nothing old new (line_same host (frames_of acts.1) acts.2 (frames_of up))
  hears answer.Blocked acts host up = nothing old new (line_same host (frames_of acts.1) acts.2 (frames_of up))
  hears (answer.Passed p) acts host up = Hears acts.0.0 new.downward.frames p new.multiplier acts.0.1 acts.0.2 (line_same host refl refl (frames_of up))
  hears _ acts host up = absurd acts

  rises : (a : Answer) → PmUpRule old.multiplier old.upward (Ok a) new.multiplier new.upward → new.host ≡ old.host → new.downward ≡ old.downward → Way (line_of old) (line_of new)
  rises answer.Idle acts host down = nothing old new (line_same host (frames_of down) acts.2 (frames_of acts.3))
  rises answer.Blocked acts host down = nothing old new (line_same host (frames_of down) acts.1 (frames_of acts.2))
  rises (answer.Up n) acts host down = Rises acts.1.0 new.multiplier (gives old.multiplier acts.1.0 new.multiplier acts.1.2) (line_same host (frames_of down) refl (frames_of acts.1.3))
  rises _ acts host down = absurd acts

  -- the parts of the world beside the host
  record Beside : Type 0 where
    pm : new.multiplier ≡ old.multiplier
    down : new.downward ≡ old.downward
    up : new.upward ≡ old.upward

  still : (b : Beside) → new.host ≡ old.host → Way (line_of old) (line_of new)
  still b host = nothing old new (line_same host (frames_of b.down) b.pm (frames_of b.up))

  turns : (b : Beside) (t : HostTurn) → IsInside t → Does old.host t new.host → Way (line_of old) (line_of new)
  turns b t inside does = Turns t inside new.host does (line_same refl (frames_of b.down) b.pm (frames_of b.up))

  ticks : (a : Answer) → TickRule old.host (Ok a) new.host → Beside → Way (line_of old) (line_of new)
  ticks answer.Idle acts b = still b acts.1
  ticks answer.Ticked acts b = turns b (Ticked true) tt acts
  ticks _ acts b = absurd acts

  submits : (dev : ℕ) (request : Wanted) (a : Answer) → SubmitRule dev request old.host (Ok a) new.host → Beside → Way (line_of old) (line_of new)
  submits dev request (answer.Refused e) acts b = still b acts.1
  submits dev request (answer.Submitted ticket) acts b = turns b (Submitted dev request ticket.0) tt acts
  submits dev request _ acts b = absurd acts

  polls : (a : Answer) → PollRule old.host (Ok a) new.host → Beside → Way (line_of old) (line_of new)
  polls answer.Idle acts b = still b acts.1
  polls (answer.Polled completion) acts b = turns b (Polled completion) tt acts
  polls _ acts b = absurd acts

  puts : (at : ℕ) (bytes : List ℕ) (a : Answer) → PutRule at bytes old.host (Ok a) new.host → Beside → Way (line_of old) (line_of new)
  puts at bytes answer.Put acts b = turns b (Put at bytes) tt acts.1
  puts at bytes _ acts b = absurd acts

  takes : (a : Answer) → HostTakeRule old.upward old.host (Ok a) new.upward new.host → ((port conn number : ℕ) (bytes : List ℕ) (report : TakeReport) → a ≡ answer.Took port conn number bytes report → IsOfControl bytes)
      → new.multiplier ≡ old.multiplier → new.downward ≡ old.downward → Way (line_of old) (line_of new)
  takes answer.Idle acts of pm down = nothing old new (line_same acts.2 (frames_of down) pm (frames_of acts.1))
  takes (answer.Took port conn number bytes report) acts of pm down =
      let f : Stamped = acts.0.0 in
      let same : f.bytes ≡ bytes = acts.0.2.bytes_are in
      Takes f new.upward.frames report new.host acts.0.1 (subst (λ (b : List ℕ). Does old.host (Took b report) new.host) (sym same) acts.2) (subst IsOfControl (sym same) (of port conn number bytes report refl)) (line_same refl (frames_of down) pm refl)
  takes _ acts of pm down = absurd acts

  pushes : (a : Answer) → HostPushRule old.host old.downward (Ok a) new.host new.downward → new.multiplier ≡ old.multiplier → new.upward ≡ old.upward → Way (line_of old) (line_of new)
  pushes answer.Idle acts pm up = turns (record { pm = pm; down = acts.2; up = up }) (Pushed None) tt acts.1.0
  pushes answer.Blocked acts pm up = still (record { pm = pm; down = acts.2; up = up }) acts.1
  pushes answer.Pushed acts pm up = Pushes acts.1.0 new.host acts.1.1 (line_same refl (frames_of acts.1.2) pm (frames_of up))
  pushes _ acts pm up = absurd acts

  aside : (rule : new ≡ with_host old new.host) → Beside
  aside rule = record {
    pm = ap (λ (w : Places). w.multiplier) rule;
    down = ap (λ (w : Places). w.downward) rule;
    up = ap (λ (w : Places). w.upward) rule;
  }

  pub way_of : PortGoesOn old → (s : Step) (a : Answer) → Rule old s (Ok a) new → Way (line_of old) (line_of new)
  way_of goes (step.Came n) a rule = alone n a (CameRule n) rule
  way_of goes (step.Gone n) a rule = alone n a (GoneRule n) rule
  way_of goes (step.DiskSend n) a rule = alone n a (DiskSendRule n) rule
  way_of goes (step.Inject n bytes) a rule = alone n a (InjectRule n bytes) rule
  way_of goes (step.DiskTake n) a rule = alone n a (DiskTakeRule n) rule
  way_of goes (step.PmPresence n) a rule =
      let at : AtBoth old n (Ok a) new (PmPresenceRule n) = at_both old n a new (PmPresenceRule n) rule in
      presence n a at.place at.after at.left at.rule (ap line_of at.new_is)
  way_of goes (step.PmFromDevice n) a rule = both n a (PmFromDeviceRule n) (λ place after left r. from_device n place a after left r) rule
  way_of goes (step.PmDown n) a rule = both n a (PmDownRule n) (λ place after left r. goes_down n place a after left r) rule
  way_of goes step.PmFromHost a rule = hears a rule.0 (ap (λ (w : Places). w.host) rule.1) (ap (λ (w : Places). w.upward) rule.1)
  way_of goes step.PmUp a rule = rises a rule.0 (ap (λ (w : Places). w.host) rule.1) (ap (λ (w : Places). w.downward) rule.1)
  way_of goes step.HostTake a rule =
      takes a rule.0 (λ port conn number bytes report same. goes.control step.HostTake port conn number bytes report new (subst (λ (b : Answer). Rule old step.HostTake (Ok b) new) same rule))
      (ap (λ (w : Places). w.multiplier) rule.1) (ap (λ (w : Places). w.downward) rule.1)
  way_of goes step.HostPush a rule = pushes a rule.0 (ap (λ (w : Places). w.multiplier) rule.1) (ap (λ (w : Places). w.upward) rule.1)
  way_of goes step.Tick a rule = ticks a rule.0 (aside rule.1)
  way_of goes (step.Submit dev request) a rule = submits dev request a rule.0 (aside rule.1)
  way_of goes step.Poll a rule = polls a rule.0 (aside rule.1)
  way_of goes (step.Put at bytes) a rule = puts at bytes a rule.0 (aside rule.1)

-- ---- a run

-- what each way keeps, between worlds that runs from a new one lead to, holds of each of them if it holds of the new one
module _ (lines : OneOrderAtATime) (ports : PortsGoOn) (config : Config) (units : List Attached) (fits : is_config config (length units) ≡ true) where
  pub good : (before : List Step) (told : List Answer) (w : Places) → Run (new_world config units) before told w → IsGood (line_of w)
  good before told w run =
      let owing : IsOwing w = owing_in lines ports config units fits before told w run in
      let has : HasLine w = lines config units fits before told w run in
      record { going = owing.going; their = owing.their; owed = owing.owed; stage = has.stage; at = has.is.at; line = has.is.line; notices = has.is.notices; served = (well_in Switching config units fits before told w run).served }

  module _ (P : Line → Type 0) (keeps : (l m : Line) → IsGood l → IsGood m → Way l m → P l → P m) where
    run_keeps : (before : List Step) (told : List Answer) (old : Places) → Run (new_world config units) before told old → P (line_of old) → (steps : List Step) (answers : List Answer) (new : Places) → Run old steps answers new
        → P (line_of new)
    run_keeps before told old made is [] [] new run = subst (λ (w : Places). P (line_of w)) (sym run) is
    run_keeps before told old made is (s ∷ steps) (a ∷ answers) new run =
        let next : Run (new_world config units) (before ++ s ∷ []) (told ++ a ∷ []) run.0 = run_more (new_world config units) old before told s a run.0 made run.1 in
        run_keeps (before ++ s ∷ []) (told ++ a ∷ []) run.0 next
        (keeps (line_of old) (line_of run.0) (good before told old made) (good (before ++ s ∷ []) (told ++ a ∷ []) run.0 next) (way_of old run.0 (ports config units fits before told old made) s a run.1) is) steps answers new run.2
    run_keeps before told old made is [] (a ∷ answers) new run = absurd run
    run_keeps before told old made is (s ∷ steps) [] new run = absurd run

    pub kept_by : P (line_of (new_world config units)) → (steps : List Step) (answers : List Answer) (now : Places) → Run (new_world config units) steps answers now → P (line_of now)
    kept_by opens steps answers now run = run_keeps [] [] (new_world config units) refl opens steps answers now run
