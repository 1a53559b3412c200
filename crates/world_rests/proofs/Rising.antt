-- For `each_takes_turns`. Which frames go up and are taken over a run, by their ports.
use Rattle.std.proofs.Common.{◌≡◌, ℕ, zero, suc, ◌+◌, ◌*◌, ◌≤◌, ◌==◌, Bool, true, false, IsTrue, All, List, [], ◌∷◌, ◌++◌, append_assoc, length, map}
use Rattle.std.proofs.{Common.{Option, Some, None, refl, sym, ap, subst, ◌∙◌, arith, length-append}, lemmas.List.{append-nil, length-map, map-append}}
use Rattle.std.specs.Prelude.{Ok, MatchBool, MatchOption, is_none, if◌then◌else◌}
use Rattle.fis_view.specs.{Frames.Stamped, declared.frame.Stamp.Stamp}
use Rattle.pm_control.specs.Answers.{IsNotice}
use Rattle.pm_ports.specs.Port.{came_refusal as port_came_refusal, gone_refusal as port_gone_refusal}
use Rattle.multiplier.specs.{Arbiter.{IsServedInTurn, StaysReady, control_port}, Between.{Answer as Answers, FromPort, Gives, Notice}}
use Rattle.multiplier.specs.{Rules.{FromHostRule, ToControl, ToDevice, ToNobody, ToPort, with_device as connected, without_device}, State.PmState}
use Rattle.multiplier.specs.{State.{control_stamp, next_place, passes_to, pm_port, port_at, ready}, declared.multiplier.Passed.Passed}
use Rattle.multiplier.specs.declared.multiplier.Passed.TheVariants as passed
use Rattle.multiplier.proofs.Door.{gives}
use Rattle.hba_driver.specs.{HostTurns.Host, declared.request.Request.Request}
use Rattle.pm_world.specs.{DevicePaths.ReachedAreOrderly, Links.rose_by, Places.{IsOrderly, Place, Places, Queue}, Rules.{CameActs, CameRule}}
use Rattle.pm_world.specs.Rules.{DiskSendActs, DiskSendRule, DiskTakeRule, GoneActs, GoneRule, HostPushRule, HostTakeRule, InjectActs, InjectRule}
use Rattle.pm_world.specs.Rules.{OnDevice, OnDeviceAndMultiplier, Outcome, PmDownRule, PmFromDeviceRule, PmFromHostRule, PmPresenceRule, PmUpRule}
use Rattle.pm_world.specs.{Rules.{PollRule, PutRule, Rule, Run, SubmitRule, TickRule, recorded}, Runs.{AtEach, IsReached}}
use Rattle.pm_world.specs.declared.{link.Change.Change, step.{Step.Step, Answer.Answer}}
use Rattle.pm_world.specs.declared.link.Change.TheVariants as change
use Rattle.pm_world.specs.declared.step.Step.TheVariants as step
use Rattle.pm_world.specs.declared.step.Answer.TheVariants as answer
use Rattle.world_rests.specs.Turns.{EachTakesTurns, HasOne, rose, times_of, took, took_from}
use Rattle.world_rests.proofs.{Parts.{at_both, at_device, reached_after}, Served.{WaitsFifteen, front_each_sixteenth, served_each_sixteenth}}
use Rattle.world_rests.proofs.{Served.times_both, Well.{IsWell, well_reached}}

-- no frame went up, and the host took none
abbrev IsQuiet : Answer → Type 0
IsQuiet a = (rose_by a ≡ []) × (took_from a ≡ [])

came_quiet : (n : ℕ) (old : Place) (a : Answer) (new : Place) → CameActs n old a new → IsQuiet a
came_quiet n old answer.Blocked new acts = (refl, refl)
came_quiet n old (answer.Came p c) new acts = (refl, refl)
came_quiet n old _ new acts = absurd acts

gone_quiet : (n : ℕ) (old : Place) (a : Answer) (new : Place) → GoneActs n old a new → IsQuiet a
gone_quiet n old answer.Blocked new acts = (refl, refl)
gone_quiet n old (answer.Gone p c) new acts = (refl, refl)
gone_quiet n old _ new acts = absurd acts

send_quiet : (n : ℕ) (old : Place) (a : Answer) (new : Place) → DiskSendActs n old a new → IsQuiet a
send_quiet n old answer.Idle new acts = (refl, refl)
send_quiet n old answer.Blocked new acts = (refl, refl)
send_quiet n old (answer.Sent p c number bytes) new acts = (refl, refl)
send_quiet n old _ new acts = absurd acts

inject_quiet : (n : ℕ) (given : List ℕ) (old : Place) (a : Answer) (new : Place) → InjectActs n given old a new → IsQuiet a
inject_quiet n given old answer.Blocked new acts = (refl, refl)
inject_quiet n given old (answer.Sent p c number bytes) new acts = (refl, refl)
inject_quiet n given old _ new acts = absurd acts

take_quiet : (n : ℕ) (old : Place) (a : Answer) (new : Place) → DiskTakeRule n old (Ok a) new → IsQuiet a
take_quiet n old answer.Idle new acts = (refl, refl)
take_quiet n old (answer.DiskTook p dropped) new acts = (refl, refl)
take_quiet n old _ new acts = absurd acts

-- the place that was served last stays
abbrev KeepsTurn : Answer → PmState → PmState → Type 0
KeepsTurn a pm after = IsQuiet a × (after.served ≡ pm.served)

same_turn : (pm after : PmState) → after ≡ pm → after.served ≡ pm.served
same_turn pm after e = ap (λ (m : PmState). m.served) e

recorded_turn : (pm : PmState) (n : ℕ) (c : Change) → (recorded pm n c).served ≡ pm.served
recorded_turn pm n (change.Came conn) = by_test (is_none (port_came_refusal (port_at pm n) conn))
  where
    by_test : (b : Bool) → (if b then connected pm n conn else pm).served ≡ pm.served
    by_test true = refl
    by_test false = refl
recorded_turn pm n (change.Gone conn) = by_test (is_none (port_gone_refusal (port_at pm n) conn))
  where
    by_test : (b : Bool) → (if b then without_device pm n conn else pm).served ≡ pm.served
    by_test true = refl
    by_test false = refl

presence_turn : (n : ℕ) (old : Place) (pm : PmState) (a : Answer) (new : Place) (after : PmState) → PmPresenceRule n old pm (Ok a) new after → KeepsTurn a pm after
presence_turn n old pm answer.Idle new after acts = ((refl, refl), same_turn pm after acts.2)
presence_turn n old pm (answer.Presence p) new after acts = ((refl, refl), same_turn (recorded pm n acts.2.0) after acts.2.2 ∙ recorded_turn pm n acts.2.0)
presence_turn n old pm _ new after acts = absurd acts

offer_turn : (n : ℕ) (old : Place) (pm : PmState) (a : Answer) (new : Place) (after : PmState) → PmFromDeviceRule n old pm (Ok a) new after → KeepsTurn a pm after
offer_turn n old pm answer.Idle new after acts = ((refl, refl), same_turn pm after acts.2)
offer_turn n old pm answer.Blocked new after acts = ((refl, refl), same_turn pm after acts.3)
offer_turn n old pm (answer.Offered p true) new after acts = ((refl, refl), same_turn pm after acts.2.2.1)
offer_turn n old pm (answer.Offered p false) new after acts = ((refl, refl), ap (λ (m : PmState). m.served) acts.2.2.2)
offer_turn n old pm _ new after acts = absurd acts

down_turn : (n : ℕ) (old : Place) (pm : PmState) (a : Answer) (new : Place) (after : PmState) → PmDownRule n old pm (Ok a) new after → KeepsTurn a pm after
down_turn n old pm answer.Idle new after acts = ((refl, refl), same_turn pm after acts.3)
down_turn n old pm answer.Blocked new after acts = ((refl, refl), same_turn pm after acts.2)
down_turn n old pm (answer.Down p) new after acts = ((refl, refl), ap (λ (m : PmState). m.served) acts.2.1.1)
down_turn n old pm _ new after acts = absurd acts

passed_turn : (pm : PmState) (frame : Stamped) (p : Passed) (after : PmState) → FromHostRule pm frame (Ok p) after → after.served ≡ pm.served
passed_turn pm frame p after rule = by_test (pm_port frame == control_port) rule
  where
    control : (q : Passed) → ToControl pm frame (Ok q) after → after.served ≡ pm.served
    control passed.Control acts = ap (λ (m : PmState). m.served) acts.2
    control _ acts = absurd acts

    device : (o : Option ℕ) (q : Passed) → MatchOption o (ToNobody pm (Ok q) after) (λ conn. ToDevice pm (pm_port frame) conn frame (Ok q) after) → after.served ≡ pm.served
    device None passed.Dropped acts = ap (λ (m : PmState). m.served) acts
    device (Some conn) (passed.Down m) acts = ap (λ (q : PmState). q.served) acts.2
    device other _ acts = absurd acts

    by_test : (b : Bool) → MatchBool b (ToControl pm frame (Ok p) after) (ToPort pm frame (Ok p) after) → after.served ≡ pm.served
    by_test true acts = control p acts
    by_test false acts = device (passes_to pm (pm_port frame)) p acts

heard_turn : (old : Queue) (pm : PmState) (a : Answer) (new : Queue) (after : PmState) → PmFromHostRule old pm (Ok a) new after → KeepsTurn a pm after
heard_turn old pm answer.Idle new after acts = ((refl, refl), same_turn pm after acts.2)
heard_turn old pm answer.Blocked new after acts = ((refl, refl), same_turn pm after acts.2)
heard_turn old pm (answer.Passed p) new after acts = ((refl, refl), passed_turn pm acts.0.0 p after acts.0.2)
heard_turn old pm _ new after acts = absurd acts

push_quiet : (host : Host) (old : Queue) (a : Answer) (after : Host) (new : Queue) → HostPushRule host old (Ok a) after new → IsQuiet a
push_quiet host old answer.Idle after new acts = (refl, refl)
push_quiet host old answer.Blocked after new acts = (refl, refl)
push_quiet host old answer.Pushed after new acts = (refl, refl)
push_quiet host old _ after new acts = absurd acts

tick_quiet : (host : Host) (a : Answer) (after : Host) → TickRule host (Ok a) after → IsQuiet a
tick_quiet host answer.Idle after acts = (refl, refl)
tick_quiet host answer.Ticked after acts = (refl, refl)
tick_quiet host _ after acts = absurd acts

submit_quiet : (dev : ℕ) (request : Request) (host : Host) (a : Answer) (after : Host) → SubmitRule dev request host (Ok a) after → IsQuiet a
submit_quiet dev request host (answer.Refused e) after acts = (refl, refl)
submit_quiet dev request host (answer.Submitted ticket) after acts = (refl, refl)
submit_quiet dev request host _ after acts = absurd acts

poll_quiet : (host : Host) (a : Answer) (after : Host) → PollRule host (Ok a) after → IsQuiet a
poll_quiet host answer.Idle after acts = (refl, refl)
poll_quiet host (answer.Polled completion) after acts = (refl, refl)
poll_quiet host _ after acts = absurd acts

put_quiet : (at : ℕ) (bytes : List ℕ) (host : Host) (a : Answer) (after : Host) → PutRule at bytes host (Ok a) after → IsQuiet a
put_quiet at bytes host answer.Put after acts = (refl, refl)
put_quiet at bytes host _ after acts = absurd acts

-- ---- what a step does to the link to the host

data Moved (old : Places) (a : Answer) (new : Places) : Type 0 where
  -- nothing enters it, and nothing leaves it
  Stays : IsQuiet a → new.multiplier.served ≡ old.multiplier.served → new.upward ≡ old.upward → Moved old a new
  -- the frame of the place that is served next enters it
  Rises : (n : ℕ) (f : Stamped) → a ≡ answer.Up n → f.stamp.port ≡ n → next_place old.multiplier ≡ Some n → new.multiplier.served ≡ n → new.upward.frames ≡ old.upward.frames ++ f ∷ [] → Moved old a new
  -- the host takes its first
  Takes : (f : Stamped) → rose_by a ≡ [] → took_from a ≡ f.stamp.port ∷ [] → new.multiplier.served ≡ old.multiplier.served → old.upward.frames ≡ f ∷ new.upward.frames → Moved old a new

notice_stamp : (stamp : Stamp) (f : Stamped) → IsNotice true stamp (Some f) → f.stamp ≡ stamp
notice_stamp stamp f is = is.1

given_turn : (pm : PmState) (frame : Stamped) (after : PmState) → ((f : Stamped) → pm.answer ≡ Some f → f.stamp.port ≡ control_port) → Gives pm frame after → (next_place pm ≡ Some frame.stamp.port) × (after.served ≡ frame.stamp.port)
given_turn pm frame after stamped (FromPort n was at other is stamp shown e) =
    let port : frame.stamp.port ≡ n = ap (λ (f : Stamped). f.stamp.port) shown in
    (at ∙ ap Some (sym port), ap (λ (m : PmState). m.served) e ∙ sym port)
given_turn pm frame after stamped (Notice at due is e) =
    let port : frame.stamp.port ≡ control_port = ap (λ (s : Stamp). s.port) (notice_stamp (control_stamp pm) frame is) in
    (at ∙ ap Some (sym port), ap (λ (m : PmState). m.served) e ∙ sym port)
given_turn pm frame after stamped (Answers at is e) =
    let port : frame.stamp.port ≡ control_port = stamped frame is in
    (at ∙ ap Some (sym port), ap (λ (m : PmState). m.served) e ∙ sym port)

up_moved : (old new : Places) (a : Answer) → IsOrderly old → PmUpRule old.multiplier old.upward (Ok a) new.multiplier new.upward → Moved old a new
up_moved old new answer.Idle orderly acts = Stays (refl, refl) (same_turn old.multiplier new.multiplier acts.2) acts.3
up_moved old new answer.Blocked orderly acts = Stays (refl, refl) (same_turn old.multiplier new.multiplier acts.1) acts.2
up_moved old new (answer.Up n) orderly acts =
    let g = given_turn old.multiplier acts.1.0 new.multiplier orderly.answer (gives old.multiplier acts.1.0 new.multiplier acts.1.2) in
    Rises n acts.1.0 refl acts.1.1 (g.0 ∙ ap Some acts.1.1) (g.1 ∙ acts.1.1) (ap (λ (q : Queue). q.frames) acts.1.3)
up_moved old new _ orderly acts = absurd acts

take_moved : (old new : Places) (a : Answer) → new.multiplier.served ≡ old.multiplier.served → HostTakeRule old.upward old.host (Ok a) new.upward new.host → Moved old a new
take_moved old new answer.Idle same acts = Stays (refl, refl) same acts.1
take_moved old new (answer.Took port conn number bytes report) same acts =
    Takes acts.0.0 refl (ap (λ (p : ℕ). p ∷ []) (sym acts.0.2.port_is)) same acts.0.1
take_moved old new _ same acts = absurd acts

module _ (old : Places) (a : Answer) (new : Places) where
  alone : (n : ℕ) (R : Place → Outcome → Place → Type 0) → ((place after : Place) → R place (Ok a) after → IsQuiet a) → OnDevice old n (Ok a) new R → Moved old a new
  alone n R quiet rule =
      let d = at_device old n a new R rule in
      Stays (quiet d.place d.after d.rule) (ap (λ (w : Places). w.multiplier.served) d.new_is) (ap (λ (w : Places). w.upward) d.new_is)

  both : (n : ℕ) (R : Place → PmState → Outcome → Place → PmState → Type 0) → ((place after : Place) (left : PmState) → R place old.multiplier (Ok a) after left → KeepsTurn a old.multiplier left)
      → OnDeviceAndMultiplier old n (Ok a) new R → Moved old a new
  both n R keeps rule =
      let d = at_both old n a new R rule in
      let k = keeps d.place d.after d.left d.rule in
      Stays k.0 (ap (λ (w : Places). w.multiplier.served) d.new_is ∙ k.1) (ap (λ (w : Places). w.upward) d.new_is)

  aside : (left : Places) → new ≡ left → left.multiplier ≡ old.multiplier → left.upward ≡ old.upward → IsQuiet a → Moved old a new
  aside left e pm up quiet =
      Stays quiet (ap (λ (w : Places). w.multiplier.served) e ∙ ap (λ (m : PmState). m.served) pm) (ap (λ (w : Places). w.upward) e ∙ up)

moved : (old : Places) (s : Step) (a : Answer) (new : Places) → IsOrderly old → Rule old s (Ok a) new → Moved old a new
moved old (step.Came n) a new orderly rule = alone old a new n (CameRule n) (λ place after r. came_quiet n place a after r.1) rule
moved old (step.Gone n) a new orderly rule = alone old a new n (GoneRule n) (λ place after r. gone_quiet n place a after r.1) rule
moved old (step.DiskSend n) a new orderly rule = alone old a new n (DiskSendRule n) (λ place after r. send_quiet n place a after r.1) rule
moved old (step.Inject n bytes) a new orderly rule = alone old a new n (InjectRule n bytes) (λ place after r. inject_quiet n bytes place a after r.1) rule
moved old (step.DiskTake n) a new orderly rule = alone old a new n (DiskTakeRule n) (λ place after r. take_quiet n place a after r) rule
moved old (step.PmPresence n) a new orderly rule = both old a new n (PmPresenceRule n) (λ place after left r. presence_turn n place old.multiplier a after left r) rule
moved old (step.PmFromDevice n) a new orderly rule = both old a new n (PmFromDeviceRule n) (λ place after left r. offer_turn n place old.multiplier a after left r) rule
moved old (step.PmDown n) a new orderly rule = both old a new n (PmDownRule n) (λ place after left r. down_turn n place old.multiplier a after left r) rule
moved old step.PmFromHost a new orderly rule =
    let k = heard_turn old.downward old.multiplier a new.downward new.multiplier rule.0 in
    Stays k.0 k.1 (ap (λ (w : Places). w.upward) rule.1)
moved old step.PmUp a new orderly rule = up_moved old new a orderly rule.0
moved old step.HostTake a new orderly rule = take_moved old new a (ap (λ (w : Places). w.multiplier.served) rule.1) rule.0
moved old step.HostPush a new orderly rule =
    Stays (push_quiet old.host old.downward a new.host new.downward rule.0) (ap (λ (w : Places). w.multiplier.served) rule.1) (ap (λ (w : Places). w.upward) rule.1)
moved old step.Tick a new orderly rule = aside old a new (record old { host = new.host }) rule.1 refl refl (tick_quiet old.host a new.host rule.0)
moved old (step.Submit dev request) a new orderly rule = aside old a new (record old { host = new.host }) rule.1 refl refl (submit_quiet dev request old.host a new.host rule.0)
moved old step.Poll a new orderly rule = aside old a new (record old { host = new.host }) rule.1 refl refl (poll_quiet old.host a new.host rule.0)
moved old (step.Put at bytes) a new orderly rule = aside old a new (record old { host = new.host }) rule.1 refl refl (put_quiet at bytes old.host a new.host rule.0)

-- ---- a run

-- the ports of the frames on the link to the host
abbrev ports_on : Places → List ℕ
ports_on now = map (λ (f : Stamped). f.stamp.port) now.upward.frames

-- The places from which frames went up were served in turn. What was taken, and then what is on the link, is what was on it,
-- and then what went up.
record Turned (n : ℕ) (old : Places) (answers : List Answer) (new : Places) : Type 0 where
  turns : List (ℕ → Bool)
  served : IsServedInTurn old.multiplier.served turns (rose answers)
  stays : StaysReady n turns
  link : took answers ++ ports_on new ≡ ports_on old ++ rose answers

all_more : {X : Type 0} (P : X → Type 0) (x : X) (xs : List X) → P x → All P xs → All P (x ∷ xs)
all_more P x xs is all = by_index
  where
    by_index : All P (x ∷ xs)
    by_index zero d h = is
    by_index (suc k) d h = all k d (omega arith)

turned_none : (n : ℕ) (old new : Places) → new ≡ old → Turned n old [] new
unfolding IsServedInTurn
turned_none n old new same = record {
  turns = [];
  served = tt;
  stays = λ k d h. absurd (omega arith);
  link = ap ports_on same ∙ sym (append-nil (ports_on old));
}

turned_more : (n : ℕ) (old : Places) (a : Answer) (mid : Places) (answers : List Answer) (new : Places) → HasOne n old a → Moved old a mid → Turned n mid answers new → Turned n old (a ∷ answers) new
unfolding IsServedInTurn
turned_more n old a mid answers new one (Stays quiet turn up) t = record {
  turns = t.turns;
  served = subst (λ (ps : List ℕ). IsServedInTurn old.multiplier.served t.turns (ps ++ rose answers)) (sym quiet.0)
      (subst (λ (k : ℕ). IsServedInTurn k t.turns (rose answers)) turn t.served);
  stays = t.stays;
  link =
      let first : took (a ∷ answers) ++ ports_on new ≡ took answers ++ ports_on new = ap (λ (ps : List ℕ). (ps ++ took answers) ++ ports_on new) quiet.1 in
      let mid_is : ports_on mid ++ rose answers ≡ ports_on old ++ rose answers = ap (λ (q : Queue). map (λ (f : Stamped). f.stamp.port) q.frames ++ rose answers) up in
      let last : ports_on old ++ rose answers ≡ ports_on old ++ rose (a ∷ answers) = ap (λ (ps : List ℕ). ports_on old ++ (ps ++ rose answers)) (sym quiet.0) in
      first ∙ t.link ∙ mid_is ∙ last;
}
turned_more n old a mid answers new one (Rises m f is port at turn up) t =
    let rose_is : rose_by a ≡ m ∷ [] = ap rose_by is in
    let took_is : took_from a ≡ [] = ap took_from is in
    let ports : ports_on mid ≡ ports_on old ++ m ∷ [] =
    ap (map (λ (g : Stamped). g.stamp.port)) up ∙ map-append (λ (g : Stamped). g.stamp.port) old.upward.frames (f ∷ []) ∙ ap (λ (p : ℕ). ports_on old ++ p ∷ []) port in
    record {
      turns = ready old.multiplier ∷ t.turns;
      served = subst (λ (ps : List ℕ). IsServedInTurn old.multiplier.served (ready old.multiplier ∷ t.turns) (ps ++ rose answers)) (sym rose_is)
          (at, subst (λ (k : ℕ). IsServedInTurn k t.turns (rose answers)) turn t.served);
      stays = all_more (λ (r : ℕ → Bool). IsTrue (r n)) (ready old.multiplier) t.turns (subst (HasOne n old) is one) t.stays;
      link =
          let first : took (a ∷ answers) ++ ports_on new ≡ took answers ++ ports_on new = ap (λ (ps : List ℕ). (ps ++ took answers) ++ ports_on new) took_is in
          let mid_is : ports_on mid ++ rose answers ≡ (ports_on old ++ m ∷ []) ++ rose answers = ap (λ (ps : List ℕ). ps ++ rose answers) ports in
          let moved_is : (ports_on old ++ m ∷ []) ++ rose answers ≡ ports_on old ++ m ∷ rose answers = append_assoc (ports_on old) (m ∷ []) (rose answers) in
          let last : ports_on old ++ m ∷ rose answers ≡ ports_on old ++ rose (a ∷ answers) = ap (λ (ps : List ℕ). ports_on old ++ (ps ++ rose answers)) (sym rose_is) in
          first ∙ t.link ∙ mid_is ∙ moved_is ∙ last;
    }
turned_more n old a mid answers new one (Takes f none took_is turn up) t = record {
  turns = t.turns;
  served = subst (λ (ps : List ℕ). IsServedInTurn old.multiplier.served t.turns (ps ++ rose answers)) (sym none)
      (subst (λ (k : ℕ). IsServedInTurn k t.turns (rose answers)) turn t.served);
  stays = t.stays;
  link =
      let first : took (a ∷ answers) ++ ports_on new ≡ f.stamp.port ∷ (took answers ++ ports_on new) = ap (λ (ps : List ℕ). (ps ++ took answers) ++ ports_on new) took_is in
      let next : f.stamp.port ∷ (took answers ++ ports_on new) ≡ f.stamp.port ∷ (ports_on mid ++ rose answers) = ap (λ (ps : List ℕ). f.stamp.port ∷ ps) t.link in
      let mid_is : f.stamp.port ∷ (ports_on mid ++ rose answers) ≡ ports_on old ++ rose answers = ap (λ (fs : List Stamped). map (λ (g : Stamped). g.stamp.port) fs ++ rose answers) (sym up) in
      let last : ports_on old ++ rose answers ≡ ports_on old ++ rose (a ∷ answers) = ap (λ (ps : List ℕ). ports_on old ++ (ps ++ rose answers)) (sym none) in
      first ∙ next ∙ mid_is ∙ last;
}

run_turned : ReachedAreOrderly → (n : ℕ) (old : Places) → IsReached old → (steps : List Step) (answers : List Answer) (new : Places) (run : Run old steps answers new) → AtEach (HasOne n) old steps answers new run → Turned n old answers new
run_turned orderly n old r [] [] new run each = turned_none n old new run
run_turned orderly n old r (s ∷ steps) (a ∷ answers) new run each =
    turned_more n old a run.0 answers new each.0 (moved old s a run.0 (orderly old r) run.1)
    (run_turned orderly n run.0 (reached_after old s a run.0 r run.1) steps answers new run.2 each.1)
run_turned orderly n old r [] (a ∷ answers) new run each = absurd run
run_turned orderly n old r (s ∷ steps) [] new run each = absurd run

-- ---- what was taken

-- what two lists have in common in front
record Between (xs ys zs ws : List ℕ) : Type 0 where
  middle : List ℕ
  first : xs ≡ zs ++ middle
  last : middle ++ ys ≡ ws

between : (xs ys zs ws : List ℕ) → xs ++ ys ≡ zs ++ ws → length zs ≤ length xs → Between xs ys zs ws
between xs ys [] ws e most = record { middle = xs; first = refl; last = e }
between [] ys (z ∷ zs) ws e most = absurd (omega (arith, most))
between (x ∷ xs) ys (z ∷ zs) ws e most =
    let b : Between xs ys zs ws = between xs ys zs ws (cc) (omega (arith, most)) in
    let same : x ≡ z = cc in
    record { middle = b.middle; first = ap (λ (p : ℕ). p ∷ xs) same ∙ ap (λ ps. z ∷ ps) b.first; last = b.last }

module _ (w : WaitsFifteen) (n : ℕ) (low : n ≤ 15) (old : Places) (answers : List Answer) (new : Places) (served : old.multiplier.served ≤ 15) (t : Turned n old answers new) where
  all_rise : length (rose answers) ≤ 16 * times_of n (rose answers) + 15
  all_rise = served_each_sixteenth w n low old.multiplier.served t.turns (rose answers) served t.served t.stays

  are_taken : (ahead : ℕ) → length old.upward.frames + 16 * (ahead + 1) ≤ length (took answers) → times_of n (ports_on old) + (ahead + 1) ≤ times_of n (took answers)
  are_taken ahead enough =
      let long : length (ports_on old) ≡ length old.upward.frames = length-map old.upward.frames (λ (f : Stamped). f.stamp.port) in
      let b : Between (took answers) (ports_on new) (ports_on old) (rose answers) =
      between (took answers) (ports_on new) (ports_on old) (rose answers) t.link (omega (arith, long, enough)) in
      let whole : length (took answers) ≡ length (ports_on old) + length b.middle = ap length b.first ∙ length-append (ports_on old) b.middle in
      let turns : IsServedInTurn old.multiplier.served t.turns (b.middle ++ ports_on new) = subst (IsServedInTurn old.multiplier.served t.turns) (sym b.last) t.served in
      let most : length b.middle ≤ 16 * times_of n b.middle + 15 =
      front_each_sixteenth w n low old.multiplier.served t.turns b.middle (ports_on new) served turns t.stays in
      let times : times_of n (took answers) ≡ times_of n (ports_on old) + times_of n b.middle = ap (times_of n) b.first ∙ times_both n (ports_on old) b.middle in
      omega (arith, enough, long, whole, most, times)

pub each_takes_turns : WaitsFifteen → ReachedAreOrderly → EachTakesTurns
each_takes_turns w orderly old r steps answers new run n low each =
    let t : Turned n old answers new = run_turned orderly n old r steps answers new run each in
    let well : IsWell r.mode old = well_reached old r in
    record { rises = all_rise w n low old answers new well.served t; taken = are_taken w n low old answers new well.served t }
