-- For `disks_are_honest`. Each step of a world leaves a disk and the host that serves it together or apart, with what
-- is on its way between them.
use Rattle.std.proofs.Common.{◌≡◌, ◌≢◌, ◌==◌, ℕ, ◌<◌, Bool, true, false, List, [], ◌∷◌, ◌++◌, drop, length, map, refl, sym, ap, subst, ◌∙◌, inl, inr}
use Rattle.std.proofs.{Common.{Some, None, Ok, arith}, lemmas.{Bool.{eq-eqb, eqb-true, true≢false}, List.append-nil}}
use Rattle.std.specs.{Prelude.{◌⊎◌, MatchBool, if◌then◌else◌}, List.flat_map}
use Rattle.fis_view.specs.Frames.{Stamped, marked}
use Rattle.host_memory.specs.Memory.{is_memory_size}
use Rattle.hba_fbs.specs.{declared.report.TakeReport.TakeReport, Taking.port_of}
use Rattle.multiplier.specs.State.{pm_port}
use Rattle.disk_model.specs.{declared.plan.DiskPlan.DiskPlan, Histories.{Happening, Received, Sent}, Ledger.IsSize, Runs.IsDiskRun}
use Rattle.hba_laws.specs.{Client.Touches, Delivering.touches_after}
use Rattle.hba_driver.specs.{Events.{events_over, shared_by}, HostTurns.{DoesAll, Host, HostTurn, Polled, Pushed, Put, Submitted, Ticked, Took}}
use Rattle.hba_driver.specs.{HostTurns.Tooks, Steady.IsFlushTick}
use Rattle.hba_driver.proofs.Door.{goes_on, turn_addressed}
use Rattle.disk_recovery.specs.{Ends.{IsBesideTurn, IsRunning}, Flushes.{AreEndsSince, EndsSinceAfter, Floor}}
use Rattle.disk_recovery.proofs.Door.{ends_since_go_on}
use Rattle.pm_world.specs.{Places.{Places, Queue}, Rules.Rule, HostTouches.{AreTouched, goes}, Turns.{IsOfItsPort, turn_of}, PathEnds.IsAtHost}
use Rattle.pm_world.specs.{PathEnds.for_port, declared.step.{Step.Step, Answer.Answer}}
use Rattle.pm_world.specs.declared.step.Answer.TheVariants as answer
use Rattle.pm_world.proofs.{serving.{GivenLemmas.{HasGiven, host_gives}, HostLemmas.{idle_turn, pushed_turn, put_turn}}, turns.HostFold.rule_does}
use Rattle.pm_world.proofs.{serving.{HostLemmas.{submitted_turn, none_told}, TookLemmas.{host_takes, plain_frame}}, control_port.LineLemmas.IsNow}
use Rattle.pm_world.proofs.{serving.TouchedLemmas.touched_served, paths.PathLemmas.drop_front, honest.ExactLemmas.{Comes, ExactMoves, Gives, IsExact}}
use Rattle.pm_world.proofs.honest.ExactLemmas.{Sends, Still, Takes}
pub use Rattle.pm_world.proofs.serving.HostLemmas.{IsNoTurn}

-- ## What is kept

-- The host came here over these turns. It and the disk at port n, which did all of this, are together or apart, with these lists on their way.
pub record HasEnds (n len : ℕ) (floors : ℕ → Floor) (turns : List HostTurn) (h : Host) (disk : List Happening) (down up : List (List ℕ)) : Type 0 where
  pub touches : Touches
  pub touched : AreTouched len turns h touches
  pub ends : AreEndsSince n h disk down up floors touches

-- and just these are on the path of the unit, which is there as connection c
pub record HasEndsOn (n c len : ℕ) (floors : ℕ → Floor) (turns : List HostTurn) (now : Places) (disk : List Happening) : Type 0 where
  pub down : List (List ℕ)
  pub up : List (List ℕ)
  pub exact : IsExact n c now down up
  pub both : HasEnds n len floors turns now.host disk down up

-- that holds where the host of a world is, by what touched it since its opening
pub running : (len : ℕ) → is_memory_size len ≡ true → (plan : DiskPlan) (sectors : ℕ) → IsSize plan sectors → (disk : List Happening)
    → IsDiskRun plan sectors disk → (turns : List HostTurn) (now : Places) → IsNow now → (touches : Touches) → AreTouched len turns now.host touches
    → IsRunning plan sectors disk touches now.host
running len right plan sectors size disk run turns now i touches touched = record {
  size = size;
  run = run;
  on = record {
    sound = i.going.way.sound;
    served = touched_served len turns now.host touches right touched;
    going = goes_on now.host i.going;
    unarmed = i.going.way.unarmed;
  };
  starts = λ opened. let up : now.host.driver.plan.restarted ≡ 2 = i.going.up in i.going.way.sound.registers.starts opened (omega (arith, up));
}

-- ## The turn of a step

-- the host is as it was then
pub same_host : (old new : Places) (s : Step) (a : Answer) → Rule old s (Ok a) new → IsNoTurn a → new.host ≡ old.host
same_host old new s a rule quiet = subst (λ (ts : List HostTurn). DoesAll old.host ts new.host) (none_told old new s a quiet) (rule_does old s a new rule)

-- ## A step in which no FIS of the device comes or goes at the host

-- it is not a turn of the host, or it is a turn beside the device
abbrev IsAside : ℕ → Host → List HostTurn → Type 0
IsAside n old turns = (turns ≡ []) ⊎ ((t : HostTurn) × ((turns ≡ t ∷ []) × IsBesideTurn n old t))

-- a tick does not flush the device
abbrev pub IsUnflushed : ℕ → Places → Answer → Type 0
IsUnflushed n old answer.Ticked = IsFlushTick n old.host → ⊥
IsUnflushed n old a = Prim.Unit {0}

module _ (n : ℕ) (old : Places) (i : IsNow old) (s : Step) (new : Places) where
  -- a FIS of another device
  took_aside : (port conn number : ℕ) (bytes : List ℕ) (report : TakeReport) (b : Bool) (heard : List Happening) → heard ≡ [] → (port == n) ≡ b
      → MatchBool b ((plain : List ℕ) × (heard ≡ Sent plain ∷ []) × (bytes ≡ marked plain n)) (heard ≡ []) → port_of bytes ≡ port
      → IsAside n old.host (Took bytes report ∷ [])
  took_aside port conn number bytes report true heard none here is own = let wrong : [] ≡ Sent is.0 ∷ [] = sym none ∙ is.1 in absurd (cc)
  took_aside port conn number bytes report false heard none other is own =
      inr (Took bytes report, (refl, λ same. true≢false (sym (eq-eqb port n (sym own ∙ same)) ∙ other)))

  -- what the host gives, and that its stamp has its port
  record GivesOne : Type 0 where
    frame : Stamped
    turn : turn_of old s answer.Pushed new ≡ Pushed (Some frame) ∷ []
    heard : (heard : List Happening) → IsAtHost n old answer.Pushed new heard → heard ≡ map (λ bytes. Received bytes) (for_port n frame)
    addressed : pm_port frame ≡ frame.stamp.port

  gives_one : Rule old s (Ok answer.Pushed) new → GivesOne
  gives_one rule =
      let g : HasGiven old new = host_gives old new s rule in
      let link : new.downward.frames ≡ old.downward.frames ++ g.frame ∷ [] = ap (λ (q : Queue). q.frames) g.link in
      record {
        frame = g.frame;
        turn = pushed_turn old new s rule
            ∙ ap (λ (xs : List Stamped). map (λ frame. Pushed (Some frame)) (drop (length old.downward.frames) xs)) link
            ∙ ap (λ (xs : List Stamped). map (λ frame. Pushed (Some frame)) xs) (drop_front old.downward.frames (g.frame ∷ []));
        heard = λ heard is. is
            ∙ ap (λ (xs : List Stamped). map (λ bytes. Received bytes) (flat_map (for_port n) (drop (length old.downward.frames) xs))) link
            ∙ ap (λ (xs : List Stamped). map (λ bytes. Received bytes) (flat_map (for_port n) xs)) (drop_front old.downward.frames (g.frame ∷ []))
            ∙ ap (λ (xs : List (List ℕ)). map (λ bytes. Received bytes) xs) (append-nil (for_port n g.frame));
        addressed = turn_addressed old.host (Pushed (Some g.frame)) new.host g.pushes i.going.way.sound i.their;
      }

  none_here : (frame : Stamped) (b : Bool) → (pm_port frame == n) ≡ b → [] ≡ map (λ bytes. Received bytes) (if b then marked frame.bytes 0 ∷ [] else [])
      → pm_port frame ≢ n
  none_here frame true here is = cc is
  none_here frame false other is = λ same. true≢false (sym (eq-eqb (pm_port frame) n same) ∙ other)

  pub aside : (a : Answer) → Rule old s (Ok a) new → IsOfItsPort a → IsAtHost n old a new [] → IsUnflushed n old a → IsAside n old.host (turn_of old s a new)
  aside (answer.Took port conn number bytes report) rule its is unflushed = took_aside port conn number bytes report (port == n) [] refl refl is its.0
  aside answer.Pushed rule its is unflushed =
      let g : GivesOne = gives_one rule in
      inr (
        Pushed (Some g.frame),
        (g.turn, λ same. none_here g.frame (pm_port g.frame == n) refl (g.heard [] is) (g.addressed ∙ same)),
      )
  aside answer.Ticked rule its is unflushed = inr (Ticked true, (refl, unflushed))
  aside answer.Idle rule its is unflushed = elim (idle_turn old new s) [
    | inl none ↦ inl none
    | inr one ↦ inr (Pushed None, (one, tt))
  ]
  aside (answer.Submitted ticket) rule its is unflushed = elim (submitted_turn old new s ticket) [
    | inl none ↦ inl none
    | inr one ↦ inr (Submitted one.dev one.request ticket.0, (one.is, tt))
  ]
  aside (answer.Polled completion) rule its is unflushed = inr (Polled completion, (refl, tt))
  aside answer.Put rule its is unflushed = elim (put_turn old new s) [
    | inl none ↦ inl none
    | inr one ↦ inr (Put one.at one.bytes, (one.is, tt))
  ]
  aside a rule its is unflushed = inl (none_told old new s a tt)

  -- the FIS that the device's end hears is the frame, which is for the device
  record GivesTo (bytes : List ℕ) : Type 0 where
    frame : Stamped
    turn : turn_of old s answer.Pushed new ≡ Pushed (Some frame) ∷ []
    port : frame.stamp.port ≡ n
    marks : bytes ≡ marked frame.bytes 0

  one_here : (frame : Stamped) (bytes : List ℕ) (b : Bool) → (pm_port frame == n) ≡ b
      → Received bytes ∷ [] ≡ map (λ bytes. Received bytes) (if b then marked frame.bytes 0 ∷ [] else []) → (pm_port frame ≡ n) × (bytes ≡ marked frame.bytes 0)
  one_here frame bytes true here is = (eqb-true (pm_port frame) n here, cc is)
  one_here frame bytes false other is = cc is

  gives_to : (bytes : List ℕ) → Rule old s (Ok answer.Pushed) new → IsAtHost n old answer.Pushed new (Received bytes ∷ []) → GivesTo bytes
  gives_to bytes rule is =
      let g : GivesOne = gives_one rule in
      let both = one_here g.frame bytes (pm_port g.frame == n) refl (g.heard (Received bytes ∷ []) is) in
      record { frame = g.frame; turn = g.turn; port = sym g.addressed ∙ both.0; marks = both.1 }

-- ## A step

module _ (n len : ℕ) (below : n < 15) (right : is_memory_size len ≡ true) (plan : DiskPlan) (sectors : ℕ) (size : IsSize plan sectors)
    (floors : ℕ → Floor) where
  module _ (turns : List HostTurn) (old : Places) (i : IsNow old) (s : Step) (a : Answer) (new : Places) (rule : Rule old s (Ok a) new)
      (disk : List Happening) (down up : List (List ℕ)) (h : HasEnds n len floors turns old.host disk down up) where
    runs : (d : List Happening) → IsDiskRun plan sectors d → IsRunning plan sectors d h.touches old.host
    runs d run = running len right plan sectors size d run turns old i h.touches h.touched

    does : DoesAll old.host (turn_of old s a new) new.host
    does = rule_does old s a new rule

    -- a step that is this turn
    at_turn : (ts : List HostTurn) (t : HostTurn) (downs ups : List (List ℕ)) → ts ≡ t ∷ [] → DoesAll old.host ts new.host
        → ((run : DoesAll old.host (t ∷ []) new.host) → EndsSinceAfter n old.host t new.host run disk downs ups floors h.touches)
        → HasEnds n len floors (turns ++ ts) new.host disk downs ups
    at_turn ts t downs ups is all after =
        subst (λ (us : List HostTurn). HasEnds n len floors (turns ++ us) new.host disk downs ups) (sym is)
        (let run : DoesAll old.host (t ∷ []) new.host = subst (λ (us : List HostTurn). DoesAll old.host us new.host) is all in
        let e : EndsSinceAfter n old.host t new.host run disk downs ups floors h.touches = after run in
        record {
          touches = touches_after h.touches (shared_by old.host) (shared_by new.host) (events_over old.host new.host (t ∷ []) run) e.serves.runs;
          touched = goes turns t old.host new.host h.touches run e.serves h.touched;
          ends = e.ends;
        })

    -- and one that is none
    with_host : (ts : List HostTurn) (d : List Happening) (downs ups : List (List ℕ)) → ts ≡ [] → new.host ≡ old.host → AreEndsSince n old.host d downs ups floors h.touches
        → HasEnds n len floors (turns ++ ts) new.host d downs ups
    with_host ts d downs ups none same ends =
        subst (λ (us : List HostTurn). HasEnds n len floors (turns ++ us) new.host d downs ups) (sym none)
        (subst (λ (us : List HostTurn). HasEnds n len floors us new.host d downs ups) (sym (append-nil turns))
        (subst (λ (x : Host). HasEnds n len floors turns x d downs ups) (sym same) (record { touches = h.touches; touched = h.touched; ends = ends })))

    -- no FIS of the device comes or goes at either end
    pub stays_beside : IsDiskRun plan sectors disk → IsOfItsPort a → IsAtHost n old a new [] → IsUnflushed n old a
        → HasEnds n len floors (turns ++ turn_of old s a new) new.host disk down up
    stays_beside run its is unflushed = by_turn (aside n old i s new a rule its is unflushed)
      where
        by_turn : IsAside n old.host (turn_of old s a new) → HasEnds n len floors (turns ++ turn_of old s a new) new.host disk down up
        by_turn (inl none) =
            with_host (turn_of old s a new) disk down up none (subst (λ (ts : List HostTurn). DoesAll old.host ts new.host) none does) h.ends
        by_turn (inr one) =
            at_turn (turn_of old s a new) one.0 down up one.1.0 does
            (λ one_run. (ends_since_go_on n plan sectors).0.beside old.host one.0 new.host one_run disk down up floors h.touches below (runs disk run) one.1.1 h.ends)

    -- the host gives one to it
    pub gives_one_to : (bytes : List ℕ) → IsDiskRun plan sectors disk → a ≡ answer.Pushed → IsAtHost n old a new (Received bytes ∷ [])
        → HasEnds n len floors (turns ++ turn_of old s a new) new.host disk (down ++ bytes ∷ []) up
    gives_one_to bytes run told is =
        let its : Rule old s (Ok answer.Pushed) new = subst (λ (b : Answer). Rule old s (Ok b) new) told rule in
        let g : GivesTo n old i s new bytes = gives_to n old i s new bytes its (subst (λ (b : Answer). IsAtHost n old b new (Received bytes ∷ [])) told is) in
        subst (λ (b : List ℕ). HasEnds n len floors (turns ++ turn_of old s a new) new.host disk (down ++ b ∷ []) up) (sym g.marks)
        (at_turn (turn_of old s a new) (Pushed (Some g.frame)) (down ++ marked g.frame.bytes 0 ∷ []) up (ap (λ (b : Answer). turn_of old s b new) told ∙ g.turn) does
        (λ one_run. (ends_since_go_on n plan sectors).0.gives old.host g.frame new.host one_run disk down up floors h.touches below (runs disk run) g.port h.ends))

    -- it takes the first of what goes down
    comes_to : (back : List (List ℕ)) (bytes : List ℕ) → IsDiskRun plan sectors disk → a ≡ answer.DiskTook n false → down ≡ bytes ∷ back
        → HasEnds n len floors (turns ++ turn_of old s a new) new.host (disk ++ Received bytes ∷ []) back up
    comes_to back bytes run told is =
        let quiet : IsNoTurn a = subst IsNoTurn (sym told) tt in
        with_host (turn_of old s a new) (disk ++ Received bytes ∷ []) back up (none_told old new s a quiet) (same_host old new s a rule quiet)
        ((ends_since_go_on n plan sectors).1.comes old.host disk back up bytes floors h.touches below (runs disk run)
        (subst (λ (xs : List (List ℕ)). AreEndsSince n old.host disk xs up floors h.touches) is h.ends))

    -- it sends one
    sends_one : (c number : ℕ) (bytes : List ℕ) → IsDiskRun plan sectors (disk ++ Sent bytes ∷ []) → a ≡ answer.Sent n c number bytes
        → HasEnds n len floors (turns ++ turn_of old s a new) new.host (disk ++ Sent bytes ∷ []) down (up ++ bytes ∷ [])
    sends_one c number bytes run told =
        let quiet : IsNoTurn a = subst IsNoTurn (sym told) tt in
        with_host (turn_of old s a new) (disk ++ Sent bytes ∷ []) down (up ++ bytes ∷ []) (none_told old new s a quiet) (same_host old new s a rule quiet)
        ((ends_since_go_on n plan sectors).1.sends old.host disk down up bytes floors h.touches below (runs (disk ++ Sent bytes ∷ []) run) h.ends)

    -- the host takes its next one
    pub takes_one : (c number : ℕ) (bytes : List ℕ) (later : List (List ℕ)) (report : TakeReport) → IsDiskRun plan sectors disk → IsOfItsPort a
        → a ≡ answer.Took n c number (marked bytes n) report → up ≡ bytes ∷ later → HasEnds n len floors (turns ++ turn_of old s a new) new.host disk down later
    takes_one c number bytes later report run its told is =
        let own_rule : Rule old s (Ok (answer.Took n c number (marked bytes n) report)) new = subst (λ (b : Answer). Rule old s (Ok b) new) told rule in
        let port : IsOfItsPort (answer.Took n c number (marked bytes n) report) = subst IsOfItsPort told its in
        let tooks : Tooks old.host (marked bytes n) report new.host = host_takes old new s n c number (marked bytes n) report own_rule in
        at_turn (turn_of old s a new) (Took (marked bytes n) report) down later (ap (λ (b : Answer). turn_of old s b new) told) does
        (λ one_run. (ends_since_go_on n plan sectors).0.takes old.host bytes report new.host one_run disk down later floors h.touches below (runs disk run)
        (plain_frame bytes n tooks.framed) port.0 (subst (λ (xs : List (List ℕ)). AreEndsSince n old.host disk down xs floors h.touches) is h.ends))

  -- ---- by what it is on the path

  module _ (c : ℕ) (turns : List HostTurn) (old : Places) (i : IsNow old) (s : Step) (a : Answer) (new : Places) (rule : Rule old s (Ok a) new)
      (its : IsOfItsPort a) (unflushed : IsUnflushed n old a) (disk happened : List Happening) (run : IsDiskRun plan sectors disk)
      (later_run : IsDiskRun plan sectors (disk ++ happened)) (down up : List (List ℕ)) (h : HasEnds n len floors turns old.host disk down up) where
    abbrev After : List Happening → Type 0
    After d = HasEndsOn n c len floors (turns ++ turn_of old s a new) new d

    with_ends : (d : List Happening) (downs ups : List (List ℕ)) → IsExact n c new downs ups
        → HasEnds n len floors (turns ++ turn_of old s a new) new.host d downs ups → After d
    with_ends d downs ups exact both = record { down = downs; up = ups; exact = exact; both = both }

    after_none : happened ≡ [] → After disk → After (disk ++ happened)
    after_none none on = subst After (sym (ap (λ (xs : List Happening). disk ++ xs) none ∙ append-nil disk)) on

    after_one : (x : Happening) → happened ≡ x ∷ [] → After (disk ++ x ∷ []) → After (disk ++ happened)
    after_one x one on = subst After (sym (ap (λ (xs : List Happening). disk ++ xs) one)) on

    pub ends_step : (heard : List Happening) → IsAtHost n old a new heard → ExactMoves n c a new happened heard down up → After (disk ++ happened)
    ends_step heard at (Still none quiet exact) =
        after_none none
        (with_ends disk down up exact
        (stays_beside turns old i s a new rule disk down up h run its (subst (IsAtHost n old a new) quiet at) unflushed))
    ends_step heard at (Gives bytes told none gave exact) =
        after_none none
        (with_ends disk (down ++ bytes ∷ []) up exact
        (gives_one_to turns old i s a new rule disk down up h bytes run told (subst (IsAtHost n old a new) gave at)))
    ends_step heard at (Comes back bytes told took quiet is exact) =
        after_one (Received bytes) took
        (with_ends (disk ++ Received bytes ∷ []) back up exact (comes_to turns old i s a new rule disk down up h back bytes run told is))
    ends_step heard at (Sends number bytes told sent quiet exact) =
        after_one (Sent bytes) sent
        (with_ends (disk ++ Sent bytes ∷ []) down (up ++ bytes ∷ []) exact
        (sends_one turns old i s a new rule disk down up h c number bytes
        (subst (λ (xs : List Happening). IsDiskRun plan sectors (disk ++ xs)) sent later_run) told))
    ends_step heard at (Takes number bytes later report told none took is exact) =
        after_none none
        (with_ends disk down later exact (takes_one turns old i s a new rule disk down up h c number bytes later report run its told is))
