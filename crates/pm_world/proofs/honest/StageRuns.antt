-- For `disks_are_honest`. A disk and the host of a world, from the step that plugs the disk in, through its unplugging, up
-- to the last FIS of that connection.
use Rattle.std.proofs.Common.{◌≡◌, ℕ, ◌<◌, ◌≤◌, ◌==◌, true, false, List, [], ◌∷◌, ◌++◌, append_assoc, length, refl, sym, ap, subst, ◌∙◌, inl, inr, Ok}
use Rattle.std.proofs.{Common.{Some, arith}, lemmas.{Bool.{and_parts, cases_Bool, leb-true, or_parts, true≢false}, List.append-nil}}
use Rattle.std.specs.{List.list_any, Prelude.{nat_le, nat_lt}}
use Rattle.fis_view.specs.Frames.{marked}
use Rattle.host_memory.specs.Memory.{is_memory_size}
use Rattle.hba_fbs.specs.declared.report.TakeReport.{TakeReport}
use Rattle.disk_model.specs.{declared.plan.DiskPlan.DiskPlan, Histories.{Happening, Plugged}, Ledger.{IsSize, Written, ledger}, Runs.IsDiskRun}
use Rattle.disk_recovery.specs.Flushes.{AreFloorsOf, Floor, IsFloor, flushes_taken}
use Rattle.disk_recovery.proofs.Door.{floors_stay}
use Rattle.hba_driver.specs.HostTurns.{HostTurn}
use Rattle.multiplier.specs.State.{passes_to, port_at}
use Rattle.pm_registers.specs.RegisterMap as registers
use Rattle.pm_world.specs.{Attached.Attached, Cleared.is_cleared, PathEnds.{IsThere, injects, unplugs}, Places.{Places, is_config, new_world}}
use Rattle.pm_world.specs.{Rules.{Rule, Run}, Runs.over, Stale.{is_from, orders_clear}, Traffic.{is_removed, on_host_link, sent_by}, Turns.turn_of}
use Rattle.pm_world.specs.{Units.happens, declared.step.{Answer.Answer, Config.Config, Step.Step}}
use Rattle.pm_world.specs.declared.step.Answer.TheVariants as answer
use Rattle.pm_world.specs.declared.step.Step.TheVariants as step
use Rattle.pm_world.proofs.{cleared.Cleared.forwards_none, honest.{AnewLemmas.{IsAnew, cleared_anew, now_at, ordered_on}, ComingLemmas.ComesOn}}
use Rattle.pm_world.proofs.honest.ComingLemmas.{IsComing, IsNext, IsOver, IsUnheard, comes_next, comes_on, coming_open, coming_over, over_on}
use Rattle.pm_world.proofs.honest.ComingLemmas.{over_takes_none, passes_no_later, unflushed_by, unheard_comes, unheard_on, unheard_over}
use Rattle.pm_world.proofs.honest.EndsRuns.{IsServing, Orders, begins_serving, begun_ends, disk_front, ends_rise, its_port, serving_step}
use Rattle.pm_world.proofs.honest.{EndsSteps.HasEnds, FineLemmas.further, FlushLemmas.x_set, LiveLemmas.open_or_waits, PulledLemmas.{Goes, IsPulled}}
use Rattle.pm_world.proofs.honest.PulledLemmas.{Stuck, Unplugs, pulled_after, pulled_away, pulled_now, pulled_unsent, unplugs_or_not}
use Rattle.pm_world.proofs.{honest.{ShutLemmas.{WaitsFor, waits_after}, WaitingLemmas.{IsWaiting, all_sent, waits_on}}, meant.OrderTurns.order_step}
use Rattle.pm_world.proofs.{paths.KeptLemmas.unremoved, ports.{EachLemmas.none_of, FirmLemmas.{IsFirm, firm_at}, KeepingLemmas.{is_there, keeps_one}}}
use Rattle.pm_world.proofs.{ports.KeepingLemmas.passes_open, reported.ReportedLemmas.IsFreeSlot}

module _ (config : Config) (units : List Attached) (fits : is_config config (length units) ≡ true) (n : ℕ) (below : n < 15) (plan : DiskPlan)
    (sectors : ℕ) (size : IsSize plan sectors) (earlier : List Happening) (first : IsDiskRun plan sectors (earlier ++ Plugged ∷ [])) (within : n < length units)
    (right : is_memory_size config.memory ≡ true) (c : ℕ) where
  abbrev Orders_at : List HostTurn → Places → Type 0
  Orders_at turns now = Orders config units fits n below plan sectors size earlier first within right c turns now

  -- ## Where they are

  -- the unit was unplugged before anything of it passed its port
  pub record HasLeft (floors : ℕ → Floor) (now : Places) (happened : List Happening) : Type 0 where
    gone : List Happening
    run : IsDiskRun plan sectors gone
    are : AreFloorsOf floors gone
    rising : List (List ℕ)
    is : gone ≡ earlier ++ (Plugged ∷ all_sent rising)
    pulled : IsPulled n c now gone (earlier ++ happened)
    unheard : IsUnheard n c now rising

  -- it was unplugged, and what it sent before still comes
  pub record IsLeaving (floors : ℕ → Floor) (now : Places) (happened : List Happening) (turns : List HostTurn) : Type 0 where
    gone : List Happening
    run : IsDiskRun plan sectors gone
    pulled : IsPulled n c now gone (earlier ++ happened)
    comes : ComesOn n c config.memory floors turns now gone

  pub data Stage (floors : ℕ → Floor) (now : Places) (happened : List Happening) (turns : List HostTurn) : Type 0 where
    -- the unit is there, and nothing of it passed its port yet
    Waiting : AreFloorsOf floors (earlier ++ happened) → IsWaiting n c now happened → WaitsFor n c now → Stage floors now happened turns
    -- it is there, and its port is open to it
    Serving : IsServing config units fits n below plan sectors size earlier first within right c floors now happened turns → Stage floors now happened turns
    Left : HasLeft floors now happened → Stage floors now happened turns
    Leaving : IsLeaving floors now happened turns → Stage floors now happened turns
    -- nothing of it comes any more
    Over : IsOver n c now → Stage floors now happened turns

  -- the unit is there, and its port passes FISes of it: the port is open to it
  pub serves_open : (floors : ℕ → Floor) (now : Places) (happened : List Happening) (turns : List HostTurn) → IsFirm n now → IsThere n c now
      → (port_at now.multiplier n).present ≡ Some c → registers.forwards now.multiplier.registers n ≡ true → Stage floors now happened turns
      → IsServing config units fits n below plan sectors size earlier first within right c floors now happened turns
  serves_open floors now happened turns firm there present opens (Serving s) = s
  serves_open floors now happened turns firm there present opens (Waiting are w waits) =
      absurd (true≢false (sym opens ∙ forwards_none n now.multiplier.registers (record { shows = firm.true_is.shows; told = waits present })))
  serves_open floors now happened turns firm there present opens (Left h) = absurd (pulled_away n c now h.gone (earlier ++ happened) h.pulled there)
  serves_open floors now happened turns firm there present opens (Leaving l) = absurd (pulled_away n c now l.gone (earlier ++ happened) l.pulled there)
  serves_open floors now happened turns firm there present opens (Over o) =
      let above : (port_at now.multiplier n).gone < c = ((firm.orderly.knows n).present c present).1 in
      let most : c ≤ (port_at now.multiplier n).gone =
      leb-true c (port_at now.multiplier n).gone (and_parts (nat_lt 0 c) (nat_le c (port_at now.multiplier n).gone) o.removed).1 in
      absurd (omega (arith, above, most))

  -- ## A step

  module _ (floors : ℕ → Floor) (before : List Step) (told : List Answer) (old : Places) (made : Run (new_world config units) before told old)
      (happened : List Happening) (turns : List HostTurn) (o : Orders_at turns old) (s : Step) (a : Answer) (new : Places) (rule : Rule old s (Ok a) new) where
    abbrev events : List Happening
    events = happens n old s a new

    abbrev After : Type 0
    After = Stage floors new (happened ++ events) (turns ++ turn_of old s a new)

    firm : IsFirm n old
    firm = firm_at config units fits n below before told old made

    -- the unit is not plugged in as this connection, and nothing of it passed its port
    left_on : (gone : List Happening) → IsDiskRun plan sectors gone → AreFloorsOf floors gone → (rising : List (List ℕ))
        → gone ≡ earlier ++ (Plugged ∷ all_sent rising) → IsUnheard n c old rising → sent_by n c a ≡ []
        → IsPulled n c new gone (earlier ++ (happened ++ events)) → After
    left_on gone run are rising is h unsent pulled = elim (cases_Bool (is_removed n c new)) [
      | inl removed ↦ Over (unheard_over n c below old s a new rule firm unsent rising h removed)
      | inr still ↦ by_cleared still
    ]
      where
        left : is_removed n c new ≡ false → WaitsFor n c new → After
        left still waits = Left (record {
          gone = gone;
          run = run;
          are = are;
          rising = rising;
          is = is;
          pulled = pulled;
          unheard = unheard_on n c below old s a new rule firm unsent rising h waits still;
        })

        sent_is : gone ≡ (earlier ++ Plugged ∷ []) ++ all_sent rising
        sent_is = is ∙ sym (append_assoc earlier (Plugged ∷ []) (all_sent rising))

        opened : is_removed n c new ≡ false → is_cleared n old a ≡ true → (port_at old.multiplier n).present ≡ Some c → After
        opened still cleared here = elim (open_or_waits (registers.port_at new.multiplier.registers n)) [
          | inl opens ↦
              let both = order_step n below o.unsent old o.knows s a new rule in
              let anew : IsAnew config units fits n below plan sectors size earlier first turns old =
              cleared_anew config units fits n below plan sectors size earlier first before told old made o.unsent o.knows turns o.touched s a new rule both.0
              o.ordered cleared in
              Leaving (record {
                gone = gone;
                run = run;
                pulled = pulled;
                comes = record {
                  down = [];
                  up = rising;
                  coming = unheard_comes n c below old s a new rule firm unsent rising h here anew.held.away opens still;
                  ends =
                      subst (λ (xs : List Happening). HasEnds n config.memory floors (turns ++ turn_of old s a new) new.host xs [] rising) (sym sent_is)
                      (begun_ends config units fits n below plan sectors size earlier first within right c floors before told old made turns o s a new rule
                      cleared rising (subst (IsDiskRun plan sectors) sent_is run) (subst (AreFloorsOf floors) sent_is are));
                };
              })
          | inr told_still ↦ left still (λ present. told_still)
        ]

        by_cleared : is_removed n c new ≡ false → After
        by_cleared still = elim (cases_Bool (is_cleared n old a)) [
          | inl cleared ↦ elim (is_there (port_at old.multiplier n).present c) [
            | inl here ↦ opened still cleared here
            | inr other ↦ left still (waits_after n c below old s a new rule firm.true_is (λ here. absurd (other here)) h.waits)
          ]
          | inr none ↦ left still (waits_after n c below old s a new rule firm.true_is (λ here. none) h.waits)
        ]

    -- it is not plugged in as this connection, and what it sent before comes
    leaving_on : (gone : List Happening) → IsDiskRun plan sectors gone → ComesOn n c config.memory floors turns old gone → sent_by n c a ≡ []
        → IsPulled n c new gone (earlier ++ (happened ++ events)) → After
    leaving_on gone run comes unsent pulled = elim (cases_Bool (orders_clear n old a)) [
      | inl flushed ↦
          let order = (order_step n below o.unsent old o.knows s a new rule).0 in
          Over (over_on n c below old s a new rule firm
          (coming_over n c old comes.up firm pulled.some comes.coming (none_of (is_from n) old.upward.frames (order.away flushed))
          (λ opens there. x_set _ (order.waits flushed opens there))))
      | inr idle ↦ elim (cases_Bool (is_cleared n old a)) [
        | inl cleared ↦
            let both = order_step n below o.unsent old o.knows s a new rule in
            let anew : IsAnew config units fits n below plan sectors size earlier first turns old =
            cleared_anew config units fits n below plan sectors size earlier first before told old made o.unsent o.knows turns o.touched s a new rule both.0
            o.ordered cleared in
            Over (over_on n c below old s a new rule firm (coming_over n c old comes.up firm pulled.some comes.coming anew.held.away anew.held.told))
        | inr uncleared ↦
            Leaving (record {
              gone = gone;
              run = run;
              pulled = pulled;
              comes =
                  comes_on n c below old s a new rule firm unsent comes.up comes.coming o.knows.writes uncleared config.memory right plan sectors size floors
                  turns (now_at config units fits before told old made)
                  (its_port config units fits n below plan sectors size earlier first within right c before told old made s a new rule)
                  (unflushed_by n old a idle) gone run comes.down comes.ends;
            })
      ]
    ]

    -- ---- it was unplugged before

    pulled_on : (gone : List Happening) → ((d : ℕ) → passes_to old.multiplier n ≡ Some d → d ≤ c) → IsPulled n c old gone (earlier ++ happened)
        → IsPulled n c new gone (earlier ++ (happened ++ events))
    pulled_on gone passes p =
        subst (IsPulled n c new gone) (append_assoc earlier happened events)
        (pulled_after n c below old s a new rule firm passes gone (earlier ++ happened) p)

    left_step : HasLeft floors old happened → After
    left_step h =
        left_on h.gone h.run h.are h.rising h.is h.unheard (pulled_unsent n c old s a new rule h.gone (earlier ++ happened) h.pulled)
        (pulled_on h.gone (passes_no_later n c old firm h.pulled.some h.unheard.still) h.pulled)

    leaving_step : IsLeaving floors old happened turns → After
    leaving_step h =
        leaving_on h.gone h.run h.comes (pulled_unsent n c old s a new rule h.gone (earlier ++ happened) h.pulled)
        (pulled_on h.gone only h.pulled)
      where
        only : (d : ℕ) → passes_to old.multiplier n ≡ Some d → d ≤ c
        only d passes =
            let opens = passes_open n old.multiplier d passes in
            let same : d ≡ c = keeps_one n c d old.multiplier firm.true_is h.comes.coming.keeps opens.0 opens.1 in
            omega (arith, same)

    -- ---- it is there

    -- the step unplugs it, or finds no room for that
    stuck : s ≡ step.Gone n → a ≡ answer.Blocked → new ≡ old → Stage floors old happened turns → After
    stuck of_step of_answer same st =
        subst (λ (ts : List HostTurn). Stage floors new (happened ++ events) ts) (sym (ap (λ (ts : List HostTurn). turns ++ ts) none ∙ append-nil turns))
        (subst (λ (xs : List Happening). Stage floors new xs turns) (sym (ap (λ (xs : List Happening). happened ++ xs) quiet ∙ append-nil happened))
        (subst (λ (w : Places). Stage floors w happened turns) (sym same) st))
      where
        quiet : events ≡ []
        quiet = ap (λ (t : Step). happens n old t a new) of_step ∙ ap (λ (b : Answer). happens n old (step.Gone n) b new) of_answer

        none : turn_of old s a new ≡ []
        none = ap (λ (t : Step). turn_of old t a new) of_step ∙ ap (λ (b : Answer). turn_of old (step.Gone n) b new) of_answer

    goes_now : (conn : ℕ) → s ≡ step.Gone n → a ≡ answer.Gone n conn → IsPulled n c new (earlier ++ happened) (earlier ++ happened)
        → IsPulled n c new (earlier ++ happened) (earlier ++ (happened ++ events))
    goes_now conn of_step of_answer p =
        subst (λ (xs : List Happening). IsPulled n c new (earlier ++ happened) (earlier ++ xs))
        (sym (ap (λ (xs : List Happening). happened ++ xs) quiet ∙ append-nil happened)) p
      where
        quiet : events ≡ []
        quiet = ap (λ (t : Step). happens n old t a new) of_step ∙ ap (λ (b : Answer). happens n old (step.Gone n) b new) of_answer

    module _ (clean : injects n s ≡ false) (run : IsDiskRun plan sectors (earlier ++ (happened ++ events))) where
      so_far : IsDiskRun plan sectors (earlier ++ happened)
      so_far = disk_front plan sectors (earlier ++ happened) events (subst (IsDiskRun plan sectors) (sym (append_assoc earlier happened events)) run)

      module _ (are : AreFloorsOf floors (earlier ++ happened)) (h : IsWaiting n c old happened) (waits : WaitsFor n c old) where
        are_now : AreFloorsOf floors (earlier ++ (happened ++ events))
        are_now = subst (AreFloorsOf floors) (append_assoc earlier happened events) (floors_stay floors (earlier ++ happened) events are)

        waits_still : unplugs n s ≡ false → WaitsFor n c new → After
        waits_still stays next = Waiting are_now (waits_on n c below old s a new rule happened h clean stays waits) next

        waiting_step : unplugs n s ≡ false → After
        waiting_step stays = elim (cases_Bool (is_cleared n old a)) [
          | inl cleared ↦ elim (is_there (port_at old.multiplier n).present c) [
            | inl here ↦ elim (open_or_waits (registers.port_at new.multiplier.registers n)) [
              | inl opens ↦
                  Serving (begins_serving config units fits n below plan sectors size earlier first within right c floors before told old made happened turns o
                  h waits s a new rule clean stays run cleared here opens are_now)
              | inr told_still ↦ waits_still stays (λ present. told_still)
            ]
            | inr other ↦ waits_still stays (waits_after n c below old s a new rule h.off.true_is (λ here. absurd (other here)) waits)
          ]
          | inr none ↦ waits_still stays (waits_after n c below old s a new rule h.off.true_is (λ here. none) waits)
        ]

        waiting_goes : Unplugs n old s a new → After
        waiting_goes (Stuck of_step of_answer same) = stuck of_step of_answer same (Waiting are h waits)
        waiting_goes (Goes conn of_step of_answer gone_rule) =
            let some : 0 < c = let low = h.off.kept.recorded in omega (arith, low) in
            left_on (earlier ++ happened) so_far are h.rising (ap (λ (xs : List Happening). earlier ++ xs) h.is)
            (record { up = h.off.up; above = h.off.above; still = unremoved n c old h.off.kept; waits = waits })
            (ap (sent_by n c) of_answer)
            (goes_now conn of_step of_answer (pulled_now n c conn some old new firm h.off.there gone_rule (earlier ++ happened)))

      module _ (h : IsServing config units fits n below plan sectors size earlier first within right c floors old happened turns) where
        serving_goes : Unplugs n old s a new → After
        serving_goes (Stuck of_step of_answer same) = stuck of_step of_answer same (Serving h)
        serving_goes (Goes conn of_step of_answer gone_rule) =
            let some : 0 < c = let low = h.opens.live.kept.recorded in omega (arith, low) in
            leaving_on (earlier ++ happened) so_far
            (record {
              down = h.ends.down;
              up = h.ends.up;
              coming = coming_open n c h.unsent old h.ends.down h.ends.up h.opens h.ends.exact;
              ends = h.ends.both;
            })
            (ap (sent_by n c) of_answer)
            (goes_now conn of_step of_answer (pulled_now n c conn some old new firm h.opens.there gone_rule (earlier ++ happened)))

      pub stage_step : Stage floors old happened turns → After
      stage_step (Waiting are h waits) = elim (cases_Bool (unplugs n s)) [
        | inl pulls ↦ waiting_goes are h waits (unplugs_or_not n old s a new pulls rule)
        | inr stays ↦ waiting_step are h waits stays
      ]
      stage_step (Serving h) = elim (cases_Bool (unplugs n s)) [
        | inl pulls ↦ serving_goes h (unplugs_or_not n old s a new pulls rule)
        | inr stays ↦
            Serving (serving_step config units fits n below plan sectors size earlier first within right c floors before told old made happened turns h s a new
            rule clean stays run)
      ]
      stage_step (Left h) = left_step h
      stage_step (Leaving h) = leaving_step h
      stage_step (Over h) = Over (over_on n c below old s a new rule firm h)

  -- ## A run

  pub stage_run : (floors : ℕ → Floor) (before : List Step) (told : List Answer) (old : Places) → Run (new_world config units) before told old
      → (happened : List Happening) (turns : List HostTurn) → Orders_at turns old → Stage floors old happened turns → (steps : List Step)
      (answers : List Answer) (new : Places) (run : Run old steps answers new) → list_any (injects n) steps ≡ false
      → IsDiskRun plan sectors (earlier ++ (happened ++ over (happens n) old steps answers new run))
      → Stage floors new (happened ++ over (happens n) old steps answers new run) (turns ++ over turn_of old steps answers new run)
  stage_run floors before told old made happened turns o st [] [] new run clean disk =
      subst (λ (w : Places). Stage floors w (happened ++ []) (turns ++ [])) (sym run)
      (subst (λ (xs : List Happening). Stage floors old xs (turns ++ [])) (sym (append-nil happened))
      (subst (λ (ts : List HostTurn). Stage floors old happened ts) (sym (append-nil turns)) st))
  stage_run floors before told old made happened turns o st [] (a ∷ answers) new run clean disk = absurd run
  stage_run floors before told old made happened turns o st (s ∷ steps) [] new run clean disk = absurd run
  stage_run floors before told old made happened turns o st (s ∷ steps) (a ∷ answers) new run clean disk =
      let i = or_parts (injects n s) (list_any (injects n) steps) clean in
      let rest : List Happening = over (happens n) run.0 steps answers new run.2 in
      let whole : (happened ++ happens n old s a run.0) ++ rest ≡ happened ++ (happens n old s a run.0 ++ rest) =
      append_assoc happened (happens n old s a run.0) rest in
      let later : IsDiskRun plan sectors (earlier ++ ((happened ++ happens n old s a run.0) ++ rest)) =
      subst (λ (xs : List Happening). IsDiskRun plan sectors (earlier ++ xs)) (sym whole) disk in
      let one : IsDiskRun plan sectors (earlier ++ (happened ++ happens n old s a run.0)) =
      disk_front plan sectors (earlier ++ (happened ++ happens n old s a run.0)) rest
      (subst (IsDiskRun plan sectors) (sym (append_assoc earlier (happened ++ happens n old s a run.0) rest)) later) in
      subst (λ (xs : List Happening). Stage floors new xs (turns ++ (turn_of old s a run.0 ++ over turn_of run.0 steps answers new run.2))) whole
      (subst (λ (ts : List HostTurn). Stage floors new ((happened ++ happens n old s a run.0) ++ rest) ts)
      (append_assoc turns (turn_of old s a run.0) (over turn_of run.0 steps answers new run.2))
      (stage_run floors (before ++ s ∷ []) (told ++ a ∷ []) run.0 (further config units fits n below before told old made s a run.0 run.1)
      (happened ++ happens n old s a run.0) (turns ++ turn_of old s a run.0)
      (ordered_on config units fits n below plan sectors size earlier first before told old made turns o s a run.0 run.1)
      (stage_step floors before told old made happened turns o s a run.0 run.1 i.0 one st) steps answers new run.2 i.1 later))

  -- a request comes to a slot that is free
  pub stage_rises : (floors next : ℕ → Floor) (before : List Step) (told : List Answer) (old : Places) → Run (new_world config units) before told old
      → (happened : List Happening) (turns : List HostTurn) → IsDiskRun plan sectors (earlier ++ happened) → (slot : ℕ) → slot < 30
      → IsFreeSlot slot old.host → ((s : ℕ) → (slot == s) ≡ false → next s ≡ floors s) → AreFloorsOf next (earlier ++ happened)
      → Stage floors old happened turns → Stage next old happened turns
  stage_rises floors next before told old made happened turns run slot low free others reached (Waiting are h waits) = Waiting reached h waits
  stage_rises floors next before told old made happened turns run slot low free others reached (Serving h) = Serving (record {
    unsent = h.unsent;
    opens = h.opens;
    ends = record {
      down = h.ends.down;
      up = h.ends.up;
      exact = h.ends.exact;
      both =
          ends_rise config units fits n below plan sectors size earlier first within right c floors next before told old made (earlier ++ happened) turns run
          slot low free others (reached slot) h.ends.down h.ends.up h.ends.both;
    };
  })
  stage_rises floors next before told old made happened turns run slot low free others reached (Left h) = Left (record {
    gone = h.gone;
    run = h.run;
    are = λ s. reached_before h.gone (earlier ++ happened) old (next s) h.pulled (reached s);
    rising = h.rising;
    is = h.is;
    pulled = h.pulled;
    unheard = h.unheard;
  })
    where
      reached_before : (gone whole : List Happening) (now : Places) (floor : Floor) → IsPulled n c now gone whole → IsFloor floor whole → IsFloor floor gone
      reached_before gone whole now floor p is = record {
        ended = subst (λ (ws : List Written). floor.writes ≤ length ws) p.writes is.ended;
        taken = subst (λ (k : ℕ). floor.flushes ≤ k) p.flushes is.taken;
      }
  stage_rises floors next before told old made happened turns run slot low free others reached (Leaving h) = Leaving (record {
    gone = h.gone;
    run = h.run;
    pulled = h.pulled;
    comes = record {
      down = h.comes.down;
      up = h.comes.up;
      coming = h.comes.coming;
      ends =
          ends_rise config units fits n below plan sectors size earlier first within right c floors next before told old made h.gone turns h.run slot low free
          others (record {
            ended = subst (λ (ws : List Written). (next slot).writes ≤ length ws) h.pulled.writes (reached slot).ended;
            taken = subst (λ (k : ℕ). (next slot).flushes ≤ k) h.pulled.flushes (reached slot).taken;
          }) h.comes.down h.comes.up h.comes.ends;
    };
  })
  stage_rises floors next before told old made happened turns run slot low free others reached (Over h) = Over h

  -- ## A FIS of the connection

  -- The host takes the next FIS of the unit. The unit had done all of this list when it was unplugged, or by now; no read or
  -- write ended since, and no FLUSH was taken.
  pub record Hears (floors : ℕ → Floor) (now : Places) (happened : List Happening) (turns : List HostTurn) (bytes : List ℕ) : Type 0 where
    pub gone : List Happening
    pub run : IsDiskRun plan sectors gone
    pub writes : (ledger (earlier ++ happened)).writes ≡ (ledger gone).writes
    pub reads : (ledger (earlier ++ happened)).reads ≡ (ledger gone).reads
    pub flushes : flushes_taken (earlier ++ happened) ≡ flushes_taken gone
    pub down : List (List ℕ)
    pub plain : List ℕ
    pub later : List (List ℕ)
    pub marks : bytes ≡ marked plain n
    pub ends : HasEnds n config.memory floors turns now.host gone down (plain ∷ later)

  module _ (floors : ℕ → Floor) (before : List Step) (told : List Answer) (old : Places) (made : Run (new_world config units) before told old)
      (happened : List Happening) (turns : List HostTurn) (run : IsDiskRun plan sectors (earlier ++ happened)) (s : Step) (port conn number : ℕ)
      (bytes : List ℕ) (report : TakeReport) (new : Places) (rule : Rule old s (Ok (answer.Took port conn number bytes report)) new)
      (here : (port == n) ≡ true) (same : conn ≡ c) where
    its_firm : IsFirm n old
    its_firm = firm_at config units fits n below before told old made

    next_in : (up : List (List ℕ)) → IsComing n c old up → IsNext n bytes (on_host_link n c new) up
    next_in up h =
        (comes_next n c below old s (answer.Took port conn number bytes report) new rule its_firm refl up h port conn number bytes report refl here).1

    pub hears : Stage floors old happened turns → Hears floors old happened turns bytes
    hears (Waiting are h waits) = absurd (over_takes_none n c old s port conn number bytes report new its_firm rule h.off.up here same)
    hears (Serving h) =
        let x : IsNext n bytes (on_host_link n c new) h.ends.up =
        next_in h.ends.up (coming_open n c h.unsent old h.ends.down h.ends.up h.opens h.ends.exact) in
        record {
          gone = earlier ++ happened;
          run = run;
          writes = refl;
          reads = refl;
          flushes = refl;
          down = h.ends.down;
          plain = x.plain;
          later = x.later;
          marks = x.marks;
          ends =
              subst (λ (up : List (List ℕ)). HasEnds n config.memory floors turns old.host (earlier ++ happened) h.ends.down up) x.is h.ends.both;
        }
    hears (Left h) = absurd (over_takes_none n c old s port conn number bytes report new its_firm rule h.unheard.up here same)
    hears (Leaving h) =
        let x : IsNext n bytes (on_host_link n c new) h.comes.up = next_in h.comes.up h.comes.coming in
        record {
          gone = h.gone;
          run = h.run;
          writes = h.pulled.writes;
          reads = h.pulled.reads;
          flushes = h.pulled.flushes;
          down = h.comes.down;
          plain = x.plain;
          later = x.later;
          marks = x.marks;
          ends = subst (λ (up : List (List ℕ)). HasEnds n config.memory floors turns old.host h.gone h.comes.down up) x.is h.comes.ends;
        }
    hears (Over h) = absurd (over_takes_none n c old s port conn number bytes report new its_firm rule h.up here same)
