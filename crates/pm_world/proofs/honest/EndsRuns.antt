-- For `disks_are_honest`. A disk and the host of a world are ends that go on, from the step that clears the port for the
-- disk, as long as the disk is not unplugged.
use Rattle.std.proofs.Common.{◌≡◌, ℕ, ◌<◌, Bool, true, false, List, [], ◌∷◌, ◌++◌, append_assoc, length, refl, sym, ap, subst, ◌∙◌, inl, inr, ◌==◌}
use Rattle.std.proofs.{Common.{None, Option, Some, Ok}, lemmas.{Bool.{eqb-true, false≢true}, List.append-nil}}
use Rattle.std.specs.Prelude.{◌⊎◌}
use Rattle.host_memory.specs.Memory.{is_memory_size}
use Rattle.disk_model.specs.{declared.plan.DiskPlan.DiskPlan, Histories.{Happening, Plugged, Sent}, Ledger.IsSize, Runs.IsDiskRun}
use Rattle.disk_simulation.proofs.Door.{run_to}
use Rattle.disk_recovery.specs.Flushes.{AreEndsSince, AreFloorsOf, Floor, IsFloor, bare_floors}
use Rattle.disk_recovery.proofs.Door.{ends_since_go_on, floors_rise_since, none_in_slot, none_issued}
use Rattle.hba_driver.specs.{HostTurns.{Host, HostTurn}, Steady.{IsAskedOf, IsSteady}, Drivers.{Entry, entry_at}}
use Rattle.multiplier.specs.State.{port_at}
use Rattle.pm_world.specs.{Attached.Attached, Cleared.is_cleared, Places.{Places, is_config, new_world}, Rules.{Rule, Run}, Stale.unsent_after}
use Rattle.pm_world.specs.{Turns.{IsOfItsPort, turn_of}, Units.happens, PathEnds.{injects, unplugs}, declared.step.{Answer.Answer, Config.Config}}
use Rattle.pm_world.specs.declared.step.Step.{Step}
use Rattle.pm_world.specs.declared.step.Answer.TheVariants as answer
use Rattle.pm_world.proofs.{honest.{CutLemmas.IsCut, FineLemmas.further}, ports.FirmLemmas.{IsFirm, firm_at}, serving.FirstLemmas.comes_risen}
use Rattle.pm_world.proofs.{honest.{FlushLemmas.cut_there, LiveLemmas.{IsLive, IsOpenAt, StaysPresent, stays_present}}, control_port.LineLemmas.IsNow}
use Rattle.pm_world.proofs.{meant.OrderTurns.order_step, upward.PortMarks.{opening_marks, run_marks}, honest.{ShutLemmas.WaitsFor, AnewLemmas.IsAnew}}
use Rattle.pm_world.proofs.honest.{AnewLemmas.{OrderedNow, cleared_anew, ends_now, now_at, ordered_on}, EndsSteps.{HasEnds, HasEndsOn, IsNoTurn}}
use Rattle.pm_world.proofs.honest.{EndsSteps.{IsUnflushed, ends_step, running, same_host}, ExactLemmas.{GoesExact, IsOpenFor, cleared_exact, open_at}}
use Rattle.pm_world.proofs.honest.{ExactLemmas.open_step, FlushedLemmas.unflushed, WaitingLemmas.{IsWaiting, all_sent, waits_on}}
use Rattle.pm_world.proofs.{serving.{HostLemmas.HostOn, TouchedLemmas.touched_served}, reported.ReportedLemmas.IsFreeSlot}
use Rattle.disk_model.proofs.Door.{begins_anew}
use Rattle.hba_laws.specs.{Client.own, History.{Transfer, issued}}

-- a run of a disk, up to a moment
pub disk_front : (plan : DiskPlan) (sectors : ℕ) (xs ys : List Happening) → IsDiskRun plan sectors (xs ++ ys) → IsDiskRun plan sectors xs
disk_front plan sectors xs ys run = run_to plan sectors (xs ++ ys) xs ys refl run

-- ## What waits at a port

module _ (n len : ℕ) (below : n < 15) (right : is_memory_size len ≡ true) (plan : DiskPlan) (sectors : ℕ) (size : IsSize plan sectors)
    (floors : ℕ → Floor) (turns : List HostTurn) (now : Places) (i : IsNow now) (base : List Happening) where
  abbrev Has : List (List ℕ) → Type 0
  Has sent = HasEnds n len floors turns now.host (base ++ all_sent sent) [] sent

  all_more : (done : List (List ℕ)) (bytes : List ℕ) → base ++ all_sent (done ++ bytes ∷ []) ≡ (base ++ all_sent done) ++ Sent bytes ∷ []
  all_more [] bytes = append_two base (Sent bytes)
    where
      append_two : (xs : List Happening) (x : Happening) → xs ++ x ∷ [] ≡ (xs ++ []) ++ x ∷ []
      append_two xs x = ap (λ (ys : List Happening). ys ++ x ∷ []) (sym (append-nil xs))
  all_more (first ∷ done) bytes =
      ap (λ (xs : List Happening). base ++ Sent first ∷ xs) (sent_last done bytes) ∙ sym (append_assoc base (Sent first ∷ all_sent done) (Sent bytes ∷ []))
    where
      sent_last : (xs : List (List ℕ)) (x : List ℕ) → all_sent (xs ++ x ∷ []) ≡ all_sent xs ++ Sent x ∷ []
      sent_last [] x = refl
      sent_last (y ∷ xs) x = ap (λ (ys : List Happening). Sent y ∷ ys) (sent_last xs x)

  all_then : (done : List (List ℕ)) (bytes : List ℕ) (rest : List (List ℕ))
      → base ++ all_sent ((done ++ bytes ∷ []) ++ rest) ≡ ((base ++ all_sent done) ++ Sent bytes ∷ []) ++ all_sent rest
  all_then done bytes rest =
      ap (λ (xs : List Happening). base ++ xs) (both (done ++ bytes ∷ []) rest) ∙ sym (append_assoc base (all_sent (done ++ bytes ∷ [])) (all_sent rest))
      ∙ ap (λ (xs : List Happening). xs ++ all_sent rest) (all_more done bytes)
    where
      both : (xs ys : List (List ℕ)) → all_sent (xs ++ ys) ≡ all_sent xs ++ all_sent ys
      both [] ys = refl
      both (x ∷ xs) ys = ap (λ (zs : List Happening). Sent x ∷ zs) (both xs ys)

  -- each of them was sent by the disk
  pub sends_all : (done rest : List (List ℕ)) → IsDiskRun plan sectors (base ++ all_sent (done ++ rest)) → Has done → Has (done ++ rest)
  sends_all done [] run h = subst Has (sym (append-nil done)) h
  sends_all done (bytes ∷ rest) run h =
      let whole : done ++ bytes ∷ rest ≡ (done ++ bytes ∷ []) ++ rest = sym (append_assoc done (bytes ∷ []) rest) in
      let all : IsDiskRun plan sectors (base ++ all_sent ((done ++ bytes ∷ []) ++ rest)) =
      subst (λ (xs : List (List ℕ)). IsDiskRun plan sectors (base ++ all_sent xs)) whole run in
      let one : IsDiskRun plan sectors ((base ++ all_sent done) ++ Sent bytes ∷ []) =
      disk_front plan sectors ((base ++ all_sent done) ++ Sent bytes ∷ []) (all_sent rest)
      (subst (IsDiskRun plan sectors) (all_then done bytes rest) all) in
      let next : Has (done ++ bytes ∷ []) =
      record {
        touches = h.touches;
        touched = h.touched;
        ends =
            subst (λ (xs : List Happening). AreEndsSince n now.host xs [] (done ++ bytes ∷ []) floors h.touches) (sym (all_more done bytes))
            ((ends_since_go_on n plan sectors).1.sends now.host (base ++ all_sent done) [] done bytes floors h.touches below
            (running len right plan sectors size ((base ++ all_sent done) ++ Sent bytes ∷ []) one turns now i h.touches h.touched) h.ends);
      } in
      subst Has (sym whole) (sends_all (done ++ bytes ∷ []) rest all next)

-- ## A run

module _ (config : Config) (units : List Attached) (fits : is_config config (length units) ≡ true) (n : ℕ) (below : n < 15) (plan : DiskPlan)
    (sectors : ℕ) (size : IsSize plan sectors) (earlier : List Happening) (first : IsDiskRun plan sectors (earlier ++ Plugged ∷ [])) (within : n < length units)
    (right : is_memory_size config.memory ≡ true) (c : ℕ) where
  pub its_port : (before : List Step) (told : List Answer) (old : Places) → Run (new_world config units) before told old → (s : Step) (a : Answer) (new : Places)
      → Rule old s (Ok a) new → IsOfItsPort a
  its_port before told old made s a new rule =
      (comes_risen old s a new (run_marks (new_world config units) before told old (opening_marks config units) made).1 rule).own_port

  -- The port is open to the unit, and it and the host are ends.
  pub record IsServing (floors : ℕ → Floor) (now : Places) (happened : List Happening) (turns : List HostTurn) : Type 0 where
    pub unsent : Bool
    pub opens : IsOpenFor n c unsent now
    pub ends : HasEndsOn n c config.memory floors turns now (earlier ++ happened)

  pub serving_step : (floors : ℕ → Floor) (before : List Step) (told : List Answer) (old : Places) → Run (new_world config units) before told old → (happened : List Happening)
      (turns : List HostTurn) → IsServing floors old happened turns → (s : Step) (a : Answer) (new : Places) → Rule old s (Ok a) new → injects n s ≡ false
      → unplugs n s ≡ false → IsDiskRun plan sectors (earlier ++ (happened ++ happens n old s a new))
      → IsServing floors new (happened ++ happens n old s a new) (turns ++ turn_of old s a new)
  serving_step floors before told old made happened turns h s a new rule clean stays run =
      let o : IsOpenFor n c (unsent_after n h.unsent old s a new) new × GoesExact n c old a new (happens n old s a new) h.ends.down h.ends.up =
      open_step n c below h.unsent old new s a h.ends.down h.ends.up rule stays clean h.opens h.ends.exact in
      let whole : earlier ++ (happened ++ happens n old s a new) ≡ (earlier ++ happened) ++ happens n old s a new =
      sym (append_assoc earlier happened (happens n old s a new)) in
      let later : IsDiskRun plan sectors ((earlier ++ happened) ++ happens n old s a new) = subst (IsDiskRun plan sectors) whole run in
      record {
        unsent = unsent_after n h.unsent old s a new;
        opens = o.0;
        ends =
            subst (HasEndsOn n c config.memory floors (turns ++ turn_of old s a new) new) (sym whole)
            (ends_step n config.memory below right plan sectors size floors c turns old (now_at config units fits before told old made) s a new rule
            (its_port before told old made s a new rule) (unflushed config units fits n c below before told old made h.opens.live s a new rule)
            (earlier ++ happened) (happens n old s a new) (disk_front plan sectors (earlier ++ happened) (happens n old s a new) later) later h.ends.down
            h.ends.up h.ends.both o.1.heard o.1.is o.1.moves);
      }

  -- a request comes to a slot that is free
  no_entry : (slot : ℕ) (h : Host) → IsFreeSlot slot h → entry_at h.driver.entries slot ≡ None
  no_entry slot h free = by_entry (entry_at h.driver.entries slot) refl
    where
      by_entry : (o : Option Entry) → entry_at h.driver.entries slot ≡ o → o ≡ None
      by_entry None is = refl
      by_entry (Some e) is = absurd (free e is)

  pub ends_rise : (floors next : ℕ → Floor) (before : List Step) (told : List Answer) (old : Places) → Run (new_world config units) before told old
      → (disk : List Happening) (turns : List HostTurn) → IsDiskRun plan sectors disk → (slot : ℕ) → slot < 30
      → IsFreeSlot slot old.host → ((s : ℕ) → (slot == s) ≡ false → next s ≡ floors s) → IsFloor (next slot) disk
      → (down up : List (List ℕ)) → HasEnds n config.memory floors turns old.host disk down up → HasEnds n config.memory next turns old.host disk down up
  ends_rise floors next before told old made disk turns run slot low free others reached down up h = record {
    touches = h.touches;
    touched = h.touched;
    ends =
        floors_rise_since n plan sectors old.host disk down up floors next h.touches below
        (running config.memory right plan sectors size disk run turns old (now_at config units fits before told old made)
        h.touches h.touched) (λ s. may s (slot == s) refl) h.ends;
  }
    where
      unissued : (t : Transfer) → issued slot (own n h.touches) ≡ Some t → ⊥
      unissued t here =
          none_in_slot n slot old.host h.touches low (no_entry slot old.host free)
          (touched_served config.memory turns old.host h.touches right h.touched) t here

      may : (s : ℕ) (b : Bool) → (slot == s) ≡ b
          → (next s ≡ floors s) ⊎ (((t : Transfer) → issued s (own n h.touches) ≡ Some t → ⊥) × IsFloor (next s) disk)
      may s false other = inl (others s other)
      may s true at =
          let is : slot ≡ s = eqb-true slot s at in
          inr (subst (λ (m : ℕ). ((t : Transfer) → issued m (own n h.touches) ≡ Some t → ⊥) × IsFloor (next m) disk) is
          (unissued, reached))

  -- ## From the plugging on

  abbrev pub Orders : List HostTurn → Places → Type 0
  Orders turns now = OrderedNow config units fits n below plan sectors size earlier first turns now

  -- a step that clears the port does not flush the unit
  clears_unflushed : (old : Places) (a : Answer) → is_cleared n old a ≡ true → IsUnflushed n old a
  clears_unflushed old answer.Ticked cleared = absurd (false≢true cleared)
  clears_unflushed old a cleared = tt

  -- and is not a turn of the host
  clears_quiet : (old : Places) (a : Answer) → is_cleared n old a ≡ true → IsNoTurn a
  clears_quiet old (answer.Took port conn number bytes report) cleared = absurd (false≢true cleared)
  clears_quiet old answer.Pushed cleared = absurd (false≢true cleared)
  clears_quiet old answer.Ticked cleared = absurd (false≢true cleared)
  clears_quiet old answer.Idle cleared = absurd (false≢true cleared)
  clears_quiet old (answer.Submitted ticket) cleared = absurd (false≢true cleared)
  clears_quiet old (answer.Polled completion) cleared = absurd (false≢true cleared)
  clears_quiet old answer.Put cleared = absurd (false≢true cleared)
  clears_quiet old a cleared = tt

  -- the host asks nothing of a unit that did nothing since it was plugged in
  Unasked : Host → Type 0
  Unasked h = IsSteady n h.driver × (IsAskedOf n h.driver.plan → ⊥)

  anew_unasked : {turns : List HostTurn} {h : Host} → HostOn n config.memory turns h (Plugged ∷ []) → Unasked h
  unfolding Unasked
  anew_unasked on = (on.serves.steady, λ asked. on.serves.signed asked (begins_anew.plugged []).awaited)

  -- so that any floors may be taken that it reached
  cleared_rises : (floors : ℕ → Floor) (disk : List Happening) (turns : List HostTurn) (now : Places) → IsNow now → (up : List (List ℕ))
      → IsDiskRun plan sectors disk → Unasked now.host → AreFloorsOf floors disk → HasEnds n config.memory bare_floors turns now.host disk [] up
      → HasEnds n config.memory floors turns now.host disk [] up
  unfolding Unasked
  cleared_rises floors disk turns now i up run unasked are h = record {
    touches = h.touches;
    touched = h.touched;
    ends =
        floors_rise_since n plan sectors now.host disk [] up bare_floors floors h.touches below
        (running config.memory right plan sectors size disk run turns now i h.touches h.touched)
        (λ slot. inr (
          none_issued n now.host h.touches below (touched_served config.memory turns now.host h.touches right h.touched) unasked.0 unasked.1 slot,
          are slot,
        )) h.ends;
  }

  -- the port is cleared, and the host and the unit that sent these are ends
  pub begun_ends : (floors : ℕ → Floor) (before : List Step) (told : List Answer) (old : Places) (made : Run (new_world config units) before told old)
      (turns : List HostTurn) → Orders turns old → (s : Step) (a : Answer) (new : Places) → Rule old s (Ok a) new → is_cleared n old a ≡ true
      → (rising : List (List ℕ)) → IsDiskRun plan sectors ((earlier ++ Plugged ∷ []) ++ all_sent rising)
      → AreFloorsOf floors ((earlier ++ Plugged ∷ []) ++ all_sent rising)
      → HasEnds n config.memory floors (turns ++ turn_of old s a new) new.host ((earlier ++ Plugged ∷ []) ++ all_sent rising) [] rising
  begun_ends floors before told old made turns o s a new rule cleared rising run are =
      let both = order_step n below o.unsent old o.knows s a new rule in
      let anew : IsAnew config units fits n below plan sectors size earlier first turns old =
      cleared_anew config units fits n below plan sectors size earlier first before told old made o.unsent o.knows turns o.touched s a new rule both.0
      o.ordered cleared in
      let i : IsNow new = now_at config units fits (before ++ s ∷ []) (told ++ a ∷ []) new (further config units fits n below before told old made s a new rule) in
      let plain : HasEnds n config.memory bare_floors (turns ++ turn_of old s a new) new.host (earlier ++ Plugged ∷ []) [] [] =
      ends_now config units fits n below plan sectors size earlier first before told old made o.unsent o.knows turns o.touched s a new rule both.0 anew
      (clears_unflushed old a cleared) in
      let ends : HasEnds n config.memory bare_floors (turns ++ turn_of old s a new) new.host ((earlier ++ Plugged ∷ []) ++ all_sent rising) [] rising =
      sends_all n config.memory below right plan sectors size bare_floors (turns ++ turn_of old s a new) new i (earlier ++ Plugged ∷ []) [] rising run
      (subst (λ (xs : List Happening). HasEnds n config.memory bare_floors (turns ++ turn_of old s a new) new.host xs [] []) (sym (append-nil (earlier ++ Plugged ∷ [])))
      plain) in
      cleared_rises floors ((earlier ++ Plugged ∷ []) ++ all_sent rising) (turns ++ turn_of old s a new) new i rising run
      (subst (λ (x : Host). Unasked x) (sym (same_host old new s a rule (clears_quiet old a cleared))) (anew_unasked anew.host)) are ends

  -- and the unit is there
  pub begins_serving : (floors : ℕ → Floor) (before : List Step) (told : List Answer) (old : Places) → (made : Run (new_world config units) before told old)
      → (happened : List Happening) (turns : List HostTurn) → Orders turns old → IsWaiting n c old happened → WaitsFor n c old → (s : Step) (a : Answer)
      (new : Places) → Rule old s (Ok a) new → injects n s ≡ false → unplugs n s ≡ false
      → IsDiskRun plan sectors (earlier ++ (happened ++ happens n old s a new)) → is_cleared n old a ≡ true
      → (port_at old.multiplier n).present ≡ Some c → IsOpenAt n new.multiplier.registers
      → AreFloorsOf floors (earlier ++ (happened ++ happens n old s a new))
      → IsServing floors new (happened ++ happens n old s a new) (turns ++ turn_of old s a new)
  begins_serving floors before told old made happened turns o h waits s a new rule clean stays run cleared here opens are =
      let both = order_step n below o.unsent old o.knows s a new rule in
      let anew : IsAnew config units fits n below plan sectors size earlier first turns old =
      cleared_anew config units fits n below plan sectors size earlier first before told old made o.unsent o.knows turns o.touched s a new rule both.0
      o.ordered cleared in
      let made_on : Run (new_world config units) (before ++ s ∷ []) (told ++ a ∷ []) new = further config units fits n below before told old made s a new rule in
      let ordered : Orders (turns ++ turn_of old s a new) new =
      ordered_on config units fits n below plan sectors size earlier first before told old made turns o s a new rule in
      let cut : IsCut n c old = cut_there n c below config units fits before told old made anew.held h.off.there here in
      let firm : IsFirm n old = firm_at config units fits n below before told old made in
      let there : StaysPresent n c a new = stays_present n c old s a new rule stays firm here h.off.kept in
      let live : IsLive n c new = record { here = there.here; opens = opens; kept = there.kept } in
      let on : IsWaiting n c new (happened ++ happens n old s a new) = waits_on n c below old s a new rule happened h clean stays waits in
      let sent_is : earlier ++ (happened ++ happens n old s a new) ≡ (earlier ++ Plugged ∷ []) ++ all_sent on.rising =
      ap (λ (xs : List Happening). earlier ++ xs) on.is ∙ sym (append_assoc earlier (Plugged ∷ []) (all_sent on.rising)) in
      let raised : HasEnds n config.memory floors (turns ++ turn_of old s a new) new.host ((earlier ++ Plugged ∷ []) ++ all_sent on.rising) [] on.rising =
      begun_ends floors before told old made turns o s a new rule cleared on.rising (subst (IsDiskRun plan sectors) sent_is run)
      (subst (AreFloorsOf floors) sent_is are) in
      record {
        unsent = ordered.unsent;
        opens = open_at config units fits n c below within (before ++ s ∷ []) (told ++ a ∷ []) new made_on ordered.unsent ordered.knows live on.off.there;
        ends = record {
          down = [];
          up = on.rising;
          exact = cleared_exact n c below old s a new rule h.rising h.off cut clean stays cleared on.rising on.off;
          both =
              subst (λ (xs : List Happening). HasEnds n config.memory floors (turns ++ turn_of old s a new) new.host xs [] on.rising) (sym sent_is) raised;
        };
      }
