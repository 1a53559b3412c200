-- For `ends_go_on`. A disk and the host that serves it, over the turn in which the host takes the next FIS of the disk:
-- they stay together, or at an error or a fault the device is set aside.
use Rattle.std.proofs.Common.{◌≡◌, ℕ, ◌<◌, ◌≤◌, ◌⊎◌, true, false, List, [], ◌∷◌, ◌++◌, refl, sym, ◌∙◌, ap, subst, inl, inr, arith, None}
use Rattle.std.specs.Prelude.{is_some}
use Rattle.std.proofs.lemmas.Bool.{cases_Bool, true≢false}
use Rattle.fis_view.specs.{Frames.{IsFrame, marked}, Seen.seen}
use Rattle.hba_fbs.specs.{declared.report.TakeReport.TakeReport, Posting.signs}
use Rattle.hba_fbs.specs.{Taking.{Hears, admitted, device_cause, heard_now, ignores, port_of, row_for}, Views.{DeviceView, Port, view_of}}
use Rattle.disk_model.specs.{declared.plan.DiskPlan.DiskPlan, Anew.{IsCarefulSince, OwesOnly}, Ends.{IsRight, reports}, Histories.{Happening, Sent}}
use Rattle.disk_model.specs.Ledger.{Signs, ledger}
use Rattle.hba_laws.specs.{Client.{Touches, own}, Delivering.touches_after}
use Rattle.hba_laws.specs.Hosts as event
use Rattle.disk_simulation.specs.{Anew.{IsNextRight, IsSignedWell}, Files.{FilesStayFine, IsFineFile, IsNextHeard}, Heard.IsTakenWell}
use Rattle.disk_simulation.specs.{Line.{Failed, IsWatchedWell, LinesBegin, Loose}, Outcomes.HasFineFile, Watched.IsWatched}
use Rattle.disk_simulation.proofs.Door.{began_unset, error_faults, files_stay_fine, lines_begin, next_of_disk, next_or_fails, none_is, not_yet}
use Rattle.disk_simulation.proofs.Door.{view_signed, watches_on}
use Rattle.hba_driver.specs.{declared.plan.Device.TheVariants.Ready, Drivers.{Driver, device_at}, Events.{events_over, shared_by}}
use Rattle.hba_driver.specs.{HostTurns.{Does, DoesAll, Host, Took}, Orders.control_port, Slot30.{Faulty, IsAt30, IsUnsought}, Steady.detects}
use Rattle.hba_driver.specs.Tended.{IsAtStage, IsReleasing, IsUnreset}
use Rattle.hba_driver.proofs.Door.{takes_lead, turns_serve}
use Rattle.disk_recovery.specs.Together.{ServesOnAnew}
use Rattle.disk_recovery.specs.{Ends.{Apart, EndsAfter, IsOnTime, IsRunning, IsSetAside, IsTogether, Resetting, Steady, Together}, Stages.GoesByReset}
use Rattle.disk_recovery.proofs.{unasked.FaultyLemmas.{faults_set_aside, report_fault}, together.ResetLemmas.{signed_unreset, taken_unreset}}
use Rattle.disk_recovery.proofs.{together.TogetherTakes.{ignored_keep_on, signatures_keep_on, takes_keep_on}, honest.TurnLemmas.after}
use Rattle.disk_recovery.proofs.unasked.UnaskedLemmas.{stays_unasked}
use Rattle.disk_recovery.proofs.coming.ErrorLemmas.{IsHearing, careful_on, hears_signature, hears_unreset, is_resetting, next_signs, report_heard}
use Rattle.disk_recovery.proofs.coming.{ErrorLemmas.{sought_is_unasked, stale_ignored, together_hears}, StaleLemmas.by_stale}
use Rattle.disk_recovery.proofs.both_ends.{Unfaulted.not_stopped, WorkedLemmas.same_worked, FloorLemmas.{floors_more, reached_on}}

-- ---- one thing of before less is on its way

time_on : (n : ℕ) (old new : Host) (base given : List Happening) (bytes : List ℕ) (rest : List (List ℕ)) → new.driver ≡ old.driver
    → IsOnTime n old base given (bytes ∷ rest) → IsOnTime n new base given rest
time_on n old new base given bytes rest same (Steady none off away) = cc none
time_on n old new base given bytes rest same (Resetting quiet begun owes at) =
    Resetting quiet.1 begun owes (subst (λ (d : Driver). IsAtStage n IsReleasing d.plan) (sym same) at)

-- ---- what the port finds

-- what is wrong with a FIS that is heard is what stands at the port
shown : (n : ℕ) (old : Host) (frame : List ℕ) (report : TakeReport) (new : Host) → port_of frame ≡ n → Does old (Took frame report) new
    → ignores (port_of frame) old.port frame ≡ false → (view_of n new.port).fault ≡ report.fault
shown n old frame report new port does heard =
    let hears : Hears (port_of frame) old.port old.memory frame report new.port new.memory = does.heard heard in
    let told : report.fault ≡ device_cause (heard_now old.port old.memory (port_of frame) (admitted (port_of frame) (seen frame))).fault =
    ap (λ (r : TakeReport). r.fault) hears.reports
    ∙ report_fault (port_of frame) (row_for old.port (port_of frame)) old.port old.memory (admitted (port_of frame) (seen frame)) in
    subst (λ (m : ℕ). (view_of m new.port).fault ≡ report.fault) port (ap (λ (v : DeviceView). v.fault) hears.own ∙ sym told)

module _ (n : ℕ) (plan : DiskPlan) (sectors : ℕ) (old : Host) (bytes : List ℕ) (report : TakeReport) (new : Host)
    (run : DoesAll old (Took (marked bytes n) report ∷ []) new) (disk : List Happening) (down up : List (List ℕ)) (floors : ℕ → ℕ) (touches : Touches) (below : n < 15)
    (runs : IsRunning plan sectors disk touches old) (framed : IsFrame bytes) (port : port_of (marked bytes n) ≡ n)
    (g : IsTogether n old disk down (bytes ∷ up) floors touches) where
  abbrev does : Does old (Took (marked bytes n) report) new
  does = after old (Took (marked bytes n) report) new run

  abbrev takes : event.TakesFrame (shared_by old) (marked bytes n) report (shared_by new)
  takes = record { ignored = does.ignored; heard = does.heard }

  abbrev Goal : Type 0
  Goal = EndsAfter n old (Took (marked bytes n) report) new run disk down up floors touches

  opened_new : 7 ≤ new.driver.plan.opened
  opened_new = subst (λ (d : Driver). 7 ≤ d.plan.opened) (sym does.driver) g.opened

  ready_was : device_at new.driver.plan n ≡ Ready → device_at old.driver.plan n ≡ Ready
  ready_was ready = subst (λ (d : Driver). device_at d.plan n ≡ Ready) does.driver ready

  hearing : IsHearing n old
  hearing = together_hears n plan sectors disk down (bytes ∷ up) floors touches old runs g

  -- ---- it is of before

  module _ (rest : List (List ℕ)) (is : g.stale ≡ bytes ∷ rest) (up_is : up ≡ rest ++ g.later) where
    timely : IsOnTime n old g.base g.given (bytes ∷ rest)
    timely = subst (IsOnTime n old g.base g.given) is g.on_time

    thrown : ignores (port_of (marked bytes n)) old.port (marked bytes n) ≡ true
    thrown = stale_ignored n old g.base g.given g.commands touches bytes below framed port hearing g.served rest timely

    thrown_takes : Goal
    thrown_takes =
        let on : ServesOnAnew n g.base old (Took (marked bytes n) report) new run g.given g.given g.commands touches =
        ignored_keep_on n g.base old (marked bytes n) report new run g.given g.commands touches below thrown g.served in
        let same : new.port ≡ old.port = (does.ignored thrown).port in
        record {
          serves = on.serves;
          ends = Together (record {
            base = g.base;
            given = g.given;
            commands = on.next;
            stale = rest;
            later = g.later;
            up_is = up_is;
            on_time = time_on n old new g.base g.given bytes rest does.driver timely;
            watched =
                watches_on.drops g.base disk g.given down rest g.later bytes
                (subst (λ (xs : List (List ℕ)). IsWatched g.base disk g.given down xs g.later) is g.watched);
            served = on.on;
            told = g.told;
            entered = g.entered;
            reached =
                reached_on floors g.commands on.next g.given (own n touches) (own n (touches_after touches (shared_by old) (shared_by new)
                (events_over old new (Took (marked bytes n) report ∷ []) run) on.serves.runs)) g.told on.counted g.reached;
            begun = g.begun;
            owes = g.owes;
            opened = opened_new;
            well = ap (λ (p : Port). (view_of n p).fault) same ∙ g.well;
            unasked = (stays_unasked n).ignored old (marked bytes n) report new g.given does g.unasked;
            file = elim g.file [ inl begun ↦ inl begun | inr fine ↦ inr (subst (λ (p : Port). IsFineFile (view_of n p)) (sym same) fine) ];
            unready = λ begun ready. g.unready begun (ready_was ready);
            worked = same_worked n old new g.base g.given (ap (λ (d : Driver). d.plan) does.driver) g.worked;
          });
        }

  -- ---- it is the next since both began anew

  module _ (none : g.stale ≡ []) (next_is : g.later ≡ bytes ∷ up) where
    watched : IsWatched g.base disk g.given down [] (bytes ∷ up)
    watched =
        subst (IsWatched g.base disk g.given down []) next_is
        (subst (λ (xs : List (List ℕ)). IsWatched g.base disk g.given down xs g.later) none g.watched)

    careful : IsCarefulSince g.base g.given
    careful = careful_on n g.base old g.given g.commands touches below g.served

    well : IsWatchedWell plan sectors g.base disk g.given down (bytes ∷ up)
    well = record { size = runs.size; run = runs.run; signing = g.begun.signing; careful = careful; watched = watched }

    right_or : (reports (seen bytes) ≡ true) ⊎ IsNextRight g.given bytes
    right_or =
        next_or_fails plan sectors g.base disk g.given down up bytes runs.size runs.run
        (watches_on.follows g.base disk g.given down [] (bytes ∷ up) watched) careful

    module _ (goes : ignores (port_of (marked bytes n)) old.port (marked bytes n) ≡ false) where
      heard : report.ignored ≡ false
      heard = report_heard old (marked bytes n) report new does goes

      fault_is : (view_of n new.port).fault ≡ report.fault
      fault_is = shown n old (marked bytes n) report new port does goes

      next_heard : reports (seen bytes) ≡ false → IsNextHeard plan sectors g.base disk g.given down up bytes n (shared_by old) report (shared_by new)
      next_heard fine = record {
        well = well;
        unrefused = g.begun.unrefused;
        fine = fine;
        below = below;
        framed = framed;
        from = port;
        takes = takes;
        heard = heard;
      }

      -- the task file then, or a fault of the first FIS
      file_by : reports (seen bytes) ≡ false → HasFineFile n (shared_by old) g.base g.given
          → IsFineFile (view_of n new.port) ⊎ ((g.given ≡ g.base) × (is_some report.fault ≡ true))
      file_by fine (inr file) =
          let laws : FilesStayFine = files_stay_fine in
          inl (laws.stays plan sectors g.base disk g.given down up bytes n (shared_by old) report (shared_by new) (next_heard fine) file)
      file_by fine (inl same) =
          let laws : FilesStayFine = files_stay_fine in
          elim (laws.first plan sectors g.base disk g.given down up bytes n (shared_by old) report (shared_by new) (next_heard fine)
          g.begun.clear same (began_unset n g.base below (shared_by old) g.given g.commands (own n touches) g.served.hosted same)) [
            | inl file ↦ inl file
            | inr faulty ↦ inr (same, faulty)
          ]

      -- ---- nothing is wrong with it

      not_begun : g.given ++ Sent bytes ∷ [] ≡ g.base → ⊥
      not_begun same = not_yet n g.base below (shared_by old) g.given g.commands (own n touches) (Sent bytes) g.served.hosted same

      fine_takes : IsRight (ledger g.given) (seen bytes) → report.fault ≡ None → IsUnreset n new
          → ServesOnAnew n g.base old (Took (marked bytes n) report) new run g.given (g.given ++ Sent bytes ∷ []) g.commands touches → Goal
      fine_takes right fault off on = record {
        serves = on.serves;
        ends = Together (record {
          base = g.base;
          given = g.given ++ Sent bytes ∷ [];
          commands = on.next;
          stale = [];
          later = up;
          up_is = refl;
          on_time = Steady refl off (λ same there. not_begun same);
          watched = elim (watches_on.takes g.base disk g.given down up bytes watched) [
            | inl last ↦ absurd (true≢false (sym last.fails ∙ right.fine))
            | inr still ↦ still
          ];
          served = on.on;
          told = floors_more floors g.given (Sent bytes ∷ []) g.told;
          entered = g.entered;
          reached =
              reached_on floors g.commands on.next g.given (own n touches) (own n (touches_after touches (shared_by old) (shared_by new)
              (events_over old new (Took (marked bytes n) report ∷ []) run) on.serves.runs)) g.told on.counted g.reached;
          begun = g.begun;
          owes = g.owes;
          opened = opened_new;
          well = fault_is ∙ fault;
          unasked =
              (stays_unasked n).takes old (marked bytes n) report new g.given bytes does right
              (next_of_disk plan sectors g.base disk g.given down up bytes well right.fine) g.unasked;
          file = elim (file_by right.fine g.file) [
            | inl file ↦ inr file
            | inr faulty ↦ absurd (true≢false (sym faulty.1 ∙ ap is_some fault))
          ];
          unready = λ same ready. not_begun same;
          worked = λ same way device free. not_begun same;
        });
      }

      -- ---- an error, or a fault

      module _ (faulty : is_some report.fault ≡ true) where
        aside : IsSetAside n new disk down up → Goal
        aside set = record {
          serves = turns_serve.runs old new (Took (marked bytes n) report ∷ []) run g.served.sound touches g.served.served;
          ends = Apart set g.entered;
        }

        failed_at : reports (seen bytes) ≡ true → IsAt30 n Faulty new
        failed_at fails =
            (takes_lead n).begins old (marked bytes n) report new below g.served.sound does port (ap is_some g.well) (ap is_some fault_is ∙ faulty)

        failed_off : reports (seen bytes) ≡ true → IsUnsought n new
        failed_off fails =
            ap (λ (d : Driver). detects n d.plan.asked d.plan.order) does.driver
            ∙ sought_is_unasked plan sectors g.base disk g.given down up bytes n old g.commands touches below runs.size runs.run watched fails
            g.served g.unasked

        loose_at : reports (seen bytes) ≡ false → IsAt30 n Faulty new × IsUnsought n new
        loose_at fine = elim right_or [
          | inl fails ↦ absurd (true≢false (sym fails ∙ fine))
          | inr next ↦
              faults_set_aside n g.base old bytes report new g.given g.commands touches below framed port does next.right
              (next_of_disk plan sectors g.base disk g.given down up bytes well fine) g.served g.unasked faulty
        ]

        by_reset : reports (seen bytes) ≡ false → GoesByReset n Faulty new
        by_reset fine ready = elim (file_by fine g.file) [
          | inl file ↦ file.status
          | inr begun ↦ absurd (g.unready begun.0 (ready_was ready))
        ]

        faulty_takes : Goal
        faulty_takes =
            let laws : LinesBegin = lines_begin in
            elim (laws.next plan sectors g.base disk g.given down up bytes well) [
              | inl failed ↦ aside (record { stage = Faulty; line = Failed; at = failed_at failed.0; off = failed_off failed.0; fits = tt; leans = tt; on = failed.1 })
              | inr loose ↦ aside (record { stage = Faulty; line = Loose; at = (loose_at loose.0).0; off = (loose_at loose.0).1; fits = tt; leans = by_reset loose.0; on = loose.1 })
            ]

    -- ---- in no software reset

    module _ (off : IsUnreset n old) where
      goes_off : ignores (port_of (marked bytes n)) old.port (marked bytes n) ≡ false
      goes_off = hears_unreset n old bytes below framed port hearing off

      never_stops : report.stopped ≡ None
      never_stops =
          not_stopped old (marked bytes n) report new does (heard goes_off)
          (runs.on.going.next.takes (marked bytes n) (λ control. absurd (not_control (sym port ∙ control))))
        where
          not_control : n ≡ control_port → ⊥
          not_control same = omega (arith, below, same)

      taken_well : report.fault ≡ None → IsTakenWell (shared_by old) (marked bytes n) report (shared_by new)
      taken_well fault = record {
        takes = takes;
        steady = subst (λ (m : ℕ). (view_of m old.port).state.resetting ≡ false) (sym port) off;
        heard = heard goes_off;
        no_fault = fault;
        no_stop = never_stops;
      }

      steady_fine : report.fault ≡ None → Goal
      steady_fine fault = elim right_or [
        | inl fails ↦
            absurd (true≢false (sym (error_faults n (shared_by old) (shared_by new) bytes report (omega (arith, below)) framed takes
            (heard goes_off) fails) ∙ ap is_some fault))
        | inr next ↦
            fine_takes goes_off next.right fault
            (subst (λ (m : ℕ). (view_of m new.port).state.resetting ≡ false) port
            (taken_unreset (shared_by old) (shared_by new) (marked bytes n) report (taken_well fault)))
            (takes_keep_on n g.base old bytes report new run g.given g.commands touches below framed port (taken_well fault) next.right
            next.short g.served)
      ]

      steady_takes : Goal
      steady_takes = elim (cases_Bool (is_some report.fault)) [
        | inl faulty ↦ faulty_takes goes_off faulty
        | inr fine ↦ steady_fine (none_is report.fault fine)
      ]

    -- ---- the signature after a software reset

    module _ (same : g.given ≡ g.base) (owes : OwesOnly (ledger g.base) (Signs ∷ []) []) (at : IsAtStage n IsReleasing old.driver.plan) where
      signed_next : IsRight (ledger g.given) (seen bytes) × (signs (seen bytes) ≡ true)
      signed_next = next_signs plan sectors g.base disk g.given down up bytes runs.size runs.run watched careful same owes

      goes_signed : ignores (port_of (marked bytes n)) old.port (marked bytes n) ≡ false
      goes_signed = hears_signature n old bytes below framed port hearing signed_next.1

      signed_well : IsSignedWell (shared_by old) (marked bytes n) report (shared_by new)
      signed_well = record {
        takes = takes;
        resetting =
            subst (λ (m : ℕ). (view_of m old.port).state.resetting ≡ true) (sym port)
            (is_resetting n g.base old g.given g.commands touches g.served same owes at);
        heard = heard goes_signed;
      }

      signed_fault : report.fault ≡ None
      signed_fault =
          sym (fault_is goes_signed)
          ∙ subst (λ (m : ℕ). (view_of m new.port).fault ≡ None) port
          (ap (λ (v : DeviceView). v.fault) (view_signed (shared_by old) (shared_by new) (marked bytes n) report signed_well))

      signed_takes : Goal
      signed_takes =
          fine_takes goes_signed signed_next.0 signed_fault
          (subst (λ (m : ℕ). (view_of m new.port).state.resetting ≡ false) port
          (signed_unreset (shared_by old) (shared_by new) (marked bytes n) report signed_well))
          (signatures_keep_on n g.base old bytes report new run g.given g.commands touches below framed port signed_well signed_next.0 g.served)

    next_takes : IsOnTime n old g.base g.given g.stale → Goal
    next_takes (Steady still off away) = steady_takes off
    next_takes (Resetting quiet same owes at) = signed_takes same owes at

  together_then : Goal
  together_then = elim (by_stale bytes up g.stale g.later g.up_is) [
    | inl next ↦ next_takes next.0 next.1 g.on_time
    | inr before ↦ thrown_takes before.rest before.is before.up_is
  ]

pub together_takes : (n : ℕ) (plan : DiskPlan) (sectors : ℕ) (old : Host) (bytes : List ℕ) (report : TakeReport) (new : Host)
    (run : DoesAll old (Took (marked bytes n) report ∷ []) new) (disk : List Happening) (down up : List (List ℕ)) (floors : ℕ → ℕ) (touches : Touches) → n < 15
    → IsRunning plan sectors disk touches old → IsFrame bytes → port_of (marked bytes n) ≡ n → IsTogether n old disk down (bytes ∷ up) floors touches
    → EndsAfter n old (Took (marked bytes n) report) new run disk down up floors touches
together_takes n plan sectors old bytes report new run disk down up floors touches below runs framed port g =
    together_then n plan sectors old bytes report new run disk down up floors touches below runs framed port g
