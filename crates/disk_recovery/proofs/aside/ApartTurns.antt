-- For `ends_go_on`. A device that is set aside stays so over each turn of the host and each step of the disk, or both
-- begin anew as the disk takes a FIS.
use Rattle.std.proofs.Common.{◌≡◌, ℕ, ◌<◌, arith, false, List, [], ◌∷◌, ◌++◌, refl, sym, subst, ◌∙◌, inl, Some}
use Rattle.fis_view.specs.{Frames.{IsFrame, Stamped, marked}, Seen.seen}
use Rattle.hba_fbs.specs.{declared.report.TakeReport.TakeReport, Posting.signs, Taking.port_of}
use Rattle.hba_laws.specs.Client.{Touches}
use Rattle.disk_model.specs.{declared.plan.DiskPlan.DiskPlan, Anew.IsRequest, Histories.{Happening, Received, Sent}, Ledger.{IsSize, Ledger}}
use Rattle.disk_model.specs.{Ledger.{ShowsPage, Signs, Wanted, ledger}, Runs.IsDiskRun}
use Rattle.disk_simulation.specs.Line.{Asked, BothBegin, Failed, GoesUp, HasSpoken, IsTaken, Line, LinesGoOn, Loose, OnLine}
use Rattle.disk_simulation.proofs.Door.{lines_go_on, marks_ask_nothing}
use Rattle.hba_driver.specs.{HostTurns.{Does, DoesAll, Host, HostTurn, Pushed, Ticked, Took}, Slot30.{Cleared, Faulty, Goes30, IsAt30, IsNext30}}
use Rattle.hba_driver.specs.Slot30.{IsOn30, IsUnsought, LogSent, Off, On, Stage30, TicksOn30, Turns30, sent30}
use Rattle.hba_driver.proofs.Door.{turns_serve}
use Rattle.disk_recovery.specs.{Ends.{Apart, AreFloors, EndsAfter, IsBesideTurn, IsRunning, IsSetAside}, Stages.{Fits, Leans}}
use Rattle.disk_recovery.proofs.aside.{ApartDriver.{MayBe30, leads, requests, resets, still_off}, ApartIdle.idles, ApartLines.{Comes30, IsFit}}
use Rattle.disk_recovery.proofs.aside.ApartLines.{IsGiven, Line30, LogRead, ResetDone, comes_on, given_on, may_come, request30, takes_on, ticks_on}

-- ---- what goes on

-- it stays set aside, or both begin anew
pub data GoesAside (n : ℕ) (h : Host) (before after : List Happening) (down up : List (List ℕ)) : Type 0 where
  Stays : IsSetAside n h after down up → GoesAside n h before after down up
  ByLog : (page : Wanted) → IsAt30 n LogSent h → IsUnsought n h → BothBegin (ledger before) (ledger after) (ShowsPage ∷ []) (page ∷ []) down up → up ≡ []
      → GoesAside n h before after down up
  ByReset : IsAt30 n Off h → IsUnsought n h → BothBegin (ledger before) (ledger after) (Signs ∷ []) [] down up → GoesAside n h before after down up

lines : LinesGoOn
lines = lines_go_on

-- ---- a turn beside the link

beside_may : (n : ℕ) (stage : Stage30) (old : Host) (turn : HostTurn) → IsBesideTurn n old turn → MayBe30 n stage old turn
beside_may n stage old (Took frame report) beside = λ here. absurd (beside here)
beside_may n stage old (Ticked acted) beside = beside
beside_may n stage old other beside = tt

same_ticks : (stage next : Stage30) → next ≡ stage → TicksOn30 stage next
same_ticks Faulty next is = inl is
same_ticks Cleared next is = inl is
same_ticks On next is = inl is
same_ticks other next is = is

beside_next : (n : ℕ) (stage next : Stage30) (old : Host) (turn : HostTurn) → IsBesideTurn n old turn → IsNext30 n stage turn next
    → TicksOn30 stage next
beside_next n stage next old (Took frame report) beside is = same_ticks stage next (is.1 beside)
beside_next n stage next old (Pushed (Some frame)) beside is = same_ticks stage next (is.1 beside)
beside_next n stage next old (Ticked acted) beside is = is
beside_next n stage next old other beside is = same_ticks stage next is

-- ---- turns

module _ (n : ℕ) (past : Touches) (old : Host) (turn : HostTurn) (new : Host) (below : n < 15) (on : IsOn30 past old) (does : Does old turn new) where
  leans_on : (stage : Stage30) (line : Line) → (line ≡ Failed → IsBesideTurn n old turn) → MayBe30 n stage old turn → IsUnsought n old → IsAt30 n stage old
      → (t : Turns30 n stage turn new)
      → Leans n line stage old → Leans n line t.next new
  leans_on stage Loose beside may off at t leans = resets n past old turn new stage below on does may off at t leans
  leans_on stage Failed beside may off at t leans = idles n past old turn new stage below on does (beside refl) at t leans
  leans_on stage _ beside may off at t leans = tt

  pub aside_beside : (disk : List Happening) (down up : List (List ℕ)) → IsBesideTurn n old turn → IsSetAside n old disk down up
      → IsSetAside n new disk down up
  aside_beside disk down up beside h =
      let may : MayBe30 n h.stage old turn = beside_may n h.stage old turn beside in
      let t : Turns30 n h.stage turn new = leads n past old turn new h.stage below on does may h.off h.at in
      let fit : IsFit n h.line t.next new (ledger disk) down up =
      ticks_on lines n new (ledger disk) down up h.line h.stage t.next h.fits (beside_next n h.stage t.next old turn beside t.is)
      (leans_on h.stage h.line (λ failed. beside) may h.off h.at t h.leans) in
      record { stage = t.next; line = fit.at; at = t.at; off = still_off n h.stage old turn new does may h.off; fits = fit.fits; leans = fit.leans; on = fit.on h.on }

-- the host gives the disk a FIS
pub aside_gives : (n : ℕ) (past : Touches) (old : Host) (frame : Stamped) (new : Host) → n < 15 → IsOn30 past old
    → Does old (Pushed (Some frame)) new → (disk : List Happening) (down up : List (List ℕ)) → frame.stamp.port ≡ n → IsSetAside n old disk down up
    → IsSetAside n new disk (down ++ marked frame.bytes 0 ∷ []) up
aside_gives n past old frame new below on does disk down up port h =
    let turn : HostTurn = Pushed (Some frame) in
    let t : Turns30 n h.stage turn new = leads n past old turn new h.stage below on does tt h.off h.at in
    let g : Goes30 n h.stage frame t.next = t.is.0 port in
    let asks : IsRequest (marked frame.bytes 0) (request30 h.stage) = requests n h.stage g.fields frame.bytes g.are g.built in
    let given : IsGiven n h.line h.stage new (ledger disk) (down ++ marked frame.bytes 0 ∷ []) up =
    given_on lines n new (ledger disk) down up (marked frame.bytes 0) h.line h.stage g.fields g.are h.fits asks h.on in
    record {
      stage = sent30 h.stage;
      line = given.at;
      at = subst (λ (x : Stage30). IsAt30 n x new) g.after t.at;
      off = still_off n h.stage old turn new does tt h.off;
      fits = given.fits;
      leans = given.leans;
      on = given.on;
    }

-- it takes the next one of the disk
pub aside_takes : (n : ℕ) (past : Touches) (old : Host) (bytes : List ℕ) (report : TakeReport) (new : Host) → n < 15 → IsOn30 past old
    → Does old (Took (marked bytes n) report) new → (disk : List Happening) (down up : List (List ℕ)) → IsFrame bytes → port_of (marked bytes n) ≡ n
    → IsSetAside n old disk down (bytes ∷ up) → IsSetAside n new disk down up
aside_takes n past old bytes report new below on does disk down up framed port h =
    let turn : HostTurn = Took (marked bytes n) report in
    let taken : IsTaken h.line (ledger disk) down up bytes = lines.takes h.line (ledger disk) down up bytes h.on in
    let unsigned : signs (seen (marked bytes n)) ≡ false = (marks_ask_nothing bytes n framed (omega (arith, below))).signature ∙ taken.unsigned in
    let may : MayBe30 n h.stage old turn = λ here. may_come h.line h.stage (marked bytes n) taken.spoken h.fits unsigned in
    let t : Turns30 n h.stage turn new = leads n past old turn new h.stage below on does may h.off h.at in
    let fit : IsFit n h.line t.next new (ledger disk) down up =
    takes_on lines n new (ledger disk) down up h.line h.stage t.next taken.spoken h.fits (t.is.0 port)
    (leans_on n past old turn new below on does h.stage h.line (λ failed. absurd (subst HasSpoken failed taken.spoken)) may h.off h.at t h.leans) in
    record { stage = t.next; line = fit.at; at = t.at; off = still_off n h.stage old turn new does may h.off; fits = fit.fits; leans = fit.leans; on = fit.on taken.on }

-- ---- steps of the disk

pub aside_sends : (n : ℕ) (plan : DiskPlan) (sectors : ℕ) (h : Host) (disk : List Happening) (down up : List (List ℕ)) (bytes : List ℕ)
    → IsSize plan sectors → IsDiskRun plan sectors (disk ++ Sent bytes ∷ []) → IsSetAside n h disk down up
    → IsSetAside n h (disk ++ Sent bytes ∷ []) down (up ++ bytes ∷ [])
aside_sends n plan sectors h disk down up bytes size run a =
    let goes : GoesUp a.line (ledger disk) (ledger (disk ++ Sent bytes ∷ [])) down up bytes =
    lines.sends plan sectors a.line disk down up bytes size run a.on in
    record { stage = a.stage; line = a.line; at = a.at; off = a.off; fits = a.fits; leans = a.leans; on = goes.stands.on }

-- where READ LOG EXT went out, nothing of the disk is on its way
asked_silent : (line : Line) (k : Ledger) (down up : List (List ℕ)) → Fits line LogSent → OnLine line k down up → up ≡ []
asked_silent Asked k down up fits on = on.silent
asked_silent _ k down up fits on = absurd fits

pub aside_comes : (n : ℕ) (h : Host) (disk : List Happening) (back up : List (List ℕ)) (bytes : List ℕ) → IsSetAside n h disk (bytes ∷ back) up
    → GoesAside n h disk (disk ++ Received bytes ∷ []) back up
aside_comes n h disk back up bytes a =
    by_case (comes_on n a.stage h (ledger disk) (ledger (disk ++ Received bytes ∷ [])) bytes back up a.line a.fits a.leans a.on
    (lines.comes a.line disk [] back up bytes (inl refl) a.on))
  where
    by_case : Comes30 n a.stage h (ledger disk) (ledger (disk ++ Received bytes ∷ [])) back up
        → GoesAside n h disk (disk ++ Received bytes ∷ []) back up
    by_case (Line30 line fits leans on) = Stays (record { stage = a.stage; line = line; at = a.at; off = a.off; fits = fits; leans = leans; on = on })
    by_case (LogRead page stage both) =
        ByLog page (subst (λ (x : Stage30). IsAt30 n x h) stage a.at) a.off both
        (asked_silent a.line (ledger disk) (bytes ∷ back) up (subst (Fits a.line) stage a.fits) a.on)
    by_case (ResetDone stage both) = ByReset (subst (λ (x : Stage30). IsAt30 n x h) stage a.at) a.off both

-- ---- while a disk runs

does_one : (old new : Host) (turn : HostTurn) → DoesAll old (turn ∷ []) new → Does old turn new
does_one old new turn run = subst (λ (h : Host). Does old turn h) (sym run.2) run.1

module _ (n : ℕ) (plan : DiskPlan) (sectors : ℕ) where
  after_aside : (old : Host) (turn : HostTurn) (new : Host) (run : DoesAll old (turn ∷ []) new) (disk : List Happening)
      (down up : List (List ℕ)) (floors : ℕ → ℕ) (touches : Touches) → IsRunning plan sectors disk touches old → IsSetAside n new disk down up
      → AreFloors floors disk → EndsAfter n old turn new run disk down up floors touches
  after_aside old turn new run disk down up floors touches runs a are = record {
    serves = turns_serve.runs old new (turn ∷ []) run runs.on.sound touches runs.on.served;
    ends = Apart a are;
  }

  pub beside_aside : (old : Host) (turn : HostTurn) (new : Host) (run : DoesAll old (turn ∷ []) new) (disk : List Happening)
      (down up : List (List ℕ)) (floors : ℕ → ℕ) (touches : Touches) → n < 15 → IsRunning plan sectors disk touches old → IsBesideTurn n old turn
      → IsSetAside n old disk down up → AreFloors floors disk → EndsAfter n old turn new run disk down up floors touches
  beside_aside old turn new run disk down up floors touches below runs beside a are =
      after_aside old turn new run disk down up floors touches runs
      (aside_beside n touches old turn new below runs.on (does_one old new turn run) disk down up beside a) are

  pub gives_aside : (old : Host) (frame : Stamped) (new : Host) (run : DoesAll old (Pushed (Some frame) ∷ []) new) (disk : List Happening)
      (down up : List (List ℕ)) (floors : ℕ → ℕ) (touches : Touches) → n < 15 → IsRunning plan sectors disk touches old → frame.stamp.port ≡ n
      → IsSetAside n old disk down up → AreFloors floors disk → EndsAfter n old (Pushed (Some frame)) new run disk (down ++ marked frame.bytes 0 ∷ []) up floors touches
  gives_aside old frame new run disk down up floors touches below runs port a are =
      after_aside old (Pushed (Some frame)) new run disk (down ++ marked frame.bytes 0 ∷ []) up floors touches runs
      (aside_gives n touches old frame new below runs.on (does_one old new (Pushed (Some frame)) run) disk down up port a) are

  pub takes_aside : (old : Host) (bytes : List ℕ) (report : TakeReport) (new : Host) (run : DoesAll old (Took (marked bytes n) report ∷ []) new)
      (disk : List Happening) (down up : List (List ℕ)) (floors : ℕ → ℕ) (touches : Touches) → n < 15 → IsRunning plan sectors disk touches old → IsFrame bytes
      → port_of (marked bytes n) ≡ n → IsSetAside n old disk down (bytes ∷ up)
      → AreFloors floors disk → EndsAfter n old (Took (marked bytes n) report) new run disk down up floors touches
  takes_aside old bytes report new run disk down up floors touches below runs framed port a are =
      after_aside old (Took (marked bytes n) report) new run disk down up floors touches runs
      (aside_takes n touches old bytes report new below runs.on (does_one old new (Took (marked bytes n) report) run) disk down up framed port a) are
