-- For `each_fis_has_its_outcome`. What becomes of a host and of a disk that it watches, at each FIS of the disk.
use Rattle.std.proofs.Common.{◌≡◌, ◌==◌, ℕ, ◌<◌, Bool, true, false, List, [], ◌∷◌, ◌++◌, refl, sym, ap, ◌∙◌, inl, inr, None, arith}
use Rattle.std.proofs.lemmas.Bool.{true≢false}
use Rattle.std.specs.Prelude.{◌⊎◌, if◌then◌else◌, is_some}
use Rattle.fis_view.specs.{Frames.marked, Seen.seen}
use Rattle.slots.specs.Slots.{DeviceSlots}
use Rattle.hba_fbs.specs.{declared.{register.Register.TheVariants.Ci, report.TakeReport.TakeReport}, Issuing.{aimed, view_issued}, Views.DeviceView}
use Rattle.hba_fbs.specs.{Views.view_of, Writing.view_after}
use Rattle.disk_model.specs.{declared.plan.DiskPlan.DiskPlan, Anew.IsClear, Ends.reports, Histories.{Happening, Received, Sent}, Ledger.ledger}
use Rattle.hba_laws.specs.{Client.own, Delivering.touched, History.History, Hosts.{Does, Host, Took, Wrote}}
use Rattle.disk_simulation.specs.{Anew.{IsHostedOn, IsKeptOn}, Aside.{AsideIsKept, IsAside}, Files.{FilesStayFine, IsFineFile, IsNextHeard}}
use Rattle.disk_simulation.specs.{Line.{IsWatchedWell, LinesBegin, Loose, OnLine}, Outcomes.{EachTakenHasOutcome, Fails, HasFineFile, IsNextTaken}}
use Rattle.disk_simulation.specs.{Outcomes.{Loosens, NothingIsGiven, Outcome, Watches}, Phases.AreWatching, Same.SlotCommand}
use Rattle.disk_simulation.specs.Anew as anew
use Rattle.disk_simulation.proofs.{anew.AnewJoins.hosted_on_is_kept, phases.AsideLemmas.aside_is_kept, task_files.FileLaws.files_stay_fine}
use Rattle.disk_simulation.proofs.{link.LooseLemmas.{gives_none, lines_begin, not_base}, phases.PhaseLemmas.{error_faults, none_is}}
use Rattle.disk_simulation.proofs.link.WatchingLemmas.{watches_what_is_fine}

-- ## Nothing is given

pub nothing_is_given : NothingIsGiven
nothing_is_given k reply wanted bytes owes fits = gives_none k reply wanted (seen bytes) owes fits

-- ## Where both began

module _ (n : ℕ) (base : List Happening) (below : n < 15) where
  -- more than the base is not the base
  pub not_yet : (old : Host) (g : List Happening) (c : ℕ → SlotCommand) (p : History) (e : Happening) → IsHostedOn n base old g c p → g ++ e ∷ [] ≡ base → ⊥
  not_yet old g c p e hosted same =
      let kept : IsKeptOn n base old g c p = hosted_on_is_kept n base old g c p below hosted in
      not_base base g kept.careful.since e kept.careful.is same

  issued_unset : (old new : Host) (value : ℕ) → Does old (Wrote Ci value) new → (view_of n old.port).slots.context ≡ None
      → (view_of n new.port).slots.context ≡ None
  unfolding view_after
  issued_unset old new value does unset =
      let small : n < 16 = omega (arith, below) in
      let v : DeviceView = view_of n old.port in
      ap (λ (w : DeviceView). w.slots.context) (does.1.views n small) ∙ issued_by (n == aimed old.port.registers old.memory.structure value)
    where
      issued_by : (b : Bool) → (if b then view_issued old.port.registers old.memory value (view_of n old.port) else view_of n old.port).slots.context ≡ None
      issued_by true = unset
      issued_by false = unset

  -- where both began the ledger is clear, and no setup stands at the port until something more is told
  began : (host : Host) (given : List Happening) (commands : ℕ → SlotCommand) (past : History) → IsHostedOn n base host given commands past
      → IsClear (ledger base) × (given ≡ base → (view_of n host.port).slots.context ≡ None)
  began host given commands past (anew.opens h c p opening) = (opening.clear, λ same. opening.unset)
  began host given commands past (anew.stays old new g c p keeps whole hosted) =
      let b = began old g c p hosted in
      (b.0, λ same. ap (λ (own : DeviceSlots). own.context) keeps.slots ∙ b.1 same)
  began host given commands past (anew.issues old new value g c next p sound chosen does tags names counted hosted) =
      let b = began old g c p hosted in
      (b.0, λ same. issued_unset old new value does (b.1 same))
  began host given commands past (anew.signs old new bytes report g c p sound plain framed from_n well right hosted) =
      ((began old g c p hosted).0, λ same. absurd (not_yet old g c p (Sent bytes) hosted same))
  began host given commands past (anew.hears old new bytes report g c p sound plain framed from_n well right short hosted) =
      ((began old g c p hosted).0, λ same. absurd (not_yet old g c p (Sent bytes) hosted same))
  began host given commands past (anew.sends old new frame slot command f t g c p sound framed does out here queued cfis request signed hosted) =
      ((began old g c p hosted).0, λ same. absurd (not_yet old g c p (Received (marked frame.bytes 0)) hosted same))
  began host given commands past
      (anew.asks old new frame slot command f t g c p sound framed does out here not_queued control moves cfis one none signed hosted) =
      ((began old g c p hosted).0, λ same. absurd (not_yet old g c p (Received (marked frame.bytes 0)) hosted same))
  began host given commands past (anew.gives old new frame offset len command g c p sound framed does out hosted) =
      ((began old g c p hosted).0, λ same. absurd (not_yet old g c p (Received (marked frame.bytes 0)) hosted same))

  pub began_unset : (host : Host) (given : List Happening) (commands : ℕ → SlotCommand) (past : History) → IsHostedOn n base host given commands past
      → given ≡ base → (view_of n host.port).slots.context ≡ None
  began_unset host given commands past hosted same = (began host given commands past hosted).1 same

-- ## The outcome

module _ (plan : DiskPlan) (sectors : ℕ) (base disk given : List Happening) (down up : List (List ℕ)) (bytes : List ℕ) (n : ℕ) (host : Host)
    (report : TakeReport) (new : Host) (commands : ℕ → SlotCommand) (past : History)
    (x : IsNextTaken plan sectors base disk given down up bytes n host report new commands past) (goes : report.stopped ≡ None) where
  small : n < 16
  small = let below : n < 15 = x.below in omega (arith, below)

  next_heard : reports (seen bytes) ≡ false → IsNextHeard plan sectors base disk given down up bytes n host report new
  next_heard fine = record {
    well = x.well;
    unrefused = x.unrefused;
    fine = fine;
    below = x.below;
    framed = x.plain;
    from = x.from;
    takes = x.takes;
    heard = x.heard;
  }

  -- the task file, or a fault of the first FIS
  file_by : reports (seen bytes) ≡ false → HasFineFile n host base given
      → IsFineFile (view_of n new.port) ⊎ ((given ≡ base) × (is_some report.fault ≡ true))
  file_by fine (inr file) =
      let laws : FilesStayFine = files_stay_fine in
      inl (laws.stays plan sectors base disk given down up bytes n host report new (next_heard fine) file)
  file_by fine (inl same) =
      let laws : FilesStayFine = files_stay_fine in
      let clear : IsClear (ledger base) = (began n base x.below host given commands past x.hosted).0 in
      elim (laws.first plan sectors base disk given down up bytes n host report new (next_heard fine) clear same
      (began_unset n base x.below host given commands past x.hosted same)) [
        | inl file ↦ inl file
        | inr faulty ↦ inr (same, faulty)
      ]

  is_aside : is_some report.fault ≡ true → IsAside n new (own n (touched host (Took (marked bytes n) report)) ++ past)
  is_aside faulty = let laws : AsideIsKept = aside_is_kept in laws.starts n host new (Took (marked bytes n) report) past small x.takes (inl (x.from, faulty))

  loosens : reports (seen bytes) ≡ false → is_some report.fault ≡ true → OnLine Loose (ledger disk) down up
      → Outcome n base disk given down up bytes new commands (own n (touched host (Took (marked bytes n) report)) ++ past)
  loosens fine faulty loose = elim (file_by fine x.file) [
    | inl file ↦ Loosens (is_aside faulty) loose (inr file)
    | inr fresh ↦ Loosens (is_aside faulty) loose (inl fresh.0)
  ]

  watching : report.fault ≡ None → AreWatching n base disk (given ++ Sent bytes ∷ []) down up new commands (own n (touched host (Took (marked bytes n) report)) ++ past)
  watching none =
      let well : IsWatchedWell plan sectors base disk given down (bytes ∷ up) = x.well in
      watches_what_is_fine plan sectors base disk given down up bytes well.size well.run well.watched n host new report commands past x.sound x.below
      x.plain x.framed x.from x.hosted x.takes x.heard none goes

  watches : reports (seen bytes) ≡ false → report.fault ≡ None
      → Outcome n base disk given down up bytes new commands (own n (touched host (Took (marked bytes n) report)) ++ past)
  watches fine none = elim (file_by fine x.file) [
    | inl file ↦ Watches (watching none) file
    | inr fresh ↦ absurd (true≢false (sym fresh.1 ∙ ap is_some none))
  ]

  by_fault : reports (seen bytes) ≡ false → OnLine Loose (ledger disk) down up → (b : Bool) → is_some report.fault ≡ b
      → Outcome n base disk given down up bytes new commands (own n (touched host (Took (marked bytes n) report)) ++ past)
  by_fault fine loose true is = loosens fine is loose
  by_fault fine loose false is = watches fine (none_is report.fault is)

  outcome : Outcome n base disk given down up bytes new commands (own n (touched host (Took (marked bytes n) report)) ++ past)
  outcome =
      let laws : LinesBegin = lines_begin in
      elim (laws.next plan sectors base disk given down up bytes x.well) [
        | inl failed ↦ Fails (is_aside (error_faults n host new bytes report small x.plain x.takes x.heard failed.0)) failed.1
        | inr loose ↦ by_fault loose.0 loose.1 (is_some report.fault) refl
      ]

pub each_taken_has_outcome : EachTakenHasOutcome
each_taken_has_outcome plan sectors base disk given down up bytes n host report new commands past x goes =
    outcome plan sectors base disk given down up bytes n host report new commands past x goes
