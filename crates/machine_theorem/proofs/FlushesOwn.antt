-- A FLUSH CACHE whose bit of PxCI falls: the disk had heard it while its host waited for nothing, and answered it by an end. So its caller had flushed.
use Rattle.std.proofs.{Common.{◌≡◌, ℕ, Bool, true, List, [], ◌∷◌, ◌++◌, append_assoc, Some, sym, ap, subst, ◌∙◌, inl, inr, arith, refl}, lemmas.Bool.{false≢true}}
use Rattle.fis_view.specs.Frames.{Stamped}
use Rattle.slots.specs.Slots.{Issue}
use Rattle.ahci_controller.specs.States.{ControllerState}
use Rattle.controller_laws.specs.Events.{Event, Runs}
use Rattle.disk_pages.specs.declared.profile.Profile.{Profile}
use Rattle.sata_disk.specs.{Sending.{IsFis, IsOut}, State.{DiskState, new_disk}, declared.out.Out.Out}
use Rattle.sata_disk.specs.declared.out.Out.TheVariants as out
use Rattle.sata_disk_laws.specs.{Calls.{AreCalls, Call, Hears, Sends, after_calls}, Laws.reached}
use Rattle.sata_disk_laws.proofs.Door.{calls_after, calls_both}
use Rattle.ahci_machine.specs.{States.{MachineState, bay_at}, declared.bay.Unit.TheVariants.Disk}
use Rattle.ahci_machine.specs.declared.act.Act.TheVariants as act
use Rattle.machine_laws.specs.{ControllerLaws.RunsRuled, Deeds.{Deed, Does, Moved}, Disks.{DisksGoOn, GoesOn, calls_at}, Rising.risen}
use Rattle.machine_theorem.specs.{Completed.CompletionsAreOfDevices, Flushes.{IsFlushDone, OfSingles}, FlushesFollow.{AreLeft, DisksAreReachedStill}}
use Rattle.machine_theorem.specs.{FlushesFollow.IsReachedStill, Flushing.{FlushesEndSo, HasFlushed, is_failure, is_flushing}, Given.IsWhole}
use Rattle.machine_theorem.specs.{Identity.calls_of, InTurn.{AreKeptOn, is_answering}, OwnSlots.AllKeepLine, PioIn.{IsAnsweredThere, IsDoneThere}}
use Rattle.machine_theorem.specs.{PioIn.UnqueuedAreOfSlotsIf, Settled.IsUnsettled}
use Rattle.machine_theorem.proofs.{EndedByData.answered_less, EndsFew.disk_same, ErrorNone.{IsErrorFis, failed_fis}, Fallen.left_there, OwnPlace.head_or}
use Rattle.machine_theorem.proofs.{SinglesOwn.{kept_behind, kept_first, no_error}, Stretch.whole_run}

pub record Laws : Type 0 where
  pub completed : CompletionsAreOfDevices
  pub disks : DisksGoOn
  pub flush : FlushesEndSo

-- ---- a disk that stays at its port

no_calls : (d : DiskState) → d ≡ after_calls d []
unfolding after_calls
no_calls d = refl

pub stays : DisksGoOn → (n : ℕ) (deeds : List Deed) (old now : MachineState) (run : RunsRuled old deeds now) → AreLeft n deeds → (d : DiskState)
    → (bay_at old n).unit ≡ Disk d → GoesOn d (calls_of n old deeds now run) (bay_at now n).unit
stays disks n [] old now run left d unit = record { are = tt; is = ap (λ (m : MachineState). (bay_at m n).unit) run.1 ∙ unit ∙ ap Disk (no_calls d) }
stays disks n (deed ∷ later) old now run left d unit =
    let mid : MachineState = run.1.0 in
    let calls : List Call = calls_at old deed n in
    let one = disks old deed mid run.1.1 n d unit (left_there n deed left.0) in
    let rest = stays disks n later mid now run.1.2 left.1 (after_calls d calls) one.is in
    record {
      are = calls_both calls (calls_of n mid later now run.1.2) d one.are rest.are;
      is = rest.is ∙ ap Disk (sym (calls_after calls (calls_of n mid later now run.1.2) d));
    }

pub still_one : DisksGoOn → (n : ℕ) (at : MachineState) (p : Profile) (limit : ℕ) (base : List Call) → IsReachedStill n at p limit base → (deeds : List Deed) (now : MachineState)
    (run : RunsRuled at deeds now) → AreLeft n deeds → IsReachedStill n now p limit (base ++ calls_of n at deeds now run)
still_one disks n at p limit base is deeds now run left =
    let calls : List Call = calls_of n at deeds now run in
    let goes = stays disks n deeds at now run left (reached p limit base) is.there in
    record { are = calls_both base calls (new_disk p limit) is.are goes.are; there = goes.is ∙ ap Disk (sym (calls_after base calls (new_disk p limit))) }

pub reached_still : DisksGoOn → DisksAreReachedStill
reached_still disks n at p limit base is deeds seen run left since now rest left_on =
    still_one disks n seen p limit (base ++ calls_of n at deeds seen run) (still_one disks n at p limit base is deeds seen run left) since now rest left_on

first_left : (n : ℕ) (xs ys : List Deed) → AreLeft n (xs ++ ys) → AreLeft n xs
first_left n [] ys left = tt
first_left n (x ∷ xs) ys left = (left.0, first_left n xs ys left.1)

pub left_until : (n : ℕ) (sooner : List Deed) (deed : Deed) (later deeds : List Deed) → deeds ≡ sooner ++ deed ∷ later → AreLeft n deeds → AreLeft n sooner
left_until n sooner deed later deeds is left = first_left n sooner (deed ∷ later) (subst (AreLeft n) is left)

pub line_left : (many : Bool) (n c dev : ℕ) (deeds : List Deed) (old now : MachineState) (run : RunsRuled old deeds now) → AllKeepLine many n c dev old deeds now run → AreLeft n deeds
line_left many n c dev [] old now run keeps = tt
line_left many n c dev (deed ∷ later) old now run keeps = (keeps.0.left, line_left many n c dev later run.1.0 now run.1.2 keeps.1)

-- ---- an error completes nothing

failure_is : (old : MachineState) (k : ℕ) (o : Out) (new : MachineState) (does : Does old (Moved (act.Speaks k o)) new) → is_failure o ≡ true
    → IsErrorFis (risen old.fan k does.does.does.1.frame).bytes
failure_is old k (out.Own r) new does is = let h = does.does.does.1 in failed_fis old.fan k h.frame r is h.bytes
failure_is old k (out.Beside r) new does is = let h = does.does.does.1 in failed_fis old.fan k h.frame r is h.bytes
failure_is old k (out.Of p r) new does is = let h = does.does.does.1 in failed_fis old.fan k h.frame r is h.bytes
failure_is old k other new does is = absurd (cc)

-- ---- the answer

module _ (laws : Laws) (n dev slot : ℕ) (old : MachineState) (before : List Deed) (at : MachineState) (first : RunsRuled old before at) (deeds : List Deed) (now : MachineState)
    (run : RunsRuled at deeds now) (p : Profile) (limit : ℕ) (base : List Call) (issue : Issue) (f : Stamped)
    (done : IsDoneThere n dev slot old before at first deeds now run p limit base issue f) (d : DiskState) (there : (bay_at at n).unit ≡ Disk d) (same : d ≡ reached p limit base)
    (are : AreCalls (new_disk p limit) base) (left : AreLeft n deeds) (on : AreKeptOn (calls_of n at deeds now run))
    (well : IsErrorFis f.bytes → ⊥) where
  abbrev then' : List Call
  then' = calls_of n at done.sooner done.mid done.led

  record IsThen : Type 0 where
    whole : AreCalls (new_disk p limit) (base ++ then')
    says : IsOut (reached p limit (base ++ then')) (Some done.said)
    fis : IsFis (reached p limit (base ++ then')) done.said done.does.does.does.1.frame.bytes

  -- the disk as it sent the FIS
  is_then : IsThen
  is_then =
      let h = done.does.does.does.1 in
      let gone = stays laws.disks n done.sooner at done.mid done.led (left_until n done.sooner (Moved (act.Speaks n done.said)) done.later deeds done.is left) d there in
      let now_is : h.disk ≡ reached p limit (base ++ then') =
      disk_same h.disk (after_calls d then') (sym h.there ∙ gone.is) ∙ ap (λ (x : DiskState). after_calls x then') same ∙ sym (calls_after base then' (new_disk p limit)) in
      record {
        whole = calls_both base then' (new_disk p limit) are (subst (λ (x : DiskState). AreCalls x then') same gone.are);
        says = subst (λ (x : DiskState). IsOut x (Some done.said)) now_is h.next;
        fis = subst (λ (x : DiskState). IsFis x done.said h.frame.bytes) now_is h.bytes;
      }

  has_flushed : (answering : is_answering f.bytes ≡ true) → is_flushing (done.answers answering).command.bytes ≡ true → HasFlushed (done.answers answering).command.later done.said
  has_flushed answering flushing =
      let h = done.does.does.does.1 in
      let a : IsAnsweredThere dev slot old before at first deeds now run base then' done.said = done.answers answering in
      let u : IsUnsettled base then' = a.command in
      let x : Call = Hears u.bytes in
      let t : IsThen = is_then in
      let split : base ++ then' ≡ (base ++ u.front) ++ x ∷ u.later = ap (λ (l : List Call). base ++ l) u.split ∙ sym (append_assoc base u.front (x ∷ u.later)) in
      let whole : AreCalls (new_disk p limit) ((base ++ u.front) ++ x ∷ u.later) = subst (AreCalls (new_disk p limit)) split t.whole in
      let on_then : AreKeptOn then' = kept_first then' (Sends done.said ∷ calls_of n done.after done.later now done.rest) (subst AreKeptOn done.own on) in
      let on_both : AreKeptOn (u.front ++ x ∷ u.later) = subst AreKeptOn u.split on_then in
      let less = answered_less u.later in
      let quiet = u.quiet in
      elim (laws.flush p limit (base ++ u.front) u.bytes u.later whole flushing u.idle (kept_behind u.front x u.later on_both) a.none (omega (arith, less, quiet)) done.said h.frame.bytes
      (subst (λ (l : List Call). IsOut (reached p limit l) (Some done.said)) split t.says) (subst (λ (l : List Call). IsFis (reached p limit l) done.said h.frame.bytes) split t.fis) a.answer) [
        | inl is ↦ is
        | inr failed ↦ absurd (well (subst (λ (y : Stamped). IsErrorFis y.bytes) (ap (λ (l : List Stamped). head_or f l) done.sent) (failure_is done.mid n done.said done.after done.does failed)))
      ]

-- ---- the law

pub flushes_are : Laws → (Waits : (dev : ℕ) → (old : ControllerState) → (events : List Event) → (now : ControllerState) → Runs old events now → Type 0) → UnqueuedAreOfSlotsIf Waits
    → OfSingles Waits IsFlushDone
flushes_are laws Waits singles ports legacy old opening before at first many n c dev slot below dev_low low begins p limit base are same idle deeds now run has_link lasts keeps on runs of waiting
    took new does rules own shows hides none issue there mine plain other =
    let f : Stamped = does.does.frame in
    let done : IsDoneThere n dev slot old before at first deeds now run p limit base issue f =
    singles ports legacy old opening before at first many n c dev slot below dev_low low begins p limit base are same idle deeds now run has_link lasts keeps on runs of waiting
    took new does rules own shows hides none issue there mine plain (λ pio. absurd (false≢true (sym other ∙ pio))) in
    let whole : IsWhole old before at first deeds now run = whole_run before old at first deeds now run in
    let ended = (laws.completed ports legacy old opening (before ++ deeds) now whole.all took new does rules slot low shows hides none).ended in
    record {
      done = done;
      answering = done.register other;
      flushed = has_flushed laws n dev slot old before at first deeds now run p limit base issue f done begins.disk begins.there same are
          (line_left many n c dev deeds at now run keeps) on (no_error slot now.controller f.bytes ended) (done.register other);
    }
