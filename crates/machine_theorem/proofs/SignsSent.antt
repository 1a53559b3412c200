-- What the calls of a disk say of Data that are to go to it, the FISes say that go up from its port.
use Rattle.std.proofs.Common.{◌≡◌, ℕ, ◌<◌, Bool, true, false, List, [], ◌∷◌, ◌++◌, append_assoc, refl, sym, ap, subst, ◌∙◌, map}
use Rattle.std.proofs.lemmas.{Bool.{eqb-true, eq-eqb, false≢true}, List.Elements.{Contains-push}}
use Rattle.std.specs.Prelude.{◌==◌, if◌then◌else◌, Result, Ok, Err}
use Rattle.fis_view.specs.{Frames.Stamped, Seen.seen, declared.view.{Fis.Fis, FisFault.FisFault}}
use Rattle.fis_view.specs.declared.view.Fis.TheVariants as view
use Rattle.multiplier.specs.Passing.{of_conn}
use Rattle.sata_disk.specs.{State.DiskState, Sending.IsFis, declared.out.Out.Out}
use Rattle.sata_disk_books.specs.{InTurn.{call_steps, calls_steps, data_steps, sign_out}, Talks.{Sign, Step, sign_of}}
use Rattle.sata_disk_laws.specs.Calls as disk_call
use Rattle.sata_disk_laws.specs.{Calls.{Call, Sends, after_calls}, Once.{AreDue, Host, host_after}}
use Rattle.ahci_machine.specs.{States.{MachineState, bay_at}, declared.{act.Act.Act, bay.Unit.TheVariants.Disk}}
use Rattle.ahci_machine.specs.declared.act.Act.TheVariants as act
use Rattle.machine_laws.specs.{ControllerLaws.RunsRuled, Deeds.{Deed, Does, FrameOffered, Moved}, Disks.{DisksGoOn, calls_at}, Rising.Frames}
use Rattle.machine_laws.specs.Rising.{GoesOnRising, HaveRisen, frames_after, risen, sent_by}
use Rattle.machine_theorem.specs.{Crossing.ups, Identity.calls_of, OwnSlots.{AllKeepLine, KeepsLine}}
use Rattle.machine_theorem.proofs.{EndsFew.{disk_same, sent_of}, Fallen.left_there, Ordered.first_ruled, RisenTold.conn_both, SentFises.SendsNone}
use Rattle.machine_theorem.proofs.{SentFises.{deed_none, is_one, not_of, offers_none, sender_is, stamp_is}, Signs.{MarksLow, SignsWell, marks_low}}
use Rattle.machine_theorem.proofs.{Signs.{risen_sign, signs_well}, Words.ups_both}

-- ---- the calls of a disk

-- each FIS that is sent says what its call says
abbrev pub AllWell : List Call → Type 0
AllWell [] = Unit {0}
AllWell (Sends o ∷ later) = SignsWell o × AllWell later
AllWell (c ∷ later) = AllWell later

pub all_well : (calls : List Call) (h : Host) → AreDue h calls → AllWell calls
all_well [] h due = tt
all_well (Sends o ∷ later) h due = (signs_well o h due.0, all_well later (host_after h (Sends o)) due.1)
all_well (disk_call.Plugs ∷ later) h due = all_well later (host_after h disk_call.Plugs) due.1
all_well (disk_call.Hears f ∷ later) h due = all_well later (host_after h (disk_call.Hears f)) due.1
all_well (disk_call.Starts x ∷ later) h due = all_well later (host_after h (disk_call.Starts x)) due.1
all_well (disk_call.Asks r ∷ later) h due = all_well later (host_after h (disk_call.Asks r)) due.1
all_well (disk_call.Answers number a ∷ later) h due = all_well later (host_after h (disk_call.Answers number a)) due.1

pub well_both : (xs ys : List Call) → AllWell (xs ++ ys) → AllWell xs × AllWell ys
well_both [] ys all = (tt, all)
well_both (Sends o ∷ xs) ys all = let rest = well_both xs ys all.1 in ((all.0, rest.0), rest.1)
well_both (disk_call.Plugs ∷ xs) ys all = well_both xs ys all
well_both (disk_call.Hears f ∷ xs) ys all = well_both xs ys all
well_both (disk_call.Starts x ∷ xs) ys all = well_both xs ys all
well_both (disk_call.Asks r ∷ xs) ys all = well_both xs ys all
well_both (disk_call.Answers number a ∷ xs) ys all = well_both xs ys all

pub steps_both : (xs ys : List Call) → calls_steps (xs ++ ys) ≡ calls_steps xs ++ calls_steps ys
steps_both [] ys = refl
steps_both (x ∷ xs) ys = ap (λ l. call_steps x ++ l) (steps_both xs ys) ∙ sym (append_assoc (call_steps x) (calls_steps xs) (calls_steps ys))

abbrev pub up_in : List Call → List Sign
up_in calls = ups (calls_steps calls)

up_both : (xs ys : List Call) → up_in (xs ++ ys) ≡ up_in xs ++ up_in ys
up_both xs ys = ap ups (steps_both xs ys) ∙ ups_both (calls_steps xs) (calls_steps ys)

data_up : (r : Result Fis FisFault) (rest : List Step) → ups (data_steps r ++ rest) ≡ ups rest
data_up (Ok (view.Payload f)) rest = refl
data_up (Ok other) rest = refl
data_up (Err e) rest = refl

none_up : (calls : List Call) → SendsNone calls → up_in calls ≡ []
none_up [] none = refl
none_up (Sends o ∷ later) none = absurd none
none_up (disk_call.Plugs ∷ later) none = none_up later none
none_up (disk_call.Hears f ∷ later) none = data_up (seen f) (calls_steps later) ∙ none_up later none
none_up (disk_call.Starts x ∷ later) none = none_up later none
none_up (disk_call.Asks r ∷ later) none = none_up later none
none_up (disk_call.Answers number a ∷ later) none = none_up later none

-- ---- the FISes

abbrev pub sign_in : Stamped → Sign
sign_in f = sign_of (seen f.bytes)

abbrev pub signs_in : List Stamped → List Sign
signs_in frames = map sign_in frames

pub signs_both : (xs ys : List Stamped) → signs_in (xs ++ ys) ≡ signs_in xs ++ signs_in ys
signs_both [] ys = refl
signs_both (x ∷ xs) ys = ap (λ l. sign_in x ∷ l) (signs_both xs ys)

module _ (many : Bool) (n c dev : ℕ) where
  speaks_up : (old : MachineState) (k : ℕ) (o : Out) (new : MachineState) (does : Does old (Moved (act.Speaks k o)) new) → KeepsLine many n c dev old (Moved (act.Speaks k o)) new does
      → (d : DiskState) → (bay_at old n).unit ≡ Disk d → MarksLow old.fan n → (b : Bool) → (k == n) ≡ b → AllWell (if b then Sends o ∷ [] else [])
      → up_in (if b then Sends o ∷ [] else []) ≡ signs_in (of_conn n c (risen old.fan k does.does.does.1.frame ∷ []))
  speaks_up old k o new does keeps d unit low true same well =
      let h = does.does.does.1 in
      let f : Stamped = risen old.fan k h.frame in
      let here : k ≡ n = eqb-true k n same in
      let port : f.stamp.port ≡ n = subst (λ (j : ℕ). (risen old.fan j h.frame).stamp.port ≡ n) (sym here) (stamp_is many n old h.frame keeps.end) in
      let conn : f.stamp.conn ≡ c = keeps.sent f (Contains-push [] f) port in
      let disk : h.disk ≡ d = disk_same h.disk d (sym h.there ∙ ap (λ (j : ℕ). (bay_at old j).unit) here ∙ unit) in
      let says : sign_of (seen f.bytes) ≡ sign_out o =
      risen_sign old.fan k h.frame (subst (λ (j : ℕ). MarksLow old.fan j) (sym here) low) ∙ well.0 d h.frame.bytes (subst (λ (x : DiskState). IsFis x o h.frame.bytes) disk h.bytes) in
      ap (λ s. s ∷ []) (sym says) ∙ sym (ap signs_in (is_one n c f port conn))
  speaks_up old k o new does keeps d unit low false same well =
      let h = does.does.does.1 in
      let f : Stamped = risen old.fan k h.frame in
      sym (ap signs_in (not_of n c f (f.stamp.port == n) refl (λ port. false≢true (sym same ∙ eq-eqb k n (sender_is many n old k h.frame keeps.end h.room port)))))

  move_up : (old : MachineState) (a : Act) (new : MachineState) (does : Does old (Moved a) new) → KeepsLine many n c dev old (Moved a) new does
      → (d : DiskState) → (bay_at old n).unit ≡ Disk d → MarksLow old.fan n → AllWell (calls_at old (Moved a) n)
      → up_in (calls_at old (Moved a) n) ≡ signs_in (of_conn n c (sent_by old (Moved a) new does))
  move_up old (act.Speaks k o) new does keeps d unit low well = speaks_up old k o new does keeps d unit low (k == n) refl well
  move_up old a new does keeps d unit low well = none_up (calls_at old (Moved a) n) (deed_none old (Moved a) n tt)

  deed_up : (old : MachineState) (deed : Deed) (new : MachineState) (does : Does old deed new) → KeepsLine many n c dev old deed new does
      → (d : DiskState) → (bay_at old n).unit ≡ Disk d → MarksLow old.fan n → AllWell (calls_at old deed n)
      → up_in (calls_at old deed n) ≡ signs_in (of_conn n c (sent_by old deed new does))
  deed_up old (Moved a) new does keeps d unit low well = move_up old a new does keeps d unit low well
  deed_up old (FrameOffered k frame told) new does keeps d unit low well =
      sym (ap signs_in (offers_none many n c dev old k frame told new does keeps.end d unit))
  deed_up old deed new does keeps d unit low well = none_up (calls_at old deed n) (deed_none old deed n tt)

  pub stretch_up : DisksGoOn → GoesOnRising → n < 15 → (deeds : List Deed) (old now : MachineState) (run : RunsRuled old deeds now) (was : Frames) → HaveRisen old was
      → AllKeepLine many n c dev old deeds now run → (d : DiskState) → (bay_at old n).unit ≡ Disk d → AllWell (calls_of n old deeds now run)
      → up_in (calls_of n old deeds now run) ≡ signs_in (of_conn n c (sent_of old deeds now run))
  stretch_up disks rising low [] old now run was h keeps d unit well = refl
  stretch_up disks rising low (deed ∷ later) old now run was h keeps d unit well =
      let mid : MachineState = run.1.0 in
      let calls : List Call = calls_at old deed n in
      let parts = well_both calls (calls_of n mid later now run.1.2) well in
      let one = disks old deed mid run.1.1 n d unit (left_there n deed keeps.0.left) in
      let goes : HaveRisen mid (frames_after was old deed mid run.1.1) = rising old (deed ∷ []) mid (run.0, (mid, run.1.1, (first_ruled later mid now run.1.2, refl))) was h in
      up_both calls (calls_of n mid later now run.1.2)
      ∙ ap (λ l. l ++ up_in (calls_of n mid later now run.1.2)) (deed_up old deed mid run.1.1 keeps.0 d unit (marks_low old was n low h) parts.0)
      ∙ ap (λ l. signs_in (of_conn n c (sent_by old deed mid run.1.1)) ++ l) (stretch_up disks rising low later mid now run.1.2 (frames_after was old deed mid run.1.1) goes keeps.1 (after_calls d calls) one.is parts.1)
      ∙ sym (signs_both (of_conn n c (sent_by old deed mid run.1.1)) (of_conn n c (sent_of mid later now run.1.2)))
      ∙ ap signs_in (sym (conn_both n c (sent_by old deed mid run.1.1) (sent_of mid later now run.1.2)))
