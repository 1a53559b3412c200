-- The FIS that ends a command is one that a device sent.
use Rattle.std.proofs.Common.{◌≡◌, ℕ, true, List, [], ◌∷◌, Result, Ok, Err, Some, refl, subst, ◌<◌, inl, inr, All, Contains}
use Rattle.std.proofs.lemmas.List.Elements.{All-contains, All-contains_itself, All-nil, All-weaker, Contains-append_right, Contains-push}
use Rattle.fis_view.specs.Frames.{Stamped}
use Rattle.hba_fbs.specs.Taking.{port_of}
use Rattle.controller_laws.specs.Ends.{IssuesFall}
use Rattle.ata_reply.specs.declared.reply.Reply.TheVariants as replies
use Rattle.sata_disk.specs.{Sending.{IsFis as IsDiskFis, IsOut}, State.DiskState, declared.out.Out.Out}
use Rattle.sata_disk.specs.declared.out.Out.TheVariants as out
use Rattle.sata_disk_books.specs.Ended.{SinglesAreOfPages}
use Rattle.ahci_machine.specs.{States.{HasRules, MachineState, bay_at}, declared.{bay.Unit.TheVariants.Disk, act.Act.Act}}
use Rattle.ahci_machine.specs.declared.act.Act.TheVariants as act
use Rattle.machine_laws.specs.{ControllerLaws.RunsRuled, Deeds.{Deed, Does, Moved, FrameOffered}, Marks.{AreMarked, GoesOnMarked, IsMarked}}
use Rattle.machine_laws.specs.{Marks.{OpensMarked, PortFramesAreSent}, Rising.{Frames, HaveRisen, came_by, frames_after, frames_in, is_multiplier}}
use Rattle.machine_laws.specs.Rising.{is_reset, no_frames, risen, sent_by, unless_back}
use Rattle.machine_theorem.specs.{Completed.{CompletionsAreOfDevices, FisOrigin, IsFisIn}, Origins.sender}
use Rattle.machine_theorem.proofs.{Completed.ended_now, Falls.Laws, Own.{all_in, last_ruled}, Sent.{AllSent, only, stamped}, Taken.more_sent}

pub record Marks : Type 0 where
  pub opens : OpensMarked
  pub goes : GoesOnMarked
  pub sent : PortFramesAreSent
  pub singles : SinglesAreOfPages

-- ---- what each device sends

-- its stamp has the port of its device, and what a disk says is earned
record IsFis (old : MachineState) (deed : Deed) (f : Stamped) : Type 0 where
  port : is_multiplier old.fan ≡ true → f.stamp.port ≡ sender deed
  origin : FisOrigin old deed

pub origin_of : SinglesAreOfPages → (old : MachineState) (n : ℕ) (o : Out) (disk : DiskState) (bytes : List ℕ) → (bay_at old n).unit ≡ Disk disk → IsOut disk (Some o) → IsDiskFis disk o bytes
    → FisOrigin old (Moved (act.Speaks n o))
origin_of law old n (out.Of place replies.Done) disk bytes there next fis = record {
  disk = disk;
  there = there;
  earned = λ p limit calls are same.
      law p limit calls place bytes are (subst (λ (d : DiskState). IsOut d (Some (out.Of place replies.Done))) same next)
      (subst (λ (d : DiskState). IsDiskFis d (out.Of place replies.Done) bytes) same fis);
}
origin_of law old n o disk bytes there next fis = tt

offers : (old : MachineState) (n : ℕ) (frame : Stamped) (told answer : Result (Unit {0}) Stamped) → All (IsFis old (FrameOffered n frame told)) (unless_back answer (risen old.fan n frame))
offers old n frame told (Ok x) = only (IsFis old (FrameOffered n frame told)) (risen old.fan n frame) (record { port = stamped old.fan n frame; origin = tt })
offers old n frame told (Err back) = All-nil (IsFis old (FrameOffered n frame told))

moves : SinglesAreOfPages → (old : MachineState) (a : Act) (new : MachineState) (does : Does old (Moved a) new) → All (IsFis old (Moved a)) (sent_by old (Moved a) new does)
moves law old (act.Speaks n o) new does =
    let h = does.does.does.1 in
    only (IsFis old (Moved (act.Speaks n o))) (risen old.fan n h.frame) (record { port = stamped old.fan n h.frame; origin = origin_of law old n o h.disk h.frame.bytes h.there h.next h.bytes })
moves law old a new does = All-nil (IsFis old (Moved a))

fises : SinglesAreOfPages → (old : MachineState) (deed : Deed) (new : MachineState) (does : Does old deed new) → All (IsFis old deed) (sent_by old deed new does)
fises law old (Moved a) new does = moves law old a new does
fises law old (FrameOffered n frame told) new does = offers old n frame told told
fises law old deed new does = All-nil (IsFis old deed)

-- what holds of each FIS of a run
each_fis : SinglesAreOfPages → (P : Stamped → Type 0) (old : MachineState) (deeds : List Deed) (new : MachineState) (run : RunsRuled old deeds new) → ((f : Stamped) → IsFisIn f old deeds new run → P f) → AllSent P old deeds new run
each_fis law P old [] new run holds = tt
each_fis law P old (deed ∷ later) new run holds =
    let sent : List Stamped = sent_by old deed run.1.0 run.1.1 in (
      All-weaker (λ f. Contains sent f) P
          (λ f has.
          let fis : IsFis old deed f = All-contains (IsFis old deed) sent f (fises law old deed run.1.0 run.1.1) has in
          holds f (inl (record { sent = has; port = fis.port; origin = fis.origin }))) sent (All-contains_itself sent),
      each_fis law P run.1.0 later new run.1.2 (λ f is. holds f (inr is)),
    )

-- ---- the law

pub completions : Laws → IssuesFall → Marks → CompletionsAreOfDevices
completions laws fall marks ports legacy old opening deeds now run took new does rules slot low shows hides none =
    let h = does.does in
    let deed : Deed = Moved (act.Takes took) in
    let kept : HasRules now = last_ruled deeds old now run in
    let P : Stamped → Type 0 = λ f. IsFisIn f old deeds now run in
    let before : Frames = frames_in no_frames old deeds now run in
    let after : Frames = frames_after before now deed new does in
    let step : RunsRuled now (deed ∷ []) new = (kept, (new, does, (rules, refl))) in
    let first : HaveRisen old no_frames = laws.opens_rising ports legacy old opening in
    let risen_before : HaveRisen now before = laws.rising old deeds now run no_frames first in
    let risen_now : HaveRisen new after = laws.rising now (deed ∷ []) new step before risen_before in
    let marked_before : AreMarked now before = marks.goes old deeds now run no_frames first (marks.opens ports legacy old opening) in
    let marked : AreMarked new after = marks.goes now (deed ∷ []) new step before risen_before marked_before in
    let has : Contains after.came h.frame = Contains-append_right before.came (h.frame ∷ []) h.frame (Contains-push [] h.frame) in
    let port : is_multiplier new.fan ≡ true → port_of h.frame.bytes ≡ h.frame.stamp.port = λ so. All-contains IsMarked after.came h.frame (marked.came so) has h.framed in
    let sent : All P after.sent =
    more_sent P (is_reset deed) before (sent_by now deed new does) (came_by now deed new does)
    (all_in P old deeds now run no_frames (All-nil P) (each_fis marks.singles P old deeds now run (λ f is. is))) (All-nil P) in
    record {
      ended = ended_now laws fall ports legacy old opening deeds now run took new does rules slot low shows hides none;
      port = port;
      sent = λ below. All-contains P after.sent h.frame sent (marks.sent new after risen_now h.frame has (λ so. subst (λ (k : ℕ). k < 15) (port so) (below so)));
    }
