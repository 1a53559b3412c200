-- The slot's command and the disk's are of one length, of a command that is not queued and that the guest sees completed.
use Rattle.std.proofs.{Common.{◌≡◌, ℕ, ◌<◌, Bool, true, false, not, List, ◌++◌, Option, Some, Ok, refl, sym, ap, subst, ◌∙◌}, lemmas.Bool.and_parts}
use Rattle.std.proofs.lemmas.Bool.{false≢true}
use Rattle.std.specs.Prelude.{◌==◌, MatchOption}
use Rattle.fis_view.specs.{Frames.marked, Seen.seen, Table.{H2d, C, Command, PmPort, field}}
use Rattle.fis_view.specs.declared.view.Fis.TheVariants as view
use Rattle.slots.specs.{Slots.{Issue, has_bit, is_control, is_queued_issue, is_waiting, issue_at}, Table.IsIssue, Work.is_read}
use Rattle.slots.specs.declared.work.Work.{Work}
use Rattle.guest_fetch.specs.Heads.{asked_work, fields_in}
use Rattle.ata_command.specs.declared.asked.Asked.TheVariants as ask
use Rattle.block_command.specs.Moments.{is_verify}
use Rattle.block_command.specs.declared.command.Command as block
use Rattle.controller_laws.specs.Events.{Event, IsController, Runs}
use Rattle.ahci_registers.specs.declared.register.Register.TheVariants.{PxCi, PxSact}
use Rattle.ahci_controller.specs.{Reading.shown, States.ControllerState, declared.taking.Took.Took}
use Rattle.disk_pages.specs.declared.profile.Profile.{Profile}
use Rattle.sata_disk.specs.{Hearing.{asked_of, is_command}, State.DiskState}
use Rattle.sata_disk_books.specs.Books.{IsAskedFor}
use Rattle.sata_disk_laws.specs.{Calls.Call, Laws.reached}
use Rattle.ahci_machine.specs.States.{HasRules, IsOpeningMachine, MachineState}
use Rattle.ahci_machine.specs.declared.act.Act.TheVariants as act
use Rattle.machine_laws.specs.{ControllerLaws.RunsRuled, Deeds.{Deed, Does, Moved}}
use Rattle.machine_theorem.specs.{Completed.CompletionsAreOfDevices, CountedAlike.IsCountedAlike, InTurn.{commands, is_asking}}
use Rattle.machine_theorem.specs.{IssuedWork.IssuesMoveAsSupplied, PioIn.UnqueuedAreOfSlotsIf, Singles.IsFromSlot}
use Rattle.machine_theorem.specs.WholeSingles.{MovesSectors, UnqueuedAreWholeIf}
use Rattle.machine_theorem.proofs.{Counts.{control_at, counted_alike, frame_is, marked_fields, work_at}, Own.last_ruled, SinglesOwn.completed_waits}
use Rattle.machine_theorem.proofs.Stretch.{whole_run}

-- ---- what waits is a command

sent_command : (o : Option Issue) (i : Issue) → MatchOption o (Unit {0}) IsIssue → o ≡ Some i → is_waiting i ≡ true → is_control i.work.kind ≡ false
sent_command o i ok is waits =
    let issue : IsIssue i = subst (λ (x : Option Issue). MatchOption x (Unit {0}) IsIssue) is ok in
    issue.controls (and_parts i.sent (not i.answered) waits).0

command_bit : (fis : List ℕ) (w : Work) → w ≡ asked_work (fields_in fis) → is_control w.kind ≡ false → (field H2d C fis == 1) ≡ true
command_bit fis w work command = by (field H2d C fis == 1) refl
  where
    by : (b : Bool) → (field H2d C fis == 1) ≡ b → b ≡ true
    by true e = refl
    by false e = absurd (false≢true (sym command ∙ ap (λ (x : Work). is_control x.kind) work
        ∙ ap (λ (b : Bool). is_control (work_at (fields_in fis) b (field H2d Command fis)).kind) e
        ∙ control_at (fields_in fis) (field H2d Command fis)))

-- the FIS that a disk heard is a command, too
heard_asks : (fis bytes g : List ℕ) → bytes ≡ marked fis 0 → seen bytes ≡ Ok (view.RegH2D g) → (field H2d C fis == 1) ≡ true
    → is_asking (marked fis 0) ≡ true
heard_asks fis bytes g heard viewed c =
    let seen_so : seen (marked fis 0) ≡ Ok (view.RegH2D g) = ap seen (sym heard) ∙ viewed in
    ap commands seen_so ∙ ap is_command (frame_is (marked fis 0) g seen_so)
    ∙ ap (λ (n : ℕ). n == 1) (marked_fields fis g seen_so C (λ (e : C ≡ PmPort). cc)) ∙ c

-- ---- a command from the slot

pub record Laws : Type 0 where
  pub completed : CompletionsAreOfDevices
  pub moves : IssuesMoveAsSupplied

module _ (laws : Laws) (ports : ℕ) (legacy : Bool) (old : MachineState) (opening : IsOpeningMachine ports legacy old) (before : List Deed)
    (at : MachineState) (first : RunsRuled old before at) (dev slot : ℕ) (low : slot < 32) (deeds : List Deed) (now : MachineState)
    (run : RunsRuled at deeds now) (issue : Issue) (there : issue_at now.controller.core.slots slot ≡ Some issue) where
  -- this FIS asked for it
  of_slot : is_control issue.work.kind ≡ false → (p : Profile) (limit : ℕ) (calls : List Call) (c : block.Command)
      (asked : IsAskedFor p limit calls c) → IsFromSlot dev slot old before at first deeds now run asked.bytes
      → is_verify c.protocol ≡ false → MovesSectors issue c
  of_slot command p limit calls c asked slots moves =
      let d : DiskState = reached p limit asked.before in
      let fis : List ℕ = slots.order in
      let work : issue.work ≡ asked_work (fields_in fis) =
      laws.moves ports legacy old opening (before ++ deeds) now slots.whole.all slot low issue there fis slots.supplied in
      let asks : is_asking (marked fis 0) ≡ true =
      heard_asks fis asked.bytes asked.fis slots.heard asked.viewed (command_bit fis issue.work work command) in
      let heard : asked.fis ≡ marked fis 0 = frame_is asked.bytes asked.fis asked.viewed ∙ slots.heard in
      let same : asked_of d (marked fis 0) ≡ ask.Moves asked.move = ap (asked_of d) (sym heard) ∙ asked.asks in
      let alike : IsCountedAlike fis c =
      subst (λ (x : block.Command). IsCountedAlike fis x) (sym asked.is)
      (counted_alike d fis asks asked.move same (ap (λ (x : block.Command). is_verify x.protocol) (sym asked.is) ∙ moves)) in
      record { len = ap (λ (w : Work). w.len) work ∙ alike.len; way = ap (λ (w : Work). is_read w.kind) work ∙ alike.way }

  -- what completes was sent
  is_sent : (took : Took) (new : MachineState) → Does now (Moved (act.Takes took)) new → HasRules new
      → has_bit (shown PxCi now.controller) slot ≡ true → has_bit (shown PxCi new.controller) slot ≡ false
      → has_bit (shown PxSact new.controller) slot ≡ false → is_queued_issue issue ≡ false
      → is_control issue.work.kind ≡ false
  is_sent took new does rules shows hides none plain =
      let ruled : HasRules now = last_ruled deeds at now run in
      let k : IsController now.controller = record { port = ruled.port; slots = ruled.slots; rules = ruled.rules } in
      let ended =
      (laws.completed ports legacy old opening (before ++ deeds) now (whole_run before old at first deeds now run).all took new does rules slot low
      shows hides none).ended in
      let waits : is_waiting issue ≡ true = completed_waits slot low now.controller k does.does.frame.bytes ended issue there plain in
      sent_command (issue_at now.controller.core.slots slot) issue (k.slots.issues slot) there waits

-- ---- the laws

pub unqueued_whole : Laws
    → (Waits : (dev : ℕ) → (old : ControllerState) → (events : List Event) → (now : ControllerState) → Runs old events now → Type 0)
    → UnqueuedAreOfSlotsIf Waits → UnqueuedAreWholeIf Waits
unqueued_whole laws Waits law ports legacy old opening before at first many n c dev slot below dev_low low begins p limit base are same idle
    deeds now run has_link lasts keeps on runs of waiting took new does rules own shows hides none issue there mine plain clear =
    let done =
    law ports legacy old opening before at first many n c dev slot below dev_low low begins p limit base are same idle deeds now run
    has_link lasts keeps on runs of waiting took new does rules own shows hides none issue there mine plain clear in
    let command : is_control issue.work.kind ≡ false =
    is_sent laws ports legacy old opening before at first dev slot low deeds now run issue there took new does rules shows hides none plain in
    record {
      done = done;
      moved = λ said moves.
          (let s = done.slots said in
          of_slot laws ports legacy old opening before at first dev slot low deeds now run issue there command p limit _ s.page.command s.asked
          s.slots moves);
      read = λ other count is moves.
          (let r = (done.ends other).read count is in
          of_slot laws ports legacy old opening before at first dev slot low deeds now run issue there command p limit _ r.read.whole.was.command
          r.read.turn.asked r.slots moves);
    }
