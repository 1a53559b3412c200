-- A write that is not queued, and that the guest sees completed, was stored as it was supplied for its slot.
use Rattle.std.proofs.Common.{◌≡◌, ℕ, ◌+◌, ◌-◌, ◌<◌, ◌&&◌, Bool, true, false, List, [], ◌∷◌, ◌++◌, append_assoc, length, Option, Some, None, Result}
use Rattle.std.proofs.{Common.{Ok, Err, refl, sym, ap, subst, ◌∙◌, arith}, lemmas.{Bool.{and_parts, false≢true}, Option.same_Some}}
use Rattle.std.specs.Prelude.{if◌then◌else◌, slice_get}
use Rattle.fis_view.specs.{Frames.{Stamped, marked}, Seen.seen, Table.{H2d, Command, field}, declared.view.{Fis.Fis, FisFault.FisFault}}
use Rattle.fis_view.specs.declared.view.Fis.TheVariants as view
use Rattle.slots.specs.{Slots.{Issue, issue_at}, declared.work.Work.Work}
use Rattle.guest_fetch.specs.Heads.{asked_work, fields_in}
use Rattle.ata_command.specs.{Opcodes.{opcode_of, or_other, transfer_of}, declared.opcode.Transfer.Transfer}
use Rattle.ata_command.specs.declared.asked.Asked.TheVariants as ask
use Rattle.ata_reply.specs.declared.reply.Reply.TheVariants as replies
use Rattle.block_command.specs.Laws.{IsEarned, WriteIsEarned}
use Rattle.block_command.specs.declared.command.Command as block
use Rattle.disk_pages.specs.declared.profile.Profile.{Profile}
use Rattle.sata_disk.specs.{Hearing.{asked_of, is_command}, State.DiskState}
use Rattle.sata_disk.specs.declared.out.Out.TheVariants as out
use Rattle.sata_disk_laws.specs.{Calls.{Call, Hears}, Laws.reached}
use Rattle.ahci_machine.specs.States.{IsOpeningMachine, MachineState}
use Rattle.machine_laws.specs.{ControllerLaws.{RunsRuled, calls_in}, Deeds.Deed, Feeding.came_in}
use Rattle.machine_theorem.specs.{CountedAlike.IsCountedAlike, Identity.calls_of, InTurn.{heard_in, is_answering, is_asking}}
use Rattle.machine_theorem.specs.{IssuedWork.IssuesMoveAsSupplied, SingleWrites.{IsFedWhole, IsSuppliedSingle}}
use Rattle.machine_theorem.specs.{SingleWrites.{SingleWritesAreAsSupplied, went_to}, StoredSingles.{CompletedSinglesAreStored, IsByteFed}}
use Rattle.machine_theorem.specs.{StoredSingles.{IsEndedWrite, IsNamedBy, IsStoredWhole, is_write, is_writing, writes}, Tags.once_if}
use Rattle.machine_theorem.specs.{Transfers.{is_transfer, is_transferring, transfers}, Writes.payloads}
use Rattle.machine_theorem.proofs.{BytesFed.byte_fed, Counts.{counted_alike, frame_is}, WriteNames.{are_named, writing}}

-- ---- the command that was heard last

abbrev asking_one : Call → Option (List ℕ)
asking_one (Hears b) = if is_asking b then Some b else None
asking_one c = None

abbrev either : Option (List ℕ) → Option (List ℕ) → Option (List ℕ)
either (Some x) y = Some x
either None y = y

abbrev last_of : List Call → Option (List ℕ)
last_of [] = None
last_of (c ∷ later) = either (last_of later) (asking_one c)

none_last : (l : List Call) → heard_in l ≡ 0 → last_of l ≡ None
none_last [] h = refl
none_last (Hears b ∷ later) h = by (is_asking b) (λ none. none_last later none) h
  where
    by : (x : Bool) → (heard_in later ≡ 0 → last_of later ≡ None) → once_if x + heard_in later ≡ 0
        → either (last_of later) (if x then Some b else None) ≡ None
    by true rest h = absurd (omega (arith, h))
    by false rest h = ap (λ (o : Option (List ℕ)). either o None) (rest (omega (arith, h)))
none_last (c ∷ later) h = ap (λ (o : Option (List ℕ)). either o None) (none_last later (omega (arith, h)))

last_is : (front : List Call) (b : List ℕ) (later : List Call) → is_asking b ≡ true → last_of later ≡ None
    → last_of (front ++ Hears b ∷ later) ≡ Some b
last_is [] b later asks none =
    ap (λ (o : Option (List ℕ)). either o (asking_one (Hears b))) none ∙ ap (λ (x : Bool). if x then Some b else None) asks
last_is (c ∷ front) b later asks none = ap (λ (o : Option (List ℕ)). either o (asking_one c)) (last_is front b later asks none)

same_last : (calls : List Call) (front front' later later' : List Call) (b b' : List ℕ) → calls ≡ front ++ Hears b ∷ later
    → calls ≡ front' ++ Hears b' ∷ later'
    → is_asking b ≡ true → is_asking b' ≡ true → heard_in later ≡ 0 → heard_in later' ≡ 0 → b ≡ b'
same_last calls front front' later later' b b' is is' asks asks' none none' =
    same_Some b b'
    (sym (last_is front b later asks (none_last later none)) ∙ ap last_of (sym is ∙ is') ∙ last_is front' b' later' asks' (none_last later' none'))

-- ---- such a write moves sectors

write_transfers : (o : Option Transfer) (c : ℕ) → is_write o ≡ true → is_transfer (or_other o c) ≡ true
write_transfers None c is = absurd (false≢true is)
write_transfers (Some t) c is = refl

writes_transfers : (r : Result Fis FisFault) → writes r ≡ true → transfers r ≡ true
writes_transfers (Ok (view.RegH2D f)) is =
    let both = and_parts (is_command f) (is_write (transfer_of (field H2d Command f))) is in
    ap (λ (b : Bool). b && is_transfer (opcode_of (field H2d Command f))) both.0
    ∙ write_transfers (transfer_of (field H2d Command f)) (field H2d Command f) both.1
writes_transfers (Ok other) is = absurd (false≢true is)
writes_transfers (Err fault) is = absurd (false≢true is)

-- ---- the write

pub record Laws : Type 0 where
  pub singles : SingleWritesAreAsSupplied
  pub moves : IssuesMoveAsSupplied

module _ (moves : IssuesMoveAsSupplied) (ports : ℕ) (legacy : Bool) (old : MachineState) (opening : IsOpeningMachine ports legacy old)
    (before : List Deed) (at : MachineState)
    (first : RunsRuled old before at) (n dev slot : ℕ) (low : slot < 32) (deeds : List Deed) (now : MachineState) (run : RunsRuled at deeds now)
    (p : Profile) (limit : ℕ)
    (base : List Call) (issue : Issue) (there : issue_at now.controller.core.slots slot ≡ Some issue) where
  -- the command that the books had is such a write
  stored : (calls : List Call) (w : IsFedWhole n dev slot old before at first deeds now run p limit calls issue)
      → is_writing (marked w.from.order 0) ≡ true
      → IsStoredWhole n dev slot old before at first deeds now run p limit calls issue w
  stored calls w is =
      let d : DiskState = reached p limit w.asked.before in
      let heard : w.asked.fis ≡ marked w.from.order 0 = frame_is w.asked.bytes w.asked.fis w.asked.viewed ∙ w.heard ∙ w.from.heard in
      let asks : asked_of d (marked w.from.order 0) ≡ ask.Moves w.asked.move = ap (asked_of d) (sym heard) ∙ w.asked.asks in
      let at_once : IsNamedBy d w.from.order w.asked.move.command = are_named d w.from.order is w.asked.move asks in
      let named : IsNamedBy d w.from.order w.page.command = subst (λ (c : block.Command). IsNamedBy d w.from.order c) (sym w.asked.is) at_once in
      let alike : IsCountedAlike w.from.order w.page.command =
      subst (λ (c : block.Command). IsCountedAlike w.from.order c) (sym w.asked.is)
      (counted_alike d w.from.order (writing (marked w.from.order 0) is).asks w.asked.move asks at_once.moves) in
      let work : issue.work ≡ asked_work (fields_in w.from.order) =
      moves ports legacy old opening (before ++ deeds) now w.from.whole.all slot low issue there w.from.order w.from.supplied in
      let earned : WriteIsEarned w.page.command w.page.ledger =
      subst (λ (b : Bool). IsEarned w.page.command w.page.ledger b) named.write w.earned in
      let len : length w.page.ledger.came ≡ issue.work.len = earned.all ∙ sym alike.len ∙ ap (λ (x : Work). x.len) (sym work) in
      let went : List ℕ = payloads (went_to dev (calls_in w.since.sent w.since.later now w.since.rest)) in
      let came : w.page.ledger.came ≡ went = w.all (omega (arith, len)) in
      let fed : List ℕ = came_in dev [] old w.since.done w.since.sent w.since.until in
      let long = ap (λ (l : List ℕ). length l) came in
      record {
        named = named;
        len = len;
        came = came;
        stored = earned;
        bytes = λ k below.
            (let same : k - 0 ≡ k = omega arith in
            let byte : slice_get went (k - 0) ≡ slice_get w.page.ledger.came k =
            ap (λ (j : ℕ). slice_get went j) same ∙ ap (λ (l : List ℕ). slice_get l k) (sym came) in
            subst (λ (o : Option ℕ). IsByteFed dev slot k o fed w.since.sent w.since.later now w.since.rest) byte
            (byte_fed dev slot k w.since.later w.since.sent now w.since.rest 0 fed w.since.fed (omega arith) (omega (arith, below, long))));
      }

  ended : (f : Stamped) (s : IsSuppliedSingle n dev slot old before at first deeds now run p limit base issue f)
      (answering : is_answering f.bytes ≡ true)
      → is_writing (marked (s.done.answers answering).slots.order 0) ≡ true
      → IsEndedWrite n dev slot old before at first deeds now run p limit base issue f s
  ended f s answering is =
      let a = s.done.answers answering in
      let until : List Call = calls_of n at s.done.sooner s.done.mid s.done.led in
      let moving : is_transferring a.command.bytes ≡ true = ap is_transferring a.slots.heard ∙ writes_transfers (seen (marked a.slots.order 0)) is in
      let said : s.done.said ≡ out.Of 32 replies.Done = a.ends moving in
      let w = s.whole said in
      let split : base ++ until ≡ (base ++ a.command.front) ++ Hears a.command.bytes ∷ a.command.later =
      ap (λ (l : List Call). base ++ l) a.command.split ∙ sym (append_assoc base a.command.front (Hears a.command.bytes ∷ a.command.later)) in
      let same : a.command.bytes ≡ w.bytes =
      same_last (base ++ until) (base ++ a.command.front) w.front a.command.later w.later a.command.bytes w.bytes split w.split
      a.command.asks w.asks a.none w.none in
      let orders : marked a.slots.order 0 ≡ marked w.from.order 0 = sym a.slots.heard ∙ same ∙ w.from.heard in
      record { ended = said; stored = stored (base ++ until) w (ap is_writing (sym orders) ∙ is) }

-- ---- the law

pub stored_are : Laws → CompletedSinglesAreStored
stored_are laws ports legacy old opening before at first many n c dev slot below dev_low low begins p limit base are same idle deeds now run has_link
    lasts keeps on unqueued none_queued own_data took new does rules own shows hides none issue there mine plain =
    let s =
    laws.singles ports legacy old opening before at first many n c dev slot below dev_low low begins p limit base are same idle deeds now run
    has_link lasts keeps on unqueued none_queued own_data took new does rules own shows hides none issue there mine plain in
    let answering : is_answering does.does.frame.bytes ≡ true = s.done.register plain in
    let a = s.done.answers answering in
    record {
      done = s;
      answering = answering;
      work = laws.moves ports legacy old opening (before ++ deeds) now a.slots.whole.all slot low issue there a.slots.order a.slots.supplied;
      write = λ is.
          ended laws.moves ports legacy old opening before at first n dev slot low deeds now run p limit base issue there does.does.frame s answering
          is;
    }
