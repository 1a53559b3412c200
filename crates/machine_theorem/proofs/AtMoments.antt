-- What is sent is sent at a moment of the run, and the disk's command then came from a slot.
use Rattle.std.proofs.Common.{◌≡◌, ◌⊎◌, ℕ, ◌<◌, Bool, true, List, [], ◌∷◌, ◌++◌, append_assoc, Option, Some, None, refl, sym, ap, ◌∙◌, subst, inl}
use Rattle.std.proofs.Common.{inr}
use Rattle.fis_view.specs.Frames.{Stamped}
use Rattle.block_disk.specs.Laws.{Page}
use Rattle.block_queue.specs.Line.{command_at, has_bit}
use Rattle.disk_pages.specs.declared.profile.Profile.{Profile}
use Rattle.sata_disk.specs.{Sending.{IsOut, part_at}, State.{DiskState, commands, new_disk}}
use Rattle.sata_disk.specs.declared.out.Out.TheVariants as out
use Rattle.sata_disk_books.specs.{Books.{AreOfPage, DataAreGiven, page_in}, Ended.{EndsAreOfPages, HasEarned}}
use Rattle.sata_disk_laws.specs.Calls.{AreCalls, Call, after_calls}
use Rattle.ahci_machine.specs.{Registers.lent_bytes, States.{HasRules, IsOpeningMachine, MachineState, bay_at}, declared.act.Act.Act}
use Rattle.ahci_machine.specs.declared.bay.Unit.TheVariants.{Disk}
use Rattle.ahci_machine.specs.declared.act.Act.TheVariants as act
use Rattle.machine_laws.specs.{ControllerLaws.RunsRuled, Deeds.{Deed, Does, Moved}, Heard.{DisksHaveLived, HasLived, life_in, no_life}}
use Rattle.machine_theorem.specs.{Commands.CommandsOfNewDisks, Completed.{IsFisBy, IsFisIn}, Ends.{EndOrigin, EndsAreOfDevices, HasEarnedAt, IsEndBy}}
use Rattle.machine_theorem.specs.{Ends.{IsEndIn, IsEnded}, Moments.{CompletionsAreEarned, DataAreOfSlots, Earns, EndedAtMoments, EndsAreOfSlots}}
use Rattle.machine_theorem.specs.Moments.{GivesNext, HasCommand, IsOfSlots, Moment, OfNewDisk, PayloadIsOfSlots, SentAtMoments, IsEndOfSlot}
use Rattle.machine_theorem.specs.{Origins.{IsSentBy, IsSentIn}, Parts.{IsBrought, PayloadIsBrought}}

-- ---- moments

-- one deed more
pub more : (deeds : List Deed) (first old new : MachineState) (deed : Deed) → RunsRuled first deeds old → Does old deed new → HasRules new → RunsRuled first (deeds ++ deed ∷ []) new
more [] first old new deed run does rules = (run.0, (new, subst (λ (m : MachineState). Does m deed new) run.1 does, (rules, refl)))
more (d ∷ later) first old new deed run does rules = (run.0, (run.1.0, run.1.1, more later run.1.0 old new deed run.1.2 does rules))

first_ruled : (deeds : List Deed) (old new : MachineState) → RunsRuled old deeds new → HasRules old
first_ruled [] old new run = run.0
first_ruled (deed ∷ later) old new run = run.0

abbrev Holding : Type 1
Holding = (at : MachineState) → (deed : Deed) → (new : MachineState) → Does at deed new → Type 0

-- the moment, from deeds that came before
moment_behind : (R : Holding) (old : MachineState) (past : List Deed) (m : MachineState) (deed : Deed) (later : List Deed) (next : MachineState) (does : Does m deed next)
    → RunsRuled old past m → R m deed next does → Moment old (past ++ deed ∷ later) R
moment_behind R old past m deed later next does first holds = record {
  before = past;
  at = m;
  first = first;
  deed = deed;
  new = next;
  does = does;
  later = later;
  is = refl;
  holds = holds;
}

abbrev OverRuns : Type 1
OverRuns = (old : MachineState) → (deeds : List Deed) → (new : MachineState) → RunsRuled old deeds new → Type 0

-- what a run has by one of its deeds, it has at a moment
module _ (R : Holding) (In : OverRuns) (none : (m now : MachineState) (run : RunsRuled m [] now) → In m [] now run → ⊥)
    (one : (m : MachineState) (deed : Deed) (later : List Deed) (now : MachineState) (run : RunsRuled m (deed ∷ later) now) → In m (deed ∷ later) now run
    → R m deed run.1.0 run.1.1 ⊎ In run.1.0 later now run.1.2) where
  moment_from : (old : MachineState) (past : List Deed) (m : MachineState) → RunsRuled old past m → (deeds : List Deed) (now : MachineState) (run : RunsRuled m deeds now)
      → In m deeds now run → Moment old (past ++ deeds) R
  moment_from old past m first [] now run is = absurd (none m now run is)
  moment_from old past m first (deed ∷ later) now run is =
      elim (one m deed later now run is) [
        | inl here ↦ moment_behind R old past m deed later run.1.0 run.1.1 first here
        | inr there ↦
            subst (λ (l : List Deed). Moment old l R) (append_assoc past (deed ∷ []) later)
            (moment_from old (past ++ deed ∷ []) run.1.0 (more past old m run.1.0 deed first run.1.1 (first_ruled later run.1.0 now run.1.2)) later now run.1.2 there)
      ]

  moment_at : (old : MachineState) (deeds : List Deed) (now : MachineState) (run : RunsRuled old deeds now) → In old deeds now run → Moment old deeds R
  moment_at old deeds now run is = moment_from old [] old (first_ruled deeds old now run, refl) deeds now run is

pub sent_at : SentAtMoments
sent_at f old deeds now run sent = moment_at (IsSentBy f) (IsSentIn f) (λ m now run h. h) (λ m deed later now run h. h) old deeds now run sent

pub ended_at : EndedAtMoments
ended_at f tag old deeds now run sent = moment_at (IsEndBy f tag) (IsEndIn f tag) (λ m now run h. h) (λ m deed later now run h. h) old deeds now run sent

pub fis_at : (f : Stamped) (old : MachineState) (deeds : List Deed) (now : MachineState) (run : RunsRuled old deeds now) → IsFisIn f old deeds now run → Moment old deeds (IsFisBy f)
fis_at f old deeds now run sent = moment_at (IsFisBy f) (IsFisIn f) (λ m now run h. h) (λ m deed later now run h. h) old deeds now run sent

-- ---- what a disk sends

pub record Laws : Type 0 where
  pub lived : DisksHaveLived
  pub fresh : CommandsOfNewDisks
  pub given : DataAreGiven
  pub ends : EndsAreOfPages

module _ (laws : Laws) (ports : ℕ) (legacy : Bool) (old : MachineState) (opening : IsOpeningMachine ports legacy old) (deeds : List Deed) (now : MachineState)
    (run : RunsRuled old deeds now) (n : ℕ) where
  abbrev calls : List Call
  calls = (life_in n no_life old deeds now run).calls

  -- the page of a place, of which this holds
  has_command : (d : DiskState) (there : (bay_at now n).unit ≡ Disk d) (lived : HasLived (life_in n no_life old deeds now run) d) (place : ℕ) (Holds : Page → Type 0) (p : Profile)
      (limit : ℕ) → lived.disk ≡ new_disk p limit → (page : Page) → page_in p limit calls place ≡ Some page → Holds page → HasCommand old deeds now run n place Holds p limit
  has_command d there lived place Holds p limit new page is holds =
      record { page = page; is = is; holds = holds; command = laws.fresh ports legacy old opening deeds now run n d there lived p limit new place page is }

  data_command : (d : DiskState) (there : (bay_at now n).unit ≡ Disk d) (lived : HasLived (life_in n no_life old deeds now run) d) (place : ℕ) (p : Profile) (limit : ℕ)
      → lived.disk ≡ new_disk p limit → (x : Option Page) → page_in p limit calls place ≡ x → AreOfPage x (part_at (command_at (commands d) place))
      → HasCommand old deeds now run n place (GivesNext place d) p limit
  data_command d there lived place p limit new None is next = absurd next
  data_command d there lived place p limit new (Some page) is next = has_command d there lived place (GivesNext place d) p limit new page is next

  end_command : (d : DiskState) (there : (bay_at now n).unit ≡ Disk d) (lived : HasLived (life_in n no_life old deeds now run) d) (tag : ℕ) (p : Profile) (limit : ℕ)
      → lived.disk ≡ new_disk p limit → (x : Option Page) → page_in p limit calls tag ≡ x → HasEarned x → HasCommand old deeds now run n tag (Earns d) p limit
  end_command d there lived tag p limit new None is earned = absurd earned
  end_command d there lived tag p limit new (Some page) is earned = has_command d there lived tag (Earns d) p limit new page is earned

  data_of : (place len : ℕ) (d : DiskState) → (bay_at now n).unit ≡ Disk d → IsOut d (Some (out.Data place len)) → OfNewDisk old deeds now run n place (GivesNext place)
  data_of place len d there next =
      let lived : HasLived (life_in n no_life old deeds now run) d = laws.lived ports legacy old opening deeds now run n d there in
      record {
        disk = d;
        there = there;
        lived = lived;
        new = λ p limit new.
            let same : d ≡ after_calls (new_disk p limit) calls = lived.is ∙ ap (λ (x : DiskState). after_calls x calls) new in
            let are : AreCalls (new_disk p limit) calls = subst (λ (x : DiskState). AreCalls x calls) new lived.are in
            data_command d there lived place p limit new (page_in p limit calls place) refl
            (subst (λ (x : DiskState). AreOfPage (page_in p limit calls place) (part_at (command_at (commands x) place))) (sym same)
            (laws.given p limit calls place len are (subst (λ (x : DiskState). IsOut x (Some (out.Data place len))) same next)));
      }

  end_of : (tags tag : ℕ) → tag < 32 → has_bit tags tag ≡ true → (d : DiskState) → (bay_at now n).unit ≡ Disk d → IsOut d (Some (out.Ends tags))
      → OfNewDisk old deeds now run n tag Earns
  end_of tags tag low bit d there next =
      let lived : HasLived (life_in n no_life old deeds now run) d = laws.lived ports legacy old opening deeds now run n d there in
      record {
        disk = d;
        there = there;
        lived = lived;
        new = λ p limit new.
            let same : d ≡ after_calls (new_disk p limit) calls = lived.is ∙ ap (λ (x : DiskState). after_calls x calls) new in
            let are : AreCalls (new_disk p limit) calls = subst (λ (x : DiskState). AreCalls x calls) new lived.are in
            end_command d there lived tag p limit new (page_in p limit calls tag) refl
            (laws.ends p limit calls tags are (subst (λ (x : DiskState). IsOut x (Some (out.Ends tags))) same next) tag low bit);
      }

pub data_are : Laws → DataAreOfSlots
data_are laws ports legacy old opening deeds now run n place len new does =
    let h = does.does.does.1 in
    data_of laws ports legacy old opening deeds now run n place len h.disk h.there h.next

pub ends_are : Laws → EndsAreOfSlots
ends_are laws ports legacy old opening deeds now run n tags new does tag low bit =
    let h = does.does.does.1 in
    end_of laws ports legacy old opening deeds now run n tags tag low bit h.disk h.there h.next

-- ---- the payload

module _ (laws : Laws) (ports : ℕ) (legacy : Bool) (old : MachineState) (opening : IsOpeningMachine ports legacy old) (before : List Deed) (at : MachineState)
    (first : RunsRuled old before at) where
  move_of : (a : Act) (new : MachineState) → Does at (Moved a) new → IsOfSlots old before at first (Moved a)
  move_of (act.Speaks n (out.Data place len)) new does = data_are laws ports legacy old opening before at first n place len new does
  move_of a new does = tt

  deed_of : (deed : Deed) (new : MachineState) → Does at deed new → IsOfSlots old before at first deed
  deed_of (Moved a) new does = move_of a new does
  deed_of deed new does = tt

pub payload_is : Laws → PayloadIsBrought → PayloadIsOfSlots
payload_is laws law ports legacy old opening deeds now run m new does =
    let brought : IsBrought old deeds now run m (lent_bytes new) = law ports legacy old opening deeds now run m new does in
    let sent : Moment old deeds (IsSentBy brought.fis) = sent_at brought.fis old deeds now run brought.sent in
    record { brought = brought; sent = sent; command = deed_of laws ports legacy old opening sent.before sent.at sent.first sent.deed sent.new sent.does }

-- ---- the ends

module _ (laws : Laws) (ports : ℕ) (legacy : Bool) (old : MachineState) (opening : IsOpeningMachine ports legacy old) (before : List Deed) (at : MachineState)
    (first : RunsRuled old before at) where
  of_earned : (n tag : ℕ) → HasEarnedAt at n tag → OfNewDisk old before at first n tag Earns
  of_earned n tag h =
      let lived : HasLived (life_in n no_life old before at first) h.disk = laws.lived ports legacy old opening before at first n h.disk h.there in
      let since : List Call = (life_in n no_life old before at first).calls in
      record {
        disk = h.disk;
        there = h.there;
        lived = lived;
        new = λ p limit new.
            let same : h.disk ≡ after_calls (new_disk p limit) since = lived.is ∙ ap (λ (x : DiskState). after_calls x since) new in
            let are : AreCalls (new_disk p limit) since = subst (λ (x : DiskState). AreCalls x since) new lived.are in
            end_command laws ports legacy old opening before at first n h.disk h.there lived tag p limit new (page_in p limit since tag) refl (h.earned p limit since are same);
      }

  end_move : (a : Act) (tag : ℕ) → EndOrigin at (Moved a) tag → IsEndOfSlot old before at first (Moved a) tag
  end_move (act.Speaks n out) tag origin = of_earned n tag origin
  end_move a tag origin = tt

  end_deed : (deed : Deed) (tag : ℕ) → EndOrigin at deed tag → IsEndOfSlot old before at first deed tag
  end_deed (Moved a) tag origin = end_move a tag origin
  end_deed deed tag origin = tt

pub completions : Laws → EndsAreOfDevices → CompletionsAreEarned
completions laws law ports legacy old opening deeds now run took new does rules slot low shows hides =
    let ended : IsEnded old deeds now run new.fan does.does.frame slot = law ports legacy old opening deeds now run took new does rules slot low shows hides in
    let sent : Moment old deeds (IsEndBy does.does.frame slot) = ended_at does.does.frame slot old deeds now run ended.sent in
    record {
      ended = ended;
      sent = sent;
      command = end_deed laws ports legacy old opening sent.before sent.at sent.first sent.deed slot sent.holds.origin;
    }
