-- The command that is not queued, and whose bit of PxCI falls, is the one that its disk ended, be it by a Register FIS or by the last Data of a PIO data-in.
use Rattle.std.proofs.Common.{◌≡◌, ℕ, suc, ◌+◌, ◌<◌, ◌≤◌, ◌&&◌, Bool, true, false, not, List, [], ◌∷◌, ◌++◌, append_assoc, length, Option, Some}
use Rattle.std.proofs.{Common.{None, refl, sym, ap, subst, ◌∙◌, inl, inr, arith}, lemmas.{Bool.{eq-eqb, false≢true}, List.{length-append}}}
use Rattle.std.specs.{Prelude.{◌==◌, ◌||◌, if◌then◌else◌, nat_lt, MatchOption}, List.flat_map}
use Rattle.fis_view.specs.{Frames.{Stamped, marked}, Seen.seen}
use Rattle.multiplier.specs.Passing.{of_conn}
use Rattle.slots.specs.Slots.{Issue, context_of, is_pio, is_waiting, issue_at, own_issue, slots_of}
use Rattle.hba_commands.specs.declared.command.Command as core_command
use Rattle.hba_laws.specs.{CoreHistories.CoreViewsAreTold}
use Rattle.hba_laws.proofs.Door.{own_here}
use Rattle.ahci_controller.specs.{States.ControllerState, declared.taking.Took.Took}
use Rattle.ahci_controller.specs.declared.next.Next.TheVariants as next
use Rattle.controller_laws.specs.Events as call
use Rattle.controller_laws.specs.{Events.{Event, IsController, Runs}, Sources.{IsIssuedFrom, command_of}}
use Rattle.ata_reply.specs.declared.reply.Reply.TheVariants as replies
use Rattle.disk_pages.specs.declared.profile.Profile.{Profile}
use Rattle.sata_disk.specs.{Sending.IsOut, State.{DiskState, new_disk}, declared.out.Out.Out}
use Rattle.sata_disk.specs.declared.out.Out.TheVariants as out
use Rattle.sata_disk_books.specs.{Books.page_in, Ended.SinglesAreOfPages, LastData.sets_up_last}
use Rattle.sata_disk_laws.specs.{Calls.{AreCalls, Call, Hears, Sends, after_calls}, Laws.reached, Once.{AnswersAreSingle, ForLast, ForNothing, Host}}
use Rattle.sata_disk_laws.specs.Once.{IsDataAt, IsOutDue, host_of, new_host, out_got}
use Rattle.sata_disk_laws.proofs.Door.{calls_after, calls_both}
use Rattle.ahci_machine.specs.{Gathers.host_stamp, States.{IsOpeningMachine, MachineState, bay_at}, declared.bay.Unit.TheVariants.Disk}
use Rattle.ahci_machine.specs.declared.act.Act.TheVariants as act
use Rattle.machine_laws.specs.{ControllerLaws.{ControllerRuns, OpensSo, RunsRuled, calls_in}, Controllers.GathersDue, Deeds.{Deed, Does}}
use Rattle.machine_laws.specs.{Deeds.{FrameOffered, Moved}, Disks.{DisksGoOn, calls_at}, Falling.{AllLast, HasLink, heard_by}, Feeding.IsOrderOf}
use Rattle.machine_laws.specs.{Feeding.IsOrdered, Rising.{AreLinked, Frames, FramesAreTaken, FramesRise, HaveRisen, bytes_of, frames_in, frames_of}}
use Rattle.machine_laws.specs.Rising.{no_frames, risen, sent_by}
use Rattle.machine_theorem.specs.{Completed.CompletionsAreOfDevices, Given.IsWhole, Ending.{AllKeepEnding, SentLastWait, UnqueuedCommandsWait}}
use Rattle.machine_theorem.specs.{Ending.carries, Identity.{calls_of, is_for, picks}, InTurn.{AreKeptOn, IsIdle, heard_in, is_answer, is_answering}}
use Rattle.machine_theorem.specs.{InTurn.is_asking, OwnSlots.{AllKeepLine, KeepsLine, is_of}, PioIn.{IsAnsweredThere, IsDoneThere, IsEndedThere}}
use Rattle.machine_theorem.specs.{PioIn.{IsLeftIdle, IsWholeThere, PlainUnqueuedAreOfSlots, UnqueuedAreOfSlots}, Settled.AreSettled}
use Rattle.machine_theorem.specs.Settled.{CommandsAreSettledInTurn, IsAskedInTurn, IsBehindLastBlock, IsSettledLast, IsUnsettled, SectorsEndByData}
use Rattle.machine_theorem.specs.{FirstDeeds.{first_deeds, first_run, machine_at}, Settled.{IsWholeInTurn, is_data, is_settling, settled_in}}
use Rattle.machine_theorem.specs.{Singles.{AllOfDevice, BeginsIdle, IsFromSlot, IsSlots, StartsWith}, Tags.once_if}
use Rattle.machine_theorem.specs.{Transfers.{TransfersEndSo, is_transferring}, Waits.{IsWaitingAlone, commanded_in, is_commanded, waits_in}}
use Rattle.machine_theorem.specs.Crossing.{Within}
use Rattle.machine_theorem.proofs.{Answered.heard_both, AsSupplied.supplied_in, Asking.all_none as data_none, Closing.{EndsTrue, await_settled, due}}
use Rattle.machine_theorem.proofs.{Closing.{due_shut, settled_last, taken_kinds}, Commanded.{AreNoCommands, all_none, asked, asked_few, heard_long}}
use Rattle.machine_theorem.proofs.{EndsFew.{disk_same, sent_of}, ErrorNone.{IsErrorFis, fails_with}, Fallen.{heard_among, line_stays}, Falls.Told}
use Rattle.machine_theorem.proofs.{Falls.{kept_of, told_after, told_now}, FallsFew.came_of, KindsSent.{frames_kinds, said_kinds, said_long}}
use Rattle.machine_theorem.proofs.{HeardFirst.heard_first, KindsSent.{sent_within, taken_within}, LastSent.{LastSent, last_sent}, OneConn.ends_same}
use Rattle.machine_theorem.proofs.{NotLast.{data_over, free_not_last, out_not_last, waits_none}, Ordered.first_ruled, Settled.settled_both}
use Rattle.machine_theorem.proofs.{Own.last_ruled, OwnPlace.{Found, InOrder, came_one, find, frames_are, head_or, in_order, linked, port_is}}
use Rattle.machine_theorem.proofs.{OwnPlace.untaken_is, RegistersSent.says, SentFises.{GoneOn, offers_none, sender_is, stretch_made}, Still.fis_of}
use Rattle.machine_theorem.proofs.{Stretch.whole_run, Shutting.is_shut, SinglesOwn.{completed_by, completed_waits, earns, kept_behind, kept_first}}
use Rattle.machine_theorem.proofs.{SinglesOwn.{last_heard, no_error, owner_is}, TagCounts.{due_at, host_then}, Waiting.{low_slot, some_waits}}
use Rattle.machine_theorem.proofs.{Within.{all_of, fewer, within_picks, within_then}, EndedByData.{answered_less, behind_block, data_ends, says_data}}
use Rattle.machine_theorem.proofs.Asking as asking
use Rattle.machine_theorem.proofs.Fallen as fallen
use Rattle.machine_theorem.proofs.Falls as falls
use Rattle.machine_theorem.proofs.Still as still
use Rattle.machine_theorem.proofs.Waiting as waiting

pub record Laws : Type 0 where
  pub falls : falls.Laws
  pub order : FramesRise
  pub taken : FramesAreTaken
  pub disks : DisksGoOn
  pub falling : fallen.Laws
  pub data_of : asking.Laws
  pub completed : CompletionsAreOfDevices
  pub turn : CommandsAreSettledInTurn
  pub sectors : SectorsEndByData
  pub transfers : TransfersEndSo
  pub views : CoreViewsAreTold
  pub last : SentLastWait
  pub single : AnswersAreSingle
  pub pages : SinglesAreOfPages
  pub kept : still.Laws

-- the laws of a controller alone
pub waiting_laws : Laws → waiting.Laws
waiting_laws laws = record { events = laws.falls.events; views = laws.views }

-- ---- the stretch

pub record Stretch : Type 0 where
  pub ports : ℕ
  pub legacy : Bool
  pub old : MachineState
  pub opening : IsOpeningMachine ports legacy old
  pub before : List Deed
  pub at : MachineState
  pub first : RunsRuled old before at
  pub many : Bool
  pub n : ℕ
  pub c : ℕ
  pub dev : ℕ
  pub slot : ℕ
  pub below : n < 15
  pub dev_low : dev < 16
  pub low : slot < 32
  pub begins : BeginsIdle n c at
  pub p : Profile
  pub limit : ℕ
  pub base : List Call
  pub are : AreCalls (new_disk p limit) base
  pub same : begins.disk ≡ reached p limit base
  pub idle : IsIdle (host_of new_host base)
  pub deeds : List Deed
  pub now : MachineState
  pub run : RunsRuled at deeds now
  pub has_link : HasLink deeds
  pub lasts : AllLast n at deeds now run
  pub keeps : AllKeepLine many n c dev at deeds now run
  pub on : AreKeptOn (calls_of n at deeds now run)
  pub runs : ControllerRuns at deeds now run
  pub of : AllOfDevice many n dev at.controller (calls_in at deeds now run) now.controller runs.calls
  pub waiting : AllKeepEnding dev at.controller (calls_in at deeds now run) now.controller runs.calls

abbrev pub calls : Stretch → List Call
calls s = calls_of s.n s.at s.deeds s.now s.run

abbrev pub events : Stretch → List Event
events s = calls_in s.at s.deeds s.now s.run

abbrev pub came : Stretch → List Stamped
came s = came_of s.at s.deeds s.now s.run

abbrev pub commanded : Stretch → ℕ
commanded s = commanded_in s.dev s.at.controller (events s) s.now.controller s.runs.calls

-- the numbers of a stretch
pub record Counts (s : Stretch) : Type 0 where
  pub heard : heard_in (calls s) ≤ length (asked s.many s.n (events s))
  pub within : Within (picks is_asking (flat_map heard_by (calls s))) (asked s.many s.n (events s))
  pub none : AreNoCommands (events s)
  pub asked : length (asked s.many s.n (events s)) ≤ commanded s
  pub ordered : commanded s + due s.dev s.at.controller ≤ length (taken_kinds s.dev (events s)) + due s.dev s.now.controller
  pub taken : Within (taken_kinds s.dev (events s)) (frames_kinds (of_conn s.n s.c (came s)))

pub counts : Laws → (s : Stretch) → Counts s
counts laws s =
    let opens : OpensSo s.old = laws.falls.opens s.ports s.legacy s.old s.opening (first_ruled s.before s.old s.at s.first) in
    let due_at_start : GathersDue s.at = (laws.falls.runs s.old s.before s.at s.first opens.due).due in
    let none : AreNoCommands (events s) =
    all_none s.deeds s.at s.now s.run (λ tag. data_none laws.data_of tag s.ports s.legacy s.old s.opening opens.due s.before s.at s.first s.deeds s.now s.run due_at_start) in
    let among = heard_among laws.falling s.many s.n s.deeds s.at s.now s.run s.begins.disk s.begins.there (line_stays s.many s.n s.c s.dev s.deeds s.at s.now s.run s.keeps) due_at_start s.has_link s.lasts
    s.begins.leaving s.begins.down in
    let within : Within (picks is_asking (flat_map heard_by (calls s))) (asked s.many s.n (events s)) = within_picks is_asking _ _ among in
    let few = fewer (picks is_asking (flat_map heard_by (calls s))) (asked s.many s.n (events s)) within in
    let long = heard_long (calls s) in
    let link : AreLinked s.deeds = linked s.many s.n s.c s.dev s.deeds s.at s.now s.run s.keeps in
    let taken_is : bytes_of (came s) ≡ frames_of (events s) =
    ap (λ (x : Frames). bytes_of x.came) (sym (frames_are s.deeds s.at s.now s.run no_frames link)) ∙ laws.taken s.at s.deeds s.now s.run no_frames link in
    let t : Told s.at.controller = told_now laws.falls s.ports s.legacy s.old s.opening s.before s.at s.first in
    record {
      heard = omega (arith, few, long);
      within = within;
      none = none;
      asked = asked_few s.many s.n s.dev (events s) s.at.controller s.now.controller s.runs.calls none s.of;
      ordered = await_settled (waiting_laws laws) s.dev s.dev_low s.at.controller s.now.controller (events s) s.runs.calls s.waiting (t.past s.dev) (t.told s.dev s.dev_low);
      taken = taken_within s.n s.c s.dev (events s) (came s) taken_is (came_one s.many s.n s.c s.dev s.deeds s.at s.now s.run s.keeps);
    }

pub once_most : (b : Bool) → once_if b ≤ 1
once_most true = omega arith
once_most false = omega arith

abbrev LastOf : Stretch → Type 0
LastOf s = LastSent s.many s.n s.dev s.at.controller (events s) s.now.controller s.runs.calls

pub either : {A : Type 0} (b : Bool) → (b ≡ true → A) → (b ≡ false → A) → A
either true one other = one refl
either false one other = other refl

module _ (laws : Laws) (s : Stretch) where
  abbrev start : ControllerState
  start = s.at.controller

  abbrev end : ControllerState
  end = s.now.controller

  -- what goes is the command of its slot, as it was supplied
  order_at : (at mid : ControllerState) (to slot : ℕ) (fis : List ℕ) → IsController at → call.Does at (call.Turned (next.Order to slot fis)) mid
      → IsOrdered at to slot fis
  order_at at mid to slot fis k does =
      let order : IsOrderOf at to slot fis = laws.kept.slots at mid to slot fis does in
      record {
        issued = order;
        supplied = λ sources are source is.
            fis_of (command_of source) order.command fis order.bytes
            (subst (λ (o : Option core_command.Command). MatchOption o (Unit {0}) (IsIssuedFrom (command_of source))) order.is (laws.kept.core at k slot sources are source is));
      }

  -- the last command of the stretch
  record Waits (l : LastOf s) : Type 0 where
    same : l.to ≡ s.dev
    waits : IsWaitingAlone s.dev l.slot l.later end
    low : l.slot < 32

  -- where none went behind the last, it waits if a slot does
  abbrev Rest : LastOf s → ℕ → Type 0
  Rest l to = (rest : Runs l.at (call.Turned (next.Order to l.slot l.fis) ∷ l.later) end) → is_commanded s.dev l.at (call.Turned (next.Order to l.slot l.fis)) ≡ true
      → commanded_in s.dev rest.1.0 l.later end rest.1.2 ≡ 0 → Told l.at → l.slot < 32 → IsWaitingAlone s.dev l.slot l.later end

  last_waits : (l : LastOf s) → commanded s ≤ length (asked s.many s.n (events s)) → waits_in s.dev end ≡ true → Waits l
  last_waits l most waits =
      let x : Event = call.Turned (next.Order l.to l.slot l.fis) in
      let mid : ControllerState = l.rest.1.0 in
      let k : IsController l.at = l.rest.0 in
      let is : is_commanded s.dev l.at x ≡ true = l.of_rest.0 l.own l.asks in
      let one : once_if (is_commanded s.dev l.at x) ≡ 1 = ap once_if is in
      let low : l.slot < 32 = low_slot s.dev l.slot l.at k is in
      let owner : l.to ≡ s.dev = owner_is l.to s.dev (issue_at l.at.core.slots l.slot) (laws.kept.slots l.at mid l.to l.slot l.fis l.rest.1.1).owner is in
      let few = asked_few s.many s.n s.dev l.before start l.at l.led l.none l.of in
      let long = ap (λ (q : List (List ℕ)). length q) l.last ∙ length-append (asked s.many s.n l.before) (marked l.fis 0 ∷ []) in
      let whole = l.commanded in
      let t : Told start = told_now laws.falls s.ports s.legacy s.old s.opening s.before s.at s.first in
      let there : Told l.at = told_after laws.falls l.before start l.at l.led t in
      record { same = owner; low = low; waits = by l.to owner l.rest is (omega (arith, most, one, few, long, whole)) there low }
    where
      by : (to : ℕ) → to ≡ s.dev → Rest l to
      by to same = subst (Rest l) (sym same) (λ rest is none there low.
          laws.last s.dev s.dev_low l.slot low l.fis l.later end (record { at = l.at; run = rest; commanded = is; none = none }) (there.past s.dev) (there.told s.dev s.dev_low) waits)

  -- ---- the moment at which the disk sent the FIS

  module _ (f : Stamped) (own : is_of s.n s.c f ≡ true) (pre : List Stamped) (found : Found s.many s.n s.c s.dev s.at s.deeds s.now s.run pre f) where
    abbrev pub then' : List Call
    then' = calls_of s.n s.at found.cut.sooner found.cut.mid found.cut.led

    -- the disk of the stretch, there
    pub gone_on : GoneOn s.many s.n s.c s.dev s.begins.disk then' (of_conn s.n s.c (sent_of s.at found.cut.sooner found.cut.mid found.cut.led)) (bay_at found.cut.mid s.n).unit
    gone_on = stretch_made s.many s.n s.c s.dev laws.disks found.cut.sooner s.at found.cut.mid found.cut.led found.keeps s.begins.disk s.begins.there

    pub risen_is : (k : ℕ) (o : Out) (does : Does found.cut.mid (Moved (act.Speaks k o)) found.cut.next)
        → sent_by found.cut.mid (Moved (act.Speaks k o)) found.cut.next does ≡ f ∷ []
        → risen found.cut.mid.fan k does.does.does.1.frame ≡ f
    risen_is k o does sent = ap (λ (l : List Stamped). head_or f l) sent

    sender_here : (k : ℕ) (o : Out) (does : Does found.cut.mid (Moved (act.Speaks k o)) found.cut.next)
        → sent_by found.cut.mid (Moved (act.Speaks k o)) found.cut.next does ≡ f ∷ [] → k ≡ s.n
    sender_here k o does sent =
        let h = does.does.does.1 in
        sender_is s.many s.n found.cut.mid k h.frame found.line.end h.room (ap (λ (x : Stamped). x.stamp.port == s.n) (risen_is k o does sent) ∙ port_is s.n s.c f own)

    -- it sent the FIS
    pub record IsSpoken (deed : Deed) : Type 0 where
      pub o : Out
      pub does : Does found.cut.mid (Moved (act.Speaks s.n o)) found.cut.next
      pub is : deed ≡ Moved (act.Speaks s.n o)
      pub sent : sent_by found.cut.mid (Moved (act.Speaks s.n o)) found.cut.next does ≡ f ∷ []

    abbrev IsOne : ℕ → Out → Type 0
    IsOne k o = (does : Does found.cut.mid (Moved (act.Speaks k o)) found.cut.next) → sent_by found.cut.mid (Moved (act.Speaks k o)) found.cut.next does ≡ f ∷ [] → IsSpoken (Moved (act.Speaks k o))

    not_none : (l : List Stamped) → of_conn s.n s.c l ≡ [] → l ≡ f ∷ [] → ⊥
    not_none l none is = by (sym (ap (λ (b : Bool). if b then f ∷ [] else []) own) ∙ ap (of_conn s.n s.c) (sym is) ∙ none)
      where
        by : f ∷ [] ≡ [] → ⊥
        by e = cc

    pub spoken : (deed : Deed) (does : Does found.cut.mid deed found.cut.next) → KeepsLine s.many s.n s.c s.dev found.cut.mid deed found.cut.next does
        → sent_by found.cut.mid deed found.cut.next does ≡ f ∷ [] → IsSpoken deed
    spoken (Moved (act.Speaks k o)) does line sent =
        subst (λ (j : ℕ). IsOne j o) (sym (sender_here k o does sent)) (λ here same. record { o = o; does = here; is = refl; sent = same }) does sent
    spoken (Moved a) does line sent = absurd (not_none [] refl sent)
    spoken (FrameOffered k frame told) does line sent =
        absurd (not_none (sent_by found.cut.mid (FrameOffered k frame told) found.cut.next does)
        (offers_none s.many s.n s.c s.dev found.cut.mid k frame told found.cut.next does line.end (after_calls s.begins.disk then') gone_on.is) sent)
    spoken deed does line sent = absurd (not_none [] refl sent)

    -- the disk there
    pub record IsThen (o : Out) : Type 0 where
      pub whole : AreCalls (new_disk s.p s.limit) (s.base ++ then')
      pub says : IsOut (reached s.p s.limit (s.base ++ then')) (Some o)

    pub is_then : (k : ℕ) (o : Out) (does : Does found.cut.mid (Moved (act.Speaks k o)) found.cut.next)
        → sent_by found.cut.mid (Moved (act.Speaks k o)) found.cut.next does ≡ f ∷ [] → IsThen o
    is_then k o does sent =
        let h = does.does.does.1 in
        let d : DiskState = s.begins.disk in
        let gone = gone_on in
        let here : k ≡ s.n = sender_here k o does sent in
        let now_is : h.disk ≡ reached s.p s.limit (s.base ++ then') =
        disk_same h.disk (after_calls d then') (sym h.there ∙ ap (λ (j : ℕ). (bay_at found.cut.mid j).unit) here ∙ gone.is)
        ∙ ap (λ (x : DiskState). after_calls x then') s.same ∙ sym (calls_after s.base then' (new_disk s.p s.limit)) in
        let whole : AreCalls (new_disk s.p s.limit) (s.base ++ then') = calls_both s.base then' (new_disk s.p s.limit) s.are (subst (λ (x : DiskState). AreCalls x then') s.same gone.are) in
        record { whole = whole; says = subst (λ (x : DiskState). IsOut x (Some o)) now_is h.next }

    -- its commands until then, and those behind it
    abbrev pub behind : List Call
    behind = calls_at found.cut.mid found.deed s.n ++ calls_of s.n found.cut.next found.cut.later s.now found.cut.rest

    pub all_calls : calls s ≡ then' ++ behind
    all_calls = found.cut.own s.n

    pub on_then : AreKeptOn then'
    on_then = kept_first then' behind (subst AreKeptOn all_calls s.on)

    pub settled : (whole : AreCalls (new_disk s.p s.limit) (s.base ++ then')) → AreSettled s.p s.limit s.base then'
    settled whole = laws.turn s.p s.limit s.base then' whole s.idle on_then

    module _ (issue : Issue) (there : issue_at end.core.slots s.slot ≡ Some issue) (mine : issue.dev ≡ s.dev) (waits : is_waiting issue ≡ true)
        (prior : pre ≡ of_conn s.n s.c (came s)) where
      -- what was taken that settles is among what the disk said until then
      said : Within (taken_kinds s.dev (events s)) (said_kinds then')
      said =
          within_then (taken_kinds s.dev (events s)) (frames_kinds (of_conn s.n s.c (came s))) (said_kinds then') (counts laws s).taken
          (subst (λ (l : List Stamped). Within (frames_kinds l) (said_kinds then')) (found.prior ∙ prior)
          (sent_within s.many s.n s.c s.dev laws.disks found.cut.sooner s.at found.cut.mid found.cut.led found.keeps s.begins.disk s.begins.there))

      some_wait : waits_in s.dev end ≡ true
      some_wait =
          let k : IsController end = kept_of laws.falls s.now (last_ruled s.deeds s.at s.now s.run) in
          let long = k.slots.slots in
          let low = s.low in
          some_waits s.dev s.slot end k issue
          (subst (λ (d : ℕ). own_issue (slots_of d end.core.slots) s.slot ≡ Some issue) mine (own_here s.slot end.core.slots issue (omega (arith, long, low)) there)) waits

      abbrev IsFrom : List ℕ → Type 0
      IsFrom bytes = IsFromSlot s.dev s.slot s.old s.before s.at s.first s.deeds s.now s.run bytes

      -- A command was heard, and no more went than were heard before it, but one.
      pub record IsBehind : Type 0 where
        pub front : List Call
        pub bytes : List ℕ
        pub later : List Call
        pub split : then' ≡ front ++ Hears bytes ∷ later
        pub asks : is_asking bytes ≡ true
        pub most : commanded s ≤ suc (heard_in front)

      -- so it is where no more were settled and are due
      pub most_of : (k : ℕ) → settled_in then' + due s.dev end ≤ suc k → commanded s ≤ suc k
      most_of k less =
          let among = fewer (taken_kinds s.dev (events s)) (said_kinds then') said in
          let said_many = said_long then' in
          let ordered = (counts laws s).ordered in
          omega (arith, less, among, said_many, ordered)

      pub due_one : due s.dev end ≤ 1
      due_one = once_most (waits_in s.dev end && not (is_shut s.dev end))

      -- The FIS went from a slot, and no other command for the disk was sent since.
      pub record WentFrom (slot : ℕ) (bytes : List ℕ) : Type 0 where
        pub from : IsFromSlot s.dev slot s.old s.before s.at s.first s.deeds s.now s.run bytes
        pub is_its : is_for s.many s.n (record { bytes = from.order; stamp = host_stamp s.dev }) ≡ true
        pub last : asked s.many s.n (events s) ≡ asked s.many s.n from.ordered.before ++ marked from.order 0 ∷ []

      -- the disk heard it behind what it did until the FIS went
      abbrev Went : (front : List Call) → (until : List Event) → Type 0
      Went front until = (k : ℕ) (since : List Event) → until ≡ calls_in s.at (first_deeds k s.deeds) (machine_at k s.at s.deeds s.now s.run) (first_run k s.at s.deeds s.now s.run) ++ since
          → StartsWith (calls_of s.n s.at (first_deeds k s.deeds) (machine_at k s.at s.deeds s.now s.run) (first_run k s.at s.deeds s.now s.run)) front

      pub record FromWent (front : List Call) (bytes : List ℕ) (slot : ℕ) : Type 0 where
        pub source : WentFrom slot bytes
        pub went : Went front source.from.ordered.before

      pub record IsLast (it : IsBehind) : Type 0 where
        pub none : heard_in it.later ≡ 0
        pub few : heard_in it.front ≤ settled_in then'
        pub slots : IsFrom it.bytes
        -- the disk heard all commands that were sent, and this one is the last
        pub more : heard_in (it.later ++ behind) ≡ 0
        pub all : picks is_asking (flat_map heard_by (calls s)) ≡ asked s.many s.n (events s)
        pub got : FromWent it.front it.bytes s.slot

      -- it is that of the slot
      pub is_last : (it : IsBehind) → IsLast it
      is_last it =
          let q : Counts s = counts laws s in
          let more : List Call = it.later ++ behind in
          let split : calls s ≡ it.front ++ Hears it.bytes ∷ more = all_calls ∙ ap (λ (l : List Call). l ++ behind) it.split ∙ append_assoc it.front (Hears it.bytes ∷ it.later) behind in
          let sum : heard_in (calls s) ≡ heard_in it.front + (once_if (is_asking it.bytes) + heard_in more) = ap heard_in split ∙ heard_both it.front (Hears it.bytes ∷ more) in
          let both = heard_both it.later behind in
          let one : once_if (is_asking it.bytes) ≡ 1 = ap once_if it.asks in
          let most = it.most in
          let a = q.heard in
          let b = q.asked in
          let none : heard_in more ≡ 0 = omega (arith, sum, one, most, a, b) in
          let long = heard_long (calls s) in
          let full : length (asked s.many s.n (events s)) ≤ length (picks is_asking (flat_map heard_by (calls s))) = omega (arith, sum, one, most, b, long) in
          let same : picks is_asking (flat_map heard_by (calls s)) ≡ asked s.many s.n (events s) = all_of (picks is_asking (flat_map heard_by (calls s))) (asked s.many s.n (events s)) q.within full in
          let l : LastOf s = last_sent s.many s.n s.dev (events s) start end s.runs.calls q.none s.of (omega (arith, sum, one, a)) in
          let is : it.bytes ≡ marked l.fis 0 =
          ends_same (picks is_asking (flat_map heard_by it.front)) (asked s.many s.n l.before) it.bytes (marked l.fis 0)
          (sym (last_heard (calls s) it.front more it.bytes split it.asks none) ∙ same ∙ l.last) in
          let w : Waits l = last_waits l (omega (arith, sum, one, most, a)) some_wait in
          let here : s.slot ≡ l.slot = w.waits.others s.slot s.low issue there mine waits in
          let whole : IsWhole s.old s.before s.at s.first s.deeds s.now s.run = whole_run s.before s.old s.at s.first s.deeds s.now s.run in
          let went : events s ≡ l.before ++ call.Turned (next.Order s.dev l.slot l.fis) ∷ l.later =
          l.is ∙ ap (λ (j : ℕ). l.before ++ call.Turned (next.Order j l.slot l.fis) ∷ l.later) w.same in
          let among = fewer (taken_kinds s.dev (events s)) (said_kinds then') said in
          let said_many = said_long then' in
          let ordered = q.ordered in
          let least = due_one in
          let long_last = ap (λ (x : List (List ℕ)). length x) l.last ∙ length-append (asked s.many s.n l.before) (marked l.fis 0 ∷ []) in
          let whole_heard = ap (λ (x : List (List ℕ)). length x) same in
          let prior_heard : length (asked s.many s.n l.before) ≤ heard_in it.front = omega (arith, long_last, whole_heard, long, sum, one, none) in
          let got : FromWent it.front it.bytes s.slot = subst (λ (j : ℕ). FromWent it.front it.bytes j) (sym here) (record {
            source = record {
              from = record {
                order = l.fis;
                ordered = record {
                  before = l.before;
                  later = l.later;
                  is = went;
                  at = l.at;
                  first = l.led;
                  ordered = subst (λ (j : ℕ). IsOrdered l.at j l.slot l.fis) w.same (order_at l.at l.rest.1.0 l.to l.slot l.fis l.rest.0 l.rest.1.1);
                };
                heard = is;
                alone = w.waits.alone;
                whole = whole;
                supplied = supplied_in laws.falls laws.kept s.ports s.legacy s.old s.opening s.before s.at s.first s.deeds s.now s.run l.slot w.low w.waits.issue w.waits.is whole s.dev l.fis
                    (record { before = l.before; later = l.later; is = went; alone = w.waits.alone });
              };
              is_its = ap (λ (j : ℕ). is_for s.many s.n (record { bytes = l.fis; stamp = host_stamp j })) (sym w.same) ∙ l.own;
              last = l.last;
            };
            went = λ k since first.
                heard_first laws.falls laws.falling s.ports s.legacy s.old s.opening s.before s.at s.first s.many s.n s.c s.dev s.begins s.deeds s.now s.run s.has_link s.lasts s.keeps
                it.front it.bytes more split it.asks k l.before since first prior_heard;
          }) in
          record {
            none = omega (arith, none, both);
            few = omega (arith, sum, one, a, b, ordered, among, said_many, least);
            slots = got.source.from;
            more = none;
            all = same;
            got = got;
          }

      module _ (well : IsErrorFis f.bytes → ⊥) where
        -- ---- a Register FIS

        -- of a command that moves sectors it is the end
        ends_it : (k : ℕ) (o : Out) (does : Does found.cut.mid (Moved (act.Speaks k o)) found.cut.next)
            → sent_by found.cut.mid (Moved (act.Speaks k o)) found.cut.next does ≡ f ∷ [] → IsThen o
            → is_answer o ≡ true → (u : IsUnsettled s.base then') → heard_in u.later ≡ 0 → is_transferring u.bytes ≡ true → o ≡ out.Of 32 replies.Done
        ends_it k o does sent t answer u none transfers =
            let x : Call = Hears u.bytes in
            let split : s.base ++ then' ≡ (s.base ++ u.front) ++ x ∷ u.later = ap (λ (l : List Call). s.base ++ l) u.split ∙ sym (append_assoc s.base u.front (x ∷ u.later)) in
            let whole : AreCalls (new_disk s.p s.limit) ((s.base ++ u.front) ++ x ∷ u.later) = subst (AreCalls (new_disk s.p s.limit)) split t.whole in
            let on : AreKeptOn (u.front ++ x ∷ u.later) = subst AreKeptOn u.split on_then in
            let less = answered_less u.later in
            let quiet = u.quiet in
            elim (laws.transfers s.p s.limit (s.base ++ u.front) u.bytes u.later whole transfers u.idle (kept_behind u.front x u.later on) none (omega (arith, less, quiet)) o
            (subst (λ (l : List Call). IsOut (reached s.p s.limit l) (Some o)) split t.says) answer) [
              | inl is ↦ is
              | inr failed ↦ absurd (well (subst (λ (y : Stamped). IsErrorFis y.bytes) (risen_is k o does sent) (fails_with found.cut.mid k o found.cut.next does failed)))
            ]

        pub record IsAnswers (o : Out) : Type 0 where
          pub answers : IsAnsweredThere s.dev s.slot s.old s.before s.at s.first s.deeds s.now s.run s.base then' o
          pub went : Went answers.command.front answers.slots.ordered.before
          -- no command is heard behind it
          pub quiet : heard_in behind ≡ 0

        pub is_answers : (k : ℕ) (o : Out) (does : Does found.cut.mid (Moved (act.Speaks k o)) found.cut.next)
            → sent_by found.cut.mid (Moved (act.Speaks k o)) found.cut.next does ≡ f ∷ [] → is_answering f.bytes ≡ true → IsAnswers o
        is_answers k o does sent answering =
            let t : IsThen o = is_then k o does sent in
            let answer : is_answer o ≡ true =
            says found.cut.mid k o found.cut.next does (subst (λ (y : Stamped). is_answering y.bytes ≡ true) (sym (risen_is k o does sent)) answering) in
            let u : IsUnsettled s.base then' = (settled t.whole).answers o t.says (ap (λ (b : Bool). b || sets_up_last o) answer) in
            let behind_all = u.behind in
            let one = due_one in
            let it = is_last (record { front = u.front; bytes = u.bytes; later = u.later; split = u.split; asks = u.asks; most = most_of (heard_in u.front) (omega (arith, behind_all, one)) }) in
            record {
              answers = record { command = u; none = it.none; prior = it.few; slots = it.got.source.from; answer = answer; ends = ends_it k o does sent t answer u it.none };
              went = it.got.went;
              quiet = let both = heard_both u.later behind in let none = it.more in omega (arith, both, none);
            }

        -- ---- an end by a Register FIS

        is_slots : (k place : ℕ) (does : Does found.cut.mid (Moved (act.Speaks k (out.Of place replies.Done))) found.cut.next)
            → sent_by found.cut.mid (Moved (act.Speaks k (out.Of place replies.Done))) found.cut.next does ≡ f ∷ []
            → IsSlots s.dev s.slot s.old s.before s.at s.first s.deeds s.now s.run s.p s.limit (s.base ++ then')
        is_slots k place does sent =
            let t : IsThen (out.Of place replies.Done) = is_then k (out.Of place replies.Done) does sent in
            let x : Call = Sends (out.Of place replies.Done) in
            let more : AreCalls (new_disk s.p s.limit) ((s.base ++ then') ++ x ∷ []) = calls_both (s.base ++ then') (x ∷ []) (new_disk s.p s.limit) t.whole (t.says, tt) in
            let due_there = due_at (s.base ++ then') x new_host (laws.single s.p s.limit ((s.base ++ then') ++ x ∷ []) more) in
            let says : IsOut (reached s.p s.limit (s.base ++ then')) (Some (out.Of 32 replies.Done)) = subst (λ (j : ℕ). IsOut (reached s.p s.limit (s.base ++ then')) (Some (out.Of j replies.Done))) due_there.2 t.says in
            let e = earns (page_in s.p s.limit (s.base ++ then') 32) (laws.pages s.p s.limit (s.base ++ then') 32 does.does.does.1.frame.bytes t.whole says does.does.does.1.bytes) in
            let turn : IsAskedInTurn (settled_in then') s.p s.limit s.base then' e.page.command = (settled t.whole).ends says e.page e.is in
            let behind_all = turn.behind in
            let one = due_one in
            let it = is_last (record { front = turn.front; bytes = turn.asked.bytes; later = turn.asked.later; split = turn.split; asks = turn.asks; most = most_of (heard_in turn.front) (omega (arith, behind_all, one)) }) in
            record { page = e.page; books = e.is; earned = e.earned; asked = turn.asked; slots = it.slots }

        pub done_slots : (o : Out) (does : Does found.cut.mid (Moved (act.Speaks s.n o)) found.cut.next)
            → sent_by found.cut.mid (Moved (act.Speaks s.n o)) found.cut.next does ≡ f ∷ []
            → o ≡ out.Of 32 replies.Done → IsSlots s.dev s.slot s.old s.before s.at s.first s.deeds s.now s.run s.p s.limit (s.base ++ then')
        done_slots o does sent is =
            subst (λ (x : Out). (d : Does found.cut.mid (Moved (act.Speaks s.n x)) found.cut.next) → sent_by found.cut.mid (Moved (act.Speaks s.n x)) found.cut.next d ≡ f ∷ []
            → IsSlots s.dev s.slot s.old s.before s.at s.first s.deeds s.now s.run s.p s.limit (s.base ++ then'))
            (sym is) (λ d same. is_slots s.n 32 d same) does sent

        -- the calls of the stretch are those until then, this one, and others
        pub said_calls : (spoke : IsSpoken found.deed) → calls s ≡ then' ++ Sends spoke.o ∷ calls_of s.n found.cut.next found.cut.later s.now found.cut.rest
        said_calls spoke = all_calls ∙ ap (λ (l : List Call). then' ++ (l ++ calls_of s.n found.cut.next found.cut.later s.now found.cut.rest))
            (ap (λ (d : Deed). calls_at found.cut.mid d s.n) spoke.is ∙ ap (λ (b : Bool). if b then Sends spoke.o ∷ [] else []) (eq-eqb s.n s.n refl))

        -- ---- behind the FIS

        abbrev over_then : Out → List Call
        over_then o = (s.base ++ then') ++ Sends o ∷ []

        -- where its host waits for nothing then, and no command is heard since, so it is now
        left_behind : (o : Out) → found.deed ≡ Moved (act.Speaks s.n o) → heard_in behind ≡ 0 → IsIdle (host_of new_host (over_then o))
            → IsLeftIdle s.n s.p s.limit s.now (s.base ++ calls s)
        left_behind o spoke none idle =
            let x : Call = Sends o in
            let rest : List Call = calls_of s.n found.cut.next found.cut.later s.now found.cut.rest in
            let behind_is : behind ≡ x ∷ rest =
            ap (λ (l : List Call). l ++ rest)
            (ap (λ (d : Deed). calls_at found.cut.mid d s.n) spoke ∙ ap (λ (b : Bool). if b then Sends o ∷ [] else []) (eq-eqb s.n s.n refl)) in
            let split : calls s ≡ then' ++ x ∷ rest = all_calls ∙ ap (λ (l : List Call). then' ++ l) behind_is in
            let whole_is : s.base ++ calls s ≡ over_then o ++ rest =
            ap (λ (l : List Call). s.base ++ l) split ∙ sym (append_assoc s.base then' (x ∷ rest)) ∙ sym (append_assoc (s.base ++ then') (x ∷ []) rest) in
            let gone : GoneOn s.many s.n s.c s.dev s.begins.disk (calls s) (of_conn s.n s.c (sent_of s.at s.deeds s.now s.run)) (bay_at s.now s.n).unit =
            stretch_made s.many s.n s.c s.dev laws.disks s.deeds s.at s.now s.run s.keeps s.begins.disk s.begins.there in
            let are : AreCalls (new_disk s.p s.limit) (s.base ++ calls s) =
            calls_both s.base (calls s) (new_disk s.p s.limit) s.are (subst (λ (y : DiskState). AreCalls y (calls s)) s.same gone.are) in
            let on : AreKeptOn rest = kept_behind then' x rest (subst AreKeptOn split s.on) in
            let same : 0 + heard_in rest ≡ 0 = sym (ap heard_in behind_is) ∙ none in
            let quiet : heard_in rest ≡ 0 = omega (arith, same) in
            let turn : AreSettled s.p s.limit (over_then o) rest =
            laws.turn s.p s.limit (over_then o) rest (subst (AreCalls (new_disk s.p s.limit)) whole_is are) idle on in
            let over = turn.idle (omega (arith, quiet)) in
            record {
              are = are;
              there = gone.is
                  ∙ ap Disk (ap (λ (y : DiskState). after_calls y (calls s)) s.same ∙ sym (calls_after s.base (calls s) (new_disk s.p s.limit)));
              idle = subst (λ (l : List Call). IsIdle (host_of new_host l)) (sym whole_is)
                  (record { waits = waits_none s.p s.limit (over_then o) rest quiet turn over.1; clear = over.0 });
            }

        -- so it is behind an answer
        pub left_answered : (spoke : IsSpoken found.deed) → is_answering f.bytes ≡ true → IsLeftIdle s.n s.p s.limit s.now (s.base ++ calls s)
        left_answered spoke answering =
            let o : Out = spoke.o in
            let t : IsThen o = is_then s.n o spoke.does spoke.sent in
            let answered : IsAnswers o = is_answers s.n o spoke.does spoke.sent answering in
            let a = answered.answers in
            let u : IsUnsettled s.base then' = a.command in
            let rest : List Call = calls_of s.n found.cut.next found.cut.later s.now found.cut.rest in
            let first : List Call = then' ++ Sends o ∷ [] in
            let joined : s.base ++ first ≡ over_then o = sym (append_assoc s.base then' (Sends o ∷ [])) in
            let split : calls s ≡ first ++ rest = said_calls spoke ∙ sym (append_assoc then' (Sends o ∷ []) rest) in
            let are : AreCalls (new_disk s.p s.limit) (over_then o) = calls_both (s.base ++ then') (Sends o ∷ []) (new_disk s.p s.limit) t.whole (t.says, tt) in
            let turn : AreSettled s.p s.limit s.base first =
            laws.turn s.p s.limit s.base first (subst (AreCalls (new_disk s.p s.limit)) (sym joined) are) s.idle (kept_first first rest (subst AreKeptOn split s.on)) in
            let x : Call = Hears u.bytes in
            let heard_then : heard_in then' ≡ heard_in u.front + (once_if (is_asking u.bytes) + heard_in u.later) = ap heard_in u.split ∙ heard_both u.front (x ∷ u.later) in
            let one : once_if (is_asking u.bytes) ≡ 1 = ap once_if u.asks in
            let none = a.none in
            let prior_settled = a.prior in
            let heard : heard_in first ≡ heard_in then' + (0 + 0) = heard_both then' (Sends o ∷ []) in
            let settles : settled_in first ≡ settled_in then' + (once_if (is_settling o) + 0) = settled_both then' (Sends o ∷ []) in
            let settling : once_if (is_settling o) ≡ 1 = ap (λ (b : Bool). once_if (b || sets_up_last o)) a.answer in
            let over = turn.idle (omega (arith, heard_then, one, none, prior_settled, heard, settles, settling)) in
            let host : host_of new_host (s.base ++ first) ≡ out_got (host_of new_host (s.base ++ then')) o = ap (host_of new_host) joined ∙ host_then (s.base ++ then') (Sends o) new_host in
            left_behind o spoke.is answered.quiet (subst (λ (l : List Call). IsIdle (host_of new_host l)) joined (record {
              waits = free_not_last (host_of new_host (s.base ++ first)).waits over.1
                  (λ last. out_not_last (host_of new_host (s.base ++ then')) o (inl a.answer) (sym (ap (λ (h : Host). h.waits) host) ∙ last));
              clear = over.0;
            }))

        -- ---- all of it

        -- what another FIS than a Register FIS does is said by the last two
        unfoldable pub done_by : (spoke : IsSpoken found.deed) → (is_pio issue.work.kind ≡ false → is_answering f.bytes ≡ true)
            → (is_answering f.bytes ≡ false → IsEndedThere s.dev s.slot s.old s.before s.at s.first s.deeds s.now s.run s.p s.limit s.base then' spoke.o)
            → (is_answering f.bytes ≡ false → IsLeftIdle s.n s.p s.limit s.now (s.base ++ calls s))
            → IsDoneThere s.n s.dev s.slot s.old s.before s.at s.first s.deeds s.now s.run s.p s.limit s.base issue f
        done_by spoke register ends left = record {
          register = register;
          sooner = found.cut.sooner;
          mid = found.cut.mid;
          led = found.cut.led;
          said = spoke.o;
          after = found.cut.next;
          does = spoke.does;
          later = found.cut.later;
          rest = found.cut.rest;
          is = found.cut.is ∙ ap (λ (d : Deed). found.cut.sooner ++ d ∷ found.cut.later) spoke.is;
          own = said_calls spoke;
          sent = spoke.sent;
          answers = λ answering. (is_answers s.n spoke.o spoke.does spoke.sent answering).answers;
          went = λ answering. (is_answers s.n spoke.o spoke.does spoke.sent answering).went;
          ends = ends;
          left = either (is_answering f.bytes) (left_answered spoke) left;
          slots = λ is. done_slots spoke.o spoke.does spoke.sent is;
        }

        module _ (clear : context_of start.core.slots s.dev ≡ None) where
          -- ---- the last Data

          no_due : is_shut s.dev end ≡ true → due s.dev end ≡ 0
          no_due shuts = due_shut s.dev end shuts

          -- all that were heard were settled, the last one by the PIO Setup FIS of its last block
          record IsAllSettled : Type 0 where
            all : heard_in then' ≤ settled_in then'
            last : IsBehindLastBlock then'
            none : heard_in behind ≡ 0

          all_settled : AreSettled s.p s.limit s.base then' → is_shut s.dev end ≡ true → IsAllSettled
          all_settled turn shuts =
              let q : Counts s = counts laws s in
              let t : Told start = told_now laws.falls s.ports s.legacy s.old s.opening s.before s.at s.first in
              let among = fewer (taken_kinds s.dev (events s)) (said_kinds then') said in
              let said_many = said_long then' in
              let sum : heard_in (calls s) ≡ heard_in then' + heard_in behind = ap heard_in all_calls ∙ heard_both then' behind in
              let free = no_due shuts in
              let a = q.heard in
              let b = q.asked in
              let c = q.ordered in
              let less = turn.fewer in
              let all : heard_in then' ≤ settled_in then' = omega (arith, among, said_many, sum, free, a, b, c) in
              let none : heard_in behind ≡ 0 = omega (arith, among, said_many, sum, free, a, b, c, less) in
              let full : length (said_kinds then') ≤ length (taken_kinds s.dev (events s)) = omega (arith, said_many, sum, free, a, b, c, less) in
              let same : taken_kinds s.dev (events s) ≡ said_kinds then' = all_of (taken_kinds s.dev (events s)) (said_kinds then') said full in
              elim (settled_last (waiting_laws laws) s.dev s.dev_low start end (events s) s.runs.calls s.waiting (t.past s.dev) (t.told s.dev s.dev_low) clear some_wait shuts) [
                | inl ends ↦ record { all = all; last = behind_block then' (subst EndsTrue same ends); none = none }
                | inr strict ↦ absurd (omega (arith, strict, among, said_many, sum, a, b, less))
              ]

          not_queued : (h : Host) (place n : ℕ) → IsOutDue h (out.Data place n) → h.waits ≡ ForLast → place ≡ 32
          not_queued h place n due_it waits_last = by (nat_lt place 32) due_it
            where
              no_wait : ForLast ≡ ForNothing → ⊥
              no_wait e = cc

              by : (b : Bool) → IsDataAt h place b → place ≡ 32
              by true queued = absurd (no_wait (sym waits_last ∙ queued.2))
              by false single = single.0

          is_ended : (k : ℕ) (o : Out) (does : Does found.cut.mid (Moved (act.Speaks k o)) found.cut.next)
              → sent_by found.cut.mid (Moved (act.Speaks k o)) found.cut.next does ≡ f ∷ []
              → carries (seen f.bytes) ≡ true → is_shut s.dev end ≡ true
              → IsEndedThere s.dev s.slot s.old s.before s.at s.first s.deeds s.now s.run s.p s.limit s.base then' o
          is_ended k o does sent data' shuts =
              let t : IsThen o = is_then k o does sent in
              let turn : AreSettled s.p s.limit s.base then' = settled t.whole in
              let g : IsAllSettled = all_settled turn shuts in
              let is : is_data o ≡ true =
              says_data found.cut.mid k o found.cut.next does (subst (λ (y : Stamped). carries (seen y.bytes) ≡ true) (sym (risen_is k o does sent)) data') in
              let waits_last : (host_of new_host (s.base ++ then')).waits ≡ ForLast = turn.alone o t.says is g.all g.last in
              let u : IsSettledLast then' = turn.lasts waits_last in
              let behind_all = u.behind in
              let free = no_due shuts in
              let it = is_last (record { front = u.front; bytes = u.bytes; later = u.later; split = u.split; asks = u.asks; most = most_of (heard_in u.front) (omega (arith, behind_all, free)) }) in
              record {
                payload = is;
                waits = waits_last;
                command = u;
                none = it.none;
                slots = it.slots;
                sectors = λ moves. laws.sectors s.p s.limit s.base then' t.whole s.idle on_then g.all g.last u moves o t.says is;
                place = λ place n same.
                    let more : AreCalls (new_disk s.p s.limit) ((s.base ++ then') ++ Sends o ∷ []) = calls_both (s.base ++ then') (Sends o ∷ []) (new_disk s.p s.limit) t.whole (t.says, tt) in
                    not_queued (host_of new_host (s.base ++ then')) place n
                    (subst (λ (x : Out). IsOutDue (host_of new_host (s.base ++ then')) x) same (due_at (s.base ++ then') (Sends o) new_host (laws.single s.p s.limit ((s.base ++ then') ++ Sends o ∷ []) more)))
                    waits_last;
                read = λ n same. is_read turn free n (subst (λ (x : Out). IsOut (reached s.p s.limit (s.base ++ then')) (Some x)) same t.says) waits_last;
              }
            where
              is_read : AreSettled s.p s.limit s.base then' → due s.dev end ≡ 0 → (n : ℕ) → IsOut (reached s.p s.limit (s.base ++ then')) (Some (out.Data 32 n))
                  → (host_of new_host (s.base ++ then')).waits ≡ ForLast
                  → IsWholeThere s.dev s.slot s.old s.before s.at s.first s.deeds s.now s.run s.p s.limit s.base then' n
              is_read turn free n says_it waits_last =
                  let r : IsWholeInTurn s.p s.limit s.base then' n = turn.reads n says_it waits_last in
                  let behind_all = r.turn.behind in
                  let it = is_last (record {
                    front = r.turn.front;
                    bytes = r.turn.asked.bytes;
                    later = r.turn.asked.later;
                    split = r.turn.split;
                    asks = r.turn.asks;
                    most = most_of (heard_in r.turn.front) (omega (arith, behind_all, free));
                  }) in
                  record { read = r; slots = it.slots }

          -- ---- behind the last Data

          is_left : (o : Out) (does : Does found.cut.mid (Moved (act.Speaks s.n o)) found.cut.next)
              → sent_by found.cut.mid (Moved (act.Speaks s.n o)) found.cut.next does ≡ f ∷ []
              → found.deed ≡ Moved (act.Speaks s.n o) → carries (seen f.bytes) ≡ true → is_shut s.dev end ≡ true
              → IsLeftIdle s.n s.p s.limit s.now (s.base ++ calls s)
          is_left o does sent spoke data' shuts =
              let t : IsThen o = is_then s.n o does sent in
              let turn : AreSettled s.p s.limit s.base then' = settled t.whole in
              let g : IsAllSettled = all_settled turn shuts in
              let is : is_data o ≡ true =
              says_data found.cut.mid s.n o found.cut.next does
              (subst (λ (y : Stamped). carries (seen y.bytes) ≡ true) (sym (risen_is s.n o does sent)) data') in
              let waits_last : (host_of new_host (s.base ++ then')).waits ≡ ForLast = turn.alone o t.says is g.all g.last in
              left_behind o spoke g.none
              (subst IsIdle (sym (host_then (s.base ++ then') (Sends o) new_host))
              (data_over (host_of new_host (s.base ++ then')) o is waits_last (turn.idle g.all).0))

        is_done : (is_answering f.bytes ≡ false → context_of start.core.slots s.dev ≡ None) → (spoke : IsSpoken found.deed)
            → (is_pio issue.work.kind ≡ false → is_answering f.bytes ≡ true)
            → (is_answering f.bytes ≡ false → (is_shut s.dev end ≡ true) × (carries (seen f.bytes) ≡ true))
            → IsDoneThere s.n s.dev s.slot s.old s.before s.at s.first s.deeds s.now s.run s.p s.limit s.base issue f
        is_done clear spoke register ends =
            done_by spoke register (λ other. is_ended (clear other) s.n spoke.o spoke.does spoke.sent (ends other).1 (ends other).0)
            (λ other. is_left (clear other) spoke.o spoke.does spoke.sent spoke.is (ends other).1 (ends other).0)

-- ---- a FIS of the connection is taken behind the stretch

-- all that came of it was sent before, in order
pub order_of : Laws → (s : Stretch) (took : Took) (new : MachineState) (does : Does s.now (Moved (act.Takes took)) new) → is_of s.n s.c does.does.frame ≡ true
    → InOrder s.n s.c (came s) (sent_of s.at s.deeds s.now s.run) does.does.frame
order_of laws s took new does own =
    let h = does.does in
    let f : Stamped = h.frame in
    let link : AreLinked s.deeds = linked s.many s.n s.c s.dev s.deeds s.at s.now s.run s.keeps in
    let was : Frames = frames_in no_frames s.old s.before s.at s.first in
    let risen_at : HaveRisen s.at was = laws.falls.rising s.old s.before s.at s.first no_frames (laws.falls.opens_rising s.ports s.legacy s.old s.opening) in
    let all : Frames = frames_in was s.at s.deeds s.now s.run in
    let risen_now : HaveRisen s.now all = laws.falls.rising s.at s.deeds s.now s.run was risen_at in
    in_order s.n s.c s.at s.now was all (came s) (sent_of s.at s.deeds s.now s.run) f (laws.order s.at was risen_at s.n s.c s.below) (laws.order s.now all risen_now s.n s.c s.below)
    (frames_are s.deeds s.at s.now s.run was link) s.begins.up s.begins.lasts (untaken_is s.now f h.once h.on) own

pub found_of : Laws → (s : Stretch) (took : Took) (new : MachineState) (does : Does s.now (Moved (act.Takes took)) new) → is_of s.n s.c does.does.frame ≡ true
    → Found s.many s.n s.c s.dev s.at s.deeds s.now s.run (of_conn s.n s.c (came s)) does.does.frame
found_of laws s took new does own =
    let order = order_of laws s took new does own in
    find s.many s.n s.c s.dev s.deeds s.at s.now s.run s.keeps (of_conn s.n s.c (came s)) order.rest does.does.frame order.is

-- ---- the law

is_true : (b : Bool) → (b ≡ false → ⊥) → b ≡ true
is_true true never = refl
is_true false never = absurd (never refl)

pub unqueued_are : Laws → UnqueuedAreOfSlots
unqueued_are laws ports legacy old opening before at first many n c dev slot below dev_low low begins p limit base are same idle deeds now run has_link lasts keeps on runs of waits_so took new does rules own
    shows hides none issue there mine plain clear =
    let s : Stretch = record {
      ports = ports;
      legacy = legacy;
      old = old;
      opening = opening;
      before = before;
      at = at;
      first = first;
      many = many;
      n = n;
      c = c;
      dev = dev;
      slot = slot;
      below = below;
      dev_low = dev_low;
      low = low;
      begins = begins;
      p = p;
      limit = limit;
      base = base;
      are = are;
      same = same;
      idle = idle;
      deeds = deeds;
      now = now;
      run = run;
      has_link = has_link;
      lasts = lasts;
      keeps = keeps;
      on = on;
      runs = runs;
      of = of;
      waiting = waits_so;
    } in
    let f : Stamped = does.does.frame in
    let found : Found many n c dev at deeds now run (of_conn n c (came s)) f = found_of laws s took new does own in
    let whole : IsWhole old before at first deeds now run = whole_run before old at first deeds now run in
    let done = (laws.completed ports legacy old opening (before ++ deeds) now whole.all took new does rules slot low shows hides none).ended in
    let k : IsController now.controller = kept_of laws.falls now (last_ruled deeds at now run) in
    let waits : is_waiting issue ≡ true = completed_waits slot low now.controller k f.bytes done issue there plain in
    let well : IsErrorFis f.bytes → ⊥ = no_error slot now.controller f.bytes done in
    let pre : List Stamped = of_conn n c (came s) in
    let by_register = completed_by slot now.controller f.bytes done issue there plain in
    is_done laws s f own pre found issue there mine waits refl well (λ other. clear (is_true (is_pio issue.work.kind) (λ no. false≢true (sym other ∙ by_register no))) other)
    (spoken laws s f own pre found found.deed found.cut.does found.line found.sent) by_register
    (λ other. let d = data_ends slot low now.controller k f.bytes done issue there plain other in (ap (λ (j : ℕ). is_shut j now.controller) (sym mine) ∙ d.shuts, d.data'))

pub plain_are : Laws → UnqueuedCommandsWait → PlainUnqueuedAreOfSlots
plain_are laws wait ports legacy old opening before at first many n c dev slot below dev_low low begins p limit base are same idle deeds now run has_link lasts keeps on runs of plain =
    let t : Told at.controller = told_now laws.falls ports legacy old opening before at first in
    unqueued_are laws ports legacy old opening before at first many n c dev slot below dev_low low begins p limit base are same idle deeds now run has_link lasts keeps on runs of
    (wait dev dev_low at.controller now.controller (calls_in at deeds now run) runs.calls (t.past dev) (t.told dev dev_low) plain)
