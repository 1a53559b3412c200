-- What ends a command as a FIS is taken, by the history of its device.
use Rattle.std.proofs.Common.{◌≡◌, ◌⊎◌, ℕ, ◌<◌, ◌||◌, Bool, true, false, List, [], ◌∷◌, ◌++◌, drop, refl, sym, ap, ◌∙◌, subst, inl, inr, Option, Some}
use Rattle.std.proofs.{Common.{None, arith}, lemmas.Bool.{eqb-true, false≢true}}
use Rattle.std.specs.{Prelude.{◌==◌, ◌&&◌, IfSome, MatchOption, if◌then◌else◌}, Option.option_map}
use Rattle.fis_view.specs.Seen.{seen}
use Rattle.slots.specs.{Commands.slots_where, Slots.{Issue, has_bit, holds, is_queued_issue, issue_at, match_some, own_issue, slots_of}}
use Rattle.slots.specs.{Table.IsIssue, Work.is_queued, declared.work.Work.Work}
use Rattle.slots.specs.declared.answer.Answered as answered_type
use Rattle.slots.specs.declared.answer.Answered.TheVariants as answer
use Rattle.ahci_registers.specs.declared.register.Register.TheVariants.{PxCi, PxSact}
use Rattle.hba_fbs.specs.{Deciding.decided, Taking.{admitted, ignores, port_of}, Views.{Port, view_of}, declared.hearing.Happening.Happening}
use Rattle.hba_fbs.specs.declared.{room.Room.Room, status.Block.Block}
use Rattle.hba_fbs.specs.declared.hearing.Happening.TheVariants as happening
use Rattle.hba_laws.specs.{Agreement.{work_of_issue, work_of_transfer}, CoreHistories.{event_by, frees, is_freed_in}, Cores.RunsBy}
use Rattle.hba_laws.specs.{Delivering.{event_heard, event_of, event_of_answer, event_of_block}, History.{Event, History, Transfer, completes, issued}}
use Rattle.hba_laws.specs.History as history
use Rattle.hba_laws.proofs.Door.{own_here}
use Rattle.ahci_controller.specs.{Reading.shown, States.ControllerState, Taking.room_for, declared.taking.Took.Took}
use Rattle.ahci_controller.proofs.Door.{or_right}
use Rattle.controller_laws.specs.{CoreEvents.{AreCoreEvents, of_event, of_frame}, Ends.{AreTold, Falls, IsFreed, IssuesFall}, Events.IsController}
use Rattle.controller_laws.specs.Events as call
use Rattle.ahci_machine.specs.States.{HasRules, IsOpeningMachine, MachineState}
use Rattle.ahci_machine.specs.declared.act.Act.TheVariants as act
use Rattle.machine_laws.specs.{ControllerLaws.RunsRuled, Deeds.{Deed, Does, Moved}}
use Rattle.machine_theorem.specs.Completed.{IsCompleted, IsEndedInHistory}
use Rattle.machine_theorem.proofs.{Armed.{queued_bit, sact_is}, Falls.{Laws, Told, core_events, kept_of, told_now}, Own.last_ruled}

-- ---- the events of a FIS

abbrev IsOfFis : Event → Type 0
IsOfFis (history.Issued slot t) = ⊥
IsOfFis (history.SentControl slot) = ⊥
IsOfFis history.Emptied = ⊥
IsOfFis e = Unit {0}

answer_event : (a : answered_type.Answered) → IfSome (event_of_answer a) IsOfFis
answer_event answer.Nobody = tt
answer_event other = tt

block_event : (count : ℕ) (to_host : Bool) (b : Option Block) → IfSome (event_of_block count to_host b) IsOfFis
block_event count to_host None = tt
block_event count to_host (Some b) = tt

heard_event : (h : Happening) (block : Option Block) (payload : List ℕ) → IfSome (event_of h block payload) IsOfFis
heard_event (happening.Answered a) block payload = answer_event a
heard_event (happening.PioSetUp count to_host) block payload = block_event count to_host block
heard_event other block payload = tt

frame_event : (port : Port) (room : Room) (frame : List ℕ) → IfSome (event_by port room frame) IsOfFis
frame_event port room frame = by (ignores (port_of frame) port frame)
  where
    by : (b : Bool) → IfSome (if b then None else event_heard (decided (port_of frame) (view_of (port_of frame) port) room (admitted (port_of frame) (seen frame))) (drop 4 frame)) IsOfFis
    by true = tt
    by false = heard_event _ _ _

-- what frees by a FIS completes
frees_is : (s : ℕ) (e : Event) (past : History) (t : Transfer) → IsOfFis e → issued s past ≡ Some t → frees s e past ≡ true → completes s e past t.work ≡ true
frees_is s (history.Issued slot x) past t fis is h = absurd fis
frees_is s (history.SentControl slot) past t fis is h = absurd fis
frees_is s history.Emptied past t fis is h = absurd fis
frees_is s (history.Sent slot) past t fis is h = sym (ap (λ (o : Option Transfer). match_some o false (λ x. completes s (history.Sent slot) past x.work)) is) ∙ h
frees_is s (history.SetUp tag offset count to_host) past t fis is h = sym (ap (λ (o : Option Transfer). match_some o false (λ x. completes s (history.SetUp tag offset count to_host) past x.work)) is) ∙ h
frees_is s (history.PioSetUp count to_host ends) past t fis is h = sym (ap (λ (o : Option Transfer). match_some o false (λ x. completes s (history.PioSetUp count to_host ends) past x.work)) is) ∙ h
frees_is s (history.Carried bytes) past t fis is h = sym (ap (λ (o : Option Transfer). match_some o false (λ x. completes s (history.Carried bytes) past x.work)) is) ∙ h
frees_is s history.Answered past t fis is h = sym (ap (λ (o : Option Transfer). match_some o false (λ x. completes s history.Answered past x.work)) is) ∙ h
frees_is s (history.Named mask) past t fis is h = sym (ap (λ (o : Option Transfer). match_some o false (λ x. completes s (history.Named mask) past x.work)) is) ∙ h

abbrev IsEnd : Event → Type 0
IsEnd e = (e ≡ history.Answered) ⊎ ((bytes : List ℕ) × (e ≡ history.Carried bytes))

named_queued : (a b c : Bool) → (a && (b && c)) ≡ true → b ≡ true
named_queued true true c h = refl
named_queued true false c h = absurd (false≢true h)
named_queued false b c h = absurd (false≢true h)

kinds : (s : ℕ) (e : Event) (past : History) (w : Work) → completes s e past w ≡ true → is_queued w.kind ≡ false → IsEnd e
kinds s (history.Carried bytes) past w h plain = inr (bytes, refl)
kinds s history.Answered past w h plain = inl refl
kinds s (history.Named mask) past w h plain = absurd (false≢true (sym plain ∙ named_queued (has_bit mask s) (is_queued w.kind) _ h))
kinds s other past w h plain = absurd (false≢true h)

-- ---- the history of the slot's device

pub transfer_of : (o : Option Transfer) (w : Work) → option_map work_of_transfer o ≡ Some w → (t : Transfer) × ((o ≡ Some t) × (t.work ≡ w))
transfer_of None w h = absurd (cc)
transfer_of (Some t) w h = (t, (refl, ap (λ (x : Option Work). match_some x w (λ y. y)) h))

or_first : (b : Bool) → (b || false) ≡ true → b ≡ true
or_first true h = refl
or_first false h = absurd (false≢true h)

completed_by : (s : ℕ) (past : ℕ → History) (c : ControllerState) (frame : List ℕ) (i : Issue) (t : Transfer) (here : Bool) (o : Option Event) → issue_at c.core.slots s ≡ Some i → issued s (past i.dev) ≡ Some t → t.work ≡ i.work
    → (port_of frame == i.dev) ≡ here → event_by c.core (room_for c (port_of frame)) frame ≡ o → is_freed_in s ((if here then match_some o [] (λ e. e ∷ []) else []) ++ []) (past i.dev) ≡ true → IsCompleted s past c frame
completed_by s past c frame i t false o at is work own heard freed = absurd (false≢true freed)
completed_by s past c frame i t true None at is work own heard freed = absurd (false≢true freed)
completed_by s past c frame i t true (Some e) at is work own heard freed =
    let fis : IsOfFis e = subst (λ (x : Option Event). IfSome x IsOfFis) heard (frame_event c.core (room_for c (port_of frame)) frame) in
    let ends : completes s e (past i.dev) i.work ≡ true =
    subst (λ (w : Work). completes s e (past i.dev) w ≡ true) work (frees_is s e (past i.dev) t fis is (or_first (frees s e (past i.dev)) freed)) in
    record {
      issue = i;
      is = at;
      own = sym (eqb-true (port_of frame) i.dev own);
      event = e;
      heard = heard;
      completes = ends;
      kind = λ plain. kinds s e (past i.dev) i.work ends plain;
    }

freed_by : (s : ℕ) (past : ℕ → History) (old new : ControllerState) (frame : List ℕ) (took : Took) (started : Bool) → IsController old → AreTold old.core past → s < 32
    → (run : RunsBy old.core (of_frame started old frame took.report ∷ []) new.core) → IsFreed s past old.core new.core (of_frame started old frame took.report ∷ []) run → IsCompleted s past old frame
freed_by s past old new frame took false k told below run h = absurd (false≢true h.freed)
freed_by s past old new frame took true k told below run h =
    let i : Issue = h.issue in
    let issue : IsIssue i = subst (λ (o : Option Issue). MatchOption o (Unit {0}) IsIssue) h.was (k.slots.issues s) in
    let mine : own_issue (slots_of i.dev old.core.slots) s ≡ Some i = own_here s old.core.slots i (let n = k.slots.slots in omega (arith, n, below)) h.was in
    let t = transfer_of (issued s (past i.dev)) i.work ((told i.dev issue.dev_below).issued s ∙ ap (option_map work_of_issue) mine) in
    completed_by s past old frame i t.0 (port_of frame == i.dev) (event_by old.core (room_for old (port_of frame)) frame) h.was t.1.0 t.1.1 refl refl h.freed

-- ---- as a FIS is taken

pub not_queued : (c : ControllerState) (s : ℕ) → s < 32 → has_bit (shown PxSact c) s ≡ false → holds is_queued_issue (issue_at c.core.slots s) ≡ true → ⊥
not_queued c s below hides queued =
    false≢true (sym hides ∙ ap (λ (m : ℕ). has_bit m s) (sact_is c) ∙ or_right c.core.registers.armed (slots_where is_queued_issue c.core.slots) s (queued_bit c.core s below ∙ queued))

module _ (laws : Laws) (fall : IssuesFall) where
  by_frame : (old new : ControllerState) (frame : List ℕ) (took : Took) → IsController old → IsController new → (does : call.Takes old frame took new) → (t : Told old) → (s : ℕ) → s < 32
      → has_bit (shown PxCi old) s ≡ true → has_bit (shown PxCi new) s ≡ false → has_bit (shown PxSact new) s ≡ false → IsEndedInHistory old frame s
  by_frame old new frame took k l does t s below shows hides none =
      by (fall old new (call.Took frame took) k l does are t.past t.told s below shows hides)
    where
      are : AreCoreEvents old.core (of_event old (call.Took frame took) new does) new.core
      are = core_events laws old new (call.Took frame took) k l does

      by : Falls s t.past old (call.Took frame took) new does are.run → IsEndedInHistory old frame s
      by (inl freed) = record { past = t.past; told = t.told; completed = freed_by s t.past old new frame took old.core.registers.started k t.told below are.run freed }
      by (inr (inl queued)) = absurd (not_queued new s below none queued)
      by (inr (inr stops)) = absurd stops

  -- the slot's device ends its command, by its history
  pub ended_now : (ports : ℕ) (legacy : Bool) (old : MachineState) → IsOpeningMachine ports legacy old → (deeds : List Deed) (now : MachineState) (run : RunsRuled old deeds now) (took : Took) (new : MachineState)
      → (does : Does now (Moved (act.Takes took)) new) → HasRules new → (slot : ℕ) → slot < 32 → has_bit (shown PxCi now.controller) slot ≡ true → has_bit (shown PxCi new.controller) slot ≡ false
      → has_bit (shown PxSact new.controller) slot ≡ false → IsEndedInHistory now.controller does.does.frame.bytes slot
  ended_now ports legacy old opening deeds now run took new does rules slot low shows hides none =
      let h = does.does in
      let c : ControllerState = does.middle.controller in
      let same : new.controller ≡ c = ap (λ (m : MachineState). m.controller) does.turns in
      let t : Told now.controller = told_now laws ports legacy old opening deeds now run in
      let back : (p : ControllerState → Bool) → p new.controller ≡ false → p c ≡ false = λ p is. ap p (sym same) ∙ is in
      by_frame now.controller c h.frame.bytes took (kept_of laws now (last_ruled deeds old now run)) (subst IsController same (kept_of laws new rules))
      (record { framed = h.framed; free = h.free; hears = h.hears }) t slot low shows
      (back (λ x. has_bit (shown PxCi x) slot) hides) (back (λ x. has_bit (shown PxSact x) slot) none)
