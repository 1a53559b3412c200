-- For `rested_have_done`. The command in slot 31 that went out, over the turns of a host: it stays until its answer comes, which
-- frees the slot.
use Rattle.std.proofs.Common.{◌≡◌, ◌≢◌, ◌⊎◌, ℕ, zero, suc, ◌<◌, ◌≤◌, ◌==◌, Bool, true, false, List, [], ◌∷◌, length, map, refl, sym, ap, subst, ◌∙◌}
use Rattle.std.proofs.{Common.{inl, inr, Option, Some, None, arith}, lemmas.Bool.{cases_Bool, cases_eq, cases_lt, false≢true, true≢false}}
use Rattle.std.proofs.lemmas.{List.{get_or_past, length-map, FromFn.{get_or-map-range_with_len, length-range_with_len}}, Option.same_Some}
use Rattle.std.specs.{Prelude.{◌&&◌, ◌||◌, not, if◌then◌else◌, slice_index_or, slice_set}, List.{flat_map, range_with_len}, Int.from_bool}
use Rattle.std.specs.Option.{option_map}
use Rattle.fis_view.specs.{Built.{IsBuilt, cut, h2d_given}, Frames.Stamped, Table.{C, H2d, places}, declared.build.H2dFields.H2dFields}
use Rattle.host_memory.specs.Memory.{Memory}
use Rattle.port_errors.specs.declared.cause.DeviceCause.TheVariants as cause
use Rattle.pm_control.specs.Requests.{IsCommand}
use Rattle.hba_commands.specs.declared.command.Command.{Command}
use Rattle.slots.specs.{Commands.{answer_for, answer_of, answered_as, answered_issue, completed, is_done, is_slot}, Slots.{DeviceSlots, Issue, Slots}}
use Rattle.slots.specs.Slots.{freed, holds, is_waiting, is_whole_issue, match_some, new_issue, no_own_slots, own_issue, slots_of, waiting}
use Rattle.slots.specs.{Table.{IsIssue, IsTable, waits_for}, Work.{is_queued, needs_all}, declared.answer.Answered.Answered}
use Rattle.slots.specs.declared.answer.Answered.TheVariants as answer
use Rattle.slots.proofs.Door.{lowest_found, own_at}
use Rattle.hba_fbs.specs.{declared.{hearing.Heard.Heard, register.Register.{Register, TheVariants.{Cmd, Ci, Fbs}}}, Hearing.{answered, faulty}}
use Rattle.hba_fbs.specs.{Hearing.{heard_bits, heard_d2h, heard_register, named, quietly}, Issuing.{aimed, asked, issue_with, issues_with}}
use Rattle.hba_fbs.specs.{Issuing.view_issued, Registers.falls, Sending.{Data, Gives, Nothing, Order, Outgoing, Unreadable, outgoing}}
use Rattle.hba_fbs.specs.{Status.{after_reset, is_busy, is_error, with_bits, with_file}, Taking.view_after_hearing, Views.{DeviceView, Port}}
use Rattle.hba_fbs.specs.{Views.{stopped_view, view_of}, Writing.{cleared_by, is_device, view_after}}
use Rattle.hba_fbs.specs.declared.hearing.Happening.TheVariants as happening
use Rattle.hba_laws.proofs.Door.{is_own, own_freed}
use Rattle.hba_laws.specs.Hosts as event
use Rattle.hba_laws.specs.Hosts.{HostEvent}
use Rattle.hba_driver.specs.declared.{mode.Mode.TheVariants.Switching, order.Order.{Order as Asked, TheVariants.{ResetOn, ResetOff, AwaitSignature}}}
use Rattle.hba_driver.specs.{declared.order.Order.TheVariants.Watch, Events.{IsSoundHost, events_over, gave, shared_by, took}, HostTurns.Does}
use Rattle.hba_driver.specs.{HostTurns.{DoesAll, Host, Pushed, Ticked, Ticks}, Orders.order_fields, Slot31.{Follows31, IsAt31, IsFree31, IsIn}}
use Rattle.hba_driver.specs.Slot31.{Pushes31, Resets, Signs, Stage31, Turns31, control_of, is_off, is_on}
use Rattle.hba_driver.proofs.Door.{each_run_tells, turns_are_events}

-- a command of the control port in slot 31 went out, and the control port has no fault
pub record IsAsking (v : DeviceView) : Type 0 where
  pub issue : Issue
  pub there : own_issue v.slots 31 ≡ Some issue
  pub sent : issue.sent ≡ true
  pub well : v.fault ≡ None

pub none_there : {P : Type 0} (i : Issue) (o : Option Issue) → o ≡ None → o ≡ Some i → P
none_there i o none some = let wrong : None ≡ Some i = sym none ∙ some in absurd (cc)

free_31 : own_issue no_own_slots 31 ≡ None
free_31 = refl

never_empty : (v : DeviceView) → v.slots ≡ no_own_slots → IsAsking v → ⊥
never_empty v empty a = none_there a.issue (own_issue v.slots 31) (ap (λ (s : DeviceSlots). own_issue s 31) empty ∙ free_31) a.there

-- ---- a tick

issues_keep : (dev : ℕ) (commands : ℕ → Option Command) (issues : List (Option Issue)) → (i : Issue) → slice_index_or (issues_with dev commands issues) 31 None ≡ Some i → i.sent ≡ true
    → slice_index_or issues 31 None ≡ Some i
unfolding issues_with
issues_keep dev commands issues i there sent = elim (cases_lt 31 (length issues)) [
  | inl long ↦
      by_command (commands 31)
      (sym (get_or-map-range_with_len (λ (slot : ℕ). issue_with dev (commands slot) (slice_index_or issues slot None)) 0 (length issues) 31 31 None long (omega arith)) ∙ there)
  | inr short ↦
      let all : length (map (λ (slot : ℕ). issue_with dev (commands slot) (slice_index_or issues slot None)) (range_with_len 0 (length issues))) ≡ length issues =
      length-map (range_with_len 0 (length issues)) (λ (slot : ℕ). issue_with dev (commands slot) (slice_index_or issues slot None)) ∙ length-range_with_len 0 (length issues) in
      none_there i (slice_index_or (map (λ (slot : ℕ). issue_with dev (commands slot) (slice_index_or issues slot None)) (range_with_len 0 (length issues))) 31 None)
      (get_or_past (map (λ (slot : ℕ). issue_with dev (commands slot) (slice_index_or issues slot None)) (range_with_len 0 (length issues))) 31 None (omega (arith, all, short))) there
]
  where
    by_command : (o : Option Command) → issue_with dev o (slice_index_or issues 31 None) ≡ Some i → slice_index_or issues 31 None ≡ Some i
    by_command None e = e
    by_command (Some c) e = absurd (false≢true (ap (λ (x : Issue). x.sent) (same_Some (new_issue dev c.work) i e) ∙ sent))

register_asks : (r : Register) (old : Port) (memory : Memory) (value : ℕ) → IsAsking (view_after r old memory value 15) → IsAsking (view_of 15 old)
unfolding view_after
register_asks Cmd old memory value a = by_fall (falls old.registers value) a
  where
    by_fall : (b : Bool) → IsAsking (if b then stopped_view (view_of 15 old) else view_of 15 old) → IsAsking (view_of 15 old)
    by_fall true a = absurd (never_empty (stopped_view (view_of 15 old)) refl a)
    by_fall false a = a
register_asks Ci old memory value a = by_aim (15 == aimed old.registers memory.structure value) a
  where
    by_aim : (b : Bool) → IsAsking (if b then view_issued old.registers memory value (view_of 15 old) else view_of 15 old) → IsAsking (view_of 15 old)
    by_aim true a = record {
      issue = a.issue;
      there = issues_keep (aimed old.registers memory.structure value) (asked old.registers memory value) (view_of 15 old).slots.issues a.issue a.there a.sent;
      sent = a.sent;
      well = a.well;
    }
    by_aim false a = a
register_asks Fbs old memory value a = by_device (is_device 15 (cleared_by old.errors value)) a
  where
    by_device : (b : Bool) → IsAsking (if b then stopped_view (view_of 15 old) else view_of 15 old) → IsAsking (view_of 15 old)
    by_device true a = absurd (never_empty (stopped_view (view_of 15 old)) refl a)
    by_device false a = a
register_asks other old memory value a = a

pub same_asks : (old new : Port) → new ≡ old → IsAsking (view_of 15 new) → IsAsking (view_of 15 old)
same_asks old new same a = subst (λ (p : Port). IsAsking (view_of 15 p)) same a

-- no frame comes or goes
abbrev pub IsQuiet : HostEvent → Type 0
IsQuiet (event.Took frame report) = ⊥
IsQuiet (event.Gave frame) = ⊥
IsQuiet e = Unit {0}

abbrev pub AreQuiet : List HostEvent → Type 0
AreQuiet [] = Unit {0}
AreQuiet (e ∷ es) = IsQuiet e × AreQuiet es

event_asks : (e : HostEvent) (old new : event.Host) → IsQuiet e → event.Does old e new → IsAsking (view_of 15 new.port) → IsAsking (view_of 15 old.port)
event_asks (event.Took frame report) old new quiet does a = absurd quiet
event_asks (event.Gave frame) old new quiet does a = absurd quiet
event_asks (event.Wrote register value) old new quiet does a = register_asks register old.port old.memory value (subst IsAsking (does.1.views 15 (omega arith)) a)
event_asks (event.Flushed dev) old new quiet does a = elim (cases_eq 15 dev) [
  | inl own ↦ absurd (never_empty (view_of 15 new.port) (ap (λ (n : ℕ). (view_of n new.port).slots) own ∙ ap (λ (v : DeviceView). v.slots) does.0.own) a)
  | inr other ↦ subst IsAsking (does.0.others 15 other) a
]
event_asks other old new quiet does a = same_asks old.port new.port does.1 a

events_ask : (es : List HostEvent) (old new : event.Host) → AreQuiet es → event.Runs old es new → IsAsking (view_of 15 new.port) → IsAsking (view_of 15 old.port)
events_ask [] old new quiet runs a = subst (λ (h : event.Host). IsAsking (view_of 15 h.port)) runs a
events_ask (e ∷ es) old new quiet runs a = event_asks e old runs.0 quiet.0 runs.1 (events_ask es runs.0 new quiet.1 runs.2 a)

pub are_quiet : (es : List HostEvent) → flat_map took es ≡ [] → flat_map gave es ≡ [] → AreQuiet es
are_quiet [] none_came none_went = tt
are_quiet (event.Wrote register value ∷ es) none_came none_went = (tt, are_quiet es none_came none_went)
are_quiet (event.Flushed dev ∷ es) none_came none_went = (tt, are_quiet es none_came none_went)
are_quiet (event.Stored structure ∷ es) none_came none_went = (tt, are_quiet es none_came none_went)
are_quiet (event.Rewrote dev row ∷ es) none_came none_went = (tt, are_quiet es none_came none_went)
are_quiet (event.Put at bytes ∷ es) none_came none_went = (tt, are_quiet es none_came none_went)
are_quiet other none_came none_went = absurd (cc)

pub tick_asks : (old new : Host) (acted : Bool) → IsSoundHost old → Ticks old acted new → IsAsking (view_of 15 new.port) → IsAsking (view_of 15 old.port)
tick_asks old new acted sound ticks a =
    let run : DoesAll old (Ticked acted ∷ []) new = (new, ticks, refl) in
    let tells = each_run_tells old new (Ticked acted ∷ []) run in
    events_ask (events_over old new (Ticked acted ∷ []) run) (shared_by old) (shared_by new) (are_quiet (events_over old new (Ticked acted ∷ []) run) tells.taken tells.given)
    (turns_are_events Switching old new (Ticked acted ∷ []) run sound).runs a

-- ---- a frame that goes out

none_pushed : (f : Stamped) {P : Type 0} → Some f ≡ None → P
none_pushed f e = absurd (cc)

push_other : (o : Outgoing) (old : Port) (memory : Memory) (f : Stamped) (new : Port) → Gives o old memory (Some f) new → f.stamp.port ≢ 15 → IsAsking (view_of 15 new) → IsAsking (view_of 15 old)
push_other (Data dev offset len command) old memory f new gives other a =
    subst IsAsking (gives.others 15 (λ same. other (ap (λ (x : Stamped). x.stamp.port) gives.frame_is ∙ sym same))) a
push_other (Order dev slot command) old memory f new gives other a =
    subst IsAsking (gives.others 15 (λ same. other (ap (λ (x : Stamped). x.stamp.port) gives.frame_is ∙ sym same))) a
push_other rest old memory f new gives other a = none_pushed f gives.0

push_none : (o : Outgoing) (old : Port) (memory : Memory) (new : Port) → Gives o old memory None new → IsAsking (view_of 15 new) → IsAsking (view_of 15 old)
push_none Nothing old memory new gives a = same_asks old new gives.1 a
push_none (Unreadable dev) old memory new gives a = let b : IsAsking (view_of 15 new) = a in same_asks_stopped b
  where
    same_asks_stopped : IsAsking (view_of 15 new) → IsAsking (view_of 15 old)
    same_asks_stopped b = let c = subst (λ (p : Port). IsAsking (view_of 15 p)) gives.1 b in record { issue = c.issue; there = c.there; sent = c.sent; well = c.well }
push_none (Data dev offset len command) old memory new gives a = absurd gives
push_none (Order dev slot command) old memory new gives a = absurd gives

pub pushes_none : (old new : Host) → Does old (Pushed None) new → IsAsking (view_of 15 new.port) → IsAsking (view_of 15 old.port)
pushes_none old new does a = push_none (outgoing old.port old.memory) old.port old.memory new.port does.gives a

pub pushes_other : (old new : Host) (f : Stamped) → Does old (Pushed (Some f)) new → f.stamp.port ≢ 15 → IsAsking (view_of 15 new.port) → IsAsking (view_of 15 old.port)
pushes_other old new f does other a = push_other (outgoing old.port old.memory) old.port old.memory f new.port does.gives other a

-- an order that is no part of a software reset is a command
gives_command : (order : Asked) (f : H2dFields) → is_on order ≡ false → is_off order ≡ false → order_fields order ≡ Some f → f.c ≡ true
unfolding order_fields
gives_command ResetOn f on off is = absurd (true≢false on)
gives_command ResetOff f on off is = absurd (true≢false off)
gives_command AwaitSignature f on off is = absurd (cc)
gives_command Watch f on off is = absurd (cc)
gives_command other f on off is = sym (ap (λ (x : H2dFields). x.c) (same_Some _ f is))

built_command : (f : H2dFields) (bytes : List ℕ) → IsBuilt H2d (h2d_given f) bytes → f.c ≡ true → IsCommand bytes
unfolding cut places
built_command f bytes built on = (built.viewed, built.fields C ∙ ap (λ (b : Bool). cut (places H2d C) (from_bool b)) on)

-- what goes out to the control port while a command of it is then unanswered is that command
pub pushes_own : (stage : Stage31) (old new : Host) (f : Stamped) → Does old (Pushed (Some f)) new → IsAt31 stage old → Turns31 stage old (Pushed (Some f)) new → f.stamp.port ≡ 15 → IsAsking (view_of 15 new.port) → IsCommand f.bytes
pushes_own stage old new f does at t own a = by_way p.follows
  where
    p : Pushes31 stage old f t.next
    p = t.is.0 own

    is_in : (s : Stage31) → t.next ≡ s → IsIn s new.driver.plan.order new.driver.plan.asked (control_of new)
    is_in s same = subst (λ (x : Stage31). IsIn x new.driver.plan.order new.driver.plan.asked (control_of new)) same t.at.is

    never_free : {P : Type 0} → IsFree31 (control_of new) → P
    never_free free = none_there a.issue (own_issue (view_of 15 new.port).slots 31) free a.there

    same_order : new.driver.plan.order ≡ old.driver.plan.order
    same_order = ap (λ d. d.plan.order) does.driver

    begun : is_on old.driver.plan.order ≡ true → IsIn Resets new.driver.plan.order new.driver.plan.asked (control_of new) → IsCommand f.bytes
    begun on (inl is) = never_free is.2
    begun on (inr is) = absurd (false≢true (sym (ap is_on (sym same_order ∙ is.0)) ∙ on))

    by_way : Follows31 stage old.driver.plan.order t.next → IsCommand f.bytes
    by_way (inl h) = begun h.1 (is_in Resets h.2)
    by_way (inr (inl h)) =
        let off : is_off old.driver.plan.order ≡ false = (subst (λ (x : Stage31). IsIn x old.driver.plan.order old.driver.plan.asked (control_of old)) h.0 at.is).1 in
        subst IsCommand (sym p.bytes) (built_command p.unsent.fields p.unsent.command.cfis p.unsent.built (gives_command old.driver.plan.order p.unsent.fields h.1 off p.unsent.are))
    by_way (inr (inr h)) = never_free (is_in Signs h.2).0

-- ---- a frame that comes

freed_keeps : (F : ℕ → Bool) (own : DeviceSlots) (i : Issue) → own_issue (freed F own) 31 ≡ Some i → own_issue own 31 ≡ Some i
freed_keeps F own i there = by_test (F 31) (sym (ap (λ (f : ℕ → Option Issue). f 31) (own_freed F own)) ∙ there)
  where
    by_test : (b : Bool) → (if b then None else own_issue own 31) ≡ Some i → own_issue own 31 ≡ Some i
    by_test true e = absurd (cc)
    by_test false e = e

set_gives : {A : Type 0} (xs : List (Option A)) (k j : ℕ) (x : Option A) (i : A) → slice_index_or (slice_set xs k x) j None ≡ Some i → (x ≡ Some i) × (k ≡ j) ⊎ (slice_index_or xs j None ≡ Some i)
set_gives [] k j x i e = inr e
set_gives (a ∷ xs) zero zero x i e = inl (e, refl)
set_gives (a ∷ xs) zero (suc j) x i e = inr e
set_gives (a ∷ xs) (suc k) zero x i e = inr e
set_gives (a ∷ xs) (suc k) (suc j) x i e = elim (set_gives xs k j x i e) [
  | inl h ↦ inl (h.0, ap (λ (n : ℕ). suc n) h.1)
  | inr h ↦ inr h
]

-- slot 31 holds a command that went out
pub record IsOut (own : DeviceSlots) : Type 0 where
  pub issue : Issue
  pub there : own_issue own 31 ≡ Some issue
  pub sent : issue.sent ≡ true

answered_out : (o : Option Issue) (i : Issue) → option_map answered_issue o ≡ Some i → i.sent ≡ true → (was : Issue) × (o ≡ Some was) × (was.sent ≡ true)
answered_out None i e sent = absurd (cc)
answered_out (Some was) i e sent = (was, refl, ap (λ (x : Issue). x.sent) (same_Some (answered_issue was) i e) ∙ sent)

answer_keeps : (a : Answered) (own : DeviceSlots) → IsOut (answered_as a own) → IsOut own
answer_keeps (answer.Done slot) own out = record { issue = out.issue; there = freed_keeps (is_slot slot) own out.issue out.there; sent = out.sent }
answer_keeps (answer.Queued slot) own out = elim (set_gives own.issues slot 31 (option_map answered_issue (own_issue own slot)) out.issue out.there) [
  | inl h ↦
      let was = answered_out (own_issue own slot) out.issue h.0 out.sent in
      record { issue = was.0; there = subst (λ (s : ℕ). own_issue own s ≡ Some was.0) h.1 was.1; sent = was.2 }
  | inr h ↦ record { issue = out.issue; there = h; sent = out.sent }
]
answer_keeps other own out = out

-- what the host knows of slot 31 while a command of it is unanswered
pub record IsAwaiting (h : Host) : Type 0 where
  pub resetting : (view_of 15 h.port).state.resetting ≡ false
  pub plain : (i : Issue) → own_issue (view_of 15 h.port).slots 31 ≡ Some i → (needs_all i.work.kind || is_queued i.work.kind) ≡ false
  pub opened : 7 ≤ h.driver.plan.opened

plain_done : (i : Issue) → (needs_all i.work.kind || is_queued i.work.kind) ≡ false → answer_for 31 i ≡ answer.Done 31
plain_done i plain = by_test (needs_all i.work.kind) (is_queued i.work.kind) (is_whole_issue i) plain
  where
    by_test : (all queued whole : Bool) → (all || queued) ≡ false → (if queued then answer.Queued 31 else if all && not whole then answer.Short 31 else answer.Done 31) ≡ answer.Done 31
    by_test true queued whole e = absurd (true≢false e)
    by_test false true whole e = absurd (true≢false e)
    by_test false false whole e = refl

-- it waits alone, so an answer is its own
its_answer : (t : Slots) → IsTable t → (i : Issue) → own_issue (slots_of 15 t) 31 ≡ Some i → i.sent ≡ true → (needs_all i.work.kind || is_queued i.work.kind) ≡ false → answer_of (slots_of 15 t) ≡ answer.Done 31
its_answer t table i there sent plain =
    ap (λ (o : Option ℕ). match_some o answer.Nobody (λ slot. match_some (own_issue (slots_of 15 t) slot) answer.Nobody (answer_for slot))) waits
    ∙ ap (λ (o : Option Issue). match_some o answer.Nobody (answer_for 31)) there
    ∙ plain_done i plain
  where
    long : (k : ℕ) → k < 32 → k < length t.issues
    long k low = let all : length t.issues ≡ 32 = table.slots in omega (arith, all, low)

    unqueued : (all queued : Bool) → (all || queued) ≡ false → queued ≡ false
    unqueued true queued e = absurd (true≢false e)
    unqueued false queued e = e

    rules : IsIssue i
    rules = (is_own 15 t table).issues 31 i there

    unanswered : i.answered ≡ false
    unanswered = elim (cases_Bool i.answered) [
      | inl done ↦ absurd (true≢false (sym (rules.answers done).0 ∙ unqueued (needs_all i.work.kind) (is_queued i.work.kind) plain))
      | inr none ↦ none
    ]

    waiting_both : (a b : Bool) → a ≡ true → b ≡ false → (a && not b) ≡ true
    waiting_both true false a b = refl
    waiting_both true true a b = absurd (true≢false b)
    waiting_both false b a c = absurd (false≢true a)

    is_first : holds is_waiting (own_issue (slots_of 15 t) 31) ≡ true
    is_first = ap (holds is_waiting) there ∙ waiting_both i.sent i.answered sent unanswered

    as_owned : (k : ℕ) → k < 32 → waits_for 15 t k ≡ holds is_waiting (own_issue (slots_of 15 t) k)
    as_owned k low = ap (holds is_waiting) (sym (own_at 15 t k (long k low)))

    before : (k : ℕ) → k < 31 → holds is_waiting (own_issue (slots_of 15 t) k) ≡ false
    before k low = elim (cases_Bool (holds is_waiting (own_issue (slots_of 15 t) k))) [
      | inl also ↦
          let same : k ≡ 31 = table.one_waits 15 k 31 (as_owned k (omega (arith, low)) ∙ also) (as_owned 31 (omega arith) ∙ is_first) in
          absurd (omega (arith, low, same))
      | inr none ↦ none
    ]

    waits : waiting (slots_of 15 t) ≡ Some 31
    waits = lowest_found (λ slot. holds is_waiting (own_issue (slots_of 15 t) slot)) 32 31 (omega arith) is_first before

-- an answer frees the slot
pub answered_free : (t : Slots) → IsTable t → (i : Issue) → own_issue (slots_of 15 t) 31 ≡ Some i → i.sent ≡ true → (needs_all i.work.kind || is_queued i.work.kind) ≡ false → own_issue (answered_as (answer_of (slots_of 15 t)) (slots_of 15 t)) 31 ≡ None
answered_free t table i there sent plain =
    ap (λ (a : Answered). own_issue (answered_as a (slots_of 15 t)) 31) (its_answer t table i there sent plain)
    ∙ ap (λ (f : ℕ → Option Issue). f 31) (own_freed (is_slot 31) (slots_of 15 t))

-- a Register FIS leaves the slot, or answers it
pub data Leaves (v w : DeviceView) (status : ℕ) : Type 0 where
  Stays : is_busy status ≡ true → IsAsking v → Leaves v w status
  Answers : is_busy status ≡ false → IsAsking v → w.slots ≡ answered_as (answer_of v.slots) v.slots → Leaves v w status

module _ (v : DeviceView) (well : v.fault ≡ None) where
  pub bits_keep : (status error mask : ℕ) → IsAsking (view_after_hearing v (heard_bits v.slots v.state status error mask)) → IsAsking v
  bits_keep status error mask a = by_error (is_error status) a
    where
      by_error : (b : Bool) → IsAsking (view_after_hearing v (if b then faulty (with_bits v.state status error) cause.TaskFile else named (completed mask v.slots) (with_bits v.state status error) mask)) → IsAsking v
      by_error true a = let wrong = a.well in absurd (cc)
      by_error false a = record { issue = a.issue; there = freed_keeps (is_done mask v.slots) v.slots a.issue a.there; sent = a.sent; well = well }

  pub register_leaves : (status error : ℕ) (w : DeviceView) → v.state.resetting ≡ false → w.slots ≡ (view_after_hearing v (heard_register v.slots v.state status error)).slots → w.fault ≡ (view_after_hearing v (heard_register v.slots v.state status error)).fault
      → IsAsking w → Leaves v w status
  register_leaves status error w calm slots fault a = by_test (is_error status) refl (is_busy status) refl
    where
      plain : heard_register v.slots v.state status error ≡ heard_d2h v.slots v.state status error
      plain = ap (λ (b : Bool). if b then quietly (after_reset v.state status error) happening.Nothing else heard_d2h v.slots v.state status error) calm

      given : (h : Heard) → heard_register v.slots v.state status error ≡ h → (w.slots ≡ (view_after_hearing v h).slots) × (w.fault ≡ (view_after_hearing v h).fault)
      given h is = (slots ∙ ap (λ (x : Heard). (view_after_hearing v x).slots) is, fault ∙ ap (λ (x : Heard). (view_after_hearing v x).fault) is)

      by_test : (e : Bool) → is_error status ≡ e → (b : Bool) → is_busy status ≡ b → Leaves v w status
      by_test true bad b is =
          let g = given (faulty (with_file v.state status error) cause.TaskFile) (plain ∙ ap (λ (x : Bool). if x then faulty (with_file v.state status error) cause.TaskFile
          else if is_busy status then quietly (with_file v.state status error) happening.Nothing else answered (answer_of v.slots) (with_file v.state status error)) bad) in
          let wrong : Some cause.TaskFile ≡ None = sym g.1 ∙ a.well in absurd (cc)
      by_test false fine true is =
          let g = given (quietly (with_file v.state status error) happening.Nothing) (plain ∙ ap (λ (x : Bool). if x then faulty (with_file v.state status error) cause.TaskFile
          else if is_busy status then quietly (with_file v.state status error) happening.Nothing else answered (answer_of v.slots) (with_file v.state status error)) fine
          ∙ ap (λ (x : Bool). if x then quietly (with_file v.state status error) happening.Nothing else answered (answer_of v.slots) (with_file v.state status error)) is) in
          Stays is (record { issue = a.issue; there = sym (ap (λ (s : DeviceSlots). own_issue s 31) g.0) ∙ a.there; sent = a.sent; well = well })
      by_test false fine false is =
          let g = given (answered (answer_of v.slots) (with_file v.state status error)) (plain ∙ ap (λ (x : Bool). if x then faulty (with_file v.state status error) cause.TaskFile
          else if is_busy status then quietly (with_file v.state status error) happening.Nothing else answered (answer_of v.slots) (with_file v.state status error)) fine
          ∙ ap (λ (x : Bool). if x then quietly (with_file v.state status error) happening.Nothing else answered (answer_of v.slots) (with_file v.state status error)) is) in
          let out : IsOut v.slots = answer_keeps (answer_of v.slots) v.slots (record { issue = a.issue; there = sym (ap (λ (s : DeviceSlots). own_issue s 31) g.0) ∙ a.there; sent = a.sent }) in
          Answers is (record { issue = out.issue; there = out.there; sent = out.sent; well = well }) g.0
