-- For `rested_drivers_watch`. The task file of the control port at the host: DRQ is never set, and BSY only while a command that
-- went out is unanswered.
use Rattle.std.proofs.Common.{◌≡◌, ◌≢◌, ◌⊎◌, ℕ, ◌<◌, Bool, true, false, List, [], ◌∷◌, length, refl, sym, ap, subst, ◌∙◌, inl, inr, Option, Some}
use Rattle.std.proofs.{Common.{None, Ok, arith}, lemmas.{Bool.{cases_Bool, cases_eq, eqb-true, true≢false}, Nat.Bits.{bit_at-lt, bit_at-zero}}}
use Rattle.std.proofs.lemmas.Nat.Bits.{bit_at_and, bit_at_or}
use Rattle.std.specs.{Prelude.{bit_and, bit_or, cond, if◌then◌else◌, is_some, max, min, nat_lt, not, ◌==◌, ◌&&◌, ◌||◌}, Int.bit_at, Option.option_or}
use Rattle.fis_view.specs.{Frames.Stamped, Seen.seen, Table.{Bits, D2h, Error, N, SActive, Status, field}}
use Rattle.fis_view.specs.declared.view.Fis.TheVariants as view
use Rattle.host_memory.specs.Memory.{Memory}
use Rattle.port_errors.specs.declared.cause.DeviceCause.TheVariants as cause
use Rattle.hba_commands.specs.{Commands.command_at, declared.command.Command.Command}
use Rattle.slots.specs.{Commands.{answer_of, is_done}, Slots.{DeviceSlots, Issue, freed, has_bit, holds, is_control, is_done_issue, issue_at, lowest}}
use Rattle.slots.specs.Slots.{own_issue}
use Rattle.slots.proofs.Door.{none_below}
use Rattle.hba_fbs.specs.declared.error.WriteError.TheVariants as refusal
use Rattle.hba_fbs.specs.declared.hearing.Happening.TheVariants as happening
use Rattle.hba_fbs.specs.{declared.{register.Register.{Register, TheVariants.{Cmd, Ci, Fbs}}, state.DeviceState.DeviceState}, Hearing.answered}
use Rattle.hba_fbs.specs.{Hearing.{faulty, heard_bits, heard_register, quietly, signing}, Issuing.{aimed, any_slot, asked, is_busy as has_issue}}
use Rattle.hba_fbs.specs.{Issuing.{issue_with, issued_slots, view_issued}, Registers.{falls, own_refusal}, Sending.{Data, Gives, Nothing, Order}}
use Rattle.hba_fbs.specs.{Sending.{Outgoing, Unreadable, outgoing, resets, state_sent}, Status.{after_reset, is_busy, is_error, wants_data}}
use Rattle.hba_fbs.specs.{Status.with_file, Taking.view_after_hearing, Views.{DeviceView, Port, flushed_view, stopped_view, view_of}}
use Rattle.hba_fbs.specs.Writing.{cleared_by, is_device, issue_refusal, refusal_of, slots_refusal, view_after}
use Rattle.hba_laws.specs.{History.unless, Hosts.HostEvent}
use Rattle.hba_laws.specs.Hosts as event
use Rattle.hba_laws.proofs.Door.{own_freed, own_in, own_issued}
use Rattle.hba_driver.specs.{declared.mode.Mode.TheVariants.Switching, Events.{IsSoundHost, events_over, shared_by}, HostTurns.{Does, DoesAll, Host}}
use Rattle.hba_driver.specs.HostTurns.{Pushed, Ticked, Ticks}
use Rattle.hba_driver.proofs.Door.{each_run_tells, turns_are_events}
use Rattle.world_rests.proofs.Slot31.{AreQuiet, IsOut, IsQuiet, are_quiet}

-- ---- bits

bit_cases : (n i : ℕ) → (bit_at n i ≡ 0) ⊎ (bit_at n i ≡ 1)
bit_cases n i = by_size (bit_at n i) (bit_at-lt n i)
  where
    by_size : (b : ℕ) → b < 2 → (b ≡ 0) ⊎ (b ≡ 1)
    by_size b low = elim (cases_eq b 0) [ inl none ↦ inl none | inr some ↦ inr (omega (arith, low, some)) ]

bit_none : (n i : ℕ) → has_bit n i ≡ false → bit_at n i ≡ 0
bit_none n i none = elim (bit_cases n i) [
  | inl is ↦ is
  | inr is ↦ absurd (true≢false (sym (ap (λ (b : ℕ). b == 1) is) ∙ none))
]

-- what a Set Device Bits FIS with Status 50h leaves of BSY and DRQ
bits_busy : (s : ℕ) → is_busy s ≡ false → is_busy (bit_or (bit_and s 0x88) 0x50) ≡ false
bits_busy s none =
    ap (λ (b : ℕ). b == 1) (bit_at_or (bit_and s 0x88) 0x50 7 ∙ ap (λ (b : ℕ). max b (bit_at 0x50 7)) (bit_at_and s 0x88 7 ∙ ap (λ (b : ℕ). min b (bit_at 0x88 7)) (bit_none s 7 none)))

bits_data : (s : ℕ) → wants_data s ≡ false → wants_data (bit_or (bit_and s 0x88) 0x50) ≡ false
bits_data s none =
    ap (λ (b : ℕ). b == 1) (bit_at_or (bit_and s 0x88) 0x50 3 ∙ ap (λ (b : ℕ). max b (bit_at 0x50 3)) (bit_at_and s 0x88 3 ∙ ap (λ (b : ℕ). min b (bit_at 0x88 3)) (bit_none s 3 none)))

-- a command that goes out sets BSY alone
sent_data : (s : ℕ) → wants_data s ≡ false → wants_data (bit_or s 0x80) ≡ false
sent_data s none = ap (λ (b : ℕ). b == 1) (bit_at_or s 0x80 3 ∙ ap (λ (b : ℕ). max b (bit_at 0x80 3)) (bit_none s 3 none))

-- as ST falls both are cleared
stopped_busy : (s : ℕ) → is_busy (bit_and s 0x77) ≡ false
stopped_busy s = elim (bit_cases s 7) [
  | inl is ↦ ap (λ (b : ℕ). b == 1) (bit_at_and s 0x77 7 ∙ ap (λ (b : ℕ). min b (bit_at 0x77 7)) is)
  | inr is ↦ ap (λ (b : ℕ). b == 1) (bit_at_and s 0x77 7 ∙ ap (λ (b : ℕ). min b (bit_at 0x77 7)) is)
]

stopped_data : (s : ℕ) → wants_data (bit_and s 0x77) ≡ false
stopped_data s = elim (bit_cases s 3) [
  | inl is ↦ ap (λ (b : ℕ). b == 1) (bit_at_and s 0x77 3 ∙ ap (λ (b : ℕ). min b (bit_at 0x77 3)) is)
  | inr is ↦ ap (λ (b : ℕ). b == 1) (bit_at_and s 0x77 3 ∙ ap (λ (b : ℕ). min b (bit_at 0x77 3)) is)
]

-- ---- the view of the control port

-- DRQ is not set; BSY is set without a fault, and outside of a software reset, only while a command that went out is unanswered
pub record IsSettled (v : DeviceView) : Type 0 where
  pub drq : wants_data v.state.status ≡ false
  pub busy : is_busy v.state.status ≡ true → v.fault ≡ None → v.state.resetting ≡ false → IsOut v.slots

pub free_settled : (v : DeviceView) → wants_data v.state.status ≡ false → is_busy v.state.status ≡ false → IsSettled v
free_settled v drq busy = record { drq = drq; busy = λ set well calm. absurd (true≢false (sym set ∙ busy)) }

-- a view with another task file and slots
settled_as : (v w : DeviceView) → w ≡ v → IsSettled v → IsSettled w
settled_as v w same is = subst IsSettled (sym same) is

stopped_settled : (v : DeviceView) → IsSettled (stopped_view v)
stopped_settled v = free_settled (stopped_view v) (stopped_data v.state.status) (stopped_busy v.state.status)

-- ---- writes of the driver

not_either : {A : Type 0} (a b : Option A) → option_or a b ≡ None → (a ≡ None) × (b ≡ None)
not_either None b e = (refl, e)
not_either (Some x) b e = absurd (cc)

none_of : {A : Type 0} (b : Bool) (x : A) (o : Option A) → (if b then Some x else o) ≡ None → (b ≡ false) × (o ≡ None)
none_of true x o e = absurd (cc)
none_of false x o e = (refl, e)

not_found : (o : Option ℕ) → is_some o ≡ false → o ≡ None
not_found None e = refl
not_found (Some k) e = absurd (true≢false e)

second_off : (a b : Bool) → (a && b) ≡ false → b ≡ true → a ≡ false
second_off true b off on = absurd (true≢false (sym on ∙ off))
second_off false b off on = refl

-- a write of PxCI that is not refused issues nothing in a slot in which something is issued
unasked : (old : Port) (memory : Memory) (value : ℕ) (i : Issue) → refusal_of Ci old memory value ≡ None → issue_at old.slots 31 ≡ Some i → has_bit value 31 ≡ false
unfolding own_refusal slots_refusal
unasked old memory value i none there = by_start old.registers.started (not_either (own_refusal Ci old.registers value) (slots_refusal Ci old memory value) none)
  where
    zero_has : value ≡ 0 → has_bit value 31 ≡ false
    zero_has is = ap (λ (n : ℕ). has_bit n 31) is ∙ ap (λ (b : ℕ). b == 1) (bit_at-zero 31)

    stopped : (b : Bool) → (value == 0) ≡ b → not b ≡ false → value ≡ 0
    stopped true is e = eqb-true value 0 is
    stopped false is e = absurd (true≢false e)

    by_start : (started : Bool) → ((if not started && not (value == 0) then Some refusal.Stopped else None) ≡ None) × ((if started then issue_refusal old memory value else None) ≡ None) → has_bit value 31 ≡ false
    by_start true e =
        let first = none_of (any_slot value (has_issue old.slots)) _ _ e.1 in
        let off : (has_bit value 31 && has_issue old.slots 31) ≡ false = none_below (λ slot. has_bit value slot && has_issue old.slots slot) 32 (not_found (lowest (λ slot. has_bit value slot && has_issue old.slots slot)) first.0) 31 (omega arith) in
        second_off (has_bit value 31) (has_issue old.slots 31) off (ap is_some there)
    by_start false e = zero_has (stopped (value == 0) refl (none_of (not (value == 0)) _ None e.0).0)

-- so what went out stays
issued_out : (old : Port) (memory : Memory) (value : ℕ) → refusal_of Ci old memory value ≡ None → IsOut (view_of 15 old).slots → IsOut (issued_slots (aimed old.registers memory.structure value) (asked old.registers memory value) (view_of 15 old).slots)
issued_out old memory value none out =
    let dev : ℕ = aimed old.registers memory.structure value in
    let commands : ℕ → Option Command = asked old.registers memory value in
    let own : DeviceSlots = (view_of 15 old).slots in
    let off : has_bit value 31 ≡ false = unasked old memory value out.issue none (own_in 15 31 old.slots out.issue out.there).1 in
    let nothing : commands 31 ≡ None = ap (λ (b : Bool). if b then command_at memory old.registers.clb 31 (has_bit old.registers.armed 31) else None) off in
    record {
      issue = out.issue;
      there =
          ap (λ (f : ℕ → Option Issue). f 31) (own_issued dev commands own (length own.issues) refl)
          ∙ ap (λ (o : Option Command). cond (nat_lt 31 (length own.issues)) (issue_with dev o (own_issue own 31)) (own_issue own 31)) nothing
          ∙ same_both (nat_lt 31 (length own.issues)) (own_issue own 31) ∙ out.there;
      sent = out.sent;
    }
  where
    same_both : (b : Bool) (o : Option Issue) → cond b o o ≡ o
    same_both true o = refl
    same_both false o = refl

register_settled : (r : Register) (old : Port) (memory : Memory) (value : ℕ) → refusal_of r old memory value ≡ None → IsSettled (view_of 15 old) → IsSettled (view_after r old memory value 15)
unfolding view_after
register_settled Cmd old memory value none is = by_fall (falls old.registers value)
  where
    by_fall : (b : Bool) → IsSettled (if b then stopped_view (view_of 15 old) else view_of 15 old)
    by_fall true = stopped_settled (view_of 15 old)
    by_fall false = is
register_settled Ci old memory value none is = by_aim (15 == aimed old.registers memory.structure value)
  where
    by_aim : (b : Bool) → IsSettled (if b then view_issued old.registers memory value (view_of 15 old) else view_of 15 old)
    by_aim true = record { drq = is.drq; busy = λ set well calm. issued_out old memory value none (is.busy set well calm) }
    by_aim false = is
register_settled Fbs old memory value none is = by_device (is_device 15 (cleared_by old.errors value))
  where
    by_device : (b : Bool) → IsSettled (if b then stopped_view (view_of 15 old) else view_of 15 old)
    by_device true = stopped_settled (view_of 15 old)
    by_device false = is
register_settled other old memory value none is = is

same_settled : (old new : Port) → new ≡ old → IsSettled (view_of 15 old) → IsSettled (view_of 15 new)
same_settled old new same is = subst (λ (p : Port). IsSettled (view_of 15 p)) (sym same) is

event_settled : (e : HostEvent) (old new : event.Host) → IsQuiet e → event.Does old e new → IsSettled (view_of 15 old.port) → IsSettled (view_of 15 new.port)
event_settled (event.Took frame report) old new quiet does is = absurd quiet
event_settled (event.Gave frame) old new quiet does is = absurd quiet
event_settled (event.Wrote register value) old new quiet does is = settled_as (view_after register old.port old.memory value 15) (view_of 15 new.port) (does.1.views 15 (omega arith)) (register_settled register old.port old.memory value does.0 is)
event_settled (event.Flushed dev) old new quiet does is = elim (cases_eq 15 dev) [
  | inl own ↦ settled_as flushed_view (view_of 15 new.port) (ap (λ (n : ℕ). view_of n new.port) own ∙ does.0.own) (free_settled flushed_view refl refl)
  | inr other ↦ settled_as (view_of 15 old.port) (view_of 15 new.port) (does.0.others 15 other) is
]
event_settled other old new quiet does is = same_settled old.port new.port does.1 is

events_settled : (es : List HostEvent) (old new : event.Host) → AreQuiet es → event.Runs old es new → IsSettled (view_of 15 old.port) → IsSettled (view_of 15 new.port)
events_settled [] old new quiet runs is = subst (λ (h : event.Host). IsSettled (view_of 15 h.port)) (sym runs) is
events_settled (e ∷ es) old new quiet runs is = events_settled es runs.0 new quiet.1 runs.2 (event_settled e old runs.0 quiet.0 runs.1 is)

pub tick_settled : (old new : Host) (acted : Bool) → IsSoundHost old → Ticks old acted new → IsSettled (view_of 15 old.port) → IsSettled (view_of 15 new.port)
tick_settled old new acted sound ticks is =
    let run : DoesAll old (Ticked acted ∷ []) new = (new, ticks, refl) in
    let tells = each_run_tells old new (Ticked acted ∷ []) run in
    events_settled (events_over old new (Ticked acted ∷ []) run) (shared_by old) (shared_by new) (are_quiet (events_over old new (Ticked acted ∷ []) run) tells.taken tells.given)
    (turns_are_events Switching old new (Ticked acted ∷ []) run sound).runs is

-- ---- a frame that goes out

-- Status is as it was, or BSY is set in it
abbrev pub IsSetFrom : Port → Port → Type 0
IsSetFrom old new = ((view_of 15 new).state.status ≡ (view_of 15 old).state.status) ⊎ ((view_of 15 new).state.status ≡ bit_or (view_of 15 old).state.status 0x80)

set_data : (old new : Port) → IsSetFrom old new → wants_data (view_of 15 old).state.status ≡ false → wants_data (view_of 15 new).state.status ≡ false
set_data old new (inl same) none = ap wants_data same ∙ none
set_data old new (inr set) none = ap wants_data set ∙ sent_data (view_of 15 old).state.status none

sent_state : (s : DeviceState) (command : Command) → ((state_sent s command).status ≡ s.status) ⊎ ((state_sent s command).status ≡ bit_or s.status 0x80)
sent_state s command = by_kind (is_control command.work.kind)
  where
    by_kind : (b : Bool) → ((if b then record s { resetting = s.resetting || resets command.cfis } else record s { status = bit_or s.status 0x80 }).status ≡ s.status)
        ⊎ ((if b then record s { resetting = s.resetting || resets command.cfis } else record s { status = bit_or s.status 0x80 }).status ≡ bit_or s.status 0x80)
    by_kind true = inl refl
    by_kind false = inr refl

none_pushed : (f : Stamped) {P : Type 0} → Some f ≡ None → P
none_pushed f e = absurd (cc)

gives_from : (o : Outgoing) (old : Port) (memory : Memory) (f : Stamped) (new : Port) → Gives o old memory (Some f) new → f.stamp.port ≡ 15 → IsSetFrom old new
gives_from (Data dev offset len command) old memory f new gives own =
    let is : 15 ≡ dev = sym own ∙ ap (λ (x : Stamped). x.stamp.port) gives.frame_is in
    inl (ap (λ (n : ℕ). (view_of n new).state.status) is ∙ ap (λ (v : DeviceView). v.state.status) gives.own ∙ ap (λ (n : ℕ). (view_of n old).state.status) (sym is))
gives_from (Order dev slot command) old memory f new gives own =
    let is : 15 ≡ dev = sym own ∙ ap (λ (x : Stamped). x.stamp.port) gives.frame_is in
    let now : (view_of 15 new).state.status ≡ (state_sent (view_of dev old).state command).status = ap (λ (n : ℕ). (view_of n new).state.status) is ∙ ap (λ (v : DeviceView). v.state.status) gives.own in
    let was : (view_of dev old).state.status ≡ (view_of 15 old).state.status = ap (λ (n : ℕ). (view_of n old).state.status) (sym is) in
    elim (sent_state (view_of dev old).state command) [
      | inl same ↦ inl (now ∙ same ∙ was)
      | inr set ↦ inr (now ∙ set ∙ ap (λ (s : ℕ). bit_or s 0x80) was)
    ]
gives_from other old memory f new gives own = none_pushed f gives.0

pub pushed_data : (old new : Host) (f : Stamped) → Does old (Pushed (Some f)) new → f.stamp.port ≡ 15 → wants_data (view_of 15 old.port).state.status ≡ false → wants_data (view_of 15 new.port).state.status ≡ false
pushed_data old new f does own none = set_data old.port new.port (gives_from (outgoing old.port old.memory) old.port old.memory f new.port does.gives own) none

gives_other : (o : Outgoing) (old : Port) (memory : Memory) (f : Stamped) (new : Port) → Gives o old memory (Some f) new → f.stamp.port ≢ 15 → view_of 15 new ≡ view_of 15 old
gives_other (Data dev offset len command) old memory f new gives other = gives.others 15 (λ same. other (ap (λ (x : Stamped). x.stamp.port) gives.frame_is ∙ sym same))
gives_other (Order dev slot command) old memory f new gives other = gives.others 15 (λ same. other (ap (λ (x : Stamped). x.stamp.port) gives.frame_is ∙ sym same))
gives_other rest old memory f new gives other = none_pushed f gives.0

pub pushed_other : (old new : Host) (f : Stamped) → Does old (Pushed (Some f)) new → f.stamp.port ≢ 15 → view_of 15 new.port ≡ view_of 15 old.port
pushed_other old new f does other = gives_other (outgoing old.port old.memory) old.port old.memory f new.port does.gives other

gives_none : (o : Outgoing) (old : Port) (memory : Memory) (new : Port) → Gives o old memory None new → IsSettled (view_of 15 old) → IsSettled (view_of 15 new)
gives_none Nothing old memory new gives is = same_settled old new gives.1 is
gives_none (Unreadable dev) old memory new gives is = subst (λ (p : Port). IsSettled (view_of 15 p)) (sym gives.1) (record { drq = is.drq; busy = is.busy })
gives_none other old memory new gives is = absurd gives

pub nothing_pushed : (old new : Host) → Does old (Pushed None) new → IsSettled (view_of 15 old.port) → IsSettled (view_of 15 new.port)
nothing_pushed old new does is = gives_none (outgoing old.port old.memory) old.port old.memory new.port does.gives is

-- ---- a frame of the control port that comes

-- an answer shows neither BSY nor DRQ; a notification has Status 50h and names no slot
pub data Says (bytes : List ℕ) : Type 0 where
  Tells : seen bytes ≡ Ok (view.RegD2H bytes) → is_busy (field D2h Status bytes) ≡ false → wants_data (field D2h Status bytes) ≡ false → Says bytes
  Notes : seen bytes ≡ Ok (view.SetBits bytes) → field Bits Status bytes ≡ 0x50 → field Bits SActive bytes ≡ 0 → field Bits N bytes ≡ 1 → Says bytes

register_status : (v : DeviceView) (status error : ℕ) (bytes : List ℕ) → (view_after_hearing v (signing bytes (heard_register v.slots v.state status error))).state.status ≡ status
register_status v status error bytes = by_test v.state.resetting (is_error status) (is_busy status)
  where
    by_test : (r e b : Bool) → (if r then quietly (after_reset v.state status error) happening.Nothing
        else (if e then faulty (with_file v.state status error) cause.TaskFile
        else (if b then quietly (with_file v.state status error) happening.Nothing else answered (answer_of v.slots) (with_file v.state status error)))).state.status ≡ status
    by_test true e b = refl
    by_test false true b = refl
    by_test false false true = refl
    by_test false false false = refl

pub told_settled : (v : DeviceView) (bytes : List ℕ) → is_busy (field D2h Status bytes) ≡ false → wants_data (field D2h Status bytes) ≡ false
    → IsSettled (view_after_hearing v (signing bytes (heard_register v.slots v.state (field D2h Status bytes) (field D2h Error bytes))))
told_settled v bytes calm none =
    let is = register_status v (field D2h Status bytes) (field D2h Error bytes) bytes in
    free_settled (view_after_hearing v (signing bytes (heard_register v.slots v.state (field D2h Status bytes) (field D2h Error bytes)))) (ap wants_data is ∙ none) (ap is_busy is ∙ calm)

-- a notification frees no slot
kept_out : (own : DeviceSlots) → IsOut own → IsOut (freed (is_done 0 own) own)
kept_out own out =
    let off : is_done 0 own 31 ≡ false = ap (λ (b : ℕ). (b == 1) && holds is_done_issue (own_issue own 31)) (bit_at-zero 31) in
    record {
      issue = out.issue;
      there = ap (λ (f : ℕ → Option Issue). f 31) (own_freed (is_done 0 own) own) ∙ ap (λ (b : Bool). unless b (own_issue own 31)) off ∙ out.there;
      sent = out.sent;
    }

pub noted_settled : (v : DeviceView) (status error mask : ℕ) → status ≡ 0x50 → mask ≡ 0 → IsSettled v → v.fault ≡ None → IsSettled (view_after_hearing v (heard_bits v.slots v.state status error mask))
noted_settled v status error mask is none settled well =
    subst (λ (n : ℕ). IsSettled (view_after_hearing v (heard_bits v.slots v.state n error mask))) (sym is)
    (subst (λ (m : ℕ). IsSettled (view_after_hearing v (heard_bits v.slots v.state 0x50 error m))) (sym none) (record {
      drq = bits_data v.state.status settled.drq;
      busy = λ set fine calm. elim (cases_Bool (is_busy v.state.status)) [
        | inl was ↦ kept_out v.slots (settled.busy was well calm)
        | inr not_busy ↦ absurd (true≢false (sym set ∙ bits_busy v.state.status not_busy))
      ];
    }))
