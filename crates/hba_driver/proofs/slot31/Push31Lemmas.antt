-- For `orders_take_turns`. A frame that goes out to the control port is the command of the order in slot 31.
use Rattle.std.proofs.Common.{◌≡◌, ℕ, ◌+◌, ◌*◌, ◌<◌, ◌⊎◌, Bool, true, false, ◌&&◌, ◌||◌, List, length, refl, sym, ◌∙◌, ap, subst, inl, inr, arith, Option, Some, None}
use Rattle.std.specs.{Prelude.{◌==◌, ◌%◌, if◌then◌else◌, not, is_none, is_some, slice_index, bit_or}, Int.bit_at, Option.option_map}
use Rattle.std.proofs.lemmas.{Bool.{cases_Bool, false≢true, true≢false}, Nat.Bits.bit_at-lt}
use Rattle.fis_view.specs.{Bits.{bit, bits}, Built.{IsBuilt, cut, h2d_given}, Frames.Stamped, Table.{H2d, field, places, spelled}}
use Rattle.fis_view.specs.declared.build.H2dFields.{H2dFields}
use Rattle.fis_view.specs.Table as table
use Rattle.hba_commands.specs.{declared.command.Command.Command, Requests.{request_of, work_of}}
use Rattle.slots.specs.{Commands.{is_slot, may_begin, sent_issue, with_sent}, Data.payload}
use Rattle.slots.specs.Slots.{DeviceSlots, Issue, context_of, context_unless, freed, has_bit, holds, is_control, new_issue, own_issue, slots_of}
use Rattle.slots.specs.{Slots.waiting, Work.{is_dma, is_queued, needs_all}, declared.{table.Context.Context, work.Work.Work}}
use Rattle.slots.proofs.Door.{lowest_is}
use Rattle.hba_fbs.specs.Sending.{Data, Gives, Order as Goes, Outgoing, Sends, is_ready, next_receiver, next_to_send, outgoing, resets, view_sent}
use Rattle.hba_fbs.specs.Views.{DeviceView, last_command, view_of}
use Rattle.hba_laws.specs.{Client.own, History.{Transfer, issued}, Isolation.{may_leave, next_own}, Parts.DevicePart, Between.IsOrder}
use Rattle.hba_laws.proofs.Door.{at_same, data_is_own, held, is_own, order_is, order_is_own, own_freed, own_set, some_inj, the_transfer}
use Rattle.hba_driver.specs.{declared.order.Order.{Order, TheVariants.{ResetOn, ResetOff, AwaitSignature, Watch}}, Drivers.{Driver, IsPath}}
use Rattle.hba_driver.specs.{HostTurns.{Does, Host, Pushed}, Orders.order_fields, Served.{IsOrdered, IsRequest, IsStep}}
use Rattle.hba_driver.specs.Slot31.{Asks, IsAt31, IsIn, IsLow, IsUnsent, Fails, Follows31, Pushes31, Resets, Rests, Signs, Stage31, Told, Waits}
use Rattle.hba_driver.specs.{Slot31.{control_of, has_failed, is_off, is_on, is_resetting}, Between.IsGoing}
use Rattle.hba_driver.proofs.{goes_on.StopLemmas.either, slot31.SentLemmas.{gone, gone_plain, no_dma}}

-- ---- the orders' commands

-- a software reset is a Control, and every other order is a command
abbrev IsKind : Bool → H2dFields → Type 0
IsKind b f = is_control (work_of (request_of f)).kind ≡ b

kind_by : (b : Bool) (g f : H2dFields) → IsKind b g → Some g ≡ Some f → IsKind b f
kind_by b g f h is = subst (IsKind b) (some_inj g f is) h

kind_none : (b : Bool) (f : H2dFields) → None ≡ Some f → IsKind b f
kind_none b f h = cc

control_is : (order : Order) (f : H2dFields) → order_fields order ≡ Some f → IsKind (is_on order || is_off order) f
unfolding order_fields work_of
control_is ResetOn f h = kind_by true _ f refl h
control_is ResetOff f h = kind_by true _ f refl h
control_is AwaitSignature f h = kind_none false f h
control_is Watch f h = kind_none false f h
control_is other f h = kind_by false _ f refl h

-- none moves data
abbrev pub IsPlain : H2dFields → Type 0
IsPlain f = (needs_all (work_of (request_of f)).kind || is_queued (work_of (request_of f)).kind) ≡ false

plain_by : (g f : H2dFields) → IsPlain g → Some g ≡ Some f → IsPlain f
plain_by g f h is = subst IsPlain (some_inj g f is) h

plain_none : (f : H2dFields) → None ≡ Some f → IsPlain f
plain_none f h = cc

plain_is : (order : Order) (f : H2dFields) → order_fields order ≡ Some f → IsPlain f
unfolding order_fields work_of
plain_is AwaitSignature f h = plain_none f h
plain_is Watch f h = plain_none f h
plain_is other f h = plain_by _ f refl h

-- SRST is set in the first of the two
on_control : (order : Order) (f : H2dFields) → is_on order ≡ true → order_fields order ≡ Some f → f.control ≡ 4
unfolding order_fields
on_control ResetOn f on h = ap (λ (x : H2dFields). x.control) (sym (some_inj _ f h))
on_control order f on h = absurd (false≢true on)

-- bit 2 of Control
pub third_bit : (f : List ℕ) → bits f 120 8 ≡ 4 → has_bit (slice_index f 15) 2 ≡ true
unfolding bits
third_bit f is =
    let a : bit f 120 < 2 = bit_at-lt (slice_index f 15) 0 in
    let b : bit f 121 < 2 = bit_at-lt (slice_index f 15) 1 in
    let c : bit f 122 < 2 = bit_at-lt (slice_index f 15) 2 in
    let third : bit_at (slice_index f 15) 2 ≡ 1 = omega (arith, is, a, b, c) in
    ap (λ (k : ℕ). k == 1) third

-- what the FISes of a software reset have in Control, and that they give no command
abbrev IsSrst : ℕ → H2dFields → Type 0
IsSrst value f = (f.c ≡ false) × (f.control ≡ value)

srst_by : (value : ℕ) (g f : H2dFields) → IsSrst value g → Some g ≡ Some f → IsSrst value f
srst_by value g f h is = subst (IsSrst value) (some_inj g f is) h

on_fields : (order : Order) (f : H2dFields) → is_on order ≡ true → order_fields order ≡ Some f → IsSrst 4 f
unfolding order_fields
on_fields ResetOn f on h = srst_by 4 _ f (refl, refl) h
on_fields order f on h = absurd (false≢true on)

off_fields : (order : Order) (f : H2dFields) → order ≡ ResetOff → order_fields order ≡ Some f → IsSrst 0 f
unfolding order_fields
off_fields order f off h = srst_by 0 _ f (refl, refl) (ap order_fields (sym off) ∙ h)

-- a frame that begins a software reset of the control port sets SRST
pub begins_srst : (stage : Stage31) (old : Host) (frame : Stamped) (next : Stage31) (p : Pushes31 stage old frame next) → next ≡ Resets → (p.unsent.fields.c ≡ false) × (p.unsent.fields.control ≡ 4)
begins_srst stage old frame next p is = by_way p.follows
  where
    by_way : Follows31 stage old.driver.plan.order next → (p.unsent.fields.c ≡ false) × (p.unsent.fields.control ≡ 4)
    by_way (inl h) = on_fields old.driver.plan.order p.unsent.fields h.1 p.unsent.are
    by_way (inr (inl h)) = let bad : Resets ≡ Asks = sym is ∙ h.2 in cc
    by_way (inr (inr h)) = let bad : Resets ≡ Signs = sym is ∙ h.2 in cc

-- a frame that ends it clears SRST
pub ends_srst : (stage : Stage31) (old : Host) (frame : Stamped) (next : Stage31) (p : Pushes31 stage old frame next) → next ≡ Signs → (p.unsent.fields.c ≡ false) × (p.unsent.fields.control ≡ 0)
ends_srst stage old frame next p is = by_way p.follows
  where
    by_way : Follows31 stage old.driver.plan.order next → (p.unsent.fields.c ≡ false) × (p.unsent.fields.control ≡ 0)
    by_way (inl h) = let bad : Signs ≡ Resets = sym is ∙ h.2 in cc
    by_way (inr (inl h)) = let bad : Signs ≡ Asks = sym is ∙ h.2 in cc
    by_way (inr (inr h)) = off_fields old.driver.plan.order p.unsent.fields h.1 p.unsent.are

set_reset : (order : Order) (f : H2dFields) (cfis : List ℕ) → is_on order ≡ true → order_fields order ≡ Some f → IsBuilt H2d (h2d_given f) cfis → resets cfis ≡ true
unfolding field places spelled cut
set_reset order f cfis on are built =
    let is : bits cfis 120 8 + 256 * 0 ≡ f.control % 256 + 256 * 0 = built.fields table.Control in
    let four : f.control ≡ 4 = on_control order f on are in
    third_bit cfis (omega (arith, is, four))

-- ---- what is issued for the control port

module _ (h : Host) (g : IsGoing h) where
  -- it is the order in slot 31
  pub issued31 : (s : ℕ) (i : Issue) → own_issue (slots_of 15 h.port.slots) s ≡ Some i → (s ≡ 31) × (h.driver.plan.asked ≡ true)
  issued31 s i there =
      let told = g.way.served.told 15 (omega arith) in
      let t = the_transfer (issued s (own 15 g.way.past)) (own_issue (slots_of 15 h.port.slots) s) i there (told.issued s) in
      from s t.0 (g.way.served.issues 15 s t.0 t.1).from
    where
      from : (s : ℕ) (t : Transfer) → IsRequest h.driver 15 s t ⊎ (IsStep h.driver 15 s t ⊎ IsOrdered h.driver 15 s t) → (s ≡ 31) × (h.driver.plan.asked ≡ true)
      from s t (inl r) =
          let low : r.entry.head.dev < 15 = (g.way.served.bounded.entries s r.entry r.stands).dev in
          absurd (omega (arith, low, r.of_dev))
      from s t (inr (inl st)) =
          let low : st.path.dev < 15 = subst IsPath st.goes g.way.served.bounded.path in
          absurd (omega (arith, low, st.of_dev))
      from s t (inr (inr o)) = (o.slot, o.goes)

pub record Pushed31 (stage : Stage31) (old : Host) (frame : Stamped) (new : Host) : Type 0 where
  pub unsent : IsUnsent old.driver.plan.order (control_of old)
  pub bytes : frame.bytes ≡ unsent.command.cfis
  pub next : Stage31
  pub follows : Follows31 stage old.driver.plan.order next
  pub at : IsAt31 next new

-- an issue that has not gone out is that of a stage
unsent_of : (stage : Stage31) (order : Order) (asked : Bool) (part : DevicePart) (i : Issue) → has_failed stage ≡ false → IsIn stage order asked part → asked ≡ true → own_issue part.view.slots 31 ≡ Some i → i.sent ≡ false
    → IsUnsent order part × (((stage ≡ Waits) × (is_off order ≡ false)) ⊎ ((stage ≡ Resets) × (order ≡ ResetOff)))
unsent_of Rests order asked part i well is on there fresh = absurd (false≢true (sym is.0 ∙ on))
unsent_of Waits order asked part i well is on there fresh = (is.2, inl (refl, is.1))
unsent_of Resets order asked part i well (inl is) on there fresh = let bad : None ≡ Some i = sym is.2 ∙ there in cc
unsent_of Resets order asked part i well (inr (off, inl free)) on there fresh = absurd (false≢true (sym free ∙ on))
unsent_of Resets order asked part i well (inr (off, inr is)) on there fresh = (is.1, inr (refl, off))
unsent_of Signs order asked part i well is on there fresh = let bad : None ≡ Some i = sym is.0 ∙ there in cc
unsent_of Asks order asked part i well is on there fresh =
    let same : is.2.issue ≡ i = some_inj is.2.issue i (sym is.2.issued ∙ there) in
    absurd (true≢false (sym is.2.sent ∙ ap (λ (x : Issue). x.sent) same ∙ fresh))
unsent_of Told order asked part i well (on1, o, inl free) on there fresh = let bad : None ≡ Some i = sym free ∙ there in cc
unsent_of Told order asked part i well (on1, o, inr s) on there fresh =
    let same : s.issue ≡ i = some_inj s.issue i (sym s.issued ∙ there) in
    absurd (true≢false (sym s.sent ∙ ap (λ (x : Issue). x.sent) same ∙ fresh))
unsent_of Fails order asked part i well is on there fresh = absurd (true≢false well)

none_of : (x : DeviceSlots) (c : Option Context) → c ≡ None → context_unless (is_slot 31) c ≡ None
none_of x c is = ap (context_unless (is_slot 31)) is

module _ (view : DeviceView) (command : Command) (i : Issue) (there : own_issue view.slots 31 ≡ Some i) (long : length view.slots.issues ≡ 32) (none : view.slots.context ≡ None) (plain : is_dma i.work.kind ≡ false) where
  holds_is : holds (λ issue. is_control issue.work.kind) (own_issue view.slots 31) ≡ is_control i.work.kind
  holds_is = ap (holds (λ issue. is_control issue.work.kind)) there

  slots_control : is_control i.work.kind ≡ true → (view_sent view 31 command).slots ≡ freed (is_slot 31) view.slots
  slots_control is = ap (λ (b : Bool). if b then freed (is_slot 31) view.slots else gone view.slots 31) (holds_is ∙ is)

  slots_command : is_control i.work.kind ≡ false → (view_sent view 31 command).slots ≡ with_sent view.slots 31
  slots_command is = ap (λ (b : Bool). if b then freed (is_slot 31) view.slots else gone view.slots 31) (holds_is ∙ is) ∙ gone_plain view.slots 31 i there plain

  gone_context : (view_sent view 31 command).slots.context ≡ None
  gone_context = either (λ (s : DeviceSlots). s.context ≡ None) (holds (λ issue. is_control issue.work.kind) (own_issue view.slots 31)) (freed (is_slot 31) view.slots) (gone view.slots 31)
      (none_of view.slots view.slots.context none) (ap (λ (s : DeviceSlots). s.context) (gone_plain view.slots 31 i there plain) ∙ none)

  gone_free : is_control i.work.kind ≡ true → own_issue (view_sent view 31 command).slots 31 ≡ None
  gone_free is = ap (λ (s : DeviceSlots). own_issue s 31) (slots_control is) ∙ ap (λ (f : ℕ → Option Issue). f 31) (own_freed (is_slot 31) view.slots)

  gone_sent : is_control i.work.kind ≡ false → own_issue (view_sent view 31 command).slots 31 ≡ Some (sent_issue i)
  gone_sent is =
      ap (λ (s : DeviceSlots). own_issue s 31) (slots_command is)
      ∙ ap (λ (f : ℕ → Option Issue). f 31) (own_set view.slots 31 (option_map sent_issue (own_issue view.slots 31)) (omega (arith, long)))
      ∙ at_same (own_issue view.slots) 31 31 (option_map sent_issue (own_issue view.slots 31)) refl
      ∙ ap (option_map sent_issue) there

leaves_fresh : (sent a b : Bool) → (not sent && a && b) ≡ true → sent ≡ false
leaves_fresh false a b h = refl
leaves_fresh true a b h = absurd (false≢true h)

leaves_healthy : (sent a b : Bool) → (not sent && not a && b) ≡ true → a ≡ false
leaves_healthy false false b h = refl
leaves_healthy false true b h = absurd (false≢true h)
leaves_healthy true a b h = absurd (false≢true h)

fresh_of : (view : DeviceView) (i : Issue) → may_leave view i ≡ true → i.sent ≡ false
fresh_of view i h = leaves_fresh i.sent (not (is_some view.fault)) (is_control i.work.kind || is_ready view.state && is_none (waiting view.slots) && may_begin view.slots i) h

module _ (old : Host) (g : IsGoing old) (stage : Stage31) (at : IsAt31 stage old) (frame : Stamped) (new : Host) (does : Does old (Pushed (Some frame)) new) (to : frame.stamp.port ≡ 15) where
  -- the command of slot 31 goes out
  sends : has_failed stage ≡ false → (command : Command) → Sends old.port 15 command.cfis (view_sent (view_of 15 old.port) 31 command) frame new.port → last_command old.port.commands 31 ≡ Some command → (i : Issue)
      → own_issue (slots_of 15 old.port.slots) 31 ≡ Some i → i.sent ≡ false → old.driver.plan.asked ≡ true → Pushed31 stage old frame new
  sends well command sent last i there fresh asked =
      let found = unsent_of stage old.driver.plan.order old.driver.plan.asked (control_of old) i well at.is asked there fresh in
      let u : IsUnsent old.driver.plan.order (control_of old) = found.0 in
      let issue_is : i ≡ new_issue 15 (work_of (request_of u.fields)) = some_inj i (new_issue 15 (work_of (request_of u.fields))) (sym there ∙ u.issued) in
      let stands : (control_of old).commands 31 ≡ Some command = ap (λ (o : Option Issue). if is_some o then last_command old.port.commands 31 else None) there ∙ last in
      let same : u.command ≡ command = some_inj u.command command (sym u.there ∙ stands) in
      let long : length (view_of 15 old.port).slots.issues ≡ 32 = (is_own 15 old.port.slots g.way.sound.ruled.table).long in
      let context : (view_sent (view_of 15 old.port) 31 command).slots.context ≡ None = gone_context (view_of 15 old.port) command i there long at.context (dma_none i u there) in
      let kind : is_control i.work.kind ≡ (is_on old.driver.plan.order || is_off old.driver.plan.order) = ap (λ (x : Issue). is_control x.work.kind) issue_is ∙ control_is old.driver.plan.order u.fields u.are in
      let work : is_control command.work.kind ≡ (is_on old.driver.plan.order || is_off old.driver.plan.order) =
      ap (λ (c : Command). is_control c.work.kind) (sym same) ∙ ap (λ (w : Work). is_control w.kind) u.work ∙ control_is old.driver.plan.order u.fields u.are in
      let bytes : frame.bytes ≡ u.command.cfis = ap (λ (f : Stamped). f.bytes) sent.frame_is ∙ ap (λ (c : Command). c.cfis) (sym same) in
      by_kind command sent i there fresh asked u bytes same long context kind work found.1
    where
      follows_well : (n : Stage31) → Follows31 stage old.driver.plan.order n → has_failed n ≡ false
      follows_well n (inl f) = ap has_failed f.2
      follows_well n (inr (inl f)) = ap has_failed f.2
      follows_well n (inr (inr f)) = ap has_failed f.2

      made : (next : Stage31) (command : Command) → Sends old.port 15 command.cfis (view_sent (view_of 15 old.port) 31 command) frame new.port → (u : IsUnsent old.driver.plan.order (control_of old)) → frame.bytes ≡ u.command.cfis
          → (view_sent (view_of 15 old.port) 31 command).slots.context ≡ None → (view_sent (view_of 15 old.port) 31 command).state.resetting ≡ is_resetting next → Follows31 stage old.driver.plan.order next
          → IsIn next old.driver.plan.order old.driver.plan.asked (control_of new) → Pushed31 stage old frame new
      made next command sent u bytes context resetting follows is = record {
        unsent = u;
        bytes = bytes;
        next = next;
        follows = follows;
        at = record {
          fault = ap (λ (x : DeviceView). is_some x.fault) sent.own ∙ at.fault ∙ well ∙ sym (follows_well next follows);
          context = ap (λ (x : DeviceView). x.slots.context) sent.own ∙ context;
          resetting = ap (λ (x : DeviceView). x.state.resetting) sent.own ∙ resetting;
          is = subst (λ (d : Driver). IsIn next d.plan.order d.plan.asked (control_of new)) (sym does.driver) is;
          low = subst (λ (d : Driver). IsLow d.plan.order) (sym does.driver) at.low;
          closed = λ less. absurd (closed_not (at.closed (subst (λ (d : Driver). d.plan.opened < 7) does.driver less)) follows);
        };
      }
        where
          closed_not : stage ≡ Rests → Follows31 stage old.driver.plan.order next → ⊥
          closed_not rests (inl f) = let bad : Rests ≡ Waits = sym rests ∙ f.0 in cc
          closed_not rests (inr (inl f)) = let bad : Rests ≡ Waits = sym rests ∙ f.0 in cc
          closed_not rests (inr (inr f)) = let bad : Rests ≡ Resets = sym rests ∙ f.0 in cc

      state_control : (command : Command) (b : Bool) → is_control command.work.kind ≡ b
          → (view_sent (view_of 15 old.port) 31 command).state.resetting ≡ (if b then (view_of 15 old.port).state.resetting || resets command.cfis else (view_of 15 old.port).state.resetting)
      state_control command true is = ap (λ (b : Bool). (if b then record (view_of 15 old.port).state { resetting = (view_of 15 old.port).state.resetting || resets command.cfis } else record (view_of 15 old.port).state { status = bit_or (view_of 15 old.port).state.status 128 }).resetting) is
      state_control command false is = ap (λ (b : Bool). (if b then record (view_of 15 old.port).state { resetting = (view_of 15 old.port).state.resetting || resets command.cfis } else record (view_of 15 old.port).state { status = bit_or (view_of 15 old.port).state.status 128 }).resetting) is

      or_true : (a b : Bool) → b ≡ true → (a || b) ≡ true
      or_true true b h = refl
      or_true false b h = h

      or_first : (a b : Bool) → a ≡ true → (a || b) ≡ true
      or_first true b h = refl
      or_first false b h = absurd (false≢true h)

      own_new : (command : Command) → Sends old.port 15 command.cfis (view_sent (view_of 15 old.port) 31 command) frame new.port → own_issue (control_of new).view.slots 31 ≡ own_issue (view_sent (view_of 15 old.port) 31 command).slots 31
      own_new command sent = ap (λ (x : DeviceView). own_issue x.slots 31) sent.own

      on_is : (o : Order) → is_on o ≡ true → o ≡ ResetOn
      on_is ResetOn h = refl
      on_is o h = absurd (false≢true h)

      data_none : (i : Issue) (u : IsUnsent old.driver.plan.order (control_of old)) → own_issue (slots_of 15 old.port.slots) 31 ≡ Some i → (needs_all i.work.kind || is_queued i.work.kind) ≡ false
      data_none i u there =
          let same : i ≡ new_issue 15 (work_of (request_of u.fields)) = some_inj i (new_issue 15 (work_of (request_of u.fields))) (sym there ∙ u.issued) in
          ap (λ (x : Issue). needs_all x.work.kind || is_queued x.work.kind) same ∙ plain_is old.driver.plan.order u.fields u.are

      dma_none : (i : Issue) (u : IsUnsent old.driver.plan.order (control_of old)) → own_issue (slots_of 15 old.port.slots) 31 ≡ Some i → is_dma i.work.kind ≡ false
      dma_none i u there = no_dma i.work.kind (neither (needs_all i.work.kind) (is_queued i.work.kind) (data_none i u there))
        where
          neither : (a b : Bool) → (a || b) ≡ false → a ≡ false
          neither true b h = absurd (true≢false h)
          neither false b h = refl

      by_kind : (command : Command) → Sends old.port 15 command.cfis (view_sent (view_of 15 old.port) 31 command) frame new.port → (i : Issue) → own_issue (slots_of 15 old.port.slots) 31 ≡ Some i → i.sent ≡ false → old.driver.plan.asked ≡ true
          → (u : IsUnsent old.driver.plan.order (control_of old)) → frame.bytes ≡ u.command.cfis → u.command ≡ command → length (view_of 15 old.port).slots.issues ≡ 32 → (view_sent (view_of 15 old.port) 31 command).slots.context ≡ None
          → is_control i.work.kind ≡ (is_on old.driver.plan.order || is_off old.driver.plan.order) → is_control command.work.kind ≡ (is_on old.driver.plan.order || is_off old.driver.plan.order)
          → (((stage ≡ Waits) × (is_off old.driver.plan.order ≡ false)) ⊎ ((stage ≡ Resets) × (old.driver.plan.order ≡ ResetOff))) → Pushed31 stage old frame new
      by_kind command sent i there fresh asked u bytes same long context kind work (inl (waits, not_off)) = elim (cases_Bool (is_on old.driver.plan.order)) [
        | inl on ↦
            let control : is_control i.work.kind ≡ true = kind ∙ or_first (is_on old.driver.plan.order) (is_off old.driver.plan.order) on in
            let set : resets command.cfis ≡ true = ap (λ (c : Command). resets c.cfis) (sym same) ∙ set_reset old.driver.plan.order u.fields u.command.cfis on u.are u.built in
            made Resets command sent u bytes context
            (state_control command true (work ∙ or_first (is_on old.driver.plan.order) (is_off old.driver.plan.order) on) ∙ or_true (view_of 15 old.port).state.resetting (resets command.cfis) set)
            (inl (waits, on, refl))
            (inl (on_is old.driver.plan.order on, asked, own_new command sent ∙ gone_free (view_of 15 old.port) command i there long at.context (dma_none i u there) control))
        | inr off ↦
            let plain : (is_on old.driver.plan.order || is_off old.driver.plan.order) ≡ false = ap (λ (b : Bool). b || is_off old.driver.plan.order) off ∙ not_off in
            made Asks command sent u bytes context (state_control command false (work ∙ plain) ∙ at.resetting ∙ ap is_resetting waits)
            (inr (inl (waits, off, refl)))
            (asked, off, record { issue = sent_issue i; issued = own_new command sent ∙ gone_sent (view_of 15 old.port) command i there long at.context (dma_none i u there) (kind ∙ plain); sent = refl; plain = data_none i u there })
      ]
      by_kind command sent i there fresh asked u bytes same long context kind work (inr (resets_now, is_reset)) =
          let control : (is_on old.driver.plan.order || is_off old.driver.plan.order) ≡ true = ap (λ (o : Order). is_on o || is_off o) is_reset in
          made Signs command sent u bytes context
          (state_control command true (work ∙ control) ∙ or_first (view_of 15 old.port).state.resetting (resets command.cfis) (at.resetting ∙ ap is_resetting resets_now))
          (inr (inr (resets_now, is_reset, refl)))
          (own_new command sent ∙ gone_free (view_of 15 old.port) command i there long at.context (dma_none i u there) (kind ∙ control), inl (is_reset, asked))

  healthy_of : (view : DeviceView) (i : Issue) → may_leave view i ≡ true → is_some view.fault ≡ false
  healthy_of view i h = leaves_healthy i.sent (is_some view.fault) (is_control i.work.kind || is_ready view.state && is_none (waiting view.slots) && may_begin view.slots i) h

  -- what may go out is an issue that has not gone out
  fresh_issue : (slot : ℕ) → next_own (view_of 15 old.port) ≡ Some slot → (i : Issue) × (own_issue (slots_of 15 old.port.slots) slot ≡ Some i) × (i.sent ≡ false) × (is_some (view_of 15 old.port).fault ≡ false)
  fresh_issue slot next =
      let low = lowest_is (λ s. holds (may_leave (view_of 15 old.port)) (own_issue (view_of 15 old.port).slots s)) 32 slot next in
      let here = held (may_leave (view_of 15 old.port)) (own_issue (view_of 15 old.port).slots slot) low.passes in
      (here.0, here.1, fresh_of (view_of 15 old.port) here.0 here.2, healthy_of (view_of 15 old.port) here.0 here.2)

  by_outgoing : (o : Outgoing) → outgoing old.port old.memory ≡ o → Gives o old.port old.memory (Some frame) new.port → Pushed31 stage old frame new
  by_outgoing (Data dev offset len command) is gives =
      let same : dev ≡ 15 = sym (ap (λ (f : Stamped). f.stamp.port) gives.frame_is) ∙ to in
      let some : is_some (payload (context_of old.port.slots 15)) ≡ true = subst (λ (n : ℕ). is_some (payload (context_of old.port.slots n)) ≡ true) same (data_is_own old.port old.memory dev offset len command is) in
      absurd (false≢true (sym (ap (λ (c : Option Context). is_some (payload c)) at.context) ∙ some))
  by_outgoing (Goes dev slot command) is gives =
      let same : dev ≡ 15 = sym (ap (λ (f : Stamped). f.stamp.port) gives.frame_is) ∙ to in
      let goes : IsOrder old.port 15 slot command _ _ = subst (λ (n : ℕ). IsOrder old.port n slot command (next_receiver old.port) (next_to_send old.port)) same (order_is old.port old.memory dev slot command is) in
      let next : next_own (view_of 15 old.port) ≡ Some slot = order_is_own old.port 15 slot (omega arith) g.way.sound.ruled.table.slots goes.owns goes.next in
      let i = fresh_issue slot next in
      let at31 = issued31 old g slot i.0 i.1 in
      let sent : Sends old.port 15 command.cfis (view_sent (view_of 15 old.port) slot command) frame new.port =
      subst (λ (n : ℕ). Sends old.port n command.cfis (view_sent (view_of n old.port) slot command) frame new.port) same gives in
      sends (sym at.fault ∙ i.3) command (subst (λ (s : ℕ). Sends old.port 15 command.cfis (view_sent (view_of 15 old.port) s command) frame new.port) at31.0 sent)
      (subst (λ (s : ℕ). last_command old.port.commands s ≡ Some command) at31.0 goes.stands) i.0 (subst (λ (s : ℕ). own_issue (slots_of 15 old.port.slots) s ≡ Some i.0) at31.0 i.1) i.2 at31.1
  by_outgoing other is gives = let bad : Some frame ≡ None = gives.0 in cc

  pub push31 : Pushed31 stage old frame new
  push31 = by_outgoing (outgoing old.port old.memory) refl does.gives
