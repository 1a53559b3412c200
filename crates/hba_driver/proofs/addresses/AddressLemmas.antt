-- For `frames_are_addressed`. Each frame that goes out has the PM Port of its device.
use Rattle.std.proofs.Common.{◌≡◌, ◌≢◌, ℕ, ◌<◌, Bool, true, false, ◌&&◌, List, [], ◌∷◌, length, refl, sym, ◌∙◌, ap, subst, inl, inr, arith, Option}
use Rattle.std.proofs.{Common.{Some, None}, lemmas.Bool.{and_parts, cases_Bool, cases_eq, cases_lt, eqb-true, false≢true, lt-ltb, true≢false}}
use Rattle.std.proofs.lemmas.List.{get_or-replicate, get_or_past, length-replicate, FromFn.{get_or-map-range_with_len, length-map-range_with_len}}
use Rattle.std.proofs.lemmas.{Nat.Bits.bit_at-zero}
use Rattle.std.specs.{Prelude.{◌==◌, ◌%◌, if◌then◌else◌, is_some, replicate, slice_index, cond}, Option.option_or}
use Rattle.fis_view.specs.{Frames.Stamped, Table.H2d}
use Rattle.fis_view.proofs.Door.{port_bits, port_field}
use Rattle.host_memory.specs.Memory.{Memory}
use Rattle.hba_commands.specs.{declared.command.Command.Command, Commands.{cfis_at, command_at, command_in, command_under, has_table, is_proper}}
use Rattle.hba_commands.specs.{Commands.{suits, total_at}, Headers.header_at, Requests.{kind_of, request_at, request_in, work_of}}
use Rattle.slots.specs.{Data.payload, Slots.{DeviceSlots, Issue, context_of, has_bit, issue_at, match_some, no_own_slots, own_issue, slots_of}}
use Rattle.slots.specs.{Table.IsIssue, Between.Owns}
use Rattle.hba_fbs.specs.declared.error.WriteError.TheVariants as refusal
use Rattle.hba_fbs.specs.{declared.{register.Register.{Register, TheVariants.{Cmd, Ci, Fbs}}, report.TakeReport.TakeReport}, Issuing.{aimed, asked}}
use Rattle.hba_fbs.specs.{Issuing.{commands_with, issue_with, view_issued}, Offsets.register_at, Registers.falls, Sending.{Data, Gives, Nothing}}
use Rattle.hba_fbs.specs.{Sending.{Order, Outgoing, Unreadable, outgoing}, Taking.{ignores, port_of}, Views.{DeviceView, Port, last_command}}
use Rattle.hba_fbs.specs.{Views.{stopped_view, view_of}, Writing.{Accepts, cleared_by, commands_after, is_device, refusal_of, view_after}}
use Rattle.hba_laws.specs.Between.{KeepsOwn}
use Rattle.hba_laws.proofs.Door.{asked_free, data_is, is_own, keeps_fed, keeps_moved, keeps_sent, order_filled, order_is, own_in, own_issued}
use Rattle.hba_laws.proofs.Door.{some_inj, the}
use Rattle.hba_driver.specs.{declared.{effect.Effect.Effect, mode.Mode.Mode}, Addressed.{AreAddressed, FramesAreAddressed, IsAddressed}, Effects.Acts}
use Rattle.hba_driver.specs.{Effects.{ActsAll, IsRuled, Tries}, Events.{IsSoundHostIn, opening_host_in}, HostTurns.{Does, DoesAll, Host, HostTurn}}
use Rattle.hba_driver.specs.{HostTurns.{Took, Pushed, Ticked, sight_in}, Ticks.effects, Between.AreOfTheir}
use Rattle.hba_driver.specs.declared.effect.Effect.TheVariants as effect
use Rattle.hba_driver.proofs.{events.{DrivenLemmas.tried_at, SoundLemmas.{hosts_stay_sound, sound_turn}}, issued.IssuingLemmas.aimed_is}
use Rattle.hba_driver.proofs.goes_on.StopLemmas.{either}

-- ---- the command in a slot

then_some : {A : Type 0} (b : Bool) (o : Option A) (a : A) → (if b then o else None) ≡ Some a → (b ≡ true) × (o ≡ Some a)
then_some true o a h = (refl, h)
then_some false o a h = cc

-- its FIS has the PM Port of its header
addressed_at : (memory : Memory) (clb slot : ℕ) (armed : Bool) (command : Command) → command_at memory clb slot armed ≡ Some command → (header_at memory.structure clb slot).pmp ≡ slice_index command.cfis 1 % 16
unfolding command_under is_proper
addressed_at memory clb slot armed command h =
    let header = header_at memory.structure clb slot in
    let cfis : List ℕ = cfis_at memory.structure header.ctba in
    let total : Option ℕ = total_at memory.structure (length memory.client) header.ctba header.prdtl in
    let made = then_some (has_table header) (command_in header cfis (request_at cfis) total slot armed) command h in
    (elim (request_at cfis) as (λ r. request_at cfis ≡ r → command_in header cfis r total slot armed ≡ Some command → header.pmp ≡ slice_index command.cfis 1 % 16) [
      | None ↦ λ asks e. cc
      | Some request ↦ λ asks e.
          (elim total as (λ t. command_in header cfis (Some request) t slot armed ≡ Some command → header.pmp ≡ slice_index command.cfis 1 % 16) [
            | None ↦ λ f. cc
            | Some n ↦ λ f.
                let whole : Command = record { work = work_of request; cfis = cfis; table = header.ctba; count = header.prdtl } in
                let found = then_some (is_proper header request n slot armed) (Some whole) command f in
                let it : whole ≡ command = some_inj whole command found.1 in
                let ports = and_parts ((header.cfl == 5) && (header.pmp == request.pm_port) && suits (kind_of request) header request slot armed) (n == (work_of request).len) found.0 in
                eqb-true header.pmp request.pm_port (middle (header.cfl == 5) (header.pmp == request.pm_port) (suits (kind_of request) header request slot armed) ports.0)
                ∙ ap (λ r. r.pm_port) (sym (some_inj (request_in cfis) request (then_some (slice_index cfis 0 == 0x27) (Some (request_in cfis)) request asks).1)) ∙ port_field H2d cfis ∙ port_bits cfis
                ∙ ap (λ (c : Command). slice_index c.cfis 1 % 16) it
          ]) e
    ]) refl made.1
  where
    middle : (a b c : Bool) → (a && b && c) ≡ true → b ≡ true
    middle true true c h = refl
    middle true false c h = absurd (false≢true h)
    middle false b c h = absurd (false≢true h)

-- ---- what is issued

busy_before : (old new : DeviceSlots) (s : ℕ) → KeepsOwn old new → is_some (own_issue new s) ≡ true → is_some (own_issue old s) ≡ true
busy_before old new s keeps busy = by_issue (own_issue old s) refl
  where
    by_issue : (o : Option Issue) → own_issue old s ≡ o → is_some o ≡ true
    by_issue (Some i) is = refl
    by_issue None is = absurd (false≢true (sym (ap is_some (keeps s is)) ∙ busy))

-- if no slot of a device is filled and the commands stay
their_kept : (old new : Port) → ((n : ℕ) → n < 16 → KeepsOwn (slots_of n old.slots) (slots_of n new.slots)) → new.commands ≡ old.commands → AreOfTheir old → AreOfTheir new
their_kept old new keeps same are n s c low busy last =
    are n s c low (busy_before (slots_of n old.slots) (slots_of n new.slots) s (keeps n low) busy) (sym (ap (λ l. last_command l s) same) ∙ last)

their_same : (old new : Port) → new ≡ old → AreOfTheir old → AreOfTheir new
their_same old new same are = subst AreOfTheir (sym same) are

keeps_as : (old new : DeviceSlots) → new ≡ old → KeepsOwn old new
keeps_as old new same s free = ap (λ (d : DeviceSlots). own_issue d s) same ∙ free

none_left : (s : ℕ) → own_issue no_own_slots s ≡ None
none_left s = elim (cases_lt s 32) [ inl less ↦ get_or-replicate 32 s None None less | inr more ↦ get_or_past (replicate 32 None) s None (rw (length-replicate {A = Option Issue} 32 None) more) ]

-- ---- a frame is taken, or goes out

took_their : (old new : Host) (frame : List ℕ) (report : TakeReport) → Does old (Took frame report) new → AreOfTheir old.port → AreOfTheir new.port
took_their old new frame report h are = elim (cases_Bool (ignores (port_of frame) old.port frame)) [
  | inl skip ↦ their_same old.port new.port (h.ignored skip).port are
  | inr hears ↦
      their_kept old.port new.port (λ n low. elim (cases_eq n (port_of frame)) [
        | inl own ↦
            subst (λ (m : ℕ). KeepsOwn (slots_of m old.port.slots) (slots_of m new.port.slots)) (sym own)
            (subst (λ (v : DeviceView). KeepsOwn (slots_of (port_of frame) old.port.slots) v.slots) (sym (h.heard hears).own) (keeps_moved _ (slots_of (port_of frame) old.port.slots)))
        | inr other ↦ keeps_as (slots_of n old.port.slots) (slots_of n new.port.slots) (ap (λ (v : DeviceView). v.slots) ((h.heard hears).others n other))
      ]) (h.heard hears).commands are
]

sent_their : (old new : Port) (dev : ℕ) (w : DeviceView) → view_of dev new ≡ w → ((other : ℕ) → other ≢ dev → view_of other new ≡ view_of other old) → KeepsOwn (slots_of dev old.slots) w.slots → new.commands ≡ old.commands
    → AreOfTheir old → AreOfTheir new
sent_their old new dev w own others keeps same are =
    their_kept old new (λ n low. elim (cases_eq n dev) [
      | inl is ↦
          subst (λ (m : ℕ). KeepsOwn (slots_of m old.slots) (slots_of m new.slots)) (sym is) (subst (λ (v : DeviceView). KeepsOwn (slots_of dev old.slots) v.slots) (sym own) keeps)
      | inr other ↦ keeps_as (slots_of n old.slots) (slots_of n new.slots) (ap (λ (v : DeviceView). v.slots) (others n other))
    ]) same are

gave_their : (o : Outgoing) (old : Port) (memory : Memory) (frame : Option Stamped) (new : Port) → Gives o old memory frame new → AreOfTheir old → AreOfTheir new
gave_their Nothing old memory frame new gives are = their_same old new gives.1 are
gave_their (Unreadable dev) old memory frame new gives are = subst AreOfTheir (sym gives.1) are
gave_their (Data dev offset len command) old memory (Some f) new gives are = sent_their old new dev _ gives.own gives.others (keeps_fed (slots_of dev old.slots)) gives.commands are
gave_their (Order dev slot command) old memory (Some f) new gives are = sent_their old new dev _ gives.own gives.others (keeps_sent (slots_of dev old.slots) slot) gives.commands are
gave_their other old memory None new gives are = absurd gives

-- ---- a write

-- the last command of a slot after these are issued
last_asked : (a : ℕ → Option Command) (old : List (Option Command)) (s : ℕ) (c : Command) → last_command (commands_with a old) s ≡ Some c → option_or (a s) (last_command old s) ≡ Some c
unfolding commands_with
last_asked a old s c is = elim (cases_lt s (length old)) [
  | inl less ↦ sym (get_or-map-range_with_len (λ slot. option_or (a slot) (last_command old slot)) 0 (length old) s s None less (omega arith)) ∙ is
  | inr past ↦
      let long = length-map-range_with_len (λ slot. option_or (a slot) (last_command old slot)) 0 (length old) in
      let bad : None ≡ Some c = sym (get_or_past (commands_with a old) s None (omega (arith, long, past))) ∙ is in
      cc
]

no_bit : (s : ℕ) → has_bit 0 s ≡ false
no_bit s = ap (λ (k : ℕ). k == 1) (bit_at-zero s)

-- a header in a slot to issue names the device at which the write is aimed
own_header : (port : Port) (memory : Memory) (value s : ℕ) → refusal_of Ci port memory value ≡ None → s < 32 → has_bit value s ≡ true → (header_at memory.structure port.registers.clb s).pmp ≡ aimed port.registers memory.structure value
own_header port memory value s h below bit =
    let more : (value == 0) ≡ false = elim (cases_Bool (value == 0)) [
      | inl is ↦ absurd (true≢false (sym bit ∙ ap (λ (n : ℕ). has_bit n s) (eqb-true value 0 is) ∙ no_bit s))
      | inr m ↦ m
    ] in
    aimed_is port memory value s more h below bit

-- a command that is asked for has the PM Port of that device
asked_their : (port : Port) (memory : Memory) (value s : ℕ) (c : Command) → refusal_of Ci port memory value ≡ None → s < 32 → asked port.registers memory value s ≡ Some c → slice_index c.cfis 1 % 16 ≡ aimed port.registers memory.structure value
asked_their port memory value s c h below is =
    let found = then_some (has_bit value s) (command_at memory port.registers.clb s (has_bit port.registers.armed s)) c is in
    sym (addressed_at memory port.registers.clb s (has_bit port.registers.armed s) c found.1) ∙ own_header port memory value s h below found.0

free_own : (n s : ℕ) (port : Port) → issue_at port.slots s ≡ None → is_some (own_issue (slots_of n port.slots) s) ≡ true → ⊥
free_own n s port free busy =
    let i = the (own_issue (slots_of n port.slots) s) busy in
    none_some i.0 (sym free ∙ (own_in n s port.slots i.0 i.1).1)
  where
    none_some : (i : Issue) → None ≡ Some i → ⊥
    none_some i h = absurd (cc)

ci_their : (old new : Port) (memory : Memory) (value : ℕ) → refusal_of Ci old memory value ≡ None → Accepts old memory Ci value new → IsRuled old → IsRuled new → AreOfTheir old → AreOfTheir new
unfolding view_after commands_after
ci_their old new memory value free accepts ruled next are n s c low busy last = by_asked (asked old.registers memory value s) refl
  where
    below : s < 32
    below = let i = the (own_issue (slots_of n new.slots) s) busy in omega (arith, (own_in n s new.slots i.0 i.1).0, next.table.slots)

    then_last : option_or (asked old.registers memory value s) (last_command old.commands s) ≡ Some c
    then_last = last_asked (asked old.registers memory value) old.commands s c (ap (λ l. last_command l s) (sym accepts.commands) ∙ last)

    view_is : view_of n new ≡ (if n == aimed old.registers memory.structure value then view_issued old.registers memory value (view_of n old) else view_of n old)
    view_is = accepts.views n low

    other_busy : (n == aimed old.registers memory.structure value) ≡ false → is_some (own_issue (slots_of n old.slots) s) ≡ true
    other_busy off = ap (λ (v : DeviceView). is_some (own_issue v.slots s)) (sym (view_is ∙ ap (λ (b : Bool). if b then view_issued old.registers memory value (view_of n old) else view_of n old) off)) ∙ busy

    own_busy : (n == aimed old.registers memory.structure value) ≡ true → asked old.registers memory value s ≡ None → is_some (own_issue (slots_of n old.slots) s) ≡ true
    own_busy on none =
        let dev : ℕ = aimed old.registers memory.structure value in
        sym (ap (λ (v : DeviceView). is_some (own_issue v.slots s)) (view_is ∙ ap (λ (b : Bool). if b then view_issued old.registers memory value (view_of n old) else view_of n old) on)
        ∙ ap (λ (f : ℕ → Option Issue). is_some (f s)) (own_issued dev (asked old.registers memory value) (slots_of n old.slots) 32 (is_own n old.slots ruled.table).long)
        ∙ ap (λ (b : Bool). is_some (cond b (issue_with dev (asked old.registers memory value s) (own_issue (slots_of n old.slots) s)) (own_issue (slots_of n old.slots) s))) (lt-ltb s 32 below)
        ∙ ap (λ (o : Option Command). is_some (issue_with dev o (own_issue (slots_of n old.slots) s))) none) ∙ busy

    by_asked : (o : Option Command) → asked old.registers memory value s ≡ o → slice_index c.cfis 1 % 16 ≡ n
    by_asked (Some d) is =
        let same : d ≡ c = some_inj d c (ap (λ (o : Option Command). option_or o (last_command old.commands s)) (sym is) ∙ then_last) in
        let to : slice_index c.cfis 1 % 16 ≡ aimed old.registers memory.structure value = ap (λ (x : Command). slice_index x.cfis 1 % 16) (sym same) ∙ asked_their old memory value s d free below is in
        elim (cases_Bool (n == aimed old.registers memory.structure value)) [
          | inl on ↦ to ∙ sym (eqb-true n (aimed old.registers memory.structure value) on)
          | inr off ↦ absurd (free_own n s old (asked_free old memory value s free below (ap is_some is)) (other_busy off))
        ]
    by_asked None is =
        let before : last_command old.commands s ≡ Some c = ap (λ (o : Option Command). option_or o (last_command old.commands s)) (sym is) ∙ then_last in
        elim (cases_Bool (n == aimed old.registers memory.structure value)) [
          | inl on ↦ are n s c low (own_busy on is) before
          | inr off ↦ are n s c low (other_busy off) before
        ]

-- a write that issues nothing fills no slot
keeps_write : (g : Register) (old : Port) (memory : Memory) (value n : ℕ) → g ≢ Ci → KeepsOwn (slots_of n old.slots) (view_after g old memory value n).slots
unfolding view_after
keeps_write Cmd old memory value n other = either (λ (v : DeviceView). KeepsOwn (slots_of n old.slots) v.slots) (falls old.registers value) (stopped_view (view_of n old)) (view_of n old) (λ s free. none_left s) (λ s free. free)
keeps_write Fbs old memory value n other =
    either (λ (v : DeviceView). KeepsOwn (slots_of n old.slots) v.slots) (is_device n (cleared_by old.errors value)) (stopped_view (view_of n old)) (view_of n old) (λ s free. none_left s) (λ s free. free)
keeps_write Ci old memory value n other = absurd (other refl)
keeps_write g old memory value n other = λ s free. free

same_commands : (g : Register) (old : Port) (memory : Memory) (value : ℕ) → g ≢ Ci → commands_after g old memory value ≡ old.commands
unfolding commands_after
same_commands Ci old memory value other = absurd (other refl)
same_commands g old memory value other = refl

quiet_their : (g : Register) (old new : Port) (memory : Memory) (value : ℕ) → g ≢ Ci → Accepts old memory g value new → AreOfTheir old → AreOfTheir new
quiet_their g old new memory value other accepts are =
    their_kept old new (λ n low. subst (λ (v : DeviceView). KeepsOwn (slots_of n old.slots) v.slots) (sym (accepts.views n low)) (keeps_write g old memory value n other))
    (accepts.commands ∙ same_commands g old memory value other) are

wrote_their : (g : Register) (old new : Port) (memory : Memory) (value : ℕ) → refusal_of g old memory value ≡ None → Accepts old memory g value new → IsRuled old → IsRuled new → AreOfTheir old → AreOfTheir new
wrote_their Ci old new memory value free accepts ruled next are = ci_their old new memory value free accepts ruled next are
wrote_their other old new memory value free accepts ruled next are = quiet_their other old new memory value (λ h. cc) accepts are

tried_their : (o : Option Register) (offset value : ℕ) (old new : Port) (memory : Memory) → register_at offset ≡ o → Tries old memory offset value new → IsRuled old → IsRuled new → AreOfTheir old → AreOfTheir new
tried_their None offset value old new memory at tries ruled next are =
    their_same old new (tries.refused refusal.NoRegister (ap (λ (o : Option Register). match_some o (Some refusal.NoRegister) (λ (r : Register). refusal_of r old memory value)) at)) are
tried_their (Some g) offset value old new memory at tries ruled next are = elim (tried_at g offset value old memory new at tries) [
  | inl taken ↦ wrote_their g old new memory value taken.free taken.accepts ruled next are
  | inr refused ↦ their_same old new refused.stays are
]

act_their : (e : Effect) (old new : Port) (before after : Memory) → Acts e old before new after → IsRuled old → IsRuled new → AreOfTheir old → AreOfTheir new
act_their (effect.Writes offset value) old new before after h ruled next are = tried_their (register_at offset) offset value old new before refl h.0 ruled next are
act_their (effect.Flushes dev) old new before after h ruled next are =
    sent_their old new dev _ h.0.own h.0.others (λ s free. none_left s) h.0.commands are
act_their other old new before after h ruled next are = their_same old new h.0 are

acts_their : (es : List Effect) (old new : Port) (before after : Memory) → ActsAll es old before new after → IsRuled old → AreOfTheir old → AreOfTheir new
unfolding ActsAll
acts_their [] old new before after h ruled are = their_same old new h.0 are
acts_their (e ∷ es) old new before after h ruled are = acts_their es h.0 new h.1 after h.4 h.3 (act_their e old h.0 before h.1 h.2 ruled h.3 are)

-- ---- each turn

pub turn_their : {mode : Mode} (old : Host) (t : HostTurn) (new : Host) → Does old t new → IsSoundHostIn mode old → AreOfTheir old.port → AreOfTheir new.port
turn_their old (Took frame report) new h s are = took_their old new frame report h are
turn_their old (Pushed frame) new h s are = gave_their (outgoing old.port old.memory) old.port old.memory frame new.port h.gives are
turn_their old (Ticked a) new h s are = acts_their (effects (sight_in old) old.driver) old.port new.port old.memory new.memory h.does s.ruled are
turn_their old other new h s are = their_same old.port new.port h.port are

-- ---- what goes out

small : (n : ℕ) → n < 16 → n % 16 ≡ n
small n low = omega (arith, low)

context_low : (port : Port) (dev : ℕ) (next : ℕ × ℕ × ℕ) → length port.slots.contexts ≡ 16 → payload (context_of port.slots dev) ≡ Some next → dev < 16
context_low port dev next long is = elim (cases_lt dev 16) [
  | inl low ↦ low
  | inr past ↦
      let none : context_of port.slots dev ≡ None = get_or_past port.slots.contexts dev None (omega (arith, long, past)) in
      let bad : None ≡ Some next = sym (ap payload none) ∙ is in
      cc
]

gave_addressed : (o : Outgoing) (old : Port) (memory : Memory) (f : Stamped) (new : Port) → outgoing old memory ≡ o → Gives o old memory (Some f) new → IsRuled old → AreOfTheir old → slice_index f.bytes 1 % 16 ≡ f.stamp.port
gave_addressed (Data dev offset len command) old memory f new is gives ruled are =
    let d = data_is old memory dev offset len command is in
    ap (λ (x : Stamped). slice_index x.bytes 1 % 16) gives.frame_is ∙ small dev (context_low old dev d.next ruled.table.devices d.is) ∙ sym (ap (λ (x : Stamped). x.stamp.port) gives.frame_is)
gave_addressed (Order dev slot command) old memory f new is gives ruled are =
    let o = order_is old memory dev slot command is in
    let busy : is_some (own_issue (slots_of dev old.slots) slot) ≡ true = order_filled old dev slot ruled.table.slots o.owns o.next in
    let i = the (own_issue (slots_of dev old.slots) slot) busy in
    let at = own_in dev slot old.slots i.0 i.1 in
    let rules : IsIssue i.0 = (is_own dev old.slots ruled.table).issues slot i.0 i.1 in
    let of : i.0.dev ≡ dev = subst (Owns dev) at.1 o.owns in
    ap (λ (x : Stamped). slice_index x.bytes 1 % 16) gives.frame_is ∙ are dev slot command (subst (λ (m : ℕ). m < 16) of rules.dev_below) busy o.stands ∙ sym (ap (λ (x : Stamped). x.stamp.port) gives.frame_is)
gave_addressed other old memory f new is gives ruled are = let bad : Some f ≡ None = gives.0 in cc

pub turn_addressed : {mode : Mode} (old : Host) (t : HostTurn) (new : Host) → Does old t new → IsSoundHostIn mode old → AreOfTheir old.port → IsAddressed t
turn_addressed old (Pushed (Some f)) new h s are = gave_addressed (outgoing old.port old.memory) old.port old.memory f new.port refl h.gives s.ruled are
turn_addressed old other new h s are = tt

over_addressed : {mode : Mode} (turns : List HostTurn) (old new : Host) → DoesAll old turns new → IsSoundHostIn mode old → AreOfTheir old.port → AreAddressed turns
over_addressed [] old new run s are = tt
over_addressed (t ∷ turns) old new run s are =
    (turn_addressed old t run.0 run.1 s are, over_addressed turns run.0 new run.2 (sound_turn old t run.0 run.1 s) (turn_their old t run.0 run.1 s are))

pub none_issued : (n s : ℕ) (c : Command) → last_command (replicate 32 None) s ≡ Some c → slice_index c.cfis 1 % 16 ≡ n
none_issued n s c h = elim (cases_lt s 32) [
  | inl less ↦ none_some (sym (get_or-replicate 32 s None None less) ∙ h)
  | inr more ↦ none_some (sym (get_or_past (replicate 32 None) s None (rw (length-replicate {A = Option Command} 32 None) more)) ∙ h)
]
  where
    none_some : {P : Type 0} → None ≡ Some c → P
    none_some h = cc

pub frames_are_addressed : FramesAreAddressed
frames_are_addressed mode given start right turns h run = over_addressed turns (opening_host_in mode given start) h run (hosts_stay_sound.opens mode given start right) (λ n s c low busy last. none_issued n s c last)
