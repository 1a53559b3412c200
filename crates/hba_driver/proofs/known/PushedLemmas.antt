-- For `devices_are_known`. The command of a request goes out only to a known device: slot 30 has none, and slot 31
-- belongs to the control port.
use Rattle.std.proofs.Common.{◌≡◌, ◌≢◌, ◌⊎◌, ℕ, zero, suc, ◌*◌, ◌+◌, ◌^◌, ◌<◌, Bool, true, false, List, [], ◌∷◌, length, get_or, replicate, refl, sym, ◌∙◌, ap, subst, inl, inr, arith, Option, Some, None}
use Rattle.std.specs.{Prelude.if◌then◌else◌, Option.option_or}
use Rattle.std.proofs.lemmas.{Bool.{cases_eq, cases_lt, true≢false}, List.get_or_past}
use Rattle.std.proofs.lemmas.List.FromFn.{get_or-map-range_with_len, length-map-range_with_len}
use Rattle.fis_view.specs.{Frames.Stamped, declared.build.H2dFields.H2dFields}
use Rattle.host_memory.specs.Memory.{Memory}
use Rattle.hba_commands.specs.{Commands.{cfis_at, command_at, command_in, command_under, has_table, is_proper, total_at}, Headers.header_at}
use Rattle.hba_commands.specs.{Requests.{kind_of, request_at, request_of, work_of}, declared.command.Command.Command}
use Rattle.slots.specs.{Slots.{Issue, has_bit, issue_at, match_some, own_issue, slots_of}, Between.Owns}
use Rattle.hba_fbs.specs.{declared.{register.Register.TheVariants.{Ci, Fbs}, registers.Registers.Registers}, Issuing.{asked, commands_with}}
use Rattle.hba_fbs.specs.{Offsets.register_at, Registers.written, Sending.{Outgoing, outgoing}, Taking.{ignores, port_of}, Views.{Port, last_command}}
use Rattle.hba_fbs.specs.Writing.{commands_after}
use Rattle.hba_fbs.specs.Sending as out
use Rattle.hba_laws.specs.{Client.own, History.{Transfer, issued}}
use Rattle.hba_laws.proofs.Door.{gives_commands, order_is, own_here, some_inj, the_transfer}
use Rattle.hba_driver.specs.declared.mode.Mode.TheVariants.{Switching}
use Rattle.hba_driver.specs.declared.{path.Stage.{Stage, TheVariants.{Identify, ReadLog, AssertReset, ReleaseReset, AwaitReset}}, turn.Act.Act}
use Rattle.hba_driver.specs.{Drivers.{Entry, entry_at, is_issued}, Effects.{ActsAll, Tries, effects_of, sending, table_of}, Events.opening_host}
use Rattle.hba_driver.specs.{HostTurns.{Does, DoesAll, Host, HostTurn, Took, Pushed, Ticked, sight_in}, Known.{is_asked, is_request}}
use Rattle.hba_driver.specs.{Orders.{identify_fields, log_fields, control}, Paths.stage_fields, Queued.IsSomeCommand, Served.IsIssueOf}
use Rattle.hba_driver.specs.{Sights.{px_ci, px_fbs}, Ticks.{due, effects_due, seen}, Between.{Due, IsOnWay, IsPlain}}
use Rattle.hba_driver.specs.declared.turn.Act.TheVariants as act
use Rattle.hba_driver.proofs.{accepted.AcceptLemmas.way_turn, known.{ActLemmas.here_act, AwaitLemmas.here_effects}, events.DrivenLemmas.tried_at}
use Rattle.hba_driver.proofs.{ticks.LifeLemmas.due_seen, modes.SwitchLemmas.tick_acts}

-- ---- slot 30 has no command of a request

plain_as : (old new : Port) → last_command new.commands 30 ≡ last_command old.commands 30 → IsPlain old → IsPlain new
plain_as old new same h c is = h c (sym same ∙ is)

-- the command of the slot has the command FIS under its header
module _ (memory : Memory) (armed : Bool) (fields : H2dFields) (c : Command) (asks : request_at (cfis_at memory.structure (header_at memory.structure 0 30).ctba) ≡ Some (request_of fields)) where
  abbrev Fis : List ℕ
  Fis = cfis_at memory.structure (header_at memory.structure 0 30).ctba

  cfis_of : command_under memory (header_at memory.structure 0 30) 30 armed ≡ Some c → c.cfis ≡ cfis_at memory.structure (header_at memory.structure 0 30).ctba
  unfolding command_under
  cfis_of e = by_table (has_table (header_at memory.structure 0 30)) e
    where
      by_proper : (b : Bool) (d : Command) → d.cfis ≡ Fis → (if b then Some d else None) ≡ Some c → c.cfis ≡ Fis
      by_proper true d is e = ap (λ (x : Command). x.cfis) (sym (some_inj d c e)) ∙ is
      by_proper false d is e = absurd (cc)

      by_total : (p : Option ℕ) → command_in (header_at memory.structure 0 30) Fis (Some (request_of fields)) p 30 armed ≡ Some c → c.cfis ≡ Fis
      by_total None e = absurd (cc)
      by_total (Some total) e =
          by_proper (is_proper (header_at memory.structure 0 30) (request_of fields) total 30 armed)
          (record { work = work_of (request_of fields); cfis = Fis; table = (header_at memory.structure 0 30).ctba; count = (header_at memory.structure 0 30).prdtl }) refl e

      by_table : (b : Bool)
          → (if b then command_in (header_at memory.structure 0 30) Fis (request_at Fis) (total_at memory.structure (length memory.client) (header_at memory.structure 0 30).ctba (header_at memory.structure 0 30).prdtl) 30 armed else None) ≡ Some c
          → c.cfis ≡ Fis
      by_table true e =
          let total : Option ℕ = total_at memory.structure (length memory.client) (header_at memory.structure 0 30).ctba (header_at memory.structure 0 30).prdtl in
          by_total total (sym (ap (λ o. command_in (header_at memory.structure 0 30) Fis o total 30 armed) asks) ∙ e)
      by_table false e = absurd (cc)

last_with : (a : ℕ → Option Command) (old : List (Option Command)) (c : Command) → last_command (commands_with a old) 30 ≡ Some c → (a 30 ≡ Some c) ⊎ (last_command old 30 ≡ Some c)
unfolding commands_with
last_with a old c e = elim (cases_lt 30 (length old)) [
  | inl less ↦ by_asked (a 30) (sym (get_or-map-range_with_len (λ slot. option_or (a slot) (last_command old slot)) 0 (length old) 30 30 None less (omega arith)) ∙ e)
  | inr past ↦
      let long = length-map-range_with_len (λ slot. option_or (a slot) (last_command old slot)) 0 (length old) in
      let none : None ≡ Some c = sym (get_or_past (commands_with a old) 30 None (omega (arith, long, past))) ∙ e in absurd (cc)
]
  where
    by_asked : (o : Option Command) → option_or o (last_command old 30) ≡ Some c → (o ≡ Some c) ⊎ (last_command old 30 ≡ Some c)
    by_asked None e = inr e
    by_asked (Some d) e = inl e

if_some : {X : Type 0} (b : Bool) (o : Option X) (x : X) → (if b then o else None) ≡ Some x → o ≡ Some x
if_some true o x e = e
if_some false o x e = absurd (cc)

same_list : (value : ℕ) (old new : Port) (memory : Memory) → Tries old memory px_fbs value new → new.registers.clb ≡ old.registers.clb
unfolding written register_at
same_list value old new memory tries = elim (tried_at Fbs px_fbs value old memory new refl tries) [
  | inl taken ↦ ap (λ (r : Registers). r.clb) taken.accepts.registers
  | inr refused ↦ ap (λ (p : Port). p.registers.clb) refused.stays
]

same_here : (value : ℕ) (old new : Port) (memory : Memory) → Tries old memory px_fbs value new → last_command new.commands 30 ≡ last_command old.commands 30
unfolding commands_after register_at
same_here value old new memory tries = elim (tried_at Fbs px_fbs value old memory new refl tries) [
  | inl taken ↦ ap (λ (c : List (Option Command)). last_command c 30) taken.accepts.commands
  | inr refused ↦ ap (λ (p : Port). last_command p.commands 30) refused.stays
]

-- a command of the driver's own in slot 30
module _ (dev : ℕ) (fields : H2dFields) (buffer : Bool) (old new : Port) (before after : Memory) (plain : is_asked (kind_of (request_of fields)) ≡ false) (list : old.registers.clb ≡ 0) where
  plain_sending : ActsAll (sending Switching 30 dev fields buffer) old before new after → IsPlain old → IsPlain new
  unfolding ActsAll commands_after register_at
  plain_sending acts h c is =
      let w = acts.2.1.structure in
      let b = acts.4 in
      let there : last_command b.4.0.commands 30 ≡ Some c = ap (λ (p : Port). last_command p.commands 30) (sym b.4.4.0) ∙ is in
      let kept : last_command b.0.commands 30 ≡ last_command old.commands 30 = same_here (256 * dev + 1) acts.0 b.0 acts.1 b.2.0 ∙ ap (λ (p : Port). last_command p.commands 30) acts.2.0 in
      let zero_list : b.0.registers.clb ≡ 0 = same_list (256 * dev + 1) acts.0 b.0 acts.1 b.2.0 ∙ ap (λ (p : Port). p.registers.clb) acts.2.0 ∙ list in
      elim (tried_at Ci px_ci (2 ^ 30) b.0 b.1 b.4.0 refl b.4.2.0) [
        | inr refused ↦ h c (sym kept ∙ sym (ap (λ (p : Port). last_command p.commands 30) refused.stays) ∙ there)
        | inl taken ↦ elim (last_with (asked b.0.registers b.1 (2 ^ 30)) b.0.commands c (sym (ap (λ (l : List (Option Command)). last_command l 30) taken.accepts.commands) ∙ there)) [
          | inr was ↦ h c (sym kept ∙ was)
          | inl fresh ↦
              let armed : Bool = has_bit b.0.registers.armed 30 in
              let found : command_at b.1 b.0.registers.clb 30 armed ≡ Some c = if_some (has_bit (2 ^ 30) 30) (command_at b.1 b.0.registers.clb 30 armed) c fresh in
              let header = ap (λ (m : Memory). header_at m.structure 0 30) b.2.1 ∙ w.header in
              let under : command_under b.1 (header_at b.1.structure 0 30) 30 armed ≡ Some c = sym (ap (λ (k : ℕ). command_at b.1 k 30 armed) zero_list) ∙ found in
              let at : cfis_at b.1.structure (header_at b.1.structure 0 30).ctba ≡ cfis_at acts.1.structure (table_of 30) =
              ap (λ x. cfis_at b.1.structure x.ctba) header ∙ ap (λ (m : Memory). cfis_at m.structure (table_of 30)) b.2.1 in
              let request = ap request_at at ∙ w.request in
              let cfis : c.cfis ≡ cfis_at b.1.structure (header_at b.1.structure 0 30).ctba = cfis_of b.1 armed fields c request under in
              ap is_request cfis ∙ ap (λ o. match_some o false (λ request. is_asked (kind_of request))) request ∙ plain
        ]
      ]

  plain_none : ActsAll [] old before new after → IsPlain old → IsPlain new
  unfolding ActsAll
  plain_none acts h = plain_as old new (ap (λ (p : Port). last_command p.commands 30) acts.0) h

plain_step : (dev : ℕ) (stage : Stage) (old new : Port) (before after : Memory) → old.registers.clb ≡ 0 → ActsAll (effects_due Switching (Some (act.Steps dev stage))) old before new after → IsPlain old → IsPlain new
unfolding effects_of stage_fields
plain_step dev Identify old new before after list acts h = plain_sending dev (identify_fields dev) true old new before after refl list acts h
plain_step dev (ReadLog file) old new before after list acts h = plain_sending dev (log_fields dev) true old new before after refl list acts h
plain_step dev AssertReset old new before after list acts h = plain_sending dev (control dev 4) false old new before after refl list acts h
plain_step dev ReleaseReset old new before after list acts h = plain_sending dev (control dev 0) false old new before after refl list acts h
plain_step dev AwaitReset old new before after list acts h = plain_none dev (identify_fields dev) false old new before after refl list acts h

plain_ticked : (old new : Host) (a : Option Act) → IsOnWay old → due (sight_in old) old.driver ≡ a → ActsAll (effects_due Switching a) old.port old.memory new.port new.memory → IsPlain old.port → IsPlain new.port
unfolding ActsAll
plain_ticked old new None w is acts h = plain_as old.port new.port (ap (λ (p : Port). last_command p.commands 30) acts.0) h
plain_ticked old new (Some (act.Steps dev stage)) w is acts h = plain_step dev stage old.port new.port old.memory new.memory w.sound.registers.commands acts h
plain_ticked old new (Some a) w is acts h =
    plain_as old.port new.port (here_effects (effects_due Switching (Some a)) old.port new.port old.memory new.memory (here_act a (λ dev stage e. absurd (cc)) (λ slot dev queued e. below slot dev queued (is ∙ ap (λ (x : Act). Some x) e))) acts) h
  where
    below : (slot dev : ℕ) (queued : Bool) → due (sight_in old) old.driver ≡ Some (act.Issues slot dev queued) → slot ≢ 30
    below slot dev queued e same =
        let d = subst (Due (sight_in old) (seen (sight_in old) old.driver).plan (seen (sight_in old) old.driver).entries) e (due_seen (sight_in old) old.driver) in
        let less : slot < 30 = d.0.below in
        absurd (omega (arith, less, same))

pub plain_turn : (old : Host) (t : HostTurn) (new : Host) → Does old t new → IsOnWay old → IsPlain old.port → IsPlain new.port
plain_turn old (Took frame report) new does w h = by_ignored (ignores (port_of frame) old.port frame) refl
  where
    by_ignored : (b : Bool) → ignores (port_of frame) old.port frame ≡ b → IsPlain new.port
    by_ignored true is = plain_as old.port new.port (ap (λ (p : Port). last_command p.commands 30) (does.ignored is).port) h
    by_ignored false is = plain_as old.port new.port (ap (λ (l : List (Option Command)). last_command l 30) (does.heard is).commands) h
plain_turn old (Pushed frame) new does w h =
    plain_as old.port new.port (ap (λ (l : List (Option Command)). last_command l 30) (gives_commands (outgoing old.port old.memory) old.port new.port old.memory frame does.gives)) h
plain_turn old (Ticked did) new does w h = plain_ticked old new (due (sight_in old) old.driver) w refl (tick_acts old did new does w.sound) h
plain_turn old other new does w h = plain_as old.port new.port (ap (λ (p : Port). last_command p.commands 30) does.port) h

plain_run : (old new : Host) (turns : List HostTurn) → DoesAll old turns new → IsOnWay old → IsPlain old.port → IsPlain new.port
plain_run old new [] run w h = plain_as old.port new.port (ap (λ (x : Host). last_command x.port.commands 30) run) h
plain_run old new (t ∷ turns) run w h = plain_run run.0 new turns run.2 (way_turn old t run.0 run.1 w) (plain_turn old t run.0 run.1 w h)

none_at : (count s : ℕ) → last_command (replicate count None) s ≡ None
none_at zero s = refl
none_at (suc count) zero = refl
none_at (suc count) (suc s) = none_at count s

pub opening_plain : (given : ℕ) (start : Memory) → IsPlain (opening_host given start).port
opening_plain given start c is = let wrong : None ≡ Some c = sym (none_at 32 30) ∙ is in absurd (cc)

-- ---- what goes out

in_list : (issues : List (Option Issue)) (s : ℕ) (i : Issue) → get_or issues s None ≡ Some i → s < length issues
in_list issues s i e = elim (cases_lt s (length issues)) [
  | inl less ↦ less
  | inr past ↦ let none : None ≡ Some i = sym (get_or_past issues s None past) ∙ e in absurd (cc)
]

-- each device of which a request is issued is known
abbrev pub known_issued : Host → (ℕ → Type 0) → Type 0
known_issued h P = (s : ℕ) (e : Entry) → entry_at h.driver.entries s ≡ Some e → is_issued e.head ≡ true → P e.head.dev

-- the command of a request that goes out to a device is that of an issued entry of the device
module _ (h new : Host) (frame : Stamped) (w : IsOnWay h) (plain : IsPlain h.port) (below : frame.stamp.port < 15) (asks : is_request frame.bytes ≡ true) where
  by_order : (dev slot : ℕ) (command : Command) → outgoing h.port h.memory ≡ out.Order dev slot command → frame.stamp.port ≡ dev → frame.bytes ≡ command.cfis → IsSomeCommand h frame
  by_order dev slot command is port bytes =
      let order = order_is h.port h.memory dev slot command is in
      elim (cases_eq slot 30) [
        | inl same ↦ absurd (true≢false (sym asks ∙ ap is_request bytes ∙ plain command (subst (λ (k : ℕ). last_command h.port.commands k ≡ Some command) same order.stands)))
        | inr other ↦ by_issue order.owns (issue_at h.port.slots slot) refl other
      ]
    where
      low : dev < 15
      low = omega (arith, below, port)

      by_from : (i : Issue) (t : Transfer) → slot ≢ 30 → IsIssueOf h.driver dev slot t → IsSomeCommand h frame
      by_from i t other x = elim x.from [
        | inl r ↦ record {
          slot = slot;
          entry = r.entry;
          of = record {
            command = command;
            next = is ∙ ap (λ (k : ℕ). out.Order k slot command) (sym r.of_dev);
            bytes = bytes;
            port = port ∙ sym r.of_dev;
            stands = r.stands;
            issued = r.goes;
          };
        }
        | inr rest ↦ elim rest [
          | inl step ↦ absurd (other step.slot)
          | inr ordered ↦ absurd (omega (arith, low, ordered.of_dev))
        ]
      ]

      by_issue : Owns dev (issue_at h.port.slots slot) → (o : Option Issue) → issue_at h.port.slots slot ≡ o → slot ≢ 30 → IsSomeCommand h frame
      by_issue owns None is other = absurd (subst (Owns dev) is owns)
      by_issue owns (Some i) is other =
          let of : i.dev ≡ dev = subst (Owns dev) is owns in
          let here : own_issue (slots_of dev h.port.slots) slot ≡ Some i = subst (λ (k : ℕ). own_issue (slots_of k h.port.slots) slot ≡ Some i) of (own_here slot h.port.slots i (in_list h.port.slots.issues slot i is) is) in
          let t = the_transfer (issued slot (own dev w.past)) (own_issue (slots_of dev h.port.slots) slot) i here ((w.served.told dev (omega (arith, low))).issued slot) in
          by_from i t.0 other (w.served.issues dev slot t.0 t.1)

  by_out : (o : Outgoing) → outgoing h.port h.memory ≡ o → out.Gives o h.port h.memory (Some frame) new.port → IsSomeCommand h frame
  by_out (out.Data dev offset len command) is gives = absurd (true≢false (sym asks ∙ ap (λ (f : Stamped). is_request f.bytes) gives.frame_is))
  by_out (out.Order dev slot command) is gives = by_order dev slot command is (ap (λ (f : Stamped). f.stamp.port) gives.frame_is) (ap (λ (f : Stamped). f.bytes) gives.frame_is)
  by_out other is gives = let wrong : Some frame ≡ None = gives.0 in absurd (cc)

  pub request_of_slot : Does h (Pushed (Some frame)) new → IsSomeCommand h frame
  request_of_slot does = by_out (outgoing h.port h.memory) refl does.gives

  pub request_known : (P : ℕ → Type 0) (known : known_issued h P) → Does h (Pushed (Some frame)) new → P frame.stamp.port
  request_known P known does =
      let c = request_of_slot does in
      subst P (sym c.of.port) (known c.slot c.entry c.of.stands c.of.issued)

pub plain_at : (given : ℕ) (start : Memory) (turns : List HostTurn) (h : Host) → DoesAll (opening_host given start) turns h → IsOnWay (opening_host given start) → IsPlain h.port
plain_at given start turns h run w = plain_run (opening_host given start) h turns run w (opening_plain given start)
