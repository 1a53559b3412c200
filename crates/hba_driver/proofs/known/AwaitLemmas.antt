-- For `devices_are_known`. While slot 30 awaits the data of an IDENTIFY DEVICE, and none has come, it still does so
-- after each turn.
use Rattle.std.proofs.Common.{◌≡◌, ℕ, Bool, true, false, ◌&&◌, List, [], ◌∷◌, length, refl, sym, ◌∙◌, ap, subst, inl, inr, arith, Option, Some, None}
use Rattle.std.proofs.lemmas.{Bool.{cases_eq, cases_lt, eq-eqb, eqb-true, false≢true, true≢false}, List.get_or_past}
use Rattle.std.proofs.lemmas.List.FromFn.{get_or-map-range_with_len, length-map-range_with_len}
use Rattle.std.specs.{Prelude.{if◌then◌else◌, ◌==◌, not}, List.list_all, Option.option_or}
use Rattle.fis_view.specs.{Frames.Stamped, Seen.seen, declared.view.Fis.Fis}
use Rattle.host_memory.specs.Memory.{Memory}
use Rattle.hba_commands.specs.{declared.command.Command.Command, Commands.command_at}
use Rattle.rx_area.specs.declared.area.Posted.{Posted}
use Rattle.slots.specs.{Slots.{has_bit, match_some, slots_of}, Table.IsTable}
use Rattle.hba_fbs.specs.declared.error.WriteError.TheVariants as refusal
use Rattle.hba_fbs.specs.declared.{hearing.Heard.Heard, register.Register.{Register, TheVariants.Ci}, report.{TakeReport.TakeReport, Wrote.Wrote}}
use Rattle.hba_fbs.specs.{Issuing.{asked, commands_with}, Offsets.register_at, Sending.{Outgoing, outgoing}, Tables.is_sound, Taking.admitted}
use Rattle.hba_fbs.specs.{Taking.{heard, heard_now, heard_report, heard_view, ignores, place_in, port_of, row_for, wrote_by}, Views.DeviceView}
use Rattle.hba_fbs.specs.{Views.{Port, last_command, view_of}, Writing.{commands_after, refusal_of, write_refusal}}
use Rattle.hba_fbs.specs.Sending as out
use Rattle.hba_laws.proofs.Door.{data_is_own, is_own}
use Rattle.hba_driver.specs.{declared.effect.Effect.Effect, Effects.{Acts, ActsAll, Tries}, HostTurns.{Host, Pushes, Took, Tooks}, Known.identifies}
use Rattle.hba_driver.specs.{Known.{is_identify, is_identity}, Between.{IsAwaited, IsShort}}
use Rattle.hba_driver.specs.declared.effect.Effect.TheVariants as effect
use Rattle.hba_driver.proofs.{events.DrivenLemmas.tried_at, known.IdentityLemmas.{is_here, short_fed, short_sent, stays_heard}}

-- ---- slot 30 awaits the data of an IDENTIFY DEVICE of device n

awaited_as : (n : ℕ) (old new : Port) → view_of n new ≡ view_of n old → new.commands ≡ old.commands → IsAwaited n old → IsAwaited n new
awaited_as n old new view commands h = record {
  own = subst (λ (v : DeviceView). IsShort v.slots) (sym view) h.own;
  command = ap (λ (c : List (Option Command)). is_identify (last_command c 30)) commands ∙ h.command;
}

-- ---- a frame is taken

-- bytes went to slot 30, so they are IDENTIFY data
here_identity : (port : Port) (o : Option Wrote) → is_identify (last_command port.commands 30) ≡ true → is_identity port o ≡ false → is_here o ≡ false
here_identity port None command none = refl
here_identity port (Some wrote) command none = by_test (wrote.slot == 30) refl
  where
    by_test : (b : Bool) → (wrote.slot == 30) ≡ b → (wrote.slot == 30) ≡ false
    by_test false is = is
    by_test true is =
        let at : is_identify (last_command port.commands wrote.slot) ≡ true = ap (λ (k : ℕ). is_identify (last_command port.commands k)) (eqb-true wrote.slot 30 is) ∙ command in
        absurd (true≢false (sym at ∙ none))

last_false : (a b : Bool) → (a && b) ≡ false → a ≡ true → b ≡ false
last_false true b h is = h
last_false false b h is = absurd (false≢true is)

stays_admitted : (dev : ℕ) (view : DeviceView) (sound : Bool) (o : Option Fis) → is_here (wrote_by (heard dev view sound o).happening) ≡ false → IsShort view.slots
    → IsShort (heard_view dev view sound o).slots
stays_admitted dev view sound None none short = short
stays_admitted dev view sound (Some fis) none short = stays_heard view.slots view.state sound fis none short

told_wrote : (dev : ℕ) (at : Posted) (h : Heard) → (heard_report dev at h).wrote ≡ wrote_by h.happening
unfolding heard_report
told_wrote dev at h = refl

pub awaited_took : (n : ℕ) (old new : Host) (frame : List ℕ) (report : TakeReport) → Tooks old frame report new → identifies n old (Took frame report) ≡ false → IsAwaited n old.port → IsAwaited n new.port
awaited_took n old new frame report does none h = by_ignored (ignores (port_of frame) old.port frame) refl
  where
    dev : ℕ
    dev = port_of frame

    fis : Option Fis
    fis = admitted (port_of frame) (seen frame)

    by_ignored : (b : Bool) → ignores (port_of frame) old.port frame ≡ b → IsAwaited n new.port
    by_ignored true is = subst (IsAwaited n) (sym (does.ignored is).port) h
    by_ignored false is =
        let takes = does.heard is in
        elim (cases_eq n (port_of frame)) [
          | inr other ↦ awaited_as n old.port new.port (takes.others n other) takes.commands h
          | inl same ↦
              let view : DeviceView = view_of (port_of frame) old.port in
              let sound : Bool = is_sound old.memory old.port.commands view.slots in
              let brought : is_identity old.port report.wrote ≡ false = last_false (port_of frame == n) (is_identity old.port report.wrote) none (eq-eqb (port_of frame) n (sym same)) in
              let wrote : report.wrote ≡ wrote_by (heard_now old.port old.memory (port_of frame) fis).happening = ap (λ (r : TakeReport). r.wrote) takes.reports ∙ told_wrote (port_of frame) (place_in (row_for old.port (port_of frame)) fis) (heard_now old.port old.memory (port_of frame) fis) in
              let away : is_here (wrote_by (heard_now old.port old.memory (port_of frame) fis).happening) ≡ false =
              here_identity old.port (wrote_by (heard_now old.port old.memory (port_of frame) fis).happening) h.command (ap (is_identity old.port) (sym wrote) ∙ brought) in
              let short : IsShort view.slots = subst (λ (k : ℕ). IsShort (view_of k old.port).slots) same h.own in
              let next : IsShort (view_of (port_of frame) new.port).slots = subst (λ (v : DeviceView). IsShort v.slots) (sym takes.own) (stays_admitted (port_of frame) view sound fis away short) in
              record {
                own = subst (λ (k : ℕ). IsShort (view_of k new.port).slots) (sym same) next;
                command = ap (λ (c : List (Option Command)). is_identify (last_command c 30)) takes.commands ∙ h.command;
              }
        ]

-- ---- a frame goes out

pub awaited_pushed : (n : ℕ) (old new : Host) (frame : Option Stamped) → Pushes old frame new → IsTable old.port.slots → IsAwaited n old.port → IsAwaited n new.port
awaited_pushed n old new frame does rules h = by_out (outgoing old.port old.memory) refl frame does.gives
  where
    sent : (dev : ℕ) (view : DeviceView) (bytes : List ℕ) (f : Stamped) → out.Sends old.port dev bytes view f new.port → (dev ≡ n → IsShort view.slots) → IsAwaited n new.port
    sent dev view bytes f sends own = elim (cases_eq n dev) [
      | inr other ↦ awaited_as n old.port new.port (sends.others n other) sends.commands h
      | inl same ↦ record {
        own = subst (λ (k : ℕ). IsShort (view_of k new.port).slots) (sym same) (subst (λ (v : DeviceView). IsShort v.slots) (sym sends.own) (own (sym same)));
        command = ap (λ (c : List (Option Command)). is_identify (last_command c 30)) sends.commands ∙ h.command;
      }
    ]

    by_out : (o : Outgoing) → outgoing old.port old.memory ≡ o → (frame : Option Stamped) → out.Gives o old.port old.memory frame new.port → IsAwaited n new.port
    by_out out.Nothing is frame gives = subst (IsAwaited n) (sym gives.1) h
    by_out (out.Unreadable dev) is frame gives = record {
      own = subst (λ (p : Port). IsShort (slots_of n p.slots)) (sym gives.1) h.own;
      command = ap (λ (p : Port). is_identify (last_command p.commands 30)) gives.1 ∙ h.command;
    }
    by_out (out.Data dev offset len command) is (Some f) gives = sent dev _ _ f gives (λ same.
        let some = data_is_own old.port old.memory dev offset len command is in
        short_fed dev (slots_of dev old.port.slots) (is_own dev old.port.slots rules) some (subst (λ (k : ℕ). IsShort (slots_of k old.port.slots)) (sym same) h.own))
    by_out (out.Order dev slot command) is (Some f) gives = sent dev _ _ f gives (λ same. short_sent (slots_of dev old.port.slots) slot (subst (λ (k : ℕ). IsShort (slots_of k old.port.slots)) (sym same) h.own))
    by_out other is None gives = absurd gives

-- ---- effects that leave the command of slot 30

-- a write that issues nothing in slot 30
abbrev pub leaves_here : Option Register → ℕ → Bool
leaves_here (Some Ci) value = not (has_bit value 30)
leaves_here o value = true

abbrev pub keeps_here : Effect → Bool
keeps_here (effect.Writes offset value) = leaves_here (register_at offset) value
keeps_here e = true

-- the commands of the other slots
with_none : (a : ℕ → Option Command) (old : List (Option Command)) → a 30 ≡ None → last_command (commands_with a old) 30 ≡ last_command old 30
unfolding commands_with
with_none a old none = elim (cases_lt 30 (length old)) [
  | inl less ↦
      get_or-map-range_with_len (λ slot. option_or (a slot) (last_command old slot)) 0 (length old) 30 30 None less (omega arith)
      ∙ ap (λ (o : Option Command). option_or o (last_command old 30)) none
  | inr past ↦
      let long = length-map-range_with_len (λ slot. option_or (a slot) (last_command old slot)) 0 (length old) in
      get_or_past (commands_with a old) 30 None (omega (arith, long, past)) ∙ sym (get_or_past old 30 None past)
]

not_asked : (old : Port) (memory : Memory) (value : ℕ) → not (has_bit value 30) ≡ true → asked old.registers memory value 30 ≡ None
not_asked old memory value h = by_test (has_bit value 30) h
  where
    by_test : (b : Bool) → not b ≡ true → (if b then command_at memory old.registers.clb 30 (has_bit old.registers.armed 30) else None) ≡ None
    by_test true e = absurd (false≢true e)
    by_test false e = refl

here_after : (register : Register) (old : Port) (memory : Memory) (value : ℕ) → leaves_here (Some register) value ≡ true → last_command (commands_after register old memory value) 30 ≡ last_command old.commands 30
unfolding commands_after
here_after Ci old memory value h = with_none (asked old.registers memory value) old.commands (not_asked old memory value h)
here_after other old memory value h = refl

here_write : (o : Option Register) (offset value : ℕ) (old new : Port) (memory : Memory) → register_at offset ≡ o → leaves_here o value ≡ true → Tries old memory offset value new → last_command new.commands 30 ≡ last_command old.commands 30
here_write None offset value old new memory at h tries =
    let none : write_refusal old memory offset value ≡ Some refusal.NoRegister = ap (λ (o : Option Register). match_some o (Some refusal.NoRegister) (λ (r : Register). refusal_of r old memory value)) at in
    ap (λ (p : Port). last_command p.commands 30) (tries.refused refusal.NoRegister none)
here_write (Some register) offset value old new memory at h tries = elim (tried_at register offset value old memory new at tries) [
  | inl taken ↦ ap (λ (c : List (Option Command)). last_command c 30) taken.accepts.commands ∙ here_after register old memory value h
  | inr refused ↦ ap (λ (p : Port). last_command p.commands 30) refused.stays
]

here_effect : (e : Effect) (old new : Port) (before after : Memory) → keeps_here e ≡ true → Acts e old before new after → last_command new.commands 30 ≡ last_command old.commands 30
here_effect (effect.Writes offset value) old new before after h acts = here_write (register_at offset) offset value old new before refl h acts.0
here_effect (effect.Flushes dev) old new before after h acts = ap (λ (c : List (Option Command)). last_command c 30) acts.0.commands
here_effect other old new before after h acts = ap (λ (p : Port). last_command p.commands 30) acts.0

both_parts : (a b : Bool) → (a && b) ≡ true → (a ≡ true) × (b ≡ true)
both_parts true true h = (refl, refl)
both_parts true false h = absurd (false≢true h)
both_parts false b h = absurd (false≢true h)

pub here_effects : (es : List Effect) (old new : Port) (before after : Memory) → list_all keeps_here es ≡ true → ActsAll es old before new after → last_command new.commands 30 ≡ last_command old.commands 30
unfolding ActsAll
here_effects [] old new before after h acts = ap (λ (p : Port). last_command p.commands 30) acts.0
here_effects (e ∷ es) old new before after h acts =
    let both = both_parts (keeps_here e) (list_all keeps_here es) h in
    here_effects es acts.0 new acts.1 after both.1 acts.4 ∙ here_effect e old acts.0 before acts.1 both.0 acts.2
