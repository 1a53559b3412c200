-- For `done_is_true`. What is issued for a device stays issued until the device completes it or is flushed.
use Rattle.std.proofs.Common.{◌≡◌, ◌≢◌, ℕ, ◌+◌, ◌*◌, ◌<◌, Bool, true, false, cond, eqb, ◌&&◌, List, [], ◌∷◌, ◌++◌, drop, refl, sym, ◌∙◌, ap, subst}
use Rattle.std.proofs.{Common.{inl, inr, arith, Option, Some, None}, lemmas.Bool.{eqb-true, false≢true, lt-ltb, ne_eqb, or_parts, true≢false}}
use Rattle.std.proofs.lemmas.Bool.Decides.{nat_tests}
use Rattle.std.specs.{Prelude.{MatchOption, if◌then◌else◌, ◌==◌, ◌%◌, is_some, map, not, slice_index}, List.{list_all, list_any}, Option.option_map}
use Rattle.fis_view.specs.{Frames.Stamped, Seen.seen}
use Rattle.host_memory.specs.Memory.{Memory}
use Rattle.hba_commands.specs.declared.command.Command.{Command}
use Rattle.slots.specs.{Slots.{Issue, has_bit, holds, is_control, is_pio, issue_at, match_some, own_issue, slots_of}, Table.IsTable, Work.is_dma}
use Rattle.slots.specs.{Work.is_read, declared.work.Work.Work}
use Rattle.slots.specs.declared.answer.Answered.TheVariants as answer
use Rattle.hba_fbs.specs.declared.error.WriteError.TheVariants as refusal
use Rattle.hba_fbs.specs.declared.{hearing.Happening.Happening, register.Register.{Register, TheVariants.{Cmd, Ci, Fbs}}}
use Rattle.hba_fbs.specs.{declared.{registers.Registers.Registers, report.TakeReport.TakeReport, status.Block.Block}, Issuing.{aimed, asked}}
use Rattle.hba_fbs.specs.{Issuing.{issue_with, view_issued}, Offsets.register_at, Registers.falls, Sending.{Outgoing, gathered, outgoing}}
use Rattle.hba_fbs.specs.{Tables.prds_of, Taking.{admitted, heard_now, ignores, port_of}, Views.{DeviceView, Port, stopped_view, view_of}}
use Rattle.hba_fbs.specs.{Writing.{Accepts, refusal_of, view_after, view_cleared, write_refusal}, Bits.dec}
use Rattle.hba_fbs.specs.declared.hearing.Happening.TheVariants as happening
use Rattle.hba_fbs.specs.Sending as out
use Rattle.port_errors.specs.Errors.{cleared_device}
use Rattle.hba_laws.specs.{Agreement.{AreHistoriesOf, work_of_issue, work_of_transfer}, Client.{By, Touches, own}, Delivering.{ReportsDone, begun_by}}
use Rattle.hba_laws.specs.Delivering.{by_device, completes_now, event_heard, event_of, event_sent, event_taken, is_control_issue, touched}
use Rattle.hba_laws.specs.{Delivering.touched_by_out, History.{Answered, Carried, Emptied, Event, History, Issued, Named, PioSetUp, Sent}}
use Rattle.hba_laws.specs.{History.{SentControl, SetUp, Transfer, completes, issued, unless}, Hosts.TakesFrame}
use Rattle.hba_laws.specs.Hosts as event
use Rattle.hba_laws.proofs.Door.{asked_free, done_is_completed, histories_step, is_own, own_below, own_in, own_issued, some_inj, the_transfer}
use Rattle.hba_driver.specs.{declared.{effect.Effect.Effect, mode.Mode.{Mode, TheVariants.{Switching, CommandBased}}, turn.Act.Act}, Effects.Acts}
use Rattle.hba_driver.specs.{Effects.{ActsAll, Tries, clearing, effects_of, issuing, opening_write, opening_writes}, Events.IsSoundHostIn}
use Rattle.hba_driver.specs.{Events.shared_by, HostTurns.{Does, Host, Took, Pushed}, Laws.flushes, Paths.{reads_page, stage_fields}, Served.IsServed}
use Rattle.hba_driver.specs.{Sights.{px_fbs, px_is}, Ticks.effects_due, Between.{HasOut, IsIssuedAt, MayClear, MayEnd}}
use Rattle.hba_driver.specs.declared.effect.Effect.TheVariants as effect
use Rattle.hba_driver.specs.declared.turn.Act.TheVariants as act
use Rattle.hba_driver.proofs.{events.DrivenLemmas.{no_dec, tried_at}, calls.EffectLemmas.{all_at, issuing_pass, order_pass, restarts_pass}}
use Rattle.hba_driver.proofs.{calls.EffectLemmas.sending_pass, issued.EndingLemmas.{is_accepted, may_then, only_cleared}, requests.StandLemmas.both}
use Rattle.hba_driver.proofs.{issued.TickingLemmas.is_calm, events.TurnLemmas.sound_shared}

-- ---- a command that only its device completes

pub out_same : (p q : Port) (slot dev : ℕ) → q ≡ p → HasOut p slot dev → HasOut q slot dev
out_same p q slot dev is h = subst (λ (x : Port). HasOut x slot dev) (sym is) h

-- ---- events that complete nothing

-- an event that a frame may be, or a command that goes out
abbrev Goes : Event → Type 0
Goes (Issued slot t) = ⊥
Goes (SentControl slot) = ⊥
Goes Emptied = ⊥
Goes other = Unit {0}

still_by : (s : ℕ) (b : Bool) (t : Transfer) → b ≡ false → unless b (Some t) ≡ Some t
still_by s true t h = absurd (true≢false h)
still_by s false t h = refl

still_issued : (s : ℕ) (e : Event) (past : History) (t : Transfer) → Goes e → issued s past ≡ Some t → completes s e past t.work ≡ false → issued s (e ∷ past) ≡ Some t
still_issued s (Sent slot) past t goes is none = ap (λ (o : Option Transfer). match_some o None (λ u. unless (completes s (Sent slot) past u.work) (Some u))) is
still_issued s (SetUp tag offset count to_host) past t goes is none =
    ap (λ (o : Option Transfer). match_some o None (λ u. unless (completes s (SetUp tag offset count to_host) past u.work) (Some u))) is
still_issued s (PioSetUp count to_host ends) past t goes is none =
    ap (λ (o : Option Transfer). match_some o None (λ u. unless (completes s (PioSetUp count to_host ends) past u.work) (Some u))) is
still_issued s (Carried bytes) past t goes is none =
    ap (λ (o : Option Transfer). match_some o None (λ u. unless (completes s (Carried bytes) past u.work) (Some u))) is ∙ still_by s (completes s (Carried bytes) past t.work) t none
still_issued s Answered past t goes is none =
    ap (λ (o : Option Transfer). match_some o None (λ u. unless (completes s Answered past u.work) (Some u))) is ∙ still_by s (completes s Answered past t.work) t none
still_issued s (Named mask) past t goes is none =
    ap (λ (o : Option Transfer). match_some o None (λ u. unless (completes s (Named mask) past u.work) (Some u))) is ∙ still_by s (completes s (Named mask) past t.work) t none
still_issued s other past t goes is none = absurd goes

still_own : (n dev s : ℕ) (e : Event) (past : Touches) (t : Transfer) → issued s (own n past) ≡ Some t → (dev ≡ n → issued s (e ∷ own n past) ≡ Some t) → issued s (own n (By dev e ∷ past)) ≡ Some t
still_own n dev s e past t is here = by_test (eqb dev n) refl
  where
    by_test : (b : Bool) → eqb dev n ≡ b → issued s (cond b (e ∷ own n past) (own n past)) ≡ Some t
    by_test true same = here (eqb-true dev n same)
    by_test false same = is

-- which events a frame is
happening_goes : (x : Happening) (block : Option Block) (payload : List ℕ) (e : Event) → event_of x block payload ≡ Some e → Goes e
happening_goes (happening.Answered answer.Nobody) block payload e h = subst Goes (some_inj Answered e h) tt
happening_goes (happening.Answered (answer.Queued slot)) block payload e h = subst Goes (some_inj Answered e h) tt
happening_goes (happening.Answered (answer.Done slot)) block payload e h = subst Goes (some_inj Answered e h) tt
happening_goes (happening.Named mask) block payload e h = subst Goes (some_inj (Named mask) e h) tt
happening_goes (happening.SetUp c) block payload e h = subst Goes (some_inj (SetUp c.slot c.next c.left c.to_host) e h) tt
happening_goes (happening.PioSetUp count to_host) None payload e h = cc
happening_goes (happening.PioSetUp count to_host) (Some b) payload e h = subst Goes (some_inj (PioSetUp count to_host b.ends) e h) tt
happening_goes (happening.Carried wrote finishes) block payload e h = subst Goes (some_inj (Carried payload) e h) tt
happening_goes other block payload e h = cc

taken_goes : (host : event.Host) (frame : List ℕ) (e : Event) → event_taken host frame ≡ Some e → Goes e
taken_goes host frame e h = by_ignored (ignores (port_of frame) host.port frame) h
  where
    by_ignored : (b : Bool) → (if b then None else event_heard (heard_now host.port host.memory (port_of frame) (admitted (port_of frame) (seen frame))) (drop 4 frame)) ≡ Some e → Goes e
    by_ignored true h = cc
    by_ignored false h =
        let x = heard_now host.port host.memory (port_of frame) (admitted (port_of frame) (seen frame)) in
        happening_goes x.happening x.state.block (drop 4 frame) e h

-- ---- views and histories

the_issue : (o : Option Transfer) (p : Option Issue) (t : Transfer) → o ≡ Some t → option_map work_of_transfer o ≡ option_map work_of_issue p → (i : Issue) × (p ≡ Some i) × (i.work ≡ t.work)
the_issue o None t is same = let bad : Some t.work ≡ None = sym (ap (option_map work_of_transfer) is) ∙ same in cc
the_issue o (Some i) t is same = (i, refl, some_inj i.work t.work (sym same ∙ ap (option_map work_of_transfer) is))

-- what a history still has issued, the port has issued too
out_told : (a b : event.Host) (dev slot : ℕ) (later : Touches) (h : HasOut a.port slot dev) (t : Transfer) → dev < 16 → AreHistoriesOf b later → t.work ≡ h.issue.work → issued slot (own dev later) ≡ Some t → HasOut b.port slot dev
out_told a b dev slot later h t below told work is =
    let j = the_issue (issued slot (own dev later)) (own_issue (slots_of dev b.port.slots) slot) t is ((told dev below).issued slot) in
    let same : j.0.work ≡ h.issue.work = j.2 ∙ work in
    record { issue = j.0; is = j.1; pio = ap (λ (w : Work). is_pio w.kind) same ∙ h.pio; control = ap (λ (w : Work). is_control w.kind) same ∙ h.control }

out_transfer : (a : event.Host) (dev slot : ℕ) (past : Touches) (h : HasOut a.port slot dev) → dev < 16 → AreHistoriesOf a past → (t : Transfer) × (issued slot (own dev past) ≡ Some t) × (t.work ≡ h.issue.work)
out_transfer a dev slot past h below told = the_transfer (issued slot (own dev past)) (own_issue (slots_of dev a.port.slots) slot) h.issue h.is ((told dev below).issued slot)

-- ---- a frame is taken

port_low : (frame : List ℕ) → port_of frame < 16
port_low frame = low (slice_index frame 1)
  where
    low : (n : ℕ) → n % 16 < 16
    low n = omega arith

none_completed : (s : ℕ) (host : event.Host) (frame : List ℕ) (past : History) (t : Transfer) (e : Event) → issued s past ≡ Some t → event_taken host frame ≡ Some e → completes_now s host frame past ≡ false
    → completes s e past t.work ≡ false
none_completed s host frame past t e is taken none =
    sym (ap (λ (o : Option Transfer). match_some o false (λ u. match_some (event_taken host frame) false (λ x. completes s x past u.work))) is
    ∙ ap (λ (o : Option Event). match_some o false (λ x. completes s x past t.work)) taken)
    ∙ none

not_both : (a b : Bool) → (a && b) ≡ false → b ≡ true → a ≡ false
not_both true true h k = absurd (true≢false h)
not_both true false h k = absurd (false≢true k)
not_both false b h k = refl

equal_is : (x y : ℕ) → x ≡ y → (x == y) ≡ true
equal_is x y h = grind (arith, nat_tests)

taken_still : (host new : event.Host) (frame : List ℕ) (report : TakeReport) (past : Touches) (dev slot : ℕ) (t : Transfer) → slot < 32 → ReportsDone host frame report (own (port_of frame) past)
    → (has_bit report.done slot && (port_of frame == dev)) ≡ false → issued slot (own dev past) ≡ Some t → (o : Option Event) → event_taken host frame ≡ o → issued slot (own dev (by_device (port_of frame) o ++ past)) ≡ Some t
taken_still host new frame report past dev slot t below reports none is None taken = is
taken_still host new frame report past dev slot t below reports none is (Some e) taken = still_own dev (port_of frame) slot e past t is (λ same.
    let bit : has_bit report.done slot ≡ false = not_both (has_bit report.done slot) (port_of frame == dev) none (equal_is (port_of frame) dev same) in
    let now : completes_now slot host frame (own (port_of frame) past) ≡ false = sym (reports.done slot below) ∙ bit in
    let there : completes_now slot host frame (own dev past) ≡ false = subst (λ (n : ℕ). completes_now slot host frame (own n past) ≡ false) same now in
    still_issued slot e (own dev past) t (taken_goes host frame e taken) is (none_completed slot host frame (own dev past) t e is taken there))

-- it completes the command, or leaves it
pub out_took : {mode : Mode} (old new : Host) (frame : List ℕ) (report : TakeReport) (past : Touches) (slot dev : ℕ) → Does old (Took frame report) new → IsSoundHostIn mode old → IsServed old.driver (shared_by old) past → slot < 32 → dev < 16
    → (has_bit report.done slot && (port_of frame == dev)) ≡ false → HasOut old.port slot dev → HasOut new.port slot dev
out_took old new frame report past slot dev does sound served below dev_below none h =
    let a : event.Host = shared_by old in
    let takes : TakesFrame a frame report (shared_by new) = record { ignored = does.ignored; heard = does.heard } in
    let host = sound_shared old sound in
    let reports : ReportsDone a frame report (own (port_of frame) past) =
    done_is_completed a a (shared_by new) [] refl (record { hosts = host; frames = tt }) frame report (own (port_of frame) past) does.framed (served.told (port_of frame) (port_low frame)) takes in
    let t = out_transfer a dev slot past h dev_below served.told in
    let later : Touches = touched a (event.Took frame report) ++ past in
    let told : AreHistoriesOf (shared_by new) later = histories_step a host past served.told (event.Took frame report) (shared_by new) does.framed takes in
    out_told a (shared_by new) dev slot later h t.0 dev_below told t.2 (taken_still a (shared_by new) frame report past dev slot t.0 below reports none t.1 (event_taken a frame) refl)

-- ---- a frame goes out

no_pio : (a b c d : Bool) → b ≡ false → (a && b && c && d) ≡ false
no_pio true true c d h = absurd (true≢false h)
no_pio true false c d h = refl
no_pio false b c d h = refl

sent_still : (port : Port) (slot k : ℕ) (past : History) (t : Transfer) → issued slot past ≡ Some t → (k ≡ slot → holds is_control_issue (issue_at port.slots k) ≡ false)
    → (b : Bool) → holds is_control_issue (issue_at port.slots k) ≡ b → issued slot ((if b then SentControl k else Sent k) ∷ past) ≡ Some t
sent_still port slot k past t is other false at = still_issued slot (Sent k) past t tt is refl
sent_still port slot k past t is other true at = by_slot (eqb k slot) refl
  where
    by_slot : (b : Bool) → eqb k slot ≡ b → unless b (issued slot past) ≡ Some t
    by_slot true same = absurd (true≢false (sym at ∙ other (eqb-true k slot same)))
    by_slot false same = is

-- a command without a setup completes nothing either
begun_still : (dev n slot k : ℕ) (past : Touches) (e : Event) (t : Transfer) (o : Option Issue) → issued slot (own dev (By n e ∷ past)) ≡ Some t → issued slot (own dev ((map (By n) (begun_by k o) ++ By n e ∷ []) ++ past)) ≡ Some t
begun_still dev n slot k past e t None is = is
begun_still dev n slot k past e t (Some i) is = by_dma (is_dma i.work.kind)
  where
    by_dma : (b : Bool) → issued slot (own dev ((map (By n) (if b then SetUp k 0 i.work.len (is_read i.work.kind) ∷ [] else []) ++ By n e ∷ []) ++ past)) ≡ Some t
    by_dma true = still_own dev n slot (SetUp k 0 i.work.len (is_read i.work.kind)) (By n e ∷ past) t is (λ same.
        still_issued slot (SetUp k 0 i.work.len (is_read i.work.kind)) (own dev (By n e ∷ past)) t tt is refl)
    by_dma false = is

out_still : (host : event.Host) (past : Touches) (dev slot : ℕ) (h : HasOut host.port slot dev) (t : Transfer) → t.work ≡ h.issue.work → issued slot (own dev past) ≡ Some t → (o : Outgoing)
    → issued slot (own dev (touched_by_out host o ++ past)) ≡ Some t
out_still host past dev slot h t work is (out.Data n offset len command) =
    let bytes : List ℕ = gathered (prds_of host.memory command) offset len host.memory.client in
    still_own dev n slot (Carried bytes) past t is (λ same.
    still_issued slot (Carried bytes) (own dev past) t tt is (no_pio _ (is_pio t.work.kind) _ _ (ap (λ (w : Work). is_pio w.kind) work ∙ h.pio)))
out_still host past dev slot h t work is (out.Order n k command) =
    begun_still dev n slot k past (event_sent host.port.slots k) t (issue_at host.port.slots k) (still_own dev n slot (event_sent host.port.slots k) past t is (λ same.
    sent_still host.port slot k (own dev past) t is (λ at.
    let there : issue_at host.port.slots k ≡ Some h.issue = subst (λ (j : ℕ). issue_at host.port.slots j ≡ Some h.issue) (sym at) (own_in dev slot host.port.slots h.issue h.is).1 in
    ap (holds is_control_issue) there ∙ h.control) (holds is_control_issue (issue_at host.port.slots k)) refl))
out_still host past dev slot h t work is other = is

pub out_pushed : {mode : Mode} (old new : Host) (frame : Option Stamped) (past : Touches) (slot dev : ℕ) → Does old (Pushed frame) new → IsSoundHostIn mode old → IsServed old.driver (shared_by old) past → dev < 16 → HasOut old.port slot dev
    → HasOut new.port slot dev
out_pushed old new frame past slot dev does sound served dev_below h =
    let a : event.Host = shared_by old in
    let t = out_transfer a dev slot past h dev_below served.told in
    let later : Touches = touched a (event.Gave frame) ++ past in
    let told : AreHistoriesOf (shared_by new) later = histories_step a (sound_shared old sound) past served.told (event.Gave frame) (shared_by new) tt (does.gives, does.memory) in
    out_told a (shared_by new) dev slot later h t.0 dev_below told t.2 (out_still a past dev slot h t.0 t.2 t.1 (outgoing old.port old.memory))

-- ---- a write

-- the write does not make ST fall, and clears no device
abbrev NoFall : Register → Registers → ℕ → Type 0
NoFall Cmd r value = falls r value ≡ false
NoFall Fbs r value = not (has_bit value dec) ≡ true
NoFall register r value = Unit {0}

issued_kept : (old : Port) (memory : Memory) (value dev s : ℕ) (i : Issue) → refusal_of Ci old memory value ≡ None → IsTable old.slots → IsIssuedAt old dev s i
    → own_issue (view_issued old.registers memory value (view_of dev old)).slots s ≡ Some i
issued_kept old memory value dev s i free table here =
    let commands : ℕ → Option Command = asked old.registers memory value in
    let target : ℕ = aimed old.registers memory.structure value in
    let own_slots = is_own dev old.slots table in
    let below : s < 32 = own_below dev s (slots_of dev old.slots) i own_slots here in
    let was : Option Issue = own_issue (slots_of dev old.slots) s in
    ap (λ (f : ℕ → Option Issue). f s) (own_issued target commands (slots_of dev old.slots) 32 own_slots.long)
    ∙ ap (λ (b : Bool). cond b (issue_with target (commands s) was) was) (lt-ltb s 32 below) ∙ by_command (commands s) refl
  where
    by_command : (o : Option Command) → asked old.registers memory value s ≡ o → issue_with (aimed old.registers memory.structure value) o (own_issue (slots_of dev old.slots) s) ≡ Some i
    by_command None is = here
    by_command (Some command) is =
        let low : s < 32 = own_below dev s (slots_of dev old.slots) i (is_own dev old.slots table) here in
        let none : issue_at old.slots s ≡ None = asked_free old memory value s free low (ap is_some is) in
        let bad : None ≡ Some i = sym none ∙ (own_in dev s old.slots i here).1 in
        cc

kept_accept : (register : Register) (old new : Port) (memory : Memory) (value dev s : ℕ) (i : Issue) → dev < 16 → refusal_of register old memory value ≡ None → Accepts old memory register value new
    → NoFall register old.registers value → IsTable old.slots → IsIssuedAt old dev s i → IsIssuedAt new dev s i
unfolding view_after
kept_accept Cmd old new memory value dev s i below free accepts calm table here =
    ap (λ (v : DeviceView). own_issue v.slots s) (accepts.views dev below ∙ ap (λ (b : Bool). if b then stopped_view (view_of dev old) else view_of dev old) calm) ∙ here
kept_accept Ci old new memory value dev s i below free accepts calm table here =
    ap (λ (v : DeviceView). own_issue v.slots s) (accepts.views dev below) ∙ by_target (dev == aimed old.registers memory.structure value)
  where
    by_target : (b : Bool) → own_issue (if b then view_issued old.registers memory value (view_of dev old) else view_of dev old).slots s ≡ Some i
    by_target true = issued_kept old memory value dev s i free table here
    by_target false = here
kept_accept Fbs old new memory value dev s i below free accepts calm table here =
    ap (λ (v : DeviceView). own_issue v.slots s) (accepts.views dev below ∙ none_cleared (has_bit value dec) calm) ∙ here
  where
    none_cleared : (b : Bool) → not b ≡ true → view_cleared dev (if b then cleared_device old.errors else None) (view_of dev old) ≡ view_of dev old
    none_cleared true h = absurd (false≢true h)
    none_cleared false h = refl
kept_accept other old new memory value dev s i below free accepts calm table here = ap (λ (v : DeviceView). own_issue v.slots s) (accepts.views dev below) ∙ here

kept_write : (o : Option Register) (offset value : ℕ) (old new : Port) (memory : Memory) (dev s : ℕ) (i : Issue) → register_at offset ≡ o → MatchOption o (Unit {0}) (λ r. NoFall r old.registers value) → dev < 16
    → Tries old memory offset value new → IsTable old.slots → IsIssuedAt old dev s i → IsIssuedAt new dev s i
kept_write None offset value old new memory dev s i at calm below tries table here =
    let none : write_refusal old memory offset value ≡ Some refusal.NoRegister = ap (λ (o : Option Register). match_some o (Some refusal.NoRegister) (λ (r : Register). refusal_of r old memory value)) at in
    subst (λ (p : Port). IsIssuedAt p dev s i) (sym (tries.refused refusal.NoRegister none)) here
kept_write (Some register) offset value old new memory dev s i at calm below tries table here = elim (tried_at register offset value old memory new at tries) [
  | inl taken ↦ kept_accept register old new memory value dev s i below taken.free taken.accepts calm table here
  | inr refused ↦ subst (λ (p : Port). IsIssuedAt p dev s i) (sym refused.stays) here
]

-- ---- effects

-- a write after which what is issued stays: ST does not fall, and no device is cleared
abbrev pub lasting : Option Register → ℕ → Bool
lasting (Some Cmd) value = has_bit value 0
lasting (Some Fbs) value = not (has_bit value dec)
lasting o value = true

abbrev pub lasting_effect : Effect → Bool
lasting_effect (effect.Writes offset value) = lasting (register_at offset) value
lasting_effect e = true

off_where : (a b : Bool) → b ≡ true → (a && not b) ≡ false
off_where true true h = refl
off_where false true h = refl
off_where a false h = absurd (false≢true h)

no_fall : (o : Option Register) (r : Registers) (value : ℕ) → lasting o value ≡ true → MatchOption o (Unit {0}) (λ g. NoFall g r value)
no_fall (Some Cmd) r value h = off_where r.started (has_bit value 0) h
no_fall (Some Fbs) r value h = h
no_fall other r value h = tt

other_port : (n dev : ℕ) → (n == dev) ≡ false → dev ≢ n
other_port n dev h same = true≢false (sym (equal_is n dev (sym same)) ∙ h)

kept_effect : (e : Effect) (old new : Port) (before after : Memory) (dev s : ℕ) (i : Issue) → lasting_effect e ≡ true → flushes dev e ≡ false → dev < 16 → Acts e old before new after → IsTable old.slots
    → IsIssuedAt old dev s i → IsIssuedAt new dev s i
kept_effect (effect.Writes offset value) old new before after dev s i calm other below acts table here =
    kept_write (register_at offset) offset value old new before dev s i refl (no_fall (register_at offset) old.registers value calm) below acts.0 table here
kept_effect (effect.Flushes n) old new before after dev s i calm other below acts table here =
    ap (λ (v : DeviceView). own_issue v.slots s) (acts.0.others dev (other_port n dev other)) ∙ here
kept_effect rest old new before after dev s i calm other below acts table here = subst (λ (p : Port). IsIssuedAt p dev s i) (sym acts.0) here

pub kept_effects : (es : List Effect) (old new : Port) (before after : Memory) (dev s : ℕ) (i : Issue) → list_all lasting_effect es ≡ true → list_any (flushes dev) es ≡ false → dev < 16 → ActsAll es old before new after
    → IsTable old.slots → IsIssuedAt old dev s i → IsIssuedAt new dev s i
unfolding ActsAll
kept_effects [] old new before after dev s i calm other below acts table here = subst (λ (p : Port). IsIssuedAt p dev s i) (sym acts.0) here
kept_effects (e ∷ es) old new before after dev s i calm other below acts table here =
    let calm_is = both (lasting_effect e) (list_all lasting_effect es) calm in
    let others = or_parts (flushes dev e) (list_any (flushes dev) es) other in
    kept_effects es acts.0 new acts.1 after dev s i calm_is.1 others.1 below acts.4 acts.3.table
    (kept_effect e old acts.0 before acts.1 dev s i calm_is.0 others.0 below acts.2 table here)

out_effects : (es : List Effect) (old new : Port) (before after : Memory) (slot dev : ℕ) → list_all lasting_effect es ≡ true → list_any (flushes dev) es ≡ false → dev < 16 → ActsAll es old before new after
    → IsTable old.slots → HasOut old slot dev → HasOut new slot dev
out_effects es old new before after slot dev calm other below acts table h =
    record { issue = h.issue; is = kept_effects es old new before after dev slot h.issue calm other below acts table h.is; pio = h.pio; control = h.control }

-- ---- what each act leaves, except the two that end a fault

lasting_issuing : (mode : Mode) (slot dev : ℕ) (queued : Bool) → list_all lasting_effect (issuing mode slot dev queued) ≡ true
unfolding register_at
lasting_issuing mode slot dev queued = issuing_pass lasting_effect mode slot dev queued (λ on. ap not (no_dec dev)) refl refl

pub lasting_act : (mode : Mode) (a : Option Act) → is_calm a ≡ true → ((k : ℕ) → a ≡ Some (act.Opens k) → ⊥) → list_all lasting_effect (effects_due mode a) ≡ true
unfolding effects_of register_at
lasting_act mode None calm opens = refl
lasting_act mode (Some (act.Opens k)) calm opens = absurd (opens k refl)
lasting_act mode (Some (act.Restarts k)) calm opens = restarts_pass lasting_effect mode k refl refl
lasting_act mode (Some (act.Orders order)) calm opens = order_pass lasting_effect mode order refl (λ port is. (refl, refl)) (λ f. refl) (lasting_issuing mode 31 15 false)
lasting_act mode (Some (act.Steps dev stage)) calm opens = sending_pass lasting_effect mode 30 dev (stage_fields dev stage) (reads_page stage) (λ f. refl) (lasting_issuing mode 30 dev false)
lasting_act mode (Some (act.Issues slot dev queued)) calm opens = lasting_issuing mode slot dev queued
lasting_act mode other calm opens = absurd (false≢true calm)

-- ---- another device is cleared

pub kept_clear : (old new : Port) (before after : Memory) (slot dev k : ℕ) (i : Issue) → dev < 16 → dev ≢ k → MayClear k old → IsTable old.slots → ActsAll (clearing Switching k) old before new after → IsIssuedAt old dev slot i → IsIssuedAt new dev slot i
unfolding ActsAll register_at view_after
kept_clear old new before after slot dev k i below other may table acts here =
    let value : ℕ = 256 * k + 3 in
    let next : MayClear k acts.0 = may_then k 1224736768 old acts.0 before (is_accepted 1224736768 old acts.0 before acts.1 acts.2) may in
    let first : IsIssuedAt acts.0 dev slot i = kept_write (register_at px_is) px_is 1224736768 old acts.0 before dev slot i refl tt below acts.2.0 table here in
    let second : IsIssuedAt acts.4.0 dev slot i = elim (tried_at Fbs px_fbs value acts.0 acts.1 acts.4.0 refl acts.4.2.0) [
      | inl taken ↦
          ap (λ (v : DeviceView). own_issue v.slots slot)
          (taken.accepts.views dev below ∙ ap (λ (o : Option ℕ). view_cleared dev o (view_of dev acts.0)) (only_cleared k acts.0.errors next.faulty)
          ∙ ap (λ (b : Bool). if b then stopped_view (view_of dev acts.0) else view_of dev acts.0) (ne_eqb k dev (λ same. other (sym same))))
          ∙ first
      | inr refused ↦ subst (λ (p : Port). IsIssuedAt p dev slot i) (sym refused.stays) first
    ] in
    subst (λ (p : Port). IsIssuedAt p dev slot i) (sym acts.4.4.0) second

out_clear : (old new : Port) (before after : Memory) (slot dev k : ℕ) → dev < 16 → dev ≢ k → MayClear k old → IsTable old.slots → ActsAll (clearing Switching k) old before new after → HasOut old slot dev → HasOut new slot dev
out_clear old new before after slot dev k below other may table acts h =
    record { issue = h.issue; is = kept_clear old new before after slot dev k h.issue below other may table acts h.is; pio = h.pio; control = h.control }

-- ---- each act, except one that stops the port

pub out_act : (mode : Mode) (a : Option Act) (old new : Port) (before after : Memory) (slot dev : ℕ) → dev < 16 → MayEnd mode a old → (a ≡ Some act.Stops → ⊥) → ((k : ℕ) → a ≡ Some (act.Clears k) → dev ≢ k)
    → ((k : ℕ) → a ≡ Some (act.Opens k) → ⊥) → list_any (flushes dev) (effects_due mode a) ≡ false → ActsAll (effects_due mode a) old before new after → IsTable old.slots → HasOut old slot dev → HasOut new slot dev
unfolding effects_of
out_act mode None old new before after slot dev below may stops clears opens other acts table h = out_effects [] old new before after slot dev refl other below acts table h
out_act mode (Some (act.Opens k)) old new before after slot dev below may stops clears opens other acts table h = absurd (opens k refl)
out_act mode (Some act.Stops) old new before after slot dev below may stops clears opens other acts table h = absurd (stops refl)
out_act Switching (Some (act.Clears k)) old new before after slot dev below may stops clears opens other acts table h =
    out_clear old new before after slot dev k below (clears k refl) may.1 table acts h
out_act CommandBased (Some (act.Clears k)) old new before after slot dev below may stops clears opens other acts table h =
    let bad : CommandBased ≡ Switching = may.0 in
    cc
out_act mode rest old new before after slot dev below may stops clears opens other acts table h =
    out_effects (effects_due mode rest) old new before after slot dev (lasting_act mode rest refl opens) other below acts table h

-- ---- a write that opens the port

abbrev pub clears_none : Option Register → ℕ → Bool
clears_none (Some Fbs) value = not (has_bit value dec)
clears_none o value = true

stopped_fall : (o : Option Register) (r : Registers) (value : ℕ) → r.started ≡ false → clears_none o value ≡ true → MatchOption o (Unit {0}) (λ g. NoFall g r value)
stopped_fall (Some Cmd) r value h none = ap (λ (b : Bool). b && not (has_bit value 0)) h
stopped_fall (Some Fbs) r value h none = none
stopped_fall other r value h none = tt

-- a write that clears no device
abbrev pub is_write : Effect → Bool
is_write (effect.Writes offset value) = clears_none (register_at offset) value
is_write other = false

pub opening_is : (mode : Mode) (k : ℕ) → is_write (opening_write mode k) ≡ true
unfolding opening_write register_at
opening_is Switching k = all_at is_write (opening_writes Switching) k _ refl refl
opening_is CommandBased k = all_at is_write (opening_writes CommandBased) k _ refl refl

pub kept_stopped : (e : Effect) (old new : Port) (before after : Memory) (dev s : ℕ) (i : Issue) → is_write e ≡ true → old.registers.started ≡ false → dev < 16 → Acts e old before new after → IsTable old.slots
    → IsIssuedAt old dev s i → IsIssuedAt new dev s i
kept_stopped (effect.Writes offset value) old new before after dev s i is stopped below acts table here =
    kept_write (register_at offset) offset value old new before dev s i refl (stopped_fall (register_at offset) old.registers value stopped is) below acts.0 table here
kept_stopped other old new before after dev s i is stopped below acts table here = absurd (false≢true is)

pub out_opening : (mode : Mode) (k : ℕ) (old new : Port) (before after : Memory) (slot dev : ℕ) → old.registers.started ≡ false → dev < 16 → ActsAll (opening_write mode k ∷ []) old before new after → IsTable old.slots → HasOut old slot dev → HasOut new slot dev
unfolding ActsAll
out_opening mode k old new before after slot dev stopped below acts table h =
    let there : IsIssuedAt acts.0 dev slot h.issue = kept_stopped (opening_write mode k) old acts.0 before acts.1 dev slot h.issue (opening_is mode k) stopped below acts.2 table h.is in
    record { issue = h.issue; is = subst (λ (p : Port). IsIssuedAt p dev slot h.issue) (sym acts.4.0) there; pio = h.pio; control = h.control }
