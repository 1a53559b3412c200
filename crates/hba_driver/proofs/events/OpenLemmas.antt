-- For `hosts_stay_sound`. The registers of a port that its driver opens and starts again: frames leave them, and the
-- port takes each of these writes.
use Rattle.std.proofs.Common.{◌≡◌, ℕ, zero, suc, ◌+◌, ◌<◌, ◌≤◌, Bool, true, false, ◌&&◌, nat_lt, List, refl, sym, ◌∙◌, ap, subst, inl, inr, arith}
use Rattle.std.proofs.{Common.{Option, Some, None}, lemmas.Bool.{cases_Bool, false≢true, true≢false}}
use Rattle.std.specs.{Prelude.{◌||◌, ◌==◌, if◌then◌else◌, not, MatchOption}, Bool.beq, Option.option_or}
use Rattle.fis_view.specs.{Frames.Stamped, Seen.seen, declared.view.Fis.Fis}
use Rattle.fis_view.specs.declared.view.Fis.TheVariants as view
use Rattle.host_memory.specs.Memory.{Memory}
use Rattle.slots.specs.Slots.{has_bit}
use Rattle.hba_fbs.specs.declared.{error.WriteError.WriteError, hearing.Heard.Heard, register.Register.{Register, TheVariants.{Clb, Clbu, Fb, Fbu}}}
use Rattle.hba_fbs.specs.declared.{register.Register.TheVariants.{Is, Cmd, Fbs}, registers.Registers.Registers, report.TakeReport.TakeReport}
use Rattle.hba_fbs.specs.{Offsets.register_at, Posting.posted, Registers.{cmd_refusal, falls, is_area_outside, is_list_outside, own_refusal}}
use Rattle.hba_fbs.specs.{Registers.{running_if, written}, Sending.{Gives, Nothing, Outgoing, Unreadable}, Taking.{admitted, heard_now, ignores}}
use Rattle.hba_fbs.specs.{Taking.{port_of, posted_of, settled}, Views.{Port, view_of}, Writing.{Accepts, refusal_of, slots_refusal, write_refusal}}
use Rattle.hba_fbs.specs.declared.error.WriteError.TheVariants as refusal
use Rattle.hba_driver.specs.{declared.mode.Mode.{Mode, TheVariants.{Switching, CommandBased}}, Accepted.IsAccepted, Effects.{Acts, Tries}}
use Rattle.hba_driver.specs.{Effects.{opening_write, restart_write}, Events.AreDriven, HostTurns.{Does, Host, Took}, Modes.{enabled, is_switching}}
use Rattle.hba_driver.specs.Between.{IsUpIn}
use Rattle.hba_driver.proofs.events.DrivenLemmas.{past, refusal_is}

-- ---- what the registers are

pub up_of : {mode : Mode} (n m : ℕ) (r : Registers) → 7 ≤ n → 2 ≤ m → AreDriven mode n m r → IsUpIn mode r
up_of n m r least done d = record {
  list = d.commands;
  list_high = d.list_high (omega (arith, least));
  area_high = d.area_high (omega (arith, least));
  switches = d.switches (omega (arith, least));
  receives = d.receives (omega (arith, least));
  starts = d.starts least done;
}

-- ---- what frames leave of them

pub record Stays (r s : Registers) : Type 0 where
  pub list : s.clb ≡ r.clb
  pub list_high : s.clbu ≡ r.clbu
  pub area : s.fb ≡ r.fb
  pub area_high : s.fbu ≡ r.fbu
  pub switches : s.switching ≡ r.switching
  pub receives : s.receives ≡ r.receives
  pub starts : s.started ≡ r.started
  -- the bits of PxSACT that wait for their commands stay too
  pub armed : s.armed ≡ r.armed

stays_same : (r s : Registers) → s ≡ r → Stays r s
stays_same r s is = record {
  list = ap (λ (x : Registers). x.clb) is;
  list_high = ap (λ (x : Registers). x.clbu) is;
  area = ap (λ (x : Registers). x.fb) is;
  area_high = ap (λ (x : Registers). x.fbu) is;
  switches = ap (λ (x : Registers). x.switching) is;
  receives = ap (λ (x : Registers). x.receives) is;
  starts = ap (λ (x : Registers). x.started) is;
  armed = ap (λ (x : Registers). x.armed) is;
}

pub stays_driven : {mode : Mode} (n m : ℕ) (r s : Registers) → Stays r s → AreDriven mode n m r → AreDriven mode n m s
stays_driven n m r s k d = record {
  commands = k.list ∙ d.commands;
  list_high = λ h. k.list_high ∙ d.list_high h;
  area = λ h. k.area ∙ d.area h;
  area_high = λ h. k.area_high ∙ d.area_high h;
  switches = λ h. k.switches ∙ d.switches h;
  closed = λ h. k.receives ∙ d.closed h;
  receives = λ h. k.receives ∙ d.receives h;
  stopped = λ h. k.starts ∙ d.stopped h;
  starts = λ h g. k.starts ∙ d.starts h g;
}

stays_posted : (r : Registers) (dev : ℕ) (b : Bool) (fis : Option Fis) → Stays r (posted_of r dev b fis)
unfolding posted
stays_posted r dev b None = stays_same r r refl
stays_posted r dev b (Some (view.RegH2D f)) = stays_same r r refl
stays_posted r dev b other = record { list = refl; list_high = refl; area = refl; area_high = refl; switches = refl; receives = refl; starts = refl; armed = refl }

stays_settled : (r : Registers) (dev : ℕ) (b : Bool) (fis : Option Fis) (h : Heard) → Stays r (settled (posted_of r dev b fis) h)
unfolding settled
stays_settled r dev b fis h =
    let k : Stays r (posted_of r dev b fis) = stays_posted r dev b fis in
    record { list = k.list; list_high = k.list_high; area = k.area; area_high = k.area_high; switches = k.switches; receives = k.receives; starts = k.starts; armed = k.armed }

pub stays_port : (p q : Port) → q ≡ p → Stays p.registers q.registers
stays_port p q is = stays_same p.registers q.registers (ap (λ (x : Port). x.registers) is)

pub stays_gives : (o : Outgoing) (old : Port) (memory : Memory) (frame : Option Stamped) (new : Port) → Gives o old memory frame new → Stays old.registers new.registers
stays_gives Nothing old memory frame new gives = stays_port old new gives.1
stays_gives (Unreadable dev) old memory frame new gives =
    subst (Stays old.registers) (sym (ap (λ (p : Port). p.registers) gives.1))
    (record { list = refl; list_high = refl; area = refl; area_high = refl; switches = refl; receives = refl; starts = refl; armed = refl })
stays_gives other old memory None new gives = absurd gives
stays_gives rest old memory (Some f) new gives = stays_same old.registers new.registers gives.registers

pub stays_took : (old new : Host) (frame : List ℕ) (report : TakeReport) → Does old (Took frame report) new → Stays old.port.registers new.port.registers
stays_took old new frame report h =
    let dev : ℕ = port_of frame in
    let fis : Option Fis = admitted dev (seen frame) in
    elim (cases_Bool (ignores dev old.port frame)) [
      | inl skip ↦ stays_port old.port new.port (h.ignored skip).port
      | inr heard ↦
          subst (Stays old.port.registers) (sym (h.heard heard).registers) (stays_settled old.port.registers dev (view_of dev old.port).state.resetting fis (heard_now old.port old.memory dev fis))
    ]

-- ---- a write that is not refused

pub taken : (register : Register) (offset value : ℕ) (old new : Port) (memory : Memory) → register_at offset ≡ Some register → refusal_of register old memory value ≡ None → Tries old memory offset value new
    → Accepts old memory register value new
taken register offset value old new memory at free tries =
    subst (λ (o : Option Register). MatchOption o ⊥ (λ (g : Register). Accepts old memory g value new)) at (tries.accepted (refusal_is register offset value old memory at ∙ free))

-- ---- the writes that open the port, and start it again

-- such a write is not refused; the registers are then as after one more write, and it sets no bit of PxSACT
abbrev Step : Mode → (offset value n m : ℕ) → (old new : Port) → Memory → Type 0
Step mode offset value n m old new memory = (write_refusal old memory offset value ≡ None) × AreDriven mode n m new.registers × (old.registers.armed ≡ 0 → new.registers.armed ≡ 0)

step : (mode : Mode) (register : Register) (offset value n m : ℕ) (old new : Port) (memory : Memory) → register_at offset ≡ Some register → refusal_of register old memory value ≡ None → Tries old memory offset value new
    → AreDriven mode n m (written register old.registers value) → (old.registers.armed ≡ 0 → (written register old.registers value).armed ≡ 0) → Step mode offset value n m old new memory
step mode register offset value n m old new memory at free tries next unarmed =
    let accepts : Accepts old memory register value new = taken register offset value old new memory at free tries in
    (refusal_is register offset value old memory at ∙ free, subst (AreDriven mode n m) (sym accepts.registers) next, λ none. ap (λ (r : Registers). r.armed) accepts.registers ∙ unarmed none)

idle : (b : Bool) → b ≡ false → option_or (running_if b) None ≡ None
idle true h = absurd (true≢false h)
idle false h = refl

idle_and : (b c : Bool) → b ≡ false → option_or (running_if (b && c)) None ≡ None
idle_and true c h = absurd (true≢false h)
idle_and false c h = refl

inside : (a b : ℕ) → a ≡ 0 → nat_lt 1048576 b ≡ false → (not (a == 0) || nat_lt 1048576 b) ≡ false
inside a b h k = ap (λ (x : ℕ). not (x == 0) || nat_lt 1048576 b) h ∙ k

area_inside : (r : Registers) → r.fbu ≡ 0 → r.fb ≡ 4096 → is_area_outside r ≡ false
area_inside r h k = inside r.fbu (r.fb + 4096) h (ap (λ (x : ℕ). nat_lt 1048576 (x + 4096)) k)

list_inside : (r : Registers) → r.clbu ≡ 0 → r.clb ≡ 0 → is_list_outside r ≡ false
list_inside r h k = inside r.clbu (r.clb + 1024) h (ap (λ (x : ℕ). nat_lt 1048576 (x + 1024)) k)

abbrev cmd_test : (starts wants receives area started list : Bool) → Option WriteError
cmd_test starts wants receives area started list =
    if receives && not wants && starts then Some refusal.Running
    else if wants && not receives && area then Some refusal.BadTable
    else if starts && not started && (not wants || list) then Some refusal.BadTable
    else None

fre_test : (receives area started list : Bool) → receives ≡ false → area ≡ false → cmd_test false true receives area started list ≡ None
fre_test true area started list h k = absurd (true≢false h)
fre_test false true started list h k = absurd (true≢false k)
fre_test false false started list h k = refl

st_test : (receives area started list : Bool) → receives ≡ true → list ≡ false → cmd_test true true receives area started list ≡ None
st_test false area started list h k = absurd (false≢true h)
st_test true area started true h k = absurd (true≢false k)
st_test true area true false h k = refl
st_test true area false false h k = refl

cmd_is : (r : Registers) (starts wants : Bool) → cmd_refusal r starts wants ≡ cmd_test starts wants r.receives (is_area_outside r) r.started (is_list_outside r)
unfolding cmd_refusal
cmd_is r starts wants = refl

pub zero_either : (b : Bool) (n : ℕ) → n ≡ 0 → (if b then 0 else n) ≡ 0
zero_either true n h = refl
zero_either false n h = h

or_none : (o : Option WriteError) → o ≡ None → option_or o None ≡ None
or_none None h = refl
or_none (Some e) h = h

-- EN as it is written when the port opens
en_opened : (mode : Mode) → has_bit (enabled mode) 0 ≡ is_switching mode
en_opened Switching = refl
en_opened CommandBased = refl

pub opens_taken : (mode : Mode) (k m : ℕ) → k < 7 → (old new : Port) (before after : Memory) → Acts (opening_write mode k) old before new after → AreDriven mode k m old.registers
    → IsAccepted (opening_write mode k) old before × AreDriven mode (k + 1) m new.registers × (old.registers.armed ≡ 0 → new.registers.armed ≡ 0)
unfolding opening_write register_at written own_refusal slots_refusal
opens_taken mode zero m less old new before after acts d =
    step mode Clb 0 0 1 m old new before refl (idle old.registers.started (d.stopped (omega arith))) acts.0
    (record {
      commands = refl;
      list_high = past 2 1 refl;
      area = past 3 1 refl;
      area_high = past 4 1 refl;
      switches = past 5 1 refl;
      closed = λ h. d.closed (omega arith);
      receives = past 6 1 refl;
      stopped = λ h. d.stopped (omega arith);
      starts = past 7 1 refl;
    }) (λ none. none)
opens_taken mode (suc zero) m less old new before after acts d =
    step mode Clbu 4 0 2 m old new before refl (idle old.registers.started (d.stopped (omega arith))) acts.0
    (record {
      commands = d.commands;
      list_high = λ h. refl;
      area = past 3 2 refl;
      area_high = past 4 2 refl;
      switches = past 5 2 refl;
      closed = λ h. d.closed (omega arith);
      receives = past 6 2 refl;
      stopped = λ h. d.stopped (omega arith);
      starts = past 7 2 refl;
    }) (λ none. none)
opens_taken mode (suc (suc zero)) m less old new before after acts d =
    step mode Fb 8 4096 3 m old new before refl (idle old.registers.receives (d.closed (omega arith))) acts.0
    (record {
      commands = d.commands;
      list_high = λ h. d.list_high (omega arith);
      area = λ h. refl;
      area_high = past 4 3 refl;
      switches = past 5 3 refl;
      closed = λ h. d.closed (omega arith);
      receives = past 6 3 refl;
      stopped = λ h. d.stopped (omega arith);
      starts = past 7 3 refl;
    }) (λ none. none)
opens_taken mode (suc (suc (suc zero))) m less old new before after acts d =
    step mode Fbu 12 0 4 m old new before refl (idle old.registers.receives (d.closed (omega arith))) acts.0
    (record {
      commands = d.commands;
      list_high = λ h. d.list_high (omega arith);
      area = λ h. d.area (omega arith);
      area_high = λ h. refl;
      switches = past 5 4 refl;
      closed = λ h. d.closed (omega arith);
      receives = past 6 4 refl;
      stopped = λ h. d.stopped (omega arith);
      starts = past 7 4 refl;
    }) (λ none. none)
opens_taken mode (suc (suc (suc (suc zero)))) m less old new before after acts d =
    step mode Fbs 64 (enabled mode) 5 m old new before refl (idle_and old.registers.started (not (beq (has_bit (enabled mode) 0) old.registers.switching)) (d.stopped (omega arith))) acts.0
    (record {
      commands = d.commands;
      list_high = λ h. d.list_high (omega arith);
      area = λ h. d.area (omega arith);
      area_high = λ h. d.area_high (omega arith);
      switches = λ h. en_opened mode;
      closed = λ h. d.closed (omega arith);
      receives = past 6 5 refl;
      stopped = λ h. d.stopped (omega arith);
      starts = past 7 5 refl;
    }) (λ none. none)
opens_taken mode (suc (suc (suc (suc (suc zero))))) m less old new before after acts d =
    let r : Registers = old.registers in
    let free : cmd_refusal r false true ≡ None =
    cmd_is r false true ∙ fre_test r.receives (is_area_outside r) r.started (is_list_outside r) (d.closed (omega arith)) (area_inside r (d.area_high (omega arith)) (d.area (omega arith))) in
    step mode Cmd 24 16 6 m old new before refl (or_none (cmd_refusal r false true) free) acts.0
    (record {
      commands = d.commands;
      list_high = λ h. d.list_high (omega arith);
      area = λ h. d.area (omega arith);
      area_high = λ h. d.area_high (omega arith);
      switches = λ h. d.switches (omega arith);
      closed = past 6 5 refl;
      receives = λ h. refl;
      stopped = λ h. refl;
      starts = past 7 6 refl;
    }) (zero_either (falls r 16) r.armed)
opens_taken mode (suc (suc (suc (suc (suc (suc zero)))))) m less old new before after acts d =
    let r : Registers = old.registers in
    let free : cmd_refusal r true true ≡ None =
    cmd_is r true true ∙ st_test r.receives (is_area_outside r) r.started (is_list_outside r) (d.receives (omega arith)) (list_inside r (d.list_high (omega arith)) d.commands) in
    step mode Cmd 24 131089 7 m old new before refl (or_none (cmd_refusal r true true) free) acts.0
    (record {
      commands = d.commands;
      list_high = λ h. d.list_high (omega arith);
      area = λ h. d.area (omega arith);
      area_high = λ h. d.area_high (omega arith);
      switches = λ h. d.switches (omega arith);
      closed = past 7 5 refl;
      receives = λ h. refl;
      stopped = past 7 6 refl;
      starts = λ h g. refl;
    }) (zero_either (falls r 131089) r.armed)
opens_taken mode (suc (suc (suc (suc (suc (suc (suc k))))))) m less old new before after acts d = absurd (omega (arith, less))

pub restart_taken : (mode : Mode) (k n : ℕ) → k < 2 → 7 ≤ n → (old new : Port) (before after : Memory) → Acts (restart_write k) old before new after → AreDriven mode n k old.registers
    → IsAccepted (restart_write k) old before × AreDriven mode n (k + 1) new.registers × (old.registers.armed ≡ 0 → new.registers.armed ≡ 0)
unfolding restart_write register_at written own_refusal slots_refusal
restart_taken mode zero n less least old new before after acts d =
    step mode Is 16 4294967295 n 1 old new before refl refl acts.0
    (record {
      commands = d.commands;
      list_high = d.list_high;
      area = d.area;
      area_high = d.area_high;
      switches = d.switches;
      closed = d.closed;
      receives = d.receives;
      stopped = d.stopped;
      starts = λ h. past 2 1 refl;
    }) (λ none. none)
restart_taken mode (suc zero) n less least old new before after acts d =
    let r : Registers = old.registers in
    let free : cmd_refusal r true true ≡ None =
    cmd_is r true true
    ∙ st_test r.receives (is_area_outside r) r.started (is_list_outside r) (d.receives (omega (arith, least))) (list_inside r (d.list_high (omega (arith, least))) d.commands) in
    step mode Cmd 24 131089 n 2 old new before refl (or_none (cmd_refusal r true true) free) acts.0
    (record {
      commands = d.commands;
      list_high = d.list_high;
      area = d.area;
      area_high = d.area_high;
      switches = d.switches;
      closed = λ h. absurd (omega (arith, least, h));
      receives = λ h. refl;
      stopped = λ h. absurd (omega (arith, least, h));
      starts = λ h g. refl;
    }) (zero_either (falls r 131089) r.armed)
restart_taken mode (suc (suc k)) n less least old new before after acts d = absurd (omega (arith, less))
