-- For `none_is_stale`. What a step does to the host, to its two links, to the registers of the multiplier and to what
-- the control port says. It is one of a few changes.
use Rattle.std.proofs.Common.{◌≡◌, ◌≢◌, ◌⊎◌, ℕ, ◌==◌, Bool, true, false, List, [], ◌∷◌, ◌++◌, Option, Some, None, Ok, set, refl, sym, ap, subst, ◌∙◌}
use Rattle.std.proofs.{Common.{inl, inr}, lemmas.Bool.{eqb-false, eqb-true}}
use Rattle.std.specs.Prelude.{if◌then◌else◌, is_none, MatchBool, MatchOption}
use Rattle.fis_view.specs.Frames.{Stamped}
use Rattle.hba_fbs.specs.declared.report.TakeReport.{TakeReport}
use Rattle.hba_driver.specs.{HostTurns.{Does, HostTurn, Polled, Pushed, Put, Submitted, Ticked, Took}, Slot31.IsNotice31}
use Rattle.hba_driver.specs.declared.request.Request.{Request}
use Rattle.pm_control.specs.{Answers.{IsAnswer, answer_to_request, registers_after_request}, Requests.request_in}
use Rattle.pm_ports.specs.Port.{came_refusal, gone_refusal}
use Rattle.pm_registers.specs.{Port.{inserted, removed}, RegisterMap.RegisterMap}
use Rattle.pm_registers.specs.RegisterMap as map
use Rattle.multiplier.specs.{Arbiter.control_port, Rules.{FromHostRule, ToControl, ToDevice, ToNobody, ToPort, with_device as connected}}
use Rattle.multiplier.specs.{Rules.without_device, State.{PmState, control_stamp, passes_to, pm_port, port_at}, declared.multiplier.Passed.Passed}
use Rattle.multiplier.specs.Between.{Answer as Answers, FromPort, Gives, Notice}
use Rattle.multiplier.specs.declared.multiplier.Passed.TheVariants as passed
use Rattle.multiplier.proofs.Door.{gives}
use Rattle.pm_world.specs.{Cleared.is_up_from, Places.{Place, Places, Queue}, Rules.{CameRule, DiskSendRule, DiskTakeRule, GoneRule, HostPushRule}}
use Rattle.pm_world.specs.Rules.{HostTakeRule, InjectRule, OnDevice, OnDeviceAndMultiplier, Outcome, PmDownRule, PmFromDeviceRule, PmFromHostRule}
use Rattle.pm_world.specs.Rules.{PmPresenceRule, PmUpRule, PollRule, PutRule, Rule, SubmitRule, TickRule, recorded}
use Rattle.pm_world.specs.{declared.{link.Change.Change as Presence, step.{Step.Step, Answer.Answer}}, Line.is_reply}
use Rattle.pm_world.specs.declared.link.Change.TheVariants as change
use Rattle.pm_world.specs.declared.step.Step.TheVariants as step
use Rattle.pm_world.specs.declared.step.Answer.TheVariants as answer
use Rattle.pm_world.proofs.{steps.Steps.{at_both, at_device}, control_port.LineLemmas.{by_conn, down_waits, from_device_waits, not_reply}}
use Rattle.pm_world.proofs.control_port.{LineLemmas.{notice_no_reply, presence_waits}, SaidLemmas.notice_is}

-- ## The registers

-- the ports are as they were, or a device came to one of them or went from one
abbrev pub IsBank : RegisterMap → RegisterMap → Type 0
IsBank old new =
    (new.ports ≡ old.ports)
    × ((new.bank ≡ old.bank) ⊎ ((k : ℕ) × ((new.bank ≡ set old.bank k (inserted (map.port_at old k))) ⊎ (new.bank ≡ set old.bank k (removed (map.port_at old k))))))

same_bank : (old new : RegisterMap) → new ≡ old → IsBank old new
same_bank old new same = (ap (λ (m : RegisterMap). m.ports) same, inl (ap (λ (m : RegisterMap). m.bank) same))

bank_of : (old new : PmState) → new ≡ old → IsBank old.registers new.registers
bank_of old new same = same_bank old.registers new.registers (ap (λ (pm : PmState). pm.registers) same)

recorded_bank : (pm : PmState) (n : ℕ) (c : Presence) → IsBank pm.registers (recorded pm n c).registers
recorded_bank pm n (change.Came conn) = by_test (is_none (came_refusal (port_at pm n) conn))
  where
    by_test : (b : Bool) → IsBank pm.registers (if b then connected pm n conn else pm).registers
    by_test true = (refl, inr (n, inl refl))
    by_test false = bank_of pm pm refl
recorded_bank pm n (change.Gone conn) = by_test (is_none (gone_refusal (port_at pm n) conn))
  where
    by_test : (b : Bool) → IsBank pm.registers (if b then without_device pm n conn else pm).registers
    by_test true = (refl, inr (n, inr refl))
    by_test false = bank_of pm pm refl

presence_bank : (n : ℕ) (place : Place) (pm : PmState) (a : Answer) (after : Place) (left : PmState) → PmPresenceRule n place pm (Ok a) after left → IsBank pm.registers left.registers
presence_bank n place pm answer.Idle after left acts = bank_of pm left acts.2
presence_bank n place pm (answer.Presence p) after left acts = subst (λ (q : PmState). IsBank pm.registers q.registers) (sym acts.2.2) (recorded_bank pm n acts.2.0)
presence_bank n place pm _ after left acts = absurd acts

from_device_bank : (n : ℕ) (place : Place) (pm : PmState) (a : Answer) (after : Place) (left : PmState) → PmFromDeviceRule n place pm (Ok a) after left → IsBank pm.registers left.registers
from_device_bank n place pm answer.Idle after left acts = bank_of pm left acts.2
from_device_bank n place pm answer.Blocked after left acts = bank_of pm left acts.3
from_device_bank n place pm (answer.Offered p true) after left acts = bank_of pm left acts.2.2.1
from_device_bank n place pm (answer.Offered p false) after left acts = same_bank pm.registers left.registers (ap (λ (q : PmState). q.registers) acts.2.2.2)
from_device_bank n place pm _ after left acts = absurd acts

down_bank : (n : ℕ) (place : Place) (pm : PmState) (a : Answer) (after : Place) (left : PmState) → PmDownRule n place pm (Ok a) after left → IsBank pm.registers left.registers
down_bank n place pm answer.Idle after left acts = bank_of pm left acts.3
down_bank n place pm answer.Blocked after left acts = bank_of pm left acts.2
down_bank n place pm (answer.Down p) after left acts = same_bank pm.registers left.registers (ap (λ (q : PmState). q.registers) acts.2.1.1)
down_bank n place pm _ after left acts = absurd acts

conn_bank : (old new : PmState) (frame : Stamped) (p : Passed) (o : Option ℕ) → MatchOption o (ToNobody old (Ok p) new) (λ conn. ToDevice old (pm_port frame) conn frame (Ok p) new) → IsBank old.registers new.registers
conn_bank old new frame passed.Dropped None acts = same_bank old.registers new.registers (ap (λ (pm : PmState). pm.registers) acts)
conn_bank old new frame _ None acts = absurd acts
conn_bank old new frame (passed.Down m) (Some conn) acts = same_bank old.registers new.registers (ap (λ (pm : PmState). pm.registers) acts.2)
conn_bank old new frame _ (Some conn) acts = absurd acts

-- ## The steps of some answers

-- an answer that is not of a tick, and not of a frame that the host put on its link
abbrev pub IsPlain : Answer → Type 0
IsPlain answer.Ticked = ⊥
IsPlain answer.Pushed = ⊥
IsPlain a = Prim.Unit {0}

-- the driver does something in the step that serves for it
pub tick_step : (old : Places) (s : Step) (new : Places) → Rule old s (Ok answer.Ticked) new → s ≡ step.Tick
tick_step old (step.Came n) new rule = absurd ((at_device old n answer.Ticked new (CameRule n) rule).rule.1)
tick_step old (step.Gone n) new rule = absurd ((at_device old n answer.Ticked new (GoneRule n) rule).rule.1)
tick_step old (step.DiskSend n) new rule = absurd ((at_device old n answer.Ticked new (DiskSendRule n) rule).rule.1)
tick_step old (step.Inject n bytes) new rule = absurd ((at_device old n answer.Ticked new (InjectRule n bytes) rule).rule.1)
tick_step old (step.DiskTake n) new rule = absurd ((at_device old n answer.Ticked new (DiskTakeRule n) rule).rule)
tick_step old (step.PmPresence n) new rule = absurd ((at_both old n answer.Ticked new (PmPresenceRule n) rule).rule)
tick_step old (step.PmFromDevice n) new rule = absurd ((at_both old n answer.Ticked new (PmFromDeviceRule n) rule).rule)
tick_step old (step.PmDown n) new rule = absurd ((at_both old n answer.Ticked new (PmDownRule n) rule).rule)
tick_step old step.Tick new rule = refl
tick_step old other new rule = absurd (rule.0)

-- ## The changes

-- a turn of the host that moves no frame, and is no tick
abbrev pub IsSilent : HostTurn → Type 0
IsSilent (Took frame report) = ⊥
IsSilent (Pushed (Some frame)) = ⊥
IsSilent (Ticked did) = ⊥
IsSilent turn = Prim.Unit {0}

-- the host and the frames on its way down are as they were, and so is the answer that waits
pub record IsAside (old new : Places) : Type 0 where
  pub host : new.host ≡ old.host
  pub down : new.downward.frames ≡ old.downward.frames
  pub bank : IsBank old.multiplier.registers new.multiplier.registers

-- the host has its turn, and the multiplier is as it was
pub record IsOfHost (t : HostTurn) (old new : Places) : Type 0 where
  pub does : Does old.host t new.host
  pub pm : new.multiplier ≡ old.multiplier

pub data Change (old : Places) (s : Step) (a : Answer) (new : Places) : Type 0 where
  -- a device sends, takes, comes or goes
  Stays : IsAside old new → new.multiplier.answer ≡ old.multiplier.answer → new.upward.frames ≡ old.upward.frames → Change old s a new
  -- the control port takes a frame of the host
  Hears : (f : Stamped) → new.host ≡ old.host → old.downward.frames ≡ f ∷ new.downward.frames → pm_port f ≡ control_port
      → new.multiplier.registers ≡ registers_after_request old.multiplier.registers (request_in f.bytes) → old.multiplier.answer ≡ None
      → IsAnswer (answer_to_request old.multiplier.resetting old.multiplier.registers (request_in f.bytes)) (control_stamp old.multiplier) new.multiplier.answer
      → new.upward.frames ≡ old.upward.frames → Change old s a new
  -- another frame of the host passes the multiplier
  Falls : (f : Stamped) → new.host ≡ old.host → old.downward.frames ≡ f ∷ new.downward.frames → pm_port f ≢ control_port → IsBank old.multiplier.registers new.multiplier.registers
      → new.multiplier.answer ≡ old.multiplier.answer → new.upward.frames ≡ old.upward.frames → Change old s a new
  -- a frame of a device, or a notification, goes up
  Rises : (f : Stamped) → IsAside old new → is_reply f ≡ false → (f.stamp.port ≡ control_port → IsNotice31 f.bytes) → ((n : ℕ) → is_up_from n s a ≡ false → (f.stamp.port == n) ≡ false)
      → new.multiplier.answer ≡ old.multiplier.answer → new.upward.frames ≡ old.upward.frames ++ f ∷ [] → Change old s a new
  -- an answer goes up
  Replies : (f : Stamped) → IsAside old new → ((n : ℕ) → is_up_from n s a ≡ false → (f.stamp.port == n) ≡ false)
      → old.multiplier.answer ≡ Some f → new.multiplier.answer ≡ None → new.upward.frames ≡ old.upward.frames ++ f ∷ [] → Change old s a new
  -- the host takes a frame
  Takes : (f : Stamped) (report : TakeReport) → IsOfHost (Took f.bytes report) old new → new.downward.frames ≡ old.downward.frames → old.upward.frames ≡ f ∷ new.upward.frames → Change old s a new
  -- it has another turn
  Turns : (t : HostTurn) → IsSilent t → IsOfHost t old new → new.downward.frames ≡ old.downward.frames → new.upward.frames ≡ old.upward.frames → Change old s a new

module _ (old : Places) (new : Places) where
  -- nothing changes
  still : (s : Step) (a : Answer) → new.host ≡ old.host → new.multiplier ≡ old.multiplier → new.downward.frames ≡ old.downward.frames → new.upward.frames ≡ old.upward.frames → Change old s a new
  still s a host pm down up =
      Stays (record { host = host; down = down; bank = bank_of old.multiplier new.multiplier pm }) (ap (λ (q : PmState). q.answer) pm) up

  device_change : (s : Step) (n : ℕ) (a : Answer) (R : Place → Outcome → Place → Type 0) → OnDevice old n (Ok a) new R → Change old s a new
  device_change s n a R rule =
      let is = (at_device old n a new R rule).new_is in
      still s a (ap (λ (w : Places). w.host) is) (ap (λ (w : Places). w.multiplier) is) (ap (λ (w : Places). w.downward.frames) is) (ap (λ (w : Places). w.upward.frames) is)

  both_change : (s : Step) (n : ℕ) (a : Answer) (R : Place → PmState → Outcome → Place → PmState → Type 0)
      → ((place after : Place) (left : PmState) → R place old.multiplier (Ok a) after left → left.answer ≡ old.multiplier.answer)
      → ((place after : Place) (left : PmState) → R place old.multiplier (Ok a) after left → IsBank old.multiplier.registers left.registers)
      → OnDeviceAndMultiplier old n (Ok a) new R → Change old s a new
  both_change s n a R waits bank rule =
      let at = at_both old n a new R rule in
      Stays (record {
        host = ap (λ (w : Places). w.host) at.new_is;
        down = ap (λ (w : Places). w.downward.frames) at.new_is;
        bank = subst (λ (w : Places). IsBank old.multiplier.registers w.multiplier.registers) (sym at.new_is) (bank at.place at.after at.left at.rule);
      }) (ap (λ (w : Places). w.multiplier.answer) at.new_is ∙ waits at.place at.after at.left at.rule) (ap (λ (w : Places). w.upward.frames) at.new_is)

  -- a frame of the host
  heard_change : (s : Step) (a : Answer) (f : Stamped) (p : Passed) → new.host ≡ old.host → old.downward.frames ≡ f ∷ new.downward.frames → new.upward.frames ≡ old.upward.frames
      → FromHostRule old.multiplier f (Ok p) new.multiplier → Change old s a new
  heard_change s a f p host link up rule = by_port (pm_port f == control_port) refl rule
    where
      control : (q : Passed) → pm_port f ≡ control_port → ToControl old.multiplier f (Ok q) new.multiplier → Change old s a new
      control passed.Control own acts = Hears f host link own (ap (λ (pm : PmState). pm.registers) acts.2) acts.0 acts.1 up
      control _ own acts = absurd acts

      by_port : (b : Bool) → (pm_port f == control_port) ≡ b → MatchBool b (ToControl old.multiplier f (Ok p) new.multiplier) (ToPort old.multiplier f (Ok p) new.multiplier) → Change old s a new
      by_port true is acts = control p (eqb-true (pm_port f) control_port is) acts
      by_port false is acts =
          Falls f host link (eqb-false (pm_port f) control_port is) (conn_bank old.multiplier new.multiplier f p (passes_to old.multiplier (pm_port f)) acts) (by_conn old.multiplier new.multiplier f p (passes_to old.multiplier (pm_port f)) acts) up

  from_host_change : (a : Answer) → Rule old step.PmFromHost (Ok a) new → Change old step.PmFromHost a new
  from_host_change a rule = by_answer a rule.0
    where
      host : new.host ≡ old.host
      host = ap (λ (w : Places). w.host) rule.1

      up : new.upward.frames ≡ old.upward.frames
      up = ap (λ (w : Places). w.upward.frames) rule.1

      by_answer : (b : Answer) → PmFromHostRule old.downward old.multiplier (Ok b) new.downward new.multiplier → Change old step.PmFromHost b new
      by_answer answer.Idle acts = still step.PmFromHost answer.Idle host acts.2 (ap (λ (q : Queue). q.frames) acts.1) up
      by_answer answer.Blocked acts = still step.PmFromHost answer.Blocked host acts.2 (ap (λ (q : Queue). q.frames) acts.1) up
      by_answer (answer.Passed p) acts = heard_change step.PmFromHost (answer.Passed p) acts.0.0 p host acts.0.1 up acts.0.2
      by_answer _ acts = absurd acts

  -- a frame for the host
  up_change : (a : Answer) → Rule old step.PmUp (Ok a) new → Change old step.PmUp a new
  up_change a rule = by_answer a rule.0
    where
      host : new.host ≡ old.host
      host = ap (λ (w : Places). w.host) rule.1

      down : new.downward.frames ≡ old.downward.frames
      down = ap (λ (w : Places). w.downward.frames) rule.1

      aside : IsBank old.multiplier.registers new.multiplier.registers → IsAside old new
      aside bank = record { host = host; down = down; bank = bank }

      by_gives : (k : ℕ) (f : Stamped) → f.stamp.port ≡ k → new.upward.frames ≡ old.upward.frames ++ f ∷ [] → Gives old.multiplier f new.multiplier → Change old step.PmUp (answer.Up k) new
      by_gives k f port link (FromPort m was next other is stamp shown e) =
          Rises f (aside (same_bank old.multiplier.registers new.multiplier.registers (ap (λ (q : PmState). q.registers) e)))
          (not_reply f (λ own. other (sym (ap (λ (g : Stamped). g.stamp.port) shown) ∙ own))) (λ own. absurd (other (sym (ap (λ (g : Stamped). g.stamp.port) shown) ∙ own))) (λ n none. ap (λ (j : ℕ). j == n) port ∙ none)
          (ap (λ (q : PmState). q.answer) e) link
      by_gives k f port link (Notice next due is e) =
          Rises f (aside (ap (λ (q : PmState). q.registers.ports) e, inl (ap (λ (q : PmState). q.registers.bank) e)))
          (notice_no_reply f (notice_is f.bytes is.0)) (λ own. notice_is f.bytes is.0) (λ n none. ap (λ (j : ℕ). j == n) port ∙ none)
          (ap (λ (q : PmState). q.answer) e) link
      by_gives k f port link (Answers next is e) =
          Replies f (aside (same_bank old.multiplier.registers new.multiplier.registers (ap (λ (q : PmState). q.registers) e)))
          (λ n none. ap (λ (j : ℕ). j == n) port ∙ none) is (ap (λ (q : PmState). q.answer) e) link

      by_answer : (b : Answer) → PmUpRule old.multiplier old.upward (Ok b) new.multiplier new.upward → Change old step.PmUp b new
      by_answer answer.Idle acts = still step.PmUp answer.Idle host acts.2 down (ap (λ (q : Queue). q.frames) acts.3)
      by_answer answer.Blocked acts = still step.PmUp answer.Blocked host acts.1 down (ap (λ (q : Queue). q.frames) acts.2)
      by_answer (answer.Up k) acts = by_gives k acts.1.0 acts.1.1 (ap (λ (q : Queue). q.frames) acts.1.3) (gives old.multiplier acts.1.0 new.multiplier acts.1.2)
      by_answer _ acts = absurd acts

  take_change : (a : Answer) → Rule old step.HostTake (Ok a) new → Change old step.HostTake a new
  take_change a rule = by_answer a rule.0
    where
      pm : new.multiplier ≡ old.multiplier
      pm = ap (λ (w : Places). w.multiplier) rule.1

      down : new.downward.frames ≡ old.downward.frames
      down = ap (λ (w : Places). w.downward.frames) rule.1

      by_answer : (b : Answer) → HostTakeRule old.upward old.host (Ok b) new.upward new.host → Change old step.HostTake b new
      by_answer answer.Idle acts = still step.HostTake answer.Idle acts.2 pm down (ap (λ (q : Queue). q.frames) acts.1)
      by_answer (answer.Took port conn number bytes report) acts =
          Takes acts.0.0 report (record { does = subst (λ (b : List ℕ). Does old.host (Took b report) new.host) (sym acts.0.2.bytes_are) acts.2; pm = pm }) down acts.0.1
      by_answer _ acts = absurd acts

  push_change : (a : Answer) → IsPlain a → Rule old step.HostPush (Ok a) new → Change old step.HostPush a new
  push_change a plain rule = by_answer a plain rule.0
    where
      pm : new.multiplier ≡ old.multiplier
      pm = ap (λ (w : Places). w.multiplier) rule.1

      up : new.upward.frames ≡ old.upward.frames
      up = ap (λ (w : Places). w.upward.frames) rule.1

      by_answer : (b : Answer) → IsPlain b → HostPushRule old.host old.downward (Ok b) new.host new.downward → Change old step.HostPush b new
      by_answer answer.Idle plain acts = Turns (Pushed None) tt (record { does = acts.1.0; pm = pm }) (ap (λ (q : Queue). q.frames) acts.2) up
      by_answer answer.Blocked plain acts = still step.HostPush answer.Blocked acts.1 pm (ap (λ (q : Queue). q.frames) acts.2) up
      by_answer answer.Pushed plain acts = absurd plain
      by_answer _ plain acts = absurd acts

  module _ (s : Step) (aside : (new ≡ record old { host = new.host })) where
    host_turn : (a : Answer) (t : HostTurn) → IsSilent t → Does old.host t new.host → Change old s a new
    host_turn a t silent does =
        Turns t silent (record { does = does; pm = ap (λ (w : Places). w.multiplier) aside }) (ap (λ (w : Places). w.downward.frames) aside) (ap (λ (w : Places). w.upward.frames) aside)

    host_still : (a : Answer) → new.host ≡ old.host → Change old s a new
    host_still a host = still s a host (ap (λ (w : Places). w.multiplier) aside) (ap (λ (w : Places). w.downward.frames) aside) (ap (λ (w : Places). w.upward.frames) aside)

    tick_change : (a : Answer) → IsPlain a → TickRule old.host (Ok a) new.host → Change old s a new
    tick_change answer.Idle plain acts = host_still answer.Idle acts.1
    tick_change answer.Ticked plain acts = absurd plain
    tick_change _ plain acts = absurd acts

    submit_change : (dev : ℕ) (request : Request) (a : Answer) → SubmitRule dev request old.host (Ok a) new.host → Change old s a new
    submit_change dev request (answer.Refused e) acts = host_still (answer.Refused e) acts.1
    submit_change dev request (answer.Submitted ticket) acts = host_turn (answer.Submitted ticket) (Submitted dev request ticket.0) tt acts
    submit_change dev request _ acts = absurd acts

    poll_change : (a : Answer) → PollRule old.host (Ok a) new.host → Change old s a new
    poll_change answer.Idle acts = host_still answer.Idle acts.1
    poll_change (answer.Polled completion) acts = host_turn (answer.Polled completion) (Polled completion) tt acts
    poll_change _ acts = absurd acts

    put_change : (at : ℕ) (bytes : List ℕ) (a : Answer) → PutRule at bytes old.host (Ok a) new.host → Change old s a new
    put_change at bytes answer.Put acts = host_turn answer.Put (Put at bytes) tt acts.1
    put_change at bytes _ acts = absurd acts

  -- every other step than a tick that does something, and a step in which the host puts a frame on
  -- its link
  pub plain_change : (s : Step) (a : Answer) → IsPlain a → Rule old s (Ok a) new → Change old s a new
  plain_change (step.Came n) a plain rule = device_change (step.Came n) n a (CameRule n) rule
  plain_change (step.Gone n) a plain rule = device_change (step.Gone n) n a (GoneRule n) rule
  plain_change (step.DiskSend n) a plain rule = device_change (step.DiskSend n) n a (DiskSendRule n) rule
  plain_change (step.Inject n bytes) a plain rule = device_change (step.Inject n bytes) n a (InjectRule n bytes) rule
  plain_change (step.DiskTake n) a plain rule = device_change (step.DiskTake n) n a (DiskTakeRule n) rule
  plain_change (step.PmPresence n) a plain rule =
      both_change (step.PmPresence n) n a (PmPresenceRule n) (λ place after left r. presence_waits n place old.multiplier a after left r) (λ place after left r. presence_bank n place old.multiplier a after left r) rule
  plain_change (step.PmFromDevice n) a plain rule =
      both_change (step.PmFromDevice n) n a (PmFromDeviceRule n) (λ place after left r. from_device_waits n place old.multiplier a after left r) (λ place after left r. from_device_bank n place old.multiplier a after left r) rule
  plain_change (step.PmDown n) a plain rule =
      both_change (step.PmDown n) n a (PmDownRule n) (λ place after left r. down_waits n place old.multiplier a after left r) (λ place after left r. down_bank n place old.multiplier a after left r) rule
  plain_change step.PmFromHost a plain rule = from_host_change a rule
  plain_change step.PmUp a plain rule = up_change a rule
  plain_change step.HostTake a plain rule = take_change a rule
  plain_change step.HostPush a plain rule = push_change a plain rule
  plain_change step.Tick a plain rule = tick_change step.Tick rule.1 a plain rule.0
  plain_change (step.Submit dev request) a plain rule = submit_change (step.Submit dev request) rule.1 dev request a rule.0
  plain_change step.Poll a plain rule = poll_change step.Poll rule.1 a rule.0
  plain_change (step.Put at bytes) a plain rule = put_change (step.Put at bytes) rule.1 at bytes a rule.0
