-- For `disks_are_honest`. A port that passed a FIS of its device stays open to the device until it is unplugged.
-- Meanwhile the host does not flush the device.
use Rattle.std.proofs.Common.{◌≡◌, ◌≢◌, ◌==◌, ℕ, ◌+◌, ◌%◌, ◌<◌, min, Bool, true, false, List, [], ◌∷◌, ◌++◌, length, refl, sym, ap, subst, ◌∙◌, inl}
use Rattle.std.proofs.{Common.{inr, get_or, set, bit_and, Option, Some, None, Ok, arith}, lemmas.Bool.{cases_eq, eqb-true, eq-eqb, true≢false}}
use Rattle.std.proofs.lemmas.{Nat.Bits.{bit_at-lt, bit_at_and, bit_at_xor}, Option.same_Some}
use Rattle.std.specs.{Int.bit_at, Prelude.{◌⊎◌, if◌then◌else◌, is_none, slice_get, MatchBool, MatchOption}}
use Rattle.fis_view.specs.Frames.{Stamped}
use Rattle.pm_registers.specs.{Bits.without, declared.port.PortRegisters.PortRegisters, Port.{controlled, inserted, is_open, opened, opening_port}}
use Rattle.pm_registers.specs.{Port.{port_written, removed}, RegisterMap.RegisterMap}
use Rattle.pm_registers.specs.RegisterMap as map
use Rattle.pm_control.specs.{Answers.registers_after_request, Requests.request_in, declared.request.Request.{Request, TheVariants.Write}}
use Rattle.pm_ports.specs.Port.{came_refusal, gone_refusal}
use Rattle.multiplier.specs.{Arbiter.control_port, Rules.{FromHostRule, ToControl, ToDevice, ToNobody, ToPort, with_device as connected}}
use Rattle.multiplier.specs.{Rules.without_device, State.{PmState, passes_to, pm_port, port_at}, declared.multiplier.Passed.Passed}
use Rattle.multiplier.specs.Between.{Answer as Answers, FromPort, Gives, Notice}
use Rattle.multiplier.specs.declared.multiplier.Passed.TheVariants as passed
use Rattle.multiplier.proofs.Door.{gives}
use Rattle.pm_world.specs.{Downward.times, Resting.IsAtRest, Links.{changed_by, is_recorded, on_presence}, Places.{IsOrderly, Place, Places, Queue}}
use Rattle.pm_world.specs.Rules.{CameRule, DiskSendRule, DiskTakeRule, GoneRule, InjectRule, OnDevice, Outcome, PmDownRule, PmFromDeviceRule}
use Rattle.pm_world.specs.{Rules.{PmFromHostRule, PmPresenceRule, PmUpRule, Rule, recorded}, PathEnds.{AreBefore, IsUnremoved, unplugs}}
use Rattle.pm_world.specs.declared.{link.Change.Change, step.{Step.Step, Answer.Answer}}
use Rattle.pm_world.specs.declared.link.Change.TheVariants as change
use Rattle.pm_world.specs.declared.step.Step.TheVariants as step
use Rattle.pm_world.specs.declared.step.Answer.TheVariants as answer
use Rattle.pm_world.proofs.{cleared.Cleared.{Told, set_keeps, write_keeps}, ports.FirmLemmas.{IsFirm, seen_at}, honest.FlushLemmas.x_set}
use Rattle.pm_world.proofs.{paths.KeptLemmas.{GoesBefore, unremoved_after}, meant.{OrderLemmas.{Knows, Only}, PortLemmas.WritesChanges}}
use Rattle.pm_world.proofs.{upward.Recorded.{AreLetIn, Known, Records, all, rule_records}, paths.RunLemmas.going, steps.Steps.{at_both, at_device}}

-- ## The registers of a port

-- the port is open to a device, and bit X of its PSCR[1] is 0
pub record IsOpenTo (p : PortRegisters) : Type 0 where
  pub opens : is_open p ≡ true
  pub there : p.present ≡ true
  pub clear : bit_at p.error 26 ≡ 0

without_clear : (error value : ℕ) → bit_at error 26 ≡ 0 → bit_at (without error value) 26 ≡ 0
without_clear error value none =
    let both : bit_at (bit_and error value) 26 ≡ min (bit_at error 26) (bit_at value 26) = bit_at_and error value 26 in
    let rest : bit_at (without error value) 26 ≡ (bit_at error 26 + bit_at (bit_and error value) 26) % 2 = bit_at_xor error (bit_and error value) 26 in
    omega (arith, both, rest, none)

controlled_open : (p : PortRegisters) (value : ℕ) → value ≡ 0 → IsOpenTo p → IsOpenTo (controlled p value)
controlled_open p value none is = subst (λ (v : ℕ). IsOpenTo (controlled p v)) (sym none) (by_open (is_open p) is.opens)
  where
    by_open : (b : Bool) → b ≡ true → IsOpenTo (if b then record p { control = 0 } else opened (record p { control = 0 }))
    by_open true e = record { opens = refl; there = is.there; clear = is.clear }
    by_open false e = absurd (true≢false (sym e))

written_open : (p : PortRegisters) (register value : ℕ) → (register ≡ 2 → value ≡ 0) → IsOpenTo p → IsOpenTo (port_written p register value)
written_open p register value none is = by_first (register == 1)
  where
    by_second : (b : Bool) → (register == 2) ≡ b → IsOpenTo (if b then controlled p value else p)
    by_second true so = controlled_open p value (none (eqb-true register 2 so)) is
    by_second false so = is

    by_first : (b : Bool) → IsOpenTo (if b then record p { error = without p.error value } else if register == 2 then controlled p value else p)
    by_first true = record { opens = is.opens; there = is.there; clear = without_clear p.error value is.clear }
    by_first false = by_second (register == 2) refl

-- ## The registers of the multiplier

abbrev pub IsOpenAt : ℕ → RegisterMap → Type 0
IsOpenAt n m = IsOpenTo (map.port_at m n)

request_open : (n : ℕ) (m : RegisterMap) (request : Option Request) → WritesChanges request → IsOpenAt n m → IsOpenAt n (registers_after_request m request)
request_open n m (Some (Write at value)) plain is =
    write_keeps IsOpenTo m n at.port at.register value (λ here was. written_open (map.port_at m at.port) at.register value plain.1 was) is
request_open n m other plain is = is

bank_open : (n : ℕ) (m new : RegisterMap) → new.bank ≡ m.bank → IsOpenAt n m → IsOpenAt n new
bank_open n m new same is = subst (λ (l : List PortRegisters). IsOpenTo (get_or l n opening_port)) (sym same) is

set_open : (n k : ℕ) (m : RegisterMap) (bank : List PortRegisters) (q : PortRegisters) → n ≢ k → IsOpenTo (get_or bank n opening_port)
    → IsOpenTo (get_or (set bank k q) n opening_port)
set_open n k m bank q other is = set_keeps IsOpenTo bank k q opening_port n (λ same here. absurd (other same)) is

recorded_open : (n k : ℕ) (pm : PmState) (c : Change) → n ≢ k → IsOpenAt n pm.registers → IsOpenAt n (recorded pm k c).registers
recorded_open n k pm (change.Came conn) other is = by_test (is_none (came_refusal (port_at pm k) conn))
  where
    by_test : (b : Bool) → IsOpenAt n (if b then connected pm k conn else pm).registers
    by_test true = set_open n k pm.registers pm.registers.bank (inserted (map.port_at pm.registers k)) other is
    by_test false = is
recorded_open n k pm (change.Gone conn) other is = by_test (is_none (gone_refusal (port_at pm k) conn))
  where
    by_test : (b : Bool) → IsOpenAt n (if b then without_device pm k conn else pm).registers
    by_test true = set_open n k pm.registers pm.registers.bank (removed (map.port_at pm.registers k)) other is
    by_test false = is

-- ## A step

same_open : (n : ℕ) (pm left : PmState) → left ≡ pm → IsOpenAt n pm.registers → IsOpenAt n left.registers
same_open n pm left same is = subst (λ (q : PmState). IsOpenAt n q.registers) (sym same) is

presence_open : (n k : ℕ) (place : Place) (pm : PmState) (a : Answer) (after : Place) (left : PmState) → PmPresenceRule k place pm (Ok a) after left
    → is_recorded n a ≡ false → IsOpenAt n pm.registers → IsOpenAt n left.registers
presence_open n k place pm answer.Idle after left acts none is = same_open n pm left acts.2 is
presence_open n k place pm (answer.Presence p) after left acts none is =
    subst (λ (q : PmState). IsOpenAt n q.registers) (sym acts.2.2)
    (recorded_open n k pm acts.2.0 (λ same. true≢false (sym (eq-eqb p n (acts.0 ∙ sym same)) ∙ none)) is)
presence_open n k place pm _ after left acts none is = absurd acts

from_device_open : (n k : ℕ) (place : Place) (pm : PmState) (a : Answer) (after : Place) (left : PmState) → PmFromDeviceRule k place pm (Ok a) after left
    → IsOpenAt n pm.registers → IsOpenAt n left.registers
from_device_open n k place pm answer.Idle after left acts is = same_open n pm left acts.2 is
from_device_open n k place pm answer.Blocked after left acts is = same_open n pm left acts.3 is
from_device_open n k place pm (answer.Offered p true) after left acts is = same_open n pm left acts.2.2.1 is
from_device_open n k place pm (answer.Offered p false) after left acts is =
    bank_open n pm.registers left.registers (ap (λ (q : PmState). q.registers.bank) acts.2.2.2) is
from_device_open n k place pm _ after left acts is = absurd acts

down_open : (n k : ℕ) (place : Place) (pm : PmState) (a : Answer) (after : Place) (left : PmState) → PmDownRule k place pm (Ok a) after left
    → IsOpenAt n pm.registers → IsOpenAt n left.registers
down_open n k place pm answer.Idle after left acts is = same_open n pm left acts.3 is
down_open n k place pm answer.Blocked after left acts is = same_open n pm left acts.2 is
down_open n k place pm (answer.Down p) after left acts is =
    bank_open n pm.registers left.registers (ap (λ (q : PmState). q.registers.bank) acts.2.1.1) is
down_open n k place pm _ after left acts is = absurd acts

gives_open : (n : ℕ) (pm : PmState) (frame : Stamped) (left : PmState) → Gives pm frame left → IsOpenAt n pm.registers → IsOpenAt n left.registers
gives_open n pm frame left (FromPort k was next other is stamp up e) = bank_open n pm.registers left.registers (ap (λ (q : PmState). q.registers.bank) e)
gives_open n pm frame left (Notice next due is e) = bank_open n pm.registers left.registers (ap (λ (q : PmState). q.registers.bank) e)
gives_open n pm frame left (Answers next is e) = bank_open n pm.registers left.registers (ap (λ (q : PmState). q.registers.bank) e)

up_open : (n : ℕ) (pm : PmState) (upward : Queue) (a : Answer) (left : PmState) (new : Queue) → PmUpRule pm upward (Ok a) left new
    → IsOpenAt n pm.registers → IsOpenAt n left.registers
up_open n pm upward answer.Idle left new acts = same_open n pm left acts.2
up_open n pm upward answer.Blocked left new acts = same_open n pm left acts.1
up_open n pm upward (answer.Up k) left new acts = gives_open n pm acts.1.0 left (gives pm acts.1.0 left acts.1.2)
up_open n pm upward _ left new acts = absurd acts

-- the multiplier takes a frame of the host
module _ (n : ℕ) (old : PmState) (frame : Stamped) (new : PmState) (writes : pm_port frame ≡ control_port → WritesChanges (request_in frame.bytes))
    (is : IsOpenAt n old.registers) where
  control_open : (p : Passed) → pm_port frame ≡ control_port → ToControl old frame (Ok p) new → IsOpenAt n new.registers
  control_open passed.Control own acts =
      subst (IsOpenAt n) (sym (ap (λ (q : PmState). q.registers) acts.2)) (request_open n old.registers (request_in frame.bytes) (writes own) is)
  control_open _ own acts = absurd acts

  device_open : (k conn : ℕ) (p : Passed) → ToDevice old k conn frame (Ok p) new → IsOpenAt n new.registers
  device_open k conn (passed.Down m) acts = bank_open n old.registers new.registers (ap (λ (q : PmState). q.registers.bank) acts.2) is
  device_open k conn _ acts = absurd acts

  nobody_open : (p : Passed) → ToNobody old (Ok p) new → IsOpenAt n new.registers
  nobody_open passed.Dropped acts = bank_open n old.registers new.registers (ap (λ (q : PmState). q.registers.bank) acts) is
  nobody_open _ acts = absurd acts

  heard_open : (p : Passed) → FromHostRule old frame (Ok p) new → IsOpenAt n new.registers
  heard_open p rule = by_port (pm_port frame == control_port) refl rule
    where
      by_conn : (o : Option ℕ) → MatchOption o (ToNobody old (Ok p) new) (λ conn. ToDevice old (pm_port frame) conn frame (Ok p) new) → IsOpenAt n new.registers
      by_conn None acts = nobody_open p acts
      by_conn (Some conn) acts = device_open (pm_port frame) conn p acts

      by_port : (b : Bool) → (pm_port frame == control_port) ≡ b → MatchBool b (ToControl old frame (Ok p) new) (ToPort old frame (Ok p) new)
          → IsOpenAt n new.registers
      by_port true so acts = control_open p (eqb-true (pm_port frame) control_port so) acts
      by_port false so acts = by_conn (passes_to old (pm_port frame)) acts

from_host_open : (n : ℕ) (old new : Places) (a : Answer) → PmFromHostRule old.downward old.multiplier (Ok a) new.downward new.multiplier
    → Only (λ f. WritesChanges (request_in f.bytes)) old.downward.frames → IsOpenAt n old.multiplier.registers → IsOpenAt n new.multiplier.registers
from_host_open n old new answer.Idle acts writes is = same_open n old.multiplier new.multiplier acts.2 is
from_host_open n old new answer.Blocked acts writes is = same_open n old.multiplier new.multiplier acts.2 is
from_host_open n old new (answer.Passed p) acts writes is =
    heard_open n old.multiplier acts.0.0 new.multiplier
    (subst (Only (λ (f : Stamped). WritesChanges (request_in f.bytes))) acts.0.1 writes).0 is p acts.0.2
from_host_open n old new _ acts writes is = absurd acts

module _ (n : ℕ) (old : Places) (a : Answer) (new : Places) (none : is_recorded n a ≡ false)
    (writes : Only (λ (f : Stamped). WritesChanges (request_in f.bytes)) old.downward.frames) (is : IsOpenAt n old.multiplier.registers) where
  at_one : (k : ℕ) (R : Place → Outcome → Place → Type 0) → OnDevice old k (Ok a) new R → IsOpenAt n new.multiplier.registers
  at_one k R rule = subst (λ (w : Places). IsOpenAt n w.multiplier.registers) (sym (at_device old k a new R rule).new_is) is

  rests : new.multiplier ≡ old.multiplier → IsOpenAt n new.multiplier.registers
  rests same = same_open n old.multiplier new.multiplier same is

  pub rule_open : (s : Step) → Rule old s (Ok a) new → IsOpenAt n new.multiplier.registers
  rule_open (step.Came k) rule = at_one k (CameRule k) rule
  rule_open (step.Gone k) rule = at_one k (GoneRule k) rule
  rule_open (step.DiskSend k) rule = at_one k (DiskSendRule k) rule
  rule_open (step.Inject k bytes) rule = at_one k (InjectRule k bytes) rule
  rule_open (step.DiskTake k) rule = at_one k (DiskTakeRule k) rule
  rule_open (step.PmPresence k) rule =
      let p = at_both old k a new (PmPresenceRule k) rule in
      subst (λ (w : Places). IsOpenAt n w.multiplier.registers) (sym p.new_is) (presence_open n k p.place old.multiplier a p.after p.left p.rule none is)
  rule_open (step.PmFromDevice k) rule =
      let p = at_both old k a new (PmFromDeviceRule k) rule in
      subst (λ (w : Places). IsOpenAt n w.multiplier.registers) (sym p.new_is) (from_device_open n k p.place old.multiplier a p.after p.left p.rule is)
  rule_open (step.PmDown k) rule =
      let p = at_both old k a new (PmDownRule k) rule in
      subst (λ (w : Places). IsOpenAt n w.multiplier.registers) (sym p.new_is) (down_open n k p.place old.multiplier a p.after p.left p.rule is)
  rule_open step.PmFromHost rule = from_host_open n old new a rule.0 writes is
  rule_open step.PmUp rule = up_open n old.multiplier old.upward a new.multiplier new.upward rule.0 is
  rule_open other rule = rests (ap (λ (w : Places). w.multiplier) rule.1)

-- ## What is recorded

before_both : (c : ℕ) (xs ys : List Change) → AreBefore c xs → AreBefore c ys → AreBefore c (xs ++ ys)
before_both c [] ys h more = more
before_both c (x ∷ xs) ys h more = (h.0, before_both c xs ys h.1 more)

-- no removal of the connection that is present is among these changes, so none is recorded
none_read : (c : ℕ) (read rest posted : List Change) (k : Known) → k.0 ≡ Some c → AreLetIn read k → read ++ rest ≡ posted → AreBefore c posted → read ≡ []
none_read c [] rest posted k here let_in link before = refl
none_read c (change.Came conn ∷ read) rest posted k here let_in link before = let wrong : None ≡ Some c = sym let_in.0.0 ∙ here in absurd (cc)
none_read c (change.Gone conn ∷ read) rest posted k here let_in link before =
    let same : conn ≡ c = same_Some conn c (sym let_in.0 ∙ here) in
    let less : conn < c = (subst (AreBefore c) (sym link) before).0 in
    absurd (omega (arith, same, less))

changed_before : (n c : ℕ) (old : Places) (s : Step) (a : Answer) (new : Places) → unplugs n s ≡ false → Rule old s (Ok a) new → AreBefore c (changed_by n a)
changed_before n c old s (answer.Came port conn) new stays rule = by_test (port == n)
  where
    by_test : (b : Bool) → AreBefore c (if b then change.Came conn ∷ [] else [])
    by_test true = (tt, tt)
    by_test false = tt
changed_before n c old s (answer.Gone port conn) new stays rule =
    subst (λ (b : Bool). AreBefore c (if b then change.Gone conn ∷ [] else [])) (sym (going n old new port conn s stays rule)) tt
changed_before n c old s a new stays rule = tt

pub none_told : (n : ℕ) (a : Answer) → 0 ≡ times (is_recorded n) (a ∷ []) → is_recorded n a ≡ false
none_told n a none = by_test (is_recorded n a) refl
  where
    by_test : (b : Bool) → is_recorded n a ≡ b → is_recorded n a ≡ false
    by_test false is = is
    by_test true is =
        let one : times (is_recorded n) (a ∷ []) ≡ 1 = ap (λ (b : Bool). length (if b then a ∷ [] else [])) is in
        absurd (omega (arith, none, one))

-- ## A device that is there

-- connection c is present at port n, which is open to it, and no removal of it is on its way to be recorded
pub record IsLive (n c : ℕ) (now : Places) : Type 0 where
  pub here : (port_at now.multiplier n).present ≡ Some c
  pub opens : IsOpenAt n now.multiplier.registers
  pub kept : IsUnremoved n c now

goes_before : (n c : ℕ) (old : Places) (s : Step) (a : Answer) (new : Places) → unplugs n s ≡ false → Rule old s (Ok a) new
    → GoesBefore n c a
goes_before n c old s (answer.Gone port conn) new stays rule = λ here. absurd (true≢false (sym (eq-eqb port n here) ∙ going n old new port conn s stays rule))
goes_before n c old s _ new stays rule = tt

pub kept_after : (n c : ℕ) (old : Places) (s : Step) (a : Answer) (new : Places) → IsOrderly old → Rule old s (Ok a) new → unplugs n s ≡ false
    → IsUnremoved n c old → IsUnremoved n c new
kept_after n c old s a new orderly rule stays kept = unremoved_after n c old new a kept (goes_before n c old s a new stays rule) s orderly rule

-- what a step in which the unit is not unplugged leaves of the port
pub record StaysPresent (n c : ℕ) (a : Answer) (new : Places) : Type 0 where
  pub here : (port_at new.multiplier n).present ≡ Some c
  pub unrecorded : is_recorded n a ≡ false
  pub kept : IsUnremoved n c new

pub stays_present : (n c : ℕ) (old : Places) (s : Step) (a : Answer) (new : Places) → Rule old s (Ok a) new → unplugs n s ≡ false → IsFirm n old
    → (port_at old.multiplier n).present ≡ Some c → IsUnremoved n c old → StaysPresent n c a new
stays_present n c old s a new rule stays firm here kept =
    let r : Records n (slice_get old.devices n) (seen_at n old) a (slice_get new.devices n) (seen_at n new) =
    rule_records old s a new firm.orderly rule n firm.led in
    let none : r.read ≡ [] =
    none_read c r.read (on_presence (slice_get new.devices n)) (on_presence (slice_get old.devices n) ++ changed_by n a) (seen_at n old) here r.let_in r.link
    (before_both c (on_presence (slice_get old.devices n)) (changed_by n a) kept.posted (changed_before n c old s a new stays rule)) in
    record {
      here = ap (λ (k : Known). k.0) (r.knows ∙ ap (λ (cs : List Change). all cs (seen_at n old)) none) ∙ here;
      unrecorded = none_told n a (sym (ap (λ (cs : List Change). length cs) none) ∙ r.count);
      kept = kept_after n c old s a new firm.orderly rule stays kept;
    }

-- while it is not unplugged, it stays live
pub live_after : (n c : ℕ) (unsent : Bool) (old : Places) (s : Step) (a : Answer) (new : Places) → Rule old s (Ok a) new → unplugs n s ≡ false → IsFirm n old
    → Knows n unsent old → IsLive n c old → IsLive n c new
live_after n c unsent old s a new rule stays firm knows live =
    let p : StaysPresent n c a new = stays_present n c old s a new rule stays firm live.here live.kept in
    record { here = p.here; opens = rule_open n old a new p.unrecorded knows.writes live.opens s rule; kept = p.kept }

-- a port is open to a device, or it waits for the host
pub open_or_waits : (p : PortRegisters) → IsOpenTo p ⊎ Told p
open_or_waits p = by_open (is_open p) refl
  where
    by_error : is_open p ≡ true → p.present ≡ true → IsOpenTo p ⊎ Told p
    by_error opens there = elim (cases_eq (bit_at p.error 26) 0) [
      | inl none ↦ inl (record { opens = opens; there = there; clear = none })
      | inr some ↦ let low : bit_at p.error 26 < 2 = bit_at-lt p.error 26 in inr (λ o t. omega (arith, low, some))
    ]

    by_present : (b : Bool) → p.present ≡ b → is_open p ≡ true → IsOpenTo p ⊎ Told p
    by_present true there opens = by_error opens there
    by_present false none opens = inr (λ o there. absurd (true≢false (sym there ∙ none)))

    by_open : (b : Bool) → is_open p ≡ b → IsOpenTo p ⊎ Told p
    by_open true opens = by_present p.present refl opens
    by_open false shut = inr (λ opens. absurd (true≢false (sym opens ∙ shut)))

-- and the driver does not flush it
pub never_flushed : (n c : ℕ) (old : Places) → IsLive n c old → IsAtRest n old → ⊥
never_flushed n c old live rest =
    let set_is : bit_at (map.port_at old.multiplier.registers n).error 26 ≡ 1 = x_set _ (rest.waits live.opens.opens live.opens.there) in
    let none : bit_at (map.port_at old.multiplier.registers n).error 26 ≡ 0 = live.opens.clear in
    absurd (omega (arith, set_is, none))
