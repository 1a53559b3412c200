-- For the field `new_devices_wait` of `laws`. A port that reported a new device forwards nothing until bit X of its
-- PSCR[1] is cleared. This holds in each step, and so in each run.
use Rattle.std.proofs.Common.{◌≡◌, ◌≢◌, ℕ, zero, suc, ◌+◌, ◌%◌, ◌<◌, ◌==◌, ◌&&◌, min, max, Bool, true, false, not, if◌then◌else◌, List, [], ◌∷◌, ◌++◌}
use Rattle.std.proofs.Common.{length, flat_map, take, replicate, Option, Some, None, Ok, get_or, set, refl, sym, ap, subst, ◌∙◌, inl, inr, bit_and}
use Rattle.std.proofs.{Common.{bit_or, arith}, lemmas.{Bool.{cases_eq, eqb-true, eq-eqb, ne_eqb}, List.{length-replicate, length-set}}}
use Rattle.std.proofs.lemmas.Nat.Bits.{bit_at-lt, bit_at_and, bit_at_or, bit_at_xor}
use Rattle.std.specs.{Prelude.{◌||◌, is_none, is_some, nat_lt, MatchOption, MatchBool}, Int.bit_at, List.list_any}
use Rattle.fis_view.specs.Frames.{Stamped}
use Rattle.pm_registers.specs.{Bits.{shares, without}, declared.port.PortRegisters.PortRegisters, Port.{ShowsTruly, bit_n, bit_x, controlled, det}}
use Rattle.pm_registers.specs.{Port.{inserted, is_open, met, opened, opening_port, passes, port_written, removed}, RegisterMap.RegisterMap}
use Rattle.pm_registers.specs.RegisterMap.{after_write, control_port, control_written, forwards, register_at, settled, summary}
use Rattle.pm_registers.specs.RegisterMap.{with_port as with_registers, written}
use Rattle.pm_registers.specs.RegisterMap as map
use Rattle.pm_registers.proofs.Door.{either, shows_inserted, shows_removed, shows_written}
use Rattle.pm_control.specs.{Answers.registers_after_request, Requests.request_in, declared.request.Request.{Request, TheVariants.Write}}
use Rattle.pm_ports.specs.Port.{PortState, came_refusal, gone_refusal, rises, with_connection, with_removal, with_up}
use Rattle.multiplier.specs.{Passing.falls, Rules.{FromHostRule, ToControl, ToDevice, ToNobody, ToPort, with_device as connected, without_device}}
use Rattle.multiplier.specs.{State.{PmState, passes_to, pm_port, port_at}, declared.multiplier.Passed.Passed, Between.{Answer as Answers, FromPort}}
use Rattle.multiplier.specs.Between.{Gives, Notice, at}
use Rattle.multiplier.specs.declared.multiplier.Passed.TheVariants as passed
use Rattle.multiplier.proofs.Door.{gives, kept_part, other_port}
use Rattle.pm_world.specs.{Attached.Attached, Cleared.{EachWaits, NewDevicesWait, PassesNone, clears_x, is_cleared, is_up_from}, Downward.fell_to}
use Rattle.pm_world.specs.{Places.{IsOrderly, Place, Places, Queue, new_world, new_world_in}, Rules.{CameRule, DiskSendRule, DiskTakeRule, GoneRule}}
use Rattle.pm_world.specs.Rules.{InjectRule, OnDevice, Outcome, PmDownRule, PmFromDeviceRule, PmFromHostRule, PmPresenceRule, PmUpRule, Rule, Run}
use Rattle.pm_world.specs.{Rules.recorded, declared.{link.Change.Change, step.{Config.Config, Step.Step, Answer.Answer}}}
use Rattle.pm_world.specs.declared.link.Change.TheVariants as change
use Rattle.pm_world.specs.declared.step.Step.TheVariants as step
use Rattle.pm_world.specs.declared.step.Answer.TheVariants as answer
use Rattle.pm_world.proofs.{links.LinksDown.has_present, steps.{Orderly.{opening_orderly, orderly_after}, Steps.{at_both, at_device}}}

-- ---- bit X

abbrev pub HasX : ℕ → Type 0
HasX error = bit_at error 26 ≡ 1

-- if it is set, it is shared
x_shared : (error : ℕ) → HasX error → (bit_and error bit_x == 0) ≡ false
x_shared error is = ne_eqb (bit_and error bit_x) 0 (λ none.
    let both : bit_at (bit_and error bit_x) 26 ≡ min (bit_at error 26) (bit_at bit_x 26) = bit_at_and error bit_x 26 in
    let zero : bit_at (bit_and error bit_x) 26 ≡ bit_at 0 26 = ap (λ (k : ℕ). bit_at k 26) none in
    absurd (omega (arith, both, zero, is)))

-- if none is shared, it is not set
not_false : (b : Bool) → not b ≡ false → b ≡ true
not_false true e = refl
not_false false e = absurd (cc)

pub x_unshared : (value : ℕ) → shares value bit_x ≡ false → bit_at value 26 ≡ 0
x_unshared value e =
    let none : bit_and value bit_x ≡ 0 = eqb-true (bit_and value bit_x) 0 (not_false (bit_and value bit_x == 0) e) in
    let both : bit_at (bit_and value bit_x) 26 ≡ min (bit_at value 26) (bit_at bit_x 26) = bit_at_and value bit_x 26 in
    let zero : bit_at (bit_and value bit_x) 26 ≡ bit_at 0 26 = ap (λ (k : ℕ). bit_at k 26) none in
    let small : bit_at value 26 < 2 = bit_at-lt value 26 in
    omega (arith, both, zero, small)

met_x : (error : ℕ) → HasX (bit_or error bit_x)
met_x error =
    let both : bit_at (bit_or error bit_x) 26 ≡ max (bit_at error 26) (bit_at bit_x 26) = bit_at_or error bit_x 26 in
    let small : bit_at error 26 < 2 = bit_at-lt error 26 in
    omega (arith, both, small)

without_x : (error value : ℕ) → HasX error → bit_at value 26 ≡ 0 → HasX (without error value)
without_x error value is none =
    let both : bit_at (bit_and error value) 26 ≡ min (bit_at error 26) (bit_at value 26) = bit_at_and error value 26 in
    let rest : bit_at (without error value) 26 ≡ (bit_at error 26 + bit_at (bit_and error value) 26) % 2 = bit_at_xor error (bit_and error value) 26 in
    omega (arith, both, rest, is, none)

-- ---- the registers of a port

-- if the port is open to a device, the host has not cleared what it reported, and it shows the device
-- truly
abbrev pub Told : PortRegisters → Type 0
Told p = is_open p ≡ true → p.present ≡ true → HasX p.error

all_but : (a b c : Bool) → (a ≡ true → b ≡ true → c ≡ false) → (a && b && c) ≡ false
all_but true true c h = h refl refl
all_but true false c h = refl
all_but false true c h = refl
all_but false false c h = refl

-- so it passes none
passes_none : (p : PortRegisters) → ShowsTruly p → Told p → passes p ≡ false
passes_none p shows told = all_but (is_open p) (det p.status == 3) (bit_and p.error bit_x == 0) (λ opens there.
    x_shared p.error (told opens (shows (eqb-true (det p.status) 3 there)).1))

meets : (p : PortRegisters) → Told (met p)
meets p = λ opens there. met_x (bit_or p.error bit_n)

inserted_told : (p : PortRegisters) → Told (inserted p)
inserted_told p = by_test (is_open p) refl
  where
    by_test : (b : Bool) → is_open p ≡ b → Told (let next : PortRegisters = record p { present = true } in (if b then met next else next))
    by_test true so = meets (record p { present = true })
    by_test false so = λ opens there. let wrong : true ≡ false = sym opens ∙ so in absurd (cc)

removed_told : (p : PortRegisters) → Told (removed p)
removed_told p = by_test (is_open p)
  where
    by_test : (b : Bool) → Told (let next : PortRegisters = record p { present = false } in (if b then record next { status = 0; error = bit_or p.error bit_n } else next))
    by_test true = λ opens there. absurd (cc)
    by_test false = λ opens there. absurd (cc)

opened_told : (p : PortRegisters) → Told (opened p)
opened_told p = by_test p.present refl
  where
    by_test : (b : Bool) → p.present ≡ b → Told (if b then met p else record p { status = 0 })
    by_test true so = meets p
    by_test false so = λ opens there. let wrong : true ≡ false = sym there ∙ so in absurd (cc)

controlled_told : (p : PortRegisters) (value : ℕ) → Told p → Told (controlled p value)
controlled_told p value told = by_next (record p { control = value }) (is_open (record p { control = value })) refl refl refl
  where
    by_was : (next : PortRegisters) (b : Bool) → is_open p ≡ b → next.present ≡ p.present → next.error ≡ p.error → Told (if b then next else opened next)
    by_was next true so there same = λ opens is. ap (λ (k : ℕ). bit_at k 26) same ∙ told so (sym there ∙ is)
    by_was next false so there same = opened_told next

    by_next : (next : PortRegisters) (b : Bool) → is_open next ≡ b → next.present ≡ p.present → next.error ≡ p.error
        → Told (if b then (if is_open p then next else opened next) else record next { status = (if det value == 4 then 4 else 0) })
    by_next next true so there same = by_was next (is_open p) refl there same
    by_next next false so there same = λ opens is. let wrong : true ≡ false = sym opens ∙ so in absurd (cc)

written_told : (p : PortRegisters) (register value : ℕ) → (register ≡ 1 → bit_at value 26 ≡ 0) → Told p → Told (port_written p register value)
written_told p register value none told = by_test (register == 1) refl
  where
    by_test : (b : Bool) → (register == 1) ≡ b → Told (if b then record p { error = without p.error value } else if register == 2 then controlled p value else p)
    by_test true so = λ opens there. without_x p.error value (told opens there) (none (eqb-true register 1 so))
    by_test false so = either Told (register == 2) (controlled p value) p (controlled_told p value told) told

-- ---- the registers of the multiplier

-- what is true of a port is true of it after a write to a port
pub set_keeps : (Is : PortRegisters → Type 0) (bank : List PortRegisters) (k : ℕ) (q d : PortRegisters) (n : ℕ) → (n ≡ k → Is (get_or bank k d) → Is q) → Is (get_or bank n d) → Is (get_or (set bank k q) n d)
set_keeps Is [] k q d n here is = is
set_keeps Is (p ∷ bank) zero q d zero here is = here refl is
set_keeps Is (p ∷ bank) zero q d (suc n) here is = is
set_keeps Is (p ∷ bank) (suc k) q d zero here is = is
set_keeps Is (p ∷ bank) (suc k) q d (suc n) here is = set_keeps Is bank k q d n (λ same. here (ap suc same)) is

set_this : (Is : PortRegisters → Type 0) (bank : List PortRegisters) (n : ℕ) (q d : PortRegisters) → n < length bank → Is q → Is (get_or (set bank n q) n d)
set_this Is [] n q d below is = absurd (omega (arith, below))
set_this Is (p ∷ bank) zero q d below is = is
set_this Is (p ∷ bank) (suc n) q d below is = set_this Is bank n q d (omega (arith, below)) is

-- port n shows its device truly, and it waits for the host
abbrev pub Shows : ℕ → RegisterMap → Type 0
Shows n m = ShowsTruly (map.port_at m n)

abbrev pub Waits : ℕ → RegisterMap → Type 0
Waits n m = Told (map.port_at m n)

-- what a write of a port keeps, a write of the map keeps
pub write_keeps : (Is : PortRegisters → Type 0) (m : RegisterMap) (n port register value : ℕ) → (port ≡ n → Is (map.port_at m port) → Is (port_written (map.port_at m port) register value)) → Is (map.port_at m n)
    → Is (map.port_at (after_write m port register value) n)
write_keeps Is m n port register value keeps is =
    either (λ (x : RegisterMap). Is (map.port_at x n)) (is_some (register_at m port register)) (settled (summary m) (written m port register value)) m
    (either (λ (x : RegisterMap). Is (map.port_at x n)) (port == control_port) (control_written m register value) (with_registers m port (port_written (map.port_at m port) register value))
    (either (λ (x : RegisterMap). Is (map.port_at x n)) (register == 33) (record m { mask = value }) (if register == 96 then record m { enabled = bit_and value 8 } else m) is
    (either (λ (x : RegisterMap). Is (map.port_at x n)) (register == 96) (record m { enabled = bit_and value 8 }) m is is))
    (set_keeps Is m.bank port (port_written (map.port_at m port) register value) opening_port n (λ same was. keeps (sym same) was) is)) is

-- as many ports
abbrev SameRoom : RegisterMap → RegisterMap → Type 0
SameRoom m x = length x.bank ≡ length m.bank

write_room : (m : RegisterMap) (port register value : ℕ) → SameRoom m (after_write m port register value)
write_room m port register value =
    either (SameRoom m) (is_some (register_at m port register)) (settled (summary m) (written m port register value)) m
    (either (SameRoom m) (port == control_port) (control_written m register value) (with_registers m port (port_written (map.port_at m port) register value))
    (either (SameRoom m) (register == 33) (record m { mask = value }) (if register == 96 then record m { enabled = bit_and value 8 } else m) refl
    (either (SameRoom m) (register == 96) (record m { enabled = bit_and value 8 }) m refl refl))
    (length-set m.bank port (port_written (map.port_at m port) register value))) refl

-- if two tests hold, and the third does not
third_fails : (a b c : Bool) → (a && b && c) ≡ false → a ≡ true → b ≡ true → c ≡ false
third_fails true true c e first second = e
third_fails true false c e first second = absurd (cc)
third_fails false b c e first second = absurd (cc)

request_waits : (m : RegisterMap) (n : ℕ) (request : Option Request) → clears_x n request ≡ false → Waits n m → Waits n (registers_after_request m request)
request_waits m n (Some (Write at value)) none is =
    write_keeps Told m n at.port at.register value
    (λ here told. written_told (map.port_at m at.port) at.register value (λ first.
    x_unshared value (third_fails (at.port == n) (at.register == 1) (shares value bit_x) none (eq-eqb at.port n here) (eq-eqb at.register 1 first))) told) is
request_waits m n other none is = is

request_shows : (m : RegisterMap) (n : ℕ) (request : Option Request) → Shows n m → Shows n (registers_after_request m request)
request_shows m n (Some (Write at value)) is = write_keeps ShowsTruly m n at.port at.register value (λ here shows. shows_written (map.port_at m at.port) at.register value shows) is
request_shows m n other is = is

request_room : (m : RegisterMap) (request : Option Request) → SameRoom m (registers_after_request m request)
request_room m (Some (Write at value)) = write_room m at.port at.register value
request_room m other = refl

-- ---- one step of the multiplier

-- What becomes of port n. It shows its device truly if it did before. It waits for the host if it did
-- before, unless this is the step that clears. And if a connection came, it waits.
pub record PortGoes (n : ℕ) (cleared : Bool) (old new : PmState) : Type 0 where
  pub room : length new.registers.bank ≡ length old.registers.bank
  pub shows : Shows n old.registers → Shows n new.registers
  pub waits : cleared ≡ false → Waits n old.registers → Waits n new.registers
  pub comes : (c : ℕ) → (port_at old n).present ≢ Some c → (port_at new n).present ≡ Some c → length old.registers.bank ≡ 15 → n < 15 → Waits n new.registers

-- the same connections are present
abbrev SamePorts : PmState → PmState → Type 0
SamePorts old new = (n : ℕ) → (port_at new n).present ≡ (port_at old n).present

-- if the registers of the ports are as they were
plain_goes : (n : ℕ) (cleared : Bool) (old new : PmState) → SamePorts old new → new.registers.bank ≡ old.registers.bank → PortGoes n cleared old new
plain_goes n cleared old new same bank = record {
  room = ap (λ (l : List PortRegisters). length l) bank;
  shows = λ is. subst (λ (l : List PortRegisters). ShowsTruly (get_or l n opening_port)) (sym bank) is;
  waits = λ none is. subst (λ (l : List PortRegisters). Told (get_or l n opening_port)) (sym bank) is;
  comes = λ c never now room below. absurd (never (sym (same n) ∙ now));
}

same_ports : (old new : PmState) → new.ports ≡ old.ports → SamePorts old new
same_ports old new e n = ap (λ (l : List PortState). (at l n).present) e

equal_goes : (n : ℕ) (cleared : Bool) (old new : PmState) → new ≡ old → PortGoes n cleared old new
equal_goes n cleared old new e = plain_goes n cleared old new (same_ports old new (ap (λ (pm : PmState). pm.ports) e)) (ap (λ (pm : PmState). pm.registers.bank) e)

-- a port is written over at which the same connection is present
written_goes : (n : ℕ) (cleared : Bool) (old new : PmState) (k : ℕ) (p : PortState) → new.ports ≡ set old.ports k p → p.present ≡ (port_at old k).present → new.registers.bank ≡ old.registers.bank → PortGoes n cleared old new
written_goes n cleared old new k p e present bank =
    plain_goes n cleared old new (λ m. ap (λ (l : List PortState). (at l m).present) e ∙ kept_part (λ (q : PortState). q.present) old.ports k p present m) bank

-- ---- a connection comes or goes

-- the registers of port k are written over
module _ (old new : PmState) (k : ℕ) (q : PortRegisters) (is : new.registers.bank ≡ set old.registers.bank k q) (shows : ShowsTruly (map.port_at old.registers k) → ShowsTruly q) (told : Told q)
    (others : (n : ℕ) → n ≢ k → (port_at new n).present ≡ (port_at old n).present) where
  changed_goes : (n : ℕ) (cleared : Bool) → PortGoes n cleared old new
  changed_goes n cleared = record {
    room = ap (λ (l : List PortRegisters). length l) is ∙ length-set old.registers.bank k q;
    shows = λ was. subst (λ (l : List PortRegisters). ShowsTruly (get_or l n opening_port)) (sym is) (set_keeps ShowsTruly old.registers.bank k q opening_port n (λ same here. shows here) was);
    waits = λ none was. subst (λ (l : List PortRegisters). Told (get_or l n opening_port)) (sym is) (set_keeps Told old.registers.bank k q opening_port n (λ same here. told) was);
    comes = λ c never now room below. subst (λ (l : List PortRegisters). Told (get_or l n opening_port)) (sym is) (elim (cases_eq n k) [
      | inl e ↦ subst (λ (j : ℕ). Told (get_or (set old.registers.bank k q) j opening_port)) (sym e) (set_this Told old.registers.bank k q opening_port (omega (arith, room, below, e)) told)
      | inr other ↦ absurd (never (sym (others n other) ∙ now))
    ]);
  }

came_goes : (old : PmState) (k conn n : ℕ) (cleared : Bool) → PortGoes n cleared old (connected old k conn)
came_goes old k conn =
    changed_goes old (connected old k conn) k (inserted (map.port_at old.registers k)) refl (shows_inserted (map.port_at old.registers k)) (inserted_told (map.port_at old.registers k))
    (λ n other. ap (λ (p : PortState). p.present) (other_port old.ports k n (with_connection (port_at old k) conn) other))

gone_goes : (old : PmState) (k conn n : ℕ) (cleared : Bool) → PortGoes n cleared old (without_device old k conn)
gone_goes old k conn =
    changed_goes old (without_device old k conn) k (removed (map.port_at old.registers k)) refl (shows_removed (map.port_at old.registers k)) (removed_told (map.port_at old.registers k))
    (λ n other. ap (λ (p : PortState). p.present) (other_port old.ports k n (with_removal (port_at old k) conn) other))

recorded_goes : (n : ℕ) (cleared : Bool) (old : PmState) (k : ℕ) (c : Change) → PortGoes n cleared old (recorded old k c)
recorded_goes n cleared old k (change.Came conn) = by_test (is_none (came_refusal (port_at old k) conn))
  where
    by_test : (b : Bool) → PortGoes n cleared old (if b then connected old k conn else old)
    by_test true = came_goes old k conn n cleared
    by_test false = equal_goes n cleared old old refl
recorded_goes n cleared old k (change.Gone conn) = by_test (is_none (gone_refusal (port_at old k) conn))
  where
    by_test : (b : Bool) → PortGoes n cleared old (if b then without_device old k conn else old)
    by_test true = gone_goes old k conn n cleared
    by_test false = equal_goes n cleared old old refl

-- ---- each rule

presence_goes : (n : ℕ) (cleared : Bool) (k : ℕ) (place : Place) (pm : PmState) (a : Answer) (after : Place) (left : PmState) → PmPresenceRule k place pm (Ok a) after left → PortGoes n cleared pm left
presence_goes n cleared k place pm answer.Idle after left acts = equal_goes n cleared pm left acts.2
presence_goes n cleared k place pm (answer.Presence p) after left acts =
    subst (λ (q : PmState). PortGoes n cleared pm q) (sym acts.2.2) (recorded_goes n cleared pm k acts.2.0)
presence_goes n cleared k place pm _ after left acts = absurd acts

from_device_goes : (n : ℕ) (cleared : Bool) (k : ℕ) (place : Place) (pm : PmState) (a : Answer) (after : Place) (left : PmState) → PmFromDeviceRule k place pm (Ok a) after left → PortGoes n cleared pm left
from_device_goes n cleared k place pm answer.Idle after left acts = equal_goes n cleared pm left acts.2
from_device_goes n cleared k place pm answer.Blocked after left acts = equal_goes n cleared pm left acts.3
from_device_goes n cleared k place pm (answer.Offered p true) after left acts = equal_goes n cleared pm left acts.2.2.1
from_device_goes n cleared k place pm (answer.Offered p false) after left acts =
    written_goes n cleared pm left k _ (ap (λ (q : PmState). q.ports) acts.2.2.2) refl (ap (λ (q : PmState). q.registers.bank) acts.2.2.2)
from_device_goes n cleared k place pm _ after left acts = absurd acts

down_goes : (n : ℕ) (cleared : Bool) (k : ℕ) (place : Place) (pm : PmState) (a : Answer) (after : Place) (left : PmState) → PmDownRule k place pm (Ok a) after left → PortGoes n cleared pm left
down_goes n cleared k place pm answer.Idle after left acts = equal_goes n cleared pm left acts.3
down_goes n cleared k place pm answer.Blocked after left acts = equal_goes n cleared pm left acts.2
down_goes n cleared k place pm (answer.Down p) after left acts =
    written_goes n cleared pm left k _ (ap (λ (q : PmState). q.ports) acts.2.1.1) refl (ap (λ (q : PmState). q.registers.bank) acts.2.1.1)
down_goes n cleared k place pm _ after left acts = absurd acts

gives_goes : (n : ℕ) (cleared : Bool) (pm : PmState) (frame : Stamped) (left : PmState) → Gives pm frame left → PortGoes n cleared pm left
gives_goes n cleared pm frame left (FromPort k was next other is stamp up e) =
    written_goes n cleared pm left k (with_up (port_at pm k) None) (ap (λ (q : PmState). q.ports) e) refl (ap (λ (q : PmState). q.registers.bank) e)
gives_goes n cleared pm frame left (Notice next due is e) = plain_goes n cleared pm left (same_ports pm left (ap (λ (q : PmState). q.ports) e)) (ap (λ (q : PmState). q.registers.bank) e)
gives_goes n cleared pm frame left (Answers next is e) = plain_goes n cleared pm left (same_ports pm left (ap (λ (q : PmState). q.ports) e)) (ap (λ (q : PmState). q.registers.bank) e)

up_goes : (n : ℕ) (cleared : Bool) (pm : PmState) (upward : Queue) (a : Answer) (left : PmState) (new : Queue) → PmUpRule pm upward (Ok a) left new → PortGoes n cleared pm left
up_goes n cleared pm upward answer.Idle left new acts = equal_goes n cleared pm left acts.2
up_goes n cleared pm upward answer.Blocked left new acts = equal_goes n cleared pm left acts.1
up_goes n cleared pm upward (answer.Up k) left new acts = gives_goes n cleared pm acts.1.0 left (gives pm acts.1.0 left acts.1.2)
up_goes n cleared pm upward _ left new acts = absurd acts

-- ---- a frame of the host

-- whether it clears, by where it went
abbrev clears_by : ℕ → Stamped → Passed → Bool
clears_by n frame passed.Control = clears_x n (request_in frame.bytes)
clears_by n frame _ = false

module _ (n : ℕ) (old : PmState) (frame : Stamped) (new : PmState) where
  control_goes : (p : Passed) → ToControl old frame (Ok p) new → PortGoes n (clears_by n frame p) old new
  control_goes passed.Control acts =
      let registers : new.registers ≡ registers_after_request old.registers (request_in frame.bytes) = ap (λ (q : PmState). q.registers) acts.2 in
      record {
        room = ap (λ (m : RegisterMap). length m.bank) registers ∙ request_room old.registers (request_in frame.bytes);
        shows = λ is. subst (λ (m : RegisterMap). Shows n m) (sym registers) (request_shows old.registers n (request_in frame.bytes) is);
        waits = λ none is. subst (λ (m : RegisterMap). Waits n m) (sym registers) (request_waits old.registers n (request_in frame.bytes) none is);
        comes = λ c never now room below. absurd (never (sym (ap (λ (q : PmState). (port_at q n).present) acts.2) ∙ now));
      }
  control_goes _ acts = absurd acts

  device_goes : (k conn : ℕ) (p : Passed) → ToDevice old k conn frame (Ok p) new → PortGoes n (clears_by n frame p) old new
  device_goes k conn (passed.Down m) acts = written_goes n false old new k _ (ap (λ (q : PmState). q.ports) acts.2) refl (ap (λ (q : PmState). q.registers.bank) acts.2)
  device_goes k conn _ acts = absurd acts

  nobody_goes : (p : Passed) → ToNobody old (Ok p) new → PortGoes n (clears_by n frame p) old new
  nobody_goes passed.Dropped acts = plain_goes n false old new (same_ports old new (ap (λ (q : PmState). q.ports) acts)) (ap (λ (q : PmState). q.registers.bank) acts)
  nobody_goes _ acts = absurd acts

  heard_goes : (p : Passed) → FromHostRule old frame (Ok p) new → PortGoes n (clears_by n frame p) old new
  heard_goes p rule = by_port (pm_port frame == 15) rule
    where
      by_conn : (o : Option ℕ) → MatchOption o (ToNobody old (Ok p) new) (λ conn. ToDevice old (pm_port frame) conn frame (Ok p) new) → PortGoes n (clears_by n frame p) old new
      by_conn None acts = nobody_goes p acts
      by_conn (Some conn) acts = device_goes (pm_port frame) conn p acts

      by_port : (b : Bool) → MatchBool b (ToControl old frame (Ok p) new) (ToPort old frame (Ok p) new) → PortGoes n (clears_by n frame p) old new
      by_port true acts = control_goes p acts
      by_port false acts = by_conn (passes_to old (pm_port frame)) acts

-- the frame that was taken off the host's link is its first
cleared_by : (n : ℕ) (old : Places) (p : Passed) (frame : Stamped) (rest : List Stamped) → old.downward.frames ≡ frame ∷ rest → is_cleared n old (answer.Passed p) ≡ clears_by n frame p
cleared_by n old passed.Control frame rest e =
    ap (λ (frames : List Stamped). list_any (λ (f : Stamped). clears_x n (request_in f.bytes)) (take 1 frames)) e ∙ or_false (clears_x n (request_in frame.bytes))
  where
    or_false : (b : Bool) → (b || false) ≡ b
    or_false true = refl
    or_false false = refl
cleared_by n old other frame rest e = refl

from_host_goes : (n : ℕ) (old new : Places) (a : Answer) → PmFromHostRule old.downward old.multiplier (Ok a) new.downward new.multiplier → PortGoes n (is_cleared n old a) old.multiplier new.multiplier
from_host_goes n old new answer.Idle acts = equal_goes n false old.multiplier new.multiplier acts.2
from_host_goes n old new answer.Blocked acts = equal_goes n false old.multiplier new.multiplier acts.2
from_host_goes n old new (answer.Passed p) acts =
    subst (λ (b : Bool). PortGoes n b old.multiplier new.multiplier) (sym (cleared_by n old p acts.0.0 new.downward.frames acts.0.1)) (heard_goes n old.multiplier acts.0.0 new.multiplier p acts.0.2)
from_host_goes n old new _ acts = absurd acts

-- ---- each step

on_device : (n : ℕ) (old : Places) (k : ℕ) (a : Answer) (new : Places) (R : Place → Outcome → Place → Type 0) → OnDevice old k (Ok a) new R → PortGoes n (is_cleared n old a) old.multiplier new.multiplier
on_device n old k a new R rule = equal_goes n (is_cleared n old a) old.multiplier new.multiplier (ap (λ (w : Places). w.multiplier) (at_device old k a new R rule).new_is)

pub rule_goes : (n : ℕ) (old : Places) (s : Step) (a : Answer) (new : Places) → Rule old s (Ok a) new → PortGoes n (is_cleared n old a) old.multiplier new.multiplier
rule_goes n old (step.Came k) a new rule = on_device n old k a new (CameRule k) rule
rule_goes n old (step.Gone k) a new rule = on_device n old k a new (GoneRule k) rule
rule_goes n old (step.DiskSend k) a new rule = on_device n old k a new (DiskSendRule k) rule
rule_goes n old (step.Inject k bytes) a new rule = on_device n old k a new (InjectRule k bytes) rule
rule_goes n old (step.DiskTake k) a new rule = on_device n old k a new (DiskTakeRule k) rule
rule_goes n old (step.PmPresence k) a new rule =
    let p = at_both old k a new (PmPresenceRule k) rule in
    subst (λ (w : Places). PortGoes n (is_cleared n old a) old.multiplier w.multiplier) (sym p.new_is) (presence_goes n (is_cleared n old a) k p.place old.multiplier a p.after p.left p.rule)
rule_goes n old (step.PmFromDevice k) a new rule =
    let p = at_both old k a new (PmFromDeviceRule k) rule in
    subst (λ (w : Places). PortGoes n (is_cleared n old a) old.multiplier w.multiplier) (sym p.new_is) (from_device_goes n (is_cleared n old a) k p.place old.multiplier a p.after p.left p.rule)
rule_goes n old (step.PmDown k) a new rule =
    let p = at_both old k a new (PmDownRule k) rule in
    subst (λ (w : Places). PortGoes n (is_cleared n old a) old.multiplier w.multiplier) (sym p.new_is) (down_goes n (is_cleared n old a) k p.place old.multiplier a p.after p.left p.rule)
rule_goes n old step.PmFromHost a new rule = from_host_goes n old new a rule.0
rule_goes n old step.PmUp a new rule = up_goes n (is_cleared n old a) old.multiplier old.upward a new.multiplier new.upward rule.0
rule_goes n old other a new rule = equal_goes n (is_cleared n old a) old.multiplier new.multiplier (ap (λ (w : Places). w.multiplier) rule.1)

-- ---- a run

and_false : (a b : Bool) → b ≡ false → (a && b) ≡ false
and_false true b e = e
and_false false b e = refl

-- port n shows its device truly, and waits for the host
pub record IsWaiting (n : ℕ) (m : RegisterMap) : Type 0 where
  pub shows : Shows n m
  pub told : Waits n m

-- so it forwards nothing
pub forwards_none : (n : ℕ) (m : RegisterMap) → IsWaiting n m → forwards m n ≡ false
forwards_none n m is = and_false (nat_lt n m.ports) (passes (map.port_at m n)) (passes_none (map.port_at m n) is.shows is.told)

-- down
falls_none : (frames : List Stamped) → flat_map (falls None) frames ≡ []
falls_none [] = refl
falls_none (f ∷ frames) = falls_none frames

pub none_fell : (n : ℕ) (old : Places) (s : Step) (a : Answer) (new : Places) → IsWaiting n old.multiplier.registers → fell_to n old s a new ≡ []
none_fell n old s (answer.Passed (passed.Down m)) new is = by_test (m == n)
  where
    to_none : passes_to old.multiplier n ≡ None
    to_none = ap (λ (b : Bool). if b then (port_at old.multiplier n).present else None) (forwards_none n old.multiplier.registers is)

    by_test : (b : Bool) → (if b then flat_map (falls (passes_to old.multiplier n)) (take 1 old.downward.frames) else []) ≡ []
    by_test true = ap (λ (to : Option ℕ). flat_map (falls to) (take 1 old.downward.frames)) to_none ∙ falls_none (take 1 old.downward.frames)
    by_test false = refl
none_fell n old s a new is = refl

-- and up: what a port gives it holds, and forwards
pub holds_forward : (forwards : Bool) (present : Option ℕ) (up : Option Stamped) (frame : Stamped) → rises forwards present up ≡ Some frame → forwards ≡ true
holds_forward true present up frame e = refl
holds_forward false present None frame e = absurd (cc)
holds_forward false present (Some f) frame e = absurd (cc)

gives_other : (n : ℕ) (pm : PmState) (frame : Stamped) (left : PmState) → n < 15 → IsWaiting n pm.registers → ((f : Stamped) → pm.answer ≡ Some f → f.stamp.port ≡ control_port) → Gives pm frame left → frame.stamp.port ≢ n
gives_other n pm frame left below is answers (FromPort k was next other holds stamp up e) = λ port_is.
    let here : k ≡ n = sym (ap (λ (f : Stamped). f.stamp.port) up) ∙ port_is in
    let opens : forwards pm.registers k ≡ true = holds_forward (forwards pm.registers k) (port_at pm k).present (port_at pm k).up was holds in
    let wrong : true ≡ false = sym opens ∙ ap (λ (j : ℕ). forwards pm.registers j) here ∙ forwards_none n pm.registers is in
    absurd (cc)
gives_other n pm frame left below is answers (Notice next due made e) = λ port_is.
    let control : frame.stamp.port ≡ 15 = ap (λ s. s.port) made.1 in
    absurd (omega (arith, below, port_is, control))
gives_other n pm frame left below is answers (Answers next there e) = λ port_is.
    let control : frame.stamp.port ≡ 15 = answers frame there in
    absurd (omega (arith, below, port_is, control))

up_other : (n : ℕ) (pm : PmState) (upward : Queue) (a : Answer) (left : PmState) (new : Queue) → n < 15 → IsWaiting n pm.registers → ((f : Stamped) → pm.answer ≡ Some f → f.stamp.port ≡ control_port) → PmUpRule pm upward (Ok a) left new
    → is_up_from n step.PmUp a ≡ false
up_other n pm upward answer.Idle left new below is answers acts = refl
up_other n pm upward answer.Blocked left new below is answers acts = refl
up_other n pm upward (answer.Up k) left new below is answers acts =
    ne_eqb k n (λ same. gives_other n pm acts.1.0 left below is answers (gives pm acts.1.0 left acts.1.2) (acts.1.1 ∙ same))
up_other n pm upward _ left new below is answers acts = absurd acts

none_up : (n : ℕ) (old : Places) (s : Step) (a : Answer) (new : Places) → n < 15 → IsOrderly old → IsWaiting n old.multiplier.registers → Rule old s (Ok a) new → is_up_from n s a ≡ false
none_up n old step.PmUp a new below orderly is rule = up_other n old.multiplier old.upward a new.multiplier new.upward below is orderly.answer rule.0
none_up n old other a new below orderly is rule = refl

pub run_waits : (n : ℕ) (old : Places) (steps : List Step) (answers : List Answer) (new : Places) (run : Run old steps answers new) → n < 15 → IsOrderly old → IsWaiting n old.multiplier.registers → PassesNone n old steps answers new run
run_waits n old [] answers new run below orderly is = tt
run_waits n old (s ∷ steps) [] new run below orderly is = tt
run_waits n old (s ∷ steps) (a ∷ answers) new run below orderly is =
    let goes = rule_goes n old s a run.0 run.1 in (
      none_fell n old s a run.0 is,
      none_up n old s a run.0 below orderly is run.1,
      λ none. run_waits n run.0 steps answers new run.2 below (orderly_after old s a run.0 orderly run.1) (record { shows = goes.shows is.shows; told = goes.waits none is.told }),
    )

-- a port at which a connection is present is there
pub there_below : (n : ℕ) (now : Places) (c : ℕ) → IsOrderly now → (port_at now.multiplier n).present ≡ Some c → n < 15
there_below n now c orderly there =
    let within : n < length now.multiplier.ports = has_present now.multiplier.ports n c there in
    let count : length now.multiplier.ports ≡ 15 = orderly.room in
    omega arith

each_waits : (old : Places) (steps : List Step) (answers : List Answer) (new : Places) (run : Run old steps answers new) → IsOrderly old → length old.multiplier.registers.bank ≡ 15 → ((n : ℕ) → Shows n old.multiplier.registers) → EachWaits old steps answers new run
each_waits old [] answers new run orderly room shows = tt
each_waits old (s ∷ steps) [] new run orderly room shows = tt
each_waits old (s ∷ steps) (a ∷ answers) new run orderly room shows =
    let still = orderly_after old s a run.0 orderly run.1 in (
      λ n c never now.
          let goes = rule_goes n old s a run.0 run.1 in
          let below = there_below n run.0 c still now in
          run_waits n run.0 steps answers new run.2 below still (record { shows = goes.shows (shows n); told = goes.comes c never now room below }),
      each_waits run.0 steps answers new run.2 still ((rule_goes 0 old s a run.0 run.1).room ∙ room) (λ n. (rule_goes n old s a run.0 run.1).shows (shows n)),
    )

-- the ports of a new multiplier are closed
pub opening_shows : (config : Config) (units : List Attached) (n : ℕ) → Shows n (new_world config units).multiplier.registers
opening_shows config units n = all_closed 15 n
  where
    all_closed : (count n : ℕ) → ShowsTruly (get_or (replicate count opening_port) n opening_port)
    all_closed zero n = λ shown. absurd (omega (arith, shown))
    all_closed (suc count) zero = λ shown. absurd (omega (arith, shown))
    all_closed (suc count) (suc n) = all_closed count n

pub new_devices_wait : (old : Places) (steps : List Step) (answers : List Answer) (new : Places) → NewDevicesWait old steps answers new
new_devices_wait old steps answers new mode config units right before told made whole =
    each_waits (new_world_in mode config units) (before ++ steps) (told ++ answers) new whole (opening_orderly mode config units right) (length-replicate 15 opening_port) (opening_shows config units)
