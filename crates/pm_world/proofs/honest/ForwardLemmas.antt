-- For `disks_are_honest`. A port that is open to a device passes FISes: communication is established there, over each
-- run from a new world.
use Rattle.std.proofs.Common.{◌≡◌, ℕ, zero, suc, ◌*◌, ◌^◌, ◌<◌, ◌==◌, ◌&&◌, Bool, true, false, List, length, replicate, refl, sym, ap, subst, ◌∙◌}
use Rattle.std.proofs.{Common.{inl, inr, get_or, set, bit_and, bit_or, Option, Some, None, Ok, [], ◌∷◌}, lemmas.Bool.{and_from, eq-eqb, lt-ltb}}
use Rattle.std.proofs.lemmas.{Bool.{true≢false}, Nat.Bits.and_pow}
use Rattle.std.specs.Prelude.{◌⊎◌, if◌then◌else◌, is_some, nat_lt}
use Rattle.pm_registers.specs.{Bits.without, declared.port.PortRegisters.PortRegisters, Port.{bit_n, bit_x, controlled, det, inserted, is_open, met}}
use Rattle.pm_registers.specs.{Port.{opened, opening_port, passes, port_written, removed}, RegisterMap.{RegisterMap, after_write, control_port}}
use Rattle.pm_registers.specs.RegisterMap.{control_written, forwards, register_at, settled, summary, with_port as with_registers, written}
use Rattle.pm_registers.specs.RegisterMap as map
use Rattle.pm_registers.proofs.Door.{either}
use Rattle.pm_control.specs.{Answers.registers_after_request, Requests.request_in, declared.request.Request.{Request, TheVariants.Write}}
use Rattle.multiplier.specs.State.{PmState, passes_to, port_at}
use Rattle.pm_world.specs.{Attached.Attached, Places.{Places, is_config, new_world}, Rules.{Rule, Run}, declared.step.{Config.Config, Step.Step}}
use Rattle.pm_world.specs.declared.step.Answer.{Answer}
use Rattle.pm_world.specs.declared.step.Step.TheVariants as step
use Rattle.pm_world.specs.declared.step.Answer.TheVariants as answer
use Rattle.pm_world.proofs.meant.ChangeLemmas.{Change, Falls, Hears, IsBank, Replies, Rises, Stays, Takes, Turns, plain_change, tick_step}
use Rattle.pm_world.proofs.{cleared.Cleared.{set_keeps, write_keeps}, meant.IdentifiedLemmas.push_step, honest.LiveLemmas.{IsLive, IsOpenTo}}
use Rattle.pm_world.proofs.steps.Orderly.{as_many}

-- ## The registers of a port

-- if the port is open and a device is there, communication is established (DET 3)
abbrev pub Meets : PortRegisters → Type 0
Meets p = is_open p ≡ true → p.present ≡ true → det p.status ≡ 3

-- so it passes FISes if bit X of its PSCR[1] is 0
pub open_passes : (p : PortRegisters) → IsOpenTo p → Meets p → passes p ≡ true
open_passes p is meets =
    let none : bit_and p.error bit_x ≡ 0 = and_pow p.error 26 ∙ ap (λ (b : ℕ). b * 2 ^ 26) is.clear in
    and_from (is_open p && det p.status == 3) (bit_and p.error bit_x == 0)
    (and_from (is_open p) (det p.status == 3) is.opens (eq-eqb (det p.status) 3 (meets is.opens is.there)))
    (eq-eqb (bit_and p.error bit_x) 0 none)

pub inserted_meets : (p : PortRegisters) → Meets (inserted p)
inserted_meets p = by_test (is_open p) refl
  where
    by_test : (b : Bool) → is_open p ≡ b → Meets (let next : PortRegisters = record p { present = true } in (if b then met next else next))
    by_test true so = λ opens there. refl
    by_test false so = λ opens there. absurd (true≢false (sym opens ∙ so))

pub removed_meets : (p : PortRegisters) → Meets (removed p)
removed_meets p = by_test (is_open p)
  where
    by_test : (b : Bool) → Meets (let next : PortRegisters = record p { present = false } in
        (if b then record next { status = 0; error = bit_or p.error bit_n } else next))
    by_test true = λ opens there. absurd (cc)
    by_test false = λ opens there. absurd (cc)

opened_meets : (p : PortRegisters) → Meets (opened p)
opened_meets p = by_test p.present refl
  where
    by_test : (b : Bool) → p.present ≡ b → Meets (if b then met p else record p { status = 0 })
    by_test true so = λ opens there. refl
    by_test false so = λ opens there. absurd (true≢false (sym there ∙ so))

controlled_meets : (p : PortRegisters) (value : ℕ) → Meets p → Meets (controlled p value)
controlled_meets p value meets = by_next (record p { control = value }) (is_open (record p { control = value })) refl refl refl
  where
    by_was : (next : PortRegisters) (b : Bool) → is_open p ≡ b → next.present ≡ p.present → next.status ≡ p.status
        → Meets (if b then next else opened next)
    by_was next true so there same = λ opens is. ap det same ∙ meets so (sym there ∙ is)
    by_was next false so there same = opened_meets next

    by_next : (next : PortRegisters) (b : Bool) → is_open next ≡ b → next.present ≡ p.present → next.status ≡ p.status
        → Meets (if b then (if is_open p then next else opened next) else record next { status = (if det value == 4 then 4 else 0) })
    by_next next true so there same = by_was next (is_open p) refl there same
    by_next next false so there same = λ opens is. absurd (true≢false (sym opens ∙ so))

written_meets : (p : PortRegisters) (register value : ℕ) → Meets p → Meets (port_written p register value)
written_meets p register value meets =
    either Meets (register == 1) (record p { error = without p.error value }) (if register == 2 then controlled p value else p) meets
    (either Meets (register == 2) (controlled p value) p (controlled_meets p value meets) meets)

-- ## The registers of the multiplier

-- port n is there, and if it is open to a device, it meets that
pub record MeetsAt (n : ℕ) (m : RegisterMap) : Type 0 where
  pub ports : n < m.ports
  pub meets : Meets (map.port_at m n)

pub open_forwards : (n : ℕ) (m : RegisterMap) → IsOpenTo (map.port_at m n) → MeetsAt n m → forwards m n ≡ true
open_forwards n m is at =
    and_from (nat_lt n m.ports) (passes (map.port_at m n)) (lt-ltb n m.ports at.ports) (open_passes (map.port_at m n) is at.meets)

same_ports : (m : RegisterMap) (port register value : ℕ) → (after_write m port register value).ports ≡ m.ports
same_ports m port register value =
    either (λ (x : RegisterMap). x.ports ≡ m.ports) (is_some (register_at m port register)) (settled (summary m) (written m port register value)) m
    (either (λ (x : RegisterMap). x.ports ≡ m.ports) (port == control_port) (control_written m register value)
    (with_registers m port (port_written (map.port_at m port) register value))
    (either (λ (x : RegisterMap). x.ports ≡ m.ports) (register == 33) (record m { mask = value })
    (if register == 96 then record m { enabled = bit_and value 8 } else m) refl
    (either (λ (x : RegisterMap). x.ports ≡ m.ports) (register == 96) (record m { enabled = bit_and value 8 }) m refl refl))
    refl) refl

request_meets : (n : ℕ) (m : RegisterMap) (request : Option Request) → MeetsAt n m → MeetsAt n (registers_after_request m request)
request_meets n m (Some (Write a value)) at = record {
  ports = subst (λ (k : ℕ). n < k) (sym (same_ports m a.port a.register value)) at.ports;
  meets = write_keeps Meets m n a.port a.register value (λ here was. written_meets (map.port_at m a.port) a.register value was) at.meets;
}
request_meets n m other at = at

set_meets : (n k : ℕ) (m new : RegisterMap) (q : PortRegisters) → new.bank ≡ set m.bank k q → Meets q → Meets (map.port_at m n)
    → Meets (map.port_at new n)
set_meets n k m new q bank here meets =
    subst (λ (l : List PortRegisters). Meets (get_or l n opening_port)) (sym bank)
    (set_keeps Meets m.bank k q opening_port n (λ same was. here) meets)

bank_meets : (n : ℕ) (m new : RegisterMap) → IsBank m new → MeetsAt n m → MeetsAt n new
bank_meets n m new is at = record { ports = subst (λ (k : ℕ). n < k) (sym is.0) at.ports; meets = by_bank is.1 }
  where
    by_bank : (new.bank ≡ m.bank)
        ⊎ ((k : ℕ) × ((new.bank ≡ set m.bank k (inserted (map.port_at m k))) ⊎ (new.bank ≡ set m.bank k (removed (map.port_at m k)))))
        → Meets (map.port_at new n)
    by_bank (inl same) = subst (λ (l : List PortRegisters). Meets (get_or l n opening_port)) (sym same) at.meets
    by_bank (inr changed) = elim changed.1 [
      | inl came ↦ set_meets n changed.0 m new (inserted (map.port_at m changed.0)) came (inserted_meets (map.port_at m changed.0)) at.meets
      | inr went ↦ set_meets n changed.0 m new (removed (map.port_at m changed.0)) went (removed_meets (map.port_at m changed.0)) at.meets
    ]

-- ## A step

-- port n of the multiplier is there, and meets its device
abbrev pub IsMet : ℕ → Places → Type 0
IsMet n now = MeetsAt n now.multiplier.registers

module _ (n : ℕ) (old : Places) (new : Places) (at : IsMet n old) where
  same_met : new.multiplier ≡ old.multiplier → IsMet n new
  same_met same = subst (λ (pm : PmState). MeetsAt n pm.registers) (sym same) at

  banks : IsBank old.multiplier.registers new.multiplier.registers → IsMet n new
  banks is = bank_meets n old.multiplier.registers new.multiplier.registers is at

  by_change : (s : Step) (a : Answer) → Change old s a new → IsMet n new
  by_change s a (Stays aside waits up) = banks aside.bank
  by_change s a (Hears f host link own registers none is up) =
      subst (MeetsAt n) (sym registers) (request_meets n old.multiplier.registers (request_in f.bytes) at)
  by_change s a (Falls f host link other bank waits up) = banks bank
  by_change s a (Rises f aside none notice other waits up) = banks aside.bank
  by_change s a (Replies f aside other was now up) = banks aside.bank
  by_change s a (Takes f report turn down up) = same_met turn.pm
  by_change s a (Turns t silent turn down up) = same_met turn.pm

  pub met_after : (s : Step) (a : Answer) → Rule old s (Ok a) new → IsMet n new
  met_after s answer.Ticked rule =
      let is : Rule old step.Tick (Ok answer.Ticked) new =
      subst (λ (t : Step). Rule old t (Ok answer.Ticked) new) (tick_step old s new rule) rule in
      same_met (ap (λ (w : Places). w.multiplier) is.1)
  met_after s answer.Pushed rule =
      let is : Rule old step.HostPush (Ok answer.Pushed) new =
      subst (λ (t : Step). Rule old t (Ok answer.Pushed) new) (push_step old s new rule) rule in
      same_met (ap (λ (w : Places). w.multiplier) is.1)
  met_after s a rule = by_change s a (plain_change old new s a tt rule)

-- ## A run

pub run_met : (n : ℕ) (old : Places) (steps : List Step) (answers : List Answer) (new : Places) → Run old steps answers new → IsMet n old
    → IsMet n new
run_met n old [] [] new run at = subst (IsMet n) (sym run) at
run_met n old (s ∷ steps) (a ∷ answers) new run at = run_met n run.0 steps answers new run.2 (met_after n old run.0 at s a run.1)
run_met n old [] (a ∷ answers) new run at = absurd run
run_met n old (s ∷ steps) [] new run at = absurd run

pub opening_met : (config : Config) (units : List Attached) → is_config config (length units) ≡ true → (n : ℕ) → n < length units
    → IsMet n (new_world config units)
opening_met config units fits n below = record {
  ports = subst (λ (k : ℕ). n < k) (as_many config (length units) fits) below;
  meets = all_meet 15 n;
}
  where
    all_meet : (count n : ℕ) → Meets (get_or (replicate count opening_port) n opening_port)
    all_meet zero n = λ opens there. absurd (cc)
    all_meet (suc count) zero = λ opens there. absurd (cc)
    all_meet (suc count) (suc n) = all_meet count n

-- each world to which a run from a new one leads
pub met_at : (config : Config) (units : List Attached) → is_config config (length units) ≡ true → (n : ℕ) → n < length units
    → (steps : List Step) (answers : List Answer) (now : Places)
    → Run (new_world config units) steps answers now → IsMet n now
met_at config units fits n below steps answers now run =
    run_met n (new_world config units) steps answers now run (opening_met config units fits n below)

-- ## A live unit

-- what the host sends to a port that is open to connection c goes down for it
pub live_passes : (n c : ℕ) (now : Places) → IsMet n now → IsLive n c now → passes_to now.multiplier n ≡ Some c
live_passes n c now at live =
    ap (λ (b : Bool). if b then (port_at now.multiplier n).present else None) (open_forwards n now.multiplier.registers live.opens at) ∙ live.here
