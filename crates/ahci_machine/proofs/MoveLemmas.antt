-- Moves one after another.
use Rattle.std.proofs.Common.{◌≡◌, ◌+◌, ℕ, arith, inr, suc, Option, None, Some, Result, Ok, Bool, true, refl, ap, subst, ◌∙◌, sym, inl}
use Rattle.std.proofs.lemmas.Bool.{cases_lt}
use Rattle.std.specs.{Prelude.{IfNone, min}, declared.alloc.AllocError.AllocError}
use Rattle.fan_out.specs.FanOuts.{port_count}
use Rattle.ahci_machine.specs.{Resting.{ArePortsQuiet, ArePortsQuietIn}, Acts.{Asks, MayDo, MayStep, Moves, Steps, StepsBy, TurnsNext, budget, moves, turned}}
use Rattle.ahci_machine.specs.{Asked.request_of, States.MachineState, declared.act.Act.Act}
use Rattle.ahci_machine.specs.declared.act.Act.TheVariants as act
use Rattle.ahci_machine.specs.declared.request.Request.TheVariants as request
use Rattle.slots.specs.Table.{IsTable}
use Rattle.hba_fbs.specs.Views.{IsCorePort}
use Rattle.ahci_controller.specs.{Rules.IsRuled, declared.next.Next.Next}

pub no_moves : (m : MachineState) → StepsBy 0 m m
unfolding StepsBy
no_moves m = refl

with_one : (count : ℕ) (old middle new : MachineState) (a : Act) → StepsBy count old middle → Steps middle a new → request_of a ≡ None
    → IsCorePort new.controller.core → IsTable new.controller.core.slots → IsRuled new.controller → StepsBy (suc count) old new
unfolding StepsBy
with_one count old middle new a so_far step quiet port slots rules = record {
  middle = middle;
  act = a;
  before = so_far;
  quiet = quiet;
  last = step;
  rules = record { port = port; slots = slots; rules = rules };
}

behind : (n : ℕ) → suc n ≡ n + 1
behind n = grind arith

pub one_more : (count : ℕ) (old middle new : MachineState) (a : Act) → StepsBy count old middle → Steps middle a new → request_of a ≡ None
    → IsCorePort new.controller.core → IsTable new.controller.core.slots → IsRuled new.controller → StepsBy (count + 1) old new
one_more count old middle new a so_far step quiet port slots rules =
    subst (λ (n : ℕ). StepsBy n old new) (behind count) (with_one count old middle new a so_far step quiet port slots rules)

pub counted : (count : ℕ) (old new : MachineState) → StepsBy count old new → Moves old new
counted count old new steps = record { count = count; steps = steps }

pub again : (count : ℕ) (old new : MachineState) → StepsBy count old new → count ≡ budget → Asks old request.Again new
again count old new steps all = inr (refl, subst (λ (n : ℕ). StepsBy n old new) all steps)

-- the controller has its turn before the ports
pub turns_first : (old new : MachineState) (said : Next) (first : Bool) → TurnsNext said (record old { first = first }) new → Steps old (act.Turns said) new
turns_first old new said first h = record {
  middle = record new { first = old.first };
  does = record { none = h.none; written = record { rests = h.written.rests; none = h.written.none }; turns = h.turns; rest = ap (λ (m : MachineState). record m { first = old.first }) h.rest };
  turns = refl;
}

-- nothing moved
pub rests_same : (old new : MachineState) → new ≡ old → Steps old act.Rests new
rests_same old new same = record {
  middle = old;
  does = inl refl;
  turns = same ∙ ap (λ (m : MachineState). turned old m.first m.turn) (sym same);
}

-- ---- a move is no rest

abbrev ok : Act → Result Act AllocError
ok a = Ok a

still : moves act.Rests ≡ true → ⊥
still h = cc h

one_act : (a b : Act) → ok a ≡ ok b → a ≡ b
one_act a b same = cc same

pub no_rest : (A : Type 0) (a : Act) → moves a ≡ true → ok a ≡ ok act.Rests → A
no_rest A a is same = absurd (still (subst (λ (x : Act). moves x ≡ true) (one_act a act.Rests same) is))

pub done_moves : (old new : MachineState) (o : Option Act) (a : Act) → MayDo old o new → o ≡ Some a → moves a ≡ true
done_moves old new o a does is = (subst (λ (x : Option Act). MayDo old x new) is does).0

pub step_moves : (old new : MachineState) (o : Option Act) (a : Act) → MayStep old o new → o ≡ Some a → moves a ≡ true
step_moves old new o a does is = (subst (λ (x : Option Act). MayStep old x new) is does).0

-- ---- the ports have their turns

quiet_all : (m : MachineState) (turn ports least : ℕ) → ports ≡ port_count m.fan → least ≡ min turn ports
    → ArePortsQuietIn turn ports m → ArePortsQuietIn 0 least m → ArePortsQuiet m
quiet_all m turn ports least all is later first port small inside = elim (cases_lt port turn) [
  | inl before ↦ first port (omega arith) (omega (arith, all, is, small, before)) inside
  | inr behind ↦ later port behind (omega (arith, all, small)) inside
]

pub quiet_both : (old middle : MachineState) (turn ports least : ℕ) (early late : Option Act) → ports ≡ port_count old.fan → least ≡ min turn ports
    → early ≡ None → late ≡ None → MayStep old early middle → IfNone early (ArePortsQuietIn turn ports old)
    → IfNone late (ArePortsQuietIn 0 least middle) → ArePortsQuiet old
quiet_both old middle turn ports least None None all is a b same later first =
    quiet_all old turn ports least all is later (subst (λ (m : MachineState). ArePortsQuietIn 0 least m) same first)
quiet_both old middle turn ports least None (Some x) all is a b same later first = cc b
quiet_both old middle turn ports least (Some x) late all is a b same later first = cc a
