-- A stretch, cut where a command goes.
use Rattle.std.proofs.Common.{◌≡◌, ◌⊎◌, ℕ, List, [], ◌∷◌, ◌++◌, append_assoc, refl, sym, ap, subst, ◌∙◌, inl, inr}
use Rattle.fis_view.specs.Frames.{Stamped}
use Rattle.slots.specs.declared.work.Kind.{Kind}
use Rattle.ahci_controller.specs.declared.next.Next.{Next}
use Rattle.ahci_controller.specs.declared.next.Next.TheVariants as next
use Rattle.controller_laws.specs.Events as call
use Rattle.controller_laws.specs.Events.{Event}
use Rattle.ahci_machine.specs.{Gathers.host_stamp, States.{HasRules, MachineState}}
use Rattle.ahci_machine.specs.declared.act.Act.TheVariants as act
use Rattle.machine_laws.specs.{ControllerLaws.{RunsRuled, calls_in}, Controllers.deed_calls, Deeds.{Deed, Does, Missed, Moved, Supplied}}
use Rattle.machine_laws.specs.{Falling.sent_in, Feeding.{came_by, came_in}}
use Rattle.machine_theorem.proofs.{BroughtAt.{Brought, brought_behind}, Cut.{Cut, cut_here, cut_more}, Few.{AreFew, are_few}, Ordered.{loses, misses, rests, supplies}}

-- ---- what led to a stretch, and then it

record From (old at : MachineState) (deeds : List Deed) (now : MachineState) (run : RunsRuled at deeds now) : Type 0 where
  all : RunsRuled old deeds now
  calls : calls_in old deeds now all ≡ calls_in at deeds now run
  came : (dev : ℕ) (x : List ℕ) → came_in dev x old deeds now all ≡ came_in dev x at deeds now run

pub record Joined (old : MachineState) (before : List Deed) (at : MachineState) (first : RunsRuled old before at) (deeds : List Deed) (now : MachineState)
    (run : RunsRuled at deeds now) : Type 0 where
  pub all : RunsRuled old (before ++ deeds) now
  pub calls : calls_in old (before ++ deeds) now all ≡ calls_in old before at first ++ calls_in at deeds now run
  pub came : (dev : ℕ) (x : List ℕ) → came_in dev x old (before ++ deeds) now all ≡ came_in dev (came_in dev x old before at first) at deeds now run

pub joined : (before : List Deed) (old at : MachineState) (first : RunsRuled old before at) (deeds : List Deed) (now : MachineState) (run : RunsRuled at deeds now)
    → Joined old before at first deeds now run
joined [] old at first deeds now run =
    let it = subst (λ (m : MachineState). (r : RunsRuled m deeds now) → From old m deeds now r) (sym first.1) (λ r. record { all = r; calls = refl; came = λ dev x. refl }) run in
    record { all = it.all; calls = it.calls; came = it.came }
joined (deed ∷ before) old at first deeds now run =
    let it = joined before first.1.0 at first.1.2 deeds now run in
    let events : List Event = deed_calls old deed first.1.0 first.1.1 in
    record {
      all = (first.0, (first.1.0, first.1.1, it.all));
      calls = ap (λ (l : List Event). events ++ l) it.calls ∙ sym (append_assoc events (calls_in first.1.0 before at first.1.2) (calls_in at deeds now run));
      came = λ dev x. it.came dev (came_by dev old deed first.1.0 first.1.1 x);
    }

-- ---- a deed is one call at most

abbrev AtMostOne : List Event → Type 0
AtMostOne l = (l ≡ []) ⊎ ((e : Event) × (l ≡ e ∷ []))

few_one : (l : List Event) → AreFew l → AtMostOne l
few_one [] few = inl refl
few_one (e ∷ []) few = inr (e, refl)
few_one (e ∷ f ∷ later) few = absurd few

abbrev said_in : Next → List Event → Next
said_in n (call.Turned said ∷ later) = said
said_in n other = n

none_sent : {A : Type 0} (l : List Event) (d slot : ℕ) (fis : List ℕ) → sent_in l ≡ [] → l ≡ call.Turned (next.Order d slot fis) ∷ [] → A
none_sent l d slot fis none is = absurd (no_cons (record { bytes = fis; stamp = host_stamp d }) (sym none ∙ ap sent_in is))
  where
    no_cons : (o : Stamped) → [] ≡ o ∷ [] → ⊥
    no_cons o e = cc

-- by which a command goes
order_deed : (deed : Deed) (old new : MachineState) (does : Does old deed new) (d slot : ℕ) (fis : List ℕ) → deed_calls old deed new does ≡ call.Turned (next.Order d slot fis) ∷ []
    → deed ≡ Moved (act.Turns (next.Order d slot fis))
order_deed (Moved (act.Turns said)) old new does d slot fis is = ap (λ (l : List Event). Moved (act.Turns (said_in said l))) is
order_deed (Moved (act.Gathers k answer)) old new does d slot fis is = absurd (cc)
order_deed (Moved act.Rests) old new does d slot fis is = none_sent _ d slot fis (rests old does.middle does.does) is
order_deed (Moved (act.Loses why)) old new does d slot fis is = none_sent _ d slot fis (loses old.incoming why) is
order_deed (Moved a) old new does d slot fis is = absurd (cc)
order_deed (Supplied w bytes) old new does d slot fis is = none_sent _ d slot fis (supplies w bytes old does.answer new does.supplies) is
order_deed (Missed w) old new does d slot fis is = none_sent _ d slot fis (misses w old does.answer new does.misses) is
order_deed deed old new does d slot fis is = absurd (cc)

-- ---- the deed in a stretch

record Found (deed : Deed) (old : MachineState) (deeds : List Deed) (now : MachineState) (run : RunsRuled old deeds now) (front : List Event) (e : Event) : Type 0 where
  cut : Cut deed old deeds now run
  prior : calls_in old cut.sooner cut.mid cut.led ≡ front
  here : deed_calls cut.mid deed cut.next cut.does ≡ e ∷ []
  came : (dev : ℕ) (x : List ℕ) → came_in dev x old deeds now run
      ≡ came_in dev (came_by dev cut.mid deed cut.next cut.does (came_in dev x old cut.sooner cut.mid cut.led)) cut.next cut.later now cut.rest
  rules : HasRules cut.mid
  brought : (r : Kind) (n s k : ℕ) → Brought r n s k cut.mid (deed ∷ cut.later) now (rules, (cut.next, cut.does, cut.rest)) → Brought r n s k old deeds now run

record HasFound (old : MachineState) (deeds : List Deed) (now : MachineState) (run : RunsRuled old deeds now) (front : List Event) (e : Event) : Type 0 where
  deed : Deed
  found : Found deed old deeds now run front e

abbrev head_event : Event → List Event → Event
head_event e [] = e
head_event e (x ∷ later) = x

abbrev tail_events : List Event → List Event
tail_events [] = []
tail_events (x ∷ later) = later

module _ (old : MachineState) (deed : Deed) (later : List Deed) (now : MachineState) (run : RunsRuled old (deed ∷ later) now) where
  abbrev by_it : List Event
  by_it = deed_calls old deed run.1.0 run.1.1

  abbrev rest : List Event
  rest = calls_in run.1.0 later now run.1.2

  behind : (one front : List Event) (e : Event) → by_it ≡ one → HasFound run.1.0 later now run.1.2 front e → HasFound old (deed ∷ later) now run (one ++ front) e
  unfolding cut_more
  behind one front e is it = record {
    deed = it.deed;
    found = record {
      cut = cut_more it.deed deed later old now run it.found.cut;
      prior = ap (λ (l : List Event). l ++ calls_in run.1.0 it.found.cut.sooner it.found.cut.mid it.found.cut.led) is ∙ ap (λ (l : List Event). one ++ l) it.found.prior;
      here = it.found.here;
      came = λ dev x. it.found.came dev (came_by dev old deed run.1.0 run.1.1 x);
      rules = it.found.rules;
      brought = λ r n s k b. brought_behind r n s k deed old later now run (it.found.brought r n s k b);
    };
  }

  here : (e : Event) → by_it ≡ e ∷ [] → HasFound old (deed ∷ later) now run [] e
  unfolding cut_here
  here e is = record { deed = deed; found = record { cut = cut_here deed later old now run; prior = refl; here = is; came = λ dev x. refl; rules = run.0; brought = λ r n s k b. b } }

  one_case : (ih : (front : List Event) (e : Event) (back : List Event) → rest ≡ front ++ e ∷ back → HasFound run.1.0 later now run.1.2 front e)
      → (front : List Event) (e : Event) (back : List Event) (d : Event) → by_it ≡ d ∷ [] → d ∷ rest ≡ front ++ e ∷ back → HasFound old (deed ∷ later) now run front e
  one_case ih [] e back d is same = here e (is ∙ ap (λ (x : Event). x ∷ []) (ap (head_event d) same))
  one_case ih (x ∷ front) e back d is same =
      subst (λ (y : Event). HasFound old (deed ∷ later) now run (y ∷ front) e) (ap (head_event d) same) (behind (d ∷ []) front e is (ih front e back (ap tail_events same)))

  step : (ih : (front : List Event) (e : Event) (back : List Event) → rest ≡ front ++ e ∷ back → HasFound run.1.0 later now run.1.2 front e)
      → (front : List Event) (e : Event) (back : List Event) → by_it ++ rest ≡ front ++ e ∷ back → HasFound old (deed ∷ later) now run front e
  step ih front e back same = elim (few_one by_it (are_few deed old run.1.0 run.1.1)) [
    | inl none ↦ behind [] front e none (ih front e back (ap (λ (l : List Event). l ++ rest) (sym none) ∙ same))
    | inr some ↦ one_case ih front e back some.0 some.1 (ap (λ (l : List Event). l ++ rest) (sym some.1) ∙ same)
  ]

no_event : {A : Type 0} (front : List Event) (e : Event) (back : List Event) → [] ≡ front ++ e ∷ back → A
no_event [] e back is = absurd (cc)
no_event (x ∷ front) e back is = absurd (cc)

find : (deeds : List Deed) (old now : MachineState) (run : RunsRuled old deeds now) (front : List Event) (e : Event) (back : List Event)
    → calls_in old deeds now run ≡ front ++ e ∷ back → HasFound old deeds now run front e
find [] old now run front e back same = no_event front e back same
find (deed ∷ later) old now run front e back same =
    step old deed later now run (λ front e back is. find later run.1.0 now run.1.2 front e back is) front e back same

-- A command goes by this deed. These calls were before, and what was read for a device by then goes on behind it; what a FIS brings from this deed on, it
-- brings in the run.
pub record OrderAt (d slot : ℕ) (fis : List ℕ) (old : MachineState) (deeds : List Deed) (now : MachineState) (run : RunsRuled old deeds now) (front : List Event) : Type 0 where
  pub cut : Cut (Moved (act.Turns (next.Order d slot fis))) old deeds now run
  pub prior : calls_in old cut.sooner cut.mid cut.led ≡ front
  pub came : (dev : ℕ) (x : List ℕ) → came_in dev x old deeds now run ≡ came_in dev (came_in dev x old cut.sooner cut.mid cut.led) cut.next cut.later now cut.rest
  pub rules : HasRules cut.mid
  pub brought : (r : Kind) (n s k : ℕ) → Brought r n s k cut.mid (Moved (act.Turns (next.Order d slot fis)) ∷ cut.later) now (rules, (cut.next, cut.does, cut.rest))
      → Brought r n s k old deeds now run

pub order_at : (d slot : ℕ) (fis : List ℕ) (deeds : List Deed) (old now : MachineState) (run : RunsRuled old deeds now) (front back : List Event)
    → calls_in old deeds now run ≡ front ++ call.Turned (next.Order d slot fis) ∷ back → OrderAt d slot fis old deeds now run front
order_at d slot fis deeds old now run front back same =
    let x : Event = call.Turned (next.Order d slot fis) in
    let it : HasFound old deeds now run front x = find deeds old now run front x back same in
    let c = it.found.cut in
    of_deed d slot fis deeds old now run front (subst (λ (y : Deed). Found y old deeds now run front x) (order_deed it.deed c.mid c.next c.does d slot fis it.found.here) it.found)
  where
    of_deed : (d slot : ℕ) (fis : List ℕ) (deeds : List Deed) (old now : MachineState) (run : RunsRuled old deeds now) (front : List Event)
        → Found (Moved (act.Turns (next.Order d slot fis))) old deeds now run front (call.Turned (next.Order d slot fis)) → OrderAt d slot fis old deeds now run front
    of_deed d slot fis deeds old now run front f = record { cut = f.cut; prior = f.prior; came = f.came; rules = f.rules; brought = f.brought }
