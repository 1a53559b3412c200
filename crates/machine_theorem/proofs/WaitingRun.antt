-- Where the guest keeps to commands that are not queued by each deed of a run, it does so over a run of its controller. No more commands are sent to the device
-- than by deeds its slots leave the state of waiting, and one more where a slot waits.
use Rattle.std.proofs.Common.{◌≡◌, ℕ, ◌+◌, ◌≤◌, ◌&&◌, Bool, true, false, not, List, [], ◌∷◌, ◌++◌, refl, sym, ap, subst, arith}
use Rattle.ahci_controller.specs.States.{ControllerState}
use Rattle.controller_laws.specs.Events.{Event, Runs}
use Rattle.ahci_machine.specs.States.{MachineState}
use Rattle.machine_laws.specs.{ControllerLaws.{ControllerRuns, RunsRuled, calls_in}, Controllers.{ControllerGoesOn, GathersDue, StaysDue, deed_calls}}
use Rattle.machine_laws.specs.Deeds.{Deed}
use Rattle.machine_theorem.specs.{Brought.AllTakenWell, Ending.AllUnqueued, Following.AllHeardWell, PioIn.{AllKeepUnqueued}}
use Rattle.machine_theorem.specs.{Singles.AllOfDevice, Tags.once_if, Waits.{commanded_in}}
use Rattle.machine_theorem.specs.Waits.{is_commanded, waits_in}
use Rattle.machine_theorem.proofs.{Cut.{Counting, total}, Few.{AreFew, are_few}, Ordered.first_ruled, TakenWell.deed_well}
use Rattle.machine_theorem.proofs.Waiting.{commanded_free, commanded_waits}

-- ---- what is counted

-- a deed sends a command to the device: it is one call at most
abbrev pub sends_by : (dev : ℕ) → ControllerState → List Event → ℕ
sends_by dev c [] = 0
sends_by dev c (e ∷ later) = once_if (is_commanded dev c e)

abbrev pub sends_to : (dev : ℕ) → Counting
sends_to dev old deed new does = sends_by dev old.controller (deed_calls old deed new does)

-- by a deed a slot of the device leaves the state of waiting
abbrev pub leaves : (dev : ℕ) → Counting
leaves dev old deed new does = once_if (waits_in dev old.controller && not (waits_in dev new.controller))

one_commanded : (dev : ℕ) (l : List Event) → AreFew l → (c d : ControllerState) (run : Runs c l d) → commanded_in dev c l d run ≡ sends_by dev c l
one_commanded dev [] few c d run = refl
one_commanded dev (e ∷ []) few c d run = omega arith
one_commanded dev (e ∷ f ∷ later) few c d run = absurd few

leaves_or : (a b : Bool) → once_if a ≤ once_if (a && not b) + once_if b
leaves_or true true = omega arith
leaves_or true false = omega arith
leaves_or false true = omega arith
leaves_or false false = omega arith

one_step : (dev : ℕ) (l : List Event) → AreFew l → (c d : ControllerState) → Runs c l d
    → sends_by dev c l + once_if (waits_in dev c) ≤ once_if (waits_in dev c && not (waits_in dev d)) + once_if (waits_in dev d)
one_step dev [] few c d run = let stays = leaves_or (waits_in dev c) (waits_in dev d) in omega (arith, stays)
one_step dev (e ∷ []) few c d run = by (is_commanded dev c e) refl
  where
    by : (b : Bool) → is_commanded dev c e ≡ b
        → once_if (is_commanded dev c e) + once_if (waits_in dev c) ≤ once_if (waits_in dev c && not (waits_in dev d)) + once_if (waits_in dev d)
    by true is =
        let mid : ControllerState = run.1.0 in
        let one = ap once_if is in
        let none = ap once_if (commanded_free dev e c mid run.0 run.1.2.0 run.1.1 is) in
        let now = ap (λ (x : ControllerState). once_if (waits_in dev x)) run.1.2.1 in
        let waits = ap once_if (commanded_waits dev e c mid run.0 run.1.2.0 run.1.1 is) in
        omega (arith, one, none, now, waits)
    by false is =
        let zero = ap once_if is in
        let stays = leaves_or (waits_in dev c) (waits_in dev d) in
        omega (arith, zero, stays)
one_step dev (e ∷ f ∷ later) few c d run = absurd few

-- ---- over the calls of a controller

record WaitingCalls (W : Type 0) (many : Bool) (n dev : ℕ) (old : ControllerState) (events : List Event) (new : ControllerState) : Type 0 where
  run : Runs old events new
  of : AllOfDevice many n dev old events new run
  unqueued : AllUnqueued dev old events new run
  well : W → AllHeardWell dev old events new run

record Both (W : Type 0) (many : Bool) (n dev : ℕ) (a : ControllerState) (events : List Event) (c : ControllerState) (sum : ℕ) : Type 0 where
  calls : WaitingCalls W many n dev a events c
  commanded : commanded_in dev a events c calls.run ≡ sum

module _ (W : Type 0) (many : Bool) (n dev : ℕ) where
  abbrev Are : ControllerState → List Event → ControllerState → Type 0
  Are a events c = WaitingCalls W many n dev a events c

  abbrev sent : (a : ControllerState) (events : List Event) (c : ControllerState) → Are a events c → ℕ
  sent a events c it = commanded_in dev a events c it.run

  behind_none : (ys : List Event) (a b c : ControllerState) → b ≡ a → (later : Are b ys c) → Both W many n dev a ys c (sent b ys c later)
  behind_none ys a b c same =
      subst (λ (x : ControllerState). (later : Are x ys c) → Both W many n dev a ys c (sent x ys c later)) (sym same) (λ later. record { calls = later; commanded = refl })

  waiting_both : (xs ys : List Event) (a b c : ControllerState) (first : Are a xs b) (later : Are b ys c)
      → Both W many n dev a (xs ++ ys) c (sent a xs b first + sent b ys c later)
  waiting_both [] ys a b c first later =
      let it = behind_none ys a b c first.run.1 later in
      let sum = it.commanded in
      record { calls = it.calls; commanded = omega (arith, sum) }
  waiting_both (e ∷ xs) ys a b c first later =
      let one : Are first.run.1.0 xs b =
      record { run = first.run.1.2; of = first.of.1; unqueued = first.unqueued.2; well = λ w. (first.well w).1 } in
      let rest = waiting_both xs ys first.run.1.0 b c one later in
      let sum = rest.commanded in
      record {
        calls = record {
          run = (first.run.0, (first.run.1.0, first.run.1.1, rest.calls.run));
          of = (first.of.0, rest.calls.of);
          unqueued = (first.unqueued.0, first.unqueued.1, rest.calls.unqueued);
          well = λ w. ((first.well w).0, rest.calls.well w);
        };
        commanded = omega (arith, sum);
      }

-- ---- over a run of a machine

pub record WaitingRun (many : Bool) (n dev : ℕ) (at : MachineState) (deeds : List Deed) (now : MachineState) (run : RunsRuled at deeds now) : Type 0
  where
    pub runs : ControllerRuns at deeds now run
    pub of : AllOfDevice many n dev at.controller (calls_in at deeds now run) now.controller runs.calls
    pub unqueued : AllUnqueued dev at.controller (calls_in at deeds now run) now.controller runs.calls
    -- and the FISes of the device are heard well, if they are taken well
    pub well : AllTakenWell dev at deeds now run → AllHeardWell dev at.controller (calls_in at deeds now run) now.controller runs.calls
    pub commanded : commanded_in dev at.controller (calls_in at deeds now run) now.controller runs.calls ≡ total (sends_to dev) at deeds now run
    pub few : total (sends_to dev) at deeds now run + once_if (waits_in dev at.controller)
        ≤ total (leaves dev) at deeds now run + once_if (waits_in dev now.controller)

pub waiting_run : ControllerGoesOn → StaysDue → (many : Bool) (n dev : ℕ) (deeds : List Deed) (at now : MachineState) (run : RunsRuled at deeds now)
    → GathersDue at → AllKeepUnqueued many n dev at deeds now run → WaitingRun many n dev at deeds now run
waiting_run goes stays many n dev [] at now run due keeps =
    let same : once_if (waits_in dev now.controller) ≡ once_if (waits_in dev at.controller) =
    ap (λ (m : MachineState). once_if (waits_in dev m.controller)) run.1 in
    record {
      runs = record {
        calls = (record { port = run.0.port; slots = run.0.slots; rules = run.0.rules }, ap (λ (m : MachineState). m.controller) run.1);
        due = subst GathersDue (sym run.1) due;
      };
      of = tt;
      unqueued = tt;
      well = λ taken. tt;
      commanded = refl;
      few = omega (arith, same);
    }
waiting_run goes stays many n dev (deed ∷ later) at now run due keeps =
    let mid : MachineState = run.1.0 in
    let w = waiting_run goes stays many n dev later mid now run.1.2 (stays at deed mid run.1.1 due) keeps.1 in
    let here : List Event = deed_calls at deed mid run.1.1 in
    let calls : Runs at.controller here mid.controller = goes at deed mid run.1.1 run.0 (first_ruled later mid now run.1.2) due in
    let few : AreFew here = are_few deed at mid run.1.1 in
    let all = waiting_both (AllTakenWell dev at (deed ∷ later) now run) many n dev here (calls_in mid later now run.1.2) at.controller mid.controller
    now.controller
    (record {
      run = calls;
      of = keeps.0.of calls;
      unqueued = keeps.0.unqueued calls;
      well = λ taken. deed_well dev at deed mid run.1.1 taken.0 calls;
    })
    (record { run = w.runs.calls; of = w.of; unqueued = w.unqueued; well = λ taken. w.well taken.1 }) in
    let it = all.calls in
    let sum = all.commanded in
    let one = one_commanded dev here few at.controller mid.controller calls in
    let rest = w.commanded in
    let step = one_step dev here few at.controller mid.controller calls in
    let least = w.few in
    record {
      runs = record { calls = it.run; due = w.runs.due };
      of = it.of;
      unqueued = it.unqueued;
      well = it.well;
      commanded = omega (arith, sum, one, rest);
      few = omega (arith, step, least);
    }
