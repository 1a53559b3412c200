-- The last FIS of a stretch of calls that is a command for a disk, and what goes before it.
use Rattle.std.proofs.Common.{◌≡◌, ℕ, zero, suc, ◌+◌, ◌≤◌, Bool, true, List, [], ◌∷◌, ◌++◌, append_assoc, append-nil, length, refl, sym, ap, subst}
use Rattle.std.proofs.{Common.{◌∙◌, arith}, lemmas.List.{length-append}}
use Rattle.fis_view.specs.Frames.{marked}
use Rattle.ahci_controller.specs.States.{ControllerState}
use Rattle.ahci_controller.specs.declared.next.Next.TheVariants as next
use Rattle.controller_laws.specs.Events as call
use Rattle.controller_laws.specs.Events.{Event, Runs}
use Rattle.ahci_machine.specs.Gathers.{host_stamp}
use Rattle.machine_theorem.specs.{Identity.is_for, InTurn.is_asking, Singles.AllOfDevice, Waits.commanded_in}
use Rattle.machine_theorem.proofs.{Commanded.{AreNoCommands, IsAsking, IsNoCommand, asked, asked_both, asked_one, asking_is}, OneConn.no_length}

module _ (many : Bool) (n dev : ℕ) where
  pub record LastSent (old : ControllerState) (events : List Event) (now : ControllerState) (run : Runs old events now) : Type 0 where
    pub before : List Event
    pub at : ControllerState
    pub led : Runs old before at
    pub to : ℕ
    pub slot : ℕ
    pub fis : List ℕ
    pub later : List Event
    pub rest : Runs at (call.Turned (next.Order to slot fis) ∷ later) now
    pub is : events ≡ before ++ call.Turned (next.Order to slot fis) ∷ later
    pub own : is_for many n (record { bytes = fis; stamp = host_stamp to }) ≡ true
    pub asks : is_asking (marked fis 0) ≡ true
    pub last : asked many n events ≡ asked many n before ++ marked fis 0 ∷ []
    pub commanded : commanded_in dev old events now run ≡ commanded_in dev old before at led + commanded_in dev at (call.Turned (next.Order to slot fis) ∷ later) now rest
    pub none : AreNoCommands before
    pub of : AllOfDevice many n dev old before at led
    pub of_rest : AllOfDevice many n dev at (call.Turned (next.Order to slot fis) ∷ later) now rest

  here_at : (to slot : ℕ) (fis : List ℕ) (later : List Event) (old now : ControllerState) (run : Runs old (call.Turned (next.Order to slot fis) ∷ later) now)
      → AllOfDevice many n dev old (call.Turned (next.Order to slot fis) ∷ later) now run
      → is_for many n (record { bytes = fis; stamp = host_stamp to }) ≡ true → is_asking (marked fis 0) ≡ true
      → asked many n (call.Turned (next.Order to slot fis) ∷ []) ≡ marked fis 0 ∷ [] → asked many n later ≡ []
      → LastSent old (call.Turned (next.Order to slot fis) ∷ later) now run
  here_at to slot fis later old now run of own asks one none =
      let x : Event = call.Turned (next.Order to slot fis) in
      record {
        before = [];
        at = old;
        led = (run.0, refl);
        to = to;
        slot = slot;
        fis = fis;
        later = later;
        rest = run;
        is = refl;
        own = own;
        asks = asks;
        last = asked_both many n (x ∷ []) later ∙ ap (λ (l : List (List ℕ)). asked many n (x ∷ []) ++ l) none ∙ append-nil (asked many n (x ∷ [])) ∙ one;
        commanded = omega arith;
        none = tt;
        of = tt;
        of_rest = of;
      }

  -- it is the first call
  here : (e : Event) (later : List Event) (old now : ControllerState) (run : Runs old (e ∷ later) now) → AllOfDevice many n dev old (e ∷ later) now run
      → IsAsking many n e → asked many n later ≡ [] → LastSent old (e ∷ later) now run
  here e later old now run of it none =
      subst (λ (x : Event). (run : Runs old (x ∷ later) now) → AllOfDevice many n dev old (x ∷ later) now run → asked many n (x ∷ []) ≡ marked it.fis 0 ∷ []
      → LastSent old (x ∷ later) now run) (sym it.is) (λ run of one. here_at it.to it.slot it.fis later old now run of it.own it.asks one none) run of (asked_one many n e it)

  -- it is a later one
  more : (e : Event) (later : List Event) (old now : ControllerState) (run : Runs old (e ∷ later) now) → IsNoCommand e
      → AllOfDevice many n dev old (e ∷ later) now run
      → LastSent run.1.0 later now run.1.2 → LastSent old (e ∷ later) now run
  more e later old now run none of l =
      let x : Event = call.Turned (next.Order l.to l.slot l.fis) in
      let commanded = l.commanded in
      record {
        before = e ∷ l.before;
        at = l.at;
        led = (run.0, (run.1.0, run.1.1, l.led));
        to = l.to;
        slot = l.slot;
        fis = l.fis;
        later = l.later;
        rest = l.rest;
        is = ap (λ (k : List Event). e ∷ k) l.is;
        own = l.own;
        asks = l.asks;
        last = asked_both many n (e ∷ []) later ∙ ap (λ (k : List (List ℕ)). asked many n (e ∷ []) ++ k) l.last ∙ sym (append_assoc (asked many n (e ∷ [])) (asked many n l.before) (marked l.fis 0 ∷ []))
            ∙ ap (λ (k : List (List ℕ)). k ++ marked l.fis 0 ∷ []) (sym (asked_both many n (e ∷ []) l.before));
        commanded = omega (arith, commanded);
        none = (none, l.none);
        of = (of.0, l.of);
        of_rest = l.of_rest;
      }

  pub last_sent : (events : List Event) (old now : ControllerState) (run : Runs old events now) → AreNoCommands events
      → AllOfDevice many n dev old events now run
      → 1 ≤ length (asked many n events) → LastSent old events now run
  last_sent [] old now run none of some = absurd (omega (arith, some))
  last_sent (e ∷ later) old now run none of some =
      by (length (asked many n later)) refl (λ more_some. last_sent later run.1.0 now run.1.2 none.1 of.1 more_some)
    where
      both : length (asked many n (e ∷ later)) ≡ length (asked many n (e ∷ [])) + length (asked many n later)
      both = ap (λ (l : List (List ℕ)). length l) (asked_both many n (e ∷ []) later) ∙ length-append (asked many n (e ∷ [])) (asked many n later)

      by : (k : ℕ) → length (asked many n later) ≡ k → (1 ≤ length (asked many n later) → LastSent run.1.0 later now run.1.2) → LastSent old (e ∷ later) now run
      by zero is tail = here e later old now run of (asking_is many n e none.0 (omega (arith, both, some, is))) (no_length (asked many n later) is)
      by (suc k) is tail = more e later old now run none.0 of (tail (omega (arith, is)))
