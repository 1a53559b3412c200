-- While a queued command stands in a slot that was sent, and no bit of it falls, nothing is issued there.
use Rattle.std.proofs.Common.{◌≡◌, ℕ, ◌<◌, ◌≤◌, Bool, true, false, List, [], ◌∷◌, ◌++◌, None, refl, ap, arith}
use Rattle.slots.specs.Slots.{holds, issue_at}
use Rattle.ahci_controller.specs.States.{ControllerState}
use Rattle.controller_laws.specs.Events.{Does as Calls, Event, IsController, Runs}
use Rattle.ahci_machine.specs.States.{HasRules, IsOpeningMachine, MachineState}
use Rattle.machine_laws.specs.{ControllerLaws.{RunsRuled, calls_in}, Controllers.{ControllerGoesOn, GathersDue, StaysDue, deed_calls}, Deeds.Deed}
use Rattle.machine_laws.specs.Deeds.{Does}
use Rattle.machine_theorem.specs.{Commands.{AreNotIssued, issues_in}, Orders.{CommandsAreSentOnce, fallen_in, is_fallen, is_sent_of, standing_in}}
use Rattle.machine_theorem.specs.{Standing.IssuesAreAlone, Tags.once_if}
use Rattle.machine_theorem.proofs.{AtMoments.more, Few.{AreFew, are_few}, Ordered.first_ruled}

pub record Laws : Type 0 where
  pub once : CommandsAreSentOnce
  pub alone : IssuesAreAlone
  pub goes : ControllerGoesOn
  pub due : StaysDue

pub none_both : (s : ℕ) (xs ys : List Event) → AreNotIssued s xs → AreNotIssued s ys → AreNotIssued s (xs ++ ys)
none_both s [] ys a b = b
none_both s (x ∷ xs) ys a b = (a.0, none_both s xs ys a.1 b)

pub once_most : (b : Bool) → once_if b ≤ 1
once_most true = omega arith
once_most false = omega arith

-- a slot in which one stands is not free
not_free : (own : ℕ → Bool) (s : ℕ) (c : ControllerState) → standing_in own s c ≡ 1 → issue_at c.core.slots s ≡ None → ⊥
not_free own s c stands free =
    let none : standing_in own s c ≡ 0 = ap (λ o. once_if (holds (is_sent_of own) o)) free in
    omega (arith, stands, none)

one_none : IssuesAreAlone → (own : ℕ → Bool) (s : ℕ) (old : ControllerState) (e : Event) (new : ControllerState) → IsController old → Calls old e new → standing_in own s old ≡ 1
    → (b : Bool) → issues_in s e ≡ b → issues_in s e ≡ false
one_none alone own s old e new kept does stands true is = absurd (not_free own s old stands (alone old new e kept does s is).free)
one_none alone own s old e new kept does stands false is = is

calls_none : IssuesAreAlone → (own : ℕ → Bool) (s : ℕ) (old : ControllerState) (es : List Event) (new : ControllerState) → AreFew es → Runs old es new → standing_in own s old ≡ 1 → AreNotIssued s es
calls_none alone own s old [] new few run stands = tt
calls_none alone own s old (e ∷ []) new few run stands = (one_none alone own s old e run.1.0 run.0 run.1.1 stands (issues_in s e) refl, tt)
calls_none alone own s old (e ∷ f ∷ later) new few run stands = absurd few

module _ (laws : Laws) (ports : ℕ) (legacy : Bool) (first : MachineState) (opening : IsOpeningMachine ports legacy first) (own : ℕ → Bool) (s : ℕ) (low : s < 32) where
  -- what a deed leaves there
  stands_then : (past : List Deed) (m : MachineState) (so_far : RunsRuled first past m) (deed : Deed) (next : MachineState) → Does m deed next → HasRules m → HasRules next
      → standing_in own s m.controller ≡ 1 → once_if (is_fallen own s m.controller next.controller) ≡ 0 → standing_in own s next.controller ≡ 1
  stands_then past m so_far deed next does rules rules_next stands none =
      let most = laws.once ports legacy first opening past m so_far (deed ∷ []) next (rules, (next, does, (rules_next, refl))) own s low in
      let least = once_most (holds (is_sent_of own) (issue_at next.controller.core.slots s)) in
      omega (arith, most, stands, none, least)

  pub none_issued : (past : List Deed) (m : MachineState) → RunsRuled first past m → (deeds : List Deed) (now : MachineState) (run : RunsRuled m deeds now) → GathersDue m
      → standing_in own s m.controller ≡ 1 → fallen_in own s m deeds now run ≡ 0 → AreNotIssued s (calls_in m deeds now run)
  none_issued past m so_far [] now run due stands none = tt
  none_issued past m so_far (deed ∷ later) now run due stands none =
      let mid : MachineState = run.1.0 in
      let rules : HasRules mid = first_ruled later mid now run.1.2 in
      let calls : Runs m.controller (deed_calls m deed mid run.1.1) mid.controller = laws.goes m deed mid run.1.1 run.0 rules due in
      let stands_next : standing_in own s mid.controller ≡ 1 = stands_then past m so_far deed mid run.1.1 run.0 rules stands (omega (arith, none)) in
      none_both s (deed_calls m deed mid run.1.1) (calls_in mid later now run.1.2)
      (calls_none laws.alone own s m.controller (deed_calls m deed mid run.1.1) mid.controller (are_few deed m mid run.1.1) calls stands)
      (none_issued (past ++ deed ∷ []) mid (more past first m mid deed so_far run.1.1 rules) later now run.1.2 (laws.due m deed mid run.1.1 due) stands_next (omega (arith, none)))
