-- Where a slot is free: PxSACT does not show it, or a command is issued there.
use Rattle.std.proofs.Common.{◌≡◌, ◌⊎◌, ℕ, ◌&&◌, Bool, true, false, List, [], ◌∷◌, ◌++◌, Option, Some, None, refl, ap, inl, inr}
use Rattle.std.proofs.lemmas.Bool.{and_parts}
use Rattle.slots.specs.Slots.{Issue, holds, is_queued_issue, issue_at}
use Rattle.ahci_controller.specs.States.{ControllerState}
use Rattle.controller_laws.specs.Events.{Event, Runs}
use Rattle.ahci_machine.specs.States.{MachineState}
use Rattle.machine_laws.specs.{ControllerLaws.{OpensSo, RunsRuled, calls_in}, Controllers.{GathersDue, deed_calls}, Deeds.Deed}
use Rattle.machine_theorem.specs.{FirstDeeds.AtSome, Orders.{is_sent_of, standing_in}, ReadBack.{AreIssuedIn, HiddenIsFree, IsFree, IssuedWasFree}}
use Rattle.machine_theorem.specs.{Standing.IssuesAreAlone, Tags.once_if}
use Rattle.machine_theorem.proofs.{Completed.not_queued, Few.{AreFew, are_few}, Ordered.first_ruled}
use Rattle.machine_theorem.proofs.Falls as falls
use Rattle.machine_theorem.proofs.StillStands as standing

-- ---- PxSACT does not show it

sent_queued : (own : ℕ → Bool) (o : Option Issue) → holds (is_sent_of own) o ≡ true → holds is_queued_issue o ≡ true
sent_queued own None e = absurd (cc)
sent_queued own (Some i) e = (and_parts (is_queued_issue i) (own i.dev) (and_parts (is_queued_issue i && own i.dev) i.sent e).0).0

pub hidden_is_free : HiddenIsFree
hidden_is_free m own slot low hides = by (holds (is_sent_of own) (issue_at m.controller.core.slots slot)) refl
  where
    by : (b : Bool) → holds (is_sent_of own) (issue_at m.controller.core.slots slot) ≡ b → standing_in own slot m.controller ≡ 0
    by true e = absurd (not_queued m.controller slot low hides (sent_queued own (issue_at m.controller.core.slots slot) e))
    by false e = ap once_if e

-- ---- a command is issued there

free_there : IssuesAreAlone → (own : ℕ → Bool) (slot : ℕ) (es : List Event) (old new : ControllerState) → AreFew es → Runs old es new → AreIssuedIn slot es
    → standing_in own slot old ≡ 0
free_there alone own slot [] old new few run are = absurd are
free_there alone own slot (e ∷ []) old new few run (inl is) =
    ap (λ (o : Option Issue). once_if (holds (is_sent_of own) o)) (alone old run.1.0 e run.0 run.1.1 slot is).free
free_there alone own slot (e ∷ []) old new few run (inr are) = absurd are
free_there alone own slot (e ∷ f ∷ later) old new few run are = absurd few

issued_both : (slot : ℕ) (xs ys : List Event) → AreIssuedIn slot (xs ++ ys) → AreIssuedIn slot xs ⊎ AreIssuedIn slot ys
issued_both slot [] ys are = inr are
issued_both slot (x ∷ xs) ys (inl is) = inl (inl is)
issued_both slot (x ∷ xs) ys (inr are) = elim (issued_both slot xs ys are) [ inl first ↦ inl (inr first) | inr last ↦ inr last ]

run_free : standing.Laws → (own : ℕ → Bool) (slot : ℕ) (deeds : List Deed) (old now : MachineState) (run : RunsRuled old deeds now) → GathersDue old
    → AreIssuedIn slot (calls_in old deeds now run) → AtSome (IsFree own slot) old deeds now run
run_free laws own slot [] old now run due are = absurd are
run_free laws own slot (deed ∷ later) old now run due are =
    let mid : MachineState = run.1.0 in
    let es : List Event = deed_calls old deed mid run.1.1 in
    let calls : Runs old.controller es mid.controller = laws.goes old deed mid run.1.1 run.0 (first_ruled later mid now run.1.2) due in
    elim (issued_both slot es (calls_in mid later now run.1.2) are) [
      | inl here ↦ inl (free_there laws.alone own slot es old.controller mid.controller (are_few deed old mid run.1.1) calls here)
      | inr there ↦ inr (run_free laws own slot later mid now run.1.2 (laws.due old deed mid run.1.1 due) there)
    ]

pub issued_was_free : falls.Laws → standing.Laws → IssuedWasFree
issued_was_free facts laws ports legacy old opening before at first deeds now run own slot are =
    let opens : OpensSo old = facts.opens ports legacy old opening (first_ruled before old at first) in
    run_free laws own slot deeds at now run (facts.runs old before at first opens.due).due are
