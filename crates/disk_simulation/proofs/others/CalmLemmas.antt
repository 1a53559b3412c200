-- For `others_leave_a_device`. Events that are none of a device's, or issue commands for it, keep what a host has of
-- it.
use Rattle.std.proofs.Common.{◌≡◌, ℕ, ◌<◌, [], ◌∷◌, ◌++◌, sym, subst, inl, inr, arith}
use Rattle.hba_fbs.specs.{declared.register.Register.TheVariants.Ci, Views.view_of}
use Rattle.disk_model.specs.Ledger.{Ledger, ledger}
use Rattle.hba_laws.specs.{Client.own, Delivering.touched, History.History, Hosts.{Does, Host, HostEvent, Wrote}}
use Rattle.disk_simulation.specs.{Calm.{CalmRunsKeep, IsCalm, IssuesFor, WritesIssues}, Elsewhere.LeavesDevice, Hosted.IsHosted, Same.SlotCommand}
use Rattle.disk_simulation.specs.Hosted as since_new
use Rattle.disk_simulation.proofs.others.ElsewhereLemmas.{others_leave_device}

-- what a host has of a device stays at such an event, if it does where the view stays and where commands are issued
module _ (n : ℕ) (k : Ledger) (old new : Host) (commands next : ℕ → SlotCommand) (past : History) (Has : Host → (ℕ → SlotCommand) → History → Type 0)
    (stays : view_of n new.port ≡ view_of n old.port → Has new commands past)
    (issues : (value : ℕ) → Does old (Wrote Ci value) new → WritesIssues n k old commands Ci value next
    → Has new next (own n (touched old (Wrote Ci value)) ++ past)) where
  issued_for : (event : HostEvent) → Does old event new → IssuesFor n k old commands event next → Has new next (own n (touched old event) ++ past)
  issued_for (Wrote Ci value) does i = issues value does i
  issued_for other does i = absurd i

  pub calm_one : (event : HostEvent) → n < 15 → Does old event new → IsCalm n k old commands event next → Has new next (own n (touched old event) ++ past)
  calm_one event below does (inr here) = issued_for event does here
  calm_one event below does (inl away) =
      let small : n < 16 = omega (arith, below) in
      let left : LeavesDevice n old event new = others_leave_device n old new event small does away.0 in
      subst (λ (f : ℕ → SlotCommand). Has new f (own n (touched old event) ++ past)) (sym away.1)
      (subst (λ (h : History). Has new commands (h ++ past)) (sym left.history) (stays left.view))

pub calm_runs_keep : CalmRunsKeep
calm_runs_keep n old new [] run given commands next past below hosts calm hosted =
    subst (λ (h : Host). IsHosted n h given next past) (sym run) (subst (λ (f : ℕ → SlotCommand). IsHosted n old given f past) (sym calm) hosted)
calm_runs_keep n old new (event ∷ events) run given commands next past below hosts calm hosted =
    let one : IsHosted n run.0 given calm.0 (own n (touched old event) ++ past) =
    calm_one n (ledger given) old run.0 commands calm.0 past (λ h f p. IsHosted n h given f p)
    (λ same. since_new.stays old run.0 given commands past same hosted)
    (λ value does i. since_new.issues old run.0 value given commands calm.0 past hosts.0 i.0 does i.1 i.2 i.3 hosted) event below run.1 calm.1 in
    calm_runs_keep n run.0 new events run.2 given calm.0 next (own n (touched old event) ++ past) below hosts.1 calm.2 one
