-- Why no request is given to the driver.
use Rattle.std.proofs.Common.{◌≡◌, ◌<◌, ◌≤◌, ℕ, true, false, Some, length, sym, ap, ◌∙◌, subst, inl, inr, arith}
use Rattle.std.specs.{Prelude.slice_index_or, List.list_any}
use Rattle.hba_driver.specs.{declared.request.SubmitError.SubmitError, Submits.submit_refusal}
use Rattle.host_thread.specs.{declared.plan.Planned.Planned, Runs.{AreGiven, HostView, IsRefusedForNow, MayWait, is_for_now, is_submitted}}
use Rattle.host_thread.specs.declared.plan.State.TheVariants as state
use Rattle.host_thread.proofs.{Counting.one_next, Requests.any_default}

module _ (w : HostView) (next : ℕ) (all : length w.states ≡ length w.plan) (given : AreGiven next w.states) where
  -- none is left
  pub waits_done : length w.plan ≤ next → MayWait w
  waits_done le i p is lt =
      absurd (apart (sym (is.later i state.Waits (omega arith) (omega (arith, lt, all)))
      ∙ given.before i state.Waits (omega (arith, le, lt)) (omega (arith, lt, all))))
    where
      apart : true ≡ false → ⊥
      apart e = absurd cc

  module _ (q : Planned) (there : next < length w.plan) where
    -- it waits for those under way
    pub waits_barred : (slice_index_or w.plan next q).wait ≡ true → list_any is_submitted w.states ≡ true → MayWait w
    waits_barred wait under_way i p is lt =
        let same : next ≡ i = one_next w.states next i given is (omega (arith, there, all)) (omega (arith, lt, all)) in
        inl (
          subst (λ k. (slice_index_or w.plan k p).wait ≡ true) same (ap (λ (x : Planned). x.wait) (any_default w.plan next p q there) ∙ wait),
          under_way,
        )

    -- the driver refuses it for now
    pub waits_refused : (refusal : SubmitError)
        → submit_refusal w.host.driver w.host.memory (slice_index_or w.plan next q).dev (slice_index_or w.plan next q).request ≡ Some refusal
        → is_for_now refusal ≡ true → MayWait w
    waits_refused refusal refused passes i p is lt =
        let same : next ≡ i = one_next w.states next i given is (omega (arith, there, all)) (omega (arith, lt, all)) in
        let for_now : IsRefusedForNow w.host (slice_index_or w.plan next q) = record { refusal = refusal; refused = refused; passes = passes } in
        inr (subst (λ k. IsRefusedForNow w.host (slice_index_or w.plan k p)) same
        (subst (IsRefusedForNow w.host) (any_default w.plan next q p there) for_now))
