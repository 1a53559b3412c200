-- For `rested_have_done`. What has not gone out of a host port that may send nothing.
use Rattle.std.proofs.Common.{◌≡◌, ◌⊎◌, ℕ, ◌<◌, ◌≤◌, Bool, true, false, refl, sym, ap, subst, ◌∙◌, inl, inr, Option, Some, None, arith}
use Rattle.std.proofs.lemmas.Bool.{false≢true, true≢false}
use Rattle.std.specs.Prelude.{◌&&◌, ◌||◌, not, is_none, is_some, MatchOption}
use Rattle.port_errors.specs.Errors.{cause_of}
use Rattle.slots.specs.{Commands.{has_outstanding, may_begin, may_go}, Data.payload, Slots.{Issue, context_of, has_bit, holds, is_control, issue_at}}
use Rattle.slots.specs.{Slots.{slots_of, waiting}, Table.IsIssue, Work.is_dma}
use Rattle.slots.proofs.Door.{has_bit_below, none_below}
use Rattle.hba_fbs.specs.{Sending.{MayRest, faulty_devices, is_due, is_ready, next_receiver, next_to_send, ready_devices}, Status.is_busy}
use Rattle.hba_fbs.specs.{Status.wants_data, Taking.is_running, Views.{Port, state_at}}
use Rattle.hba_driver.specs.{Events.IsSoundHost, HostTurns.{Host, sight_in}, Seeing.Sight}
use Rattle.hba_driver.proofs.Door.{faulty_shown, sight_is}
use Rattle.world_rests.specs.Sent.{HasOther, HasQueued, Holds, InReset, IsBusy, IsHeldBack, PortWaits, WantsData}

-- ---- tests

-- why a command may not go, though its device is not faulty
go_cases : (sent faulty control ready free begin : Bool) → (not sent && not faulty && (control || ready && free && begin)) ≡ false → faulty ≡ false
    → (sent ≡ true) ⊎ ((sent ≡ false) × (control ≡ false) × ((ready ≡ false) ⊎ ((free ≡ false) ⊎ (begin ≡ false))))
go_cases true faulty control ready free begin none well = inl refl
go_cases false true control ready free begin none well = absurd (true≢false well)
go_cases false false true ready free begin none well = absurd (true≢false none)
go_cases false false false false free begin none well = inr (refl, refl, inl refl)
go_cases false false false true false begin none well = inr (refl, refl, inr (inl refl))
go_cases false false false true true false none well = inr (refl, refl, inr (inr refl))
go_cases false false false true true true none well = absurd (true≢false none)

unready_cases : (a b c : Bool) → not (a || b || c) ≡ false → (a ≡ true) ⊎ ((b ≡ true) ⊎ (c ≡ true))
unready_cases true b c none = inl refl
unready_cases false true c none = inr (inl refl)
unready_cases false false true none = inr (inr refl)
unready_cases false false false none = absurd (true≢false none)

begin_cases : (a b : Bool) → not (a && b) ≡ false → (a ≡ true) × (b ≡ true)
begin_cases true true none = (refl, refl)
begin_cases true false none = absurd (true≢false none)
begin_cases false b none = absurd (true≢false none)

some_of : {A : Type 0} (o : Option A) → is_none o ≡ false → (x : A) × (o ≡ Some x)
some_of None none = absurd (true≢false none)
some_of (Some x) none = (x, refl)

none_due : {A : Type 0} (o : Option A) (well : Bool) → (is_some o && well) ≡ false → well ≡ true → o ≡ None
none_due None well none is = refl
none_due (Some x) true none is = absurd (true≢false none)
none_due (Some x) false none is = absurd (false≢true is)

-- ---- commands

module _ (port : Port) (issue : Issue) (low : issue.dev < 16) where
  unready : is_ready (state_at port.states issue.dev) ≡ false → Holds port issue
  unready none = elim (unready_cases (state_at port.states issue.dev).resetting (is_busy (state_at port.states issue.dev).status) (wants_data (state_at port.states issue.dev).status) none) [
    | inl resets ↦ InReset resets
    | inr (inl busy) ↦ IsBusy busy
    | inr (inr wants) ↦ WantsData wants
  ]

  others : is_none (waiting (slots_of issue.dev port.slots)) ≡ false → Holds port issue
  others none = let other = some_of (waiting (slots_of issue.dev port.slots)) none in HasOther other.0 other.1

  queued : may_begin (slots_of issue.dev port.slots) issue ≡ false → Holds port issue
  queued none = let both = begin_cases (is_dma issue.work.kind) (has_outstanding (slots_of issue.dev port.slots)) none in HasQueued both.0 both.1

  ready_is : has_bit (ready_devices port) issue.dev ≡ is_ready (state_at port.states issue.dev)
  ready_is = has_bit_below (λ dev. is_ready (state_at port.states dev)) 16 issue.dev (omega arith) low

  faulty_is : has_bit (faulty_devices port) issue.dev ≡ is_some (cause_of port.errors issue.dev)
  faulty_is = has_bit_below (λ dev. is_some (cause_of port.errors dev)) 16 issue.dev (omega arith) low

  held_back : may_go (ready_devices port) (faulty_devices port) port.slots issue ≡ false → cause_of port.errors issue.dev ≡ None → (issue.sent ≡ true) ⊎ IsHeldBack port issue
  held_back none well = elim (go_cases issue.sent (has_bit (faulty_devices port) issue.dev) (is_control issue.work.kind) (has_bit (ready_devices port) issue.dev)
      (is_none (waiting (slots_of issue.dev port.slots))) (may_begin (slots_of issue.dev port.slots) issue) none (faulty_is ∙ ap is_some well)) [
        | inl sent ↦ inl sent
        | inr (unsent, plain, inl why) ↦ inr (record { unsent = unsent; command = plain; holds = unready (sym ready_is ∙ why) })
        | inr (unsent, plain, inr (inl why)) ↦ inr (record { unsent = unsent; command = plain; holds = others why })
        | inr (unsent, plain, inr (inr why)) ↦ inr (record { unsent = unsent; command = plain; holds = queued why })
      ]

none_goes : (port : Port) → next_to_send port ≡ None → (slot : ℕ) → slot < 32 → holds (may_go (ready_devices port) (faulty_devices port) port.slots) (issue_at port.slots slot) ≡ false
unfolding next_to_send
none_goes port none slot low = none_below (λ s. holds (may_go (ready_devices port) (faulty_devices port) port.slots) (issue_at port.slots s)) 32 none slot low

-- ---- data

none_asks : (port : Port) → next_receiver port ≡ None → (dev : ℕ) → dev < 16 → is_due port.slots port.errors dev ≡ false
unfolding next_receiver
none_asks port none dev low = none_below (is_due port.slots port.errors) 16 none dev low

-- ---- faults

-- a port whose driver sees no faulty device has none
pub none_faulty : (h : Host) → IsSoundHost h → h.port.errors.port ≡ None → (sight_in h).faulty ≡ None → (dev : ℕ) → cause_of h.port.errors dev ≡ None
none_faulty h sound whole clear = by_reported h.port.errors.reported refl
  where
    by_reported : (o : Option ℕ) → h.port.errors.reported ≡ o → (dev : ℕ) → cause_of h.port.errors dev ≡ None
    by_reported None is = sound.ruled.faults.none_is_marked is
    by_reported (Some first) is = λ dev.
        let shown = faulty_shown h.port h.memory sound.ruled whole (ap is_some is) in
        let wrong : Some shown.0 ≡ None = sym shown.1 ∙ sym (ap (λ (v : Sight). v.faulty) (sight_is h sound)) ∙ clear in
        absurd (cc)

-- ---- all of it

runs_on : (started whole : Bool) → started ≡ true → whole ≡ true → (started && whole) ≡ true
runs_on true true on well = refl
runs_on true false on well = absurd (false≢true well)
runs_on false whole on well = absurd (false≢true on)

pub port_waits : (h : Host) → IsSoundHost h → MayRest h.port → 7 ≤ h.driver.plan.opened → 2 ≤ h.driver.plan.restarted → h.port.errors.port ≡ None → (sight_in h).faulty ≡ None → PortWaits h.port
port_waits h sound may opened restarted whole clear = record {
  rests = may;
  runs = on;
  faultless = well;
  fed = λ dev low. none_due (payload (context_of h.port.slots dev)) (is_none (cause_of h.port.errors dev)) (none_asks h.port (may on).0 dev low) (ap is_none (well dev));
  sent = λ slot issue low there.
      held_back h.port issue (of_port slot issue there) (sym (ap (holds (may_go (ready_devices h.port) (faulty_devices h.port) h.port.slots)) there) ∙ none_goes h.port (may on).1 slot low)
      (well issue.dev);
}
  where
    on : is_running h.port ≡ true
    on = runs_on h.port.registers.started (is_none h.port.errors.port) (sound.registers.starts opened restarted) (ap is_none whole)

    well : (dev : ℕ) → cause_of h.port.errors dev ≡ None
    well = none_faulty h sound whole clear

    of_port : (slot : ℕ) (issue : Issue) → issue_at h.port.slots slot ≡ Some issue → issue.dev < 16
    of_port slot issue there = (subst (λ (o : Option Issue). MatchOption o (Unit {0}) IsIssue) there (sound.ruled.table.issues slot)).dev_below
