-- For `writes_are_accepted`. Where a request comes from that is in a slot after a turn: it was there before, or the
-- turn took it.
use Rattle.std.proofs.{Common.{◌≡◌, ℕ, ◌+◌, ◌⊎◌, sym, ◌∙◌, ap, refl, inl, inr, Option, Some, None}, lemmas.Bool.{true≢false}}
use Rattle.hba_driver.specs.{Drivers.{Driver, Entry, entry_at}, HostTurns.{Does, Host, HostTurn, Ticked, Submitted, Polled, sight_in}}
use Rattle.hba_driver.specs.{Sights.file_shown, Submits.{new_entry, next_slot}, Ticks.after_tick, Between.{Fresh, PollFacts, Stood}}
use Rattle.hba_driver.proofs.{requests.HistoryLemmas.{back_of, freed, poll_facts, some_same}, ticks.LifeLemmas.{goes_same, keeps_tick}}
use Rattle.hba_driver.proofs.calls.RequestLemmas.{set_cases}

none_some : (e : Entry) {P : Type 0} → None ≡ Some e → P
none_some e h = cc

stood_still : (old : Driver) (t : HostTurn) (s : ℕ) (f : Entry) → entry_at old.entries s ≡ Some f → Stood old t s f
stood_still old t s f here = record { entry = f; here = here; on = record { same = refl; goes = goes_same f.head.phase }; still = λ h. refl }

stood_same : (old new : Driver) (t : HostTurn) (s : ℕ) (f : Entry) → new ≡ old → entry_at new.entries s ≡ Some f → Stood old t s f
stood_same old new t s f is here = stood_still old t s f (ap (λ (d : Driver). entry_at d.entries s) (sym is) ∙ here)

pub comes_from : (old : Host) (t : HostTurn) (new : Host) → Does old t new → (s : ℕ) (f : Entry) → entry_at new.driver.entries s ≡ Some f → Stood old.driver t s f ⊎ Fresh old.driver t s f
comes_from old (Ticked a) new h s f here =
    let d : Driver = old.driver in
    let b = back_of (entry_at d.entries s) (entry_at (after_tick (sight_in old) (file_shown new.port) d).entries s) (keeps_tick (sight_in old) (file_shown new.port) d s) f (ap (λ (x : Driver). entry_at x.entries s) (sym h.driver) ∙ here) in
    inl (record { entry = b.0; here = b.1; on = b.2; still = λ k. absurd (true≢false k) })
comes_from old (Submitted dev request ticket) new h s f here =
    let d : Driver = old.driver in
    let it : Option Entry = Some (new_entry (d.given + 1) dev request) in
    elim (set_cases d.entries (next_slot d) it s f (ap (λ (x : Driver). entry_at x.entries s) (sym h.taken.driver) ∙ here)) [
      | inl at ↦ inr (at.0, some_same (new_entry (d.given + 1) dev request) f at.1)
      | inr beside ↦ inl (stood_still d (Submitted dev request ticket) s f beside.1)
    ]
comes_from old (Polled c) new h s f here =
    let d : Driver = old.driver in
    let facts : PollFacts d c = poll_facts d c h.polled in
    elim (set_cases d.entries facts.place None s f (ap (λ (x : Driver). entry_at x.entries s) (sym (h.driver ∙ freed d c facts)) ∙ here)) [
      | inl at ↦ none_some f at.1
      | inr beside ↦ inl (stood_still d (Polled c) s f beside.1)
    ]
comes_from old other new h s f here = inl (stood_same old.driver new.driver other s f h.driver here)
