-- For `serves_honestly`. The driver goes on to serve a disk honestly over a calm turn, and begins to in the tick that
-- flushes it.
use Rattle.std.proofs.Common.{◌≡◌, ℕ, ◌+◌, ◌<◌, true, false, List, [], ◌∷◌, length, refl, sym, ◌∙◌, ap, subst, inl, inr, arith, Option, Some, None}
use Rattle.std.specs.Option.{option_map}
use Rattle.host_memory.specs.Memory.{zeroed}
use Rattle.slots.specs.Slots.{Issue, own_issue}
use Rattle.hba_fbs.specs.Views.{view_of}
use Rattle.disk_model.specs.{declared.request.Command.Command, Histories.{Happening, Plugged}, Ledger.ledger}
use Rattle.hba_laws.specs.{Agreement.{IsHistoryOf, work_of_issue, work_of_transfer}, Client.{Touches, own}, Delivering.{history_after, touches_after}}
use Rattle.hba_laws.specs.{History.{History, Transfer, issued}, Hosts.HostEvent}
use Rattle.hba_laws.proofs.Door.{histories_are_parts, some_inj}
use Rattle.disk_simulation.specs.{Hosted.{IsHosted, plugged}, Same.SlotCommand}
use Rattle.disk_simulation.proofs.Door.{calm_runs_keep, hosted_is_kept}
use Rattle.hba_driver.specs.{declared.mode.Mode.TheVariants.Switching, Drivers.{Driver, Entry, entry_at, rephased}}
use Rattle.hba_driver.specs.Events.{IsSoundHost, events_over, opening_host, shared_by}
use Rattle.hba_driver.specs.{HostTurns.{Does, DoesAll, Host, HostTurn, Took, Pushed, Ticked, Submitted, Polled, Put, sight_in}, Orders.is_queued}
use Rattle.hba_driver.specs.{Served.{IsServed, RunServes}, Sights.file_shown, Steady.{HasSignature, IsAskedOf, IsSteady, slot_in}}
use Rattle.hba_driver.specs.{Submits.{new_entry, next_slot}, Ticks.after_tick, Between.{DriverKeeps, From, PollFacts, Signs}}
use Rattle.hba_driver.proofs.Door.{back_of, flush_row, flush_steady, free_other, freed, hosts_stay_sound, in_slots, issued_unended, keeps_tick}
use Rattle.hba_driver.proofs.Door.{opens_row, opens_steady, poll_facts, rows_stay, set_cases, sound_turn, tick_beside, turn_steady, turns_serve}
use Rattle.hba_driver.proofs.Door.{zeroed_right}
use Rattle.disk_recovery.specs.Kept.{CalmTurnsKeep, FlushOpens, IsCalmTurn, IsServedHonestly, OpensHonestly, ServesOn}
use Rattle.disk_recovery.specs.{Steady.{AreNamed, IsAskedSigned, IsRowSigned, command_of}, Between.{AreAway, CalmEnds, IsNewOrOld}}
use Rattle.disk_recovery.proofs.honest.AwayLemmas.{beside_away, calm_ends}

-- ---- one turn

abbrev pub after : (old : Host) (turn : HostTurn) (new : Host) → DoesAll old (turn ∷ []) new → Does old turn new
after old turn new run = subst (λ (h : Host). Does old turn h) (sym run.2) run.1

-- ---- requests that go on

none_some : (e : Entry) {P : Type 0} → None ≡ Some e → P
none_some e h = cc

-- a request that stands in its slot before and after a turn is the same but for its phase
kept_entry : (old : Host) (t : HostTurn) (new : Host) → Does old t new → (s : ℕ) (x e : Entry) → entry_at old.driver.entries s ≡ Some x → entry_at new.driver.entries s ≡ Some e → e ≡ rephased e.head.phase x
kept_entry old t new does s x e here there = by_turn t does
  where
    same : new.driver ≡ old.driver → e ≡ rephased e.head.phase x
    same is =
        let it : x ≡ e = some_inj x e (sym here ∙ ap (λ (d : Driver). entry_at d.entries s) (sym is) ∙ there) in
        subst (λ (y : Entry). e ≡ rephased e.head.phase y) (sym it) refl

    by_turn : (t : HostTurn) → Does old t new → e ≡ rephased e.head.phase x
    by_turn (Ticked a) does =
        let b = back_of (entry_at old.driver.entries s) (entry_at (after_tick (sight_in old) (file_shown new.port) old.driver).entries s) (keeps_tick (sight_in old) (file_shown new.port) old.driver s) e
        (ap (λ (d : Driver). entry_at d.entries s) (sym does.driver) ∙ there) in
        subst (λ (y : Entry). e ≡ rephased e.head.phase y) (some_inj b.0 x (sym b.1 ∙ here)) b.2.same
    by_turn (Submitted dev request ticket) does =
        elim (set_cases old.driver.entries (next_slot old.driver) (Some (new_entry (old.driver.given + 1) dev request)) s e (ap (λ (d : Driver). entry_at d.entries s) (sym does.taken.driver) ∙ there)) [
          | inl at ↦ absurd (free_other old.driver old.memory dev request does.accepted s x here at.0)
          | inr beside ↦ subst (λ (y : Entry). e ≡ rephased e.head.phase y) (some_inj e x (sym beside.1 ∙ here)) refl
        ]
    by_turn (Polled c) does =
        let f : PollFacts old.driver c = poll_facts old.driver c does.polled in
        elim (set_cases old.driver.entries f.place None s e (ap (λ (d : Driver). entry_at d.entries s) (sym (does.driver ∙ freed old.driver c f)) ∙ there)) [
          | inl at ↦ none_some e at.1
          | inr beside ↦ subst (λ (y : Entry). e ≡ rephased e.head.phase y) (some_inj e x (sym beside.1 ∙ here)) refl
        ]
    by_turn other does = same does.driver

-- ---- the commands of the slots

-- so many writes have ended as it is issued
abbrev pub told_by : ℕ → Command → SlotCommand
told_by since c = record { command = c; since = since }

abbrev pub command_in : ℕ → Option Entry → Command
command_in slot None = record { write = false; tag = slot; lba = 0; count = 0 }
command_in slot (Some e) = command_of slot e

pub tag_in : (slot : ℕ) (o : Option Entry) → (command_in slot o).tag ≡ slot
tag_in slot None = refl
tag_in slot (Some e) = refl

module _ (n : ℕ) (old : Host) (turn : HostTurn) (new : Host) (does : Does old turn new) (commands next : ℕ → SlotCommand) (before later : Touches) (below : n < 15) where
  -- a request that was issued before
  still_named : IsServed old.driver (shared_by old) before → length new.driver.entries ≡ 30 → AreNamed n old.driver commands before → (s : ℕ) (t : Transfer) (e : Entry) → issued s (own n before) ≡ Some t → entry_at new.driver.entries s ≡ Some e
      → is_queued e.head.work ≡ true → (commands s).command ≡ command_of s e
  still_named served long named s t e was there queued = by_issue (served.issues n s t was).from
    where
      low : s < 30
      low = in_slots new.driver.entries s e long there

      of_entry : (x : Entry) → entry_at old.driver.entries s ≡ Some x → (commands s).command ≡ command_of s e
      of_entry x here =
          let same : e ≡ rephased e.head.phase x = kept_entry old turn new does s x e here there in
          let work : e.head.work ≡ x.head.work = ap (λ (y : Entry). y.head.work) same in
          named s t x was here (sym (ap is_queued work) ∙ queued) ∙ sym (ap (command_of s) same)

      by_issue : From old.driver n s t → (commands s).command ≡ command_of s e
      by_issue (inl r) = of_entry r.entry r.stands
      by_issue (inr (inl i)) = absurd (omega (arith, low, i.slot))
      by_issue (inr (inr o)) = absurd (omega (arith, low, o.slot))

  pub named_then : (slot since : ℕ) → IsServed old.driver (shared_by old) before → length new.driver.entries ≡ 30 → AreNamed n old.driver commands before
      → IsNewOrOld slot (told_by since (command_in slot (entry_at new.driver.entries slot))) commands next (own n before) (own n later) → AreNamed n new.driver next later
  named_then slot since served long named fresh s t e here there queued = elim (fresh s t here) [
    | inl new_one ↦
        let at : entry_at new.driver.entries slot ≡ Some e = subst (λ (k : ℕ). entry_at new.driver.entries k ≡ Some e) new_one.0 there in
        ap (λ (c : SlotCommand). c.command) new_one.1 ∙ ap (command_in slot) at ∙ sym (ap (λ (k : ℕ). command_of k e) new_one.0)
    | inr was ↦ ap (λ (c : SlotCommand). c.command) was.1 ∙ still_named served long named s t e was.0 there queued
  ]

-- ---- a calm turn

module _ (n : ℕ) (old : Host) (turn : HostTurn) (new : Host) (run : DoesAll old (turn ∷ []) new) (given : List Happening) (commands : ℕ → SlotCommand) (touches : Touches) (below : n < 15)
    (h : IsServedHonestly n old given commands touches) where
  does : Does old turn new
  does = after old turn new run

  serves : RunServes old new (turn ∷ []) run touches
  serves = turns_serve.runs old new (turn ∷ []) run h.sound touches h.served

  es : List HostEvent
  es = events_over old new (turn ∷ []) run

  later : Touches
  later = touches_after touches (shared_by old) (shared_by new) (events_over old new (turn ∷ []) run) serves.runs

  -- the events of the turn are none of the disk's, or issue for it
  goes_on : (slot : ℕ) → AreAway n slot (shared_by old) (shared_by new) (events_over old new (turn ∷ []) run) serves.runs → IsSteady n new.driver → IsAskedSigned n new given → IsRowSigned n new given → ServesOn n old turn new run given touches
  unfolding does serves es later
  goes_on slot away steady signed row =
      let c : SlotCommand = told_by (length (ledger given).writes) (command_in slot (entry_at new.driver.entries slot)) in
      let tags : (s : ℕ) → (commands s).command.tag ≡ s = (hosted_is_kept n (shared_by old) given commands (own n touches) below h.hosted).joined.same.tags in
      let ends : CalmEnds n slot (ledger given) c commands (shared_by old) (shared_by new) (events_over old new (turn ∷ []) run) serves.runs touches =
      calm_ends n slot (ledger given) c (tag_in slot (entry_at new.driver.entries slot)) (omega arith) commands (shared_by old) (shared_by new) (events_over old new (turn ∷ []) run) serves.runs touches (omega (arith, below)) tags away in
      let hosted : IsHosted n (shared_by new) given ends.next (history_after n (own n touches) (shared_by old) (shared_by new) (events_over old new (turn ∷ []) run) serves.runs) =
      calm_runs_keep n (shared_by old) (shared_by new) (events_over old new (turn ∷ []) run) serves.runs given commands ends.next (own n touches) below serves.sound.hosts ends.calm h.hosted in
      record {
        next = ends.next;
        serves = serves;
        honestly = record {
          sound = sound_turn old turn new does h.sound;
          served = serves.last;
          hosted = subst (λ (p : History). IsHosted n (shared_by new) given ends.next p) (sym (histories_are_parts n touches (shared_by old) (shared_by new) (events_over old new (turn ∷ []) run) serves.runs)) hosted;
          steady = steady;
          named = named_then n old turn new does commands ends.next touches later below slot (length (ledger given).writes) h.served serves.last.bounded.slots h.named ends.fresh;
          signed = signed;
          row = row;
        };
      }

  -- the plan is as it was
  asks_same : new.driver.plan ≡ old.driver.plan → IsAskedSigned n new given
  asks_same is asked = h.signed (subst (λ p. IsAskedOf n p) is asked)

calm_turn : (n : ℕ) (old : Host) (turn : HostTurn) (new : Host) (run : DoesAll old (turn ∷ []) new) (given : List Happening) (commands : ℕ → SlotCommand) (touches : Touches) → n < 15
    → IsCalmTurn n old turn → IsServedHonestly n old given commands touches → ServesOn n old turn new run given touches
unfolding serves
calm_turn n old (Took frame report) new run given commands touches below calm h =
    let d = after old (Took frame report) new run in
    goes_on n old (Took frame report) new run given commands touches below h 31 (inl calm, tt) (turn_steady n old (Took frame report) new d tt h.steady).steady
    (asks_same n old (Took frame report) new run given commands touches below h (ap (λ (x : Driver). x.plan) d.driver))
    (λ signs. h.row (rows_stay n old (Took frame report) new (omega (arith, below)) d h.sound (inl (λ e. calm (sym e))) signs))
calm_turn n old (Pushed frame) new run given commands touches below calm h = absurd calm
calm_turn n old (Ticked a) new run given commands touches below calm h =
    let d = after old (Ticked a) new run in
    let keeps : DriverKeeps n (Signs n old) old.driver new.driver = turn_steady n old (Ticked a) new d calm h.steady in
    let runs = (turns_serve.runs old new (Ticked a ∷ []) run h.sound touches h.served).runs in
    goes_on n old (Ticked a) new run given commands touches below h (slot_in old)
    (beside_away n (slot_in old) (shared_by old) (shared_by new) (events_over old new (Ticked a ∷ []) run) runs (tick_beside n old a new run h.sound h.served.bounded calm runs)) keeps.steady
    (λ asked. elim (keeps.asks asked) [ inl was ↦ h.signed was | inr signs ↦ h.row (signs h.sound.drives) ]) (λ signs. h.row (rows_stay n old (Ticked a) new (omega (arith, below)) d h.sound calm signs))
calm_turn n old (Submitted dev request ticket) new run given commands touches below calm h =
    let d = after old (Submitted dev request ticket) new run in
    goes_on n old (Submitted dev request ticket) new run given commands touches below h 31 (inl tt, tt) (turn_steady n old (Submitted dev request ticket) new d tt h.steady).steady
    (asks_same n old (Submitted dev request ticket) new run given commands touches below h (ap (λ (x : Driver). x.plan) d.taken.driver))
    (λ signs. h.row (rows_stay n old (Submitted dev request ticket) new (omega (arith, below)) d h.sound tt signs))
calm_turn n old (Polled c) new run given commands touches below calm h =
    let d = after old (Polled c) new run in
    goes_on n old (Polled c) new run given commands touches below h 31 tt (turn_steady n old (Polled c) new d tt h.steady).steady
    (asks_same n old (Polled c) new run given commands touches below h (ap (λ (x : Driver). x.plan) (d.driver ∙ freed old.driver c (poll_facts old.driver c d.polled))))
    (λ signs. h.row (rows_stay n old (Polled c) new (omega (arith, below)) d h.sound tt signs))
calm_turn n old (Put at bytes) new run given commands touches below calm h =
    let d = after old (Put at bytes) new run in
    goes_on n old (Put at bytes) new run given commands touches below h 31 (inl tt, tt) (turn_steady n old (Put at bytes) new d tt h.steady).steady
    (asks_same n old (Put at bytes) new run given commands touches below h (ap (λ (x : Driver). x.plan) d.driver))
    (λ signs. h.row (rows_stay n old (Put at bytes) new (omega (arith, below)) d h.sound tt signs))

pub calm_turns_keep : CalmTurnsKeep
calm_turns_keep n old turn new run given commands touches below calm h = calm_turn n old turn new run given commands touches below calm h

-- ---- where nothing of the disk is issued

pub no_issue : (o : Option Issue) → None ≡ option_map work_of_issue o → o ≡ None
no_issue None h = refl
no_issue (Some i) h = cc

pub no_transfer : (o : Option Transfer) → ((t : Transfer) → o ≡ Some t → ⊥) → o ≡ None
no_transfer None h = refl
no_transfer (Some t) h = absurd (h t refl)

-- any command, by its tag
abbrev pub plain_since : ℕ → ℕ → SlotCommand
plain_since since s = told_by since (record { write = false; tag = s; lba = 0; count = 0 })

abbrev pub plain : ℕ → SlotCommand
plain = plain_since 0

-- nor in a slot of requests in which none stands
pub none_in_slot : (n slot : ℕ) (h : Host) (touches : Touches) → slot < 30 → entry_at h.driver.entries slot ≡ None
    → IsServed h.driver (shared_by h) touches → (t : Transfer) → issued slot (own n touches) ≡ Some t → ⊥
none_in_slot n slot h touches low free served t here = by_issue (served.issues n slot t here).from
  where
    by_issue : From h.driver n slot t → ⊥
    by_issue (inl r) = none_some r.entry (sym free ∙ r.stands)
    by_issue (inr (inl i)) = omega (arith, low, i.slot)
    by_issue (inr (inr o)) = omega (arith, low, o.slot)

-- nothing is issued of a device that is asked for nothing
pub none_issued : (n : ℕ) (h : Host) (touches : Touches) → n < 15 → IsServed h.driver (shared_by h) touches → IsSteady n h.driver
    → (IsAskedOf n h.driver.plan → ⊥) → (s : ℕ) (t : Transfer) → issued s (own n touches) ≡ Some t → ⊥
none_issued n h touches below served steady unasked s t here = by_issue (served.issues n s t here).from
  where
    by_issue : From h.driver n s t → ⊥
    by_issue (inl r) = unasked (inl (steady.requests.ready s r.entry (record { stands = r.stands; of_dev = r.of_dev; unended = issued_unended r.entry r.goes })))
    by_issue (inr (inl i)) = unasked (inr (i.path, (i.goes, i.of_dev)))
    by_issue (inr (inr o)) = omega (arith, below, o.of_dev)

begins : (n : ℕ) (h : Host) (commands : ℕ → SlotCommand) (touches : Touches) → n < 15 → IsSoundHost h → IsServed h.driver (shared_by h) touches → IsSteady n h.driver → (IsAskedOf n h.driver.plan → ⊥) → (HasSignature n h → ⊥) → ((s : ℕ) → (commands s).command.tag ≡ s)
    → IsServedHonestly n h (Plugged ∷ []) commands touches
begins n h commands touches below sound served steady unasked unsigned tags = record {
  sound = sound;
  served = served;
  hosted = plugged (shared_by h) commands (own n touches) told (λ s. no_issue (own_issue (view_of n h.port).slots s) (sym (ap (option_map work_of_transfer) (no_transfer (issued s (own n touches)) (λ t here. none s t here))) ∙ told.issued s)) tags;
  steady = steady;
  named = λ s t e here there queued. absurd (none s t here);
  signed = λ asked. absurd (unasked asked);
  row = λ signs. absurd (unsigned signs);
}
  where
    told : IsHistoryOf n (shared_by h) (own n touches)
    told = served.told n (omega (arith, below))

    none : (s : ℕ) (t : Transfer) → issued s (own n touches) ≡ Some t → ⊥
    none = none_issued n h touches below served steady unasked

pub opens_honestly : OpensHonestly
opens_honestly n given len commands below size tags =
    let steady = opens_steady n given in
    begins n (opening_host given (zeroed len)) commands [] below (hosts_stay_sound.opens Switching given (zeroed len) (zeroed_right len size)) (turns_serve.opens Switching given (zeroed len) (zeroed_right len size)) steady.0 steady.1 (opens_row n given len (omega (arith, below))) tags

pub flush_opens : FlushOpens
flush_opens n old a new run touches below flush sound served =
    let d = after old (Ticked a) new run in
    let steady = flush_steady n old a new d flush in
    let serves : RunServes old new (Ticked a ∷ []) run touches = turns_serve.runs old new (Ticked a ∷ []) run sound touches served in
    record {
      next = plain;
      serves = serves;
      honestly = begins n new plain _ below (sound_turn old (Ticked a) new d sound) serves.last steady.0 steady.1 (flush_row n old a new (omega (arith, below)) d sound flush) (λ s. refl);
    }
