-- For `writes_are_held`. Issued writes lie beside issued reads, and what is put leaves them alone.
use Rattle.std.proofs.Common.{◌≡◌, ℕ, ◌<◌, Bool, true, false, List, [], ◌∷◌, ◌++◌, length, refl, sym, ◌∙◌, ap, inl, inr, arith, Option, Some, None}
use Rattle.std.specs.Prelude.{◌||◌}
use Rattle.std.proofs.lemmas.Bool.{cases_Bool, cases_eq, true≢false}
use Rattle.host_memory.specs.{Memory.Memory, Place.{place, total_of}, Reading.share_with, declared.table.Prd.Prd}
use Rattle.slots.specs.Work as moved
use Rattle.hba_fbs.specs.{declared.register.Register.Register, Offsets.register_at, Sending.{Outgoing, outgoing}, Taking.port_of, Views.Port}
use Rattle.hba_fbs.specs.{Writing.write_refusal, declared.error.WriteError.WriteError}
use Rattle.hba_fbs.specs.Sending as out
use Rattle.slots.specs.Slots.{match_some}
use Rattle.hba_laws.specs.Client.{By, IsReading, Touches, is_in, own}
use Rattle.hba_laws.specs.Delivering.{by_device, event_taken, touched, touched_by_out, touched_by_write, touches_after}
use Rattle.hba_laws.specs.{History.{Event, Transfer, issued}, Hosts.{HostEvent, Runs}, Sent.{AreBeside, HoldsWrites, IsWriting, SparesWrites}}
use Rattle.hba_laws.specs.History as happened
use Rattle.hba_laws.specs.Hosts as event
use Rattle.hba_laws.proofs.Door.{order_quiet, quiet_holds, write_quiet}
use Rattle.hba_driver.specs.{declared.{effect.Effect.Effect, path.Path.Path}, Drivers.{AreRequests, Driver, Entry, entry_at, is_read}}
use Rattle.hba_driver.specs.{Effects.ActsAll, Events.{events_of_effect, events_of_effects, events_over, shared_by, wrote_to}, Held.TurnsHoldWrites}
use Rattle.hba_driver.specs.{HostTurns.{Pushed, Put, Ticked, Took, sight_in}, Requests.in_use}
use Rattle.hba_driver.specs.{Served.{AreBounded, IsIssueOf, IsRequest, IssuesAreRequests}, Ticks.effects, Between.From}
use Rattle.hba_driver.specs.declared.effect.Effect.TheVariants as effect
use Rattle.hba_driver.proofs.issued.ApartLemmas.{in_none, none_in, other_places, request_beside, some_same}

or_read : (a b : Bool) → b ≡ true → (a || b) ≡ true
or_read true b h = refl
or_read false b h = h

-- ---- writes are beside reads

-- one slot of one device does not have both
not_both : (n s m r : ℕ) (t u : Transfer) (past : Touches) → n ≡ m → s ≡ r → IsWriting n s t past → IsReading m r u past → ⊥
not_both n s m r t u past dev slot writing reading =
    let same : t ≡ u = some_same t u
    (sym writing.is ∙ ap (λ k. issued k (own n past)) slot ∙ ap (λ k. issued r (own k past)) dev ∙ reading.is) in
    true≢false (sym reading.reads ∙ ap (λ (x : Transfer). moved.is_read x.work.kind) (sym same) ∙ writing.writes)

module _ (d : Driver) (past : Touches) (issues : IssuesAreRequests d past) (bounded : AreBounded d) (requests : AreRequests d.given d.entries) where
  both_requests : (n s m r i j : ℕ) (t u : Transfer) → IsWriting n s t past → IsReading m r u past → IsRequest d n s t → IsRequest d m r u
      → i < total_of t.table → j < total_of u.table → place t.table i ≡ place u.table j → ⊥
  both_requests n s m r i j t u writing reading a b below below_other same = elim (cases_eq s r) [
    | inl one ↦
        let entry : a.entry ≡ b.entry = some_same a.entry b.entry (sym a.stands ∙ ap (entry_at d.entries) one ∙ b.stands) in
        not_both n s m r t u past (sym a.of_dev ∙ ap (λ (e : Entry). e.head.dev) entry ∙ b.of_dev) one writing reading
    | inr other ↦
        let none : share_with a.entry.prds b.entry.prds ≡ false =
        requests.apart s r a.entry b.entry a.stands b.stands other (or_read (is_read a.entry.head.work) (is_read b.entry.head.work) (b.reads reading.reads)) in
        let here : share_with t.table u.table ≡ false =
        ap (λ (l : List Prd). share_with l u.table) a.table ∙ ap (λ (l : List Prd). share_with a.entry.prds l) b.table ∙ none in
        other_places t.table u.table i j here below below_other same
  ]

  beside_by : (n s m r i j : ℕ) (t u : Transfer) → IsWriting n s t past → IsReading m r u past → From d n s t → From d m r u → i < total_of t.table
      → j < total_of u.table → place t.table i ≡ place u.table j → ⊥
  beside_by n s m r i j t u writing reading (inr (inr a)) b below below_other same = none_in t i a.table below
  beside_by n s m r i j t u writing reading (inl a) (inl b) below below_other same =
      both_requests n s m r i j t u writing reading a b below below_other same
  beside_by n s m r i j t u writing reading (inl a) (inr (inl b)) below below_other same =
      request_beside d past issues bounded requests m r n s j i u t b a below_other below (sym same)
  beside_by n s m r i j t u writing reading (inr (inl a)) (inl b) below below_other same =
      request_beside d past issues bounded requests n s m r i j t u a b below below_other same
  beside_by n s m r i j t u writing reading (inr (inl a)) (inr (inl b)) below below_other same =
      let one : a.path ≡ b.path = some_same a.path b.path (sym a.goes ∙ b.goes) in
      not_both n s m r t u past (sym a.of_dev ∙ ap (λ (p : Path). p.dev) one ∙ b.of_dev) (a.slot ∙ sym b.slot) writing reading
  beside_by n s m r i j t u writing reading other (inr (inr b)) below below_other same = none_in u j b.table below_other

  pub writes_beside : AreBeside past
  writes_beside n s m r i j t u writing reading below below_other same =
      let x : IsIssueOf d n s t = issues n s t writing.is in
      let y : IsIssueOf d m r u = issues m r u reading.is in
      beside_by n s m r i j t u writing reading x.from y.from (omega (arith, x.total, below)) (omega (arith, y.total, below_other)) same

  pub puts_spare_writes : (at len : ℕ) → in_use d at len ≡ false → SparesWrites at len past
  puts_spare_writes at len unused n s i t writing below =
      let x : IsIssueOf d n s t = issues n s t writing.is in
      elim (cases_Bool (is_in at len (place t.table i))) [
        | inl in_it ↦ absurd (in_none d past issues bounded requests at len unused n s i t x.from (omega (arith, x.total, below)) in_it)
        | inr out ↦ out
      ]

-- ---- events

-- no frame comes or goes, and no bytes are put
abbrev IsQuietEvent : HostEvent → Type 0
IsQuietEvent (event.Took frame report) = ⊥
IsQuietEvent (event.Gave frame) = ⊥
IsQuietEvent (event.Put at bytes) = ⊥
IsQuietEvent e = Unit {0}

abbrev AreQuietEvents : List HostEvent → Type 0
AreQuietEvents [] = Unit {0}
AreQuietEvents (e ∷ es) = IsQuietEvent e × AreQuietEvents es

quiet_event : (host : event.Host) (e : HostEvent) (past : Touches) → IsQuietEvent e → HoldsWrites past → HoldsWrites (touched host e ++ past)
quiet_event host (event.Wrote register value) past quiet h = quiet_holds (touched_by_write register host value) past (write_quiet host register value) h
quiet_event host (event.Flushed dev) past quiet h = h
quiet_event host (event.Stored structure) past quiet h = h
quiet_event host (event.Rewrote dev row) past quiet h = h
quiet_event host other past quiet h = absurd quiet

quiet_over : (es : List HostEvent) (old new : event.Host) (runs : Runs old es new) (past : Touches) → AreQuietEvents es → HoldsWrites past
    → HoldsWrites (touches_after past old new es runs)
quiet_over [] old new runs past quiet h = h
quiet_over (e ∷ es) old new runs past quiet h =
    quiet_over es runs.0 new runs.2 (touched old e ++ past) quiet.1 (quiet_event old e past quiet.0 h)

quiet_both : (es fs : List HostEvent) → AreQuietEvents es → AreQuietEvents fs → AreQuietEvents (es ++ fs)
quiet_both [] fs a b = b
quiet_both (e ∷ es) fs a b = (a.0, quiet_both es fs a.1 b)

wrote_quiet : (o : Option Register) (value : ℕ) → AreQuietEvents (wrote_to o value)
wrote_quiet None value = tt
wrote_quiet (Some register) value = (tt, tt)

effect_quiet : (e : Effect) (port : Port) (before after : Memory) → AreQuietEvents (events_of_effect e port before after)
effect_quiet (effect.Writes offset value) port before after = by_refusal (write_refusal port before offset value)
  where
    by_refusal : (o : Option WriteError) → AreQuietEvents (match_some o (wrote_to (register_at offset) value) (λ e. []))
    by_refusal None = wrote_quiet (register_at offset) value
    by_refusal (Some e) = tt
effect_quiet other port before after = (tt, tt)

effects_quiet : (es : List Effect) (old : Port) (before : Memory) (new : Port) (after : Memory) (acts : ActsAll es old before new after)
    → AreQuietEvents (events_of_effects es old before new after acts)
unfolding ActsAll events_of_effects
effects_quiet [] old before new after acts = tt
effects_quiet (e ∷ es) old before new after acts =
    quiet_both (events_of_effect e old before acts.1) (events_of_effects es acts.0 acts.1 new after acts.4) (effect_quiet e old before acts.1)
    (effects_quiet es acts.0 acts.1 new after acts.4)

-- ---- a turn

held_event : (past : Touches) → AreBeside past → HoldsWrites past → (dev : ℕ) (e : Event) → HoldsWrites (By dev e ∷ past)
held_event past beside h dev (happened.Carried bytes) = (beside, h)
held_event past beside h dev e = h

held_device : (past : Touches) → AreBeside past → HoldsWrites past → (dev : ℕ) (o : Option Event) → HoldsWrites (by_device dev o ++ past)
held_device past beside h dev None = h
held_device past beside h dev (Some e) = held_event past beside h dev e

held_out : (past : Touches) → AreBeside past → HoldsWrites past → (host : event.Host) (o : Outgoing) → HoldsWrites (touched_by_out host o ++ past)
held_out past beside h host (out.Data dev offset len command) = (beside, h)
held_out past beside h host (out.Order dev slot command) = quiet_holds (touched_by_out host (out.Order dev slot command)) past (order_quiet host dev slot command) h
held_out past beside h host other = h

pub turns_hold_writes : TurnsHoldWrites
turns_hold_writes mode old (Took frame report) new run sound past served serves h =
    held_device past (writes_beside old.driver past served.issues served.bounded sound.requests) h (port_of frame) (event_taken (shared_by old) frame)
turns_hold_writes mode old (Pushed frame) new run sound past served serves h =
    held_out past (writes_beside old.driver past served.issues served.bounded sound.requests) h (shared_by old) (outgoing old.port old.memory)
turns_hold_writes mode old (Ticked acted) new run sound past served serves h =
    quiet_over (events_over old new (Ticked acted ∷ []) run) (shared_by old) (shared_by new) serves.runs past
    (quiet_both (events_of_effects (effects (sight_in old) old.driver) old.port old.memory run.0.port run.0.memory run.1.does) []
    (effects_quiet (effects (sight_in old) old.driver) old.port old.memory run.0.port run.0.memory run.1.does) tt) h
turns_hold_writes mode old (Put at bytes) new run sound past served serves h =
    (puts_spare_writes old.driver past served.issues served.bounded sound.requests at (length bytes) run.1.unused, h)
turns_hold_writes mode old other new run sound past served serves h = h
