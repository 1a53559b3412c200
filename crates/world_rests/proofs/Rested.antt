-- For `rested_have_done`. Where frames stand in a world at rest, and for what its host waits.
use Rattle.std.proofs.Common.{◌≡◌, ◌≢◌, ◌⊎◌, ℕ, zero, suc, ◌+◌, ◌-◌, ◌<◌, ◌≤◌, ◌==◌, cond, Bool, true, false, IsTrue, List, [], ◌++◌, length, Option}
use Rattle.std.proofs.{Common.{Some, None, refl, sym, ap, subst, ◌∙◌, inl, inr, arith}, lemmas.Bool.{and_parts, cases_eq, eq-eqb, false≢true}}
use Rattle.std.proofs.lemmas.{Bool.{true≢false, ltb-true, ne_eqb}, List.Folds.{find-append}}
use Rattle.std.specs.{Prelude.{slice_get, ◌||◌, nat_lt, is_some, if◌then◌else◌, Ok, Err, MatchBool, MatchOption}, List.{find, range_with_len}}
use Rattle.std.specs.Option.{option_or}
use Rattle.fis_view.specs.Frames.{Stamped}
use Rattle.pm_registers.specs.Port.{passes}
use Rattle.pm_registers.specs.RegisterMap as map
use Rattle.multiplier.specs.{Arbiter.{control_port, next_served}, Rules.{FromHostRule, ToControl, ToDevice, ToNobody, ToPort}, State.{PmState, held}}
use Rattle.multiplier.specs.State.{next_place, passes_to, pm_port, port_at, ready}
use Rattle.multiplier.specs.declared.multiplier.PmRefusal.TheVariants as refusal
use Rattle.slots.specs.Slots.{own_issue, owned_by}
use Rattle.slots.proofs.Door.{own_at}
use Rattle.hba_fbs.specs.{Sending.MayRest, Views.view_of}
use Rattle.hba_driver.specs.{declared.mode.Mode.TheVariants.Switching, HostTurns.{Host, sight_in}, Ticks.acts}
use Rattle.pm_ports.specs.Port.{rises as rises_from}
use Rattle.disk_model.specs.Laws.{AfterEachRun, SilentRight}
use Rattle.pm_world.specs.{Attached.IsSilentAttached, DevicePaths.ReachedAreOrderly, Line.OneOrderAtATime, PortsGoOn.{PortGoesOn, PortsGoOn}}
use Rattle.pm_world.specs.{Runs.IsReached, declared.link.Change.Change, Places.{IsFull, Place, Places, Queue, with_device, with_multiplier}}
use Rattle.pm_world.specs.Rules.{DiskSendRule, DiskTakeRule, HostPushRule, HostTakeRule, OnDevice, OnDeviceAndMultiplier, Outcome, PmDownRule}
use Rattle.pm_world.specs.{Rules.{PmFromDeviceRule, PmFromHostRule, PmPresenceRule, PmUpRule, TickRule}, declared.step.Answer.Answer}
use Rattle.pm_world.specs.declared.step.Answer.TheVariants as answer
use Rattle.pm_world.specs.declared.step.Step.TheVariants as step
use Rattle.pm_world.specs.declared.step.StepError.TheVariants as error
use Rattle.world_rests.specs.{Laws.RestedHaveDone, Rests.{IsAtRest, NothingMoves, PortRests, is_still}, Sent.{ControlHasAnswered, PortWaits}}
use Rattle.world_rests.specs.Waits.{DriverWaits, HostWaits}
use Rattle.world_rests.proofs.{Comings.{IsKnown, Of, all, known, known_reached}, Idle.driver_waits, Orders.none_asking, Owes.silent_answers}
use Rattle.world_rests.proofs.{Parts.{get_below, get_there}, Sending.port_waits, Slot31.IsAsking, Well.{IsWell, well_in}}

neither : (a b : Bool) → (a || b) ≡ false → (a ≡ false) × (b ≡ false)
neither true b e = absurd (true≢false e)
neither false b e = (refl, e)

not_some : {A : Type 0} (o : Option A) → is_some o ≡ false → o ≡ None
not_some None e = refl
not_some (Some x) e = absurd (true≢false e)

some_of : {A : Type 0} (o : Option A) → o ≢ None → is_some o ≡ true
some_of None e = absurd (e refl)
some_of (Some x) e = refl

-- ---- the circle

not_first : (b : Bool) (x : ℕ) (o : Option ℕ) → cond b (Some x) o ≡ None → (b ≡ false) × (o ≡ None)
not_first true x o e = absurd (cc)
not_first false x o e = (refl, e)

none_in : (test : ℕ → Bool) (from count : ℕ) → find test (range_with_len from count) ≡ None → (q : ℕ) → from ≤ q → q < from + count → test q ≡ false
none_in test from zero e q least below = absurd (omega (arith, least, below))
none_in test from (suc n) e q least below =
    let p = not_first (test from) from (find test (range_with_len (from + 1) n)) e in
    elim (cases_eq from q) [
      | inl same ↦ ap test (sym same) ∙ p.0
      | inr other ↦ none_in test (from + 1) n p.1 q (omega (arith, least, other)) (omega (arith, below))
    ]

none_or : (a b : Option ℕ) → option_or a b ≡ None → (a ≡ None) × (b ≡ None)
none_or None b e = (refl, e)
none_or (Some x) b e = absurd (cc)

at_most_or_above : (q last : ℕ) → (q ≤ last) ⊎ (last < q)
at_most_or_above zero last = inl (omega arith)
at_most_or_above (suc q) zero = inr (omega arith)
at_most_or_above (suc q) (suc last) = elim (at_most_or_above q last) [ inl h ↦ inl (omega arith) | inr h ↦ inr (omega arith) ]

none_served : (last : ℕ) (test : ℕ → Bool) → last ≤ 15 → next_served last test ≡ None → (q : ℕ) → q ≤ 15 → test q ≡ false
none_served last test low none q below =
    let split : find test (range_with_len (last + 1) (15 - last) ++ range_with_len 0 (last + 1))
    ≡ option_or (find test (range_with_len (last + 1) (15 - last))) (find test (range_with_len 0 (last + 1))) = find-append test _ _ in
    let p = none_or (find test (range_with_len (last + 1) (15 - last))) (find test (range_with_len 0 (last + 1))) (sym split ∙ none) in
    elim (at_most_or_above q last) [
      | inl le ↦ none_in test 0 (last + 1) p.1 q (omega arith) (omega (arith, le))
      | inr lt ↦ none_in test (last + 1) (15 - last) p.0 q (omega (arith, lt)) (omega (arith, lt, low, below))
    ]

-- ---- links that are empty

not_full : (q : Queue) → 0 < q.capacity → q.frames ≡ [] → IsFull q → ⊥
not_full q some none full =
    let long : length q.frames ≡ 0 = ap length none in
    absurd (omega (arith, some, full, long))

took_all : (q : Queue) (host : Host) (a : Answer) (r : Queue) (after : Host) → is_still a ≡ true → HostTakeRule q host (Ok a) r after → q.frames ≡ []
took_all q host answer.Idle r after e acts = acts.0
took_all q host answer.Blocked r after e acts = absurd acts
took_all q host other r after e acts = absurd (false≢true e)

none_next : (pm : PmState) (q : Queue) (a : Answer) (after : PmState) (r : Queue) → is_still a ≡ true → (IsFull q → ⊥) → PmUpRule pm q (Ok a) after r → next_place pm ≡ None
none_next pm q answer.Idle after r e room acts = acts.1
none_next pm q answer.Blocked after r e room acts = absurd (room acts.0)
none_next pm q other after r e room acts = absurd (false≢true e)

disk_took : (n : ℕ) (place : Place) (a : Answer) (after : Place) → is_still a ≡ true → DiskTakeRule n place (Ok a) after → place.down.frames ≡ []
disk_took n place answer.Idle after e acts = acts.0
disk_took n place answer.Blocked after e acts = absurd acts
disk_took n place other after e acts = absurd (false≢true e)

none_falls : (n : ℕ) (place : Place) (pm : PmState) (a : Answer) (after : Place) (left : PmState) → is_still a ≡ true → (IsFull place.down → ⊥) → PmDownRule n place pm (Ok a) after left → (port_at pm n).down ≡ None
none_falls n place pm answer.Idle after left e room acts = acts.1
none_falls n place pm answer.Blocked after left e room acts = absurd (room acts.0)
none_falls n place pm other after left e room acts = absurd (false≢true e)

all_recorded : (n : ℕ) (place : Place) (pm : PmState) (a : Answer) (after : Place) (left : PmState) → is_still a ≡ true → PmPresenceRule n place pm (Ok a) after left → place.presence.changes ≡ []
all_recorded n place pm answer.Idle after left e acts = acts.0
all_recorded n place pm answer.Blocked after left e acts = absurd acts
all_recorded n place pm other after left e acts = absurd (false≢true e)

offered_all : (n : ℕ) (place : Place) (pm : PmState) (a : Answer) (after : Place) (left : PmState) → is_still a ≡ true → PmFromDeviceRule n place pm (Ok a) after left
    → (place.up.frames ≡ []) ⊎ (is_some (port_at pm n).up ≡ true)
offered_all n place pm answer.Idle after left e acts = inl acts.0
offered_all n place pm answer.Blocked after left e acts = inr (some_of (port_at pm n).up acts.1)
offered_all n place pm other after left e acts = absurd (false≢true e)

sent_all : (n : ℕ) (place : Place) (a : Answer) (after : Place) → is_still a ≡ true → DiskSendRule n place (Ok a) after → IsTrue place.plugged → IsSilentAttached place.unit ⊎ IsFull place.up
sent_all n place answer.Idle after e acts on = inl (acts.1.0 on).1
sent_all n place answer.Blocked after e acts on = inr acts.1.1
sent_all n place other after e acts on = absurd (false≢true e)

may_rest : (host : Host) (q : Queue) (a : Answer) (r : Queue) → is_still a ≡ true → (IsFull q → ⊥) → HostPushRule host q (Ok a) host r → MayRest host.port
may_rest host q answer.Idle r e room acts = acts.1.1 (refl, refl)
may_rest host q answer.Blocked r e room acts = absurd (room acts.0)
may_rest host q other r e room acts = absurd (false≢true e)

idles : (host : Host) (a : Answer) (after : Host) → is_still a ≡ true → TickRule host (Ok a) after → acts (sight_in host) host.driver ≡ false
idles host answer.Idle after e acts = acts.0
idles host answer.Blocked after e acts = absurd acts
idles host other after e acts = absurd (false≢true e)

-- ---- the link from the host

-- a port that passes a FIS down exists
passes_below : (pm : PmState) (n conn : ℕ) → passes_to pm n ≡ Some conn → n < pm.registers.ports
passes_below pm n conn is = by_test (map.forwards pm.registers n) refl is
  where
    by_test : (b : Bool) → map.forwards pm.registers n ≡ b → (if b then (port_at pm n).present else None) ≡ Some conn → n < pm.registers.ports
    by_test true on is = ltb-true n pm.registers.ports (and_parts (nat_lt n pm.registers.ports) (passes (map.port_at pm.registers n)) on).0
    by_test false on is = absurd (cc)

module _ (pm : PmState) (answer_none : pm.answer ≡ None) (falls : (n : ℕ) → n < pm.registers.ports → (port_at pm n).down ≡ None) (frame : Stamped) where
  full_control : ToControl pm frame (Err (frame, refusal.HoldFull)) pm → ⊥
  full_control acts = true≢false (sym acts.0 ∙ ap is_some answer_none)

  full_port : (o : Option ℕ) → passes_to pm (pm_port frame) ≡ o
      → MatchOption o (ToNobody pm (Err (frame, refusal.HoldFull)) pm) (λ conn. ToDevice pm (pm_port frame) conn frame (Err (frame, refusal.HoldFull)) pm) → ⊥
  full_port None is acts = acts
  full_port (Some conn) is acts = true≢false (sym acts.0 ∙ ap is_some (falls (pm_port frame) (passes_below pm (pm_port frame) conn is)))

  full_none : FromHostRule pm frame (Err (frame, refusal.HoldFull)) pm → ⊥
  full_none rule = by_test (pm_port frame == control_port) rule
    where
      by_test : (b : Bool) → MatchBool b (ToControl pm frame (Err (frame, refusal.HoldFull)) pm) (ToPort pm frame (Err (frame, refusal.HoldFull)) pm) → ⊥
      by_test true acts = full_control acts
      by_test false acts = full_port (passes_to pm (pm_port frame)) refl acts

heard_all : (q : Queue) (pm : PmState) (a : Answer) (r : Queue) → pm.answer ≡ None → ((n : ℕ) → n < pm.registers.ports → (port_at pm n).down ≡ None) → is_still a ≡ true
    → PmFromHostRule q pm (Ok a) r pm → q.frames ≡ []
heard_all q pm answer.Idle r none falls e acts = acts.0
heard_all q pm answer.Blocked r none falls e acts = absurd (full_none pm none falls acts.0.0 acts.0.3)
heard_all q pm other r none falls e acts = absurd (false≢true e)

-- ---- a world

-- a step at a port does what its rule says to the place that is there
at_place : (now : Places) (n : ℕ) (place : Place) (a : Answer) (new : Places) (R : Place → Outcome → Place → Type 0) → slice_get now.devices n ≡ Some place → OnDevice now n (Ok a) new R
    → (after : Place) × R place (Ok a) after × (new ≡ with_device now n after)
at_place now n place a new R at rule =
    subst (λ (o : Option Place). MatchOption o ((Ok a ≡ Err error.NoSuchPort) × (new ≡ now)) (λ p. (after : Place) × R p (Ok a) after × (new ≡ with_device now n after))) at rule

at_port : (now : Places) (n : ℕ) (place : Place) (a : Answer) (new : Places) (R : Place → PmState → Outcome → Place → PmState → Type 0) → slice_get now.devices n ≡ Some place → OnDeviceAndMultiplier now n (Ok a) new R
    → (after : Place) × (left : PmState) × R place now.multiplier (Ok a) after left × (new ≡ with_multiplier (with_device now n after) left)
at_port now n place a new R at rule =
    subst (λ (o : Option Place). MatchOption o ((Ok a ≡ Err error.NoSuchPort) × (new ≡ now))
    (λ p. (after : Place) × (left : PmState) × R p now.multiplier (Ok a) after left × (new ≡ with_multiplier (with_device now n after) left))) at rule

module _ (law : AfterEachRun SilentRight) (now : Places) (w : IsWell Switching now) (are : IsKnown now) (rests : IsAtRest now) where
  upward : now.upward.frames ≡ []
  upward = let d = rests step.HostTake tt in took_all now.upward now.host d.answer now.upward now.host d.still d.rule.0

  next : next_place now.multiplier ≡ None
  next =
      let d = rests step.PmUp tt in
      none_next now.multiplier now.upward d.answer now.multiplier now.upward d.still (not_full now.upward w.upward upward) d.rule.0

  none_ready : (n : ℕ) → n ≤ 15 → ready now.multiplier n ≡ false
  none_ready = none_served now.multiplier.served (ready now.multiplier) w.served next

  control : (now.multiplier.registers.due ≡ false) × (is_some now.multiplier.answer ≡ false)
  control = neither now.multiplier.registers.due (is_some now.multiplier.answer) (none_ready control_port (omega arith))

  answer_none : now.multiplier.answer ≡ None
  answer_none = not_some now.multiplier.answer control.1

  rises : (n : ℕ) → n < 15 → held now.multiplier n ≡ None
  rises n low =
      let other : n ≢ control_port = λ e. let k : n ≡ 15 = e in absurd (omega (arith, low, k)) in
      let plain : (if n == control_port then now.multiplier.registers.due || is_some now.multiplier.answer else is_some (held now.multiplier n)) ≡ is_some (held now.multiplier n) =
      ap (λ (b : Bool). if b then now.multiplier.registers.due || is_some now.multiplier.answer else is_some (held now.multiplier n)) (ne_eqb n control_port other) in
      not_some (held now.multiplier n) (sym plain ∙ none_ready n (omega (arith, low)))

  module _ (n : ℕ) (place : Place) (at : slice_get now.devices n ≡ Some place) where
    below : n < length now.devices
    below = get_below now.devices n place at

    down : place.down.frames ≡ []
    down =
        let d = rests (step.DiskTake n) below in
        let r = at_place now n place d.answer now (DiskTakeRule n) at d.rule in
        disk_took n place d.answer r.0 d.still r.1

    falls : (port_at now.multiplier n).down ≡ None
    falls =
        let d = rests (step.PmDown n) below in
        let r = at_port now n place d.answer now (PmDownRule n) at d.rule in
        none_falls n place now.multiplier d.answer r.0 r.1 d.still (not_full place.down (w.devices n place at).1 down) r.2

    presence : place.presence.changes ≡ []
    presence =
        let d = rests (step.PmPresence n) below in
        let r = at_port now n place d.answer now (PmPresenceRule n) at d.rule in
        all_recorded n place now.multiplier d.answer r.0 r.1 d.still r.2

    link : (place.up.frames ≡ []) ⊎ (is_some (port_at now.multiplier n).up ≡ true)
    link =
        let d = rests (step.PmFromDevice n) below in
        let r = at_port now n place d.answer now (PmFromDeviceRule n) at d.rule in
        offered_all n place now.multiplier d.answer r.0 r.1 d.still r.2

    silent : IsTrue place.plugged → IsSilentAttached place.unit ⊎ IsFull place.up
    silent on =
        let d = rests (step.DiskSend n) below in
        let r = at_place now n place d.answer now (DiskSendRule n) at d.rule in
        sent_all n place d.answer r.0 d.still r.1 on

    known_here : Of place (port_at now.multiplier n)
    known_here = are n place at

    -- all changes are recorded
    now_is : (port_at now.multiplier n).present ≡ (if place.plugged then Some place.conn else None)
    now_is = ap (λ (cs : List Change). (all cs (known (port_at now.multiplier n))).0) (sym presence) ∙ known_here.present

    last_is : (port_at now.multiplier n).last ≡ place.conn
    last_is = ap (λ (cs : List Change). (all cs (known (port_at now.multiplier n))).1) (sym presence) ∙ known_here.last

    -- a frame that the port holds is of the connection that is present, and one is
    of_present : (f : Stamped) → (port_at now.multiplier n).up ≡ Some f → (place.plugged ≡ true) × (f.stamp.conn ≡ place.conn)
    of_present f e = by_test place.plugged refl now_is
      where
        by_test : (b : Bool) → place.plugged ≡ b → (port_at now.multiplier n).present ≡ (if b then Some place.conn else None) → (place.plugged ≡ true) × (f.stamp.conn ≡ place.conn)
        by_test true on present =
            let next : place.conn ≡ (port_at now.multiplier n).gone + 1 = (known_here.closed.there place.conn present).1 in
            let above : (port_at now.multiplier n).gone < f.stamp.conn = (known_here.held f e).0 in
            let most : f.stamp.conn ≤ place.conn = (known_here.held f e).1 in
            (on, omega (arith, next, above, most))
        by_test false off present =
            let gone : (port_at now.multiplier n).gone ≡ (port_at now.multiplier n).last = known_here.closed.none present in
            let above : (port_at now.multiplier n).gone < f.stamp.conn = (known_here.held f e).0 in
            let most : f.stamp.conn ≤ place.conn = (known_here.held f e).1 in
            let last : (port_at now.multiplier n).last ≡ place.conn = last_is in
            absurd (omega (arith, gone, above, most, last))

    -- so it goes up if the port forwards
    holds_none : n < 15 → (IsTrue place.plugged → map.forwards now.multiplier.registers n ≡ true) → (port_at now.multiplier n).up ≡ None
    holds_none low opens = by_up (port_at now.multiplier n).up refl
      where
        by_up : (o : Option Stamped) → (port_at now.multiplier n).up ≡ o → (port_at now.multiplier n).up ≡ None
        by_up None e = e
        by_up (Some f) e =
            let of : (place.plugged ≡ true) × (f.stamp.conn ≡ place.conn) = of_present f e in
            let on : map.forwards now.multiplier.registers n ≡ true = opens of.0 in
            let present : (port_at now.multiplier n).present ≡ Some place.conn = now_is ∙ ap (λ (b : Bool). if b then Some place.conn else None) of.0 in
            let goes : held now.multiplier n ≡ Some f =
            ap (rises_from (map.forwards now.multiplier.registers n) (port_at now.multiplier n).present) e
            ∙ ap (λ (b : Bool). rises_from b (port_at now.multiplier n).present (Some f)) on
            ∙ ap (λ (o : Option ℕ). rises_from true o (Some f)) present
            ∙ ap (λ (b : Bool). if b then Some f else None) (eq-eqb f.stamp.conn place.conn of.1) in
            absurd (let wrong : Some f ≡ None = sym goes ∙ rises n low in cc)

    linked : (port_at now.multiplier n).up ≡ None → place.up.frames ≡ []
    linked none = elim link [
      | inl empty ↦ empty
      | inr some ↦ absurd (true≢false (sym some ∙ ap is_some none))
    ]

    passed : n < 15 → (IsTrue place.plugged → map.forwards now.multiplier.registers n ≡ true) → (place.up.frames ≡ []) × ((port_at now.multiplier n).up ≡ None) × (IsTrue place.plugged → IsSilentAttached place.unit)
    passed low opens =
        let none : (port_at now.multiplier n).up ≡ None = holds_none low opens in
        let empty : place.up.frames ≡ [] = linked none in (
          empty,
          none,
          λ on. elim (silent on) [
            | inl quiet ↦ quiet
            | inr full ↦ absurd (not_full place.up (w.devices n place at).0 empty full)
          ],
        )

  most : length now.devices ≤ 15 → (n : ℕ) (place : Place) → slice_get now.devices n ≡ Some place → PortRests n place now.multiplier
  most few n place at =
      let low : n < length now.devices = below n place at in
      record {
        down = down n place at;
        falls = falls n place at;
        presence = presence n place at;
        rises = rises n (omega (arith, low, few));
        passed = passed n place at (omega (arith, low, few));
        answered = λ on opens. silent_answers law place.unit ((passed n place at (omega (arith, low, few)) (λ there. opens)).2 on);
        shut = silent n place at;
      }

  none_falling : (n : ℕ) → n < now.multiplier.registers.ports → (port_at now.multiplier n).down ≡ None
  none_falling n low =
      let count : now.multiplier.registers.ports ≡ length now.devices = w.ports in
      let p = get_there now.devices n (omega (arith, low, count)) in
      falls n p.0 p.1

  downward : now.downward.frames ≡ []
  downward =
      let d = rests step.PmFromHost tt in
      heard_all now.downward now.multiplier d.answer now.downward answer_none none_falling d.still d.rule.0

  port_rests : MayRest now.host.port
  port_rests =
      let d = rests step.HostPush tt in
      may_rest now.host now.downward d.answer now.downward d.still (not_full now.downward w.downward downward) d.rule.0

  idle : acts (sight_in now.host) now.host.driver ≡ false
  idle = let d = rests step.Tick tt in idles now.host d.answer now.host d.still d.rule.0

  pub moves_none : length now.devices ≤ 15 → NothingMoves now
  moves_none few = record { upward = upward; downward = downward; answer = answer_none; notice = control.0; ports = most few }

  driver : DriverWaits (sight_in now.host) now.host.driver
  driver = driver_waits (sight_in now.host) now.host.driver w.host.drives idle

  port : PortGoesOn now → PortWaits now.host.port
  port goes = port_waits now.host w.host port_rests driver.opened driver.restarted goes.goes.faultless driver.faultless

  -- what is issued to the control port did not go out
  control_answers : PortWaits now.host.port → (IsAsking (view_of 15 now.host.port) → ⊥) → ControlHasAnswered now.host.port
  control_answers waits none issue there own = elim (waits.sent 31 issue (omega arith) there) [
    | inr back ↦ back
    | inl sent ↦
        let all : length now.host.port.slots.issues ≡ 32 = w.host.ruled.table.slots in
        let its : own_issue (view_of 15 now.host.port).slots 31 ≡ Some issue =
        own_at 15 now.host.port.slots 31 (omega (arith, all)) ∙ ap (owned_by 15) there ∙ ap (λ (b : Bool). if b then Some issue else None) (eq-eqb issue.dev 15 own) in
        absurd (none (record { issue = issue; there = its; sent = sent; well = waits.faultless 15 }))
  ]

  pub host_waits : PortGoesOn now → (now.downward.frames ≡ [] → now.multiplier.answer ≡ None → now.upward.frames ≡ [] → IsAsking (view_of 15 now.host.port) → ⊥) → HostWaits now.host
  host_waits goes none =
      record { port = port goes; control = control_answers (port goes) (none downward answer_none upward); driver = driver }

pub rested_have_done : AfterEachRun SilentRight → OneOrderAtATime → PortsGoOn → ReachedAreOrderly → RestedHaveDone
rested_have_done law lines goes orderly config units fits before told now run rests =
    let r : IsReached now = record { mode = Switching; config = config; units = units; fits = fits; steps = before; answers = told; run = run } in
    let are : IsKnown now = known_reached orderly now r in
    let w : IsWell Switching now = well_in Switching config units fits before told now run in
    let few : length now.devices ≤ 15 = w.most in
    (moves_none law now w are rests few, host_waits law now w are rests (goes config units fits before told now run) (none_asking lines goes config units fits before told now run))
