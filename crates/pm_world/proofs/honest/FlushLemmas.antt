-- For `ports_rest_at_a_flush`. In the tick that flushes a disk, the earlier orders are taken, nothing of the disk is on
-- the host's link, and the host begins anew.
use Rattle.std.proofs.Common.{◌≡◌, ◌≢◌, ◌==◌, ◌&&◌, ℕ, zero, suc, ◌*◌, ◌^◌, ◌<◌, ◌≤◌, Bool, true, false, not, List, [], ◌∷◌, ◌++◌, length, refl, sym}
use Rattle.std.proofs.{Common.{ap, subst, ◌∙◌, inl, inr, Option, Some, None, Ok, arith}, lemmas.Bool.{cases_eq, cases_lt, eq-eqb, eqb-true}}
use Rattle.std.proofs.lemmas.{Bool.{true≢false}, List.append-nil, Nat.Bits.{and_pow, bit_at-lt}}
use Rattle.std.specs.{Int.bit_at, Prelude.{◌||◌, bit_and, slice_get}, List.list_any}
use Rattle.fis_view.specs.Frames.{Stamped}
use Rattle.host_memory.specs.Memory.{is_memory_size}
use Rattle.pm_control.specs.Requests.{request_in}
use Rattle.pm_registers.specs.{Bits.shares, Port.bit_x}
use Rattle.multiplier.specs.{Arbiter.control_port, State.{pm_port, port_at}}
use Rattle.disk_model.specs.Histories.{Plugged}
use Rattle.hba_laws.specs.{Client.Touches, Delivering.touches_after}
use Rattle.hba_driver.specs.{Effects.{effects_of, order_effects}, Events.{events_over, shared_by}, HostTurns.{Does, DoesAll, Host, HostTurn, Ticked}}
use Rattle.hba_driver.specs.{HostTurns.sight_in, Laws.flushes, Steady.IsFlushTick, Ticks.{effects, effects_due}}
use Rattle.disk_recovery.specs.Kept.{ServesOn}
use Rattle.pm_world.specs.{Attached.Attached, Runs.AtEach, Cleared.clears_x, Places.{Place, Places, is_config, new_world}, Rules.{Rule, Run}}
use Rattle.pm_world.specs.{Traffic.{is_removed, stamped}, declared.step.{Config.Config, Step.Step, Answer.Answer}, Line.{HasLine, IsClean, NoneDown}}
use Rattle.pm_world.specs.{Stale.{InOrder, IsInOrder, is_clear, is_from, unsent_after}, HostTouches.{AreTouched, goes}, PathEnds.{IsAway, IsThere}}
use Rattle.pm_world.specs.{Connections.{IsAhead, IsUnused}, Resting.{IsAtRest, PortsRest, RestsAtFlush}}
use Rattle.pm_world.specs.declared.step.Step.TheVariants as step
use Rattle.pm_world.specs.declared.step.Answer.TheVariants as answer
use Rattle.pm_world.proofs.{cleared.Cleared.HasX, steps.Lists.{stamped-append, stamped-one}, control_port.LineLemmas.one_order_at_a_time}
use Rattle.pm_world.proofs.{ports.EachLemmas.{Nothing, none_of}, meant.OrderTurns.orders_in_order, serving.HostLemmas.{DriversServe, HostOn}}
use Rattle.pm_world.proofs.{paths.{RunLemmas.IsPlugged, PathLemmas.{and_false, if_false}}, serving.TouchedLemmas.{touched_served, touched_sound}}
use Rattle.pm_world.proofs.{honest.CutLemmas.{IsCut, IsHeld}, ports.{FirmLemmas.{opening_firm, removed_before, run_firm}, SentLemmas.none_on_way}}

-- ## The orders

front_true : (b c : Bool) → b ≡ true → (b || c) ≡ true
front_true true c is = refl
front_true false c is = absurd (true≢false (sym is))

-- the tick flushes the device when it orders that its port be cleared
pub flush_orders : (n : ℕ) (h : Host) → IsFlushTick n h → list_any (flushes n) (effects (sight_in h) h.driver) ≡ true
unfolding effects_of order_effects
flush_orders n h flush = ap (λ a. list_any (flushes n) (effects_due h.driver.plan.mode a)) flush ∙ front_true (n == n) _ (eq-eqb n n refl)

-- what is not for the control port clears no port
unclear_down : (n : ℕ) (frames : List Stamped) → NoneDown frames → Nothing (is_clear n) frames
unclear_down n [] none = tt
unclear_down n (f ∷ frames) none = (
  and_false (pm_port f == control_port) (clears_x n (request_in f.bytes)) (λ at. absurd (none.0 (eqb-true (pm_port f) control_port at))),
  unclear_down n frames none.1,
)

-- no earlier order is on its way down
orders_taken : (config : Config) (units : List Attached) → is_config config (length units) ≡ true → (first : List Step) (told : List Answer) (mid : Places)
    → Run (new_world config units) first told mid → (n : ℕ) (new : Places) → Rule mid step.Tick (Ok answer.Ticked) new → IsFlushTick n mid.host
    → Nothing (is_clear n) mid.downward.frames
orders_taken config units fits first told mid made n new rule flush =
    let line : HasLine mid = one_order_at_a_time config units fits first told mid made in
    let clean : IsClean mid = (line.clears n true new.host rule.0 (flush_orders n mid.host flush)).0 in
    unclear_down n mid.downward.frames clean.0

-- ## The port

-- a frame that is not of port n is not of any connection of port n
none_stamped : (n d : ℕ) (frames : List Stamped) → Nothing (is_from n) frames → stamped n d frames ≡ []
none_stamped n d [] none = refl
none_stamped n d (f ∷ frames) none =
    stamped-append n d (f ∷ []) frames
    ∙ ap (λ (xs : List (List ℕ)). xs ++ stamped n d frames)
    (stamped-one n d f
    ∙ if_false (f.stamp.port == n && f.stamp.conn == d) (f.bytes ∷ [])
    (and_false (f.stamp.port == n) (f.stamp.conn == d) (λ here. absurd (true≢false (sym here ∙ none.0)))))
    ∙ none_stamped n d frames none.1

-- a bit that is shared is set
pub x_set : (error : ℕ) → shares error bit_x ≡ true → HasX error
x_set error e = elim (cases_eq (bit_at error 26) 0) [
  | inl unset ↦
      let none : bit_and error bit_x ≡ 0 = and_pow error 26 ∙ ap (λ (b : ℕ). b * 2 ^ 26) unset in
      absurd (true≢false (sym e ∙ ap (λ (k : ℕ). not (k == 0)) none))
  | inr other ↦
      let small : bit_at error 26 < 2 = bit_at-lt error 26 in
      omega (arith, small, other)
]

-- a connection after the unit's is still to come
to_come : (n c d : ℕ) (now : Places) → IsThere n c now → c < d → IsAhead n d now
to_come n c d now there less = by_place (slice_get now.devices n) refl there
  where
    by_place : (o : Option Place) → slice_get now.devices n ≡ o → IsPlugged c o → IsAhead n d now
    by_place None is there = absurd there
    by_place (Some place) is there =
        let conn : place.conn ≡ c = there.1 in
        record { place = place; is = is; less = omega (arith, conn, less) }

-- the port when its unit is flushed
pub held_at_flush : (n : ℕ) → n < 15 → (config : Config) (units : List Attached) → is_config config (length units) ≡ true → (first : List Step) (told : List Answer)
    (mid : Places) → Run (new_world config units) first told mid → (new : Places) → Rule mid step.Tick (Ok answer.Ticked) new → IsFlushTick n mid.host
    → IsAtRest n mid → IsHeld n new
held_at_flush n below config units fits first told mid made new rule flush rest =
    subst (IsHeld n) (sym rule.1) (record {
      away = none_of (is_from n) mid.upward.frames rest.away;
      told = λ opens present. x_set _ (rest.waits opens present);
      line = record {
        stale = mid.downward.frames;
        fresh = [];
        is = sym (append-nil mid.downward.frames);
        unclear = orders_taken config units fits first told mid made n new rule flush;
        others = tt;
      };
    })

-- and if the unit's connection is recorded, nothing of another one is on its way
pub cut_there : (n c : ℕ) → n < 15 → (config : Config) (units : List Attached) → is_config config (length units) ≡ true → (first : List Step) (told : List Answer)
    (now : Places) → Run (new_world config units) first told now → IsHeld n now → IsThere n c now → (port_at now.multiplier n).present ≡ Some c → IsCut n c now
cut_there n c below config units fits first told now made held there here = record { held = held; alone = alone }
  where
    away : Nothing (is_from n) now.upward.frames
    away = held.away

    none_of_it : (d : ℕ) → IsUnused n d now → IsAway n d now
    none_of_it d unused = (none_stamped n d now.upward.frames away, none_on_way n d below config units fits first told now made unused)

    alone : (d : ℕ) → d ≢ c → IsAway n d now
    alone d other = elim (cases_lt c d) [
      | inl later ↦ none_of_it d (inr (to_come n c d now there later))
      | inr most ↦ by_zero d other most
    ]
      where
        by_zero : (d : ℕ) → d ≢ c → d ≤ c → IsAway n d now
        by_zero zero other most = none_of_it 0 (inl refl)
        by_zero (suc k) other most =
            let gone : is_removed n (suc k) now ≡ true =
            removed_before n c (suc k) now (run_firm n below (new_world config units) first told now made (opening_firm config units fits n)) here (omega arith)
            (omega (arith, other, most)) in
            (none_stamped n (suc k) now.upward.frames away, λ still. absurd (true≢false (sym gone ∙ still)))

-- ## The host

-- from the flush on it serves the disk, whatever it did before
pub flush_serves : (law : DriversServe) (n len : ℕ) → n < 15 → is_memory_size len ≡ true → (turns : List HostTurn) (old new : Host) (touches : Touches)
    → AreTouched len turns old touches → Does old (Ticked true) new → IsFlushTick n old → HostOn n len (turns ++ Ticked true ∷ []) new (Plugged ∷ [])
flush_serves law n len below right turns old new touches came does flush =
    let run : DoesAll old (Ticked true ∷ []) new = (new, does, refl) in
    let s : ServesOn n old (Ticked true) new run (Plugged ∷ []) touches =
    law.opens n old true new run touches below flush (touched_sound len turns old touches right came) (touched_served len turns old touches right came) in
    record {
      commands = s.next;
      touches = touches_after touches (shared_by old) (shared_by new) (events_over old new (Ticked true ∷ []) run) s.serves.runs;
      serves = s.honestly;
      touched = goes turns (Ticked true) old new touches run s.serves came;
    }

-- ## Orders

rest_now : (n : ℕ) (unsent : Bool) (old : Places) (s : Step) (a : Answer) (new : Places) → IsInOrder n unsent old s a new → RestsAtFlush n old a
rest_now n unsent old s answer.Ticked new order =
    λ flush. let clears = flush_orders n old.host flush in record { away = order.away clears; waits = order.waits clears }
rest_now n unsent old s a new order = tt

-- if the orders are in order, the port is at rest at each flush
orders_let_rest : (n : ℕ) (unsent : Bool) (old : Places) (steps : List Step) (answers : List Answer) (new : Places) (run : Run old steps answers new)
    → InOrder n unsent old steps answers new run → AtEach (RestsAtFlush n) old steps answers new run
orders_let_rest n unsent old [] answers new run order = tt
orders_let_rest n unsent old (s ∷ steps) [] new run order = tt
orders_let_rest n unsent old (s ∷ steps) (a ∷ answers) new run order = (
  rest_now n unsent old s a run.0 order.0,
  orders_let_rest n (unsent_after n unsent old s a run.0) run.0 steps answers new run.2 order.1,
)

-- a run and one step more
run_then : (a b c : Places) (first : List Step) (told : List Answer) (s : Step) (x : Answer) → Run a first told b → Rule b s (Ok x) c
    → Run a (first ++ s ∷ []) (told ++ x ∷ []) c
run_then a b c [] [] s x run rule = (c, subst (λ (w : Places). Rule w s (Ok x) c) run rule, refl)
run_then a b c (t ∷ first) (y ∷ told) s x run rule = (run.0, run.1, run_then run.0 b c first told s x run.2 rule)
run_then a b c [] (y ∷ told) s x run rule = absurd run
run_then a b c (t ∷ first) [] s x run rule = absurd run

-- what holds at each step holds at the last
last_of : (Holds : Places → Answer → Type 0) (a b c : Places) (first : List Step) (told : List Answer) (s : Step) (x : Answer) (run : Run a first told b)
    (rule : Rule b s (Ok x) c) → AtEach Holds a (first ++ s ∷ []) (told ++ x ∷ []) c (run_then a b c first told s x run rule) → Holds b x
unfolding run_then
last_of Holds a b c [] [] s x run rule each = subst (λ (w : Places). Holds w x) (sym run) each.0
last_of Holds a b c (t ∷ first) (y ∷ told) s x run rule each = last_of Holds run.0 b c first told s x run.2 rule each.1
last_of Holds a b c [] (y ∷ told) s x run rule each = absurd run
last_of Holds a b c (t ∷ first) [] s x run rule each = absurd run

-- over every run from a new world
pub ports_rest : PortsRest
ports_rest config units fits steps answers new run n below =
    orders_let_rest n false (new_world config units) steps answers new run (orders_in_order config units fits steps answers new run n below)

-- that holds when a tick after a run from a new world flushes the device
pub rests_at_flush : (config : Config) (units : List Attached) → is_config config (length units) ≡ true → (n : ℕ) → n < 15 → (first : List Step) (told : List Answer)
    (mid : Places) → Run (new_world config units) first told mid → (new : Places) → Rule mid step.Tick (Ok answer.Ticked) new → IsFlushTick n mid.host → IsAtRest n mid
rests_at_flush config units fits n below first told mid made new rule =
    last_of (RestsAtFlush n) (new_world config units) mid new first told step.Tick answer.Ticked made rule
    (ports_rest config units fits (first ++ step.Tick ∷ []) (told ++ answer.Ticked ∷ []) new
    (run_then (new_world config units) mid new first told step.Tick answer.Ticked made rule) n below)
