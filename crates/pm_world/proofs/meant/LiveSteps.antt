-- For `commands_are_meant`. Where a request comes from that waits or is issued after a step of a world, and what goes
-- out of the host.
use Rattle.std.proofs.Common.{◌≡◌, ℕ, ◌<◌, ◌==◌, Bool, true, false, List, [], ◌∷◌, length, drop, map, Some, Ok, refl, sym, ap, subst, ◌∙◌}
use Rattle.std.proofs.lemmas.Bool.{and_parts, eqb-true, false≢true}
use Rattle.std.specs.Prelude.{◌||◌}
use Rattle.fis_view.specs.Frames.{Stamped}
use Rattle.hba_driver.specs.declared.{plan.Device.TheVariants.Ready, request.{Request.Request, Ticket.Ticket}, slot.Phase.{Phase, TheVariants.Issued}}
use Rattle.hba_driver.specs.{declared.slot.Phase.TheVariants.Waits, Drivers.{Entry, device_at, is_issued_in, rephased, waits_in}, HostTurns.DoesAll}
use Rattle.hba_driver.specs.{HostTurns.{Host, HostTurn, Pushed, Submitted, Ticked}, Known.is_request, Queued.{IsQueuedBy, IsSomeCommand, Stood}}
use Rattle.hba_driver.specs.{Queued.Taken, Submits.new_entry, Tended.IsLiveAt, Between.IsAsking}
use Rattle.hba_driver.proofs.Door.{queued_by, request_of_slot, turn_addressed}
use Rattle.multiplier.specs.State.{pm_port}
use Rattle.pm_world.specs.{Downward.pushed_by, Places.Places, Rules.Rule, Stale.orders_clear, Turns.turn_of, declared.step.{Step.Step, Answer.Answer}}
use Rattle.pm_world.specs.declared.step.Step.TheVariants as step
use Rattle.pm_world.specs.declared.step.Answer.TheVariants as answer
use Rattle.pm_world.proofs.{turns.HostFold.rule_does, meant.IdentifiedLemmas.is_request_to}

-- ## Turns that take no request and end none

abbrev IsStill : HostTurn → Type 0
IsStill (Ticked acted) = ⊥
IsStill (Submitted dev request ticket) = ⊥
IsStill turn = Prim.Unit {0}

abbrev AreStill : List HostTurn → Type 0
AreStill [] = Prim.Unit {0}
AreStill (t ∷ turns) = IsStill t × AreStill turns

abbrev IsStillStep : Step → Answer → Type 0
IsStillStep s answer.Ticked = ⊥
IsStillStep (step.Submit dev request) (answer.Submitted ticket) = ⊥
IsStillStep s a = Prim.Unit {0}

pushed_still : (frames : List Stamped) → AreStill (map (λ frame. Pushed (Some frame)) frames)
pushed_still [] = tt
pushed_still (f ∷ frames) = (tt, pushed_still frames)

still_turns : (old : Places) (s : Step) (a : Answer) (new : Places) → IsStillStep s a → AreStill (turn_of old s a new)
still_turns old s (answer.Took port conn number bytes report) new still = (tt, tt)
still_turns old step.HostPush answer.Pushed new still = pushed_still (drop (length old.downward.frames) new.downward.frames)
still_turns old step.HostPush answer.Idle new still = (tt, tt)
still_turns old s answer.Ticked new still = absurd still
still_turns old s (answer.Polled c) new still = (tt, tt)
still_turns old (step.Put at bytes) answer.Put new still = (tt, tt)
still_turns old (step.Submit dev request) (answer.Submitted ticket) new still = absurd still
still_turns old s a new still = tt

-- ## A request that waits or is issued

-- it did before
pub record WasLive (n slot : ℕ) (h : Host) (e : Entry) : Type 0 where
  pub was : Entry
  pub live : IsLiveAt n slot h.driver.entries was
  pub same : rephased Waits was ≡ rephased Waits e

-- the step took it
abbrev pub TakesAt : ℕ → Step → Answer → Entry → Type 0
TakesAt n (step.Submit dev request) (answer.Submitted ticket) e = (dev ≡ n) × (new_entry ticket.0 dev request ≡ e)
TakesAt n s a e = ⊥

pub data LiveFrom (n slot : ℕ) (old : Places) (s : Step) (a : Answer) (e : Entry) : Type 0 where
  Before : WasLive n slot old.host e → orders_clear n old a ≡ false → LiveFrom n slot old s a e
  New : TakesAt n s a (rephased Waits e) → device_at old.host.driver.plan n ≡ Ready → orders_clear n old a ≡ false → LiveFrom n slot old s a e

module _ (n slot : ℕ) (new : Host) where
  still_turn : (t : HostTurn) (old next : Host) (e : Entry) → IsStill t → IsQueuedBy n slot old t e → WasLive n slot old e
  still_turn t old next e still (Stood was live same unflushed) = record { was = was; live = live; same = same }
  still_turn t old next e still (Taken request ticket is ready entry unflushed) = absurd (subst IsStill is still)

  still_live : (turns : List HostTurn) (old : Host) → DoesAll old turns new → AreStill turns → (e : Entry) → IsLiveAt n slot new.driver.entries e → WasLive n slot old e
  still_live [] old run still e live = subst (λ (h : Host). WasLive n slot h e) run (record { was = e; live = live; same = refl })
  still_live (t ∷ turns) old run still e live =
      let later : WasLive n slot run.0 e = still_live turns run.0 run.2 still.1 e live in
      let first : WasLive n slot old later.was = still_turn t old run.0 later.was still.0 (queued_by n slot old t run.0 run.1 later.was later.live) in
      record { was = first.was; live = first.live; same = first.same ∙ later.same }

module _ (n slot : ℕ) (old new : Places) (e : Entry) (live : IsLiveAt n slot new.host.driver.entries e) where
  ticked_live : (s : Step) → Rule old s (Ok answer.Ticked) new → LiveFrom n slot old s answer.Ticked e
  ticked_live s rule =
      let does = rule_does old s answer.Ticked new rule in
      by_turn (queued_by n slot old.host (Ticked true) does.0 does.1 e (subst (λ (h : Host). IsLiveAt n slot h.driver.entries e) does.2 live))
    where
      by_turn : IsQueuedBy n slot old.host (Ticked true) e → LiveFrom n slot old s answer.Ticked e
      by_turn (Stood was there same unflushed) = Before (record { was = was; live = there; same = same }) unflushed
      by_turn (Taken request ticket is ready entry unflushed) = let wrong : Ticked true ≡ Submitted n request ticket = is in absurd (cc)

  taken_live : (dev : ℕ) (request : Request) (ticket : Ticket) → Rule old (step.Submit dev request) (Ok (answer.Submitted ticket)) new
      → LiveFrom n slot old (step.Submit dev request) (answer.Submitted ticket) e
  taken_live dev request ticket rule =
      let does = rule_does old (step.Submit dev request) (answer.Submitted ticket) new rule in
      by_turn (queued_by n slot old.host (Submitted dev request ticket.0) does.0 does.1 e (subst (λ (h : Host). IsLiveAt n slot h.driver.entries e) does.2 live))
    where
      dev_of : HostTurn → ℕ
      dev_of (Submitted d r t) = d
      dev_of t = 0

      request_of : HostTurn → Request
      request_of (Submitted d r t) = r
      request_of t = request

      ticket_of : HostTurn → ℕ
      ticket_of (Submitted d r t) = t
      ticket_of t = 0

      by_turn : IsQueuedBy n slot old.host (Submitted dev request ticket.0) e → LiveFrom n slot old (step.Submit dev request) (answer.Submitted ticket) e
      by_turn (Stood was there same unflushed) = Before (record { was = was; live = there; same = same }) refl
      by_turn (Taken other given is ready entry unflushed) =
          let of : dev ≡ n = ap dev_of is in
          let asks : request ≡ other = ap request_of is in
          let under : ticket.0 ≡ given = ap ticket_of is in
          let whole : new_entry ticket.0 dev request ≡ e =
          ap (λ (k : ℕ). new_entry k dev request) under ∙ ap (λ (k : ℕ). new_entry given k request) of ∙ ap (λ (r : Request). new_entry given n r) asks ∙ entry in
          New (of, ap (rephased Waits) whole) ready refl

  still_from : (s : Step) (a : Answer) → IsStillStep s a → orders_clear n old a ≡ false → Rule old s (Ok a) new → LiveFrom n slot old s a e
  still_from s a still unflushed rule =
      Before (still_live n slot new.host (turn_of old s a new) old.host (rule_does old s a new rule) (still_turns old s a new still) e live) unflushed

  pub live_step : (s : Step) (a : Answer) → Rule old s (Ok a) new → LiveFrom n slot old s a e
  live_step s answer.Ticked rule = ticked_live s rule
  live_step (step.Submit dev request) (answer.Submitted ticket) rule = taken_live dev request ticket rule
  live_step s a rule = still_from s a tt refl rule

-- ## What goes out

-- it is the command of a request of device n
pub record IsOwn (n : ℕ) (h : Host) (f : Stamped) : Type 0 where
  pub is : IsSomeCommand h f
  pub of_dev : is.entry.head.dev ≡ n
  pub live : IsLiveAt n is.slot h.driver.entries is.entry

module _ (n : ℕ) (below : n < 15) (known : Bool) (old new : Places) (asking : IsAsking n known old.host) (f : Stamped) (asks : is_request_to n f ≡ true) where
  pub own_pushed : Rule old step.HostPush (Ok answer.Pushed) new → pushed_by old step.HostPush answer.Pushed new ≡ f ∷ [] → IsOwn n old.host f
  own_pushed rule one =
      let does = subst (λ (l : List Stamped). DoesAll old.host (map (λ frame. Pushed (Some frame)) l) new.host) one (rule_does old step.HostPush answer.Pushed new rule) in
      let both = and_parts (pm_port f == n) (is_request f.bytes) asks in
      let to : f.stamp.port ≡ n = sym (turn_addressed old.host (Pushed (Some f)) does.0 does.1 asking.way.sound asking.their) ∙ eqb-true (pm_port f) n both.0 in
      let c = request_of_slot old.host does.0 f asking.way asking.plain (subst (λ (k : ℕ). k < 15) (sym to) below) both.1 does.1 in
      let of : c.entry.head.dev ≡ n = sym c.of.port ∙ to in
      record {
        is = c;
        of_dev = of;
        live = record { stands = c.of.stands; of_dev = of; lives = issued_live c.entry.head.phase c.of.issued };
      }
    where
      issued_live : (p : Phase) → is_issued_in p ≡ true → (waits_in p || is_issued_in p) ≡ true
      issued_live Issued h = refl
      issued_live p h = absurd (false≢true h)
