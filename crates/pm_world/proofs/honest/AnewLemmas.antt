-- For `disks_are_honest`. From each order to clear a port until that order is taken, the host serves the device at the
-- port anew. The host and a disk that is plugged in there are ends that go on.
use Rattle.std.proofs.Common.{◌≡◌, ◌==◌, ℕ, ◌<◌, Bool, true, false, List, [], ◌∷◌, ◌++◌, append_assoc, length, refl, sym, ap, subst, ◌∙◌, inl, inr}
use Rattle.std.proofs.{Common.{Ok, arith, map}, lemmas.{Bool.{cases_Bool, false≢true, true≢false}, List.append-nil}}
use Rattle.std.specs.{Prelude.{MatchBool, ◌⊎◌, if◌then◌else◌}, List.list_any}
use Rattle.fis_view.specs.Frames.{marked, Stamped}
use Rattle.disk_model.specs.{Histories.{Received, Happening, Plugged}, declared.plan.DiskPlan.DiskPlan, Ledger.IsSize, Runs.IsDiskRun}
use Rattle.disk_model.specs.Histories as history
use Rattle.hba_driver.specs.{HostTurns.{Does, HostTurn, Ticked, sight_in}, Events.IsSoundHost, Steady.IsFlushTick, Ticks.due}
use Rattle.hba_driver.proofs.Door.{act_clears, flush_unreset}
use Rattle.disk_recovery.specs.{Flushes.bare_floors, Between.IsUnfaulted}
use Rattle.disk_recovery.proofs.Door.{flush_begins, flush_unfaulted, none_issued, since_begins}
use Rattle.disk_model.proofs.Door.{begins_anew}
use Rattle.pm_world.specs.{Attached.Attached, PathEnds.IsAtHost, Cleared.is_cleared, Downward.pushed_by, Places.{Places, is_config, new_world}}
use Rattle.pm_world.specs.{Rules.{Rule, Run}, Runs.over, Turns.{IsOfItsPort, turn_of}, declared.step.{Config.Config, Step.Step, Answer.Answer}}
use Rattle.pm_world.specs.{Stale.{IsInOrder, is_clear, orders_clear, unsent_after}, HostTouches.opens}
use Rattle.pm_world.proofs.{serving.TouchedLemmas.{touched_served, GoesTouched, touched_over}, honest.FlushLemmas.{flush_orders, flush_serves}}
use Rattle.pm_world.proofs.{honest.FlushLemmas.{held_at_flush, rests_at_flush}, control_port.LineLemmas.{IsNow, opening_now, run_now}}
use Rattle.pm_world.proofs.{ports.DownLemmas.{down_change, DownChange, given_for, Gone, Put, Quiet}, honest.EndsSteps.{HasEnds, IsUnflushed}}
use Rattle.pm_world.proofs.{honest.{EndsSteps.stays_beside, FlushedLemmas.opened_at_flush, CutLemmas.IsHeld}, meant.ChangeLemmas.tick_step}
use Rattle.pm_world.proofs.{honest.CutLemmas.held_after, turns.Delivery.sized, ports.EachLemmas.{Each, Nothing, any_one, each_more, none_of}}
use Rattle.pm_world.proofs.{honest.FineLemmas.{further, opens_step, sound_at, untaken_none}, serving.FirstLemmas.{FirstOn, comes_risen, first_step}}
use Rattle.pm_world.proofs.{serving.{FirstLemmas.is_taken_of, HostLemmas.HostOn}, control_port.GoingLemmas.ports_go_on, turns.HostFold.rule_does}
use Rattle.pm_world.proofs.{serving.HostLemmas.drivers_serve, upward.FrameMoves.rule_moves, meant.{OrderLemmas.Knows, OrderTurns.opening_knows}}
use Rattle.pm_world.proofs.{meant.OrderTurns.order_step, honest.UnfaultedLemmas.step_unfaulted}
use Rattle.host_memory.specs.Memory.{is_memory_size}
use Rattle.pm_world.specs.declared.step.Step.TheVariants as step
use Rattle.pm_world.specs.declared.step.Answer.TheVariants as answer

-- ## Lists

-- one of the frames clears port n
abbrev HasClear : ℕ → List Stamped → Type 0
HasClear n [] = ⊥
HasClear n (f ∷ frames) = ((is_clear n f ≡ true) × Nothing (is_clear n) frames) ⊎ ((is_clear n f ≡ false) × HasClear n frames)

clear_more : (n : ℕ) (frames : List Stamped) (f : Stamped) → is_clear n f ≡ true → Nothing (is_clear n) frames → HasClear n (frames ++ f ∷ [])
clear_more n [] f clears none = inl (clears, tt)
clear_more n (g ∷ frames) f clears none = inr (none.0, clear_more n frames f clears none.1)

has_more : (n : ℕ) (frames : List Stamped) (f : Stamped) → is_clear n f ≡ false → HasClear n frames → HasClear n (frames ++ f ∷ [])
has_more n [] f other has = absurd has
has_more n (g ∷ frames) f other (inl is) = inl (is.0, each_more (λ (x : Stamped). is_clear n x ≡ false) frames f is.1 other)
has_more n (g ∷ frames) f other (inr is) = inr (is.0, has_more n frames f other is.1)

-- the bit says whether an order is still to be sent
next_bit : (b pushes unsent : Bool) → b ≡ false → (if b then true else if pushes then false else unsent) ≡ (if pushes then false else unsent)
next_bit b pushes unsent none = ap (λ (c : Bool). if c then true else if pushes then false else unsent) none

-- the world is one to which a run from a new one leads
pub now_at : (config : Config) (units : List Attached) → is_config config (length units) ≡ true → (before : List Step) (told : List Answer) (old : Places)
    → Run (new_world config units) before told old → IsNow old
now_at config units fits before told old made = run_now (new_world config units) before told old (opening_now units config fits) made

-- ## A port that is to be cleared

module _ (config : Config) (units : List Attached) (fits : is_config config (length units) ≡ true) (n : ℕ) (below : n < 15) (plan : DiskPlan) (sectors : ℕ)
    (size : IsSize plan sectors) (earlier : List Happening) (disk : IsDiskRun plan sectors (earlier ++ Plugged ∷ [])) where
  pub right : is_memory_size config.memory ≡ true
  right = sized config (length units) fits

  -- The port is held, and the host serves the device anew. The host and the disk are ends from the
  -- step that plugs the disk in.
  pub record IsAnew (turns : List HostTurn) (now : Places) : Type 0 where
    pub held : IsHeld n now
    pub host : HostOn n config.memory turns now.host (Plugged ∷ [])
    pub unfaulted : IsUnfaulted n now.host.port
    pub ends : HasEnds n config.memory bare_floors turns now.host (earlier ++ Plugged ∷ []) [] []

  -- an order to clear the port is still to be sent, or it is on its way, or there is none
  pub data Ordered (unsent : Bool) (turns : List HostTurn) (now : Places) : Type 0 where
    Unsent : unsent ≡ true → Nothing (is_clear n) now.downward.frames → IsAnew turns now → Ordered unsent turns now
    Sent : unsent ≡ false → HasClear n now.downward.frames → IsAnew turns now → Ordered unsent turns now
    Idle : unsent ≡ false → Nothing (is_clear n) now.downward.frames → Ordered unsent turns now

  module _ (before : List Step) (told : List Answer) (old : Places) (made : Run (new_world config units) before told old) (unsent : Bool)
      (k : Knows n unsent old) (turns : List HostTurn) (touched : GoesTouched config.memory turns old.host) (s : Step) (a : Answer) (new : Places)
      (rule : Rule old s (Ok a) new) (order : IsInOrder n unsent old s a new) where
    abbrev now_unsent : Bool
    now_unsent = unsent_after n unsent old s a new

    abbrev now_turns : List HostTurn
    now_turns = turns ++ turn_of old s a new

    its : IsOfItsPort a
    its = (comes_risen old s a new k.risen rule).own_port

    sound : IsSoundHost old.host
    sound = sound_at config units fits n below before told old made

    untaken : IsHeld n old → is_taken_of n a ≡ false
    untaken held = by_answer a rule
      where
        by_answer : (b : Answer) → Rule old s (Ok b) new → is_taken_of n b ≡ false
        by_answer (answer.Took port conn number bytes report) rule =
            let m = rule_moves old s (answer.Took port conn number bytes report) new k.orderly rule in
            sym (ap (λ (j : ℕ). j == n) m.1.port_is)
            ∙ (subst (Each (λ (f : Stamped). (f.stamp.port == n) ≡ false)) m.2.upward held.away).0
        by_answer b rule = refl

    pub first_anew : (anew : IsAnew turns old) → FirstOn drivers_serve n config.memory below right turns old s a new
    first_anew anew =
        first_step drivers_serve n config.memory below right turns old s a new anew.host rule its (untaken anew.held)
        (opens_step n old (ports_go_on config units fits before told old made) sound anew.unfaulted a)

    pub unfaulted_now : IsAnew turns old → IsUnfaulted n new.host.port
    unfaulted_now anew = step_unfaulted n below old s a new rule sound (untaken_none n a its (untaken anew.held)) anew.unfaulted

    -- nothing of the device goes over its link
    pub ends_now : IsAnew turns old → IsUnflushed n old a → HasEnds n config.memory bare_floors now_turns new.host (earlier ++ Plugged ∷ []) [] []
    ends_now anew idle =
        let f : FirstOn drivers_serve n config.memory below right turns old s a new = first_anew anew in
        stays_beside n config.memory below right plan sectors size bare_floors turns old (now_at config units fits before told old made) s a new rule
        (earlier ++ Plugged ∷ []) [] [] anew.ends disk its (none_at_host a (untaken anew.held) f.given) idle
      where
        none_at_host : (b : Answer) → is_taken_of n b ≡ false → given_for n old s b new ≡ [] → IsAtHost n old b new []
        none_at_host (answer.Took port conn number bytes report) untaken given = by_port (port == n) untaken
          where
            by_port : (b : Bool) → b ≡ false
                → MatchBool b ((plain : List ℕ) × ([] ≡ history.Sent plain ∷ []) × (bytes ≡ marked plain n)) (◌≡◌ {A = List Happening} [] [])
            by_port true e = absurd (true≢false e)
            by_port false e = refl
        none_at_host answer.Pushed untaken given = sym (ap (map (λ (bytes : List ℕ). Received bytes)) given)
        none_at_host b untaken given = refl

    -- that goes on while the port is not cleared
    anew_after : IsAnew turns old → IsUnflushed n old a → is_cleared n old a ≡ false → IsAnew now_turns new
    anew_after anew idle none =
        let f : FirstOn drivers_serve n config.memory below right turns old s a new = first_anew anew in
        record {
          held = held_after n below old s a new rule k.orderly k.true_is anew.held f.given none;
          host = f.host;
          unfaulted = unfaulted_now anew;
          ends = ends_now anew idle;
        }

    -- a step that flushes the device orders that its port be cleared
    unflushed_now : orders_clear n old a ≡ false → IsUnflushed n old a
    unflushed_now idle = by_answer a idle
      where
        by_answer : (b : Answer) → orders_clear n old b ≡ false → IsUnflushed n old b
        by_answer answer.Ticked none = λ flush. true≢false (sym (flush_orders n old.host flush) ∙ none)
        by_answer b none = tt

    -- ---- the order

    change : DownChange n old s a new
    change = down_change n old s new k.orderly a rule

    uncleared : Nothing (is_clear n) old.downward.frames → is_cleared n old a ≡ false
    uncleared none = by_down change
      where
        by_down : DownChange n old s a new → is_cleared n old a ≡ false
        by_down (Quiet link pushed uncleared on) = uncleared
        by_down (Put f link pushed uncleared falls idle ids) = uncleared
        by_down (Gone f link pushed clears falls idle ids) = elim (cases_Bool (is_cleared n old a)) [
          | inl cleared ↦ absurd (true≢false (sym (clears cleared) ∙ (subst (Nothing (is_clear n)) link none).0))
          | inr other ↦ other
        ]

    bit_is : orders_clear n old a ≡ false → (pushed : List Stamped) → pushed_by old s a new ≡ pushed
        → now_unsent ≡ (if list_any (is_clear n) pushed then false else unsent)
    bit_is none pushed is =
        next_bit (orders_clear n old a) (list_any (is_clear n) (pushed_by old s a new)) unsent none
        ∙ ap (λ (fs : List Stamped). if list_any (is_clear n) fs then false else unsent) is

    same_bit : orders_clear n old a ≡ false → pushed_by old s a new ≡ [] → now_unsent ≡ unsent
    same_bit none is = bit_is none [] is

    put_bit : (f : Stamped) → orders_clear n old a ≡ false → pushed_by old s a new ≡ f ∷ [] → now_unsent ≡ (if is_clear n f then false else unsent)
    put_bit f none is = bit_is none (f ∷ []) is ∙ ap (λ (b : Bool). if b then false else unsent) (any_one (is_clear n) f)

    sends_unsent : (f : Stamped) → pushed_by old s a new ≡ f ∷ [] → is_clear n f ≡ true → unsent ≡ true
    sends_unsent f one clears = order.once (ap (list_any (is_clear n)) one ∙ any_one (is_clear n) f ∙ clears)

    -- ---- it is to be sent

    unsent_on : orders_clear n old a ≡ false → unsent ≡ true → Nothing (is_clear n) old.downward.frames → IsAnew turns old → Ordered now_unsent now_turns new
    unsent_on idle is none anew = by_down change
      where
        on : IsAnew now_turns new
        on = anew_after anew (unflushed_now idle) (uncleared none)

        by_down : DownChange n old s a new → Ordered now_unsent now_turns new
        by_down (Quiet link pushed uncleared falls) = Unsent (same_bit idle pushed ∙ is) (subst (Nothing (is_clear n)) (sym link) none) on
        by_down (Gone f link pushed clears falls _ ids) = Unsent (same_bit idle pushed ∙ is) ((subst (Nothing (is_clear n)) link none).1) on
        by_down (Put f link pushed uncleared falls _ ids) = elim (cases_Bool (is_clear n f)) [
          | inl clears ↦
              Sent (put_bit f idle pushed ∙ ap (λ (b : Bool). if b then false else unsent) clears)
              (subst (HasClear n) (sym link) (clear_more n old.downward.frames f clears none)) on
          | inr other ↦
              Unsent (put_bit f idle pushed ∙ (ap (λ (b : Bool). if b then false else unsent) other ∙ is))
              (subst (Nothing (is_clear n)) (sym link) (each_more (λ (g : Stamped). is_clear n g ≡ false) old.downward.frames f none other)) on
        ]

    -- ---- it is on its way

    sent_on : orders_clear n old a ≡ false → unsent ≡ false → HasClear n old.downward.frames → IsAnew turns old → Ordered now_unsent now_turns new
    sent_on idle is has anew = by_down change
      where
        rest : (f : Stamped) → (is_cleared n old a ≡ true → is_clear n f ≡ true) → now_unsent ≡ false → HasClear n (f ∷ new.downward.frames)
            → Ordered now_unsent now_turns new
        rest f clears bit (inl one) = Idle bit one.1
        rest f clears bit (inr one) = elim (cases_Bool (is_cleared n old a)) [
          | inl cleared ↦ absurd (true≢false (sym (clears cleared) ∙ one.0))
          | inr none ↦ Sent bit one.1 (anew_after anew (unflushed_now idle) none)
        ]

        by_down : DownChange n old s a new → Ordered now_unsent now_turns new
        by_down (Quiet link pushed uncleared falls) = Sent (same_bit idle pushed ∙ is) (subst (HasClear n) (sym link) has) (anew_after anew (unflushed_now idle) uncleared)
        by_down (Gone f link pushed clears falls _ ids) = rest f clears (same_bit idle pushed ∙ is) (subst (HasClear n) link has)
        by_down (Put f link pushed uncleared falls _ ids) = elim (cases_Bool (is_clear n f)) [
          | inl clears ↦ absurd (true≢false (sym (sends_unsent f pushed clears) ∙ is))
          | inr other ↦
              Sent (put_bit f idle pushed ∙ (ap (λ (b : Bool). if b then false else unsent) other ∙ is))
              (subst (HasClear n) (sym link) (has_more n old.downward.frames f other has)) (anew_after anew (unflushed_now idle) uncleared)
        ]

    -- ---- there is none

    idle_on : orders_clear n old a ≡ false → unsent ≡ false → Nothing (is_clear n) old.downward.frames → Ordered now_unsent now_turns new
    idle_on idle is none = by_down change
      where
        by_down : DownChange n old s a new → Ordered now_unsent now_turns new
        by_down (Quiet link pushed uncleared falls) = Idle (same_bit idle pushed ∙ is) (subst (Nothing (is_clear n)) (sym link) none)
        by_down (Gone f link pushed clears falls _ ids) = Idle (same_bit idle pushed ∙ is) ((subst (Nothing (is_clear n)) link none).1)
        by_down (Put f link pushed uncleared falls _ ids) = elim (cases_Bool (is_clear n f)) [
          | inl clears ↦ absurd (true≢false (sym (sends_unsent f pushed clears) ∙ is))
          | inr other ↦
              Idle (put_bit f idle pushed ∙ (ap (λ (b : Bool). if b then false else unsent) other ∙ is))
              (subst (Nothing (is_clear n)) (sym link) (each_more (λ (g : Stamped). is_clear n g ≡ false) old.downward.frames f none other))
        ]

    -- ---- it is given

    flush_ends : Does old.host (Ticked true) new.host → IsFlushTick n old.host
        → HasEnds n config.memory bare_floors (turns ++ Ticked true ∷ []) new.host (earlier ++ Plugged ∷ []) [] []
    flush_ends does flush =
        let on : HostOn n config.memory (turns ++ Ticked true ∷ []) new.host (Plugged ∷ []) =
        flush_serves drivers_serve n config.memory below right turns old.host new.host touched.touches touched.touched does flush in
        record {
          touches = on.touches;
          touched = on.touched;
          ends = since_begins n new.host (earlier ++ Plugged ∷ []) [] [] on.touches
              (none_issued n new.host on.touches below (touched_served config.memory (turns ++ Ticked true ∷ []) new.host on.touches right on.touched)
              on.serves.steady (λ asked. on.serves.signed asked (begins_anew.plugged []).awaited))
              (flush_begins n new.host earlier on.commands on.touches below on.serves
              (flush_unreset n old.host true new.host (omega (arith, below)) does flush) (opened_at_flush n old.host true new.host does flush)
              (flush_unfaulted n (omega (arith, below)) old.host true new.host does sound flush));
        }

    flush_now : (b : Answer) → a ≡ b → orders_clear n old b ≡ true → Nothing (is_clear n) old.downward.frames → Ordered now_unsent now_turns new
    flush_now answer.Ticked is flushed none =
        let ticked : Rule old s (Ok answer.Ticked) new = subst (λ (x : Answer). Rule old s (Ok x) new) is rule in
        let tick : Rule old step.Tick (Ok answer.Ticked) new = subst (λ (t : Step). Rule old t (Ok answer.Ticked) new) (tick_step old s new ticked) ticked in
        let flush : IsFlushTick n old.host = act_clears old.host.driver.plan.mode n (due (sight_in old.host) old.host.driver) flushed in
        let turns_are : now_turns ≡ turns ++ Ticked true ∷ [] = ap (λ (x : Answer). turns ++ turn_of old s x new) is in
        Unsent (ap (λ (b : Bool). if b then true else if list_any (is_clear n) (pushed_by old s a new) then false else unsent)
        (ap (orders_clear n old) is ∙ flushed))
        (subst (Nothing (is_clear n)) (sym (ap (λ (w : Places). w.downward.frames) tick.1)) none)
        (record {
          held = held_at_flush n below config units fits before told old made new tick flush
              (rests_at_flush config units fits n below before told old made new tick flush);
          host =
              subst (λ (ts : List HostTurn). HostOn n config.memory ts new.host (Plugged ∷ [])) (sym turns_are)
              (flush_serves drivers_serve n config.memory below right turns old.host new.host touched.touches touched.touched tick.0 flush);
          unfaulted = flush_unfaulted n (omega (arith, below)) old.host true new.host tick.0 sound flush;
          ends = subst (λ (ts : List HostTurn). HasEnds n config.memory bare_floors ts new.host (earlier ++ Plugged ∷ []) [] []) (sym turns_are) (flush_ends tick.0 flush);
        })
    flush_now b is flushed none = absurd (false≢true flushed)

    pub order_after : Ordered unsent turns old → Ordered now_unsent now_turns new
    order_after o = elim (cases_Bool (orders_clear n old a)) [
      | inl flushed ↦ flush_now a refl flushed (none_of (is_clear n) old.downward.frames (order.taken flushed))
      | inr idle ↦ by_case idle o
    ]
      where
        by_case : orders_clear n old a ≡ false → Ordered unsent turns old → Ordered now_unsent now_turns new
        by_case idle (Unsent is none anew) = unsent_on idle is none anew
        by_case idle (Sent is has anew) = sent_on idle is has anew
        by_case idle (Idle is none) = idle_on idle is none

    -- when the port is cleared, the host serves the device anew
    pub cleared_anew : Ordered unsent turns old → is_cleared n old a ≡ true → IsAnew turns old
    cleared_anew (Unsent is none anew) cleared = anew
    cleared_anew (Sent is has anew) cleared = anew
    cleared_anew (Idle is none) cleared = absurd (true≢false (sym cleared ∙ uncleared none))

-- ## A run

module _ (config : Config) (units : List Attached) (fits : is_config config (length units) ≡ true) (n : ℕ) (below : n < 15) (plan : DiskPlan) (sectors : ℕ)
    (size : IsSize plan sectors) (earlier : List Happening) (disk : IsDiskRun plan sectors (earlier ++ Plugged ∷ [])) where
  pub record OrderedNow (turns : List HostTurn) (now : Places) : Type 0 where
    pub unsent : Bool
    pub knows : Knows n unsent now
    pub touched : GoesTouched config.memory turns now.host
    pub ordered : Ordered config units fits n below plan sectors size earlier disk unsent turns now

  opening_ordered : OrderedNow [] (new_world config units)
  opening_ordered = record {
    unsent = false;
    knows = opening_knows config units fits n;
    touched = record { touches = []; touched = opens };
    ordered = Idle refl tt;
  }

  pub ordered_on : (before : List Step) (told : List Answer) (old : Places) → Run (new_world config units) before told old → (turns : List HostTurn)
      → OrderedNow turns old → (s : Step) (a : Answer) (new : Places) → Rule old s (Ok a) new → OrderedNow (turns ++ turn_of old s a new) new
  ordered_on before told old made turns o s a new rule =
      let both = order_step n below o.unsent old o.knows s a new rule in
      record {
        unsent = unsent_after n o.unsent old s a new;
        knows = both.1;
        touched =
            touched_over config.memory (sized config (length units) fits) turns (turn_of old s a new) old.host new.host o.touched.touches o.touched.touched
            (rule_does old s a new rule);
        ordered = order_after config units fits n below plan sectors size earlier disk before told old made o.unsent o.knows turns o.touched s a new rule both.0 o.ordered;
      }

  pub order_run : (before : List Step) (told : List Answer) (old : Places) → Run (new_world config units) before told old → (turns : List HostTurn)
      → OrderedNow turns old → (steps : List Step) (answers : List Answer) (new : Places) (run : Run old steps answers new)
      → OrderedNow (turns ++ over turn_of old steps answers new run) new
  order_run before told old made turns o [] [] new run =
      subst (λ (w : Places). OrderedNow (turns ++ []) w) (sym run) (subst (λ (ts : List HostTurn). OrderedNow ts old) (sym (append-nil turns)) o)
  order_run before told old made turns o [] (a ∷ answers) new run = absurd run
  order_run before told old made turns o (s ∷ steps) [] new run = absurd run
  order_run before told old made turns o (s ∷ steps) (a ∷ answers) new run =
      subst (λ (ts : List HostTurn). OrderedNow ts new) (append_assoc turns (turn_of old s a run.0) (over turn_of run.0 steps answers new run.2))
      (order_run (before ++ s ∷ []) (told ++ a ∷ []) run.0 (further config units fits n below before told old made s a run.0 run.1) (turns ++ turn_of old s a run.0)
      (ordered_on before told old made turns o s a run.0 run.1) steps answers new run.2)

  pub ordered_after : (steps : List Step) (answers : List Answer) (now : Places) (run : Run (new_world config units) steps answers now)
      → OrderedNow (over turn_of (new_world config units) steps answers now run) now
  ordered_after steps answers now run = order_run [] [] (new_world config units) refl [] opening_ordered steps answers now run
