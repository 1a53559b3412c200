-- For `connections_follow`. What is true of a port in each world. Connections come one after another, each removal
-- before the next coming. What is on its way to a device is not of a connection that is still to come.
use Rattle.std.proofs.Common.{◌≡◌, ◌==◌, ℕ, ◌+◌, ◌<◌, ◌≤◌, Bool, true, false, List, [], ◌∷◌, ◌++◌, length, map, zero, suc, refl, sym, ap, subst, ◌∙◌}
use Rattle.std.proofs.{Common.{inl, inr, Option, Some, None, Ok, arith}, lemmas.{Bool.{and_from, eqb-true, le-leb, lt-ltb}, Option.same_Some}}
use Rattle.std.specs.Prelude.{if◌then◌else◌, slice_get, nat_le, nat_lt}
use Rattle.fis_view.specs.Frames.{Stamped}
use Rattle.multiplier.specs.State.{falling, port_at}
use Rattle.hba_driver.specs.declared.mode.Mode.TheVariants.{Switching}
use Rattle.pm_world.specs.{Attached.Attached, Downward.falling_to, Links.{changed_by, on_presence}, Places.{IsOrderly, Place, Places, is_config}}
use Rattle.pm_world.specs.{Places.{new_world, opening}, Rules.{CameActs, CameRule, DiskSendRule, DiskTakeRule, GoneRule, InjectRule, PmDownRule}}
use Rattle.pm_world.specs.{Rules.{PmFromDeviceRule, PmPresenceRule, Rule, Run}, Traffic.is_removed, declared.{link.Change.Change, step.Config.Config}}
use Rattle.pm_world.specs.declared.step.{Step.Step, Answer.Answer}
use Rattle.pm_world.specs.declared.link.Change.TheVariants as change
use Rattle.pm_world.specs.declared.step.Step.TheVariants as step
use Rattle.pm_world.specs.declared.step.Answer.TheVariants as answer
use Rattle.pm_world.proofs.{steps.{Openings.{nothing_falls, port_opening}, Orderly.{opening_orderly, orderly_after}}, upward.Recorded.AreLetIn}
use Rattle.pm_world.proofs.{upward.Recorded.{IsLed, Known, Records, all, one, opening_led, records_last, rule_records}, steps.Steps.AtDevice}
use Rattle.pm_world.proofs.{steps.Steps.{at_both, at_device}, ports.DownLemmas.{DownChange, Gone, Put, Quiet, down_change, falls_keep}}
use Rattle.pm_world.proofs.ports.{EachLemmas.{Each, each_map, each_more}, KeepingLemmas.{IsTrue, opening_true, passes_open, true_after}}
use Rattle.pm_world.proofs.steps.Orderly as world_orderly

-- the step that tells that a unit came is the one by which it came
came_by : (old new : Places) (port conn : ℕ) (s : Step) → Rule old s (Ok (answer.Came port conn)) new → s ≡ step.Came port
came_by old new port conn (step.Came m) rule =
    let d : AtDevice old m (Ok (answer.Came port conn)) new (CameRule m) = at_device old m (answer.Came port conn) new (CameRule m) rule in
    let acts : CameActs m d.place (answer.Came port conn) d.after = d.rule.1 in
    ap (λ (k : ℕ). step.Came k) (sym acts.0)
came_by old new port conn (step.Gone m) rule = absurd (at_device old m (answer.Came port conn) new (GoneRule m) rule).rule.1
came_by old new port conn (step.DiskSend m) rule = absurd (at_device old m (answer.Came port conn) new (DiskSendRule m) rule).rule.1
came_by old new port conn (step.Inject m given) rule = absurd (at_device old m (answer.Came port conn) new (InjectRule m given) rule).rule.1
came_by old new port conn (step.DiskTake m) rule = absurd (at_device old m (answer.Came port conn) new (DiskTakeRule m) rule).rule
came_by old new port conn (step.PmPresence m) rule = absurd (at_both old m (answer.Came port conn) new (PmPresenceRule m) rule).rule
came_by old new port conn (step.PmFromDevice m) rule = absurd (at_both old m (answer.Came port conn) new (PmFromDeviceRule m) rule).rule
came_by old new port conn (step.PmDown m) rule = absurd (at_both old m (answer.Came port conn) new (PmDownRule m) rule).rule
came_by old new port conn other rule = absurd rule.0

-- ## Changes, one after another

-- each connection that comes is the one after the last
abbrev AreNext : List Change → Known → Type 0
AreNext [] k = Prim.Unit {0}
AreNext (change.Came conn ∷ cs) k = (conn ≡ k.1 + 1) × AreNext cs (one (change.Came conn) k)
AreNext (change.Gone conn ∷ cs) k = AreNext cs (one (change.Gone conn) k)

next_both : (xs ys : List Change) (k : Known) → AreNext xs k → AreNext ys (all xs k) → AreNext (xs ++ ys) k
next_both [] ys k h more = more
next_both (change.Came conn ∷ xs) ys k h more = (h.0, next_both xs ys (one (change.Came conn) k) h.1 more)
next_both (change.Gone conn ∷ xs) ys k h more = next_both xs ys (one (change.Gone conn) k) h more

next_front : (xs ys : List Change) (k : Known) → AreNext (xs ++ ys) k → AreNext xs k
next_front [] ys k h = tt
next_front (change.Came conn ∷ xs) ys k h = (h.0, next_front xs ys (one (change.Came conn) k) h.1)
next_front (change.Gone conn ∷ xs) ys k h = next_front xs ys (one (change.Gone conn) k) h

next_back : (xs ys : List Change) (k : Known) → AreNext (xs ++ ys) k → AreNext ys (all xs k)
next_back [] ys k h = h
next_back (change.Came conn ∷ xs) ys k h = next_back xs ys (one (change.Came conn) k) h.1
next_back (change.Gone conn ∷ xs) ys k h = next_back xs ys (one (change.Gone conn) k) h

-- all connections before the one that is present are gone; if none is present, all that came are gone
pub record IsClosed (k : Known) : Type 0 where
  pub there : (c : ℕ) → k.0 ≡ Some c → (0 < c) × (c ≤ k.2 + 1)
  pub none : k.0 ≡ None → k.1 ≤ k.2

closed_came : (conn : ℕ) (k : Known) → k.0 ≡ None → conn ≡ k.1 + 1 → IsClosed k → IsClosed (one (change.Came conn) k)
closed_came conn k none next is =
    let most : k.1 ≤ k.2 = is.none none in
    record {
      there = λ c e. let same : conn ≡ c = same_Some conn c e in (omega (arith, same, next), omega (arith, same, next, most));
      none = λ e. absurd (cc);
    }

closed_gone : (conn : ℕ) (k : Known) → k.1 ≡ conn → IsClosed (one (change.Gone conn) k)
closed_gone conn k last = record { there = λ c e. absurd (cc); none = λ e. omega (arith, last) }

-- the connection that is present is the last
abbrev IsLast : Known → Type 0
IsLast k = (c : ℕ) → k.0 ≡ Some c → k.1 ≡ c

last_came : (conn : ℕ) (k : Known) → IsLast (one (change.Came conn) k)
last_came conn k = λ c e. same_Some conn c e

last_gone : (conn : ℕ) (k : Known) → IsLast (one (change.Gone conn) k)
last_gone conn k = λ c e. absurd (cc)

closed_all : (cs : List Change) (k : Known) → AreLetIn cs k → AreNext cs k → IsLast k → IsClosed k → IsClosed (all cs k)
closed_all [] k let_in next last is = is
closed_all (change.Came conn ∷ cs) k let_in next last is =
    closed_all cs (one (change.Came conn) k) let_in.1 next.1 (last_came conn k) (closed_came conn k let_in.0.0 next.0 is)
closed_all (change.Gone conn ∷ cs) k let_in next last is =
    closed_all cs (one (change.Gone conn) k) let_in.1 next (last_gone conn k) (closed_gone conn k (last conn let_in.0))

-- ## A world

-- what the multiplier knows of port n
abbrev pub seen_at : ℕ → Places → Known
seen_at n now = world_orderly.known (port_at now.multiplier n)

-- what is on its way to a device is of a connection that came
abbrev pub HasCome : ℕ → Places → Stamped → Type 0
HasCome n now f = f.stamp.conn ≤ (seen_at n now).1

pub record IsFirm (n : ℕ) (now : Places) : Type 0 where
  pub orderly : IsOrderly now
  pub true_is : IsTrue n now.multiplier
  pub led : IsLed (slice_get now.devices n) (seen_at n now)
  pub next : AreNext (on_presence (slice_get now.devices n)) (seen_at n now)
  pub closed : IsClosed (seen_at n now)
  pub falls : Each (HasCome n now) (falling_to n now)

-- and if all that is posted is recorded
pub whole_closed : (n : ℕ) (now : Places) → IsFirm n now → IsClosed (all (on_presence (slice_get now.devices n)) (seen_at n now))
whole_closed n now f =
    closed_all (on_presence (slice_get now.devices n)) (seen_at n now) f.led.let_in f.next (λ c e. sym ((f.orderly.knows n).present c e).0) f.closed

-- the connection of the unit that comes is the one after the last
came_next : (n : ℕ) (old : Places) (port conn : ℕ) (new : Places) (s : Step) → port ≡ n → Rule old s (Ok (answer.Came port conn)) new
    → IsLed (slice_get old.devices n) (seen_at n old)
    → conn ≡ (all (on_presence (slice_get old.devices n)) (seen_at n old)).1 + 1
came_next n old port conn new s here rule led =
    let its : Rule old (step.Came port) (Ok (answer.Came port conn)) new =
    subst (λ (t : Step). Rule old t (Ok (answer.Came port conn)) new) (came_by old new port conn s rule) rule in
    let d : AtDevice old port (Ok (answer.Came port conn)) new (CameRule port) = at_device old port (answer.Came port conn) new (CameRule port) its in
    let acts : CameActs port d.place (answer.Came port conn) d.after = d.rule.1 in
    let at : slice_get old.devices n ≡ Some d.place = ap (slice_get old.devices) (sym here) ∙ d.is in
    let k : Known = seen_at n old in
    let was : IsLed (Some d.place) (seen_at n old) = subst (λ (o : Option Place). IsLed o (seen_at n old)) at led in
    acts.1 ∙ ap (λ (x : ℕ). x + 1) (sym was.stands.1) ∙ sym (ap (λ (o : Option Place). (all (on_presence o) (seen_at n old)).1 + 1) at)

changed_next : (n : ℕ) (old : Places) (s : Step) (a : Answer) (new : Places) → Rule old s (Ok a) new → IsLed (slice_get old.devices n) (seen_at n old)
    → AreNext (changed_by n a) (all (on_presence (slice_get old.devices n)) (seen_at n old))
changed_next n old s (answer.Came port conn) new rule led = by_test (port == n) refl
  where
    by_test : (b : Bool) → (port == n) ≡ b
        → AreNext (if b then change.Came conn ∷ [] else []) (all (on_presence (slice_get old.devices n)) (seen_at n old))
    by_test true is = (came_next n old port conn new s (eqb-true port n is) rule led, tt)
    by_test false is = tt
changed_next n old s (answer.Gone port conn) new rule led = by_test (port == n)
  where
    by_test : (b : Bool) → AreNext (if b then change.Gone conn ∷ [] else []) (all (on_presence (slice_get old.devices n)) (seen_at n old))
    by_test true = tt
    by_test false = tt
changed_next n old s a new rule led = tt

module _ (n : ℕ) (below : n < 15) (old : Places) (s : Step) (a : Answer) (new : Places) (rule : Rule old s (Ok a) new) (f : IsFirm n old) where
  records : Records n (slice_get old.devices n) (seen_at n old) a (slice_get new.devices n) (seen_at n new)
  records = rule_records old s a new f.orderly rule n f.led

  mono : (seen_at n old).1 ≤ (seen_at n new).1
  mono = records_last n (slice_get old.devices n) (seen_at n old) a (slice_get new.devices n) (seen_at n new) records

  whole_next : AreNext (records.read ++ on_presence (slice_get new.devices n)) (seen_at n old)
  whole_next =
      subst (λ (cs : List Change). AreNext cs (seen_at n old)) (sym records.link)
      (next_both (on_presence (slice_get old.devices n)) (changed_by n a) (seen_at n old) f.next (changed_next n old s a new rule f.led))

  present_last : IsLast (seen_at n old)
  present_last c e = sym ((f.orderly.knows n).present c e).0

  later : Each (HasCome n new) (falling_to n old)
  later = each_map (HasCome n old) (HasCome n new) (falling_to n old) (λ g was. let more : (seen_at n old).1 ≤ (seen_at n new).1 = mono in omega (arith, was, more)) f.falls

  falls_now : Each (HasCome n new) (falling_to n new)
  falls_now = by_down (down_change n old s new f.orderly a rule)
    where
      by_down : DownChange n old s a new → Each (HasCome n new) (falling_to n new)
      by_down (Quiet link none uncleared on) = falls_keep (HasCome n new) n old new on later
      by_down (Put g link one uncleared falls idle none) = subst (Each (HasCome n new)) (sym falls) later
      by_down (Gone g link none clears (inl same) idle _) = subst (Each (HasCome n new)) (sym same) later
      by_down (Gone g link none clears (inr fallen) idle _) =
          let opens = passes_open n old.multiplier fallen.conn fallen.passes in
          let last : fallen.conn ≡ (seen_at n old).1 = ((f.orderly.knows n).present fallen.conn opens.1).0 in
          let more : (seen_at n old).1 ≤ (seen_at n new).1 = mono in
          subst (Each (HasCome n new)) (sym fallen.here) (each_more (HasCome n new) (falling_to n old) (falling fallen.conn g) later (omega (arith, last, more)))

  pub firm_after : IsFirm n new
  firm_after = record {
    orderly = orderly_after old s a new f.orderly rule;
    true_is = true_after n old s a new rule f.true_is;
    led = records.led;
    next =
        subst (AreNext (on_presence (slice_get new.devices n))) (sym records.knows)
        (next_back records.read (on_presence (slice_get new.devices n)) (seen_at n old) whole_next);
    closed =
        subst IsClosed (sym records.knows)
        (closed_all records.read (seen_at n old) records.let_in (next_front records.read (on_presence (slice_get new.devices n)) (seen_at n old) whole_next)
        present_last f.closed);
    falls = falls_now;
  }

-- ## A run

pub run_firm : (n : ℕ) → n < 15 → (old : Places) (steps : List Step) (answers : List Answer) (new : Places) → Run old steps answers new → IsFirm n old → IsFirm n new
run_firm n below old [] [] new run f = subst (IsFirm n) (sym run) f
run_firm n below old (s ∷ steps) (a ∷ answers) new run f =
    run_firm n below run.0 steps answers new run.2 (firm_after n below old s a run.0 run.1 f)
run_firm n below old [] (a ∷ answers) new run f = absurd run
run_firm n below old (s ∷ steps) [] new run f = absurd run

none_read : (capacity : ℕ) (units : List Attached) (n : ℕ) (k : Known) → AreNext (on_presence (slice_get (map (opening capacity) units) n)) k
none_read capacity [] n k = tt
none_read capacity (u ∷ units) zero k = tt
none_read capacity (u ∷ units) (suc n) k = none_read capacity units n k

pub opening_firm : (config : Config) (units : List Attached) → is_config config (length units) ≡ true → (n : ℕ) → IsFirm n (new_world config units)
opening_firm config units fits n =
    let empty : seen_at n (new_world config units) ≡ (None, 0, 0) = ap (λ p. world_orderly.known p) (port_opening config units n) in
    record {
      orderly = opening_orderly Switching config units fits;
      true_is = opening_true config units n;
      led = subst (IsLed (slice_get (new_world config units).devices n)) (sym empty) (opening_led config.capacity units n);
      next = none_read config.capacity units n (seen_at n (new_world config units));
      closed = subst IsClosed (sym empty) (record { there = λ c e. absurd (cc); none = λ e. omega arith });
      falls = subst (Each (HasCome n (new_world config units))) (sym (nothing_falls Switching config units n)) tt;
    }

-- ## What is gone

-- each connection before the one that is present is removed
pub removed_before : (n c d : ℕ) (now : Places) → IsFirm n now → (port_at now.multiplier n).present ≡ Some c → 0 < d → d < c → is_removed n d now ≡ true
removed_before n c d now f there some less =
    let gone = (f.closed.there c there).1 in
    let low : d ≤ (port_at now.multiplier n).gone = omega (arith, gone, less) in
    and_from (nat_lt 0 d) (nat_le d (port_at now.multiplier n).gone) (lt-ltb 0 d some) (le-leb d (port_at now.multiplier n).gone low)

-- ## In each world to which a run from a new one leads

pub firm_at : (config : Config) (units : List Attached) → is_config config (length units) ≡ true → (n : ℕ) → n < 15 → (before : List Step)
    (told : List Answer) (old : Places) → Run (new_world config units) before told old → IsFirm n old
firm_at config units fits n below before told old made = run_firm n below (new_world config units) before told old made (opening_firm config units fits n)
