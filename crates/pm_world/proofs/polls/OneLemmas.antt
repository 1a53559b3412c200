-- For `polled_is_honest`. From the submit of a request to its report, all that the host takes of its device is of one
-- connection: the device is not flushed in between, so its port is not cleared.
use Rattle.std.proofs.Common.{◌≡◌, ◌⊎◌, ℕ, ◌<◌, ◌==◌, Bool, true, false, List, [], ◌∷◌, ◌++◌, length, refl, sym, ap, subst, ◌∙◌, inl, inr, Option}
use Rattle.std.proofs.{Common.{Some, None, Ok}, Math.Path.{path_j, subst_refl}, lemmas.List.Elements.{All-append, All-cons, All-nil}}
use Rattle.std.proofs.lemmas.Bool.{cases_Bool, eq-eqb, eqb-true, false_from_ne_true, true≢false}
use Rattle.std.specs.Prelude.{if◌then◌else◌, All}
use Rattle.fis_view.specs.Frames.{Stamped}
use Rattle.hba_fbs.specs.declared.report.TakeReport.{TakeReport}
use Rattle.hba_driver.specs.{declared.{mode.Mode.TheVariants.Switching, slot.Phase.TheVariants.Waits}, Drivers.{Driver, Entry, entry_at}}
use Rattle.hba_driver.specs.{Drivers.{has_ended_in, rephased}, HostTurns.{Host, Ticks, sight_in}, Sights.file_shown}
use Rattle.hba_driver.proofs.Door.{ticks_serve}
use Rattle.pm_world.specs.{Attached.Attached, Cleared.{PassesNone, is_cleared, is_up_from}, Downward.fell_to, Places.{IsOrderly, Places, is_config}}
use Rattle.pm_world.specs.{Places.new_world, Polled.connection_by, Rules.{Rule, Run}, Runs.over, Stale.{InOrder, latest, orders_clear, unsent_after}}
use Rattle.pm_world.specs.{Stale.identified_by, declared.step.{Config.Config, Step.Step, Answer.Answer}}
use Rattle.pm_world.specs.declared.step.Step.TheVariants as step
use Rattle.pm_world.specs.declared.step.Answer.TheVariants as answer
use Rattle.pm_world.proofs.{ports.EachLemmas.{Each, each_map, each_more}, turns.HostFold.rule_does, meant.IdentifiedLemmas.AllIdentified}
use Rattle.pm_world.proofs.{meant.IdentifiedLemmas.{all_identified, known_after}, ports.KeepingLemmas.{KeepsTo, keeps_after, keeps_one}}
use Rattle.pm_world.proofs.{upward.{Law.run_append, FrameMoves.rule_moves}, steps.Orderly.{opening_orderly, run_orderly}}
use Rattle.pm_world.proofs.{meant.OrderTurns.orders_in_order, reported.ReportedLemmas.{StoodIn, SubmitsAt, SubmittedIn, step_stood, submitted_first}}
use Rattle.pm_world.proofs.{reported.ReportedLemmas.submitted_later, meant.StaleLemmas.{Holds, IsComing, IsRisen, IsServed, cleared_coming}}
use Rattle.pm_world.proofs.{meant.StaleLemmas.{holds_now, none_coming, opening_holds, still, waits_then}, ports.UpLemmas.{Left, Rose, Same, UpChange}}
use Rattle.pm_world.proofs.ports.UpLemmas.{up_change}

-- ## Nothing is flushed while a request is unended

abbrev pub NoneOrders : (n : ℕ) → (old : Places) → (steps : List Step) → (answers : List Answer) → (new : Places) → Run old steps answers new → Type 0
NoneOrders n old [] answers new run = Prim.Unit {0}
NoneOrders n old (s ∷ steps) [] new run = Prim.Unit {0}
NoneOrders n old (s ∷ steps) (a ∷ answers) new run = (orders_clear n old a ≡ false) × NoneOrders n run.0 steps answers new run.2

-- the tick of a flush leaves no request of the device unended
unflushed : (old : Places) (s : Step) (a : Answer) (new : Places) → Rule old s (Ok a) new → (slot : ℕ) (f : Entry)
    → entry_at new.host.driver.entries slot ≡ Some f → has_ended_in f.head.phase ≡ false → orders_clear f.head.dev old a ≡ false
unflushed old s answer.Ticked new rule slot f here unended = false_from_ne_true _ (λ flush.
    let does = rule_does old s answer.Ticked new rule in
    let ticks : Ticks old.host true does.0 = does.1 in
    let there : entry_at does.0.driver.entries slot ≡ Some f = ap (λ (h : Host). entry_at h.driver.entries slot) (sym does.2) ∙ here in
    let ended = ticks_serve.ends (sight_in old.host) (file_shown does.0.port) old.host.driver f.head.dev slot f flush
    (ap (λ (d : Driver). entry_at d.entries slot) (sym ticks.driver) ∙ there) refl in
    true≢false (sym ended ∙ unended))
unflushed old s a new rule slot f here unended = refl

pub record KeptIn (old new : Places) (steps : List Step) (answers : List Answer) (run : Run old steps answers new) (slot : ℕ) (e : Entry) : Type 0 where
  pub submitted : SubmittedIn old new steps answers run slot e
  pub none : NoneOrders e.head.dev submitted.its.next submitted.its.after submitted.its.later new submitted.its.went

first_kept : (s : Step) (a : Answer) (steps : List Step) (answers : List Answer) (old new : Places) (run : Run old (s ∷ steps) (a ∷ answers) new) (slot : ℕ) (f g : Entry)
    → SubmitsAt old s a slot g → rephased Waits g ≡ rephased Waits f → NoneOrders f.head.dev run.0 steps answers new run.2
    → KeptIn old new (s ∷ steps) (a ∷ answers) run slot (rephased Waits f)
first_kept (step.Submit dev request) (answer.Submitted ticket) steps answers old new run slot f g is same none =
    subst (λ (x : Entry). KeptIn old new (step.Submit dev request ∷ steps) (answer.Submitted ticket ∷ answers) run slot x) same (record {
      submitted = submitted_first (step.Submit dev request) (answer.Submitted ticket) steps answers old new run slot g is;
      none = subst (λ (n : ℕ). NoneOrders n run.0 steps answers new run.2) (sym (ap (λ (x : Entry). x.head.dev) same)) none;
    })
first_kept s a steps answers old new run slot f g is same none = absurd is

pub kept_over : (old : Places) (steps : List Step) (answers : List Answer) (new : Places) (run : Run old steps answers new) (slot : ℕ) (f : Entry)
    → entry_at new.host.driver.entries slot ≡ Some f → has_ended_in f.head.phase ≡ false
    → (StoodIn old.host slot f × NoneOrders f.head.dev old steps answers new run) ⊎ KeptIn old new steps answers run slot (rephased Waits f)
kept_over old [] [] new run slot f here unended =
    inl (subst (λ (x : Places). StoodIn x.host slot f) run (record { entry = f; here = here; same = refl; unended = λ h. h }), tt)
kept_over old [] (a ∷ answers) new run slot f here unended = absurd run
kept_over old (s ∷ steps) [] new run slot f here unended = absurd run
kept_over old (s ∷ steps) (a ∷ answers) new run slot f here unended = elim (kept_over run.0 steps answers new run.2 slot f here unended) [
  | inr later ↦ inr (record { submitted = submitted_later s a steps answers old new run slot (rephased Waits f) later.submitted; none = later.none })
  | inl from ↦ elim (step_stood old s a run.0 run.1 slot from.0.entry from.0.here) [
    | inl stood ↦
        inl (
          record { entry = stood.entry; here = stood.here; same = stood.same ∙ from.0.same; unended = λ h. stood.unended (from.0.unended h) },
          (
            subst (λ (n : ℕ). orders_clear n old a ≡ false) (ap (λ (x : Entry). x.head.dev) from.0.same)
                (unflushed old s a run.0 run.1 slot from.0.entry from.0.here (from.0.unended unended)),
            from.1,
          ),
        )
    | inr fresh ↦
        inr (first_kept s a steps answers old new run slot f from.0.entry fresh from.0.same from.1)
  ]
]

-- ## What is on the host's link

-- a FIS, if it is of port n, is of connection c
abbrev IsOf : (n c : ℕ) → Stamped → Type 0
IsOf n c f = f.stamp.port ≡ n → f.stamp.conn ≡ c

-- the FISes of port n are of one connection
abbrev AreOne : ℕ → List Stamped → Type 0
AreOne n [] = Prim.Unit {0}
AreOne n (f ∷ frames) = (f.stamp.port ≡ n → Each (IsOf n f.stamp.conn) frames) × AreOne n frames

one_more : (n : ℕ) (frames : List Stamped) (f : Stamped) → AreOne n frames → (f.stamp.port ≡ n → Each (IsOf n f.stamp.conn) frames) → AreOne n (frames ++ f ∷ [])
one_more n [] f one same = (λ here. tt, tt)
one_more n (g ∷ frames) f one same = (
  λ here. each_more (IsOf n g.stamp.conn) frames f (one.0 here) (λ its. sym ((same its).0 here)),
  one_more n frames f one.1 (λ its. (same its).1),
)

module _ (n : ℕ) (below : n < 15) (known unsent : Bool) (last : Option ℕ) (old : Places) (s : Step) (a : Answer) (new : Places) (rule : Rule old s (Ok a) new)
    (h : Holds n known unsent last old) where
  one_after : AreOne n old.upward.frames → AreOne n new.upward.frames
  one_after one = by_up (up_change n old new below h.orderly s a rule)
    where
      by_up : UpChange n old s a new → AreOne n new.upward.frames
      by_up (Same link none) = subst (AreOne n) (sym link) one
      by_up (Left f link told idle) = (subst (AreOne n) link one).1
      by_up (Rose f link none passes other idle) =
          subst (AreOne n) (sym link) (one_more n old.upward.frames f one
          (λ here. each_map (IsRisen n old) (IsOf n f.stamp.conn) old.upward.frames
          (λ g risen its. sym (keeps_one n g.stamp.conn f.stamp.conn old.multiplier h.true_is (risen its).0 (passes here).opens (passes here).there)) h.up))

  -- the port keeps to connection c, and all of port n on the host's link is of c
  of_after : (c : ℕ) → is_cleared n old a ≡ false → KeepsTo n c old.multiplier → Each (IsOf n c) old.upward.frames
      → KeepsTo n c new.multiplier × Each (IsOf n c) new.upward.frames
  of_after c uncleared keeps of = (keeps_after n old s a new rule c below h.true_is uncleared keeps, by_up (up_change n old new below h.orderly s a rule))
    where
      by_up : UpChange n old s a new → Each (IsOf n c) new.upward.frames
      by_up (Same link none) = subst (Each (IsOf n c)) (sym link) of
      by_up (Left f link told idle) = (subst (Each (IsOf n c)) link of).1
      by_up (Rose f link none passes other idle) =
          subst (Each (IsOf n c)) (sym link) (each_more (IsOf n c) old.upward.frames f of
          (λ here. keeps_one n c f.stamp.conn old.multiplier h.true_is keeps (passes here).opens (passes here).there))

-- what the host takes is the first of its link
record IsFirst (n c : ℕ) (now : Places) : Type 0 where
  frame : Stamped
  rest : List Stamped
  link : now.upward.frames ≡ frame ∷ rest
  port : frame.stamp.port ≡ n
  conn : frame.stamp.conn ≡ c

first_taken : (n : ℕ) (known unsent : Bool) (last : Option ℕ) (old : Places) (s : Step) (port conn number : ℕ) (bytes : List ℕ) (report : TakeReport) (new : Places)
    → Rule old s (Ok (answer.Took port conn number bytes report)) new → Holds n known unsent last old → (port == n) ≡ true → IsFirst n conn old
first_taken n known unsent last old s port conn number bytes report new rule h here =
    let m = rule_moves old s (answer.Took port conn number bytes report) new h.orderly rule in
    record { frame = m.0; rest = new.upward.frames; link = m.2.upward; port = m.1.port_is ∙ eqb-true port n here; conn = m.1.conn_is }

-- ## A run

-- what is known of the port here, and of the rest of the run
record IsReady (n : ℕ) (old : Places) (steps : List Step) (answers : List Answer) (new : Places) (run : Run old steps answers new) : Type 0 where
  known : Bool
  unsent : Bool
  last : Option ℕ
  holds : Holds n known unsent last old
  order : InOrder n unsent old steps answers new run
  identified : AllIdentified n known old steps answers new run
  quiet : IsComing n unsent old → PassesNone n old steps answers new run
  one : AreOne n old.upward.frames

module _ (n : ℕ) (below : n < 15) (old : Places) (s : Step) (a : Answer) (steps : List Step) (answers : List Answer) (new : Places) (run : Run old (s ∷ steps) (a ∷ answers) new)
    (r : IsReady n old (s ∷ steps) (a ∷ answers) new run) where
  served : IsServed n r.known r.unsent old s a run.0
  served = record { order = r.order.0; identified = r.identified.0 }

  quiet_now : IsComing n r.unsent old → (fell_to n old s a run.0 ≡ []) × (is_up_from n s a ≡ false)
  quiet_now coming = ((r.quiet coming).0, (r.quiet coming).1)

  was : IsComing n (unsent_after n r.unsent old s a run.0) run.0 → orders_clear n old a ≡ false → IsComing n r.unsent old × (is_cleared n old a ≡ false)
  was coming idle = still n below r.known r.unsent r.last old s a run.0 run.1 r.holds served quiet_now coming idle

  quiet_next : IsComing n (unsent_after n r.unsent old s a run.0) run.0 → PassesNone n run.0 steps answers new run.2
  quiet_next coming = elim (cases_Bool (orders_clear n old a)) [
    | inl clears ↦ waits_then n below old s a run.0 run.1 r.holds.orderly r.holds.true_is clears (r.order.0.waits clears) steps answers new run.2
    | inr idle ↦ let before = was coming idle in (r.quiet before.0).2 before.1
  ]

  abbrev ready_next : IsReady n run.0 steps answers new run.2
  ready_next = record {
    known = known_after n r.known old s a run.0;
    unsent = unsent_after n r.unsent old s a run.0;
    last = latest r.last (identified_by n old s a run.0);
    holds = holds_now n below r.known r.unsent r.last old s a run.0 run.1 r.holds served quiet_now;
    order = r.order.1;
    identified = r.identified.1;
    quiet = quiet_next;
    one = one_after n below r.known r.unsent r.last old s a run.0 run.1 r.holds r.one;
  }

  uncleared_now : (IsComing n r.unsent old → ⊥) → is_cleared n old a ≡ false
  uncleared_now none = false_from_ne_true (is_cleared n old a) (λ cleared. none (cleared_coming n below r.known r.unsent r.last old s a run.0 run.1 r.holds served quiet_now cleared))

ready_later : (n : ℕ) → n < 15 → (old : Places) (first : List Step) (told : List Answer) (mid : Places) (made : Run old first told mid) (steps : List Step)
    (answers : List Answer) (new : Places) (run : Run mid steps answers new)
    → IsReady n old (first ++ steps) (told ++ answers) new (run_append old mid new first told steps answers made run)
    → IsReady n mid steps answers new run
unfolding run_append
ready_later n below old [] [] mid made steps answers new run r =
    path_j (λ (was : Places) (same : mid ≡ was). IsReady n was steps answers new (subst (λ (p : Places). Run p steps answers new) same run) → IsReady n mid steps answers new run)
    (λ here. subst (IsReady n mid steps answers new) (subst_refl (λ (p : Places). Run p steps answers new) run) here) made r
ready_later n below old (s ∷ first) (a ∷ told) mid made steps answers new run r =
    ready_later n below made.0 first told mid made.2 steps answers new run
    (ready_next n below old s a (first ++ steps) (told ++ answers) new (made.0, made.1, run_append made.0 mid new first told steps answers made.2 run) r)
ready_later n below old [] (x ∷ told) mid made steps answers new run r = absurd made
ready_later n below old (s ∷ first) [] mid made steps answers new run r = absurd made

-- the port keeps to connection c and is not to be cleared, and all of it on the host's link is of c
record IsOn (n c : ℕ) (unsent : Bool) (now : Places) : Type 0 where
  keeps : KeepsTo n c now.multiplier
  of : Each (IsOf n c) now.upward.frames
  still : IsComing n unsent now → ⊥

-- what the host takes then is of c
taken_on : (n c : ℕ) (known unsent : Bool) (last : Option ℕ) (old : Places) (s : Step) (a : Answer) (new : Places) → Rule old s (Ok a) new
    → Holds n known unsent last old → IsOn n c unsent old → All (λ (k : ℕ). k ≡ c) (connection_by n old s a new)
taken_on n c known unsent last old s (answer.Took port conn number bytes report) new rule h on = by_test (port == n) refl
  where
    by_test : (b : Bool) → (port == n) ≡ b → All (λ (k : ℕ). k ≡ c) (if b then conn ∷ [] else [])
    by_test true here =
        let first = first_taken n known unsent last old s port conn number bytes report new rule h here in
        let its : first.frame.stamp.conn ≡ c = (subst (Each (IsOf n c)) first.link on.of).0 first.port in
        All-cons (λ (k : ℕ). k ≡ c) conn [] (sym first.conn ∙ its) (All-nil (λ (k : ℕ). k ≡ c))
    by_test false other = All-nil (λ (k : ℕ). k ≡ c)
taken_on n c known unsent last old s a new rule h on = All-nil (λ (k : ℕ). k ≡ c)

-- that holds up to the end
record EndsOn (n c : ℕ) (old : Places) (steps : List Step) (answers : List Answer) (new : Places) (run : Run old steps answers new) : Type 0 where
  taken : All (λ (k : ℕ). k ≡ c) (over (connection_by n) old steps answers new run)
  of : Each (IsOf n c) new.upward.frames

of_one : (n : ℕ) (below : n < 15) (c : ℕ) (old : Places) (steps : List Step) (answers : List Answer) (new : Places) (run : Run old steps answers new)
    (r : IsReady n old steps answers new run) → NoneOrders n old steps answers new run → IsOn n c r.unsent old → EndsOn n c old steps answers new run
of_one n below c old [] [] new run r none on = record {
  taken = All-nil (λ (k : ℕ). k ≡ c);
  of = subst (λ (w : Places). Each (IsOf n c) w.upward.frames) (sym run) on.of;
}
of_one n below c old (s ∷ steps) (a ∷ answers) new run r none on =
    let unclear : is_cleared n old a ≡ false = uncleared_now n below old s a steps answers new run r on.still in
    let next = of_after n below r.known r.unsent r.last old s a run.0 run.1 r.holds c unclear on.keeps on.of in
    let rest : EndsOn n c run.0 steps answers new run.2 =
    of_one n below c run.0 steps answers new run.2 (ready_next n below old s a steps answers new run r) none.1 (record {
      keeps = next.0;
      of = next.1;
      still = λ coming. on.still (was n below old s a steps answers new run r coming none.0).0;
    }) in
    record {
      taken = All-append (λ (k : ℕ). k ≡ c) (connection_by n old s a run.0) (over (connection_by n) run.0 steps answers new run.2)
          (taken_on n c r.known r.unsent r.last old s a run.0 run.1 r.holds on) rest.taken;
      of = rest.of;
    }
of_one n below c old [] (a ∷ answers) new run r none on = absurd run
of_one n below c old (s ∷ steps) [] new run r none on = absurd run

-- from the first FIS that the host takes on, that holds
on_first : (n c : ℕ) (old : Places) (steps : List Step) (answers : List Answer) (new : Places) (run : Run old steps answers new) (r : IsReady n old steps answers new run)
    → IsFirst n c old → IsOn n c r.unsent old
on_first n c old steps answers new run r first =
    let risen = (subst (Each (IsRisen n old)) first.link r.holds.up).0 first.port in
    let others = (subst (AreOne n) first.link r.one).0 first.port in
    record {
      keeps = subst (λ (k : ℕ). KeepsTo n k old.multiplier) first.conn risen.0;
      of = subst (Each (IsOf n c)) (sym first.link) (λ here. first.conn, subst (λ (k : ℕ). Each (IsOf n k) first.rest) first.conn others);
      still = λ coming.
          let off = (subst (Each (λ (g : Stamped). (g.stamp.port == n) ≡ false)) first.link (r.holds.away coming)).0 in
          true≢false (sym (eq-eqb first.frame.stamp.port n first.port) ∙ off);
    }

-- up to a FIS that the host takes next
by_last : (n : ℕ) (below : n < 15) (c : ℕ) (old : Places) (steps : List Step) (answers : List Answer) (new : Places) (run : Run old steps answers new)
    → IsReady n old steps answers new run → NoneOrders n old steps answers new run → IsFirst n c new
    → All (λ (k : ℕ). k ≡ c) (over (connection_by n) old steps answers new run)
by_last n below c old [] [] new run r none last = All-nil (λ (k : ℕ). k ≡ c)
by_last n below c old (s ∷ steps) (answer.Took port conn number bytes report ∷ answers) new run r none last =
    by_test (by_last n below c run.0 steps answers new run.2 (ready_next n below old s (answer.Took port conn number bytes report) steps answers new run r) none.1 last)
    (port == n) refl
  where
    by_test : All (λ (k : ℕ). k ≡ c) (over (connection_by n) run.0 steps answers new run.2) → (b : Bool) → (port == n) ≡ b → All (λ (k : ℕ). k ≡ c) ((if b then conn ∷ [] else []) ++ (over (connection_by n) run.0 steps answers new run.2))
    by_test rest true here =
        let first = first_taken n r.known r.unsent r.last old s port conn number bytes report run.0 run.1 r.holds here in
        let ends = of_one n below conn old (s ∷ steps) (answer.Took port conn number bytes report ∷ answers) new run r none
        (on_first n conn old (s ∷ steps) (answer.Took port conn number bytes report ∷ answers) new run r first) in
        let same : conn ≡ c = sym ((subst (Each (IsOf n conn)) last.link ends.of).0 last.port) ∙ last.conn in
        subst (λ (d : ℕ). All (λ (k : ℕ). k ≡ d) (conn ∷ (over (connection_by n) run.0 steps answers new run.2))) same
        (subst (λ (b : Bool). All (λ (k : ℕ). k ≡ conn) ((if b then conn ∷ [] else []) ++ (over (connection_by n) run.0 steps answers new run.2))) here ends.taken)
    by_test rest false other = rest
by_last n below c old (s ∷ steps) (a ∷ answers) new run r none last =
    by_last n below c run.0 steps answers new run.2 (ready_next n below old s a steps answers new run r) none.1 last
by_last n below c old [] (a ∷ answers) new run r none last = absurd run
by_last n below c old (s ∷ steps) [] new run r none last = absurd run

pub taken_of_one : (config : Config) (units : List Attached) → is_config config (length units) ≡ true → (n : ℕ) → n < 15 → (first : List Step) (told : List Answer)
    (mid : Places) → Run (new_world config units) first told mid → (steps : List Step) (answers : List Answer) (now : Places) (run : Run mid steps answers now)
    → NoneOrders n mid steps answers now run → (s : Step) (port conn number : ℕ) (bytes : List ℕ) (report : TakeReport) (next : Places) → port ≡ n
    → Rule now s (Ok (answer.Took port conn number bytes report)) next
    → All (λ (k : ℕ). k ≡ conn) (over (connection_by n) mid steps answers now run)
taken_of_one config units fits n below first told mid made steps answers now run none s port conn number bytes report next is rule =
    let m = rule_moves now s (answer.Took port conn number bytes report) next orderly_now rule in
    by_last n below conn mid steps answers now run
    (ready_later n below (new_world config units) first told mid made steps answers now run (opening_ready (first ++ steps) (told ++ answers) now
    (run_append (new_world config units) mid now first told steps answers made run))) none
    (record { frame = m.0; rest = next.upward.frames; link = m.2.upward; port = m.1.port_is ∙ is; conn = m.1.conn_is })
  where
    opening_ready : (steps : List Step) (answers : List Answer) (new : Places) (run : Run (new_world config units) steps answers new)
        → IsReady n (new_world config units) steps answers new run
    opening_ready steps answers new run = record {
      known = false;
      unsent = false;
      last = None;
      holds = opening_holds config units fits n;
      order = orders_in_order config units fits steps answers new run n below;
      identified = all_identified config units fits steps answers new run n below;
      quiet = λ coming. absurd (none_coming config units fits n coming);
      one = tt;
    }

    orderly_now : IsOrderly now
    orderly_now = run_orderly mid steps answers now (run_orderly (new_world config units) first told mid (opening_orderly Switching config units fits) made) run
