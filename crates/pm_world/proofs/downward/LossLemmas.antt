-- For the field `nothing_lost_down` of `laws`. Nothing is lost on the way down in one step, and so in a whole run,
-- except what a recorded removal drops.
use Rattle.std.proofs.Common.{◌≡◌, ◌≢◌, ℕ, ◌+◌, ◌<◌, ◌≤◌, ◌==◌, Bool, true, false, cond, if◌then◌else◌, List, [], ◌∷◌, ◌++◌, Option, Some, None, refl, sym, ap, ap₂, subst, ◌∙◌, append_assoc, append-nil, inl, inr, length, drop, take, filter, flat_map, length-append, arith}
use Rattle.std.specs.Prelude.{Ok, ◌⊎◌, option_to_list}
use Rattle.std.proofs.{lemmas.{Bool.{cases_eq, eq-eqb, ne_eqb}, List.Elements.filter-append}, Math.Seq.drop-append_seam}
use Rattle.fis_view.specs.Frames.{Stamped}
use Rattle.pm_ports.specs.Port.{is_gone}
use Rattle.multiplier.specs.{Passing.{falls, lost_from}, State.{PmState, falling, passes_to, port_at}, declared.multiplier.Passed.Passed}
use Rattle.multiplier.specs.declared.multiplier.Passed.TheVariants as passed
use Rattle.multiplier.proofs.Door.{up_to_is}
use Rattle.pm_world.specs.{Places.{IsOrderly, KnowsItsConnections, Places}, Rules.{Rule, Run}, Runs.{Telling, over}}
use Rattle.pm_world.specs.Downward.{NothingLostDown, disk_took, falling_to, fell_to, is_down_to, is_passed, is_pushed, is_taken_at, lost_at}
use Rattle.pm_world.specs.{Downward.{of_connection, passed_by, pushed_by, times}, Traffic.is_removed, declared.{step.Step.Step, step.Answer.Answer}}
use Rattle.pm_world.specs.declared.step.Answer.TheVariants as answer
use Rattle.pm_world.proofs.{downward.DownMoves.{Goes, Lands, Loses, MayWait, MovesDown, Starts, rule_moves_down}, upward.Law.run_stays}
use Rattle.pm_world.proofs.steps.Orderly.{orderly_after}

-- how often one answer says so
abbrev pub once_if : Bool → ℕ
once_if says = cond says 1 0

-- What was lost at port n is the frame that waited there for its device, and the removal of its connection is recorded.
pub record WasLost (n : ℕ) (old new : Places) (lost : List Stamped) : Type 0 where
  pub frame : Stamped
  pub lost_is : lost ≡ frame ∷ []
  pub waited : (port_at old.multiplier n).down ≡ Some frame
  pub empty : (port_at new.multiplier n).down ≡ None
  pub removed : is_removed n frame.stamp.conn new ≡ true

-- what one step does to what is on its way down
pub record FallsBy (old : Places) (s : Step) (a : Answer) (new : Places) : Type 0 where
  pub host : passed_by old s a new ++ new.downward.frames ≡ old.downward.frames ++ pushed_by old s a new
  pub pushed : length (pushed_by old s a new) ≡ once_if (is_pushed a)
  pub passed : length (passed_by old s a new) ≡ once_if (is_passed a)
  pub ports : (n : ℕ) → disk_took n old s a new ++ falling_to n new ++ lost_at n old s a new ≡ falling_to n old ++ fell_to n old s a new
  pub fell : (n : ℕ) → length (fell_to n old s a new) ≡ once_if (is_down_to n a)
  pub took : (n : ℕ) → length (disk_took n old s a new) ≡ once_if (is_taken_at n a)
  pub lost : (n : ℕ) → (lost_at n old s a new ≡ []) ⊎ WasLost n old new (lost_at n old s a new)
  pub waits : (n : ℕ) → MayWait n old.multiplier new.multiplier

-- what stayed, and nothing more
and_nothing : {x y : List Stamped} → x ≡ y → x ≡ y ++ []
and_nothing {x} {y} e = e ∙ sym (append-nil y)

-- and if nothing is lost
nor_lost : {x y : List Stamped} → x ≡ y → x ++ [] ≡ y ++ []
nor_lost e = ap (λ (xs : List Stamped). xs ++ []) e

-- what is lost from a place was there, and is not any more
lost_was : (was now : Option Stamped) (frame : Stamped) → lost_from was now ≡ Some frame → (was ≡ Some frame) × (now ≡ None)
lost_was was None frame e = (e, refl)
lost_was was (Some f) frame e = absurd (cc)

module _ (old : Places) (s : Step) (new : Places) where
  starts_falls : (frame : Stamped) → Starts frame old new → FallsBy old s answer.Pushed new
  starts_falls frame m =
      let one : pushed_by old s answer.Pushed new ≡ frame ∷ [] = ap (λ xs. drop (length old.downward.frames) xs) m.link ∙ drop-append_seam old.downward.frames (frame ∷ []) in
      record {
        host = m.link ∙ ap (λ xs. old.downward.frames ++ xs) (sym one);
        pushed = ap (λ (xs : List Stamped). length xs) one;
        passed = refl;
        ports = λ n. nor_lost (m.falls n);
        fell = λ n. refl;
        took = λ n. refl;
        lost = λ n. inl refl;
        waits = m.waits;
      }

  -- the frame that leaves the host's link
  first_leaves : (p : Passed) (frame : Stamped) → old.downward.frames ≡ frame ∷ new.downward.frames → passed_by old s (answer.Passed p) new ≡ frame ∷ []
  first_leaves p frame link = ap (λ (xs : List Stamped). take 1 xs) link

  leaves_host : (p : Passed) (frame : Stamped) → old.downward.frames ≡ frame ∷ new.downward.frames → passed_by old s (answer.Passed p) new ++ new.downward.frames ≡ old.downward.frames ++ []
  leaves_host p frame link = and_nothing (ap (λ xs. xs ++ new.downward.frames) (first_leaves p frame link) ∙ sym link)

  goes_falls : (m : ℕ) (frame : Stamped) → Goes m frame old new → FallsBy old s (answer.Passed (passed.Down m)) new
  goes_falls m frame g = record {
    host = leaves_host (passed.Down m) frame g.link;
    pushed = refl;
    passed = ap (λ (xs : List Stamped). length xs) (first_leaves (passed.Down m) frame g.link);
    ports = λ n. elim (cases_eq m n) [
      | inl e ↦ append-nil (falling_to n new) ∙ at_port n e
      | inr other ↦ rw (ne_eqb m n other) (nor_lost (g.elsewhere n (λ e. other (sym e))))
    ];
    fell = λ n. elim (cases_eq m n) [
      | inl e ↦ ap (λ (xs : List Stamped). length xs) (fell n e) ∙ rw (eq-eqb m n e) refl
      | inr other ↦ rw (ne_eqb m n other) refl
    ];
    took = λ n. refl;
    lost = λ n. inl refl;
    waits = g.waits;
  }
    where
      one : flat_map (falls (passes_to old.multiplier m)) (take 1 old.downward.frames) ≡ falling g.conn frame ∷ []
      one = ap (λ (xs : List Stamped). flat_map (falls (passes_to old.multiplier m)) (take 1 xs)) g.link ∙ ap (λ (o : Option ℕ). flat_map (falls o) (frame ∷ [])) g.passes

      fell : (n : ℕ) → m ≡ n → fell_to n old s (answer.Passed (passed.Down m)) new ≡ falling g.conn frame ∷ []
      fell n e = rw (sym e, eq-eqb m m refl) one

      at_port : (n : ℕ) → m ≡ n → falling_to n new ≡ falling_to n old ++ fell_to n old s (answer.Passed (passed.Down m)) new
      at_port n e = rw (fell n e, sym e) g.here

  lands_falls : (m : ℕ) (dropped : Bool) (frame : Stamped) → Lands m frame old new → FallsBy old s (answer.DiskTook m dropped) new
  lands_falls m dropped frame l = record {
    host = and_nothing l.link;
    pushed = refl;
    passed = refl;
    ports = λ n. elim (cases_eq m n) [
      | inl e ↦ rw (one n e) (nor_lost (landed n e))
      | inr other ↦ rw (ne_eqb m n other) (nor_lost (l.elsewhere n (λ e. other (sym e))))
    ];
    fell = λ n. refl;
    took = λ n. elim (cases_eq m n) [
      | inl e ↦ ap (λ (xs : List Stamped). length xs) (one n e) ∙ rw (eq-eqb m n e) refl
      | inr other ↦ rw (ne_eqb m n other) refl
    ];
    lost = λ n. inl refl;
    waits = l.waits;
  }
    where
      landed : (n : ℕ) → m ≡ n → frame ∷ falling_to n new ≡ falling_to n old
      landed n e = rw (sym e) (sym l.here)

      one : (n : ℕ) → m ≡ n → disk_took n old s (answer.DiskTook m dropped) new ≡ frame ∷ []
      one n e = rw (sym e, eq-eqb m m refl) (ap (λ (xs : List Stamped). take 1 xs) l.first)

  loses_falls : (m : ℕ) → Loses m old new → FallsBy old s (answer.Presence m) new
  loses_falls m l = record {
    host = and_nothing l.link;
    pushed = refl;
    passed = refl;
    ports = λ n. elim (cases_eq m n) [
      | inl e ↦ rw (sym e, eq-eqb m m refl) (and_nothing l.here)
      | inr other ↦ rw (ne_eqb m n other) (nor_lost (l.elsewhere n (λ e. other (sym e))))
    ];
    fell = λ n. refl;
    took = λ n. refl;
    lost = λ n. elim (cases_eq m n) [
      | inl e ↦ rw (sym e, eq-eqb m m refl) (by_option (lost_from was now) refl)
      | inr other ↦ inl (rw (ne_eqb m n other) refl)
    ];
    waits = l.waits;
  }
    where
      was : Option Stamped
      was = (port_at old.multiplier m).down

      now : Option Stamped
      now = (port_at new.multiplier m).down

      by_option : (o : Option Stamped) → lost_from was now ≡ o → (option_to_list o ≡ []) ⊎ WasLost m old new (option_to_list o)
      by_option None e = inl refl
      by_option (Some frame) e =
          inr (record { frame = frame; lost_is = refl; waited = (lost_was was now frame e).0; empty = (lost_was was now frame e).1; removed = l.removed frame e })

  -- each move is what the tellings say about it
  moves_fall : (a : Answer) → MovesDown old a new → FallsBy old s a new
  moves_fall answer.Pushed m = starts_falls m.0 m.1
  moves_fall (answer.Passed (passed.Down n)) m = goes_falls n m.0 m.1
  moves_fall (answer.Passed p) m = record {
    host = leaves_host p m.0 m.1.link;
    pushed = refl;
    passed = ap (λ (xs : List Stamped). length xs) (first_leaves p m.0 m.1.link);
    ports = λ n. nor_lost (m.1.falls n);
    fell = λ n. refl;
    took = λ n. refl;
    lost = λ n. inl refl;
    waits = m.1.waits;
  }
  moves_fall (answer.DiskTook n dropped) m = lands_falls n dropped m.0 m.1
  moves_fall (answer.Presence n) m = loses_falls n m
  moves_fall a m = record {
    host = and_nothing m.link;
    pushed = refl;
    passed = refl;
    ports = λ n. nor_lost (m.falls n);
    fell = λ n. refl;
    took = λ n. refl;
    lost = λ n. inl refl;
    waits = m.waits;
  }

  rule_falls : (a : Answer) → IsOrderly old → Rule old s (Ok a) new → FallsBy old s a new
  rule_falls a orderly rule = moves_fall a (rule_moves_down old s a new orderly rule)

-- ---- over a run

-- lists of what is told to leave, what is there, what is lost and what is told to come: in a first
-- step, and in what follows
module _ {A : Type 0} (left first there mid now lost came come : List A) (one : left ++ mid ++ lost ≡ there ++ came) (rest : List A) (later : first ++ now ++ rest ≡ mid ++ come) where
  -- if the first step loses nothing
  joined : lost ≡ [] → (left ++ first) ++ now ++ (lost ++ rest) ≡ there ++ (came ++ come)
  joined none =
      ap (λ (xs : List A). (left ++ first) ++ now ++ (xs ++ rest)) none
      ∙ ap (λ (xs : List A). xs ++ rest) (append_assoc left first now)
      ∙ append_assoc left (first ++ now) rest
      ∙ ap (λ (xs : List A). left ++ xs) later
      ∙ sym (append_assoc left mid come)
      ∙ ap (λ (xs : List A). xs ++ come) (sym (append-nil (left ++ mid)) ∙ ap (λ (xs : List A). left ++ mid ++ xs) (sym none) ∙ one)
      ∙ append_assoc there came come

  -- if nothing comes after it, and nothing more is lost
  ended : come ≡ [] → rest ≡ [] → (left ++ first) ++ now ++ (lost ++ rest) ≡ there ++ (came ++ come)
  ended none_come none_lost =
      ap (λ (xs : List A). (left ++ first) ++ now ++ (lost ++ xs)) none_lost
      ∙ ap (λ (xs : List A). (left ++ first) ++ now ++ xs) (append-nil lost)
      ∙ ap (λ (xs : List A). xs ++ lost) (append_assoc left first now ∙ ap (λ (xs : List A). left ++ xs) still_there)
      ∙ one
      ∙ ap (λ (xs : List A). there ++ xs) (sym (append-nil came) ∙ ap (λ (xs : List A). came ++ xs) (sym none_come))
    where
      still_there : first ++ now ≡ mid
      still_there =
          sym (append-nil (first ++ now)) ∙ ap (λ (xs : List A). first ++ now ++ xs) (sym none_lost) ∙ later
          ∙ ap (λ (xs : List A). mid ++ xs) none_come ∙ append-nil mid

-- if in each step what is told to leave, and then what is there, is what was there and what is told
-- to come, the same holds in a run
over_conserves : {A : Type 0} → (leaves comes : Telling A) → (there : Places → List A)
    → ((old : Places) (s : Step) (a : Answer) (new : Places) → IsOrderly old → Rule old s (Ok a) new → leaves old s a new ++ there new ≡ there old ++ comes old s a new)
    → (old : Places) (steps : List Step) (answers : List Answer) (new : Places) (run : Run old steps answers new) → IsOrderly old
    → over leaves old steps answers new run ++ there new ≡ there old ++ over comes old steps answers new run
over_conserves leaves comes there each old [] [] new run orderly = ap there run ∙ sym (append-nil (there old))
over_conserves leaves comes there each old (s ∷ steps) (a ∷ answers) new run orderly =
    let mid = run.0 in
    let rest = over_conserves leaves comes there each mid steps answers new run.2 (orderly_after old s a mid orderly run.1) in
    append_assoc (leaves old s a mid) (over leaves mid steps answers new run.2) (there new)
    ∙ ap (λ xs. leaves old s a mid ++ xs) rest
    ∙ sym (append_assoc (leaves old s a mid) (there mid) (over comes mid steps answers new run.2))
    ∙ ap (λ xs. xs ++ over comes mid steps answers new run.2) (each old s a mid orderly run.1)
    ∙ append_assoc (there old) (comes old s a mid) (over comes mid steps answers new run.2)
over_conserves leaves comes there each old [] (a ∷ answers) new run orderly = absurd run
over_conserves leaves comes there each old (s ∷ steps) [] new run orderly = absurd run

-- if each step tells of one item exactly when its answer says so, a run tells of as many as its
-- answers say
over_counts : {A : Type 0} → (tell : Telling A) → (says : Answer → Bool)
    → ((old : Places) (s : Step) (a : Answer) (new : Places) → IsOrderly old → Rule old s (Ok a) new → length (tell old s a new) ≡ once_if (says a))
    → (old : Places) (steps : List Step) (answers : List Answer) (new : Places) (run : Run old steps answers new) → IsOrderly old
    → length (over tell old steps answers new run) ≡ times says answers
over_counts tell says each old [] [] new run orderly = refl
over_counts tell says each old (s ∷ steps) (a ∷ answers) new run orderly =
    let mid = run.0 in
    length-append (tell old s a mid) (over tell mid steps answers new run.2)
    ∙ ap₂ (λ i j. i + j) (each old s a mid orderly run.1) (over_counts tell says each mid steps answers new run.2 (orderly_after old s a mid orderly run.1))
    ∙ by_test (says a)
  where
    by_test : (b : Bool) → once_if b + times says answers ≡ length (cond b (a ∷ filter says answers) (filter says answers))
    by_test true = omega arith
    by_test false = omega arith
over_counts tell says each old [] (a ∷ answers) new run orderly = absurd run
over_counts tell says each old (s ∷ steps) [] new run orderly = absurd run

-- ---- at one port

-- lists that are empty together
both_empty : {A : Type 0} (xs ys : List A) → xs ++ ys ≡ [] → (xs ≡ []) × (ys ≡ [])
both_empty [] ys e = (refl, e)
both_empty (x ∷ xs) ys e = absurd (cc)

-- If a run loses nothing at a port, what the device took and then what is on its way to it is what
-- was passed down.
over_ports : (n : ℕ) (old : Places) (steps : List Step) (answers : List Answer) (new : Places) (run : Run old steps answers new) → IsOrderly old → over (lost_at n) old steps answers new run ≡ []
    → over (disk_took n) old steps answers new run ++ falling_to n new ≡ falling_to n old ++ over (fell_to n) old steps answers new run
over_ports n old [] [] new run orderly none = ap (λ (w : Places). falling_to n w) run ∙ sym (append-nil (falling_to n old))
over_ports n old (s ∷ steps) (a ∷ answers) new run orderly none =
    let mid = run.0 in
    let left = disk_took n old s a mid in
    let first = over (disk_took n) mid steps answers new run.2 in
    let come = over (fell_to n) mid steps answers new run.2 in
    let parts = both_empty (lost_at n old s a mid) (over (lost_at n) mid steps answers new run.2) none in
    let rest = over_ports n mid steps answers new run.2 (orderly_after old s a mid orderly run.1) parts.1 in
    let one = (rule_falls old s mid a orderly run.1).ports n in
    append_assoc left first (falling_to n new)
    ∙ ap (λ (xs : List Stamped). left ++ xs) rest
    ∙ sym (append_assoc left (falling_to n mid) come)
    ∙ ap (λ (xs : List Stamped). xs ++ come) (sym (append-nil (left ++ falling_to n mid)) ∙ ap (λ (xs : List Stamped). left ++ falling_to n mid ++ xs) (sym parts.0) ∙ one)
    ∙ append_assoc (falling_to n old) (fell_to n old s a mid) come
over_ports n old [] (a ∷ answers) new run orderly none = absurd run
over_ports n old (s ∷ steps) [] new run orderly none = absurd run

-- ---- for one connection

two : (c : ℕ) (xs ys : List Stamped) → of_connection c (xs ++ ys) ≡ of_connection c xs ++ of_connection c ys
two c xs ys = filter-append (λ (f : Stamped). f.stamp.conn == c) xs ys

three : (c : ℕ) (xs ys zs : List Stamped) → of_connection c (xs ++ ys ++ zs) ≡ of_connection c xs ++ of_connection c ys ++ of_connection c zs
three c xs ys zs = two c (xs ++ ys) zs ∙ ap (λ (fs : List Stamped). fs ++ of_connection c zs) (two c xs ys)

none_after : {A : Type 0} {xs ys : List A} → xs ≡ [] → ys ≡ [] → xs ++ ys ≡ []
none_after {A} {xs} {ys} e f = ap (λ (zs : List A). zs ++ ys) e ∙ f

-- a frame of another connection
of_other : (c : ℕ) (frame : Stamped) → frame.stamp.conn ≢ c → of_connection c (frame ∷ []) ≡ []
of_other c frame other = rw (ne_eqb frame.stamp.conn c other) refl

-- the connection that frames are passed down to is present
passes_present : (forwards : Bool) (present : Option ℕ) (conn : ℕ) → (if forwards then present else None) ≡ Some conn → present ≡ Some conn
passes_present true present conn e = e
passes_present false present conn e = absurd (cc)

-- so it is not a connection that is removed
passes_apart : (pm : PmState) (n conn c : ℕ) → KnowsItsConnections (port_at pm n) → passes_to pm n ≡ Some conn → is_gone (port_at pm n) c ≡ true → conn ≢ c
passes_apart pm n conn c knows passes so = λ same.
    let there : (port_at pm n).present ≡ Some conn = passes_present _ (port_at pm n).present conn passes in
    let above : (port_at pm n).gone < conn = (knows.present conn there).1 in
    let within : c ≤ (port_at pm n).gone = (up_to_is (port_at pm n).gone c so).1 in
    absurd (omega (arith, same))

-- what is passed down to other connections
all_other : (c : ℕ) (to : Option ℕ) → ((conn : ℕ) → to ≡ Some conn → conn ≢ c) → (frames : List Stamped) → of_connection c (flat_map (falls to) frames) ≡ []
all_other c to other [] = refl
all_other c None other (f ∷ frames) = all_other c None other frames
all_other c (Some conn) other (f ∷ frames) = rw (ne_eqb conn c (other conn refl)) (all_other c (Some conn) other frames)

-- nothing of a connection that is removed is passed down
none_fell : (n c : ℕ) (old : Places) (s : Step) (a : Answer) (new : Places) → IsOrderly old → is_removed n c old ≡ true → of_connection c (fell_to n old s a new) ≡ []
none_fell n c old s (answer.Passed (passed.Down m)) new orderly so = by_test (m == n)
  where
    by_test : (b : Bool) → of_connection c (if b then flat_map (falls (passes_to old.multiplier n)) (take 1 old.downward.frames) else []) ≡ []
    by_test true = all_other c (passes_to old.multiplier n) (λ conn e. passes_apart old.multiplier n conn c (orderly.knows n) e so) (take 1 old.downward.frames)
    by_test false = refl
none_fell n c old s a new orderly so = refl

-- what waits at port n for its device, of connection c
abbrev waits_of : ℕ → ℕ → Places → List Stamped
waits_of n c now = of_connection c (option_to_list (port_at now.multiplier n).down)

module _ (n c : ℕ) (old : Places) (s : Step) (a : Answer) (new : Places) (orderly : IsOrderly old) (fall : FallsBy old s a new) where
  -- if nothing of a connection waits, none of it is lost
  none_lost : waits_of n c old ≡ [] → of_connection c (lost_at n old s a new) ≡ []
  none_lost none =
      elim (fall.lost n) [
        | inl nothing ↦ ap (of_connection c) nothing
        | inr w ↦ ap (of_connection c) w.lost_is ∙ sym (ap (λ (o : Option Stamped). of_connection c (option_to_list o)) w.waited) ∙ none
      ]

  -- and if it is removed, none of it waits afterwards
  none_waits : is_removed n c old ≡ true → waits_of n c old ≡ [] → waits_of n c new ≡ []
  none_waits so none = by_option (port_at new.multiplier n).down refl
    where
      by_option : (o : Option Stamped) → (port_at new.multiplier n).down ≡ o → of_connection c (option_to_list o) ≡ []
      by_option None e = refl
      by_option (Some frame) e =
          elim (fall.waits n frame e) [
            | inl was ↦ ap (λ (o : Option Stamped). of_connection c (option_to_list o)) (sym was) ∙ none
            | inr passes ↦ of_other c frame (passes_apart old.multiplier n frame.stamp.conn c (orderly.knows n) passes so)
          ]

-- for a connection that is removed, and of which nothing waits, nothing is passed down or lost any
-- more
run_over : (n c : ℕ) (old : Places) (steps : List Step) (answers : List Answer) (new : Places) (run : Run old steps answers new) → IsOrderly old → is_removed n c old ≡ true → waits_of n c old ≡ []
    → (of_connection c (over (fell_to n) old steps answers new run) ≡ []) × (of_connection c (over (lost_at n) old steps answers new run) ≡ [])
run_over n c old [] [] new run orderly so none = (refl, refl)
run_over n c old (s ∷ steps) (a ∷ answers) new run orderly so none =
    let mid = run.0 in
    let still = orderly_after old s a mid orderly run.1 in
    let fall = rule_falls old s mid a orderly run.1 in
    let rest = run_over n c mid steps answers new run.2 still (run_stays old (s ∷ []) (a ∷ []) mid orderly (mid, run.1, refl) n c so) (none_waits n c old s a mid orderly fall so none) in (
      two c (fell_to n old s a mid) (over (fell_to n) mid steps answers new run.2) ∙ none_after (none_fell n c old s a mid orderly so) rest.0,
      two c (lost_at n old s a mid) (over (lost_at n) mid steps answers new run.2) ∙ none_after (none_lost n c old s a mid orderly fall none) rest.1,
    )
run_over n c old [] (a ∷ answers) new run orderly so none = absurd run
run_over n c old (s ∷ steps) [] new run orderly so none = absurd run

-- For each connection, what the device took, then what is on its way, and then what was lost, is what
-- was passed down.
over_each : (n c : ℕ) (old : Places) (steps : List Step) (answers : List Answer) (new : Places) (run : Run old steps answers new) → IsOrderly old
    → of_connection c (over (disk_took n) old steps answers new run ++ falling_to n new ++ over (lost_at n) old steps answers new run)
    ≡ of_connection c (falling_to n old ++ over (fell_to n) old steps answers new run)
over_each n c old [] [] new run orderly = ap (λ (w : Places). of_connection c (falling_to n w ++ [])) run
over_each n c old (s ∷ steps) (a ∷ answers) new run orderly =
    let mid = run.0 in
    let of = of_connection c in
    let still = orderly_after old s a mid orderly run.1 in
    let fall = rule_falls old s mid a orderly run.1 in
    let left = disk_took n old s a mid in
    let first = over (disk_took n) mid steps answers new run.2 in
    let lost = lost_at n old s a mid in
    let rest = over (lost_at n) mid steps answers new run.2 in
    let came = fell_to n old s a mid in
    let come = over (fell_to n) mid steps answers new run.2 in
    let one : of left ++ of (falling_to n mid) ++ of lost ≡ of (falling_to n old) ++ of came =
    sym (three c left (falling_to n mid) lost) ∙ ap of (fall.ports n) ∙ two c (falling_to n old) came in
    let later : of first ++ of (falling_to n new) ++ of rest ≡ of (falling_to n mid) ++ of come =
    sym (three c first (falling_to n new) rest) ∙ over_each n c mid steps answers new run.2 still ∙ two c (falling_to n mid) come in
    let both : (of left ++ of first) ++ of (falling_to n new) ++ (of lost ++ of rest) ≡ of (falling_to n old) ++ (of came ++ of come) =
    elim (fall.lost n) [
      | inl nothing ↦ joined (of left) (of first) (of (falling_to n old)) (of (falling_to n mid)) (of (falling_to n new)) (of lost) (of came) (of come) one (of rest) later (ap of nothing)
      | inr w ↦ elim (cases_eq w.frame.stamp.conn c) [
        | inl same ↦
            let none = run_over n c mid steps answers new run.2 still (subst (λ (k : ℕ). is_removed n k mid ≡ true) same w.removed) (ap (λ (o : Option Stamped). of (option_to_list o)) w.empty) in
            ended (of left) (of first) (of (falling_to n old)) (of (falling_to n mid)) (of (falling_to n new)) (of lost) (of came) (of come) one (of rest) later none.0 none.1
        | inr other ↦
            joined (of left) (of first) (of (falling_to n old)) (of (falling_to n mid)) (of (falling_to n new)) (of lost) (of came) (of come) one (of rest) later (ap of w.lost_is ∙ of_other c w.frame other)
      ]
    ] in
    three c (left ++ first) (falling_to n new) (lost ++ rest)
    ∙ ap₂ (λ (xs ys : List Stamped). xs ++ of (falling_to n new) ++ ys) (two c left first) (two c lost rest)
    ∙ both
    ∙ ap (λ (xs : List Stamped). of (falling_to n old) ++ xs) (sym (two c came come))
    ∙ sym (two c (falling_to n old) (came ++ come))
over_each n c old [] (a ∷ answers) new run orderly = absurd run
over_each n c old (s ∷ steps) [] new run orderly = absurd run

-- nothing is lost of a connection that is not removed
over_kept : (n c : ℕ) (old : Places) (steps : List Step) (answers : List Answer) (new : Places) (run : Run old steps answers new) → IsOrderly old → is_gone (port_at new.multiplier n) c ≡ false
    → of_connection c (over (lost_at n) old steps answers new run) ≡ []
over_kept n c old [] [] new run orderly never = refl
over_kept n c old (s ∷ steps) (a ∷ answers) new run orderly never =
    let mid = run.0 in
    let still = orderly_after old s a mid orderly run.1 in
    let none : of_connection c (lost_at n old s a mid) ≡ [] =
    elim ((rule_falls old s mid a orderly run.1).lost n) [
      | inl nothing ↦ ap (of_connection c) nothing
      | inr w ↦ elim (cases_eq w.frame.stamp.conn c) [
        | inl same ↦
            let wrong : is_removed n c new ≡ true = run_stays mid steps answers new still run.2 n c (subst (λ (k : ℕ). is_removed n k mid ≡ true) same w.removed) in
            absurd (cc)
        | inr other ↦ ap (of_connection c) w.lost_is ∙ of_other c w.frame other
      ]
    ] in
    two c (lost_at n old s a mid) (over (lost_at n) mid steps answers new run.2) ∙ none_after none (over_kept n c mid steps answers new run.2 still never)
over_kept n c old [] (a ∷ answers) new run orderly never = absurd run
over_kept n c old (s ∷ steps) [] new run orderly never = absurd run

-- ---- all of it

pub nothing_lost_down : (old : Places) (steps : List Step) (answers : List Answer) (new : Places) (run : Run old steps answers new) → IsOrderly old → NothingLostDown old steps answers new run
nothing_lost_down old steps answers new run orderly = record {
  host = over_conserves passed_by pushed_by (λ w. w.downward.frames) (λ o s a w is r. (rule_falls o s w a is r).host) old steps answers new run orderly;
  pushed = over_counts pushed_by is_pushed (λ o s a w is r. (rule_falls o s w a is r).pushed) old steps answers new run orderly;
  passed = over_counts passed_by is_passed (λ o s a w is r. (rule_falls o s w a is r).passed) old steps answers new run orderly;
  ports = λ n. over_ports n old steps answers new run orderly;
  each = λ n c. over_each n c old steps answers new run orderly;
  kept = λ n c. over_kept n c old steps answers new run orderly;
  fell = λ n. over_counts (fell_to n) (is_down_to n) (λ o s a w is r. (rule_falls o s w a is r).fell n) old steps answers new run orderly;
  took = λ n. over_counts (disk_took n) (is_taken_at n) (λ o s a w is r. (rule_falls o s w a is r).took n) old steps answers new run orderly;
}
