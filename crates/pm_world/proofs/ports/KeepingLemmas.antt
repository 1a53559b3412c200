-- For `ports_keep_to_one`. A port keeps to one connection between two clears. This holds in each step, and so in each
-- run.
use Rattle.std.proofs.Common.{◌≡◌, ◌≢◌, ◌⊎◌, ℕ, ◌<◌, ◌==◌, Bool, true, false, List, [], ◌∷◌, ◌++◌, length, drop, take, flat_map, Option, Some, None}
use Rattle.std.proofs.Common.{Ok, refl, sym, ap, subst, ◌∙◌, inl, inr, arith}
use Rattle.std.specs.Prelude.{if◌then◌else◌}
use Rattle.std.proofs.lemmas.{Bool.{cases_eq, eqb-true, true≢false}, List.length-replicate, Option.same_Some}
use Rattle.fis_view.specs.Frames.{Stamped}
use Rattle.pm_registers.specs.{Port.opening_port, RegisterMap.forwards}
use Rattle.pm_ports.specs.Port.{only_if, rises}
use Rattle.multiplier.specs.{Arbiter.control_port, Passing.falls, State.{PmState, passes_to, port_at}}
use Rattle.multiplier.specs.Between.{Answer as Answers, FromPort, Gives, Notice}
use Rattle.multiplier.specs.declared.multiplier.Passed.TheVariants as passed
use Rattle.multiplier.proofs.Door.{gives}
use Rattle.hba_driver.specs.declared.mode.Mode.TheVariants.{Switching}
use Rattle.pm_world.specs.{Attached.Attached, Cleared.is_cleared, Downward.fell_to, Places.{IsOrderly, Places, Queue, new_world}}
use Rattle.pm_world.specs.{Rules.{PmUpRule, Rule, Run}, declared.{step.Config.Config, step.Step.Step, step.Answer.Answer}}
use Rattle.pm_world.specs.Keeping.{AreOf, EachKeeps, Keep, PassesOnly, PortsKeep, passed_at, rose_from}
use Rattle.pm_world.specs.declared.step.Step.TheVariants as step
use Rattle.pm_world.specs.declared.step.Answer.TheVariants as answer
use Rattle.pm_world.proofs.cleared.Cleared.{PortGoes, Shows, Waits, forwards_none, opening_shows, rule_goes}
use Rattle.pm_world.proofs.steps.Orderly.{opening_orderly, orderly_after}

-- ## One connection

-- the multiplier has its ports, and port n shows its device truly
pub record IsTrue (n : ℕ) (pm : PmState) : Type 0 where
  pub room : length pm.registers.bank ≡ 15
  pub shows : Shows n pm.registers

-- any other connection than c that is present at port n waits for the host
abbrev pub KeepsTo : (n c : ℕ) → PmState → Type 0
KeepsTo n c pm = (d : ℕ) → (port_at pm n).present ≡ Some d → d ≢ c → Waits n pm.registers

-- so what passes is of c
pub keeps_one : (n c d : ℕ) (pm : PmState) → IsTrue n pm → KeepsTo n c pm → forwards pm.registers n ≡ true → (port_at pm n).present ≡ Some d → d ≡ c
keeps_one n c d pm is keeps opens there = elim (cases_eq d c) [
  | inl same ↦ same
  | inr other ↦ absurd (true≢false (sym opens ∙ forwards_none n pm.registers (record { shows = is.shows; told = keeps d there other })))
]

-- a connection is present, or it is not
pub is_there : (o : Option ℕ) (d : ℕ) → (o ≡ Some d) ⊎ (o ≢ Some d)
is_there None d = inr (λ e. absurd (cc))
is_there (Some c) d = elim (cases_eq c d) [
  | inl same ↦ inl (ap (λ (k : ℕ). Some k) same)
  | inr other ↦ inr (λ e. other (same_Some c d e))
]

module _ (n : ℕ) (old : Places) (s : Step) (a : Answer) (new : Places) (rule : Rule old s (Ok a) new) where
  goes : PortGoes n (is_cleared n old a) old.multiplier new.multiplier
  goes = rule_goes n old s a new rule

  pub true_after : IsTrue n old.multiplier → IsTrue n new.multiplier
  true_after is = record { room = goes.room ∙ is.room; shows = goes.shows is.shows }

  -- a step keeps it, unless the host clears the port
  pub keeps_after : (c : ℕ) → n < 15 → IsTrue n old.multiplier → is_cleared n old a ≡ false → KeepsTo n c old.multiplier → KeepsTo n c new.multiplier
  keeps_after c below is none keeps d now other = elim (is_there (port_at old.multiplier n).present d) [
    | inl was ↦ goes.waits none (keeps d was other)
    | inr never ↦ goes.comes d never now is.room below
  ]

  -- and that holds for the connection that was present
  pub keeps_from : (c : ℕ) → n < 15 → IsTrue n old.multiplier → (port_at old.multiplier n).present ≡ Some c → KeepsTo n c new.multiplier
  keeps_from c below is there d now other =
      goes.comes d (λ was. other (sym (same_Some c d (sym there ∙ was)))) now is.room below

-- ## What passes

-- the port forwards, and the connection of this FIS is present
pub record IsPassed (n : ℕ) (pm : PmState) (f : Stamped) : Type 0 where
  pub opens : forwards pm.registers n ≡ true
  pub there : (port_at pm n).present ≡ Some f.stamp.conn

abbrev pub ArePassed : ℕ → PmState → List Stamped → Type 0
ArePassed n pm [] = Prim.Unit {0}
ArePassed n pm (f ∷ frames) = IsPassed n pm f × ArePassed n pm frames

both_passed : (n : ℕ) (pm : PmState) (xs ys : List Stamped) → ArePassed n pm xs → ArePassed n pm ys → ArePassed n pm (xs ++ ys)
both_passed n pm [] ys first second = second
both_passed n pm (x ∷ xs) ys first second = (first.0, both_passed n pm xs ys first.1 second)

-- down
module _ (n : ℕ) (pm : PmState) where
  falls_passed : (o : Option ℕ) (frames : List Stamped) → ((c : ℕ) → o ≡ Some c → (forwards pm.registers n ≡ true) × ((port_at pm n).present ≡ Some c)) → ArePassed n pm (flat_map (falls o) frames)
  falls_passed None (f ∷ frames) h = falls_passed None frames h
  falls_passed (Some c) (f ∷ frames) h = (record { opens = (h c refl).0; there = (h c refl).1 }, falls_passed (Some c) frames h)
  falls_passed other [] h = tt

  pub passes_open : (c : ℕ) → passes_to pm n ≡ Some c → (forwards pm.registers n ≡ true) × ((port_at pm n).present ≡ Some c)
  passes_open c e = by_test (forwards pm.registers n) e
    where
      by_test : (b : Bool) → (if b then (port_at pm n).present else None) ≡ Some c → (b ≡ true) × ((port_at pm n).present ≡ Some c)
      by_test true e = (refl, e)
      by_test false e = absurd (cc)

  if_passed : (b : Bool) (frames : List Stamped) → ArePassed n pm frames → ArePassed n pm (if b then frames else [])
  if_passed true frames h = h
  if_passed false frames h = tt

fell_passed : (n : ℕ) (old : Places) (s : Step) (a : Answer) (new : Places) → ArePassed n old.multiplier (fell_to n old s a new)
fell_passed n old s (answer.Passed (passed.Down m)) new =
    if_passed n old.multiplier (m == n) (flat_map (falls (passes_to old.multiplier n)) (take 1 old.downward.frames))
    (falls_passed n old.multiplier (passes_to old.multiplier n) (take 1 old.downward.frames) (passes_open n old.multiplier))
fell_passed n old s a new = tt

-- up
holds_open : (opens : Bool) (present : Option ℕ) (up : Option Stamped) (frame : Stamped) → rises opens present up ≡ Some frame → (opens ≡ true) × (present ≡ Some frame.stamp.conn)
holds_open opens present None frame e = absurd (cc)
holds_open false present (Some f) frame e = absurd (cc)
holds_open true None (Some f) frame e = absurd (cc)
holds_open true (Some c) (Some f) frame e = by_test (f.stamp.conn == c) refl e
  where
    by_test : (b : Bool) → (f.stamp.conn == c) ≡ b → only_if b f ≡ Some frame → (true ≡ true) × (Some c ≡ Some frame.stamp.conn)
    by_test true is e =
        let same : f ≡ frame = same_Some f frame e in
        (refl, ap (λ (k : ℕ). Some k) (sym (eqb-true f.stamp.conn c is) ∙ ap (λ (g : Stamped). g.stamp.conn) same))
    by_test false is e = absurd (cc)

pub given_passed : (n : ℕ) (pm : PmState) (frame : Stamped) (left : PmState) → n < 15 → ((f : Stamped) → pm.answer ≡ Some f → f.stamp.port ≡ control_port) → frame.stamp.port ≡ n → Gives pm frame left → IsPassed n pm frame
given_passed n pm frame left below answers port_is (FromPort k was next other holds stamp up e) =
    let here : k ≡ n = sym (ap (λ (f : Stamped). f.stamp.port) up) ∙ port_is in
    let facts = holds_open (forwards pm.registers k) (port_at pm k).present (port_at pm k).up was holds in
    let conn : was.stamp.conn ≡ frame.stamp.conn = sym (ap (λ (f : Stamped). f.stamp.conn) up) in
    subst (λ (j : ℕ). IsPassed j pm frame) here (record { opens = facts.0; there = facts.1 ∙ ap (λ (j : ℕ). Some j) conn })
given_passed n pm frame left below answers port_is (Notice next due made e) =
    let control : frame.stamp.port ≡ 15 = ap (λ s. s.port) made.1 in
    absurd (omega (arith, below, port_is, control))
given_passed n pm frame left below answers port_is (Answers next there e) =
    let control : frame.stamp.port ≡ 15 = answers frame there in
    absurd (omega (arith, below, port_is, control))

pub drop_own : {X : Type 0} (xs ys : List X) → drop (length xs) (xs ++ ys) ≡ ys
drop_own [] ys = refl
drop_own (x ∷ xs) ys = drop_own xs ys

up_passed : (n : ℕ) (old new : Places) (a : Answer) → n < 15 → IsOrderly old → PmUpRule old.multiplier old.upward (Ok a) new.multiplier new.upward → ArePassed n old.multiplier (rose_from n old step.PmUp a new)
up_passed n old new (answer.Up k) below orderly acts = by_test (k == n) refl
  where
    rose : drop (length old.upward.frames) new.upward.frames ≡ acts.1.0 ∷ []
    rose = ap (λ (q : Queue). drop (length old.upward.frames) q.frames) acts.1.3 ∙ drop_own old.upward.frames (acts.1.0 ∷ [])

    by_test : (b : Bool) → (k == n) ≡ b → ArePassed n old.multiplier (if b then drop (length old.upward.frames) new.upward.frames else [])
    by_test true is =
        let one = given_passed n old.multiplier acts.1.0 new.multiplier below orderly.answer (acts.1.1 ∙ eqb-true k n is) (gives old.multiplier acts.1.0 new.multiplier acts.1.2) in
        subst (ArePassed n old.multiplier) (sym rose) (one, tt)
    by_test false is = tt
up_passed n old new a below orderly acts = tt

rose_passed : (n : ℕ) (old : Places) (s : Step) (a : Answer) (new : Places) → n < 15 → IsOrderly old → Rule old s (Ok a) new → ArePassed n old.multiplier (rose_from n old s a new)
rose_passed n old step.PmUp a new below orderly rule = up_passed n old new a below orderly rule.0
rose_passed n old s a new below orderly rule = tt

pub are_passed : (n : ℕ) (old : Places) (s : Step) (a : Answer) (new : Places) → n < 15 → IsOrderly old → Rule old s (Ok a) new → ArePassed n old.multiplier (passed_at n old s a new)
are_passed n old s a new below orderly rule =
    both_passed n old.multiplier (fell_to n old s a new) (rose_from n old s a new) (fell_passed n old s a new) (rose_passed n old s a new below orderly rule)

-- ## A run

all_of_one : (n c : ℕ) (pm : PmState) (frames : List Stamped) → IsTrue n pm → KeepsTo n c pm → ArePassed n pm frames → AreOf c frames
all_of_one n c pm [] is keeps h = tt
all_of_one n c pm (f ∷ frames) is keeps h = (keeps_one n c f.stamp.conn pm is keeps h.0.opens h.0.there, all_of_one n c pm frames is keeps h.1)

run_keeps : (n c : ℕ) (old : Places) (steps : List Step) (answers : List Answer) (new : Places) (run : Run old steps answers new) → n < 15 → IsOrderly old → IsTrue n old.multiplier → KeepsTo n c old.multiplier
    → PassesOnly n c old steps answers new run
run_keeps n c old [] answers new run below orderly is keeps = tt
run_keeps n c old (s ∷ steps) [] new run below orderly is keeps = tt
run_keeps n c old (s ∷ steps) (a ∷ answers) new run below orderly is keeps = (
  all_of_one n c old.multiplier (passed_at n old s a run.0) is keeps (are_passed n old s a run.0 below orderly run.1),
  λ none. run_keeps n c run.0 steps answers new run.2 below (orderly_after old s a run.0 orderly run.1)
      (true_after n old s a run.0 run.1 is) (keeps_after n old s a run.0 run.1 c below is none keeps),
)

module _ (n : ℕ) (old mid : Places) (s : Step) (a : Answer) (rule : Rule old s (Ok a) mid) (steps : List Step) (answers : List Answer) (new : Places) (run : Run mid steps answers new)
    (below : n < 15) (orderly : IsOrderly old) (is : IsTrue n old.multiplier) where
  all_keep : (frames : List Stamped) → ArePassed n old.multiplier frames → Keep n frames mid steps answers new run
  all_keep [] h = tt
  all_keep (f ∷ frames) h = (
    run_keeps n f.stamp.conn mid steps answers new run below (orderly_after old s a mid orderly rule) (true_after n old s a mid rule is)
        (keeps_from n old s a mid rule f.stamp.conn below is h.0.there),
    all_keep frames h.1,
  )

each_keeps : (old : Places) (steps : List Step) (answers : List Answer) (new : Places) (run : Run old steps answers new) → IsOrderly old → ((n : ℕ) → IsTrue n old.multiplier) → EachKeeps old steps answers new run
each_keeps old [] answers new run orderly is = tt
each_keeps old (s ∷ steps) [] new run orderly is = tt
each_keeps old (s ∷ steps) (a ∷ answers) new run orderly is = (
  λ n below. all_keep n old run.0 s a run.1 steps answers new run.2 below orderly (is n) (passed_at n old s a run.0) (are_passed n old s a run.0 below orderly run.1),
  each_keeps run.0 steps answers new run.2 (orderly_after old s a run.0 orderly run.1) (λ n. true_after n old s a run.0 run.1 (is n)),
)

pub opening_true : (config : Config) (units : List Attached) (n : ℕ) → IsTrue n (new_world config units).multiplier
opening_true config units n = record { room = length-replicate 15 opening_port; shows = opening_shows config units n }

pub ports_keep : PortsKeep
ports_keep config units right steps answers new run =
    each_keeps (new_world config units) steps answers new run (opening_orderly Switching config units right) (opening_true config units)
