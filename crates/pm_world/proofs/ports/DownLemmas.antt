-- For `connections_follow`. What a step does to the link of the host to the multiplier, and to what is on its way to a
-- device.
use Rattle.std.proofs.Common.{◌≡◌, ◌⊎◌, ℕ, ◌==◌, Bool, true, false, List, [], ◌∷◌, ◌++◌, length, drop, take, flat_map, Option, Some, None, Ok, refl}
use Rattle.std.proofs.{Common.{sym, ap, subst, ◌∙◌, inl, inr}, lemmas.{Bool.{cases_eq, eq-eqb, and_from}, List.append-nil}}
use Rattle.std.specs.{Prelude.{if◌then◌else◌, MatchBool, MatchOption}, List.list_any}
use Rattle.fis_view.specs.Frames.{Stamped}
use Rattle.pm_control.specs.Requests.{request_in}
use Rattle.multiplier.specs.{Arbiter.control_port, Passing.falls, Rules.{FromHostRule, ToControl, ToDevice, ToNobody, ToPort}, State.PmState}
use Rattle.multiplier.specs.{State.{falling, passes_to, pm_port}, declared.multiplier.Passed.Passed}
use Rattle.multiplier.specs.declared.multiplier.Passed.TheVariants as passed
use Rattle.pm_world.specs.{Cleared.{clears_x, is_cleared}, Downward.{falling_to, fell_to, pushed_by}, Places.{IsOrderly, Places}, Rules.Rule}
use Rattle.pm_world.specs.{Runs.Telling, PathEnds.for_port, declared.step.{Step.Step, Answer.Answer}, Stale.{identified_by, is_clear, orders_clear}}
use Rattle.pm_world.specs.declared.step.Step.TheVariants as step
use Rattle.pm_world.specs.declared.step.Answer.TheVariants as answer
use Rattle.pm_world.proofs.{downward.DownMoves.{Goes, Lands, Loses, Rests, rule_moves_down}, ports.EachLemmas.{Each, any_one, each_back, each_front}}
use Rattle.pm_world.proofs.ports.{KeepingLemmas.drop_own, UpLemmas.passed_step}

-- what the host put on its link for the device at port n
abbrev pub given_for : ℕ → Telling (List ℕ)
given_for n old s a new = flat_map (for_port n) (pushed_by old s a new)

-- ## A FIS of the host

-- the frame that the multiplier took off the host's link, and where it went
record IsHeard (old : Places) (p : Passed) (new : Places) : Type 0 where
  frame : Stamped
  link : old.downward.frames ≡ frame ∷ new.downward.frames
  goes : FromHostRule old.multiplier frame (Ok p) new.multiplier

heard : (old : Places) (s : Step) (p : Passed) (new : Places) → Rule old s (Ok (answer.Passed p)) new → IsHeard old p new
heard old s p new rule =
    let e : s ≡ step.PmFromHost = passed_step old s p new rule in
    let acts = (subst (λ (t : Step). Rule old t (Ok (answer.Passed p)) new) e rule).0 in
    record { frame = acts.0.0; link = acts.0.1; goes = acts.0.2 }

-- a frame that the control port took was for it
pub to_control : (old : PmState) (frame : Stamped) (new : PmState) → FromHostRule old frame (Ok passed.Control) new → (pm_port frame == control_port) ≡ true
to_control old frame new rule = by_port (pm_port frame == control_port) rule
  where
    by_conn : (o : Option ℕ) → MatchOption o (ToNobody old (Ok passed.Control) new) (λ conn. ToDevice old (pm_port frame) conn frame (Ok passed.Control) new) → ⊥
    by_conn None acts = acts
    by_conn (Some conn) acts = acts

    by_port : (b : Bool) → MatchBool b (ToControl old frame (Ok passed.Control) new) (ToPort old frame (Ok passed.Control) new) → b ≡ true
    by_port true acts = refl
    by_port false acts = absurd (by_conn (passes_to old (pm_port frame)) acts)

-- a frame that was passed down was for its port
pub to_port : (old : PmState) (frame : Stamped) (m : ℕ) (new : PmState) → FromHostRule old frame (Ok (passed.Down m)) new → pm_port frame ≡ m
to_port old frame m new rule = by_port (pm_port frame == control_port) rule
  where
    by_conn : (o : Option ℕ) → MatchOption o (ToNobody old (Ok (passed.Down m)) new) (λ conn. ToDevice old (pm_port frame) conn frame (Ok (passed.Down m)) new) → pm_port frame ≡ m
    by_conn None acts = absurd acts
    by_conn (Some conn) acts = sym acts.0

    by_port : (b : Bool) → MatchBool b (ToControl old frame (Ok (passed.Down m)) new) (ToPort old frame (Ok (passed.Down m)) new) → pm_port frame ≡ m
    by_port true acts = absurd acts
    by_port false acts = by_conn (passes_to old (pm_port frame)) acts

-- ## The link

-- a frame of the host came to wait for the device of port n
pub record IsFallen (n : ℕ) (f : Stamped) (old : Places) (s : Step) (a : Answer) (new : Places) : Type 0 where
  pub conn : ℕ
  pub here : falling_to n new ≡ falling_to n old ++ falling conn f ∷ []
  pub passes : passes_to old.multiplier n ≡ Some conn
  pub port : pm_port f ≡ n
  pub fell : fell_to n old s a new ≡ falling conn f ∷ []

-- the frames on their way to device n are those that were, except for some at either end
pub record FallsOn (n : ℕ) (old new : Places) : Type 0 where
  pub front : List Stamped
  pub back : List Stamped
  pub is : falling_to n old ≡ front ++ (falling_to n new ++ back)

pub falls_keep : (P : Stamped → Type 0) (n : ℕ) (old new : Places) → FallsOn n old new → Each P (falling_to n old) → Each P (falling_to n new)
falls_keep P n old new on h = each_front P (falling_to n new) on.back (each_back P on.front (falling_to n new ++ on.back) (subst (Each P) on.is h))

-- nothing moves on the link; the host puts a frame on it; or the multiplier takes one, which may come to wait for the device of port n
pub data DownChange (n : ℕ) (old : Places) (s : Step) (a : Answer) (new : Places) : Type 0 where
  Quiet : new.downward.frames ≡ old.downward.frames → pushed_by old s a new ≡ [] → is_cleared n old a ≡ false → FallsOn n old new → DownChange n old s a new
  Put : (f : Stamped) → new.downward.frames ≡ old.downward.frames ++ f ∷ [] → pushed_by old s a new ≡ f ∷ [] → is_cleared n old a ≡ false → falling_to n new ≡ falling_to n old
      → orders_clear n old a ≡ false → identified_by n old s a new ≡ [] → DownChange n old s a new
  Gone : (f : Stamped) → old.downward.frames ≡ f ∷ new.downward.frames → pushed_by old s a new ≡ [] → (is_cleared n old a ≡ true → is_clear n f ≡ true)
      → (falling_to n new ≡ falling_to n old) ⊎ IsFallen n f old s a new → orders_clear n old a ≡ false → identified_by n old s a new ≡ [] → DownChange n old s a new

same_falls : (n : ℕ) (old new : Places) → falling_to n new ≡ falling_to n old → FallsOn n old new
same_falls n old new e = record { front = []; back = []; is = sym e ∙ sym (append-nil (falling_to n new)) }

fell_one : (n m conn : ℕ) (o : Option ℕ) (f : Stamped) (frames rest : List Stamped) → m ≡ n → o ≡ Some conn → frames ≡ f ∷ rest → (if m == n then flat_map (falls o) (take 1 frames) else []) ≡ falling conn f ∷ []
fell_one n m conn o f frames rest same passes link =
    ap (λ (b : Bool). if b then flat_map (falls o) (take 1 frames) else []) (eq-eqb m n same)
    ∙ ap (λ (x : Option ℕ). flat_map (falls x) (take 1 frames)) passes
    ∙ ap (λ (l : List Stamped). flat_map (falls (Some conn)) (take 1 l)) link

-- the first of the frames passes a test, if it is the one
pub any_first : (test : Stamped → Bool) (frames : List Stamped) (f : Stamped) (rest : List Stamped) → frames ≡ f ∷ rest → list_any test (take 1 frames) ≡ test f
any_first test frames f rest e = ap (λ (l : List Stamped). list_any test (take 1 l)) e ∙ any_one test f

module _ (n : ℕ) (old : Places) (s : Step) (new : Places) (orderly : IsOrderly old) where
  control_gone : Rule old s (Ok (answer.Passed passed.Control)) new → DownChange n old s (answer.Passed passed.Control) new
  control_gone rule =
      let h = heard old s passed.Control new rule in
      let m = rule_moves_down old s (answer.Passed passed.Control) new orderly rule in
      Gone h.frame h.link refl
      (λ cleared. and_from (pm_port h.frame == control_port) (clears_x n (request_in h.frame.bytes)) (to_control old.multiplier h.frame new.multiplier h.goes)
      (sym (any_first (λ (f : Stamped). clears_x n (request_in f.bytes)) old.downward.frames h.frame new.downward.frames h.link) ∙ cleared))
      (inl (m.1.falls n)) refl refl

  down_gone : (m : ℕ) → Rule old s (Ok (answer.Passed (passed.Down m))) new → DownChange n old s (answer.Passed (passed.Down m)) new
  down_gone m rule =
      let h = heard old s (passed.Down m) new rule in
      let g = rule_moves_down old s (answer.Passed (passed.Down m)) new orderly rule in
      let port : pm_port h.frame ≡ m = to_port old.multiplier h.frame m new.multiplier h.goes in
      let first : h.frame ≡ g.0 = same_first h.frame g.0 new.downward.frames (sym h.link ∙ g.1.link) in
      Gone g.0 g.1.link refl (λ wrong. absurd (cc)) (by_port g.0 g.1 (sym (ap pm_port first) ∙ port)) refl refl
    where
      same_first : (x y : Stamped) (rest : List Stamped) → x ∷ rest ≡ y ∷ rest → x ≡ y
      same_first x y rest e = ap (first_or x) e
        where
          first_or : Stamped → List Stamped → Stamped
          first_or d [] = d
          first_or d (z ∷ zs) = z

      by_port : (f : Stamped) → Goes m f old new → pm_port f ≡ m → (falling_to n new ≡ falling_to n old) ⊎ IsFallen n f old s (answer.Passed (passed.Down m)) new
      by_port f g port = elim (cases_eq n m) [
        | inl same ↦ inr (record {
          conn = g.conn;
          here = subst (λ (k : ℕ). falling_to k new ≡ falling_to k old ++ falling g.conn f ∷ []) (sym same) g.here;
          passes = subst (λ (k : ℕ). passes_to old.multiplier k ≡ Some g.conn) (sym same) g.passes;
          port = port ∙ sym same;
          fell = fell_one n m g.conn (passes_to old.multiplier n) f old.downward.frames new.downward.frames (sym same) (subst (λ (k : ℕ). passes_to old.multiplier k ≡ Some g.conn) (sym same) g.passes) g.link;
        })
        | inr other ↦ inl (g.elsewhere n other)
      ]

  pushed_one : Rule old s (Ok answer.Pushed) new → DownChange n old s answer.Pushed new
  pushed_one rule =
      let m = rule_moves_down old s answer.Pushed new orderly rule in
      Put m.0 m.1.link (ap (λ (l : List Stamped). drop (length old.downward.frames) l) m.1.link ∙ drop_own old.downward.frames (m.0 ∷ [])) refl (m.1.falls n) refl refl

  lands : (m : ℕ) (f : Stamped) → Lands m f old new → FallsOn n old new
  lands m f l = elim (cases_eq n m) [
    | inl same ↦ record {
      front = f ∷ [];
      back = [];
      is = subst (λ (k : ℕ). falling_to k old ≡ f ∷ falling_to k new) (sym same) l.here ∙ ap (λ (xs : List Stamped). f ∷ xs) (sym (append-nil (falling_to n new)));
    }
    | inr other ↦ same_falls n old new (l.elsewhere n other)
  ]

  loses : (m : ℕ) → Loses m old new → FallsOn n old new
  loses m l = elim (cases_eq n m) [
    | inl same ↦ subst (λ (k : ℕ). FallsOn k old new) (sym same) (record { front = []; back = _; is = sym l.here })
    | inr other ↦ same_falls n old new (l.elsewhere n other)
  ]

  rests : Rests old new → FallsOn n old new
  rests r = same_falls n old new (r.falls n)

  pub down_change : (a : Answer) → Rule old s (Ok a) new → DownChange n old s a new
  down_change answer.Pushed rule = pushed_one rule
  down_change (answer.Passed passed.Control) rule = control_gone rule
  down_change (answer.Passed (passed.Down m)) rule = down_gone m rule
  down_change (answer.Passed passed.Dropped) rule =
      let m = rule_moves_down old s (answer.Passed passed.Dropped) new orderly rule in
      Gone m.0 m.1.link refl (λ wrong. absurd (cc)) (inl (m.1.falls n)) refl refl
  down_change (answer.DiskTook m dropped) rule =
      let l = rule_moves_down old s (answer.DiskTook m dropped) new orderly rule in
      Quiet l.1.link refl refl (lands m l.0 l.1)
  down_change (answer.Presence m) rule =
      let l = rule_moves_down old s (answer.Presence m) new orderly rule in
      Quiet l.link refl refl (loses m l)
  down_change a rule =
      let r = rule_moves_down old s a new orderly rule in
      Quiet r.link refl refl (rests r)
