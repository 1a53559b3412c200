-- For `ports_rest_at_a_flush`. From the flush of a unit on, the host's earlier commands are lost at its port. When the
-- port is cleared, both ends of the link are linked.
use Rattle.std.specs.{Prelude.if◌then◌else◌, List.flat_map}
use Rattle.std.proofs.Common.{◌≡◌, ◌≢◌, ◌==◌, ℕ, ◌<◌, Bool, true, false, List, [], ◌∷◌, ◌++◌, append_assoc, refl, sym, ap, subst, ◌∙◌, Ok, arith}
use Rattle.std.proofs.lemmas.{Bool.{ne_eqb, true≢false}, List.append-nil}
use Rattle.fis_view.specs.Frames.{Stamped, marked}
use Rattle.multiplier.specs.{Arbiter.control_port, State.pm_port}
use Rattle.pm_world.specs.{Cleared.{PassesNone, is_cleared}, Downward.{falling_to, pushed_by}, Places.{IsOrderly, Places}, Rules.Rule}
use Rattle.pm_world.specs.{declared.{step.Step.Step, step.Answer.Answer}, Stale.is_clear, PathEnds.{AreAmong, IsAway, for_port, injects, unplugs}}
use Rattle.pm_world.specs.DevicePaths.{IsOnPath}
use Rattle.pm_world.proofs.cleared.Cleared as cleared
use Rattle.pm_world.proofs.{cleared.Cleared.{rule_goes, run_waits}, ports.DownLemmas.{down_change, DownChange, given_for, Gone, Put, Quiet}}
use Rattle.pm_world.proofs.ports.{EachLemmas.{Each, Nothing, each_more}, KeepingLemmas.IsTrue, UpLemmas.{Left, Rose, Same, UpChange, up_change}}
use Rattle.pm_world.proofs.paths.{RunLemmas.{TellsOf, tells_of}, PathLemmas.{away_after, falls_on, falls_other, unsent_other}}
use Rattle.pm_world.proofs.honest.ShutLemmas.{IsForOther, IsShutOff, only_there}

-- ## What is kept

-- a FIS on the link to the host is of another port
abbrev pub IsElsewhere : ℕ → Stamped → Type 0
IsElsewhere n f = (f.stamp.port == n) ≡ false

-- a FIS of the host is for port n
abbrev pub is_to : ℕ → Stamped → Bool
is_to n f = pm_port f == n

-- On the host's link the FISes come first that the host gave before the flush, none of which clears
-- the port. Then comes none for the port.
pub record IsLine (n : ℕ) (frames : List Stamped) : Type 0 where
  pub stale : List Stamped
  pub fresh : List Stamped
  pub is : frames ≡ stale ++ fresh
  pub unclear : Nothing (is_clear n) stale
  pub others : Nothing (is_to n) fresh

-- the host flushed the unit at port n, and the port has not been cleared since
pub record IsHeld (n : ℕ) (now : Places) : Type 0 where
  pub away : Each (IsElsewhere n) now.upward.frames
  pub told : cleared.Waits n now.multiplier.registers
  pub line : IsLine n now.downward.frames

-- and nothing of another connection than c is on its way
pub record IsCut (n c : ℕ) (now : Places) : Type 0 where
  pub held : IsHeld n now
  pub alone : (d : ℕ) → d ≢ c → IsAway n d now

-- ## Lists

-- the line after its first frame was taken
line_rest : (n : ℕ) (f : Stamped) (frames stale fresh : List Stamped) → f ∷ frames ≡ stale ++ fresh → Nothing (is_clear n) stale → Nothing (is_to n) fresh
    → IsLine n frames
line_rest n f frames [] [] is unclear others = absurd (cc)
line_rest n f frames [] (g ∷ fresh) is unclear others =
    let same : frames ≡ fresh = cc is in
    record { stale = []; fresh = fresh; is = same; unclear = tt; others = others.1 }
line_rest n f frames (g ∷ stale) fresh is unclear others =
    let same : frames ≡ stale ++ fresh = cc is in
    record { stale = stale; fresh = fresh; is = same; unclear = unclear.1; others = others }

-- and the line, if that frame cleared the port
none_rest : (n : ℕ) (f : Stamped) (frames stale fresh : List Stamped) → f ∷ frames ≡ stale ++ fresh → Nothing (is_clear n) stale → Nothing (is_to n) fresh
    → is_clear n f ≡ true → Nothing (is_to n) frames
none_rest n f frames [] [] is unclear others clears = absurd (cc)
none_rest n f frames [] (g ∷ fresh) is unclear others clears =
    let same : frames ≡ fresh = cc is in
    subst (Nothing (is_to n)) (sym same) others.1
none_rest n f frames (g ∷ stale) fresh is unclear others clears =
    let same : g ≡ f = cc is in
    absurd (true≢false (sym clears ∙ ap (is_clear n) (sym same) ∙ unclear.0))

none_for : (n : ℕ) (xs : List Stamped) → Nothing (is_to n) xs → flat_map (for_port n) xs ≡ []
none_for n [] none = refl
none_for n (f ∷ xs) none = one_none (pm_port f == n) none.0 ∙ none_for n xs none.1
  where
    one_none : (b : Bool) → b ≡ false → (if b then marked f.bytes 0 ∷ [] else []) ++ flat_map (for_port n) xs ≡ flat_map (for_port n) xs
    one_none true e = cc e
    one_none false e = refl

none_falls : (c : ℕ) (xs : List Stamped) → Each (IsForOther c) xs → falls_on c xs ≡ []
none_falls c [] others = refl
none_falls c (f ∷ xs) others = falls_other c f xs (ne_eqb f.stamp.conn c others.0) ∙ none_falls c xs others.1

-- ## A step

module _ (n : ℕ) (below : n < 15) (old : Places) (s : Step) (a : Answer) (new : Places) (rule : Rule old s (Ok a) new) (orderly : IsOrderly old)
    (true_is : IsTrue n old.multiplier) (held : IsHeld n old) (given : given_for n old s a new ≡ []) where
  passes : PassesNone n old (s ∷ []) (a ∷ []) new (new, rule, refl)
  passes = run_waits n old (s ∷ []) (a ∷ []) new (new, rule, refl) below orderly (record { shows = true_is.shows; told = held.told })

  pub away_now : Each (IsElsewhere n) new.upward.frames
  away_now = by_up (up_change n old new below orderly s a rule)
    where
      by_up : UpChange n old s a new → Each (IsElsewhere n) new.upward.frames
      by_up (Same link none) = subst (Each (IsElsewhere n)) (sym link) held.away
      by_up (Rose f link none through other idle) =
          subst (Each (IsElsewhere n)) (sym link) (each_more (IsElsewhere n) old.upward.frames f held.away (other passes.1))
      by_up (Left f link told idle) = (subst (Each (IsElsewhere n)) link held.away).1

  -- what the host puts on its link is not for the port
  not_to : (f : Stamped) → pushed_by old s a new ≡ f ∷ [] → is_to n f ≡ false
  not_to f one = by_test (pm_port f == n) (sym (append-nil (for_port n f)) ∙ sym (ap (flat_map (for_port n)) one) ∙ given)
    where
      by_test : (b : Bool) → (if b then marked f.bytes 0 ∷ [] else []) ≡ [] → b ≡ false
      by_test true e = cc e
      by_test false e = refl

  line_now : IsLine n new.downward.frames
  line_now = by_down (down_change n old s new orderly a rule)
    where
      by_down : DownChange n old s a new → IsLine n new.downward.frames
      by_down (Quiet link none uncleared on) = subst (IsLine n) (sym link) held.line
      by_down (Put f link one uncleared falls idle none) = record {
        stale = held.line.stale;
        fresh = held.line.fresh ++ f ∷ [];
        is = link ∙ ap (λ (xs : List Stamped). xs ++ f ∷ []) held.line.is ∙ append_assoc held.line.stale held.line.fresh (f ∷ []);
        unclear = held.line.unclear;
        others = each_more (λ (g : Stamped). is_to n g ≡ false) held.line.fresh f held.line.others (not_to f one);
      }
      by_down (Gone f link none clears falls idle _) =
          line_rest n f new.downward.frames held.line.stale held.line.fresh (sym link ∙ held.line.is) held.line.unclear held.line.others

  pub held_after : is_cleared n old a ≡ false → IsHeld n new
  held_after none = record { away = away_now; told = (rule_goes n old s a new rule).waits none held.told; line = line_now }

-- ## The port is cleared

module _ (n c : ℕ) (below : n < 15) (old : Places) (s : Step) (a : Answer) (new : Places) (rule : Rule old s (Ok a) new) (rising : List (List ℕ))
    (h : IsShutOff n c old rising) (cut : IsCut n c old) (clean : injects n s ≡ false) (stays : unplugs n s ≡ false) where
  device : n ≢ control_port
  device e = absurd (omega (arith, e, below))

  its : TellsOf n c old s a new
  its = tells_of n c old s a new h.there stays clean rule

  alone_now : (d : ℕ) → d ≢ c → IsAway n d new
  alone_now d other = (away_after n d old new s a device h.orderly rule (cut.alone d other) (unsent_other n c d a its.stays other)).1

  none_to : is_cleared n old a ≡ true → Nothing (is_to n) new.downward.frames
  none_to is = by_down (down_change n old s new h.orderly a rule)
    where
      by_down : DownChange n old s a new → Nothing (is_to n) new.downward.frames
      by_down (Quiet link none uncleared on) = absurd (true≢false (sym is ∙ uncleared))
      by_down (Put f link one uncleared falls idle none) = absurd (true≢false (sym is ∙ uncleared))
      by_down (Gone f link none clears falls idle _) =
          none_rest n f new.downward.frames cut.held.line.stale cut.held.line.fresh (sym link ∙ cut.held.line.is) cut.held.line.unclear cut.held.line.others (clears is)

  -- nothing goes down then, and what the unit sent goes up
  pub path_now : is_cleared n old a ≡ true → (up : List (List ℕ)) → IsShutOff n c new up → IsOnPath n c new [] up
  path_now is up off = record {
    above = off.above;
    alone = alone_now;
    kept = off.kept;
    only = only_there n c new off.there;
    below =
        subst (λ (xs : List (List ℕ)). AreAmong xs [])
        (sym (ap (λ (xs : List (List ℕ)). xs ++ flat_map (for_port n) new.downward.frames) (none_falls c (falling_to n new) off.falls)
        ∙ none_for n new.downward.frames (none_to is))) tt;
  }
