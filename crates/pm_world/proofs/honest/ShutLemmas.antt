-- For `ports_rest_at_a_flush`. From the plugging of a unit on, while nothing of its connection passes its port: what
-- the unit sends waits there, and the unit takes nothing.
use Rattle.std.proofs.Common.{◌≡◌, ◌≢◌, ◌==◌, ◌&&◌, ℕ, ◌<◌, Bool, true, false, List, [], ◌∷◌, ◌++◌, map, refl, sym, ap, subst, ◌∙◌, inl, inr, Option}
use Rattle.std.proofs.{Common.{Some, None, Ok, arith}, lemmas.{Bool.{cases_eq, eq-eqb, eqb-true, ne_eqb, true≢false}, Option.same_Some}}
use Rattle.std.specs.Prelude.{slice_get, take, MatchOption, if◌then◌else◌}
use Rattle.fis_view.specs.Frames.{Stamped}
use Rattle.hba_fbs.specs.declared.report.TakeReport.{TakeReport}
use Rattle.disk_model.specs.Histories.{Happening, Plugged, Received, Sent}
use Rattle.pm_registers.specs.RegisterMap.{forwards}
use Rattle.multiplier.specs.{Arbiter.control_port, State.{falling, port_at}}
use Rattle.pm_world.specs.{Cleared.is_cleared, Downward.{falling_to, on_down_link}, Units.happens, Places.{IsOrderly, Place, Places}, Rules.Rule}
use Rattle.pm_world.specs.{Traffic.{all_marked, is_removed, sent_by, taken_by, transit}, declared.step.{Step.Step, Answer.Answer}, PathEnds.IsOnly}
use Rattle.pm_world.specs.{PathEnds.{IsThere, IsUnremoved, befalls, injects, unplugs}, DevicePaths.StaysOn}
use Rattle.pm_world.specs.declared.step.Answer.TheVariants as answer
use Rattle.pm_world.proofs.cleared.Cleared as cleared
use Rattle.pm_world.proofs.{cleared.Cleared.{PortGoes, forwards_none, rule_goes}, downward.DownMoves.{Lands, rule_moves_down}}
use Rattle.pm_world.proofs.{steps.Lists.all_marked-append, upward.{FrameMoves.rule_moves, PortMarks.AllHavePortMarks}, steps.Orderly.orderly_after}
use Rattle.pm_world.proofs.ports.{DownLemmas.{DownChange, Gone, Put, Quiet, down_change, falls_keep}, EachLemmas.{Each, each_more}}
use Rattle.pm_world.proofs.ports.{KeepingLemmas.{IsTrue, passes_open, true_after}, UpLemmas.{Left, Rose, Same, UpChange, up_change}}
use Rattle.pm_world.proofs.{serving.FirstLemmas.comes_risen, paths.{KeptLemmas.{stays_unremoved, unremoved}, PlaceLemmas.takes_own}}
use Rattle.pm_world.proofs.paths.{RunLemmas.{IsPlugged, TellsOf, if_none, if_some, tells_of, there_after}, PathLemmas.{and_both, and_false, if_false}}
use Rattle.pm_world.proofs.paths.PathLemmas.{if_true, one_step, still_above}

-- ## What is kept

-- a FIS on the link to the host is not of connection c of port n
abbrev pub IsNoneOf : (n c : ℕ) → Stamped → Type 0
IsNoneOf n c f = f.stamp.port ≡ n → f.stamp.conn ≢ c

-- a FIS on its way to the device is not for connection c
abbrev pub IsForOther : ℕ → Stamped → Type 0
IsForOther c f = f.stamp.conn ≢ c

-- The unit is there as connection c, and nothing of that connection passed its port. This is what it
-- sent, and it is still on its way there.
pub record IsShutOff (n c : ℕ) (now : Places) (rising : List (List ℕ)) : Type 0 where
  pub orderly : IsOrderly now
  pub risen : AllHavePortMarks now.multiplier now.upward.frames
  pub true_is : IsTrue n now.multiplier
  pub up : Each (IsNoneOf n c) now.upward.frames
  pub falls : Each (IsForOther c) (falling_to n now)
  pub there : IsThere n c now
  pub kept : IsUnremoved n c now
  pub above : transit n c now ≡ all_marked n rising

-- What happens to it in a step: nothing, or it sends a FIS, which waits at its port after the others.
pub data WaitsOn (n c : ℕ) (new : Places) (happened : List Happening) (rising : List (List ℕ)) : Type 0 where
  Silent : happened ≡ [] → IsShutOff n c new rising → WaitsOn n c new happened rising
  Adds : (bytes : List ℕ) → happened ≡ Sent bytes ∷ [] → IsShutOff n c new (rising ++ bytes ∷ []) → WaitsOn n c new happened rising

-- if the connection is recorded, the port waits for the host
abbrev pub WaitsFor : (n c : ℕ) → Places → Type 0
WaitsFor n c now = (port_at now.multiplier n).present ≡ Some c → cleared.Waits n now.multiplier.registers

pub only_there : (n c : ℕ) (now : Places) → IsThere n c now → IsOnly n c now
only_there n c now there = by_place (slice_get now.devices n) there
  where
    by_place : (o : Option Place) → IsPlugged c o → MatchOption o (Prim.Unit {0}) (λ place. place.plugged ≡ true → place.conn ≡ c)
    by_place None there = absurd there
    by_place (Some place) there = λ plugged. there.1

-- ## Nothing passes

module _ (n c : ℕ) (below : n < 15) (old : Places) (s : Step) (a : Answer) (new : Places) (rule : Rule old s (Ok a) new) (orderly : IsOrderly old)
    (true_is : IsTrue n old.multiplier) (waits : WaitsFor n c old) where
  never : forwards old.multiplier.registers n ≡ true → (port_at old.multiplier n).present ≡ Some c → ⊥
  never opens there =
      true≢false (sym opens ∙ forwards_none n old.multiplier.registers (record { shows = true_is.shows; told = waits there }))

  module _ (up : Each (IsNoneOf n c) old.upward.frames) where
    pub none_up : Each (IsNoneOf n c) new.upward.frames
    none_up = by_up (up_change n old new below orderly s a rule)
      where
        by_up : UpChange n old s a new → Each (IsNoneOf n c) new.upward.frames
        by_up (Same link none) = subst (Each (IsNoneOf n c)) (sym link) up
        by_up (Rose f link none passes other idle) =
            subst (Each (IsNoneOf n c)) (sym link)
            (each_more (IsNoneOf n c) old.upward.frames f up
            (λ here same. never (passes here).opens ((passes here).there ∙ ap (λ (k : ℕ). Some k) same)))
        by_up (Left f link told idle) = (subst (Each (IsNoneOf n c)) link up).1

    -- the host takes none of it
    pub none_taken : taken_by n c a ≡ []
    none_taken = by_answer a refl
      where
        none : (port conn number : ℕ) (bytes : List ℕ) (report : TakeReport) → a ≡ answer.Took port conn number bytes report → (port == n) ≡ true
            → (conn == c) ≡ false
        none port conn number bytes report is here =
            let m = rule_moves old s (answer.Took port conn number bytes report) new orderly (subst (λ (b : Answer). Rule old s (Ok b) new) is rule) in
            let first = (subst (Each (IsNoneOf n c)) m.2.upward up).0 in
            ne_eqb conn c (λ same. first (m.1.port_is ∙ eqb-true port n here) (m.1.conn_is ∙ same))

        by_answer : (b : Answer) → a ≡ b → taken_by n c a ≡ []
        by_answer (answer.Took port conn number bytes report) is =
            ap (taken_by n c) is
            ∙ if_false (port == n && conn == c) (bytes ∷ []) (and_false (port == n) (conn == c) (none port conn number bytes report is))
        by_answer b is = ap (taken_by n c) is

-- ## A step

module _ (n c : ℕ) (below : n < 15) (old : Places) (s : Step) (a : Answer) (new : Places) (rule : Rule old s (Ok a) new) (rising : List (List ℕ))
    (h : IsShutOff n c old rising) (waits : WaitsFor n c old) (clean : injects n s ≡ false) (stays : unplugs n s ≡ false) where
  device : n ≢ control_port
  device e = absurd (omega (arith, e, below))

  its : TellsOf n c old s a new
  its = tells_of n c old s a new h.there stays clean rule

  kept_now : IsUnremoved n c new
  kept_now = stays_unremoved n c old new s a h.orderly rule its.stays h.kept

  there_still : is_removed n c new ≡ false
  there_still = unremoved n c new kept_now

  falls_now : Each (IsForOther c) (falling_to n new)
  falls_now = by_down (down_change n old s new h.orderly a rule)
    where
      by_down : DownChange n old s a new → Each (IsForOther c) (falling_to n new)
      by_down (Quiet link none uncleared on) = falls_keep (IsForOther c) n old new on h.falls
      by_down (Put f link one uncleared falls idle none) = subst (Each (IsForOther c)) (sym falls) h.falls
      by_down (Gone f link none clears (inl same) idle _) = subst (Each (IsForOther c)) (sym same) h.falls
      by_down (Gone f link none clears (inr fallen) idle _) =
          let opens = passes_open n old.multiplier fallen.conn fallen.passes in
          subst (Each (IsForOther c)) (sym fallen.here)
          (each_more (IsForOther c) (falling_to n old) (falling fallen.conn f) h.falls
          (λ same. never n c below old s a new rule h.orderly h.true_is waits opens.0 (opens.1 ∙ ap (λ (k : ℕ). Some k) same)))

  off_now : (rising_now : List (List ℕ)) → transit n c new ≡ all_marked n rising_now → IsShutOff n c new rising_now
  off_now rising_now above = record {
    orderly = orderly_after old s a new h.orderly rule;
    risen = (comes_risen old s a new h.risen rule).risen;
    true_is = true_after n old s a new rule h.true_is;
    up = none_up n c below old s a new rule h.orderly h.true_is waits h.up;
    falls = falls_now;
    there = there_after n c old a new h.there s stays rule;
    kept = kept_now;
    above = above;
  }

  -- what is on its way
  abbrev Waited : Type 0
  Waited = WaitsOn n c new (befalls n old a) rising

  waited_nothing : befalls n old a ≡ [] → taken_by n c a ≡ [] → sent_by n c a ≡ [] → Waited
  waited_nothing none untaken unsent =
      Silent none (off_now rising (still_above n c old new s a device h.orderly rule untaken unsent there_still ∙ h.above))

  sent_case : (port conn number : ℕ) (bytes : List ℕ) → a ≡ answer.Sent port conn number bytes → Waited
  sent_case port conn number bytes is = by_test (port == n) refl
    where
      told : befalls n old a ≡ (if port == n then Sent bytes ∷ [] else [])
      told = ap (befalls n old) is

      by_test : (b : Bool) → (port == n) ≡ b → Waited
      by_test true here =
          let mine : StaysOn n c (answer.Sent port conn number bytes) = subst (StaysOn n c) is its.stays in
          let sent_is : sent_by n c a ≡ bytes ∷ [] =
          ap (sent_by n c) is ∙ if_true (port == n && conn == c) (bytes ∷ []) (and_both (port == n) (conn == c) here (eq-eqb conn c (mine here))) in
          Adds bytes (told ∙ if_some (port == n) (Sent bytes ∷ []) here)
          (off_now (rising ++ bytes ∷ [])
          (ap (λ (xs : List (List ℕ)). xs ++ transit n c new) (sym (ap (taken_by n c) is))
          ∙ one_step n c old new s a device h.orderly rule there_still
          ∙ ap (λ (xs : List (List ℕ)). transit n c old ++ all_marked n xs) sent_is
          ∙ ap (λ (xs : List (List ℕ)). xs ++ all_marked n (bytes ∷ [])) h.above
          ∙ sym (all_marked-append n rising (bytes ∷ []))))
      by_test false other =
          waited_nothing (told ∙ if_none (port == n) (Sent bytes ∷ []) other) (ap (taken_by n c) is)
          (ap (sent_by n c) is ∙ if_false (port == n && conn == c) (bytes ∷ []) (and_false (port == n) (conn == c) (λ here. absurd (true≢false (sym here ∙ other)))))

  came_case : (port conn : ℕ) → a ≡ answer.Came port conn → Waited
  came_case port conn is =
      let other : (port == n) ≡ false = subst (StaysOn n c) is its.stays in
      waited_nothing (ap (befalls n old) is ∙ if_none (port == n) (Plugged ∷ []) other) (ap (taken_by n c) is) (ap (sent_by n c) is)

  -- and the unit takes nothing
  disk_case : (port : ℕ) → a ≡ answer.DiskTook port false → Waited
  disk_case port is = by_test (port == n) refl
    where
      told : befalls n old a ≡ (if port == n then map (λ frame. Received frame.bytes) (take 1 (on_down_link (slice_get old.devices n))) else [])
      told = ap (befalls n old) is

      by_test : (b : Bool) → (port == n) ≡ b → Waited
      by_test false other = waited_nothing (told ∙ if_none (port == n) _ other) (ap (taken_by n c) is) (ap (sent_by n c) is)
      by_test true here =
          let ruled : Rule old s (Ok (answer.DiskTook n false)) new =
          subst (λ (k : ℕ). Rule old s (Ok (answer.DiskTook k false)) new) (eqb-true port n here) (subst (λ (b : Answer). Rule old s (Ok b) new) is rule) in
          let moves = rule_moves_down old s (answer.DiskTook n false) new h.orderly ruled in
          let lands : Lands n moves.0 old new = moves.1 in
          let own : moves.0.stamp.conn ≡ c = takes_own n c old new s moves.0 lands.rest (only_there n c old h.there) ruled lands.first in
          absurd ((subst (Each (IsForOther c)) lands.here h.falls).0 own)

  waited : (b : Answer) → a ≡ b → Waited
  waited (answer.Sent port conn number bytes) is = sent_case port conn number bytes is
  waited (answer.Came port conn) is = came_case port conn is
  waited (answer.Took port conn number bytes report) is =
      waited_nothing (ap (befalls n old) is) (none_taken n c below old s a new rule h.orderly h.true_is waits h.up) (ap (sent_by n c) is)
  waited (answer.DiskTook port false) is = disk_case port is
  waited b is = waited_nothing (ap (befalls n old) is) (ap (taken_by n c) is) (ap (sent_by n c) is)

  pub off_after : WaitsOn n c new (happens n old s a new) rising
  off_after = subst (λ (xs : List Happening). WaitsOn n c new xs rising) its.same (waited a refl)

-- ## The port goes on waiting

pub waits_after : (n c : ℕ) → n < 15 → (old : Places) (s : Step) (a : Answer) (new : Places) → Rule old s (Ok a) new → IsTrue n old.multiplier
    → ((port_at old.multiplier n).present ≡ Some c → is_cleared n old a ≡ false) → WaitsFor n c old → WaitsFor n c new
waits_after n c below old s a new rule is none waits now = by_was (port_at old.multiplier n).present refl
  where
    goes : PortGoes n (is_cleared n old a) old.multiplier new.multiplier
    goes = rule_goes n old s a new rule

    by_was : (o : Option ℕ) → (port_at old.multiplier n).present ≡ o → cleared.Waits n new.multiplier.registers
    by_was None was = goes.comes c (λ e. let wrong : None ≡ Some c = sym was ∙ e in absurd (cc)) now is.room below
    by_was (Some d) was = elim (cases_eq d c) [
      | inl same ↦
          let there : (port_at old.multiplier n).present ≡ Some c = was ∙ ap (λ (k : ℕ). Some k) same in
          goes.waits (none there) (waits there)
      | inr other ↦ goes.comes c (λ e. other (same_Some d c (sym was ∙ e))) now is.room below
    ]
