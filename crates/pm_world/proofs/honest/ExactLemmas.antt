-- For `disks_are_honest`. What goes down to a unit whose port is open to it stays exact: nothing of it is dropped.
use Rattle.std.proofs.Common.{◌≡◌, ◌≢◌, ◌==◌, ◌&&◌, ℕ, ◌<◌, Bool, true, false, not, List, [], ◌∷◌, ◌++◌, append_assoc, drop, length, map, refl, sym}
use Rattle.std.proofs.{Common.{ap, subst, ◌∙◌, inl, inr, Option, Some, None, Ok, arith}, lemmas.Bool.{cases_eq, eq-eqb, eqb-true, ne_eqb, true≢false}}
use Rattle.std.proofs.lemmas.{List.append-nil, Option.same_Some}
use Rattle.std.specs.{Prelude.{if◌then◌else◌, slice_get, take, MatchBool, MatchOption}, List.flat_map}
use Rattle.fis_view.specs.Frames.{Stamped, marked}
use Rattle.hba_fbs.specs.declared.report.TakeReport.{TakeReport}
use Rattle.pm_registers.specs.RegisterMap.{forwards}
use Rattle.multiplier.specs.{Arbiter.control_port, Rules.{DropsOnly, FromHostRule}, State.{PmState, falling, passes_to, pm_port, port_at}}
use Rattle.multiplier.specs.declared.multiplier.Passed.{Passed}
use Rattle.multiplier.specs.declared.multiplier.Passed.TheVariants as passed
use Rattle.disk_model.specs.Histories.{Happening, Received, Sent}
use Rattle.pm_world.specs.{Attached.Attached, Cleared.is_cleared, Downward.{falling_to, on_down_link}, Places.{Place, Places, is_config, new_world}}
use Rattle.pm_world.specs.Rules.{CameRule, DiskSendRule, DiskTakeActs, DiskTakeRule, GoneRule, InjectRule, PmDownRule, PmFromDeviceRule}
use Rattle.pm_world.specs.{Rules.{PmPresenceRule, Rule, Run, is_for}, Stale.unsent_after, Units.happens, DevicePaths.{GoesOnPath, IsOnPath}}
use Rattle.pm_world.specs.{DevicePaths.PathMoves, declared.step.Config.Config, PathEnds.{AreAmong, IsAtHost, IsThere, befalls, descending_on}}
use Rattle.pm_world.specs.{PathEnds.{for_port, injects, unplugs}, declared.step.{Step.Step, Answer.Answer}}
use Rattle.pm_world.specs.DevicePaths as path
use Rattle.pm_world.specs.declared.step.Step.TheVariants as step
use Rattle.pm_world.specs.declared.step.Answer.TheVariants as answer
use Rattle.pm_world.proofs.{honest.CutLemmas.{IsCut, path_now}, downward.DownMoves.{Goes, Lands, Loses, Starts, rule_moves_down}}
use Rattle.pm_world.proofs.{ports.{FirmLemmas.{IsFirm, firm_after, firm_at}, KeepingLemmas.drop_own}, honest.LiveLemmas.{IsLive, live_after}}
use Rattle.pm_world.proofs.{honest.LiveLemmas.stays_present, meant.{OrderLemmas.Knows, OrderTurns.order_step}, paths.PlaceLemmas.takes_own}
use Rattle.pm_world.proofs.{paths.RunLemmas.{TellsOf, tells_of, there_after, unit_paths_go_on}, honest.ShutLemmas.{IsShutOff, only_there}}
use Rattle.pm_world.proofs.{steps.Steps.{AtDevice, at_both, at_device}, ports.{UpLemmas.passed_step, DownLemmas.{to_control, to_port}}}
use Rattle.pm_world.proofs.paths.PathLemmas.{dropped_never_comes, falls_both, falls_first, falls_on, falls_other, flat_more, if_false, if_true}
use Rattle.pm_world.proofs.{paths.PathLemmas.rests_on, honest.ForwardLemmas.{IsMet, live_passes, met_after, met_at}}

-- ## What is exact

-- The unit at port n is on the path, as connection c, and all of the first list is on its way down.
pub record IsExact (n c : ℕ) (now : Places) (down up : List (List ℕ)) : Type 0 where
  pub path : IsOnPath n c now down up
  pub exact : descending_on n c now ≡ down

-- What a step with this answer does, as PathMoves tells it, except that what comes to the unit is the
-- first of what goes down.
pub data ExactMoves (n c : ℕ) (a : Answer) (new : Places) (happened heard : List Happening) (down up : List (List ℕ)) : Type 0 where
  -- nothing is done at either end
  Still : happened ≡ [] → heard ≡ [] → IsExact n c new down up → ExactMoves n c a new happened heard down up
  -- the host gives a FIS to the unit
  Gives : (bytes : List ℕ) → a ≡ answer.Pushed → happened ≡ [] → heard ≡ Received bytes ∷ [] → IsExact n c new (down ++ bytes ∷ []) up
      → ExactMoves n c a new happened heard down up
  -- the unit takes the first
  Comes : (back : List (List ℕ)) (bytes : List ℕ) → a ≡ answer.DiskTook n false → happened ≡ Received bytes ∷ [] → heard ≡ [] → down ≡ bytes ∷ back
      → IsExact n c new back up → ExactMoves n c a new happened heard down up
  -- the unit sends one
  Sends : (number : ℕ) (bytes : List ℕ) → a ≡ answer.Sent n c number bytes → happened ≡ Sent bytes ∷ [] → heard ≡ []
      → IsExact n c new down (up ++ bytes ∷ []) → ExactMoves n c a new happened heard down up
  -- the host takes the next one of the unit, with the port as its mark
  Takes : (number : ℕ) (bytes : List ℕ) (later : List (List ℕ)) (report : TakeReport) → a ≡ answer.Took n c number (marked bytes n) report
      → happened ≡ [] → heard ≡ Sent bytes ∷ [] → up ≡ bytes ∷ later → IsExact n c new down later → ExactMoves n c a new happened heard down up

-- what a step leaves of it
pub record GoesExact (n c : ℕ) (old : Places) (a : Answer) (new : Places) (happened : List Happening) (down up : List (List ℕ)) : Type 0 where
  pub heard : List Happening
  pub is : IsAtHost n old a new heard
  pub moves : ExactMoves n c a new happened heard down up

-- what is on its way down is always exact
pub exact_of : (n c : ℕ) (now : Places) (down down_now up : List (List ℕ)) → IsOnPath n c now down up → descending_on n c now ≡ down_now
    → IsExact n c now down_now up
exact_of n c now down down_now up w e =
    record { path = subst (λ (xs : List (List ℕ)). IsOnPath n c now xs up) e (dropped_never_comes n c now down up w); exact = e }

-- nothing goes down if nothing may come
pub exact_now : (n c : ℕ) (now : Places) (up : List (List ℕ)) → IsOnPath n c now [] up → IsExact n c now [] up
exact_now n c now up w = record { path = w; exact = among_none (descending_on n c now) w.below }
  where
    among_none : (xs : List (List ℕ)) → AreAmong xs [] → xs ≡ []
    among_none [] is = refl
    among_none (x ∷ xs) is = absurd is

-- ## Lists

-- a frame for another port, and one for this
none_for : (n : ℕ) (f : Stamped) → pm_port f ≢ n → for_port n f ≡ []
none_for n f other = if_false (pm_port f == n) (marked f.bytes 0 ∷ []) (ne_eqb (pm_port f) n other)

one_for : (n : ℕ) (f : Stamped) → pm_port f ≡ n → for_port n f ≡ marked f.bytes 0 ∷ []
one_for n f same = if_true (pm_port f == n) (marked f.bytes 0 ∷ []) (eq-eqb (pm_port f) n same)

same_first : (x y : Stamped) (xs ys all : List Stamped) → all ≡ x ∷ xs → all ≡ y ∷ ys → x ≡ y
same_first x y xs ys all here there = let e : x ∷ xs ≡ y ∷ ys = sym here ∙ there in cc e

-- ## What the unit does not take

-- if there is a unit, it is this one
place_of : (c : ℕ) (o : Option Place) (place : Place) → o ≡ Some place → MatchOption o ⊥ (λ p. (p.plugged ≡ true) × (p.conn ≡ c))
    → (place.plugged ≡ true) × (place.conn ≡ c)
place_of c None place is there = absurd there
place_of c (Some p) place is there = let same : p ≡ place = cc is in subst (λ (q : Place). (q.plugged ≡ true) × (q.conn ≡ c)) same there

not_true : (b : Bool) → true ≡ not b → b ≡ false
not_true true e = absurd (true≢false e)
not_true false e = refl

other_by : (place : Place) (f : Stamped) (c : ℕ) → (place.plugged ≡ true) × (place.conn ≡ c) → is_for place f ≡ false → (f.stamp.conn == c) ≡ false
other_by place f c is none = by_plugged place.plugged is.0 none
  where
    by_plugged : (b : Bool) → b ≡ true → (b && f.stamp.conn == place.conn) ≡ false → (f.stamp.conn == c) ≡ false
    by_plugged true e none = ap (λ (k : ℕ). f.stamp.conn == k) (sym is.1) ∙ none
    by_plugged false e none = absurd (true≢false (sym e))

-- what the unit drops is of another connection
drops_other : (n c : ℕ) (old new : Places) (s : Step) (f : Stamped) (rest : List Stamped) → IsThere n c old
    → Rule old s (Ok (answer.DiskTook n true)) new → on_down_link (slice_get old.devices n) ≡ f ∷ rest → (f.stamp.conn == c) ≡ false
drops_other n c old new (step.DiskTake m) f rest there rule first =
    let d : AtDevice old m (Ok (answer.DiskTook n true)) new (DiskTakeRule m) = at_device old m (answer.DiskTook n true) new (DiskTakeRule m) rule in
    let acts : DiskTakeActs m d.place (answer.DiskTook n true) d.after = d.rule in
    let at : slice_get old.devices n ≡ Some d.place = ap (slice_get old.devices) acts.0 ∙ d.is in
    let unmeant : is_for d.place acts.1.0 ≡ false = not_true (is_for d.place acts.1.0) acts.1.2 in
    let link : d.place.down.frames ≡ f ∷ rest = sym (ap on_down_link at) ∙ first in
    let same : acts.1.0 ≡ f = same_first acts.1.0 f d.after.down.frames rest d.place.down.frames acts.1.1 link in
    other_by d.place f c (place_of c (slice_get old.devices n) d.place at there) (subst (λ (g : Stamped). is_for d.place g ≡ false) same unmeant)
drops_other n c old new (step.Came m) f rest there rule first = absurd (at_device old m (answer.DiskTook n true) new (CameRule m) rule).rule.1
drops_other n c old new (step.Gone m) f rest there rule first = absurd (at_device old m (answer.DiskTook n true) new (GoneRule m) rule).rule.1
drops_other n c old new (step.DiskSend m) f rest there rule first = absurd (at_device old m (answer.DiskTook n true) new (DiskSendRule m) rule).rule.1
drops_other n c old new (step.Inject m bytes) f rest there rule first =
    absurd (at_device old m (answer.DiskTook n true) new (InjectRule m bytes) rule).rule.1
drops_other n c old new (step.PmPresence m) f rest there rule first = absurd (at_both old m (answer.DiskTook n true) new (PmPresenceRule m) rule).rule
drops_other n c old new (step.PmFromDevice m) f rest there rule first =
    absurd (at_both old m (answer.DiskTook n true) new (PmFromDeviceRule m) rule).rule
drops_other n c old new (step.PmDown m) f rest there rule first = absurd (at_both old m (answer.DiskTook n true) new (PmDownRule m) rule).rule
drops_other n c old new other f rest there rule first = absurd rule.0

-- ## A frame of the host

-- the frame that the multiplier took off the host's link, and where it went
record IsHeard (old : Places) (p : Passed) (new : Places) : Type 0 where
  frame : Stamped
  link : old.downward.frames ≡ frame ∷ new.downward.frames
  goes : FromHostRule old.multiplier frame (Ok p) new.multiplier
  drops : DropsOnly old.multiplier frame (Ok p)

heard_frame : (old : Places) (s : Step) (p : Passed) (new : Places) → Rule old s (Ok (answer.Passed p)) new → IsHeard old p new
heard_frame old s p new rule =
    let e : s ≡ step.PmFromHost = passed_step old s p new rule in
    let acts = (subst (λ (t : Step). Rule old t (Ok (answer.Passed p)) new) e rule).0 in
    record { frame = acts.0.0; link = acts.0.1; goes = acts.0.2; drops = acts.0.3 }

-- a port to which FISes pass forwards
passes_forwards : (pm : PmState) (n c : ℕ) → passes_to pm n ≡ Some c → forwards pm.registers n ≡ true
passes_forwards pm n c e = by_test (forwards pm.registers n) e
  where
    by_test : (b : Bool) → (if b then (port_at pm n).present else None) ≡ Some c → b ≡ true
    by_test true e = refl
    by_test false e = absurd (cc)

-- ## What a step does to what goes down

module _ (n c : ℕ) (below : n < 15) (old : Places) (s : Step) (new : Places) (firm : IsFirm n old) (there : IsThere n c old)
    (stays : unplugs n s ≡ false) (live : IsLive n c old) (passes : passes_to old.multiplier n ≡ Some c) where
  abbrev Same : Type 0
  Same = descending_on n c new ≡ descending_on n c old

  -- the unit took the first
  abbrev TakesFirst : Type 0
  TakesFirst =
      (f : Stamped) × (take 1 (on_down_link (slice_get old.devices n)) ≡ f ∷ []) × (descending_on n c old ≡ f.bytes ∷ descending_on n c new)

  -- by its answer
  abbrev MovesExactly : Answer → Type 0
  MovesExactly answer.Pushed =
      (f : Stamped) × (new.downward.frames ≡ old.downward.frames ++ f ∷ []) × (descending_on n c new ≡ descending_on n c old ++ for_port n f)
  MovesExactly (answer.DiskTook m false) = MatchBool (m == n) TakesFirst Same
  MovesExactly a = Same

  device : n ≢ control_port
  device e = absurd (omega (arith, e, below))

  two_same : falling_to n new ≡ falling_to n old → flat_map (for_port n) new.downward.frames ≡ flat_map (for_port n) old.downward.frames → Same
  two_same falls link =
      ap (λ (xs : List Stamped). falls_on c xs ++ flat_map (for_port n) new.downward.frames) falls
      ∙ ap (λ (xs : List (List ℕ)). falls_on c (falling_to n old) ++ xs) link

  -- a frame of the host that is not for the port
  taken_off : (f : Stamped) → old.downward.frames ≡ f ∷ new.downward.frames → pm_port f ≢ n
      → flat_map (for_port n) new.downward.frames ≡ flat_map (for_port n) old.downward.frames
  taken_off f link other =
      sym (ap (flat_map (for_port n)) link ∙ ap (λ (xs : List (List ℕ)). xs ++ flat_map (for_port n) new.downward.frames) (none_for n f other))

  pushed_exactly : Rule old s (Ok answer.Pushed) new → MovesExactly answer.Pushed
  pushed_exactly rule = (
    f,
    starts.link,
    ap (λ (xs : List Stamped). falls_on c xs ++ flat_map (for_port n) new.downward.frames) (starts.falls n)
        ∙ ap (λ (xs : List Stamped). falls_on c (falling_to n old) ++ flat_map (for_port n) xs) starts.link
        ∙ ap (λ (xs : List (List ℕ)). falls_on c (falling_to n old) ++ xs) (flat_more n old.downward.frames f)
        ∙ sym (append_assoc (falls_on c (falling_to n old)) (flat_map (for_port n) old.downward.frames) (for_port n f)),
  )
    where
      f : Stamped
      f = (rule_moves_down old s answer.Pushed new firm.orderly rule).0

      starts : Starts f old new
      starts = (rule_moves_down old s answer.Pushed new firm.orderly rule).1

  landed : (f : Stamped) → Lands n f old new → descending_on n c old ≡ falls_on c (f ∷ falling_to n new) ++ flat_map (for_port n) new.downward.frames
  landed f lands =
      ap (λ (xs : List Stamped). falls_on c xs ++ flat_map (for_port n) old.downward.frames) lands.here
      ∙ ap (λ (xs : List Stamped). falls_on c (f ∷ falling_to n new) ++ flat_map (for_port n) xs) (sym lands.link)

  lands_elsewhere : (m : ℕ) (f : Stamped) → n ≢ m → Lands m f old new → Same
  lands_elsewhere m f other lands = two_same (lands.elsewhere n other) (ap (flat_map (for_port n)) lands.link)

  took_exactly : (m : ℕ) → Rule old s (Ok (answer.DiskTook m false)) new → MovesExactly (answer.DiskTook m false)
  took_exactly m rule = by_port (m == n) refl
    where
      f : Stamped
      f = (rule_moves_down old s (answer.DiskTook m false) new firm.orderly rule).0

      lands : Lands m f old new
      lands = (rule_moves_down old s (answer.DiskTook m false) new firm.orderly rule).1

      here : m ≡ n → TakesFirst
      here same =
          let mine : Lands n f old new = subst (λ (k : ℕ). Lands k f old new) same lands in
          let its : Rule old s (Ok (answer.DiskTook n false)) new = subst (λ (k : ℕ). Rule old s (Ok (answer.DiskTook k false)) new) same rule in
          let own : (f.stamp.conn == c) ≡ true =
          eq-eqb f.stamp.conn c (takes_own n c old new s f mine.rest (only_there n c old there) its mine.first) in (
            f,
            ap (take 1) mine.first,
            landed f mine ∙ ap (λ (xs : List (List ℕ)). xs ++ flat_map (for_port n) new.downward.frames) (falls_first c f (falling_to n new) own),
          )

      by_port : (b : Bool) → (m == n) ≡ b
          → MatchBool b TakesFirst Same
      by_port true is = here (eqb-true m n is)
      by_port false is = lands_elsewhere m f (λ same. true≢false (sym (eq-eqb m n (sym same)) ∙ is)) lands

  dropped_exactly : (m : ℕ) → Rule old s (Ok (answer.DiskTook m true)) new → Same
  dropped_exactly m rule = elim (cases_eq n m) [
    | inl same ↦
        let mine : Lands n f old new = subst (λ (k : ℕ). Lands k f old new) (sym same) lands in
        let its : Rule old s (Ok (answer.DiskTook n true)) new = subst (λ (k : ℕ). Rule old s (Ok (answer.DiskTook k true)) new) (sym same) rule in
        sym (landed f mine ∙ ap (λ (xs : List (List ℕ)). xs ++ flat_map (for_port n) new.downward.frames)
        (falls_other c f (falling_to n new) (drops_other n c old new s f mine.rest there its mine.first)))
    | inr other ↦ lands_elsewhere m f other lands
  ]
    where
      f : Stamped
      f = (rule_moves_down old s (answer.DiskTook m true) new firm.orderly rule).0

      lands : Lands m f old new
      lands = (rule_moves_down old s (answer.DiskTook m true) new firm.orderly rule).1

  -- nothing that is recorded about the port is recorded in the step
  presence_exactly : (m : ℕ) → Rule old s (Ok (answer.Presence m)) new → Same
  presence_exactly m rule =
      let none : (m == n) ≡ false = (stays_present n c old s (answer.Presence m) new rule stays firm live.here live.kept).unrecorded in
      let loses : Loses m old new = rule_moves_down old s (answer.Presence m) new firm.orderly rule in
      two_same (loses.elsewhere n (λ same. true≢false (sym (eq-eqb m n (sym same)) ∙ none))) (ap (flat_map (for_port n)) loses.link)

  control_exactly : Rule old s (Ok (answer.Passed passed.Control)) new → Same
  control_exactly rule =
      let m = rule_moves_down old s (answer.Passed passed.Control) new firm.orderly rule in
      let h : IsHeard old passed.Control new = heard_frame old s passed.Control new rule in
      let own : pm_port h.frame ≡ control_port = eqb-true (pm_port h.frame) control_port (to_control old.multiplier h.frame new.multiplier h.goes) in
      two_same (m.1.falls n) (taken_off h.frame h.link (λ same. device (sym same ∙ own)))

  -- a frame that is dropped is not for the port
  nobody_exactly : Rule old s (Ok (answer.Passed passed.Dropped)) new → Same
  nobody_exactly rule =
      let m = rule_moves_down old s (answer.Passed passed.Dropped) new firm.orderly rule in
      let h : IsHeard old passed.Dropped new = heard_frame old s passed.Dropped new rule in
      let shut : forwards old.multiplier.registers (pm_port h.frame) ≡ false = (h.drops.0 refl).1 in
      two_same (m.1.falls n) (taken_off h.frame h.link (λ same.
      true≢false (sym (passes_forwards old.multiplier n c passes) ∙ ap (forwards old.multiplier.registers) (sym same) ∙ shut)))

  down_here : (f : Stamped) → pm_port f ≡ n → Goes n f old new → Same
  down_here f port goes =
      let conn : goes.conn ≡ c = same_Some goes.conn c (sym goes.passes ∙ passes) in
      let own : ((falling goes.conn f).stamp.conn == c) ≡ true = eq-eqb goes.conn c conn in
      let falls : falls_on c (falling_to n new) ≡ falls_on c (falling_to n old) ++ for_port n f =
      ap (falls_on c) goes.here ∙ falls_both c (falling_to n old) (falling goes.conn f ∷ [])
      ∙ ap (λ (xs : List (List ℕ)). falls_on c (falling_to n old) ++ xs) (falls_first c (falling goes.conn f) [] own ∙ sym (one_for n f port)) in
      ap (λ (xs : List (List ℕ)). xs ++ flat_map (for_port n) new.downward.frames) falls
      ∙ append_assoc (falls_on c (falling_to n old)) (for_port n f) (flat_map (for_port n) new.downward.frames)
      ∙ ap (λ (xs : List Stamped). falls_on c (falling_to n old) ++ flat_map (for_port n) xs) (sym goes.link)

  down_exactly : (m : ℕ) → Rule old s (Ok (answer.Passed (passed.Down m))) new → Same
  down_exactly m rule =
      let h : IsHeard old (passed.Down m) new = heard_frame old s (passed.Down m) new rule in
      let first : h.frame ≡ f = same_first h.frame f new.downward.frames new.downward.frames old.downward.frames h.link goes.link in
      by_port (sym (ap pm_port first) ∙ to_port old.multiplier h.frame m new.multiplier h.goes)
    where
      f : Stamped
      f = (rule_moves_down old s (answer.Passed (passed.Down m)) new firm.orderly rule).0

      goes : Goes m f old new
      goes = (rule_moves_down old s (answer.Passed (passed.Down m)) new firm.orderly rule).1

      by_port : pm_port f ≡ m → Same
      by_port port = elim (cases_eq n m) [
        | inl same ↦ down_here f (port ∙ sym same) (subst (λ (k : ℕ). Goes k f old new) (sym same) goes)
        | inr other ↦ two_same (goes.elsewhere n other) (taken_off f goes.link (λ same. other (sym same ∙ port)))
      ]

  moves_exactly : (a : Answer) → Rule old s (Ok a) new → MovesExactly a
  moves_exactly answer.Pushed rule = pushed_exactly rule
  moves_exactly (answer.DiskTook m false) rule = took_exactly m rule
  moves_exactly (answer.DiskTook m true) rule = dropped_exactly m rule
  moves_exactly (answer.Presence m) rule = presence_exactly m rule
  moves_exactly (answer.Passed passed.Control) rule = control_exactly rule
  moves_exactly (answer.Passed passed.Dropped) rule = nobody_exactly rule
  moves_exactly (answer.Passed (passed.Down m)) rule = down_exactly m rule
  moves_exactly a rule = rests_on n c old new (rule_moves_down old s a new firm.orderly rule)

  -- ---- what became of it

  received_none : (xs : List (List ℕ)) → map (λ bytes. Received bytes) xs ≡ [] → xs ≡ []
  received_none [] e = refl
  received_none (x ∷ xs) e = cc e

  received_one : (xs : List (List ℕ)) (bytes : List ℕ) → map (λ b. Received b) xs ≡ Received bytes ∷ [] → xs ≡ bytes ∷ []
  received_one (x ∷ []) bytes e = let same : x ≡ bytes = cc e in ap (λ (b : List ℕ). b ∷ []) same
  received_one other bytes e = cc e

  given_is : (f : Stamped) → new.downward.frames ≡ old.downward.frames ++ f ∷ [] → (heard : List Happening) → IsAtHost n old answer.Pushed new heard
      → heard ≡ map (λ bytes. Received bytes) (for_port n f)
  given_is f link heard is =
      is
      ∙ ap (λ (xs : List Stamped). map (λ bytes. Received bytes) (flat_map (for_port n) xs))
      (ap (λ (xs : List Stamped). drop (length old.downward.frames) xs) link ∙ drop_own old.downward.frames (f ∷ []))
      ∙ ap (λ (xs : List (List ℕ)). map (λ bytes. Received bytes) xs) (append-nil (for_port n f))

  -- if nothing is done at either end
  still_same : (a : Answer) → MovesExactly a → befalls n old a ≡ [] → IsAtHost n old a new [] → Same
  still_same answer.Pushed m none unheard =
      let nobody : for_port n m.0 ≡ [] = received_none (for_port n m.0) (sym (given_is m.0 m.1 [] unheard)) in
      m.2 ∙ ap (λ (xs : List (List ℕ)). descending_on n c old ++ xs) nobody ∙ append-nil (descending_on n c old)
  still_same (answer.DiskTook k false) m none unheard = by_port (k == n) m none
    where
      by_port : (b : Bool)
          → MatchBool b TakesFirst Same
          → (if b then map (λ frame. Received frame.bytes) (take 1 (on_down_link (slice_get old.devices n))) else []) ≡ [] → Same
      by_port true took none =
          let wrong : Received took.0.bytes ∷ [] ≡ [] = sym (ap (λ (xs : List Stamped). map (λ frame. Received frame.bytes) xs) took.1) ∙ none in
          cc wrong
      by_port false same none = same
  still_same a m none unheard = m

  -- what the unit took is the first
  first_comes : (bytes : List ℕ) → MovesExactly (answer.DiskTook n false) → befalls n old (answer.DiskTook n false) ≡ Received bytes ∷ []
      → descending_on n c old ≡ bytes ∷ descending_on n c new
  first_comes bytes m happened = by_port (n == n) (eq-eqb n n refl) m happened
    where
      by_port : (b : Bool) → b ≡ true
          → MatchBool b TakesFirst Same
          → (if b then map (λ frame. Received frame.bytes) (take 1 (on_down_link (slice_get old.devices n))) else []) ≡ Received bytes ∷ []
          → descending_on n c old ≡ bytes ∷ descending_on n c new
      by_port true e took happened =
          let one : Received took.0.bytes ∷ [] ≡ Received bytes ∷ [] =
          sym (ap (λ (xs : List Stamped). map (λ frame. Received frame.bytes) xs) took.1) ∙ happened in
          let same : took.0.bytes ≡ bytes = cc one in
          took.2 ∙ ap (λ (b : List ℕ). b ∷ descending_on n c new) same
      by_port false e took happened = absurd (true≢false (sym e))

  module _ (down up : List (List ℕ)) (x : IsExact n c old down up) where
    stays_exact : (up_now : List (List ℕ)) → Same → IsOnPath n c new down up_now → IsExact n c new down up_now
    stays_exact up_now same w = record { path = w; exact = same ∙ x.exact }

    given_exact : (bytes : List ℕ) (heard : List Happening) → MovesExactly answer.Pushed → IsAtHost n old answer.Pushed new heard
        → heard ≡ Received bytes ∷ []
        → IsOnPath n c new (down ++ bytes ∷ []) up → IsExact n c new (down ++ bytes ∷ []) up
    given_exact bytes heard m is one w =
        let mine : for_port n m.0 ≡ bytes ∷ [] = received_one (for_port n m.0) bytes (sym (given_is m.0 m.1 heard is) ∙ one) in
        record {
          path = w;
          exact = m.2 ∙ ap (λ (xs : List (List ℕ)). descending_on n c old ++ xs) mine ∙ ap (λ (xs : List (List ℕ)). xs ++ bytes ∷ []) x.exact;
        }

    exact_by : (a : Answer) (happened heard : List Happening) → MovesExactly a → happened ≡ befalls n old a → IsAtHost n old a new heard
        → PathMoves n c a new happened heard down up → ExactMoves n c a new happened heard down up
    exact_by a happened heard m told is (path.Still none unheard w) =
        Still none unheard (stays_exact up (still_same a m (sym told ∙ none) (subst (IsAtHost n old a new) unheard is)) w)
    exact_by a happened heard m told is (path.Gives bytes pushed none one w) =
        Gives bytes pushed none one
        (given_exact bytes heard (subst MovesExactly pushed m) (subst (λ (b : Answer). IsAtHost n old b new heard) pushed is) one w)
    exact_by a happened heard m told is (path.Comes front back bytes took one unheard split near far) =
        let first : descending_on n c old ≡ bytes ∷ descending_on n c new =
        first_comes bytes (subst MovesExactly took m) (sym (ap (befalls n old) took) ∙ sym told ∙ one) in
        Comes (descending_on n c new) bytes took one unheard (sym x.exact ∙ first) (exact_of n c new back (descending_on n c new) up far refl)
    exact_by a happened heard m told is (path.Sends number bytes sent one unheard w) =
        let same : Same = subst MovesExactly sent m in
        Sends number bytes sent one unheard (stays_exact (up ++ bytes ∷ []) same w)
    exact_by a happened heard m told is (path.Takes number bytes later report took none one first w) =
        let same : Same = subst MovesExactly took m in
        Takes number bytes later report took none one first (stays_exact later same w)

-- ## One step

pub exact_step : (n c : ℕ) → n < 15 → (old new : Places) (s : Step) (a : Answer) (down up : List (List ℕ)) → IsFirm n old → Rule old s (Ok a) new
    → IsThere n c old → unplugs n s ≡ false → injects n s ≡ false → IsMet n old → IsLive n c old → IsExact n c old down up
    → IsThere n c new × GoesExact n c old a new (happens n old s a new) down up
exact_step n c below old new s a down up firm rule there stays clean met live x =
    let device : n ≢ control_port = λ e. absurd (omega (arith, e, below)) in
    let passes : passes_to old.multiplier n ≡ Some c = live_passes n c old met live in
    let t : TellsOf n c old s a new = tells_of n c old s a new there stays clean rule in
    let g : IsThere n c new × GoesOnPath n c old a new (happens n old s a new) down up =
    unit_paths_go_on n c old new s a down up device firm.orderly rule there stays clean x.path in (
      g.0,
      record {
        heard = g.1.heard;
        is = g.1.is;
        moves =
            exact_by n c below old s new firm there stays live passes down up x a (happens n old s a new) g.1.heard
            (moves_exactly n c below old s new firm there stays live passes a rule) (sym t.same) g.1.is g.1.moves;
      },
    )

-- ## Along a run

-- The port of the unit at port n is open to it, and stays so while the unit is not unplugged.
pub record IsOpenFor (n c : ℕ) (unsent : Bool) (now : Places) : Type 0 where
  pub firm : IsFirm n now
  pub knows : Knows n unsent now
  pub met : IsMet n now
  pub live : IsLive n c now
  pub there : IsThere n c now

pub live_step : (n c : ℕ) → n < 15 → (unsent : Bool) (old new : Places) (s : Step) (a : Answer) → Rule old s (Ok a) new → unplugs n s ≡ false
    → IsOpenFor n c unsent old → IsOpenFor n c (unsent_after n unsent old s a new) new
live_step n c below unsent old new s a rule stays o = record {
  firm = firm_after n below old s a new rule o.firm;
  knows = (order_step n below unsent old o.knows s a new rule).1;
  met = met_after n old new o.met s a rule;
  live = live_after n c unsent old s a new rule stays o.firm o.knows o.live;
  there = there_after n c old a new o.there s stays rule;
}

-- what goes down stays exact, with it
pub open_step : (n c : ℕ) → n < 15 → (unsent : Bool) (old new : Places) (s : Step) (a : Answer) (down up : List (List ℕ)) → Rule old s (Ok a) new
    → unplugs n s ≡ false → injects n s ≡ false → IsOpenFor n c unsent old → IsExact n c old down up
    → IsOpenFor n c (unsent_after n unsent old s a new) new × GoesExact n c old a new (happens n old s a new) down up
open_step n c below unsent old new s a down up rule stays clean o x = (
  live_step n c below unsent old new s a rule stays o,
  (exact_step n c below old new s a down up o.firm rule o.there stays clean o.met o.live x).1,
)

-- It begins in each world to which a run from a new one leads, if the unit is there and its port is
-- open to it.
pub open_at : (config : Config) (units : List Attached) → is_config config (length units) ≡ true → (n c : ℕ) → n < 15 → n < length units
    → (before : List Step) (told : List Answer) (now : Places) → Run (new_world config units) before told now → (unsent : Bool) → Knows n unsent now
    → IsLive n c now → IsThere n c now → IsOpenFor n c unsent now
open_at config units fits n c below within before told now made unsent knows live there = record {
  firm = firm_at config units fits n below before told now made;
  knows = knows;
  met = met_at config units fits n within before told now made;
  live = live;
  there = there;
}

-- when the port is cleared for the unit, nothing goes down
pub cleared_exact : (n c : ℕ) (below : n < 15) (old : Places) (s : Step) (a : Answer) (new : Places) → Rule old s (Ok a) new
    → (rising : List (List ℕ)) → IsShutOff n c old rising → IsCut n c old → injects n s ≡ false → unplugs n s ≡ false
    → is_cleared n old a ≡ true → (up : List (List ℕ))
    → IsShutOff n c new up → IsExact n c new [] up
cleared_exact n c below old s a new rule rising h cut clean stays is up off =
    exact_now n c new up (path_now n c below old s a new rule rising h cut clean stays is up off)
