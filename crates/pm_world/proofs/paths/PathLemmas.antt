-- For `paths_go_on`. What each step of a world does on the path of one device.
use Rattle.std.proofs.Common.{◌≡◌, ◌≢◌, ◌==◌, ◌&&◌, ◌⊎◌, eqb, ℕ, Bool, true, false, List, [], ◌∷◌, ◌++◌, append_assoc, drop, length, map, refl, sym}
use Rattle.std.proofs.{Common.{ap, subst, ◌∙◌, inl, inr, Option, Some, None, Ok}, lemmas.Bool.{cases_Bool, cases_eq, eq-eqb, eqb-true, ne_eqb}}
use Rattle.std.proofs.lemmas.{Bool.{true≢false}, List.{append-nil, map-append, Elements.{filter-append}}}
use Rattle.std.specs.{Prelude.{if◌then◌else◌, option_to_list, slice_get, take, MatchBool, MatchOption}, List.flat_map}
use Rattle.fis_view.specs.Frames.{Stamped, marked}
use Rattle.hba_fbs.specs.declared.report.TakeReport.{TakeReport}
use Rattle.multiplier.specs.{Arbiter.control_port, Rules.{ToControl, ToDevice, ToNobody, ToPort}, Passing.lost_from, State.{PmState, falling}}
use Rattle.multiplier.specs.State.{passes_to, pm_port, port_at}
use Rattle.multiplier.specs.declared.multiplier.Passed.TheVariants as passed
use Rattle.disk_model.specs.Histories.{Happening, Plugged, Received, Sent}
use Rattle.pm_world.specs.{Downward.{falling_to, of_connection, on_down_link}, Places.{IsOrderly, Places}, Rules.{Rule, CameRule, DiskSendRule}}
use Rattle.pm_world.specs.{Rules.{DiskTakeRule, GoneRule, InjectRule, PmDownRule, PmFromDeviceRule, PmPresenceRule}, Traffic.NothingLost}
use Rattle.pm_world.specs.{Traffic.{all_marked, is_removed, on_host_link, sent_by, taken_by, transit}, declared.step.{Step.Step, Answer.Answer}}
use Rattle.pm_world.specs.{PathEnds.{AreAmong, IsAtHost, IsAway, IsUnremoved, befalls, descending, descending_on, for_port}, DevicePaths.Comes}
use Rattle.pm_world.specs.DevicePaths.{DroppedNeverComes, Gives, GoesOnPath, IsOnPath, Sends, StaysOn, Still, Takes, PathsGoOn}
use Rattle.pm_world.specs.declared.step.Step.TheVariants as step
use Rattle.pm_world.specs.declared.step.Answer.TheVariants as answer
use Rattle.pm_world.proofs.{downward.DownMoves.{Ends, Goes, Lands, Loses, Rests, Starts, rule_moves_down}, upward.Law.nothing_lost}
use Rattle.pm_world.proofs.{steps.{Orderly.removed_after, Lists.all_marked-append, Steps.{at_both, at_device}}, paths.KeptLemmas.stays_unremoved}
use Rattle.pm_world.proofs.paths.{KeptLemmas.unremoved, PlaceLemmas.{only_after, takes_own}}

-- ## Some of a list

among_weaker : (xs : List (List ℕ)) (y : List ℕ) (ys : List (List ℕ)) → AreAmong xs ys → AreAmong xs (y ∷ ys)
among_weaker [] y ys a = tt
among_weaker (x ∷ xs) y ys a = inr a

among_more : (xs ys : List (List ℕ)) (b : List ℕ) → AreAmong xs ys → AreAmong (xs ++ b ∷ []) (ys ++ b ∷ [])
among_more [] [] b a = inl (refl, tt)
among_more [] (y ∷ ys) b a = inr (among_more [] ys b tt)
among_more (x ∷ xs) [] b a = absurd a
among_more (x ∷ xs) (y ∷ ys) b (inl here) = inl (here.0, among_more xs ys b here.1)
among_more (x ∷ xs) (y ∷ ys) b (inr later) = inr (among_more (x ∷ xs) ys b later)

-- without one of them
among_without : (front : List (List ℕ)) (x : List ℕ) (back ys : List (List ℕ)) → AreAmong (front ++ x ∷ back) ys → AreAmong (front ++ back) ys
among_without [] x back [] a = absurd a
among_without [] x back (y ∷ ys) (inl here) = among_weaker back y ys here.1
among_without [] x back (y ∷ ys) (inr later) = among_weaker back y ys (among_without [] x back ys later)
among_without (f ∷ front) x back [] a = absurd a
among_without (f ∷ front) x back (y ∷ ys) (inl here) = inl (here.0, among_without front x back ys here.1)
among_without (f ∷ front) x back (y ∷ ys) (inr later) = inr (among_without (f ∷ front) x back ys later)

-- without any of some in the middle
among_but : (front gone back ys : List (List ℕ)) → AreAmong ((front ++ gone) ++ back) ys → AreAmong (front ++ back) ys
among_but front [] back ys a = subst (λ (xs : List (List ℕ)). AreAmong (xs ++ back) ys) (append-nil front) a
among_but front (x ∷ gone) back ys a =
    let whole : (front ++ x ∷ gone) ++ back ≡ front ++ x ∷ (gone ++ back) = append_assoc front (x ∷ gone) back in
    let less : AreAmong (front ++ (gone ++ back)) ys =
    among_without front x (gone ++ back) ys (subst (λ (xs : List (List ℕ)). AreAmong xs ys) whole a) in
    among_but front gone back ys (subst (λ (xs : List (List ℕ)). AreAmong xs ys) (sym (append_assoc front gone back)) less)

-- all of them
pub among_all : (xs : List (List ℕ)) → AreAmong xs xs
among_all [] = tt
among_all (x ∷ xs) = inl (refl, among_all xs)

-- behind some others
among_behind : (front xs ys : List (List ℕ)) → AreAmong xs ys → AreAmong xs (front ++ ys)
among_behind [] xs ys a = a
among_behind (f ∷ front) xs ys a = among_weaker xs f (front ++ ys) (among_behind front xs ys a)

-- where the first of them stands; the others stand after it
record Splits (x : List ℕ) (xs ys : List (List ℕ)) : Type 0 where
  before : List (List ℕ)
  after : List (List ℕ)
  is : ys ≡ before ++ x ∷ after
  rest : AreAmong xs after

among_split : (x : List ℕ) (xs ys : List (List ℕ)) → AreAmong (x ∷ xs) ys → Splits x xs ys
among_split x xs [] a = absurd a
among_split x xs (y ∷ ys) (inl here) = record { before = []; after = ys; is = ap (λ (z : List ℕ). z ∷ ys) (sym here.0); rest = here.1 }
among_split x xs (y ∷ ys) (inr later) =
    let s : Splits x xs ys = among_split x xs ys later in
    record { before = y ∷ s.before; after = s.after; is = ap (λ (zs : List (List ℕ)). y ∷ zs) s.is; rest = s.rest }

-- ## What goes up

-- one step takes and sends this
pub one_step : (n d : ℕ) (old new : Places) (s : Step) (a : Answer) → n ≢ control_port → IsOrderly old → Rule old s (Ok a) new
    → is_removed n d new ≡ false → taken_by n d a ++ transit n d new ≡ transit n d old ++ all_marked n (sent_by n d a)
one_step n d old new s a device orderly rule there =
    let lost : NothingLost old (a ∷ []) new = nothing_lost old (s ∷ []) (a ∷ []) new orderly (new, rule, refl) in
    let whole = lost.conserved n d device there in
    ap (λ (xs : List (List ℕ)). xs ++ transit n d new) (sym (append-nil (taken_by n d a))) ∙ whole
    ∙ ap (λ (xs : List (List ℕ)). transit n d old ++ all_marked n xs) (append-nil (sent_by n d a))

pub none_both : (xs ys : List (List ℕ)) → xs ++ ys ≡ [] → (xs ≡ []) × (ys ≡ [])
none_both [] ys e = (refl, e)
none_both (x ∷ xs) ys e = cc e

pub if_true : (b : Bool) (xs : List (List ℕ)) → b ≡ true → (if b then xs else []) ≡ xs
if_true true xs e = refl
if_true false xs e = cc e

pub if_false : (b : Bool) (xs : List (List ℕ)) → b ≡ false → (if b then xs else []) ≡ []
if_false true xs e = cc e
if_false false xs e = refl

pub and_false : (a b : Bool) → (a ≡ true → b ≡ false) → (a && b) ≡ false
and_false true b e = e refl
and_false false b e = refl

pub and_both : (a b : Bool) → a ≡ true → b ≡ true → (a && b) ≡ true
and_both true true e f = refl
and_both true false e f = cc f
and_both false b e f = cc e

-- nothing is sent on another connection
pub unsent_other : (n c d : ℕ) (a : Answer) → StaysOn n c a → d ≢ c → sent_by n d a ≡ []
unsent_other n c d (answer.Sent port conn number bytes) stays other =
    if_false (port == n && conn == d) (bytes ∷ []) (and_false (port == n) (conn == d) (λ here. ne_eqb conn d (λ e. other (sym e ∙ stays here))))
unsent_other n c d _ stays other = refl

-- what is away stays so, and nothing of it is taken
pub away_after : (n d : ℕ) (old new : Places) (s : Step) (a : Answer) → n ≢ control_port → IsOrderly old → Rule old s (Ok a) new → IsAway n d old
    → sent_by n d a ≡ [] → (taken_by n d a ≡ []) × IsAway n d new
away_after n d old new s a device orderly rule none unsent = elim (cases_Bool (is_removed n d old)) [
  | inl gone ↦
      let over = lost.over n d device gone in
      let both = none_both (taken_by n d a ++ []) (on_host_link n d new) (over ∙ none.0) in
      let stays : is_removed n d new ≡ true = removed_after old s a new orderly rule n d gone in
      (sym (append-nil (taken_by n d a)) ∙ both.0, (both.1, λ there. absurd (true≢false (sym stays ∙ there))))
  | inr there ↦
      let before : transit n d old ++ all_marked n (sent_by n d a ++ []) ≡ [] =
      ap (λ (xs : List (List ℕ)). xs ++ all_marked n (sent_by n d a ++ [])) (none.1 there)
      ∙ ap (λ (xs : List (List ℕ)). all_marked n (xs ++ [])) unsent in
      let arrives = lost.arrives n d device in
      let front = none_both ((taken_by n d a ++ []) ++ on_host_link n d new) arrives.0 (arrives.1 ∙ before) in
      let both = none_both (taken_by n d a ++ []) (on_host_link n d new) front.0 in (
        sym (append-nil (taken_by n d a)) ∙ both.0,
        (
          both.1,
          λ still.
              let whole = one_step n d old new s a device orderly rule still in
              (none_both (taken_by n d a) (transit n d new)
              (whole ∙ ap (λ (xs : List (List ℕ)). xs ++ all_marked n (sent_by n d a)) (none.1 there) ∙ ap (all_marked n) unsent)).1,
        ),
      )
]
  where
    lost : NothingLost old (a ∷ []) new
    lost = nothing_lost old (s ∷ []) (a ∷ []) new orderly (new, rule, refl)

-- nor taken
none_other : (n c d : ℕ) (old new : Places) (s : Step) (a : Answer) → n ≢ control_port → IsOrderly old → Rule old s (Ok a) new → StaysOn n c a
    → d ≢ c → IsAway n d old → (taken_by n d a ≡ []) × IsAway n d new
none_other n c d old new s a device orderly rule stays other none =
    away_after n d old new s a device orderly rule none (unsent_other n c d a stays other)

-- a step that neither takes nor sends
pub still_above : (n c : ℕ) (old new : Places) (s : Step) (a : Answer) → n ≢ control_port → IsOrderly old → Rule old s (Ok a) new → taken_by n c a ≡ []
    → sent_by n c a ≡ [] → is_removed n c new ≡ false → transit n c new ≡ transit n c old
still_above n c old new s a device orderly rule untaken unsent there =
    ap (λ (xs : List (List ℕ)). xs ++ transit n c new) (sym untaken) ∙ one_step n c old new s a device orderly rule there
    ∙ ap (λ (xs : List (List ℕ)). transit n c old ++ all_marked n xs) unsent ∙ append-nil (transit n c old)

-- ## What goes down

pub rests_below : (n : ℕ) (old new : Places) → Rests old new → descending n new ≡ descending n old
rests_below n old new r =
    ap (λ (xs : List Stamped). map (λ f. f.bytes) xs ++ flat_map (for_port n) new.downward.frames) (r.falls n)
    ∙ ap (λ (xs : List Stamped). map (λ f. f.bytes) (falling_to n old) ++ flat_map (for_port n) xs) r.link

-- the bytes of what falls on connection c
abbrev pub falls_on : ℕ → List Stamped → List (List ℕ)
falls_on c xs = map (λ g. g.bytes) (of_connection c xs)

pub rests_on : (n c : ℕ) (old new : Places) → Rests old new → descending_on n c new ≡ descending_on n c old
rests_on n c old new r =
    ap (λ (xs : List Stamped). falls_on c xs ++ flat_map (for_port n) new.downward.frames) (r.falls n)
    ∙ ap (λ (xs : List Stamped). falls_on c (falling_to n old) ++ flat_map (for_port n) xs) r.link

-- if nothing descends, nothing is on a connection
no_falls : (c : ℕ) (xs : List Stamped) → map (λ g. g.bytes) xs ≡ [] → falls_on c xs ≡ []
no_falls c [] e = refl
no_falls c (x ∷ xs) e = cc e

pub none_on : (n c : ℕ) (now : Places) → descending n now ≡ [] → descending_on n c now ≡ []
none_on n c now e =
    let both = none_both (map (λ g. g.bytes) (falling_to n now)) (flat_map (for_port n) now.downward.frames) e in
    ap (λ (xs : List (List ℕ)). xs ++ flat_map (for_port n) now.downward.frames) (no_falls c (falling_to n now) both.0) ∙ both.1

-- what falls on a connection, of two lists and of one frame
pub falls_both : (c : ℕ) (xs ys : List Stamped) → falls_on c (xs ++ ys) ≡ falls_on c xs ++ falls_on c ys
falls_both c xs ys =
    ap (λ (l : List Stamped). map (λ g. g.bytes) l) (filter-append (λ (g : Stamped). g.stamp.conn == c) xs ys)
    ∙ map-append (λ (g : Stamped). g.bytes) (of_connection c xs) (of_connection c ys)

pub falls_first : (c : ℕ) (f : Stamped) (xs : List Stamped) → (f.stamp.conn == c) ≡ true → falls_on c (f ∷ xs) ≡ f.bytes ∷ falls_on c xs
falls_first c f xs is = by_test (f.stamp.conn == c) is
  where
    by_test : (b : Bool) → b ≡ true → map (λ (g : Stamped). g.bytes) (if b then f ∷ of_connection c xs else of_connection c xs) ≡ f.bytes ∷ falls_on c xs
    by_test true e = refl
    by_test false e = cc e

pub falls_other : (c : ℕ) (f : Stamped) (xs : List Stamped) → (f.stamp.conn == c) ≡ false → falls_on c (f ∷ xs) ≡ falls_on c xs
falls_other c f xs is = by_test (f.stamp.conn == c) is
  where
    by_test : (b : Bool) → b ≡ false → map (λ (g : Stamped). g.bytes) (if b then f ∷ of_connection c xs else of_connection c xs) ≡ falls_on c xs
    by_test true e = cc e
    by_test false e = refl

pub flat_more : (n : ℕ) (xs : List Stamped) (f : Stamped) → flat_map (for_port n) (xs ++ f ∷ []) ≡ flat_map (for_port n) xs ++ for_port n f
flat_more n [] f = append-nil (for_port n f)
flat_more n (x ∷ xs) f =
    ap (λ (ys : List (List ℕ)). for_port n x ++ ys) (flat_more n xs f) ∙ sym (append_assoc (for_port n x) (flat_map (for_port n) xs) (for_port n f))

-- ## Each answer

module _ (n c : ℕ) (old new : Places) (s : Step) (down up : List (List ℕ)) (device : n ≢ control_port) (orderly : IsOrderly old)
    (w : IsOnPath n c old down up) where
  alone_after : (a : Answer) → Rule old s (Ok a) new → StaysOn n c a → (d : ℕ) → d ≢ c → IsAway n d new
  alone_after a rule stays d other = (none_other n c d old new s a device orderly rule stays other (w.alone d other)).1

  kept_after : (a : Answer) → Rule old s (Ok a) new → StaysOn n c a → IsUnremoved n c new
  kept_after a rule stays = stays_unremoved n c old new s a orderly rule stays w.kept

  there_after : (a : Answer) → Rule old s (Ok a) new → StaysOn n c a → is_removed n c new ≡ false
  there_after a rule stays = unremoved n c new (kept_after a rule stays)

  -- what is on its way afterwards is all that is to be shown
  on_now : (a : Answer) (down_now up_now : List (List ℕ)) → Rule old s (Ok a) new → StaysOn n c a → transit n c new ≡ all_marked n up_now
      → AreAmong (descending_on n c new) down_now → IsOnPath n c new down_now up_now
  on_now a down_now up_now rule stays above below = record {
    above = above;
    alone = alone_after a rule stays;
    kept = kept_after a rule stays;
    only = only_after n c old a new w.only stays s rule;
    below = below;
  }

  -- nothing goes up, or comes there
  above_still : (a : Answer) → Rule old s (Ok a) new → StaysOn n c a → taken_by n c a ≡ [] → sent_by n c a ≡ [] → transit n c new ≡ all_marked n up
  above_still a rule stays untaken unsent =
      still_above n c old new s a device orderly rule untaken unsent (there_after a rule stays) ∙ w.above

  -- nor down
  below_still : descending_on n c new ≡ descending_on n c old → AreAmong (descending_on n c new) down
  below_still same = subst (λ (xs : List (List ℕ)). AreAmong xs down) (sym same) w.below

  fewer : (a : Answer) → Rule old s (Ok a) new → StaysOn n c a → taken_by n c a ≡ [] → sent_by n c a ≡ [] → AreAmong (descending_on n c new) down
      → IsOnPath n c new down up
  fewer a rule stays untaken unsent below = on_now a down up rule stays (above_still a rule stays untaken unsent) below

  nothing : (a : Answer) → Rule old s (Ok a) new → StaysOn n c a → taken_by n c a ≡ [] → sent_by n c a ≡ [] → descending_on n c new ≡ descending_on n c old
      → IsOnPath n c new down up
  nothing a rule stays untaken unsent same = fewer a rule stays untaken unsent (below_still same)

  -- ---- a FIS is sent

  sent_here : (port conn number : ℕ) (bytes : List ℕ) → Rule old s (Ok (answer.Sent port conn number bytes)) new
      → StaysOn n c (answer.Sent port conn number bytes) → eqb port n ≡ true → IsOnPath n c new down (up ++ bytes ∷ [])
  sent_here port conn number bytes rule stays here =
      let is : sent_by n c (answer.Sent port conn number bytes) ≡ bytes ∷ [] =
      if_true (port == n && conn == c) (bytes ∷ []) (and_both (port == n) (conn == c) here (eq-eqb conn c (stays here))) in
      on_now (answer.Sent port conn number bytes) down (up ++ bytes ∷ []) rule stays
      (one_step n c old new s (answer.Sent port conn number bytes) device orderly rule
      (there_after (answer.Sent port conn number bytes) rule stays)
      ∙ ap (λ (xs : List (List ℕ)). transit n c old ++ all_marked n xs) is
      ∙ ap (λ (xs : List (List ℕ)). xs ++ all_marked n (bytes ∷ [])) w.above
      ∙ sym (all_marked-append n up (bytes ∷ [])))
      (below_still (rests_on n c old new (rule_moves_down old s (answer.Sent port conn number bytes) new orderly rule)))

  sent_elsewhere : (port conn number : ℕ) (bytes : List ℕ) → Rule old s (Ok (answer.Sent port conn number bytes)) new
      → StaysOn n c (answer.Sent port conn number bytes) → eqb port n ≡ false → IsOnPath n c new down up
  sent_elsewhere port conn number bytes rule stays other =
      nothing (answer.Sent port conn number bytes) rule stays refl
      (if_false (port == n && conn == c) (bytes ∷ []) (and_false (port == n) (conn == c) (λ here. absurd (true≢false (sym here ∙ other)))))
      (rests_on n c old new (rule_moves_down old s (answer.Sent port conn number bytes) new orderly rule))

  -- ---- a FIS is taken by the host

  -- these bytes are the next, on this connection
  record IsNextUp (conn : ℕ) (bytes : List ℕ) : Type 0 where
    plain : List ℕ
    later : List (List ℕ)
    own : conn ≡ c
    marks : bytes ≡ marked plain n
    first : up ≡ plain ∷ later
    path : IsOnPath n c new down later

  next_up : (conn : ℕ) (bytes : List ℕ) (rest all : List (List ℕ)) → up ≡ all → bytes ∷ rest ≡ all_marked n all → conn ≡ c
      → ((later : List (List ℕ)) → rest ≡ all_marked n later → IsOnPath n c new down later) → IsNextUp conn bytes
  next_up conn bytes rest [] is same own path = cc same
  next_up conn bytes rest (u ∷ later) is same own path =
      let first : bytes ≡ marked u n = cc same in
      let others : rest ≡ all_marked n later = cc same in
      record { plain = u; later = later; own = own; marks = first; first = is; path = path later others }

  took_here : (port conn number : ℕ) (bytes : List ℕ) (report : TakeReport) → Rule old s (Ok (answer.Took port conn number bytes report)) new
      → eqb port n ≡ true → IsNextUp conn bytes
  took_here port conn number bytes report rule here = elim (cases_eq conn c) [
    | inl same ↦
        let mine : taken_by n c (answer.Took port conn number bytes report) ≡ bytes ∷ [] =
        ap (λ (d : ℕ). taken_by n d (answer.Took port conn number bytes report)) (sym same) ∙ taken in
        let whole : bytes ∷ transit n c new ≡ all_marked n up =
        ap (λ (xs : List (List ℕ)). xs ++ transit n c new) (sym mine)
        ∙ one_step n c old new s (answer.Took port conn number bytes report) device orderly rule
        (there_after (answer.Took port conn number bytes report) rule tt) ∙ append-nil (transit n c old) ∙ w.above in
        next_up conn bytes (transit n c new) up refl whole same
        (λ later left. on_now (answer.Took port conn number bytes report) down later rule tt left
        (below_still (rests_on n c old new (rule_moves_down old s (answer.Took port conn number bytes report) new orderly rule))))
    | inr other ↦
        let none = (none_other n c conn old new s (answer.Took port conn number bytes report) device orderly rule tt other (w.alone conn other)).0 in
        cc (sym none ∙ taken)
  ]
    where
      taken : taken_by n conn (answer.Took port conn number bytes report) ≡ bytes ∷ []
      taken = if_true (port == n && conn == conn) (bytes ∷ []) (and_both (port == n) (conn == conn) here (eq-eqb conn conn refl))

  took_elsewhere : (port conn number : ℕ) (bytes : List ℕ) (report : TakeReport) → Rule old s (Ok (answer.Took port conn number bytes report)) new
      → eqb port n ≡ false → IsOnPath n c new down up
  took_elsewhere port conn number bytes report rule other =
      nothing (answer.Took port conn number bytes report) rule tt
      (if_false (port == n && conn == c) (bytes ∷ []) (and_false (port == n) (conn == c) (λ here. absurd (true≢false (sym here ∙ other))))) refl
      (rests_on n c old new (rule_moves_down old s (answer.Took port conn number bytes report) new orderly rule))

  -- ---- a FIS goes down

  pushed_on : (f : Stamped) (b : Bool) → eqb (pm_port f) n ≡ b → Starts f old new
      → descending_on n c new ≡ descending_on n c old ++ (if b then marked f.bytes 0 ∷ [] else [])
  pushed_on f b is starts =
      ap (λ (xs : List Stamped). falls_on c xs ++ flat_map (for_port n) new.downward.frames) (starts.falls n)
      ∙ ap (λ (xs : List Stamped). falls_on c (falling_to n old) ++ flat_map (for_port n) xs) starts.link
      ∙ ap (λ (xs : List (List ℕ)). falls_on c (falling_to n old) ++ xs) (flat_more n old.downward.frames f)
      ∙ sym (append_assoc (falls_on c (falling_to n old)) (flat_map (for_port n) old.downward.frames) (for_port n f))
      ∙ ap (λ (x : Bool). descending_on n c old ++ (if x then marked f.bytes 0 ∷ [] else [])) is

  pushed_here : (f : Stamped) → eqb (pm_port f) n ≡ true → Rule old s (Ok answer.Pushed) new → Starts f old new
      → IsOnPath n c new (down ++ marked f.bytes 0 ∷ []) up
  pushed_here f here rule starts =
      on_now answer.Pushed (down ++ marked f.bytes 0 ∷ []) up rule tt (above_still answer.Pushed rule tt refl refl)
      (subst (λ (xs : List (List ℕ)). AreAmong xs (down ++ marked f.bytes 0 ∷ [])) (sym (pushed_on f true here starts))
      (among_more (descending_on n c old) down (marked f.bytes 0) w.below))

  pushed_elsewhere : (f : Stamped) → eqb (pm_port f) n ≡ false → Rule old s (Ok answer.Pushed) new → Starts f old new → IsOnPath n c new down up
  pushed_elsewhere f other rule starts =
      nothing answer.Pushed rule tt refl refl (pushed_on f false other starts ∙ append-nil (descending_on n c old))

  -- some of the host's frames goes to no device
  gone_case : (a : Answer) (f : Stamped) → Rule old s (Ok a) new → StaysOn n c a → taken_by n c a ≡ [] → sent_by n c a ≡ []
      → old.downward.frames ≡ f ∷ new.downward.frames → falls_on c (falling_to n new) ≡ falls_on c (falling_to n old) → IsOnPath n c new down up
  gone_case a f rule stays untaken unsent link falls =
      let split : descending_on n c old ≡ (falls_on c (falling_to n old) ++ for_port n f) ++ flat_map (for_port n) new.downward.frames =
      ap (λ (xs : List Stamped). falls_on c (falling_to n old) ++ flat_map (for_port n) xs) link
      ∙ sym (append_assoc (falls_on c (falling_to n old)) (for_port n f) (flat_map (for_port n) new.downward.frames)) in
      let less : AreAmong (falls_on c (falling_to n old) ++ flat_map (for_port n) new.downward.frames) down =
      among_but (falls_on c (falling_to n old)) (for_port n f) (flat_map (for_port n) new.downward.frames) down
      (subst (λ (xs : List (List ℕ)). AreAmong xs down) split w.below) in
      fewer a rule stays untaken unsent
      (subst (λ (xs : List (List ℕ)). AreAmong (xs ++ flat_map (for_port n) new.downward.frames) down) (sym falls) less)

  -- one frame comes to wait at its port, for the connection that is present there
  goes_here : (f : Stamped) → pm_port f ≡ n → Rule old s (Ok (answer.Passed (passed.Down n))) new → Goes n f old new → IsOnPath n c new down up
  goes_here f port rule goes = by_conn (goes.conn == c) refl
    where
      mine : for_port n f ≡ marked f.bytes 0 ∷ []
      mine = if_true (pm_port f == n) (marked f.bytes 0 ∷ []) (eq-eqb (pm_port f) n port)

      now_falls : falls_on c (falling_to n new) ≡ falls_on c (falling_to n old) ++ falls_on c (falling goes.conn f ∷ [])
      now_falls = ap (falls_on c) goes.here ∙ falls_both c (falling_to n old) (falling goes.conn f ∷ [])

      by_conn : (b : Bool) → (goes.conn == c) ≡ b → IsOnPath n c new down up
      by_conn true is =
          let before : descending_on n c old ≡ falls_on c (falling_to n old) ++ (for_port n f ++ flat_map (for_port n) new.downward.frames) =
          ap (λ (xs : List Stamped). falls_on c (falling_to n old) ++ flat_map (for_port n) xs) goes.link in
          let after : descending_on n c new ≡ falls_on c (falling_to n old) ++ (for_port n f ++ flat_map (for_port n) new.downward.frames) =
          ap (λ (xs : List (List ℕ)). xs ++ flat_map (for_port n) new.downward.frames)
          (now_falls ∙ ap (λ (xs : List (List ℕ)). falls_on c (falling_to n old) ++ xs) (falls_first c (falling goes.conn f) [] is))
          ∙ append_assoc (falls_on c (falling_to n old)) (marked f.bytes 0 ∷ []) (flat_map (for_port n) new.downward.frames)
          ∙ ap (λ (xs : List (List ℕ)). falls_on c (falling_to n old) ++ (xs ++ flat_map (for_port n) new.downward.frames)) (sym mine) in
          nothing (answer.Passed (passed.Down n)) rule tt refl refl (after ∙ sym before)
      by_conn false is =
          gone_case (answer.Passed (passed.Down n)) f rule tt refl refl goes.link
          (now_falls ∙ ap (λ (xs : List (List ℕ)). falls_on c (falling_to n old) ++ xs) (falls_other c (falling goes.conn f) [] is)
          ∙ append-nil (falls_on c (falling_to n old)))

  goes_case : (m : ℕ) (f : Stamped) → pm_port f ≡ m → Rule old s (Ok (answer.Passed (passed.Down m))) new → Goes m f old new
      → IsOnPath n c new down up
  goes_case m f port rule goes = elim (cases_eq n m) [
    | inl same ↦
        goes_here f (port ∙ sym same) (subst (λ (k : ℕ). Rule old s (Ok (answer.Passed (passed.Down k))) new) (sym same) rule)
        (subst (λ (k : ℕ). Goes k f old new) (sym same) goes)
    | inr other ↦ gone_case (answer.Passed (passed.Down m)) f rule tt refl refl goes.link (ap (falls_on c) (goes.elsewhere n other))
  ]

  -- ---- a removal is recorded

  -- what waited at the port for a device that is gone is dropped
  loses_here : Rule old s (Ok (answer.Presence n)) new → Loses n old new → IsOnPath n c new down up
  loses_here rule loses =
      let lost : List Stamped = option_to_list (lost_from (port_at old.multiplier n).down (port_at new.multiplier n).down) in
      let link : List (List ℕ) = flat_map (for_port n) new.downward.frames in
      let split : descending_on n c old ≡ (falls_on c (falling_to n new) ++ falls_on c lost) ++ link =
      ap (λ (xs : List Stamped). falls_on c xs ++ flat_map (for_port n) old.downward.frames) (sym loses.here)
      ∙ ap (λ (xs : List Stamped). falls_on c (falling_to n new ++ lost) ++ flat_map (for_port n) xs) (sym loses.link)
      ∙ ap (λ (xs : List (List ℕ)). xs ++ link) (falls_both c (falling_to n new) lost) in
      fewer (answer.Presence n) rule tt refl refl
      (among_but (falls_on c (falling_to n new)) (falls_on c lost) link down (subst (λ (xs : List (List ℕ)). AreAmong xs down) split w.below))

  loses_case : (m : ℕ) → Rule old s (Ok (answer.Presence m)) new → Loses m old new → IsOnPath n c new down up
  loses_case m rule loses = elim (cases_eq n m) [
    | inl same ↦
        loses_here (subst (λ (k : ℕ). Rule old s (Ok (answer.Presence k)) new) (sym same) rule) (subst (λ (k : ℕ). Loses k old new) (sym same) loses)
    | inr other ↦
        nothing (answer.Presence m) rule tt refl refl
        (ap (λ (xs : List Stamped). falls_on c xs ++ flat_map (for_port n) new.downward.frames) (loses.elsewhere n other)
        ∙ ap (λ (xs : List Stamped). falls_on c (falling_to n old) ++ flat_map (for_port n) xs) loses.link)
  ]

  -- ---- the device takes a FIS

  -- these bytes stand among what may come, with those in front of them or without
  record IsNextDown (bytes : List ℕ) : Type 0 where
    front : List (List ℕ)
    back : List (List ℕ)
    is : down ≡ front ++ bytes ∷ back
    near : IsOnPath n c new (front ++ back) up
    far : IsOnPath n c new back up

  landed : (f : Stamped) → Lands n f old new → descending_on n c old ≡ falls_on c (f ∷ falling_to n new) ++ flat_map (for_port n) new.downward.frames
  landed f lands =
      ap (λ (xs : List Stamped). falls_on c xs ++ flat_map (for_port n) old.downward.frames) lands.here
      ∙ ap (λ (xs : List Stamped). falls_on c (f ∷ falling_to n new) ++ flat_map (for_port n) xs) (sym lands.link)

  lands_first : (f : Stamped) → (f.stamp.conn == c) ≡ true → Lands n f old new → AreAmong (f.bytes ∷ descending_on n c new) down
  lands_first f is lands =
      subst (λ (xs : List (List ℕ)). AreAmong xs down)
      (landed f lands ∙ ap (λ (xs : List (List ℕ)). xs ++ flat_map (for_port n) new.downward.frames) (falls_first c f (falling_to n new) is)) w.below

  lands_here : (f : Stamped) → Rule old s (Ok (answer.DiskTook n false)) new → Lands n f old new → IsNextDown f.bytes
  lands_here f rule lands =
      let own : (f.stamp.conn == c) ≡ true = eq-eqb f.stamp.conn c (takes_own n c old new s f lands.rest w.only rule lands.first) in
      let k : Splits f.bytes (descending_on n c new) down = among_split f.bytes (descending_on n c new) down (lands_first f own lands) in
      let above : transit n c new ≡ all_marked n up = above_still (answer.DiskTook n false) rule tt refl refl in
      record {
        front = k.before;
        back = k.after;
        is = k.is;
        near = on_now (answer.DiskTook n false) (k.before ++ k.after) up rule tt above (among_behind k.before (descending_on n c new) k.after k.rest);
        far = on_now (answer.DiskTook n false) k.after up rule tt above k.rest;
      }

  -- one that is dropped
  drops_here : (f : Stamped) → Rule old s (Ok (answer.DiskTook n true)) new → Lands n f old new → IsOnPath n c new down up
  drops_here f rule lands = by_conn (f.stamp.conn == c) refl
    where
      by_conn : (b : Bool) → (f.stamp.conn == c) ≡ b → IsOnPath n c new down up
      by_conn true is =
          fewer (answer.DiskTook n true) rule tt refl refl (among_without [] f.bytes (descending_on n c new) down (lands_first f is lands))
      by_conn false is =
          nothing (answer.DiskTook n true) rule tt refl refl
          (sym (landed f lands ∙ ap (λ (xs : List (List ℕ)). xs ++ flat_map (for_port n) new.downward.frames) (falls_other c f (falling_to n new) is)))

  lands_elsewhere : (m : ℕ) (f : Stamped) (dropped : Bool) → n ≢ m → Rule old s (Ok (answer.DiskTook m dropped)) new → Lands m f old new
      → IsOnPath n c new down up
  lands_elsewhere m f dropped other rule lands =
      nothing (answer.DiskTook m dropped) rule tt refl refl
      (ap (λ (xs : List Stamped). falls_on c xs ++ flat_map (for_port n) new.downward.frames) (lands.elsewhere n other)
      ∙ ap (λ (xs : List Stamped). falls_on c (falling_to n old) ++ flat_map (for_port n) xs) lands.link)

-- ## To which port a frame is passed

-- the frame that is passed down is for the port
record IsPassed (old new : Places) (m : ℕ) : Type 0 where
  frame : Stamped
  rest : List Stamped
  link : old.downward.frames ≡ frame ∷ rest
  port : pm_port frame ≡ m

to_device : (pm : PmState) (frame : Stamped) (m : ℕ) (after : PmState) (o : Option ℕ)
    → MatchOption o (ToNobody pm (Ok (passed.Down m)) after) (λ conn. ToDevice pm (pm_port frame) conn frame (Ok (passed.Down m)) after)
    → pm_port frame ≡ m
to_device pm frame m after None rule = absurd rule
to_device pm frame m after (Some conn) rule = sym rule.0

to_port : (pm : PmState) (frame : Stamped) (m : ℕ) (after : PmState) (b : Bool)
    → MatchBool b (ToControl pm frame (Ok (passed.Down m)) after) (ToPort pm frame (Ok (passed.Down m)) after) → pm_port frame ≡ m
to_port pm frame m after true rule = absurd rule
to_port pm frame m after false rule = to_device pm frame m after (passes_to pm (pm_port frame)) rule

passed_port : (old new : Places) (s : Step) (m : ℕ) → Rule old s (Ok (answer.Passed (passed.Down m))) new → IsPassed old new m
passed_port old new (step.Came k) m rule = absurd (at_device old k (answer.Passed (passed.Down m)) new (CameRule k) rule).rule.1
passed_port old new (step.Gone k) m rule = absurd (at_device old k (answer.Passed (passed.Down m)) new (GoneRule k) rule).rule.1
passed_port old new (step.DiskSend k) m rule = absurd (at_device old k (answer.Passed (passed.Down m)) new (DiskSendRule k) rule).rule.1
passed_port old new (step.Inject k bytes) m rule = absurd (at_device old k (answer.Passed (passed.Down m)) new (InjectRule k bytes) rule).rule.1
passed_port old new (step.DiskTake k) m rule = absurd (at_device old k (answer.Passed (passed.Down m)) new (DiskTakeRule k) rule).rule
passed_port old new (step.PmPresence k) m rule = absurd (at_both old k (answer.Passed (passed.Down m)) new (PmPresenceRule k) rule).rule
passed_port old new (step.PmFromDevice k) m rule = absurd (at_both old k (answer.Passed (passed.Down m)) new (PmFromDeviceRule k) rule).rule
passed_port old new (step.PmDown k) m rule = absurd (at_both old k (answer.Passed (passed.Down m)) new (PmDownRule k) rule).rule
passed_port old new step.PmFromHost m rule =
    let r = rule.0.0 in
    record {
      frame = r.0;
      rest = new.downward.frames;
      link = r.1;
      port = to_port old.multiplier r.0 m new.multiplier
          (pm_port r.0 == control_port) r.2;
    }
passed_port old new other m rule = absurd rule.0

first_same : (f g : Stamped) (xs ys : List Stamped) (all : List Stamped) → all ≡ f ∷ xs → all ≡ g ∷ ys → g ≡ f
first_same f g xs ys all here there = let e : g ∷ ys ≡ f ∷ xs = sym there ∙ here in cc e

-- ## All of them

pub drop_front : (xs ys : List Stamped) → drop (length xs) (xs ++ ys) ≡ ys
drop_front [] ys = refl
drop_front (x ∷ xs) ys = drop_front xs ys

started : (old new : Places) (f : Stamped) → Starts f old new → drop (length old.downward.frames) new.downward.frames ≡ f ∷ []
started old new f starts = ap (λ (xs : List Stamped). drop (length old.downward.frames) xs) starts.link ∙ drop_front old.downward.frames (f ∷ [])

-- what the host pushed is given to the port, or nothing is
given_started : (n : ℕ) (old new : Places) (f : Stamped) → Starts f old new
    → flat_map (for_port n) (drop (length old.downward.frames) new.downward.frames) ≡ for_port n f
given_started n old new f starts = ap (λ (xs : List Stamped). flat_map (for_port n) xs) (started old new f starts) ∙ append-nil (for_port n f)

taken_first : (old new : Places) (m : ℕ) (f : Stamped) → Lands m f old new → take 1 (on_down_link (slice_get old.devices m)) ≡ f ∷ []
taken_first old new m f lands = ap (λ (xs : List Stamped). take 1 xs) lands.first

if_none : (b : Bool) (xs : List Happening) → b ≡ false → (if b then xs else []) ≡ []
if_none true xs e = cc e
if_none false xs e = refl

if_some : (b : Bool) (xs : List Happening) → b ≡ true → (if b then xs else []) ≡ xs
if_some true xs e = refl
if_some false xs e = cc e

module _ (n c : ℕ) (old new : Places) (s : Step) (down up : List (List ℕ)) (device : n ≢ control_port) (orderly : IsOrderly old)
    (w : IsOnPath n c old down up) where
  -- what a step with this answer leaves
  abbrev LeftBy : Answer → Type 0
  LeftBy a = GoesOnPath n c old a new (befalls n old a) down up

  -- nothing is done at either end
  nothing_done : (a : Answer) → befalls n old a ≡ [] → IsAtHost n old a new [] → IsOnPath n c new down up → LeftBy a
  nothing_done a none is path = record { heard = []; is = is; moves = Still none refl path }

  sends_one : (port conn number : ℕ) (bytes : List ℕ) (b : Bool) → eqb port n ≡ b → Rule old s (Ok (answer.Sent port conn number bytes)) new
      → StaysOn n c (answer.Sent port conn number bytes) → LeftBy (answer.Sent port conn number bytes)
  sends_one port conn number bytes true here rule stays = record {
    heard = [];
    is = refl;
    moves =
        Sends number bytes
        (ap (λ (p : ℕ). answer.Sent p conn number bytes) (eqb-true port n here) ∙ ap (λ (d : ℕ). answer.Sent n d number bytes) (stays here))
        (if_some (port == n) (Sent bytes ∷ []) here) refl
        (sent_here n c old new s down up device orderly w port conn number bytes rule stays here);
  }
  sends_one port conn number bytes false other rule stays =
      nothing_done (answer.Sent port conn number bytes) (if_none (port == n) (Sent bytes ∷ []) other) refl
      (sent_elsewhere n c old new s down up device orderly w port conn number bytes rule stays other)

  took_as : (port conn number : ℕ) (bytes plain : List ℕ) (report : TakeReport) → port ≡ n → conn ≡ c → bytes ≡ marked plain n
      → answer.Took port conn number bytes report ≡ answer.Took n c number (marked plain n) report
  took_as port conn number bytes plain report at own marks =
      ap (λ (p : ℕ). answer.Took p conn number bytes report) at ∙ ap (λ (d : ℕ). answer.Took n d number bytes report) own
      ∙ ap (λ (b : List ℕ). answer.Took n c number b report) marks

  heard_as : (b : Bool) (bytes plain : List ℕ) → b ≡ true → bytes ≡ marked plain n
      → MatchBool b ((k : List ℕ) × (Sent plain ∷ [] ≡ Sent k ∷ []) × (bytes ≡ marked k n)) (Sent plain ∷ [] ≡ [])
  heard_as true bytes plain is marks = (plain, refl, marks)
  heard_as false bytes plain is marks = cc is

  unheard_as : (b : Bool) (bytes : List ℕ) (heard : List Happening) → b ≡ false → heard ≡ []
      → MatchBool b ((k : List ℕ) × (heard ≡ Sent k ∷ []) × (bytes ≡ marked k n)) (heard ≡ [])
  unheard_as true bytes heard is none = cc is
  unheard_as false bytes heard is none = none

  takes_one : (port conn number : ℕ) (bytes : List ℕ) (report : TakeReport) (b : Bool) → eqb port n ≡ b
      → Rule old s (Ok (answer.Took port conn number bytes report)) new → LeftBy (answer.Took port conn number bytes report)
  takes_one port conn number bytes report true here rule =
      let k : IsNextUp n c old new s down up device orderly w conn bytes =
      took_here n c old new s down up device orderly w port conn number bytes report rule here in
      record {
        heard = Sent k.plain ∷ [];
        is = heard_as (port == n) bytes k.plain here k.marks;
        moves = Takes number k.plain k.later report (took_as port conn number bytes k.plain report (eqb-true port n here) k.own k.marks) refl refl k.first k.path;
      }
  takes_one port conn number bytes report false other rule =
      nothing_done (answer.Took port conn number bytes report) refl (unheard_as (port == n) bytes [] other refl)
      (took_elsewhere n c old new s down up device orderly w port conn number bytes report rule other)

  gives_one : (f : Stamped) (b : Bool) → eqb (pm_port f) n ≡ b → Rule old s (Ok answer.Pushed) new → Starts f old new → LeftBy answer.Pushed
  gives_one f true here rule starts = record {
    heard = Received (marked f.bytes 0) ∷ [];
    is =
        sym
        (ap (λ (xs : List (List ℕ)). map (λ bytes. Received bytes) xs)
        (given_started n old new f starts ∙ if_true (pm_port f == n) (marked f.bytes 0 ∷ []) here));
    moves = Gives (marked f.bytes 0) refl refl refl (pushed_here n c old new s down up device orderly w f here rule starts);
  }
  gives_one f false other rule starts =
      nothing_done answer.Pushed refl
      (sym
      (ap (λ (xs : List (List ℕ)). map (λ bytes. Received bytes) xs)
      (given_started n old new f starts ∙ if_false (pm_port f == n) (marked f.bytes 0 ∷ []) other)))
      (pushed_elsewhere n c old new s down up device orderly w f other rule starts)

  disk_takes : (m : ℕ) (f : Stamped) (dropped : Bool) → Rule old s (Ok (answer.DiskTook m dropped)) new → Lands m f old new
      → LeftBy (answer.DiskTook m dropped)
  disk_takes m f dropped rule lands = by_port dropped (cases_eq n m) rule
    where
      by_port : (dropped : Bool) → (n ≡ m) ⊎ (n ≢ m) → Rule old s (Ok (answer.DiskTook m dropped)) new → LeftBy (answer.DiskTook m dropped)
      by_port true (inl same) rule =
          nothing_done (answer.DiskTook m true) refl refl
          (drops_here n c old new s down up device orderly w f (subst (λ (k : ℕ). Rule old s (Ok (answer.DiskTook k true)) new) (sym same) rule)
          (subst (λ (k : ℕ). Lands k f old new) (sym same) lands))
      by_port false (inl same) rule =
          let mine : Rule old s (Ok (answer.DiskTook n false)) new = subst (λ (k : ℕ). Rule old s (Ok (answer.DiskTook k false)) new) (sym same) rule in
          let its : Lands n f old new = subst (λ (k : ℕ). Lands k f old new) (sym same) lands in
          let k : IsNextDown n c old new s down up device orderly w f.bytes = lands_here n c old new s down up device orderly w f mine its in
          record {
            heard = [];
            is = refl;
            moves =
                Comes k.front k.back f.bytes (ap (λ (j : ℕ). answer.DiskTook j false) (sym same))
                (if_some (m == n) (map (λ frame. Received frame.bytes) (take 1 (on_down_link (slice_get old.devices n)))) (eq-eqb m n (sym same))
                ∙ ap (λ (xs : List Stamped). map (λ frame. Received frame.bytes) xs) (taken_first old new n f its)) refl k.is k.near k.far;
          }
      by_port true (inr other) rule =
          nothing_done (answer.DiskTook m true) refl refl (lands_elsewhere n c old new s down up device orderly w m f true other rule lands)
      by_port false (inr other) rule =
          nothing_done (answer.DiskTook m false)
          (if_none (m == n) (map (λ frame. Received frame.bytes) (take 1 (on_down_link (slice_get old.devices n)))) (ne_eqb m n (λ e. other (sym e)))) refl
          (lands_elsewhere n c old new s down up device orderly w m f false other rule lands)

  passes_one : (m : ℕ) → Rule old s (Ok (answer.Passed (passed.Down m))) new → LeftBy (answer.Passed (passed.Down m))
  passes_one m rule =
      let moves = rule_moves_down old s (answer.Passed (passed.Down m)) new orderly rule in
      let p : IsPassed old new m = passed_port old new s m rule in
      let goes : Goes m moves.0 old new = moves.1 in
      let same : p.frame ≡ moves.0 = first_same moves.0 p.frame new.downward.frames p.rest old.downward.frames goes.link p.link in
      let port : pm_port moves.0 ≡ m = ap pm_port (sym same) ∙ p.port in
      nothing_done (answer.Passed (passed.Down m)) refl refl (goes_case n c old new s down up device orderly w m moves.0 port rule goes)

  -- the frame goes to no device
  ends_one : (a : Answer) (f : Stamped) → Rule old s (Ok a) new → StaysOn n c a → taken_by n c a ≡ [] → sent_by n c a ≡ [] → befalls n old a ≡ []
      → IsAtHost n old a new [] → Ends f old new → LeftBy a
  ends_one a f rule stays untaken unsent none is ends =
      nothing_done a none is (gone_case n c old new s down up device orderly w a f rule stays untaken unsent ends.link (ap (falls_on c) (ends.falls n)))

pub paths_go_on : PathsGoOn
paths_go_on n c old new s (answer.Came port conn) down up device orderly rule stays w =
    nothing_done n c old new s down up device orderly w (answer.Came port conn) (if_none (port == n) (Plugged ∷ []) stays) refl
    (nothing n c old new s down up device orderly w (answer.Came port conn) rule stays refl refl
    (rests_on n c old new (rule_moves_down old s (answer.Came port conn) new orderly rule)))
paths_go_on n c old new s (answer.Presence m) down up device orderly rule stays w =
    nothing_done n c old new s down up device orderly w (answer.Presence m) refl refl
    (loses_case n c old new s down up device orderly w m rule (rule_moves_down old s (answer.Presence m) new orderly rule))
paths_go_on n c old new s (answer.Sent port conn number bytes) down up device orderly rule stays w =
    sends_one n c old new s down up device orderly w port conn number bytes (port == n) refl rule stays
paths_go_on n c old new s (answer.DiskTook m dropped) down up device orderly rule stays w =
    let moves = rule_moves_down old s (answer.DiskTook m dropped) new orderly rule in
    disk_takes n c old new s down up device orderly w m moves.0 dropped rule moves.1
paths_go_on n c old new s (answer.Passed (passed.Down m)) down up device orderly rule stays w =
    passes_one n c old new s down up device orderly w m rule
paths_go_on n c old new s (answer.Passed passed.Control) down up device orderly rule stays w =
    let moves = rule_moves_down old s (answer.Passed passed.Control) new orderly rule in
    ends_one n c old new s down up device orderly w (answer.Passed passed.Control) moves.0 rule tt refl refl refl refl moves.1
paths_go_on n c old new s (answer.Passed passed.Dropped) down up device orderly rule stays w =
    let moves = rule_moves_down old s (answer.Passed passed.Dropped) new orderly rule in
    ends_one n c old new s down up device orderly w (answer.Passed passed.Dropped) moves.0 rule tt refl refl refl refl moves.1
paths_go_on n c old new s (answer.Took port conn number bytes report) down up device orderly rule stays w =
    takes_one n c old new s down up device orderly w port conn number bytes report (port == n) refl rule
paths_go_on n c old new s answer.Pushed down up device orderly rule stays w =
    let moves = rule_moves_down old s answer.Pushed new orderly rule in
    gives_one n c old new s down up device orderly w moves.0 (pm_port moves.0 == n) refl rule moves.1
paths_go_on n c old new s a down up device orderly rule stays w =
    nothing_done n c old new s down up device orderly w a refl refl
    (nothing n c old new s down up device orderly w a rule stays refl refl (rests_on n c old new (rule_moves_down old s a new orderly rule)))

pub dropped_never_comes : DroppedNeverComes
dropped_never_comes n c now down up w =
    record { above = w.above; alone = w.alone; kept = w.kept; only = w.only; below = among_all (descending_on n c now) }
