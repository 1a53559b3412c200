-- For `ordered_is_not_stale`. No stale command: what is known of a port, of its connections and of what is on its way
-- to it, in each step and so over a run.
use Rattle.std.proofs.Common.{◌≡◌, ◌⊎◌, ℕ, ◌<◌, ◌≤◌, ◌==◌, ◌&&◌, Bool, true, false, not, List, [], ◌∷◌, ◌++◌, length, take, Option, Some, None, Ok}
use Rattle.std.proofs.{Common.{refl, sym, ap, subst, ◌∙◌, inl, inr, arith}, lemmas.Bool.{cases_Bool, cases_eq, false≢true, eq-eqb, eqb-true}}
use Rattle.std.proofs.lemmas.{Bool.{and_parts, and_from, not-false, true≢false, false_from_ne_true, true_from_ne_false}, Option.same_Some}
use Rattle.std.proofs.lemmas.Nat.Bits.{and_pow, bit_at-lt}
use Rattle.std.specs.{Prelude.{if◌then◌else◌, option_to_list, slice_get, bit_and, ◌*◌, ◌^◌}, List.list_any, Int.bit_at}
use Rattle.fis_view.specs.{Frames.{Stamped, marked}, Table.{C, Command, Count, Features, H2d, field}}
use Rattle.fis_view.proofs.Door.{is_marked_from}
use Rattle.slots.specs.{Slots.match_some, declared.work.Kind.{Kind, TheVariants.Control}}
use Rattle.hba_commands.specs.Requests.{kind_of, kind_of_command, request_in}
use Rattle.hba_driver.specs.{declared.mode.Mode.TheVariants.Switching, Known.{is_asked, is_request}}
use Rattle.multiplier.specs.State.{falling, pm_port, port_at}
use Rattle.pm_registers.specs.{Bits.shares, Port.bit_x}
use Rattle.pm_world.specs.{Attached.Attached, Cleared.{PassesNone, is_cleared, is_up_from}, Downward.{falling_to, fell_to, on_down_link, pushed_by}}
use Rattle.pm_world.specs.{Places.{IsOrderly, Place, Places, is_config, new_world}, Rules.{DiskTakeRule, Rule, Run}, declared.step.Config.Config}
use Rattle.pm_world.specs.{declared.step.{Step.Step, Answer.Answer}, Stale.{AreOn, InOrder, IsInOrder, NoneStale, Waits, OrderedIsNotStale}}
use Rattle.pm_world.specs.Stale.{commanded_by, connection, identified_by, is_clear, is_from, latest, orders_clear, unsent_after}
use Rattle.pm_world.proofs.{cleared.Cleared.{HasX, rule_goes, run_waits}, steps.{Openings.{nothing_falls, port_opening}, Orderly.opening_orderly}}
use Rattle.pm_world.proofs.{steps.Orderly.orderly_after, upward.Recorded.{IsLed, led_last, opening_led, records_last, rule_records}}
use Rattle.pm_world.proofs.{steps.Steps.at_device, ports.EachLemmas.{Anything, Each, Nothing, any_one, each_front, each_last, each_map, each_more}}
use Rattle.pm_world.proofs.ports.{EachLemmas.{none_of, not_both, some_more, some_or_none}, KeepingLemmas.{IsPassed, IsTrue, KeepsTo, keeps_after}}
use Rattle.pm_world.proofs.ports.{KeepingLemmas.{keeps_from, keeps_one, opening_true, passes_open, true_after}, DownLemmas.{DownChange, Gone}}
use Rattle.pm_world.proofs.{ports.DownLemmas.{IsFallen, Put, Quiet, any_first, down_change, falls_keep}, meant.IdentifiedLemmas.AllIdentified}
use Rattle.pm_world.proofs.{meant.IdentifiedLemmas.{all_identified, is_request_to, known_after, known_with}, ports.UpLemmas.{Left, Rose, Same}}
use Rattle.pm_world.proofs.ports.UpLemmas.{UpChange, took_step, up_change}
use Rattle.pm_world.specs.declared.step.Answer.TheVariants as answer
use Rattle.pm_world.proofs.steps.Orderly as world_orderly

-- ## What is known

-- what the host keeps to in a step, and that commands of requests go out only if IDENTIFY data were
-- accepted
pub record IsServed (n : ℕ) (known unsent : Bool) (old : Places) (s : Step) (a : Answer) (new : Places) : Type 0 where
  pub order : IsInOrder n unsent old s a new
  pub identified : list_any (is_request_to n) (pushed_by old s a new) ≡ true → known ≡ true

-- the last connection that came to port n, as the multiplier knows it
abbrev pub last_at : ℕ → Places → ℕ
last_at n now = (port_at now.multiplier n).last

-- what it knows of port n's connections
abbrev pub seen_at : ℕ → Places → Option ℕ × ℕ × ℕ
seen_at n now = world_orderly.known (port_at now.multiplier n)

-- a FIS on the host's link, if it is of port n: the port keeps to the connection of the FIS, and that
-- connection came
abbrev pub IsRisen : ℕ → Places → Stamped → Type 0
IsRisen n now f = f.stamp.port ≡ n → KeepsTo n f.stamp.conn now.multiplier × (f.stamp.conn ≤ last_at n now)

-- no FIS of port n on the host's link is of an earlier connection than c
abbrev pub IsLater : (n c : ℕ) → Stamped → Type 0
IsLater n c f = f.stamp.port ≡ n → c ≤ f.stamp.conn

-- a FIS on its way to the device, if it is the command of a request: IDENTIFY data came last on its connection or a later one
pub record IsFor (n : ℕ) (last : Option ℕ) (now : Places) (f : Stamped) : Type 0 where
  pub conn : ℕ
  pub came : last ≡ Some conn
  pub after : f.stamp.conn ≤ conn
  pub later : Each (IsLater n f.stamp.conn) now.upward.frames
  pub below : f.stamp.conn ≤ last_at n now

abbrev pub Falls : ℕ → Option ℕ → Places → Stamped → Type 0
Falls n last now f = is_request f.bytes ≡ true → IsFor n last now f

-- after a FIS that clears port n comes no other such FIS, and no command of a request to the port
abbrev pub IsBehind : ℕ → Stamped → Type 0
IsBehind n f = (is_clear n f ≡ false) × (is_request_to n f ≡ false)

abbrev pub Line : ℕ → List Stamped → Type 0
Line n [] = Prim.Unit {0}
Line n (f ∷ frames) = (is_clear n f ≡ true → Each (IsBehind n) frames) × Line n frames

-- the port is to be cleared
abbrev pub IsComing : ℕ → Bool → Places → Type 0
IsComing n unsent now = (unsent ≡ true) ⊎ Anything (is_clear n) now.downward.frames

pub record Holds (n : ℕ) (known unsent : Bool) (last : Option ℕ) (now : Places) : Type 0 where
  pub orderly : IsOrderly now
  pub true_is : IsTrue n now.multiplier
  pub led : IsLed (slice_get now.devices n) (seen_at n now)
  -- the connection on which IDENTIFY data came is the one to which the port keeps
  pub came : known ≡ true → (c : ℕ) × (last ≡ Some c) × KeepsTo n c now.multiplier
  pub last_came : (c : ℕ) → last ≡ Some c → c ≤ last_at n now
  pub up : Each (IsRisen n now) now.upward.frames
  pub line : Line n now.downward.frames
  pub unsent_none : unsent ≡ true → Nothing (is_clear n) now.downward.frames
  -- commands of requests are for the connection that is known
  pub asked : known ≡ false → unsent ≡ false → Nothing (is_clear n) now.downward.frames → Nothing (is_request_to n) now.downward.frames
  pub falls : Each (Falls n last now) (falling_to n now)
  -- while the port is to be cleared nothing of it is known, and nothing of it is on its way up
  pub unknown : IsComing n unsent now → known ≡ false
  pub away : IsComing n unsent now → Each (λ f. (f.stamp.port == n) ≡ false) now.upward.frames

-- ## Requests

-- the mark of a FIS does not affect whether it is the command of a request
pub same_request : (bytes : List ℕ) → is_request (marked bytes 0) ≡ is_request bytes
same_request (x ∷ y ∷ bytes) =
    let m = is_marked_from (x ∷ y ∷ bytes) 0 (omega arith) (omega arith) in
    let c = m.fields H2d C (λ wrong. absurd (cc)) in
    let command = m.fields H2d Command (λ wrong. absurd (cc)) in
    let features = m.fields H2d Features (λ wrong. absurd (cc)) in
    let count = m.fields H2d Count (λ wrong. absurd (cc)) in
    by_type (λ request. is_asked (kind_of request)) (x == 0x27) (request_in (marked (x ∷ y ∷ bytes) 0)) (request_in (x ∷ y ∷ bytes)) (ap (λ (k : ℕ). is_asked (kind_by (k == 1) (field H2d Command (marked (x ∷ y ∷ bytes) 0)) (field H2d Features (marked (x ∷ y ∷ bytes) 0)) (field H2d Count (marked (x ∷ y ∷ bytes) 0)))) c
    ∙ ap (λ (k : ℕ). is_asked (kind_by (field H2d C (x ∷ y ∷ bytes) == 1) k (field H2d Features (marked (x ∷ y ∷ bytes) 0)) (field H2d Count (marked (x ∷ y ∷ bytes) 0)))) command
    ∙ ap (λ (k : ℕ). is_asked (kind_by (field H2d C (x ∷ y ∷ bytes) == 1) (field H2d Command (x ∷ y ∷ bytes)) k (field H2d Count (marked (x ∷ y ∷ bytes) 0)))) features
    ∙ ap (λ (k : ℕ). is_asked (kind_by (field H2d C (x ∷ y ∷ bytes) == 1) (field H2d Command (x ∷ y ∷ bytes)) (field H2d Features (x ∷ y ∷ bytes)) k)) count)
  where
    kind_by : Bool → (command features count : ℕ) → Kind
    kind_by b command features count = if b then kind_of_command command features count else Control

    by_type : {X : Type 0} (asks : X → Bool) (b : Bool) (r q : X) → asks r ≡ asks q → match_some (if b then Some r else None) false asks ≡ match_some (if b then Some q else None) false asks
    by_type asks true r q e = e
    by_type asks false r q e = refl
same_request other = refl

-- ## The line of the host

line_more : (n : ℕ) (frames : List Stamped) (f : Stamped) → Line n frames → (Anything (is_clear n) frames → IsBehind n f) → Line n (frames ++ f ∷ [])
line_more n [] f line behind = (λ clears. tt, tt)
line_more n (g ∷ frames) f line behind = (
  λ clears. each_more (IsBehind n) frames f (line.0 clears) (behind (inl clears)),
  line_more n frames f line.1 (λ some. behind (inr some)),
)

pub false_known : (known : Bool) (ids : List ℕ) → known_with known ids ≡ false → known ≡ false
false_known known [] e = e
false_known known (c ∷ ids) e = absurd (cc)

-- ## A step

module _ (n : ℕ) (below : n < 15) (known unsent : Bool) (last : Option ℕ) (old : Places) (s : Step) (a : Answer) (new : Places) (rule : Rule old s (Ok a) new)
    (h : Holds n known unsent last old) (ordered : IsServed n known unsent old s a new)
    (quiet : IsComing n unsent old → (fell_to n old s a new ≡ []) × (is_up_from n s a ≡ false)) where
  abbrev ids : List ℕ
  ids = identified_by n old s a new

  abbrev known_now : Bool
  known_now = known_after n known old s a new

  abbrev unsent_now : Bool
  unsent_now = unsent_after n unsent old s a new

  abbrev last_now : Option ℕ
  last_now = latest last ids

  up : UpChange n old s a new
  up = up_change n old new below h.orderly s a rule

  down : DownChange n old s a new
  down = down_change n old s new h.orderly a rule

  orderly_now : IsOrderly new
  orderly_now = orderly_after old s a new h.orderly rule

  mono : last_at n old ≤ last_at n new
  mono = records_last n (slice_get old.devices n) (seen_at n old) a (slice_get new.devices n) (seen_at n new) (rule_records old s a new h.orderly rule n h.led)

  -- if the tick orders nothing
  pub known_is : orders_clear n old a ≡ false → known_now ≡ known_with known ids
  known_is e = ap (λ (b : Bool). if b then false else known_with known ids) e

  unsent_is : orders_clear n old a ≡ false → unsent_now ≡ (if list_any (is_clear n) (pushed_by old s a new) then false else unsent)
  unsent_is e = ap (λ (b : Bool). if b then true else if list_any (is_clear n) (pushed_by old s a new) then false else unsent) e

  unsent_same : orders_clear n old a ≡ false → pushed_by old s a new ≡ [] → unsent_now ≡ unsent
  unsent_same e none = unsent_is e ∙ ap (λ (l : List Stamped). if list_any (is_clear n) l then false else unsent) none

  -- and if it does
  pub known_cleared : orders_clear n old a ≡ true → known_now ≡ false
  known_cleared e = ap (λ (b : Bool). if b then false else known_with known ids) e

  unsent_cleared : orders_clear n old a ≡ true → unsent_now ≡ true
  unsent_cleared e = ap (λ (b : Bool). if b then true else if list_any (is_clear n) (pushed_by old s a new) then false else unsent) e

  -- the FIS that was on its way clears the port
  pub cleared_coming : is_cleared n old a ≡ true → IsComing n unsent old
  cleared_coming e = by_down down
    where
      by_down : DownChange n old s a new → IsComing n unsent old
      by_down (Quiet link none uncleared on) = absurd (true≢false (sym e ∙ uncleared))
      by_down (Put f link one uncleared falls idle _) = absurd (true≢false (sym e ∙ uncleared))
      by_down (Gone f link none clears falls idle _) = inr (subst (Anything (is_clear n)) (sym link) (inl (clears e)))

  -- what the port keeps to it goes on keeping to, unless the port is cleared
  keep : (c : ℕ) → (is_cleared n old a ≡ true → ⊥) → KeepsTo n c old.multiplier → KeepsTo n c new.multiplier
  keep c not keeps = keeps_after n old s a new rule c below h.true_is (false_from_ne_true (is_cleared n old a) not) keeps

  -- ---- what is known

  known_uncleared : known ≡ true → is_cleared n old a ≡ true → ⊥
  known_uncleared is cleared = true≢false (sym is ∙ h.unknown (cleared_coming cleared))

  came_same : ids ≡ [] → known_with known ids ≡ true → (c : ℕ) × (last_now ≡ Some c) × KeepsTo n c new.multiplier
  came_same none e =
      let is : known ≡ true = sym (ap (known_with known) none) ∙ e in
      let was = h.came is in
      (was.0, ap (latest last) none ∙ was.1, keep was.0 (known_uncleared is) was.2)

  came_now : known_now ≡ true → (c : ℕ) × (last_now ≡ Some c) × KeepsTo n c new.multiplier
  came_now e = elim (cases_Bool (orders_clear n old a)) [
    | inl clears ↦ absurd (true≢false (sym e ∙ known_cleared clears))
    | inr idle ↦ by_up (sym (known_is idle) ∙ e) up
  ]
    where
      by_up : known_with known ids ≡ true → UpChange n old s a new → (c : ℕ) × (last_now ≡ Some c) × KeepsTo n c new.multiplier
      by_up e (Same link none) = came_same none e
      by_up e (Rose f link none passes other idle) = came_same none e
      by_up e (Left f link told idle) = elim told.is [
        | inl none ↦ came_same none e
        | inr one ↦
            let first = subst (Each (IsRisen n old)) link h.up in
            let uncleared : is_cleared n old a ≡ true → ⊥ = λ cleared.
            let off = subst (Each (λ (g : Stamped). (g.stamp.port == n) ≡ false)) link (h.away (cleared_coming cleared)) in
            true≢false (sym (eq-eqb f.stamp.port n one.1) ∙ off.0) in
            (f.stamp.conn, ap (latest last) one.0, keep f.stamp.conn uncleared (first.0 one.1).0)
      ]

  last_came_now : (c : ℕ) → last_now ≡ Some c → c ≤ last_at n new
  last_came_now c e = by_up up
    where
      same : ids ≡ [] → c ≤ last_at n new
      same none =
          let was : c ≤ last_at n old = h.last_came c (sym (ap (latest last) none) ∙ e) in
          let more : last_at n old ≤ last_at n new = mono in
          omega (arith, was, more)

      by_up : UpChange n old s a new → c ≤ last_at n new
      by_up (Same link none) = same none
      by_up (Rose f link none passes other idle) = same none
      by_up (Left f link told idle) = elim told.is [
        | inl none ↦ same none
        | inr one ↦
            let is : f.stamp.conn ≡ c = same_Some f.stamp.conn c (sym (ap (latest last) one.0) ∙ e) in
            let first = subst (Each (IsRisen n old)) link h.up in
            let was : f.stamp.conn ≤ last_at n old = (first.0 one.1).1 in
            let more : last_at n old ≤ last_at n new = mono in
            omega (arith, is, was, more)
      ]

  -- ---- on the way up

  -- a frame that passed is of the last connection that came
  passed_last : (f : Stamped) → IsPassed n old.multiplier f → f.stamp.conn ≡ last_at n old
  passed_last f p = ((h.orderly.knows n).present f.stamp.conn p.there).0

  risen_on : Each (IsRisen n new) old.upward.frames
  risen_on = elim (cases_Bool (is_cleared n old a)) [
    | inl cleared ↦
        each_map (λ (f : Stamped). (f.stamp.port == n) ≡ false) (IsRisen n new) old.upward.frames
        (λ f off here. absurd (true≢false (sym (eq-eqb f.stamp.port n here) ∙ off))) (h.away (cleared_coming cleared))
    | inr none ↦
        each_map (IsRisen n old) (IsRisen n new) old.upward.frames
        (λ f was here.
        let facts = was here in
        let below_last : f.stamp.conn ≤ last_at n old = facts.1 in
        let more : last_at n old ≤ last_at n new = mono in
        (keeps_after n old s a new rule f.stamp.conn below h.true_is none facts.0, omega (arith, below_last, more))) h.up
  ]

  up_now : Each (IsRisen n new) new.upward.frames
  up_now = by_up up
    where
      by_up : UpChange n old s a new → Each (IsRisen n new) new.upward.frames
      by_up (Same link none) = subst (Each (IsRisen n new)) (sym link) risen_on
      by_up (Rose f link none passes other idle) =
          subst (Each (IsRisen n new)) (sym link) (each_more (IsRisen n new) old.upward.frames f risen_on (λ here.
          let p = passes here in
          let is : f.stamp.conn ≡ last_at n old = passed_last f p in
          let more : last_at n old ≤ last_at n new = mono in
          (keeps_from n old s a new rule f.stamp.conn below h.true_is p.there, omega (arith, is, more))))
      by_up (Left f link told idle) = (subst (Each (IsRisen n new)) link risen_on).1

  -- ---- the line

  pushes_is : (test : Stamped → Bool) (f : Stamped) → pushed_by old s a new ≡ f ∷ [] → list_any test (pushed_by old s a new) ≡ test f
  pushes_is test f one = ap (list_any test) one ∙ any_one test f

  line_now : Line n new.downward.frames
  line_now = by_down down
    where
      by_down : DownChange n old s a new → Line n new.downward.frames
      by_down (Quiet link none uncleared on) = subst (Line n) (sym link) h.line
      by_down (Put f link one uncleared falls idle none) =
          subst (Line n) (sym link) (line_more n old.downward.frames f h.line (λ some. (
            false_from_ne_true (is_clear n f) (λ clears.
                not_both (is_clear n) old.downward.frames some (h.unsent_none (ordered.order.once (pushes_is (is_clear n) f one ∙ clears)))),
            false_from_ne_true (is_request_to n f) (λ asks.
                true≢false (sym (ordered.identified (pushes_is (is_request_to n) f one ∙ asks)) ∙ h.unknown (inr some))),
          )))
      by_down (Gone f link none clears falls idle _) = (subst (Line n) link h.line).1

  unsent_none_now : unsent_now ≡ true → Nothing (is_clear n) new.downward.frames
  unsent_none_now e = by_down down
    where
      by_down : DownChange n old s a new → Nothing (is_clear n) new.downward.frames
      by_down (Quiet link none uncleared on) =
          subst (Nothing (is_clear n)) (sym link) (elim (cases_Bool (orders_clear n old a)) [
            | inl clears ↦ none_of (is_clear n) old.downward.frames (ordered.order.taken clears)
            | inr idle ↦ h.unsent_none (sym (unsent_same idle none) ∙ e)
          ])
      by_down (Put f link one uncleared falls idle none) = by_clear (is_clear n f) refl
        where
          by_clear : (b : Bool) → is_clear n f ≡ b → Nothing (is_clear n) new.downward.frames
          by_clear true is =
              let wrong : true ≡ false = sym e ∙ unsent_is idle ∙ ap (λ (b : Bool). if b then false else unsent) (pushes_is (is_clear n) f one ∙ is) in
              absurd (true≢false wrong)
          by_clear false is =
              let was : unsent ≡ true = sym (unsent_is idle ∙ ap (λ (b : Bool). if b then false else unsent) (pushes_is (is_clear n) f one ∙ is)) ∙ e in
              subst (Nothing (is_clear n)) (sym link) (each_more (λ (g : Stamped). is_clear n g ≡ false) old.downward.frames f (h.unsent_none was) is)
      by_down (Gone f link none clears falls idle _) = (subst (Nothing (is_clear n)) link (h.unsent_none (sym (unsent_same idle none) ∙ e))).1

  asked_now : known_now ≡ false → unsent_now ≡ false → Nothing (is_clear n) new.downward.frames → Nothing (is_request_to n) new.downward.frames
  asked_now e u c = elim (cases_Bool (orders_clear n old a)) [
    | inl clears ↦ absurd (true≢false (sym (unsent_cleared clears) ∙ u))
    | inr idle ↦ by_down (false_known known ids (sym (known_is idle) ∙ e)) idle down
  ]
    where
      by_down : known ≡ false → orders_clear n old a ≡ false → DownChange n old s a new → Nothing (is_request_to n) new.downward.frames
      by_down k idle (Quiet link none uncleared on) =
          subst (Nothing (is_request_to n)) (sym link) (h.asked k (sym (unsent_same idle none) ∙ u) (subst (Nothing (is_clear n)) link c))
      by_down k idle (Put f link one uncleared falls _ none) =
          let whole = subst (Nothing (is_clear n)) link c in
          let is : is_clear n f ≡ false = each_last (λ (g : Stamped). is_clear n g ≡ false) old.downward.frames f whole in
          let was : unsent ≡ false = sym (unsent_is idle ∙ ap (λ (b : Bool). if b then false else unsent) (pushes_is (is_clear n) f one ∙ is)) ∙ u in
          let rest = h.asked k was (each_front (λ (g : Stamped). is_clear n g ≡ false) old.downward.frames (f ∷ []) whole) in
          subst (Nothing (is_request_to n)) (sym link) (each_more (λ (g : Stamped). is_request_to n g ≡ false) old.downward.frames f rest
          (false_from_ne_true (is_request_to n f) (λ asks. true≢false (sym (ordered.identified (pushes_is (is_request_to n) f one ∙ asks)) ∙ k))))
      by_down k idle (Gone f link none clears falls _ _) =
          let was : unsent ≡ false = sym (unsent_same idle none) ∙ u in
          elim (cases_Bool (is_clear n f)) [
            | inl is ↦ each_map (IsBehind n) (λ (g : Stamped). is_request_to n g ≡ false) new.downward.frames (λ g b. b.1) ((subst (Line n) link h.line).0 is)
            | inr is ↦
                (subst (Nothing (is_request_to n)) link (h.asked k was (subst (Nothing (is_clear n)) (sym link) (is, c)))).1
          ]

  -- ---- what is to be cleared

  pub still : IsComing n unsent_now new → orders_clear n old a ≡ false → IsComing n unsent old × (is_cleared n old a ≡ false)
  still coming idle = by_down coming down
    where
      by_down : IsComing n unsent_now new → DownChange n old s a new → IsComing n unsent old × (is_cleared n old a ≡ false)
      by_down (inl u) (Quiet link none uncleared on) = (inl (sym (unsent_same idle none) ∙ u), uncleared)
      by_down (inr some) (Quiet link none uncleared on) = (inr (subst (Anything (is_clear n)) link some), uncleared)
      by_down (inl u) (Put f link one uncleared falls _ none) = (inl (by_clear (is_clear n f) refl), uncleared)
        where
          by_clear : (b : Bool) → is_clear n f ≡ b → unsent ≡ true
          by_clear true is = ordered.order.once (pushes_is (is_clear n) f one ∙ is)
          by_clear false is = sym (unsent_is idle ∙ ap (λ (b : Bool). if b then false else unsent) (pushes_is (is_clear n) f one ∙ is)) ∙ u
      by_down (inr some) (Put f link one uncleared falls _ none) = (
        elim (some_more (is_clear n) old.downward.frames f (subst (Anything (is_clear n)) link some)) [
          | inl was ↦ inr was
          | inr is ↦ inl (ordered.order.once (pushes_is (is_clear n) f one ∙ is))
        ],
        uncleared,
      )
      by_down (inl u) (Gone f link none clears falls _ _) =
          let was : unsent ≡ true = sym (unsent_same idle none) ∙ u in (
            inl was,
            false_from_ne_true (is_cleared n old a) (λ cleared.
                true≢false (sym (clears cleared) ∙ (subst (Nothing (is_clear n)) link (h.unsent_none was)).0)),
          )
      by_down (inr some) (Gone f link none clears falls _ _) = (
        inr (subst (Anything (is_clear n)) (sym link) (inr some)),
        false_from_ne_true (is_cleared n old a) (λ cleared.
            not_both (is_clear n) new.downward.frames some
            (each_map (IsBehind n) (λ (g : Stamped). is_clear n g ≡ false) new.downward.frames (λ g b. b.0) ((subst (Line n) link h.line).0 (clears cleared)))),
      )

  unknown_now : IsComing n unsent_now new → known_now ≡ false
  unknown_now coming = elim (cases_Bool (orders_clear n old a)) [
    | inl clears ↦ known_cleared clears
    | inr idle ↦ known_is idle ∙ by_up (still coming idle).0 up
  ]
    where
      by_up : IsComing n unsent old → UpChange n old s a new → known_with known ids ≡ false
      by_up was (Same link none) = ap (known_with known) none ∙ h.unknown was
      by_up was (Rose f link none passes other idle) = ap (known_with known) none ∙ h.unknown was
      by_up was (Left f link told idle) = elim told.is [
        | inl none ↦ ap (known_with known) none ∙ h.unknown was
        | inr one ↦ absurd (true≢false (sym (eq-eqb f.stamp.port n one.1) ∙ (subst (Each (λ (g : Stamped). (g.stamp.port == n) ≡ false)) link (h.away was)).0))
      ]

  away_now : IsComing n unsent_now new → Each (λ (f : Stamped). (f.stamp.port == n) ≡ false) new.upward.frames
  away_now coming = elim (cases_Bool (orders_clear n old a)) [
    | inl clears ↦ by_order clears up
    | inr idle ↦ by_up (still coming idle).0 up
  ]
    where
      by_order : orders_clear n old a ≡ true → UpChange n old s a new → Each (λ (f : Stamped). (f.stamp.port == n) ≡ false) new.upward.frames
      by_order clears (Same link none) = subst (Each (λ (f : Stamped). (f.stamp.port == n) ≡ false)) (sym link) (none_of (is_from n) old.upward.frames (ordered.order.away clears))
      by_order clears (Rose f link none passes other idle) = absurd (true≢false (sym clears ∙ idle))
      by_order clears (Left f link told idle) = absurd (true≢false (sym clears ∙ idle))

      by_up : IsComing n unsent old → UpChange n old s a new → Each (λ (f : Stamped). (f.stamp.port == n) ≡ false) new.upward.frames
      by_up was (Same link none) = subst (Each (λ (f : Stamped). (f.stamp.port == n) ≡ false)) (sym link) (h.away was)
      by_up was (Rose f link none passes other idle) =
          subst (Each (λ (f : Stamped). (f.stamp.port == n) ≡ false)) (sym link)
          (each_more (λ (f : Stamped). (f.stamp.port == n) ≡ false) old.upward.frames f (h.away was) (other (quiet was).1))
      by_up was (Left f link told idle) = (subst (Each (λ (g : Stamped). (g.stamp.port == n) ≡ false)) link (h.away was)).1

  -- ---- on the way down

  for_on : (f : Stamped) → IsFor n last old f → IsFor n last_now new f
  for_on f is = by_up up
    where
      more_below : f.stamp.conn ≤ last_at n new
      more_below =
          let was : f.stamp.conn ≤ last_at n old = is.below in
          let more : last_at n old ≤ last_at n new = mono in
          omega (arith, was, more)

      by_up : UpChange n old s a new → IsFor n last_now new f
      by_up (Same link none) = record {
        conn = is.conn;
        came = ap (latest last) none ∙ is.came;
        after = is.after;
        later = subst (Each (IsLater n f.stamp.conn)) (sym link) is.later;
        below = more_below;
      }
      by_up (Rose g link none passes other idle) = record {
        conn = is.conn;
        came = ap (latest last) none ∙ is.came;
        after = is.after;
        later = subst (Each (IsLater n f.stamp.conn)) (sym link) (each_more (IsLater n f.stamp.conn) old.upward.frames g is.later (λ here.
            let last_is : g.stamp.conn ≡ last_at n old = passed_last g (passes here) in
            let was : f.stamp.conn ≤ last_at n old = is.below in
            omega (arith, last_is, was)));
        below = more_below;
      }
      by_up (Left g link told idle) =
          let all = subst (Each (IsLater n f.stamp.conn)) link is.later in
          elim told.is [
            | inl none ↦ record { conn = is.conn; came = ap (latest last) none ∙ is.came; after = is.after; later = all.1; below = more_below }
            | inr one ↦ record { conn = g.stamp.conn; came = ap (latest last) one.0; after = all.0 one.1; later = all.1; below = more_below }
          ]

  -- a command of a request that passes its port is for the connection that is known
  pub request_known : (f : Stamped) → old.downward.frames ≡ f ∷ new.downward.frames → IsFallen n f old s a new → is_request_to n f ≡ true → known ≡ true
  request_known f link fallen asks = true_from_ne_false known (λ is. elim (some_or_none (is_clear n) old.downward.frames) [
    | inl some ↦ absurd (not_quiet (inr some))
    | inr none ↦ by_unsent is none unsent refl
  ])
    where
      not_quiet : IsComing n unsent old → ⊥
      not_quiet coming = let wrong : falling fallen.conn f ∷ [] ≡ [] = sym fallen.fell ∙ (quiet coming).0 in absurd (cc)

      by_unsent : known ≡ false → Nothing (is_clear n) old.downward.frames → (b : Bool) → unsent ≡ b → ⊥
      by_unsent is none true u = not_quiet (inl u)
      by_unsent is none false u = true≢false (sym asks ∙ (subst (Nothing (is_request_to n)) link (h.asked is u none)).0)

  fallen_for : (f : Stamped) → old.downward.frames ≡ f ∷ new.downward.frames → (fallen : IsFallen n f old s a new) → is_request (marked f.bytes 0) ≡ true → IsFor n last old (falling fallen.conn f)
  fallen_for f link fallen asks =
      let request : is_request_to n f ≡ true = and_from (pm_port f == n) (is_request f.bytes) (eq-eqb (pm_port f) n fallen.port) (sym (same_request f.bytes) ∙ asks) in
      let was = h.came (request_known f link fallen request) in
      let opens = passes_open n old.multiplier fallen.conn fallen.passes in
      let same : fallen.conn ≡ was.0 = keeps_one n was.0 fallen.conn old.multiplier h.true_is was.2 opens.0 opens.1 in
      let last_is : fallen.conn ≡ last_at n old = ((h.orderly.knows n).present fallen.conn opens.1).0 in
      record {
        conn = was.0;
        came = was.1;
        after = omega (arith, same);
        later = each_map (IsRisen n old) (IsLater n fallen.conn) old.upward.frames (λ g risen here.
            let one : fallen.conn ≡ g.stamp.conn = keeps_one n g.stamp.conn fallen.conn old.multiplier h.true_is (risen here).0 opens.0 opens.1 in
            omega (arith, one)) h.up;
        below = omega (arith, last_is);
      }

  falls_on : Each (Falls n last_now new) (falling_to n old)
  falls_on = each_map (Falls n last old) (Falls n last_now new) (falling_to n old) (λ f was asks. for_on f (was asks)) h.falls

  falls_now : Each (Falls n last_now new) (falling_to n new)
  falls_now = by_down down
    where
      by_down : DownChange n old s a new → Each (Falls n last_now new) (falling_to n new)
      by_down (Quiet link none uncleared on) = falls_keep (Falls n last_now new) n old new on falls_on
      by_down (Put f link one uncleared falls idle none) = subst (Each (Falls n last_now new)) (sym falls) falls_on
      by_down (Gone f link none clears (inl same) idle _) = subst (Each (Falls n last_now new)) (sym same) falls_on
      by_down (Gone f link none clears (inr fallen) idle _) =
          subst (Each (Falls n last_now new)) (sym fallen.here) (each_more (Falls n last_now new) (falling_to n old) (falling fallen.conn f) falls_on
          (λ asks. for_on (falling fallen.conn f) (fallen_for f link fallen asks)))

  pub holds_now : Holds n known_now unsent_now last_now new
  holds_now = record {
    orderly = orderly_now;
    true_is = true_after n old s a new rule h.true_is;
    led = (rule_records old s a new h.orderly rule n h.led).led;
    came = came_now;
    last_came = last_came_now;
    up = up_now;
    line = line_now;
    unsent_none = unsent_none_now;
    asked = asked_now;
    falls = falls_now;
    unknown = unknown_now;
    away = away_now;
  }

-- ## The command that a device takes

module _ (n : ℕ) (known unsent : Bool) (last : Option ℕ) (old : Places) (s : Step) (new : Places) (h : Holds n known unsent last old) where
  -- it stands first on the link of the device, which is plugged in as the connection of the command
  taken_on : (place : Place) (frame : Stamped) (rest : List Stamped) → slice_get old.devices n ≡ Some place → place.down.frames ≡ frame ∷ rest → frame.stamp.conn ≡ place.conn → is_request frame.bytes ≡ true
      → last ≡ Some (connection (slice_get old.devices n))
  taken_on place frame rest is link conn asks =
      let on_way : falling_to n old ≡ frame ∷ (rest ++ option_to_list (port_at old.multiplier n).down) =
      ap (λ o. on_down_link o ++ option_to_list (port_at old.multiplier n).down) is ∙ ap (λ (l : List Stamped). l ++ option_to_list (port_at old.multiplier n).down) link in
      let meant = (subst (Each (Falls n last old)) on_way h.falls).0 asks in
      let after : frame.stamp.conn ≤ meant.conn = meant.after in
      let came : meant.conn ≤ last_at n old = h.last_came meant.conn meant.came in
      let most : last_at n old ≤ place.conn = led_last place (seen_at n old) (subst (λ o. IsLed o (seen_at n old)) is h.led) in
      let same : meant.conn ≡ place.conn = omega (arith, after, came, most, conn) in
      meant.came ∙ ap (λ (k : ℕ). Some k) same ∙ ap (λ o. Some (connection o)) (sym is)

  taken : (port : ℕ) → Rule old s (Ok (answer.DiskTook port false)) new → AreOn last (commanded_by n old s (answer.DiskTook port false) new)
  taken port rule = by_port (port == n) refl
    where
      test : Bool
      test = list_any (λ (f : Stamped). is_request f.bytes) (take 1 (on_down_link (slice_get old.devices n)))

      by_place : port ≡ n → test ≡ true → last ≡ Some (connection (slice_get old.devices n))
      by_place here asks =
          let t = took_step old s port false new rule in
          let p = at_device old t.at (answer.DiskTook port false) new (DiskTakeRule t.at) (subst (λ (x : Step). Rule old x (Ok (answer.DiskTook port false)) new) t.is rule) in
          let at : t.at ≡ n = sym p.rule.0 ∙ here in
          let is : slice_get old.devices n ≡ Some p.place = subst (λ (k : ℕ). slice_get old.devices k ≡ Some p.place) at p.is in
          let frame : Stamped = p.rule.1.0 in
          let meant : (p.place.plugged && (frame.stamp.conn == p.place.conn)) ≡ true = not-false (p.place.plugged && (frame.stamp.conn == p.place.conn)) (sym p.rule.1.2) in
          let conn : frame.stamp.conn ≡ p.place.conn = eqb-true frame.stamp.conn p.place.conn (and_parts p.place.plugged (frame.stamp.conn == p.place.conn) meant).1 in
          let first : on_down_link (slice_get old.devices n) ≡ frame ∷ p.after.down.frames = ap on_down_link is ∙ p.rule.1.1 in
          taken_on p.place frame p.after.down.frames is p.rule.1.1 conn
          (sym (any_first (λ (f : Stamped). is_request f.bytes) (on_down_link (slice_get old.devices n)) frame p.after.down.frames first) ∙ asks)

      by_test : (b : Bool) → test ≡ b → port ≡ n → AreOn last (if true && b then connection (slice_get old.devices n) ∷ [] else [])
      by_test true asks here = (by_place here asks, tt)
      by_test false asks here = tt

      by_port : (b : Bool) → (port == n) ≡ b → AreOn last (if b && test then connection (slice_get old.devices n) ∷ [] else [])
      by_port true is = by_test test refl (eqb-true port n is)
      by_port false is = tt

  fits : (a : Answer) → Rule old s (Ok a) new → AreOn last (commanded_by n old s a new)
  fits (answer.DiskTook port false) rule = taken port rule
  fits a rule = tt

-- ## A run

-- a bit that is shared is set
x_set : (error : ℕ) → shares error bit_x ≡ true → HasX error
x_set error e = elim (cases_eq (bit_at error 26) 0) [
  | inl zero ↦
      let none : bit_and error bit_x ≡ 0 = and_pow error 26 ∙ ap (λ (b : ℕ). b * 2 ^ 26) zero in
      absurd (true≢false (sym e ∙ ap (λ (k : ℕ). not (k == 0)) none))
  | inr other ↦
      let small : bit_at error 26 < 2 = bit_at-lt error 26 in
      omega (arith, small, other)
]

uncleared : (n : ℕ) (old : Places) (a : Answer) → orders_clear n old a ≡ true → is_cleared n old a ≡ false
uncleared n old answer.Ticked e = refl
uncleared n old a e = absurd (false≢true e)

-- once the order is out the port passes nothing until it is cleared
pub waits_then : (n : ℕ) → n < 15 → (old : Places) (s : Step) (a : Answer) (mid : Places) → Rule old s (Ok a) mid → IsOrderly old → IsTrue n old.multiplier → orders_clear n old a ≡ true → Waits n old
    → (steps : List Step) (answers : List Answer) (new : Places) (run : Run mid steps answers new) → PassesNone n mid steps answers new run
waits_then n below old s a mid rule orderly is clears waits steps answers new run =
    let goes = rule_goes n old s a mid rule in
    run_waits n mid steps answers new run below (orderly_after old s a mid orderly rule)
    (record { shows = goes.shows is.shows; told = goes.waits (uncleared n old a clears) (λ opens there. x_set _ (waits opens there)) })

none_stale : (n : ℕ) (below : n < 15) (known unsent : Bool) (last : Option ℕ) (old : Places) (steps : List Step) (answers : List Answer) (new : Places) (run : Run old steps answers new)
    → Holds n known unsent last old → InOrder n unsent old steps answers new run → AllIdentified n known old steps answers new run → (IsComing n unsent old → PassesNone n old steps answers new run)
    → NoneStale n last old steps answers new run
none_stale n below known unsent last old [] answers new run h ordered identified quiet = tt
none_stale n below known unsent last old (s ∷ steps) [] new run h ordered identified quiet = tt
none_stale n below known unsent last old (s ∷ steps) (a ∷ answers) new run h ordered identified quiet =
    let served : IsServed n known unsent old s a run.0 = record { order = ordered.0; identified = identified.0 } in
    let first : IsComing n unsent old → (fell_to n old s a run.0 ≡ []) × (is_up_from n s a ≡ false) = λ coming. ((quiet coming).0, (quiet coming).1) in
    let next = holds_now n below known unsent last old s a run.0 run.1 h served first in
    let later : IsComing n (unsent_after n unsent old s a run.0) run.0 → PassesNone n run.0 steps answers new run.2 = λ coming. elim (cases_Bool (orders_clear n old a)) [
      | inl clears ↦ waits_then n below old s a run.0 run.1 h.orderly h.true_is clears (ordered.0.waits clears) steps answers new run.2
      | inr idle ↦ let was = still n below known unsent last old s a run.0 run.1 h served first coming idle in (quiet was.0).2 was.1
    ] in (
      fits n known unsent last old s run.0 h a run.1,
      none_stale n below (known_after n known old s a run.0) (unsent_after n unsent old s a run.0) (latest last (identified_by n old s a run.0)) run.0 steps answers new run.2 next ordered.1 identified.1 later,
    )

module _ (config : Config) (units : List Attached) (right : is_config config (length units) ≡ true) (n : ℕ) where
  pub opening_holds : Holds n false false None (new_world config units)
  opening_holds = record {
    orderly = opening_orderly Switching config units right;
    true_is = opening_true config units n;
    led = subst (IsLed (slice_get (new_world config units).devices n)) (sym (ap (λ p. world_orderly.known p) (port_opening config units n))) (opening_led config.capacity units n);
    came = λ e. absurd (cc);
    last_came = λ c e. absurd (cc);
    up = tt;
    line = tt;
    unsent_none = λ e. absurd (cc);
    asked = λ k u c. tt;
    falls = subst (Each (Falls n None (new_world config units))) (sym (nothing_falls Switching config units n)) tt;
    unknown = λ coming. refl;
    away = λ coming. tt;
  }

  pub none_coming : IsComing n false (new_world config units) → ⊥
  none_coming (inl u) = absurd (cc)
  none_coming (inr some) = some

pub ordered_is_not_stale : OrderedIsNotStale
ordered_is_not_stale config units right steps answers new run n below ordered =
    none_stale n below false false None (new_world config units) steps answers new run (opening_holds config units right n) ordered (all_identified config units right steps answers new run n below)
    (λ coming. absurd (none_coming config units right n coming))
