-- For `commands_are_meant`. For whom commands are meant, in each step: what was identified stays so while requests of
-- its device wait or are issued.
use Rattle.std.proofs.Common.{◌≡◌, ℕ, ◌<◌, ◌==◌, Bool, true, false, List, [], ◌∷◌, ◌++◌, Option, Some, Ok, refl, sym, ap, subst, ◌∙◌, inl, inr}
use Rattle.std.proofs.lemmas.{Bool.{and_from, cases_Bool, eq-eqb, false≢true, true≢false, true_from_ne_false}, Option.same_Some}
use Rattle.fis_view.specs.Frames.{Stamped}
use Rattle.hba_driver.specs.{declared.{plan.Device.TheVariants.Ready, slot.Phase.TheVariants.Waits}, Drivers.{Entry, device_at, rephased}}
use Rattle.hba_driver.specs.{Known.is_request, Tended.IsLiveAt, Between.{IsAsking, is_trusted}}
use Rattle.multiplier.specs.State.{falling, pm_port}
use Rattle.pm_world.specs.{Cleared.is_up_from, Downward.{falling_to, fell_to, pushed_by}, Places.Places, Rules.Rule, Stale.{identified_by, is_clear}}
use Rattle.pm_world.specs.{Stale.{latest, orders_clear}, declared.step.{Step.Step, Answer.Answer}}
use Rattle.pm_world.specs.declared.step.Step.TheVariants as step
use Rattle.pm_world.specs.declared.step.Answer.TheVariants as answer
use Rattle.pm_world.proofs.ports.{DownLemmas.{DownChange, Gone, IsFallen, Put, Quiet, down_change, falls_keep}, EachLemmas.{Each, Nothing, each_map}}
use Rattle.pm_world.proofs.{ports.EachLemmas.{each_more, some_or_none}, meant.IdentifiedLemmas.{is_request_to, known_after, known_with, push_step}}
use Rattle.pm_world.proofs.{ports.KeepingLemmas.{IsPassed, keeps_one, passes_open}, meant.LiveSteps.{Before, IsOwn, LiveFrom, New, TakesAt}}
use Rattle.pm_world.proofs.meant.{LiveSteps.{live_step, own_pushed}, StaleLemmas.{Holds, IsComing, IsRisen, IsServed, known_cleared, known_is}}
use Rattle.pm_world.proofs.{meant.StaleLemmas.{request_known, same_request}, ports.UpLemmas.{Left, Rose, Same, UpChange, up_change}}

-- ## What is known

-- a FIS on the host's link, if it is of port n, is of connection c
abbrev pub IsOf : (n c : ℕ) → Stamped → Type 0
IsOf n c f = f.stamp.port ≡ n → f.stamp.conn ≡ c

-- those of port n are all of one connection
abbrev pub AreOne : ℕ → List Stamped → Type 0
AreOne n [] = Prim.Unit {0}
AreOne n (f ∷ frames) = (f.stamp.port ≡ n → Each (IsOf n f.stamp.conn) frames) × AreOne n frames

-- a command fell to the connection for which it is meant
pub record Fell (M : Stamped → Option ℕ → Type 0) (f : Stamped) : Type 0 where
  pub sent : Stamped
  pub is : f ≡ falling f.stamp.conn sent
  pub meant : M sent (Some f.stamp.conn)

-- What is told of requests and of frames, with the last connection on which IDENTIFY data had come
-- when the request was submitted.
pub record Means (n : ℕ) (known : Bool) (last : Option ℕ) (S : Entry → Option ℕ → Type 0) (M : Stamped → Option ℕ → Type 0) (now : Places) : Type 0 where
  pub one : AreOne n now.upward.frames
  pub same : known ≡ true → (c : ℕ) → last ≡ Some c → Each (IsOf n c) now.upward.frames
  pub live : (slot : ℕ) (e : Entry) → IsLiveAt n slot now.host.driver.entries e → (known ≡ true) × S (rephased Waits e) last
  pub link : Each (λ f. is_request_to n f ≡ true → known ≡ true → M f last) now.downward.frames
  pub falls : Each (λ f. is_request f.bytes ≡ true → Fell M f) (falling_to n now)

one_more : (n : ℕ) (frames : List Stamped) (f : Stamped) → AreOne n frames → (f.stamp.port ≡ n → Each (λ (g : Stamped). g.stamp.port ≡ n → g.stamp.conn ≡ f.stamp.conn) frames) → AreOne n (frames ++ f ∷ [])
one_more n [] f one h = (λ here. tt, tt)
one_more n (g ∷ frames) f one h = (
  λ here. each_more (IsOf n g.stamp.conn) frames f (one.0 here) (λ of. sym ((h of).0 here)),
  one_more n frames f one.1 (λ of. (h of).1),
)

pub latest_then : (last : Option ℕ) (xs ys : List ℕ) → latest last (xs ++ ys) ≡ latest (latest last xs) ys
latest_then last [] ys = refl
latest_then last (x ∷ xs) ys = latest_then (Some x) xs ys

-- ## A step

module _ (n : ℕ) (below : n < 15) (known unsent : Bool) (last : Option ℕ) (old : Places) (s : Step) (a : Answer) (new : Places) (rule : Rule old s (Ok a) new)
    (h : Holds n known unsent last old) (served : IsServed n known unsent old s a new)
    (quiet : IsComing n unsent old → (fell_to n old s a new ≡ []) × (is_up_from n s a ≡ false))
    (asking : IsAsking n known old.host)
    (S T : Entry → Option ℕ → Type 0) (M N : Stamped → Option ℕ → Type 0) (m : Means n known last S M old)
    (on_submit : (e : Entry) (l : Option ℕ) → S e l → T e l) (on_sent : (f : Stamped) (l : Option ℕ) → M f l → N f l)
    (takes : (e : Entry) → TakesAt n s a e → T e last)
    (sends : (f : Stamped) → s ≡ step.HostPush → a ≡ answer.Pushed → pushed_by old s a new ≡ f ∷ [] → (own : IsOwn n old.host f) → S (rephased Waits own.is.entry) last → N f last) where
  abbrev ids : List ℕ
  ids = identified_by n old s a new

  abbrev known_now : Bool
  known_now = known_after n known old s a new

  abbrev last_now : Option ℕ
  last_now = latest last ids

  up : UpChange n old s a new
  up = up_change n old new below h.orderly s a rule

  down : DownChange n old s a new
  down = down_change n old s new h.orderly a rule

  -- if it is known after the step
  unordered : known_now ≡ true → known_with known ids ≡ true
  unordered e = elim (cases_Bool (orders_clear n old a)) [
    | inl clears ↦ absurd (true≢false (sym e ∙ known_cleared n below known unsent last old s a new rule h served quiet clears))
    | inr idle ↦ sym (known_is n below known unsent last old s a new rule h served quiet idle) ∙ e
  ]

  plain_known : ids ≡ [] → known_with known ids ≡ true → known ≡ true
  plain_known none e = sym (ap (known_with known) none) ∙ e

  plain_last : ids ≡ [] → last_now ≡ last
  plain_last none = ap (latest last) none

  -- what passes up keeps to the connection that is known
  passed_as : known ≡ true → (c : ℕ) → last ≡ Some c → (f : Stamped) → IsPassed n old.multiplier f → f.stamp.conn ≡ c
  passed_as is c e f p =
      let was = h.came is in
      keeps_one n was.0 f.stamp.conn old.multiplier h.true_is was.2 p.opens p.there ∙ same_Some was.0 c (sym was.1 ∙ e)

  -- the last connection stays while the device is known
  stays_last : known ≡ true → last_now ≡ last
  stays_last is = by_up up
    where
      by_up : UpChange n old s a new → last_now ≡ last
      by_up (Same link none) = plain_last none
      by_up (Rose f link none passes other idle) = plain_last none
      by_up (Left f link told idle) = elim told.is [
        | inl none ↦ plain_last none
        | inr one ↦
            let was = h.came is in
            let all = subst (Each (IsOf n was.0)) link (m.same is was.0 was.1) in
            ap (latest last) one.0 ∙ ap (λ (k : ℕ). Some k) (all.0 one.1) ∙ sym was.1
      ]

  -- ---- on the way up

  one_now : AreOne n new.upward.frames
  one_now = by_up up
    where
      by_up : UpChange n old s a new → AreOne n new.upward.frames
      by_up (Same link none) = subst (AreOne n) (sym link) m.one
      by_up (Rose f link none passes other idle) =
          subst (AreOne n) (sym link) (one_more n old.upward.frames f m.one (λ here.
          each_map (IsRisen n old) (λ (g : Stamped). g.stamp.port ≡ n → g.stamp.conn ≡ f.stamp.conn) old.upward.frames (λ g risen of.
          let p = passes here in
          sym (keeps_one n g.stamp.conn f.stamp.conn old.multiplier h.true_is (risen of).0 p.opens p.there)) h.up))
      by_up (Left f link told idle) = (subst (AreOne n) link m.one).1

  same_now : known_now ≡ true → (c : ℕ) → last_now ≡ Some c → Each (IsOf n c) new.upward.frames
  same_now e c is = by_up up
    where
      before : ids ≡ [] → Each (IsOf n c) old.upward.frames
      before none = m.same (plain_known none (unordered e)) c (sym (plain_last none) ∙ is)

      by_up : UpChange n old s a new → Each (IsOf n c) new.upward.frames
      by_up (Same link none) = subst (Each (IsOf n c)) (sym link) (before none)
      by_up (Rose f link none passes other idle) =
          subst (Each (IsOf n c)) (sym link) (each_more (IsOf n c) old.upward.frames f (before none) (λ here.
          passed_as (plain_known none (unordered e)) c (sym (plain_last none) ∙ is) f (passes here)))
      by_up (Left f link told idle) = elim told.is [
        | inl none ↦ (subst (Each (IsOf n c)) link (before none)).1
        | inr one ↦
            let to : f.stamp.conn ≡ c = same_Some f.stamp.conn c (sym (ap (latest last) one.0) ∙ is) in
            subst (λ (k : ℕ). Each (IsOf n k) new.upward.frames) to ((subst (AreOne n) link m.one).0 one.1)
      ]

  -- ---- requests

  -- a device that is ready is known
  known_ready : device_at old.host.driver.plan n ≡ Ready → known ≡ true
  known_ready ready = true_from_ne_false known (λ none. false≢true (sym (asking.unknown none).driver.plan.device ∙ ap is_trusted ready))

  with_known : (k : Bool) (xs : List ℕ) → k ≡ true → known_with k xs ≡ true
  with_known k [] e = e
  with_known k (x ∷ xs) e = refl

  known_on : orders_clear n old a ≡ false → known ≡ true → known_now ≡ true
  known_on idle is = known_is n below known unsent last old s a new rule h served quiet idle ∙ with_known known ids is

  live_now : (slot : ℕ) (e : Entry) → IsLiveAt n slot new.host.driver.entries e → (known_now ≡ true) × T (rephased Waits e) last_now
  live_now slot e live = by_from (live_step n slot old new e live s a rule)
    where
      by_from : LiveFrom n slot old s a e → (known_now ≡ true) × T (rephased Waits e) last_now
      by_from (Before was idle) =
          let it = m.live slot was.was was.live in (
            known_on idle it.0,
            subst (T (rephased Waits e)) (sym (stays_last it.0)) (subst (λ (x : Entry). T x last) was.same (on_submit (rephased Waits was.was) last it.1)),
          )
      by_from (New taken ready idle) =
          let is : known ≡ true = known_ready ready in (known_on idle is, subst (T (rephased Waits e)) (sym (stays_last is)) (takes (rephased Waits e) taken))

  -- ---- on the host's link

  abbrev OnLink : Stamped → Type 0
  OnLink f = is_request_to n f ≡ true → known_now ≡ true → N f last_now

  -- when IDENTIFY data come, no command of a request is on the link
  none_there : known ≡ false → known_now ≡ true → Nothing (is_request_to n) old.downward.frames
  none_there is e = by_up up
    where
      unknown : ids ≡ [] → ⊥
      unknown none = true≢false (sym (plain_known none (unordered e)) ∙ is)

      uncoming : (f : Stamped) → old.upward.frames ≡ f ∷ new.upward.frames → f.stamp.port ≡ n → IsComing n unsent old → ⊥
      uncoming f link here coming = true≢false (sym (eq-eqb f.stamp.port n here) ∙ (subst (Each (λ (g : Stamped). (g.stamp.port == n) ≡ false)) link (h.away coming)).0)

      by_unsent : (f : Stamped) → old.upward.frames ≡ f ∷ new.upward.frames → f.stamp.port ≡ n → (b : Bool) → unsent ≡ b → Nothing (is_request_to n) old.downward.frames
      by_unsent f link here true u = absurd (uncoming f link here (inl u))
      by_unsent f link here false u = elim (some_or_none (is_clear n) old.downward.frames) [
        | inl some ↦ absurd (uncoming f link here (inr some))
        | inr none ↦ h.asked is u none
      ]

      by_up : UpChange n old s a new → Nothing (is_request_to n) old.downward.frames
      by_up (Same link none) = absurd (unknown none)
      by_up (Rose f link none passes other idle) = absurd (unknown none)
      by_up (Left f link told idle) = elim told.is [
        | inl none ↦ absurd (unknown none)
        | inr one ↦ by_unsent f link one.1 unsent refl
      ]

  link_on : Each OnLink old.downward.frames
  link_on = elim (cases_Bool known) [
    | inl is ↦
        each_map (λ (f : Stamped). is_request_to n f ≡ true → known ≡ true → M f last) OnLink old.downward.frames
        (λ f was asks e. subst (N f) (sym (stays_last is)) (on_sent f last (was asks is))) m.link
    | inr is ↦ elim (cases_Bool known_now) [
      | inl e ↦ each_map (λ (f : Stamped). is_request_to n f ≡ false) OnLink old.downward.frames (λ f none asks e. absurd (true≢false (sym asks ∙ none))) (none_there is e)
      | inr never ↦
          each_map (λ (f : Stamped). is_request_to n f ≡ true → known ≡ true → M f last) OnLink old.downward.frames
          (λ f was asks e. absurd (true≢false (sym e ∙ never))) m.link
    ]
  ]

  -- what the host puts on it
  put_there : (f : Stamped) → pushed_by old s a new ≡ f ∷ [] → ids ≡ [] → OnLink f
  put_there f one none asks e = subst (N f) (sym (plain_last none)) (by_answer a rule refl one)
    where
      by_answer : (b : Answer) → Rule old s (Ok b) new → a ≡ b → pushed_by old s b new ≡ f ∷ [] → N f last
      by_answer answer.Pushed is same one_is =
          let at : s ≡ step.HostPush = push_step old s new is in
          let own : IsOwn n old.host f =
          own_pushed n below known old new asking f asks (subst (λ (t : Step). Rule old t (Ok answer.Pushed) new) at is) one_is in
          sends f at same one own (m.live own.is.slot own.is.entry own.live).1
      by_answer b is same one_is = let wrong : [] ≡ f ∷ [] = one_is in absurd (cc)

  link_now : Each OnLink new.downward.frames
  link_now = by_down down
    where
      by_down : DownChange n old s a new → Each OnLink new.downward.frames
      by_down (Quiet link none uncleared on) = subst (Each OnLink) (sym link) link_on
      by_down (Put f link one uncleared falls idle none) = subst (Each OnLink) (sym link) (each_more OnLink old.downward.frames f link_on (put_there f one none))
      by_down (Gone f link none clears falls idle ids_none) = (subst (Each OnLink) link link_on).1

  -- ---- on the way to the device

  abbrev OnWay : Stamped → Type 0
  OnWay f = is_request f.bytes ≡ true → Fell N f

  falls_on : Each OnWay (falling_to n old)
  falls_on =
      each_map (λ (f : Stamped). is_request f.bytes ≡ true → Fell M f) OnWay (falling_to n old)
      (λ f was asks.
      let it = was asks in record { sent = it.sent; is = it.is; meant = on_sent it.sent (Some f.stamp.conn) it.meant }) m.falls

  fell_now : (f : Stamped) → old.downward.frames ≡ f ∷ new.downward.frames → (fallen : IsFallen n f old s a new) → OnWay (falling fallen.conn f)
  fell_now f link fallen asks =
      let request : is_request_to n f ≡ true = and_from (pm_port f == n) (is_request f.bytes) (eq-eqb (pm_port f) n fallen.port) (sym (same_request f.bytes) ∙ asks) in
      let is : known ≡ true = request_known n below known unsent last old s a new rule h served quiet f link fallen request in
      let was = h.came is in
      let opens = passes_open n old.multiplier fallen.conn fallen.passes in
      let to : fallen.conn ≡ was.0 = keeps_one n was.0 fallen.conn old.multiplier h.true_is was.2 opens.0 opens.1 in
      let first : M f last = (subst (Each (λ (g : Stamped). is_request_to n g ≡ true → known ≡ true → M g last)) link m.link).0 request is in
      record {
        sent = f;
        is = refl;
        meant = subst (N f) (was.1 ∙ ap (λ (k : ℕ). Some k) (sym to)) (on_sent f last first);
      }

  falls_now : Each OnWay (falling_to n new)
  falls_now = by_down down
    where
      by_down : DownChange n old s a new → Each OnWay (falling_to n new)
      by_down (Quiet link none uncleared on) = falls_keep OnWay n old new on falls_on
      by_down (Put f link one uncleared falls idle none) = subst (Each OnWay) (sym falls) falls_on
      by_down (Gone f link none clears (inl same) idle ids_none) = subst (Each OnWay) (sym same) falls_on
      by_down (Gone f link none clears (inr fallen) idle ids_none) =
          subst (Each OnWay) (sym fallen.here) (each_more OnWay (falling_to n old) (falling fallen.conn f) falls_on (fell_now f link fallen))

  pub means_now : Means n known_now last_now T N new
  means_now = record { one = one_now; same = same_now; live = live_now; link = link_now; falls = falls_now }
