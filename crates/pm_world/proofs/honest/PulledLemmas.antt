-- For `disks_are_honest`. A unit that was unplugged: nothing is asked of it until its port passes a later connection.
use Rattle.std.proofs.Common.{◌≡◌, ◌≢◌, ◌==◌, ◌&&◌, ℕ, ◌+◌, ◌<◌, ◌≤◌, Bool, true, false, List, [], ◌∷◌, ◌++◌, append_assoc, map, refl, sym, ap, subst}
use Rattle.std.proofs.Common.{◌∙◌, inl, inr, Option, Some, None, Ok, arith}
use Rattle.std.specs.Prelude.{slice_get, slice_set, take, option_to_list, MatchOption, if◌then◌else◌, Result}
use Rattle.std.proofs.lemmas.{Bool.{and_parts, cases_eq, eq-eqb, eqb-true, false≢true, not-false, true≢false}, List.append-nil}
use Rattle.fis_view.specs.{Frames.Stamped, Seen.seen, Table.{Bits, Error, field}, declared.{view.Fis.Fis, view.FisFault.FisFault}}
use Rattle.fis_view.specs.declared.view.Fis.TheVariants as view
use Rattle.multiplier.specs.State.{falling, passes_to, port_at}
use Rattle.disk_model.specs.{declared.request.Command.Command, Histories.{Happening, Plugged, Received, Sent}}
use Rattle.disk_model.specs.Ledger.{Ledger, Moving, answers, has_error, is_auto, ledger, listens, listens_up, with_auto}
use Rattle.disk_model.proofs.Door.{ledger_push}
use Rattle.disk_recovery.specs.Flushes.{flushes_taken}
use Rattle.disk_recovery.proofs.Door.{flushes_more}
use Rattle.pm_world.specs.{Downward.{falling_to, on_down_link}, PathEnds.{IsThere, unplugs}, Places.{Place, Places, with_device}, ReadBack.IsPart}
use Rattle.pm_world.specs.Rules.{CameActs, CameRule, DiskSendActs, DiskSendRule, DiskTakeActs, DiskTakeRule, GoneActs, GoneRule, InjectRule}
use Rattle.pm_world.specs.{Rules.{PmDownRule, PmFromDeviceRule, PmPresenceRule, Rule, is_for}, Traffic.sent_by, Units.happens}
use Rattle.pm_world.specs.declared.{step.Answer.Answer, step.Step.Step}
use Rattle.pm_world.specs.declared.step.Answer.TheVariants as answer
use Rattle.pm_world.specs.declared.step.Step.TheVariants as step
use Rattle.pm_world.proofs.paths.PlaceLemmas.{KeepsPlace, keeps_down, keeps_from_device, keeps_inject, keeps_presence, keeps_send, keeps_take}
use Rattle.pm_world.proofs.{paths.{PlaceLemmas.same_place, RunLemmas.{if_none, if_some}}, downward.DownMoves.rule_moves_down}
use Rattle.pm_world.proofs.ports.{DownLemmas.{DownChange, Gone, Put, Quiet, down_change, falls_keep}, EachLemmas.{Each, each_map, each_more}}
use Rattle.pm_world.proofs.ports.{FirmLemmas.{HasCome, IsFirm, seen_at}, SentLemmas.{IsSender, sender}}
use Rattle.pm_world.proofs.steps.{Lists.{slice_get-set_other, slice_get-set_same, slice_set-same}, Steps.{AtBoth, AtDevice, at_both, at_device}}
use Rattle.pm_world.proofs.upward.Recorded.{IsLed, led_last}

-- ## What a disk tells of which nothing is asked

abbrev IsCalm : Ledger → Type 0
IsCalm l = (l.outstanding ≡ []) × (l.moving ≡ None)

-- so it goes on, and no read or write ends
record GoesCalm (l m : Ledger) : Type 0 where
  outstanding : m.outstanding ≡ []
  moving : m.moving ≡ None
  writes : m.writes ≡ l.writes
  reads : m.reads ≡ l.reads

abbrev calmed : Ledger → Ledger
calmed l = record l { outstanding = []; moving = None }

still_calm : (l : Ledger) → GoesCalm (calmed l) (calmed l)
still_calm l = record { outstanding = refl; moving = refl; writes = refl; reads = refl }

up_calm : (l : Ledger) (s : Result Fis FisFault) → GoesCalm (calmed l) (listens_up (calmed l) s)
up_calm l (Ok (view.DmaSetup f)) = by_auto (is_auto f)
  where
    by_auto : (b : Bool) → GoesCalm (calmed l) (with_auto b (calmed l))
    by_auto true = still_calm l
    by_auto false = still_calm l
up_calm l (Ok (view.Payload f)) = record { outstanding = refl; moving = refl; writes = refl; reads = refl }
up_calm l (Ok (view.SetBits f)) = by_error (has_error f)
  where
    by_error : (b : Bool) → GoesCalm (calmed l) (answers (calmed l) (field Bits Error f) b)
    by_error true = record { outstanding = refl; moving = refl; writes = refl; reads = refl }
    by_error false = record { outstanding = refl; moving = refl; writes = refl; reads = refl }
up_calm l (Ok (view.RegD2H f)) = record { outstanding = refl; moving = refl; writes = refl; reads = refl }
up_calm l (Ok (view.PioSetup f)) = record { outstanding = refl; moving = refl; writes = refl; reads = refl }
up_calm l other = still_calm l

calm_is : (l : Ledger) → IsCalm l → l ≡ calmed l
calm_is l is =
    ap (λ (xs : List Command). record l { outstanding = xs }) is.0 ∙ ap (λ (o : Option Moving). record l { outstanding = []; moving = o }) is.1

sends_calm : (l : Ledger) (bytes : List ℕ) → IsCalm l → GoesCalm l (listens l (Sent bytes))
sends_calm l bytes is = subst (λ (x : Ledger). GoesCalm x (listens_up x (seen bytes))) (sym (calm_is l is)) (up_calm l (seen bytes))

plugged_calm : (l : Ledger) → GoesCalm l (listens l Plugged)
plugged_calm l = record { outstanding = refl; moving = refl; writes = refl; reads = refl }

-- ## The unit

-- The place of a unit that was unplugged as connection c, and that tells this. If it is there again, it is as a later
-- connection, and nothing is asked of it.
abbrev IsLaterAs : ℕ → Ledger → Place → Type 0
IsLaterAs c k place = (c ≤ place.conn) × (place.plugged ≡ true → (c < place.conn) × IsCalm k)

abbrev IsLater : ℕ → Ledger → Option Place → Type 0
IsLater c k o = MatchOption o (Prim.Unit {0}) (IsLaterAs c k)

-- what a step does to it: nothing, or it is plugged in or sends, while no read or write ends
data StaysQuiet (n c : ℕ) (k : Ledger) (new : Places) (events : List Happening) : Type 0 where
  Rests : events ≡ [] → IsLater c k (slice_get new.devices n) → StaysQuiet n c k new events
  Tells : (e : Happening) → events ≡ e ∷ [] → GoesCalm k (listens k e) → flushes_taken (e ∷ []) ≡ 0
      → IsLater c (listens k e) (slice_get new.devices n) → StaysQuiet n c k new events

later_of : (c : ℕ) (k : Ledger) (o : Option Place) (place : Place) → o ≡ Some place → IsLater c k o → IsLaterAs c k place
later_of c k None place is later = absurd cc
later_of c k (Some p) place is later = let same : p ≡ place = cc is in subst (IsLaterAs c k) same later

keeps_later : (c : ℕ) (k : Ledger) (old new : Place) → KeepsPlace old new → IsLaterAs c k old → IsLaterAs c k new
keeps_later c k old new keeps is =
    let most : c ≤ old.conn = is.0 in
    let same : new.conn ≡ old.conn = keeps.conn in (
      omega (arith, most, same),
      λ there. let was = is.1 (sym keeps.plugged ∙ there) in let less : c < old.conn = was.0 in (omega (arith, less, same), was.1),
    )

module _ (n c : ℕ) (k : Ledger) (old : Places) (a : Answer) (new : Places) (later : IsLater c k (slice_get old.devices n)) where
  abbrev Stays : List Happening → Type 0
  Stays events = StaysQuiet n c k new events

  -- the place is written over, or it is another one
  at_place : (m : ℕ) (place after : Place) (events : List Happening) → slice_get old.devices m ≡ Some place → new.devices ≡ slice_set old.devices m after
      → (n ≢ m → events ≡ [])
      → (n ≡ m → slice_get new.devices n ≡ Some after → IsLaterAs c k place → Stays events) → Stays events
  at_place m place after events is devices none here = elim (cases_eq n m) [
    | inl same ↦
        here same
        (ap (λ (ds : List Place). slice_get ds n) devices ∙ ap (slice_get (slice_set old.devices m after)) same
        ∙ slice_get-set_same old.devices m place after is)
        (later_of c k (slice_get old.devices n) place (ap (slice_get old.devices) same ∙ is) later)
    | inr other ↦
        Rests (none other)
        (subst (IsLater c k) (sym (ap (λ (ds : List Place). slice_get ds n) devices ∙ slice_get-set_other old.devices m n after other)) later)
  ]

  rests_as : (after : Place) (events : List Happening) → events ≡ [] → slice_get new.devices n ≡ Some after → IsLaterAs c k after → Stays events
  rests_as after events none at is = Rests none (subst (IsLater c k) (sym at) is)

  tells_as : (after : Place) (e : Happening) (events : List Happening) → events ≡ e ∷ [] → GoesCalm k (listens k e) → flushes_taken (e ∷ []) ≡ 0
      → slice_get new.devices n ≡ Some after → IsLaterAs c (listens k e) after → Stays events
  tells_as after e events one calm none at is = Tells e one calm none (subst (IsLater c (listens k e)) (sym at) is)

  -- a place that is kept
  at_kept : (m : ℕ) (place after : Place) → slice_get old.devices m ≡ Some place → new.devices ≡ slice_set old.devices m after → KeepsPlace place after
      → Stays []
  at_kept m place after is devices keeps =
      at_place m place after [] is devices (λ other. refl) (λ same at was. rests_as after [] refl at (keeps_later c k place after keeps was))

  same_devices : new.devices ≡ old.devices → Stays []
  same_devices same = Rests refl (subst (λ (ds : List Place). IsLater c k (slice_get ds n)) (sym same) later)

  plugged_none : flushes_taken (Plugged ∷ []) ≡ 0
  unfolding flushes_taken
  plugged_none = refl

  sent_none : (bytes : List ℕ) → flushes_taken (Sent bytes ∷ []) ≡ 0
  unfolding flushes_taken
  sent_none bytes = refl

  other_port : (p m : ℕ) → p ≡ m → n ≢ m → (p == n) ≡ false
  other_port p m is other = by_test (p == n) refl
    where
      by_test : (b : Bool) → (p == n) ≡ b → b ≡ false
      by_test true same = absurd (other (sym (eqb-true p n same) ∙ is))
      by_test false e = refl

  own_port : (p m : ℕ) → p ≡ m → n ≡ m → (p == n) ≡ true
  own_port p m is same = by_test (p == n) refl
    where
      by_test : (b : Bool) → (p == n) ≡ b → b ≡ true
      by_test true e = refl
      by_test false other = absurd (true≢false (sym (eq-eqb p n (is ∙ sym same)) ∙ other))

  comes : (m : ℕ) (place after : Place) → slice_get old.devices m ≡ Some place → new.devices ≡ slice_set old.devices m after → (b : Answer)
      → CameActs m place b after → Stays (happens n old (step.Came m) b new)
  comes m place after is devices answer.Blocked acts = at_kept m place after is devices (same_place place after acts.1)
  comes m place after is devices (answer.Came p conn) acts =
      at_place m place after (happens n old (step.Came m) (answer.Came p conn) new) is devices
      (λ other. if_none (p == n) (Plugged ∷ []) (other_port p m acts.0 other))
      (λ same at was.
      let most : c ≤ place.conn = was.0 in
      let next : after.conn ≡ place.conn + 1 = ap (λ (q : Place). q.conn) acts.3 in
      let calm : GoesCalm k (listens k Plugged) = plugged_calm k in
      tells_as after Plugged (happens n old (step.Came m) (answer.Came p conn) new) (if_some (p == n) (Plugged ∷ []) (own_port p m acts.0 same)) calm
      plugged_none at (omega (arith, most, next), λ there. (omega (arith, most, next), (calm.outstanding, calm.moving))))
  comes m place after is devices _ acts = absurd acts

  goes : (m : ℕ) (place after : Place) → slice_get old.devices m ≡ Some place → new.devices ≡ slice_set old.devices m after → (b : Answer)
      → GoneActs m place b after → Stays []
  goes m place after is devices answer.Blocked acts = at_kept m place after is devices (same_place place after acts.1)
  goes m place after is devices (answer.Gone p conn) acts =
      at_place m place after [] is devices (λ other. refl)
      (λ same at was.
      let most : c ≤ place.conn = was.0 in
      let kept : after.conn ≡ place.conn = ap (λ (q : Place). q.conn) acts.2 in
      rests_as after [] refl at (omega (arith, most, kept), λ there. absurd (true≢false (sym there ∙ ap (λ (q : Place). q.plugged) acts.2))))
  goes m place after is devices _ acts = absurd acts

  sends : (m : ℕ) (place after : Place) → slice_get old.devices m ≡ Some place → new.devices ≡ slice_set old.devices m after → (b : Answer)
      → DiskSendActs m place b after → Stays (happens n old (step.DiskSend m) b new)
  sends m place after is devices answer.Idle acts = at_kept m place after is devices (keeps_send m place answer.Idle after acts)
  sends m place after is devices answer.Blocked acts = at_kept m place after is devices (keeps_send m place answer.Blocked after acts)
  sends m place after is devices (answer.Sent p conn number bytes) acts =
      at_place m place after (happens n old (step.DiskSend m) (answer.Sent p conn number bytes) new) is devices
      (λ other. if_none (p == n) (Sent bytes ∷ []) (other_port p m acts.1 other))
      (λ same at was.
      let keeps : KeepsPlace place after = keeps_send m place (answer.Sent p conn number bytes) after acts in
      let kept = keeps_later c k place after keeps was in
      let calm : GoesCalm k (listens k (Sent bytes)) = sends_calm k bytes (was.1 acts.0.0).1 in
      tells_as after (Sent bytes) (happens n old (step.DiskSend m) (answer.Sent p conn number bytes) new)
      (if_some (p == n) (Sent bytes ∷ []) (own_port p m acts.1 same)) calm (sent_none bytes) at
      (kept.0, λ there. ((kept.1 there).0, (calm.outstanding, calm.moving))))
  sends m place after is devices _ acts = absurd acts

  -- it takes nothing
  module _ (falls : Each (λ (f : Stamped). f.stamp.conn ≤ c) (falling_to n old)) where
    takes : (m : ℕ) (place after : Place) → slice_get old.devices m ≡ Some place → new.devices ≡ slice_set old.devices m after → (b : Answer)
        → DiskTakeActs m place b after → Stays (happens n old (step.DiskTake m) b new)
    takes m place after is devices answer.Idle acts = at_kept m place after is devices (keeps_take m place answer.Idle after acts)
    takes m place after is devices (answer.DiskTook p true) acts =
        at_kept m place after is devices (keeps_take m place (answer.DiskTook p true) after acts)
    takes m place after is devices (answer.DiskTook p false) acts =
        at_place m place after (happens n old (step.DiskTake m) (answer.DiskTook p false) new) is devices
        (λ other. if_none (p == n) (map (λ frame. Received frame.bytes) (take 1 (on_down_link (slice_get old.devices n)))) (other_port p m acts.0 other))
        (λ same at was.
        let meant : is_for place acts.1.0 ≡ true = not-false (is_for place acts.1.0) (sym acts.1.2) in
        let both = and_parts place.plugged (acts.1.0.stamp.conn == place.conn) meant in
        let own : acts.1.0.stamp.conn ≡ place.conn = eqb-true acts.1.0.stamp.conn place.conn both.1 in
        let less : c < place.conn = (was.1 both.0).0 in
        let here : slice_get old.devices n ≡ Some place = ap (slice_get old.devices) same ∙ is in
        let link : falling_to n old ≡ acts.1.0 ∷ (after.down.frames ++ option_to_list (port_at old.multiplier n).down) =
        ap (λ (xs : List Stamped). xs ++ option_to_list (port_at old.multiplier n).down) (ap on_down_link here ∙ acts.1.1) in
        let most : acts.1.0.stamp.conn ≤ c = (subst (Each (λ (f : Stamped). f.stamp.conn ≤ c)) link falls).0 in
        absurd (omega (arith, own, less, most)))
    takes m place after is devices _ acts = absurd acts

    quiet_after : (s : Step) → Rule old s (Ok a) new → Stays (happens n old s a new)
    quiet_after (step.Came m) rule =
        let d : AtDevice old m (Ok a) new (CameRule m) = at_device old m a new (CameRule m) rule in
        comes m d.place d.after d.is (ap (λ (w : Places). w.devices) d.new_is) a d.rule.1
    quiet_after (step.Gone m) rule =
        let d : AtDevice old m (Ok a) new (GoneRule m) = at_device old m a new (GoneRule m) rule in
        goes m d.place d.after d.is (ap (λ (w : Places). w.devices) d.new_is) a d.rule.1
    quiet_after (step.DiskSend m) rule =
        let d : AtDevice old m (Ok a) new (DiskSendRule m) = at_device old m a new (DiskSendRule m) rule in
        sends m d.place d.after d.is (ap (λ (w : Places). w.devices) d.new_is) a d.rule.1
    quiet_after (step.Inject m bytes) rule =
        let d : AtDevice old m (Ok a) new (InjectRule m bytes) = at_device old m a new (InjectRule m bytes) rule in
        at_kept m d.place d.after d.is (ap (λ (w : Places). w.devices) d.new_is) (keeps_inject m bytes d.place a d.after d.rule.1)
    quiet_after (step.DiskTake m) rule =
        let d : AtDevice old m (Ok a) new (DiskTakeRule m) = at_device old m a new (DiskTakeRule m) rule in
        takes m d.place d.after d.is (ap (λ (w : Places). w.devices) d.new_is) a d.rule
    quiet_after (step.PmPresence m) rule =
        let d : AtBoth old m (Ok a) new (PmPresenceRule m) = at_both old m a new (PmPresenceRule m) rule in
        at_kept m d.place d.after d.is (ap (λ (w : Places). w.devices) d.new_is) (keeps_presence m d.place old.multiplier a d.after d.left d.rule)
    quiet_after (step.PmFromDevice m) rule =
        let d : AtBoth old m (Ok a) new (PmFromDeviceRule m) = at_both old m a new (PmFromDeviceRule m) rule in
        at_kept m d.place d.after d.is (ap (λ (w : Places). w.devices) d.new_is) (keeps_from_device m d.place old.multiplier a d.after d.left d.rule)
    quiet_after (step.PmDown m) rule =
        let d : AtBoth old m (Ok a) new (PmDownRule m) = at_both old m a new (PmDownRule m) rule in
        at_kept m d.place d.after d.is (ap (λ (w : Places). w.devices) d.new_is) (keeps_down m d.place old.multiplier a d.after d.left d.rule)
    quiet_after other rule = same_devices (ap (λ (w : Places). w.devices) rule.1)

-- ## From the unplugging on

-- The unit did all of the first list when it was unplugged as connection c, and all of the second by now. In between no
-- read or write ended, and it took nothing.
pub record IsPulled (n c : ℕ) (now : Places) (gone happened : List Happening) : Type 0 where
  pub some : 0 < c
  later : IsLater c (ledger happened) (slice_get now.devices n)
  falls : Each (λ (f : Stamped). f.stamp.conn ≤ c) (falling_to n now)
  pub part : IsPart gone happened
  pub writes : (ledger happened).writes ≡ (ledger gone).writes
  pub reads : (ledger happened).reads ≡ (ledger gone).reads
  pub flushes : flushes_taken happened ≡ flushes_taken gone

-- it is not there as that connection
pub pulled_away : (n c : ℕ) (now : Places) (gone happened : List Happening) → IsPulled n c now gone happened → IsThere n c now → ⊥
pulled_away n c now gone happened p there = by_place (slice_get now.devices n) p.later there
  where
    by_place : (o : Option Place) → IsLater c (ledger happened) o → MatchOption o ⊥ (λ place. (place.plugged ≡ true) × (place.conn ≡ c)) → ⊥
    by_place None later there = there
    by_place (Some place) later there =
        let less : c < place.conn = (later.1 there.0).0 in
        let same : place.conn ≡ c = there.1 in
        absurd (omega (arith, less, same))

-- it goes on while the port passes no later connection down
pub pulled_after : (n c : ℕ) → n < 15 → (old : Places) (s : Step) (a : Answer) (new : Places) → Rule old s (Ok a) new → IsFirm n old
    → ((d : ℕ) → passes_to old.multiplier n ≡ Some d → d ≤ c) → (gone happened : List Happening) → IsPulled n c old gone happened
    → IsPulled n c new gone (happened ++ happens n old s a new)
pulled_after n c below old s a new rule firm passes gone happened p =
    by_case (quiet_after n c (ledger happened) old a new p.later p.falls s rule)
  where
    falls_now : Each (λ (f : Stamped). f.stamp.conn ≤ c) (falling_to n new)
    falls_now = by_down (down_change n old s new firm.orderly a rule)
      where
        by_down : DownChange n old s a new → Each (λ (f : Stamped). f.stamp.conn ≤ c) (falling_to n new)
        by_down (Quiet link none uncleared on) = falls_keep (λ (f : Stamped). f.stamp.conn ≤ c) n old new on p.falls
        by_down (Put f link one uncleared falls idle none) = subst (Each (λ (g : Stamped). g.stamp.conn ≤ c)) (sym falls) p.falls
        by_down (Gone f link none clears (inl same) idle _) = subst (Each (λ (g : Stamped). g.stamp.conn ≤ c)) (sym same) p.falls
        by_down (Gone f link none clears (inr fallen) idle _) =
            subst (Each (λ (g : Stamped). g.stamp.conn ≤ c)) (sym fallen.here)
            (each_more (λ (g : Stamped). g.stamp.conn ≤ c) (falling_to n old) (falling fallen.conn f) p.falls (passes fallen.conn fallen.passes))

    more : (events : List Happening) → IsPart gone (happened ++ events)
    more events = record {
      later = p.part.later ++ events;
      is = ap (λ (xs : List Happening). xs ++ events) p.part.is ∙ append_assoc gone p.part.later events;
    }

    by_case : StaysQuiet n c (ledger happened) new (happens n old s a new) → IsPulled n c new gone (happened ++ happens n old s a new)
    by_case (Rests none is) =
        subst (λ (xs : List Happening). IsPulled n c new gone (happened ++ xs)) (sym none)
        (subst (IsPulled n c new gone) (sym (append-nil happened)) (record {
          some = p.some;
          later = is;
          falls = falls_now;
          part = p.part;
          writes = p.writes;
          reads = p.reads;
          flushes = p.flushes;
        }))
    by_case (Tells e one calm none is) =
        let told : ledger (happened ++ e ∷ []) ≡ listens (ledger happened) e = ledger_push happened e in
        let counted : flushes_taken (happened ++ e ∷ []) ≡ flushes_taken happened + flushes_taken (e ∷ []) = flushes_more happened (e ∷ []) in
        let same : flushes_taken happened ≡ flushes_taken gone = p.flushes in
        subst (λ (xs : List Happening). IsPulled n c new gone (happened ++ xs)) (sym one) (record {
          some = p.some;
          later = subst (λ (l : Ledger). IsLater c l (slice_get new.devices n)) (sym told) is;
          falls = falls_now;
          part = more (e ∷ []);
          writes = ap (λ (l : Ledger). l.writes) told ∙ calm.writes ∙ p.writes;
          reads = ap (λ (l : Ledger). l.reads) told ∙ calm.reads ∙ p.reads;
          flushes = omega (arith, counted, none, same);
        })

-- and it sends nothing on the connection as which it was unplugged
pub pulled_unsent : (n c : ℕ) (old : Places) (s : Step) (a : Answer) (new : Places) → Rule old s (Ok a) new → (gone happened : List Happening)
    → IsPulled n c old gone happened → sent_by n c a ≡ []
pulled_unsent n c old s (answer.Sent port conn number bytes) new rule gone happened p = by_test (port == n && conn == c) refl
  where
    by_test : (b : Bool) → (port == n && conn == c) ≡ b → (if b then bytes ∷ [] else []) ≡ []
    by_test false is = refl
    by_test true is =
        let both = and_parts (port == n) (conn == c) is in
        let w : IsSender old port conn = sender old new port conn number bytes s rule in
        let at : slice_get old.devices n ≡ Some w.place = ap (slice_get old.devices) (sym (eqb-true port n both.0)) ∙ w.is in
        let less : c < w.place.conn = ((later_of c (ledger happened) (slice_get old.devices n) w.place at p.later).1 w.plugged).0 in
        let own : w.place.conn ≡ c = sym w.conn_is ∙ eqb-true conn c both.1 in
        absurd (omega (arith, less, own))
pulled_unsent n c old s a new rule gone happened p = refl

-- ## The step that unplugs it

-- the presence link has no room, and nothing is done; or the unit goes
pub data Unplugs (n : ℕ) (old : Places) (s : Step) (a : Answer) (new : Places) : Type 0 where
  Stuck : s ≡ step.Gone n → a ≡ answer.Blocked → new ≡ old → Unplugs n old s a new
  Goes : (conn : ℕ) → s ≡ step.Gone n → a ≡ answer.Gone n conn → Rule old (step.Gone n) (Ok (answer.Gone n conn)) new → Unplugs n old s a new

pub unplugs_or_not : (n : ℕ) (old : Places) (s : Step) (a : Answer) (new : Places) → unplugs n s ≡ true → Rule old s (Ok a) new → Unplugs n old s a new
unplugs_or_not n old (step.Gone m) a new is rule = by_answer a rule
  where
    same : m ≡ n
    same = eqb-true m n is

    by_answer : (b : Answer) → Rule old (step.Gone m) (Ok b) new → Unplugs n old (step.Gone m) b new
    by_answer answer.Blocked rule =
        let d : AtDevice old m (Ok answer.Blocked) new (GoneRule m) = at_device old m answer.Blocked new (GoneRule m) rule in
        Stuck (ap (λ (j : ℕ). step.Gone j) same) refl
        (d.new_is ∙ ap (λ (p : Place). with_device old m p) d.rule.1.1
        ∙ ap (λ (ds : List Place). record old { devices = ds }) (slice_set-same old.devices m d.place d.is))
    by_answer (answer.Gone p conn) rule =
        let d : AtDevice old m (Ok (answer.Gone p conn)) new (GoneRule m) = at_device old m (answer.Gone p conn) new (GoneRule m) rule in
        let port : p ≡ n = d.rule.1.0 ∙ same in
        Goes conn (ap (λ (j : ℕ). step.Gone j) same) (ap (λ (j : ℕ). answer.Gone j conn) port)
        (subst (λ (j : ℕ). Rule old (step.Gone n) (Ok (answer.Gone j conn)) new) port
        (subst (λ (j : ℕ). Rule old (step.Gone j) (Ok (answer.Gone p conn)) new) same rule))
    by_answer b rule = absurd (at_device old m b new (GoneRule m) rule).rule.1
unplugs_or_not n old s a new is rule = absurd (false≢true is)

-- so it is pulled from there on
pub pulled_now : (n c conn : ℕ) → 0 < c → (old new : Places) → IsFirm n old → IsThere n c old → Rule old (step.Gone n) (Ok (answer.Gone n conn)) new
    → (happened : List Happening) → IsPulled n c new happened happened
pulled_now n c conn some old new firm there rule happened = record {
  some = some;
  later = subst (IsLater c (ledger happened)) (sym at)
      (omega (arith, is, kept), λ again. absurd (true≢false (sym again ∙ ap (λ (q : Place). q.plugged) acts.2)));
  falls = subst (Each (λ (f : Stamped). f.stamp.conn ≤ c)) (sym same)
      (each_map (HasCome n old) (λ (f : Stamped). f.stamp.conn ≤ c) (falling_to n old) (λ f came. omega (arith, came, most, is)) firm.falls);
  part = record { later = []; is = sym (append-nil happened) };
  writes = refl;
  reads = refl;
  flushes = refl;
}
  where
    d : AtDevice old n (Ok (answer.Gone n conn)) new (GoneRule n)
    d = at_device old n (answer.Gone n conn) new (GoneRule n) rule

    acts : GoneActs n d.place (answer.Gone n conn) d.after
    acts = d.rule.1

    at : slice_get new.devices n ≡ Some d.after
    at = ap (λ (w : Places). slice_get w.devices n) d.new_is ∙ slice_get-set_same old.devices n d.place d.after d.is

    is : d.place.conn ≡ c
    is = (subst (λ (o : Option Place). MatchOption o ⊥ (λ (p : Place). (p.plugged ≡ true) × (p.conn ≡ c))) d.is there).1

    kept : d.after.conn ≡ d.place.conn
    kept = ap (λ (q : Place). q.conn) acts.2

    most : (seen_at n old).1 ≤ d.place.conn
    most = led_last d.place (seen_at n old) (subst (λ (o : Option Place). IsLed o (seen_at n old)) d.is firm.led)

    same : falling_to n new ≡ falling_to n old
    same = (rule_moves_down old (step.Gone n) (answer.Gone n conn) new firm.orderly rule).falls n
