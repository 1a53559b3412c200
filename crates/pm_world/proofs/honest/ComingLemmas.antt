-- For `disks_are_honest`. What the host takes of a connection whose unit was unplugged: the FISes that the unit sent
-- before, in their order, as long as they come.
use Rattle.std.proofs.Common.{◌≡◌, ◌≢◌, ◌==◌, ◌&&◌, ℕ, ◌+◌, ◌<◌, ◌≤◌, Bool, true, false, List, [], ◌∷◌, ◌++◌, drop, length, map, refl, sym, ap, subst}
use Rattle.std.proofs.Common.{◌∙◌, inl, inr, Option, Some, None, Ok, arith}
use Rattle.std.specs.{Int.bit_at, Prelude.{slice_get, MatchBool}, List.flat_map}
use Rattle.std.proofs.lemmas.{Bool.{cases_Bool, cases_eq, cases_lt, eq-eqb, eqb-true, true≢false}, List.append-nil, Option.same_Some}
use Rattle.fis_view.specs.Frames.{Stamped, marked}
use Rattle.hba_fbs.specs.declared.report.TakeReport.{TakeReport}
use Rattle.host_memory.specs.Memory.{is_memory_size}
use Rattle.pm_control.specs.Requests.{request_in}
use Rattle.pm_registers.specs.RegisterMap as registers
use Rattle.multiplier.specs.{Arbiter.control_port, State.{passes_to, pm_port, port_at}}
use Rattle.multiplier.proofs.Door.{up_to, up_to_is}
use Rattle.disk_model.specs.{declared.plan.DiskPlan.DiskPlan, Histories.{Happening, Received, Sent}, Ledger.IsSize, Runs.IsDiskRun}
use Rattle.hba_driver.specs.HostTurns.{HostTurn}
use Rattle.disk_recovery.specs.Flushes.{Floor}
use Rattle.pm_world.specs.{Cleared.is_cleared, PathEnds.{IsAtHost, for_port}, Places.Places, Rules.Rule, Stale.orders_clear}
use Rattle.pm_world.specs.Traffic.{IsPrefixOf, NothingLost, all_marked, is_removed, of_conn, on_host_link, sent_by, taken_by, transit, waiting}
use Rattle.pm_world.specs.{Turns.{IsOfItsPort, turn_of}, declared.{link.Change.Change, step.Answer.Answer, step.Step.Step}}
use Rattle.pm_world.specs.declared.link.Change.TheVariants as change
use Rattle.pm_world.specs.declared.step.Answer.TheVariants as answer
use Rattle.pm_world.proofs.cleared.Cleared as cleared
use Rattle.pm_world.proofs.{control_port.LineLemmas.IsNow, downward.DownMoves.{Starts, rule_moves_down}, honest.CutLemmas.IsElsewhere}
use Rattle.pm_world.proofs.honest.{EarlyLemmas.none_of_conn, EndsSteps.{HasEnds, IsUnflushed, gives_one_to, stays_beside, takes_one}}
use Rattle.pm_world.proofs.honest.{ExactLemmas.{IsExact, IsOpenFor}, FlushLemmas.flush_orders, LiveLemmas.{IsOpenAt, none_told, rule_open}}
use Rattle.pm_world.proofs.{honest.ShutLemmas.{IsNoneOf, WaitsFor, none_taken, none_up}, meant.{OrderLemmas.Only, PortLemmas.WritesChanges}}
use Rattle.pm_world.proofs.paths.PathLemmas.{and_both, and_false, if_false, if_true, one_step, still_above}
use Rattle.pm_world.proofs.ports.{EachLemmas.{Each, each_map, each_more}, FirmLemmas.{IsFirm, seen_at}}
use Rattle.pm_world.proofs.ports.KeepingLemmas.{KeepsTo, drop_own, keeps_after, keeps_from, keeps_one, passes_open}
use Rattle.pm_world.proofs.{ports.UpLemmas.{Left, Rose, Same, UpChange, up_change}, steps.Orderly.removed_after, upward.FrameMoves.rule_moves}
use Rattle.pm_world.proofs.upward.{Law.nothing_lost, Recorded.{AreLetIn, Known, Records, all, one, records_last, rule_records}}

-- ## Connections

-- one that came, and is not removed, is present
pub present_still : (n c : ℕ) (now : Places) → IsFirm n now → 0 < c → c ≤ (seen_at n now).1 → is_removed n c now ≡ false
    → (port_at now.multiplier n).present ≡ Some c
present_still n c now firm some came still = by_present (port_at now.multiplier n).present refl
  where
    low : (port_at now.multiplier n).gone < c
    low = elim (cases_lt (port_at now.multiplier n).gone c) [
      | inl less ↦ less
      | inr most ↦ absurd (true≢false (sym (up_to (port_at now.multiplier n).gone c some most) ∙ still))
    ]

    by_present : (o : Option ℕ) → (port_at now.multiplier n).present ≡ o → o ≡ Some c
    by_present None none = let all_gone : (seen_at n now).1 ≤ (port_at now.multiplier n).gone = firm.closed.none none in absurd (omega (arith, all_gone, came, low))
    by_present (Some d) is =
        let last : d ≡ (seen_at n now).1 = ((firm.orderly.knows n).present d is).0 in
        let next : d ≤ (port_at now.multiplier n).gone + 1 = (firm.closed.there d is).1 in
        ap (λ (k : ℕ). Some k) (omega (arith, last, next, came, low))

-- one that is present is not removed
pub never_present : (n c : ℕ) (now : Places) → IsFirm n now → is_removed n c now ≡ true → (port_at now.multiplier n).present ≢ Some c
never_present n c now firm gone is =
    let below : (port_at now.multiplier n).gone < c = ((firm.orderly.knows n).present c is).1 in
    let most : c ≤ (port_at now.multiplier n).gone = (up_to_is (port_at now.multiplier n).gone c gone).1 in
    absurd (omega (arith, below, most))

-- what passes down before a connection is removed is of that connection, or of an earlier one
pub passes_no_later : (n c : ℕ) (now : Places) → IsFirm n now → 0 < c → is_removed n c now ≡ false → (d : ℕ) → passes_to now.multiplier n ≡ Some d → d ≤ c
passes_no_later n c now firm some still d passes =
    let is = (passes_open n now.multiplier d passes).1 in
    let next : d ≤ (port_at now.multiplier n).gone + 1 = (firm.closed.there d is).1 in
    elim (cases_lt (port_at now.multiplier n).gone c) [
      | inl less ↦ omega (arith, next, less)
      | inr most ↦ absurd (true≢false (sym (up_to (port_at now.multiplier n).gone c some most) ∙ still))
    ]

-- a removal is read off the presence link only as the connection goes, and then it is never present again
none_again : (c : ℕ) (read : List Change) (k : Known) → k.0 ≢ Some c → c ≤ k.1 → AreLetIn read k → (all read k).0 ≡ Some c → ⊥
none_again c [] k other most let_in is = absurd (other is)
none_again c (change.Came conn ∷ read) k other most let_in is =
    let above : k.1 < conn = let_in.0.1 in
    none_again c read (one (change.Came conn) k) (λ e. let same : conn ≡ c = same_Some conn c e in absurd (omega (arith, same, above, most)))
    (omega (arith, above, most)) let_in.1 is
none_again c (change.Gone conn ∷ read) k other most let_in is =
    none_again c read (one (change.Gone conn) k) (λ e. let wrong : None ≡ Some c = e in absurd (cc)) most let_in.1 is

none_is_read : (c : ℕ) (read : List Change) (k : Known) → c ≤ k.1 → AreLetIn read k → (all read k).0 ≡ Some c → read ≡ []
none_is_read c [] k most let_in is = refl
none_is_read c (change.Came conn ∷ read) k most let_in is =
    let above : k.1 < conn = let_in.0.1 in
    absurd (none_again c read (one (change.Came conn) k) (λ e. let same : conn ≡ c = same_Some conn c e in absurd (omega (arith, same, above, most)))
    (omega (arith, above, most)) let_in.1 is)
none_is_read c (change.Gone conn ∷ read) k most let_in is =
    absurd (none_again c read (one (change.Gone conn) k) (λ e. let wrong : None ≡ Some c = e in absurd (cc)) most let_in.1 is)

-- ## What is kept

-- a FIS of port n on the link to the host is of connection c
abbrev IsOf : (n c : ℕ) → Stamped → Type 0
IsOf n c f = f.stamp.port ≡ n → f.stamp.conn ≡ c

-- What comes to the host of port n is of connection c, and is the first of this; it is all of this while the removal is
-- not recorded. The port passes nothing of another connection.
pub record IsComing (n c : ℕ) (now : Places) (up : List (List ℕ)) : Type 0 where
  pub alone : Each (IsOf n c) now.upward.frames
  pub on_link : IsPrefixOf (on_host_link n c now) (all_marked n up)
  pub above : is_removed n c now ≡ false → transit n c now ≡ all_marked n up
  pub keeps : KeepsTo n c now.multiplier
  pub opens : (port_at now.multiplier n).present ≡ Some c → IsOpenAt n now.multiplier.registers
  pub came : c ≤ (seen_at n now).1

-- Nothing of connection c passed its port. This waits there, and the removal is not recorded.
pub record IsUnheard (n c : ℕ) (now : Places) (rising : List (List ℕ)) : Type 0 where
  pub up : Each (IsNoneOf n c) now.upward.frames
  pub above : transit n c now ≡ all_marked n rising
  pub still : is_removed n c now ≡ false
  pub waits : WaitsFor n c now

-- Nothing of connection c comes to the host any more.
pub record IsOver (n c : ℕ) (now : Places) : Type 0 where
  pub up : Each (IsNoneOf n c) now.upward.frames
  pub removed : is_removed n c now ≡ true

-- and the host and the unit that did all this are ends, with what is on its way to either
pub record ComesOn (n c len : ℕ) (floors : ℕ → Floor) (turns : List HostTurn) (now : Places) (gone : List Happening) : Type 0 where
  pub down : List (List ℕ)
  pub up : List (List ℕ)
  pub coming : IsComing n c now up
  pub ends : HasEnds n len floors turns now.host gone down up

-- ## What the host takes

-- these bytes come next, with the port as their mark
pub record IsNext (n : ℕ) (bytes : List ℕ) (rest : List (List ℕ)) (up : List (List ℕ)) : Type 0 where
  pub plain : List ℕ
  pub later : List (List ℕ)
  pub marks : bytes ≡ marked plain n
  pub is : up ≡ plain ∷ later
  pub others : IsPrefixOf rest (all_marked n later)

next_of : (n : ℕ) (bytes : List ℕ) (rest up : List (List ℕ)) → IsPrefixOf (bytes ∷ rest) (all_marked n up) → IsNext n bytes rest up
next_of n bytes rest [] p = let wrong : bytes ∷ (rest ++ p.0) ≡ [] = p.1 in absurd (cc)
next_of n bytes rest (plain ∷ later) p =
    let whole : bytes ∷ (rest ++ p.0) ≡ marked plain n ∷ all_marked n later = p.1 in
    let first : bytes ≡ marked plain n = cc whole in
    let tail : rest ++ p.0 ≡ all_marked n later = cc whole in
    record { plain = plain; later = later; marks = first; is = refl; others = (p.0, tail) }

module _ (n c : ℕ) (below : n < 15) (old : Places) (s : Step) (a : Answer) (new : Places) (rule : Rule old s (Ok a) new) (firm : IsFirm n old)
    (unsent : sent_by n c a ≡ []) where
  device : n ≢ control_port
  device e = absurd (omega (arith, e, below))

  lost : NothingLost old (a ∷ []) new
  lost = nothing_lost old (s ∷ []) (a ∷ []) new firm.orderly (new, rule, refl)

  was_still : is_removed n c new ≡ false → is_removed n c old ≡ false
  was_still still = elim (cases_Bool (is_removed n c old)) [
    | inl gone ↦ absurd (true≢false (sym (removed_after old s a new firm.orderly rule n c gone) ∙ still))
    | inr not_so ↦ not_so
  ]

  -- ---- of a connection that the host hears

  module _ (up : List (List ℕ)) (h : IsComing n c old up) where
    front : IsPrefixOf (taken_by n c a ++ on_host_link n c new) (all_marked n up)
    front = elim (cases_Bool (is_removed n c old)) [
      | inl gone ↦ (
        h.on_link.0,
        ap (λ (xs : List (List ℕ)). xs ++ h.on_link.0)
            (ap (λ (xs : List (List ℕ)). xs ++ on_host_link n c new) (sym (append-nil (taken_by n c a))) ∙ lost.over n c device gone)
            ∙ h.on_link.1,
      )
      | inr still ↦
          let arrives = lost.arrives n c device in (
            arrives.0,
            ap (λ (xs : List (List ℕ)). (xs ++ on_host_link n c new) ++ arrives.0) (sym (append-nil (taken_by n c a))) ∙ arrives.1
                ∙ ap (λ (xs : List (List ℕ)). transit n c old ++ all_marked n (xs ++ [])) unsent ∙ append-nil (transit n c old) ∙ h.above still,
          )
    ]

    all_above : is_removed n c new ≡ false → taken_by n c a ++ transit n c new ≡ all_marked n up
    all_above still =
        one_step n c old new s a device firm.orderly rule still ∙ ap (λ (xs : List (List ℕ)). transit n c old ++ all_marked n xs) unsent
        ∙ append-nil (transit n c old) ∙ h.above (was_still still)

    -- the next one of the connection
    pub comes_next : (port conn number : ℕ) (bytes : List ℕ) (report : TakeReport) → a ≡ answer.Took port conn number bytes report → (port == n) ≡ true
        → (conn ≡ c) × IsNext n bytes (on_host_link n c new) up
    comes_next port conn number bytes report is here =
        let m = rule_moves old s (answer.Took port conn number bytes report) new firm.orderly (subst (λ (b : Answer). Rule old s (Ok b) new) is rule) in
        let own : conn ≡ c = sym m.1.conn_is ∙ (subst (Each (IsOf n c)) m.2.upward h.alone).0 (m.1.port_is ∙ eqb-true port n here) in
        let taken : taken_by n c a ≡ bytes ∷ [] =
        ap (taken_by n c) is ∙ if_true (port == n && conn == c) (bytes ∷ []) (and_both (port == n) (conn == c) here (eq-eqb conn c own)) in
        (own, next_of n bytes (on_host_link n c new) up (subst (λ (xs : List (List ℕ)). IsPrefixOf (xs ++ on_host_link n c new) (all_marked n up)) taken front))

    module _ (writes : Only (λ (f : Stamped). WritesChanges (request_in f.bytes)) old.downward.frames) (uncleared : is_cleared n old a ≡ false) where
      records : Records n (slice_get old.devices n) (seen_at n old) a (slice_get new.devices n) (seen_at n new)
      records = rule_records old s a new firm.orderly rule n firm.led

      opens_now : (port_at new.multiplier n).present ≡ Some c → IsOpenAt n new.multiplier.registers
      opens_now here =
          let none : records.read ≡ [] =
          none_is_read c records.read (seen_at n old) h.came records.let_in (sym (ap (λ (k : Known). k.0) records.knows) ∙ here) in
          let was : (port_at old.multiplier n).present ≡ Some c =
          sym (ap (λ (k : Known). k.0) (records.knows ∙ ap (λ (cs : List Change). all cs (seen_at n old)) none)) ∙ here in
          rule_open n old a new (none_told n a (sym (ap (λ (cs : List Change). length cs) none) ∙ records.count)) writes (h.opens was) s rule

      alone_now : Each (IsOf n c) new.upward.frames
      alone_now = by_up (up_change n old new below firm.orderly s a rule)
        where
          by_up : UpChange n old s a new → Each (IsOf n c) new.upward.frames
          by_up (Same link none) = subst (Each (IsOf n c)) (sym link) h.alone
          by_up (Rose f link none passes other idle) =
              subst (Each (IsOf n c)) (sym link)
              (each_more (IsOf n c) old.upward.frames f h.alone
              (λ here. keeps_one n c f.stamp.conn old.multiplier firm.true_is h.keeps (passes here).opens (passes here).there))
          by_up (Left f link told idle) = (subst (Each (IsOf n c)) link h.alone).1

      -- it goes on with what is left
      coming_now : (up_now : List (List ℕ)) → IsPrefixOf (on_host_link n c new) (all_marked n up_now)
          → (is_removed n c new ≡ false → transit n c new ≡ all_marked n up_now) → IsComing n c new up_now
      coming_now up_now on_link above = record {
        alone = alone_now;
        on_link = on_link;
        above = above;
        keeps = keeps_after n old s a new rule c below firm.true_is uncleared h.keeps;
        opens = opens_now;
        came =
            let more : (seen_at n old).1 ≤ (seen_at n new).1 =
            records_last n (slice_get old.devices n) (seen_at n old) a (slice_get new.devices n) (seen_at n new) records in
            let most : c ≤ (seen_at n old).1 = h.came in
            omega (arith, more, most);
      }

      untaken_now : taken_by n c a ≡ [] → IsComing n c new up
      untaken_now none =
          coming_now up (subst (λ (xs : List (List ℕ)). IsPrefixOf (xs ++ on_host_link n c new) (all_marked n up)) none front)
          (λ still. ap (λ (xs : List (List ℕ)). xs ++ transit n c new) (sym none) ∙ all_above still)

      taken_now : (bytes : List ℕ) → taken_by n c a ≡ bytes ∷ [] → (x : IsNext n bytes (on_host_link n c new) up) → IsComing n c new x.later
      taken_now bytes one x = coming_now x.later x.others (λ still. rest (transit n c new) (whole still))
        where
          whole : is_removed n c new ≡ false → bytes ∷ transit n c new ≡ marked x.plain n ∷ all_marked n x.later
          whole still =
              ap (λ (xs : List (List ℕ)). xs ++ transit n c new) (sym one) ∙ all_above still ∙ ap (all_marked n) x.is

          rest : (xs : List (List ℕ)) → bytes ∷ xs ≡ marked x.plain n ∷ all_marked n x.later → xs ≡ all_marked n x.later
          rest xs e = cc e

      -- ---- at the host

      module _ (len : ℕ) (right : is_memory_size len ≡ true) (plan : DiskPlan) (sectors : ℕ) (size : IsSize plan sectors) (floors : ℕ → Floor)
          (turns : List HostTurn) (i : IsNow old) (its : IsOfItsPort a) (unflushed : IsUnflushed n old a) (gone : List Happening)
          (run : IsDiskRun plan sectors gone) (down : List (List ℕ)) (ends : HasEnds n len floors turns old.host gone down up) where
        abbrev After : Type 0
        After = ComesOn n c len floors (turns ++ turn_of old s a new) new gone

        beside : taken_by n c a ≡ [] → IsAtHost n old a new [] → After
        beside none at = record {
          down = down;
          up = up;
          coming = untaken_now none;
          ends = stays_beside n len below right plan sectors size floors turns old i s a new rule gone down up ends run its at unflushed;
        }

        took : (port conn number : ℕ) (bytes : List ℕ) (report : TakeReport) → a ≡ answer.Took port conn number bytes report → After
        took port conn number bytes report is = by_test (port == n) refl
          where
            none_at : (b : Bool) → b ≡ false
                → MatchBool b ((plain : List ℕ) × ([] ≡ Sent plain ∷ []) × (bytes ≡ marked plain n)) (◌≡◌ {A = List Happening} [] [])
            none_at true e = absurd (true≢false e)
            none_at false e = refl

            by_test : (b : Bool) → (port == n) ≡ b → After
            by_test true here =
                let x = comes_next port conn number bytes report is here in
                let next : IsNext n bytes (on_host_link n c new) up = x.1 in
                let one : taken_by n c a ≡ bytes ∷ [] =
                ap (taken_by n c) is ∙ if_true (port == n && conn == c) (bytes ∷ []) (and_both (port == n) (conn == c) here (eq-eqb conn c x.0)) in
                let told : a ≡ answer.Took n c number (marked next.plain n) report =
                is ∙ ap (λ (k : ℕ). answer.Took k conn number bytes report) (eqb-true port n here)
                ∙ ap (λ (k : ℕ). answer.Took n k number bytes report) x.0 ∙ ap (λ (b : List ℕ). answer.Took n c number b report) next.marks in
                record {
                  down = down;
                  up = next.later;
                  coming = taken_now bytes one next;
                  ends =
                      takes_one n len below right plan sectors size floors turns old i s a new rule gone down up ends c number next.plain next.later report
                      run its told next.is;
                }
            by_test false other =
                beside
                (ap (taken_by n c) is
                ∙ if_false (port == n && conn == c) (bytes ∷ []) (and_false (port == n) (conn == c) (λ here. absurd (true≢false (sym here ∙ other)))))
                (subst (λ (b : Answer). IsAtHost n old b new []) (sym is) (none_at (port == n) other))

        pushed : a ≡ answer.Pushed → After
        pushed is = by_test (pm_port f == n) refl
          where
            moves : (g : Stamped) × Starts g old new
            moves = rule_moves_down old s answer.Pushed new firm.orderly (subst (λ (b : Answer). Rule old s (Ok b) new) is rule)

            f : Stamped
            f = moves.0

            heard : map (λ bytes. Received bytes) (flat_map (for_port n) (drop (length old.downward.frames) new.downward.frames))
                ≡ map (λ bytes. Received bytes) (for_port n f)
            heard =
                ap (λ (xs : List Stamped). map (λ bytes. Received bytes) (flat_map (for_port n) xs))
                (ap (λ (xs : List Stamped). drop (length old.downward.frames) xs) moves.1.link ∙ drop_own old.downward.frames (f ∷ []))
                ∙ ap (λ (xs : List (List ℕ)). map (λ bytes. Received bytes) xs) (append-nil (for_port n f))

            by_test : (b : Bool) → (pm_port f == n) ≡ b → After
            by_test true here = record {
              down = down ++ marked f.bytes 0 ∷ [];
              up = up;
              coming = untaken_now (ap (taken_by n c) is);
              ends =
                  gives_one_to n len below right plan sectors size floors turns old i s a new rule gone down up ends (marked f.bytes 0) run is
                  (subst (λ (b : Answer). IsAtHost n old b new (Received (marked f.bytes 0) ∷ [])) (sym is)
                  (sym (heard ∙ ap (λ (xs : List (List ℕ)). map (λ bytes. Received bytes) xs) (if_true (pm_port f == n) (marked f.bytes 0 ∷ []) here))));
            }
            by_test false other =
                beside (ap (taken_by n c) is)
                (subst (λ (b : Answer). IsAtHost n old b new []) (sym is)
                (sym (heard ∙ ap (λ (xs : List (List ℕ)). map (λ bytes. Received bytes) xs) (if_false (pm_port f == n) (marked f.bytes 0 ∷ []) other))))

        -- while the host neither flushes the unit nor clears its port
        pub comes_on : After
        comes_on = by_answer a refl
          where
            by_answer : (b : Answer) → a ≡ b → After
            by_answer (answer.Took port conn number bytes report) is = took port conn number bytes report is
            by_answer answer.Pushed is = pushed is
            by_answer b is = beside (ap (taken_by n c) is) (subst (λ (x : Answer). IsAtHost n old x new []) (sym is) refl)

  -- ---- of a connection of which the host hears nothing yet

  module _ (rising : List (List ℕ)) (h : IsUnheard n c old rising) where
    up_unheard : Each (IsNoneOf n c) new.upward.frames
    up_unheard = none_up n c below old s a new rule firm.orderly firm.true_is h.waits h.up

    above_unheard : is_removed n c new ≡ false → transit n c new ≡ all_marked n rising
    above_unheard still = still_above n c old new s a device firm.orderly rule (none_taken n c below old s a new rule firm.orderly firm.true_is h.waits h.up) unsent still ∙ h.above

    pub unheard_on : WaitsFor n c new → is_removed n c new ≡ false → IsUnheard n c new rising
    unheard_on waits still = record { up = up_unheard; above = above_unheard still; still = still; waits = waits }

    pub unheard_over : is_removed n c new ≡ true → IsOver n c new
    unheard_over gone = record { up = up_unheard; removed = gone }

    -- the port is cleared, and is open to it
    pub unheard_comes : (port_at old.multiplier n).present ≡ Some c → Each (IsElsewhere n) old.upward.frames → IsOpenAt n new.multiplier.registers
        → is_removed n c new ≡ false → IsComing n c new rising
    unheard_comes there away opens still = record {
      alone = by_up (up_change n old new below firm.orderly s a rule);
      on_link = (all_marked n (of_conn c (waiting n new)), above_unheard still);
      above = above_unheard;
      keeps = keeps_from n old s a new rule c below firm.true_is there;
      opens = λ here. opens;
      came =
          let r : Records n (slice_get old.devices n) (seen_at n old) a (slice_get new.devices n) (seen_at n new) =
          rule_records old s a new firm.orderly rule n firm.led in
          let more : (seen_at n old).1 ≤ (seen_at n new).1 =
          records_last n (slice_get old.devices n) (seen_at n old) a (slice_get new.devices n) (seen_at n new) r in
          let is : c ≡ (seen_at n old).1 = ((firm.orderly.knows n).present c there).0 in
          omega (arith, more, is);
    }
      where
        others : Each (IsOf n c) old.upward.frames
        others =
            each_map (IsElsewhere n) (IsOf n c) old.upward.frames
            (λ f other here. absurd (true≢false (sym (eq-eqb f.stamp.port n here) ∙ other))) away

        by_up : UpChange n old s a new → Each (IsOf n c) new.upward.frames
        by_up (Same link none) = subst (Each (IsOf n c)) (sym link) others
        by_up (Rose f link none passes other idle) =
            subst (Each (IsOf n c)) (sym link)
            (each_more (IsOf n c) old.upward.frames f others (λ here. same_Some f.stamp.conn c (sym (passes here).there ∙ there)))
        by_up (Left f link told idle) = (subst (Each (IsOf n c)) link others).1

-- ---- of a connection of which nothing comes any more

pub over_on : (n c : ℕ) → n < 15 → (old : Places) (s : Step) (a : Answer) (new : Places) → Rule old s (Ok a) new → IsFirm n old → IsOver n c old → IsOver n c new
over_on n c below old s a new rule firm h = record {
  up = by_up (up_change n old new below firm.orderly s a rule);
  removed = removed_after old s a new firm.orderly rule n c h.removed;
}
  where
    by_up : UpChange n old s a new → Each (IsNoneOf n c) new.upward.frames
    by_up (Same link none) = subst (Each (IsNoneOf n c)) (sym link) h.up
    by_up (Rose f link none passes other idle) =
        subst (Each (IsNoneOf n c)) (sym link)
        (each_more (IsNoneOf n c) old.upward.frames f h.up
        (λ here same. never_present n c old firm h.removed ((passes here).there ∙ ap (λ (k : ℕ). Some k) same)))
    by_up (Left f link told idle) = (subst (Each (IsNoneOf n c)) link h.up).1

-- so the host takes nothing of it
pub over_takes_none : (n c : ℕ) (old : Places) (s : Step) (port conn number : ℕ) (bytes : List ℕ) (report : TakeReport) (new : Places) → IsFirm n old
    → Rule old s (Ok (answer.Took port conn number bytes report)) new → Each (IsNoneOf n c) old.upward.frames → (port == n) ≡ true → conn ≢ c
over_takes_none n c old s port conn number bytes report new firm rule none here same =
    let m = rule_moves old s (answer.Took port conn number bytes report) new firm.orderly rule in
    (subst (Each (IsNoneOf n c)) m.2.upward none).0 (m.1.port_is ∙ eqb-true port n here) (m.1.conn_is ∙ same)

-- The host flushes the unit or clears its port while nothing of the port is on its link, and the port waits. So the
-- removal is recorded.
pub coming_over : (n c : ℕ) (now : Places) (up : List (List ℕ)) → IsFirm n now → 0 < c → IsComing n c now up → Each (IsElsewhere n) now.upward.frames
    → cleared.Told (registers.port_at now.multiplier.registers n) → IsOver n c now
coming_over n c now up firm some h away told = record {
  up =
      each_map (IsElsewhere n) (IsNoneOf n c) now.upward.frames
      (λ f other here same. true≢false (sym (eq-eqb f.stamp.port n here) ∙ other)) away;
  removed = elim (cases_Bool (is_removed n c now)) [
    | inl gone ↦ gone
    | inr still ↦
        let opens = h.opens (present_still n c now firm some h.came still) in
        let set_is : bit_at (registers.port_at now.multiplier.registers n).error 26 ≡ 1 = told opens.opens opens.there in
        let none : bit_at (registers.port_at now.multiplier.registers n).error 26 ≡ 0 = opens.clear in
        absurd (omega (arith, set_is, none))
  ];
}

-- the host does not flush the unit without an order to clear its port
pub unflushed_by : (n : ℕ) (old : Places) (a : Answer) → orders_clear n old a ≡ false → IsUnflushed n old a
unflushed_by n old answer.Ticked none = λ flush. true≢false (sym (flush_orders n old.host flush) ∙ none)
unflushed_by n old a none = tt

-- ## A unit that is there

of_all : (n c : ℕ) (frames : List Stamped) → ((d : ℕ) → d ≢ c → Each (IsNoneOf n d) frames) → Each (IsOf n c) frames
of_all n c [] none = tt
of_all n c (f ∷ frames) none = (
  λ here. elim (cases_eq f.stamp.conn c) [
    | inl same ↦ same
    | inr other ↦ absurd ((none f.stamp.conn other).0 here refl)
  ],
  of_all n c frames (λ d other. (none d other).1),
)

-- what comes of it, while its port is open to it
pub coming_open : (n c : ℕ) (unsent : Bool) (now : Places) (down up : List (List ℕ)) → IsOpenFor n c unsent now → IsExact n c now down up → IsComing n c now up
coming_open n c unsent now down up o x = record {
  alone = of_all n c now.upward.frames (λ d other. none_of_conn n d now.upward.frames (x.path.alone d other).0);
  on_link = (all_marked n (of_conn c (waiting n now)), x.path.above);
  above = λ still. x.path.above;
  keeps = λ d is other. absurd (other (same_Some d c (sym is ∙ o.live.here)));
  opens = λ here. o.live.opens;
  came = let is : c ≡ (seen_at n now).1 = ((o.firm.orderly.knows n).present c o.live.here).0 in omega (arith, is);
}
