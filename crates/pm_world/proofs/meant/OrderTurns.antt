-- For `none_is_stale`. Each step keeps what is known of slot 31, of port n and of the answers that name it. So the
-- orders to clear a port are in order over every run.
use Rattle.std.proofs.Common.{◌≡◌, ◌≢◌, ℕ, ◌*◌, ◌^◌, ◌<◌, ◌≤◌, ◌==◌, ◌&&◌, Bool, true, false, not, bit_and, All, List, [], ◌∷◌, ◌++◌, length, drop, Option, Some, None, Ok, refl, sym, ap, subst, ◌∙◌, inl, inr, arith}
use Rattle.std.specs.{Prelude.{if◌then◌else◌, nat_le, ◌%◌, ◌||◌}, Int.bit_at, List.list_any}
use Rattle.std.proofs.lemmas.Bool.{and_from, and_parts, cases_Bool, cases_eq, eq-eqb, eqb-true, leb-true, ne_eqb, false≢true, true≢false}
use Rattle.std.proofs.lemmas.{Bool.{false_from_ne_true, true_from_ne_false}, Nat.Bits.and_pow}
use Rattle.fis_view.specs.Frames.{Stamped}
use Rattle.host_memory.specs.Memory.{zeroed}
use Rattle.hba_fbs.specs.{Taking.port_of, declared.report.TakeReport.TakeReport}
use Rattle.hba_driver.specs.{declared.{mode.Mode.TheVariants.Switching, order.Order.TheVariants.{ResetOff, Scan, Clear}}, Drivers.Driver}
use Rattle.hba_driver.specs.{HostTurns.{Does, Host, HostTurn, Polled, Pushed, Put, Submitted, Ticked, Took}, Scans.{Finds, IsFound, ScansOn, found}}
use Rattle.hba_driver.specs.Slot31.{Asks, Fails, Follows31, IsAt31, IsNext31, MayBe31, Resets, Rests, Signs, Stage31, Stands31, TakesOn, TicksOn}
use Rattle.hba_driver.specs.{Slot31.{Waits, is_idle, is_pending, is_quiet}, Between.{AreOfTheir, IsGoing}}
use Rattle.hba_driver.specs.Slot31 as slot31
use Rattle.hba_driver.proofs.Door.{found_opens, going_opens, none_issued, opens31, poll_plan, scans_on, turn_addressed, zeroed_right}
use Rattle.pm_control.specs.Requests.{request_in}
use Rattle.pm_registers.specs.{Bits.shares, Port.bit_x}
use Rattle.multiplier.specs.{Arbiter.control_port, State.{PmState, pm_port}}
use Rattle.pm_world.specs.{Attached.Attached, Cleared.clears_x, Downward.pushed_by, Places.{Places, Queue, is_config, new_world}, Rules.{Rule, Run}}
use Rattle.pm_world.specs.{declared.{step.Config.Config, step.Step.Step, step.Answer.Answer}, Line.{AreNotices, OnLine, is_reply}}
use Rattle.pm_world.specs.Stale.{InOrder, IsInOrder, NoneIsStale, is_clear, is_from, orders_clear, unsent_after}
use Rattle.pm_world.specs.declared.step.Step.TheVariants as step
use Rattle.pm_world.specs.declared.step.Answer.TheVariants as answer
use Rattle.pm_world.proofs.{turns.Delivery.sized, steps.Orderly.opening_orderly, upward.PortMarks.{HasPortMark, opening_marks}}
use Rattle.pm_world.proofs.control_port.LineLemmas.{awaited_reply, heard_line, may_come, pushed_line, taken_line, tick_line, turned}
use Rattle.pm_world.proofs.control_port.ListLemmas.{line_passes, line_quiet, line_reply, line_rises, line_up, line_waits, notices_app}
use Rattle.pm_world.proofs.meant.ChangeLemmas.{Change, Falls, Hears, IsOfHost, IsPlain, IsSilent, Replies, Rises, Stays, Takes, Turns, plain_change}
use Rattle.pm_world.proofs.{meant.ChangeLemmas.tick_step, ports.EachLemmas.{Nothing, any_one, each_more}, meant.IdentifiedLemmas.push_step}
use Rattle.pm_world.proofs.ports.KeepingLemmas.{drop_own, opening_true}
use Rattle.pm_world.proofs.meant.OrderLemmas.{Held, IsScanning, IsShut, Knows, Only, Tells, fit_now, held_on, none_clean, none_named, none_only}
use Rattle.pm_world.proofs.meant.OrderLemmas.{only_clean, only_now, order_in, orderly_now, plain_orders, plain_pushed, plain_shut, plain_unsent}
use Rattle.pm_world.proofs.meant.{OrderLemmas.{risen_now, scan_now, shut_on, true_now}, PortLemmas.{AreFit, WritesChanges, opening_fit}}
use Rattle.pm_world.proofs.meant.RequestLemmas.{IsScan, asked, clears_order, order_asks, order_changes, order_clears}
use Rattle.pm_world.proofs.meant.StaleLemmas.{ordered_is_not_stale}

-- ## A turn of the host

record IsAfter (n : ℕ) (stage : Stage31) (old : Host) (t : HostTurn) (new : Host) : Type 0 where
  next : Stage31
  going : IsGoing new
  their : AreOfTheir new.port
  at : IsAt31 next new
  is : IsNext31 stage old t new next
  stands : Stands31 stage old t new next
  scan : ScansOn n stage old t new
  plan : IsFound new.driver.plan

-- a port that is found now was found before, if the turn takes no answer that names it
found_before : (n : ℕ) (stage : Stage31) (old : Host) (t : HostTurn) (new : Host) → ScansOn n stage old t new → (Finds n stage old t → ⊥) → found n new ≡ true → found n old ≡ true
found_before n stage old t new scan never now = true_from_ne_false (found n old) (λ none. never (scan.begins none now))

silent_may : (stage : Stage31) (t : HostTurn) → IsSilent t → MayBe31 stage t
silent_may stage (Took frame report) silent = absurd silent
silent_may stage t silent = tt

silent_next : (stage : Stage31) (old : Host) (t : HostTurn) (new : Host) (next : Stage31) → IsSilent t → IsNext31 stage old t new next → next ≡ stage
silent_next stage old (Took frame report) new next silent is = absurd silent
silent_next stage old (Pushed (Some frame)) new next silent is = absurd silent
silent_next stage old (Ticked acted) new next silent is = absurd silent
silent_next stage old other new next silent is = is

silent_order : (old : Host) (t : HostTurn) (new : Host) → IsSilent t → Does old t new → new.driver.plan.order ≡ old.driver.plan.order
silent_order old (Pushed None) new silent does = ap (λ (d : Driver). d.plan.order) does.driver
silent_order old (Submitted dev request ticket) new silent does = ap (λ (d : Driver). d.plan.order) does.taken.driver
silent_order old (Polled completion) new silent does = ap (λ (d : Driver). d.plan.order) does.driver ∙ ap (λ p. p.order) (poll_plan old.driver)
silent_order old (Put at bytes) new silent does = ap (λ (d : Driver). d.plan.order) does.driver
silent_order old other new silent does = absurd silent

silent_finds : (n : ℕ) (stage : Stage31) (old : Host) (t : HostTurn) → IsSilent t → Finds n stage old t → ⊥
silent_finds n stage old (Took frame report) silent finds = absurd silent
silent_finds n stage old t silent finds = finds

-- ## Lists

nothing_any : (test : Stamped → Bool) (frames : List Stamped) → Nothing test frames → list_any test frames ≡ false
nothing_any test [] h = refl
nothing_any test (f ∷ frames) h = ap (λ (b : Bool). b || list_any test frames) h.0 ∙ nothing_any test frames h.1

-- a bit that is set is shared
x_shares : (error : ℕ) → bit_at error 26 ≡ 1 → shares error bit_x ≡ true
x_shares error is =
    let e : bit_and error bit_x ≡ bit_at error 26 * 2 ^ 26 = and_pow error 26 in
    ap not (ne_eqb (bit_and error bit_x) 0 (λ none. absurd (omega (arith, e, is, none))))

pushes_on : (b clears unsent : Bool) → b ≡ clears → (if b then false else unsent) ≡ (if clears then false else unsent)
pushes_on b clears unsent same = ap (λ (c : Bool). if c then false else unsent) same

module _ (n : ℕ) (below : n < 15) (unsent : Bool) (old : Places) (k : Knows n unsent old) where
  after : (t : HostTurn) (new : Host) → Does old.host t new → MayBe31 k.stage t → IsAfter n k.stage old.host t new
  after t new does may =
      let r = turned k.stage old.host t new does k.going k.their k.is.at may in
      let s = scans_on n below k.stage r.turned.next old.host t new does k.going r.going k.is.at r.turned.at r.turned.is k.plan in
      record { next = r.turned.next; going = r.going; their = r.their; at = r.turned.at; is = r.turned.is; stands = r.turned.stands; scan = s.0; plan = s.1 }

  -- what is on its way, by what it was
  line_by : (stage : Stage31) (down : List Stamped) (waits : Option Stamped) (up : List Stamped) (new : Places) → new.downward.frames ≡ down → new.multiplier.answer ≡ waits → new.upward.frames ≡ up → OnLine stage down waits up
      → OnLine stage new.downward.frames new.multiplier.answer new.upward.frames
  line_by stage down waits up new d w u line =
      subst (λ (x : List Stamped). OnLine stage x new.multiplier.answer new.upward.frames) (sym d)
      (subst (λ (o : Option Stamped). OnLine stage down o new.upward.frames) (sym w)
      (subst (λ (x : List Stamped). OnLine stage down waits x) (sym u) line))

  -- GSCR[32] goes on being read if the multiplier and its links are as they were
  scan_same : (new : Places) → new.multiplier ≡ old.multiplier → new.downward.frames ≡ old.downward.frames → new.upward.frames ≡ old.upward.frames → IsScanning n old → IsScanning n new
  scan_same new pm down up scan = record {
    down = subst (Only IsScan) (sym down) scan.down;
    waits = λ g is named. subst (λ (m : PmState). Held n (record old { multiplier = m })) (sym pm) (scan.waits g (sym (ap (λ (m : PmState). m.answer) pm) ∙ is) named);
    up = subst (Tells n (Held n new)) (sym up) (subst (λ (m : PmState). Tells n (Held n (record old { multiplier = m })) old.upward.frames) (sym pm) scan.up);
  }

  -- ---- a step that is not a tick, and in which the host puts no frame on its link

  module _ (s : Step) (a : Answer) (new : Places) (rule : Rule old s (Ok a) new) (plain : IsPlain a) where
    -- the host is as it was
    aside : Change old s a new → new.host ≡ old.host → OnLine k.stage new.downward.frames new.multiplier.answer new.upward.frames → AreNotices new.upward.frames → Knows n unsent new
    aside c host line notices = record {
      going = subst IsGoing (sym host) k.going;
      their = subst (λ (h : Host). AreOfTheir h.port) (sym host) k.their;
      risen = risen_now n below unsent old s a new rule k;
      orderly = orderly_now n below unsent old s a new rule k;
      true_is = true_now n below unsent old s a new rule k;
      fit = fit_now n below unsent old s a new rule k c;
      writes = only_now n below unsent old s a new rule k (λ (f : Stamped). WritesChanges (request_in f.bytes)) c k.writes;
      stage = k.stage;
      is = record { at = subst (IsAt31 k.stage) (sym host) k.is.at; line = line; notices = notices };
      plan = subst (λ (h : Host). IsFound h.driver.plan) (sym host) k.plan;
      out = λ u. let o = k.out u in (o.0, ap (λ (h : Host). h.driver.plan.order) host ∙ o.1);
      due = λ w o. k.due w (sym (ap (λ (h : Host). h.driver.plan.order) host) ∙ o);
      scanning = λ w o. scan_now n below unsent old s a new rule k (k.scanning w (sym (ap (λ (h : Host). h.driver.plan.order) host) ∙ o)) c;
      shut = λ f. plain_shut n below unsent old s a new rule k plain (k.shut (sym (ap (found n) host) ∙ f));
    }

    -- the host takes a frame
    takes : (f : Stamped) (report : TakeReport) → IsOfHost (Took f.bytes report) old new → new.downward.frames ≡ old.downward.frames → old.upward.frames ≡ f ∷ new.upward.frames → Knows n unsent new
    takes f report of down link = record {
      going = h.going;
      their = h.their;
      risen = risen_now n below unsent old s a new rule k;
      orderly = orderly_now n below unsent old s a new rule k;
      true_is = true_now n below unsent old s a new rule k;
      fit = fit_now n below unsent old s a new rule k (Takes f report of down link);
      writes = only_now n below unsent old s a new rule k (λ (g : Stamped). WritesChanges (request_in g.bytes)) (Takes f report of down link) k.writes;
      stage = h.next;
      is = record {
        at = h.at;
        line = line_by h.next old.downward.frames old.multiplier.answer new.upward.frames new down (ap (λ (m : PmState). m.answer) of.pm) refl
            (taken_line old.downward.frames old.multiplier.answer new.upward.frames f old.host new.host report k.stage port h.next h.is line notices);
        notices = notices.1;
      };
      plan = h.plan;
      out = λ u. let o = k.out u in (goes_on o.0, same ∙ o.1);
      due = λ w o. k.due (h.stands w) (sym same ∙ o);
      scanning = λ w o. scan_now n below unsent old s a new rule k (k.scanning (asked_before w) (sym same ∙ o)) (Takes f report of down link);
      shut = λ is. elim (cases_Bool (found n old.host)) [
        | inl was ↦ plain_shut n below unsent old s a new rule k plain (k.shut was)
        | inr none ↦ named (h.scan.begins none is)
      ];
    }
      where
        risen : HasPortMark f
        risen = (subst (λ (frames : List Stamped). All HasPortMark frames) link k.risen.frames) 0 f (omega arith)

        port : port_of f.bytes ≡ f.stamp.port
        port = risen.pm_port of.does.framed

        line : OnLine k.stage old.downward.frames old.multiplier.answer (f ∷ new.upward.frames)
        line = subst (λ (frames : List Stamped). OnLine k.stage old.downward.frames old.multiplier.answer frames) link k.is.line

        notices : AreNotices (f ∷ new.upward.frames)
        notices = subst AreNotices link k.is.notices

        h : IsAfter n k.stage old.host (Took f.bytes report) new.host
        h = after (Took f.bytes report) new.host of.does (λ own. may_come k.stage old.downward.frames new.upward.frames old.multiplier.answer f (sym port ∙ own) line notices)

        same : order_in new ≡ order_in old
        same = ap (λ (d : Driver). d.plan.order) of.does.driver

        waits_on : (next : Stage31) → k.stage ≡ Waits → TakesOn k.stage f.bytes next → next ≡ Waits
        waits_on next w (inl is) = is.0 ∙ w
        waits_on next w (inr (quiet, inl is)) = let bad : Asks ≡ Waits = sym is.0 ∙ w in absurd (cc)
        waits_on next w (inr (quiet, inr is)) = let bad : Signs ≡ Waits = sym is.0 ∙ w in absurd (cc)

        goes_on : k.stage ≡ Waits → h.next ≡ Waits
        goes_on w = elim (cases_eq (port_of f.bytes) control_port) [
          | inl own ↦ waits_on h.next w (h.is.0 own)
          | inr other ↦ h.is.1 other ∙ w
        ]

        asks_on : (next : Stage31) → next ≡ Asks → TakesOn k.stage f.bytes next → k.stage ≡ Asks
        asks_on next w (inl is) = sym is.0 ∙ w
        asks_on next w (inr is) = absurd (false≢true (sym (ap is_quiet w) ∙ is.0))

        asked_before : h.next ≡ Asks → k.stage ≡ Asks
        asked_before w = elim (cases_eq (port_of f.bytes) control_port) [
          | inl own ↦ asks_on h.next w (h.is.0 own)
          | inr other ↦ sym (h.is.1 other) ∙ w
        ]

        -- it is the answer, and it names port n
        named : Finds n k.stage old.host (Took f.bytes report) → IsShut n unsent new
        named w =
            let scan : IsScanning n old = k.scanning w.asks w.order in
            let reply : is_reply f ≡ true = awaited_reply Asks f (sym port ∙ w.own) w.answer in
            let told = (subst (Tells n (Held n old)) link scan.up).0 reply w.bit in
            let quiet = line_reply k.stage old.downward.frames new.upward.frames old.multiplier.answer f reply line in
            record {
              held = held_on n below unsent old s a new rule k (only_clean n old.downward.frames scan.down) told.0;
              away = told.1;
              sent = false_from_ne_true unsent (λ u. let bad : Asks ≡ Waits = sym w.asks ∙ (k.out u).0 in absurd (cc));
              clean = subst (Nothing (is_clear n)) (sym down) (none_clean n old.downward.frames quiet.1);
            }

    -- the host has another turn
    turns_on : (t : HostTurn) (silent : IsSilent t) → IsOfHost t old new → new.downward.frames ≡ old.downward.frames → new.upward.frames ≡ old.upward.frames → Knows n unsent new
    turns_on t silent of down up = record {
      going = h.going;
      their = h.their;
      risen = risen_now n below unsent old s a new rule k;
      orderly = orderly_now n below unsent old s a new rule k;
      true_is = true_now n below unsent old s a new rule k;
      fit = fit_now n below unsent old s a new rule k (Turns t silent of down up);
      writes = only_now n below unsent old s a new rule k (λ (g : Stamped). WritesChanges (request_in g.bytes)) (Turns t silent of down up) k.writes;
      stage = h.next;
      is = record {
        at = h.at;
        line = line_by h.next old.downward.frames old.multiplier.answer old.upward.frames new down (ap (λ (m : PmState). m.answer) of.pm) up
            (subst (λ (x : Stage31). OnLine x old.downward.frames old.multiplier.answer old.upward.frames) (sym next) k.is.line);
        notices = subst AreNotices (sym up) k.is.notices;
      };
      plan = h.plan;
      out = λ u. let o = k.out u in (next ∙ o.0, same ∙ o.1);
      due = λ w o. k.due (sym next ∙ w) (sym same ∙ o);
      scanning = λ w o. scan_now n below unsent old s a new rule k (k.scanning (sym next ∙ w) (sym same ∙ o)) (Turns t silent of down up);
      shut = λ is. plain_shut n below unsent old s a new rule k plain (k.shut (found_before n k.stage old.host t new.host h.scan (silent_finds n k.stage old.host t silent) is));
    }
      where
        h : IsAfter n k.stage old.host t new.host
        h = after t new.host of.does (silent_may k.stage t silent)

        next : h.next ≡ k.stage
        next = silent_next k.stage old.host t new.host h.next silent h.is

        same : order_in new ≡ order_in old
        same = silent_order old.host t new.host silent of.does

    plain_knows : Change old s a new → Knows n unsent new
    plain_knows (Stays quiet waits up) =
        aside (Stays quiet waits up) quiet.host (line_by k.stage old.downward.frames old.multiplier.answer old.upward.frames new quiet.down waits up k.is.line) (subst AreNotices (sym up) k.is.notices)
    plain_knows (Hears f host link own regs none is up) =
        aside (Hears f host link own regs none is up) host
        (line_by k.stage new.downward.frames new.multiplier.answer old.upward.frames new refl refl up
        (heard_line k.stage new.downward.frames old.upward.frames f old.multiplier new.multiplier own none is (subst (λ (frames : List Stamped). OnLine k.stage frames old.multiplier.answer old.upward.frames) link k.is.line)))
        (subst AreNotices (sym up) k.is.notices)
    plain_knows (Falls f host link other bank waits up) =
        aside (Falls f host link other bank waits up) host
        (line_by k.stage new.downward.frames old.multiplier.answer old.upward.frames new refl waits up
        (line_passes k.stage new.downward.frames old.upward.frames old.multiplier.answer f other (subst (λ (frames : List Stamped). OnLine k.stage frames old.multiplier.answer old.upward.frames) link k.is.line)))
        (subst AreNotices (sym up) k.is.notices)
    plain_knows (Rises f quiet not_reply notice other waits up) =
        aside (Rises f quiet not_reply notice other waits up) quiet.host
        (line_by k.stage old.downward.frames old.multiplier.answer (old.upward.frames ++ f ∷ []) new quiet.down waits up (line_up k.stage old.downward.frames old.upward.frames old.multiplier.answer f not_reply k.is.line))
        (subst AreNotices (sym up) (notices_app old.upward.frames f k.is.notices (λ own plain_one. notice own)))
    plain_knows (Replies f quiet other is none up) =
        let port : f.stamp.port ≡ control_port = k.orderly.answer f is in
        let line = subst (λ (o : Option Stamped). OnLine k.stage old.downward.frames o old.upward.frames) is k.is.line in
        aside (Replies f quiet other is none up) quiet.host
        (line_by k.stage old.downward.frames None (old.upward.frames ++ f ∷ []) new quiet.down none up (line_rises k.stage old.downward.frames old.upward.frames f (awaited_reply k.stage f port) line))
        (subst AreNotices (sym up) (notices_app old.upward.frames f k.is.notices (λ own plain_one.
        absurd (false≢true (sym plain_one ∙ awaited_reply k.stage f port (line_waits k.stage old.downward.frames old.upward.frames f line))))))
    plain_knows (Takes f report of down up) = takes f report of down up
    plain_knows (Turns t silent of down up) = turns_on t silent of down up

    none_ordered : orders_clear n old a ≡ true → ⊥
    none_ordered flushed = true≢false (sym flushed ∙ plain_orders n old a plain)

    plain_order : IsInOrder n unsent old s a new
    plain_order = record {
      sent = λ flushed. absurd (none_ordered flushed);
      taken = λ flushed. absurd (none_ordered flushed);
      away = λ flushed. absurd (none_ordered flushed);
      waits = λ flushed. absurd (none_ordered flushed);
      once = λ some. absurd (false≢true (sym (ap (list_any (is_clear n)) (plain_pushed old s a new plain)) ∙ some));
    }

    plain_step : IsInOrder n unsent old s a new × Knows n (unsent_after n unsent old s a new) new
    plain_step = (plain_order, subst (λ (b : Bool). Knows n b new) (sym (plain_unsent n below unsent old s a new rule k plain)) (plain_knows (plain_change old new s a plain rule)))

  -- ---- a tick

  module _ (new : Places) (rule : Rule old step.Tick (Ok answer.Ticked) new) where
    h : IsAfter n k.stage old.host (Ticked true) new.host
    h = after (Ticked true) new.host rule.0 tt

    pm : new.multiplier ≡ old.multiplier
    pm = ap (λ (w : Places). w.multiplier) rule.1

    down : new.downward.frames ≡ old.downward.frames
    down = ap (λ (w : Places). w.downward.frames) rule.1

    up : new.upward.frames ≡ old.upward.frames
    up = ap (λ (w : Places). w.upward.frames) rule.1

    abbrev flushes_it : Bool
    flushes_it = slot31.orders_clear n old.host

    abbrev ticked : Bool
    ticked = unsent_after n unsent old step.Tick answer.Ticked new

    ticked_idle : flushes_it ≡ false → ticked ≡ unsent
    ticked_idle idle = ap (λ (b : Bool). if b then true else unsent) idle

    ticked_out : ticked ≡ true → (h.next ≡ Waits) × (order_in new ≡ Clear n)
    ticked_out u = elim (cases_Bool flushes_it) [
      | inl flushed ↦ let c = h.is.clears n flushed in (c.0, c.1)
      | inr idle ↦
          let o = k.out (sym (ticked_idle idle) ∙ u) in
          (waits_on h.next o.0 h.is.stays, h.stands.0 (ap is_pending o.0) ∙ o.1)
    ]
      where
        waits_on : (next : Stage31) → k.stage ≡ Waits → TicksOn k.stage next → next ≡ Waits
        waits_on next w (inl (inl same)) = same ∙ w
        waits_on next w (inl (inr is)) = absurd (false≢true (sym (ap is_idle w) ∙ is.0))
        waits_on next w (inr is) = let bad : Fails ≡ Waits = sym is.0 ∙ w in absurd (cc)

    ticked_due : h.next ≡ Waits → order_in new ≡ Clear n → ticked ≡ true
    ticked_due w o = elim (cases_Bool flushes_it) [
      | inl flushed ↦ ap (λ (b : Bool). if b then true else unsent) flushed
      | inr idle ↦ ticked_idle idle ∙ by_stay idle h.next w h.stands h.is.stays
    ]
      where
        by_stay : flushes_it ≡ false → (next : Stage31) → next ≡ Waits → Stands31 k.stage old.host (Ticked true) new.host next → TicksOn k.stage next → unsent ≡ true
        by_stay idle next w stands (inl (inl same)) =
            let was : k.stage ≡ Waits = sym same ∙ w in
            k.due was (sym (stands.0 (ap is_pending was)) ∙ o)
        by_stay idle next w stands (inl (inr is)) = absurd (false≢true (sym idle ∙ stands.1 n w is.0 o))
        by_stay idle next w stands (inr is) = let bad : Rests ≡ Waits = sym is.1 ∙ w in absurd (cc)

    asked_before : (next : Stage31) → next ≡ Asks → TicksOn k.stage next → k.stage ≡ Asks
    asked_before next w (inl (inl same)) = sym same ∙ w
    asked_before next w (inl (inr is)) = absurd (false≢true (sym (ap is_quiet w) ∙ is.1))
    asked_before next w (inr is) = let bad : Rests ≡ Asks = sym is.1 ∙ w in absurd (cc)

    ticked_scan : h.next ≡ Asks → order_in new ≡ Scan → IsScanning n new
    ticked_scan w o =
        let was : k.stage ≡ Asks = asked_before h.next w h.is.stays in
        scan_same new pm down up (k.scanning was (sym (h.stands.0 (ap is_pending was)) ∙ o))

    ticked_shut : found n new.host ≡ true → IsShut n ticked new
    ticked_shut is = elim (cases_Bool flushes_it) [
      | inl flushed ↦ absurd (true≢false (sym is ∙ (h.scan.clears flushed).1))
      | inr idle ↦
          shut_on n below unsent old step.Tick answer.Ticked new rule k idle (λ some. absurd (false≢true some))
          (k.shut (found_before n k.stage old.host (Ticked true) new.host h.scan (λ never. never) is))
    ]

    ticked_knows : Knows n ticked new
    ticked_knows = record {
      going = h.going;
      their = h.their;
      risen = risen_now n below unsent old step.Tick answer.Ticked new rule k;
      orderly = orderly_now n below unsent old step.Tick answer.Ticked new rule k;
      true_is = true_now n below unsent old step.Tick answer.Ticked new rule k;
      fit = subst (λ (m : PmState). AreFit m.registers) (sym pm) k.fit;
      writes = subst (Only (λ (g : Stamped). WritesChanges (request_in g.bytes))) (sym down) k.writes;
      stage = h.next;
      is = record {
        at = h.at;
        line = line_by h.next old.downward.frames old.multiplier.answer old.upward.frames new down (ap (λ (m : PmState). m.answer) pm) up
            (tick_line old.downward.frames old.multiplier.answer old.upward.frames k.stage h.next h.is.stays k.is.line);
        notices = subst AreNotices (sym up) k.is.notices;
      };
      plan = h.plan;
      out = ticked_out;
      due = ticked_due;
      scanning = ticked_scan;
      shut = ticked_shut;
    }

    -- if it orders that port n be cleared, the port was found
    shut_before : orders_clear n old answer.Ticked ≡ true → IsShut n unsent old
    shut_before flushed = k.shut (h.scan.clears flushed).0

    ticked_order : IsInOrder n unsent old step.Tick answer.Ticked new
    ticked_order = record {
      sent = λ flushed. (shut_before flushed).sent;
      taken = λ flushed. nothing_any (is_clear n) old.downward.frames (shut_before flushed).clean;
      away = λ flushed. nothing_any (is_from n) old.upward.frames (shut_before flushed).away;
      waits = λ flushed opens there. x_shares _ ((shut_before flushed).held opens there);
      once = λ some. absurd (false≢true some);
    }

  -- ---- the host puts a frame on its link

  module _ (new : Places) (rule : Rule old step.HostPush (Ok answer.Pushed) new) where
    abbrev f : Stamped
    f = rule.0.1.0

    does : Does old.host (Pushed (Some f)) new.host
    does = rule.0.1.1

    p : IsAfter n k.stage old.host (Pushed (Some f)) new.host
    p = after (Pushed (Some f)) new.host does tt

    pm_same : new.multiplier ≡ old.multiplier
    pm_same = ap (λ (w : Places). w.multiplier) rule.1

    link : new.downward.frames ≡ old.downward.frames ++ f ∷ []
    link = ap (λ (q : Queue). q.frames) rule.0.1.2

    up_same : new.upward.frames ≡ old.upward.frames
    up_same = ap (λ (w : Places). w.upward.frames) rule.1

    same_order : order_in new ≡ order_in old
    same_order = ap (λ (d : Driver). d.plan.order) does.driver

    port : pm_port f ≡ f.stamp.port
    port = turn_addressed old.host (Pushed (Some f)) new.host does k.going.way.sound k.their

    abbrev after_push : Bool
    after_push = unsent_after n unsent old step.HostPush answer.Pushed new

    one : pushed_by old step.HostPush answer.Pushed new ≡ f ∷ []
    one = ap (λ (l : List Stamped). drop (length old.downward.frames) l) link ∙ drop_own old.downward.frames (f ∷ [])

    any_is : list_any (is_clear n) (pushed_by old step.HostPush answer.Pushed new) ≡ is_clear n f
    any_is = ap (list_any (is_clear n)) one ∙ any_one (is_clear n) f

    now_is : after_push ≡ (if is_clear n f then false else unsent)
    now_is = pushes_on (list_any (is_clear n) (pushed_by old step.HostPush answer.Pushed new)) (is_clear n f) unsent any_is

    -- it is the command of the order
    asks_it : f.stamp.port ≡ control_port → request_in f.bytes ≡ asked (order_in old)
    asks_it own =
        let q = p.is.0 own in
        ap request_in q.bytes ∙ order_asks q.unsent.fields q.unsent.command.cfis q.unsent.built (order_in old) q.unsent.are

    clear_ordered : is_clear n f ≡ true → (k.stage ≡ Waits) × (order_in old ≡ Clear n)
    clear_ordered clears =
        let both = and_parts (pm_port f == control_port) (clears_x n (request_in f.bytes)) clears in
        let own : f.stamp.port ≡ control_port = sym port ∙ eqb-true (pm_port f) control_port both.0 in
        let order : order_in old ≡ Clear n = clears_order n (order_in old) k.is.at.low (sym (ap (clears_x n) (asks_it own)) ∙ both.1) in
        (by_way p.next order (p.is.0 own).follows, order)
      where
        by_way : (next : Stage31) → order_in old ≡ Clear n → Follows31 k.stage (order_in old) next → k.stage ≡ Waits
        by_way next order (inl w) = w.0
        by_way next order (inr (inl w)) = w.0
        by_way next order (inr (inr w)) = let bad : ResetOff ≡ Clear n = sym w.1 ∙ order in absurd (cc)

    once : list_any (is_clear n) (pushed_by old step.HostPush answer.Pushed new) ≡ true → unsent ≡ true
    once some = let c = clear_ordered (sym any_is ∙ some) in k.due c.0 c.1

    order_is_clear : f.stamp.port ≡ control_port → order_in old ≡ Clear n → is_clear n f ≡ true
    order_is_clear own order =
        and_from (pm_port f == control_port) (clears_x n (request_in f.bytes)) (eq-eqb (pm_port f) control_port (port ∙ own))
        (ap (clears_x n) (asks_it own ∙ ap asked order) ∙ order_clears n below)

    not_clear : f.stamp.port ≢ control_port → is_clear n f ≡ false
    not_clear other = ap (λ (b : Bool). b && clears_x n (request_in f.bytes)) (ne_eqb (pm_port f) control_port (λ own. other (sym port ∙ own)))

    pushed_out : after_push ≡ true → (p.next ≡ Waits) × (order_in new ≡ Clear n)
    pushed_out u = elim (cases_Bool (is_clear n f)) [
      | inl clears ↦ absurd (false≢true (sym (now_is ∙ ap (λ (b : Bool). if b then false else unsent) clears) ∙ u))
      | inr still ↦
          let o = k.out (sym (now_is ∙ ap (λ (b : Bool). if b then false else unsent) still) ∙ u) in
          elim (cases_eq f.stamp.port control_port) [
            | inl own ↦ absurd (false≢true (sym still ∙ order_is_clear own o.1))
            | inr other ↦ (p.is.1 other ∙ o.0, same_order ∙ o.1)
          ]
    ]

    never_waits : (next : Stage31) → next ≡ Waits → Follows31 k.stage (order_in old) next → ⊥
    never_waits next w (inl is) = let bad : Resets ≡ Waits = sym is.2 ∙ w in cc
    never_waits next w (inr (inl is)) = let bad : Asks ≡ Waits = sym is.2 ∙ w in cc
    never_waits next w (inr (inr is)) = let bad : Signs ≡ Waits = sym is.2 ∙ w in cc

    pushed_due : p.next ≡ Waits → order_in new ≡ Clear n → after_push ≡ true
    pushed_due w o = elim (cases_eq f.stamp.port control_port) [
      | inl own ↦ absurd (never_waits p.next w (p.is.0 own).follows)
      | inr other ↦ now_is ∙ (ap (λ (b : Bool). if b then false else unsent) (not_clear other) ∙ k.due (sym (p.is.1 other) ∙ w) (sym same_order ∙ o))
    ]

    waited_before : (next : Stage31) → next ≡ Asks → Follows31 k.stage (order_in old) next → k.stage ≡ Waits
    waited_before next w (inl is) = is.0
    waited_before next w (inr (inl is)) = is.0
    waited_before next w (inr (inr is)) = let bad : Signs ≡ Asks = sym is.2 ∙ w in absurd (cc)

    -- the read of GSCR[32] goes out
    scan_goes : f.stamp.port ≡ control_port → k.stage ≡ Waits → order_in old ≡ Scan → IsScanning n new
    scan_goes own w order =
        let quiet = line_quiet k.stage old.downward.frames old.upward.frames old.multiplier.answer (ap is_quiet w) k.is.line in
        record {
          down = subst (Only IsScan) (sym link) (each_more (λ (g : Stamped). pm_port g ≡ control_port → IsScan g) old.downward.frames f (none_only IsScan old.downward.frames quiet.0) (λ own_again. asks_it own ∙ ap asked order));
          waits = λ g there named. let bad : None ≡ Some g = sym (ap (λ (m : PmState). m.answer) pm_same ∙ quiet.1) ∙ there in absurd (cc);
          up = subst (Tells n (Held n new)) (sym up_same) (none_named n (Held n new) old.upward.frames quiet.2);
        }

    scan_more : f.stamp.port ≢ control_port → IsScanning n old → IsScanning n new
    scan_more other scan = record {
      down = subst (Only IsScan) (sym link) (each_more (λ (g : Stamped). pm_port g ≡ control_port → IsScan g) old.downward.frames f scan.down (λ own. absurd (other (sym port ∙ own))));
      waits = λ g is named. subst (λ (m : PmState). Held n (record old { multiplier = m })) (sym pm_same) (scan.waits g (sym (ap (λ (m : PmState). m.answer) pm_same) ∙ is) named);
      up = subst (Tells n (Held n new)) (sym up_same) (subst (λ (m : PmState). Tells n (Held n (record old { multiplier = m })) old.upward.frames) (sym pm_same) scan.up);
    }

    pushed_scan : p.next ≡ Asks → order_in new ≡ Scan → IsScanning n new
    pushed_scan w o = elim (cases_eq f.stamp.port control_port) [
      | inl own ↦ scan_goes own (waited_before p.next w (p.is.0 own).follows) (sym same_order ∙ o)
      | inr other ↦ scan_more other (k.scanning (sym (p.is.1 other) ∙ w) (sym same_order ∙ o))
    ]

    pushed_knows : Knows n after_push new
    pushed_knows = record {
      going = p.going;
      their = p.their;
      risen = risen_now n below unsent old step.HostPush answer.Pushed new rule k;
      orderly = orderly_now n below unsent old step.HostPush answer.Pushed new rule k;
      true_is = true_now n below unsent old step.HostPush answer.Pushed new rule k;
      fit = subst (λ (m : PmState). AreFit m.registers) (sym pm_same) k.fit;
      writes =
          subst (Only (λ (g : Stamped). WritesChanges (request_in g.bytes))) (sym link)
          (each_more (λ (g : Stamped). pm_port g ≡ control_port → WritesChanges (request_in g.bytes)) old.downward.frames f k.writes (λ own.
          subst WritesChanges (sym (asks_it (sym port ∙ own))) (order_changes (order_in old))));
      stage = p.next;
      is = record {
        at = p.at;
        line = line_by p.next (old.downward.frames ++ f ∷ []) old.multiplier.answer old.upward.frames new link (ap (λ (m : PmState). m.answer) pm_same) up_same
            (pushed_line old.downward.frames old.multiplier.answer old.upward.frames f old.host new.host k.stage port k.is.line p.next p.is);
        notices = subst AreNotices (sym up_same) k.is.notices;
      };
      plan = p.plan;
      out = pushed_out;
      due = pushed_due;
      scanning = pushed_scan;
      shut = λ is.
          shut_on n below unsent old step.HostPush answer.Pushed new rule k refl once
          (k.shut (found_before n k.stage old.host (Pushed (Some f)) new.host p.scan (λ never. never) is));
    }

    pushed_in_order : IsInOrder n unsent old step.HostPush answer.Pushed new
    pushed_in_order = record {
      sent = λ flushed. absurd (false≢true flushed);
      taken = λ flushed. absurd (false≢true flushed);
      away = λ flushed. absurd (false≢true flushed);
      waits = λ flushed. absurd (false≢true flushed);
      once = once;
    }

  -- ---- each step

  abbrev pub Steps : Step → Answer → Places → Type 0
  Steps s a new = IsInOrder n unsent old s a new × Knows n (unsent_after n unsent old s a new) new

  pub order_step : (s : Step) (a : Answer) (new : Places) → Rule old s (Ok a) new → Steps s a new
  order_step s answer.Ticked new rule =
      let e : s ≡ step.Tick = tick_step old s new rule in
      let is : Rule old step.Tick (Ok answer.Ticked) new = subst (λ (t : Step). Rule old t (Ok answer.Ticked) new) e rule in
      subst (λ (t : Step). Steps t answer.Ticked new) (sym e) (ticked_order new is, ticked_knows new is)
  order_step s answer.Pushed new rule =
      let e : s ≡ step.HostPush = push_step old s new rule in
      let is : Rule old step.HostPush (Ok answer.Pushed) new = subst (λ (t : Step). Rule old t (Ok answer.Pushed) new) e rule in
      subst (λ (t : Step). Steps t answer.Pushed new) (sym e) (pushed_in_order new is, pushed_knows new is)
  order_step s a new rule = plain_step s a new rule tt

-- ## A run

module _ (n : ℕ) (below : n < 15) where
  in_order : (unsent : Bool) (old : Places) (steps : List Step) (answers : List Answer) (new : Places) (run : Run old steps answers new) → Knows n unsent old → InOrder n unsent old steps answers new run
  in_order unsent old [] answers new run k = tt
  in_order unsent old (s ∷ steps) [] new run k = tt
  in_order unsent old (s ∷ steps) (a ∷ answers) new run k =
      let both = order_step n below unsent old k s a run.0 run.1 in
      (both.0, in_order (unsent_after n unsent old s a run.0) run.0 steps answers new run.2 both.1)

pub opening_knows : (config : Config) (units : List Attached) → is_config config (length units) ≡ true → (n : ℕ) → Knows n false (new_world config units)
opening_knows config units right n = record {
  going = going_opens 0 (zeroed config.memory) (zeroed_right config.memory (sized config (length units) right));
  their = λ d s c low busy last. none_issued d s c last;
  risen = opening_marks config units;
  orderly = opening_orderly Switching config units right;
  true_is = opening_true config units n;
  fit = opening_fit config.ports most;
  writes = tt;
  stage = Rests;
  is = record { at = opens31 0 (zeroed config.memory); line = (tt, refl, tt); notices = tt };
  plan = (found_opens n 0 (zeroed config.memory)).1;
  out = λ u. absurd (false≢true u);
  due = λ w o. cc;
  scanning = λ w o. absurd (cc);
  shut = λ is. absurd (true≢false (sym is ∙ (found_opens n 0 (zeroed config.memory)).0));
}
  where
    -- a world has at most 15 ports
    by_tests : (a b c d e f g h : Bool) → nat_le config.ports 15 ≡ b → (a && b && c && d && e && f && g && h) ≡ true → config.ports ≤ 15
    by_tests true true c d e f g h is fits = leb-true config.ports 15 is
    by_tests true false c d e f g h is fits = absurd (false≢true fits)
    by_tests false b c d e f g h is fits = absurd (false≢true fits)

    most : config.ports ≤ 15
    most = by_tests (nat_le 1 config.ports) (nat_le config.ports 15) (nat_le 1 config.capacity) (nat_le config.capacity 64) (nat_le 2097152 config.memory) (nat_le config.memory 16777216) (config.memory % 2 == 0) (length units == config.ports) refl right

-- the orders to clear a port are in order, over every run from a new world
pub orders_in_order : (config : Config) (units : List Attached) → is_config config (length units) ≡ true → (steps : List Step) (answers : List Answer) (new : Places)
    (run : Run (new_world config units) steps answers new) (n : ℕ) → n < 15 → InOrder n false (new_world config units) steps answers new run
orders_in_order config units right steps answers new run n below =
    in_order n below false (new_world config units) steps answers new run (opening_knows config units right n)

pub none_is_stale : NoneIsStale
none_is_stale config units right steps answers new run n below =
    ordered_is_not_stale config units right steps answers new run n below (orders_in_order config units right steps answers new run n below)
