-- For `rested_plans_match`. Each turn of the host keeps what the driver takes a device to be, against what its port shows.
use Rattle.std.proofs.Common.{◌≡◌, ◌≢◌, ◌⊎◌, ℕ, ◌<◌, Bool, true, false, List, [], ◌∷◌, ◌++◌, refl, sym, ap, subst, ◌∙◌, inl, inr, Some, None, arith}
use Rattle.std.proofs.lemmas.Bool.{cases_Bool, cases_eq, eqb-true, false≢true, true≢false}
use Rattle.std.specs.Prelude.{if◌then◌else◌, is_some}
use Rattle.fis_view.specs.Frames.{Stamped}
use Rattle.slots.specs.Slots.{has_bit}
use Rattle.pm_registers.specs.RegisterMap.{RegisterMap, port_at}
use Rattle.multiplier.specs.State.{PmState, pm_port}
use Rattle.hba_fbs.specs.declared.report.TakeReport.{TakeReport}
use Rattle.hba_driver.specs.declared.{order.Order.{Order, TheVariants.{Clear, Detect, ResetOff, ResetOn}}, plan.Device.{Device, TheVariants.Absent}}
use Rattle.hba_driver.specs.{declared.plan.{Device.TheVariants.{Ready, Recovering, Starting, Unusable}, Plan.Plan}, Drivers.{Driver, device_at}}
use Rattle.hba_driver.specs.{HostTurns.{Does, Host, HostTurn, Pushed, Ticked, Took, sight_in}, Scans.{IsFound, ScansOn, found}, Seeing.Sight}
use Rattle.hba_driver.specs.Slot31.{Anew, Asks, Control, Follows31, Goes31, IsAt31, IsFree31, IsIn, Kept, Looked, Ordered, Resets, Rests, Stage31}
use Rattle.hba_driver.specs.{Slot31.{TicksOn, Turns31, Waits, control_in, control_of, is_idle, orders_clear}, Steady.detects, Turns.control_seen}
use Rattle.hba_driver.specs.Turns.{detected, found_there, is_there}
use Rattle.hba_driver.proofs.Door.{free_seen, scans_on, told_seen}
use Rattle.pm_world.specs.Line.{NoneUp}
use Rattle.world_rests.proofs.{ControlFile.among_either, Marks.is_marked, Matching.{Agrees, IsHeld, IsMatched, IsShown, IsTaken, IsTakenAt}}
use Rattle.world_rests.proofs.{Matching.{clear_sought, detect_command, detect_low, detect_open, not_detect}, Named.{IsMarked, IsNamed, IsScanning}}
use Rattle.world_rests.proofs.{Named.{NoneOf, slot31, takes_named, turns_named, unsent_clear}, Nothing.{Early, HasNothing, Late, Moves}}
use Rattle.world_rests.proofs.{Nothing.{flush_nothing, moves, nothing_turn, tick_nothing, within}, Heeded.{not_clear, not_scan}, Ordering.seen_asked}
use Rattle.world_rests.proofs.{Orders.Among, Saying.{never_coming, push_coming, push_port, push_said, push_same, push_turn, said_now, then31}}
use Rattle.world_rests.proofs.{Saying.{ticks_waits, took_coming, took_said, turn_coming, turn_said}, SetUp.{Falls, IsCommand, IsComing, IsSaid}}
use Rattle.world_rests.proofs.{SetUp.{IsWell, Unsent, asking_of, is_ordered, waits_by, waits_of}, Sought.{Looks, Same, Told, seen_detects}}
use Rattle.world_rests.proofs.{Sought.seen_looks, Unfaulted.turn_none, Ways.{IsGood, IsInside, Line}}

-- ---- a turn that leaves the plan

-- what a turn of the host keeps of a port, that leaves the plan
record KeepsPort (n : ℕ) (l m : Line) : Type 0 where
  pm : m.pm ≡ l.pm
  plan : m.host.driver.plan ≡ l.host.driver.plan
  named : IsNamed n m
  nothing : HasNothing n l → HasNothing n m
  coming : IsComing l → IsComing m
  said : is_ordered m.host ≡ true → IsSaid (Agrees n l.pm.registers) l → IsComing m ⊎ IsSaid (Agrees n l.pm.registers) m
  back : l.host.driver.plan.order ≡ Clear n → IsComing m → IsComing l

keeps_port : (n : ℕ) (l m : Line) → KeepsPort n l m → IsMatched n l → IsMatched n m
keeps_port n l m k h =
    let registers : m.pm.registers ≡ l.pm.registers = ap (λ (x : PmState). x.registers) k.pm in
    record {
      named = k.named;
      shown = elim h.shown [ inl s ↦ inl (subst (IsShown n) (sym registers) s) | inr none ↦ inr (k.nothing none) ];
      taken = subst (λ (r : RegisterMap). IsTakenAt n (port_at r n) m.host.driver.plan) (sym registers) (subst (IsTakenAt n (port_at l.pm.registers n)) (sym k.plan) h.taken);
      tells = λ at on.
          let asked : is_ordered m.host ≡ true = asking_of m.host.driver.plan.order m.host.driver.plan.asked (detect_command m.host.driver.plan.order m.host.driver.plan.asked n at on) in
          elim (h.tells (ap (λ (p : Plan). p.order) (sym k.plan) ∙ at) (ap (λ (p : Plan). p.asked) (sym k.plan) ∙ on)) [
            | inl comes ↦ inl (k.coming comes)
            | inr told ↦ elim (k.said asked told) [ inl comes ↦ inl comes | inr still ↦ inr (subst (λ (r : RegisterMap). IsSaid (Agrees n r) m) (sym registers) still) ]
          ];
      clears = λ at on.
          let was : l.host.driver.plan.order ≡ Clear n = ap (λ (p : Plan). p.order) (sym k.plan) ∙ at in
          elim (h.clears was (ap (λ (p : Plan). p.asked) (sym k.plan) ∙ on)) [
            | inl both ↦ inl (subst (IsMarked n) (sym registers) both.0, k.nothing both.1)
            | inr gone ↦ inr (λ comes. gone (k.back was comes))
          ];
    }

-- ---- a frame that the host takes

module _ (ports n : ℕ) (low : n < 15) (l : Line) (g : IsGood l) (held : IsHeld ports l) (f : Stamped) (rest : List Stamped) (is : l.up ≡ f ∷ rest) (report : TakeReport) (host : Host) (does : Does l.host (Took f.bytes report) host)
    (t : Turns31 g.stage l.host (Took f.bytes report) host) (k : IsGood (record l { host = host; up = rest })) (h : IsMatched n l) where
  abbrev taken : Line
  taken = record l { host = host; up = rest }

  first : Among f l.up
  first = subst (Among f) (sym is) (inl refl)

  taken_nothing : HasNothing n l → HasNothing n taken
  taken_nothing none =
      nothing_turn n low l g (Took f.bytes report) host does (λ its. none.none f first (sym (held.calm.marks f first does.framed) ∙ its)) tt (ap (λ (d : Driver). d.plan) does.driver) l.down rest
      (λ x there. none.none x (subst (Among x) (sym is) (inr there))) none

  taken_back : IsComing taken → IsComing l
  taken_back (Falls x there own) = Falls x there own
  taken_back (Unsent w) = Unsent (subst (λ (s : Stage31). IsAt31 s l.host) (t.stands (waits_by t.next host w t.at t.at.is)) g.at)

  pub takes_matched : IsMatched n taken
  takes_matched = keeps_port n l taken (record {
    pm = refl;
    plan = ap (λ (d : Driver). d.plan) does.driver;
    named = takes_named n low l g h.named held.calm f rest is report host does t k held.found_is;
    nothing = taken_nothing;
    coming = took_coming l g held.calm f rest is report host does t k;
    said = took_said l g held.calm f rest is report host does t k (Agrees n l.pm.registers);
    back = λ at. taken_back;
  }) h

-- ---- a frame that it gives

module _ (ports n : ℕ) (low : n < 15) (l : Line) (g : IsGood l) (held : IsHeld ports l) (f : Stamped) (host : Host) (does : Does l.host (Pushed (Some f)) host) (k : IsGood (record l { host = host; down = l.down ++ f ∷ [] })) (h : IsMatched n l) where
  abbrev given : Line
  given = record l { host = host; down = l.down ++ f ∷ [] }

  abbrev t : Turns31 g.stage l.host (Pushed (Some f)) host
  t = push_turn l g f host does k

  -- what goes out to the control port went out of slot 31
  follows_waits : l.host.driver.plan.order ≡ Clear n → Follows31 g.stage l.host.driver.plan.order t.next → (g.stage ≡ Waits) × (t.next ≢ Waits)
  follows_waits at (inl w) = (w.0, λ e. let wrong : Resets ≡ Waits = sym w.2 ∙ e in cc)
  follows_waits at (inr (inl w)) = (w.0, λ e. let wrong : Asks ≡ Waits = sym w.2 ∙ e in cc)
  follows_waits at (inr (inr w)) = not_clear l.host.driver.plan.order ResetOff n w.1 refl at

  given_back : l.host.driver.plan.order ≡ Clear n → IsComing given → IsComing l
  given_back at (Unsent w) =
      let waits : t.next ≡ Waits = waits_by t.next host w t.at t.at.is in
      elim (cases_eq f.stamp.port 15) [
        | inl own ↦ absurd ((follows_waits at (t.is.0 own).follows).1 waits)
        | inr other ↦ Unsent (subst (λ (s : Stage31). IsAt31 s l.host) (sym (t.is.1 other) ∙ waits) g.at)
      ]
  given_back at (Falls x there own) = elim (among_either x f l.down there) [
    | inl was ↦ Falls x was own
    | inr same ↦ Unsent (subst (λ (s : Stage31). IsAt31 s l.host) (follows_waits at (t.is.0 (sym (push_port l g f host does k) ∙ ap pm_port same ∙ own)).follows).0 g.at)
  ]

  pub pushes_matched : IsMatched n given
  pushes_matched = keeps_port n l given (record {
    pm = refl;
    plan = ap (λ (d : Driver). d.plan) does.driver;
    named =
        turns_named n low l g h.named (Pushed (Some f)) host (l.down ++ f ∷ [])
        (λ none now. (scans_on n low g.stage t.next l.host (Pushed (Some f)) host does g.going k.going g.at t.at t.is held.found_is).0.begins none now)
        (λ now. inl (subst IsScanning (push_same l g f host does k) now));
    nothing = λ none. nothing_turn n low l g (Pushed (Some f)) host does tt tt (ap (λ (d : Driver). d.plan) does.driver) (l.down ++ f ∷ []) l.up none.none none;
    coming = push_coming l g f host does k;
    said = push_said l g f host does k (Agrees n l.pm.registers);
    back = given_back;
  }) h

-- ---- a turn without a frame, that is no tick

module _ (ports n : ℕ) (low : n < 15) (l : Line) (g : IsGood l) (held : IsHeld ports l) (t : HostTurn) (inside : IsInside t) (host : Host) (does : Does l.host t host) (k : IsGood (record l { host = host })) (h : IsMatched n l) where
  abbrev turned : Line
  turned = record l { host = host }

  abbrev turn : Turns31 g.stage l.host t host
  turn = then31 l g t inside host does

  pub inside_matched : turn.next ≡ g.stage → host.driver.plan ≡ l.host.driver.plan → (found n l.host ≡ false → found n host ≡ true → ⊥) → (HasNothing n l → HasNothing n turned) → IsMatched n turned
  inside_matched stage plan scans nothing = keeps_port n l turned (record {
    pm = refl;
    plan = plan;
    named = turns_named n low l g h.named t host l.down scans (λ now. inl (subst (λ (p : Plan). IsScanning (control_in p)) plan now));
    nothing = nothing;
    coming = turn_coming l g t inside host does k (λ waits. stage ∙ waits);
    said = turn_said l g t inside host does k (λ waits. stage ∙ waits) (Agrees n l.pm.registers);
    back = λ at. back;
  }) h
    where
      back : IsComing turned → IsComing l
      back (Falls x there own) = Falls x there own
      back (Unsent w) = Unsent (subst (λ (s : Stage31). IsAt31 s l.host) (sym stage ∙ waits_by turn.next host w turn.at turn.at.is) g.at)

-- ---- a tick

-- what is looked for while it is asked for is to be cleared, or is looked for in any case
detects_asked : (n : ℕ) (asked : Bool) (o : Order) → detects n true o ≡ true → (o ≡ Clear n) ⊎ (detects n asked o ≡ true)
detects_asked n asked (Clear port) on = inl (ap Clear (eqb-true port n on))
detects_asked n asked (Detect port) on = inr on
detects_asked n asked o on = absurd (false≢true on)

detects_more : (n : ℕ) (asked : Bool) (o : Order) → detects n asked o ≡ true → detects n true o ≡ true
detects_more n true o on = on
detects_more n false (Detect port) on = on
detects_more n false (Clear port) on = absurd (false≢true on)
detects_more n false o on = absurd (false≢true on)

there_known : (d : Device) → found_there d ≢ Absent
there_known Absent is = cc
there_known Starting is = cc
there_known Ready is = cc
there_known Unusable is = cc
there_known (Recovering way) is = cc

module _ (ports : ℕ) (l : Line) (g : IsGood l) (held : IsHeld ports l) (acted : Bool) (host : Host) (does : Does l.host (Ticked acted) host) (k : IsGood (record l { host = host })) where
  abbrev ticked : Line
  ticked = record l { host = host }

  abbrev p : Plan
  p = l.host.driver.plan

  abbrev v : Sight
  v = sight_in l.host

  abbrev turn31 : Turns31 g.stage l.host (Ticked acted) host
  turn31 = then31 l g (Ticked acted) tt host does

  scanned : (n : ℕ) → n < 15 → ScansOn n g.stage l.host (Ticked acted) host × IsFound host.driver.plan
  scanned n low = scans_on n low g.stage turn31.next l.host (Ticked acted) host does g.going k.going g.at turn31.at turn31.is held.found_is

  -- the tick orders that the port be cleared
  module _ (n : ℕ) (low : n < 15) (h : IsMatched n l) (flush : orders_clear n l.host ≡ true) where
    ordered : (turn31.next ≡ Waits) × (host.driver.plan.order ≡ Clear n) × (n < 15) × (is_idle g.stage ≡ true)
    ordered = turn31.is.clears n flush

    asked : host.driver.plan.asked ≡ true
    asked = let at : IsIn Waits host.driver.plan.order host.driver.plan.asked (control_of host) = subst (λ (s : Stage31). IsIn s host.driver.plan.order host.driver.plan.asked (control_of host)) ordered.0 turn31.at.is in at.0

    pub flush_marked : IsMarked n l.pm.registers × NoneOf n l.up
    flush_marked = h.named.found_is ((scanned n low).0.clears flush).0

    flush_has : HasNothing n ticked
    flush_has = flush_nothing n l g held.fails acted host does low flush flush_marked.1

    flush_matched : IsMatched n ticked
    flush_matched = record {
      named =
          turns_named n low l g h.named (Ticked acted) host l.down (λ none now. (scanned n low).0.begins none now)
          (λ now. not_scan host.driver.plan.order (Clear n) ordered.1 refl now.order);
      shown = inr flush_has;
      taken = λ on there. inr (inr (clear_sought host.driver.plan.order host.driver.plan.asked n ordered.1 asked));
      tells = λ at on. not_detect host.driver.plan.order (Clear n) n ordered.1 refl at;
      clears = λ at on. inl (flush_marked.0, flush_has);
    }

  -- it does not
  module _ (n : ℕ) (none : orders_clear n l.host ≡ false) where
    abbrev q : Plan
    q = control_seen v p

    -- what is looked for then was looked for before
    sought_by : Moves n l.host host.driver.plan → detects n host.driver.plan.asked host.driver.plan.order ≡ true → detects n p.asked p.order ≡ true
    sought_by (Early order asks device) on = ap (λ (o : Order). detects n p.asked o) (sym order) ∙ ap (λ (b : Bool). detects n b host.driver.plan.order) (sym asks) ∙ on
    sought_by (Late order asks was stays calm) on = seen_detects n v p (elim asks [
      | inl same ↦ ap (λ (o : Order). detects n q.asked o) (sym order) ∙ ap (λ (b : Bool). detects n b host.driver.plan.order) (sym same) ∙ on
      | inr now ↦ elim (detects_asked n q.asked q.order (ap (detects n true) (sym order) ∙ ap (λ (b : Bool). detects n b host.driver.plan.order) (sym now.0) ∙ on)) [
        | inl clear ↦ absurd (now.1 clear)
        | inr still ↦ still
      ]
    ])

    pub tick_sought : detects n host.driver.plan.asked host.driver.plan.order ≡ true → n < l.pm.registers.ports
    tick_sought on = held.sought n (sought_by (moves n l g held.fails acted host does none) on)

    module _ (low : n < 15) (h : IsMatched n l) where
      moved : Moves n l.host host.driver.plan
      moved = moves n l g held.fails acted host does none

      -- what the driver is told of the port
      told_agrees : p.order ≡ Detect n → p.asked ≡ true → has_bit v.issued 31 ≡ false → Agrees n l.pm.registers v.answer
      told_agrees order asks off =
          let free : IsFree31 (control_of l.host) = free_seen l.host g.going off in
          let c : IsCommand p.order p.asked = detect_command p.order p.asked n order asks in
          elim (h.tells order asks) [
            | inl comes ↦ absurd (never_coming l g free c comes)
            | inr said ↦ subst (Agrees n l.pm.registers) (sym (told_seen l.host g.going g.stage g.at asks)) (said_now l g free c (Agrees n l.pm.registers) said)
          ]

      shown_by : p.order ≡ Detect n → is_there v.answer ≡ true → Agrees n l.pm.registers v.answer → IsShown n l.pm.registers
      shown_by order there (inl marked) = record { low = detect_low ports l held n order; opened = detect_open ports l held n order; shows = inr marked }
      shown_by order there (inr same) = record { low = detect_low ports l held n order; opened = detect_open ports l held n order; shows = inl (sym same ∙ there) }

      tick_shown : IsShown n l.pm.registers ⊎ HasNothing n ticked
      tick_shown = elim h.shown [
        | inl s ↦ inl s
        | inr nothing ↦
            tick_nothing n l g held.fails acted host does low (IsShown n l.pm.registers) (λ order asks off there. shown_by order there (told_agrees order asks off)) none nothing
      ]

      -- ---- a device that is shown

      module _ (present : (port_at l.pm.registers n).present ≡ true) where
        abbrev Result : Plan → Type 0
        Result r = (is_marked (port_at l.pm.registers n) ≡ true) ⊎ IsTaken n r

        told_taken : p.order ≡ Detect n → (device_at q n ≡ detected v.answer (device_at p n)) → Agrees n l.pm.registers v.answer → (is_marked (port_at l.pm.registers n) ≡ true) ⊎ (device_at q n ≢ Absent)
        told_taken order device (inl marked) = inl marked
        told_taken order device (inr same) =
            inr (λ absent. there_known (device_at p n) (ap (λ (b : Bool). if b then found_there (device_at p n) else Absent) (sym (same ∙ present)) ∙ sym device ∙ absent))

        seen_taken : Looks n v p q → IsTaken n p → Result q
        seen_taken (Same device on) (inl known) = inr (inl (λ absent. known (sym device ∙ absent)))
        seen_taken (Same device on) (inr sought) = inr (inr (on sought))
        seen_taken (Told order asks off device) has = elim (told_taken order device (told_agrees order asks off)) [ inl marked ↦ inl marked | inr known ↦ inr (inl known) ]

        then_taken : Moves n l.host host.driver.plan → IsTaken n p → Result host.driver.plan
        then_taken (Early order asks device) (inl known) = elim (device (within n l g held.fails acted host does low)) [
          | inl both ↦ inr (inl (λ absent. known (sym both.0 ∙ absent)))
          | inr fault ↦ inr (inl fault.1)
        ]
        then_taken (Early order asks device) (inr sought) =
            inr (inr (ap (λ (o : Order). detects n host.driver.plan.asked o) order ∙ ap (λ (b : Bool). detects n b p.order) asks ∙ sought))
        then_taken (Late order asks was stays calm) has = elim (seen_taken (seen_looks n v p (within n l g held.fails acted host does low)) has) [
          | inl marked ↦ inl marked
          | inr (inl known) ↦ inr (inl (λ absent. known (was absent)))
          | inr (inr sought) ↦ inr (inr (ap (λ (o : Order). detects n host.driver.plan.asked o) order ∙ elim asks [
            | inl same ↦ ap (λ (b : Bool). detects n b q.order) same ∙ sought
            | inr now ↦ ap (λ (b : Bool). detects n b q.order) now.0 ∙ detects_more n q.asked q.order sought
          ]))
        ]

      tick_taken : IsTakenAt n (port_at l.pm.registers n) host.driver.plan
      tick_taken on there = elim (h.taken on there) [ inl marked ↦ inl marked | inr taken ↦ then_taken there moved taken ]

      -- ---- what is told

      same_tells : control_in host.driver.plan ≡ control_in p → host.driver.plan.order ≡ Detect n → host.driver.plan.asked ≡ true → IsComing ticked ⊎ IsSaid (Agrees n l.pm.registers) ticked
      same_tells same at on =
          let asks : is_ordered host ≡ true = asking_of host.driver.plan.order host.driver.plan.asked (detect_command host.driver.plan.order host.driver.plan.asked n at on) in
          let waits : g.stage ≡ Waits → turn31.next ≡ Waits = ticks_waits g.stage turn31.next turn31.is.stays in
          elim (h.tells (ap (λ (c : Control). c.order) (sym same) ∙ at) (ap (λ (c : Control). c.asked) (sym same) ∙ on)) [
            | inl comes ↦ inl (turn_coming l g (Ticked acted) tt host does k waits comes)
            | inr said ↦ turn_said l g (Ticked acted) tt host does k waits (Agrees n l.pm.registers) asks said
          ]

      well : IsWell host
      well = ap (λ (o : _). is_some o) (turn_none 15 (omega arith) l.host host (Ticked acted) g.going.way.sound does tt held.fails.well)

      goes_tells : Goes31 l.host host → host.driver.plan.order ≡ Detect n → host.driver.plan.asked ≡ true → IsComing ticked ⊎ IsSaid (Agrees n l.pm.registers) ticked
      goes_tells (Kept same view) at on = same_tells same at on
      goes_tells (Looked same view) at on = same_tells (same ∙ ap control_in (seen_asked v p (ap (λ (c : Control). c.asked) (sym same) ∙ on))) at on
      goes_tells (Ordered was unasked same unsent) at on =
          let c : IsCommand host.driver.plan.order host.driver.plan.asked = detect_command host.driver.plan.order host.driver.plan.asked n at on in
          inl (Unsent (subst (λ (s : Stage31). IsAt31 s host) (waits_of turn31.next host.driver.plan.order host.driver.plan.asked (control_of host) c unsent (sym turn31.at.fault ∙ well) turn31.at.is) turn31.at))
      goes_tells (Anew order none_asked) at on = not_detect host.driver.plan.order ResetOn n order refl at

      -- ---- the answer to a scan

      goes_named : Goes31 l.host host → IsScanning (control_in host.driver.plan) → IsScanning (slot31 l) ⊎ ((l.pm.answer ≡ None) × NoneUp l.up)
      goes_named (Kept same view) now = inl (subst IsScanning same now)
      goes_named (Looked same view) now = inl (subst IsScanning (same ∙ ap control_in (seen_asked v p (ap (λ (c : Control). c.asked) (sym same) ∙ now.asked))) now)
      goes_named (Ordered was unasked same unsent) now =
          inr (unsent_clear k.stage host.driver.plan.order host.driver.plan.asked (control_of host) l.down l.pm.answer l.up unsent k.at.is k.line)
      goes_named (Anew order none_asked) now = not_scan host.driver.plan.order ResetOn order refl now.order

      -- ---- an order to clear the port

      -- the order was asked for before
      was_cleared : Moves n l.host host.driver.plan → host.driver.plan.order ≡ Clear n → host.driver.plan.asked ≡ true → (p.order ≡ Clear n) × (p.asked ≡ true)
      was_cleared (Early order asks device) at on = (sym order ∙ at, sym asks ∙ on)
      was_cleared (Late order asks was stays calm) at on = elim asks [
        | inl same ↦
            let kept : q ≡ p = seen_asked v p (sym same ∙ on) in
            (ap (λ (x : Plan). x.order) (sym kept) ∙ sym order ∙ at, ap (λ (x : Plan). x.asked) (sym kept) ∙ sym same ∙ on)
        | inr now ↦ absurd (now.1 (sym order ∙ at))
      ]

      tick_back : host.driver.plan.order ≡ Clear n → IsComing ticked → IsComing l
      tick_back at (Falls x there own) = Falls x there own
      tick_back at (Unsent w) = by_stays turn31.is.stays
        where
          waits : turn31.next ≡ Waits
          waits = waits_by turn31.next host w turn31.at turn31.at.is

          by_stays : TicksOn g.stage turn31.next → IsComing l
          by_stays (inl (inl same)) = Unsent (subst (λ (s : Stage31). IsAt31 s l.host) (sym same ∙ waits) g.at)
          by_stays (inl (inr idle)) = absurd (true≢false (sym (turn31.stands.1 n waits idle.0 at) ∙ none))
          by_stays (inr fails) = absurd (let wrong : Waits ≡ Rests = sym waits ∙ fails.1 in cc)

      never : p.order ≡ Clear n → HasNothing n l → HasNothing n ticked
      never order nothing = elim (tick_nothing n l g held.fails acted host does low ⊥ (λ detect asks off there. not_clear p.order (Detect n) n detect refl order) none nothing) [ inl wrong ↦ absurd wrong | inr has ↦ has ]

      tick_clears : host.driver.plan.order ≡ Clear n → host.driver.plan.asked ≡ true → (IsMarked n l.pm.registers × HasNothing n ticked) ⊎ (IsComing ticked → ⊥)
      tick_clears at on =
          let was = was_cleared moved at on in
          elim (h.clears was.0 was.1) [
            | inl both ↦ inl (both.0, never was.0 both.1)
            | inr gone ↦ inr (λ comes. gone (tick_back at comes))
          ]

      tick_matched : IsMatched n ticked
      tick_matched = record {
        named = turns_named n low l g h.named (Ticked acted) host l.down (λ unfound now. (scanned n low).0.begins unfound now) (goes_named turn31.is.goes);
        shown = tick_shown;
        taken = tick_taken;
        tells = goes_tells turn31.is.goes;
        clears = tick_clears;
      }

  pub ticks_matched : (n : ℕ) → n < 15 → IsMatched n l → IsMatched n ticked
  ticks_matched n low h = elim (cases_Bool (orders_clear n l.host)) [ inl flush ↦ flush_matched n low h flush | inr none ↦ tick_matched n none low h ]

  pub ticks_sought : ((n : ℕ) → n < 15 → IsMatched n l) → (n : ℕ) → detects n host.driver.plan.asked host.driver.plan.order ≡ true → n < l.pm.registers.ports
  ticks_sought each n on = elim (cases_Bool (orders_clear n l.host)) [
    | inl flush ↦ let low : n < 15 = (turn31.is.clears n flush).2 in (flush_marked n low (each n low) flush).0.low
    | inr none ↦ tick_sought n none on
  ]

  pub ticks_found : IsFound host.driver.plan
  ticks_found = (scanned 0 (omega arith)).1
