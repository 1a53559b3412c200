-- For `scans_clear`. The scans of the ports of a multiplier over turns of the host.
use Rattle.std.proofs.Common.{◌≡◌, ◌≢◌, ℕ, ◌<◌, ◌≤◌, ◌⊎◌, ◌&&◌, ◌||◌, Bool, true, false, List, [], ◌∷◌, ◌++◌, length, take, drop, refl, sym, ◌∙◌, ap}
use Rattle.std.proofs.{Common.{subst, inl, inr, arith, Option, Some, None, Ok}, lemmas.Bool.{and_from, and_left, and_parts, and_right, cases_Bool}}
use Rattle.std.proofs.lemmas.Bool.{cases_eq, cases_lt, false≢true, ne_eqb, not_from_false, or_from, or_left, or_parts, or_right, true≢false}
use Rattle.std.specs.Prelude.{◌==◌, if◌then◌else◌, not, is_none, unwrap_or}
use Rattle.fis_view.specs.{Frames.Stamped, Seen.seen, Table.{Bits, D2h, Error, Status, field}}
use Rattle.fis_view.specs.declared.view.Fis.TheVariants as view
use Rattle.host_memory.specs.Memory.{Memory}
use Rattle.rx_area.specs.Area as rx
use Rattle.slots.specs.{Commands.completed, Slots.{Issue, has_bit, issue_at, own_issue, slots_of}}
use Rattle.hba_fbs.specs.{declared.report.TakeReport.TakeReport, Hearing.named, Posting.area_at, Sending.{Gives, Outgoing}, Status.is_busy}
use Rattle.hba_fbs.specs.{Status.with_bits, Taking.{is_ignored, port_of, view_after_hearing}, Views.{DeviceView, Port}}
use Rattle.hba_laws.specs.Hosts as event
use Rattle.hba_laws.specs.{Isolation.{Came, OwnEvent, Went, own_events, part_after_all, row_with}, Parts.{DevicePart, part_of, with_view}}
use Rattle.hba_laws.proofs.Door.{own_in}
use Rattle.hba_driver.specs.{declared.{order.Order.{Order, TheVariants.{ResetOn, Scan}}, plan.Plan.Plan}, Seeing.Sight, Drivers.Driver}
use Rattle.hba_driver.specs.{Events.{opening_host, shared_by}, Going.{IsOfControl, IsReport}, HostTurns.{Does, DoesAll, Host, HostTurn, Polled}}
use Rattle.hba_driver.specs.{HostTurns.{Pushed, Put, Submitted, Ticked, Took, sight_in}, Scans.{Clears, ClearsNamed, Comes, Finds, Keeps, IsFound}}
use Rattle.hba_driver.specs.Scans.{Names, Scans, ScansClear, ScansOn, Tells, answers_scan, comes_to, found, is_answer, is_asking, is_left, is_named}
use Rattle.hba_driver.specs.{Scans.{is_scan, named_after, tells, told_in}, Sights.{answer_in, file_shown, last_d2h, sight_of}, Slot31.{Asks, Control}}
use Rattle.hba_driver.specs.Slot31.{Follows31, IsAt31, IsFree31, IsIn, IsNext31, IsNotice31, IsSent, Pushes31, Resets, Rests, Signs, Stage31, TakesOn}
use Rattle.hba_driver.specs.{Slot31.{Turns31, control_of, is_off, is_on, orders_clear}, Steady.IsRowTurn, Ticks.due, Turns.control_seen}
use Rattle.hba_driver.specs.Between.{IsGoing}
use Rattle.hba_driver.proofs.{slot31.ControlLemmas.part_event, ends.DoneLemmas.free_slot as slot_free, events.DrivenLemmas.tick_is}
use Rattle.hba_driver.proofs.{goes_on.{GoingLemmas.{going_opens, going_turn, stops_none}, PageLemmas.poll_plan}, modes.ModeLemmas.own_row_is}
use Rattle.hba_driver.proofs.steady.RowLemmas.{d2h_row, d2h_same, own_row, row_long, row_turn, set_long, set_window, sized, window_same}
use Rattle.hba_driver.proofs.slot31.ScansLemmas.{Anew, Issues, Keeps as MovesNot, Moves, Orders31, Reads, Sees, cleared_none, moved_clears}
use Rattle.hba_driver.proofs.{slot31.ScansLemmas.{moved_found, moved_left, moves, scan_is, seen_asked}, ticks.ServeLemmas.act_clears}
use Rattle.hba_driver.proofs.{modes.SwitchLemmas.sight_is, slot31.{Slot31Lemmas.IsOther, Tick31Lemmas.{order_stands, other_stays}}}
use Rattle.hba_driver.proofs.slot31.Took31Lemmas.{closed_same, going_runs, heard_part, none_done, notice_view, skipped_part, took_own, took_part}
use Rattle.hba_driver.proofs.slot31.Turn31Lemmas.{closed_gives, control_in31, opens31, turn31}

-- ---- plan and part tell what is found

abbrev named_in : ℕ → Plan → DevicePart → Bool
named_in n plan part = (is_scan plan.order && plan.asked) && tells n part

abbrev found_in : ℕ → Plan → DevicePart → Bool
found_in n plan part = is_left n plan || named_in n plan part

found_same : (n : ℕ) (old new : Host) → new.driver.plan ≡ old.driver.plan → control_of new ≡ control_of old → found n new ≡ found n old
found_same n old new plan part = ap (λ (p : Plan). found_in n p (control_of new)) plan ∙ ap (found_in n old.driver.plan) part

same_part : (old new : Host) → new.port ≡ old.port → new.memory ≡ old.memory → control_of new ≡ control_of old
same_part old new port memory =
    ap (λ (p : Port). part_of 15 (record { port = p; memory = new.memory })) port ∙ ap (λ (m : Memory). part_of 15 (record { port = old.port; memory = m })) memory

-- the row has an answer that names the port
record Named (n : ℕ) (plan : Plan) (part : DevicePart) : Type 0 where
  pub scan : is_scan plan.order ≡ true
  pub asked : plan.asked ≡ true
  pub tells : tells n part ≡ true
  pub free : is_none (own_issue part.view.slots 31) ≡ true
  pub bit : has_bit (told_in part) n ≡ true

named_of : (n : ℕ) (plan : Plan) (part : DevicePart) → named_in n plan part ≡ true → Named n plan part
named_of n plan part h =
    let parts = and_parts (is_scan plan.order && plan.asked) (tells n part) h in
    let first = and_parts (is_scan plan.order) plan.asked parts.0 in
    let last = and_parts (is_none (own_issue part.view.slots 31)) (has_bit (told_in part) n) parts.1 in
    record { scan = first.0; asked = first.1; tells = parts.1; free = last.0; bit = last.1 }

or_second : (a b : Bool) → a ≡ false → (a || b) ≡ true → b ≡ true
or_second false b h k = k
or_second true b h k = absurd (true≢false h)

-- slot 31 is free there
not_sent : (n : ℕ) (plan : Plan) (part : DevicePart) → Named n plan part → (i : Issue) → own_issue part.view.slots 31 ≡ Some i → ⊥
not_sent n plan part named i there = false≢true (sym (ap is_none there) ∙ named.free)

-- ---- an order is asked only at an open port

asked_open : (stage : Stage31) (h : Host) → IsAt31 stage h → h.driver.plan.asked ≡ true → 7 ≤ h.driver.plan.opened
asked_open stage h at asked = elim (cases_lt h.driver.plan.opened 7) [
  | inl less ↦
      let rests : IsIn Rests h.driver.plan.order h.driver.plan.asked (control_of h) = subst (λ (s : Stage31). IsIn s h.driver.plan.order h.driver.plan.asked (control_of h)) (at.closed less) at.is in
      absurd (true≢false (sym asked ∙ rests.0))
  | inr least ↦ least
]

-- ---- where the answer is

area_is : (h : Host) → IsGoing h → 7 ≤ h.driver.plan.opened → h.port.registers.fb ≡ 4096
area_is h g least = g.way.sound.registers.area (omega (arith, least))

-- the control port's row
abbrev row15 : Host → List ℕ
row15 h = rx.row_of (area_at h.memory.structure 4096) 15

row_here : (h : Host) → IsGoing h → 7 ≤ h.driver.plan.opened → (control_of h).row ≡ Some (row15 h)
row_here h g least =
    own_row_is h.port.registers.switching h.port.registers.fb h.memory.structure 15 (g.way.sound.registers.switches (omega (arith, least)))
    ∙ ap (λ (fb : ℕ). Some (rx.row_of (area_at h.memory.structure fb) 15)) (area_is h g least)

row_long15 : (h : Host) → IsGoing h → length (row15 h) ≡ 256
row_long15 h g = row_long 15 h.memory.structure (omega arith) g.way.sound.memory.structure_len

told_is : (h : Host) → IsGoing h → 7 ≤ h.driver.plan.opened → told_in (control_of h) ≡ answer_in (seen (last_d2h h.memory.structure 15))
told_is h g least =
    ap (λ (row : Option (List ℕ)). answer_in (seen (take 20 (drop 64 (unwrap_or row []))))) (row_here h g least)
    ∙ ap (λ (f : List ℕ). answer_in (seen f)) (d2h_row 15 h.memory.structure (omega arith) g.way.sound.memory.structure_len)

-- a turn that leaves port and plan, and writes no Register FIS of the control port
beside_same : (n : ℕ) (stage : Stage31) (old : Host) (turn : HostTurn) (new : Host) → IsGoing old → IsGoing new → IsAt31 stage old → new.port ≡ old.port → new.driver.plan ≡ old.driver.plan
    → last_d2h new.memory.structure 15 ≡ last_d2h old.memory.structure 15 → found n new ≡ true → found n old ≡ true
beside_same n stage old turn new g m at port plan row h = elim (cases_Bool (is_left n old.driver.plan)) [
  | inl left ↦ or_left (is_left n old.driver.plan) (is_named n old) left
  | inr gone ↦
      let left : is_left n new.driver.plan ≡ false = ap (is_left n) plan ∙ gone in
      let now : Named n new.driver.plan (control_of new) = named_of n new.driver.plan (control_of new) (or_second (is_left n new.driver.plan) (is_named n new) left h) in
      let asked : old.driver.plan.asked ≡ true = ap (λ (p : Plan). p.asked) (sym plan) ∙ now.asked in
      let least : 7 ≤ old.driver.plan.opened = asked_open stage old at asked in
      let after : 7 ≤ new.driver.plan.opened = subst (λ (p : Plan). 7 ≤ p.opened) (sym plan) least in
      let told : told_in (control_of old) ≡ told_in (control_of new) = told_is old g least ∙ ap (λ (f : List ℕ). answer_in (seen f)) (sym row) ∙ sym (told_is new m after) in
      let free : is_none (own_issue (control_of old).view.slots 31) ≡ true = ap (λ (p : Port). is_none (own_issue (slots_of 15 p.slots) 31)) (sym port) ∙ now.free in
      let told_one : tells n (control_of old) ≡ true = and_from (is_none (own_issue (control_of old).view.slots 31)) (has_bit (told_in (control_of old)) n) free (ap (λ (k : ℕ). has_bit k n) told ∙ now.bit) in
      let scans : (is_scan old.driver.plan.order && old.driver.plan.asked) ≡ true = and_from (is_scan old.driver.plan.order) old.driver.plan.asked (ap (λ (p : Plan). is_scan p.order) (sym plan) ∙ now.scan) asked in
      or_right (is_left n old.driver.plan) (is_named n old) (and_from (is_scan old.driver.plan.order && old.driver.plan.asked) (tells n (control_of old)) scans told_one)
]

-- ---- a frame comes

module _ (old : Host) (g : IsGoing old) (new : Host) (m : IsGoing new) (frame : List ℕ) (report : TakeReport) (does : Does old (Took frame report) new) (of : IsOfControl frame) (stage : Stage31) (at : IsAt31 stage old) where
  plan_is : new.driver.plan ≡ old.driver.plan
  plan_is = ap (λ (d : Driver). d.plan) does.driver

  -- another device's frame leaves the part
  other_part : port_of frame ≢ 15 → control_of new ≡ control_of old
  other_part other = elim (cases_lt old.driver.plan.opened 7) [
    | inl less ↦ closed_same old new frame report does g less
    | inr least ↦
        took_part old g new m frame report does of least
        ∙ ap (λ (b : Bool). part_after_all 15 (control_of old) ((if b then Came frame ∷ [] else []) ++ [])) (ne_eqb (port_of frame) 15 other)
  ]

  -- what a notification leaves
  after_notice : 7 ≤ old.driver.plan.opened → port_of frame ≡ 15 → IsNotice31 frame → is_ignored true (control_of old).view (Ok (view.SetBits frame)) ≡ false
      → control_of new ≡ record (with_view (control_of old) (view_after_hearing (control_of old).view (named (completed 0 (control_of old).view.slots) (with_bits (control_of old).view.state (field Bits Status frame) (field Bits Error frame)) 0)))
      { row = row_with (control_of old).row (Some (view.SetBits frame)) }
  after_notice least own is hears =
      took_own old g new m frame report does of least own ∙ heard_part (control_of old) frame (view.SetBits frame) is.viewed refl hears
      ∙ ap (λ (y : DeviceView). record (with_view (control_of old) y) { row = row_with (control_of old).row (Some (view.SetBits frame)) }) (notice_view (control_of old).view frame is)

  bits_row : 7 ≤ old.driver.plan.opened → IsNotice31 frame
      → take 20 (drop 64 (unwrap_or (row_with (control_of old).row (Some (view.SetBits frame))) [])) ≡ take 20 (drop 64 (unwrap_or (control_of old).row []))
  bits_row least is =
      let row : List ℕ = row15 old in
      let here : (control_of old).row ≡ Some row = row_here old g least in
      let whole : length row ≡ 256 = row_long15 old g in
      let few : length frame ≡ 8 = sized frame (view.SetBits frame) is.viewed in
      ap (λ (r : Option (List ℕ)). take 20 (drop 64 (unwrap_or (row_with r (Some (view.SetBits frame))) []))) here
      ∙ window_same 64 row (rx.row_after row (view.SetBits frame)) (set_long row frame 88 (omega (arith, whole, few))) (own_row row (view.SetBits frame) whole few tt)
      ∙ ap (λ (r : Option (List ℕ)). take 20 (drop 64 (unwrap_or r []))) (sym here)

  notice_same : port_of frame ≡ 15 → IsNotice31 frame → (n : ℕ) → found n new ≡ found n old
  notice_same own is n = elim (cases_lt old.driver.plan.opened 7) [
    | inl less ↦ found_same n old new plan_is (closed_same old new frame report does g less)
    | inr least ↦ elim (cases_Bool (is_ignored true (control_of old).view (Ok (view.SetBits frame)))) [
      | inl skips ↦ found_same n old new plan_is (took_own old g new m frame report does of least own ∙ skipped_part (control_of old) frame (view.SetBits frame) is.viewed skips)
      | inr hears ↦
          let part = after_notice least own is hears in
          let issue : own_issue (control_of new).view.slots 31 ≡ own_issue (control_of old).view.slots 31 = ap (λ (x : DevicePart). own_issue x.view.slots 31) part ∙ none_done (control_of old).view.slots in
          let told : told_in (control_of new) ≡ told_in (control_of old) = ap told_in part ∙ ap (λ (f : List ℕ). answer_in (seen f)) (bits_row least is) in
          ap (λ (p : Plan). found_in n p (control_of new)) plan_is
          ∙ ap (λ (o : Option Issue). is_left n old.driver.plan || ((is_scan old.driver.plan.order && old.driver.plan.asked) && (is_none o && has_bit (told_in (control_of new)) n))) issue
          ∙ ap (λ (k : ℕ). is_left n old.driver.plan || ((is_scan old.driver.plan.order && old.driver.plan.asked) && (is_none (own_issue (control_of old).view.slots 31) && has_bit k n))) told
    ]
  ]

  -- the row has an answer
  answer_row : 7 ≤ old.driver.plan.opened → seen frame ≡ Ok (view.RegD2H frame) → take 20 (drop 64 (unwrap_or (row_with (control_of old).row (Some (view.RegD2H frame))) [])) ≡ frame
  answer_row least viewed =
      let whole : length (row15 old) ≡ 256 = row_long15 old g in
      let many : length frame ≡ 20 = sized frame (view.RegD2H frame) viewed in
      ap (λ (r : Option (List ℕ)). take 20 (drop 64 (unwrap_or (row_with r (Some (view.RegD2H frame))) []))) (row_here old g least)
      ∙ set_window (row15 old) frame 64 many (omega (arith, whole, many))

  told_answer : stage ≡ Asks → port_of frame ≡ 15 → seen frame ≡ Ok (view.RegD2H frame) → (n : ℕ) → Named n new.driver.plan (control_of new) → has_bit (answer_in (seen frame)) n ≡ true
  told_answer asks own viewed n now =
      let is : IsIn Asks old.driver.plan.order old.driver.plan.asked (control_of old) = subst (λ (s : Stage31). IsIn s old.driver.plan.order old.driver.plan.asked (control_of old)) asks at.is in
      let sent : IsSent (control_of old) = is.2 in
      let least : 7 ≤ old.driver.plan.opened = asked_open stage old at is.0 in
      elim (cases_Bool (is_ignored true (control_of old).view (Ok (view.RegD2H frame)))) [
        | inl skips ↦
            let part : control_of new ≡ control_of old = took_own old g new m frame report does of least own ∙ skipped_part (control_of old) frame (view.RegD2H frame) viewed skips in
            absurd (not_sent n new.driver.plan (control_of new) now sent.issue (ap (λ (x : DevicePart). own_issue x.view.slots 31) part ∙ sent.issued))
        | inr hears ↦
            let part = took_own old g new m frame report does of least own ∙ heard_part (control_of old) frame (view.RegD2H frame) viewed refl hears in
            let told : told_in (control_of new) ≡ answer_in (seen frame) = ap told_in part ∙ ap (λ (f : List ℕ). answer_in (seen f)) (answer_row least viewed) in
            subst (λ (k : ℕ). has_bit k n ≡ true) told now.bit
      ]

  took_names : (next : Stage31) (n : ℕ) → IsNext31 stage old (Took frame report) new next → found n old ≡ false → found n new ≡ true → Names n stage old frame
  took_names next n is none some = elim (cases_eq (port_of frame) 15) [
    | inr other ↦ absurd (false≢true (sym none ∙ sym (found_same n old new plan_is (other_part other)) ∙ some))
    | inl own ↦ by_kind own (is.0 own)
  ]
    where
      now : Named n new.driver.plan (control_of new)
      now =
          let gone : is_left n new.driver.plan ≡ false = ap (is_left n) plan_is ∙ (or_parts (is_left n old.driver.plan) (is_named n old) none).0 in
          named_of n new.driver.plan (control_of new) (or_second (is_left n new.driver.plan) (is_named n new) gone some)

      order : old.driver.plan.order ≡ Scan
      order = scan_is old.driver.plan.order (ap (λ (p : Plan). is_scan p.order) (sym plan_is) ∙ now.scan)

      by_signs : stage ≡ Signs → IsIn Signs old.driver.plan.order old.driver.plan.asked (control_of old) → Names n stage old frame
      by_signs signs (free, inl off) = absurd (true≢false (sym (ap is_scan order) ∙ ap is_scan off.0))
      by_signs signs (free, inr awaits) = absurd (true≢false (sym (ap is_scan order) ∙ ap is_scan awaits.0))

      by_kind : port_of frame ≡ 15 → TakesOn stage frame next → Names n stage old frame
      by_kind own (inl notice) = absurd (false≢true (sym none ∙ sym (notice_same own notice.1 n) ∙ some))
      by_kind own (inr (quiet, inl answer)) = record { own = own; asks = answer.0; order = order; answer = answer.1; bit = told_answer answer.0 own answer.1.viewed n now }
      by_kind own (inr (quiet, inr signature)) = by_signs signature.0 (subst (λ (s : Stage31). IsIn s old.driver.plan.order old.driver.plan.asked (control_of old)) signature.0 at.is)

-- ---- a frame goes out

module _ (old : Host) (g : IsGoing old) (frame : Option Stamped) (new : Host) (m : IsGoing new) (does : Does old (Pushed frame) new) where
  -- nothing goes to the control port
  push_part : own_events 15 (shared_by old) (event.Gave frame) ≡ [] → control_of new ≡ control_of old
  push_part none = elim (cases_lt old.driver.plan.opened 7) [
    | inl less ↦
        let gives = subst (λ (o : Outgoing). Gives o old.port old.memory frame new.port) (closed_gives old g less) does.gives in
        same_part old new gives.1 does.memory
    | inr least ↦
        part_event old.port new.port old.memory new.memory (event.Gave frame) (going_runs old g least) (going_runs new m (subst (λ (d : Driver). 7 ≤ d.plan.opened) (sym does.driver) least)) (does.gives, does.memory) (stops_none old g).gives
        ∙ ap (λ (es : List OwnEvent). part_after_all 15 (control_of old) (es ++ [])) none
  ]

  push_same : own_events 15 (shared_by old) (event.Gave frame) ≡ [] → (n : ℕ) → found n new ≡ true → found n old ≡ true
  push_same none n h = sym (found_same n old new (ap (λ (d : Driver). d.plan) does.driver) (push_part none)) ∙ h

-- what went out is in slot 31, or belongs to a software reset
gone_not : (stage : Stage31) (o : Order) (next : Stage31) → Follows31 stage o next → (n : ℕ) (plan : Plan) (part : DevicePart) → IsIn next plan.order plan.asked part → Named n plan part → ⊥
gone_not stage o next (inl follows) n plan part is now = resets (subst (λ (s : Stage31). IsIn s plan.order plan.asked part) follows.2 is)
  where
    resets : IsIn Resets plan.order plan.asked part → ⊥
    resets (inl on) = true≢false (sym now.scan ∙ ap is_scan on.0)
    resets (inr off) = true≢false (sym now.scan ∙ ap is_scan off.0)
gone_not stage o next (inr (inl follows)) n plan part is now =
    let asks : IsIn Asks plan.order plan.asked part = subst (λ (s : Stage31). IsIn s plan.order plan.asked part) follows.2 is in
    let sent : IsSent part = asks.2 in
    not_sent n plan part now sent.issue sent.issued
gone_not stage o next (inr (inr follows)) n plan part is now = signs (subst (λ (s : Stage31). IsIn s plan.order plan.asked part) follows.2 is)
  where
    signs : IsIn Signs plan.order plan.asked part → ⊥
    signs (free, inl off) = true≢false (sym now.scan ∙ ap is_scan off.0)
    signs (free, inr awaits) = true≢false (sym now.scan ∙ ap is_scan awaits.0)

push_keeps : (old : Host) → IsGoing old → (frame : Option Stamped) (new : Host) → IsGoing new → Does old (Pushed frame) new → (stage next : Stage31) → IsNext31 stage old (Pushed frame) new next → IsAt31 next new
    → (n : ℕ) → found n new ≡ true → found n old ≡ true
push_keeps old g None new m does stage next is at n h = push_same old g None new m does refl n h
push_keeps old g (Some f) new m does stage next is at n h = elim (cases_eq f.stamp.port 15) [
  | inr other ↦ push_same old g (Some f) new m does (ap (λ (b : Bool). if b then Went ∷ [] else []) (ne_eqb f.stamp.port 15 other)) n h
  | inl own ↦ elim (cases_Bool (is_left n new.driver.plan)) [
    | inl left ↦ or_left (is_left n old.driver.plan) (is_named n old) (ap (λ (d : Driver). is_left n d.plan) (sym does.driver) ∙ left)
    | inr gone ↦
        let p : Pushes31 stage old f next = is.0 own in
        absurd (gone_not stage old.driver.plan.order next p.follows n new.driver.plan (control_of new) at.is
        (named_of n new.driver.plan (control_of new) (or_second (is_left n new.driver.plan) (is_named n new) gone h)))
  ]
]

-- ---- a tick

module _ (old : Host) (g : IsGoing old) (stage : Stage31) (at : IsAt31 stage old) (acted : Bool) (new : Host) (does : Does old (Ticked acted) new) where
  move : Moves (sight_in old) old.driver.plan new.driver.plan (due (sight_in old) old.driver)
  move = subst (λ (d : Driver). Moves (sight_in old) old.driver.plan d.plan (due (sight_in old) old.driver)) (sym does.driver) (moves (sight_in old) (file_shown new.port) old.driver)

  no_issue : (o : Option Issue) → own_issue (control_of old).view.slots 31 ≡ o → issue_at old.port.slots 31 ≡ None → is_none o ≡ true
  no_issue None is free = refl
  no_issue (Some i) is free = let bad : None ≡ Some i = sym free ∙ (own_in 15 31 old.port.slots i is).1 in cc

  -- the answer that the driver looks at
  reads_named : (n : ℕ) → Reads (sight_in old) old.driver.plan n → is_named n old ≡ true
  unfolding sight_of
  reads_named n r =
      let least : 7 ≤ old.driver.plan.opened = asked_open stage old at r.asked in
      let free : is_none (own_issue (control_of old).view.slots 31) ≡ true =
      no_issue (own_issue (control_of old).view.slots 31) refl (slot_free old.driver.plan.mode old.port old.memory 31 g.way.sound.ruled.table (omega arith) r.free) in
      let bit : has_bit (told_in (control_of old)) n ≡ true = ap (λ (k : ℕ). has_bit k n) (told_is old g least) ∙ ap (λ (v : Sight). has_bit v.answer n) (sym (sight_is old g.way.sound)) ∙ r.bit in
      and_from (is_scan old.driver.plan.order && old.driver.plan.asked) (tells n (control_of old))
      (and_from (is_scan old.driver.plan.order) old.driver.plan.asked (ap is_scan r.order) r.asked)
      (and_from (is_none (own_issue (control_of old).view.slots 31)) (has_bit (told_in (control_of old)) n) free bit)

  back_named : (n : ℕ) → control_of new ≡ control_of old → new.driver.plan.order ≡ old.driver.plan.order → new.driver.plan.asked ≡ old.driver.plan.asked → Named n new.driver.plan (control_of new) → is_named n old ≡ true
  back_named n part order asked now =
      and_from (is_scan old.driver.plan.order && old.driver.plan.asked) (tells n (control_of old))
      (and_from (is_scan old.driver.plan.order) old.driver.plan.asked (ap is_scan (sym order) ∙ now.scan) (sym asked ∙ now.asked)) (ap (tells n) (sym part) ∙ now.tells)

  -- an answer that is there after the tick was there before
  named_tick : 7 ≤ old.driver.plan.opened → (n : ℕ) → Named n new.driver.plan (control_of new) → is_named n old ≡ true
  named_tick least n now = by_move move
    where
      by_move : Moves (sight_in old) old.driver.plan new.driver.plan (due (sight_in old) old.driver) → is_named n old ≡ true
      by_move (MovesNot other same) = elim (other_stays old g stage at least new acted does other) [
        | inl part ↦ back_named n part (ap (λ (c : Control). c.order) same) (ap (λ (c : Control). c.asked) same) now
        | inr anew ↦ absurd (true≢false (sym now.scan ∙ ap is_scan anew))
      ]
      by_move (Sees other same) = elim (other_stays old g stage at least new acted does other) [
        | inl part ↦
            let stays : control_seen (sight_in old) old.driver.plan ≡ old.driver.plan = seen_asked (sight_in old) old.driver.plan (sym (ap (λ (c : Control). c.asked) same) ∙ now.asked) in
            back_named n part (ap (λ (c : Control). c.order) same ∙ ap (λ (p : Plan). p.order) stays) (ap (λ (c : Control). c.asked) same ∙ ap (λ (p : Plan). p.asked) stays) now
        | inr anew ↦ absurd (true≢false (sym now.scan ∙ ap is_scan anew))
      ]
      by_move (Issues o is free order fields same) = absurd (true≢false (sym now.free ∙ order_stands old g stage at least new acted does o is order fields))
      by_move (Anew other anew) = absurd (true≢false (sym now.scan ∙ ap is_scan anew))

  left_or_read : (n : ℕ) → (is_left n old.driver.plan ≡ true) ⊎ Reads (sight_in old) old.driver.plan n → found n old ≡ true
  left_or_read n (inl left) = or_left (is_left n old.driver.plan) (is_named n old) left
  left_or_read n (inr reads) = or_right (is_left n old.driver.plan) (is_named n old) (reads_named n reads)

  tick_keeps : (n : ℕ) → found n new ≡ true → found n old ≡ true
  tick_keeps n h = elim (cases_Bool (is_left n new.driver.plan)) [
    | inl left ↦ left_or_read n (moved_left (sight_in old) old.driver.plan new.driver.plan (due (sight_in old) old.driver) n move left)
    | inr gone ↦
        let now : Named n new.driver.plan (control_of new) = named_of n new.driver.plan (control_of new) (or_second (is_left n new.driver.plan) (is_named n new) gone h) in
        elim (tick_is (sight_in old) (file_shown new.port) old.driver) [
          | inl first ↦
              let asked : old.driver.plan.asked ≡ true = sym (ap (λ (d : Driver). d.plan.asked) does.driver ∙ ap (λ (p : Plan). p.asked) first.plan_is) ∙ now.asked in
              absurd (omega (arith, asked_open stage old at asked, first.less))
          | inr going ↦ or_right (is_left n old.driver.plan) (is_named n old) (named_tick going.least n now)
        ]
  ]

  tick_clears : IsFound old.driver.plan → (n : ℕ) → orders_clear n old ≡ true → (found n old ≡ true) × (found n new ≡ false)
  tick_clears f n flushed =
      let o : Orders31 (sight_in old) old.driver.plan new.driver.plan (due (sight_in old) old.driver) n =
      moved_clears (sight_in old) old.driver.plan new.driver.plan (due (sight_in old) old.driver) n move f (act_clears old.driver.plan.mode n (due (sight_in old) old.driver) flushed) in (
        left_or_read n o.left,
        or_from (is_left n new.driver.plan) (is_named n new) (cleared_none (sight_in old) old.driver.plan new.driver.plan (due (sight_in old) old.driver) n o.order o.asked)
            (ap (λ (x : Order). (is_scan x && new.driver.plan.asked) && tells n (control_of new)) o.order),
      )

-- ---- each turn

kept_scans : (n : ℕ) (stage : Stage31) (old : Host) (turn : HostTurn) (new : Host) → (found n new ≡ true → found n old ≡ true) → Clears n old turn new → ScansOn n stage old turn new
kept_scans n stage old turn new keeps clears = record { begins = λ none some. absurd (false≢true (sym none ∙ keeps some)); clears = clears }

-- a FIS that comes at a stage is one of the control port
reports : (stage : Stage31) (frame : List ℕ) (next : Stage31) → TakesOn stage frame next → IsReport frame
reports stage frame next (inl notice) = inr notice.1.viewed
reports stage frame next (inr (quiet, inl answer)) = inl answer.1.viewed
reports stage frame next (inr (quiet, inr signature)) = inl signature.1.viewed

-- a turn that writes no Register FIS of the control port
row_same : (old : Host) (turn : HostTurn) (new : Host) → Does old turn new → IsGoing old → IsGoing new → IsRowTurn 15 old turn → last_d2h new.memory.structure 15 ≡ last_d2h old.memory.structure 15
row_same old turn new does g m plain =
    d2h_same 15 old.memory.structure new.memory.structure (m.way.sound.memory.structure_len ∙ sym g.way.sound.memory.structure_len) (row_turn 15 old turn new (omega arith) does g.way.sound plain)

pub scans_on : (n : ℕ) → n < 15 → (stage next : Stage31) (old : Host) (turn : HostTurn) (new : Host) → Does old turn new → IsGoing old → IsGoing new → IsAt31 stage old → IsAt31 next new → IsNext31 stage old turn new next
    → IsFound old.driver.plan → ScansOn n stage old turn new × IsFound new.driver.plan
scans_on n below stage next old (Took frame report) new does g m at after is f = (
  record { begins = took_names old g new m frame report does (λ own. reports stage frame next (is.0 own)) stage at next n is; clears = tt },
  subst (λ (d : Driver). IsFound d.plan) (sym does.driver) f,
)
scans_on n below stage next old (Pushed frame) new does g m at after is f = (
  kept_scans n stage old (Pushed frame) new (push_keeps old g frame new m does stage next is after n) tt,
  subst (λ (d : Driver). IsFound d.plan) (sym does.driver) f,
)
scans_on n below stage next old (Ticked acted) new does g m at after is f = (
  kept_scans n stage old (Ticked acted) new (tick_keeps old g stage at acted new does n) (tick_clears old g stage at acted new does f n),
  moved_found (sight_in old) old.driver.plan new.driver.plan (due (sight_in old) old.driver) (move old g stage at acted new does) f,
)
scans_on n below stage next old (Submitted dev request ticket) new does g m at after is f =
    let plan : new.driver.plan ≡ old.driver.plan = ap (λ (d : Driver). d.plan) does.taken.driver in
    (kept_scans n stage old (Submitted dev request ticket) new (beside_same n stage old (Submitted dev request ticket) new g m at does.port plan (row_same old (Submitted dev request ticket) new does g m tt)) tt, subst IsFound (sym plan) f)
scans_on n below stage next old (Polled c) new does g m at after is f =
    let plan : new.driver.plan ≡ old.driver.plan = ap (λ (d : Driver). d.plan) does.driver ∙ poll_plan old.driver in
    (kept_scans n stage old (Polled c) new (λ h. sym (found_same n old new plan (same_part old new does.port does.memory)) ∙ h) tt, subst IsFound (sym plan) f)
scans_on n below stage next old (Put place bytes) new does g m at after is f =
    let plan : new.driver.plan ≡ old.driver.plan = ap (λ (d : Driver). d.plan) does.driver in
    (kept_scans n stage old (Put place bytes) new (beside_same n stage old (Put place bytes) new g m at does.port plan (row_same old (Put place bytes) new does g m tt)) tt, subst IsFound (sym plan) f)

-- ---- what an answer told

module _ (stage next : Stage31) (old : Host) (turn : HostTurn) (new : Host) (g : IsGoing old) (m : IsGoing new) (at : IsAt31 stage old) (after : IsAt31 next new)
    (asked : new.driver.plan.asked ≡ true) (on : is_on new.driver.plan.order ≡ false) (off : is_off new.driver.plan.order ≡ false) (free : IsFree31 (control_of new)) where
  -- the part stays
  kept_told : control_of new ≡ control_of old → Tells stage old turn new
  kept_told part = Keeps (ap (λ (x : DevicePart). own_issue x.view.slots 31) (sym part) ∙ free) (ap told_in part)

  -- port and plan stay, and the row of the answer
  beside_told : new.port ≡ old.port → new.driver.plan ≡ old.driver.plan → last_d2h new.memory.structure 15 ≡ last_d2h old.memory.structure 15 → Tells stage old turn new
  beside_told port plan row =
      let was : old.driver.plan.asked ≡ true = ap (λ (p : Plan). p.asked) (sym plan) ∙ asked in
      let least : 7 ≤ old.driver.plan.opened = asked_open stage old at was in
      let later : 7 ≤ new.driver.plan.opened = subst (λ (p : Plan). 7 ≤ p.opened) (sym plan) least in
      Keeps (ap (λ (p : Port). own_issue (slots_of 15 p.slots) 31) (sym port) ∙ free) (told_is new m later ∙ ap (λ (f : List ℕ). answer_in (seen f)) row ∙ sym (told_is old g least))

  -- slot 31 is free only where the order is asked and its answer came
  never_sent : {P : Type 0} → (i : Issue) → own_issue (control_of new).view.slots 31 ≡ Some i → P
  never_sent i there = let bad : None ≡ Some i = sym free ∙ there in absurd (cc)

  after_push : (old_order : Order) → Follows31 stage old_order next → Tells stage old turn new
  after_push o (inl h) = absurd (by_way (subst (λ (s : Stage31). IsIn s new.driver.plan.order new.driver.plan.asked (control_of new)) h.2 after.is))
    where
      by_way : IsIn Resets new.driver.plan.order new.driver.plan.asked (control_of new) → ⊥
      by_way (inl is) = true≢false (sym (ap is_on is.0) ∙ on)
      by_way (inr is) = true≢false (sym (ap is_off is.0) ∙ off)
  after_push o (inr (inl h)) =
      let is : IsIn Asks new.driver.plan.order new.driver.plan.asked (control_of new) = subst (λ (s : Stage31). IsIn s new.driver.plan.order new.driver.plan.asked (control_of new)) h.2 after.is in
      never_sent is.2.issue is.2.issued
  after_push o (inr (inr h)) = absurd (by_way (subst (λ (s : Stage31). IsIn s new.driver.plan.order new.driver.plan.asked (control_of new)) h.2 after.is))
    where
      by_way : IsIn Signs new.driver.plan.order new.driver.plan.asked (control_of new) → ⊥
      by_way (none, inl is) = true≢false (sym (ap is_off is.0) ∙ off)
      by_way (none, inr is) = true≢false (sym asked ∙ is.1)

module _ (stage next : Stage31) (old : Host) (new : Host) (g : IsGoing old) (m : IsGoing new) (at : IsAt31 stage old) (after : IsAt31 next new)
    (asked : new.driver.plan.asked ≡ true) (on : is_on new.driver.plan.order ≡ false) (off : is_off new.driver.plan.order ≡ false) (free : IsFree31 (control_of new)) where
  module _ (frame : List ℕ) (report : TakeReport) (does : Does old (Took frame report) new) (of : IsOfControl frame) where
    was_asked : old.driver.plan.asked ≡ true
    was_asked = ap (λ (d : Driver). d.plan.asked) (sym does.driver) ∙ asked

    least31 : 7 ≤ old.driver.plan.opened
    least31 = asked_open stage old at was_asked

    notice_told : port_of frame ≡ 15 → IsNotice31 frame → Tells stage old (Took frame report) new
    notice_told own is = elim (cases_Bool (is_ignored true (control_of old).view (Ok (view.SetBits frame)))) [
      | inl skips ↦
          kept_told stage next old (Took frame report) new g m at after asked on off free (took_own old g new m frame report does of least31 own ∙ skipped_part (control_of old) frame (view.SetBits frame) is.viewed skips)
      | inr hears ↦
          let part = after_notice old g new m frame report does of stage at least31 own is hears in
          let issue : own_issue (control_of new).view.slots 31 ≡ own_issue (control_of old).view.slots 31 = ap (λ (x : DevicePart). own_issue x.view.slots 31) part ∙ none_done (control_of old).view.slots in
          Keeps (sym issue ∙ free) (ap told_in part ∙ ap (λ (f : List ℕ). answer_in (seen f)) (bits_row old g new m frame report does of stage at least31 is))
    ]

    answer_told : stage ≡ Asks → port_of frame ≡ 15 → seen frame ≡ Ok (view.RegD2H frame) → Tells stage old (Took frame report) new
    answer_told asks own viewed =
        let is : IsIn Asks old.driver.plan.order old.driver.plan.asked (control_of old) = subst (λ (s : Stage31). IsIn s old.driver.plan.order old.driver.plan.asked (control_of old)) asks at.is in
        elim (cases_Bool (is_ignored true (control_of old).view (Ok (view.RegD2H frame)))) [
          | inl skips ↦
              let part : control_of new ≡ control_of old = took_own old g new m frame report does of least31 own ∙ skipped_part (control_of old) frame (view.RegD2H frame) viewed skips in
              never_sent stage next old (Took frame report) new g m at after asked on off free is.2.issue (ap (λ (x : DevicePart). own_issue x.view.slots 31) part ∙ is.2.issued)
          | inr hears ↦
              let part = took_own old g new m frame report does of least31 own ∙ heard_part (control_of old) frame (view.RegD2H frame) viewed refl hears in
              Comes frame report refl own asks viewed (ap told_in part ∙ ap (λ (f : List ℕ). answer_in (seen f)) (answer_row old g new m frame report does of stage at least31 viewed))
        ]

    signs_never : stage ≡ Signs → Tells stage old (Took frame report) new
    signs_never signs = absurd (by_way (subst (λ (s : Stage31). IsIn s old.driver.plan.order old.driver.plan.asked (control_of old)) signs at.is))
      where
        by_way : IsIn Signs old.driver.plan.order old.driver.plan.asked (control_of old) → ⊥
        by_way (none, inl is) = true≢false (sym (ap is_off is.0) ∙ ap (λ (d : Driver). is_off d.plan.order) (sym does.driver) ∙ off)
        by_way (none, inr is) = true≢false (sym was_asked ∙ is.1)

    took_told : IsNext31 stage old (Took frame report) new next → Tells stage old (Took frame report) new
    took_told is = elim (cases_eq (port_of frame) 15) [
      | inr other ↦ kept_told stage next old (Took frame report) new g m at after asked on off free (other_part old g new m frame report does of stage at other)
      | inl own ↦ by_kind own (is.0 own)
    ]
      where
        by_kind : port_of frame ≡ 15 → TakesOn stage frame next → Tells stage old (Took frame report) new
        by_kind own (inl notice) = notice_told own notice.1
        by_kind own (inr (quiet, inl answer)) = answer_told answer.0 own answer.1.viewed
        by_kind own (inr (quiet, inr signature)) = signs_never signature.0

  module _ (acted : Bool) (does : Does old (Ticked acted) new) where
    same_told : control_of new ≡ control_of old → Tells stage old (Ticked acted) new
    same_told = kept_told stage next old (Ticked acted) new g m at after asked on off free

    reset_told : new.driver.plan.order ≡ ResetOn → Tells stage old (Ticked acted) new
    reset_told is = absurd (true≢false (sym (ap is_on is) ∙ on))

    other_told : 7 ≤ old.driver.plan.opened → IsOther (due (sight_in old) old.driver) → Tells stage old (Ticked acted) new
    other_told least other = elim (other_stays old g stage at least new acted does other) [ inl part ↦ same_told part | inr anew ↦ reset_told anew ]

    going_told : 7 ≤ old.driver.plan.opened → Tells stage old (Ticked acted) new
    going_told least = by_move (move old g stage at acted new does)
      where
        by_move : Moves (sight_in old) old.driver.plan new.driver.plan (due (sight_in old) old.driver) → Tells stage old (Ticked acted) new
        by_move (MovesNot other same) = other_told least other
        by_move (Sees other same) = other_told least other
        by_move (Issues o is unasked order fields same) = absurd (true≢false (sym (ap is_none free) ∙ order_stands old g stage at least new acted does o is order fields))
        by_move (Anew other anew) = reset_told anew

    tick_told : Tells stage old (Ticked acted) new
    tick_told = elim (tick_is (sight_in old) (file_shown new.port) old.driver) [
      | inl first ↦
          let was : old.driver.plan.asked ≡ true = sym (ap (λ (d : Driver). d.plan.asked) does.driver ∙ ap (λ (p : Plan). p.asked) first.plan_is) ∙ asked in
          absurd (omega (arith, asked_open stage old at was, first.less))
      | inr going ↦ going_told going.least
    ]

-- ---- what the driver sees of slot 31

none_issue : (h : Host) (o : Option Issue) → own_issue (control_of h).view.slots 31 ≡ o → issue_at h.port.slots 31 ≡ None → o ≡ None
none_issue h None is free = refl
none_issue h (Some i) is free = let bad : None ≡ Some i = sym free ∙ (own_in 15 31 h.port.slots i is).1 in cc

-- that it is free
pub free_seen : (h : Host) → IsGoing h → has_bit (sight_in h).issued 31 ≡ false → IsFree31 (control_of h)
free_seen h g off =
    none_issue h (own_issue (control_of h).view.slots 31) refl (slot_free h.driver.plan.mode h.port h.memory 31 g.way.sound.ruled.table (omega arith) off)

-- what the answer told
pub told_seen : (h : Host) → IsGoing h → (stage : Stage31) → IsAt31 stage h → h.driver.plan.asked ≡ true → (sight_in h).answer ≡ told_in (control_of h)
unfolding sight_of
told_seen h g stage at asked = ap (λ (v : Sight). v.answer) (sight_is h g.way.sound) ∙ sym (told_is h g (asked_open stage h at asked))

-- what the answer of slot 31 told stays until the driver has looked at it
pub tells_on : (stage next : Stage31) (old : Host) (turn : HostTurn) (new : Host) → Does old turn new → IsGoing old → IsGoing new → IsAt31 stage old → IsAt31 next new → IsNext31 stage old turn new next
    → new.driver.plan.asked ≡ true → is_on new.driver.plan.order ≡ false → is_off new.driver.plan.order ≡ false → IsFree31 (control_of new) → Tells stage old turn new
tells_on stage next old (Took frame report) new does g m at after is asked on off free =
    took_told stage next old new g m at after asked on off free frame report does (λ own. reports stage frame next (is.0 own)) is
tells_on stage next old (Pushed None) new does g m at after is asked on off free = kept_told stage next old (Pushed None) new g m at after asked on off free (push_part old g None new m does refl)
tells_on stage next old (Pushed (Some f)) new does g m at after is asked on off free = elim (cases_eq f.stamp.port 15) [
  | inr other ↦
      kept_told stage next old (Pushed (Some f)) new g m at after asked on off free (push_part old g (Some f) new m does (ap (λ (b : Bool). if b then Went ∷ [] else []) (ne_eqb f.stamp.port 15 other)))
  | inl own ↦ after_push stage next old (Pushed (Some f)) new g m at after asked on off free old.driver.plan.order (is.0 own).follows
]
tells_on stage next old (Ticked acted) new does g m at after is asked on off free = tick_told stage next old new g m at after asked on off free acted does
tells_on stage next old (Submitted dev request ticket) new does g m at after is asked on off free =
    beside_told stage next old (Submitted dev request ticket) new g m at after asked on off free does.port (ap (λ (d : Driver). d.plan) does.taken.driver) (row_same old (Submitted dev request ticket) new does g m tt)
tells_on stage next old (Polled c) new does g m at after is asked on off free =
    kept_told stage next old (Polled c) new g m at after asked on off free (same_part old new does.port does.memory)
tells_on stage next old (Put place bytes) new does g m at after is asked on off free =
    beside_told stage next old (Put place bytes) new g m at after asked on off free does.port (ap (λ (d : Driver). d.plan) does.driver) (row_same old (Put place bytes) new does g m tt)

-- as the host opens nothing is found
pub found_opens : (n given : ℕ) (start : Memory) → (found n (opening_host given start) ≡ false) × IsFound (opening_host given start).driver.plan
found_opens n given start = (refl, tt)

-- ---- over turns

asking_is : (s : Stage31) → is_asking s ≡ true → s ≡ Asks
asking_is Asks h = refl
asking_is s h = absurd (false≢true h)

answers_is : (n : ℕ) (stage : Stage31) (old : Host) (frame : List ℕ) → Names n stage old frame → answers_scan stage old frame ≡ true
answers_is n stage old frame is =
    let answer : is_answer (seen frame) ≡ true = ap is_answer is.answer.viewed ∙ not_from_false (is_busy (field D2h Status frame)) is.answer.done in
    let scan : (is_scan old.driver.plan.order && is_answer (seen frame)) ≡ true = and_from (is_scan old.driver.plan.order) (is_answer (seen frame)) (ap is_scan is.order) answer in
    and_from (port_of frame == 15) (is_asking stage && (is_scan old.driver.plan.order && is_answer (seen frame))) (ap (λ (k : ℕ). k == 15) is.own)
    (and_from (is_asking stage) (is_scan old.driver.plan.order && is_answer (seen frame)) (ap is_asking is.asks) scan)

-- while the answer to a read of GSCR[32] is awaited nothing is found
asking_none : (n : ℕ) (stage : Stage31) (old : Host) (frame : List ℕ) → IsAt31 stage old → answers_scan stage old frame ≡ true → found n old ≡ false
asking_none n stage old frame at asked =
    let rest = and_parts (port_of frame == 15) (is_asking stage && (is_scan old.driver.plan.order && is_answer (seen frame))) asked in
    let more = and_parts (is_asking stage) (is_scan old.driver.plan.order && is_answer (seen frame)) rest.1 in
    let scan = and_parts (is_scan old.driver.plan.order) (is_answer (seen frame)) more.1 in
    let order : old.driver.plan.order ≡ Scan = scan_is old.driver.plan.order scan.0 in
    let asks : IsIn Asks old.driver.plan.order old.driver.plan.asked (control_of old) = subst (λ (s : Stage31). IsIn s old.driver.plan.order old.driver.plan.asked (control_of old)) (asking_is stage more.0) at.is in
    let sent : IsSent (control_of old) = asks.2 in
    let silent : tells n (control_of old) ≡ false = and_left (is_none (own_issue (control_of old).view.slots 31)) (has_bit (told_in (control_of old)) n) (ap is_none sent.issued) in
    or_from (is_left n old.driver.plan) (is_named n old) (ap (λ (o : Order). comes_to o old.driver.plan.asked n && has_bit old.driver.plan.found n) order)
    (and_right (is_scan old.driver.plan.order && old.driver.plan.asked) (tells n (control_of old)) silent)

module _ (n : ℕ) (named : Bool) (stage : Stage31) (old new : Host) (at : IsAt31 stage old) (known : found n old ≡ true → named ≡ true) where
  named_clears : (turn : HostTurn) → ScansOn n stage old turn new → ClearsNamed n named old turn
  named_clears (Ticked acted) s = λ flushed. known (s.clears flushed).0
  named_clears other s = tt

  was_named : (turn : HostTurn) → ScansOn n stage old turn new → (Finds n stage old turn → ⊥) → found n new ≡ true → named ≡ true
  was_named turn s never some = elim (cases_Bool (found n old)) [ inl was ↦ known was | inr none ↦ absurd (never (s.begins none some)) ]

  named_then : (turn : HostTurn) → ScansOn n stage old turn new → found n new ≡ true → named_after n named stage old turn ≡ true
  named_then (Took frame report) s some = elim (cases_Bool (answers_scan stage old frame)) [
    | inl answers ↦
        let names : Names n stage old frame = s.begins (asking_none n stage old frame at answers) some in
        ap (λ (b : Bool). if b then has_bit (answer_in (seen frame)) n else named) answers ∙ names.bit
    | inr other ↦
        ap (λ (b : Bool). if b then has_bit (answer_in (seen frame)) n else named) other
        ∙ was_named (Took frame report) s (λ names. true≢false (sym (answers_is n stage old frame names) ∙ other)) some
  ]
  named_then (Ticked acted) s some = elim (cases_Bool (orders_clear n old)) [
    | inl flushed ↦ absurd (false≢true (sym (s.clears flushed).1 ∙ some))
    | inr not_flushed ↦ and_from named (not (orders_clear n old)) (was_named (Ticked acted) s (λ never. never) some) (not_from_false (orders_clear n old) not_flushed)
  ]
  named_then other s some = was_named other s (λ never. never) some

scans_over : (turns : List HostTurn) (old new : Host) (run : DoesAll old turns new) → IsGoing old → (stage : Stage31) → IsAt31 stage old → IsFound old.driver.plan → (n : ℕ) → n < 15
    → (named : Bool) → (found n old ≡ true → named ≡ true) → Scans n named stage old turns new run
scans_over [] old new run g stage at f n below named known = tt
scans_over (t ∷ turns) old new run g stage at f n below named known = λ may.
    let m : IsGoing run.0 = going_turn old t run.0 run.1 g (control_in31 stage t may) in
    let next : Turns31 stage old t run.0 = turn31 old g t run.0 m run.1 stage at may in
    let s = scans_on n below stage next.next old t run.0 run.1 g m at next.at next.is f in (
      next,
      named_clears n named stage old run.0 at known t s.0,
      scans_over turns run.0 new run.2 m next.next next.at s.1 n below (named_after n named stage old t) (named_then n named stage old run.0 at known t s.0),
    )

pub scans_clear : ScansClear
scans_clear given start right turns h run n below =
    let opens = found_opens n given start in
    scans_over turns (opening_host given start) h run (going_opens given start right) Rests (opens31 given start) opens.1 n below false (λ some. absurd (false≢true (sym opens.0 ∙ some)))
