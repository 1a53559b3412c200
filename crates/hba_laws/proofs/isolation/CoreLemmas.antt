-- For `core_isolated`. One event of a port without a memory, and then a list of them.
use Rattle.std.proofs.Common.{◌≡◌, ◌≢◌, ℕ, ◌<◌, Bool, true, false, ◌&&◌, ◌||◌, List, [], ◌∷◌, ◌++◌, refl, sym, ◌∙◌, ap, subst, inl, inr, Option, Some}
use Rattle.std.proofs.{Common.None, lemmas.Bool.{and_parts, cases_Bool, cond-false, cond-true, eqb-true, eqb-false, not-false, or_parts, true≢false}}
use Rattle.std.specs.{Prelude.{◌==◌, if◌then◌else◌, not, is_none, is_some, Result}, Option.option_or}
use Rattle.fis_view.specs.{Seen.seen, declared.view.{Fis.Fis, FisFault.FisFault}}
use Rattle.hba_commands.specs.declared.command.Command.{Command}
use Rattle.slots.specs.{Between.Owns, Data.payload, Slots.{Issue, context_of, issue_at, match_some, own_issue}}
use Rattle.hba_fbs.specs.declared.{hearing.Fault.Fault, register.Register.{Register, TheVariants.{Clb, Cmd, Ci, Fbs}}, registers.Registers.Registers}
use Rattle.hba_fbs.specs.declared.{report.TakeReport.TakeReport, room.Room.{Room, TheVariants.NoTable}, turn.Turn.{Turn, TheVariants.{Feeds, Orders}}}
use Rattle.hba_fbs.specs.{declared.{turn.Turn.TheVariants.Rests, greeting.Line.Line}, Choosing.{Chooses, GoesTo, MayChoose}, Deciding.Decides}
use Rattle.hba_fbs.specs.{Deciding.{decided, decided_view, heard_within}, Greeting.{Hangs, line_view}, Issuing.{any_slot, is_busy, issued_slots}}
use Rattle.hba_fbs.specs.{Issuing.view_with, Offering.{AcceptsBy, Offer, aimed_by, asked_by, commands_by, refusal_by, slots_refusal_by, view_by}}
use Rattle.hba_fbs.specs.{Placing.{Places, issue_error}, Registers.{falls, own_refusal_by, written}, Sending.{next_receiver, next_to_send, view_fed}}
use Rattle.hba_fbs.specs.{Sending.view_sent, Taking.{admitted, ignores, is_ignored, is_running, passes_over, port_cause, port_of, stops_with}}
use Rattle.hba_fbs.specs.{Taking.view_after_hearing, Stopping.{Overrides, SetsCmd, fallen_view, overridden_view}, Turning.{Goes, IsOrdered, Turns}}
use Rattle.hba_fbs.specs.{Turning.{feeds, orders, turn_of}, Views.{DeviceView, Flushes, Port, flushed_view, last_command, stopped_view, view_of}}
use Rattle.hba_fbs.specs.Writing.{cleared_by, is_device}
use Rattle.hba_laws.specs.{Between.{IsOrder, KeepsOwn}, Cores.{AreCores, AreOfOnes, Arrived, Chose, Commanded, CoreEvent, CoreOwn, DoesBy, Fed}}
use Rattle.hba_laws.specs.Cores.{Flushed, Gave, Gone, Hung, IsCore, IsFoldByOwn, IsPart, Overridden, Overrode, Own, Placed, RunsBy, Sent, Took, Wrote}
use Rattle.hba_laws.specs.Cores.{after_hearing, chosen_to, own_by, own_through, part_by, part_by_all, stops_by, told_to, turned_to, used}
use Rattle.hba_laws.specs.Isolation.{Cleared, Emptied, Issued, Went, after_going, after_order, lowers_st, next_own, part_after, row_with, skips}
use Rattle.hba_laws.specs.Parts.{DevicePart, commands_of, with_view}
use Rattle.hba_laws.proofs.soundness.{KeptLemmas.taken_mode, WriteLemmas.{commands_chosen, commands_other_by, first_none, free_by, mode_own}}
use Rattle.hba_laws.proofs.{soundness.WriteLemmas.none_busy_by, histories.ChoiceLemmas.{chosen_filled, none_busy}, isolation.HeardLemmas.heard_alike}
use Rattle.hba_laws.proofs.isolation.{OutgoingLemmas.{order_filled, order_is_own, order_no_payload}, PartLemmas.{commands_kept, commands_same}}
use Rattle.hba_laws.proofs.isolation.SlotLemmas.{keeps_fed, keeps_moved, keeps_none, keeps_sent}

-- ---- parts

-- nothing of a device changes
stands : (n : ℕ) (old new : Port) (p : DevicePart) → IsPart n old p → view_of n new ≡ view_of n old → new.commands ≡ old.commands → new.registers.switching ≡ old.registers.switching → IsPart n new p
stands n old new p is v c m = record {
  view = is.view ∙ sym v;
  commands = is.commands ∙ sym (commands_same (view_of n new) (view_of n old) new.commands old.commands v c);
  row = is.row ∙ sym m;
}

-- its view becomes this
shown : (n : ℕ) (old new : Port) (p q : DevicePart) (w : DeviceView) → IsPart n old p → view_of n new ≡ w → KeepsOwn (view_of n old).slots w.slots → new.commands ≡ old.commands
    → new.registers.switching ≡ old.registers.switching → q.view ≡ w → q.commands ≡ commands_of w.slots p.commands → is_some q.row ≡ is_some p.row → IsPart n new q
shown n old new p q w is v keeps c m view commands row = record {
  view = view ∙ sym v;
  commands = commands ∙ ap (commands_of w.slots) is.commands ∙ sym (commands_kept (view_of n old).slots w.slots (last_command old.commands) keeps)
      ∙ sym (commands_same (view_of n new) w new.commands old.commands v c);
  row = row ∙ is.row ∙ sym m;
}

pub same_port : (n : ℕ) (old new : Port) (p : DevicePart) → IsPart n old p → new ≡ old → IsPart n new p
same_port n old new p is same = subst (λ (x : Port). IsPart n x p) (sym same) is

-- a list of one own event, or none
one_if : (n : ℕ) (new : Port) (p : DevicePart) (b : Bool) (event : CoreOwn) → (b ≡ true → IsPart n new (part_by n p event)) → (b ≡ false → IsPart n new p) → IsPart n new (part_by_all n p (if b then event ∷ [] else []))
one_if n new p true event one none = one refl
one_if n new p false event one none = none refl

pick : (n : ℕ) (new : Port) (b : Bool) (x y : DevicePart) → (b ≡ true → IsPart n new x) → (b ≡ false → IsPart n new y) → IsPart n new (if b then x else y)
pick n new true x y one other = one refl
pick n new false x y one other = other refl

-- ---- a frame is taken

row_stays : (row : Option (List ℕ)) (fis : Option Fis) → is_some (row_with row fis) ≡ is_some row
row_stays row None = refl
row_stays None (Some fis) = refl
row_stays (Some bytes) (Some fis) = refl

-- the device skips what the port ignores
pub skipped : (n : ℕ) (old : Port) (p : DevicePart) (frame : List ℕ) → is_running old ≡ true → IsPart n old p → skips n p (seen frame) ≡ ignores n old frame
skipped n old p frame runs is =
    let fis : Result Fis FisFault = seen frame in
    ap (λ (b : Bool). passes_over b n p.view fis || is_ignored true p.view fis) is.row
    ∙ ap (λ (v : DeviceView). passes_over old.registers.switching n v fis || is_ignored true v fis) is.view
    ∙ ap (λ (r : Bool). passes_over old.registers.switching n (view_of n old) fis || is_ignored r (view_of n old) fis) (sym runs)

unless_ignored : (i b : Bool) → i ≡ false → (not i && b) ≡ false → b ≡ false
unless_ignored true b is h = absurd (true≢false is)
unless_ignored false b is h = h

mode_heard : (old new : Port) (dev : ℕ) (room : Room) (fis : Option Fis) (report : TakeReport) → Decides old dev room fis report new → new.registers.switching ≡ old.registers.switching
mode_heard old new dev room fis report d =
    taken_mode old.registers new.registers dev (view_of dev old).state.resetting fis (decided dev (view_of dev old) room fis) d.registers

-- a FIS that stops no port is heard as if its table could be used
pub decided_used : (n : ℕ) (v : DeviceView) (room : Room) (fis : Option Fis) → is_some (port_cause (decided n v room fis).fault) ≡ false → decided n v room fis ≡ decided n v (used room) fis
unfolding heard_within
decided_used n v NoTable None h = refl
decided_used n v NoTable (Some fis) h = heard_alike n v false (Some fis) h
decided_used n v other fis h = refl

heard_own : (n : ℕ) (old new : Port) (p : DevicePart) (room : Room) (fis : Option Fis) (report : TakeReport) → IsPart n old p → Decides old n room fis report new
    → stops_with old.registers.switching (decided n (view_of n old) room fis).fault ≡ false → IsPart n new (after_hearing n p (used room) fis)
heard_own n old new p room fis report is d none =
    let v : DeviceView = view_of n old in
    let f : Option Fault = (decided n v room fis).fault in
    let quiet : is_some (port_cause f) ≡ false = (or_parts (not old.registers.switching && is_some f) (is_some (port_cause f)) none).1 in
    let w : DeviceView = decided_view n v (used room) fis in
    shown n old new p (after_hearing n p (used room) fis) w is (d.own ∙ ap (view_after_hearing v) (decided_used n v room fis quiet)) (keeps_moved (decided n v (used room) fis).happening v.slots) d.commands (mode_heard old new n room fis report d)
    (ap (λ (x : DeviceView). decided_view n x (used room) fis) is.view) (ap (λ (x : DeviceView). commands_of (decided_view n x (used room) fis).slots p.commands) is.view) (row_stays p.row fis)

took_own : (n : ℕ) (old new : Port) (p : DevicePart) (frame : List ℕ) (room : Room) (report : TakeReport) → n ≡ port_of frame → is_running old ≡ true → IsPart n old p → DoesBy old (Took frame room report) new
    → stops_by old (Took frame room report) ≡ false → IsPart n new (part_by n p (Arrived room frame))
took_own n old new p frame room report at runs is does none = subst Goal (sym at) here is
  where
    Goal : ℕ → Type 0
    Goal m = IsPart m old p → IsPart m new (part_by m p (Arrived room frame))

    here : Goal (port_of frame)
    here is =
        let dev : ℕ = port_of frame in
        let fis : Option Fis = admitted dev (seen frame) in
        let s : skips dev p (seen frame) ≡ ignores dev old frame = skipped dev old p frame runs is in
        pick dev new (skips dev p (seen frame)) p (after_hearing dev p (used room) fis)
        (λ t. same_port dev old new p is (does.ignored (sym s ∙ t)).port)
        (λ f.
        heard_own dev old new p room fis report is (does.heard (sym s ∙ f))
        (unless_ignored (ignores dev old frame) (stops_with old.registers.switching (decided dev (view_of dev old) room fis).fault) (sym s ∙ f) none))

took_other : (n : ℕ) (old new : Port) (p : DevicePart) (frame : List ℕ) (room : Room) (report : TakeReport) → n ≢ port_of frame → IsPart n old p → DoesBy old (Took frame room report) new → IsPart n new p
took_other n old new p frame room report ne is does =
    let dev : ℕ = port_of frame in
    elim (cases_Bool (ignores dev old frame)) [
      | inl t ↦ same_port n old new p is (does.ignored t).port
      | inr f ↦ stands n old new p is ((does.heard f).others n ne) (does.heard f).commands (mode_heard old new dev room (admitted dev (seen frame)) report (does.heard f))
    ]

took : (n : ℕ) (old new : Port) (p : DevicePart) (frame : List ℕ) (room : Room) (report : TakeReport) → is_running old ≡ true → IsPart n old p → DoesBy old (Took frame room report) new
    → stops_by old (Took frame room report) ≡ false → IsPart n new (part_by_all n p (own_by n old (Took frame room report)))
took n old new p frame room report runs is does none =
    one_if n new p (port_of frame == n) (Arrived room frame) (λ same. took_own n old new p frame room report (sym (eqb-true (port_of frame) n same)) runs is does none)
    (λ differs. took_other n old new p frame room report (λ e. eqb-false (port_of frame) n differs (sym e)) is does)

-- ---- a register is written

-- a write that is not refused
record Written (old : Port) (offer : Offer) (register : Register) (value : ℕ) (new : Port) : Type 0 where
  own : own_refusal_by register old.registers value ≡ None
  free : register ≡ Ci → old.registers.started ≡ true → any_slot value (is_busy old.slots) ≡ false
  registers : new.registers ≡ written register old.registers value
  views : (n : ℕ) → n < 16 → view_of n new ≡ view_by register old offer value n
  commands : new.commands ≡ commands_by register old offer value

accepted : (old new : Port) (register : Register) (value : ℕ) (offer : Offer) → refusal_by register old offer value ≡ None → AcceptsBy old offer register value new → Written old offer register value new
accepted old new register value offer taken does = record {
  own = first_none (own_refusal_by register old.registers value) (slots_refusal_by register old offer value) taken;
  free = λ is started. free_by old offer value started (subst (λ (r : Register). refusal_by r old offer value ≡ None) is taken);
  registers = does.registers;
  views = does.views;
  commands = does.commands;
}

written_mode : (register : Register) (r : Registers) (value : ℕ) → r.started ≡ true → own_refusal_by register r value ≡ None → (written register r value).switching ≡ r.switching
unfolding written own_refusal_by
written_mode Fbs r value started accepted = mode_own r value started accepted
written_mode other r value started accepted = refl

mode_written : (old new : Port) (register : Register) (value : ℕ) (offer : Offer) → old.registers.started ≡ true → Written old offer register value new → new.registers.switching ≡ old.registers.switching
mode_written old new register value offer started does =
    ap (λ (r : Registers). r.switching) does.registers ∙ written_mode register old.registers value started does.own

wrote_none : (n : ℕ) (old new : Port) (p : DevicePart) (register : Register) (value : ℕ) (offer : Offer) → n < 16 → old.registers.started ≡ true → IsPart n old p → Written old offer register value new
    → view_by register old offer value n ≡ view_of n old → commands_by register old offer value ≡ old.commands → IsPart n new p
wrote_none n old new p register value offer lt started is does view commands =
    stands n old new p is (does.views n lt ∙ view) (does.commands ∙ commands) (mode_written old new register value offer started does)

issued_own : (n : ℕ) (old new : Port) (p : DevicePart) (value : ℕ) (offer : Offer) → n < 16 → n ≡ aimed_by old.registers offer value → (n == aimed_by old.registers offer value) ≡ true → old.registers.started ≡ true → IsCore new
    → IsPart n old p → Written old offer Ci value new → IsPart n new (part_after n p (Issued (asked_by offer value)))
unfolding view_by commands_by
issued_own n old new p value offer lt at same started next is does =
    let a : ℕ → Option Command = asked_by offer value in
    let v : DeviceView = view_of n old in
    let chosen : ℕ = aimed_by old.registers offer value in
    let w : DeviceView = view_with n a v in
    let is_w : view_of n new ≡ w = does.views n lt ∙ cond-true (n == chosen) (view_with chosen a v) v same ∙ ap (λ (k : ℕ). view_with k a v) (sym at) in
    record {
      view = ap (λ (x : DeviceView). view_with n a x) is.view ∙ sym is_w;
      commands = ap (λ (x : DeviceView). commands_of (issued_slots n a x.slots) (λ slot. option_or (a slot) (p.commands slot))) is.view
          ∙ ap (λ (f : ℕ → Option Command). commands_of (issued_slots n a v.slots) (λ slot. option_or (a slot) (f slot))) is.commands
          ∙ sym (commands_chosen n a v.slots new.slots old.commands new.commands next.port.commands (ap (λ (x : DeviceView). x.slots) is_w) does.commands);
      row = is.row ∙ sym (mode_written old new Ci value offer started does);
    }

issued_other : (n : ℕ) (old new : Port) (p : DevicePart) (value : ℕ) (offer : Offer) → n < 16 → (n == aimed_by old.registers offer value) ≡ false → old.registers.started ≡ true → IsCore old → IsCore new
    → IsPart n old p → Written old offer Ci value new → IsPart n new p
unfolding view_by commands_by
issued_other n old new p value offer lt differs started before next is does =
    let a : ℕ → Option Command = asked_by offer value in
    let chosen : ℕ = aimed_by old.registers offer value in
    let same : view_of n new ≡ view_of n old = does.views n lt ∙ cond-false (n == chosen) (view_with chosen a (view_of n old)) (view_of n old) differs in
    record {
      view = is.view ∙ sym same;
      commands = is.commands
          ∙ sym (commands_other_by n old.slots old.commands a new.slots new.commands (none_busy_by old.slots value offer.commands (does.free refl started)) before.slots next.port.commands (ap (λ (x : DeviceView). x.slots) same) does.commands);
      row = is.row ∙ sym (mode_written old new Ci value offer started does);
    }

cleared : (n : ℕ) (old new : Port) (p : DevicePart) (w : DeviceView) → IsPart n old p → view_of n new ≡ stopped_view (view_of n old) → new.commands ≡ old.commands → new.registers.switching ≡ old.registers.switching
    → IsPart n new (part_after n p Cleared)
cleared n old new p w is v c m =
    shown n old new p (with_view p (stopped_view p.view)) (stopped_view (view_of n old)) is v (keeps_none (view_of n old).slots) c m (ap stopped_view is.view) refl refl

wrote : (n : ℕ) (old new : Port) (p : DevicePart) (register : Register) (value : ℕ) (offer : Offer) → n < 16 → old.registers.started ≡ true → IsCore old → IsCore new → IsPart n old p
    → Written old offer register value new → lowers_st register old.registers value ≡ false → IsPart n new (part_by_all n p (told_to n old register value offer))
unfolding view_by commands_by
wrote n old new p Cmd value offer lt started before next is does none =
    wrote_none n old new p Cmd value offer lt started is does (cond-false (falls old.registers value) (stopped_view (view_of n old)) (view_of n old) none) refl
wrote n old new p Ci value offer lt started before next is does none =
    one_if n new p (n == aimed_by old.registers offer value) (Own (Issued (asked_by offer value)))
    (λ same. issued_own n old new p value offer lt (eqb-true n (aimed_by old.registers offer value) same) same started next is does)
    (λ differs. issued_other n old new p value offer lt differs started before next is does)
wrote n old new p Fbs value offer lt started before next is does none =
    let o : Option ℕ = cleared_by old.errors value in
    let v : DeviceView = view_of n old in
    one_if n new p (is_device n o) (Own Cleared)
    (λ same. cleared n old new p v is (does.views n lt ∙ cond-true (is_device n o) (stopped_view v) v same) does.commands (mode_written old new Fbs value offer started does))
    (λ differs. wrote_none n old new p Fbs value offer lt started is does (cond-false (is_device n o) (stopped_view v) v differs) refl)
wrote n old new p Clb value offer lt started before next is does none = wrote_none n old new p Clb value offer lt started is does refl refl
wrote n old new p other value offer lt started before next is does none = wrote_none n old new p other value offer lt started is does refl refl

-- ---- a device is flushed

emptied : (n : ℕ) (old new : Port) (p : DevicePart) (dev : ℕ) → IsPart n old p → Flushes old dev new → IsPart n new (part_by_all n p (if dev == n then Own Emptied ∷ [] else []))
emptied n old new p dev is does =
    let mode : new.registers.switching ≡ old.registers.switching = ap (λ (r : Registers). r.switching) does.registers in
    one_if n new p (dev == n) (Own Emptied)
    (λ same.
    shown n old new p (with_view p flushed_view) flushed_view is (subst (λ (m : ℕ). view_of m new ≡ flushed_view) (eqb-true dev n same) does.own) (keeps_none (view_of n old).slots) does.commands mode refl refl refl)
    (λ differs. stands n old new p is (does.others n (λ e. eqb-false dev n differs (sym e))) does.commands mode)

-- ---- what goes out

goes_other : (n : ℕ) (old new : Port) (p : DevicePart) (dev : ℕ) (w : DeviceView) → n ≢ dev → IsPart n old p → Goes old dev w new → IsPart n new p
goes_other n old new p dev w ne is goes = stands n old new p is (goes.others n ne) goes.commands (ap (λ (r : Registers). r.switching) goes.registers)

-- what is due is data that the device asked for
feeds_data : (d dev slot offset len : ℕ) (o : Option (ℕ × ℕ × ℕ)) → match_some o Rests (feeds d) ≡ Feeds dev slot offset len → (d ≡ dev) × (is_some o ≡ true)
feeds_data d dev slot offset len None h = cc
feeds_data d dev slot offset len (Some next) h = (cc, refl)

orders_feed : (k dev slot offset len : ℕ) (o : Option Issue) (q : Option Command) → match_some o Rests (λ issue. match_some q Rests (Orders issue.dev k)) ≡ Feeds dev slot offset len → ⊥
orders_feed k dev slot offset len None q h = cc
orders_feed k dev slot offset len (Some i) None h = cc
orders_feed k dev slot offset len (Some i) (Some c) h = cc

pub feeds_by : (old : Port) (b : Bool) (r s : Option ℕ) (dev slot offset len : ℕ)
    → (if b then Rests else match_some r (match_some s Rests (orders old)) (λ d. match_some (payload (context_of old.slots d)) Rests (feeds d))) ≡ Feeds dev slot offset len
    → is_some (payload (context_of old.slots dev)) ≡ true
feeds_by old true r s dev slot offset len h = cc
feeds_by old false None None dev slot offset len h = cc
feeds_by old false None (Some k) dev slot offset len h = absurd (orders_feed k dev slot offset len (issue_at old.slots k) (last_command old.commands k) h)
feeds_by old false (Some d) s dev slot offset len h =
    let both = feeds_data d dev slot offset len (payload (context_of old.slots d)) h in
    subst (λ (m : ℕ). is_some (payload (context_of old.slots m)) ≡ true) both.0 both.1

record IsDue (k dev slot : ℕ) (o : Option Issue) (q : Option Command) (command : Command) : Type 0 where
  is_slot : k ≡ slot
  owns : Owns dev o
  stands : q ≡ Some command

due_order : (k dev slot : ℕ) (o : Option Issue) (q : Option Command) (command : Command) → match_some o Rests (λ issue. match_some q Rests (Orders issue.dev k)) ≡ Orders dev slot command → IsDue k dev slot o q command
due_order k dev slot None q command h = cc
due_order k dev slot (Some issue) None command h = cc
due_order k dev slot (Some issue) (Some c) command h = record { is_slot = cc; owns = cc; stands = cc }

feeds_order : (d dev slot : ℕ) (o : Option (ℕ × ℕ × ℕ)) (command : Command) → match_some o Rests (feeds d) ≡ Orders dev slot command → ⊥
feeds_order d dev slot None command h = cc
feeds_order d dev slot (Some next) command h = cc

pub order_by : (old : Port) (b : Bool) (r s : Option ℕ) (dev slot : ℕ) (command : Command)
    → (if b then Rests else match_some r (match_some s Rests (orders old)) (λ d. match_some (payload (context_of old.slots d)) Rests (feeds d))) ≡ Orders dev slot command
    → IsOrder old dev slot command r s
order_by old true r s dev slot command h = cc
order_by old false None None dev slot command h = cc
order_by old false None (Some k) dev slot command h =
    let due = due_order k dev slot (issue_at old.slots k) (last_command old.commands k) command h in
    record {
      no_data = refl;
      next = ap (λ (j : ℕ). Some j) due.is_slot;
      owns = subst (λ (j : ℕ). Owns dev (issue_at old.slots j)) due.is_slot due.owns;
      stands = subst (λ (j : ℕ). last_command old.commands j ≡ Some command) due.is_slot due.stands;
    }
order_by old false (Some d) s dev slot command h = absurd (feeds_order d dev slot (payload (context_of old.slots d)) command h)

-- data goes to the device
fed_own : (n : ℕ) (old new : Port) (p : DevicePart) → is_some (payload (context_of old.slots n)) ≡ true → IsPart n old p → Goes old n (view_fed (view_of n old)) new → IsPart n new (after_going p)
fed_own n old new p has is goes =
    let v : DeviceView = view_of n old in
    let asked : is_some (payload p.view.slots.context) ≡ true = ap (λ (x : DeviceView). is_some (payload x.slots.context)) is.view ∙ has in
    let fed : DevicePart = with_view p (view_fed p.view) in
    subst (IsPart n new) (sym (cond-true (is_some (payload p.view.slots.context)) fed (match_some (next_own p.view) p (after_order p)) asked))
    (shown n old new p fed (view_fed v) is goes.own (keeps_fed v.slots) goes.commands (ap (λ (r : Registers). r.switching) goes.registers) (ap view_fed is.view)
    (ap (λ (x : DeviceView). commands_of (view_fed x).slots p.commands) is.view) refl)

match_is : {A : Type 0} (o : Option A) (a : A) (b : DevicePart) (f : A → DevicePart) → o ≡ Some a → match_some o b f ≡ f a
match_is {A} o a b f is = ap (λ (x : Option A). match_some x b f) is

-- a command goes to it
order_own : (n : ℕ) (old new : Port) (p : DevicePart) (slot : ℕ) (command : Command) → n < 16 → IsCore old → IsOrder old n slot command (next_receiver old) (next_to_send old) → IsPart n old p
    → Goes old n (view_sent (view_of n old) slot command) new → IsPart n new (after_going p)
order_own n old new p slot command lt before order is goes =
    let v : DeviceView = view_of n old in
    let none : is_some (payload p.view.slots.context) ≡ false =
    ap (λ (x : DeviceView). is_some (payload x.slots.context)) is.view ∙ order_no_payload old n slot lt before.slots.slots order.owns order.next order.no_data in
    let next : next_own p.view ≡ Some slot = ap next_own is.view ∙ order_is_own old n slot lt before.slots.slots order.owns order.next in
    let filled : is_some (own_issue v.slots slot) ≡ true = order_filled old n slot before.slots.slots order.owns order.next in
    let there : p.commands slot ≡ Some command =
    ap (λ (f : ℕ → Option Command). f slot) is.commands ∙ cond-true (is_some (own_issue v.slots slot)) (last_command old.commands slot) None filled ∙ order.stands in
    let sent : DevicePart = with_view p (view_sent p.view slot command) in
    let going : after_going p ≡ sent =
    cond-false (is_some (payload p.view.slots.context)) (with_view p (view_fed p.view)) (match_some (next_own p.view) p (after_order p)) none
    ∙ match_is (next_own p.view) slot p (after_order p) next ∙ match_is (p.commands slot) command p (λ c. with_view p (view_sent p.view slot c)) there in
    subst (IsPart n new) (sym going)
    (shown n old new p sent (view_sent v slot command) is goes.own (keeps_sent v.slots slot) goes.commands (ap (λ (r : Registers). r.switching) goes.registers)
    (ap (λ (x : DeviceView). view_sent x slot command) is.view) (ap (λ (x : DeviceView). commands_of (view_sent x slot command).slots p.commands) is.view) refl)

gave : (n : ℕ) (old new : Port) (p : DevicePart) (t : Turn) → n < 16 → IsCore old → turn_of old ≡ t → Turns t old new → IsPart n old p → IsPart n new (part_by_all n p (turned_to n t))
gave n old new p Rests lt before next turns is = same_port n old new p is turns
gave n old new p (Feeds dev slot offset len) lt before next turns is =
    let has : is_some (payload (context_of old.slots dev)) ≡ true = feeds_by old (not (is_running old)) (next_receiver old) (next_to_send old) dev slot offset len next in
    one_if n new p (dev == n) (Own Went)
    (λ same.
    let at : dev ≡ n = eqb-true dev n same in
    fed_own n old new p (subst (λ (m : ℕ). is_some (payload (context_of old.slots m)) ≡ true) at has) is (subst (λ (m : ℕ). Goes old m (view_fed (view_of m old)) new) at turns))
    (λ differs. goes_other n old new p dev (view_fed (view_of dev old)) (λ e. eqb-false dev n differs (sym e)) is turns)
gave n old new p (Orders dev slot command) lt before next turns is =
    let order : IsOrder old dev slot command (next_receiver old) (next_to_send old) = order_by old (not (is_running old)) (next_receiver old) (next_to_send old) dev slot command next in
    one_if n new p (dev == n) (Own Went)
    (λ same.
    let at : dev ≡ n = eqb-true dev n same in
    order_own n old new p slot command lt before (subst (λ (m : ℕ). IsOrder old m slot command (next_receiver old) (next_to_send old)) at order) is
    (subst (λ (m : ℕ). Goes old m (view_sent (view_of m old) slot command) new) at turns))
    (λ differs. goes_other n old new p dev (view_sent (view_of dev old) slot command) (λ e. eqb-false dev n differs (sym e)) is turns)

-- ---- commands are issued by the caller

placed_own : (n : ℕ) (old new : Port) (p : DevicePart) (value : ℕ) (offer : Offer) → IsCore new → IsPart n old p → Places old offer n value new → IsPart n new (part_after n p (Issued (asked_by offer value)))
placed_own n old new p value offer next is does =
    let a : ℕ → Option Command = asked_by offer value in
    let v : DeviceView = view_of n old in
    record {
      view = ap (λ (x : DeviceView). view_with n a x) is.view ∙ sym does.own;
      commands = ap (λ (x : DeviceView). commands_of (issued_slots n a x.slots) (λ slot. option_or (a slot) (p.commands slot))) is.view
          ∙ ap (λ (f : ℕ → Option Command). commands_of (issued_slots n a v.slots) (λ slot. option_or (a slot) (f slot))) is.commands
          ∙ sym (commands_chosen n a v.slots new.slots old.commands new.commands next.port.commands (ap (λ (x : DeviceView). x.slots) does.own) does.commands);
      row = is.row ∙ sym (ap (λ (r : Registers). r.switching) does.registers);
    }

placed_other : (n : ℕ) (old new : Port) (p : DevicePart) (dev value : ℕ) (offer : Offer) → n ≢ dev → IsCore old → IsCore new → issue_error old offer value ≡ None → IsPart n old p → Places old offer dev value new → IsPart n new p
placed_other n old new p dev value offer ne before next accepted is does =
    let same : view_of n new ≡ view_of n old = does.others n ne in
    record {
      view = is.view ∙ sym same;
      commands = is.commands
          ∙ sym (commands_other_by n old.slots old.commands (asked_by offer value) new.slots new.commands (none_busy_by old.slots value offer.commands (none_busy old offer value accepted)) before.slots next.port.commands (ap (λ (x : DeviceView). x.slots) same) does.commands);
      row = is.row ∙ sym (ap (λ (r : Registers). r.switching) does.registers);
    }

placed : (n : ℕ) (old new : Port) (p : DevicePart) (dev value : ℕ) (offer : Offer) → IsCore old → IsCore new → issue_error old offer value ≡ None → IsPart n old p → Places old offer dev value new
    → IsPart n new (part_by_all n p (if dev == n then Own (Issued (asked_by offer value)) ∷ [] else []))
placed n old new p dev value offer before next accepted is does =
    one_if n new p (dev == n) (Own (Issued (asked_by offer value)))
    (λ same. placed_own n old new p value offer next is (subst (λ (m : ℕ). Places old offer m value new) (eqb-true dev n same) does))
    (λ differs. placed_other n old new p dev value offer (λ e. eqb-false dev n differs (sym e)) before next accepted is does)

-- ---- what goes as the caller chose

chosen_other : (n : ℕ) (old new : Port) (p : DevicePart) (dev active : ℕ) (w : DeviceView) → n ≢ dev → IsPart n old p → GoesTo old dev w active new → IsPart n new p
chosen_other n old new p dev active w ne is goes = stands n old new p is (goes.others n ne) goes.commands (ap (λ (r : Registers). r.switching) goes.registers)

fed_chosen : (n : ℕ) (old new : Port) (p : DevicePart) (active : ℕ) → IsPart n old p → GoesTo old n (view_fed (view_of n old)) active new → IsPart n new (with_view p (view_fed p.view))
fed_chosen n old new p active is goes =
    let v : DeviceView = view_of n old in
    shown n old new p (with_view p (view_fed p.view)) (view_fed v) is goes.own (keeps_fed v.slots) goes.commands (ap (λ (r : Registers). r.switching) goes.registers) (ap view_fed is.view)
    (ap (λ (x : DeviceView). commands_of (view_fed x).slots p.commands) is.view) refl

sent_chosen : (n : ℕ) (old new : Port) (p : DevicePart) (slot active : ℕ) (command : Command) → IsOrdered old n slot command → IsPart n old p → GoesTo old n (view_sent (view_of n old) slot command) active new
    → IsPart n new (after_order p slot)
sent_chosen n old new p slot active command ordered is goes =
    let v : DeviceView = view_of n old in
    let there : p.commands slot ≡ Some command =
    ap (λ (f : ℕ → Option Command). f slot) is.commands ∙ cond-true (is_some (own_issue v.slots slot)) (last_command old.commands slot) None (chosen_filled old n slot command ordered) ∙ ordered.is in
    let sent : DevicePart = with_view p (view_sent p.view slot command) in
    subst (IsPart n new) (sym (match_is (p.commands slot) command p (λ c. with_view p (view_sent p.view slot c)) there))
    (shown n old new p sent (view_sent v slot command) is goes.own (keeps_sent v.slots slot) goes.commands (ap (λ (r : Registers). r.switching) goes.registers)
    (ap (λ (x : DeviceView). view_sent x slot command) is.view) (ap (λ (x : DeviceView). commands_of (view_sent x slot command).slots p.commands) is.view) refl)

chose : (n : ℕ) (old new : Port) (p : DevicePart) (t : Turn) → MayChoose old t → Chooses t old new → IsPart n old p → IsPart n new (part_by_all n p (chosen_to n t))
chose n old new p Rests may does is = same_port n old new p is does
chose n old new p (Feeds dev slot offset len) may does is =
    one_if n new p (dev == n) Fed
    (λ same. fed_chosen n old new p old.active is (subst (λ (m : ℕ). GoesTo old m (view_fed (view_of m old)) old.active new) (eqb-true dev n same) does))
    (λ differs. chosen_other n old new p dev old.active (view_fed (view_of dev old)) (λ e. eqb-false dev n differs (sym e)) is does)
chose n old new p (Orders dev slot command) may does is =
    one_if n new p (dev == n) (Sent slot)
    (λ same.
    let at : dev ≡ n = eqb-true dev n same in
    sent_chosen n old new p slot dev command (subst (λ (m : ℕ). IsOrdered old m slot command) at may.1) is
    (subst (λ (m : ℕ). GoesTo old m (view_sent (view_of m old) slot command) dev new) at does))
    (λ differs. chosen_other n old new p dev dev (view_sent (view_of dev old) slot command) (λ e. eqb-false dev n differs (sym e)) is does)

-- ---- the task file of a device, and what hangs at its port

overrode : (n : ℕ) (old new : Port) (p : DevicePart) (dev : ℕ) → IsPart n old p → Overrides old dev new → IsPart n new (part_by_all n p (if dev == n then Overridden ∷ [] else []))
overrode n old new p dev is does =
    let mode : new.registers.switching ≡ old.registers.switching = ap (λ (r : Registers). r.switching) does.registers in
    let v : DeviceView = view_of n old in
    one_if n new p (dev == n) Overridden
    (λ same.
    shown n old new p (with_view p (overridden_view p.view)) (overridden_view v) is (subst (λ (m : ℕ). view_of m new ≡ overridden_view (view_of m old)) (eqb-true dev n same) does.own) (λ slot h. h) does.commands mode
    (ap overridden_view is.view) (ap (λ (x : DeviceView). commands_of x.slots p.commands) is.view) refl)
    (λ differs. stands n old new p is (does.others n (λ e. eqb-false dev n differs (sym e))) does.commands mode)

hung : (n : ℕ) (old new : Port) (p : DevicePart) (dev : ℕ) (line : Line) → IsPart n old p → Hangs old dev line new → IsPart n new (part_by_all n p (if dev == n then Gone line ∷ [] else []))
hung n old new p dev line is does =
    let mode : new.registers.switching ≡ old.registers.switching = ap (λ (r : Registers). r.switching) does.registers in
    one_if n new p (dev == n) (Gone line)
    (λ same.
    shown n old new p (with_view p (line_view line)) (line_view line) is (subst (λ (m : ℕ). view_of m new ≡ line_view line) (eqb-true dev n same) does.own) (keeps_none (view_of n old).slots) does.commands mode refl refl refl)
    (λ differs. stands n old new p is (does.others n (λ e. eqb-false dev n differs (sym e))) does.commands mode)

commanded : (n : ℕ) (old new : Port) (p : DevicePart) (value : ℕ) → n < 16 → old.registers.started ≡ true → own_refusal_by Cmd old.registers value ≡ None → SetsCmd old value new → falls old.registers value ≡ false
    → IsPart n old p → IsPart n new p
commanded n old new p value lt started accepted does none is =
    stands n old new p is (does.views n lt ∙ cond-false (falls old.registers value) (fallen_view (view_of n old)) (view_of n old) none) does.commands
    (ap (λ (r : Registers). r.switching) does.registers ∙ written_mode Cmd old.registers value started accepted)

-- ---- one event, and a list of them

pub step : (n : ℕ) (old new : Port) (event : CoreEvent) (p : DevicePart) → n < 16 → IsCore old → IsCore new → is_running old ≡ true → DoesBy old event new → stops_by old event ≡ false → IsPart n old p
    → IsPart n new (part_by_all n p (own_by n old event))
step n old new (Took frame room report) p lt before next runs does none is = took n old new p frame room report runs is does none
step n old new (Wrote register value offer tables) p lt before next runs does none is =
    wrote n old new p register value offer lt (and_parts old.registers.started (is_none old.errors.port) runs).0 before next is (accepted old new register value offer does.0 does.1) none
step n old new (Flushed dev) p lt before next runs does none is = emptied n old new p dev is does
step n old new (Gave bytes) p lt before next runs does none is = gave n old new p (turn_of old) lt before refl does.0 is
step n old new (Placed dev slots offer tables) p lt before next runs does none is = placed n old new p dev slots offer before next does.1 is does.2
step n old new (Chose turn bytes) p lt before next runs does none is = chose n old new p turn does.0 does.1 is
step n old new (Commanded value) p lt before next runs does none is =
    commanded n old new p value lt (and_parts old.registers.started (is_none old.errors.port) runs).0 does.0 does.1 none is
step n old new (Overrode dev) p lt before next runs does none is = overrode n old new p dev is does
step n old new (Hung dev line) p lt before next runs does none is = hung n old new p dev line is does
step n old new other p lt before next runs does none is = absurd (true≢false none)

by_append : (n : ℕ) (p : DevicePart) (xs ys : List CoreOwn) → part_by_all n p (xs ++ ys) ≡ part_by_all n (part_by_all n p xs) ys
by_append n p [] ys = refl
by_append n p (x ∷ xs) ys = by_append n (part_by n p x) xs ys

pub first_core : (old new : Port) (events : List CoreEvent) (run : RunsBy old events new) → AreCores old new events run → IsCore old
first_core old new [] run cores = cores
first_core old new (event ∷ events) run cores = cores.0

fold_through : (n : ℕ) → n < 16 → (old new : Port) (events : List CoreEvent) (run : RunsBy old events new) → AreCores old new events run → AreOfOnes old new events run → (p : DevicePart) → IsPart n old p
    → IsPart n new (part_by_all n p (own_through n old new events run))
fold_through n lt old new [] run cores ones p is = same_port n old new p is run
fold_through n lt old new (event ∷ events) run cores ones p is =
    let own : List CoreOwn = own_by n old event in
    let parts = or_parts (not (is_running old)) (stops_by old event) ones.0 in
    let next : IsCore run.0 = first_core run.0 new events run.2 cores.1 in
    let now : IsPart n run.0 (part_by_all n p own) = step n old run.0 event p lt cores.0 next (not-false (is_running old) parts.0) run.1 parts.1 is in
    subst (IsPart n new) (sym (by_append n p own (own_through n run.0 new events run.2))) (fold_through n lt run.0 new events run.2 cores.1 ones.1 (part_by_all n p own) now)

pub fold_by_own : IsFoldByOwn
fold_by_own n lt old new events run part is = fold_through n lt old new events run.run run.cores run.ones part is
