-- For the field `nothing_lost` of `laws`. What a step does to the frames on their way up, whatever else it does.
use Rattle.std.proofs.Common.{◌≡◌, ◌≢◌, ℕ, ◌<◌, Bool, true, false, cond, eqb, not, List, [], ◌∷◌, ◌++◌, Option, Some, None, refl, sym, ap, subst, ◌∙◌}
use Rattle.std.proofs.{Common.{append_assoc, inl, inr, map, length, arith}, lemmas.{Bool.{cases_eq, eqb-true, ne_eqb}, Option.same_Some}}
use Rattle.std.proofs.lemmas.Option.{slice_get_within}
use Rattle.std.specs.Prelude.{slice_get, option_to_list, is_none, ◌⊎◌, ◌&&◌, ◌==◌, if◌then◌else◌, Ok, MatchOption, MatchBool, filter}
use Rattle.fis_view.specs.{Frames.Stamped, declared.frame.Stamp.Stamp}
use Rattle.pm_registers.specs.RegisterMap.{forwards}
use Rattle.pm_ports.specs.Port.{PortState, came_refusal as port_came_refusal, is_gone, is_of_present, is_up_to, left_in, only_if, rises, with_removal}
use Rattle.pm_ports.specs.{Port.{with_up, gone_refusal as port_gone_refusal}, declared.port.Offered.TheVariants.Held}
use Rattle.multiplier.specs.{Arbiter.control_port, Rules.{ControlGives, FromDeviceRule, FromHostRule, PortGives, ToControl, ToDevice, ToNobody}}
use Rattle.multiplier.specs.{Rules.{held_source, may_go_back, with_device as connected, without_device}, State.{PmState, held as goes_next}}
use Rattle.multiplier.specs.{State.{next_place, passes_to, pm_port, port_at, rising, stamped, with_port}, declared.multiplier.Passed.Passed}
use Rattle.multiplier.specs.Between.{at as state_at}
use Rattle.multiplier.specs.declared.multiplier.Passed.TheVariants as passed
use Rattle.multiplier.proofs.Door as ports
use Rattle.multiplier.proofs.Door.{apart, not_up_to}
use Rattle.hba_driver.specs.{HostTurns.Host, declared.request.Request.Request}
use Rattle.pm_world.specs.Places.{KnowsItsConnections, Places, Place, Queue, IsOrderly, IsTold, frame_of, pushed, with_device, with_multiplier}
use Rattle.pm_world.specs.{Places.{with_upward, with_downward, with_host}, Rules.{Outcome, CameActs, GoneActs, GoneRule, DiskSendActs, InjectActs}}
use Rattle.pm_world.specs.Rules.{CameRule, DiskSendRule, InjectRule, DiskTakeRule, PmPresenceRule, PmFromDeviceRule, PmDownRule, PmFromHostRule}
use Rattle.pm_world.specs.Rules.{PmUpRule, HostTakeRule, HostPushRule, TickRule, SubmitRule, PollRule, PutRule, recorded, OnDevice, OnHost, Rule}
use Rattle.pm_world.specs.{Traffic.{held, is_removed, of_conn, on_link, waiting}, declared.{link.Change.Change, step.{Step.Step, Answer.Answer}}}
use Rattle.pm_world.specs.declared.link.Change.TheVariants as change
use Rattle.pm_world.specs.declared.step.Step.TheVariants as step
use Rattle.pm_world.specs.declared.step.Answer.TheVariants as answer
use Rattle.pm_world.proofs.steps.{Lists.{of_conn-append, slice_get-set_same, slice_get-set_other}, Steps.{at_device, at_both}}

-- ---- what may move

-- No frame moves except within its port. There it may get the port in its stamp, or is dropped
-- because the removal of its connection is recorded. What waits there of each other connection is the
-- same.
pub record Stays (old new : Places) : Type 0 where
  pub upward : new.upward.frames ≡ old.upward.frames
  pub waits : (m c : ℕ) → is_removed m c new ≡ false → of_conn c (waiting m new) ≡ of_conn c (waiting m old)

-- a frame comes to wait at a port, last
pub record Enters (port : ℕ) (frame : Stamped) (old new : Places) : Type 0 where
  pub upward : new.upward.frames ≡ old.upward.frames
  pub here : waiting port new ≡ waiting port old ++ frame ∷ []
  pub elsewhere : (m : ℕ) → m ≢ port → waiting m new ≡ waiting m old

-- the frame that waits first at a port goes on to the host's link
pub record Rises (port : ℕ) (frame : Stamped) (old new : Places) : Type 0 where
  pub upward : new.upward.frames ≡ old.upward.frames ++ rising port frame ∷ []
  pub here : waiting port old ≡ frame ∷ waiting port new
  pub elsewhere : (m : ℕ) → m ≢ port → waiting m new ≡ waiting m old
  -- its connection is not removed
  pub present : is_removed port frame.stamp.conn old ≡ false

-- a frame of the control port goes on the host's link
pub record Says (frame : Stamped) (old new : Places) : Type 0 where
  pub port_is : frame.stamp.port ≡ control_port
  pub upward : new.upward.frames ≡ old.upward.frames ++ frame ∷ []
  pub waits : (m : ℕ) → waiting m new ≡ waiting m old

-- the first frame of the host's link is taken
pub record Leaves (frame : Stamped) (old new : Places) : Type 0 where
  pub upward : old.upward.frames ≡ frame ∷ new.upward.frames
  pub waits : (m : ℕ) → waiting m new ≡ waiting m old

-- what enters the host's link: the first frame of this port, or what the control port says
abbrev pub GoesUp : ℕ → Places → Places → Type 0
GoesUp port old new = ((frame : Stamped) × Rises port frame old new) ⊎ ((port ≡ control_port) × ((frame : Stamped) × Says frame old new))

-- the move that an answer tells
abbrev pub Moves : Places → Answer → Places → Type 0
Moves old (answer.Sent port conn number bytes) new = (frame : Stamped) × IsTold frame port conn number bytes × Enters port frame old new
Moves old (answer.Up port) new = GoesUp port old new
Moves old (answer.Took port conn number bytes report) new = (frame : Stamped) × IsTold frame port conn number bytes × Leaves frame old new
Moves old _ new = Stays old new

-- an answer that tells of no device that comes, and of no frame that comes, rises or leaves
abbrev pub IsQuiet : Answer → Type 0
IsQuiet (answer.Came port conn) = ⊥
IsQuiet (answer.Sent port conn number bytes) = ⊥
IsQuiet (answer.Up port) = ⊥
IsQuiet (answer.Took port conn number bytes report) = ⊥
IsQuiet _ = Prim.Unit {0}

quiet_moves : (old : Places) (a : Answer) (new : Places) → IsQuiet a → Stays old new → Moves old a new
quiet_moves old (answer.Came port conn) new quiet stays = absurd quiet
quiet_moves old (answer.Sent port conn number bytes) new quiet stays = absurd quiet
quiet_moves old (answer.Up port) new quiet stays = absurd quiet
quiet_moves old (answer.Took port conn number bytes report) new quiet stays = absurd quiet
quiet_moves old _ new quiet stays = stays

-- ---- the multiplier

-- each port holds what it held on its way up
abbrev pub KeepsUp : PmState → PmState → Type 0
KeepsUp old new = (m : ℕ) → (port_at new m).up ≡ (port_at old m).up

same_up : {old new : PmState} → new ≡ old → KeepsUp old new
same_up e m = ap (λ (pm : PmState). (port_at pm m).up) e

-- that holds if one port is written over, and holds what it held
written_up : (old : PmState) (n : ℕ) (p : PortState) (new : PmState) → p.up ≡ (port_at old n).up → new.ports ≡ (with_port old n p).ports → KeepsUp old new
written_up old n p new same e m = ap (λ (all : List PortState). (state_at all m).up) e ∙ ports.kept_part (λ q. q.up) old.ports n p same m

pub recorded_up : (pm : PmState) (n conn : ℕ) → KeepsUp pm (recorded pm n (change.Came conn))
recorded_up pm n conn = by_test (is_none (port_came_refusal (port_at pm n) conn))
  where
    by_test : (b : Bool) → KeepsUp pm (if b then connected pm n conn else pm)
    by_test true = ports.kept_part (λ q. q.up) pm.ports n _ refl
    by_test false = λ m. refl

-- what follows from each side of a test, and of an option
pub either : {P Q C : Type 0} → (b : Bool) → (P → C) → (Q → C) → MatchBool b P Q → C
either true f g h = f h
either false f g h = g h

pub whichever : {T P C : Type 0} → {Q : T → Type 0} → (o : Option T) → (P → C) → ((x : T) → o ≡ Some x → Q x → C) → MatchOption o P Q → C
whichever None f g h = f h
whichever (Some x) f g h = g x refl h

-- a frame of the host, wherever it is passed, moves none of the frames on their way up
control_up : (pm : PmState) (frame : Stamped) (p : Passed) (after : PmState) → ToControl pm frame (Ok p) after → KeepsUp pm after
control_up pm frame passed.Control after rule = same_up rule.2
control_up pm frame _ after rule = absurd rule

device_up : (pm : PmState) (n conn : ℕ) (frame : Stamped) (p : Passed) (after : PmState) → ToDevice pm n conn frame (Ok p) after → KeepsUp pm after
device_up pm n conn frame (passed.Down m) after rule = written_up pm n _ after refl (ap (λ (q : PmState). q.ports) rule.2)
device_up pm n conn frame _ after rule = absurd rule

nobody_up : (pm : PmState) (p : Passed) (after : PmState) → ToNobody pm (Ok p) after → KeepsUp pm after
nobody_up pm passed.Dropped after rule = same_up rule
nobody_up pm _ after rule = absurd rule

from_host_up : (pm : PmState) (frame : Stamped) (p : Passed) (after : PmState) → FromHostRule pm frame (Ok p) after → KeepsUp pm after
from_host_up pm frame p after rule =
    either (pm_port frame == control_port) (control_up pm frame p after)
    (λ to. whichever (passes_to pm (pm_port frame)) (nobody_up pm p after) (λ conn is. device_up pm (pm_port frame) conn frame p after) to)
    rule

-- ---- a step of a device

module _ (old : Places) (n : ℕ) (place after : Place) (is : slice_get old.devices n ≡ Some place) where
  pub device_here : on_link (slice_get (with_device old n after).devices n) ≡ after.up.frames
  device_here = ap on_link (slice_get-set_same old.devices n place after is)

  pub device_was : on_link (slice_get old.devices n) ≡ place.up.frames
  device_was = ap on_link is

  pub link_elsewhere : (m : ℕ) → m ≢ n → on_link (slice_get (with_device old n after).devices m) ≡ on_link (slice_get old.devices m)
  link_elsewhere m other = ap on_link (slice_get-set_other old.devices n m after other)

  pub device_elsewhere : (m : ℕ) → m ≢ n → waiting m (with_device old n after) ≡ waiting m old
  device_elsewhere m other = ap (λ xs. held m old.multiplier ++ xs) (link_elsewhere m other)

  link_stays : after.up.frames ≡ place.up.frames → (m : ℕ) → on_link (slice_get (with_device old n after).devices m) ≡ on_link (slice_get old.devices m)
  link_stays same m =
      elim (cases_eq m n) [
        | inl e ↦ rw e (device_here ∙ same ∙ sym device_was)
        | inr other ↦ link_elsewhere m other
      ]

  -- nothing moves if the device's link and what the ports hold stay
  pub both_stay : (left : PmState) → after.up.frames ≡ place.up.frames → KeepsUp old.multiplier left → Stays old (with_multiplier (with_device old n after) left)
  both_stay left same keeps = record {
    upward = refl;
    waits = λ m c _. ap (of_conn c) (
        ap (λ xs. held m left ++ xs) (link_stays same m) ∙ ap (λ o. option_to_list o ++ on_link (slice_get old.devices m)) (keeps m));
  }

  pub device_stays : after.up.frames ≡ place.up.frames → Stays old (with_device old n after)
  device_stays same = both_stay old.multiplier same (λ m. refl)

  pub device_enters : (frame : Stamped) → after.up.frames ≡ place.up.frames ++ frame ∷ [] → Enters n frame old (with_device old n after)
  device_enters frame more = record {
    upward = refl;
    here =
        let here : on_link (slice_get (with_device old n after).devices n) ≡ on_link (slice_get old.devices n) ++ frame ∷ [] =
        device_here ∙ more ∙ ap (λ xs. xs ++ frame ∷ []) (sym device_was) in
        ap (λ xs. held n old.multiplier ++ xs) here ∙ sym (append_assoc (held n old.multiplier) (on_link (slice_get old.devices n)) (frame ∷ []));
    elsewhere = device_elsewhere;
  }

-- what a step of a device alone does to its link, by the answer
abbrev pub PlaceMoves : ℕ → Place → Answer → Place → Type 0
PlaceMoves n old (answer.Sent port conn number bytes) new = (port ≡ n) × ((frame : Stamped) × IsTold frame n conn number bytes × (new.up.frames ≡ old.up.frames ++ frame ∷ []))
PlaceMoves n old (answer.Up port) new = ⊥
PlaceMoves n old (answer.Took port conn number bytes report) new = ⊥
PlaceMoves n old _ new = new.up.frames ≡ old.up.frames

same_link : {old new : Place} → new ≡ old → new.up.frames ≡ old.up.frames
same_link e = ap (λ (p : Place). p.up.frames) e

came_moves : (n : ℕ) (old : Place) (a : Answer) (new : Place) → CameActs n old a new → PlaceMoves n old a new
came_moves n old answer.Blocked new acts = same_link acts.1
came_moves n old (answer.Came port conn) new acts = ap (λ (p : Place). p.up.frames) acts.3
came_moves n old _ new acts = absurd acts

gone_moves : (n : ℕ) (old : Place) (a : Answer) (new : Place) → GoneActs n old a new → PlaceMoves n old a new
gone_moves n old answer.Blocked new acts = same_link acts.1
gone_moves n old (answer.Gone port conn) new acts = ap (λ (p : Place). p.up.frames) acts.2
gone_moves n old _ new acts = absurd acts

sends_moves : (n : ℕ) (old : Place) (a : Answer) (new : Place) → DiskSendActs n old a new → PlaceMoves n old a new
sends_moves n old answer.Idle new acts = same_link acts.1
sends_moves n old answer.Blocked new acts = same_link acts.2
sends_moves n old (answer.Sent port conn number bytes) new acts =
    (acts.1, (frame_of n old bytes, told, ap (λ (p : Place). p.up.frames) acts.5))
  where
    told : IsTold (frame_of n old bytes) n conn number bytes
    told = record { port_is = refl; conn_is = sym acts.2; number_is = sym acts.3; bytes_are = refl }
sends_moves n old _ new acts = absurd acts

inject_moves : (n : ℕ) (given : List ℕ) (old : Place) (a : Answer) (new : Place) → InjectActs n given old a new → PlaceMoves n old a new
inject_moves n given old answer.Blocked new acts = same_link acts.1
inject_moves n given old (answer.Sent port conn number bytes) new acts =
    (acts.1, (frame_of n old given, told, ap (λ (p : Place). p.up.frames) acts.5))
  where
    told : IsTold (frame_of n old given) n conn number bytes
    told = record { port_is = refl; conn_is = sym acts.2; number_is = sym acts.3; bytes_are = sym acts.4 }
inject_moves n given old _ new acts = absurd acts

take_off_moves : (n : ℕ) (old : Place) (a : Answer) (new : Place) → DiskTakeRule n old (Ok a) new → PlaceMoves n old a new
take_off_moves n old answer.Idle new acts = same_link acts.1
take_off_moves n old (answer.DiskTook p dropped) new acts = ap (λ (q : Place). q.up.frames) acts.2
take_off_moves n old _ new acts = absurd acts

-- a step of device n alone moves what its place tells
device_moves : (old : Places) (n : ℕ) (place : Place) (a : Answer) (after : Place) → slice_get old.devices n ≡ Some place → PlaceMoves n place a after → Moves old a (with_device old n after)
device_moves old n place (answer.Sent port conn number bytes) after is moves = rw moves.0 (moves.1.0, moves.1.1, device_enters old n place after is moves.1.0 moves.1.2)
device_moves old n place (answer.Up port) after is moves = absurd moves
device_moves old n place (answer.Took port conn number bytes report) after is moves = absurd moves
device_moves old n place _ after is moves = device_stays old n place after is moves

on_device : (old : Places) (n : ℕ) (a : Answer) (new : Places) (R : Place → Outcome → Place → Type 0) → ((place after : Place) → R place (Ok a) after → PlaceMoves n place a after) → OnDevice old n (Ok a) new R → Moves old a new
on_device old n a new R moves h =
    let p = at_device old n a new R h in
    rw p.new_is (device_moves old n p.place a p.after p.is (moves p.place p.after p.rule))

-- ---- a step of a device and the multiplier

-- what a place keeps after a removal is, of a connection that is not removed, what it held
left_waits : (highest c : ℕ) (up : Option Stamped) (rest : List Stamped) → is_up_to highest c ≡ false → of_conn c (option_to_list (left_in highest up) ++ rest) ≡ of_conn c (option_to_list up ++ rest)
left_waits highest c None rest there = refl
left_waits highest c (Some f) rest there = by_test (is_up_to highest f.stamp.conn) refl
  where
    by_test : (b : Bool) → is_up_to highest f.stamp.conn ≡ b → of_conn c (option_to_list (only_if (not b) f) ++ rest) ≡ of_conn c (f ∷ rest)
    by_test false so = refl
    by_test true so =
        let other : eqb f.stamp.conn c ≡ false = ne_eqb f.stamp.conn c (λ e. apart highest c f.stamp.conn there so (sym e)) in
        rw other refl

module _ (old : Places) (n : ℕ) (place after : Place) (left : PmState) (is : slice_get old.devices n ≡ Some place) where
  abbrev Both : Places
  Both = with_multiplier (with_device old n after) left

  -- a connection that is recorded moves no frame; a removal drops only frames of connections that are
  -- gone by then
  removal_stays : n < length old.multiplier.ports → (conn : ℕ) → after.up.frames ≡ place.up.frames → left ≡ without_device old.multiplier n conn → Stays old Both
  removal_stays lt conn same now = record { upward = refl; waits = λ m c there. elim (cases_eq m n) [ inl e ↦ rw e (here c (subst (λ k. is_removed k c Both ≡ false) e there)) | inr other ↦ elsewhere m other c ] }
    where
      is_now : port_at left n ≡ with_removal (port_at old.multiplier n) conn
      is_now = ap (λ (q : PmState). port_at q n) now ∙ ports.this_port old.multiplier.ports n (with_removal (port_at old.multiplier n) conn) lt

      here : (c : ℕ) → is_removed n c Both ≡ false → of_conn c (waiting n Both) ≡ of_conn c (waiting n old)
      here c there =
          ap (λ (q : PortState). of_conn c (option_to_list q.up ++ on_link (slice_get (with_device old n after).devices n))) is_now
          ∙ ap (λ xs. of_conn c (option_to_list (left_in conn (port_at old.multiplier n).up) ++ xs)) (device_here old n place after is ∙ same ∙ sym (device_was old n place after is))
          ∙ left_waits conn c (port_at old.multiplier n).up (on_link (slice_get old.devices n)) (ap (λ (q : PortState). is_up_to q.gone c) (sym is_now) ∙ there)

      elsewhere : (m : ℕ) → m ≢ n → (c : ℕ) → of_conn c (waiting m Both) ≡ of_conn c (waiting m old)
      elsewhere m other c =
          ap (of_conn c) (ap (λ xs. held m left ++ xs) (link_elsewhere old n place after is m other)
          ∙ ap (λ o. option_to_list o ++ on_link (slice_get old.devices m)) (ap (λ (q : PmState). (port_at q m).up) now ∙ ap (λ (q : PortState). q.up) (ports.other_port old.multiplier.ports n m _ other)))

  removal_moves : n < length old.multiplier.ports → (conn : ℕ) → after.up.frames ≡ place.up.frames → left ≡ recorded old.multiplier n (change.Gone conn) → Stays old Both
  removal_moves lt conn same = by_test (is_none (port_gone_refusal (port_at old.multiplier n) conn))
    where
      by_test : (b : Bool) → left ≡ (if b then without_device old.multiplier n conn else old.multiplier) → Stays old Both
      by_test true now = removal_stays lt conn same now
      by_test false now = both_stay old n place after is left same (same_up now)

  change_moves : n < length old.multiplier.ports → (c : Change) → after.up.frames ≡ place.up.frames → left ≡ recorded old.multiplier n c → Stays old Both
  change_moves lt (change.Came conn) same now = both_stay old n place after is left same (λ m. same_up now m ∙ recorded_up old.multiplier n conn m)
  change_moves lt (change.Gone conn) same now = removal_moves lt conn same now

  presence_moves : n < length old.multiplier.ports → (a : Answer) → PmPresenceRule n place old.multiplier (Ok a) after left → Moves old a Both
  presence_moves lt answer.Idle acts = both_stay old n place after is left (same_link acts.1) (same_up acts.2)
  presence_moves lt (answer.Presence p) acts = change_moves lt acts.2.0 (ap (λ (q : Place). q.up.frames) acts.1) acts.2.2
  presence_moves lt _ acts = absurd acts

  -- nor does one that goes down to the device
  down_moves : (a : Answer) → PmDownRule n place old.multiplier (Ok a) after left → Moves old a Both
  down_moves answer.Idle acts = both_stay old n place after is left (same_link acts.2) (same_up acts.3)
  down_moves answer.Blocked acts = both_stay old n place after is left (same_link acts.1) (same_up acts.2)
  down_moves (answer.Down p) acts =
      let up : KeepsUp old.multiplier left = written_up old.multiplier n _ left refl (ap (λ (q : PmState). q.ports) acts.2.1.1) in
      both_stay old n place after is left (ap (λ (q : Place). q.up.frames) acts.2.2) up
  down_moves _ acts = absurd acts

  -- A frame that goes from the link into the port still waits there, as the first. No removal is
  -- recorded, so none is dropped.
  enters_hold : n < length old.multiplier.ports → (frame : Stamped) → place.up.frames ≡ frame ∷ after.up.frames → FromDeviceRule old.multiplier n frame (Ok Held) left → Stays old Both
  enters_hold lt frame first rule = record { upward = refl; waits = λ m c _. elim (cases_eq m n) [ inl e ↦ rw e (here c) | inr other ↦ elsewhere m other c ] }
    where
      is_now : port_at left n ≡ with_up (port_at old.multiplier n) (Some (stamped n frame))
      is_now = ap (λ (q : PmState). port_at q n) rule.2 ∙ ports.this_port old.multiplier.ports n (with_up (port_at old.multiplier n) (Some (stamped n frame))) lt

      holds : held n left ≡ stamped n frame ∷ []
      holds = ap (λ (q : PortState). option_to_list q.up) is_now

      held_none : held n old.multiplier ≡ []
      held_none = ap option_to_list rule.1

      waits_now : waiting n Both ≡ stamped n frame ∷ after.up.frames
      waits_now = ap (λ xs. xs ++ on_link (slice_get (with_device old n after).devices n)) holds ∙ ap (λ (xs : List Stamped). stamped n frame ∷ xs) (device_here old n place after is)

      waited : waiting n old ≡ frame ∷ after.up.frames
      waited = ap (λ xs. xs ++ on_link (slice_get old.devices n)) held_none ∙ device_was old n place after is ∙ first

      here : (c : ℕ) → of_conn c (waiting n Both) ≡ of_conn c (waiting n old)
      here c = ap (of_conn c) waits_now ∙ stamp_apart c ∙ sym (ap (of_conn c) waited)
        where
          stamp_apart : (c : ℕ) → of_conn c (stamped n frame ∷ after.up.frames) ≡ of_conn c (frame ∷ after.up.frames)
          stamp_apart c = by_test (frame.stamp.conn == c)
            where
              by_test : (b : Bool) → map (λ (f : Stamped). f.bytes) (cond b (stamped n frame ∷ filter (λ f. f.stamp.conn == c) after.up.frames) (filter (λ f. f.stamp.conn == c) after.up.frames)) ≡ map (λ (f : Stamped). f.bytes) (cond b (frame ∷ filter (λ f. f.stamp.conn == c) after.up.frames) (filter (λ f. f.stamp.conn == c) after.up.frames))
              by_test true = refl
              by_test false = refl

      other_up : (m : ℕ) → m ≢ n → (port_at left m).up ≡ (port_at old.multiplier m).up
      other_up m other = ap (λ (q : PmState). (port_at q m).up) rule.2 ∙ ap (λ (q : PortState). q.up) (ports.other_port old.multiplier.ports n m _ other)

      elsewhere : (m : ℕ) → m ≢ n → (c : ℕ) → of_conn c (waiting m Both) ≡ of_conn c (waiting m old)
      elsewhere m other c =
          ap (of_conn c) (ap (λ xs. held m left ++ xs) (link_elsewhere old n place after is m other)
          ∙ ap (λ o. option_to_list o ++ on_link (slice_get old.devices m)) (other_up m other))

  -- A frame that is dropped when it is offered is of a connection that is gone. What waits of any
  -- other connection is the same.
  drops_offered : (frame : Stamped) → place.up.frames ≡ frame ∷ after.up.frames → is_gone (port_at old.multiplier n) frame.stamp.conn ≡ true → left ≡ old.multiplier → Stays old Both
  drops_offered frame first gone now = record { upward = refl; waits = λ m c there. elim (cases_eq m n) [ inl e ↦ rw e (here c (subst (λ k. is_removed k c Both ≡ false) e there)) | inr other ↦ elsewhere m other c ] }
    where
      here : (c : ℕ) → is_removed n c Both ≡ false → of_conn c (waiting n Both) ≡ of_conn c (waiting n old)
      here c there =
          let never : is_gone (port_at old.multiplier n) c ≡ false = ap (λ (q : PmState). is_gone (port_at q n) c) (sym now) ∙ there in
          let other : eqb frame.stamp.conn c ≡ false = ne_eqb frame.stamp.conn c (λ e. apart (port_at old.multiplier n).gone c frame.stamp.conn never gone (sym e)) in
          let less : of_conn c (frame ∷ after.up.frames) ≡ of_conn c after.up.frames = rw other refl in
          ap (λ (q : PmState). of_conn c (held n q ++ on_link (slice_get (with_device old n after).devices n))) now
          ∙ ap (λ xs. of_conn c (held n old.multiplier ++ xs)) (device_here old n place after is)
          ∙ of_conn-append c (held n old.multiplier) after.up.frames
          ∙ ap (λ xs. of_conn c (held n old.multiplier) ++ xs) (sym less)
          ∙ sym (of_conn-append c (held n old.multiplier) (frame ∷ after.up.frames))
          ∙ ap (λ xs. of_conn c (held n old.multiplier ++ xs)) (sym (device_was old n place after is ∙ first))

      elsewhere : (m : ℕ) → m ≢ n → (c : ℕ) → of_conn c (waiting m Both) ≡ of_conn c (waiting m old)
      elsewhere m other c = ap (of_conn c) (ap (λ xs. held m left ++ xs) (link_elsewhere old n place after is m other) ∙ ap (λ (q : PmState). held m q ++ on_link (slice_get old.devices m)) now)

  from_device_moves : n < length old.multiplier.ports → (a : Answer) → PmFromDeviceRule n place old.multiplier (Ok a) after left → Moves old a Both
  from_device_moves lt answer.Idle acts = both_stay old n place after is left (same_link acts.1) (same_up acts.2)
  from_device_moves lt answer.Blocked acts = both_stay old n place after is left (same_link acts.2) (same_up acts.3)
  from_device_moves lt (answer.Offered p false) acts = enters_hold lt acts.2.0 acts.2.1 acts.2.2
  from_device_moves lt (answer.Offered p true) acts = drops_offered acts.2.0 acts.2.1 acts.2.2.0 acts.2.2.1
  from_device_moves lt _ acts = absurd acts

-- ---- the link to the host

-- the frame that goes up next from a port is the one that it holds
goes_held : (pm : PmState) (n : ℕ) (frame : Stamped) → goes_next pm n ≡ Some frame → (port_at pm n).up ≡ Some frame
goes_held pm n frame e = by_place (forwards pm.registers n) (port_at pm n).present (port_at pm n).up e
  where
    by_test : (b : Bool) (f : Stamped) → only_if b f ≡ Some frame → Some f ≡ Some frame
    by_test true f e = e
    by_test false f e = absurd (cc)

    by_place : (b : Bool) (present : Option ℕ) (up : Option Stamped) → rises b present up ≡ Some frame → up ≡ Some frame
    by_place b present None e = absurd (cc)
    by_place b present (Some f) e = by_test (b && is_of_present present f) f e

-- and is of the connection that is present, which is not removed
goes_present : (pm : PmState) (n : ℕ) (frame : Stamped) → KnowsItsConnections (port_at pm n) → goes_next pm n ≡ Some frame → is_gone (port_at pm n) frame.stamp.conn ≡ false
goes_present pm n frame knows e = by_place (forwards pm.registers n) (port_at pm n).present (port_at pm n).up (λ conn. knows.present conn) e
  where
    not_gone : (conn : ℕ) → (port_at pm n).gone < conn → is_gone (port_at pm n) conn ≡ false
    not_gone conn above = not_up_to (port_at pm n).gone conn (λ most. absurd (omega (arith, most, above)))

    by_test : (b : Bool) (present : Option ℕ) (f : Stamped) → ((conn : ℕ) → present ≡ Some conn → (conn ≡ (port_at pm n).last) × ((port_at pm n).gone < conn)) → only_if (b && is_of_present present f) f ≡ Some frame → is_gone (port_at pm n) frame.stamp.conn ≡ false
    by_test false present f is e = absurd (cc)
    by_test true None f is e = absurd (cc)
    by_test true (Some conn) f is e = by_conn (f.stamp.conn == conn) refl e
      where
        by_conn : (b : Bool) → (f.stamp.conn == conn) ≡ b → only_if b f ≡ Some frame → is_gone (port_at pm n) frame.stamp.conn ≡ false
        by_conn false so e = absurd (cc)
        by_conn true so e =
            let conn_is : f.stamp.conn ≡ conn = eqb-true f.stamp.conn conn so in
            let same : f ≡ frame = same_Some f frame e in
            subst (λ (g : Stamped). is_gone (port_at pm n) g.stamp.conn ≡ false) same (rw conn_is (not_gone conn (is conn refl).1))

    by_place : (b : Bool) (present : Option ℕ) (up : Option Stamped) → ((conn : ℕ) → present ≡ Some conn → (conn ≡ (port_at pm n).last) × ((port_at pm n).gone < conn)) → rises b present up ≡ Some frame → is_gone (port_at pm n) frame.stamp.conn ≡ false
    by_place b present None is e = absurd (cc)
    by_place b present (Some f) is e = by_test b present f is e

module _ (old : Places) (upward : Queue) (left : PmState) where
  abbrev Risen : Places
  Risen = with_upward (with_multiplier old left) upward

  -- the multiplier after this frame of a port rose
  abbrev given_up : ℕ → Stamped → Stamped → PmState
  given_up place frame was = record (with_port old.multiplier place (with_up (port_at old.multiplier place) None)) { served = place; given = may_go_back old.multiplier (held_source was) frame }

  -- from a port
  port_rises : (n place : ℕ) (frame : Stamped) → frame.stamp.port ≡ n → IsOrderly old → PortGives old.multiplier place frame left → upward ≡ pushed old.upward frame → GoesUp n old Risen
  port_rises n place frame port_is orderly gives more =
      whichever (goes_next old.multiplier place) (λ h. absurd h) (λ was next h. inl (was, rises_from was next h)) gives
    where
      empty_now : (was : Stamped) → (port_at old.multiplier place).up ≡ Some was → left ≡ given_up place frame was → held place left ≡ []
      empty_now was is now =
          ap (held place) now
          ∙ ap (λ (q : PortState). option_to_list q.up) (ports.this_port old.multiplier.ports place (with_up (port_at old.multiplier place) None) (ports.has_up old.multiplier.ports place was is))

      rises_here : (was : Stamped) → goes_next old.multiplier place ≡ Some was → (port_at old.multiplier place).up ≡ Some was → frame ≡ rising place was → left ≡ given_up place frame was → Rises place was old Risen
      rises_here was next is frame_is now = record {
        present = goes_present old.multiplier place was (orderly.knows place) next;
        upward = ap (λ (q : Queue). q.frames) more ∙ ap (λ f. old.upward.frames ++ f ∷ []) frame_is;
        here =
            ap (λ o. option_to_list o ++ on_link (slice_get old.devices place)) is
            ∙ ap (λ xs. was ∷ (xs ++ on_link (slice_get old.devices place))) (sym (empty_now was is now));
        elsewhere = λ m other.
            ap (λ o. option_to_list o ++ on_link (slice_get old.devices m))
            (ap (λ (q : PmState). (port_at q m).up) now ∙ ap (λ (q : PortState). q.up) (ports.other_port old.multiplier.ports place m _ other));
      }

      rises_from : (was : Stamped) → goes_next old.multiplier place ≡ Some was → (was.stamp.port ≡ place) × (frame ≡ rising place was) × (left ≡ given_up place frame was) → Rises n was old Risen
      rises_from was next h =
          let here_is : place ≡ n = ap (λ (f : Stamped). f.stamp.port) (sym h.1) ∙ port_is in
          subst (λ k. Rises k was old Risen) here_is (rises_here was next (goes_held old.multiplier place was next) h.1 h.2)

  -- from the control port: a notification or an answer
  control_says : (n : ℕ) (frame : Stamped) → frame.stamp.port ≡ n → IsOrderly old → ControlGives old.multiplier frame left → upward ≡ pushed old.upward frame → GoesUp n old Risen
  control_says n frame port_is orderly gives more =
      inr (
        sym port_is ∙ says.0,
        (
          frame,
          record {
            port_is = says.0;
            upward = ap (λ (q : Queue). q.frames) more;
            waits = λ m. ap (λ o. option_to_list o ++ on_link (slice_get old.devices m)) (says.1 m);
          },
        ),
      )
    where
      says : (frame.stamp.port ≡ control_port) × KeepsUp old.multiplier left
      says =
          either old.multiplier.registers.due
          (λ notice. (ap (λ (s : Stamp). s.port) notice.0.1, same_up notice.1))
          (λ told. (orderly.answer frame told.0, same_up told.1))
          gives

  nothing_rises : left ≡ old.multiplier → upward ≡ old.upward → Stays old Risen
  nothing_rises e f = record {
    upward = ap (λ (q : Queue). q.frames) f;
    waits = λ m c _. ap (λ (pm : PmState). of_conn c (held m pm ++ on_link (slice_get old.devices m))) e;
  }

  up_moves : (a : Answer) → IsOrderly old → PmUpRule old.multiplier old.upward (Ok a) left upward → Moves old a Risen
  up_moves answer.Idle orderly acts = nothing_rises acts.2 acts.3
  up_moves answer.Blocked orderly acts = nothing_rises acts.1 acts.2
  up_moves (answer.Up n) orderly acts =
      whichever (next_place old.multiplier) (λ h. absurd h)
      (λ place is gives. either (place == control_port)
      (λ control. control_says n acts.1.0 acts.1.1 orderly control acts.1.3)
      (λ port. port_rises n place acts.1.0 acts.1.1 orderly port acts.1.3)
      gives)
      acts.1.2
  up_moves _ orderly acts = absurd acts

-- a step that leaves the frames of the host's link upward, the devices and what the ports hold
quiet_step : (old : Places) (a : Answer) (new : Places) → IsQuiet a → new.upward.frames ≡ old.upward.frames → new.devices ≡ old.devices → KeepsUp old.multiplier new.multiplier → Moves old a new
quiet_step old a new quiet link devices keeps =
    quiet_moves old a new quiet (record {
      upward = link;
      waits = λ m c _. ap (of_conn c) (
          ap (λ (all : List Place). held m new.multiplier ++ on_link (slice_get all m)) devices
          ∙ ap (λ o. option_to_list o ++ on_link (slice_get old.devices m)) (keeps m));
    })

pub from_host_quiet : (downward : Queue) (pm : PmState) (a : Answer) (new : Queue) (after : PmState) → PmFromHostRule downward pm (Ok a) new after → IsQuiet a × KeepsUp pm after
from_host_quiet downward pm answer.Idle new after acts = (tt, same_up acts.2)
from_host_quiet downward pm answer.Blocked new after acts = (tt, same_up acts.2)
from_host_quiet downward pm (answer.Passed p) new after acts = (tt, from_host_up pm acts.0.0 p after acts.0.2)
from_host_quiet downward pm _ new after acts = absurd acts

take_moves : (old : Places) (a : Answer) (upward : Queue) (host : Host) → HostTakeRule old.upward old.host (Ok a) upward host → Moves old a (with_host (with_upward old upward) host)
take_moves old answer.Idle upward host acts = quiet_step old answer.Idle _ tt (ap (λ (q : Queue). q.frames) acts.1) refl (λ m. refl)
take_moves old (answer.Took port conn number bytes report) upward host acts = (acts.0.0, acts.0.2, record { upward = acts.0.1; waits = λ m. refl })
take_moves old _ upward host acts = absurd acts

-- ---- what the host does with its driver and on its link downward moves no frame upward

pub push_quiet : (host : Host) (downward : Queue) (a : Answer) (after : Host) (new : Queue) → HostPushRule host downward (Ok a) after new → IsQuiet a
push_quiet host downward answer.Idle after new acts = tt
push_quiet host downward answer.Blocked after new acts = tt
push_quiet host downward answer.Pushed after new acts = tt
push_quiet host downward _ after new acts = absurd acts

pub tick_quiet : (host : Host) (a : Answer) (after : Host) → TickRule host (Ok a) after → IsQuiet a
tick_quiet host answer.Idle after acts = tt
tick_quiet host answer.Ticked after acts = tt
tick_quiet host _ after acts = absurd acts

pub submit_quiet : (dev : ℕ) (request : Request) (host : Host) (a : Answer) (after : Host) → SubmitRule dev request host (Ok a) after → IsQuiet a
submit_quiet dev request host (answer.Submitted ticket) after acts = tt
submit_quiet dev request host (answer.Refused e) after acts = tt
submit_quiet dev request host _ after acts = absurd acts

pub poll_quiet : (host : Host) (a : Answer) (after : Host) → PollRule host (Ok a) after → IsQuiet a
poll_quiet host answer.Idle after acts = tt
poll_quiet host (answer.Polled completion) after acts = tt
poll_quiet host _ after acts = absurd acts

pub put_quiet : (at : ℕ) (bytes : List ℕ) (host : Host) (a : Answer) (after : Host) → PutRule at bytes host (Ok a) after → IsQuiet a
put_quiet at bytes host answer.Put after acts = tt
put_quiet at bytes host _ after acts = absurd acts

on_host : (old : Places) (a : Answer) (new : Places) (R : Host → Outcome → Host → Type 0) → (R old.host (Ok a) new.host → IsQuiet a) → OnHost old (Ok a) new R → Moves old a new
on_host old a new R quiet h = rw h.1 (quiet_step old a (with_host old new.host) (quiet h.0) refl refl (λ m. refl))

-- each step moves what its answer tells
pub rule_moves : (old : Places) (s : Step) (a : Answer) (new : Places) → IsOrderly old → Rule old s (Ok a) new → Moves old a new
rule_moves old (step.Came n) a new orderly rule = on_device old n a new (CameRule n) (λ place after r. came_moves n place a after r.1) rule
rule_moves old (step.Gone n) a new orderly rule = on_device old n a new (GoneRule n) (λ place after r. gone_moves n place a after r.1) rule
rule_moves old (step.DiskSend n) a new orderly rule = on_device old n a new (DiskSendRule n) (λ place after r. sends_moves n place a after r.1) rule
rule_moves old (step.Inject n bytes) a new orderly rule = on_device old n a new (InjectRule n bytes) (λ place after r. inject_moves n bytes place a after r.1) rule
rule_moves old (step.DiskTake n) a new orderly rule = on_device old n a new (DiskTakeRule n) (λ place after r. take_off_moves n place a after r) rule
rule_moves old (step.PmPresence n) a new orderly rule =
    let p = at_both old n a new (PmPresenceRule n) rule in
    let lt : n < length old.devices = slice_get_within old.devices n p.place p.is in
    let most = orderly.most in
    let room = orderly.room in
    rw p.new_is (presence_moves old n p.place p.after p.left p.is (omega arith) a p.rule)
rule_moves old (step.PmFromDevice n) a new orderly rule =
    let p = at_both old n a new (PmFromDeviceRule n) rule in
    let lt : n < length old.devices = slice_get_within old.devices n p.place p.is in
    let most = orderly.most in
    let room = orderly.room in
    rw p.new_is (from_device_moves old n p.place p.after p.left p.is (omega arith) a p.rule)
rule_moves old (step.PmDown n) a new orderly rule =
    let p = at_both old n a new (PmDownRule n) rule in
    rw p.new_is (down_moves old n p.place p.after p.left p.is a p.rule)
rule_moves old step.PmFromHost a new orderly rule =
    let quiet = from_host_quiet old.downward old.multiplier a new.downward new.multiplier rule.0 in
    rw rule.1 (quiet_step old a (with_multiplier (with_downward old new.downward) new.multiplier) quiet.0 refl refl quiet.1)
rule_moves old step.PmUp a new orderly rule = rw rule.1 (up_moves old new.upward new.multiplier a orderly rule.0)
rule_moves old step.HostTake a new orderly rule = rw rule.1 (take_moves old a new.upward new.host rule.0)
rule_moves old step.HostPush a new orderly rule = rw rule.1 (quiet_step old a (with_downward (with_host old new.host) new.downward) (push_quiet old.host old.downward a new.host new.downward rule.0) refl refl (λ m. refl))
rule_moves old step.Tick a new orderly rule = on_host old a new TickRule (tick_quiet old.host a new.host) rule
rule_moves old (step.Submit dev request) a new orderly rule = on_host old a new (SubmitRule dev request) (submit_quiet dev request old.host a new.host) rule
rule_moves old step.Poll a new orderly rule = on_host old a new PollRule (poll_quiet old.host a new.host) rule
rule_moves old (step.Put at bytes) a new orderly rule = on_host old a new (PutRule at bytes) (put_quiet at bytes old.host a new.host) rule
