-- For the field `links` of `laws`. In each step what goes down goes over links: through the places of the ports, over
-- the link to each device, and over the link from the host.
use Rattle.std.proofs.Common.{◌≡◌, ◌≢◌, ℕ, zero, suc, ◌<◌, ◌≤◌, ◌+◌, ◌==◌, List, [], ◌∷◌, ◌++◌, Option, Some, None, Bool, true, false, if◌then◌else◌, refl, sym, ap, subst, ◌∙◌, inl, inr, length, arith, length-append}
use Rattle.std.specs.Prelude.{slice_get, slice_set, filter, option_to_list, MatchBool, MatchOption, Ok}
use Rattle.std.proofs.lemmas.{Bool.{cases_eq, eq-eqb, ne_eqb}, Option.slice_get_within, List.append-nil, List.Elements.filter-append}
use Rattle.fis_view.specs.Frames.{Stamped}
use Rattle.ruled_links.specs.Links.{IsLink}
use Rattle.pm_ports.specs.Port.{PortState, with_down, with_up}
use Rattle.multiplier.specs.{Arbiter.control_port, Rules.{FromDeviceRule, FromHostRule, ToControl, ToDevice, ToNobody, ToPort}}
use Rattle.multiplier.specs.{State.{PmState, falling, passes_to, pm_port, port_at}, declared.multiplier.Passed.Passed}
use Rattle.multiplier.specs.Between.{Answer as Answers, FromPort, Gives, Notice, Ports, at}
use Rattle.multiplier.specs.declared.multiplier.Passed.TheVariants as passed
use Rattle.multiplier.proofs.Door.{gives, has_down, kept_part, other_port, this_port}
use Rattle.hba_driver.specs.{HostTurns.Host, declared.request.Request.Request}
use Rattle.pm_world.specs.Downward.{is_down_to, is_passed, is_pushed, is_taken_at, on_down_link, times}
use Rattle.pm_world.specs.Links.{HostPassesDown, PortPassesDown, held_down, is_down}
use Rattle.pm_world.specs.Places.{IsOrderly, Place, Places, Queue, pushed, with_device, with_downward, with_host, with_multiplier}
use Rattle.pm_world.specs.Rules.{CameActs, CameRule, DiskSendActs, DiskSendRule, DiskTakeActs, DiskTakeRule, GoneActs, GoneRule, HostPushRule}
use Rattle.pm_world.specs.Rules.{HostTakeRule, InjectActs, InjectRule, PmDownRule, PmFromDeviceRule, PmFromHostRule, PmPresenceRule, PmUpRule}
use Rattle.pm_world.specs.{Rules.{PollRule, PutRule, Rule, SubmitRule, TickRule, offered}, declared.{step.Step.Step, step.Answer.Answer}}
use Rattle.pm_world.specs.declared.step.Step.TheVariants as step
use Rattle.pm_world.specs.declared.step.Answer.TheVariants as answer
use Rattle.pm_world.proofs.links.LinkLemmas.{RecordedAt, StillGone, chained, goes_on-append, nothing_left, one_goes_on, option_fits, recorded_at}
use Rattle.pm_world.proofs.{links.LinkLemmas.still, steps.{Lists.{slice_get-set_same, slice_get-set_other}, Steps.{at_both, at_device}}}

-- ---- how many answers say so

pub times-append : (says : Answer → Bool) (first second : List Answer) → times says (first ++ second) ≡ times says first + times says second
times-append says first second = ap length (filter-append says first second) ∙ length-append (filter says first) (filter says second)

-- ---- the ports of a multiplier

-- a port at which a connection is present is there
pub has_present : (ports : Ports) (n conn : ℕ) → (at ports n).present ≡ Some conn → n < length ports
has_present [] n conn e = absurd cc
has_present (p ∷ ports) zero conn e = omega arith
has_present (p ∷ ports) (suc n) conn e = let k : n < length ports = has_present ports n conn e in omega arith

-- ---- a frame that the multiplier takes from the host

-- it falls into the place of a port, which was empty
pub record Falls (old : PmState) (m : ℕ) (new : PmState) : Type 0 where
  pub frame : Stamped
  pub there : m < length old.ports
  pub empty : (port_at old m).down ≡ None
  pub new_is : new.ports ≡ slice_set old.ports m (with_down (port_at old m) (Some frame))

-- where it went
abbrev pub Went : PmState → Passed → PmState → Type 0
Went old (passed.Down m) new = Falls old m new
Went old _ new = new.ports ≡ old.ports

-- the connection that a frame passes to is present
passes_present : (forwards : Bool) (present : Option ℕ) (conn : ℕ) → (if forwards then present else None) ≡ Some conn → present ≡ Some conn
passes_present true present conn e = e
passes_present false present conn e = absurd cc

module _ (old : PmState) (frame : Stamped) (new : PmState) where
  to_control : (p : Passed) → ToControl old frame (Ok p) new → Went old p new
  to_control passed.Control h = ap (λ (pm : PmState). pm.ports) h.2
  to_control _ h = absurd h

  to_nobody : (p : Passed) → ToNobody old (Ok p) new → Went old p new
  to_nobody passed.Dropped h = ap (λ (pm : PmState). pm.ports) h
  to_nobody _ h = absurd h

  to_device : (n conn : ℕ) (p : Passed) → (port_at old n).present ≡ Some conn → ToDevice old n conn frame (Ok p) new → Went old p new
  to_device n conn (passed.Down m) is h = rw h.0 (record {
    frame = falling conn frame;
    there = has_present old.ports n conn is;
    empty = h.1;
    new_is = ap (λ (pm : PmState). pm.ports) h.2;
  })
  to_device n conn _ is h = absurd h

  to_port : (p : Passed) (to : Option ℕ) → passes_to old (pm_port frame) ≡ to → MatchOption to (ToNobody old (Ok p) new) (λ conn. ToDevice old (pm_port frame) conn frame (Ok p) new) → Went old p new
  to_port p None is h = to_nobody p h
  to_port p (Some conn) is h =
      to_device (pm_port frame) conn p (passes_present _ (port_at old (pm_port frame)).present conn is) h

  by_port : (p : Passed) (b : Bool) → MatchBool b (ToControl old frame (Ok p) new) (ToPort old frame (Ok p) new) → Went old p new
  by_port p true h = to_control p h
  by_port p false h = to_port p (passes_to old (pm_port frame)) refl h

  pub went : (p : Passed) → FromHostRule old frame (Ok p) new → Went old p new
  went p h = by_port p (pm_port frame == control_port) h

-- ---- room

-- the link to a device has room for this many items, and holds no more
pub record HasRoomDown (capacity : ℕ) (place : Place) : Type 0 where
  pub down : place.down.capacity ≡ capacity
  pub down_within : length place.down.frames ≤ capacity

-- all links on the way down have, too
pub record HaveRoomDown (capacity : ℕ) (now : Places) : Type 0 where
  pub devices : (n : ℕ) → MatchOption (slice_get now.devices n) (Prim.Unit {0}) (HasRoomDown capacity)
  pub downward : now.downward.capacity ≡ capacity
  pub downward_within : length now.downward.frames ≤ capacity

pub down_fits : (capacity : ℕ) (o : Option Place) → MatchOption o (Prim.Unit {0}) (HasRoomDown capacity) → length (on_down_link o) ≤ capacity
down_fits capacity None room = omega arith
down_fits capacity (Some place) room = room.down_within

-- ---- answers that tell nothing of the way down

record IsElsewhere (n : ℕ) (a : Answer) : Type 0 where
  fell : is_down_to n a ≡ false
  left : is_down n a ≡ false
  taken : is_taken_at n a ≡ false

record IsSilent (a : Answer) : Type 0 where
  pushed : is_pushed a ≡ false
  passed : is_passed a ≡ false
  elsewhere : (n : ℕ) → IsElsewhere n a

abbrev tells_down : Answer → Bool
tells_down (answer.DiskTook port dropped) = true
tells_down (answer.Passed p) = true
tells_down (answer.Down port) = true
tells_down answer.Pushed = true
tells_down _ = false

silent : (a : Answer) → tells_down a ≡ false → IsSilent a
silent (answer.DiskTook port dropped) h = absurd cc
silent (answer.Passed p) h = absurd cc
silent (answer.Down port) h = absurd cc
silent answer.Pushed h = absurd cc
silent _ h = record { pushed = refl; passed = refl; elsewhere = λ n. record { fell = refl; left = refl; taken = refl } }

-- ---- one port and one link

-- nothing goes through the port's place and over the device's link
quiet : (capacity n : ℕ) (was now : Option Place) (held_was : List Stamped) (pm : PmState) (a : Answer) → length (on_down_link was) ≤ capacity → length held_was ≤ 1
    → on_down_link now ≡ on_down_link was → held_down n pm ≡ held_was → IsElsewhere n a → PortPassesDown capacity n was held_was (a ∷ []) now pm
quiet capacity n was now held_was pm a fits holds same same_held none = record {
  fell = [];
  left = [];
  sunk = [];
  lost = [];
  took = [];
  hold = subst (λ (held_now : List Stamped). IsLink 1 (held_was ++ []) [] held_now) (sym same_held) (still 1 held_was holds);
  goes_on = nothing_left pm n;
  link = rw same (still capacity (on_down_link was) fits);
  fell_is = rw none.fell refl;
  sunk_is = rw none.left refl;
  took_is = rw none.taken refl;
}

-- nor over the host's link
host_still : (capacity : ℕ) (was now : List Stamped) (a : Answer) → length was ≤ capacity → now ≡ was → is_pushed a ≡ false → is_passed a ≡ false → HostPassesDown capacity was (a ∷ []) now
host_still capacity was now a fits same pushed passed = record {
  pushed = [];
  passed = [];
  link = rw same (still capacity was fits);
  pushed_is = rw pushed refl;
  passed_is = rw passed refl;
}

-- ---- one step of a world

pub record GoesDown (capacity : ℕ) (old : Places) (a : Answer) (new : Places) : Type 0 where
  pub ports : (n : ℕ) → PortPassesDown capacity n
      (slice_get old.devices n) (held_down n old.multiplier) (a ∷ [])
      (slice_get new.devices n) new.multiplier
  pub host : HostPassesDown capacity old.downward.frames (a ∷ []) new.downward.frames
  pub room : HaveRoomDown capacity new

-- the link of a place, if there is one
abbrev link_down : Option Place → Option Queue
link_down None = None
link_down (Some place) = Some place.down

on_same : (was now : Option Place) → link_down now ≡ link_down was → on_down_link now ≡ on_down_link was
on_same None None e = refl
on_same (Some was) (Some now) e = cc
on_same None (Some now) e = absurd cc
on_same (Some was) None e = absurd cc

room_same : (capacity : ℕ) (was now : Option Place) → link_down now ≡ link_down was → MatchOption was (Prim.Unit {0}) (HasRoomDown capacity) → MatchOption now (Prim.Unit {0}) (HasRoomDown capacity)
room_same capacity was None e room = tt
room_same capacity (Some was) (Some now) e room =
    let same : now.down ≡ was.down = cc in
    record { down = ap (λ (q : Queue). q.capacity) same ∙ room.down; down_within = rw same room.down_within }
room_same capacity None (Some now) e room = absurd cc

-- a step that moves nothing down
module _ (capacity : ℕ) (old : Places) (a : Answer) (new : Places) (room : HaveRoomDown capacity old) (tells : tells_down a ≡ false) where
  rests : new.downward ≡ old.downward → ((n : ℕ) → link_down (slice_get new.devices n) ≡ link_down (slice_get old.devices n))
      → ((n : ℕ) → (port_at new.multiplier n).down ≡ (port_at old.multiplier n).down) → GoesDown capacity old a new
  rests downward devices ports = record {
    ports = λ n.
        quiet capacity n (slice_get old.devices n) (slice_get new.devices n) (held_down n old.multiplier) new.multiplier a
        (down_fits capacity (slice_get old.devices n) (room.devices n)) (option_fits (port_at old.multiplier n).down)
        (on_same (slice_get old.devices n) (slice_get new.devices n) (devices n)) (ap option_to_list (ports n)) ((silent a tells).elsewhere n);
    host =
        host_still capacity old.downward.frames new.downward.frames a room.downward_within (ap (λ (q : Queue). q.frames) downward) (silent a tells).pushed (silent a tells).passed;
    room = record {
      devices = λ n. room_same capacity (slice_get old.devices n) (slice_get new.devices n) (devices n) (room.devices n);
      downward = ap (λ (q : Queue). q.capacity) downward ∙ room.downward;
      downward_within = rw downward room.downward_within;
    };
  }

  -- the places of the devices stay
  rests_all : new.downward ≡ old.downward → new.devices ≡ old.devices → ((n : ℕ) → (port_at new.multiplier n).down ≡ (port_at old.multiplier n).down) → GoesDown capacity old a new
  rests_all downward devices ports = rests downward (λ n. ap (λ (l : List Place). link_down (slice_get l n)) devices) ports

-- a device's place changes, but its link does not
link_after : (devices : List Place) (n : ℕ) (place after : Place) (m : ℕ) → slice_get devices n ≡ Some place → after.down ≡ place.down → link_down (slice_get (slice_set devices n after) m) ≡ link_down (slice_get devices m)
link_after devices n place after m is same =
    elim (cases_eq m n) [
      | inl e ↦ rw (e, is, slice_get-set_same devices n place after is) (ap (λ (q : Queue). Some q) same)
      | inr other ↦ ap link_down (slice_get-set_other devices n m after other)
    ]

rests_at : (capacity : ℕ) (old : Places) (n : ℕ) (a : Answer) (place after : Place) (left : PmState) → HaveRoomDown capacity old → slice_get old.devices n ≡ Some place → tells_down a ≡ false → after.down ≡ place.down
    → ((m : ℕ) → (port_at left m).down ≡ (port_at old.multiplier m).down) → GoesDown capacity old a (with_multiplier (with_device old n after) left)
rests_at capacity old n a place after left room is tells same ports =
    rests capacity old a (with_multiplier (with_device old n after) left) room tells refl (λ m. link_after old.devices n place after m is same) ports

-- a step at device n and its port
module _ (capacity : ℕ) (old : Places) (n : ℕ) (a : Answer) (place after : Place) (left : PmState) (room : HaveRoomDown capacity old) (is : slice_get old.devices n ≡ Some place)
    (others : (m : ℕ) → m ≢ n → (port_at left m).down ≡ (port_at old.multiplier m).down) (elsewhere : (m : ℕ) → m ≢ n → IsElsewhere m a) (unpushed : is_pushed a ≡ false) (unpassed : is_passed a ≡ false)
    (here : PortPassesDown capacity n (Some place) (held_down n old.multiplier) (a ∷ []) (Some after) left) (has : HasRoomDown capacity after) where
  port_goes : (m : ℕ) → PortPassesDown capacity m (slice_get old.devices m) (held_down m old.multiplier) (a ∷ []) (slice_get (slice_set old.devices n after) m) left
  port_goes m =
      elim (cases_eq m n) [
        | inl e ↦ rw (e, is, slice_get-set_same old.devices n place after is) here
        | inr other ↦
            quiet capacity m (slice_get old.devices m) (slice_get (slice_set old.devices n after) m) (held_down m old.multiplier) left a
            (down_fits capacity (slice_get old.devices m) (room.devices m)) (option_fits (port_at old.multiplier m).down)
            (ap on_down_link (slice_get-set_other old.devices n m after other)) (ap option_to_list (others m other)) (elsewhere m other)
      ]

  room_at : (m : ℕ) → MatchOption (slice_get (slice_set old.devices n after) m) (Prim.Unit {0}) (HasRoomDown capacity)
  room_at m =
      elim (cases_eq m n) [
        | inl e ↦ rw (e, slice_get-set_same old.devices n place after is) has
        | inr other ↦ rw (slice_get-set_other old.devices n m after other) (room.devices m)
      ]

  goes_at : GoesDown capacity old a (with_multiplier (with_device old n after) left)
  goes_at = record {
    ports = port_goes;
    host = host_still capacity old.downward.frames old.downward.frames a room.downward_within refl unpushed unpassed;
    room = record { devices = room_at; downward = room.downward; downward_within = room.downward_within };
  }

-- ---- the steps that move nothing down

came_rests : (n : ℕ) (place : Place) (a : Answer) (after : Place) → CameActs n place a after → (tells_down a ≡ false) × (after.down ≡ place.down)
came_rests n place answer.Blocked after acts = (refl, ap (λ (p : Place). p.down) acts.1)
came_rests n place (answer.Came port conn) after acts = (refl, ap (λ (p : Place). p.down) acts.3)
came_rests n place _ after acts = absurd acts

gone_rests : (n : ℕ) (place : Place) (a : Answer) (after : Place) → GoneActs n place a after → (tells_down a ≡ false) × (after.down ≡ place.down)
gone_rests n place answer.Blocked after acts = (refl, ap (λ (p : Place). p.down) acts.1)
gone_rests n place (answer.Gone port conn) after acts = (refl, ap (λ (p : Place). p.down) acts.2)
gone_rests n place _ after acts = absurd acts

sends_rests : (n : ℕ) (place : Place) (a : Answer) (after : Place) → DiskSendActs n place a after → (tells_down a ≡ false) × (after.down ≡ place.down)
sends_rests n place answer.Idle after acts = (refl, ap (λ (p : Place). p.down) acts.1)
sends_rests n place answer.Blocked after acts = (refl, ap (λ (p : Place). p.down) acts.2)
sends_rests n place (answer.Sent port conn number bytes) after acts = (refl, ap (λ (p : Place). p.down) acts.5)
sends_rests n place _ after acts = absurd acts

inject_rests : (n : ℕ) (given : List ℕ) (place : Place) (a : Answer) (after : Place) → InjectActs n given place a after → (tells_down a ≡ false) × (after.down ≡ place.down)
inject_rests n given place answer.Blocked after acts = (refl, ap (λ (p : Place). p.down) acts.1)
inject_rests n given place (answer.Sent port conn number bytes) after acts = (refl, ap (λ (p : Place). p.down) acts.5)
inject_rests n given place _ after acts = absurd acts

-- the multiplier's places on the way down stay
abbrev KeepsDown : PmState → PmState → Type 0
KeepsDown old new = (m : ℕ) → (port_at new m).down ≡ (port_at old m).down

same_down : {old new : PmState} → new ≡ old → KeepsDown old new
same_down e = λ m. ap (λ (pm : PmState). (port_at pm m).down) e

offered_rests : (n : ℕ) (pm : PmState) (frame : Stamped) (dropped : Bool) (left : PmState) → FromDeviceRule pm n frame (Ok (offered dropped)) left → KeepsDown pm left
offered_rests n pm frame true left h = same_down h.1
offered_rests n pm frame false left h = λ m.
    ap (λ (q : PmState). (port_at q m).down) h.2 ∙ kept_part (λ (q : PortState). q.down) pm.ports n _ refl m

from_device_rests : (n : ℕ) (place : Place) (pm : PmState) (a : Answer) (after : Place) (left : PmState) → PmFromDeviceRule n place pm (Ok a) after left → (tells_down a ≡ false) × (after.down ≡ place.down) × KeepsDown pm left
from_device_rests n place pm answer.Idle after left acts = (refl, ap (λ (p : Place). p.down) acts.1, same_down acts.2)
from_device_rests n place pm answer.Blocked after left acts = (refl, ap (λ (p : Place). p.down) acts.2, same_down acts.3)
from_device_rests n place pm (answer.Offered p dropped) after left acts = (refl, ap (λ (p : Place). p.down) acts.1, offered_rests n pm acts.2.0 dropped left acts.2.2)
from_device_rests n place pm _ after left acts = absurd acts

gives_rests : (pm : PmState) (frame : Stamped) (left : PmState) → Gives pm frame left → KeepsDown pm left
gives_rests pm frame left (FromPort n was at other is stamp up e) = λ m.
    ap (λ (q : PmState). (port_at q m).down) e ∙ kept_part (λ (q : PortState). q.down) pm.ports n (with_up (port_at pm n) None) refl m
gives_rests pm frame left (Notice at due is e) = λ m. ap (λ (q : PmState). (port_at q m).down) e
gives_rests pm frame left (Answers at is e) = λ m. ap (λ (q : PmState). (port_at q m).down) e

up_rests : (pm : PmState) (upward : Queue) (a : Answer) (left : PmState) (new : Queue) → PmUpRule pm upward (Ok a) left new → (tells_down a ≡ false) × KeepsDown pm left
up_rests pm upward answer.Idle left new acts = (refl, same_down acts.2)
up_rests pm upward answer.Blocked left new acts = (refl, same_down acts.1)
up_rests pm upward (answer.Up n) left new acts = (refl, gives_rests pm acts.1.0 left (gives pm acts.1.0 left acts.1.2))
up_rests pm upward _ left new acts = absurd acts

take_rests : (old : Queue) (host : Host) (a : Answer) (new : Queue) (after : Host) → HostTakeRule old host (Ok a) new after → tells_down a ≡ false
take_rests old host answer.Idle new after acts = refl
take_rests old host (answer.Took port conn number bytes report) new after acts = refl
take_rests old host _ new after acts = absurd acts

tick_rests : (host : Host) (a : Answer) (after : Host) → TickRule host (Ok a) after → tells_down a ≡ false
tick_rests host answer.Idle after acts = refl
tick_rests host answer.Ticked after acts = refl
tick_rests host _ after acts = absurd acts

submit_rests : (dev : ℕ) (request : Request) (host : Host) (a : Answer) (after : Host) → SubmitRule dev request host (Ok a) after → tells_down a ≡ false
submit_rests dev request host (answer.Refused e) after acts = refl
submit_rests dev request host (answer.Submitted ticket) after acts = refl
submit_rests dev request host _ after acts = absurd acts

poll_rests : (host : Host) (a : Answer) (after : Host) → PollRule host (Ok a) after → tells_down a ≡ false
poll_rests host answer.Idle after acts = refl
poll_rests host (answer.Polled completion) after acts = refl
poll_rests host _ after acts = absurd acts

put_rests : (at : ℕ) (bytes : List ℕ) (host : Host) (a : Answer) (after : Host) → PutRule at bytes host (Ok a) after → tells_down a ≡ false
put_rests at bytes host answer.Put after acts = refl
put_rests at bytes host _ after acts = absurd acts

-- ---- a frame leaves the place of a port for the link to its device

module _ (capacity : ℕ) (old : Places) (n : ℕ) (place after : Place) (left : PmState) (room : HaveRoomDown capacity old) (is : slice_get old.devices n ≡ Some place) where
  abbrev has : HasRoomDown capacity place
  has = rw is at (room.devices n)

  down_goes : (a : Answer) → PmDownRule n place old.multiplier (Ok a) after left → GoesDown capacity old a (with_multiplier (with_device old n after) left)
  down_goes answer.Idle acts = rests_at capacity old n answer.Idle place after left room is refl (ap (λ (p : Place). p.down) acts.2) (same_down acts.3)
  down_goes answer.Blocked acts = rests_at capacity old n answer.Blocked place after left room is refl (ap (λ (p : Place). p.down) acts.1) (same_down acts.2)
  down_goes (answer.Down port) acts =
      let frame : Stamped = acts.2.0 in
      let was : (port_at old.multiplier n).down ≡ Some frame = acts.2.1.0 in
      let there : n < length old.multiplier.ports = has_down old.multiplier.ports n frame was in
      let low : PortState = with_down (port_at old.multiplier n) None in
      let ports : left.ports ≡ slice_set old.multiplier.ports n low = ap (λ (q : PmState). q.ports) acts.2.1.1 in
      let now : (port_at left n).down ≡ None =
      ap (λ (l : List PortState). (at l n).down) ports ∙ ap (λ (q : PortState). q.down) (this_port old.multiplier.ports n low there) in
      let more : after.down.frames ≡ place.down.frames ++ frame ∷ [] = ap (λ (p : Place). p.down.frames) acts.2.2 in
      let size : after.down.capacity ≡ place.down.capacity = ap (λ (p : Place). p.down.capacity) acts.2.2 in
      let within : length after.down.frames ≤ capacity =
      omega (arith, ap length more, length-append place.down.frames (frame ∷ []), acts.1, has.down, has.down_within) in
      goes_at capacity old n (answer.Down port) place after left room is
      (λ m other. ap (λ (l : List PortState). (at l m).down) ports ∙ ap (λ (q : PortState). q.down) (other_port old.multiplier.ports n m low other))
      (λ m other. record { fell = refl; left = ne_eqb port m (λ e. other (sym e ∙ acts.0)); taken = refl }) refl refl
      (record {
        fell = [];
        left = frame ∷ [];
        sunk = frame ∷ [];
        lost = [];
        took = [];
        hold = record { whole = rw (now, was) refl; bounded = option_fits (port_at left n).down };
        goes_on = one_goes_on left n frame;
        link = record { whole = more; bounded = within };
        fell_is = refl;
        sunk_is = rw (eq-eqb port n acts.0) refl;
        took_is = refl;
      })
      (record { down = size ∙ has.down; down_within = within })
  down_goes _ acts = absurd acts

  -- a change is recorded, and a removal drops what waits there for a connection that is gone
  presence_goes : (a : Answer) → n < length old.multiplier.ports → PmPresenceRule n place old.multiplier (Ok a) after left → GoesDown capacity old a (with_multiplier (with_device old n after) left)
  presence_goes answer.Idle there acts = rests_at capacity old n answer.Idle place after left room is refl (ap (λ (p : Place). p.down) acts.1) (same_down acts.2)
  presence_goes (answer.Presence port) there acts =
      let r : RecordedAt old.multiplier n left = subst (λ (pm : PmState). RecordedAt old.multiplier n pm) (sym acts.2.2) (recorded_at old.multiplier n acts.2.0 there) in
      let link : after.down ≡ place.down = ap (λ (p : Place). p.down) acts.1 in
      goes_at capacity old n (answer.Presence port) place after left room is (λ m other. ap (λ (q : PortState). q.down) (r.others m other))
      (λ m other. record { fell = refl; left = refl; taken = refl }) refl refl
      (record {
        fell = [];
        left = r.down.left;
        sunk = [];
        lost = r.down.left;
        took = [];
        hold = r.down.hold;
        goes_on = r.down.goes_on;
        link = rw link (still capacity place.down.frames has.down_within);
        fell_is = refl;
        sunk_is = refl;
        took_is = refl;
      })
      (record { down = ap (λ (q : Queue). q.capacity) link ∙ has.down; down_within = rw link has.down_within })
  presence_goes _ there acts = absurd acts

-- ---- a device takes a frame off its link

module _ (capacity : ℕ) (old : Places) (n : ℕ) (place after : Place) (room : HaveRoomDown capacity old) (is : slice_get old.devices n ≡ Some place) where
  abbrev holds : HasRoomDown capacity place
  holds = rw is at (room.devices n)

  disk_takes : (a : Answer) → DiskTakeActs n place a after → GoesDown capacity old a (with_device old n after)
  disk_takes answer.Idle acts = rests_at capacity old n answer.Idle place after old.multiplier room is refl (ap (λ (p : Place). p.down) acts.1) (λ m. refl)
  disk_takes (answer.DiskTook port dropped) acts =
      let first : place.down.frames ≡ acts.1.0 ∷ after.down.frames = acts.1.1 in
      let size : after.down.capacity ≡ place.down.capacity = ap (λ (p : Place). p.down.capacity) acts.2 in
      let within : length after.down.frames ≤ capacity = omega (arith, ap length first, holds.down_within) in
      goes_at capacity old n (answer.DiskTook port dropped) place after old.multiplier room is (λ m other. refl)
      (λ m other. record { fell = refl; left = refl; taken = ne_eqb port m (λ e. other (sym e ∙ acts.0)) }) refl refl
      (record {
        fell = [];
        left = [];
        sunk = [];
        lost = [];
        took = acts.1.0 ∷ [];
        hold = still 1 (held_down n old.multiplier) (option_fits (port_at old.multiplier n).down);
        goes_on = nothing_left old.multiplier n;
        link = record { whole = sym first ∙ sym (append-nil place.down.frames); bounded = within };
        fell_is = refl;
        sunk_is = refl;
        took_is = rw (eq-eqb port n acts.0) refl;
      })
      (record { down = size ∙ holds.down; down_within = within })
  disk_takes _ acts = absurd acts

-- ---- the multiplier takes a frame off the host's link

module _ (capacity : ℕ) (old : Places) (downward : Queue) (left : PmState) (room : HaveRoomDown capacity old) where
  abbrev after_host : Places
  after_host = with_multiplier (with_downward old downward) left

  -- the ports, where the frame falls into the place of port m
  falls_at : (m : ℕ) → Falls old.multiplier m left → (n : ℕ) → PortPassesDown capacity n
      (slice_get old.devices n) (held_down n old.multiplier) (answer.Passed (passed.Down m) ∷ []) (slice_get old.devices n) left
  falls_at m f n =
      elim (cases_eq n m) [
        | inl e ↦ rw e here
        | inr other ↦
            quiet capacity n (slice_get old.devices n) (slice_get old.devices n) (held_down n old.multiplier) left (answer.Passed (passed.Down m))
            (down_fits capacity (slice_get old.devices n) (room.devices n)) (option_fits (port_at old.multiplier n).down) refl
            (ap option_to_list (ap (λ (l : List PortState). (at l n).down) f.new_is ∙ ap (λ (q : PortState). q.down) (other_port old.multiplier.ports m n (with_down (port_at old.multiplier m) (Some f.frame)) other)))
            (record { fell = ne_eqb m n (λ e. other (sym e)); left = refl; taken = refl })
      ]
    where
      now : (port_at left m).down ≡ Some f.frame
      now =
          ap (λ (l : List PortState). (at l m).down) f.new_is
          ∙ ap (λ (q : PortState). q.down) (this_port old.multiplier.ports m (with_down (port_at old.multiplier m) (Some f.frame)) f.there)

      here : PortPassesDown capacity m (slice_get old.devices m) (held_down m old.multiplier) (answer.Passed (passed.Down m) ∷ []) (slice_get old.devices m) left
      here = record {
        fell = f.frame ∷ [];
        left = [];
        sunk = [];
        lost = [];
        took = [];
        hold = record { whole = rw (now, f.empty) refl; bounded = option_fits (port_at left m).down };
        goes_on = nothing_left left m;
        link = still capacity (on_down_link (slice_get old.devices m)) (down_fits capacity (slice_get old.devices m) (room.devices m));
        fell_is = rw (eq-eqb m m refl) refl;
        sunk_is = refl;
        took_is = refl;
      }

  -- the ports, if the frame goes to none of them
  passes_by : (a : Answer) → left.ports ≡ old.multiplier.ports → ((n : ℕ) → IsElsewhere n a) → (n : ℕ) → PortPassesDown capacity n
      (slice_get old.devices n) (held_down n old.multiplier) (a ∷ []) (slice_get old.devices n) left
  passes_by a ports none n =
      quiet capacity n (slice_get old.devices n) (slice_get old.devices n) (held_down n old.multiplier) left a
      (down_fits capacity (slice_get old.devices n) (room.devices n)) (option_fits (port_at old.multiplier n).down) refl
      (ap (λ (l : List PortState). option_to_list (at l n).down) ports) (none n)

  passes_at : (p : Passed) → Went old.multiplier p left → (n : ℕ) → PortPassesDown capacity n
      (slice_get old.devices n) (held_down n old.multiplier) (answer.Passed p ∷ []) (slice_get old.devices n) left
  passes_at (passed.Down m) w = falls_at m w
  passes_at other w = passes_by (answer.Passed other) w (λ n. record { fell = refl; left = refl; taken = refl })

  from_host_goes : (a : Answer) → PmFromHostRule old.downward old.multiplier (Ok a) downward left → GoesDown capacity old a after_host
  from_host_goes answer.Idle acts = rests_all capacity old answer.Idle after_host room refl acts.1 refl (same_down acts.2)
  from_host_goes answer.Blocked acts = rests_all capacity old answer.Blocked after_host room refl acts.1 refl (same_down acts.2)
  from_host_goes (answer.Passed p) acts =
      let first : old.downward.frames ≡ acts.0.0 ∷ downward.frames = acts.0.1 in
      let within : length downward.frames ≤ capacity = omega (arith, ap length first, room.downward_within) in
      record {
        ports = passes_at p (went old.multiplier acts.0.0 left p acts.0.2);
        host = record {
          pushed = [];
          passed = acts.0.0 ∷ [];
          link = record { whole = sym first ∙ sym (append-nil old.downward.frames); bounded = within };
          pushed_is = refl;
          passed_is = refl;
        };
        room = record { devices = room.devices; downward = acts.1 ∙ room.downward; downward_within = within };
      }
  from_host_goes _ acts = absurd acts

-- ---- the host puts a frame on its link

module _ (capacity : ℕ) (old : Places) (host : Host) (downward : Queue) (room : HaveRoomDown capacity old) where
  abbrev after_push : Places
  after_push = with_downward (with_host old host) downward

  push_goes : (a : Answer) → HostPushRule old.host old.downward (Ok a) host downward → GoesDown capacity old a after_push
  push_goes answer.Idle acts = rests_all capacity old answer.Idle after_push room refl acts.2 refl (λ m. refl)
  push_goes answer.Blocked acts = rests_all capacity old answer.Blocked after_push room refl acts.2 refl (λ m. refl)
  push_goes answer.Pushed acts =
      let more : downward.frames ≡ old.downward.frames ++ acts.1.0 ∷ [] = ap (λ (q : Queue). q.frames) acts.1.2 in
      let size : downward.capacity ≡ old.downward.capacity = ap (λ (q : Queue). q.capacity) acts.1.2 in
      let within : length downward.frames ≤ capacity =
      omega (arith, ap length more, length-append old.downward.frames (acts.1.0 ∷ []), acts.0, room.downward, room.downward_within) in
      record {
        ports = λ n.
            quiet capacity n (slice_get old.devices n) (slice_get old.devices n) (held_down n old.multiplier) old.multiplier answer.Pushed
            (down_fits capacity (slice_get old.devices n) (room.devices n)) (option_fits (port_at old.multiplier n).down) refl refl
            (record { fell = refl; left = refl; taken = refl });
        host = record {
          pushed = acts.1.0 ∷ [];
          passed = [];
          link = record { whole = more; bounded = within };
          pushed_is = refl;
          passed_is = refl;
        };
        room = record { devices = room.devices; downward = size ∙ room.downward; downward_within = within };
      }
  push_goes _ acts = absurd acts

-- ---- each step

module _ (capacity : ℕ) (old : Places) (a : Answer) (new : Places) (room : HaveRoomDown capacity old) (orderly : IsOrderly old) where
  pub rule_goes_down : (s : Step) → Rule old s (Ok a) new → GoesDown capacity old a new
  rule_goes_down (step.Came n) rule =
      let p = at_device old n a new (CameRule n) rule in
      let r = came_rests n p.place a p.after p.rule.1 in
      rw p.new_is (rests_at capacity old n a p.place p.after old.multiplier room p.is r.0 r.1 (λ m. refl))
  rule_goes_down (step.Gone n) rule =
      let p = at_device old n a new (GoneRule n) rule in
      let r = gone_rests n p.place a p.after p.rule.1 in
      rw p.new_is (rests_at capacity old n a p.place p.after old.multiplier room p.is r.0 r.1 (λ m. refl))
  rule_goes_down (step.DiskSend n) rule =
      let p = at_device old n a new (DiskSendRule n) rule in
      let r = sends_rests n p.place a p.after p.rule.1 in
      rw p.new_is (rests_at capacity old n a p.place p.after old.multiplier room p.is r.0 r.1 (λ m. refl))
  rule_goes_down (step.Inject n bytes) rule =
      let p = at_device old n a new (InjectRule n bytes) rule in
      let r = inject_rests n bytes p.place a p.after p.rule.1 in
      rw p.new_is (rests_at capacity old n a p.place p.after old.multiplier room p.is r.0 r.1 (λ m. refl))
  rule_goes_down (step.DiskTake n) rule =
      let p = at_device old n a new (DiskTakeRule n) rule in
      rw p.new_is (disk_takes capacity old n p.place p.after room p.is a p.rule)
  rule_goes_down (step.PmPresence n) rule =
      let p = at_both old n a new (PmPresenceRule n) rule in
      let below : n < length old.devices = slice_get_within old.devices n p.place p.is in
      let most : length old.devices ≤ 15 = orderly.most in
      let count : length old.multiplier.ports ≡ 15 = orderly.room in
      rw p.new_is (presence_goes capacity old n p.place p.after p.left room p.is a (omega arith) p.rule)
  rule_goes_down (step.PmFromDevice n) rule =
      let p = at_both old n a new (PmFromDeviceRule n) rule in
      let r = from_device_rests n p.place old.multiplier a p.after p.left p.rule in
      rw p.new_is (rests_at capacity old n a p.place p.after p.left room p.is r.0 r.1 r.2)
  rule_goes_down (step.PmDown n) rule =
      let p = at_both old n a new (PmDownRule n) rule in
      rw p.new_is (down_goes capacity old n p.place p.after p.left room p.is a p.rule)
  rule_goes_down step.PmFromHost rule = rw rule.1 (from_host_goes capacity old new.downward new.multiplier room a rule.0)
  rule_goes_down step.PmUp rule =
      let r = up_rests old.multiplier old.upward a new.multiplier new.upward rule.0 in
      rests_all capacity old a new room r.0 (ap (λ (w : Places). w.downward) rule.1) (ap (λ (w : Places). w.devices) rule.1) r.1
  rule_goes_down step.HostTake rule =
      rests_all capacity old a new room (take_rests old.upward old.host a new.upward new.host rule.0)
      (ap (λ (w : Places). w.downward) rule.1) (ap (λ (w : Places). w.devices) rule.1) (same_down (ap (λ (w : Places). w.multiplier) rule.1))
  rule_goes_down step.HostPush rule = rw rule.1 (push_goes capacity old new.host new.downward room a rule.0)
  rule_goes_down step.Tick rule =
      rests_all capacity old a new room (tick_rests old.host a new.host rule.0)
      (ap (λ (w : Places). w.downward) rule.1) (ap (λ (w : Places). w.devices) rule.1) (same_down (ap (λ (w : Places). w.multiplier) rule.1))
  rule_goes_down (step.Submit dev request) rule =
      rests_all capacity old a new room (submit_rests dev request old.host a new.host rule.0)
      (ap (λ (w : Places). w.downward) rule.1) (ap (λ (w : Places). w.devices) rule.1) (same_down (ap (λ (w : Places). w.multiplier) rule.1))
  rule_goes_down step.Poll rule =
      rests_all capacity old a new room (poll_rests old.host a new.host rule.0)
      (ap (λ (w : Places). w.downward) rule.1) (ap (λ (w : Places). w.devices) rule.1) (same_down (ap (λ (w : Places). w.multiplier) rule.1))
  rule_goes_down (step.Put at bytes) rule =
      rests_all capacity old a new room (put_rests at bytes old.host a new.host rule.0)
      (ap (λ (w : Places). w.downward) rule.1) (ap (λ (w : Places). w.devices) rule.1) (same_down (ap (λ (w : Places). w.multiplier) rule.1))

-- ---- steps after one another

module _ (capacity n : ℕ) (was mid now : Option Place) (held_was : List Stamped) (pm_mid pm_now : PmState) (first second : List Answer) (p : PortPassesDown capacity n was held_was first mid pm_mid)
    (q : PortPassesDown capacity n mid (held_down n pm_mid) second now pm_now) (stays : StillGone n pm_mid pm_now) where
  pub port_down-append : PortPassesDown capacity n was held_was (first ++ second) now pm_now
  port_down-append = record {
    fell = p.fell ++ q.fell;
    left = p.left ++ q.left;
    sunk = p.sunk ++ q.sunk;
    lost = p.lost ++ q.lost;
    took = p.took ++ q.took;
    hold = chained 1 held_was p.fell p.left (held_down n pm_mid) q.fell q.left (held_down n pm_now) p.hold q.hold;
    goes_on = goes_on-append pm_mid pm_now n p.left p.sunk p.lost q.left q.sunk q.lost p.goes_on q.goes_on stays;
    link = chained capacity (on_down_link was) p.sunk p.took (on_down_link mid) q.sunk q.took (on_down_link now) p.link q.link;
    fell_is = rw (length-append p.fell q.fell, times-append (is_down_to n) first second, p.fell_is, q.fell_is) refl;
    sunk_is = rw (length-append p.sunk q.sunk, times-append (is_down n) first second, p.sunk_is, q.sunk_is) refl;
    took_is = rw (length-append p.took q.took, times-append (is_taken_at n) first second, p.took_is, q.took_is) refl;
  }

module _ (capacity : ℕ) (was mid now : List Stamped) (first second : List Answer) (p : HostPassesDown capacity was first mid) (q : HostPassesDown capacity mid second now) where
  pub host_down-append : HostPassesDown capacity was (first ++ second) now
  host_down-append = record {
    pushed = p.pushed ++ q.pushed;
    passed = p.passed ++ q.passed;
    link = chained capacity was p.pushed p.passed mid q.pushed q.passed now p.link q.link;
    pushed_is = rw (length-append p.pushed q.pushed, times-append is_pushed first second, p.pushed_is, q.pushed_is) refl;
    passed_is = rw (length-append p.passed q.passed, times-append is_passed first second, p.passed_is, q.passed_is) refl;
  }
