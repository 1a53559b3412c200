-- For the field `links` of `laws`. In each step what goes up goes over links: over the link from each device, through
-- the place of its port, and over the link to the host. Each connection that comes or goes does so over a presence
-- link.
use Rattle.std.proofs.Common.{◌≡◌, ◌≢◌, ℕ, ◌<◌, ◌≤◌, ◌+◌, ◌==◌, List, [], ◌∷◌, ◌++◌, Option, Some, None, Bool, true, false, cond, if◌then◌else◌, refl}
use Rattle.std.proofs.{Common.{sym, ap, subst, ◌∙◌, inl, inr, map, length, filter, suc, arith, length-append}, lemmas.Bool.{cases_eq, eq-eqb, ne_eqb}}
use Rattle.std.proofs.lemmas.{Grind.flat_map-append, List.{append-nil, map-append}, Option.slice_get_within}
use Rattle.std.specs.{Prelude.{slice_get, slice_set, option_to_list, MatchOption, Ok}, List.flat_map}
use Rattle.fis_view.specs.Frames.{Stamped}
use Rattle.ruled_links.specs.Links.{IsLink}
use Rattle.pm_ports.specs.Port.{PortState, with_down, with_up}
use Rattle.multiplier.specs.{Arbiter.control_port, State.{PmState, port_at, rising, stamped}, declared.multiplier.Passed.Passed}
use Rattle.multiplier.specs.Between.{Answer as Answers, FromPort, Gives, Notice, at}
use Rattle.multiplier.specs.declared.multiplier.Passed.TheVariants as passed
use Rattle.multiplier.proofs.Door.{gives, gives_held, has_up, kept_part, other_port, this_port}
use Rattle.hba_driver.specs.{HostTurns.Host, declared.request.Request.Request}
use Rattle.pm_world.specs.{Attached.Attached as Device, Downward.times, Links.{told_frame, told_of, changed_by, dropped_by, entered_by, is_offered}}
use Rattle.pm_world.specs.{Links.{is_recorded, rose_by, took_by, on_presence, from_port, without, PortPasses, HostPasses}, Places.{AreFull, Changes}}
use Rattle.pm_world.specs.Places.{IsFull, IsOrderly, IsTold, Place, Places, Queue, after_sending, frame_of, posted, pushed, with_device, with_host}
use Rattle.pm_world.specs.{Places.{with_multiplier, with_upward}, Rules.{CameActs, CameRule, DiskSendActs, DiskSendRule, DiskTakeActs, DiskTakeRule}}
use Rattle.pm_world.specs.Rules.{GoneActs, GoneRule, HostPushRule, HostTakeRule, InjectActs, InjectRule, PmDownRule, PmFromDeviceRule, PmFromHostRule}
use Rattle.pm_world.specs.{Rules.{PmPresenceRule, PmUpRule, PollRule, PutRule, Rule, SubmitRule, TickRule}, Traffic.{held, on_link}}
use Rattle.pm_world.specs.declared.{link.Change.Change, step.{Step.Step, Answer.Answer}}
use Rattle.pm_world.specs.declared.link.Change.TheVariants as change
use Rattle.pm_world.specs.declared.step.Step.TheVariants as step
use Rattle.pm_world.specs.declared.step.Answer.TheVariants as answer
use Rattle.pm_world.proofs.links.LinkLemmas.{RecordedAt, StillGone, chained, goes_on-append, nothing_left, one_goes_on, option_fits, recorded_at}
use Rattle.pm_world.proofs.{links.{LinkLemmas.{still, without-append}, LinksDown.{Went, times-append, went}}, steps.Lists.{slice_get-set_same}}
use Rattle.pm_world.proofs.steps.{Lists.{slice_get-set_other}, Steps.{at_both, at_device}}

-- ---- room

-- the links from a device have room for this many items, and hold no more
pub record HasRoomUp (capacity : ℕ) (place : Place) : Type 0 where
  pub up : place.up.capacity ≡ capacity
  pub up_within : length place.up.frames ≤ capacity
  pub presence : place.presence.capacity ≡ capacity
  pub presence_within : length place.presence.changes ≤ capacity

-- all links on the way up have, too
pub record HaveRoomUp (capacity : ℕ) (now : Places) : Type 0 where
  pub devices : (n : ℕ) → MatchOption (slice_get now.devices n) (Prim.Unit {0}) (HasRoomUp capacity)
  pub upward : now.upward.capacity ≡ capacity
  pub upward_within : length now.upward.frames ≤ capacity

pub link_fits : (capacity : ℕ) (o : Option Place) → MatchOption o (Prim.Unit {0}) (HasRoomUp capacity) → length (on_link o) ≤ capacity
link_fits capacity None room = omega arith
link_fits capacity (Some place) room = room.up_within

pub presence_fits : (capacity : ℕ) (o : Option Place) → MatchOption o (Prim.Unit {0}) (HasRoomUp capacity) → length (on_presence o) ≤ capacity
presence_fits capacity None room = omega arith
presence_fits capacity (Some place) room = room.presence_within

-- ---- answers that tell nothing of the way up

record IsElsewhere (n : ℕ) (a : Answer) : Type 0 where
  entered : entered_by n a ≡ []
  left : is_offered n a ≡ false
  changed : changed_by n a ≡ []
  recorded : is_recorded n a ≡ false

record IsSilent (a : Answer) : Type 0 where
  rose : rose_by a ≡ []
  took : took_by a ≡ []
  elsewhere : (n : ℕ) → IsElsewhere n a

abbrev tells_up : Answer → Bool
tells_up (answer.Came port conn) = true
tells_up (answer.Gone port conn) = true
tells_up (answer.Sent port conn number bytes) = true
tells_up (answer.Presence port) = true
tells_up (answer.Offered port dropped) = true
tells_up (answer.Up port) = true
tells_up (answer.Took port conn number bytes report) = true
tells_up _ = false

silent : (a : Answer) → tells_up a ≡ false → IsSilent a
silent (answer.Came port conn) h = absurd cc
silent (answer.Gone port conn) h = absurd cc
silent (answer.Sent port conn number bytes) h = absurd cc
silent (answer.Presence port) h = absurd cc
silent (answer.Offered port dropped) h = absurd cc
silent (answer.Up port) h = absurd cc
silent (answer.Took port conn number bytes report) h = absurd cc
silent _ h = record { rose = refl; took = refl; elsewhere = λ n. record { entered = refl; left = refl; changed = refl; recorded = refl } }

-- ---- one port and one link

-- what goes over the links at a port in one step, and what of it enters the host's link
record PortStep (capacity n : ℕ) (was : Option Place) (held_was : List Stamped) (a : Answer) (now : Option Place) (pm : PmState) (rose : List Stamped) : Type 0 where
  passes : PortPasses capacity n was held_was (a ∷ []) now pm
  rises : n ≢ control_port → from_port n rose ≡ map (rising n) passes.risen

-- a place of a device keeps its links
record KeepsUp (was now : Option Place) : Type 0 where
  link : on_link now ≡ on_link was
  presence : on_presence now ≡ on_presence was
  room : (capacity : ℕ) → MatchOption was (Prim.Unit {0}) (HasRoomUp capacity) → MatchOption now (Prim.Unit {0}) (HasRoomUp capacity)

keeps_same : (o : Option Place) → KeepsUp o o
keeps_same o = record { link = refl; presence = refl; room = λ capacity room. room }

keeps_place : (place after : Place) → after.up ≡ place.up → after.presence ≡ place.presence → KeepsUp (Some place) (Some after)
keeps_place place after up presence = record {
  link = ap (λ (q : Queue). q.frames) up;
  presence = ap (λ (q : Changes). q.changes) presence;
  room = λ capacity room. record {
    up = ap (λ (q : Queue). q.capacity) up ∙ room.up;
    up_within = rw up room.up_within;
    presence = ap (λ (q : Changes). q.capacity) presence ∙ room.presence;
    presence_within = rw presence room.presence_within;
  };
}

quiet : (capacity n : ℕ) (was now : Option Place) (held_was : List Stamped) (pm : PmState) (a : Answer) (rose : List Stamped) → MatchOption was (Prim.Unit {0}) (HasRoomUp capacity) → length held_was ≤ 1
    → KeepsUp was now → held n pm ≡ held_was → IsElsewhere n a → (n ≢ control_port → from_port n rose ≡ []) → PortStep capacity n was held_was a now pm rose
quiet capacity n was now held_was pm a rose room fits keeps same_held none others = record {
  passes = record {
    passed = [];
    left = [];
    risen = [];
    lost = [];
    recorded = [];
    link = rw (keeps.link, none.entered) (still capacity (on_link was) (link_fits capacity was room));
    passed_is = rw none.left refl;
    hold = subst (λ (held_now : List Stamped). IsLink 1 (held_was ++ []) [] held_now) (sym same_held) (still 1 held_was fits);
    goes_on = nothing_left pm n;
    presence = rw (keeps.presence, none.changed) (still capacity (on_presence was) (presence_fits capacity was room));
    recorded_is = rw none.recorded refl;
  };
  rises = others;
}

-- nothing goes over the host's link
abbrev host_still : (capacity : ℕ) (was now : List Stamped) (a : Answer) → length was ≤ capacity → now ≡ was → rose_by a ≡ [] → took_by a ≡ [] → HostPasses capacity was (a ∷ []) now
host_still capacity was now a fits same rose took = record {
  rose = [];
  took = [];
  link = rw same (still capacity was fits);
  rose_is = rw rose refl;
  took_is = rw took refl;
}

-- ---- one step of a world

pub record GoesUp (capacity : ℕ) (old : Places) (a : Answer) (new : Places) : Type 0 where
  pub ports : (n : ℕ) → PortPasses capacity n
      (slice_get old.devices n) (held n old.multiplier) (a ∷ [])
      (slice_get new.devices n) new.multiplier
  pub host : HostPasses capacity old.upward.frames (a ∷ []) new.upward.frames
  pub rises : (n : ℕ) → n ≢ control_port → from_port n host.rose ≡ map (rising n) (ports n).risen
  pub room : HaveRoomUp capacity new

-- a step that moves nothing up
module _ (capacity : ℕ) (old : Places) (a : Answer) (new : Places) (room : HaveRoomUp capacity old) (tells : tells_up a ≡ false) where
  module _ (upward : new.upward ≡ old.upward) (devices : (n : ℕ) → KeepsUp (slice_get old.devices n) (slice_get new.devices n)) (ports : (n : ℕ) → (port_at new.multiplier n).up ≡ (port_at old.multiplier n).up) where
    port_rests : (n : ℕ) → PortStep capacity n (slice_get old.devices n) (held n old.multiplier) a (slice_get new.devices n) new.multiplier []
    port_rests n =
        quiet capacity n (slice_get old.devices n) (slice_get new.devices n) (held n old.multiplier) new.multiplier a [] (room.devices n) (option_fits (port_at old.multiplier n).up)
        (devices n) (ap option_to_list (ports n)) ((silent a tells).elsewhere n) (λ other. refl)

    rests : GoesUp capacity old a new
    rests = record {
      ports = λ n. (port_rests n).passes;
      host = host_still capacity old.upward.frames new.upward.frames a room.upward_within (ap (λ (q : Queue). q.frames) upward) (silent a tells).rose (silent a tells).took;
      rises = λ n. (port_rests n).rises;
      room = record {
        devices = λ n. (devices n).room capacity (room.devices n);
        upward = ap (λ (q : Queue). q.capacity) upward ∙ room.upward;
        upward_within = rw upward room.upward_within;
      };
    }

  -- the places of the devices stay
  rests_all : new.upward ≡ old.upward → new.devices ≡ old.devices → ((n : ℕ) → (port_at new.multiplier n).up ≡ (port_at old.multiplier n).up) → GoesUp capacity old a new
  rests_all upward devices ports = rests upward (λ n. rw devices (keeps_same (slice_get old.devices n))) ports

-- a device's place changes, but its links do not
keeps_after : (devices : List Place) (n : ℕ) (place after : Place) (m : ℕ) → slice_get devices n ≡ Some place → KeepsUp (Some place) (Some after) → KeepsUp (slice_get devices m) (slice_get (slice_set devices n after) m)
keeps_after devices n place after m is keeps =
    elim (cases_eq m n) [
      | inl e ↦ rw (e, is, slice_get-set_same devices n place after is) keeps
      | inr other ↦ rw (slice_get-set_other devices n m after other) (keeps_same (slice_get devices m))
    ]

-- the multiplier's places on the way up stay
abbrev KeepsHeld : PmState → PmState → Type 0
KeepsHeld old new = (m : ℕ) → (port_at new m).up ≡ (port_at old m).up

same_held : {old new : PmState} → new ≡ old → KeepsHeld old new
same_held e = λ m. ap (λ (pm : PmState). (port_at pm m).up) e

-- a step at device n and its port
module _ (capacity : ℕ) (old : Places) (n : ℕ) (place after : Place) (left : PmState) (room : HaveRoomUp capacity old) (is : slice_get old.devices n ≡ Some place) where
  abbrev after_both : Places
  after_both = with_multiplier (with_device old n after) left

  rests_at : (a : Answer) → tells_up a ≡ false → after.up ≡ place.up → after.presence ≡ place.presence → KeepsHeld old.multiplier left → GoesUp capacity old a after_both
  rests_at a tells up presence ports =
      rests capacity old a after_both room tells refl (λ m. keeps_after old.devices n place after m is (keeps_place place after up presence)) ports

  -- nothing changes
  same_at : (a : Answer) → tells_up a ≡ false → after ≡ place → KeepsHeld old.multiplier left → GoesUp capacity old a after_both
  same_at a tells same ports = rests_at a tells (ap (λ (p : Place). p.up) same) (ap (λ (p : Place). p.presence) same) ports

  module _ (a : Answer) (others : (m : ℕ) → m ≢ n → (port_at left m).up ≡ (port_at old.multiplier m).up) (elsewhere : (m : ℕ) → m ≢ n → IsElsewhere m a) (unrisen : rose_by a ≡ []) (untaken : took_by a ≡ [])
      (here : PortStep capacity n (Some place) (held n old.multiplier) a (Some after) left []) (has_now : HasRoomUp capacity after) where
    port_goes : (m : ℕ) → PortStep capacity m (slice_get old.devices m) (held m old.multiplier) a (slice_get (slice_set old.devices n after) m) left []
    port_goes m =
        elim (cases_eq m n) [
          | inl e ↦ rw (e, is, slice_get-set_same old.devices n place after is) here
          | inr other ↦
              quiet capacity m (slice_get old.devices m) (slice_get (slice_set old.devices n after) m) (held m old.multiplier) left a []
              (room.devices m) (option_fits (port_at old.multiplier m).up) (rw (slice_get-set_other old.devices n m after other) (keeps_same (slice_get old.devices m)))
              (ap option_to_list (others m other)) (elsewhere m other) (λ no. refl)
        ]

    room_at : (m : ℕ) → MatchOption (slice_get (slice_set old.devices n after) m) (Prim.Unit {0}) (HasRoomUp capacity)
    room_at m =
        elim (cases_eq m n) [
          | inl e ↦ rw (e, slice_get-set_same old.devices n place after is) has_now
          | inr other ↦ rw (slice_get-set_other old.devices n m after other) (room.devices m)
        ]

    goes_at : GoesUp capacity old a after_both
    goes_at = record {
      ports = λ m. (port_goes m).passes;
      host = host_still capacity old.upward.frames old.upward.frames a room.upward_within refl unrisen untaken;
      rises = λ m. (port_goes m).rises;
      room = record { devices = room_at; upward = room.upward; upward_within = room.upward_within };
    }

-- ---- a device comes, and sends

module _ (capacity : ℕ) (old : Places) (n : ℕ) (place after : Place) (room : HaveRoomUp capacity old) (is : slice_get old.devices n ≡ Some place) where
  abbrev was : HasRoomUp capacity place
  was = rw is at (room.devices n)

  -- a change is posted on its presence link
  module _ (a : Answer) (c : Change) (none : entered_by n a ≡ []) (offered : is_offered n a ≡ false) (unrecorded : is_recorded n a ≡ false) (changed : changed_by n a ≡ c ∷ [])
      (up : after.up ≡ place.up) (presence : after.presence ≡ posted place.presence c) (free : ¬ AreFull place.presence) where
    posts : ((m : ℕ) → m ≢ n → IsElsewhere m a) → rose_by a ≡ [] → took_by a ≡ [] → GoesUp capacity old a (with_device old n after)
    posts elsewhere unrisen untaken =
        let more : after.presence.changes ≡ place.presence.changes ++ c ∷ [] = ap (λ (q : Changes). q.changes) presence in
        let size : after.presence.capacity ≡ place.presence.capacity = ap (λ (q : Changes). q.capacity) presence in
        let within : length after.presence.changes ≤ capacity =
        omega (arith, ap length more, length-append place.presence.changes (c ∷ []), free, was.presence, was.presence_within) in
        goes_at capacity old n place after old.multiplier room is a (λ m other. refl) elsewhere unrisen untaken
        (record {
          passes = record {
            passed = [];
            left = [];
            risen = [];
            lost = [];
            recorded = [];
            link = rw (up, none) (still capacity place.up.frames was.up_within);
            passed_is = rw offered refl;
            hold = still 1 (held n old.multiplier) (option_fits (port_at old.multiplier n).up);
            goes_on = nothing_left old.multiplier n;
            presence = record { whole = rw changed more; bounded = within };
            recorded_is = rw unrecorded refl;
          };
          rises = λ no. refl;
        })
        (record {
          up = ap (λ (q : Queue). q.capacity) up ∙ was.up;
          up_within = rw up was.up_within;
          presence = size ∙ was.presence;
          presence_within = within;
        })

  came_goes : (a : Answer) → CameActs n place a after → GoesUp capacity old a (with_device old n after)
  came_goes answer.Blocked acts = same_at capacity old n place after old.multiplier room is answer.Blocked refl acts.1 (λ m. refl)
  came_goes (answer.Came port conn) acts =
      posts (answer.Came port conn) (change.Came (place.conn + 1)) refl refl refl (rw (eq-eqb port n acts.0, acts.1) refl)
      (ap (λ (p : Place). p.up) acts.3) (ap (λ (p : Place). p.presence) acts.3) acts.4
      (λ m other. record { entered = refl; left = refl; changed = rw (ne_eqb port m (λ e. other (sym e ∙ acts.0))) refl; recorded = refl }) refl refl
  came_goes _ acts = absurd acts

  gone_goes : (a : Answer) → GoneActs n place a after → GoesUp capacity old a (with_device old n after)
  gone_goes answer.Blocked acts = same_at capacity old n place after old.multiplier room is answer.Blocked refl acts.1 (λ m. refl)
  gone_goes (answer.Gone port conn) acts =
      posts (answer.Gone port conn) (change.Gone place.conn) refl refl refl (rw (eq-eqb port n acts.0, acts.1) refl)
      (ap (λ (p : Place). p.up) acts.2) (ap (λ (p : Place). p.presence) acts.2) acts.3
      (λ m other. record { entered = refl; left = refl; changed = rw (ne_eqb port m (λ e. other (sym e ∙ acts.0))) refl; recorded = refl }) refl refl
  gone_goes _ acts = absurd acts

  -- a frame is sent
  sent_goes : (port conn number : ℕ) (bytes : List ℕ) (unit : Device) → ¬ IsFull place.up → port ≡ n → conn ≡ place.conn → number ≡ place.number → after ≡ after_sending n place bytes unit
      → GoesUp capacity old (answer.Sent port conn number bytes) (with_device old n after)
  sent_goes port conn number bytes unit free port_is conn_is number_is after_is =
      let presence : after.presence ≡ place.presence = ap (λ (p : Place). p.presence) after_is in
      let more : after.up.frames ≡ place.up.frames ++ frame_of n place bytes ∷ [] = ap (λ (p : Place). p.up.frames) after_is in
      let size : after.up.capacity ≡ place.up.capacity = ap (λ (p : Place). p.up.capacity) after_is in
      let within : length after.up.frames ≤ capacity =
      omega (arith, ap length more, length-append place.up.frames (frame_of n place bytes ∷ []), free, was.up, was.up_within) in
      let same : told_frame port conn number bytes ≡ frame_of n place bytes = rw (port_is, conn_is, number_is) refl in
      let entered : entered_by n (answer.Sent port conn number bytes) ≡ frame_of n place bytes ∷ [] =
      rw (eq-eqb port n port_is) (ap (λ (f : Stamped). f ∷ []) same) in
      goes_at capacity old n place after old.multiplier room is (answer.Sent port conn number bytes) (λ m other. refl)
      (λ m other. record { entered = rw (ne_eqb port m (λ e. other (sym e ∙ port_is))) refl; left = refl; changed = refl; recorded = refl }) refl refl
      (record {
        passes = record {
          passed = [];
          left = [];
          risen = [];
          lost = [];
          recorded = [];
          link = record { whole = rw entered more; bounded = within };
          passed_is = refl;
          hold = still 1 (held n old.multiplier) (option_fits (port_at old.multiplier n).up);
          goes_on = nothing_left old.multiplier n;
          presence = rw presence (still capacity place.presence.changes was.presence_within);
          recorded_is = refl;
        };
        rises = λ no. refl;
      })
      (record {
        up = size ∙ was.up;
        up_within = within;
        presence = ap (λ (q : Changes). q.capacity) presence ∙ was.presence;
        presence_within = rw presence was.presence_within;
      })

  sends_goes : (a : Answer) → DiskSendActs n place a after → GoesUp capacity old a (with_device old n after)
  sends_goes answer.Idle acts = same_at capacity old n place after old.multiplier room is answer.Idle refl acts.1 (λ m. refl)
  sends_goes answer.Blocked acts = same_at capacity old n place after old.multiplier room is answer.Blocked refl acts.2 (λ m. refl)
  sends_goes (answer.Sent port conn number bytes) acts = sent_goes port conn number bytes after.unit acts.0.1 acts.1 acts.2 acts.3 acts.5
  sends_goes _ acts = absurd acts

  inject_goes : (given : List ℕ) (a : Answer) → InjectActs n given place a after → GoesUp capacity old a (with_device old n after)
  inject_goes given answer.Blocked acts = same_at capacity old n place after old.multiplier room is answer.Blocked refl acts.1 (λ m. refl)
  inject_goes given (answer.Sent port conn number bytes) acts =
      sent_goes port conn number bytes place.unit acts.0.1 acts.1 acts.2 acts.3
      (acts.5 ∙ ap (λ (b : List ℕ). after_sending n place b place.unit) (sym acts.4))
  inject_goes given _ acts = absurd acts

  -- it takes a frame off its link down
  disk_take_rests : (a : Answer) → DiskTakeActs n place a after → GoesUp capacity old a (with_device old n after)
  disk_take_rests answer.Idle acts = same_at capacity old n place after old.multiplier room is answer.Idle refl acts.1 (λ m. refl)
  disk_take_rests (answer.DiskTook port dropped) acts =
      rests_at capacity old n place after old.multiplier room is (answer.DiskTook port dropped) refl (ap (λ (p : Place). p.up) acts.2) (ap (λ (p : Place). p.presence) acts.2) (λ m. refl)
  disk_take_rests _ acts = absurd acts

-- ---- the multiplier's port takes from its device, and gives to it

module _ (capacity : ℕ) (old : Places) (n : ℕ) (place after : Place) (left : PmState) (room : HaveRoomUp capacity old) (is : slice_get old.devices n ≡ Some place) where
  abbrev fits : HasRoomUp capacity place
  fits = rw is at (room.devices n)

  abbrev stepped : Places
  stepped = with_multiplier (with_device old n after) left

  presence_goes : (a : Answer) → n < length old.multiplier.ports → PmPresenceRule n place old.multiplier (Ok a) after left → GoesUp capacity old a stepped
  presence_goes answer.Idle there acts = same_at capacity old n place after left room is answer.Idle refl acts.1 (same_held acts.2)
  presence_goes (answer.Presence p) there acts =
      let up : after.up ≡ place.up = ap (λ (q : Place). q.up) acts.1 in
      let size : after.presence.capacity ≡ place.presence.capacity = ap (λ (q : Place). q.presence.capacity) acts.1 in
      let within : length after.presence.changes ≤ capacity = omega (arith, ap length acts.2.1, fits.presence_within) in
      let r : RecordedAt old.multiplier n left = subst (λ (pm : PmState). RecordedAt old.multiplier n pm) (sym acts.2.2) (recorded_at old.multiplier n acts.2.0 there) in
      goes_at capacity old n place after left room is (answer.Presence p) (λ m other. ap (λ (q : PortState). q.up) (r.others m other))
      (λ m other. record { entered = refl; left = refl; changed = refl; recorded = ne_eqb p m (λ e. other (sym e ∙ acts.0)) }) refl refl
      (record {
        passes = record {
          passed = [];
          left = r.up.left;
          risen = [];
          lost = r.up.left;
          recorded = acts.2.0 ∷ [];
          link = rw up (still capacity place.up.frames fits.up_within);
          passed_is = refl;
          hold = r.up.hold;
          goes_on = r.up.goes_on;
          presence = record { whole = sym acts.2.1 ∙ sym (append-nil place.presence.changes); bounded = within };
          recorded_is = rw (eq-eqb p n acts.0) refl;
        };
        rises = λ no. refl;
      })
      (record {
        up = ap (λ (q : Queue). q.capacity) up ∙ fits.up;
        up_within = rw up fits.up_within;
        presence = size ∙ fits.presence;
        presence_within = within;
      })
  presence_goes _ there acts = absurd acts

  -- a frame enters the place of the port
  module _ (frame : Stamped) (p : ℕ) (there : n < length old.multiplier.ports) (port_is : p ≡ n) (first : place.up.frames ≡ frame ∷ after.up.frames)
      (after_is : after ≡ record place { up = record place.up { frames = after.up.frames } })
      (empty : (port_at old.multiplier n).up ≡ None) (left_is : left ≡ record old.multiplier { ports = slice_set old.multiplier.ports n (with_up (port_at old.multiplier n) (Some (stamped n frame))); given = None }) where
    abbrev holding : PortState
    holding = with_up (port_at old.multiplier n) (Some (stamped n frame))

    held_now : (port_at left n).up ≡ Some (stamped n frame)
    held_now = ap (λ (q : PmState). (port_at q n).up) left_is ∙ ap (λ (q : PortState). q.up) (this_port old.multiplier.ports n holding there)

    enters : GoesUp capacity old (answer.Offered p false) stepped
    enters =
        let presence : after.presence ≡ place.presence = ap (λ (q : Place). q.presence) after_is in
        let size : after.up.capacity ≡ place.up.capacity = ap (λ (q : Place). q.up.capacity) after_is in
        let within : length after.up.frames ≤ capacity = omega (arith, ap length first, fits.up_within) in
        goes_at capacity old n place after left room is (answer.Offered p false)
        (λ m other. ap (λ (q : PmState). (port_at q m).up) left_is ∙ ap (λ (q : PortState). q.up) (other_port old.multiplier.ports n m holding other))
        (λ m other. record { entered = refl; left = ne_eqb p m (λ e. other (sym e ∙ port_is)); changed = refl; recorded = refl }) refl refl
        (record {
          passes = record {
            passed = frame ∷ [];
            left = [];
            risen = [];
            lost = [];
            recorded = [];
            link = record { whole = sym first ∙ sym (append-nil place.up.frames); bounded = within };
            passed_is = rw (eq-eqb p n port_is) refl;
            hold = record { whole = rw (held_now, empty, eq-eqb p n port_is) refl; bounded = option_fits (port_at left n).up };
            goes_on = nothing_left left n;
            presence = rw presence (still capacity place.presence.changes fits.presence_within);
            recorded_is = refl;
          };
          rises = λ no. refl;
        })
        (record {
          up = size ∙ fits.up;
          up_within = within;
          presence = ap (λ (q : Changes). q.capacity) presence ∙ fits.presence;
          presence_within = rw presence fits.presence_within;
        })

  -- a frame of a connection that is gone is dropped when it is offered
  module _ (frame : Stamped) (p : ℕ) (port_is : p ≡ n) (first : place.up.frames ≡ frame ∷ after.up.frames)
      (after_is : after ≡ record place { up = record place.up { frames = after.up.frames } }) (left_is : left ≡ old.multiplier) where
    still_held : held n left ≡ held n old.multiplier
    still_held = ap (λ (q : PmState). held n q) left_is

    drops : GoesUp capacity old (answer.Offered p true) stepped
    drops =
        let presence : after.presence ≡ place.presence = ap (λ (q : Place). q.presence) after_is in
        let size : after.up.capacity ≡ place.up.capacity = ap (λ (q : Place). q.up.capacity) after_is in
        let within : length after.up.frames ≤ capacity = omega (arith, ap length first, fits.up_within) in
        goes_at capacity old n place after left room is (answer.Offered p true) (λ m other. ap (λ (q : PmState). (port_at q m).up) left_is)
        (λ m other. record { entered = refl; left = ne_eqb p m (λ e. other (sym e ∙ port_is)); changed = refl; recorded = refl }) refl refl
        (record {
          passes = record {
            passed = frame ∷ [];
            left = [];
            risen = [];
            lost = [];
            recorded = [];
            link = record { whole = sym first ∙ sym (append-nil place.up.frames); bounded = within };
            passed_is = rw (eq-eqb p n port_is) refl;
            hold =
                rw (eq-eqb p n port_is)
                (subst (λ (held_now : List Stamped). IsLink 1 (held n old.multiplier ++ []) [] held_now) (sym still_held) (still 1 (held n old.multiplier) (option_fits (port_at old.multiplier n).up)));
            goes_on = nothing_left left n;
            presence = rw presence (still capacity place.presence.changes fits.presence_within);
            recorded_is = refl;
          };
          rises = λ no. refl;
        })
        (record {
          up = size ∙ fits.up;
          up_within = within;
          presence = ap (λ (q : Changes). q.capacity) presence ∙ fits.presence;
          presence_within = rw presence fits.presence_within;
        })

  from_device_goes : (a : Answer) → n < length old.multiplier.ports → PmFromDeviceRule n place old.multiplier (Ok a) after left → GoesUp capacity old a stepped
  from_device_goes answer.Idle there acts = same_at capacity old n place after left room is answer.Idle refl acts.1 (same_held acts.2)
  from_device_goes answer.Blocked there acts = same_at capacity old n place after left room is answer.Blocked refl acts.2 (same_held acts.3)
  from_device_goes (answer.Offered p true) there acts = drops acts.2.0 p acts.0 acts.2.1 acts.1 acts.2.2.1
  from_device_goes (answer.Offered p false) there acts = enters acts.2.0 p there acts.0 acts.2.1 acts.1 acts.2.2.1 acts.2.2.2
  from_device_goes _ there acts = absurd acts

  -- a frame on its way down passes by
  down_rests : (a : Answer) → PmDownRule n place old.multiplier (Ok a) after left → GoesUp capacity old a stepped
  down_rests answer.Idle acts = same_at capacity old n place after left room is answer.Idle refl acts.2 (same_held acts.3)
  down_rests answer.Blocked acts = same_at capacity old n place after left room is answer.Blocked refl acts.1 (same_held acts.2)
  down_rests (answer.Down port) acts =
      rests_at capacity old n place after left room is (answer.Down port) refl (ap (λ (p : Place). p.up) acts.2.2) (ap (λ (p : Place). p.presence) acts.2.2)
      (λ m. ap (λ (q : PmState). (port_at q m).up) acts.2.1.1 ∙ kept_part (λ (q : PortState). q.up) old.multiplier.ports n (with_down (port_at old.multiplier n) None) refl m)
  down_rests _ acts = absurd acts

-- ---- the frame of the place that is served next goes up

module _ (capacity : ℕ) (old : Places) (left : PmState) (upward : Queue) (n : ℕ) (frame : Stamped) (room : HaveRoomUp capacity old) (port_is : frame.stamp.port ≡ n) (free : ¬ IsFull old.upward) (upward_is : upward ≡ pushed old.upward frame) where
  abbrev risen_to : Places
  risen_to = with_upward (with_multiplier old left) upward

  more : upward.frames ≡ old.upward.frames ++ frame ∷ []
  more = ap (λ (q : Queue). q.frames) upward_is

  within : length upward.frames ≤ capacity
  within = omega (arith, ap length more, length-append old.upward.frames (frame ∷ []), free, room.upward, room.upward_within)

  rises_by : ((m : ℕ) → PortStep capacity m (slice_get old.devices m) (held m old.multiplier) (answer.Up n) (slice_get old.devices m) left (frame ∷ [])) → GoesUp capacity old (answer.Up n) risen_to
  rises_by at_port = record {
    ports = λ m. (at_port m).passes;
    host = record {
      rose = frame ∷ [];
      took = [];
      link = record { whole = more; bounded = within };
      rose_is = rw port_is refl;
      took_is = refl;
    };
    rises = λ m. (at_port m).rises;
    room = record { devices = room.devices; upward = ap (λ (q : Queue). q.capacity) upward_is ∙ room.upward; upward_within = within };
  }

  -- the other places stay, and the frame is not of any of their ports
  stays_at : (m : ℕ) → (port_at left m).up ≡ (port_at old.multiplier m).up → (m ≢ control_port → frame.stamp.port ≢ m)
      → PortStep capacity m (slice_get old.devices m) (held m old.multiplier) (answer.Up n) (slice_get old.devices m) left (frame ∷ [])
  stays_at m same other =
      quiet capacity m (slice_get old.devices m) (slice_get old.devices m) (held m old.multiplier) left (answer.Up n) (frame ∷ []) (room.devices m) (option_fits (port_at old.multiplier m).up)
      (keeps_same (slice_get old.devices m)) (ap option_to_list same) (record { entered = refl; left = refl; changed = refl; recorded = refl })
      (λ no. rw (ne_eqb frame.stamp.port m (other no)) refl)

  -- it is of the control port
  control_rises : left.ports ≡ old.multiplier.ports → frame.stamp.port ≡ control_port → GoesUp capacity old (answer.Up n) risen_to
  control_rises ports control =
      rises_by (λ m. stays_at m (ap (λ (l : List PortState). (at l m).up) ports) (λ no e. no (sym e ∙ control)))

  -- it is of a device's port
  module _ (place : ℕ) (was : Stamped) (was_is : (port_at old.multiplier place).up ≡ Some was) (frame_is : frame ≡ rising place was)
      (ports : left.ports ≡ slice_set old.multiplier.ports place (with_up (port_at old.multiplier place) None)) where
    abbrev low : PortState
    low = with_up (port_at old.multiplier place) None

    held_none : (port_at left place).up ≡ None
    held_none =
        ap (λ (l : List PortState). (at l place).up) ports
        ∙ ap (λ (q : PortState). q.up) (this_port old.multiplier.ports place low (has_up old.multiplier.ports place was was_is))

    here : PortStep capacity place (slice_get old.devices place) (held place old.multiplier) (answer.Up n) (slice_get old.devices place) left (frame ∷ [])
    here = record {
      passes = record {
        passed = [];
        left = was ∷ [];
        risen = was ∷ [];
        lost = [];
        recorded = [];
        link = still capacity (on_link (slice_get old.devices place)) (link_fits capacity (slice_get old.devices place) (room.devices place));
        passed_is = refl;
        hold = record { whole = rw (held_none, was_is) refl; bounded = option_fits (port_at left place).up };
        goes_on = one_goes_on left place was;
        presence = still capacity (on_presence (slice_get old.devices place)) (presence_fits capacity (slice_get old.devices place) (room.devices place));
        recorded_is = refl;
      };
      rises = λ no. rw (frame_is, eq-eqb place place refl) refl;
    }

    port_rises : GoesUp capacity old (answer.Up n) risen_to
    port_rises = rises_by (λ m.
        elim (cases_eq m place) [
          | inl e ↦ rw e here
          | inr other ↦
              stays_at m (ap (λ (l : List PortState). (at l m).up) ports ∙ ap (λ (q : PortState). q.up) (other_port old.multiplier.ports place m low other))
              (λ no e. other (sym e ∙ ap (λ (f : Stamped). f.stamp.port) frame_is))
        ])

  given_rises : IsOrderly old → Gives old.multiplier frame left → GoesUp capacity old (answer.Up n) risen_to
  given_rises orderly (FromPort place was at other is stamp up e) =
      port_rises place was (gives_held _ (port_at old.multiplier place).present (port_at old.multiplier place).up was is) up (ap (λ (q : PmState). q.ports) e)
  given_rises orderly (Notice at due is e) = control_rises (ap (λ (q : PmState). q.ports) e) (ap (λ s. s.port) is.1)
  given_rises orderly (Answers at is e) = control_rises (ap (λ (q : PmState). q.ports) e) (orderly.answer frame is)

up_goes : (capacity : ℕ) (old : Places) (left : PmState) (upward : Queue) (a : Answer) → HaveRoomUp capacity old → IsOrderly old → PmUpRule old.multiplier old.upward (Ok a) left upward
    → GoesUp capacity old a (with_upward (with_multiplier old left) upward)
up_goes capacity old left upward answer.Idle room orderly acts =
    rests_all capacity old answer.Idle (with_upward (with_multiplier old left) upward) room refl acts.3 refl (same_held acts.2)
up_goes capacity old left upward answer.Blocked room orderly acts =
    rests_all capacity old answer.Blocked (with_upward (with_multiplier old left) upward) room refl acts.2 refl (same_held acts.1)
up_goes capacity old left upward (answer.Up n) room orderly acts =
    given_rises capacity old left upward n acts.1.0 room acts.1.1 acts.0 acts.1.3 orderly (gives old.multiplier acts.1.0 left acts.1.2)
up_goes capacity old left upward _ room orderly acts = absurd acts

-- ---- the host takes a frame

take_goes : (capacity : ℕ) (old : Places) (a : Answer) (upward : Queue) (host : Host) → HaveRoomUp capacity old → HostTakeRule old.upward old.host (Ok a) upward host
    → GoesUp capacity old a (with_host (with_upward old upward) host)
take_goes capacity old answer.Idle upward host room acts =
    rests_all capacity old answer.Idle (with_host (with_upward old upward) host) room refl acts.1 refl (λ m. refl)
take_goes capacity old (answer.Took port conn number bytes report) upward host room acts = record {
  ports = λ n. (at_port n).passes;
  host = record {
    rose = [];
    took = acts.0.0 ∷ [];
    link = record { whole = sym acts.0.1 ∙ sym (append-nil old.upward.frames); bounded = within };
    rose_is = refl;
    took_is = ap (λ (f : Stamped). f ∷ []) same;
  };
  rises = λ n. (at_port n).rises;
  room = record { devices = room.devices; upward = acts.1 ∙ room.upward; upward_within = within };
}
  where
    within : length upward.frames ≤ capacity
    within = omega (arith, ap length acts.0.1, room.upward_within)

    told : IsTold acts.0.0 port conn number bytes
    told = acts.0.2

    same : told_of acts.0.0 ≡ told_frame port conn number bytes
    same = rw (told.port_is, told.conn_is, told.number_is, told.bytes_are) refl

    at_port : (n : ℕ) → PortStep capacity n (slice_get old.devices n) (held n old.multiplier) (answer.Took port conn number bytes report) (slice_get old.devices n) old.multiplier []
    at_port n =
        quiet capacity n (slice_get old.devices n) (slice_get old.devices n) (held n old.multiplier) old.multiplier (answer.Took port conn number bytes report) [] (room.devices n)
        (option_fits (port_at old.multiplier n).up) (keeps_same (slice_get old.devices n)) refl (record { entered = refl; left = refl; changed = refl; recorded = refl }) (λ no. refl)
take_goes capacity old _ upward host room acts = absurd acts

-- ---- the steps that move nothing up

went_rests : (old : PmState) (p : Passed) (new : PmState) → Went old p new → KeepsHeld old new
went_rests old (passed.Down m) new w = λ n.
    ap (λ (l : List PortState). (at l n).up) w.new_is ∙ kept_part (λ (q : PortState). q.up) old.ports m (with_down (port_at old m) (Some w.frame)) refl n
went_rests old other new w = λ n. ap (λ (l : List PortState). (at l n).up) w

from_host_rests : (pm : PmState) (downward : Queue) (a : Answer) (left : PmState) (new : Queue) → PmFromHostRule downward pm (Ok a) new left → (tells_up a ≡ false) × KeepsHeld pm left
from_host_rests pm downward answer.Idle left new acts = (refl, same_held acts.2)
from_host_rests pm downward answer.Blocked left new acts = (refl, same_held acts.2)
from_host_rests pm downward (answer.Passed p) left new acts = (refl, went_rests pm p left (went pm acts.0.0 left p acts.0.2))
from_host_rests pm downward _ left new acts = absurd acts

push_rests : (host : Host) (link : Queue) (a : Answer) (after : Host) (new : Queue) → HostPushRule host link (Ok a) after new → tells_up a ≡ false
push_rests host link answer.Idle after new acts = refl
push_rests host link answer.Blocked after new acts = refl
push_rests host link answer.Pushed after new acts = refl
push_rests host link _ after new acts = absurd acts

tick_rests : (host : Host) (a : Answer) (after : Host) → TickRule host (Ok a) after → tells_up a ≡ false
tick_rests host answer.Idle after acts = refl
tick_rests host answer.Ticked after acts = refl
tick_rests host _ after acts = absurd acts

submit_rests : (dev : ℕ) (request : Request) (host : Host) (a : Answer) (after : Host) → SubmitRule dev request host (Ok a) after → tells_up a ≡ false
submit_rests dev request host (answer.Refused e) after acts = refl
submit_rests dev request host (answer.Submitted ticket) after acts = refl
submit_rests dev request host _ after acts = absurd acts

poll_rests : (host : Host) (a : Answer) (after : Host) → PollRule host (Ok a) after → tells_up a ≡ false
poll_rests host answer.Idle after acts = refl
poll_rests host (answer.Polled completion) after acts = refl
poll_rests host _ after acts = absurd acts

put_rests : (at : ℕ) (bytes : List ℕ) (host : Host) (a : Answer) (after : Host) → PutRule at bytes host (Ok a) after → tells_up a ≡ false
put_rests at bytes host answer.Put after acts = refl
put_rests at bytes host _ after acts = absurd acts

-- ---- each step

module _ (capacity : ℕ) (old : Places) (a : Answer) (new : Places) (room : HaveRoomUp capacity old) (orderly : IsOrderly old) where
  pub rule_goes_up : (s : Step) → Rule old s (Ok a) new → GoesUp capacity old a new
  rule_goes_up (step.Came n) rule =
      let p = at_device old n a new (CameRule n) rule in
      rw p.new_is (came_goes capacity old n p.place p.after room p.is a p.rule.1)
  rule_goes_up (step.Gone n) rule =
      let p = at_device old n a new (GoneRule n) rule in
      rw p.new_is (gone_goes capacity old n p.place p.after room p.is a p.rule.1)
  rule_goes_up (step.DiskSend n) rule =
      let p = at_device old n a new (DiskSendRule n) rule in
      rw p.new_is (sends_goes capacity old n p.place p.after room p.is a p.rule.1)
  rule_goes_up (step.Inject n bytes) rule =
      let p = at_device old n a new (InjectRule n bytes) rule in
      rw p.new_is (inject_goes capacity old n p.place p.after room p.is bytes a p.rule.1)
  rule_goes_up (step.DiskTake n) rule =
      let p = at_device old n a new (DiskTakeRule n) rule in
      rw p.new_is (disk_take_rests capacity old n p.place p.after room p.is a p.rule)
  rule_goes_up (step.PmPresence n) rule =
      let p = at_both old n a new (PmPresenceRule n) rule in
      let below : n < length old.devices = slice_get_within old.devices n p.place p.is in
      let most : length old.devices ≤ 15 = orderly.most in
      let count : length old.multiplier.ports ≡ 15 = orderly.room in
      rw p.new_is (presence_goes capacity old n p.place p.after p.left room p.is a (omega arith) p.rule)
  rule_goes_up (step.PmFromDevice n) rule =
      let p = at_both old n a new (PmFromDeviceRule n) rule in
      let below : n < length old.devices = slice_get_within old.devices n p.place p.is in
      let most : length old.devices ≤ 15 = orderly.most in
      let count : length old.multiplier.ports ≡ 15 = orderly.room in
      rw p.new_is (from_device_goes capacity old n p.place p.after p.left room p.is a (omega arith) p.rule)
  rule_goes_up (step.PmDown n) rule =
      let p = at_both old n a new (PmDownRule n) rule in
      rw p.new_is (down_rests capacity old n p.place p.after p.left room p.is a p.rule)
  rule_goes_up step.PmFromHost rule =
      let r = from_host_rests old.multiplier old.downward a new.multiplier new.downward rule.0 in
      rests_all capacity old a new room r.0 (ap (λ (w : Places). w.upward) rule.1) (ap (λ (w : Places). w.devices) rule.1) r.1
  rule_goes_up step.PmUp rule = rw rule.1 (up_goes capacity old new.multiplier new.upward a room orderly rule.0)
  rule_goes_up step.HostTake rule = rw rule.1 (take_goes capacity old a new.upward new.host room rule.0)
  rule_goes_up step.HostPush rule =
      rests_all capacity old a new room (push_rests old.host old.downward a new.host new.downward rule.0)
      (ap (λ (w : Places). w.upward) rule.1) (ap (λ (w : Places). w.devices) rule.1) (same_held (ap (λ (w : Places). w.multiplier) rule.1))
  rule_goes_up step.Tick rule =
      rests_all capacity old a new room (tick_rests old.host a new.host rule.0)
      (ap (λ (w : Places). w.upward) rule.1) (ap (λ (w : Places). w.devices) rule.1) (same_held (ap (λ (w : Places). w.multiplier) rule.1))
  rule_goes_up (step.Submit dev request) rule =
      rests_all capacity old a new room (submit_rests dev request old.host a new.host rule.0)
      (ap (λ (w : Places). w.upward) rule.1) (ap (λ (w : Places). w.devices) rule.1) (same_held (ap (λ (w : Places). w.multiplier) rule.1))
  rule_goes_up step.Poll rule =
      rests_all capacity old a new room (poll_rests old.host a new.host rule.0)
      (ap (λ (w : Places). w.upward) rule.1) (ap (λ (w : Places). w.devices) rule.1) (same_held (ap (λ (w : Places). w.multiplier) rule.1))
  rule_goes_up (step.Put at bytes) rule =
      rests_all capacity old a new room (put_rests at bytes old.host a new.host rule.0)
      (ap (λ (w : Places). w.upward) rule.1) (ap (λ (w : Places). w.devices) rule.1) (same_held (ap (λ (w : Places). w.multiplier) rule.1))

-- ---- steps after one another

-- each frame that was offered was dropped or not
dropped_or_not : (n : ℕ) (a : Answer) (answers : List Answer) → length (flat_map (dropped_by n) answers) ≡ times (is_offered n) answers
    → length (dropped_by n a ++ flat_map (dropped_by n) answers) ≡ length (cond (is_offered n a) (a ∷ filter (is_offered n) answers) (filter (is_offered n) answers))
dropped_or_not n (answer.Offered port dropped) answers rest = by_test (port == n)
  where
    by_test : (b : Bool) → length ((if b then dropped ∷ [] else []) ++ flat_map (dropped_by n) answers) ≡ length (cond b (answer.Offered port dropped ∷ filter (is_offered n) answers) (filter (is_offered n) answers))
    by_test true = ap suc rest
    by_test false = rest
dropped_or_not n _ answers rest = rest

each_offered : (n : ℕ) (answers : List Answer) → length (flat_map (dropped_by n) answers) ≡ times (is_offered n) answers
each_offered n [] = refl
each_offered n (a ∷ answers) = dropped_or_not n a answers (each_offered n answers)

module _ (capacity n : ℕ) (was mid now : Option Place) (held_was : List Stamped) (pm_mid pm_now : PmState) (first second : List Answer) (p : PortPasses capacity n was held_was first mid pm_mid)
    (q : PortPasses capacity n mid (held n pm_mid) second now pm_now) (stays : StillGone n pm_mid pm_now) where
  -- what entered the place of the port
  abbrev pub entered_first : List Stamped
  entered_first = map (stamped n) (without (flat_map (dropped_by n) first) p.passed)

  abbrev pub entered_second : List Stamped
  entered_second = map (stamped n) (without (flat_map (dropped_by n) second) q.passed)

  pub entered_both : map (stamped n) (without (flat_map (dropped_by n) (first ++ second)) (p.passed ++ q.passed)) ≡ entered_first ++ entered_second
  entered_both =
      ap (λ (drops : List Bool). map (stamped n) (without drops (p.passed ++ q.passed))) (flat_map-append (dropped_by n) first second)
      ∙ ap (map (stamped n)) (without-append (flat_map (dropped_by n) first) (flat_map (dropped_by n) second) p.passed q.passed (each_offered n first ∙ sym p.passed_is))
      ∙ map-append (stamped n) (without (flat_map (dropped_by n) first) p.passed) (without (flat_map (dropped_by n) second) q.passed)

  abbrev pub port_up-append : PortPasses capacity n was held_was (first ++ second) now pm_now
  port_up-append = record {
    passed = p.passed ++ q.passed;
    left = p.left ++ q.left;
    risen = p.risen ++ q.risen;
    lost = p.lost ++ q.lost;
    recorded = p.recorded ++ q.recorded;
    link =
        rw (flat_map-append (entered_by n) first second)
        (chained capacity (on_link was) (flat_map (entered_by n) first) p.passed (on_link mid) (flat_map (entered_by n) second) q.passed (on_link now) p.link q.link);
    passed_is = rw (length-append p.passed q.passed, times-append (is_offered n) first second, p.passed_is, q.passed_is) refl;
    hold =
        subst (λ (entered : List Stamped). IsLink 1 (held_was ++ entered) (p.left ++ q.left) (held n pm_now)) (sym entered_both)
        (chained 1 held_was entered_first p.left (held n pm_mid) entered_second q.left (held n pm_now) p.hold q.hold);
    goes_on = goes_on-append pm_mid pm_now n p.left p.risen p.lost q.left q.risen q.lost p.goes_on q.goes_on stays;
    presence =
        rw (flat_map-append (changed_by n) first second)
        (chained capacity (on_presence was) (flat_map (changed_by n) first) p.recorded (on_presence mid) (flat_map (changed_by n) second) q.recorded (on_presence now) p.presence q.presence);
    recorded_is = rw (length-append p.recorded q.recorded, times-append (is_recorded n) first second, p.recorded_is, q.recorded_is) refl;
  }

module _ (capacity : ℕ) (was mid now : List Stamped) (first second : List Answer) (p : HostPasses capacity was first mid) (q : HostPasses capacity mid second now) where
  abbrev pub host_up-append : HostPasses capacity was (first ++ second) now
  host_up-append = record {
    rose = p.rose ++ q.rose;
    took = p.took ++ q.took;
    link = chained capacity was p.rose p.took mid q.rose q.took now p.link q.link;
    rose_is = rw (map-append (λ (f : Stamped). f.stamp.port) p.rose q.rose, flat_map-append rose_by first second, p.rose_is, q.rose_is) refl;
    took_is = rw (map-append told_of p.took q.took, flat_map-append took_by first second, p.took_is, q.took_is) refl;
  }
