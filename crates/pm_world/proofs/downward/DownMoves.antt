-- For the field `nothing_lost_down` of `laws`. What a step does to the frames on their way down, whatever else it does.
use Rattle.std.proofs.Common.{◌≡◌, ◌≢◌, ℕ, zero, suc, ◌<◌, ◌≤◌, Bool, true, false, not, List, [], ◌∷◌, ◌++◌, length, Option, Some, None, refl, sym, ap, subst, ◌∙◌, append_assoc, append-nil, inl, inr, get_or, set, get_or-set_other, arith}
use Rattle.std.specs.Prelude.{slice_get, option_to_list, is_none, ◌==◌, ◌⊎◌, if◌then◌else◌, Ok, MatchOption, MatchBool}
use Rattle.std.proofs.lemmas.{Bool.cases_eq, Option.{same_Some, slice_get_within}}
use Rattle.fis_view.specs.Frames.{Stamped}
use Rattle.pm_ports.specs.Port.{PortState, came_refusal as port_came_refusal, empty_port, gone_refusal as port_gone_refusal, is_gone, is_up_to}
use Rattle.pm_ports.specs.Port.{left_in, only_if, with_down, with_removal}
use Rattle.multiplier.specs.{Arbiter.control_port, Rules.{FromDeviceRule, FromHostRule, NextUpRule, with_device as connected, without_device}}
use Rattle.multiplier.specs.{Passing.lost_from, State.{PmState, falling, held, next_place, passes_to, pm_port, port_at, with_port}}
use Rattle.multiplier.specs.declared.multiplier.Passed.{Passed}
use Rattle.multiplier.proofs.Door.{left_is as stayed, other_port, this_port}
use Rattle.multiplier.specs.declared.multiplier.Passed.TheVariants as passed
use Rattle.hba_driver.specs.{HostTurns.Host, declared.request.Request.Request}
use Rattle.pm_world.specs.Places.{IsOrderly, Places, Place, Queue, with_device, with_multiplier}
use Rattle.pm_world.specs.Rules.{CameActs, CameRule, DiskSendActs, DiskSendRule, DiskTakeRule, GoneActs, GoneRule, HostPushRule, HostTakeRule}
use Rattle.pm_world.specs.Rules.{InjectActs, InjectRule, OnDevice, Outcome, PmDownRule, PmFromDeviceRule, PmFromHostRule, PmPresenceRule, PmUpRule}
use Rattle.pm_world.specs.{Rules.{PollRule, PutRule, Rule, SubmitRule, TickRule, offered, recorded}, Downward.{falling_to, on_down_link}}
use Rattle.pm_world.specs.{Traffic.is_removed, declared.{link.Change.Change, step.Step.Step, step.Answer.Answer}}
use Rattle.pm_world.specs.declared.link.Change.TheVariants as change
use Rattle.pm_world.specs.declared.step.Step.TheVariants as step
use Rattle.pm_world.specs.declared.step.Answer.TheVariants as answer
use Rattle.pm_world.proofs.steps.{Lists.{slice_get-set_same, slice_get-set_other}, Steps.{at_both, at_device}}

-- ---- what may move

-- The frame that waits at port n for its device waited there before, or was passed down to the connection to which the
-- port passes frames.
abbrev pub MayWait : ℕ → PmState → PmState → Type 0
MayWait n old new = (frame : Stamped) → (port_at new n).down ≡ Some frame → ((port_at old n).down ≡ Some frame) ⊎ (passes_to old n ≡ Some frame.stamp.conn)

-- no frame moves
pub record Rests (old new : Places) : Type 0 where
  pub link : new.downward.frames ≡ old.downward.frames
  pub falls : (m : ℕ) → falling_to m new ≡ falling_to m old
  pub waits : (m : ℕ) → MayWait m old.multiplier new.multiplier

-- what waits at port n for its device is dropped, if it is, because the removal of its connection is
-- recorded
pub record Loses (n : ℕ) (old new : Places) : Type 0 where
  pub link : new.downward.frames ≡ old.downward.frames
  pub here : falling_to n new ++ option_to_list (lost_from (port_at old.multiplier n).down (port_at new.multiplier n).down) ≡ falling_to n old
  pub elsewhere : (m : ℕ) → m ≢ n → falling_to m new ≡ falling_to m old
  pub removed : (frame : Stamped) → lost_from (port_at old.multiplier n).down (port_at new.multiplier n).down ≡ Some frame → is_removed n frame.stamp.conn new ≡ true
  pub waits : (m : ℕ) → MayWait m old.multiplier new.multiplier

-- a frame enters the host's link, as the last one
pub record Starts (frame : Stamped) (old new : Places) : Type 0 where
  pub link : new.downward.frames ≡ old.downward.frames ++ frame ∷ []
  pub falls : (m : ℕ) → falling_to m new ≡ falling_to m old
  pub waits : (m : ℕ) → MayWait m old.multiplier new.multiplier

-- the first frame of the host's link comes to wait for the device at a port that passes it on, last
pub record Goes (n : ℕ) (frame : Stamped) (old new : Places) : Type 0 where
  pub conn : ℕ
  pub link : old.downward.frames ≡ frame ∷ new.downward.frames
  pub passes : passes_to old.multiplier n ≡ Some conn
  pub here : falling_to n new ≡ falling_to n old ++ falling conn frame ∷ []
  pub elsewhere : (m : ℕ) → m ≢ n → falling_to m new ≡ falling_to m old
  pub waits : (m : ℕ) → MayWait m old.multiplier new.multiplier

-- the first frame of the host's link goes to no device
pub record Ends (frame : Stamped) (old new : Places) : Type 0 where
  pub link : old.downward.frames ≡ frame ∷ new.downward.frames
  pub falls : (m : ℕ) → falling_to m new ≡ falling_to m old
  pub waits : (m : ℕ) → MayWait m old.multiplier new.multiplier

-- the first frame of a device's link is taken
pub record Lands (n : ℕ) (frame : Stamped) (old new : Places) : Type 0 where
  pub rest : List Stamped
  pub link : new.downward.frames ≡ old.downward.frames
  pub first : on_down_link (slice_get old.devices n) ≡ frame ∷ rest
  pub here : falling_to n old ≡ frame ∷ falling_to n new
  pub elsewhere : (m : ℕ) → m ≢ n → falling_to m new ≡ falling_to m old
  pub waits : (m : ℕ) → MayWait m old.multiplier new.multiplier

-- the move that an answer tells
abbrev pub MovesDown : Places → Answer → Places → Type 0
MovesDown old answer.Pushed new = (frame : Stamped) × Starts frame old new
MovesDown old (answer.Passed (passed.Down n)) new = (frame : Stamped) × Goes n frame old new
MovesDown old (answer.Passed p) new = (frame : Stamped) × Ends frame old new
MovesDown old (answer.DiskTook n dropped) new = (frame : Stamped) × Lands n frame old new
MovesDown old (answer.Presence n) new = Loses n old new
MovesDown old a new = Rests old new

-- ---- ports

-- a port that is unlike the empty one is there, and is as it was written
written : (Is : PortState → Type 0) → ¬ Is empty_port → (ports : List PortState) (n : ℕ) (p : PortState) → Is (get_or ports n empty_port) → get_or (set ports n p) n empty_port ≡ p
written Is not [] n p is = absurd (not is)
written Is not (q ∷ ports) zero p is = refl
written Is not (q ∷ ports) (suc n) p is = written Is not ports n p is

-- if a port is written that keeps its frame on the way down, each port does
keep_down : (ports : List PortState) (n : ℕ) (p : PortState) → p.down ≡ (get_or ports n empty_port).down → (m : ℕ) → (get_or (set ports n p) m empty_port).down ≡ (get_or ports m empty_port).down
keep_down [] n p same m = refl
keep_down (q ∷ ports) zero p same zero = same
keep_down (q ∷ ports) zero p same (suc m) = refl
keep_down (q ∷ ports) (suc n) p same zero = refl
keep_down (q ∷ ports) (suc n) p same (suc m) = keep_down ports n p same m

-- each port of a multiplier keeps its frame on the way down
abbrev pub KeepsDown : PmState → PmState → Type 0
KeepsDown old new = (m : ℕ) → (port_at new m).down ≡ (port_at old m).down

same_down : (old new : PmState) → new ≡ old → KeepsDown old new
same_down old new e m = ap (λ (pm : PmState). (port_at pm m).down) e

-- so what waits there waited before
kept_waits : (old new : PmState) → KeepsDown old new → (m : ℕ) → MayWait m old new
kept_waits old new keeps m frame e = inl (sym (keeps m) ∙ e)

same_waits : (old new : PmState) → new ≡ old → (m : ℕ) → MayWait m old new
same_waits old new e = kept_waits old new (same_down old new e)

-- that holds if one port is written over, and what it has then waited there before, or was passed to
-- it
written_waits : (old new : PmState) (n : ℕ) (p : PortState) → new.ports ≡ set old.ports n p → ((frame : Stamped) → p.down ≡ Some frame → ((port_at old n).down ≡ Some frame) ⊎ (passes_to old n ≡ Some frame.stamp.conn)) → (m : ℕ) → MayWait m old new
written_waits old new n p now is m frame e =
    by_ports old.ports n p m (λ at here. subst (λ (k : ℕ). ((port_at old k).down ≡ Some frame) ⊎ (passes_to old k ≡ Some frame.stamp.conn)) (sym at) (is frame here)) (λ e. inl e)
    (sym (ap (λ (ports : List PortState). (get_or ports m empty_port).down) now) ∙ e)
  where
    by_ports : {C : Type 0} → (ports : List PortState) (n : ℕ) (p : PortState) (m : ℕ) → (m ≡ n → p.down ≡ Some frame → C) → ((get_or ports m empty_port).down ≡ Some frame → C) → (get_or (set ports n p) m empty_port).down ≡ Some frame → C
    by_ports [] n p m here there e = there e
    by_ports (q ∷ ports) zero p zero here there e = here refl e
    by_ports (q ∷ ports) zero p (suc m) here there e = there e
    by_ports (q ∷ ports) (suc n) p zero here there e = there e
    by_ports (q ∷ ports) (suc n) p (suc m) here there e = by_ports ports n p m (λ same. here (ap suc same)) there e

came_down : (pm : PmState) (n conn : ℕ) → KeepsDown pm (recorded pm n (change.Came conn))
came_down pm n conn = by_test (is_none (port_came_refusal (port_at pm n) conn))
  where
    by_test : (b : Bool) → KeepsDown pm (if b then connected pm n conn else pm)
    by_test true m = keep_down pm.ports n _ refl m
    by_test false m = refl

-- nothing is lost from a place that keeps what it has
none_lost : (o : Option Stamped) → lost_from o o ≡ None
none_lost None = refl
none_lost (Some f) = refl

-- a removal parts what a place has into what stays and what is lost
parted : (highest : ℕ) (o : Option Stamped) → option_to_list (left_in highest o) ++ option_to_list (lost_from o (left_in highest o)) ≡ option_to_list o
parted highest None = refl
parted highest (Some f) = by_test (is_up_to highest f.stamp.conn)
  where
    by_test : (b : Bool) → option_to_list (only_if (not b) f) ++ option_to_list (lost_from (Some f) (only_if (not b) f)) ≡ f ∷ []
    by_test true = refl
    by_test false = refl

-- and what is lost is of a connection that is removed
lost_is_up_to : (highest : ℕ) (o : Option Stamped) (frame : Stamped) → lost_from o (left_in highest o) ≡ Some frame → is_up_to highest frame.stamp.conn ≡ true
lost_is_up_to highest None frame e = absurd (cc)
lost_is_up_to highest (Some f) frame e = by_test (is_up_to highest f.stamp.conn) refl e
  where
    by_test : (b : Bool) → is_up_to highest f.stamp.conn ≡ b → lost_from (Some f) (only_if (not b) f) ≡ Some frame → is_up_to highest frame.stamp.conn ≡ true
    by_test true so e = subst (λ (g : Stamped). is_up_to highest g.stamp.conn ≡ true) (same_Some f frame e) so
    by_test false so e = absurd (cc)

device_down : (pm : PmState) (n : ℕ) (frame : Stamped) (dropped : Bool) (after : PmState) → FromDeviceRule pm n frame (Ok (offered dropped)) after → KeepsDown pm after
device_down pm n frame true after rule m = same_down pm after rule.1 m
device_down pm n frame false after rule m = ap (λ (q : PmState). (port_at q m).down) rule.2 ∙ keep_down pm.ports n _ refl m

-- what follows from each side of a test, and of an option
either : {P Q C : Type 0} → (b : Bool) → (P → C) → (Q → C) → MatchBool b P Q → C
either true f g h = f h
either false f g h = g h

whichever : {T P C : Type 0} → {Q : T → Type 0} → (o : Option T) → (P → C) → ((x : T) → o ≡ Some x → Q x → C) → MatchOption o P Q → C
whichever None f g h = f h
whichever (Some x) f g h = g x refl h

up_down : (pm : PmState) (frame : Stamped) (after : PmState) → NextUpRule pm (Ok (Some frame)) after → KeepsDown pm after
up_down pm frame after rule m =
    whichever (next_place pm) (λ h. absurd h)
    (λ n is gives. either (n == control_port)
    (λ control. either pm.registers.due (λ g. same g.1) (λ g. same g.1) control)
    (λ port. whichever (held pm n) (λ h. absurd h) (λ was holds g. ap (λ (q : PmState). (port_at q m).down) g.2 ∙ keep_down pm.ports n _ refl m) port)
    gives)
    rule
  where
    same : {new : PmState} → after ≡ new → (port_at after m).down ≡ (port_at new m).down
    same e = ap (λ (q : PmState). (port_at q m).down) e

-- ---- a step of a device

module _ (old : Places) (n : ℕ) (place after : Place) (is : slice_get old.devices n ≡ Some place) where
  link_here : on_down_link (slice_get (with_device old n after).devices n) ≡ after.down.frames
  link_here = ap on_down_link (slice_get-set_same old.devices n place after is)

  link_was : on_down_link (slice_get old.devices n) ≡ place.down.frames
  link_was = ap on_down_link is

  link_elsewhere : (m : ℕ) → m ≢ n → on_down_link (slice_get (with_device old n after).devices m) ≡ on_down_link (slice_get old.devices m)
  link_elsewhere m other = ap on_down_link (slice_get-set_other old.devices n m after other)

  link_stays : after.down.frames ≡ place.down.frames → (m : ℕ) → on_down_link (slice_get (with_device old n after).devices m) ≡ on_down_link (slice_get old.devices m)
  link_stays same m =
      elim (cases_eq m n) [
        | inl e ↦ rw e (link_here ∙ same ∙ sym link_was)
        | inr other ↦ link_elsewhere m other
      ]

  -- nothing moves if the device's link and the ports keep what they have
  both_rest : (left : PmState) → after.down.frames ≡ place.down.frames → KeepsDown old.multiplier left → Rests old (with_multiplier (with_device old n after) left)
  both_rest left same keeps = record {
    link = refl;
    falls = λ m. ap (λ xs. xs ++ option_to_list (port_at left m).down) (link_stays same m) ∙ ap (λ o. on_down_link (slice_get old.devices m) ++ option_to_list o) (keeps m);
    waits = kept_waits old.multiplier left keeps;
  }

  device_rests : after.down.frames ≡ place.down.frames → Rests old (with_device old n after)
  device_rests same = both_rest old.multiplier same (λ m. refl)

same_link : {old new : Place} → new ≡ old → new.down.frames ≡ old.down.frames
same_link e = ap (λ (p : Place). p.down.frames) e

-- an answer that tells of no frame on its way down
abbrev pub IsQuiet : Answer → Type 0
IsQuiet answer.Pushed = ⊥
IsQuiet (answer.Passed p) = ⊥
IsQuiet (answer.DiskTook n dropped) = ⊥
IsQuiet (answer.Presence n) = ⊥
IsQuiet a = Unit {0}

quiet_rests : (old : Places) (a : Answer) (new : Places) → IsQuiet a → Rests old new → MovesDown old a new
quiet_rests old answer.Pushed new quiet rests = absurd quiet
quiet_rests old (answer.Passed p) new quiet rests = absurd quiet
quiet_rests old (answer.DiskTook n dropped) new quiet rests = absurd quiet
quiet_rests old (answer.Presence n) new quiet rests = absurd quiet
quiet_rests old a new quiet rests = rests

-- what a step leaves of a device's link, if its answer tells of no such frame
abbrev pub KeepsLink : Place → Answer → Place → Type 0
KeepsLink old a new = IsQuiet a × (new.down.frames ≡ old.down.frames)

came_keeps : (n : ℕ) (old : Place) (a : Answer) (new : Place) → CameActs n old a new → KeepsLink old a new
came_keeps n old answer.Blocked new acts = (tt, same_link acts.1)
came_keeps n old (answer.Came port conn) new acts = (tt, ap (λ (p : Place). p.down.frames) acts.3)
came_keeps n old _ new acts = absurd acts

gone_keeps : (n : ℕ) (old : Place) (a : Answer) (new : Place) → GoneActs n old a new → KeepsLink old a new
gone_keeps n old answer.Blocked new acts = (tt, same_link acts.1)
gone_keeps n old (answer.Gone port conn) new acts = (tt, ap (λ (p : Place). p.down.frames) acts.2)
gone_keeps n old _ new acts = absurd acts

send_keeps : (n : ℕ) (old : Place) (a : Answer) (new : Place) → DiskSendActs n old a new → KeepsLink old a new
send_keeps n old answer.Idle new acts = (tt, same_link acts.1)
send_keeps n old answer.Blocked new acts = (tt, same_link acts.2)
send_keeps n old (answer.Sent port conn number bytes) new acts = (tt, ap (λ (p : Place). p.down.frames) acts.5)
send_keeps n old _ new acts = absurd acts

inject_keeps : (n : ℕ) (given : List ℕ) (old : Place) (a : Answer) (new : Place) → InjectActs n given old a new → KeepsLink old a new
inject_keeps n given old answer.Blocked new acts = (tt, same_link acts.1)
inject_keeps n given old (answer.Sent port conn number bytes) new acts = (tt, ap (λ (p : Place). p.down.frames) acts.5)
inject_keeps n given old _ new acts = absurd acts

on_device : (old : Places) (n : ℕ) (a : Answer) (new : Places) (R : Place → Outcome → Place → Type 0) → ((place after : Place) → R place (Ok a) after → KeepsLink place a after) → OnDevice old n (Ok a) new R → MovesDown old a new
on_device old n a new R keeps h =
    let p = at_device old n a new R h in
    let k = keeps p.place p.after p.rule in
    rw p.new_is (quiet_rests old a (with_device old n p.after) k.0 (device_rests old n p.place p.after p.is k.1))

-- a device takes the first frame of its link
module _ (old : Places) (n : ℕ) (place after : Place) (is : slice_get old.devices n ≡ Some place) where
  take_moves : (a : Answer) → DiskTakeRule n place (Ok a) after → MovesDown old a (with_device old n after)
  take_moves answer.Idle acts = device_rests old n place after is (same_link acts.1)
  take_moves (answer.DiskTook p dropped) acts =
      let frame = acts.1.0 in
      let first : on_down_link (slice_get old.devices n) ≡ frame ∷ after.down.frames = link_was old n place after is ∙ acts.1.1 in
      let waits = option_to_list (port_at old.multiplier n).down in
      let lands : Lands n frame old (with_device old n after) = record {
        rest = after.down.frames;
        link = refl;
        first = first;
        here = ap (λ xs. xs ++ waits) first ∙ ap (λ (xs : List Stamped). frame ∷ xs ++ waits) (sym (link_here old n place after is));
        elsewhere = λ m other. ap (λ xs. xs ++ option_to_list (port_at old.multiplier m).down) (link_elsewhere old n place after is m other);
        waits = same_waits old.multiplier old.multiplier refl;
      } in
      (frame, rw acts.0 lands)
  take_moves _ acts = absurd acts

-- ---- a step of a device and the multiplier

module _ (old : Places) (n : ℕ) (place after : Place) (left : PmState) (is : slice_get old.devices n ≡ Some place) where
  -- a change that drops nothing
  loses_none : after.down.frames ≡ place.down.frames → KeepsDown old.multiplier left → Loses n old (with_multiplier (with_device old n after) left)
  loses_none same keeps =
      let rests : Rests old (with_multiplier (with_device old n after) left) = both_rest old n place after is left same keeps in
      let none : lost_from (port_at old.multiplier n).down (port_at left n).down ≡ None = ap (λ o. lost_from (port_at old.multiplier n).down o) (keeps n) ∙ none_lost (port_at old.multiplier n).down in
      record {
        link = rests.link;
        here = ap (λ o. falling_to n (with_multiplier (with_device old n after) left) ++ option_to_list o) none ∙ append-nil (falling_to n (with_multiplier (with_device old n after) left)) ∙ rests.falls n;
        elsewhere = λ m other. rests.falls m;
        removed = λ frame e. let wrong : None ≡ Some frame = sym none ∙ e in absurd (cc);
        waits = rests.waits;
      }

  -- a removal
  loses_gone : n < length old.multiplier.ports → (conn : ℕ) → after.down.frames ≡ place.down.frames → left ≡ without_device old.multiplier n conn → Loses n old (with_multiplier (with_device old n after) left)
  loses_gone there conn same now = record {
    link = refl;
    here =
        ap (λ (q : PortState). (link ++ option_to_list q.down) ++ option_to_list (lost_from was q.down)) is_now
        ∙ append_assoc link (option_to_list (left_in conn was)) (option_to_list (lost_from was (left_in conn was)))
        ∙ ap (λ xs. link ++ xs) (parted conn was)
        ∙ ap (λ xs. xs ++ option_to_list was) (link_stays old n place after is same n);
    elsewhere = λ m other. ap (λ xs. xs ++ option_to_list (port_at left m).down) (link_stays old n place after is same m) ∙ ap (λ (q : PortState). on_down_link (slice_get old.devices m) ++ option_to_list q.down) (others m other);
    removed = λ frame e.
        ap (λ (q : PortState). is_gone q frame.stamp.conn) is_now
        ∙ lost_is_up_to conn was frame (ap (λ (q : PortState). lost_from was q.down) (sym is_now) ∙ e);
    waits = written_waits old.multiplier left n (with_removal (port_at old.multiplier n) conn) ports (λ frame e. inl (stayed conn was frame e).0);
  }
    where
      was : Option Stamped
      was = (port_at old.multiplier n).down

      link : List Stamped
      link = on_down_link (slice_get (with_device old n after).devices n)

      ports : left.ports ≡ set old.multiplier.ports n (with_removal (port_at old.multiplier n) conn)
      ports = ap (λ (q : PmState). q.ports) now

      is_now : port_at left n ≡ with_removal (port_at old.multiplier n) conn
      is_now = ap (λ (q : PmState). port_at q n) now ∙ this_port old.multiplier.ports n (with_removal (port_at old.multiplier n) conn) there

      others : (m : ℕ) → m ≢ n → port_at left m ≡ port_at old.multiplier m
      others m other = ap (λ (q : PmState). port_at q m) now ∙ other_port old.multiplier.ports n m (with_removal (port_at old.multiplier n) conn) other

  loses : n < length old.multiplier.ports → (c : Change) → after.down.frames ≡ place.down.frames → left ≡ recorded old.multiplier n c → Loses n old (with_multiplier (with_device old n after) left)
  loses there (change.Came conn) same now = loses_none same (λ m. ap (λ (q : PmState). (port_at q m).down) now ∙ came_down old.multiplier n conn m)
  loses there (change.Gone conn) same now = by_test (is_none (port_gone_refusal (port_at old.multiplier n) conn)) now
    where
      by_test : (b : Bool) → left ≡ (if b then without_device old.multiplier n conn else old.multiplier) → Loses n old (with_multiplier (with_device old n after) left)
      by_test true now = loses_gone there conn same now
      by_test false now = loses_none same (same_down old.multiplier left now)

  presence_moves : n < length old.multiplier.ports → (a : Answer) → PmPresenceRule n place old.multiplier (Ok a) after left → MovesDown old a (with_multiplier (with_device old n after) left)
  presence_moves there answer.Idle acts = both_rest old n place after is left (same_link acts.1) (same_down old.multiplier left acts.2)
  presence_moves there (answer.Presence p) acts = rw acts.0 (loses there acts.2.0 (ap (λ (q : Place). q.down.frames) acts.1) acts.2.2)
  presence_moves there _ acts = absurd acts

  from_device_moves : (a : Answer) → PmFromDeviceRule n place old.multiplier (Ok a) after left → MovesDown old a (with_multiplier (with_device old n after) left)
  from_device_moves answer.Idle acts = both_rest old n place after is left (same_link acts.1) (same_down old.multiplier left acts.2)
  from_device_moves answer.Blocked acts = both_rest old n place after is left (same_link acts.2) (same_down old.multiplier left acts.3)
  from_device_moves (answer.Offered p dropped) acts =
      both_rest old n place after is left (ap (λ (q : Place). q.down.frames) acts.1) (device_down old.multiplier n acts.2.0 dropped left acts.2.2)
  from_device_moves _ acts = absurd acts

  -- a frame that goes from the port onto the link is still on its way to the device
  module _ (frame : Stamped) (waited : (port_at old.multiplier n).down ≡ Some frame)
      (left_is : left ≡ record (with_port old.multiplier n (with_down (port_at old.multiplier n) None)) { given = left.given })
      (more : after.down.frames ≡ place.down.frames ++ frame ∷ []) where
    now_empty : (port_at left n).down ≡ None
    now_empty =
        ap (λ (q : PmState). (port_at q n).down) left_is
        ∙ ap (λ (q : PortState). q.down) (written (λ q. q.down ≡ Some frame) (λ e. absurd (cc)) old.multiplier.ports n (with_down (port_at old.multiplier n) None) waited)

    same_way : falling_to n (with_multiplier (with_device old n after) left) ≡ falling_to n old
    same_way =
        ap (λ o. on_down_link (slice_get (with_device old n after).devices n) ++ option_to_list o) now_empty
        ∙ append-nil (on_down_link (slice_get (with_device old n after).devices n))
        ∙ link_here old n place after is ∙ more
        ∙ ap (λ xs. xs ++ frame ∷ []) (sym (link_was old n place after is))
        ∙ ap (λ o. on_down_link (slice_get old.devices n) ++ option_to_list o) (sym waited)

    other_way : (m : ℕ) → m ≢ n → falling_to m (with_multiplier (with_device old n after) left) ≡ falling_to m old
    other_way m other =
        ap (λ xs. xs ++ option_to_list (port_at left m).down) (link_elsewhere old n place after is m other)
        ∙ ap (λ (q : PmState). on_down_link (slice_get old.devices m) ++ option_to_list (port_at q m).down) left_is
        ∙ ap (λ (q : PortState). on_down_link (slice_get old.devices m) ++ option_to_list q.down) (get_or-set_other old.multiplier.ports n m (with_down (port_at old.multiplier n) None) empty_port other)

    still_falls : Rests old (with_multiplier (with_device old n after) left)
    still_falls = record {
      link = refl;
      falls = λ m. elim (cases_eq m n) [ inl e ↦ rw e same_way | inr other ↦ other_way m other ];
      waits = written_waits old.multiplier left n (with_down (port_at old.multiplier n) None) (ap (λ (q : PmState). q.ports) left_is) (λ f e. absurd (cc));
    }

  down_moves : (a : Answer) → PmDownRule n place old.multiplier (Ok a) after left → MovesDown old a (with_multiplier (with_device old n after) left)
  down_moves answer.Idle acts = both_rest old n place after is left (same_link acts.2) (same_down old.multiplier left acts.3)
  down_moves answer.Blocked acts = both_rest old n place after is left (same_link acts.1) (same_down old.multiplier left acts.2)
  down_moves (answer.Down p) acts =
      still_falls acts.2.0 acts.2.1.0 (rw acts.2.1.1 refl) (ap (λ (q : Place). q.down.frames) acts.2.2)
  down_moves _ acts = absurd acts

-- ---- a step of the multiplier

-- if the devices stay and each port keeps its frame on the way down
same_falls : (old new : Places) → new.devices ≡ old.devices → KeepsDown old.multiplier new.multiplier → (m : ℕ) → falling_to m new ≡ falling_to m old
same_falls old new devices keeps m =
    ap (λ ds. on_down_link (slice_get ds m) ++ option_to_list (port_at new.multiplier m).down) devices
    ∙ ap (λ o. on_down_link (slice_get old.devices m) ++ option_to_list o) (keeps m)

module _ (old new : Places) (devices : new.devices ≡ old.devices) where
  up_moves : (a : Answer) → new.downward ≡ old.downward → PmUpRule old.multiplier old.upward (Ok a) new.multiplier new.upward → MovesDown old a new
  up_moves answer.Idle link acts = record { link = ap (λ (q : Queue). q.frames) link; falls = same_falls old new devices (same_down old.multiplier new.multiplier acts.2); waits = same_waits old.multiplier new.multiplier acts.2 }
  up_moves answer.Blocked link acts = record { link = ap (λ (q : Queue). q.frames) link; falls = same_falls old new devices (same_down old.multiplier new.multiplier acts.1); waits = same_waits old.multiplier new.multiplier acts.1 }
  up_moves (answer.Up p) link acts = record { link = ap (λ (q : Queue). q.frames) link; falls = same_falls old new devices (up_down old.multiplier acts.1.0 new.multiplier acts.1.2); waits = kept_waits old.multiplier new.multiplier (up_down old.multiplier acts.1.0 new.multiplier acts.1.2) }
  up_moves _ link acts = absurd acts

  -- the connection to which a frame is passed down is that of a port that is there
  module _ (frame : Stamped) (link : old.downward.frames ≡ frame ∷ new.downward.frames) (n conn : ℕ) (passes : passes_to old.multiplier n ≡ Some conn)
      (was : (port_at old.multiplier n).down ≡ None)
      (left_is : new.multiplier ≡ with_port old.multiplier n (with_down (port_at old.multiplier n) (Some (falling conn frame)))) where
    present_by : (b : Bool) → (if b then (port_at old.multiplier n).present else None) ≡ Some conn → (port_at old.multiplier n).present ≡ Some conn
    present_by true e = e
    present_by false e = absurd (cc)

    goes_in : (port_at new.multiplier n).down ≡ Some (falling conn frame)
    goes_in =
        ap (λ (q : PmState). (port_at q n).down) left_is
        ∙ ap (λ (q : PortState). q.down) (written (λ q. q.present ≡ Some conn) (λ e. absurd (cc)) old.multiplier.ports n (with_down (port_at old.multiplier n) (Some (falling conn frame))) (present_by _ passes))

    goes : Goes n frame old new
    goes = record {
      conn = conn;
      link = link;
      passes = passes;
      here =
          ap (λ ds. on_down_link (slice_get ds n) ++ option_to_list (port_at new.multiplier n).down) devices
          ∙ ap (λ o. on_down_link (slice_get old.devices n) ++ option_to_list o) goes_in
          ∙ ap (λ xs. xs ++ falling conn frame ∷ []) (sym (append-nil (on_down_link (slice_get old.devices n))) ∙ ap (λ o. on_down_link (slice_get old.devices n) ++ option_to_list o) (sym was));
      elsewhere = λ m other.
          ap (λ ds. on_down_link (slice_get ds m) ++ option_to_list (port_at new.multiplier m).down) devices
          ∙ ap (λ (q : PmState). on_down_link (slice_get old.devices m) ++ option_to_list (port_at q m).down) left_is
          ∙ ap (λ (q : PortState). on_down_link (slice_get old.devices m) ++ option_to_list q.down) (get_or-set_other old.multiplier.ports n m (with_down (port_at old.multiplier n) (Some (falling conn frame))) empty_port other);
      waits =
          written_waits old.multiplier new.multiplier n (with_down (port_at old.multiplier n) (Some (falling conn frame))) (ap (λ (q : PmState). q.ports) left_is)
          (λ f e. inr (passes ∙ ap (λ (g : Stamped). Some g.stamp.conn) (same_Some (falling conn frame) f e)));
    }

  passed_moves : (p : Passed) (frame : Stamped) → old.downward.frames ≡ frame ∷ new.downward.frames → FromHostRule old.multiplier frame (Ok p) new.multiplier → MovesDown old (answer.Passed p) new
  passed_moves passed.Control frame link rule =
      either (pm_port frame == control_port)
      (λ control. (frame, record { link = link; falls = same_falls old new devices (λ m. ap (λ (q : PmState). (port_at q m).down) control.2); waits = kept_waits old.multiplier new.multiplier (λ m. ap (λ (q : PmState). (port_at q m).down) control.2) }))
      (λ port. whichever (passes_to old.multiplier (pm_port frame)) (λ h. absurd h) (λ conn is h. absurd h) port)
      rule
  passed_moves (passed.Down n) frame link rule =
      either (pm_port frame == control_port) (λ h. absurd h)
      (λ port. whichever (passes_to old.multiplier (pm_port frame)) (λ h. absurd h)
      (λ conn is h. (frame, rw h.0 (goes frame link (pm_port frame) conn is h.1 h.2))) port)
      rule
  passed_moves passed.Dropped frame link rule =
      either (pm_port frame == control_port) (λ h. absurd h)
      (λ port. whichever (passes_to old.multiplier (pm_port frame))
      (λ h. (frame, record { link = link; falls = same_falls old new devices (λ m. ap (λ (q : PmState). (port_at q m).down) h); waits = kept_waits old.multiplier new.multiplier (λ m. ap (λ (q : PmState). (port_at q m).down) h) }))
      (λ conn is h. absurd h) port)
      rule

  from_host_moves : (a : Answer) → PmFromHostRule old.downward old.multiplier (Ok a) new.downward new.multiplier → MovesDown old a new
  from_host_moves answer.Idle acts = record { link = ap (λ (q : Queue). q.frames) acts.1; falls = same_falls old new devices (same_down old.multiplier new.multiplier acts.2); waits = same_waits old.multiplier new.multiplier acts.2 }
  from_host_moves answer.Blocked acts = record { link = ap (λ (q : Queue). q.frames) acts.1; falls = same_falls old new devices (same_down old.multiplier new.multiplier acts.2); waits = same_waits old.multiplier new.multiplier acts.2 }
  from_host_moves (answer.Passed p) acts = passed_moves p acts.0.0 acts.0.1 acts.0.2
  from_host_moves _ acts = absurd acts

-- ---- a step of the host

push_moves : (old new : Places) → ((m : ℕ) → falling_to m new ≡ falling_to m old) → new.multiplier ≡ old.multiplier → (a : Answer) → HostPushRule old.host old.downward (Ok a) new.host new.downward → MovesDown old a new
push_moves old new falls same answer.Idle acts = record { link = ap (λ (q : Queue). q.frames) acts.2; falls = falls; waits = same_waits old.multiplier new.multiplier same }
push_moves old new falls same answer.Blocked acts = record { link = ap (λ (q : Queue). q.frames) acts.2; falls = falls; waits = same_waits old.multiplier new.multiplier same }
push_moves old new falls same answer.Pushed acts = (acts.1.0, record { link = ap (λ (q : Queue). q.frames) acts.1.2; falls = falls; waits = same_waits old.multiplier new.multiplier same })
push_moves old new falls same _ acts = absurd acts

take_quiet : (old : Queue) (host : Host) (a : Answer) (new : Queue) (after : Host) → HostTakeRule old host (Ok a) new after → IsQuiet a
take_quiet old host answer.Idle new after acts = tt
take_quiet old host (answer.Took port conn number bytes report) new after acts = tt
take_quiet old host _ new after acts = absurd acts

tick_quiet : (host : Host) (a : Answer) (after : Host) → TickRule host (Ok a) after → IsQuiet a
tick_quiet host answer.Idle after acts = tt
tick_quiet host answer.Ticked after acts = tt
tick_quiet host _ after acts = absurd acts

submit_quiet : (dev : ℕ) (request : Request) (host : Host) (a : Answer) (after : Host) → SubmitRule dev request host (Ok a) after → IsQuiet a
submit_quiet dev request host (answer.Refused e) after acts = tt
submit_quiet dev request host (answer.Submitted ticket) after acts = tt
submit_quiet dev request host _ after acts = absurd acts

poll_quiet : (host : Host) (a : Answer) (after : Host) → PollRule host (Ok a) after → IsQuiet a
poll_quiet host answer.Idle after acts = tt
poll_quiet host (answer.Polled completion) after acts = tt
poll_quiet host _ after acts = absurd acts

put_quiet : (at : ℕ) (bytes : List ℕ) (host : Host) (a : Answer) (after : Host) → PutRule at bytes host (Ok a) after → IsQuiet a
put_quiet at bytes host answer.Put after acts = tt
put_quiet at bytes host _ after acts = absurd acts

-- a world that differs from another only in its upward link and its host
host_rests : (old new : Places) (upward : Queue) (host : Host) → new ≡ record old { upward = upward; host = host } → Rests old new
host_rests old new upward host e = record {
  link = ap (λ (w : Places). w.downward.frames) e;
  falls = λ m. ap (λ (w : Places). falling_to m w) e;
  waits = same_waits old.multiplier new.multiplier (ap (λ (w : Places). w.multiplier) e);
}

-- ---- each step moves what its answer tells

pub rule_moves_down : (old : Places) (s : Step) (a : Answer) (new : Places) → IsOrderly old → Rule old s (Ok a) new → MovesDown old a new
rule_moves_down old (step.Came n) a new orderly rule = on_device old n a new (CameRule n) (λ place after r. came_keeps n place a after r.1) rule
rule_moves_down old (step.Gone n) a new orderly rule = on_device old n a new (GoneRule n) (λ place after r. gone_keeps n place a after r.1) rule
rule_moves_down old (step.DiskSend n) a new orderly rule = on_device old n a new (DiskSendRule n) (λ place after r. send_keeps n place a after r.1) rule
rule_moves_down old (step.Inject n bytes) a new orderly rule = on_device old n a new (InjectRule n bytes) (λ place after r. inject_keeps n bytes place a after r.1) rule
rule_moves_down old (step.DiskTake n) a new orderly rule =
    let p = at_device old n a new (DiskTakeRule n) rule in
    rw p.new_is (take_moves old n p.place p.after p.is a p.rule)
rule_moves_down old (step.PmPresence n) a new orderly rule =
    let p = at_both old n a new (PmPresenceRule n) rule in
    let below : n < length old.devices = slice_get_within old.devices n p.place p.is in
    let most : length old.devices ≤ 15 = orderly.most in
    let count : length old.multiplier.ports ≡ 15 = orderly.room in
    rw p.new_is (presence_moves old n p.place p.after p.left p.is (omega arith) a p.rule)
rule_moves_down old (step.PmFromDevice n) a new orderly rule =
    let p = at_both old n a new (PmFromDeviceRule n) rule in
    rw p.new_is (from_device_moves old n p.place p.after p.left p.is a p.rule)
rule_moves_down old (step.PmDown n) a new orderly rule =
    let p = at_both old n a new (PmDownRule n) rule in
    rw p.new_is (down_moves old n p.place p.after p.left p.is a p.rule)
rule_moves_down old step.PmFromHost a new orderly rule = from_host_moves old new (ap (λ (w : Places). w.devices) rule.1) a rule.0
rule_moves_down old step.PmUp a new orderly rule = up_moves old new (ap (λ (w : Places). w.devices) rule.1) a (ap (λ (w : Places). w.downward) rule.1) rule.0
rule_moves_down old step.HostTake a new orderly rule = quiet_rests old a new (take_quiet old.upward old.host a new.upward new.host rule.0) (host_rests old new new.upward new.host rule.1)
rule_moves_down old step.HostPush a new orderly rule = push_moves old new (λ m. ap (λ (w : Places). falling_to m w) rule.1) (ap (λ (w : Places). w.multiplier) rule.1) a rule.0
rule_moves_down old step.Tick a new orderly rule = quiet_rests old a new (tick_quiet old.host a new.host rule.0) (host_rests old new old.upward new.host rule.1)
rule_moves_down old (step.Submit dev request) a new orderly rule = quiet_rests old a new (submit_quiet dev request old.host a new.host rule.0) (host_rests old new old.upward new.host rule.1)
rule_moves_down old step.Poll a new orderly rule = quiet_rests old a new (poll_quiet old.host a new.host rule.0) (host_rests old new old.upward new.host rule.1)
rule_moves_down old (step.Put at bytes) a new orderly rule = quiet_rests old a new (put_quiet at bytes old.host a new.host rule.0) (host_rests old new old.upward new.host rule.1)
