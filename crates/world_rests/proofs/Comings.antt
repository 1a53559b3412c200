-- For `rested_have_done`. What each port knows of the connections of its device, and of which connections the frames are that
-- are on their way up. Connections come one after another, and each removal is recorded before the next coming.
use Rattle.std.proofs.Common.{◌≡◌, ◌≢◌, ◌⊎◌, ℕ, zero, suc, ◌+◌, ◌<◌, ◌≤◌, ◌==◌, Bool, true, false, List, [], ◌∷◌, ◌++◌, length, map, replicate}
use Rattle.std.proofs.{Common.{Option, Some, None, refl, sym, ap, subst, ◌∙◌, inl, inr, arith}, lemmas.Bool.{eq-eqb, leb-true, true≢false}}
use Rattle.std.proofs.lemmas.Option.{same_Some}
use Rattle.std.specs.Prelude.{slice_get, slice_index_or, is_none, is_some, nat_le, if◌then◌else◌, IsTrue, Ok, MatchBool, MatchOption}
use Rattle.fis_view.specs.Frames.{Stamped}
use Rattle.pm_ports.specs.Port.{PortState, came_refusal, empty_port, gone_refusal, is_present, is_up_to, with_connection, with_down, with_removal}
use Rattle.pm_ports.specs.{Port.with_up, declared.port.{GoneError.TheVariants.NotThere, PortError.TheVariants.{AlreadyThere, OldConnection}}}
use Rattle.multiplier.specs.{Arbiter.control_port, Between.{Answer as Answers, FromPort, Gives, Notice}, Rules.{FromHostRule, ToControl, ToDevice}}
use Rattle.multiplier.specs.{Rules.{ToNobody, ToPort, with_device as connected, without_device}, State.{PmState, falling, passes_to, pm_port}}
use Rattle.multiplier.specs.{State.{port_at, stamped, with_port}, declared.multiplier.Passed.Passed}
use Rattle.multiplier.specs.declared.multiplier.Passed.TheVariants as passed
use Rattle.multiplier.proofs.Door.{each_port, gives, left_is, other_port, this_port, up_to}
use Rattle.pm_world.specs.{Attached.Attached, DevicePaths.ReachedAreOrderly, Places.{IsOrderly, Place, Places, Queue, new_world_in, opening}}
use Rattle.pm_world.specs.Rules.{CameRule, DiskSendRule, DiskTakeRule, GoneRule, InjectRule, OnDevice, OnDeviceAndMultiplier, Outcome, PmDownRule}
use Rattle.pm_world.specs.{Rules.{PmFromDeviceRule, PmFromHostRule, PmPresenceRule, PmUpRule, Rule, Run, largest, recorded}, Runs.IsReached}
use Rattle.pm_world.specs.declared.{link.Change.Change, step.{Step.Step, Answer.Answer}}
use Rattle.pm_world.specs.declared.link.Change.TheVariants as change
use Rattle.pm_world.specs.declared.step.Step.TheVariants as step
use Rattle.pm_world.specs.declared.step.StepError.TheVariants as error
use Rattle.pm_world.specs.declared.step.Answer.TheVariants as answer
use Rattle.world_rests.proofs.Parts.{AtBoth, AtDevice, at_both, at_device, get_below, reached_after, set_each}

-- ---- changes, one after another

-- what a port knows: the connection that is present, the last one, and the highest that is gone
abbrev pub Known : Type 0
Known = Option ℕ × ℕ × ℕ

abbrev pub known : PortState → Known
known p = (p.present, p.last, p.gone)

abbrev one : Change → Known → Known
one (change.Came conn) k = (Some conn, conn, k.2)
one (change.Gone conn) k = (None, k.1, conn)

abbrev pub all : List Change → Known → Known
all [] k = k
all (c ∷ cs) k = all cs (one c k)

abbrev LetIn : Change → Known → Type 0
LetIn (change.Came conn) k = (k.0 ≡ None) × (conn ≡ k.1 + 1)
LetIn (change.Gone conn) k = k.0 ≡ Some conn

abbrev pub AreLetIn : List Change → Known → Type 0
AreLetIn [] k = Unit {0}
AreLetIn (c ∷ cs) k = LetIn c k × AreLetIn cs (one c k)

all-append : (xs ys : List Change) (k : Known) → all (xs ++ ys) k ≡ all ys (all xs k)
all-append [] ys k = refl
all-append (x ∷ xs) ys k = all-append xs ys (one x k)

one_more : (xs : List Change) (y : Change) (k : Known) → AreLetIn xs k → LetIn y (all xs k) → AreLetIn (xs ++ y ∷ []) k
one_more [] y k h last = (last, tt)
one_more (x ∷ xs) y k h last = (h.0, one_more xs y (one x k) h.1 last)

-- the connection that is present is the last, and the one after those that are gone; if none is present, all that came are gone
pub record IsClosed (k : Known) : Type 0 where
  pub there : (c : ℕ) → k.0 ≡ Some c → (c ≡ k.1) × (c ≡ k.2 + 1)
  pub none : k.0 ≡ None → k.2 ≡ k.1

closed_one : (c : Change) (k : Known) → LetIn c k → IsClosed k → IsClosed (one c k)
closed_one (change.Came conn) k let_in is =
    let gone : k.2 ≡ k.1 = is.none let_in.0 in
    let next : conn ≡ k.1 + 1 = let_in.1 in
    record {
      there = λ c e. let same : conn ≡ c = same_Some conn c e in (sym same, omega (arith, same, gone, next));
      none = λ e. absurd (cc);
    }
closed_one (change.Gone conn) k let_in is = record { there = λ c e. absurd (cc); none = λ e. (is.there conn let_in).0 }

closed_all : (cs : List Change) (k : Known) → AreLetIn cs k → IsClosed k → IsClosed (all cs k)
closed_all [] k let_in is = is
closed_all (c ∷ cs) k let_in is = closed_all cs (one c k) let_in.1 (closed_one c k let_in.0 is)

-- ---- a place and its port

abbrev pub Each : (Stamped → Type 0) → List Stamped → Type 0
Each P [] = Unit {0}
Each P (f ∷ fs) = P f × Each P fs

each_map : (P Q : Stamped → Type 0) (fs : List Stamped) → ((f : Stamped) → P f → Q f) → Each P fs → Each Q fs
each_map P Q [] h all = tt
each_map P Q (f ∷ fs) h all = (h f all.0, each_map P Q fs h all.1)

each_more : (P : Stamped → Type 0) (fs : List Stamped) (f : Stamped) → Each P fs → P f → Each P (fs ++ f ∷ [])
each_more P [] f all is = (is, tt)
each_more P (g ∷ fs) f all is = (all.0, each_more P fs f all.1 is)

-- a connection that came
abbrev HasCome : ℕ → Stamped → Type 0
HasCome conn f = (0 < f.stamp.conn) × (f.stamp.conn ≤ conn)

-- the changes that are not recorded lead to what the place is; what is on the link is of connections that came; and what the
-- port holds is of none that is gone
pub record AreOf (changes : List Change) (plugged : Bool) (conn : ℕ) (frames : List Stamped) (k : Known) (up : Option Stamped) : Type 0 where
  pub let_in : AreLetIn changes k
  pub closed : IsClosed k
  pub present : (all changes k).0 ≡ (if plugged then Some conn else None)
  pub last : (all changes k).1 ≡ conn
  pub link : Each (HasCome conn) frames
  pub held : (f : Stamped) → up ≡ Some f → (k.2 < f.stamp.conn) × (f.stamp.conn ≤ conn)

abbrev pub Of : Place → PortState → Type 0
Of place p = AreOf place.presence.changes place.plugged place.conn place.up.frames (known p) p.up

-- the place becomes what it is said to become
as_of : (new left : Place) (p : PortState) → new ≡ left → Of left p → Of new p
as_of new left p e is = subst (λ (w : Place). Of w p) (sym e) is

unplugged : (b spent : Bool) → (if b then Some error.AlreadyThere else if spent then Some error.Spent else None) ≡ None → b ≡ false
unplugged true spent e = absurd (cc)
unplugged false spent e = refl

plugged_in : (b : Bool) → (if b then None else Some error.NotThere) ≡ None → b ≡ true
plugged_in true e = refl
plugged_in false e = absurd (cc)

came_of : (n : ℕ) (old : Place) (a : Answer) (new : Place) (p : PortState) → CameRule n old (Ok a) new → Of old p → Of new p
came_of n old answer.Blocked new p rule is = as_of new old p rule.1.1 is
came_of n old (answer.Came q conn) new p rule is =
    let k : Known = all old.presence.changes (known p) in
    let off : old.plugged ≡ false = unplugged old.plugged (old.conn == largest) rule.0 in
    let none : k.0 ≡ None = is.present ∙ ap (λ (b : Bool). if b then Some old.conn else None) off in
    let last : k.1 ≡ old.conn = is.last in
    let whole : all (old.presence.changes ++ change.Came (old.conn + 1) ∷ []) (known p) ≡ one (change.Came (old.conn + 1)) k = all-append old.presence.changes (change.Came (old.conn + 1) ∷ []) (known p) in
    as_of new _ p rule.1.3 (record {
      let_in = one_more old.presence.changes (change.Came (old.conn + 1)) (known p) is.let_in (none, omega (arith, last));
      closed = is.closed;
      present = ap (λ (x : Known). x.0) whole;
      last = ap (λ (x : Known). x.1) whole;
      link = each_map (HasCome old.conn) (HasCome (old.conn + 1)) old.up.frames (λ f h. let most : f.stamp.conn ≤ old.conn = h.1 in (h.0, omega (arith, most))) is.link;
      held = λ f e. let h = is.held f e in let most : f.stamp.conn ≤ old.conn = h.1 in (h.0, omega (arith, most));
    })
came_of n old _ new p rule is = absurd rule.1

gone_of : (n : ℕ) (old : Place) (a : Answer) (new : Place) (p : PortState) → GoneRule n old (Ok a) new → Of old p → Of new p
gone_of n old answer.Blocked new p rule is = as_of new old p rule.1.1 is
gone_of n old (answer.Gone q conn) new p rule is =
    let k : Known = all old.presence.changes (known p) in
    let on : old.plugged ≡ true = plugged_in old.plugged rule.0 in
    let there : k.0 ≡ Some old.conn = is.present ∙ ap (λ (b : Bool). if b then Some old.conn else None) on in
    let whole : all (old.presence.changes ++ change.Gone old.conn ∷ []) (known p) ≡ one (change.Gone old.conn) k = all-append old.presence.changes (change.Gone old.conn ∷ []) (known p) in
    as_of new _ p rule.1.2 (record {
      let_in = one_more old.presence.changes (change.Gone old.conn) (known p) is.let_in there;
      closed = is.closed;
      present = ap (λ (x : Known). x.0) whole;
      last = ap (λ (x : Known). x.1) whole ∙ is.last;
      link = is.link;
      held = is.held;
    })
gone_of n old _ new p rule is = absurd rule.1

-- what is sent is of the connection that is plugged in
sent_of : (old : Place) (p : PortState) → IsTrue old.plugged → Of old p → HasCome old.conn (record { bytes = []; stamp = record { port = 0; conn = old.conn; number = 0; shown = [] } })
sent_of old p on is =
    let k : Known = all old.presence.changes (known p) in
    let there : k.0 ≡ Some old.conn = is.present ∙ ap (λ (b : Bool). if b then Some old.conn else None) on in
    let next : old.conn ≡ k.2 + 1 = ((closed_all old.presence.changes (known p) is.let_in is.closed).there old.conn there).1 in
    (omega (arith, next), omega arith)

more_of : (old : Place) (f : Stamped) (p : PortState) → HasCome old.conn f → Of old p → AreOf old.presence.changes old.plugged old.conn (old.up.frames ++ f ∷ []) (known p) p.up
more_of old f p came is = record { let_in = is.let_in; closed = is.closed; present = is.present; last = is.last; link = each_more (HasCome old.conn) old.up.frames f is.link came; held = is.held }

send_of : (n : ℕ) (old : Place) (a : Answer) (new : Place) (p : PortState) → DiskSendRule n old (Ok a) new → Of old p → Of new p
send_of n old answer.Idle new p rule is = as_of new old p rule.1.1 is
send_of n old answer.Blocked new p rule is = as_of new old p rule.1.2 is
send_of n old (answer.Sent q conn number bytes) new p rule is = as_of new _ p rule.1.5 (more_of old _ p (sent_of old p rule.1.0.0 is) is)
send_of n old _ new p rule is = absurd rule.1

inject_of : (n : ℕ) (given : List ℕ) (old : Place) (a : Answer) (new : Place) (p : PortState) → InjectRule n given old (Ok a) new → Of old p → Of new p
inject_of n given old answer.Blocked new p rule is = as_of new old p rule.1.1 is
inject_of n given old (answer.Sent q conn number bytes) new p rule is = as_of new _ p rule.1.5 (more_of old _ p (sent_of old p rule.1.0.0 is) is)
inject_of n given old _ new p rule is = absurd rule.1

take_of : (n : ℕ) (old : Place) (a : Answer) (new : Place) (p : PortState) → DiskTakeRule n old (Ok a) new → Of old p → Of new p
take_of n old answer.Idle new p rule is = as_of new old p rule.1 is
take_of n old (answer.DiskTook q dropped) new p rule is = as_of new _ p rule.2 is
take_of n old _ new p rule is = absurd rule

-- ---- a place and its port together

-- what a step at port n leaves there, and that the other ports stay
record Leaves (n : ℕ) (pm : PmState) (new : Place) (after : PmState) : Type 0 where
  here : Of new (port_at after n)
  others : (m : ℕ) → m ≢ n → port_at after m ≡ port_at pm m

stays : (n : ℕ) (old : Place) (pm : PmState) (new : Place) (after : PmState) → new ≡ old → after ≡ pm → Of old (port_at pm n) → Leaves n pm new after
stays n old pm new after same e is = record {
  here = subst (λ (m : PmState). Of new (port_at m n)) (sym e) (as_of new old (port_at pm n) same is);
  others = λ m other. ap (λ (q : PmState). port_at q m) e;
}

-- the port becomes this one
writes : (n : ℕ) (pm : PmState) (new : Place) (after : PmState) (q : PortState) → length pm.ports ≡ 15 → n < 15 → ((m : ℕ) → port_at after m ≡ port_at (with_port pm n q) m) → Of new q → Leaves n pm new after
writes n pm new after q room low same is = record {
  here = subst (λ (p : PortState). Of new p) (sym (same n ∙ this_port pm.ports n q (omega (arith, room, low)))) is;
  others = λ m other. same m ∙ other_port pm.ports n m q other;
}

abbrev after_change : Change → PortState → PortState
after_change (change.Came conn) p = with_connection p conn
after_change (change.Gone conn) p = with_removal p conn

not_late : (conn last : ℕ) → conn ≡ last + 1 → nat_le conn last ≡ false
not_late conn last next = by_test (nat_le conn last) refl
  where
    by_test : (b : Bool) → nat_le conn last ≡ b → b ≡ false
    by_test true is = let most : conn ≤ last = leb-true conn last is in absurd (omega (arith, most, next))
    by_test false is = refl

-- a change that is let in is recorded
record_is : (pm : PmState) (n : ℕ) (c : Change) → LetIn c (known (port_at pm n)) → (m : ℕ) → port_at (recorded pm n c) m ≡ port_at (with_port pm n (after_change c (port_at pm n))) m
record_is pm n (change.Came conn) let_in m =
    let taken : is_none (came_refusal (port_at pm n) conn) ≡ true =
    ap (λ (b : Bool). is_none (if b then Some AlreadyThere else if nat_le conn (port_at pm n).last then Some OldConnection else None)) (ap is_some let_in.0)
    ∙ ap (λ (b : Bool). is_none (if b then Some OldConnection else None)) (not_late conn (port_at pm n).last let_in.1) in
    ap (λ (b : Bool). port_at (if b then connected pm n conn else pm) m) taken
record_is pm n (change.Gone conn) let_in m =
    let taken : is_none (gone_refusal (port_at pm n) conn) ≡ true =
    ap (λ (o : Option ℕ). is_none (if is_present o conn then None else Some NotThere)) let_in
    ∙ ap (λ (b : Bool). is_none (if b then None else Some NotThere)) (eq-eqb conn conn refl) in
    ap (λ (b : Bool). port_at (if b then without_device pm n conn else pm) m) taken

at_most_or_above : (q last : ℕ) → (q ≤ last) ⊎ (last < q)
at_most_or_above zero last = inl (omega arith)
at_most_or_above (suc q) zero = inr (omega arith)
at_most_or_above (suc q) (suc last) = elim (at_most_or_above q last) [ inl h ↦ inl (omega arith) | inr h ↦ inr (omega arith) ]

-- a connection that came and is not gone is above those that are
above_gone : (gone conn : ℕ) → 0 < conn → is_up_to gone conn ≡ false → gone < conn
above_gone gone conn some not_gone = elim (at_most_or_above conn gone) [
  | inl most ↦ absurd (true≢false (sym (up_to gone conn some most) ∙ not_gone))
  | inr above ↦ above
]

changed_of : (c : Change) (cs : List Change) (plugged : Bool) (conn : ℕ) (frames : List Stamped) (p : PortState) → AreOf (c ∷ cs) plugged conn frames (known p) p.up
    → AreOf cs plugged conn frames (known (after_change c p)) (after_change c p).up
changed_of (change.Came d) cs plugged conn frames p is =
    record { let_in = is.let_in.1; closed = closed_one (change.Came d) (known p) is.let_in.0 is.closed; present = is.present; last = is.last; link = is.link; held = is.held }
changed_of (change.Gone d) cs plugged conn frames p is = record {
  let_in = is.let_in.1;
  closed = closed_one (change.Gone d) (known p) is.let_in.0 is.closed;
  present = is.present;
  last = is.last;
  link = is.link;
  held = λ f e.
      let l = left_is d p.up f e in
      let h = is.held f l.0 in
      let above : p.gone < f.stamp.conn = h.0 in
      (above_gone d f.stamp.conn (omega (arith, above)) l.1, h.1);
}

module _ (n : ℕ) (pm : PmState) (room : length pm.ports ≡ 15) (low : n < 15) (old : Place) (is : Of old (port_at pm n)) where
  presence_leaves : (a : Answer) (new : Place) (after : PmState) → PmPresenceRule n old pm (Ok a) new after → Leaves n pm new after
  presence_leaves answer.Idle new after rule = stays n old pm new after rule.1 rule.2 is
  presence_leaves (answer.Presence q) new after rule =
      let c : Change = rule.2.0 in
      let was : AreOf (c ∷ new.presence.changes) old.plugged old.conn old.up.frames (known (port_at pm n)) (port_at pm n).up =
      subst (λ (cs : List Change). AreOf cs old.plugged old.conn old.up.frames (known (port_at pm n)) (port_at pm n).up) rule.2.1 is in
      writes n pm new after (after_change c (port_at pm n)) room low
      (λ m. ap (λ (s : PmState). port_at s m) rule.2.2 ∙ record_is pm n c was.let_in.0 m)
      (as_of new _ (after_change c (port_at pm n)) rule.1 (changed_of c new.presence.changes old.plugged old.conn old.up.frames (port_at pm n) was))
  presence_leaves _ new after rule = absurd rule

  -- the first frame of the link leaves it
  rest_of : (f : Stamped) (frames : List Stamped) → old.up.frames ≡ f ∷ frames → HasCome old.conn f × Each (HasCome old.conn) frames
  rest_of f frames first = subst (Each (HasCome old.conn)) first is.link

  offer_leaves : (a : Answer) (new : Place) (after : PmState) → PmFromDeviceRule n old pm (Ok a) new after → Leaves n pm new after
  offer_leaves answer.Idle new after rule = stays n old pm new after rule.1 rule.2 is
  offer_leaves answer.Blocked new after rule = stays n old pm new after rule.2 rule.3 is
  offer_leaves (answer.Offered q true) new after rule =
      let r = rest_of rule.2.0 new.up.frames rule.2.1 in
      let kept : Of new (port_at pm n) = as_of new _ (port_at pm n) rule.1 (record { let_in = is.let_in; closed = is.closed; present = is.present; last = is.last; link = r.1; held = is.held }) in
      stays n new pm new after refl rule.2.2.1 kept
  offer_leaves (answer.Offered q false) new after rule =
      let f : Stamped = rule.2.0 in
      let r = rest_of f new.up.frames rule.2.1 in
      writes n pm new after (with_up (port_at pm n) (Some (stamped n f))) room low (λ m. ap (λ (s : PmState). port_at s m) rule.2.2.2)
      (as_of new _ (with_up (port_at pm n) (Some (stamped n f))) rule.1 (record {
        let_in = is.let_in;
        closed = is.closed;
        present = is.present;
        last = is.last;
        link = r.1;
        held = λ g e.
            let same : f.stamp.conn ≡ g.stamp.conn = ap (λ (h : Stamped). h.stamp.conn) (same_Some (stamped n f) g e) in
            let above : (port_at pm n).gone < f.stamp.conn = above_gone (port_at pm n).gone f.stamp.conn r.0.0 rule.2.2.0 in
            let most : f.stamp.conn ≤ old.conn = r.0.1 in
            (omega (arith, same, above), omega (arith, same, most));
      }))
  offer_leaves _ new after rule = absurd rule

  down_leaves : (a : Answer) (new : Place) (after : PmState) → PmDownRule n old pm (Ok a) new after → Leaves n pm new after
  down_leaves answer.Idle new after rule = stays n old pm new after rule.2 rule.3 is
  down_leaves answer.Blocked new after rule = stays n old pm new after rule.1 rule.2 is
  down_leaves (answer.Down q) new after rule =
      writes n pm new after (with_down (port_at pm n) None) room low (λ m. ap (λ (s : PmState). port_at s m) rule.2.1.1) (as_of new _ (with_down (port_at pm n) None) rule.2.2 is)
  down_leaves _ new after rule = absurd rule

-- ---- a world

abbrev PortsAre : List Place → PmState → Type 0
PortsAre devices pm = (n : ℕ) (place : Place) → slice_get devices n ≡ Some place → Of place (port_at pm n)

abbrev pub IsKnown : Places → Type 0
IsKnown now = PortsAre now.devices now.multiplier

-- every port stays, or one of them does but for its frames
same_ports : (devices : List Place) (pm after : PmState) → ((m : ℕ) → port_at after m ≡ port_at pm m) → PortsAre devices pm → PortsAre devices after
same_ports devices pm after same are n place at = subst (λ (p : PortState). Of place p) (sym (same n)) (are n place at)

port_written : (devices : List Place) (pm after : PmState) (n : ℕ) (q : PortState) → ((m : ℕ) → port_at after m ≡ port_at (with_port pm n q) m) → ((place : Place) → slice_get devices n ≡ Some place → Of place q)
    → PortsAre devices pm → PortsAre devices after
port_written devices pm after n q same here are m place at =
    subst (λ (p : PortState). Of place p) (sym (same m))
    (each_port (λ (k : ℕ) (p : PortState). (x : Place) → slice_get devices k ≡ Some x → Of x p) pm.ports n q here (λ k x h. are k x h) m place at)

passed_ports : (devices : List Place) (pm : PmState) (frame : Stamped) (p : Passed) (after : PmState) → FromHostRule pm frame (Ok p) after → PortsAre devices pm → PortsAre devices after
passed_ports devices pm frame p after rule are = by_test (pm_port frame == control_port) rule
  where
    control : (r : Passed) → ToControl pm frame (Ok r) after → PortsAre devices after
    control passed.Control acts = same_ports devices pm after (λ m. ap (λ (s : PmState). port_at s m) acts.2) are
    control _ acts = absurd acts

    device : (o : Option ℕ) (r : Passed) → MatchOption o (ToNobody pm (Ok r) after) (λ conn. ToDevice pm (pm_port frame) conn frame (Ok r) after) → PortsAre devices after
    device None passed.Dropped acts = same_ports devices pm after (λ m. ap (λ (s : PmState). port_at s m) acts) are
    device (Some conn) (passed.Down k) acts =
        port_written devices pm after (pm_port frame) (with_down (port_at pm (pm_port frame)) (Some (falling conn frame))) (λ m. ap (λ (s : PmState). port_at s m) acts.2)
        (λ place at. are (pm_port frame) place at) are
    device other _ acts = absurd acts

    by_test : (b : Bool) → MatchBool b (ToControl pm frame (Ok p) after) (ToPort pm frame (Ok p) after) → PortsAre devices after
    by_test true acts = control p acts
    by_test false acts = device (passes_to pm (pm_port frame)) p acts

heard_ports : (devices : List Place) (old : Queue) (pm : PmState) (a : Answer) (new : Queue) (after : PmState) → PmFromHostRule old pm (Ok a) new after → PortsAre devices pm → PortsAre devices after
heard_ports devices old pm answer.Idle new after acts are = same_ports devices pm after (λ m. ap (λ (s : PmState). port_at s m) acts.2) are
heard_ports devices old pm answer.Blocked new after acts are = same_ports devices pm after (λ m. ap (λ (s : PmState). port_at s m) acts.2) are
heard_ports devices old pm (answer.Passed p) new after acts are = passed_ports devices pm acts.0.0 p after acts.0.2 are
heard_ports devices old pm _ new after acts are = absurd acts

-- a place from which a frame went up is empty
emptied : (place : Place) (p : PortState) → Of place p → Of place (with_up p None)
emptied place p is = record { let_in = is.let_in; closed = is.closed; present = is.present; last = is.last; link = is.link; held = λ f e. absurd (cc) }

given_ports : (devices : List Place) (pm : PmState) (frame : Stamped) (after : PmState) → Gives pm frame after → PortsAre devices pm → PortsAre devices after
given_ports devices pm frame after (FromPort n was at other is stamp shown e) are =
    port_written devices pm after n (with_up (port_at pm n) None) (λ m. ap (λ (s : PmState). port_at s m) e) (λ place here. emptied place (port_at pm n) (are n place here)) are
given_ports devices pm frame after (Notice at due is e) are = same_ports devices pm after (λ m. ap (λ (s : PmState). port_at s m) e) are
given_ports devices pm frame after (Answers at is e) are = same_ports devices pm after (λ m. ap (λ (s : PmState). port_at s m) e) are

up_ports : (devices : List Place) (pm : PmState) (old : Queue) (a : Answer) (after : PmState) (new : Queue) → PmUpRule pm old (Ok a) after new → PortsAre devices pm → PortsAre devices after
up_ports devices pm old answer.Idle after new acts are = same_ports devices pm after (λ m. ap (λ (s : PmState). port_at s m) acts.2) are
up_ports devices pm old answer.Blocked after new acts are = same_ports devices pm after (λ m. ap (λ (s : PmState). port_at s m) acts.1) are
up_ports devices pm old (answer.Up n) after new acts are = given_ports devices pm acts.1.0 after (gives pm acts.1.0 after acts.1.2) are
up_ports devices pm old _ after new acts are = absurd acts

module _ (old : Places) (a : Answer) (new : Places) (orderly : IsOrderly old) (are : IsKnown old) where
  alone : (n : ℕ) (R : Place → Outcome → Place → Type 0) → ((place after : Place) (p : PortState) → R place (Ok a) after → Of place p → Of after p) → OnDevice old n (Ok a) new R → IsKnown new
  alone n R keeps rule =
      let d : AtDevice old n (Ok a) new R = at_device old n a new R rule in
      subst IsKnown (sym d.new_is)
      (set_each (λ (k : ℕ) (x : Place). Of x (port_at old.multiplier k)) old.devices n d.after (keeps d.place d.after (port_at old.multiplier n) d.rule (are n d.place d.is)) (λ k x other at. are k x at))

  both : (n : ℕ) (R : Place → PmState → Outcome → Place → PmState → Type 0)
      → ((low : n < 15) (place : Place) → Of place (port_at old.multiplier n) → (after : Place) (left : PmState) → R place old.multiplier (Ok a) after left → Leaves n old.multiplier after left)
      → OnDeviceAndMultiplier old n (Ok a) new R → IsKnown new
  both n R keeps rule =
      let d : AtBoth old n (Ok a) new R = at_both old n a new R rule in
      let below : n < length old.devices = get_below old.devices n d.place d.is in
      let most : length old.devices ≤ 15 = orderly.most in
      let l : Leaves n old.multiplier d.after d.left = keeps (omega (arith, below, most)) d.place (are n d.place d.is) d.after d.left d.rule in
      subst IsKnown (sym d.new_is)
      (set_each (λ (k : ℕ) (x : Place). Of x (port_at d.left k)) old.devices n d.after l.here (λ k x other at. subst (λ (p : PortState). Of x p) (sym (l.others k other)) (are k x at)))

  -- a step that leaves devices and multiplier
  aside : (left : Places) → new ≡ left → left.devices ≡ old.devices → left.multiplier ≡ old.multiplier → IsKnown new
  aside left e devices pm =
      subst IsKnown (sym e) (subst (λ (ds : List Place). PortsAre ds left.multiplier) (sym devices) (subst (λ (m : PmState). PortsAre old.devices m) (sym pm) are))

known_after : (old : Places) (s : Step) (a : Answer) (new : Places) → IsOrderly old → IsKnown old → Rule old s (Ok a) new → IsKnown new
known_after old (step.Came n) a new orderly are rule = alone old a new orderly are n (CameRule n) (λ place after p r. came_of n place a after p r) rule
known_after old (step.Gone n) a new orderly are rule = alone old a new orderly are n (GoneRule n) (λ place after p r. gone_of n place a after p r) rule
known_after old (step.DiskSend n) a new orderly are rule = alone old a new orderly are n (DiskSendRule n) (λ place after p r. send_of n place a after p r) rule
known_after old (step.Inject n bytes) a new orderly are rule = alone old a new orderly are n (InjectRule n bytes) (λ place after p r. inject_of n bytes place a after p r) rule
known_after old (step.DiskTake n) a new orderly are rule = alone old a new orderly are n (DiskTakeRule n) (λ place after p r. take_of n place a after p r) rule
known_after old (step.PmPresence n) a new orderly are rule =
    both old a new orderly are n (PmPresenceRule n) (λ low place is after left r. presence_leaves n old.multiplier orderly.room low place is a after left r) rule
known_after old (step.PmFromDevice n) a new orderly are rule =
    both old a new orderly are n (PmFromDeviceRule n) (λ low place is after left r. offer_leaves n old.multiplier orderly.room low place is a after left r) rule
known_after old (step.PmDown n) a new orderly are rule =
    both old a new orderly are n (PmDownRule n) (λ low place is after left r. down_leaves n old.multiplier orderly.room low place is a after left r) rule
known_after old step.PmFromHost a new orderly are rule = subst IsKnown (sym rule.1) (heard_ports old.devices old.downward old.multiplier a new.downward new.multiplier rule.0 are)
known_after old step.PmUp a new orderly are rule = subst IsKnown (sym rule.1) (up_ports old.devices old.multiplier old.upward a new.multiplier new.upward rule.0 are)
known_after old step.HostTake a new orderly are rule = subst IsKnown (sym rule.1) are
known_after old step.HostPush a new orderly are rule = subst IsKnown (sym rule.1) are
known_after old other a new orderly are rule = subst IsKnown (sym rule.1) are

-- ---- a run

run_known : ReachedAreOrderly → (old : Places) → IsReached old → (steps : List Step) (answers : List Answer) (new : Places) → IsKnown old → Run old steps answers new → IsKnown new
run_known orderly old r [] [] new are run = subst IsKnown (sym run) are
run_known orderly old r (s ∷ steps) (a ∷ answers) new are run =
    run_known orderly run.0 (reached_after old s a run.0 r run.1) steps answers new (known_after old s a run.0 (orderly old r) are run.1) run.2
run_known orderly old r [] (a ∷ answers) new are run = absurd run
run_known orderly old r (s ∷ steps) [] new are run = absurd run

each_empty : (count n : ℕ) → slice_index_or (replicate count empty_port) n empty_port ≡ empty_port
each_empty zero n = refl
each_empty (suc count) zero = refl
each_empty (suc count) (suc n) = each_empty count n

opening_of : (capacity : ℕ) (units : List Attached) (n : ℕ) (place : Place) → slice_get (map (opening capacity) units) n ≡ Some place → Of place empty_port
opening_of capacity [] n place at = absurd (cc)
opening_of capacity (u ∷ units) zero place at =
    subst (λ (p : Place). Of p empty_port) (same_Some (opening capacity u) place at)
    (record { let_in = tt; closed = record { there = λ c e. absurd (cc); none = λ e. refl }; present = refl; last = refl; link = tt; held = λ f e. absurd (cc) })
opening_of capacity (u ∷ units) (suc n) place at = opening_of capacity units n place at

pub known_reached : ReachedAreOrderly → (now : Places) → IsReached now → IsKnown now
known_reached orderly now r =
    run_known orderly (new_world_in r.mode r.config r.units) (record { mode = r.mode; config = r.config; units = r.units; fits = r.fits; steps = []; answers = []; run = refl }) r.steps r.answers now
    (λ n place at. subst (λ (p : PortState). Of place p) (sym (each_empty 15 n)) (opening_of r.config.capacity r.units n place at)) r.run
