-- For `rested_drivers_watch`. The signature of the control port comes: the second FIS of its software reset finds that the first one
-- came, and is answered.
use Rattle.std.proofs.Common.{◌≡◌, ◌≢◌, ℕ, ◌==◌, Bool, true, false, List, [], ◌∷◌, ◌++◌, append_assoc, refl, sym, ap, subst, ◌∙◌, inl, inr, Option}
use Rattle.std.proofs.{Common.{Some, None, Ok}, lemmas.{Bool.{cases_eq, eq-eqb, false≢true, ne_eqb}, Option.same_Some}}
use Rattle.std.specs.Prelude.{if◌then◌else◌, is_none, MatchBool, MatchOption}
use Rattle.fis_view.specs.{Built.{IsBuilt, cut, d2h_given}, Frames.Stamped, Table.{Count, D2h, Error, Lba, PmPort, Status, places}}
use Rattle.fis_view.specs.declared.frame.Stamp.{Stamp}
use Rattle.fis_view.proofs.Door.{port_bits, port_field}
use Rattle.pm_control.specs.{Answers.{IsAnswer, answer_to_request, mark_after_request, mark_left, signature}, Requests.request_in}
use Rattle.pm_control.specs.declared.request.Request.{Request}
use Rattle.pm_ports.specs.Port.{came_refusal, gone_refusal}
use Rattle.multiplier.specs.{Arbiter.control_port, Between.{Answer as Answers, FromPort, Gives, Notice}, Rules.{FromHostRule, ToControl, ToDevice}}
use Rattle.multiplier.specs.{Rules.{ToNobody, ToPort, with_device as connected, without_device}, State.{PmState, control_stamp, passes_to, pm_port}}
use Rattle.multiplier.specs.{State.port_at, declared.multiplier.Passed.Passed}
use Rattle.multiplier.specs.declared.multiplier.Passed.TheVariants as passed
use Rattle.hba_fbs.specs.{declared.report.TakeReport.TakeReport, Posting.is_signature, Taking.port_of, Views.view_of}
use Rattle.hba_driver.specs.{declared.order.Order.TheVariants.{AwaitSignature, ResetOff, ResetOn}, HostTurns.{Does, Host, Pushed, Took}, Slot31.Asks}
use Rattle.hba_driver.specs.Slot31.{Follows31, IsAt31, IsIn, IsSignature31, Pushes31, Resets, Signs, Stage31, TakesOn, Turns31, control_of}
use Rattle.hba_driver.specs.Slot31.{is_resetting}
use Rattle.hba_driver.proofs.Door.{turn_addressed}
use Rattle.pm_world.specs.{Attached.Attached, Line.{IsEnd, IsReset, OnLine, is_register}, Places.new_world, Rules.recorded}
use Rattle.pm_world.specs.declared.{link.Change.Change, step.Config.Config}
use Rattle.pm_world.specs.declared.link.Change.TheVariants as change
use Rattle.world_rests.proofs.{ControlFile.{IsCalm, recorded_answer}, Orders.{Among, among_last, among_more}, Turning.{ends_last, inside_reset}}
use Rattle.world_rests.proofs.{Turning.{inside_turn, none_last, not_quiet, pushed_turn, resets_last, same_reset, took_turn}, Ways.{Hears, IsGood}}
use Rattle.world_rests.proofs.Ways.{Line, Pushes, Records, Rises as GoesUp, Stays, Takes, Turns, Way, line_of}

-- ---- whether the first FIS came

-- once the multiplier took this frame
abbrev pub step_mark : Bool → Stamped → Bool
step_mark mark f = if pm_port f == control_port then mark_left mark f.bytes else mark

-- once it took all these
abbrev pub mark_over : Bool → List Stamped → Bool
mark_over mark [] = mark
mark_over mark (f ∷ fs) = mark_over (step_mark mark f) fs

mark_app : (mark : Bool) (xs : List Stamped) (f : Stamped) → mark_over mark (xs ++ f ∷ []) ≡ step_mark (mark_over mark xs) f
mark_app mark [] f = refl
mark_app mark (x ∷ xs) f = mark_app (step_mark mark x) xs f

pub record IsSign (g : Stamped) : Type 0 where
  pub from : port_of g.bytes ≡ 15
  pub sign : IsSignature31 g.bytes

-- the second FIS goes down behind the first, or the signature waits or goes up
pub data Comes (l : Line) : Type 0 where
  Falls : (before after : List Stamped) (f : Stamped) → l.down ≡ before ++ f ∷ after → pm_port f ≡ control_port → IsEnd f → mark_over l.pm.resetting before ≡ true → Comes l
  Waits : (g : Stamped) → l.pm.answer ≡ Some g → IsSign g → Comes l
  Rises : (g : Stamped) → Among g l.up → IsSign g → Comes l

abbrev pub OnSign : Stage31 → Line → Type 0
OnSign Resets l = mark_over l.pm.resetting l.down ≡ true
OnSign Signs l = Comes l
OnSign stage l = Unit {0}

abbrev pub IsSigned : Line → Type 0
IsSigned l = (stage : Stage31) → IsAt31 stage l.host → OnSign stage l

-- a stage of a software reset
by_reset : (l : Line) (s : Stage31) → (is_resetting s ≡ true → OnSign s l) → OnSign s l
by_reset l Resets on = on refl
by_reset l Signs on = on refl
by_reset l other on = tt

-- ---- a frame that the multiplier takes

signs_bytes : (bytes : List ℕ) → IsBuilt D2h (d2h_given signature) bytes → is_signature bytes ≡ true
unfolding cut places
signs_bytes bytes built = rw (built.fields Error, built.fields Status, built.fields Count, built.fields Lba) refl

own_port : cut (places D2h PmPort) 15 ≡ 15
unfolding cut places
own_port = refl

signs_frame : (g : Stamped) → IsBuilt D2h (d2h_given signature) g.bytes → IsSign g
signs_frame g built = record {
  from = sym (port_bits g.bytes) ∙ sym (port_field D2h g.bytes) ∙ built.fields PmPort ∙ own_port;
  sign = record { viewed = built.viewed; signs = signs_bytes g.bytes built };
}

is_sign : (stamp : Stamp) (now : Option Stamped) → IsAnswer (Some signature) stamp now → (g : Stamped) × (now ≡ Some g) × IsSign g
is_sign stamp None is = absurd is
is_sign stamp (Some g) is = (g, refl, signs_frame g is.0)

module _ (old new : PmState) (f : Stamped) where
  -- the control port takes it, or another place does
  data Heard : Type 0 where
    ByControl : pm_port f ≡ control_port → old.answer ≡ None → IsAnswer (answer_to_request old.resetting old.registers (request_in f.bytes)) (control_stamp old) new.answer → new.resetting ≡ mark_left old.resetting f.bytes → Heard
    ByOther : pm_port f ≢ control_port → new.answer ≡ old.answer → new.resetting ≡ old.resetting → Heard

  by_conn : (p : Passed) (o : Option ℕ) → MatchOption o (ToNobody old (Ok p) new) (λ conn. ToDevice old (pm_port f) conn f (Ok p) new) → (new.answer ≡ old.answer) × (new.resetting ≡ old.resetting)
  by_conn passed.Dropped None acts = (ap (λ (pm : PmState). pm.answer) acts, ap (λ (pm : PmState). pm.resetting) acts)
  by_conn _ None acts = absurd acts
  by_conn (passed.Down m) (Some conn) acts = (ap (λ (pm : PmState). pm.answer) acts.2, ap (λ (pm : PmState). pm.resetting) acts.2)
  by_conn _ (Some conn) acts = absurd acts

  by_control : (p : Passed) → pm_port f ≡ control_port → ToControl old f (Ok p) new → Heard
  by_control passed.Control own acts = ByControl own acts.0 acts.1 (ap (λ (pm : PmState). pm.resetting) acts.2)
  by_control _ own acts = absurd acts

  heard_by : (p : Passed) → FromHostRule old f (Ok p) new → Heard
  heard_by p rule = elim (cases_eq (pm_port f) control_port) [
    | inl own ↦
        by_control p own (subst (λ (b : Bool). MatchBool b (ToControl old f (Ok p) new) (ToPort old f (Ok p) new)) (eq-eqb (pm_port f) control_port own) rule)
    | inr other ↦
        let c = by_conn p (passes_to old (pm_port f)) (subst (λ (b : Bool). MatchBool b (ToControl old f (Ok p) new) (ToPort old f (Ok p) new)) (ne_eqb (pm_port f) control_port other) rule) in
        ByOther other c.0 c.1
  ]

  heard_mark : Heard → new.resetting ≡ step_mark old.resetting f
  heard_mark (ByControl own none is mark) = mark ∙ sym (ap (λ (b : Bool). if b then mark_left old.resetting f.bytes else old.resetting) (eq-eqb (pm_port f) control_port own))
  heard_mark (ByOther other same mark) = mark ∙ sym (ap (λ (b : Bool). if b then mark_left old.resetting f.bytes else old.resetting) (ne_eqb (pm_port f) control_port other))

module _ (l : Line) (f : Stamped) (rest : List Stamped) (pm : PmState) (is : l.down ≡ f ∷ rest) (heard : Heard l.pm pm f) where
  abbrev after : Line
  after = record l { down = rest; pm = pm }

  marked : (fs : List Stamped) → mark_over l.pm.resetting (f ∷ fs) ≡ true → mark_over pm.resetting fs ≡ true
  marked fs on = ap (λ (b : Bool). mark_over b fs) (heard_mark l.pm pm f heard) ∙ on

  ends_now : pm_port f ≡ control_port → IsEnd f → l.pm.resetting ≡ true → Heard l.pm pm f → Comes after
  ends_now own end on (ByOther other same mark) = absurd (other own)
  ends_now own end on (ByControl at none said mark) =
      let g = is_sign (control_stamp l.pm) pm.answer
      (subst (λ (b : Bool). IsAnswer (if b then Some signature else None) (control_stamp l.pm) pm.answer) on
      (subst (λ (r : Option Request). IsAnswer (answer_to_request l.pm.resetting l.pm.registers r) (control_stamp l.pm) pm.answer) end said)) in
      Waits g.0 g.1 g.2

  falls : (before later : List Stamped) (x : Stamped) → f ∷ rest ≡ before ++ x ∷ later → pm_port x ≡ control_port → IsEnd x → mark_over l.pm.resetting before ≡ true → Comes after
  falls [] later x e own end on =
      let same : x ≡ f = cc e in
      ends_now (ap pm_port (sym same) ∙ own) (subst IsEnd same end) on heard
  falls (y ∷ before) later x e own end on =
      let same : y ≡ f = cc e in
      let behind : rest ≡ before ++ x ∷ later = cc e in
      Falls before later x behind own end (marked before (subst (λ (z : Stamped). mark_over l.pm.resetting (z ∷ before) ≡ true) same on))

  waits : (g : Stamped) → l.pm.answer ≡ Some g → IsSign g → Heard l.pm pm f → Comes after
  waits g there s (ByControl own none said mark) = absurd (let wrong : None ≡ Some g = sym none ∙ there in cc)
  waits g there s (ByOther other same mark) = Waits g (same ∙ there) s

  heard_comes : Comes l → Comes after
  heard_comes (Falls before later x e own end on) = falls before later x (sym is ∙ e) own end on
  heard_comes (Waits g there s) = waits g there s heard
  heard_comes (Rises g there s) = Rises g there s

  heard_on : (s : Stage31) → OnSign s l → OnSign s after
  heard_on Resets on = marked rest (subst (λ (fs : List Stamped). mark_over l.pm.resetting fs ≡ true) is on)
  heard_on Signs comes = heard_comes comes
  heard_on other on = tt

-- ---- what leaves the multiplier as it is for this

kept_on : (l : Line) (pm : PmState) → pm.resetting ≡ l.pm.resetting → pm.answer ≡ l.pm.answer → (s : Stage31) → OnSign s l → OnSign s (record l { pm = pm })
kept_on l pm resetting answer Resets on = ap (λ (b : Bool). mark_over b l.down) resetting ∙ on
kept_on l pm resetting answer Signs (Falls before after f e own end on) = Falls before after f e own end (ap (λ (b : Bool). mark_over b before) resetting ∙ on)
kept_on l pm resetting answer Signs (Waits g there s) = Waits g (answer ∙ there) s
kept_on l pm resetting answer Signs (Rises g there s) = Rises g there s
kept_on l pm resetting answer other on = tt

recorded_mark : (pm : PmState) (n : ℕ) (c : Change) → (recorded pm n c).resetting ≡ pm.resetting
recorded_mark pm n (change.Came conn) = by_test (is_none (came_refusal (port_at pm n) conn))
  where
    by_test : (b : Bool) → (if b then connected pm n conn else pm).resetting ≡ pm.resetting
    by_test true = refl
    by_test false = refl
recorded_mark pm n (change.Gone conn) = by_test (is_none (gone_refusal (port_at pm n) conn))
  where
    by_test : (b : Bool) → (if b then without_device pm n conn else pm).resetting ≡ pm.resetting
    by_test true = refl
    by_test false = refl

given_mark : (old new : PmState) (f : Stamped) → Gives old f new → new.resetting ≡ old.resetting
given_mark old new f (FromPort n was next other is port shown e) = ap (λ (pm : PmState). pm.resetting) e
given_mark old new f (Notice next due is e) = ap (λ (pm : PmState). pm.resetting) e
given_mark old new f (Answers next is e) = ap (λ (pm : PmState). pm.resetting) e

given_waits : (l : Line) (pm : PmState) (f : Stamped) (g : Stamped) → Gives l.pm f pm → l.pm.answer ≡ Some g → IsSign g → Comes (record l { pm = pm; up = l.up ++ f ∷ [] })
given_waits l pm f g (FromPort n was next other is port shown e) there s = Waits g (ap (λ (x : PmState). x.answer) e ∙ there) s
given_waits l pm f g (Notice next due is e) there s = Waits g (ap (λ (x : PmState). x.answer) e ∙ there) s
given_waits l pm f g (Answers next is e) there s = Rises f (among_last f l.up) (subst IsSign (same_Some g f (sym there ∙ is)) s)

given_on : (l : Line) (pm : PmState) (f : Stamped) → Gives l.pm f pm → (s : Stage31) → OnSign s l → OnSign s (record l { pm = pm; up = l.up ++ f ∷ [] })
given_on l pm f gave Resets on = ap (λ (b : Bool). mark_over b l.down) (given_mark l.pm pm f gave) ∙ on
given_on l pm f gave Signs (Falls before after x e own end on) = Falls before after x e own end (ap (λ (b : Bool). mark_over b before) (given_mark l.pm pm f gave) ∙ on)
given_on l pm f gave Signs (Waits g there s) = given_waits l pm f g gave there s
given_on l pm f gave Signs (Rises g there s) = Rises g (among_more g f l.up there) s
given_on l pm f gave other on = tt

-- ---- a frame that the host takes

-- it is no signature
drops : (l : Line) (f : Stamped) (rest : List Stamped) (host : Host) → l.up ≡ f ∷ rest → (IsSign f → ⊥) → (s : Stage31) → OnSign s l → OnSign s (record l { host = host; up = rest })
drops l f rest host is never Resets on = on
drops l f rest host is never Signs (Falls before after x e own end on) = Falls before after x e own end on
drops l f rest host is never Signs (Waits g there s) = Waits g there s
drops l f rest host is never Signs (Rises g there s) = by_place (subst (Among g) is there)
  where
    by_place : Among g (f ∷ rest) → Comes (record l { host = host; up = rest })
    by_place (inl same) = absurd (never (subst IsSign (sym same) s))
    by_place (inr behind) = Rises g behind s
drops l f rest host is never other on = tt

module _ (l : Line) (g : IsGood l) (signed : IsSigned l) (f : Stamped) (rest : List Stamped) (is : l.up ≡ f ∷ rest) (report : TakeReport) (host : Host) (t : Turns31 g.stage l.host (Took f.bytes report) host) where
  taken_on : (s : Stage31) → IsAt31 s host → is_resetting s ≡ true → OnSign s (record l { host = host; up = rest })
  taken_on s at on = elim (cases_eq (port_of f.bytes) 15) [
    | inr other ↦ from_stage (same ∙ t.is.1 other) (λ x. other x.from)
    | inl own ↦ by_kind (t.is.0 own)
  ]
    where
      same : s ≡ t.next
      same = sym (same_reset t.next s host t.at at on)

      from_stage : s ≡ g.stage → (IsSign f → ⊥) → OnSign s (record l { host = host; up = rest })
      from_stage e never = drops l f rest host is never s (signed s (subst (λ (x : Stage31). IsAt31 x l.host) (sym e) g.at))

      by_kind : TakesOn g.stage f.bytes t.next → OnSign s (record l { host = host; up = rest })
      by_kind (inl h) = from_stage (same ∙ h.0) (λ x. false≢true (sym (ap is_register h.1.viewed) ∙ ap is_register x.sign.viewed))
      by_kind (inr h) = absurd (not_quiet t.next h.0 (ap is_resetting (sym same) ∙ on))

-- ---- a frame that the host gives

module _ (l : Line) (g : IsGood l) (signed : IsSigned l) (f : Stamped) (host : Host) (does : Does l.host (Pushed (Some f)) host) (h : IsGood (record l { host = host; down = l.down ++ f ∷ [] })) where
  abbrev later : Line
  later = record l { host = host; down = l.down ++ f ∷ [] }

  turn : Turns31 g.stage l.host (Pushed (Some f)) host
  turn = pushed_turn l g f host does

  port : pm_port f ≡ f.stamp.port
  port = turn_addressed l.host (Pushed (Some f)) host does g.going.way.sound g.their

  at_old : (s : Stage31) → s ≡ g.stage → OnSign s l
  at_old s e = signed s (subst (λ (x : Stage31). IsAt31 x l.host) (sym e) g.at)

  passes : f.stamp.port ≢ 15 → (mark : Bool) → step_mark mark f ≡ mark
  passes other mark = ap (λ (b : Bool). if b then mark_left mark f.bytes else mark) (ne_eqb (pm_port f) control_port (λ own. other (sym port ∙ own)))

  more : f.stamp.port ≢ 15 → (s : Stage31) → OnSign s l → OnSign s later
  more other Resets on = mark_app l.pm.resetting l.down f ∙ passes other (mark_over l.pm.resetting l.down) ∙ on
  more other Signs (Falls before after x e own end on) = Falls before (after ++ f ∷ []) x (ap (λ (xs : List Stamped). xs ++ f ∷ []) e ∙ append_assoc before (x ∷ after) (f ∷ [])) own end on
  more other Signs (Waits y there s) = Waits y there s
  more other Signs (Rises y there s) = Rises y there s
  more other s on = tt

  -- the stage that the frame leads to is that of what is on its way then
  line_at : (s : Stage31) → turn.next ≡ s → is_resetting s ≡ true → OnLine s later.down later.pm.answer later.up
  line_at s e on = subst (λ (x : Stage31). OnLine x later.down later.pm.answer later.up) (same_reset h.stage s host h.at (subst (λ (x : Stage31). IsAt31 x host) e turn.at) on) h.line

  module _ (own : f.stamp.port ≡ 15) where
    to_control : pm_port f ≡ control_port
    to_control = port ∙ own

    begins : turn.next ≡ Resets → mark_over l.pm.resetting later.down ≡ true
    begins e =
        let resets : IsReset f = resets_last l.down f (line_at Resets e refl).0 to_control in
        mark_app l.pm.resetting l.down f ∙ ap (λ (b : Bool). if b then mark_left (mark_over l.pm.resetting l.down) f.bytes else mark_over l.pm.resetting l.down) (eq-eqb (pm_port f) control_port to_control)
        ∙ ap (mark_after_request (mark_over l.pm.resetting l.down)) resets

    ends : turn.next ≡ Signs → g.stage ≡ Resets → Comes later
    ends e was = elim (line_at Signs e refl) [
      | inl owed ↦ Falls l.down [] f refl to_control (ends_last IsReset IsEnd l.down f owed.0 to_control) (at_old Resets (sym was))
      | inr come ↦ absurd (none_last l.down f come.0 to_control)
    ]

    by_way : (s : Stage31) → turn.next ≡ s → is_resetting s ≡ true → Follows31 g.stage l.host.driver.plan.order turn.next → OnSign s later
    by_way Resets e on follows = begins e
    by_way Signs e on (inl w) = absurd (let wrong : Signs ≡ Resets = sym e ∙ w.2 in cc)
    by_way Signs e on (inr (inl w)) = absurd (let wrong : Signs ≡ Asks = sym e ∙ w.2 in cc)
    by_way Signs e on (inr (inr w)) = ends e w.0
    by_way other e on follows = tt

  pushed_on : (s : Stage31) → IsAt31 s host → is_resetting s ≡ true → OnSign s later
  pushed_on s at on = elim (cases_eq f.stamp.port 15) [
    | inr other ↦ more other s (at_old s (sym (same_reset turn.next s host turn.at at on) ∙ turn.is.1 other))
    | inl own ↦ let p : Pushes31 g.stage l.host f turn.next = turn.is.0 own in by_way own s (same_reset turn.next s host turn.at at on) on p.follows
  ]

-- ---- each way

turned_on : (l : Line) (host : Host) (s : Stage31) → OnSign s l → OnSign s (record l { host = host })
turned_on l host Resets on = on
turned_on l host Signs (Falls before after f e own end on) = Falls before after f e own end on
turned_on l host Signs (Waits g there s) = Waits g there s
turned_on l host Signs (Rises g there s) = Rises g there s
turned_on l host other on = tt

pub keeps_signed : (l m : Line) → IsGood l → IsCalm l → IsGood m → Way l m → IsSigned l → IsSigned m
keeps_signed l m g c h (Stays pm registers resetting answer e) signed = subst IsSigned (sym e) (λ s at. kept_on l pm resetting answer s (signed s at))
keeps_signed l m g c h (Records n what e) signed = subst IsSigned (sym e) (λ s at. kept_on l (recorded l.pm n what) (recorded_mark l.pm n what) (recorded_answer l.pm n what) s (signed s at))
keeps_signed l m g c h (Hears f rest p pm is rule e) signed = subst IsSigned (sym e) (λ s at. heard_on l f rest pm is (heard_by l.pm pm f p rule) s (signed s at))
keeps_signed l m g c h (GoesUp f pm gave e) signed = subst IsSigned (sym e) (λ s at. given_on l pm f gave s (signed s at))
keeps_signed l m g c h (Takes f rest report host is does of e) signed =
    subst IsSigned (sym e) (λ s at. by_reset (record l { host = host; up = rest }) s (taken_on l g signed f rest is report host (took_turn l g c f rest is report host does of) s at))
keeps_signed l m g c h (Pushes f host does e) signed =
    subst IsSigned (sym e) (λ s at. by_reset (record l { host = host; down = l.down ++ f ∷ [] }) s (pushed_on l g signed f host does (subst IsGood e h) s at))
keeps_signed l m g c h (Turns t inside host does e) signed =
    subst IsSigned (sym e) (λ s at. by_reset (record l { host = host }) s (λ on.
    let n : Turns31 g.stage l.host t host = inside_turn l g t inside host does in
    let same : n.next ≡ s = same_reset n.next s host n.at at on in
    let was : s ≡ g.stage = sym same ∙ inside_reset t inside g.stage n.next l.host host n.is (ap is_resetting same ∙ on) in
    turned_on l host s (signed s (subst (λ (x : Stage31). IsAt31 x l.host) (sym was) g.at))))

-- ---- at rest

none_comes : (l : Line) → l.down ≡ [] → l.pm.answer ≡ None → l.up ≡ [] → Comes l → ⊥
none_comes l down waits up (Falls before after f e own end on) = by_first before (sym down ∙ e)
  where
    by_first : (xs : List Stamped) → [] ≡ xs ++ f ∷ after → ⊥
    by_first [] e = cc e
    by_first (x ∷ xs) e = cc e
none_comes l down waits up (Waits g there s) = let wrong : None ≡ Some g = sym waits ∙ there in cc
none_comes l down waits up (Rises g there s) = subst (Among g) up there

-- where nothing is on its way no signature is awaited
pub none_awaited : (l : Line) → IsGood l → IsSigned l → l.down ≡ [] → l.pm.answer ≡ None → l.up ≡ [] → l.host.driver.plan.order ≡ AwaitSignature → (view_of 15 l.host.port).state.resetting ≡ true → ⊥
none_awaited l g signed down waits up order on = by_stage g.stage refl (sym g.at.resetting ∙ on)
  where
    resets : IsIn Resets l.host.driver.plan.order l.host.driver.plan.asked (control_of l.host) → ⊥
    resets (inl h) = let wrong : AwaitSignature ≡ ResetOn = sym order ∙ h.0 in cc
    resets (inr h) = let wrong : AwaitSignature ≡ ResetOff = sym order ∙ h.0 in cc

    by_stage : (s : Stage31) → g.stage ≡ s → is_resetting s ≡ true → ⊥
    by_stage Resets e now = resets (subst (λ (x : Stage31). IsIn x l.host.driver.plan.order l.host.driver.plan.asked (control_of l.host)) e g.at.is)
    by_stage Signs e now = none_comes l down waits up (signed Signs (subst (λ (x : Stage31). IsAt31 x l.host) e g.at))
    by_stage other e now = false≢true now

-- as a world opens no software reset of the control port is under way
pub opens_signed : (config : Config) (units : List Attached) → IsSigned (line_of (new_world config units))
opens_signed config units s at = by_reset (line_of (new_world config units)) s (λ on. absurd (false≢true (at.resetting ∙ on)))
