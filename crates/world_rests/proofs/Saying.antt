-- For `rested_ports_are_open`. The command of slot 31 on its way to the multiplier, and the answer to it on the way back, over each way:
-- what the answer tells stays, until the driver has looked at it.
use Rattle.std.proofs.Common.{◌≡◌, ◌≢◌, ◌⊎◌, ℕ, ◌==◌, ◌&&◌, Bool, true, false, List, [], ◌∷◌, ◌++◌, refl, sym, ap, subst, ◌∙◌, inl, inr, Some, None}
use Rattle.std.proofs.{Common.Ok, lemmas.{Bool.{cases_Bool, cases_eq, eq-eqb, false≢true, ne_eqb, true≢false}, Option.same_Some}}
use Rattle.std.specs.Prelude.{is_some}
use Rattle.fis_view.specs.{Frames.Stamped, Seen.seen}
use Rattle.fis_view.specs.declared.view.Fis.TheVariants as view
use Rattle.slots.specs.Slots.{own_issue}
use Rattle.multiplier.specs.{Arbiter.control_port, State.{PmState, pm_port}}
use Rattle.hba_fbs.specs.{declared.report.TakeReport.TakeReport, Taking.port_of, Views.DeviceView}
use Rattle.hba_driver.specs.{Drivers.Driver, HostTurns.{Does, Host, HostTurn, Pushed, Took}, Scans.{Comes, Keeps as TellsOn, Tells, told_in}}
use Rattle.hba_driver.specs.{Sights.answer_in, Slot31.{Asks, Control, Fails, Follows31, IsAt31, IsFree31, IsNext31, Signs, Stage31, TakesOn, TicksOn}}
use Rattle.hba_driver.specs.Slot31.{Turns31, Waits, control_in, control_of, has_failed, is_idle}
use Rattle.hba_driver.proofs.Door.{tells_on, turn_addressed}
use Rattle.pm_world.specs.Line.{NoneDown, NoneUp, OnLine, is_register, is_reply}
use Rattle.world_rests.proofs.{ControlFile.IsCalm, Orders.{Among, among_last, among_more, none_down}, SetUp.{Came, Falls, Held, IsCommand, IsComing}}
use Rattle.world_rests.proofs.SetUp.{IsSaid, IsWell, Rises, Unsent, command_of, free_by, is_asking, is_ordered, reply_by, waits_by}
use Rattle.world_rests.proofs.{Slot31.none_there, Turning.{inside_turn, none_reply, pushed_turn}, Ways.{IsGood, IsInside, Line}}

-- ---- the multiplier

module _ (l : Line) (pm : PmState) where
  abbrev after : Line
  after = record l { pm = pm }

  pub coming_pm : IsComing l → IsComing after
  coming_pm (Unsent w) = Unsent w
  coming_pm (Falls f there own) = Falls f there own

  pub said_pm : (P : ℕ → Type 0) → pm.answer ≡ l.pm.answer → IsSaid P l → IsSaid P after
  said_pm P answer (Held f there reply is) = Held f (answer ∙ there) reply is
  said_pm P answer (Rises f there reply is) = Rises f there reply is
  said_pm P answer (Came clear told) = Came (record { down = clear.down; waits = answer ∙ clear.waits; up = clear.up }) told

-- it takes a frame to another port
module _ (l : Line) (f : Stamped) (rest : List Stamped) (pm : PmState) (is : l.down ≡ f ∷ rest) (other : pm_port f ≢ control_port) where
  abbrev heard : Line
  heard = record l { down = rest; pm = pm }

  pub coming_other : IsComing l → IsComing heard
  coming_other (Unsent w) = Unsent w
  coming_other (Falls x there own) = by_place (subst (Among x) is there)
    where
      by_place : Among x (f ∷ rest) → IsComing heard
      by_place (inl e) = absurd (other (ap pm_port e ∙ own))
      by_place (inr more) = Falls x more own

  pub said_other : (P : ℕ → Type 0) → pm.answer ≡ l.pm.answer → IsSaid P l → IsSaid P heard
  said_other P answer (Held x there reply v) = Held x (answer ∙ there) reply v
  said_other P answer (Rises x there reply v) = Rises x there reply v
  said_other P answer (Came clear told) = Came (record { down = (subst NoneDown is clear.down).1; waits = answer ∙ clear.waits; up = clear.up }) told

-- ---- a frame rises

none_up_more : (xs : List Stamped) (f : Stamped) → NoneUp xs → is_reply f ≡ false → NoneUp (xs ++ f ∷ [])
none_up_more [] f none is = (is, tt)
none_up_more (x ∷ xs) f none is = (none.0, none_up_more xs f none.1 is)

and_none : (b : Bool) → (b && false) ≡ false
and_none true = refl
and_none false = refl

-- a frame of another port is no answer, and neither is a notification
pub not_control : (f : Stamped) (n : ℕ) → n ≢ control_port → f.stamp.port ≡ n → is_reply f ≡ false
not_control f n other is = ap (λ (b : Bool). b && is_register (seen f.bytes)) (ne_eqb f.stamp.port control_port (λ e. other (sym is ∙ e)))

pub notice_none : (f : Stamped) → seen f.bytes ≡ Ok (view.SetBits f.bytes) → is_reply f ≡ false
notice_none f viewed = ap (λ r. (f.stamp.port == control_port) && is_register r) viewed ∙ and_none (f.stamp.port == control_port)

module _ (l : Line) (f : Stamped) (pm : PmState) where
  abbrev risen : Line
  risen = record l { pm = pm; up = l.up ++ f ∷ [] }

  pub coming_risen : IsComing l → IsComing risen
  coming_risen (Unsent w) = Unsent w
  coming_risen (Falls x there own) = Falls x there own

  -- the answer waits on, and the frame is none
  pub said_beside : (P : ℕ → Type 0) → pm.answer ≡ l.pm.answer → is_reply f ≡ false → IsSaid P l → IsSaid P risen
  said_beside P answer none (Held x there reply v) = Held x (answer ∙ there) reply v
  said_beside P answer none (Rises x there reply v) = Rises x (among_more x f l.up there) reply v
  said_beside P answer none (Came clear told) = Came (record { down = clear.down; waits = answer ∙ clear.waits; up = none_up_more l.up f clear.up none }) told

  -- the answer is the frame
  pub said_answer : (P : ℕ → Type 0) → l.pm.answer ≡ Some f → IsSaid P l → IsSaid P risen
  said_answer P is (Held x there reply v) =
      let same : x ≡ f = same_Some x f (sym there ∙ is) in
      Rises f (among_last f l.up) (subst (λ (y : Stamped). is_reply y ≡ true) same reply) (subst (λ (y : Stamped). P (answer_in (seen y.bytes))) same v)
  said_answer P is (Rises x there reply v) = Rises x (among_more x f l.up there) reply v
  said_answer P is (Came clear told) = absurd (let wrong : None ≡ Some f = sym clear.waits ∙ is in cc)

-- ---- the stage over a turn

-- a fault of the control port stays
pub well_was : (s next : Stage31) (h k : Host) → IsAt31 s h → IsAt31 next k → (has_failed s ≡ true → has_failed next ≡ true) → IsWell k → IsWell h
well_was s next h k at after stays well = elim (cases_Bool (has_failed s)) [
  | inl failed ↦ absurd (true≢false (sym (after.fault ∙ stays failed) ∙ well))
  | inr fine ↦ at.fault ∙ fine
]

pub view_well : (h k : Host) → (control_of k).view ≡ (control_of h).view → IsWell k → IsWell h
view_well h k same well = ap (λ (x : DeviceView). is_some x.fault) (sym same) ∙ well

pub took_failed : (s next : Stage31) (old new : Host) (frame : List ℕ) (report : TakeReport) → IsNext31 s old (Took frame report) new next → has_failed s ≡ true → has_failed next ≡ true
took_failed s next old new frame report is failed = elim (cases_eq (port_of frame) 15) [
  | inl own ↦ by_kind (is.0 own)
  | inr other ↦ ap has_failed (is.1 other) ∙ failed
]
  where
    by_kind : TakesOn s frame next → has_failed next ≡ true
    by_kind (inl h) = ap has_failed h.0 ∙ failed
    by_kind (inr (quiet, inl a)) = absurd (false≢true (sym (ap has_failed a.0) ∙ failed))
    by_kind (inr (quiet, inr a)) = absurd (false≢true (sym (ap has_failed a.0) ∙ failed))

took_waits : (s next : Stage31) (old new : Host) (frame : List ℕ) (report : TakeReport) → IsNext31 s old (Took frame report) new next → s ≡ Waits → next ≡ Waits
took_waits s next old new frame report is waits = elim (cases_eq (port_of frame) 15) [
  | inl own ↦ by_kind (is.0 own)
  | inr other ↦ is.1 other ∙ waits
]
  where
    by_kind : TakesOn s frame next → next ≡ Waits
    by_kind (inl h) = h.0 ∙ waits
    by_kind (inr (quiet, inl a)) = absurd (let wrong : Waits ≡ Asks = sym waits ∙ a.0 in cc)
    by_kind (inr (quiet, inr a)) = absurd (let wrong : Waits ≡ Signs = sym waits ∙ a.0 in cc)

pub pushed_failed : (s next : Stage31) (old new : Host) (f : Stamped) → IsNext31 s old (Pushed (Some f)) new next → has_failed s ≡ true → has_failed next ≡ true
pushed_failed s next old new f is failed = elim (cases_eq f.stamp.port 15) [
  | inl own ↦ by_way (is.0 own).follows
  | inr other ↦ ap has_failed (is.1 other) ∙ failed
]
  where
    by_way : Follows31 s old.driver.plan.order next → has_failed next ≡ true
    by_way (inl h) = absurd (false≢true (sym (ap has_failed h.0) ∙ failed))
    by_way (inr (inl h)) = absurd (false≢true (sym (ap has_failed h.0) ∙ failed))
    by_way (inr (inr h)) = absurd (false≢true (sym (ap has_failed h.0) ∙ failed))

-- a command that waits goes on to wait over a tick
pub ticks_waits : (a b : Stage31) → TicksOn a b → a ≡ Waits → b ≡ Waits
ticks_waits a b (inl (inl e)) w = e ∙ w
ticks_waits a b (inl (inr idle)) w = absurd (false≢true (sym (ap is_idle w) ∙ idle.0))
ticks_waits a b (inr fails) w = absurd (let wrong : Waits ≡ Fails = sym w ∙ fails.0 in cc)

-- ---- a frame that the host takes

took_bytes : (a b : List ℕ) (r s : TakeReport) → Took a r ≡ Took b s → b ≡ a
took_bytes a b r s e = let same : a ≡ b = cc in sym same

module _ (l : Line) (g : IsGood l) (c : IsCalm l) (f : Stamped) (rest : List Stamped) (is : l.up ≡ f ∷ rest) (report : TakeReport) (host : Host) (does : Does l.host (Took f.bytes report) host)
    (t : Turns31 g.stage l.host (Took f.bytes report) host) (h : IsGood (record l { host = host; up = rest })) where
  abbrev taken : Line
  taken = record l { host = host; up = rest }

  pub took_same : control_in host.driver.plan ≡ control_in l.host.driver.plan
  took_same = ap (λ (d : Driver). control_in d.plan) does.driver

  pub took_coming : IsComing l → IsComing taken
  took_coming (Unsent w) = Unsent (subst (λ (s : Stage31). IsAt31 s host) (took_waits g.stage t.next l.host host f.bytes report t.is (waits_by g.stage l.host w g.at g.at.is)) t.at)
  took_coming (Falls x there own) = Falls x there own

  -- what is told of it where slot 31 is free
  told_now : is_ordered host ≡ true → IsFree31 (control_of host) → Tells g.stage l.host (Took f.bytes report) host
  told_now asks free =
      let k : IsCommand host.driver.plan.order host.driver.plan.asked = command_of host.driver.plan.order host.driver.plan.asked asks in
      tells_on g.stage t.next l.host (Took f.bytes report) host does g.going h.going g.at t.at t.is k.asks k.on k.off free

  was_clear : is_ordered host ≡ true → IsFree31 (control_of l.host) → NoneUp l.up
  was_clear asks free =
      let k : IsCommand l.host.driver.plan.order l.host.driver.plan.asked = command_of l.host.driver.plan.order l.host.driver.plan.asked (ap (λ (c : Control). is_asking c.order c.asked) (sym took_same) ∙ asks) in
      (free_by g.stage l.host.driver.plan.order l.host.driver.plan.asked (control_of l.host) l.down l.pm.answer l.up k free g.at.is g.line).2

  reply_of : (frame : List ℕ) → frame ≡ f.bytes → port_of frame ≡ control_port → seen frame ≡ Ok (view.RegD2H frame) → is_reply f ≡ true
  reply_of frame same own viewed =
      let port : port_of f.bytes ≡ f.stamp.port = c.marks f (subst (Among f) (sym is) (inl refl)) does.framed in
      ap (λ (b : Bool). b && is_register (seen f.bytes)) (eq-eqb f.stamp.port control_port (sym port ∙ ap port_of (sym same) ∙ own)) ∙ ap (λ (b : List ℕ). is_register (seen b)) (sym same) ∙ ap is_register viewed

  module _ (P : ℕ → Type 0) where
    -- the answer comes
    came_now : is_ordered host ≡ true → is_reply f ≡ true → P (answer_in (seen f.bytes)) → IsFree31 (control_of host) → P (told_in (control_of host))
    came_now asks reply v free = by_tells (told_now asks free)
      where
        by_tells : Tells g.stage l.host (Took f.bytes report) host → P (told_in (control_of host))
        by_tells (TellsOn was same) = none_reply f rest reply (subst NoneUp is (was_clear asks was))
        by_tells (Comes frame r e own asking viewed told) = subst P (sym (told ∙ ap (λ (b : List ℕ). answer_in (seen b)) (took_bytes f.bytes frame report r e))) v

    -- it came before
    came_before : is_ordered host ≡ true → NoneUp l.up → (IsFree31 (control_of l.host) → P (told_in (control_of l.host))) → IsFree31 (control_of host) → P (told_in (control_of host))
    came_before asks none was_told free = by_tells (told_now asks free)
      where
        by_tells : Tells g.stage l.host (Took f.bytes report) host → P (told_in (control_of host))
        by_tells (TellsOn was same) = subst P (sym same) (was_told was)
        by_tells (Comes frame r e own asking viewed told) = none_reply f rest (reply_of frame (took_bytes f.bytes frame report r e) own viewed) (subst NoneUp is none)

    pub took_said : is_ordered host ≡ true → IsSaid P l → IsComing taken ⊎ IsSaid P taken
    took_said asks (Held x there reply v) = inr (Held x there reply v)
    took_said asks (Rises x there reply v) = by_place (subst (Among x) is there)
      where
        by_place : Among x (f ∷ rest) → IsComing taken ⊎ IsSaid P taken
        by_place (inl e) =
            let its : is_reply f ≡ true = ap is_reply e ∙ reply in
            let clear = reply_by g.stage l.down l.pm.answer f rest (subst (λ (xs : List Stamped). OnLine g.stage l.down l.pm.answer xs) is g.line) its in
            inr (Came (record { down = clear.0; waits = clear.1; up = clear.2 }) (came_now asks its (subst (λ (y : Stamped). P (answer_in (seen y.bytes))) (sym e) v)))
        by_place (inr more) = inr (Rises x more reply v)
    took_said asks (Came clear told) =
        inr (Came (record { down = clear.down; waits = clear.waits; up = (subst NoneUp is clear.up).1 }) (came_before asks clear.up told))

-- ---- a frame that the host gives

none_down_more : (xs : List Stamped) (f : Stamped) → NoneDown xs → pm_port f ≢ control_port → NoneDown (xs ++ f ∷ [])
none_down_more [] f none is = (is, tt)
none_down_more (x ∷ xs) f none is = (none.0, none_down_more xs f none.1 is)

module _ (l : Line) (g : IsGood l) (f : Stamped) (host : Host) (does : Does l.host (Pushed (Some f)) host) (h : IsGood (record l { host = host; down = l.down ++ f ∷ [] })) where
  abbrev given : Line
  given = record l { host = host; down = l.down ++ f ∷ [] }

  pub push_turn : Turns31 g.stage l.host (Pushed (Some f)) host
  push_turn = pushed_turn l g f host does

  pub push_same : control_in host.driver.plan ≡ control_in l.host.driver.plan
  push_same = ap (λ (d : Driver). control_in d.plan) does.driver

  pub push_port : pm_port f ≡ f.stamp.port
  push_port = turn_addressed l.host (Pushed (Some f)) host does g.going.way.sound g.their

  coming_own : f.stamp.port ≡ 15 → IsComing given
  coming_own own = Falls f (among_last f l.down) (push_port ∙ own)

  pub push_coming : IsComing l → IsComing given
  push_coming (Falls x there own) = Falls x (among_more x f l.down there) own
  push_coming (Unsent w) = elim (cases_eq f.stamp.port 15) [
    | inl own ↦ coming_own own
    | inr other ↦ Unsent (subst (λ (s : Stage31). IsAt31 s host) (push_turn.is.1 other ∙ waits_by g.stage l.host w g.at g.at.is) push_turn.at)
  ]

  module _ (P : ℕ → Type 0) where
    push_told : is_ordered host ≡ true → (IsFree31 (control_of l.host) → P (told_in (control_of l.host))) → IsFree31 (control_of host) → P (told_in (control_of host))
    push_told asks was_told free =
        let k : IsCommand host.driver.plan.order host.driver.plan.asked = command_of host.driver.plan.order host.driver.plan.asked asks in
        by_tells (tells_on g.stage push_turn.next l.host (Pushed (Some f)) host does g.going h.going g.at push_turn.at push_turn.is k.asks k.on k.off free)
      where
        by_tells : Tells g.stage l.host (Pushed (Some f)) host → P (told_in (control_of host))
        by_tells (TellsOn was same) = subst P (sym same) (was_told was)
        by_tells (Comes frame r e own asking viewed told) = absurd (cc)

    pub push_said : is_ordered host ≡ true → IsSaid P l → IsComing given ⊎ IsSaid P given
    push_said asks (Held x there reply v) = inr (Held x there reply v)
    push_said asks (Rises x there reply v) = inr (Rises x there reply v)
    push_said asks (Came clear told) = elim (cases_eq f.stamp.port 15) [
      | inl own ↦ inl (coming_own own)
      | inr other ↦ inr (Came (record { down = none_down_more l.down f clear.down (λ its. other (sym push_port ∙ its)); waits = clear.waits; up = clear.up }) (push_told asks told))
    ]

-- ---- a turn without a frame

module _ (l : Line) (g : IsGood l) (t : HostTurn) (inside : IsInside t) (host : Host) (does : Does l.host t host) where
  pub then31 : Turns31 g.stage l.host t host
  then31 = inside_turn l g t inside host does

  -- what slot 31 has stays
  module _ (h : IsGood (record l { host = host })) (waits : g.stage ≡ Waits → then31.next ≡ Waits) where
    abbrev turned : Line
    turned = record l { host = host }

    pub turn_coming : IsComing l → IsComing turned
    turn_coming (Falls x there own) = Falls x there own
    turn_coming (Unsent w) = Unsent (subst (λ (s : Stage31). IsAt31 s host) (waits (waits_by g.stage l.host w g.at g.at.is)) then31.at)

    not_taken : (frame : List ℕ) (r : TakeReport) (x : HostTurn) → IsInside x → x ≡ Took frame r → ⊥
    not_taken frame r x in_turn e = subst IsInside e in_turn

    module _ (P : ℕ → Type 0) where
      turn_told : is_ordered host ≡ true → (IsFree31 (control_of l.host) → P (told_in (control_of l.host))) → IsFree31 (control_of host) → P (told_in (control_of host))
      turn_told asks was_told free =
          let k : IsCommand host.driver.plan.order host.driver.plan.asked = command_of host.driver.plan.order host.driver.plan.asked asks in
          by_tells (tells_on g.stage then31.next l.host t host does g.going h.going g.at then31.at then31.is k.asks k.on k.off free)
        where
          by_tells : Tells g.stage l.host t host → P (told_in (control_of host))
          by_tells (TellsOn was told_same) = subst P (sym told_same) (was_told was)
          by_tells (Comes frame r e own asking viewed told) = absurd (not_taken frame r t inside e)

      pub turn_said : is_ordered host ≡ true → IsSaid P l → IsComing turned ⊎ IsSaid P turned
      turn_said asks (Held x there reply v) = inr (Held x there reply v)
      turn_said asks (Rises x there reply v) = inr (Rises x there reply v)
      turn_said asks (Came clear told) = inr (Came (record { down = clear.down; waits = clear.waits; up = clear.up }) (turn_told asks told))

-- ---- where slot 31 is free again

none_among : (xs : List Stamped) (x : Stamped) → NoneUp xs → Among x xs → is_reply x ≡ true → ⊥
none_among [] x none there reply = there
none_among (y ∷ xs) x none (inl same) reply = true≢false (sym reply ∙ ap is_reply (sym same) ∙ none.0)
none_among (y ∷ xs) x none (inr rest) reply = none_among xs x none.1 rest reply

module _ (l : Line) (g : IsGood l) (free : IsFree31 (control_of l.host)) (k : IsCommand l.host.driver.plan.order l.host.driver.plan.asked) where
  clear : NoneDown l.down × (l.pm.answer ≡ None) × NoneUp l.up
  clear = free_by g.stage l.host.driver.plan.order l.host.driver.plan.asked (control_of l.host) l.down l.pm.answer l.up k free g.at.is g.line

  pub never_coming : IsComing l → ⊥
  never_coming (Unsent w) = none_there _ (own_issue (control_of l.host).view.slots 31) free w.is.2.issued
  never_coming (Falls x there own) = none_down l.down x clear.0 there own

  -- the answer came
  pub said_now : (P : ℕ → Type 0) → IsSaid P l → P (told_in (control_of l.host))
  said_now P (Held x there reply is) = absurd (let wrong : None ≡ Some x = sym clear.1 ∙ there in cc)
  said_now P (Rises x there reply is) = absurd (none_among l.up x clear.2 there reply)
  said_now P (Came quiet told) = told free
