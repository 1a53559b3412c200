-- For `rested_drivers_watch`. The stage of slot 31 over each way: what may come at it, and the turn that follows.
use Rattle.std.proofs.{Common.{◌≡◌, Bool, true, List, [], ◌∷◌, ◌++◌, refl, sym, ap, subst, ◌∙◌, inl, inr, Option, Some, None}, lemmas.Bool.cases_Bool}
use Rattle.std.proofs.lemmas.Bool.{false≢true, true≢false}
use Rattle.fis_view.specs.Frames.{Stamped}
use Rattle.multiplier.specs.{Arbiter.control_port, State.pm_port}
use Rattle.slots.specs.Slots.{own_issue}
use Rattle.hba_fbs.specs.{declared.report.TakeReport.TakeReport, Taking.port_of}
use Rattle.hba_laws.specs.Parts.{DevicePart}
use Rattle.hba_driver.specs.{declared.order.Order.{Order, TheVariants.{AwaitSignature, ResetOff, ResetOn}}, Going.IsOfControl, HostTurns.{Does, Host}}
use Rattle.hba_driver.specs.{HostTurns.{HostTurn, Polled, Pushed, Put, Submitted, Ticked, Took}, Slot31.{Asks, IsAt31, IsIn, IsNext31, IsNotice31}}
use Rattle.hba_driver.specs.Slot31.{MayCome31, Resets, Signs, Stage31, TicksOn, Turns31, control_of, is_quiet, is_resetting}
use Rattle.hba_driver.proofs.Door.{going_turn, turn31}
use Rattle.pm_world.specs.Line.{AreNotices, AreResets, EndsIn, IsOwed, IsReset, NoneDown, NoneUp, OnLine, is_reply}
use Rattle.world_rests.proofs.{ControlFile.IsCalm, Orders.Among, Slot31.none_there, Ways.{IsGood, IsInside, Line}}

-- ---- what may come

pub none_reply : {P : Type 0} (f : Stamped) (rest : List Stamped) → is_reply f ≡ true → NoneUp (f ∷ rest) → P
none_reply f rest reply none = absurd (true≢false (sym reply ∙ none.0))

owed_reply : (before last reply : Stamped → Type 0) (down : List Stamped) (waits : Option Stamped) (f : Stamped) (rest : List Stamped) → is_reply f ≡ true → IsOwed before last reply down waits (f ∷ rest) → reply f
owed_reply before last reply down waits f rest is (inl owed) = none_reply f rest is owed.2
owed_reply before last reply down waits f rest is (inr (none, inl come)) = none_reply f rest is come.3
owed_reply before last reply down waits f rest is (inr (none, inr (quiet, inl (inl other)))) = absurd (true≢false (sym is ∙ other.0))
owed_reply before last reply down waits f rest is (inr (none, inr (quiet, inl (inr one)))) = one.1
owed_reply before last reply down waits f rest is (inr (none, inr (quiet, inr gone))) = none_reply f rest is gone

notice_may : (f : Stamped) (s : Stage31) → IsNotice31 f.bytes → MayCome31 s f.bytes
notice_may f Signs is = inl is
notice_may f Asks is = inl is
notice_may f other is = is

reply_may : (f : Stamped) (s : Stage31) (down : List Stamped) (waits : Option Stamped) (rest : List Stamped) → is_reply f ≡ true → OnLine s down waits (f ∷ rest) → MayCome31 s f.bytes
reply_may f Signs down waits rest is line = inr (owed_reply _ _ _ down waits f rest is line)
reply_may f Asks down waits rest is line = inr (owed_reply _ _ _ down waits f rest is line)
reply_may f other down waits rest is line = none_reply f rest is line.2

may_come : (f : Stamped) (s : Stage31) (down : List Stamped) (waits : Option Stamped) (rest : List Stamped) → f.stamp.port ≡ control_port → OnLine s down waits (f ∷ rest) → AreNotices (f ∷ rest) → MayCome31 s f.bytes
may_come f s down waits rest own line notices = elim (cases_Bool (is_reply f)) [
  | inl reply ↦ reply_may f s down waits rest reply line
  | inr plain ↦ notice_may f s (notices.0 own plain)
]

-- ---- the turns

module _ (l : Line) (g : IsGood l) where
  pub took_turn : IsCalm l → (f : Stamped) (rest : List Stamped) → l.up ≡ f ∷ rest → (report : TakeReport) (host : Host) → Does l.host (Took f.bytes report) host → IsOfControl f.bytes → Turns31 g.stage l.host (Took f.bytes report) host
  took_turn c f rest is report host does of =
      let port : port_of f.bytes ≡ f.stamp.port = c.marks f (subst (Among f) (sym is) (inl refl)) does.framed in
      turn31 l.host g.going (Took f.bytes report) host (going_turn l.host (Took f.bytes report) host does g.going of) does g.stage g.at
      (λ own. may_come f g.stage l.down l.pm.answer rest (sym port ∙ own) (subst (λ (xs : List Stamped). OnLine g.stage l.down l.pm.answer xs) is g.line) (subst AreNotices is g.notices))

  pub pushed_turn : (f : Stamped) (host : Host) → Does l.host (Pushed (Some f)) host → Turns31 g.stage l.host (Pushed (Some f)) host
  pushed_turn f host does = turn31 l.host g.going (Pushed (Some f)) host (going_turn l.host (Pushed (Some f)) host does g.going tt) does g.stage g.at tt

  pub inside_turn : (t : HostTurn) → IsInside t → (host : Host) → Does l.host t host → Turns31 g.stage l.host t host
  inside_turn (Took frame report) inside host does = absurd inside
  inside_turn (Pushed None) inside host does = turn31 l.host g.going (Pushed None) host (going_turn l.host (Pushed None) host does g.going tt) does g.stage g.at tt
  inside_turn (Pushed (Some f)) inside host does = absurd inside
  inside_turn (Ticked acted) inside host does = turn31 l.host g.going (Ticked acted) host (going_turn l.host (Ticked acted) host does g.going tt) does g.stage g.at tt
  inside_turn (Submitted dev request ticket) inside host does =
      turn31 l.host g.going (Submitted dev request ticket) host (going_turn l.host (Submitted dev request ticket) host does g.going tt) does g.stage g.at tt
  inside_turn (Polled completion) inside host does = turn31 l.host g.going (Polled completion) host (going_turn l.host (Polled completion) host does g.going tt) does g.stage g.at tt
  inside_turn (Put at bytes) inside host does = turn31 l.host g.going (Put at bytes) host (going_turn l.host (Put at bytes) host does g.going tt) does g.stage g.at tt

-- ---- a software reset

pub not_quiet : (s : Stage31) → is_quiet s ≡ true → is_resetting s ≡ true → ⊥
not_quiet Resets quiet on = false≢true quiet
not_quiet Signs quiet on = false≢true quiet
not_quiet s quiet on = false≢true on

-- in a turn without a frame a reset goes on
ticks_reset : (stage next : Stage31) → TicksOn stage next → is_resetting next ≡ true → next ≡ stage
ticks_reset stage next (inl (inl same)) on = same
ticks_reset stage next (inl (inr h)) on = absurd (not_quiet next h.1 on)
ticks_reset stage next (inr h) on = absurd (false≢true (sym (ap is_resetting h.1) ∙ on))

pub inside_reset : (t : HostTurn) → IsInside t → (stage next : Stage31) (old new : Host) → IsNext31 stage old t new next → is_resetting next ≡ true → next ≡ stage
inside_reset (Took frame report) inside stage next old new is on = absurd inside
inside_reset (Pushed (Some f)) inside stage next old new is on = absurd inside
inside_reset (Ticked acted) inside stage next old new is on = ticks_reset stage next is.stays on
inside_reset other inside stage next old new is on = is

-- its two stages are apart
never_both : (o : Order) (asked : Bool) (part : DevicePart) → IsIn Resets o asked part → IsIn Signs o asked part → ⊥
never_both o asked part (inl r) (free, inl s) = let wrong : ResetOn ≡ ResetOff = sym r.0 ∙ s.0 in cc
never_both o asked part (inl r) (free, inr s) = let wrong : ResetOn ≡ AwaitSignature = sym r.0 ∙ s.0 in cc
never_both o asked part (inr (off, inl unasked)) (free, inl s) = true≢false (sym s.1 ∙ unasked)
never_both o asked part (inr (off, inr (on, unsent))) (free, inl s) = none_there _ (own_issue part.view.slots 31) free unsent.issued
never_both o asked part (inr (off, other)) (free, inr s) = let wrong : ResetOff ≡ AwaitSignature = sym off ∙ s.0 in cc

pub same_reset : (a b : Stage31) (h : Host) → IsAt31 a h → IsAt31 b h → is_resetting b ≡ true → a ≡ b
same_reset a b h at of on = by_both a b (sym at.resetting ∙ of.resetting ∙ on) on at.is of.is
  where
    by_both : (x y : Stage31) → is_resetting x ≡ true → is_resetting y ≡ true → IsIn x h.driver.plan.order h.driver.plan.asked (control_of h) → IsIn y h.driver.plan.order h.driver.plan.asked (control_of h) → x ≡ y
    by_both Resets Resets one two p q = refl
    by_both Signs Signs one two p q = refl
    by_both Resets Signs one two p q = absurd (never_both h.driver.plan.order h.driver.plan.asked (control_of h) p q)
    by_both Signs Resets one two p q = absurd (never_both h.driver.plan.order h.driver.plan.asked (control_of h) q p)
    by_both Resets other one two p q = absurd (false≢true two)
    by_both Signs other one two p q = absurd (false≢true two)
    by_both other y one two p q = absurd (false≢true one)

-- ---- the last frame on its way down

pub none_last : (xs : List Stamped) (f : Stamped) → NoneDown (xs ++ f ∷ []) → pm_port f ≡ control_port → ⊥
none_last [] f none own = none.0 own
none_last (x ∷ xs) f none own = none_last xs f none.1 own

pub resets_last : (xs : List Stamped) (f : Stamped) → AreResets (xs ++ f ∷ []) → pm_port f ≡ control_port → IsReset f
resets_last [] f are own = are.0 own
resets_last (x ∷ xs) f are own = resets_last xs f are.1 own

pub ends_last : (before last : Stamped → Type 0) (xs : List Stamped) (f : Stamped) → EndsIn before last (xs ++ f ∷ []) → pm_port f ≡ control_port → last f
ends_last before last [] f (inl h) own = absurd (h.0 own)
ends_last before last [] f (inr (inl h)) own = absurd h.2
ends_last before last [] f (inr (inr h)) own = h.1
ends_last before last (x ∷ xs) f (inl h) own = ends_last before last xs f h.1 own
ends_last before last (x ∷ xs) f (inr (inl h)) own = ends_last before last xs f h.2 own
ends_last before last (x ∷ xs) f (inr (inr h)) own = absurd (none_last xs f h.2 own)
