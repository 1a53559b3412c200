-- For `one_order_at_a_time`. What is on its way, as frames come and go.
use Rattle.std.proofs.Common.{◌≡◌, ◌≢◌, true, false, List, [], ◌∷◌, ◌++◌, Option, Some, None, refl, sym, ◌∙◌, subst, inl, inr}
use Rattle.std.proofs.lemmas.Bool.{cases_eq, false≢true, true≢false}
use Rattle.fis_view.specs.Frames.{Stamped}
use Rattle.multiplier.specs.{Arbiter.control_port, State.pm_port}
use Rattle.hba_driver.specs.Slot31.{Asks, IsAnswer31, IsNotice31, IsSignature31, Resets, Signs, Stage31, Waits, is_idle, is_quiet}
use Rattle.pm_world.specs.Line.{AreNotices, AreResets, EndsIn, HasCome, IsEnd, IsOwed, IsReset, NoneDown, NoneUp, OnLine, OneUp, any, is_reply, never}

-- ---- lists

none_app : (frames : List Stamped) (f : Stamped) → NoneDown frames → pm_port f ≢ control_port → NoneDown (frames ++ f ∷ [])
none_app [] f none other = (other, tt)
none_app (x ∷ frames) f none other = (none.0, none_app frames f none.1 other)

resets_app : (frames : List Stamped) (f : Stamped) → AreResets frames → (pm_port f ≡ control_port → IsReset f) → AreResets (frames ++ f ∷ [])
resets_app [] f are is = (is, tt)
resets_app (x ∷ frames) f are is = (are.0, resets_app frames f are.1 is)

none_resets : (frames : List Stamped) → NoneDown frames → AreResets frames
none_resets [] none = tt
none_resets (x ∷ frames) none = (λ own. absurd (none.0 own), none_resets frames none.1)

ends_new : (before last : Stamped → Type 0) (frames : List Stamped) (f : Stamped) → NoneDown frames → pm_port f ≡ control_port → last f → EndsIn before last (frames ++ f ∷ [])
ends_new before last [] f none own is = inr (inr (own, is, tt))
ends_new before last (x ∷ frames) f none own is = inl (none.0, ends_new before last frames f none.1 own is)

ends_resets : (last : Stamped → Type 0) (frames : List Stamped) (f : Stamped) → AreResets frames → pm_port f ≡ control_port → last f → EndsIn IsReset last (frames ++ f ∷ [])
ends_resets last [] f are own is = inr (inr (own, is, tt))
ends_resets last (x ∷ frames) f are own is = elim (cases_eq (pm_port x) control_port) [
  | inl control ↦ inr (inl (control, are.0 control, ends_resets last frames f are.1 own is))
  | inr other ↦ inl (other, ends_resets last frames f are.1 own is)
]

ends_app : (before last : Stamped → Type 0) (frames : List Stamped) (f : Stamped) → EndsIn before last frames → pm_port f ≢ control_port → EndsIn before last (frames ++ f ∷ [])
ends_app before last [] f ends other = absurd ends
ends_app before last (x ∷ frames) f (inl h) other = inl (h.0, ends_app before last frames f h.1 other)
ends_app before last (x ∷ frames) f (inr (inl h)) other = inr (inl (h.0, h.1, ends_app before last frames f h.2 other))
ends_app before last (x ∷ frames) f (inr (inr h)) other = inr (inr (h.0, h.1, none_app frames f h.2 other))

up_app : (frames : List Stamped) (f : Stamped) → NoneUp frames → is_reply f ≡ false → NoneUp (frames ++ f ∷ [])
up_app [] f none other = (other, tt)
up_app (x ∷ frames) f none other = (none.0, up_app frames f none.1 other)

one_app : (reply : Stamped → Type 0) (frames : List Stamped) (f : Stamped) → OneUp reply frames → is_reply f ≡ false → OneUp reply (frames ++ f ∷ [])
one_app reply [] f one other = absurd one
one_app reply (x ∷ frames) f (inl h) other = inl (h.0, one_app reply frames f h.1 other)
one_app reply (x ∷ frames) f (inr h) other = inr (h.0, h.1, up_app frames f h.2 other)

one_new : (reply : Stamped → Type 0) (frames : List Stamped) (f : Stamped) → NoneUp frames → is_reply f ≡ true → reply f → OneUp reply (frames ++ f ∷ [])
one_new reply [] f none own is = inr (own, is, tt)
one_new reply (x ∷ frames) f none own is = inl (none.0, one_new reply frames f none.1 own is)

pub notices_app : (frames : List Stamped) (f : Stamped) → AreNotices frames → (f.stamp.port ≡ control_port → is_reply f ≡ false → IsNotice31 f.bytes) → AreNotices (frames ++ f ∷ [])
notices_app [] f are is = (is, tt)
notices_app (x ∷ frames) f are is = (are.0, notices_app frames f are.1 is)

-- ---- a frame for another port goes down, or passes

module _ (before last reply : Stamped → Type 0) (waits : Option Stamped) (f : Stamped) where
  owed_app : (down up : List Stamped) → pm_port f ≢ control_port → IsOwed before last reply down waits up → IsOwed before last reply (down ++ f ∷ []) waits up
  owed_app down up other (inl h) = inl (ends_app before last down f h.0 other, h.1, h.2)
  owed_app down up other (inr h) = inr (none_app down f h.0 other, h.1)

  owed_passes : (down up : List Stamped) → pm_port f ≢ control_port → IsOwed before last reply (f ∷ down) waits up → IsOwed before last reply down waits up
  owed_passes down up other (inl (inl h, none, up_none)) = inl (h.1, none, up_none)
  owed_passes down up other (inl (inr (inl h), none, up_none)) = absurd (other h.0)
  owed_passes down up other (inl (inr (inr h), none, up_none)) = absurd (other h.0)
  owed_passes down up other (inr h) = inr (h.0.1, h.1)

  -- a frame that is no answer goes up
  come_app : (up : List Stamped) → is_reply f ≡ false → HasCome reply waits up → HasCome reply waits (up ++ f ∷ [])
  come_app up other (inl h) = inl (h.0, h.1, h.2, up_app up f h.3 other)
  come_app up other (inr (none, inl one)) = inr (none, inl (one_app reply up f one other))
  come_app up other (inr (none, inr clean)) = inr (none, inr (up_app up f clean other))

  owed_up : (down up : List Stamped) → is_reply f ≡ false → IsOwed before last reply down waits up → IsOwed before last reply down waits (up ++ f ∷ [])
  owed_up down up other (inl h) = inl (h.0, h.1, up_app up f h.2 other)
  owed_up down up other (inr h) = inr (h.0, come_app up other h.1)

  -- or is taken
  come_takes : (up : List Stamped) → is_reply f ≡ false → HasCome reply waits (f ∷ up) → HasCome reply waits up
  come_takes up other (inl h) = inl (h.0, h.1, h.2, h.3.1)
  come_takes up other (inr (none, inl (inl one))) = inr (none, inl one.1)
  come_takes up other (inr (none, inl (inr one))) = absurd (false≢true (sym other ∙ one.0))
  come_takes up other (inr (none, inr clean)) = inr (none, inr clean.1)

  owed_takes : (down up : List Stamped) → is_reply f ≡ false → IsOwed before last reply down waits (f ∷ up) → IsOwed before last reply down waits up
  owed_takes down up other (inl h) = inl (h.0, h.1, h.2.1)
  owed_takes down up other (inr h) = inr (h.0, come_takes up other h.1)

  -- an answer is taken
  owed_reply : (down up : List Stamped) → is_reply f ≡ true → IsOwed before last reply down waits (f ∷ up) → reply f × NoneDown down × (waits ≡ None) × NoneUp up
  owed_reply down up own (inl h) = absurd (true≢false (sym own ∙ h.2.0))
  owed_reply down up own (inr (none, inl h)) = absurd (true≢false (sym own ∙ h.3.0))
  owed_reply down up own (inr (none, inr (quiet, inl (inl one)))) = absurd (true≢false (sym own ∙ one.0))
  owed_reply down up own (inr (none, inr (quiet, inl (inr one)))) = (one.1, none, quiet, one.2)
  owed_reply down up own (inr (none, inr (quiet, inr up_none))) = absurd (true≢false (sym own ∙ up_none.0))

-- the answer that waits goes up
owed_rises : (before last reply : Stamped → Type 0) (f : Stamped) (down up : List Stamped) → (reply f → is_reply f ≡ true) → IsOwed before last reply down (Some f) up → IsOwed before last reply down None (up ++ f ∷ [])
owed_rises before last reply f down up own (inl h) = let bad : Some f ≡ None = h.1 in cc
owed_rises before last reply f down up own (inr (none, inl h)) =
    let same : f ≡ h.0 = cc in
    let is : reply f = subst reply (sym same) h.2 in
    inr (none, inr (refl, inl (one_new reply up f h.3 (own is) is)))
owed_rises before last reply f down up own (inr (none, inr h)) = let bad : Some f ≡ None = h.0 in cc

-- the control port takes an order
owed_asks : (before last reply : Stamped → Type 0) (f : Stamped) (down up : List Stamped) (now : Option Stamped) → pm_port f ≡ control_port → (before f → now ≡ None) → (last f → (g : Stamped) → now ≡ Some g → reply g)
    → IsOwed before last reply (f ∷ down) None up → IsOwed before last reply down now up
owed_asks before last reply f down up now own begins answers (inl (inl h, none, up_none)) = absurd (h.0 own)
owed_asks before last reply f down up now own begins answers (inl (inr (inl h), none, up_none)) = inl (h.2, begins h.1, up_none)
owed_asks before last reply f down up now own begins answers (inl (inr (inr h), none, up_none)) = inr (h.2, by_now now refl)
  where
    by_now : (o : Option Stamped) → now ≡ o → HasCome reply o up
    by_now None is = inr (refl, inr up_none)
    by_now (Some g) is = inl (g, refl, answers h.1 g is, up_none)
owed_asks before last reply f down up now own begins answers (inr h) = absurd (h.0.0 own)

-- what waits is the answer
owed_waits : (before last reply : Stamped → Type 0) (f : Stamped) (down up : List Stamped) → IsOwed before last reply down (Some f) up → reply f
owed_waits before last reply f down up (inl h) = let bad : Some f ≡ None = h.1 in cc
owed_waits before last reply f down up (inr (none, inl h)) = let same : h.0 ≡ f = cc in subst reply same h.2
owed_waits before last reply f down up (inr (none, inr h)) = let bad : Some f ≡ None = h.0 in cc

-- ---- by stage

pub line_app : (stage : Stage31) (down up : List Stamped) (waits : Option Stamped) (f : Stamped) → pm_port f ≢ control_port → OnLine stage down waits up → OnLine stage (down ++ f ∷ []) waits up
line_app Resets down up waits f other line = (resets_app down f line.0 (λ own. absurd (other own)), line.1, line.2)
line_app Signs down up waits f other line = owed_app IsReset IsEnd _ waits f down up other line
line_app Asks down up waits f other line = owed_app never any _ waits f down up other line
line_app rest down up waits f other line = (none_app down f line.0 other, line.1, line.2)

pub line_passes : (stage : Stage31) (down up : List Stamped) (waits : Option Stamped) (f : Stamped) → pm_port f ≢ control_port → OnLine stage (f ∷ down) waits up → OnLine stage down waits up
line_passes Signs down up waits f other line = owed_passes IsReset IsEnd _ waits f down up other line
line_passes Asks down up waits f other line = owed_passes never any _ waits f down up other line
line_passes rest down up waits f other line = (line.0.1, line.1, line.2)

pub line_up : (stage : Stage31) (down up : List Stamped) (waits : Option Stamped) (f : Stamped) → is_reply f ≡ false → OnLine stage down waits up → OnLine stage down waits (up ++ f ∷ [])
line_up Signs down up waits f other line = owed_up IsReset IsEnd _ waits f down up other line
line_up Asks down up waits f other line = owed_up never any _ waits f down up other line
line_up rest down up waits f other line = (line.0, line.1, up_app up f line.2 other)

pub line_takes : (stage : Stage31) (down up : List Stamped) (waits : Option Stamped) (f : Stamped) → is_reply f ≡ false → OnLine stage down waits (f ∷ up) → OnLine stage down waits up
line_takes Signs down up waits f other line = owed_takes IsReset IsEnd _ waits f down up other line
line_takes Asks down up waits f other line = owed_takes never any _ waits f down up other line
line_takes rest down up waits f other line = (line.0, line.1, line.2.1)

-- an answer is taken: it is the one that was awaited, and nothing else is on its way
abbrev pub IsAwaited : Stage31 → Stamped → Type 0
IsAwaited Signs f = IsSignature31 f.bytes
IsAwaited Asks f = IsAnswer31 f.bytes
IsAwaited stage f = ⊥

pub line_reply : (stage : Stage31) (down up : List Stamped) (waits : Option Stamped) (f : Stamped) → is_reply f ≡ true → OnLine stage down waits (f ∷ up) → IsAwaited stage f × NoneDown down × (waits ≡ None) × NoneUp up
line_reply Signs down up waits f own line = owed_reply IsReset IsEnd _ waits f down up own line
line_reply Asks down up waits f own line = owed_reply never any _ waits f down up own line
line_reply other down up waits f own line = absurd (true≢false (sym own ∙ line.2.0))

none_waits : (f : Stamped) {P : Type 0} → Some f ≡ None → P
none_waits f h = cc

pub line_rises : (stage : Stage31) (down up : List Stamped) (f : Stamped) → (IsAwaited stage f → is_reply f ≡ true) → OnLine stage down (Some f) up → OnLine stage down None (up ++ f ∷ [])
line_rises Signs down up f own line = owed_rises IsReset IsEnd _ f down up own line
line_rises Asks down up f own line = owed_rises never any _ f down up own line
line_rises other down up f own line = none_waits f line.1

pub line_asks : (stage : Stage31) (down up : List Stamped) (now : Option Stamped) (f : Stamped) → pm_port f ≡ control_port → (IsReset f → now ≡ None) → (IsEnd f → (g : Stamped) → now ≡ Some g → IsSignature31 g.bytes)
    → ((g : Stamped) → now ≡ Some g → IsAnswer31 g.bytes) → OnLine stage (f ∷ down) None up → OnLine stage down now up
line_asks Signs down up now f own begins ends answers line = owed_asks IsReset IsEnd _ f down up now own begins ends line
line_asks Asks down up now f own begins ends answers line = owed_asks never any _ f down up now own (λ h. absurd h) (λ h. answers) line
line_asks Resets down up now f own begins ends answers line = (line.0.1, begins (line.0.0 own), line.2)
line_asks other down up now f own begins ends answers line = absurd (line.0.0 own)

-- an order goes out
pub line_begins : (down up : List Stamped) (waits : Option Stamped) (f : Stamped) → IsReset f → OnLine Waits down waits up → OnLine Resets (down ++ f ∷ []) waits up
line_begins down up waits f is line = (resets_app down f (none_resets down line.0) (λ own. is), line.1, line.2)

pub line_goes : (down up : List Stamped) (waits : Option Stamped) (f : Stamped) → pm_port f ≡ control_port → OnLine Waits down waits up → OnLine Asks (down ++ f ∷ []) waits up
line_goes down up waits f own line = inl (ends_new never any down f line.0 own tt, line.1, line.2)

pub line_ends : (down up : List Stamped) (waits : Option Stamped) (f : Stamped) → pm_port f ≡ control_port → IsEnd f → OnLine Resets down waits up → OnLine Signs (down ++ f ∷ []) waits up
line_ends down up waits f own is line = inl (ends_resets IsEnd down f line.0 own is, line.1, line.2)

pub line_waits : (stage : Stage31) (down up : List Stamped) (f : Stamped) → OnLine stage down (Some f) up → IsAwaited stage f
line_waits Signs down up f line = owed_waits IsReset IsEnd _ f down up line
line_waits Asks down up f line = owed_waits never any _ f down up line
line_waits other down up f line = none_waits f line.1

-- at a quiet stage nothing is on its way
pub line_quiet : (stage : Stage31) (down up : List Stamped) (waits : Option Stamped) → is_quiet stage ≡ true → OnLine stage down waits up → NoneDown down × (waits ≡ None) × NoneUp up
line_quiet Resets down up waits quiet line = absurd (false≢true quiet)
line_quiet Signs down up waits quiet line = absurd (false≢true quiet)
line_quiet Asks down up waits quiet line = absurd (false≢true quiet)
line_quiet other down up waits quiet line = line

pub quiet_line : (stage : Stage31) (down up : List Stamped) (waits : Option Stamped) → is_quiet stage ≡ true → NoneDown down × (waits ≡ None) × NoneUp up → OnLine stage down waits up
quiet_line Resets down up waits quiet line = absurd (false≢true quiet)
quiet_line Signs down up waits quiet line = absurd (false≢true quiet)
quiet_line Asks down up waits quiet line = absurd (false≢true quiet)
quiet_line other down up waits quiet line = line

pub idle_quiet : (stage : Stage31) → is_idle stage ≡ true → is_quiet stage ≡ true
idle_quiet Resets e = absurd (false≢true e)
idle_quiet Signs e = absurd (false≢true e)
idle_quiet Asks e = absurd (false≢true e)
idle_quiet other e = refl
