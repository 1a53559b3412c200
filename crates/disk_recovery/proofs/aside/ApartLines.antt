-- For `ends_go_on`. How slot 30 of a device that is set aside and the line of its link fit together, and go on
-- together.
use Rattle.std.proofs.Common.{◌≡◌, ℕ, true, false, List, [], ◌∷◌, ◌++◌, refl, sym, ap, subst, ◌∙◌, inl, inr, Some, None}
use Rattle.fis_view.specs.{declared.build.H2dFields.H2dFields, Seen.seen}
use Rattle.hba_fbs.specs.Posting.{signs}
use Rattle.hba_driver.specs.HostTurns.{Host}
use Rattle.hba_driver.specs.Slot30.{Asks, Cleared, Clears, Faulty, LogSent, MayCome30, Off, On, Sets, Stage30, TakesOn30, TicksOn30, fields30, sent30}
use Rattle.disk_model.specs.{declared.request.Request.Request, Anew.IsRequest, Ledger.{Ledger, LogOf, ShowsPage, Signs, Wanted}}
use Rattle.disk_model.specs.declared.request.Request.TheVariants as asked
use Rattle.disk_simulation.specs.Line.{Asked, Both, BothBegin, ComesTo, Failed, HasSpoken, Held, IsBoth, Line, LinesGoOn, Loose, OnLine, Releasing}
use Rattle.disk_simulation.specs.Line.{Resting}
use Rattle.disk_recovery.specs.Stages.{Fits, FitsAsked, FitsFailed, FitsHeld, FitsLoose, FitsOff, GoesByLog, GoesByReset, Leans}

-- The line may stand at the first of these, and then it stands at the other too.
pub record IsFit (n : ℕ) (line : Line) (stage : Stage30) (h : Host) (k : Ledger) (down up : List (List ℕ)) : Type 0 where
  pub at : Line
  pub fits : Fits at stage
  pub leans : Leans n at stage h
  pub on : OnLine line k down up → OnLine at k down up

-- ## What the host gives

abbrev pub request30 : Stage30 → Request
request30 Asks = asked.ReadErrorLog
request30 Sets = asked.Reset true
request30 stage = asked.Reset false

-- the line with the FIS that slot 30 held
pub record IsGiven (n : ℕ) (line : Line) (stage : Stage30) (h : Host) (k : Ledger) (down up : List (List ℕ)) : Type 0 where
  pub at : Line
  pub fits : Fits at (sent30 stage)
  pub leans : Leans n at (sent30 stage) h
  pub on : OnLine at k down up

module _ (laws : LinesGoOn) (n : ℕ) (h : Host) (k : Ledger) (down up : List (List ℕ)) (bytes : List ℕ) where
  abbrev Gives : Line → Stage30 → Type 0
  Gives line stage = IsGiven n line stage h k (down ++ bytes ∷ []) up

  no_fields : (fields : H2dFields) (A : Type 0) → None ≡ Some fields → A
  no_fields fields A e = let wrong : None ≡ Some fields = e in absurd (cc)

  gives_failed : (stage : Stage30) (fields : H2dFields) → fields30 n stage ≡ Some fields → FitsFailed stage → IsRequest bytes (request30 stage)
      → OnLine Failed k down up → Gives Failed stage
  gives_failed Asks fields are fits asks on = record { at = Asked; fits = tt; leans = tt; on = laws.asks k down up bytes asks on }
  gives_failed Faulty fields are fits asks on = no_fields fields (Gives Failed Faulty) are
  gives_failed Cleared fields are fits asks on = no_fields fields (Gives Failed Cleared) are
  gives_failed _ fields are fits asks on = absurd fits

  gives_loose : (stage : Stage30) (fields : H2dFields) → fields30 n stage ≡ Some fields → FitsLoose stage → IsRequest bytes (request30 stage)
      → OnLine Loose k down up → Gives Loose stage
  gives_loose Sets fields are fits asks on = record { at = Held; fits = tt; leans = tt; on = laws.holds k down up bytes asks on }
  gives_loose Faulty fields are fits asks on = no_fields fields (Gives Loose Faulty) are
  gives_loose Cleared fields are fits asks on = no_fields fields (Gives Loose Cleared) are
  gives_loose _ fields are fits asks on = absurd fits

  gives_held : (stage : Stage30) (fields : H2dFields) → fields30 n stage ≡ Some fields → FitsHeld stage → IsRequest bytes (request30 stage)
      → OnLine Held k down up → Gives Held stage
  gives_held Clears fields are fits asks on = record { at = Both; fits = tt; leans = tt; on = laws.clears k down up bytes asks on }
  gives_held On fields are fits asks on = no_fields fields (Gives Held On) are
  gives_held _ fields are fits asks on = absurd fits

  gives_resting : (stage : Stage30) (fields : H2dFields) → fields30 n stage ≡ Some fields → FitsHeld stage → IsRequest bytes (request30 stage)
      → OnLine Resting k down up → Gives Resting stage
  gives_resting Clears fields are fits asks on = record { at = Releasing; fits = tt; leans = tt; on = laws.releases k down up bytes asks on }
  gives_resting On fields are fits asks on = no_fields fields (Gives Resting On) are
  gives_resting _ fields are fits asks on = absurd fits

  none_asked : (line : Line) (stage : Stage30) (fields : H2dFields) → fields30 n stage ≡ Some fields → FitsAsked stage → Gives line stage
  none_asked line LogSent fields are fits = no_fields fields (Gives line LogSent) are
  none_asked line _ fields are fits = absurd fits

  none_off : (line : Line) (stage : Stage30) (fields : H2dFields) → fields30 n stage ≡ Some fields → FitsOff stage → Gives line stage
  none_off line Off fields are fits = no_fields fields (Gives line Off) are
  none_off line _ fields are fits = absurd fits

  pub given_on : (line : Line) (stage : Stage30) (fields : H2dFields) → fields30 n stage ≡ Some fields → Fits line stage
      → IsRequest bytes (request30 stage) → OnLine line k down up → Gives line stage
  given_on Failed stage fields are fits asks on = gives_failed stage fields are fits asks on
  given_on Asked stage fields are fits asks on = none_asked Asked stage fields are fits
  given_on Loose stage fields are fits asks on = gives_loose stage fields are fits asks on
  given_on Held stage fields are fits asks on = gives_held stage fields are fits asks on
  given_on Resting stage fields are fits asks on = gives_resting stage fields are fits asks on
  given_on other stage fields are fits asks on = none_off other stage fields are fits

-- ## What comes to the disk

-- the line goes on, or both begin anew
pub data Comes30 (n : ℕ) (stage : Stage30) (h : Host) (old k : Ledger) (back up : List (List ℕ)) : Type 0 where
  Line30 : (line : Line) → Fits line stage → Leans n line stage h → OnLine line k back up → Comes30 n stage h old k back up
  LogRead : (page : Wanted) → stage ≡ LogSent → BothBegin old k (ShowsPage ∷ []) (page ∷ []) back up → Comes30 n stage h old k back up
  ResetDone : stage ≡ Off → BothBegin old k (Signs ∷ []) [] back up → Comes30 n stage h old k back up

is_log : (stage : Stage30) → FitsAsked stage → stage ≡ LogSent
is_log LogSent fits = refl
is_log _ fits = absurd fits

is_off : (stage : Stage30) → FitsOff stage → stage ≡ Off
is_off Off fits = refl
is_off _ fits = absurd fits

-- two FISes are on their way, and the first comes: so one is left
not_last : {X : Type 0} (xs : List (List ℕ)) (x y z : List ℕ) → z ∷ [] ≡ xs ++ x ∷ y ∷ [] → X
not_last [] x y z is = cc is
not_last (w ∷ []) x y z is = cc is
not_last (w ∷ v ∷ xs) x y z is = cc is

-- what comes is the first of what is on its way
module _ (n : ℕ) (stage : Stage30) (h : Host) (old new : Ledger) (bytes : List ℕ) (back up : List (List ℕ)) where
  both_left : {X : Type 0} → IsBoth old (bytes ∷ back) up → back ≡ [] → X
  both_left on none = not_last on.ahead on.on on.off bytes (sym (ap (λ (xs : List (List ℕ)). bytes ∷ xs) none) ∙ on.is)

  pub comes_on : (line : Line) → Fits line stage → Leans n line stage h → OnLine line old (bytes ∷ back) up → ComesTo line old new back up
      → Comes30 n stage h old new back up
  comes_on Failed fits leans was stands = Line30 Failed fits leans stands.on
  comes_on Asked fits leans was (inr both) = LogRead (LogOf old.failure) (is_log stage fits) both
  comes_on Loose fits leans was stands = Line30 Loose fits leans stands.on
  comes_on Held fits leans was (inr on) = Line30 Resting fits tt on
  comes_on Both fits leans was (inr (inl on)) = Line30 Releasing fits tt on
  comes_on Both fits leans was (inr (inr on)) = both_left was on.1
  comes_on Resting fits leans was none = absurd none
  comes_on Releasing fits leans was both = ResetDone (is_off stage fits) both
  comes_on other fits leans was (inl stands) = Line30 other fits leans stands.on

-- ## Turns in which nothing goes over the link

module _ (laws : LinesGoOn) (n : ℕ) (h : Host) (k : Ledger) (down up : List (List ℕ)) where
  abbrev Fit : Line → Stage30 → Type 0
  Fit line next = IsFit n line next h k down up

  same : (line : Line) (next : Stage30) → Fits line next → Leans n line next h → Fit line next
  same line next fits leans = record { at = line; fits = fits; leans = leans; on = λ on. on }

  moved : (line : Line) (next stage : Stage30) → next ≡ stage → Fit line stage → Fit line next
  moved line next stage is fit = subst (Fit line) (sym is) fit

  -- for the failed line, that it may be loose
  reset_failed : Fit Failed Sets
  reset_failed = record { at = Loose; fits = tt; leans = tt; on = laws.loosens k down up }

  failed_at : (next stage : Stage30) → next ≡ stage → FitsFailed stage → GoesByLog n next h → Fit Failed next
  failed_at next stage is fits goes = same Failed next (subst FitsFailed (sym is) fits) goes

  failed_on : (stage next : Stage30) → FitsFailed stage → TicksOn30 stage next → GoesByLog n next h → Fit Failed next
  failed_on Faulty next fits (inl is) goes = failed_at next Faulty is tt goes
  failed_on Faulty next fits (inr is) goes = failed_at next Cleared is tt goes
  failed_on Cleared next fits (inl is) goes = failed_at next Cleared is tt goes
  failed_on Cleared next fits (inr (inl is)) goes = failed_at next Asks is tt goes
  failed_on Cleared next fits (inr (inr is)) goes = moved Failed next Sets is reset_failed
  failed_on Asks next fits is goes = failed_at next Asks is tt goes
  failed_on _ next fits is goes = absurd fits

  loose_at : (next stage : Stage30) → next ≡ stage → FitsLoose stage → GoesByReset n next h → Fit Loose next
  loose_at next stage is fits goes = same Loose next (subst FitsLoose (sym is) fits) goes

  loose_on : (stage next : Stage30) → FitsLoose stage → TicksOn30 stage next → GoesByReset n next h → Fit Loose next
  loose_on Faulty next fits (inl is) goes = loose_at next Faulty is tt goes
  loose_on Faulty next fits (inr is) goes = loose_at next Cleared is tt goes
  loose_on Cleared next fits (inl is) goes = loose_at next Cleared is tt goes
  loose_on Cleared next fits (inr (inl is)) goes = absurd (subst (λ (x : Stage30). GoesByReset n x h) is goes)
  loose_on Cleared next fits (inr (inr is)) goes = loose_at next Sets is tt goes
  loose_on Sets next fits is goes = loose_at next Sets is tt goes
  loose_on _ next fits is goes = absurd fits

  held_on : (stage next : Stage30) → FitsHeld stage → TicksOn30 stage next → FitsHeld next
  held_on On next fits (inl is) = subst FitsHeld (sym is) tt
  held_on On next fits (inr is) = subst FitsHeld (sym is) tt
  held_on Clears next fits is = subst FitsHeld (sym is) tt
  held_on _ next fits is = absurd fits

  asked_on : (stage next : Stage30) → FitsAsked stage → TicksOn30 stage next → FitsAsked next
  asked_on LogSent next fits is = subst FitsAsked (sym is) tt
  asked_on _ next fits is = absurd fits

  off_on : (stage next : Stage30) → FitsOff stage → TicksOn30 stage next → FitsOff next
  off_on Off next fits is = subst FitsOff (sym is) tt
  off_on _ next fits is = absurd fits

  pub ticks_on : (line : Line) (stage next : Stage30) → Fits line stage → TicksOn30 stage next → Leans n line next h → Fit line next
  ticks_on Failed stage next fits is leans = failed_on stage next fits is leans
  ticks_on Asked stage next fits is leans = same Asked next (asked_on stage next fits is) tt
  ticks_on Loose stage next fits is leans = loose_on stage next fits is leans
  ticks_on Both stage next fits is leans = same Both next (off_on stage next fits is) tt
  ticks_on Releasing stage next fits is leans = same Releasing next (off_on stage next fits is) tt
  ticks_on other stage next fits is leans = same other next (held_on stage next fits is) tt

  -- ## A FIS of the disk comes to the host

  loose_taken : (stage next : Stage30) → FitsLoose stage → TakesOn30 stage next → GoesByReset n next h → Fit Loose next
  loose_taken Faulty next fits is goes = loose_at next Faulty is tt goes
  loose_taken Cleared next fits (inl is) goes = loose_at next Cleared is tt goes
  loose_taken Cleared next fits (inr is) goes = loose_at next Faulty is tt goes
  loose_taken Sets next fits (inl is) goes = loose_at next Sets is tt goes
  loose_taken Sets next fits (inr is) goes = loose_at next Faulty is tt goes
  loose_taken _ next fits is goes = absurd fits

  held_taken : (stage next : Stage30) → FitsHeld stage → TakesOn30 stage next → FitsHeld next
  held_taken On next fits is = subst FitsHeld (sym is) tt
  held_taken Clears next fits is = subst FitsHeld (sym is) tt
  held_taken _ next fits is = absurd fits

  off_taken : (stage next : Stage30) → FitsOff stage → TakesOn30 stage next → FitsOff next
  off_taken Off next fits is = subst FitsOff (sym is) tt
  off_taken _ next fits is = absurd fits

  pub takes_on : (line : Line) (stage next : Stage30) → HasSpoken line → Fits line stage → TakesOn30 stage next → Leans n line next h → Fit line next
  takes_on Loose stage next spoken fits is leans = loose_taken stage next fits is leans
  takes_on Held stage next spoken fits is leans = same Held next (held_taken stage next fits is) tt
  takes_on Both stage next spoken fits is leans = same Both next (off_taken stage next fits is) tt
  takes_on Resting stage next spoken fits is leans = same Resting next (held_taken stage next fits is) tt
  takes_on Releasing stage next spoken fits is leans = same Releasing next (off_taken stage next fits is) tt
  takes_on other stage next spoken fits is leans = absurd spoken

-- ## What may come to the host

spoken_asks : (line : Line) → HasSpoken line → Fits line Asks → ⊥
spoken_asks Failed spoken fits = spoken
spoken_asks _ spoken fits = fits

spoken_log : (line : Line) → HasSpoken line → Fits line LogSent → ⊥
spoken_log Asked spoken fits = spoken
spoken_log _ spoken fits = fits

pub may_come : (line : Line) (stage : Stage30) (frame : List ℕ) → HasSpoken line → Fits line stage → signs (seen frame) ≡ false
    → MayCome30 stage frame
may_come line Asks frame spoken fits unsigned = spoken_asks line spoken fits
may_come line LogSent frame spoken fits unsigned = spoken_log line spoken fits
may_come line Faulty frame spoken fits unsigned = tt
may_come line Cleared frame spoken fits unsigned = tt
may_come line Sets frame spoken fits unsigned = tt
may_come line other frame spoken fits unsigned = unsigned
