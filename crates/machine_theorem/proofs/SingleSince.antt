-- The Data that a controller took of a device since its last Register FIS: none where no slot of the device waits; and those that the device sent since.
use Rattle.std.proofs.Common.{◌≡◌, ℕ, ◌+◌, ◌&&◌, Bool, true, false, List, [], ◌∷◌, ◌++◌, refl, sym, ap, subst, ◌∙◌, Option, Some, arith}
use Rattle.std.proofs.lemmas.Bool.{eqb-true, false≢true}
use Rattle.std.specs.Prelude.{◌==◌, if◌then◌else◌, Result, Ok, Err}
use Rattle.fis_view.specs.{Frames.Stamped, Seen.seen, declared.view.{Fis.Fis, FisFault.FisFault}}
use Rattle.fis_view.specs.declared.view.Fis.TheVariants as view
use Rattle.multiplier.specs.Passing.{of_conn}
use Rattle.hba_fbs.specs.{Hearing.tag_of, Taking.port_of, Views.view_of}
use Rattle.ahci_controller.specs.{States.ControllerState, declared.taking.Took.Took}
use Rattle.controller_laws.specs.Events as call
use Rattle.controller_laws.specs.Events.{Does, Event, IsController, Runs}
use Rattle.sata_disk_books.specs.{Counted.Counted, Fises.told_by}
use Rattle.machine_laws.specs.Rising.{bytes_of, frames_of}
use Rattle.machine_theorem.specs.{Ending.{AllUnqueued, HasNoQueued}, Following.{AllHeardWell, HearsWell, told_call, told_calls}, InTurn.answers}
use Rattle.machine_theorem.specs.{InTurn.is_answering, OwnSlots.{AreOne, NoneLost, is_of}, SingleNumbers.{since_after, since_by, since_call}}
use Rattle.machine_theorem.specs.{SingleNumbers.since_calls, Tags.once_if, Waits.{AllKeepWaiting, KeepsWaiting, is_answered, taken_in, waits_in}}
use Rattle.machine_theorem.proofs.SingleWell.{Needs, none_queued, set_up_waits, well_needs}

-- ---- lists of calls

pub calls_both : (n : ℕ) (xs ys : List Event) (t : ℕ) → since_calls n t (xs ++ ys) ≡ since_calls n (since_calls n t xs) ys
unfolding since_calls
calls_both n [] ys t = refl
calls_both n (x ∷ xs) ys t = calls_both n xs ys (since_call n x t)

pub call_first : (n : ℕ) (x : Event) (ys : List Event) (t : ℕ) → since_calls n t (x ∷ ys) ≡ since_calls n (since_call n x t) ys
unfolding since_calls
call_first n x ys t = refl

-- ---- where no slot waits none came

module _ (n t : ℕ) where
  -- a call by which the device does not answer
  still : (e : Event) (old mid : ControllerState) → KeepsWaiting n old e mid → is_answered n e ≡ false → (waits_in n old ≡ false → t ≡ 0)
      → waits_in n mid ≡ false → t ≡ 0
  still e old mid keeps none was free = by (waits_in n old) refl
    where
      by : (b : Bool) → waits_in n old ≡ b → t ≡ 0
      by true is = absurd (false≢true (sym free ∙ keeps none is))
      by false is = was is

  answered_by : (frame : List ℕ) (took : Took) (own : Bool) → (port_of frame == n) ≡ own → (r : Result Fis FisFault) → seen frame ≡ r → answers r ≡ false
      → is_answered n (call.Took frame took) ≡ false
  answered_by frame took own e r is none =
      ap (λ (b : Bool). b && is_answering frame) e ∙ ap (λ (x : Result Fis FisFault). own && answers x) is ∙ ap (λ (b : Bool). own && b) none ∙ both own
    where
      both : (b : Bool) → (b && false) ≡ false
      both true = refl
      both false = refl

  taken_free : (frame : List ℕ) (took : Took) (old mid : ControllerState) → IsController old → call.Takes old frame took mid → HearsWell n old (call.Took frame took)
      → HasNoQueued n old → KeepsWaiting n old (call.Took frame took) mid → (waits_in n old ≡ false → t ≡ 0) → waits_in n mid ≡ false → (own : Bool)
      → (port_of frame == n) ≡ own → (r : Result Fis FisFault) → seen frame ≡ r → (if own then since_by r t else t) ≡ 0
  taken_free frame took old mid k takes well plain keeps was free false e r is =
      still (call.Took frame took) old mid keeps (ap (λ (b : Bool). b && is_answering frame) e) was free
  taken_free frame took old mid k takes well plain keeps was free true e (Ok (view.RegD2H f)) is = refl
  taken_free frame took old mid k takes well plain keeps was free true e (Ok (view.Payload f)) is =
      let same : port_of frame ≡ n = eqb-true (port_of frame) n e in
      let needs = subst (λ (j : ℕ). Needs (view_of j old.core) (view.Payload f)) same (well_needs old mid frame took takes (well same) (view.Payload f) is) in
      absurd (false≢true (sym free ∙ keeps (answered_by frame took true e (Ok (view.Payload f)) is refl) (set_up_waits n old k plain needs.0 needs.1)))
  taken_free frame took old mid k takes well plain keeps was free true e (Ok (view.RegH2D f)) is =
      still (call.Took frame took) old mid keeps (answered_by frame took true e (Ok (view.RegH2D f)) is refl) was free
  taken_free frame took old mid k takes well plain keeps was free true e (Ok (view.SetBits f)) is =
      still (call.Took frame took) old mid keeps (answered_by frame took true e (Ok (view.SetBits f)) is refl) was free
  taken_free frame took old mid k takes well plain keeps was free true e (Ok (view.DmaActivate f)) is =
      still (call.Took frame took) old mid keeps (answered_by frame took true e (Ok (view.DmaActivate f)) is refl) was free
  taken_free frame took old mid k takes well plain keeps was free true e (Ok (view.DmaSetup f)) is =
      still (call.Took frame took) old mid keeps (answered_by frame took true e (Ok (view.DmaSetup f)) is refl) was free
  taken_free frame took old mid k takes well plain keeps was free true e (Ok (view.PioSetup f)) is =
      still (call.Took frame took) old mid keeps (answered_by frame took true e (Ok (view.PioSetup f)) is refl) was free
  taken_free frame took old mid k takes well plain keeps was free true e (Ok (view.Unknown f)) is =
      still (call.Took frame took) old mid keeps (answered_by frame took true e (Ok (view.Unknown f)) is refl) was free
  taken_free frame took old mid k takes well plain keeps was free true e (Err fault) is =
      still (call.Took frame took) old mid keeps (answered_by frame took true e (Err fault) is refl) was free

  call_free : (e : Event) (old mid : ControllerState) → IsController old → Does old e mid → HearsWell n old e → HasNoQueued n old
      → KeepsWaiting n old e mid
      → (waits_in n old ≡ false → t ≡ 0) → waits_in n mid ≡ false → since_call n e t ≡ 0
  call_free (call.Took frame took) old mid k does well plain keeps was free =
      taken_free frame took old mid k does well plain keeps was free (port_of frame == n) refl (seen frame) refl
  call_free (call.Wrote offset value written) old mid k does well plain keeps was free = still (call.Wrote offset value written) old mid keeps refl was free
  call_free (call.WroteWide offset width value written) old mid k does well plain keeps was free =
      still (call.WroteWide offset width value written) old mid keeps refl was free
  call_free (call.Supplied slot number bytes supply) old mid k does well plain keeps was free =
      still (call.Supplied slot number bytes supply) old mid keeps refl was free
  call_free (call.Missed slot number supply) old mid k does well plain keeps was free = still (call.Missed slot number supply) old mid keeps refl was free
  call_free (call.Left frame why) old mid k does well plain keeps was free = still (call.Left frame why) old mid keeps refl was free
  call_free (call.Turned next) old mid k does well plain keeps was free = still (call.Turned next) old mid keeps refl was free
  call_free (call.Said write) old mid k does well plain keeps was free = still (call.Said write) old mid keeps refl was free
  call_free (call.Gathered d number frame fed) old mid k does well plain keeps was free = still (call.Gathered d number frame fed) old mid keeps refl was free
  call_free (call.NotThere d number fed) old mid k does well plain keeps was free = still (call.NotThere d number fed) old mid keeps refl was free

pub since_free : (n : ℕ) (events : List Event) (old new : ControllerState) (run : Runs old events new) → AllHeardWell n old events new run
    → AllUnqueued n old events new run → AllKeepWaiting n old events new run → (t : ℕ) → (waits_in n old ≡ false → t ≡ 0) → waits_in n new ≡ false
    → since_calls n t events ≡ 0
unfolding since_calls
since_free n [] old new run well plain keeps t was free = was (ap (waits_in n) (sym run.1) ∙ free)
since_free n (e ∷ later) old new run well plain keeps t was free =
    since_free n later run.1.0 new run.1.2 well.1 plain.2 keeps.1 (since_call n e t)
    (call_free n t e old run.1.0 run.0 run.1.1 well.0 plain.0 keeps.0 was) free

-- ---- while the device does not answer they are what its FISes say

abbrev at : (tag count : ℕ) → Option Counted
at tag count = Some (record { tag = tag; count = count })

module _ (n tag t : ℕ) where
  taken_told : (frame : List ℕ) (took : Took) (old mid : ControllerState) → IsController old → call.Takes old frame took mid → HearsWell n old (call.Took frame took)
      → HasNoQueued n old → (own : Bool) → (port_of frame == n) ≡ own → (r : Result Fis FisFault) → seen frame ≡ r → (own && answers r) ≡ false
      → (if own then told_by r (at tag t) else at tag t) ≡ at tag (if own then since_by r t else t)
  taken_told frame took old mid k takes well plain false e r is none = refl
  taken_told frame took old mid k takes well plain true e (Ok (view.RegD2H f)) is none = absurd (cc)
  taken_told frame took old mid k takes well plain true e (Ok (view.DmaSetup f)) is none =
      let same : port_of frame ≡ n = eqb-true (port_of frame) n e in
      let needs = subst (λ (j : ℕ). Needs (view_of j old.core) (view.DmaSetup f)) same (well_needs old mid frame took takes (well same) (view.DmaSetup f) is) in
      absurd (none_queued n old k plain (tag_of f) needs.0 needs.1.0 needs.1.1)
  taken_told frame took old mid k takes well plain true e (Ok (view.Payload f)) is none = refl
  taken_told frame took old mid k takes well plain true e (Ok (view.RegH2D f)) is none = refl
  taken_told frame took old mid k takes well plain true e (Ok (view.SetBits f)) is none = refl
  taken_told frame took old mid k takes well plain true e (Ok (view.DmaActivate f)) is none = refl
  taken_told frame took old mid k takes well plain true e (Ok (view.PioSetup f)) is none = refl
  taken_told frame took old mid k takes well plain true e (Ok (view.Unknown f)) is none = refl
  taken_told frame took old mid k takes well plain true e (Err fault) is none = refl

  call_told : (e : Event) (old mid : ControllerState) → IsController old → Does old e mid → HearsWell n old e → HasNoQueued n old
      → is_answered n e ≡ false
      → told_call n e (at tag t) ≡ at tag (since_call n e t)
  call_told (call.Took frame took) old mid k does well plain none =
      taken_told frame took old mid k does well plain (port_of frame == n) refl (seen frame) refl none
  call_told (call.Wrote offset value written) old mid k does well plain none = refl
  call_told (call.WroteWide offset width value written) old mid k does well plain none = refl
  call_told (call.Supplied slot number bytes supply) old mid k does well plain none = refl
  call_told (call.Missed slot number supply) old mid k does well plain none = refl
  call_told (call.Left frame why) old mid k does well plain none = refl
  call_told (call.Turned next) old mid k does well plain none = refl
  call_told (call.Said write) old mid k does well plain none = refl
  call_told (call.Gathered d number frame fed) old mid k does well plain none = refl
  call_told (call.NotThere d number fed) old mid k does well plain none = refl

none_once : (b : Bool) (m : ℕ) → once_if b + m ≡ 0 → (b ≡ false) × (m ≡ 0)
none_once true m e = absurd (omega (arith, e))
none_once false m e = (refl, omega (arith, e))

pub since_told : (n tag : ℕ) (events : List Event) (old new : ControllerState) (run : Runs old events new) → AllHeardWell n old events new run
    → AllUnqueued n old events new run → taken_in n events ≡ 0 → (t : ℕ) → told_calls n (at tag t) events ≡ at tag (since_calls n t events)
unfolding since_calls told_calls
since_told n tag [] old new run well plain none t = refl
since_told n tag (e ∷ later) old new run well plain none t =
    let both = none_once (is_answered n e) (taken_in n later) none in
    ap (λ (x : Option Counted). told_calls n x later) (call_told n tag t e old run.1.0 run.0 run.1.1 well.0 plain.0 both.0)
    ∙ since_told n tag later run.1.0 new run.1.2 well.1 plain.2 both.1 (since_call n e t)

-- ---- from the calls to the FISes of the connection

abbrev pub since_own : (dev t : ℕ) → List (List ℕ) → ℕ
since_own dev t [] = t
since_own dev t (f ∷ later) = since_own dev (if port_of f == dev then since_by (seen f) t else t) later

left_same : (b : Bool) (x t : ℕ) → b ≡ false → t ≡ (if b then x else t)
left_same true x t e = absurd (false≢true (sym e))
left_same false x t e = refl

pub calls_since : (dev : ℕ) (events : List Event) (t : ℕ) → NoneLost dev events → since_calls dev t events ≡ since_own dev t (frames_of events)
unfolding since_calls
calls_since dev [] t none = refl
calls_since dev (call.Took frame took ∷ later) t none = calls_since dev later _ none
calls_since dev (call.Left frame why ∷ later) t none =
    calls_since dev later t none.1 ∙ ap (λ k. since_own dev k (frames_of later)) (left_same (port_of frame == dev) (since_by (seen frame) t) t none.0)
calls_since dev (call.Wrote offset value written ∷ later) t none = calls_since dev later t none
calls_since dev (call.WroteWide offset width value written ∷ later) t none = calls_since dev later t none
calls_since dev (call.Supplied slot number bytes supply ∷ later) t none = calls_since dev later t none
calls_since dev (call.Missed slot number supply ∷ later) t none = calls_since dev later t none
calls_since dev (call.Turned next ∷ later) t none = calls_since dev later t none
calls_since dev (call.Said write ∷ later) t none = calls_since dev later t none
calls_since dev (call.Gathered d number frame fed ∷ later) t none = calls_since dev later t none
calls_since dev (call.NotThere d number fed ∷ later) t none = calls_since dev later t none

one_case : (b : Bool) (f : Stamped) (later : List Stamped) (t : ℕ)
    → since_after (if b then since_by (seen f.bytes) t else t) (bytes_of later) ≡ since_after t (bytes_of (if b then f ∷ later else later))
unfolding since_after
one_case true f later t = refl
one_case false f later t = refl

none_since : (t : ℕ) → t ≡ since_after t []
unfolding since_after
none_since t = refl

pub own_since : (n c dev : ℕ) (frames : List Stamped) (t : ℕ) → AreOne n c dev frames → since_own dev t (bytes_of frames) ≡ since_after t (bytes_of (of_conn n c frames))
own_since n c dev [] t one = none_since t
own_since n c dev (f ∷ later) t one =
    own_since n c dev later (if port_of f.bytes == dev then since_by (seen f.bytes) t else t) one.1
    ∙ ap (λ (b : Bool). since_after (if b then since_by (seen f.bytes) t else t) (bytes_of (of_conn n c later))) one.0
    ∙ one_case (is_of n c f) f (of_conn n c later) t
