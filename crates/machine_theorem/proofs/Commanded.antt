-- The FISes of a stretch of calls that are commands for a disk are those of slots of its device.
use Rattle.std.proofs.Common.{◌≡◌, ℕ, ◌≤◌, ◌&&◌, Bool, true, false, List, [], ◌∷◌, ◌++◌, length, map}
use Rattle.std.proofs.{Common.{Result, Ok, Err, refl, sym, ap, ◌∙◌, arith}, lemmas.{Bool.{eq-eqb, false≢true}, Grind.{flat_map-append}}}
use Rattle.std.proofs.lemmas.List.{length-append}
use Rattle.std.specs.{Prelude.{◌==◌, if◌then◌else◌}, List.flat_map}
use Rattle.fis_view.specs.{Frames.{Stamped, marked}, Seen.seen, declared.view.{Fis.Fis, FisFault.FisFault}}
use Rattle.fis_view.specs.declared.view.Fis.TheVariants as view
use Rattle.ahci_controller.specs.States.{ControllerState}
use Rattle.ahci_controller.specs.declared.feeding.Fed.TheVariants as fed
use Rattle.ahci_controller.specs.declared.next.Next.TheVariants as next
use Rattle.controller_laws.specs.Events as call
use Rattle.controller_laws.specs.Events.{Event, Runs}
use Rattle.sata_disk.specs.Hearing.{is_command}
use Rattle.sata_disk_laws.specs.{Calls.{Answers, Asks, Call, Hears, Plugs, Sends, Starts}, Once.place_in}
use Rattle.ahci_machine.specs.{Gathers.host_stamp, States.MachineState}
use Rattle.machine_laws.specs.{ControllerLaws.{RunsRuled, calls_in}, Controllers.deed_calls, Deeds.Deed, Falling.{heard_by, sent_by, sent_in}}
use Rattle.machine_theorem.specs.{Identity.{heard_as, is_for, picks}, InTurn.{commands, heard_in, is_asking}, Singles.AllOfDevice}
use Rattle.machine_theorem.specs.{Tags.{asks_with, once_if}, Waits.{commanded_in, is_commanded}}
use Rattle.machine_theorem.proofs.{Asking.{AllDataAskNone, DataAskNone}, Fallen.{if_one, map_both}, Within.picks_both}

-- ---- what a disk heard

pub heard_long : (calls : List Call) → length (picks is_asking (flat_map heard_by calls)) ≡ heard_in calls
heard_long [] = refl
heard_long (Hears bytes ∷ later) = if_one (is_asking bytes) bytes (picks is_asking (flat_map heard_by later)) (heard_in later) (heard_long later)
heard_long (Plugs ∷ later) = let rest = heard_long later in omega (arith, rest)
heard_long (Starts x ∷ later) = let rest = heard_long later in omega (arith, rest)
heard_long (Asks r ∷ later) = let rest = heard_long later in omega (arith, rest)
heard_long (Answers n a ∷ later) = let rest = heard_long later in omega (arith, rest)
heard_long (Sends o ∷ later) = let rest = heard_long later in omega (arith, rest)

-- ---- Data are no commands

-- what asks for no tag is none
none_asks : (r : Result Fis FisFault) → ((tag : ℕ) → asks_with tag r ≡ false) → commands r ≡ false
none_asks (Ok (view.RegH2D f)) none = by (is_command f) refl
  where
    by : (b : Bool) → is_command f ≡ b → b ≡ false
    by true is = absurd (false≢true (sym (none (place_in f)) ∙ ap (λ (b : Bool). b && (place_in f == place_in f)) is ∙ eq-eqb (place_in f) (place_in f) refl))
    by false is = refl
none_asks (Ok (view.RegD2H f)) none = refl
none_asks (Ok (view.SetBits f)) none = refl
none_asks (Ok (view.DmaActivate f)) none = refl
none_asks (Ok (view.DmaSetup f)) none = refl
none_asks (Ok (view.PioSetup f)) none = refl
none_asks (Ok (view.Payload f)) none = refl
none_asks (Ok (view.Unknown f)) none = refl
none_asks (Err e) none = refl

abbrev pub IsNoCommand : Event → Type 0
IsNoCommand (call.Gathered dev number bytes (fed.Goes message line)) = is_asking (marked bytes 0) ≡ false
IsNoCommand event = Unit {0}

abbrev pub AreNoCommands : List Event → Type 0
AreNoCommands [] = Unit {0}
AreNoCommands (e ∷ later) = IsNoCommand e × AreNoCommands later

one_none : (e : Event) (later : List Event) → ((tag : ℕ) → DataAskNone tag (e ∷ later)) → IsNoCommand e
one_none (call.Gathered dev number bytes (fed.Goes message line)) later none = none_asks (seen (marked bytes 0)) (λ tag. (none tag).0)
one_none (call.Gathered dev number bytes other) later none = tt
one_none other later none = tt

list_none : (events : List Event) → ((tag : ℕ) → DataAskNone tag events) → AreNoCommands events
list_none [] none = tt
list_none (e ∷ later) none = (one_none e later none, list_none later (λ tag. (none tag).1))

both_none : (xs ys : List Event) → AreNoCommands xs → AreNoCommands ys → AreNoCommands (xs ++ ys)
both_none [] ys a b = b
both_none (x ∷ xs) ys a b = (a.0, both_none xs ys a.1 b)

pub all_none : (deeds : List Deed) (old now : MachineState) (run : RunsRuled old deeds now) → ((tag : ℕ) → AllDataAskNone tag old deeds now run) → AreNoCommands (calls_in old deeds now run)
all_none [] old now run none = tt
all_none (deed ∷ later) old now run none =
    both_none (deed_calls old deed run.1.0 run.1.1) (calls_in run.1.0 later now run.1.2) (list_none (deed_calls old deed run.1.0 run.1.1) (λ tag. (none tag).0))
    (all_none later run.1.0 now run.1.2 (λ tag. (none tag).1))

-- ---- the commands that are sent

module _ (many : Bool) (n : ℕ) where
  abbrev pub asked : List Event → List (List ℕ)
  asked events = picks is_asking (map heard_as (picks (is_for many n) (sent_in events)))

  pub asked_both : (xs ys : List Event) → asked (xs ++ ys) ≡ asked xs ++ asked ys
  asked_both xs ys =
      ap (λ (l : List Stamped). picks is_asking (map heard_as (picks (is_for many n) l))) (flat_map-append sent_by xs ys)
      ∙ ap (λ (l : List Stamped). picks is_asking (map heard_as l)) (picks_both (is_for many n) (sent_in xs) (sent_in ys))
      ∙ ap (picks is_asking) (map_both heard_as (picks (is_for many n) (sent_in xs)) (picks (is_for many n) (sent_in ys)))
      ∙ picks_both is_asking (map heard_as (picks (is_for many n) (sent_in xs))) (map heard_as (picks (is_for many n) (sent_in ys)))

  abbrev stamped : ℕ → List ℕ → Stamped
  stamped to fis = record { bytes = fis; stamp = host_stamp to }

  -- a FIS for the disk
  picked : (b : Bool) (f : Stamped) → picks is_asking (map heard_as (if b then f ∷ [] else [])) ≡ (if b && is_asking (heard_as f) then heard_as f ∷ [] else [])
  picked true f = refl
  picked false f = refl

  abbrev passes : Stamped → Bool
  passes f = is_for many n f && is_asking (heard_as f)

  frame_asks : (f : Stamped) → picks is_asking (map heard_as (picks (is_for many n) (f ∷ []))) ≡ (if passes f then heard_as f ∷ [] else [])
  frame_asks f = picked (is_for many n f) f

  short : (b : Bool) (x : List ℕ) → length (if b then x ∷ [] else []) ≡ once_if b
  short true x = refl
  short false x = refl

  -- a call that sends a command for the disk
  pub record IsAsking (e : Event) : Type 0 where
    pub to : ℕ
    pub slot : ℕ
    pub fis : List ℕ
    pub is : e ≡ call.Turned (next.Order to slot fis)
    pub own : is_for many n (record { bytes = fis; stamp = host_stamp to }) ≡ true
    pub asks : is_asking (marked fis 0) ≡ true

  no_frame : (e : Event) → asked (e ∷ []) ≡ [] → 1 ≤ length (asked (e ∷ [])) → IsAsking e
  no_frame e none some = absurd (let zero = ap (λ (l : List (List ℕ)). length l) none in omega (arith, zero, some))

  both_true : (a b : Bool) → 1 ≤ once_if (a && b) → (a ≡ true) × (b ≡ true)
  both_true true true some = (refl, refl)
  both_true true false some = absurd (omega (arith, some))
  both_true false b some = absurd (omega (arith, some))

  frame_some : (f : Stamped) → 1 ≤ length (picks is_asking (map heard_as (picks (is_for many n) (f ∷ [])))) → (is_for many n f ≡ true) × (is_asking (heard_as f) ≡ true)
  frame_some f some =
      let long = ap (λ (l : List (List ℕ)). length l) (frame_asks f) ∙ short (passes f) (heard_as f) in
      both_true (is_for many n f) (is_asking (heard_as f)) (omega (arith, long, some))

  pub asking_is : (e : Event) → IsNoCommand e → 1 ≤ length (asked (e ∷ [])) → IsAsking e
  asking_is (call.Turned (next.Order to slot fis)) none some =
      let it = frame_some (stamped to fis) some in
      record { to = to; slot = slot; fis = fis; is = refl; own = it.0; asks = it.1 }
  asking_is (call.Gathered dev number bytes (fed.Goes message line)) none some = absurd (false≢true (sym none ∙ (frame_some (stamped dev bytes) some).1))
  asking_is (call.Gathered dev number bytes other) none some = no_frame _ refl some
  asking_is (call.Turned other) none some = no_frame _ refl some
  asking_is other none some = no_frame _ refl some

  pub asked_one : (e : Event) (it : IsAsking e) → asked (e ∷ []) ≡ marked it.fis 0 ∷ []
  asked_one e it =
      let f : Stamped = stamped it.to it.fis in
      ap (λ (x : Event). asked (x ∷ [])) it.is ∙ frame_asks f ∙ ap (λ (b : Bool). if b && is_asking (heard_as f) then heard_as f ∷ [] else []) it.own ∙ ap (λ (b : Bool). if b then heard_as f ∷ [] else []) it.asks

  -- ---- as many as are sent from slots of the device

  module _ (dev : ℕ) where
    zero_least : (k : ℕ) → 0 ≤ k
    zero_least k = omega arith

    least : (b : Bool) (l : List (List ℕ)) → length l ≡ 0 → length l ≤ once_if b
    least b l e = let k = zero_least (once_if b) in omega (arith, e, k)

    none_few : (e : Event) (c : ControllerState) → asked (e ∷ []) ≡ [] → length (asked (e ∷ [])) ≤ once_if (is_commanded dev c e)
    none_few e c none = least (is_commanded dev c e) (asked (e ∷ [])) (ap (λ (l : List (List ℕ)). length l) none)

    few_if : (a b d : Bool) → (a ≡ true → b ≡ true → d ≡ true) → once_if (a && b) ≤ once_if d
    few_if true true true of = omega arith
    few_if true true false of = absurd (false≢true (of refl refl))
    few_if true false d of = zero_least (once_if d)
    few_if false b d of = zero_least (once_if d)

    frame_few : (f : Stamped) (d : Bool) → (is_for many n f ≡ true → is_asking (heard_as f) ≡ true → d ≡ true) → length (picks is_asking (map heard_as (picks (is_for many n) (f ∷ [])))) ≤ once_if d
    frame_few f d of =
        let long = ap (λ (l : List (List ℕ)). length l) (frame_asks f) ∙ short (passes f) (heard_as f) in
        let few = few_if (is_for many n f) (is_asking (heard_as f)) d of in
        omega (arith, long, few)

    one_few : (e : Event) (old now : ControllerState) (later : List Event) (run : Runs old (e ∷ later) now) → IsNoCommand e → AllOfDevice many n dev old (e ∷ later) now run
        → length (asked (e ∷ [])) ≤ once_if (is_commanded dev old e)
    one_few (call.Turned (next.Order to slot fis)) old now later run none of = frame_few (stamped to fis) (is_commanded dev old (call.Turned (next.Order to slot fis))) of.0
    one_few (call.Gathered d number bytes (fed.Goes message line)) old now later run none of =
        frame_few (stamped d bytes) false (λ a b. absurd (false≢true (sym none ∙ b)))
    one_few (call.Gathered d number bytes other) old now later run none of = none_few (call.Gathered d number bytes other) old refl
    one_few (call.Turned other) old now later run none of = none_few (call.Turned other) old refl
    one_few (call.Wrote offset value written) old now later run none of = none_few (call.Wrote offset value written) old refl
    one_few (call.WroteWide offset width value written) old now later run none of = none_few (call.WroteWide offset width value written) old refl
    one_few (call.Supplied slot number bytes supply) old now later run none of = none_few (call.Supplied slot number bytes supply) old refl
    one_few (call.Missed slot number supply) old now later run none of = none_few (call.Missed slot number supply) old refl
    one_few (call.Took frame took) old now later run none of = none_few (call.Took frame took) old refl
    one_few (call.Left frame why) old now later run none of = none_few (call.Left frame why) old refl
    one_few (call.Said write) old now later run none of = none_few (call.Said write) old refl
    one_few (call.NotThere d number x) old now later run none of = none_few (call.NotThere d number x) old refl

    pub asked_few : (events : List Event) (old now : ControllerState) (run : Runs old events now) → AreNoCommands events → AllOfDevice many n dev old events now run
        → length (asked events) ≤ commanded_in dev old events now run
    asked_few [] old now run none of = omega arith
    asked_few (e ∷ later) old now run none of =
        let first = one_few e old now later run none.0 of in
        let rest = asked_few later run.1.0 now run.1.2 none.1 of.1 in
        let both = ap (λ (l : List (List ℕ)). length l) (asked_both (e ∷ []) later) ∙ length-append (asked (e ∷ [])) (asked later) in
        omega (arith, first, rest, both)
