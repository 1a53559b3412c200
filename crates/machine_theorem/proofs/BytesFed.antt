-- Each byte of the Data that go of a slot in a run is of a Data FIS that goes at a moment of it, with what was supplied for it.
use Rattle.std.proofs.Common.{◌≡◌, ℕ, ◌+◌, ◌-◌, ◌<◌, ◌≤◌, Bool, true, false, List, [], ◌∷◌, ◌++◌, append_assoc, append-nil, drop, length, Option}
use Rattle.std.proofs.{Common.{Some, None, Result, Ok, Err, refl, sym, ap, subst, ◌∙◌, inl, inr, arith}, lemmas.Bool.{cases_lt, eq-eqb, eqb-true}}
use Rattle.std.proofs.lemmas.{List.{get_or-append_right, get_or_append_left, length-append}, Option.{slice_get-get_or}}
use Rattle.std.specs.{Prelude.{◌==◌, if◌then◌else◌, slice_get, MatchOption}, Bool.MatchBool, declared.alloc.AllocError.AllocError}
use Rattle.fis_view.specs.Frames.{Stamped}
use Rattle.ahci_controller.specs.declared.feeding.Fed.TheVariants as fed_answer
use Rattle.ahci_controller.specs.declared.{latch.Edge.Edge, taking.Hindrance.Hindrance}
use Rattle.controller_laws.specs.Events.{Event}
use Rattle.ahci_machine.specs.Acts as acts
use Rattle.ahci_machine.specs.{Answers.{IsStale, MissesFor, MissesMachine, SuppliesMachine, is_wanted}, Gathers.GatheringState, States.HasRules}
use Rattle.ahci_machine.specs.{States.{MachineState, gathering_at}, declared.{act.Act.Act, answers.Told.Told, request.Wanted.Wanted}}
use Rattle.ahci_machine.specs.declared.request.Wanted.TheVariants.{Command, Data}
use Rattle.ahci_machine.specs.declared.act.Act.TheVariants as act
use Rattle.machine_laws.specs.{ControllerLaws.{RunsRuled, calls_in}, Controllers.{data_calls, deed_calls, lost_calls, miss_calls, rest_calls}}
use Rattle.machine_laws.specs.{Controllers.supply_calls, Deeds.{Deed, Does, Missed, Moved, Supplied}, Feeding.came_by}
use Rattle.machine_theorem.specs.{SingleData.went_in, SingleWrites.{AllFed, IsFedBy, IsFedNext, went_to}, StoredSingles.IsByteFed, Writes.payloads}
use Rattle.machine_theorem.proofs.{DataDown.{data_sent, sent_both}, FedSingles.went_long, SingleWritesOwn.went_is}

-- ---- lists

payloads_both : (xs ys : List (List ℕ)) → payloads (xs ++ ys) ≡ payloads xs ++ payloads ys
payloads_both [] ys = refl
payloads_both (x ∷ xs) ys = ap (λ (l : List ℕ). drop 4 x ++ l) (payloads_both xs ys) ∙ sym (append_assoc (drop 4 x) (payloads xs) (payloads ys))

slice_left : (xs ys : List ℕ) (k : ℕ) → k < length xs → slice_get (xs ++ ys) k ≡ slice_get xs k
slice_left xs ys k low =
    let long = length-append xs ys in
    slice_get-get_or (xs ++ ys) k 0 (omega (arith, long, low)) ∙ ap Some (get_or_append_left xs ys 0 k low) ∙ sym (slice_get-get_or xs k 0 low)

slice_right : (xs ys : List ℕ) (k : ℕ) → length xs ≤ k → k < length xs + length ys → slice_get (xs ++ ys) k ≡ slice_get ys (k - length xs)
slice_right xs ys k from to =
    let long = length-append xs ys in
    slice_get-get_or (xs ++ ys) k 0 (omega (arith, long, to)) ∙ ap Some (get_or-append_right xs ys (length xs) k 0 refl from)
    ∙ sym (slice_get-get_or ys (k - length xs) 0 (omega (arith, from, to)))

-- ---- calls by which no Data go

module _ (dev : ℕ) where
  went_both : (xs ys : List Event) → went_to dev (xs ++ ys) ≡ went_to dev xs ++ went_to dev ys
  went_both xs ys =
      went_is dev (xs ++ ys) ∙ sent_both dev xs ys ∙ ap (λ (l : List (List ℕ)). l ++ data_sent dev ys) (sym (went_is dev xs))
      ∙ ap (λ (l : List (List ℕ)). went_to dev xs ++ l) (sym (went_is dev ys))

  rests : (old new : MachineState) (h : acts.RestsNow old new) → went_to dev (rest_calls old new h) ≡ []
  rests old new (inl same) = refl
  rests old new (inr turns) = refl

  loses : (frame : Option Stamped) (why : Hindrance) → went_to dev (lost_calls frame why) ≡ []
  loses None why = refl
  loses (Some f) why = refl

  supplies : (w : Wanted) (bytes : List ℕ) (old : MachineState) (answer : Result Told AllocError) (new : MachineState)
      (h : SuppliesMachine w bytes old answer new)
      → went_to dev (supply_calls w bytes old answer new h) ≡ []
  supplies (Command slot number) bytes old answer new h = refl
  supplies (Data d number done) bytes old answer new h = refl

  misses_data : (wanted : Bool) (there : Option GatheringState) (d : ℕ) (old : MachineState) (it : Told) (new : MachineState)
      (h : MatchBool wanted (MatchOption there ⊥ (λ g. MissesFor g d old it new)) (IsStale old it new))
      → went_to dev (data_calls wanted there d old it new h) ≡ []
  misses_data true None d old it new h = refl
  misses_data true (Some g) d old it new h = refl
  misses_data false there d old it new h = refl

  misses : (w : Wanted) (old : MachineState) (answer : Result Told AllocError) (new : MachineState) (h : MissesMachine w old answer new)
      → went_to dev (miss_calls w old answer new h) ≡ []
  misses (Command slot number) old answer new h = refl
  misses (Data d number done) old (Ok it) new h = misses_data (is_wanted old d number done) (gathering_at old d) d old it new h
  misses (Data d number done) old (Err e) new h = refl

  -- Data go to the device by a deed, or none do
  data Goes (old : MachineState) (deed : Deed) (new : MachineState) (does : Does old deed new) : Type 0 where
    None' : went_to dev (deed_calls old deed new does) ≡ [] → Goes old deed new does
    Some' : (message : Bool) (line : Edge) → deed ≡ Moved (act.Gathers dev (fed_answer.Goes message line)) → Goes old deed new does

  gathers : (b : Bool) (d : ℕ) (message : Bool) (line : Edge) (old new : MachineState)
      (does : Does old (Moved (act.Gathers d (fed_answer.Goes message line))) new) → (d == dev) ≡ b
      → Goes old (Moved (act.Gathers d (fed_answer.Goes message line))) new does
  gathers true d message line old new does is =
      Some' message line (ap (λ (k : ℕ). Moved (act.Gathers k (fed_answer.Goes message line))) (eqb-true d dev is))
  gathers false d message line old new does is = None' (ap (λ (b : Bool). if b then does.does.gathering.bytes ∷ [] else []) is)

  moves : (a : Act) (old new : MachineState) (does : Does old (Moved a) new) → Goes old (Moved a) new does
  moves (act.Gathers d (fed_answer.Goes message line)) old new does = gathers (d == dev) d message line old new does refl
  moves (act.Gathers d other) old new does = None' refl
  moves act.Rests old new does = None' (rests old does.middle does.does)
  moves (act.Loses why) old new does = None' (loses old.incoming why)
  moves a old new does = None' refl

  goes : (deed : Deed) (old new : MachineState) (does : Does old deed new) → Goes old deed new does
  goes (Moved a) old new does = moves a old new does
  goes (Supplied w bytes) old new does = None' (supplies w bytes old does.answer new does.supplies)
  goes (Missed w) old new does = None' (misses w old does.answer new does.misses)
  goes deed old new does = None' refl

-- ---- one byte

module _ (dev slot k : ℕ) where
  abbrev went : (old : MachineState) → (deeds : List Deed) → (now : MachineState) → RunsRuled old deeds now → List ℕ
  went old deeds now run = payloads (went_to dev (calls_in old deeds now run))

  abbrev Fed : (count : ℕ) → (was : List ℕ) → (old : MachineState) → (deeds : List Deed) → (now : MachineState) → RunsRuled old deeds now → Type 0
  Fed count was old deeds now run = IsByteFed dev slot k (slice_get (went old deeds now run) (k - count)) was old deeds now run

  parts : (old : MachineState) (deed : Deed) (later : List Deed) (now : MachineState) (run : RunsRuled old (deed ∷ later) now)
      → went old (deed ∷ later) now run ≡ payloads (went_to dev (deed_calls old deed run.1.0 run.1.1)) ++ went run.1.0 later now run.1.2
  parts old deed later now run =
      ap payloads (went_both dev (deed_calls old deed run.1.0 run.1.1) (calls_in run.1.0 later now run.1.2))
      ∙ payloads_both (went_to dev (deed_calls old deed run.1.0 run.1.1)) (went_to dev (calls_in run.1.0 later now run.1.2))

  -- what goes is what was supplied
  one_went : (was : List ℕ) (count : ℕ) (message : Bool) (line : Edge) (old mid : MachineState)
      (does : Does old (Moved (act.Gathers dev (fed_answer.Goes message line))) mid)
      → IsFedNext dev slot count was old dev message line mid does
      → payloads (went_to dev (deed_calls old (Moved (act.Gathers dev (fed_answer.Goes message line))) mid does)) ≡ was
  one_went was count message line old mid does fed =
      ap (λ (b : Bool). payloads (if b then does.does.gathering.bytes ∷ [] else [])) (eq-eqb dev dev refl)
      ∙ append-nil (drop 4 does.does.gathering.bytes) ∙ ap (drop 4) fed.bytes

  module _ (count : ℕ) (was : List ℕ) (old : MachineState) (rules : HasRules old) (mid : MachineState) (later : List Deed) (now : MachineState)
      (more : RunsRuled mid later now) (from : count ≤ k) where
    -- it is of the Data that go by the first deed
    here_at : (message : Bool) (line : Edge) (does : Does old (Moved (act.Gathers dev (fed_answer.Goes message line))) mid)
        → IsFedBy dev slot count was old (Moved (act.Gathers dev (fed_answer.Goes message line))) mid does
        → k < count + length (payloads (went_to dev (deed_calls old (Moved (act.Gathers dev (fed_answer.Goes message line))) mid does)))
        → Fed count was old (Moved (act.Gathers dev (fed_answer.Goes message line)) ∷ later) now (rules, (mid, does, more))
    here_at message line does fed to =
        let deed : Deed = Moved (act.Gathers dev (fed_answer.Goes message line)) in
        let next : IsFedNext dev slot count was old dev message line mid does = fed refl in
        let is = one_went was count message line old mid does next in
        let long = ap (λ (l : List ℕ). length l) is in
        record {
          sooner = [];
          mid = old;
          led = (rules, refl);
          message = message;
          line = line;
          after = mid;
          does = does;
          later = later;
          is = refl;
          offset = count;
          fed = next;
          from = from;
          to = omega (arith, to, long);
          byte = ap (λ (l : List ℕ). slice_get l (k - count))
              (parts old deed later now (rules, (mid, does, more)) ∙ ap (λ (l : List ℕ). l ++ went mid later now more) is)
              ∙ slice_left was (went mid later now more) (k - count) (omega (arith, to, long, from));
        }

    here : (deed : Deed) (does : Does old deed mid) → IsFedBy dev slot count was old deed mid does
        → k < count + length (payloads (went_to dev (deed_calls old deed mid does)))
        → Goes dev old deed mid does → Fed count was old (deed ∷ later) now (rules, (mid, does, more))
    here deed does fed to (None' none) = absurd (let long = ap (λ (l : List (List ℕ)). length (payloads l)) none in omega (arith, to, from, long))
    here deed does fed to (Some' message line is) =
        subst (λ (d : Deed). (x : Does old d mid) → IsFedBy dev slot count was old d mid x
        → k < count + length (payloads (went_to dev (deed_calls old d mid x)))
        → Fed count was old (d ∷ later) now (rules, (mid, x, more))) (sym is) (λ x f t. here_at message line x f t) does fed to

    -- or of those that go later
    there : (deed : Deed) (does : Does old deed mid) → count + length (payloads (went_to dev (deed_calls old deed mid does))) ≤ k
        → k < count + length (payloads (went_to dev (deed_calls old deed mid does))) + length (went mid later now more)
        → Fed (count + went_in dev (deed_calls old deed mid does)) (came_by dev old deed mid does was) mid later now more
        → Fed count was old (deed ∷ later) now (rules, (mid, does, more))
    there deed does past to it =
        let one : List ℕ = payloads (went_to dev (deed_calls old deed mid does)) in
        let long = went_long dev (deed_calls old deed mid does) in
        let same : k - count - length one ≡ k - (count + went_in dev (deed_calls old deed mid does)) = omega (arith, past, long) in
        record {
          sooner = deed ∷ it.sooner;
          mid = it.mid;
          led = (rules, (mid, does, it.led));
          message = it.message;
          line = it.line;
          after = it.after;
          does = it.does;
          later = it.later;
          is = ap (λ (l : List Deed). deed ∷ l) it.is;
          offset = it.offset;
          fed = it.fed;
          from = it.from;
          to = it.to;
          byte = ap (λ (l : List ℕ). slice_get l (k - count)) (parts old deed later now (rules, (mid, does, more)))
              ∙ slice_right one (went mid later now more) (k - count) (omega (arith, past)) (omega (arith, past, to))
              ∙ ap (λ (j : ℕ). slice_get (went mid later now more) j) same ∙ it.byte;
        }

  pub byte_fed : (deeds : List Deed) (old now : MachineState) (run : RunsRuled old deeds now) (count : ℕ) (was : List ℕ)
      → AllFed dev slot count was old deeds now run → count ≤ k
      → k < count + length (went old deeds now run) → Fed count was old deeds now run
  byte_fed [] old now run count was fed from to = absurd (omega (arith, from, to))
  byte_fed (deed ∷ later) old now run count was fed from to =
      let mid : MachineState = run.1.0 in
      let does : Does old deed mid = run.1.1 in
      let one : List ℕ = payloads (went_to dev (deed_calls old deed mid does)) in
      let rest : List ℕ = went mid later now run.1.2 in
      let both = ap (λ (l : List ℕ). length l) (parts old deed later now run) in
      let sum = length-append one rest in
      let long = went_long dev (deed_calls old deed mid does) in
      elim (cases_lt k (count + length one)) [
        | inl lt ↦ here count was old run.0 mid later now run.1.2 from deed does fed.0 lt (goes dev deed old mid does)
        | inr ge ↦
            there count was old run.0 mid later now run.1.2 from deed does ge (omega (arith, to, both, sum))
            (byte_fed later mid now run.1.2 (count + went_in dev (deed_calls old deed mid does)) (came_by dev old deed mid does was) fed.1
            (omega (arith, ge, long)) (omega (arith, to, both, sum, long)))
      ]
