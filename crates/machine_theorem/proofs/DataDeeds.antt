-- The deeds of a stretch, as calls of the controller: which take FISes, which send Data, and which send a command.
use Rattle.std.proofs.Common.{◌≡◌, ◌⊎◌, ℕ, Bool, true, false, List, [], ◌∷◌, ◌++◌, refl, sym, ap, subst, ◌∙◌, inl, inr, Option, Some, None}
use Rattle.std.specs.{Prelude.{◌==◌, MatchOption, slice_index, if◌then◌else◌, Result, Ok, Err}, Bool.MatchBool, declared.alloc.AllocError.AllocError}
use Rattle.fis_view.specs.{Frames.{Stamped, marked}, Seen.seen, declared.view.{Fis.Fis, FisFault.FisFault}}
use Rattle.fis_view.specs.declared.view.Fis.TheVariants as view
use Rattle.ahci_controller.specs.{Opening.IsOpening, States.ControllerState, declared.{feeding.Fed.Fed, next.Next.Next, taking.Hindrance.Hindrance}}
use Rattle.ahci_controller.specs.declared.feeding.Fed.TheVariants as fed_answer
use Rattle.ahci_controller.specs.declared.next.Next.TheVariants as next
use Rattle.controller_laws.specs.Events as call
use Rattle.controller_laws.specs.Events.{Event, Runs}
use Rattle.ahci_machine.specs.Acts as acts
use Rattle.ahci_machine.specs.{Answers.{IsStale, MissesFor, MissesMachine, SuppliesMachine, is_wanted}, Gathers.GatheringState, States.HasRules}
use Rattle.ahci_machine.specs.{States.{MachineState, gathering_at}, declared.{act.Act.Act, answers.Told.Told, request.Wanted.Wanted}}
use Rattle.ahci_machine.specs.declared.request.Wanted.TheVariants.{Command, Data}
use Rattle.ahci_machine.specs.declared.act.Act.TheVariants as act
use Rattle.machine_laws.specs.{ControllerLaws.{RunsRuled, calls_in}, Controllers.{ControllerGoesOn, GathersDue, StaysDue, data_calls, deed_calls}}
use Rattle.machine_laws.specs.{Controllers.{lost_calls, miss_calls, move_calls, rest_calls, supply_calls}, Deeds.{Deed, Does, Missed, Moved}}
use Rattle.machine_laws.specs.{Deeds.{Supplied, Wrote}, Feeding.OrdersAreIssued}
use Rattle.machine_theorem.specs.{Brought.{AllTakenWell, TakesWell}, Commands.IsSentFrom, OwnSlots.{AllKeepLine, KeepsLine}}
use Rattle.machine_theorem.proofs.{Cut.{Cut, cut_here, cut_more}, DataDown.{ArePlain, IsPlain, data_sent, is_payload, plain_both, sent_both}}
use Rattle.machine_theorem.proofs.{IsData.payload_type, Ordered.{append_runs, first_ruled}, Registered.order_is_no_data, Sent.marked_type}

-- ---- calls that send no Data

pub record Quiet (dev : ℕ) (events : List Event) : Type 0 where
  pub sends : data_sent dev events ≡ []
  pub plain : ArePlain events

quiet_none : (dev : ℕ) → Quiet dev []
quiet_none dev = record { sends = refl; plain = tt }

rests_quiet : (dev : ℕ) (old new : MachineState) (h : acts.RestsNow old new) → Quiet dev (rest_calls old new h)
rests_quiet dev old new (inl same) = quiet_none dev
rests_quiet dev old new (inr turns) = record { sends = refl; plain = (tt, tt) }

loses_quiet : (dev : ℕ) (frame : Option Stamped) (why : Hindrance) → Quiet dev (lost_calls frame why)
loses_quiet dev None why = quiet_none dev
loses_quiet dev (Some frame) why = record { sends = refl; plain = (tt, tt) }

supplies_quiet : (dev : ℕ) (w : Wanted) (bytes : List ℕ) (old : MachineState) (answer : Result Told AllocError) (new : MachineState) (h : SuppliesMachine w bytes old answer new)
    → Quiet dev (supply_calls w bytes old answer new h)
supplies_quiet dev (Command slot number) bytes old answer new h = record { sends = refl; plain = (tt, tt) }
supplies_quiet dev (Data d number done) bytes old answer new h = quiet_none dev

misses_data_quiet : (dev : ℕ) (wanted : Bool) (there : Option GatheringState) (d : ℕ) (old : MachineState) (it : Told) (new : MachineState)
    (h : MatchBool wanted (MatchOption there ⊥ (λ g. MissesFor g d old it new)) (IsStale old it new)) → Quiet dev (data_calls wanted there d old it new h)
misses_data_quiet dev true None d old it new h = quiet_none dev
misses_data_quiet dev true (Some g) d old it new h = record { sends = refl; plain = (tt, tt) }
misses_data_quiet dev false there d old it new h = quiet_none dev

misses_quiet : (dev : ℕ) (w : Wanted) (old : MachineState) (answer : Result Told AllocError) (new : MachineState) (h : MissesMachine w old answer new) → Quiet dev (miss_calls w old answer new h)
misses_quiet dev (Command slot number) old answer new h = record { sends = refl; plain = (tt, tt) }
misses_quiet dev (Data d number done) old (Ok it) new h = misses_data_quiet dev (is_wanted old d number done) (gathering_at old d) d old it new h
misses_quiet dev (Data d number done) old (Err e) new h = quiet_none dev

abbrev pub IsQuietMove : Act → Type 0
IsQuietMove (act.Takes took) = ⊥
IsQuietMove (act.Gathers dev answer) = ⊥
IsQuietMove (act.Turns said) = ⊥
IsQuietMove other = Unit {0}

move_quiet : (dev : ℕ) (a : Act) (old new : MachineState) (h : acts.Does old a new) → IsQuietMove a → Quiet dev (move_calls old a new h)
move_quiet dev act.Rests old new h is = rests_quiet dev old new h
move_quiet dev (act.Loses why) old new h is = loses_quiet dev old.incoming why
move_quiet dev (act.Writes w) old new h is = record { sends = refl; plain = (tt, tt) }
move_quiet dev act.LetsGo old new h is = record { sends = refl; plain = (tt, tt) }
move_quiet dev (act.Misses slot answer) old new h is = record { sends = refl; plain = (tt, tt) }
move_quiet dev (act.Takes took) old new h is = absurd is
move_quiet dev (act.Gathers d answer) old new h is = absurd is
move_quiet dev (act.Turns said) old new h is = absurd is
move_quiet dev other old new h is = quiet_none dev

abbrev pub IsQuietDeed : Deed → Type 0
IsQuietDeed (Moved a) = IsQuietMove a
IsQuietDeed other = Unit {0}

pub deed_quiet : (dev : ℕ) (deed : Deed) (old new : MachineState) (does : Does old deed new) → IsQuietDeed deed → Quiet dev (deed_calls old deed new does)
deed_quiet dev (Moved a) old new does is = move_quiet dev a old does.middle does.does is
deed_quiet dev (Wrote offset width value written) old new does is = record { sends = refl; plain = (tt, tt) }
deed_quiet dev (Supplied w bytes) old new does is = supplies_quiet dev w bytes old does.answer new does.supplies
deed_quiet dev (Missed w) old new does is = misses_quiet dev w old does.answer new does.misses
deed_quiet dev other old new does is = quiet_none dev

-- ---- commands

not_payload : (bytes : List ℕ) (r : Result Fis FisFault) → seen bytes ≡ r → (slice_index bytes 0 ≡ 0x46 → ⊥) → is_payload r ≡ false
not_payload bytes (Ok (view.Payload v)) is never = absurd (never (payload_type bytes v is))
not_payload bytes (Ok other) is never = refl
not_payload bytes (Err e) is never = refl

module _ (orders : OrdersAreIssued) (goes : ControllerGoesOn) (stays : StaysDue) (first : ControllerState) (opening : IsOpening first) where
  turn_plain : (said : Next) (old new : MachineState) (does : Does old (Moved (act.Turns said)) new) → HasRules old → (past : List Event) → Runs first past old.controller
      → IsPlain (call.Turned said)
  turn_plain (next.Order d slot fis) old new does rules past so_far =
      let sent : IsSentFrom first (past ++ call.Turned (next.Order d slot fis) ∷ []) d slot fis =
      record { before = past; later = []; is = refl; at = old.controller; first = so_far; ordered = orders old d slot fis new rules does } in
      not_payload (marked fis 0) (seen (marked fis 0)) refl
      (λ type. order_is_no_data first opening (past ++ call.Turned (next.Order d slot fis) ∷ []) d slot fis sent (sym (marked_type fis 0) ∙ type))
  turn_plain other old new does rules past so_far = tt

  deed_plain : (deed : Deed) (old new : MachineState) (does : Does old deed new) → HasRules old → (past : List Event) → Runs first past old.controller
      → ArePlain (deed_calls old deed new does)
  deed_plain (Moved (act.Turns said)) old new does rules past so_far = (turn_plain said old new does rules past so_far, tt)
  deed_plain (Moved (act.Takes took)) old new does rules past so_far = (tt, tt)
  deed_plain (Moved (act.Gathers d answer)) old new does rules past so_far = (tt, tt)
  deed_plain (Moved act.Rests) old new does rules past so_far = (deed_quiet 0 (Moved act.Rests) old new does tt).plain
  deed_plain (Moved a) old new does rules past so_far = (deed_quiet 0 (Moved a) old new does tt).plain
  deed_plain deed old new does rules past so_far = (deed_quiet 0 deed old new does tt).plain

  pub all_plain : (deeds : List Deed) (old now : MachineState) (run : RunsRuled old deeds now) → GathersDue old → (past : List Event) → Runs first past old.controller
      → ArePlain (calls_in old deeds now run)
  all_plain [] old now run due past so_far = tt
  all_plain (deed ∷ later) old now run due past so_far =
      let mid : MachineState = run.1.0 in
      let calls : List Event = deed_calls old deed mid run.1.1 in
      plain_both calls (calls_in mid later now run.1.2) (deed_plain deed old mid run.1.1 run.0 past so_far)
      (all_plain later mid now run.1.2 (stays old deed mid run.1.1 due) (past ++ calls)
      (append_runs past calls first old.controller mid.controller so_far (goes old deed mid run.1.1 run.0 (first_ruled later mid now run.1.2) due)))

-- ---- Data

if_one : (b : Bool) (f : List ℕ) → ((if b then f ∷ [] else []) ≡ []) ⊎ ((x : List ℕ) × ((if b then f ∷ [] else []) ≡ x ∷ []))
if_one true f = inr (f, refl)
if_one false f = inl refl

gathers_one : (dev : ℕ) (answer : Fed) (d number : ℕ) (bytes : List ℕ) → (data_sent dev (call.Gathered d number bytes answer ∷ []) ≡ [])
    ⊎ ((x : List ℕ) × (data_sent dev (call.Gathered d number bytes answer ∷ []) ≡ x ∷ []))
gathers_one dev (fed_answer.Goes message line) d number bytes = if_one (d == dev) bytes
gathers_one dev other d number bytes = inl refl

-- by a deed one FIS goes at most
one_sent : (dev : ℕ) (deed : Deed) (old new : MachineState) (does : Does old deed new)
    → (data_sent dev (deed_calls old deed new does) ≡ []) ⊎ ((x : List ℕ) × (data_sent dev (deed_calls old deed new does) ≡ x ∷ []))
one_sent dev (Moved (act.Gathers d answer)) old new does = gathers_one dev answer d does.does.gathering.feed.number does.does.gathering.bytes
one_sent dev (Moved (act.Turns said)) old new does = inl refl
one_sent dev (Moved (act.Takes took)) old new does = inl refl
one_sent dev (Moved act.Rests) old new does = inl (deed_quiet dev (Moved act.Rests) old new does tt).sends
one_sent dev (Moved a) old new does = inl (deed_quiet dev (Moved a) old new does tt).sends
one_sent dev deed old new does = inl (deed_quiet dev deed old new does tt).sends

pub record Found (many : Bool) (n c dev : ℕ) (old : MachineState) (deeds : List Deed) (now : MachineState) (run : RunsRuled old deeds now) (pre : List (List ℕ)) (f : List ℕ) : Type 0 where
  pub deed : Deed
  pub cut : Cut deed old deeds now run
  pub prior : data_sent dev (calls_in old cut.sooner cut.mid cut.led) ≡ pre
  pub sent : data_sent dev (deed_calls cut.mid deed cut.next cut.does) ≡ f ∷ []
  pub keeps : AllKeepLine many n c dev old cut.sooner cut.mid cut.led
  pub well : AllTakenWell dev old cut.sooner cut.mid cut.led

abbrev pub head_or : List ℕ → List (List ℕ) → List ℕ
head_or x [] = x
head_or x (y ∷ ys) = y

abbrev tail_of : List (List ℕ) → List (List ℕ)
tail_of [] = []
tail_of (y ∷ ys) = ys

module _ (many : Bool) (n c dev : ℕ) (old : MachineState) (deed : Deed) (later : List Deed) (now : MachineState) (run : RunsRuled old (deed ∷ later) now)
    (line : KeepsLine many n c dev old deed run.1.0 run.1.1) (takes : TakesWell dev old deed run.1.0 run.1.1) where
  abbrev by_it : List Event
  by_it = deed_calls old deed run.1.0 run.1.1

  behind : (one pre : List (List ℕ)) (f : List ℕ) → data_sent dev by_it ≡ one → Found many n c dev run.1.0 later now run.1.2 pre f → Found many n c dev old (deed ∷ later) now run (one ++ pre) f
  unfolding cut_more
  behind one pre f is found = record {
    deed = found.deed;
    cut = cut_more found.deed deed later old now run found.cut;
    prior = sent_both dev by_it (calls_in run.1.0 found.cut.sooner found.cut.mid found.cut.led)
        ∙ ap (λ l. l ++ data_sent dev (calls_in run.1.0 found.cut.sooner found.cut.mid found.cut.led)) is ∙ ap (λ l. one ++ l) found.prior;
    sent = found.sent;
    keeps = (line, found.keeps);
    well = (takes, found.well);
  }

  here : (rest : List (List ℕ)) (ih : (pre back : List (List ℕ)) (f : List ℕ) → rest ≡ pre ++ f ∷ back → Found many n c dev run.1.0 later now run.1.2 pre f)
      → (pre back : List (List ℕ)) (f x : List ℕ) → data_sent dev by_it ≡ x ∷ [] → x ∷ rest ≡ pre ++ f ∷ back → Found many n c dev old (deed ∷ later) now run pre f
  unfolding cut_here
  here rest ih [] back f x sent is = record {
    deed = deed;
    cut = cut_here deed later old now run;
    prior = refl;
    sent = sent ∙ ap (λ y. y ∷ []) (ap (λ l. head_or x l) is);
    keeps = line.end;
    well = tt;
  }
  here rest ih (y ∷ pre) back f x sent is =
      subst (λ (z : List ℕ). Found many n c dev old (deed ∷ later) now run (z ∷ pre) f) (ap (λ l. head_or x l) is)
      (behind (x ∷ []) pre f sent (ih pre back f (ap (λ l. tail_of l) is)))

  step : (rest : List (List ℕ)) (ih : (pre back : List (List ℕ)) (f : List ℕ) → rest ≡ pre ++ f ∷ back → Found many n c dev run.1.0 later now run.1.2 pre f)
      → (pre back : List (List ℕ)) (f : List ℕ) → data_sent dev by_it ++ rest ≡ pre ++ f ∷ back → Found many n c dev old (deed ∷ later) now run pre f
  step rest ih pre back f is = elim (one_sent dev deed old run.1.0 run.1.1) [
    | inl none ↦ behind [] pre f none (ih pre back f (ap (λ l. l ++ rest) (sym none) ∙ is))
    | inr some ↦ here rest ih pre back f some.0 some.1 (ap (λ l. l ++ rest) (sym some.1) ∙ is)
  ]

pub no_cons : {A : Type 0} (pre back : List (List ℕ)) (f : List ℕ) → [] ≡ pre ++ f ∷ back → A
no_cons [] back f e = absurd (cc)
no_cons (x ∷ pre) back f e = absurd (cc)

pub find : (many : Bool) (n c dev : ℕ) (deeds : List Deed) (old now : MachineState) (run : RunsRuled old deeds now) → AllKeepLine many n c dev old deeds now run → AllTakenWell dev old deeds now run
    → (pre back : List (List ℕ)) (f : List ℕ) → data_sent dev (calls_in old deeds now run) ≡ pre ++ f ∷ back → Found many n c dev old deeds now run pre f
find many n c dev [] old now run keeps well pre back f is = no_cons pre back f is
find many n c dev (deed ∷ later) old now run keeps well pre back f is =
    step many n c dev old deed later now run keeps.0 well.0 (data_sent dev (calls_in run.1.0 later now run.1.2))
    (λ pre back f e. find many n c dev later run.1.0 now run.1.2 keeps.1 well.1 pre back f e) pre back f
    (sym (sent_both dev (deed_calls old deed run.1.0 run.1.1) (calls_in run.1.0 later now run.1.2)) ∙ is)
