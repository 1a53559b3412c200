-- The frame that was taken last is one that was sent.
use Rattle.std.proofs.Common.{◌≡◌, ℕ, Bool, true, false, List, [], ◌∷◌, ◌++◌, Option, Some, None, Result, Ok, Err, refl, sym, subst, inl, inr, All}
use Rattle.std.proofs.{Common.Contains, lemmas.List.Elements.{All-append, All-contains, All-nil, Contains-append_right, Contains-push}}
use Rattle.std.specs.{Prelude.{MatchOption, slice_index}, Bool.MatchBool, declared.alloc.AllocError.AllocError}
use Rattle.fis_view.specs.Frames.{Stamped}
use Rattle.ahci_controller.specs.declared.taking.{Hindrance.Hindrance, Took.Took}
use Rattle.ahci_machine.specs.Acts as acts
use Rattle.ahci_machine.specs.{Answers.{IsStale, MissesFor, MissesMachine, SuppliesMachine, is_wanted}, Gathers.GatheringState, States.HasRules}
use Rattle.ahci_machine.specs.{States.{MachineState, gathering_at}, declared.{act.Act.Act, answers.Told.Told, request.Wanted.Wanted}}
use Rattle.ahci_machine.specs.declared.request.Wanted.TheVariants.{Command, Data}
use Rattle.ahci_machine.specs.declared.act.Act.TheVariants as act
use Rattle.controller_laws.specs.Events as call
use Rattle.controller_laws.specs.Events.{Event}
use Rattle.machine_laws.specs.{ControllerLaws.{RunsRuled, calls_in}, Controllers.{data_calls, deed_calls, lost_calls, miss_calls, rest_calls}}
use Rattle.machine_laws.specs.{Controllers.supply_calls, Deeds.{Deed, Does, Moved, Wrote, Supplied, Missed}, Lent.last_taken, Rising.DataAreSent}
use Rattle.machine_laws.specs.Rising.{Frames, GoesOnRising, HaveRisen, came_by, frames_after, is_reset, more_frames, sent_by}
use Rattle.machine_theorem.proofs.Sent.{AllSent}

-- these bytes are those of a frame of which this holds, if it is a Data FIS
pub record Known (P : Stamped → Type 0) (bytes : List ℕ) : Type 0 where
  pub frame : Stamped
  pub is : frame.bytes ≡ bytes
  pub sent : slice_index frame.bytes 0 ≡ 0x46 → P frame

abbrev pub IsKnown : (Stamped → Type 0) → Option (List ℕ) → Type 0
IsKnown P None = Unit {0}
IsKnown P (Some bytes) = Known P bytes

-- ---- deeds by which no frame is taken

rests : (old new : MachineState) (does : acts.RestsNow old new) (last : Option (List ℕ)) → last_taken last (rest_calls old new does) ≡ last
rests old new (inl same) last = refl
rests old new (inr turns) last = refl

loses : (frame : Option Stamped) (why : Hindrance) (last : Option (List ℕ)) → last_taken last (lost_calls frame why) ≡ last
loses None why last = refl
loses (Some f) why last = refl

supplies : (w : Wanted) (bytes : List ℕ) (old : MachineState) (answer : Result Told AllocError) (new : MachineState) (h : SuppliesMachine w bytes old answer new) (last : Option (List ℕ))
    → last_taken last (supply_calls w bytes old answer new h) ≡ last
supplies (Command slot number) bytes old answer new h last = refl
supplies (Data dev number done) bytes old answer new h last = refl

misses_data : (wanted : Bool) (there : Option GatheringState) (dev : ℕ) (old : MachineState) (it : Told) (new : MachineState)
    (h : MatchBool wanted (MatchOption there ⊥ (λ g. MissesFor g dev old it new)) (IsStale old it new)) (last : Option (List ℕ)) → last_taken last (data_calls wanted there dev old it new h) ≡ last
misses_data true None dev old it new h last = refl
misses_data true (Some g) dev old it new h last = refl
misses_data false there dev old it new h last = refl

misses : (w : Wanted) (old : MachineState) (answer : Result Told AllocError) (new : MachineState) (h : MissesMachine w old answer new) (last : Option (List ℕ))
    → last_taken last (miss_calls w old answer new h) ≡ last
misses (Command slot number) old answer new h last = refl
misses (Data dev number done) old (Ok it) new h last = misses_data (is_wanted old dev number done) (gathering_at old dev) dev old it new h last
misses (Data dev number done) old (Err e) new h last = refl

abbrev KeepsKnown : (Stamped → Type 0) → Option (List ℕ) → Option (List ℕ) → Type 0
KeepsKnown P last now = IsKnown P last → IsKnown P now

still : (P : Stamped → Type 0) (last now : Option (List ℕ)) → now ≡ last → KeepsKnown P last now
still P last now same known = subst (IsKnown P) (sym same) known

-- ---- each deed

takes : GoesOnRising → DataAreSent → (P : Stamped → Type 0) (old : MachineState) (took : Took) (new : MachineState) (does : Does old (Moved (act.Takes took)) new) (was : Frames)
    → HasRules old → HasRules new → HaveRisen old was → All (λ f. slice_index f.bytes 0 ≡ 0x46 → P f) (frames_after was old (Moved (act.Takes took)) new does).sent → Known P does.does.frame.bytes
takes goes law P old took new does was rules rules_new risen all =
    let h = does.does in
    let frames : Frames = frames_after was old (Moved (act.Takes took)) new does in
    let now : HaveRisen new frames = goes old (Moved (act.Takes took) ∷ []) new (rules, (new, does, (rules_new, refl))) was risen in
    let has : Contains frames.came h.frame = Contains-append_right was.came (h.frame ∷ []) h.frame (Contains-push [] h.frame) in
    record {
      frame = h.frame;
      is = refl;
      sent = λ type. All-contains (λ f. slice_index f.bytes 0 ≡ 0x46 → P f) frames.sent h.frame all (law new frames now h.frame has h.framed type).sent type;
    }

abbrev Knows : (Stamped → Type 0) → (old : MachineState) → (deed : Deed) → (new : MachineState) → Does old deed new → Option (List ℕ) → Type 0
Knows P old deed new does last = IsKnown P last → IsKnown P (last_taken last (deed_calls old deed new does))

moved : GoesOnRising → DataAreSent → (P : Stamped → Type 0) (old : MachineState) (a : Act) (new : MachineState) (does : Does old (Moved a) new) (was : Frames)
    → HasRules old → HasRules new → HaveRisen old was → All (λ f. slice_index f.bytes 0 ≡ 0x46 → P f) (frames_after was old (Moved a) new does).sent
    → (last : Option (List ℕ)) → Knows P old (Moved a) new does last
moved goes law P old (act.Takes took) new does was rules rules_new risen all last known = takes goes law P old took new does was rules rules_new risen all
moved goes law P old act.Rests new does was rules rules_new risen all last known = still P last (last_taken last (rest_calls old does.middle does.does)) (rests old does.middle does.does last) known
moved goes law P old (act.Loses why) new does was rules rules_new risen all last known = still P last (last_taken last (lost_calls old.incoming why)) (loses old.incoming why last) known
moved goes law P old (act.Writes write) new does was rules rules_new risen all last known = known
moved goes law P old act.LetsGo new does was rules rules_new risen all last known = known
moved goes law P old (act.Turns said) new does was rules rules_new risen all last known = known
moved goes law P old (act.Gathers dev answer) new does was rules rules_new risen all last known = known
moved goes law P old (act.Misses slot answer) new does was rules rules_new risen all last known = known
moved goes law P old other new does was rules rules_new risen all last known = known

one : GoesOnRising → DataAreSent → (P : Stamped → Type 0) (old : MachineState) (deed : Deed) (new : MachineState) (does : Does old deed new) (was : Frames)
    → HasRules old → HasRules new → HaveRisen old was → All (λ f. slice_index f.bytes 0 ≡ 0x46 → P f) (frames_after was old deed new does).sent
    → (last : Option (List ℕ)) → Knows P old deed new does last
one goes law P old (Moved a) new does was rules rules_new risen all last known = moved goes law P old a new does was rules rules_new risen all last known
one goes law P old (Supplied w bytes) new does was rules rules_new risen all last known =
    still P last (last_taken last (supply_calls w bytes old does.answer new does.supplies)) (supplies w bytes old does.answer new does.supplies last) known
one goes law P old (Missed w) new does was rules rules_new risen all last known =
    still P last (last_taken last (miss_calls w old does.answer new does.misses)) (misses w old does.answer new does.misses last) known
one goes law P old (Wrote offset width value written) new does was rules rules_new risen all last known = known
one goes law P old other new does was rules rules_new risen all last known = known

-- ---- every run

pub more_sent : (P : Stamped → Type 0) (reset : Bool) (was : Frames) (sent came : List Stamped) → All P was.sent → All P sent → All P (more_frames reset was sent came).sent
more_sent P true was sent came before now = All-nil P
more_sent P false was sent came before now = All-append P was.sent sent before now

last_both : (es fs : List Event) (last : Option (List ℕ)) → last_taken last (es ++ fs) ≡ last_taken (last_taken last es) fs
last_both [] fs last = refl
last_both (call.Took frame took ∷ es) fs last = last_both es fs (Some frame)
last_both (call.Wrote offset value written ∷ es) fs last = last_both es fs last
last_both (call.WroteWide offset width value written ∷ es) fs last = last_both es fs last
last_both (call.Supplied slot number bytes supply ∷ es) fs last = last_both es fs last
last_both (call.Missed slot number supply ∷ es) fs last = last_both es fs last
last_both (call.Left frame why ∷ es) fs last = last_both es fs last
last_both (call.Turned next ∷ es) fs last = last_both es fs last
last_both (call.Said write ∷ es) fs last = last_both es fs last
last_both (call.Gathered dev number frame fed ∷ es) fs last = last_both es fs last
last_both (call.NotThere dev number fed ∷ es) fs last = last_both es fs last

first_ruled : (deeds : List Deed) (old new : MachineState) → RunsRuled old deeds new → HasRules old
first_ruled [] old new run = run.0
first_ruled (deed ∷ later) old new run = run.0

pub taken_is_known : GoesOnRising → DataAreSent → (P : Stamped → Type 0) (old : MachineState) (deeds : List Deed) (new : MachineState) (run : RunsRuled old deeds new) (was : Frames)
    → HaveRisen old was → All (λ f. slice_index f.bytes 0 ≡ 0x46 → P f) was.sent → AllSent (λ f. slice_index f.bytes 0 ≡ 0x46 → P f) old deeds new run
    → (last : Option (List ℕ)) → IsKnown P last → IsKnown P (last_taken last (calls_in old deeds new run))
taken_is_known goes law P old [] new run was risen before all last known = known
taken_is_known goes law P old (deed ∷ later) new run was risen before all last known =
    let next : MachineState = run.1.0 in
    let does : Does old deed next = run.1.1 in
    let rules : HasRules next = first_ruled later next new run.1.2 in
    let sent : All (λ f. slice_index f.bytes 0 ≡ 0x46 → P f) (frames_after was old deed next does).sent =
    more_sent (λ f. slice_index f.bytes 0 ≡ 0x46 → P f) (is_reset deed) was (sent_by old deed next does) (came_by old deed next does) before all.0 in
    subst (IsKnown P) (sym (last_both (deed_calls old deed next does) (calls_in next later new run.1.2) last))
    (taken_is_known goes law P next later new run.1.2 (frames_after was old deed next does) (goes old (deed ∷ []) next (run.0, (next, does, (rules, refl))) was risen) sent all.1
    (last_taken last (deed_calls old deed next does)) (one goes law P old deed next does was run.0 rules risen sent last known))
