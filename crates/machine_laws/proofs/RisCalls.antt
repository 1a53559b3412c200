-- What comes to the controller is what it takes or lets go.
use Rattle.std.proofs.Common.{◌≡◌, ℕ, Bool, true, false, List, [], ◌∷◌, ◌++◌, append_assoc, Option, Some, None, Result, Ok, Err, refl, sym, ap, ◌∙◌}
use Rattle.std.proofs.{Common.{inl, inr}, lemmas.List.{append-nil, map-append}}
use Rattle.std.specs.{Prelude.MatchOption, Bool.MatchBool, Option.option_to_list, declared.alloc.AllocError.AllocError}
use Rattle.fis_view.specs.Frames.{Stamped}
use Rattle.ahci_controller.specs.declared.taking.Hindrance.{Hindrance}
use Rattle.controller_laws.specs.Events as call
use Rattle.controller_laws.specs.Events.{Event}
use Rattle.ahci_machine.specs.Acts as acts
use Rattle.ahci_machine.specs.{Answers.{IsStale, MissesFor, MissesMachine, SuppliesMachine, is_wanted}, Gathers.GatheringState, States.MachineState}
use Rattle.ahci_machine.specs.{States.gathering_at, declared.{act.Act.Act, answers.Told.Told, request.Wanted.{Wanted, TheVariants.{Command, Data}}}}
use Rattle.ahci_machine.specs.declared.act.Act.TheVariants as act
use Rattle.machine_laws.specs.{ControllerLaws.calls_in, Controllers.{data_calls, deed_calls, lost_calls, miss_calls, move_calls, rest_calls}}
use Rattle.machine_laws.specs.{Controllers.supply_calls, Deeds.{Deed, Does, Moved, Wrote, Supplied, Missed}, Rising.{Frames, FramesAreTaken}}
use Rattle.machine_laws.specs.Rising.{bytes_of, came_by, frames_in, frames_of, more_frames, move_came, sent_by}

both_of : (es fs : List Event) → frames_of (es ++ fs) ≡ frames_of es ++ frames_of fs
both_of [] fs = refl
both_of (call.Wrote offset value written ∷ es) fs = both_of es fs
both_of (call.WroteWide offset width value written ∷ es) fs = both_of es fs
both_of (call.Supplied slot number bytes supply ∷ es) fs = both_of es fs
both_of (call.Missed slot number supply ∷ es) fs = both_of es fs
both_of (call.Took frame took ∷ es) fs = ap (λ (l : List (List ℕ)). frame ∷ l) (both_of es fs)
both_of (call.Left frame why ∷ es) fs = ap (λ (l : List (List ℕ)). frame ∷ l) (both_of es fs)
both_of (call.Turned said ∷ es) fs = both_of es fs
both_of (call.Said write ∷ es) fs = both_of es fs
both_of (call.Gathered dev number frame fed ∷ es) fs = both_of es fs
both_of (call.NotThere dev number fed ∷ es) fs = both_of es fs

lost_of : (o : Option Stamped) (why : Hindrance) → frames_of (lost_calls o why) ≡ bytes_of (option_to_list o)
lost_of None why = refl
lost_of (Some frame) why = refl

rest_of : (old new : MachineState) (does : acts.RestsNow old new) → frames_of (rest_calls old new does) ≡ []
rest_of old new (inl same) = refl
rest_of old new (inr turns) = refl

move_of : (a : Act) (old new : MachineState) (does : acts.Does old a new) → frames_of (move_calls old a new does) ≡ bytes_of (move_came old a new does)
move_of act.Rests old new h = rest_of old new h
move_of (act.Loses why) old new h = lost_of old.incoming why
move_of other old new h = refl

supply_of : (w : Wanted) (bytes : List ℕ) (old new : MachineState) (answer : Result Told AllocError) (h : SuppliesMachine w bytes old answer new) → frames_of (supply_calls w bytes old answer new h) ≡ []
supply_of (Command slot number) bytes old new answer h = refl
supply_of (Data dev number done) bytes old new answer h = refl

data_of : (wanted : Bool) (there : Option GatheringState) (dev : ℕ) (old : MachineState) (it : Told) (new : MachineState)
    (h : MatchBool wanted (MatchOption there ⊥ (λ g. MissesFor g dev old it new)) (IsStale old it new)) → frames_of (data_calls wanted there dev old it new h) ≡ []
data_of true None dev old it new h = refl
data_of true (Some g) dev old it new h = refl
data_of false there dev old it new h = refl

miss_of : (w : Wanted) (old new : MachineState) (answer : Result Told AllocError) (h : MissesMachine w old answer new) → frames_of (miss_calls w old answer new h) ≡ []
miss_of (Command slot number) old new answer h = refl
miss_of (Data dev number done) old new (Ok it) h = data_of (is_wanted old dev number done) (gathering_at old dev) dev old it new h
miss_of (Data dev number done) old new (Err e) h = refl

deed_of : (deed : Deed) (old new : MachineState) (does : Does old deed new) → frames_of (deed_calls old deed new does) ≡ bytes_of (came_by old deed new does)
deed_of (Moved a) old new h = move_of a old h.middle h.does
deed_of (Supplied w bytes) old new h = supply_of w bytes old new h.answer h.supplies
deed_of (Missed w) old new h = miss_of w old new h.answer h.misses
deed_of other old new h = refl

pub taken : FramesAreTaken
taken old [] new run was linked = sym (append-nil (bytes_of was.came))
taken old (deed ∷ later) new run was linked =
    let mid : MachineState = run.1.0 in
    let came : List Stamped = came_by old deed mid run.1.1 in
    let sent : List Stamped = sent_by old deed mid run.1.1 in
    let now : Frames = record { sent = was.sent ++ sent; came = was.came ++ came } in
    ap (λ (b : Bool). bytes_of (frames_in (more_frames b was sent came) mid later new run.1.2).came) linked.0
    ∙ taken mid later new run.1.2 now linked.1
    ∙ ap (λ (l : List (List ℕ)). l ++ frames_of (calls_in mid later new run.1.2)) (map-append (λ (f : Stamped). f.bytes) was.came came)
    ∙ append_assoc (bytes_of was.came) (bytes_of came) (frames_of (calls_in mid later new run.1.2))
    ∙ ap (λ (l : List (List ℕ)). bytes_of was.came ++ l)
    (ap (λ (l : List (List ℕ)). l ++ frames_of (calls_in mid later new run.1.2)) (sym (deed_of deed old mid run.1.1))
    ∙ sym (both_of (deed_calls old deed mid run.1.1) (calls_in mid later new run.1.2)))
