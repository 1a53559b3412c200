-- What ends its way to a disk is what the disk hears; where a FIS of the host goes.
use Rattle.std.proofs.Common.{◌≡◌, ℕ, Bool, true, false, List, [], ◌∷◌, Option, Some, None, Result, Ok, Err, refl, sym, ap, subst, ◌∙◌}
use Rattle.std.proofs.{Common.{option_to_list, map, ◌++◌}, lemmas.Bool.{eqb-true}}
use Rattle.std.specs.{Prelude.{◌==◌, if◌then◌else◌}, List.flat_map}
use Rattle.fis_view.specs.Frames.{Stamped}
use Rattle.sata_disk.specs.State.{DiskState}
use Rattle.sata_disk_laws.specs.Calls.{Call}
use Rattle.sata_disk_laws.specs.Calls as disk_call
use Rattle.ahci_machine.specs.{Answers.given_in, States.{MachineState, bay_at}, declared.bay.Unit.{Unit as Inside, TheVariants.{Empty, Disk}}}
use Rattle.ahci_machine.specs.declared.act.Act.TheVariants as act
use Rattle.machine_laws.proofs.FallFans.{goes_right}
use Rattle.machine_laws.specs.{Deeds.{Moved, Answered, Pulled, FrameTaken}, Disks.{heard, unless_refused}, Falling.DisksHearThem}
use Rattle.machine_laws.specs.Falling.{FramesGoWhereTheyShould, ArrivesAt, heard_by}

abbrev Bytes : List Stamped → List (List ℕ)
Bytes frames = map (λ (frame : Stamped). frame.bytes) frames

-- calls in which nothing is heard
none_heard : (b : Bool) (c : Call) → heard_by c ≡ [] → flat_map heard_by (if b then c ∷ [] else []) ≡ []
none_heard true c is = ap (λ (l : List (List ℕ)). l) (by (heard_by c) is)
  where
    by : (l : List (List ℕ)) → l ≡ [] → l ++ [] ≡ []
    by l h = ap (λ (k : List (List ℕ)). k ++ []) h
none_heard false c is = refl

heard_given : (o : Option Stamped) → flat_map heard_by (heard o) ≡ Bytes (option_to_list o)
heard_given None = refl
heard_given (Some f) = refl

heard_here : (b : Bool) (o : Option Stamped) → flat_map heard_by (if b then heard o else []) ≡ Bytes (if b then option_to_list o else [])
heard_here true o = heard_given o
heard_here false o = refl

no_disk : (d : DiskState) → Empty ≡ Disk d → ⊥
no_disk d is = subst is_nobody is tt
  where
    is_nobody : Inside → Type 0
    is_nobody Empty = Unit {0}
    is_nobody other = ⊥

-- nothing is dropped at a port where a disk is
drops_by : (b : Bool) (k n : ℕ) (old : MachineState) (d : DiskState) → (k == n) ≡ b → (bay_at old n).unit ≡ Disk d → (bay_at old k).unit ≡ Empty
    → [] ≡ Bytes (if b then option_to_list (bay_at old n).down else [])
drops_by true k n old d is there empty =
    absurd (no_disk d (sym (subst (λ (j : ℕ). (bay_at old j).unit ≡ Empty) (eqb-true k n is) empty) ∙ there))
drops_by false k n old d is there empty = refl

-- and a device of the caller's own takes none there
taken_by : (b : Bool) (k n : ℕ) (told : Option Stamped) (old : MachineState) (d : DiskState) → (k == n) ≡ b → (bay_at old n).unit ≡ Disk d
    → told ≡ given_in (bay_at old k).unit (bay_at old k).down → [] ≡ Bytes (if b then option_to_list told else [])
taken_by true k n told old d is there from =
    sym (ap (λ (o : Option Stamped). Bytes (option_to_list o))
    (from ∙ ap (λ (j : ℕ). given_in (bay_at old j).unit (bay_at old j).down) (eqb-true k n is) ∙ ap (λ (u : Inside). given_in u (bay_at old n).down) there))
taken_by false k n told old d is there from = refl

refused_heard : {A B : Type 0} (told : Result A B) (b : Bool) (c : Call) → heard_by c ≡ [] → flat_map heard_by (if b then unless_refused told (c ∷ []) else []) ≡ []
refused_heard (Ok x) b c is = none_heard b c is
refused_heard (Err e) true c is = refl
refused_heard (Err e) false c is = refl

pub hear_them : DisksHearThem
hear_them old (Moved (act.Begins k)) new h n d there = none_heard (k == n) disk_call.Plugs refl
hear_them old (Moved (act.Hears k unheard)) new h n d there = heard_here (k == n) (bay_at old n).down
hear_them old (Moved (act.Drops k)) new h n d there = drops_by (k == n) k n old d refl there h.does.does.2.empty
hear_them old (Moved (act.Speaks k out)) new h n d there = none_heard (k == n) (disk_call.Sends out) refl
hear_them old (Moved (act.Starts k place)) new h n d there = none_heard (k == n) (disk_call.Starts (Some place)) refl
hear_them old (Moved (act.Asks id request)) new h n d there = none_heard (id.port == n) (disk_call.Asks request) refl
hear_them old (Answered id a told) new h n d there = refused_heard told (id.port == n) (disk_call.Answers id.number a) refl
hear_them old (Pulled k told) new h n d there = refused_heard told (k == n) disk_call.Plugs refl
hear_them old (FrameTaken k told) new h n d there = taken_by (k == n) k n told old d refl there h.is
hear_them old other new h n d there = refl

pub go_where : FramesGoWhereTheyShould
go_where old went new h =
    subst (λ (o : Option Stamped). ArrivesAt old.fan o went) (sym h.does.on) (goes_right old.fan h.does.frame went h.middle.fan h.does.sends)
