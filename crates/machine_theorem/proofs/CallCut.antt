-- A stretch, cut where the disk at a port hears a FIS.
use Rattle.std.proofs.Common.{◌≡◌, ◌⊎◌, ℕ, Bool, true, false, List, [], ◌∷◌, ◌++◌, Option, Some, None, Result, Ok, Err, refl, sym, ap, subst, ◌∙◌}
use Rattle.std.proofs.{Common.{inl, inr}, lemmas.Bool.{eqb-true}}
use Rattle.std.specs.Prelude.{◌==◌, if◌then◌else◌}
use Rattle.fis_view.specs.Frames.{Stamped}
use Rattle.sata_disk.specs.declared.unheard.Unheard.{Unheard}
use Rattle.sata_disk_laws.specs.Calls as call
use Rattle.sata_disk_laws.specs.Calls.{Call}
use Rattle.ahci_machine.specs.{States.{MachineState, bay_at}, declared.act.Act.Act}
use Rattle.ahci_machine.specs.declared.act.Act.TheVariants as act
use Rattle.machine_laws.specs.{ControllerLaws.RunsRuled, Deeds.{Answered, Deed, Moved, Pulled}, Disks.{calls_at, calls_by, heard, unless_refused}}
use Rattle.machine_theorem.specs.Identity.{calls_of}
use Rattle.machine_theorem.proofs.Cut.{Cut, cut_here, cut_more}

-- ---- a deed is one call at most

abbrev AtMostOne : List Call → Type 0
AtMostOne l = (l ≡ []) ⊎ ((c : Call) × (l ≡ c ∷ []))

if_one : (b : Bool) (l : List Call) → AtMostOne l → AtMostOne (if b then l else [])
if_one true l one = one
if_one false l one = inl refl

heard_one : (o : Option Stamped) → AtMostOne (heard o)
heard_one None = inl refl
heard_one (Some f) = inr (call.Hears f.bytes, refl)

refused_one : {A B : Type 0} (r : Result A B) (c : Call) → AtMostOne (unless_refused r (c ∷ []))
refused_one (Ok a) c = inr (c, refl)
refused_one (Err e) c = inl refl

move_one : (a : Act) (n : ℕ) (down : Option Stamped) → AtMostOne (calls_by a n down)
move_one (act.Begins k) n down = if_one (k == n) (call.Plugs ∷ []) (inr (call.Plugs, refl))
move_one (act.Hears k unheard) n down = if_one (k == n) (heard down) (heard_one down)
move_one (act.Speaks k o) n down = if_one (k == n) (call.Sends o ∷ []) (inr (call.Sends o, refl))
move_one (act.Starts k place) n down = if_one (k == n) (call.Starts (Some place) ∷ []) (inr (call.Starts (Some place), refl))
move_one (act.Asks id request) n down = if_one (id.port == n) (call.Asks request ∷ []) (inr (call.Asks request, refl))
move_one a n down = inl refl

deed_one : (old : MachineState) (deed : Deed) (n : ℕ) → AtMostOne (calls_at old deed n)
deed_one old (Moved a) n = move_one a n (bay_at old n).down
deed_one old (Answered id answer told) n =
    if_one (id.port == n) (unless_refused told (call.Answers id.number answer ∷ [])) (refused_one told (call.Answers id.number answer))
deed_one old (Pulled k told) n = if_one (k == n) (unless_refused told (call.Plugs ∷ [])) (refused_one told call.Plugs)
deed_one old deed n = inl refl

-- ---- by which the disk hears a FIS

record HearsIt (old : MachineState) (deed : Deed) (n : ℕ) (fis : List ℕ) : Type 0 where
  unheard : Option Unheard
  is : deed ≡ Moved (act.Hears n unheard)
  frame : Stamped
  down : (bay_at old n).down ≡ Some frame
  bytes : frame.bytes ≡ fis

abbrev head_call : Call → List Call → Call
head_call c [] = c
head_call c (d ∷ later) = d

abbrev fis_or : List ℕ → List Call → List ℕ
fis_or f (call.Hears g ∷ later) = g
fis_or f other = f

other_call : {A : Type 0} (b : Bool) (c : Call) (fis : List ℕ) → (c ≡ call.Hears fis → ⊥) → (if b then c ∷ [] else []) ≡ call.Hears fis ∷ [] → A
other_call true c fis never e = absurd (never (ap (head_call c) e))
other_call false c fis never e = absurd (cc)

refused_call : {A B C : Type 0} (b : Bool) (r : Result A B) (c : Call) (fis : List ℕ) → (c ≡ call.Hears fis → ⊥)
    → (if b then unless_refused r (c ∷ []) else []) ≡ call.Hears fis ∷ [] → C
refused_call true (Ok a) c fis never e = other_call true c fis never e
refused_call true (Err x) c fis never e = absurd (cc)
refused_call false r c fis never e = absurd (cc)

hears_case : (old : MachineState) (k n : ℕ) (unheard : Option Unheard) (fis : List ℕ) (o : Option Stamped) → (bay_at old n).down ≡ o → (b : Bool) → (k == n) ≡ b
    → (if b then heard o else []) ≡ call.Hears fis ∷ [] → HearsIt old (Moved (act.Hears k unheard)) n fis
hears_case old k n unheard fis (Some f) down true here e = record {
  unheard = unheard;
  is = ap (λ (j : ℕ). Moved (act.Hears j unheard)) (eqb-true k n here);
  frame = f;
  down = down;
  bytes = ap (λ (l : List Call). fis_or f.bytes l) e;
}
hears_case old k n unheard fis None down true here e = absurd (cc)
hears_case old k n unheard fis o down false here e = absurd (cc)

move_hears : (old : MachineState) (a : Act) (n : ℕ) (fis : List ℕ) → calls_by a n (bay_at old n).down ≡ call.Hears fis ∷ [] → HearsIt old (Moved a) n fis
move_hears old (act.Begins k) n fis e = other_call (k == n) call.Plugs fis (λ (x : call.Plugs ≡ call.Hears fis). cc) e
move_hears old (act.Hears k unheard) n fis e = hears_case old k n unheard fis (bay_at old n).down refl (k == n) refl e
move_hears old (act.Speaks k o) n fis e = other_call (k == n) (call.Sends o) fis (λ (x : call.Sends o ≡ call.Hears fis). cc) e
move_hears old (act.Starts k place) n fis e = other_call (k == n) (call.Starts (Some place)) fis (λ (x : call.Starts (Some place) ≡ call.Hears fis). cc) e
move_hears old (act.Asks id request) n fis e = other_call (id.port == n) (call.Asks request) fis (λ (x : call.Asks request ≡ call.Hears fis). cc) e
move_hears old a n fis e = absurd (cc)

deed_hears : (old : MachineState) (deed : Deed) (n : ℕ) (fis : List ℕ) → calls_at old deed n ≡ call.Hears fis ∷ [] → HearsIt old deed n fis
deed_hears old (Moved a) n fis e = move_hears old a n fis e
deed_hears old (Answered id answer told) n fis e =
    refused_call (id.port == n) told (call.Answers id.number answer) fis (λ (x : call.Answers id.number answer ≡ call.Hears fis). cc) e
deed_hears old (Pulled k told) n fis e = refused_call (k == n) told call.Plugs fis (λ (x : call.Plugs ≡ call.Hears fis). cc) e
deed_hears old deed n fis e = absurd (cc)

-- ---- the deed in a stretch

record Found (n : ℕ) (deed : Deed) (old : MachineState) (deeds : List Deed) (now : MachineState) (run : RunsRuled old deeds now) (front : List Call) (c : Call)
    (later : List Call) : Type 0 where
  cut : Cut deed old deeds now run
  prior : calls_of n old cut.sooner cut.mid cut.led ≡ front
  here : calls_at cut.mid deed n ≡ c ∷ []
  then' : calls_of n cut.next cut.later now cut.rest ≡ later

record HasFound (n : ℕ) (old : MachineState) (deeds : List Deed) (now : MachineState) (run : RunsRuled old deeds now) (front : List Call) (c : Call) (later : List Call)
    : Type 0 where
  deed : Deed
  found : Found n deed old deeds now run front c later

abbrev tail_calls : List Call → List Call
tail_calls [] = []
tail_calls (d ∷ later) = later

module _ (n : ℕ) (old : MachineState) (deed : Deed) (later : List Deed) (now : MachineState) (run : RunsRuled old (deed ∷ later) now) where
  abbrev rest : List Call
  rest = calls_of n run.1.0 later now run.1.2

  behind : (one front : List Call) (c : Call) (back : List Call) → calls_at old deed n ≡ one → HasFound n run.1.0 later now run.1.2 front c back
      → HasFound n old (deed ∷ later) now run (one ++ front) c back
  unfolding cut_more
  behind one front c back is it = record {
    deed = it.deed;
    found = record {
      cut = cut_more it.deed deed later old now run it.found.cut;
      prior = ap (λ (l : List Call). l ++ calls_of n run.1.0 it.found.cut.sooner it.found.cut.mid it.found.cut.led) is ∙ ap (λ (l : List Call). one ++ l) it.found.prior;
      here = it.found.here;
      then' = it.found.then';
    };
  }

  here : (c : Call) (back : List Call) → calls_at old deed n ≡ c ∷ [] → rest ≡ back → HasFound n old (deed ∷ later) now run [] c back
  unfolding cut_here
  here c back is same = record { deed = deed; found = record { cut = cut_here deed later old now run; prior = refl; here = is; then' = same } }

  one_case : (ih : (front : List Call) (c : Call) (back : List Call) → rest ≡ front ++ c ∷ back → HasFound n run.1.0 later now run.1.2 front c back)
      → (front : List Call) (c : Call) (back : List Call) (d : Call) → calls_at old deed n ≡ d ∷ [] → d ∷ rest ≡ front ++ c ∷ back
      → HasFound n old (deed ∷ later) now run front c back
  one_case ih [] c back d is same = here c back (is ∙ ap (λ (x : Call). x ∷ []) (ap (head_call d) same)) (ap tail_calls same)
  one_case ih (x ∷ front) c back d is same =
      subst (λ (y : Call). HasFound n old (deed ∷ later) now run (y ∷ front) c back) (ap (head_call d) same)
      (behind (d ∷ []) front c back is (ih front c back (ap tail_calls same)))

  step : (ih : (front : List Call) (c : Call) (back : List Call) → rest ≡ front ++ c ∷ back → HasFound n run.1.0 later now run.1.2 front c back)
      → (front : List Call) (c : Call) (back : List Call) → calls_at old deed n ++ rest ≡ front ++ c ∷ back → HasFound n old (deed ∷ later) now run front c back
  step ih front c back same = elim (deed_one old deed n) [
    | inl none ↦ behind [] front c back none (ih front c back (ap (λ (l : List Call). l ++ rest) (sym none) ∙ same))
    | inr some ↦ one_case ih front c back some.0 some.1 (ap (λ (l : List Call). l ++ rest) (sym some.1) ∙ same)
  ]

no_call : {A : Type 0} (front : List Call) (c : Call) (back : List Call) → [] ≡ front ++ c ∷ back → A
no_call [] c back e = absurd (cc)
no_call (x ∷ front) c back e = absurd (cc)

find : (n : ℕ) (deeds : List Deed) (old now : MachineState) (run : RunsRuled old deeds now) (front : List Call) (c : Call) (back : List Call)
    → calls_of n old deeds now run ≡ front ++ c ∷ back → HasFound n old deeds now run front c back
find n [] old now run front c back same = no_call front c back same
find n (deed ∷ later) old now run front c back same =
    step n old deed later now run (λ front c back e. find n later run.1.0 now run.1.2 front c back e) front c back same

-- It hears it by this deed; it had these calls before, and these behind it.
pub record HearsAt (n : ℕ) (old : MachineState) (deeds : List Deed) (now : MachineState) (run : RunsRuled old deeds now) (front : List Call) (fis : List ℕ)
    (later : List Call) : Type 0 where
  pub unheard : Option Unheard
  pub cut : Cut (Moved (act.Hears n unheard)) old deeds now run
  pub prior : calls_of n old cut.sooner cut.mid cut.led ≡ front
  pub then' : calls_of n cut.next cut.later now cut.rest ≡ later
  pub frame : Stamped
  pub down : (bay_at cut.mid n).down ≡ Some frame
  pub bytes : frame.bytes ≡ fis

pub hears_at : (n : ℕ) (deeds : List Deed) (old now : MachineState) (run : RunsRuled old deeds now) (front : List Call) (fis : List ℕ) (later : List Call)
    → calls_of n old deeds now run ≡ front ++ call.Hears fis ∷ later → HearsAt n old deeds now run front fis later
hears_at n deeds old now run front fis later same =
    let it : HasFound n old deeds now run front (call.Hears fis) later = find n deeds old now run front (call.Hears fis) later same in
    let h : HearsIt it.found.cut.mid it.deed n fis = deed_hears it.found.cut.mid it.deed n fis it.found.here in
    of_deed it.deed h.unheard h.is it.found h.frame h.down h.bytes
  where
    of_deed : (deed : Deed) (unheard : Option Unheard) → deed ≡ Moved (act.Hears n unheard) → (found : Found n deed old deeds now run front (call.Hears fis) later)
        → (frame : Stamped) → (bay_at found.cut.mid n).down ≡ Some frame → frame.bytes ≡ fis → HearsAt n old deeds now run front fis later
    of_deed deed unheard is found frame down bytes =
        subst (λ (d : Deed). (f : Found n d old deeds now run front (call.Hears fis) later) → (bay_at f.cut.mid n).down ≡ Some frame → HearsAt n old deeds now run front fis later)
        (sym is) (λ f at. record { unheard = unheard; cut = f.cut; prior = f.prior; then' = f.then'; frame = frame; down = at; bytes = bytes }) found down
