-- The FISes that a disk sends in a stretch, as they go up from its port.
use Rattle.std.proofs.Common.{◌≡◌, ℕ, ◌+◌, Bool, true, false, List, [], ◌∷◌, ◌++◌, length, refl, sym, ap, subst, ◌∙◌, arith, Option, Some, None}
use Rattle.std.proofs.lemmas.{Bool.{and_parts, eqb-true, eq-eqb, false≢true, ltb-true}, List.{length-append, Elements.Contains-push}}
use Rattle.std.specs.Prelude.{◌==◌, ◌&&◌, map, if◌then◌else◌, Result, Ok, Err}
use Rattle.fis_view.specs.Frames.{Stamped}
use Rattle.fan_out.specs.{FanOuts.wants_at, declared.fan_out.FanOut.{FanOut, TheVariants.{Device, Multiplier}}}
use Rattle.multiplier.specs.Passing.{of_conn}
use Rattle.sata_disk.specs.{State.DiskState, Sending.IsFis, declared.out.Out.Out}
use Rattle.sata_disk_books.specs.{Counted.Counted, Fises.{AreFises, told_after}}
use Rattle.sata_disk_laws.specs.Calls as disk_call
use Rattle.sata_disk_laws.specs.Calls.{AreCalls, Call, Sends, after_call, after_calls}
use Rattle.sata_disk_laws.proofs.Door.{calls_after, calls_both}
use Rattle.ahci_machine.specs.{Answers.is_own, States.{MachineState, bay_at}, declared.{act.Act.Act, bay.Unit.{Unit as Inside, TheVariants.Disk}}}
use Rattle.ahci_machine.specs.declared.act.Act.TheVariants as act
use Rattle.machine_laws.specs.{ControllerLaws.RunsRuled, Deeds.{Answered, Deed, Does, FrameOffered, Moved, Pulled}, Disks.{DisksGoOn, calls_at}}
use Rattle.machine_laws.specs.{Disks.{calls_by, heard, unless_refused}, Rising.{is_multiplier, risen, sent_by, unless_back}}
use Rattle.machine_theorem.specs.{Identity.{IsThere, calls_of}, OwnSlots.{AllKeepLine, KeepsLine}, SingleNumbers.since_after}
use Rattle.machine_theorem.proofs.{EndsFew.{disk_same, sent_of, straight_port}, Fallen.left_there, RisenTold.{conn_both, map_both, risen_since}}
use Rattle.machine_theorem.proofs.{RisenTold.{risen_told, since_both, told_both}, Sent.stamped}

-- ---- FISes of a disk

abbrev bytes_in : List Stamped → List (List ℕ)
bytes_in frames = map (λ (f : Stamped). f.bytes) frames

-- how many of these calls send one
abbrev pub speaks_one : Call → ℕ
speaks_one (Sends o) = 1
speaks_one other = 0

abbrev pub spoken_in : List Call → ℕ
spoken_in [] = 0
spoken_in (c ∷ later) = speaks_one c + spoken_in later

spoken_both : (xs ys : List Call) → spoken_in (xs ++ ys) ≡ spoken_in xs + spoken_in ys
spoken_both [] ys = omega arith
spoken_both (x ∷ xs) ys = let rest = spoken_both xs ys in omega (arith, rest)

-- By these calls a disk sends FISes that say what these say.
pub record Made (d : DiskState) (calls : List Call) (frames : List Stamped) : Type 0 where
  pub fises : List (List ℕ)
  pub are : AreFises d calls fises
  pub told : (u : Option Counted) → told_after u fises ≡ told_after u (map (λ (f : Stamped). f.bytes) frames)
  pub since : (t : ℕ) → since_after t fises ≡ since_after t (map (λ (f : Stamped). f.bytes) frames)
  pub long : spoken_in calls ≡ length frames

fises_both : (xs ys : List Call) (d : DiskState) (one two : List (List ℕ)) → AreFises d xs one → AreFises (after_calls d xs) ys two → AreFises d (xs ++ ys) (one ++ two)
unfolding after_calls
fises_both [] ys d one two first later = subst (λ (l : List (List ℕ)). AreFises d ys (l ++ two)) (sym first) later
fises_both (Sends o ∷ xs) ys d one two first later = record {
  fis = first.fis;
  rest = first.rest ++ two;
  are = ap (λ l. l ++ two) first.are;
  is = first.is;
  later = fises_both xs ys (after_call d (Sends o)) first.rest two first.later later;
}
fises_both (disk_call.Plugs ∷ xs) ys d one two first later = fises_both xs ys (after_call d disk_call.Plugs) one two first later
fises_both (disk_call.Hears f ∷ xs) ys d one two first later = fises_both xs ys (after_call d (disk_call.Hears f)) one two first later
fises_both (disk_call.Starts x ∷ xs) ys d one two first later = fises_both xs ys (after_call d (disk_call.Starts x)) one two first later
fises_both (disk_call.Asks r ∷ xs) ys d one two first later = fises_both xs ys (after_call d (disk_call.Asks r)) one two first later
fises_both (disk_call.Answers number a ∷ xs) ys d one two first later = fises_both xs ys (after_call d (disk_call.Answers number a)) one two first later

made_both : (xs ys : List Call) (d : DiskState) (one two : List Stamped) → Made d xs one → Made (after_calls d xs) ys two → Made d (xs ++ ys) (one ++ two)
made_both xs ys d one two first later = record {
  fises = first.fises ++ later.fises;
  are = fises_both xs ys d first.fises later.fises first.are later.are;
  told = λ u. told_both first.fises later.fises u ∙ ap (λ k. told_after k later.fises) (first.told u) ∙ later.told (told_after u (bytes_in one))
      ∙ sym (told_both (bytes_in one) (bytes_in two) u) ∙ ap (λ l. told_after u l) (sym (map_both one two));
  since = λ t. since_both first.fises later.fises t ∙ ap (λ k. since_after k later.fises) (first.since t) ∙ later.since (since_after t (bytes_in one))
      ∙ sym (since_both (bytes_in one) (bytes_in two) t) ∙ ap (λ l. since_after t l) (sym (map_both one two));
  long =
      let all = spoken_both xs ys in
      let frames = length-append one two in
      let a = first.long in
      let b = later.long in
      omega (arith, all, frames, a, b);
}

none_made : (d : DiskState) → Made d [] []
none_made d = record { fises = []; are = refl; told = λ u. refl; since = λ t. refl; long = refl }

-- calls that send nothing
abbrev pub SendsNone : List Call → Type 0
SendsNone [] = Unit {0}
SendsNone (Sends o ∷ later) = ⊥
SendsNone (c ∷ later) = SendsNone later

quiet_fises : (calls : List Call) (d : DiskState) → SendsNone calls → AreFises d calls []
quiet_fises [] d none = refl
quiet_fises (Sends o ∷ later) d none = absurd none
quiet_fises (disk_call.Plugs ∷ later) d none = quiet_fises later (after_call d disk_call.Plugs) none
quiet_fises (disk_call.Hears f ∷ later) d none = quiet_fises later (after_call d (disk_call.Hears f)) none
quiet_fises (disk_call.Starts x ∷ later) d none = quiet_fises later (after_call d (disk_call.Starts x)) none
quiet_fises (disk_call.Asks r ∷ later) d none = quiet_fises later (after_call d (disk_call.Asks r)) none
quiet_fises (disk_call.Answers number a ∷ later) d none = quiet_fises later (after_call d (disk_call.Answers number a)) none

quiet_long : (calls : List Call) → SendsNone calls → spoken_in calls ≡ 0
quiet_long [] none = refl
quiet_long (Sends o ∷ later) none = absurd none
quiet_long (disk_call.Plugs ∷ later) none = let rest = quiet_long later none in omega (arith, rest)
quiet_long (disk_call.Hears f ∷ later) none = let rest = quiet_long later none in omega (arith, rest)
quiet_long (disk_call.Starts x ∷ later) none = let rest = quiet_long later none in omega (arith, rest)
quiet_long (disk_call.Asks r ∷ later) none = let rest = quiet_long later none in omega (arith, rest)
quiet_long (disk_call.Answers number a ∷ later) none = let rest = quiet_long later none in omega (arith, rest)

quiet_made : (calls : List Call) (d : DiskState) → SendsNone calls → Made d calls []
quiet_made calls d none = record { fises = []; are = quiet_fises calls d none; told = λ u. refl; since = λ t. refl; long = quiet_long calls none }

-- ---- calls of a deed that sends nothing

at_none : (b : Bool) (calls : List Call) → SendsNone calls → SendsNone (if b then calls else [])
at_none true calls none = none
at_none false calls none = tt

heard_none : (o : Option Stamped) → SendsNone (heard o)
heard_none None = tt
heard_none (Some f) = tt

refused_none : {A B : Type 0} (r : Result A B) (calls : List Call) → SendsNone calls → SendsNone (unless_refused r calls)
refused_none (Ok a) calls none = none
refused_none (Err e) calls none = tt

abbrev pub IsSilent : Deed → Type 0
IsSilent (Moved (act.Speaks k o)) = ⊥
IsSilent deed = Unit {0}

move_none : (a : Act) (n : ℕ) (down : Option Stamped) → IsSilent (Moved a) → SendsNone (calls_by a n down)
move_none (act.Speaks k o) n down is = absurd is
move_none (act.Begins k) n down is = at_none (k == n) (disk_call.Plugs ∷ []) tt
move_none (act.Hears k unheard) n down is = at_none (k == n) (heard down) (heard_none down)
move_none (act.Starts k place) n down is = at_none (k == n) (disk_call.Starts (Some place) ∷ []) tt
move_none (act.Asks id request) n down is = at_none (id.port == n) (disk_call.Asks request ∷ []) tt
move_none a n down is = tt

pub deed_none : (old : MachineState) (deed : Deed) (n : ℕ) → IsSilent deed → SendsNone (calls_at old deed n)
deed_none old (Moved a) n is = move_none a n (bay_at old n).down is
deed_none old (Answered id answer told) n is = at_none (id.port == n) (unless_refused told (disk_call.Answers id.number answer ∷ [])) (refused_none told (disk_call.Answers id.number answer ∷ []) tt)
deed_none old (Pulled k told) n is = at_none (k == n) (unless_refused told (disk_call.Plugs ∷ [])) (refused_none told (disk_call.Plugs ∷ []) tt)
deed_none old deed n is = tt

-- ---- which port it is

straight_room : (fan : FanOut) (k : ℕ) → is_multiplier fan ≡ false → wants_at fan k ≡ true → k ≡ 0
straight_room (Device s) k end room = let less = ltb-true k 1 (and_parts _ _ room).0 in omega (arith, less)
straight_room (Multiplier f) k end room = absurd (false≢true (sym end))

pub sender_is : (many : Bool) (n : ℕ) (old : MachineState) (k : ℕ) (frame : Stamped) → IsThere many n old → wants_at old.fan k ≡ true → ((risen old.fan k frame).stamp.port == n) ≡ true → k ≡ n
sender_is true n old k frame there room port = sym (stamped old.fan k frame there.fan) ∙ eqb-true (risen old.fan k frame).stamp.port n port
sender_is false n old k frame there room port = straight_room old.fan k there.fan room ∙ sym (there.one refl)

pub stamp_is : (many : Bool) (n : ℕ) (old : MachineState) (frame : Stamped) → IsThere many n old → (risen old.fan n frame).stamp.port ≡ n
stamp_is true n old frame there = stamped old.fan n frame there.fan
stamp_is false n old frame there = straight_port old.fan n frame there.fan ∙ sym (there.one refl)

own_not : (u : Inside) (d : DiskState) → u ≡ Disk d → is_own u ≡ true → ⊥
own_not u d is own = false≢true (sym (ap is_own is) ∙ own)

pub not_of : (n c : ℕ) (f : Stamped) (b : Bool) → (f.stamp.port == n) ≡ b → (b ≡ true → ⊥) → of_conn n c (f ∷ []) ≡ []
not_of n c f true e never = absurd (never refl)
not_of n c f false e never = ap (λ (x : Bool). if x && f.stamp.conn == c then f ∷ [] else []) e

pub is_one : (n c : ℕ) (f : Stamped) → f.stamp.port ≡ n → f.stamp.conn ≡ c → of_conn n c (f ∷ []) ≡ f ∷ []
is_one n c f port conn =
    ap (λ (x : Bool). if x && f.stamp.conn == c then f ∷ [] else []) (eq-eqb f.stamp.port n port) ∙ ap (λ (x : Bool). if x then f ∷ [] else []) (eq-eqb f.stamp.conn c conn)

-- ---- one deed

one_told : (fan : FanOut) (j : ℕ) (frame : Stamped) (u : Option Counted) → told_after u (frame.bytes ∷ []) ≡ told_after u ((risen fan j frame).bytes ∷ [])
unfolding told_after
one_told fan j frame u = sym (risen_told fan j frame u)

one_since : (fan : FanOut) (j : ℕ) (frame : Stamped) (t : ℕ) → since_after t (frame.bytes ∷ []) ≡ since_after t ((risen fan j frame).bytes ∷ [])
unfolding since_after
one_since fan j frame t = sym (risen_since fan j frame t)

module _ (many : Bool) (n c dev : ℕ) where
  speaks_made : (old : MachineState) (k : ℕ) (o : Out) (new : MachineState) (does : Does old (Moved (act.Speaks k o)) new) → KeepsLine many n c dev old (Moved (act.Speaks k o)) new does
      → (d : DiskState) → (bay_at old n).unit ≡ Disk d → (b : Bool) → (k == n) ≡ b
      → Made d (if b then Sends o ∷ [] else []) (of_conn n c (risen old.fan k does.does.does.1.frame ∷ []))
  speaks_made old k o new does keeps d unit true same =
      let h = does.does.does.1 in
      let f : Stamped = risen old.fan k h.frame in
      let here : k ≡ n = eqb-true k n same in
      let port : f.stamp.port ≡ n = subst (λ (j : ℕ). (risen old.fan j h.frame).stamp.port ≡ n) (sym here) (stamp_is many n old h.frame keeps.end) in
      let conn : f.stamp.conn ≡ c = keeps.sent f (Contains-push [] f) port in
      let disk : h.disk ≡ d = disk_same h.disk d (sym h.there ∙ ap (λ (j : ℕ). (bay_at old j).unit) here ∙ unit) in
      subst (λ (l : List Stamped). Made d (Sends o ∷ []) l) (sym (is_one n c f port conn)) (record {
        fises = h.frame.bytes ∷ [];
        are = record { fis = h.frame.bytes; rest = []; are = refl; is = subst (λ (x : DiskState). IsFis x o h.frame.bytes) disk h.bytes; later = refl };
        told = λ u. one_told old.fan k h.frame u;
        since = λ t. one_since old.fan k h.frame t;
        long = refl;
      })
  speaks_made old k o new does keeps d unit false same =
      let h = does.does.does.1 in
      let f : Stamped = risen old.fan k h.frame in
      subst (λ (l : List Stamped). Made d [] l) (sym (not_of n c f (f.stamp.port == n) refl (λ port. false≢true (sym same ∙ eq-eqb k n (sender_is many n old k h.frame keeps.end h.room port))))) (none_made d)

  pub offers_none : (old : MachineState) (k : ℕ) (frame : Stamped) (told : Result (Unit {0}) Stamped) (new : MachineState) → Does old (FrameOffered k frame told) new → IsThere many n old
      → (d : DiskState) → (bay_at old n).unit ≡ Disk d → of_conn n c (unless_back told (risen old.fan k frame)) ≡ []
  offers_none old k frame (Err back) new does there d unit = refl
  offers_none old k frame (Ok x) new does there d unit =
      let f : Stamped = risen old.fan k frame in
      not_of n c f (f.stamp.port == n) refl (λ port.
      let here : k ≡ n = sender_is many n old k frame there does.own.1 port in
      own_not (bay_at old k).unit d (ap (λ (j : ℕ). (bay_at old j).unit) here ∙ unit) does.own.0)

  move_made : (old : MachineState) (a : Act) (new : MachineState) (does : Does old (Moved a) new) → KeepsLine many n c dev old (Moved a) new does
      → (d : DiskState) → (bay_at old n).unit ≡ Disk d → Made d (calls_at old (Moved a) n) (of_conn n c (sent_by old (Moved a) new does))
  move_made old (act.Speaks k o) new does keeps d unit = speaks_made old k o new does keeps d unit (k == n) refl
  move_made old act.Rests new does keeps d unit = quiet_made _ d (deed_none old (Moved act.Rests) n tt)
  move_made old a new does keeps d unit = quiet_made _ d (deed_none old (Moved a) n tt)

  deed_made : (old : MachineState) (deed : Deed) (new : MachineState) (does : Does old deed new) → KeepsLine many n c dev old deed new does
      → (d : DiskState) → (bay_at old n).unit ≡ Disk d → Made d (calls_at old deed n) (of_conn n c (sent_by old deed new does))
  deed_made old (Moved a) new does keeps d unit = move_made old a new does keeps d unit
  deed_made old (FrameOffered k frame told) new does keeps d unit =
      subst (λ (l : List Stamped). Made d [] l) (sym (offers_none old k frame told new does keeps.end d unit)) (none_made d)
  deed_made old deed new does keeps d unit = quiet_made _ d (deed_none old deed n tt)

  -- ---- a stretch

  -- the disk after it, and what it sent
  pub record GoneOn (d : DiskState) (calls : List Call) (frames : List Stamped) (now : Inside) : Type 0 where
    pub are : AreCalls d calls
    pub is : now ≡ Disk (after_calls d calls)
    pub made : Made d calls frames

  no_calls : (d : DiskState) → d ≡ after_calls d []
  unfolding after_calls
  no_calls d = refl

  pub stretch_made : DisksGoOn → (deeds : List Deed) (old now : MachineState) (run : RunsRuled old deeds now) → AllKeepLine many n c dev old deeds now run → (d : DiskState)
      → (bay_at old n).unit ≡ Disk d → GoneOn d (calls_of n old deeds now run) (of_conn n c (sent_of old deeds now run)) (bay_at now n).unit
  stretch_made disks [] old now run keeps d unit = record {
    are = tt;
    is = ap (λ (m : MachineState). (bay_at m n).unit) run.1 ∙ unit ∙ ap Disk (no_calls d);
    made = none_made d;
  }
  stretch_made disks (deed ∷ later) old now run keeps d unit =
      let mid : MachineState = run.1.0 in
      let calls : List Call = calls_at old deed n in
      let one = disks old deed mid run.1.1 n d unit (left_there n deed keeps.0.left) in
      let rest = stretch_made disks later mid now run.1.2 keeps.1 (after_calls d calls) one.is in
      record {
        are = calls_both calls (calls_of n mid later now run.1.2) d one.are rest.are;
        is = rest.is ∙ ap Disk (sym (calls_after calls (calls_of n mid later now run.1.2) d));
        made = subst (λ (l : List Stamped). Made d (calls ++ calls_of n mid later now run.1.2) l)
            (sym (conn_both n c (sent_by old deed mid run.1.1) (sent_of mid later now run.1.2)))
            (made_both calls (calls_of n mid later now run.1.2) d (of_conn n c (sent_by old deed mid run.1.1)) (of_conn n c (sent_of mid later now run.1.2))
            (deed_made old deed mid run.1.1 keeps.0 d unit) rest.made);
      }
