-- Data of queued commands are of the command that the last DMA Setup named: at most one command has the wire.
use Rattle.std.proofs.Common.{◌≡◌, ℕ, ◌+◌, ◌<◌, true, false, List, [], ◌∷◌, length, get_or, set, Some, None, refl, sym, ap, ◌∙◌, arith, inl, inr}
use Rattle.std.proofs.lemmas.{Bool.{cases_eq, cases_lt, lt-ltb, eqb-true, eqb-false}, List.{get_or-set_same, get_or-set_other, length-set}}
use Rattle.std.proofs.lemmas.List.{length-replicate}
use Rattle.std.specs.{Prelude.{Option, Bool, replicate, is_none, not, ◌||◌, ◌&&◌, ◌==◌, nat_lt, if◌then◌else◌}, Option.option_map}
use Rattle.block_command.specs.declared.command.{Command.Command, Protocol.{Protocol, TheVariants.{Queued, Dma, Pio, Verify}}, Stage.Stage}
use Rattle.block_command.specs.declared.command.Stage.TheVariants.{Waiting, Load, Loading, SetUpRead, Announce, Sending, SetUpWrite, Activate}
use Rattle.block_command.specs.{declared.command.Stage.TheVariants.{Receiving, Store, Storing, Flush, End}, Moments.{Moment, opening, is_set_up}}
use Rattle.block_command.specs.{Moments.{is_queued, is_verify, turn_of, part_count, part_len, first_data_stage, data_stage, read_on}, Laws.Input}
use Rattle.block_command.specs.Laws.{Goes, Loads, Comes, Stores, Flushes, Fails, Happening, happening}
use Rattle.block_command.specs.Laws as command
use Rattle.block_command.proofs.Door.{same_command, at as moment}
use Rattle.block_disk.specs.{Table.{Table, at, has_wire, may_go_at, wants_wire, freed, none_under_way, with_command}, Laws.{Event, Takes, Does}}
use Rattle.block_disk.specs.Laws.{Resets, IsAllowed, AreAllowed, after, Shown, At, Took, Refused, shown, shown_at, account, wire_after, IsWired}
use Rattle.block_disk.specs.Laws.{AreWired, DataAreNamed}
use Rattle.block_disk.proofs.Ends.{each_is}

abbrev sets_up : Stage → Input → Bool
sets_up SetUpRead Goes = true
sets_up SetUpWrite Goes = true
sets_up _ _ = false

either_set_up : (b : Bool) (x y : Moment) → is_set_up x x.stage ≡ false → is_set_up y y.stage ≡ false
    → is_set_up (if b then x else y) (if b then x else y).stage ≡ true → ⊥
either_set_up true x y e f g = cc
either_set_up false x y e f g = cc

some_done : (b : Bool) (n : ℕ) → (b && n == 0) ≡ false → b ≡ true → nat_lt 0 n ≡ true
some_done true n e f = elim (cases_lt 0 n) [
  | inl low ↦ lt-ltb 0 n low
  | inr high ↦ absurd (eqb-false n 0 e (omega (arith, high)))
]
some_done false n e f = absurd (cc)

-- behind its first part a read is set up already
loads_on : (c : Command) (done : ℕ) (bytes : List ℕ) (sent : ℕ) (b : Bool) → (is_queued c.protocol && done == 0) ≡ b
    → is_queued c.protocol ≡ true
    → is_set_up (moment c done bytes sent (if b then SetUpRead else data_stage c.protocol)) (if b then SetUpRead else data_stage c.protocol) ≡ true
    → nat_lt 0 done ≡ true
loads_on c done bytes sent true e q h = absurd (cc)
loads_on c done bytes sent false e q h = some_done (is_queued c.protocol) done e q

not_verify : (p : Protocol) → is_queued p ≡ true → is_verify p ≡ false
not_verify Queued e = refl
not_verify Dma e = absurd (cc)
not_verify Pio e = absurd (cc)
not_verify Verify e = absurd (cc)

abbrev set_up : Moment → Bool
set_up m = is_set_up m m.stage

loaded_case : (c : Command) (done : ℕ) (bytes given : List ℕ) (sent : ℕ) (b d : Bool) → is_verify c.protocol ≡ d → is_queued c.protocol ≡ true
    → set_up (if b then (if d then read_on (moment c done bytes sent Loading) (done + part_count c done)
    else moment c done given sent (first_data_stage c.protocol done)) else moment c done bytes sent Loading) ≡ true
    → nat_lt 0 done ≡ true
loaded_case c done bytes given sent false d e q h = h
loaded_case c done bytes given sent true false e q h = loads_on c done given sent _ refl q h
loaded_case c done bytes given sent true true e q h = let no = not_verify c.protocol q in cc

stored_case : (c : Command) (to : ℕ) (b l : Bool)
    → set_up (moment c to [] 0 (if b then Activate else (if l then Flush else End))) ≡ true → b ≡ true
stored_case c to true l h = refl
stored_case c to false true h = absurd (cc)
stored_case c to false false h = absurd (cc)

start_case : (c : Command) (done : ℕ) (bytes : List ℕ) (sent : ℕ) (w q : Bool) → q ≡ true
    → set_up (moment c done bytes sent (if w then (if q then SetUpWrite else Activate) else Load)) ≡ true → nat_lt 0 done ≡ true
start_case c done bytes sent true true e h = absurd (cc)
start_case c done bytes sent true false e h = absurd (cc)
start_case c done bytes sent false q e h = h

-- only a DMA Setup brings the wire
had : (c : Command) (done : ℕ) (bytes : List ℕ) (sent : ℕ) (stage : Stage) (i : Input) → is_queued c.protocol ≡ true → sets_up stage i ≡ false
    → set_up (command.after (moment c done bytes sent stage) i) ≡ true → set_up (moment c done bytes sent stage) ≡ true
had c done bytes sent Announce i q e h = refl
had c done bytes sent Sending i q e h = refl
had c done bytes sent Activate i q e h = refl
had c done bytes sent Receiving i q e h = refl
had c done bytes sent Waiting Goes q e h = start_case c done bytes sent c.write (is_queued c.protocol) q h
had c done bytes sent Load Goes q e h = h
had c done bytes sent Loading (Loads given) q e h = loaded_case c done bytes given sent (length given == part_len c done) _ refl q h
had c done bytes sent Storing Stores q e h = stored_case c _ _ c.lasting h
had c done bytes sent Store Goes q e h = h
had c done bytes sent stage Goes q e h = cc
had c done bytes sent stage i q e h = cc

-- what needs the wire comes of a command that has it
wired : (c : Command) (done : ℕ) (bytes : List ℕ) (sent : ℕ) (stage : Stage) (i : Input) (place : ℕ) (w : Option ℕ) → sets_up stage i ≡ false
    → (is_set_up (moment c done bytes sent stage) stage ≡ true → place < 32 → w ≡ Some place)
    → ((part : List ℕ) → i ≡ Comes part → place < 32 → w ≡ Some place)
    → IsWired w (At place (happening (moment c done bytes sent stage) i))
    × (wire_after w (At place (happening (moment c done bytes sent stage) i)) ≡ w)
wired c done bytes sent stage (Comes part) place w e has came = (came part refl, refl)
wired c done bytes sent Sending Goes place w e has came = (has refl, refl)
wired c done bytes sent Activate Goes place w e has came = (has refl, refl)
wired c done bytes sent SetUpRead Goes place w e has came = absurd (cc)
wired c done bytes sent SetUpWrite Goes place w e has came = absurd (cc)
wired c done bytes sent stage Goes place w e has came = (tt, refl)
wired c done bytes sent stage i place w e has came = (tt, refl)

is_setting_up : (c : Command) (done : ℕ) (bytes : List ℕ) (sent : ℕ) (stage : Stage) (i : Input) (place : ℕ) (w : Option ℕ) → sets_up stage i ≡ true
    → IsWired w (At place (happening (moment c done bytes sent stage) i))
    × (wire_after w (At place (happening (moment c done bytes sent stage) i)) ≡ Some place)
    × (i ≡ Goes) × (wants_wire (turn_of stage) ≡ true)
is_setting_up c done bytes sent SetUpRead Goes place w e = (tt, refl, refl, refl)
is_setting_up c done bytes sent SetUpWrite Goes place w e = (tt, refl, refl, refl)
is_setting_up c done bytes sent stage Goes place w e = absurd (cc)
is_setting_up c done bytes sent stage i place w e = absurd (cc)

-- ## The table

abbrev pub IsOwn : ℕ → Option Moment → Type 0
IsOwn place None = Unit {0}
IsOwn place (Some m) = is_queued m.command.protocol ≡ nat_lt place 32

pub record Held (d : Table) (w : Option ℕ) : Type 0 where
  pub commands : length d.places ≡ 33
  pub own : (t : ℕ) → IsOwn t (get_or d.places t None)
  pub is : (t : ℕ) → has_wire (get_or d.places t None) ≡ true → d.wire ≡ Some t
  pub named : (t : ℕ) → d.wire ≡ Some t → w ≡ Some t

freed_case : (h place t : ℕ) (b : Bool) → (h == place) ≡ b → Some h ≡ Some t → (t ≡ place → ⊥)
    → (if b then None else Some h) ≡ Some t
freed_case h place t true e is apart = let same = eqb-true h place e in absurd (apart (cc))
freed_case h place t false e is apart = is

was_case : (h place t : ℕ) (b : Bool) → (if b then None else Some h) ≡ Some t → Some h ≡ Some t
was_case h place t true e = absurd (cc)
was_case h place t false e = e

freed_other : (wire : Option ℕ) (place t : ℕ) → wire ≡ Some t → (t ≡ place → ⊥) → freed wire place ≡ Some t
freed_other None place t e apart = absurd (cc)
freed_other (Some h) place t e apart = freed_case h place t _ refl e apart

was_held : (wire : Option ℕ) (place t : ℕ) → freed wire place ≡ Some t → wire ≡ Some t
was_held None place t e = e
was_held (Some h) place t e = was_case h place t _ e

-- a command with this one in its place
own_set : (d : Table) (w : Option ℕ) (place : ℕ) (x : Option Moment) → Held d w → place < 33 → IsOwn place x
    → (t : ℕ) → IsOwn t (get_or (set d.places place x) t None)
own_set d w place x held low is t = elim (cases_eq t place) [
  | inl same ↦ rw same (rw (get_or-set_same d.places place x None (omega (arith, low, held.commands))) is)
  | inr apart ↦ rw (get_or-set_other d.places place t x None apart) (held.own t)
]

has_here : (d : Table) (w : Option ℕ) (place t : ℕ) (x : Option Moment) → Held d w → place < 33 → t ≡ place
    → has_wire (get_or (set d.places place x) t None) ≡ true → has_wire x ≡ true
has_here d w place t x held low same h =
    let there = get_or-set_same d.places place x None (omega (arith, low, held.commands)) in
    sym (ap has_wire (ap (λ n. get_or (set d.places place x) n None) same ∙ there)) ∙ h

-- where the command has the wire now
placed_with : (d : Table) (w new : Option ℕ) (place : ℕ) (x : Option Moment) → Held d w → place < 33 → IsOwn place x
    → new ≡ Some place → ((t : ℕ) → d.wire ≡ Some t → t ≡ place)
    → Held (record { places = set d.places place x; wire = Some place }) new
placed_with d w new place x held low own is alone = record {
  commands = length-set d.places place x ∙ held.commands;
  own = own_set d w place x held low own;
  is = λ t has. elim (cases_eq t place) [
    | inl same ↦ ap Some (sym same)
    | inr apart ↦ absurd (apart (alone t (held.is t (sym (ap has_wire (get_or-set_other d.places place t x None apart)) ∙ has))))
  ];
  named = λ t e. is ∙ e;
}

-- where it has not
placed_without : (d : Table) (w : Option ℕ) (place : ℕ) (x : Option Moment) → Held d w → place < 33 → IsOwn place x
    → has_wire x ≡ false → Held (record { places = set d.places place x; wire = freed d.wire place }) w
placed_without d w place x held low own none = record {
  commands = length-set d.places place x ∙ held.commands;
  own = own_set d w place x held low own;
  is = λ t has. elim (cases_eq t place) [
    | inl same ↦ let h = has_here d w place t x held low same has in absurd (cc)
    | inr apart ↦ freed_other d.wire place t (held.is t (sym (ap has_wire (get_or-set_other d.places place t x None apart)) ∙ has)) apart
  ];
  named = λ t e. held.named t (was_held d.wire place t e);
}

placed_case : (d : Table) (w : Option ℕ) (place : ℕ) (x : Option Moment) (b : Bool) → has_wire x ≡ b → Held d w → place < 33 → IsOwn place x
    → (has_wire x ≡ true → d.wire ≡ Some place)
    → Held (record { places = set d.places place x; wire = if b then Some place else freed d.wire place }) w
placed_case d w place x true e held low own was =
    let is : d.wire ≡ Some place = was e in
    placed_with d w w place x held low own (held.named place is) (λ t f. (let both = sym f ∙ is in cc))
placed_case d w place x false e held low own was = placed_without d w place x held low own e

-- what a command that has the wire keeps, or frees
placed : (d : Table) (w : Option ℕ) (place : ℕ) (x : Option Moment) → Held d w → place < 33 → IsOwn place x
    → (has_wire x ≡ true → d.wire ≡ Some place) → Held (with_command d place x) w
placed d w place x held low own was = placed_case d w place x _ refl held low own was

-- a DMA Setup may go only where no command has the wire
no_holder : (o : Option ℕ) (b : Bool) → (not b || is_none o) ≡ true → b ≡ true → o ≡ None
no_holder None b e f = refl
no_holder (Some t) true e f = absurd (cc)
no_holder (Some t) false e f = absurd (cc)

abbrev pub Next : Table → Option ℕ → Shown → Type 0
Next d w s = IsWired w s × Held d (wire_after w s)

and_true : (a b : Bool) → a ≡ true → b ≡ true → (a && b) ≡ true
and_true true true e f = refl
and_true true false e f = absurd (cc)
and_true false b e f = absurd (cc)

of_and : (a b : Bool) → (a && b) ≡ true → (a ≡ true) × (b ≡ true)
of_and true true e = (refl, refl)
of_and true false e = absurd (cc)
of_and false b e = absurd (cc)

is_low : (t : ℕ) (q : Bool) → q ≡ nat_lt t 32 → t < 32 → q ≡ true
is_low t q e low = e ∙ lt-ltb t 32 low

same_protocol : (m : Moment) (i : Input) → is_queued (command.after m i).command.protocol ≡ is_queued m.command.protocol
same_protocol m i = ap (λ c. is_queued c.protocol) (same_command m.command m.done m.bytes m.sent m.stage i)

set_up_case : (d : Table) (place : ℕ) (m : Moment) (w new : Option ℕ) (b : Bool) → has_wire (Some m) ≡ b → Held d w → place < 33 → IsOwn place (Some m)
    → d.wire ≡ None → new ≡ Some place
    → Held (record { places = set d.places place (Some m); wire = if b then Some place else freed d.wire place }) new
set_up_case d place m w new true e held low own free is =
    placed_with d w new place (Some m) held low own is (λ t f. absurd (let both = sym f ∙ free in cc))
set_up_case d place m w new false e held low own free is = record {
  commands = length-set d.places place (Some m) ∙ held.commands;
  own = own_set d w place (Some m) held low own;
  is = (placed_without d w place (Some m) held low own e).is;
  named = λ t f. absurd (let was = was_held d.wire place t f in let both = sym was ∙ free in cc);
}

does_set_up : (d : Table) (place : ℕ) (m : Moment) (w : Option ℕ) (i : Input) → sets_up m.stage i ≡ true
    → Held d w → place < 33 → IsOwn place (Some m) → (i ≡ Goes → may_go_at d (Some m) ≡ true)
    → Next (with_command d place (Some (command.after m i))) w (At place (happening m i))
does_set_up d place m w i e held low own may =
    let all = is_setting_up m.command m.done m.bytes m.sent m.stage i place w e in
    let free : d.wire ≡ None = no_holder d.wire _ (may all.2) all.3 in
    (all.0, set_up_case d place (command.after m i) w _ _ refl held low (same_protocol m i ∙ own) free all.1)

does_other : (d : Table) (place : ℕ) (m : Moment) (w : Option ℕ) (i : Input) → sets_up m.stage i ≡ false
    → Held d w → place < 33 → at d place ≡ Some m → IsOwn place (Some m)
    → ((part : List ℕ) → i ≡ Comes part → place < 32 → d.wire ≡ Some place)
    → Next (with_command d place (Some (command.after m i))) w (At place (happening m i))
does_other d place m w i e held low is own came =
    let has : is_set_up m m.stage ≡ true → is_queued m.command.protocol ≡ true → d.wire ≡ Some place =
    λ h q. held.is place (ap has_wire is ∙ and_true _ _ q h) in
    let all = wired m.command m.done m.bytes m.sent m.stage i place w e
    (λ h t. held.named place (has h (is_low place _ own t))) (λ part same t. held.named place (came part same t)) in
    let was : has_wire (Some (command.after m i)) ≡ true → d.wire ≡ Some place =
    λ h. (let both = of_and _ _ h in
    let q : is_queued m.command.protocol ≡ true = sym (same_protocol m i) ∙ both.0 in
    has (had m.command m.done m.bytes m.sent m.stage i q e both.1) q) in
    (all.0, rw all.1 (placed d w place _ held low (same_protocol m i ∙ own) was))

does : (d : Table) (place : ℕ) (x : Option Moment) (w : Option ℕ) (i : Input) (b : Bool)
    → ((m : Moment) → x ≡ Some m → sets_up m.stage i ≡ b)
    → at d place ≡ x → Held d w → place < 33 → IsOwn place x → (i ≡ Goes → may_go_at d x ≡ true)
    → ((part : List ℕ) → i ≡ Comes part → place < 32 → d.wire ≡ Some place)
    → Next (with_command d place (option_map (λ m. command.after m i) x)) w (shown_at place x i)
does d place None w i b case' is held low own may came = (tt, placed d w place None held low tt (λ h. absurd (cc)))
does d place (Some m) w i true case' is held low own may came = does_set_up d place m w i (case' m refl) held low own may
does d place (Some m) w i false case' is held low own may came = does_other d place m w i (case' m refl) held low is own came

abbrev set_up_at : Option Moment → Input → Bool
set_up_at None i = false
set_up_at (Some m) i = sets_up m.stage i

case_at : (x : Option Moment) (i : Input) (m : Moment) → x ≡ Some m → sets_up m.stage i ≡ set_up_at x i
case_at x i m e = ap (λ x. set_up_at x i) (sym e)

opening_waits : (c : Command) → has_wire (Some (opening c)) ≡ true → ⊥
opening_waits c h = let no : nat_lt 0 0 ≡ true = (of_and (is_queued c.protocol) _ h).1 in cc

takes : (d : Table) (w : Option ℕ) (c : Command) (b : Bool) → Held d w → c.place < 33 → is_queued c.protocol ≡ nat_lt c.place 32
    → Next (if b then d else with_command d c.place (Some (opening c))) w (if b then Refused c else Took c)
takes d w c true held low own = (tt, held)
takes d w c false held low own = (tt, placed d w c.place _ held low own (λ h. absurd (opening_waits c h)))

pub none_held : (n : ℕ) (w : Option ℕ) → n ≡ 33 → Held (record { places = replicate n None; wire = None }) w
none_held n w is = record {
  commands = length-replicate n None ∙ is;
  own = λ t. rw (each_is (Option Moment) n t None) tt;
  is = λ t h. absurd (let is' = ap has_wire (each_is (Option Moment) n t None) in cc);
  named = λ t e. absurd (cc);
}

pub next : (d : Table) (w : Option ℕ) (e : Event) → Held d w → IsAllowed d e → Next (after d e) w (shown d e)
next d w (Takes c) held may = takes d w c _ held may.0 may.2
next d w (Does place Goes) held may =
    does d place _ w Goes _ (λ m e. case_at _ Goes m e) refl held may.0 (held.own place) (λ e. may.1) (λ part e. absurd (cc))
next d w (Does place (Comes part)) held may =
    does d place _ w (Comes part) _ (λ m e. case_at _ (Comes part) m e) refl held may.0 (held.own place) (λ e. absurd (cc)) (λ other e. may.1)
next d w (Does place i) held may =
    does d place _ w i _ (λ m e. case_at _ i m e) refl held may (held.own place) (λ e. absurd (cc)) (λ other e. absurd (cc))
next d w Resets held may = (tt, none_held 33 w refl)

runs : (events : List Event) (d : Table) (w : Option ℕ) → Held d w → AreAllowed d events → AreWired w (account d events)
unfolding account
runs [] d w held are = tt
runs (e ∷ later) d w held are =
    let now = next d w e held are.0 in (now.0, runs later (after d e) (wire_after w (shown d e)) now.1 are.1)

pub data_are_named : DataAreNamed
data_are_named events are = runs events none_under_way None (none_held 33 None refl) are
