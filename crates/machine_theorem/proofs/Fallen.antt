-- What the disk at a port heard in a stretch that begins at rest are some of the FISes that the controller sent in it, in order.
use Rattle.std.proofs.Common.{◌≡◌, ℕ, ◌+◌, Bool, true, false, not, List, [], ◌∷◌, ◌++◌, append_assoc, length, map, Option, Some, None, refl, sym, ap}
use Rattle.std.proofs.{Common.{subst, ◌∙◌, inl, arith}, lemmas.{Bool.{false≢true}, Grind.{flat_map-append}}}
use Rattle.std.specs.{Prelude.{◌==◌, ◌||◌, if◌then◌else◌}, List.flat_map, Option.option_to_list}
use Rattle.fis_view.specs.Frames.{Stamped}
use Rattle.multiplier.specs.{Arbiter.control_port, State.{falling, passes_to, pm_port}, declared.multiplier.Passed.Passed}
use Rattle.multiplier.specs.declared.multiplier.Passed.TheVariants as passed
use Rattle.slots.specs.Slots.{match_some}
use Rattle.fan_out.specs.declared.fan_out.FanOut.{FanOut, TheVariants.{Device, Multiplier}}
use Rattle.sata_disk.specs.State.{DiskState}
use Rattle.sata_disk_laws.specs.Calls.{Call, Plugs, Hears, Starts, Asks, Answers, Sends, after_calls}
use Rattle.ahci_machine.specs.{States.{MachineState, bay_at}, declared.bay.Unit.TheVariants.Disk}
use Rattle.ahci_machine.specs.declared.act.Act.TheVariants as act
use Rattle.machine_laws.specs.{ControllerLaws.{RunsRuled, calls_in}, Controllers.GathersDue, Deeds.{Deed, Does, Moved, Removed}, Disks.DisksGoOn}
use Rattle.machine_laws.specs.{Disks.{calls_at, is_removed}, Rising.is_multiplier, Falling.{AllLast, ArrivesAt, DisksHearThem}}
use Rattle.machine_laws.specs.Falling.{FramesGoWhereTheyShould, HasLink, LinksPassInOrder, PortsPassInOrder, arrived, arrives, ended, ends, falls}
use Rattle.machine_laws.specs.Falling.{fell, goes_to, heard_by, is_down_to, leaving, reached_at, sent_in, waits_down, way_to}
use Rattle.machine_theorem.specs.{Identity.{AllKeep, IsThere, asks_of, calls_of, heard_as, is_for, is_left, picks}, OwnSlots.AllKeepLine}
use Rattle.machine_theorem.specs.{Tags.{heard_with, once_if}, Crossing.Within}
use Rattle.machine_theorem.proofs.Within.{first_within, picks_both, within_both, within_map, within_picks, within_then}

pub record Laws : Type 0 where
  pub links : LinksPassInOrder
  pub passes : FramesGoWhereTheyShould
  pub ports : PortsPassInOrder
  pub hear : DisksHearThem
  pub disks : DisksGoOn

-- ---- what a disk heard

pub if_one : {A : Type 0} (b : Bool) (x : A) (xs : List A) (n : ℕ) → length xs ≡ n → length (if b then x ∷ xs else xs) ≡ once_if b + n
if_one true x xs n e = omega (arith, e)
if_one false x xs n e = omega (arith, e)

pub heard_is : (tag : ℕ) (calls : List Call) → length (picks (asks_of tag) (flat_map heard_by calls)) ≡ heard_with tag calls
heard_is tag [] = refl
heard_is tag (Hears bytes ∷ later) = if_one (asks_of tag bytes) bytes (picks (asks_of tag) (flat_map heard_by later)) (heard_with tag later) (heard_is tag later)
heard_is tag (Plugs ∷ later) = let rest = heard_is tag later in omega (arith, rest)
heard_is tag (Starts x ∷ later) = let rest = heard_is tag later in omega (arith, rest)
heard_is tag (Asks r ∷ later) = let rest = heard_is tag later in omega (arith, rest)
heard_is tag (Answers n a ∷ later) = let rest = heard_is tag later in omega (arith, rest)
heard_is tag (Sends o ∷ later) = let rest = heard_is tag later in omega (arith, rest)

not_true : (b : Bool) → not b ≡ true → b ≡ false
not_true true e = absurd (cc)
not_true false e = refl

pub left_there : (n : ℕ) (deed : Deed) → is_left n deed ≡ true → is_removed deed n ≡ false
left_there n (Removed k told) e = not_true (k == n) e
left_there n other e = refl

abbrev pub bytes_of : Stamped → List ℕ
bytes_of f = f.bytes

-- there is a multiplier, or none, and nothing is put at the port or taken from it
abbrev pub AllStay : (many : Bool) → (n : ℕ) → (old : MachineState) → (deeds : List Deed) → (now : MachineState) → RunsRuled old deeds now → Type 0
AllStay many n old [] now run = Unit {0}
AllStay many n old (deed ∷ later) now run = (IsThere many n old × (is_left n deed ≡ true)) × AllStay many n run.1.0 later now run.1.2

all_stay : (many : Bool) (n tag : ℕ) (deeds : List Deed) (old now : MachineState) (run : RunsRuled old deeds now) → AllKeep many n tag old deeds now run → AllStay many n old deeds now run
all_stay many n tag [] old now run keeps = tt
all_stay many n tag (deed ∷ later) old now run keeps = ((keeps.0.end, keeps.0.left), all_stay many n tag later run.1.0 now run.1.2 keeps.1)

pub line_stays : (many : Bool) (n c dev : ℕ) (deeds : List Deed) (old now : MachineState) (run : RunsRuled old deeds now) → AllKeepLine many n c dev old deeds now run → AllStay many n old deeds now run
line_stays many n c dev [] old now run keeps = tt
line_stays many n c dev (deed ∷ later) old now run keeps = ((keeps.0.end, keeps.0.left), line_stays many n c dev later run.1.0 now run.1.2 keeps.1)

pub map_both : {A B : Type 0} (f : A → B) (xs ys : List A) → map f (xs ++ ys) ≡ map f xs ++ map f ys
map_both f [] ys = refl
map_both f (x ∷ xs) ys = ap (λ (l : List _). f x ∷ l) (map_both f xs ys)

pub heard_ended : Laws → (n : ℕ) (deeds : List Deed) (old now : MachineState) (run : RunsRuled old deeds now) (d : DiskState) → (bay_at old n).unit ≡ Disk d → (many : Bool)
    → AllStay many n old deeds now run → flat_map heard_by (calls_of n old deeds now run) ≡ map bytes_of (ended n old deeds now run)
heard_ended laws n [] old now run d there many stays = refl
heard_ended laws n (deed ∷ later) old now run d there many stays =
    let mid : MachineState = run.1.0 in
    let goes = laws.disks old deed mid run.1.1 n d there (left_there n deed stays.0.1) in
    flat_map-append heard_by (calls_at old deed n) (calls_of n mid later now run.1.2)
    ∙ ap (λ (l : List (List ℕ)). l ++ flat_map heard_by (calls_of n mid later now run.1.2)) (laws.hear old deed mid run.1.1 n d there)
    ∙ ap (λ (l : List (List ℕ)). map bytes_of (ends old deed n) ++ l) (heard_ended laws n later mid now run.1.2 (after_calls d (calls_at old deed n)) goes.is many stays.1)
    ∙ sym (map_both bytes_of (ends old deed n) (ended n mid later now run.1.2))

-- ---- what fell to it

down_is : (b : Bool) (o : Option ℕ) (k n : ℕ) → is_down_to (if b then passed.Control else match_some o passed.Dropped (λ conn. passed.Down k)) n ≡ true → (k == n) ≡ true
down_is true o k n e = absurd (cc)
down_is false None k n e = absurd (cc)
down_is false (Some conn) k n e = e

or_true : (many b : Bool) → (many ≡ true → b ≡ true) → (not many || b) ≡ true
or_true true b e = e refl
or_true false b e = refl

-- behind a multiplier a FIS falls to the port that it names
for_port : (fan : FanOut) (many : Bool) (n : ℕ) (f : Stamped) (went : Passed) → is_multiplier fan ≡ many → went ≡ goes_to fan f → is_down_to went n ≡ true → is_for many n f ≡ true
for_port (Device s) many n f went end is down = or_true many (pm_port f == n) (λ e. absurd (false≢true (end ∙ e)))
for_port (Multiplier m) many n f went end is down =
    or_true many (pm_port f == n) (λ e. down_is (pm_port f == control_port) (passes_to m.multiplier (pm_port f)) (pm_port f) n (ap (λ (w : Passed). is_down_to w n) (sym is) ∙ down))

one_for : (b d : Bool) (conn : ℕ) (f : Stamped) → (b ≡ true → d ≡ true) → Within (map bytes_of (if b then map (falling conn) (f ∷ []) else [])) (map heard_as (if d then f ∷ [] else []))
one_for true true conn f only = inl (refl, tt)
one_for true false conn f only = absurd (false≢true (only refl))
one_for false d conn f only = tt

fell_if : (fan : FanOut) (many : Bool) (n : ℕ) (went : Passed) (conn : ℕ) (o : Option Stamped) → is_multiplier fan ≡ many → ArrivesAt fan o went
    → Within (map bytes_of (if is_down_to went n then map (falling conn) (option_to_list o) else [])) (map heard_as (picks (is_for many n) (option_to_list o)))
fell_if fan many n went conn None end at = absurd at
fell_if fan many n went conn (Some f) end at = one_for (is_down_to went n) (is_for many n f) conn f (for_port fan many n f went end at)

deed_fell : FramesGoWhereTheyShould → (many : Bool) (n : ℕ) (old : MachineState) (deed : Deed) (new : MachineState) → Does old deed new → is_multiplier old.fan ≡ many
    → Within (map bytes_of (falls old deed n)) (map heard_as (picks (is_for many n) (arrives old deed)))
deed_fell goes many n old (Moved (act.Sends went)) new does end = fell_if old.fan many n went (reached_at old.fan n) old.outgoing end (goes old went new does)
deed_fell goes many n old other new does end = tt

all_fell : FramesGoWhereTheyShould → (many : Bool) (n : ℕ) (deeds : List Deed) (old now : MachineState) (run : RunsRuled old deeds now) → AllStay many n old deeds now run
    → Within (map bytes_of (fell n old deeds now run)) (map heard_as (picks (is_for many n) (arrived old deeds now run)))
all_fell goes many n [] old now run stays = tt
all_fell goes many n (deed ∷ later) old now run stays =
    let mid : MachineState = run.1.0 in
    let P : List Stamped → List Stamped = picks (is_for many n) in
    let both = within_both (map bytes_of (falls old deed n)) (map heard_as (P (arrives old deed))) (map bytes_of (fell n mid later now run.1.2)) (map heard_as (P (arrived mid later now run.1.2)))
    (deed_fell goes many n old deed mid run.1.1 stays.0.0.fan) (all_fell goes many n later mid now run.1.2 stays.1) in
    let right : map heard_as (P (arrived old (deed ∷ later) now run)) ≡ map heard_as (P (arrives old deed)) ++ map heard_as (P (arrived mid later now run.1.2)) =
    ap (map heard_as) (picks_both (is_for many n) (arrives old deed) (arrived mid later now run.1.2)) ∙ map_both heard_as (P (arrives old deed)) (P (arrived mid later now run.1.2)) in
    subst (λ (l : List (List ℕ)). Within l (map heard_as (P (arrived old (deed ∷ later) now run)))) (sym (map_both bytes_of (falls old deed n) (fell n mid later now run.1.2)))
    (subst (λ (l : List (List ℕ)). Within (map bytes_of (falls old deed n) ++ map bytes_of (fell n mid later now run.1.2)) l) (sym right) both)

within_of : {A : Type 0} (xs more zs : List A) → xs ++ more ≡ zs → Within xs zs
within_of xs more zs is = subst (λ (l : List _). Within xs l) is (first_within xs more)

pub heard_among : Laws → (many : Bool) (n : ℕ) (deeds : List Deed) (old now : MachineState) (run : RunsRuled old deeds now) (d : DiskState) → (bay_at old n).unit ≡ Disk d
    → AllStay many n old deeds now run → GathersDue old → HasLink deeds → AllLast n old deeds now run → leaving old ≡ [] → way_to old n ≡ []
    → Within (flat_map heard_by (calls_of n old deeds now run)) (map heard_as (picks (is_for many n) (sent_in (calls_in old deeds now run))))
heard_among laws many n deeds old now run d there stays due linked lasts none clear =
    let e : List Stamped = ended n old deeds now run in
    let l : List Stamped = fell n old deeds now run in
    let a : List Stamped = arrived old deeds now run in
    let s : List Stamped = sent_in (calls_in old deeds now run) in
    let P : List Stamped → List Stamped = picks (is_for many n) in
    let one : Within e l = within_of e (way_to now n) l (laws.ports n old deeds now run lasts ∙ ap (λ (w : List Stamped). w ++ l) clear) in
    let two : Within a s = within_of a (leaving now) s (laws.links old deeds now run due linked ∙ ap (λ (w : List Stamped). w ++ s) none) in
    subst (λ (x : List (List ℕ)). Within x (map heard_as (P s))) (sym (heard_ended laws n deeds old now run d there many stays))
    (within_then (map bytes_of e) (map bytes_of l) (map heard_as (P s)) (within_map bytes_of e l one)
    (within_then (map bytes_of l) (map heard_as (P a)) (map heard_as (P s)) (all_fell laws.passes many n deeds old now run stays)
    (within_map heard_as (P a) (P s) (within_picks (is_for many n) a s two))))

-- What it heard, and then the FIS that it was given, are some of them, too.
pub given_within : Laws → (many : Bool) (n : ℕ) (deeds : List Deed) (old now : MachineState) (run : RunsRuled old deeds now) (d : DiskState) → (bay_at old n).unit ≡ Disk d
    → AllStay many n old deeds now run → GathersDue old → HasLink deeds → AllLast n old deeds now run → leaving old ≡ [] → way_to old n ≡ []
    → (f : Stamped) → (bay_at now n).down ≡ Some f
    → Within (flat_map heard_by (calls_of n old deeds now run) ++ f.bytes ∷ []) (map heard_as (picks (is_for many n) (sent_in (calls_in old deeds now run))))
given_within laws many n deeds old now run d there stays due linked lasts none clear f down =
    let e : List Stamped = ended n old deeds now run in
    let l : List Stamped = fell n old deeds now run in
    let a : List Stamped = arrived old deeds now run in
    let s : List Stamped = sent_in (calls_in old deeds now run) in
    let P : List Stamped → List Stamped = picks (is_for many n) in
    let waits : List Stamped = option_to_list (waits_down now.fan n) in
    let way : way_to now n ≡ f ∷ waits = ap (λ (o : Option Stamped). option_to_list o ++ waits) down in
    let all : (e ++ f ∷ []) ++ waits ≡ l =
    append_assoc e (f ∷ []) waits ∙ ap (λ (w : List Stamped). e ++ w) (sym way) ∙ laws.ports n old deeds now run lasts ∙ ap (λ (w : List Stamped). w ++ l) clear in
    let one : Within (e ++ f ∷ []) l = within_of (e ++ f ∷ []) waits l all in
    let two : Within a s = within_of a (leaving now) s (laws.links old deeds now run due linked ∙ ap (λ (w : List Stamped). w ++ s) none) in
    let heard : flat_map heard_by (calls_of n old deeds now run) ++ f.bytes ∷ [] ≡ map bytes_of (e ++ f ∷ []) =
    ap (λ (x : List (List ℕ)). x ++ f.bytes ∷ []) (heard_ended laws n deeds old now run d there many stays) ∙ sym (map_both bytes_of e (f ∷ [])) in
    subst (λ (x : List (List ℕ)). Within x (map heard_as (P s))) (sym heard)
    (within_then (map bytes_of (e ++ f ∷ [])) (map bytes_of l) (map heard_as (P s)) (within_map bytes_of (e ++ f ∷ []) l one)
    (within_then (map bytes_of l) (map heard_as (P a)) (map heard_as (P s)) (all_fell laws.passes many n deeds old now run stays)
    (within_map heard_as (P a) (P s) (within_picks (is_for many n) a s two))))

pub heard_within : Laws → (many : Bool) (n tag : ℕ) (deeds : List Deed) (old now : MachineState) (run : RunsRuled old deeds now) (d : DiskState) → (bay_at old n).unit ≡ Disk d
    → AllKeep many n tag old deeds now run → GathersDue old → HasLink deeds → AllLast n old deeds now run → leaving old ≡ [] → way_to old n ≡ []
    → Within (flat_map heard_by (calls_of n old deeds now run)) (map heard_as (picks (is_for many n) (sent_in (calls_in old deeds now run))))
heard_within laws many n tag deeds old now run d there keeps due linked lasts none clear =
    heard_among laws many n deeds old now run d there (all_stay many n tag deeds old now run keeps) due linked lasts none clear
