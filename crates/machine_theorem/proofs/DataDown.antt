-- The Data that a disk hears are, in order, some of those that the controller sent to its device.
use Rattle.std.proofs.Common.{◌≡◌, ℕ, ◌-◌, Bool, true, false, List, [], ◌∷◌, ◌++◌, length, map, refl, sym, ap, ◌∙◌, inl, inr}
use Rattle.std.proofs.lemmas.{Bool.{false≢true}, List.{length-drop}}
use Rattle.std.specs.{Prelude.{◌==◌, drop, if◌then◌else◌, Result, Ok, Err}, List.flat_map}
use Rattle.fis_view.specs.{Frames.{Stamped, marked}, Seen.{frame_of, seen}, declared.view.{Fis.Fis, FisFault.FisFault}}
use Rattle.fis_view.specs.declared.view.Fis.TheVariants as view
use Rattle.hba_fbs.specs.Taking.{port_of}
use Rattle.ahci_controller.specs.declared.feeding.Fed.TheVariants as fed_answer
use Rattle.ahci_controller.specs.declared.next.Next.TheVariants as next
use Rattle.ahci_machine.specs.Gathers.{host_stamp}
use Rattle.controller_laws.specs.Events as call
use Rattle.controller_laws.specs.Events.{Event}
use Rattle.sata_disk_books.specs.{InTurn.{calls_steps, data_steps}, Talks.{Down, Sign, Step, Up, sign_of}}
use Rattle.sata_disk_laws.specs.Calls as disk_call
use Rattle.sata_disk_laws.specs.Calls.{Call}
use Rattle.machine_laws.specs.Falling.{heard_by, sent_in}
use Rattle.machine_theorem.specs.{Asking.events_steps, Crossing.{Within, downs}, Identity.{heard_as, is_for, picks}, OwnWrites.AreOwnData}
use Rattle.machine_theorem.proofs.{IsData.payload_type, Sent.{marked_rest, seen_data}, Within.past}

-- ---- Data FISes

abbrev pub is_payload : Result Fis FisFault → Bool
is_payload (Ok (view.Payload f)) = true
is_payload other = false

abbrev pub is_data : List ℕ → Bool
is_data bytes = is_payload (seen bytes)

frame_is : (f v : List ℕ) → seen f ≡ Ok (view.Payload v) → v ≡ f
frame_is f v is = ap frame_of (seen_data f (view.Payload v) (payload_type f v is) is)

-- how many bytes it has
abbrev pub size : List ℕ → ℕ
size bytes = length bytes - 4

abbrev pub sizes : List (List ℕ) → List ℕ
sizes frames = map size frames

-- ---- what a disk heard

data_down : (f : List ℕ) (r : Result Fis FisFault) → seen f ≡ r → (rest : List Step) (later : List (List ℕ)) → downs rest ≡ sizes later
    → downs (data_steps r ++ rest) ≡ sizes (if is_payload r then f ∷ later else later)
data_down f (Ok (view.Payload v)) is rest later same =
    ap (λ (k : ℕ). k ∷ downs rest) (ap (λ (x : List ℕ). length (drop 4 x)) (frame_is f v is) ∙ length-drop 4 f) ∙ ap (λ l. size f ∷ l) same
data_down f (Ok other) is rest later same = same
data_down f (Err e) is rest later same = same

pub heard_down : (calls : List Call) → downs (calls_steps calls) ≡ sizes (picks is_data (flat_map heard_by calls))
heard_down [] = refl
heard_down (disk_call.Hears f ∷ later) = data_down f (seen f) refl (calls_steps later) (picks is_data (flat_map heard_by later)) (heard_down later)
heard_down (disk_call.Sends o ∷ later) = heard_down later
heard_down (disk_call.Plugs ∷ later) = heard_down later
heard_down (disk_call.Starts x ∷ later) = heard_down later
heard_down (disk_call.Asks r ∷ later) = heard_down later
heard_down (disk_call.Answers number a ∷ later) = heard_down later

-- ---- what the controller sent

abbrev pub data_sent : (dev : ℕ) → List Event → List (List ℕ)
data_sent dev [] = []
data_sent dev (call.Gathered d number frame (fed_answer.Goes message line) ∷ later) = if d == dev then frame ∷ data_sent dev later else data_sent dev later
data_sent dev (event ∷ later) = data_sent dev later

down_if : (b : Bool) (frame : List ℕ) (rest : List Step) (later : List (List ℕ)) → downs rest ≡ sizes later
    → downs ((if b then Down (length frame - 4) ∷ [] else []) ++ rest) ≡ sizes (if b then frame ∷ later else later)
down_if true frame rest later same = ap (λ l. size frame ∷ l) same
down_if false frame rest later same = same

up_if : (b : Bool) (s : Sign) (rest : List Step) → downs ((if b then Up s ∷ [] else []) ++ rest) ≡ downs rest
up_if true s rest = refl
up_if false s rest = refl

pub sent_down : (dev : ℕ) (events : List Event) → downs (events_steps dev events) ≡ sizes (data_sent dev events)
sent_down dev [] = refl
sent_down dev (call.Took frame took ∷ later) = up_if (port_of frame == dev) (sign_of (seen frame)) (events_steps dev later) ∙ sent_down dev later
sent_down dev (call.Gathered d number frame (fed_answer.Goes message line) ∷ later) = down_if (d == dev) frame (events_steps dev later) (data_sent dev later) (sent_down dev later)
sent_down dev (call.Gathered d number frame other ∷ later) = sent_down dev later
sent_down dev (call.Left frame why ∷ later) = sent_down dev later
sent_down dev (call.Wrote offset value written ∷ later) = sent_down dev later
sent_down dev (call.WroteWide offset width value written ∷ later) = sent_down dev later
sent_down dev (call.Supplied slot number bytes supply ∷ later) = sent_down dev later
sent_down dev (call.Missed slot number supply ∷ later) = sent_down dev later
sent_down dev (call.Turned said ∷ later) = sent_down dev later
sent_down dev (call.Said write ∷ later) = sent_down dev later
sent_down dev (call.NotThere d number fed ∷ later) = sent_down dev later

if_both : (b : Bool) (x : List ℕ) (xs ys zs : List (List ℕ)) → zs ≡ xs ++ ys → (if b then x ∷ zs else zs) ≡ (if b then x ∷ xs else xs) ++ ys
if_both true x xs ys zs e = ap (λ l. x ∷ l) e
if_both false x xs ys zs e = e

pub sent_both : (dev : ℕ) (xs ys : List Event) → data_sent dev (xs ++ ys) ≡ data_sent dev xs ++ data_sent dev ys
sent_both dev [] ys = refl
sent_both dev (call.Gathered d number frame (fed_answer.Goes message line) ∷ xs) ys =
    if_both (d == dev) frame (data_sent dev xs) (data_sent dev ys) (data_sent dev (xs ++ ys)) (sent_both dev xs ys)
sent_both dev (call.Gathered d number frame other ∷ xs) ys = sent_both dev xs ys
sent_both dev (call.Took frame took ∷ xs) ys = sent_both dev xs ys
sent_both dev (call.Left frame why ∷ xs) ys = sent_both dev xs ys
sent_both dev (call.Wrote offset value written ∷ xs) ys = sent_both dev xs ys
sent_both dev (call.WroteWide offset width value written ∷ xs) ys = sent_both dev xs ys
sent_both dev (call.Supplied slot number bytes supply ∷ xs) ys = sent_both dev xs ys
sent_both dev (call.Missed slot number supply ∷ xs) ys = sent_both dev xs ys
sent_both dev (call.Turned said ∷ xs) ys = sent_both dev xs ys
sent_both dev (call.Said write ∷ xs) ys = sent_both dev xs ys
sent_both dev (call.NotThere d number fed ∷ xs) ys = sent_both dev xs ys

-- ---- of what was sent, the Data

-- the FIS of a command is no Data
abbrev pub IsPlain : Event → Type 0
IsPlain (call.Turned (next.Order d slot fis)) = is_data (marked fis 0) ≡ false
IsPlain event = Unit {0}

abbrev pub ArePlain : List Event → Type 0
ArePlain [] = Unit {0}
ArePlain (event ∷ later) = IsPlain event × ArePlain later

pub plain_both : (xs ys : List Event) → ArePlain xs → ArePlain ys → ArePlain (xs ++ ys)
plain_both [] ys one two = two
plain_both (x ∷ xs) ys one two = (one.0, plain_both xs ys one.1 two)

abbrev pub as_heard : List ℕ → List ℕ
as_heard bytes = marked bytes 0

abbrev pub heard_data : List Stamped → List (List ℕ)
heard_data frames = picks is_data (map heard_as frames)

skip_if : (b : Bool) (x : List ℕ) (xs ys : List (List ℕ)) → b ≡ false → Within xs ys → Within (if b then x ∷ xs else xs) ys
skip_if true x xs ys e w = absurd (false≢true (sym e))
skip_if false x xs ys e w = w

skip_order : (b : Bool) (o : Stamped) (rest : List Stamped) (ys : List (List ℕ)) → is_data (heard_as o) ≡ false → Within (heard_data rest) ys
    → Within (heard_data (if b then o ∷ rest else rest)) ys
skip_order true o rest ys plain w = skip_if (is_data (heard_as o)) (heard_as o) (heard_data rest) ys plain w
skip_order false o rest ys plain w = w

keep_if : (b : Bool) (x : List ℕ) (xs ys : List (List ℕ)) → Within xs ys → Within (if b then x ∷ xs else xs) (x ∷ ys)
keep_if true x xs ys w = inl (refl, w)
keep_if false x xs ys w = past xs x ys w

keep_data : (b c : Bool) (o : Stamped) (rest : List Stamped) (later : List (List ℕ)) → (b ≡ true → c ≡ true) → Within (heard_data rest) (map as_heard later)
    → Within (heard_data (if b then o ∷ rest else rest)) (map as_heard (if c then o.bytes ∷ later else later))
keep_data true true o rest later own w = keep_if (is_data (heard_as o)) (heard_as o) (heard_data rest) (map as_heard later) w
keep_data true false o rest later own w = absurd (false≢true (own refl))
keep_data false true o rest later own w = past (heard_data rest) (heard_as o) (map as_heard later) w
keep_data false false o rest later own w = w

pub data_within : (many : Bool) (n dev : ℕ) (events : List Event) → AreOwnData many n dev events → ArePlain events
    → Within (heard_data (picks (is_for many n) (sent_in events))) (map as_heard (data_sent dev events))
data_within many n dev [] own plain = tt
data_within many n dev (call.Turned (next.Order d slot fis) ∷ later) own plain =
    let o : Stamped = record { bytes = fis; stamp = host_stamp d } in
    skip_order (is_for many n o) o (picks (is_for many n) (sent_in later)) (map as_heard (data_sent dev later)) plain.0 (data_within many n dev later own.1 plain.1)
data_within many n dev (call.Gathered d number bytes (fed_answer.Goes message line) ∷ later) own plain =
    let o : Stamped = record { bytes = bytes; stamp = host_stamp d } in
    keep_data (is_for many n o) (d == dev) o (picks (is_for many n) (sent_in later)) (data_sent dev later) own.0 (data_within many n dev later own.1 plain.1)
data_within many n dev (call.Turned said ∷ later) own plain = data_within many n dev later own.1 plain.1
data_within many n dev (call.Gathered d number bytes other ∷ later) own plain = data_within many n dev later own.1 plain.1
data_within many n dev (call.Took frame took ∷ later) own plain = data_within many n dev later own.1 plain.1
data_within many n dev (call.Left frame why ∷ later) own plain = data_within many n dev later own.1 plain.1
data_within many n dev (call.Wrote offset value written ∷ later) own plain = data_within many n dev later own.1 plain.1
data_within many n dev (call.WroteWide offset width value written ∷ later) own plain = data_within many n dev later own.1 plain.1
data_within many n dev (call.Supplied slot number bytes supply ∷ later) own plain = data_within many n dev later own.1 plain.1
data_within many n dev (call.Missed slot number supply ∷ later) own plain = data_within many n dev later own.1 plain.1
data_within many n dev (call.Said write ∷ later) own plain = data_within many n dev later own.1 plain.1
data_within many n dev (call.NotThere d number fed ∷ later) own plain = data_within many n dev later own.1 plain.1

-- ---- the last of them

-- the last one of the list is this, and those before it are among those before
pub record Split (xs : List (List ℕ)) (x : List ℕ) (ys : List (List ℕ)) : Type 0 where
  pub front : List (List ℕ)
  pub it : List ℕ
  pub back : List (List ℕ)
  pub is : ys ≡ front ++ it ∷ back
  pub here : x ≡ as_heard it
  pub first : Within xs (map as_heard front)

none_first : (x : List ℕ) (y : List ℕ) (ys : List (List ℕ)) → Split [] x ys → Split [] x (y ∷ ys)
none_first x y ys r = record { front = y ∷ r.front; it = r.it; back = r.back; is = ap (λ l. y ∷ l) r.is; here = r.here; first = tt }

pub split : (xs : List (List ℕ)) (x : List ℕ) (ys : List (List ℕ)) → Within (xs ++ x ∷ []) (map as_heard ys) → Split xs x ys
split [] x [] w = absurd w
split [] x (y ∷ ys) (inl h) = record { front = []; it = y; back = ys; is = refl; here = h.0; first = tt }
split [] x (y ∷ ys) (inr h) = none_first x y ys (split [] x ys h)
split (a ∷ xs) x [] w = absurd w
split (a ∷ xs) x (y ∷ ys) (inl h) =
    let r : Split xs x ys = split xs x ys h.1 in
    record { front = y ∷ r.front; it = r.it; back = r.back; is = ap (λ l. y ∷ l) r.is; here = r.here; first = inl (h.0, r.first) }
split (a ∷ xs) x (y ∷ ys) (inr h) =
    let r : Split (a ∷ xs) x ys = split (a ∷ xs) x ys h in
    record { front = y ∷ r.front; it = r.it; back = r.back; is = ap (λ l. y ∷ l) r.is; here = r.here; first = inr r.first }

pub sizes_heard : (frames : List (List ℕ)) → sizes (map as_heard frames) ≡ sizes frames
sizes_heard [] = refl
sizes_heard (f ∷ later) = ap (λ l. size (as_heard f) ∷ l) (sizes_heard later)
    ∙ ap (λ (k : ℕ). k ∷ sizes later) (sym (length-drop 4 (as_heard f)) ∙ ap (λ (x : List ℕ). length x) (marked_rest f 0) ∙ length-drop 4 f)

pub picks_last : (p : List ℕ → Bool) (xs : List (List ℕ)) (x : List ℕ) → p x ≡ true → picks p (x ∷ []) ≡ x ∷ []
picks_last p xs x is = ap (λ (b : Bool). if b then x ∷ [] else []) is
