-- Facts about the moves of a payload.
use Rattle.std.proofs.Common.{◌≡◌, ℕ, zero, suc, ◌+◌, ◌-◌, ◌<◌, ◌≤◌, ◌&&◌, min, nat_lt, nat_le, false, List, [], ◌∷◌, ◌++◌, length, take, drop}
use Rattle.std.proofs.{Common.{slice_get, Some, All, refl, sym, ap, ◌∙◌, arith, inl, inr, length-drop}, lemmas.Bool.{cond-true, cond-false, lt-ltb}}
use Rattle.std.proofs.{lemmas.{Bool.{le-ltb, cases_lt, Decides.nat_tests}, List.{take-append-le}}, Math.Seq.{take-add, take-append-add, take-length}}
use Rattle.std.proofs.lemmas.List.{length-take, length-take-le, drop-drop, Elements.{All-nil, All-cons}}
use Rattle.guest_fetch.specs.{declared.entry.Entry.Entry, Entries.IsEntry, Places.{DataAreOneTransfer, GoesOnlyToItsTable, Single, named, place}}
use Rattle.guest_fetch.specs.{Places.{reach_of, room_at, single, singles, singles_from, total_of}, Moves.{Begins, IsMove, any_told, completes}}
use Rattle.guest_fetch.specs.Moves.{move_of, moves_at, moves_of}

tail : (e : Entry) (rest : List Entry) → All IsEntry (e ∷ rest) → All IsEntry rest
tail e rest are k d h = are (suc k) d (omega arith)

head : (e : Entry) (rest : List Entry) → All IsEntry (e ∷ rest) → IsEntry e
head e rest are = are 0 e (omega arith)

-- ---- places

-- byte i lies in the first entry if it is below its count
pub place_here : (e : Entry) (rest : List Entry) (i : ℕ) → i < e.bytes → place (e ∷ rest) i ≡ e.address + i
place_here e rest i h = cond-true (nat_lt i e.bytes) (e.address + i) (place rest (i - e.bytes)) (lt-ltb i e.bytes h)

-- otherwise it lies in the rest
pub place_later : (e : Entry) (rest : List Entry) (i : ℕ) → e.bytes ≤ i → place (e ∷ rest) i ≡ place rest (i - e.bytes)
place_later e rest i h = cond-false (nat_lt i e.bytes) (e.address + i) (place rest (i - e.bytes)) (le-ltb i e.bytes h)

-- ---- what a table names

pub named_append : (entries : List Entry) (offset : ℕ) (xs ys : List ℕ) → named entries offset (xs ++ ys) ≡ named entries offset xs ++ named entries (offset + length xs) ys
named_append entries offset [] ys = let same : offset + 0 ≡ offset = omega arith in rw same refl
named_append entries offset (x ∷ xs) ys =
    let on : offset + 1 + length xs ≡ offset + suc (length xs) = omega arith in
    ap (λ ss. single (place entries offset) x ∷ ss) (named_append entries (offset + 1) xs ys ∙ ap (λ n. named entries (offset + 1) xs ++ named entries n ys) on)

-- bytes of the first entry
pub named_here : (e : Entry) (rest : List Entry) (skip : ℕ) (bytes : List ℕ) → skip + length bytes ≤ e.bytes → named (e ∷ rest) skip bytes ≡ singles_from (e.address + skip) bytes
named_here e rest skip [] h = refl
named_here e rest skip (byte ∷ bytes) h =
    let on : e.address + (skip + 1) ≡ e.address + skip + 1 = omega arith in
    ap (λ n. single n byte ∷ named (e ∷ rest) (skip + 1) bytes) (place_here e rest skip (omega arith))
    ∙ ap (λ ss. single (e.address + skip) byte ∷ ss) (named_here e rest (skip + 1) bytes (omega arith) ∙ ap (λ n. singles_from n bytes) on)

-- bytes of the entries after it
pub named_later : (e : Entry) (rest : List Entry) (skip : ℕ) (bytes : List ℕ) → e.bytes ≤ skip → named (e ∷ rest) skip bytes ≡ named rest (skip - e.bytes) bytes
named_later e rest skip [] h = refl
named_later e rest skip (byte ∷ bytes) h =
    let next : skip + 1 - e.bytes ≡ skip - e.bytes + 1 = omega arith in
    ap (λ n. single n byte ∷ named (e ∷ rest) (skip + 1) bytes) (place_later e rest skip h)
    ∙ ap (λ ss. single (place rest (skip - e.bytes)) byte ∷ ss) (named_later e rest (skip + 1) bytes (omega arith) ∙ ap (λ n. named rest n bytes) next)

-- ---- what the moves bring

-- while bytes are left, the next one lies in the first of these entries, which have all of them
abbrev pub Has : List Entry → ℕ → ℕ → Type 0
Has entries skip left = 0 < left → Begins entries skip × (skip + left ≤ total_of entries)

has_rest : (e : Entry) (rest : List Entry) (skip left : ℕ) → All IsEntry rest → skip < e.bytes → skip + left ≤ total_of (e ∷ rest) → Has rest 0 (left - min (e.bytes - skip) left)
has_rest e [] skip left are begins holds some = absurd (omega arith)
has_rest e (f ∷ rest) skip left are begins holds some = ((head _ _ are).some, omega arith)

-- the bytes of a payload from done on go to the places of the bytes of these entries from skip on
pub moves_bring : (entries : List Entry) (skip done left : ℕ) (payload : List ℕ) → All IsEntry entries → Has entries skip left → done + left ≤ length payload
    → singles payload (moves_of entries skip done left) ≡ named entries skip (take left (drop done payload))
unfolding moves_of
moves_bring [] skip done zero payload are has long = refl
moves_bring [] skip done (suc n) payload are has long = absurd (has (omega arith)).0
moves_bring (e ∷ rest) skip done zero payload are has long = refl
moves_bring (e ∷ rest) skip done (suc n) payload are has long =
    let begins : skip < e.bytes = (has (omega arith)).0 in
    let holds : skip + suc n ≤ total_of (e ∷ rest) = (has (omega arith)).1 in
    let len = min (e.bytes - skip) (suc n) in
    let bytes = drop done payload in
    let here = take len bytes in
    let later = take (suc n - len) (drop len bytes) in
    let split : take (suc n) bytes ≡ here ++ later = (let sum : suc n ≡ len + (suc n - len) = omega arith in ap (λ k. take k bytes) sum ∙ take-add len (suc n - len) bytes) in
    let many = length-drop done payload in
    let long_here : length here ≡ len = length-take-le len bytes (omega (arith, many)) in
    let more : drop len bytes ≡ drop (done + len) payload = drop-drop len done payload in
    let on = moves_bring rest 0 (done + len) (suc n - len) payload (tail e rest are) (has_rest e rest skip (suc n) (tail e rest are) begins holds) (omega arith) in
    let rest_is : named (e ∷ rest) (skip + length here) later ≡ named rest 0 (take (suc n - len) (drop (done + len) payload)) =
    (elim (cases_lt (suc n) (e.bytes - skip)) [
      | inl short ↦
          let none : suc n - len ≡ 0 = omega arith in
          rw none refl
      | inr whole ↦
          let full : skip + length here - e.bytes ≡ 0 = omega arith in
          named_later e rest (skip + length here) later (omega arith) ∙ ap (λ k. named rest k later) full ∙ ap (λ xs. named rest 0 (take (suc n - len) xs)) more
    ]) in
    ap (λ ss. singles_from (e.address + skip) here ++ ss) (on ∙ sym rest_is)
    ∙ ap (λ ss. ss ++ named (e ∷ rest) (skip + length here) later) (sym (named_here e rest skip here (omega arith)))
    ∙ sym (named_append (e ∷ rest) skip here later)
    ∙ sym (ap (named (e ∷ rest) skip) split)

-- each is a move of the payload
pub moves_are : (entries : List Entry) (skip done left len : ℕ) → All IsEntry entries → Has entries skip left → done + left ≤ len → All (IsMove len) (moves_of entries skip done left)
unfolding moves_of
moves_are [] skip done left len are has all = All-nil (IsMove len)
moves_are (e ∷ rest) skip done zero len are has all = All-nil (IsMove len)
moves_are (e ∷ rest) skip done (suc n) len are has all =
    let begins : skip < e.bytes = (has (omega arith)).0 in
    let holds : skip + suc n ≤ total_of (e ∷ rest) = (has (omega arith)).1 in
    let count = min (e.bytes - skip) (suc n) in
    let fits = (head e rest are).inside in
    All-cons (IsMove len) (move_of e skip done (suc n)) (moves_of rest 0 (done + count) (suc n - count)) (omega arith, omega arith, omega arith)
    (moves_are rest 0 (done + count) (suc n - count) len (tail e rest are) (has_rest e rest skip (suc n) (tail e rest are) begins holds) (omega arith))

-- there are no more moves than entries
pub moves_few : (entries : List Entry) (skip done left : ℕ) → length (moves_of entries skip done left) ≤ length entries
unfolding moves_of
moves_few [] skip done left = omega arith
moves_few (e ∷ rest) skip done zero = omega arith
moves_few (e ∷ rest) skip done (suc n) =
    let len = min (e.bytes - skip) (suc n) in
    let on = moves_few rest 0 (done + len) (suc n - len) in
    omega arith

-- nothing is left once all bytes are moved
pub moves_done : (entries : List Entry) (skip done : ℕ) → moves_of entries skip done 0 ≡ []
unfolding moves_of
moves_done [] skip done = refl
moves_done (e ∷ rest) skip done = refl

pub moves_cons : (e : Entry) (rest : List Entry) (skip done left : ℕ) → 0 < left
    → moves_of (e ∷ rest) skip done left ≡ move_of e skip done left ∷ moves_of rest 0 (done + min (e.bytes - skip) left) (left - min (e.bytes - skip) left)
unfolding moves_of
moves_cons e rest skip done zero some = absurd (omega arith)
moves_cons e rest skip done (suc n) some = refl

-- ---- from an offset of the command on

moves_here : (e : Entry) (rest : List Entry) (offset left : ℕ) → offset < e.bytes → moves_at (e ∷ rest) offset left ≡ moves_of (e ∷ rest) offset 0 left
unfolding moves_at
moves_here e rest offset left h = cond-true (nat_lt offset e.bytes) (moves_of (e ∷ rest) offset 0 left) (moves_at rest (offset - e.bytes) left) (lt-ltb offset e.bytes h)

moves_later : (e : Entry) (rest : List Entry) (offset left : ℕ) → e.bytes ≤ offset → moves_at (e ∷ rest) offset left ≡ moves_at rest (offset - e.bytes) left
unfolding moves_at
moves_later e rest offset left h = cond-false (nat_lt offset e.bytes) (moves_of (e ∷ rest) offset 0 left) (moves_at rest (offset - e.bytes) left) (le-ltb offset e.bytes h)

moves_nowhere : (offset left : ℕ) → moves_at [] offset left ≡ []
unfolding moves_at
moves_nowhere offset left = refl

pub moves_none : (entries : List Entry) (offset : ℕ) → moves_at entries offset 0 ≡ []
moves_none [] offset = moves_nowhere offset 0
moves_none (e ∷ rest) offset =
    elim (cases_lt offset e.bytes) [
      | inl lt ↦ moves_here e rest offset 0 lt ∙ moves_done (e ∷ rest) offset 0
      | inr ge ↦ moves_later e rest offset 0 ge ∙ moves_none rest (offset - e.bytes)
    ]

-- the entries that lie wholly before it are passed over
pub moves_from : (entries : List Entry) (k offset left : ℕ) → total_of (take k entries) ≤ offset → moves_at entries offset left ≡ moves_at (drop k entries) (offset - total_of (take k entries)) left
moves_from entries zero offset left h = let same : offset ≡ offset - 0 = omega arith in ap (λ n. moves_at entries n left) same
moves_from [] (suc k) offset left h = moves_nowhere offset left ∙ sym (moves_nowhere (offset - 0) left)
moves_from (e ∷ rest) (suc k) offset left h =
    let less : offset - e.bytes - total_of (take k rest) ≡ offset - (e.bytes + total_of (take k rest)) = omega arith in
    moves_later e rest offset left (omega arith) ∙ moves_from rest k (offset - e.bytes) left (omega arith) ∙ ap (λ n. moves_at (drop k rest) n left) less

moves_begin : (entries : List Entry) (skip left : ℕ) → Begins entries skip → moves_at entries skip left ≡ moves_of entries skip 0 left
moves_begin [] skip left begins = absurd begins
moves_begin (e ∷ rest) skip left begins = moves_here e rest skip left begins

-- there are none where no byte is left, or they begin in the entry of the first byte
pub moves_at_is : (entries : List Entry) (k offset left : ℕ) → total_of (take k entries) ≤ offset → (0 < left → Begins (drop k entries) (offset - total_of (take k entries)))
    → moves_of (drop k entries) (offset - total_of (take k entries)) 0 left ≡ moves_at entries offset left
moves_at_is entries k offset zero h begins = moves_done (drop k entries) (offset - total_of (take k entries)) 0 ∙ sym (moves_none entries offset)
moves_at_is entries k offset (suc n) h begins = sym (moves_from entries k offset (suc n) h ∙ moves_begin (drop k entries) (offset - total_of (take k entries)) (suc n) (begins (omega arith)))

-- ---- what holds for all of them

-- the bytes lie in these entries
abbrev pub Lies : List Entry → ℕ → ℕ → Type 0
Lies entries offset left = 0 < left → offset + left ≤ total_of entries

pub at_bring : (entries : List Entry) (offset left : ℕ) (payload : List ℕ) → All IsEntry entries → Lies entries offset left → left ≤ length payload → singles payload (moves_at entries offset left) ≡ named entries offset (take left payload)
at_bring entries offset zero payload are lies long = ap (singles payload) (moves_none entries offset)
at_bring [] offset (suc n) payload are lies long = absurd (let h = lies (omega arith) in omega (arith, h))
at_bring (e ∷ rest) offset (suc n) payload are lies long =
    let all : offset + suc n ≤ total_of (e ∷ rest) = lies (omega arith) in
    elim (cases_lt offset e.bytes) [
      | inl lt ↦ ap (singles payload) (moves_here e rest offset (suc n) lt) ∙ moves_bring (e ∷ rest) offset 0 (suc n) payload are (λ some. (lt, all)) (omega arith)
      | inr ge ↦
          ap (singles payload) (moves_later e rest offset (suc n) ge) ∙ at_bring rest (offset - e.bytes) (suc n) payload (tail e rest are) (λ some. omega (arith, all)) long
          ∙ sym (named_later e rest offset (take (suc n) payload) ge)
    ]

pub at_are : (entries : List Entry) (offset left len : ℕ) → All IsEntry entries → Lies entries offset left → left ≤ len → All (IsMove len) (moves_at entries offset left)
at_are entries offset zero len are lies few = rw (moves_none entries offset) (All-nil (IsMove len))
at_are [] offset (suc n) len are lies few = rw (moves_nowhere offset (suc n)) (All-nil (IsMove len))
at_are (e ∷ rest) offset (suc n) len are lies few =
    let all : offset + suc n ≤ total_of (e ∷ rest) = lies (omega arith) in
    elim (cases_lt offset e.bytes) [
      | inl lt ↦ rw (moves_here e rest offset (suc n) lt) (moves_are (e ∷ rest) offset 0 (suc n) len are (λ some. (lt, all)) (omega arith))
      | inr ge ↦ rw (moves_later e rest offset (suc n) ge) (at_are rest (offset - e.bytes) (suc n) len (tail e rest are) (λ some. omega (arith, all)) few)
    ]

pub at_few : (entries : List Entry) (offset left : ℕ) → length (moves_at entries offset left) ≤ length entries
at_few [] offset left = rw (moves_nowhere offset left) (omega arith)
at_few (e ∷ rest) offset left =
    elim (cases_lt offset e.bytes) [
      | inl lt ↦ rw (moves_here e rest offset left lt) (moves_few (e ∷ rest) offset 0 left)
      | inr ge ↦ let on = at_few rest (offset - e.bytes) left in rw (moves_later e rest offset left ge) (omega (arith, on))
    ]

-- ---- which entries end

completes_none : (entries : List Entry) (offset : ℕ) → All IsEntry entries → completes entries offset 0 ≡ false
completes_none [] offset are = refl
completes_none (e ∷ rest) offset are =
    let on = completes_none rest (offset - e.bytes) (tail e rest are) in
    let zero_left : 0 - (e.bytes - offset) ≡ 0 = omega arith in
    rw (zero_left, on) (grind (arith, nat_tests))

moves_tell : (entries : List Entry) (skip done left : ℕ) → All IsEntry entries → Has entries skip left → any_told (moves_of entries skip done left) ≡ completes entries skip left
unfolding moves_of
moves_tell [] skip done left are has = refl
moves_tell (e ∷ rest) skip done zero are has = sym (completes_none (e ∷ rest) skip are)
moves_tell (e ∷ rest) skip done (suc n) are has =
    let begins : skip < e.bytes = (has (omega arith)).0 in
    let holds : skip + suc n ≤ total_of (e ∷ rest) = (has (omega arith)).1 in
    let len = min (e.bytes - skip) (suc n) in
    let on = moves_tell rest 0 (done + len) (suc n - len) (tail e rest are) (has_rest e rest skip (suc n) (tail e rest are) begins holds) in
    let start : skip - e.bytes ≡ 0 = omega arith in
    let less : suc n - (e.bytes - skip) ≡ suc n - len = omega arith in
    let first : (e.interrupt && nat_le (e.bytes - skip) (suc n)) ≡ (e.interrupt && nat_lt skip e.bytes && nat_le e.bytes (skip + suc n)) = grind (arith, nat_tests) in
    rw (start, less, on, first) refl

pub at_tell : (entries : List Entry) (offset left : ℕ) → All IsEntry entries → Lies entries offset left → any_told (moves_at entries offset left) ≡ completes entries offset left
at_tell entries offset zero are lies = ap any_told (moves_none entries offset) ∙ sym (completes_none entries offset are)
at_tell [] offset (suc n) are lies = ap any_told (moves_nowhere offset (suc n))
at_tell (e ∷ rest) offset (suc n) are lies =
    let all : offset + suc n ≤ total_of (e ∷ rest) = lies (omega arith) in
    elim (cases_lt offset e.bytes) [
      | inl lt ↦ ap any_told (moves_here e rest offset (suc n) lt) ∙ moves_tell (e ∷ rest) offset 0 (suc n) are (λ some. (lt, all))
      | inr ge ↦
          let left : suc n - (e.bytes - offset) ≡ suc n = omega arith in
          let first : (e.interrupt && nat_lt offset e.bytes && nat_le e.bytes (offset + suc n)) ≡ false = grind (arith, nat_tests) in
          ap any_told (moves_later e rest offset (suc n) ge) ∙ at_tell rest (offset - e.bytes) (suc n) (tail e rest are) (λ some. omega (arith, all)) ∙ rw (left, first) refl
    ]

-- ---- laws

named_is : (entries : List Entry) (offset : ℕ) (bytes : List ℕ) (k : ℕ) (s : Single) → slice_get (named entries offset bytes) k ≡ Some s → (k < length bytes) × (place entries (offset + k) ≡ s.address)
named_is entries offset [] k s e = cc
named_is entries offset (byte ∷ bytes) zero s e =
    let same : single (place entries offset) byte ≡ s = cc in
    let there : offset + 0 ≡ offset = omega arith in
    (omega arith, ap (place entries) there ∙ ap (λ (x : Single). x.address) same)
named_is entries offset (byte ∷ bytes) (suc j) s e =
    let on = named_is entries (offset + 1) bytes j s e in
    let there : offset + suc j ≡ offset + 1 + j = omega arith in
    (omega (arith, on.0), ap (place entries) there ∙ on.1)

pub only_to_table : GoesOnlyToItsTable
only_to_table table offset payload moves delivers k s e =
    let room = room_at table offset (length payload) in
    let is = named_is table.entries offset (take room payload) k s (rw (delivers payload refl) at e) in
    let long = length-take room payload in
    record { byte = offset + k; after = omega arith; before = omega (arith, is.0, long); inside = omega (arith, is.0, long); here = is.1 }

pub one_transfer : DataAreOneTransfer
one_transfer table offset first second moves after delivers delivers_after =
    let reach = reach_of table in
    let n = length first in
    let m = length second in
    let e = table.entries in
    let brought = ap (λ ss. ss ++ singles second after) (delivers first refl) ∙ ap (λ ss. named e offset (take (room_at table offset n) first) ++ ss) (delivers_after second refl) in
    elim (cases_lt reach (offset + n)) [
      | inl short ↦
          let none : room_at table (offset + n) m ≡ 0 = omega arith in
          let same : room_at table offset (n + m) ≡ room_at table offset n = omega arith in
          let fits : room_at table offset n ≤ n = omega arith in
          let left = take-append-le (room_at table offset n) first second fits in
          brought ∙ ap (λ k. named e offset (take (room_at table offset n) first) ++ named e (offset + n) (take k second)) none
          ∙ append-nil (named e offset (take (room_at table offset n) first))
          ∙ sym (ap (λ k. named e offset (take k (first ++ second))) same ∙ ap (named e offset) left)
      | inr whole ↦
          let all : room_at table offset n ≡ n = omega arith in
          let sum : room_at table offset (n + m) ≡ n + room_at table (offset + n) m = omega arith in
          let here : take n first ≡ first = take-length first in
          brought ∙ ap (λ k. named e offset (take k first) ++ named e (offset + n) (take (room_at table (offset + n) m) second)) all
          ∙ ap (λ xs. named e offset xs ++ named e (offset + n) (take (room_at table (offset + n) m) second)) here
          ∙ sym (ap (λ k. named e offset (take k (first ++ second))) sum ∙ ap (named e offset) (take-append-add first second (room_at table (offset + n) m)) ∙ named_append e offset first (take (room_at table (offset + n) m) second))
    ]
  where
    append-nil : (xs : List Single) → xs ++ [] ≡ xs
    append-nil [] = refl
    append-nil (x ∷ xs) = ap (λ ys. x ∷ ys) (append-nil xs)
