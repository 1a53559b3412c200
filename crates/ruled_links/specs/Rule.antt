-- The rule of a link: a ring of slots with a count of the items sent and one of the items taken. The calls so far
-- were answered rightly, and what they sent is in the order that the item type names. At most one pass can send;
-- it knows all that was sent, each Full, and a prefix of what was taken. At most one can take; it knows all that
-- was taken, each None, and a prefix of what was sent. Of a pass that can do neither nothing is said.
use Rattle.std.specs.Prelude.{◌≡◌, ◌≢◌, ℕ, ◌+◌, ◌%◌, ◌<◌, ◌≤◌, Bool, true, false, List, [], ◌∷◌, ◌++◌, length, Option, Some, None, slice_index_or}
use mathlib.Core.Option as maybe
use mathlib.Core.Option.{some}
use lib.ListN.{get_elem?}
use Rattle.atomic_table.specs.{Table.{State, Me, Step}, declared.shared.Seat.Seat}
use Rattle.ruled_links.specs.{declared.{rule.View.View, ring.Ring.Ring}, Calls.{Calls, sent_by, taken_by, full_at, none_at, AreRight}, Links.IsWhole}
use Rattle.ruled_links.specs.Lists.{IsPrefixOf, Agree}

abbrev pub Pass : Type 0 → Type 0
Pass T = Seat (Option T) (View T)

-- what a step sees of a pass: its view, and the slots that are out with it
abbrev pub Sight : Type 0 → Type 0
Sight T = Me (Option T) (View T)

abbrev pub Homes : Type 0 → Type 0
Homes T = List (maybe.Option (Option T))

module _ {T : Type 0} where
  -- what a pass of a link knows
  abbrev pub known : Pass T → View T
  known p = p.me.0

  -- it is a pass of this link, and no slot is out with it
  abbrev pub IsPassOf : Ring T → Pass T → Type 0
  IsPassOf r p = (p.table_id ≡ r.table.shared.table_id) × (p.me.1 ≡ [])

  abbrev pub IsSamePass : Pass T → Pass T → Type 0
  IsSamePass old new = (new.table_id ≡ old.table_id) × (new.me.1 ≡ old.me.1)

  abbrev pub room_of : Ring T → ℕ
  room_of r = r.room

  -- it can send, and has no slot out
  pub record CanSend (v : View T) : Type 0 where
    pub sends : v.sends ≡ true
    pub takes : v.takes ≡ false
    pub writes : v.writing ≡ false

  pub record CanTake (v : View T) : Type 0 where
    pub sends : v.sends ≡ false
    pub takes : v.takes ≡ true
    pub reads : v.reading ≡ None

  -- it can do both
  pub record CanMeet (v : View T) : Type 0 where
    pub sends : v.sends ≡ true
    pub takes : v.takes ≡ true
    pub writes : v.writing ≡ false
    pub reads : v.reading ≡ None

  -- one pass as two, and two as one
  abbrev pub sender : View T → View T
  sender v = record v { takes = false }

  abbrev pub taker : View T → View T
  taker v = record v { sends = false }

  abbrev pub both : View T → View T → View T
  both tx rx = record { sends = true; takes = true; sent = tx.sent; taken = rx.taken; full_at = tx.full_at; none_at = rx.none_at; writing = false; reading = None }

  -- the first pass of a new link
  abbrev pub fresh : View T
  fresh = record { sends = true; takes = true; sent = []; taken = []; full_at = []; none_at = []; writing = false; reading = None }

  abbrev pub spent : View T
  spent = record { sends = false; takes = false; sent = []; taken = []; full_at = []; none_at = []; writing = false; reading = None }

  module _ (calls : Calls T) (v : View T) where
    -- the pass that sends, and whether a slot is out with it
    pub record KnowsSent (out : Bool) : Type 0 where
      pub sent : v.sent ≡ sent_by calls
      pub full_at : v.full_at ≡ full_at calls
      pub writing : v.writing ≡ out
      pub taken : IsPrefixOf v.taken (taken_by calls)

    -- the pass that takes, and the item in its hand
    pub record KnowsTaken (hand : Option T) : Type 0 where
      pub taken : v.taken ≡ taken_by calls
      pub none_at : v.none_at ≡ none_at calls
      pub reading : v.reading ≡ hand
      pub sent : IsPrefixOf v.sent (sent_by calls)

  -- what a pass knows holds
  pub record Fits (writer reader : ℕ) (calls : Calls T) (writing : Bool) (reading : Option T) (pass : ℕ) (v : View T) : Type 0 where
    pub writes : v.sends ≡ true → (pass ≡ writer) × KnowsSent calls v writing
    pub reads : v.takes ≡ true → (pass ≡ reader) × KnowsTaken calls v reading

  -- the item in a hand is still the first
  abbrev pub IsFirst : Option T → List T → Type 0
  IsFirst None items = Unit {0}
  IsFirst (Some x) items = (rest : List T) × (items ≡ x ∷ rest)

  -- where the slots are that are out with no seat, and what they hold
  pub record AreStored (room : ℕ) (sent taken : List T) (writing : Bool) (reading : Option T) (homes : Homes T) : Type 0 where
    pub full : (i : ℕ) (x : T) → length taken ≤ i → (i ≡ length taken → reading ≡ None) → get_elem? sent i ≡ some x
        → get_elem? homes (i % room) ≡ some (some (Some x))
    pub free : (i : ℕ) → length sent ≤ i → i < length taken + room → (i ≡ length sent → writing ≡ false)
        → get_elem? homes (i % room) ≡ some (some None)

  pub record IsLinked (in_order : List T → Type 0) (s : State (Option T) (View T)) : Type 0 where
    pub room : ℕ
    pub writer : ℕ
    pub reader : ℕ
    pub calls : Calls T
    pub items : List T
    pub writing : Bool
    pub reading : Option T
    pub sized : length s.homes ≡ room
    pub right : AreRight room calls
    pub whole : IsWhole (sent_by calls) (taken_by calls) items
    pub ordered : in_order (sent_by calls)
    pub some_room : 0 < room
    pub wide : length s.words ≡ 48
    pub tail : slice_index_or s.words 16 0 ≡ length (sent_by calls)
    pub head : slice_index_or s.words 32 0 ≡ length (taken_by calls)
    pub bounded : length items ≤ room
    pub claimed : writing ≡ true → length items < room
    pub first : IsFirst reading items
    pub stored : AreStored room (sent_by calls) (taken_by calls) writing reading s.homes
    pub each : (pass : ℕ) (v : View T) → get_elem? s.views pass ≡ some v → Fits writer reader calls writing reading pass v

  -- the sending pass after its look at the head: it answers Full, or the next slot is out with it
  abbrev pub found_full : View T → View T
  found_full v = record v { full_at = v.full_at ++ length v.sent ∷ [] }

  abbrev pub Claimed : Step (Option T) → Sight T → ℕ → Sight T → Type 0
  Claimed st m r m' = (length m.0.taken ≤ r) × (r ≤ length m.0.sent)
      × (length m.0.sent ≡ r + st.slots → m' ≡ (found_full m.0, m.1))
      × (length m.0.sent ≢ r + st.slots → m' ≡ (record m.0 { writing = true }, (length m.0.sent % st.slots, None) ∷ m.1))

  -- it puts the item after everything that was sent
  abbrev pub has_sent : View T → T → View T
  has_sent v x = record v { sent = v.sent ++ x ∷ []; writing = false }

  abbrev pub Published : Step (Option T) → Sight T → ℕ → Sight T → Type 0
  Published st m r m' = (k : ℕ) (x : T) → m.1 ≡ (k, Some x) ∷ [] → m' ≡ (has_sent m.0 x, [])

  -- the taking pass after its look at the tail: it answers None, or the next item is out with it
  abbrev pub found_empty : View T → View T
  found_empty v = record v { none_at = v.none_at ++ length v.taken ∷ [] }

  pub record Fetches (in_order : List T → Type 0) (slots : ℕ) (m m' : Sight T) : Type 0 where
    pub item : T
    pub seat : m' ≡ (record m.0 { reading = Some item }, (length m.0.taken % slots, Some item) ∷ m.1)
    pub ordered : in_order (m.0.taken ++ item ∷ [])
    pub agree : Agree m.0.sent (m.0.taken ++ item ∷ [])

  abbrev pub Fetched : (List T → Type 0) → Step (Option T) → Sight T → ℕ → Sight T → Type 0
  Fetched in_order st m r m' = (r ≡ length m.0.taken → (m' ≡ (found_empty m.0, m.1)) × IsPrefixOf m.0.sent m.0.taken)
      × (r ≢ length m.0.taken → Fetches in_order st.slots m m')

  -- it has taken the item, and the slot is free
  abbrev pub has_taken : View T → T → View T
  has_taken v x = record v { taken = v.taken ++ x ∷ []; reading = None }

  abbrev pub Freed : Step (Option T) → Sight T → ℕ → Sight T → Type 0
  Freed st m r m' = (x : T) → m.0.reading ≡ Some x → m' ≡ (has_taken m.0 x, [])

  -- a look by a pass that can do both
  pub record Met (in_order : List T → Type 0) (room : ℕ) (v : View T) : Type 0 where
    pub calls : Calls T
    pub items : List T
    pub right : AreRight room calls
    pub sent : sent_by calls ≡ v.sent
    pub taken : taken_by calls ≡ v.taken
    pub full_at : full_at calls ≡ v.full_at
    pub none_at : none_at calls ≡ v.none_at
    pub whole : IsWhole v.sent v.taken items
    pub bounded : length items ≤ room
    pub ordered : in_order v.sent

  abbrev pub Looked : (List T → Type 0) → Step (Option T) → Sight T → ℕ → Sight T → Type 0
  Looked in_order st m r m' = (m' ≡ m) × Met in_order st.slots m.0
