-- The calls at both seats of a link, in the order in which they took effect, and when their answers are right.
use Rattle.std.specs.Prelude.{◌≡◌, ◌<◌, ℕ, List, [], ◌∷◌, ◌++◌, length}
use Rattle.ruled_links.specs.Links.{IsWhole, Seat}

pub data Calls (T : Type 0) : Type 0 where
  no_calls : Calls T
  then_sends : Calls T → T → Calls T
  then_finds_full : Calls T → Calls T
  then_takes : Calls T → T → Calls T
  then_finds_empty : Calls T → Calls T

module _ {T : Type 0} where
  abbrev pub sent_by : Calls T → List T
  sent_by no_calls = []
  sent_by (then_sends c x) = sent_by c ++ x ∷ []
  sent_by (then_finds_full c) = sent_by c
  sent_by (then_takes c x) = sent_by c
  sent_by (then_finds_empty c) = sent_by c

  abbrev pub taken_by : Calls T → List T
  taken_by no_calls = []
  taken_by (then_sends c x) = taken_by c
  taken_by (then_finds_full c) = taken_by c
  taken_by (then_takes c x) = taken_by c ++ x ∷ []
  taken_by (then_finds_empty c) = taken_by c

  -- for each Full, how many items had been sent
  abbrev pub full_at : Calls T → List ℕ
  full_at no_calls = []
  full_at (then_sends c x) = full_at c
  full_at (then_finds_full c) = full_at c ++ length (sent_by c) ∷ []
  full_at (then_takes c x) = full_at c
  full_at (then_finds_empty c) = full_at c

  -- for each None, how many items had been taken
  abbrev pub none_at : Calls T → List ℕ
  none_at no_calls = []
  none_at (then_sends c x) = none_at c
  none_at (then_finds_full c) = none_at c
  none_at (then_takes c x) = none_at c
  none_at (then_finds_empty c) = none_at c ++ length (taken_by c) ∷ []

  -- after these calls the link holds items of which this is true
  abbrev pub Held : Calls T → (List T → Type 0) → Type 0
  Held c P = (items : List T) × IsWhole (sent_by c) (taken_by c) items × P items

  -- Each answer was right at its place: an item was sent where there was room and taken where it was the
  -- first, Full was answered only at capacity, and None only where the link was empty.
  abbrev pub AreRight : ℕ → Calls T → Type 0
  AreRight room no_calls = Unit {0}
  AreRight room (then_sends c x) = AreRight room c × Held c (λ items. length items < room)
  AreRight room (then_finds_full c) = AreRight room c × Held c (λ items. length items ≡ room)
  AreRight room (then_takes c x) = AreRight room c × Held c (λ items. (rest : List T) × (items ≡ x ∷ rest))
  AreRight room (then_finds_empty c) = AreRight room c × Held c (λ items. items ≡ [])

  -- the calls that a seat knows of, if it knows of all
  pub record IsAnswered (s : Seat T) : Type 0 where
    pub calls : Calls T
    pub right : AreRight s.room calls
    pub sent : sent_by calls ≡ s.sent
    pub taken : taken_by calls ≡ s.taken
    pub full_at : full_at calls ≡ s.full_at
    pub none_at : none_at calls ≡ s.none_at
