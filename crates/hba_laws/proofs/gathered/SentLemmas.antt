-- For `writes_are_gathered`. The bytes of a write: each that is filled was sent from its place, and stands there.
use Rattle.std.proofs.Common.{◌≡◌, ℕ, ◌+◌, ◌-◌, ◌<◌, ◌≤◌, Bool, true, false, cond, eqb, List, [], ◌∷◌, length, refl, sym, ap, subst, ◌∙◌, inl, inr, Option, Some, None, ◌⊎◌, arith}
use Rattle.std.specs.Prelude.{slice_get}
use Rattle.std.proofs.lemmas.Bool.{eqb-true}
use Rattle.host_memory.specs.Place.{place, written}
use Rattle.host_memory.proofs.Door.{written_elsewhere}
use Rattle.slots.specs.Slots.{match_some}
use Rattle.hba_laws.specs.Client.{AreWithin, By, Filling, FillsWithin, IsReading, IsWithin, Puts, Stops, Touch, Touches, client, filling, own}
use Rattle.hba_laws.specs.History.{Carried, Event, History, Issued, Transfer, filled, filled_from, is_set_up, issued, next_number, none_filled}
use Rattle.hba_laws.specs.Sent.{AreBeside, AreGathered, HoldsWrites, IsGathered, IsWriting, SentFromPlace, SentStandsInPlace, WasSent}
use Rattle.hba_laws.proofs.histories.StandLemmas.{filled_cases, filling_is, if_there, some_inj, was_issued, within_before}

-- ---- what is filled next

-- Data after this history carries byte i of slot s, which is b
record CarriesByte (past : History) (bytes : List ℕ) (s i b : ℕ) : Type 0 where
  up : is_set_up s past ≡ true
  from : next_number past ≤ i
  to : i < next_number past + length bytes
  is : slice_get bytes (i - next_number past) ≡ Some b

abbrev CarriesIn : Event → History → (s i b : ℕ) → Type 0
CarriesIn (Carried bytes) past s i b = CarriesByte past bytes s i b
CarriesIn e past s i b = ⊥

-- a byte that is filled was so before, or the last event carries it
fills_next : (s : ℕ) (e : Event) (past : History) (i b : ℕ) → filled s (e ∷ past) i ≡ Some b → (filled s past i ≡ Some b) ⊎ CarriesIn e past s i b
fills_next s (Carried bytes) past i b f = by_up (is_set_up s past) refl f
  where
    by_up : (up : Bool) → is_set_up s past ≡ up → cond up (filled_from (next_number past) bytes (filled s past)) (filled s past) i ≡ Some b
        → (filled s past i ≡ Some b) ⊎ CarriesByte past bytes s i b
    by_up false up f = inl f
    by_up true up f = elim (filled_cases (next_number past) bytes (filled s past) i b f) [
      | inl p ↦ inr (record { up = up; from = p.0; to = p.1; is = p.2 })
      | inr q ↦ inl q.1
    ]
fills_next s (Issued slot t) past i b f = by_test (eqb slot s) f
  where
    by_test : (same : Bool) → cond same none_filled (filled s past) i ≡ Some b → (filled s past i ≡ Some b) ⊎ ⊥
    by_test true f = let none : None ≡ Some b = f in cc
    by_test false f = inl f
fills_next s _ past i b f = inl f

-- ---- where Data was gathered, what it carries stood at its place

stood : (opening : ℕ → ℕ) (past : Touches) (n : ℕ) (bytes : List ℕ) (s i b : ℕ) (t : Transfer) → IsGathered opening past n bytes → IsWriting n s t past
    → CarriesByte (own n past) bytes s i b → client opening past (place t.table i) ≡ b
stood opening past n bytes s i b t gathered writing c =
    let from : ℕ = next_number (own n past) in
    let low = c.from in
    let high = c.to in
    let at : from + (i - from) ≡ i = omega (arith, low) in
    let is : slice_get bytes (i - from) ≡ Some (client opening past (place t.table (from + (i - from)))) = gathered s t writing c.up (i - from) (omega (arith, low, high)) in
    ap (λ k. client opening past (place t.table k)) (sym at) ∙ some_inj (client opening past (place t.table (from + (i - from)))) b (sym is ∙ c.is)

module _ (opening : ℕ → ℕ) (past : Touches) (n s i b : ℕ) (t : Transfer) (writing : IsWriting n s t past) where
  -- so it was sent
  sent_by : (dev : ℕ) (e : Event) → dev ≡ n → AreGathered opening (By dev e ∷ past) → CarriesIn e (own n past) s i b → WasSent opening (By dev e ∷ past) n s i b t
  sent_by dev (Carried bytes) same gathered c = record {
    later = [];
    bytes = bytes;
    earlier = past;
    are = ap (λ d. By d (Carried bytes) ∷ past) same;
    writing = writing;
    from = c.from;
    carries = c.is;
    stood = stood opening past n bytes s i b t (subst (λ d. IsGathered opening past d bytes) same gathered.0) writing c;
  }
  sent_by dev (Issued slot u) same gathered c = absurd c
  sent_by dev other same gathered c = absurd c

  sent_later : (touch : Touch) → WasSent opening past n s i b t → WasSent opening (touch ∷ past) n s i b t
  sent_later touch was = record {
    later = touch ∷ was.later;
    bytes = was.bytes;
    earlier = was.earlier;
    are = ap (λ (p : Touches). touch ∷ p) was.are;
    writing = was.writing;
    from = was.from;
    carries = was.carries;
    stood = was.stood;
  }

gathered_before : (opening : ℕ → ℕ) (past : Touches) (dev : ℕ) (e : Event) → AreGathered opening (By dev e ∷ past) → AreGathered opening past
gathered_before opening past dev (Carried bytes) gathered = gathered.1
gathered_before opening past dev _ gathered = gathered

pub sent_from_place : SentFromPlace
sent_from_place opening [] gathered n s i b t writing f = cc
sent_from_place opening (Puts at bytes ∷ past) gathered n s i b t writing f =
    let before : IsWriting n s t past = record { is = writing.is; writes = writing.writes } in
    sent_later opening past n s i b t before (Puts at bytes) (sent_from_place opening past gathered n s i b t before f)
sent_from_place opening (Stops ∷ past) gathered n s i b t writing f = let none : None ≡ Some t = writing.is in cc
sent_from_place opening (By dev e ∷ past) gathered n s i b t writing f =
    go (eqb dev n) refl writing.is f
    (λ was x. sent_later opening past n s i b t was (By dev e) (sent_from_place opening past (gathered_before opening past dev e gathered) n s i b t was x))
  where
    go : (same : Bool) → eqb dev n ≡ same → issued s (cond same (e ∷ own n past) (own n past)) ≡ Some t → filled s (cond same (e ∷ own n past) (own n past)) i ≡ Some b
        → (IsWriting n s t past → filled s (own n past) i ≡ Some b → WasSent opening (By dev e ∷ past) n s i b t) → WasSent opening (By dev e ∷ past) n s i b t
    go false same is f before = before (record { is = is; writes = writing.writes }) f
    go true same is f before = elim (was_issued s e (own n past) t is) [
      | inr empty ↦ let none : None ≡ Some b = sym (ap (λ (g : ℕ → Option ℕ). g i) empty) ∙ f in cc
      | inl was ↦
          let w : IsWriting n s t past = record { is = was; writes = writing.writes } in
          elim (fills_next s e (own n past) i b f) [
            | inl x ↦ before w x
            | inr c ↦ sent_by opening past n s i b t w dev e (eqb-true dev n same) gathered c
          ]
    ]

-- ---- as long as its places are kept

module _ (opening : ℕ → ℕ) (past : Touches) (n s i : ℕ) (t : Transfer) (writing : IsWriting n s t past) (lt : i < t.work.len) where
  -- Data fills reads, which lie elsewhere
  data_leaves : (dev : ℕ) (bytes : List ℕ) → AreBeside past → IsWithin (own dev past) (length bytes)
      → client opening (By dev (Carried bytes) ∷ past) (place t.table i) ≡ client opening past (place t.table i)
  data_leaves dev bytes beside within = by_filling (filling (own dev past)) refl
    where
      by_filling : (o : Option Filling) → filling (own dev past) ≡ o
          → match_some o (client opening past (place t.table i)) (λ f. written f.transfer.table f.from bytes (client opening past) (place t.table i)) ≡ client opening past (place t.table i)
      by_filling None e = refl
      by_filling (Some f) e =
          let p = filling_is (own dev past) f e in
          let q = if_there (filling (own dev past)) (FillsWithin (length bytes)) f e within.fills in
          let fills : IsReading dev f.slot f.transfer past = record { is = p.is_issued; reads = q.reads } in
          written_elsewhere f.transfer.table f.from bytes (client opening past) (place t.table i) (λ j below at.
          beside n s dev f.slot i (f.from + j) t f.transfer writing fills lt (omega (arith, q.fits, below)) at)

  event_leaves : (dev : ℕ) (e : Event) → HoldsWrites (By dev e ∷ past) → AreWithin (By dev e ∷ past)
      → client opening (By dev e ∷ past) (place t.table i) ≡ client opening past (place t.table i)
  event_leaves dev (Carried bytes) holds within = data_leaves dev bytes holds.0 within.0
  event_leaves dev other holds within = refl

  stood_by : (dev : ℕ) (e : Event) (b : ℕ) → dev ≡ n → AreGathered opening (By dev e ∷ past) → CarriesIn e (own n past) s i b → client opening past (place t.table i) ≡ b
  stood_by dev (Carried bytes) b same gathered c = stood opening past n bytes s i b t (subst (λ d. IsGathered opening past d bytes) same gathered.0) writing c
  stood_by dev other b same gathered c = absurd c

holds_before : (past : Touches) (dev : ℕ) (e : Event) → HoldsWrites (By dev e ∷ past) → HoldsWrites past
holds_before past dev (Carried bytes) holds = holds.1
holds_before past dev _ holds = holds

pub sent_stands_in_place : SentStandsInPlace
sent_stands_in_place opening [] holds within gathered n s i b t writing lt f = cc
sent_stands_in_place opening (Puts at bytes ∷ past) holds within gathered n s i b t writing lt f =
    let before : IsWriting n s t past = record { is = writing.is; writes = writing.writes } in
    let out = holds.0 n s i t before lt in
    rw out (sent_stands_in_place opening past holds.1 within gathered n s i b t before lt f)
sent_stands_in_place opening (Stops ∷ past) holds within gathered n s i b t writing lt f = let none : None ≡ Some t = writing.is in cc
sent_stands_in_place opening (By dev e ∷ past) holds within gathered n s i b t writing lt f =
    go (eqb dev n) refl writing.is f
    (λ was x. event_leaves opening past n s i t was lt dev e holds within
    ∙ sent_stands_in_place opening past (holds_before past dev e holds) (within_before past dev e within) (gathered_before opening past dev e gathered) n s i b t was lt x)
  where
    go : (same : Bool) → eqb dev n ≡ same → issued s (cond same (e ∷ own n past) (own n past)) ≡ Some t → filled s (cond same (e ∷ own n past) (own n past)) i ≡ Some b
        → (IsWriting n s t past → filled s (own n past) i ≡ Some b → client opening (By dev e ∷ past) (place t.table i) ≡ b) → client opening (By dev e ∷ past) (place t.table i) ≡ b
    go false same is f before = before (record { is = is; writes = writing.writes }) f
    go true same is f before = elim (was_issued s e (own n past) t is) [
      | inr empty ↦ let none : None ≡ Some b = sym (ap (λ (g : ℕ → Option ℕ). g i) empty) ∙ f in cc
      | inl was ↦
          let w : IsWriting n s t past = record { is = was; writes = writing.writes } in
          elim (fills_next s e (own n past) i b f) [
            | inl x ↦ before w x
            | inr c ↦ event_leaves opening past n s i t w lt dev e holds within ∙ stood_by opening past n s i t w lt dev e b (eqb-true dev n same) gathered c
          ]
    ]
