-- A link begins, and its pass is cut in two and joined again.
use Rattle.std.proofs.Common.{◌≡◌, ◌≢◌, ℕ, zero, suc, ◌+◌, ◌<◌, ◌≤◌, Bool, true, false, true≢false, List, [], ◌∷◌, ◌++◌, length, map, replicate, set}
use Rattle.std.proofs.Common.{sym, refl, ap, ◌∙◌, subst, ⊎_elim, arith, mod-eq_of_lt, Option, None}
use mathlib.Core.Option.{some, some-ne-none}
use lib.ListN.{get_elem?}
use Rattle.atomic_table.specs.Table.{State, opening, Splits, Joins}
use Rattle.atomic_table.proofs.Lists.{at_set, at_snoc}
use Rattle.ruled_links.specs.{declared.rule.View.View, Calls.{Calls, no_calls}, Rule.{CanSend, CanTake, CanMeet, KnowsSent, KnowsTaken, Fits}}
use Rattle.ruled_links.specs.Rule.{IsLinked, sender, taker, both, fresh, spent}
use Rattle.ruled_links.proofs.{Prefixes.prefix_same, Moves.{Each, each_set, last_place, no}}

so_many : (T : Type 0) (n : ℕ) → length (map some (replicate {A = Option T} n None)) ≡ n
so_many T zero = refl
so_many T (suc n) = ap suc (so_many T n)

module _ {T : Type 0} where
  all_vacant : (n i : ℕ) → i < n → get_elem? (map some (replicate {A = Option T} n None)) i ≡ some (some None)
  all_vacant zero i lt = absurd (omega arith)
  all_vacant (suc n) zero lt = refl
  all_vacant (suc n) (suc i) lt = all_vacant n i (omega arith)

  sends_on : (calls : Calls T) (v : View T) (out : Bool) → KnowsSent calls v out → KnowsSent calls (sender v) out
  sends_on calls v out k = record { sent = k.sent; full_at = k.full_at; writing = k.writing; taken = k.taken }

  takes_on : (calls : Calls T) (v : View T) (hand : Option T) → KnowsTaken calls v hand → KnowsTaken calls (taker v) hand
  takes_on calls v hand k = record { taken = k.taken; none_at = k.none_at; reading = k.reading; sent = k.sent }

  pub can_meet : (tx rx : View T) → CanMeet (both tx rx)
  can_meet tx rx = record { sends = refl; takes = refl; writes = refl; reads = refl }

module _ {T : Type 0} (in_order : List T → Type 0) where
  pub begins : (n : ℕ) → in_order [] → 1 ≤ n → IsLinked in_order (opening (replicate 48 0) (replicate n None) fresh)
  begins n o some_room = record {
    room = n;
    writer = 0;
    reader = 0;
    calls = no_calls;
    items = [];
    writing = false;
    reading = None;
    sized = so_many T n;
    right = tt;
    whole = refl;
    ordered = o;
    some_room = some_room;
    wide = refl;
    tail = refl;
    head = refl;
    bounded = omega arith;
    claimed = λ p. absurd (true≢false (sym p));
    first = tt;
    stored = record {
      full = λ i x le hand at. absurd (some-ne-none x (sym at));
      free = λ i le lt idle.
          let below : i < n = omega arith in
          ap (λ (j : ℕ). get_elem? (map some (replicate {A = Option T} n None)) j) (mod-eq_of_lt below) ∙ all_vacant n i below;
    };
    each = each_set (Fits 0 0 no_calls false None) (fresh ∷ []) 0 fresh
        (record {
          writes = λ _. (refl, record { sent = refl; full_at = refl; writing = refl; taken = prefix_same [] [] refl });
          reads = λ _. (refl, record { taken = refl; none_at = refl; reading = refl; sent = prefix_same [] [] refl });
        })
        (λ j u other e. absurd (other (last_place [] fresh u j (λ x. some-ne-none u (sym x)) e)));
  }

  -- one pass becomes the two seats
  pub splits : (pass : ℕ) (v : View T) → CanMeet v → Splits (IsLinked in_order) pass v (sender v) (taker v)
  splits pass v may s h at =
      let tx : View T = sender v in
      let rx : View T = taker v in
      let mine = h.each pass v at in
      let wr = mine.writes may.sends in
      let rd = mine.reads may.takes in
      let vs : List (View T) = set s.views pass tx in
      let Old : ℕ → View T → Type 0 = λ j u. Fits h.writer h.reader h.calls h.writing h.reading j u × (u.takes ≢ true) in
      let old : Each Old vs = each_set Old s.views pass tx
      (record { writes = λ _. (wr.0, sends_on h.calls v h.writing wr.1); reads = λ p. no refl p }, λ p. true≢false (sym p))
      (λ j u other e. (h.each j u e, λ p. other (((h.each j u e).reads p).0 ∙ sym rd.0))) in
      record {
        room = h.room;
        writer = h.writer;
        reader = length vs;
        calls = h.calls;
        items = h.items;
        writing = h.writing;
        reading = h.reading;
        sized = h.sized;
        right = h.right;
        whole = h.whole;
        ordered = h.ordered;
        some_room = h.some_room;
        wide = h.wide;
        tail = h.tail;
        head = h.head;
        bounded = h.bounded;
        claimed = h.claimed;
        first = h.first;
        stored = h.stored;
        each = λ j u e. ⊎_elim
            (λ (x : get_elem? vs j ≡ some u). record { writes = (old j u x).0.writes; reads = λ p. absurd ((old j u x).1 p) })
            (λ (is : rx ≡ u). subst (Fits h.writer (length vs) h.calls h.writing h.reading j) is (record {
              writes = λ p. no refl p;
              reads = λ p. (last_place vs rx u j (λ x. (old j u x).1 (ap (λ (y : View T). y.takes) (sym is) ∙ may.takes)) e, takes_on h.calls v h.reading rd.1);
            }))
            (at_snoc vs rx u j e);
      }

  -- the two seats become one pass, and the other is spent
  pub joins : (pass : ℕ) (v : View T) (other : ℕ) (u : View T) → CanSend v → CanTake u
      → Joins (IsLinked in_order) pass v other u (both v u) spent
  joins pass v other u a b s h at two at' =
      let one : View T = both v u in
      let wr = (h.each pass v at).writes a.sends in
      let vs : List (View T) = set s.views pass one in
      let was : get_elem? s.views other ≡ some u = ⊎_elim (λ x. absurd (two x.0)) (λ x. x.1) (at_set s.views pass other one u at') in
      let rd = (h.each other u was).reads b.takes in
      let Now : ℕ → View T → Type 0 = λ j y. j ≢ other → Fits h.writer pass h.calls h.writing h.reading j y in
      let now : Each Now vs = each_set Now s.views pass one
      (λ _. record {
        writes = λ _. (
          wr.0,
          record {
            sent = wr.1.sent;
            full_at = wr.1.full_at;
            writing = sym a.writes ∙ wr.1.writing;
            taken = prefix_same u.taken _ rd.1.taken;
          },
        );
        reads = λ _. (
          refl,
          record {
            taken = rd.1.taken;
            none_at = rd.1.none_at;
            reading = sym b.reads ∙ rd.1.reading;
            sent = prefix_same v.sent _ wr.1.sent;
          },
        );
      })
      (λ j y _ e apart. record {
        writes = (h.each j y e).writes;
        reads = λ p. absurd (apart (((h.each j y e).reads p).0 ∙ sym rd.0));
      }) in
      record {
        room = h.room;
        writer = h.writer;
        reader = pass;
        calls = h.calls;
        items = h.items;
        writing = h.writing;
        reading = h.reading;
        sized = h.sized;
        right = h.right;
        whole = h.whole;
        ordered = h.ordered;
        some_room = h.some_room;
        wide = h.wide;
        tail = h.tail;
        head = h.head;
        bounded = h.bounded;
        claimed = h.claimed;
        first = h.first;
        stored = h.stored;
        each = each_set (Fits h.writer pass h.calls h.writing h.reading) vs other spent
            (record { writes = λ p. no refl p; reads = λ p. no refl p })
            (λ j y apart e. now j y e apart);
      }
