-- Each step keeps the rule of a link.
use Rattle.std.proofs.Common.{◌≡◌, ◌≢◌, ℕ, zero, suc, ◌+◌, ◌%◌, ◌<◌, ◌≤◌, Bool, true, false, true≢false, List, [], ◌∷◌, ◌++◌, length, map, replicate, set, get_or, sym, refl, ap, ◌∙◌, subst, ⊎_elim, append_assoc, append-nil, arith, le_refl, length-append, length-set, get_or-set_other, get_or-set_same, Option, Some, None}
use mathlib.Core.Option as maybe
use mathlib.Core.Option.{none, some, some-ne-none}
use mathlib.Core.Logic.{dite}
use native.Mathlib.Decide.{ℕ_discrete}
use lib.ListN.{get_elem?}
use Rattle.atomic_table.specs.Table.{State, step, Act, keeps, takes, gives, Valid, carried_after, stepped, opening, Allows, Splits, Joins}
use Rattle.atomic_table.proofs.Lists.{at_set, at_snoc, set_here}
use Rattle.ruled_links.specs.declared.rule.View.{View}
use Rattle.ruled_links.specs.Calls.{Calls, no_calls, then_sends, then_finds_full, then_takes, then_finds_empty, sent_by, taken_by, full_at, none_at, AreRight}
use Rattle.ruled_links.specs.Links.{IsWhole}
use Rattle.ruled_links.specs.Lists.{IsPrefixOf, Agree}
use Rattle.ruled_links.specs.Rule.{Sight, Homes, CanSend, CanTake, CanMeet, KnowsSent, KnowsTaken, Fits, IsFirst, AreStored, IsLinked, sender, taker, both, fresh, spent, found_full, found_empty, has_sent, has_taken, Claimed, Published, Fetched, Freed, Looked}
use Rattle.ruled_links.proofs.Prefixes.{prefix_same, prefix_more, prefix_length, agree}
use Rattle.ruled_links.proofs.Slots.{at_head, claimed, published, fetched, freed}

pub no : {A : Type 0} {b : Bool} → b ≡ false → b ≡ true → A
no f t = absurd (true≢false (sym t ∙ f))

module _ {T : Type 0} where
  abbrev pub Each : (ℕ → View T → Type 0) → List (View T) → Type 0
  Each F views = (pass : ℕ) (v : View T) → get_elem? views pass ≡ some v → F pass v

  -- a pass that comes last, and is not among those before
  pub last_place : (views : List (View T)) (a b : View T) (j : ℕ) → get_elem? views j ≢ some b
      → get_elem? (views ++ a ∷ []) j ≡ some b → j ≡ length views
  last_place [] a b zero n e = refl
  last_place [] a b (suc j) n e = absurd (some-ne-none b (sym e))
  last_place (x ∷ xs) a b zero n e = absurd (n e)
  last_place (x ∷ xs) a b (suc j) n e = ap suc (last_place xs a b j n e)

  -- one view changes
  pub each_set : (F : ℕ → View T → Type 0) (views : List (View T)) (pass : ℕ) (w : View T) → F pass w
      → ((j : ℕ) (u : View T) → j ≢ pass → get_elem? views j ≡ some u → F j u) → Each F (set views pass w)
  each_set F views pass w mine others j u e =
      ⊎_elim (λ (x : (j ≡ pass) × (w ≡ u)). subst (λ (y : ℕ × View T). F y.0 y.1) (λ i. (sym x.0 i, x.1 i)) mine)
      (λ (x : (j ≢ pass) × (get_elem? views j ≡ some u)). others j u x.0 x.1)
      (at_set views pass j w u e)

  first_stays : (reading : Option T) (items more : List T) → IsFirst reading items → IsFirst reading (items ++ more)
  first_stays None items more h = tt
  first_stays (Some x) items more h = (h.0 ++ more, ap (λ l. l ++ more) h.1)

module _ {T : Type 0} (in_order : List T → Type 0) where
  abbrev Rule : State (Option T) (View T) → Type 0
  Rule s = IsLinked in_order s

  module _ (s : State (Option T) (View T)) (r : Rule s) where
    -- the rule after a step on the word k
    linked : (k x id : ℕ) (w : View T) (homes : Homes T) (calls : Calls T) (items : List T) (writing : Bool) (reading : Option T)
        → length homes ≡ length s.homes → AreRight r.room calls → IsWhole (sent_by calls) (taken_by calls) items → in_order (sent_by calls)
        → get_or (set s.words k x) 16 0 ≡ length (sent_by calls) → get_or (set s.words k x) 32 0 ≡ length (taken_by calls)
        → length items ≤ r.room → (writing ≡ true → length items < r.room) → IsFirst reading items
        → AreStored r.room (sent_by calls) (taken_by calls) writing reading homes
        → Each (Fits r.writer r.reader calls writing reading) (set s.views id w)
        → Rule (record { words = set s.words k x; homes = homes; views = set s.views id w })
    linked k x id w homes calls items writing reading long right whole ordered tail head bounded claimed first stored each = record {
      room = r.room;
      writer = r.writer;
      reader = r.reader;
      calls = calls;
      items = items;
      writing = writing;
      reading = reading;
      sized = long ∙ r.sized;
      right = right;
      whole = whole;
      ordered = ordered;
      some_room = r.some_room;
      wide = length-set s.words k x ∙ r.wide;
      tail = tail;
      head = head;
      bounded = bounded;
      claimed = claimed;
      first = first;
      stored = stored;
      each = each;
    }

    sums : length (taken_by r.calls) + length r.items ≡ length (sent_by r.calls)
    sums = sym (length-append (taken_by r.calls) r.items) ∙ ap length r.whole

    -- the words after a store into the one and the other
    tail_stored : (x : ℕ) → get_or (set s.words 16 x) 16 0 ≡ x
    tail_stored x = get_or-set_same s.words 16 x 0 (omega (arith, r.wide))

    head_stored : (x : ℕ) → get_or (set s.words 32 x) 32 0 ≡ x
    head_stored x = get_or-set_same s.words 32 x 0 (omega (arith, r.wide))

    head_kept : (x : ℕ) → get_or (set s.words 16 x) 32 0 ≡ length (taken_by r.calls)
    head_kept x = get_or-set_other s.words 16 32 x 0 (λ e. omega arith) ∙ r.head

    tail_kept : (x : ℕ) → get_or (set s.words 32 x) 16 0 ≡ length (sent_by r.calls)
    tail_kept x = get_or-set_other s.words 32 16 x 0 (λ e. omega arith) ∙ r.tail

    module _ (id : ℕ) (v : View T) (at : get_elem? s.views id ≡ some v) (calls : Calls T) (w : View T) where
      -- the sending pass moves
      sender_moves : (writing : Bool) → v.sends ≡ true → w.takes ≡ false → taken_by calls ≡ taken_by r.calls → none_at calls ≡ none_at r.calls
          → ((l : List T) → IsPrefixOf l (sent_by r.calls) → IsPrefixOf l (sent_by calls)) → KnowsSent calls w writing
          → Each (Fits r.writer r.reader calls writing r.reading) (set s.views id w)
      sender_moves writing may idle taken absent more knows =
          let own = (r.each id v at).writes may in
          each_set (Fits r.writer r.reader calls writing r.reading) s.views id w
          (record { writes = λ _. (own.0, knows); reads = λ p. no idle p })
          (λ j u other e. record {
            writes = λ p. absurd (other (((r.each j u e).writes p).0 ∙ sym own.0));
            reads = λ p. let k = (r.each j u e).reads p in (
              k.0,
              record { taken = k.1.taken ∙ sym taken; none_at = k.1.none_at ∙ sym absent; reading = k.1.reading; sent = more u.sent k.1.sent },
            );
          })

      -- the taking pass moves
      taker_moves : (reading : Option T) → v.takes ≡ true → w.sends ≡ false → sent_by calls ≡ sent_by r.calls → full_at calls ≡ full_at r.calls
          → ((l : List T) → IsPrefixOf l (taken_by r.calls) → IsPrefixOf l (taken_by calls)) → KnowsTaken calls w reading
          → Each (Fits r.writer r.reader calls r.writing reading) (set s.views id w)
      taker_moves reading may idle sent full more knows =
          let own = (r.each id v at).reads may in
          each_set (Fits r.writer r.reader calls r.writing reading) s.views id w
          (record { writes = λ p. no idle p; reads = λ _. (own.0, knows) })
          (λ j u other e. record {
            writes = λ p. let k = (r.each j u e).writes p in (
              k.0,
              record { sent = k.1.sent ∙ sym sent; full_at = k.1.full_at ∙ sym full; writing = k.1.writing; taken = more u.taken k.1.taken },
            );
            reads = λ p. absurd (other (((r.each j u e).reads p).0 ∙ sym own.0));
          })

  abbrev Goes : State (Option T) (View T) → ℕ → ℕ → Sight T → (ℕ → Sight T → Type 0) → ℕ → Type 0
  Goes s k id me then x = (w : View T) × (a : Act (Option T)) × Valid s.homes me.1 a × Rule (stepped s k x id me.1 w a) × then (get_or s.words k 0) (w, carried_after me.1 a)

  -- the sender looks at the head
  pub claims : (n id : ℕ) (me : Sight T) → CanSend me.0 → Allows Rule n id me 32 (λ x. x) (Claimed (step n 32 0 0 none) me)
  claims n id me may s r size at _ =
      let v : View T = me.0 in
      let own = (r.each id v at).writes may.sends in
      let k = own.1 in
      let x : ℕ = get_or s.words 32 0 in
      let sums = sums s r in
      let long : length v.sent ≡ length (sent_by r.calls) = ap length k.sent in
      let behind : length v.taken ≤ x = let p = prefix_length v.taken (taken_by r.calls) k.taken in omega (arith, r.head) in
      let below : x ≤ length v.sent = omega (arith, r.head) in
      let head : get_or (set s.words 32 x) 32 0 ≡ length (taken_by r.calls) = head_stored s r x ∙ r.head in
      subst (λ (m : ℕ). Goes s 32 id me (Claimed (step m 32 0 0 none) me) x) (sym r.sized ∙ size)
      (dite (ℕ_discrete (length v.sent) (x + r.room))
      (λ full. (
        found_full v,
        keeps,
        tt,
        linked s r 32 x id (found_full v) s.homes (then_finds_full r.calls) r.items r.writing r.reading refl
            (r.right, (r.items, r.whole, omega (arith, r.head))) r.whole r.ordered (tail_kept s r x) head r.bounded r.claimed r.first r.stored
            (sender_moves s r id v at (then_finds_full r.calls) (found_full v) r.writing may.sends may.takes refl refl (λ l h. h) (record {
              sent = k.sent;
              full_at = λ i. k.full_at i ++ length (k.sent i) ∷ [];
              writing = k.writing;
              taken = k.taken;
            })),
        (behind, below, (λ _. refl), λ not. absurd (not full)),
      ))
      (λ not.
      let room : length r.items < r.room = let b = r.bounded in let n : length v.sent ≢ x + r.room = not in omega (arith, r.head) in
      let idle : r.writing ≡ false = sym k.writing ∙ may.writes in
      let stored = subst (λ b. AreStored r.room (sent_by r.calls) (taken_by r.calls) b r.reading s.homes) idle r.stored in
      let spot : ℕ = length (sent_by r.calls) % r.room in
      let w : View T = record v { writing = true } in
      let place : length v.sent % r.room ≡ spot = ap (λ (m : ℕ). m % r.room) long in (
        w,
        takes (length v.sent % r.room) None,
        ap (λ (m : ℕ). get_elem? s.homes m) place ∙ stored.free (length (sent_by r.calls)) (le_refl _) (omega arith) (λ _. refl),
        subst (λ (m : ℕ). Rule (record { words = set s.words 32 x; homes = set s.homes m none; views = set s.views id w })) (sym place)
            (linked s r 32 x id w (set s.homes spot none) r.calls r.items true r.reading (length-set s.homes spot none)
            r.right r.whole r.ordered (tail_kept s r x) head r.bounded (λ _. room) r.first
            (claimed r.room r.some_room (sent_by r.calls) (taken_by r.calls) s.homes r.sized stored (omega arith) (omega arith))
            (sender_moves s r id v at r.calls w true may.sends may.takes refl refl (λ l h. h) (record {
              sent = k.sent;
              full_at = k.full_at;
              writing = refl;
              taken = k.taken;
            }))),
        (behind, below, (λ full. absurd (not full)), λ _. refl),
      )))

  -- the sender gives the slot back, with the item
  pub publishes : (n id : ℕ) (v : View T) (x : T) (new : ℕ) → v.sends ≡ true → v.takes ≡ false → v.writing ≡ true → new ≡ length v.sent + 1
      → in_order (v.sent ++ x ∷ [])
      → Allows Rule n id (v, (length v.sent % n, Some x) ∷ []) 16 (λ _. new) (Published (step n 16 new 0 none) (v, (length v.sent % n, Some x) ∷ []))
  publishes n id v x new may idle out more o s r size at _ =
      let own = (r.each id v at).writes may in
      let k = own.1 in
      let sums = sums s r in
      let calls : Calls T = then_sends r.calls x in
      let same : v.sent ++ x ∷ [] ≡ sent_by calls = ap (λ l. l ++ x ∷ []) k.sent in
      let writes : r.writing ≡ true = sym k.writing ∙ out in
      let room = r.claimed writes in
      let spot : ℕ = length (sent_by r.calls) % r.room in
      let w : View T = has_sent v x in
      let place : length v.sent % n ≡ spot = (λ i. length (k.sent i) % (sym size ∙ r.sized) i) in
      let told : Published (step n 16 new 0 none) (v, (length v.sent % n, Some x) ∷ []) 0 (w, []) =
      λ j y is. let slots : Some x ≡ Some y = ap (λ (l : List (ℕ × Option T)). (get_or l 0 (0, None)).1) is in let same : x ≡ y = cc in ap (λ (z : T). (has_sent v z, [])) same in (
        w,
        gives,
        tt,
        subst (λ (m : ℕ). Rule (record { words = set s.words 16 new; homes = set s.homes m (some (Some x)); views = set s.views id w })) (sym place)
            (linked s r 16 new id w (set s.homes spot (some (Some x))) calls (r.items ++ x ∷ []) false r.reading (length-set s.homes spot (some (Some x)))
            (r.right, (r.items, r.whole, room))
            (sym (append_assoc (taken_by r.calls) r.items (x ∷ [])) ∙ ap (λ l. l ++ x ∷ []) r.whole) (subst in_order same o)
            (tail_stored s r new ∙ more ∙ sym (length-append v.sent (x ∷ [])) ∙ ap length same) (head_kept s r new)
            (omega (arith, length-append r.items (x ∷ []))) (λ p. absurd (true≢false (sym p))) (first_stays r.reading r.items (x ∷ []) r.first)
            (published r.room r.some_room (sent_by r.calls) (taken_by r.calls) s.homes r.sized x
            (subst (λ b. AreStored r.room (sent_by r.calls) (taken_by r.calls) b r.reading s.homes) writes r.stored) (omega arith) (omega arith))
            (sender_moves s r id v at calls w false may idle refl refl (λ l h. prefix_more l (sent_by r.calls) (x ∷ []) h) (record {
              sent = same;
              full_at = k.full_at;
              writing = refl;
              taken = k.taken;
            }))),
        told,
      )

  -- the taker looks at the tail
  pub fetches : ((front rest : List T) → in_order (front ++ rest) → in_order front) → (n id : ℕ) (me : Sight T) → CanTake me.0
      → Allows Rule n id me 16 (λ x. x) (Fetched in_order (step n 16 0 0 none) me)
  fetches prefixes n id me may s r size at _ = go r.items refl
    where
      v : View T
      v = me.0

      own : (id ≡ r.reader) × KnowsTaken r.calls v r.reading
      own = (r.each id v at).reads may.takes

      k : KnowsTaken r.calls v r.reading
      k = own.1

      x : ℕ
      x = get_or s.words 16 0

      long : length v.taken ≡ length (taken_by r.calls)
      long = ap length k.taken

      tail : get_or (set s.words 16 x) 16 0 ≡ length (sent_by r.calls)
      tail = tail_stored s r x ∙ r.tail

      go : (items : List T) → r.items ≡ items → Goes s 16 id me (Fetched in_order (step n 16 0 0 none) me) x
      go [] is =
          let sums = sums s r in
          let none_left : length r.items ≡ 0 = ap length is in
          let all : taken_by r.calls ≡ sent_by r.calls = sym (append-nil (taken_by r.calls)) ∙ ap (λ l. taken_by r.calls ++ l) (sym is) ∙ r.whole in (
            found_empty v,
            keeps,
            tt,
            linked s r 16 x id (found_empty v) s.homes (then_finds_empty r.calls) r.items r.writing r.reading refl
                (r.right, (r.items, r.whole, is)) r.whole r.ordered tail (head_kept s r x) r.bounded r.claimed r.first r.stored
                (taker_moves s r id v at (then_finds_empty r.calls) (found_empty v) r.reading may.takes may.sends refl refl (λ l h. h) (record {
                  taken = k.taken;
                  none_at = λ i. k.none_at i ++ length (k.taken i) ∷ [];
                  reading = k.reading;
                  sent = k.sent;
                })),
            ((λ _. (refl, (k.sent.0, k.sent.1 ∙ sym all ∙ sym k.taken))), λ not. absurd (not (omega (arith, r.tail, long, none_left, sums)))),
          )
      go (y ∷ rest) is =
          let sums = sums s r in
          let some_left : length r.items ≡ suc (length rest) = ap length is in
          let idle : r.reading ≡ None = sym k.reading ∙ may.reads in
          let stored = subst (λ b. AreStored r.room (sent_by r.calls) (taken_by r.calls) r.writing b s.homes) idle r.stored in
          let spot : ℕ = length (taken_by r.calls) % r.room in
          let w : View T = record v { reading = Some y } in
          let place : length v.taken % n ≡ spot = (λ i. length (k.taken i) % (sym size ∙ r.sized) i) in
          let whole : taken_by r.calls ++ y ∷ rest ≡ sent_by r.calls = ap (λ l. taken_by r.calls ++ l) (sym is) ∙ r.whole in
          let there : get_elem? (sent_by r.calls) (length (taken_by r.calls)) ≡ some y =
          ap (λ l. get_elem? l (length (taken_by r.calls))) (sym whole) ∙ at_head (taken_by r.calls) rest y in
          let same : taken_by r.calls ++ y ∷ [] ≡ v.taken ++ y ∷ [] = ap (λ l. l ++ y ∷ []) (sym k.taken) in
          let split : (taken_by r.calls ++ y ∷ []) ++ rest ≡ sent_by r.calls = append_assoc (taken_by r.calls) (y ∷ []) rest ∙ whole in (
            w,
            takes (length v.taken % n) (Some y),
            ap (λ (m : ℕ). get_elem? s.homes m) place ∙ stored.full (length (taken_by r.calls)) y (le_refl _) (λ _. refl) there,
            subst (λ (m : ℕ). Rule (record { words = set s.words 16 x; homes = set s.homes m none; views = set s.views id w })) (sym place)
                (linked s r 16 x id w (set s.homes spot none) r.calls r.items r.writing (Some y) (length-set s.homes spot none)
                r.right r.whole r.ordered tail (head_kept s r x) r.bounded r.claimed (rest, is)
                (fetched r.room r.some_room (sent_by r.calls) (taken_by r.calls) s.homes r.sized y stored (omega (arith, some_left, sums)) (omega (arith, r.bounded, sums)))
                (taker_moves s r id v at r.calls w (Some y) may.takes may.sends refl refl (λ l h. h) (record {
                  taken = k.taken;
                  none_at = k.none_at;
                  reading = refl;
                  sent = k.sent;
                }))),
            (
              (λ empty. absurd (omega (arith, r.tail, long, some_left, sums, empty))),
              λ _. record {
                item = y;
                seat = refl;
                ordered = subst in_order same (prefixes (taken_by r.calls ++ y ∷ []) rest (subst in_order (sym split) r.ordered));
                agree = subst (λ l. Agree v.sent l) same (agree v.sent (taken_by r.calls ++ y ∷ []) k.sent.0 rest (k.sent.1 ∙ sym split));
              },
            ),
          )

  -- the taker gives the slot back, without the item
  pub frees : (n id : ℕ) (v : View T) (x : T) (new : ℕ) → v.takes ≡ true → v.sends ≡ false → v.reading ≡ Some x → new ≡ length v.taken + 1
      → Allows Rule n id (v, (length v.taken % n, None) ∷ []) 32 (λ _. new) (Freed (step n 32 new 0 none) (v, (length v.taken % n, None) ∷ []))
  frees n id v x new may idle out more s r size at _ =
      let own = (r.each id v at).reads may in
      let k = own.1 in
      let sums = sums s r in
      let calls : Calls T = then_takes r.calls x in
      let same : v.taken ++ x ∷ [] ≡ taken_by calls = ap (λ l. l ++ x ∷ []) k.taken in
      let reads : r.reading ≡ Some x = sym k.reading ∙ out in
      let first : IsFirst (Some x) r.items = subst (λ (h : Option T). IsFirst h r.items) reads r.first in
      let rest : List T = first.0 in
      let less : length r.items ≡ suc (length rest) = ap length first.1 in
      let spot : ℕ = length (taken_by r.calls) % r.room in
      let w : View T = has_taken v x in
      let place : length v.taken % n ≡ spot = (λ i. length (k.taken i) % (sym size ∙ r.sized) i) in
      let bounded = r.bounded in
      let told : Freed (step n 32 new 0 none) (v, (length v.taken % n, None) ∷ []) 0 (w, []) =
      λ y is. let both : Some x ≡ Some y = sym out ∙ is in let same : x ≡ y = cc in ap (λ (z : T). (has_taken v z, [])) same in (
        w,
        gives,
        tt,
        subst (λ (m : ℕ). Rule (record { words = set s.words 32 new; homes = set s.homes m (some None); views = set s.views id w })) (sym place)
            (linked s r 32 new id w (set s.homes spot (some None)) calls rest r.writing None (length-set s.homes spot (some None))
            (r.right, (r.items, r.whole, (rest, first.1)))
            (append_assoc (taken_by r.calls) (x ∷ []) rest ∙ ap (λ l. taken_by r.calls ++ l) (sym first.1) ∙ r.whole) r.ordered
            (tail_kept s r new) (head_stored s r new ∙ more ∙ sym (length-append v.taken (x ∷ [])) ∙ ap length same)
            (omega arith) (λ p. omega arith) tt
            (freed r.room r.some_room (sent_by r.calls) (taken_by r.calls) s.homes r.sized x
            (subst (λ b. AreStored r.room (sent_by r.calls) (taken_by r.calls) r.writing b s.homes) reads r.stored) (omega arith) (omega arith))
            (taker_moves s r id v at calls w None may idle refl refl (λ l h. prefix_more l (taken_by r.calls) (x ∷ []) h) (record {
              taken = same;
              none_at = k.none_at;
              reading = refl;
              sent = k.sent;
            }))),
        told,
      )

  -- a look by both
  pub looks : (n id : ℕ) (me : Sight T) → CanMeet me.0 → Allows Rule n id me 16 (λ x. x) (Looked in_order (step n 16 0 0 none) me)
  looks n id me may s r size at _ =
      let v : View T = me.0 in
      let wr = ((r.each id v at).writes may.sends).1 in
      let rd = ((r.each id v at).reads may.takes).1 in
      let x : ℕ = get_or s.words 16 0 in
      subst (λ (m : ℕ). Goes s 16 id me (Looked in_order (step m 16 0 0 none) me) x) (sym r.sized ∙ size) (
        v,
        keeps,
        tt,
        linked s r 16 x id v s.homes r.calls r.items r.writing r.reading refl r.right r.whole r.ordered (tail_stored s r x ∙ r.tail)
            (head_kept s r x) r.bounded r.claimed r.first r.stored
            (each_set (Fits r.writer r.reader r.calls r.writing r.reading) s.views id v (r.each id v at) (λ j u other e. r.each j u e)),
        (
          refl,
          record {
            calls = r.calls;
            items = r.items;
            right = r.right;
            sent = sym wr.sent;
            taken = sym rd.taken;
            full_at = sym wr.full_at;
            none_at = sym rd.none_at;
            whole = ap (λ l. l ++ r.items) rd.taken ∙ r.whole ∙ sym wr.sent;
            bounded = r.bounded;
            ordered = subst in_order (sym wr.sent) r.ordered;
          },
        ),
      )
