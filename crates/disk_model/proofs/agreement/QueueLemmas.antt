-- For `answers_each_command_once`. Queues in which no tag occurs twice, and the answers that wait.
use Rattle.std.proofs.Common.{◌≡◌, ◌==◌, ◌||◌, eqb, ℕ, zero, suc, ◌<◌, ◌≤◌, Bool, true, false, List, [], ◌∷◌, ◌++◌, Option, Some, refl, ap, sym}
use Rattle.std.proofs.{Common.{subst, ◌∙◌, arith, cond}, lemmas.Bool.{eq-eqb, eqb-true, or_from, or_parts, Decides.nat_tests}}
use Rattle.std.proofs.lemmas.List.{Folds.{list_any-append}, append-nil, Elements.{filter_map-append}}
use Rattle.std.specs.Prelude.{filter, slice_get}
use Rattle.disk_model.specs.{declared.{request.Command.Command, answer.{Answer.Answer, Page.Page}}, Requests.IsCounted, Ledger.Reply, Between.AreTags}
use Rattle.disk_model.specs.Between.{IsIn, IsQueue, has_tag, page_of, pages_of, replies, reply_of}

eqb_other_way : (a b : ℕ) → eqb a b ≡ false → eqb b a ≡ false
eqb_other_way a b e = grind (arith, nat_tests)

has_tag-append : (tag : ℕ) (cs : List Command) (c : Command) → has_tag tag cs ≡ false → eqb c.tag tag ≡ false → has_tag tag (cs ++ c ∷ []) ≡ false
has_tag-append tag cs c none other = list_any-append (λ (q : Command). q.tag == tag) cs (c ∷ []) ∙ or_from _ _ none (or_from _ _ other refl)

pub IsQueue-append : (cs : List Command) (c : Command) → IsQueue cs → has_tag c.tag cs ≡ false → IsCounted c → c.tag < 32 → IsQueue (cs ++ c ∷ [])
IsQueue-append [] c queue none some tag = (some, tag, refl, tt)
IsQueue-append (q ∷ cs) c queue none some tag =
    let parts = or_parts (q.tag == c.tag) (has_tag c.tag cs) none in
    (queue.0, queue.1, has_tag-append q.tag cs c queue.2 (eqb_other_way q.tag c.tag parts.0), IsQueue-append cs c queue.3 parts.1 some tag)

has_tag-kept : (tag : ℕ) (q : Command) (b : Bool) (cs rest : List Command) → eqb q.tag tag ≡ false → has_tag tag rest ≡ false → has_tag tag (cond b (q ∷ rest) rest) ≡ false
has_tag-kept tag q true cs rest other none = or_from _ _ other none
has_tag-kept tag q false cs rest other none = none

has_tag-filter : (tag : ℕ) (p : Command → Bool) (cs : List Command) → has_tag tag cs ≡ false → has_tag tag (filter p cs) ≡ false
has_tag-filter tag p [] none = refl
has_tag-filter tag p (q ∷ cs) none =
    let parts = or_parts (q.tag == tag) (has_tag tag cs) none in
    has_tag-kept tag q (p q) cs (filter p cs) parts.0 (has_tag-filter tag p cs parts.1)

queue_kept : (q : Command) (b : Bool) (rest : List Command) → IsCounted q → q.tag < 32 → has_tag q.tag rest ≡ false → IsQueue rest → IsQueue (cond b (q ∷ rest) rest)
queue_kept q true rest some tag none queue = (some, tag, none, queue)
queue_kept q false rest some tag none queue = queue

pub IsQueue-filter : (p : Command → Bool) (cs : List Command) → IsQueue cs → IsQueue (filter p cs)
IsQueue-filter p [] queue = tt
IsQueue-filter p (q ∷ cs) queue = queue_kept q (p q) (filter p cs) queue.0 queue.1 (has_tag-filter q.tag p cs queue.2) (IsQueue-filter p cs queue.3)

find_here : (q c : Command) (b : Bool) (rest : Option Command) → b ≡ true → q ≡ c → cond b (Some q) rest ≡ Some c
find_here q c true rest here is = ap Some is
find_here q c false rest here is = cc here

or_true : (x y : Bool) → y ≡ true → (x || y) ≡ true
or_true true y e = refl
or_true false y e = e

has_at : (cs : List Command) (i : ℕ) (c : Command) → slice_get cs i ≡ Some c → has_tag c.tag cs ≡ true
has_at [] i c at = cc at
has_at (q ∷ cs) zero c at =
    let is : q ≡ c = cc at in
    let e : eqb q.tag c.tag ≡ true = eq-eqb q.tag c.tag (ap (λ (x : Command). x.tag) is) in
    rw e refl
has_at (q ∷ cs) (suc i) c at = let rest = has_at cs i c at in or_true (eqb q.tag c.tag) (has_tag c.tag cs) rest

differ : (q c : Command) (cs : List Command) (b : Bool) → eqb q.tag c.tag ≡ b → has_tag q.tag cs ≡ false → has_tag c.tag cs ≡ true → b ≡ false
differ q c cs true e none has =
    let same : q.tag ≡ c.tag = eqb-true q.tag c.tag e in
    let here : has_tag q.tag cs ≡ true = subst (λ t. has_tag t cs ≡ true) (sym same) has in
    cc (here, none)
differ q c cs false e none has = refl

pub is_in : (cs : List Command) (i : ℕ) (c : Command) → IsQueue cs → slice_get cs i ≡ Some c → IsIn cs c
is_in [] i c queue at = cc at
is_in (q ∷ cs) zero c queue at =
    let is : q ≡ c = cc at in
    let e : eqb q.tag c.tag ≡ true = eq-eqb q.tag c.tag (ap (λ (x : Command). x.tag) is) in
    record {
      some = subst (λ (x : Command). 0 < x.count) is queue.0.0;
      few = subst (λ (x : Command). x.count ≤ 65536) is queue.0.1;
      tag = subst (λ (x : Command). x.tag < 32) is queue.1;
      found = find_here q c (eqb q.tag c.tag) _ e is;
      has = has_at (q ∷ cs) zero c at;
    }
is_in (q ∷ cs) (suc i) c queue at =
    let rest = is_in cs i c queue.3 at in
    let other : eqb q.tag c.tag ≡ false = differ q c cs (eqb q.tag c.tag) refl queue.2 rest.has in
    record { some = rest.some; few = rest.few; tag = rest.tag; found = rw other rest.found; has = has_at (q ∷ cs) (suc i) c at }

-- ## Answers that wait

-- no more page
pub pages_same : (owed more : List Answer) → pages_of more ≡ [] → pages_of (owed ++ more) ≡ pages_of owed
pages_same owed more none = filter_map-append page_of owed more ∙ ap (λ (xs : List Page). pages_of owed ++ xs) none ∙ append-nil (pages_of owed)

-- one more reply
pub replies_more : (owed more : List Answer) (r : Reply) → replies more ≡ r ∷ [] → replies (owed ++ more) ≡ replies owed ++ r ∷ []
replies_more owed more r one = filter_map-append reply_of owed more ∙ ap (λ (xs : List Reply). replies owed ++ xs) one

-- no more reply
pub replies_same : (owed more : List Answer) → replies more ≡ [] → replies (owed ++ more) ≡ replies owed
replies_same owed more none = filter_map-append reply_of owed more ∙ ap (λ (xs : List Reply). replies owed ++ xs) none ∙ append-nil (replies owed)

pub AreTags-append : (xs : List ℕ) (t : ℕ) → AreTags xs → t < 32 → AreTags (xs ++ t ∷ [])
AreTags-append [] t tags small = (small, tt)
AreTags-append (x ∷ xs) t tags small = (tags.0, AreTags-append xs t tags.1 small)
