-- For `delivers`. Which bytes went over once Data came or went, and how many, and what is so when a command is issued.
use Rattle.std.proofs.Common.{◌≡◌, ◌≢◌, ℕ, zero, suc, ◌+◌, ◌-◌, ◌*◌, ◌/◌, ◌%◌, ◌<◌, ◌≤◌, Bool, true, false, cond, eqb, List, ◌∷◌, length, refl, sym}
use Rattle.std.proofs.{Common.{ap, subst, ◌∙◌, inl, inr, Option, Some, None, arith, min}, lemmas.Bool.{cases_Bool, cases_eq, cases_lt, eq-eqb}}
use Rattle.std.proofs.lemmas.Bool.{ne_eqb, eqb-true, false≢true, and_parts, and_from, lt-ltb, le-leb, ltb-true, leb-true, le-ltb, lt-leb}
use Rattle.std.proofs.lemmas.{List.get_or_past, Option.{slice_get-get_or}}
use Rattle.std.specs.{Prelude.{MatchOption, is_some, ◌&&◌, ◌||◌, nat_le, nat_lt, slice_get, count_by}, List.range_with_len}
use Rattle.slots.specs.{Bytes.{any_over, came_of, is_over, is_within, none_over, with_bytes}, Data.{moved_on, moved_over}, Slots.{Issue, holds}}
use Rattle.slots.specs.{Slots.new_issue, declared.table.Context.Context}
use Rattle.slots.proofs.Door.{any_at, count_more, length_with_bytes, over_none, over_with_bytes}
use Rattle.hba_laws.specs.{Agreement.{Agrees, ContextAgrees, IssueAgrees, SetupAgrees, is_for, is_pio_issue}, History.{Carried, History, Issued}}
use Rattle.hba_laws.specs.History.{Setup, Transfer, bytes_of, filled, filled_from, is_at, is_set_up, last_setup, next_number, unless, waiting_in}
use Rattle.hba_laws.specs.Between.{at_slot}
use Rattle.hba_laws.proofs.histories.{StandLemmas.some_inj, AgreeLemmas.context_in, ViewLemmas.{at_other, at_same}}

-- ---- the set of bytes

or_true : (b : Bool) → (b || true) ≡ true
or_true true = refl
or_true false = refl

or_none : (b : Bool) → (b || false) ≡ b
or_none true = refl
or_none false = refl

-- a byte went over then where it is filled then
over_carried : (over : List Bool) (from : ℕ) (bytes : List ℕ) (old : ℕ → Option ℕ) (k : ℕ) → from % 4 ≡ 0 → length bytes % 4 ≡ 0 → from + length bytes ≤ 4 * length over
    → is_over over k ≡ is_some (old k) → is_over (with_bytes over from (length bytes)) k ≡ is_some (filled_from from bytes old k)
over_carried over from bytes old k f4 b4 fits same = elim (cases_lt k (4 * length over)) [
  | inl lt ↦ over_with_bytes over from (length bytes) k f4 b4 lt ∙ by_test (nat_le from k && nat_lt k (from + length bytes)) refl
  | inr ge ↦
      let long = length_with_bytes over from (length bytes) in
      let off : (nat_le from k && nat_lt k (from + length bytes)) ≡ false = ap (λ b. nat_le from k && b) (le-ltb k (from + length bytes) (omega arith)) ∙ no_and (nat_le from k) in
      get_or_past (with_bytes over from (length bytes)) (k / 4) false (omega arith)
      ∙ sym (get_or_past over (k / 4) false (omega arith)) ∙ same ∙ sym (ap (λ b. is_some (cond b (slice_get bytes (k - from)) (old k))) off)
]
  where
    no_and : (b : Bool) → (b && false) ≡ false
    no_and true = refl
    no_and false = refl

    by_test : (t : Bool) → (nat_le from k && nat_lt k (from + length bytes)) ≡ t → (is_over over k || t) ≡ is_some (cond t (slice_get bytes (k - from)) (old k))
    by_test true e =
        let p = and_parts (nat_le from k) (nat_lt k (from + length bytes)) e in
        let low = leb-true from k p.0 in
        let high = ltb-true k (from + length bytes) p.1 in
        or_true (is_over over k) ∙ sym (ap is_some (slice_get-get_or bytes (k - from) 0 (omega (arith, low, high))))
    by_test false e = or_none (is_over over k) ∙ same

abbrev tally : Bool → ℕ
tally b = cond b 1 0

-- numbers from one on are added to those that pass a test
count_add : (p q : ℕ → Bool) (from n m : ℕ) → ((b : ℕ) → b < m → q b ≡ (p b || is_within from n b)) → ((b : ℕ) → from ≤ b → b < from + n → p b ≡ false)
    → count_by q (range_with_len 0 m) + min m from ≡ count_by p (range_with_len 0 m) + min m (from + n)
count_add p q from n zero same fresh = omega arith
count_add p q from n (suc m) same fresh =
    let before = count_add p q from n m (λ b lt. same b (omega (arith, lt))) fresh in
    let one = count_more q m in
    let other = count_more p m in
    let is : q m ≡ (p m || is_within from n m) = same m (omega arith) in
    elim (cases_lt m from) [
      | inl low ↦
          let out : is_within from n m ≡ false = ap (λ b. b && nat_lt m (from + n)) (lt-leb from m low) in
          let e : tally (q m) ≡ tally (p m) = ap tally (is ∙ ap (λ b. p m || b) out ∙ or_none (p m)) in
          omega (arith, before, one, other, e, low)
      | inr high ↦ elim (cases_lt m (from + n)) [
        | inl lt ↦
            let inside : is_within from n m ≡ true = and_from (nat_le from m) (nat_lt m (from + n)) (le-leb from m high) (lt-ltb m (from + n) lt) in
            let e : tally (q m) ≡ 1 = ap tally (is ∙ ap (λ b. p m || b) inside ∙ or_true (p m)) in
            let z : tally (p m) ≡ 0 = ap tally (fresh m high lt) in
            omega (arith, before, one, other, e, z, high, lt)
        | inr past ↦
            let out : is_within from n m ≡ false = ap (λ b. nat_le from m && b) (le-ltb m (from + n) past) ∙ and_no (nat_le from m) in
            let e : tally (q m) ≡ tally (p m) = ap tally (is ∙ ap (λ b. p m || b) out ∙ or_none (p m)) in
            omega (arith, before, one, other, e, past)
      ]
    ]
  where
    and_no : (b : Bool) → (b && false) ≡ false
    and_no true = refl
    and_no false = refl

-- so many more came
came_carried : (over : List Bool) (from n left len : ℕ) → from % 4 ≡ 0 → n % 4 ≡ 0 → n ≤ left → from + left ≤ len → 4 * length over ≡ len → any_over over from left ≡ false
    → came_of (with_bytes over from n) len ≡ came_of over len + n
unfolding came_of
came_carried over from n left len f4 n4 some fits long none =
    let added = count_add (is_over over) (is_over (with_bytes over from n)) from n len (λ b lt. over_with_bytes over from n b f4 n4 (omega arith)) fresh in
    omega (arith, added)
  where
    fresh : (b : ℕ) → from ≤ b → b < from + n → is_over over b ≡ false
    fresh b low high = elim (cases_Bool (is_over over b)) [
      | inl went ↦
          let at : b ≡ from + (b - from) = omega arith in
          absurd (false≢true (sym none ∙ any_at over from left (b - from) (omega arith) (ap (is_over over) (sym at) ∙ went)))
      | inr none ↦ none
    ]

count_none : (p : ℕ → Bool) → ((b : ℕ) → p b ≡ false) → (n : ℕ) → count_by p (range_with_len 0 n) ≡ 0
count_none p none zero = refl
count_none p none (suc n) = count_more p n ∙ (let e : tally (p n) ≡ 0 = ap tally (none n) in omega (arith, count_none p none n, e))

came_new : (len : ℕ) → came_of (none_over len) len ≡ 0
unfolding came_of
came_new len = count_none (is_over (none_over len)) (over_none len) len

-- ---- the number of the next byte

pub next_is : (issues : ℕ → Option Issue) (c : Context) (ends : Option ℕ) (past : History) → ContextAgrees issues c ends past → next_number past ≡ c.next
next_is issues c ends past x = by_setup (last_setup past) refl x.of_setup
  where
    by_setup : (o : Option Setup) → last_setup past ≡ o → MatchOption o ⊥ (SetupAgrees c ends past) → next_number past ≡ c.next
    by_setup None e h = absurd h
    by_setup (Some g) e h = rw e h.next_is

-- ---- a command is issued in a free slot

-- a slot that waited no more waits once it is issued anew, and others do as before
gone_at : (slot : ℕ) (o : Option ℕ) → is_at slot (unless (is_at slot o) o) ≡ false
gone_at slot None = refl
gone_at slot (Some k) = by_test (eqb k slot) refl
  where
    by_test : (b : Bool) → eqb k slot ≡ b → is_at slot (unless b (Some k)) ≡ false
    by_test true e = refl
    by_test false e = e

kept_at : (slot k : ℕ) (o : Option ℕ) → k ≢ slot → is_at k (unless (is_at slot o) o) ≡ is_at k o
kept_at slot k None ne = refl
kept_at slot k (Some j) ne = by_test (eqb j slot) refl
  where
    by_test : (b : Bool) → eqb j slot ≡ b → is_at k (unless b (Some j)) ≡ eqb j k
    by_test false e = refl
    by_test true e = sym (ne_eqb j k (λ is. ne (sym is ∙ eqb-true j slot e)))

module _ (issues : ℕ → Option Issue) (context : Option Context) (ends : Option ℕ) (past : History) (a : Agrees issues context ends past) where
  -- no context is for a free slot
  not_for : (slot : ℕ) → issues slot ≡ None → is_for slot context ≡ false
  not_for slot free = by_case context refl
    where
      by_case : (o : Option Context) → context ≡ o → is_for slot o ≡ false
      by_case None e = refl
      by_case (Some c) e = ne_eqb c.slot slot (λ is. false≢true (sym (ap is_some free) ∙ ap (λ j. is_some (issues j)) (sym is) ∙ (a.context_agrees c e).of_issue))

  pub agrees_issued : (slot dev : ℕ) (t : Transfer) → issues slot ≡ None
      → Agrees (at_slot issues slot (Some (new_issue dev t.work))) context ends (Issued slot t ∷ past)
  agrees_issued slot dev t free =
      let new : Issue = new_issue dev t.work in
      record {
        issues_agree = λ k i e. elim (cases_eq k slot) [
          | inl is ↦
              let i_is : new ≡ i = some_inj new i (sym (at_same issues slot k (Some new) is) ∙ e) in
              let b : eqb slot k ≡ true = eq-eqb slot k (sym is) in
              subst (λ v. IssueAgrees k v context (Issued slot t ∷ past)) i_is (record {
                over_is = λ n. over_none t.work.len n ∙ sym (rw b refl);
                came_is = came_new t.work.len ∙ sym (rw b refl);
                waits_is = ap (λ j. is_at j (unless (is_at slot (waiting_in past)) (waiting_in past))) is ∙ gone_at slot (waiting_in past);
                set_up_is = rw b (sym (ap (λ j. is_for j context) is ∙ not_for slot free));
              })
          | inr ne ↦
              let x = a.issues_agree k i (sym (at_other issues slot k (Some new) ne) ∙ e) in
              let b : eqb slot k ≡ false = ne_eqb slot k (λ is. ne (sym is)) in
              record {
                over_is = λ n. x.over_is n ∙ sym (rw b refl);
                came_is = x.came_is ∙ sym (rw b refl);
                waits_is = kept_at slot k (waiting_in past) ne ∙ x.waits_is;
                set_up_is = rw b x.set_up_is;
              }
        ];
        context_agrees = λ c e.
            let other : c.slot ≢ slot = λ is. false≢true (sym (ap is_some free) ∙ ap (λ j. is_some (issues j)) (sym is) ∙ (a.context_agrees c e).of_issue) in
            context_in issues (at_slot issues slot (Some new)) c ends past (Issued slot t ∷ past) (at_other issues slot c.slot (Some new) other) refl refl (a.context_agrees c e);
      }

  -- ---- Data comes or goes

  moved_setup : (c : Context) (bytes : List ℕ) → length bytes ≤ c.left → MatchOption (last_setup past) ⊥ (SetupAgrees c ends past)
      → MatchOption (last_setup past) ⊥ (SetupAgrees (moved_on (length bytes) c) ends (Carried bytes ∷ past))
  moved_setup c bytes fits h = by_setup (last_setup past) h
    where
      by_setup : (o : Option Setup) → MatchOption o ⊥ (SetupAgrees c ends past) → MatchOption o ⊥ (SetupAgrees (moved_on (length bytes) c) ends (Carried bytes ∷ past))
      by_setup None h = h
      by_setup (Some g) h = record {
        slot_is = h.slot_is;
        way_is = h.way_is;
        next_is = omega (arith, h.next_is);
        left_is = omega (arith, h.left_is, fits);
        ends_is = h.ends_is;
      }

  pub agrees_carried : (c : Context) (j : Issue) (bytes : List ℕ) → context ≡ Some c → issues c.slot ≡ Some j → c.next % 4 ≡ 0 → length bytes % 4 ≡ 0 → length bytes ≤ c.left
      → c.next + c.left ≤ j.work.len → 4 * length j.over ≡ j.work.len → any_over j.over c.next c.left ≡ false
      → Agrees (at_slot issues c.slot (Some (moved_over c.next (length bytes) j))) (Some (moved_on (length bytes) c)) ends (Carried bytes ∷ past)
  agrees_carried c j bytes now here f4 b4 fits inside long fresh =
      let new : Issue = moved_over c.next (length bytes) j in
      let y = a.context_agrees c now in
      let number : next_number past ≡ c.next = next_is issues c ends past y in
      record {
        issues_agree = λ k i e. elim (cases_eq k c.slot) [
          | inl is ↦
              let i_is : new ≡ i = some_inj new i (sym (at_same issues c.slot k (Some new) is) ∙ e) in
              let x = a.issues_agree k j (ap issues is ∙ here) in
              let on : is_set_up k past ≡ true = x.set_up_is ∙ ap (is_for k) now ∙ eq-eqb c.slot k (sym is) in
              subst (λ v. IssueAgrees k v (Some (moved_on (length bytes) c)) (Carried bytes ∷ past)) i_is (record {
                over_is = λ n.
                    over_carried j.over c.next bytes (filled k past) n f4 b4 (omega (arith, fits, inside, long)) (x.over_is n)
                    ∙ ap (λ m. is_some (filled_from m bytes (filled k past) n)) (sym number)
                    ∙ ap (λ b. is_some (cond b (filled_from (next_number past) bytes (filled k past)) (filled k past) n)) (sym on);
                came_is =
                    came_carried j.over c.next (length bytes) c.left j.work.len f4 b4 fits inside long fresh
                    ∙ ap (λ n. n + length bytes) x.came_is ∙ ap (λ b. cond b (bytes_of k past + length bytes) (bytes_of k past)) (sym on);
                waits_is = x.waits_is;
                set_up_is = x.set_up_is ∙ ap (is_for k) now;
              })
          | inr ne ↦
              let x = a.issues_agree k i (sym (at_other issues c.slot k (Some new) ne) ∙ e) in
              let off : is_set_up k past ≡ false = x.set_up_is ∙ ap (is_for k) now ∙ ne_eqb c.slot k (λ is. ne (sym is)) in
              record {
                over_is = λ n. x.over_is n ∙ ap (λ b. is_some (cond b (filled_from (next_number past) bytes (filled k past)) (filled k past) n)) (sym off);
                came_is = x.came_is ∙ ap (λ b. cond b (bytes_of k past + length bytes) (bytes_of k past)) (sym off);
                waits_is = x.waits_is;
                set_up_is = x.set_up_is ∙ ap (is_for k) now;
              }
        ];
        context_agrees = λ d e. subst (λ v. ContextAgrees (at_slot issues c.slot (Some new)) v ends (Carried bytes ∷ past)) (some_inj (moved_on (length bytes) c) d e)
            (record {
              of_setup = moved_setup c bytes fits y.of_setup;
              of_issue = ap is_some (at_same issues c.slot c.slot (Some new) refl);
              of_kind = ap (holds is_pio_issue) (at_same issues c.slot c.slot (Some new) refl) ∙ sym (ap (holds is_pio_issue) here) ∙ y.of_kind;
            });
      }
