-- For `close`: in no row of counts more was taken than sent.
use Rattle.std.proofs.Common.{◌≡◌, ℕ, zero, suc, ◌+◌, ◌≤◌, List, [], ◌∷◌, length, Some, None, Bool, true, false, refl, sym, ap, subst, ◌∙◌, inl, inr}
use Rattle.std.proofs.{Common.{length-append, arith}, lemmas.{Bool.cases_lt, List.{length-map, Elements.{filter-append}}}}
use Rattle.std.specs.{Prelude.{if◌then◌else◌}, Option.option_to_list}
use Rattle.fis_view.specs.Frames.{Stamped}
use Rattle.ruled_links.specs.Lists.{IsPrefixOf}
use Rattle.multiplier.specs.{Orders.{of_connection, of_port}, Passing.of_conn, State.rising}
use Rattle.pm_thread.specs.Passing.{risen}
use Rattle.pm_world.specs.declared.counts.ConnCount.{ConnCount}
use Rattle.disk_thread.specs.Runs.{StationState, all_told, has_come}
use Rattle.thread_counts.specs.Rows.{AreCounted, NoneAboveSent, given_at, told_at, row_for}
use Rattle.thread_counts.proofs.Door.{at_past}
use Rattle.pm_threads.specs.Ends.{EachArrives, sent_at}

sent_of_given : {D : Type 0} (disks : List (StationState D)) (n : ℕ) → IsPrefixOf (sent_at disks n) (given_at disks n)
sent_of_given [] n = ([], refl)
sent_of_given (s ∷ disks) zero = (option_to_list s.hand, refl)
sent_of_given (s ∷ disks) (suc n) = sent_of_given disks n

prefix_fewer : {T : Type 0} (xs ys : List T) → IsPrefixOf xs ys → length xs ≤ length ys
prefix_fewer xs ys h =
    let long : length xs + length h.0 ≡ length ys = sym (length-append xs h.0) ∙ ap length h.1 in
    omega (arith, long)

fewer_on : (c : ℕ) (xs ys : List Stamped) → IsPrefixOf xs ys → length (of_connection c xs) ≤ length (of_connection c ys)
fewer_on c xs ys h =
    prefix_fewer (of_connection c xs) (of_connection c ys) (of_connection c h.0, sym (filter-append _ xs h.0) ∙ ap (of_connection c) h.1)

none_some : {T : Type 0} (x : T) → None ≡ Some x → ⊥
none_some x e = cc

some_is : {T : Type 0} (x y : T) → Some x ≡ Some y → x ≡ y
some_is x y e = cc

false_true : false ≡ true → ⊥
false_true e = cc

pub none_above : {D : Type 0} (disks : List (StationState D)) (taken : List Stamped) (rows : List ConnCount) → length disks ≤ 15 → AreCounted rows disks taken
    → EachArrives disks taken → NoneAboveSent rows
none_above disks taken rows few counted arrives n c r is = by (has_come c (told_at disks n)) refl
  where
    by : (b : Bool) → has_come c (told_at disks n) ≡ b → r.taken ≤ r.sent
    by false e =
        absurd (none_some r (ap (λ x. if x then Some (row_for (given_at disks n) taken n c) else None) (sym e) ∙ sym (counted.each n c) ∙ is))
    by true e = elim (cases_lt n (length disks)) [
      | inl lt ↦
          let row : r ≡ row_for (given_at disks n) taken n c =
          some_is r (row_for (given_at disks n) taken n c)
          (sym is ∙ counted.each n c ∙ ap (λ x. if x then Some (row_for (given_at disks n) taken n c) else None) e) in
          let met = prefix_fewer (of_conn n c taken) (risen n c (sent_at disks n)) (arrives n c (omega (arith, lt, few))) in
          let long = length-map (of_connection c (sent_at disks n)) (rising n) in
          let fewer = fewer_on c (sent_at disks n) (given_at disks n) (sent_of_given disks n) in
          let all : length (of_port n c taken) ≤ length (of_connection c (given_at disks n)) = omega (arith, met, long, fewer) in
          subst (λ (x : ConnCount). x.taken ≤ x.sent) (sym row) all
      | inr le ↦ absurd (let none : told_at disks n ≡ [] = at_past all_told disks n (omega (arith, le)) in false_true (sym (ap (has_come c) none) ∙ e))
    ]
