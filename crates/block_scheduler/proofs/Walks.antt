-- What is held, summed over the places at which something stands.
use Rattle.std.proofs.Common.{◌≡◌, ℕ, zero, suc, ◌+◌, ◌*◌, ◌<◌, ◌≤◌, true, false, Some, None, refl, sym, ap, ◌∙◌, arith, inl, inr}
use Rattle.std.proofs.lemmas.Bool.{cases_eq, cases_lt}
use Rattle.std.specs.Prelude.{Option, Bool, is_some, not, ◌||◌, if◌then◌else◌}
use Rattle.block_command.specs.{declared.command.Stage.{Stage, TheVariants.Ended}, Moments.{Moment, is_ended, runs}}
use Rattle.block_disk.specs.Table.{is_under_way}
use Rattle.block_queue.specs.{declared.queue.Orphan.Orphan, Line.{Line, PassesNowhere, command_at, has_bit, orphan}, Places.{IsFirstIn, IsWatched}}
use Rattle.block_queue.specs.Places.{IsWithout}
use Rattle.block_queue.proofs.Door.{IsChecked, bare, checked_none}
use Rattle.block_scheduler.specs.Schedule.{held_at, held_below, held_by, held_for, held_of, is_busy}

-- ## Where nothing stands nothing is held, and nothing is busy

ended_runs : (stage : Stage) → not (is_ended stage) ≡ false → runs stage ≡ false
ended_runs Ended e = refl
ended_runs stage e = absurd (cc)

free_held : (x : Option Moment) → is_under_way x ≡ false → held_by x ≡ 0
free_held None e = refl
free_held (Some m) e = ap (λ b. if b then held_of m.command.count else 0) (ended_runs m.stage e)

spared_held : (o : Option Orphan) → is_some o ≡ false → held_for o ≡ 0
spared_held None e = refl
spared_held (Some o) e = absurd (cc)

bare_held : (l : Line) (set q : ℕ) → IsWatched l set → q < 33 → has_bit set q ≡ false → held_at l q ≡ 0
bare_held l set q watched low e =
    let b = bare l set q watched low e in
    let own = free_held (command_at l q) b.free in
    let dropped = spared_held (orphan l q) b.spared in omega (arith, own, dropped)

either_false : (a b : Bool) → a ≡ false → b ≡ false → (a || b) ≡ false
either_false false b e f = f
either_false true b e f = absurd (cc)

bare_quiet : (l : Line) (set q : ℕ) → IsWatched l set → q < 33 → has_bit set q ≡ false → is_busy l q ≡ false
bare_quiet l set q watched low e = let b = bare l set q watched low e in either_false _ _ b.free b.spared

pub quiet_none : (l : Line) (set : ℕ) → IsWatched l set → IsChecked (is_busy l) set 0
quiet_none l set watched = checked_none (is_busy l) set (λ q low e. bare_quiet l set q watched low e)

-- ## Sums over a set

-- of the places below n that are in the set
unfoldable pub held_among : Line → (set n : ℕ) → ℕ
held_among l set zero = 0
held_among l set (suc n) = (if has_bit set n then held_at l n else 0) + held_among l set n

all_case : (b : Bool) (x : ℕ) → (b ≡ false → x ≡ 0) → (if b then x else 0) ≡ x
all_case true x none = refl
all_case false x none = sym (none refl)

among_all : (l : Line) (set n : ℕ) → IsWatched l set → n ≤ 33 → held_among l set n ≡ held_below l n
unfolding held_among held_below
among_all l set zero watched low = refl
among_all l set (suc n) watched low =
    let before = among_all l set n watched (omega (arith, low)) in
    let here = all_case (has_bit set n) (held_at l n) (λ e. bare_held l set n watched (omega (arith, low)) e) in omega (arith, before, here)

among_none : (l : Line) (set n : ℕ) → PassesNowhere (has_bit set) → n ≤ 33 → held_among l set n ≡ 0
unfolding held_among
among_none l set zero none low = refl
among_none l set (suc n) none low =
    let before = among_none l set n none (omega (arith, low)) in
    let here = ap (λ b. if b then held_at l n else 0) (none n (omega (arith, low))) in omega (arith, before, here)

among_same : (l : Line) (rest less p n : ℕ) → IsWithout rest less p → n ≤ 33 → n ≤ p → held_among l less n ≡ held_among l rest n
unfolding held_among
among_same l rest less p zero without low under = refl
among_same l rest less p (suc n) without low under =
    let before = among_same l rest less p n without (omega (arith, low)) (omega (arith, under)) in
    let here = ap (λ b. if b then held_at l n else 0) (without.others n (omega (arith, low)) (λ e. omega (arith, e, under))) in
    omega (arith, before, here)

among_less : (l : Line) (rest less p n : ℕ) → IsFirstIn rest p → IsWithout rest less p → n ≤ 33 → p < n
    → held_among l rest n ≡ held_at l p + held_among l less n
unfolding held_among
among_less l rest less p zero first without low over = absurd (omega (arith, over))
among_less l rest less p (suc n) first without low over = elim (cases_eq n p) [
  | inl same ↦ (let before = among_same l rest less p n without (omega (arith, low)) (omega (arith, same)) in
      let was = ap (λ b. if b then held_at l n else 0) (ap (has_bit rest) same ∙ first.has) in
      let is = ap (λ b. if b then held_at l n else 0) (ap (has_bit less) same ∙ without.here) in
      let place = ap (held_at l) same in omega (arith, before, was, is, place))
  | inr apart ↦ (let before = among_less l rest less p n first without (omega (arith, low)) (omega (arith, over, apart)) in
      let here = ap (λ b. if b then held_at l n else 0) (without.others n (omega (arith, low)) apart) in omega (arith, before, here))
]

-- ## The walk

pub record IsSummed (l : Line) (held rest n : ℕ) : Type 0 where
  -- what was summed, and what is left to be
  pub sum : held + held_among l rest 33 ≡ held_below l 33
  pub most : held ≤ n * 2097152
  pub gone : (q : ℕ) → q < n → q < 33 → has_bit rest q ≡ false

pub summed_none : (l : Line) (set : ℕ) → IsWatched l set → IsSummed l 0 set 0
summed_none l set watched = record {
  sum = let all = among_all l set 33 watched (omega arith) in omega (arith, all);
  most = omega arith;
  gone = λ q low _. absurd (omega (arith, low));
}

pub summed_on : (l : Line) (held rest less n p more : ℕ) → IsSummed l held rest n → IsFirstIn rest p → IsWithout rest less p
    → more ≡ held_at l p → more ≤ 2097152 → IsSummed l (held + more) less (n + 1)
summed_on l held rest less n p more summed first without here small =
    let out = among_less l rest less p 33 first without (omega arith) first.below in
    let sum = summed.sum in
    let most = summed.most in
    record {
      sum = omega (arith, out, sum, here);
      most = omega (arith, most, small);
      gone = λ q low below. elim (cases_eq q p) [
        | inl same ↦ rw same without.here
        | inr apart ↦ without.others q below apart ∙ elim (cases_lt q p) [
          | inl lower ↦ first.before q lower
          | inr higher ↦ absurd (let e = summed.gone p (omega (arith, low, apart, higher)) first.below in let f = first.has in cc)
        ]
      ];
    }

pub summed_all : (l : Line) (held rest n : ℕ) → IsSummed l held rest n → PassesNowhere (has_bit rest) → held ≡ held_below l 33
summed_all l held rest n summed none =
    let sum = summed.sum in
    let left = among_none l rest 33 none (omega arith) in omega (arith, sum, left)

pub summed_end : (l : Line) (held rest n : ℕ) → 33 ≤ n → IsSummed l held rest n → held ≡ held_below l 33
summed_end l held rest n all summed = summed_all l held rest n summed (λ q low. summed.gone q (omega (arith, low, all)) low)
