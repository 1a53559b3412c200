-- A disk has 33 places, and a command starts once, so 33 starts are all.
use Rattle.std.proofs.Common.{◌≡◌, ◌≢◌, ℕ, zero, suc, ◌+◌, ◌<◌, ◌≤◌, true, false, List, length, get_or, set, Some, None, refl, sym, ap, ◌∙◌, arith}
use Rattle.std.proofs.{Common.{inl, inr}, lemmas.{Bool.{cases_eq, cases_lt}, List.{get_or-set_same, get_or-set_other, get_or_past}}}
use Rattle.std.specs.{Prelude.{Option, Bool, is_none, ◌&&◌, if◌then◌else◌}, Option.option_map}
use Rattle.block_command.specs.declared.command.Stage.{Stage, TheVariants.{Waiting, Load, Loading, SetUpRead, Announce, Sending, SetUpWrite}}
use Rattle.block_command.specs.declared.command.Stage.TheVariants.{Activate, Receiving, Store, Storing, Flush, Flushing, End, Fail, Ended}
use Rattle.block_command.specs.{Moments.{Moment, gone, is_queued, turn_of}, Laws.{Goes, after}}
use Rattle.block_queue.specs.Line.{Line, command_at, may_start_at, starts}
use Rattle.block_engine.specs.Engine.{IsEngineStart, started}
use Rattle.sata_disk.specs.State.{DiskState, commands}
use Rattle.gefsunk.specs.Disks.{Starts, StartsAll, StartsBy, with_engine}

-- ## How many pass a test

abbrev pub bit : Bool → ℕ
bit true = 1
bit false = 0

unfoldable pub many : (ℕ → Bool) → ℕ → ℕ
many test zero = 0
many test (suc n) = many test n + bit (test n)

bit_most : (b : Bool) → bit b ≤ 1
bit_most true = omega arith
bit_most false = omega arith

many_most : (test : ℕ → Bool) (n : ℕ) → many test n ≤ n
unfolding many
many_most test zero = omega arith
many_most test (suc n) = omega (arith, many_most test n, bit_most (test n))

many_same : (test other : ℕ → Bool) (n : ℕ) → ((q : ℕ) → q < n → other q ≡ test q) → many other n ≡ many test n
unfolding many
many_same test other zero same = refl
many_same test other (suc n) same = omega (arith, many_same test other n (λ q low. same q (omega (arith, low))), ap bit (same n (omega arith)))

-- one fewer passes
many_less : (test other : ℕ → Bool) (n p : ℕ) → p < n → test p ≡ true → other p ≡ false → ((q : ℕ) → q ≢ p → other q ≡ test q)
    → many test n ≡ suc (many other n)
unfolding many
many_less test other zero p low was now same = absurd (omega (arith, low))
many_less test other (suc n) p low was now same = elim (cases_eq p n) [
  | inl here ↦ omega (
    arith,
    many_same test other n (λ q below. same q (λ is. omega (arith, below, is, here))),
    ap bit (ap test (sym here) ∙ was),
    ap bit (ap other (sym here) ∙ now),
  )
  | inr apart ↦ omega (arith, many_less test other n p (omega (arith, low, apart)) was now same, ap bit (same n (λ is. apart (sym is))))
]

bit_none : (b : Bool) → bit b ≡ 0 → b ≡ false
bit_none false e = refl
bit_none true e = absurd (omega (arith, e))

many_none : (test : ℕ → Bool) (n q : ℕ) → many test n ≡ 0 → q < n → test q ≡ false
unfolding many
many_none test zero q e low = absurd (omega (arith, low))
many_none test (suc n) q e low = elim (cases_eq q n) [
  | inl here ↦ ap test here ∙ bit_none (test n) (omega (arith, e))
  | inr apart ↦ many_none test n q (omega (arith, e)) (omega (arith, low, apart))
]

-- ## Who waits for a start

abbrev waits : Option Moment → Bool
waits None = false
waits (Some m) = starts (turn_of m.stage)

abbrev waits_at : List (Option Moment) → ℕ → Bool
waits_at places q = waits (get_or places q None)

abbrev places_of : DiskState → List (Option Moment)
places_of d = (commands d).queue.table.places

abbrev after_start : Option Moment → Option Moment
after_start o = option_map (λ m. after m Goes) o

first_of : (b c : Bool) → starts (turn_of (if b then (if c then SetUpWrite else Activate) else Load)) ≡ false
first_of true true = refl
first_of true false = refl
first_of false c = refl

gone_started : (m : Moment) (s : Stage) → starts (turn_of s) ≡ true → starts (turn_of (gone m s).stage) ≡ false
gone_started m Waiting e = first_of m.command.write (is_queued m.command.protocol)
gone_started m Load e = absurd (cc)
gone_started m Loading e = absurd (cc)
gone_started m SetUpRead e = absurd (cc)
gone_started m Announce e = absurd (cc)
gone_started m Sending e = absurd (cc)
gone_started m SetUpWrite e = absurd (cc)
gone_started m Activate e = absurd (cc)
gone_started m Receiving e = absurd (cc)
gone_started m Store e = absurd (cc)
gone_started m Storing e = absurd (cc)
gone_started m Flush e = absurd (cc)
gone_started m Flushing e = absurd (cc)
gone_started m End e = absurd (cc)
gone_started m Fail e = absurd (cc)
gone_started m Ended e = absurd (cc)

started_once : (o : Option Moment) → waits o ≡ true → waits (after_start o) ≡ false
started_once None e = absurd (cc)
started_once (Some m) e = gone_started m m.stage e

of_and : (a b : Bool) → (a && b) ≡ true → a ≡ true
of_and true b e = refl
of_and false b e = absurd (cc)

and_none : (a b : Bool) → a ≡ false → (a && b) ≡ false
and_none false b e = refl
and_none true b e = absurd (cc)

may_waits : (l : Line) (p : ℕ) (o : Option Moment) → may_start_at l p o ≡ true → waits o ≡ true
may_waits l p None e = absurd (cc)
may_waits l p (Some m) e = of_and _ _ e

may_none : (l : Line) (p : ℕ) (o : Option Moment) → waits o ≡ false → may_start_at l p o ≡ false
may_none l p None e = refl
may_none l p (Some m) e = and_none _ _ e

-- a place that waits is there
is_there : (places : List (Option Moment)) (p : ℕ) → waits_at places p ≡ true → p < length places
is_there places p e = elim (cases_lt p (length places)) [
  | inl low ↦ low
  | inr past ↦ absurd (let gone = sym e ∙ ap waits (get_or_past places p None past) in cc)
]

one_less : (places : List (Option Moment)) (p : ℕ) → p < 33 → waits_at places p ≡ true
    → many (waits_at places) 33 ≡ suc (many (waits_at (set places p (after_start (get_or places p None)))) 33)
one_less places p low e = many_less (waits_at places) (waits_at (set places p (after_start (get_or places p None)))) 33 p low e
    (ap waits (get_or-set_same places p (after_start (get_or places p None)) None (is_there places p e)) ∙ started_once (get_or places p None) e)
    (λ q apart. ap waits (get_or-set_other places p q (after_start (get_or places p None)) None apart))

-- ## A run of starts

-- so many started, and of 33 places no more wait than are left
pub record SoFar (old : DiskState) (n : ℕ) (now : DiskState) : Type 0 where
  pub starts : StartsBy n old now
  pub left : n + many (waits_at (places_of now)) 33 ≤ 33

pub none_yet : (d : DiskState) → SoFar d 0 d
unfolding StartsBy
none_yet d = record { starts = refl; left = omega (arith, many_most (waits_at (places_of d)) 33) }

started_more : (old now : DiskState) (n p : ℕ) → SoFar old n now → IsEngineStart now.engine (Some p)
    → SoFar old (suc n) (with_engine now (started now.engine (Some p)))
unfolding StartsBy
started_more old now n p so_far may = record {
  starts = record { middle = now; place = p; before = so_far.starts; next = may; is = refl };
  left = omega (arith, so_far.left, one_less (places_of now) p may.1.0.below (may_waits (commands now) p (command_at (commands now) p) may.1.0.passes));
}

pub one_more : (old now new : DiskState) (n : ℕ) (place : Option ℕ) → SoFar old n now → IsEngineStart now.engine place
    → is_none place ≡ false → new ≡ with_engine now (started now.engine place) → SoFar old (n + 1) new
one_more old now new n None so_far may some is = absurd (cc)
one_more old now new n (Some p) so_far may some is = let next : n + 1 ≡ suc n = omega arith in rw next (rw is (started_more old now n p so_far may))

pub all_started : (old now : DiskState) (n : ℕ) → SoFar old n now → 33 ≤ n → StartsAll old now
all_started old now n so_far last = record {
  starts = record { count = n; starts = so_far.starts };
  last = inr (inl (λ q low. may_none (commands now) q (command_at (commands now) q)
      (many_none (waits_at (places_of now)) 33 q (omega (arith, last, so_far.left)) low)));
}

pub none_left : (old now new : DiskState) (n : ℕ) (place : Option ℕ) → SoFar old n now → IsEngineStart now.engine place
    → is_none place ≡ true → new ≡ with_engine now (started now.engine place) → StartsAll old new
none_left old now new n None so_far may none is = rw is (record { starts = record { count = n; starts = so_far.starts }; last = may })
none_left old now new n (Some p) so_far may none is = absurd (cc)

pub some_started : (old now : DiskState) (n : ℕ) → SoFar old n now → Starts old now
some_started old now n so_far = record { count = n; starts = so_far.starts }
