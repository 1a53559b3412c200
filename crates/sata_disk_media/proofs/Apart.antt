-- Two commands that run and share a sector both read.
use Rattle.std.proofs.{Common.{◌≡◌, ◌≢◌, ℕ, ◌+◌, ◌<◌, ◌≤◌, true, false, Some, refl, sym, ap, ◌∙◌, arith, inl, inr, subst}, lemmas.Bool.cases_lt}
use Rattle.std.proofs.lemmas.Bool.{lt-ltb}
use Rattle.std.specs.Prelude.{Bool, not, ◌&&◌}
use Rattle.block_command.specs.{declared.command.Command.Command, Moments.{Moment, is_ended, runs}}
use Rattle.block_queue.specs.Line.{IsLine, Line, command_at, conflict, is_in_way, rank, share}
use Rattle.block_queue.proofs.Door.{of_or}

both : (x y : Bool) → x ≡ true → y ≡ true → (x && y) ≡ true
both true y e f = f
both false y e f = absurd (cc)

share_of : (a n b k s : ℕ) → a ≤ s → s < a + n → b ≤ s → s < b + k → share a n b k ≡ true
share_of a n b k s first last first' last' = both _ _ (lt-ltb a (b + k) (omega (arith, first, last'))) (lt-ltb b (a + n) (omega (arith, first', last)))

second_false : (x y : Bool) → (x && y) ≡ false → x ≡ true → y ≡ false
second_false true y e f = e
second_false false y e f = absurd (cc)

first_false : (x y : Bool) → (x && y) ≡ false → y ≡ true → x ≡ false
first_false false y e f = refl
first_false true y e f = absurd (let g = sym e ∙ f in cc)

abbrev Has : Command → ℕ → Type 0
Has c s = (c.lba ≤ s) × (s < c.lba + c.count)

no_writes : (c d : Command) (s : ℕ) → conflict c d ≡ false → Has c s → Has d s → (c.write ≡ false) × (d.write ≡ false)
no_writes c d s e h k = of_or _ _ (first_false _ _ e (share_of c.lba c.count d.lba d.count s h.0 h.1 k.0 k.1))

in_way_false : (c : Command) (m : Moment) → is_in_way c (Some m) ≡ false → is_ended m.stage ≡ false → conflict c m.command ≡ false
in_way_false c m e f = second_false _ _ e (ap not f)

first_clear : (l : Line) (p q : ℕ) (m k : Moment) → IsLine l → p < 33 → q < 33 → command_at l p ≡ Some m → command_at l q ≡ Some k
    → runs m.stage ≡ true → is_ended k.stage ≡ false → rank l q < rank l p → conflict m.command k.command ≡ false
first_clear l p q m k line low low' here there run alive less =
    in_way_false m.command k (subst (λ x. is_in_way m.command x ≡ false) there ((line.clear p m low here run).first q low' (lt-ltb _ _ less))) alive

pub record IsRunning (l : Line) (p : ℕ) (m : Moment) (s : ℕ) : Type 0 where
  pub low : p < 33
  pub here : command_at l p ≡ Some m
  pub runs : runs m.stage ≡ true
  pub alive : is_ended m.stage ≡ false
  pub first : m.command.lba ≤ s
  pub last : s < m.command.lba + m.command.count

by_both : (b : Bool) → b ≡ true → b ≡ false → ⊥
by_both b e f = cc

-- one that writes shares no sector with another
pub alone : (l : Line) (p q : ℕ) (m k : Moment) (s : ℕ) → IsLine l → IsRunning l p m s → IsRunning l q k s → p ≢ q → m.command.write ≡ true → ⊥
alone l p q m k s line a b apart write = elim (cases_lt (rank l q) (rank l p)) [
  | inl less ↦ by_both m.command.write write
      (no_writes m.command k.command s (first_clear l p q m k line a.low b.low a.here b.here a.runs b.alive less) (a.first, a.last) (b.first, b.last)).0
  | inr least ↦
      let other : rank l p ≢ rank l q = λ e. apart (line.own p q a.low b.low e) in
      let less : rank l p < rank l q = omega (arith, least, other) in
      by_both m.command.write write
      (no_writes k.command m.command s (first_clear l q p k m line b.low a.low b.here a.here b.runs a.alive less) (b.first, b.last) (a.first, a.last)).1
]
