-- The rule of a restored disk: what fits is what every disk keeps.
use Rattle.std.proofs.{Common.{◌≡◌, ◌+◌, ◌<◌, true, false, List, refl, ap, Some, None, arith, inl, inr}, lemmas.Bool.{and_from, and_parts}}
use Rattle.std.proofs.lemmas.{Bool.{cases_Bool, le-leb, leb-true}, List.{Elements.{All-weaker}, Sums.{AllPass-from_list_all, list_all-from_AllPass}}}
use Rattle.std.specs.{Prelude.{Option, Bool, ℕ, not, ◌||◌, ◌&&◌, is_none, nat_le}, List.{All, list_all}}
use Rattle.block_command.specs.Moments.{Moment, part_lba}
use Rattle.block_queue.specs.Line.{any_below, command_at}
use Rattle.block_queue.proofs.Door.{any_found, any_none}
use Rattle.block_engine.specs.{declared.{aside.AsideStage.AsideStage, request.Range.Range}, Engine.{EngineState, line}}
use Rattle.block_engine.specs.declared.aside.AsideStage.TheVariants as stages
use Rattle.ata_front.specs.declared.task.Task.{Task, TheVariants.{Idle, Owes, Moves, Waits, Announces, Gives, Sends, Activates, Expects}}
use Rattle.sata_disk.specs.{State.{AreWithin, DiskState, IsBeside, IsDisk, IsWithin, LiesWithin, sectors_of}, Saved.{are_within, beside_fits, fits}}
use Rattle.sata_disk.specs.Saved.{is_at_rest, is_idle, is_past, is_past_at, is_within}

none_is : (o : Option ℕ) → is_none o ≡ true → o ≡ None
none_is None e = refl
none_is (Some n) e = absurd (cc)

rest_is : (s : AsideStage) → is_at_rest s ≡ true → s ≡ stages.Idle
rest_is stages.Idle e = refl
rest_is stages.Waiting e = absurd (cc)
rest_is (stages.Asked n) e = absurd (cc)
rest_is stages.Done e = absurd (cc)
rest_is stages.Failed e = absurd (cc)

idle_is : (t : Task) → is_idle t ≡ true → t ≡ Idle
idle_is Idle e = refl
idle_is t e = absurd (cc)

beside_is : (t : Task) (s : AsideStage) → beside_fits t s ≡ true → IsBeside t s
beside_is (Waits p) s e = tt
beside_is Idle s e = rest_is s e
beside_is (Owes r) s e = rest_is s e
beside_is (Moves m) s e = rest_is s e
beside_is (Announces p) s e = rest_is s e
beside_is (Gives p) s e = rest_is s e
beside_is (Sends p) s e = rest_is s e
beside_is (Activates n) s e = rest_is s e
beside_is (Expects n) s e = rest_is s e

at_rest : (s : AsideStage) → s ≡ stages.Idle → is_at_rest s ≡ true
at_rest s e = ap is_at_rest e

is_beside : (t : Task) (s : AsideStage) → IsBeside t s → beside_fits t s ≡ true
is_beside (Waits p) s is = refl
is_beside Idle s is = at_rest s is
is_beside (Owes r) s is = at_rest s is
is_beside (Moves m) s is = at_rest s is
is_beside (Announces p) s is = at_rest s is
is_beside (Gives p) s is = at_rest s is
is_beside (Sends p) s is = at_rest s is
is_beside (Activates n) s is = at_rest s is
is_beside (Expects n) s is = at_rest s is

reset_is : (b : Bool) (t : Task) → (not b || is_idle t) ≡ true → b ≡ true → t ≡ Idle
reset_is true t e on = idle_is t e
reset_is false t e on = absurd (cc)

is_reset : (b : Bool) (t : Task) → (b ≡ true → t ≡ Idle) → (not b || is_idle t) ≡ true
is_reset true t is = ap is_idle (is refl)
is_reset false t is = refl

-- ## Sectors

not_false : (b : Bool) → not b ≡ false → b ≡ true
not_false true e = refl
not_false false e = absurd (cc)

not_past : (n : ℕ) (x : Option Moment) → is_past n x ≡ false → LiesWithin n x
not_past n None e = tt
not_past n (Some m) e =
    let both = and_parts (nat_le (part_lba m) (m.command.lba + m.command.count)) (nat_le (m.command.lba + m.command.count) n) (not_false _ e) in
    let low = leb-true (part_lba m) (m.command.lba + m.command.count) both.0 in
    (omega (arith, low), leb-true (m.command.lba + m.command.count) n both.1)

past_not : (n : ℕ) (x : Option Moment) → LiesWithin n x → is_past n x ≡ false
past_not n None lies = refl
past_not n (Some m) lies =
    let ends = lies.0 in
    ap not (and_from (nat_le (part_lba m) (m.command.lba + m.command.count)) (nat_le (m.command.lba + m.command.count) n)
    (le-leb (part_lba m) (m.command.lba + m.command.count) (omega (arith, ends))) (le-leb (m.command.lba + m.command.count) n lies.1))

ranges_are : (n : ℕ) (rs : List Range) → list_all (is_within n) rs ≡ true → All (IsWithin n) rs
ranges_are n rs e = All-weaker (λ r. is_within n r ≡ true) (IsWithin n) (λ r pass'. leb-true (r.lba + r.count) n pass') rs (AllPass-from_list_all (is_within n) rs e)

are_ranges : (n : ℕ) (rs : List Range) → All (IsWithin n) rs → list_all (is_within n) rs ≡ true
are_ranges n rs lie = list_all-from_AllPass (is_within n) rs (All-weaker (IsWithin n) (λ r. is_within n r ≡ true) (λ r low. le-leb (r.lba + r.count) n low) rs lie)

not_true : (b : Bool) → not b ≡ true → b ≡ false
not_true true e = absurd (cc)
not_true false e = refl

none_past : (n : ℕ) (e : EngineState) → any_below (is_past_at n e) 33 ≡ false → (p : ℕ) → p < 33 → is_past n (command_at (line e) p) ≡ false
none_past n e none p low = elim (cases_Bool (is_past n (command_at (line e) p))) [
  | inl past ↦ absurd (let some = any_found (is_past_at n e) 33 p low past in cc)
  | inr lies ↦ lies
]

within_is : (n : ℕ) (e : EngineState) → are_within n e ≡ true → AreWithin n e
within_is n e within =
    let both = and_parts (not (any_below (is_past_at n e) 33)) (list_all (is_within n) e.ranges) within in
    record {
      commands = λ p low. not_past n (command_at (line e) p) (none_past n e (not_true _ both.0) p low);
      ranges = ranges_are n e.ranges both.1;
    }

is_within_all : (n : ℕ) (e : EngineState) → AreWithin n e → are_within n e ≡ true
is_within_all n e within = and_from (not (any_below (is_past_at n e) 33)) (list_all (is_within n) e.ranges)
    (ap not (any_none (is_past_at n e) 33 (λ p low. past_not n (command_at (line e) p) (within.commands p low)))) (are_ranges n e.ranges within.ranges)

pub fits_is : (d : DiskState) → fits d.profile d.front d.engine ≡ true → IsDisk d
fits_is d fit =
    let both = and_parts (is_none d.engine.schedule.fault && beside_fits d.front.task d.engine.stage)
    ((not d.front.in_reset || is_idle d.front.task) && are_within (sectors_of d) d.engine) fit in
    let front = and_parts (is_none d.engine.schedule.fault) (beside_fits d.front.task d.engine.stage) both.0 in
    let more = and_parts (not d.front.in_reset || is_idle d.front.task) (are_within (sectors_of d) d.engine) both.1 in
    record {
      fault = none_is d.engine.schedule.fault front.0;
      beside = beside_is d.front.task d.engine.stage front.1;
      reset = reset_is d.front.in_reset d.front.task more.0;
      within = within_is (sectors_of d) d.engine more.1;
    }

pub is_fits : (d : DiskState) → IsDisk d → fits d.profile d.front d.engine ≡ true
is_fits d is =
    and_from (is_none d.engine.schedule.fault && beside_fits d.front.task d.engine.stage)
    ((not d.front.in_reset || is_idle d.front.task) && are_within (sectors_of d) d.engine)
    (and_from (is_none d.engine.schedule.fault) (beside_fits d.front.task d.engine.stage)
    (ap is_none is.fault) (is_beside d.front.task d.engine.stage is.beside))
    (and_from (not d.front.in_reset || is_idle d.front.task) (are_within (sectors_of d) d.engine)
    (is_reset d.front.in_reset d.front.task is.reset) (is_within_all (sectors_of d) d.engine is.within))
