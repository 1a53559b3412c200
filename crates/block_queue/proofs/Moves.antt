-- Commands never wait for each other in a circle, since they wait only for those that were taken before them.
use Rattle.std.proofs.Common.{◌∙◌, ◌≡◌, ◌≢◌, ℕ, zero, suc, ◌-◌, ◌<◌, true, false, get_or, Some, None, refl, sym, ap, arith, inl, inr, ◌⊎◌, subst}
use Rattle.std.proofs.lemmas.Bool.{lt-ltb, ltb-true, ltb-false}
use Rattle.std.specs.Prelude.{Option, Bool, is_none, not, ◌||◌, ◌&&◌, nat_lt, if◌then◌else◌}
use Rattle.block_command.specs.declared.command.{Command.Command, Stage.{Stage, TheVariants.{Waiting, Load, Loading, Announce, Sending, Activate}}}
use Rattle.block_command.specs.{declared.command.Stage.TheVariants.{Receiving, Store, Storing, Flush, Flushing, Ended}, Moments.{Moment, is_ended}}
use Rattle.block_command.specs.Moments.{is_queued, is_set_up, runs, turn_of}
use Rattle.block_disk.specs.{Table.{has_wire, is_under_way, wants_wire}, Requests.{is_fis, is_request}}
use Rattle.block_queue.specs.Line.{Line, IsLine, PassesNowhere, any_below, bars, command_at, is_before, is_in_way, may_start, may_start_at}
use Rattle.block_queue.specs.{Line.{moved_back, orphan, rank, starts, waits_for}, declared.queue.Orphan.Orphan, Deeds.{Goes, MovesAt, MayStart}}
use Rattle.block_queue.specs.Deeds.{MaySend, MayAsk, CallerOwes, HostOwes, StoreOwed, Moves, SomethingMoves, IsLast, TakenIsLast, waits_for_caller}
use Rattle.block_queue.specs.Deeds.{waits_for_host}
use Rattle.block_queue.proofs.Kept.{any_at, before_taken, of_and, rank_below, rank_other, rank_same}

-- ## Some number that passes

record Which (test : ℕ → Bool) (n : ℕ) : Type 0 where
  pub number : ℕ
  pub below : number < n
  pub passes : test number ≡ true

which_case : (test : ℕ → Bool) (n : ℕ) (b : Bool) → test n ≡ b → (any_below test n ≡ true → Which test n) → (b || any_below test n) ≡ true
    → Which test (suc n)
which_case test n true e before some = record { number = n; below = omega arith; passes = e }
which_case test n false e before some = let w = before some in record { number = w.number; below = (let low = w.below in omega (arith, low)); passes = w.passes }

which : (test : ℕ → Bool) (n : ℕ) → any_below test n ≡ true → Which test n
unfolding any_below
which test zero e = absurd (cc)
which test (suc n) e = which_case test n _ refl (which test n) e

-- ## The command under way that was taken first

record First (l : Line) : Type 0 where
  pub place : ℕ
  pub below : place < 33
  pub alive : is_under_way (command_at l place) ≡ true
  pub alone : (q : ℕ) → q < 33 → is_before l.ranks q place ≡ true → is_under_way (command_at l q) ≡ false

second_false : (x y : Bool) → (x && y) ≡ false → x ≡ true → y ≡ false
second_false true y e f = e
second_false false y e f = absurd (cc)

is_earlier : Line → ℕ → ℕ → Bool
is_earlier l p q = is_before l.ranks q p && is_under_way (command_at l q)

first_case : (l : Line) (p : ℕ) (b : Bool) → any_below (is_earlier l p) 33 ≡ b → p < 33 → is_under_way (command_at l p) ≡ true
    → ((q : ℕ) → q < 33 → is_under_way (command_at l q) ≡ true → rank l q < rank l p → First l) → First l
unfolding is_earlier
first_case l p false e low alive before = record {
  place = p;
  below = low;
  alive = alive;
  alone = λ q low' f. second_false _ _ (any_at (is_earlier l p) 33 q e low') f;
}
first_case l p true e low alive before =
    let w = which (is_earlier l p) 33 e in
    let both = of_and _ _ w.passes in
    before w.number w.below both.1 (ltb-true _ _ both.0)

first_of : (n : ℕ) (l : Line) (p : ℕ) → p < 33 → is_under_way (command_at l p) ≡ true → rank l p < n → First l
first_of zero l p low alive less = absurd (omega (arith, less))
first_of (suc n) l p low alive less = first_case l p _ refl low alive
    (λ q low' alive' less'. first_of n l q low' alive' (omega (arith, less, less')))

-- ## It moves, or somebody owes something

both_true : (x y : Bool) → x ≡ true → y ≡ true → (x && y) ≡ true
both_true true y e f = f
both_true false y e f = absurd (cc)

moves_at : (l : Line) (p : ℕ) → p < 33 → MovesAt l p → Moves l
moves_at l p low m = record { place = p; below = low; moves = m }

may_sent : (wants : Bool) (w : Option ℕ) → (wants ≡ false) ⊎ (w ≡ None) → (not wants || is_none w) ≡ true
may_sent true w (inl e) = absurd (cc)
may_sent false w (inl e) = refl
may_sent true w (inr e) = ap is_none e
may_sent false w (inr e) = refl

sends : (l : Line) (p : ℕ) (m : Moment) → p < 33 → command_at l p ≡ Some m → is_fis (turn_of m.stage) ≡ true
    → (wants_wire (turn_of m.stage) ≡ false) ⊎ (l.queue.table.wire ≡ None) → Moves l
sends l p m low here fis free = moves_at l p low (MaySend (rw here (both_true _ _ fis (may_sent _ _ free))))

asks_now : (l : Line) (p : ℕ) (m : Moment) → p < 33 → command_at l p ≡ Some m → is_request (turn_of m.stage) ≡ true → Moves l
asks_now l p m low here e = moves_at l p low (MayAsk (rw here e))

caller_owes : (l : Line) (p : ℕ) (m : Moment) → p < 33 → command_at l p ≡ Some m → waits_for_caller m.stage ≡ true → Moves l
caller_owes l p m low here e = moves_at l p low (CallerOwes m here e)

-- the one that has the wire moves
set_up_at : (m : Moment) (stage : Stage) → m.stage ≡ stage → (is_queued m.command.protocol && is_set_up m m.stage) ≡ true → is_set_up m stage ≡ true
set_up_at m stage is e = subst (λ s. is_set_up m s ≡ true) is (of_and _ _ e).1

holder : (l : Line) (p : ℕ) (m : Moment) (stage : Stage) → IsLine l → p < 33 → command_at l p ≡ Some m → m.stage ≡ stage
    → is_set_up m stage ≡ true → Moves l
holder l p m Waiting line low here is up =
    absurd (let f = line.fresh p m low here (ap (λ s. starts (turn_of s)) is) in let g = ap (nat_lt 0) f in cc)
holder l p m Load line low here is up = asks_now l p m low here (ap (λ s. is_request (turn_of s)) is)
holder l p m Loading line low here is up = caller_owes l p m low here (ap waits_for_caller is)
holder l p m Announce line low here is up = sends l p m low here (ap (λ s. is_fis (turn_of s)) is) (inl (ap (λ s. wants_wire (turn_of s)) is))
holder l p m Sending line low here is up = sends l p m low here (ap (λ s. is_fis (turn_of s)) is) (inl (ap (λ s. wants_wire (turn_of s)) is))
holder l p m Activate line low here is up = sends l p m low here (ap (λ s. is_fis (turn_of s)) is) (inl (ap (λ s. wants_wire (turn_of s)) is))
holder l p m Receiving line low here is up = moves_at l p low (HostOwes m here (ap waits_for_host is))
holder l p m Store line low here is up = asks_now l p m low here (ap (λ s. is_request (turn_of s)) is)
holder l p m Storing line low here is up = caller_owes l p m low here (ap waits_for_caller is)
holder l p m stage line low here is up = absurd (cc)

held : (l : Line) (p : ℕ) (x : Option Moment) → IsLine l → p < 33 → command_at l p ≡ x → has_wire x ≡ true → Moves l
held l p None line low here e = absurd (cc)
held l p (Some m) line low here e = holder l p m m.stage line low here refl (of_and _ _ e).1

wants : (l : Line) (p : ℕ) (m : Moment) (w : Option ℕ) → IsLine l → p < 33 → command_at l p ≡ Some m → is_fis (turn_of m.stage) ≡ true
    → l.queue.table.wire ≡ w → Moves l
wants l p m None line low here fis e = sends l p m low here fis (inr e)
wants l p m (Some h) line low here fis e = let wired = line.wired h e in held l h (command_at l h) line wired.0 refl wired.1

-- the first that waits for its start waits for dropped stores alone
store_owed : (l : Line) (q : ℕ) (c : Command) (o : Option Orphan) → q < 33 → orphan l q ≡ o → bars c o ≡ true → Moves l
store_owed l q c None low here e = absurd (cc)
store_owed l q c (Some o) low here e = moves_at l q low (StoreOwed (rw here refl))

not_in_way : (c : Command) (x : Option Moment) → is_under_way x ≡ false → is_in_way c x ≡ false
not_in_way c None e = refl
not_in_way c (Some m) e = rw e refl

barred : (before way bar : Bool) → ((before && way) || bar) ≡ true → (before ≡ true → way ≡ false) → bar ≡ true
barred true true bar e f = absurd (let g = f refl in cc)
barred true false bar e f = e
barred false way bar e f = e

waits_case : (l : Line) (p : ℕ) (m : Moment) (b : Bool) → p < 33 → command_at l p ≡ Some m → starts (turn_of m.stage) ≡ true
    → ((q : ℕ) → q < 33 → is_before l.ranks q p ≡ true → is_under_way (command_at l q) ≡ false)
    → is_none (orphan l p) ≡ true → any_below (waits_for l m.command p) 33 ≡ b → Moves l
waits_case l p m false low here start alone free e =
    moves_at l p low (MayStart (rw here (both_true _ _ start (both_true _ _ free (ap not e)))))
waits_case l p m true low here start alone free e =
    let w = which (waits_for l m.command p) 33 e in
    store_owed l w.number m.command (orphan l w.number) w.below refl
    (barred _ _ _ w.passes (λ f. not_in_way m.command (command_at l w.number) (alone w.number w.below f)))

waits : (l : Line) (p : ℕ) (m : Moment) (b : Bool) → p < 33 → command_at l p ≡ Some m → starts (turn_of m.stage) ≡ true
    → ((q : ℕ) → q < 33 → is_before l.ranks q p ≡ true → is_under_way (command_at l q) ≡ false)
    → is_none (orphan l p) ≡ b → Moves l
waits l p m true low here start alone e = waits_case l p m _ low here start alone e refl
waits l p m false low here start alone e = moves_at l p low (StoreOwed e)

first_moves : (l : Line) (p : ℕ) (m : Moment) (stage : Stage) → IsLine l → p < 33 → command_at l p ≡ Some m
    → ((q : ℕ) → q < 33 → is_before l.ranks q p ≡ true → is_under_way (command_at l q) ≡ false)
    → m.stage ≡ stage → not (is_ended stage) ≡ true → Moves l
first_moves l p m Waiting line low here alone is alive = waits l p m _ low here (ap (λ s. starts (turn_of s)) is) alone refl
first_moves l p m Load line low here alone is alive = asks_now l p m low here (ap (λ s. is_request (turn_of s)) is)
first_moves l p m Loading line low here alone is alive = caller_owes l p m low here (ap waits_for_caller is)
first_moves l p m Receiving line low here alone is alive = moves_at l p low (HostOwes m here (ap waits_for_host is))
first_moves l p m Store line low here alone is alive = asks_now l p m low here (ap (λ s. is_request (turn_of s)) is)
first_moves l p m Storing line low here alone is alive = caller_owes l p m low here (ap waits_for_caller is)
first_moves l p m Flush line low here alone is alive = asks_now l p m low here (ap (λ s. is_request (turn_of s)) is)
first_moves l p m Flushing line low here alone is alive = caller_owes l p m low here (ap waits_for_caller is)
first_moves l p m Ended line low here alone is alive = absurd (cc)
first_moves l p m stage line low here alone is alive = wants l p m _ line low here (ap (λ s. is_fis (turn_of s)) is) refl

some_moves : (l : Line) (p : ℕ) (x : Option Moment) → IsLine l → p < 33 → command_at l p ≡ x
    → ((q : ℕ) → q < 33 → is_before l.ranks q p ≡ true → is_under_way (command_at l q) ≡ false)
    → is_under_way x ≡ true → Moves l
some_moves l p None line low here alone alive = absurd (cc)
some_moves l p (Some m) line low here alone alive = first_moves l p m m.stage line low here alone refl alive

pub something_moves : SomethingMoves
something_moves l p line low alive =
    let f = first_of 33 l p low alive (line.below p low) in
    some_moves l f.place (command_at l f.place) line f.below refl f.alone f.alive

-- ## Something moves that is no start

first_false : (x y : Bool) → x ≡ false → (x && y) ≡ false
first_false false y e = refl
first_false true y e = absurd (cc)

middle_false : (x y z : Bool) → y ≡ false → (x && (y && z)) ≡ false
middle_false false y z e = refl
middle_false true false z e = refl
middle_false true true z e = absurd (cc)

not_started : (l : Line) (p : ℕ) (m : Moment) → starts (turn_of m.stage) ≡ false → may_start_at l p (Some m) ≡ false
not_started l p m e = first_false _ _ e

goes_at : (l : Line) (p : ℕ) (m : Moment) → p < 33 → command_at l p ≡ Some m → starts (turn_of m.stage) ≡ false → MovesAt l p → Goes l
goes_at l p m low here start moves = record {
  place = p;
  below = low;
  moves = moves;
  started = ap (may_start_at l p) here ∙ not_started l p m start;
}

asks_goes : (l : Line) (p : ℕ) (m : Moment) → p < 33 → command_at l p ≡ Some m → starts (turn_of m.stage) ≡ false
    → is_request (turn_of m.stage) ≡ true → Goes l
asks_goes l p m low here start e = goes_at l p m low here start (MayAsk (rw here e))

owes_goes : (l : Line) (p : ℕ) (m : Moment) → p < 33 → command_at l p ≡ Some m → starts (turn_of m.stage) ≡ false
    → waits_for_caller m.stage ≡ true → Goes l
owes_goes l p m low here start e = goes_at l p m low here start (CallerOwes m here e)

sends_goes : (l : Line) (p : ℕ) (m : Moment) → p < 33 → command_at l p ≡ Some m → starts (turn_of m.stage) ≡ false
    → is_fis (turn_of m.stage) ≡ true → (wants_wire (turn_of m.stage) ≡ false) ⊎ (l.queue.table.wire ≡ None) → Goes l
sends_goes l p m low here start fis free = goes_at l p m low here start (MaySend (rw here (both_true _ _ fis (may_sent _ _ free))))

abbrev starts_in : Stage → Bool
starts_in s = starts (turn_of s)

holder_goes : (l : Line) (p : ℕ) (m : Moment) (stage : Stage) → IsLine l → p < 33 → command_at l p ≡ Some m → m.stage ≡ stage
    → is_set_up m stage ≡ true → Goes l
holder_goes l p m Waiting line low here is up =
    absurd (let f = line.fresh p m low here (ap (λ s. starts (turn_of s)) is) in let g = ap (nat_lt 0) f in cc)
holder_goes l p m Load line low here is up = asks_goes l p m low here (ap starts_in is) (ap (λ s. is_request (turn_of s)) is)
holder_goes l p m Loading line low here is up = owes_goes l p m low here (ap starts_in is) (ap waits_for_caller is)
holder_goes l p m Announce line low here is up =
    sends_goes l p m low here (ap starts_in is) (ap (λ s. is_fis (turn_of s)) is) (inl (ap (λ s. wants_wire (turn_of s)) is))
holder_goes l p m Sending line low here is up =
    sends_goes l p m low here (ap starts_in is) (ap (λ s. is_fis (turn_of s)) is) (inl (ap (λ s. wants_wire (turn_of s)) is))
holder_goes l p m Activate line low here is up =
    sends_goes l p m low here (ap starts_in is) (ap (λ s. is_fis (turn_of s)) is) (inl (ap (λ s. wants_wire (turn_of s)) is))
holder_goes l p m Receiving line low here is up = goes_at l p m low here (ap starts_in is) (HostOwes m here (ap waits_for_host is))
holder_goes l p m Store line low here is up = asks_goes l p m low here (ap starts_in is) (ap (λ s. is_request (turn_of s)) is)
holder_goes l p m Storing line low here is up = owes_goes l p m low here (ap starts_in is) (ap waits_for_caller is)
holder_goes l p m stage line low here is up = absurd (cc)

held_goes : (l : Line) (p : ℕ) (x : Option Moment) → IsLine l → p < 33 → command_at l p ≡ x → has_wire x ≡ true → Goes l
held_goes l p None line low here e = absurd (cc)
held_goes l p (Some m) line low here e = holder_goes l p m m.stage line low here refl (of_and _ _ e).1

fis_goes : (l : Line) (p : ℕ) (m : Moment) (w : Option ℕ) → IsLine l → p < 33 → command_at l p ≡ Some m → starts (turn_of m.stage) ≡ false
    → is_fis (turn_of m.stage) ≡ true → l.queue.table.wire ≡ w → Goes l
fis_goes l p m None line low here start fis e = sends_goes l p m low here start fis (inr e)
fis_goes l p m (Some h) line low here start fis e = let wired = line.wired h e in held_goes l h (command_at l h) line wired.0 refl wired.1

stage_goes : (l : Line) (p : ℕ) (m : Moment) (stage : Stage) → IsLine l → p < 33 → command_at l p ≡ Some m → m.stage ≡ stage
    → runs stage ≡ true → Goes l
stage_goes l p m Waiting line low here is run = absurd (cc)
stage_goes l p m Ended line low here is run = absurd (cc)
stage_goes l p m Load line low here is run = asks_goes l p m low here (ap starts_in is) (ap (λ s. is_request (turn_of s)) is)
stage_goes l p m Store line low here is run = asks_goes l p m low here (ap starts_in is) (ap (λ s. is_request (turn_of s)) is)
stage_goes l p m Flush line low here is run = asks_goes l p m low here (ap starts_in is) (ap (λ s. is_request (turn_of s)) is)
stage_goes l p m Loading line low here is run = owes_goes l p m low here (ap starts_in is) (ap waits_for_caller is)
stage_goes l p m Storing line low here is run = owes_goes l p m low here (ap starts_in is) (ap waits_for_caller is)
stage_goes l p m Flushing line low here is run = owes_goes l p m low here (ap starts_in is) (ap waits_for_caller is)
stage_goes l p m Receiving line low here is run = goes_at l p m low here (ap starts_in is) (HostOwes m here (ap waits_for_host is))
stage_goes l p m stage line low here is run = fis_goes l p m _ line low here (ap starts_in is) (ap (λ s. is_fis (turn_of s)) is) refl

pub running_goes : (l : Line) (p : ℕ) (m : Moment) → IsLine l → p < 33 → command_at l p ≡ Some m → runs m.stage ≡ true → Goes l
running_goes l p m line low here run = stage_goes l p m m.stage line low here refl run

orphan_not : (l : Line) (p : ℕ) (x : Option Moment) → is_none (orphan l p) ≡ false → may_start_at l p x ≡ false
orphan_not l p None e = refl
orphan_not l p (Some m) e = middle_false _ _ _ e

pub orphan_goes : (l : Line) (p : ℕ) → p < 33 → is_none (orphan l p) ≡ false → Goes l
orphan_goes l p low e = record { place = p; below = low; moves = StoreOwed e; started = orphan_not l p (command_at l p) e }

pub others_go : (l : Line) (p : ℕ) → IsLine l → p < 33 → is_under_way (command_at l p) ≡ true → PassesNowhere (may_start l) → Goes l
others_go l p line low alive none =
    let m = something_moves l p line low alive in record { place = m.place; below = m.below; moves = m.moves; started = none m.place m.below }

-- ## Who is taken is last

up_less : (last r s : ℕ) (a b : Bool) → nat_lt last r ≡ a → nat_lt last s ≡ b → r ≢ last → s ≢ last → r < s
    → (if a then r - 1 else r) < (if b then s - 1 else s)
up_less last r s true true e f g h less = let i = ltb-true _ _ e in omega (arith, i, less)
up_less last r s true false e f g h less = let i = ltb-true _ _ e in let j = ltb-false _ _ f in absurd (omega (arith, i, j, less))
up_less last r s false true e f g h less = let i = ltb-false _ _ e in let j = ltb-true _ _ f in omega (arith, i, j, less, g)
up_less last r s false false e f g h less = less

same_bool : (a b : Bool) → (a ≡ true → b ≡ true) → (b ≡ true → a ≡ true) → a ≡ b
same_bool true b f g = sym (f refl)
same_bool false true f g = g refl
same_bool false false f g = refl

still_before : (l : Line) (p q t : ℕ) → IsLine l → p < 33 → q < 33 → t < 33 → q ≢ p → t ≢ p
    → is_before l.ranks q t ≡ true → is_before (moved_back l.ranks p) q t ≡ true
still_before l p q t line low low' low'' apart apart' e = lt-ltb _ _
    (rw (rank_other l.ranks p q line.ranks low' apart) (rw (rank_other l.ranks p t line.ranks low'' apart')
    (up_less (get_or l.ranks p 0) _ _ _ _ refl refl (λ f. apart (line.own q p low' low f)) (λ f. apart' (line.own t p low'' low f)) (ltb-true _ _ e))))

last_case : (l new : Line) (p : ℕ) (b : Bool) → b ≡ false → IsLine l → p < 33 → new.ranks ≡ moved_back l.ranks p
    → IsLast l (if b then l else new) p
last_case l new p true e line low is = absurd (cc)
last_case l new p false e line low is = record {
  last = λ q low' apart. rw is (lt-ltb _ _ (rw (rank_same l.ranks p line.ranks low) (rank_below l p q line low low' apart)));
  others = λ q t low' low'' apart apart'. rw is (same_bool _ _
      (λ f. (before_taken l p q t line low low' low'' apart' f).1) (still_before l p q t line low low' low'' apart apart'));
}

pub taken_is_last : TakenIsLast
taken_is_last l c line low e = last_case l _ c.place _ e line low refl
