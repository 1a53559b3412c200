-- What each call leaves lies within the sectors of the disk: no command changes its own, and the places of commands that are gone are free.
use Rattle.std.proofs.Common.{◌≡◌, ℕ, zero, suc, ◌+◌, ◌-◌, ◌<◌, ◌≤◌, true, false, List, [], ◌∷◌, length, get_or, map, replicate, set, Some, None}
use Rattle.std.proofs.{Common.{refl, sym, ap, ◌∙◌, subst, arith, inl, inr}, lemmas.Bool.{cases_eq, cases_lt, lt-ltb, ltb-false}}
use Rattle.std.proofs.lemmas.List.{get_or-set_other, get_or-set_same, get_or-replicate, set_past, Elements.{All-append, All-cons, All-map, All-nil}}
use Rattle.std.specs.{Prelude.{Option, Bool, ◌==◌, ◌&&◌, ◌||◌, nat_lt, if◌then◌else◌}, List.All, Option.option_map}
use Rattle.block_command.specs.{declared.command.Command.Command, Moments.{Moment, first_data_stage, is_verify, opening, part_count, part_len}}
use Rattle.block_command.specs.{Moments.{read_on, with_sectors}, declared.command.Stage.{Stage, TheVariants.{Loading, Receiving, Sending, Storing}}}
use Rattle.block_command.specs.Laws.{Input, Comes, Goes, Loads, Stores, after}
use Rattle.block_command.proofs.Door.{same_command, at as moment}
use Rattle.block_disk.specs.{Table.{Table, at, is_under_way, with_command, with_input, with_taken}, Requests.{Queue, is_out, with_table}}
use Rattle.block_queue.specs.Line.{Line, command_at, line_answered, line_gone, line_reset, line_taken, may_send, with_queue}
use Rattle.block_scheduler.specs.{Sets.ends_at, Schedule.{Schedule, ends_all, ends_sent}}
use Rattle.block_engine.specs.Engine.{EngineState, line}
use Rattle.ata_command.specs.{Trims.{entry, extents_in, is_past as is_past_extent, is_past_in, named}, declared.trim.Extent.Extent}
use Rattle.sata_disk.specs.{State.{IsWithin, LiesWithin}, Hearing.range_of, Sending.place_sent}

-- ## Commands

abbrev pub LineWithin : ℕ → Line → Type 0
LineWithin n l = (p : ℕ) → p < 33 → LiesWithin n (command_at l p)

part_case : (c : Command) (done : ℕ) (b : Bool) → nat_lt (c.count - done) 2048 ≡ b → done ≤ c.count → done + (if b then c.count - done else 2048) ≤ c.count
part_case c done true few ends = omega (arith, ends)
part_case c done false few ends = let more = ltb-false (c.count - done) 2048 few in omega (arith, ends, more)

pub part_ends : (c : Command) (done : ℕ) → done ≤ c.count → done + part_count c done ≤ c.count
part_ends c done ends = part_case c done _ refl ends

either_ends : (n : ℕ) (b : Bool) (x y : Moment) → x.done ≤ n → y.done ≤ n → (if b then x else y).done ≤ n
either_ends n true x y e f = e
either_ends n false x y e f = f

-- no more is done than there is
after_ends : (c : Command) (done : ℕ) (bytes : List ℕ) (sent : ℕ) (stage : Stage) (i : Input) → done ≤ c.count → (after (moment c done bytes sent stage) i).done ≤ c.count
after_ends c done bytes sent Sending Goes ends = either_ends c.count _ _ _ ends (part_ends c done ends)
after_ends c done bytes sent Loading (Loads given) ends =
    let m = moment c done bytes sent Loading in
    either_ends c.count (length given == part_len c done) (with_sectors m given) m
    (either_ends c.count (is_verify c.protocol) (read_on m (done + part_count c done)) (record m { bytes = given; stage = first_data_stage c.protocol done })
    (part_ends c done ends) ends) ends
after_ends c done bytes sent Receiving (Comes part) ends = either_ends c.count _ _ _ ends ends
after_ends c done bytes sent Storing Stores ends = part_ends c done ends
after_ends c done bytes sent stage Goes ends = ends
after_ends c done bytes sent stage i ends = ends

moment_case : (n : ℕ) (m : Moment) (i : Input) → (after m i).command ≡ m.command → (after m i).done ≤ m.command.count → LiesWithin n (Some m)
    → LiesWithin n (Some (after m i))
moment_case n m i same ends lies =
    let P : Command → Type 0 = λ c. ((after m i).done ≤ c.count) × (c.lba + c.count ≤ n) in subst P (sym same) (ends, lies.1)

pub moment_within : (n : ℕ) (x : Option Moment) (i : Input) → LiesWithin n x → LiesWithin n (option_map (λ m. after m i) x)
moment_within n None i lies = tt
moment_within n (Some m) i lies = moment_case n m i (same_command m.command m.done m.bytes m.sent m.stage i)
    (after_ends m.command m.done m.bytes m.sent m.stage i lies.0) lies

put_within : (n : ℕ) (xs : List (Option Moment)) (k p : ℕ) (x : Option Moment) → LiesWithin n x → LiesWithin n (get_or xs p None) → LiesWithin n (get_or (set xs k x) p None)
put_within n xs k p x new was =
    let P : Option Moment → Type 0 = λ y. LiesWithin n y in
    elim (cases_eq p k) [
      | inr apart ↦ subst P (sym (get_or-set_other xs k p x None apart)) was
      | inl same ↦ elim (cases_lt k (length xs)) [
        | inl low ↦ subst P (sym (ap (λ q. get_or (set xs k x) q None) same ∙ get_or-set_same xs k x None low)) new
        | inr high ↦ subst P (sym (ap (λ ys. get_or ys p None) (set_past xs k x high))) was
      ]
    ]

table_within : (n : ℕ) (t : Table) (k : ℕ) (i : Input) → ((p : ℕ) → p < 33 → LiesWithin n (at t p)) → k < 33 → (p : ℕ) → p < 33 → LiesWithin n (at (with_input t k i) p)
table_within n t k i lie here p low = put_within n t.places k p _ (moment_within n (at t k) i (lie k here)) (lie p low)

pub input_within : (n : ℕ) (l : Line) (k : ℕ) (i : Input) → k < 33 → LineWithin n l → LineWithin n (with_queue l (with_table l.queue (with_input l.queue.table k i)))
input_within n l k i here lie = table_within n l.queue.table k i lie here

pub gone_within : (n : ℕ) (l : Line) (k : ℕ) → k < 33 → LineWithin n l → LineWithin n (line_gone l k)
gone_within n l k here lie = input_within n l k Goes here lie

pub none_within : (n p : ℕ) → p < 33 → LiesWithin n (get_or (replicate 33 None) p None)
none_within n p low = let P : Option Moment → Type 0 = λ y. LiesWithin n y in subst P (sym (get_or-replicate 33 p None None low)) tt

pub reset_within : (n : ℕ) (l : Line) → LineWithin n (line_reset l)
reset_within n l p low = none_within n p low

answer_case : (n : ℕ) (q : Queue) (k : ℕ) (i : Input) (out : List ℕ) (b : Bool) → ((p : ℕ) → p < 33 → LiesWithin n (at q.table p)) → k < 33 → (p : ℕ) → p < 33
    → LiesWithin n (at (if b then record q { table = with_input q.table k i; out = out } else q).table p)
answer_case n q k i out true lie here p low = table_within n q.table k i lie here p low
answer_case n q k i out false lie here p low = lie p low

pub answered_within : (n : ℕ) (l : Line) (k number : ℕ) (i : Input) → k < 33 → LineWithin n l → LineWithin n (line_answered l k number i)
answered_within n l k number i here lie = answer_case n l.queue k i _ (is_out l.queue.out k number) lie here

-- ## A command is taken

taken_table : (n : ℕ) (t : Table) (c : Command) (b : Bool) → c.lba + c.count ≤ n → ((p : ℕ) → p < 33 → LiesWithin n (at t p)) → (p : ℕ) → p < 33
    → LiesWithin n (at (if b then t else with_command t c.place (Some (opening c))) p)
taken_table n t c true new lie p low = lie p low
taken_table n t c false new lie p low = put_within n t.places c.place p (Some (opening c)) (omega arith, new) (lie p low)

taken_line : (n : ℕ) (l : Line) (c : Command) (ranks : List ℕ) (b : Bool) → c.lba + c.count ≤ n → LineWithin n l
    → LineWithin n (if b then l else record l { queue = record l.queue { table = with_taken l.queue.table c }; ranks = ranks })
taken_line n l c ranks true new lie = lie
taken_line n l c ranks false new lie = taken_table n l.queue.table c (is_under_way (at l.queue.table c.place)) new lie

pub taken_within : (n : ℕ) (l : Line) (c : Command) → c.lba + c.count ≤ n → LineWithin n l → LineWithin n (line_taken l c)
taken_within n l c new lie = taken_line n l c _ (is_under_way (command_at l c.place)) new lie

-- ## FISes go

sent_case : (n : ℕ) (s : Schedule) (k : ℕ) (b : Bool) → k < 33 → LineWithin n s.line
    → LineWithin n (if b then record s { line = line_reset (line_gone s.line k); fault = Some k } else record s { line = line_gone s.line k }).line
sent_case n s k true here lie = reset_within n (line_gone s.line k)
sent_case n s k false here lie = gone_within n s.line k here lie

pub sent_within : (n : ℕ) (e : EngineState) (k : ℕ) → k < 33 → LineWithin n (line e) → LineWithin n (line (place_sent e k))
sent_within n e k here lie = sent_case n e.schedule k (ends_all (line e) k) here lie

end_case : (n : ℕ) (l : Line) (k : ℕ) (b : Bool) → k < 33 → LineWithin n l → LineWithin n (if b then line_gone l k else l)
end_case n l k true here lie = gone_within n l k here lie
end_case n l k false here lie = lie

pub ends_within : (n : ℕ) (l : Line) (k : ℕ) → k ≤ 32 → LineWithin n l → LineWithin n (ends_sent l k)
unfolding ends_sent
ends_within n l zero low lie = lie
ends_within n l (suc k) low lie =
    end_case n (ends_sent l k) k (ends_at (ends_sent l k) k && may_send (ends_sent l k) k) (omega (arith, low)) (ends_within n l k (omega (arith, low)) lie)

-- ## Ranges

abbrev ExtentWithin : ℕ → Extent → Type 0
ExtentWithin n e = e.lba + e.count ≤ n

named_within : (n : ℕ) (e : Extent) (b : Bool) → (e.count == 0) ≡ b → is_past_extent n e ≡ false → All (ExtentWithin n) (if b then [] else e ∷ [])
named_within n e true zero' past = All-nil (ExtentWithin n)
named_within n e false some past =
    let more : 0 < e.count = nonzero e.count some in
    let low : nat_lt n (e.lba + e.count) ≡ false = sym (ap (λ b. b && nat_lt n (e.lba + e.count)) (lt-ltb 0 e.count more)) ∙ past in
    All-cons (ExtentWithin n) e [] (ltb-false n (e.lba + e.count) low) (All-nil (ExtentWithin n))
  where
    nonzero : (k : ℕ) → (k == 0) ≡ false → 0 < k
    nonzero zero e = absurd (cc)
    nonzero (suc k) e = omega arith

or_false : (a b : Bool) → (a || b) ≡ false → (a ≡ false) × (b ≡ false)
or_false true b e = absurd (cc)
or_false false b e = (refl, e)

extents_within : (bytes : List ℕ) (n k : ℕ) → is_past_in bytes n k ≡ false → All (ExtentWithin n) (extents_in bytes k)
unfolding extents_in is_past_in
extents_within bytes n zero past = All-nil (ExtentWithin n)
extents_within bytes n (suc k) past =
    let both = or_false (is_past_in bytes n k) (is_past_extent n (entry bytes k)) past in
    All-append (ExtentWithin n) (extents_in bytes k) (named (entry bytes k)) (extents_within bytes n k both.0) (named_within n (entry bytes k) _ refl both.1)

pub ranges_within : (bytes : List ℕ) (n k : ℕ) → is_past_in bytes n k ≡ false → All (IsWithin n) (map range_of (extents_in bytes k))
ranges_within bytes n k past = All-map (IsWithin n) range_of (extents_in bytes k) (extents_within bytes n k past)
