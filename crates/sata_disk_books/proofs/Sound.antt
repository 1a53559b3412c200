-- The commands of a disk and its books: who has the link is whom the last DMA Setup FIS named, and so many bytes of it went as were counted since.
use Rattle.std.proofs.Common.{◌≡◌, ℕ, ◌+◌, ◌*◌, ◌<◌, true, false, List, length, take, get_or, set, Some, None, refl, sym, ap, ◌∙◌, subst, arith, inl}
use Rattle.std.proofs.{Common.inr, lemmas.{Bool.{cases_eq, eqb-true, lt-ltb}, List.{get_or-set_same, get_or-set_other, length-append}}}
use Rattle.std.proofs.lemmas.{List.{length-take-le}, Option.same_Some}
use Rattle.std.specs.{Prelude.{Option, Bool, is_none, nat_lt, not, ◌&&◌, ◌||◌, ◌==◌, if◌then◌else◌}, Option.option_map}
use Rattle.block_command.specs.declared.command.{Command.Command, Stage.{Stage, TheVariants.{Activate, Receiving, Sending, SetUpRead, SetUpWrite}}}
use Rattle.block_command.specs.{Moments.{Moment, is_queued, opening, part_len, part_of, turn_of}, Laws.{Comes, Goes, Input, Ledger, after}}
use Rattle.block_command.proofs.Door.{Agrees, at as moment, same_command}
use Rattle.block_disk.specs.Table.{Table, at, freed, has_wire, is_under_way, may_go_at, none_under_way, wants_wire, with_command, with_input}
use Rattle.block_disk.specs.{Laws.{Page, at_page}, Requests.{Books, Queue, entered_by, is_answer, seen, with_table}}
use Rattle.block_disk.proofs.Door.{Agree, Matches, each_is, one}
use Rattle.block_queue.specs.Deeds as deed
use Rattle.block_queue.specs.{Deeds.{Deed, IsDeed, act_of, after_deed}, Line.{Line, command_at, may_send}}
use Rattle.block_queue.proofs.Door.{of_and}
use Rattle.sata_disk_books.specs.Counted.{Counted, more_by}
use Rattle.sata_disk_books.proofs.Holds.{First, IsPart, data_gone, first_after, gone_of, had, is_loud, is_loud_stage, is_reading, same_gone, set_up}

-- ## One place

abbrev pub IsOwn : ℕ → Option Moment → Type 0
IsOwn p None = Unit {0}
IsOwn p (Some m) = (is_queued m.command.protocol ≡ nat_lt p 32) × (m.command.place ≡ p)

abbrev pub FirstAt : Option Moment → Type 0
FirstAt None = Unit {0}
FirstAt (Some m) = First m

pub record CountsFor (t : Option Counted) (p : ℕ) (m : Moment) : Type 0 where
  pub count : ℕ
  pub told : t ≡ Some (record { tag = p; count = count })
  pub gone : is_reading m.stage ≡ true → count ≡ gone_of m

abbrev pub Counts : Option Counted → ℕ → Option Moment → Type 0
Counts t p None = Unit {0}
Counts t p (Some m) = CountsFor t p m

pub record IsSound (wire : Option ℕ) (t : Option Counted) (p : ℕ) (x : Option Moment) : Type 0 where
  pub own : IsOwn p x
  pub first : FirstAt x
  pub wired : has_wire x ≡ true → (wire ≡ Some p) × Counts t p x

-- ## The table

abbrev pub AreSound : Table → Option Counted → Type 0
AreSound d t = (p : ℕ) → IsSound d.wire t p (get_or d.places p None)

freed_case : (h place t : ℕ) (b : Bool) → (h == place) ≡ b → Some h ≡ Some t → (t ≡ place → ⊥) → (if b then None else Some h) ≡ Some t
freed_case h place t true e is apart = let same = eqb-true h place e in absurd (apart (cc))
freed_case h place t false e is apart = is

freed_other : (wire : Option ℕ) (place t : ℕ) → wire ≡ Some t → (t ≡ place → ⊥) → freed wire place ≡ Some t
freed_other None place t e apart = absurd (cc)
freed_other (Some h) place t e apart = freed_case h place t _ refl e apart

-- what stands at a place now
pub record IsPut (t : Option Counted) (place : ℕ) (x : Option Moment) : Type 0 where
  pub own : IsOwn place x
  pub first : FirstAt x
  pub counts : has_wire x ≡ true → Counts t place x

module _ (d : Table) (place : ℕ) (x : Option Moment) (long : length d.places ≡ 33) (low : place < 33) where
  here : get_or (set d.places place x) place None ≡ x
  here = get_or-set_same d.places place x None (omega (arith, low, long))

  -- no other has the link
  alone_case : (t' t : Option Counted) (b : Bool) → has_wire x ≡ b → AreSound d t → ((p : ℕ) → (p ≡ place → ⊥) → has_wire (get_or d.places p None) ≡ true → ⊥)
      → IsPut t' place x → AreSound (record { places = set d.places place x; wire = if b then Some place else freed d.wire place }) t'
  alone_case t' t b e are alone put p = elim (cases_eq p place) [
    | inl same ↦ rw same (rw here (record { own = put.own; first = put.first; wired = λ h. (ap (λ (c : Bool). if c then Some place else freed d.wire place) (sym e ∙ h), put.counts h) }))
    | inr apart ↦ rw (get_or-set_other d.places place p x None apart)
        (record { own = (are p).own; first = (are p).first; wired = λ h. absurd (alone p apart h) })
  ]

  pub alone_put : (t' t : Option Counted) → AreSound d t → ((p : ℕ) → (p ≡ place → ⊥) → has_wire (get_or d.places p None) ≡ true → ⊥)
      → IsPut t' place x → AreSound (with_command d place x) t'
  alone_put t' t are alone put = alone_case t' t (has_wire x) refl are alone put

  quiet_case : (t : Option Counted) (b : Bool) → has_wire x ≡ b → AreSound d t → IsPut t place x → (has_wire x ≡ true → d.wire ≡ Some place)
      → AreSound (record { places = set d.places place x; wire = if b then Some place else freed d.wire place }) t
  quiet_case t true e are put was p =
      alone_case t t true e are (λ q apart h. (let both = sym ((are q).wired h).0 ∙ was e in apart (cc))) put p
  quiet_case t false e are put was p = elim (cases_eq p place) [
    | inl same ↦ rw same (rw here (record { own = put.own; first = put.first; wired = λ h. absurd (let no = sym e ∙ h in cc) }))
    | inr apart ↦ rw (get_or-set_other d.places place p x None apart)
        (record { own = (are p).own; first = (are p).first; wired = λ h. (freed_other d.wire place p ((are p).wired h).0 apart, ((are p).wired h).1) })
  ]

  pub quiet_put : (t : Option Counted) → AreSound d t → IsPut t place x → (has_wire x ≡ true → d.wire ≡ Some place) → AreSound (with_command d place x) t
  quiet_put t are put was = quiet_case t (has_wire x) refl are put was

-- ## One command

pub and_true : (a b : Bool) → a ≡ true → b ≡ true → (a && b) ≡ true
and_true true true e f = refl
and_true true false e f = absurd (cc)
and_true false b e f = absurd (cc)

pub same_protocol : (m : Moment) (i : Input) → is_queued (after m i).command.protocol ≡ is_queued m.command.protocol
same_protocol m i = ap (λ c. is_queued c.protocol) (same_command m.command m.done m.bytes m.sent m.stage i)

same_place : (m : Moment) (i : Input) → (after m i).command.place ≡ m.command.place
same_place m i = ap (λ (c : Command). c.place) (same_command m.command m.done m.bytes m.sent m.stage i)

-- it had the link before
had_link : (m : Moment) (i : Input) → is_loud m.stage i ≡ false → has_wire (Some (after m i)) ≡ true → has_wire (Some m) ≡ true
had_link m i quiet h =
    let both = of_and (is_queued (after m i).command.protocol) (set_up (after m i)) h in
    let q : is_queued m.command.protocol ≡ true = sym (same_protocol m i) ∙ both.0 in
    and_true (is_queued m.command.protocol) (set_up m) q (had m.command m.done m.bytes m.sent m.stage i q quiet both.1)

pub queued_of : (m : Moment) → has_wire (Some m) ≡ true → is_queued m.command.protocol ≡ true
queued_of m h = (of_and (is_queued m.command.protocol) (set_up m) h).0

counts_on : (t : Option Counted) (p : ℕ) (m : Moment) (i : Input) → is_loud m.stage i ≡ false → is_queued m.command.protocol ≡ true → CountsFor t p m
    → CountsFor t p (after m i)
counts_on t p m i quiet q was = record {
  count = was.count;
  told = was.told;
  gone = λ r. (let s = same_gone m.command m.done m.bytes m.sent m.stage i q quiet r in was.gone s.0 ∙ sym s.1);
}

abbrev pub loud_at : Option Moment → Input → Bool
loud_at None i = false
loud_at (Some m) i = is_loud m.stage i

put_on : (wire : Option ℕ) (t : Option Counted) (p : ℕ) (m : Moment) (i : Input) → is_loud m.stage i ≡ false → IsSound wire t p (Some m)
    → IsPut t p (Some (after m i)) × (has_wire (Some (after m i)) ≡ true → wire ≡ Some p)
put_on wire t p m i quiet is = (
  record {
    own = (same_protocol m i ∙ is.own.0, same_place m i ∙ is.own.1);
    first = first_after m.command m.done m.bytes m.sent m.stage i is.first;
    counts = λ h. (let was = had_link m i quiet h in counts_on t p m i quiet (queued_of m was) (is.wired was).1);
  },
  λ h. (is.wired (had_link m i quiet h)).0,
)

input_case : (d : Table) (place : ℕ) (i : Input) (x : Option Moment) → get_or d.places place None ≡ x → length d.places ≡ 33 → place < 33 → (t : Option Counted)
    → loud_at x i ≡ false → AreSound d t → AreSound (with_command d place (option_map (λ m. after m i) x)) t
input_case d place i None e long low t quiet are =
    quiet_put d place None long low t are (record { own = tt; first = tt; counts = λ h. tt }) (λ h. absurd (cc))
input_case d place i (Some m) e long low t quiet are =
    let both = put_on d.wire t place m i quiet (subst (IsSound d.wire t place) e (are place)) in
    quiet_put d place (Some (after m i)) long low t are both.0 both.1

pub input_quiet : (d : Table) (place : ℕ) (i : Input) → length d.places ≡ 33 → place < 33 → (t : Option Counted)
    → loud_at (at d place) i ≡ false → AreSound d t → AreSound (with_input d place i) t
input_quiet d place i long low t quiet are = input_case d place i (at d place) refl long low t quiet are

-- ## A line and its books

pub record Stands (l : Line) (b : Books) (t : Option Counted) : Type 0 where
  pub agree : Agree l.queue b
  pub sound : AreSound l.queue.table t

long_is : (l : Line) (b : Books) (t : Option Counted) → Stands l b t → length l.queue.table.places ≡ 33
long_is l b t is = is.agree.kept.commands

-- what is next is done, and no DMA Setup FIS nor Data
abbrev pub IsQuiet : Line → Deed → Type 0
IsQuiet l (deed.Starts p) = loud_at (command_at l p) Goes ≡ false
IsQuiet l (deed.Sends p) = loud_at (command_at l p) Goes ≡ false
IsQuiet l (deed.Asks p) = loud_at (command_at l p) Goes ≡ false
IsQuiet l d = Unit {0}

came_quiet : (x : Option Moment) (part : List ℕ) → loud_at x (Comes part) ≡ false
came_quiet None part = refl
came_quiet (Some m) part = refl

answer_quiet : (x : Option Moment) (i : Input) → is_answer i ≡ true → loud_at x i ≡ false
answer_quiet None i e = refl
answer_quiet (Some m) Goes e = absurd (cc)
answer_quiet (Some m) i e = refl

pub opening_free : (c : Command) → has_wire (Some (opening c)) ≡ true → ⊥
opening_free c h = let no : nat_lt 0 0 ≡ true = (of_and (is_queued c.protocol) _ h).1 in cc

taken_sound : (l : Line) (c : Command) (ranks : List ℕ) (b : Bool) (t : Option Counted) → length l.queue.table.places ≡ 33 → c.place < 33
    → is_queued c.protocol ≡ nat_lt c.place 32 → AreSound l.queue.table t
    → AreSound (if b then l else record l { queue = with_table l.queue (if b then l.queue.table else with_command l.queue.table c.place (Some (opening c))); ranks = ranks }).queue.table t
taken_sound l c ranks true t long low own are = are
taken_sound l c ranks false t long low own are =
    quiet_put l.queue.table c.place (Some (opening c)) long low t are (record { own = (own, refl); first = tt; counts = λ h. absurd (opening_free c h) })
    (λ h. absurd (opening_free c h))

answered_sound : (q : Queue) (p : ℕ) (i : Input) (out : List ℕ) (b : Bool) (t : Option Counted) → length q.table.places ≡ 33 → p < 33 → is_answer i ≡ true
    → AreSound q.table t → AreSound (if b then record { table = with_input q.table p i; out = out; next = q.next } else q).table t
answered_sound q p i out true t long low is are = input_quiet q.table p i long low t (answer_quiet (at q.table p) i is) are
answered_sound q p i out false t long low is are = are

pub none_sound : (t : Option Counted) → AreSound none_under_way t
none_sound t p = subst (IsSound None t p) (sym (each_is (Option Moment) 33 p None)) (record { own = tt; first = tt; wired = λ h. absurd (cc) })

pub deed_sound : (l : Line) (b : Books) (t : Option Counted) (d : Deed) → Stands l b t → IsDeed l d → IsQuiet l d → AreSound (after_deed l d).queue.table t
deed_sound l b t (deed.Takes c) is may quiet =
    taken_sound l c _ (is_under_way (command_at l c.place)) t (long_is l b t is) may.0 may.2 is.sound
deed_sound l b t (deed.Starts p) is may quiet = input_quiet l.queue.table p Goes (long_is l b t is) may.0 t quiet is.sound
deed_sound l b t (deed.Sends p) is may quiet = input_quiet l.queue.table p Goes (long_is l b t is) may.0 t quiet is.sound
deed_sound l b t (deed.Asks p) is may quiet = input_quiet l.queue.table p Goes (long_is l b t is) may.0 t quiet is.sound
deed_sound l b t (deed.Hears p part) is may quiet = input_quiet l.queue.table p (Comes part) (long_is l b t is) may t (came_quiet (command_at l p) part) is.sound
deed_sound l b t (deed.Answers p number i) is may quiet = answered_sound l.queue p i _ _ t (long_is l b t is) may.0 may.1 is.sound
deed_sound l b t deed.Resets is may quiet = none_sound t
deed_sound l b t deed.Draws is may quiet = is.sound

-- ## Its books

taken_agrees : (l : Line) (b : Books) (table : Table) (ranks : List ℕ) (d : Bool) → Agree (with_table l.queue (if d then l.queue.table else table)) b
    → Agree (if d then l else record l { queue = with_table l.queue (if d then l.queue.table else table); ranks = ranks }).queue b
taken_agrees l b table ranks true is = is
taken_agrees l b table ranks false is = is

pub deed_agrees : (l : Line) (b : Books) (d : Deed) → Agree l.queue b → IsDeed l d → Agree (after_deed l d).queue (entered_by b (seen l.queue (act_of d)))
deed_agrees l b (deed.Takes c) is may =
    taken_agrees l _ (with_command l.queue.table c.place (Some (opening c))) _ (is_under_way (command_at l c.place)) (one l.queue (act_of (deed.Takes c)) b is may).1
deed_agrees l b (deed.Starts p) is may = (one l.queue (act_of (deed.Starts p)) b is may.0).1
deed_agrees l b (deed.Sends p) is may = (one l.queue (act_of (deed.Sends p)) b is may.0).1
deed_agrees l b (deed.Asks p) is may = (one l.queue (act_of (deed.Asks p)) b is may.0).1
deed_agrees l b (deed.Hears p part) is may = (one l.queue (act_of (deed.Hears p part)) b is may).1
deed_agrees l b (deed.Answers p number i) is may = (one l.queue (act_of (deed.Answers p number i)) b is may).1
deed_agrees l b deed.Resets is may = (one l.queue (act_of deed.Resets) b is may).1
deed_agrees l b deed.Draws is may = (one l.queue (act_of deed.Draws) b is may).1

pub deed_stands : (l : Line) (b : Books) (t : Option Counted) (d : Deed) → Stands l b t → IsDeed l d → IsQuiet l d
    → Stands (after_deed l d) (entered_by b (seen l.queue (act_of d))) t
deed_stands l b t d is may quiet = record { agree = deed_agrees l b d is.agree may; sound = deed_sound l b t d is may quiet }

-- ## What the books have of a command

pub record IsPaged (y : Option Page) (m : Moment) : Type 0 where
  pub page : Page
  pub is : y ≡ Some page
  pub same : m.command ≡ page.command
  pub agrees : Agrees page.command m page.ledger

abbrev command_or : Command → Option Moment → Command
command_or c None = c
command_or c (Some m) = m.command

paged_case : (x : Option Moment) (y : Option Page) (m : Moment) → x ≡ Some m → Matches x y → IsPaged y m
paged_case None y m e match' = absurd (cc)
paged_case (Some k) None m e match' = absurd match'
paged_case (Some k) (Some page) m e match' = record {
  page = page;
  is = refl;
  same = ap (λ x. command_or m.command x) (sym e) ∙ match'.0;
  agrees = subst (λ (x : Moment). Agrees page.command x page.ledger) (same_Some k m e) match'.1;
}

pub paged : (l : Line) (b : Books) (p : ℕ) (m : Moment) → Agree l.queue b → command_at l p ≡ Some m → IsPaged (at_page b.pages p) m
paged l b p m agree is = paged_case (command_at l p) (at_page b.pages p) m is (agree.kept.each p)

part_known : (c k : Command) (done : ℕ) (bytes : List ℕ) (sent : ℕ) (g : Ledger) → k ≡ c → Agrees c (moment k done bytes sent Sending) g → IsPart k done bytes sent
part_known c k done bytes sent g e (inl over) = absurd (cc)
part_known c k done bytes sent g e (inr known) =
    record { whole = known.facts.3 ∙ ap (λ (x : Command). part_len x done) (sym e); sent_most = known.facts.4 }

pub sent_known : (c k : Command) (done : ℕ) (bytes : List ℕ) (sent : ℕ) (g : Ledger) → Agrees c (moment k done bytes sent Sending) g
    → length g.sent ≡ done * 512 + sent
sent_known c k done bytes sent g (inl over) = absurd (cc)
sent_known c k done bytes sent g (inr known) =
    let long = known.facts.1.0 in let some = length-take-le sent bytes known.facts.4 in
    let sum = length-append known.past (take sent bytes) in
    ap (λ (x : Ledger). length x.sent) known.is ∙ omega (arith, long, some, sum)

none_known : (c k : Command) (done : ℕ) (bytes : List ℕ) (sent : ℕ) (g : Ledger) → Agrees c (moment k done bytes sent SetUpRead) g → sent ≡ 0
none_known c k done bytes sent g (inl over) = absurd (cc)
none_known c k done bytes sent g (inr known) = known.facts.4

-- ## A DMA Setup FIS, and Data

no_holder : (o : Option ℕ) (b : Bool) → (not b || is_none o) ≡ true → b ≡ true → o ≡ None
no_holder None b e f = refl
no_holder (Some t) true e f = absurd (cc)
no_holder (Some t) false e f = absurd (cc)

pub may_free : (l : Line) (p : ℕ) (m : Moment) → command_at l p ≡ Some m → may_send l p ≡ true → wants_wire (turn_of m.stage) ≡ true → l.queue.table.wire ≡ None
may_free l p m is may wants =
    no_holder l.queue.table.wire (wants_wire (turn_of m.stage))
    (subst (λ (x : Option Moment). may_go_at l.queue.table x ≡ true) is (of_and _ _ may).1) wants

reads_none : (n : ℕ) (b : Bool) → is_reading (if b then Receiving else Activate) ≡ true → 0 ≡ n
reads_none n true e = absurd (cc)
reads_none n false e = absurd (cc)

-- nothing went of a command that is set up now
fresh_case : (l : Line) (b : Books) (t : Option Counted) (p : ℕ) (c : Command) (done : ℕ) (bytes : List ℕ) (sent : ℕ) (stage : Stage) → Stands l b t
    → command_at l p ≡ Some (moment c done bytes sent stage) → wants_wire (turn_of stage) ≡ true → is_loud_stage stage ≡ true
    → is_reading (after (moment c done bytes sent stage) Goes).stage ≡ true → 0 ≡ gone_of (after (moment c done bytes sent stage) Goes)
fresh_case l b t p c done bytes sent SetUpRead is here wants loud reads =
    let first : done ≡ 0 = subst FirstAt here (is.sound p).first in
    let x = paged l b p (moment c done bytes sent SetUpRead) is.agree here in
    let none = none_known x.page.command c done bytes sent x.page.ledger x.agrees in
    omega (arith, first, none)
fresh_case l b t p c done bytes sent SetUpWrite is here wants loud reads = reads_none _ c.auto_activate reads
fresh_case l b t p c done bytes sent Sending is here wants loud reads = absurd (cc)
fresh_case l b t p c done bytes sent stage is here wants loud reads = absurd (cc)

put_after : (wire : Option ℕ) (t t' : Option Counted) (p : ℕ) (m : Moment) → IsSound wire t p (Some m) → (has_wire (Some (after m Goes)) ≡ true → CountsFor t' p (after m Goes))
    → IsPut t' p (Some (after m Goes))
put_after wire t t' p m is counts = record {
  own = (same_protocol m Goes ∙ is.own.0, same_place m Goes ∙ is.own.1);
  first = first_after m.command m.done m.bytes m.sent m.stage Goes is.first;
  counts = counts;
}

gone_sound : (l : Line) (b : Books) (t t' : Option Counted) (p : ℕ) (m : Moment) → Stands l b t → p < 33 → command_at l p ≡ Some m
    → ((q : ℕ) → (q ≡ p → ⊥) → has_wire (command_at l q) ≡ true → ⊥) → (has_wire (Some (after m Goes)) ≡ true → CountsFor t' p (after m Goes))
    → AreSound (after_deed l (deed.Sends p)).queue.table t'
gone_sound l b t t' p m is low here alone counts =
    let put : IsPut t' p (Some (after m Goes)) = put_after l.queue.table.wire t t' p m (subst (IsSound l.queue.table.wire t p) here (is.sound p)) counts in
    subst (λ (x : Option Moment). AreSound (with_command l.queue.table p (option_map (λ m. after m Goes) x)) t') (sym here)
    (alone_put l.queue.table p (Some (after m Goes)) (long_is l b t is) low t' t is.sound alone put)

pub set_up_stands : (l : Line) (b : Books) (t : Option Counted) (p : ℕ) (m : Moment) → Stands l b t → IsDeed l (deed.Sends p) → command_at l p ≡ Some m
    → wants_wire (turn_of m.stage) ≡ true → is_loud_stage m.stage ≡ true
    → Stands (after_deed l (deed.Sends p)) (entered_by b (seen l.queue (act_of (deed.Sends p)))) (Some (record { tag = p; count = 0 }))
set_up_stands l b t p m is may here wants loud =
    let free = may_free l p m here may.1 wants in
    record {
      agree = deed_agrees l b (deed.Sends p) is.agree may;
      sound = gone_sound l b t (Some (record { tag = p; count = 0 })) p m is may.0 here (λ q apart h. absurd (let held = ((is.sound q).wired h).0 in let no = sym held ∙ free in cc))
          (λ h. record { count = 0; told = refl; gone = fresh_case l b t p m.command m.done m.bytes m.sent m.stage is here wants loud });
    }

low_queued : (p : ℕ) (q : Bool) → q ≡ nat_lt p 32 → p < 32 → q ≡ true
low_queued p q e low = e ∙ lt-ltb p 32 low

-- the one that sends Data has the link
pub data_holds : (l : Line) (b : Books) (t : Option Counted) (p : ℕ) (c : Command) (done : ℕ) (bytes : List ℕ) (sent : ℕ) → Stands l b t
    → command_at l p ≡ Some (moment c done bytes sent Sending) → p < 32 → (l.queue.table.wire ≡ Some p) × CountsFor t p (moment c done bytes sent Sending)
data_holds l b t p c done bytes sent is here low =
    let s : IsSound l.queue.table.wire t p (Some (moment c done bytes sent Sending)) = subst (IsSound l.queue.table.wire t p) here (is.sound p) in
    s.wired (and_true (is_queued c.protocol) true (low_queued p (is_queued c.protocol) s.own.0 low) refl)

pub data_stands : (l : Line) (b : Books) (t : Option Counted) (p : ℕ) (c : Command) (done : ℕ) (bytes : List ℕ) (sent : ℕ) → Stands l b t → IsDeed l (deed.Sends p)
    → command_at l p ≡ Some (moment c done bytes sent Sending) → p < 32
    → Stands (after_deed l (deed.Sends p)) (entered_by b (seen l.queue (act_of (deed.Sends p)))) (more_by (length (part_of (moment c done bytes sent Sending))) t)
data_stands l b t p c done bytes sent is may here low =
    let m : Moment = moment c done bytes sent Sending in
    let n : ℕ = length (part_of m) in
    let holds = data_holds l b t p c done bytes sent is here low in
    let x = paged l b p m is.agree here in
    let part = part_known x.page.command c done bytes sent x.page.ledger x.same x.agrees in
    let before : holds.1.count ≡ done * 512 + sent = holds.1.gone refl in
    let after' = data_gone c done bytes sent part in
    record {
      agree = deed_agrees l b (deed.Sends p) is.agree may;
      sound = gone_sound l b t (more_by n t) p m is may.0 here (λ q apart h. (let both = sym ((is.sound q).wired h).0 ∙ holds.0 in apart (cc)))
          (λ h. record { count = holds.1.count + n; told = ap (λ x. more_by n x) holds.1.told; gone = λ r. ap (λ k. k + n) before ∙ sym after' });
    }

-- ## Data of another command

-- nobody has the link
abbrev pub NoHolder : Line → Type 0
NoHolder l = (q : ℕ) → has_wire (command_at l q) ≡ true → ⊥

pub forget : (l : Line) (b : Books) (t t' : Option Counted) → NoHolder l → Stands l b t → Stands l b t'
forget l b t t' none is = record {
  agree = is.agree;
  sound = λ p. record { own = (is.sound p).own; first = (is.sound p).first; wired = λ h. absurd (none p h) };
}

pub high_free : (p : ℕ) (x : Option Moment) → IsOwn p x → nat_lt p 32 ≡ false → has_wire x ≡ true → ⊥
high_free p None own high h = cc
high_free p (Some m) own high h = let no = sym (queued_of m h) ∙ own.0 ∙ high in cc

-- while another is to send, none has the link
pub others_free : (l : Line) (b : Books) (t : Option Counted) (p : ℕ) → Stands l b t → nat_lt p 32 ≡ false → ((q : ℕ) → l.queue.table.wire ≡ Some q → p ≡ q) → NoHolder l
others_free l b t p is high only q h =
    let same : p ≡ q = only q ((is.sound q).wired h).0 in
    high_free q (command_at l q) (is.sound q).own (sym (ap (λ k. nat_lt k 32) same) ∙ high) h

pub other_stands : (l : Line) (b : Books) (t : Option Counted) (p : ℕ) (m : Moment) → Stands l b t → IsDeed l (deed.Sends p) → command_at l p ≡ Some m → nat_lt p 32 ≡ false
    → ((q : ℕ) → l.queue.table.wire ≡ Some q → p ≡ q)
    → Stands (after_deed l (deed.Sends p)) (entered_by b (seen l.queue (act_of (deed.Sends p)))) None
other_stands l b t p m is may here high only = record {
  agree = deed_agrees l b (deed.Sends p) is.agree may;
  sound = gone_sound l b t None p m is may.0 here (λ q apart h. others_free l b t p is high only q h)
      (λ h. absurd (let own : IsOwn p (Some m) = subst (IsOwn p) here (is.sound p).own in
      let no = sym (same_protocol m Goes) ∙ queued_of (after m Goes) h in let yes = sym no ∙ own.0 ∙ high in cc));
}
