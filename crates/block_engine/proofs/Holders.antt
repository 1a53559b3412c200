-- Each number that is not answered was given, and to one alone: what each call leaves of that, and what a restored engine shows.
use Rattle.std.proofs.Common.{◌≡◌, ◌≢◌, ℕ, zero, suc, ◌+◌, ◌-◌, ◌<◌, ◌≤◌, true, false, List, length, get_or, set, Some, None, refl, sym, ap, ◌∙◌}
use Rattle.std.proofs.{Common.{arith, inl, inr, ◌⊎◌, subst}, lemmas.Bool.{cases_eq, cases_lt, lt-ltb, le-ltb, lt-leb, leb-false, eq-eqb, eqb-true}}
use Rattle.std.proofs.lemmas.{Bool.{false_from_ne_true, not-false, not-true, not_from_true, not_from_false}, Option.same_Some, List.{get_or-set_same}}
use Rattle.std.proofs.{lemmas.List.{get_or-set_other, length-set}, Math.ListN.{get_or-eq_default}}
use Rattle.std.specs.Prelude.{Option, Bool, Result, Ok, Err, OnOk, OnErr, not, ◌||◌, ◌&&◌, ◌==◌, nat_lt, nat_le, if◌then◌else◌, replicate}
use Rattle.block_command.specs.declared.command.Command as commands
use Rattle.block_command.specs.{Moments.{Moment, is_storing}, Laws.Input}
use Rattle.block_disk.specs.{Table.{is_under_way, with_input, with_taken}, Requests.{Queue, is_out, number_at, with_table, number_of as given_number}}
use Rattle.block_disk.proofs.Door.{each_is}
use Rattle.block_queue.specs.{declared.queue.Orphan.Orphan, Line.{Line, any_below, command_at, is_of, left_of, line_answered, line_gone, line_reset}}
use Rattle.block_queue.specs.Line.{line_taken, may_send, moved_back, none_in_line, orphan, orphan_of}
use Rattle.block_queue.proofs.Door.{any_at, any_none, left_read, of_or}
use Rattle.block_scheduler.specs.{Sets.ends_at, Schedule.{Schedule, ends_all, ends_sent, line_sent, with_line}}
use Rattle.block_engine.specs.declared.{aside.{AsideKind.AsideKind, AsideStage.AsideStage}, numbers.Holder.{Holder, TheVariants.{Command, Store}}}
use Rattle.block_engine.specs.{declared.numbers.Holder.TheVariants.{Aside, Discard}, Aside.settled, Engine.dropped_by, Numbers.{AreNumbered, IsAlone}}
use Rattle.block_engine.specs.Numbers.{IsHolder, are_numbered, asked_number, has_number, holder_at, is_misnumbered, is_number, misnumbered, number_of}
use Rattle.block_engine.specs.Numbers.{store_number}
use Rattle.block_engine.specs.declared.aside.AsideKind.TheVariants as kinds
use Rattle.block_engine.specs.declared.aside.AsideStage.TheVariants as stages

-- ## Numbers go, or one is given

-- each number that is left was there, at the one that has it
abbrev IsLess : Line → AsideStage → Option ℕ → Line → AsideStage → Option ℕ → Type 0
IsLess l s d m t e = (h : Holder) (n : ℕ) → IsHolder h → number_of m t e h ≡ Some n → number_of l s d h ≡ Some n

less : (l : Line) (s : AsideStage) (d : Option ℕ) (m : Line) (t : AsideStage) (e : Option ℕ) → l.queue.next ≤ m.queue.next
    → IsLess l s d m t e → AreNumbered l s d → AreNumbered m t e
less l s d m t e more was are = record {
  each = λ h n low is. (let before = are.each h n low (was h n low is) in record {
    given = (let below = before.given in omega (arith, below, more));
    own = λ g here same. before.own g here (was g n here same);
  });
}

-- each that is left was there, and the next was given to this one
fresh : (l : Line) (s : AsideStage) (d : Option ℕ) (m : Line) (t : AsideStage) (e : Option ℕ) (f : Holder) → l.queue.next < m.queue.next
    → ((h : Holder) (n : ℕ) → IsHolder h → number_of m t e h ≡ Some n → (number_of l s d h ≡ Some n) ⊎ ((h ≡ f) × (n ≡ l.queue.next)))
    → AreNumbered l s d → AreNumbered m t e
fresh l s d m t e f more was are = record {
  each = λ h n low is. elim (was h n low is) [
    | inl old ↦ (let before = are.each h n low old in record {
      given = (let below = before.given in omega (arith, below, more));
      own = λ g here same. elim (was g n here same) [
        | inl there ↦ before.own g here there
        | inr new ↦ absurd (let below = before.given in let at = new.1 in omega (arith, below, at))
      ];
    })
    | inr new ↦ record {
      given = (let at = new.1 in omega (arith, at, more));
      own = λ g here same. elim (was g n here same) [
        | inl there ↦ absurd (let below = (are.each g n here there).given in let at = new.1 in omega (arith, below, at))
        | inr too ↦ too.0 ∙ sym new.0
      ];
    }
  ];
}

-- ## The line

-- the same numbers are out, and the same stores were dropped
same_case : (l m : Line) (s : AsideStage) (d : Option ℕ) → m.queue.out ≡ l.queue.out → m.orphans ≡ l.orphans → IsLess l s d m s d
same_case l m s d out orphans (Command p) n low is = ap (λ xs. number_at xs p) (sym out) ∙ is
same_case l m s d out orphans (Store p) n low is = ap (λ xs. store_number (get_or xs p None)) (sym orphans) ∙ is
same_case l m s d out orphans Aside n low is = is
same_case l m s d out orphans Discard n low is = is

pub same_line : (l m : Line) (s : AsideStage) (d : Option ℕ) → m.queue.out ≡ l.queue.out → m.orphans ≡ l.orphans → l.queue.next ≤ m.queue.next
    → AreNumbered l s d → AreNumbered m s d
same_line l m s d out orphans more are = less l s d m s d more (same_case l m s d out orphans) are

taken_case : (l : Line) (queue : Line) (b : Bool) → queue.queue.out ≡ l.queue.out → queue.queue.next ≡ l.queue.next → queue.orphans ≡ l.orphans
    → (s : AsideStage) (d : Option ℕ) → AreNumbered l s d → AreNumbered (if b then l else queue) s d
taken_case l queue true out next orphans s d are = are
taken_case l queue false out next orphans s d are = same_line l queue s d out orphans (omega (arith, next)) are

pub taken_line : (l : Line) (c : commands.Command) (s : AsideStage) (d : Option ℕ) → AreNumbered l s d → AreNumbered (line_taken l c) s d
taken_line l c s d are = taken_case l (record l { queue = with_table l.queue (with_taken l.queue.table c); ranks = moved_back l.ranks c.place })
    (is_under_way (command_at l c.place)) refl refl refl s d are

-- a place of the list changes to this, and then a reader finds this or what was there
read_set : (xs : List ℕ) (p q x : ℕ) → (get_or (set xs p x) q 0 ≡ get_or xs q 0) ⊎ ((q ≡ p) × (get_or (set xs p x) q 0 ≡ x))
read_set xs p q x = elim (cases_eq q p) [
  | inl same ↦ elim (cases_lt p (length xs)) [
    | inl low ↦ inr (same, ap (λ k. get_or (set xs p x) k 0) same ∙ get_or-set_same xs p x 0 low)
    | inr high ↦ inl (get_or-eq_default (set xs p x) 0 (let l = length-set xs p x in omega (arith, l, high, same))
        ∙ sym (get_or-eq_default xs 0 (omega (arith, high, same))))
  ]
  | inr apart ↦ inl (get_or-set_other xs p q x 0 apart)
]

read_gone : (xs : List (Option Orphan)) (p q : ℕ) (n : ℕ) → store_number (get_or (set xs p None) q None) ≡ Some n → store_number (get_or xs q None) ≡ Some n
read_gone xs p q n is = elim (cases_eq q p) [
  | inl same ↦ absurd (elim (cases_lt p (length xs)) [
    | inl low ↦ (let none : get_or (set xs p None) q None ≡ None = ap (λ k. get_or (set xs p None) k None) same ∙ get_or-set_same xs p None None low in
        let e : None ≡ Some n = sym (ap store_number none) ∙ is in absurd (cc))
    | inr high ↦ (let none : get_or (set xs p None) q None ≡ None = get_or-eq_default (set xs p None) None (let l = length-set xs p None in omega (arith, l, high, same)) in
        let e : None ≡ Some n = sym (ap store_number none) ∙ is in absurd (cc))
  ])
  | inr apart ↦ ap store_number (sym (get_or-set_other xs p q None None apart)) ∙ is
]

out_case : (xs : List ℕ) (p q n : ℕ) → number_at (set xs p 0) q ≡ Some n → number_at xs q ≡ Some n
out_case xs p q n is = elim (read_set xs p q 0) [
  | inl old ↦ ap given_number (sym old) ∙ is
  | inr none ↦ absurd (let e : None ≡ Some n = sym (ap given_number none.1) ∙ is in cc)
]

out_answered : (xs : List ℕ) (p q n : ℕ) (b : Bool) → number_at (if b then set xs p 0 else xs) q ≡ Some n → number_at xs q ≡ Some n
out_answered xs p q n true is = out_case xs p q n is
out_answered xs p q n false is = is

stores_answered : (xs : List (Option Orphan)) (p q n : ℕ) (b : Bool) → store_number (get_or (if b then set xs p None else xs) q None) ≡ Some n
    → store_number (get_or xs q None) ≡ Some n
stores_answered xs p q n true is = read_gone xs p q n is
stores_answered xs p q n false is = is

answered_less : (l m : Line) (p : ℕ) (d : Bool) (s : AsideStage) (e : Option ℕ)
    → ((q n : ℕ) → number_at m.queue.out q ≡ Some n → number_at l.queue.out q ≡ Some n)
    → m.orphans ≡ (if d then set l.orphans p None else l.orphans) → IsLess l s e m s e
answered_less l m p d s e outs orphans (Command q) n low is = outs q n is
answered_less l m p d s e outs orphans (Store q) n low is =
    stores_answered l.orphans p q n d (ap (λ xs. store_number (get_or xs q None)) (sym orphans) ∙ is)
answered_less l m p d s e outs orphans Aside n low is = is
answered_less l m p d s e outs orphans Discard n low is = is

answered_case : (l : Line) (x : Queue) (p : ℕ) (b d : Bool) (s : AsideStage) (e : Option ℕ) → x.out ≡ set l.queue.out p 0 → x.next ≡ l.queue.next
    → AreNumbered l s e
    → AreNumbered (record l { queue = if b then x else l.queue; orphans = if d then set l.orphans p None else l.orphans }) s e
answered_case l x p true d s e out next are =
    let m : Line = record l { queue = x; orphans = if d then set l.orphans p None else l.orphans } in
    less l s e m s e (omega (arith, next))
    (answered_less l m p d s e (λ q n is. out_case l.queue.out p q n (ap (λ xs. number_at xs q) (sym out) ∙ is)) refl) are
answered_case l x p false d s e out next are =
    let m : Line = record l { queue = l.queue; orphans = if d then set l.orphans p None else l.orphans } in
    less l s e m s e (omega arith) (answered_less l m p d s e (λ q n is. is) refl) are

pub answered_line : (l : Line) (p number : ℕ) (i : Input) (s : AsideStage) (e : Option ℕ) → AreNumbered l s e
    → AreNumbered (line_answered l p number i) s e
answered_line l p number i s e are = answered_case l (record { table = with_input l.queue.table p i; out = set l.queue.out p 0; next = l.queue.next }) p
    (is_out l.queue.out p number) (is_of number (orphan l p)) s e refl refl are

-- a request is asked
given_case : (k n : ℕ) (b : Bool) → (if b then Some k else None) ≡ Some n → n ≡ k
given_case k n true is = sym (same_Some k n is)
given_case k n false is = absurd (cc)

given_is : (k n : ℕ) → given_number k ≡ Some n → n ≡ k
given_is k n is = given_case k n (nat_lt 0 k) is

asked_case : (l : Line) (p : ℕ) (s : AsideStage) (e : Option ℕ) (m : Line) → m.queue.out ≡ set l.queue.out p l.queue.next → m.orphans ≡ l.orphans
    → (h : Holder) (n : ℕ) → IsHolder h → number_of m s e h ≡ Some n → (number_of l s e h ≡ Some n) ⊎ ((h ≡ Command p) × (n ≡ l.queue.next))
asked_case l p s e m out orphans (Command q) n low is =
    let at : number_at (set l.queue.out p l.queue.next) q ≡ Some n = ap (λ xs. number_at xs q) (sym out) ∙ is in
    elim (read_set l.queue.out p q l.queue.next) [
      | inl old ↦ inl (ap given_number (sym old) ∙ at)
      | inr new ↦ inr (ap Command new.0, given_is l.queue.next n (ap given_number (sym new.1) ∙ at))
    ]
asked_case l p s e m out orphans (Store q) n low is = inl (ap (λ xs. store_number (get_or xs q None)) (sym orphans) ∙ is)
asked_case l p s e m out orphans Aside n low is = inl is
asked_case l p s e m out orphans Discard n low is = inl is

pub asked_line : (l m : Line) (p : ℕ) (s : AsideStage) (e : Option ℕ) → m.queue.out ≡ set l.queue.out p l.queue.next → m.orphans ≡ l.orphans
    → m.queue.next ≡ l.queue.next + 1 → AreNumbered l s e → AreNumbered m s e
asked_line l m p s e out orphans next are = fresh l s e m s e (Command p) (omega (arith, next)) (asked_case l p s e m out orphans) are

-- ends are sent
record Same (l m : Line) : Type 0 where
  pub out : m.queue.out ≡ l.queue.out
  pub orphans : m.orphans ≡ l.orphans
  pub next : m.queue.next ≡ l.queue.next

same_again : (l m : Line) (x : Line) (b : Bool) → Same l m → x.queue.out ≡ m.queue.out → x.orphans ≡ m.orphans → x.queue.next ≡ m.queue.next
    → Same l (if b then x else m)
same_again l m x true same out orphans next = record { out = out ∙ same.out; orphans = orphans ∙ same.orphans; next = next ∙ same.next }
same_again l m x false same out orphans next = same

ends_same : (l : Line) (n : ℕ) → Same l (ends_sent l n)
unfolding ends_sent
ends_same l zero = record { out = refl; orphans = refl; next = refl }
ends_same l (suc n) = same_again l (ends_sent l n) (line_gone (ends_sent l n) n) (ends_at (ends_sent l n) n && may_send (ends_sent l n) n)
    (ends_same l n) refl refl refl

pub ends_line : (l : Line) (n : ℕ) (s : AsideStage) (e : Option ℕ) → AreNumbered l s e → AreNumbered (ends_sent l n) s e
ends_line l n s e are = let same = ends_same l n in
    same_line l (ends_sent l n) s e same.out same.orphans (let next = same.next in omega (arith, next)) are

-- ## Numbers move: from a command to its store, and from the command beside the queue to its discard, where a reset dropped them

record Was (l : Line) (s : AsideStage) (d : Option ℕ) (to : Holder → Holder) (h : Holder) (n : ℕ) : Type 0 where
  pub from : Holder
  pub low : IsHolder from
  pub is : number_of l s d from ≡ Some n
  pub goes : to from ≡ h

moved : (l : Line) (s : AsideStage) (d : Option ℕ) (m : Line) (t : AsideStage) (e : Option ℕ) (to : Holder → Holder) → l.queue.next ≤ m.queue.next
    → ((h : Holder) (n : ℕ) → IsHolder h → number_of m t e h ≡ Some n → Was l s d to h n) → AreNumbered l s d → AreNumbered m t e
moved l s d m t e to more was are = record {
  each = λ h n low is. (let w = was h n low is in let before = are.each w.from n w.low w.is in record {
    given = (let below = before.given in omega (arith, below, more));
    own = λ g here same. (let v = was g n here same in sym v.goes ∙ ap to (before.own v.from v.low v.is) ∙ w.goes);
  });
}

abbrev dropped : Holder → Holder
dropped (Command p) = Store p
dropped (Store p) = Store p
dropped Aside = Aside
dropped Discard = Discard

left_if : (m : Moment) (k : ℕ) (o : Option Orphan) (n : ℕ) (b : Bool) → store_number (if b then Some (orphan_of m.command k) else o) ≡ Some n
    → (Some k ≡ Some n) ⊎ (store_number o ≡ Some n)
left_if m k o n true is = inl is
left_if m k o n false is = inr is

left_case : (x : Option Moment) (k : Option ℕ) (o : Option Orphan) (n : ℕ) → store_number (left_of x k o) ≡ Some n → (k ≡ Some n) ⊎ (store_number o ≡ Some n)
left_case None k o n is = inr is
left_case (Some m) None o n is = inr is
left_case (Some m) (Some k) o n is = left_if m k o n (is_storing m.stage) is

reset_was : (l : Line) (s : AsideStage) (d : Option ℕ) (h : Holder) (n : ℕ) → IsHolder h → number_of (line_reset l) s d h ≡ Some n → Was l s d dropped h n
reset_was l s d (Command p) n low is =
    let none : number_at (replicate 33 0) p ≡ None = ap given_number (each_is ℕ 33 p 0) in
    absurd (let e : None ≡ Some n = sym none ∙ is in cc)
reset_was l s d (Store p) n low is =
    elim (left_case (command_at l p) (number_at l.queue.out p) (orphan l p) n (ap store_number (sym (left_read l 33 p low)) ∙ is)) [
      | inl out ↦ record { from = Command p; low = low; is = out; goes = refl }
      | inr old ↦ record { from = Store p; low = low; is = old; goes = refl }
    ]
reset_was l s d Aside n low is = record { from = Aside; low = tt; is = is; goes = refl }
reset_was l s d Discard n low is = record { from = Discard; low = tt; is = is; goes = refl }

pub reset_line : (l : Line) (s : AsideStage) (d : Option ℕ) → AreNumbered l s d → AreNumbered (line_reset l) s d
reset_line l s d are = moved l s d (line_reset l) s d dropped (omega arith) (reset_was l s d) are

sent_case : (s : Schedule) (x y : Schedule) (b : Bool) (t : AsideStage) (d : Option ℕ) → AreNumbered x.line t d → AreNumbered y.line t d
    → AreNumbered (if b then x else y).line t d
sent_case s x y true t d ax ay = ax
sent_case s x y false t d ax ay = ay

pub sent_line : (s : Schedule) (p : ℕ) (t : AsideStage) (d : Option ℕ) → AreNumbered s.line t d → AreNumbered (line_sent s p).line t d
sent_line s p t d are =
    let gone = same_line s.line (line_gone s.line p) t d refl refl (omega arith) are in
    sent_case s (record { line = line_reset (line_gone s.line p); limit = s.limit; fault = Some p }) (with_line s (line_gone s.line p)) (ends_all s.line p) t d
    (reset_line (line_gone s.line p) t d gone) gone

-- ## The command beside the queue

beside_case : (l : Line) (s : AsideStage) (d : Option ℕ) (t : AsideStage) (e : Option ℕ)
    → ((n : ℕ) → asked_number t ≡ Some n → asked_number s ≡ Some n) → ((n : ℕ) → e ≡ Some n → d ≡ Some n) → IsLess l s d l t e
beside_case l s d t e stages' drops (Command p) n low is = is
beside_case l s d t e stages' drops (Store p) n low is = is
beside_case l s d t e stages' drops Aside n low is = stages' n is
beside_case l s d t e stages' drops Discard n low is = drops n is

pub beside_less : (l : Line) (s : AsideStage) (d : Option ℕ) (t : AsideStage) (e : Option ℕ)
    → ((n : ℕ) → asked_number t ≡ Some n → asked_number s ≡ Some n) → ((n : ℕ) → e ≡ Some n → d ≡ Some n) → AreNumbered l s d → AreNumbered l t e
beside_less l s d t e stages' drops are = less l s d l t e (omega arith) (beside_case l s d t e stages' drops) are

pub settled_less : (l : Line) (s : AsideStage) (d : Option ℕ) (well : Bool) → AreNumbered l s d → AreNumbered l (settled well) d
settled_less l s d true are = beside_less l s d stages.Done d (λ n is. absurd (cc)) (λ n is. is) are
settled_less l s d false are = beside_less l s d stages.Failed d (λ n is. absurd (cc)) (λ n is. is) are

pub none_dropped : (l : Line) (s : AsideStage) (d : Option ℕ) → AreNumbered l s d → AreNumbered l s None
none_dropped l s d are = beside_less l s d s None (λ n is. is) (λ n is. absurd (cc)) are

pub waits : (l : Line) (s : AsideStage) (d : Option ℕ) → AreNumbered l s d → AreNumbered l stages.Waiting d
waits l s d are = beside_less l s d stages.Waiting d (λ n is. absurd (cc)) (λ n is. is) are

pub rests : (l : Line) (s : AsideStage) (d : Option ℕ) → AreNumbered l s d → AreNumbered l stages.Idle d
rests l s d are = beside_less l s d stages.Idle d (λ n is. absurd (cc)) (λ n is. is) are

aside_case : (l m : Line) (s : AsideStage) (d : Option ℕ) → m.queue.out ≡ l.queue.out → m.orphans ≡ l.orphans
    → (h : Holder) (n : ℕ) → IsHolder h → number_of m (stages.Asked l.queue.next) d h ≡ Some n
    → (number_of l s d h ≡ Some n) ⊎ ((h ≡ Aside) × (n ≡ l.queue.next))
aside_case l m s d out orphans (Command q) n low is = inl (ap (λ xs. number_at xs q) (sym out) ∙ is)
aside_case l m s d out orphans (Store q) n low is = inl (ap (λ xs. store_number (get_or xs q None)) (sym orphans) ∙ is)
aside_case l m s d out orphans Aside n low is = inr (refl, sym (same_Some l.queue.next n is))
aside_case l m s d out orphans Discard n low is = inl is

pub asked_aside : (l m : Line) (s : AsideStage) (d : Option ℕ) → m.queue.out ≡ l.queue.out → m.orphans ≡ l.orphans → m.queue.next ≡ l.queue.next + 1
    → AreNumbered l s d → AreNumbered m (stages.Asked l.queue.next) d
asked_aside l m s d out orphans next are = fresh l s d m (stages.Asked l.queue.next) d Aside (omega (arith, next)) (aside_case l m s d out orphans) are

abbrev beside : Holder → Holder
beside (Command p) = Command p
beside (Store p) = Store p
beside Aside = Discard
beside Discard = Discard

beside_was : (l : Line) (k : AsideKind) (s : AsideStage) (d : Option ℕ) (n : ℕ) → dropped_by k s d ≡ Some n → Was l s d beside Discard n
beside_was l kinds.Flush s d n is = record { from = Discard; low = tt; is = is; goes = refl }
beside_was l kinds.Discard (stages.Asked k) d n is = record { from = Aside; low = tt; is = is; goes = refl }
beside_was l kinds.Discard stages.Idle d n is = record { from = Discard; low = tt; is = is; goes = refl }
beside_was l kinds.Discard stages.Waiting d n is = record { from = Discard; low = tt; is = is; goes = refl }
beside_was l kinds.Discard stages.Done d n is = record { from = Discard; low = tt; is = is; goes = refl }
beside_was l kinds.Discard stages.Failed d n is = record { from = Discard; low = tt; is = is; goes = refl }

drops_was : (l : Line) (k : AsideKind) (s : AsideStage) (d : Option ℕ) (h : Holder) (n : ℕ) → IsHolder h
    → number_of l stages.Idle (dropped_by k s d) h ≡ Some n → Was l s d beside h n
drops_was l k s d (Command p) n low is = record { from = Command p; low = low; is = is; goes = refl }
drops_was l k s d (Store p) n low is = record { from = Store p; low = low; is = is; goes = refl }
drops_was l k s d Aside n low is = absurd (cc)
drops_was l k s d Discard n low is = beside_was l k s d n is

pub drops : (l : Line) (k : AsideKind) (s : AsideStage) (d : Option ℕ) → AreNumbered l s d → AreNumbered l stages.Idle (dropped_by k s d)
drops l k s d are = moved l s d l stages.Idle (dropped_by k s d) beside (omega arith) (drops_was l k s d) are

-- ## Calls that may be refused

pub refusable : {A E : Type 0} (result : Result A E) (old new next : Schedule) (s : AsideStage) (d : Option ℕ) → OnOk result (new ≡ next)
    → OnErr result (new ≡ old) → AreNumbered old.line s d → AreNumbered next.line s d → AreNumbered new.line s d
refusable (Ok x) old new next s d ok err are after = rw ok after
refusable (Err x) old new next s d ok err are after = rw err are

-- ## A new engine

no_number : (h : Holder) (n : ℕ) → number_of none_in_line stages.Idle None h ≡ Some n → ⊥
no_number (Command p) n is = let none : number_at (replicate 33 0) p ≡ None = ap given_number (each_is ℕ 33 p 0) in
    let e : None ≡ Some n = sym none ∙ is in cc
no_number (Store p) n is = let none : store_number (get_or (replicate 33 None) p None) ≡ None = ap store_number (each_is (Option Orphan) 33 p None) in
    let e : None ≡ Some n = sym none ∙ is in cc
no_number Aside n is = cc
no_number Discard n is = cc

pub none_numbered : AreNumbered none_in_line stages.Idle None
none_numbered = record { each = λ h n low is. absurd (no_number h n is) }

-- ## What is tested of a restored engine

abbrev index_of : Holder → ℕ
index_of (Command p) = p
index_of (Store p) = p + 33
index_of Aside = 66
index_of Discard = 67

if_true : (b : Bool) (x y : Holder) → b ≡ true → (if b then x else y) ≡ x
if_true true x y e = refl
if_true false x y e = absurd (cc)

if_false : (b : Bool) (x y : Holder) → b ≡ false → (if b then x else y) ≡ y
if_false false x y e = refl
if_false true x y e = absurd (cc)

at_low : (k : ℕ) → k < 33 → holder_at k ≡ Command k
at_low k low = if_true (nat_lt k 33) _ _ (lt-ltb k 33 low)

at_middle : (k : ℕ) → 33 ≤ k → k < 66 → holder_at k ≡ Store (k - 33)
at_middle k high low = if_false (nat_lt k 33) _ _ (le-ltb k 33 high) ∙ if_true (nat_lt k 66) _ _ (lt-ltb k 66 low)

at_index : (h : Holder) → IsHolder h → holder_at (index_of h) ≡ h
at_index (Command p) low = at_low p low
at_index (Store p) low = at_middle (p + 33) (omega arith) (omega (arith, low)) ∙ ap Store (omega arith)
at_index Aside low = refl
at_index Discard low = refl

index_low : (h : Holder) → IsHolder h → index_of h < 68
index_low (Command p) low = omega (arith, low)
index_low (Store p) low = omega (arith, low)
index_low Aside low = omega arith
index_low Discard low = omega arith

record Found (k : ℕ) : Type 0 where
  pub holder : Holder
  pub is : holder_at k ≡ holder
  pub low : IsHolder holder
  pub index : index_of holder ≡ k

found : (k : ℕ) → k < 68 → Found k
found k low = elim (cases_lt k 33) [
  | inl first ↦ record { holder = Command k; is = at_low k first; low = first; index = refl }
  | inr high ↦ elim (cases_lt k 66) [
    | inl second ↦ record { holder = Store (k - 33); is = at_middle k high second; low = omega (arith, high, second); index = omega (arith, high) }
    | inr last ↦ elim (cases_eq k 66) [
      | inl same ↦ record { holder = Aside; is = ap holder_at same; low = tt; index = sym same }
      | inr apart ↦ (let same : k ≡ 67 = omega (arith, low, last, apart) in
          record { holder = Discard; is = ap holder_at same; low = tt; index = sym same })
    ]
  ]
]

first_false : (x y : Bool) → (x && y) ≡ false → y ≡ true → x ≡ false
first_false true y e f = absurd (cc)
first_false false y e f = refl

is_same : (o : Option ℕ) (n : ℕ) → o ≡ Some n → is_number o n ≡ true
is_same None n e = absurd (cc)
is_same (Some k) n e = eq-eqb k n (same_Some k n e)

same_is : (o : Option ℕ) (n : ℕ) → is_number o n ≡ true → o ≡ Some n
same_is None n e = absurd (cc)
same_is (Some k) n e = ap Some (eqb-true k n e)

unshared : (l : Line) (s : AsideStage) (d : Option ℕ) (k n j : ℕ) → has_number l s d k n j ≡ false → number_of l s d (holder_at j) ≡ Some n → j ≡ k
unshared l s d k n j e is = eqb-true j k (not-false (j == k) (first_false (not (j == k)) _ e (is_same _ n is)))

pub fit_numbered : (l : Line) (s : AsideStage) (d : Option ℕ) → are_numbered l s d ≡ true → AreNumbered l s d
fit_numbered l s d fit = record {
  each = λ h n low is.
      (let right = any_at (is_misnumbered l s d) 68 (index_of h) (not-true _ fit) (index_low h low) in
      let at : number_of l s d (holder_at (index_of h)) ≡ Some n = ap (number_of l s d) (at_index h low) ∙ is in
      let both = of_or (any_below (has_number l s d (index_of h) n) 68) (nat_le l.queue.next n)
      (ap (misnumbered l s d (index_of h)) (sym at) ∙ right) in
      record {
        given = leb-false l.queue.next n both.1;
        own = λ g here same.
            (let j = index_of g in
            let there : number_of l s d (holder_at j) ≡ Some n = ap (number_of l s d) (at_index g here) ∙ same in
            let at_one = unshared l s d (index_of h) n j (any_at (has_number l s d (index_of h) n) 68 j both.0 (index_low g here)) there in
            sym (at_index g here) ∙ ap holder_at at_one ∙ at_index h low);
      });
}

and_no : (x y : Bool) → x ≡ false → (x && y) ≡ false
and_no false y e = refl
and_no true y e = absurd (cc)

and_last : (x y : Bool) → y ≡ false → (x && y) ≡ false
and_last false y e = refl
and_last true y e = e

or_none : (x y : Bool) → x ≡ false → y ≡ false → (x || y) ≡ false
or_none false y e f = f
or_none true y e f = absurd (cc)

not_shared : (l : Line) (s : AsideStage) (d : Option ℕ) (k n j : ℕ) → AreNumbered l s d → k < 68 → j < 68 → number_of l s d (holder_at k) ≡ Some n
    → has_number l s d k n j ≡ false
not_shared l s d k n j are low below is = elim (cases_eq j k) [
  | inl same ↦ and_no (not (j == k)) _ (not_from_true (j == k) (eq-eqb j k same))
  | inr apart ↦ and_last (not (j == k)) _ (false_from_ne_true _ (λ e.
      (let one = found k low in
      let other = found j below in
      let a = are.each one.holder n one.low (ap (number_of l s d) (sym one.is) ∙ is) in
      let is_one = a.own other.holder other.low (ap (number_of l s d) (sym other.is) ∙ same_is _ n e) in
      apart (sym other.index ∙ ap index_of is_one ∙ one.index))))
]

right_case : (l : Line) (s : AsideStage) (d : Option ℕ) (k : ℕ) (x : Option ℕ) → AreNumbered l s d → k < 68 → number_of l s d (holder_at k) ≡ x
    → misnumbered l s d k x ≡ false
right_case l s d k None are low is = refl
right_case l s d k (Some n) are low is =
    let one = found k low in
    let a = are.each one.holder n one.low (ap (number_of l s d) (sym one.is) ∙ is) in
    or_none (any_below (has_number l s d k n) 68) (nat_le l.queue.next n)
    (any_none (has_number l s d k n) 68 (λ j below. not_shared l s d k n j are low below is)) (lt-leb l.queue.next n a.given)

pub numbered_fit : (l : Line) (s : AsideStage) (d : Option ℕ) → AreNumbered l s d → are_numbered l s d ≡ true
numbered_fit l s d are = not_from_false (any_below (is_misnumbered l s d) 68)
    (any_none (is_misnumbered l s d) 68 (λ k low. right_case l s d k _ are low refl))
