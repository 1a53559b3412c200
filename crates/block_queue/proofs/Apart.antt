-- No request is asked while another that shares a sector is out, unless both are loads: each request that is out is one of a
-- command that waits for it, or a dropped store.
use Rattle.std.proofs.Common.{◌≡◌, ◌≢◌, ℕ, ◌+◌, ◌-◌, ◌<◌, ◌≤◌, true, false, List, [], ◌∷◌, length, get_or, set, Some, None, refl, sym, ap, ◌∙◌, arith}
use Rattle.std.proofs.{Common.{inl, inr, ◌⊎◌, subst}, lemmas.{Bool.{cases_eq, cases_lt, lt-ltb, eqb-true, eq-eqb, ltb-false}, Option.same_Some}}
use Rattle.std.proofs.lemmas.{Option.{none-some}, List.{get_or-set_same, get_or-set_other, length-set, FromFn.{get_or-map-range_with_len}}}
use Rattle.std.specs.{Prelude.{Option, Bool, not, ◌&&◌, nat_lt, cond, if◌then◌else◌}, Option.option_map, List.filter}
use Rattle.block_command.specs.declared.command.{Command.Command, Stage.{Stage, TheVariants.{Load, Loading, Store, Storing, Flush, Flushing}}}
use Rattle.block_command.specs.{Moments.{Moment, runs, gone, is_ended, is_storing, opening, part_count, turn_of}, Laws.{Input, Goes, Comes}}
use Rattle.block_command.specs.Laws.{Happening, Ledger, after, shown}
use Rattle.block_command.proofs.Door.{Agrees, same_command, at as moment}
use Rattle.block_disk.specs.{Table.{Table, is_under_way, with_command, with_input}, Laws.{Page, Took, Refused, shown_at}, Requests.{Books, Queue}}
use Rattle.block_disk.specs.Requests.{after_act, number_at, with_table, OnLink, Asked, asks_at, entered_by, is_answer, is_out, is_request, no_books}
use Rattle.block_disk.specs.Requests.{number_of, seen, with_asked, with_drawn}
use Rattle.block_disk.proofs.Door.{Agree, Matches}
use Rattle.block_queue.specs.Line.{Line, IsLine, bars, command_at, conflict, is_in_way, is_of, left_at, left_below, left_of, line_answered}
use Rattle.block_queue.specs.{Line.{line_reset, moved_back, none_in_line, orphan, orphan_of, rank, share, with_queue}, declared.queue.Orphan.Orphan}
use Rattle.block_queue.specs.Deeds.{Deed, Takes, Starts, Sends, Asks, Hears, Answers, Resets, Draws, IsDeed, AreDeeds, act_of, after_deed, seen_of}
use Rattle.block_queue.specs.Deeds.{Out, Has, is_store, AreApart, Each, is_other, is_stored, out_after, IsApart, AllAreApart, RequestsAreApart}
use Rattle.block_queue.specs.Deeds.{waits_for_caller}
use Rattle.block_queue.proofs.{Kept.{of_and, of_or, long_replicate, new_line}, Deeds.{agree_after, line_after, no_agree, same_queue}}

-- ## What a request is backed by

abbrev Lies : ℕ → ℕ → Happening → Type 0
Lies lba count h = (s : ℕ) → Has h s → (lba ≤ s) × (s < lba + count)

-- a command that waits for its answer
record IsAsked (l : Line) (r : Out) : Type 0 where
  pub moment : Moment
  pub low : r.place < 33
  pub here : command_at l r.place ≡ Some moment
  pub number : get_or l.queue.out r.place 0 ≡ r.number
  pub some : 0 < r.number
  pub waits : waits_for_caller moment.stage ≡ true
  pub lies : Lies moment.command.lba moment.command.count r.what
  pub kind : is_store r.what ≡ true → (moment.command.write ≡ true) × (is_storing moment.stage ≡ true)

-- a dropped store
record IsDropped (l : Line) (r : Out) : Type 0 where
  pub store : Orphan
  pub low : r.place < 33
  pub here : orphan l r.place ≡ Some store
  pub number : store.number ≡ r.number
  pub lies : Lies store.lba store.count r.what

abbrev Backed : Line → Out → Type 0
Backed l r = IsAsked l r ⊎ IsDropped l r

-- ## Requests that are out, one by one

each_map : (P Q : Out → Type 0) (out : List Out) → ((r : Out) → P r → Q r) → Each P out → Each Q out
each_map P Q [] f all = tt
each_map P Q (r ∷ later) f all = (f r all.0, each_map P Q later f all.1)

each_cond : (Q : Out → Type 0) (b : Bool) (r : Out) (later : List Out) → (b ≡ true → Q r) → Each Q later → Each Q (cond b (r ∷ later) later)
each_cond Q true r later f all = (f refl, all)
each_cond Q false r later f all = all

each_filter : (P Q : Out → Type 0) (test : Out → Bool) (out : List Out) → ((r : Out) → test r ≡ true → P r → Q r)
    → Each P out → Each Q (filter test out)
each_filter P Q test [] f all = tt
each_filter P Q test (r ∷ later) f all = each_cond Q (test r) r _ (λ e. f r e all.0) (each_filter P Q test later f all.1)

-- ## A command that waits for the caller

-- nothing else changes it
waits_still : (c : Command) (done : ℕ) (bytes : List ℕ) (sent : ℕ) (stage : Stage) (i : Input) → is_answer i ≡ false
    → waits_for_caller stage ≡ true → after (moment c done bytes sent stage) i ≡ moment c done bytes sent stage
waits_still c done bytes sent Loading Goes quiet e = refl
waits_still c done bytes sent Loading (Comes part) quiet e = refl
waits_still c done bytes sent Storing Goes quiet e = refl
waits_still c done bytes sent Storing (Comes part) quiet e = refl
waits_still c done bytes sent Flushing Goes quiet e = refl
waits_still c done bytes sent Flushing (Comes part) quiet e = refl
waits_still c done bytes sent stage Goes quiet e = absurd (cc)
waits_still c done bytes sent stage (Comes part) quiet e = absurd (cc)
waits_still c done bytes sent stage i quiet e = absurd (cc)

still_there : (x : Option Moment) (i : Input) (m : Moment) → is_answer i ≡ false → waits_for_caller m.stage ≡ true → x ≡ Some m
    → option_map (λ m. after m i) x ≡ Some m
still_there None i m quiet waits e = absurd (cc)
still_there (Some k) i m quiet waits e =
    let same : k ≡ m = same_Some _ _ e in
    rw same (ap Some (waits_still m.command m.done m.bytes m.sent m.stage i quiet waits))

-- it asks for nothing, runs, and has not ended
waits_silent : (stage : Stage) → waits_for_caller stage ≡ true → is_request (turn_of stage) ≡ true → ⊥
waits_silent Loading e f = cc
waits_silent Storing e f = cc
waits_silent Flushing e f = cc
waits_silent stage e f = cc

waits_runs : (stage : Stage) → waits_for_caller stage ≡ true → (runs stage ≡ true) × (is_ended stage ≡ false)
waits_runs Loading e = (refl, refl)
waits_runs Storing e = (refl, refl)
waits_runs Flushing e = (refl, refl)
waits_runs stage e = absurd (cc)

request_runs : (stage : Stage) → is_request (turn_of stage) ≡ true → (runs stage ≡ true) × (is_ended stage ≡ false)
request_runs Load e = (refl, refl)
request_runs Store e = (refl, refl)
request_runs Flush e = (refl, refl)
request_runs stage e = absurd (cc)

-- ## What is asked lies within its command

part_case : (n : ℕ) (b : Bool) → nat_lt n 2048 ≡ b → (if b then n else 2048) ≤ n
part_case n true e = omega arith
part_case n false e = ltb-false _ _ e

part_below : (c : Command) (done : ℕ) → part_count c done ≤ c.count - done
part_below c done = part_case (c.count - done) _ refl

record IsWithin (c : Command) (stage : Stage) (h : Happening) : Type 0 where
  pub lies : Lies c.lba c.count h
  pub kind : is_store h ≡ true → (c.write ≡ true) × (is_storing stage ≡ true)
  pub waits : waits_for_caller stage ≡ true

asks_within : (c : Command) (done : ℕ) (bytes : List ℕ) (sent : ℕ) (stage : Stage) (ledger : Ledger)
    → Agrees c (moment c done bytes sent stage) ledger → is_request (turn_of stage) ≡ true
    → IsWithin c (gone (moment c done bytes sent stage) stage).stage (shown (moment c done bytes sent stage) (turn_of stage))
asks_within c done bytes sent Load ledger (inl over) e = absurd (cc)
asks_within c done bytes sent Load ledger (inr k) e = record {
  lies = λ s h. (let below = part_below c done in let more = k.facts.1.1 in let first = h.0 in let last = h.1 in
      (omega (arith, first), omega (arith, below, more, last)));
  kind = λ f. absurd (cc);
  waits = refl;
}
asks_within c done bytes sent Store ledger (inl over) e = absurd (cc)
asks_within c done bytes sent Store ledger (inr k) e = record {
  lies = λ s h. (let below = part_below c done in let more = k.facts.1.1 in let long = k.facts.2 in let first = h.0 in let last = h.1 in
      (omega (arith, first), omega (arith, below, more, long, last)));
  kind = λ f. (k.facts.0, refl);
  waits = refl;
}
asks_within c done bytes sent Flush ledger agrees e = record { lies = λ s h. absurd h; kind = λ f. absurd (cc); waits = refl }
asks_within c done bytes sent stage ledger agrees e = absurd (cc)

page_within : (m : Moment) (x : Option Moment) (y : Option Page) → Matches x y → x ≡ Some m → is_request (turn_of m.stage) ≡ true
    → IsWithin m.command (gone m m.stage).stage (shown m (turn_of m.stage))
page_within m None y match' e f = absurd (cc)
page_within m (Some k) None match' e f = absurd match'
page_within m (Some k) (Some p) match' e f =
    let same : k ≡ m = same_Some _ _ e in
    asks_within m.command m.done m.bytes m.sent m.stage p.ledger
    (rw (← same) (rw (match'.0) match'.1)) f

-- ## Sectors

both : (x y : Bool) → x ≡ true → y ≡ true → (x && y) ≡ true
both true y e f = f
both false y e f = absurd (cc)

share_of : (a n b k s : ℕ) → a ≤ s → s < a + n → b ≤ s → s < b + k → share a n b k ≡ true
share_of a n b k s first last first' last' = both _ _ (lt-ltb a (b + k) (omega (arith, first, last'))) (lt-ltb b (a + n) (omega (arith, first', last)))

first_false : (x y : Bool) → (x && y) ≡ false → y ≡ true → x ≡ false
first_false false y e f = refl
first_false true y e f = absurd (let g = sym e ∙ f in cc)

-- two commands that share a sector without conflict write nothing
no_writes : (c d : Command) (s : ℕ) → conflict c d ≡ false → c.lba ≤ s → s < c.lba + c.count → d.lba ≤ s → s < d.lba + d.count
    → (c.write ≡ false) × (d.write ≡ false)
no_writes c d s e first last first' last' = of_or _ _ (first_false _ _ e (share_of c.lba c.count d.lba d.count s first last first' last'))

not_stored : (b w : Bool) → (b ≡ true → w ≡ true) → w ≡ false → b ≡ false
not_stored false w f e = refl
not_stored true w f e = absurd (let g = f refl in cc)

second_false : (x y : Bool) → (x && y) ≡ false → x ≡ true → y ≡ false
second_false true y e f = e
second_false false y e f = absurd (cc)

in_way_false : (c : Command) (m : Moment) → is_in_way c (Some m) ≡ false → is_ended m.stage ≡ false → conflict c m.command ≡ false
in_way_false c m e f = second_false _ _ e (ap not f)

-- ## What is asked is apart from what is out

-- two commands that run and share a sector write nothing
first_clear : (l : Line) (p q : ℕ) (m k : Moment) → IsLine l → p < 33 → q < 33 → command_at l p ≡ Some m → command_at l q ≡ Some k
    → runs m.stage ≡ true → is_ended k.stage ≡ false → rank l q < rank l p → conflict m.command k.command ≡ false
first_clear l p q m k line low low' here there run alive less =
    in_way_false m.command k (subst (λ x. is_in_way m.command x ≡ false) there ((line.clear p m low here run).first q low' (lt-ltb _ _ less))) alive

neither_writes : (l : Line) (p q : ℕ) (m k : Moment) (s : ℕ) → IsLine l → p < 33 → q < 33 → command_at l p ≡ Some m → command_at l q ≡ Some k
    → (runs m.stage ≡ true) × (is_ended m.stage ≡ false) → (runs k.stage ≡ true) × (is_ended k.stage ≡ false) → p ≢ q
    → m.command.lba ≤ s → s < m.command.lba + m.command.count → k.command.lba ≤ s → s < k.command.lba + k.command.count
    → (m.command.write ≡ false) × (k.command.write ≡ false)
neither_writes l p q m k s line low low' here there run run' apart first last first' last' = elim (cases_lt (rank l q) (rank l p)) [
  | inl less ↦ no_writes m.command k.command s (first_clear l p q m k line low low' here there run.0 run'.1 less) first last first' last'
  | inr least ↦
      let less : rank l p < rank l q = (let other : rank l p ≢ rank l q = λ e. apart (line.own p q low low' e) in omega (arith, least, other)) in
      let writes = no_writes k.command m.command s (first_clear l q p k m line low' low there here run'.0 run.1 less) first' last' first last in
      (writes.1, writes.0)
]

apart_asked : (l : Line) (p : ℕ) (m : Moment) (h : Happening) (r : Out) → IsLine l → p < 33 → command_at l p ≡ Some m
    → is_request (turn_of m.stage) ≡ true → Lies m.command.lba m.command.count h → (is_store h ≡ true → m.command.write ≡ true)
    → IsAsked l r → AreApart h r.what
apart_asked l p m h r line low here asks lies kind a = elim (cases_eq r.place p) [
  | inl same ↦ absurd (waits_silent m.stage (ap (λ n. waits_for_caller n.stage) (same_Some m a.moment (sym here ∙ sym (ap (command_at l) same) ∙ a.here)) ∙ a.waits) asks)
  | inr apart ↦ λ s mine theirs. (let x = lies s mine in let y = a.lies s theirs in
      let writes = neither_writes l p r.place m a.moment s line low a.low here a.here (request_runs m.stage asks) (waits_runs a.moment.stage a.waits)
      (λ e. apart (sym e)) x.0 x.1 y.0 y.1 in
      (not_stored _ _ kind writes.0, not_stored _ _ (λ e. (a.kind e).0) writes.1))
]

apart_dropped : (l : Line) (p : ℕ) (m : Moment) (h : Happening) (r : Out) → IsLine l → p < 33 → command_at l p ≡ Some m
    → is_request (turn_of m.stage) ≡ true → Lies m.command.lba m.command.count h → IsDropped l r → AreApart h r.what
apart_dropped l p m h r line low here asks lies d = λ s mine theirs. (let x = lies s mine in let y = d.lies s theirs in
    let free = subst (λ o. bars m.command o ≡ false) d.here ((line.clear p m low here (request_runs m.stage asks).0).spared r.place d.low) in
    let shared = share_of m.command.lba m.command.count d.store.lba d.store.count s x.0 x.1 y.0 y.1 in
    absurd (cc))

apart_backed : (l : Line) (p : ℕ) (m : Moment) (h : Happening) → IsLine l → p < 33 → command_at l p ≡ Some m
    → is_request (turn_of m.stage) ≡ true → Lies m.command.lba m.command.count h → (is_store h ≡ true → m.command.write ≡ true)
    → (r : Out) → Backed l r → AreApart h r.what
apart_backed l p m h line low here asks lies kind r (inl a) = apart_asked l p m h r line low here asks lies kind a
apart_backed l p m h line low here asks lies kind r (inr d) = apart_dropped l p m h r line low here asks lies d

-- ## What is out stays backed

here_set : (places : List (Option Moment)) (p : ℕ) (x : Option Moment) (r : Out) (m : Moment) → length places ≡ 33 → p < 33
    → get_or places r.place None ≡ Some m → (get_or places p None ≡ Some m → x ≡ Some m)
    → get_or (set places p x) r.place None ≡ Some m
here_set places p x r m long low here same = elim (cases_eq r.place p) [
  | inl is ↦ rw is (get_or-set_same places p x None (omega (arith, low, long)) ∙ same (sym (ap (λ n. get_or places n None) is) ∙ here))
  | inr apart ↦ get_or-set_other places p r.place x None apart ∙ here
]

set_backed : (l : Line) (p : ℕ) (x : Option Moment) (wire : Option ℕ) (next : ℕ) (ranks : List ℕ) → IsLine l → p < 33
    → ((m : Moment) → command_at l p ≡ Some m → waits_for_caller m.stage ≡ true → x ≡ Some m)
    → (r : Out) → Backed l r
    → Backed (record {
      queue = record { table = record { places = set l.queue.table.places p x; wire = wire }; out = l.queue.out; next = next };
      ranks = ranks;
      orphans = l.orphans;
    }) r
set_backed l p x wire next ranks line low same r (inl a) = inl (record {
  moment = a.moment;
  low = a.low;
  here = here_set l.queue.table.places p x r a.moment line.places low a.here (λ e. same a.moment e a.waits);
  number = a.number;
  some = a.some;
  waits = a.waits;
  lies = a.lies;
  kind = a.kind;
})
set_backed l p x wire next ranks line low same r (inr d) = inr (record {
  store = d.store;
  low = d.low;
  here = d.here;
  number = d.number;
  lies = d.lies;
})

-- a FIS, in either direction, or a start
quiet_backed : (l : Line) (p : ℕ) (i : Input) (wire : Option ℕ) → IsLine l → p < 33 → is_answer i ≡ false → (r : Out) → Backed l r
    → Backed (record {
      queue = record {
        table = record { places = set l.queue.table.places p (option_map (λ m. after m i) (command_at l p)); wire = wire };
        out = l.queue.out;
        next = l.queue.next;
      };
      ranks = l.ranks;
      orphans = l.orphans;
    }) r
quiet_backed l p i wire line low quiet r back = set_backed l p _ wire l.queue.next l.ranks line low
    (λ m here waits. still_there (command_at l p) i m quiet waits here) r back

-- a command is taken: at its place nothing is under way
new_waits : (c : Command) (x : Option Moment) (m : Moment) → is_under_way x ≡ false → x ≡ Some m → waits_for_caller m.stage ≡ true → Some (opening c) ≡ Some m
new_waits c None m e f waits = absurd (cc)
new_waits c (Some k) m e f waits =
    let same : k ≡ m = same_Some _ _ f in
    let alive = (waits_runs m.stage waits).1 in
    absurd (let g : not (is_ended m.stage) ≡ false = sym (ap (λ n. not (is_ended n.stage)) same) ∙ e in let h = ap not alive in cc)

-- a request is asked
asked_still : (l : Line) (p : ℕ) (m : Moment) (r : Out) → IsLine l → p < 33 → command_at l p ≡ Some m → is_request (turn_of m.stage) ≡ true
    → Backed l r → Backed (with_queue l (with_asked l.queue p)) r
asked_still l p m r line low here asks (inl a) = elim (cases_eq r.place p) [
  | inl same ↦ absurd (waits_silent m.stage (ap (λ n. waits_for_caller n.stage) (same_Some m a.moment (sym here ∙ sym (ap (command_at l) same) ∙ a.here)) ∙ a.waits) asks)
  | inr apart ↦ inl (record {
    moment = a.moment;
    low = a.low;
    here = get_or-set_other l.queue.table.places p r.place _ None apart ∙ a.here;
    number = get_or-set_other l.queue.out p r.place _ 0 apart ∙ a.number;
    some = a.some;
    waits = a.waits;
    lies = a.lies;
    kind = a.kind;
  })
]
asked_still l p m r line low here asks (inr d) = inr (record { store = d.store; low = d.low; here = d.here; number = d.number; lies = d.lies })

asked_new : (l : Line) (p : ℕ) (m : Moment) (h : Happening) → IsLine l → p < 33 → length l.queue.out ≡ 33 → 0 < l.queue.next → command_at l p ≡ Some m
    → IsWithin m.command (gone m m.stage).stage h
    → Backed (with_queue l (with_asked l.queue p)) (record { place = p; number = l.queue.next; what = h })
asked_new l p m h line low long some here within =
    let command : (gone m m.stage).command ≡ m.command = same_command m.command m.done m.bytes m.sent m.stage Goes in
    inl (record {
      moment = gone m m.stage;
      low = low;
      here = get_or-set_same l.queue.table.places p (option_map (λ m. after m Goes) (command_at l p)) None (omega (arith, low, line.places))
          ∙ ap (option_map (λ m. after m Goes)) here;
      number = get_or-set_same l.queue.out p l.queue.next 0 (omega (arith, low, long));
      some = some;
      waits = within.waits;
      lies = rw command within.lies;
      kind = rw command within.kind;
    })

-- an answer
other_number : (p number : ℕ) (r : Out) → is_other p number r ≡ true → r.place ≡ p → r.number ≢ number
other_number p number r other same = λ e. (let f = eq-eqb r.place p same in let g = eq-eqb r.number number e in
    let h = both _ _ f g in let k = ap not h in cc)

asked_answered : (l : Line) (p number : ℕ) (i : Input) (orphans : List (Option Orphan)) (b : Bool) (r : Out) → is_out l.queue.out p number ≡ b
    → is_other p number r ≡ true → IsAsked l r
    → IsAsked (record {
      queue = if b then record { table = with_command l.queue.table p (option_map (λ m. after m i) (command_at l p)); out = set l.queue.out p 0; next = l.queue.next }
          else l.queue;
      ranks = l.ranks;
      orphans = orphans;
    }) r
asked_answered l p number i orphans false r is other a = record {
  moment = a.moment;
  low = a.low;
  here = a.here;
  number = a.number;
  some = a.some;
  waits = a.waits;
  lies = a.lies;
  kind = a.kind;
}
asked_answered l p number i orphans true r is other a = elim (cases_eq r.place p) [
  | inl same ↦ absurd (let n = eqb-true (get_or l.queue.out p 0) number (of_and _ _ is).1 in
      other_number p number r other same (sym a.number ∙ ap (λ k. get_or l.queue.out k 0) same ∙ n))
  | inr apart ↦ record {
    moment = a.moment;
    low = a.low;
    here = get_or-set_other l.queue.table.places p r.place _ None apart ∙ a.here;
    number = get_or-set_other l.queue.out p r.place 0 0 apart ∙ a.number;
    some = a.some;
    waits = a.waits;
    lies = a.lies;
    kind = a.kind;
  }
]

dropped_answered : (l : Line) (p number : ℕ) (q : Queue) (b : Bool) (r : Out) → is_of number (orphan l p) ≡ b
    → is_other p number r ≡ true → IsDropped l r
    → IsDropped (record { queue = q; ranks = l.ranks; orphans = if b then set l.orphans p None else l.orphans }) r
dropped_answered l p number q false r is other d = record { store = d.store; low = d.low; here = d.here; number = d.number; lies = d.lies }
dropped_answered l p number q true r is other d = elim (cases_eq r.place p) [
  | inl same ↦ absurd (let there : orphan l p ≡ Some d.store = sym (ap (orphan l) same) ∙ d.here in
      let n = eqb-true d.store.number number (subst (λ o. is_of number o ≡ true) there is) in
      other_number p number r other same (sym d.number ∙ n))
  | inr apart ↦ record {
    store = d.store;
    low = d.low;
    here = get_or-set_other l.orphans p r.place None None apart ∙ d.here;
    number = d.number;
    lies = d.lies;
  }
]

answered_backed : (l : Line) (p number : ℕ) (i : Input) (r : Out) → is_other p number r ≡ true → Backed l r
    → Backed (line_answered l p number i) r
answered_backed l p number i r other (inl a) = inl (asked_answered l p number i _ _ r refl other a)
answered_backed l p number i r other (inr d) = inr (dropped_answered l p number _ _ r refl other d)

-- a reset
pub left_read : (l : Line) (n p : ℕ) → p < n → get_or (left_below l n) p None ≡ left_at l p
unfolding left_below
left_read l n p low = get_or-map-range_with_len (left_at l) 0 n p p None low (omega arith)

left_case : (m : Moment) (n : ℕ) (was : Option Orphan) (b : Bool) → is_storing m.stage ≡ b → b ≡ true
    → (if b then Some (orphan_of m.command n) else was) ≡ Some (orphan_of m.command n)
left_case m n was true e f = refl
left_case m n was false e f = absurd (cc)

number_is : (n : ℕ) → 0 < n → number_of n ≡ Some n
number_is n low = ap (λ b. if b then Some n else None) (lt-ltb 0 n low)

left_stored : (x : Option Moment) (n : Option ℕ) (was : Option Orphan) (m : Moment) (number : ℕ) → x ≡ Some m → n ≡ Some number
    → is_storing m.stage ≡ true → left_of x n was ≡ Some (orphan_of m.command number)
left_stored x n was m number e f storing = rw (e, f) (left_case m number was _ refl storing)

keeps_case : (m : Moment) (n : ℕ) (o : Orphan) (b : Bool) → is_storing m.stage ≡ b → (b ≡ true → ⊥)
    → (if b then Some (orphan_of m.command n) else Some o) ≡ Some o
keeps_case m n o true e f = absurd (f refl)
keeps_case m n o false e f = refl

left_keeps : (x : Option Moment) (n : Option ℕ) (o : Orphan) → ((m : Moment) → x ≡ Some m → is_storing m.stage ≡ true → ⊥)
    → left_of x n (Some o) ≡ Some o
left_keeps None n o none = refl
left_keeps (Some m) None o none = refl
left_keeps (Some m) (Some n) o none = keeps_case m n o _ refl (none m refl)

pub storing_runs : (stage : Stage) → is_storing stage ≡ true → runs stage ≡ true
storing_runs Storing e = refl
storing_runs stage e = absurd (cc)

reset_backed : (l : Line) (r : Out) → IsLine l → is_stored r ≡ true → Backed l r → Backed (line_reset l) r
reset_backed l r line store (inl a) = inr (record {
  store = orphan_of a.moment.command r.number;
  low = a.low;
  here = left_read l 33 r.place a.low
      ∙ left_stored (command_at l r.place) _ (orphan l r.place) a.moment r.number a.here (ap number_of a.number ∙ number_is r.number a.some) (a.kind store).1;
  number = refl;
  lies = a.lies;
})
reset_backed l r line store (inr d) = inr (record {
  store = d.store;
  low = d.low;
  here = left_read l 33 r.place d.low ∙ ap (left_of (command_at l r.place) (number_at l.queue.out r.place)) d.here
      ∙ left_keeps (command_at l r.place) _ d.store
      (λ m here storing. none-some d.store (sym (line.clear r.place m d.low here (storing_runs m.stage storing)).vacant ∙ d.here));
  number = d.number;
  lies = d.lies;
})

-- a number is drawn
drawn_backed : (l : Line) (r : Out) → Backed l r → Backed (with_queue l (with_drawn l.queue)) r
drawn_backed l r (inl a) = inl (record {
  moment = a.moment;
  low = a.low;
  here = a.here;
  number = a.number;
  some = a.some;
  waits = a.waits;
  lies = a.lies;
  kind = a.kind;
})
drawn_backed l r (inr d) = inr (record { store = d.store; low = d.low; here = d.here; number = d.number; lies = d.lies })

-- ## Every run

long_case : (q : Queue) (t : Table) (p : ℕ) (b : Bool) → length q.out ≡ 33
    → length (if b then record { table = t; out = set q.out p 0; next = q.next } else q).out ≡ 33
long_case q t p true long = length-set q.out p 0 ∙ long
long_case q t p false long = long

long_act : (l : Line) (d : Deed) → length l.queue.out ≡ 33 → length (after_act l.queue (act_of d)).out ≡ 33
long_act l (Takes c) long = long
long_act l (Starts p) long = long
long_act l (Sends p) long = long
long_act l (Asks p) long = length-set l.queue.out p l.queue.next ∙ long
long_act l (Hears p part) long = long
long_act l (Answers p number i) long = long_case l.queue _ p _ long
long_act l Resets long = long_replicate ℕ 33 0
long_act l Draws long = long

next_case : (q : Queue) (t : Table) (out : List ℕ) (b : Bool) → 0 < q.next
    → 0 < (if b then record { table = t; out = out; next = q.next } else q).next
next_case q t out true some = some
next_case q t out false some = some

next_act : (l : Line) (d : Deed) → 0 < l.queue.next → 0 < (after_act l.queue (act_of d)).next
next_act l (Takes c) some = some
next_act l (Starts p) some = some
next_act l (Sends p) some = some
next_act l (Asks p) some = omega arith
next_act l (Hears p part) some = some
next_act l (Answers p number i) some = next_case l.queue _ _ _ some
next_act l Resets some = some
next_act l Draws some = omega arith

record Keeps (l : Line) (b : Books) (out : List Out) : Type 0 where
  pub line : IsLine l
  pub agree : Agree l.queue b
  pub long : length l.queue.out ≡ 33
  pub some : 0 < l.queue.next
  pub backed : Each (Backed l) out

link_out : (out : List Out) (p : ℕ) (x : Option Moment) (i : Input) → out_after out (OnLink (shown_at p x i)) ≡ out
link_out out p None i = refl
link_out out p (Some m) i = refl

taken_out : (l : Line) (c : Command) (out : List Out) (b : Bool) → is_under_way (command_at l c.place) ≡ b → IsLine l → c.place < 33 → Each (Backed l) out
    → Each (Backed (if b then l else record l {
      queue = with_table l.queue (if b then l.queue.table else with_command l.queue.table c.place (Some (opening c)));
      ranks = moved_back l.ranks c.place;
    })) (out_after out (OnLink (if b then Refused c else Took c)))
taken_out l c out true e line low all = all
taken_out l c out false e line low all = each_map (Backed l) _ out
    (set_backed l c.place (Some (opening c)) _ l.queue.next (moved_back l.ranks c.place) line low
    (λ m here waits. new_waits c (command_at l c.place) m e here waits)) all

gone_out : (l : Line) (p : ℕ) (i : Input) (out : List Out) → IsLine l → p < 33 → is_answer i ≡ false → Each (Backed l) out
    → Each (Backed (with_queue l (with_table l.queue (with_input l.queue.table p i)))) (out_after out (OnLink (shown_at p (command_at l p) i)))
gone_out l p i out line low quiet all = rw (link_out out p (command_at l p) i)
    (each_map (Backed l) _ out (quiet_backed l p i _ line low quiet) all)

-- what is asked, where there is a command
abbrev AsksNext : Line → ℕ → List Out → Option Moment → Type 0
AsksNext l p out x = IsApart out (Asked p l.queue.next (shown_at p x Goes))
    × Each (Backed (with_queue l (with_asked l.queue p))) (out_after out (Asked p l.queue.next (shown_at p x Goes)))

asks_some : (l : Line) (p : ℕ) (b : Books) (out : List Out) (m : Moment) → Keeps l b out → p < 33 → is_request (turn_of m.stage) ≡ true
    → command_at l p ≡ Some m → AsksNext l p out (Some m)
asks_some l p b out m k low asks here =
    let within = page_within m (command_at l p) (get_or b.pages p None) (k.agree.kept.each p) here asks in (
      each_map (Backed l) (λ r. AreApart (shown m (turn_of m.stage)) r.what) out
          (apart_backed l p m _ k.line low here asks within.lies (λ e. (within.kind e).0)) k.backed,
      (
        asked_new l p m _ k.line low k.long k.some here within,
        each_map (Backed l) _ out (λ r back. asked_still l p m r k.line low here asks back) k.backed,
      ),
    )

asks_next : (l : Line) (p : ℕ) (b : Books) (out : List Out) (x : Option Moment) → Keeps l b out → p < 33 → asks_at x ≡ true
    → command_at l p ≡ x → AsksNext l p out x
asks_next l p b out None k low asks here = absurd (cc)
asks_next l p b out (Some m) k low asks here = asks_some l p b out m k low asks here

step : (l : Line) (d : Deed) (b : Books) (out : List Out) → Keeps l b out → IsDeed l d
    → IsApart out (seen l.queue (act_of d)) × Each (Backed (after_deed l d)) (out_after out (seen l.queue (act_of d)))
step l (Takes c) b out k is = (tt, taken_out l c out _ refl k.line is.0 k.backed)
step l (Starts p) b out k is = (tt, gone_out l p Goes out k.line is.0 refl k.backed)
step l (Sends p) b out k is = (tt, gone_out l p Goes out k.line is.0 refl k.backed)
step l (Asks p) b out k is = asks_next l p b out (command_at l p) k is.0 is.1 refl
step l (Hears p part) b out k is = (tt, gone_out l p (Comes part) out k.line is refl k.backed)
step l (Answers p number i) b out k is = (tt, each_filter (Backed l) _ (is_other p number) out (λ r other back. answered_backed l p number i r other back) k.backed)
step l Draws b out k is = (tt, each_map (Backed l) _ out (λ r back. drawn_backed l r back) k.backed)
step l Resets b out k is = (tt, each_filter (Backed l) _ is_stored out (λ r store back. reset_backed l r k.line store back) k.backed)

runs_apart : (deeds : List Deed) (l : Line) (b : Books) (out : List Out) → Keeps l b out → AreDeeds l deeds → AllAreApart out (seen_of l deeds)
unfolding seen_of
runs_apart [] l b out k are = tt
runs_apart (d ∷ later) l b out k are =
    let now = step l d b out k are.0 in (
      now.0,
      runs_apart later (after_deed l d) (entered_by b (seen l.queue (act_of d))) (out_after out (seen l.queue (act_of d))) (record {
        line = line_after l d k.line are.0;
        agree = agree_after l d b k.agree are.0;
        long = rw (same_queue l d) (long_act l d k.long);
        some = rw (same_queue l d) (next_act l d k.some);
        backed = now.1;
      }) are.1,
    )

pub requests_are_apart : RequestsAreApart
requests_are_apart deeds are = runs_apart deeds none_in_line no_books [] (record {
  line = new_line;
  agree = no_agree;
  long = long_replicate ℕ 33 0;
  some = omega arith;
  backed = tt;
}) are
