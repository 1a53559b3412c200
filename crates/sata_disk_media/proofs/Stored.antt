-- What a write of which the page keeps bytes has stored, a cell keeps: what each deed of the commands leaves of that.
use Rattle.std.proofs.Common.{◌≡◌, ◌≢◌, ℕ, ◌+◌, ◌-◌, ◌*◌, ◌<◌, ◌≤◌, true, false, List, length, get_or, set, Some, None, refl, sym, ap, ◌∙◌, arith}
use Rattle.std.proofs.{Common.{inl, inr, subst}, lemmas.{Bool.cases_eq, Option.same_Some, List.{get_or-set_same, get_or-set_other, length-replicate}}}
use Rattle.std.proofs.lemmas.List.{length-set}
use Rattle.std.specs.{Prelude.{Option, Bool, not, replicate, if◌then◌else◌}, Option.option_map}
use Rattle.block_command.specs.{declared.command.{Command.Command, Stage.{Stage, TheVariants.Ended}, Turn.Turn}, Moments.{Moment, is_ended}}
use Rattle.block_command.specs.{Moments.{is_storing, opening, part_count, part_lba, turn_of}, Laws.{Input, Goes, Comes, Happening, blank, after}}
use Rattle.block_command.specs.Laws.{happening}
use Rattle.block_command.specs.declared.command.Turn.TheVariants as turn
use Rattle.block_disk.specs.Table as table
use Rattle.block_disk.specs.{Table.{is_under_way, may_go, with_command, with_taken}, Laws.{At, Page, Refused, Reset, Shown, Took, entered_in}}
use Rattle.block_disk.specs.{Laws.{page_entered, shown_at}, Requests.{Answered, Asked, Books, Drawn, IsAct, OnLink, Queue, Seen, after_act}}
use Rattle.block_disk.specs.Requests.{entered_by, is_fis, is_request, out_after, seen, sends_at, with_drawn, with_table}
use Rattle.block_disk.proofs.Door.{Agree, each_is, one}
use Rattle.block_queue.specs.Deeds as deed
use Rattle.block_queue.specs.{Deeds.{Deed, IsDeed, act_of, after_deed}, Line.{IsLine, Line, command_at, may_start_at, moved_back, starts, with_queue}}
use Rattle.block_queue.proofs.Door.{any_at, line_after, of_and, of_or}
use Rattle.block_scheduler.specs.Schedule.{is_busy, is_quiet}
use Rattle.sata_disk_media.specs.Cells.{Cell, Kept, Storing, covers, sector_of}
use Rattle.sata_disk_media.proofs.Moments.{comes_storing, goes_not_stored, goes_storing, is_over, is_stored, over_before, same_kept}

-- ## Claims

abbrev pub KeptClaim : Command → List ℕ → (s : ℕ) → Cell → Type 0
KeptClaim c kept s cell = c.write ≡ true → c.lba ≤ s → (s - c.lba) * 512 + 512 ≤ length kept → cell ≡ Kept (sector_of c.lba s kept)

abbrev pub StoringClaim : Moment → (number s : ℕ) → Cell → Type 0
StoringClaim m number s cell = is_storing m.stage ≡ true → covers (part_lba m) (part_count m.command m.done) s ≡ true
    → (0 < number) × (cell ≡ Storing number (sector_of (part_lba m) s m.bytes))

pub record Claims (m : Moment) (g : Page) (number s : ℕ) (cell : Cell) : Type 0 where
  pub kept : KeptClaim g.command g.ledger.kept s cell
  pub storing : StoringClaim m number s cell

abbrev pub Each : List (Option Moment) → List (Option Page) → List ℕ → (s : ℕ) → Cell → Type 0
Each places pages out s cell = (p : ℕ) (m : Moment) (g : Page) → p < 33 → get_or places p None ≡ Some m → get_or pages p None ≡ Some g
    → is_over m.stage ≡ false → Claims m g (get_or out p 0) s cell

pub record Held (l : Line) (b : Books) (s : ℕ) (cell : Cell) : Type 0 where
  pub line : IsLine l
  pub agree : Agree l.queue b
  pub outs : length b.out ≡ 33
  pub next : 0 < l.queue.next
  pub each : Each l.queue.table.places b.pages b.out s cell

-- a command that has kept as much as before, and stores what it stored
pub calm : (m n : Moment) (g h : Page) (number s : ℕ) (cell : Cell) → Claims m g number s cell → h.command ≡ g.command → h.ledger.kept ≡ g.ledger.kept
    → (is_storing n.stage ≡ true → n ≡ m) → Claims n h number s cell
calm m n g h number s cell claims same keeps still = record {
  kept = subst (λ k. KeptClaim h.command k s cell) (sym keeps) (subst (λ c. KeptClaim c g.ledger.kept s cell) (sym same) claims.kept);
  storing = λ st. subst (λ x. StoringClaim x number s cell) (sym (still st)) claims.storing st;
}

-- ## Lists

pub set_each : (places : List (Option Moment)) (pages : List (Option Page)) (out : List ℕ) (s : ℕ) (cell new : Cell) (q : ℕ) (x : Option Moment) (y : Option Page)
    → Each places pages out s cell → length places ≡ 33 → length pages ≡ 33
    → ((p : ℕ) (m : Moment) (g : Page) → p < 33 → p ≢ q → get_or places p None ≡ Some m → get_or pages p None ≡ Some g → is_over m.stage ≡ false
    → Claims m g (get_or out p 0) s cell → Claims m g (get_or out p 0) s new)
    → ((m : Moment) (g : Page) → x ≡ Some m → y ≡ Some g → is_over m.stage ≡ false → Claims m g (get_or out q 0) s new)
    → Each (set places q x) (set pages q y) out s new
set_each places pages out s cell new q x y each long long' others here = λ p m g low at' page alive. elim (cases_eq p q) [
  | inl same ↦ subst (λ n. Claims m g (get_or out n 0) s new) (sym same) (here m g
      (sym (get_or-set_same places q x None (omega (arith, low, long, same))) ∙ sym (ap (λ n. get_or (set places q x) n None) same) ∙ at')
      (sym (get_or-set_same pages q y None (omega (arith, low, long', same))) ∙ sym (ap (λ n. get_or (set pages q y) n None) same) ∙ page) alive)
  | inr apart ↦ (let was = sym (get_or-set_other places q p x None apart) ∙ at' in let had = sym (get_or-set_other pages q p y None apart) ∙ page in
      others p m g low apart was had alive (each p m g low was had alive))
]

gone_each : (places : List (Option Moment)) (pages : List (Option Page)) (out : List ℕ) (s : ℕ) (cell : Cell) (q : ℕ) → Each places pages out s cell
    → length places ≡ 33 → Each (set places q None) pages out s cell
gone_each places pages out s cell q each long = λ p m g low at' page alive. elim (cases_eq p q) [
  | inl same ↦ absurd (let e : None ≡ Some m = sym (get_or-set_same places q None None (omega (arith, low, long, same))) ∙ sym (ap (λ n. get_or (set places q None) n None) same) ∙ at' in cc)
  | inr apart ↦ each p m g low (sym (get_or-set_other places q p None None apart) ∙ at') page alive
]

no_bool : (b : Bool) → b ≡ true → b ≡ false → (P : Type 0) → P
no_bool b e f P = absurd (cc)

-- the number of a place that does not store
pub out_each : (places : List (Option Moment)) (pages : List (Option Page)) (out : List ℕ) (s : ℕ) (cell : Cell) (q n : ℕ) → Each places pages out s cell
    → ((m : Moment) → get_or places q None ≡ Some m → is_storing m.stage ≡ false) → Each places pages (set out q n) s cell
out_each places pages out s cell q n each none = λ p m g low at' page alive. elim (cases_eq p q) [
  | inl same ↦ record {
    kept = (each p m g low at' page alive).kept;
    storing = λ st. no_bool _ st (none m (sym (ap (λ k. get_or places k None) same) ∙ at')) _;
  }
  | inr apart ↦ subst (λ k. Claims m g k s cell) (sym (get_or-set_other out q p n 0 apart)) (each p m g low at' page alive)
]

pub record Entered (pages : List (Option Page)) (q : ℕ) (h : Happening) (g : Page) : Type 0 where
  pub was : Page
  pub at : get_or pages q None ≡ Some was
  pub is : page_entered was h ≡ g

pub entered_page : (pages : List (Option Page)) (q : ℕ) (h : Happening) (y : Option Page) → get_or pages q None ≡ y → (g : Page)
    → option_map (λ p. page_entered p h) y ≡ Some g → Entered pages q h g
entered_page pages q h None had g is = absurd (cc)
entered_page pages q h (Some was) had g is = record { was = was; at = had; is = same_Some _ _ is }

-- ## What is done at a place and is no request

pub record IsCalm (m : Moment) (i : Input) : Type 0 where
  pub stored : is_stored (happening m i) ≡ false
  pub still : is_storing (after m i).stage ≡ true → after m i ≡ m

touch_some : (places : List (Option Moment)) (pages : List (Option Page)) (out : List ℕ) (s : ℕ) (cell : Cell) (q : ℕ) (i : Input) (k : Moment)
    → get_or places q None ≡ Some k → Each places pages out s cell → length places ≡ 33 → length pages ≡ 33 → q < 33 → IsCalm k i
    → Each (set places q (Some (after k i))) (entered_in pages (At q (happening k i))) out s cell
touch_some places pages out s cell q i k was each long long' low calm' =
    set_each places pages out s cell cell q (Some (after k i)) _ each long long' (λ p m g l a h t alive c. c)
    (λ m g is page alive.
    let e : after k i ≡ m = same_Some _ _ is in
    let w = entered_page pages q (happening k i) (get_or pages q None) refl g page in
    let alive' : is_over (after k i).stage ≡ false = ap (λ x. is_over x.stage) e ∙ alive in
    subst (λ z. Claims z g (get_or out q 0) s cell) e (subst (λ z. Claims (after k i) z (get_or out q 0) s cell) w.is
    (calm k (after k i) w.was (page_entered w.was (happening k i)) (get_or out q 0) s cell (each q k w.was low was w.at (over_before k i alive')) refl
    (same_kept w.was.command w.was.ledger (happening k i) calm'.stored) calm'.still)))

pub touch_each : (places : List (Option Moment)) (pages : List (Option Page)) (out : List ℕ) (s : ℕ) (cell : Cell) (q : ℕ) (i : Input) (x : Option Moment)
    → get_or places q None ≡ x → Each places pages out s cell → length places ≡ 33 → length pages ≡ 33 → q < 33 → ((m : Moment) → x ≡ Some m → IsCalm m i)
    → Each (set places q (option_map (λ m. after m i) x)) (entered_in pages (shown_at q x i)) out s cell
touch_each places pages out s cell q i None was each long long' low calm' = gone_each places pages out s cell q each long
touch_each places pages out s cell q i (Some k) was each long long' low calm' = touch_some places pages out s cell q i k was each long long' low (calm' k refl)

out_same : (out : List ℕ) (place : ℕ) (x : Option Moment) (i : Input) → out_after out (shown_at place x i) ≡ out
out_same out place None i = refl
out_same out place (Some m) i = refl

pub touched : (l : Line) (b : Books) (s : ℕ) (cell : Cell) (q : ℕ) (i : Input) → Held l b s cell → q < 33 → ((m : Moment) → command_at l q ≡ Some m → IsCalm m i)
    → Each (set l.queue.table.places q (option_map (λ m. after m i) (command_at l q))) (entered_in b.pages (shown_at q (command_at l q) i))
    (out_after b.out (shown_at q (command_at l q) i)) s cell
touched l b s cell q i held low calm' =
    let new = touch_each l.queue.table.places b.pages b.out s cell q i (command_at l q) refl held.each held.line.places held.agree.kept.pages low calm' in
    let P : List ℕ → Type 0 = λ o. Each (set l.queue.table.places q (option_map (λ m. after m i) (command_at l q))) (entered_in b.pages (shown_at q (command_at l q) i)) o s cell in
    subst P (sym (out_same b.out q (command_at l q) i)) new

start_not : (t : Turn) → starts t ≡ true → is_request t ≡ false
start_not turn.Start e = refl
start_not t e = absurd (cc)

fis_not : (t : Turn) → is_fis t ≡ true → is_request t ≡ false
fis_not turn.Load e = absurd (cc)
fis_not turn.Store e = absurd (cc)
fis_not turn.Flush e = absurd (cc)
fis_not t e = refl

goes_calm : (m : Moment) → is_request (turn_of m.stage) ≡ false → IsCalm m Goes
goes_calm m e = record { stored = goes_not_stored m (turn_of m.stage); still = goes_storing m.command m.done m.bytes m.sent m.stage e }

comes_calm : (m : Moment) (part : List ℕ) → IsCalm m (Comes part)
comes_calm m part = record { stored = refl; still = comes_storing m.command m.done m.bytes m.sent m.stage part }

starts_calm : (l : Line) (q : ℕ) (x : Option Moment) → command_at l q ≡ x → deed.IsDeed l (deed.Starts q) → (m : Moment) → x ≡ Some m → IsCalm m Goes
starts_calm l q x at' is m e =
    let may = subst (λ y. may_start_at l q y ≡ true) (at' ∙ e) is.1 in goes_calm m (start_not _ (of_and _ _ may).0)

sends_calm : (l : Line) (q : ℕ) (x : Option Moment) → command_at l q ≡ x → deed.IsDeed l (deed.Sends q) → (m : Moment) → x ≡ Some m → IsCalm m Goes
sends_calm l q x at' is m e =
    let may = subst (λ y. sends_at y ≡ true) (at' ∙ e) (of_and _ _ is.1).0 in goes_calm m (fis_not _ may)

-- ## A command is taken

opening_claims : (c : Command) (number s : ℕ) (cell : Cell) → Claims (opening c) (record { command = c; ledger = blank }) number s cell
opening_claims c number s cell = record {
  kept = λ write low long. absurd (omega (arith, long));
  storing = λ st. absurd (cc);
}

taken_each : (l : Line) (b : Books) (s : ℕ) (cell : Cell) (c : Command) (ranks : List ℕ) (u : Bool) → Each l.queue.table.places b.pages b.out s cell
    → length l.queue.table.places ≡ 33 → length b.pages ≡ 33
    → Each (if u then l else record l {
      queue = with_table l.queue (if u then l.queue.table else with_command l.queue.table c.place (Some (opening c)));
      ranks = ranks;
    }).queue.table.places (entered_in b.pages (if u then Refused c else Took c)) (out_after b.out (if u then Refused c else Took c)) s cell
taken_each l b s cell c ranks true each long long' = each
taken_each l b s cell c ranks false each long long' =
    set_each l.queue.table.places b.pages b.out s cell cell c.place (Some (opening c)) (Some (record { command = c; ledger = blank })) each long long'
    (λ p m g low apart was had alive claims. claims)
    (λ m g is page alive. subst (λ z. Claims z g (get_or b.out c.place 0) s cell) (same_Some _ _ is)
    (subst (λ z. Claims (opening c) z (get_or b.out c.place 0) s cell) (same_Some _ _ page) (opening_claims c (get_or b.out c.place 0) s cell)))

-- ## What each deed keeps beside the claims

taken_queue : (l : Line) (t : table.Table) (ranks : List ℕ) (b : Bool)
    → (if b then l else record l { queue = with_table l.queue (if b then l.queue.table else t); ranks = ranks }).queue
    ≡ with_table l.queue (if b then l.queue.table else t)
taken_queue l t ranks true = refl
taken_queue l t ranks false = refl

same_queue : (l : Line) (d : Deed) → (after_deed l d).queue ≡ after_act l.queue (act_of d)
same_queue l (deed.Takes c) = taken_queue l (with_command l.queue.table c.place (Some (opening c))) (moved_back l.ranks c.place) (is_under_way (command_at l c.place))
same_queue l other = refl

is_act : (l : Line) (d : Deed) → IsDeed l d → IsAct (act_of d)
is_act l (deed.Starts place) is = is.0
is_act l (deed.Sends place) is = is.0
is_act l (deed.Asks place) is = is.0
is_act l deed.Resets is = tt
is_act l deed.Draws is = tt
is_act l other is = is

agree_after : (l : Line) (d : Deed) (b : Books) → Agree l.queue b → IsDeed l d → Agree (after_deed l d).queue (entered_by b (seen l.queue (act_of d)))
agree_after l d b agree is = rw (same_queue l d) (one l.queue (act_of d) b agree (is_act l d is)).1

out_long : (out : List ℕ) (s : Shown) → length out ≡ 33 → length (out_after out s) ≡ 33
out_long out Reset e = length-replicate {A = ℕ} 33 0
out_long out s e = e

answer_long : (b : Books) (pages : List (Option Page)) (place : ℕ) (d : Bool) → length b.out ≡ 33
    → length (if d then record { pages = pages; out = set b.out place 0 } else b).out ≡ 33
answer_long b pages place true e = length-set b.out place 0 ∙ e
answer_long b pages place false e = e

outs_after : (b : Books) (s : Seen) → length b.out ≡ 33 → length (entered_by b s).out ≡ 33
outs_after b (OnLink s) e = out_long b.out s e
outs_after b (Asked place number s) e = length-set b.out place number ∙ e
outs_after b (Answered place number h) e = answer_long b _ place _ e
outs_after b (Drawn number) e = e

next_case : (b : Bool) (x y : Queue) → 0 < x.next → 0 < y.next → 0 < (if b then x else y).next
next_case true x y e f = e
next_case false x y e f = f

line_case : (b : Bool) (x y : Line) → 0 < x.queue.next → 0 < y.queue.next → 0 < (if b then x else y).queue.next
line_case true x y e f = e
line_case false x y e f = f

next_after : (l : Line) (d : Deed) → 0 < l.queue.next → 0 < (after_deed l d).queue.next
next_after l (deed.Takes c) e = line_case _ l _ e e
next_after l (deed.Asks place) e = omega (arith, e)
next_after l (deed.Answers place number i) e = next_case _ _ _ e e
next_after l deed.Draws e = omega (arith, e)
next_after l other e = e

-- the rest of what is held goes on by itself
pub held_by : (l : Line) (b : Books) (s : ℕ) (cell new : Cell) (d : Deed) → IsDeed l d → Held l b s cell
    → Each (after_deed l d).queue.table.places (entered_by b (seen l.queue (act_of d))).pages (entered_by b (seen l.queue (act_of d))).out s new
    → Held (after_deed l d) (entered_by b (seen l.queue (act_of d))) s new
held_by l b s cell new d is held each = record {
  line = line_after l d held.line is;
  agree = agree_after l d b held.agree is;
  outs = outs_after b (seen l.queue (act_of d)) held.outs;
  next = next_after l d held.next;
  each = each;
}

-- ## Deeds that ask and answer nothing

abbrev pub is_calm : Deed → Bool
is_calm (deed.Asks place) = false
is_calm (deed.Answers place number i) = false
is_calm d = true

none_each : (out : List ℕ) (s : ℕ) (cell : Cell) → Each (replicate 33 None) (replicate 33 None) out s cell
none_each out s cell = λ p m g low at' page alive. absurd (let e : None ≡ Some m = sym (each_is (Option Moment) 33 p None) ∙ at' in cc)

calm_each : (l : Line) (b : Books) (s : ℕ) (cell : Cell) (d : Deed) → IsDeed l d → is_calm d ≡ true → Held l b s cell
    → Each (after_deed l d).queue.table.places (entered_by b (seen l.queue (act_of d))).pages (entered_by b (seen l.queue (act_of d))).out s cell
calm_each l b s cell (deed.Takes c) is e held =
    taken_each l b s cell c (moved_back l.ranks c.place) (is_under_way (command_at l c.place)) held.each held.line.places held.agree.kept.pages
calm_each l b s cell (deed.Starts q) is e held = touched l b s cell q Goes held is.0 (starts_calm l q (command_at l q) refl is)
calm_each l b s cell (deed.Sends q) is e held = touched l b s cell q Goes held is.0 (sends_calm l q (command_at l q) refl is)
calm_each l b s cell (deed.Hears q part) is e held = touched l b s cell q (Comes part) held is (λ m f. comes_calm m part)
calm_each l b s cell deed.Resets is e held = none_each (replicate 33 0) s cell
calm_each l b s cell deed.Draws is e held = held.each
calm_each l b s cell other is e held = absurd (cc)

pub calm_held : (l : Line) (b : Books) (s : ℕ) (cell : Cell) (d : Deed) → IsDeed l d → is_calm d ≡ true → Held l b s cell
    → Held (after_deed l d) (entered_by b (seen l.queue (act_of d))) s cell
calm_held l b s cell d is e held = held_by l b s cell cell d is held (calm_each l b s cell d is e held)

-- a number is drawn while nothing is under way
idle_over : (stage : Stage) → not (is_ended stage) ≡ false → is_over stage ≡ true
idle_over Ended e = refl
idle_over stage e = absurd (cc)

of_not : (a : Bool) → not a ≡ true → a ≡ false
of_not false e = refl
of_not true e = absurd (cc)

quiet_each : (l : Line) (b : Books) (s : ℕ) (new : Cell) → is_quiet l ≡ true → Each l.queue.table.places b.pages b.out s new
quiet_each l b s new quiet = λ p m g low at' page alive.
    let busy = any_at (is_busy l) 33 p (of_not _ quiet) low in
    let idle = (of_or (is_under_way (command_at l p)) _ busy).0 in
    no_bool _ (idle_over m.stage (ap is_under_way (sym at') ∙ idle)) alive _

pub drawn_held : (l : Line) (b : Books) (s : ℕ) (cell new : Cell) → is_quiet l ≡ true → Held l b s cell
    → Held (with_queue l (with_drawn l.queue)) (entered_by b (Drawn l.queue.next)) s new
drawn_held l b s cell new quiet held = held_by l b s cell new deed.Draws tt held (quiet_each l b s new quiet)
