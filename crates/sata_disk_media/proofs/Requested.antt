-- What a request leaves of what is held, and what an answer does.
use Rattle.std.proofs.Common.{◌≡◌, ◌≢◌, ℕ, ◌+◌, ◌-◌, ◌*◌, ◌<◌, ◌≤◌, true, false, List, ◌++◌, length, take, drop, get_or, set, Some, None, refl, sym}
use Rattle.std.proofs.{Common.{ap, ◌∙◌, arith, inl, inr, subst}, lemmas.Bool.{cases_lt, eqb-true, leb-true, le-leb, lt-ltb, ltb-true, ne_eqb, eq-eqb}}
use Rattle.std.proofs.lemmas.{Option.same_Some, List.{get_or-set_same, length-append, take-append-le, drop-append-le, length-drop}}
use Rattle.std.proofs.Math.Seq.{drop-append-add}
use Rattle.std.specs.{Prelude.{Option, Bool, ◌&&◌, ◌==◌, if◌then◌else◌}, Option.option_map}
use Rattle.block_command.specs.{declared.command.{Command.Command, Stage.Stage}, Moments.{Moment, is_ended, is_storing, part_count, part_lba, runs}}
use Rattle.block_command.specs.{Moments.turn_of, Laws.{Input, Goes, Loads, Comes, Stores, Flushes, Fails, Happening, Ledger, AskedStore, after}}
use Rattle.block_command.specs.Laws.{entered, happening, refusal}
use Rattle.block_command.specs.declared.command.Stage.TheVariants as stage
use Rattle.block_command.specs.Laws as command
use Rattle.block_command.proofs.Door.{Agrees, at}
use Rattle.block_disk.specs.{Table.{refusal_at, with_input}, Laws.{At, Page, at_page, entered_in, page_entered, shown_at}, Requests.{Books, asks_at}}
use Rattle.block_disk.specs.Requests.{entered_by, is_out, is_request, seen, told}
use Rattle.block_disk.proofs.Door.{Agree, Matches}
use Rattle.block_queue.specs.Deeds as deed
use Rattle.block_queue.specs.{Deeds.{IsDeed, act_of, after_deed}, Line.{IsLine, Line, command_at, line_refusal, orphan, orphan_refusal}}
use Rattle.block_queue.proofs.Door.{of_and}
use Rattle.block_engine.specs.{declared.request.{Answer.Answer, Range.Range}, Engine.what_at}
use Rattle.block_engine.specs.declared.request.Answer.TheVariants as answers
use Rattle.sata_disk_media.specs.Cells.{Cell, Kept, Storing, answered_cell, asked_cell, bytes_at, covers, sector_of}
use Rattle.sata_disk_media.proofs.{Apart.{IsRunning, alone}, Moments.{HasPart, IsStoring, alive_of, done_not, is_over, is_stored, loaded_not}}
use Rattle.sata_disk_media.proofs.{Moments.{part_below, same_kept, store_part, storing_part, write_runs}, Stored.{Claims, Each, Held, IsCalm}}
use Rattle.sata_disk_media.proofs.Stored.{KeptClaim, entered_page, held_by, out_each, set_each, touch_each}

no_bool : (b : Bool) → b ≡ true → b ≡ false → (P : Type 0) → P
no_bool b e f P = absurd (cc)

-- ## The page of a command

matched : (x : Option Moment) (y : Option Page) (m : Moment) (g : Page) → x ≡ Some m → y ≡ Some g → Matches x y
    → (m.command ≡ g.command) × Agrees g.command m g.ledger
matched x y m g e f match' = subst (λ z. Matches (Some m) z) f (subst (λ z. Matches z y) e match')

pub page_of : (l : Line) (b : Books) (p : ℕ) (m : Moment) (g : Page) → Agree l.queue b → command_at l p ≡ Some m → at_page b.pages p ≡ Some g
    → (m.command ≡ g.command) × Agrees g.command m g.ledger
page_of l b p m g agree e f = matched (command_at l p) (at_page b.pages p) m g e f (agree.kept.each p)

storing_agrees : (c : Command) (done : ℕ) (bytes : List ℕ) (sent : ℕ) (st : Stage) (l : Ledger) → Agrees c (at c done bytes sent st) l → is_storing st ≡ true
    → IsStoring c done bytes l
storing_agrees c done bytes sent stage.Storing l agrees e = storing_part c done bytes sent l agrees
storing_agrees c done bytes sent st l agrees e = absurd (cc)

storing_runs : (st : Stage) → is_storing st ≡ true → (runs st ≡ true) × (is_ended st ≡ false)
storing_runs stage.Storing e = (refl, refl)
storing_runs st e = absurd (cc)

-- ## Sectors

record Within (lba count s : ℕ) : Type 0 where
  pub first : lba ≤ s
  pub last : s < lba + count

within : (lba count s : ℕ) → covers lba count s ≡ true → Within lba count s
within lba count s e = let h = of_and _ _ e in record { first = leb-true _ _ h.0; last = ltb-true _ _ h.1 }

both_true : (x y : Bool) → x ≡ true → y ≡ true → (x && y) ≡ true
both_true true y e f = f
both_true false y e f = absurd (cc)

covered : (lba count s : ℕ) → lba ≤ s → s < lba + count → covers lba count s ≡ true
covered lba count s first last = both_true _ _ (le-leb lba s first) (lt-ltb s (lba + count) last)

-- the part of a command lies in it
in_command : (c : Command) (done s : ℕ) → done < c.count → covers (c.lba + done) (part_count c done) s ≡ true → Within c.lba c.count s
in_command c done s more e = let w = within (c.lba + done) (part_count c done) s e in let below = part_below c done in let first = w.first in let last = w.last in
    record { first = omega (arith, first); last = omega (arith, below, more, last) }

running : (l : Line) (p : ℕ) (m : Moment) (c : Command) (s : ℕ) → p < 33 → command_at l p ≡ Some m → m.command ≡ c → runs m.stage ≡ true → is_ended m.stage ≡ false
    → Within c.lba c.count s → IsRunning l p m s
running l p m c s low here same run alive w = record {
  low = low;
  here = here;
  runs = run;
  alive = alive;
  first = subst (λ k. k.lba ≤ s) (sym same) w.first;
  last = subst (λ k. s < k.lba + k.count) (sym same) w.last;
}

-- a command that has kept this sector
kept_runs : (l : Line) (b : Books) (p : ℕ) (m : Moment) (g : Page) (s : ℕ) → Agree l.queue b → p < 33 → command_at l p ≡ Some m → at_page b.pages p ≡ Some g
    → is_over m.stage ≡ false → g.command.write ≡ true → g.command.lba ≤ s → (s - g.command.lba) * 512 + 512 ≤ length g.ledger.kept → IsRunning l p m s
kept_runs l b p m g s agree low here page alive write first long =
    let is = page_of l b p m g agree here page in
    let r = write_runs g.command m.done m.bytes m.sent m.stage g.ledger ((s - g.command.lba) * 512) is.1 alive write long in
    let most = r.most in
    running l p m g.command s low here is.0 r.runs (alive_of m.stage alive) (record { first = first; last = omega (arith, first, long, most) })

-- one that stores it
part_runs : (l : Line) (b : Books) (p : ℕ) (m : Moment) (g : Page) (s : ℕ) → Agree l.queue b → p < 33 → command_at l p ≡ Some m → at_page b.pages p ≡ Some g
    → is_storing m.stage ≡ true → covers (part_lba m) (part_count m.command m.done) s ≡ true → IsRunning l p m s
part_runs l b p m g s agree low here page st cov =
    let is = page_of l b p m g agree here page in
    let part = (storing_agrees g.command m.done m.bytes m.sent m.stage g.ledger is.1 st).part in
    let cov' : covers (g.command.lba + m.done) (part_count g.command m.done) s ≡ true = subst (λ c. covers (c.lba + m.done) (part_count c m.done) s ≡ true) is.0 cov in
    let run = storing_runs m.stage st in
    running l p m g.command s low here is.0 run.0 run.1 (in_command g.command m.done s part.more cov')

-- ## A store is asked for

abbrev stored_cell : Moment → (number s : ℕ) → Cell → Bool → Cell
stored_cell m number s was b = if b then Storing number (sector_of (part_lba m) s m.bytes) else was

-- the claims of the other places: none is about this sector
other_claims : (l : Line) (b : Books) (s : ℕ) (cell new : Cell) (q : ℕ) (k : Moment) → IsLine l → Agree l.queue b → IsRunning l q k s → k.command.write ≡ true
    → (p : ℕ) (m : Moment) (g : Page) (number : ℕ) → p < 33 → p ≢ q → command_at l p ≡ Some m → at_page b.pages p ≡ Some g → is_over m.stage ≡ false
    → Claims m g number s new
other_claims l b s cell new q k line agree mine write p m g number low apart here page alive = record {
  kept = λ w first long. absurd (alone l q p k m s line mine (kept_runs l b p m g s agree low here page alive w first long) (λ e. apart (sym e)) write);
  storing = λ st cov. absurd (alone l q p k m s line mine (part_runs l b p m g s agree low here page st cov) (λ e. apart (sym e)) write);
}

-- its own claims
own_claims : (c : Command) (done : ℕ) (bytes : List ℕ) (sent : ℕ) (h : Page) (number s : ℕ) (cell : Cell) (b : Bool) → h.command ≡ c → HasPart c done bytes h.ledger
    → covers (c.lba + done) (part_count c done) s ≡ b → 0 < number → KeptClaim h.command h.ledger.kept s cell
    → Claims (at c done bytes sent stage.Storing) h number s (stored_cell (at c done bytes sent stage.Store) number s cell b)
own_claims c done bytes sent h number s cell true same part cov some claim = record {
  kept = λ write first long. absurd (let w = within _ _ s cov in let at' = w.first in let behind = part.behind in let lba = ap (λ k. k.lba) same in
      omega (arith, long, at', behind, lba));
  storing = λ st cov'. (some, refl);
}
own_claims c done bytes sent h number s cell false same part cov some claim = record {
  kept = claim;
  storing = λ st cov'. no_bool _ cov' cov _;
}

abbrev HasPart' : Command → ℕ → Type 0
HasPart' c done = (c.write ≡ true) × (done < c.count)

-- where the part has this sector no other place claims it, and else the cell is as it was
others_case : (l : Line) (b : Books) (s : ℕ) (cell : Cell) (q : ℕ) (c : Command) (done : ℕ) (bytes : List ℕ) (sent : ℕ) (d : Bool) → Held l b s cell → q < 33
    → command_at l q ≡ Some (at c done bytes sent stage.Store) → HasPart' c done → covers (c.lba + done) (part_count c done) s ≡ d
    → (p : ℕ) (m : Moment) (g : Page) (number : ℕ) → p < 33 → p ≢ q → command_at l p ≡ Some m → at_page b.pages p ≡ Some g → is_over m.stage ≡ false
    → Claims m g number s cell → Claims m g number s (stored_cell (at c done bytes sent stage.Store) l.queue.next s cell d)
others_case l b s cell q c done bytes sent false held low here part cov p m g number low' apart was had alive claims = claims
others_case l b s cell q c done bytes sent true held low here part cov p m g number low' apart was had alive claims =
    let k : Moment = at c done bytes sent stage.Store in
    other_claims l b s cell _ q k held.line held.agree (running l q k c s low here refl refl refl (in_command c done s part.1 cov)) part.0 p m g number low' apart was had alive

store_each : (l : Line) (b : Books) (s : ℕ) (cell : Cell) (q : ℕ) (c : Command) (done : ℕ) (bytes : List ℕ) (sent : ℕ) (h : Page) (d : Bool) → Held l b s cell → q < 33
    → command_at l q ≡ Some (at c done bytes sent stage.Store) → at_page b.pages q ≡ Some h → covers (c.lba + done) (part_count c done) s ≡ d
    → Each (set l.queue.table.places q (Some (at c done bytes sent stage.Storing)))
    (entered_in b.pages (At q (AskedStore (c.lba + done) bytes))) (set b.out q l.queue.next) s
    (stored_cell (at c done bytes sent stage.Store) l.queue.next s cell d)
store_each l b s cell q c done bytes sent h d held low here had cov =
    let k : Moment = at c done bytes sent stage.Store in
    let n : ℕ = l.queue.next in
    let new : Cell = stored_cell k n s cell d in
    let out' : List ℕ = set b.out q n in
    let e : Happening = AskedStore (c.lba + done) bytes in
    let number : get_or out' q 0 ≡ n = get_or-set_same b.out q n 0 (let long = held.outs in omega (arith, low, long)) in
    let match' = page_of l b q k h held.agree here had in
    let part : HasPart c done bytes h.ledger = store_part c done bytes sent h.ledger (subst (λ x. Agrees x k h.ledger) (sym match'.0) match'.1) in
    let old : Each l.queue.table.places b.pages out' s cell = out_each l.queue.table.places b.pages b.out s cell q n held.each
    (λ m f. ap (λ x. is_storing x.stage) (sym (same_Some k m (sym here ∙ f)))) in
    set_each l.queue.table.places b.pages out' s cell new q (Some (at c done bytes sent stage.Storing)) (option_map (λ p. page_entered p e) (at_page b.pages q))
    old held.line.places held.agree.kept.pages
    (λ p m g low' apart was has alive claims.
    others_case l b s cell q c done bytes sent d held low here (part.write, part.more) cov p m g (get_or out' p 0) low' apart was has alive claims)
    (λ m g is page alive.
    let P : Moment → Page → ℕ → Type 0 = λ x y z. Claims x y z s new in
    let to : page_entered h e ≡ g = same_Some _ _ (sym (ap (λ y. option_map (λ p. page_entered p e) y) had) ∙ page) in
    subst (λ x. P x g (get_or out' q 0)) (same_Some _ _ is) (subst (λ y. P (at c done bytes sent stage.Storing) y (get_or out' q 0)) to
    (subst (λ z. P (at c done bytes sent stage.Storing) (page_entered h e) z) (sym number)
    (own_claims c done bytes sent (page_entered h e) n s cell d (sym match'.0)
    (record { write = part.write; behind = part.behind; more = part.more; long = part.long }) cov held.next (held.each q k h low here had refl).kept))))

-- ## A request is asked for

-- what a request that is no store leaves
other_asked : (l : Line) (b : Books) (s : ℕ) (cell : Cell) (q : ℕ) (k : Moment) → Held l b s cell → q < 33 → command_at l q ≡ Some k → is_storing k.stage ≡ false
    → is_stored (happening k Goes) ≡ false → is_storing (after k Goes).stage ≡ false
    → Each (set l.queue.table.places q (Some (after k Goes))) (entered_in b.pages (At q (happening k Goes))) (set b.out q l.queue.next) s cell
other_asked l b s cell q k held low here none stored still =
    touch_each l.queue.table.places b.pages (set b.out q l.queue.next) s cell q Goes (Some k) here
    (out_each l.queue.table.places b.pages b.out s cell q l.queue.next held.each (λ m f. ap (λ x. is_storing x.stage) (sym (same_Some k m (sym here ∙ f))) ∙ none))
    held.line.places held.agree.kept.pages low
    (λ m e. subst (λ x. IsCalm x Goes) (same_Some k m e) (record { stored = stored; still = λ st. no_bool _ st still _ }))

-- the places, the pages and the numbers behind a request of a place with this command, and the cell
abbrev AskedEach : Line → Books → (s : ℕ) → Cell → (q : ℕ) → List Range → Option Moment → Type 0
AskedEach l b s cell q ranges x = Each (set l.queue.table.places q (option_map (λ m. after m Goes) x)) (entered_in b.pages (shown_at q x Goes)) (set b.out q l.queue.next) s
    (asked_cell s cell (what_at x) l.queue.next (bytes_at x) ranges)

asked_page : (l : Line) (b : Books) (s : ℕ) (cell : Cell) (q : ℕ) (ranges : List Range) (c : Command) (done : ℕ) (bytes : List ℕ) (sent : ℕ) (y : Option Page)
    → Held l b s cell → q < 33 → command_at l q ≡ Some (at c done bytes sent stage.Store) → at_page b.pages q ≡ y
    → Matches (Some (at c done bytes sent stage.Store)) y → AskedEach l b s cell q ranges (Some (at c done bytes sent stage.Store))
asked_page l b s cell q ranges c done bytes sent None held low here had match' = absurd match'
asked_page l b s cell q ranges c done bytes sent (Some h) held low here had match' = store_each l b s cell q c done bytes sent h _ held low here had refl

asked_stage : (l : Line) (b : Books) (s : ℕ) (cell : Cell) (q : ℕ) (ranges : List Range) (c : Command) (done : ℕ) (bytes : List ℕ) (sent : ℕ) (st : Stage)
    → Held l b s cell → q < 33 → command_at l q ≡ Some (at c done bytes sent st) → is_request (turn_of st) ≡ true
    → AskedEach l b s cell q ranges (Some (at c done bytes sent st))
asked_stage l b s cell q ranges c done bytes sent stage.Load held low here e = other_asked l b s cell q (at c done bytes sent stage.Load) held low here refl refl refl
asked_stage l b s cell q ranges c done bytes sent stage.Flush held low here e = other_asked l b s cell q (at c done bytes sent stage.Flush) held low here refl refl refl
asked_stage l b s cell q ranges c done bytes sent stage.Store held low here e =
    asked_page l b s cell q ranges c done bytes sent (at_page b.pages q) held low here refl (subst (λ x. Matches x (at_page b.pages q)) here (held.agree.kept.each q))
asked_stage l b s cell q ranges c done bytes sent st held low here e = absurd (cc)

asked_case : (l : Line) (b : Books) (s : ℕ) (cell : Cell) (q : ℕ) (ranges : List Range) (x : Option Moment) → Held l b s cell → q < 33 → command_at l q ≡ x
    → asks_at x ≡ true → AskedEach l b s cell q ranges x
asked_case l b s cell q ranges None held low here e = absurd (cc)
asked_case l b s cell q ranges (Some m) held low here e = asked_stage l b s cell q ranges m.command m.done m.bytes m.sent m.stage held low here e

pub asked_held : (l : Line) (b : Books) (s : ℕ) (cell : Cell) (q : ℕ) (ranges : List Range) → IsDeed l (deed.Asks q) → Held l b s cell
    → Held (after_deed l (deed.Asks q)) (entered_by b (seen l.queue (act_of (deed.Asks q)))) s
    (asked_cell s cell (what_at (command_at l q)) l.queue.next (bytes_at (command_at l q)) ranges)
asked_held l b s cell q ranges is held =
    held_by l b s cell _ (deed.Asks q) is held (asked_case l b s cell q ranges (command_at l q) held is.0 refl is.1)

-- ## An answer

-- the request of this number is that of this place: no other place has it, and a dropped store does not
abbrev pub IsOnly : Line → (q number : ℕ) → Type 0
IsOnly l q number = (p : ℕ) → p < 33 → 0 < number → get_or l.queue.out p 0 ≡ number → (p ≡ q) × (is_out l.queue.out q number ≡ true)

-- an answer as the caller gives it, and as the command takes it
abbrev pub Fits : Input → Answer → Type 0
Fits (Loads bytes) (answers.Loaded given) = Unit {0}
Fits Stores answers.Done = Unit {0}
Fits Flushes answers.Done = Unit {0}
Fits Fails (answers.Failed f) = Unit {0}
Fits _ _ = ⊥

kept_stays : (x : List ℕ) (number : ℕ) (a : Answer) → answered_cell (Kept x) number a ≡ Kept x
kept_stays x number (answers.Loaded bytes) = refl
kept_stays x number other = refl

if_false : {X : Type 0} (b : Bool) (x y : X) → b ≡ false → (if b then x else y) ≡ y
if_false true x y e = absurd (cc)
if_false false x y e = refl

if_true : {X : Type 0} (b : Bool) (x y : X) → b ≡ true → (if b then x else y) ≡ x
if_true true x y e = refl
if_true false x y e = absurd (cc)

storing_stays : (n : ℕ) (x : List ℕ) (number : ℕ) (a : Answer) → (n ≡ number → ⊥) → answered_cell (Storing n x) number a ≡ Storing n x
storing_stays n x number (answers.Loaded bytes) apart = refl
storing_stays n x number other apart = if_false (n == number) _ _ (ne_eqb n number apart)

-- what another answer leaves of a claim
pub left_claims : (m : Moment) (g : Page) (n s : ℕ) (cell : Cell) (number : ℕ) (a : Answer) → Claims m g n s cell → (0 < n → n ≡ number → ⊥)
    → Claims m g n s (answered_cell cell number a)
left_claims m g n s cell number a claims apart = record {
  kept = λ write first long. ap (λ x. answered_cell x number a) (claims.kept write first long) ∙ kept_stays _ number a;
  storing = λ st cov. (let c = claims.storing st cov in
      (c.0, ap (λ x. answered_cell x number a) c.1 ∙ storing_stays n _ number a (λ e. apart c.0 e)));
}

-- ## What an answer makes of the command

-- the bytes that are kept then, and those that this store adds
record Adds (c : Command) (done : ℕ) (bytes : List ℕ) (l : Ledger) (k : List ℕ) : Type 0 where
  pub part : HasPart c done bytes l
  pub is : k ≡ l.kept ++ bytes

before_part : (lba s : ℕ) (kept bytes : List ℕ) → (s - lba) * 512 + 512 ≤ length kept → sector_of lba s (kept ++ bytes) ≡ sector_of lba s kept
before_part lba s kept bytes low =
    let n : ℕ = (s - lba) * 512 in
    ap (λ x. take 512 x) (drop-append-le n kept bytes (omega (arith, low)))
    ∙ take-append-le 512 (drop n kept) bytes (let long = length-drop n kept in omega (arith, low, long))

in_part : (lba done s : ℕ) (kept bytes : List ℕ) → length kept ≡ done * 512 → lba + done ≤ s → sector_of lba s (kept ++ bytes) ≡ sector_of (lba + done) s bytes
in_part lba done s kept bytes long low =
    let n : ℕ = (s - (lba + done)) * 512 in
    let same : (s - lba) * 512 ≡ length kept + n = omega (arith, long, low) in
    ap (λ k. take 512 (drop k (kept ++ bytes))) same ∙ ap (λ x. take 512 x) (drop-append-add kept bytes n)

-- what a store that is done leaves of the claims of its command
kept_then : (c : Command) (done : ℕ) (bytes : List ℕ) (l : Ledger) (k : List ℕ) (n s : ℕ) (cell : Cell) (number : ℕ) → Adds c done bytes l k → n ≡ number
    → KeptClaim c l.kept s cell → (covers (c.lba + done) (part_count c done) s ≡ true → cell ≡ Storing n (sector_of (c.lba + done) s bytes))
    → KeptClaim c k s (answered_cell cell number answers.Done)
kept_then c done bytes l k n s cell number adds same was part write first long =
    let both : length k ≡ length l.kept + length bytes = ap length adds.is ∙ length-append l.kept bytes in
    elim (cases_lt ((s - c.lba) * 512 + 511) (length l.kept)) [
      | inl low ↦ (let low' : (s - c.lba) * 512 + 512 ≤ length l.kept = omega (arith, low) in
          ap (λ x. answered_cell x number answers.Done) (was write first low') ∙ ap Kept (sym (before_part c.lba s l.kept bytes low') ∙ ap (λ x. sector_of c.lba s x) (sym adds.is)))
      | inr high ↦ (let behind = adds.part.behind in let whole = adds.part.long in
          let low' : c.lba + done ≤ s = omega (arith, high, behind, first) in
          let below : s < c.lba + done + part_count c done = omega (arith, long, both, behind, whole, first) in
          let cov : covers (c.lba + done) (part_count c done) s ≡ true = covered (c.lba + done) (part_count c done) s low' below in
          ap (λ x. answered_cell x number answers.Done) (part cov) ∙ if_true (n == number) _ _ (eq-eqb n number same)
          ∙ ap Kept (sym (in_part c.lba done s l.kept bytes behind low') ∙ ap (λ x. sector_of c.lba s x) (sym adds.is)))
    ]

kept_left : (c : Command) (k : List ℕ) (s : ℕ) (cell : Cell) (number : ℕ) (a : Answer) → KeptClaim c k s cell → KeptClaim c k s (answered_cell cell number a)
kept_left c k s cell number a claim write first long = ap (λ x. answered_cell x number a) (claim write first long) ∙ kept_stays _ number a

-- ## An answer to the command of a place

-- what it leaves of what its page has kept
abbrev KeptAfter : Books → (q s : ℕ) → Moment → Input → Cell → Type 0
KeptAfter b q s k i new = (h : Page) → at_page b.pages q ≡ Some h → is_over (after k i).stage ≡ false
    → KeptClaim h.command (entered h.command h.ledger (told i)).kept s new

abbrev AnsweredEach : Line → Books → (s q : ℕ) → Moment → Input → Cell → Type 0
AnsweredEach l b s q k i new = Each (set l.queue.table.places q (Some (after k i))) (entered_in b.pages (At q (told i))) (set b.out q 0) s new

answer_each : (l : Line) (b : Books) (s : ℕ) (cell : Cell) (q number : ℕ) (i : Input) (a : Answer) (k : Moment) → Held l b s cell → q < 33 → command_at l q ≡ Some k
    → IsOnly l q number → is_storing (after k i).stage ≡ false → KeptAfter b q s k i (answered_cell cell number a)
    → AnsweredEach l b s q k i (answered_cell cell number a)
answer_each l b s cell q number i a k held low here only none keeps =
    let new : Cell = answered_cell cell number a in
    let places : List (Option Moment) = set l.queue.table.places q (Some (after k i)) in
    let pages : List (Option Page) = set b.pages q (option_map (λ p. page_entered p (told i)) (at_page b.pages q)) in
    let set' : Each places pages b.out s new = set_each l.queue.table.places b.pages b.out s cell new q (Some (after k i)) (option_map (λ p. page_entered p (told i)) (at_page b.pages q))
    held.each held.line.places held.agree.kept.pages
    (λ p m g low' apart was had alive claims. left_claims m g (get_or b.out p 0) s cell number a claims
    (λ some same. apart (only p low' (omega (arith, some, same)) (ap (λ o. get_or o p 0) (sym held.agree.out) ∙ same)).0))
    (λ m g is page alive.
    let e : after k i ≡ m = same_Some _ _ is in
    let w = entered_page b.pages q (told i) (at_page b.pages q) refl g page in
    subst (λ z. Claims z g (get_or b.out q 0) s new) e (subst (λ z. Claims (after k i) z (get_or b.out q 0) s new) w.is
    (record { kept = keeps w.was w.at (ap (λ x. is_over x.stage) e ∙ alive); storing = λ st. no_bool _ st none _ }))) in
    out_each places pages b.out s new q 0 set'
    (λ m f. ap (λ x. is_storing x.stage) (sym (same_Some (after k i) m (sym (get_or-set_same l.queue.table.places q (Some (after k i)) None (let long = held.line.places in omega (arith, low, long))) ∙ f))) ∙ none)

-- the page of the command, where the ledger stays as it is
same_after : (l : Line) (b : Books) (s : ℕ) (cell : Cell) (q number : ℕ) (i : Input) (a : Answer) (k : Moment) → Held l b s cell → q < 33 → command_at l q ≡ Some k
    → is_over k.stage ≡ false → is_stored (told i) ≡ false → KeptAfter b q s k i (answered_cell cell number a)
same_after l b s cell q number i a k held low here alive stored h had alive' =
    subst (λ x. KeptClaim h.command x s (answered_cell cell number a)) (sym (same_kept h.command h.ledger (told i) stored))
    (kept_left h.command h.ledger.kept s cell number a (held.each q k h low here had alive).kept)

stored_after : (l : Line) (b : Books) (s : ℕ) (cell : Cell) (q number : ℕ) (c : Command) (done : ℕ) (bytes : List ℕ) (sent : ℕ) → Held l b s cell → q < 33
    → command_at l q ≡ Some (at c done bytes sent stage.Storing) → get_or b.out q 0 ≡ number
    → KeptAfter b q s (at c done bytes sent stage.Storing) Stores (answered_cell cell number answers.Done)
stored_after l b s cell q number c done bytes sent held low here is h had alive =
    let k : Moment = at c done bytes sent stage.Storing in
    let match' = page_of l b q k h held.agree here had in
    let agrees : Agrees c k h.ledger = subst (λ x. Agrees x k h.ledger) (sym match'.0) match'.1 in
    let st = storing_part c done bytes sent h.ledger agrees in
    let claims = held.each q k h low here had refl in
    subst (λ x. KeptClaim x (entered x h.ledger command.Stored).kept s (answered_cell cell number answers.Done)) match'.0
    (kept_then c done bytes h.ledger (entered c h.ledger command.Stored).kept (get_or b.out q 0) s cell number
    (record { part = st.part; is = ap (λ x. (command.stored_in h.ledger x).kept) st.out }) is
    (subst (λ x. KeptClaim x h.ledger.kept s cell) (sym match'.0) claims.kept) (λ cov. (claims.storing refl cov).1))

answer_stage : (l : Line) (b : Books) (s : ℕ) (cell : Cell) (q number : ℕ) (i : Input) (a : Answer) (c : Command) (done : ℕ) (bytes : List ℕ) (sent : ℕ) (st : Stage)
    → Held l b s cell → q < 33 → command_at l q ≡ Some (at c done bytes sent st) → IsOnly l q number → get_or b.out q 0 ≡ number
    → refusal (at c done bytes sent st) i ≡ None → Fits i a → AnsweredEach l b s q (at c done bytes sent st) i (answered_cell cell number a)
answer_stage l b s cell q number (Loads given) a c done bytes sent stage.Loading held low here only is right fits =
    answer_each l b s cell q number (Loads given) a (at c done bytes sent stage.Loading) held low here only (loaded_not c done bytes sent given)
    (same_after l b s cell q number (Loads given) a (at c done bytes sent stage.Loading) held low here refl refl)
answer_stage l b s cell q number Stores answers.Done c done bytes sent stage.Storing held low here only is right fits =
    answer_each l b s cell q number Stores answers.Done (at c done bytes sent stage.Storing) held low here only (done_not c done bytes sent)
    (stored_after l b s cell q number c done bytes sent held low here is)
answer_stage l b s cell q number Flushes a c done bytes sent stage.Flushing held low here only is right fits =
    answer_each l b s cell q number Flushes a (at c done bytes sent stage.Flushing) held low here only refl
    (same_after l b s cell q number Flushes a (at c done bytes sent stage.Flushing) held low here refl refl)
answer_stage l b s cell q number Fails a c done bytes sent stage.Loading held low here only is right fits =
    answer_each l b s cell q number Fails a (at c done bytes sent stage.Loading) held low here only refl (λ h had alive. absurd (cc))
answer_stage l b s cell q number Fails a c done bytes sent stage.Storing held low here only is right fits =
    answer_each l b s cell q number Fails a (at c done bytes sent stage.Storing) held low here only refl (λ h had alive. absurd (cc))
answer_stage l b s cell q number Fails a c done bytes sent stage.Flushing held low here only is right fits =
    answer_each l b s cell q number Fails a (at c done bytes sent stage.Flushing) held low here only refl (λ h had alive. absurd (cc))
answer_stage l b s cell q number Stores (answers.Loaded given) c done bytes sent st held low here only is right fits = absurd fits
answer_stage l b s cell q number Stores (answers.Failed f) c done bytes sent st held low here only is right fits = absurd fits
answer_stage l b s cell q number i a c done bytes sent st held low here only is right fits = absurd (cc)

-- ## Any answer

answer_some : (l : Line) (b : Books) (s : ℕ) (cell : Cell) (q number : ℕ) (i : Input) (a : Answer) (x : Option Moment)
    → Held l b s cell → q < 33 → command_at l q ≡ x → IsOnly l q number → get_or b.out q 0 ≡ number
    → refusal_at x i ≡ None → Fits i a
    → Each (set l.queue.table.places q (option_map (λ m. after m i) x)) (entered_in b.pages (At q (told i))) (set b.out q 0) s (answered_cell cell number a)
answer_some l b s cell q number i a None held low here only is right fits = absurd (cc)
answer_some l b s cell q number i a (Some m) held low here only is right fits =
    answer_stage l b s cell q number i a m.command m.done m.bytes m.sent m.stage held low here only is right fits

-- the answer is one of the request that is out, or of a dropped store
answer_case : (l : Line) (b : Books) (s : ℕ) (cell : Cell) (q number : ℕ) (i : Input) (a : Answer) (d e : Bool) → e ≡ d → is_out l.queue.out q number ≡ d
    → Held l b s cell → q < 33 → IsOnly l q number → line_refusal l q number i ≡ None → Fits i a
    → Each (if d then record l.queue { table = with_input l.queue.table q i; out = set l.queue.out q 0 } else l.queue).table.places
    (if e then record { pages = entered_in b.pages (At q (told i)); out = set b.out q 0 } else b).pages
    (if e then record { pages = entered_in b.pages (At q (told i)); out = set b.out q 0 } else b).out s (answered_cell cell number a)
answer_case l b s cell q number i a false true same is held low only right fits = absurd (cc)
answer_case l b s cell q number i a true false same is held low only right fits = absurd (cc)
answer_case l b s cell q number i a false false same is held low only right fits = λ p m g low' was had alive.
    left_claims m g (get_or b.out p 0) s cell number a (held.each p m g low' was had alive)
    (λ some e. no_bool _ (only p low' (omega (arith, some, e)) (ap (λ o. get_or o p 0) (sym held.agree.out) ∙ e)).1 is _)
answer_case l b s cell q number i a true true same is held low only right fits =
    let there : get_or b.out q 0 ≡ number = ap (λ o. get_or o q 0) held.agree.out ∙ eqb-true _ _ (of_and _ _ is).1 in
    let right' : refusal_at (command_at l q) i ≡ None = sym (if_true (is_out l.queue.out q number) (refusal_at (command_at l q) i) (orphan_refusal (orphan l q) number i) is) ∙ right in
    answer_some l b s cell q number i a (command_at l q) held low refl only there right' fits

pub answered_held : (l : Line) (b : Books) (s : ℕ) (cell : Cell) (q number : ℕ) (i : Input) (a : Answer) → IsDeed l (deed.Answers q number i) → Held l b s cell
    → IsOnly l q number → line_refusal l q number i ≡ None → Fits i a
    → Held (after_deed l (deed.Answers q number i)) (entered_by b (seen l.queue (act_of (deed.Answers q number i)))) s (answered_cell cell number a)
answered_held l b s cell q number i a is held only right fits =
    held_by l b s cell _ (deed.Answers q number i) is held
    (answer_case l b s cell q number i a (is_out l.queue.out q number) (is_out b.out q number) (ap (λ o. is_out o q number) held.agree.out) refl held is.0 only right fits)
