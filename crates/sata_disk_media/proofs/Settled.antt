-- As a write ends well, nothing that was asked for before can still change its sectors. A store that is out bars each other store of its sectors, so the
-- last store of a sector that is kept is the last one of all; and a discard that is out bars each command.
use Rattle.std.proofs.Common.{◌≡◌, ◌≢◌, ℕ, ◌+◌, ◌*◌, ◌<◌, true, false, List, [], ◌∷◌, ◌++◌, length, Some, None, refl, sym, ap, ◌∙◌, arith, subst, ◌⊎◌}
use Rattle.std.proofs.{Common.{inl, inr}, lemmas.Bool.{cases_eq, eqb-true, false≢true, leb-true, ltb-true}}
use Rattle.std.specs.{Prelude.{Option, Bool, not, ◌==◌, ◌&&◌, if◌then◌else◌}, List.filter}
use Rattle.block_command.specs.{declared.command.{Command.Command, Stage.Stage}, Laws.{AskedStore, Goes}, Moments.{Moment, part_count, runs, turn_of}}
use Rattle.block_command.specs.declared.command.Stage.TheVariants as stage
use Rattle.block_command.proofs.Door.{Agrees, at}
use Rattle.block_disk.specs.{Laws.{At, Page, Reset, Shown, shown_at}, Requests.{Answered, Asked, Books, Drawn, OnLink, Queue, Seen, seen}}
use Rattle.block_disk.proofs.Door.{Matches}
use Rattle.block_queue.specs.Deeds as deed
use Rattle.block_queue.specs.{Deeds.{AllAreApart, AreApart, Deed, Each, Has, act_of, after_deed, is_other, is_stored, out_after, seen_of}, Line.Line}
use Rattle.block_queue.specs.Line.{command_at}
use Rattle.block_queue.proofs.Door.{of_and}
use Rattle.block_scheduler.specs.{Laws.all_deeds, Sets.is_end}
use Rattle.block_engine.specs.declared.{aside.AsideKind.AsideKind, request.{Answer.Answer, Range.Range, Request.Request, What.What}}
use Rattle.block_engine.specs.{Engine.{IsAskedOf, aside_what, place_of, runs_at, what_at}, Laws.{all_moves, answer_moves}}
use Rattle.block_engine.specs.declared.aside.AsideKind.TheVariants as kinds
use Rattle.block_engine.specs.declared.request.Answer.TheVariants as answers
use Rattle.block_engine.specs.declared.request.What.TheVariants as what
use Rattle.block_engine.specs.Laws as engine
use Rattle.disk_pages.specs.declared.profile.Profile.{Profile}
use Rattle.sata_disk.specs.State.{DiskState, commands, new_disk}
use Rattle.sata_disk_laws.specs.Calls as call
use Rattle.sata_disk_laws.specs.{Calls.{AreCalls, Answers, Asks, Call, IsCall, after_call, after_calls, ask_steps, asked_by}, Laws.DiscardsAreAlone}
use Rattle.sata_disk_laws.specs.Laws.{RequestsAreApart, reached}
use Rattle.sata_disk_books.specs.Books.{books_after}
use Rattle.sata_disk_books.proofs.Door.{shown_both, shown_from}
use Rattle.sata_disk_media.specs.Cells.{Cell, Kept, Storing, Unknown, answered_cell, asked_cell, covers, in_ranges, kept_in, sector_of}
use Rattle.sata_disk_media.specs.{Laws.{WritesAreKept, touches}, Media.{cell_after, cell_of, kept, store_bytes}, Settled.IsAnsweredIn}
use Rattle.sata_disk_media.specs.Settled.{WritesAreSettled}
use Rattle.sata_disk_media.proofs.{Called.{AllOf, calm_deeds, deeds_by}, Discarded.{IsPending, discards_settled, pending_discards}, Kept.Ended}
use Rattle.sata_disk_media.proofs.{Kept.{IsAtEnd, cell_both, ended}, Moments.store_part, Runs.{IsHeld, are_first, are_then, books_in, held_then}}
use Rattle.sata_disk_media.proofs.{Runs.run_held, Stored.is_calm, Walk.{shown_by, shown_one}}

-- ## What is out

-- the request is in the list
abbrev In : deed.Out → List deed.Out → Type 0
In x [] = ⊥
In x (y ∷ ys) = (y ≡ x) ⊎ In x ys

in_cond : (x y : deed.Out) (b : Bool) (rest : List deed.Out) → (y ≡ x → b ≡ true) → (y ≡ x) ⊎ In x rest → In x (if b then y ∷ rest else rest)
in_cond x y true rest keeps is = is
in_cond x y false rest keeps (inl same) = absurd (false≢true (keeps same))
in_cond x y false rest keeps (inr more) = more

in_filter : (test : deed.Out → Bool) (x : deed.Out) (ys : List deed.Out) → test x ≡ true → In x ys → In x (filter test ys)
in_filter test x [] keeps is = is
in_filter test x (y ∷ ys) keeps (inl same) = in_cond x y (test y) (filter test ys) (λ e. ap test e ∙ keeps) (inl same)
in_filter test x (y ∷ ys) keeps (inr more) = in_cond x y (test y) (filter test ys) (λ e. ap test e ∙ keeps) (inr (in_filter test x ys keeps more))

of_each : (P : deed.Out → Type 0) (x : deed.Out) (ys : List deed.Out) → Each P ys → In x ys → P x
of_each P x (y ∷ ys) all (inl same) = subst P same all.0
of_each P x (y ∷ ys) all (inr more) = of_each P x ys all.1 more
of_each P x [] all is = absurd is

-- what is seen answers no request of this number
abbrev Spares : (number : ℕ) → Seen → Type 0
Spares number (Answered place other what) = other ≢ number
Spares number s = Unit {0}

abbrev AllSpare : (number : ℕ) → List Seen → Type 0
AllSpare number [] = Unit {0}
AllSpare number (s ∷ later) = Spares number s × AllSpare number later

other_number : (place : ℕ) (number : ℕ) (x : deed.Out) → number ≢ x.number → is_other place number x ≡ true
other_number place number x apart = by (x.place == place) (x.number == number) refl
  where
    by : (a b : Bool) → (x.number == number) ≡ b → not (a && b) ≡ true
    by true true e = absurd (apart (sym (eqb-true x.number number e)))
    by true false e = refl
    by false b e = refl

shown_in' : (x : deed.Out) (out : List deed.Out) (s : Shown) → is_stored x ≡ true → In x out → In x (out_after out (OnLink s))
shown_in' x out Reset store is = in_filter is_stored x out store is
shown_in' x out s store is = is

asked_in : (x : deed.Out) (out : List deed.Out) (place number : ℕ) (s : Shown) → In x out → In x (out_after out (Asked place number s))
asked_in x out place number (At where' h) is = inr is
asked_in x out place number s is = is

seen_in' : (x : deed.Out) (out : List deed.Out) (s : Seen) → Spares x.number s → is_stored x ≡ true → In x out → In x (out_after out s)
seen_in' x out (OnLink s) spares store is = shown_in' x out s store is
seen_in' x out (Asked place number s) spares store is = asked_in x out place number s is
seen_in' x out (Answered place number h) spares store is = in_filter (is_other place number) x out (other_number place number x spares) is
seen_in' x out (Drawn number) spares store is = is

abbrev outs : List deed.Out → List Seen → List deed.Out
outs out [] = out
outs out (s ∷ later) = outs (out_after out s) later

all_in : (xs : List Seen) (x : deed.Out) (out : List deed.Out) → AllSpare x.number xs → is_stored x ≡ true → In x out → In x (outs out xs)
all_in [] x out spare store is = is
all_in (s ∷ later) x out spare store is = all_in later x (out_after out s) spare.1 store (seen_in' x out s spare.0 store is)

apart_first : (xs ys : List Seen) (out : List deed.Out) → AllAreApart out (xs ++ ys) → AllAreApart out xs
apart_first [] ys out are = tt
apart_first (x ∷ xs) ys out are = (are.0, apart_first xs ys (out_after out x) are.1)

apart_then : (xs ys : List Seen) (out : List deed.Out) → AllAreApart out (xs ++ ys) → AllAreApart (outs out xs) ys
apart_then [] ys out are = are
apart_then (x ∷ xs) ys out are = apart_then xs ys (out_after out x) are.1

-- ## What a call shows

calm_seen : (number : ℕ) (q : Queue) (d : Deed) → is_calm d ≡ true → Spares number (seen q (act_of d))
calm_seen number q (deed.Asks place) e = absurd (false≢true e)
calm_seen number q (deed.Answers place k i) e = absurd (false≢true e)
calm_seen number q other e = tt

calm_spare : (number : ℕ) (ds : List Deed) (l : Line) → AllOf is_calm ds → AllSpare number (seen_of l ds)
unfolding seen_of
calm_spare number [] l calm = tt
calm_spare number (d ∷ later) l calm = (calm_seen number l.queue d calm.0, calm_spare number later (after_deed l d) calm.1)

ask_spare : (number : ℕ) (d : DiskState) (x : Option ℕ) → AllSpare number (seen_of (commands d) (deeds_by d.engine (ask_steps x)))
unfolding seen_of all_deeds all_moves
ask_spare number d None = (tt, tt)
ask_spare number d (Some q) = (tt, tt)

unfoldable AnswerSpares : (number : ℕ) → DiskState → (x : Option ℕ) → (k : ℕ) → Answer → Type 0
AnswerSpares number d x k a = AllSpare number (seen_of (commands d) (all_deeds d.engine.schedule (answer_moves d.engine x k a ++ [])))

answer_spare : (number : ℕ) (d : DiskState) (x : Option ℕ) (k : ℕ) (a : Answer) → k ≢ number → AnswerSpares number d x k a
unfolding seen_of all_deeds AnswerSpares
answer_spare number d None k a apart = tt
answer_spare number d (Some p) k (answers.Loaded bytes) apart = (apart, tt)
answer_spare number d (Some p) k answers.Done apart = (apart, tt)
answer_spare number d (Some p) k (answers.Failed f) apart = (apart, tt)

answer_call : (number : ℕ) (d : DiskState) (k : ℕ) (a : Answer) → k ≢ number → AllSpare number (shown_by d (Answers k a))
unfolding all_moves AnswerSpares
answer_call number d k a apart = answer_spare number d (place_of d.engine k) k a apart

abbrev IsOther : (number : ℕ) → Call → Type 0
IsOther number (Answers k a) = k ≢ number
IsOther number c = Unit {0}

call_spare : (number : ℕ) (d : DiskState) (c : Call) → IsOther number c → AllSpare number (shown_by d c)
call_spare number d (Asks r) other = ask_spare number d r.place
call_spare number d (Answers k a) other = answer_call number d k a other
call_spare number d call.Plugs other = calm_spare number _ (commands d) (calm_deeds d call.Plugs refl)
call_spare number d (call.Hears f) other = calm_spare number _ (commands d) (calm_deeds d (call.Hears f) refl)
call_spare number d (call.Starts x) other = calm_spare number _ (commands d) (calm_deeds d (call.Starts x) refl)
call_spare number d (call.Sends o) other = calm_spare number _ (commands d) (calm_deeds d (call.Sends o) refl)

one_after : (d : DiskState) (c : Call) → after_calls d (c ∷ []) ≡ after_call d c
unfolding after_calls
one_after d c = refl

shown_then : (d : DiskState) (c : Call) (later : List Call) → shown_from d (c ∷ later) ≡ shown_by d c ++ shown_from (after_call d c) later
shown_then d c later =
    shown_both d (c ∷ []) later ∙ ap (λ (x : List Seen). x ++ shown_from (after_calls d (c ∷ [])) later) (shown_one d c)
    ∙ ap (λ (z : DiskState). shown_by d c ++ shown_from z later) (one_after d c)

-- ## A store that is asked for

-- it is shown with these bytes, and has the sector
record IsStoreOf (x : Option Moment) (s : ℕ) : Type 0 where
  lba : ℕ
  bytes : List ℕ
  is : (q : ℕ) → shown_at q x Goes ≡ At q (AskedStore lba bytes)
  has : Has (AskedStore lba bytes) s

stored_at : (c : Command) (done : ℕ) (bytes : List ℕ) (sent s : ℕ) → length bytes ≡ part_count c done * 512 → covers (c.lba + done) (part_count c done) s ≡ true
    → IsStoreOf (Some (at c done bytes sent stage.Store)) s
stored_at c done bytes sent s long cov =
    let h = of_and _ _ cov in
    let least = leb-true (c.lba + done) s h.0 in
    let most = ltb-true s (c.lba + done + part_count c done) h.1 in
    record { lba = c.lba + done; bytes = bytes; is = λ q. refl; has = (least, omega (arith, most, long)) }

first_of : (a b x y : ℕ) → what.Store a b ≡ what.Store x y → a ≡ x
first_of a b x y e = cc

count_of : (a b x y : ℕ) → what.Store a b ≡ what.Store x y → b ≡ y
count_of a b x y e = cc

stage_of : (c : Command) (done : ℕ) (bytes : List ℕ) (sent : ℕ) (st : Stage) (lba count s : ℕ) (g : Page) → c ≡ g.command
    → Agrees g.command (at c done bytes sent st) g.ledger → what_at (Some (at c done bytes sent st)) ≡ what.Store lba count → covers lba count s ≡ true
    → IsStoreOf (Some (at c done bytes sent st)) s
stage_of c done bytes sent stage.Store lba count s g same agrees e cov =
    let first : c.lba + done ≡ lba = first_of _ _ _ _ e in
    let many : part_count c done ≡ count = count_of _ _ _ _ e in
    let part = store_part c done bytes sent g.ledger (subst (λ (x : Command). Agrees x (at c done bytes sent stage.Store) g.ledger) (sym same) agrees) in
    stored_at c done bytes sent s part.long
    (subst (λ (a : ℕ). covers a (part_count c done) s ≡ true) (sym first) (subst (λ (n : ℕ). covers lba n s ≡ true) (sym many) cov))
stage_of c done bytes sent st lba count s g same agrees e cov = absurd (cc)

store_of : (x : Option Moment) (y : Option Page) (lba count s : ℕ) → Matches x y → what_at x ≡ what.Store lba count → covers lba count s ≡ true → IsStoreOf x s
store_of None y lba count s match' e cov = absurd (cc)
store_of (Some m) None lba count s match' e cov = absurd match'
store_of (Some m) (Some g) lba count s match' e cov = stage_of m.command m.done m.bytes m.sent m.stage lba count s g match'.0 match'.1 e cov

record Asking (d : DiskState) (r : Request) (s : ℕ) : Type 0 where
  place : ℕ
  lba : ℕ
  bytes : List ℕ
  shows : shown_by d (Asks r) ≡ Asked place (commands d).queue.next (At place (AskedStore lba bytes)) ∷ []
  number : r.number ≡ (commands d).queue.next
  has : Has (AskedStore lba bytes) s

ask_shown : (d : DiskState) (q : ℕ) → seen_of (commands d) (deeds_by d.engine (engine.Asks q ∷ []))
    ≡ Asked q (commands d).queue.next (shown_at q (command_at (commands d) q) Goes) ∷ []
unfolding seen_of all_deeds all_moves
ask_shown d q = refl

no_store : (k : AsideKind) (lba count : ℕ) → aside_what k ≡ what.Store lba count → ⊥
no_store kinds.Flush lba count e = cc
no_store kinds.Discard lba count e = cc

asking_case : (d : DiskState) (b : Books) (s : ℕ) (cell : Cell) (r : Request) (k : Option ℕ) → IsHeld d b s cell → r.place ≡ k
    → r.number ≡ (commands d).queue.next → IsAskedOf d.engine (asked_by d.engine k) r k → (lba count : ℕ) → r.what ≡ what.Store lba count
    → covers lba count s ≡ true → Asking d r s
asking_case d b s cell r None held at' number is lba count e cov = absurd (no_store d.engine.kind lba count (sym is.3 ∙ e))
asking_case d b s cell r (Some q) held at' number is lba count e cov =
    let it = store_of (command_at (commands d) q) _ lba count s (held.held.agree.kept.each q) (sym is.2 ∙ e) cov in
    record {
      place = q;
      lba = it.lba;
      bytes = it.bytes;
      shows = ap (λ (x : Option ℕ). seen_of (commands d) (deeds_by d.engine (ask_steps x))) at' ∙ ask_shown d q
          ∙ ap (λ (x : Shown). Asked q (commands d).queue.next x ∷ []) (it.is q);
      number = number;
      has = it.has;
    }

asking : (d : DiskState) (b : Books) (s : ℕ) (cell : Cell) (r : Request) → IsHeld d b s cell → IsCall d (Asks r) → (lba count : ℕ)
    → r.what ≡ what.Store lba count → covers lba count s ≡ true → Asking d r s
asking d b s cell r held is lba count e cov = asking_case d b s cell r r.place held refl is.0 is.1 lba count e cov

-- no other store of its sectors is asked for while one is out
bars : (d : DiskState) (b : Books) (s : ℕ) (cell : Cell) (r : Request) (out : List deed.Out) (x : deed.Out) → IsHeld d b s cell → IsCall d (Asks r)
    → AllAreApart out (shown_by d (Asks r)) → In x out → is_stored x ≡ true → Has x.what s → (lba count : ℕ) → r.what ≡ what.Store lba count
    → covers lba count s ≡ true → ⊥
bars d b s cell r out x held is apart there store has lba count e cov =
    let it = asking d b s cell r held is lba count e cov in
    let each = (subst (AllAreApart out) it.shows apart).0 in
    false≢true (sym (of_each (λ (y : deed.Out). AreApart (AskedStore it.lba it.bytes) y.what) x out each there s it.has has).0)

-- ## What is known of the sector

-- a store of this number was the last that was asked for, and is out; or nothing is known
abbrev Waits : (number : ℕ) → Cell → Type 0
Waits number Unknown = Unit {0}
Waits number (Storing n bytes) = n ≡ number
Waits number (Kept bytes) = ⊥

not_kept : (number : ℕ) (cell : Cell) (bytes : List ℕ) → Waits number cell → kept_in cell ≡ Some bytes → ⊥
not_kept number Unknown bytes waits e = cc
not_kept number (Storing n b) bytes waits e = cc
not_kept number (Kept b) bytes waits e = absurd waits

store_waits : (number n : ℕ) (bytes : List ℕ) (cell : Cell) (b : Bool) → Waits number cell → (b ≡ true → ⊥) → Waits number (if b then Storing n bytes else cell)
store_waits number n bytes cell true waits none = absurd (none refl)
store_waits number n bytes cell false waits none = waits

discard_waits : (number : ℕ) (cell : Cell) (b : Bool) → Waits number cell → Waits number (if b then Unknown else cell)
discard_waits number cell true waits = tt
discard_waits number cell false waits = waits

asked_waits : (number s : ℕ) (cell : Cell) (w : What) (n : ℕ) (bytes : List ℕ) (ranges : List Range) → Waits number cell
    → ((lba count : ℕ) → w ≡ what.Store lba count → covers lba count s ≡ true → ⊥) → Waits number (asked_cell s cell w n bytes ranges)
asked_waits number s cell (what.Store lba count) n bytes ranges waits none = store_waits number n _ cell (covers lba count s) waits (none lba count refl)
asked_waits number s cell what.Discard n bytes ranges waits none = discard_waits number cell (in_ranges ranges s) waits
asked_waits number s cell other n bytes ranges waits none = waits

done_waits : (number n k : ℕ) (bytes : List ℕ) (b : Bool) → (n == k) ≡ b → n ≡ number → k ≢ number → Waits number (if b then Kept bytes else Storing n bytes)
done_waits number n k bytes true e same apart = absurd (apart (sym (eqb-true n k e) ∙ same))
done_waits number n k bytes false e same apart = same

failed_waits : (number n : ℕ) (bytes : List ℕ) (b : Bool) → n ≡ number → Waits number (if b then Unknown else Storing n bytes)
failed_waits number n bytes true same = tt
failed_waits number n bytes false same = same

answered_waits : (number : ℕ) (cell : Cell) (k : ℕ) (a : Answer) → k ≢ number → Waits number cell → Waits number (answered_cell cell k a)
answered_waits number (Storing n bytes) k answers.Done apart waits = done_waits number n k bytes (n == k) refl waits apart
answered_waits number (Storing n bytes) k (answers.Failed f) apart waits = failed_waits number n bytes (n == k) waits
answered_waits number (Storing n bytes) k (answers.Loaded loaded) apart waits = waits
answered_waits number Unknown k answers.Done apart waits = tt
answered_waits number Unknown k (answers.Failed f) apart waits = tt
answered_waits number Unknown k (answers.Loaded loaded) apart waits = tt
answered_waits number (Kept bytes) k a apart waits = absurd waits

-- ## Until it is answered

module _ (s : ℕ) (x : deed.Out) (store : is_stored x ≡ true) (has : Has x.what s) (bytes : List ℕ) where
  -- what is known behind some calls of a disk, before these
  record Stands (d : DiskState) (later : List Call) : Type 0 where
    books : Books
    cell : Cell
    out : List deed.Out
    are : AreCalls d later
    held : IsHeld d books s cell
    apart : AllAreApart out (shown_from d later)
    there : In x out
    waits : Waits x.number cell
    last : kept_in (cell_of d s cell later) ≡ Some bytes

  -- behind one call that does not answer it
  on : (d : DiskState) (c : Call) (later : List Call) (k : Stands d (c ∷ later)) → IsOther x.number c → Waits x.number (cell_after d s k.cell c)
      → Stands (after_call d c) later
  unfolding cell_of
  on d c later k other waits =
      let parts : AllAreApart k.out (shown_by d c ++ shown_from (after_call d c) later) = subst (AllAreApart k.out) (shown_then d c later) k.apart in
      record {
        books = books_after k.books (shown_by d c);
        cell = cell_after d s k.cell c;
        out = outs k.out (shown_by d c);
        are = k.are.1;
        held = held_then d k.books s k.cell c k.are.0 k.held;
        apart = apart_then (shown_by d c) (shown_from (after_call d c) later) k.out parts;
        there = all_in (shown_by d c) x k.out (call_spare x.number d c other) store k.there;
        waits = waits;
        last = k.last;
      }

  later_answered : (c : Call) (later : List Call) → IsAnsweredIn x.number later → IsAnsweredIn x.number (c ∷ later)
  later_answered c later it = record { before = c ∷ it.before; answer = it.answer; later = it.later; is = ap (λ (l : List Call). c ∷ l) it.is }

  step : (d : DiskState) (c : Call) (later : List Call) → (Stands (after_call d c) later → IsAnsweredIn x.number later) → Stands d (c ∷ later)
      → IsAnsweredIn x.number (c ∷ later)
  step d (Answers n a) later more k = elim (cases_eq n x.number) [
    | inl same ↦ record { before = []; answer = a; later = later; is = ap (λ (j : ℕ). Answers j a ∷ later) same }
    | inr apart ↦ later_answered (Answers n a) later
        (more (on d (Answers n a) later k apart (answered_waits x.number k.cell n a apart k.waits)))
  ]
  step d (Asks r) later more k =
      let parts = subst (AllAreApart k.out) (shown_then d (Asks r) later) k.apart in
      let none = bars d k.books s k.cell r k.out x k.held k.are.0 (apart_first (shown_by d (Asks r)) (shown_from (after_call d (Asks r)) later) k.out parts) k.there
      store has in
      later_answered (Asks r) later (more (on d (Asks r) later k tt
      (asked_waits x.number s k.cell r.what r.number (store_bytes d r.place) d.engine.ranges k.waits none)))
  step d call.Plugs later more k = later_answered call.Plugs later (more (on d call.Plugs later k tt k.waits))
  step d (call.Hears f) later more k = later_answered (call.Hears f) later (more (on d (call.Hears f) later k tt k.waits))
  step d (call.Starts p) later more k = later_answered (call.Starts p) later (more (on d (call.Starts p) later k tt k.waits))
  step d (call.Sends o) later more k = later_answered (call.Sends o) later (more (on d (call.Sends o) later k tt k.waits))

  answered : (later : List Call) (d : DiskState) → Stands d later → IsAnsweredIn x.number later
  unfolding cell_of
  answered [] d k = absurd (not_kept x.number k.cell bytes k.waits k.last)
  answered (c ∷ later) d k = step d c later (answered later (after_call d c)) k

-- ## Stores

asked_now : (s : ℕ) (cell : Cell) (w : What) (n number : ℕ) (bytes : List ℕ) (ranges : List Range) (lba count : ℕ) → w ≡ what.Store lba count
    → covers lba count s ≡ true → n ≡ number → Waits number (asked_cell s cell w n bytes ranges)
asked_now s cell w n number bytes ranges lba count e cov same =
    subst (λ (y : What). Waits number (asked_cell s cell y n bytes ranges)) (sym e) (by (covers lba count s) cov)
  where
    by : (b : Bool) → b ≡ true → Waits number (if b then Storing n (sector_of lba s bytes) else cell)
    by true f = same
    by false f = absurd (false≢true f)

pub stores_settled : RequestsAreApart → (p : Profile) (limit : ℕ) (calls : List Call) (s : ℕ) (bytes : List ℕ) → AreCalls (new_disk p limit) calls
    → kept p limit calls s ≡ Some bytes → (before : List Call) (r : Request) (later : List Call) → calls ≡ before ++ Asks r ∷ later
    → (lba count : ℕ) → r.what ≡ what.Store lba count → covers lba count s ≡ true → IsAnsweredIn r.number later
unfolding cell_of
stores_settled law p limit calls s bytes are keeps before r later is lba count e cov =
    let c : Call = Asks r in
    let new : DiskState = new_disk p limit in
    let d : DiskState = reached p limit before in
    let all : AreCalls new (before ++ c ∷ later) = subst (AreCalls new) is are in
    let go : AreCalls d (c ∷ later) = are_then before (c ∷ later) new all in
    let cell : Cell = cell_of new s Unknown before in
    let held : IsHeld d (books_in p limit before) s cell = run_held p limit before s (are_first before (c ∷ later) new all) in
    let it = asking d (books_in p limit before) s cell r held go.0 lba count e cov in
    let x : deed.Out = record { place = it.place; number = (commands d).queue.next; what = AskedStore it.lba it.bytes } in
    let out : List deed.Out = outs [] (shown_from new before) in
    let apart : AllAreApart out (shown_from d (c ∷ later)) =
    apart_then (shown_from new before) (shown_from d (c ∷ later)) [] (subst (AllAreApart []) (shown_both new before (c ∷ later)) (law p limit (before ++ c ∷ later) all)) in
    let parts : AllAreApart out (shown_by d c ++ shown_from (after_call d c) later) = subst (AllAreApart out) (shown_then d c later) apart in
    let final : kept_in (cell_of d s cell (c ∷ later)) ≡ Some bytes =
    ap kept_in (sym (cell_both before (c ∷ later) new s Unknown)) ∙ ap (λ (l : List Call). kept p limit l s) (sym is) ∙ keeps in
    let k : Stands s x refl it.has bytes (after_call d c) later = record {
      books = books_after (books_in p limit before) (shown_by d c);
      cell = cell_after d s cell c;
      out = outs out (shown_by d c);
      are = go.1;
      held = held_then d (books_in p limit before) s cell c go.0 held;
      apart = apart_then (shown_by d c) (shown_from (after_call d c) later) out parts;
      there = subst (λ (l : List Seen). In x (outs out l)) (sym it.shows) (inl refl);
      waits = asked_now s cell r.what r.number (commands d).queue.next (store_bytes d r.place) d.engine.ranges lba count e cov it.number;
      last = final;
    } in
    subst (λ (n : ℕ). IsAnsweredIn n later) (sym it.number) (answered s x refl it.has bytes later (after_call d c) k)

-- ## What is out as a write ends

end_runs : (st : Stage) → is_end (turn_of st) ≡ true → runs st ≡ true
end_runs stage.End e = refl
end_runs st e = absurd (cc)

-- a command that runs stands at the place
none_pending : DiscardsAreAlone → (p : Profile) (limit : ℕ) (calls : List Call) (place : ℕ) → AreCalls (new_disk p limit) calls → place < 33
    → IsAtEnd (command_at (commands (reached p limit calls)) place) → (number : ℕ) → IsPending (reached p limit calls).engine number → ⊥
none_pending law p limit calls place are low end number pending =
    let still = (law p limit calls are (pending_discards (reached p limit calls).engine number pending)).still place low in
    false≢true (sym still ∙ ap runs_at end.is ∙ end_runs end.moment.stage end.end)

touched_case : (s : ℕ) (w : What) (ranges : List Range) (P : Type 0) → touches s w ranges ≡ true
    → ((lba count : ℕ) → w ≡ what.Store lba count → covers lba count s ≡ true → P) → (w ≡ what.Discard → P) → P
touched_case s (what.Store lba count) ranges P e store discard = store lba count refl e
touched_case s what.Discard ranges P e store discard = discard refl
touched_case s other ranges P e store discard = absurd (false≢true e)

pub writes_are_settled : RequestsAreApart → DiscardsAreAlone → WritesAreKept → WritesAreSettled
writes_are_settled apart alone keeps p limit calls o place s g are goes well page write cov before r later is touched =
    let e : Ended (reached p limit calls) place = ended (reached p limit calls) o place goes well in
    touched_case s r.what (reached p limit before).engine.ranges (IsAnsweredIn r.number later) touched
    (stores_settled apart p limit calls s (sector_of g.command.lba s g.ledger.came) are (keeps p limit calls o place s g are goes well page write cov) before r later is)
    (discards_settled p limit calls are (none_pending alone p limit calls place are e.low e.at') before r later is)
