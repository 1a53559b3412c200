-- What is held, and what loads brought, over every run of a disk.
use Rattle.std.proofs.Common.{◌≡◌, ℕ, ◌<◌, true, false, List, [], ◌∷◌, ◌++◌, length, Some, None, refl, sym, ap, ◌∙◌, arith, append_assoc, subst}
use Rattle.std.proofs.lemmas.List.{append-nil, length-replicate}
use Rattle.std.specs.Prelude.{Option, Bool, if◌then◌else◌, replicate}
use Rattle.block_command.specs.{Laws.{Input, Fails, Flushes, Loads, Stores}, Moments.Moment}
use Rattle.block_disk.specs.{Laws.at_page, Requests.{Books, entered_by, no_books, seen}}
use Rattle.block_disk.proofs.Door.{each_is, kept_none}
use Rattle.block_queue.specs.Deeds as deed
use Rattle.block_queue.specs.{Deeds.{AreDeeds, Deed, act_of, after_deed, seen_of}, Line.{Line, command_at}}
use Rattle.block_queue.proofs.Door.{new_line}
use Rattle.block_scheduler.specs.Laws.{all_deeds}
use Rattle.block_engine.specs.{declared.request.{Answer.Answer, Request.Request}, Engine.{IsAskedOf, done_of, place_of, what_at}, Laws.all_moves}
use Rattle.block_engine.specs.declared.request.Answer.TheVariants as answers
use Rattle.block_engine.specs.declared.request.What.TheVariants as what
use Rattle.block_engine.specs.Laws as engine
use Rattle.disk_pages.specs.declared.profile.Profile.{Profile}
use Rattle.sata_disk.specs.State.{DiskState, commands, new_disk}
use Rattle.sata_disk_laws.specs.Calls as call
use Rattle.sata_disk_laws.specs.Calls.{AreCalls, Answers, Asks, Call, IsCall, after_call, after_calls, all_steps, ask_steps, asked_by, steps_of}
use Rattle.sata_disk_laws.specs.Laws.{reached, seen_in}
use Rattle.sata_disk_books.specs.Books.{books_after}
use Rattle.sata_disk_books.proofs.Door.{books_both, shown_both, shown_from}
use Rattle.sata_disk_media.specs.{Cells.{Cell, Unknown}, Laws.{IsBrought, IsUnread}, Media.{IsHonest, IsTrue, cell_after, cell_of, kept}}
use Rattle.sata_disk_media.proofs.{Called.{AllOf, call_are, calm_call, calm_deeds, deeds_are, deeds_by}, Loaded.{Brings, GivenAt, answered_given}}
use Rattle.sata_disk_media.proofs.{Loaded.{asked_given, calm_given, given_more}, Numbers.{Numbered, new_numbered}, Stored.{Each, Held, calm_held}}
use Rattle.sata_disk_media.proofs.{Stored.is_calm, Walk.{call_held, call_numbered, shown_by, shown_one}}

-- ## Lists of calls

pub are_first : (xs ys : List Call) (d : DiskState) → AreCalls d (xs ++ ys) → AreCalls d xs
are_first [] ys d are = tt
are_first (c ∷ xs) ys d are = (are.0, are_first xs ys (after_call d c) are.1)

pub are_then : (xs ys : List Call) (d : DiskState) → AreCalls d (xs ++ ys) → AreCalls (after_calls d xs) ys
unfolding after_calls
are_then [] ys d are = are
are_then (c ∷ xs) ys d are = are_then xs ys (after_call d c) are.1

none_shown : (b : Books) (d : DiskState) → books_after b (shown_from d []) ≡ b
unfolding books_after seen_of all_deeds all_moves all_steps
none_shown b d = refl

one_after : (d : DiskState) (c : Call) → after_calls d (c ∷ []) ≡ after_call d c
unfolding after_calls
one_after d c = refl

-- the books behind one call, and behind more
pub books_then : (b : Books) (d : DiskState) (c : Call) (later : List Call)
    → books_after b (shown_from d (c ∷ later)) ≡ books_after (books_after b (shown_by d c)) (shown_from (after_call d c) later)
books_then b d c later =
    ap (λ x. books_after b x) (shown_both d (c ∷ []) later) ∙ books_both (shown_from d (c ∷ [])) (shown_from (after_calls d (c ∷ [])) later) b
    ∙ ap (λ x. books_after (books_after b x) (shown_from (after_calls d (c ∷ [])) later)) (shown_one d c)
    ∙ ap (λ x. books_after (books_after b (shown_by d c)) (shown_from x later)) (one_after d c)

-- ## What is held

pub record IsHeld (d : DiskState) (b : Books) (s : ℕ) (cell : Cell) : Type 0 where
  pub held : Held (commands d) b s cell
  pub numbered : Numbered d.engine

pub held_then : (d : DiskState) (b : Books) (s : ℕ) (cell : Cell) (c : Call) → IsCall d c → IsHeld d b s cell
    → IsHeld (after_call d c) (books_after b (shown_by d c)) s (cell_after d s cell c)
held_then d b s cell c is h = record { held = call_held d b s cell c is h.numbered h.held; numbered = call_numbered d c h.numbered }

calls_held : (calls : List Call) (d : DiskState) (b : Books) (s : ℕ) (cell : Cell) → AreCalls d calls → IsHeld d b s cell
    → IsHeld (after_calls d calls) (books_after b (shown_from d calls)) s (cell_of d s cell calls)
unfolding after_calls cell_of
calls_held [] d b s cell are h = subst (λ x. IsHeld d x s cell) (sym (none_shown b d)) h
calls_held (c ∷ later) d b s cell are h =
    subst (λ x. IsHeld (after_calls (after_call d c) later) x s (cell_of (after_call d c) s (cell_after d s cell c) later)) (sym (books_then b d c later))
    (calls_held later (after_call d c) (books_after b (shown_by d c)) s (cell_after d s cell c) are.1 (held_then d b s cell c are.0 h))

none_each : (out : List ℕ) (s : ℕ) (cell : Cell) → Each (replicate 33 None) (replicate 33 None) out s cell
none_each out s cell = λ p m g low at' page alive. absurd (let e : None ≡ Some m = sym (each_is (Option Moment) 33 p None) ∙ at' in cc)

new_held : (p : Profile) (limit s : ℕ) → IsHeld (new_disk p limit) no_books s Unknown
new_held p limit s = record {
  held = record {
    line = new_line;
    agree = record { kept = kept_none 33 refl; out = refl };
    outs = length-replicate {A = ℕ} 33 0;
    next = omega arith;
    each = none_each (replicate 33 0) s Unknown;
  };
  numbered = new_numbered limit;
}

-- the books behind a run
abbrev pub books_in : Profile → (limit : ℕ) → List Call → Books
books_in p limit calls = books_after no_books (seen_in p limit calls)

pub run_held : (p : Profile) (limit : ℕ) (calls : List Call) (s : ℕ) → AreCalls (new_disk p limit) calls
    → IsHeld (reached p limit calls) (books_in p limit calls) s (cell_of (new_disk p limit) s Unknown calls)
run_held p limit calls s are = calls_held calls (new_disk p limit) no_books s Unknown are (new_held p limit s)

-- ## What loads brought

module _ (p : Profile) (limit : ℕ) (first : List Call) where
  -- a load was asked for
  pub record IsAskedIn (later : List Call) (number lba count : ℕ) : Type 0 where
    pub before : List Call
    pub request : Request
    pub after : List Call
    pub is : later ≡ before ++ Asks request ∷ after
    pub number' : request.number ≡ number
    pub what' : request.what ≡ what.Load lba count

  abbrev pub GivenIn : List Call → Books → (q : ℕ) → Type 0
  GivenIn x b q = GivenAt (IsAskedIn x) (IsBrought p limit first x) b q

  asked_more : (x : List Call) (c : Call) (number lba count : ℕ) → IsAskedIn x number lba count → IsAskedIn (x ++ c ∷ []) number lba count
  asked_more x c number lba count is = record {
    before = is.before;
    request = is.request;
    after = is.after ++ c ∷ [];
    is = ap (λ z. z ++ c ∷ []) is.is ∙ append_assoc is.before (Asks is.request ∷ is.after) (c ∷ []);
    number' = is.number';
    what' = is.what';
  }

  brought_more : (x : List Call) (c : Call) (s : ℕ) (bytes : List ℕ) → IsBrought p limit first x s bytes → IsBrought p limit first (x ++ c ∷ []) s bytes
  brought_more x c s bytes is = record {
    before = is.before;
    number = is.number;
    answer = is.answer;
    after = is.after ++ c ∷ [];
    answered = ap (λ z. z ++ c ∷ []) is.answered ∙ append_assoc is.before (Answers is.number is.answer ∷ is.after) (c ∷ []);
    same = is.same;
  }

  more : (x : List Call) (c : Call) (b : Books) (q : ℕ) → GivenIn x b q → GivenIn (x ++ c ∷ []) b q
  more x c b q was = given_more (IsAskedIn x) (IsAskedIn (x ++ c ∷ [])) (IsBrought p limit first x) (IsBrought p limit first (x ++ c ∷ [])) b q
      (asked_more x c) (brought_more x c) was

  deeds_given : (x : List Call) (ds : List Deed) (l : Line) (b : Books) (q s : ℕ) (cell : Cell) → AreDeeds l ds → AllOf is_calm ds → q < 33 → Held l b s cell
      → GivenIn x b q → GivenIn x (books_after b (seen_of l ds)) q
  unfolding books_after seen_of
  deeds_given x [] l b q s cell are calm low held was = was
  deeds_given x (d ∷ later) l b q s cell are calm low held was =
      deeds_given x later (after_deed l d) (entered_by b (seen l.queue (act_of d))) q s cell are.1 calm.1 low (calm_held l b s cell d are.0 calm.0 held)
      (calm_given (IsAskedIn x) (IsBrought p limit first x) l b q s cell d are.0 calm.0 low held was)

  calm_then : (x : List Call) (d : DiskState) (b : Books) (q s : ℕ) (cell : Cell) (c : Call) → IsCall d c → calm_call c ≡ true → q < 33 → Held (commands d) b s cell
      → GivenIn x b q → GivenIn (x ++ c ∷ []) (books_after b (shown_by d c)) q
  calm_then x d b q s cell c is calm low held was = more x c _ q
      (deeds_given x (deeds_by d.engine (steps_of d c)) (commands d) b q s cell (deeds_are d.engine (steps_of d c) (call_are d c is)) (calm_deeds d c calm) low held was)

  -- ### A request

  ask_now : (x : List Call) (r : Request) (number lba count : ℕ) → r.number ≡ number → r.what ≡ what.Load lba count → IsAskedIn (x ++ Asks r ∷ []) number lba count
  ask_now x r number lba count e f = record { before = x; request = r; after = []; is = refl; number' = e; what' = f }

  ask_place : (y : List Call) (d : DiskState) (b : Books) (q s : ℕ) (cell : Cell) (k : ℕ) → deed.IsDeed (commands d) (deed.Asks k) → q < 33 → Held (commands d) b s cell
      → ((lba count : ℕ) → what_at (command_at (commands d) k) ≡ what.Load lba count → IsAskedIn y (commands d).queue.next lba count)
      → GivenIn y b q → GivenIn y (books_after b (seen_of (commands d) (deeds_by d.engine (engine.Asks k ∷ [])))) q
  unfolding books_after seen_of all_deeds all_moves
  ask_place y d b q s cell k is low held asks was =
      asked_given (IsAskedIn y) (IsBrought p limit first y) (commands d) b q k s cell is low held asks was

  ask_aside : (y : List Call) (d : DiskState) (b : Books) (q : ℕ) → GivenIn y b q
      → GivenIn y (books_after b (seen_of (commands d) (deeds_by d.engine (engine.AsksAside ∷ [])))) q
  unfolding books_after seen_of all_deeds all_moves
  ask_aside y d b q was = was

  ask_case : (x : List Call) (d : DiskState) (b : Books) (q s : ℕ) (cell : Cell) (r : Request) (k : Option ℕ) → r.number ≡ (commands d).queue.next
      → IsAskedOf d.engine (asked_by d.engine k) r k → q < 33 → Held (commands d) b s cell → GivenIn x b q
      → GivenIn (x ++ Asks r ∷ []) (books_after b (seen_of (commands d) (deeds_by d.engine (ask_steps k)))) q
  ask_case x d b q s cell r None number is low held was = ask_aside (x ++ Asks r ∷ []) d b q (more x (Asks r) b q was)
  ask_case x d b q s cell r (Some k) number is low held was =
      ask_place (x ++ Asks r ∷ []) d b q s cell k (is.0.below, is.0.passes) low held
      (λ lba count e. ask_now x r (commands d).queue.next lba count number (is.2 ∙ e)) (more x (Asks r) b q was)

  -- ### An answer

  -- what the caller gives to a load that was asked for is brought
  abbrev Honest : (x y : List Call) → (number : ℕ) → Answer → Type 0
  Honest x y number (answers.Loaded bytes) = Brings (IsAskedIn x) (IsBrought p limit first y) number bytes.items
  Honest x y number a = Unit {0}

  abbrev GivenTo : (x y : List Call) → Books → (q : ℕ) → Type 0
  GivenTo x y b q = GivenAt (IsAskedIn x) (IsBrought p limit first y) b q

  answer_place : (x y : List Call) (d : DiskState) (b : Books) (q s : ℕ) (cell : Cell) (k number : ℕ) (i : Input) → q < 33 → Held (commands d) b s cell
      → ((bytes : List ℕ) → i ≡ Loads bytes → Brings (IsAskedIn x) (IsBrought p limit first y) number bytes)
      → GivenTo x y b q → GivenTo x y (books_after b (seen_of (commands d) (deed.Answers k number i ∷ []))) q
  unfolding books_after seen_of
  answer_place x y d b q s cell k number i low held brings was =
      answered_given (IsAskedIn x) (IsBrought p limit first y) (commands d) b q k number s cell i low held brings was

  answer_none : (x y : List Call) (d : DiskState) (b : Books) (q : ℕ) → GivenTo x y b q → GivenTo x y (books_after b (seen_of (commands d) [])) q
  unfolding books_after seen_of
  answer_none x y d b q was = was

  done_not : (b : Bool) (bytes : List ℕ) → (if b then Stores else Flushes) ≡ Loads bytes → ⊥
  done_not true bytes e = cc
  done_not false bytes e = cc

  same_bytes : (xs ys : List ℕ) → Loads xs ≡ Loads ys → xs ≡ ys
  same_bytes xs ys e = cc

  unfoldable AnswerGiven : (x y : List Call) → DiskState → Books → (q : ℕ) → (k : Option ℕ) → (number : ℕ) → Answer → Type 0
  AnswerGiven x y d b q k number a = GivenTo x y (books_after b (seen_of (commands d) (all_deeds d.engine.schedule (engine.answer_moves d.engine k number a ++ [])))) q

  answer_case : (x y : List Call) (d : DiskState) (b : Books) (q s : ℕ) (cell : Cell) (number : ℕ) (a : Answer) (k : Option ℕ) → q < 33 → Held (commands d) b s cell
      → Honest x y number a → GivenTo x y b q → AnswerGiven x y d b q k number a
  unfolding all_deeds AnswerGiven
  answer_case x y d b q s cell number a None low held honest was = answer_none x y d b q was
  answer_case x y d b q s cell number (answers.Loaded bytes) (Some k) low held honest was =
      answer_place x y d b q s cell k number (Loads bytes.items) low held
      (λ xs e. subst (λ z. Brings (IsAskedIn x) (IsBrought p limit first y) number z) (same_bytes bytes.items xs e) honest) was
  answer_case x y d b q s cell number answers.Done (Some k) low held honest was =
      answer_place x y d b q s cell k number (done_of (commands d) k number) low held (λ xs e. absurd (done_not _ xs e)) was
  answer_case x y d b q s cell number (answers.Failed f) (Some k) low held honest was =
      answer_place x y d b q s cell k number Fails low held (λ xs e. absurd (cc)) was

  answer_then : (x y : List Call) (d : DiskState) (b : Books) (q s : ℕ) (cell : Cell) (number : ℕ) (a : Answer) → q < 33 → Held (commands d) b s cell
      → Honest x y number a → GivenTo x y b q → GivenTo x y (books_after b (shown_by d (Answers number a))) q
  unfolding all_moves AnswerGiven
  answer_then x y d b q s cell number a low held honest was = answer_case x y d b q s cell number a (place_of d.engine number) low held honest was

  -- ### The medium is honest

  parted : (u v rest : List Call) (x : List Call) (r : Request) (number : ℕ) (a : Answer) → x ≡ u ++ Asks r ∷ v → r.number ≡ number
      → first ++ x ++ Answers number a ∷ rest ≡ (first ++ u) ++ Asks r ∷ v ++ Answers r.number a ∷ rest
  parted u v rest x r number a is same =
      ap (λ z. (first ++ z) ++ Answers number a ∷ rest) is
      ∙ ap (λ n. (first ++ (u ++ Asks r ∷ v)) ++ Answers n a ∷ rest) (sym same)
      ∙ ap (λ z. z ++ Answers r.number a ∷ rest) (sym (append_assoc first u (Asks r ∷ v)))

  true_of : (k : ℕ → Option (List ℕ)) (r : Request) (lba count : ℕ) (a : Answer) → r.what ≡ what.Load lba count → IsTrue k r.what a → IsTrue k (what.Load lba count) a
  true_of k r lba count a e is = subst (λ w. IsTrue k w a) e is

  honest_brings : (x rest : List Call) (number : ℕ) (a : Answer) → IsHonest p limit (first ++ x ++ Answers number a ∷ rest) → Honest x (x ++ Answers number a ∷ []) number a
  honest_brings x rest number (answers.Loaded bytes) honest = λ lba count s is cov.
      let a : Answer = answers.Loaded bytes in
      let r : Request = is.request in
      let told = honest (first ++ is.before) is.after rest r a (parted is.before is.after rest x r number a is.is is.number') in
      let same : (first ++ is.before) ++ Asks r ∷ is.after ≡ first ++ x = append_assoc first is.before (Asks r ∷ is.after) ∙ ap (λ z. first ++ z) (sym is.is) in
      let now = true_of (kept p limit ((first ++ is.before) ++ Asks r ∷ is.after)) r lba count a is.what' told in
      record {
        before = x;
        number = number;
        answer = a;
        after = [];
        answered = refl;
        same = λ b k. now s b cov (ap (λ z. kept p limit z s) same ∙ k);
      }
  honest_brings x rest number other honest = tt

  -- ### Any call

  one_given : (x rest : List Call) (d : DiskState) (b : Books) (q s : ℕ) (cell : Cell) (c : Call) → IsCall d c → IsHonest p limit (first ++ x ++ c ∷ rest) → q < 33
      → Held (commands d) b s cell → GivenIn x b q → GivenIn (x ++ c ∷ []) (books_after b (shown_by d c)) q
  one_given x rest d b q s cell (Asks r) is honest low held was = ask_case x d b q s cell r r.place is.0 is.1 low held was
  one_given x rest d b q s cell (Answers number a) is honest low held was =
      let y : List Call = x ++ Answers number a ∷ [] in
      let brought = given_more (IsAskedIn x) (IsAskedIn x) (IsBrought p limit first x) (IsBrought p limit first y) b q (λ n lba count z. z) (brought_more x (Answers number a)) was in
      given_more (IsAskedIn x) (IsAskedIn y) (IsBrought p limit first y) (IsBrought p limit first y) (books_after b (shown_by d (Answers number a))) q
      (asked_more x (Answers number a)) (λ n bytes z. z) (answer_then x y d b q s cell number a low held (honest_brings x rest number a honest) brought)
  one_given x rest d b q s cell call.Plugs is honest low held was = calm_then x d b q s cell call.Plugs is refl low held was
  one_given x rest d b q s cell (call.Hears f) is honest low held was = calm_then x d b q s cell (call.Hears f) is refl low held was
  one_given x rest d b q s cell (call.Starts k) is honest low held was = calm_then x d b q s cell (call.Starts k) is refl low held was
  one_given x rest d b q s cell (call.Sends o) is honest low held was = calm_then x d b q s cell (call.Sends o) is refl low held was

  pub calls_given : (later x : List Call) (d : DiskState) (b : Books) (q s : ℕ) (cell : Cell) → AreCalls d later → IsHonest p limit (first ++ x ++ later) → q < 33
      → IsHeld d b s cell → GivenIn x b q → GivenIn (x ++ later) (books_after b (shown_from d later)) q
  calls_given [] x d b q s cell are honest low held was =
      subst (λ z. GivenIn z (books_after b (shown_from d [])) q) (sym (append-nil x)) (subst (λ z. GivenIn x z q) (sym (none_shown b d)) was)
  calls_given (c ∷ later) x d b q s cell are honest low held was =
      let y : List Call = x ++ c ∷ [] in
      let same : y ++ later ≡ x ++ c ∷ later = append_assoc x (c ∷ []) later in
      let longer : (first ++ y) ++ later ≡ (first ++ x) ++ c ∷ later =
      ap (λ z. z ++ later) (sym (append_assoc first x (c ∷ []))) ∙ append_assoc (first ++ x) (c ∷ []) later in
      let now = one_given x later d b q s cell c are.0 honest low held.held was in
      let then' = calls_given later y (after_call d c) (books_after b (shown_by d c)) q s (cell_after d s cell c) are.1
      (subst (λ z. IsHonest p limit z) (sym longer) honest) low (held_then d b s cell c are.0 held) now in
      subst (λ z. GivenIn z (books_after b (shown_from d (c ∷ later))) q) same
      (subst (λ z. GivenIn (y ++ later) z q) (sym (books_then b d c later)) then')

  pub unread_given : (b : Books) (q : ℕ) → IsUnread (at_page b.pages q) → GivenIn [] b q
  unread_given b q unread g at' = let is = subst IsUnread at' unread in record {
    sectors = λ s low long. absurd (let none = ap length is.0 in omega (arith, long, none));
    wanting = λ n some w. absurd (let e : None ≡ Some n = sym is.1 ∙ w in cc);
  }
