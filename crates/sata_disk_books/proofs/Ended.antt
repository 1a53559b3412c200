-- Each tag in a Set Device Bits FIS has earned its end.
use Rattle.std.proofs.Common.{◌≡◌, ℕ, zero, suc, ◌<◌, ◌≤◌, true, false, List, [], ◌∷◌, ◌++◌, Some, None, refl, sym, ap, ◌∙◌, subst, arith, inl, inr}
use Rattle.std.proofs.lemmas.{Bool.cases_eq, List.{get_or-set_other}}
use Rattle.std.specs.{Prelude.{Option, Bool, is_none, ◌&&◌, if◌then◌else◌}, Option.option_map}
use Rattle.block_command.specs.{declared.command.{Command.Command, Stage.{Stage, TheVariants.End}}, Moments.{Moment, is_queued, turn_of}, Laws.Goes}
use Rattle.block_command.specs.Laws.{SentEnd, after}
use Rattle.block_command.proofs.Door.{at}
use Rattle.block_disk.specs.{Table.{Table, may_go_at, wire_with}, Laws.{At, IsAllowedBy, Page, PageAllows, Shown, at_page, shown_at}}
use Rattle.block_disk.specs.Requests.{AreSeenRightly, Books, OnLink, Seen, entered_by, no_books, sends_at}
use Rattle.block_queue.specs.Deeds as deed
use Rattle.block_queue.specs.{Deeds.{Deed, seen_of}, Line.{Line, command_at, line_gone, may_send}}
use Rattle.block_scheduler.specs.{Sets.{IsTagsOf, ends_at, is_end, turn_at}, Schedule.{IsNextFis, ends_all, ends_sent}, Laws.{all_deeds, end_deeds}}
use Rattle.block_scheduler.specs.Laws.{ends_deeds}
use Rattle.block_scheduler.specs.declared.scheduler.NextFis.TheVariants as next_fis
use Rattle.block_engine.specs.Laws.{all_moves}
use Rattle.ata_reply.specs.declared.reply.Reply.TheVariants as replies
use Rattle.sata_disk.specs.State.{DiskState, commands, new_disk}
use Rattle.sata_disk.specs.declared.out.Out.TheVariants as out
use Rattle.sata_disk_laws.specs.{Calls.{Call, Sends, all_steps}, Laws.{EndsAreEarned, reached, seen_in}, Told.FisesAreTold}
use Rattle.sata_disk_laws.proofs.Door.{calls_both}
use Rattle.sata_disk_books.specs.{Books.books_after, Ended.{EndsAreOfPages, HasEarned, SinglesAreOfPages}}
use Rattle.sata_disk_books.proofs.{Given.first_seen, Walks.{after_deeds, books_both, ends_after, rightly_first, rightly_then, seen_both, shown_both}}
use Rattle.sata_disk_books.proofs.Walks.{shown_from}

-- ## The ends go one after another

-- the places from here on are as they were, and nobody has the link
record AreStill (l k : Line) (n : ℕ) : Type 0 where
  others : (q : ℕ) → n ≤ q → command_at k q ≡ command_at l q
  free : k.queue.table.wire ≡ None

and_false : (b : Bool) → (b && false) ≡ false
and_false true = refl
and_false false = refl

wire_case : (c : Command) (done : ℕ) (bytes : List ℕ) (sent n : ℕ) (stage : Stage) → is_end (turn_of stage) ≡ true
    → wire_with None n (Some (after (at c done bytes sent stage) Goes)) ≡ None
wire_case c done bytes sent n End e = ap (λ b. if b then Some n else None) (and_false (is_queued c.protocol))
wire_case c done bytes sent n stage e = absurd (cc)

end_wire : (x : Option Moment) (n : ℕ) → is_end (turn_at x) ≡ true → wire_with None n (option_map (λ m. after m Goes) x) ≡ None
end_wire None n e = absurd (cc)
end_wire (Some m) n e = wire_case m.command m.done m.bytes m.sent n m.stage e

may_case : (d : Table) (m : Moment) (stage : Stage) → m.stage ≡ stage → d.wire ≡ None → is_end (turn_of stage) ≡ true
    → (sends_at (Some m) && may_go_at d (Some m)) ≡ true
may_case d m End is free e = rw is (ap is_none free)
may_case d m stage is free e = absurd (cc)

-- one that is to go may
end_may : (d : Table) (x : Option Moment) → d.wire ≡ None → is_end (turn_at x) ≡ true → (sends_at x && may_go_at d x) ≡ true
end_may d None free e = absurd (cc)
end_may d (Some m) free e = may_case d m m.stage refl free e

and_first : (a b : Bool) → (a && b) ≡ true → a ≡ true
and_first true b h = refl
and_first false b h = absurd (cc)

still_case : (l k : Line) (n : ℕ) (b : Bool) → (ends_at k n && may_send k n) ≡ b → AreStill l k n → AreStill l (if b then line_gone k n else k) (suc n)
still_case l k n true is h = record {
  others = λ q high.
      get_or-set_other k.queue.table.places n q (option_map (λ m. after m Goes) (command_at k n)) None (λ same. omega (arith, high, same))
      ∙ h.others q (omega (arith, high));
  free = ap (λ w. wire_with w n (option_map (λ m. after m Goes) (command_at k n))) h.free
      ∙ end_wire (command_at k n) n (and_first (ends_at k n) (may_send k n) is);
}
still_case l k n false is h = record { others = λ q high. h.others q (omega (arith, high)); free = h.free }

still : (l : Line) (n : ℕ) → l.queue.table.wire ≡ None → AreStill l (ends_sent l n) n
unfolding ends_sent
still l zero free = record { others = λ q high. refl; free = free }
still l (suc n) free = still_case l (ends_sent l n) n (ends_at (ends_sent l n) n && may_send (ends_sent l n) n) refl (still l n free)

-- ## The books meanwhile

abbrev Kept : Books → Books → ℕ → Type 0
Kept b c q = at_page c.pages q ≡ at_page b.pages q

one_kept : (b : Books) (n q : ℕ) (x : Option Moment) → n < q → Kept b (entered_by b (OnLink (shown_at n x Goes))) q
one_kept b n q None low = refl
one_kept b n q (Some m) low = get_or-set_other b.pages n q _ None (λ same. omega (arith, low, same))

end_kept : (b : Books) (k : Line) (n q : ℕ) (d : Bool) → n < q → Kept b (books_after b (seen_of k (if d then deed.Sends n ∷ [] else []))) q
unfolding books_after seen_of
end_kept b k n q true low = one_kept b n q (command_at k n) low
end_kept b k n q false low = refl

-- what the first ends are seen as leaves the pages behind them
ends_kept : (l : Line) (n q : ℕ) (b : Books) → n ≤ q → Kept b (books_after b (seen_of l (ends_deeds l n))) q
unfolding books_after seen_of ends_deeds
ends_kept l zero q b low = refl
ends_kept l (suc n) q b low =
    ap (λ (s : List Seen). at_page (books_after b s).pages q) (seen_both (ends_deeds l n) (end_deeds (ends_sent l n) n) l)
    ∙ ap (λ (c : Books). at_page c.pages q) (books_both (seen_of l (ends_deeds l n)) (seen_of (after_deeds l (ends_deeds l n)) (end_deeds (ends_sent l n) n)) b)
    ∙ end_kept (books_after b (seen_of l (ends_deeds l n))) (after_deeds l (ends_deeds l n)) n q (ends_at (ends_sent l n) n && may_send (ends_sent l n) n) (omega (arith, low))
    ∙ ends_kept l n q b (omega (arith, low))

-- ## Each of them is allowed

told_case : (c : Command) (done : ℕ) (bytes : List ℕ) (sent n : ℕ) (stage : Stage) → is_end (turn_of stage) ≡ true
    → shown_at n (Some (at c done bytes sent stage)) Goes ≡ At n SentEnd
told_case c done bytes sent n End e = refl
told_case c done bytes sent n stage e = absurd (cc)

end_told : (n : ℕ) (x : Option Moment) → is_end (turn_at x) ≡ true → shown_at n x Goes ≡ At n SentEnd
end_told n None e = absurd (cc)
end_told n (Some m) e = told_case m.command m.done m.bytes m.sent n m.stage e

first_allowed : (k : Line) (n : ℕ) (b : Books) (d : Bool) → d ≡ true → AreSeenRightly b (seen_of k (if d then deed.Sends n ∷ [] else []))
    → IsAllowedBy b.pages (shown_at n (command_at k n) Goes)
unfolding seen_of
first_allowed k n b true is are = are.0
first_allowed k n b false is are = absurd (cc)

last_allowed : (l : Line) (n : ℕ) (b : Books) → l.queue.table.wire ≡ None → ends_at l n ≡ true
    → AreSeenRightly (books_after b (seen_of l (ends_deeds l n))) (seen_of (ends_sent l n) (end_deeds (ends_sent l n) n))
    → PageAllows (at_page b.pages n) SentEnd
last_allowed l n b free ends are =
    let k : Line = ends_sent l n in
    let s : AreStill l k n = still l n free in
    let same : command_at k n ≡ command_at l n = s.others n (omega arith) in
    let ends_now : ends_at k n ≡ true = ap (λ x. is_end (turn_at x)) same ∙ ends in
    let goes : (ends_at k n && may_send k n) ≡ true = ap (λ e. e && may_send k n) ends_now ∙ end_may k.queue.table (command_at k n) s.free ends_now in
    subst (λ x. PageAllows x SentEnd) (ends_kept l n n b (omega arith))
    (subst (λ (x : Shown). IsAllowedBy (books_after b (seen_of l (ends_deeds l n))).pages x) (end_told n (command_at k n) ends_now)
    (first_allowed k n (books_after b (seen_of l (ends_deeds l n))) (ends_at k n && may_send k n) goes are))

all_allowed : (l : Line) (n : ℕ) (b : Books) → l.queue.table.wire ≡ None → AreSeenRightly b (seen_of l (ends_deeds l n)) → (t : ℕ) → t < n
    → ends_at l t ≡ true → PageAllows (at_page b.pages t) SentEnd
unfolding ends_deeds
all_allowed l zero b free are t low ends = absurd (omega (arith, low))
all_allowed l (suc n) b free are t low ends =
    let parted : AreSeenRightly b (seen_of l (ends_deeds l n) ++ seen_of (after_deeds l (ends_deeds l n)) (end_deeds (ends_sent l n) n)) =
    subst (λ (s : List Seen). AreSeenRightly b s) (seen_both (ends_deeds l n) (end_deeds (ends_sent l n) n) l) are in
    let first = rightly_first (seen_of l (ends_deeds l n)) (seen_of (after_deeds l (ends_deeds l n)) (end_deeds (ends_sent l n) n)) b parted in
    let last = rightly_then (seen_of l (ends_deeds l n)) (seen_of (after_deeds l (ends_deeds l n)) (end_deeds (ends_sent l n) n)) b parted in
    elim (cases_eq t n) [
      | inl same ↦ subst (λ (q : ℕ). PageAllows (at_page b.pages q) SentEnd) (sym same)
          (last_allowed l n b free (subst (λ (q : ℕ). ends_at l q ≡ true) same ends)
          (subst (λ (k : Line). AreSeenRightly (books_after b (seen_of l (ends_deeds l n))) (seen_of k (end_deeds (ends_sent l n) n))) (ends_after l n) last))
      | inr apart ↦ all_allowed l n b free first t (omega (arith, low, apart)) ends
    ]

-- ## Every run

record Ending (l : Line) (tags : ℕ) : Type 0 where
  free : l.queue.table.wire ≡ None
  are : IsTagsOf tags (ends_at l)

ending : (l : Line) (tags : ℕ) (wire : Option ℕ) → l.queue.table.wire ≡ wire → IsNextFis l wire (Some (next_fis.Ends tags)) → Ending l tags
ending l tags None is h = record { free = is; are = h.0 }
ending l tags (Some holder) is h = absurd h

ends_seen : (d : DiskState) (tags : ℕ) (b : Books) → AreSeenRightly b (shown_from d (Sends (out.Ends tags) ∷ []))
    → AreSeenRightly b (seen_of (commands d) (ends_deeds (commands d) 32))
unfolding all_deeds all_moves all_steps
ends_seen d tags b are =
    rightly_first (seen_of (commands d) (ends_deeds (commands d) 32)) (seen_of (after_deeds (commands d) (ends_deeds (commands d) 32)) []) b
    (subst (λ (s : List Seen). AreSeenRightly b s) (seen_both (ends_deeds (commands d) 32) [] (commands d)) are)

of_page : (x : Option Page) → PageAllows x SentEnd → HasEarned x
of_page None allowed = allowed
of_page (Some page) allowed = allowed

pub ends_are_of_pages : EndsAreEarned → EndsAreOfPages
ends_are_of_pages earned p limit calls tags are is tag low bit =
    let d : DiskState = reached p limit calls in
    let b : Books = books_after no_books (seen_in p limit calls) in
    let more : List Call = Sends (out.Ends tags) ∷ [] in
    let all : AreSeenRightly no_books (shown_from (new_disk p limit) (calls ++ more)) =
    earned p limit (calls ++ more) (calls_both calls more (new_disk p limit) are (is, tt)) in
    let parted = subst (λ (x : List Seen). AreSeenRightly no_books x) (shown_both (new_disk p limit) calls more) all in
    let last = rightly_then (seen_in p limit calls) (shown_from d more) no_books parted in
    let e : Ending (commands d) tags = ending (commands d) tags (commands d).queue.table.wire refl is.1.1 in
    of_page (at_page b.pages tag) (all_allowed (commands d) 32 b e.free (ends_seen d tags b last) tag low (sym (e.are tag low) ∙ bit))

-- ## A command that is not queued

single_seen : (d : DiskState) (place : ℕ) (b : Books) → AreSeenRightly b (shown_from d (Sends (out.Of place replies.Done) ∷ [])) → IsAllowedBy b.pages (shown_at place (command_at (commands d) place) Goes)
unfolding all_deeds all_moves all_steps
single_seen d place b are = first_seen (commands d) place (ends_all (commands d) place) _ b are

pub singles_are_of_pages : EndsAreEarned → FisesAreTold → SinglesAreOfPages
singles_are_of_pages earned told p limit calls place fis are is its =
    let d : DiskState = reached p limit calls in
    let b : Books = books_after no_books (seen_in p limit calls) in
    let more : List Call = Sends (out.Of place replies.Done) ∷ [] in
    let all : AreSeenRightly no_books (shown_from (new_disk p limit) (calls ++ more)) =
    earned p limit (calls ++ more) (calls_both calls more (new_disk p limit) are (is, tt)) in
    let parted = subst (λ (x : List Seen). AreSeenRightly no_books x) (shown_both (new_disk p limit) calls more) all in
    let last = rightly_then (seen_in p limit calls) (shown_from d more) no_books parted in
    of_page (at_page b.pages place)
    (subst (λ (x : Shown). IsAllowedBy b.pages x) (told d (out.Of place replies.Done) fis is its).1 (single_seen d place b last))
