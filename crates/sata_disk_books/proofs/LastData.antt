-- The last Data FIS of a PIO data-in ends its command, and the books have all of its bytes as given and sent.
use Rattle.std.proofs.Common.{◌≡◌, ℕ, ◌+◌, ◌-◌, ◌*◌, ◌<◌, ◌≤◌, true, false, List, [], ◌∷◌, ◌++◌, append_assoc, length, take, drop, Some, None, refl}
use Rattle.std.proofs.{Common.{sym, ap, ◌∙◌, subst, arith, inl, inr}, lemmas.Bool.{false≢true, ltb-false}, Math.Seq.{take-add}}
use Rattle.std.proofs.lemmas.List.{get_or-set_same, length-append, take_all}
use Rattle.std.specs.{Prelude.{Option, Bool, nat_lt, not, if◌then◌else◌}, Option.option_map}
use Rattle.block_command.specs.{declared.command.{Command.Command, Protocol.Protocol, Stage.TheVariants.{Load, Sending}}, Moments.{Moment, chunk}}
use Rattle.block_command.specs.{Moments.{data_stage as data_stage_of, is_ended, part_count, part_of, read_end, whole}, Laws.{Goes, Ledger}}
use Rattle.block_command.specs.Laws.{ReadIsEarned, SentData, after}
use Rattle.block_command.specs.declared.command.Protocol.TheVariants as protocol
use Rattle.block_command.proofs.Door.{Agrees, at as moment}
use Rattle.block_disk.specs.{Laws.{At, Page, Shown, at_page, entered_in, page_entered, shown_at}, Table.is_under_way, Requests.{Books, OnLink, Seen}}
use Rattle.block_disk.specs.Requests.{no_books}
use Rattle.block_queue.specs.{Line.command_at, Deeds.seen_of}
use Rattle.block_scheduler.specs.Laws.{all_deeds}
use Rattle.block_engine.specs.Laws.{all_moves}
use Rattle.disk_pages.specs.declared.profile.Profile.{Profile}
use Rattle.sata_disk.specs.{State.{DiskState, commands, is_taken, new_disk}, Sending.{IsOut, out_at}}
use Rattle.sata_disk.specs.declared.out.Out.TheVariants as out
use Rattle.sata_disk_laws.specs.{Awaited.SinglesAreAwaited, Calls.{AreCalls, Call, after_call, all_steps}, Laws.{reached, seen_in}, Once.ForLast}
use Rattle.sata_disk_laws.specs.Once.{Host, Wait, data_got_by, host_of, is_for_data, new_host}
use Rattle.sata_disk_laws.specs.Calls as call
use Rattle.sata_disk_laws.proofs.Door.{calls_both}
use Rattle.sata_disk_books.specs.{Books.books_after, Counted.counted_after, LastData.{IsReadWhole, LastDataAreEarned}}
use Rattle.sata_disk_books.proofs.{Counted.{Good, calls_good, data_stage, new_good}, LastBlocks.{host_then, one_more}, Sound.{IsPaged, paged}}
use Rattle.sata_disk_books.proofs.Walks.{books_both, shown_both, shown_from}

-- ## A Data FIS that ends its command is the last

data_on : (p : Protocol) → is_ended (data_stage_of p) ≡ false
data_on protocol.Pio = refl
data_on other = refl

record IsLastPart (done count to long part : ℕ) : Type 0 where
  all : long ≤ to
  over : count ≤ done + part

ended_case : (c : Command) (done : ℕ) (bytes : List ℕ) (to : ℕ) (more again : Bool) → nat_lt to (length bytes) ≡ more
    → nat_lt (done + part_count c done) c.count ≡ again
    → is_ended (if more then moment c done bytes to (data_stage_of c.protocol) else moment c (done + part_count c done) [] 0 (if again then Load else read_end c.protocol)).stage ≡ true
    → IsLastPart done c.count to (length bytes) (part_count c done)
ended_case c done bytes to true again e f is = absurd (false≢true (sym (data_on c.protocol) ∙ is))
ended_case c done bytes to false true e f is = absurd (cc)
ended_case c done bytes to false false e f is = record { all = ltb-false to (length bytes) e; over = ltb-false (done + part_count c done) c.count f }

last_part : (c : Command) (done : ℕ) (bytes : List ℕ) (sent : ℕ) → is_ended (after (moment c done bytes sent Sending) Goes).stage ≡ true
    → IsLastPart done c.count (sent + chunk c (length bytes - sent)) (length bytes) (part_count c done)
last_part c done bytes sent is = ended_case c done bytes (sent + chunk c (length bytes - sent)) _ _ refl refl is

-- ## What the books have then

parts : (n k : ℕ) (xs : List ℕ) → length xs ≤ n + k → take n xs ++ take k (drop n xs) ≡ xs
parts n k xs le = sym (take-add n k xs) ∙ take_all (n + k) xs le

-- the ledger of a read, behind its last Data
record IsWholeRead (c : Command) (l : Ledger) (part : List ℕ) : Type 0 where
  reads : c.write ≡ false
  earned : ReadIsEarned c (record l { sent = l.sent ++ part })

whole_count : (c : Command) (done : ℕ) → done < c.count → c.count ≤ done + part_count c done → (done + part_count c done) * 512 ≡ whole c
whole_count c done more over = by (nat_lt (c.count - done) 2048) refl over
  where
    by : (b : Bool) → nat_lt (c.count - done) 2048 ≡ b → c.count ≤ done + (if b then c.count - done else 2048)
        → (done + (if b then c.count - done else 2048)) * 512 ≡ c.count * 512
    by true e over = omega (arith, more)
    by false e over = let high = ltb-false (c.count - done) 2048 e in omega (arith, more, high, over)

read_whole : (c k : Command) (done : ℕ) (bytes : List ℕ) (sent : ℕ) (l : Ledger) → k ≡ c → Agrees c (moment k done bytes sent Sending) l
    → is_ended (after (moment k done bytes sent Sending) Goes).stage ≡ true → IsWholeRead c l (part_of (moment k done bytes sent Sending))
read_whole c k done bytes sent l same (inl over) ends = absurd (cc)
read_whole c k done bytes sent l same (inr known) ends =
    let last : IsLastPart done c.count (sent + chunk c (length bytes - sent)) (length bytes) (part_count c done) =
    last_part c done bytes sent (subst (λ (x : Command). is_ended (after (moment x done bytes sent Sending) Goes).stage ≡ true) same ends) in
    let all = last.all in
    let over = last.over in
    let long = known.facts.1.0 in
    let size = known.facts.3 in
    let sum = length-append known.past bytes in
    let count = whole_count c done known.facts.1.1 over in
    let part : List ℕ = take (chunk c (length bytes - sent)) (drop sent bytes) in
    let bytes_are : take sent bytes ++ part ≡ bytes = parts sent (chunk c (length bytes - sent)) bytes all in
    let sent_is : l.sent ++ part_of (moment k done bytes sent Sending) ≡ l.given =
    ap (λ (x : Ledger). x.sent ++ part_of (moment k done bytes sent Sending)) known.is
    ∙ ap (λ (x : Command). (known.past ++ take sent bytes) ++ take (chunk x (length bytes - sent)) (drop sent bytes)) same
    ∙ append_assoc known.past (take sent bytes) part ∙ ap (λ (x : List ℕ). known.past ++ x) bytes_are ∙ ap (λ (x : Ledger). x.given) (sym known.is) in
    record {
      reads = known.facts.0;
      earned = record { bytes = λ verify. sent_is; all = ap (λ (x : Ledger). length x.given) known.is ∙ omega (arith, long, size, sum, count) };
    }

-- ## One call

data_shown : (d : DiskState) (n : ℕ) → shown_from d (call.Sends (out.Data 32 n) ∷ []) ≡ OnLink (shown_at 32 (command_at (commands d) 32) Goes) ∷ []
unfolding seen_of all_deeds all_moves all_steps
data_shown d n = refl

one_entered : (b : Books) (s : Shown) → (books_after b (OnLink s ∷ [])).pages ≡ entered_in b.pages s
unfolding books_after
one_entered b s = refl

over_is : (b : Bool) → not b ≡ false → b ≡ true
over_is true e = refl
over_is false e = absurd (cc)

over_free : (w : Wait) → w ≡ ForLast → (h : Host) → is_for_data (data_got_by h w).waits ≡ false
over_free w e h = ap (λ (v : Wait). is_for_data (data_got_by h v).waits) e

not_taken : (b : Bool) → (b ≡ true → ⊥) → b ≡ false
not_taken true none = absurd (none refl)
not_taken false none = refl

module _ (awaited : SinglesAreAwaited) (p : Profile) (limit : ℕ) (calls : List Call) (n : ℕ) (are : AreCalls (new_disk p limit) calls)
    (is : IsOut (reached p limit calls) (Some (out.Data 32 n))) (waits : (host_of new_host calls).waits ≡ ForLast) where
  abbrev d : DiskState
  d = reached p limit calls

  abbrev x : Call
  x = call.Sends (out.Data 32 n)

  abbrev books : Books
  books = books_after no_books (seen_in p limit calls)

  then' : reached p limit (calls ++ x ∷ []) ≡ after_call d x
  then' = one_more p limit calls x

  good : Good d books (counted_after None calls)
  good = calls_good calls (new_disk p limit) no_books None (new_good p limit) are

  free : is_taken (commands (after_call d x)) 32 ≡ false
  free = not_taken (is_taken (commands (after_call d x)) 32) (λ taken.
      let more : AreCalls (new_disk p limit) (calls ++ x ∷ []) = calls_both calls (x ∷ []) (new_disk p limit) are (is, tt) in
      let waited : is_for_data (host_of new_host (calls ++ x ∷ [])).waits ≡ true = awaited p limit (calls ++ x ∷ []) more (ap (λ (k : DiskState). is_taken (commands k) 32) then' ∙ taken) in
      false≢true (sym (over_free (host_of new_host calls).waits waits (host_of new_host calls)) ∙ ap (λ (h : Host). is_for_data h.waits) (sym (host_then calls x new_host)) ∙ waited))

  ends : (m : Moment) → command_at (commands d) 32 ≡ Some m → is_ended (after m Goes).stage ≡ true
  ends m here =
      let long = good.stands.agree.kept.commands in
      over_is (is_ended (after m Goes).stage)
      (ap (λ (y : Option Moment). is_under_way (option_map (λ m. after m Goes) y)) (sym here)
      ∙ ap is_under_way (sym (get_or-set_same (commands d).queue.table.places 32 (option_map (λ m. after m Goes) (command_at (commands d) 32)) None (omega (arith, long)))) ∙ free)

  of_moment : (c : Command) (done : ℕ) (bytes : List ℕ) (sent : ℕ) → command_at (commands d) 32 ≡ Some (moment c done bytes sent Sending)
      → IsReadWhole p limit calls n
  of_moment c done bytes sent here =
      let m : Moment = moment c done bytes sent Sending in
      let long = good.stands.agree.kept.pages in
      let y : IsPaged (at_page books.pages 32) m = paged (commands d) books 32 m good.stands.agree here in
      let w : IsWholeRead y.page.command y.page.ledger (part_of m) = read_whole y.page.command c done bytes sent y.page.ledger y.same y.agrees (ends m here) in
      record {
        was = y.page;
        before = y.is;
        page = page_entered y.page (SentData (part_of m));
        books =
            ap (λ (s : List Seen). at_page (books_after no_books s).pages 32) (shown_both (new_disk p limit) calls (x ∷ []))
            ∙ ap (λ (b : Books). at_page b.pages 32) (books_both (seen_in p limit calls) (shown_from d (x ∷ [])) no_books)
            ∙ ap (λ (s : List Seen). at_page (books_after books s).pages 32) (data_shown d n)
            ∙ ap (λ (k : Option Moment). at_page (books_after books (OnLink (shown_at 32 k Goes) ∷ [])).pages 32) here
            ∙ ap (λ (l : List (Option Page)). at_page l 32) (one_entered books (At 32 (SentData (part_of m))))
            ∙ get_or-set_same books.pages 32 (option_map (λ q. page_entered q (SentData (part_of m))) (at_page books.pages 32)) None (omega (arith, long))
            ∙ ap (λ (q : Option Page). option_map (λ r. page_entered r (SentData (part_of m))) q) y.is;
        same = refl;
        reads = w.reads;
        earned = w.earned;
      }

  of_command : (k : Option Moment) → command_at (commands d) 32 ≡ k → Some (out.Data 32 n) ≡ out_at d 32 k → IsReadWhole p limit calls n
  of_command None here e = absurd (cc)
  of_command (Some m) here e =
      let s = data_stage d 32 n m.command m.done m.bytes m.sent m.stage e in
      of_moment m.command m.done m.bytes m.sent (here ∙ ap (λ k. Some (moment m.command m.done m.bytes m.sent k)) s.0)

pub last_data : SinglesAreAwaited → LastDataAreEarned
last_data awaited p limit calls n are is waits = of_command awaited p limit calls n are is waits (command_at (commands (reached p limit calls)) 32) refl is.3
