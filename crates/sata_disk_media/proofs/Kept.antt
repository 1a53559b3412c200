-- The laws of read after write.
use Rattle.std.proofs.Common.{◌≡◌, ℕ, ◌+◌, ◌-◌, ◌*◌, ◌<◌, ◌≤◌, true, false, List, [], ◌∷◌, ◌++◌, length, take, drop, set, Some, None, refl, sym, ap}
use Rattle.std.proofs.{Common.{◌∙◌, arith, append_assoc, subst}, lemmas.{Bool.{leb-true, ltb-true}, List.{append-nil, get_or-set_same}}}
use Rattle.std.proofs.{lemmas.List.{length-append, length-drop, take-append-le, drop-append-le}, Math.Seq.{drop-append-add}}
use Rattle.std.specs.Prelude.{Option, Bool, nat_lt, if◌then◌else◌}
use Rattle.block_command.specs.{declared.command.{Command.Command, Stage.Stage, Protocol.Protocol}, Laws.{Goes, IsEarned, Ledger, blank}}
use Rattle.block_command.specs.Moments.{Moment, turn_of}
use Rattle.block_command.specs.declared.command.Stage.TheVariants as stage
use Rattle.block_command.specs.declared.command.Protocol.TheVariants as protocol
use Rattle.block_command.proofs.Door.{Agrees, at, rights_then}
use Rattle.block_disk.specs.{Laws.{Page, Refused, Took, at_page}, Requests.{Books, OnLink, Seen, entered_by, no_books}, Table.is_under_way}
use Rattle.block_queue.specs.{Deeds.seen_of, Line.{Line, command_at}}
use Rattle.block_queue.proofs.Door.{of_and}
use Rattle.block_scheduler.specs.{Laws.all_deeds, Sets.{IsTagsOf, ends_at, is_end, turn_at}, Schedule.IsNextFis}
use Rattle.block_scheduler.specs.declared.scheduler.NextFis.TheVariants as next_fis
use Rattle.block_engine.specs.{declared.request.{Answer.Answer, Range.Range, What.What}, Laws.all_moves}
use Rattle.block_engine.specs.declared.request.Answer.TheVariants as answers
use Rattle.block_engine.specs.declared.request.What.TheVariants as what
use Rattle.block_engine.specs.Laws as engine
use Rattle.ata_front.specs.CommandFis.{asks_by}
use Rattle.ata_reply.specs.declared.reply.{AtaError.AtaError, Failure.Failure}
use Rattle.ata_reply.specs.declared.reply.Reply.TheVariants as replies
use Rattle.disk_pages.specs.declared.profile.Profile.{Profile}
use Rattle.sata_disk.specs.{Sending.{IsOut, out_at}, State.{DiskState, commands, new_disk}, declared.out.Out.Out}
use Rattle.sata_disk.specs.declared.out.Out.TheVariants as out
use Rattle.sata_disk_laws.specs.Calls.{AreCalls, Answers, Asks, Call, Hears, Sends, act_steps, after_call, after_calls, fis_steps, steps_of}
use Rattle.sata_disk_laws.specs.Laws.{reached, seen_in}
use Rattle.sata_disk_books.specs.Books.{AreNext, AreOfPage, DataAreGiven, books_after, page_in}
use Rattle.sata_disk_books.proofs.Door.{books_both, shown_both, shown_from}
use Rattle.sata_disk_media.specs.{Cells.{Cell, Kept, Unknown, answered_cell, asked_cell, covers, in_ranges, kept_in, sector_of}, Laws.AreSparing}
use Rattle.sata_disk_media.specs.Laws.{EndsWell, GivenIsWritten, HasSector, IsBehindWrite, IsBrought, IsTakenAt, IsUnread, LoadsBringWhatIsKept}
use Rattle.sata_disk_media.specs.{Laws.{ReadsBringWrites, Spares, WritesAreKept, next_data, sector_in, touches}, Media.{IsHonest, cell_after}}
use Rattle.sata_disk_media.specs.Media.{cell_of, kept, store_bytes}
use Rattle.sata_disk_media.proofs.{Called.deeds_by, Moments.is_over, Requested.page_of, Runs.{are_first, are_then, books_in, calls_given, run_held}}
use Rattle.sata_disk_media.proofs.{Runs.unread_given, Walk.shown_one}

-- ## Loads

books_more : (p : Profile) (limit : ℕ) (first later : List Call) → books_in p limit (first ++ later) ≡ books_after (books_in p limit first) (shown_from (reached p limit first) later)
books_more p limit first later =
    ap (λ x. books_after no_books x) (shown_both (new_disk p limit) first later)
    ∙ books_both (seen_in p limit first) (shown_from (reached p limit first) later) no_books

next_of : (x : Option Page) (g : Page) (part : List ℕ) → x ≡ Some g → AreOfPage x part → AreNext g.ledger part
next_of x g part e are = subst (λ y. AreOfPage y part) e are

-- the sector lies in what goes next
part_sector : (lba s : ℕ) (sent part rest : List ℕ) → lba * 512 + length sent ≤ s * 512 → s * 512 + 512 ≤ lba * 512 + length sent + length part
    → sector_of lba s (sent ++ part ++ rest) ≡ take 512 (drop (s * 512 - (lba * 512 + length sent)) part)
part_sector lba s sent part rest first last =
    let k : ℕ = s * 512 - (lba * 512 + length sent) in
    let same : (s - lba) * 512 ≡ length sent + k = omega (arith, first) in
    ap (λ x. sector_of lba s x) (append_assoc sent part rest) ∙ ap (λ n. take 512 (drop n (sent ++ (part ++ rest)))) same ∙ ap (λ x. take 512 x) (drop-append-add sent (part ++ rest) k)
    ∙ ap (λ x. take 512 x) (drop-append-le k part rest (omega (arith, first, last)))
    ∙ take-append-le 512 (drop k part) rest (let long = length-drop k part in omega (arith, first, last, long))

given_long : (sent part rest given : List ℕ) → given ≡ sent ++ part ++ rest → length sent + length part ≤ length given
given_long sent part rest given e =
    let a = ap length e in let b = length-append (sent ++ part) rest in let c = length-append sent part in omega (arith, a, b, c)

-- each whole sector of what was given for a command since the first calls
given_sectors : (p : Profile) (limit : ℕ) (first later : List Call) (place s : ℕ) (g : Page) → place < 33 → AreCalls (new_disk p limit) (first ++ later)
    → IsHonest p limit (first ++ later) → IsUnread (page_in p limit first place) → page_in p limit (first ++ later) place ≡ Some g
    → g.command.lba ≤ s → (s - g.command.lba) * 512 + 512 ≤ length g.ledger.given
    → IsBrought p limit first later s (sector_of g.command.lba s g.ledger.given)
given_sectors p limit first later place s g low are honest unread page least most =
    let held = run_held p limit first s (are_first first later (new_disk p limit) are) in
    let given = calls_given p limit first later [] (reached p limit first) (books_in p limit first) place s (cell_of (new_disk p limit) s Unknown first)
    (are_then first later (new_disk p limit) are) (subst (λ z. IsHonest p limit (z ++ later)) (sym (append-nil first)) honest) low held (unread_given p limit first (books_in p limit first) place unread) in
    let here : at_page (books_after (books_in p limit first) (shown_from (reached p limit first) later)).pages place ≡ Some g =
    ap (λ (b : Books). at_page b.pages place) (sym (books_more p limit first later)) ∙ page in
    (given g here).sectors s least most

pub loads_bring_what_is_kept : DataAreGiven → LoadsBringWhatIsKept
loads_bring_what_is_kept data' p limit first later place n s g are honest unread goes page has =
    let calls : List Call = first ++ later in
    let part : List ℕ = next_data p limit calls place in
    let next = next_of (page_in p limit calls place) g part page (data' p limit calls place n are goes) in
    let f = has.first in let l = has.last in
    let long = given_long g.ledger.sent part next.rest g.ledger.given next.given in
    let brought = given_sectors p limit first later place s g goes.2.0 are honest unread page (omega (arith, f)) (omega (arith, f, l, long)) in
    subst (λ x. IsBrought p limit first later s x)
    (ap (λ x. sector_of g.command.lba s x) next.given ∙ part_sector g.command.lba s g.ledger.sent part next.rest f l) brought

-- ## Writes

record Ending (l : Line) (tags : ℕ) : Type 0 where
  pub are : IsTagsOf tags (ends_at l)

ending : (l : Line) (tags : ℕ) (wire : Option ℕ) → IsNextFis l wire (Some (next_fis.Ends tags)) → Ending l tags
ending l tags None h = record { are = h.0 }
ending l tags (Some holder) h = absurd h

-- the end of the command of a place is next
pub record IsAtEnd (x : Option Moment) : Type 0 where
  pub moment : Moment
  pub is : x ≡ Some moment
  pub end : is_end (turn_of moment.stage) ≡ true

at_end : (x : Option Moment) → is_end (turn_at x) ≡ true → IsAtEnd x
at_end None e = absurd (cc)
at_end (Some m) e = record { moment = m; is = refl; end = e }

no_activate : (m : Moment) (q : ℕ) (t : Protocol) → Some (out.Of q replies.Done) ≡ Some (out.Of q (asks_by m t)) → ⊥
no_activate m q protocol.Pio e = cc
no_activate m q other e = cc

no_failure : (b : Bool) (q : ℕ) (x : AtaError) (f : Failure) → Some (out.Of q replies.Done) ≡ Some (out.Of q (if b then replies.Aborts x else replies.Failed f)) → ⊥
no_failure true q x f e = cc
no_failure false q x f e = cc

done_stage : (d : DiskState) (q : ℕ) (c : Command) (done : ℕ) (bytes : List ℕ) (sent : ℕ) (st : Stage)
    → Some (out.Of q replies.Done) ≡ out_at d q (Some (at c done bytes sent st)) → is_end (turn_of st) ≡ true
done_stage d q c done bytes sent stage.End e = refl
done_stage d q c done bytes sent stage.Activate e = absurd (no_activate (at c done bytes sent stage.Activate) q c.protocol e)
done_stage d q c done bytes sent stage.Fail e = absurd (no_failure (nat_lt c.place 32) q _ _ e)
done_stage d q c done bytes sent st e = absurd (cc)

done_end : (d : DiskState) (q : ℕ) (x : Option Moment) → Some (out.Of q replies.Done) ≡ out_at d q x → IsAtEnd x
done_end d q None e = absurd (cc)
done_end d q (Some m) e = record { moment = m; is = refl; end = done_stage d q m.command m.done m.bytes m.sent m.stage e }

pub record Ended (d : DiskState) (place : ℕ) : Type 0 where
  pub low : place < 33
  pub at' : IsAtEnd (command_at (commands d) place)

pub ended : (d : DiskState) (o : Out) (place : ℕ) → IsOut d (Some o) → EndsWell o place → Ended d place
ended d (out.Ends tags) place is well = let low = well.0 in record {
  low = omega (arith, low);
  at' = at_end (command_at (commands d) place) (sym ((ending (commands d) tags (commands d).queue.table.wire is.1.1).are place well.0) ∙ well.1);
}
ended d (out.Of q replies.Done) place is well =
    subst (λ k. Ended d k) well (record { low = is.2.0; at' = done_end d q (command_at (commands d) q) is.3 })
ended d o place is well = absurd well

earned_at : (c : Command) (done : ℕ) (bytes : List ℕ) (sent : ℕ) (st : Stage) (l : Ledger) → Agrees c (at c done bytes sent st) l → is_end (turn_of st) ≡ true
    → IsEarned c l c.write
earned_at c done bytes sent stage.End l agrees e = rights_then c (at c done bytes sent stage.End) Goes l refl agrees
earned_at c done bytes sent st l agrees e = absurd (cc)

not_over : (st : Stage) → is_end (turn_of st) ≡ true → is_over st ≡ false
not_over stage.End e = refl
not_over st e = absurd (cc)

pub writes_are_kept : WritesAreKept
writes_are_kept p limit calls o place s g are goes well page write cov =
    let d : DiskState = reached p limit calls in
    let b : Books = books_in p limit calls in
    let held = run_held p limit calls s are in
    let e = ended d o place goes well in
    let a = e.at' in
    let m : Moment = a.moment in
    let match' = page_of (commands d) b place m g held.held.agree a.is page in
    let earned = subst (λ w. IsEarned g.command g.ledger w) write (earned_at g.command m.done m.bytes m.sent m.stage g.ledger match'.1 a.end) in
    let claims = held.held.each place m g e.low a.is page (not_over m.stage a.end) in
    let h = of_and _ _ cov in
    let first : g.command.lba ≤ s = leb-true _ _ h.0 in
    let last : s < g.command.lba + g.command.count = ltb-true _ _ h.1 in
    let all = earned.all in
    let same : length g.ledger.kept ≡ length g.ledger.came = ap length earned.bytes in
    ap kept_in (claims.kept write first (omega (arith, first, last, all, same))) ∙ ap (λ x. Some (sector_of g.command.lba s x)) earned.bytes

-- ## In between

if_false : {X : Type 0} (b : Bool) (x y : X) → b ≡ false → (if b then x else y) ≡ y
if_false true x y e = absurd (cc)
if_false false x y e = refl

spared_ask : (s : ℕ) (x : List ℕ) (w : What) (number : ℕ) (bytes : List ℕ) (ranges : List Range) → touches s w ranges ≡ false
    → asked_cell s (Kept x) w number bytes ranges ≡ Kept x
spared_ask s x (what.Store lba count) number bytes ranges e = if_false (covers lba count s) _ _ e
spared_ask s x what.Discard number bytes ranges e = if_false (in_ranges ranges s) _ _ e
spared_ask s x other number bytes ranges e = refl

answer_stays : (x : List ℕ) (number : ℕ) (a : Answer) → answered_cell (Kept x) number a ≡ Kept x
answer_stays x number (answers.Loaded bytes) = refl
answer_stays x number other = refl

spared_call : (d : DiskState) (s : ℕ) (x : List ℕ) (c : Call) → Spares d s c → cell_after d s (Kept x) c ≡ Kept x
spared_call d s x (Asks r) is = spared_ask s x r.what r.number (store_bytes d r.place) d.engine.ranges is
spared_call d s x (Answers number a) is = answer_stays x number a
spared_call d s x other is = refl

spared : (calls : List Call) (d : DiskState) (s : ℕ) (x : List ℕ) → AreSparing d s calls → cell_of d s (Kept x) calls ≡ Kept x
unfolding cell_of
spared [] d s x are = refl
spared (c ∷ later) d s x are = ap (λ z. cell_of (after_call d c) s z later) (spared_call d s x c are.0) ∙ spared later (after_call d c) s x are.1

spared_first : (xs ys : List Call) (d : DiskState) (s : ℕ) → AreSparing d s (xs ++ ys) → AreSparing d s xs
spared_first [] ys d s are = tt
spared_first (c ∷ xs) ys d s are = (are.0, spared_first xs ys (after_call d c) s are.1)

pub cell_both : (xs ys : List Call) (d : DiskState) (s : ℕ) (cell : Cell) → cell_of d s cell (xs ++ ys) ≡ cell_of (after_calls d xs) s (cell_of d s cell xs) ys
unfolding cell_of after_calls
cell_both [] ys d s cell = refl
cell_both (c ∷ xs) ys d s cell = cell_both xs ys (after_call d c) s (cell_after d s cell c)

kept_cell : (cell : Cell) (x : List ℕ) → kept_in cell ≡ Some x → cell ≡ Kept x
kept_cell (Kept y) x e = cc
kept_cell cell x e = absurd (cc)

-- what is kept stays so
stays : (p : Profile) (limit : ℕ) (first xs ys : List Call) (s : ℕ) (x : List ℕ) → kept p limit first s ≡ Some x → AreSparing (reached p limit first) s (xs ++ ys)
    → kept p limit (first ++ xs) s ≡ Some x
stays p limit first xs ys s x is are =
    ap kept_in (cell_both first xs (new_disk p limit) s Unknown
    ∙ ap (λ z. cell_of (reached p limit first) s z xs) (kept_cell (cell_of (new_disk p limit) s Unknown first) x is)
    ∙ spared xs (reached p limit first) s x (spared_first xs ys (reached p limit first) s are))

-- ## The command that is heard

taken_steps : (d : DiskState) (bytes : List ℕ) (place : ℕ) → (t : IsTakenAt d bytes place) → steps_of d (Hears bytes) ≡ engine.Takes t.command ∷ []
taken_steps d bytes place t = ap (fis_steps d) t.viewed ∙ ap (act_steps d.engine) t.takes

take_shown : (d : DiskState) (c : Command) → seen_of (commands d) (deeds_by d.engine (engine.Takes c ∷ []))
    ≡ OnLink (if is_under_way (command_at (commands d) c.place) then Refused c else Took c) ∷ []
unfolding seen_of all_deeds all_moves
take_shown d c = refl

one_entered : (b : Books) (x : Seen) → books_after b (x ∷ []) ≡ entered_by b x
unfolding books_after
one_entered b x = refl

took_unread : (pages : List (Option Page)) (c : Command) (place : ℕ) → length pages ≡ 33 → place < 33 → c.place ≡ place
    → IsUnread (at_page (set pages c.place (Some (record { command = c; ledger = blank }))) place)
took_unread pages c place long low same =
    let new : Page = record { command = c; ledger = blank } in
    let here : at_page (set pages c.place (Some new)) place ≡ Some new =
    ap (λ k. at_page (set pages k (Some new)) place) same ∙ get_or-set_same pages place (Some new) None (omega (arith, low, long)) in
    subst IsUnread (sym here) (refl, refl)

taken_unread : (d : DiskState) (b : Books) (bytes : List ℕ) (place : ℕ) → IsTakenAt d bytes place → length b.pages ≡ 33 → place < 33
    → IsUnread (at_page (books_after b (shown_from d (Hears bytes ∷ []))).pages place)
taken_unread d b bytes place t long low =
    let c : Command = t.command in
    let free : is_under_way (command_at (commands d) c.place) ≡ false = ap (λ k. is_under_way (command_at (commands d) k)) t.place' ∙ t.free in
    let shows : shown_from d (Hears bytes ∷ []) ≡ OnLink (Took c) ∷ [] =
    shown_one d (Hears bytes) ∙ ap (λ x. seen_of (commands d) (deeds_by d.engine x)) (taken_steps d bytes place t) ∙ take_shown d c
    ∙ ap (λ x. OnLink x ∷ []) (if_false (is_under_way (command_at (commands d) c.place)) (Refused c) (Took c) free) in
    let after' : books_after b (shown_from d (Hears bytes ∷ [])) ≡ entered_by b (OnLink (Took c)) = ap (λ x. books_after b x) shows ∙ one_entered b (OnLink (Took c)) in
    subst (λ (x : Books). IsUnread (at_page x.pages place)) (sym after') (took_unread b.pages c place long low t.place')

-- ## Read after write

-- the calls by which the read was taken, and what a load brought since
record Taken (p : Profile) (limit : ℕ) (calls : List Call) (place s : ℕ) (written : Page) : Type 0 where
  heard : List Call
  last : List Call
  same : calls ≡ heard ++ last
  are : AreCalls (new_disk p limit) (heard ++ last)
  unread : IsUnread (page_in p limit heard place)
  written_is : (bytes : List ℕ) → IsBrought p limit heard last s bytes → bytes ≡ sector_of written.command.lba s written.ledger.came

behind_write : WritesAreKept → (p : Profile) (limit : ℕ) (calls : List Call) (place s : ℕ) (written : Page) → place < 33 → AreCalls (new_disk p limit) calls
    → IsBehindWrite p limit calls place s written → Taken p limit calls place s written
behind_write writes p limit calls place s written low are r =
    let end : Call = Sends r.end in
    let f : List Call = r.first ++ end ∷ r.middle in
    let heard : List Call = f ++ Hears r.bytes ∷ [] in
    let same : calls ≡ heard ++ r.last = r.is ∙ sym (append_assoc f (Hears r.bytes ∷ []) r.last) in
    let are' : AreCalls (new_disk p limit) (heard ++ r.last) = subst (λ x. AreCalls (new_disk p limit) x) same are in
    let at_heard : AreCalls (new_disk p limit) heard = are_first heard r.last (new_disk p limit) are' in
    let at_f : AreCalls (new_disk p limit) f = are_first f (Hears r.bytes ∷ []) (new_disk p limit) at_heard in
    let going = (are_then r.first (end ∷ r.middle) (new_disk p limit) at_f).0 in
    let was : kept p limit r.first s ≡ Some (sector_of written.command.lba s written.ledger.came) =
    writes p limit r.first r.end r.from s written (are_first r.first (end ∷ r.middle) (new_disk p limit) at_f) going r.ends r.page r.writes r.covered in
    let held = run_held p limit f s at_f in
    let upto : List Call = (end ∷ r.middle) ++ Hears r.bytes ∷ [] in
    record {
      heard = heard;
      last = r.last;
      same = same;
      are = are';
      unread = subst (λ (b : Books). IsUnread (at_page b.pages place)) (sym (books_more p limit f (Hears r.bytes ∷ [])))
          (taken_unread (reached p limit f) (books_in p limit f) r.bytes place r.taken held.held.agree.kept.pages low);
      written_is = λ bytes b.
          let between : List Call = upto ++ b.before in
          let rest : List Call = Answers b.number b.answer ∷ b.after in
          let parts : (end ∷ r.middle) ++ Hears r.bytes ∷ r.last ≡ between ++ rest =
          sym (append_assoc (end ∷ r.middle) (Hears r.bytes ∷ []) r.last) ∙ ap (λ x. upto ++ x) b.answered ∙ sym (append_assoc upto b.before rest) in
          let now : kept p limit (r.first ++ between) s ≡ Some (sector_of written.command.lba s written.ledger.came) =
          stays p limit r.first between rest s _ was (subst (λ x. AreSparing (reached p limit r.first) s x) parts r.sparing) in
          let where' : heard ++ b.before ≡ r.first ++ between =
          ap (λ x. x ++ b.before) (append_assoc r.first (end ∷ r.middle) (Hears r.bytes ∷ [])) ∙ append_assoc r.first upto b.before in
          b.same (sector_of written.command.lba s written.ledger.came) (ap (λ x. kept p limit x s) where' ∙ now);
    }

pub reads_bring_writes : LoadsBringWhatIsKept → WritesAreKept → ReadsBringWrites
reads_bring_writes loads writes p limit calls place n s written read are honest r =
    let t = behind_write writes p limit calls place s written r.goes.2.0 are r.behind in
    let goes : IsOut (reached p limit (t.heard ++ t.last)) (Some (out.Data place n)) = subst (λ x. IsOut (reached p limit x) (Some (out.Data place n))) t.same r.goes in
    let page : page_in p limit (t.heard ++ t.last) place ≡ Some read = ap (λ x. page_in p limit x place) (sym t.same) ∙ r.reads in
    let has : HasSector read (next_data p limit (t.heard ++ t.last) place) s = subst (λ x. HasSector read (next_data p limit x place) s) t.same r.has in
    ap (λ x. sector_in read (next_data p limit x place) s) t.same
    ∙ t.written_is _ (loads p limit t.heard t.last place n s read t.are (subst (λ x. IsHonest p limit x) t.same honest) t.unread goes page has)

pub given_is_written : WritesAreKept → GivenIsWritten
given_is_written writes p limit calls place s written read low are honest behind page has =
    let t = behind_write writes p limit calls place s written low are behind in
    t.written_is (sector_of read.command.lba s read.ledger.given)
    (given_sectors p limit t.heard t.last place s read low t.are (subst (λ x. IsHonest p limit x) t.same honest) t.unread
    (ap (λ x. page_in p limit x place) (sym t.same) ∙ page) has.first has.last)
