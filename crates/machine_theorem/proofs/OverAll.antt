-- A read brings what a write stored before it, over anything in between: the calls of the disk, from the write's end to what is sent of the read.
use Rattle.std.proofs.Common.{◌≡◌, ℕ, ◌+◌, ◌-◌, ◌*◌, ◌<◌, ◌≤◌, true, false, List, [], ◌∷◌, ◌++◌, append_assoc, length, take, drop, Option, Some, refl}
use Rattle.std.proofs.{Common.{sym, ap, subst, ◌∙◌, inl, inr, arith}, lemmas.{Bool.{false≢true}, List.{drop-append-le, length-append, length-drop}}}
use Rattle.std.proofs.lemmas.List.{take-append-le}
use Rattle.std.specs.Prelude.{Bool}
use Rattle.block_command.specs.Laws.{IsEarned, ReadIsEarned}
use Rattle.block_disk.specs.Laws.{Page}
use Rattle.ata_reply.specs.declared.reply.Reply.TheVariants as replies
use Rattle.disk_pages.specs.declared.profile.Profile.{Profile}
use Rattle.sata_disk.specs.{Sending.IsOut, State.{DiskState, commands, is_taken, new_disk}, declared.out.Out.Out}
use Rattle.sata_disk.specs.declared.out.Out.TheVariants as out
use Rattle.sata_disk_books.specs.Books as books
use Rattle.sata_disk_books.specs.Books.{AreNext, AreOfPage, page_in}
use Rattle.sata_disk_laws.specs.{Awaited.{OutsAreUnderWay, SinglesAreAwaited}, Calls.{AreCalls, Call, Hears, Sends, after_call, after_calls}}
use Rattle.sata_disk_laws.specs.{Laws.reached, Once.is_for_data}
use Rattle.sata_disk_laws.proofs.Door.{calls_after, calls_both}
use Rattle.sata_disk_media.specs.{Cells.{covers, sector_of}, Laws.{AreSparing, EndsWell, GivenIsWritten, IsBehindWrite, IsTakenAt}}
use Rattle.sata_disk_media.specs.{Laws.{UndisturbedIsSpared, next_data}, Media.IsHonest, Settled.WritesAreSettled}
use Rattle.ahci_machine.specs.{States.{MachineState, bay_at}, declared.bay.Unit.TheVariants.Disk}
use Rattle.machine_laws.specs.{ControllerLaws.RunsRuled, Deeds.Deed, Disks.{DisksGoOn, GoesOn, calls_at}}
use Rattle.machine_theorem.specs.{Identity.calls_of, OverAll.{AllStay, DataFollowOverAll, EndedWritesAreSettled, HasFollowed, IsEnded}}
use Rattle.machine_theorem.specs.OverAll.{IsFollowedSoFar, IsOver, IsSaid, IsVacant, ReadsFollowOverAll, SeenReadsFollow, calls_to, end_of}
use Rattle.machine_theorem.specs.ReadBack.{IsUntouched}
use Rattle.machine_theorem.proofs.{HeardBehind.{calls_then, honest_first, spared}, HeardSince.{TakenIn, data_taken, end_taken, has_given, taken_in}}
use Rattle.machine_theorem.proofs.TagCounts.{first_calls, one_call_more}
use Rattle.machine_theorem.proofs.TagCounts as counts

pub record Laws : Type 0 where
  pub disks : DisksGoOn
  pub tags : counts.Laws
  pub outs : OutsAreUnderWay
  pub awaited : SinglesAreAwaited
  pub undisturbed : UndisturbedIsSpared
  pub given : GivenIsWritten
  pub data' : books.DataAreGiven
  pub settled : WritesAreSettled

-- ---- the disk stays at its port

no_calls : (d : DiskState) → d ≡ after_calls d []
unfolding after_calls
no_calls d = refl

goes_over : DisksGoOn → (n : ℕ) (deeds : List Deed) (old now : MachineState) (run : RunsRuled old deeds now) → AllStay n deeds → (d : DiskState)
    → (bay_at old n).unit ≡ Disk d → GoesOn d (calls_of n old deeds now run) (bay_at now n).unit
goes_over disks n [] old now run stays d unit = record {
  are = tt;
  is = ap (λ (m : MachineState). (bay_at m n).unit) run.1 ∙ unit ∙ ap Disk (no_calls d);
}
goes_over disks n (deed ∷ later) old now run stays d unit =
    let mid : MachineState = run.1.0 in
    let here : List Call = calls_at old deed n in
    let one = disks old deed mid run.1.1 n d unit stays.0 in
    let rest = goes_over disks n later mid now run.1.2 stays.1 (after_calls d here) one.is in
    record {
      are = calls_both here (calls_of n mid later now run.1.2) d one.are rest.are;
      is = rest.is ∙ ap Disk (sym (calls_after here (calls_of n mid later now run.1.2) d));
    }

-- behind calls of a new disk
record Reached (p : Profile) (limit : ℕ) (calls : List Call) (n : ℕ) (m : MachineState) : Type 0 where
  are : AreCalls (new_disk p limit) calls
  there : (bay_at m n).unit ≡ Disk (reached p limit calls)

reached_over : DisksGoOn → (p : Profile) (limit n : ℕ) (base : List Call) (deeds : List Deed) (old now : MachineState) (run : RunsRuled old deeds now)
    → AllStay n deeds → Reached p limit base n old → Reached p limit (base ++ calls_of n old deeds now run) n now
reached_over disks p limit n base deeds old now run stays was =
    let calls : List Call = calls_of n old deeds now run in
    let goes = goes_over disks n deeds old now run stays (reached p limit base) was.there in
    record {
      are = calls_both base calls (new_disk p limit) was.are goes.are;
      there = goes.is ∙ ap Disk (sym (calls_after base calls (new_disk p limit)));
    }

-- ---- behind the write

module _ (undisturbed : UndisturbedIsSpared) (p : Profile) (limit : ℕ) (first : List Call) (end : Out) (middle last : List Call) where
  abbrev x : Call
  x = Sends end

  abbrev mid : List Call
  mid = first ++ x ∷ middle

  is_since : mid ++ last ≡ (first ++ x ∷ []) ++ (middle ++ last)
  is_since = append_assoc first (x ∷ middle) last ∙ sym (append_assoc first (x ∷ []) (middle ++ last))

  -- what is under way at a place that was free was heard since
  behind : AreCalls (new_disk p limit) (mid ++ last) → (place : ℕ) → is_taken (commands (reached p limit mid)) place ≡ false
      → is_taken (commands (reached p limit (mid ++ last))) place ≡ true → (from : ℕ) → EndsWell end from → (written : Page)
      → page_in p limit first from ≡ Some written → written.command.write ≡ true
      → (s : ℕ) → covers written.command.lba written.command.count s ≡ true → IsUntouched p limit (first ++ x ∷ []) (middle ++ last) s
      → IsBehindWrite p limit (mid ++ last) place s written
  behind are place free was from ends written page writes s covered untouched =
      let d : DiskState = reached p limit mid in
      let t : TakenIn d last place =
      taken_in last d place free (subst (λ (z : DiskState). is_taken (commands z) place ≡ true) (calls_after mid last (new_disk p limit)) was) in
      let front : List Call = middle ++ t.before in
      let heard : List Call = Hears t.bytes ∷ t.after in
      let to : mid ++ t.before ≡ first ++ x ∷ front = append_assoc first (x ∷ middle) t.before in
      let here : after_calls d t.before ≡ reached p limit (first ++ x ∷ front) =
      sym (calls_after mid t.before (new_disk p limit)) ∙ ap (reached p limit) to in
      let parts : middle ++ last ≡ front ++ heard = ap (λ (l : List Call). middle ++ l) t.is ∙ sym (append_assoc middle t.before heard) in
      let sparing = spared undisturbed p limit (first ++ x ∷ []) (middle ++ last) s (subst (AreCalls (new_disk p limit)) is_since are) untouched in
      record {
        first = first;
        end = end;
        middle = front;
        bytes = t.bytes;
        last = t.after;
        is = ap (λ (l : List Call). mid ++ l) t.is ∙ sym (append_assoc mid t.before heard) ∙ ap (λ (l : List Call). l ++ heard) to;
        from = from;
        ends = ends;
        page = page;
        writes = writes;
        covered = covered;
        taken = subst (λ (z : DiskState). IsTakenAt z t.bytes place) here t.taken;
        sparing = (
          tt,
          subst (λ (l : List Call). AreSparing (after_call (reached p limit first) x) s l) parts
              (subst (λ (z : DiskState). AreSparing z s (middle ++ last)) (one_call_more p limit first x) sparing),
        );
      }

-- ---- a place that is vacant

vacant : SinglesAreAwaited → (p : Profile) (limit : ℕ) (calls : List Call) (place : ℕ) → AreCalls (new_disk p limit) calls → IsVacant p limit calls place
    → is_taken (commands (reached p limit calls)) place ≡ false
vacant awaited p limit calls place are (inl free) = free
vacant awaited p limit calls place are (inr idle) =
    subst (λ (k : ℕ). is_taken (commands (reached p limit calls)) k ≡ false) (sym idle.0) (by (is_taken (commands (reached p limit calls)) 32) refl)
  where
    by : (b : Bool) → is_taken (commands (reached p limit calls)) 32 ≡ b → b ≡ false
    by false e = refl
    by true e = absurd (false≢true (sym (ap is_for_data idle.1.waits) ∙ awaited p limit calls are e))

-- ---- what was given

low_place : (d : DiskState) (o : Out) (place : ℕ) → IsOut d (Some o) → EndsWell o place → place < 33
low_place d (out.Ends tags) place goes well = let low = well.0 in omega (arith, low)
low_place d (out.Of q replies.Done) place goes well = subst (λ (k : ℕ). k < 33) well goes.2.0
low_place d o place goes well = absurd well

next_of : (g : Option Page) (page : Page) (part : List ℕ) → g ≡ Some page → AreOfPage g part → AreNext page.ledger part
next_of g page part is next = subst (λ (y : Option Page). AreOfPage y part) is next

sector_first : (lba s : ℕ) (bytes rest given : List ℕ) → given ≡ bytes ++ rest → (s - lba) * 512 + 512 ≤ length bytes
    → sector_of lba s bytes ≡ sector_of lba s given
sector_first lba s bytes rest given is long =
    let k : ℕ = (s - lba) * 512 in
    let more = length-drop k bytes in
    sym (ap (λ (l : List ℕ). take 512 (drop k l)) is ∙ ap (λ (l : List ℕ). take 512 l) (drop-append-le k bytes rest (omega (arith, long)))
    ∙ take-append-le 512 (drop k bytes) rest (omega (arith, long, more)))

given_long : (bytes rest given : List ℕ) → given ≡ bytes ++ rest → length bytes ≤ length given
given_long bytes rest given is = let a = ap length is in let b = length-append bytes rest in omega (arith, a, b)

-- ---- a run in three parts

module _ (laws : Laws) (n : ℕ) (p : Profile) (limit : ℕ) (base : List Call) (at : MachineState) (deeds : List Deed) (now : MachineState)
    (run : RunsRuled at deeds now) (between : List Deed) (begins : MachineState) (led : RunsRuled now between begins) (later : List Deed) (end : MachineState)
    (rest : RunsRuled begins later end) (over : IsOver n p limit base at deeds now run between begins led later end rest)
    (write : IsEnded n p limit base at deeds now run) (said : IsSaid n begins later end rest) where
  abbrev then' : List Call
  then' = base ++ calls_of n at deeds now run ++ calls_of n now between begins led

  abbrev first : List Call
  first = calls_to n at deeds now run base write.end

  abbrev until : List Call
  until = calls_of n begins said.sooner said.mid said.led

  abbrev middle : List Call
  middle = calls_of n write.end.after write.end.later now write.end.rest ++ calls_of n now between begins led

  then_is : then' ≡ first ++ Sends write.end.said ∷ middle
  then_is =
      let here : List Call = calls_of n at write.end.sooner write.end.mid write.end.led in
      let x : Call = Sends write.end.said in
      let more : List Call = calls_of n write.end.after write.end.later now write.end.rest in
      let on : List Call = calls_of n now between begins led in
      ap (λ (l : List Call). base ++ l ++ on) write.end.own ∙ ap (λ (l : List Call). l ++ on) (sym (append_assoc base here (x ∷ more)))
      ∙ append_assoc (base ++ here) (x ∷ more) on

  all_is : then' ++ until ≡ (first ++ Sends write.end.said ∷ middle) ++ until
  all_is = ap (λ (l : List Call). l ++ until) then_is

  is : then' ++ until ≡ (first ++ Sends write.end.said ∷ []) ++ (middle ++ until)
  is = all_is ∙ is_since laws.undisturbed p limit first write.end.said middle until

  abbrev more : List Call
  more = Sends said.said ∷ calls_of n said.after said.later end said.rest

  whole_is : then' ++ calls_of n begins later end rest ≡ (then' ++ until) ++ more
  whole_is = ap (λ (l : List Call). then' ++ l) said.own ∙ sym (append_assoc then' until more)

  as_begins : Reached p limit then' n begins
  as_begins =
      reached_over laws.disks p limit n (base ++ calls_of n at deeds now run) between now begins led over.stays_between
      (reached_over laws.disks p limit n base deeds at now run over.stays (record { are = over.are; there = over.there }))

  whole : AreCalls (new_disk p limit) ((then' ++ until) ++ more)
  whole = subst (AreCalls (new_disk p limit)) whole_is (reached_over laws.disks p limit n then' later begins end rest over.stays_later as_begins).are

  are : AreCalls (new_disk p limit) (then' ++ until)
  are = first_calls (then' ++ until) more (new_disk p limit) whole

  goes : IsOut (reached p limit (then' ++ until)) (Some said.said)
  goes = (calls_then (then' ++ until) more (new_disk p limit) whole).0

  honest : IsHonest p limit (then' ++ until)
  honest = honest_first p limit (then' ++ until) more (subst (IsHonest p limit) whole_is over.honest)

  -- a command of a place that was vacant stands behind the write
  stands : (place : ℕ) → IsVacant p limit then' place → is_taken (commands (reached p limit (then' ++ until))) place ≡ true
      → write.page.command.write ≡ true → (s : ℕ) → covers write.page.command.lba write.page.command.count s ≡ true
      → IsUntouched p limit (first ++ Sends write.end.said ∷ []) (middle ++ until) s → IsBehindWrite p limit (then' ++ until) place s write.page
  stands place free was writes s covered untouched =
      let none : is_taken (commands (reached p limit (first ++ Sends write.end.said ∷ middle))) place ≡ false =
      ap (λ (l : List Call). is_taken (commands (reached p limit l)) place) (sym then_is) ∙ vacant laws.awaited p limit then' place as_begins.are free in
      subst (λ (l : List Call). IsBehindWrite p limit l place s write.page) (sym all_is)
      (behind laws.undisturbed p limit first write.end.said middle until (subst (AreCalls (new_disk p limit)) all_is are) place none
      (ap (λ (l : List Call). is_taken (commands (reached p limit l)) place) (sym all_is) ∙ was) write.place write.ends write.page write.books writes s covered
      untouched)

  -- an end of a read
  ended : (place : ℕ) → EndsWell said.said place → (read : Page) → page_in p limit (then' ++ until) place ≡ Some read
      → IsEarned read.command read.ledger read.command.write → IsVacant p limit then' place
      → HasFollowed p limit (first ++ Sends write.end.said ∷ []) (then' ++ until) write.page read
  ended place ends read page earned free =
      let was = end_taken laws.tags laws.outs p limit (then' ++ until) said.said place are goes ends in
      record {
        since = middle ++ until;
        is = is;
        same = λ is_write is_read sends s covered has untouched.
            let all : ReadIsEarned read.command read.ledger = subst (IsEarned read.command read.ledger) is_read earned in
            ap (sector_of read.command.lba s) (all.bytes sends)
            ∙ laws.given p limit (then' ++ until) place s write.page read (low_place (reached p limit (then' ++ until)) said.said place goes ends) are honest
            (stands place free was is_write s covered untouched) page (has_given read s all has);
      }

  -- Data of a read
  sending : (place len : ℕ) → said.said ≡ out.Data place len → (read : Page) → page_in p limit (then' ++ until) place ≡ Some read → IsVacant p limit then' place
      → IsFollowedSoFar p limit (first ++ Sends write.end.said ∷ []) (then' ++ until) write.page place read
  sending place len same_said read page free =
      let sends : IsOut (reached p limit (then' ++ until)) (Some (out.Data place len)) =
      subst (λ (o : Out). IsOut (reached p limit (then' ++ until)) (Some o)) same_said goes in
      let part : List ℕ = next_data p limit (then' ++ until) place in
      let next : AreNext read.ledger part =
      next_of (page_in p limit (then' ++ until) place) read part page (laws.data' p limit (then' ++ until) place len are sends) in
      let bytes : List ℕ = read.ledger.sent ++ part in
      record {
        since = middle ++ until;
        is = is;
        same = λ is_write s covered has untouched.
            let long = given_long bytes next.rest read.ledger.given next.given in
            let most = has.last in
            sector_first read.command.lba s bytes next.rest read.ledger.given next.given has.last
            ∙ laws.given p limit (then' ++ until) place s write.page read sends.2.0 are honest
            (stands place free (data_taken (reached p limit (then' ++ until)) place len sends) is_write s covered untouched) page
            (record { first = has.first; last = omega (arith, long, most) });
      }

-- ---- the laws

pub reads_follow_over_all : Laws → ReadsFollowOverAll
reads_follow_over_all laws n p limit base at deeds now run between begins led later end rest over write read free =
    ended laws n p limit base at deeds now run between begins led later end rest over write read.end read.place read.ends read.page read.books read.earned free

pub data_follow_over_all : Laws → DataFollowOverAll
data_follow_over_all laws n p limit base at deeds now run between begins led later end rest over write read free =
    sending laws n p limit base at deeds now run between begins led later end rest over write read.data' read.place read.len read.goes read.page read.books free

pub seen_reads_follow : Laws → SeenReadsFollow
seen_reads_follow laws n p limit base at deeds now run between begins led later end rest over old before first w f write more second r g read free =
    reads_follow_over_all laws n p limit base at deeds now run between begins led later end rest over
    (end_of n w old before at first deeds now run p limit base f write)
    (end_of n r old more begins second later end rest p limit (base ++ calls_of n at deeds now run ++ calls_of n now between begins led) g read) free

pub ended_settled : Laws → EndedWritesAreSettled
ended_settled laws n p limit base are at there deeds now run stays write is_write s covered =
    let until : List Call = calls_of n at write.end.sooner write.end.mid write.end.led in
    let more : List Call = Sends write.end.said ∷ calls_of n write.end.after write.end.later now write.end.rest in
    let parts : base ++ calls_of n at deeds now run ≡ (base ++ until) ++ more =
    ap (λ (l : List Call). base ++ l) write.end.own ∙ sym (append_assoc base until more) in
    let whole : AreCalls (new_disk p limit) ((base ++ until) ++ more) =
    subst (AreCalls (new_disk p limit)) parts (reached_over laws.disks p limit n base deeds at now run stays (record { are = are; there = there })).are in
    laws.settled p limit (base ++ until) write.end.said write.place s write.page (first_calls (base ++ until) more (new_disk p limit) whole)
    (calls_then (base ++ until) more (new_disk p limit) whole).0 write.ends write.books is_write covered
