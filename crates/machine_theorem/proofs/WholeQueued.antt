-- The slot's command and the disk's are of one length, of a queued command that the guest sees completed.
use Rattle.std.proofs.Common.{◌≡◌, ℕ, ◌+◌, ◌<◌, ◌&&◌, Bool, true, false, List, [], ◌∷◌, ◌++◌, map, Result, Ok, Err, refl, sym, ap, subst, ◌∙◌, arith}
use Rattle.std.proofs.lemmas.Bool.{and_parts, eqb-true, false≢true}
use Rattle.std.specs.Prelude.{◌==◌, ◌/◌, ◌%◌, ◌||◌, if◌then◌else◌, nat_le}
use Rattle.fis_view.specs.{Frames.marked, Seen.seen, Table.{H2d, Command, Count, field}, declared.view.{Fis.Fis, FisFault.FisFault}}
use Rattle.fis_view.specs.declared.view.Fis.TheVariants as view
use Rattle.slots.specs.{Work.is_read, declared.work.Work.Work}
use Rattle.guest_fetch.specs.Heads.{asked_work, fields_in}
use Rattle.block_command.specs.Moments.{is_verify}
use Rattle.block_command.specs.declared.command.Command as block
use Rattle.ata_command.specs.{Asks.{DiskFacts, aborted, asked, asked_by, moved, queued}, Opcodes.opcode_of, declared.asked.Asked.Asked}
use Rattle.ata_command.specs.declared.settings.Settings.{Settings}
use Rattle.ata_command.specs.declared.asked.Asked.TheVariants as ask
use Rattle.disk_pages.specs.{Logs.reads_log, Profiles.facts_of}
use Rattle.sata_disk.specs.{Hearing.{asked_of, is_command, with_logs}, State.DiskState}
use Rattle.sata_disk_laws.specs.{Laws.reached, Once.{is_queued_code, place_in}}
use Rattle.machine_laws.specs.{ControllerLaws.calls_in, Falling.sent_in}
use Rattle.machine_theorem.specs.{Completions.CompletionsAreOfSlots, CountedAlike.IsCountedAlike, Identity.{asks_of, heard_as, is_for, picks}}
use Rattle.machine_theorem.specs.{InTurn.{commands, is_asking}, IssuedWork.IssuesMoveAsSupplied, Tags.asks_with}
use Rattle.machine_theorem.specs.WholeQueued.{QueuedCompletionsAreWhole}
use Rattle.machine_theorem.proofs.Counts.{counted_alike, frame_is}

-- ---- what is picked passes

abbrev head_or : List ℕ → List (List ℕ) → List ℕ
head_or a [] = a
head_or a (x ∷ xs) = x

abbrev tail_of : List (List ℕ) → List (List ℕ)
tail_of [] = []
tail_of (x ∷ xs) = xs

picked : (p : List ℕ → Bool) (xs front : List (List ℕ)) (b : List ℕ) → picks p xs ≡ front ++ b ∷ [] → p b ≡ true
picked p [] [] b is = absurd (cc)
picked p [] (y ∷ front) b is = absurd (cc)
picked p (x ∷ xs) front b is = by (p x) refl front is (λ f e. picked p xs f b e)
  where
    by : (c : Bool) → p x ≡ c → (f : List (List ℕ)) → (if c then x ∷ picks p xs else picks p xs) ≡ f ++ b ∷ []
        → ((f : List (List ℕ)) → picks p xs ≡ f ++ b ∷ [] → p b ≡ true) → p b ≡ true
    by true e [] same rest = ap p (sym (ap (head_or x) same)) ∙ e
    by true e (y ∷ f) same rest = rest f (ap tail_of same)
    by false e f same rest = rest f same

-- ---- a queued command

record IsQueuedAsk (bytes : List ℕ) : Type 0 where
  asks : is_asking bytes ≡ true
  code : is_queued_code (field H2d Command bytes) ≡ true

code_by : (b : Bool) (n tag : ℕ) → tag < 32 → ((if b then n else 32) == tag) ≡ true → b ≡ true
code_by true n tag low is = refl
code_by false n tag low is = absurd (let same = eqb-true 32 tag is in omega (arith, same, low))

asking_by : (r : Result Fis FisFault) (bytes : List ℕ) (tag : ℕ) → tag < 32 → seen bytes ≡ r → asks_with tag r ≡ true → IsQueuedAsk bytes
asking_by (Ok (view.RegH2D g)) bytes tag low e is =
    let both = and_parts (is_command g) (place_in g == tag) is in
    record {
      asks = ap commands e ∙ both.0;
      code = ap (λ (f : List ℕ). is_queued_code (field H2d Command f)) (sym (frame_is bytes g e))
          ∙ code_by (is_queued_code (field H2d Command g)) (field H2d Count g % 256 / 8) tag low both.1;
    }
asking_by (Ok other) bytes tag low e is = absurd (false≢true is)
asking_by (Err fault) bytes tag low e is = absurd (false≢true is)

-- its sectors move
abbrev Move : Asked → Type 0
Move (ask.Moves m) = is_verify m.command.protocol ≡ false
Move other = Unit {0}

move_if : (b : Bool) (x y : Asked) → Move x → Move y → Move (if b then x else y)
move_if true x y e f = e
move_if false x y e f = f

moved_move : (d : DiskFacts) (c : block.Command) (wide : Bool) → is_verify c.protocol ≡ false → Move (moved d c wide)
moved_move d c wide is = move_if (nat_le (c.lba + c.count) d.sectors) (ask.Moves (record { command = c; wide = wide })) _ is tt

queued_move : (g : List ℕ) (write : Bool) (d : DiskFacts) (s : Settings) → Move (queued g write d s)
queued_move g write d s = move_if (nat_le d.depth (field H2d Count g % 256 / 8)) _ _ tt (moved_move d _ true refl)

logs_move : (a : Asked) → Move a → Move (with_logs a)
logs_move (ask.ReadsLog p) is = move_if ((p.count == 1) && reads_log p.log p.page p.count) (ask.ReadsLog p) aborted tt tt
logs_move (ask.Moves m) is = is
logs_move other is = tt

code_move : (c : ℕ) → is_queued_code c ≡ true → (g : List ℕ) (d : DiskFacts) (s : Settings) → Move (asked_by (opcode_of c) g d s)
code_move c is g d s = by (c == 0x60) (c == 0x61) refl refl is
  where
    by : (a b : Bool) → (c == 0x60) ≡ a → (c == 0x61) ≡ b → (a || b) ≡ true → Move (asked_by (opcode_of c) g d s)
    by true b e h is = subst (λ (n : ℕ). Move (asked_by (opcode_of n) g d s)) (sym (eqb-true c 0x60 e)) (queued_move g false d s)
    by false true e h is = subst (λ (n : ℕ). Move (asked_by (opcode_of n) g d s)) (sym (eqb-true c 0x61 h)) (queued_move g true d s)
    by false false e h is = absurd (false≢true is)

asked_move : (d : DiskState) (g : List ℕ) → is_queued_code (field H2d Command g) ≡ true → Move (asked_of d g)
unfolding asked
asked_move d g is =
    logs_move (asked_by (opcode_of (field H2d Command g)) g (facts_of d.profile) d.front.settings)
    (code_move (field H2d Command g) is g (facts_of d.profile) d.front.settings)

-- ---- the law

pub record Laws : Type 0 where
  pub done : CompletionsAreOfSlots
  pub moves : IssuesMoveAsSupplied

pub whole_are : Laws → QueuedCompletionsAreWhole
whole_are laws ports legacy old opening before at first many n tag below low rest deeds now run linked lasts keeps p limit base are same took new does
    rules shows hides issue there mine =
    let done =
    laws.done ports legacy old opening before at first many n tag below low rest deeds now run linked lasts keeps p limit base are same took new does
    rules shows hides issue there mine in
    let it = done.slots.asked in
    let d : DiskState = reached p limit it.before in
    let heard_so : List (List ℕ) = map heard_as (picks (is_for many n) (sent_in (calls_in at done.end.before done.end.moment done.end.first))) in
    let named : asks_of tag it.bytes ≡ true = picked (asks_of tag) heard_so done.slots.front it.bytes done.slots.last in
    let q : IsQueuedAsk it.bytes = asking_by (seen it.bytes) it.bytes tag low refl named in
    let heard : it.fis ≡ marked done.order 0 = frame_is it.bytes it.fis it.viewed ∙ done.heard in
    let asks : asked_of d (marked done.order 0) ≡ ask.Moves it.move = ap (asked_of d) (sym heard) ∙ it.asks in
    let code : is_queued_code (field H2d Command (marked done.order 0)) ≡ true =
    ap (λ (f : List ℕ). is_queued_code (field H2d Command f)) (sym done.heard) ∙ q.code in
    let moves : is_verify it.move.command.protocol ≡ false = subst Move asks (asked_move d (marked done.order 0) code) in
    let alike : IsCountedAlike done.order done.page.command =
    subst (λ (c : block.Command). IsCountedAlike done.order c) (sym it.is)
    (counted_alike d done.order (ap is_asking (sym done.heard) ∙ q.asks) it.move asks moves) in
    let work : issue.work ≡ asked_work (fields_in done.order) =
    laws.moves ports legacy old opening (before ++ deeds) now done.whole.all tag low issue there done.order done.supplied in
    record {
      done = done;
      work = work;
      len = ap (λ (w : Work). w.len) work ∙ alike.len;
      way = ap (λ (w : Work). is_read w.kind) work ∙ alike.way;
    }
