-- The FIS of each command is due to its host, and keeps host and disk alike.
use Rattle.std.proofs.{Common.{◌≡◌, ℕ, ◌*◌, ◌/◌, ◌<◌, true, false, List, length, Some, refl, sym, ap, ◌∙◌, subst, inr}, lemmas.Bool.{lt-ltb}}
use Rattle.std.specs.{Prelude.{Bool, nat_le, nat_lt, not, ◌&&◌, if◌then◌else◌}, Option.option_map}
use Rattle.block_command.specs.declared.command.{Command.Command, Protocol.{Protocol, TheVariants.{Queued, Pio}}, Stage.Stage}
use Rattle.block_command.specs.declared.command.Stage.TheVariants.{SetUpRead, Announce, Sending, SetUpWrite, Activate, Receiving, End, Fail}
use Rattle.block_command.specs.{Moments.{Moment, is_ended, is_queued, part_of, turn_of}, Laws.{Goes, after}}
use Rattle.block_command.proofs.Door.{at}
use Rattle.block_disk.specs.Table.{is_under_way}
use Rattle.block_queue.specs.Line.{IsLine, command_at}
use Rattle.block_queue.proofs.Door.{of_and}
use Rattle.block_scheduler.specs.Sets.{is_fail, sends_alone, turn_at}
use Rattle.ata_reply.specs.declared.reply.Reply.{Reply}
use Rattle.ata_reply.specs.declared.reply.Reply.TheVariants as replies
use Rattle.ata_front.specs.{CommandFis.{asks_by, failure_of, set_up}, declared.task.Trouble.Trouble}
use Rattle.ata_front.specs.declared.task.Task.TheVariants as tasks
use Rattle.sata_disk.specs.{State.{DiskState, commands}, Sending.{command_sent, out_at}}
use Rattle.sata_disk.specs.declared.out.Out.TheVariants as out
use Rattle.sata_disk_laws.specs.Once.{Host, IsDue, IsOfPlace, IsQueued, Wait, data_got, data_got_by, reply_got}
use Rattle.sata_disk_laws.proofs.{Fits.is_pio, Left.last_ends, Speaks.{queued_fails, queued_stays}, Tracks.{IsPlace, Tracks}}

-- the disk after the FIS of a place
abbrev pub SentAs : Host → DiskState → (p n : ℕ) → Type 0
SentAs h d p n = Tracks h (command_sent d p n).front (command_sent d p n).engine.stage (commands (command_sent d p n))

abbrev pub IsGood : Host → DiskState → (p : ℕ) → Reply → Type 0
IsGood h d p r = IsDue h r × IsOfPlace p r × SentAs (reply_got h r) d p 0

same_reply : (p q : ℕ) (r r' : Reply) → Some (out.Of p r) ≡ Some (out.Of q r') → r' ≡ r
same_reply p q r r' e = cc

pub by_reply : (h : Host) (d : DiskState) (p : ℕ) (r r' : Reply) → Some (out.Of p r) ≡ Some (out.Of p r') → IsGood h d p r' → IsGood h d p r
by_reply h d p r r' e good = let P : Reply → Type 0 = λ x. IsGood h d p x in subst P (same_reply p p r r' e) good

-- ## Queued commands

not_pio : (p : Protocol) → is_queued p ≡ true → is_pio p ≡ true → ⊥
not_pio Queued e f = cc
not_pio other e f = cc

no_pio : (p : Protocol) → is_queued p ≡ true → is_pio p ≡ false
no_pio Pio e = absurd (cc)
no_pio other e = refl

activates : (m : Moment) (p : Protocol) → is_queued p ≡ true → asks_by m p ≡ replies.Activate
activates m Queued e = refl
activates m other e = absurd (cc)

aborts : (c : Command) (t : Trouble) (wide : Bool) → nat_lt c.place 32 ≡ true → failure_of c t wide ≡ replies.Aborts t.error
aborts c t wide e = ap (λ b. if b then replies.Aborts t.error else replies.Failed (record { error = t.error; lba = t.lba; wide = wide })) e

both_alive : (a b : Bool) → a ≡ false → b ≡ false → not a ≡ not b
both_alive a b e f = ap (λ x. not x) (e ∙ sym f)

queued_sent : (h : Host) (d : DiskState) (p n : ℕ) (m : Moment) → command_at (commands d) p ≡ Some m → p < 32 → IsLine (commands d)
    → is_fail (turn_of m.stage) ≡ false → is_ended m.stage ≡ false → is_ended (after m Goes).stage ≡ false
    → Tracks h d.front d.engine.stage (commands d) → SentAs h d p n
queued_sent h d p n m there low is fails alive stays tracks =
    queued_stays h d p n low is (ap (λ x. is_fail (turn_at x)) there ∙ fails)
    (ap (λ x. is_under_way (option_map (λ m. after m Goes) x)) there ∙ both_alive (is_ended (after m Goes).stage) (is_ended m.stage) stays alive ∙ sym (ap is_under_way there)) tracks

queued_good : (h : Host) (d : DiskState) (p : ℕ) (m : Moment) (r : Reply) → command_at (commands d) p ≡ Some m → p < 32 → IsLine (commands d)
    → is_fail (turn_of m.stage) ≡ false → is_ended m.stage ≡ false → is_ended (after m Goes).stage ≡ false
    → Tracks h d.front d.engine.stage (commands d) → IsDue h r → IsOfPlace p r → h ≡ reply_got h r → IsGood h d p r
queued_good h d p m r there low is fails alive stays tracks due of' same =
    let P : Host → Type 0 = λ x. SentAs x d p 0 in
    (due, of', subst P same (queued_sent h d p 0 m there low is fails alive stays tracks))

not_together : (a : Bool) → a ≡ true → not (a && true) ≡ true → ⊥
not_together true e f = cc
not_together false e f = cc

set_up_ended : (b : Bool) → is_ended (if b then Receiving else Activate) ≡ false
set_up_ended true = refl
set_up_ended false = refl

queued_at : (h : Host) (q p : ℕ) → q ≡ p → IsQueued h p → IsQueued h q
queued_at h q p e is = let P : ℕ → Type 0 = λ t. IsQueued h t in subst P (sym e) is

pub queued_reply : (h : Host) (d : DiskState) (p : ℕ) (r : Reply) (c : Command) (done : ℕ) (bytes : List ℕ) (sent : ℕ) (stage : Stage)
    → command_at (commands d) p ≡ Some (at c done bytes sent stage) → p < 32 → IsLine (commands d) → IsPlace p (at c done bytes sent stage)
    → sends_alone p (turn_of stage) ≡ true → Some (out.Of p r) ≡ out_at d p (Some (at c done bytes sent stage)) → IsQueued h p → d.front.task ≡ tasks.Idle
    → Tracks h d.front d.engine.stage (commands d) → IsGood h d p r
queued_reply h d p r c done bytes sent SetUpRead there low is place sends e queued idle tracks =
    by_reply h d p r (set_up c) e (queued_good h d p (at c done bytes sent SetUpRead) (set_up c) there low is refl refl refl tracks (queued_at h c.place p place.place queued) place.place refl)
queued_reply h d p r c done bytes sent SetUpWrite there low is place sends e queued idle tracks =
    by_reply h d p r (set_up c) e (queued_good h d p (at c done bytes sent SetUpWrite) (set_up c) there low is refl refl (set_up_ended c.auto_activate) tracks
    (queued_at h c.place p place.place queued) place.place refl)
queued_reply h d p r c done bytes sent Announce there low is place sends e queued idle tracks =
    absurd (not_pio c.protocol (place.queued ∙ lt-ltb p 32 low) place.fits.0)
queued_reply h d p r c done bytes sent Sending there low is place sends e queued idle tracks = absurd (cc)
queued_reply h d p r c done bytes sent Activate there low is place sends e queued idle tracks =
    by_reply h d p r replies.Activate (e ∙ ap (λ x. Some (out.Of p x)) (activates (at c done bytes sent Activate) c.protocol (place.queued ∙ lt-ltb p 32 low)))
    (queued_good h d p (at c done bytes sent Activate) replies.Activate there low is refl refl refl tracks (inr (p, queued)) tt refl)
queued_reply h d p r c done bytes sent End there low is place sends e queued idle tracks =
    absurd (not_together (nat_lt p 32) (lt-ltb p 32 low) (of_and true _ sends).1)
queued_reply h d p r c done bytes sent Fail there low is place sends e queued idle tracks =
    by_reply h d p r _ (e ∙ ap (λ x. Some (out.Of p x)) (aborts c _ _ (ap (λ k. nat_lt k 32) place.place ∙ lt-ltb p 32 low)))
    ((p, queued), low, queued_fails h d p 0 low (ap (λ x. is_fail (turn_at x)) there) idle queued.2 tracks)
queued_reply h d p r c done bytes sent stage there low is place sends e queued idle tracks = absurd (cc)

pub queued_data : (h : Host) (d : DiskState) (p n : ℕ) (c : Command) (done : ℕ) (bytes : List ℕ) (sent : ℕ) (stage : Stage)
    → command_at (commands d) p ≡ Some (at c done bytes sent stage) → p < 32 → IsLine (commands d) → IsPlace p (at c done bytes sent stage)
    → Some (out.Data p n) ≡ out_at d p (Some (at c done bytes sent stage)) → IsQueued h p
    → Tracks h d.front d.engine.stage (commands d) → SentAs (data_got h) d p (n / 512)
queued_data h d p n c done bytes sent Sending there low is place e queued tracks =
    let P : Wait → Type 0 = λ w. SentAs (data_got_by h w) d p (n / 512) in
    subst P (sym queued.2) (queued_sent h d p (n / 512) _ there low is refl refl
    (sending_stays c done bytes sent place) tracks)
  where
    sending_stays : (c : Command) (done : ℕ) (bytes : List ℕ) (sent : ℕ) → IsPlace p (at c done bytes sent Sending)
        → is_ended (after (at c done bytes sent Sending) Goes).stage ≡ false
    sending_stays c done bytes sent place =
        last_ends c done bytes sent 0 place.whole place.fits (λ pio. absurd (not_pio c.protocol (place.queued ∙ lt-ltb p 32 low) pio))
        ∙ ap (λ b. b && nat_le (0 * 512) (length (part_of (at c done bytes sent Sending)))) (no_pio c.protocol (place.queued ∙ lt-ltb p 32 low))
queued_data h d p n c done bytes sent stage there low is place e queued tracks = absurd (cc)
