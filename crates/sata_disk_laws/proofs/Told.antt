-- Each FIS says what the account has.
use Rattle.std.proofs.Common.{◌≡◌, ℕ, ◌<◌, true, false, List, drop, Some, None, refl, sym, ap, ◌∙◌, subst}
use Rattle.std.specs.Prelude.{Option, Bool, if◌then◌else◌}
use Rattle.block_command.specs.declared.command.{Command.Command, Protocol.{Protocol, TheVariants.Queued}, Stage.{Stage, TheVariants.SetUpRead}}
use Rattle.block_command.specs.{declared.command.Stage.TheVariants.{Announce, Sending, SetUpWrite, Activate, End, Fail}, Moments.{Moment, turn_of}}
use Rattle.block_command.specs.Laws.{Goes, SentActivate, SentData, SentEnd, SentError}
use Rattle.block_command.proofs.Door.{at}
use Rattle.block_disk.specs.Laws.{At, shown_at}
use Rattle.block_queue.specs.Line.{command_at, has_bit}
use Rattle.block_scheduler.specs.{Sets.{is_end, turn_at}, Schedule.IsNextFis}
use Rattle.block_scheduler.specs.declared.scheduler.NextFis.TheVariants as fis
use Rattle.ata_reply.specs.{Replies.Carries, declared.reply.{AtaError.AtaError, Failure.Failure, Reply.Reply}}
use Rattle.ata_reply.specs.declared.reply.Reply.TheVariants as replies
use Rattle.ata_front.specs.CommandFis.{asks_by}
use Rattle.sata_disk.specs.{State.{DiskState, commands}, Sending.{out_at, part_at}}
use Rattle.sata_disk.specs.declared.out.Out.TheVariants as out
use Rattle.sata_disk_laws.specs.Told.{FisesAreTold, happens, sent_at}

same_reply : (p q : ℕ) (r s : Reply) → Some (out.Of p r) ≡ Some (out.Of q s) → r ≡ s
same_reply p q r s e = cc

asks_happen : (m : Moment) (protocol : Protocol) → happens (asks_by m protocol) ≡ SentActivate
asks_happen m Queued = refl
asks_happen m other = refl

failure_happens : (b : Bool) (error : AtaError) (f : Failure) → happens (if b then replies.Aborts error else replies.Failed f) ≡ SentError
failure_happens true error f = refl
failure_happens false error f = refl

reply_told : (d : DiskState) (p : ℕ) (r : Reply) (c : Command) (done : ℕ) (bytes : List ℕ) (sent : ℕ) (stage : Stage)
    → Some (out.Of p r) ≡ out_at d p (Some (at c done bytes sent stage)) → shown_at p (Some (at c done bytes sent stage)) Goes ≡ At p (happens r)
reply_told d p r c done bytes sent SetUpRead e = ap (λ x. At p (happens x)) (sym (same_reply p p r _ e))
reply_told d p r c done bytes sent Announce e = ap (λ x. At p (happens x)) (sym (same_reply p p r _ e))
reply_told d p r c done bytes sent SetUpWrite e = ap (λ x. At p (happens x)) (sym (same_reply p p r _ e))
reply_told d p r c done bytes sent End e = ap (λ x. At p (happens x)) (sym (same_reply p p r _ e))
reply_told d p r c done bytes sent Activate e =
    ap (λ x. At p x) (sym (asks_happen (at c done bytes sent Activate) c.protocol)) ∙ ap (λ x. At p (happens x)) (sym (same_reply p p r _ e))
reply_told d p r c done bytes sent Fail e =
    ap (λ x. At p x) (sym (failure_happens _ _ _)) ∙ ap (λ x. At p (happens x)) (sym (same_reply p p r _ e))
reply_told d p r c done bytes sent stage e = absurd (cc)

of_told : (d : DiskState) (p : ℕ) (r : Reply) (x : Option Moment) → Some (out.Of p r) ≡ out_at d p x → shown_at p x Goes ≡ At p (happens r)
of_told d p r None e = absurd (cc)
of_told d p r (Some m) e = reply_told d p r m.command m.done m.bytes m.sent m.stage e

data_told : (d : DiskState) (p n : ℕ) (c : Command) (done : ℕ) (bytes : List ℕ) (sent : ℕ) (stage : Stage)
    → Some (out.Data p n) ≡ out_at d p (Some (at c done bytes sent stage))
    → shown_at p (Some (at c done bytes sent stage)) Goes ≡ At p (SentData (part_at (Some (at c done bytes sent stage))))
data_told d p n c done bytes sent Sending e = refl
data_told d p n c done bytes sent stage e = absurd (cc)

some_told : (d : DiskState) (p n : ℕ) (x : Option Moment) → Some (out.Data p n) ≡ out_at d p x → shown_at p x Goes ≡ At p (SentData (part_at x))
some_told d p n None e = absurd (cc)
some_told d p n (Some m) e = data_told d p n m.command m.done m.bytes m.sent m.stage e

carried : (bytes b : List ℕ) → Carries bytes b → drop 4 b ≡ bytes
carried bytes b is = ap (λ x. drop 4 x) is.0

end_stage : (p : ℕ) (c : Command) (done : ℕ) (bytes : List ℕ) (sent : ℕ) (stage : Stage) → is_end (turn_of stage) ≡ true
    → shown_at p (Some (at c done bytes sent stage)) Goes ≡ At p SentEnd
end_stage p c done bytes sent End e = refl
end_stage p c done bytes sent stage e = absurd (cc)

end_told : (p : ℕ) (x : Option Moment) → is_end (turn_at x) ≡ true → shown_at p x Goes ≡ At p SentEnd
end_told p None e = absurd (cc)
end_told p (Some m) e = end_stage p m.command m.done m.bytes m.sent m.stage e

ends_told : (d : DiskState) (tags : ℕ) (wire : Option ℕ) → IsNextFis (commands d) wire (Some (fis.Ends tags)) → (t : ℕ) → t < 32
    → has_bit tags t ≡ true → sent_at d t ≡ At t SentEnd
ends_told d tags None is t low has = end_told t (command_at (commands d) t) (sym (is.0 t low) ∙ has)
ends_told d tags (Some h) is t low has = absurd is

pub fises_are_told : FisesAreTold
fises_are_told d (out.Data p n) b is f =
    let same = carried (part_at (command_at (commands d) p)) b f in
    (subst (λ x. Carries x b) (sym same) f, some_told d p n (command_at (commands d) p) is.3 ∙ ap (λ x. At p (SentData x)) (sym same))
fises_are_told d (out.Of p r) b is f = (f, of_told d p r (command_at (commands d) p) is.3)
fises_are_told d (out.Ends tags) b is f = (f, ends_told d tags _ is.1.1)
fises_are_told d (out.Beside r) b is f = (f, is.2)
fises_are_told d other b is f = tt
