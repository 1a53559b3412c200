-- A command that is under way at a place of a disk that was free behind some calls was heard behind them; and a FIS that goes for the command of a place goes
-- while this is under way.
use Rattle.std.proofs.Common.{◌≡◌, ℕ, ◌+◌, true, false, List, [], ◌∷◌, ◌++◌, Option, Some, None, refl, sym, ap, ◌∙◌, inl, inr, arith}
use Rattle.std.proofs.lemmas.Bool.{and_parts, false≢true, leb-true, ltb-true}
use Rattle.std.specs.{Prelude.{Bool, not, nat_le, nat_lt}, Option.option_map}
use Rattle.fis_view.specs.Seen.{seen}
use Rattle.ata_reply.specs.declared.reply.Reply.{Reply}
use Rattle.block_command.specs.{declared.command.{Command.Command, Stage.Stage}, Laws.ReadIsEarned, Moments.{Moment, is_ended}}
use Rattle.block_command.specs.declared.command.Stage.TheVariants as stage
use Rattle.block_command.proofs.Door.{at}
use Rattle.block_disk.specs.{Laws.Page, Table.is_under_way}
use Rattle.block_queue.specs.Line.{command_at}
use Rattle.ata_reply.specs.declared.reply.Reply.TheVariants as replies
use Rattle.disk_pages.specs.declared.profile.Profile.{Profile}
use Rattle.sata_disk.specs.{Sending.{IsOut, out_at, reply_at}, State.{DiskState, commands, is_taken, new_disk}, declared.out.Out.Out}
use Rattle.sata_disk.specs.declared.out.Out.TheVariants as out
use Rattle.sata_disk_laws.specs.{Awaited.OutsAreUnderWay, Calls.{AreCalls, Call, Hears, Sends, after_call, after_calls, steps_of}, Laws.reached}
use Rattle.sata_disk_laws.proofs.Door.{calls_both}
use Rattle.sata_disk_media.specs.{Cells.covers, Laws.{EndsWell, HasGiven, IsTakenAt}}
use Rattle.machine_theorem.proofs.{HeardBehind.takes_of, TagAsked.{Outcome, outcome, Outcome.{Nothing, Taken}}, TagCounts.{ends_it, held_of_taken}}
use Rattle.machine_theorem.proofs.{TagCounts.none_held, TagKept.{StepNone, call_held, call_takes, others_none}}
use Rattle.machine_theorem.proofs.TagCounts as counts

-- ---- one call

kept_free : (d : DiskState) (x : Call) (place : ℕ) → StepNone (steps_of d x) → is_taken (commands d) place ≡ false
    → is_taken (commands (after_call d x)) place ≡ true → ⊥
kept_free d x place none free now =
    let held = held_of_taken (command_at (commands (after_call d x)) place) now in
    none_held (command_at (commands d) place) held.0 free (call_held d x place held.0 none held.1)

heard_takes : (d : DiskState) (bytes : List ℕ) (place : ℕ) → Outcome d (seen bytes) → is_taken (commands d) place ≡ false
    → is_taken (commands (after_call d (Hears bytes))) place ≡ true → IsTakenAt d bytes place
heard_takes d bytes place (Nothing none) free now = absurd (kept_free d (Hears bytes) place none free now)
heard_takes d bytes place (Taken f k viewed is at' steps move asks same) free now =
    let held = held_of_taken (command_at (commands (after_call d (Hears bytes))) place) now in
    elim (call_takes d (Hears bytes) k place held.0 steps held.1) [
      | inl was ↦ absurd (none_held (command_at (commands d) place) held.0 free was)
      | inr it ↦ record { fis = f; viewed = viewed; command = k; takes = takes_of d bytes f k viewed steps; place' = it.1; free = free }
    ]

-- by this call the command of the place is taken
record IsTaking (d : DiskState) (x : Call) (place : ℕ) : Type 0 where
  bytes : List ℕ
  is : x ≡ Hears bytes
  taken : IsTakenAt d bytes place

takes : (d : DiskState) (x : Call) (place : ℕ) → is_taken (commands d) place ≡ false → is_taken (commands (after_call d x)) place ≡ true → IsTaking d x place
takes d (Hears bytes) place free now = record { bytes = bytes; is = refl; taken = heard_takes d bytes place (outcome d (seen bytes)) free now }
takes d x place free now = absurd (kept_free d x place (others_none d x tt) free now)

-- ---- more of them

pub record TakenIn (d : DiskState) (calls : List Call) (place : ℕ) : Type 0 where
  pub before : List Call
  pub bytes : List ℕ
  pub after : List Call
  pub is : calls ≡ before ++ Hears bytes ∷ after
  pub taken : IsTakenAt (after_calls d before) bytes place

pub taken_in : (calls : List Call) (d : DiskState) (place : ℕ) → is_taken (commands d) place ≡ false
    → is_taken (commands (after_calls d calls)) place ≡ true → TakenIn d calls place
unfolding after_calls
taken_in [] d place free now = absurd (false≢true (sym free ∙ now))
taken_in (x ∷ later) d place free now = by (λ more. taken_in later (after_call d x) place more now) (is_taken (commands (after_call d x)) place) refl
  where
    by : (is_taken (commands (after_call d x)) place ≡ false → TakenIn (after_call d x) later place) → (b : Bool)
        → is_taken (commands (after_call d x)) place ≡ b → TakenIn d (x ∷ later) place
    by tail true e =
        let t = takes d x place free e in
        record { before = []; bytes = t.bytes; after = later; is = ap (λ (c : Call). c ∷ later) t.is; taken = t.taken }
    by tail false e =
        let r = tail e in
        record { before = x ∷ r.before; bytes = r.bytes; after = r.after; is = ap (λ (l : List Call). x ∷ l) r.is; taken = r.taken }

-- ---- what goes

no_data : (q n k : ℕ) (x : Option Reply) → Some (out.Data q n) ≡ option_map (λ (r : Reply). out.Of k r) x → ⊥
no_data q n k None e = cc
no_data q n k (Some r) e = cc

data_stage : (d : DiskState) (q n : ℕ) (c : Command) (done : ℕ) (bytes : List ℕ) (sent : ℕ) (st : Stage)
    → Some (out.Data q n) ≡ out_at d q (Some (at c done bytes sent st)) → is_ended st ≡ false
data_stage d q n c done bytes sent stage.Ended e = absurd (no_data q n q (reply_at d q (at c done bytes sent stage.Ended)) e)
data_stage d q n c done bytes sent st e = refl

data_under_way : (d : DiskState) (q n : ℕ) (x : Option Moment) → Some (out.Data q n) ≡ out_at d q x → is_under_way x ≡ true
data_under_way d q n None e = absurd (cc)
data_under_way d q n (Some m) e = ap not (data_stage d q n m.command m.done m.bytes m.sent m.stage e)

-- Data are of a command that is under way
pub data_taken : (d : DiskState) (q n : ℕ) → IsOut d (Some (out.Data q n)) → is_taken (commands d) q ≡ true
data_taken d q n goes = data_under_way d q n (command_at (commands d) q) goes.3

-- and so is an end
pub end_taken : counts.Laws → OutsAreUnderWay → (p : Profile) (limit : ℕ) (calls : List Call) (o : Out) (place : ℕ) → AreCalls (new_disk p limit) calls
    → IsOut (reached p limit calls) (Some o) → EndsWell o place → is_taken (commands (reached p limit calls)) place ≡ true
end_taken laws outs p limit calls (out.Ends tags) place are goes well =
    (ends_it laws p limit calls tags place well.0 (calls_both calls (Sends (out.Ends tags) ∷ []) (new_disk p limit) are (goes, tt)) well.1).was
end_taken laws outs p limit calls (out.Of q replies.Done) place are goes well =
    ap (λ (k : ℕ). is_taken (commands (reached p limit calls)) k) (sym well) ∙ outs p limit calls q replies.Done are goes
end_taken laws outs p limit calls o place are goes well = absurd well

-- ---- what was given

-- all sectors of a read that earned its end were given
pub has_given : (g : Page) (s : ℕ) → ReadIsEarned g.command g.ledger → covers g.command.lba g.command.count s ≡ true → HasGiven g s
has_given g s earned covered =
    let both = and_parts (nat_le g.command.lba s) (nat_lt s (g.command.lba + g.command.count)) covered in
    let least = leb-true g.command.lba s both.0 in
    let most = ltb-true s (g.command.lba + g.command.count) both.1 in
    let all = earned.all in
    record { first = least; last = omega (arith, least, most, all) }
