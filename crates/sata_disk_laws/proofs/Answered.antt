-- Each call of a disk keeps what its host has open and what the disk is alike, and each FIS is due.
use Rattle.std.proofs.{Common.{◌≡◌, ℕ, ◌<◌, true, false, Some, None, refl, sym, ap, ◌∙◌, subst, arith, inl, inr}, lemmas.Bool.{and_right, cases_lt}}
use Rattle.std.proofs.lemmas.Bool.{lt-ltb}
use Rattle.std.specs.Prelude.{Option, Bool, not, ◌&&◌}
use Rattle.block_command.specs.{declared.command.Stage.{Stage, TheVariants.End}, Moments.{Moment, turn_of}, Laws.Goes}
use Rattle.block_disk.specs.Table.{is_under_way}
use Rattle.block_queue.specs.Line.{IsLine, Line, command_at, has_bit}
use Rattle.block_scheduler.specs.{Sets.{IsTagsOf, ends_at, is_end, turn_at}, Schedule.IsNextFis}
use Rattle.block_scheduler.specs.declared.scheduler.NextFis.TheVariants as fis
use Rattle.block_engine.specs.declared.aside.AsideStage.{AsideStage}
use Rattle.ata_reply.specs.declared.reply.Reply.TheVariants as replies
use Rattle.ata_front.specs.{Fronts.owed, declared.{front.Front.Front, task.Task.Task}}
use Rattle.ata_front.specs.declared.task.Task.TheVariants as tasks
use Rattle.sata_disk.specs.{State.{DiskState, commands, is_taken}, Sending.{IsOut, after_sent}}
use Rattle.sata_disk.specs.declared.out.Out.TheVariants as out
use Rattle.sata_disk_laws.specs.Once.{Host, IsDue, out_got, tags_closed}
use Rattle.sata_disk_laws.proofs.{Over.{AreEnded, all_ended}, Speaks.queued_idle, Tracks.{FitsPlace, LoneTags, NoTags, SameTags, TagsAs, Tracks}}
use Rattle.sata_disk_laws.proofs.Tracks.{WaitsAs, fits_then}
use Rattle.sata_disk_laws.proofs.Over as ends

abbrev pub Knows : Host → DiskState → Type 0
Knows h d = Tracks h d.front d.engine.stage (commands d)

-- ## The ends of queued commands

free_is : (l : Line) (w : Option ℕ) (tags : ℕ) → IsNextFis l w (Some (fis.Ends tags)) → (w ≡ None) × IsTagsOf tags (ends_at l)
free_is l None tags is = (refl, is.0)
free_is l (Some h) tags is = absurd is

end_alive : (m : Moment) (stage : Stage) → m.stage ≡ stage → is_end (turn_of stage) ≡ true → is_under_way (Some (record m { stage = stage })) ≡ true
end_alive m End e is = refl
end_alive m stage e is = absurd (cc)

ends_alive : (x : Option Moment) → is_end (turn_at x) ≡ true → is_under_way x ≡ true
ends_alive None e = absurd (cc)
ends_alive (Some m) e = end_alive m m.stage refl e

module _ (l k : Line) (a : AreEnded l k 32) where
  ended_fits : ((p : ℕ) → p < 33 → FitsPlace p (command_at l p)) → (p : ℕ) → p < 33 → (b : Bool) → ends_at l p ≡ b → FitsPlace p (command_at k p)
  ended_fits fits p low false e = let P : Option Moment → Type 0 = λ x. FitsPlace p x in subst P (sym (a.others p low (inr e))) (fits p low)
  ended_fits fits p low true e =
      let P : Option Moment → Type 0 = λ x. FitsPlace p x in
      elim (cases_lt p 32) [
        | inl below ↦ subst P (sym (a.ended p low below e)) (fits_then p (command_at l p) Goes (fits p low))
        | inr high ↦ subst P (sym (a.others p low (inl high))) (fits p low)
      ]

  ended_taken : (t : ℕ) → t < 32 → (b : Bool) → ends_at l t ≡ b → is_taken k t ≡ (not b && is_taken l t)
  ended_taken t low true e = ap is_under_way (a.ended t (omega (arith, low)) low e) ∙ ends.is_over (command_at l t) e
  ended_taken t low false e = ap is_under_way (a.others t (omega (arith, low)) (inr e))

  -- the host closes what ended
  same_closed : (h : Host) (tags : ℕ) → IsTagsOf tags (ends_at l) → (t : ℕ) → t < 32 → tags_closed h.open_at tags t ≡ (not (ends_at l t) && h.open_at t)
  same_closed h tags of' t low =
      ap (λ b. not (b && has_bit tags t) && h.open_at t) (lt-ltb t 32 low) ∙ ap (λ b. not b && h.open_at t) (of' t low)

  same_ended : (h : Host) (tags : ℕ) → IsTagsOf tags (ends_at l) → SameTags h l → SameTags (record h { open_at = tags_closed h.open_at tags }) k
  same_ended h tags of' same = λ t low.
      ended_taken t low _ refl ∙ ap (λ b. not (ends_at l t) && b) (same t low) ∙ sym (same_closed h tags of' t low)

  lone_ended : (h : Host) (tags : ℕ) → IsTagsOf tags (ends_at l) → LoneTags h l → LoneTags (record h { open_at = tags_closed h.open_at tags }) k
  lone_ended h tags of' lone = λ t low. (
    ended_taken t low _ refl ∙ and_right (not (ends_at l t)) (is_taken l t) (lone t low).0,
    same_closed h tags of' t low ∙ and_right (not (ends_at l t)) (h.open_at t) (lone t low).1,
  )

  no_ended : NoTags l → NoTags k
  no_ended none = λ t low. ended_taken t low _ refl ∙ and_right (not (ends_at l t)) (is_taken l t) (none t low)

  tags_ended : (h : Host) (tags : ℕ) (t : Task) → owed t ≡ None → IsTagsOf tags (ends_at l) → TagsAs h t l
      → TagsAs (record h { open_at = tags_closed h.open_at tags }) t k
  tags_ended h tags tasks.Idle free of' is = same_ended h tags of' is
  tags_ended h tags (tasks.Owes r) free of' is = absurd (cc)
  tags_ended h tags t free of' is = lone_ended h tags of' is

  waits_ended : (h : Host) (tags : ℕ) (t : Task) → owed t ≡ None → WaitsAs h t (command_at l 32)
      → WaitsAs (record h { open_at = tags_closed h.open_at tags }) t (command_at l 32)
  waits_ended h tags (tasks.Owes r) free is = absurd (cc)
  waits_ended h tags tasks.Idle free is = is
  waits_ended h tags t free is = is

  ended_tracks : (h : Host) (tags : ℕ) (f : Front) (s : AsideStage) → owed f.task ≡ None → IsTagsOf tags (ends_at l) → Tracks h f s l
      → Tracks (record h { open_at = tags_closed h.open_at tags }) f s k
  ended_tracks h tags f s free of' is =
      let P : Option Moment → Type 0 = λ x. WaitsAs (record h { open_at = tags_closed h.open_at tags }) f.task x in
      record {
        beside = is.beside;
        fits = λ p low. ended_fits is.fits p low _ refl;
        waits = subst P (sym (a.others 32 (omega arith) (inl (omega arith)))) (waits_ended h tags f.task free is.waits);
        tags = tags_ended h tags f.task free of' is.tags;
        reset = is.reset;
        idle = λ e. ((is.idle e).0, no_ended (is.idle e).1);
        faulty = λ e. no_ended (is.faulty e);
      }

pub ends_due : (h : Host) (d : DiskState) (tags : ℕ) → IsOut d (Some (out.Ends tags)) → IsLine (commands d) → Knows h d
    → IsDue h (replies.Ends tags) × Knows (out_got h (out.Ends tags)) (after_sent d (out.Ends tags))
ends_due h d tags is line' knows =
    let free = free_is (commands d) _ tags is.1.1 in (
      (λ t low has. let ended : ends_at (commands d) t ≡ true = sym (free.1 t low) ∙ has in
          (queued_idle h d.front d.engine.stage (commands d) t low (ends_alive (command_at (commands d) t) ended) is.0 knows).1),
      ended_tracks (commands d) _ (all_ended (commands d) 32 (omega arith) line' free.0) h tags d.front d.engine.stage is.0 free.1 knows,
    )
