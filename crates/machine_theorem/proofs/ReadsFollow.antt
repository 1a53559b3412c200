-- Read after write, as the guest sees it: a read that it sees completed.
use Rattle.std.proofs.Common.{◌≡◌, ℕ, ◌<◌, ◌≤◌, true, false, List, [], ◌∷◌, ◌++◌, append_assoc, sym, ap, subst, ◌∙◌, arith}
use Rattle.fis_view.specs.Frames.{Stamped}
use Rattle.block_command.specs.{declared.command.Command.Command, Laws.{IsEarned, ReadIsEarned}, Moments.is_verify}
use Rattle.sata_disk.specs.State.{commands, is_taken, new_disk}
use Rattle.sata_disk.specs.declared.out.Out.TheVariants as out
use Rattle.sata_disk_laws.specs.{Calls.{AreCalls, Call, Sends}, Laws.reached}
use Rattle.sata_disk_media.specs.{Cells.sector_of, Laws.{GivenIsWritten, UndisturbedIsSpared}, Media.IsHonest}
use Rattle.machine_theorem.specs.{Completions.IsDone, FirstDeeds.{first_deeds, first_run, machine_at}, Identity.{AllKeep, IsAtRest, calls_of, own_of}}
use Rattle.machine_theorem.specs.{ReadsFollow.{CompletedReadsFollowWrites, IsFollowed, IsFollowing}, Tags.ended_with, Writes.WritesAreSupplied}
use Rattle.machine_theorem.proofs.AsSupplied as supplied
use Rattle.machine_theorem.proofs.{FirstDeeds.{Fell, fell}, HeardAfter.{Part, behind_of, fall, heard, to, with_tag}, HeardBehind.taken_queued}
use Rattle.machine_theorem.proofs.{HeardSince.has_given, Stretch.{Fall, Stretch, calls, falls, has_disk, was_free}, TagCounts.{ends_it, first_calls}}
use Rattle.machine_theorem.proofs.{TagPages.page_same, TheirSlots.{EndsIn, ends_in, is_done}, WrittenSupplied.written_supplied}

module _ (laws : supplied.Laws) (given : GivenIsWritten) (undisturbed : UndisturbedIsSpared) (writes : WritesAreSupplied)
    (s : Stretch) (r : ℕ) (low : r < 32) (rest : IsAtRest s.many s.n r s.old s.before s.at s.first) (keeps : AllKeep s.many s.n r s.at s.deeds s.now s.run)
    (k : ℕ) (f : Stamped) (it : Fell (own_of s.many s.n) s.tag r f k s.at s.deeds s.now s.run) (end : Stamped)
    (done : IsDone s.many s.n s.tag s.old s.before s.at s.first (to s k).deeds (to s k).now (to s k).run s.p s.limit s.base end)
    (ends : EndsIn (to s k) end done) (honest : IsHonest s.p s.limit (s.base ++ calls s)) (finish : Stamped)
    (read : IsDone s.many s.n r s.old s.before s.at s.first s.deeds s.now s.run s.p s.limit s.base finish)
    (reads : EndsIn (with_tag s r low rest keeps) finish read) where
  abbrev u : Stretch
  u = with_tag s r low rest keeps

  abbrev here : List Call
  here = calls_of s.n s.at read.end.before read.end.moment read.end.first

  -- until the read ended
  abbrev until : Part u
  until = record {
    deeds = read.end.before;
    now = read.end.moment;
    run = read.end.first;
    linked = reads.linked;
    lasts = reads.lasts;
    keeps = λ all. reads.keeps r all;
    last = Sends (out.Ends read.end.tags) ∷ reads.more;
    split = reads.split;
  }

  -- its command was under way
  was : is_taken (commands (reached s.p s.limit (s.base ++ here))) r ≡ true
  was =
      let x : Call = Sends (out.Ends read.end.tags) in
      let all : s.base ++ calls u ≡ ((s.base ++ here) ++ x ∷ []) ++ reads.more =
      ap (λ (l : List Call). s.base ++ l) reads.split ∙ sym (append_assoc s.base here (x ∷ reads.more))
      ∙ sym (append_assoc (s.base ++ here) (x ∷ []) reads.more) in
      let are : AreCalls (new_disk s.p s.limit) ((s.base ++ here) ++ x ∷ []) =
      first_calls ((s.base ++ here) ++ x ∷ []) reads.more (new_disk s.p s.limit)
      (subst (AreCalls (new_disk s.p s.limit)) all (has_disk laws.end.slots u).are) in
      (ends_it laws.end.slots.tags s.p s.limit (s.base ++ here) read.end.tags r low are read.end.named).was

  follows : IsFollowing s.p s.limit (s.base ++ calls_of s.n s.at done.end.before done.end.moment done.end.first ++ Sends (out.Ends done.end.tags) ∷ [])
      (s.base ++ here) done.page read.page
  follows =
      let slots = laws.end.slots in
      let h = heard slots undisturbed s r low rest keeps k f it end done ends honest until reads.fell was in
      let b = behind_of slots undisturbed s r low rest keeps k f it end done ends honest until reads.fell was h in
      let command : read.page.command ≡ h.command = page_same s.p s.limit (s.base ++ here) r h.command read.page h.held read.books in
      let sends : is_verify read.page.command.protocol ≡ false =
      ap (λ (c : Command). is_verify c.protocol) command ∙ taken_queued slots.tags s.p s.limit s.base r low (was_free u) here h.command b.are h.since in
      record {
        since = b.since;
        is = b.is;
        same = λ is_write is_read sector covered has untouched.
            let earned : ReadIsEarned read.page.command read.page.ledger = subst (IsEarned read.page.command read.page.ledger) is_read read.earned in
            ap (sector_of read.page.command.lba sector) (earned.bytes sends)
            ∙ given s.p s.limit (s.base ++ here) r sector done.page read.page (omega (arith, low)) b.are b.true_then
            (b.behind sector is_write covered untouched) read.books (has_given read.page sector earned has);
      }

  -- No more bits of the write's slot fell until then than commands had ended before it.
  pub record Followed : Type 0 where
    pub all : IsFollowed s.many s.n s.tag r s.old s.before s.at s.first (to s k).deeds (to s k).now (to s k).run s.deeds s.now s.run s.p s.limit s.base end finish
    pub fell : falls (to s k) ≤ ended_with s.tag (calls_of s.n s.at all.written.end.before all.written.end.moment all.written.end.first)

  pub followed : Followed
  followed = record {
    all = record {
      written = done;
      supplied = λ new. written_supplied writes (to s k) end done (ends.keeps s.tag (to s k).keeps) new;
      read = read;
      follows = follows;
    };
    fell = ends.fell;
  }

pub reads_follow : supplied.Laws → GivenIsWritten → UndisturbedIsSpared → WritesAreSupplied → CompletedReadsFollowWrites
reads_follow laws given undisturbed writes ports legacy old opening before at first many n w r below w_low r_low rest rest_r deeds now run linked lasts
    keeps keeps_r p limit base are same honest k end fall_w took new does rules fell_r =
    let s : Stretch = record {
      ports = ports;
      legacy = legacy;
      old = old;
      opening = opening;
      before = before;
      at = at;
      first = first;
      many = many;
      n = n;
      tag = w;
      below = below;
      low = w_low;
      rest = rest;
      deeds = deeds;
      now = now;
      run = run;
      linked = linked;
      lasts = lasts;
      keeps = keeps;
      p = p;
      limit = limit;
      base = base;
      are = are;
      same = same;
    } in
    let u : Stretch = with_tag s r r_low rest_r keeps_r in
    let it : Fell (own_of many n) w r end k at deeds now run = fell (own_of many n) w r end k deeds at now run fall_w in
    let there_fall : Fall (to s k) = fall s r k end it in
    let last : Fall u = record {
      took = took;
      new = new;
      does = does;
      rules = rules;
      shows = fell_r.shows;
      hides = fell_r.hides;
      issue = fell_r.issue;
      is = fell_r.is;
      mine = fell_r.mine;
    } in
    subst (λ (x : Stamped). IsFollowed many n w r old before at first (first_deeds k deeds) (machine_at k at deeds now run)
    (first_run k at deeds now run) deeds now run p limit base x does.does.frame) it.frame
    (followed laws given undisturbed writes s r r_low rest_r keeps_r k end it there_fall.does.does.frame (is_done laws (to s k) there_fall)
    (ends_in laws (to s k) there_fall) honest does.does.frame (is_done laws u last) (ends_in laws u last)).all
