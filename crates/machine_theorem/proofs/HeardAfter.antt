-- The disk heard a read behind the end of a write. As many commands of the read's tag ended before a moment as FISes with the tag were heard before the write
-- ended, so the one that asked for what is under way at this moment is none of these.
use Rattle.std.proofs.Common.{◌≡◌, ℕ, ◌+◌, ◌<◌, ◌≤◌, true, List, [], ◌∷◌, ◌++◌, append_assoc, Some, sym, ap, subst, ◌∙◌, arith}
use Rattle.fis_view.specs.Frames.{Stamped}
use Rattle.block_command.specs.declared.command.Command.{Command}
use Rattle.block_queue.specs.Line.{command_at}
use Rattle.sata_disk.specs.State.{DiskState, commands, is_taken, new_disk}
use Rattle.sata_disk.specs.declared.out.Out.TheVariants as out
use Rattle.sata_disk_laws.specs.{Calls.{AreCalls, Call, Hears, Sends}, Laws.reached}
use Rattle.sata_disk_media.specs.{Cells.covers, Laws.{AreSparing, IsBehindWrite, IsTakenAt, UndisturbedIsSpared}, Media.IsHonest}
use Rattle.ahci_machine.specs.States.{MachineState}
use Rattle.machine_laws.specs.{ControllerLaws.RunsRuled, Deeds.Deed, Falling.{AllLast, HasLink}}
use Rattle.machine_theorem.specs.{Completions.IsDone, FirstDeeds.{first_deeds, first_run, machine_at}, Identity.{AllKeep, IsAtRest, calls_of, own_of}}
use Rattle.machine_theorem.specs.{ReadBack.IsUntouched, Tags.{ended_with, heard_with, once_if}}
use Rattle.machine_theorem.proofs.{EndsFew.disk_same, FirstDeeds.{Fell, calls_to, falls_to, keeps_to, lasts_to, linked_to, orders_to}}
use Rattle.machine_theorem.proofs.{HeardBehind.{heard_behind, honest_first, spared, taken_at}, Stretch.{Fall, Stretch, calls, counts, falls}}
use Rattle.machine_theorem.proofs.{Stretch.{has_disk, was_free}, TagCounts.{Counted, Since, counted, held_of_taken, one_call_more}, TagKept.held_at}
use Rattle.machine_theorem.proofs.{TheirSlots.EndsIn, TheSlots.Laws}

-- ---- stretches

-- of another run of the guest, from the same beginning
abbrev pub over : (s : Stretch) → (deeds : List Deed) → (now : MachineState) → (run : RunsRuled s.at deeds now) → HasLink deeds → AllLast s.n s.at deeds now run
    → AllKeep s.many s.n s.tag s.at deeds now run → Stretch
over s deeds now run linked lasts keeps = record s { deeds = deeds; now = now; run = run; linked = linked; lasts = lasts; keeps = keeps }

-- its first deeds
abbrev pub to : Stretch → ℕ → Stretch
to s k = over s (first_deeds k s.deeds) (machine_at k s.at s.deeds s.now s.run) (first_run k s.at s.deeds s.now s.run) (linked_to k s.deeds s.linked)
    (lasts_to s.n k s.deeds s.at s.now s.run s.lasts) (keeps_to s.many s.n s.tag k s.deeds s.at s.now s.run s.keeps)

-- of another tag
abbrev pub with_tag : (s : Stretch) → (tag : ℕ) → tag < 32 → IsAtRest s.many s.n tag s.old s.before s.at s.first
    → AllKeep s.many s.n tag s.at s.deeds s.now s.run
    → Stretch
with_tag s tag low rest keeps =
    record s { tag = tag; low = low; rest = rest; keeps = keeps; same = disk_same rest.disk s.rest.disk (sym rest.there ∙ s.rest.there) ∙ s.same }

-- a beginning of it
pub record Part (s : Stretch) : Type 0 where
  pub deeds : List Deed
  pub now : MachineState
  pub run : RunsRuled s.at deeds now
  pub linked : HasLink deeds
  pub lasts : AllLast s.n s.at deeds now run
  pub keeps : AllKeep s.many s.n s.tag s.at s.deeds s.now s.run → AllKeep s.many s.n s.tag s.at deeds now run
  pub last : List Call
  pub split : calls s ≡ calls_of s.n s.at deeds now run ++ last

abbrev pub part : (s : Stretch) → Part s → Stretch
part s v = over s v.deeds v.now v.run v.linked v.lasts (v.keeps s.keeps)

-- where the bit of the write's slot falls
abbrev pub fall : (s : Stretch) → (r : ℕ) → (k : ℕ) → (f : Stamped) → Fell (own_of s.many s.n) s.tag r f k s.at s.deeds s.now s.run → Fall (to s k)
fall s r k f it = record {
  took = it.took;
  new = it.next;
  does = it.does;
  rules = it.rules;
  shows = it.falls.shows;
  hides = it.falls.hides;
  issue = it.falls.issue;
  is = it.falls.is;
  mine = it.falls.mine;
}

-- ---- what is heard

-- s is the stretch of the write's tag, u of the read's; the write ended within the first deeds of it, and behind them slot r is free; v is a beginning of u, in
-- which no fewer commands of the tag ended than its bit falls in u, and at whose end one is under way
module _ (laws : Laws) (undisturbed : UndisturbedIsSpared) (s : Stretch) (r : ℕ) (low : r < 32) (rest : IsAtRest s.many s.n r s.old s.before s.at s.first)
    (keeps : AllKeep s.many s.n r s.at s.deeds s.now s.run) (k : ℕ) (f : Stamped) (it : Fell (own_of s.many s.n) s.tag r f k s.at s.deeds s.now s.run)
    (end : Stamped) (done : IsDone s.many s.n s.tag s.old s.before s.at s.first (to s k).deeds (to s k).now (to s k).run s.p s.limit s.base end)
    (ends : EndsIn (to s k) end done) (honest : IsHonest s.p s.limit (s.base ++ calls s)) (t : Part (with_tag s r low rest keeps))
    (few : falls (with_tag s r low rest keeps) ≤ ended_with r (calls (part (with_tag s r low rest keeps) t)))
    (was : is_taken (commands (reached s.p s.limit (s.base ++ calls (part (with_tag s r low rest keeps) t)))) r ≡ true) where
  abbrev u : Stretch
  u = with_tag s r low rest keeps

  abbrev v : Stretch
  v = part u t

  abbrev first : List Call
  first = calls_of s.n s.at done.end.before done.end.moment done.end.first

  abbrev x : Call
  x = Sends (out.Ends done.end.tags)

  -- no more FISes with the tag were heard until the write ended than commands of it ended until the moment
  few_heard : heard_with r first ≤ ended_with r (calls v)
  few_heard =
      let e : Stretch = over u done.end.before done.end.moment done.end.first ends.linked ends.lasts
      (ends.keeps r (keeps_to s.many s.n r k s.deeds s.at s.now s.run keeps)) in
      let y : Stretch = to u it.behind in
      let ce = counts laws e in
      let cy = counts laws y in
      let a = ce.heard in
      let b = ce.asked in
      let g = ends.few (own_of s.many s.n) r in
      let h = orders_to (own_of s.many s.n) r k it.behind it.more s.deeds s.at s.now s.run in
      let i = cy.ordered in
      let free = it.free in
      let j = falls_to (own_of s.many s.n) r it.behind s.deeds s.at s.now s.run in
      omega (arith, a, b, g, h, i, free, j, few)

  pub record Heard : Type 0 where
    pub command : Command
    pub held : held_at (commands (reached s.p s.limit (s.base ++ calls v))) r ≡ Some command
    pub since : Since s.p s.limit s.base r (calls v) command
    pub most : heard_with r (calls v) ≤ ended_with r (calls v) + 1
    pub middle : List Call
    pub is : since.front ≡ first ++ x ∷ middle

  pub heard : Heard
  heard =
      let disk = has_disk laws v in
      let held = held_of_taken (command_at (commands (reached s.p s.limit (s.base ++ calls v))) r) was in
      let q : Counted s.p s.limit s.base r (calls v) = counted s.p s.limit s.base r laws.tags low (calls v) disk.are (was_free u) in
      let since : Since s.p s.limit s.base r (calls v) held.0 = q.since held.0 held.1 in
      let cv = counts laws v in
      let a = cv.heard in
      let b = cv.asked in
      let d = cv.ordered in
      let e = cv.fallen in
      let g = cv.one in
      let hears : Call = Hears since.asked.bytes in
      let more = calls_to s.n k s.deeds s.at s.now s.run in
      let one : calls s ≡ first ++ x ∷ (ends.more ++ more.0) =
      more.1 ∙ ap (λ (l : List Call). l ++ more.0) ends.split ∙ append_assoc first (x ∷ ends.more) more.0 in
      let two : calls s ≡ since.front ++ hears ∷ (since.asked.later ++ t.last) =
      t.split ∙ ap (λ (l : List Call). l ++ t.last) since.split ∙ append_assoc since.front (hears ∷ since.asked.later) t.last in
      let fewer = few_heard in
      let behind = since.behind in
      let at = heard_behind r since.asked.bytes (ap once_if since.named) (out.Ends done.end.tags) first since.front (ends.more ++ more.0)
      (since.asked.later ++ t.last) (sym one ∙ two) (omega (arith, fewer, behind)) in
      record { command = held.0; held = held.1; since = since; most = omega (arith, a, b, d, e, g); middle = at.0; is = at.1 }

  -- ---- so it is behind the write

  pub record Behind : Type 0 where
    pub since : List Call
    pub is : s.base ++ calls v ≡ (s.base ++ first ++ x ∷ []) ++ since
    pub are : AreCalls (new_disk s.p s.limit) (s.base ++ calls v)
    pub true_then : IsHonest s.p s.limit (s.base ++ calls v)
    pub behind : (sector : ℕ) → done.page.command.write ≡ true → covers done.page.command.lba done.page.command.count sector ≡ true
        → IsUntouched s.p s.limit (s.base ++ first ++ x ∷ []) since sector → IsBehindWrite s.p s.limit (s.base ++ calls v) r sector done.page

  pub behind_of : Heard → Behind
  behind_of h =
      let bytes = h.since.asked.bytes in
      let last : List Call = h.since.asked.later in
      let all : List Call = s.base ++ calls v in
      let front_is : s.base ++ h.since.front ≡ (s.base ++ first) ++ x ∷ h.middle =
      ap (λ (l : List Call). s.base ++ l) h.is ∙ sym (append_assoc s.base first (x ∷ h.middle)) in
      let is : all ≡ ((s.base ++ first) ++ x ∷ h.middle) ++ Hears bytes ∷ last =
      ap (λ (l : List Call). s.base ++ l) h.since.split ∙ sym (append_assoc s.base h.since.front (Hears bytes ∷ last))
      ∙ ap (λ (l : List Call). l ++ Hears bytes ∷ last) front_is in
      let parts : all ≡ (s.base ++ first ++ x ∷ []) ++ (h.middle ++ Hears bytes ∷ last) =
      is ∙ append_assoc (s.base ++ first) (x ∷ h.middle) (Hears bytes ∷ last)
      ∙ sym (append_assoc (s.base ++ first) (x ∷ []) (h.middle ++ Hears bytes ∷ last)) in
      let are : AreCalls (new_disk s.p s.limit) all = (has_disk laws v).are in
      record {
        since = h.middle ++ Hears bytes ∷ last;
        is = parts;
        are = are;
        true_then = honest_first s.p s.limit all t.last
            (subst (IsHonest s.p s.limit) (ap (λ (l : List Call). s.base ++ l) t.split ∙ sym (append_assoc s.base (calls v) t.last)) honest);
        behind = λ sector writes covered untouched. record {
          first = s.base ++ first;
          end = out.Ends done.end.tags;
          middle = h.middle;
          bytes = bytes;
          last = last;
          is = is;
          from = s.tag;
          ends = (s.low, done.end.named);
          page = done.books;
          writes = writes;
          covered = covered;
          taken = subst (λ (l : List Call). IsTakenAt (reached s.p s.limit l) bytes r) front_is
              (taken_at laws.tags s.p s.limit s.base r low (was_free u) (calls v) h.command are h.since h.most);
          sparing = (
            tt,
            subst (λ (d : DiskState). AreSparing d sector (h.middle ++ Hears bytes ∷ last)) (one_call_more s.p s.limit (s.base ++ first) x)
                (spared undisturbed s.p s.limit (s.base ++ first ++ x ∷ []) (h.middle ++ Hears bytes ∷ last) sector
                (subst (AreCalls (new_disk s.p s.limit)) parts are) untouched),
          );
        };
      }
