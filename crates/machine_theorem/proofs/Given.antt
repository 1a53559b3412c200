-- The command under a tag is the one that was supplied for the slot of this number, and the Data of it are its.
use Rattle.std.proofs.Common.{◌≡◌, ℕ, ◌+◌, ◌<◌, ◌≤◌, Bool, true, false, List, [], ◌∷◌, ◌++◌, drop, length, Option, Some, None, refl, sym, ap, subst}
use Rattle.std.proofs.{Common.{◌∙◌, arith, All}, lemmas.{Bool.{false≢true, lt-ltb, eq-eqb}, List.Elements.{All-cons, All-head, All-nil, All-tail}}}
use Rattle.std.specs.Prelude.{nat_lt, if◌then◌else◌}
use Rattle.fis_view.specs.Frames.{Stamped}
use Rattle.slots.specs.Slots.{holds, issue_at}
use Rattle.block_command.specs.Moments.{Moment}
use Rattle.block_disk.specs.{Laws.Page, Table.is_under_way}
use Rattle.block_queue.specs.Line.{command_at}
use Rattle.hba_laws.proofs.Door.{held}
use Rattle.disk_pages.specs.declared.profile.Profile.{Profile}
use Rattle.sata_disk.specs.{Sending.{IsOut, part_at}, State.{DiskState, commands, new_disk, is_taken}, declared.out.Out.Out}
use Rattle.sata_disk.specs.declared.out.Out.TheVariants as out
use Rattle.sata_disk_books.specs.Books as books
use Rattle.sata_disk_books.specs.Books.{AreNext, AreOfPage, page_in}
use Rattle.sata_disk_laws.specs.{Calls.{AreCalls, Call, Sends}, Laws.reached, Once.{Host, IsDataAt, IsOutDue, IsQueued, host_of, new_host}}
use Rattle.sata_disk_laws.proofs.Door.{calls_both}
use Rattle.ahci_machine.specs.{States.{MachineState, bay_at}, declared.bay.Unit.TheVariants.Disk}
use Rattle.ahci_machine.specs.declared.act.Act.TheVariants as act
use Rattle.machine_laws.specs.{Deeds.{Does, Moved}, Rising.{CarriesPart, DataCarryParts, sent_by}, Disks.calls_at}
use Rattle.machine_theorem.specs.{Given.{CommandsAreGiven, DataAreGiven, IsGiven, IsGivenData, IsWhole}, Orders.is_sent_of, Tags.ended_with}
use Rattle.machine_theorem.specs.Tags.{heard_with, once_if}
use Rattle.machine_theorem.proofs.{AtOrder.{AtOrder, LastOrder, at_order, last_order}, AtEnd.{IsThere, is_there}, EndsFew.disk_same, AsSupplied.Laws}
use Rattle.machine_theorem.proofs.{AsSupplied.supplied_at, Stretch.{Stretch, asked, calls, counts, falls, has_disk, orders, own, stands, was_free}}
use Rattle.machine_theorem.proofs.{Stretch.whole_run, TagCounts.{Counted, Since, all_heard, counted, due_at, under_way_held}, TagKept.held_at}
use Rattle.machine_theorem.proofs.TagPages.{page_same}
use Rattle.machine_theorem.proofs.TagCounts as counts

-- ---- the command

pub record Numbers (a o f e : ℕ) : Type 0 where
  pub asked : a ≡ e + 1
  pub orders : o ≡ e + 1
  pub falls : f ≤ e

-- e ended of h that were heard, the last of which is under way
numbers : (h a o f s e front later : ℕ) → h ≡ front + (1 + later) → e ≤ front → h ≤ a → a ≤ o → o ≤ f + s → s ≤ 1 → f ≤ e → Numbers a o f e
numbers h a o f s e front later p1 p2 p3 p4 p5 p6 p7 = record {
  asked = omega (arith, p1, p2, p3, p4, p5, p6, p7);
  orders = omega (arith, p1, p2, p3, p4, p5, p6, p7);
  falls = p7;
}

sent_one : (s : Stretch) → stands s ≡ 1 → holds (is_sent_of (own s)) (issue_at s.now.controller.core.slots s.tag) ≡ true
sent_one s one = by (holds (is_sent_of (own s)) (issue_at s.now.controller.core.slots s.tag)) refl
  where
    by : (b : Bool) → holds (is_sent_of (own s)) (issue_at s.now.controller.core.slots s.tag) ≡ b → b ≡ true
    by true e = refl
    by false e = absurd (let none : stands s ≡ 0 = ap once_if e in omega (arith, none, one))

-- as a command is under way
pub counted_now : Laws → (s : Stretch) (d : DiskState) → (bay_at s.now s.n).unit ≡ Disk d → (m : Moment) → command_at (commands d) s.tag ≡ Some m → is_under_way (Some m) ≡ true
    → Numbers (length (asked s)) (orders s) (falls s) (ended_with s.tag (calls s))
counted_now laws s d there m is going =
    let disk = has_disk laws.end.slots s in
    let same : d ≡ reached s.p s.limit (s.base ++ calls s) = disk_same d (reached s.p s.limit (s.base ++ calls s)) (sym there ∙ disk.there) in
    let q : Counted s.p s.limit s.base s.tag (calls s) = counted s.p s.limit s.base s.tag laws.end.slots.tags s.low (calls s) disk.are (was_free s) in
    let held_now = ap (λ (x : DiskState). held_at (commands x) s.tag) (sym same) ∙ under_way_held (commands d) s.tag m is going in
    let since : Since s.p s.limit s.base s.tag (calls s) m.command = q.since m.command held_now in
    let k = counts laws.end.slots s in
    numbers (heard_with s.tag (calls s)) (length (asked s)) (orders s) (falls s) (stands s) (ended_with s.tag (calls s)) (heard_with s.tag since.front) (heard_with s.tag since.asked.later)
    (all_heard s.p s.limit s.base s.tag (calls s) m.command since) since.behind k.heard k.asked k.ordered k.one k.fallen

pub given : Laws → (s : Stretch) (d : DiskState) → (bay_at s.now s.n).unit ≡ Disk d → (m : Moment) → command_at (commands d) s.tag ≡ Some m → is_under_way (Some m) ≡ true
    → IsGiven s.many s.n s.tag s.old s.before s.at s.first s.deeds s.now s.run s.p s.limit s.base m.command
given laws s d there m is going =
    let slots = laws.end.identity s.ports s.legacy s.old s.opening s.before s.at s.first s.many s.n s.tag s.below s.low s.rest s.deeds s.now s.run s.linked s.lasts s.keeps s.p s.limit s.base s.are s.same
    d there m is going in
    let e : ℕ = ended_with s.tag (calls s) in
    let n = counted_now laws s d there m is going in
    let some = n.asked in
    let o : LastOrder s = last_order laws.end s (omega (arith, some)) in
    let of : AtOrder s o = at_order laws.end laws.orders s o e n.asked n.orders n.falls in
    let issue = held (is_sent_of (own s)) (issue_at s.now.controller.core.slots s.tag) (sent_one s slots.stands) in
    let whole : IsWhole s.old s.before s.at s.first s.deeds s.now s.run = whole_run s.before s.old s.at s.first s.deeds s.now s.run in
    record {
      slots = slots;
      dev = o.dev;
      order = o.fis;
      ordered = of.ordered;
      heard = of.is slots.front slots.asked.bytes slots.last;
      alone = of.alone;
      whole = whole;
      supplied = supplied_at laws s issue.0 issue.1 whole o.dev o.fis (record { before = of.ordered.before; later = of.ordered.later; is = of.ordered.is; alone = of.alone });
    }

-- ---- its Data

queued_by : (h : Host) (tag : ℕ) (b : Bool) → nat_lt tag 32 ≡ b → tag < 32 → IsDataAt h tag b → IsQueued h tag
queued_by h tag true e low due = due
queued_by h tag false e low due = absurd (false≢true (sym e ∙ lt-ltb tag 32 low))

-- a disk that sends Data of a tag next has a command under way there
pub taken_data : counts.Laws → (p : Profile) (limit : ℕ) (done : List Call) (tag len : ℕ) → tag < 32 → AreCalls (new_disk p limit) done
    → IsOut (reached p limit done) (Some (out.Data tag len))
    → is_taken (commands (reached p limit done)) tag ≡ true
taken_data laws p limit done tag len low are goes =
    let x : Call = Sends (out.Data tag len) in
    let due = due_at done x new_host (laws.single p limit (done ++ x ∷ []) (calls_both done (x ∷ []) (new_disk p limit) are (goes, tt))) in
    let queued : IsQueued (host_of new_host done) tag = queued_by (host_of new_host done) tag (nat_lt tag 32) refl low due in
    (laws.under_way p limit done are).queued tag low queued.2 ∙ queued.1

pub record HasNext (x : Option Page) (part : List ℕ) : Type 0 where
  pub page : Page
  pub is : x ≡ Some page
  pub next : AreNext page.ledger part

pub has_next : (x : Option Page) (part : List ℕ) → AreOfPage x part → HasNext x part
has_next None part next = absurd next
has_next (Some page) part next = record { page = page; is = refl; next = next }

each_next : (old : MachineState) (n place : ℕ) (d : DiskState) (page : Page) → (bay_at old n).unit ≡ Disk d → AreNext page.ledger (part_at (command_at (commands d) place))
    → (frames : List Stamped) → All (CarriesPart old n place) frames → All (λ f. AreNext page.ledger (drop 4 f.bytes)) frames
each_next old n place d page there next [] all = All-nil (λ f. AreNext page.ledger (drop 4 f.bytes))
each_next old n place d page there next (f ∷ later) all =
    let it = All-head (CarriesPart old n place) f later all in
    let same : it.disk ≡ d = disk_same it.disk d (sym it.there ∙ there) in
    let part : drop 4 f.bytes ≡ part_at (command_at (commands d) place) = it.part ∙ ap (λ (x : DiskState). part_at (command_at (commands x) place)) same in
    All-cons (λ f. AreNext page.ledger (drop 4 f.bytes)) f later (subst (AreNext page.ledger) (sym part) next)
    (each_next old n place d page there next later (All-tail (CarriesPart old n place) f later all))

-- what the disk sends is of a command that is open
pub out_due : Laws → (s : Stretch) (o : Out) (new : MachineState) → Does s.now (Moved (act.Speaks s.n o)) new → IsOutDue (host_of new_host (s.base ++ calls s)) o
out_due laws s o new does =
    let x : Call = Sends o in
    let done : List Call = s.base ++ calls s in
    let d : DiskState = reached s.p s.limit done in
    let disk = has_disk laws.end.slots s in
    let on = laws.end.slots.falling.disks s.now (Moved (act.Speaks s.n o)) new does s.n d disk.there refl in
    let one : calls_at s.now (Moved (act.Speaks s.n o)) s.n ≡ x ∷ [] = ap (λ (b : Bool). if b then x ∷ [] else []) (eq-eqb s.n s.n refl) in
    let are : AreCalls (new_disk s.p s.limit) (done ++ x ∷ []) = calls_both done (x ∷ []) (new_disk s.p s.limit) disk.are (subst (λ (l : List Call). AreCalls d l) one on.are) in
    due_at done x new_host (laws.end.slots.tags.single s.p s.limit (done ++ x ∷ []) are)

-- and under way
pub queued_now : Laws → (s : Stretch) (len : ℕ) (new : MachineState) → Does s.now (Moved (act.Speaks s.n (out.Data s.tag len))) new
    → IsThere (command_at (commands (reached s.p s.limit (s.base ++ calls s))) s.tag)
queued_now laws s len new does =
    let done : List Call = s.base ++ calls s in
    let due = out_due laws s (out.Data s.tag len) new does in
    let queued : IsQueued (host_of new_host done) s.tag = queued_by (host_of new_host done) s.tag (nat_lt s.tag 32) refl s.low due in
    is_there (command_at (commands (reached s.p s.limit done)) s.tag)
    ((laws.end.slots.tags.under_way s.p s.limit done (has_disk laws.end.slots s).are).queued s.tag s.low queued.2 ∙ queued.1)

pub given_data : Laws → books.DataAreGiven → DataCarryParts → (s : Stretch) (len : ℕ) (new : MachineState) (does : Does s.now (Moved (act.Speaks s.n (out.Data s.tag len))) new)
    → IsGivenData s.many s.n s.tag len s.old s.before s.at s.first s.deeds s.now s.run s.p s.limit s.base new does
given_data laws law carry s len new does =
    let h = does.does.does.1 in
    let done : List Call = s.base ++ calls s in
    let d : DiskState = reached s.p s.limit done in
    let disk = has_disk laws.end.slots s in
    let same : h.disk ≡ d = disk_same h.disk d (sym h.there ∙ disk.there) in
    let goes : IsOut d (Some (out.Data s.tag len)) = subst (λ (x : DiskState). IsOut x (Some (out.Data s.tag len))) same h.next in
    let it = queued_now laws s len new does in
    let p = has_next (page_in s.p s.limit done s.tag) (part_at (command_at (commands d) s.tag))
    (law s.p s.limit done s.tag len disk.are goes) in
    let command = page_same s.p s.limit done s.tag it.moment.command p.page (under_way_held (commands d) s.tag it.moment it.is it.going) p.is in
    record {
      page = p.page;
      books = p.is;
      given = subst (λ c. IsGiven s.many s.n s.tag s.old s.before s.at s.first s.deeds s.now s.run s.p s.limit s.base c) (sym command) (given laws s d disk.there it.moment it.is it.going);
      next = each_next s.now s.n s.tag d p.page disk.there p.next (sent_by s.now (Moved (act.Speaks s.n (out.Data s.tag len))) new does) (carry s.now s.n s.tag len new does);
    }

-- ---- the laws

pub commands_are : Laws → CommandsAreGiven
commands_are laws ports legacy old opening before at first many n tag below low rest deeds now run linked lasts keeps p limit base are same d there m is going =
    given laws (record {
      ports = ports;
      legacy = legacy;
      old = old;
      opening = opening;
      before = before;
      at = at;
      first = first;
      many = many;
      n = n;
      tag = tag;
      below = below;
      low = low;
      rest = rest;
      deeds = deeds;
      now = now;
      run = run;
      linked = linked;
      lasts = lasts;
      keeps = keeps;
      p = p;
      limit = limit;
      base = base;
      are = are;
      same = same;
    }) d there m is going

pub data_are : Laws → books.DataAreGiven → DataCarryParts → DataAreGiven
data_are laws law carry ports legacy old opening before at first many n tag below low rest deeds now run linked lasts keeps p limit base are same len new does =
    given_data laws law carry (record {
      ports = ports;
      legacy = legacy;
      old = old;
      opening = opening;
      before = before;
      at = at;
      first = first;
      many = many;
      n = n;
      tag = tag;
      below = below;
      low = low;
      rest = rest;
      deeds = deeds;
      now = now;
      run = run;
      linked = linked;
      lasts = lasts;
      keeps = keeps;
      p = p;
      limit = limit;
      base = base;
      are = are;
      same = same;
    }) len new does
