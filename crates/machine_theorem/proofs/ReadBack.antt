-- Read after write, as the guest sees it: the Data FIS that brings bytes for a read.
use Rattle.std.proofs.Common.{◌≡◌, ℕ, ◌<◌, true, List, [], ◌∷◌, ◌++◌, Some, sym, ap, subst, ◌∙◌}
use Rattle.std.specs.Prelude.{drop}
use Rattle.fis_view.specs.Frames.{Stamped}
use Rattle.hba_fbs.specs.declared.report.Wrote.{Wrote}
use Rattle.block_queue.specs.Line.{command_at}
use Rattle.sata_disk.specs.{Sending.{IsOut, part_at}, State.commands}
use Rattle.sata_disk.specs.declared.out.Out.TheVariants as out
use Rattle.sata_disk_laws.specs.{Calls.{Call, Sends}, Laws.reached}
use Rattle.sata_disk_media.specs.{Laws.{HasSector, ReadsBringWrites, UndisturbedIsSpared, sector_in}, Media.IsHonest}
use Rattle.ahci_machine.specs.States.{MachineState}
use Rattle.ahci_machine.specs.declared.act.Act.TheVariants as act
use Rattle.machine_laws.specs.{Deeds.{Deed, Does, Moved}, Disks.calls_at, Rising.sent_by}
use Rattle.machine_theorem.specs.{Completions.IsDone, FirstDeeds.{first_deeds, first_run, machine_at}, Identity.{AllKeep, IsAtRest, calls_of, own_of}}
use Rattle.machine_theorem.specs.{OwnSlots.{AllKeepLine, BeginsClear, is_of}, ReadBack.{GuestsReadBack, IfQueuedData, IsBack, IsReadBack}}
use Rattle.machine_theorem.specs.Writes.{WritesAreSupplied}
use Rattle.machine_theorem.proofs.AsSupplied as supplied
use Rattle.machine_theorem.proofs.{CameFirst.few_fell, EndsFew.disk_same, FirstDeeds.{Fell, fell}, Given.taken_data, HeardAfter.{Part, behind_of}}
use Rattle.machine_theorem.proofs.{HeardAfter.{fall, heard, part, to, with_tag}, OwnPlace.{IsFound, found_at, part_of, place_of, sends_of}}
use Rattle.machine_theorem.proofs.{ReadsOwn.brought_as, Stretch.{Fall, Stretch, calls, has_disk}, TheirSlots.{EndsIn, ends_in, is_done}}
use Rattle.machine_theorem.proofs.WrittenSupplied.{written_supplied}
use Rattle.machine_theorem.proofs.OwnPlace as places

-- ---- the moment of the Data

if_queued : (f : Stamped) (mid : MachineState) (deed : Deed) (next : MachineState) (does : Does mid deed next) (Holds : Type 0)
    → sent_by mid deed next does ≡ f ∷ []
    → ((k place len : ℕ) (does : Does mid (Moved (act.Speaks k (out.Data place len))) next)
    → sent_by mid (Moved (act.Speaks k (out.Data place len))) next does ≡ f ∷ [] → place < 32 → Holds)
    → IfQueuedData deed Holds
if_queued f mid (Moved (act.Speaks k (out.Data place len))) next does Holds sent holds = λ low. holds k place len does sent low
if_queued f mid (Moved (act.Speaks k o)) next does Holds sent holds = tt
if_queued f mid (Moved a) next does Holds sent holds = tt
if_queued f mid deed next does Holds sent holds = tt

module _ (laws : supplied.Laws) (own : places.Laws) (reads : ReadsBringWrites) (undisturbed : UndisturbedIsSpared) (writes : WritesAreSupplied)
    (s : Stretch) (r : ℕ) (low : r < 32) (rest : IsAtRest s.many s.n r s.old s.before s.at s.first) (keeps : AllKeep s.many s.n r s.at s.deeds s.now s.run)
    (k : ℕ) (f : Stamped) (it : Fell (own_of s.many s.n) s.tag r f k s.at s.deeds s.now s.run) (end : Stamped)
    (done : IsDone s.many s.n s.tag s.old s.before s.at s.first (to s k).deeds (to s k).now (to s k).run s.p s.limit s.base end)
    (ends : EndsIn (to s k) end done) (honest : IsHonest s.p s.limit (s.base ++ calls s)) (c dev : ℕ) (begins : BeginsClear s.n c dev s.at)
    (line : AllKeepLine s.many s.n c dev s.at s.deeds s.now s.run) (data' : Stamped) (wrote : Wrote) (mine : is_of s.n c data' ≡ true)
    (named : wrote.slot ≡ r) (found : IsFound s.many s.n c dev s.at s.deeds s.now s.run data' wrote) where
  abbrev u : Stretch
  u = with_tag s r low rest keeps

  -- until then
  abbrev until : Part u
  until = record {
    deeds = found.found.cut.sooner;
    now = found.found.cut.mid;
    run = found.found.cut.led;
    linked = (found.found.cut.links s.linked).0;
    lasts = (found.found.cut.lasts s.n s.lasts).0;
    keeps = λ all. (found.found.cut.keeps s.many s.n r all).0;
    last = calls_at found.found.cut.mid found.found.deed s.n ++ calls_of s.n found.found.cut.next found.found.cut.later s.now found.found.cut.rest;
    split = found.found.cut.own s.n;
  }

  abbrev all : List Call
  all = s.base ++ calls (part u until)

  abbrev ended : List Call
  ended = s.base ++ calls_of s.n s.at done.end.before done.end.moment done.end.first ++ Sends (out.Ends done.end.tags) ∷ []

  back : (len : ℕ) → IsOut (reached s.p s.limit all) (Some (out.Data r len)) → part_at (command_at (commands (reached s.p s.limit all)) r) ≡ drop 4 data'.bytes
      → IsBack s.p s.limit ended all done.page r (drop 4 data'.bytes)
  back len goes is_part =
      let slots = laws.end.slots in
      let few = few_fell slots u c dev begins line data' wrote found in
      let was = taken_data slots.tags s.p s.limit all r len low (has_disk slots (part u until)).are goes in
      let h = heard slots undisturbed s r low rest keeps k f it end done ends honest until few was in
      let b = behind_of slots undisturbed s r low rest keeps k f it end done ends honest until few was h in
      record {
        since = b.since;
        is = b.is;
        same = λ read page writes sector covered has untouched.
            ap (λ (l : List ℕ). sector_in read l sector) (sym is_part)
            ∙ reads s.p s.limit all r len sector done.page read b.are b.true_then (record {
              behind = b.behind sector writes covered untouched;
              goes = goes;
              reads = page;
              has = subst (λ (l : List ℕ). HasSector read l sector) (sym is_part) has;
            });
      }

  back_by : (j place len : ℕ) (does : Does found.found.cut.mid (Moved (act.Speaks j (out.Data place len))) found.found.cut.next)
      → sent_by found.found.cut.mid (Moved (act.Speaks j (out.Data place len))) found.found.cut.next does ≡ data' ∷ [] → place < 32
      → IsBack s.p s.limit ended all done.page r (drop 4 data'.bytes)
  back_by j place len does sent small =
      let is_disk = disk_same begins.disk s.rest.disk (sym begins.there ∙ s.rest.there) ∙ s.same in
      let at_place = place_of own.tell own.given own.parts own.disks s.many s.n c dev s.at begins.disk begins.there s.p s.limit s.base s.are is_disk
      s.deeds s.now s.run data' wrote mine found.prior found.told found.found j place len does sent small in
      let tagged : place ≡ r = sym at_place.slot ∙ named in
      let goes = sends_of own.tell own.given own.parts own.disks s.many s.n c dev s.at begins.disk begins.there s.p s.limit s.base s.are is_disk
      s.deeds s.now s.run data' wrote mine found.prior found.found j place len does sent in
      let is_part = part_of own.tell own.given own.parts own.disks s.many s.n c dev s.at begins.disk begins.there s.p s.limit s.base s.are is_disk
      s.deeds s.now s.run data' wrote mine found.prior found.found j place len does sent in
      back len (subst (λ (q : ℕ). IsOut (reached s.p s.limit all) (Some (out.Data q len))) tagged goes)
      (subst (λ (q : ℕ). part_at (command_at (commands (reached s.p s.limit all)) q) ≡ drop 4 data'.bytes) tagged is_part)

  pub read_back : IsReadBack s.many s.n s.tag r s.old s.before s.at s.first (to s k).deeds (to s k).now (to s k).run s.deeds s.p s.limit s.base end data' wrote
  unfolding brought_as
  read_back = record {
    written = done;
    supplied = λ new. written_supplied writes (to s k) end done (ends.keeps s.tag (to s k).keeps) new;
    read = brought_as laws own u c dev begins data' wrote mine named found;
    back = if_queued data' found.found.cut.mid found.found.deed found.found.cut.next found.found.cut.does _ found.found.sent back_by;
  }

pub guests_read_back : supplied.Laws → places.Laws → ReadsBringWrites → UndisturbedIsSpared → WritesAreSupplied → GuestsReadBack
guests_read_back laws own reads undisturbed writes ports legacy old opening before at first many n c dev w r below dev_low w_low r_low rest rest_r begins
    deeds now run linked lasts keeps keeps_r line runs well lost p limit base are same honest k end falls took new does mine port calm wrote brought named
    issue there kind =
    let s : Stretch = record {
      ports = ports;
      legacy = legacy;
      old = old;
      opening = opening;
      before = before;
      at = at;
      first = first;
      many = many;
      n = n;
      tag = w;
      below = below;
      low = w_low;
      rest = rest;
      deeds = deeds;
      now = now;
      run = run;
      linked = linked;
      lasts = lasts;
      keeps = keeps;
      p = p;
      limit = limit;
      base = base;
      are = are;
      same = same;
    } in
    let found : IsFound many n c dev at deeds now run does.does.frame wrote =
    found_at own ports legacy old opening before at first many n c dev below dev_low begins deeds now run line runs well lost took new does mine port calm
    wrote brought issue there kind in
    let it : Fell (own_of many n) w r end k at deeds now run = fell (own_of many n) w r end k deeds at now run falls in
    let there_fall : Fall (to s k) = fall s r k end it in
    subst (λ (x : Stamped). IsReadBack many n w r old before at first (first_deeds k deeds) (machine_at k at deeds now run)
    (first_run k at deeds now run) deeds p limit base x does.does.frame wrote) it.frame
    (read_back laws own reads undisturbed writes s r r_low rest_r keeps_r k end it there_fall.does.does.frame (is_done laws (to s k) there_fall)
    (ends_in laws (to s k) there_fall) honest c dev begins line does.does.frame wrote mine named found)
