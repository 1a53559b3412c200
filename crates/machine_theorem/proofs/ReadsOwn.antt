-- A Data FIS that brings bytes for the slot of a queued read is of the command that the guest had supplied for it, and its bytes have their numbers.
use Rattle.std.proofs.Common.{◌≡◌, ℕ, ◌<◌, true, List, [], ◌∷◌, ◌++◌, sym, ap, subst, ◌∙◌, Option, Some, None}
use Rattle.std.specs.Prelude.{drop, length}
use Rattle.fis_view.specs.Frames.{Stamped}
use Rattle.slots.specs.Slots.{match_some}
use Rattle.hba_fbs.specs.declared.report.Wrote.{Wrote}
use Rattle.block_disk.specs.Laws.{Page}
use Rattle.sata_disk.specs.State.{DiskState}
use Rattle.sata_disk.specs.declared.out.Out.TheVariants as out
use Rattle.sata_disk_books.specs.{Books.{AreNext, page_in}, Fises.told_after}
use Rattle.sata_disk_laws.specs.Laws.{reached}
use Rattle.ahci_machine.specs.{declared.{act.Act.Act, bay.Unit.TheVariants.Disk}, States.bay_at}
use Rattle.ahci_machine.specs.declared.act.Act.TheVariants as act
use Rattle.machine_laws.specs.{Deeds.{Deed, Does, Moved}, Rising.{bytes_of, sent_by}}
use Rattle.machine_theorem.specs.{Given.IsGivenData, Identity.calls_of, OwnSlots.{BeginsClear, IsAtPlace, is_of}, Reads.{IsBroughtAsRead, IsReadOf}}
use Rattle.machine_theorem.specs.Reads.{OfItsRead, ReadsAreAsSupplied}
use Rattle.machine_theorem.proofs.AsSupplied as supplied
use Rattle.machine_theorem.proofs.{EndsFew.disk_same, Given.given_data, OwnPlace.{Found, IsFound, found_at, place_of, speaker}, Stretch.Stretch}
use Rattle.machine_theorem.proofs.Stretch.{front}
use Rattle.machine_theorem.proofs.OwnPlace as places

pub one_page : (a b : Page) → Some a ≡ Some b → a ≡ b
one_page a b e = ap (λ (o : Option Page). match_some o a (λ x. x)) e

module _ (laws : supplied.Laws) (own : places.Laws) (s : Stretch) (c dev : ℕ) (d : DiskState) (there : (bay_at s.at s.n).unit ≡ Disk d) (is_disk : d ≡ reached s.p s.limit s.base)
    (f : Stamped) (wrote : Wrote) (mine : is_of s.n c f ≡ true) (named : wrote.slot ≡ s.tag) (prior : List Stamped)
    (told : told_after None (bytes_of prior) ≡ Some (record { tag = wrote.slot; count = wrote.offset })) (found : Found s.many s.n c dev s.at s.deeds s.now s.run prior f) where
  -- of the slot's number, by the disk at the port
  data_at : (len : ℕ) (does : Does found.cut.mid (Moved (act.Speaks s.n (out.Data s.tag len))) found.cut.next)
      → IsGivenData s.many s.n s.tag len s.old s.before s.at s.first found.cut.sooner found.cut.mid found.cut.led s.p s.limit s.base found.cut.next does
  data_at len does = given_data laws own.given own.parts (front s found.deed found.cut) len found.cut.next does

  -- and by whoever it is, of whatever number
  data_of : (k place len : ℕ) → k ≡ s.n → place ≡ s.tag → (does : Does found.cut.mid (Moved (act.Speaks k (out.Data place len))) found.cut.next)
      → IsGivenData s.many k place len s.old s.before s.at s.first found.cut.sooner found.cut.mid found.cut.led s.p s.limit s.base found.cut.next does
  data_of k place len here tagged does =
      subst (λ (j : ℕ). (x : Does found.cut.mid (Moved (act.Speaks j (out.Data place len))) found.cut.next)
      → IsGivenData s.many j place len s.old s.before s.at s.first found.cut.sooner found.cut.mid found.cut.led s.p s.limit s.base found.cut.next x) (sym here)
      (subst (λ (q : ℕ). (x : Does found.cut.mid (Moved (act.Speaks s.n (out.Data q len))) found.cut.next)
      → IsGivenData s.many s.n q len s.old s.before s.at s.first found.cut.sooner found.cut.mid found.cut.led s.p s.limit s.base found.cut.next x) (sym tagged) (λ x. data_at len x))
      does

  pub read_of : (k place len : ℕ) (does : Does found.cut.mid (Moved (act.Speaks k (out.Data place len))) found.cut.next)
      → sent_by found.cut.mid (Moved (act.Speaks k (out.Data place len))) found.cut.next does ≡ f ∷ [] → place < 32
      → IsReadOf s.many s.n s.tag s.old s.before s.at s.first found.cut.sooner found.cut.mid found.cut.led s.p s.limit s.base k place len found.cut.next does f wrote
  read_of k place len does sent low =
      let here : k ≡ s.n =
      speaker own.tell own.given own.parts own.disks s.many s.n c dev s.at d there s.p s.limit s.base s.are is_disk s.deeds s.now s.run f wrote mine prior found k (out.Data place len) does sent in
      let it : IsAtPlace s.p s.limit (s.base ++ calls_of s.n s.at found.cut.sooner found.cut.mid found.cut.led) place f wrote =
      place_of own.tell own.given own.parts own.disks s.many s.n c dev s.at d there s.p s.limit s.base s.are is_disk s.deeds s.now s.run f wrote mine prior told found k place len does sent low in
      let tagged : place ≡ s.tag = sym it.slot ∙ named in
      let given = data_of k place len here tagged does in
      let same : it.page ≡ given.page =
      one_page it.page given.page (sym it.is ∙ ap (λ (j : ℕ). page_in s.p s.limit (s.base ++ calls_of j s.at found.cut.sooner found.cut.mid found.cut.led) place) (sym here) ∙ given.books) in
      record {
        own = here;
        slot = tagged;
        given = given;
        number = it.number ∙ ap (λ (x : Page). length x.ledger.sent) same;
        next = subst (λ (x : Page). AreNext x.ledger (drop 4 f.bytes)) same it.next;
      }

  move_read : (a : Act) (does : Does found.cut.mid (Moved a) found.cut.next) → sent_by found.cut.mid (Moved a) found.cut.next does ≡ f ∷ []
      → OfItsRead s.many s.n s.tag s.old s.before s.at s.first found.cut.sooner found.cut.mid found.cut.led s.p s.limit s.base (Moved a) found.cut.next does f wrote
  move_read (act.Speaks k (out.Data place len)) does sent = λ low. read_of k place len does sent low
  move_read (act.Speaks k o) does sent = tt
  move_read a does sent = tt

  pub deed_read : (deed : Deed) (does : Does found.cut.mid deed found.cut.next) → sent_by found.cut.mid deed found.cut.next does ≡ f ∷ []
      → OfItsRead s.many s.n s.tag s.old s.before s.at s.first found.cut.sooner found.cut.mid found.cut.led s.p s.limit s.base deed found.cut.next does f wrote
  deed_read (Moved a) does sent = move_read a does sent
  deed_read deed does sent = tt

-- the moment of the stretch at which it was sent
unfoldable pub brought_as : supplied.Laws → places.Laws → (s : Stretch) (c dev : ℕ) → BeginsClear s.n c dev s.at → (f : Stamped) (wrote : Wrote)
    → is_of s.n c f ≡ true → wrote.slot ≡ s.tag → IsFound s.many s.n c dev s.at s.deeds s.now s.run f wrote
    → IsBroughtAsRead s.many s.n s.tag s.old s.before s.at s.first s.deeds s.p s.limit s.base f wrote
brought_as laws own s c dev begins f wrote mine named it = record {
  sooner = it.found.cut.sooner;
  mid = it.found.cut.mid;
  led = it.found.cut.led;
  deed = it.found.deed;
  after = it.found.cut.next;
  does = it.found.cut.does;
  later = it.found.cut.later;
  is = it.found.cut.is;
  sent = it.found.sent;
  read = deed_read laws own s c dev begins.disk begins.there (disk_same begins.disk s.rest.disk (sym begins.there ∙ s.rest.there) ∙ s.same)
      f wrote mine named it.prior it.told it.found it.found.deed it.found.cut.does it.found.sent;
}

pub reads_are : supplied.Laws → places.Laws → ReadsAreAsSupplied
reads_are laws own ports legacy old opening before at first many n c dev tag low dev_low tag_low rest begins deeds now run linked lasts keeps line runs well lost p limit base are same took new does mine port calm wrote brought named issue there kind =
    let it : IsFound many n c dev at deeds now run does.does.frame wrote =
    found_at own ports legacy old opening before at first many n c dev low dev_low begins deeds now run line runs well lost took new does mine port calm wrote brought issue there kind in
    let s : Stretch = record {
      ports = ports;
      legacy = legacy;
      old = old;
      opening = opening;
      before = before;
      at = at;
      first = first;
      many = many;
      n = n;
      tag = tag;
      below = low;
      low = tag_low;
      rest = rest;
      deeds = deeds;
      now = now;
      run = run;
      linked = linked;
      lasts = lasts;
      keeps = keeps;
      p = p;
      limit = limit;
      base = base;
      are = are;
      same = same;
    } in
    brought_as laws own s c dev begins does.does.frame wrote mine named it
