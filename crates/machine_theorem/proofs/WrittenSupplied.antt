-- What came for a queued write that ended in a stretch was supplied for it, if the disk was new as it was put at its port.
use Rattle.std.proofs.Common.{◌≡◌, ℕ, Bool, true, false, not, List, [], ◌∷◌, ◌++◌, append_assoc, append-nil, Option, Some, refl, sym, ap, subst, ◌∙◌}
use Rattle.std.specs.Prelude.{◌==◌, if◌then◌else◌}
use Rattle.fis_view.specs.Frames.{Stamped}
use Rattle.block_disk.specs.Laws.{Page}
use Rattle.sata_disk.specs.State.{DiskState, new_disk}
use Rattle.sata_disk_books.specs.Books.{page_in}
use Rattle.sata_disk_laws.specs.Calls.{Call}
use Rattle.slots.specs.Slots.{match_some}
use Rattle.ahci_machine.specs.States.{MachineState}
use Rattle.machine_laws.specs.{ControllerLaws.RunsRuled, Deeds.{Deed, Put}, Disks.calls_at, Heard.{Life, life_by, life_in, no_life, put_in}}
use Rattle.machine_theorem.specs.{Completions.IsDone, Identity.{AllKeep, calls_of, is_left}, ReadBack.{IsSinceNew, IsSuppliedPage}}
use Rattle.machine_theorem.specs.Writes.{WritesAreSupplied}
use Rattle.machine_theorem.proofs.{ReadsOwn.one_page, Stretch.Stretch}

-- ---- a disk that stays

abbrev lived_on : Life → List Call → Life
lived_on was calls = record { first = was.first; calls = was.calls ++ calls }

none_more : (was : Life) → was ≡ lived_on was []
none_more was = ap (λ (l : List Call). record { first = was.first; calls = l }) (sym (append-nil was.calls))

put_elsewhere : (b : Bool) (put was : Life) → not b ≡ true → (if b then put else was) ≡ lived_on was []
put_elsewhere true put was e = absurd (cc)
put_elsewhere false put was e = none_more was

left_by : (n : ℕ) (old : MachineState) (deed : Deed) → is_left n deed ≡ true → (was : Life) → life_by n old deed was ≡ lived_on was (calls_at old deed n)
left_by n old (Put k unit told) left was = put_elsewhere (k == n) (put_in unit told was) was left
left_by n old other left was = refl

left_in : (many : Bool) (n tag : ℕ) (deeds : List Deed) (old now : MachineState) (run : RunsRuled old deeds now) → AllKeep many n tag old deeds now run
    → (was : Life)
    → life_in n was old deeds now run ≡ lived_on was (calls_of n old deeds now run)
left_in many n tag [] old now run keeps was = none_more was
left_in many n tag (deed ∷ later) old now run keeps was =
    let here : List Call = calls_at old deed n in
    let rest : List Call = calls_of n run.1.0 later now run.1.2 in
    ap (λ (l : Life). life_in n l run.1.0 later now run.1.2) (left_by n old deed keeps.0.left was)
    ∙ left_in many n tag later run.1.0 now run.1.2 keeps.1 (lived_on was here)
    ∙ ap (λ (l : List Call). record { first = was.first; calls = l }) (append_assoc was.calls here rest)

-- ---- one run behind another

record LivesFrom (n : ℕ) (old at : MachineState) (deeds : List Deed) (now : MachineState) (run : RunsRuled at deeds now) : Type 0 where
  all : RunsRuled old deeds now
  life : (was : Life) → life_in n was old deeds now all ≡ life_in n was at deeds now run

record Lives (n : ℕ) (old : MachineState) (before : List Deed) (at : MachineState) (first : RunsRuled old before at) (deeds : List Deed) (now : MachineState)
    (run : RunsRuled at deeds now) : Type 0 where
  all : RunsRuled old (before ++ deeds) now
  life : (was : Life) → life_in n was old (before ++ deeds) now all ≡ life_in n (life_in n was old before at first) at deeds now run

lives : (n : ℕ) (before : List Deed) (old at : MachineState) (first : RunsRuled old before at) (deeds : List Deed) (now : MachineState)
    (run : RunsRuled at deeds now) → Lives n old before at first deeds now run
lives n [] old at first deeds now run =
    let it = subst (λ (m : MachineState). (r : RunsRuled m deeds now) → LivesFrom n old m deeds now r) (sym first.1)
    (λ r. record { all = r; life = λ was. refl }) run in
    record { all = it.all; life = it.life }
lives n (deed ∷ before) old at first deeds now run =
    let it = lives n before first.1.0 at first.1.2 deeds now run in
    record { all = (first.0, (first.1.0, first.1.1, it.all)); life = λ was. it.life (life_by n old deed was) }

-- ---- the write

one_disk : (a b : DiskState) → Some a ≡ Some b → a ≡ b
one_disk a b e = ap (λ (o : Option DiskState). match_some o a (λ x. x)) e

pub written_supplied : WritesAreSupplied
    → (s : Stretch) (f : Stamped) (done : IsDone s.many s.n s.tag s.old s.before s.at s.first s.deeds s.now s.run s.p s.limit s.base f)
    → AllKeep s.many s.n s.tag s.at done.end.before done.end.moment done.end.first → IsSinceNew s.n s.old s.before s.at s.first s.p s.limit s.base
    → IsSuppliedPage s.old (s.before ++ done.end.before) done.end.moment s.n s.p s.limit done.page
written_supplied law s f done keeps since =
    let j : Lives s.n s.old s.before s.at s.first done.end.before done.end.moment done.end.first =
    lives s.n s.before s.old s.at s.first done.end.before done.end.moment done.end.first in
    let it = law s.ports s.legacy s.old s.opening (s.before ++ done.end.before) done.end.moment j.all s.n done.end.tags
    done.end.new done.end.says s.tag s.low done.end.named in
    let was : Life = life_in s.n no_life s.old s.before s.at s.first in
    let calls : List Call = calls_of s.n s.at done.end.before done.end.moment done.end.first in
    let same : life_in s.n no_life s.old (s.before ++ done.end.before) done.end.moment j.all ≡ lived_on was calls =
    j.life no_life ∙ left_in s.many s.n s.tag done.end.before s.at done.end.moment done.end.first keeps was in
    let new : it.lived.disk ≡ new_disk s.p s.limit =
    one_disk it.lived.disk (new_disk s.p s.limit) (sym it.lived.first ∙ ap (λ (l : Life). l.first) same ∙ since.new) in
    let has = it.new s.p s.limit new in
    let page : has.has.page ≡ done.page =
    one_page has.has.page done.page (sym has.has.is ∙ ap (λ (l : List Call). page_in s.p s.limit l s.tag)
    (ap (λ (l : Life). l.calls) same ∙ ap (λ (l : List Call). l ++ calls) (sym since.all)) ∙ done.books) in
    subst (λ (g : Page). IsSuppliedPage s.old (s.before ++ done.end.before) done.end.moment s.n s.p s.limit g) page
    (record { run = j.all; command = has.has.command; came = has.came })
