-- As a write ends well, nothing that was asked for before can still change its sectors: each store of them was answered, and each discard, also one that a
-- plug, a reset or an error dropped while it was out.
use Rattle.std.specs.Prelude.{ℕ, ◌≡◌, true, List, ◌∷◌, ◌++◌, Some}
use Rattle.block_disk.specs.Laws.{Page}
use Rattle.block_engine.specs.declared.request.{Answer.Answer, Request.Request}
use Rattle.disk_pages.specs.declared.profile.Profile.{Profile}
use Rattle.sata_disk.specs.{Sending.IsOut, State.new_disk, declared.out.Out.Out}
use Rattle.sata_disk_books.specs.Books.{page_in}
use Rattle.sata_disk_laws.specs.{Calls.{AreCalls, Answers, Asks, Call}, Laws.reached}
use Rattle.sata_disk_media.specs.{Cells.covers, Laws.{EndsWell, touches}}

-- one of these calls answers the request of this number
pub record IsAnsweredIn (number : ℕ) (calls : List Call) : Type 0 where
  pub before : List Call
  pub answer : Answer
  pub later : List Call
  pub is : calls ≡ before ++ Answers number answer ∷ later

-- each store and each discard of the sector that these calls asked for was answered
abbrev pub IsSettled : Profile → (limit : ℕ) → List Call → (s : ℕ) → Type 0
IsSettled p limit calls s = (before : List Call) (r : Request) (later : List Call) → calls ≡ before ++ Asks r ∷ later
    → touches s r.what (reached p limit before).engine.ranges ≡ true → IsAnsweredIn r.number later

-- In every run, as the FIS goes that says that a write ended well, nothing is out that has a sector of it.
abbrev pub WritesAreSettled : Type 0
WritesAreSettled = (p : Profile) (limit : ℕ) (calls : List Call) (o : Out) (place s : ℕ) (g : Page)
    → AreCalls (new_disk p limit) calls → IsOut (reached p limit calls) (Some o) → EndsWell o place
    → page_in p limit calls place ≡ Some g → g.command.write ≡ true → covers g.command.lba g.command.count s ≡ true → IsSettled p limit calls s
