-- For `answers_each_command_once`. The ledger and the disk still agree while the disk sends.
use Rattle.std.proofs.{Common.{◌≡◌, ℕ, ◌%◌, ◌^◌, true, List, ◌∷◌, Option, Some, None, drop, refl}, lemmas.Bool.or_parts}
use Rattle.fis_view.specs.Seen.{seen}
use Rattle.disk_model.specs.declared.{plan.DiskPlan.DiskPlan, request.Command.Command, answer.Answer.{Answer, TheVariants.{Ended, PageData}}}
use Rattle.disk_model.specs.{Sendings.{Shows, answer_sent}, Disks.{Moment, Started, Writing}, Ledger.{Wanted, Ledger, Moving, listens_up, sends_data}}
use Rattle.disk_model.specs.Between.{Agrees, AreTags, AreWanted, IsHeld, Moves, ended_tags, has_page, is_page, pages_of}
use Rattle.disk_model.proofs.agreement.{ShowsLemmas.end_tells, FaultLemmas.wanted_left, AgreeLemmas.{Beside, Stands, shown}}

-- ## An answer goes

tags_left : (a : Answer) (later : List Answer) → AreTags (ended_tags (a ∷ later)) → AreTags (ended_tags later)
tags_left (Ended t) later tags = tags.1
tags_left other later tags = tags

held_left : (queued : List Command) (a : Answer) (later : List Answer) (tag : ℕ) → IsHeld queued (a ∷ later) tag
    → IsHeld queued later tag
held_left queued a later tag held = record { has = held.has; quiet = (or_parts (is_page a) (has_page later) held.quiet).1 }

moves_left : (plan : DiskPlan) (sectors : ℕ) (medium : List ℕ) (queued : List Command) (a : Answer) (later : List Answer)
    (s : Option Started) (w : Option Writing) (v : Option Moving)
    → Moves plan sectors medium queued (a ∷ later) s w v → Moves plan sectors medium queued later s w v
moves_left plan sectors medium queued a later None None None m = tt
moves_left plan sectors medium queued a later None None (Some v) m = absurd m
moves_left plan sectors medium queued a later (Some s) None None m = absurd m
moves_left plan sectors medium queued a later (Some s) None (Some v) m = (m.0, m.1, m.2, held_left queued a later s.command.tag m.3)
moves_left plan sectors medium queued a later None (Some w) None m = absurd m
moves_left plan sectors medium queued a later None (Some w) (Some v) m = (m.0, m.1, held_left queued a later w.command.tag m.2)
moves_left plan sectors medium queued a later (Some s) (Some w) v m = absurd m

answer_left : (plan : DiskPlan) (sectors : ℕ) (m : Moment) (k : Beside) (a : Answer) (later : List Answer) (left : List Wanted)
    → AreWanted plan sectors (pages_of later) left → Stands plan sectors (record m { owed = a ∷ later }) k
    → Stands plan sectors (record m { owed = later }) (record k { pages = left })
answer_left plan sectors m k a later left are g = record {
  outstanding = refl;
  failed = refl;
  unanswered = refl;
  medium = g.medium;
  length_is = g.length_is;
  queue = g.queue;
  tags = tags_left a later g.tags;
  reads = g.reads;
  moving = moves_left plan sectors m.medium m.queued a later m.started m.writing k.moving g.moving;
  failure = g.failure;
  resetting = refl;
  in_reset = refl;
  awaited = refl;
  pages = are;
}

-- no data moves while a page is owed
pub page_goes : (plan : DiskPlan) (sectors : ℕ) (medium : List ℕ) (queued : List Command) (a : Answer) (later : List Answer)
    (s : Option Started) (w : Option Writing) (v : Option Moving) → is_page a ≡ true
    → Moves plan sectors medium queued (a ∷ later) s w v → v ≡ None
page_goes plan sectors medium queued a later None None None page m = refl
page_goes plan sectors medium queued a later None None (Some v) page m = absurd m
page_goes plan sectors medium queued a later (Some s) None None page m = absurd m
page_goes plan sectors medium queued a later (Some s) None (Some v) page m =
    let no = (or_parts (is_page a) (has_page later) m.3.quiet).0 in cc (page, no)
page_goes plan sectors medium queued a later None (Some w) None page m = absurd m
page_goes plan sectors medium queued a later None (Some w) (Some v) page m =
    let no = (or_parts (is_page a) (has_page later) m.2.quiet).0 in cc (page, no)
page_goes plan sectors medium queued a later (Some s) (Some w) v page m = absurd m

data_nowhere : (l : Ledger) (v : Option Moving) (bytes : List ℕ) → v ≡ None
    → sends_data l v bytes ≡ record l { pages = drop 1 l.pages }
data_nowhere l v bytes none = rw none refl

pub step_answer : (plan : DiskPlan) (sectors : ℕ) (m : Moment) (k : Beside) (a : Answer) (later : List Answer) (b : List ℕ)
    → Shows (answer_sent sectors plan a) b → Stands plan sectors (record m { owed = a ∷ later }) k
    → Agrees plan sectors (record m { owed = later }) (listens_up (shown (record m { owed = a ∷ later }) k) (seen b))
step_answer plan sectors m k (Ended t) later b shows g =
    let fine = end_tells (2 ^ (t % 32)) b shows in
    rw (shows.viewed, fine) (answer_left plan sectors m k (Ended t) later k.pages g.pages g)
step_answer plan sectors m k (PageData page) later b shows g =
    let none : k.moving ≡ None =
    page_goes plan sectors m.medium m.queued (PageData page) later m.started m.writing k.moving refl g.moving in
    let nothing = data_nowhere (shown (record m { owed = PageData page ∷ later }) k) k.moving (drop 4 b) none in
    let left = wanted_left plan sectors page (pages_of later) k.pages g.pages in
    rw (shows.1, nothing) (answer_left plan sectors m k (PageData page) later (drop 1 k.pages) left g)
step_answer plan sectors m k other later b shows g =
    rw shows.viewed (answer_left plan sectors m k other later k.pages g.pages g)
