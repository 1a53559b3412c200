-- For `lines_lead_to_beginning_anew`. The FISes that a disk sends.
use Rattle.std.proofs.Common.{◌≡◌, ℕ, List}
use Rattle.fis_view.specs.{Table.{EStatus, Pio, field, places}, Built.cut, Seen.seen}
use Rattle.disk_model.specs.{declared.answer.Answer.{Answer, TheVariants.{PageFollows, PageData}}, Sendings.{Sending, SetsUp, Activates, Carries}}
use Rattle.disk_model.specs.{Sendings.{Shows, answer_sent, page_follows}, declared.plan.DiskPlan.DiskPlan, Between.IsTransfer}
use Rattle.disk_model.proofs.Door.{sent_by}
use Rattle.disk_simulation.specs.Files.{DisksSendTheirs, IsOfDisk}

ends_fine : (b : List ℕ) → Shows page_follows b → field Pio EStatus b ≡ 0x50
unfolding places cut
ends_fine b shows = shows.fields EStatus

answers_by : (sectors : ℕ) (plan : DiskPlan) (a : Answer) (b : List ℕ) → Shows (answer_sent sectors plan a) b → IsOfDisk (seen b)
answers_by sectors plan PageFollows b shows = rw shows.viewed (ends_fine b shows)
answers_by sectors plan (PageData page) b shows = rw shows.1 tt
answers_by sectors plan other b shows = rw shows.viewed tt

goes_by : (x : Sending) (b : List ℕ) → IsTransfer x → Shows x b → IsOfDisk (seen b)
goes_by (SetsUp f) b moves shows = rw shows.viewed tt
goes_by Activates b moves shows = rw shows.viewed tt
goes_by (Carries bytes) b moves shows = rw shows.1 tt
goes_by other b moves shows = absurd moves

pub of_disk : DisksSendTheirs
of_disk plan sectors disk b size run = sent_by plan sectors disk b _ size run (λ agrees. record {
  answers = λ a later is shows. answers_by sectors plan a b shows;
  fails = λ c f turn is none shows. rw shows.viewed tt;
  starts = λ c turn here is none shows. rw shows.viewed tt;
  goes_on = λ now x is moves shows. goes_by x b moves shows;
})
