-- For `answers_commands_in_order`. Commands are answered in order.
use Rattle.std.proofs.Common.{◌≡◌, ℕ, true, false, List, [], ◌∷◌, ◌++◌, ap, ◌∙◌}
use Rattle.fis_view.specs.{Table.{D2h, Pio, I, Status, Error, Lba, Count, D, Transfer, places, field}, Built.cut, Seen.seen}
use Rattle.disk_model.specs.declared.{plan.DiskPlan.DiskPlan, answer.Answer.{Answer, TheVariants.{Signature, Accepted, Finished, Refused, Ended}}}
use Rattle.disk_model.specs.{declared.answer.Answer.TheVariants.{PageFollows, PageData}, Histories.{Happening, Sent}, Sendings.{Sending, SetsUp}}
use Rattle.disk_model.specs.{Sendings.{Activates, Carries, Shows, register, page_follows, answer_sent}, Runs.IsDiskRun, Ledger.{Ledger, IsSize}}
use Rattle.disk_model.specs.{Ledger.ledger, Laws.{IsRegister, AnswersRight}, Between.{IsTransfer, replies}}
use Rattle.disk_model.proofs.sent.TurnCases.{sent_by}

signs : (b : List ℕ) → Shows (register false 0x50 1 1) b → IsRegister D2h 0 0x50 1 1 b
unfolding places cut
signs b shows = record { interrupt = shows.fields I; status_is = shows.fields Status; error_is = shows.fields Error; lba = shows.fields Lba; count = shows.fields Count }

accepts : (b : List ℕ) → Shows (register false 0x50 0 0) b → IsRegister D2h 0 0x50 0 0 b
unfolding places cut
accepts b shows = record { interrupt = shows.fields I; status_is = shows.fields Status; error_is = shows.fields Error; lba = shows.fields Lba; count = shows.fields Count }

finishes : (b : List ℕ) → Shows (register true 0x50 0 0) b → IsRegister D2h 1 0x50 0 0 b
unfolding places cut
finishes b shows = record { interrupt = shows.fields I; status_is = shows.fields Status; error_is = shows.fields Error; lba = shows.fields Lba; count = shows.fields Count }

refuses : (b : List ℕ) → Shows (register true 0x51 4 0) b → IsRegister D2h 1 0x51 4 0 b
unfolding places cut
refuses b shows = record { interrupt = shows.fields I; status_is = shows.fields Status; error_is = shows.fields Error; lba = shows.fields Lba; count = shows.fields Count }

opens_page : (b : List ℕ) → Shows page_follows b → IsRegister Pio 1 0x58 0 0 b
unfolding places cut
opens_page b shows = record { interrupt = shows.fields I; status_is = shows.fields Status; error_is = shows.fields Error; lba = shows.fields Lba; count = shows.fields Count }

to_host : (b : List ℕ) → Shows page_follows b → field Pio D b ≡ 1
unfolding places cut
to_host b shows = shows.fields D

of_512 : (b : List ℕ) → Shows page_follows b → field Pio Transfer b ≡ 512
unfolding places cut
of_512 b shows = shows.fields Transfer

answers_by : (l : Ledger) (sectors : ℕ) (plan : DiskPlan) (a : Answer) (later : List Answer) (b : List ℕ) → l.awaited ≡ replies (a ∷ later)
    → Shows (answer_sent sectors plan a) b → AnswersRight l (seen b)
answers_by l sectors plan Signature later b is shows = rw (shows.viewed, is) (signs b shows)
answers_by l sectors plan Accepted later b is shows = rw (shows.viewed, is) (accepts b shows)
answers_by l sectors plan Finished later b is shows = rw (shows.viewed, is) (finishes b shows)
answers_by l sectors plan Refused later b is shows = rw (shows.viewed, is) (refuses b shows)
answers_by l sectors plan (Ended t) later b is shows = rw shows.viewed tt
answers_by l sectors plan PageFollows later b is shows = rw (shows.viewed, is) (opens_page b shows, to_host b shows, of_512 b shows)
answers_by l sectors plan (PageData page) later b is shows = rw shows.1 tt

goes_by : (l : Ledger) (x : Sending) (b : List ℕ) → IsTransfer x → Shows x b → AnswersRight l (seen b)
goes_by l (SetsUp f) b moves shows = rw shows.viewed tt
goes_by l Activates b moves shows = rw shows.viewed tt
goes_by l (Carries bytes) b moves shows = rw shows.1 tt
goes_by l other b moves shows = absurd moves

pub answers_right : (plan : DiskPlan) (sectors : ℕ) (h : List Happening) (b : List ℕ) → IsSize plan sectors
    → IsDiskRun plan sectors (h ++ Sent b ∷ []) → AnswersRight (ledger h) (seen b)
answers_right plan sectors h b size run = sent_by plan sectors h b _ size run (λ agrees. record {
  answers = λ a later is shows. answers_by (ledger h) sectors plan a later b (agrees.awaited ∙ ap replies is) shows;
  fails = λ c f turn is none shows. rw shows.viewed tt;
  starts = λ c turn here is none shows. rw shows.viewed tt;
  goes_on = λ now x is moves shows. goes_by (ledger h) x b moves shows;
})
