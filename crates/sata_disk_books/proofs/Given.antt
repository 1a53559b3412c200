-- The Data FIS that goes next is allowed by the books.
use Rattle.std.proofs.Common.{◌≡◌, ℕ, true, false, List, [], ◌∷◌, ◌++◌, Some, None, refl, subst}
use Rattle.std.specs.Prelude.{Option, Bool, if◌then◌else◌}
use Rattle.block_command.specs.{declared.command.{Command.Command, Stage.{Stage, TheVariants.Sending}}, Moments.Moment, Laws.{Goes, SentData}}
use Rattle.block_command.proofs.Door.{at}
use Rattle.block_disk.specs.{Laws.{At, IsAllowedBy, Page, PageAllows, Shown, at_page, shown_at}, Requests.{AreSeenRightly, Books, Seen, no_books}}
use Rattle.block_queue.specs.Deeds as deed
use Rattle.block_queue.specs.{Deeds.{Deed, seen_of}, Line.{Line, command_at}}
use Rattle.block_scheduler.specs.{Schedule.ends_all, Laws.all_deeds}
use Rattle.block_engine.specs.Laws.{all_moves}
use Rattle.disk_pages.specs.declared.profile.Profile.{Profile}
use Rattle.sata_disk.specs.{Sending.{IsOut, out_at, part_at}, State.{DiskState, commands, new_disk}}
use Rattle.sata_disk.specs.declared.out.Out.TheVariants as out
use Rattle.sata_disk_laws.specs.{Calls.{AreCalls, Call, Sends, all_steps}, Laws.{EndsAreEarned, reached, seen_in}}
use Rattle.sata_disk_laws.proofs.Door.{calls_both}
use Rattle.sata_disk_books.specs.Books.{AreOfPage, DataAreGiven, books_after}
use Rattle.sata_disk_books.proofs.Walks.{rightly_then, shown_both, shown_from}

-- ## What is shown where Data go

pub first_seen : (l : Line) (place : ℕ) (b : Bool) (more : List Deed) (books : Books)
    → AreSeenRightly books (seen_of l ((if b then deed.Sends place ∷ deed.Resets ∷ [] else deed.Sends place ∷ []) ++ more))
    → IsAllowedBy books.pages (shown_at place (command_at l place) Goes)
unfolding seen_of
first_seen l place true more books are = are.0
first_seen l place false more books are = are.0

data_seen : (d : DiskState) (place n : ℕ) (books : Books) → AreSeenRightly books (shown_from d (Sends (out.Data place n) ∷ []))
    → IsAllowedBy books.pages (shown_at place (command_at (commands d) place) Goes)
unfolding all_deeds all_moves all_steps
data_seen d place n books are = first_seen (commands d) place (ends_all (commands d) place) _ books are

data_told : (d : DiskState) (p n : ℕ) (c : Command) (done : ℕ) (bytes : List ℕ) (sent : ℕ) (stage : Stage)
    → Some (out.Data p n) ≡ out_at d p (Some (at c done bytes sent stage))
    → shown_at p (Some (at c done bytes sent stage)) Goes ≡ At p (SentData (part_at (Some (at c done bytes sent stage))))
data_told d p n c done bytes sent Sending e = refl
data_told d p n c done bytes sent stage e = absurd (cc)

some_told : (d : DiskState) (p n : ℕ) (x : Option Moment) → Some (out.Data p n) ≡ out_at d p x → shown_at p x Goes ≡ At p (SentData (part_at x))
some_told d p n None e = absurd (cc)
some_told d p n (Some m) e = data_told d p n m.command m.done m.bytes m.sent m.stage e

of_page : (x : Option Page) (part : List ℕ) → PageAllows x (SentData part) → AreOfPage x part
of_page None part allowed = allowed
of_page (Some page) part allowed = record { rest = allowed.rest; given = allowed.is }

-- ## Every run

one_more : (p : Profile) (limit : ℕ) (calls : List Call) (place n : ℕ) → AreCalls (new_disk p limit) calls
    → IsOut (reached p limit calls) (Some (out.Data place n)) → AreCalls (new_disk p limit) (calls ++ Sends (out.Data place n) ∷ [])
one_more p limit calls place n are is = calls_both calls (Sends (out.Data place n) ∷ []) (new_disk p limit) are (is, tt)

pub data_are_given : EndsAreEarned → DataAreGiven
data_are_given earned p limit calls place n are is =
    let d : DiskState = reached p limit calls in
    let b : Books = books_after no_books (seen_in p limit calls) in
    let all : AreSeenRightly no_books (shown_from (new_disk p limit) (calls ++ Sends (out.Data place n) ∷ [])) =
    earned p limit (calls ++ Sends (out.Data place n) ∷ []) (one_more p limit calls place n are is) in
    let parted = subst (λ (x : List Seen). AreSeenRightly no_books x) (shown_both (new_disk p limit) calls (Sends (out.Data place n) ∷ [])) all in
    let last = rightly_then (seen_in p limit calls) (shown_from d (Sends (out.Data place n) ∷ [])) no_books parted in
    let allowed = subst (λ (s : Shown). IsAllowedBy b.pages s) (some_told d place n (command_at (commands d) place) is.3) (data_seen d place n b last) in
    of_page (at_page b.pages place) (part_at (command_at (commands d) place)) allowed
