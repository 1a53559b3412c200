-- A store that is asked for is of a write in the books.
use Rattle.std.proofs.{Common.{◌≡◌, ℕ, ◌+◌, ◌<◌, true, false, List, Some, None, refl, sym, ap, ◌∙◌, arith, subst}, lemmas.Bool.{leb-true, ltb-true}}
use Rattle.std.specs.Prelude.{not, Option}
use Rattle.block_command.specs.{declared.command.{Command.Command, Stage.Stage}, Moments.{Moment, is_ended, part_count, turn_of}}
use Rattle.block_command.specs.declared.command.Stage.TheVariants as stage
use Rattle.block_command.proofs.Door.{Agrees, at}
use Rattle.block_disk.specs.{Laws.Page, Requests.{asks_at, is_request}, Table.is_under_way}
use Rattle.block_disk.proofs.Door.{Matches}
use Rattle.block_queue.specs.Line.{command_at}
use Rattle.block_queue.proofs.Door.{of_and}
use Rattle.block_engine.specs.{declared.{aside.AsideKind.AsideKind, request.Request.Request}, Engine.{IsAskedOf, aside_what, what_at}}
use Rattle.block_engine.specs.declared.aside.AsideKind.TheVariants as kinds
use Rattle.block_engine.specs.declared.request.What.TheVariants as what
use Rattle.disk_pages.specs.declared.profile.Profile.{Profile}
use Rattle.sata_disk.specs.State.{commands}
use Rattle.sata_disk_laws.specs.{Calls.{Call, asked_by}, Laws.reached}
use Rattle.sata_disk_books.specs.Books.{page_in}
use Rattle.sata_disk_media.specs.{Cells.covers, Laws.{IsOfWrite, StoresAreOfWrites}}
use Rattle.sata_disk_media.proofs.{Loaded.covered, Moments.{part_below, store_part}, Runs.run_held}

record OfWrite (y : Option Page) (s : ℕ) : Type 0 where
  pub page : Page
  pub is : y ≡ Some page
  pub writes : page.command.write ≡ true
  pub covered : covers page.command.lba page.command.count s ≡ true

-- a sector of a part is one of the command
part_covered : (c : Command) (done s : ℕ) → done < c.count → covers (c.lba + done) (part_count c done) s ≡ true → covers c.lba c.count s ≡ true
part_covered c done s more e =
    let h = of_and _ _ e in let first = leb-true (c.lba + done) s h.0 in let last = ltb-true s (c.lba + done + part_count c done) h.1 in
    let below = part_below c done in
    covered c.lba c.count s (omega (arith, first)) (omega (arith, last, below, more))

store_case : (c : Command) (done : ℕ) (bytes : List ℕ) (sent lba count s : ℕ) (g : Page) → c ≡ g.command → Agrees g.command (at c done bytes sent stage.Store) g.ledger
    → c.lba + done ≡ lba → part_count c done ≡ count → covers lba count s ≡ true → OfWrite (Some g) s
store_case c done bytes sent lba count s g same agrees first many cov =
    let agrees' : Agrees c (at c done bytes sent stage.Store) g.ledger = subst (λ x. Agrees x (at c done bytes sent stage.Store) g.ledger) (sym same) agrees in
    let part = store_part c done bytes sent g.ledger agrees' in
    let cov' : covers (c.lba + done) (part_count c done) s ≡ true = subst (λ x. covers x (part_count c done) s ≡ true) (sym first) (subst (λ x. covers lba x s ≡ true) (sym many) cov) in
    record {
      page = g;
      is = refl;
      writes = subst (λ x. x.write ≡ true) same part.write;
      covered = subst (λ x. covers x.lba x.count s ≡ true) same (part_covered c done s part.more cov');
    }

first_of : (a b x y : ℕ) → what.Store a b ≡ what.Store x y → a ≡ x
first_of a b x y e = cc

count_of : (a b x y : ℕ) → what.Store a b ≡ what.Store x y → b ≡ y
count_of a b x y e = cc

stage_case : (c : Command) (done : ℕ) (bytes : List ℕ) (sent : ℕ) (st : Stage) (lba count s : ℕ) (g : Page) → c ≡ g.command → Agrees g.command (at c done bytes sent st) g.ledger
    → what_at (Some (at c done bytes sent st)) ≡ what.Store lba count → covers lba count s ≡ true → OfWrite (Some g) s
stage_case c done bytes sent stage.Store lba count s g same agrees e cov =
    store_case c done bytes sent lba count s g same agrees (first_of _ _ _ _ e) (count_of _ _ _ _ e) cov
stage_case c done bytes sent st lba count s g same agrees e cov = absurd (cc)

of_case : (x : Option Moment) (y : Option Page) (lba count s : ℕ) → Matches x y → what_at x ≡ what.Store lba count → covers lba count s ≡ true → OfWrite y s
of_case None y lba count s match' e cov = absurd (cc)
of_case (Some m) None lba count s match' e cov = absurd match'
of_case (Some m) (Some g) lba count s match' e cov = stage_case m.command m.done m.bytes m.sent m.stage lba count s g match'.0 match'.1 e cov

aside_no : (k : AsideKind) (lba count : ℕ) → aside_what k ≡ what.Store lba count → ⊥
aside_no kinds.Flush lba count e = cc
aside_no kinds.Discard lba count e = cc

request_alive : (st : Stage) → is_request (turn_of st) ≡ true → is_ended st ≡ false
request_alive stage.Ended e = absurd (cc)
request_alive st e = refl

under_way : (x : Option Moment) → asks_at x ≡ true → is_under_way x ≡ true
under_way None e = absurd (cc)
under_way (Some m) e = ap not (request_alive m.stage e)

ask_case : (p : Profile) (limit : ℕ) (calls : List Call) (r : Request) (lba count s : ℕ) (k : Option ℕ) → r.place ≡ k
    → ((q : ℕ) → Matches (command_at (commands (reached p limit calls)) q) (page_in p limit calls q))
    → IsAskedOf (reached p limit calls).engine (asked_by (reached p limit calls).engine k) r k → r.what ≡ what.Store lba count → covers lba count s ≡ true
    → IsOfWrite p limit calls r s
ask_case p limit calls r lba count s None at' match' is e cov = absurd (aside_no (reached p limit calls).engine.kind lba count (sym is.3 ∙ e))
ask_case p limit calls r lba count s (Some q) at' match' is e cov =
    let w = of_case (command_at (commands (reached p limit calls)) q) (page_in p limit calls q) lba count s (match' q) (sym is.2 ∙ e) cov in
    record {
      place = q;
      at' = at';
      page = w.page;
      has = w.is;
      writes = w.writes;
      covered = w.covered;
      taken = under_way (command_at (commands (reached p limit calls)) q) is.0.passes;
    }

pub stores_are_of_writes : StoresAreOfWrites
stores_are_of_writes p limit calls r lba count s are is e cov =
    let held = run_held p limit calls s are in
    ask_case p limit calls r lba count s r.place refl held.held.agree.kept.each is.1 e cov
