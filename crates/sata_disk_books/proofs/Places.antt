-- The page of a place is that of a command of this place, and a queued command has the tag of its FIS.
use Rattle.std.proofs.Common.{◌≡◌, ℕ, zero, suc, ◌+◌, ◌/◌, ◌%◌, ◌<◌, true, false, List, [], ◌∷◌, get_or, set, Some, None, refl, sym, subst, arith}
use Rattle.std.proofs.{Common.{inl, inr}, lemmas.{Bool.cases_eq, List.{get_or-set_other}}}
use Rattle.std.specs.{Prelude.{Option, Bool, ◌==◌, ◌&&◌, nat_le, nat_lt, if◌then◌else◌, replicate}, Option.option_map}
use Rattle.fis_view.specs.Table.{H2d, Command, Count, Features, Lba, field}
use Rattle.block_command.specs.declared.command.Command as block
use Rattle.block_command.specs.Laws.{Happening, blank}
use Rattle.block_disk.specs.{Laws.{At, Page, Reset, Shown, Took, at_page, entered_in, page_entered}, Requests.{Asked, Answered, Books, Drawn, OnLink}}
use Rattle.block_disk.specs.Requests.{Seen, entered_by, is_out, no_books}
use Rattle.block_disk.proofs.Door.{each_is}
use Rattle.ata_command.specs.Asks.{DiskFacts, aborted, asked, asked_by, block_in, does_smart, moved, queued, sets, sets_multiple, setting_of}
use Rattle.ata_command.specs.{Asks.{smart_task, transferred_by}, Modes.multiple_of, Opcodes.opcode_of, declared.asked.Asked.Asked as Ask}
use Rattle.ata_command.specs.declared.{asked.{LogPage.LogPage, SmartTask.SmartTask}, opcode.Opcode.Opcode, settings.Multiple.Multiple}
use Rattle.ata_command.specs.declared.settings.{Setting.Setting, Settings.Settings}
use Rattle.ata_command.specs.declared.asked.Asked.TheVariants as ask
use Rattle.ata_command.specs.declared.opcode.Opcode.TheVariants as code
use Rattle.ata_command.specs.declared.opcode.Transfer as moves
use Rattle.disk_pages.specs.{Logs.reads_log, Profiles.facts_of}
use Rattle.sata_disk.specs.Hearing.{with_logs}
use Rattle.sata_disk_laws.specs.Laws.{seen_in}
use Rattle.sata_disk_books.specs.{Books.books_after, Ended.{PagesAreOfPlaces, PlacesAreTags}}

-- ## Pages

abbrev IsAt : ℕ → Option Page → Type 0
IsAt q None = Unit {0}
IsAt q (Some page) = page.command.place ≡ q

abbrev AreAt : List (Option Page) → Type 0
AreAt pages = (q : ℕ) → IsAt q (get_or pages q None)

here : (pages : List (Option Page)) (i k : ℕ) (x : Option Page) → IsAt k (get_or pages i None) → IsAt k x → IsAt k (get_or (set pages i x) i None)
here [] i k x was new = was
here (p ∷ pages) zero k x was new = new
here (p ∷ pages) (suc i) k x was new = here pages i k x was new

set_at : (pages : List (Option Page)) (place : ℕ) (x : Option Page) → AreAt pages → IsAt place x → AreAt (set pages place x)
set_at pages place x before now q = elim (cases_eq place q) [
  | inl same ↦ subst (λ (j : ℕ). IsAt j (get_or (set pages place x) j None)) same (here pages place place x (before place) now)
  | inr apart ↦ subst (IsAt q) (sym (get_or-set_other pages place q x None (λ s. apart (sym s)))) (before q)
]

same_place : (q : ℕ) (h : Happening) (x : Option Page) → IsAt q x → IsAt q (option_map (λ p. page_entered p h) x)
same_place q h None is = tt
same_place q h (Some p) is = is

no_pages : AreAt (replicate 33 None)
no_pages q = subst (IsAt q) (sym (each_is (Option Page) 33 q None)) tt

shown_at_places : (pages : List (Option Page)) (s : Shown) → AreAt pages → AreAt (entered_in pages s)
shown_at_places pages (Took c) before = set_at pages c.place (Some (record { command = c; ledger = blank })) before refl
shown_at_places pages (At place h) before =
    set_at pages place (option_map (λ p. page_entered p h) (at_page pages place)) before (same_place place h (at_page pages place) (before place))
shown_at_places pages Reset before = no_pages
shown_at_places pages other before = before

answer_at_places : (b : Books) (place : ℕ) (h : Happening) (d : Bool) → AreAt b.pages
    → AreAt (if d then record { pages = entered_in b.pages (At place h); out = set b.out place 0 } else b).pages
answer_at_places b place h true before = shown_at_places b.pages (At place h) before
answer_at_places b place h false before = before

seen_at_places : (b : Books) (s : Seen) → AreAt b.pages → AreAt (entered_by b s).pages
seen_at_places b (OnLink s) before = shown_at_places b.pages s before
seen_at_places b (Asked place number s) before = shown_at_places b.pages s before
seen_at_places b (Answered place number h) before = answer_at_places b place h (is_out b.out place number) before
seen_at_places b (Drawn number) before = before

all_at_places : (xs : List Seen) (b : Books) → AreAt b.pages → AreAt (books_after b xs).pages
unfolding books_after
all_at_places [] b before = before
all_at_places (s ∷ later) b before = all_at_places later (entered_by b s) (seen_at_places b s before)

pub pages_are_of_places : PagesAreOfPlaces
pages_are_of_places p limit calls place page is = subst (IsAt place) is (all_at_places (seen_in p limit calls) no_books no_pages place)

-- ## Tags

abbrev HasTag : ℕ → Ask → Type 0
HasTag tag (ask.Moves m) = m.command.place < 32 → m.command.place ≡ tag
HasTag tag other = Unit {0}

log_case : (tag : ℕ) (p : LogPage) (b : Bool) → HasTag tag (if b then ask.ReadsLog p else aborted)
log_case tag p true = tt
log_case tag p false = tt

logs : (tag : ℕ) (a : Ask) → HasTag tag a → HasTag tag (with_logs a)
logs tag (ask.ReadsLog p) is = log_case tag p ((p.count == 1) && reads_log p.log p.page p.count)
logs tag (ask.Moves m) is = is
logs tag other is = tt

unless : (tag : ℕ) (a b : Ask) (c : Bool) → HasTag tag a → HasTag tag b → HasTag tag (if c then a else b)
unless tag a b true first second = first
unless tag a b false first second = second

module _ (f : List ℕ) (d : DiskFacts) (s : Settings) where
  abbrev tag : ℕ
  tag = field H2d Count f % 256 / 8

  move_case : (c : block.Command) (wide : Bool) → (c.place < 32 → c.place ≡ tag) → HasTag tag (moved d c wide)
  move_case c wide is = unless tag _ _ (nat_le (c.lba + c.count) d.sectors) is tt

  queued_case : (write : Bool) → HasTag tag (queued f write d s)
  queued_case write = unless tag _ _ (nat_le d.depth tag) tt (move_case _ true (λ low. refl))

  transfer_case : (t : moves.Transfer) (block : Option ℕ) → HasTag tag (transferred_by f t d s block)
  transfer_case t None = tt
  transfer_case t (Some block) = move_case _ t.wide (λ low. absurd (omega (arith, low)))

  sets_case : (x : Option Setting) → HasTag tag (sets x)
  sets_case None = tt
  sets_case (Some y) = tt

  multiple_case : (x : Option Multiple) → HasTag tag (sets_multiple x)
  multiple_case None = tt
  multiple_case (Some y) = tt

  smart_case : (x : Option SmartTask) → HasTag tag (does_smart x)
  smart_case None = tt
  smart_case (Some y) = tt

  code_case : (o : Opcode) → HasTag tag (asked_by o f d s)
  code_case code.ReadQueued = queued_case false
  code_case code.WriteQueued = queued_case true
  code_case (code.Transfer t) = transfer_case t (block_in t.way s.multiple)
  code_case code.SetFeatures = sets_case (setting_of s.mode (field H2d Features f % 256) (field H2d Count f % 256))
  code_case code.SetMultiple = multiple_case (multiple_of (field H2d Count f % 256))
  code_case code.DataSet =
      unless tag _ aborted ((field H2d Features f % 256 == 1) && nat_lt 0 (field H2d Count f) && nat_le (field H2d Count f) d.trim_blocks) tt tt
  code_case code.Smart =
      unless tag _ aborted (field H2d Lba f / 0x100 % 0x10000 == 0xC24F) (smart_case (smart_task (field H2d Features f % 256) (field H2d Count f % 256))) tt
  code_case other = tt

  of_asked : HasTag tag (with_logs (asked f d s))
  unfolding asked
  of_asked = logs tag (asked_by (opcode_of (field H2d Command f)) f d s) (code_case (opcode_of (field H2d Command f)))

pub places_are_tags : PlacesAreTags
places_are_tags d f move is = subst (HasTag (field H2d Count f % 256 / 8)) is (of_asked f (facts_of d.profile) d.front.settings)
