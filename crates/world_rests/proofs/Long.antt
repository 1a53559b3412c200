-- For `rested_disks_have_done`. Each Data FIS that a disk sends brings 512 bytes at least.
use Rattle.std.proofs.Common.{◌≡◌, ℕ, zero, suc, ◌+◌, ◌-◌, ◌*◌, ◌≤◌, Bool, true, false, List, [], ◌∷◌, ◌++◌, drop, length, length-append, length-drop}
use Rattle.std.proofs.{Common.{refl, sym, ap, subst, ◌∙◌, Option, Some, None, Ok, Err, Result, arith}, lemmas.Bool.{and_parts, leb-true, true≢false}}
use Rattle.std.proofs.lemmas.List.{length-replicate}
use Rattle.std.specs.Prelude.{if◌then◌else◌, nat_le, replicate}
use Rattle.fis_view.specs.{Seen.{kind_of, may_have, seen, view_as}, Table.{Activate, Bits, D2h, Data, H2d, Kind, Other, Pio, Setup}}
use Rattle.fis_view.specs.declared.view.{Fis.Fis, FisFault.{FisFault, TheVariants.WrongLength}}
use Rattle.fis_view.specs.declared.view.Fis.TheVariants as view
use Rattle.disk_model.specs.declared.{plan.{DiskPlan.DiskPlan, Profile.{Profile, TheVariants.{Bare, Stock}}}, answer.{Answer.Answer, Fault.Fault}}
use Rattle.disk_model.specs.{declared.request.Command.Command, Between.{Agrees, IsReading, Moves, moved_sectors}, Chunks.chunk_count, Disks.Started}
use Rattle.disk_model.specs.{Disks.{Writing, opening, picked}, Histories.{Happening, Sent}, Laws.{CarriesNext, CarriesRight, ErrsRight, IsPage}}
use Rattle.disk_model.specs.{Laws.{LogsNext, MovesRight, PageRight, bytes_named}, Ledger.{IdentifyData, IsSize, LogOf, Moving, Wanted, ledger}}
use Rattle.disk_model.specs.{Pages.{bare_data, checksum, error_head, error_log, filled_to, profile_data, stock_data, stock_summed}, Runs.IsDiskRun}
use Rattle.disk_model.specs.Runs.{moment}
use Rattle.disk_model.proofs.Door.{agrees, errs_right, last_may, moves_right}

abbrev pub IsLong : Result Fis FisFault → Type 0
IsLong (Ok (view.Payload f)) = 512 ≤ length (drop 4 f)
IsLong _ = Unit {0}

-- ---- a page

fills : (n : ℕ) (bytes : List ℕ) → n ≤ length (filled_to n bytes)
unfolding filled_to
fills n bytes =
    let all = length-append bytes (replicate (n - length bytes) 0) in
    let rest = length-replicate {A = ℕ} (n - length bytes) 0 in
    omega (arith, all, rest)

one_more : (n : ℕ) (bytes : List ℕ) (b : ℕ) → n ≤ length bytes → suc n ≤ length (bytes ++ b ∷ [])
one_more n bytes b long = let all = length-append bytes (b ∷ []) in omega (arith, all, long)

log_long : (fault : Option Fault) → 512 ≤ length (error_log fault)
unfolding error_log
log_long fault = one_more 511 (filled_to 511 (error_head fault)) (checksum (filled_to 511 (error_head fault))) (fills 511 (error_head fault))

bare_long : (sectors : ℕ) (auto : Bool) → 512 ≤ length (bare_data sectors auto)
unfolding bare_data
bare_long sectors auto = fills 512 _

summed_long : (serial sectors : ℕ) (auto : Bool) → 511 ≤ length (stock_summed serial sectors auto)
unfolding stock_summed
summed_long serial sectors auto = one_more 510 (filled_to 510 _) 0xA5 (fills 510 _)

stock_long : (serial sectors : ℕ) (auto : Bool) → 512 ≤ length (stock_data serial sectors auto)
unfolding stock_data
stock_long serial sectors auto =
    one_more 511 (stock_summed serial sectors auto) (checksum (stock_summed serial sectors auto)) (summed_long serial sectors auto)

profile_long : (p : Profile) (sectors : ℕ) (auto : Bool) → 512 ≤ length (profile_data p sectors auto)
profile_long Bare sectors auto = bare_long sectors auto
profile_long (Stock serial) sectors auto = stock_long serial sectors auto

logged_long : (plan : DiskPlan) (sectors : ℕ) (o : Option Command) (error : ℕ) (bytes : List ℕ) → LogsNext plan sectors o error bytes → 512 ≤ length bytes
logged_long plan sectors None error bytes logs = absurd logs
logged_long plan sectors (Some c) error bytes (lba, fails, is) = subst (λ (xs : List ℕ). 512 ≤ length xs) (sym is) (log_long _)

page_long : (plan : DiskPlan) (sectors : ℕ) (pages : List Wanted) (bytes : List ℕ) → IsPage plan sectors pages bytes → 512 ≤ length bytes
page_long plan sectors [] bytes page = absurd page
page_long plan sectors (IdentifyData ∷ later) bytes page = subst (λ (xs : List ℕ). 512 ≤ length xs) (sym page) (profile_long plan.profile sectors plan.auto)
page_long plan sectors (LogOf None ∷ later) bytes page = subst (λ (xs : List ℕ). 512 ≤ length xs) (sym page) (log_long None)
page_long plan sectors (LogOf (Some f) ∷ later) bytes page = logged_long plan sectors (picked plan.order f.among) f.error bytes page

-- ---- data of a read

some_sectors : (n count : ℕ) → n ≡ 512 * count → 4 ≤ n → 512 ≤ n
some_sectors n zero is some = absurd (omega (arith, is, some))
some_sectors n (suc count) is some = omega (arith, is)

module _ (plan : DiskPlan) (sectors : ℕ) (v : Moving) (bytes : List ℕ) (carries : CarriesNext v bytes) (some : 4 ≤ length bytes) where
  reads_long : (medium : List ℕ) (s : Started) (left : ℕ) (up : Bool) → IsReading plan sectors medium s v left up → 512 ≤ length bytes
  reads_long medium s left true r = some_sectors (length bytes) (chunk_count plan s.command left) (carries.count ∙ r.stage.2) some
  reads_long medium s left false r =
      let turn : v.moved + length bytes ≡ bytes_named v.setups = carries.in_turn in
      let named : bytes_named v.setups ≡ 512 * moved_sectors plan s.command left = r.setups.named in
      let moved : v.moved ≡ 512 * moved_sectors plan s.command left = r.moving.moved in
      absurd (omega (arith, turn, named, moved, some))

  moves_long : (medium : List ℕ) (queued : List Command) (owed : List Answer) (s : Option Started) (w : Option Writing) → Moves plan sectors medium queued owed s w (Some v) → 512 ≤ length bytes
  moves_long medium queued owed None None moves = absurd moves
  moves_long medium queued owed (Some s) None moves = reads_long medium s moves.0 moves.1 moves.2
  moves_long medium queued owed None (Some w) moves =
      let writes = moves.1.writes in
      let same = moves.1.moving.same in
      absurd (true≢false (sym writes ∙ ap (λ (c : Command). c.write) (sym same) ∙ carries.reads))
  moves_long medium queued owed (Some s) (Some w) moves = absurd moves

-- ---- each FIS that a disk sends

-- a Data FIS has some bytes
HasSome : Result Fis FisFault → Type 0
HasSome (Ok (view.Payload f)) = 4 ≤ length (drop 4 f)
HasSome _ = Unit {0}

some_by : (kind : Kind) (b : List ℕ) (t : Bool) → may_have kind (length b) ≡ t → HasSome (if t then Ok (view_as kind b) else Err WrongLength)
unfolding HasSome
some_by kind b false is = tt
some_by Data b true is =
    let low : 8 ≤ length b = leb-true 8 (length b) (and_parts (nat_le 8 (length b)) (nat_le (length b) 8196) is).0 in
    let rest = length-drop 4 b in
    omega (arith, low, rest)
some_by H2d b true is = tt
some_by D2h b true is = tt
some_by Activate b true is = tt
some_by Setup b true is = tt
some_by Pio b true is = tt
some_by Bits b true is = tt
some_by Other b true is = tt

has_some : (b : List ℕ) → HasSome (seen b)
unfolding seen
has_some b = some_by (kind_of b) b (may_have (kind_of b) (length b)) refl

module _ (plan : DiskPlan) (sectors : ℕ) (h : List Happening) (a : Agrees plan sectors (moment plan sectors h) (ledger h)) where
  data_long : (bytes : List ℕ) (m : Option Moving) → (ledger h).moving ≡ m → 4 ≤ length bytes → CarriesRight m bytes → PageRight plan sectors (ledger h) m bytes → 512 ≤ length bytes
  data_long bytes None is some carries page = page_long plan sectors (ledger h).pages bytes page
  data_long bytes (Some v) is some carries page =
      let now = moment plan sectors h in
      moves_long plan sectors v bytes carries some now.medium now.queued now.owed now.started now.writing
      (subst (λ (m : Option Moving). Moves plan sectors now.medium now.queued now.owed now.started now.writing m) is a.moving)

  fis_long : (r : Result Fis FisFault) → HasSome r → MovesRight (ledger h) r → ErrsRight plan sectors (ledger h) r → IsLong r
  unfolding HasSome
  fis_long (Ok (view.Payload f)) some moves errs = data_long (drop 4 f) (ledger h).moving refl some moves errs
  fis_long other some moves errs = tt

pub sent_long : (plan : DiskPlan) (sectors : ℕ) (h : List Happening) (b : List ℕ) → IsSize plan sectors → IsDiskRun plan sectors (h ++ Sent b ∷ []) → IsLong (seen b)
sent_long plan sectors h b size run =
    let parts = last_may plan sectors (opening sectors) h (Sent b) run in
    fis_long plan sectors h (agrees plan sectors h size parts.0) (seen b) (has_some b)
    (moves_right plan sectors h b size run) (errs_right plan sectors h b size run)
