-- For `hosts_are_careful`. The ledger hears the same of a frame and of the marked one.
use Rattle.std.proofs.Common.{◌≡◌, ◌==◌, ℕ, ◌%◌, ◌<◌, ◌≤◌, Bool, true, false, List, [], ◌∷◌, length, refl, sym, ap, subst, ◌∙◌, Option, Some, None, Ok, Err, Result}
use Rattle.std.specs.Prelude.{if◌then◌else◌, find, not, ◌&&◌}
use Rattle.fis_view.specs.{Frames.{IsFrame, marked}, Marks.IsMarked}
use Rattle.fis_view.specs.Table.{Activate, Bits, BufferId, C, D2h, H2d, Kind, Other, Pio, SActive, Setup, field}
use Rattle.fis_view.specs.{Seen.{kind_of, may_have, seen, view_as}, declared.{view.Fis.Fis, view.FisFault.{FisFault, TheVariants.WrongLength}}}
use Rattle.fis_view.specs.Table as table
use Rattle.fis_view.specs.declared.view.Fis.TheVariants as view
use Rattle.fis_view.proofs.Door.{is_marked}
use Rattle.disk_model.specs.{declared.{request.Command.Command, request.Request.Request}, Ends.{Fits, FitsData, FitsRequest, IsRight}}
use Rattle.disk_model.specs.Laws.{AnswersFirst, CarriesRight, IsRegister, SetsUpNext, SetsUpRight, ShowsFirst, StartsOne}
use Rattle.disk_model.specs.Ledger.{Accepts, Finishes, Ledger, Moving, Names, Refuses, Reply, ShowsPage, Signs, Stretch, answers, asks, has_error}
use Rattle.disk_model.specs.{Ledger.{is_auto, listens_down, listens_up, sends_data, sets_up, takes_data, with_auto}, Requests.request_of}
use Rattle.disk_simulation.specs.{Joined.IsShort, Marked.{IsHeardAlike, MarksTellNothing}}

module _ (old new : List ℕ) (port : ℕ) (m : IsMarked port old new) where
  pub same_request : request_of new ≡ request_of old
  same_request =
      let c = m.fields H2d C (λ e. cc e) in
      let command = m.fields H2d table.Command (λ e. cc e) in
      let control = m.fields H2d table.Control (λ e. cc e) in
      let lba = m.fields H2d table.Lba (λ e. cc e) in
      let count = m.fields H2d table.Count (λ e. cc e) in
      let features = m.fields H2d table.Features (λ e. cc e) in
      rw (c, command, control, lba, count, features) refl

  pub same_error : has_error new ≡ has_error old
  same_error = ap (λ (n : ℕ). n % 2 == 1) (m.fields Bits table.Status (λ e. cc e))

  -- what holds of both frames as each kind, and where they have no view, holds of what is seen
  pub by_kinds : (P : Result Fis FisFault → Result Fis FisFault → Type 0) → ((kind : Kind) → P (Ok (view_as kind old)) (Ok (view_as kind new)))
      → P (Err WrongLength) (Err WrongLength) → P (seen old) (seen new)
  unfolding seen
  by_kinds P each bad = subst (P (seen old)) (sym m.view) (by_test (may_have (kind_of old) (length old)))
    where
      by_test : (b : Bool)
          → P (if b then Ok (view_as (kind_of old) old) else Err WrongLength) (if b then Ok (view_as (kind_of old) new) else Err WrongLength)
      by_test true = each (kind_of old)
      by_test false = bad

module _ (k : Ledger) (old new : List ℕ) (port : ℕ) (m : IsMarked port old new) where
  record IsAlike (r s : Result Fis FisFault) : Type 0 where
    up : listens_up k s ≡ listens_up k r
    down : listens_down k s ≡ listens_down k r
    right : IsRight k r → IsRight k s
    fits : Fits k r → Fits k s
    short : IsShort r → IsShort s

  -- what goes up only
  only_up : (r s : Result Fis FisFault) → listens_up k s ≡ listens_up k r → listens_down k s ≡ listens_down k r → (IsRight k r → IsRight k s)
      → (Fits k r → ⊥) → IsShort s → IsAlike r s
  only_up r s up down right none short = record { up = up; down = down; right = right; fits = λ fits. absurd (none fits); short = λ few. short }

  alike_h2d : IsAlike (Ok (view.RegH2D old)) (Ok (view.RegH2D new))
  alike_h2d = record {
    up = refl;
    down = ap (λ (r : Request). asks k r k.failed) (same_request old new port m);
    right = λ right. record { moves = tt; answers = tt; replies = tt; asked = tt; fine = refl };
    fits = λ fits. (fits.0, subst (FitsRequest k) (sym (same_request old new port m)) fits.1);
    short = λ few. tt;
  }

  same_register : (kind : Kind) (i status error first : ℕ) → IsRegister kind i status error first old → IsRegister kind i status error first new
  same_register kind i status error first r = record {
    interrupt = m.fields kind table.I (λ e. cc e) ∙ r.interrupt;
    status_is = m.fields kind table.Status (λ e. cc e) ∙ r.status_is;
    error_is = m.fields kind table.Error (λ e. cc e) ∙ r.error_is;
    lba = m.fields kind table.Lba (λ e. cc e) ∙ r.lba;
    count = m.fields kind table.Count (λ e. cc e) ∙ r.count;
  }

  same_answer : (xs : List Reply) → AnswersFirst xs old → AnswersFirst xs new
  same_answer (Signs ∷ xs) answers = same_register D2h 0 0x50 1 1 answers
  same_answer (Accepts ∷ xs) answers = same_register D2h 0 0x50 0 0 answers
  same_answer (Finishes ∷ xs) answers = same_register D2h 1 0x50 0 0 answers
  same_answer (Refuses ∷ xs) answers = same_register D2h 1 0x51 4 0 answers
  same_answer other answers = absurd answers

  alike_d2h : IsAlike (Ok (view.RegD2H old)) (Ok (view.RegD2H new))
  alike_d2h =
      only_up (Ok (view.RegD2H old)) (Ok (view.RegD2H new)) refl refl
      (λ right. record { moves = tt; answers = tt; replies = same_answer k.awaited right.replies; asked = tt; fine = refl }) (λ fits. fits) tt

  same_show : (xs : List Reply) → ShowsFirst xs old → ShowsFirst xs new
  same_show (ShowsPage ∷ xs) shows =
      (same_register Pio 1 0x58 0 0 shows.0, m.fields Pio table.D (λ e. cc e) ∙ shows.1, m.fields Pio table.Transfer (λ e. cc e) ∙ shows.2)
  same_show other shows = absurd shows

  alike_pio : IsAlike (Ok (view.PioSetup old)) (Ok (view.PioSetup new))
  alike_pio =
      only_up (Ok (view.PioSetup old)) (Ok (view.PioSetup new)) refl refl
      (λ right. record { moves = tt; answers = tt; replies = same_show k.awaited right.replies; asked = tt; fine = refl }) (λ fits. fits) tt

  alike_bits : IsAlike (Ok (view.SetBits old)) (Ok (view.SetBits new))
  alike_bits = record {
    up =
        ap (λ (b : Bool). answers k (field Bits table.Error new) b) (same_error old new port m)
        ∙ ap (λ (n : ℕ). answers k n (has_error old)) (m.fields Bits table.Error (λ e. cc e));
    down = refl;
    right = λ right. record {
      moves = tt;
      answers = λ fine. subst (Names k.unanswered) (sym (m.fields Bits SActive (λ e. cc e))) (right.answers (sym (same_error old new port m) ∙ fine));
      replies = tt;
      asked = tt;
      fine = (same_error old new port m) ∙ right.fine;
    };
    fits = λ fits. absurd fits;
    short = λ few. tt;
  }

  same_next : (c : Command) (moved : ℕ) (setups : List Stretch) → SetsUpNext c moved setups old → SetsUpNext c moved setups new
  same_next c moved setups n =
      let tag = m.fields Setup BufferId (λ e. cc e) in
      let way = m.fields Setup table.D (λ e. cc e) in
      let offset = m.fields Setup table.Offset (λ e. cc e) in
      let count = m.fields Setup table.Count (λ e. cc e) in
      record {
        tag = tag ∙ n.tag;
        direction = way ∙ n.direction;
        in_turn = n.in_turn;
        inside = rw (offset, count) n.inside;
        apart = rw (offset, count) n.apart;
      }

  same_start : (o : Option Command) → StartsOne o old → StartsOne o new
  same_start None starts = absurd starts
  same_start (Some c) starts = same_next c 0 [] starts

  same_setup : (v : Option Moving) → SetsUpRight k v old → SetsUpRight k v new
  same_setup None right =
      let tag = m.fields Setup BufferId (λ e. cc e) in
      subst (λ (n : ℕ). StartsOne (find (λ c. c.tag == n) k.outstanding) new) (sym tag)
      (same_start (find (λ c. c.tag == field Setup BufferId old) k.outstanding) right)
  same_setup (Some v) right = (right.0, same_next v.command v.moved v.setups right.1)

  same_auto : is_auto new ≡ is_auto old
  same_auto =
      ap (λ (n : ℕ). n == 1 && not (field Setup table.D new == 1)) (m.fields Setup table.A (λ e. cc e))
      ∙ ap (λ (n : ℕ). field Setup table.A old == 1 && not (n == 1)) (m.fields Setup table.D (λ e. cc e))

  alike_setup : IsAlike (Ok (view.DmaSetup old)) (Ok (view.DmaSetup new))
  alike_setup =
      let tag = m.fields Setup BufferId (λ e. cc e) in
      let offset = m.fields Setup table.Offset (λ e. cc e) in
      let count = m.fields Setup table.Count (λ e. cc e) in
      record {
        up =
            ap (λ (b : Bool). with_auto b (sets_up k k.moving (field Setup BufferId new) (field Setup table.Offset new) (field Setup table.Count new))) same_auto
            ∙ ap (λ (n : ℕ). with_auto (is_auto old) (sets_up k k.moving n (field Setup table.Offset new) (field Setup table.Count new))) tag
            ∙ ap (λ (n : ℕ). with_auto (is_auto old) (sets_up k k.moving (field Setup BufferId old) n (field Setup table.Count new))) offset
            ∙ ap (λ (n : ℕ). with_auto (is_auto old) (sets_up k k.moving (field Setup BufferId old) (field Setup table.Offset old) n)) count;
        down = refl;
        right = λ right. record { moves = same_setup k.moving right.moves; answers = tt; replies = tt; asked = tt; fine = refl };
        fits = λ fits. absurd fits;
        short = λ few. subst (λ (n : ℕ). n ≤ 8192) (sym count) few;
      }

  alike_activate : IsAlike (Ok (view.DmaActivate old)) (Ok (view.DmaActivate new))
  alike_activate =
      only_up (Ok (view.DmaActivate old)) (Ok (view.DmaActivate new)) refl refl
      (λ right. record { moves = right.moves; answers = tt; replies = tt; asked = tt; fine = refl }) (λ fits. fits) tt

  alike_data : IsAlike (Ok (view.Payload old)) (Ok (view.Payload new))
  alike_data = record {
    up = ap (λ (bytes : List ℕ). sends_data k k.moving bytes) m.payload;
    down = ap (λ (bytes : List ℕ). takes_data k k.moving bytes) m.payload;
    right =
        λ right. record {
          moves = subst (λ (bytes : List ℕ). CarriesRight k.moving bytes)
              (sym m.payload) right.moves;
          answers = tt;
          replies = tt;
          asked = right.asked;
          fine = refl;
        };
    fits = λ fits. subst (λ (bytes : List ℕ). FitsData k.moving bytes) (sym m.payload) fits;
    short = λ few. tt;
  }

  alike_other : IsAlike (Ok (view.Unknown old)) (Ok (view.Unknown new))
  alike_other =
      only_up (Ok (view.Unknown old)) (Ok (view.Unknown new)) refl refl
      (λ right. record { moves = tt; answers = tt; replies = tt; asked = tt; fine = refl }) (λ fits. fits) tt

  alike_kind : (kind : Kind) → IsAlike (Ok (view_as kind old)) (Ok (view_as kind new))
  alike_kind H2d = alike_h2d
  alike_kind D2h = alike_d2h
  alike_kind Activate = alike_activate
  alike_kind Setup = alike_setup
  alike_kind table.Data = alike_data
  alike_kind Pio = alike_pio
  alike_kind Bits = alike_bits
  alike_kind Other = alike_other

  heard_alike : IsHeardAlike k old new
  heard_alike =
      let bad : IsAlike (Err WrongLength) (Err WrongLength) =
      only_up (Err WrongLength) (Err WrongLength) refl refl (λ right. record { moves = tt; answers = tt; replies = tt; asked = tt; fine = refl }) (λ fits. fits) tt in
      let a : IsAlike (seen old) (seen new) = by_kinds old new port m IsAlike alike_kind bad in
      record { up = a.up; down = a.down; right = a.right; fits = a.fits; short = a.short }

pub marks_tell_nothing : MarksTellNothing
marks_tell_nothing k bytes port frame below = heard_alike k bytes (marked bytes port) port (is_marked bytes port frame below)

-- ## A Set Device Bits FIS that is marked

pub record IsMarkedBits (old new g : List ℕ) : Type 0 where
  pub is : seen old ≡ Ok (view.SetBits old)
  pub same : g ≡ new

pub bits_by : (kind : Kind) (b : Bool) (old new g : List ℕ) → (if b then Ok (view_as kind new) else Err WrongLength) ≡ Ok (view.SetBits g)
    → ((if b then Ok (view_as kind old) else Err WrongLength) ≡ Ok (view.SetBits old)) × (g ≡ new)
bits_by kind false old new g e = absurd (cc e)
bits_by Bits true old new g e = let same : new ≡ g = cc e in (refl, sym same)
bits_by other true old new g e = absurd (cc e)

pub bits_of_marked : (port : ℕ) (old g : List ℕ) → IsFrame old → port < 16 → seen (marked old port) ≡ Ok (view.SetBits g)
    → IsMarkedBits old (marked old port) g
unfolding seen
bits_of_marked port old g frame below is =
    let m : IsMarked port old (marked old port) = is_marked old port frame below in
    let parts = bits_by (kind_of old) (may_have (kind_of old) (length old)) old (marked old port) g (sym m.view ∙ is) in
    record { is = parts.0; same = parts.1 }
