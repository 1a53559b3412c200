-- For `lines_lead_to_beginning_anew`. A FIS that is marked with a port is of a disk, signs, reports and asks where it
-- did before.
use Rattle.std.proofs.Common.{◌≡◌, ℕ, ◌<◌, List, refl, sym, subst, ◌∙◌, Ok, Result}
use Rattle.fis_view.specs.{Frames.{IsFrame, marked}, Marks.IsMarked, Table.{Bits, D2h, EStatus, H2d, Kind, Pio}, Seen.{seen, view_as}}
use Rattle.fis_view.specs.declared.{view.Fis.Fis, view.FisFault.FisFault}
use Rattle.fis_view.specs.Table as table
use Rattle.fis_view.specs.declared.view.Fis.TheVariants as view
use Rattle.fis_view.proofs.Door.{is_marked}
use Rattle.hba_fbs.specs.Posting.{is_signature, signs}
use Rattle.disk_model.specs.{declared.request.Request.Request, Anew.IsRequest, Ends.reports, Requests.request_of}
use Rattle.disk_simulation.specs.{Files.IsOfDisk, Line.{IsAskedAlike, MarksAskNothing}, Watched.{IsPlain, IsPlainRequest}}
use Rattle.disk_simulation.proofs.joined.MarkedLemmas.{by_kinds, same_error, same_request}

-- a command that asks for this
abbrev IsAsking : Request → Result Fis FisFault → Type 0
IsAsking r (Ok (view.RegH2D f)) = request_of f ≡ r
IsAsking r _ = ⊥

asking : (bytes : List ℕ) (r : Request) → IsRequest bytes r → IsAsking r (seen bytes)
asking bytes r q = subst (IsAsking r) (sym q.is) q.asks

requests : (bytes : List ℕ) (r : Request) (s : Result Fis FisFault) → seen bytes ≡ s → IsAsking r s → IsRequest bytes r
requests bytes r (Ok (view.RegH2D f)) is asks = record { frame = f; is = is; asks = asks }
requests bytes r other is asks = absurd asks

module _ (old new : List ℕ) (port : ℕ) (m : IsMarked port old new) where
  record IsSame (r s : Result Fis FisFault) : Type 0 where
    disk : IsOfDisk r → IsOfDisk s
    signature : signs s ≡ signs r
    error : reports s ≡ reports r
    plain : IsPlain r → IsPlain s
    asked : (q : Request) → IsAsking q r → IsAsking q s

  same_signature : is_signature new ≡ is_signature old
  same_signature =
      let error = m.fields D2h table.Error (λ e. cc e) in
      let status = m.fields D2h table.Status (λ e. cc e) in
      let count = m.fields D2h table.Count (λ e. cc e) in
      let lba = m.fields D2h table.Lba (λ e. cc e) in
      rw (error, status, count, lba) refl

  same_kind : (kind : Kind) → IsSame (Ok (view_as kind old)) (Ok (view_as kind new))
  same_kind H2d = record {
    disk = λ mine. mine;
    signature = refl;
    error = refl;
    plain = λ plain. subst IsPlainRequest (sym (same_request old new port m)) plain;
    asked = λ q asks. same_request old new port m ∙ asks;
  }
  same_kind D2h = record { disk = λ mine. mine; signature = same_signature; error = refl; plain = λ plain. plain; asked = λ q asks. asks }
  same_kind Pio = record {
    disk = λ mine. m.fields Pio EStatus (λ e. cc e) ∙ mine;
    signature = refl;
    error = refl;
    plain = λ plain. plain;
    asked = λ q asks. asks;
  }
  same_kind Bits = record { disk = λ mine. mine; signature = refl; error = same_error old new port m; plain = λ plain. plain; asked = λ q asks. asks }
  same_kind other = record { disk = λ mine. mine; signature = refl; error = refl; plain = λ plain. plain; asked = λ q asks. asks }

  same_seen : IsSame (seen old) (seen new)
  same_seen =
      by_kinds old new port m IsSame same_kind
      (record { disk = λ mine. mine; signature = refl; error = refl; plain = λ plain. plain; asked = λ q asks. asks })

  asked_alike : IsAskedAlike old new
  asked_alike = record {
    signature = same_seen.signature;
    error = same_seen.error;
    plain = same_seen.plain;
    request = λ q asks. requests new q (seen new) refl (same_seen.asked q (asking old q asks));
  }

pub disk_marked : (bytes : List ℕ) (port : ℕ) → IsFrame bytes → port < 16 → IsOfDisk (seen bytes) → IsOfDisk (seen (marked bytes port))
disk_marked bytes port frame below mine = (same_seen bytes (marked bytes port) port (is_marked bytes port frame below)).disk mine

pub marks_ask_nothing : MarksAskNothing
marks_ask_nothing bytes port frame below = asked_alike bytes (marked bytes port) port (is_marked bytes port frame below)
