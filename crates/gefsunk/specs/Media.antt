-- What a disk asks its caller for, and what the caller answers, as C has them: of a disk of a machine, and of one by itself.
use Rattle.std.specs.Prelude.{◌≡◌, ℕ, ◌==◌, nat_lt, if◌then◌else◌, List, take, drop, slice_get, Option, Some, None, MatchOption}
use Rattle.block_command.specs.declared.answer.AnswerError.{AnswerError}
use Rattle.block_command.specs.declared.answer.AnswerError.TheVariants as answers
use Rattle.block_engine.specs.declared.request.{Answer.{Answer, TheVariants.{Loaded, Done as WasDone, Failed}}, ErrorKind.ErrorKind}
use Rattle.block_engine.specs.declared.request.{ErrorKind.TheVariants.{Uncorrectable, NotFound, Aborted}, Range.Range, What.{What, TheVariants.Load}}
use Rattle.block_engine.specs.declared.request.What.TheVariants.{Store, Flush, Discard}
use Rattle.ahci_machine.specs.declared.request.MediumId.{MediumId}
use Rattle.gefsunk.specs.declared.{event.{Event.Event, MediumRequest.MediumRequest, WantedBytes.WantedBytes}, medium.SectorRange.SectorRange}
use Rattle.gefsunk.specs.declared.status.Status.{Status}
use Rattle.gefsunk.specs.declared.status.Status.TheVariants as status

-- ---- which request it is

abbrev pub place_named : MediumRequest → Option ℕ
place_named r = if nat_lt r.place 33 then Some r.place else None

abbrev pub place_shown : Option ℕ → ℕ
place_shown None = 33
place_shown (Some p) = p

abbrev pub request_shown : MediumId → Option ℕ → MediumRequest
request_shown id place = record { port = id.port; place = place_shown place; disk = id.disk; number = id.number }

-- ---- events: what a kind does not have is 0

abbrev pub no_wanted : WantedBytes
no_wanted = record { kind = 0; owner = 0; number = 0; done = 0 }

abbrev pub no_request : MediumRequest
no_request = record { port = 0; place = 0; disk = 0; number = 0 }

abbrev pub plain : (kind : ℕ) → Event
plain n = record { kind = n; port = 0; up = 0; count = 0; lba = 0; at = 0; len = 0; wanted = no_wanted; request = no_request }

abbrev pub medium_shown : MediumId → Option ℕ → What → Event
medium_shown id place (Load lba count) = record (plain 4) { port = id.port; lba = lba; count = count; request = request_shown id place }
medium_shown id place (Store lba count) = record (plain 5) { port = id.port; lba = lba; count = count; request = request_shown id place }
medium_shown id place Flush = record (plain 6) { port = id.port; request = request_shown id place }
medium_shown id place Discard = record (plain 7) { port = id.port; request = request_shown id place }

-- ---- answers

-- why an answer does not fit its request
abbrev pub misfit_of : AnswerError → Status
misfit_of answers.NotOut = status.NotOut
misfit_of answers.OtherKind = status.OtherKind
misfit_of answers.OtherLength = status.OtherLength
misfit_of answers.OtherSector = status.OtherSector

abbrev pub IsLoaded : Answer → List ℕ → Type 0
IsLoaded (Loaded sectors) bytes = sectors.items ≡ bytes
IsLoaded WasDone bytes = ⊥
IsLoaded (Failed failure) bytes = ⊥

abbrev pub error_of : (bits : ℕ) → Option ErrorKind
error_of n = if n == 0x40 then Some Uncorrectable else if n == 0x10 then Some NotFound else if n == 0x04 then Some Aborted else None

-- ---- bytes

-- so many bytes from one on, as many as there are and fit
abbrev pub piece : {A : Type 0} → List A → (from room : ℕ) → List A
piece bytes from room = take room (drop from bytes)

-- of what is there; of a request that is not out nothing is
abbrev pub PieceRule : Option (List ℕ) → (from room : ℕ) → Status → List ℕ → Type 0
PieceRule None from room answer got = answer ≡ status.NotOut
PieceRule (Some bytes) from room answer got = (answer ≡ status.Done) × (got ≡ piece bytes from room)

abbrev pub range_shown : Range → SectorRange
range_shown r = record { lba = r.lba; count = r.count }

-- the range that has this number
abbrev pub RangeRule : List Range → (number : ℕ) → Status → SectorRange → Type 0
RangeRule ranges number answer got =
    MatchOption (slice_get ranges number) (answer ≡ status.Nothing) (λ range. (answer ≡ status.Done) × (got ≡ range_shown range))
