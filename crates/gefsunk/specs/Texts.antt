-- Which bytes have a text, and what is left where they are refused.
use Rattle.std.specs.Prelude.{◌≡◌, ℕ, ◌<◌, ◌≤◌, true, false, List, Err, IsOk}
use Rattle.fis_view.specs.{Frames.is_frame, Seen.seen}
use Rattle.fis_view.specs.declared.view.FisFault.TheVariants as fault
use Rattle.gefsunk.specs.declared.status.Status.{Status}
use Rattle.gefsunk.specs.declared.status.Status.TheVariants as status

-- the bytes, the answer, the room, and the length that C reads before and after. No text has more than 160 bytes, so no room of 160 is
-- too short
abbrev pub TextRule : List ℕ → Status → ℕ → ℕ → ℕ → Type 0
TextRule fis status.Done room old new = (is_frame fis ≡ true) × IsOk (seen fis) × (new ≤ room) × (new ≤ 160)
TextRule fis status.BadLength room old new = (is_frame fis ≡ false) × (new ≡ old)
TextRule fis status.WrongLength room old new =
    (is_frame fis ≡ true) × (seen fis ≡ Err fault.WrongLength) × (new ≡ old)
TextRule fis status.TooShort room old new = (is_frame fis ≡ true) × IsOk (seen fis) × (room < 160) × (new ≡ old)
TextRule fis _ room old new = ⊥
