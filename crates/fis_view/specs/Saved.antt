-- Frames as words.
use Rattle.std.specs.{Prelude.{◌≡◌, ℕ, ◌<◌, ◌^◌, List, Bool, length}, List.AllByRecursion}
use Rattle.std.proofs.Common.{ap, sym, ◌∙◌}
use Rattle.saved_state.specs.State.{IsToldApart, put_all, put_list, put_number, put_pair, put_three, number_apart, all_apart, list_apart, pair_apart}
use Rattle.saved_state.specs.State.{three_apart, parts_apart}
use Rattle.fis_view.specs.{declared.frame.Stamp.Stamp, Frames.{IsFrame, Stamped, is_frame}}

-- how many bytes there are, and then each
abbrev pub put_bytes : List ℕ → List ℕ → List ℕ
put_bytes = put_list put_number

abbrev pub KeepsBytes : List ℕ → Type 0
KeepsBytes = AllByRecursion (λ n. n < 2 ^ 8)

-- the port, the connection, the number, and the connections that are shown
abbrev pub StampParts : Type 0
StampParts = ℕ × ℕ × (ℕ × List ℕ)

abbrev pub stamp_parts : Stamp → StampParts
stamp_parts stamp = (stamp.port, stamp.conn, (stamp.number, stamp.shown))

abbrev pub put_stamp_parts : StampParts → List ℕ → List ℕ
put_stamp_parts = put_three put_number put_number (put_pair put_number (put_all put_number))

abbrev pub KeepsStampParts : StampParts → Type 0
KeepsStampParts parts = (parts.0 < 2 ^ 8) × (parts.1 < 2 ^ 32)
    × ((parts.2.0 < 2 ^ 32) × ((length parts.2.1 ≡ 15) × AllByRecursion (λ n. n < 2 ^ 32) parts.2.1))

abbrev pub put_stamp : Stamp → List ℕ → List ℕ
put_stamp stamp rest = put_stamp_parts (stamp_parts stamp) rest

abbrev pub KeepsStamp : Stamp → Type 0
KeepsStamp stamp = KeepsStampParts (stamp_parts stamp)

-- the stamp, and the bytes
abbrev pub FrameParts : Type 0
FrameParts = Stamp × List ℕ

abbrev pub frame_parts : Stamped → FrameParts
frame_parts frame = (frame.stamp, frame.bytes)

abbrev pub put_frame_parts : FrameParts → List ℕ → List ℕ
put_frame_parts = put_pair put_stamp put_bytes

abbrev pub KeepsFrameParts : FrameParts → Type 0
KeepsFrameParts parts = KeepsStamp parts.0 × KeepsBytes parts.1

abbrev pub put_frame : Stamped → List ℕ → List ℕ
put_frame frame rest = put_frame_parts (frame_parts frame) rest

abbrev pub KeepsFrame : Stamped → Type 0
KeepsFrame frame = KeepsFrameParts (frame_parts frame) × IsFrame frame.bytes

-- whether the bytes are those of a frame
abbrev pub fits_frame : FrameParts → Bool
fits_frame parts = is_frame parts.1

-- ---- words are those of one value

pub bytes_apart : IsToldApart put_bytes KeepsBytes
bytes_apart = list_apart put_number (λ n. n < 2 ^ 8) (λ a b x y k l e. number_apart a b x y e)

pub stamp_parts_apart : IsToldApart put_stamp_parts KeepsStampParts
stamp_parts_apart = three_apart put_number (λ n. n < 2 ^ 8) (λ a b x y k l e. number_apart a b x y e)
    put_number (λ n. n < 2 ^ 32) (λ a b x y k l e. number_apart a b x y e)
    (put_pair put_number (put_all put_number)) (λ p. (p.0 < 2 ^ 32) × ((length p.1 ≡ 15) × AllByRecursion (λ n. n < 2 ^ 32) p.1))
    (pair_apart put_number (λ n. n < 2 ^ 32) (λ a b x y k l e. number_apart a b x y e)
    (put_all put_number) (λ all. (length all ≡ 15) × AllByRecursion (λ n. n < 2 ^ 32) all)
    (λ a b x y k l e. all_apart put_number (λ n. n < 2 ^ 32) (λ a b x y k l e. number_apart a b x y e) a b x y (k.0 ∙ sym l.0) k.1 l.1 e))

pub stamp_apart : IsToldApart put_stamp KeepsStamp
stamp_apart = parts_apart put_stamp_parts KeepsStampParts KeepsStamp stamp_parts stamp_parts_apart (λ v k. k)
    (λ a b e. ap (λ p. record { port = p.0; conn = p.1; number = p.2.0; shown = p.2.1 }) e)

pub frame_parts_apart : IsToldApart put_frame_parts KeepsFrameParts
frame_parts_apart = pair_apart put_stamp KeepsStamp stamp_apart put_bytes KeepsBytes bytes_apart

pub frame_apart : IsToldApart put_frame KeepsFrame
frame_apart = parts_apart put_frame_parts KeepsFrameParts KeepsFrame frame_parts frame_parts_apart (λ v k. k.0)
    (λ a b e. ap (λ p. record { bytes = p.1; stamp = p.0 }) e)
