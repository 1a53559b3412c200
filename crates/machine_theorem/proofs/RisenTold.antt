-- What the FISes of a disk say by their bytes they say as they came up, too: only the PM Port is written on the way.
use Rattle.std.proofs.Common.{◌≡◌, ℕ, zero, suc, ◌+◌, ◌*◌, ◌-◌, ◌≤◌, ◌^◌, Bool, true, false, List, [], ◌∷◌, ◌++◌, length, refl, ap, ◌∙◌, arith}
use Rattle.std.proofs.{Common.{Option, Some}, lemmas.List.{get_or-set_other, length-set}}
use Rattle.std.specs.{Prelude.{◌==◌, ◌&&◌, ◌/◌, ◌%◌, map, slice_index, slice_set, if◌then◌else◌, Ok, Err}, Int.bit_at}
use Rattle.fis_view.specs.{Frames.{Stamped, marked}, Seen.{kind_of, kind_of_type, may_have, seen, view_as}, Bits.bits, Table.{Kind, field, places}}
use Rattle.fis_view.specs.{Table.spelled, declared.view.FisFault.TheVariants.WrongLength}
use Rattle.fis_view.specs.Table as table
use Rattle.fan_out.specs.declared.fan_out.FanOut.{FanOut, TheVariants.{Device, Multiplier}}
use Rattle.multiplier.specs.Passing.{of_conn}
use Rattle.sata_disk_books.specs.{Counted.{Counted, more_by}, Fises.{told_after, told_by}}
use Rattle.machine_laws.specs.Rising.{risen}
use Rattle.machine_theorem.specs.SingleNumbers.{since_after, since_by}
use Rattle.machine_theorem.proofs.Sent.{marked_type}

set_kept : (f : List ℕ) (v i n : ℕ) → 16 ≤ i → bits (slice_set f 1 v) i n ≡ bits f i n
unfolding bits
set_kept f v i zero high = refl
set_kept f v i (suc n) high =
    let byte : slice_index (slice_set f 1 v) (i / 8) ≡ slice_index f (i / 8) = get_or-set_other f 1 (i / 8) v 0 (λ e. omega (arith, e, high)) in
    let rest : bits (slice_set f 1 v) (suc i) n ≡ bits f (suc i) n = set_kept f v (suc i) n (omega (arith, high)) in
    ap (λ (x : ℕ). bit_at x (i % 8) + 2 * bits (slice_set f 1 v) (suc i) n) byte ∙ ap (λ (x : ℕ). bit_at (slice_index f (i / 8)) (i % 8) + 2 * x) rest

tag_kept : (f : List ℕ) (port : ℕ) → field table.Setup table.BufferId (marked f port) ≡ field table.Setup table.BufferId f
unfolding field places spelled
tag_kept f port = ap (λ (x : ℕ). x + 2 ^ 64 * 0) (set_kept f (slice_index f 1 / 16 * 16 + port) 32 64 (omega arith))

offset_kept : (f : List ℕ) (port : ℕ) → field table.Setup table.Offset (marked f port) ≡ field table.Setup table.Offset f
unfolding field places spelled
offset_kept f port = ap (λ (x : ℕ). x + 2 ^ 32 * 0) (set_kept f (slice_index f 1 / 16 * 16 + port) 128 32 (omega arith))

-- the frame with another PM Port
told_kind : (kind : Kind) (b : Bool) (f : List ℕ) (port : ℕ) (u : Option Counted)
    → told_by (if b then Ok (view_as kind (marked f port)) else Err WrongLength) u ≡ told_by (if b then Ok (view_as kind f) else Err WrongLength) u
told_kind kind false f port u = refl
told_kind table.Setup true f port u =
    ap (λ k. Some (record { tag = k % 32; count = field table.Setup table.Offset (marked f port) })) (tag_kept f port)
    ∙ ap (λ k. Some (record { tag = field table.Setup table.BufferId f % 32; count = k })) (offset_kept f port)
told_kind table.Data true f port u = ap (λ k. more_by (k - 4) u) (length-set f 1 (slice_index f 1 / 16 * 16 + port))
told_kind table.H2d true f port u = refl
told_kind table.D2h true f port u = refl
told_kind table.Activate true f port u = refl
told_kind table.Pio true f port u = refl
told_kind table.Bits true f port u = refl
told_kind table.Other true f port u = refl

told_marked : (f : List ℕ) (port : ℕ) (u : Option Counted) → told_by (seen (marked f port)) u ≡ told_by (seen f) u
unfolding seen
told_marked f port u =
    let type : slice_index (marked f port) 0 ≡ slice_index f 0 = marked_type f port in
    let long : length (marked f port) ≡ length f = length-set f 1 (slice_index f 1 / 16 * 16 + port) in
    ap (λ (t : ℕ). told_by (if may_have (kind_of_type t) (length (marked f port)) then Ok (view_as (kind_of_type t) (marked f port)) else Err WrongLength) u) type
    ∙ ap (λ (k : ℕ). told_by (if may_have (kind_of f) k then Ok (view_as (kind_of f) (marked f port)) else Err WrongLength) u) long
    ∙ told_kind (kind_of f) (may_have (kind_of f) (length f)) f port u

pub risen_told : (fan : FanOut) (n : ℕ) (f : Stamped) (u : Option Counted) → told_by (seen (risen fan n f).bytes) u ≡ told_by (seen f.bytes) u
risen_told (Device s) n f u = told_marked f.bytes s.asked u
risen_told (Multiplier g) n f u = told_marked f.bytes n u

-- so it is of the bytes of Data since the last answer
since_kind : (kind : Kind) (b : Bool) (f : List ℕ) (port t : ℕ)
    → since_by (if b then Ok (view_as kind (marked f port)) else Err WrongLength) t ≡ since_by (if b then Ok (view_as kind f) else Err WrongLength) t
since_kind kind false f port t = refl
since_kind table.Data true f port t = ap (λ k. t + (k - 4)) (length-set f 1 (slice_index f 1 / 16 * 16 + port))
since_kind table.Setup true f port t = refl
since_kind table.H2d true f port t = refl
since_kind table.D2h true f port t = refl
since_kind table.Activate true f port t = refl
since_kind table.Pio true f port t = refl
since_kind table.Bits true f port t = refl
since_kind table.Other true f port t = refl

since_marked : (f : List ℕ) (port t : ℕ) → since_by (seen (marked f port)) t ≡ since_by (seen f) t
unfolding seen
since_marked f port t =
    let type : slice_index (marked f port) 0 ≡ slice_index f 0 = marked_type f port in
    let long : length (marked f port) ≡ length f = length-set f 1 (slice_index f 1 / 16 * 16 + port) in
    ap (λ (x : ℕ). since_by (if may_have (kind_of_type x) (length (marked f port)) then Ok (view_as (kind_of_type x) (marked f port)) else Err WrongLength) t) type
    ∙ ap (λ (k : ℕ). since_by (if may_have (kind_of f) k then Ok (view_as (kind_of f) (marked f port)) else Err WrongLength) t) long
    ∙ since_kind (kind_of f) (may_have (kind_of f) (length f)) f port t

pub risen_since : (fan : FanOut) (n : ℕ) (f : Stamped) (t : ℕ) → since_by (seen (risen fan n f).bytes) t ≡ since_by (seen f.bytes) t
risen_since (Device s) n f t = since_marked f.bytes s.asked t
risen_since (Multiplier g) n f t = since_marked f.bytes n t

-- ---- lists

pub told_both : (xs ys : List (List ℕ)) (u : Option Counted) → told_after u (xs ++ ys) ≡ told_after (told_after u xs) ys
unfolding told_after
told_both [] ys u = refl
told_both (x ∷ xs) ys u = told_both xs ys (told_by (seen x) u)

pub since_both : (xs ys : List (List ℕ)) (t : ℕ) → since_after t (xs ++ ys) ≡ since_after (since_after t xs) ys
unfolding since_after
since_both [] ys t = refl
since_both (x ∷ xs) ys t = since_both xs ys (since_by (seen x) t)

conn_case : (b : Bool) (x : Stamped) (xs ys : List Stamped) → (if b then x ∷ (xs ++ ys) else xs ++ ys) ≡ (if b then x ∷ xs else xs) ++ ys
conn_case true x xs ys = refl
conn_case false x xs ys = refl

pub conn_both : (n c : ℕ) (xs ys : List Stamped) → of_conn n c (xs ++ ys) ≡ of_conn n c xs ++ of_conn n c ys
conn_both n c [] ys = refl
conn_both n c (x ∷ xs) ys =
    let b : Bool = x.stamp.port == n && x.stamp.conn == c in
    ap (λ l. if b then x ∷ l else l) (conn_both n c xs ys) ∙ conn_case b x (of_conn n c xs) (of_conn n c ys)

pub map_both : (xs ys : List Stamped) → map (λ (f : Stamped). f.bytes) (xs ++ ys) ≡ map (λ (f : Stamped). f.bytes) xs ++ map (λ (f : Stamped). f.bytes) ys
map_both [] ys = refl
map_both (x ∷ xs) ys = ap (λ l. x.bytes ∷ l) (map_both xs ys)
