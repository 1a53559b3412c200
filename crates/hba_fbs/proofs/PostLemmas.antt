-- The received area within the structure area.
use Rattle.std.proofs.Common.{◌≡◌, ℕ, ◌+◌, ◌-◌, ◌≤◌, List, ◌++◌, length, take, drop, refl, sym, ◌∙◌, ap, subst, arith, length-append, length-drop}
use Rattle.std.proofs.{Math.Seq.{take-append-add}, lemmas.List.{append_assoc, length-take, drop-append-le, drop-drop, drop-take, length-take-le}}
use Rattle.std.proofs.lemmas.{List.{take-take}, Slice.{take-put_mid_below, drop-put_mid}}
use borrow.Rule.Slice.PartMut.{put_mid}
use Rattle.fis_view.specs.declared.view.Fis.{Fis}
use Rattle.host_memory.specs.Memory.{overwritten}
use Rattle.rx_area.specs.Area as rx
use Rattle.hba_fbs.specs.Posting.{Posts, area_at}

-- so many bytes of a list from one place on, where others were written among them
part_written : (from at size : ℕ) (old bytes : List ℕ) → at + length bytes ≤ size → from + at ≤ length old → take size (drop from (overwritten old (from + at) bytes)) ≡ overwritten (take size (drop from old)) at bytes
part_written from at size old bytes fits inside =
    let n : ℕ = length bytes in
    let m : ℕ = size - (at + n) in
    let part : List ℕ = drop from old in
    let rest : List ℕ = drop (from + at + n) old in
    let front : List ℕ = take at part ++ bytes in
    let within : from ≤ length (take (from + at) old) = omega (arith, length-take (from + at) old) in
    let first : drop from (overwritten old (from + at) bytes) ≡ front ++ rest =
    ap (drop from) (append_assoc (take (from + at) old) bytes rest) ∙ drop-append-le from (take (from + at) old) (bytes ++ rest) within
    ∙ ap (λ (x : List ℕ). x ++ (bytes ++ rest)) (drop-take from at old) ∙ sym (append_assoc (take at part) bytes rest) in
    let long : size ≡ length front + m = omega (arith, length-append (take at part) bytes, length-take at part, length-drop from old) in
    let ends : take m rest ≡ drop (at + n) (take size part) =
    (let e : from + at + n ≡ from + (at + n) = omega arith in ap (λ (k : ℕ). take m (drop k old)) e)
    ∙ ap (take m) (sym (drop-drop (at + n) from old)) ∙ sym (drop-take (at + n) m part)
    ∙ (let e : at + n + m ≡ size = omega arith in ap (λ (k : ℕ). drop (at + n) (take k part)) e) in
    ap (take size) first ∙ ap (λ (k : ℕ). take k (front ++ rest)) long ∙ take-append-add front rest m
    ∙ ap (λ (x : List ℕ). x ++ bytes ++ take m rest) (sym (take-take at size part (omega arith))) ∙ ap (λ (x : List ℕ). take at (take size part) ++ bytes ++ x) ends

put_is : (start : ℕ) (old part : List ℕ) → put_mid start (length part) old part ≡ overwritten old start part
put_is start old part =
    ap (λ (x : List ℕ). take start old ++ (part ++ x)) (drop-drop (length part) start old) ∙ sym (append_assoc (take start old) part (drop (start + length part) old))

-- a FIS is posted to the area
pub posts_in : (fb dev : ℕ) (fis : Fis) (old new : List ℕ) → fb + 4096 ≤ length old → rx.start_of dev (rx.posted_at fis) + length (rx.posted_bytes fis) ≤ 4096
    → new ≡ overwritten old (fb + rx.start_of dev (rx.posted_at fis)) (rx.posted_bytes fis)
    → ((area : List ℕ) → length area ≡ 4096 → rx.row_of (rx.after_post area dev fis) dev ≡ rx.row_after (rx.row_of area dev) fis)
    → ((area : List ℕ) → length area ≡ 4096 → rx.LeavesOthers dev area (rx.after_post area dev fis)) → Posts fb dev fis old new
posts_in fb dev fis old new inside fits is own others =
    let bytes = rx.posted_bytes fis in
    let at = rx.start_of dev (rx.posted_at fis) in
    let area : area_at new fb ≡ rx.after_post (area_at old fb) dev fis = ap (λ (xs : List ℕ). area_at xs fb) is ∙ part_written fb at 4096 old bytes fits (omega (arith, inside, fits)) in
    let long : length (area_at old fb) ≡ 4096 = length-take-le 4096 (drop fb old) (omega (arith, length-drop fb old, inside)) in
    let put : put_mid (fb + at) (length bytes) old bytes ≡ new = put_is (fb + at) old bytes ∙ sym is in
    record {
      area = area;
      own = ap (λ (xs : List ℕ). rx.row_of xs dev) area ∙ own (area_at old fb) long;
      others = subst (λ (xs : List ℕ). rx.LeavesOthers dev (area_at old fb) xs) (sym area) (others (area_at old fb) long);
      before = ap (take fb) (sym put) ∙ take-put_mid_below (fb + at) (length bytes) old bytes fb (omega arith) (omega (arith, inside, fits));
      behind = ap (drop (fb + 4096)) (sym put) ∙ drop-put_mid (fb + at) (length bytes) old bytes (fb + 4096) (omega (arith, fits)) (omega (arith, inside, fits)) refl;
    }
