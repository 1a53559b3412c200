-- Calls of a disk among which no more commands were heard than before one of them: they are all before this one.
use Rattle.std.proofs.Common.{◌≡◌, ℕ, ◌≤◌, true, List, [], ◌∷◌, ◌++◌, refl, sym, ap, ◌∙◌, arith}
use Rattle.sata_disk_laws.specs.Calls.{Call, Hears}
use Rattle.machine_theorem.specs.{InTurn.{heard_in, hears_one, is_asking}, Singles.StartsWith, Tags.once_if}

pub starts_with : (first front rest more : List Call) (bytes : List ℕ) → first ++ rest ≡ front ++ Hears bytes ∷ more → is_asking bytes ≡ true → heard_in first ≤ heard_in front → StartsWith first front
starts_with [] front rest more bytes is asks few = record { more = front; is = refl }
starts_with (x ∷ first) [] rest more bytes is asks few =
    let same : x ≡ Hears bytes = by is in
    let one : hears_one x ≡ 1 = ap hears_one same ∙ ap once_if asks in
    absurd (omega (arith, one, few))
  where
    by : x ∷ (first ++ rest) ≡ Hears bytes ∷ more → x ≡ Hears bytes
    by e = cc
starts_with (x ∷ first) (y ∷ front) rest more bytes is asks few =
    let same : x ≡ y = head is in
    let one : hears_one x ≡ hears_one y = ap hears_one same in
    let it : StartsWith first front = starts_with first front rest more bytes (tail is) asks (omega (arith, few, one)) in
    record { more = it.more; is = ap (λ (c : Call). c ∷ front) (sym same) ∙ ap (λ (l : List Call). x ∷ l) it.is }
  where
    head : x ∷ (first ++ rest) ≡ y ∷ (front ++ Hears bytes ∷ more) → x ≡ y
    head e = cc

    tail : x ∷ (first ++ rest) ≡ y ∷ (front ++ Hears bytes ∷ more) → first ++ rest ≡ front ++ Hears bytes ∷ more
    tail e = cc
