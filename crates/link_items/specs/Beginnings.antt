-- An empty list of FISes is in order, and each prefix of an ordered list is in order.
use Rattle.std.specs.Prelude.{◌≡◌, List, [], ◌∷◌, ◌++◌, length}
use Rattle.std.proofs.Common.{ap, sym, ◌∙◌, append_assoc, length-append, arith}
use Rattle.fis_view.specs.Frames.{Stamped}
use Rattle.multiplier.specs.Orders.{InDeviceOrder, InStampedOrder}

-- a list with an element is not empty
pub some_element : {A : Type 0} (before rest : List A) (x : A) → before ++ x ∷ rest ≡ [] → ⊥
some_element before rest x e = let l = ap length e in omega (arith, l, length-append before (x ∷ rest))

-- an element of a prefix is an element of the whole
pub stands_in_whole : {A : Type 0} (front more before rest : List A) (x : A) → before ++ x ∷ rest ≡ front
    → before ++ x ∷ (rest ++ more) ≡ front ++ more
stands_in_whole front more before rest x e = sym (append_assoc before (x ∷ rest) more) ∙ ap (λ l. l ++ more) e

pub device_starts : InDeviceOrder []
device_starts = λ before rest f e. absurd (some_element before rest f e)

pub device_prefixes : (front more : List Stamped) → InDeviceOrder (front ++ more) → InDeviceOrder front
device_prefixes front more h =
    λ before rest f e. h before (rest ++ more) f (stands_in_whole front more before rest f e)

pub stamped_starts : InStampedOrder []
stamped_starts = λ before rest f e. absurd (some_element before rest f e)

pub stamped_prefixes : (front more : List Stamped) → InStampedOrder (front ++ more) → InStampedOrder front
stamped_prefixes front more h =
    λ before rest f e. h before (rest ++ more) f (stands_in_whole front more before rest f e)
