-- What is next to do as words: which it is, and what it has.
use Rattle.std.specs.Prelude.{◌≡◌, ℕ, List, ◌∷◌, refl}
use Rattle.std.proofs.Common.{ap}
use Rattle.saved_state.specs.{Parts.{Parts, array, both, number, three}, State.IsToldApart}
use Rattle.guest_fetch.specs.{Saved.move_words, declared.{command.ByteCount.ByteCount, want.Want.Want}}
use Rattle.ahci_controller.specs.declared.{fetching.Ask.Ask, next.Next.Next}
use Rattle.ahci_controller.specs.declared.next.Next.TheVariants as next

abbrev pub of_count : Parts (ℕ × ℕ)
of_count = both (number 64) (number 32)

abbrev pub of_ask : Parts ((ℕ × ℕ) × (ℕ × ℕ))
of_ask = both (both (number 8) (number 64)) (both (number 64) (number 64))

abbrev pub of_order : Parts (ℕ × (ℕ × List ℕ))
of_order = both (number 8) (both (number 8) (array 20 (number 8)))

abbrev pub of_feed : Parts ((ℕ × ℕ × ℕ) × (ℕ × ℕ))
of_feed = both (three (number 8) (number 64) (number 8)) (both (number 32) (number 32))

abbrev pub put_next : Next → List ℕ → List ℕ
put_next next.Nothing rest = 0 ∷ rest
put_next (next.Payload m) rest = 1 ∷ move_words.put m rest
put_next (next.Posted m) rest = 2 ∷ move_words.put m rest
put_next (next.Counted c) rest = 3 ∷ of_count.put (c.at, c.value) rest
put_next (next.Read a) rest = 4 ∷ of_ask.put ((a.slot, a.number), (a.want.at, a.want.len)) rest
put_next (next.Order dev slot fis) rest = 5 ∷ of_order.put (dev, (slot, fis)) rest
put_next (next.Feed dev number slot offset len) rest = 6 ∷ of_feed.put ((dev, number, slot), (offset, len)) rest

abbrev pub KeepsNext : Next → Type 0
KeepsNext next.Nothing = Unit {0}
KeepsNext (next.Payload m) = move_words.keeps m
KeepsNext (next.Posted m) = move_words.keeps m
KeepsNext (next.Counted c) = of_count.keeps (c.at, c.value)
KeepsNext (next.Read a) = of_ask.keeps ((a.slot, a.number), (a.want.at, a.want.len))
KeepsNext (next.Order dev slot fis) = of_order.keeps (dev, (slot, fis))
KeepsNext (next.Feed dev number slot offset len) = of_feed.keeps ((dev, number, slot), (offset, len))

pub next_apart : IsToldApart put_next KeepsNext
next_apart next.Nothing next.Nothing x y k l e = (refl, cc)
next_apart (next.Payload a) (next.Payload b) x y k l e =
    let inner : move_words.put a x ≡ move_words.put b y = cc in
    let is = move_words.apart a b x y k l inner in (ap next.Payload is.0, is.1)
next_apart (next.Posted a) (next.Posted b) x y k l e =
    let inner : move_words.put a x ≡ move_words.put b y = cc in
    let is = move_words.apart a b x y k l inner in (ap next.Posted is.0, is.1)
next_apart (next.Counted a) (next.Counted b) x y k l e =
    let inner : of_count.put (a.at, a.value) x ≡ of_count.put (b.at, b.value) y = cc in
    let is = of_count.apart (a.at, a.value) (b.at, b.value) x y k l inner in
    (ap (λ p. next.Counted (record { at = p.0; value = p.1 })) is.0, is.1)
next_apart (next.Read a) (next.Read b) x y k l e =
    let inner : of_ask.put ((a.slot, a.number), (a.want.at, a.want.len)) x ≡ of_ask.put ((b.slot, b.number), (b.want.at, b.want.len)) y = cc in
    let is = of_ask.apart ((a.slot, a.number), (a.want.at, a.want.len)) ((b.slot, b.number), (b.want.at, b.want.len)) x y k l inner in
    (ap (λ p. next.Read (record { slot = p.0.0; number = p.0.1; want = record { at = p.1.0; len = p.1.1 } })) is.0, is.1)
next_apart (next.Order d s f) (next.Order d' s' f') x y k l e =
    let inner : of_order.put (d, (s, f)) x ≡ of_order.put (d', (s', f')) y = cc in
    let is = of_order.apart (d, (s, f)) (d', (s', f')) x y k l inner in
    (ap (λ p. next.Order p.0 p.1.0 p.1.1) is.0, is.1)
next_apart (next.Feed d n s o c) (next.Feed d' n' s' o' c') x y k l e =
    let inner : of_feed.put ((d, n, s), (o, c)) x ≡ of_feed.put ((d', n', s'), (o', c')) y = cc in
    let is = of_feed.apart ((d, n, s), (o, c)) ((d', n', s'), (o', c')) x y k l inner in
    (ap (λ p. next.Feed p.0.0 p.0.1 p.0.2 p.1.0 p.1.1) is.0, is.1)
next_apart a b x y k l e = absurd (cc)

abbrev pub next_words : Parts Next
next_words = record { put = put_next; keeps = KeepsNext; apart = next_apart }
