-- Data FISes that come are of the devices, and have the bytes that were sent.
use Rattle.std.proofs.Common.{◌≡◌, ◌⊎◌, ℕ, ◌+◌, ◌*◌, ◌/◌, ◌%◌, ◌<◌, ◌==◌, Bool, true, false, List, [], ◌∷◌, ◌++◌, length, drop, Some, Result, Ok, Err}
use Rattle.std.proofs.{Common.{refl, sym, ap, ◌∙◌, subst, arith, inl, inr, All, Contains, filter}, lemmas.Bool.{and_from, and_parts, eq-eqb}}
use Rattle.std.proofs.lemmas.{Bool.{eqb-true, true≢false, false≢true}, List.{get_or-set_same, length-set, Elements.{All-append, All-cons}}}
use Rattle.std.proofs.lemmas.List.Elements.{All-contains, All-contains_itself, All-filter, All-nil, All-same, All-weaker, Contains-append_left}
use Rattle.std.proofs.lemmas.{List.Elements.{Contains-append_right, Contains-push}, Nat.{mod-mul-add}}
use Rattle.std.specs.Prelude.{if◌then◌else◌, ◌&&◌, slice_index}
use Rattle.fis_view.specs.{Frames.{IsFrame, Stamped, marked}, Built.{IsBuilt, cut, set_bits_given}, Seen.{kind_of_type, may_have, seen, view_as}}
use Rattle.fis_view.specs.{Table.{Bits, SActive, field, places}, declared.view.{Fis.Fis, FisFault.{FisFault, TheVariants.WrongLength}}}
use Rattle.fis_view.specs.declared.view.Fis.TheVariants as view
use Rattle.fis_view.proofs.Door.{frame_bounds}
use Rattle.multiplier.specs.{Between.{Gives, FromPort, Notice, Answer}, Passing.of_conn, Rules.NextUpRule, State.{pm_port, ready, rising}}
use Rattle.multiplier.proofs.Door.{gives, served_below}
use Rattle.block_queue.specs.Line.{command_at}
use Rattle.sata_disk.specs.{Sending.part_at, State.commands}
use Rattle.fan_out.specs.{Calls.{FanCall, GiveUp, Does as FanDoes, given, given_by}, Fans.{FanState, IsFan}, declared.fan_out.FanOut.FanOut}
use Rattle.fan_out.specs.declared.fan_out.FanOut.TheVariants.{Device, Multiplier}
use Rattle.machine_laws.proofs.{RisFan.{FansPass, Passage, after_one, fan_through, no_device}, RisRun.crosses, RisStraight.straight_all}
use Rattle.machine_laws.specs.Rising.{CarriesPart, DataAreSent, DataCarryParts, IsNaming, IsSoundEnd, NamingAreSent, Sends, held_at, is_multiplier}
use Rattle.machine_laws.specs.Rising.{risen, untaken}

-- ---- what a disk sends

-- only the PM Port field is written
marked_part : (part : List ℕ) (bytes : List ℕ) (port : ℕ) → bytes ≡ 0x46 ∷ 0 ∷ 0 ∷ 0 ∷ part → drop 4 (marked bytes port) ≡ part
marked_part part bytes port is = ap (λ (b : List ℕ). drop 4 (marked b port)) is

marked_type : (part : List ℕ) (bytes : List ℕ) (port : ℕ) → bytes ≡ 0x46 ∷ 0 ∷ 0 ∷ 0 ∷ part → slice_index (marked bytes port) 0 ≡ 0x46
marked_type part bytes port is = ap (λ (b : List ℕ). slice_index (marked b port) 0) is

risen_part : (f : FanOut) (n : ℕ) (frame : Stamped) (part : List ℕ) → frame.bytes ≡ 0x46 ∷ 0 ∷ 0 ∷ 0 ∷ part
    → (slice_index (risen f n frame).bytes 0 ≡ 0x46) × (drop 4 (risen f n frame).bytes ≡ part)
risen_part (Device s) n frame part is = (marked_type part frame.bytes s.asked is, marked_part part frame.bytes s.asked is)
risen_part (Multiplier f) n frame part is = (marked_type part frame.bytes n is, marked_part part frame.bytes n is)

pub parts : DataCarryParts
parts old n place len new does =
    let h = does.does.does.1 in
    let p = risen_part old.fan n h.frame (part_at (command_at (commands h.disk) place)) h.bytes.0 in
    All-cons (CarriesPart old n place) (risen old.fan n h.frame) [] (record { disk = h.disk; there = h.there; data_fis = p.0; part = p.1 }) (All-nil (CarriesPart old n place))

-- ---- what goes up from a multiplier

abbrev is_bits : Result Fis FisFault → Bool
is_bits (Ok (view.SetBits f)) = true
is_bits other = false

-- a Data FIS is no Set Device Bits FIS
not_bits : (f : List ℕ) → slice_index f 0 ≡ 0x46 → seen f ≡ Ok (view.SetBits f) → ⊥
unfolding seen
not_bits f type e = by_length (may_have (kind_of_type 0x46) (length f)) (ap (λ (k : ℕ). if may_have (kind_of_type k) (length f) then Ok (view_as (kind_of_type k) f) else Err WrongLength) (sym type) ∙ e)
  where
    no : Result Fis FisFault
    no = Err WrongLength

    by_length : (b : Bool) → (if b then Ok (view.Payload f) else no) ≡ Ok (view.SetBits f) → ⊥
    by_length true h = false≢true (ap is_bits h)
    by_length false h = false≢true (ap is_bits h)

pub record OfPort (f : Stamped) : Type 0 where
  pub port : f.stamp.port < 15
  pub own : 1 < length f.bytes → pm_port f ≡ f.stamp.port

-- the multiplier's own: a notice, which names no slot, or an answer, which is a Register FIS
data IsOwn (f : List ℕ) : Type 0 where
  IsNotified : seen f ≡ Ok (view.SetBits f) → field Bits SActive f ≡ 0 → IsOwn f
  IsAnswer : slice_index f 0 ≡ 0x34 → IsOwn f

no_slots : (f : List ℕ) → IsBuilt Bits (set_bits_given (record { pm_port = 15; n = true; i = true; status = 0x50; error = 0; sactive = 0 })) f
    → field Bits SActive f ≡ 0
unfolding places cut
no_slots f built = let e : field Bits SActive f ≡ 0 = built.fields SActive in e

-- none of these is Data
own_data : (f : List ℕ) → slice_index f 0 ≡ 0x46 → IsOwn f → ⊥
own_data f type (IsNotified viewed none) = not_bits f type viewed
own_data f type (IsAnswer other) = omega (arith, other, type)

-- a Register FIS is no Set Device Bits FIS
answer_bits : (f : List ℕ) → slice_index f 0 ≡ 0x34 → seen f ≡ Ok (view.SetBits f) → ⊥
unfolding seen
answer_bits f type e = by_length (may_have (kind_of_type 0x34) (length f)) (ap (λ (k : ℕ). if may_have (kind_of_type k) (length f) then Ok (view_as (kind_of_type k) f) else Err WrongLength) (sym type) ∙ e)
  where
    no : Result Fis FisFault
    no = Err WrongLength

    by_length : (b : Bool) → (if b then Ok (view.RegD2H f) else no) ≡ Ok (view.SetBits f) → ⊥
    by_length true h = false≢true (ap is_bits h)
    by_length false h = false≢true (ap is_bits h)

-- and none names a slot
own_naming : (f : List ℕ) → IsNaming f → IsOwn f → ⊥
own_naming f is (IsNotified viewed none) = is.some none
own_naming f is (IsAnswer other) = answer_bits f other is.viewed

-- it is of the port in its stamp, or the multiplier's own
abbrev Placed : Stamped → Type 0
Placed f = OfPort f ⊎ IsOwn f.bytes

pub rising_own : (n : ℕ) (was : Stamped) → n < 15 → OfPort (rising n was)
rising_own n was less = record {
  port = less;
  own = λ room.
      let long : length (marked was.bytes n) ≡ length was.bytes = length-set was.bytes 1 (slice_index was.bytes 1 / 16 * 16 + n) in
      ap (λ (b : ℕ). b % 16) (get_or-set_same was.bytes 1 (slice_index was.bytes 1 / 16 * 16 + n) 0 (omega (arith, long, room)))
      ∙ mod-mul-add (slice_index was.bytes 1 / 16) 16 n (omega (arith, less));
}

placed : (f g : FanState) (frame : Stamped) → IsFan f → NextUpRule f.multiplier (Ok (Some frame)) g.multiplier → Placed frame
placed f g frame is h = by_way (gives f.multiplier frame g.multiplier h)
  where
    by_way : Gives f.multiplier frame g.multiplier → Placed frame
    by_way (FromPort n was at other there stamp rises rest) =
        let below = served_below (ready f.multiplier) f.multiplier.served n is.sound.served at in
        inl (subst OfPort (sym rises) (rising_own n was (omega (arith, below, other))))
    by_way (Notice at due built rest) = inr (IsNotified built.0.viewed (no_slots frame.bytes built.0))
    by_way (Answer at there rest) =
        let so = and_parts (frame.stamp.port == 15) (slice_index frame.bytes 0 == 0x34) (is.sound.answer frame there) in
        inr (IsAnswer (eqb-true (slice_index frame.bytes 0) 0x34 so.1))

one_placed : (f g : FanState) (call : FanCall) → IsFan f → FanDoes (Multiplier f) call (Multiplier g) → All Placed (given_by call)
one_placed f g (GiveUp (Ok (Some frame))) is h = All-cons Placed frame [] (placed f g frame is h.0) (All-nil Placed)
one_placed f g other is h = All-nil Placed

all_placed : FansPass → (f g : FanState) (calls : List FanCall) (sent : List Stamped) → IsFan f → Sends (Multiplier f) calls sent (Multiplier g) → All Placed (given calls)
all_placed law f g [] sent is h = All-nil Placed
all_placed law f g (call ∷ calls) sent is h = by_mid h.0 h.1 h.2.2 (λ k fan rest. all_placed law k g calls h.2.0 fan rest)
  where
    by_mid : (mid : FanOut) → FanDoes (Multiplier f) call mid → Sends mid calls h.2.0 (Multiplier g)
        → ((k : FanState) → IsFan k → Sends (Multiplier k) calls h.2.0 (Multiplier g) → All Placed (given calls)) → All Placed (given (call ∷ calls))
    by_mid (Multiplier k) first rest next = All-append Placed (given_by call) (given calls) (one_placed f k call is first) (next k (after_one law f k call is first) rest)
    by_mid (Device s) first rest next = absurd (no_device f s call first)

-- ---- what is kept of a list

kept : (p : Stamped → Bool) (xs : List Stamped) → All (λ y. p y ≡ true → Contains (filter p xs) y) xs
kept p [] = All-nil (λ y. p y ≡ true → Contains (filter p []) y)
kept p (x ∷ xs) = by_test (kept p xs) (p x) refl
  where
    by_test : All (λ y. p y ≡ true → Contains (filter p xs) y) xs → (b : Bool) → p x ≡ b → All (λ y. p y ≡ true → Contains (if b then x ∷ filter p xs else filter p xs) y) (x ∷ xs)
    by_test rest true is =
        All-cons (λ y. p y ≡ true → Contains (x ∷ filter p xs) y) x xs (λ own. Contains-append_left (x ∷ []) (filter p xs) x (Contains-push [] x))
        (All-weaker (λ y. p y ≡ true → Contains (filter p xs) y) (λ y. p y ≡ true → Contains (x ∷ filter p xs) y) (λ y h own. Contains-append_right (x ∷ []) (filter p xs) y (h own)) xs rest)
    by_test rest false is = All-cons (λ y. p y ≡ true → Contains (filter p xs) y) x xs (λ own. absurd (false≢true (sym is ∙ own))) rest

in_conn : (xs : List Stamped) (f : Stamped) → Contains xs f → Contains (of_conn f.stamp.port f.stamp.conn xs) f
in_conn xs f has =
    All-contains (λ y. test y ≡ true → Contains (filter test xs) y) xs f (kept test xs) has
    (and_from (f.stamp.port == f.stamp.port) (f.stamp.conn == f.stamp.conn) (eq-eqb f.stamp.port f.stamp.port refl) (eq-eqb f.stamp.conn f.stamp.conn refl))
  where
    test : Stamped → Bool
    test y = y.stamp.port == f.stamp.port && y.stamp.conn == f.stamp.conn

from_conn : (n c : ℕ) (xs : List Stamped) (f : Stamped) → Contains (of_conn n c xs) f → Contains xs f
from_conn n c xs f has =
    All-contains (Contains xs) (of_conn n c xs) f (All-filter (λ (y : Stamped). y.stamp.port == n && y.stamp.conn == c) (Contains xs) xs (All-contains_itself xs)) has

-- what came is in what was sent
pub in_sent : (e g : FanOut) (gave sent came rest : List Stamped) (f : Stamped) → Passage f.stamp.port f.stamp.conn e gave sent g → held_at f.stamp.port f.stamp.conn e ≡ [] → gave ≡ came ++ rest → Contains came f → Contains sent f
in_sent e g gave sent came rest f passage none is has =
    from_conn f.stamp.port f.stamp.conn sent f
    (subst (λ (l : List Stamped). Contains l f) (passage.order ∙ ap (λ (l : List Stamped). l ++ of_conn f.stamp.port f.stamp.conn sent) none)
    (Contains-append_left (of_conn f.stamp.port f.stamp.conn gave ++ held_at f.stamp.port f.stamp.conn g) passage.dropped f
    (Contains-append_left (of_conn f.stamp.port f.stamp.conn gave) (held_at f.stamp.port f.stamp.conn g) f
    (in_conn gave f (subst (λ (l : List Stamped). Contains l f) (sym is) (Contains-append_left came rest f has))))))

-- ---- the law

abbrev Of : FanOut → List Stamped → Stamped → Type 0
Of g sent f = Contains sent f × (is_multiplier g ≡ true → (f.stamp.port < 15) × (pm_port f ≡ f.stamp.port))

of_device : FansPass → (e g : FanOut) (calls : List FanCall) (sent came rest : List Stamped) (f : Stamped) → IsSoundEnd e → ((n c : ℕ) → held_at n c e ≡ []) → Sends e calls sent g → given calls ≡ came ++ rest
    → Contains came f → IsFrame f.bytes → (IsOwn f.bytes → ⊥) → Of g sent f
of_device law (Device s) (Device t) calls sent came rest f sound none h is has framed other =
    (in_sent (Device s) (Device t) (given calls) sent came rest f (straight_all s t calls sent sound h f.stamp.port f.stamp.conn) (none f.stamp.port f.stamp.conn) is has, λ off. absurd (false≢true off))
of_device law (Device s) (Multiplier g) calls sent came rest f sound none h is has framed other = absurd (false≢true (crosses (Device s) (Multiplier g) calls sent h))
of_device law (Multiplier k) (Device t) calls sent came rest f sound none h is has framed other = absurd (true≢false (crosses (Multiplier k) (Device t) calls sent h))
of_device law (Multiplier k) (Multiplier g) calls sent came rest f sound none h is has framed other =
    by_place (All-contains Placed (came ++ rest) f (All-same Placed (came ++ rest) (given calls) (sym is) (all_placed law k g calls sent sound h)) (Contains-append_left came rest f has))
  where
    by_place : Placed f → Of (Multiplier g) sent f
    by_place (inl p) = (
      in_sent (Multiplier k) (Multiplier g) (given calls) sent came rest f ((fan_through law k g calls sent sound h).up f.stamp.port f.stamp.conn p.port) (none f.stamp.port f.stamp.conn) is has,
      λ so. (p.port, p.own (let bounds = frame_bounds f.bytes framed in omega (arith, bounds))),
    )
    by_place (inr own) = absurd (other own)

pub data_sent : FansPass → DataAreSent
data_sent law m frames h f has framed type =
    let of = of_device law h.first m.fan h.calls frames.sent frames.came (untaken m) f h.sound h.none h.sends h.gives has framed (own_data f.bytes type) in
    record { sent = of.0; port = of.1 }

pub naming_sent : FansPass → NamingAreSent
naming_sent law m frames h f has framed is =
    let of = of_device law h.first m.fan h.calls frames.sent frames.came (untaken m) f h.sound h.none h.sends h.gives has framed (own_naming f.bytes is) in
    record { sent = of.0; port = of.1 }
