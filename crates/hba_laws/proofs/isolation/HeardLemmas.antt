-- For `core_isolated`. A FIS that stops no port is heard as if its table could be used; lists of own events.
use Rattle.std.proofs.{Common.{◌≡◌, ℕ, ◌-◌, Bool, true, false, List, [], ◌∷◌, ◌++◌, length, refl, Option, Some, None}, lemmas.Bool.{true≢false}}
use Rattle.std.specs.Prelude.{is_some}
use Rattle.fis_view.specs.declared.view.Fis.{Fis}
use Rattle.fis_view.specs.declared.view.Fis.TheVariants as view
use Rattle.port_errors.specs.declared.cause.DeviceCause.TheVariants.{Stray}
use Rattle.slots.specs.{Slots.{DeviceSlots, match_some}, declared.table.Context.Context}
use Rattle.hba_fbs.specs.{declared.{hearing.Heard.Heard, state.DeviceState.DeviceState}, Hearing.{faulty, heard_data, heard_data_of, heard_fis}}
use Rattle.hba_fbs.specs.{Taking.{heard, port_cause}, Views.DeviceView}
use Rattle.hba_laws.specs.{Isolation.{OwnEvent, part_after, part_after_all}, Parts.{DevicePart, own_row}}

-- ---- a FIS

data_alike_of : (own : DeviceSlots) (state : DeviceState) (sound to_host : Bool) (count : ℕ) (c : Context) → c.to_host ≡ to_host → is_some (port_cause (heard_data_of own state sound count c).fault) ≡ false
    → heard_data_of own state sound count c ≡ heard_data_of own state true count c
data_alike_of own state true to_host count c is h = refl
data_alike_of own state false false count c is h = rw is refl
data_alike_of own state false true count c is h = absurd (true≢false (rw is at h))

match_alike : (o : Option Context) (none : Heard) (f g : Context → Heard) → ((c : Context) → is_some (port_cause (f c).fault) ≡ false → f c ≡ g c) → is_some (port_cause (match_some o none f).fault) ≡ false
    → match_some o none f ≡ match_some o none g
match_alike None none f g alike h = refl
match_alike (Some c) none f g alike h = alike c h

data_alike : (own : DeviceSlots) (state : DeviceState) (sound : Bool) (count : ℕ) → is_some (port_cause (heard_data own state sound count).fault) ≡ false → heard_data own state sound count ≡ heard_data own state true count
data_alike own state sound count h =
    match_alike own.context (faulty state Stray) (heard_data_of own state sound count) (heard_data_of own state true count) (λ c. data_alike_of own state sound c.to_host count c refl) h

fis_alike : (own : DeviceSlots) (state : DeviceState) (sound : Bool) (fis : Fis) → is_some (port_cause (heard_fis own state sound fis).fault) ≡ false → heard_fis own state sound fis ≡ heard_fis own state true fis
unfolding heard_fis
fis_alike own state sound (view.Payload f) h = data_alike own state sound (length f - 4) h
fis_alike own state sound other h = refl

pub heard_alike : (n : ℕ) (v : DeviceView) (sound : Bool) (fis : Option Fis) → is_some (port_cause (heard n v sound fis).fault) ≡ false → heard n v sound fis ≡ heard n v true fis
heard_alike n v sound None h = refl
heard_alike n v sound (Some fis) h = fis_alike v.slots v.state sound fis h

-- ---- lists of own events, and rows

pub after_append : (n : ℕ) (p : DevicePart) (xs ys : List OwnEvent) → part_after_all n p (xs ++ ys) ≡ part_after_all n (part_after_all n p xs) ys
after_append n p [] ys = refl
after_append n p (x ∷ xs) ys = after_append n (part_after n p x) xs ys

pub row_shows : (on : Bool) (fb : ℕ) (structure : List ℕ) (n : ℕ) → is_some (own_row on fb structure n) ≡ on
row_shows true fb structure n = refl
row_shows false fb structure n = refl
