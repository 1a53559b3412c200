-- The commands of slots are read: AHCI 1.3.1, sections 4.2 and 5.3 (a port fetches a command that was written to PxCI). What
-- was supplied is what counts, and an answer counts only if it names the want that is out.
use Rattle.std.specs.Prelude.{◌≡◌, ℕ, ◌+◌, ◌^◌, ◌==◌, ◌&&◌, min, nat_lt, Bool, true, false, bit_or, List, length, Some, None, slice_set}
use Rattle.std.specs.Prelude.{slice_index_or}
use Rattle.slots.specs.Slots.{has_bit, match_some}
use Rattle.guest_fetch.specs.{Fetch.Fetching, Fetching.{Supplies, part_at, refused_for, want_of}, Headers.header_place}
use Rattle.guest_fetch.specs.declared.{fetch.{Step.TheVariants.AtHeader, Supplied.Supplied}, refusal.Refusal.Refusal, want.Want.Want}
use Rattle.guest_fetch.specs.declared.fetch.Supplied.TheVariants as supplied
use Rattle.hba_fbs.specs.Bits.{without}
use Rattle.ahci_controller.specs.{Issuing.{IssuesSlot, RefusesSlot}, Own.list_of, States.{ControllerState, fetch_at}, declared.fetching.Ask.Ask}
use Rattle.ahci_controller.specs.declared.{issuing.Supply.Supply, wants.Wants.Wants}
use Rattle.ahci_controller.specs.declared.issuing.NotTaken.TheVariants as why
use Rattle.ahci_controller.specs.declared.issuing.Supply.TheVariants as answer

-- ---- what is wanted

-- what has come of the command of a slot: nothing at first
abbrev pub fetch_of : ControllerState → ℕ → Fetching
fetch_of c slot =
    match_some (fetch_at c slot) (record { at = header_place (list_of c.own) slot; step = AtHeader }) (λ f. f)

abbrev pub want_at : ControllerState → ℕ → Want
want_at c slot = want_of (fetch_of c slot)

abbrev pub missing_in : ControllerState → ℕ → Refusal
missing_in c slot = refused_for (part_at (fetch_of c slot).step)

-- the number of the next want; the largest one stays
abbrev pub next_number : Wants → ℕ
next_number w = min (w.count + 1) 18446744073709551615

-- with one more want, for a slot
abbrev pub asked : Wants → ℕ → Wants
asked w slot = record w {
  out = bit_or w.out (2 ^ slot);
  count = next_number w;
  slots = slice_set w.slots slot (next_number w);
}

pub record Asks (old : ControllerState) (slot : ℕ) (result : Ask) (new : ControllerState) : Type 0 where
  pub is : result ≡ record { slot = slot; number = next_number old.wants; want = want_at old slot }
  pub rest : new ≡ record old { wants = asked old.wants slot }

-- ---- an answer

-- bytes are wanted for the slot under this number
abbrev pub is_asked : Wants → (slot number : ℕ) → Bool
is_asked w slot number = nat_lt slot 32 && has_bit w.out slot && (slice_index_or w.slots slot 0 == number)

abbrev pub Answers : ControllerState → ℕ → ControllerState → Type 0
Answers old slot new = new ≡ record old { wants = record old.wants { out = without old.wants.out (2 ^ slot) } }

abbrev pub answered : ControllerState → ℕ → ControllerState
answered c slot = record c { wants = record c.wants { out = without c.wants.out (2 ^ slot) } }

abbrev pub without_fetch : ControllerState → ℕ → ControllerState
without_fetch c slot = record c { fetches = slice_set c.fetches slot None }

abbrev pub with_fetch : ControllerState → ℕ → Fetching → ControllerState
with_fetch c slot f = record c { fetches = slice_set c.fetches slot (Some f) }

-- More is wanted, or the command is refused, or whole and then issued. Where memory is refused, the same is wanted again.
abbrev pub GoesOn : ControllerState → ℕ → Supplied → Supply → ControllerState → Type 0
GoesOn old slot (supplied.More f) result new = (new ≡ with_fetch old slot f) × (result ≡ answer.More)
GoesOn old slot (supplied.OutOfMemory f) result new = (new ≡ with_fetch old slot f) × (result ≡ answer.OutOfMemory)
GoesOn old slot (supplied.Refused r) result new = RefusesSlot old slot (why.Read r) result new
GoesOn old slot (supplied.Whole command) result new = IssuesSlot old slot command result new

pub record SuppliesSlot (old : ControllerState) (slot : ℕ) (bytes : List ℕ) (result : Supply) (new : ControllerState)
    : Type 0 where
  pub came : Supplied
  pub supplies : Supplies (fetch_of old slot) bytes came
  pub goes : GoesOn (without_fetch (answered old slot) slot) slot came result new

abbrev pub Stays : ControllerState → Supply → ControllerState → Type 0
Stays old result new = (new ≡ old) × (result ≡ answer.Stale)

abbrev pub SuppliesIf : Bool → ControllerState → ℕ → List ℕ → Supply → ControllerState → Type 0
SuppliesIf false old slot bytes result new = Stays old result new
SuppliesIf true old slot bytes result new = SuppliesSlot old slot bytes result new

-- these bytes are wanted, and no others
abbrev pub fits : ControllerState → (slot number : ℕ) → List ℕ → Bool
fits c slot number bytes = is_asked c.wants slot number && (length bytes == (want_at c slot).len)

abbrev pub AnswersTo : ControllerState → (slot number : ℕ) → List ℕ → Supply → ControllerState → Type 0
AnswersTo old slot number bytes result new = SuppliesIf (fits old slot number bytes) old slot bytes result new

abbrev pub MissesIf : Bool → ControllerState → ℕ → Supply → ControllerState → Type 0
MissesIf false old slot result new = Stays old result new
MissesIf true old slot result new =
    RefusesSlot (without_fetch (answered old slot) slot) slot (why.Read (missing_in old slot)) result new

abbrev pub Misses : ControllerState → (slot number : ℕ) → Supply → ControllerState → Type 0
Misses old slot number result new = MissesIf (is_asked old.wants slot number) old slot result new
