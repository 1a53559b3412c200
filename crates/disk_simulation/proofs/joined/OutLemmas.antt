-- For `fises_are_heard_as_told`. A PIO Setup of a disk is towards the host, so it is none for a PIO data-out.
use Rattle.std.proofs.Common.{◌≡◌, ◌==◌, ℕ, Bool, true, false, List, [], ◌∷◌, refl, sym, ap, ◌∙◌, Option, Some, None, Err, Result}
use Rattle.std.specs.{Prelude.if◌then◌else◌, Option.option_or}
use Rattle.std.proofs.lemmas.Bool.{true≢false}
use Rattle.fis_view.specs.Table.{D, Pio, field}
use Rattle.slots.specs.Setup.{came, context_or, dma_context, long_fault, out_context, out_setup, transfer_fault}
use Rattle.slots.specs.{Slots.{DeviceSlots, Issue, holds, is_out_issue, match_some, own_issue, waiting}, Work.{is_dma, is_out, is_read}}
use Rattle.slots.specs.declared.{answer.SetupError.{SetupError, TheVariants.{NotOutstanding, WrongWay}}, table.Context.Context}
use Rattle.slots.specs.declared.work.Kind.{Kind, TheVariants.PioOut}
use Rattle.disk_model.specs.{Laws.ShowsFirst, Ledger.{Reply, ShowsPage}}
use Rattle.hba_laws.specs.{Delivering.begun_by, History.SetUp}

pub pio_up : (xs : List Reply) (f : List ℕ) → ShowsFirst xs f → (field Pio D f == 1) ≡ true
pio_up [] f shows = absurd shows
pio_up (ShowsPage ∷ xs) f shows = ap (λ (n : ℕ). n == 1) shows.1
pio_up other f shows = absurd shows

out_down : (k : Kind) → is_out k ≡ true → is_read k ≡ false
out_down PioOut h = refl
out_down k h = absurd (true≢false (sym h))

-- nothing is set up at the sending of a command that has no data, or a setup for it
pub begun_none : (slot : ℕ) (o : Option Issue) (i : Issue) → o ≡ Some i → is_dma i.work.kind ≡ false → begun_by slot o ≡ []
begun_none slot o i at plain =
    ap (begun_by slot) at ∙ ap (λ (b : Bool). if b then SetUp slot 0 i.work.len (is_read i.work.kind) ∷ [] else []) plain

-- a setup is refused
pub record IsRefused (r : Result Context SetupError) : Type 0 where
  pub error : SetupError
  pub is : r ≡ Err error

wrong_way : (i : Issue) (o count : ℕ) → is_read i.work.kind ≡ false → transfer_fault i o count true ≡ Some WrongWay
wrong_way i o count down = rw down refl

refused_context : (slot count : ℕ) (i : Issue) → is_read i.work.kind ≡ false → out_context slot count true i ≡ Err WrongWay
refused_context slot count i down =
    ap (λ (e : Option SetupError). context_or (option_or e (long_fault count)) (dma_context slot (came i) count false true))
    (wrong_way i (came i) count down)

pub never_out : (own : DeviceSlots) (count : ℕ) → IsRefused (out_setup own count true)
never_out own count = by_waiting (waiting own)
  where
    by_issue : (slot : ℕ) (o : Option Issue) → holds is_out_issue o ≡ true → IsRefused (match_some o (Err NotOutstanding) (out_context slot count true))
    by_issue slot None out = record { error = NotOutstanding; is = refl }
    by_issue slot (Some i) out = record { error = WrongWay; is = refused_context slot count i (out_down i.work.kind out) }

    by_out : (slot : ℕ) (b : Bool) → holds is_out_issue (own_issue own slot) ≡ b
        → IsRefused (match_some (if b then Some slot else None) (Err NotOutstanding) (λ s. match_some (own_issue own s) (Err NotOutstanding) (out_context s count true)))
    by_out slot true is = by_issue slot (own_issue own slot) is
    by_out slot false is = record { error = NotOutstanding; is = refl }

    by_waiting : (o : Option ℕ) → IsRefused (match_some (match_some o None (λ slot. if holds is_out_issue (own_issue own slot) then Some slot else None))
        (Err NotOutstanding) (λ s. match_some (own_issue own s) (Err NotOutstanding) (out_context s count true)))
    by_waiting None = record { error = NotOutstanding; is = refl }
    by_waiting (Some slot) = by_out slot (holds is_out_issue (own_issue own slot)) refl

pub refuses_up : (own : DeviceSlots) (count : ℕ) (to_host : Bool) → to_host ≡ true → IsRefused (out_setup own count to_host)
refuses_up own count to_host up =
    let r : IsRefused (out_setup own count true) = never_out own count in
    record { error = r.error; is = ap (out_setup own count) up ∙ r.is }
