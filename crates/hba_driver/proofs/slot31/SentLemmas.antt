-- For `orders_take_turns`. A command that moves no data of its own accord goes out: of its device only its slot changes.
use Rattle.std.proofs.{Common.{◌≡◌, ℕ, Bool, true, false, ap, refl, ◌∙◌, Option, Some, None}, lemmas.Bool.{true≢false}}
use Rattle.std.specs.Prelude.{if◌then◌else◌}
use Rattle.slots.specs.{Commands.with_sent, Setup.{begun, whole_context, with_own_context}, Slots.{DeviceSlots, Issue, match_some, own_issue}}
use Rattle.slots.specs.{Work.{is_dma, needs_all}, declared.work.Kind.{Kind, TheVariants.{DmaIn, DmaOut}}}

pub no_dma : (k : Kind) → needs_all k ≡ false → is_dma k ≡ false
no_dma DmaIn h = absurd (true≢false h)
no_dma DmaOut h = absurd (true≢false h)
no_dma k h = refl

-- the device's part after it, unless it is a Control
abbrev pub gone : DeviceSlots → ℕ → DeviceSlots
gone own slot = match_some (own_issue own slot) (with_sent own slot) (λ issue. begun slot issue.work (with_sent own slot))

pub gone_plain : (own : DeviceSlots) (slot : ℕ) (i : Issue) → own_issue own slot ≡ Some i → is_dma i.work.kind ≡ false → gone own slot ≡ with_sent own slot
gone_plain own slot i there plain =
    ap (λ (o : Option Issue). match_some o (with_sent own slot) (λ issue. begun slot issue.work (with_sent own slot))) there
    ∙ ap (λ (b : Bool). if b then with_own_context (with_sent own slot) (whole_context slot i.work) else with_sent own slot) plain
