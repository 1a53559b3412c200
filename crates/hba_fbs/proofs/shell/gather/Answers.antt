use Rattle.std.proofs.{Common.{◌++◌, ℕ, List, length, ap, arith, refl, sym, ◌∙◌}, lemmas.List.{append_assoc, append-nil}}
use Rattle.std.specs.List.{concat}
use Rattle.hba_fbs.specs.Sending.{data_fis}
use Rattle.hba_fbs.proofs.SendLemmas.{gathered_is}
use Rattle.hba_fbs.proofs.shell.gather.Goals as goal

pub loop-part-init : goal.loop-part-init
loop-part-init c = rw c.in_ok-bytes.ensures refl

pub loop-part-preserved : goal.loop-part-preserved
loop-part-preserved c =
    ap (λ (l : List ℕ). l ++ concat c.next.new.self) c.in_ok-extend_from_slice.ensures.items
    ∙ append_assoc c.loop-part.bytes.items c.in-Some.part.now (concat c.next.new.self)
    ∙ ap (λ (parts : List (List ℕ)). c.loop-part.bytes.items ++ concat parts) (sym c.in-Some.ensures.steps)
    ∙ c.loop-part.invariant

-- nothing is left, so the whole is behind the head
pub returns-clause-bytes : goal.returns-clause-bytes
returns-clause-bytes c =
    let dev = c.args.dev in
    let all = sym (append-nil c.loop-part.bytes.items) ∙ ap (λ (parts : List (List ℕ)). c.loop-part.bytes.items ++ concat parts) (sym c.in-None.ensures.steps.0) ∙ c.loop-part.invariant in
    let whole = ap concat c.into_iter-part-iterator.ensures.into_iter_gives ∙ gathered_is _ _ _ _ _ c.parts-part-items.ensures in
    all ∙ ap (data_fis dev) whole

pub returns-clause-len : goal.returns-clause-len
returns-clause-len c =
    let all = sym (append-nil c.loop-part.bytes.items) ∙ ap (λ (parts : List (List ℕ)). c.loop-part.bytes.items ++ concat parts) (sym c.in-None.ensures.steps.0) ∙ c.loop-part.invariant in
    let long = ap length (ap concat c.into_iter-part-iterator.ensures.into_iter_gives) ∙ c.parts-part-items.ensures.as_long in
    omega (arith, ap length all, long)
