-- What is asked next, by whom.
use Rattle.std.proofs.Common.{◌≡◌, ℕ, true, false, Some, None, sym, ap, inl, inr, ◌⊎◌, ◌≤◌}
use Rattle.std.specs.Prelude.{Option, IfSome, IfNone, ◌^◌, is_none, if◌then◌else◌}
use Rattle.block_command.specs.{declared.answer.AnswerError.AnswerError, Laws.{Stores, Flushes}}
use Rattle.block_queue.specs.Line.{IsOldest, Line, PassesNowhere, command_at, line_refusal}
use Rattle.block_scheduler.specs.Sets.{asks_at}
use Rattle.block_engine.specs.{declared.request.Request.Request, Engine.{EngineState, IsRequested, aside_asked, aside_what, done_of, line, may_ask}}
use Rattle.block_engine.specs.Engine.{place_asked, what_at}

pub place_asks : (old new : EngineState) (result : Option Request) (p : ℕ) → IsOldest (line old).ranks (asks_at (line old)) p
    → IfSome result (λ r. r.number ≡ (line old).queue.next) → IfSome result (λ r. r.place ≡ Some p)
    → IfSome result (λ r. r.what ≡ what_at (command_at (line old) p)) → IfSome result (λ r. new ≡ place_asked old p)
    → IfNone result ((2 ^ 63 ≤ (line old).queue.next) × (new ≡ old)) → IsRequested old new result
place_asks old new None p oldest number place what asked none = (none.1, inl none.0)
place_asks old new (Some r) p oldest number place what asked none = (number, rw place (oldest, asked, what))

worn_or_not : (old : EngineState) → (may_ask old ≡ false) ⊎ (2 ^ 63 ≤ (line old).queue.next) → PassesNowhere (asks_at (line old))
    → (2 ^ 63 ≤ (line old).queue.next) ⊎ ((may_ask old ≡ false) × PassesNowhere (asks_at (line old)))
worn_or_not old (inl not') nowhere = inr (not', nowhere)
worn_or_not old (inr worn) nowhere = inl worn

pub aside_asks : (old new : EngineState) (result : Option Request) → PassesNowhere (asks_at (line old))
    → IfSome result (λ r. r.number ≡ (line old).queue.next) → IfSome result (λ r. r.place ≡ None)
    → IfSome result (λ r. r.what ≡ aside_what old.kind) → IfSome result (λ r. may_ask old ≡ true)
    → IfSome result (λ r. new ≡ aside_asked old)
    → IfNone result ((may_ask old ≡ false) ⊎ (2 ^ 63 ≤ (line old).queue.next)) → IfNone result (new ≡ old) → IsRequested old new result
aside_asks old new None nowhere number place what may asked none same = (same, worn_or_not old none nowhere)
aside_asks old new (Some r) nowhere number place what may asked none same = (number, rw place (nowhere, may, asked, what))

pub done_stores : (l : Line) (p number : ℕ) → None ≡ line_refusal l p number Stores → done_of l p number ≡ Stores
done_stores l p number e = ap (λ x. if is_none x then Stores else Flushes) (sym e)

pub done_flushes : (l : Line) (p number : ℕ) (x : AnswerError) → Some x ≡ line_refusal l p number Stores → done_of l p number ≡ Flushes
done_flushes l p number x e = ap (λ x. if is_none x then Stores else Flushes) (sym e)
