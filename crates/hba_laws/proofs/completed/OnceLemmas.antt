-- For `delivers`. Each issue completes at most once.
use Rattle.std.proofs.Common.{ℕ, ◌+◌, ◌≤◌, Bool, true, false, cond, eqb, [], ◌∷◌, Option, Some, None, arith}
use Rattle.slots.specs.{Slots.match_some, declared.work.Work.Work}
use Rattle.hba_laws.specs.History.{CompletesOnce, Emptied, Issued, SentControl, Transfer, completes, completions, issued, unless}

-- what does not issue
completed_or_left : (n : ℕ) (o : Option Transfer) (test : Work → Bool) → n + match_some o 0 (λ t. 1) ≤ 1
    → match_some o 0 (λ t. cond (test t.work) 1 0) + n + match_some (match_some o None (λ t. unless (test t.work) (Some t))) 0 (λ t. 1) ≤ 1
completed_or_left n None test h = omega arith
completed_or_left n (Some t) test h = by_test (test t.work)
  where
    by_test : (b : Bool) → cond b 1 0 + n + match_some (unless b (Some t)) 0 (λ t. 1) ≤ 1
    by_test true = omega arith
    by_test false = omega arith

none_left : (n : ℕ) (o : Option Transfer) (b : Bool) → n + match_some o 0 (λ t. 1) ≤ 1
    → match_some o 0 (λ t. 0) + n + match_some (unless b o) 0 (λ t. 1) ≤ 1
none_left n None true h = omega arith
none_left n None false h = omega arith
none_left n (Some t) true h = omega arith
none_left n (Some t) false h = omega arith

pub completes_once : CompletesOnce
completes_once s [] = omega arith
completes_once s (Issued slot t ∷ past) = by_test (eqb slot s) (completes_once s past)
  where
    by_test : (b : Bool) → completions s past + match_some (issued s past) 0 (λ t. 1) ≤ 1
        → cond b 0 (completions s past) + match_some (cond b (Some t) (issued s past)) 0 (λ t. 1) ≤ 1
    by_test true h = omega arith
    by_test false h = h
completes_once s (SentControl slot ∷ past) = none_left (completions s past) (issued s past) (eqb slot s) (completes_once s past)
completes_once s (Emptied ∷ past) = none_left (completions s past) (issued s past) true (completes_once s past)
completes_once s (e ∷ past) = completed_or_left (completions s past) (issued s past) (completes s e past) (completes_once s past)
