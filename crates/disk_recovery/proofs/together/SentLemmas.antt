-- For `pushes_serve_on`. A command that went out stays so while nothing is issued.
use Rattle.std.proofs.Common.{◌≡◌, ℕ, Bool, true, false, cond, eqb, [], ◌∷◌, ◌++◌, refl}
use Rattle.hba_laws.specs.{Client.{By, Touches, own}, History.{Event, History, Issued, Sent}, Between.{NoneIssues, NotIssue}}
use Rattle.disk_simulation.specs.Together.{is_sent}

sent_test : (s : ℕ) (past : History) (b : Bool) → is_sent s past ≡ true → cond b true (is_sent s past) ≡ true
sent_test s past true is = refl
sent_test s past false is = is

sent_event : (s : ℕ) (e : Event) (past : History) → NotIssue e → is_sent s past ≡ true → is_sent s (e ∷ past) ≡ true
unfolding NotIssue
sent_event s (Issued slot t) past none is = absurd none
sent_event s (Sent slot) past none is = sent_test s past (eqb slot s) is
sent_event s other past none is = is

pub sent_there : (n s : ℕ) (touches past : Touches) → NoneIssues touches → is_sent s (own n past) ≡ true → is_sent s (own n (touches ++ past)) ≡ true
unfolding NoneIssues
sent_there n s [] past none is = is
sent_there n s (By dev e ∷ rest) past none is = by_test (eqb dev n) (sent_there n s rest past none.1 is)
  where
    by_test : (b : Bool) → is_sent s (own n (rest ++ past)) ≡ true → is_sent s (cond b (e ∷ own n (rest ++ past)) (own n (rest ++ past))) ≡ true
    by_test true h = sent_event s e (own n (rest ++ past)) none.0 h
    by_test false h = h
sent_there n s (other ∷ rest) past none is = sent_there n s rest past none is
