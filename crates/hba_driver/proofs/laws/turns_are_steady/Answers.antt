use Rattle.std.proofs.Common.{inl, inr}
use Rattle.hba_driver.proofs.steady.{BesideLemmas.tick_beside, RowLemmas.{flush_row, opens_row, rows_stay}}
use Rattle.hba_driver.proofs.steady.SteadyTurns.{flush_steady, opens_steady, turn_steady}
use Rattle.hba_driver.proofs.laws.turns_are_steady.Goals as goal

pub returns : goal.returns
returns c = λ n. record {
  opens = λ given. opens_steady n given;
  flushed = λ old acted new does is. flush_steady n old acted new does is;
  stays = λ old turn new does calm h. (turn_steady n old turn new does calm h).steady;
  asks = λ old turn new does on calm h asked. elim ((turn_steady n old turn new does calm h).asks asked) [ inl was ↦ inl was | inr signs ↦ inr (signs on) ];
  opens_row = λ given len low signs. opens_row n given len low signs;
  flushed_row = λ old acted new low does s flush signs. flush_row n old acted new low does s flush signs;
  rows = λ old turn new low does s which signs. rows_stay n old turn new low does s which signs;
  events = λ old acted new run s bounded calm happens. tick_beside n old acted new run s bounded calm happens;
}
