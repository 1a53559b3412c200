use Rattle.std.proofs.Common.{sym}
use Rattle.guest_fetch.specs.SavedCommands.{KeepsFetch, fetch_parts, is_fetching, of_fetch}
use Rattle.guest_fetch.proofs.CommandLemmas.{fetching_fits, fetching_is}
use Rattle.saved_state.specs.State.{parts_refused, rule_refused}
use Rattle.guest_fetch.proofs.fetch.saved.FetchSaved.restore.Goals as goal

pub returns-in-Err : goal.returns-in-Err
returns-in-Err c = parts_refused of_fetch.put of_fetch.keeps KeepsFetch fetch_parts (λ v k. k.0)
    c.args.words.now c.restore.new.words c.in-Err.error c.in-Err.ensures

pub returns-then-not-is_fetching : goal.returns-then-not-is_fetching
returns-then-not-is_fetching c = rule_refused of_fetch.put of_fetch.keeps KeepsFetch fetch_parts is_fetching of_fetch.apart
    (λ v k. k.0) fetching_fits c.args.words.now c.restore.new.words c.in-Ok.parts c.in-Ok.ensures (sym c.if-not-is_fetching.ensures)

pub invariant_of-result : goal.invariant_of-result
invariant_of-result c = fetching_is c.in-Ok.parts (sym c.if-not-is_fetching.ensures)

pub returns : goal.returns
returns c = (c.in-Ok.ensures.0, (c.in-Ok.ensures.1, fetching_is c.in-Ok.parts (sym c.if-not-is_fetching.ensures)))
