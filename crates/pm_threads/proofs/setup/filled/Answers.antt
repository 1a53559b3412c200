use Rattle.std.proofs.Common.{rules, ◌≡◌, ◌<◌, ◌-◌, ℕ, ◌+◌, length, get_or, take, Vec, Global, true, ap, subst, ◌∙◌}
use Rattle.std.specs.Prelude.{map}
use Rattle.host_memory.specs.Memory.{Memory, client_start, overwritten, zeroed}
use Rattle.pm_threads.specs.Setups.{lies_in, memory_of}
use Rattle.pm_threads.proofs.Puts.{filled_more, put_lies, still_long, zeros_long}
use Rattle.pm_threads.proofs.setup.filled.Goals as goal

abbrev P : Type 0
P = ℕ × Vec ℕ Global

pub loop-put-init : goal.loop-put-init
loop-put-init c =
    let is : c.in-Ok.memory ≡ zeroed c.args.len = search rules in
    (is, ap (λ (m : Memory). length m.client) is ∙ zeros_long (c.args.len - client_start))

pub loop-put-preserved : goal.loop-put-preserved
loop-put-preserved c =
    let i = c.loop-put.put-index in
    let m = c.loop-put.memory in
    let lt : c.loop-put.put-index < length c.args.puts.now = search rules in
    let item : get_or c.args.puts.now c.loop-put.put-index c.put-item.result ≡ c.put-item.result = search rules in
    let new : c.put_client.new.self
    ≡ record { structure = c.loop-put.memory.structure; client = overwritten c.loop-put.memory.client (c.put-item.result.0 - client_start) c.put-item.result.1.items } = search rules in
    let lies : lies_in c.args.len c.put-item.result.0 (length c.put-item.result.1.items) ≡ true =
    put_lies (λ (put : P). lies_in c.args.len put.0 (length put.1.items)) c.args.puts.now i c.put-item.result c.put-item.result lt item c.requires.puts in (
      new ∙ subst (λ (p : P). record { structure = m.structure; client = overwritten m.client (p.0 - client_start) p.1.items }
          ≡ memory_of c.args.len (map (λ (put : P). (put.0, put.1.items)) (take (i + 1) c.args.puts.now)))
          item (filled_more (λ (put : P). (put.0, put.1.items)) c.args.len c.args.puts.now i c.put-item.result m lt c.loop-put.invariant.0),
      ap (λ (x : Memory). length x.client) new
          ∙ still_long c.args.len c.put-item.result.0 c.put-item.result.1.items m.client c.loop-put.invariant.1 lies,
    )
