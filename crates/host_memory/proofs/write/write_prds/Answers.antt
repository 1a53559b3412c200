use Rattle.std.proofs.{Common.{◌≡◌, ℕ, drop, ◌+◌, ◌-◌, ◌*◌, ◌<◌, ◌++◌, List, [], ◌∷◌, length, take, get_or, arith, ap, ◌∙◌}, lemmas.List.take_more}
use Rattle.std.proofs.lemmas.List.{length-take-le, take_all}
use Rattle.host_memory.specs.{declared.table.Prd.Prd, Memory.overwritten, Writing.{entry_bytes, table_bytes, CanBeWritten, IsUsable}}
use Rattle.host_memory.proofs.WriteLemmas.{entry_written, entries_more, prds_read, table_usable, drop_overwritten, nothing_written, all_by_recursion}
use Rattle.host_memory.proofs.write.write_prds.Goals as goal

pub loop-i-init : goal.loop-i-init
loop-i-init c = record { written = nothing_written c.args.structure.now c.args.at; entries = tt }

pub loop-i-preserved : goal.loop-i-preserved
loop-i-preserved c =
    let prds = c.args.prds.now in
    let i = c.loop-i.i in
    let prd = get_or prds i (record { address = 0; bytes = 0 }) in
    let below : i < length prds = c.loop-i-test.true in
    let long : length (take i prds) ≡ i = length-take-le i prds (omega arith) in
    let more : take (i + 1) prds ≡ take i prds ++ prd ∷ [] = take_more prds i (record { address = 0; bytes = 0 }) below in
    let fits : CanBeWritten prd = c.requires.counts i (record { address = 0; bytes = 0 }) below in
    let bytes = c.copy_from_slice.new.self in
    let written : bytes ≡ entry_bytes prd = c.copy_from_slice.ensures.after ∙ c.entry.ensures.bytes in
    let step = entry_written c.args.structure.now c.loop-i.structure c.args.at (c.args.at + 16 * i + 16 - (c.args.at + 16 * i)) (take i prds) prd bytes c.loop-i.invariant.written (omega (arith, long, c.requires.room)) written (omega arith) in
    record {
      written = rw (more) (rw long at step);
      entries = rw (more) (entries_more (take i prds) prd c.loop-i.invariant.entries (fits, c.entry.ensures.small));
    }

pub returns-clause-reads : goal.returns-clause-reads
returns-clause-reads c =
    let prds = c.args.prds.now in
    let all : take c.loop-i.i prds ≡ prds = take_all c.loop-i.i prds c.loop-i-test.false in
    let written : c.loop-i.structure ≡ overwritten c.args.structure.now c.args.at (table_bytes prds) = c.loop-i.invariant.written ∙ ap (λ (xs : List Prd). overwritten c.args.structure.now c.args.at (table_bytes xs)) all in
    prds_read c.loop-i.structure c.args.at prds _ (rw all at c.loop-i.invariant.entries) (ap (λ (xs : List ℕ). drop c.args.at xs) written ∙ drop_overwritten c.args.structure.now c.args.at (table_bytes prds) (omega (arith, c.requires.room)))

pub returns-clause-readable : goal.returns-clause-readable
returns-clause-readable c client_len usable apart few =
    let prds = c.args.prds.now in
    let all : take c.loop-i.i prds ≡ prds = take_all c.loop-i.i prds c.loop-i-test.false in
    let written : c.loop-i.structure ≡ overwritten c.args.structure.now c.args.at (table_bytes prds) = c.loop-i.invariant.written ∙ ap (λ (xs : List Prd). overwritten c.args.structure.now c.args.at (table_bytes xs)) all in
    let long : length c.loop-i.structure ≡ length c.args.structure.now = c.loop-i.auto.structure in
    table_usable c.loop-i.structure client_len c.args.at prds _ (rw all at c.loop-i.invariant.entries) (all_by_recursion (IsUsable client_len) prds usable) apart few (omega (arith, long, c.requires.room)) (ap (λ (xs : List ℕ). drop c.args.at xs) written ∙ drop_overwritten c.args.structure.now c.args.at (table_bytes prds) (omega (arith, c.requires.room)))
