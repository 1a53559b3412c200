use Rattle.std.proofs.Common.{◌≡◌, length, List, ℕ, refl, sym, ap, ◌∙◌, arith, inl, inr}
use Rattle.host_memory.specs.Memory.{overwritten, zeros}
use Rattle.hba_commands.specs.{Headers.header_place, Requests.request_of, Writing.{command_table, header_bytes, header_for}}
use Rattle.hba_commands.specs.declared.request.Request.{Request}
use Rattle.hba_commands.proofs.{PutLemmas.{ArePuts, puts_all, puts_cfis, puts_header, puts_prds}, RequestLemmas.{built_long, built_request}}
use Rattle.hba_commands.proofs.BackLemmas.{total_back}
use Rattle.hba_commands.proofs.write.put_command.Goals as goal

pub returns : goal.returns
unfolding zeros
returns c =
    let fields = c.args.fields in
    let prds = c.args.prds.now in
    let place = header_place c.args.clb c.args.slot in
    let header = header_for (request_of fields) c.args.table (length prds) in
    let cfis = c.bytes.result in
    let old = c.args.structure.now in
    let new = c.write_prds.new.structure in
    let head : c.header-head.result ≡ header_bytes header = c.header-head.ensures ∙ ap (λ (r : Request). header_bytes (header_for r c.args.table (length prds))) c.of.ensures in
    let puts : ArePuts place c.args.table header cfis prds old c.put.new.structure c.put-2.new.structure c.put-3.new.structure new = record {
      first = c.put.ensures ∙ ap (overwritten old place) head;
      second = c.put-2.ensures;
      third = c.put-3.ensures;
      fourth = c.write_prds.ensures.written;
      cfis_long = built_long fields cfis c.bytes.ensures;
      room = omega arith;
      room_table = omega arith;
      apart = elim c.requires.room.apart [ inl below ↦ inl (omega arith) | inr above ↦ inr (omega arith) ];
    } in
    let at = puts_cfis place c.args.table header cfis prds old c.put.new.structure c.put-2.new.structure c.put-3.new.structure new puts in
    record {
      bytes = puts_all place c.args.table header cfis prds old c.put.new.structure c.put-2.new.structure c.put-3.new.structure new puts ∙ ap (λ (f : List ℕ). overwritten (overwritten old place (header_bytes header)) c.args.table (command_table f prds)) (sym at);
      header = puts_header place c.args.table header cfis prds old c.put.new.structure c.put-2.new.structure c.put-3.new.structure new puts (record { prdtl = omega arith; pmp = omega arith; clear = refl; cfl = omega arith; ctba = omega arith; ctbau = refl });
      cfis = rw at c.bytes.ensures;
      request = rw at (built_request fields cfis c.bytes.ensures (record { command = omega arith; features = omega arith; count = omega arith }));
      entries = c.write_prds.ensures.reads;
      total = λ len. total_back new len c.args.table prds _ c.requires.few (omega arith) c.write_prds.ensures.reads (puts_prds place c.args.table header cfis prds old c.put.new.structure c.put-2.new.structure c.put-3.new.structure new puts);
    }
