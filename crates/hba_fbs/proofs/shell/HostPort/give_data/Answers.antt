use Rattle.std.proofs.Common.{◌≡◌, ℕ, List, true, sym, refl, ap, ◌∙◌}
use Rattle.std.specs.Prelude.{is_some}
use Rattle.fis_view.specs.{declared.frame.Stamp.Stamp, Frames.Stamped}
use Rattle.hba_fbs.specs.{declared.turn.Turn.TheVariants.Feeds, Sending.{data_fis, gathered, host_stamp, is_sent}, Turning.outgoing_at}
use Rattle.hba_fbs.proofs.SendLemmas.{data_given, data_sent, on_err}
use Rattle.hba_fbs.proofs.shell.HostPort.give_data.Goals as goal

pub returns-in_err-bytes-clause-refused : goal.returns-in_err-bytes-clause-refused
returns-in_err-bytes-clause-refused c =
    let there : is_some c.sound_table-found.result ≡ true = ap is_some c.in-Some.is in
    let sent : is_sent (outgoing_at c.args.self.now c.args.memory.now (Feeds c.args.dev c.args.slot c.args.offset c.args.len)) ≡ true =
    data_sent c.args.self.now c.args.dev c.args.slot c.args.offset c.args.len c.args.memory.now c.args.memory.now.structure c.args.memory.now.client true refl refl
    (rw (← c.self.view_is) (sym c.sound_table-found.ensures.sound ∙ there)) in
    on_err c.from_residual.result (refl, sent)

pub returns-clause-gives : goal.returns-clause-gives
returns-clause-gives c =
    let with_bytes : Stamp → Stamped = λ stamp. record { bytes = data_fis c.args.dev (gathered c.in-Some.table.prds c.args.offset c.args.len c.client.result.now); stamp = stamp } in
    data_given c.args.self.now c.args.dev c.args.slot c.args.offset c.args.len c.args.memory.now c.args.memory.now.structure c.client.result.now c.in-Some.table
    c.from_vec-frame.result c.went.new.self refl c.client.ensures.client
    (rw c.client.ensures.client (rw (← c.self.view_is) c.in-Some.ensures.table))
    (record {
      frame_is =
          rw (← c.self.view_is)
          (c.from_vec-frame.ensures ∙ ap (λ (bytes : List ℕ). record { bytes = bytes; stamp = c.stamp.result }) c.in_ok-bytes.ensures.bytes
          ∙ ap (λ (stamp : Stamp). with_bytes stamp) (c.stamp.ensures ∙ ap (host_stamp c.args.dev) c.number.ensures));
      own = rw (← c.self.view_is) c.went.ensures.own;
      others = rw (← c.self.view_is) c.went.ensures.others;
      registers = rw (← c.self.view_is) c.went.ensures.registers;
      errors = rw (← c.self.view_is) c.went.ensures.errors;
      commands = rw (← c.self.view_is) c.went.ensures.commands;
      number = rw (← c.self.view_is) c.went.ensures.number;
      active = rw (← c.self.view_is) c.went.ensures.active;
    })
