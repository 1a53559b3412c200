-- What a move asks of the caller.
use Rattle.std.specs.Prelude.{Option, Some, None}
use Rattle.ahci_controller.specs.declared.{fetching.Ask.Ask, next.Next.Next}
use Rattle.ahci_controller.specs.declared.next.Next.TheVariants as next
use Rattle.ahci_machine.specs.declared.{act.Act.Act, request.{GuestRead.GuestRead, Request.Request, Wanted.TheVariants.Command}}
use Rattle.ahci_machine.specs.declared.act.Act.TheVariants as act
use Rattle.ahci_machine.specs.declared.request.Request.TheVariants as request

-- bytes of a command
abbrev pub read_of : Ask → GuestRead
read_of a = record { wanted = Command a.slot a.number; at = a.want.at; len = a.want.len }

-- bytes to the guest, from an address on
abbrev pub written_by : Next → Option Request
written_by (next.Payload m) = Some (request.WriteGuest m.at)
written_by (next.Posted m) = Some (request.WriteGuest m.at)
written_by (next.Counted c) = Some (request.WriteGuest c.at)
written_by other = None

abbrev pub done_by : Next → Option Request
done_by (next.Read ask) = Some (request.ReadGuest (read_of ask))
done_by other = None

abbrev pub request_of : Act → Option Request
request_of act.Rests = Some request.Nothing
request_of (act.Writes write) = written_by write
request_of (act.Line line) = Some (request.Line line)
request_of act.Message = Some request.Message
request_of (act.Does said) = done_by said
request_of (act.Wants read) = Some (request.ReadGuest read)
request_of (act.Begins port) = Some (request.Begins port)
request_of (act.Points port) = Some (request.ToDevice port)
request_of (act.Asks id asked) = Some (request.Medium id asked.place asked.what)
request_of other = None
