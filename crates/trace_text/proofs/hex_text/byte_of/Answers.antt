use Rattle.std.proofs.Common.{ap}
use Rattle.std.specs.Prelude.{is_err}
use Rattle.trace_text.proofs.HexTextLemmas.{byte_read, no_byte_read}
use Rattle.trace_text.proofs.hex_text.byte_of.Goals as goal

pub returns-in-Ok-clause-value : goal.returns-in-Ok-clause-value
returns-in-Ok-clause-value c = byte_read c.args.high c.args.low c.decode_to_slice.result c.decode_to_slice.new.out c.decode_to_slice.ensures.value c.in-Ok.is

pub returns-in-Err-clause-bad_hex : goal.returns-in-Err-clause-bad_hex
returns-in-Err-clause-bad_hex c _ = no_byte_read c.args.high c.args.low c.decode_to_slice.result c.decode_to_slice.new.out c.decode_to_slice.ensures.value (ap is_err c.in-Err.is)
