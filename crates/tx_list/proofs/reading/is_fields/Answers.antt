use Rattle.std.specs.Option.{is_some}
use Rattle.proto_fields.specs.Fields.{fields_of}
use Rattle.tx_list.proofs.EntryLemmas.{same_test}
use Rattle.tx_list.proofs.reading.is_fields.Goals as goal

pub returns : goal.returns
returns c = same_test c.are_fields.result (is_some (fields_of c.args.bytes.now)) c.are_fields.ensures
