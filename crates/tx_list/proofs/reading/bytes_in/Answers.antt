use Rattle.std.proofs.Common.{◌≡◌}
use Rattle.proto_fields.specs.Fields.{fields_of, last_bytes}
use Rattle.tx_list.proofs.EntryLemmas.{fields_some, in_fields}
use Rattle.tx_list.proofs.reading.bytes_in.Goals as goal

pub last_bytes-requires : goal.last_bytes-requires
last_bytes-requires c = record { fields = fields_some c.args.bytes.now c.requires }

pub returns : goal.returns
returns c = in_fields (λ fields. c.last_bytes.result.now ≡ last_bytes c.args.number fields) (fields_of c.args.bytes.now) c.requires c.last_bytes.ensures
