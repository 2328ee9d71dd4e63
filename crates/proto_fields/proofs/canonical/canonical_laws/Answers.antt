use Rattle.proto_fields.proofs.CanonicalLemmas.{number_is_read, read_is_number, bytes_are_read, read_are_bytes, part_read_back, read_is_part_field, number_is_common, bytes_are_common, part_is_common}
use Rattle.proto_fields.proofs.canonical.canonical_laws.Goals as goal

pub returns-clause-number : goal.returns-clause-number
returns-clause-number c = number_is_read

pub returns-clause-bytes : goal.returns-clause-bytes
returns-clause-bytes c = bytes_are_read

pub returns-clause-part : goal.returns-clause-part
returns-clause-part c = part_read_back

pub returns-clause-number_back : goal.returns-clause-number_back
returns-clause-number_back c = read_is_number

pub returns-clause-bytes_back : goal.returns-clause-bytes_back
returns-clause-bytes_back c = read_are_bytes

pub returns-clause-part_back : goal.returns-clause-part_back
returns-clause-part_back c = read_is_part_field

pub returns-clause-number_common : goal.returns-clause-number_common
returns-clause-number_common c = number_is_common

pub returns-clause-bytes_common : goal.returns-clause-bytes_common
returns-clause-bytes_common c = bytes_are_common

pub returns-clause-part_common : goal.returns-clause-part_common
returns-clause-part_common c = part_is_common
