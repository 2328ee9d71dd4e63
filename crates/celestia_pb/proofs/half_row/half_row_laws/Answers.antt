use Rattle.celestia_pb.proofs.HalfRowLemmas.{half_row_is_read, read_is_half_row, half_row_is_common}
use Rattle.celestia_pb.proofs.half_row.half_row_laws.Goals as goal

pub returns-clause-read : goal.returns-clause-read
returns-clause-read c = half_row_is_read

pub returns-clause-spelled : goal.returns-clause-spelled
returns-clause-spelled c = read_is_half_row

pub returns-clause-common : goal.returns-clause-common
returns-clause-common c = half_row_is_common
