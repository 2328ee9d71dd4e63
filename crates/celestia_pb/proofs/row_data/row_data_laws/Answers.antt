use Rattle.celestia_pb.proofs.RowDataLemmas.{row_is_read, read_is_row}
use Rattle.celestia_pb.proofs.RowDataFields.{row_is_common}
use Rattle.celestia_pb.proofs.RowProofFields.{row_proof_is_common}
use Rattle.celestia_pb.proofs.row_data.row_data_laws.Goals as goal

pub returns-clause-read : goal.returns-clause-read
returns-clause-read c = row_is_read

pub returns-clause-spelled : goal.returns-clause-spelled
returns-clause-spelled c = read_is_row

pub returns-clause-common : goal.returns-clause-common
returns-clause-common c = row_is_common

pub returns-clause-proof_common : goal.returns-clause-proof_common
returns-clause-proof_common c = row_proof_is_common
