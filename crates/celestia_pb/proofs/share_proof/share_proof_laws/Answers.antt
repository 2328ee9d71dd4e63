use Rattle.celestia_pb.proofs.ShareProofLemmas.{share_proof_is_read, read_is_share_proof}
use Rattle.celestia_pb.proofs.ShareProofFields.{share_proof_is_common, share_path_is_common, rooted_row_is_common, row_path_is_common}
use Rattle.celestia_pb.proofs.share_proof.share_proof_laws.Goals as goal

pub returns-clause-read : goal.returns-clause-read
returns-clause-read c = share_proof_is_read

pub returns-clause-spelled : goal.returns-clause-spelled
returns-clause-spelled c = read_is_share_proof

pub returns-clause-common : goal.returns-clause-common
returns-clause-common c = share_proof_is_common

pub returns-clause-path_common : goal.returns-clause-path_common
returns-clause-path_common c = share_path_is_common

pub returns-clause-row_common : goal.returns-clause-row_common
returns-clause-row_common c = rooted_row_is_common

pub returns-clause-root_common : goal.returns-clause-root_common
returns-clause-root_common c = row_path_is_common
