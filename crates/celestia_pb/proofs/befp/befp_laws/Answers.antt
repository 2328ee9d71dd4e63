use Rattle.celestia_pb.proofs.BefpLemmas.{befp_is_read, read_is_befp}
use Rattle.celestia_pb.proofs.BefpFields.{befp_is_common, entry_is_common}
use Rattle.celestia_pb.proofs.ProofFields.{flagged_is_common}
use Rattle.celestia_pb.proofs.befp.befp_laws.Goals as goal

pub returns-clause-read : goal.returns-clause-read
returns-clause-read c = befp_is_read

pub returns-clause-spelled : goal.returns-clause-spelled
returns-clause-spelled c = read_is_befp

pub returns-clause-common : goal.returns-clause-common
returns-clause-common c = befp_is_common

pub returns-clause-entry_common : goal.returns-clause-entry_common
returns-clause-entry_common c = entry_is_common

pub returns-clause-proof_common : goal.returns-clause-proof_common
returns-clause-proof_common c = flagged_is_common
