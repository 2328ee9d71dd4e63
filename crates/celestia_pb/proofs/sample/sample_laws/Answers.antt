use Rattle.celestia_pb.proofs.SampleLemmas.{sample_is_read, read_is_sample, sample_is_common, share_is_common}
use Rattle.celestia_pb.proofs.ProofFields.{proof_is_common}
use Rattle.celestia_pb.proofs.sample.sample_laws.Goals as goal

pub returns-clause-read : goal.returns-clause-read
returns-clause-read c = sample_is_read

pub returns-clause-spelled : goal.returns-clause-spelled
returns-clause-spelled c = read_is_sample

pub returns-clause-common : goal.returns-clause-common
returns-clause-common c = sample_is_common

pub returns-clause-share_common : goal.returns-clause-share_common
returns-clause-share_common c = share_is_common

pub returns-clause-proof_common : goal.returns-clause-proof_common
returns-clause-proof_common c = proof_is_common
