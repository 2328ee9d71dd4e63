use Rattle.celestia_pb.proofs.IdLemmas.{sample_id_is_read, read_is_sample_id, namespace_id_is_read, read_is_namespace_id}
use Rattle.celestia_pb.proofs.ids.id_laws.Goals as goal

pub returns-clause-sample_read : goal.returns-clause-sample_read
returns-clause-sample_read c = sample_id_is_read

pub returns-clause-sample_spelled : goal.returns-clause-sample_spelled
returns-clause-sample_spelled c = read_is_sample_id

pub returns-clause-namespace_read : goal.returns-clause-namespace_read
returns-clause-namespace_read c = namespace_id_is_read

pub returns-clause-namespace_spelled : goal.returns-clause-namespace_spelled
returns-clause-namespace_spelled c = read_is_namespace_id
