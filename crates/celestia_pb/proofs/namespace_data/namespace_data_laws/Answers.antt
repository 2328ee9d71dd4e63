use Rattle.celestia_pb.proofs.NamespaceDataLemmas.{namespace_data_is_read, read_is_namespace_data}
use Rattle.celestia_pb.proofs.namespace_data.namespace_data_laws.Goals as goal

pub returns-clause-read : goal.returns-clause-read
returns-clause-read c = namespace_data_is_read

pub returns-clause-spelled : goal.returns-clause-spelled
returns-clause-spelled c = read_is_namespace_data
