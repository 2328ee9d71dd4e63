use Rattle.celestia_pb.proofs.OdsLemmas.{ods_is_read, read_is_ods}
use Rattle.celestia_pb.proofs.ods.ods_laws.Goals as goal

pub returns-clause-read : goal.returns-clause-read
returns-clause-read c = ods_is_read

pub returns-clause-spelled : goal.returns-clause-spelled
returns-clause-spelled c = read_is_ods
