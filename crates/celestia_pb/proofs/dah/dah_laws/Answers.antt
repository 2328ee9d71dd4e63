use Rattle.celestia_pb.proofs.HeaderLemmas.{dah_is_read, read_is_dah, dah_is_common}
use Rattle.celestia_pb.proofs.dah.dah_laws.Goals as goal

pub returns-clause-read : goal.returns-clause-read
returns-clause-read c = dah_is_read

pub returns-clause-spelled : goal.returns-clause-spelled
returns-clause-spelled c = read_is_dah

pub returns-clause-common : goal.returns-clause-common
returns-clause-common c = dah_is_common
