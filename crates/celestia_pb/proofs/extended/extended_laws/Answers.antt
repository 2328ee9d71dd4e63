use Rattle.celestia_pb.proofs.ExtendedLemmas.{extended_fields}
use Rattle.celestia_pb.proofs.ExtendedReading.{fields_extended}
use Rattle.celestia_pb.proofs.extended.extended_laws.Goals as goal

pub returns-clause-read : goal.returns-clause-read
returns-clause-read c = fields_extended

pub returns-clause-common : goal.returns-clause-common
returns-clause-common c = extended_fields
