use Rattle.share_split.proofs.Reading.JoinLaws.{blobs_law, units_law}
use Rattle.share_split.proofs.joining.join_laws.Goals as goal

-- by the law on blobs
pub returns-clause-blobs : goal.returns-clause-blobs
returns-clause-blobs c = blobs_law

-- by the law on units
pub returns-clause-units : goal.returns-clause-units
returns-clause-units c = units_law
