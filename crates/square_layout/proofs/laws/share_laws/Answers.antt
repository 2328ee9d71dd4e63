use Rattle.square_layout.proofs.BlobLemmas.{ordered_are_blobs}
use Rattle.square_layout.proofs.ShareNameLemmas.{blob_shares_of-named, unit_shares_of-named, padding-named}
use Rattle.square_layout.proofs.ReadBackLemmas.{blobs_behind}
use Rattle.square_layout.proofs.laws.share_laws.Goals as goal

pub returns-clause-blobs : goal.returns-clause-blobs
returns-clause-blobs c = blob_shares_of-named

pub returns-clause-units : goal.returns-clause-units
returns-clause-units c = unit_shares_of-named

pub returns-clause-padding : goal.returns-clause-padding
returns-clause-padding c = padding-named

pub returns-clause-ordered : goal.returns-clause-ordered
returns-clause-ordered c = ordered_are_blobs c.blob_laws.ensures.few

pub returns-clause-behind : goal.returns-clause-behind
returns-clause-behind c = blobs_behind c.blob_laws.ensures.few
