use Rattle.share_split.proofs.Writing.BlobLaws.{length-blob_shares_of, blob_shares_are_shares, padding_is_share, few_shares_hold_a_sequence}
use Rattle.share_split.proofs.laws.blob_laws.Goals as goal

pub returns-clause-counted : goal.returns-clause-counted
returns-clause-counted c = length-blob_shares_of

pub returns-clause-shares : goal.returns-clause-shares
returns-clause-shares c = blob_shares_are_shares

pub returns-clause-padding : goal.returns-clause-padding
returns-clause-padding c = padding_is_share

pub returns-clause-few : goal.returns-clause-few
returns-clause-few c = few_shares_hold_a_sequence
