use Rattle.blob_commit.proofs.BlobRangeLemmas.{blob_range, blob_shares_in}
use Rattle.blob_commit.proofs.laws.range_laws.Goals as goal

pub returns : goal.returns
returns c = record {
  range = blob_range c.blob_laws.ensures.counted c.start_laws.ensures.stands c.size_laws.ensures.square
      c.start_laws.ensures.aligned;
  shares = blob_shares_in c.blob_laws.ensures.counted c.start_laws.ensures.stands;
}
