use Rattle.blob_commit.proofs.PlaceLemmas.{axis_leaf}
use Rattle.blob_commit.proofs.laws.place_laws.Goals as goal

pub returns : goal.returns
returns c = record { axis = axis_leaf }
