use Rattle.blob_commit.proofs.ShapeLemmas.{shape_rows, shape_subtrees}
use Rattle.blob_commit.proofs.laws.shape_laws.Goals as goal

pub returns : goal.returns
returns c = record { rows = shape_rows; subtrees = shape_subtrees }
