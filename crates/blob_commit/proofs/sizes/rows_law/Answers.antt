use Rattle.std.proofs.Common.{subst, arith}
use Rattle.std.proofs.lemmas.List.Elements.{All-more}
use Rattle.namespace_id.proofs.ElementLemmas.{all_passed}
use Rattle.blob_commit.specs.Proofs.{IsRow}
use Rattle.blob_commit.proofs.sizes.rows_law.Goals as goal

pub loop-row-preserved : goal.loop-row-preserved
loop-row-preserved c = All-more IsRow c.args.rows.now c.loop-row.row-index c.row-item.result (omega arith) c.loop-row.invariant (subst IsRow c.row-item.is c.row_law.ensures)

pub returns : goal.returns
returns c = all_passed IsRow c.args.rows.now c.loop-row.row-index (omega arith) c.loop-row.invariant
