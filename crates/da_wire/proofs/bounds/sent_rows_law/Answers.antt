use Rattle.std.proofs.Common.{subst, arith}
use Rattle.std.proofs.lemmas.List.Elements.{All-more}
use Rattle.namespace_id.proofs.ElementLemmas.{all_passed}
use Rattle.frame_payloads.specs.kinds.Commit.{IsRowSent}
use Rattle.da_wire.proofs.bounds.sent_rows_law.Goals as goal

pub loop-row-preserved : goal.loop-row-preserved
loop-row-preserved c = All-more IsRowSent c.args.rows.now c.loop-row.row-index c.row-item.result (omega arith) c.loop-row.invariant (subst IsRowSent c.row-item.is c.sent_row_law.ensures)

pub returns : goal.returns
returns c = all_passed IsRowSent c.args.rows.now c.loop-row.row-index (omega arith) c.loop-row.invariant
