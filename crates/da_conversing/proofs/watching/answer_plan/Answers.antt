use Rattle.namespace_id.specs.Cells.{is_in_square}
use Rattle.namespace_id.proofs.RoomLemmas.{all_each}
use Rattle.light_node.proofs.ListLemmas.{listed_at}
use Rattle.da_conversing.proofs.watching.answer_plan.Goals as goal

-- each number has a cell, which is one of the square
pub answer_picked-requires-clause-picker : goal.answer_picked-requires-clause-picker
answer_picked-requires-clause-picker g c = λ number below. (
  below,
  λ cell here.
      all_each (is_in_square c.args.header.now.k) c.args.cells.now c.requires.inside cell (listed_at c.args.cells.now number cell here),
)
