use Rattle.std.proofs.Common.{◌∙◌, sym}
use Rattle.light_node.proofs.DistinctLemmas.{found_listed, listed_found}
use Rattle.light_node.proofs.marks.is_unmarked_in.Goals as goal

-- a cell that is found in the set is in its list
pub returns-then-not-is_marked : goal.returns-then-not-is_marked
returns-then-not-is_marked c = (
  λ found. record {
    inside = c.requires.cell;
    listed = found_listed c.args.cells.now.keys c.args.cell (sym c.contains.ensures ∙ found);
    unmarked = sym c.is_marked.ensures ∙ c.if-not-is_marked.true;
  },
  λ is. c.contains.ensures ∙ listed_found c.args.cells.now.keys c.args.cell is.listed,
)
