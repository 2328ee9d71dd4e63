use Rattle.std.proofs.Common.{◌≡◌, ◌<◌, ℕ, length, get_or}
use Rattle.axis_roots.specs.Trees.{no_tree}
use Rattle.blob_commit.specs.Making.{IsHeaderRowTree}
use Rattle.blob_commit.proofs.trees.row_trees.Given as goal

-- so many trees, each of its row
abbrev pub invariant-loop-row : goal.invariant-loop-row
invariant-loop-row l = record {
  number : length l.trees.items ≡ l.row;
  each : (row : ℕ) → row < l.row → IsHeaderRowTree l.header row (get_or l.trees.items row no_tree);
}
