use Rattle.std.proofs.Common.{◌≡◌, map, take}
use Rattle.axis_roots.specs.Trees.{stored_root}
use Rattle.axis_roots.proofs.square.trees.roots_in.Given as goal

-- the roots of the trees so far
abbrev pub invariant-loop-tree : goal.invariant-loop-tree
invariant-loop-tree l = l.roots.items ≡ map stored_root (take l.tree-index l.trees)
