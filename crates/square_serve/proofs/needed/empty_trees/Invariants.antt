use Rattle.std.proofs.Common.{◌≡◌}
use Rattle.square_serve.specs.Needed.{empty_trees}
use Rattle.square_serve.proofs.needed.empty_trees.Given as goal

-- the trees so far
abbrev pub invariant-loop : goal.invariant-loop
invariant-loop l = l.trees.items ≡ empty_trees l.counter l.fn.count
