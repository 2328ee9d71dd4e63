use Rattle.std.proofs.Common.{◌≡◌, map, take}
use Rattle.axis_roots.specs.Partials.{rooted}
use Rattle.axis_roots.proofs.message.partials.trees_under.Given as goal

-- the trees so far
abbrev pub invariant-loop-root : goal.invariant-loop-root
invariant-loop-root l = l.trees.items ≡ map (rooted l.n) (take l.root-index l.roots)
