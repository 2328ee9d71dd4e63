use Rattle.std.proofs.Common.{◌≡◌, ◌-◌, drop}
use Rattle.nmt_tree.specs.Roots.{is_ordered}
use Rattle.nmt_tree.proofs.roots.are_ordered.Given as goal

-- the namespaces from the one before on decide
abbrev pub invariant-loop-i : goal.invariant-loop-i
invariant-loop-i l = is_ordered (drop (l.i - 1) l.names) ≡ is_ordered l.names
